-- What a journal's sink holds, as the text of one history.
use Rattle.std.proofs.Common.{◌≡◌, ℕ, ◌-◌, List, [], ◌∷◌, ◌++◌, length, take, drop, Option, Some, None, refl, sym, ap, ◌∙◌, subst, arith, length-append, append_assoc, append-nil}
use Rattle.std.proofs.Math.Logic.{∥∥₁_elim}
use Rattle.std.proofs.Props.{props}
use Rattle.std.proofs.lemmas.List.{take_at, take-append-drop}
use Rattle.isis_edge.specs.Told.{Wrote, WrotePrefix}
use Rattle.isis_edge.proofs.ToldLemmas.{Wrote-more}
use Rattle.circuit_threads.specs.declared.entry.JournalEntry.{JournalEntry}
use Rattle.circuit_threads.specs.declared.entry.Note.{Note}
use Rattle.circuit_threads.specs.History.{entries, appended, marked}
use Rattle.circuit_threads.specs.Told.{WroteBehind, WroteTold, told_of}
use Rattle.circuit_threads.specs.JournalText.{head_text, entry_text, entries_text, journal_text}
use Rattle.circuit_serve.proofs.Histories.{all_appended}

-- ---- what is told behind a truncation

wrote_prop : (a b : List ℕ) (t : List ℕ) → IsProp (Wrote a b t)
wrote_prop a b t = hlevel props

pub wrote_told : (a b : List ℕ) (t : List ℕ) → ∥ Wrote a b t ∥₁ → Wrote a b t
wrote_told a b t told = ∥∥₁_elim told (wrote_prop a b t) (λ w. w)

-- a prefix is what stands behind what was held
cut_off : (held now text : List ℕ) → WrotePrefix held now text → now ≡ held ++ take (length now - length held) text
cut_off held now text w =
    let is : now ≡ held ++ w.written = w.wrote in
    let size : length now - length held ≡ length w.written = (let e = ap length is in let f = length-append held w.written in omega (arith, e, f)) in
    is ∙ ap (λ (z : List ℕ). held ++ z) (sym (ap (λ (n : ℕ). take n text) size ∙ ap (take (length w.written)) (sym w.joined) ∙ take_at w.written w.rest (length w.written) refl))

pub prefix_told : (held now text : List ℕ) → ∥ WrotePrefix held now text ∥₁ → WrotePrefix held now text
prefix_told held now text told =
    let prop : IsProp (now ≡ held ++ take (length now - length held) text) = hlevel props in
    let is = ∥∥₁_elim told prop (cut_off held now text) in
    record { written = take (length now - length held) text; rest = drop (length now - length held) text; wrote = is; joined = take-append-drop (length now - length held) text }

-- ---- the text of a history

pub prefix_all : (a b : List ℕ) (t : List ℕ) → Wrote a b t → WrotePrefix a b t
prefix_all a b t w = record { written = t; rest = []; wrote = w; joined = append-nil t }

-- one entry more
text_more : (es : List JournalEntry) (e : JournalEntry) → entries_text (es ++ e ∷ []) ≡ entries_text es ++ entry_text e
text_more [] e = append-nil (entry_text e)
text_more (x ∷ es) e = ap (λ (z : List ℕ). entry_text x ++ z) (text_more es e) ∙ sym (append_assoc (entry_text x) (entries_text es) (entry_text e))

module _ (held first now : List ℕ) (ns : List Note) (begun : Wrote held first head_text) (told : ∥ WroteTold first now (told_of ns) ∥₁) where
  -- where no entry is marked, the whole
  pub whole_written : marked ns ≡ None → Wrote held now (journal_text (entries ns))
  whole_written none =
      let there : ∥ Wrote first now (entries_text (appended ns)) ∥₁ = subst (λ (m : Option JournalEntry). ∥ WroteBehind first now (entries_text (appended ns)) m ∥₁) none told in
      subst (λ (es : List JournalEntry). Wrote held now (journal_text es)) (all_appended ns none)
      (Wrote-more held first now head_text (entries_text (appended ns)) begun (wrote_told first now (entries_text (appended ns)) there))

  -- where one is, its line is there in part
  pub part_written : (e : JournalEntry) → marked ns ≡ Some e → entries ns ≡ appended ns ++ e ∷ [] → WrotePrefix held now (journal_text (entries ns))
  part_written e is last =
      let there : ∥ WroteBehind first now (entries_text (appended ns)) (Some e) ∥₁ = subst (λ (m : Option JournalEntry). ∥ WroteBehind first now (entries_text (appended ns)) m ∥₁) is told in
      let text : journal_text (entries ns) ≡ head_text ++ (entries_text (appended ns) ++ entry_text e) = ap (λ (es : List JournalEntry). journal_text es) last ∙ ap (λ (z : List ℕ). head_text ++ z) (text_more (appended ns) e) in
      subst (λ (z : List ℕ). WrotePrefix held now z) (sym text) (behind held first now head_text (entries_text (appended ns)) (entry_text e) begun there)
    where
      behind : (held first now head text line : List ℕ) → Wrote held first head → ∥ WrotePrefix (first ++ text) now line ∥₁ → WrotePrefix held now (head ++ (text ++ line))
      behind h f now head text line at there =
          let w = prefix_told (f ++ text) now line there in
          let joined : (f ++ text) ++ w.written ≡ h ++ (head ++ (text ++ w.written)) = ap (λ (z : List ℕ). (z ++ text) ++ w.written) at ∙ (append_assoc (h ++ head) text w.written ∙ append_assoc h head (text ++ w.written)) in
          let rest : (head ++ (text ++ w.written)) ++ w.rest ≡ head ++ (text ++ line) = append_assoc head (text ++ w.written) w.rest ∙ ap (λ (z : List ℕ). head ++ z) (append_assoc text w.written w.rest ∙ ap (λ (z : List ℕ). text ++ z) w.joined) in
          record { written = head ++ (text ++ w.written); rest = w.rest; wrote = w.wrote ∙ joined; joined = rest }

  pub some_written : ((e : JournalEntry) → marked ns ≡ Some e → entries ns ≡ appended ns ++ e ∷ []) → WrotePrefix held now (journal_text (entries ns))
  some_written last = by (marked ns) refl
    where
      by : (m : Option JournalEntry) → marked ns ≡ m → WrotePrefix held now (journal_text (entries ns))
      by None is = prefix_all held now (journal_text (entries ns)) (whole_written is)
      by (Some e) is = part_written e is (last e is)
