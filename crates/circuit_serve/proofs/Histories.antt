-- One history, in notes and in entries.
use Rattle.std.proofs.Common.{◌≡◌, ℕ, suc, ◌+◌, Bool, List, [], ◌∷◌, ◌++◌, map, length, Option, Some, None, if◌then◌else◌, refl, sym, ap, ◌∙◌, arith, length-append}
use Rattle.std.specs.Option.{option_map}
use Rattle.model_router.specs.Routers.{Router}
use Rattle.circuit_threads.specs.declared.entry.JournalEntry.{JournalEntry}
use Rattle.circuit_threads.specs.declared.entry.Note.{Note}
use Rattle.circuit_threads.specs.declared.entry.Note.TheVariants.{Nothing, Made, Marked}
use Rattle.circuit_threads.specs.History.{Replay, line_of, entries, appended, marked, opening, replay, next, made, unless_stopped, IsHistory}
use Rattle.circuit_serve.specs.Labels.{of_label}
use Rattle.circuit_serve.specs.Walks.{IsCalm}
use Rattle.circuit_serve.specs.Histories.{by_pass, AreReplayed}

if_same : (b : Bool) (e : JournalEntry) (xs ys : List JournalEntry) → xs ≡ ys → (if b then e ∷ xs else xs) ≡ (if b then e ∷ ys else ys)
if_same b e xs ys same = ap (λ zs. if b then e ∷ zs else zs) same

-- the entries of a label
pub label_entries : (c : ℕ) (ns : List Note) → of_label c ns ≡ by_pass c (entries ns)
label_entries c [] = refl
label_entries c (Nothing ∷ ns) = label_entries c ns
label_entries c (Made e ∷ ns) = if_same (Rattle.std.specs.Prelude.eqb e.pass c) e (of_label c ns) (by_pass c (entries ns)) (label_entries c ns)
label_entries c (Marked e ∷ ns) = if_same (Rattle.std.specs.Prelude.eqb e.pass c) e (of_label c ns) (by_pass c (entries ns)) (label_entries c ns)

-- ---- marks

-- a replay that has stopped adds no line
stays : (p : Replay) (ns : List Note) (n : ℕ) → p.stop ≡ Some n → replay p ns ≡ p
stays p [] n is = refl
stays p (Nothing ∷ ns) n is = stays p ns n is
stays p (Made e ∷ ns) n is = let same : next p (Made e) ≡ p = ap (λ s. unless_stopped s p (made p e None)) is in
    ap (λ z. replay z ns) same ∙ stays p ns n is
stays p (Marked e ∷ ns) n is = let same : next p (Marked e) ≡ p = ap (λ s. unless_stopped s p (made p e (Some (length p.lines + 1)))) is in
    ap (λ z. replay z ns) same ∙ stays p ns n is

-- as many lines as entries
abbrev Counts : Replay → List Note → Type 0
Counts p ns = length (replay p ns).lines ≡ length p.lines + length (entries ns)

longer : (p : Replay) (e : JournalEntry) (stop : Option ℕ) → length (made p e stop).lines ≡ length p.lines + 1
longer p e stop = length-append p.lines _

-- no entry stands behind a mark
none_behind : (p : Replay) (e : JournalEntry) (ns : List Note) → p.stop ≡ None → Counts p (Marked e ∷ ns) → entries ns ≡ []
none_behind p e ns calm counts =
    let k : ℕ = length p.lines + 1 in
    let same : next p (Marked e) ≡ made p e (Some k) = ap (λ s. unless_stopped s p (made p e (Some k))) calm in
    let there : replay p (Marked e ∷ ns) ≡ made p e (Some k) = ap (λ z. replay z ns) same ∙ stays (made p e (Some k)) ns k refl in
    let size : length (replay p (Marked e ∷ ns)).lines ≡ length p.lines + 1 = ap (λ (z : Replay). length z.lines) there ∙ longer p e (Some k) in
    empty (entries ns) (omega (arith, size, counts))
  where
    empty : (es : List JournalEntry) → length es ≡ 0 → es ≡ []
    empty [] is = refl
    empty (x ∷ es) is = absurd (omega (arith, is))

-- the lines are those of the entries made one after another
pub same_lines : (p : Replay) (ns : List Note) → p.stop ≡ None → Counts p ns → (replay p ns).lines ≡ (replay p (map Made (entries ns))).lines
same_lines p [] calm counts = refl
same_lines p (Nothing ∷ ns) calm counts = same_lines p ns calm counts
same_lines p (Made e ∷ ns) calm counts =
    let q : Replay = made p e None in
    let same : next p (Made e) ≡ q = ap (λ s. unless_stopped s p (made p e None)) calm in
    let size : length (replay q ns).lines ≡ length p.lines + length (entries (Made e ∷ ns)) = ap (λ (z : Replay). length (replay z ns).lines) (sym same) ∙ counts in
    let more = longer p e None in
    ap (λ (z : Replay). (replay z ns).lines) same ∙ (same_lines q ns refl (omega (arith, size, more)) ∙ ap (λ (z : Replay). (replay z (map Made (entries ns))).lines) (sym same))
same_lines p (Marked e ∷ ns) calm counts =
    let k : ℕ = length p.lines + 1 in
    let none = none_behind p e ns calm counts in
    let same : next p (Marked e) ≡ made p e (Some k) = ap (λ s. unless_stopped s p (made p e (Some k))) calm in
    let other : next p (Made e) ≡ made p e None = ap (λ s. unless_stopped s p (made p e None)) calm in
    let there : replay p (Marked e ∷ ns) ≡ made p e (Some k) = ap (λ z. replay z ns) same ∙ stays (made p e (Some k)) ns k refl in
    ap (λ (z : Replay). z.lines) there
    ∙ sym (ap (λ (es : List JournalEntry). (replay p (Made e ∷ map Made es)).lines) none ∙ ap (λ (z : Replay). z.lines) other)

-- the marked entry is the last
pub last_marked : (p : Replay) (ns : List Note) (e : JournalEntry) → p.stop ≡ None → Counts p ns → marked ns ≡ Some e → entries ns ≡ appended ns ++ e ∷ []
last_marked p [] e calm counts is = absurd (cc is)
last_marked p (Nothing ∷ ns) e calm counts is = last_marked p ns e calm counts is
last_marked p (Made x ∷ ns) e calm counts is =
    let q : Replay = made p x None in
    let same : next p (Made x) ≡ q = ap (λ s. unless_stopped s p (made p x None)) calm in
    let size : length (replay q ns).lines ≡ length p.lines + length (entries (Made x ∷ ns)) = ap (λ (z : Replay). length (replay z ns).lines) (sym same) ∙ counts in
    let more = longer p x None in
    ap (λ z. x ∷ z) (last_marked q ns e refl (omega (arith, size, more)) is)
last_marked p (Marked x ∷ ns) e calm counts is =
    let none = none_behind p x ns calm counts in
    let none' : appended ns ≡ [] = unmade ns none in
    let same : x ≡ e = some_same x e is in
    (λ i. same i ∷ none i) ∙ sym (ap (λ z. z ++ e ∷ []) none')
  where
    some_same : (a b : JournalEntry) → Some a ≡ Some b → a ≡ b
    some_same a b e = cc e

    unmade : (ns : List Note) → entries ns ≡ [] → appended ns ≡ []
    unmade [] none = refl
    unmade (Nothing ∷ ns) none = unmade ns none
    unmade (Made x ∷ ns) none = absurd (cc none)
    unmade (Marked x ∷ ns) none = absurd (cc none)

-- where none is marked all were appended
pub all_appended : (ns : List Note) → marked ns ≡ None → appended ns ≡ entries ns
all_appended [] none = refl
all_appended (Nothing ∷ ns) none = all_appended ns none
all_appended (Made e ∷ ns) none = ap (λ z. e ∷ z) (all_appended ns none)
all_appended (Marked e ∷ ns) none = absurd (cc none)

module _ (first now : Router) (ns : List Note) (history : IsHistory first now ns (option_map (λ (e : JournalEntry). e.number) (marked ns))) where
  pub counted_lines : Counts (opening first) ns
  counted_lines = let e = ap (λ (z : Replay). length z.lines) history ∙ length-map-lines (entries ns) in omega (arith, e)
    where
      length-map-lines : (es : List JournalEntry) → length (map line_of es) ≡ length es
      length-map-lines [] = refl
      length-map-lines (e ∷ es) = ap suc (length-map-lines es)

  pub history_replayed : AreReplayed first (entries ns)
  history_replayed = sym (same_lines (opening first) ns refl counted_lines) ∙ ap (λ (z : Replay). z.lines) history

  pub calm_unmarked : IsCalm first ns → marked ns ≡ None
  calm_unmarked calm = none (marked ns) (sym (ap (λ (z : Replay). z.stop) history) ∙ calm)
    where
      none : (o : Option JournalEntry) → option_map (λ (e : JournalEntry). e.number) o ≡ None → o ≡ None
      none None is = refl
      none (Some e) is = absurd (cc is)

  pub stopped_marked : (n : ℕ) → (replay (opening first) ns).stop ≡ Some n → (e : JournalEntry) × (marked ns ≡ Some e)
  stopped_marked n stop = some (marked ns) refl (sym (ap (λ (z : Replay). z.stop) history) ∙ stop)
    where
      some : (o : Option JournalEntry) → marked ns ≡ o → option_map (λ (e : JournalEntry). e.number) o ≡ Some n → (e : JournalEntry) × (marked ns ≡ Some e)
      some None is at = absurd (cc at)
      some (Some e) is at = (e, is)
