-- What a journal of text tells after one append more.
use Rattle.std.proofs.Common.{◌≡◌, ℕ, ◌-◌, length, take, drop, List, [], ◌∷◌, ◌++◌, Option, Some, None, sym, ap, ◌∙◌, subst, append-nil}
use Rattle.std.proofs.lemmas.Grind.{flat_map-append}
use Rattle.std.proofs.lemmas.List.{take-append-drop, take_rest}
use Rattle.isis_edge.specs.Told.{Wrote, WrotePrefix}
use Rattle.isis_edge.proofs.ToldLemmas.{IsUnderway, Wrote-more, Wrote-stays, WrotePrefix-underway, underway_all, underway_same, underway_front}
use Rattle.circuit_threads.specs.declared.entry.JournalEntry.{JournalEntry}
use Rattle.circuit_threads.specs.JournalText.{entry_text, entries_text}
use Rattle.circuit_threads.specs.Told.{Told, WroteBehind, WroteTold}

entries-text-more : (es : List JournalEntry) (e : JournalEntry) → entries_text (es ++ e ∷ []) ≡ entries_text es ++ entry_text e
entries-text-more es e = flat_map-append entry_text es (e ∷ []) ∙ ap (λ (xs : List ℕ). entries_text es ++ xs) (append-nil (entry_text e))

whole : (before now : List ℕ) (told : Told) → told.torn ≡ None → WroteTold before now told → Wrote before now (entries_text told.entries)
whole before now told none w = subst (WroteBehind before now (entries_text told.entries)) none w

pub told-ok : (before mid now : List ℕ) (told : Told) (e : JournalEntry) → told.torn ≡ None → WroteTold before mid told → Wrote mid now (entry_text e)
    → WroteTold before now (record told { entries = told.entries ++ e ∷ [] })
told-ok before mid now told e none w added =
    subst (WroteBehind before now (entries_text (told.entries ++ e ∷ []))) (sym none)
    (subst (Wrote before now) (sym (entries-text-more told.entries e)) (Wrote-more before mid now (entries_text told.entries) (entry_text e) (whole before mid told none w) added))

pub told-err : (before mid now : List ℕ) (told : Told) (e : JournalEntry) → told.torn ≡ None → WroteTold before mid told → WrotePrefix mid now (entry_text e)
    → WroteTold before now (record told { torn = Some e })
told-err before mid now told e none w begun = subst (λ (o : List ℕ). WrotePrefix o now (entry_text e)) (whole before mid told none w) begun

-- ---- a line while it is written

-- as it stands after `&rest[count..]`
pub underway-more : (whole rest later : List ℕ) (before mid now : List ℕ) (count : ℕ) → IsUnderway whole (rest ++ later) before mid → Wrote mid now (take count rest)
    → IsUnderway whole (take (length rest - count) (drop count rest) ++ later) before now
underway-more whole rest later before mid now count u w =
    rw (take_rest rest count) (underway_front whole rest (take count rest) (drop count rest) later before mid now (take-append-drop count rest) u w)

-- where nothing is left, all is written
pub underway-over : (whole page rest : List ℕ) (before now : List ℕ) → page ++ rest ≡ [] → IsUnderway whole (page ++ rest) before now → Wrote before now whole
underway-over whole page rest before now e u = underway_all whole before now (underway_same whole (page ++ rest) [] before now (sym e) u)

-- after a call that fails, which writes nothing
pub underway-failed : (whole rest : List ℕ) (before mid now : List ℕ) → IsUnderway whole rest before mid → now ≡ mid → WrotePrefix before now whole
underway-failed whole rest before mid now u same = WrotePrefix-underway whole rest before now (record { front = u.front; joined = u.joined; written = Wrote-stays before mid now u.front u.written same })
