-- A journal's lines, read one after another.
use Rattle.std.proofs.Common.{◌≡◌, ◌∙◌, ℕ, ◌+◌, Bool, true, false, cond, List, [], ◌∷◌, ◌++◌, Option, Some, None, refl, sym, ap}
use Rattle.std.proofs.lemmas.List.{append_assoc, append-nil}
use Rattle.journal_text.specs.declared.entry.WovenEntry.{WovenEntry}
use Rattle.journal_text.specs.declared.fault.JournalFault.{JournalFault}
use Rattle.journal_text.specs.declared.fault.JournalFault.TheVariants.{Line, OutOfMemory}
use Rattle.journal_text.specs.Entries.{entry_of}
use Rattle.journal_text.specs.Journals.{Journal, Good, Faulty, with_entry, or_faulty, is_end, entries_from, IsFaultOf, IsLineFault}
use Rattle.line_cuts.specs.Words.{words_of}

-- what is read, and what the lines that are left say
abbrev pub joined : List WovenEntry → Journal → Journal
joined entries (Good more) = Good (entries ++ more)
joined entries (Faulty line) = Faulty line

with-joined : (entries : List WovenEntry) (entry : WovenEntry) (journal : Journal) → joined entries (with_entry entry journal) ≡ joined (entries ++ entry ∷ []) journal
with-joined entries entry (Good more) = ap Good (sym (append_assoc entries (entry ∷ []) more))
with-joined entries entry (Faulty line) = refl

-- the first of the lines that are left, where it isn't the end
first-line : (entries : List WovenEntry) (number : ℕ) (all rest : List (List ℕ)) (line : List ℕ) (said : Option WovenEntry) → all ≡ line ∷ rest → is_end line rest ≡ false → entry_of number (words_of line) ≡ said → joined entries (entries_from number all) ≡ joined entries (or_faulty number said (entries_from (number + 1) rest))
unfolding entries_from
first-line entries number all rest line said e more is =
    ap (λ (lines : List (List ℕ)). joined entries (entries_from number lines)) e
    ∙ ap (λ (t : Bool). joined entries (cond {A = Journal} t (Good []) (or_faulty number (entry_of number (words_of line)) (entries_from (number + 1) rest)))) more
    ∙ ap (λ (o : Option WovenEntry). joined entries (or_faulty number o (entries_from (number + 1) rest))) is

-- a line that says an entry
pub entry-read : (entries : List WovenEntry) (number : ℕ) (all rest : List (List ℕ)) (line : List ℕ) (entry : WovenEntry) → all ≡ line ∷ rest → is_end line rest ≡ false → entry_of number (words_of line) ≡ Some entry → joined (entries ++ entry ∷ []) (entries_from (number + 1) rest) ≡ joined entries (entries_from number all)
entry-read entries number all rest line entry e more is = sym (first-line entries number all rest line (Some entry) e more is ∙ with-joined entries entry (entries_from (number + 1) rest))

-- a line that says none
pub entry-refused : (entries : List WovenEntry) (number : ℕ) (all rest : List (List ℕ)) (line : List ℕ) (journal : Journal) (fault : JournalFault) → all ≡ line ∷ rest → is_end line rest ≡ false → joined entries (entries_from number all) ≡ journal → IsLineFault number (entry_of number (words_of line)) fault → IsFaultOf journal fault
entry-refused entries number all rest line journal (Line at) e more is h = sym is ∙ first-line entries number all rest line None e more h.0 ∙ ap Faulty (sym h.1)
entry-refused entries number all rest line journal OutOfMemory e more is h = tt

-- the empty line behind the last LF
pub end-read : (entries : List WovenEntry) (number : ℕ) (all rest : List (List ℕ)) (line : List ℕ) → all ≡ line ∷ rest → is_end line rest ≡ true → joined entries (entries_from number all) ≡ Good entries
unfolding entries_from
end-read entries number all rest line e over =
    ap (λ (lines : List (List ℕ)). joined entries (entries_from number lines)) e
    ∙ ap (λ (t : Bool). joined entries (cond {A = Journal} t (Good []) (or_faulty number (entry_of number (words_of line)) (entries_from (number + 1) rest)))) over
    ∙ ap Good (append-nil entries)

-- no line is left
pub none-left : (entries : List WovenEntry) (number : ℕ) (all : List (List ℕ)) → all ≡ [] → joined entries (entries_from number all) ≡ Good entries
unfolding entries_from
none-left entries number all e = ap (λ (lines : List (List ℕ)). joined entries (entries_from number lines)) e ∙ ap Good (append-nil entries)

-- where lines follow, it isn't the end
pub not-end : (line : List ℕ) (lines : List (List ℕ)) → (lines ≡ [] → ⊥) → is_end line lines ≡ false
not-end [] [] some = absurd (some refl)
not-end [] (next ∷ lines) some = refl
not-end (byte ∷ line) lines some = refl
