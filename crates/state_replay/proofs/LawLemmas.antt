-- The journal of a daemon, cut anywhere, and its entries.
use Rattle.std.proofs.Common.{◌≡◌, ◌∙◌, ℕ, suc, ◌+◌, Bool, true, false, List, [], ◌∷◌, ◌++◌, length, map, take, Option, Some, None, inl, inr, refl, sym, ap, subst, arith, if◌then◌else◌}
use Rattle.std.proofs.lemmas.List.{take_at, map-append, length-map}
use Rattle.model_router.specs.Routers.{Router}
use Rattle.router_core.specs.Givens.{given}
use Rattle.circuit_threads.specs.declared.entry.JournalEntry.{JournalEntry}
use Rattle.circuit_threads.specs.declared.entry.Note.TheVariants.{Made}
use Rattle.circuit_threads.specs.History.{entries}
use Rattle.journal_text.specs.declared.entry.WovenEntry.{WovenEntry}
use Rattle.journal_text.specs.Entries as journal
use Rattle.journal_text.specs.Journals.{Journal, Good, Faulty, with_entry, or_faulty, is_end, entries_from, journal_of}
use Rattle.journal_text.specs.Written.{entry_read}
use Rattle.line_cuts.specs.Words.{words_of, lines_of}
use Rattle.line_source.proofs.CutLemmas.{at-mark, never-empty}
use Rattle.weave_model.specs.Entries.{Entry, next, replay}
use Rattle.weave_model.specs.Faults.{IsGood, AreGood, Fault, IsFaulty, OfEvent, OfReply}
use Rattle.weave_replay.specs.Entries.{entry_of}
use Rattle.state_replay.specs.declared.fault.StateFault.{StateFault}
use Rattle.state_replay.specs.declared.fault.StateFault.TheVariants as fault
use Rattle.state_replay.specs.Inputs.{head}
use Rattle.state_replay.specs.Replays.{AreEntries, modelled, IsReplayed, IsStopped, IsCause, IsLineFault, HasFault}
use Rattle.state_replay.proofs.LineLemmas.{begins-more}

-- ---- the entries of lines are those of the journal

abbrev IsSome : List (List ℕ) → Type 0
IsSome lines = lines ≡ [] → ⊥

not-end : (line : List ℕ) (lines : List (List ℕ)) → IsSome lines → is_end line lines ≡ false
not-end [] [] some = absurd (some refl)
not-end [] (next ∷ lines) some = refl
not-end (byte ∷ line) lines some = refl

from-line : (number : ℕ) (line : List ℕ) (lines : List (List ℕ)) (o : Option WovenEntry) → IsSome lines → journal.entry_of number (words_of line) ≡ o
    → entries_from number (line ∷ lines) ≡ or_faulty number o (entries_from (number + 1) lines)
unfolding entries_from
from-line number line lines o some said =
    ap (λ (b : Bool). if b then Good [] else or_faulty number (journal.entry_of number (words_of line)) (entries_from (number + 1) lines)) (not-end line lines some)
    ∙ ap (λ (e : Option WovenEntry). or_faulty number e (entries_from (number + 1) lines)) said

abbrev IsMore : WovenEntry → List WovenEntry → Journal → Type 0
IsMore e all j = (rest : List WovenEntry) × (all ≡ e ∷ rest) × (j ≡ Good rest)

good-first : (e : WovenEntry) (all : List WovenEntry) (j : Journal) → with_entry e j ≡ Good all → IsMore e all j
good-first e all (Good rest) is = (rest, by is, refl)
  where
    by : Good (e ∷ rest) ≡ Good all → all ≡ e ∷ rest
    by k = cc
good-first e all (Faulty line) is = absurd (by is)
  where
    by : Faulty line ≡ Good all → ⊥
    by k = cc

next-line : (number : ℕ) (line : List ℕ) (lines : List (List ℕ)) (all : List WovenEntry) (o : Option WovenEntry) → IsSome lines
    → journal.entry_of number (words_of line) ≡ o → entries_from number (line ∷ lines) ≡ Good all
    → (e : WovenEntry) × (o ≡ Some e) × IsMore e all (entries_from (number + 1) lines)
next-line number line lines all None some said good = absurd (by (sym (from-line number line lines None some said) ∙ good))
  where
    by : Faulty (number + 1) ≡ Good all → ⊥
    by k = cc
next-line number line lines all (Some e) some said good =
    (e, refl, good-first e all (entries_from (number + 1) lines) (sym (from-line number line lines (Some e) some said) ∙ good))

some-behind : (lines more : List (List ℕ)) → IsSome more → IsSome (lines ++ more)
some-behind [] more some e = some e
some-behind (line ∷ lines) more some e = cc

same-entry : (a b : WovenEntry) → Some a ≡ Some b → a ≡ b
same-entry a b e = cc

-- the entries that lines say are the first of all
read-same : (number : ℕ) (lines more : List (List ℕ)) (es all : List WovenEntry) → IsSome more → AreEntries number lines es → entries_from number (lines ++ more) ≡ Good all
    → (rest : List WovenEntry) × (all ≡ es ++ rest) × (entries_from (number + length es) more ≡ Good rest)
read-same number [] more [] all some read good =
    let same : number + 0 ≡ number = omega arith in
    (all, refl, ap (λ (n : ℕ). entries_from n more) same ∙ good)
read-same number [] more (e ∷ es) all some read good = absurd read
read-same number (line ∷ lines) more [] all some read good = absurd read
read-same number (line ∷ lines) more (e ∷ es) all some read good =
    let first = next-line number line (lines ++ more) all (Some e) (some-behind lines more some) read.0 good in
    let is : e ≡ first.0 = same-entry e first.0 first.1 in
    let others = read-same (number + 1) lines more es first.2.0 some read.1 first.2.2 in
    let at : number + suc (length es) ≡ (number + 1) + length es = omega arith in (
      others.0,
      first.2.1 ∙ (ap (λ (x : WovenEntry). x ∷ first.2.0) (sym is) ∙ ap (λ (xs : List WovenEntry). e ∷ xs) others.1),
      ap (λ (n : ℕ). entries_from n more) at ∙ others.2,
    )

-- ---- the text of a journal

-- behind its head
pub behind-head : (text journal more : List ℕ) (all : List WovenEntry) → text ≡ head ++ 10 ∷ (journal ++ more) → journal_of text ≡ Good all
    → entries_from 1 (lines_of (journal ++ more)) ≡ Good all
behind-head text journal more all is good =
    sym (ap journal_of is ∙ by (lines_of (head ++ 10 ∷ (journal ++ more))) (at-mark head (journal ++ more) refl)) ∙ good
  where
    by : (lines : List (List ℕ)) → lines ≡ head ∷ lines_of (journal ++ more) → journal_of (head ++ 10 ∷ (journal ++ more)) ≡ entries_from 1 (lines_of (journal ++ more))
    by lines e = refl

-- the first entries of a journal are the first of all
pub first-entries : (first r : Router) (journal more rest : List ℕ) (done : ℕ) (all : List WovenEntry) (h : IsReplayed first r journal rest done)
    → entries_from 1 (lines_of (journal ++ more)) ≡ Good all
    → (others : List WovenEntry) × (all ≡ h.entries ++ others) × (entries_from (1 + length h.entries) (lines_of (rest ++ more)) ≡ Good others)
first-entries first r journal more rest done all h good =
    read-same 1 h.lines (lines_of (rest ++ more)) h.entries all (never-empty 10 (rest ++ more)) h.read
    (ap (entries_from 1) (sym (begins-more journal rest more h.lines h.begins)) ∙ good)

pub after-first : (first r : Router) (journal more rest : List ℕ) (done : ℕ) (all : List WovenEntry) → IsReplayed first r journal rest done
    → entries_from 1 (lines_of (journal ++ more)) ≡ Good all → r ≡ replay given first (take done (modelled all))
after-first first r journal more rest done all h good =
    let (others, is, left) = first-entries first r journal more rest done all h good in
    let long : length (modelled h.entries) ≡ done = length-map h.entries entry_of ∙ sym h.counted in
    h.after_is ∙ ap (replay given first) (sym (ap (λ (xs : List WovenEntry). take done (modelled xs)) is
    ∙ (ap (take done) (map-append entry_of h.entries others) ∙ take_at (modelled h.entries) (modelled others) done long)))

good-at : (r : Router) (xs ys : List Entry) (e : Entry) → AreGood given r (xs ++ e ∷ ys) → IsGood given (replay given r xs) e
good-at r [] ys e g = g.0
good-at r (x ∷ xs) ys e g = good-at (next given r x.deed) xs ys e g.1

not-faulty : (r : Router) (e : Entry) (what : Fault) → IsGood given r e → IsFaulty given r e what → ⊥
not-faulty r e OfEvent good bad = by (sym good.fitting ∙ bad)
  where
    by : true ≡ false → ⊥
    by k = cc
not-faulty r e OfReply good bad = bad.1 good.answered

-- the line of a good entry ends no replay
no-line-fault : (line number : ℕ) (r : Router) (text : List ℕ) (e : WovenEntry) (why : StateFault) → journal.entry_of number (words_of text) ≡ Some e
    → IsGood given r (entry_of e) → IsLineFault line number r text why → ⊥
no-line-fault line number r text e (fault.Form at) said good bad = by (sym bad.0 ∙ said)
  where
    by : None ≡ Some e → ⊥
    by k = cc
no-line-fault line number r text e (fault.Event entry) said good bad = one bad.0
  where
    one : HasFault r number OfEvent text → ⊥
    one (x, is, faulty) = not-faulty r (entry_of e) OfEvent good (subst (λ (y : WovenEntry). IsFaulty given r (entry_of y) OfEvent) (same-entry x e (sym is ∙ said)) faulty)
no-line-fault line number r text e (fault.Reply entry) said good bad = one bad.0
  where
    one : HasFault r number OfReply text → ⊥
    one (x, is, faulty) = not-faulty r (entry_of e) OfReply good (subst (λ (y : WovenEntry). IsFaulty given r (entry_of y) OfReply) (same-entry x e (sym is ∙ said)) faulty)
no-line-fault line number r text e fault.TooLong said good bad = bad
no-line-fault line number r text e fault.Read said good bad = bad
no-line-fault line number r text e (fault.Head at) said good bad = bad
no-line-fault line number r text e (fault.Config what key) said good bad = bad
no-line-fault line number r text e fault.Write said good bad = bad
no-line-fault line number r text e fault.OutOfMemory said good bad = bad

pub never-stopped : (first : Router) (journal more : List ℕ) (line most : ℕ) (why : StateFault) (all : List WovenEntry)
    → entries_from 1 (lines_of (journal ++ more)) ≡ Good all → AreGood given first (modelled all) → IsStopped first journal line most why → why ≡ fault.TooLong
never-stopped first journal more line most why all good faultless stopped = by stopped.cause
  where
    by : IsCause line stopped.done stopped.r stopped.rest why → why ≡ fault.TooLong
    by (inl long) = long.0
    by (inr (text, behind, begins, bad)) =
        let h = stopped.replayed in
        let counted = h.counted in
        let (others, is, left) = first-entries first stopped.r journal more stopped.rest stopped.done all h good in
        let number : 1 + length h.entries ≡ stopped.done + 1 = omega (arith, counted) in
        let lines : lines_of (stopped.rest ++ more) ≡ text ∷ lines_of (behind ++ more) = begins-more stopped.rest behind more (text ∷ []) begins in
        let there = next-line (stopped.done + 1) text (lines_of (behind ++ more)) others _ (never-empty 10 (behind ++ more)) refl
        (ap (entries_from (stopped.done + 1)) (sym lines) ∙ (ap (λ (n : ℕ). entries_from n (lines_of (stopped.rest ++ more))) (sym number) ∙ left)) in
        let e = there.0 in
        let all-is : modelled all ≡ modelled h.entries ++ entry_of e ∷ modelled there.2.0 =
        ap modelled (is ∙ ap (λ (xs : List WovenEntry). h.entries ++ xs) there.2.1) ∙ map-append entry_of h.entries (e ∷ there.2.0) in
        let fine : IsGood given stopped.r (entry_of e) =
        subst (λ (s : Router). IsGood given s (entry_of e)) (sym h.after_is)
        (good-at first (modelled h.entries) (modelled there.2.0) (entry_of e) (subst (AreGood given first) all-is faultless)) in
        absurd (no-line-fault line (stopped.done + 1) stopped.r text e why there.1 fine bad)

-- entries of a history, as the laws below say them
pub modelled-read : (es : List JournalEntry) → map (λ e. entry_of (entry_read e)) es ≡ modelled (map entry_read es)
modelled-read [] = refl
modelled-read (e ∷ es) = ap (λ (xs : List Entry). entry_of (entry_read e) ∷ xs) (modelled-read es)

pub entries-made : (es : List JournalEntry) → entries (map Made es) ≡ es
entries-made [] = refl
entries-made (e ∷ es) = ap (λ (xs : List JournalEntry). e ∷ xs) (entries-made es)
