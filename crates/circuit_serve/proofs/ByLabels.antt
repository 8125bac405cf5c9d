-- The entries of labels at own places.
use Rattle.std.proofs.Common.{◌≡◌, ◌≢◌, ℕ, ◌+◌, ◌<◌, Bool, true, false, List, [], ◌∷◌, ◌++◌, length, if◌then◌else◌, ⊎_elim, sym, refl, ap, ◌∙◌, subst, arith, append-nil, Result}
use Rattle.std.proofs.lemmas.Bool.Decides.{eqb_tells}
use Rattle.turn_lock.specs.Views.{times}
use Rattle.circuit_threads.specs.declared.entry.JournalEntry.{JournalEntry}
use Rattle.circuit_threads.specs.declared.entry.Note.{Note}
use Rattle.circuit_threads.specs.declared.entry.Note.TheVariants.{Nothing, Made, Marked}
use Rattle.circuit_threads.specs.History.{entries}
use Rattle.circuit_serve.specs.Labels.{of_label, picked, OnlyOf}
use Rattle.circuit_serve.proofs.Picks.{picks_none}
use Rattle.circuit_serve.proofs.Picks.{picks_more}
use Rattle.circuit_threads.specs.declared.entry.Receipt.{Receipt}
use Rattle.circuit_threads.specs.declared.entry.SubmitFault.{SubmitFault}
use Rattle.router_core.specs.declared.event.NodeEvent.{NodeEvent}
use Rattle.circuit_threads.specs.Answered.{note_of}
use Rattle.circuit_threads.specs.Turns.{EndsWith}
use Rattle.circuit_serve.proofs.Picks.{note_only}
use Rattle.circuit_serve.specs.Labels.{by_label, Only}

if_more : (b : Bool) (e : JournalEntry) (xs ys zs : List JournalEntry) → zs ≡ xs ++ ys → (if b then e ∷ zs else zs) ≡ (if b then e ∷ xs else xs) ++ ys
if_more true e xs ys zs h = ap (λ z. e ∷ z) h
if_more false e xs ys zs h = h

pub label_more : (c : ℕ) (ns ms : List Note) → of_label c (ns ++ ms) ≡ of_label c ns ++ of_label c ms
label_more c [] ms = refl
label_more c (Nothing ∷ ns) ms = label_more c ns ms
label_more c (Made e ∷ ns) ms = if_more (Rattle.std.specs.Prelude.eqb e.pass c) e (of_label c ns) (of_label c ms) (of_label c (ns ++ ms)) (label_more c ns ms)
label_more c (Marked e ∷ ns) ms = if_more (Rattle.std.specs.Prelude.eqb e.pass c) e (of_label c ns) (of_label c ms) (of_label c (ns ++ ms)) (label_more c ns ms)

pub label_mine : (c : ℕ) (n : Note) → OnlyOf c n → of_label c (n ∷ []) ≡ entries (n ∷ [])
label_mine c Nothing only = refl
label_mine c (Made e) only = ⊎_elim (λ t. ap (λ b. if b then e ∷ [] else []) t.0) (λ t. absurd (t.1 only)) (eqb_tells e.pass c)
label_mine c (Marked e) only = ⊎_elim (λ t. ap (λ b. if b then e ∷ [] else []) t.0) (λ t. absurd (t.1 only)) (eqb_tells e.pass c)

pub label_other : (c d : ℕ) (n : Note) → d ≢ c → OnlyOf c n → of_label d (n ∷ []) ≡ []
label_other c d Nothing apart only = refl
label_other c d (Made e) apart only = ⊎_elim (λ t. absurd (apart (sym t.1 ∙ only))) (λ t. ap (λ b. if b then e ∷ [] else []) t.0) (eqb_tells e.pass d)
label_other c d (Marked e) apart only = ⊎_elim (λ t. absurd (apart (sym t.1 ∙ only))) (λ t. ap (λ b. if b then e ∷ [] else []) t.0) (eqb_tells e.pass d)

module _ (c : ℕ) (own own' : List ℕ) (ns between ns' : List Note) (note : Note) (n : ℕ) (low : (x : ℕ) → 0 < times x own → x < length ns) (more : own' ≡ own ++ n ∷ []) (grown : ns' ≡ (ns ++ between) ++ note ∷ []) (last : length ns' ≡ n + 1) where
  by_more : (d : ℕ) → by_label d own' ns' ≡ by_label d own ns ++ of_label d (note ∷ [])
  by_more d = ap (of_label d) (picks_more own own' ns between ns' note n low more grown last) ∙ label_more d (picked 0 own ns) (note ∷ [])

  pub only_more : (es : List JournalEntry) → OnlyOf c note → Only c own ns es → Only c own' ns' (es ++ entries (note ∷ []))
  only_more es only was = record {
    mine = by_more c ∙ (ap (λ z. z ++ of_label c (note ∷ [])) was.mine ∙ ap (λ z. es ++ z) (label_mine c note only));
    other = λ d apart. by_more d ∙ (ap (λ z. z ++ of_label d (note ∷ [])) (was.other d apart) ∙ label_other c d note apart only);
  }

pub only_none : (c : ℕ) (own : List ℕ) (ns : List Note) → own ≡ [] → Only c own ns []
only_none c own ns none =
    let e : (d : ℕ) → by_label d own ns ≡ [] = λ d. ap (of_label d) (ap (λ z. picked 0 z ns) none ∙ picks_none 0 [] ns (λ x s. absurd (omega (arith, s)))) in
    record { mine = e c; other = λ d apart. e d }

-- a submit adds the entry of its answer
pub only_made : (c l : ℕ) (event : NodeEvent) (a b : Result Receipt SubmitFault) (own own' : List ℕ) (ns ns' : List Note) (es : List JournalEntry) → ((x : ℕ) → 0 < times x own → x < length ns) → l ≡ c → a ≡ b
    → ((n : ℕ) × (own' ≡ own ++ n ∷ []) × (length ns' ≡ n + 1)) → EndsWith ns (note_of l event a) ns' → Only c own ns es → Only c own' ns' (es ++ entries (note_of c event b ∷ []))
only_made c l event a b own own' ns ns' es low same answer took ends was =
    let grown : ns' ≡ (ns ++ ends.0) ++ note_of c event b ∷ [] = ends.1 ∙ (λ i. (ns ++ ends.0) ++ note_of (same i) event (answer i) ∷ []) in
    only_more c own own' ns ends.0 ns' (note_of c event b) took.0 low took.1 grown took.2 es (note_only c event b) was

pub longer_own : (own own' : List ℕ) (n : ℕ) → own' ≡ own ++ n ∷ [] → length own' ≡ length own + 1
longer_own own own' n more = ap (λ z. length z) more ∙ omega (arith, Rattle.std.proofs.Common.length-append own (n ∷ []))
