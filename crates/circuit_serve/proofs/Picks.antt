-- The notes at a pass's own places.
use Rattle.std.proofs.Common.{◌≡◌, ◌≢◌, ℕ, suc, ◌+◌, ◌<◌, ◌≤◌, List, [], ◌∷◌, ◌++◌, length, if◌then◌else◌, ⊎_elim, sym, refl, ap, ◌∙◌, subst, arith, length-append, Result, Ok, Err}
use Rattle.std.proofs.lemmas.Bool.Decides.{leb_tells}
use mathlib.Core.List.{IsPrefix}
use Rattle.turn_lock.specs.Views.{times, match_count, longer, shorter}
use Rattle.turn_lock.proofs.Sums.{times-append, match_count_tells}
use Rattle.turn_lock.proofs.Prefixes.{longer_tells, prefix_self}
use Rattle.router_core.specs.declared.event.NodeEvent.{NodeEvent}
use Rattle.circuit_threads.specs.declared.entry.Note.{Note}
use Rattle.circuit_threads.specs.declared.entry.Receipt.{Receipt}
use Rattle.circuit_threads.specs.declared.entry.SubmitFault.{SubmitFault}
use Rattle.circuit_threads.specs.declared.entry.SubmitFault.TheVariants as fault
use Rattle.circuit_threads.specs.Answered.{note_of}
use Rattle.circuit_serve.specs.Labels.{picked, OnlyOf}

pub picks : (p : ℕ) (own : List ℕ) (n : Note) (ns : List Note) → 0 < times p own → picked p own (n ∷ ns) ≡ n ∷ picked (p + 1) own ns
picks p own n ns some_own = ⊎_elim (λ t. ap (λ b. if b then n ∷ picked (p + 1) own ns else picked (p + 1) own ns) t.0) (λ t. absurd (omega (arith, t.1, some_own))) (leb_tells 1 (times p own))

pub passes : (p : ℕ) (own : List ℕ) (n : Note) (ns : List Note) → times p own ≡ 0 → picked p own (n ∷ ns) ≡ picked (p + 1) own ns
passes p own n ns none = ⊎_elim (λ t. absurd (omega (arith, t.1, none))) (λ t. ap (λ b. if b then n ∷ picked (p + 1) own ns else picked (p + 1) own ns) t.0) (leb_tells 1 (times p own))

-- places past the own ones add nothing
pub picks_none : (p : ℕ) (own : List ℕ) (ns : List Note) → ((x : ℕ) → 0 < times x own → x < p) → picked p own ns ≡ []
picks_none p own [] low = refl
picks_none p own (n ∷ ns) low = let none : times p own ≡ 0 = ⊎_elim (λ t. let bad : p < p = low p t.1 in absurd (omega (arith, bad))) (λ t. omega (arith, t.1)) (leb_tells 1 (times p own)) in
    passes p own n ns none ∙ picks_none (p + 1) own ns (λ x s. let l : x < p = low x s in omega (arith, l))

pub picks_beyond : (p : ℕ) (own : List ℕ) (ns more : List Note) → ((x : ℕ) → 0 < times x own → x < p + length ns) → picked p own (ns ++ more) ≡ picked p own ns
picks_beyond p own [] more low = picks_none p own more (λ x s. let l : x < p + 0 = low x s in omega (arith, l))
picks_beyond p own (n ∷ ns) more low =
    let rest = picks_beyond (p + 1) own ns more (λ x s. let l : x < p + suc (length ns) = low x s in omega (arith, l)) in
    ap (λ z. if Rattle.std.specs.Prelude.leb 1 (times p own) then n ∷ z else z) rest

-- one more own place, past the list, picks the same of it
pub picks_other : (p m : ℕ) (own : List ℕ) (ns : List Note) → p + length ns ≤ m → picked p (own ++ m ∷ []) ns ≡ picked p own ns
picks_other p m own [] past = refl
picks_other p m own (n ∷ ns) past =
    let apart : times p (own ++ m ∷ []) ≡ times p own = ⊎_elim (λ (t : (match_count p m ≡ 1) × (p ≡ m)). absurd (omega (arith, t.1, past))) (λ (t : (match_count p m ≡ 0) × (p ≢ m)). omega (arith, t.0, times-append p own (m ∷ []))) (match_count_tells p m) in
    let rest = picks_other (p + 1) m own ns (omega (arith, past)) in
    ap (λ t. if Rattle.std.specs.Prelude.leb 1 t then n ∷ picked (p + 1) (own ++ m ∷ []) ns else picked (p + 1) (own ++ m ∷ []) ns) apart
    ∙ ap (λ z. if Rattle.std.specs.Prelude.leb 1 (times p own) then n ∷ z else z) rest

-- the last note of a list, at one's own place
pub picks_last : (p m : ℕ) (own : List ℕ) (ns : List Note) (note : Note) → m ≡ p + length ns → picked p (own ++ m ∷ []) (ns ++ note ∷ []) ≡ picked p (own ++ m ∷ []) ns ++ note ∷ []
picks_last p m own [] note here = let one : match_count m m ≡ 1 = ⊎_elim (λ (t : (match_count m m ≡ 1) × (m ≡ m)). t.0) (λ (t : (match_count m m ≡ 0) × (m ≢ m)). absurd (t.1 refl)) (match_count_tells m m) in
    let at : p ≡ m = omega (arith, here) in
    let some_own : 0 < times p (own ++ m ∷ []) = subst (λ z. 0 < times z (own ++ m ∷ [])) (sym at) (omega (arith, one, times-append m own (m ∷ []))) in
    picks p (own ++ m ∷ []) note [] some_own
picks_last p m own (n ∷ ns) note here =
    let rest = picks_last (p + 1) m own ns note (omega (arith, here)) in
    ⊎_elim (λ (t : (Rattle.std.specs.Prelude.leb 1 (times p (own ++ m ∷ [])) ≡ Rattle.std.specs.Prelude.true) × (1 ≤ times p (own ++ m ∷ []))).
    picks p (own ++ m ∷ []) n (ns ++ note ∷ []) t.1 ∙ (ap (λ z. n ∷ z) rest ∙ ap (λ z. z ++ note ∷ []) (sym (picks p (own ++ m ∷ []) n ns t.1))))
    (λ (t : (Rattle.std.specs.Prelude.leb 1 (times p (own ++ m ∷ [])) ≡ Rattle.std.specs.Prelude.false) × (times p (own ++ m ∷ []) < 1)). let none : times p (own ++ m ∷ []) ≡ 0 = omega (arith, t.1) in
    passes p (own ++ m ∷ []) n (ns ++ note ∷ []) none ∙ (rest ∙ ap (λ z. z ++ note ∷ []) (sym (passes p (own ++ m ∷ []) n ns none)))) (leb_tells 1 (times p (own ++ m ∷ [])))

pub owns_more : (own : List ℕ) (ns more : List Note) (note : Note) → ((x : ℕ) → 0 < times x own → x < length ns)
    → picked 0 (own ++ length (ns ++ more) ∷ []) ((ns ++ more) ++ note ∷ []) ≡ picked 0 own ns ++ note ∷ []
owns_more own ns more note low = let m : ℕ = length (ns ++ more) in
    picks_last 0 m own (ns ++ more) note (omega arith) ∙ ap (λ z. z ++ note ∷ []) (picks_other 0 m own (ns ++ more) (omega arith) ∙ picks_beyond 0 own ns more (λ x s. let l : x < length ns = low x s in omega (arith, l)))

pub note_only : (c : ℕ) (event : NodeEvent) (r : Result Receipt SubmitFault) → OnlyOf c (note_of c event r)
note_only c event (Ok r) = refl
note_only c event (Err fault.OutOfMemory) = tt
note_only c event (Err (fault.JournalFault r)) = refl
note_only c event (Err (fault.Stopped n)) = tt

module _ (own own' : List ℕ) (ns between ns' : List Note) (note : Note) (n : ℕ) (low : (x : ℕ) → 0 < times x own → x < length ns) (more : own' ≡ own ++ n ∷ []) (grown : ns' ≡ (ns ++ between) ++ note ∷ []) (last : length ns' ≡ n + 1) where
  place : n ≡ length (ns ++ between)
  place = let e : length ns' ≡ length (ns ++ between) + 1 = ap (λ z. length z) grown ∙ omega (arith, length-append (ns ++ between) (note ∷ [])) in omega (arith, e, last)

  pub picks_more : picked 0 own' ns' ≡ picked 0 own ns ++ note ∷ []
  picks_more = ap (λ z. picked 0 z ns') (more ∙ ap (λ z. own ++ z ∷ []) place) ∙ (ap (picked 0 (own ++ length (ns ++ between) ∷ [])) grown ∙ owns_more own ns between note low)

-- both lists begin the joined one
pub both_begin : {A : Type 0} (s t r : List A) → r ≡ longer s t → IsPrefix (shorter s t) r → IsPrefix s r × IsPrefix t r
both_begin s t r long short = ⊎_elim
    (λ (h : (longer s t ≡ t) × (shorter s t ≡ s) × (length s ≤ length t)). (subst (λ z. IsPrefix z r) h.1 short, subst (IsPrefix t) (sym (long ∙ h.0)) (prefix_self t)))
    (λ (h : (longer s t ≡ s) × (shorter s t ≡ t) × (length t ≤ length s)). (subst (IsPrefix s) (sym (long ∙ h.0)) (prefix_self s), subst (λ z. IsPrefix z r) h.1 short)) (longer_tells s t)
