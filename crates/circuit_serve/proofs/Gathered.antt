-- One circuit's pass more is joined.
use Rattle.std.proofs.Common.{IfSome, ◌≡◌, ◌≢◌, ℕ, zero, suc, ◌+◌, ◌<◌, ◌≤◌, true, false, List, [], ◌∷◌, ◌++◌, length, slice_get, Option, Some, None, ⊎_elim, sym, refl, ap, ◌∙◌, subst, arith, length-append}
use mathlib.Core.Logic.{dite}
use native.Mathlib.Decide.{ℕ_discrete}
use Rattle.std.proofs.lemmas.Bool.Decides.{leb_tells}
use Rattle.turn_lock.specs.declared.noted.Noted as noted
use Rattle.turn_lock.specs.declared.pass.Pass.{Pass}
use Rattle.turn_lock.specs.Passes.{own, seen}
use Rattle.model_router.specs.Routers.{Router}
use Rattle.circuit_threads.specs.declared.journal.Journal.{Ghosts}
use Rattle.circuit_threads.specs.declared.behind.Behind.{Behind}
use Rattle.circuit_threads.specs.declared.behind.Start.{Start}
use Rattle.circuit_threads.specs.declared.entry.JournalEntry.{JournalEntry}
use Rattle.circuit_threads.specs.declared.entry.Note.{Note}
use Rattle.circuit_threads.specs.declared.entry.SubmitFault.{SubmitFault}
use Rattle.circuit_threads.specs.declared.entry.SubmitFault.TheVariants as fault
use Rattle.circuit_serve.specs.declared.end.ServeEnd.{ServeEnd}
use Rattle.circuit_serve.specs.declared.end.ServeEnd.TheVariants.{Done, NotStarted, Journal, OutOfMemory}
use Rattle.circuit_serve.specs.Labels.{by_label}
use Rattle.circuit_serve.specs.Joined.{KeepsStop}
use Rattle.circuit_serve.specs.Walks.{Ran, IsCalm}
use Rattle.circuit_serve.specs.Ends.{end_of, first_end, IsEnd, AtEnd, CircuitIs, Gathers}

get_left : {A : Type 0} (xs ys : List A) (i : ℕ) → i < length xs → slice_get (xs ++ ys) i ≡ slice_get xs i
get_left [] ys i l = absurd (omega (arith, l))
get_left (x ∷ xs) ys zero l = refl
get_left (x ∷ xs) ys (suc i) l = get_left xs ys i (omega (arith, l))

pub get_last : {A : Type 0} (xs ys : List A) (x : A) → slice_get (xs ++ x ∷ ys) (length xs) ≡ Some x
get_last [] ys x = refl
get_last (y ∷ xs) ys x = get_last xs ys x

pub get_inside : {A : Type 0} (xs : List A) (x : A) (i : ℕ) → slice_get xs i ≡ Some x → i < length xs
get_inside [] x i e = absurd (cc e)
get_inside (y ∷ xs) x zero e = omega arith
get_inside (y ∷ xs) x (suc i) e = omega (arith, get_inside xs x i e)

pub some_same : {A : Type 0} (x y : A) → Some x ≡ Some y → x ≡ y
some_same x y e = cc e

below : (i n : ℕ) → i < n + 1 → i ≢ n → i < n
below i n l apart = ⊎_elim (λ (t : (Rattle.std.specs.Prelude.leb (i + 1) n ≡ true) × (i + 1 ≤ n)). omega (arith, t.1))
    (λ (t : (Rattle.std.specs.Prelude.leb (i + 1) n ≡ false) × (n < i + 1)). let z : i ≡ n = omega (arith, t.1, l) in absurd (apart z)) (leb_tells (i + 1) n)

pub if_some_at : {A : Type 0} (o : Option A) (P : A → Type 0) (x : A) → o ≡ Some x → IfSome o P → P x
if_some_at o P x at holds = subst (λ z. IfSome z P) at holds

-- ---- ends

-- of two ends the one that is answered, where passes are joined
pub joined_end : (start : Router) (one two now : List Note) (a b : ServeEnd) → KeepsStop start one now → KeepsStop start two now → (IsCalm start one → IsCalm start two → IsCalm start now)
    → IsEnd start one a → IsEnd start two b → IsEnd start now (first_end a b)
joined_end start one two now NotStarted b keeps keeps' calm x y = tt
joined_end start one two now (Journal n) NotStarted keeps keeps' calm x y = tt
joined_end start one two now (Journal n) (Journal m) keeps keeps' calm x y = keeps n x
joined_end start one two now (Journal n) OutOfMemory keeps keeps' calm x y = keeps n x
joined_end start one two now (Journal n) Done keeps keeps' calm x y = keeps n x
joined_end start one two now OutOfMemory NotStarted keeps keeps' calm x y = tt
joined_end start one two now OutOfMemory (Journal m) keeps keeps' calm x y = keeps' m y
joined_end start one two now OutOfMemory OutOfMemory keeps keeps' calm x y = calm x y
joined_end start one two now OutOfMemory Done keeps keeps' calm x y = calm x y
joined_end start one two now Done NotStarted keeps keeps' calm x y = tt
joined_end start one two now Done (Journal m) keeps keeps' calm x y = keeps' m y
joined_end start one two now Done OutOfMemory keeps keeps' calm x y = calm x y
joined_end start one two now Done Done keeps keeps' calm x y = calm x y

pub both_done : (a b : ServeEnd) → first_end a b ≡ Done → (a ≡ Done) × (b ≡ Done)
both_done NotStarted b is = absurd (cc is)
both_done (Journal n) NotStarted is = absurd (cc is)
both_done (Journal n) (Journal m) is = absurd (cc is)
both_done (Journal n) OutOfMemory is = absurd (cc is)
both_done (Journal n) Done is = absurd (cc is)
both_done OutOfMemory NotStarted is = absurd (cc is)
both_done OutOfMemory (Journal m) is = absurd (cc is)
both_done OutOfMemory OutOfMemory is = absurd (cc is)
both_done OutOfMemory Done is = absurd (cc is)
both_done Done b is = (refl, is)

pub not_started : (a : ServeEnd) (f : Option SubmitFault) → first_end a (end_of f) ≡ NotStarted → a ≡ NotStarted
not_started NotStarted f is = refl
not_started (Journal n) None is = absurd (cc is)
not_started (Journal n) (Some fault.OutOfMemory) is = absurd (cc is)
not_started (Journal n) (Some (fault.JournalFault r)) is = absurd (cc is)
not_started (Journal n) (Some (fault.Stopped m)) is = absurd (cc is)
not_started OutOfMemory None is = absurd (cc is)
not_started OutOfMemory (Some fault.OutOfMemory) is = absurd (cc is)
not_started OutOfMemory (Some (fault.JournalFault r)) is = absurd (cc is)
not_started OutOfMemory (Some (fault.Stopped m)) is = absurd (cc is)
not_started Done None is = absurd (cc is)
not_started Done (Some fault.OutOfMemory) is = absurd (cc is)
not_started Done (Some (fault.JournalFault r)) is = absurd (cc is)
not_started Done (Some (fault.Stopped m)) is = absurd (cc is)

-- ---- passes

module _ {P : Type 0} (given offered : P → List (List ℕ)) (asked : P → ℕ) where
  pub weaker : (turns c : ℕ) (port : P) (es es' : List JournalEntry) (Well Now : Type 0) → es' ≡ es → (Now → Well) → CircuitIs given offered asked turns c port es Well → CircuitIs given offered asked turns c port es' Now
  weaker turns c port es es' Well Now same why was = (
    subst (λ (z : List JournalEntry). AtEnd c z (given port) (offered port)) (sym same) was.0,
    λ now. subst (λ (z : List JournalEntry). Ran c z (given port) (offered port) (asked port) turns None) (sym same) (was.1 (why now)),
  )

  module _ {J : Type 0} {journal : Ghosts J} {tells : noted.Ghosts (Behind J journal) Note (Start J)} (turns : ℕ) (ports : List P) (port : P) (p q r : Pass (Behind J journal) Note (Start J) tells) (Well One Now : Type 0)
      (was : Gathers given offered asked turns ports p Well) (only : (d : ℕ) → d ≢ length ports + 1 → by_label d (own q) (seen q) ≡ [])
      (is : CircuitIs given offered asked turns (length ports + 1) port (by_label (length ports + 1) (own q) (seen q)) One)
      (all : Now → Well) (one : Now → One)
      (first : (c : ℕ) → by_label c (own q) (seen q) ≡ [] → by_label c (own r) (seen r) ≡ by_label c (own p) (seen p))
      (second : (c : ℕ) → by_label c (own p) (seen p) ≡ [] → by_label c (own r) (seen r) ≡ by_label c (own q) (seen q)) where
    abbrev n : ℕ
    n = length ports

    longer : length (ports ++ port ∷ []) ≡ n + 1
    longer = omega (arith, length-append ports (port ∷ []))

    last : (i : ℕ) (x : P) → i ≡ n → slice_get (ports ++ port ∷ []) i ≡ Some x → CircuitIs given offered asked turns (i + 1) x (by_label (i + 1) (own r) (seen r)) Now
    last i x here at =
        let same : port ≡ x = some_same port x (sym (get_last ports [] port) ∙ (ap (slice_get (ports ++ port ∷ [])) (sym here) ∙ at)) in
        let none : by_label (n + 1) (own p) (seen p) ≡ [] = was.others (n + 1) (omega arith) in
        let found : CircuitIs given offered asked turns (n + 1) port (by_label (n + 1) (own r) (seen r)) Now = weaker turns (n + 1) port (by_label (n + 1) (own q) (seen q)) (by_label (n + 1) (own r) (seen r)) One Now (second (n + 1) none) one is in
        subst (λ k. CircuitIs given offered asked turns (k + 1) x (by_label (k + 1) (own r) (seen r)) Now) (sym here)
        (subst (λ (y : P). CircuitIs given offered asked turns (n + 1) y (by_label (n + 1) (own r) (seen r)) Now) same found)

    before : (i : ℕ) (x : P) → i < n → slice_get (ports ++ port ∷ []) i ≡ Some x → CircuitIs given offered asked turns (i + 1) x (by_label (i + 1) (own r) (seen r)) Now
    before i x l at =
        let none : by_label (i + 1) (own q) (seen q) ≡ [] = only (i + 1) (λ e. absurd (omega (arith, l, e))) in
        weaker turns (i + 1) x (by_label (i + 1) (own p) (seen p)) (by_label (i + 1) (own r) (seen r)) Well Now (first (i + 1) none) all (was.circuits i x (sym (get_left ports (port ∷ []) i l) ∙ at))

    pub gathers_more : Gathers given offered asked turns (ports ++ port ∷ []) r Now
    gathers_more = record {
      circuits = λ i x at.
          let inside : i < n + 1 = omega (arith, get_inside (ports ++ port ∷ []) x i at, longer) in
          dite (ℕ_discrete i n) (λ here. last i x here at) (λ apart. before i x (below i n inside apart) at);
      others = λ d past.
          let z : n + 1 < d = omega (arith, past, longer) in
          first d (only d (λ e. absurd (omega (arith, z, e)))) ∙ was.others d (omega (arith, z));
    }

    pub label_zero : by_label 0 (own r) (seen r) ≡ by_label 0 (own p) (seen p)
    label_zero = first 0 (only 0 (λ e. absurd (omega (arith, e))))

  pub gathers_none : {J : Type 0} {journal : Ghosts J} {tells : noted.Ghosts (Behind J journal) Note (Start J)} (turns : ℕ) (ports : List P) (p : Pass (Behind J journal) Note (Start J) tells) (Well : Type 0) → ports ≡ []
      → ((d : ℕ) → 0 < d → by_label d (own p) (seen p) ≡ []) → Gathers given offered asked turns ports p Well
  gathers_none turns ports p Well none only = record {
    circuits = λ i port at. absurd (cc (sym at ∙ ap (λ xs. slice_get xs i) none));
    others = λ d past. only d (omega (arith, past));
  }

-- one item more of a list, of each of which something is known at its place
pub places_more : {A : Type 0} (xs zs : List A) (x : A) (Q : ℕ → A → Type 0) → zs ≡ xs ++ x ∷ [] → ((i : ℕ) → IfSome (slice_get xs i) (Q i)) → Q (length xs) x → (i : ℕ) → IfSome (slice_get zs i) (Q i)
places_more {A} xs zs x Q is was one i = subst (λ (ys : List A). IfSome (slice_get ys i) (Q i)) (sym is) (at_places xs x Q was one i)
  where
    at_places : {A : Type 0} (xs : List A) (x : A) (Q : ℕ → A → Type 0) → ((i : ℕ) → IfSome (slice_get xs i) (Q i)) → Q (length xs) x → (i : ℕ) → IfSome (slice_get (xs ++ x ∷ []) i) (Q i)
    at_places [] x Q was one zero = one
    at_places [] x Q was one (suc i) = tt
    at_places (y ∷ xs) x Q was one zero = was 0
    at_places (y ∷ xs) x Q was one (suc i) = at_places xs x (λ i. Q (suc i)) (λ i. was (suc i)) one i

pub one_longer : {A : Type 0} (xs zs : List A) (n : ℕ) (x : A) → zs ≡ xs ++ x ∷ [] → length xs + 1 ≡ n → length zs ≡ n
one_longer xs zs n x is count = ap (λ z. length z) is ∙ omega (arith, length-append xs (x ∷ []), count)
