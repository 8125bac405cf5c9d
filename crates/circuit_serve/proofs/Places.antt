-- Facts of a list's items by their places.
use Rattle.std.proofs.Common.{◌⊎◌, ⊎_elim, ◌≡◌, ℕ, zero, suc, Bool, true, false, ◌+◌, ◌<◌, ◌≤◌, List, [], ◌∷◌, ◌++◌, length, slice_get, slice_index_or, Option, Some, None, IfSome, inl, inr, ◌↔◌, Contains, append-nil, refl, sym, ap, ◌∙◌, subst, arith, length-append}
use Rattle.std.proofs.lemmas.List.{append_cancel_left}
use Rattle.daemon_edge.specs.declared.spawning.Started.{Started}
use Rattle.daemon_edge.specs.declared.spawning.Started.TheVariants as started
use Rattle.daemon_edge.specs.Workers.{EachWorks, UnlessRefused, WasRefused}

pub if_some_map : {A : Type 0} (o : Option A) (P Q : A → Type 0) → ((a : A) → P a → Q a) → IfSome o P → IfSome o Q
if_some_map None P Q f h = tt
if_some_map (Some a) P Q f h = f a h

-- what is known at each place is known of the item there
pub places_or : {A : Type 0} (xs : List A) (Q : ℕ → A → Type 0) → ((i : ℕ) → IfSome (slice_get xs i) (Q i)) → (k : ℕ) (d : A) → k < length xs → Q k (slice_index_or xs k d)
places_or [] Q all k d l = absurd (omega (arith, l))
places_or (x ∷ xs) Q all zero d l = all 0
places_or (x ∷ xs) Q all (suc k) d l = places_or xs (λ i. Q (suc i)) (λ i. all (suc i)) k d (omega (arith, l))

pub or_places : {A : Type 0} (xs : List A) (Q : ℕ → A → Type 0) → ((k : ℕ) (d : A) → k < length xs → Q k (slice_index_or xs k d)) → (i : ℕ) → IfSome (slice_get xs i) (Q i)
or_places [] Q all i = tt
or_places (x ∷ xs) Q all zero = all 0 x (omega arith)
or_places (x ∷ xs) Q all (suc i) = or_places xs (λ k. Q (suc k)) (λ k d l. all (suc k) d (omega (arith, l))) i

-- all but the last item, each inside; and the last
pub places_front : {A : Type 0} (xs zs : List A) (x : A) (Q : ℕ → A → Type 0) → zs ≡ xs ++ x ∷ [] → ((i : ℕ) → IfSome (slice_get zs i) (Q i)) → (i : ℕ) → IfSome (slice_get xs i) (λ a. (i < length xs) × Q i a)
places_front {A} xs zs x Q is all = front xs Q (λ i. subst (λ (ys : List A). IfSome (slice_get ys i) (Q i)) is (all i))
  where
    front : (xs : List A) (Q : ℕ → A → Type 0) → ((i : ℕ) → IfSome (slice_get (xs ++ x ∷ []) i) (Q i)) → (i : ℕ) → IfSome (slice_get xs i) (λ a. (i < length xs) × Q i a)
    front [] Q all i = tt
    front (y ∷ xs) Q all zero = (omega arith, all 0)
    front (y ∷ xs) Q all (suc i) = if_some_map (slice_get xs i) (λ a. (i < length xs) × Q (suc i) a) (λ a. (suc i < suc (length xs)) × Q (suc i) a) (λ a h. (omega (arith, h.0), h.1)) (front xs (λ i. Q (suc i)) (λ i. all (suc i)) i)

pub place_last : {A : Type 0} (xs zs : List A) (x : A) (Q : ℕ → A → Type 0) → zs ≡ xs ++ x ∷ [] → ((i : ℕ) → IfSome (slice_get zs i) (Q i)) → Q (length xs) x
place_last {A} xs zs x Q is all = last xs Q (λ i. subst (λ (ys : List A). IfSome (slice_get ys i) (Q i)) is (all i))
  where
    last : (xs : List A) (Q : ℕ → A → Type 0) → ((i : ℕ) → IfSome (slice_get (xs ++ x ∷ []) i) (Q i)) → Q (length xs) x
    last [] Q all = all 0
    last (y ∷ xs) Q all = last xs (λ i. Q (suc i)) (λ i. all (suc i))

-- a worker worked, or its start was refused and it is as it was
worked-or : (start : Option Bool) (Worked Same : Type 0) → UnlessRefused start Worked Same → Worked ⊎ Same
worked-or (Some true) Worked Same h = inr h
worked-or (Some false) Worked Same h = inl h
worked-or None Worked Same h = inl h

-- each worker worked, or is as it was where not all started
pub each_place : {W : Type 0} (ws ws' : List W) (works : W → W → Type 0) (faults faults' : ℕ) (answers answers' : List Bool) (st : Started) → EachWorks works faults faults' answers answers' ws ws' st
    → (length ws' ≡ length ws) × ((i : ℕ) (d : W) → i < length ws → works (slice_index_or ws i d) (slice_index_or ws' i d) ⊎ ((slice_index_or ws' i d ≡ slice_index_or ws i d) × (¬ (st ≡ started.All))))
each_place ws ws' works faults faults' answers answers' started.All (later, none, (same, each)) = (same, λ i d l. inl (each i d l))
each_place ws ws' works faults faults' answers answers' started.Refused (later, rose, (refused, adds, some, (same, each))) =
    (same, λ i d l. ⊎_elim (λ w. inl w) (λ e. inr (e, λ all. cc all)) (worked-or (slice_get refused i) _ _ (each i d l)))
each_place ws ws' works faults faults' answers answers' started.OutOfMemory (later, none, same) = (ap (λ z. length z) same, λ i d l. inr (ap (λ z. slice_index_or z i d) same, λ all. cc all))

-- meanwhile none was refused where nothing was answered
pub never_refused : (answers : List Bool) → WasRefused answers answers → ⊥
never_refused answers was =
    let at = subst (λ (xs : List Bool). Contains xs true) (append_cancel_left answers was.0 [] (sym was.1 ∙ sym (append-nil answers))) was.2 in
    omega (arith, at.1)

-- not all started exactly where one was refused
pub refused_so : {W : Type 0} (works : W → W → Type 0) (faults faults' : ℕ) (answers answers' : List Bool) (ws ws' : List W) (st : Started) → EachWorks works faults faults' answers answers' ws ws' st → (st ≡ started.Refused) ↔ WasRefused answers answers'
refused_so works faults faults' answers answers' ws ws' started.All (later, (refused, adds, none), worked) =
    (λ is. absurd (cc is), λ was. absurd (none (subst (λ (xs : List Bool). Contains xs true) (append_cancel_left answers was.0 refused (sym was.1 ∙ adds)) was.2)))
refused_so works faults faults' answers answers' ws ws' started.Refused (later, rose, (refused, adds, some, worked)) = (λ is. (refused, adds, some), λ was. refl)
refused_so works faults faults' answers answers' ws ws' started.OutOfMemory (later, none, same) =
    (λ is. absurd (cc is), λ was. absurd (never_refused answers (was.0, sym none ∙ was.1, was.2)))

-- what was known of each worker before gives what is known of it after
pub after_places : {W : Type 0} (ws ws' : List W) (works : W → W → Type 0) (NotAll : Type 0) (New Run : ℕ → W → Type 0)
    → (length ws' ≡ length ws) × ((i : ℕ) (d : W) → i < length ws → works (slice_index_or ws i d) (slice_index_or ws' i d) ⊎ ((slice_index_or ws' i d ≡ slice_index_or ws i d) × NotAll))
    → ((i : ℕ) → IfSome (slice_get ws i) (New i)) → ((i : ℕ) (w w' : W) → New i w → works w w' → Run i w') → ((i : ℕ) (w : W) → New i w → NotAll → Run i w)
    → (i : ℕ) → IfSome (slice_get ws' i) (Run i)
after_places {W} ws ws' works NotAll New Run each new ran left = or_places ws' Run (λ k d l.
    let inside : k < length ws = omega (arith, l, each.0) in
    let was = places_or ws New new k d inside in
    ⊎_elim (λ w. ran k (slice_index_or ws k d) (slice_index_or ws' k d) was w)
    (λ e. subst (Run k) (sym e.0) (left k (slice_index_or ws k d) was e.1)) (each.1 k d inside))

pub suc_longer : {A : Type 0} (xs zs : List A) (x : A) → zs ≡ xs ++ x ∷ [] → length zs ≡ suc (length xs)
suc_longer xs zs x is = ap (λ z. length z) is ∙ omega (arith, length-append xs (x ∷ []))

-- what is known of the last item alone, and of those before it, by its place
pub item_last : {A : Type 0} (xs zs : List A) (x : A) (Q : A → Type 0) → zs ≡ xs ++ x ∷ [] → ((i : ℕ) → IfSome (slice_get zs i) (λ a. i + 1 ≡ length zs → Q a)) → Q x
item_last xs zs x Q is all = place_last xs zs x (λ i a. i + 1 ≡ length zs → Q a) is all (let longer = suc_longer xs zs x is in omega (arith, longer))

pub items_before : {A : Type 0} (xs zs : List A) (x : A) (Q : ℕ → A → Type 0) → zs ≡ xs ++ x ∷ [] → ((i : ℕ) → IfSome (slice_get zs i) (λ a. i + 1 < length zs → Q i a)) → (i : ℕ) → IfSome (slice_get xs i) (Q i)
items_before xs zs x Q is all i =
    let longer = suc_longer xs zs x is in
    if_some_map (slice_get xs i) _ (Q i) (λ a h. h.1 (let l : i + 1 < length zs = omega (arith, h.0, longer) in l)) (places_front xs zs x (λ i a. i + 1 < length zs → Q i a) is all i)

-- where nothing is left, all came
pub all_taken : {A : Type 0} (all yielded rest : List A) → all ≡ yielded ++ rest → length rest ≡ 0 → length yielded ≡ length all
all_taken all yielded rest is none = sym (ap (λ z. length z) is ∙ omega (arith, length-append yielded rest, none))
