-- How many entries 256 fragments hold.
use Rattle.std.proofs.Common.{◌≡◌, ℕ, zero, suc, ◌+◌, ◌<◌, ◌≤◌, Bool, true, false, List, [], ◌∷◌, ◌++◌, length, take, Some, None, Err, if◌then◌else◌, refl, sym, ap, ◌∙◌, zero-le, arith}
use Rattle.model_router.specs.Splits.{Item, Draft, Split, whole, holds_more, with_item, filled, split}
use Rattle.lsp_fragments.specs.declared.fault.SplitFault.{SplitFault}
use Rattle.lsp_fragments.specs.declared.fault.SplitFault.TheVariants.{TooMuch, OutOfMemory}
use Rattle.lsp_fragments.specs.Fits.{put_all, count_put, IsFit, IsFault, IsPut, fit_of, fault_behind}

-- by a test's two answers
choose : (P : Bool → Type 0) (t : Bool) → P true → P false → P t
choose P true a b = a
choose P false a b = b

-- ---- entries behind others

pub put_all-append : (room : ℕ) (d e : Draft) (xs ys : List Item) → put_all room d xs ≡ Some e → put_all room d (xs ++ ys) ≡ put_all room e ys
put_all-append room d e [] ys h = let same : d ≡ e = cc in ap (λ (d : Draft). put_all room d ys) same
put_all-append room d e (x ∷ xs) ys h =
    let next = with_item room d x in
    choose (λ t. (if t then put_all room next xs else None) ≡ Some e → (if t then put_all room next (xs ++ ys) else None) ≡ put_all room e ys) (holds_more room d x)
    (λ k. put_all-append room next e xs ys k) (λ k. absurd (cc)) h

pub put_all-stopped : (room : ℕ) (d : Draft) (xs ys : List Item) → put_all room d xs ≡ None → put_all room d (xs ++ ys) ≡ None
put_all-stopped room d [] ys h = absurd (cc)
put_all-stopped room d (x ∷ xs) ys h =
    let next = with_item room d x in
    choose (λ t. (if t then put_all room next xs else None) ≡ None → (if t then put_all room next (xs ++ ys) else None) ≡ None) (holds_more room d x)
    (λ k. put_all-stopped room next xs ys k) (λ k. refl) h

pub count_put-append : (room : ℕ) (d e : Draft) (xs ys : List Item) → put_all room d xs ≡ Some e → count_put room d (xs ++ ys) ≡ length xs + count_put room e ys
count_put-append room d e [] ys h = let same : d ≡ e = cc in let k = ap (λ (d : Draft). count_put room d ys) same in omega (arith, k)
count_put-append room d e (x ∷ xs) ys h =
    let next = with_item room d x in
    choose (λ t. (if t then put_all room next xs else None) ≡ Some e → (if t then suc (count_put room next (xs ++ ys)) else 0) ≡ suc (length xs) + count_put room e ys) (holds_more room d x)
    (λ k. let more = count_put-append room next e xs ys k in omega (arith, more)) (λ k. absurd (cc)) h

pub count_put-stopped : (room : ℕ) (d : Draft) (xs ys : List Item) → put_all room d xs ≡ None → count_put room d (xs ++ ys) ≡ count_put room d xs
count_put-stopped room d [] ys h = absurd (cc)
count_put-stopped room d (x ∷ xs) ys h =
    let next = with_item room d x in
    choose (λ t. (if t then put_all room next xs else None) ≡ None → (if t then suc (count_put room next (xs ++ ys)) else 0) ≡ (if t then suc (count_put room next xs) else 0)) (holds_more room d x)
    (λ k. ap suc (count_put-stopped room next xs ys k)) (λ k. refl) h

-- ---- the split of the router's model, by what was put in

pub filled-all : (room : ℕ) (d e : Draft) (xs : List Item) → put_all room d xs ≡ Some e → filled room d xs ≡ record { fragments = e.done ++ whole e ∷ []; whole = true }
filled-all room d e [] h = let same : d ≡ e = cc in ap (λ (d : Draft). record { fragments = d.done ++ whole d ∷ []; whole = true }) same
filled-all room d e (x ∷ xs) h =
    let next = with_item room d x in
    let stop : Split = record { fragments = d.done ++ whole d ∷ []; whole = false } in
    choose (λ t. (if t then put_all room next xs else None) ≡ Some e → (if t then filled room next xs else stop) ≡ record { fragments = e.done ++ whole e ∷ []; whole = true }) (holds_more room d x)
    (λ k. filled-all room next e xs k) (λ k. absurd (cc)) h

pub filled-append : (room : ℕ) (d e : Draft) (xs ys : List Item) → put_all room d xs ≡ Some e → filled room d (xs ++ ys) ≡ filled room e ys
filled-append room d e [] ys h = let same : d ≡ e = cc in ap (λ (d : Draft). filled room d ys) same
filled-append room d e (x ∷ xs) ys h =
    let next = with_item room d x in
    let stop : Split = record { fragments = d.done ++ whole d ∷ []; whole = false } in
    choose (λ t. (if t then put_all room next xs else None) ≡ Some e → (if t then filled room next (xs ++ ys) else stop) ≡ filled room e ys) (holds_more room d x)
    (λ k. filled-append room next e xs ys k) (λ k. absurd (cc)) h

filled-stopped : (room : ℕ) (d : Draft) (xs : List Item) → put_all room d xs ≡ None → (filled room d xs).whole ≡ false
filled-stopped room d [] h = absurd (cc)
filled-stopped room d (x ∷ xs) h =
    let next = with_item room d x in
    let stop : Split = record { fragments = d.done ++ whole d ∷ []; whole = false } in
    choose (λ t. (if t then put_all room next xs else None) ≡ None → (if t then filled room next xs else stop).whole ≡ false) (holds_more room d x)
    (λ k. filled-stopped room next xs k) (λ k. refl) h

count_put-part : (room : ℕ) (d : Draft) (xs : List Item) → put_all room d xs ≡ None → count_put room d xs < length xs
count_put-part room d [] h = absurd (cc)
count_put-part room d (x ∷ xs) h =
    let next = with_item room d x in
    choose (λ t. (if t then put_all room next xs else None) ≡ None → (if t then suc (count_put room next xs) else 0) < suc (length xs)) (holds_more room d x)
    (λ k. let less = count_put-part room next xs k in omega (arith, less)) (λ k. omega arith) h

filled-held : (room : ℕ) (d : Draft) (xs : List Item) → filled room d (take (count_put room d xs) xs) ≡ record { fragments = (filled room d xs).fragments; whole = true }
filled-held room d [] = refl
filled-held room d (x ∷ xs) =
    let next = with_item room d x in
    let stop : Split = record { fragments = d.done ++ whole d ∷ []; whole = false } in
    let held = filled-held room next xs in
    choose (λ t. holds_more room d x ≡ t → filled room d (take (if t then suc (count_put room next xs) else 0) (x ∷ xs)) ≡ record { fragments = (if t then filled room next xs else stop).fragments; whole = true }) (holds_more room d x)
    (λ e. ap (λ (t : Bool). if t then filled room next (take (count_put room next xs) xs) else record { fragments = d.done ++ whole d ∷ []; whole = false }) e ∙ held) (λ e. refl) refl

filled-most : (room : ℕ) (d : Draft) (xs : List Item) (n : ℕ) → put_all room d xs ≡ None → (filled room d (take n xs)).whole ≡ true → n ≤ count_put room d xs
filled-most room d [] n h w = absurd (cc)
filled-most room d (x ∷ xs) zero h w = zero-le
filled-most room d (x ∷ xs) (suc n) h w =
    let next = with_item room d x in
    let stop : Split = record { fragments = d.done ++ whole d ∷ []; whole = false } in
    choose (λ t. (if t then put_all room next xs else None) ≡ None → (if t then filled room next (take n xs) else stop).whole ≡ true → suc n ≤ (if t then suc (count_put room next xs) else 0)) (holds_more room d x)
    (λ k u. let le = filled-most room next xs n k u in omega (arith, le)) (λ k u. absurd (cc)) h w

-- ---- what comes of entries that are put in

pub first-fault : (room : ℕ) (d : Draft) (xs ys : List Item) (f : SplitFault) → IsPut room d xs (Err f) → IsPut room d (xs ++ ys) (Err f)
first-fault room d xs ys (TooMuch fit) h =
    (put_all-stopped room d xs ys h.0, h.1 ∙ sym (count_put-stopped room d xs ys h.0))
first-fault room d xs ys OutOfMemory h = tt

pub second-fault : (room : ℕ) (d e : Draft) (xs ys : List Item) (f : SplitFault) → put_all room d xs ≡ Some e → IsPut room e ys (Err f) → IsPut room d (xs ++ ys) (Err (fault_behind (length xs) f))
second-fault room d e xs ys (TooMuch fit) all h =
    (put_all-append room d e xs ys all ∙ h.0, ap (λ (n : ℕ). length xs + n) h.1 ∙ sym (count_put-append room d e xs ys all))
second-fault room d e xs ys OutOfMemory all h = tt

pub fit-less : (room : ℕ) (d : Draft) (xs : List Item) (f : SplitFault) → IsPut room d xs (Err f) → fit_of f ≤ length xs
fit-less room d xs (TooMuch fit) h = let less = count_put-part room d xs h.0 in let e = h.1 in omega (arith, less, e)
fit-less room d xs OutOfMemory h = zero-le

pub split-all : (first : List ℕ) (room : ℕ) (e : Draft) (xs : List Item) → put_all room (record { done = []; closed = first; code = 0; value = [] }) xs ≡ Some e → split first xs room ≡ record { fragments = e.done ++ whole e ∷ []; whole = true }
unfolding split
split-all first room e xs h = filled-all room _ e xs h

split-fit : (first : List ℕ) (room fit : ℕ) (xs : List Item) → put_all room (record { done = []; closed = first; code = 0; value = [] }) xs ≡ None → fit ≡ count_put room (record { done = []; closed = first; code = 0; value = [] }) xs → IsFit first xs room fit
unfolding split
split-fit first room fit xs h e =
    let start : Draft = record { done = []; closed = first; code = 0; value = [] } in
    record {
      part = (let less = count_put-part room start xs h in omega (arith, e, less));
      held = ap (λ (n : ℕ). filled room start (take n xs)) e ∙ filled-held room start xs;
      most = λ n w. (let le = filled-most room start xs n h w in omega (arith, e, le));
    }

pub split-fault : (first : List ℕ) (room : ℕ) (xs : List Item) (f : SplitFault) → IsPut room (record { done = []; closed = first; code = 0; value = [] }) xs (Err f) → IsFault first xs room f
unfolding split
split-fault first room xs (TooMuch fit) h = (filled-stopped room _ xs h.0, split-fit first room fit xs h.0 h.1)
split-fault first room xs OutOfMemory h = tt
