-- The entries of a router after each call.
use Rattle.std.proofs.Common.{◌≡◌, ◌≢◌, ℕ, zero, suc, ◌+◌, ◌-◌, ◌<◌, ◌≤◌, true, List, [], ◌∷◌, ◌++◌, length, get_or, set, ◌⊎◌, inl, inr, refl, sym, ap, ◌∙◌, subst, arith, Some, length-append, get_or-set_same, get_or-set_other}
use Rattle.std.specs.BTreeSet.{insert_key}
use Rattle.std.specs.List.{slice_get, AllByRecursion}
use Rattle.isis_base.specs.Identifiers.{IsId}
use Rattle.std.proofs.lemmas.Bool.{cases_eq, cases_lt}
use Rattle.std.proofs.Math.Seq.{get_or-append_seam}
use Rattle.std.proofs.lemmas.List.{length-set, get_or_append_left}
use Rattle.std.proofs.lemmas.Option.{slice_get_within}
use Rattle.isis_base.specs.declared.identifiers.LspId.{LspId}
use Rattle.isis_base.specs.declared.key.Key.{Key}
use Rattle.lab_keys.specs.Held.{HoldsAsNew, Joins}
use Rattle.lab_keys.specs.KeysNet.{pair_cmp, has_pair, IsCopyAt, IsHeldAt}
use Rattle.lab_keys.specs.Inside.{AreHeld}
use Rattle.lab_keys.proofs.PairLemmas.{has_pair-new, has_pair-kept, has_pair-only}

slice_get-more : {X : Type 0} (xs : List X) (x y : X) (i : ℕ) → slice_get xs i ≡ Some y → slice_get (xs ++ x ∷ []) i ≡ Some y
slice_get-more [] x y i e = cc
slice_get-more (z ∷ xs) x y zero e = e
slice_get-more (z ∷ xs) x y (suc i) e = slice_get-more xs x y i e

slice_get-front : {X : Type 0} (xs : List X) (x y : X) (i : ℕ) → i < length xs → slice_get (xs ++ x ∷ []) i ≡ Some y → slice_get xs i ≡ Some y
slice_get-front [] x y i h e = absurd (omega arith)
slice_get-front (z ∷ xs) x y zero h e = e
slice_get-front (z ∷ xs) x y (suc i) h e = slice_get-front xs x y i (omega arith) e

slice_get-last : {X : Type 0} (xs : List X) (x : X) → slice_get (xs ++ x ∷ []) (length xs) ≡ Some x
slice_get-last [] x = refl
slice_get-last (z ∷ xs) x = slice_get-last xs x

AllByRecursion-push : (copies : List (LspId × Key)) (copy : LspId × Key) → AllByRecursion (λ c. IsId c.0) copies → IsId copy.0 → AllByRecursion (λ c. IsId c.0) (copies ++ copy ∷ [])
AllByRecursion-push [] copy h id = (id, tt)
AllByRecursion-push (x ∷ copies) copy h id = (h.0, AllByRecursion-push copies copy h.1 id)

-- a copy more at a router is joined into its entries
IsHeldAt-join : (copies copies' : List (LspId × Key)) (places places' : List (ℕ × ℕ)) (r : ℕ) (xs ys : List (LspId × Key)) (copy : LspId × Key) → IsHeldAt copies places r xs → Joins xs ys copy
    → ((n : ℕ) (x : LspId × Key) → IsCopyAt copies places r n x → IsCopyAt copies' places' r n x)
    → ((n : ℕ) (x : LspId × Key) → IsCopyAt copies' places' r n x → IsCopyAt copies places r n x ⊎ (x ≡ copy))
    → (n : ℕ) → IsCopyAt copies' places' r n copy → IsHeldAt copies' places' r ys
IsHeldAt-join copies copies' places places' r xs ys copy held joins kept only n new = record {
  rising = joins.rising;
  among = λ e h. elim (joins.among e h) [
    | inl old ↦ (let found = held.among e old in (found.0, kept found.0 e found.1))
    | inr same ↦ (n, subst (λ (x : LspId × Key). IsCopyAt copies' places' r n x) (sym same) new)
  ];
  newest = λ m x h. elim (only m x h) [
    | inl old ↦
        (let by = held.newest m x old in
        let over = joins.old_covered by.0 by.1 in
        (over.0, over.1, over.2 ∙ by.2, let p = over.3 in let q = by.3 in omega arith))
    | inr same ↦ subst (λ (y : LspId × Key). HoldsAsNew ys y) (sym same) joins.copy_covered
  ];
}

-- no copy more at a router
IsHeldAt-same : (copies copies' : List (LspId × Key)) (places places' : List (ℕ × ℕ)) (r : ℕ) (xs : List (LspId × Key)) → IsHeldAt copies places r xs
    → ((n : ℕ) (x : LspId × Key) → IsCopyAt copies places r n x → IsCopyAt copies' places' r n x)
    → ((n : ℕ) (x : LspId × Key) → IsCopyAt copies' places' r n x → IsCopyAt copies places r n x) → IsHeldAt copies' places' r xs
IsHeldAt-same copies copies' places places' r xs held kept only = record {
  rising = held.rising;
  among = λ e h. let found = held.among e h in (found.0, kept found.0 e found.1);
  newest = λ m x h. held.newest m x (only m x h);
}

-- in a list with one element set, what holds of the element and of the others
each-set : {V : Type 0} (held : List V) (r : ℕ) (w : V) (P : ℕ → V → Type 0) → P r w → ((q : ℕ) (d : V) → q < length held → q ≢ r → P q (get_or held q d)) → (q : ℕ) (d : V) → q < length (set held r w) → P q (get_or (set held r w) q d)
each-set held r w P here others q d lt =
    let inside : q < length held = omega (arith, length-set held r w) in
    elim (cases_eq q r) [
      | inl same ↦
          (let at : r < length held = omega arith in
          subst (λ (k : ℕ). P k (get_or (set held r w) k d)) (sym same) (subst (λ (x : _). P r x) (sym (get_or-set_same held r w d at)) here))
      | inr apart ↦ subst (λ (x : _). P q x) (sym (get_or-set_other held r q w d apart)) (others q d inside apart)
    ]

-- room in one router's entries changes nothing
pub AreHeld-room : {V : Type 0} (entries : V → List (LspId × Key)) (copies : List (LspId × Key)) (places : List (ℕ × ℕ)) (held : List V) (r : ℕ) (w x : V) → AreHeld entries copies places held → r < length held → x ≡ get_or held r x → entries w ≡ entries x → AreHeld entries copies places (set held r w)
AreHeld-room entries copies places held r w x are lt read same = record {
  each = each-set held r w (λ q v. IsHeldAt copies places q (entries v))
      (subst (λ (xs : List (LspId × Key)). IsHeldAt copies places r xs) (sym (same ∙ ap entries read)) (are.each r x lt))
      (λ q d h apart. are.each q d h);
  numbered = λ n q h. let old = are.numbered n q h in (old.0, old.1, omega (arith, length-set held r w, old.2));
  ids = are.ids;
}

copy-kept : (copies : List (LspId × Key)) (places : List (ℕ × ℕ)) (r : ℕ) (copy : LspId × Key) (q n : ℕ) (x : LspId × Key) → IsCopyAt copies places q n x → IsCopyAt (copies ++ copy ∷ []) (insert_key pair_cmp places (length copies + 1, r)) q n x
copy-kept copies places r copy q n x h = record {
  some = h.some;
  made = slice_get-more copies copy x (n - 1) h.made;
  there = has_pair-kept places (length copies + 1) r n q h.there;
}

copy-only : (copies : List (LspId × Key)) (places : List (ℕ × ℕ)) (r : ℕ) (copy : LspId × Key) → ((n q : ℕ) → has_pair places n q ≡ true → n ≤ length copies) → (q n : ℕ) (x : LspId × Key) → IsCopyAt (copies ++ copy ∷ []) (insert_key pair_cmp places (length copies + 1, r)) q n x → IsCopyAt copies places q n x ⊎ ((r ≡ q) × (x ≡ copy))
copy-only copies places r copy numbered q n x h =
    elim (has_pair-only places (length copies + 1) r n q h.there) [
      | inl old ↦ inl (record {
        some = h.some;
        made = slice_get-front copies copy x (n - 1) (let some = h.some in let within = numbered n q old in omega arith) h.made;
        there = old;
      })
      | inr new ↦
          (let last : n - 1 ≡ length copies = omega (arith, new.0) in
          let made : slice_get (copies ++ copy ∷ []) (length copies) ≡ Some x = ap (slice_get (copies ++ copy ∷ [])) (sym last) ∙ h.made in
          let same = slice_get-last copies copy in
          inr (new.1, cc))
    ]

-- the next copy is made at a router, and is joined into its entries
pub AreHeld-copy : {V : Type 0} (entries : V → List (LspId × Key)) (copies : List (LspId × Key)) (places : List (ℕ × ℕ)) (held : List V) (r : ℕ) (w x : V) (copy : LspId × Key) → AreHeld entries copies places held → r < length held → x ≡ get_or held r x → Joins (entries x) (entries w) copy → IsId copy.0 → AreHeld entries (copies ++ copy ∷ []) (insert_key pair_cmp places (length copies + 1, r)) (set held r w)
AreHeld-copy entries copies places held r w x copy are lt read joins id =
    let numbered : (n q : ℕ) → has_pair places n q ≡ true → n ≤ length copies = λ n q h. (are.numbered n q h).1 in
    let only = copy-only copies places r copy numbered in
    record {
      each = each-set held r w (λ q v. IsHeldAt (copies ++ copy ∷ []) (insert_key pair_cmp places (length copies + 1, r)) q (entries v))
          (IsHeldAt-join copies _ places _ r _ _ copy (subst (λ (v : _). IsHeldAt copies places r (entries v)) (sym read) (are.each r x lt)) joins (copy-kept copies places r copy r) (λ n x h. elim (only r n x h) [ inl old ↦ inl old | inr new ↦ inr new.1 ]) (length copies + 1)
          (record { some = omega arith; made = (let back : length copies + 1 - 1 ≡ length copies = omega arith in ap (slice_get (copies ++ copy ∷ [])) back ∙ slice_get-last copies copy); there = has_pair-new places (length copies + 1) r }))
          (λ q d h apart. IsHeldAt-same copies _ places _ q _ (are.each q d h) (copy-kept copies places r copy q) (λ n x g. elim (only q n x g) [ inl old ↦ old | inr new ↦ absurd (apart (sym new.0)) ]));
      numbered = λ n q h. elim (has_pair-only places (length copies + 1) r n q h) [
        | inl old ↦ (let was = are.numbered n q old in (was.0, omega (arith, length-append copies (copy ∷ []), was.1), omega (arith, length-set held r w, was.2)))
        | inr new ↦ (omega (arith, new.0), omega (arith, length-append copies (copy ∷ []), new.0), omega (arith, length-set held r w, new.1))
      ];
      ids = AllByRecursion-push copies copy are.ids id;
    }

pass-kept : (copies : List (LspId × Key)) (places : List (ℕ × ℕ)) (m to q n : ℕ) (x : LspId × Key) → IsCopyAt copies places q n x → IsCopyAt copies (insert_key pair_cmp places (m, to)) q n x
pass-kept copies places m to q n x h = record { some = h.some; made = h.made; there = has_pair-kept places m to n q h.there }

pass-only : (copies : List (LspId × Key)) (places : List (ℕ × ℕ)) (m to : ℕ) (copy : LspId × Key) → slice_get copies (m - 1) ≡ Some copy → (q n : ℕ) (x : LspId × Key) → IsCopyAt copies (insert_key pair_cmp places (m, to)) q n x → IsCopyAt copies places q n x ⊎ ((to ≡ q) × (x ≡ copy))
pass-only copies places m to copy made q n x h =
    elim (has_pair-only places m to n q h.there) [
      | inl old ↦ inl (record { some = h.some; made = h.made; there = old })
      | inr new ↦
          (let read : slice_get copies (m - 1) ≡ Some x = ap (λ (k : ℕ). slice_get copies (k - 1)) new.0 ∙ h.made in
          inr (new.1, cc))
    ]

-- a copy that was made is passed to a router, and is joined into its entries
pub AreHeld-pass : {V : Type 0} (entries : V → List (LspId × Key)) (copies : List (LspId × Key)) (places : List (ℕ × ℕ)) (held : List V) (m to : ℕ) (w x : V) (copy : LspId × Key) → AreHeld entries copies places held → to < length held → 0 < m → slice_get copies (m - 1) ≡ Some copy → x ≡ get_or held to x → Joins (entries x) (entries w) copy → AreHeld entries copies (insert_key pair_cmp places (m, to)) (set held to w)
AreHeld-pass entries copies places held m to w x copy are lt some made read joins =
    let only = pass-only copies places m to copy made in
    let within = slice_get_within copies (m - 1) copy made in
    record {
      each = each-set held to w (λ q v. IsHeldAt copies (insert_key pair_cmp places (m, to)) q (entries v))
          (IsHeldAt-join copies copies places _ to _ _ copy (subst (λ (v : _). IsHeldAt copies places to (entries v)) (sym read) (are.each to x lt)) joins (pass-kept copies places m to to) (λ n x h. elim (only to n x h) [ inl old ↦ inl old | inr new ↦ inr new.1 ]) m
          (record { some = some; made = made; there = has_pair-new places m to }))
          (λ q d h apart. IsHeldAt-same copies copies places _ q _ (are.each q d h) (pass-kept copies places m to q) (λ n x g. elim (only q n x g) [ inl old ↦ old | inr new ↦ absurd (apart (sym new.0)) ]));
      numbered = λ n q h. elim (has_pair-only places m to n q h) [
        | inl old ↦ (let was = are.numbered n q old in (was.0, was.1, omega (arith, length-set held to w, was.2)))
        | inr new ↦ (omega (arith, new.0), omega (arith, within, new.0), omega (arith, length-set held to w, new.1))
      ];
      ids = are.ids;
    }

-- a router without copies
pub AreHeld-router : {V : Type 0} (entries : V → List (LspId × Key)) (copies : List (LspId × Key)) (places : List (ℕ × ℕ)) (held : List V) (v : V) → AreHeld entries copies places held → entries v ≡ [] → AreHeld entries copies places (held ++ v ∷ [])
AreHeld-router entries copies places held v are none =
    let more = length-append held (v ∷ []) in
    record {
      each = λ q d lt. elim (cases_lt q (length held)) [
        | inl old ↦ subst (λ (x : _). IsHeldAt copies places q (entries x)) (sym (get_or_append_left held (v ∷ []) d q old)) (are.each q d old)
        | inr new ↦
            (let last : q ≡ length held = omega arith in
            subst (λ (x : _). IsHeldAt copies places q (entries x)) (sym (ap (λ (k : ℕ). get_or (held ++ v ∷ []) k d) last ∙ get_or-append_seam held v [] d))
            (subst (λ (xs : List (LspId × Key)). IsHeldAt copies places q xs) (sym none) (record {
              rising = record { below = λ i j e ij jl. absurd (omega arith) };
              among = λ e h. absurd (let lt = h.1 in omega arith);
              newest = λ n x h. absurd (let was = are.numbered n q h.there in omega (arith, was.2));
            })))
      ];
      numbered = λ n q h. let was = are.numbered n q h in (was.0, was.1, omega (arith, was.2));
      ids = are.ids;
    }
