-- One's own prefixes that two lists begin or end with alike, and those that are apart.
use Rattle.std.proofs.Common.{◌≡◌, ℕ, ◌+◌, ◌-◌, ◌≤◌, ◌<◌, List, [], ◌∷◌, ◌++◌, None, length, map, take, drop, get_or, sym, subst, arith, inl, inr}
use Rattle.std.specs.List.{Contains}
use Rattle.std.proofs.lemmas.List.{drop_more, take_more}
use Rattle.std.proofs.lemmas.List.Elements.{Contains-append_left, Contains-append_right, Contains-append_cases}
use Rattle.isis_base.specs.declared.prefix.Prefix.{Prefix}
use Rattle.router_routes.specs.declared.lent.Lent.{Lent}
use Rattle.router_routes.specs.declared.told.Told.{Told}
use Rattle.router_routes.specs.declared.view.View.{View}
use Rattle.router_routes.specs.Moved.{AreViewed, outlook_at}
use Rattle.router_routes.specs.Outlooks.{outlook_in}
use Rattle.router_routes.specs.Touched.{AreOwnIn, HaveOwn}
use Rattle.router_routes.proofs.AheadLemmas.{prefixes-stay}
use Rattle.router_routes.proofs.NumberLemmas.{in-map}

abbrev pub Own : Type 0
Own = Prefix × ℕ

-- a pair that both lists begin with
kept-past : (some others : List Own) (prefixes : List Prefix) (k : ℕ) (d e : Own) → k < length some → k < length others → get_or some k d ≡ get_or others k e → AreOwnIn (drop (k + 1) some) (drop (k + 1) others) prefixes → AreOwnIn (drop k some) (drop k others) prefixes
kept-past some others prefixes k d e in-some in-others same kept own is =
    let x = get_or some k d in
    let y = get_or others k e in
    let split : Contains ((x ∷ []) ++ drop (k + 1) some) own = subst (λ (l : List Own). Contains l own) (drop_more some k d in-some) is in
    let whole : Contains ((y ∷ []) ++ drop (k + 1) others) own → Contains (drop k others) own = subst (λ (l : List Own). Contains l own) (sym (drop_more others k e in-others)) in
    elim (Contains-append_cases (x ∷ []) (drop (k + 1) some) own split) [
      | inl first ↦ inl (whole (Contains-append_left (y ∷ []) (drop (k + 1) others) own (subst (λ (z : Own). Contains (z ∷ []) own) same first)))
      | inr rest ↦
          elim (kept own rest) [
            | inl there ↦ inl (whole (Contains-append_right (y ∷ []) (drop (k + 1) others) own there))
            | inr listed ↦ inr listed
          ]
    ]

-- a pair that both lists end with
kept-before : (some others : List Own) (prefixes : List Prefix) (i j : ℕ) (d e : Own) → i < length some → j < length others → get_or some i d ≡ get_or others j e → AreOwnIn (take i some) (take j others) prefixes → AreOwnIn (take (i + 1) some) (take (j + 1) others) prefixes
kept-before some others prefixes i j d e in-some in-others same kept own is =
    let x = get_or some i d in
    let y = get_or others j e in
    let split : Contains (take i some ++ x ∷ []) own = subst (λ (l : List Own). Contains l own) (take_more some i d in-some) is in
    let whole : Contains (take j others ++ y ∷ []) own → Contains (take (j + 1) others) own = subst (λ (l : List Own). Contains l own) (sym (take_more others j e in-others)) in
    elim (Contains-append_cases (take i some) (x ∷ []) own split) [
      | inl rest ↦
          elim (kept own rest) [
            | inl there ↦ inl (whole (Contains-append_left (take j others) (y ∷ []) own there))
            | inr listed ↦ inr listed
          ]
      | inr last ↦ inl (whole (Contains-append_right (take j others) (y ∷ []) own (subst (λ (z : Own). Contains (z ∷ []) own) same last)))
    ]

-- what is left decides, one pair further on
pub past-turn : (old new : List Own) (k : ℕ) (d e : Own) → k < length old → k < length new → get_or old k d ≡ get_or new k e → ((prefixes : List Prefix) → HaveOwn (drop k old) (drop k new) prefixes → HaveOwn old new prefixes) → (prefixes : List Prefix) → HaveOwn (drop (k + 1) old) (drop (k + 1) new) prefixes → HaveOwn old new prefixes
past-turn old new k d e in-old in-new same so-far prefixes have =
    so-far prefixes (record {
      before = kept-past old new prefixes k d e in-old in-new same have.before;
      after = kept-past new old prefixes k e d in-new in-old (sym same) have.after;
    })

pub before-turn : (old new : List Own) (i j : ℕ) (d e : Own) → 0 < i → 0 < j → i ≤ length old → j ≤ length new → get_or old (i - 1) d ≡ get_or new (j - 1) e → ((prefixes : List Prefix) → HaveOwn (take i old) (take j new) prefixes → HaveOwn old new prefixes) → (prefixes : List Prefix) → HaveOwn (take (i - 1) old) (take (j - 1) new) prefixes → HaveOwn old new prefixes
before-turn old new i j d e some-old some-new in-old in-new same so-far prefixes have =
    let a : i - 1 < length old = omega (arith, some-old, in-old) in
    let b : j - 1 < length new = omega (arith, some-new, in-new) in
    let p : i - 1 + 1 ≡ i = omega (arith, some-old) in
    let q : j - 1 + 1 ≡ j = omega (arith, some-new) in
    let next : HaveOwn (take (i - 1 + 1) old) (take (j - 1 + 1) new) prefixes = record {
      before = kept-before old new prefixes (i - 1) (j - 1) d e a b same have.before;
      after = kept-before new old prefixes (j - 1) (i - 1) e d b a (sym same) have.after;
    } in
    so-far prefixes (subst (λ (m : ℕ). HaveOwn (take m old) (take j new) prefixes) p (subst (λ (n : ℕ). HaveOwn (take (i - 1 + 1) old) (take n new) prefixes) q next))

-- ---- the prefixes that are listed

own-from : (some others : List Own) (xs ys : List Prefix) → ((q : Prefix) → Contains xs q → Contains ys q) → AreOwnIn some others xs → AreOwnIn some others ys
own-from some others xs ys from kept own is =
    elim (kept own is) [
      | inl there ↦ inl there
      | inr listed ↦ inr (from own.0 listed)
    ]

-- where more prefixes are listed
pub own-more : (old new : List Own) (xs ys : List Prefix) → ((q : Prefix) → Contains xs q → Contains ys q) → HaveOwn old new xs → HaveOwn old new ys
own-more old new xs ys from have = record { before = own-from old new xs ys from have.before; after = own-from new old xs ys from have.after }

own-map : (own : Own) (list : List Own) → Contains list own → Contains (map (λ (one : Own). one.0) list) own.0
own-map own list there = in-map (λ (one : Own). one.0) list own there

-- where all of both lists are
pub own-listed : (old new : List Own) (p0 p1 p2 : List Prefix) → p1 ≡ p0 ++ map (λ (one : Own). one.0) old → p2 ≡ p1 ++ map (λ (one : Own). one.0) new → HaveOwn old new p2
own-listed old new p0 p1 p2 e1 e2 =
    record {
      before = λ own is. inr (subst (λ (ps : List Prefix). Contains ps own.0) (sym e2) (Contains-append_left p1 _ own.0 (subst (λ (ps : List Prefix). Contains ps own.0) (sym e1) (Contains-append_right p0 _ own.0 (own-map own old is)))));
      after = λ own is. inr (subst (λ (ps : List Prefix). Contains ps own.0) (sym e2) (Contains-append_right p1 _ own.0 (own-map own new is)));
    }

-- as a view and what is lent have them
pub own-stay : (lent : Lent) (told : Told) (view : View) (prefixes : List Prefix) → AreViewed lent told view → told.prefixes ≡ None → HaveOwn (outlook_in lent).prefixes (outlook_at view).prefixes prefixes
own-stay lent told view prefixes viewed none =
    let same = prefixes-stay lent told view viewed none in
    record {
      before = λ own is. inl (subst (λ (l : List Own). Contains l own) (sym same) is);
      after = λ own is. inl (subst (λ (l : List Own). Contains l own) same is);
    }

pub own-of : (lent : Lent) (view : View) (prefixes : List Prefix) → HaveOwn lent.prefixes.now view.prefixes.now prefixes → HaveOwn (outlook_in lent).prefixes (outlook_at view).prefixes prefixes
unfolding outlook_in outlook_at
own-of lent view prefixes have = have
