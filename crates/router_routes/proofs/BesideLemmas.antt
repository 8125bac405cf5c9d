-- What is reached where some nodes moved, level by level, and the candidates that it gives.
use Rattle.std.proofs.Common.{◌≡◌, ◌∙◌, ℕ, Bool, true, false, ◌||◌, not, List, [], ◌∷◌, ◌++◌, ◌⊎◌, filter, refl, sym, ap, subst, inl, inr}
use Rattle.std.specs.List.{Contains, flat_map, list_any}
use Rattle.std.proofs.lemmas.List.Elements.{Contains-append_left, Contains-append_right, Contains-append_cases}
use Rattle.isis_base.specs.declared.identifiers.SystemId.{SystemId}
use Rattle.isis_base.specs.declared.identifiers.NodeId.{NodeId}
use Rattle.isis_base.specs.declared.identifiers.LspId.{LspId}
use Rattle.isis_base.specs.declared.level.Level.TheVariants as level
use Rattle.lsp_store.specs.declared.entry.Entry.{Entry}
use Rattle.spf_tree.specs.Nodes.{node_number}
use Rattle.spf_tree.specs.Distances.{cost_at}
use Rattle.spf_tree.proofs.SearchLemmas.{contains_first, contains_rest, contains_cases, contains_none}
use Rattle.route_table.specs.declared.candidate.Candidate.{Candidate}
use Rattle.router_routes.specs.Moved.{HaveIds, told_by_nodes, AreNodes, is_among, is_beside}
use Rattle.router_routes.specs.Candidates.{reached_by, system_ways}
use Rattle.router_routes.specs.Kept.{AreSame, CostBeside, stays, systems_among, IsTelling}
use Rattle.router_routes.proofs.KeptLemmas.{filter-in, in-filter, stays-told, moved-in, added-in, telling-ways}

abbrev Pair : Type 0
Pair = LspId × Entry

abbrev Reached : Type 0
Reached = SystemId × ℕ

-- ---- lists of the same members

pub same-refl : {X : Type 0} (xs ys : List X) → xs ≡ ys → AreSame xs ys
same-refl xs ys e x = (λ there. subst (λ (l : List _). Contains l x) e there, λ there. subst (λ (l : List _). Contains l x) (sym e) there)

pub same-both : {X : Type 0} (xs ys zs : List X) → AreSame xs ys → AreSame ys zs → AreSame xs zs
same-both xs ys zs f g x = (λ there. (g x).0 ((f x).0 there), λ there. (f x).1 ((g x).1 there))

pub same-back : {X : Type 0} (xs ys : List X) → AreSame xs ys → AreSame ys xs
same-back xs ys f x = ((f x).1, (f x).0)

append-to : {X : Type 0} (xs ys us vs : List X) → ((x : X) → Contains xs x → Contains us x) → ((x : X) → Contains ys x → Contains vs x) → (x : X) → Contains (xs ++ ys) x → Contains (us ++ vs) x
append-to xs ys us vs f g x there =
    elim (Contains-append_cases xs ys x there) [
      | inl here ↦ Contains-append_left us vs x (f x here)
      | inr more ↦ Contains-append_right us vs x (g x more)
    ]

pub same-append : {X : Type 0} (xs ys us vs : List X) → AreSame xs us → AreSame ys vs → AreSame (xs ++ ys) (us ++ vs)
same-append xs ys us vs f g x = (append-to xs ys us vs (λ y. (f y).0) (λ y. (g y).0) x, append-to us vs xs ys (λ y. (f y).1) (λ y. (g y).1) x)

-- of a test that both pass
pub same-filter : {X : Type 0} (p : X → Bool) (xs ys : List X) → AreSame xs ys → AreSame (filter p xs) (filter p ys)
same-filter p xs ys same x = (
  λ there. (let o = filter-in p xs x there in in-filter p ys x ((same x).0 o.0) o.1),
  λ there. (let o = filter-in p ys x there in in-filter p xs x ((same x).1 o.0) o.1),
)

any-step : {X : Type 0} (p : X → Bool) (x : X) (xs : List X) → (list_any p xs ≡ true → (y : X) × Contains xs y × (p y ≡ true)) → (t : Bool) → p x ≡ t → (t || list_any p xs) ≡ true → (y : X) × Contains (x ∷ xs) y × (p y ≡ true)
any-step p x xs rest true is any = (x, contains_first x xs, is)
any-step p x xs rest false is any = let o = rest any in (o.0, contains_rest x o.0 xs o.1, o.2)

pub any-in : {X : Type 0} (p : X → Bool) (xs : List X) → list_any p xs ≡ true → (y : X) × Contains xs y × (p y ≡ true)
any-in p [] any = absurd (let e : false ≡ true = any in cc)
any-in p (x ∷ xs) any = any-step p x xs (any-in p xs) (p x) refl any

in-any-step : {X : Type 0} (p : X → Bool) (x y : X) (xs : List X) → (x ≡ y) ⊎ (list_any p xs ≡ true) → p y ≡ true → (t : Bool) → p x ≡ t → (t || list_any p xs) ≡ true
in-any-step p x y xs h is true at = refl
in-any-step p x y xs (inl same) is false at = absurd (let e : true ≡ false = sym is ∙ ap p (sym same) ∙ at in cc)
in-any-step p x y xs (inr more) is false at = more

pub in-any : {X : Type 0} (p : X → Bool) (xs : List X) (y : X) → Contains xs y → p y ≡ true → list_any p xs ≡ true
in-any p [] y there is = absurd (contains_none y there)
in-any p (x ∷ xs) y there is =
    in-any-step p x y xs
    (elim (contains_cases x y xs there) [
      | inl same ↦ inl same
      | inr more ↦ inr (in-any p xs y more is)
    ])
    is (p x) refl

-- a test of some member is one of the same members
any-same-step : (a b : Bool) → (a ≡ true → b ≡ true) → (b ≡ true → a ≡ true) → a ≡ b
any-same-step true b f g = sym (f refl)
any-same-step false true f g = g refl
any-same-step false false f g = refl

pub any-same : {X : Type 0} (p : X → Bool) (xs ys : List X) → AreSame xs ys → list_any p xs ≡ list_any p ys
any-same p xs ys same =
    any-same-step (list_any p xs) (list_any p ys)
    (λ any. let o = any-in p xs any in in-any p ys o.0 ((same o.0).0 o.1) o.2)
    (λ any. let o = any-in p ys any in in-any p xs o.0 ((same o.0).1 o.1) o.2)

-- those that pass a test and those that don't are all
parts-step : {X : Type 0} (p : X → Bool) (xs : List X) (x : X) (t : Bool) → p x ≡ t → Contains xs x → Contains (filter p xs ++ filter (λ y. not (p y)) xs) x
parts-step p xs x true is there = Contains-append_left (filter p xs) (filter (λ y. not (p y)) xs) x (in-filter p xs x there is)
parts-step p xs x false is there = Contains-append_right (filter p xs) (filter (λ y. not (p y)) xs) x (in-filter (λ y. not (p y)) xs x there (ap not is))

pub same-parts : {X : Type 0} (p : X → Bool) (xs : List X) → AreSame xs (filter p xs ++ filter (λ y. not (p y)) xs)
same-parts p xs x = (
  parts-step p xs x (p x) refl,
  λ there.
      elim (Contains-append_cases (filter p xs) (filter (λ y. not (p y)) xs) x there) [
        | inl here ↦ (filter-in p xs x here).0
        | inr more ↦ (filter-in (λ y. not (p y)) xs x more).0
      ],
)

-- ---- what is told, where some nodes moved

module _ (nodes : List NodeId) (node-ids : AreNodes nodes) where
  -- of one level, by whatever it tells
  module _ (f : List Pair → Reached → List Candidate) (is : IsTelling f) (told later : List Pair) (told-are : HaveIds told) (later-are : HaveIds later) (same : told_by_nodes (is_beside nodes) told ≡ told_by_nodes (is_beside nodes) later) (root : ℕ) (d e : List (ℕ × ℕ)) (costs : CostBeside nodes d e) where
    abbrev Old : List Candidate
    Old = flat_map (f told) (flat_map (reached_by (cost_at d) root) told)

    abbrev New : List Candidate
    New = flat_map (f later) (flat_map (reached_by (cost_at e) root) later)

    abbrev Added : List Candidate
    Added = flat_map (f later) (systems_among (cost_at e) root nodes)

    back : CostBeside nodes e d
    back m id none = sym (costs m id none)

    pub level-to : (c : Candidate) → (Contains Old c × (stays nodes c ≡ true)) ⊎ Contains Added c → Contains New c
    level-to c (inl old) = stays-told f is nodes told later told-are later-are same root d e costs c old.1 old.0
    level-to c (inr added) = (added-in f is nodes node-ids later later-are root e c added).0

    from-step : (c : Candidate) → Contains New c → (t : Bool) → is_among nodes (node_number c.origin) ≡ t → (Contains Old c × (stays nodes c ≡ true)) ⊎ Contains Added c
    from-step c there true at = inr (moved-in f is nodes node-ids later later-are root e c at there)
    from-step c there false at =
        let stay : stays nodes c ≡ true = ap not at in
        inl (stays-told f is nodes later told later-are told-are (sym same) root e d back c stay there, stay)

    pub level-from : (c : Candidate) → Contains New c → (Contains Old c × (stays nodes c ≡ true)) ⊎ Contains Added c
    level-from c there = from-step c there (is_among nodes (node_number c.origin)) refl

  -- of both levels
  module _ (t1 t2 u1 u2 : List Pair) (i1 : HaveIds t1) (i2 : HaveIds t2) (j1 : HaveIds u1) (j2 : HaveIds u2) (s1 : told_by_nodes (is_beside nodes) t1 ≡ told_by_nodes (is_beside nodes) u1) (s2 : told_by_nodes (is_beside nodes) t2 ≡ told_by_nodes (is_beside nodes) u2) (root : ℕ) (d1 d2 e1 e2 : List (ℕ × ℕ)) (c1 : CostBeside nodes d1 e1) (c2 : CostBeside nodes d2 e2) where
    abbrev Old1 : List Candidate
    Old1 = flat_map (system_ways level.One t1) (flat_map (reached_by (cost_at d1) root) t1)

    abbrev Old2 : List Candidate
    Old2 = flat_map (system_ways level.Two t2) (flat_map (reached_by (cost_at d2) root) t2)

    abbrev New1 : List Candidate
    New1 = flat_map (system_ways level.One u1) (flat_map (reached_by (cost_at e1) root) u1)

    abbrev New2 : List Candidate
    New2 = flat_map (system_ways level.Two u2) (flat_map (reached_by (cost_at e2) root) u2)

    abbrev Add1 : List Candidate
    Add1 = flat_map (system_ways level.One u1) (systems_among (cost_at e1) root nodes)

    abbrev Add2 : List Candidate
    Add2 = flat_map (system_ways level.Two u2) (systems_among (cost_at e2) root nodes)

    to-one : (c : Candidate) → (Contains Old1 c × (stays nodes c ≡ true)) ⊎ Contains Add1 c → Contains New1 c
    to-one = level-to (system_ways level.One) (telling-ways level.One) t1 u1 i1 j1 s1 root d1 e1 c1

    to-two : (c : Candidate) → (Contains Old2 c × (stays nodes c ≡ true)) ⊎ Contains Add2 c → Contains New2 c
    to-two = level-to (system_ways level.Two) (telling-ways level.Two) t2 u2 i2 j2 s2 root d2 e2 c2

    both-to : (kept : List Candidate) → AreSame kept (Old1 ++ Old2) → (c : Candidate) → Contains (filter (stays nodes) kept ++ (Add1 ++ Add2)) c → Contains (New1 ++ New2) c
    both-to kept are c there =
        elim (Contains-append_cases (filter (stays nodes) kept) (Add1 ++ Add2) c there) [
          | inl here ↦
              let o = filter-in (stays nodes) kept c here in
              elim (Contains-append_cases Old1 Old2 c ((are c).0 o.0)) [
                | inl one ↦ Contains-append_left New1 New2 c (to-one c (inl (one, o.1)))
                | inr two ↦ Contains-append_right New1 New2 c (to-two c (inl (two, o.1)))
              ]
          | inr more ↦
              elim (Contains-append_cases Add1 Add2 c more) [
                | inl one ↦ Contains-append_left New1 New2 c (to-one c (inr one))
                | inr two ↦ Contains-append_right New1 New2 c (to-two c (inr two))
              ]
        ]

    stay-in : (kept : List Candidate) → AreSame kept (Old1 ++ Old2) → (c : Candidate) → Contains (Old1 ++ Old2) c → stays nodes c ≡ true → Contains (filter (stays nodes) kept ++ (Add1 ++ Add2)) c
    stay-in kept are c old stay = Contains-append_left (filter (stays nodes) kept) (Add1 ++ Add2) c (in-filter (stays nodes) kept c ((are c).1 old) stay)

    both-from : (kept : List Candidate) → AreSame kept (Old1 ++ Old2) → (c : Candidate) → Contains (New1 ++ New2) c → Contains (filter (stays nodes) kept ++ (Add1 ++ Add2)) c
    both-from kept are c there =
        elim (Contains-append_cases New1 New2 c there) [
          | inl one ↦
              elim (level-from (system_ways level.One) (telling-ways level.One) t1 u1 i1 j1 s1 root d1 e1 c1 c one) [
                | inl old ↦ stay-in kept are c (Contains-append_left Old1 Old2 c old.0) old.1
                | inr added ↦ Contains-append_right (filter (stays nodes) kept) (Add1 ++ Add2) c (Contains-append_left Add1 Add2 c added)
              ]
          | inr two ↦
              elim (level-from (system_ways level.Two) (telling-ways level.Two) t2 u2 i2 j2 s2 root d2 e2 c2 c two) [
                | inl old ↦ stay-in kept are c (Contains-append_right Old1 Old2 c old.0) old.1
                | inr added ↦ Contains-append_right (filter (stays nodes) kept) (Add1 ++ Add2) c (Contains-append_right Add1 Add2 c added)
              ]
        ]

    pub both-kept : (kept list : List Candidate) → AreSame kept (Old1 ++ Old2) → list ≡ filter (stays nodes) kept ++ (Add1 ++ Add2) → AreSame list (New1 ++ New2)
    both-kept kept list are is-list = same-both list _ _ (same-refl list _ is-list) (λ c. (both-to kept are c, both-from kept are c))
