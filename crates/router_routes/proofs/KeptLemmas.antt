-- Candidates where some nodes moved: those by way of others stay, and those by way of these are what they tell.
use Rattle.std.proofs.Common.{◌≡◌, ◌∙◌, ℕ, ◌<◌, ◌==◌, Bool, true, false, ◌&&◌, ◌||◌, not, List, [], ◌∷◌, ◌++◌, ◌⊎◌, map, filter, Option, Some, None, refl, sym, ap, subst, arith, inl, inr, if◌then◌else◌}
use Rattle.std.specs.List.{Contains, flat_map, AllByRecursion}
use Rattle.std.proofs.lemmas.Bool.{and_parts, eqb-true, eq-eqb}
use Rattle.std.proofs.lemmas.List.Elements.{Contains-append_left, Contains-append_right, Contains-append_cases}
use Rattle.isis_base.specs.declared.identifiers.SystemId.{SystemId}
use Rattle.isis_base.specs.declared.identifiers.NodeId.{NodeId}
use Rattle.isis_base.specs.declared.identifiers.LspId.{LspId}
use Rattle.isis_base.specs.declared.level.Level.{Level}
use Rattle.isis_base.specs.declared.level.Level.TheVariants as level
use Rattle.isis_base.specs.Identifiers.{IsId}
use Rattle.isis_base.specs.declared.prefix.Prefix.{Prefix}
use Rattle.isis_base.specs.Prefixes.{prefix_from}
use Rattle.isis_base.proofs.ArrayLemmas.{lsp_number-one}
use Rattle.isis_tlv.specs.declared.prefix.PrefixItem.{PrefixItem}
use Rattle.lsp_store.specs.declared.entry.Entry.{Entry}
use Rattle.lsp_store.specs.Maps.{find, pair_number}
use Rattle.spf_tree.specs.Nodes.{node_number}
use Rattle.spf_tree.specs.Distances.{cost_at}
use Rattle.spf_tree.proofs.SearchLemmas.{contains_first, contains_rest, contains_cases, contains_none}
use Rattle.lsp_view.specs.Views.{own_node, number_of, where_live, lead_of, where_led, reach_in, attached_at}
use Rattle.route_table.specs.declared.rank.Rank.TheVariants as rank
use Rattle.route_table.specs.declared.candidate.Candidate.{Candidate}
use Rattle.router_routes.specs.Moved.{HaveIds, told_by_nodes, is_among, is_beside}
use Rattle.router_routes.specs.Candidates.{with_cost, leads_other, reached_by, told_candidate, system_candidates, system_ways, has_bit, default_by, default_of}
use Rattle.router_routes.specs.Kept.{stays, system_at, systems_among, CostBeside, IsTelling}
use Rattle.router_routes.proofs.IdLemmas.{number-0, stands}
use Rattle.router_routes.proofs.NodeLemmas.{lead-by, reach-by}

abbrev Pair : Type 0
Pair = LspId × Entry

abbrev Costs : Type 0
Costs = ℕ → Option ℕ

abbrev Reached : Type 0
Reached = SystemId × ℕ

-- ---- members of lists

pub flat-in : {X Y : Type 0} (f : X → List Y) (xs : List X) (y : Y) → Contains (flat_map f xs) y → (x : X) × Contains xs x × Contains (f x) y
flat-in f [] y there = absurd (contains_none y there)
flat-in f (x ∷ xs) y there =
    elim (Contains-append_cases (f x) (flat_map f xs) y there) [
      | inl here ↦ (x, contains_first x xs, here)
      | inr more ↦ let o = flat-in f xs y more in (o.0, contains_rest x o.0 xs o.1, o.2)
    ]

pub in-flat : {X Y : Type 0} (f : X → List Y) (xs : List X) (x : X) (y : Y) → Contains xs x → Contains (f x) y → Contains (flat_map f xs) y
in-flat f [] x y there is = absurd (contains_none x there)
in-flat f (z ∷ xs) x y there is =
    elim (contains_cases z x xs there) [
      | inl same ↦ Contains-append_left (f z) (flat_map f xs) y (subst (λ (w : _). Contains (f w) y) (sym same) is)
      | inr more ↦ Contains-append_right (f z) (flat_map f xs) y (in-flat f xs x y more is)
    ]

filter-step : {X : Type 0} (p : X → Bool) (z x : X) (xs : List X) → (Contains (filter p xs) x → Contains xs x × (p x ≡ true)) → (t : Bool) → p z ≡ t → Contains (if t then z ∷ filter p xs else filter p xs) x → Contains (z ∷ xs) x × (p x ≡ true)
filter-step p z x xs rest true is there =
    elim (contains_cases z x (filter p xs) there) [
      | inl same ↦ (subst (λ (w : _). Contains (z ∷ xs) w) same (contains_first z xs), ap p (sym same) ∙ is)
      | inr more ↦ let o = rest more in (contains_rest z x xs o.0, o.1)
    ]
filter-step p z x xs rest false is there = let o = rest there in (contains_rest z x xs o.0, o.1)

pub filter-in : {X : Type 0} (p : X → Bool) (xs : List X) (x : X) → Contains (filter p xs) x → Contains xs x × (p x ≡ true)
filter-in p [] x there = absurd (contains_none x there)
filter-in p (z ∷ xs) x there = filter-step p z x xs (filter-in p xs x) (p z) refl there

in-filter-step : {X : Type 0} (p : X → Bool) (z x : X) (xs : List X) → (z ≡ x) ⊎ Contains (filter p xs) x → p x ≡ true → (t : Bool) → p z ≡ t → Contains (if t then z ∷ filter p xs else filter p xs) x
in-filter-step p z x xs (inl same) is true at = subst (λ (w : _). Contains (z ∷ filter p xs) w) same (contains_first z (filter p xs))
in-filter-step p z x xs (inl same) is false at = absurd (let e : true ≡ false = sym is ∙ ap p (sym same) ∙ at in cc)
in-filter-step p z x xs (inr more) is true at = contains_rest z x (filter p xs) more
in-filter-step p z x xs (inr more) is false at = more

pub in-filter : {X : Type 0} (p : X → Bool) (xs : List X) (x : X) → Contains xs x → p x ≡ true → Contains (filter p xs) x
in-filter p [] x there is = absurd (contains_none x there)
in-filter p (z ∷ xs) x there is =
    in-filter-step p z x xs
    (elim (contains_cases z x xs there) [
      | inl same ↦ inl same
      | inr more ↦ inr (in-filter p xs x more is)
    ])
    is (p z) refl

-- ---- nodes among some

among-step : (m : NodeId) (nodes : List NodeId) (n : ℕ) → (is_among nodes n ≡ true → (x : NodeId) × Contains nodes x × (node_number x ≡ n)) → (t : Bool) → (node_number m == n) ≡ t → is_among (m ∷ nodes) n ≡ true → (x : NodeId) × Contains (m ∷ nodes) x × (node_number x ≡ n)
among-step m nodes n rest true is any = (m, contains_first m nodes, eqb-true (node_number m) n is)
among-step m nodes n rest false is any = let o = rest (subst (λ (t : Bool). (t || is_among nodes n) ≡ true) is any) in (o.0, contains_rest m o.0 nodes o.1, o.2)

pub among-in : (nodes : List NodeId) (n : ℕ) → is_among nodes n ≡ true → (x : NodeId) × Contains nodes x × (node_number x ≡ n)
among-in [] n any = absurd (let e : false ≡ true = any in cc)
among-in (m ∷ nodes) n any = among-step m nodes n (among-in nodes n) (node_number m == n) refl any

in-among-step : (m : NodeId) (nodes : List NodeId) (n : ℕ) → (node_number m ≡ n) ⊎ (is_among nodes n ≡ true) → (t : Bool) → (node_number m == n) ≡ t → is_among (m ∷ nodes) n ≡ true
in-among-step m nodes n h true is = rw is refl
in-among-step m nodes n (inl same) false is = absurd (let e : true ≡ false = sym (eq-eqb (node_number m) n same) ∙ is in cc)
in-among-step m nodes n (inr more) false is = rw is more

pub in-among : (nodes : List NodeId) (m : NodeId) → Contains nodes m → is_among nodes (node_number m) ≡ true
in-among [] m there = absurd (contains_none m there)
in-among (x ∷ nodes) m there =
    in-among-step x nodes (node_number m)
    (elim (contains_cases x m nodes there) [
      | inl same ↦ inl (ap node_number same)
      | inr more ↦ inr (in-among nodes m more)
    ])
    (node_number x == node_number m) refl

-- ---- LSP IDs

all-ids : (told : List Pair) (pair : Pair) → HaveIds told → Contains told pair → IsId pair.0
all-ids [] pair ids there = absurd (contains_none pair there)
all-ids (p ∷ told) pair ids there =
    elim (contains_cases p pair told there) [
      | inl same ↦ subst (λ (q : Pair). IsId q.0) same ids.0
      | inr more ↦ all-ids told pair ids.1 more
    ]

all-two : (xs : List ℕ) (p x : ℕ) → AllByRecursion (λ octet. octet < 256) ((xs ++ p ∷ []) ++ x ∷ []) → (y : ℕ) → y < 256 → AllByRecursion (λ octet. octet < 256) ((xs ++ 0 ∷ []) ++ y ∷ [])
all-two [] p x all y less = (omega arith, (less, tt))
all-two (z ∷ xs) p x all y less = (all.0, all-two xs p x all.1 y less)

-- a system's LSPs have eight octets where one of a node of its has
pub own-id : (id : LspId) → IsId id → (y : ℕ) → y < 256 → IsId (record { node = own_node id.node.system; number = y })
own-id id is y less = record { six = is.six; small = all-two id.node.system.0 id.node.pseudonode id.number is.small y less }

-- the node of an LSP that leads is the system's own
led-node : (root : ℕ) (id : LspId) → leads_other root id ≡ true → own_node id.node.system ≡ id.node
led-node root id leads =
    let p = and_parts _ _ (and_parts _ _ leads).0 in
    let zero : id.node.pseudonode ≡ 0 = eqb-true id.node.pseudonode 0 p.1 in
    ap (λ (n : ℕ). record { system = id.node.system; pseudonode = n }) (sym zero)

led-zero : (root : ℕ) (id : LspId) → leads_other root id ≡ true → id ≡ record { node = id.node; number = 0 }
led-zero root id leads =
    let p = and_parts _ _ (and_parts _ _ leads).0 in
    let zero : id.number ≡ 0 = eqb-true id.number 0 p.0 in
    ap (λ (n : ℕ). record { node = id.node; number = n }) zero

-- nodes of one number are one
node-one : (a b : NodeId) → IsId (record { node = a; number = 0 }) → IsId (record { node = b; number = 0 }) → node_number a ≡ node_number b → a ≡ b
node-one a b ia ib same =
    ap (λ (id : LspId). id.node)
    (lsp_number-one (record { node = a; number = 0 }) (record { node = b; number = 0 }) ia ib (number-0 a ∙ same ∙ sym (number-0 b)))

-- ---- what makes a system one of those that are reached

abbrev Parts : Costs → ℕ → Pair → Reached → Type 0
Parts costs root pair s = (leads_other root pair.0 ≡ true) × (pair.0.node.system ≡ s.0) × (costs (node_number pair.0.node) ≡ Some s.1)

cost-parts : (system : SystemId) (o : Option ℕ) (s : Reached) → Contains (with_cost system o) s → (system ≡ s.0) × (o ≡ Some s.1)
cost-parts system None s there = absurd (contains_none s there)
cost-parts system (Some c) s there =
    elim (contains_cases (system, c) s [] there) [
      | inl same ↦ (ap (λ (r : Reached). r.0) same, ap (λ (r : Reached). Some r.1) same)
      | inr more ↦ absurd (contains_none s more)
    ]

in-cost : (system : SystemId) (o : Option ℕ) (s : Reached) → system ≡ s.0 → o ≡ Some s.1 → Contains (with_cost system o) s
in-cost system o s is cost =
    subst (λ (p : Option ℕ). Contains (with_cost system p) s) (sym cost)
    (subst (λ (x : SystemId). Contains ((x, s.1) ∷ []) s) (sym is) (contains_first s []))

parts-step : (costs : Costs) (root : ℕ) (pair : Pair) (s : Reached) (t : Bool) → leads_other root pair.0 ≡ t → Contains (if t then with_cost pair.0.node.system (costs (node_number pair.0.node)) else []) s → Parts costs root pair s
parts-step costs root pair s true is there = let p = cost-parts pair.0.node.system (costs (node_number pair.0.node)) s there in (is, p.0, p.1)
parts-step costs root pair s false is there = absurd (contains_none s there)

reached-parts : (costs : Costs) (root : ℕ) (pair : Pair) (s : Reached) → Contains (reached_by costs root pair) s → Parts costs root pair s
reached-parts costs root pair s there = parts-step costs root pair s (leads_other root pair.0) refl there

in-reached : (costs : Costs) (root : ℕ) (pair : Pair) (s : Reached) → Parts costs root pair s → Contains (reached_by costs root pair) s
in-reached costs root pair s p = rw p.0 (in-cost pair.0.node.system (costs (node_number pair.0.node)) s p.1 p.2)

abbrev AtParts : Costs → ℕ → NodeId → Reached → Type 0
AtParts costs root m s = (m.pseudonode ≡ 0) × (not (node_number m == root) ≡ true) × (m.system ≡ s.0) × (costs (node_number m) ≡ Some s.1)

at-step : (costs : Costs) (root : ℕ) (m : NodeId) (s : Reached) (t : Bool) → (m.pseudonode == 0 && not (node_number m == root)) ≡ t → Contains (if t then with_cost m.system (costs (node_number m)) else []) s → AtParts costs root m s
at-step costs root m s true is there =
    let p = cost-parts m.system (costs (node_number m)) s there in
    let q = and_parts _ _ is in (eqb-true m.pseudonode 0 q.0, q.1, p.0, p.1)
at-step costs root m s false is there = absurd (contains_none s there)

at-parts : (costs : Costs) (root : ℕ) (m : NodeId) (s : Reached) → Contains (system_at costs root m) s → AtParts costs root m s
at-parts costs root m s there = at-step costs root m s (m.pseudonode == 0 && not (node_number m == root)) refl there

in-at : (costs : Costs) (root : ℕ) (m : NodeId) (s : Reached) → AtParts costs root m s → Contains (system_at costs root m) s
in-at costs root m s p = rw (eq-eqb m.pseudonode 0 p.0, p.1) (in-cost m.system (costs (node_number m)) s p.2 p.3)

-- the first pair of a number
find-step : (p : Pair) (pairs : List Pair) (n : ℕ) (e : Entry) → (find pairs n ≡ Some e → (q : Pair) × Contains pairs q × (pair_number q ≡ n)) → (t : Bool) → (pair_number p == n) ≡ t → (if t then Some p.1 else find pairs n) ≡ Some e → (q : Pair) × Contains (p ∷ pairs) q × (pair_number q ≡ n)
find-step p pairs n e rest true at is = (p, contains_first p pairs, eqb-true (pair_number p) n at)
find-step p pairs n e rest false at is = let o = rest is in (o.0, contains_rest p o.0 pairs o.1, o.2)

find-in : (pairs : List Pair) (n : ℕ) (e : Entry) → find pairs n ≡ Some e → (q : Pair) × Contains pairs q × (pair_number q ≡ n)
find-in [] n e is = absurd (let f : None ≡ Some e = is in cc)
find-in (p ∷ pairs) n e is = find-step p pairs n e (find-in pairs n e) (pair_number p == n) refl is

live-in : (o : Option Entry) (e : Entry) → where_live o ≡ Some e → (x : Entry) × (o ≡ Some x)
live-in None e is = absurd (let f : None ≡ Some e = is in cc)
live-in (Some x) e is = (x, refl)

not-false : (t : Bool) → not t ≡ true → t ≡ false
not-false true e = absurd (let f : false ≡ true = e in cc)
not-false false e = refl

-- ---- what systems tell, where some nodes moved

module _ (f : List Pair → Reached → List Candidate) (is : IsTelling f) (nodes : List NodeId) (told later : List Pair) (told-ids : HaveIds told) (later-ids : HaveIds later) (same : told_by_nodes (is_beside nodes) told ≡ told_by_nodes (is_beside nodes) later) (root : ℕ) (d e : List (ℕ × ℕ)) (costs : CostBeside nodes d e) where
  abbrev Tells : List Pair → List (ℕ × ℕ) → Candidate → Type 0
  Tells from by c = Contains (flat_map (f from) (flat_map (reached_by (cost_at by) root) from)) c

  -- by way of nodes beside them
  module _ (c : Candidate) (stay : stays nodes c ≡ true) where
    stays-step : (s : Reached) (p : Pair) → Contains (f told s) c → Contains told p → Parts (cost_at d) root p s → Tells later e c
    stays-step s p in-s in-p parts =
        let id = all-ids told p told-ids in-p in
        let own : own_node s.0 ≡ p.0.node = ap own_node (sym parts.1) ∙ led-node root p.0 parts.0 in
        let at : node_number c.origin ≡ node_number p.0.node = ap node_number (is.origin told s c in-s ∙ own) in
        let beside : is_beside nodes (node_number p.0.node) ≡ true = ap (is_beside nodes) (sym at) ∙ stay in
        let kept : is_beside nodes (node_number (own_node s.0)) ≡ true = ap (λ (m : NodeId). is_beside nodes (node_number m)) own ∙ beside in
        let test = λ (q : Pair). is_beside nodes (node_number q.0.node) in
        let there : Contains later p = (filter-in test later p (subst (λ (l : List Pair). Contains l p) same (in-filter test told p in-p beside))).0 in
        let node-id : IsId (record { node = p.0.node; number = 0 }) = subst IsId (led-zero root p.0 parts.0) id in
        let cost = sym (costs p.0.node node-id (not-false (is_among nodes (node_number p.0.node)) beside)) ∙ parts.2 in
        let zero-id = subst (λ (x : SystemId). IsId (record { node = own_node x; number = 0 })) parts.1 (own-id p.0 id 0 (omega arith)) in
        let last-id = subst (λ (x : SystemId). IsId (record { node = own_node x; number = 255 })) parts.1 (own-id p.0 id 255 (omega arith)) in
        let zero = (stands (record { node = own_node s.0; number = 0 }) zero-id).first in
        let lead = lead-by (is_beside nodes) told told-ids (own_node s.0) zero kept ∙ ap (λ (l : List Pair). lead_of l (own_node s.0)) same ∙ sym (lead-by (is_beside nodes) later later-ids (own_node s.0) zero kept) in
        let reach = reach-by (is_beside nodes) told told-ids s.0 last-id kept ∙ ap (λ (l : List Pair). reach_in l s.0) same ∙ sym (reach-by (is_beside nodes) later later-ids s.0 last-id kept) in
        in-flat (f later) (flat_map (reached_by (cost_at e) root) later) s c
        (in-flat (reached_by (cost_at e) root) later p s there (in-reached (cost_at e) root p s (parts.0, parts.1, cost)))
        (subst (λ (l : List Candidate). Contains l c) (is.same told later s lead reach) in-s)

    pub stays-told : Tells told d c → Tells later e c
    stays-told there =
        let o = flat-in (f told) (flat_map (reached_by (cost_at d) root) told) c there in
        let q = flat-in (reached_by (cost_at d) root) told o.0 o.1 in
        stays-step o.0 q.0 o.2 q.1 (reached-parts (cost_at d) root q.0 o.0 q.2)

-- what nodes tell that moved
module _ (f : List Pair → Reached → List Candidate) (is : IsTelling f) (nodes : List NodeId) (node-ids : (m : NodeId) → Contains nodes m → IsId (record { node = m; number = 0 })) (later : List Pair) (later-ids : HaveIds later) (root : ℕ) (e : List (ℕ × ℕ)) (c : Candidate) where
  abbrev Later : Type 0
  Later = Contains (flat_map (f later) (flat_map (reached_by (cost_at e) root) later)) c

  abbrev Added : Type 0
  Added = Contains (flat_map (f later) (systems_among (cost_at e) root nodes)) c

  moved-step : (s : Reached) (p : Pair) → Contains (f later s) c → Contains later p → Parts (cost_at e) root p s → is_among nodes (node_number c.origin) ≡ true → Added
  moved-step s p in-s in-p parts among =
      let own : own_node s.0 ≡ p.0.node = ap own_node (sym parts.1) ∙ led-node root p.0 parts.0 in
      let at : node_number c.origin ≡ node_number p.0.node = ap node_number (is.origin later s c in-s ∙ own) in
      let m = among-in nodes (node_number p.0.node) (ap (is_among nodes) (sym at) ∙ among) in
      let id : IsId (record { node = p.0.node; number = 0 }) = subst IsId (led-zero root p.0 parts.0) (all-ids later p later-ids in-p) in
      let one : m.0 ≡ p.0.node = node-one m.0 p.0.node (node-ids m.0 m.1) id m.2 in
      let q = and_parts _ _ parts.0 in
      let zero : p.0.node.pseudonode ≡ 0 = eqb-true p.0.node.pseudonode 0 (and_parts _ _ q.0).1 in
      let here : AtParts (cost_at e) root p.0.node s = (zero, q.1, parts.1, parts.2) in
      in-flat (f later) (systems_among (cost_at e) root nodes) s c
      (in-flat (system_at (cost_at e) root) nodes m.0 s m.1 (in-at (cost_at e) root m.0 s (subst (λ (x : NodeId). AtParts (cost_at e) root x s) (sym one) here)))
      in-s

  pub moved-in : is_among nodes (node_number c.origin) ≡ true → Later → Added
  moved-in among there =
      let o = flat-in (f later) (flat_map (reached_by (cost_at e) root) later) c there in
      let q = flat-in (reached_by (cost_at e) root) later o.0 o.1 in
      moved-step o.0 q.0 o.2 q.1 (reached-parts (cost_at e) root q.0 o.0 q.2) among

  own-of : (m : NodeId) (s : Reached) → AtParts (cost_at e) root m s → own_node s.0 ≡ m
  own-of m s parts = ap own_node (sym parts.2) ∙ ap (λ (n : ℕ). record { system = m.system; pseudonode = n }) (sym parts.0)

  added-step : (s : Reached) (m : NodeId) → Contains (f later s) c → Contains nodes m → AtParts (cost_at e) root m s → Later
  added-step s m in-s in-m parts =
      let own = own-of m s parts in
      let lead = is.lead later s c in-s in
      let held = live-in (find later (number_of (own_node s.0) 0)) lead.0 lead.1 in
      let p = find-in later (number_of (own_node s.0) 0) held.0 held.1 in
      let m-id : IsId (record { node = own_node s.0; number = 0 }) = subst (λ (x : NodeId). IsId (record { node = x; number = 0 })) (sym own) (node-ids m in-m) in
      let one : p.0.0 ≡ record { node = own_node s.0; number = 0 } = lsp_number-one p.0.0 (record { node = own_node s.0; number = 0 }) (all-ids later p.0 later-ids p.1) m-id p.2 in
      let other : not (node_number (own_node s.0) == root) ≡ true = ap (λ (x : NodeId). not (node_number x == root)) own ∙ parts.1 in
      let leads : leads_other root (record { node = own_node s.0; number = 0 }) ≡ true = other in
      let cost : cost_at e (node_number (own_node s.0)) ≡ Some s.1 = ap (λ (x : NodeId). cost_at e (node_number x)) own ∙ parts.3 in
      let here : Parts (cost_at e) root p.0 s = subst (λ (x : LspId). (leads_other root x ≡ true) × (x.node.system ≡ s.0) × (cost_at e (node_number x.node) ≡ Some s.1)) (sym one) (leads, refl, cost) in
      in-flat (f later) (flat_map (reached_by (cost_at e) root) later) s c (in-flat (reached_by (cost_at e) root) later p.0 s p.1 (in-reached (cost_at e) root p.0 s here)) in-s

  pub added-in : Added → Later × (is_among nodes (node_number c.origin) ≡ true)
  added-in there =
      let o = flat-in (f later) (systems_among (cost_at e) root nodes) c there in
      let m = flat-in (system_at (cost_at e) root) nodes o.0 o.1 in
      let parts = at-parts (cost_at e) root m.0 o.0 m.2 in
      (added-step o.0 m.0 o.2 m.1 parts, ap (λ (x : NodeId). is_among nodes (node_number x)) (is.origin later o.0 c o.2 ∙ own-of m.0 o.0 parts) ∙ in-among nodes m.0 m.1)

-- ---- prefixes, and the way by default

origin-of : (l : Level) (s : Reached) (items : List PrefixItem) (c : Candidate) → Contains (map (told_candidate l s) items) c → c.origin ≡ own_node s.0
origin-of l s [] c there = absurd (contains_none c there)
origin-of l s (item ∷ items) c there =
    elim (contains_cases (told_candidate l s item) c (map (told_candidate l s) items) there) [
      | inl same ↦ ap (λ (x : Candidate). x.origin) (sym same)
      | inr more ↦ origin-of l s items c more
    ]

lead-step : (l : Level) (s : Reached) (o : Option Entry) (items : List PrefixItem) (c : Candidate) → Contains (map (told_candidate l s) (where_led o items)) c → (e : Entry) × (o ≡ Some e)
lead-step l s None items c there = absurd (contains_none c there)
lead-step l s (Some e) items c there = (e, refl)

telling : (l : Level) → IsTelling (system_candidates l)
unfolding reach_in
telling l = record {
  origin = λ told s c there. origin-of l s (reach_in told s.0) c there;
  lead = λ told s c there. lead-step l s (lead_of told (own_node s.0)) _ c there;
  same = λ told later s lead reach. ap (map (told_candidate l s)) reach;
}

default-origin : (s : Reached) (o : Option Prefix) (c : Candidate) → Contains (default_by o s) c → c.origin ≡ own_node s.0
default-origin s None c there = absurd (contains_none c there)
default-origin s (Some all) c there =
    elim (contains_cases (record { prefix = all; rank = rank.Default; cost = s.1; origin = own_node s.0 }) c [] there) [
      | inl same ↦ ap (λ (x : Candidate). x.origin) (sym same)
      | inr more ↦ absurd (contains_none c more)
    ]

default-step : (told : List Pair) (s : Reached) (c : Candidate) (t : Bool) → has_bit told s ≡ t → Contains (if t then default_by (prefix_from 0 0) s else []) c → (c.origin ≡ own_node s.0) × ((e : Entry) × (lead_of told (own_node s.0) ≡ Some e))
default-step told s c true is there = (default-origin s (prefix_from 0 0) c there, some-lead (lead_of told (own_node s.0)) is)
  where
    some-lead : (o : Option Entry) → attached_at o ≡ true → (e : Entry) × (o ≡ Some e)
    some-lead None f = absurd (let g : false ≡ true = f in cc)
    some-lead (Some e) f = (e, refl)
default-step told s c false is there = absurd (contains_none c there)

telling-default : IsTelling default_of
telling-default = record {
  origin = λ told s c there. (default-step told s c (has_bit told s) refl there).0;
  lead = λ told s c there. (default-step told s c (has_bit told s) refl there).1;
  same = λ told later s lead reach. ap (λ (o : Option Entry). if attached_at o then default_by (prefix_from 0 0) s else []) lead;
}

-- what a system tells in a level, ways by default too
pub telling-ways : (l : Level) → IsTelling (system_ways l)
telling-ways level.One = record {
  origin = λ told s c there.
      elim (Contains-append_cases (system_candidates level.One told s) (default_of told s) c there) [
        | inl tells ↦ (telling level.One).origin told s c tells
        | inr way ↦ telling-default.origin told s c way
      ];
  lead = λ told s c there.
      elim (Contains-append_cases (system_candidates level.One told s) (default_of told s) c there) [
        | inl tells ↦ (telling level.One).lead told s c tells
        | inr way ↦ telling-default.lead told s c way
      ];
  same = λ told later s lead reach.
      ap (λ (l : List Candidate). l ++ default_of told s) ((telling level.One).same told later s lead reach)
      ∙ ap (λ (l : List Candidate). system_candidates level.One later s ++ l) (telling-default.same told later s lead reach);
}
telling-ways level.Two = record {
  origin = λ told s c there. (telling level.Two).origin told s c there;
  lead = λ told s c there. (telling level.Two).lead told s c there;
  same = λ told later s lead reach. (telling level.Two).same told later s lead reach;
}
