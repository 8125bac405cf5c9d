-- What other routers tell of the owner's prefix is all that a router's candidates say of it.
use Rattle.std.proofs.Common.{◌≡◌, ◌≢◌, ◌∙◌, ℕ, ◌+◌, Bool, true, false, not, List, [], ◌∷◌, ◌++◌, map, Option, Some, None, refl, sym, ap, subst, arith, ◌⊎◌, inl, inr, if◌then◌else◌, ◌&&◌, ◌==◌}
use Rattle.std.specs.List.{Contains}
use Rattle.std.proofs.lemmas.Bool.{cases_eq, and_parts, eqb-true, eq-eqb, ne_eqb, false≢true}
use Rattle.std.proofs.lemmas.List.Elements.{Contains-append_left, Contains-append_right, Contains-append_cases}
use Rattle.isis_base.specs.declared.identifiers.SystemId.{SystemId}
use Rattle.isis_base.specs.declared.identifiers.NodeId.{NodeId}
use Rattle.isis_base.specs.declared.identifiers.LspId.{LspId}
use Rattle.isis_base.specs.declared.level.Level.TheVariants as level
use Rattle.isis_base.specs.Prefixes.{prefix_from}
use Rattle.isis_base.proofs.ArrayLemmas.{lsp_number-one}
use Rattle.isis_tlv.specs.declared.prefix.PrefixItem.{PrefixItem}
use Rattle.lsp_store.specs.declared.entry.Entry.{Entry}
use Rattle.lsp_store.specs.Maps.{pair_number, find}
use Rattle.lsp_view.specs.Views.{number_of, own_node, where_live, lead_of, where_led, reach_in, attached_at}
use Rattle.spf_tree.specs.declared.row.Row.{Row}
use Rattle.spf_tree.specs.Nodes.{node_number}
use Rattle.spf_tree.specs.Walks.{cost, IsWithin}
use Rattle.spf_tree.proofs.SearchLemmas.{contains_first, contains_rest, contains_none}
use Rattle.route_table.specs.declared.candidate.Candidate.{Candidate}
use Rattle.route_table.specs.declared.route.Route.{Route}
use Rattle.route_table.specs.Ranks.{rank_number, prefix_number}
use Rattle.route_table.specs.Routes.{IsNoWorse}
use Rattle.router_routes.specs.Costs.{cost_of}
use Rattle.router_routes.specs.Outlooks.{Outlook, usable_rows}
use Rattle.router_routes.specs.Candidates.{with_cost, leads_other, reached_by, reached_in, rank_in, told_candidate, system_candidates, level_candidates, own_candidate, has_bit, default_by, default_of, defaults, firm_candidates, has_defaults, candidates_of}
use Rattle.router_routes.proofs.CostLemmas.{costs-least}
use Rattle.forward_views.specs.Moves.{IsLeastCost}
use Rattle.forward_views.specs.Owned.{IsFor, IsOwn}
use Rattle.forward_views.proofs.RouteLemmas.{no_rank, no_worse}
use Rattle.forward_views.specs.Looks.{Look, outlook, root_of, told_of, own_items, AreAlike, HasOwn, IsOwner}
use Rattle.forward_views.proofs.ListLemmas.{in_map, of_map, in_flat_map, of_flat_map, alone}
use Rattle.forward_views.proofs.NodeLemmas.{zero_of, own-is}
use Rattle.forward_views.proofs.SaidLemmas.{Pair, attached-same, reach-same}
use Rattle.forward_views.proofs.LookLemmas.{look-told, told-id, root-id, root-own, root-zero, same-as, known-node, own-of, item-of, one-route}

abbrev System : Type 0
System = SystemId × ℕ

-- ---- least costs

pub least-of : (rows : List Row) (root node d : ℕ) → cost_of rows root node ≡ Some d → IsLeastCost rows root node d
least-of rows root node d some =
    let least = costs-least rows root in
    record { walk = least.walk node d some; none_less = λ walk is. subst (λ (o : Option ℕ). IsWithin o (cost walk)) some (least.least walk node is) }

pub of-least : (rows : List Row) (root node d : ℕ) → IsLeastCost rows root node d → cost_of rows root node ≡ Some d
of-least rows root node d is =
    let w = is.walk in
    go (cost_of rows root node) refl ((costs-least rows root).least w.0 node w.1)
  where
    go : (o : Option ℕ) → cost_of rows root node ≡ o → IsWithin o (cost is.walk.0) → cost_of rows root node ≡ Some d
    go None same within = absurd within
    go (Some c) same within =
        let walk = (costs-least rows root).walk node c same in
        let le = is.none_less walk.0 walk.1 in
        let a = walk.2 in
        let b = is.walk.2 in
        let e : c ≡ d = omega arith in
        same ∙ ap (λ (n : ℕ). Some n) e

-- ---- systems that are reached

pub leads-parts : (root : ℕ) (id : LspId) → leads_other root id ≡ true → (id.number ≡ 0) × (id.node.pseudonode ≡ 0) × (node_number id.node ≢ root)
leads-parts root id leads =
    let p = and_parts (id.number == 0 && id.node.pseudonode == 0) (not (node_number id.node == root)) leads in
    let q = and_parts (id.number == 0) (id.node.pseudonode == 0) p.0 in
    (eqb-true id.number 0 q.0, eqb-true id.node.pseudonode 0 q.1, (λ e. false≢true (sym (ap not (eq-eqb (node_number id.node) root e)) ∙ p.1)))

leads-there : (root : ℕ) (id : LspId) → id.number ≡ 0 → id.node.pseudonode ≡ 0 → node_number id.node ≢ root → leads_other root id ≡ true
leads-there root id number pseudonode other = rw (eq-eqb id.number 0 number, eq-eqb id.node.pseudonode 0 pseudonode, ne_eqb (node_number id.node) root other) refl

pub record IsFound (told : List Pair) (root : NodeId) (s : System) : Type 0 where
  pub pair : Pair
  pub there : Contains told pair
  pub other : leads_other (node_number root) pair.0 ≡ true
  pub system : s.0 ≡ pair.0.node.system
  pub cost : cost_of (usable_rows told root) (node_number root) (node_number pair.0.node) ≡ Some s.1

with-parts : (t : Bool) (o : Option ℕ) (system : SystemId) (s : System) → Contains (if t then with_cost system o else []) s → (t ≡ true) × (o ≡ Some s.1) × (s.0 ≡ system)
with-parts true None system s h = absurd (contains_none s h)
with-parts true (Some c) system s h = let e = alone (system, c) s h in (refl, ap (λ (p : System). Some p.1) e, sym (ap (λ (p : System). p.0) e))
with-parts false o system s h = absurd (contains_none s h)

pub of-reached : (told : List Pair) (root : NodeId) (s : System) → Contains (reached_in told root) s → IsFound told root s
unfolding reached_in
of-reached told root s h =
    let costs = cost_of (usable_rows told root) (node_number root) in
    let f = of_flat_map (reached_by costs (node_number root)) told s h in
    let p = with-parts (leads_other (node_number root) f.0.0) (costs (node_number f.0.0.node)) f.0.0.node.system s f.2 in
    record { pair = f.0; there = f.1; other = p.0; system = p.2; cost = p.1 }

to-reached : (told : List Pair) (root : NodeId) (pair : Pair) (d : ℕ) → Contains told pair → leads_other (node_number root) pair.0 ≡ true → cost_of (usable_rows told root) (node_number root) (node_number pair.0.node) ≡ Some d → Contains (reached_in told root) (pair.0.node.system, d)
unfolding reached_in
to-reached told root pair d there leads some =
    let costs = cost_of (usable_rows told root) (node_number root) in
    in_flat_map (reached_by costs (node_number root)) told pair (pair.0.node.system, d) there (given (leads_other (node_number root) pair.0) (costs (node_number pair.0.node)) leads some)
  where
    given : (t : Bool) (o : Option ℕ) → t ≡ true → o ≡ Some d → Contains (if t then with_cost pair.0.node.system o else []) (pair.0.node.system, d)
    given t o e f = rw (e, f) (contains_first (pair.0.node.system, d) [])

-- ---- candidates by where they come from

pub record IsTelling (o : Outlook) (c : Candidate) : Type 0 where
  pub system : System
  pub item : PrefixItem
  pub reached : Contains (reached_in o.told.one o.root) system
  pub listed : Contains (reach_in o.told.one system.0) item
  pub is : told_candidate level.One system item ≡ c

level-of : (o : Outlook) (c : Candidate) → Contains (level_candidates level.One o.told.one o.root) c → IsTelling o c
unfolding level_candidates
level-of o c h =
    let f = of_flat_map (system_candidates level.One o.told.one) (reached_in o.told.one o.root) c h in
    let m = of_map (told_candidate level.One f.0) (reach_in o.told.one f.0.0) c f.2 in
    record { system = f.0; item = m.0; reached = f.1; listed = m.1; is = m.2 }

level-none : (root : NodeId) (c : Candidate) → Contains (level_candidates level.Two [] root) c → ⊥
unfolding level_candidates reached_in
level-none root c h = contains_none c h

split : (o : Outlook) (c : Candidate) → o.told.two ≡ [] → ((c : Candidate) → Contains (defaults o.told.one o.root) c → ⊥) → Contains (candidates_of o) c → (rank_number c.rank ≡ 0) ⊎ IsTelling o c
unfolding candidates_of firm_candidates
split o c alone_one no_defaults h =
    elim (Contains-append_cases (firm_candidates o) (if has_defaults o then defaults o.told.one o.root else []) c h) [
      | inl firm ↦
          elim (Contains-append_cases (map (own_candidate o.root) o.prefixes) (level_candidates level.One o.told.one o.root ++ level_candidates level.Two o.told.two o.root) c firm) [
            | inl own ↦ let m = of_map (own_candidate o.root) o.prefixes c own in inl (ap (λ (d : Candidate). rank_number d.rank) (sym m.2))
            | inr levels ↦
                elim (Contains-append_cases (level_candidates level.One o.told.one o.root) (level_candidates level.Two o.told.two o.root) c levels) [
                  | inl one ↦ inr (level-of o c one)
                  | inr two ↦ absurd (level-none o.root c (subst (λ (told : List Pair). Contains (level_candidates level.Two told o.root) c) alone_one two))
                ]
          ]
      | inr more ↦ absurd (no_defaults c (only (has_defaults o) more))
    ]
  where
    only : (t : Bool) → Contains (if t then defaults o.told.one o.root else []) c → Contains (defaults o.told.one o.root) c
    only true there = there
    only false there = absurd (contains_none c there)

to-candidates : (o : Outlook) (s : System) (item : PrefixItem) → Contains (reached_in o.told.one o.root) s → Contains (reach_in o.told.one s.0) item → Contains (candidates_of o) (told_candidate level.One s item)
unfolding candidates_of firm_candidates level_candidates
to-candidates o s item reached listed =
    let c = told_candidate level.One s item in
    let one = in_flat_map (system_candidates level.One o.told.one) (reached_in o.told.one o.root) s c reached (in_map (told_candidate level.One s) (reach_in o.told.one s.0) item listed) in
    Contains-append_left (firm_candidates o) (if has_defaults o then defaults o.told.one o.root else []) c
    (Contains-append_right (map (own_candidate o.root) o.prefixes) (level_candidates level.One o.told.one o.root ++ level_candidates level.Two o.told.two o.root) c
    (Contains-append_left (level_candidates level.One o.told.one o.root) (level_candidates level.Two o.told.two o.root) c one))

-- ---- a system that lists a prefix has a number 0

led-lead : (items : List PrefixItem) (item : PrefixItem) (o : Option Entry) → Contains (where_led o items) item → (e : Entry) × (o ≡ Some e)
led-lead items item None there = absurd (contains_none item there)
led-lead items item (Some e) there = (e, refl)

reach-lead : (told : List Pair) (system : SystemId) (item : PrefixItem) → Contains (reach_in told system) item → (e : Entry) × (lead_of told (own_node system) ≡ Some e)
unfolding reach_in
reach-lead told system item h = led-lead _ item (lead_of told (own_node system)) h

find-pair : (told : List Pair) (n : ℕ) (e : Entry) → where_live (find told n) ≡ Some e → (pair : Pair) × Contains told pair × (pair_number pair ≡ n)
find-pair [] n e some = cc
find-pair (pair ∷ told) n e some =
    elim (cases_eq (pair_number pair) n) [
      | inl here ↦ (pair, contains_first pair told, here)
      | inr other ↦
          let rest : where_live (find told n) ≡ Some e = rw (ne_eqb (pair_number pair) n other) at some in
          let f = find-pair told n e rest in
          (f.0, contains_rest pair f.0 told f.1, f.2)
    ]

-- ---- of one router among those that are alike

module _ (looks : List Look) (alike : AreAlike looks) (look : Look) (there : Contains looks look) where
  abbrev told : List Pair
  told = told_of look

  abbrev root : NodeId
  root = (outlook look).root

  -- what a reached system lists it lists of its own routes
  pub listed-at : (other : Look) (system : SystemId) (item : PrefixItem) → Contains looks other → (outlook other).root.system ≡ system → Contains (reach_in told system) item → Contains (own_items other) item
  listed-at other system item in_other same h =
      subst (λ (items : List PrefixItem). Contains items item)
      (reach-same told (told_of other) (look-told look) (look-told other) (same-as looks alike look other there in_other) system ∙ ap (reach_in (told_of other)) (sym same)) h

  bit-off : (s : System) → Contains (reached_in told root) s → has_bit told s ≡ false
  bit-off s h =
      let r = of-reached told root s h in
      let zero = (leads-parts (node_number root) r.pair.0 r.other).1 in
      let k = known-node looks alike look r.pair there r.there zero in
      let node : own_node s.0 ≡ (outlook k.0).root = ap own_node r.system ∙ own-is r.pair.0.node zero ∙ sym k.2 in
      attached-same told (told_of k.0) (look-told look) (look-told k.0) (same-as looks alike look k.0 there k.1) (own_node s.0)
      ∙ ap (λ (node : NodeId). attached_at (lead_of (told_of k.0) node)) node
      ∙ (alike.settled k.0 k.1).apart

  no-defaults : (c : Candidate) → Contains (defaults told root) c → ⊥
  unfolding defaults
  no-defaults c h =
      let f = of_flat_map (default_of told) (reached_in told root) c h in
      contains_none c (subst (λ (t : Bool). Contains (if t then default_by (prefix_from 0 0) f.0 else []) c) (bit-off f.0 f.1) f.2)

  pub cases-of : (c : Candidate) → Contains (candidates_of (outlook look)) c → (rank_number c.rank ≡ 0) ⊎ IsTelling (outlook look) c
  cases-of c h = split (outlook look) c (alike.alone look there) no-defaults h

  -- a candidate of its own for a prefix makes a route of its own
  pub own-has : (c : Candidate) (prefix : ℕ) → Contains (candidates_of (outlook look)) c → prefix_number c.prefix ≡ prefix → rank_number c.rank ≡ 0 → HasOwn look prefix
  own-has c prefix h same zero =
      let are = alike.routes_are look there in
      let r = are.all c h in
      let is = are.each r.0 r.1 in
      let best = subst (λ (k : ℕ). IsNoWorse (rank_number r.0.rank) r.0.cost k c.cost) zero (is.best c h (sym r.2)) in
      (r.0, r.1, r.2 ∙ same, no_rank (rank_number r.0.rank) r.0.cost c.cost best)

-- ---- the owner's prefix at a router

module _ (looks : List Look) (alike : AreAlike looks) (prefix : ℕ) (owner : Look) (is : IsOwner looks prefix owner) where
  pub at-owner : IsOwn (candidates_of (outlook owner)) prefix is.own.0.cost
  at-owner =
      let r = (alike.routes_are owner is.there).each is.own.0 is.own.1 in
      record {
        from = λ c h same zero. no_worse (rank_number is.own.0.rank) is.own.0.cost (rank_number c.rank) c.cost (r.best c h (same ∙ sym is.own.2)) (is.own.3 ∙ sym zero);
        into = (r.some.0, r.some.1, (r.some.2.0 ∙ is.own.2, r.some.2.1 ∙ is.own.3, r.some.2.2));
      }

  module _ (look : Look) (there : Contains looks look) (elsewhere : root_of look ≢ root_of owner) where
    abbrev rows : List Row
    rows = usable_rows (told_of look) (outlook look).root

    -- it is told by the owner, at its own metric
    pub told-from : (c : Candidate) → Contains (candidates_of (outlook look)) c → prefix_number c.prefix ≡ prefix
        → (d : ℕ) × IsLeastCost rows (root_of look) (root_of owner) d × IsFor c prefix 1 (d + is.own.0.cost) × (node_number c.origin ≡ root_of owner)
    told-from c h same =
        elim (cases-of looks alike look there c h) [
          | inl zero ↦ absurd (elsewhere (ap root_of (is.only look there (own-has looks alike look there c prefix h same zero))))
          | inr t ↦
              let r = of-reached (told_of look) (outlook look).root t.system t.reached in
              let zero = (leads-parts (root_of look) r.pair.0 r.other).1 in
              let k = known-node looks alike look r.pair there r.there zero in
              let at_node : own_node t.system.0 ≡ (outlook k.0).root = ap own_node r.system ∙ own-is r.pair.0.node zero ∙ sym k.2 in
              let listed = listed-at looks alike look there k.0 t.system.0 t.item k.1 (sym (ap (λ (node : NodeId). node.system) at_node)) t.listed in
              let own = own-of looks alike k.0 t.item k.1 listed in
              let number : prefix_number own.0.prefix ≡ prefix = ap (λ (way : ℕ × ℕ). way.0) own.3 ∙ ap (λ (d : Candidate). prefix_number d.prefix) t.is ∙ same in
              let home = is.only k.0 k.1 (own.0, own.1, number, own.2) in
              let metric : t.item.metric ≡ is.own.0.cost = sym (ap (λ (way : ℕ × ℕ). way.1) own.3) ∙ ap (λ (route : Route). route.cost) (one-route looks alike prefix owner is k.0 own.0 home own.1 number) in
              let down = (alike.settled k.0 k.1).up t.item listed in
              let node : node_number r.pair.0.node ≡ root_of owner = ap node_number (sym k.2) ∙ ap root_of home in (
                t.system.1,
                least-of rows (root_of look) (root_of owner) t.system.1 (subst (λ (n : ℕ). cost_of rows (root_of look) n ≡ Some t.system.1) node r.cost),
                (
                  same,
                  ap (λ (d : Candidate). rank_number d.rank) (sym t.is) ∙ ap (λ (b : Bool). rank_number (rank_in level.One b)) down,
                  ap (λ (d : Candidate). d.cost) (sym t.is) ∙ ap (λ (m : ℕ). t.system.1 + m) metric,
                ),
                ap (λ (d : Candidate). node_number d.origin) (sym t.is) ∙ ap node_number at_node ∙ ap root_of home,
              )
        ]

    pub told-into : (d : ℕ) → IsLeastCost rows (root_of look) (root_of owner) d → (c : Candidate) × Contains (candidates_of (outlook look)) c × IsFor c prefix 1 (d + is.own.0.cost)
    told-into d least =
        let i = item-of looks alike owner is.own.0 is.there is.own.1 is.own.3 in
        let system = (outlook owner).root.system in
        let listed : Contains (reach_in (told_of look) system) i.0 =
        subst (λ (items : List PrefixItem). Contains items i.0) (reach-same (told_of owner) (told_of look) (look-told owner) (look-told look) (same-as looks alike owner look is.there there) system) i.1 in
        let lead = reach-lead (told_of look) system i.0 listed in
        let f = find-pair (told_of look) (number_of (own_node system) 0) lead.0 lead.1 in
        let number : pair_number f.0 ≡ number_of (outlook owner).root 0 = f.2 ∙ ap (λ (node : NodeId). number_of node 0) (sym (root-own owner)) in
        let id : f.0.0 ≡ zero_of (outlook owner).root = lsp_number-one f.0.0 (zero_of (outlook owner).root) (told-id look f.0 f.1) (root-id owner) number in
        let node : node_number f.0.0.node ≡ root_of owner = ap (λ (i : LspId). node_number i.node) id in
        let leads = leads-there (root_of look) f.0.0 (ap (λ (i : LspId). i.number) id) (ap (λ (i : LspId). i.node.pseudonode) id ∙ root-zero owner) (λ e. elsewhere (sym e ∙ node)) in
        let cost = of-least rows (root_of look) (root_of owner) d least in
        let reached = to-reached (told_of look) (outlook look).root f.0 d f.1 leads (subst (λ (n : ℕ). cost_of rows (root_of look) n ≡ Some d) (sym node) cost) in
        let there_listed = subst (λ (s : SystemId). Contains (reach_in (told_of look) s) i.0) (sym (ap (λ (i : LspId). i.node.system) id)) listed in (
          told_candidate level.One (f.0.0.node.system, d) i.0,
          to-candidates (outlook look) (f.0.0.node.system, d) i.0 reached there_listed,
          (
            ap (λ (way : ℕ × ℕ). way.0) i.2 ∙ is.own.2,
            ap (λ (b : Bool). rank_number (rank_in level.One b)) ((alike.settled owner is.there).up i.0 i.1),
            ap (λ (way : ℕ × ℕ). d + way.1) i.2,
          ),
        )
