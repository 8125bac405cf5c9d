-- Routers that are alike agree, and their next hops are among them.
use Rattle.std.proofs.Common.{◌≡◌, ◌≢◌, ◌∙◌, ℕ, ◌≤◌, Bool, true, false, not, List, [], ◌∷◌, map, is_some, sym, ap, subst, arith, inl, inr, if◌then◌else◌, ◌&&◌, ◌||◌, ◌==◌}
use Rattle.std.specs.List.{Contains, list_any, flat_map}
use Rattle.std.proofs.lemmas.Bool.{cases_eq, and_parts, or_cases, eqb-true}
use Rattle.isis_base.specs.declared.identifiers.NodeId.{NodeId}
use Rattle.isis_tlv.specs.declared.neighbour.NeighbourItem.{NeighbourItem}
use Rattle.lsp_view.specs.Bodies.{neighbours_in}
use Rattle.lsp_view.specs.Views.{lead_of, row_from, rows_of, led_rows, rows_in, overloaded_in}
use Rattle.spf_tree.specs.declared.row.Row.{Row}
use Rattle.spf_tree.specs.Nodes.{node_number, is_system}
use Rattle.spf_tree.specs.Walks.{start, end, IsWalk}
use Rattle.spf_tree.specs.Graphs.{GraphOf, leads, is_overloaded, is_usable}
use Rattle.spf_tree.specs.NextHops.{IsNextHop}
use Rattle.spf_tree.proofs.SearchLemmas.{contains_first, contains_rest, contains_none}
use Rattle.route_table.specs.declared.rank.Rank.{Rank}
use Rattle.route_table.specs.declared.rank.Rank.TheVariants.{Own, One, Two, OneDown, Default}
use Rattle.route_table.specs.declared.route.Route.{Route}
use Rattle.route_table.specs.Routes.{IsHopBy, IsHopTo, AreRoutes}
use Rattle.router_routes.specs.Outlooks.{usable_rows, graph_in}
use Rattle.router_routes.specs.Candidates.{candidates_of}
use Rattle.router_routes.proofs.ToldLemmas.{no-rows}
use Rattle.forward_views.specs.Moves.{usable_from}
use Rattle.forward_views.proofs.MoveLemmas.{parts, of_filter}
use Rattle.forward_views.specs.Owned.{IsAt, IsOwn}
use Rattle.forward_views.specs.Walked.{RouterOf, Agree}
use Rattle.forward_views.specs.Walked as walked
use Rattle.forward_views.specs.Looks.{Look, outlook, root_of, told_of, AreAlike, IsOwner}
use Rattle.forward_views.specs.Forwarded.{router_in, DoAgree, IsNext}
use Rattle.forward_views.proofs.ListLemmas.{of_map, of_flat_map}
use Rattle.forward_views.proofs.NodeLemmas.{zero-id, system-there}
use Rattle.forward_views.proofs.SaidLemmas.{Pair, AreTold, live-all, rows-same, overloaded-same}
use Rattle.forward_views.proofs.LookLemmas.{look-told, told-id, same-as, known-node}
use Rattle.forward_views.proofs.TellLemmas.{at-owner, told-from, told-into}

-- ---- who tells a row

pub record IsListed (told : List Pair) (row : Row) : Type 0 where
  pub pair : Pair
  pub there : Contains told pair
  pub item : NeighbourItem
  pub listed : Contains (neighbours_in pair.1.octets) item
  pub is : row_from pair.0.node item ≡ row

of-rows : (told : List Pair) (row : Row) → AreTold told → Contains (rows_in told) row → IsListed told row
unfolding rows_in
of-rows told row are h =
    let f = of_flat_map (led_rows told) told row (subst (λ (pairs : List Pair). Contains (flat_map (led_rows told) pairs) row) (live-all told are) h) in
    let m = of_map (row_from f.0.0.node) (neighbours_in f.0.1.octets) row (led (is_some (lead_of told f.0.0.node)) f.0 f.2) in
    record { pair = f.0; there = f.1; item = m.0; listed = m.1; is = m.2 }
  where
    led : (t : Bool) (pair : Pair) → Contains (if t then rows_of pair else []) row → Contains (rows_of pair) row
    led true pair there = there
    led false pair there = absurd (contains_none row there)

-- ---- all have the same rows

module _ (looks : List Look) (alike : AreAlike looks) where
  pub rows-are : (look owner : Look) → Contains looks look → Contains looks owner → usable_rows (told_of look) (outlook look).root ≡ usable_from (rows_in (told_of owner)) (overloaded_in (told_of owner)) (root_of look)
  rows-are look owner there in_owner =
      let told = told_of look in
      let same = same-as looks alike look owner there in_owner in
      ap (λ (rows : List Row). usable_from rows (overloaded_in told) (root_of look)) (rows-same told (told_of owner) (look-told look) (look-told owner) same)
      ∙ ap (λ (nodes : List NodeId). usable_from (rows_in (told_of owner)) nodes (root_of look)) (overloaded-same told (told_of owner) (look-told look) (look-told owner) same)

  some-metric : (look owner : Look) (row : Row) → Contains looks look → Contains looks owner → Contains (rows_in (told_of owner)) row → start row ≡ root_of look → 1 ≤ row.metric
  some-metric look owner row there in_owner h starts =
      let rows = rows-same (told_of owner) (told_of look) (look-told owner) (look-told look) (same-as looks alike owner look in_owner there) in
      let l = of-rows (told_of look) row (look-told look) (subst (λ (rs : List Row). Contains rs row) rows h) in
      let node : node_number l.pair.0.node ≡ root_of look = ap start l.is ∙ starts in
      elim (cases_eq row.metric 0) [
        | inl zero ↦ absurd (alike.none_zero look there (l.pair, l.there, node, (l.item, l.listed, ap (λ (r : Row). r.metric) l.is ∙ zero)))
        | inr some ↦ omega (arith, some)
      ]

  -- ---- the tests of a router's candidates, in the words of graphs

  module _ (prefix : ℕ) (owner : Look) (is : IsOwner looks prefix owner) where
    at : (look : Look) → Contains looks look → IsAt (router_in look).one (router_in look).candidates prefix (root_of owner) is.own.0.cost
    unfolding graph_in
    at look there = record {
      own = λ home. subst (λ (l : Look). IsOwn (candidates_of (outlook l)) prefix is.own.0.cost) (sym (alike.one_each look owner there is.there home)) (at-owner looks alike prefix owner is);
      told = λ elsewhere. record { from = told-from looks alike prefix owner is look there elsewhere; into = told-into looks alike prefix owner is look there elsewhere };
    }

    pub agreed : Agree (rows_in (told_of owner)) (overloaded_in (told_of owner)) prefix (root_of owner) is.own.0.cost (map router_in looks)
    unfolding graph_in
    agreed = record {
      rows_are = λ r h.
          let m = of_map router_in looks r h in
          subst (λ (x : RouterOf). x.one.rows ≡ usable_from (rows_in (told_of owner)) (overloaded_in (told_of owner)) (walked.root_of x)) m.2 (rows-are m.0 owner m.1 is.there);
      at = λ r h.
          let m = of_map router_in looks r h in
          subst (λ (x : RouterOf). IsAt x.one x.candidates prefix (root_of owner) is.own.0.cost) m.2 (at m.0 m.1);
      routes_are = λ r h.
          let m = of_map router_in looks r h in
          subst (λ (x : RouterOf). AreRoutes (IsHopTo x.one x.two) x.candidates x.routes) m.2 (alike.routes_are m.0 m.1);
      one_each = λ a b in_a in_b same.
          let m = of_map router_in looks a in_a in
          let n = of_map router_in looks b in_b in
          let roots : root_of m.0 ≡ root_of n.0 = ap walked.root_of m.2 ∙ same ∙ sym (ap walked.root_of n.2) in
          sym m.2 ∙ ap router_in (alike.one_each m.0 n.0 m.1 n.1 roots) ∙ n.2;
      none_zero = λ r row h listed starts.
          let m = of_map router_in looks r h in
          some-metric m.0 owner row m.1 is.there listed (starts ∙ sym (ap walked.root_of m.2));
    }

    pub do-agree : DoAgree looks prefix owner
    do-agree = record { rows = rows_in (told_of owner); overloaded = overloaded_in (told_of owner); metric = is.own.0.cost; agree = agreed }

-- ---- next hops

any-there : (p : Row → Bool) (rows : List Row) → list_any p rows ≡ true → (row : Row) × Contains rows row × (p row ≡ true)
any-there p [] any = cc
any-there p (row ∷ rows) any =
    elim (or_cases (p row) (list_any p rows) any) [
      | inl here ↦ (row, contains_first row rows, here)
      | inr later ↦ let f = any-there p rows later in (f.0, contains_rest row f.0 rows f.1, f.2)
    ]

-- a row leads to the hop, which is a system and another than the root
pub record IsLed (rows : List Row) (root hop : ℕ) : Type 0 where
  pub row : Row
  pub there : Contains rows row
  pub ends : end row ≡ hop
  pub other : hop ≢ root
  pub system : is_system hop ≡ true

led-by : (rows : List Row) (root hop : ℕ) (walk : List Row) → IsWalk rows root walk hop → hop ≢ root → is_system hop ≡ true → IsLed rows root hop
led-by rows root hop [] is other system = absurd (other is)
led-by rows root hop (row ∷ walk) is other system = record { row = row; there = is.0; ends = is.1; other = other; system = system }

led-to : (rows : List Row) (root target hop : ℕ) → IsNextHop rows root target hop → IsLed rows root hop
led-to rows root target hop next =
    let p = parts rows root hop next.0 target next.1.is next.2 in
    led-by rows root hop p.first p.led p.other p.system

-- where level 2 has no rows, each next hop is one of level 1
first-hop : (one two : GraphOf) (rank : Rank) (origin hop : ℕ) → ((row : Row) → Contains two.rows row → ⊥) → IsHopBy one two rank origin hop → IsNextHop one.rows (node_number one.root) origin hop
first-hop one two Own origin hop none there = absurd there
first-hop one two One origin hop none there = there
first-hop one two Two origin hop none there = let l = led-to two.rows (node_number two.root) origin hop there in absurd (none l.row l.there)
first-hop one two OneDown origin hop none there = there
first-hop one two Default origin hop none there = there

-- a row that may be walked has one that leads back
led-back : (told : List Pair) (root : NodeId) (row : Row) → Contains (usable_rows told root) row → leads (rows_in told) (end row) (start row) ≡ true
led-back told root row h =
    let f = of_filter (λ (r : Row). is_usable (rows_in told) (overloaded_in told) (node_number root) (start r) (end r) r.metric) (rows_in told) row h in
    let back = leads (rows_in told) (end row) (start row) in
    let calm = start row == node_number root || not (is_overloaded (overloaded_in told) (start row)) in
    (and_parts back calm (and_parts (not (row.metric == 16777215)) (back && calm) f.1).1).0

module _ (looks : List Look) (alike : AreAlike looks) where
  -- whoever tells a row that starts at a system is one of the routers
  teller : (look : Look) (row : Row) → Contains looks look → IsListed (told_of look) row → is_system (start row) ≡ true → (other : Look) × Contains looks other × (root_of other ≡ start row)
  teller look row there l system =
      let node : node_number l.pair.0.node ≡ start row = ap start l.is in
      let zero = system-there l.pair.0.node (zero-id l.pair.0 (told-id look l.pair l.there)) (subst (λ (n : ℕ). is_system n ≡ true) (sym node) system) in
      let k = known-node looks alike look l.pair there l.there zero in
      (k.0, k.1, ap node_number k.2 ∙ node)

  led-known : (look : Look) (hop : ℕ) → Contains looks look → IsLed (usable_rows (told_of look) (outlook look).root) (root_of look) hop → (next : Look) × IsNext looks look hop next
  led-known look hop there led =
      let b = any-there (λ (r : Row). start r == end led.row && end r == start led.row) (rows_in (told_of look)) (led-back (told_of look) (outlook look).root led.row led.there) in
      let starts : start b.0 ≡ hop = eqb-true (start b.0) (end led.row) (and_parts (start b.0 == end led.row) (end b.0 == start led.row) b.2).0 ∙ led.ends in
      let t = teller look b.0 there (of-rows (told_of look) b.0 (look-told look) b.1) (subst (λ (n : ℕ). is_system n ≡ true) (sym starts) led.system) in
      (t.0, (t.1, t.2 ∙ starts, (λ same. led.other (sym (t.2 ∙ starts) ∙ same))))

  none-in-two : (look : Look) (row : Row) → Contains looks look → Contains (usable_rows (outlook look).told.two (outlook look).root) row → ⊥
  none-in-two look row there among =
      let two = (outlook look).told.two in
      let f = of_filter (λ (r : Row). is_usable (rows_in two) (overloaded_in two) (root_of look) (start r) (end r) r.metric) (rows_in two) row among in
      contains_none row (subst (λ (rows : List Row). Contains rows row) (ap rows_in (alike.alone look there) ∙ no-rows) f.0)

  pub hops : (look : Look) (route : Route) (hop : ℕ) → Contains looks look → Contains look.routes route → Contains route.hops hop → (next : Look) × IsNext looks look hop next
  unfolding graph_in
  hops look route hop there listed among =
      let root = (outlook look).root in
      let h = (((alike.routes_are look there).each route listed).hops hop).0 among in
      led-known look hop there (led-to (usable_rows (told_of look) root) (root_of look) (node_number h.0.origin) hop
      (first-hop (graph_in (told_of look) root) (graph_in (outlook look).told.two root) h.0.rank (node_number h.0.origin) hop (λ row in'. none-in-two look row there in') h.3))
