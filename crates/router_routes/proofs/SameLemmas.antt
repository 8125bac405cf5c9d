-- Candidates of two outlooks that reach the same, and what follows a router then.
use Rattle.std.proofs.Common.{◌≡◌, ◌∙◌, ℕ, ◌<◌, Bool, true, false, ◌&&◌, not, List, [], ◌∷◌, ◌++◌, map, filter, refl, sym, ap, subst, arith, inl, inr}
use Rattle.std.specs.List.{AllByRecursion, Contains, flat_map}
use Rattle.std.proofs.lemmas.List.Elements.{Contains-append_left, Contains-push, Contains-push_cases}
use Rattle.isis_base.specs.declared.identifiers.SystemId.{SystemId}
use Rattle.isis_base.specs.declared.identifiers.NodeId.{NodeId}
use Rattle.isis_base.specs.declared.identifiers.LspId.{LspId}
use Rattle.isis_base.specs.declared.prefix.Prefix.{Prefix}
use Rattle.isis_base.specs.declared.level.Level.TheVariants as level
use Rattle.isis_base.specs.Identifiers.{IsId, lsp_number}
use Rattle.isis_base.proofs.ArrayLemmas.{lsp_number-one}
use Rattle.model_router.specs.Both.{Both, runs_of}
use Rattle.lsp_store.specs.declared.entry.Entry.{Entry}
use Rattle.spf_tree.specs.Nodes.{node_number}
use Rattle.spf_tree.specs.Distances.{cost_at, AreDistances}
use Rattle.spf_repair.specs.Changes.{RepairedOf}
use Rattle.route_table.specs.declared.candidate.Candidate.{Candidate}
use Rattle.route_table.specs.Routes.{IsHopTo}
use Rattle.route_table.proofs.OrderLemmas.{routes_by}
use Rattle.router_routes.specs.declared.lent.Lent.{Lent}
use Rattle.router_routes.specs.declared.view.View.{View}
use Rattle.router_routes.specs.Outlooks.{Outlook, graph_in, outlook_in, where_run}
use Rattle.router_routes.specs.Candidates.{reached_in, reached_by, system_ways, level_ways, ways_of, own_candidate, attached_of, may_default, is_weighed, weighed_of}
use Rattle.router_routes.specs.Following.{FollowingOf, IsFollowing, IsLevel}
use Rattle.router_routes.specs.Kept.{AreSame, AreAmong, AreBeside, CostBeside, HaveToldIds, stays, systems_among, ways_by}
use Rattle.router_routes.specs.Ways.{AreWays}
use Rattle.router_routes.specs.Moved.{AreFit, HaveIds, outlook_at, told_of, AreNodes, is_among}
use Rattle.router_routes.proofs.GraphLemmas.{reached-are, hop-same}
use Rattle.spf_tree.proofs.SearchLemmas.{contains_cases, contains_none}
use Rattle.router_routes.proofs.IdLemmas.{number-0}
use Rattle.router_routes.proofs.MovedLemmas.{told-ids}
use Rattle.router_routes.proofs.AfterLemmas.{list-more}
use Rattle.router_routes.proofs.ViewLemmas.{level-ids}
use Rattle.router_routes.proofs.KeptLemmas.{among-in, in-among}
use Rattle.router_routes.proofs.BesideLemmas.{same-refl, same-back, same-append, same-filter, both-kept}
use Rattle.router_routes.proofs.WayLemmas.{ways-one}
use Rattle.router_routes.proofs.WeighedLemmas.{routes-weighed, weighed-routes}

abbrev Pair : Type 0
Pair = LspId × Entry

abbrev pub AreCostsOf : RepairedOf → Type 0
AreCostsOf r = AreDistances r.graph.rows (node_number r.root) r.distances

-- ---- candidates

-- two outlooks whose levels tell the same have the same candidates
pub weighed-by : (o p : Outlook) → p.root ≡ o.root → p.runs ≡ o.runs → p.prefixes ≡ o.prefixes → attached_of o ≡ attached_of p → AreSame (ways_of o) (ways_of p) → AreSame (weighed_of o) (weighed_of p)
unfolding weighed_of
weighed-by o p root runs prefixes attached same =
    let own : map (own_candidate o.root) o.prefixes ≡ map (own_candidate p.root) p.prefixes =
    ap (λ (n : NodeId). map (own_candidate n) o.prefixes) (sym root) ∙ ap (λ (ps : List (Prefix × ℕ)). map (own_candidate p.root) ps) (sym prefixes) in
    let may : may_default o ≡ may_default p =
    ap (λ (r : Both Bool). r.one && not (attached_of o)) (sym runs) ∙ ap (λ (t : Bool). p.runs.one && not t) attached in
    same-append (map (own_candidate o.root) o.prefixes) (filter (is_weighed (may_default o)) (ways_of o)) (map (own_candidate p.root) p.prefixes) (filter (is_weighed (may_default p)) (ways_of p)) (same-refl _ _ own)
    (subst (λ (t : Bool). AreSame (filter (is_weighed (may_default o)) (ways_of o)) (filter (is_weighed t) (ways_of p))) may (same-filter (is_weighed (may_default o)) (ways_of o) (ways_of p) same))

-- ---- routes

-- what follows a router follows it where its costs are right still and it reaches the same
pub stays-following : (o p : Outlook) (f : FollowingOf) → IsFollowing o f → p.root ≡ o.root → p.runs ≡ o.runs → p.prefixes ≡ o.prefixes → IsLevel p level.One f.levels.one → IsLevel p level.Two f.levels.two → AreWays f.told.rows (ways_of p) → f.attached ≡ attached_of p → IsFollowing p f
stays-following o p f is root runs prefixes one two told attached =
    let old = IsHopTo (graph_in o.told.one o.root) (graph_in o.told.two o.root) in
    let new = IsHopTo (graph_in p.told.one p.root) (graph_in p.told.two p.root) in
    let same = weighed-by o p root runs prefixes (sym is.attached ∙ attached) (ways-one f.told.rows (ways_of o) (ways_of p) is.told told) in
    record {
      one = one;
      two = two;
      hops_one = is.hops_one;
      hops_two = is.hops_two;
      routes =
          weighed-routes new p f.routes
          (routes_by old new (weighed_of o) (weighed_of p) f.routes (λ c. (same c).1) (λ c. (same c).0)
          (λ c hop. hop-same o p f.levels.one f.levels.two is.one is.two one two c hop) (routes-weighed old o f.routes is.routes));
      attached = attached;
      told = told;
    }

-- ---- what is reached once some nodes moved

module _ (o p : Outlook) (nodes : List NodeId) (node-ids : AreNodes nodes) (beside : AreBeside nodes o p) (old-ids : HaveToldIds o) (new-ids : HaveToldIds p) (o1 o2 n1 n2 : RepairedOf) (lo1 : IsLevel o level.One o1) (lo2 : IsLevel o level.Two o2) (ln1 : IsLevel p level.One n1) (ln2 : IsLevel p level.Two n2) where
  abbrev AreCosts : RepairedOf → Type 0
  AreCosts r = AreDistances r.graph.rows (node_number r.root) r.distances

  by-old : (r : RepairedOf) → r.root ≡ o.root → AreCosts r → AreDistances r.graph.rows (node_number o.root) r.distances
  by-old r same are = subst (λ (n : NodeId). AreDistances r.graph.rows (node_number n) r.distances) same are

  by-new : (r : RepairedOf) → r.root ≡ p.root → AreCosts r → AreDistances r.graph.rows (node_number o.root) r.distances
  by-new r same are = subst (λ (n : NodeId). AreDistances r.graph.rows (node_number n) r.distances) (same ∙ beside.root) are

  module _ (a1 : AreCosts o1) (b1 : AreCosts n1) (c1 : CostBeside nodes o1.distances n1.distances) where
    root-one : node_number n1.graph.root ≡ node_number o.root
    root-one = ap node_number (ln1.graph.from ∙ beside.root)

    reach-old-1 : flat_map (reached_by (cost_at o1.distances) (node_number o.root)) o.told.one ≡ reached_in o.told.one o.root
    reach-old-1 = reached-are o.told.one o.root o1.graph lo1.graph o1.distances (by-old o1 lo1.root a1)

    reach-new-1 : flat_map (reached_by (cost_at n1.distances) (node_number o.root)) p.told.one ≡ reached_in p.told.one p.root
    reach-new-1 =
        ap (λ (n : NodeId). flat_map (reached_by (cost_at n1.distances) (node_number n)) p.told.one) (sym beside.root)
        ∙ reached-are p.told.one p.root n1.graph ln1.graph n1.distances (subst (λ (n : NodeId). AreDistances n1.graph.rows (node_number n) n1.distances) ln1.root b1)

    module _ (a2 : AreCosts o2) (b2 : AreCosts n2) (c2 : CostBeside nodes o2.distances n2.distances) where
      root-two : node_number n2.graph.root ≡ node_number o.root
      root-two = ap node_number (ln2.graph.from ∙ beside.root)

      reach-old-2 : flat_map (reached_by (cost_at o2.distances) (node_number o.root)) o.told.two ≡ reached_in o.told.two o.root
      reach-old-2 = reached-are o.told.two o.root o2.graph lo2.graph o2.distances (by-old o2 lo2.root a2)

      reach-new-2 : flat_map (reached_by (cost_at n2.distances) (node_number o.root)) p.told.two ≡ reached_in p.told.two p.root
      reach-new-2 =
          ap (λ (n : NodeId). flat_map (reached_by (cost_at n2.distances) (node_number n)) p.told.two) (sym beside.root)
          ∙ reached-are p.told.two p.root n2.graph ln2.graph n2.distances (subst (λ (n : NodeId). AreDistances n2.graph.rows (node_number n) n2.distances) ln2.root b2)

      old-told : flat_map (system_ways level.One o.told.one) (flat_map (reached_by (cost_at o1.distances) (node_number o.root)) o.told.one) ++ flat_map (system_ways level.Two o.told.two) (flat_map (reached_by (cost_at o2.distances) (node_number o.root)) o.told.two) ≡ ways_of o
      unfolding ways_of level_ways
      old-told =
          ap (λ (s : List (SystemId × ℕ)). flat_map (system_ways level.One o.told.one) s ++ flat_map (system_ways level.Two o.told.two) (flat_map (reached_by (cost_at o2.distances) (node_number o.root)) o.told.two)) reach-old-1
          ∙ ap (λ (s : List (SystemId × ℕ)). flat_map (system_ways level.One o.told.one) (reached_in o.told.one o.root) ++ flat_map (system_ways level.Two o.told.two) s) reach-old-2

      new-told : flat_map (system_ways level.One p.told.one) (flat_map (reached_by (cost_at n1.distances) (node_number o.root)) p.told.one) ++ flat_map (system_ways level.Two p.told.two) (flat_map (reached_by (cost_at n2.distances) (node_number o.root)) p.told.two) ≡ ways_of p
      unfolding ways_of level_ways
      new-told =
          ap (λ (s : List (SystemId × ℕ)). flat_map (system_ways level.One p.told.one) s ++ flat_map (system_ways level.Two p.told.two) (flat_map (reached_by (cost_at n2.distances) (node_number o.root)) p.told.two)) reach-new-1
          ∙ ap (λ (s : List (SystemId × ℕ)). flat_map (system_ways level.One p.told.one) (reached_in p.told.one p.root) ++ flat_map (system_ways level.Two p.told.two) s) reach-new-2

      pub told-after : (kept list : List Candidate) → AreSame kept (ways_of o)
          → list ≡ filter (stays nodes) kept ++ (flat_map (system_ways level.One p.told.one) (systems_among (cost_at n1.distances) (node_number n1.graph.root) nodes) ++ flat_map (system_ways level.Two p.told.two) (systems_among (cost_at n2.distances) (node_number n2.graph.root) nodes))
          → AreSame list (ways_of p)
      told-after kept list are is =
          subst (λ (cs : List Candidate). AreSame list cs) new-told
          (both-kept nodes node-ids o.told.one o.told.two p.told.one p.told.two old-ids.one old-ids.two new-ids.one new-ids.two beside.one beside.two (node_number o.root) o1.distances o2.distances n1.distances n2.distances c1 c2 kept list
          (subst (λ (cs : List Candidate). AreSame kept cs) (sym old-told) are)
          (subst (λ (n : ℕ). list ≡ filter (stays nodes) kept ++ (flat_map (system_ways level.One p.told.one) (systems_among (cost_at n1.distances) (node_number o.root) nodes) ++ flat_map (system_ways level.Two p.told.two) (systems_among (cost_at n2.distances) n nodes))) root-two
          (subst (λ (n : ℕ). list ≡ filter (stays nodes) kept ++ (flat_map (system_ways level.One p.told.one) (systems_among (cost_at n1.distances) n nodes) ++ flat_map (system_ways level.Two p.told.two) (systems_among (cost_at n2.distances) (node_number n2.graph.root) nodes))) root-one is)))

-- those that stay, and those that come
pub come-are : (o p : Outlook) (f : FollowingOf) → IsFollowing o f → (nodes : List NodeId) → AreNodes nodes → AreBeside nodes o p → HaveToldIds o → HaveToldIds p → (n1 n2 : RepairedOf) → IsLevel p level.One n1 → IsLevel p level.Two n2 → AreCostsOf f.levels.one → AreCostsOf f.levels.two → AreCostsOf n1 → AreCostsOf n2
    → CostBeside nodes f.levels.one.distances n1.distances → CostBeside nodes f.levels.two.distances n2.distances → AreSame (filter (stays nodes) (ways_of o) ++ ways_by p n1 n2 nodes) (ways_of p)
come-are o p f is nodes ids beside old-ids new-ids n1 n2 ln1 ln2 a1 a2 b1 b2 c1 c2 =
    told-after o p nodes ids beside old-ids new-ids f.levels.one f.levels.two n1 n2 is.one is.two ln1 ln2 a1 b1 c1 a2 b2 c2 (ways_of o) (filter (stays nodes) (ways_of o) ++ ways_by p n1 n2 nodes) (same-refl (ways_of o) (ways_of o) refl) refl

-- those that stay, and those that go
pub went-are : (o : Outlook) (f : FollowingOf) → IsFollowing o f → (nodes : List NodeId) → AreNodes nodes → HaveToldIds o → AreCostsOf f.levels.one → AreCostsOf f.levels.two → AreSame (ways_of o) (filter (stays nodes) (ways_of o) ++ ways_by o f.levels.one f.levels.two nodes)
went-are o f is nodes ids told-ids a1 a2 =
    let here : AreBeside nodes o o = record { root = refl; areas = refl; runs = refl; one = refl; two = refl } in
    let same-costs : (d : List (ℕ × ℕ)) → CostBeside nodes d d = λ d m id none. refl in
    same-back _ (ways_of o) (come-are o o f is nodes ids here told-ids told-ids f.levels.one f.levels.two is.one is.two a1 a2 a1 a2 (same-costs f.levels.one.distances) (same-costs f.levels.two.distances))

pub beside-more : (some all : List NodeId) (o p : Outlook) → AreAmong some all → AreBeside some o p → AreBeside all o p
beside-more some all o p more is = record { root = is.root; areas = is.areas; runs = is.runs; one = list-more some all o.told.one p.told.one more is.one; two = list-more some all o.told.two p.told.two more is.two }

-- ---- LSP IDs and nodes

-- what is told has LSP IDs of eight octets where the database has
pub where-ids : (runs : Bool) (told : List Pair) → HaveIds told → HaveIds (where_run runs told)
where-ids true told ids = ids
where-ids false told ids = tt

pub lent-have : (lent : Lent) → HaveIds lent.one.now.entries → HaveIds lent.two.now.entries → HaveToldIds (outlook_in lent)
unfolding outlook_in
lent-have lent a b = record { one = where-ids (runs_of lent.levels).one _ (told-ids lent.one.now.entries a); two = where-ids (runs_of lent.levels).two _ (told-ids lent.two.now.entries b) }

pub view-have : (view : View) → HaveIds view.one.store.now.entries → HaveIds view.two.store.now.entries → AreFit view → HaveToldIds (outlook_at view)
unfolding outlook_at
view-have view a b fit = record { one = where-ids (runs_of view.levels).one _ (level-ids view.one a fit.one); two = where-ids (runs_of view.levels).two _ (level-ids view.two b fit.two) }

-- one node more
pub one-node : (m : NodeId) → IsId (record { node = m; number = 0 }) → AreNodes (m ∷ [])
one-node m id x there =
    elim (contains_cases m x [] there) [
      | inl same ↦ subst (λ (n : NodeId). IsId (record { node = n; number = 0 })) same id
      | inr more ↦ absurd (contains_none x more)
    ]

pub node-more : (nodes more : List NodeId) (m : NodeId) → more ≡ nodes ++ m ∷ [] → AreNodes nodes → IsId (record { node = m; number = 0 }) → AreNodes more
node-more nodes more m e all id x there =
    elim (Contains-push_cases nodes m x (subst (λ (l : List NodeId). Contains l x) e there)) [
      | inl before ↦ all x before
      | inr same ↦ subst (λ (n : NodeId). IsId (record { node = n; number = 0 })) same id
    ]

pub among-push : (nodes more : List NodeId) (m : NodeId) → more ≡ nodes ++ m ∷ [] → AreAmong nodes more
among-push nodes more m e n is =
    let x = among-in nodes n is in
    ap (is_among more) (sym x.2) ∙ in-among more x.0 (subst (λ (l : List NodeId). Contains l x.0) (sym e) (Contains-append_left nodes (m ∷ []) x.0 x.1))

pub pushed-among : (nodes more : List NodeId) (m : NodeId) → more ≡ nodes ++ m ∷ [] → is_among more (node_number m) ≡ true
pushed-among nodes more m e = in-among more m (subst (λ (l : List NodeId). Contains l m) (sym e) (Contains-push nodes m))

-- the node of an LSP ID is of seven octets
pub id-node : (id : LspId) → IsId id → IsId (record { node = id.node; number = 0 })
id-node id is = record { six = is.six; small = last-zero (id.node.system.0 ++ id.node.pseudonode ∷ []) id.number is.small }
  where
    last-zero : (xs : List ℕ) (x : ℕ) → AllByRecursion (λ octet. octet < 256) (xs ++ x ∷ []) → AllByRecursion (λ octet. octet < 256) (xs ++ 0 ∷ [])
    last-zero [] x all = (omega arith, tt)
    last-zero (y ∷ xs) x all = (all.0, last-zero xs x all.1)

-- it is the node of its number
pub named-node : (id : LspId) (number : ℕ) (m : NodeId) → IsId id → lsp_number id ≡ number → IsId (record { node = m; number = 0 }) → number ≡ node_number m → id.node ≡ m
named-node id number m is e m-is same = ap (λ (x : LspId). x.node) (lsp_number-one id (record { node = m; number = 0 }) is m-is (e ∙ same ∙ sym (number-0 m)))

pub cost-refl : (nodes : List NodeId) (d : List (ℕ × ℕ)) → CostBeside nodes d d
cost-refl nodes d m id none = refl

-- costs that the numbers among some nodes tell apart
pub cost-apart : (nodes : List NodeId) (old new : List (ℕ × ℕ)) (numbers : List ℕ) → ((n : ℕ) → (Contains numbers n → ⊥) → cost_at old n ≡ cost_at new n) → ((m : NodeId) → IsId (record { node = m; number = 0 }) → Contains numbers (node_number m) → is_among nodes (node_number m) ≡ true) → CostBeside nodes old new
cost-apart nodes old new numbers apart named m id none =
    apart (node_number m) (λ there. (let e : false ≡ true = sym none ∙ named m id there in cc))

-- ---- as the code has them

pub costs-of : (r : RepairedOf) (d : List (ℕ × ℕ)) → d ≡ r.distances → AreDistances r.graph.rows (node_number r.root) d → AreCostsOf r
costs-of r d same are = subst (AreDistances r.graph.rows (node_number r.root)) same are

pub told-by-nodes : (view : View) (s t : List (SystemId × ℕ)) (l m n : List Candidate) (one two : Bool) → one ≡ (runs_of view.levels).one → two ≡ (runs_of view.levels).two → l ≡ []
    → m ≡ l ++ flat_map (system_ways level.One (where_run one (told_of view.one))) s → n ≡ m ++ flat_map (system_ways level.Two (where_run two (told_of view.two))) t → n ≡ flat_map (system_ways level.One (outlook_at view).told.one) s ++ flat_map (system_ways level.Two (outlook_at view).told.two) t
unfolding outlook_at
told-by-nodes view s t l m n one two a b none e f =
    f
    ∙ ap (λ (x : List Candidate). x ++ flat_map (system_ways level.Two (where_run two (told_of view.two))) t) (e ∙ ap (λ (x : List Candidate). x ++ flat_map (system_ways level.One (where_run one (told_of view.one))) s) none)
    ∙ ap (λ (r : Bool). flat_map (system_ways level.One (where_run r (told_of view.one))) s ++ flat_map (system_ways level.Two (where_run two (told_of view.two))) t) a
    ∙ ap (λ (r : Bool). flat_map (system_ways level.One (where_run (runs_of view.levels).one (told_of view.one))) s ++ flat_map (system_ways level.Two (where_run r (told_of view.two))) t) b

pub among-trans : (a b c : List NodeId) → AreAmong a b → AreAmong b c → AreAmong a c
among-trans a b c f g n is = g n (f n is)
