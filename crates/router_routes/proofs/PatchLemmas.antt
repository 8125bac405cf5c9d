-- Routes of which some prefixes are looked at anew, once some nodes moved.
use Rattle.std.proofs.Common.{◌≡◌, ◌∙◌, ◌↔◌, ℕ, Bool, true, false, not, List, [], ◌∷◌, ◌++◌, ◌⊎◌, map, filter, Result, Ok, Err, IfOk, refl, sym, ap, subst, inl, inr}
use Rattle.std.specs.List.{Contains}
use Rattle.std.specs.List.Sorted.{IsStrictlyIncreasing}
use Rattle.std.proofs.lemmas.List.Elements.{Contains-append_left, Contains-append_right, Contains-append_cases}
use Rattle.isis_base.specs.declared.identifiers.NodeId.{NodeId}
use Rattle.isis_base.specs.declared.prefix.Prefix.{Prefix}
use Rattle.isis_base.specs.declared.level.Level.TheVariants as level
use Rattle.isis_base.specs.Prefixes as base
use Rattle.spf_tree.specs.Nodes.{node_number}
use Rattle.spf_tree.proofs.SearchLemmas.{contains_first, contains_rest, contains_cases, contains_none}
use Rattle.spf_repair.specs.Changes.{RepairedOf}
use Rattle.route_table.specs.declared.candidate.Candidate.{Candidate}
use Rattle.route_table.specs.declared.patch.Patch.{Patch}
use Rattle.route_table.specs.declared.rank.Rank.{Rank}
use Rattle.route_table.specs.declared.rank.Rank.TheVariants.{Own, One, Two, OneDown, Default}
use Rattle.route_table.specs.declared.route.Route.{Route}
use Rattle.route_table.specs.Ranks.{prefix_number}
use Rattle.route_table.specs.Order.{IsListedBy, IsListedHop}
use Rattle.route_table.specs.Routes.{IsHopTo, AreRoutes}
use Rattle.route_table.specs.Patches.{AreClean, ArePatches, Fits, IsListed, PatchesOf, is_moved, is_touched}
use Rattle.route_table.proofs.HopLemmas.{tabled_is}
use Rattle.route_table.proofs.OrderLemmas.{routes_by}
use Rattle.route_table.proofs.PatchLemmas.{by_hops, of_part, routes_are}
use Rattle.router_routes.specs.declared.coming.LevelsAfter.{LevelsAfter}
use Rattle.router_routes.specs.declared.coming.ReachedAfter.{ReachedAfter}
use Rattle.router_routes.specs.Outlooks.{Outlook, graph_in}
use Rattle.router_routes.specs.Candidates.{is_default, is_weighed, may_default, own_candidate, ways_of, weighed_of, AreRoutesOf}
use Rattle.router_routes.specs.Following.{AreHopsOf, FollowingOf, IsFollowing, IsLevel}
use Rattle.router_routes.specs.Kept.{AreBeside, AreSame, CostBeside, HaveToldIds, stays, ways_by}
use Rattle.router_routes.specs.Moved.{AreNodes, is_among}
use Rattle.router_routes.specs.Coming.{AreLevels, AreLevelsBeside, AreRoutesAfter, HopsStay, apart_in, costs_after, hops_after}
use Rattle.router_routes.specs.Touched.{AreApartBeside, AreStill, AreTouched, HaveOwn, IsReachedAfter, IsStill}
use Rattle.router_routes.specs.Ways.{AreWays, WaysOf, all_in, is_by, is_for, prefix_of, prefixes_via}
use Rattle.router_routes.proofs.GraphLemmas.{hop-by}
use Rattle.router_routes.proofs.KeptLemmas.{filter-in, in-filter}
use Rattle.router_routes.proofs.NumberLemmas.{in-map, moved-none, there-moved}
use Rattle.router_routes.proofs.OwnLemmas.{own-more}
use Rattle.router_routes.proofs.BesideLemmas.{same-refl}
use Rattle.router_routes.proofs.SameLemmas.{AreCostsOf, told-after}
use Rattle.router_routes.proofs.WayLemmas.{in-all}
use Rattle.router_routes.proofs.WeighedLemmas.{default-zero, number-is, routes-weighed, weighed-routes}

-- ---- next hops

-- tables of next hops are those of the levels' graphs
pub listed-hop : (o : Outlook) (one two : RepairedOf) (t u : List (ℕ × ℕ)) → IsLevel o level.One one → IsLevel o level.Two two → AreHopsOf one t → AreHopsOf two u → (c : Candidate) (hop : ℕ) → IsListedHop t u c hop ↔ IsHopTo (graph_in o.told.one o.root) (graph_in o.told.two o.root) c hop
listed-hop o one two t u a b h k c hop =
    let listed = tabled_is one.graph two.graph t u h.each k.each c hop in
    let graph = hop-by o.told.one o.told.two o.root one.graph two.graph a.graph b.graph c.rank (node_number c.origin) hop in
    ((λ x. graph.0 (listed.0 x)), (λ x. listed.1 (graph.1 x)))

-- routes by tables of next hops are the outlook's
pub routes-listed : (o : Outlook) (one two : RepairedOf) (t u : List (ℕ × ℕ)) (cs : List Candidate) (routes : List Route) → IsLevel o level.One one → IsLevel o level.Two two → AreHopsOf one t → AreHopsOf two u → AreSame cs (weighed_of o) → AreRoutes (IsListedHop t u) cs routes → AreRoutesOf o routes
routes-listed o one two t u cs routes a b h k same are =
    let hop = IsHopTo (graph_in o.told.one o.root) (graph_in o.told.two o.root) in
    weighed-routes hop o routes (routes_by (IsListedHop t u) hop cs (weighed_of o) routes (λ c. (same c).1) (λ c. (same c).0) (listed-hop o one two t u a b h k) are)

-- tables that agree on a node
still-by : (t u v w : List (ℕ × ℕ)) (rank : Rank) (origin : ℕ) → ((hop : ℕ) → Contains t (origin, hop) ↔ Contains v (origin, hop)) → ((hop : ℕ) → Contains u (origin, hop) ↔ Contains w (origin, hop)) → (hop : ℕ) → IsListedBy t u rank origin hop ↔ IsListedBy v w rank origin hop
still-by t u v w Own origin one two hop = ((λ h. h), (λ h. h))
still-by t u v w One origin one two hop = one hop
still-by t u v w Two origin one two hop = two hop
still-by t u v w OneDown origin one two hop = one hop
still-by t u v w Default origin one two hop = one hop

-- ---- what other nodes tell

beside-back : (nodes : List NodeId) (o p : Outlook) → AreBeside nodes o p → AreBeside nodes p o
beside-back nodes o p is = record { root = sym is.root; areas = sym is.areas; runs = sym is.runs; one = sym is.one; two = sym is.two }

cost-back : (nodes : List NodeId) (d e : List (ℕ × ℕ)) → CostBeside nodes d e → CostBeside nodes e d
cost-back nodes d e same m id none = sym (same m id none)

module _ (o p : Outlook) (nodes : List NodeId) (ids : AreNodes nodes) (beside : AreBeside nodes o p) (old-ids : HaveToldIds o) (new-ids : HaveToldIds p) (o1 o2 n1 n2 : RepairedOf) (lo1 : IsLevel o level.One o1) (lo2 : IsLevel o level.Two o2) (ln1 : IsLevel p level.One n1) (ln2 : IsLevel p level.Two n2) (a1 : AreCostsOf o1) (a2 : AreCostsOf o2) (b1 : AreCostsOf n1) (b2 : AreCostsOf n2) (c1 : CostBeside nodes o1.distances n1.distances) (c2 : CostBeside nodes o2.distances n2.distances) where
  abbrev Kept : List Candidate
  Kept = filter (stays nodes) (ways_of o)

  abbrev Come : List Candidate
  Come = ways_by p n1 n2 nodes

  pub still-told : (c : Candidate) → stays nodes c ≡ true → Contains (ways_of o) c → Contains (ways_of p) c
  still-told c stay there =
      (told-after o p nodes ids beside old-ids new-ids o1 o2 n1 n2 lo1 lo2 ln1 ln2 a1 b1 c1 a2 b2 c2 (ways_of o) (Kept ++ Come) (same-refl (ways_of o) (ways_of o) refl) refl c).0
      (Contains-append_left Kept Come c (in-filter (stays nodes) (ways_of o) c there stay))

pub still-of : (o p : Outlook) (f : FollowingOf) (nodes : List NodeId) (levels : LevelsAfter) → HaveToldIds o → HaveToldIds p → IsFollowing o f → AreLevelsBeside nodes o p f levels → AreCostsOf f.levels.one → AreCostsOf f.levels.two → AreCostsOf (costs_after levels.one f.levels.one) → AreCostsOf (costs_after levels.two f.levels.two) → AreStill nodes o p
still-of o p f nodes levels old-ids new-ids is are a1 a2 b1 b2 =
    let n1 = costs_after levels.one f.levels.one in
    let n2 = costs_after levels.two f.levels.two in
    record {
      root = are.beside.root;
      told = λ c stay. (
        still-told o p nodes are.ids are.beside old-ids new-ids f.levels.one f.levels.two n1 n2 is.one is.two are.right.one are.right.two a1 a2 b1 b2 are.costs_one are.costs_two c stay,
        still-told p o nodes are.ids (beside-back nodes o p are.beside) new-ids old-ids n1 n2 f.levels.one f.levels.two are.right.one are.right.two is.one is.two b1 b2 a1 a2
            (cost-back nodes f.levels.one.distances n1.distances are.costs_one) (cost-back nodes f.levels.two.distances n2.distances are.costs_two) c stay,
      );
    }

-- ---- the candidates of an outlook

own-in : (root : NodeId) (prefixes : List (Prefix × ℕ)) (c : Candidate) → Contains (map (own_candidate root) prefixes) c → (own : Prefix × ℕ) × Contains prefixes own × (own_candidate root own ≡ c)
own-in root [] c there = absurd (contains_none c there)
own-in root (own ∷ prefixes) c there =
    elim (contains_cases (own_candidate root own) c (map (own_candidate root) prefixes) there) [
      | inl same ↦ (own, contains_first own prefixes, same)
      | inr more ↦ let o = own-in root prefixes c more in (o.0, contains_rest own o.0 prefixes o.1, o.2)
    ]

abbrev IsOwn : Outlook → Candidate → Type 0
IsOwn o c = (own : Prefix × ℕ) × Contains o.prefixes own × (own_candidate o.root own ≡ c)

cases : (o : Outlook) (c : Candidate) → Contains (weighed_of o) c → IsOwn o c ⊎ (Contains (ways_of o) c × (is_weighed (may_default o) c ≡ true))
unfolding weighed_of
cases o c there =
    elim (Contains-append_cases (map (own_candidate o.root) o.prefixes) (filter (is_weighed (may_default o)) (ways_of o)) c there) [
      | inl own ↦ inl (own-in o.root o.prefixes c own)
      | inr way ↦ inr (filter-in (is_weighed (may_default o)) (ways_of o) c way)
    ]

own-there : (o : Outlook) (own : Prefix × ℕ) → Contains o.prefixes own → Contains (weighed_of o) (own_candidate o.root own)
unfolding weighed_of
own-there o own there = Contains-append_left (map (own_candidate o.root) o.prefixes) (filter (is_weighed (may_default o)) (ways_of o)) (own_candidate o.root own) (in-map (own_candidate o.root) o.prefixes own there)

way-there : (o : Outlook) (c : Candidate) → Contains (ways_of o) c → is_weighed (may_default o) c ≡ true → Contains (weighed_of o) c
unfolding weighed_of
way-there o c there is = Contains-append_right (map (own_candidate o.root) o.prefixes) (filter (is_weighed (may_default o)) (ways_of o)) c (in-filter (is_weighed (may_default o)) (ways_of o) c there is)

-- ---- what stays where no prefix is touched

module _ (o p : Outlook) (f : FollowingOf) (is : IsFollowing o f) (nodes : List NodeId) (levels : LevelsAfter) (still : AreStill nodes o p) (after : AreLevels p f levels) (prefixes : List Prefix) (touch : AreTouched nodes o p f levels prefixes) where
  abbrev Old : Candidate → ℕ → Type 0
  Old = IsHopTo (graph_in o.told.one o.root) (graph_in o.told.two o.root)

  abbrev New : Candidate → ℕ → Type 0
  New = IsHopTo (graph_in p.told.one p.root) (graph_in p.told.two p.root)

  abbrev Listed : Candidate → ℕ → Type 0
  Listed = IsListedHop (hops_after levels.one f.hops.one) (hops_after levels.two f.hops.two)

  new-hop : (c : Candidate) (hop : ℕ) → Listed c hop ↔ New c hop
  new-hop = listed-hop p (costs_after levels.one f.levels.one) (costs_after levels.two f.levels.two) (hops_after levels.one f.hops.one) (hops_after levels.two f.hops.two) after.one after.two after.hops_one.right after.hops_two.right

  still-hop : (c : Candidate) → IsStill nodes f levels (node_number c.origin) → (hop : ℕ) → Old c hop ↔ New c hop
  still-hop c stay hop =
      let old = listed-hop o f.levels.one f.levels.two f.hops.one f.hops.two is.one is.two is.hops_one is.hops_two c hop in
      let same = still-by f.hops.one f.hops.two (hops_after levels.one f.hops.one) (hops_after levels.two f.hops.two) c.rank (node_number c.origin) stay.one stay.two hop in
      let new = new-hop c hop in
      ((λ h. new.0 (same.0 (old.1 h))), (λ h. old.0 (same.1 (new.1 h))))

  module _ (patches : List Patch) (has : (n : ℕ) → IsListed prefixes n → is_touched patches n ≡ true) where
    abbrev IsFree : Candidate → Type 0
    IsFree c = is_touched patches (prefix_number c.prefix) ≡ false

    listed-free : (n : ℕ) → IsListed prefixes n → is_touched patches n ≡ false → ⊥
    listed-free n there free = (let e : true ≡ false = sym (has n there) ∙ free in cc)

    prefix-free : (c : Candidate) → IsFree c → Contains prefixes c.prefix → ⊥
    prefix-free c free there = listed-free (prefix_number c.prefix) (c.prefix, there, refl) free

    zero-free : (c : Candidate) → IsFree c → prefix_number c.prefix ≡ 0 → ⊥
    zero-free c free zero = listed-free (prefix_number c.prefix) (subst (λ (n : ℕ). IsListed prefixes n) (sym zero) touch.all) free

    own-free : (c : Candidate) (own : Prefix × ℕ) (others : List (Prefix × ℕ)) → IsFree c → own.0 ≡ c.prefix → Contains others own ⊎ Contains prefixes own.0 → Contains others own
    own-free c own others free e (inl there) = there
    own-free c own others free e (inr listed) = absurd (prefix-free c free (subst (λ (q : Prefix). Contains prefixes q) e listed))

    old-still : (c : Candidate) → IsFree c → Contains (ways_of o) c → IsStill nodes f levels (node_number c.origin)
    old-still c free there =
        elim (touch.before c there) [
          | inl listed ↦ absurd (prefix-free c free listed)
          | inr stay ↦ stay
        ]

    new-still : (c : Candidate) → IsFree c → Contains (ways_of p) c → IsStill nodes f levels (node_number c.origin)
    new-still c free there =
        elim (touch.after c there) [
          | inl listed ↦ absurd (prefix-free c free listed)
          | inr stay ↦ stay
        ]

    -- one that is for no touched prefix is no way by default
    weighed-free : (q : Outlook) (c : Candidate) → IsFree c → Contains (ways_of q) c → (may t : Bool) → is_default c.rank ≡ t → is_weighed may c ≡ true
    weighed-free q c free there true t last = refl
    weighed-free q c free there false true last = absurd (zero-free c free (default-zero q c there last))
    weighed-free q c free there false false last = ap not last

    out : (c : Candidate) → IsFree c → Contains (weighed_of o) c → Contains (weighed_of p) c
    out c free there =
        elim (cases o c there) [
          | inl own ↦
              let stays = own-free c own.0 p.prefixes free (ap (λ (x : Candidate). x.prefix) own.2) (touch.own.before own.0 own.1) in
              subst (λ (x : Candidate). Contains (weighed_of p) x) (ap (λ (n : NodeId). own_candidate n own.0) still.root ∙ own.2) (own-there p own.0 stays)
          | inr way ↦
              let stays = (still.told c (ap not (old-still c free way.0).beside)).0 way.0 in
              way-there p c stays (weighed-free p c free stays (may_default p) (is_default c.rank) refl)
        ]

    into : (c : Candidate) → IsFree c → Contains (weighed_of p) c → Contains (weighed_of o) c
    into c free there =
        elim (cases p c there) [
          | inl own ↦
              let stays = own-free c own.0 o.prefixes free (ap (λ (x : Candidate). x.prefix) own.2) (touch.own.after own.0 own.1) in
              subst (λ (x : Candidate). Contains (weighed_of o) x) (ap (λ (n : NodeId). own_candidate n own.0) (sym still.root) ∙ own.2) (own-there o own.0 stays)
          | inr way ↦
              let stays = (still.told c (ap not (new-still c free way.0).beside)).1 way.0 in
              way-there o c stays (weighed-free o c free stays (may_default o) (is_default c.rank) refl)
        ]

    own-hop : (own : Prefix × ℕ) (hop : ℕ) → Old (own_candidate p.root own) hop ↔ New (own_candidate p.root own) hop
    own-hop own hop = ((λ h. h), (λ h. h))

    hops : (c : Candidate) (hop : ℕ) → IsFree c → Contains (weighed_of p) c → Old c hop ↔ New c hop
    hops c hop free there =
        elim (cases p c there) [
          | inl own ↦ subst (λ (x : Candidate). Old x hop ↔ New x hop) own.2 (own-hop own.0 hop)
          | inr way ↦ still-hop c (new-still c free way.0) hop
        ]

    clean : AreClean Old New (weighed_of o) (weighed_of p) patches
    clean = record { out = out; into = into; hops = hops }

  -- ---- the routes

  -- patches of all candidates for these prefixes
  pub routes-after : (held : List Route) (part some : List Candidate) (numbers : List ℕ) (patches : PatchesOf) → held ≡ f.routes → ((n : ℕ) → IsListed prefixes n → is_moved numbers n ≡ true) → AreSame part (filter (is_for numbers) (weighed_of p)) → some ≡ part
      → ArePatches Listed some patches.list → ((n : ℕ) → is_touched patches.list n ≡ true ↔ IsListed prefixes n) → Fits held patches → AreRoutesAfter p f.routes patches
  routes-after held part some numbers patches e moved same g are touched room =
      let number : (c : Candidate) → IsListed prefixes (prefix_number c.prefix) → is_for numbers c ≡ true =
      λ c listed. subst (λ (n : ℕ). is_moved numbers n ≡ true) (sym (number-is c.prefix)) (moved (prefix_number c.prefix) listed) in
      let all = of_part Listed (weighed_of p) part patches.list (subst (λ (l : List Candidate). ArePatches Listed l patches.list) g are) (record {
        some = λ c within. (filter-in (is_for numbers) (weighed_of p) c ((same c).0 within)).0;
        whole = λ c within free. (same c).1 (in-filter (is_for numbers) (weighed_of p) c within (number c ((touched (prefix_number c.prefix)).0 free)));
      }) in
      let right = by_hops Listed New (weighed_of p) patches.list new-hop all in
      record {
        fits = subst (λ (l : List Route). Fits l patches) e room;
        right = λ new put. weighed-routes New p new (routes_are Old New (weighed_of o) (weighed_of p) f.routes new patches.list (routes-weighed Old o f.routes is.routes) right (clean patches.list (λ n listed. (touched n).1 listed)) put);
      }

-- ---- as they are made

-- the numbers of prefixes, in order
pub listed-moved : (prefixes : List Prefix) (unsorted in-order : List ℕ) → unsorted ≡ map base.prefix_number prefixes → ((n : ℕ) → Contains unsorted n → Contains in-order n) → (n : ℕ) → IsListed prefixes n → is_moved in-order n ≡ true
listed-moved prefixes unsorted in-order are all n listed =
    let number = base.prefix_number listed.0 in
    let there = there-moved in-order number (all number (subst (λ (l : List ℕ). Contains l number) (sym are) (in-map base.prefix_number prefixes listed.0 listed.1))) in
    subst (λ (m : ℕ). is_moved in-order m ≡ true) (number-is listed.0 ∙ listed.2) there

-- three clauses of one answer
pub all-three : {X E : Type 0} (r : Result X E) (P Q R S : X → Type 0) → ((x : X) → P x → Q x → R x → S x) → IfOk r P → IfOk r Q → IfOk r R → IfOk r S
all-three (Ok x) P Q R S f p q t = f x p q t
all-three (Err e) P Q R S f p q t = tt

-- ---- the nodes that moved

-- those beside some whose next hops may be others
pub apart-are : (nodes : List NodeId) (f : FollowingOf) (levels : LevelsAfter) (moved some more n0 n1 n2 sorted : List ℕ) → ((n : ℕ) → is_moved moved n ≡ is_among nodes n) → some ≡ moved → more ≡ moved → n1 ≡ n0 ++ filter (λ n. not (is_moved some n)) (apart_in levels.one) → n2 ≡ n1 ++ filter (λ n. not (is_moved more n)) (apart_in levels.two)
    → ((n : ℕ) → Contains n2 n → Contains sorted n) → IsStrictlyIncreasing sorted → HopsStay (apart_in levels.one) f.hops.one (hops_after levels.one f.hops.one) → HopsStay (apart_in levels.two) f.hops.two (hops_after levels.two f.hops.two) → AreApartBeside nodes f levels sorted
apart-are nodes f levels moved some more n0 n1 n2 sorted are s m e1 e2 all up one two =
    let ones = apart_in levels.one in
    let twos = apart_in levels.two in
    let beside = λ (l : List ℕ). filter (λ n. not (is_moved moved n)) l in
    let e3 : n1 ≡ n0 ++ beside ones = e1 ∙ ap (λ (l : List ℕ). n0 ++ filter (λ n. not (is_moved l n)) ones) s in
    let e4 : n2 ≡ n1 ++ beside twos = e2 ∙ ap (λ (l : List ℕ). n1 ++ filter (λ n. not (is_moved l n)) twos) m in
    let of-two : (n : ℕ) → Contains (beside twos) n → Contains sorted n = λ n there. all n (subst (λ (l : List ℕ). Contains l n) (sym e4) (Contains-append_right n1 (beside twos) n there)) in
    let of-one : (n : ℕ) → Contains (beside ones) n → Contains sorted n = λ n there. all n (subst (λ (l : List ℕ). Contains l n) (sym e4) (Contains-append_left n1 (beside twos) n (subst (λ (l : List ℕ). Contains l n) (sym e3) (Contains-append_right n0 (beside ones) n there)))) in
    record {
      rising = up;
      still = λ n among none.
          let out = moved-none sorted n none in
          let free : not (is_moved moved n) ≡ true = ap not (are n ∙ among) in
          record {
            beside = among;
            one = λ hop. one.each n hop (λ there. out (of-one n (in-filter (λ n. not (is_moved moved n)) ones n there free)));
            two = λ hop. two.each n hop (λ there. out (of-two n (in-filter (λ n. not (is_moved moved n)) twos n there free)));
          };
    }

-- ---- the prefixes that are touched

not-false : (t : Bool) → not t ≡ true → t ≡ false
not-false true e = absurd (let f : false ≡ true = e in cc)
not-false false e = refl

-- the prefixes of candidates by way of nodes of these numbers are there
abbrev HaveVia : List ℕ → List Candidate → List Prefix → Type 0
HaveVia numbers candidates prefixes = (c : Candidate) → Contains candidates c → is_by numbers c ≡ true → Contains prefixes c.prefix

-- as a table adds them
via-table : (some numbers : List ℕ) (table : List (ℕ × List Candidate)) (list : List Candidate) (p0 p1 : List Prefix) → some ≡ numbers → AreWays table list → p1 ≡ p0 ++ prefixes_via some (all_in table) → HaveVia numbers list p1
via-table some numbers table list p0 p1 s are e c there by =
    subst (λ (ps : List Prefix). Contains ps c.prefix) (sym e)
    (Contains-append_right p0 (prefixes_via some (all_in table)) c.prefix
    (in-map prefix_of (filter (is_by some) (all_in table)) c (in-filter (is_by some) (all_in table) c (in-all table list are c there) (ap (λ (l : List ℕ). is_by l c) s ∙ by))))

module _ (o p : Outlook) (f : FollowingOf) (nodes : List NodeId) (levels : LevelsAfter) (still : AreStill nodes o p) (reached : ReachedAfter) (has : IsReachedAfter nodes o p f reached) (numbers : List ℕ) (are : AreApartBeside nodes f levels numbers) (prefixes : List Prefix) (listed : (q : Prefix) → Contains reached.prefixes.items q → Contains prefixes q) (via : HaveVia numbers (ways_of o) prefixes) where
  abbrev Touched : Candidate → Type 0
  Touched c = Contains prefixes c.prefix ⊎ IsStill nodes f levels (node_number c.origin)

  by-hops : (c : Candidate) → Contains (ways_of o) c → is_among nodes (node_number c.origin) ≡ false → (t : Bool) → is_by numbers c ≡ t → Touched c
  by-hops c there none true by = inl (via c there by)
  by-hops c there none false by = inr (are.still (node_number c.origin) none by)

  before-step : (c : Candidate) → Contains (ways_of o) c → (t : Bool) → stays nodes c ≡ t → Touched c
  before-step c there true stay = by-hops c there (not-false (is_among nodes (node_number c.origin)) stay) (is_by numbers c) refl
  before-step c there false out = inl (listed c.prefix (has.before c there out))

  after-step : (c : Candidate) → Contains (ways_of p) c → (t : Bool) → stays nodes c ≡ t → Touched c
  after-step c there true stay = before-step c ((still.told c stay).1 there) true stay
  after-step c there false out = inl (listed c.prefix (has.after c there out))

  pub touched-by : IsListed prefixes 0 → HaveOwn o.prefixes p.prefixes prefixes → AreTouched nodes o p f levels prefixes
  touched-by all own = record { all = all; own = own; before = λ c there. before-step c there (stays nodes c) refl; after = λ c there. after-step c there (stays nodes c) refl }

-- as they are put together
pub touched-are : (o p : Outlook) (f : FollowingOf) → IsFollowing o f → (nodes : List NodeId) (levels : LevelsAfter) → AreStill nodes o p → (reached : ReachedAfter) → IsReachedAfter nodes o p f reached → (numbers some : List ℕ) → AreApartBeside nodes f levels numbers → some ≡ numbers → (table : WaysOf) → table ≡ f.told → (p0 p1 p2 slice : List Prefix) → slice ≡ reached.prefixes.items
    → IsListed p0 0 → HaveOwn o.prefixes p.prefixes p0 → p1 ≡ p0 ++ slice → p2 ≡ p1 ++ prefixes_via some (all_in table.rows) → AreTouched nodes o p f levels p2
touched-are o p f is nodes levels still reached has numbers some are s table t p0 p1 p2 slice l all own e1 e2 =
    let from1 : (q : Prefix) → Contains p1 q → Contains p2 q = λ q there. subst (λ (ps : List Prefix). Contains ps q) (sym e2) (Contains-append_left p1 (prefixes_via some (all_in table.rows)) q there) in
    let from0 : (q : Prefix) → Contains p0 q → Contains p2 q = λ q there. from1 q (subst (λ (ps : List Prefix). Contains ps q) (sym e1) (Contains-append_left p0 slice q there)) in
    touched-by o p f nodes levels still reached has numbers are p2
    (λ q there. from1 q (subst (λ (ps : List Prefix). Contains ps q) (sym e1) (Contains-append_right p0 slice q (subst (λ (ps : List Prefix). Contains ps q) (sym l) there))))
    (via-table some numbers table.rows (ways_of o) p1 p2 s (subst (λ (w : WaysOf). AreWays w.rows (ways_of o)) (sym t) is.told) e2)
    (all.0, from0 all.0 all.1, all.2) (own-more o.prefixes p.prefixes p0 p2 from0 own)

pub all-listed : (p0 p1 p2 : List Prefix) (r s : List Prefix) → p1 ≡ p0 ++ r → p2 ≡ p1 ++ s → IsListed p0 0 → IsListed p2 0
all-listed p0 p1 p2 r s e1 e2 all =
    (all.0, subst (λ (ps : List Prefix). Contains ps all.0) (sym e2) (Contains-append_left p1 s all.0 (subst (λ (ps : List Prefix). Contains ps all.0) (sym e1) (Contains-append_left p0 r all.0 all.1))), all.2)

pub first-listed : (p0 p1 : List Prefix) (q : Prefix) → p0 ≡ [] → p1 ≡ p0 ++ q ∷ [] → prefix_number q ≡ 0 → IsListed p1 0
first-listed p0 p1 q none e zero = (q, subst (λ (ps : List Prefix). Contains ps q) (sym e) (Contains-append_right p0 (q ∷ []) q (contains_first q [])), zero)
