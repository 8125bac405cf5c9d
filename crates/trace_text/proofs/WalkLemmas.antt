-- Where there is a walk, a packet that is followed goes along it.
use Rattle.std.proofs.Common.{◌≡◌, ◌≢◌, ℕ, ◌≤◌, Bool, true, false, List, [], ◌∷◌, map, if◌then◌else◌, get_or, Some, refl, sym, ap, ◌∙◌, subst, arith}
use Rattle.std.specs.Prelude.{slice_get}
use Rattle.std.specs.List.{Contains}
use Rattle.std.specs.List.Sorted.{IsStrictlyIncreasing}
use Rattle.std.proofs.lemmas.Bool.Decides.{Decides-eqb}
use Rattle.std.proofs.lemmas.List.{get_or_default}
use Rattle.isis_base.specs.declared.prefix.Prefix.{Prefix}
use Rattle.model_router.specs.Places.{nth}
use Rattle.spf_tree.proofs.PlaceLemmas.{nodes_rise}
use Rattle.route_table.specs.declared.route.Route.{Route}
use Rattle.route_table.specs.Ranks.{rank_number, prefix_number}
use Rattle.route_table.specs.Routes.{AreRising}
use Rattle.route_table.specs.Lookups.{IsLongest}
use Rattle.forward_views.specs.Walked.{IsRouteOf}
use Rattle.forward_views.specs.Looks.{Look, root_of, is_own, AreAlike, IsOwner}
use Rattle.forward_views.specs.Forwarded.{router_in}
use Rattle.trace_core.specs.declared.step.Step.TheVariants.{Home, On}
use Rattle.trace_core.specs.declared.step.Traced.{Traced}
use Rattle.trace_core.specs.declared.outcomes.Outcomes.{Outcomes}
use Rattle.trace_core.specs.Traces as way
use Rattle.trace_core.specs.Whichever.{AreOutcomes}
use Rattle.packet_trace.specs.declared.forwarder.Forwarder.{Forwarder}
use Rattle.packet_trace.specs.Steps.{step_at, steps_at, route_at, route_of, step_by, step_on, step_to, place_of, node_of}
use Rattle.packet_trace.proofs.LookupLemmas.{only}
use Rattle.trace_text.specs.Forwarders.{forwarder_of}
use Rattle.trace_text.specs.Arrivals.{AreFound, IsArrived, arrives_alone}
use Rattle.trace_text.proofs.HandingLemmas.{get-map, nodes-are}
use Rattle.trace_text.proofs.PlaceLemmas.{contains-nth, contains-map, place-is, place-there, on-one}
use Rattle.walk_text.specs.declared.walked.Walked.{Walked}
use Rattle.walk_text.specs.Paths.{IsLeastMove, IsLeastPath, IsWalked}
use Rattle.walk_text.proofs.WayLemmas.{no-hop}
use Rattle.trace_text.specs.declared.find.Trace.{Trace}
use Rattle.trace_text.specs.AsWalked.{AreLookedUpAs, IsAsWalked}

-- ---- what a route says

home-is : (roots : List ℕ) (route : Route) → rank_number route.rank ≡ 0 → step_by roots (Some route) ≡ Home
home-is roots route nought = by (is_own route) ((Decides-eqb (rank_number route.rank) 0).1 nought)
  where
    by : (t : Bool) → t ≡ true → (if t then Home else step_on roots (slice_get route.hops 0)) ≡ Home
    by true e = refl
    by false e = absurd (cc)

on-is : (roots : List ℕ) (route : Route) (hop place : ℕ) → rank_number route.rank ≢ 0 → slice_get route.hops 0 ≡ Some hop → place_of roots hop ≡ Some place → step_by roots (Some route) ≡ On place
on-is roots route hop place ranked first at = by (is_own route) refl
  where
    by : (t : Bool) → is_own route ≡ t → (if t then Home else step_on roots (slice_get route.hops 0)) ≡ On place
    by true t = absurd (ranked ((Decides-eqb (rank_number route.rank) 0).0 t))
    by false t = ap (step_on roots) first ∙ ap step_to at

-- the least of hops in order is the first one
least-first : (hops : List ℕ) (hop : ℕ) → IsStrictlyIncreasing hops → Contains hops hop → ((other : ℕ) → Contains hops other → hop ≤ other) → slice_get hops 0 ≡ Some hop
least-first [] hop rising h least = absurd (let l = h.1 in omega (arith, l))
least-first (x ∷ hops) hop rising h least =
    let up = nodes_rise (x ∷ hops) rising 0 h.0 (omega arith) h.1 in
    let y : get_or (x ∷ hops) h.0 0 ≡ hop = get_or_default (x ∷ hops) h.0 0 hop h.1 ∙ h.2 in
    let low = least x (0, omega arith, refl) in
    ap Some (omega (arith, up, y, low))

-- ---- what is known

abbrev pub OneLongest : Type 0
OneLongest = (routes : List Route) (address : ℕ) (a b : Route) → AreRising routes → IsLongest routes address a → IsLongest routes address b → a ≡ b

abbrev pub AreApart : List Look → Type 0
AreApart looks = (p q : ℕ) (a b : Look) → nth looks p ≡ Some a → nth looks q ≡ Some b → root_of a ≡ root_of b → p ≡ q

abbrev pub TraceLaw : Type 0
TraceLaw = (looks : List Look) (prefix address from : ℕ) (owner first : Look) (route : Route) (traced : Traced) → AreAlike looks → IsOwner looks prefix owner → AreFound looks prefix address → nth looks from ≡ Some first → IsRouteOf (router_in first) prefix route
    → way.IsTraced (way.by (step_at (map forwarder_of looks) address)) from traced → IsArrived looks prefix owner route traced

abbrev pub WhicheverLaw : Type 0
WhicheverLaw = (looks : List Look) (prefix address from : ℕ) (owner first : Look) (route : Route) (traced : Traced) (outcomes : Outcomes) → AreAlike looks → IsOwner looks prefix owner → AreFound looks prefix address → nth looks from ≡ Some first → IsRouteOf (router_in first) prefix route
    → way.IsTraced (way.by (step_at (map forwarder_of looks) address)) from traced → AreOutcomes (steps_at (map forwarder_of looks) address) from outcomes → outcomes ≡ arrives_alone

-- ---- along a walk

module _ (looks : List Look) (prefix address : ℕ)
    (one : OneLongest) (alike : AreAlike looks) (apart : AreApart looks)
    (found : AreFound looks prefix address) where
  -- what it goes by
  pub goes-by : (place : ℕ) (look : Look) (route : Route) → nth looks place ≡ Some look → IsRouteOf (router_in look) prefix route → route_at (map forwarder_of looks) address place ≡ Some route
  goes-by place look route at has =
      let there = contains-nth looks place look at in
      ap (route_of address) (get-map forwarder_of looks place look at)
      ∙ only one look.routes address (alike.routes_are look there).rising (Some route) (found look route there has)

  says : (place : ℕ) (look : Look) (route : Route) → nth looks place ≡ Some look → IsRouteOf (router_in look) prefix route → step_at (map forwarder_of looks) address place ≡ step_by (map root_of looks) (Some route)
  says place look route at has =
      ap (step_by (map node_of (map forwarder_of looks))) (goes-by place look route at has)
      ∙ ap (λ (ns : List ℕ). step_by ns (Some route)) (nodes-are looks)

  moves-on : (from to : ℕ) → IsLeastMove looks prefix from to → step_at (map forwarder_of looks) address from ≡ On to
  moves-on from to m =
      let here = contains-nth looks from m.here m.from_is in
      let next = contains-nth looks to m.next m.to_is in
      let rising = ((alike.routes_are m.here here).each m.route m.has.0).rising in
      let first = least-first m.route.hops (root_of m.next) rising m.leads.there m.leads.least in
      let p = place-there root_of looks m.next next in
      let q = place-is root_of looks (root_of m.next) p.0 p.1 in
      let same : p.0 ≡ to = apart p.0 to q.0 m.next q.1 m.to_is q.2 in
      says from m.here m.route m.from_is m.has
      ∙ on-is (map root_of looks) m.route (root_of m.next) to (λ own. no-hop looks m.here m.route (root_of m.next) alike here m.has.0 own m.leads.there) first (p.1 ∙ ap Some same)

  pub stays : (owner : Look) (last : ℕ) → IsOwner looks prefix owner → nth looks last ≡ Some owner → step_at (map forwarder_of looks) address last ≡ Home
  stays owner last owned at =
      let o = owned.own in
      says last owner o.0 at (o.1, o.2) ∙ home-is (map root_of looks) o.0 o.3

  -- from a place on to where it is at home
  pub same-way : (from last end : ℕ) (places more : List ℕ) → IsLeastPath looks prefix from places last → step_at (map forwarder_of looks) address last ≡ Home
      → way.AreMoves (way.by (step_at (map forwarder_of looks) address)) from more end → step_at (map forwarder_of looks) address end ≡ Home → more ≡ places
  same-way from last end [] [] path home moves ends = refl
  same-way from last end [] (next ∷ more) path home moves ends = absurd (let e : Home ≡ On next = sym home ∙ (ap (step_at (map forwarder_of looks) address) path ∙ moves.0) in cc)
  same-way from last end (next ∷ places) [] path home moves ends =
      absurd (let e : Home ≡ On next = sym ends ∙ (ap (step_at (map forwarder_of looks) address) moves ∙ moves-on from next path.0) in cc)
  same-way from last end (next ∷ places) (other ∷ more) path home moves ends =
      let same : other ≡ next = on-one other next (sym moves.0 ∙ moves-on from next path.0) in
      ap (λ (n : ℕ). n ∷ more) same
      ∙ ap (λ (ns : List ℕ). next ∷ ns) (same-way next last end places more path.1 home (subst (λ (n : ℕ). way.AreMoves (way.by (step_at (map forwarder_of looks) address)) n more end) same moves.1) ends)

-- ---- all of it

pub as-walked : TraceLaw → WhicheverLaw → OneLongest
    → (looks : List Look) (from address : ℕ) (prefix : Prefix) (walked : Walked) → IsWalked looks from (prefix_number prefix) walked → AreAlike looks → AreApart looks
    → (trace : Trace) → trace.forwarders.items ≡ map forwarder_of looks
    → way.IsTraced (way.by (step_at trace.forwarders.items address)) from trace.traced → AreOutcomes (steps_at trace.forwarders.items address) from trace.outcomes → AreLookedUpAs trace.forwarders.items address prefix
    → IsAsWalked from address walked trace
as-walked law any one looks from address prefix walked w alike apart trace same t o looked = record {
  arrives = arrived.arrives;
  places = traced.places_are
      ∙ ap (λ (ps : List ℕ). from ∷ ps)
      (same-way looks number address one alike apart found from w.last traced.last walked.routers.items traced.more w.path (stays looks number address one alike apart found w.owner w.last w.owned w.ends) traced.moves home);
  route = w.route;
  goes_by = ap (λ (fs : List Forwarder). route_at fs address from) same ∙ goes-by looks number address one alike apart found from w.first w.route w.at w.has;
  cost = w.cost;
  alone = any looks number address from w.owner w.first w.route trace.traced trace.outcomes alike w.owned found w.at w.has traced (subst (λ (fs : List Forwarder). AreOutcomes (steps_at fs address) from trace.outcomes) same o);
}
  where
    number : ℕ
    number = prefix_number prefix

    traced : way.IsTraced (way.by (step_at (map forwarder_of looks) address)) from trace.traced
    traced = subst (λ (fs : List Forwarder). way.IsTraced (way.by (step_at fs address)) from trace.traced) same t

    found : AreFound looks number address
    found = λ look route there has. subst (λ (fs : List Forwarder). AreLookedUpAs fs address prefix) same looked (forwarder_of look) route (contains-map forwarder_of looks look there) has.0 has.1

    arrived : IsArrived looks number w.owner w.route trace.traced
    arrived = law looks number address from w.owner w.first w.route trace.traced alike w.owned found w.at w.has traced

    home : step_at (map forwarder_of looks) address traced.last ≡ Home
    home = subst (way.IsEnd (way.by (step_at (map forwarder_of looks) address)) trace.traced.places.items traced.last) arrived.arrives traced.ends
