-- What is kept of a whole network, by each event.
use Rattle.std.proofs.Common.{◌≡◌, ℕ, ◌+◌, ◌-◌, ◌<◌, ◌^◌, nat_lt, Bool, true, false, eqb, if◌then◌else◌, Option, Some, None, refl, sym, ap, ◌∙◌, subst, List, zero, suc, arith}
use Rattle.std.proofs.lemmas.Bool.Decides.{nat_tests}
use Rattle.std.specs.List.{AllByRecursion}
use Rattle.isis_base.specs.declared.level.Level.{Level}
use Rattle.isis_base.specs.declared.level.Level.TheVariants as level
use Rattle.model_router.specs.Sets.{has}
use Rattle.model_router.specs.Places.{nth, with_nth}
use Rattle.model_router.specs.Books.{risen}
use Rattle.model_router.specs.Givens.{Given}
use Rattle.model_router.specs.Configs.{Config}
use Rattle.model_router.specs.Routers.{Circuit, Router}
use Rattle.model_router.specs.Starts.{start}
use Rattle.model_router.specs.Events.{Event}
use Rattle.model_router.specs.Steps.{step}
use Rattle.model_router.specs.AdjacencyLaws.{is_point, FollowsAdjacencies, tie_at, no_tie}
use Rattle.model_router.proofs.BookLemmas.{test}
use Rattle.model_router.proofs.BondLemmas.{step-stays}
use Rattle.model_datagram.specs.Lsps.{given_octets}
use Rattle.model_network.specs.declared.end.End.{End}
use Rattle.model_network.specs.Networks.{Datagram, octets_of, Taking, Network, place_at, place_in, restarted}
use Rattle.model_network.specs.Runs.{Happening, Inject, Tick, PullOn, Deliver, Restart, SetMetric, SetOverload, SetPrefix, is_injection, apply, moved, restart_at, inject_at, arrive_at}
use Rattle.model_network.specs.Speakers.{AreSpeaking, AreOctets}
use Rattle.model_network.specs.Ports.{Port}
use Rattle.model_network.specs.Links.{IsWired, Joins, Holds, LinkHolds}
use Rattle.model_network.specs.Starts.{IsOpening}
use Rattle.model_network.specs.Kept.{IsEnd, IsPointLink, AreFollowing, IsKeptNet, IsFreshNet, IsUpIn, IsClaimedOf}
use Rattle.model_network.proofs.ChangeLemmas.{nth-set, nth-other, some-same, Change, Still, Moved, Restarted, apply-change}
use Rattle.model_network.proofs.ClaimLemmas.{start-holds, apply-links, link-claim}
use Rattle.model_network.proofs.CountLemmas.{ahead-flags}
use Rattle.model_network.proofs.NetLemmas.{apply-holds}
use Rattle.model_network.proofs.RestartLemmas.{quiet-point, quiet-tie}
use Rattle.model_router.proofs.StepLemmas.{step-keeps}

-- ---- an end that is there was there before

point-same : (given : Given) (r : Router) (event : Event) (place : ℕ) → FollowsAdjacencies r → FollowsAdjacencies (step given r event).router
    → is_point (nth (step given r event).router.circuits place) ≡ is_point (nth r.circuits place)
point-same given r event place old new =
    sym (new.points level.One place) ∙ ap (λ (n : ℕ). has n place) ((step-keeps given r event).on level.One).floods.kinds ∙ old.points level.One place

moved-end : (given : Given) (net : Network) (i : ℕ) (link : Option ℕ) (event : Event) (r : Router) (ts : List Taking) (e : Port) → nth net.routers i ≡ Some r → AreFollowing net
    → FollowsAdjacencies (step given r event).router → IsEnd (moved given net i link event r ts) e → IsEnd net e
moved-end given net i link event r ts e found old new x =
    test (λ b. eqb i e.router ≡ b → IsEnd net e) (eqb i e.router)
    (λ _ y. here (grind (arith, nat_tests)))
    (λ _ n. record { a = x.a; at_a = sym (nth-other net.routers i t e.router (λ q. grind (arith, nat_tests))) ∙ x.at_a; system = x.system; point = x.point }) refl
  where
    t : Router
    t = (step given r event).router

    here : i ≡ e.router → IsEnd net e
    here same =
        let is_t : t ≡ x.a = some-same t x.a (sym (nth-set net.routers i r t found) ∙ ap (λ (n : ℕ). nth (with_nth net.routers i t) n) same ∙ x.at_a) in
        record {
          a = r;
          at_a = ap (λ (n : ℕ). nth net.routers n) (sym same) ∙ found;
          system = sym (step-stays given r event).system ∙ ap (λ (z : Router). z.config.system) is_t ∙ x.system;
          point = sym (point-same given r event e.place (old i r found) new) ∙ ap (λ (z : Router). is_point (nth z.circuits e.place)) is_t ∙ x.point;
        }

restart-end : (net : Network) (i : ℕ) (r : Router) (e : Port) → nth net.routers i ≡ Some r → IsEnd (restart_at net i (Some r)) e → IsEnd net e
restart-end net i r e found x =
    test (λ b. eqb i e.router ≡ b → IsEnd net e) (eqb i e.router)
    (λ _ y. here (grind (arith, nat_tests)))
    (λ _ n. record { a = x.a; at_a = sym (nth-other net.routers i t e.router (λ q. grind (arith, nat_tests))) ∙ x.at_a; system = x.system; point = x.point }) refl
  where
    t : Router
    t = restarted r

    here : i ≡ e.router → IsEnd net e
    here same =
        let is_t : t ≡ x.a = some-same t x.a (sym (nth-set net.routers i r t found) ∙ ap (λ (n : ℕ). nth (with_nth net.routers i t) n) same ∙ x.at_a) in
        record {
          a = r;
          at_a = ap (λ (n : ℕ). nth net.routers n) (sym same) ∙ found;
          system = ap (λ (z : Router). z.config.system) is_t ∙ x.system;
          point = sym (quiet-point r.circuits e.place) ∙ ap (λ (z : Router). is_point (nth z.circuits e.place)) is_t ∙ x.point;
        }

change-end : (given : Given) (net new : Network) (e : Port) → AreFollowing net → AreFollowing new → Change given net new → IsEnd new e → IsEnd net e
change-end given net new e old follow (Still _) x = x
change-end given net new e old follow (Moved i link event r ts m _) x =
    moved-end given net i link event r ts e m.found old (follow i (step given r event).router (nth-set net.routers i r (step given r event).router m.found)) x
change-end given net new e old follow (Restarted i r q) x = restart-end net i r e q x

-- ---- how many were injected

change-injected : (given : Given) (net new : Network) → Change given net new → new.injected ≡ net.injected
change-injected given net new (Still _) = refl
change-injected given net new (Moved i link event r ts m _) = refl
change-injected given net new (Restarted i r q) = refl

risen-some : (n : ℕ) → risen n ≡ 0 → ⊥
risen-some zero e = absurd (cc)
risen-some (suc n) e = risen-not n (nat_lt (suc n) (2 ^ 64 - 1)) e
  where
    risen-not : (n : ℕ) (t : Bool) → (if t then suc n + 1 else suc n) ≡ 0 → ⊥
    risen-not n true q = omega (arith, q)
    risen-not n false q = omega (arith, q)

arrived-none : (given : Given) (net : Network) (n i link place : ℕ) (octets : List ℕ) (o : Option Router) → net.injected ≡ n → (arrive_at given net i link place octets o).injected ≡ n
arrived-none given net n i link place octets None e = e
arrived-none given net n i link place octets (Some r) e = e

-- ---- each event

same-wired : (net new : Network) → new.links ≡ net.links → IsWired net → IsWired new
same-wired net new same w = record { once = λ k l i p x y. w.once k l i p (on k i ∙ x) (on l i ∙ y) }
  where
    on : (k i : ℕ) → place_at net k i ≡ place_at new k i
    on k i = ap (λ (links : List (List End)). place_in (nth links k) i) (sym same)

change-links-holds : (leaks : Router → Level → List (ℕ × ℕ)) (attached : Router → Bool) (net : Network) (h : Happening) → is_injection h ≡ false → IsKeptNet net
    → AreSpeaking (apply (given_octets leaks attached) net h) → AreFollowing (apply (given_octets leaks attached) net h)
    → (apply (given_octets leaks attached) net h).injected ≡ 0 → (e f : Port) (k : ℕ) → IsPointLink (apply (given_octets leaks attached) net h) e f k
    → Holds (apply (given_octets leaks attached) net h) e f k
change-links-holds leaks attached net h quiet kept speak follow none e f k l =
    apply-holds leaks attached net e f k h quiet kept.wired joins kept.octets kept.speaking speak
    (kept.holds (sym (change-injected given net new change) ∙ none) e f k (record {
      joins = joins;
      near = change-end given net new e kept.following follow change l.near;
      far = change-end given net new f kept.following follow change l.far;
    }))
  where
    given : Given
    given = given_octets leaks attached

    new : Network
    new = apply given net h

    change : Change given net new
    change = apply-change given net h quiet

    joins : Joins net e f k
    joins = record { ends = ap (λ (links : List (List End)). nth links k) (sym (apply-links given net h)) ∙ l.joins.ends; apart = l.joins.apart }

inject-holds : (leaks : Router → Level → List (ℕ × ℕ)) (attached : Router → Bool) (net : Network) (i link : ℕ) (octets : List ℕ) (o : Option ℕ) → IsKeptNet net
    → (inject_at (given_octets leaks attached) net i link octets o).injected ≡ 0 → (e f : Port) (k : ℕ)
    → IsPointLink (inject_at (given_octets leaks attached) net i link octets o) e f k
    → Holds (inject_at (given_octets leaks attached) net i link octets o) e f k
inject-holds leaks attached net i link octets None kept none e f k l = kept.holds none e f k l
inject-holds leaks attached net i link octets (Some place) kept none e f k l =
    absurd (risen-some net.injected (sym (arrived-none (given_octets leaks attached) (record net { injected = risen net.injected }) (risen net.injected) i link place octets (nth net.routers i) refl) ∙ none))

each-holds : (leaks : Router → Level → List (ℕ × ℕ)) (attached : Router → Bool) (net : Network) (h : Happening) → IsKeptNet net
    → AreSpeaking (apply (given_octets leaks attached) net h) → AreFollowing (apply (given_octets leaks attached) net h)
    → (apply (given_octets leaks attached) net h).injected ≡ 0 → (e f : Port) (k : ℕ) → IsPointLink (apply (given_octets leaks attached) net h) e f k
    → Holds (apply (given_octets leaks attached) net h) e f k
unfolding apply
each-holds leaks attached net (Inject i link octets) kept speak follow none e f k l = inject-holds leaks attached net i link octets (place_at net link i) kept none e f k l
each-holds leaks attached net (Tick i) kept speak follow none e f k l = change-links-holds leaks attached net (Tick i) refl kept speak follow none e f k l
each-holds leaks attached net (PullOn i link) kept speak follow none e f k l = change-links-holds leaks attached net (PullOn i link) refl kept speak follow none e f k l
each-holds leaks attached net (Deliver n i) kept speak follow none e f k l = change-links-holds leaks attached net (Deliver n i) refl kept speak follow none e f k l
each-holds leaks attached net (Restart i) kept speak follow none e f k l = change-links-holds leaks attached net (Restart i) refl kept speak follow none e f k l
each-holds leaks attached net (SetMetric i place metric) kept speak follow none e f k l = change-links-holds leaks attached net (SetMetric i place metric) refl kept speak follow none e f k l
each-holds leaks attached net (SetOverload i on) kept speak follow none e f k l = change-links-holds leaks attached net (SetOverload i on) refl kept speak follow none e f k l
each-holds leaks attached net (SetPrefix i prefix metric) kept speak follow none e f k l = change-links-holds leaks attached net (SetPrefix i prefix metric) refl kept speak follow none e f k l

pub apply-kept : (leaks : Router → Level → List (ℕ × ℕ)) (attached : Router → Bool) (net : Network) (h : Happening) → IsKeptNet net
    → AreOctets (apply (given_octets leaks attached) net h) → AreSpeaking (apply (given_octets leaks attached) net h)
    → AreFollowing (apply (given_octets leaks attached) net h) → IsKeptNet (apply (given_octets leaks attached) net h)
apply-kept leaks attached net h kept octets speak follow = record {
  wired = same-wired net (apply (given_octets leaks attached) net h) (apply-links (given_octets leaks attached) net h) kept.wired;
  speaking = speak;
  following = follow;
  octets = octets;
  holds = each-holds leaks attached net h kept speak follow;
}

-- ---- the start

pub fresh-kept : (net : Network) → IsFreshNet net → IsKeptNet net
fresh-kept net s = record {
  wired = s.wired;
  speaking = s.speaking;
  following = s.following;
  octets = subst (λ (ds : List Datagram). AllByRecursion (λ (d : Datagram). AllByRecursion (λ octet. octet < 256) (octets_of d)) ds) (sym s.nothing) tt;
  holds = λ _ e f k l. start-holds net e f k (record {
    a = l.near.a;
    b = l.far.a;
    at_a = l.near.at_a;
    at_b = l.far.at_a;
    near = opening e l.near;
    far = opening f l.far;
    nothing = s.nothing;
  });
}
  where
    opening : (e : Port) (x : IsEnd net e) → IsOpening e x.a
    opening e x = record {
      sound = record { system = x.system; touch = s.following e.router x.a x.at_a; sorted = (s.speaking e.router x.a x.at_a).sorted; point = x.point };
      alone = s.alone e.router x.a x.at_a e.place;
    }

-- ---- the claim

pub kept-claim : (net : Network) (e f : Port) (k : ℕ) (a b : Router) (l : Level) → IsKeptNet net → net.injected ≡ 0 → IsUpIn net e f k a b l → IsClaimedOf e f a b l
kept-claim net e f k a b l kept none up =
    let h = kept.holds none e f k up.link_is in
    let is_a : h.a ≡ a = some-same h.a a (sym h.at_a ∙ up.near) in
    let is_b : h.b ≡ b = some-same h.b b (sym h.at_b ∙ up.far) in
    let held : LinkHolds e f k a b net.datagrams = subst (λ (x : Router). LinkHolds e f k a x net.datagrams) is_b (subst (λ (x : Router). LinkHolds e f k x h.b net.datagrams) is_a h.holds) in
    let claim = link-claim e f k a b net.datagrams l held up.up in
    record {
      claim = claim;
      near = ahead-flags e a b l held.near.sound claim.there;
      far = ahead-flags f b a l held.far.sound (λ id x y. claim.back id y x);
    }

-- ---- a router at its start

pub start-alone : (config : Config) (boot : ℕ) (circuits : List Circuit) (place : ℕ) → tie_at (start config boot circuits) place ≡ no_tie
start-alone config boot circuits place = quiet-tie circuits place
