-- A network in its run, from its start, and what is claimed of it.
use Rattle.std.proofs.Common.{◌≡◌, ℕ, zero, suc, ◌<◌, ◌≤◌, ◌&&◌, Bool, true, false, List, [], ◌∷◌, map, length, Option, Some, None, IfSome, if◌then◌else◌, refl, sym, ap, ◌∙◌, subst}
use Rattle.std.specs.List.{AllByRecursion}
use Rattle.isis_base.specs.declared.level.Level.{Level}
use Rattle.isis_base.specs.declared.level.Level.TheVariants as level
use Rattle.model_router.specs.Both.{at}
use Rattle.model_router.specs.Places.{nth}
use Rattle.model_router.specs.Routers.{Circuit, Router, book_of}
use Rattle.model_router.specs.Configs as model
use Rattle.model_router.specs.Starts.{start}
use Rattle.model_router.specs.AdjacencyLaws.{opens, is_point, tie_at, no_tie}
use Rattle.router_desk.specs.declared.config.Config.{Config}
use Rattle.router_core.specs.Reached.{IsReached}
use Rattle.router_desk.specs.Configs.{config_of, circuits_of}
use Rattle.model_network.specs.declared.end.End.{End}
use Rattle.model_network.specs.Networks.{Network}
use Rattle.model_network.specs.Ports.{Port}
use Rattle.model_network.specs.Counts.{ahead, flags}
use Rattle.model_network.proofs.KeptLemmas.{fresh-kept, kept-claim, start-alone}
use Rattle.model_network.specs.Origins.{HoldsNothing}
use Rattle.model_network.proofs.OriginLemmas.{start-origins}
use Rattle.model_network.proofs.SweepLemmas.{start-true}
use Rattle.lab_facts.specs.LinkStates as link
use Rattle.lab_facts.specs.LinkStates.{state_of, no_state}
use Rattle.network_lab.specs.LabNets.{Seen, LabNet, nothing_noted, router_of}
use Rattle.network_lab.specs.Reached.{AreInRun, HoldNothing, IsReachedNet, HasRun}
use Rattle.network_lab.specs.LabInside.{AreWired, AreApart, IsFit, IsSetUp, IsNet}
use Rattle.network_lab.specs.Claims.{AreClaimed, IsEndIn}
use Rattle.lab_facts.specs.declared.state.LinkState.{LinkState}
use Rattle.network_lab.specs.LinkStates.{pair_of, state_between, is_point_in, state_of_ends, state_of_pair, state_at, IsWithin, AreWithin}
use Rattle.network_lab.proofs.PlaceLemmas.{some-same, nth-there, of-place}
use Rattle.network_lab.proofs.LinkLemmas.{all-at}
use Rattle.network_lab.proofs.StateLemmas.{ends-are}

-- ---- the start

configs-run : (configs : List Config) → AllByRecursion IsFit configs → AreInRun (map router_of configs)
configs-run [] h i r e = absurd (cc)
configs-run (c ∷ configs) h zero r e = subst IsReached (some-same (router_of c) r e) h.0.reached
configs-run (c ∷ configs) h (suc i) r e = configs-run configs h.1 i r e

configs-alone : (configs : List Config) (i : ℕ) (r : Router) → nth (map router_of configs) i ≡ Some r → (place : ℕ) → tie_at r place ≡ no_tie
configs-alone [] i r e place = absurd (cc)
configs-alone (c ∷ configs) zero r e place = subst (λ (r : Router). tie_at r place ≡ no_tie) (some-same (router_of c) r e) (start-alone (config_of c) 1 (circuits_of c) place)
configs-alone (c ∷ configs) (suc i) r e place = configs-alone configs i r e place

start-empty : (config : model.Config) (boot : ℕ) (circuits : List Circuit) (level : Level) → (book_of (start config boot circuits) level).cells ≡ []
start-empty config boot circuits level.One = refl
start-empty config boot circuits level.Two = refl

configs-empty : (configs : List Config) → HoldNothing (map router_of configs)
configs-empty [] i r level e = absurd (cc)
configs-empty (c ∷ configs) zero r level e = subst (λ (r : Router). (book_of r level).cells ≡ []) (some-same (router_of c) r e) (start-empty (config_of c) 1 (circuits_of c) level)
configs-empty (c ∷ configs) (suc i) r level e = configs-empty configs i r level e

abbrev opening : Seen → Network
opening s = record { routers = s.routers; links = s.links; datagrams = []; injected = s.injected; past = []; takings = [] }

opening-reached : (configs : List Config) (s : Seen) → IsSetUp configs s → AreWired s.links → IsReachedNet (opening s)
opening-reached configs s h w = record {
  routers = all;
  kept = fresh-kept (opening s) (record {
    wired = record { once = w.once };
    speaking = λ i r e. (all i r e).speaking;
    following = λ i r e. (all i r e).follows;
    alone = subst (λ (rs : List Router). (i : ℕ) (r : Router) → nth rs i ≡ Some r → (place : ℕ) → tie_at r place ≡ no_tie) (sym h.routers) (configs-alone configs);
    nothing = refl;
  });
  origins = start-origins (opening s) nothing;
  tells = start-true (opening s) nothing;
  agreed = tt;
}
  where
    all : AreInRun s.routers
    all = subst AreInRun (sym h.routers) (configs-run configs h.fit)

    nothing : HoldsNothing (opening s)
    nothing = record { empty = subst HoldNothing (sym h.routers) (configs-empty configs); nothing = refl }

pub nothing-held : (ports : List (List ℕ)) (ordered : List (List End)) (a : LabNet) → IsNet ports ordered a → a.begun ≡ false → HoldNothing a.seen.routers
nothing-held ports ordered a h early = subst HoldNothing (sym (h.setup early).routers) (configs-empty a.configs)

pub has-run : (ports : List (List ℕ)) (ordered : List (List End)) (a : LabNet) → IsNet ports ordered a → a.stopped ≡ None → a.seen.injected ≡ 0 → HasRun a.seen
has-run ports ordered a h going none = by a.begun refl
  where
    by : (b : Bool) → a.begun ≡ b → HasRun a.seen
    by true q = h.run q going none
    by false q = record {
      net = opening a.seen;
      seen = ap (λ (ds : List _). record a.seen { sent = ds; noted = nothing_noted }) (sym (h.setup q).nothing) ∙ ap (λ (ns : _). record a.seen { noted = ns }) (sym (h.setup q).unnoted);
      reached = opening-reached a.configs a.seen (h.setup q) h.wired;
    }

-- ---- claims

pub links-in : (s : Seen) → HasRun s → AreClaimed s
links-in s h none link e f a b level up =
    kept-claim h.net e f link a b level h.reached.kept (ap (λ (s : Seen). s.injected) h.seen ∙ none) (record {
      link_is = record {
        joins = record { ends = ap (λ (s : Seen). nth s.links link) h.seen ∙ up.ends; apart = up.apart };
        near = record { a = a; at_a = near; system = sym up.near_system; point = up.near_point };
        far = record { a = b; at_a = far; system = sym up.far_system; point = up.far_point };
      };
      near = near;
      far = far;
      up = up.up;
    })
  where
    near : nth h.net.routers e.router ≡ Some a
    near = ap (λ (s : Seen). nth s.routers e.router) h.seen ∙ up.near

    far : nth h.net.routers f.router ≡ Some b
    far = ap (λ (s : Seen). nth s.routers f.router) h.seen ∙ up.far

-- ---- numbers of links

pub both-true : (a b : Bool) → (a && b) ≡ true → (a ≡ true) × (b ≡ true)
both-true true b e = (refl, e)
both-true false b e = absurd (cc)

state-within : (a b : Router) (p q : ℕ) (level : Level)
    → (opens (nth a.circuits p) level ≡ true → opens (nth b.circuits q) level ≡ true → (ahead a b level ≤ flags a p level) × (ahead b a level ≤ flags b q level))
    → IsWithin (state_of a p b q level)
unfolding state_of
state-within a b p q level f = by (at a.config.runs level && at b.config.runs level)
  where
    by : (t : Bool) → IsWithin (if t then link.state_between a p b q level else no_state)
    by true = λ up. let both = both-true (opens (nth a.circuits p) level) (opens (nth b.circuits q) level) up in f both.0 both.1
    by false = λ up. absurd (cc)

within-pair : (s : Seen) → HasRun s → s.injected ≡ 0 → (l : ℕ) (e f : End) (level : Level) → nth s.links l ≡ Some (e ∷ f ∷ []) → (e.router ≡ f.router → ⊥) → IsEndIn s.routers e → IsEndIn s.routers f → IsWithin (state_at s.routers (e ∷ f ∷ []) level)
within-pair s h none l e f level at_l apart near far =
    subst IsWithin (sym (ap (λ (o : Option Router). of-ends o (nth s.routers f.router)) near.at ∙ ap (λ (o : Option Router). of-ends (Some near.r) o) far.at))
    (by (at near.r.config.runs level && is_point (nth near.r.circuits e.place)) (at far.r.config.runs level && is_point (nth far.r.circuits f.place)) refl refl)
  where
    of-ends : Option Router → Option Router → LinkState
    of-ends o w =
        if is_point_in o e.place level && is_point_in w f.place level
        then state_between o e.place w f.place level else no_state

    p : Port
    p = record { router = e.router; place = e.place; system = near.r.config.system }

    q : Port
    q = record { router = f.router; place = f.place; system = far.r.config.system }

    by : (x y : Bool) → (at near.r.config.runs level && is_point (nth near.r.circuits e.place)) ≡ x → (at far.r.config.runs level && is_point (nth far.r.circuits f.place)) ≡ y
        → IsWithin (if x && y then state_of near.r e.place far.r f.place level else no_state)
    by true true t u = state-within near.r far.r e.place f.place level (λ up_e up_f.
        let c = links-in s h none l p q near.r far.r level (record {
          ends = at_l;
          apart = apart;
          near = near.at;
          far = far.at;
          near_system = refl;
          far_system = refl;
          near_point = (both-true (at near.r.config.runs level) (is_point (nth near.r.circuits e.place)) t).1;
          far_point = (both-true (at far.r.config.runs level) (is_point (nth far.r.circuits f.place)) u).1;
          up = record { near = up_e; far = up_f };
        }) in (c.near, c.far))
    by true false t u = λ up. absurd (cc)
    by false y t u = λ up. absurd (cc)

pub are-within : (ports : List (List ℕ)) (ordered : List (List End)) (a : LabNet) → IsNet ports ordered a → a.stopped ≡ None → AreWithin a.seen
are-within ports ordered a h going none l ends level e =
    of ends e (all-at AreApart a.seen.links l ends h.apart e) (ends-are ports ordered a h l ends e)
  where
    none-up : IsWithin no_state
    none-up up = absurd (cc)

    of : (ends : List End) → nth a.seen.links l ≡ Some ends → AreApart ends → AllByRecursion (IsEndIn a.seen.routers) ends → IsWithin (state_at a.seen.routers ends level)
    of [] e p there = none-up
    of (x ∷ []) e p there = none-up
    of (x ∷ y ∷ []) e p there = within-pair a.seen (has-run ports ordered a h going none) none l x y level e p.0.0 there.0 there.1.0
    of (x ∷ y ∷ z ∷ ends) e p there = none-up

-- of the pair that was found
pub pair-within : (s : Seen) (l : ℕ) (level : Level) (o : Option (End × End)) (near far : End) (x : LinkState) → l < length s.links → IfSome (nth s.links l) (λ (ends : List End). o ≡ pair_of ends) → o ≡ Some (near, far)
    → x ≡ state_of_ends s.routers level (near, far) → AreWithin s → s.injected ≡ 0 → IsWithin x
pair-within s l level o near far x h pair is at w none =
    let there = nth-there s.links l h in
    let found : pair_of there.0 ≡ Some (near, far) = sym (of-place (λ (ends : List End). o ≡ pair_of ends) (nth s.links l) there.0 there.1 pair) ∙ is in
    subst IsWithin (ap (state_of_pair s.routers level) found ∙ sym at) (w none l there.0 level there.1)
