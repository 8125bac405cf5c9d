-- Turns that are played, one after another.
use Rattle.std.proofs.Common.{◌≡◌, ℕ, ◌<◌, List, [], ◌∷◌, ◌++◌, map, length, get_or, Some, slice_get, set, refl, sym, ap, ◌∙◌, subst}
use Rattle.std.proofs.lemmas.List.{append_assoc}
use Rattle.model_router.specs.Places.{nth}
use Rattle.router_core.specs.Givens.{given}
use Rattle.model_network.specs.declared.end.End.{End}
use Rattle.model_network.specs.Networks.{Network}
use Rattle.model_network.specs.Runs.{Happening, run}
use Rattle.network_lab.specs.declared.event.LabEvent.{LabEvent}
use Rattle.network_lab.specs.LabNets.{Seen, LabNet, StandsFor}
use Rattle.network_lab.specs.Claims.{HaveOneLink}
use Rattle.weave_core.specs.declared.moves.Turn.{Turn}
use Rattle.weave_model.specs.Weavings.{Move, Does, Restarts, IsMove, IsDeed, Scene, Goes, Front}
use Rattle.weave_model.specs.Entries.{Deed, Second, Take, Pull, Metric, Overload, Prefix}
use Rattle.weave_model.specs.Coding.{turn_for}
use Rattle.weave_model.proofs.ApplyLemmas.{AreWired}
use Rattle.weave_model.proofs.PlaceLemmas.{There, there-too}
use Rattle.weave_model.proofs.MatchLemmas.{Told, turns-of}
use Rattle.weave_replay.proofs.PlaceLemmas.{some-is, within, nth-get}
use Rattle.weave.specs.Woven.{happenings_of}
use Rattle.weave.proofs.AlongLemmas.{one-led, claimed-more, claimed-at, one-injected}
use Rattle.weave.proofs.ListLemmas.{nth-slice}
use Rattle.weave.specs.Plays.{IsNext, HasHappened, Stands, Plays, CanTurn, PlaysOn}

-- ---- whose turn it is

-- an event that is a router's move is its turn
party-is : (net : Network) (router : ℕ) (move : Move) (h : Happening) → IsMove net router move h → (turn_for h).party ≡ router
party-is net router Restarts h is = ap (λ (x : Happening). (turn_for x).party) is
party-is net router (Does e) h is = of e.deed is
  where
    of : (deed : Deed) → IsDeed net router deed h → (turn_for h).party ≡ router
    of Second is = ap (λ (x : Happening). (turn_for x).party) is
    of (Take circuit octets) is = ap (λ (x : Happening). (turn_for x).party) is.event
    of (Pull circuit) is = ap (λ (x : Happening). (turn_for x).party) is.event
    of (Metric circuit metric) is = ap (λ (x : Happening). (turn_for x).party) is
    of (Overload on) is = ap (λ (x : Happening). (turn_for x).party) is
    of (Prefix prefix metric) is = ap (λ (x : Happening). (turn_for x).party) is

-- what the next turn is
pub record NextTurn (turn : Turn) (more : List Turn) (plans : List (List Move)) (here last : Scene) (all : List Happening) : Type 0 where
  pub h : Happening
  pub rest : List Happening
  pub all_are : all ≡ h ∷ rest
  pub mid : Scene
  pub goes : Goes given h here mid
  pub front : Front given rest mid last
  pub turn_is : turn ≡ turn_for h
  pub more_are : more ≡ map turn_for rest
  pub party : turn.party ≡ goes.router
  pub plan : slice_get plans turn.party ≡ Some (goes.move ∷ goes.more)

abbrev first_turn : Turn → List Turn → Turn
first_turn d [] = d
first_turn d (t ∷ ts) = t

abbrev turns_behind : List Turn → List Turn
turns_behind [] = []
turns_behind (t ∷ ts) = ts

pub next-turn : (turn : Turn) (more : List Turn) (plans : List (List Move)) (a : LabNet) (here last : Scene) (all : List Happening) → Stands plans a here → Front given all here last → turn ∷ more ≡ map turn_for all → NextTurn turn more plans here last all
next-turn turn more plans a here last [] st f e = absurd (cc)
next-turn turn more plans a here last (h ∷ hs) st f e =
    let g = f.1 in
    let t : turn ≡ turn_for h = ap (first_turn turn) e in
    let p : turn.party ≡ g.router = ap (λ (x : Turn). x.party) t ∙ party-is here.net g.router g.move h g.says in
    record {
      h = h;
      rest = hs;
      all_are = refl;
      mid = f.0;
      goes = g;
      front = f.2;
      turn_is = t;
      more_are = ap turns_behind e;
      party = p;
      plan = ap (slice_get plans) p ∙ (ap (λ (ts : List (List Move)). slice_get ts g.router) (sym st.tracks) ∙ g.there);
    }

-- its move is without a fault in its router's state
pub next-fits : (turn : Turn) (more : List Turn) (plans : List (List Move)) (a : LabNet) (here last : Scene) (all : List Happening) → (st : Stands plans a here) → (n : NextTurn turn more plans here last all) → IsNext a.seen turn.party n.goes.move
next-fits turn more plans a here last all st n = of (there-too here.tracks st.letters.tracks n.goes.router (n.goes.move ∷ n.goes.more) n.goes.there (sym st.alike.size))
  where
    of : There (slice_get st.letters.tracks n.goes.router) → IsNext a.seen turn.party n.goes.move
    of x =
        let p = st.alike.pairs n.goes.router (n.goes.move ∷ n.goes.more) x.item n.goes.there x.there in
        record {
          r = p.r;
          at = ap (nth a.seen.routers) n.party ∙ (ap (λ (s : Seen). nth s.routers n.goes.router) (sym st.net.seen) ∙ p.at);
          good = p.good.0;
        }

-- ---- a plan's first move

abbrev first_move : Move → List Move → Move
first_move d [] = d
first_move d (m ∷ ms) = m

abbrev moves_behind : List Move → List Move
moves_behind [] = []
moves_behind (m ∷ ms) = ms

-- what stands first in the plan of the turn's party
pub plan-first : (turn : Turn) (more : List Turn) (plans : List (List Move)) (here last : Scene) (all : List Happening) (move : Move) (left : List Move) → (n : NextTurn turn more plans here last all) → slice_get plans turn.party ≡ Some (move ∷ left) → (n.goes.move ≡ move) × (n.goes.more ≡ left)
plan-first turn more plans here last all move left n at =
    let e = some-is (n.goes.move ∷ n.goes.more) (move ∷ left) (sym n.plan ∙ at) in
    (ap (first_move move) e, ap moves_behind e)

-- ---- a turn

wired-links : (a : LabNet) (net : Network) (links : List (List End)) → HaveOneLink a.seen.links → StandsFor net a → net.links ≡ links → AreWired links
wired-links a net links wired stands same =
    record { once = subst HaveOneLink (ap (λ (s : Seen). s.links) (sym stands.seen) ∙ same) wired }

-- what was played with this turn, goes on behind it
pub turn-played : (old new : List LabEvent) (turn : Turn) (more : List Turn) (plans later : List (List Move)) (a b : LabNet) (move : Move) (left : List Move)
    → HaveOneLink a.seen.links → slice_get plans turn.party ≡ Some (move ∷ left) → later ≡ set plans turn.party left
    → HasHappened a turn.party move turn.taken old new b → PlaysOn old (turn ∷ more) plans a new more later b
turn-played old new turn more plans later a b move left wired at put happened origin hs last p =
    on (next-turn turn more plans a p.here last p.rest p.stands p.front p.turns_are)
  where
    on : NextTurn turn more plans p.here last p.rest → Plays origin (happenings_of new) more later b hs last
    on n = of (plan-first turn more plans p.here last p.rest move left n at)
      where
        st : Stands plans a p.here
        st = p.stands

        told : Told given st.code st.count st.links n.mid st.letters
        told = turns-of given st.code st.count st.links p.here n.mid st.letters (n.h ∷ []) (wired-links a p.here.net st.links wired st.net st.alike.links_are) st.alike (n.mid, n.goes, refl)

        of : (n.goes.move ≡ move) × (n.goes.more ≡ left) → Plays origin (happenings_of new) more later b hs last
        of same =
            let is : IsMove p.here.net turn.party move n.h =
            subst (λ (m : Move). IsMove p.here.net turn.party m n.h) same.0 (subst (λ (k : ℕ). IsMove p.here.net k n.goes.move n.h) (sym n.party) n.goes.says) in
            let done = happened p.here.net n.h st.net is n.turn_is in
            let led : run given origin (happenings_of new) ≡ n.mid.net =
            one-led origin p.here.net n.mid.net (happenings_of old) (happenings_of new) n.h done.0 p.led n.goes.net in
            record {
              here = n.mid;
              rest = n.rest;
              stands = record {
                tracks =
                    n.goes.tracks
                    ∙ (ap (λ (ts : List (List Move)). set ts n.goes.router n.goes.more) st.tracks
                    ∙ (ap (λ (k : ℕ). set plans k n.goes.more) (sym n.party)
                    ∙ (ap (set plans turn.party) same.1 ∙ sym put)));
                net = subst (λ (net : Network). StandsFor net b) (sym n.goes.net) done.1;
                code = st.code;
                count = st.count;
                links = st.links;
                letters = told.t;
                alike = told.alike;
              };
              front = n.front;
              turns_are = n.more_are;
              whole =
                  p.whole
                  ∙ (ap (λ (xs : List Happening). happenings_of old ++ xs) n.all_are
                  ∙ (sym (append_assoc (happenings_of old) (n.h ∷ []) n.rest)
                  ∙ ap (λ (xs : List Happening). xs ++ n.rest) (sym done.0)));
              led = led;
              claimed =
                  claimed-more origin (happenings_of old) (happenings_of new) n.h done.0 p.claimed
                  (claimed-at (run given origin (happenings_of new)) b led (subst (λ (m : Network). StandsFor m b) (sym n.goes.net) done.1) done.2)
                  (one-injected origin p.here.net n.mid.net (happenings_of old) (happenings_of new) turn.party move n.h p.led led n.goes.net is p.claimed);
            }

-- ---- the step of a turn

-- what stands in the plan of a turn that can be played
pub record TurnPlan (turn : Turn) (plans : List (List Move)) (a : LabNet) : Type 0 where
  pub move : Move
  pub left : List Move
  pub plan : slice_get plans turn.party ≡ Some (move ∷ left)
  pub next : IsNext a.seen turn.party move

pub turn-plan : (turn : Turn) (plans : List (List Move)) (a : LabNet) → CanTurn turn plans a → TurnPlan turn plans a
turn-plan turn plans a c = of c.can.plays
  where
    of : Plays c.can.origin c.done (turn ∷ c.more) plans a c.can.hs c.can.last → TurnPlan turn plans a
    of p =
        let n = next-turn turn c.more plans a p.here c.can.last p.rest p.stands p.front p.turns_are in
        record {
          move = n.goes.move;
          left = n.goes.more;
          plan = n.plan;
          next = next-fits turn c.more plans a p.here c.can.last p.rest p.stands n;
        }

pub party-there : (turn : Turn) (plans : List (List Move)) (a : LabNet) → TurnPlan turn plans a → turn.party < length plans
party-there turn plans a t = within plans turn.party (t.move ∷ t.left) (sym (nth-slice plans turn.party) ∙ t.plan)

-- the plan that an index gives
pub plan-is : (turn : Turn) (plans : List (List Move)) (a : LabNet) (x : List Move) → (t : TurnPlan turn plans a) → x ≡ get_or plans turn.party x → x ≡ t.move ∷ t.left
plan-is turn plans a x t e = some-is x (t.move ∷ t.left)
    (sym (nth-get plans turn.party x (party-there turn plans a t) e) ∙ (sym (nth-slice plans turn.party) ∙ t.plan))

-- its first move may be made
pub step-next : (turn : Turn) (plans : List (List Move)) (a : LabNet) (x left : List Move) (move : Move) → CanTurn turn plans a → x ≡ get_or plans turn.party x → x ≡ move ∷ left → IsNext a.seen turn.party move
step-next turn plans a x left move c e first = of (turn-plan turn plans a c)
  where
    of : TurnPlan turn plans a → IsNext a.seen turn.party move
    of t = subst (λ (m : Move). IsNext a.seen turn.party m) (ap (first_move move) (sym (plan-is turn plans a x t e) ∙ first)) t.next

-- and it stands there
pub step-there : (turn : Turn) (plans : List (List Move)) (a : LabNet) (x left : List Move) (move : Move) → CanTurn turn plans a → x ≡ get_or plans turn.party x → x ≡ move ∷ left → slice_get plans turn.party ≡ Some (move ∷ left)
step-there turn plans a x left move c e first = of (turn-plan turn plans a c)
  where
    of : TurnPlan turn plans a → slice_get plans turn.party ≡ Some (move ∷ left)
    of t = t.plan ∙ ap Some (sym (plan-is turn plans a x t e) ∙ first)
