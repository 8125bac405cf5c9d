-- Events of the network for the moves of its routers.
use Rattle.std.proofs.Common.{◌≡◌, ℕ, zero, suc, ◌-◌, ◌<◌, ◌||◌, nat_le, nat_lt, is_some, true, List, [], ◌∷◌, length, get_or, Some, None, sym, ap, ◌∙◌, subst, arith}
use Rattle.std.proofs.lemmas.Bool.{and_parts, leb-true}
use Rattle.model_router.specs.Maps.{find}
use Rattle.model_router.specs.Places.{nth}
use Rattle.model_router.specs.Routers.{Router}
use Rattle.router_desk.specs.declared.config.Change.{Change}
use Rattle.router_desk.specs.declared.config.Change.TheVariants as change
use Rattle.isis_base.specs.Prefixes.{prefix_number}
use Rattle.router_core.specs.Events.{IsThere}
use Rattle.model_network.specs.declared.end.End.{End}
use Rattle.model_network.specs.Networks.{Network, place_in}
use Rattle.model_network.specs.RunLines.{circuit_count}
use Rattle.model_network.specs.Runs as model
use Rattle.model_network.specs.Runs.{Happening}
use Rattle.network_lab.specs.LabNets.{Seen, LabNet, StandsFor}
use Rattle.network_lab.specs.LabEvents.{IsChange}
use Rattle.network_lab.specs.Claims.{AreLinksOf, HaveOneLink}
use Rattle.weave_model.specs.Faults.{is_there, fits}
use Rattle.weave_model.specs.Weavings.{Pulls}
use Rattle.weave_replay.specs.Entries.{change_deed}
use Rattle.weave.proofs.ItemLemmas.{nth-or}

-- a circuit's number is one of the router's
pub there-is : (r : Router) (circuit : ℕ) → is_there r circuit ≡ true → IsThere r circuit
there-is r circuit e =
    let both = and_parts (nat_le 1 circuit) (nat_le circuit (length r.circuits)) e in
    (leb-true 1 circuit both.0, leb-true circuit (length r.circuits) both.1)

-- it has a link
pub has-port : (a : Seen) (router circuit : ℕ) (r : Router) (ports : List ℕ) → nth a.routers router ≡ Some r → is_there r circuit ≡ true → length ports ≡ circuit_count (nth a.routers router) → circuit - 1 < length ports
has-port a router circuit r ports at e size =
    let t = there-is r circuit e in
    let s : length ports ≡ length r.circuits = size ∙ ap circuit_count at in
    omega (arith, t.0, t.1, s)

-- which is there
pub link-there : (links : List (List End)) (router place link : ℕ) → place_in (nth links link) router ≡ Some place → link < length links
link-there [] router place link e = absurd (cc)
link-there (x ∷ links) router place zero e = omega arith
link-there (x ∷ links) router place (suc link) e = let h = link-there links router place link e in omega (arith, h)

-- the router's place on it
pub on-port : (a : Seen) (router circuit number : ℕ) (r : Router) (ports : List ℕ) → nth a.routers router ≡ Some r → is_there r circuit ≡ true → length ports ≡ circuit_count (nth a.routers router) → AreLinksOf a.links router ports → number ≡ circuit
    → place_in (nth a.links (get_or ports (number - 1) 0)) router ≡ Some (number - 1)
on-port a router circuit number r ports at e size on same =
    let less = has-port a router circuit r ports at e size in
    on (number - 1) (get_or ports (number - 1) 0) (nth-or ports (number - 1) 0 (omega (arith, less, same)))

-- a change that fits may be made
pub change-fits : (r : Router) (x : Change) → fits r (change_deed x) ≡ true → IsChange r x
change-fits r (change.Metric circuit metric) e =
    let both = and_parts (is_there r circuit) (nat_le metric 16777215) e in
    (there-is r circuit both.0, leb-true metric 16777215 both.1)
change-fits r (change.Overload on) e = tt
change-fits r (change.Prefix prefix None) e = tt
change-fits r (change.Prefix prefix (Some metric)) e = leb-true metric 4261412864
    (and_parts (nat_le metric 4261412864) (is_some (find r.config.prefixes (prefix_number prefix)) || nat_lt (length r.config.prefixes) 4096) e).0

-- ---- the event of a move

-- a pull on the link of the circuit
pub pull-event : (a : LabNet) (net : Network) (router place link : ℕ) (h : Happening) → StandsFor net a → HaveOneLink a.seen.links → place_in (nth a.seen.links link) router ≡ Some place → Pulls net router place h → model.PullOn router link ≡ h
pull-event a net router place link h stands wired on p =
    let same : net.links ≡ a.seen.links = ap (λ (s : Seen). s.links) stands.seen in
    let one = wired link p.link router place on (subst (λ (ls : List (List End)). place_in (nth ls p.link) router ≡ Some place) same p.on) in
    ap (λ (l : ℕ). model.PullOn router l) one ∙ sym p.event
