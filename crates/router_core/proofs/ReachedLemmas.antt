-- What always holds of a router, at its start and after each step.
use Rattle.std.proofs.Common.{◌≡◌, ℕ, zero, suc, ◌+◌, ◌-◌, ◌*◌, ◌^◌, ◌<◌, ◌≤◌, ◌||◌, List, [], ◌∷◌, length, map, Bool, true, false, Option, Some, None, IfSome, is_some, if◌then◌else◌, refl, sym, ap, ◌∙◌, subst, arith, length-append}
use Rattle.std.specs.List.{AllByRecursion}
use Rattle.isis_base.specs.declared.level.LevelSet.{LevelSet}
use Rattle.isis_base.specs.declared.level.LevelSet.TheVariants as levels
use Rattle.isis_base.specs.declared.level.Level.{Level}
use Rattle.isis_base.specs.declared.level.Level.TheVariants as level
use Rattle.isis_base.specs.declared.prefix.Prefix as base
use Rattle.isis_tlv.specs.Fits.{IsArea}
use Rattle.isis_tlv.specs.Spelling.{area_value, area_octets}
use Rattle.model_router.specs.AdjacencyLaws.{Bond, Bonds, Same, Ends, Meets, no_bond, bond_of, bond_at, Tie, Hears, Learns}
use Rattle.model_router.specs.Both.{Both, runs_of}
use Rattle.model_router.specs.Configs as model
use Rattle.model_router.specs.Events.{Message, Event, Second, Take, Pull, Metric, Overload, Prefix}
use Rattle.model_router.specs.Good.{IsGoodEvent}
use Rattle.model_router.specs.Maps.{find, put}
use Rattle.model_router.specs.Places.{nth}
use Rattle.model_router.specs.Books.{cell_at}
use Rattle.model_router.specs.Routers.{Circuit, Router, book_of}
use Rattle.model_router.specs.Sorted.{RisesFrom, IsSorted}
use Rattle.model_router.specs.Starts.{start, started}
use Rattle.model_router.specs.Steps.{step}
use Rattle.model_router.proofs.BondLemmas.{step-stays, step-bonds, step-kept}
use Rattle.model_router.proofs.GoodSteps.{step-good, step-telling}
use Rattle.model_router.proofs.RisingLemmas.{course-rises}
use Rattle.model_router.proofs.StartLemmas.{start-sorted, start-good, start-telling, start-follows, start-bonds, start-idle, step-idle}
use Rattle.model_router.proofs.StepWays.{step-course}
use Rattle.model_router.proofs.TouchSteps.{step-touch}
use Rattle.model_datagram.specs.LspLaws.{AreSendable, TellsEvent, TellsKept}
use Rattle.model_router.specs.Numbers.{system_number}
use Rattle.model_datagram.specs.Reading.{read}
use Rattle.model_datagram.specs.Senders.{IsSender}
use Rattle.model_datagram.specs.Speakers.{IsName}
use Rattle.model_datagram.proofs.GoodLemmas.{Small, good-read}
use Rattle.model_datagram.proofs.IssueLemmas.{given-good}
use Rattle.model_datagram.proofs.KeptLemmas.{kept-tells}
use Rattle.model_datagram.proofs.SendLemmas.{step-sendable}
use Rattle.router_desk.specs.declared.config.Config.{Config}
use Rattle.router_desk.specs.declared.config.Change.TheVariants as change
use Rattle.isis_base.specs.Prefixes.{prefix_number}
use Rattle.router_desk.specs.Configs.{config_of, circuit_of, circuits_of, prefixes_of}
use Rattle.router_desk.specs.Limits.{IsValid}
use Rattle.router_desk.specs.Opening.{OpenedView, message_of, IsOpenedBy, seen_at}
use Rattle.router_desk.specs.Desks.{desk_of}
use Rattle.router_desk.proofs.ReadingLemmas.{finds-reads}
use Rattle.router_core.specs.declared.event.NodeEvent.{NodeEvent}
use Rattle.router_core.specs.declared.event.NodeEvent.TheVariants as event
use Rattle.router_core.specs.Events.{event_of, Fits, IsThere}
use Rattle.model_router.specs.ContentLaws.{SameKey}
use Rattle.router_routes.specs.Outlooks.{outlook_of}
use Rattle.router_core.specs.Calm.{KeepsPrefixes}
use Rattle.router_core.proofs.RouteLemmas.{step-told}
use Rattle.router_core.specs.Givens.{given, leaks_of, is_attached}
use Rattle.router_core.specs.Heard.{HasOctets}
use Rattle.router_core.specs.Reached.{IsReached}
use Rattle.router_core.proofs.ChangeLemmas.{not-there}
use Rattle.router_core.proofs.IdleLemmas.{from-some}
use Rattle.ordered.proofs.MapLemmas.{length-put}
use Rattle.router_core.proofs.NameLemmas.{HasNames, names-read}
use Rattle.router_core.proofs.PrefixLemmas.{put-up}
use Rattle.router_core.proofs.RestLemmas.{FitsEvent, step-keeps}
use Rattle.router_core.proofs.StartLemmas.{length-mapped}

-- ---- the start

quiet-bond : (cs : List Circuit) (place : ℕ) → bond_of (nth (map started cs) place) ≡ no_bond
quiet-bond [] place = refl
quiet-bond (c ∷ cs) zero = refl
quiet-bond (c ∷ cs) (suc place) = quiet-bond cs place

start-sendable : (config : model.Config) (boot : ℕ) (cs : List Circuit) → AreSendable (start config boot cs)
start-sendable config boot cs level.One id cell e = absurd (cc)
start-sendable config boot cs level.Two id cell e = absurd (cc)

pub start-is : (config : model.Config) (boot : ℕ) (cs : List Circuit) → IsSender config → boot < 2 ^ 24 → length cs ≤ 64 → length config.prefixes ≤ 4096 → RisesFrom 0 config.prefixes → IsReached (start config boot cs)
start-is config boot cs sender small few prefixes rises = record {
  speaking = record {
    sorted = start-sorted config boot cs;
    good = start-good config boot cs sender.system (omega (arith, few));
    telling = start-telling config boot cs sender.fits (omega (arith, few));
    sendable = start-sendable config boot cs;
    sender = sender;
    boot = small;
    names = λ place. subst (λ (b : Bond). IfSome b.names IsName) (sym (quiet-bond cs place)) tt;
  };
  follows = start-follows config boot cs;
  bonds = start-bonds config boot cs;
  idle = start-idle config boot cs;
  drops = refl;
  circuits = let count = length-mapped started cs in omega (arith, count, few);
  few = prefixes;
  prefixes = rises;
}

pub restart-reached : (r : Router) (boot : ℕ) → IsReached r → boot < 2 ^ 24 → IsReached (start r.config boot r.circuits)
restart-reached r boot h small = start-is r.config boot r.circuits h.speaking.sender small h.circuits h.few h.prefixes

own-rise : (xs : List (base.Prefix × ℕ)) → RisesFrom 0 (prefixes_of xs)
own-rise [] = tt
own-rise (x ∷ xs) = put-up (prefixes_of xs) (prefix_number x.0) x.1 (own-rise xs)

one-longer : (m : List (ℕ × ℕ)) (n v k : ℕ) → RisesFrom 0 m → length m ≤ k → length (put m n v) ≤ k + 1
one-longer m n v k rises h = subst (λ (j : ℕ). j ≤ k + 1) (sym (length-put m 0 n v rises)) (of (is_some (find m n)))
  where
    of : (b : Bool) → (if b then length m else length m + 1) ≤ k + 1
    of true = omega (arith, h)
    of false = omega (arith, h)

own-few : (xs : List (base.Prefix × ℕ)) → length (prefixes_of xs) ≤ length xs
own-few [] = omega arith
own-few (x ∷ xs) = let h = one-longer (prefixes_of xs) (prefix_number x.0) x.1 (length xs) (own-rise xs) (own-few xs) in omega (arith, h)

areas-fit : (areas : List (List ℕ)) → AllByRecursion IsArea areas → length (area_value areas) ≤ 14 * length areas
areas-fit [] h = omega arith
areas-fit (a ∷ areas) h =
    let rest = areas-fit areas h.1 in
    let one = h.0.fits in
    let both = length-append (area_octets a) (area_value areas) in
    omega (arith, rest, one, both)

runs-some : (l : LevelSet) → ((runs_of l).one || (runs_of l).two) ≡ true
runs-some levels.One = refl
runs-some levels.Two = refl
runs-some levels.Both = refl

pub start-reached : (config : Config) (boot : ℕ) → IsValid config → system_number config.system < 2 ^ 48 → AllByRecursion IsArea config.areas → boot < 2 ^ 24 → IsReached (start (config_of config) boot (circuits_of config))
start-reached config boot valid system areas small =
    start-is (config_of config) boot (circuits_of config)
    (record {
      system = system;
      some = runs-some config.levels;
      areas = areas;
      fits = let size = areas-fit config.areas areas in omega (arith, size, valid.areas);
    })
    small
    (let count = length-mapped circuit_of config.circuits in omega (arith, count, valid.few_circuits))
    (let size = own-few config.prefixes in omega (arith, size, valid.few_prefixes))
    (own-rise config.prefixes)

-- ---- a step

abbrev NamesEvent : Event → Type 0
NamesEvent Second = Unit {0}
NamesEvent (Take place m) = HasNames m
NamesEvent (Pull place) = Unit {0}
NamesEvent (Metric place metric) = Unit {0}
NamesEvent (Overload on) = Unit {0}
NamesEvent (Prefix prefix metric) = Unit {0}

names-after : (r : Router) (event : Event) (t : Router) (place : ℕ) → Bonds r event t place → NamesEvent event → IfSome (bond_at r place).names IsName → IfSome (bond_at t place).names IsName
names-after r event t place (Same e) told h = subst (λ (tie : Tie). IfSome tie.bond.names IsName) (sym e) h
names-after r event t place (Ends e) told h = subst (λ (tie : Tie). IfSome tie.bond.names IsName) (sym e) tt
names-after r event t place (Hears level h e minds bond boot) told old = subst (λ (b : Bond). IfSome b.names IsName) (sym bond) old
names-after r event t place (Learns h s e k minds bond) told old = subst (λ (b : Bond). IfSome b.names IsName) (sym bond) tt
names-after r event t place (Meets h s state e k n apart up minds boot met covered) told old =
    let heard : (h.source < 2 ^ 48) × IfSome h.handshake (λ s. s.extended < 2 ^ 32) = subst NamesEvent e told in
    subst (λ (b : Bond). IfSome b.names IsName) (sym met) (heard.0, from-some (λ s. s.extended < 2 ^ 32) h.handshake s k heard.1)

sender-after : (r t : Router) → t.config.system ≡ r.config.system → t.config.areas ≡ r.config.areas → t.config.runs ≡ r.config.runs → IsSender r.config → IsSender t.config
sender-after r t system areas runs s = record {
  system = subst (λ (n : ℕ). n < 2 ^ 48) (sym system) s.system;
  some = subst (λ (b : Both Bool). (b.one || b.two) ≡ true) (sym runs) s.some;
  areas = subst (λ (a : List (List ℕ)). AllByRecursion IsArea a) (sym areas) s.areas;
  fits = subst (λ (a : List (List ℕ)). length (area_value a) ≤ 255) (sym areas) s.fits;
}

pub sorted-after : (r : Router) (event : Event) → IsSorted r → IsSorted (step given r event).router
sorted-after r event sorted = record { on = λ level. course-rises _ _ _ ((step-course given r event).on level) (sorted.on level) }

pub step-holds : (r : Router) (event : Event) → IsReached r → IsGoodEvent event → TellsEvent r.config event → NamesEvent event → FitsEvent r event → IsReached (step given r event).router
step-holds r event h good tells names fits =
    let t = (step given r event).router in
    let stays = step-stays given r event in
    let keeps = step-keeps given r event fits h.few h.prefixes in
    let s = h.speaking in
    record {
      speaking = record {
        sorted = sorted-after r event s.sorted;
        good = step-good given r event (given-good leaks_of is_attached) good s.good;
        telling = step-telling given r event s.telling;
        sendable = step-sendable leaks_of is_attached r event s.good s.telling good tells s.sendable;
        sender = sender-after r t stays.system stays.areas keeps.runs s.sender;
        boot = subst (λ (n : ℕ). n < 2 ^ 24) (sym stays.boot) s.boot;
        names = λ place. names-after r event t place (step-bonds given r event place) names (s.names place);
      };
      follows = step-touch given r event h.follows;
      bonds = step-kept given r event h.bonds;
      idle = step-idle given r event h.idle;
      drops = keeps.drops ∙ h.drops;
      circuits = subst (λ (n : ℕ). n ≤ 64) (sym stays.circuits) h.circuits;
      few = keeps.few;
      prefixes = keeps.rises;
    }

-- what holds of all that is read holds of what is taken
taken-holds : (P : Message → Type 0) (r : Router) (opened : OpenedView) → ((on : Circuit) (octets : List ℕ) → Small octets → P (read r.config on octets)) → IsThere r opened.circuit → IsOpenedBy (desk_of r.config r.circuits) opened → Small opened.octets → P (message_of r.config.system opened.seen)
taken-holds P r opened f there by small = of (nth r.circuits (opened.circuit - 1)) refl
  where
    of : (o : Option Circuit) → nth r.circuits (opened.circuit - 1) ≡ o → P (message_of r.config.system opened.seen)
    of None e = absurd (not-there r.circuits (opened.circuit - 1) (omega (arith, there)) e)
    of (Some c) e =
        let number : opened.circuit - 1 + 1 ≡ opened.circuit = omega (arith, there) in
        let reads = finds-reads r.config r.circuits (opened.circuit - 1) c opened.octets e in
        let same : message_of r.config.system opened.seen ≡ read r.config c opened.octets =
        ap (λ x. message_of r.config.system x) by ∙ subst (λ (n : ℕ). message_of r.config.system (seen_at (desk_of r.config r.circuits) n opened.octets) ≡ read r.config c opened.octets) number reads in
        subst P (sym same) (f c opened.octets small)

pub step-reached : (r : Router) (event : NodeEvent) → IsReached r → Fits r event → HasOctets event → IsReached (step given r (event_of r event)).router
step-reached r event.Second h fits octets = step-holds r Second h tt tt tt tt
step-reached r (event.Take opened) h fits octets =
    step-holds r (event_of r (event.Take opened)) h
    (taken-holds (λ m. IsGoodEvent (Take (opened.circuit - 1) m)) r opened (good-read r.config) fits.0 fits.1 octets)
    (taken-holds (λ m. TellsKept r.config m) r opened (kept-tells r.config) fits.0 fits.1 octets)
    (taken-holds HasNames r opened (names-read r.config) fits.0 fits.1 octets)
    tt
step-reached r (event.Pull circuit) h fits octets = step-holds r (Pull (circuit - 1)) h tt tt tt tt
step-reached r (event.Change (change.Metric circuit metric)) h fits octets = step-holds r (Metric (circuit - 1) metric) h tt tt tt tt
step-reached r (event.Change (change.Prefix prefix metric)) h fits octets = step-holds r (Prefix (prefix_number prefix) metric) h tt tt tt fits
step-reached r (event.Change (change.Overload on)) h fits octets = step-holds r (Overload on) h tt tt tt tt

-- what routes look at stays where all that is held keeps its key and content
pub outlook-kept : (r : Router) (event : Event) → IsReached r → ((l : Level) (id : ℕ) → SameKey (cell_at (book_of r l) id) (cell_at (book_of (step given r event).router l) id)) → KeepsPrefixes event → outlook_of (step given r event).router ≡ outlook_of r
outlook-kept r event h kept keeps =
    let s = h.speaking in
    step-told given r event s.sorted (sorted-after r event s.sorted) kept keeps
