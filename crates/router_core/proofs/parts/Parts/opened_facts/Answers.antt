use Rattle.std.proofs.Common.{◌≡◌, ℕ, ◌+◌, ◌-◌, ◌<◌, List, Result, sym, ◌∙◌, subst, arith}
use Rattle.std.specs.List.{AllByRecursion}
use Rattle.model_router.specs.Events.{Message}
use Rattle.model_router.specs.Good.{IsGoodMessage}
use Rattle.model_router.specs.Places.{nth}
use Rattle.router_desk.specs.declared.cause.DropCause.{DropCause}
use Rattle.router_desk.specs.Desks.{desk_of}
use Rattle.router_desk.specs.Opening.{SeenView, message_of, seen_at}
use Rattle.router_core.specs.Machines.{FitsKind}
use Rattle.router_core.proofs.IdleLemmas.{each-some}
use Rattle.router_core.proofs.OpenLemmas.{seen-kind, there}
use Rattle.router_core.proofs.parts.Parts.opened_facts.Goals as goal

-- src/read.rt
pub returns-clause-good : goal.returns-clause-good
returns-clause-good c =
    let r = c.args.self.now in
    let o = c.args.opened.now in
    let place = o.circuit - 1 in
    let is = there r.circuits place (omega (arith, c.requires.there)) in
    let number : place + 1 ≡ o.circuit = omega (arith, c.requires.there) in
    let small : AllByRecursion (λ (octet : ℕ). octet < 256) o.octets = subst (λ (octets : List ℕ). AllByRecursion (λ (octet : ℕ). octet < 256) octets) c.octets.ensures c.octets_law.ensures in
    subst (λ (seen : Result SeenView DropCause). IsGoodMessage (message_of r.config.system seen)) (sym c.requires.opened)
    (subst (λ (n : ℕ). IsGoodMessage (message_of r.config.system (seen_at (desk_of r.config r.circuits) n o.octets))) number
    (subst (λ (m : Message). IsGoodMessage m) (sym (c.reading_law.ensures r.config r.circuits place is.0 o.octets is.1))
    (c.good_law.ensures r.config is.0 o.octets small)))

-- src/read.rt
pub returns-clause-kind : goal.returns-clause-kind
returns-clause-kind c =
    let r = c.args.self.now in
    let o = c.args.opened.now in
    each-some (nth r.circuits (o.circuit - 1)) (λ x. FitsKind x (message_of r.config.system o.seen))
    (λ x e. seen-kind r.config r.circuits o.circuit r.config.system x o.seen e
    (λ s is. c.passed_law.ensures (desk_of r.config r.circuits) o.circuit o.octets s (sym c.requires.opened ∙ is)))
