use Rattle.std.proofs.Common.{map}
use Rattle.std.proofs.lemmas.Result.{on_ok_weaker}
use Rattle.model_router.specs.OwnLsps.{look_all}
use Rattle.router_wanted.specs.Views.{wanted_of}
use Rattle.router_core.specs.Givens.{given}
use Rattle.router_core.specs.Renewals.{sight_of, staying}
use Rattle.router_core.proofs.RenewalLemmas.{renewed-aside}
use Rattle.router_core.proofs.parts.Parts.tell_renewed.Goals as goal

-- src/renewing.rt
pub returns-in-Ok : goal.returns-in-Ok
returns-in-Ok c =
    let r = c.args.self.now in
    let l = c.args.level in
    let held = c.args.store.now.entries in
    let wants = map wanted_of c.args.wanted.now in
    on_ok_weaker c.tell_withdrawn.result
    (λ told s shown ahead.
    renewed-aside r l held c.args.later.now.issued (staying held) c.tell_looked.new.movers.nodes.items c.tell_withdrawn.new.movers.nodes.items c.tell_looked.new.movers.aside.entries c.tell_withdrawn.new.movers.aside.entries s wants ahead.foreseen
    (c.in-Ok.ensures s shown ahead) (λ a. told r l (sight_of (look_all given r l s wants).book) shown a))
    c.tell_withdrawn.ensures
