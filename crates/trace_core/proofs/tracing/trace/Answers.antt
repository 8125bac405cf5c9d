use Rattle.std.proofs.Common.{◌≤◌, ◌∙◌, ℕ, List, length, ap, sym, subst}
use Rattle.trace_core.specs.Traces.{IsNew}
use Rattle.trace_core.proofs.WayLemmas.{IsFollowed, goes, room, stands, less-left, longer}
use Rattle.trace_core.proofs.tracing.trace.Goals as goal

pub onward-requires : goal.onward-requires
onward-requires g c = stands (g.P.Places.is c.args.among.now) (g.P.Places.many c.args.among.now) c.args.from c.loop-fault.places.items c.loop-fault.place c.loop-fault.invariant

pub loop-fault-smaller : goal.loop-fault-smaller
loop-fault-smaller g c =
    let e = ap length c.in-Ok.ensures.items ∙ longer c.loop-fault.places.items c.loop-fault.place in
    let r = room (g.P.Places.is c.args.among.now) (g.P.Places.many c.args.among.now) c.args.from c.loop-fault.places.items c.loop-fault.place c.loop-fault.invariant in
    less-left (g.P.Places.many c.args.among.now) (length c.loop-fault.places.items) (length c.push.new.self.items) e (subst (λ (xs : List ℕ). length xs ≤ g.P.Places.many c.args.among.now) (sym c.in-Ok.ensures.items) r)

pub loop-fault-preserved : goal.loop-fault-preserved
loop-fault-preserved g c =
    let new = subst (λ (xs : List ℕ). IsNew (g.P.Places.is c.args.among.now) (g.P.Places.many c.args.among.now) xs c.loop-fault.place c.in-Ok-onward.next) (c.as_slice.ensures.value ∙ c.in-Ok.ensures.items) c.in-Ok-onward.ensures in
    subst (λ (xs : List ℕ). IsFollowed (g.P.Places.is c.args.among.now) (g.P.Places.many c.args.among.now) c.args.from xs c.in-Ok-onward.next) (sym c.in-Ok.ensures.items)
    (goes (g.P.Places.is c.args.among.now) (g.P.Places.many c.args.among.now) c.args.from c.loop-fault.places.items c.loop-fault.place c.in-Ok-onward.next c.loop-fault.invariant new)
