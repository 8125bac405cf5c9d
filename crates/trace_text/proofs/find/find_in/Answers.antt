use Rattle.std.proofs.Common.{◌≡◌, ◌∙◌, ℕ, ◌<◌, List, map, length, sym, ap, subst}
use Rattle.model_router.specs.Routers.{Router}
use Rattle.route_table.specs.Ranks.{prefix_number}
use Rattle.trace_core.specs.Traces.{IsTraced, by}
use Rattle.trace_core.specs.Whichever.{AreOutcomes}
use Rattle.packet_trace.specs.declared.forwarder.Forwarder.{Forwarder}
use Rattle.packet_trace.specs.Steps.{step_at, steps_at}
use Rattle.trace_text.specs.Forwarders.{AreForwarders, forwarder_of}
use Rattle.walk_text.specs.Paths.{IsWalked}
use Rattle.trace_text.proofs.ForwarderLemmas.{as-many}
use Rattle.trace_text.proofs.WalkLemmas.{as-walked}
use Rattle.trace_text.proofs.find.find_in.Goals as goal

pub follow-requires : goal.follow-requires
follow-requires c =
    subst (λ (n : ℕ). c.args.from < n)
    (as-many c.args.net.now.seen.routers c.in-Ok.forwarders.items c.in-Ok.ensures ∙ ap (λ (fs : List Forwarder). length fs) (sym c.as_slice.ensures.value)) c.requires

pub outcomes-requires : goal.outcomes-requires
outcomes-requires c =
    subst (λ (n : ℕ). c.args.from < n)
    (as-many c.args.net.now.seen.routers c.in-Ok.forwarders.items c.in-Ok.ensures ∙ ap (λ (fs : List Forwarder). length fs) (sym c.as_slice-2.ensures.value)) c.requires

pub returns-in-Ok-outcomes : goal.returns-in-Ok-outcomes
returns-in-Ok-outcomes c =
    let routers : List Router = c.args.net.now.seen.routers in
    let fs : List Forwarder = c.in-Ok.forwarders.items in
    let traced : IsTraced (by (step_at fs c.args.address)) c.args.from c.in-Ok-follow.traced =
    subst (λ (gs : List Forwarder). IsTraced (by (step_at gs c.args.address)) c.args.from c.in-Ok-follow.traced) c.as_slice.ensures.value c.in-Ok-follow.ensures in
    let outcomes : AreOutcomes (steps_at fs c.args.address) c.args.from c.in-Ok-outcomes.outcomes =
    subst (λ (gs : List Forwarder). AreOutcomes (steps_at gs c.args.address) c.args.from c.in-Ok-outcomes.outcomes) c.as_slice-2.ensures.value c.in-Ok-outcomes.ensures in
    record {
      forwarders_are = c.in-Ok.ensures;
      traced_is = traced;
      outcomes_are = outcomes;
      walks = λ prefix walked w looked.
          let looks = w.looks in
          let is : IsWalked looks c.args.from (prefix_number prefix) walked = w.holds looks w.are in
          let same : fs ≡ map forwarder_of looks =
          c.forwarders_laws.ensures.one routers fs (map forwarder_of looks) c.in-Ok.ensures
          (subst (λ (rs : List Router). AreForwarders rs (map forwarder_of looks)) w.are.routers_are (c.forwarders_laws.ensures.looks looks w.are.routes_are)) in
          as-walked c.trace_law.ensures c.whichever_law.ensures c.routes_laws.ensures.longest looks c.args.from c.args.address prefix walked is (c.alike_facts.ensures.alike looks w.are is.tested) (λ p q a b. c.alike_facts.ensures.apart looks p q a b w.are)
          (record { forwarders = c.in-Ok.forwarders; traced = c.in-Ok-follow.traced; outcomes = c.in-Ok-outcomes.outcomes }) same traced outcomes looked;
    }
