use Rattle.std.proofs.Common.{◌≡◌, ℕ, ◌-◌, true, get_or, sym, subst}
use Rattle.model_router.specs.Places.{nth}
use Rattle.journal_text.specs.declared.entry.WovenEvent.{WovenEvent}
use Rattle.weave_model.specs.Faults.{fits}
use Rattle.weave_model.specs.Weavings.{Pulls, IsDeed}
use Rattle.weave_replay.specs.Entries.{deed_of}
use Rattle.weave_replay.proofs.PlaceLemmas.{within}
use Rattle.weave.proofs.ItemLemmas.{some-if}
use Rattle.weave.proofs.EventLemmas.{on-port, link-there, change-fits, pull-event}
use Rattle.weave.proofs.playing.event_for.Goals as goal

pub returns-in-Pull-clause-there : goal.returns-in-Pull-clause-there
returns-in-Pull-clause-there c =
    let a = c.args.network.now.seen in
    let fit = subst (λ (e : WovenEvent). fits c.requires.r (deed_of e) ≡ true) c.in-Pull.is c.requires.good.fitting in (
      within a.routers c.args.router c.requires.r c.requires.at,
      link-there a.links c.args.router (c.from.result - 1) (get_or c.ports.result.now (c.from.result - 1) 0)
          (on-port a c.args.router _ c.from.result c.requires.r c.ports.result.now c.requires.at fit c.ports.ensures.size c.ports.ensures.on c.from.ensures),
    )

pub returns-in-Pull-clause-event : goal.returns-in-Pull-clause-event
returns-in-Pull-clause-event c net h stands is same =
    let a = c.args.network.now.seen in
    let fit = subst (λ (e : WovenEvent). fits c.requires.r (deed_of e) ≡ true) c.in-Pull.is c.requires.good.fitting in
    pull-event c.args.network.now net c.args.router (c.from.result - 1) (get_or c.ports.result.now (c.from.result - 1) 0) h stands c.facts.ensures.wired
    (on-port a c.args.router _ c.from.result c.requires.r c.ports.result.now c.requires.at fit c.ports.ensures.size c.ports.ensures.on c.from.ensures)
    (subst (λ (k : ℕ). Pulls net c.args.router (k - 1) h) (sym c.from.ensures) (subst (λ (e : WovenEvent). IsDeed net c.args.router (deed_of e) h) c.in-Pull.is is))

pub returns-in-Change-clause-there : goal.returns-in-Change-clause-there
returns-in-Change-clause-there c = (
  within c.args.network.now.seen.routers c.args.router c.requires.r c.requires.at,
  some-if _ (nth c.args.network.now.seen.routers c.args.router) c.requires.r
      (change-fits c.requires.r _ (subst (λ (e : WovenEvent). fits c.requires.r (deed_of e) ≡ true) c.in-Change.is c.requires.good.fitting)) c.requires.at,
)
