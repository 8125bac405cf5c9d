use Rattle.std.proofs.Common.{sym, ap, ◌∙◌}
use Rattle.lab_facts.specs.Sightings.{Memory}
use Rattle.lab_facts.specs.Entries.{contents_of}
use Rattle.lab_facts.proofs.SightingLemmas.{kept-some, kept-none}
use Rattle.lab_facts.proofs.history.History.look.Goals as goal

pub returns-then-is : goal.returns-then-is
returns-then-is c =
    (contents_of c.in-Some.said.now, kept-some c.self.inside.first.entries c.args.self.now.first c.args.key c.in-Some.said.now (ap (λ (m : Memory). m.first) c.self.view_is) (sym c.in-Some.ensures.value), sym c.is.ensures ∙ c.if-is.true)

pub returns-else-is : goal.returns-else-is
returns-else-is c =
    (contents_of c.in-Some.said.now, kept-some c.self.inside.first.entries c.args.self.now.first c.args.key c.in-Some.said.now (ap (λ (m : Memory). m.first) c.self.view_is) (sym c.in-Some.ensures.value), sym c.is.ensures ∙ c.if-is.false)

pub returns-in-None : goal.returns-in-None
returns-in-None c = kept-none c.self.inside.first.entries c.args.self.now.first c.args.key (ap (λ (m : Memory). m.first) c.self.view_is) (sym c.in-None.ensures.value)
