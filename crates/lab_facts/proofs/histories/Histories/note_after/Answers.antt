use Rattle.std.proofs.Common.{[], ◌∷◌, List, sym, ap, ◌∙◌, subst}
use Rattle.model_router.specs.Routers.{Router}
use Rattle.lab_facts.specs.Seen.{AreEnough}
use Rattle.lab_facts.specs.Entries.{Keep, past_after}
use Rattle.lab_facts.proofs.SightingLemmas.{past-end}
use Rattle.lab_facts.proofs.histories.Histories.note_after.Goals as goal

pub invariant_of-self-2 : goal.invariant_of-self-2
invariant_of-self-2 g c =
    subst (λ (rs : List Router). Keep c.note_levels.new.one c.note_levels.new.two rs)
    (sym (ap (λ (xs : List Router). past_after xs []) c.push.ensures.items ∙ past-end c.self.inside.past.items _ []))
    (subst (λ (r : Router). Keep c.note_levels.new.one c.note_levels.new.two (r ∷ past_after c.self.inside.past.items [])) (sym c.parts.ensures)
    (c.in-Ok.ensures _ (subst (λ (past : List Router). AreEnough c.args.levels past c.args.router.now) (sym c.self.view_is) c.requires) c.self.invariant))

pub returns-clause-ok : goal.returns-clause-ok
returns-clause-ok g c =
    ap (λ (xs : List Router). past_after xs []) c.push.ensures.items ∙ past-end c.self.inside.past.items _ []
    ∙ ap (λ (r : Router). r ∷ past_after c.self.inside.past.items []) c.parts.ensures
    ∙ ap (λ (rs : List Router). c.args.router.now ∷ rs) c.self.view_is
