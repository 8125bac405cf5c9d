use Rattle.std.proofs.Common.{[], ◌∷◌, List, sym, ap, ◌∙◌, subst}
use Rattle.isis_base.specs.Identifiers.{lsp_number}
use Rattle.model_network.specs.Networks.{Taking}
use Rattle.lab_facts.specs.declared.sweeps.Taken.{Taken}
use Rattle.lab_facts.specs.Sweeps.{taking_at}
use Rattle.lab_facts.specs.Keeping.{IsKept, taken_after}
use Rattle.lab_facts.proofs.SweepLemmas.{taken-end}
use Rattle.lab_facts.proofs.sweeps.Sweeps.take.Goals as goal

pub invariant_of-self-2 : goal.invariant_of-self-2
invariant_of-self-2 c =
    subst (λ (ts : List Taking). IsKept c.add_range.new.streaks ts)
    (sym (ap (λ (xs : List Taken). taken_after xs []) c.push.ensures.items ∙ taken-end c.self.inside.taken.items _ []))
    (c.in-Ok.ensures.ok _ c.self.invariant)

pub returns-clause-ok : goal.returns-clause-ok
returns-clause-ok c =
    ap (λ (xs : List Taken). taken_after xs []) c.push.ensures.items ∙ taken-end c.self.inside.taken.items _ []
    ∙ ap (λ (ts : List Taking). taking_at c.args.key (lsp_number c.args.first) (lsp_number c.args.last) ∷ ts) c.self.view_is
