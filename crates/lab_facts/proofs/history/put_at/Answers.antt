use Rattle.std.proofs.Common.{ℕ, List, ◌∙◌, ap, sym, subst, arith}
use Rattle.isis_base.specs.Identifiers.{lsp_number}
use Rattle.flag_sync.specs.Walks.{numbers_of}
use Rattle.purge_ageing.specs.Ids.{Rises}
use Rattle.purge_ageing.proofs.IdLemmas.{with-gap, with-rises}
use Rattle.lab_facts.proofs.history.put_at.Goals as goal

pub returns-in-Ok-clause-items : goal.returns-in-Ok-clause-items
returns-in-Ok-clause-items c = ap numbers_of c.in-Ok.ensures.items ∙ with-gap c.args.ids.now.items c.args.id c.args.place c.requires.gap

pub returns-in-Ok-clause-rises : goal.returns-in-Ok-clause-rises
returns-in-Ok-clause-rises c =
    subst (λ (ns : List ℕ). Rises 0 ns) (sym (ap numbers_of c.in-Ok.ensures.items ∙ with-gap c.args.ids.now.items c.args.id c.args.place c.requires.gap))
    (with-rises (numbers_of c.args.ids.now.items) 0 (lsp_number c.args.id) (omega arith) c.requires.rises)
