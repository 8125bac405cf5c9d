use Rattle.std.proofs.Common.{◌∙◌, ap}
use Rattle.flag_sync.specs.Walks.{numbers_of}
use Rattle.purge_ageing.proofs.IdLemmas.{with-gap}
use Rattle.purge_ageing.proofs.ids.put_at.Goals as goal

pub returns-clause-items : goal.returns-clause-items
returns-clause-items c =
    let items = rw c.unwrap.ensures at c.insert.ensures.items in
    ap numbers_of items ∙ with-gap c.args.ids.now.items c.args.id c.args.place c.requires.gap
