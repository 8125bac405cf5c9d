use Rattle.lsp_fragments.proofs.by_id.place_of.Goals as goal

pub returns : goal.returns
returns c = rw c.to_number.ensures at c.place_of.ensures
