use Rattle.std.proofs.Common.{length, ap, ◌∙◌, arith}
use Rattle.std.proofs.lemmas.List.Edits.{length-insert}
use Rattle.lsp_store.proofs.RoomLemmas.{strain-set}
use Rattle.lsp_store.proofs.EditLemmas.{is-page, gap-put, gap-filled}
use Rattle.lsp_store.proofs.DenseLemmas.{dense-set}
use Rattle.lsp_store.proofs.edits.put_inside.Goals as goal

pub returns-clause-all : goal.returns-clause-all
returns-clause-all g c = gap-put c.args.pages.now.items c.args.id c.args.at c.requires.at c.index_mut.result.now c.index_mut.ensures.value c.args.value c.insert.new.self c.insert.ensures

pub returns-clause-filled : goal.returns-clause-filled
returns-clause-filled g c = gap-filled c.args.pages.now.items c.args.id c.args.at c.requires.at c.index_mut.result.now c.index_mut.ensures.value c.args.value c.insert.new.self c.insert.ensures c.requires.filled c.requires.room

pub returns-clause-strain : goal.returns-clause-strain
returns-clause-strain g c =
    let same = ap length (is-page c.args.pages.now.items c.args.at.0 c.index_mut.result.now c.requires.at.home.inside c.index_mut.ensures.value) in
    let bound = c.requires.at.bound in
    let len = ap length c.insert.ensures ∙ length-insert c.index_mut.result.now c.args.at.1 (c.args.id, c.args.value) (omega (arith, same, bound)) in
    strain-set c.args.pages.now.items c.args.at.0 1 c.insert.new.self c.requires.at.home.inside (omega (arith, same, len))

pub returns-clause-dense : goal.returns-clause-dense
returns-clause-dense g c =
    let same = ap length (is-page c.args.pages.now.items c.args.at.0 c.index_mut.result.now c.requires.at.home.inside c.index_mut.ensures.value) in
    let bound = c.requires.at.bound in
    let len = ap length c.insert.ensures ∙ length-insert c.index_mut.result.now c.args.at.1 (c.args.id, c.args.value) (omega (arith, same, bound)) in
    dense-set c.args.pages.now.items c.args.at.0 c.insert.new.self c.requires.at.home.inside (omega (arith, same, len)) c.requires.dense
