use Rattle.std.proofs.Common.{length, ap, ◌∙◌, length-set, arith}
use Rattle.lsp_store.proofs.RoomLemmas.{strain-set}
use Rattle.lsp_store.proofs.EditLemmas.{is-page, held-value, held-put, held-filled}
use Rattle.lsp_store.proofs.DenseLemmas.{dense-set}
use Rattle.lsp_store.proofs.edits.put_held.Goals as goal

pub returns-clause-old : goal.returns-clause-old
returns-clause-old g c = held-value c.args.pages.now.items _ c.args.at c.requires.at c.index_mut.result.now c.index_mut.ensures.value c.args.id c.replace.result c.replace.ensures.old

pub returns-clause-all : goal.returns-clause-all
returns-clause-all g c = held-put c.args.pages.now.items c.args.id c.args.at c.requires.at c.index_mut.result.now c.index_mut.ensures.value c.args.value c.replace.new.self c.replace.ensures.new

pub returns-clause-filled : goal.returns-clause-filled
returns-clause-filled g c = held-filled c.args.pages.now.items c.args.id c.args.at c.requires.at c.index_mut.result.now c.index_mut.ensures.value c.args.value c.replace.new.self c.replace.ensures.new c.requires.filled

pub returns-clause-strain : goal.returns-clause-strain
returns-clause-strain g c =
    let same = ap length (is-page c.args.pages.now.items c.args.at.0 c.index_mut.result.now c.requires.at.home.inside c.index_mut.ensures.value) in
    let len = ap length c.replace.ensures.new ∙ length-set c.index_mut.result.now c.args.at.1 (c.args.id, c.args.value) in
    let le = strain-set c.args.pages.now.items c.args.at.0 0 c.replace.new.self c.requires.at.home.inside (omega (arith, same, len)) in
    omega (arith, le)

pub returns-clause-dense : goal.returns-clause-dense
returns-clause-dense g c =
    let same = ap length (is-page c.args.pages.now.items c.args.at.0 c.index_mut.result.now c.requires.at.home.inside c.index_mut.ensures.value) in
    let len = ap length c.replace.ensures.new ∙ length-set c.index_mut.result.now c.args.at.1 (c.args.id, c.args.value) in
    dense-set c.args.pages.now.items c.args.at.0 c.replace.new.self c.requires.at.home.inside (omega (arith, same, len)) c.requires.dense
