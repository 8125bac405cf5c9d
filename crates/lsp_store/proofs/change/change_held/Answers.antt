use Rattle.std.proofs.Common.{arith}
use Rattle.lsp_store.proofs.RoomLemmas.{strain-set}
use Rattle.lsp_store.proofs.ChangeLemmas.{change-flat, change-length, change-filled}
use Rattle.lsp_store.proofs.DenseLemmas.{dense-set}
use Rattle.lsp_store.proofs.change.change_held.Goals as goal

pub returns-clause-all : goal.returns-clause-all
returns-clause-all g c = change-flat (g.C.Change.changed c.args.change.now) c.args.pages.now.items c.args.n c.args.at c.requires.at c.index_mut.result.now c.change.new.self c.index_mut.ensures.value c.change.ensures

pub returns-clause-strain : goal.returns-clause-strain
returns-clause-strain g c =
    let len = change-length (g.C.Change.changed c.args.change.now) c.args.pages.now.items c.args.n c.args.at c.requires.at c.index_mut.result.now c.change.new.self c.index_mut.ensures.value c.change.ensures in
    let le = strain-set c.args.pages.now.items c.args.at.0 0 c.change.new.self c.requires.at.home.inside (omega (arith, len)) in
    omega (arith, le)

pub returns-clause-filled : goal.returns-clause-filled
returns-clause-filled g c = change-filled (g.C.Change.changed c.args.change.now) c.args.pages.now.items c.args.n c.args.at c.requires.at c.index_mut.result.now c.change.new.self c.index_mut.ensures.value c.change.ensures c.requires.filled

pub returns-clause-dense : goal.returns-clause-dense
returns-clause-dense g c =
    let len = change-length (g.C.Change.changed c.args.change.now) c.args.pages.now.items c.args.n c.args.at c.requires.at c.index_mut.result.now c.change.new.self c.index_mut.ensures.value c.change.ensures in
    dense-set c.args.pages.now.items c.args.at.0 c.change.new.self c.requires.at.home.inside (omega (arith, len)) c.requires.dense
