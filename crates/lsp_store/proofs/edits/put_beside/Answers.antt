use Rattle.std.proofs.Common.{◌<◌, [], List, length, sym, subst, ap, ◌∙◌, set, arith, inl}
use Rattle.lsp_store.specs.Maps.{RisesFrom, put}
use Rattle.lsp_store.specs.Places.{flatten}
use Rattle.lsp_store.proofs.RoomLemmas.{strain-set}
use Rattle.lsp_store.proofs.PageLemmas.{page-rises, put-home}
use Rattle.lsp_store.proofs.EditLemmas.{is-page, put-filled, put-bound}
use Rattle.lsp_store.proofs.EditLemmas.{put-grows}
use Rattle.lsp_store.proofs.DenseLemmas.{dense-set}
use Rattle.lsp_store.proofs.edits.put_beside.Goals as goal

pub put-requires-clause-rises : goal.put-requires-clause-rises
put-requires-clause-rises g c =
    let half = c.split_page-half in
    let up = subst (RisesFrom 0) (sym half.ensures.all) c.requires.rises in
    subst (RisesFrom 0) (sym (is-page half.new.pages.items half.result c.index_mut.result.now half.ensures.home.inside c.index_mut.ensures.value)) (page-rises half.new.pages.items half.result [] up half.ensures.home.inside)

pub put-requires-clause-room : goal.put-requires-clause-room
put-requires-clause-room g c =
    let half = c.split_page-half in
    inl (subst (λ (p : List _). length p < 64) (sym (is-page half.new.pages.items half.result c.index_mut.result.now half.ensures.home.inside c.index_mut.ensures.value)) half.ensures.room)

pub returns-clause-all : goal.returns-clause-all
returns-clause-all g c =
    let half = c.split_page-half in
    let home = rw c.to_number.ensures at half.ensures.home in
    ap (λ (p : List _). flatten (set half.new.pages.items half.result p)) (c.put.ensures.new ∙ ap (λ (p : List _). put p c.args.id c.args.value) c.index_mut.ensures.value)
    ∙ sym (put-home half.new.pages.items c.args.id c.args.value half.result c.index_mut.result.now home)
    ∙ ap (λ (p : List _). put p c.args.id c.args.value) half.ensures.all

pub returns-clause-filled : goal.returns-clause-filled
returns-clause-filled g c =
    let half = c.split_page-half in
    let up = subst (RisesFrom 0) (sym half.ensures.all) c.requires.rises in
    let rises = subst (RisesFrom 0) (sym (is-page half.new.pages.items half.result c.index_mut.result.now half.ensures.home.inside c.index_mut.ensures.value)) (page-rises half.new.pages.items half.result [] up half.ensures.home.inside) in
    put-filled half.new.pages.items half.result c.args.id c.args.value c.index_mut.result.now c.put.new.self half.ensures.filled half.ensures.home.inside c.index_mut.ensures.value half.ensures.room rises c.put.ensures.new

pub returns-clause-strain : goal.returns-clause-strain
returns-clause-strain g c =
    let half = c.split_page-half in
    let up = subst (RisesFrom 0) (sym half.ensures.all) c.requires.rises in
    let read = is-page half.new.pages.items half.result c.index_mut.result.now half.ensures.home.inside c.index_mut.ensures.value in
    let rises = subst (RisesFrom 0) (sym read) (page-rises half.new.pages.items half.result [] up half.ensures.home.inside) in
    let len = put-bound c.args.id c.args.value c.index_mut.result.now c.put.new.self rises c.put.ensures.new in
    let same = ap length read in
    let le = strain-set half.new.pages.items half.result 1 c.put.new.self half.ensures.home.inside (omega (arith, same, len)) in
    let less = half.ensures.strain in
    omega (arith, le, less)

pub returns-clause-dense : goal.returns-clause-dense
returns-clause-dense g c =
    let half = c.split_page-half in
    let up = subst (RisesFrom 0) (sym half.ensures.all) c.requires.rises in
    let page = is-page half.new.pages.items half.result c.index_mut.result.now half.ensures.home.inside c.index_mut.ensures.value in
    let rises = subst (RisesFrom 0) (sym page) (page-rises half.new.pages.items half.result [] up half.ensures.home.inside) in
    let grows = put-grows c.args.id c.args.value c.index_mut.result.now c.put.new.self rises c.put.ensures.new in
    let same = ap length page in
    dense-set half.new.pages.items half.result c.put.new.self half.ensures.home.inside (omega (arith, grows, same)) half.ensures.dense
