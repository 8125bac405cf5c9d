use Rattle.std.proofs.Common.{ap, arith, inl, inr, length}
use Rattle.std.specs.Prelude.{vec_len}
use Rattle.lsp_store.proofs.EditLemmas.{is-page}
use Rattle.lsp_store.proofs.RoomLemmas.{strain-full, is-some, is-some-first}
use Rattle.lsp_store.proofs.edits.put_new.Goals as goal

pub take_page-requires-2-clause-some : goal.take_page-requires-2-clause-some
take_page-requires-2-clause-some g c =
    elim c.requires.at [
      | inl none ↦ is-some-first c.args.pages.now.items (vec_len c.args.pool.now) c.requires.some.0 none c.requires.some.1
      | inr h ↦
          let same = ap length (is-page c.args.pages.now.items c.args.at.0 c.index.result.now h.home.inside c.index.ensures) in
          let few = c.len.ensures.few in
          let len = c.len.ensures.same in
          let full = c.if-len-lt-PAGE_PAIRS.false in
          is-some c.args.pages.now.items (vec_len c.args.pool.now) c.requires.some.0 (strain-full c.args.pages.now.items c.args.at.0 c.requires.filled h.home.inside (omega (arith, same, few, len, full))) c.requires.some.1
    ]
