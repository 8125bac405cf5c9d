use Rattle.std.proofs.Common.{refl}
use Rattle.std.proofs.lemmas.Result.{IfOk-weaker}
use Rattle.router_routes.specs.Outlooks.{outlook_in}
use Rattle.router_routes.proofs.PutLemmas.{put-moved-in}
use Rattle.router_routes.proofs.following.Following.ahead.Goals as goal

pub returns-clause-fits : goal.returns-clause-fits
returns-clause-fits c = c.after.ensures.fits

pub returns-clause-moves : goal.returns-clause-moves
returns-clause-moves c =
    IfOk-weaker c.after.result _ _ (λ next f. λ o is. f o (c.told_by-told.ensures.moved (outlook_in c.args.lent.now) o c.args.id.node refl
    (put-moved-in (outlook_in c.args.lent.now) o c.args.level c.args.id c.args.entry.now c.store_in-store.result.now.entries _ c.node_with.ensures is (c.store_in-store.ensures is.run) c.lsp_id_law.ensures c.len-entries.ensures.ids c.len-entries.ensures.rises))) c.after.ensures.moves
