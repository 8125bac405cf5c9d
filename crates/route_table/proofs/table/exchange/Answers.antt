use Rattle.std.proofs.Common.{vec_capacity, sym, subst, arith}
use Rattle.route_table.specs.Patches.{Fits, PatchesOf, coming}
use Rattle.route_table.proofs.RoomLemmas.{fits-none, still-room}
use Rattle.route_table.proofs.table.exchange.Goals as goal

pub returns-in-None-clause-room : goal.returns-in-None-clause-room
returns-in-None-clause-room c =
    let old = c.args.routes.now.items in
    let list = c.patches.inside.list.items in
    let after = c.put_all-in-None in
    let fits = fits-none old list (λ r. vec_capacity r) c.patches.inside.room (subst (λ (p : PatchesOf). Fits old p) (sym c.patches.view_is) c.requires.fits) c.in-None.is in
    still-room old after.new.routes.items (coming old list) _ _ c.requires.room fits
    (omega (arith, after.ensures.few, c.args.routes.now.ok.0, after.new.routes.ok.0))
    after.ensures.room
    after.ensures.patched.rising
