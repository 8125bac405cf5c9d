use Rattle.std.proofs.Common.{List, subst, arith}
use Rattle.route_table.specs.declared.route.Route.{Route}
use Rattle.route_table.specs.Putting.{IsFree, IsHeld, IsPutIn}
use Rattle.std.specs.Prelude.{Some}
use Rattle.std.proofs.Common.{sym}
use Rattle.route_table.proofs.PutLemmas.{set-in, insert-in}
use Rattle.route_table.proofs.RoomLemmas.{more-free}
use Rattle.route_table.proofs.putting.put_route.Goals as goal

pub returns-then-is_held-clause-put : goal.returns-then-is_held-clause-put
returns-then-is_held-clause-put c =
    let held = subst (λ (list : List Route). IsHeld list c.args.wanted c.args.place) c.as_slice.ensures.value c.if-is_held.ensures in
    set-in c.args.routes.now.items c.args.wanted c.args.place c.requires.old c.requires.at held.0 held.1 c.args.route c.requires.own

pub returns-clause-put : goal.returns-clause-put
returns-clause-put c =
    let free = subst (λ (list : List Route). IsFree list c.args.wanted) c.as_slice.ensures.value c.if-is_held.ensures in
    let items = rw c.unwrap.ensures at c.insert.ensures.items in
    subst (λ (list : List Route). IsPutIn c.args.routes.now.items c.args.wanted (Some c.args.route) list) (sym items)
    (insert-in c.args.routes.now.items c.args.wanted c.args.place c.requires.old c.requires.at free c.args.route c.requires.own)

pub unwrap-requires : goal.unwrap-requires
unwrap-requires c =
    let free = subst (λ (list : List Route). IsFree list c.args.wanted) c.as_slice.ensures.value c.if-is_held.ensures in
    c.insert.ensures.succeeds (omega (arith, c.requires.room, more-free c.args.routes.now.items c.args.wanted c.args.route free))

pub returns-clause-few : goal.returns-clause-few
returns-clause-few c =
    let free = subst (λ (list : List Route). IsFree list c.args.wanted) c.as_slice.ensures.value c.if-is_held.ensures in
    let len = rw c.unwrap.ensures at c.insert.ensures.len in
    omega (arith, len, more-free c.args.routes.now.items c.args.wanted c.args.route free)
