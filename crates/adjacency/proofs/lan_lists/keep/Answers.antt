use Rattle.std.proofs.Common.{◌∙◌, sym, arith}
use Rattle.adjacency.proofs.LanLemmas.{up-rises, put-few, up-few, lan-kept, is_lan-kept, found-boot, found-up}
use Rattle.adjacency.proofs.lan_lists.keep.Goals as goal

pub place_of-up_place-requires : goal.place_of-up_place-requires
place_of-up_place-requires c =
    rw c.deref-2.ensures.value (up-rises c.args.heard.now.items c.args.up.now.items _ _ c.requires.lan)

pub put_at-requires-clause-room : goal.put_at-requires-clause-room
put_at-requires-clause-room c =
    let few = put-few c.args.heard.now.items c.args.up.now.items _ _ c.requires.lan c.args.neighbour c.args.is_up c.requires.room in
    let room = c.requires.lan.room in
    omega (arith, few, room)

pub put_or_take_out-requires-clause-room : goal.put_or_take_out-requires-clause-room
put_or_take_out-requires-clause-room c =
    let few = up-few c.args.heard.now.items c.args.up.now.items _ _ c.requires.lan c.args.neighbour c.args.is_up c.requires.room in
    let room = c.requires.lan.up_room in
    omega (arith, few, room)

pub returns-clause-lan : goal.returns-clause-lan
returns-clause-lan c =
    is_lan-kept c.args.heard.now.items c.args.up.now.items _ _ c.requires.lan c.args.neighbour c.args.is_up _ _ c.put_at.ensures.items c.put_or_take_out.ensures.items _ _ c.put_at.ensures.room c.put_or_take_out.ensures.room c.requires.system c.requires.room

pub returns-clause-kept : goal.returns-clause-kept
returns-clause-kept c =
    lan-kept c.args.heard.now.items c.args.up.now.items _ _ c.requires.lan c.args.neighbour c.args.is_up _ _ c.put_at.ensures.items c.put_or_take_out.ensures.items

pub returns-clause-change : goal.returns-clause-change
returns-clause-change c =
    c.change.ensures _ c.args.neighbour.boot
    ((rw c.deref.ensures.value at c.is_in_boot-same_boot.ensures) ∙ sym (found-boot c.args.heard.now.items c.args.up.now.items _ _ c.requires.lan _ c.args.neighbour.boot))
    (c.is_ok.ensures.value ∙ found-up c.args.heard.now.items c.args.up.now.items _ _ c.requires.lan _ c.place_of-up_place.result (rw c.deref-2.ensures.value at c.place_of-up_place.ensures))
