use Rattle.std.proofs.Common.{◌≡◌, ◌<◌, length, set, vec_len, ap, arith}
use Rattle.std.proofs.lemmas.List.{length-set}
use Rattle.lab_keys.specs.KeysNet.{Net}
use Rattle.lab_keys.proofs.NetLemmas.{AreHeld-room, AreHeld-copy}
use Rattle.lab_keys.proofs.net.KeyNet.issue.Goals as goal

pub invariant_of-self-in_err-make_room : goal.invariant_of-self-in_err-make_room
invariant_of-self-in_err-make_room c =
    let routers = ap (λ (n : Net). n.routers) c.self.view_is in
    rw c.reserve.ensures.items
    (AreHeld-room _ _ _ _ _ _ _ c.self.invariant (omega (arith, c.requires)) c.index_mut.ensures.value c.make_room.ensures.same)

pub invariant_of-self-in_err-insert : goal.invariant_of-self-in_err-insert
invariant_of-self-in_err-insert c =
    let routers = ap (λ (n : Net). n.routers) c.self.view_is in
    rw (c.reserve.ensures.items, c.in_err-insert.ensures.err)
    (AreHeld-room _ _ _ _ _ _ _ c.self.invariant (omega (arith, c.requires)) c.index_mut.ensures.value c.make_room.ensures.same)

pub invariant_of-self-2 : goal.invariant_of-self-2
invariant_of-self-2 c =
    let routers = ap (λ (n : Net). n.routers) c.self.view_is in
    let roomy = AreHeld-room _ _ _ _ _ c.make_room.new.held _ c.self.invariant (omega (arith, c.requires)) c.index_mut.ensures.value c.make_room.ensures.same in
    let length_is = c.len-copy.ensures in
    let inside : c.args.router < length (set c.self.inside.held.items c.args.router c.make_room.new.held) = omega (arith, c.requires, length-set c.self.inside.held.items c.args.router c.make_room.new.held) in
    let whole : vec_len c.self.inside.copies ≡ length c.self.inside.copies.items = omega arith in
    rw (c.push_reserved.ensures.items, c.in_ok-insert.ensures.keys, length_is, c.reserve.ensures.len, c.reserve.ensures.items, whole)
    (AreHeld-copy _ _ _ _ _ c.join_in.new.held _ _ roomy inside c.index_mut-2.ensures.value c.join_in.ensures c.lsp_id_law.ensures)
