use Rattle.std.proofs.Common.{arith}
use Rattle.network_lab.proofs.PlaceLemmas.{nth-less}
use Rattle.walk_text.proofs.walking.place_of.Goals as goal

pub unreachable-requires : goal.unreachable-requires
unreachable-requires c =
    let t = c.requires in
    let less = nth-less c.args.network.now.seen.routers t.0 t.1 t.2 in
    c.loop-place.invariant t.0 t.1 (omega (arith, less, c.loop-place-test.false, c.routers-place-end.ensures)) t.2 t.3
