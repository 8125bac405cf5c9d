use Rattle.std.proofs.Common.{refl, arith}
use Rattle.std.proofs.lemmas.List.Elements.{Contains-get_or}
use Rattle.spf_tree.proofs.SearchLemmas.{no_row}
use Rattle.spf_tree.proofs.PlaceLemmas.{edges_first, edges_last, edges_push}
use Rattle.spf_tree.proofs.edges.edges_of.Goals as goal

pub find-found-requires-clause-end : goal.find-found-requires-clause-end
find-found-requires-clause-end c = let in' = c.loop-place-test.true in c.requires.ends _ (Contains-get_or c.args.rows.now c.loop-place.place no_row (omega arith))

pub loop-place-init : goal.loop-place-init
loop-place-init c =
    edges_first c.args.nodes.now c.args.old.now c.args.rows.now c.args.known.now c.in-Ok.edges.items c.extend_from_slice.new.self.items c.args.same c.requires.same c.requires.known c.in-Ok.ensures.items c.in-Ok-extend_from_slice.ensures.items

pub loop-place-preserved : goal.loop-place-preserved
loop-place-preserved c =
    let in' = c.loop-place-test.true in
    edges_push c.args.nodes.now c.args.rows.now c.loop-place.edges.items c.push.new.self.items (record { place = c.find-found.result.place; metric = _ }) c.loop-place.place no_row (omega arith) c.in-Ok-push.ensures.items c.loop-place.invariant
    (record { within = c.find-found.ensures.within; node = c.find-found.ensures.node; metric = refl })

pub returns-in-Ok-extend_from_slice-2 : goal.returns-in-Ok-extend_from_slice-2
returns-in-Ok-extend_from_slice-2 c =
    let past = c.loop-place-test.false in
    let auto = c.loop-place.auto.place-end in
    let within = c.requires.same.within in
    edges_last c.args.nodes.now c.args.old.now c.args.rows.now c.args.known.now c.loop-place.edges.items c.extend_from_slice-2.new.self.items c.args.same c.loop-place.place c.requires.same c.requires.known (omega arith) c.loop-place.invariant
    c.in-Ok-extend_from_slice-2.ensures.items
