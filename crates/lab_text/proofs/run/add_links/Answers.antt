use Rattle.std.proofs.Common.{◌∙◌, take, get_or, sym, ap, arith}
use Rattle.std.proofs.lemmas.List.{take_more, length-take-le}
use Rattle.lab_keys.specs.KeysNet.{Net, with_link}
use Rattle.lab_text.specs.KeysRuns.{with_links}
use Rattle.lab_text.proofs.LayLemmas.{with_links-routers, with_links-count, with_links-push, ends-at}
use Rattle.lab_text.proofs.run.add_links.Goals as goal

pub add_link-requires-clause-room : goal.add_link-requires-clause-room
add_link-requires-clause-room c =
    let links = c.args.links.now in
    let i = c.loop-link.link-index in
    let count = ap (λ (n : Net). n.links) c.loop-link.invariant ∙ with_links-count c.args.net.now (take i links) in
    let some = length-take-le i links (omega (arith, c.loop-link-test.true)) in
    omega (arith, count, some, c.requires.first, c.requires.few, c.loop-link-test.true)

pub add_link-requires-clause-ends : goal.add_link-requires-clause-ends
add_link-requires-clause-ends c =
    let links = c.args.links.now in
    let i = c.loop-link.link-index in
    let routers = ap (λ (n : Net). n.routers) c.loop-link.invariant ∙ with_links-routers c.args.net.now (take i links) in
    let ends = ends-at c.args.net.now.routers links i (0, 0) c.requires.ends c.loop-link-test.true in
    (omega (arith, routers, ends.0), omega (arith, routers, ends.1))

pub loop-link-preserved : goal.loop-link-preserved
loop-link-preserved c =
    let links = c.args.links.now in
    let i = c.loop-link.link-index in
    c.in-Ok.ensures
    ∙ ap (λ (n : Net). with_link n (get_or links i (0, 0)).0 (get_or links i (0, 0)).1) c.loop-link.invariant
    ∙ sym (with_links-push c.args.net.now (take i links) (get_or links i (0, 0)))
    ∙ ap (with_links c.args.net.now) (sym (take_more links i (0, 0) c.loop-link-test.true))
