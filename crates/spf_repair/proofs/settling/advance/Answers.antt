use Rattle.std.proofs.Common.{refl}
use Rattle.std.proofs.lemmas.Bool.{MatchBool-at_true, MatchBool-at_false}
use Rattle.spf_tree.specs.Walks.{IsWithin}
use Rattle.spf_tree.specs.Labels.{at}
use Rattle.spf_repair.proofs.RepairLemmas.{settle_loose, settled_is, skip_loose, skip_fewer, popped}
use Rattle.spf_repair.proofs.settling.advance.Goals as goal

pub returns-then-is_within-clause-loose : goal.returns-then-is_within-clause-loose
returns-then-is_within-clause-loose c =
    let within = MatchBool-at_true (IsWithin (at c.args.labels.now c.in-Some.node) c.in-Some.cost) (IsWithin (at c.args.labels.now c.in-Some.node) c.in-Some.cost → ⊥) c.if-is_within.true c.is_within.ensures.within in
    skip_loose c.args.rows.now c.args.root c.args.labels.now c.args.queue.now c.pop.new.self (c.in-Some.cost, c.in-Some.node) c.requires.loose c.in-Some.ensures.left within

pub returns-then-is_within-clause-moved : goal.returns-then-is_within-clause-moved
returns-then-is_within-clause-moved c =
    let fewer = skip_fewer c.args.queue.now c.pop.new.self (c.in-Some.cost, c.in-Some.node) c.in-Some.ensures.left in
    (refl, fewer.0, fewer.1)

pub set-requires : goal.set-requires
set-requires c = c.requires.loose.named (c.in-Some.cost, c.in-Some.node) (popped c.args.queue.now c.pop.new.self (c.in-Some.cost, c.in-Some.node) c.in-Some.ensures.left)

pub returns-in-Ok-clause-loose : goal.returns-in-Ok-clause-loose
returns-in-Ok-clause-loose c =
    let better = MatchBool-at_false (IsWithin (at c.args.labels.now c.in-Some.node) c.in-Some.cost) (IsWithin (at c.args.labels.now c.in-Some.node) c.in-Some.cost → ⊥) c.if-is_within.false c.is_within.ensures.within in
    settle_loose c.args.rows.now c.args.root c.args.labels.now c.set.new.self c.args.queue.now c.pop.new.self c.offer_rows.new.queue (c.in-Some.cost, c.in-Some.node)
    c.requires.loose c.requires.named c.in-Some.ensures.left better c.set.ensures.names c.set.ensures.costs c.in-Ok.ensures

pub returns-in-Ok-clause-moved : goal.returns-in-Ok-clause-moved
returns-in-Ok-clause-moved c =
    let better = MatchBool-at_false (IsWithin (at c.args.labels.now c.in-Some.node) c.in-Some.cost) (IsWithin (at c.args.labels.now c.in-Some.node) c.in-Some.cost → ⊥) c.if-is_within.false c.is_within.ensures.within in
    settled_is c.args.rows.now c.args.root c.args.labels.now c.set.new.self c.args.queue.now c.pop.new.self c.offer_rows.new.queue (c.in-Some.cost, c.in-Some.node)
    c.is_within.ensures.fits c.in-Some.ensures.left c.in-Some.ensures.least better c.set.ensures.costs c.in-Ok.ensures
