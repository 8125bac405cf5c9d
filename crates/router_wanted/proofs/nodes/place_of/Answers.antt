use Rattle.std.proofs.Common.{leb, leb-true, leb-false, arith, rules}
use Rattle.std.proofs.lemmas.List.Sorted.{IsPartitionPoint-from_clause, IsPartitionedBy-leb}
use Rattle.router_wanted.proofs.NodeLemmas.{key, order-tests}
use Rattle.router_wanted.proofs.nodes.place_of.Goals as goal

pub returns : goal.returns
returns c =
    let limit = c.number-limit.result in
    let parted = IsPartitionedBy-leb key _ limit (order-tests c.args.list.now 0 c.requires) in
    let point = IsPartitionPoint-from_clause (λ p. leb (key p) limit) _ _ c.partition_point.ensures.partitioned parted (λ a r q k. search rules) in
    let same = c.number-limit.ensures.value in
    record {
      inside = c.partition_point.ensures.bound;
      before = λ k d lt. (let h = leb-true _ _ (point.0 k d (omega arith) lt) in omega (arith, h, same));
      behind = λ k d le lt. (let h = leb-false _ _ (point.1 k d le lt) in omega (arith, h, same));
    }
