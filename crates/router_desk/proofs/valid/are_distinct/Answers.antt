use Rattle.std.proofs.Common.{◌∙◌, rules}
use Rattle.router_desk.specs.Limits.{numbers_of}
use Rattle.router_desk.proofs.DistinctLemmas.{apart-sorted}
use Rattle.router_desk.proofs.valid.are_distinct.Goals as goal

pub returns : goal.returns
returns c =
    c.are_apart.ensures ∙ apart-sorted (numbers_of c.args.prefixes.now) _ (search rules) c.sort_unstable.ensures.sorted
