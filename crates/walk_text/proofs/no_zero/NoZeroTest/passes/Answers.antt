use Rattle.std.proofs.Common.{ap, ◌∙◌}
use Rattle.spf_tree.specs.Nodes.{node_number}
use Rattle.walk_text.proofs.ZeroLemmas.{zero-told}
use Rattle.walk_text.proofs.no_zero.NoZeroTest.passes.Goals as goal

pub returns : goal.returns
returns c = λ look e of.
    zero-told look c.args.router.now c.level_one.result.now.entries c.system_number-node.result c.in_ok-zero.zero e c.level_one.ensures.told
    (c.system_number-node.ensures ∙ ap node_number c.system_of.ensures) c.in_ok-zero.ensures
