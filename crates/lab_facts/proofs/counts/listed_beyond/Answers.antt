use Rattle.std.proofs.Common.{◌∙◌, rules}
use Rattle.lab_facts.proofs.CellLemmas.{gone_is, beyond_first}
use Rattle.lab_facts.proofs.counts.listed_beyond.Goals as goal

pub loop-left-preserved : goal.loop-left-preserved
loop-left-preserved c = record {
  count = λ listed e. beyond_first listed c.loop-left.left.now c.loop-left.count c.one_if-count.result c.has.result _ c.in-len1-up.len_at_least (c.has.ensures ∙ gone_is c.args.gone.now listed _ e) c.one_if-count.ensures ∙ c.loop-left.invariant.count listed e;
  few = search rules;
}
