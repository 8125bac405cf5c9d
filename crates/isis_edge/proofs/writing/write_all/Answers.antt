use Rattle.std.proofs.Common.{rules, arith}
use Rattle.isis_edge.proofs.ToldLemmas.{underway_rest, underway_prefix}
use Rattle.isis_edge.proofs.writing.write_all.Goals as goal

pub loop-rest-preserved : goal.loop-rest-preserved
loop-rest-preserved g c = record {
  underway = underway_rest _ c.loop-rest.rest.now _ _ _ c.in-Some.count c.loop-rest.invariant.underway c.in-Some.ensures.octets.2;
  later = omega (arith, c.loop-rest.invariant.later, c.write.ensures.later);
}

pub returns-in-Failed-clause-prefix : goal.returns-in-Failed-clause-prefix
returns-in-Failed-clause-prefix g c =
    underway_prefix _ c.loop-rest.rest.now _ _ _ c.loop-rest.invariant.underway (search rules) c.in-Failed.ensures.octets
