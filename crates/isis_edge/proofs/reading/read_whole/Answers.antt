use Rattle.std.proofs.Common.{◌+◌, ◌<◌, ◌≤◌, length, arith}
use Rattle.std.proofs.lemmas.Grind.{common_steps}
use Rattle.isis_edge.proofs.ToldLemmas.{taken_within, taken_beyond, taken_once}
use Rattle.isis_edge.proofs.reading.read_whole.Goals as goal

pub returns-then-count-room-clause-taken : goal.returns-then-count-room-clause-taken
returns-then-count-room-clause-taken g c =
    let wide : length c.read.new.into ≤ c.min-wanted.result = grind (arith, common_steps, c.read.auto.into) in
    let few = c.in-Some.ensures.octets.1 in
    taken_within _ _ _ c.reads.octets c.read.new.into c.in-Some.count c.args.limit c.reads.invariant.taken c.in-Some.ensures.octets.2 (omega (arith, few, wide))

pub returns-in_err-extend-in-Some-clause-taken : goal.returns-in_err-extend-in-Some-clause-taken
returns-in_err-extend-in-Some-clause-taken g c =
    taken_within _ _ _ c.reads.octets c.read.new.into c.in-Some.count c.args.limit c.reads.invariant.taken c.in-Some.ensures.octets.2 (omega arith)

pub returns-then-count-room-clause-too_long : goal.returns-then-count-room-clause-too_long
returns-then-count-room-clause-too_long g c = λ is.
    taken_beyond _ _ _ c.reads.octets c.read.new.into c.in-Some.count c.args.limit c.reads.invariant.taken c.in-Some.ensures.octets.2 c.in-Some.ensures.octets.1 (omega arith)

pub returns-then-count-room-clause-complete : goal.returns-then-count-room-clause-complete
returns-then-count-room-clause-complete g c = λ octets took fits quiet.
    let beyond = taken_beyond _ _ _ c.reads.octets c.read.new.into c.in-Some.count c.args.limit c.reads.invariant.taken c.in-Some.ensures.octets.2 c.in-Some.ensures.octets.1 (omega arith) in
    let same = taken_once _ _ octets beyond.0 took beyond.2 in
    let more = beyond.1 in
    absurd (omega (arith, same, more, fits))
