-- Sources and sinks in memory: what each call does to them.
use Rattle.std.specs.Prelude.{ℕ, ◌+◌, List, ◌++◌, take, drop, Bool, true, false, Contains}
use Rattle.isis_edge.specs.declared.source.Got.{Got}
use Rattle.isis_edge.specs.declared.source.Got.TheVariants as got
use Rattle.isis_edge.specs.declared.sink.Put.{Put}
use Rattle.isis_edge.specs.declared.sink.Put.TheVariants as wrote
use Rattle.isis_edge.specs.Faults.{one_more}

-- a source in memory: the octets given, whether it told its end, the octets left, how many a call gives at most, the numbers of the calls that are to fail,
-- and the calls and the faults so far (own)
pub record MemoryInput : Type 0 where
  pub gave : List ℕ
  pub ended : Bool
  pub left : List ℕ
  pub piece : ℕ
  pub failing : List ℕ
  pub calls : ℕ
  pub faults : ℕ

-- a sink in memory: the octets put, how many there is room for, how many a call takes at most, the numbers of
-- the calls that are to fail, and the calls and the faults so far (own)
pub record MemoryOutput : Type 0 where
  pub put : List ℕ
  pub room : ℕ
  pub piece : ℕ
  pub failing : List ℕ
  pub calls : ℕ
  pub faults : ℕ

-- after so many calls the next one, numbered from 1, is among those that are to fail (own)
abbrev pub IsToFail : List ℕ → ℕ → Type 0
IsToFail failing calls = Contains failing (calls + 1)

-- the source after a read that gave this (own)
abbrev pub after_read : MemoryInput → Got → MemoryInput
after_read s (got.Some count) = record s {
  gave = s.gave ++ take count s.left;
  ended = false;
  left = drop count s.left;
  calls = one_more s.calls;
}
after_read s got.End = record s { ended = true; calls = one_more s.calls }
after_read s got.Failed = record s { calls = one_more s.calls; faults = one_more s.faults }

-- the sink after a write of the piece that did this (own)
abbrev pub after_write : MemoryOutput → List ℕ → Put → MemoryOutput
after_write s piece (wrote.Some count) =
    record s { put = s.put ++ take count piece; calls = one_more s.calls }
after_write s piece wrote.Failed = record s { calls = one_more s.calls; faults = one_more s.faults }
