use Rattle.std.proofs.Common.{◌≡◌, map, take}
use Rattle.weave_core.specs.Codes.{code_of}
use Rattle.weave.proofs.entry_moves.letters_of.Given as goal

abbrev pub invariant-loop-place : goal.invariant-loop-place
invariant-loop-place l = l.letters ≡ map (code_of l.book l.link) (take l.place l.datagrams)
