use Rattle.std.proofs.Common.{◌≡◌, take, length}
use Rattle.router_desk.specs.Limits.{numbers_of}
use Rattle.router_desk.proofs.valid.put_numbers.Given as goal

-- the numbers so far are written
abbrev pub invariant-loop-place : goal.invariant-loop-place
invariant-loop-place l =
    (take l.place l.numbers ≡ numbers_of (take l.place l.prefixes)) × (length l.numbers ≡ length l.prefixes)
