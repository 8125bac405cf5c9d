use Rattle.std.proofs.Common.{◌≡◌, ◌++◌, ◌+◌, drop}
use Rattle.state_text.specs.StateLines.{circuit_blocks}
use Rattle.state_text.proofs.circuit_lines.add_circuits.Given as goal

-- what is written, and what is left
abbrev pub invariant-loop-place : goal.invariant-loop-place
invariant-loop-place l =
    l.page ++ circuit_blocks l.router.config (l.place + 1) (drop l.place l.circuits)
    ≡ l.fn.page ++ circuit_blocks l.router.config 1 l.router.circuits
