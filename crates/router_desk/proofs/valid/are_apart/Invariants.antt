use Rattle.std.proofs.Common.{◌≡◌, ◌≤◌, ◌-◌, drop}
use Rattle.router_desk.specs.Limits.{are_apart}
use Rattle.router_desk.proofs.valid.are_apart.Given as goal

-- the numbers from the one before are apart where all are
abbrev pub invariant-loop-place : goal.invariant-loop-place
invariant-loop-place l = (are_apart (drop (l.place - 1) l.numbers) ≡ are_apart l.numbers) × (1 ≤ l.place)
