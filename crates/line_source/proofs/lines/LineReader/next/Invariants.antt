use Rattle.std.proofs.Common.{◌≡◌, ◌≤◌, ◌+◌, ◌-◌, ◌++◌, length, ℕ, List, [], ◌∷◌}
use Rattle.isis_edge.specs.Told.{Took}
use Rattle.line_source.specs.Lines.{IsUncut}
use Rattle.line_source.proofs.lines.LineReader.next.Given as goal

-- the line so far has no LF and isn't too long; what was pending and was given is the line so far and what is pending now
abbrev pub invariant-pieces : goal.invariant-pieces
invariant-pieces g l = record {
  uncut : IsUncut l.self.line;
  short : length l.self.line ≤ 16777216;
  all : (octets : List ℕ) × Took (g.I.Source.gave l.fn.source) (g.I.Source.gave l.source) octets
      × (l.fn.self.pending ++ octets ≡ l.self.line ++ l.self.pending);
  later : g.I.Source.faults l.fn.source ≤ g.I.Source.faults l.source;
}

-- each piece but the first has an octet
abbrev one_if_none : List ℕ → ℕ
one_if_none [] = 1
one_if_none (byte ∷ more) = 0

abbrev pub decreases-pieces : goal.decreases-pieces
decreases-pieces g l = (16777217 - length l.self.line) + (16777217 - length l.self.line) + one_if_none l.self.pending
