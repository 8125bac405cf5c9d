use Rattle.std.proofs.Common.{◌≤◌, ◌<◌, ℕ, get_or, length, take}
use Rattle.ipv6_reach.specs.declared.candidate6.Candidate6.{Candidate6}
use Rattle.ipv6_reach.specs.Numbered.{AreNames, AreNumbered, AreUpTo}
use Rattle.ipv6_reach.proofs.numbered.number_all.Given as goal

-- the candidates so far are numbered, and no name comes behind those that are left
abbrev pub invariant-loop-k : goal.invariant-loop-k
invariant-loop-k l = record {
  names : AreNames l.names.items;
  stands : AreNumbered l.names.items (take l.k l.candidates) l.stands.items;
  up_to : (j : ℕ) (d : Candidate6) → l.k ≤ j → j < length l.candidates → AreUpTo l.names.items (get_or l.candidates j d).prefix;
}
