-- A candidate as the model of the router has it.
use Rattle.model_router.specs.Elections as model
use Rattle.model_router.specs.Numbers.{system_number, snpa_number}
use Rattle.designated_is.specs.declared.candidate.Candidate.{Candidate}

-- a candidate in numbers, which has no LAN ID of its own (own)
abbrev pub candidate_of : Candidate → model.Candidate
candidate_of c = record {
  priority = c.priority;
  snpa = snpa_number c.snpa;
  system = system_number c.system;
  lan = 0;
}
