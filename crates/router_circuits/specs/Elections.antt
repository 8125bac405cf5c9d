-- Who is designated on a LAN, and the senders of datagrams, by SNPA
-- (ISO 10589 8.4.5; the form: own).
use Rattle.std.specs.Prelude.{ℕ, List, [], ◌∷◌, if◌then◌else◌}
use Rattle.model_router.specs.Adjacencies.{Neighbour}
use Rattle.model_router.specs.Elections as model
use Rattle.model_router.specs.Numbers.{system_number, snpa_number, node_number}
use Rattle.router_circuits.specs.declared.designated.Designated.{Designated}
use Rattle.router_circuits.specs.declared.candidate.Candidate.{Candidate}

-- a designated system as numbers: its system and the LAN ID (ISO 10589 8.4.5)
abbrev pub designated_of : Designated → ℕ × ℕ
designated_of d = (system_number d.system, node_number d.lan)

-- the same of a candidate of the model
abbrev pub system_and_lan : model.Candidate → ℕ × ℕ
system_and_lan c = (c.system, c.lan)

-- a candidate as the model has it (ISO 10589 8.4.5)
abbrev pub candidate_of : Candidate → model.Candidate
candidate_of c = record {
  priority = c.priority;
  snpa = snpa_number c.snpa;
  system = system_number c.system;
  lan = node_number c.lan;
}

-- the greater of a candidate and a neighbour (ISO 10589 8.4.5)
abbrev pub better : model.Candidate → Neighbour → model.Candidate
better best n = if model.beats (model.candidate n) best then model.candidate n else best

-- the greatest of a candidate and neighbours (ISO 10589 8.4.5)
unfoldable pub elect : model.Candidate → List Neighbour → model.Candidate
elect best [] = best
elect best (n ∷ ns) = elect (better best n) ns
