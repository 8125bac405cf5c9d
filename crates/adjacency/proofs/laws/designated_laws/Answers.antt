use Rattle.std.proofs.Common.{◌∙◌, ap, Some, ℕ, Option, map}
use Rattle.std.specs.Option.{option_map}
use Rattle.model_router.specs.Both.{at}
use Rattle.model_router.specs.Elections as elections
use Rattle.adjacency.specs.Lans.{candidate_from}
use Rattle.adjacency.proofs.ElectLemmas.{candidates-up, designated-by, designated-nobody, elect-neighbour, elect-oneself}
use Rattle.adjacency.proofs.laws.designated_laws.Goals as goal

pub returns-clause-elected : goal.returns-clause-elected
returns-clause-elected c config place circuit level mine up system lan same e some elected =
    let heard = (at circuit.levels level).heard in
    let found = c.election_laws.ensures.model mine (map candidate_from up) system (elections.oneself config place circuit) heard same (candidates-up up heard e) elected in
    ap (λ (o : Option elections.Candidate). option_map (λ best. best.system) o) (designated-by config place circuit level up lan e some)
    ∙ ap (λ (n : ℕ). Some n) found

pub returns-clause-nobody : goal.returns-clause-nobody
returns-clause-nobody c = designated-nobody

pub returns-clause-neighbour : goal.returns-clause-neighbour
returns-clause-neighbour c = elect-neighbour

pub returns-clause-oneself : goal.returns-clause-oneself
returns-clause-oneself c = elect-oneself
