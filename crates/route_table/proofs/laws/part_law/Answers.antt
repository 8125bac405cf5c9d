use Rattle.route_table.specs.Routes.{IsHopTo}
use Rattle.route_table.proofs.PatchLemmas.{of_part}
use Rattle.route_table.proofs.laws.part_law.Goals as goal

pub returns : goal.returns
returns c = λ one two. of_part (IsHopTo one two)
