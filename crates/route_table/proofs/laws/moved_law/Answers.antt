use Rattle.route_table.specs.Routes.{IsHopTo}
use Rattle.route_table.proofs.PatchLemmas.{is_clean}
use Rattle.route_table.proofs.laws.moved_law.Goals as goal

pub returns : goal.returns
returns c = λ one two later_one later_two. is_clean (IsHopTo one two) (IsHopTo later_one later_two)
