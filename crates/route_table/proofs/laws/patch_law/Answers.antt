use Rattle.route_table.specs.Routes.{IsHopTo}
use Rattle.route_table.proofs.PatchLemmas.{routes_are}
use Rattle.route_table.proofs.laws.patch_law.Goals as goal

pub returns : goal.returns
returns c = λ one two later_one later_two. routes_are (IsHopTo one two) (IsHopTo later_one later_two)
