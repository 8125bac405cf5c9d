use Rattle.std.proofs.Common.{◌≡◌, drop}
use Rattle.std.specs.List.{list_any}
use Rattle.route_leaking.specs.Attachment.{has_area}
use Rattle.route_leaking.proofs.attachment.shares.Given as goal

-- what is left decides
abbrev pub invariant-loop-area : goal.invariant-loop-area
invariant-loop-area l =
    list_any (has_area l.areas) l.others ≡ list_any (has_area l.areas) (drop l.area-index l.others)
