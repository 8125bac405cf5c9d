use Rattle.std.proofs.Common.{◌≡◌, drop}
use Rattle.route_leaking.specs.Attachment.{has_area}
use Rattle.route_leaking.proofs.attachment.has_area.Given as goal

-- what is left decides
abbrev pub invariant-loop-own : goal.invariant-loop-own
invariant-loop-own l = has_area l.areas l.octets ≡ has_area (drop l.own-index l.areas) l.octets
