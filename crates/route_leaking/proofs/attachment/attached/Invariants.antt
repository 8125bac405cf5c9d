use Rattle.std.proofs.Common.{◌≡◌, drop, map}
use Rattle.route_leaking.specs.Attachment.{is_attached}
use Rattle.route_leaking.proofs.attachment.attached.Given as goal

-- what is left decides
abbrev pub invariant-loop-others : goal.invariant-loop-others
invariant-loop-others l =
    is_attached l.areas (map (λ list. list.items) l.reached)
    ≡ is_attached l.areas (map (λ list. list.items) (drop l.others-index l.reached))
