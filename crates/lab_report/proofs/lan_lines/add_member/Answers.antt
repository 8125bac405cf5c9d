-- The line of a member, and those that are left.
use Rattle.std.proofs.Common.{List, ℕ, ◌++◌, ◌+◌, drop, ap, ◌∙◌}
use Rattle.model_router.specs.Places.{nth}
use Rattle.model_network.specs.RunLines.{ends_of}
use Rattle.lab_report.specs.LanLines.{member_lines}
use Rattle.lab_report.specs.Names.{texts}
use Rattle.lab_report.proofs.EndLemmas.{member-step}
use Rattle.lab_report.proofs.lan_lines.add_member.Goals as goal

pub returns-in-Ok : goal.returns-in-Ok
returns-in-Ok c =
    let routers = texts c.args.routers.now in
    let s = c.args.net.now.seen in
    let ends = ends_of (nth s.links c.args.lan) in
    ap (λ (page : List ℕ). page ++ member_lines routers c.args.name.now s c.args.lan c.args.level (drop (c.args.place + 1) ends)) c.in-Ok.ensures
    ∙ member-step routers c.args.name.now s c.args.lan c.args.level ends c.args.place c.end_at-end.result c.args.page.now c.end_at-end.ensures.at
