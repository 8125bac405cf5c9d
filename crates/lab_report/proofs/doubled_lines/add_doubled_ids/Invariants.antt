use Rattle.std.proofs.Common.{◌≡◌, ◌++◌, drop}
use Rattle.std.specs.List.{flat_map}
use Rattle.flag_sync.specs.Walks.{numbers_of}
use Rattle.lab_report.specs.Reports.{doubled_line}
use Rattle.lab_report.proofs.doubled_lines.add_doubled_ids.Given as goal

-- what is written, and what is left
abbrev pub invariant-loop-id : goal.invariant-loop-id
invariant-loop-id l =
    l.page ++ flat_map (doubled_line l.level) (numbers_of (drop l.id-index l.ids))
    ≡ l.fn.page ++ flat_map (doubled_line l.level) (numbers_of l.ids)
