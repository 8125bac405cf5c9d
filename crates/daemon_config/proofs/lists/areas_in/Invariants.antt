use Rattle.std.proofs.Common.{◌≡◌, length}
use Rattle.isis_base.specs.AreaTexts.{area_of}
use Rattle.toml.specs.Data.{as_str}
use Rattle.daemon_config.specs.declared.fault.ConfigKey.TheVariants as field
use Rattle.daemon_config.specs.Seen.{parts_seen}
use Rattle.daemon_config.specs.Shapes.{all_said}
use Rattle.daemon_config.proofs.EachLemmas.{behind}
use Rattle.daemon_config.proofs.lists.areas_in.Given as goal

-- those so far, and those that the texts left say, are what all texts say
abbrev pub invariant-loop-left : goal.invariant-loop-left
invariant-loop-left l =
    behind l.areas (all_said area_of field.Areas (parts_seen as_str l.left))
    ≡ all_said area_of field.Areas (parts_seen as_str l.items)

abbrev pub decreases-loop-left : goal.decreases-loop-left
decreases-loop-left l = length l.left
