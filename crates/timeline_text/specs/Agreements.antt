-- How far the routers of a level agree at a moment. All of it own.
use Rattle.std.specs.Prelude.{ℕ, zero, suc, ◌+◌, Bool, length, Option, Some, None, if◌then◌else◌}
use Rattle.std.specs.List.{list_any, sum_by}
use Rattle.isis_base.specs.declared.level.Level.{Level}
use Rattle.model_router.specs.Both.{at}
use Rattle.model_router.specs.Routers.{Router}
use Rattle.model_network.specs.Counts.{flags}
use Rattle.network_lab.specs.LabNets.{Seen}
use Rattle.network_lab.specs.LinkStates.{groups_at, runs_of}
use Rattle.timeline_text.specs.declared.agreements.Agreement.{Agreement}

-- the SRM flags of a router on its first so many circuits (ISO 10589 7.3.15)
abbrev pub flags_on : Router → Level → ℕ → ℕ
flags_on r level zero = 0
flags_on r level (suc place) = flags_on r level place + flags r place level

-- on all its circuits, those of LANs too, at a level that it runs
abbrev pub router_flags : Level → Router → ℕ
router_flags level r = if at r.config.runs level then flags_on r level (length r.circuits) else 0

-- how many groups the routers of a level are, as in a report, and how many SRM flags there are; nothing
-- where none runs the level
abbrev pub agreement_at : Seen → Level → Option Agreement
agreement_at s level =
    if list_any (λ (runs : Bool). runs) (runs_of s.routers level)
    then Some (record {
      groups = length (groups_at s level);
      flags = sum_by (router_flags level) s.routers;
    })
    else None
