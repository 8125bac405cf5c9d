-- A walk that is found step by step (own).
use Rattle.std.specs.Prelude.{◌≡◌, ℕ, List, Result, Ok, Err}
use Rattle.isis_base.specs.declared.prefix.Prefix.{Prefix}
use Rattle.model_router.specs.Routers.{Router}
use Rattle.model_network.specs.Networks.{Network}
use Rattle.lab_script.specs.declared.reason.ScriptFault.TheVariants.{Refused, Limit}
use Rattle.lab_script.specs.declared.script.Script.{Script}
use Rattle.lab_text.specs.Runs.{outcome_of}
use Rattle.walk_text.specs.declared.walked.Walked.{Walked}
use Rattle.walk_text.specs.declared.fault.WalkFault.{WalkFault}
use Rattle.walk_text.specs.declared.fault.WalkFault.TheVariants as failed
use Rattle.walk_text.specs.Walks.{IsEndOf, IsWalkIn, IsRefusedFor}

-- what is found over the routers of a network
abbrev pub FindsIn : List Router → ℕ → Prefix → Result Walked WalkFault → Type 0
FindsIn routers from prefix (Ok walked) = IsWalkIn routers from prefix walked
FindsIn routers from prefix (Err (failed.Refused line reason)) = ⊥
FindsIn routers from prefix (Err (failed.Limit which)) = ⊥
FindsIn routers from prefix (Err (failed.NoWalk reason)) = IsRefusedFor routers from prefix reason
FindsIn routers from prefix (Err failed.Write) = ⊥
FindsIn routers from prefix (Err failed.OutOfMemory) = Unit {0}

-- the same over the routers at a script's end, from the router of a number
abbrev pub FindsFrom : Script → ℕ → Prefix → Result Walked WalkFault → Type 0
FindsFrom script from prefix (Ok walked) =
    (net : Network) × IsEndOf script net × IsWalkIn net.routers from prefix walked
FindsFrom script from prefix (Err (failed.Refused line reason)) =
    outcome_of script ≡ Err (Refused line reason)
FindsFrom script from prefix (Err (failed.Limit which)) =
    outcome_of script ≡ Err (Limit which)
FindsFrom script from prefix (Err (failed.NoWalk reason)) =
    (net : Network) × IsEndOf script net × IsRefusedFor net.routers from prefix reason
FindsFrom script from prefix (Err failed.Write) = ⊥
FindsFrom script from prefix (Err failed.OutOfMemory) = Unit {0}
