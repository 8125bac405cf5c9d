-- The walk of a packet after a script, or why there is none (own).
use Rattle.std.specs.Prelude.{◌≡◌, ℕ, true, false, List, Some, None, Result, Ok, Err, IsSome}
use Rattle.isis_base.specs.declared.prefix.Prefix.{Prefix}
use Rattle.isis_edge.specs.Told.{Wrote}
use Rattle.model_router.specs.Routers.{Router}
use Rattle.route_table.specs.Ranks.{prefix_number}
use Rattle.model_network.specs.Networks.{Network}
use Rattle.lab_script.specs.declared.reason.ScriptFault.TheVariants.{Refused, Limit}
use Rattle.lab_script.specs.declared.script.Script.{Script}
use Rattle.lab_script.specs.declared.script.Script.TheVariants.{Keys, Lab}
use Rattle.lab_script.specs.Names.{number_of_name}
use Rattle.lab_script.specs.Scripts.{is_lab_script, names_in}
use Rattle.lab_text.specs.Passed.{end_of}
use Rattle.lab_text.specs.Runs.{outcome_of, WrotePart}
use Rattle.forward_views.specs.Looks.{Look}
use Rattle.walk_text.specs.declared.forward_fault.ForwardFault.{ForwardFault}
use Rattle.walk_text.specs.declared.walked.Walked.{Walked}
use Rattle.walk_text.specs.Tests.{AreLooks}
use Rattle.walk_text.specs.Refusals.{IsRefused}
use Rattle.walk_text.specs.Paths.{IsWalked}
use Rattle.walk_text.specs.declared.fault.WalkFault.{WalkFault}
use Rattle.walk_text.specs.declared.fault.WalkFault.TheVariants as failed
use Rattle.walk_text.specs.declared.reason.WalkReason.{WalkReason}
use Rattle.walk_text.specs.declared.reason.WalkReason.TheVariants as walk
use Rattle.walk_text.specs.Reasons.{reason_of}
use Rattle.walk_text.specs.WalkText.{walk_text}

-- ---- a script's end

-- the network at the end of a lab script; a keys script has none
abbrev pub IsEndOf : Script → Network → Type 0
IsEndOf (Keys script) net = ⊥
IsEndOf (Lab script) net = end_of script ≡ Ok net

-- a router has this name, and this number
abbrev pub IsNamed : Script → List ℕ → ℕ → Type 0
IsNamed script name number = number_of_name (names_in script) name ≡ Some number

-- it is a lab script that has a router of this name
abbrev pub HasRouter : Script → List ℕ → Type 0
HasRouter script name =
    (is_lab_script script ≡ true) × IsSome (number_of_name (names_in script) name)

-- ---- a walk

-- a fact of the routers of a network with their routes, which they have
pub record HoldsOf (routers : List Router) (Fact : List Look → Type 0) : Type 0 where
  pub looks : List Look
  pub are : AreLooks routers looks
  pub holds : (each : List Look) → AreLooks routers each → Fact each

-- a walk to a prefix from the router of a number: it arrives, whichever next hops it takes, at the
-- cost of that router's route (RFC 1195 3.10)
abbrev pub IsWalkIn : List Router → ℕ → Prefix → Walked → Type 0
IsWalkIn routers from prefix walked =
    HoldsOf routers (λ looks. IsWalked looks from (prefix_number prefix) walked)

-- a walk over the routers at a script's end, from the router of this name
pub record IsWalkOf (script : Script) (name : List ℕ) (prefix : Prefix) (walked : Walked)
    : Type 0 where
  pub from : ℕ
  pub named : IsNamed script name from
  pub net : Network
  pub ends : IsEndOf script net
  pub walks : IsWalkIn net.routers from prefix walked

-- a text tells such a walk
pub record IsWalkText (script : Script) (name : List ℕ) (prefix : Prefix) (text : List ℕ)
    : Type 0 where
  pub walked : Walked
  pub is : IsWalkOf script name prefix walked
  pub text_is : text ≡ walk_text (names_in script) name prefix walked

-- ---- why there is none

-- a walk over these routers isn't promised, for this reason: the first thing that is tested and
-- doesn't hold
pub record IsRefusedFor (routers : List Router) (from : ℕ) (prefix : Prefix) (reason : WalkReason)
    : Type 0 where
  pub cause : ForwardFault
  pub told : reason_of cause ≡ Some reason
  pub refused : HoldsOf routers (λ looks. IsRefused looks from (prefix_number prefix) cause)

-- the same of the routers at a script's end
pub record IsRefusedAtEnd (script : Script) (name : List ℕ) (prefix : Prefix) (reason : WalkReason)
    : Type 0 where
  pub from : ℕ
  pub named : IsNamed script name from
  pub net : Network
  pub ends : IsEndOf script net
  pub refused : IsRefusedFor net.routers from prefix reason

-- why there is no walk: before the run that it is a keys script, or has no router of this name; after
-- it what its routers are like
abbrev pub IsNoWalk : Script → List ℕ → Prefix → WalkReason → Type 0
IsNoWalk script name prefix walk.Keys = is_lab_script script ≡ false
IsNoWalk script name prefix walk.Name =
    (is_lab_script script ≡ true) × (number_of_name (names_in script) name ≡ None)
IsNoWalk script name prefix walk.Levels = IsRefusedAtEnd script name prefix walk.Levels
IsNoWalk script name prefix walk.Stranger = IsRefusedAtEnd script name prefix walk.Stranger
IsNoWalk script name prefix walk.Views = IsRefusedAtEnd script name prefix walk.Views
IsNoWalk script name prefix walk.Unsettled = IsRefusedAtEnd script name prefix walk.Unsettled
IsNoWalk script name prefix walk.Zero = IsRefusedAtEnd script name prefix walk.Zero
IsNoWalk script name prefix walk.Owners = IsRefusedAtEnd script name prefix walk.Owners
IsNoWalk script name prefix walk.NoRoute = IsRefusedAtEnd script name prefix walk.NoRoute

-- ---- answers

-- a walk was found, or there is none for this cause; a router of this name is looked for before the
-- run, and nothing is written, so no write fails
abbrev pub Finds : Script → List ℕ → Prefix → Result Walked WalkFault → Type 0
Finds script name prefix (Ok walked) = IsWalkOf script name prefix walked
Finds script name prefix (Err (failed.Refused line reason)) =
    HasRouter script name × (outcome_of script ≡ Err (Refused line reason))
Finds script name prefix (Err (failed.Limit which)) =
    HasRouter script name × (outcome_of script ≡ Err (Limit which))
Finds script name prefix (Err (failed.NoWalk reason)) = IsNoWalk script name prefix reason
Finds script name prefix (Err failed.Write) = ⊥
Finds script name prefix (Err failed.OutOfMemory) = Unit {0}

-- how the writing of a walk ends: the sink, before and now, holds the whole text more, a first part of
-- it where a write failed, or no more than before
abbrev pub WalkTextEnds : Script → List ℕ → Prefix → (before now : List ℕ)
    → Result (Unit {0}) WalkFault → Type 0
WalkTextEnds script name prefix before now (Ok done) =
    (text : List ℕ) × IsWalkText script name prefix text × Wrote before now text
WalkTextEnds script name prefix before now (Err (failed.Refused line reason)) =
    HasRouter script name × (outcome_of script ≡ Err (Refused line reason))
    × (now ≡ before)
WalkTextEnds script name prefix before now (Err (failed.Limit which)) =
    HasRouter script name × (outcome_of script ≡ Err (Limit which)) × (now ≡ before)
WalkTextEnds script name prefix before now (Err (failed.NoWalk reason)) =
    IsNoWalk script name prefix reason × (now ≡ before)
WalkTextEnds script name prefix before now (Err failed.Write) =
    WrotePart (IsWalkText script name prefix) before now
WalkTextEnds script name prefix before now (Err failed.OutOfMemory) = now ≡ before
