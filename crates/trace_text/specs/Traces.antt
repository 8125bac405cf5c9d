-- The trace of a packet after a script, or why there is none (own).
use Rattle.std.specs.Prelude.{◌≡◌, ℕ, true, false, List, None, Result, Ok, Err}
use Rattle.isis_base.specs.declared.prefix.Prefix.{Prefix}
use Rattle.isis_edge.specs.Told.{Wrote}
use Rattle.model_router.specs.Routers.{Router}
use Rattle.model_network.specs.Networks.{Network}
use Rattle.lab_script.specs.declared.reason.ScriptFault.TheVariants.{Refused, Limit}
use Rattle.lab_script.specs.declared.script.Script.{Script}
use Rattle.lab_script.specs.Names.{number_of_name}
use Rattle.lab_script.specs.Scripts.{is_lab_script, names_in}
use Rattle.lab_text.specs.Runs.{outcome_of, WrotePart}
use Rattle.trace_core.specs.Traces.{IsTraced, by}
use Rattle.trace_core.specs.Whichever.{AreOutcomes}
use Rattle.packet_trace.specs.Steps.{step_at, steps_at}
use Rattle.trace_text.specs.Forwarders.{AreForwarders}
use Rattle.walk_text.specs.declared.walked.Walked.{Walked}
use Rattle.walk_text.specs.declared.fault.WalkFault.{WalkFault}
use Rattle.walk_text.specs.declared.fault.WalkFault.TheVariants as failed
use Rattle.walk_text.specs.declared.reason.WalkReason.{WalkReason}
use Rattle.walk_text.specs.declared.reason.WalkReason.TheVariants as walk
use Rattle.walk_text.specs.Walks.{IsEndOf, IsNamed, HasRouter, IsWalkIn}
use Rattle.trace_text.specs.declared.find.Trace.{Trace}
use Rattle.trace_text.specs.TraceText.{trace_text}
use Rattle.trace_text.specs.AsWalked.{AreLookedUpAs, IsAsWalked}

-- ---- a trace

-- a packet to an address is followed over the routers of a network, from the router of a number, by
-- each router's own routes (RFC 1195 3.10); and what may become of it by any next hops. Where there is a
-- walk to the prefix that the address is looked up as, it is that walk: so where the packet loops or is
-- lost, there is none
pub record IsTraceIn (routers : List Router) (from address : ℕ) (trace : Trace) : Type 0 where
  pub forwarders_are : AreForwarders routers trace.forwarders.items
  pub traced_is : IsTraced (by (step_at trace.forwarders.items address)) from trace.traced
  pub outcomes_are : AreOutcomes (steps_at trace.forwarders.items address) from trace.outcomes
  pub walks : (prefix : Prefix) (walked : Walked) → IsWalkIn routers from prefix walked
      → AreLookedUpAs trace.forwarders.items address prefix → IsAsWalked from address walked trace

-- the same over the routers at a script's end, from the router of this name
pub record IsTraceOf (script : Script) (name : List ℕ) (address : ℕ) (trace : Trace) : Type 0 where
  pub from : ℕ
  pub named : IsNamed script name from
  pub net : Network
  pub ends : IsEndOf script net
  pub traces : IsTraceIn net.routers from address trace

-- a text is that of such a trace
pub record IsTraceText (script : Script) (name : List ℕ) (address : ℕ) (text : List ℕ)
    : Type 0 where
  pub trace : Trace
  pub is : IsTraceOf script name address trace
  pub text_is : text
      ≡ trace_text (names_in script) name trace.forwarders.items address trace.traced trace.outcomes

-- why there is none: it is a keys script, or has no router of this name
abbrev pub IsNoTrace : Script → List ℕ → WalkReason → Type 0
IsNoTrace script name walk.Keys = is_lab_script script ≡ false
IsNoTrace script name walk.Name =
    (is_lab_script script ≡ true) × (number_of_name (names_in script) name ≡ None)
IsNoTrace script name walk.Levels = ⊥
IsNoTrace script name walk.Stranger = ⊥
IsNoTrace script name walk.Views = ⊥
IsNoTrace script name walk.Unsettled = ⊥
IsNoTrace script name walk.Zero = ⊥
IsNoTrace script name walk.Owners = ⊥
IsNoTrace script name walk.NoRoute = ⊥

-- ---- answers

-- a trace was found over the routers at a script's end, from the router of a number
abbrev pub FindsFrom : Script → ℕ → ℕ → Result Trace WalkFault → Type 0
FindsFrom script from address (Ok trace) =
    (net : Network) × IsEndOf script net × IsTraceIn net.routers from address trace
FindsFrom script from address (Err (failed.Refused line reason)) =
    outcome_of script ≡ Err (Refused line reason)
FindsFrom script from address (Err (failed.Limit which)) =
    outcome_of script ≡ Err (Limit which)
FindsFrom script from address (Err (failed.NoWalk reason)) = ⊥
FindsFrom script from address (Err failed.Write) = ⊥
FindsFrom script from address (Err failed.OutOfMemory) = Unit {0}

-- a trace was found, or there is none for this cause; a router of this name is looked for before the
-- run, and nothing is written, so no write fails
abbrev pub Finds : Script → List ℕ → ℕ → Result Trace WalkFault → Type 0
Finds script name address (Ok trace) = IsTraceOf script name address trace
Finds script name address (Err (failed.Refused line reason)) =
    HasRouter script name × (outcome_of script ≡ Err (Refused line reason))
Finds script name address (Err (failed.Limit which)) =
    HasRouter script name × (outcome_of script ≡ Err (Limit which))
Finds script name address (Err (failed.NoWalk reason)) = IsNoTrace script name reason
Finds script name address (Err failed.Write) = ⊥
Finds script name address (Err failed.OutOfMemory) = Unit {0}

-- how the writing of a trace ends: the sink, before and now, holds the whole text more, a first part
-- of it where a write failed, or no more than before
abbrev pub TraceTextEnds : Script → List ℕ → ℕ → (before now : List ℕ)
    → Result (Unit {0}) WalkFault → Type 0
TraceTextEnds script name address before now (Ok done) =
    (text : List ℕ) × IsTraceText script name address text × Wrote before now text
TraceTextEnds script name address before now (Err (failed.Refused line reason)) =
    HasRouter script name × (outcome_of script ≡ Err (Refused line reason)) × (now ≡ before)
TraceTextEnds script name address before now (Err (failed.Limit which)) =
    HasRouter script name × (outcome_of script ≡ Err (Limit which)) × (now ≡ before)
TraceTextEnds script name address before now (Err (failed.NoWalk reason)) =
    IsNoTrace script name reason × (now ≡ before)
TraceTextEnds script name address before now (Err failed.Write) =
    WrotePart (IsTraceText script name address) before now
TraceTextEnds script name address before now (Err failed.OutOfMemory) = now ≡ before
