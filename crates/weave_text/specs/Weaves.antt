-- The weaving of a text's journals, or why there is none (own).
use Rattle.std.specs.Prelude.{◌≡◌, ◌⊎◌, ℕ, List, map, Result, Ok, Err, IsOkAnd}
use Rattle.isis_edge.specs.Told.{Wrote}
use Rattle.lab_keys.specs.declared.faults.LimitName.{LimitName}
use Rattle.network_lab.specs.Passed.{given}
use Rattle.model_network.specs.Networks.{Network}
use Rattle.model_network.specs.Runs.{Happening}
use Rattle.network_lab.specs.declared.event.LabEvent.{LabEvent}
use Rattle.network_lab.specs.LabNets.{LabNet}
use Rattle.lab_script.specs.declared.reason.ScriptFault.{ScriptFault}
use Rattle.lab_script.specs.declared.reason.ScriptFault.TheVariants.{Refused, Limit}
use Rattle.lab_text.specs.Runs.{WrotePart}
use Rattle.weave_replay.specs.declared.journal.WovenJournal.{WovenJournal}
use Rattle.weave_replay.specs.Replays.{AreReplayed}
use Rattle.weave_model.specs.Weavings.{Scene, IsWeaving}
use Rattle.weave.specs.Passed.{begin}
use Rattle.weave_text.specs.Blocks.{block_of}
use Rattle.weave.specs.declared.fault.WeaveFault.{WeaveFault}
use Rattle.weave.specs.declared.fault.WeaveFault.TheVariants as weave
use Rattle.weave.specs.Faults.{IsToldOf}
use Rattle.weave.specs.Woven.{IsWoven}
use Rattle.weave_text.specs.declared.fault.WeaveTextFault.{WeaveTextFault}
use Rattle.weave_text.specs.declared.fault.WeaveTextFault.TheVariants as failed
use Rattle.weave_text.specs.Reasons.{fault_for}
use Rattle.weave_text.specs.Weavings.{Weaving, weaving_of}
use Rattle.weave_text.specs.Named.{naming_in}
use Rattle.weave_text.specs.ReadBack.{IsReadAs}
use Rattle.weave_text.specs.Written.{woven_text}

-- journals are the blocks of a text
abbrev pub AreBlocks : Weaving → List WovenJournal → Type 0
AreBlocks weaving journals = map block_of journals ≡ weaving.blocks

-- a text is the lab script whose schedule is a weaving of the journals, from a network on in which
-- nothing was injected, and it is read as that schedule
pub record IsWovenText (weaving : Weaving) (text : List ℕ) : Type 0 where
  pub journals : List WovenJournal
  pub are : AreBlocks weaving journals
  pub clean : weaving.net.injected ≡ 0
  pub schedule : List LabEvent
  pub after : LabNet
  pub woven : IsWoven weaving.net journals schedule after
  pub text_is : text ≡ woven_text weaving.told (naming_in weaving.script) after.seen schedule
  pub reads : IsReadAs weaving schedule text

-- the journals aren't woven, for this
pub record IsNotWoven (weaving : Weaving) (fault : WeaveFault) : Type 0 where
  pub journals : List WovenJournal
  pub are : AreBlocks weaving journals
  pub told : IsToldOf weaving.net journals fault

-- the journals have a weaving: they replay, and a schedule of the network has all their entries
pub record HaveWeaving (net : Network) (journals : List WovenJournal) : Type 0 where
  pub replayed : AreReplayed net.routers journals
  pub hs : List Happening
  pub last : Scene
  pub woven : IsWeaving given hs (begin net journals) last

-- ---- of what a text says

-- the journals in its blocks have a weaving
abbrev pub IsWeavable : Result Weaving ScriptFault → Type 0
IsWeavable said = IsOkAnd said (λ weaving.
    (journals : List WovenJournal) → AreBlocks weaving journals → HaveWeaving weaving.net journals)

abbrev pub TellsWeaving : Result Weaving ScriptFault → List ℕ → Type 0
TellsWeaving said text = IsOkAnd said (λ weaving. IsWovenText weaving text)

-- its journals aren't woven, for this
abbrev pub HasNoWeaving : Result Weaving ScriptFault → WeaveFault → Type 0
HasNoWeaving said fault = IsOkAnd said (λ weaving. IsNotWoven weaving fault)

-- a setup or change line passes a limit, or the weaving does
abbrev pub PassesLimit : Result Weaving ScriptFault → LimitName → Type 0
PassesLimit said which = (said ≡ Err (Limit which)) ⊎ HasNoWeaving said (weave.Limit which)

-- how the writing of a text's weaving ends: the sink, before and now, holds the whole lab script more, a first
-- part of it where a write failed, or no more than before
abbrev pub WeaveTextEnds : List ℕ → (before now : List ℕ)
    → Result (Unit {0}) WeaveTextFault → Type 0
WeaveTextEnds text before now (Ok done) =
    (woven : List ℕ) × TellsWeaving (weaving_of text) woven × Wrote before now woven
WeaveTextEnds text before now (Err (failed.Refused line reason)) =
    (weaving_of text ≡ Err (Refused line reason)) × (now ≡ before)
WeaveTextEnds text before now (Err (failed.Limit which)) =
    PassesLimit (weaving_of text) which × (now ≡ before)
WeaveTextEnds text before now (Err (failed.NotWoven journal entry reason)) =
    HasNoWeaving (weaving_of text) (fault_for journal entry reason) × (now ≡ before)
WeaveTextEnds text before now (Err failed.Write) =
    WrotePart (TellsWeaving (weaving_of text)) before now
WeaveTextEnds text before now (Err failed.OutOfMemory) = now ≡ before
