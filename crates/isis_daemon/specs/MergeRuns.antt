-- What `merge` makes of an input, or why it doesn't (own).
use Rattle.std.specs.Prelude.{◌≡◌, ℕ, List}
use Rattle.lab_script.specs.declared.reason.Reason.{Reason}
use Rattle.lab_script.specs.declared.reason.Reason.TheVariants as reason
use Rattle.lab_script.specs.declared.reason.ScriptFault.{ScriptFault}
use Rattle.lab_script.specs.declared.reason.ScriptFault.TheVariants as script
use Rattle.lab_losses.specs.declared.reason.LossesReason.{LossesReason}
use Rattle.lab_losses.specs.declared.reason.LossesReason.TheVariants as lacks
use Rattle.losses_text.specs.declared.merge_fault.MergeReason.{MergeReason}
use Rattle.losses_text.specs.declared.merge_fault.MergeReason.TheVariants.{Form, Again}
use Rattle.losses_text.specs.LossesText.{losses_text}
use Rattle.losses_text.specs.Merging.{IsWhole, LackPart, Refused, reading_of}
use Rattle.losses_text.specs.Said.{Said}

-- a text is that of the whole, of which an input has the texts of all parts
abbrev pub MergesTo : List ℕ → List ℕ → Type 0
MergesTo input text = (said : Said) × IsWhole input said × (text ≡ losses_text said)

-- there is such a text
abbrev pub CanBeMerged : List ℕ → Type 0
CanBeMerged input = (said : Said) × IsWhole input said

abbrev pub reason_of : MergeReason → Reason
reason_of Form = reason.Form
reason_of Again = reason.Again

-- a line is refused
abbrev pub RefusesTexts : List ℕ → ScriptFault → Type 0
RefusesTexts input (script.Refused line why) =
    (because : MergeReason) × (reading_of input ≡ Refused line because) × (why ≡ reason_of because)
RefusesTexts input (script.Limit which) = ⊥
RefusesTexts input script.OutOfMemory = ⊥

-- a part isn't there, or not whole
abbrev pub LacksParts : List ℕ → LossesReason → Type 0
LacksParts input lacks.Keys = ⊥
LacksParts input lacks.Run = ⊥
LacksParts input lacks.Parts = LackPart input
