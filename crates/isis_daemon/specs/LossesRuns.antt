-- What `losses` makes of an input, or why it doesn't (own).
use Rattle.std.specs.Prelude.{◌≡◌, ◌⊎◌, ℕ, List, Option, Err, IsOkAnd}
use Rattle.lab_script.specs.declared.reason.ScriptFault.{ScriptFault}
use Rattle.lab_script.specs.declared.reason.ScriptFault.TheVariants.{Refused, Limit, OutOfMemory}
use Rattle.lab_script.specs.declared.script.Script.{Script}
use Rattle.lab_script.specs.Scripts.{script_of}
use Rattle.losses.specs.declared.fault.LossesFault.TheVariants.{TooMany}
use Rattle.losses_text.specs.declared.part_words.PartOf.{PartOf}
use Rattle.lab_losses.specs.declared.reason.LossesReason.{LossesReason}
use Rattle.lab_losses.specs.ScriptLosses.{HasNoLosses, IsLimited, IsLossesText, IsRefusedBefore, PassesLimit}

-- a text tells what lost deliveries do to the last line of the script that an input is read as
abbrev pub TellsLosses : ℕ → Option PartOf → List ℕ → List ℕ → Type 0
TellsLosses most part input text =
    IsOkAnd (script_of input) (λ script. IsLossesText script most part text)

-- a script that was read is refused: before its last line, or by a limit in some schedule
abbrev pub RefusesRun : ℕ → Option PartOf → Script → ScriptFault → Type 0
RefusesRun most part script (Refused line reason) = IsRefusedBefore script (Refused line reason)
RefusesRun most part script (Limit which) = PassesLimit script most part which
RefusesRun most part script OutOfMemory = ⊥

-- an input is refused: it is no script, or the script is refused
abbrev pub RefusesLosses : ℕ → Option PartOf → List ℕ → ScriptFault → Type 0
RefusesLosses most part input fault = (script_of input ≡ Err fault)
    ⊎ IsOkAnd (script_of input) (λ script. RefusesRun most part script fault)

-- the part has too many schedules
abbrev pub HasTooMany : ℕ → Option PartOf → List ℕ → Type 0
HasTooMany most part input = IsOkAnd (script_of input) (λ script. IsLimited script most part TooMany)

-- there is nothing to tell of
abbrev pub LacksLosses : List ℕ → LossesReason → Type 0
LacksLosses input reason = IsOkAnd (script_of input) (λ script. HasNoLosses script reason)

-- nothing is against it
pub record HasLosses (most : ℕ) (part : Option PartOf) (input : List ℕ) : Type 0 where
  pub taken : (fault : ScriptFault) → RefusesLosses most part input fault → ⊥
  pub few : HasTooMany most part input → ⊥
  pub some : (reason : LossesReason) → LacksLosses input reason → ⊥
