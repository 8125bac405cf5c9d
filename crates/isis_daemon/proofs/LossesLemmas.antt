-- How the writing of losses ends is how the run on an input ends.
use Rattle.std.proofs.Common.{◌≡◌, ℕ, List, Option, Result, Ok, Err, inl, inr, sym, subst}
use Rattle.std.specs.Prelude.{IsOkAnd}
use Rattle.lab_script.specs.declared.reason.ScriptFault.{ScriptFault}
use Rattle.lab_script.specs.declared.script.Script.{Script}
use Rattle.lab_script.specs.Scripts.{script_of}
use Rattle.losses_text.specs.declared.part_words.PartOf.{PartOf}
use Rattle.lab_losses.specs.declared.fault.WriteFault.{WriteFault}
use Rattle.lab_losses.specs.declared.fault.WriteFault.TheVariants as fault
use Rattle.lab_losses.specs.ScriptLosses.{LossesTextEnds}
use Rattle.isis_daemon.specs.declared.command.Command.TheVariants.{Losses}
use Rattle.isis_daemon.specs.Runs.{EndsOn}
use Rattle.isis_daemon.specs.Statuses.{losses_status}

-- what holds of a script holds of what is read
read-as : (input : List ℕ) (s : Script) (P : Script → Type 0) → script_of input ≡ Ok s → P s → IsOkAnd (script_of input) P
read-as input s P read h = subst (λ (r : Result Script ScriptFault). IsOkAnd r P) (sym read) h

pub losses_end : (most : ℕ) (part : Option PartOf) (input : List ℕ) (s : Script) (put put' : List ℕ) (f : WriteFault) → script_of input ≡ Ok s → LossesTextEnds s most part put put' (Err f) → EndsOn (Losses most part) input put put' (losses_status f)
losses_end most part input s put put' (fault.Refused line why) read h = (inr (read-as input s _ read h.0), h.1)
losses_end most part input s put put' (fault.Limit which) read h = (inr (read-as input s _ read h.0), h.1)
losses_end most part input s put put' fault.Schedules read h = (read-as input s _ read h.0, h.1)
losses_end most part input s put put' (fault.NoLosses why) read h = (read-as input s _ read h.0, h.1)
losses_end most part input s put put' fault.Write read h = (h.0, read-as input s _ read h.1, h.2)
losses_end most part input s put put' fault.OutOfMemory read h = inl h
