-- Texts that can be joined are refused for nothing; and how the joining ends is how the run on an input ends.
use Rattle.std.proofs.Common.{◌≡◌, ◌∙◌, ℕ, List, Some, None, inl, refl, sym, ap}
use Rattle.lab_script.specs.declared.reason.ScriptFault.{ScriptFault}
use Rattle.lab_script.specs.declared.reason.ScriptFault.TheVariants as script
use Rattle.lab_losses.specs.declared.reason.LossesReason.{LossesReason}
use Rattle.lab_losses.specs.declared.reason.LossesReason.TheVariants as lacks
use Rattle.losses_text.specs.declared.merge_fault.MergeFault.{MergeFault}
use Rattle.losses_text.specs.declared.merge_fault.MergeFault.TheVariants as fault
use Rattle.losses_text.specs.Joined.{Joined, whole}
use Rattle.losses_text.specs.Merging.{IsNotMerged, Read, Reading, Refused, reading_of}
use Rattle.isis_daemon.specs.declared.command.Command.TheVariants.{Merge}
use Rattle.isis_daemon.specs.MergeRuns.{CanBeMerged, LacksParts, RefusesTexts}
use Rattle.isis_daemon.specs.Runs.{EndsOn}
use Rattle.isis_daemon.specs.Statuses.{merge_status}

pub refuses-none : (input : List ℕ) (fault : ScriptFault) → CanBeMerged input → RefusesTexts input fault → ⊥
refuses-none input (script.Refused line why) can refused = cc (can.1.1, refused.1)
refuses-none input (script.Limit which) can refused = refused
refuses-none input script.OutOfMemory can refused = refused

abbrev joined_of : Joined → Reading → Joined
joined_of other (Read joined) = joined
joined_of other (Refused line reason) = other

-- what is read is one
one-reading : (input : List ℕ) (a b : Joined) → reading_of input ≡ Read a → reading_of input ≡ Read b → a ≡ b
one-reading input a b h k = ap (joined_of a) (sym h ∙ k)

pub lacks-no-part : (input : List ℕ) (reason : LossesReason) → CanBeMerged input → LacksParts input reason → ⊥
lacks-no-part input lacks.Keys can lack = lack
lacks-no-part input lacks.Run can lack = lack
lacks-no-part input lacks.Parts can lack = some (sym can.1.2 ∙ ap whole (one-reading input _ _ can.1.1 lack.1) ∙ lack.2)
  where
    some : Some can.0 ≡ None → ⊥
    some h = cc h

pub merge_end : (input put : List ℕ) (f : MergeFault) → IsNotMerged input f → EndsOn Merge input put put (merge_status f)
merge_end input put (fault.Refused line reason) h = ((reason, h, refl), refl)
merge_end input put fault.Parts h = (h, refl)
merge_end input put fault.OutOfMemory h = inl refl
