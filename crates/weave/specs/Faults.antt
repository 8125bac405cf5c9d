-- What is told of journals that aren't woven (own).
use Rattle.std.specs.Prelude.{List}
use Rattle.model_network.specs.Networks.{Network}
use Rattle.weave_replay.specs.declared.journal.WovenJournal.{WovenJournal}
use Rattle.weave_replay.specs.declared.fault.ReplayFault.TheVariants as replay
use Rattle.weave_replay.specs.Replays.{IsTold, AreReplayed}
use Rattle.weave.specs.declared.fault.WeaveFault.{WeaveFault}
use Rattle.weave.specs.declared.fault.WeaveFault.TheVariants as fault
use Rattle.weave.specs.Unreached.{IsFirstUnreached}

abbrev pub no_memory : WeaveFault
no_memory = fault.OutOfMemory

-- The first of these that applies: an entry with a fault, a limit, an entry that no front reaches.
-- Of want of memory nothing is said.
abbrev pub IsToldOf : Network → List WovenJournal → WeaveFault → Type 0
IsToldOf net journals (fault.Event journal entry) =
    IsTold net.routers journals (replay.Event journal entry)
IsToldOf net journals (fault.Reply journal entry) =
    IsTold net.routers journals (replay.Reply journal entry)
IsToldOf net journals (fault.Limit name) = IsTold net.routers journals (replay.Limit name)
IsToldOf net journals (fault.Stuck journal entry) =
    AreReplayed net.routers journals × IsFirstUnreached net journals journal entry
IsToldOf net journals fault.OutOfMemory = Unit {0}
