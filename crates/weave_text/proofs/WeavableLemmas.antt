-- Journals that have a weaving.
use Rattle.std.proofs.Common.{◌≡◌, ℕ, List, Result, Ok, Err, refl}
use Rattle.model_router.specs.Routers.{Router}
use Rattle.network_lab.specs.Passed.{given}
use Rattle.model_network.specs.Networks.{Network}
use Rattle.model_network.specs.Runs.{Happening}
use Rattle.lab_script.specs.declared.reason.ScriptFault.{ScriptFault}
use Rattle.weave_model.specs.Weavings.{Scene, IsWeaving}
use Rattle.weave_replay.specs.declared.fault.ReplayFault.{ReplayFault}
use Rattle.weave_replay.specs.declared.fault.ReplayFault.TheVariants as replay
use Rattle.weave_replay.specs.declared.journal.WovenJournal.{WovenJournal}
use Rattle.weave_replay.specs.Replays as replays
use Rattle.weave_replay.specs.Replays.{IsTold, AreReplayed}
use Rattle.weave.specs.Passed.{begin}
use Rattle.weave.specs.declared.fault.WeaveFault.{WeaveFault}
use Rattle.weave.specs.declared.fault.WeaveFault.TheVariants as fault
use Rattle.weave.specs.Faults.{no_memory, IsToldOf}
use Rattle.weave_text.specs.Weavings.{Weaving}
use Rattle.weave_text.specs.Weaves.{HaveWeaving, HasNoWeaving, IsWeavable}

-- where nothing applies that replay tells, nothing of it is told
abbrev pub NoneTold : Type 0
NoneTold = (routers : List Router) (journals : List WovenJournal) (f : ReplayFault) → AreReplayed routers journals → IsTold routers journals f → f ≡ replays.no_memory

-- where a schedule weaves all, no entry is told that none comes to
abbrev pub NoneStuck : Type 0
NoneStuck = (net : Network) (journals : List WovenJournal) (journal entry : ℕ) (hs : List Happening) (s : Scene) → IsToldOf net journals (fault.Stuck journal entry) → IsWeaving given hs (begin net journals) s → ⊥

told-none : NoneTold → NoneStuck → (net : Network) (journals : List WovenJournal) (f : WeaveFault) → HaveWeaving net journals → IsToldOf net journals f → f ≡ no_memory
told-none none stuck net journals (fault.Event journal entry) h told = absurd (cc (none net.routers journals (replay.Event journal entry) h.replayed told))
told-none none stuck net journals (fault.Reply journal entry) h told = absurd (cc (none net.routers journals (replay.Reply journal entry) h.replayed told))
told-none none stuck net journals (fault.Limit name) h told = absurd (cc (none net.routers journals (replay.Limit name) h.replayed told))
told-none none stuck net journals (fault.Stuck journal entry) h told = absurd (stuck net journals journal entry h.hs h.last told h.woven)
told-none none stuck net journals fault.OutOfMemory h told = refl

pub none-against : NoneTold → NoneStuck → (said : Result Weaving ScriptFault) (f : WeaveFault) → IsWeavable said → HasNoWeaving said f → f ≡ no_memory
none-against none stuck (Ok weaving) f weavable against =
    told-none none stuck weaving.net against.journals f (weavable against.journals against.are) against.told
none-against none stuck (Err refused) f weavable against = absurd weavable
