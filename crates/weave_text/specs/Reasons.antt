-- Why a text's journals can't be woven, and the words of it (own).
use Rattle.std.specs.Prelude.{ℕ, List, codes}
use Rattle.weave.specs.declared.fault.WeaveFault.{WeaveFault}
use Rattle.weave.specs.declared.fault.WeaveFault.TheVariants as weave
use Rattle.weave_text.specs.declared.reason.WeaveReason.{WeaveReason}
use Rattle.weave_text.specs.declared.reason.WeaveReason.TheVariants.{Event, Reply, Stuck}

-- a reason's word (own)
abbrev pub reason_word : WeaveReason → List ℕ
reason_word Event = codes "event"
reason_word Reply = codes "reply"
reason_word Stuck = codes "stuck"

-- what is told of an entry for this reason
abbrev pub fault_for : ℕ → ℕ → WeaveReason → WeaveFault
fault_for journal entry Event = weave.Event journal entry
fault_for journal entry Reply = weave.Reply journal entry
fault_for journal entry Stuck = weave.Stuck journal entry
