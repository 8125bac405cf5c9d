-- Why there is no walk, and the words of it (own).
use Rattle.std.specs.Prelude.{ℕ, List, Option, Some, None, codes}
use Rattle.walk_text.specs.declared.forward_fault.ForwardFault.{ForwardFault}
use Rattle.walk_text.specs.declared.forward_fault.ForwardFault.TheVariants as forward
use Rattle.walk_text.specs.declared.reason.WalkReason.{WalkReason}
use Rattle.walk_text.specs.declared.reason.WalkReason.TheVariants.{Keys, Name, Levels, Stranger, Views, Unsettled, Zero, Owners, NoRoute}

-- a reason's word (own)
abbrev pub reason_word : WalkReason → List ℕ
reason_word Keys = codes "keys"
reason_word Name = codes "name"
reason_word Levels = codes "levels"
reason_word Stranger = codes "stranger"
reason_word Views = codes "views"
reason_word Unsettled = codes "unsettled"
reason_word Zero = codes "zero"
reason_word Owners = codes "owners"
reason_word NoRoute = codes "no-route"

-- the reason that is told of why a walk isn't promised; want of memory is none
abbrev pub reason_of : ForwardFault → Option WalkReason
reason_of (forward.Levels router) = Some Levels
reason_of (forward.Stranger system) = Some Stranger
reason_of (forward.Views router) = Some Views
reason_of (forward.Unsettled router) = Some Unsettled
reason_of (forward.Zero router) = Some Zero
reason_of (forward.Owners count) = Some Owners
reason_of forward.NoRoute = Some NoRoute
reason_of forward.OutOfMemory = None
