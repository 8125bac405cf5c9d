-- What a port tells before and after a call (own).
use Rattle.std.specs.Prelude.{◌≡◌, ℕ, ◌≤◌, List, [], ◌∷◌, ◌++◌, length, take}
use Rattle.daemon_edge.specs.declared.port.Taken.{Taken}
use Rattle.daemon_edge.specs.declared.port.Taken.TheVariants as taken
use Rattle.daemon_edge.specs.declared.port.Offered.{Offered}
use Rattle.daemon_edge.specs.declared.port.Offered.TheVariants as offer

-- a list has these more (own)
abbrev pub Adds : {X : Type 0} → (before now more : List X) → Type 0
Adds before now more = now ≡ before ++ more

-- the datagram that a take gave, with the buffer as it now is (own)
abbrev pub got : Taken → List ℕ → List (List ℕ)
got (taken.Got count) buffer = take count buffer ∷ []
got taken.NotYet buffer = []
got taken.Failed buffer = []

-- the datagram that a take gave has room in the buffer (own)
abbrev pub Fits : Taken → List ℕ → Type 0
Fits (taken.Got count) buffer = count ≤ length buffer
Fits taken.NotYet buffer = Unit {0}
Fits taken.Failed buffer = Unit {0}

-- the fact, where the take failed
abbrev pub OnFailed : Taken → Type 0 → Type 0
OnFailed (taken.Got count) P = Unit {0}
OnFailed taken.NotYet P = Unit {0}
OnFailed taken.Failed P = P

-- the fact, where the offer failed
abbrev pub OnNotSent : Offered → Type 0 → Type 0
OnNotSent offer.Sent P = Unit {0}
OnNotSent offer.Failed P = P

-- a port just opened: it gave and was offered nothing, and no take was asked (own)
abbrev pub IsFresh : (given offered : List (List ℕ)) → ℕ → Type 0
IsFresh given offered asked = (given ≡ []) × (offered ≡ []) × (asked ≡ 0)
