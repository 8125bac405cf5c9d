-- Each address has at least one octet.
use Rattle.std.proofs.Common.{ℕ, ◌≤◌, length, Option, Bool, true, false, cond, leb, Some, None, arith}
use Rattle.std.specs.Option.{IfSome}
use Rattle.isis_tlv.specs.Items.{TakesSome}
use Rattle.value_text.specs.Addresses.{address_at}

sized : {X : Type 0} (fits : Bool) (item : X) → IfSome {T = X × ℕ} (cond fits (Some (item, 4)) None) (λ found. 1 ≤ found.1)
sized true item = omega arith
sized false item = tt

pub address-takes_one : TakesSome address_at
address-takes_one octets = sized (leb 4 (length octets)) _
