-- A prefix as a number, and the prefix of an address and a length (own).
use Rattle.std.specs.Prelude.{◌≡◌, ℕ, ◌+◌, ◌*◌, ◌-◌, ◌%◌, ◌^◌, ◌==◌, nat_le, Bool, true, false, Option, Some, None, refl}
use Rattle.std.proofs.lemmas.Bool.{leb-true, eqb-true}
use Rattle.isis_base.specs.declared.prefix.Prefix.{Prefix}

-- a prefix as a number (own)
abbrev pub prefix_number : Prefix → ℕ
prefix_number prefix = 64 * prefix.address + prefix.length

-- what follows from a test where it holds, and nothing where it doesn't
abbrev pub where_true : {A : Type 0} (test : Bool) → (test ≡ true → Option A) → Option A
where_true true after = after refl
where_true false after = None

-- the prefix of this address and length; none where the length is above 32 or a bit past it is set
unfoldable pub prefix_from : ℕ → ℕ → Option Prefix
prefix_from address length =
    where_true (nat_le length 32) (λ short.
    where_true (address % 2 ^ (32 - length) == 0) (λ clear.
    Some (record { address = address; length = length; fits = leb-true length 32 short; clear = eqb-true (address % 2 ^ (32 - length)) 0 clear })))
