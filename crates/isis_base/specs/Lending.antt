-- What a list of octets is after it was lent to be written (own).
use Rattle.std.specs.Prelude.{ℕ, List}
use Rattle.std.specs.Borrow.{Lends, MutBor, Fml, Array, u8}
use Rattle.isis_base.specs.Octets.{overwritten}
use Rattle.isis_base.specs.contracts.octets.Octets.{the_row}

-- after the loan the list is what was written, at its old length
abbrev pub LendsOctets : MutBor (List ℕ) → MutBor (List ℕ) → Fml
LendsOctets list slice =
    Lends the_row (Array u8 0) list slice (λ written. overwritten list.now written)
