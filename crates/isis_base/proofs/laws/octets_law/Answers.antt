use Rattle.std.proofs.Common.{ℕ, suc, ◌<◌, List, [], ◌∷◌, get_or, Fits, w8, arith}
use Rattle.std.specs.List.{AllByRecursion}
use Rattle.isis_base.proofs.laws.octets_law.Goals as goal

small : (xs : List ℕ) → ((i : ℕ) → Fits w8 (get_or xs i 0)) → AllByRecursion (λ octet. octet < 256) xs
small [] h = tt
small (x ∷ xs) h = (omega (arith, h 0), small xs (λ i. h (suc i)))

pub returns : goal.returns
returns c = small c.args.octets.now c.type_inv.octets
