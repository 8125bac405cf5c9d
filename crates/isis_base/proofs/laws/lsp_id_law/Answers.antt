use Rattle.std.proofs.Common.{◌<◌, ℕ, List, subst, arith}
use Rattle.std.specs.List.{AllByRecursion}
use Rattle.isis_base.proofs.laws.lsp_id_law.Goals as goal

pub returns : goal.returns
returns c =
    let call = c.octets_of_lsp-octets in
    record { six = omega arith; small = subst (λ (xs : List ℕ). AllByRecursion (λ octet. octet < 256) xs) call.ensures.value call.ensures.small }
