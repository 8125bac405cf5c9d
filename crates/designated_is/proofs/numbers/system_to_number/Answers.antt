use Rattle.std.proofs.Common.{◌≡◌, ◌/◌, ℕ, length, ap, ◌∙◌, arith}
use Rattle.designated_is.proofs.NumberLemmas.{first-lsp}
use Rattle.designated_is.proofs.numbers.system_to_number.Goals as goal

pub returns-clause-value : goal.returns-clause-value
returns-clause-value c =
    let six : length c.args.system.0 ≡ 6 = omega arith in
    ap (λ (n : ℕ). n / 65536) c.to_number.ensures ∙ first-lsp c.args.system six
