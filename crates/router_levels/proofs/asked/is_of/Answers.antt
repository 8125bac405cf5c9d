use Rattle.std.proofs.Common.{◌≡◌, ◌==◌, ◌/◌, ℕ, List, [], ◌∷◌, length, ap₂, ap, ◌∙◌, arith}
use Rattle.isis_base.specs.Identifiers.{lsp_number}
use Rattle.model_router.specs.Numbers.{u48_of}
use Rattle.router_levels.proofs.asked.is_of.Goals as goal

-- a system's number is that of its LSP ID of zeros, without the last two octets
system-is : (xs : List ℕ) → length xs ≡ 6 → lsp_number (record { node = record { system = record { 0 = xs }; pseudonode = 0 }; number = 0 }) / 65536 ≡ u48_of xs
unfolding lsp_number
system-is [] six = absurd (omega arith)
system-is (a ∷ []) six = absurd (omega arith)
system-is (a ∷ b ∷ []) six = absurd (omega arith)
system-is (a ∷ b ∷ c ∷ []) six = absurd (omega arith)
system-is (a ∷ b ∷ c ∷ d ∷ []) six = absurd (omega arith)
system-is (a ∷ b ∷ c ∷ d ∷ e ∷ []) six = absurd (omega arith)
system-is (a ∷ b ∷ c ∷ d ∷ e ∷ f ∷ []) six = omega arith
system-is (a ∷ b ∷ c ∷ d ∷ e ∷ f ∷ g ∷ xs) six = absurd (omega arith)

pub returns : goal.returns
returns c =
    ap₂ (λ (a b : ℕ). a / 65536 == b) c.to_number.ensures (ap (λ (n : ℕ). n / 65536) c.to_number-2.ensures ∙ system-is c.args.system.0 c.lsp_id_law.ensures.six)
