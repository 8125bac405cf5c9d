use Rattle.std.proofs.Common.{◌≡◌, ◌^◌, ◌<◌, ℕ, List, [], ◌∷◌, length, subst, arith}
use Rattle.isis_base.specs.Identifiers.{lsp_number}
use Rattle.model_router.specs.Numbers.{u48_of}
use Rattle.router_core.proofs.reached.small_system_law.Goals as goal

-- a system's number is below 2 ^ 48, since that of its LSP ID of zeros is below 2 ^ 64
system-small : (xs : List ℕ) → length xs ≡ 6 → lsp_number (record { node = record { system = record { 0 = xs }; pseudonode = 0 }; number = 0 }) < 2 ^ 64 → u48_of xs < 2 ^ 48
unfolding lsp_number
system-small [] six h = absurd (omega (arith, six))
system-small (a ∷ []) six h = absurd (omega (arith, six))
system-small (a ∷ b ∷ []) six h = absurd (omega (arith, six))
system-small (a ∷ b ∷ c ∷ []) six h = absurd (omega (arith, six))
system-small (a ∷ b ∷ c ∷ d ∷ []) six h = absurd (omega (arith, six))
system-small (a ∷ b ∷ c ∷ d ∷ e ∷ []) six h = absurd (omega (arith, six))
system-small (a ∷ b ∷ c ∷ d ∷ e ∷ f ∷ []) six h = omega (arith, h)
system-small (a ∷ b ∷ c ∷ d ∷ e ∷ f ∷ g ∷ xs) six h = absurd (omega (arith, six))

-- src/reached.rt
pub returns : goal.returns
returns c =
    system-small c.args.system.0 c.lsp_id_law.ensures.six
    (subst (λ (n : ℕ). n < 2 ^ 64) c.to_number.ensures c.to_number.type_inv)
