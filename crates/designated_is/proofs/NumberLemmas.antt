-- A system ID's octets give the same number as those of its first LSP ID.
use Rattle.std.proofs.Common.{◌≡◌, ◌/◌, ℕ, List, [], ◌∷◌, length, arith}
use Rattle.isis_base.specs.declared.identifiers.SystemId.{SystemId}
use Rattle.isis_base.specs.Identifiers.{lsp_number}
use Rattle.model_router.specs.Numbers.{system_number}

systems : (xs : List ℕ) → length xs ≡ 6 → lsp_number (record { node = record { system = record { 0 = xs }; pseudonode = 0 }; number = 0 }) / 65536 ≡ system_number (record { 0 = xs })
unfolding lsp_number
systems [] six = absurd (omega arith)
systems (a ∷ []) six = absurd (omega arith)
systems (a ∷ b ∷ []) six = absurd (omega arith)
systems (a ∷ b ∷ c ∷ []) six = absurd (omega arith)
systems (a ∷ b ∷ c ∷ d ∷ []) six = absurd (omega arith)
systems (a ∷ b ∷ c ∷ d ∷ e ∷ []) six = absurd (omega arith)
systems (a ∷ b ∷ c ∷ d ∷ e ∷ f ∷ []) six = omega arith
systems (a ∷ b ∷ c ∷ d ∷ e ∷ f ∷ g ∷ xs) six = absurd (omega arith)

pub first-lsp : (system : SystemId) → length system.0 ≡ 6 → lsp_number (record { node = record { system = system; pseudonode = 0 }; number = 0 }) / 65536 ≡ system_number system
first-lsp system six = systems system.0 six
