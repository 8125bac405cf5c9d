-- What a step is given by the crates above this one: what the routes say, and how an own LSP is
-- written as octets.
use Rattle.std.specs.Prelude.{ℕ, Bool, List}
use Rattle.isis_base.specs.declared.level.Level.{Level}
use Rattle.model_router.specs.Routers.{Contents, Router}

-- The prefixes that a state's routes leak into a level, with their metrics (RFC 5302 3); whether a
-- state is attached (ISO 10589 7.2.9.2); and the octets and the checksum of an LSP that is issued,
-- by its level, LSP ID, sequence number and contents (ISO 10589 9.8, 7.3.11).
pub record Given : Type 0 where
  pub leaks : Router → Level → List (ℕ × ℕ)
  pub attached : Router → Bool
  pub octets : Router → Level → ℕ → ℕ → Contents → List ℕ
  pub checksum : Router → Level → ℕ → ℕ → Contents → ℕ
