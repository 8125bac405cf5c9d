-- What the pages of a map keep (own).
use Rattle.std.specs.Prelude.{◌≡◌, ℕ, ◌+◌, ◌<◌, ◌^◌, List, length}
use Rattle.std.specs.List.{AllByRecursion}
use Rattle.isis_base.specs.declared.identifiers.LspId.{LspId}
use Rattle.isis_base.specs.Identifiers.{IsId}
use Rattle.lsp_store.specs.Maps.{RisesFrom}
use Rattle.lsp_store.specs.Rooms.{IsEnough, AreDense}
use Rattle.lsp_store.specs.Places.{flatten, AllFilled, AllEmpty, HasRoom}

-- what the pages keep: each has 1 to 64 pairs, two neighbours have more than 32, all pairs are in
-- order and counted, their LSP IDs have eight octets, and enough empty pages are kept for the pairs
-- that are spare
pub record IsPaged {T : Type 0} (pages pool : List (List (LspId × T)))
    (pages_len pool_len pages_room pool_room len spare : ℕ) : Type 0 where
  pub filled : AllFilled pages
  pub empty : AllEmpty pool
  pub dense : AreDense pages
  pub rises : RisesFrom 0 (flatten pages)
  pub ids : AllByRecursion (λ (pair : LspId × T). IsId pair.0) (flatten pages)
  pub size : len ≡ length (flatten pages)
  pub enough : IsEnough pages pool_len spare
  pub fits : len + spare < 2 ^ 64
  pub room : HasRoom pages_len pool_len pages_room pool_room
