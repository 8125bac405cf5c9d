-- A map in pages as contracts see it (own).
use Rattle.std.specs.Prelude.{ℕ, ◌-◌, List, is_some, if◌then◌else◌}
use Rattle.isis_base.specs.declared.identifiers.LspId.{LspId}
use Rattle.isis_base.specs.Identifiers.{lsp_number}
use Rattle.lsp_store.specs.Maps.{find, put, erase}

-- a map's pairs in order, and for how many more of them memory is taken already
pub record PageMap (T : Type 0) : Type 0 where
  pub entries : List (LspId × T)
  pub spare : ℕ

-- with an LSP ID's value set; a new pair uses up one that is spare
abbrev pub with_put : {T : Type 0} → PageMap T → LspId → T → PageMap T
with_put map id value = record {
  entries = put map.entries id value;
  spare = if is_some (find map.entries (lsp_number id)) then map.spare else map.spare - 1;
}

-- without the number's pair
abbrev pub without : {T : Type 0} → PageMap T → ℕ → PageMap T
without kept n = record { entries = erase kept.entries n; spare = kept.spare }
