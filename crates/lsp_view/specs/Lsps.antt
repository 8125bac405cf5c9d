-- LSPs as they are read: those of a database, or those of one node with one of them as it will be. All of it own.
use Rattle.std.specs.Prelude.{◌≡◌, ℕ, ◌≤◌, ◌⊎◌, nat_lt, List, [], ◌∷◌, filter, Option, Some, None}
use Rattle.std.specs.Borrow.{Bor}
use Rattle.isis_base.specs.declared.identifiers.LspId.{LspId}
use Rattle.lsp_store.specs.declared.entry.Entry.{Entry}
use Rattle.lsp_store.specs.Maps.{between, pair_number, pair_of, put}
use Rattle.lsp_view.specs.declared.lsps.Lsps.{Lsps}
use Rattle.lsp_view.specs.Views.{number_of}

-- the LSPs of an LSP ID's node, with an entry in the place of what is held of the LSP ID (own)
unfoldable pub node_with : List (LspId × Entry) → LspId → Entry → List (LspId × Entry)
node_with entries id entry = put (between (number_of id.node 0) (number_of id.node 255) entries) id entry

-- those of a database, or those of a node with one in the place of what is held (own)
abbrev pub lsps_of : List (LspId × Entry) → Option (LspId × Bor Entry) → List (LspId × Entry)
lsps_of entries None = entries
lsps_of entries (Some one) = node_with entries one.0 one.1.now

abbrev pub entries_in : Lsps → List (LspId × Entry)
entries_in lsps = lsps_of lsps.store.now.entries lsps.one

-- ---- the parts of a walk

-- what is left of a walk, where there is one (own)
abbrev pub left_in : Option (List (LspId × Entry)) → List (LspId × Entry)
left_in None = []
left_in (Some left) = left

-- own
abbrev pub one_in : Option (LspId × Bor Entry) → List (LspId × Entry)
one_in None = []
one_in (Some one) = pair_of one ∷ []

-- the LSPs whose numbers are below another, and those whose are above it (own)
abbrev pub below_of : ℕ → List (LspId × Entry) → List (LspId × Entry)
below_of n entries = filter (λ (pair : LspId × Entry). nat_lt (pair_number pair) n) entries

abbrev pub above_of : ℕ → List (LspId × Entry) → List (LspId × Entry)
above_of n entries = filter (λ (pair : LspId × Entry). nat_lt n (pair_number pair)) entries

-- the ends of a range that lies within another (own)
pub record AreClipped (start end first last low high : ℕ) : Type 0 where
  pub above : (start ≤ low) × (first ≤ low)
  pub below : (high ≤ end) × (high ≤ last)
  pub least : (low ≡ start) ⊎ (low ≡ first)
  pub most : (high ≡ end) ⊎ (high ≡ last)
