-- An LSP that tells routes what is held of its LSP ID already (own).
use Rattle.std.specs.Prelude.{◌≡◌, ◌<◌, true, drop, Option, Some, None}
use Rattle.lsp_store.specs.declared.entry.Entry.{Entry}
use Rattle.lsp_store.specs.Databases.{is_live}
use Rattle.flag_sync.specs.declared.heard.LspHeard.{LspHeard}

-- an entry and an LSP are live, and tell routes the same: their flags, and what stands behind their headers (own)
pub record TellsAgain (held : Entry) (lsp : LspHeard) : Type 0 where
  pub live : is_live held ≡ true
  pub number : 0 < lsp.entry.number
  pub lifetime : 0 < lsp.entry.lifetime
  pub flags : lsp.flags ≡ held.flags
  pub octets : drop 27 lsp.octets.now ≡ drop 27 held.octets

-- something is held, and tells it (own)
abbrev pub IsRefresh : Option Entry → LspHeard → Type 0
IsRefresh None lsp = ⊥
IsRefresh (Some held) lsp = TellsAgain held lsp
