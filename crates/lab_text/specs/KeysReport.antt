-- The report of a keys script: a line for each key that a router holds (own).
use Rattle.std.specs.Prelude.{ℕ, ◌+◌, List, [], ◌∷◌, ◌++◌, codes}
use Rattle.std.specs.List.{flat_map}
use Rattle.isis_base.specs.declared.identifiers.LspId.{LspId}
use Rattle.isis_base.specs.declared.key.Key.{Key}
use Rattle.isis_base.specs.Texts.{lsp_text, key_text}
use Rattle.lab_keys.specs.KeysNet.{Net}
use Rattle.lab_keys.specs.KeysHeld.{keys_at}

abbrev pub head_line : List ℕ
head_line = codes "isis-report 1\n"

-- `key NAME LSPID NUMBER live|purged`, and LF (own)
abbrev pub key_line : List ℕ → LspId × Key → List ℕ
key_line name entry =
    codes "key " ++ name ++ codes " " ++ lsp_text entry.0 ++ codes " " ++ key_text entry.1
    ++ codes "\n"

-- the lines of the routers from this number on, whose names these are: each router's keys, by LSP ID (own)
abbrev pub router_lines : Net → ℕ → List (List ℕ) → List ℕ
router_lines net router [] = []
router_lines net router (name ∷ names) =
    flat_map (key_line name) (keys_at net router) ++ router_lines net (router + 1) names

-- the report of a network whose routers have these names (own)
abbrev pub report_of_net : List (List ℕ) → Net → List ℕ
report_of_net names net = head_line ++ router_lines net 0 names
