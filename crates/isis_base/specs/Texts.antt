-- The texts of identifiers and keys, and where a text that is none goes wrong (own).
use Rattle.std.specs.Prelude.{◌≡◌, ℕ, ◌+◌, ◌/◌, ◌%◌, ◌<◌, ◌≤◌, List, [], ◌∷◌, ◌++◌, length, take, codes, decimal, if◌then◌else◌}
use Rattle.std.specs.List.{AllByRecursion}
use Rattle.std.specs.Char.{digit_char}
use Rattle.std.specs.Str.{str_to_ascii_lowercase}
use Rattle.isis_base.specs.declared.identifiers.SystemId.{SystemId}
use Rattle.isis_base.specs.declared.identifiers.Snpa.{Snpa}
use Rattle.isis_base.specs.declared.identifiers.NodeId.{NodeId}
use Rattle.isis_base.specs.declared.identifiers.LspId.{LspId}
use Rattle.isis_base.specs.declared.key.Key.{Key}
use Rattle.isis_base.specs.declared.texts.TheConstants.{SYSTEM_TEXT, NODE_TEXT, LSP_TEXT}
use Rattle.isis_base.specs.Identifiers.{node_octets, lsp_octets}
use Rattle.isis_base.specs.declared.parts.Part.{Part}
use Rattle.isis_base.specs.declared.parts.Part.TheVariants.{Octet, Mark}

-- an octet as two lower-case hex digits
abbrev pub hex_pair : ℕ → List ℕ
hex_pair octet = digit_char (octet / 16) ∷ digit_char (octet % 16) ∷ []

-- octets written into a form of octets and marks
abbrev pub form_text : List Part → List ℕ → List ℕ
form_text [] octets = []
form_text (Mark mark ∷ parts) octets = mark ∷ form_text parts octets
form_text (Octet ∷ parts) [] = []
form_text (Octet ∷ parts) (octet ∷ octets) = hex_pair octet ++ form_text parts octets

abbrev pub octet_count : List Part → ℕ
octet_count [] = 0
octet_count (Mark mark ∷ parts) = octet_count parts
octet_count (Octet ∷ parts) = octet_count parts + 1

-- the text spells these octets in this form; upper case is read too (own)
pub record Spells (parts : List Part) (text octets : List ℕ) : Type 0 where
  pub small : AllByRecursion (λ octet. octet < 256) octets
  pub count : length octets ≡ octet_count parts
  pub same : str_to_ascii_lowercase text ≡ form_text parts octets

-- the text is none of these, and place is the length of its longest prefix that some such text begins with
pub record IsFaultAt (IsText : List ℕ → Type 0) (text : List ℕ) (place : ℕ) : Type 0 where
  pub none : IsText text → ⊥
  pub within : place ≤ length text
  pub begins : (more : List ℕ) × IsText (take place text ++ more)
  pub longest : (n : ℕ) (more : List ℕ) → n ≤ length text → IsText (take n text ++ more) → n ≤ place

-- the text has this form
abbrev pub HasForm : List Part → List ℕ → Type 0
HasForm parts text = (octets : List ℕ) × Spells parts text octets

-- a system ID's text, as 0000.0000.0001 (own)
abbrev pub system_text : SystemId → List ℕ
system_text system = form_text SYSTEM_TEXT system.0

-- an SNPA's text has the form of a system ID's (own)
abbrev pub snpa_text : Snpa → List ℕ
snpa_text snpa = form_text SYSTEM_TEXT snpa.0

-- a node ID's text, as 0000.0000.0001.00 (own)
abbrev pub node_text : NodeId → List ℕ
node_text node = form_text NODE_TEXT (node_octets node)

-- an LSP ID's text, as 0000.0000.0001.00-00 (own)
abbrev pub lsp_text : LspId → List ℕ
lsp_text id = form_text LSP_TEXT (lsp_octets id)

-- a key's text: its number and its mark, as 5 live (own)
abbrev pub key_text : Key → List ℕ
key_text key = decimal key.number ++ (if key.purged then codes " purged" else codes " live")
