-- The fields of a lab script's lines: a reader for each kind, from a word to the value that it
-- writes (own).
use Rattle.std.specs.Prelude.{ℕ, ◌==◌, nat_le, List, length, Option, Some, None, codes, option_and_then, if◌then◌else◌}
use Rattle.std.specs.Option.{option_map}
use Rattle.std.specs.Str.{bytes_eq}
use Rattle.isis_base.specs.declared.identifiers.SystemId.{SystemId}
use Rattle.isis_base.specs.declared.texts.TheConstants.{SYSTEM_TEXT}
use Rattle.isis_base.specs.Identifiers.{system_from}
use Rattle.isis_base.specs.Misfit.{text_octets}
use Rattle.model_network.specs.declared.word.PduWord.{PduWord}
use Rattle.model_network.specs.declared.word.PduWord.TheVariants.{Hello, Lsp, Csnp, Psnp}
use Rattle.lab_script.specs.declared.named.NamedScope.{NamedScope}
use Rattle.lab_script.specs.declared.named.NamedScope.TheVariants as scope
use Rattle.line_cuts.specs.HexTexts.{hex_of}
use Rattle.line_cuts.specs.Numerals.{number_to}
use Rattle.lab_script.specs.Fields.{name_of}

-- the metric of a circuit (RFC 5305 3)
abbrev pub metric_of : List ℕ → Option ℕ
metric_of word = number_to 16777215 word

-- the metric of a prefix (RFC 5305 4), or the word `none`
abbrev pub prefix_metric_of : List ℕ → Option (Option ℕ)
prefix_metric_of word =
    if bytes_eq word (codes "none") then Some None
    else option_map (λ metric. Some metric) (number_to 4261412864 word)

-- a priority (ISO 10589 9.5)
abbrev pub priority_of : List ℕ → Option ℕ
priority_of word = number_to 127 word

-- the seconds of a run, from 1 (own)
abbrev pub seconds_of : List ℕ → Option ℕ
seconds_of word = option_and_then (λ n. if n == 0 then None else Some n) (number_to 86400 word)

-- the system ID of a text
abbrev pub system_of : List ℕ → Option SystemId
system_of word = option_map system_from (text_octets SYSTEM_TEXT word)

-- a key's octets, 1 to 128 (own)
abbrev pub key_octets_of : List ℕ → Option (List ℕ)
key_octets_of word = if nat_le (length word) 256 then hex_of word else None

-- the kind of PDUs that a word names (own)
abbrev pub pdus_of : List ℕ → Option PduWord
pdus_of word =
    if bytes_eq word (codes "hello") then Some Hello
    else if bytes_eq word (codes "lsp") then Some Lsp
    else if bytes_eq word (codes "csnp") then Some Csnp
    else if bytes_eq word (codes "psnp") then Some Psnp
    else None

-- what a key is for; `area` and `domain` never name a link (own)
abbrev pub scope_of : List ℕ → Option NamedScope
scope_of word =
    if bytes_eq word (codes "area") then Some scope.Area
    else if bytes_eq word (codes "domain") then Some scope.Domain
    else option_map scope.Link (name_of word)
