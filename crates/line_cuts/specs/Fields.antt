-- What words of several kinds of lines say, and how it is written (own).
use Rattle.std.specs.Prelude.{ℕ, Bool, true, false, List, Option, Some, None, codes, option_and_then, if◌then◌else◌}
use Rattle.std.specs.Str.{bytes_eq}
use Rattle.isis_base.specs.declared.prefix.Prefix.{Prefix}
use Rattle.isis_base.specs.PrefixFronts.{prefix_parts}
use Rattle.isis_base.specs.Prefixes.{prefix_from}

-- the prefix of a text
abbrev pub prefix_of : List ℕ → Option Prefix
prefix_of word = option_and_then (λ parts. prefix_from parts.0 parts.1) (prefix_parts word)

abbrev pub on_of : List ℕ → Option Bool
on_of word =
    if bytes_eq word (codes "on") then Some true
    else if bytes_eq word (codes "off") then Some false
    else None

abbrev pub on_text : Bool → List ℕ
on_text true = codes "on"
on_text false = codes "off"
