-- The fields of lines: a reader for each kind, from a word to the value that it writes (own).
use Rattle.std.specs.Prelude.{ℕ, zero, suc, ◌^◌, ◌&&◌, nat_lt, nat_le, Bool, true, false, List, [], ◌∷◌, length, Option, Some, None, codes, option_and_then, if◌then◌else◌}
use Rattle.std.specs.List.{list_all}
use Rattle.std.specs.Char.{is_ascii_alphabetic, is_ascii_alphanumeric}
use Rattle.std.specs.Option.{option_map}
use Rattle.std.specs.Str.{bytes_eq}
use Rattle.std.proofs.Math.Nat.{zero-lt-suc}
use Rattle.line_cuts.specs.Numerals.{numeral_of}
use Rattle.isis_base.specs.declared.identifiers.LspId.{LspId}
use Rattle.isis_base.specs.declared.key.Key.{Key}
use Rattle.isis_base.specs.declared.texts.TheConstants.{LSP_TEXT}
use Rattle.isis_base.specs.Identifiers.{lsp_from}
use Rattle.isis_base.specs.Misfit.{text_octets}

-- a name: a letter, then up to 15 letters or digits (own)
abbrev pub is_name : List ℕ → Bool
is_name [] = false
is_name (first ∷ rest) =
    is_ascii_alphabetic first && nat_le (length rest) 15 && list_all is_ascii_alphanumeric rest

-- the name that a word is (own)
abbrev pub name_of : List ℕ → Option (List ℕ)
name_of word = if is_name word then Some word else None

-- each word is a name
abbrev pub are_names : List (List ℕ) → Bool
are_names words = list_all is_name words

-- the number of a copy: none has number 0, nor one above the numbers of this machine, so such a one counts as 0 (own)
abbrev pub copy_of : List ℕ → Option ℕ
copy_of word = option_map (λ n. if nat_lt n (2 ^ 64) then n else 0) (numeral_of word)

-- the LSP ID of a text
abbrev pub id_of : List ℕ → Option LspId
id_of text = option_map lsp_from (text_octets LSP_TEXT text)

-- a key's number is 1 to 4294967295 (ISO 10589 7.3.16.1)
abbrev pub key_from : ℕ → Bool → Option Key
key_from zero purged = None
key_from (suc n) purged =
    if nat_lt (suc n) (2 ^ 32)
    then Some (record { number = suc n; purged = purged; numbered = zero-lt-suc n }) else None

-- whether a word says that a key is purged
abbrev pub mark_of : List ℕ → Option Bool
mark_of word =
    if bytes_eq word (codes "live") then Some false
    else (if bytes_eq word (codes "purged") then Some true else None)

-- the key of a number and a mark
abbrev pub key_of : List ℕ → List ℕ → Option Key
key_of number mark =
    option_and_then (λ n. option_and_then (λ purged. key_from n purged) (mark_of mark))
    (numeral_of number)
