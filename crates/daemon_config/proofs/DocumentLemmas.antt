-- Octets that are text, and such as are none.
use Rattle.std.proofs.Common.{◌≡◌, ℕ, Bool, cond, List, None, ap}
use Rattle.std.specs.Str.{IsUtf8, is_utf8}
use Rattle.std.proofs.lemmas.Bool.{false_from_ne_true}
use Rattle.std.proofs.lemmas.Str.{IsUtf8-from_is_utf8, is_utf8-from_IsUtf8}
use Rattle.toml.specs.Parse.{parse_document}
use Rattle.daemon_config.specs.Documents.{document_in}

pub not-text : (octets : List ℕ) → (IsUtf8 octets → ⊥) → document_in octets ≡ None
unfolding document_in
not-text octets bad = ap (λ (t : Bool). cond t (parse_document octets) None) (false_from_ne_true (is_utf8 octets) (λ yes. bad (IsUtf8-from_is_utf8 octets yes)))

pub is-text : (octets : List ℕ) → IsUtf8 octets → document_in octets ≡ parse_document octets
unfolding document_in
is-text octets good = ap (λ (t : Bool). cond t (parse_document octets) None) (is_utf8-from_IsUtf8 octets good)
