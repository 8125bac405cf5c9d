-- What is held of an LSP, where it may be sent (ISO 10589 7.3.15.5; the form: own).
use Rattle.std.specs.Prelude.{◌≡◌, ℕ, ◌≤◌, false, List, ◌++◌, length, replicate, Some}
use Rattle.std.specs.Option.{option_map}
use Rattle.isis_base.specs.PduKinds.{kind_at, header_length}
use Rattle.isis_base.specs.Keys.{rank}
use Rattle.isis_base.specs.Fields.{u16_octets}
use Rattle.hmac_auth.specs.Pdus.{with_piece}
use Rattle.model_router.specs.Ranks.{is_live}
use Rattle.model_datagram.specs.Signing.{auth_octets}
use Rattle.lsp_store.specs.declared.entry.Entry.{Entry}

-- the octets are a header alone, of a type whose header has 27 octets (9.8)
pub record IsHeader (octets : List ℕ) : Type 0 where
  pub alone : length octets ≡ 27
  pub kind : option_map header_length (kind_at octets) ≡ Some 27

-- an entry with the octets of a header, which a purge's are alone (own)
pub record IsPuttable (entry : Entry) : Type 0 where
  pub header : 27 ≤ length entry.octets
  pub purge : is_live (rank entry.key) ≡ false → IsHeader entry.octets

-- a purge's header with the authentication before its digest is known (RFC 5304 2)
abbrev pub unsigned_purge : List ℕ → List ℕ
unsigned_purge header = with_piece 8 (u16_octets 46) header ++ auth_octets (replicate 16 0)
