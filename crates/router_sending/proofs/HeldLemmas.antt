-- What is held, as it is sent.
use Rattle.std.proofs.Common.{◌≡◌, ◌∙◌, ℕ, ◌%◌, ◌<◌, ◌≤◌, List, [], ◌∷◌, ◌++◌, length, drop, set, replicate, eqb, ◌&&◌, Bool, true, false, Option, Some, refl, sym, ap, subst, arith, append-nil}
use Rattle.std.specs.Option.{option_map}
use Rattle.isis_base.specs.Fields.{u16_octets}
use Rattle.isis_base.specs.PduKinds.{kind_at, kind_of_number, header_length}
use Rattle.std.proofs.lemmas.Bool.{le-leb, eqb-false, eq-eqb}
use Rattle.isis_pdu.proofs.ReadLemmas.{kind-reads_back}
use Rattle.model_router.specs.Numbers.{lsp_id}
use Rattle.isis_tlv.specs.Tlvs.{AreTlvs}
use Rattle.isis_tlv.specs.Framed.{IsPdu}
use Rattle.isis_tlv.proofs.TlvLemmas.{tlvs-one}
use Rattle.hmac_auth.specs.Auth.{IsDigestPlace, digest_place}
use Rattle.hmac_auth.specs.Hmac.{hmac}
use Rattle.hmac_auth.specs.Pdus.{with_piece, blanked}
use Rattle.hmac_auth.proofs.HmacLemmas.{length-hmac}
use Rattle.model_datagram.specs.Signing.{auth_octets}
use Rattle.model_datagram.specs.Lsps.{signed_purge}
use Rattle.model_datagram.proofs.AuthLemmas.{blank, written-digest, place-digest}
use Rattle.model_datagram.proofs.ListLemmas.{of-exactly}
use Rattle.isis_base.specs.declared.identifiers.LspId.{LspId}
use Rattle.isis_base.specs.declared.level.Level.{Level}
use Rattle.isis_base.specs.declared.pdu_kind.PduKind.TheVariants as kind
use Rattle.isis_base.specs.Keys.{rank}
use Rattle.isis_pdu.specs.Views.{Lsp}
use Rattle.isis_pdu.specs.Reading.{Begins}
use Rattle.model_router.specs.Ranks.{number_of, is_live, is_purge}
use Rattle.model_datagram.specs.LspLaws.{IsSendable}
use Rattle.lsp_store.specs.declared.entry.Entry.{Entry}
use Rattle.flag_sync.specs.declared.flag_row.FlagRow.{FlagRow}
use Rattle.flag_sync.specs.FlagRows.{cell_of}
use Rattle.router_sending.specs.Held.{IsHeader, IsPuttable, unsigned_purge}

abbrev sized : List ℕ → List ℕ
sized header = with_piece 8 (u16_octets 46) header

pub written-header : (header : List ℕ) → length header ≡ 27 → set (set (header ++ (10 ∷ 17 ∷ 54 ∷ replicate 16 0)) 8 0) 9 46 ≡ unsigned_purge header
written-header header = of-exactly 27 (λ header. set (set (header ++ (10 ∷ 17 ∷ 54 ∷ replicate 16 0)) 8 0) 9 46 ≡ unsigned_purge header)
    (λ a b c d e f g h j k l m n o p q r s t u v w x y z aa bb. refl) header

sized-length : (header : List ℕ) → length header ≡ 27 → length (sized header) ≡ 27
sized-length header = of-exactly 27 (λ header. length (sized header) ≡ 27)
    (λ a b c d e f g h j k l m n o p q r s t u v w x y z aa bb. refl) header

pub unsigned-length : (header : List ℕ) → length header ≡ 27 → length (unsigned_purge header) ≡ 46
unsigned-length header = of-exactly 27 (λ header. length (unsigned_purge header) ≡ 46)
    (λ a b c d e f g h j k l m n o p q r s t u v w x y z aa bb. refl) header

unsigned-kind : (header : List ℕ) → length header ≡ 27 → kind_at (unsigned_purge header) ≡ kind_at header
unsigned-kind header = of-exactly 27 (λ header. kind_at (unsigned_purge header) ≡ kind_at header)
    (λ a b c d e f g h j k l m n o p q r s t u v w x y z aa bb. refl) header

unsigned-tlvs : (header : List ℕ) → length header ≡ 27 → drop 27 (unsigned_purge header) ≡ auth_octets blank
unsigned-tlvs header = of-exactly 27 (λ header. drop 27 (unsigned_purge header) ≡ auth_octets blank)
    (λ a b c d e f g h j k l m n o p q r s t u v w x y z aa bb. refl) header

behind : (header d : List ℕ) → sized header ++ (auth_octets d ++ []) ≡ sized header ++ auth_octets d
behind header d = ap (λ (tlvs : List ℕ). sized header ++ tlvs) (append-nil (auth_octets d))

module _ (header : List ℕ) (is : IsHeader header) where
  framed : IsPdu (unsigned_purge header) 27
  framed =
      let all = unsigned-length header is.alone in
      record {
        kind = ap (option_map header_length) (unsigned-kind header is.alone) ∙ is.kind;
        within = omega (arith, all);
        tlvs = subst AreTlvs (sym (unsigned-tlvs header is.alone)) (tlvs-one 10 (54 ∷ blank));
      }

  pub purge-place : IsDigestPlace (unsigned_purge header) 30
  purge-place = (
    27,
    framed,
    ap (λ (octets : List ℕ). digest_place octets 27) (sym (behind header blank))
        ∙ place-digest (sized header) [] 27 (sized-length header is.alone),
  )

  pub purge-signed : (key : List ℕ) → with_piece 30 (hmac key (blanked (unsigned_purge header) 30)) (unsigned_purge header) ≡ signed_purge (Some key) header
  purge-signed key =
      let d = hmac key (blanked (unsigned_purge header) 30) in
      ap (with_piece 30 d) (sym (behind header blank))
      ∙ sym (written-digest (sized header) [] 27 (sized-length header is.alone) d (length-hmac key (blanked (unsigned_purge header) 30)))
      ∙ behind header d

-- ---- what may be sent

of-begins : (octets : List ℕ) (level : Level) (id : LspId) (number flags n : ℕ) → Begins octets (Lsp level 0 id number 0 flags []) n → kind_at octets ≡ Some (kind.Lsp level)
of-begins octets level id number flags n begins = ap kind_of_number begins.0.kind ∙ kind-reads_back (kind.Lsp level)

-- a key is live or purged
live-or-purge : (rank : ℕ) → 0 < rank → is_live rank ≡ false → is_purge rank ≡ true
live-or-purge rank some dead =
    let odd : eqb (rank % 2) 0 ≡ false = sym (ap (λ (t : Bool). t && eqb (rank % 2) 0) (le-leb 1 rank some)) ∙ dead in
    let apart = eqb-false (rank % 2) 0 odd in
    eq-eqb (rank % 2) 1 (omega (arith, apart))

module _ (key : Option (List ℕ)) (level : Level) (id : ℕ) (entry : Entry) (row : FlagRow) (some : 0 < rank entry.key) (is : IsSendable key level id (cell_of entry row)) where
  header-there : (live : Bool) → is_live (rank entry.key) ≡ live → 27 ≤ length entry.octets
  header-there true e = let tells = (is.live e).tells in tells.begins.0.least
  header-there false e = let alone = (is.purge (live-or-purge (rank entry.key) some e)).alone in omega (arith, alone)

  pub sendable-puttable : IsPuttable entry
  sendable-puttable = record {
    header = header-there (is_live (rank entry.key)) refl;
    purge = λ e.
        let purge = is.purge (live-or-purge (rank entry.key) some e) in
        record {
          alone = purge.alone;
          kind = ap (option_map header_length) (of-begins entry.octets level (lsp_id id) (number_of (rank entry.key)) entry.flags 27 purge.begins);
        };
  }
