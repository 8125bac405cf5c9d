-- What becomes of a draft's octets as it is issued.
use Rattle.std.proofs.Common.{◌≡◌, ◌∙◌, ℕ, ◌+◌, ◌-◌, List, ◌++◌, length, drop, Bool, is_some, Option, Some, None, sym, ap}
use Rattle.std.specs.Prelude.{IfSome}
use Rattle.isis_base.specs.declared.identifiers.LspId.{LspId}
use Rattle.isis_base.specs.declared.level.Level.{Level}
use Rattle.isis_base.specs.Fields.{u32_octets}
use Rattle.isis_base.specs.Identifiers.{IsId, lsp_number}
use Rattle.isis_pdu.specs.Spelling.{octets_of_pdu}
use Rattle.hmac_auth.specs.Auth.{IsDigestPlace}
use Rattle.hmac_auth.specs.Pdus.{with_piece}
use Rattle.model_router.specs.Ranks.{live_rank}
use Rattle.model_router.specs.Both.{at}
use Rattle.model_router.specs.Routers.{Contents, Router}
use Rattle.model_router.specs.OwnLsps.{issue_cell}
use Rattle.flag_sync.specs.declared.flag_row.FlagRow.{FlagRow}
use Rattle.flag_sync.specs.Entries.{with_row}
use Rattle.model_datagram.specs.CheckOctets.{checksum_with, with_checksum}
use Rattle.model_datagram.specs.Lsps.{issued_pdu, issued_checksum, given_octets}
use Rattle.flag_sync.specs.FlagRows.{waits_of}
use Rattle.router_sending.specs.Drafts.{blank_auth, lsp_octets_with, with_digest, DraftView, IsDraft}
use Rattle.router_sending.proofs.DraftLemmas.{numbered, size, unsummed, placed, blank_with, its, its-length, signed-octets, sum-same, octets-same, id-again}

module _ (level : Level) (id : LspId) (flags : ℕ) (keyed : Bool) (tlvs octets : List ℕ) (draft : IsDraft level id flags keyed tlvs octets)
    (key : Option (List ℕ)) (same : is_some key ≡ keyed) (number : ℕ) where
  abbrev before : List ℕ
  before = blank_with id draft.six level flags key number tlvs

  abbrev signed : List ℕ
  signed = lsp_octets_with level id flags number 0 (its id draft.six level flags key number tlvs)

  pub number-written : with_piece 20 (u32_octets number) octets ≡ before
  number-written =
      ap (with_piece 20 (u32_octets number)) draft.whole
      ∙ numbered id draft.six level flags number (blank_auth keyed ++ tlvs)
      ∙ ap (λ (with_key : Bool). lsp_octets_with level id flags number 0 (blank_auth with_key ++ tlvs)) (sym same)

  pub digest-written : with_digest key before ≡ signed
  digest-written = signed-octets id draft.six level flags key number tlvs

  pub signed-size : length signed ≡ 27 + (length (blank_auth keyed) + length tlvs)
  signed-size =
      size id draft.six level flags number 0 (its id draft.six level flags key number tlvs)
      ∙ ap (λ (n : ℕ). 27 + n) (its-length id draft.six level flags key number tlvs
      ∙ ap (λ (with_key : Bool). length (blank_auth with_key) + length tlvs) same)

  pub no-sum : with_checksum 24 0 signed ≡ signed
  no-sum = unsummed id draft.six level flags number (its id draft.six level flags key number tlvs)

  module _ (is : IsId id) where
    abbrev contents : Contents
    contents = record { flags = flags; tlvs = tlvs }

    pub sum-is : checksum_with (drop 12 signed) (length signed - 25) ≡ issued_checksum key level (lsp_number id) number contents
    sum-is = sum-same id draft.six level flags (id-again id is) key number tlvs

    pub octets-are : (checksum : ℕ) → checksum ≡ issued_checksum key level (lsp_number id) number contents
        → with_checksum 24 checksum signed ≡ octets_of_pdu (issued_pdu key level (lsp_number id) number contents)
    octets-are checksum e = octets-same id draft.six level flags (id-again id is) key number tlvs checksum e

-- the digest's place, where there is a key
pub digest-place : (level : Level) (id : LspId) (flags : ℕ) (keyed : Bool) (tlvs octets : List ℕ) (draft : IsDraft level id flags keyed tlvs octets) (key : Option (List ℕ)) (number : ℕ)
    → IfSome key (λ _. IsDigestPlace (blank_with id draft.six level flags key number tlvs) 30)
digest-place level id flags keyed tlvs octets draft None number = tt
digest-place level id flags keyed tlvs octets draft (Some key) number = placed id draft.six level flags number tlvs draft.are

-- a cell of these fields is what the model's router issues
abbrev pub IsCellIssued : Option (List ℕ) → ℕ → DraftView → ℕ → ℕ → ℕ → List ℕ → Type 0
IsCellIssued key number v the_rank checksum flags octets =
    (leaks : Router → Level → List (ℕ × ℕ)) (attached : Router → Bool) (r : Router) (row : FlagRow)
    → at r.config.keys v.level ≡ key
    → record { rank = the_rank; checksum = checksum; flags = flags; left = 1200; octets = octets; srm = row.srm; ssn = row.ssn; waits = waits_of row.waits }
    ≡ with_row (issue_cell (given_octets leaks attached) r v.level (lsp_number v.id) number v.contents) row

pub cell-issued : (key : Option (List ℕ)) (number : ℕ) (v : DraftView) (the_rank checksum : ℕ) (octets : List ℕ) → the_rank ≡ live_rank number
    → checksum ≡ issued_checksum key v.level (lsp_number v.id) number v.contents
    → octets ≡ octets_of_pdu (issued_pdu key v.level (lsp_number v.id) number v.contents) → IsCellIssued key number v the_rank checksum v.contents.flags octets
cell-issued key number v the_rank checksum octets rank_is sum_is octets_are leaks attached r row e =
    let id = lsp_number v.id in
    let sum = sum_is ∙ ap (λ (k : Option (List ℕ)). issued_checksum k v.level id number v.contents) (sym e) in
    let all = octets_are ∙ ap (λ (k : Option (List ℕ)). octets_of_pdu (issued_pdu k v.level id number v.contents)) (sym e) in
    (λ i. record {
      rank = rank_is i;
      checksum = sum i;
      flags = v.contents.flags;
      left = 1200;
      octets = all i;
      srm = row.srm;
      ssn = row.ssn;
      waits = waits_of row.waits;
    })
