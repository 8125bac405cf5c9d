-- What a router holds of one LSP ID: its database entry and its flags in one cell, and the changes
-- of one cell (ISO 10589 7.3.15; the form: own).
use Rattle.std.specs.Prelude.{ℕ, List, [], ◌∷◌, ◌++◌, take, drop, if◌then◌else◌}
use Rattle.model_router.specs.Ranks.{number_of, is_purge, purge_rank}
use Rattle.model_router.specs.Sets.{with_one, without}
use Rattle.model_router.specs.Waits.{Waits, no_waits, due_at, five_at}

-- The entry, of rank 0 where it is empty, with its seconds left (ISO 10589 7.3.16.3), and the
-- circuits on which its SRM and SSN flags stand (ISO 10589 7.3.15).
pub record Cell : Type 0 where
  pub rank : ℕ
  pub checksum : ℕ
  pub flags : ℕ
  pub left : ℕ
  pub octets : List ℕ
  pub srm : ℕ
  pub ssn : ℕ
  pub waits : Waits

-- an LSP that is heard or issued (ISO 10589 9.8)
pub record Heard : Type 0 where
  pub id : ℕ
  pub rank : ℕ
  pub checksum : ℕ
  pub flags : ℕ
  pub left : ℕ
  pub octets : List ℕ

-- ---- a purge is kept as its header, for ZeroAgeLifetime, 60 seconds (ISO 10589 7.3.16.4)

-- a purge's header: PDU length 27, lifetime 0 and checksum 0 in the header that is there (own)
unfoldable pub header_of : List ℕ → List ℕ
header_of octets =
    take 8 octets ++ (0 ∷ 27 ∷ 0 ∷ 0 ∷ []) ++ take 12 (drop 12 octets) ++ (0 ∷ 0 ∷ [])
    ++ take 1 (drop 26 octets)

-- a purge of a number that is made of an LSP, with no flag (7.3.16.4)
abbrev pub purge_of : ℕ → ℕ → List ℕ → Cell
purge_of number flags octets = record {
  rank = purge_rank number;
  checksum = 0;
  flags = flags;
  left = 60;
  octets = header_of octets;
  srm = 0;
  ssn = 0;
  waits = no_waits;
}

-- an LSP as it is kept, with no flag: a live one as it was heard (7.3.15.1, 7.3.16.4)
abbrev pub kept : Heard → Cell
kept h = record {
  rank = h.rank;
  checksum = if is_purge h.rank then 0 else h.checksum;
  flags = h.flags;
  left = if is_purge h.rank then 60 else h.left;
  octets = if is_purge h.rank then header_of h.octets else h.octets;
  srm = 0;
  ssn = 0;
  waits = no_waits;
}

-- the entry's purge, with no flag (7.3.16.4)
abbrev pub purged : Cell → Cell
purged cell = purge_of (number_of cell.rank) cell.flags cell.octets

-- an empty entry, with no flag (ISO 10589 7.3.15.2; its 60 seconds: own)
abbrev pub empty_cell : Cell
empty_cell =
    record {
      rank = 0;
      checksum = 0;
      flags = 0;
      left = 60;
      octets = [];
      srm = 0;
      ssn = 0;
      waits = no_waits;
    }

-- ---- flags of one cell (ISO 10589 7.3.15); a flag SRM that is set is due at once

-- SRM on these circuits and on no other, and SSN on those (7.3.15)
abbrev pub flagged : Cell → ℕ → ℕ → Cell
flagged cell srm ssn = record cell { srm = srm; ssn = ssn; waits = no_waits }

-- SRM set on one circuit more (7.3.15)
abbrev pub srm_on : Cell → ℕ → Cell
srm_on cell place = record cell { srm = with_one cell.srm place; waits = due_at cell.waits place }

-- SRM clear on one circuit (7.3.15)
abbrev pub srm_off : Cell → ℕ → Cell
srm_off cell place = record cell { srm = without cell.srm place; waits = due_at cell.waits place }

-- SRM stays, and waits five seconds (7.3.15.5)
abbrev pub srm_sent : Cell → ℕ → Cell
srm_sent cell place = record cell { waits = five_at cell.waits place }

-- 7.3.15
abbrev pub ssn_on : Cell → ℕ → Cell
ssn_on cell place = record cell { ssn = with_one cell.ssn place }

-- 7.3.15
abbrev pub ssn_off : Cell → ℕ → Cell
ssn_off cell place = record cell { ssn = without cell.ssn place }
