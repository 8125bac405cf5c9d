-- Rows of flags, what is done to them, and a row beside its entry as one cell (ISO 10589 7.3.15;
-- the form: own).
use Rattle.std.specs.Prelude.{ℕ, List, [], ◌∷◌, slice_index}
use Rattle.isis_base.specs.Keys.{rank}
use Rattle.model_router.specs.Sets.{with_one, without}
use Rattle.model_router.specs.Waits.{Waits, fallen}
use Rattle.model_router.specs.Cells.{Cell}
use Rattle.lsp_store.specs.declared.entry.Entry.{Entry}
use Rattle.flag_sync.specs.declared.flag_row.FlagRow.{FlagRow}
use Rattle.flag_sync.specs.declared.deed.Deed.{Deed}
use Rattle.flag_sync.specs.declared.deed.SrmDeed.{SrmDeed}
use Rattle.flag_sync.specs.declared.deed.SrmDeed.TheVariants as srm
use Rattle.flag_sync.specs.declared.deed.SsnDeed.{SsnDeed}
use Rattle.flag_sync.specs.declared.deed.SsnDeed.TheVariants as ssn

-- what the three bit planes say
abbrev pub waits_of : List ℕ → Waits
waits_of planes =
    record {
      ones = slice_index planes 0;
      twos = slice_index planes 1;
      fours = slice_index planes 2;
    }

-- the three bit planes
abbrev pub planes_of : Waits → List ℕ
planes_of waits = waits.ones ∷ waits.twos ∷ waits.fours ∷ []

-- an entry and its row of flags
abbrev pub cell_of : Entry → FlagRow → Cell
cell_of entry row = record {
  rank = rank entry.key;
  checksum = entry.checksum;
  flags = entry.flags;
  left = entry.left;
  octets = entry.octets;
  srm = row.srm;
  ssn = row.ssn;
  waits = waits_of row.waits;
}

-- a row without flags, and an entry without flags
abbrev pub no_flags : FlagRow
no_flags = record { srm = 0; ssn = 0; waits = 0 ∷ 0 ∷ 0 ∷ [] }

abbrev pub entry_cell : Entry → Cell
entry_cell entry = cell_of entry no_flags

-- ---- what is done to a row on one circuit

abbrev pub at_once : List ℕ → ℕ → List ℕ
at_once planes place =
    without (slice_index planes 0) place
    ∷ without (slice_index planes 1) place
    ∷ without (slice_index planes 2) place
    ∷ []

abbrev pub five : List ℕ → ℕ → List ℕ
five planes place =
    with_one (slice_index planes 0) place
    ∷ without (slice_index planes 1) place
    ∷ with_one (slice_index planes 2) place
    ∷ []

abbrev pub srm_done : SrmDeed → ℕ → FlagRow → FlagRow
srm_done srm.Keep place row = row
srm_done srm.Set place row =
    record row { srm = with_one row.srm place; waits = at_once row.waits place }
srm_done srm.Clear place row =
    record row { srm = without row.srm place; waits = at_once row.waits place }
srm_done srm.Wait place row = record row { waits = five row.waits place }

abbrev pub ssn_done : SsnDeed → ℕ → FlagRow → FlagRow
ssn_done ssn.Keep place row = row
ssn_done ssn.Set place row = record row { ssn = with_one row.ssn place }
ssn_done ssn.Clear place row = record row { ssn = without row.ssn place }

abbrev pub done : Deed → FlagRow → FlagRow
done deed row = ssn_done deed.ssn deed.place (srm_done deed.srm deed.place row)

-- ---- a second

abbrev pub fallen_planes : List ℕ → List ℕ
fallen_planes planes = planes_of (fallen (waits_of planes))

abbrev pub row_less : FlagRow → FlagRow
row_less row = record row { waits = fallen_planes row.waits }
