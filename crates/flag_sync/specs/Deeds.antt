-- What is done to the flags of one circuit, on cells (ISO 10589 7.3.15; the form: own).
use Rattle.std.specs.Prelude.{ℕ}
use Rattle.model_router.specs.Cells.{Cell, srm_on, srm_off, srm_sent, ssn_on, ssn_off}
use Rattle.flag_sync.specs.declared.deed.Deed.{Deed}
use Rattle.flag_sync.specs.declared.deed.SrmDeed.{SrmDeed}
use Rattle.flag_sync.specs.declared.deed.SrmDeed.TheVariants as srm
use Rattle.flag_sync.specs.declared.deed.SsnDeed.{SsnDeed}
use Rattle.flag_sync.specs.declared.deed.SsnDeed.TheVariants as ssn

abbrev pub srm_cell : SrmDeed → ℕ → Cell → Cell
srm_cell srm.Keep place cell = cell
srm_cell srm.Set place cell = srm_on cell place
srm_cell srm.Clear place cell = srm_off cell place
srm_cell srm.Wait place cell = srm_sent cell place

abbrev pub ssn_cell : SsnDeed → ℕ → Cell → Cell
ssn_cell ssn.Keep place cell = cell
ssn_cell ssn.Set place cell = ssn_on cell place
ssn_cell ssn.Clear place cell = ssn_off cell place

abbrev pub deed_cell : Deed → Cell → Cell
deed_cell deed cell = ssn_cell deed.ssn deed.place (srm_cell deed.srm deed.place cell)
