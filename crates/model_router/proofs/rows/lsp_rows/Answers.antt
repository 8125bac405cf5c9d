-- By computation.
use Rattle.std.proofs.Common.{refl}
use Rattle.model_router.specs.Maps.{put, erase}
use Rattle.model_router.specs.Sets.{has, with_one, without, only}
use Rattle.model_router.specs.Cells.{header_of}
use Rattle.model_router.specs.Books.{set_cell}
use Rattle.model_router.specs.LspTable.{lsp_case, hear_lsp}
use Rattle.model_router.proofs.rows.lsp_rows.Goals as goal

pub returns-clause-stored : goal.returns-clause-stored
unfolding put erase has with_one without only header_of set_cell lsp_case hear_lsp
returns-clause-stored c = refl

pub returns-clause-stored_lan : goal.returns-clause-stored_lan
unfolding put erase has with_one without only header_of set_cell lsp_case hear_lsp
returns-clause-stored_lan c = refl

pub returns-clause-purge : goal.returns-clause-purge
unfolding put erase has with_one without only header_of set_cell lsp_case hear_lsp
returns-clause-purge c = refl

pub returns-clause-confused : goal.returns-clause-confused
unfolding put erase has with_one without only header_of set_cell lsp_case hear_lsp
returns-clause-confused c = refl

pub returns-clause-purged_own : goal.returns-clause-purged_own
unfolding put erase has with_one without only header_of set_cell lsp_case hear_lsp
returns-clause-purged_own c = refl

pub returns-clause-same : goal.returns-clause-same
unfolding put erase has with_one without only header_of set_cell lsp_case hear_lsp
returns-clause-same c = refl

pub returns-clause-same_lan : goal.returns-clause-same_lan
unfolding put erase has with_one without only header_of set_cell lsp_case hear_lsp
returns-clause-same_lan c = refl

pub returns-clause-same_lan_clear : goal.returns-clause-same_lan_clear
unfolding put erase has with_one without only header_of set_cell lsp_case hear_lsp
returns-clause-same_lan_clear c = refl

pub returns-clause-older : goal.returns-clause-older
unfolding put erase has with_one without only header_of set_cell lsp_case hear_lsp
returns-clause-older c = refl

pub returns-clause-unheld : goal.returns-clause-unheld
unfolding put erase has with_one without only header_of set_cell lsp_case hear_lsp
returns-clause-unheld c = refl

pub returns-clause-empty : goal.returns-clause-empty
unfolding put erase has with_one without only header_of set_cell lsp_case hear_lsp
returns-clause-empty c = refl
