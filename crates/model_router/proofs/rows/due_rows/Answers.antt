-- By computation.
use Rattle.std.proofs.Common.{refl}
use Rattle.model_router.specs.Maps.{put, erase, each}
use Rattle.model_router.specs.Sets.{has, with_one, without, only}
use Rattle.model_router.specs.Waits.{fallen}
use Rattle.model_router.specs.LetGos.{let_go}
use Rattle.model_router.specs.Cells.{header_of}
use Rattle.model_router.specs.Books.{set_cell}
use Rattle.model_router.specs.LspTable.{lsp_case, hear_lsp}
use Rattle.model_router.specs.SnpTable.{hear_range}
use Rattle.model_router.specs.Openings.{close, open_up}
use Rattle.model_router.specs.Hellos.{take_point, take_lan}
use Rattle.model_router.specs.Splits.{with_item, split}
use Rattle.model_router.specs.Wanted.{system_lsp, pseudonode_lsp, wanted}
use Rattle.model_router.specs.OwnLsps.{install, retire, look, outbid}
use Rattle.model_router.specs.Takes.{take_lsp, take_snp}
use Rattle.model_router.specs.Ageing.{wait_less, age_one, age}
use Rattle.model_router.specs.Seconds.{count_down, hold, second}
use Rattle.model_router.specs.Pulls.{sent, answered, pull_hello, pull_csnp, pull_lsps, pull_psnp, pull_level, pull}
use Rattle.model_router.specs.Steps.{step}
use Rattle.model_router.proofs.rows.due_rows.Goals as goal

pub returns-clause-new : goal.returns-clause-new
unfolding put erase each has with_one without only fallen header_of let_go set_cell lsp_case hear_lsp hear_range close open_up take_point take_lan with_item split system_lsp pseudonode_lsp wanted install retire look outbid take_lsp take_snp wait_less age_one age count_down hold second sent answered pull_hello pull_csnp pull_lsps pull_psnp pull_level pull step
returns-clause-new c = refl

pub returns-clause-heard : goal.returns-clause-heard
unfolding put erase each has with_one without only fallen header_of let_go set_cell lsp_case hear_lsp hear_range close open_up take_point take_lan with_item split system_lsp pseudonode_lsp wanted install retire look outbid take_lsp take_snp wait_less age_one age count_down hold second sent answered pull_hello pull_csnp pull_lsps pull_psnp pull_level pull step
returns-clause-heard c = refl

pub returns-clause-gone : goal.returns-clause-gone
unfolding put erase each has with_one without only fallen header_of let_go set_cell lsp_case hear_lsp hear_range close open_up take_point take_lan with_item split system_lsp pseudonode_lsp wanted install retire look outbid take_lsp take_snp wait_less age_one age count_down hold second sent answered pull_hello pull_csnp pull_lsps pull_psnp pull_level pull step
returns-clause-gone c = refl

pub returns-clause-csnp : goal.returns-clause-csnp
unfolding put erase each has with_one without only fallen header_of let_go set_cell lsp_case hear_lsp hear_range close open_up take_point take_lan with_item split system_lsp pseudonode_lsp wanted install retire look outbid take_lsp take_snp wait_less age_one age count_down hold second sent answered pull_hello pull_csnp pull_lsps pull_psnp pull_level pull step
returns-clause-csnp c = refl

pub returns-clause-owed : goal.returns-clause-owed
unfolding put erase each has with_one without only fallen header_of let_go set_cell lsp_case hear_lsp hear_range close open_up take_point take_lan with_item split system_lsp pseudonode_lsp wanted install retire look outbid take_lsp take_snp wait_less age_one age count_down hold second sent answered pull_hello pull_csnp pull_lsps pull_psnp pull_level pull step
returns-clause-owed c = refl

pub returns-clause-sent : goal.returns-clause-sent
unfolding put erase each has with_one without only fallen header_of let_go set_cell lsp_case hear_lsp hear_range close open_up take_point take_lan with_item split system_lsp pseudonode_lsp wanted install retire look outbid take_lsp take_snp wait_less age_one age count_down hold second sent answered pull_hello pull_csnp pull_lsps pull_psnp pull_level pull step
returns-clause-sent c = refl

pub returns-clause-other : goal.returns-clause-other
unfolding put erase each has with_one without only fallen header_of let_go set_cell lsp_case hear_lsp hear_range close open_up take_point take_lan with_item split system_lsp pseudonode_lsp wanted install retire look outbid take_lsp take_snp wait_less age_one age count_down hold second sent answered pull_hello pull_csnp pull_lsps pull_psnp pull_level pull step
returns-clause-other c = refl
