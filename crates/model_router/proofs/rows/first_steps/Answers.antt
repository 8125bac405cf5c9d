-- By computation.
use Rattle.std.proofs.Common.{refl}
use Rattle.model_router.specs.Maps.{put, erase, each}
use Rattle.model_router.specs.Sets.{has, with_one, without, only}
use Rattle.model_router.specs.Waits.{fallen}
use Rattle.model_router.specs.Books.{set_cell}
use Rattle.model_router.specs.LspTable.{lsp_case}
use Rattle.model_router.specs.SnpTable.{hear_range}
use Rattle.model_router.specs.Openings.{close, open_up}
use Rattle.model_router.specs.Hellos.{take_point, take_lan}
use Rattle.model_router.specs.Splits.{with_item, split}
use Rattle.model_router.specs.Wanted.{system_lsp, pseudonode_lsp, wanted}
use Rattle.model_router.specs.OwnLsps.{install, retire, look}
use Rattle.model_router.specs.Takes.{take_snp}
use Rattle.model_router.specs.Ageing.{wait_less, age_one, age}
use Rattle.model_router.specs.Seconds.{count_down, hold, second}
use Rattle.model_router.specs.Pulls.{sent, answered, pull_hello, pull_csnp, pull_lsps, pull_psnp, pull_level, pull}
use Rattle.model_router.specs.Steps.{step}
use Rattle.model_router.proofs.rows.first_steps.Goals as goal

pub returns-clause-hello_sent : goal.returns-clause-hello_sent
unfolding put erase each has with_one without only fallen set_cell lsp_case hear_range close open_up take_point take_lan with_item split system_lsp pseudonode_lsp wanted install retire look take_snp wait_less age_one age count_down hold second sent answered pull_hello pull_csnp pull_lsps pull_psnp pull_level pull step
returns-clause-hello_sent c = refl

pub returns-clause-lan_hello : goal.returns-clause-lan_hello
unfolding put erase each has with_one without only fallen set_cell lsp_case hear_range close open_up take_point take_lan with_item split system_lsp pseudonode_lsp wanted install retire look take_snp wait_less age_one age count_down hold second sent answered pull_hello pull_csnp pull_lsps pull_psnp pull_level pull step
returns-clause-lan_hello c = refl

pub returns-clause-hello_waits : goal.returns-clause-hello_waits
unfolding put erase each has with_one without only fallen set_cell lsp_case hear_range close open_up take_point take_lan with_item split system_lsp pseudonode_lsp wanted install retire look take_snp wait_less age_one age count_down hold second sent answered pull_hello pull_csnp pull_lsps pull_psnp pull_level pull step
returns-clause-hello_waits c = refl

pub returns-clause-hello_again : goal.returns-clause-hello_again
unfolding put erase each has with_one without only fallen set_cell lsp_case hear_range close open_up take_point take_lan with_item split system_lsp pseudonode_lsp wanted install retire look take_snp wait_less age_one age count_down hold second sent answered pull_hello pull_csnp pull_lsps pull_psnp pull_level pull step
returns-clause-hello_again c = refl

pub returns-clause-initializing : goal.returns-clause-initializing
unfolding put erase each has with_one without only fallen set_cell lsp_case hear_range close open_up take_point take_lan with_item split system_lsp pseudonode_lsp wanted install retire look take_snp wait_less age_one age count_down hold second sent answered pull_hello pull_csnp pull_lsps pull_psnp pull_level pull step
returns-clause-initializing c = refl

pub returns-clause-up : goal.returns-clause-up
unfolding put erase each has with_one without only fallen set_cell lsp_case hear_range close open_up take_point take_lan with_item split system_lsp pseudonode_lsp wanted install retire look take_snp wait_less age_one age count_down hold second sent answered pull_hello pull_csnp pull_lsps pull_psnp pull_level pull step
returns-clause-up c = refl

pub returns-clause-issued : goal.returns-clause-issued
unfolding put erase each has with_one without only fallen set_cell lsp_case hear_range close open_up take_point take_lan with_item split system_lsp pseudonode_lsp wanted install retire look take_snp wait_less age_one age count_down hold second sent answered pull_hello pull_csnp pull_lsps pull_psnp pull_level pull step
returns-clause-issued c = refl

pub returns-clause-silent : goal.returns-clause-silent
unfolding put erase each has with_one without only fallen set_cell lsp_case hear_range close open_up take_point take_lan with_item split system_lsp pseudonode_lsp wanted install retire look take_snp wait_less age_one age count_down hold second sent answered pull_hello pull_csnp pull_lsps pull_psnp pull_level pull step
returns-clause-silent c = refl

pub returns-clause-again : goal.returns-clause-again
unfolding put erase each has with_one without only fallen set_cell lsp_case hear_range close open_up take_point take_lan with_item split system_lsp pseudonode_lsp wanted install retire look take_snp wait_less age_one age count_down hold second sent answered pull_hello pull_csnp pull_lsps pull_psnp pull_level pull step
returns-clause-again c = refl
