-- By computation.
use Rattle.std.proofs.Common.{refl}
use Rattle.model_router.specs.Maps.{put, erase, each}
use Rattle.model_router.specs.Sets.{has, with_one, without, only}
use Rattle.model_router.specs.Waits.{fallen}
use Rattle.model_router.specs.LetGos.{let_go}
use Rattle.model_router.specs.Books.{set_cell}
use Rattle.model_router.specs.LspTable.{lsp_case, hear_lsp}
use Rattle.model_router.specs.SnpTable.{hear_range}
use Rattle.model_router.specs.Openings.{close, open_up}
use Rattle.model_router.specs.Hellos.{take_point, take_lan}
use Rattle.model_router.specs.Splits.{with_item, split}
use Rattle.model_router.specs.Wanted.{system_lsp, pseudonode_lsp, wanted}
use Rattle.model_router.specs.OwnLsps.{install, retire, look}
use Rattle.model_router.specs.Takes.{take_lsp, take_snp}
use Rattle.model_router.specs.Ageing.{wait_less, age_one, age}
use Rattle.model_router.specs.Seconds.{count_down, hold, second}
use Rattle.model_router.specs.Pulls.{sent, answered, pull_hello, pull_csnp, pull_lsps, pull_psnp, pull_level, pull}
use Rattle.model_router.specs.Steps.{step}
use Rattle.model_router.proofs.rows.lan_steps.Goals as goal

pub returns-clause-issued : goal.returns-clause-issued
unfolding put erase each has with_one without only fallen let_go set_cell lsp_case hear_lsp hear_range close open_up take_point take_lan with_item split system_lsp pseudonode_lsp wanted install retire look take_lsp take_snp wait_less age_one age count_down hold second sent answered pull_hello pull_csnp pull_lsps pull_psnp pull_level pull step
returns-clause-issued c = refl

pub returns-clause-once : goal.returns-clause-once
unfolding put erase each has with_one without only fallen let_go set_cell lsp_case hear_lsp hear_range close open_up take_point take_lan with_item split system_lsp pseudonode_lsp wanted install retire look take_lsp take_snp wait_less age_one age count_down hold second sent answered pull_hello pull_csnp pull_lsps pull_psnp pull_level pull step
returns-clause-once c = refl

pub returns-clause-partial : goal.returns-clause-partial
unfolding put erase each has with_one without only fallen let_go set_cell lsp_case hear_lsp hear_range close open_up take_point take_lan with_item split system_lsp pseudonode_lsp wanted install retire look take_lsp take_snp wait_less age_one age count_down hold second sent answered pull_hello pull_csnp pull_lsps pull_psnp pull_level pull step
returns-clause-partial c = refl

pub returns-clause-complete : goal.returns-clause-complete
unfolding put erase each has with_one without only fallen let_go set_cell lsp_case hear_lsp hear_range close open_up take_point take_lan with_item split system_lsp pseudonode_lsp wanted install retire look take_lsp take_snp wait_less age_one age count_down hold second sent answered pull_hello pull_csnp pull_lsps pull_psnp pull_level pull step
returns-clause-complete c = refl

pub returns-clause-other_source : goal.returns-clause-other_source
unfolding put erase each has with_one without only fallen let_go set_cell lsp_case hear_lsp hear_range close open_up take_point take_lan with_item split system_lsp pseudonode_lsp wanted install retire look take_lsp take_snp wait_less age_one age count_down hold second sent answered pull_hello pull_csnp pull_lsps pull_psnp pull_level pull step
returns-clause-other_source c = refl

pub returns-clause-opened : goal.returns-clause-opened
unfolding put erase each has with_one without only fallen let_go set_cell lsp_case hear_lsp hear_range close open_up take_point take_lan with_item split system_lsp pseudonode_lsp wanted install retire look take_lsp take_snp wait_less age_one age count_down hold second sent answered pull_hello pull_csnp pull_lsps pull_psnp pull_level pull step
returns-clause-opened c = refl

pub returns-clause-up : goal.returns-clause-up
unfolding put erase each has with_one without only fallen let_go set_cell lsp_case hear_lsp hear_range close open_up take_point take_lan with_item split system_lsp pseudonode_lsp wanted install retire look take_lsp take_snp wait_less age_one age count_down hold second sent answered pull_hello pull_csnp pull_lsps pull_psnp pull_level pull step
returns-clause-up c = refl

pub returns-clause-not_up : goal.returns-clause-not_up
unfolding put erase each has with_one without only fallen let_go set_cell lsp_case hear_lsp hear_range close open_up take_point take_lan with_item split system_lsp pseudonode_lsp wanted install retire look take_lsp take_snp wait_less age_one age count_down hold second sent answered pull_hello pull_csnp pull_lsps pull_psnp pull_level pull step
returns-clause-not_up c = refl

pub returns-clause-lsp : goal.returns-clause-lsp
unfolding put erase each has with_one without only fallen let_go set_cell lsp_case hear_lsp hear_range close open_up take_point take_lan with_item split system_lsp pseudonode_lsp wanted install retire look take_lsp take_snp wait_less age_one age count_down hold second sent answered pull_hello pull_csnp pull_lsps pull_psnp pull_level pull step
returns-clause-lsp c = refl

pub returns-clause-other_lsp : goal.returns-clause-other_lsp
unfolding put erase each has with_one without only fallen let_go set_cell lsp_case hear_lsp hear_range close open_up take_point take_lan with_item split system_lsp pseudonode_lsp wanted install retire look take_lsp take_snp wait_less age_one age count_down hold second sent answered pull_hello pull_csnp pull_lsps pull_psnp pull_level pull step
returns-clause-other_lsp c = refl

pub returns-clause-purge : goal.returns-clause-purge
unfolding put erase each has with_one without only fallen let_go set_cell lsp_case hear_lsp hear_range close open_up take_point take_lan with_item split system_lsp pseudonode_lsp wanted install retire look take_lsp take_snp wait_less age_one age count_down hold second sent answered pull_hello pull_csnp pull_lsps pull_psnp pull_level pull step
returns-clause-purge c = refl

pub returns-clause-acknowledged : goal.returns-clause-acknowledged
unfolding put erase each has with_one without only fallen let_go set_cell lsp_case hear_lsp hear_range close open_up take_point take_lan with_item split system_lsp pseudonode_lsp wanted install retire look take_lsp take_snp wait_less age_one age count_down hold second sent answered pull_hello pull_csnp pull_lsps pull_psnp pull_level pull step
returns-clause-acknowledged c = refl

pub returns-clause-let_go : goal.returns-clause-let_go
unfolding put erase each has with_one without only fallen let_go set_cell lsp_case hear_lsp hear_range close open_up take_point take_lan with_item split system_lsp pseudonode_lsp wanted install retire look take_lsp take_snp wait_less age_one age count_down hold second sent answered pull_hello pull_csnp pull_lsps pull_psnp pull_level pull step
returns-clause-let_go c = refl

pub returns-clause-old_lsp : goal.returns-clause-old_lsp
unfolding put erase each has with_one without only fallen let_go set_cell lsp_case hear_lsp hear_range close open_up take_point take_lan with_item split system_lsp pseudonode_lsp wanted install retire look take_lsp take_snp wait_less age_one age count_down hold second sent answered pull_hello pull_csnp pull_lsps pull_psnp pull_level pull step
returns-clause-old_lsp c = refl

pub returns-clause-old_point : goal.returns-clause-old_point
unfolding put erase each has with_one without only fallen let_go set_cell lsp_case hear_lsp hear_range close open_up take_point take_lan with_item split system_lsp pseudonode_lsp wanted install retire look take_lsp take_snp wait_less age_one age count_down hold second sent answered pull_hello pull_csnp pull_lsps pull_psnp pull_level pull step
returns-clause-old_point c = refl
