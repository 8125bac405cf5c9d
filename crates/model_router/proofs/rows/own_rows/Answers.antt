-- By computation.
use Rattle.std.proofs.Common.{refl}
use Rattle.model_router.specs.Maps.{put, erase, each}
use Rattle.model_router.specs.Sets.{has, with_one, without, only}
use Rattle.model_router.specs.Waits.{fallen}
use Rattle.model_router.specs.LetGos.{let_go}
use Rattle.model_router.specs.Cells.{header_of}
use Rattle.model_router.specs.Books.{set_cell}
use Rattle.model_router.specs.LspTable.{lsp_case, hear_lsp}
use Rattle.model_router.specs.SnpTable.{hear_range}
use Rattle.model_router.specs.Openings.{close, open_up}
use Rattle.model_router.specs.Hellos.{take_point, take_lan}
use Rattle.model_router.specs.Splits.{with_item, split}
use Rattle.model_router.specs.Wanted.{system_lsp, pseudonode_lsp, wanted}
use Rattle.model_router.specs.OwnLsps.{install, retire, look, outbid}
use Rattle.model_router.specs.Takes.{take_lsp, take_snp}
use Rattle.model_router.specs.Ageing.{wait_less, age_one, age}
use Rattle.model_router.specs.Seconds.{count_down, hold, second}
use Rattle.model_router.specs.Pulls.{sent, answered, pull_hello, pull_csnp, pull_lsps, pull_psnp, pull_level, pull}
use Rattle.model_router.specs.Steps.{step}
use Rattle.model_router.proofs.rows.own_rows.Goals as goal

pub returns-clause-level_one : goal.returns-clause-level_one
unfolding put erase each has with_one without only fallen header_of let_go set_cell lsp_case hear_lsp hear_range close open_up take_point take_lan with_item split system_lsp pseudonode_lsp wanted install retire look outbid take_lsp take_snp wait_less age_one age count_down hold second sent answered pull_hello pull_csnp pull_lsps pull_psnp pull_level pull step
returns-clause-level_one c = refl

pub returns-clause-level_two : goal.returns-clause-level_two
unfolding put erase each has with_one without only fallen header_of let_go set_cell lsp_case hear_lsp hear_range close open_up take_point take_lan with_item split system_lsp pseudonode_lsp wanted install retire look outbid take_lsp take_snp wait_less age_one age count_down hold second sent answered pull_hello pull_csnp pull_lsps pull_psnp pull_level pull step
returns-clause-level_two c = refl

pub returns-clause-attached : goal.returns-clause-attached
unfolding put erase each has with_one without only fallen header_of let_go set_cell lsp_case hear_lsp hear_range close open_up take_point take_lan with_item split system_lsp pseudonode_lsp wanted install retire look outbid take_lsp take_snp wait_less age_one age count_down hold second sent answered pull_hello pull_csnp pull_lsps pull_psnp pull_level pull step
returns-clause-attached c = refl

pub returns-clause-unattached : goal.returns-clause-unattached
unfolding put erase each has with_one without only fallen header_of let_go set_cell lsp_case hear_lsp hear_range close open_up take_point take_lan with_item split system_lsp pseudonode_lsp wanted install retire look outbid take_lsp take_snp wait_less age_one age count_down hold second sent answered pull_hello pull_csnp pull_lsps pull_psnp pull_level pull step
returns-clause-unattached c = refl

pub returns-clause-overload : goal.returns-clause-overload
unfolding put erase each has with_one without only fallen header_of let_go set_cell lsp_case hear_lsp hear_range close open_up take_point take_lan with_item split system_lsp pseudonode_lsp wanted install retire look outbid take_lsp take_snp wait_less age_one age count_down hold second sent answered pull_hello pull_csnp pull_lsps pull_psnp pull_level pull step
returns-clause-overload c = refl

pub returns-clause-cut : goal.returns-clause-cut
unfolding put erase each has with_one without only fallen header_of let_go set_cell lsp_case hear_lsp hear_range close open_up take_point take_lan with_item split system_lsp pseudonode_lsp wanted install retire look outbid take_lsp take_snp wait_less age_one age count_down hold second sent answered pull_hello pull_csnp pull_lsps pull_psnp pull_level pull step
returns-clause-cut c = refl

pub returns-clause-leaks : goal.returns-clause-leaks
unfolding put erase each has with_one without only fallen header_of let_go set_cell lsp_case hear_lsp hear_range close open_up take_point take_lan with_item split system_lsp pseudonode_lsp wanted install retire look outbid take_lsp take_snp wait_less age_one age count_down hold second sent answered pull_hello pull_csnp pull_lsps pull_psnp pull_level pull step
returns-clause-leaks c = refl

pub returns-clause-pseudonode : goal.returns-clause-pseudonode
unfolding put erase each has with_one without only fallen header_of let_go set_cell lsp_case hear_lsp hear_range close open_up take_point take_lan with_item split system_lsp pseudonode_lsp wanted install retire look outbid take_lsp take_snp wait_less age_one age count_down hold second sent answered pull_hello pull_csnp pull_lsps pull_psnp pull_level pull step
returns-clause-pseudonode c = refl

pub returns-clause-no_pseudonode : goal.returns-clause-no_pseudonode
unfolding put erase each has with_one without only fallen header_of let_go set_cell lsp_case hear_lsp hear_range close open_up take_point take_lan with_item split system_lsp pseudonode_lsp wanted install retire look outbid take_lsp take_snp wait_less age_one age count_down hold second sent answered pull_hello pull_csnp pull_lsps pull_psnp pull_level pull step
returns-clause-no_pseudonode c = refl

pub returns-clause-other_system : goal.returns-clause-other_system
unfolding put erase each has with_one without only fallen header_of let_go set_cell lsp_case hear_lsp hear_range close open_up take_point take_lan with_item split system_lsp pseudonode_lsp wanted install retire look outbid take_lsp take_snp wait_less age_one age count_down hold second sent answered pull_hello pull_csnp pull_lsps pull_psnp pull_level pull step
returns-clause-other_system c = refl

pub returns-clause-designated : goal.returns-clause-designated
unfolding put erase each has with_one without only fallen header_of let_go set_cell lsp_case hear_lsp hear_range close open_up take_point take_lan with_item split system_lsp pseudonode_lsp wanted install retire look outbid take_lsp take_snp wait_less age_one age count_down hold second sent answered pull_hello pull_csnp pull_lsps pull_psnp pull_level pull step
returns-clause-designated c = refl

pub returns-clause-parallel : goal.returns-clause-parallel
unfolding put erase each has with_one without only fallen header_of let_go set_cell lsp_case hear_lsp hear_range close open_up take_point take_lan with_item split system_lsp pseudonode_lsp wanted install retire look outbid take_lsp take_snp wait_less age_one age count_down hold second sent answered pull_hello pull_csnp pull_lsps pull_psnp pull_level pull step
returns-clause-parallel c = refl

pub returns-clause-up : goal.returns-clause-up
unfolding put erase each has with_one without only fallen header_of let_go set_cell lsp_case hear_lsp hear_range close open_up take_point take_lan with_item split system_lsp pseudonode_lsp wanted install retire look outbid take_lsp take_snp wait_less age_one age count_down hold second sent answered pull_hello pull_csnp pull_lsps pull_psnp pull_level pull step
returns-clause-up c = refl

pub returns-clause-down : goal.returns-clause-down
unfolding put erase each has with_one without only fallen header_of let_go set_cell lsp_case hear_lsp hear_range close open_up take_point take_lan with_item split system_lsp pseudonode_lsp wanted install retire look outbid take_lsp take_snp wait_less age_one age count_down hold second sent answered pull_hello pull_csnp pull_lsps pull_psnp pull_level pull step
returns-clause-down c = refl

pub returns-clause-not_down : goal.returns-clause-not_down
unfolding put erase each has with_one without only fallen header_of let_go set_cell lsp_case hear_lsp hear_range close open_up take_point take_lan with_item split system_lsp pseudonode_lsp wanted install retire look outbid take_lsp take_snp wait_less age_one age count_down hold second sent answered pull_hello pull_csnp pull_lsps pull_psnp pull_level pull step
returns-clause-not_down c = refl

pub returns-clause-bit : goal.returns-clause-bit
unfolding put erase each has with_one without only fallen header_of let_go set_cell lsp_case hear_lsp hear_range close open_up take_point take_lan with_item split system_lsp pseudonode_lsp wanted install retire look outbid take_lsp take_snp wait_less age_one age count_down hold second sent answered pull_hello pull_csnp pull_lsps pull_psnp pull_level pull step
returns-clause-bit c = refl
