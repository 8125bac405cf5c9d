-- By computation.
use Rattle.std.proofs.Common.{refl}
use Rattle.model_router.specs.Maps.{put, erase, each}
use Rattle.model_router.specs.Sets.{has, with_one, without, only}
use Rattle.model_router.specs.Waits.{fallen}
use Rattle.model_router.specs.LetGos.{let_go}
use Rattle.model_router.specs.Cells.{header_of}
use Rattle.model_router.specs.Books.{set_cell}
use Rattle.model_router.specs.LspTable.{lsp_case, hear_lsp}
use Rattle.model_router.specs.SnpTable.{hear_range}
use Rattle.model_router.specs.Openings.{close, open_up}
use Rattle.model_router.specs.Hellos.{take_point, take_lan}
use Rattle.model_router.specs.Splits.{with_item, split}
use Rattle.model_router.specs.Wanted.{system_lsp, pseudonode_lsp, wanted}
use Rattle.model_router.specs.OwnLsps.{install, retire, look, outbid}
use Rattle.model_router.specs.Takes.{take_lsp, take_snp}
use Rattle.model_router.specs.Ageing.{wait_less, age_one, age}
use Rattle.model_router.specs.Seconds.{count_down, hold, second}
use Rattle.model_router.specs.Pulls.{sent, answered, pull_hello, pull_csnp, pull_lsps, pull_psnp, pull_level, pull}
use Rattle.model_router.specs.Steps.{step}
use Rattle.model_router.proofs.rows.outbid_rows.Goals as goal

pub returns-clause-issued : goal.returns-clause-issued
unfolding put erase each has with_one without only fallen header_of let_go set_cell lsp_case hear_lsp hear_range close open_up take_point take_lan with_item split system_lsp pseudonode_lsp wanted install retire look outbid take_lsp take_snp wait_less age_one age count_down hold second sent answered pull_hello pull_csnp pull_lsps pull_psnp pull_level pull step
returns-clause-issued c = refl

pub returns-clause-early : goal.returns-clause-early
unfolding put erase each has with_one without only fallen header_of let_go set_cell lsp_case hear_lsp hear_range close open_up take_point take_lan with_item split system_lsp pseudonode_lsp wanted install retire look outbid take_lsp take_snp wait_less age_one age count_down hold second sent answered pull_hello pull_csnp pull_lsps pull_psnp pull_level pull step
returns-clause-early c = refl

pub returns-clause-changed : goal.returns-clause-changed
unfolding put erase each has with_one without only fallen header_of let_go set_cell lsp_case hear_lsp hear_range close open_up take_point take_lan with_item split system_lsp pseudonode_lsp wanted install retire look outbid take_lsp take_snp wait_less age_one age count_down hold second sent answered pull_hello pull_csnp pull_lsps pull_psnp pull_level pull step
returns-clause-changed c = refl

pub returns-clause-pseudonode : goal.returns-clause-pseudonode
unfolding put erase each has with_one without only fallen header_of let_go set_cell lsp_case hear_lsp hear_range close open_up take_point take_lan with_item split system_lsp pseudonode_lsp wanted install retire look outbid take_lsp take_snp wait_less age_one age count_down hold second sent answered pull_hello pull_csnp pull_lsps pull_psnp pull_level pull step
returns-clause-pseudonode c = refl

pub returns-clause-withdrawn : goal.returns-clause-withdrawn
unfolding put erase each has with_one without only fallen header_of let_go set_cell lsp_case hear_lsp hear_range close open_up take_point take_lan with_item split system_lsp pseudonode_lsp wanted install retire look outbid take_lsp take_snp wait_less age_one age count_down hold second sent answered pull_hello pull_csnp pull_lsps pull_psnp pull_level pull step
returns-clause-withdrawn c = refl

pub returns-clause-last : goal.returns-clause-last
unfolding put erase each has with_one without only fallen header_of let_go set_cell lsp_case hear_lsp hear_range close open_up take_point take_lan with_item split system_lsp pseudonode_lsp wanted install retire look outbid take_lsp take_snp wait_less age_one age count_down hold second sent answered pull_hello pull_csnp pull_lsps pull_psnp pull_level pull step
returns-clause-last c = refl

pub returns-clause-held : goal.returns-clause-held
unfolding put erase each has with_one without only fallen header_of let_go set_cell lsp_case hear_lsp hear_range close open_up take_point take_lan with_item split system_lsp pseudonode_lsp wanted install retire look outbid take_lsp take_snp wait_less age_one age count_down hold second sent answered pull_hello pull_csnp pull_lsps pull_psnp pull_level pull step
returns-clause-held c = refl

pub returns-clause-begun : goal.returns-clause-begun
unfolding put erase each has with_one without only fallen header_of let_go set_cell lsp_case hear_lsp hear_range close open_up take_point take_lan with_item split system_lsp pseudonode_lsp wanted install retire look outbid take_lsp take_snp wait_less age_one age count_down hold second sent answered pull_hello pull_csnp pull_lsps pull_psnp pull_level pull step
returns-clause-begun c = refl
