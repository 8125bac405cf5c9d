-- By computation.
use Rattle.std.proofs.Common.{refl}
use Rattle.model_router.specs.Maps.{put, erase, each}
use Rattle.model_router.specs.Sets.{has, with_one, without, only}
use Rattle.model_router.specs.Waits.{fallen}
use Rattle.model_router.specs.LetGos.{let_go}
use Rattle.model_router.specs.Cells.{header_of}
use Rattle.model_router.specs.Books.{set_cell}
use Rattle.model_router.specs.LspTable.{lsp_case, hear_lsp}
use Rattle.model_router.specs.SnpTable.{hear_range}
use Rattle.model_router.specs.Openings.{close, open_up}
use Rattle.model_router.specs.Hellos.{take_point, take_lan}
use Rattle.model_router.specs.Splits.{with_item, split}
use Rattle.model_router.specs.Wanted.{system_lsp, pseudonode_lsp, wanted}
use Rattle.model_router.specs.OwnLsps.{install, retire, look, outbid}
use Rattle.model_router.specs.Takes.{take_lsp, take_snp}
use Rattle.model_router.specs.Ageing.{wait_less, age_one, age}
use Rattle.model_router.specs.Seconds.{count_down, hold, second}
use Rattle.model_router.specs.Pulls.{sent, answered, pull_hello, pull_csnp, pull_lsps, pull_psnp, pull_level, pull}
use Rattle.model_router.specs.Steps.{step}
use Rattle.model_router.proofs.rows.limit_rows.Goals as goal

pub returns-clause-neighbours : goal.returns-clause-neighbours
unfolding put erase each has with_one without only fallen header_of let_go set_cell lsp_case hear_lsp hear_range close open_up take_point take_lan with_item split system_lsp pseudonode_lsp wanted install retire look outbid take_lsp take_snp wait_less age_one age count_down hold second sent answered pull_hello pull_csnp pull_lsps pull_psnp pull_level pull step
returns-clause-neighbours c = refl

pub returns-clause-too_many : goal.returns-clause-too_many
unfolding put erase each has with_one without only fallen header_of let_go set_cell lsp_case hear_lsp hear_range close open_up take_point take_lan with_item split system_lsp pseudonode_lsp wanted install retire look outbid take_lsp take_snp wait_less age_one age count_down hold second sent answered pull_hello pull_csnp pull_lsps pull_psnp pull_level pull step
returns-clause-too_many c = refl

pub returns-clause-known : goal.returns-clause-known
unfolding put erase each has with_one without only fallen header_of let_go set_cell lsp_case hear_lsp hear_range close open_up take_point take_lan with_item split system_lsp pseudonode_lsp wanted install retire look outbid take_lsp take_snp wait_less age_one age count_down hold second sent answered pull_hello pull_csnp pull_lsps pull_psnp pull_level pull step
returns-clause-known c = refl

pub returns-clause-let_go : goal.returns-clause-let_go
unfolding put erase each has with_one without only fallen header_of let_go set_cell lsp_case hear_lsp hear_range close open_up take_point take_lan with_item split system_lsp pseudonode_lsp wanted install retire look outbid take_lsp take_snp wait_less age_one age count_down hold second sent answered pull_hello pull_csnp pull_lsps pull_psnp pull_level pull step
returns-clause-let_go c = refl

pub returns-clause-all : goal.returns-clause-all
unfolding put erase each has with_one without only fallen header_of let_go set_cell lsp_case hear_lsp hear_range close open_up take_point take_lan with_item split system_lsp pseudonode_lsp wanted install retire look outbid take_lsp take_snp wait_less age_one age count_down hold second sent answered pull_hello pull_csnp pull_lsps pull_psnp pull_level pull step
returns-clause-all c = refl

pub returns-clause-piece : goal.returns-clause-piece
unfolding put erase each has with_one without only fallen header_of let_go set_cell lsp_case hear_lsp hear_range close open_up take_point take_lan with_item split system_lsp pseudonode_lsp wanted install retire look outbid take_lsp take_snp wait_less age_one age count_down hold second sent answered pull_hello pull_csnp pull_lsps pull_psnp pull_level pull step
returns-clause-piece c = refl

pub returns-clause-two_pieces : goal.returns-clause-two_pieces
unfolding put erase each has with_one without only fallen header_of let_go set_cell lsp_case hear_lsp hear_range close open_up take_point take_lan with_item split system_lsp pseudonode_lsp wanted install retire look outbid take_lsp take_snp wait_less age_one age count_down hold second sent answered pull_hello pull_csnp pull_lsps pull_psnp pull_level pull step
returns-clause-two_pieces c = refl

pub returns-clause-fragments : goal.returns-clause-fragments
unfolding put erase each has with_one without only fallen header_of let_go set_cell lsp_case hear_lsp hear_range close open_up take_point take_lan with_item split system_lsp pseudonode_lsp wanted install retire look outbid take_lsp take_snp wait_less age_one age count_down hold second sent answered pull_hello pull_csnp pull_lsps pull_psnp pull_level pull step
returns-clause-fragments c = refl

pub returns-clause-last_fragment : goal.returns-clause-last_fragment
unfolding put erase each has with_one without only fallen header_of let_go set_cell lsp_case hear_lsp hear_range close open_up take_point take_lan with_item split system_lsp pseudonode_lsp wanted install retire look outbid take_lsp take_snp wait_less age_one age count_down hold second sent answered pull_hello pull_csnp pull_lsps pull_psnp pull_level pull step
returns-clause-last_fragment c = refl

pub returns-clause-entries : goal.returns-clause-entries
returns-clause-entries c = refl

pub returns-clause-full : goal.returns-clause-full
returns-clause-full c = refl

pub returns-clause-no_room : goal.returns-clause-no_room
unfolding put erase each has with_one without only fallen header_of let_go set_cell lsp_case hear_lsp hear_range close open_up take_point take_lan with_item split system_lsp pseudonode_lsp wanted install retire look outbid take_lsp take_snp wait_less age_one age count_down hold second sent answered pull_hello pull_csnp pull_lsps pull_psnp pull_level pull step
returns-clause-no_room c = refl

pub returns-clause-held : goal.returns-clause-held
unfolding put erase each has with_one without only fallen header_of let_go set_cell lsp_case hear_lsp hear_range close open_up take_point take_lan with_item split system_lsp pseudonode_lsp wanted install retire look outbid take_lsp take_snp wait_less age_one age count_down hold second sent answered pull_hello pull_csnp pull_lsps pull_psnp pull_level pull step
returns-clause-held c = refl

pub returns-clause-room : goal.returns-clause-room
unfolding put erase each has with_one without only fallen header_of let_go set_cell lsp_case hear_lsp hear_range close open_up take_point take_lan with_item split system_lsp pseudonode_lsp wanted install retire look outbid take_lsp take_snp wait_less age_one age count_down hold second sent answered pull_hello pull_csnp pull_lsps pull_psnp pull_level pull step
returns-clause-room c = refl

pub returns-clause-systems : goal.returns-clause-systems
unfolding put erase each has with_one without only fallen header_of let_go set_cell lsp_case hear_lsp hear_range close open_up take_point take_lan with_item split system_lsp pseudonode_lsp wanted install retire look outbid take_lsp take_snp wait_less age_one age count_down hold second sent answered pull_hello pull_csnp pull_lsps pull_psnp pull_level pull step
returns-clause-systems c = refl

pub returns-clause-full_boots : goal.returns-clause-full_boots
unfolding put erase each has with_one without only fallen header_of let_go set_cell lsp_case hear_lsp hear_range close open_up take_point take_lan with_item split system_lsp pseudonode_lsp wanted install retire look outbid take_lsp take_snp wait_less age_one age count_down hold second sent answered pull_hello pull_csnp pull_lsps pull_psnp pull_level pull step
returns-clause-full_boots c = refl

pub returns-clause-remembered : goal.returns-clause-remembered
unfolding put erase each has with_one without only fallen header_of let_go set_cell lsp_case hear_lsp hear_range close open_up take_point take_lan with_item split system_lsp pseudonode_lsp wanted install retire look outbid take_lsp take_snp wait_less age_one age count_down hold second sent answered pull_hello pull_csnp pull_lsps pull_psnp pull_level pull step
returns-clause-remembered c = refl
