use Rattle.std.proofs.Common.{◌-◌, Option, sym, ap, ◌∙◌}
use Rattle.isis_base.specs.declared.identifiers.LspId.{LspId}
use Rattle.isis_base.specs.Identifiers.{lsp_number}
use Rattle.model_router.specs.Books.{Book}
use Rattle.model_router.specs.SnpTable.{hear_range}
use Rattle.model_router.specs.Routers.{LevelState}
use Rattle.model_router.specs.Takes.{take_snp}
use Rattle.model_router.specs.Numbers.{system_number}
use Rattle.flag_sync.specs.Heard.{entries_of}
use Rattle.router_levels.specs.Views.{LevelView, state_of}
use Rattle.router_levels.specs.Drafts.{scene_with, range_of}
use Rattle.router_levels.proofs.EntryLemmas.{snp-bare, snp-ranged}
use Rattle.router_levels.proofs.level_parts.LevelParts.take_snp.Goals as goal

pub returns-in-Some-clause-state : goal.returns-in-Some-clause-state
returns-in-Some-clause-state c leaks attached r level are =
    let scene = scene_with leaks attached r level in
    let es = entries_of c.args.entries.now in
    let p = c.args.circuit - 1 in
    let system = system_number c.args.system in
    let t : LevelView = record { book = c.self.inside.book; own = c.self.inside.own; gone = c.self.inside.gone } in
    let a = lsp_number c.in-Some.start in
    let b = lsp_number c.in-Some.end in
    let heard = λ (s : LevelState). (let x : LevelState = record s { book = hear_range s.book p a b es } in x) in
    ap (λ (book : Book). let x : LevelState = record (state_of t) { book = book } in x) c.hear_csnp_range.ensures.book
    ∙ ap (λ (v : LevelView). heard (state_of v)) c.self.view_is
    ∙ ap heard (c.take_entries.ensures.state leaks attached r level are)
    ∙ snp-ranged scene (state_of c.args.self.now) system p a b es
    ∙ ap (λ (range : Option (LspId × LspId)). take_snp scene (state_of c.args.self.now) system p (range_of range) es) (sym c.in-Some.is)

pub returns-in_default-clause-state : goal.returns-in_default-clause-state
returns-in_default-clause-state c leaks attached r level are =
    let scene = scene_with leaks attached r level in
    let es = entries_of c.args.entries.now in
    let p = c.args.circuit - 1 in
    let system = system_number c.args.system in
    c.take_entries.ensures.state leaks attached r level are
    ∙ snp-bare scene (state_of c.args.self.now) system p es
    ∙ ap (λ (range : Option (LspId × LspId)). take_snp scene (state_of c.args.self.now) system p (range_of range) es) (sym c.in_default.is)
