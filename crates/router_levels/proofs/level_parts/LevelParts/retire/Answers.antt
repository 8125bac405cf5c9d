use Rattle.std.proofs.Common.{◌≡◌, ◌<◌, subst, sym, ap₂, ◌∙◌, List}
use Rattle.isis_base.specs.Identifiers.{lsp_number}
use Rattle.model_router.specs.Books.{Book, cell_at, rank_at}
use Rattle.model_router.specs.Routers.{LevelState}
use Rattle.model_router.specs.Takes.{held_purge}
use Rattle.model_router.specs.OwnLsps.{retire}
use Rattle.router_levels.specs.Views.{LevelView, state_of}
use Rattle.router_levels.proofs.IssueLemmas.{retire-is}
use Rattle.router_levels.proofs.level_parts.LevelParts.retire.Goals as goal

pub returns-clause-state : goal.returns-clause-state
returns-clause-state c =
    let n = lsp_number c.args.id in
    let t : LevelView = record { book = c.self.inside.book; own = c.self.inside.own; gone = c.self.inside.gone } in
    let after : LevelView = record { book = c.purge.new.self; own = c.drop_id.new.self; gone = c.self.inside.gone } in
    let some = subst (λ (v : LevelView). 0 < rank_at (state_of v).book n) (sym c.self.view_is) c.requires in
    subst (λ (v : LevelView). state_of after ≡ retire (state_of v) n (held_purge (cell_at (state_of v).book n))) c.self.view_is
    (ap₂ (λ (b : Book) (own : List _). let s : LevelState = record { book = b; own = own; gone = t.gone } in s) c.purge.ensures.book c.drop_id.ensures.issued
    ∙ retire-is (state_of t) n some)
