-- What is told of a level, and what moves.
use Rattle.std.proofs.Common.{◌≡◌, ◌∙◌, ℕ, Bool, true, false, map, Option, Some, None, refl, sym, ap}
use Rattle.model_router.specs.Books.{Book, cell_at}
use Rattle.model_router.specs.Sorted.{RisesFrom}
use Rattle.router_routes.proofs.LeakLemmas.{maps-same}
use Rattle.router_routes.specs.Outlooks.{where_run}
use Rattle.router_routes.specs.Told.{told_by}
use Rattle.router_core.specs.declared.movers.Movers.{Movers}
use Rattle.router_core.specs.Asides.{seen}
use Rattle.router_core.specs.Shifts.{AreRising, IsMovedOn, IsShifted}
use Rattle.router_core.proofs.AsideLemmas.{Entries}
use Rattle.router_core.proofs.RouteLemmas.{live-by, live-find, live-rises, told-live, told-said}
use Rattle.router_core.proofs.NodesLemmas.{said-by, said-seen}

pub clash : {A : Type 0} → true ≡ false → A
clash e = absurd (cc)

-- ---- what is seen of a level

pub shifted-run : (m : Option Movers) (runs : Bool) (old new : Entries) → IsShifted m runs old new → AreRising m × IsMovedOn m runs (where_run runs old) (where_run runs new)
shifted-run None true old new is = (tt, is refl)
shifted-run None false old new is = (tt, refl)
shifted-run (Some m) true old new is = (is.1, (refl, is.2))
shifted-run (Some m) false old new is = clash (sym is.0)

-- what is told stays where what is seen does
pub told-seen : (a b : Book) → RisesFrom 0 a.cells → RisesFrom 0 b.cells → ((n : ℕ) → seen (cell_at b n) ≡ seen (cell_at a n)) → told_by b.cells ≡ told_by a.cells
told-seen a b of-a of-b same =
    let live : live-by b.cells ≡ live-by a.cells =
    maps-same 0 (live-by b.cells) (live-by a.cells) (live-rises b.cells 0 of-b) (live-rises a.cells 0 of-a)
    (λ q. live-find b.cells 0 q of-b ∙ said-seen (cell_at b q) ∙ ap said-by (same q) ∙ sym (said-seen (cell_at a q)) ∙ sym (live-find a.cells 0 q of-a)) in
    told-live b.cells ∙ ap (map told-said) live ∙ sym (told-live a.cells)
