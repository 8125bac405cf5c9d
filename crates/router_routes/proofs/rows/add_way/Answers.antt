use Rattle.std.proofs.Common.{ℕ, ◌∙◌, ap, sym, subst, List, Vec, ◌++◌, ◌∷◌, []}
use Rattle.std.specs.declared.alloc.Global.{Global}
use Rattle.isis_base.specs.Prefixes.{prefix_number}
use Rattle.model_router.specs.Sorted.{RisesFrom}
use Rattle.ordered.specs.Keyed.{IsGap, IsPlace, keyed, paired}
use Rattle.ordered.proofs.PairLemmas.{keyed-rises}
use Rattle.route_table.specs.declared.candidate.Candidate.{Candidate}
use Rattle.router_routes.specs.Ways.{row_key, row_ways}
use Rattle.router_routes.proofs.RowLemmas.{gap-same, place-added}
use Rattle.router_routes.proofs.WayLemmas.{rises-add}
use Rattle.router_routes.proofs.rows.add_way.Goals as goal

pub place_of-requires : goal.place_of-requires
place_of-requires c = subst (λ (xs : List (ℕ × Vec Candidate Global)). RisesFrom 0 (keyed row_key xs)) (sym c.as_slice.ensures.value) (keyed-rises row_key row_ways c.args.rows.now.items 0 c.requires)

pub returns-in-Ok-push-clause-ways : goal.returns-in-Ok-push-clause-ways
returns-in-Ok-push-clause-ways c =
    let at = subst (λ (xs : List (ℕ × Vec Candidate Global)). IsPlace row_key xs (prefix_number c.args.way.now.prefix) c.in-Ok.at) c.as_slice.ensures.value (rw c.to_number.ensures at (rw c.in-Ok.is at c.place_of.ensures)) in
    place-added c.args.rows.now.items c.args.way.now c.in-Ok.at (c.index_mut.result.now.0, c.push.new.self) c.index_mut.result.now at (ap row_key c.index_mut.ensures.value) (c.in-Ok-push.ensures.items ∙ ap (λ (row : ℕ × Vec Candidate Global). row_ways row ++ c.args.way.now ∷ []) c.index_mut.ensures.value)

pub returns-in-Ok-push-clause-rises : goal.returns-in-Ok-push-clause-rises
returns-in-Ok-push-clause-rises c = subst (RisesFrom 0) (sym (returns-in-Ok-push-clause-ways c)) (rises-add c.args.way.now (paired row_key row_ways c.args.rows.now.items) 0 c.requires)

pub returns-in-Err-clause-ways : goal.returns-in-Err-clause-ways
returns-in-Err-clause-ways c =
    gap-same c.args.rows.now.items c.args.way.now c.in-Err.field-0 (subst (λ (xs : List (ℕ × Vec Candidate Global)). IsGap row_key xs (prefix_number c.args.way.now.prefix) c.in-Err.field-0) c.as_slice.ensures.value (rw c.to_number.ensures at (rw c.in-Err.is at c.place_of.ensures)))
