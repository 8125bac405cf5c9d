use Rattle.std.proofs.Common.{◌+◌, ℕ, List, sym, subst}
use Rattle.std.specs.List.{Contains}
use Rattle.std.proofs.lemmas.Bool.{MatchBool-at_true, MatchBool-at_false}
use Rattle.spf_tree.specs.Walks.{start}
use Rattle.spf_tree.specs.Exploring.{IsStep}
use Rattle.spf_repair.specs.Erase.{HasParallel}
use Rattle.spf_tree.proofs.LabelLemmas.{named_at}
use Rattle.spf_repair.proofs.erase.strike.Goals as goal

pub mark-requires-clause-named : goal.mark-requires-clause-named
mark-requires-clause-named c =
    let from = c.number-from.result in
    let to = c.number-to.result in
    let metric = c.args.row.now.metric in
    let h = MatchBool-at_true (IsStep c.args.old.now from to metric) (IsStep c.args.old.now from to metric → ⊥) c.if-not-is_step.false c.is_step.ensures in
    subst (λ (ns : List ℕ). Contains ns to) (sym c.requires.named) (named_at c.args.old.now to (h.0 + metric) h.2)

pub returns-in-Ok-clause-spared : goal.returns-in-Ok-clause-spared
returns-in-Ok-clause-spared c =
    let rows = c.args.rows.now in
    let from = c.number-from.result in
    let to = c.number-to.result in
    let metric = c.args.row.now.metric in
    let none = MatchBool-at_false (HasParallel rows from to metric) (HasParallel rows from to metric → ⊥) c.if-has_parallel.false c.has_parallel.ensures in
    λ p. absurd (none (subst (λ (n : ℕ). HasParallel rows n to metric) (sym c.number-from.ensures) (subst (λ (n : ℕ). HasParallel rows (start c.args.row.now) n metric) (sym c.number-to.ensures) p)))
