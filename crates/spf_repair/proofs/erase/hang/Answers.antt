use Rattle.std.proofs.Common.{ℕ, List, sym, subst}
use Rattle.std.specs.List.{Contains}
use Rattle.std.proofs.lemmas.Bool.{MatchBool-at_true}
use Rattle.spf_repair.specs.Erase.{Hangs}
use Rattle.spf_tree.proofs.LabelLemmas.{named_at}
use Rattle.spf_repair.proofs.erase.hang.Goals as goal

pub mark-requires-clause-named : goal.mark-requires-clause-named
mark-requires-clause-named c =
    let h = MatchBool-at_true (Hangs c.args.old.now c.args.node c.args.to c.args.metric) (Hangs c.args.old.now c.args.node c.args.to c.args.metric → ⊥) c.if-not-hangs.false c.hangs.ensures in
    subst (λ (ns : List ℕ). Contains ns c.args.to) (sym c.requires) (named_at c.args.old.now c.args.to h.1 h.3)
