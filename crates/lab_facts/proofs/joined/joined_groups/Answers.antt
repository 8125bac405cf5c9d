use Rattle.std.proofs.Common.{List, ℕ, sym, ◌∙◌, subst}
use Rattle.std.proofs.lemmas.Result.{IfOk-weaker}
use Rattle.lab_facts.specs.Joined.{AreGroups}
use Rattle.lab_facts.specs.Parents.{AreLabels}
use Rattle.lab_facts.proofs.GroupLemmas.{labels-tags, groups-are}
use Rattle.lab_facts.proofs.GroupedLemmas.{labels-of}
use Rattle.lab_facts.proofs.joined.joined_groups.Goals as goal

pub grouped-requires : goal.grouped-requires
grouped-requires c =
    labels-tags c.args.runs.now c.args.pairs.now c.deref.result.now (subst (λ (ls : List ℕ). AreLabels c.args.runs.now c.args.pairs.now ls) (sym c.deref.ensures.value) c.in_ok-labels.ensures)

pub returns-clause-groups : goal.returns-clause-groups
returns-clause-groups c =
    IfOk-weaker c.grouped.result _ _
    (λ groups e. subst (λ (gs : List (List ℕ)). AreGroups c.args.runs.now c.args.pairs.now gs) (sym e)
    (groups-are c.args.runs.now c.args.pairs.now c.deref.result.now (subst (λ (ls : List ℕ). AreLabels c.args.runs.now c.args.pairs.now ls) (sym c.deref.ensures.value) c.in_ok-labels.ensures)))
    c.grouped.ensures

pub returns-clause-value : goal.returns-clause-value
returns-clause-value c =
    IfOk-weaker c.grouped.result _ _
    (λ groups e. e ∙ labels-of c.args.runs.now c.args.pairs.now c.deref.result.now (subst (λ (ls : List ℕ). AreLabels c.args.runs.now c.args.pairs.now ls) (sym c.deref.ensures.value) c.in_ok-labels.ensures))
    c.grouped.ensures
