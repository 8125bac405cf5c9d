use Rattle.std.proofs.Common.{◌≡◌, false, List, Option, Some, None, IfSome, sym, ap, ◌∙◌, subst}
use Rattle.std.specs.BTreeMap as tree
use Rattle.model_network.specs.Networks.{Taking}
use Rattle.lab_facts.specs.declared.sweeps.Streak.{Streak}
use Rattle.lab_facts.specs.Sweeps.{is_whole}
use Rattle.lab_facts.specs.Keeping.{IsTold, covers_in, order}
use Rattle.lab_facts.proofs.SweepLemmas.{whole-told, none-whole}
use Rattle.lab_facts.proofs.sweeps.Sweeps.is_whole.Goals as goal

pub returns-in-Some : goal.returns-in-Some
returns-in-Some c =
    let found : tree.get order c.self.inside.streaks c.args.key ≡ Some c.in-Some.streak.now = sym c.in-Some.ensures.value in
    subst (λ (ts : List Taking). c.in-Some.streak.now.whole ≡ is_whole c.args.key ts) c.self.view_is
    (whole-told c.args.key _ c.in-Some.streak.now
    (λ id. sym (ap (λ (o : Option Streak). covers_in o id) found) ∙ c.self.invariant.covered c.args.key id)
    (subst (λ (o : Option Streak). IfSome o IsTold) found (c.self.invariant.told c.args.key)))

pub returns-in-None : goal.returns-in-None
returns-in-None c =
    let found : tree.get order c.self.inside.streaks c.args.key ≡ None = sym c.in-None.ensures.value in
    subst (λ (ts : List Taking). false ≡ is_whole c.args.key ts) c.self.view_is
    (none-whole c.args.key _
    (λ id. sym (ap (λ (o : Option Streak). covers_in o id) found) ∙ c.self.invariant.covered c.args.key id))
