use Rattle.std.proofs.Common.{◌≡◌, cond, [], Option, Some, None, OnOk, OnErr, Result, Ok, Err, refl, sym, ap, ◌∙◌, subst}
use Rattle.std.specs.Option.{IsSome}
use Rattle.std.specs.Ordering.{is_eq}
use Rattle.std.specs.BTreeMap.{BTreeMap}
use Rattle.std.specs.BTreeMap as tree
use Rattle.lab_facts.specs.declared.key.SweepKey.{SweepKey}
use Rattle.lab_facts.specs.declared.sweeps.Streak.{Streak}
use Rattle.lab_facts.specs.Keeping.{covers_in, order}
use Rattle.lab_facts.proofs.SweepLemmas.{kept-more, kept-again}
use Rattle.lab_facts.proofs.sweeps.add_range.Goals as goal

on-ok : {E : Type 0} (result : Result (Unit {0}) E) (P Q R : Type 0) → OnOk result P → OnOk result Q → (P → Q → R) → OnOk result R
on-ok (Ok u) P Q R p q f = f p q
on-ok (Err e) P Q R p q f = tt

on-err : {E : Type 0} (result : Result (Unit {0}) E) (P R : Type 0) → OnErr result P → (P → R) → OnErr result R
on-err (Ok u) P R p f = tt
on-err (Err e) P R p f = f p

pub returns-in-Some-clause-ok : goal.returns-in-Some-clause-ok
returns-in-Some-clause-ok c =
    let found : tree.get order c.args.streaks.now c.args.key ≡ Some c.in-Some.streak.now = sym c.in-Some.ensures.value in
    let written = c.get_mut.follows.holds c.take.new.self in
    on-ok c.take.result _ _ _ c.take.ensures.more c.take.ensures.told
    (λ more told takings kept.
    kept-more c.args.streaks.now _ c.args.key _ _ c.take.new.self c.in-Some.streak.now.sweep.ranges takings kept
    (λ id. ap (λ (o : Option Streak). covers_in o id) found) more told (written.3 (subst IsSome (sym found) refl)).0)

pub returns-in-Some-clause-err : goal.returns-in-Some-clause-err
returns-in-Some-clause-err c =
    let found : tree.get order c.args.streaks.now c.args.key ≡ Some c.in-Some.streak.now = sym c.in-Some.ensures.value in
    let written = c.get_mut.follows.holds c.take.new.self in
    on-err c.take.result _ _ c.take.ensures.err
    (λ same takings kept.
    kept-again c.args.streaks.now _ c.args.key c.take.new.self takings kept (found ∙ ap Some (sym same)) (written.3 (subst IsSome (sym found) refl)).0)

pub returns-in-Ok-clause-ok : goal.returns-in-Ok-clause-ok
returns-in-Ok-clause-ok c takings kept =
    let unchanged : c.get_mut.follows.lender-at-none ≡ c.args.streaks.now = c.get_mut.follows.holds-at-none in
    let none : tree.get order c.args.streaks.now c.args.key ≡ None = sym c.in_default.ensures.value in
    kept-more c.args.streaks.now c.insert.new.self c.args.key _ _ c.in_ok-streak.streak [] takings kept
    (λ id. ap (λ (o : Option Streak). covers_in o id) none)
    c.in_ok-streak.ensures.more c.in_ok-streak.ensures.told
    (λ q. c.in-Ok.ensures.updates.0 q ∙ ap (λ (m : BTreeMap SweepKey Streak). cond (is_eq (order c.args.key q)) (Some c.in_ok-streak.streak) (tree.get order m q)) unchanged)
