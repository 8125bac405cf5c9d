use Rattle.std.proofs.Common.{List, subst, ℕ}
use Rattle.spf_tree.specs.Exploring.{AreChosen}
use Rattle.spf_tree.proofs.HopLemmas.{hops_are, next_are, empty_is, all_systems}
use Rattle.spf_tree.proofs.next.first_systems.Goals as goal

pub returns-in-Ok-chosen-clause-systems : goal.returns-in-Ok-chosen-clause-systems
returns-in-Ok-chosen-clause-systems c =
    let chosen : AreChosen c.args.indexed.now.rows c.args.root c.args.labels.now c.args.target c.in-Ok.plain.items c.in-Ok-chosen.hops.items =
    subst (λ (ns : List ℕ). AreChosen c.args.indexed.now.rows c.args.root c.args.labels.now c.args.target ns c.in-Ok-chosen.hops.items) c.as_slice.ensures.value c.in-Ok-chosen.ensures in
    all_systems c.args.indexed.now.rows c.args.root c.args.labels.now c.args.target c.in-Ok.plain.items c.in-Ok-chosen.hops.items c.in_order.result.items chosen c.in_order.ensures.none

pub returns-in-Ok-chosen-clause-hops : goal.returns-in-Ok-chosen-clause-hops
returns-in-Ok-chosen-clause-hops c =
    let chosen : AreChosen c.args.indexed.now.rows c.args.root c.args.labels.now c.args.target c.in-Ok.plain.items c.in-Ok-chosen.hops.items =
    subst (λ (ns : List ℕ). AreChosen c.args.indexed.now.rows c.args.root c.args.labels.now c.args.target ns c.in-Ok-chosen.hops.items) c.as_slice.ensures.value c.in-Ok-chosen.ensures in
    next_are c.args.indexed.now.rows c.args.root c.args.labels.now c.args.target c.in-Ok.plain.items c.in-Ok-chosen.hops.items c.in_order.result.items c.requires.least c.in-Ok.ensures chosen c.in_order.ensures.all c.in_order.ensures.none

pub returns-in-Ok-chosen-clause-empty : goal.returns-in-Ok-chosen-clause-empty
returns-in-Ok-chosen-clause-empty c =
    let chosen : AreChosen c.args.indexed.now.rows c.args.root c.args.labels.now c.args.target c.in-Ok.plain.items c.in-Ok-chosen.hops.items =
    subst (λ (ns : List ℕ). AreChosen c.args.indexed.now.rows c.args.root c.args.labels.now c.args.target ns c.in-Ok-chosen.hops.items) c.as_slice.ensures.value c.in-Ok-chosen.ensures in
    empty_is c.args.indexed.now.rows c.args.root c.args.labels.now c.args.target c.in_order.result.items c.requires.least
    (hops_are c.args.indexed.now.rows c.args.root c.args.labels.now c.args.target c.in-Ok.plain.items c.in-Ok-chosen.hops.items c.in_order.result.items c.requires.least c.in-Ok.ensures chosen c.in_order.ensures.all c.in_order.ensures.none)
