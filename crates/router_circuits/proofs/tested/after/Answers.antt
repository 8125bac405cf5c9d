use Rattle.std.proofs.Common.{Option, ◌∙◌, ap, subst}
use Rattle.std.proofs.lemmas.Result.{IfOk-weaker}
use Rattle.model_router.specs.Adjacencies as model
use Rattle.model_router.specs.HelloTests.{point_drop}
use Rattle.model_router.specs.declared.drop_name.DropName.{DropName}
use Rattle.adjacency.specs.Changes.{IsTested}
use Rattle.adjacency.specs.Views as views
use Rattle.router_circuits.specs.Hellos.{hello_of}
use Rattle.router_circuits.proofs.ChangeLemmas.{after-words, same-common, same-point}
use Rattle.router_circuits.proofs.tested.after.Goals as goal

pub returns-clause-tested : goal.returns-clause-tested
returns-clause-tested c config boots is known =
    let own = views.config_of c.args.own.now in
    subst (λ (d : Option DropName). IsTested c.after_hello.result d)
    (ap (λ (h : model.Hello). point_drop own c.args.own.now.id boots h) c.hello_sizes.ensures.same
    ∙ same-point own config c.args.own.now.id boots (hello_of c.args.hello.now) (c.own_words.ensures config is))
    (c.after_hello.ensures.tested boots known.greatest known.full)

pub returns-clause-after : goal.returns-clause-after
returns-clause-after c config is =
    let own = views.config_of c.args.own.now in
    let words = c.hello_sizes.ensures.same in
    let common = ap (λ (h : model.Hello). model.common_of own h) words ∙ same-common own config (hello_of c.args.hello.now) (c.own_words.ensures config is) in
    IfOk-weaker c.after_hello.result _ _ (λ after heard. after-words c.args.point.now after _ _ _ _ c.args.hello.now.three_way common words heard)
    c.after_hello.ensures.heard
