use Rattle.std.proofs.Common.{Option, ◌∙◌, ap, subst}
use Rattle.model_router.specs.Adjacencies as model
use Rattle.model_router.specs.HelloTests.{lan_drop}
use Rattle.model_router.specs.declared.drop_name.DropName.{DropName}
use Rattle.adjacency.specs.Changes.{IsTested}
use Rattle.adjacency.specs.Views as views
use Rattle.router_circuits.specs.Hellos.{hello_of}
use Rattle.router_circuits.proofs.ChangeLemmas.{same-lan}
use Rattle.router_circuits.proofs.tested.test.Goals as goal

pub returns : goal.returns
returns c config boots is known =
    let own = views.config_of c.args.own.now in
    subst (λ (d : Option DropName). IsTested c.test_hello.result d)
    (ap (λ (h : model.Hello). lan_drop own c.args.level boots c.args.lan.now h) c.hello_sizes.ensures.same
    ∙ same-lan own config c.args.level boots c.args.lan.now (hello_of c.args.hello.now) (c.own_words.ensures config is))
    (c.test_hello.ensures boots known.greatest known.full)
