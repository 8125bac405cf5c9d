use Rattle.std.proofs.Common.{◌∙◌, ap, refl, sym}
use Rattle.model_router.specs.Adjacencies as model
use Rattle.model_router.specs.HelloTests.{point_drop}
use Rattle.adjacency.specs.Views as views
use Rattle.router_circuits.specs.Hellos.{hello_of}
use Rattle.router_circuits.proofs.ChangeLemmas.{greeted-words, shaken, same-common, same-point}
use Rattle.router_circuits.proofs.greeting.greet.Goals as goal

pub returns-in-Err-clause-tested : goal.returns-in-Err-clause-tested
returns-in-Err-clause-tested c config is =
    let own = views.config_of c.args.own.now in
    sym (same-point own config c.args.own.now.id c.args.boots.now (hello_of c.args.hello.now) (c.own_words.ensures config is))
    ∙ ap (λ (h : model.Hello). point_drop own c.args.own.now.id c.args.boots.now h) (sym c.hello_sizes.ensures.same) ∙ c.in-Err.ensures.tested

pub returns-clause-tested : goal.returns-clause-tested
returns-clause-tested c config is =
    let own = views.config_of c.args.own.now in
    sym (same-point own config c.args.own.now.id c.args.boots.now (hello_of c.args.hello.now) (c.own_words.ensures config is))
    ∙ ap (λ (h : model.Hello). point_drop own c.args.own.now.id c.args.boots.now h) (sym c.hello_sizes.ensures.same) ∙ c.in-Ok.ensures.tested

pub returns-clause-greeted : goal.returns-clause-greeted
returns-clause-greeted c config is =
    let own = views.config_of c.args.own.now in
    let done = c.greeted.ensures in
    let words = c.hello_sizes.ensures.same in
    let common = ap (λ (h : model.Hello). model.common_of own h) words ∙ same-common own config (hello_of c.args.hello.now) (c.own_words.ensures config is) in
    greeted-words c.args.point.now c.hear_hello.new.self _ _ _ _ c.args.hello.now.three_way c.in-Ok.change c.greeted.result common words c.in-Ok.ensures.heard c.in-Ok.ensures.change done.anew done.moved done.one done.two

pub returns-clause-shaken : goal.returns-clause-shaken
returns-clause-shaken c =
    shaken (views.config_of c.args.own.now) c.args.own.now.id c.args.boots.now (views.hello_of c.args.hello.now) c.args.hello.now.three_way refl c.in-Ok.ensures.tested
