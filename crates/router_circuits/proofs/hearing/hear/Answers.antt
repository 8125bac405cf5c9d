use Rattle.std.proofs.Common.{List, ℕ, ◌∙◌, ap, sym, subst, arith}
use Rattle.model_router.specs.Adjacencies as model
use Rattle.model_router.specs.Both.{alone}
use Rattle.model_router.specs.HelloTests.{lan_drop}
use Rattle.model_router.specs.Routers.{LanNeighbour}
use Rattle.adjacency.specs.Lans as lans
use Rattle.adjacency.specs.Views as views
use Rattle.router_circuits.specs.Hellos.{hello_of}
use Rattle.router_circuits.specs.Views.{AllSized}
use Rattle.router_circuits.proofs.ChangeLemmas.{hear-sizes, same-lan}
use Rattle.router_circuits.proofs.hearing.hear.Goals as goal

pub returns-in-Ok-clause-tested : goal.returns-in-Ok-clause-tested
returns-in-Ok-clause-tested c config is =
    let own = views.config_of c.args.own.now in
    sym (same-lan own config c.args.level c.args.boots.now c.args.lan.now (hello_of c.args.hello.now) (c.own_words.ensures config is))
    ∙ ap (λ (h : model.Hello). lan_drop own c.args.level c.args.boots.now c.args.lan.now h) (sym c.hello_sizes.ensures.same) ∙ c.in-Ok.ensures.tested

pub returns-in-Err-clause-tested : goal.returns-in-Err-clause-tested
returns-in-Err-clause-tested c config is =
    let own = views.config_of c.args.own.now in
    sym (same-lan own config c.args.level c.args.boots.now c.args.lan.now (hello_of c.args.hello.now) (c.own_words.ensures config is))
    ∙ ap (λ (h : model.Hello). lan_drop own c.args.level c.args.boots.now c.args.lan.now h) (sym c.hello_sizes.ensures.same) ∙ c.in-Err.ensures.tested

pub returns-in-Ok-clause-sized : goal.returns-in-Ok-clause-sized
returns-in-Ok-clause-sized c sized =
    let own = views.config_of c.args.own.now in
    let heard = c.in-Ok.ensures.heard
    ∙ ap (λ (h : model.Hello). lans.hear_lan c.args.lan.now (alone c.args.level (model.common_of own h)) h) c.hello_sizes.ensures.same in
    subst (λ (m : List (ℕ × LanNeighbour)). AllSized m) (sym heard)
    (hear-sizes c.args.lan.now _ (hello_of c.args.hello.now) (c.hello_sizes.ensures.sized _ 0 (omega arith)) sized)
