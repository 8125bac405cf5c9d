use Rattle.std.proofs.Common.{Option, subst}
use Rattle.isis_base.specs.declared.level.Level.TheVariants as level
use Rattle.spf_repair.specs.Changes.{RepairedOf}
use Rattle.router_routes.specs.Outlooks.{outlook_in}
use Rattle.router_routes.specs.Following.{IsLevel}
use Rattle.router_routes.specs.Moved.{or_old, outlook_at}
use Rattle.router_routes.proofs.ComingLemmas.{levels-are, of-one-root}
use Rattle.router_routes.proofs.following.Following.with_levels.Goals as goal

pub with_nodes-requires-clause-one : goal.with_nodes-requires-clause-one
with_nodes-requires-clause-one c = subst (λ (o : Option RepairedOf). IsLevel (outlook_at c.args.view.now) level.One (or_old o c.args.self.now.levels.one)) (c.none_of.ensures.one c.if-none_of.true) c.requires.one

pub with_nodes-requires-clause-two : goal.with_nodes-requires-clause-two
with_nodes-requires-clause-two c = subst (λ (o : Option RepairedOf). IsLevel (outlook_at c.args.view.now) level.Two (or_old o c.args.self.now.levels.two)) (c.none_of.ensures.two c.if-none_of.true) c.requires.two

pub levels_of-requires-clause-one : goal.levels_of-requires-clause-one
levels_of-requires-clause-one c = of-one-root (outlook_in c.args.lent.now) (outlook_at c.args.view.now) level.One _ _ c.requires.follows.one c.requires.one c.requires.beside.root

pub levels_of-requires-clause-two : goal.levels_of-requires-clause-two
levels_of-requires-clause-two c = of-one-root (outlook_in c.args.lent.now) (outlook_at c.args.view.now) level.Two _ _ c.requires.follows.two c.requires.two c.requires.beside.root

pub with_hops-requires-clause-levels : goal.with_hops-requires-clause-levels
with_hops-requires-clause-levels c = levels-are (outlook_at c.args.view.now) c.args.self.now c.args.one c.args.two c.in-Ok.levels c.requires.one c.requires.two c.in-Ok.ensures
