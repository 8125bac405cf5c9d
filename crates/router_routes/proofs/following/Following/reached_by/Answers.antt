use Rattle.std.proofs.Common.{ap}
use Rattle.isis_base.specs.declared.level.Level.TheVariants as level
use Rattle.router_routes.specs.Following.{FollowingOf}
use Rattle.router_routes.specs.Moved.{outlook_at}
use Rattle.router_routes.proofs.ComingLemmas.{newest-costs, newest-level}
use Rattle.router_routes.proofs.following.Following.reached_by.Goals as goal

pub reached_with-requires-clause-beside : goal.reached_with-requires-clause-beside
reached_with-requires-clause-beside c = c.requires.levels.beside

pub reached_with-requires-clause-nodes : goal.reached_with-requires-clause-nodes
reached_with-requires-clause-nodes c = c.requires.levels.ids

pub reached_with-requires-clause-costs_one : goal.reached_with-requires-clause-costs_one
reached_with-requires-clause-costs_one c =
    newest-costs c.args.nodes.now c.self.inside.one c.args.self.now.levels.one c.newest_costs-one.result.now c.args.levels.now.one c.newest_costs-one.ensures (ap (λ (f : FollowingOf). f.levels.one) c.self.view_is) c.requires.levels.costs_one

pub reached_with-requires-clause-costs_two : goal.reached_with-requires-clause-costs_two
reached_with-requires-clause-costs_two c =
    newest-costs c.args.nodes.now c.self.inside.two c.args.self.now.levels.two c.newest_costs-two.result.now c.args.levels.now.two c.newest_costs-two.ensures (ap (λ (f : FollowingOf). f.levels.two) c.self.view_is) c.requires.levels.costs_two

pub reached_with-requires-clause-one : goal.reached_with-requires-clause-one
reached_with-requires-clause-one c =
    newest-level (outlook_at c.args.view.now) level.One c.self.inside.one c.args.self.now.levels.one c.newest_costs-one.result.now c.args.levels.now.one c.newest_costs-one.ensures (ap (λ (f : FollowingOf). f.levels.one) c.self.view_is) c.requires.levels.right.one

pub reached_with-requires-clause-two : goal.reached_with-requires-clause-two
reached_with-requires-clause-two c =
    newest-level (outlook_at c.args.view.now) level.Two c.self.inside.two c.args.self.now.levels.two c.newest_costs-two.result.now c.args.levels.now.two c.newest_costs-two.ensures (ap (λ (f : FollowingOf). f.levels.two) c.self.view_is) c.requires.levels.right.two
