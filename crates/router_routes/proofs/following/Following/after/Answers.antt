use Rattle.std.proofs.Common.{sym, ap, subst}
use Rattle.std.specs.Prelude.{MatchOption}
use Rattle.std.proofs.lemmas.Result.{IfOk-weaker}
use Rattle.spf_repair.specs.Changes.{RepairedOf}
use Rattle.router_routes.specs.Outlooks.{Outlook}
use Rattle.router_routes.specs.Following.{FollowingOf, IsFollowing}
use Rattle.router_routes.specs.Coming.{IsComing}
use Rattle.router_routes.specs.Moved.{AreRowsMoved, outlook_at}
use Rattle.router_routes.proofs.ComingLemmas.{next-fits}
use Rattle.router_routes.proofs.AheadLemmas.{before-one, before-two, after-one, after-two}
use Rattle.router_routes.proofs.following.Following.after.Goals as goal

pub level_after-requires-clause-costs : goal.level_after-requires-clause-costs
level_after-requires-clause-costs c =
    before-one c.args.lent.now c.args.told.now c.as_told-view.result c.as_told-view.ensures.viewed c.args.self.now c.requires.follows c.has_level.result c.has_level.ensures c.self.inside.one (ap (λ (f : FollowingOf). f.levels.one) c.self.view_is)

pub level_after-requires-2-clause-costs : goal.level_after-requires-2-clause-costs
level_after-requires-2-clause-costs c =
    before-two c.args.lent.now c.args.told.now c.as_told-view.result c.as_told-view.ensures.viewed c.args.self.now c.requires.follows c.has_level-2.result c.has_level-2.ensures c.self.inside.two (ap (λ (f : FollowingOf). f.levels.two) c.self.view_is)

pub with_levels-requires-clause-one : goal.with_levels-requires-clause-one
with_levels-requires-clause-one c =
    after-one c.args.lent.now c.args.told.now c.as_told-view.result c.as_told-view.ensures.viewed c.args.self.now c.requires.follows c.has_level.result c.has_level.ensures c.self.inside.one (ap (λ (f : FollowingOf). f.levels.one) c.self.view_is) c.in_ok-one.one c.in_ok-one.ensures.costs

pub with_levels-requires-clause-two : goal.with_levels-requires-clause-two
with_levels-requires-clause-two c =
    after-two c.args.lent.now c.args.told.now c.as_told-view.result c.as_told-view.ensures.viewed c.args.self.now c.requires.follows c.has_level-2.result c.has_level-2.ensures c.self.inside.two (ap (λ (f : FollowingOf). f.levels.two) c.self.view_is) c.in-Ok.two c.in-Ok.ensures.costs

pub with_levels-requires-clause-rows_one : goal.with_levels-requires-clause-rows_one
with_levels-requires-clause-rows_one c = subst (λ (r : RepairedOf). AreRowsMoved r c.in_ok-one.one) (ap (λ (f : FollowingOf). f.levels.one) c.self.view_is) c.in_ok-one.ensures.rows

pub with_levels-requires-clause-rows_two : goal.with_levels-requires-clause-rows_two
with_levels-requires-clause-rows_two c = subst (λ (r : RepairedOf). AreRowsMoved r c.in-Ok.two) (ap (λ (f : FollowingOf). f.levels.two) c.self.view_is) c.in-Ok.ensures.rows

pub returns-in-Ok-clause-fits : goal.returns-in-Ok-clause-fits
returns-in-Ok-clause-fits c = IfOk-weaker c.with_levels.result _ _ (λ next m. next-fits (outlook_at c.as_told-view.result) c.args.self.now next m) c.with_levels.ensures

pub returns-in-Ok-clause-moves : goal.returns-in-Ok-clause-moves
returns-in-Ok-clause-moves c =
    IfOk-weaker c.with_levels.result _ _ (λ next m. λ o is.
    subst (λ (q : Outlook). MatchOption next (IsFollowing q c.args.self.now) (λ f. IsComing q c.args.self.now f)) (sym (c.as_told-view.ensures.same o is)) m) c.with_levels.ensures
