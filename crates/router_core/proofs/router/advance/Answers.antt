use Rattle.std.proofs.Common.{IfSome, sym, subst}
use Rattle.model_router.specs.Routers.{Router}
use Rattle.router_routes.specs.Outlooks.{outlook_of}
use Rattle.router_routes.specs.Following.{IsFollowing}
use Rattle.router_core.specs.Plans.{committed}
use Rattle.router_core.proofs.KeepingLemmas.{kept-counts, kept-fits, kept-follows}
use Rattle.router_core.proofs.PlanLemmas.{told-ordered}
use Rattle.router_core.proofs.router.advance.Goals as goal

pub next_told-requires-clause-order : goal.next_told-requires-clause-order
next_told-requires-clause-order g c asked = told-ordered _ _ c.args.told (c.requires.told asked)

pub put_next-requires : goal.put_next-requires
put_next-requires g c =
    let o = outlook_of (committed c.args.parts.now c.args.deed) in
    kept-fits o c.in-Ok.next _ (c.in-Ok.ensures o c.requires.told)

pub returns-clause-follows : goal.returns-clause-follows
returns-clause-follows g c =
    let o = outlook_of (committed c.args.parts.now c.args.deed) in
    subst (λ (r : Router). IfSome (g.K.Keeping.kept c.put_next.new.kept) (IsFollowing (outlook_of r))) (sym c.in-Ok-commit.ensures.state)
    (kept-follows o c.in-Ok.next _ _ (c.in-Ok.ensures o c.requires.told) c.put_next.ensures)

pub returns-clause-counted : goal.returns-clause-counted
returns-clause-counted g c =
    let o = outlook_of (committed c.args.parts.now c.args.deed) in
    kept-counts o c.in-Ok.next _ _ (c.in-Ok.ensures o c.requires.told) c.put_next.ensures
