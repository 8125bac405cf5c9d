use Rattle.std.proofs.Common.{List, sym, subst}
use Rattle.isis_base.specs.declared.level.Level.TheVariants as level
use Rattle.route_table.specs.declared.candidate.Candidate.{Candidate}
use Rattle.router_routes.specs.Candidates.{ways_of, weighed_of}
use Rattle.router_routes.specs.Kept.{AreSame}
use Rattle.router_routes.specs.Moved.{outlook_at}
use Rattle.router_routes.proofs.ComingLemmas.{level-root}
use Rattle.router_routes.proofs.PatchLemmas.{routes-listed}
use Rattle.router_routes.proofs.following.tables_of.Goals as goal

pub all_candidates-requires : goal.all_candidates-requires
all_candidates-requires c =
    record {
      told = subst (λ (l : List Candidate). AreSame l (ways_of (outlook_at c.args.view.now))) (sym c.as_slice.ensures.value) c.requires.reached.told;
      attached = c.requires.reached.attached;
    }

pub hops_from-requires : goal.hops_from-requires
hops_from-requires c = level-root (outlook_at c.args.view.now) level.One c.args.one.now c.requires.one

pub hops_from-requires-2 : goal.hops_from-requires-2
hops_from-requires-2 c = level-root (outlook_at c.args.view.now) level.Two c.args.two.now c.requires.two

pub returns-clause-routes : goal.returns-clause-routes
returns-clause-routes c =
    let o = outlook_at c.args.view.now in
    let same = subst (λ (l : List Candidate). AreSame l (weighed_of o)) (sym c.as_slice-2.ensures.value) c.in_ok-candidates.ensures in
    routes-listed o c.args.one.now c.args.two.now c.in_ok-hops_one.hops_one c.in_ok-hops_two.hops_two c.as_slice-2.result.now c.in_ok-routes.routes c.requires.one c.requires.two c.in_ok-hops_one.ensures c.in_ok-hops_two.ensures same c.in_ok-routes.ensures
