use Rattle.std.proofs.Common.{◌≡◌, ◌∙◌, ◌++◌, List, filter, ap, sym, subst}
use Rattle.std.proofs.lemmas.Result.{IfOk-weaker}
use Rattle.route_table.specs.declared.candidate.Candidate.{Candidate}
use Rattle.router_routes.specs.Following.{FollowingOf}
use Rattle.router_routes.specs.Kept.{AreSame, stays, ways_by}
use Rattle.router_routes.specs.Candidates.{ways_of}
use Rattle.router_routes.specs.Moved.{outlook_at}
use Rattle.router_routes.specs.Outlooks.{Outlook, outlook_in}
use Rattle.router_routes.specs.Touched.{AreExchanged}
use Rattle.router_routes.proofs.SameLemmas.{AreCostsOf, come-are, costs-of, went-are}
use Rattle.router_routes.proofs.following.Following.reached_with.Goals as goal

pub returns : goal.returns
returns c =
    let o = outlook_in c.args.lent.now in
    let p = outlook_at c.args.view.now in
    let f = c.args.self.now in
    let nodes = c.args.nodes.now in
    let one = ap (λ (g : FollowingOf). g.levels.one) c.self.view_is in
    let two = ap (λ (g : FollowingOf). g.levels.two) c.self.view_is in
    let a1 = subst AreCostsOf one (costs-of c.self.inside.one c.distances-old_one.result.now c.distances-old_one.ensures.same c.distances-old_one.ensures.distances) in
    let a2 = subst AreCostsOf two (costs-of c.self.inside.two c.distances-old_two.result.now c.distances-old_two.ensures.same c.distances-old_two.ensures.distances) in
    let b1 = costs-of c.args.one.now c.distances-new_one.result.now c.distances-new_one.ensures.same c.distances-new_one.ensures.distances in
    let b2 = costs-of c.args.two.now c.distances-new_two.result.now c.distances-new_two.ensures.same c.distances-new_two.ensures.distances in
    let went : c.as_slice.result.now ≡ ways_by o f.levels.one f.levels.two nodes =
    c.as_slice.ensures.value ∙ c.in_ok-went.ensures ∙ ap (λ (q : Outlook). ways_by q c.self.inside.one c.self.inside.two nodes) c.as_lent.ensures.same
    ∙ ap (λ (g : FollowingOf). ways_by o g.levels.one g.levels.two nodes) c.self.view_is in
    let come : c.as_slice-2.result.now ≡ ways_by p c.args.one.now c.args.two.now nodes = c.as_slice-2.ensures.value ∙ c.in_ok-come.ensures in
    let both : AreExchanged nodes o p c.as_slice.result.now c.as_slice-2.result.now = record {
      before = subst (λ (l : List Candidate). AreSame (ways_of o) (filter (stays nodes) (ways_of o) ++ l)) (sym went) (went-are o f c.requires.follows nodes c.requires.nodes c.lent_ids.ensures a1 a2);
      after =
          subst (λ (l : List Candidate). AreSame (filter (stays nodes) (ways_of o) ++ l) (ways_of p)) (sym come)
          (come-are o p f c.requires.follows nodes c.requires.nodes c.requires.beside c.lent_ids.ensures c.view_ids.ensures c.args.one.now c.args.two.now c.requires.one c.requires.two a1 a2 b1 b2 c.requires.costs_one c.requires.costs_two);
    } in
    IfOk-weaker c.reached_of.result _ _ (λ reached are. are o p c.requires.follows both c.in_ok-attached.ensures) c.reached_of.ensures
