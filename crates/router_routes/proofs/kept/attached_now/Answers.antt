use Rattle.std.proofs.Common.{ℕ, List, sym, subst}
use Rattle.isis_base.specs.declared.identifiers.SystemId.{SystemId}
use Rattle.router_routes.specs.Candidates.{reached_in}
use Rattle.router_routes.specs.Kept.{AreSame}
use Rattle.router_routes.specs.Moved.{outlook_at}
use Rattle.router_routes.proofs.CandidateLemmas.{attached-one, graph-two}
use Rattle.router_routes.proofs.SystemLemmas.{twos-same}
use Rattle.router_routes.proofs.kept.attached_now.Goals as goal

pub level_systems-requires : goal.level_systems-requires
level_systems-requires c = record { fit = c.requires.fit.two; graph = graph-two c.args.view.now c.args.two.now c.has_level.result c.requires.two c.has_level.ensures }

pub attached-requires-clause-twos : goal.attached-requires-clause-twos
attached-requires-clause-twos c =
    subst (λ (l : List (SystemId × ℕ)). AreSame l (reached_in (outlook_at c.args.view.now).told.two (outlook_at c.args.view.now).root)) (sym c.deref.ensures.value)
    (twos-same c.args.view.now c.args.two.now c.has_level.result c.in_ok-twos-in-Both.twos.items c.requires.two c.has_level.ensures c.in_ok-twos-in-Both.ensures.same)

pub returns-in-One : goal.returns-in-One
returns-in-One c = attached-one c.args.view.now c.in-One.is
