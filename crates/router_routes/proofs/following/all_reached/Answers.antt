use Rattle.std.proofs.Common.{ℕ, List, sym, subst}
use Rattle.isis_base.specs.declared.identifiers.SystemId.{SystemId}
use Rattle.router_routes.specs.Candidates.{LeaveRoom, reached_in}
use Rattle.router_routes.specs.Kept.{AreSame}
use Rattle.router_routes.specs.Moved.{outlook_at}
use Rattle.router_routes.proofs.CandidateLemmas.{graph-one, graph-two}
use Rattle.router_routes.proofs.SystemLemmas.{ones-same, twos-same}
use Rattle.router_routes.proofs.following.all_reached.Goals as goal

pub level_systems-requires : goal.level_systems-requires
level_systems-requires c = record { fit = c.requires.fit.one; graph = graph-one c.args.view.now c.args.one.now c.has_level.result c.requires.one c.has_level.ensures }

pub level_systems-requires-2 : goal.level_systems-requires-2
level_systems-requires-2 c = record { fit = c.requires.fit.two; graph = graph-two c.args.view.now c.args.two.now c.has_level-2.result c.requires.two c.has_level-2.ensures }

pub attached-requires-clause-twos : goal.attached-requires-clause-twos
attached-requires-clause-twos c =
    subst (λ (l : List (SystemId × ℕ)). AreSame l (reached_in (outlook_at c.args.view.now).told.two (outlook_at c.args.view.now).root)) (sym c.deref.ensures.value) (twos-same c.args.view.now c.args.two.now c.has_level-2.result c.in_ok-twos.twos.items c.requires.two c.has_level-2.ensures c.in_ok-twos.ensures.same)

pub told_by-requires-clause-ones : goal.told_by-requires-clause-ones
told_by-requires-clause-ones c =
    subst (λ (l : List (SystemId × ℕ)). AreSame l (reached_in (outlook_at c.args.view.now).told.one (outlook_at c.args.view.now).root)) (sym c.deref-2.ensures.value) (ones-same c.args.view.now c.args.one.now c.has_level.result c.in_ok-ones.ones.items c.requires.one c.has_level.ensures c.in_ok-ones.ensures.same)

pub told_by-requires-clause-twos : goal.told_by-requires-clause-twos
told_by-requires-clause-twos c =
    subst (λ (l : List (SystemId × ℕ)). AreSame l (reached_in (outlook_at c.args.view.now).told.two (outlook_at c.args.view.now).root)) (sym c.deref-3.ensures.value) (twos-same c.args.view.now c.args.two.now c.has_level-2.result c.in_ok-twos.twos.items c.requires.two c.has_level-2.ensures c.in_ok-twos.ensures.same)

pub told_by-requires-clause-room_one : goal.told_by-requires-clause-room_one
told_by-requires-clause-room_one c = subst LeaveRoom (sym c.deref-2.ensures.value) c.in_ok-ones.ensures.room

pub told_by-requires-clause-room_two : goal.told_by-requires-clause-room_two
told_by-requires-clause-room_two c = subst LeaveRoom (sym c.deref-3.ensures.value) c.in_ok-twos.ensures.room

pub returns : goal.returns
returns c =
    record { told = c.in_ok-told.ensures; attached = c.in_ok-attached.ensures }
