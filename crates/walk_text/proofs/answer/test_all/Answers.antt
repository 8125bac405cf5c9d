use Rattle.walk_text.proofs.TestLemmas.{match-none, match-some, alone-all, view-first, view-all}
use Rattle.walk_text.proofs.answer.test_all.Goals as goal

pub least_stranger-requires : goal.least_stranger-requires
least_stranger-requires c =
    let looks = c.requires.looks.0 in let are = c.requires.looks.1 in
    alone-all c.args.network.now.seen.routers looks are (match-none _ _ c.in_ok-router.field-0 (c.in_ok-router.ensures looks are) c.in_default.is)

pub first_without-requires-2 : goal.first_without-requires-2
first_without-requires-2 c =
    let looks = c.requires.looks.0 in let are = c.requires.looks.1 in
    let alone = alone-all c.args.network.now.seen.routers looks are (match-none _ _ c.in_ok-router.field-0 (c.in_ok-router.ensures looks are) c.in_default.is) in
    λ i r at. (alone 0 c.router-first.result.now c.router-first.ensures, alone i r at)

pub returns-in-Some-3-clause-refused : goal.returns-in-Some-3-clause-refused
returns-in-Some-3-clause-refused c = λ looks _ _ are. (
  match-none _ _ c.in_ok-router.field-0 (c.in_ok-router.ensures looks are) c.in_default.is,
  match-none _ _ c.in_ok-system.field-0 (c.in_ok-system.ensures looks are) c.in_default-2.is,
  view-first c.args.network.now.seen.routers looks are c.router-first.result.now c.in-Some-3.router c.router-first.ensures
      (match-some _ _ c.in_ok-router-2.field-0 c.in-Some-3.router (c.in_ok-router-2.ensures looks are) c.in-Some-3.is),
)

pub first_without-requires-3 : goal.first_without-requires-3
first_without-requires-3 c =
    let looks = c.requires.looks.0 in let are = c.requires.looks.1 in
    alone-all c.args.network.now.seen.routers looks are (match-none _ _ c.in_ok-router.field-0 (c.in_ok-router.ensures looks are) c.in_default.is)

pub returns-in-Some-4-clause-refused : goal.returns-in-Some-4-clause-refused
returns-in-Some-4-clause-refused c = λ looks _ _ are. (
  match-none _ _ c.in_ok-router.field-0 (c.in_ok-router.ensures looks are) c.in_default.is,
  match-none _ _ c.in_ok-system.field-0 (c.in_ok-system.ensures looks are) c.in_default-2.is,
  view-all c.args.network.now.seen.routers looks are c.router-first.result.now c.router-first.ensures
      (match-none _ _ c.in_ok-router-2.field-0 (c.in_ok-router-2.ensures looks are) c.in_default-3.is),
  match-some _ _ c.in_ok-router-3.field-0 c.in-Some-4.router (c.in_ok-router-3.ensures looks are) c.in-Some-4.is,
)

pub first_without-requires-4 : goal.first_without-requires-4
first_without-requires-4 c =
    let looks = c.requires.looks.0 in let are = c.requires.looks.1 in
    alone-all c.args.network.now.seen.routers looks are (match-none _ _ c.in_ok-router.field-0 (c.in_ok-router.ensures looks are) c.in_default.is)

pub returns-in-Some-5-clause-refused : goal.returns-in-Some-5-clause-refused
returns-in-Some-5-clause-refused c = λ looks _ _ are. (
  match-none _ _ c.in_ok-router.field-0 (c.in_ok-router.ensures looks are) c.in_default.is,
  match-none _ _ c.in_ok-system.field-0 (c.in_ok-system.ensures looks are) c.in_default-2.is,
  view-all c.args.network.now.seen.routers looks are c.router-first.result.now c.router-first.ensures
      (match-none _ _ c.in_ok-router-2.field-0 (c.in_ok-router-2.ensures looks are) c.in_default-3.is),
  match-none _ _ c.in_ok-router-3.field-0 (c.in_ok-router-3.ensures looks are) c.in_default-4.is,
  match-some _ _ c.in_ok-router-4.field-0 c.in-Some-5.router (c.in_ok-router-4.ensures looks are) c.in-Some-5.is,
)

pub returns-clause-ok : goal.returns-clause-ok
returns-clause-ok c = λ looks are. record {
  alone = match-none _ _ c.in_ok-router.field-0 (c.in_ok-router.ensures looks are) c.in_default.is;
  known = match-none _ _ c.in_ok-system.field-0 (c.in_ok-system.ensures looks are) c.in_default-2.is;
  same = view-all c.args.network.now.seen.routers looks are c.router-first.result.now c.router-first.ensures
      (match-none _ _ c.in_ok-router-2.field-0 (c.in_ok-router-2.ensures looks are) c.in_default-3.is);
  settled = match-none _ _ c.in_ok-router-3.field-0 (c.in_ok-router-3.ensures looks are) c.in_default-4.is;
  none_zero = match-none _ _ c.in_ok-router-4.field-0 (c.in_ok-router-4.ensures looks are) c.in_default-5.is;
}
