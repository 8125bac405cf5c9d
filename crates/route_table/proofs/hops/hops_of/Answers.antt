use Rattle.std.proofs.Common.{[], ◌+◌, ◌≡◌, ◌∙◌, ◌↔◌, ℕ, List, true, sym, subst, arith}
use Rattle.std.specs.List.{Contains}
use Rattle.std.proofs.lemmas.Result.{IfOk-weaker}
use Rattle.spf_tree.specs.Nodes.{is_system}
use Rattle.route_table.specs.declared.candidate.Candidate.{Candidate}
use Rattle.route_table.specs.Order.{IsListedHop, AreHopsIn}
use Rattle.route_table.proofs.HopLemmas.{all_of, gather_none, gather_more, gathered}
use Rattle.route_table.proofs.hops.hops_of.Goals as goal

pub loop-place-preserved : goal.loop-place-preserved
loop-place-preserved c = record {
  systems = c.in-Ok-add_nodes.ensures.systems;
  hops =
      rw c.in-Ok-add_nodes.ensures.added
      (gather_more (IsListedHop c.args.one.now c.args.two.now) c.args.candidates.now c.args.first c.loop-place.place c.index-candidates-place.result c.loop-place.nodes.items c.in-Ok.hops (omega arith) (omega arith) c.loop-place.invariant.hops
      (subst (λ (x : Candidate). (hop : ℕ) → Contains c.in-Ok.hops hop ↔ IsListedHop c.args.one.now c.args.two.now x hop) c.index-candidates-place.is c.in-Ok.ensures.hops));
}

pub with_systems-requires : goal.with_systems-requires
with_systems-requires c = rw c.as_slice.ensures.value (all_of (λ node. is_system node ≡ true) c.loop-place.nodes.items c.in_order-nodes.result.items c.loop-place.invariant.systems c.in_order-nodes.ensures.none)

pub returns-clause-hops : goal.returns-clause-hops
returns-clause-hops c =
    let H = IsListedHop c.args.one.now c.args.two.now in
    let cs = c.args.candidates.now in
    let end : c.loop-place.place ≡ c.args.end = omega arith in
    let so_far : AreHopsIn H cs c.args.first c.args.end c.loop-place.nodes.items = subst (λ (n : ℕ). AreHopsIn H cs c.args.first n c.loop-place.nodes.items) end c.loop-place.invariant.hops in
    let all : AreHopsIn H cs c.args.first c.args.end c.in_order-nodes.result.items = gathered H cs c.args.first c.args.end c.loop-place.nodes.items c.in_order-nodes.result.items so_far c.in_order-nodes.ensures.all c.in_order-nodes.ensures.none in
    IfOk-weaker c.with_systems.result (λ (hops : List ℕ). hops ≡ c.as_slice.result.now) (λ (hops : List ℕ). AreHopsIn H cs c.args.first c.args.end hops) (λ hops e. subst (λ (hs : List ℕ). AreHopsIn H cs c.args.first c.args.end hs) (sym (e ∙ c.as_slice.ensures.value)) all) c.with_systems.ensures

pub returns-then-end-first-eq1-clause-hops : goal.returns-then-end-first-eq1-clause-hops
returns-then-end-first-eq1-clause-hops c =
    let H = IsListedHop c.args.one.now c.args.two.now in
    let cs = c.args.candidates.now in
    let end : c.args.end ≡ c.args.first + 1 = omega arith in
    IfOk-weaker c.hops_to.result (λ (hops : List ℕ). (hop : ℕ) → Contains hops hop ↔ H c.index-candidates-first.result hop) (λ (hops : List ℕ). AreHopsIn H cs c.args.first c.args.end hops) (λ hops e.
    subst (λ (n : ℕ). AreHopsIn H cs c.args.first n hops) (sym end)
    (gather_more H cs c.args.first c.args.first c.index-candidates-first.result [] hops (omega arith) (omega arith) (gather_none H cs c.args.first)
    (subst (λ (x : Candidate). (hop : ℕ) → Contains hops hop ↔ H x hop) c.index-candidates-first.is e)))
    c.hops_to.ensures.hops
