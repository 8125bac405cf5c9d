use Rattle.std.proofs.Common.{rules, ◌+◌, ◌<◌, ℕ, List, ◌∷◌, length, drop, slice_set, sym, ◌∙◌, ap}
use Rattle.daemon_edge.proofs.Lists.{drop-set}
use Rattle.daemon_edge.proofs.memory_ports.hand_over.Goals as goal

pub returns-clause-ready : goal.returns-clause-ready
returns-clause-ready c =
    let xs : List (List ℕ) = c.args.list.now.items in let i : ℕ = c.args.place in
    let d : List ℕ = c.index_mut.result.now in let v : List ℕ = c.cut_into.new.datagram in
    let lies : i < length xs = search rules in (
      d,
      drop-set xs i d v lies ∙ ap (λ (z : List ℕ). z ∷ drop (i + 1) (slice_set xs i v)) (sym c.index_mut.ensures.value),
      sym c.cut_into.ensures.given ∙ c.cut_into.ensures.cut,
    )
