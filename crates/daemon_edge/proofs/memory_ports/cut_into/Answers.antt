use Rattle.std.proofs.Common.{◌≡◌, ◌++◌, ℕ, List, length, drop, min, ◌∙◌, arith, length-append, length-take, length-drop}
use Rattle.daemon_edge.proofs.Lists.{take-fits}
use Rattle.daemon_edge.proofs.memory_ports.cut_into.Goals as goal

pub returns-clause-cut : goal.returns-clause-cut
returns-clause-cut c =
    let n : ℕ = c.min-count.result in let b : List ℕ = c.args.buffer.now in let v : List ℕ = c.copy_from_slice.new.self in let d : List ℕ = c.args.datagram.now in
    let few : n ≡ min (length d) (length (v ++ drop n b)) =
    omega (arith, c.min-count.ensures, c.len.ensures, length-append v (drop n b), c.copy_from_slice.ensures.len, length-take n b, length-drop n b) in
    c.truncate.ensures ∙ take-fits d n (length (v ++ drop n b)) few
