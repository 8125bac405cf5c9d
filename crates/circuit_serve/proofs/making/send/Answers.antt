use Rattle.std.proofs.Common.{rules, ◌≡◌, [], ◌∷◌, ℕ, List, take, slice_get, Some, sym, ◌∙◌, subst, arith}
use Rattle.daemon_edge.specs.Ports.{Adds}
use Rattle.circuit_serve.proofs.Told.{adds_both, take_next}
use Rattle.circuit_serve.proofs.making.send.Goals as goal

pub loop-place-preserved : goal.loop-place-preserved
loop-place-preserved g c =
    let was = c.loop-place.invariant in let o = c.offer.ensures in let d : List ℕ = c.in-Some.datagram.now in
    let all : List (List ℕ) = c.args.datagrams.now in let i : ℕ = c.loop-place.place in
    let at : slice_get all i ≡ Some d = search rules in
    let p = c.args.port.now in let q = c.loop-place.port in let r = c.offer.new.self in (
      adds_both (g.P.Port.given p) (g.P.Port.given q) (g.P.Port.given r) [] [] was.0 o.given,
      subst (Adds (g.P.Port.offered p) (g.P.Port.offered r)) (sym (take_next all i d at)) (adds_both (g.P.Port.offered p) (g.P.Port.offered q) (g.P.Port.offered r) (take i all) (d ∷ []) was.1 o.offered),
      o.opening ∙ was.2,
      o.asked ∙ was.3,
      omega (arith, was.4, o.later),
    )
