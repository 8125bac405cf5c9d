use Rattle.std.proofs.Common.{rules, ◌≡◌, suc, ◌+◌, [], ◌∷◌, ◌++◌, map, length, sym, ap, ◌∙◌, arith, length-append, append_assoc}
use Rattle.isis_edge.specs.Faults.{one_more}
use Rattle.daemon_edge.specs.Closings.{opened_at}
use Rattle.daemon_edge.specs.Ports.{IsFresh}
use Rattle.circuit_serve.proofs.Told.{adds_both}
use Rattle.circuit_serve.proofs.Gathered.{one_longer, places_more}
use Rattle.circuit_serve.specs.Openings.{openings, counted}
use Rattle.circuit_serve.proofs.Opened.{openings_more, map_more}
use Rattle.circuit_serve.proofs.ports.open_ports.Goals as goal

pub loop-place-preserved : goal.loop-place-preserved
loop-place-preserved g c =
    let was = c.loop-place.invariant in let ys = c.loop-place.yielded in let place = c.in-Some.place in let rest = c.next.new.self.rest.items in
    let list = c.loop-place.list.items in let port = c.in-Ok.port in let o = c.in-Ok.ensures in
    let e : c.loop-place.place-iterator.rest.items ≡ place ∷ rest = search rules in
    let longer : length (ys ++ place ∷ []) ≡ suc (length ys) = omega (arith, length-append ys (place ∷ [])) in
    let number : c.loop-place.circuit + 1 ≡ 1 + length ys = omega (arith, was.circuit) in
    record {
      circuit = omega (arith, was.circuit, longer);
      size = one_longer list c.put-list.result.items (length (ys ++ place ∷ [])) port c.put-list.ensures.items (omega (arith, was.size, longer));
      room = omega (arith, was.room, c.put-list.ensures.capacity);
      made =
          ap (map g.P.Port.Port.opening) c.put-list.ensures.items
          ∙ (map_more g.P.Port.Port.opening list port
          ∙ ((λ i. was.made i ++ o.opening i ∷ [])
          ∙ (ap (λ n. openings 1 ys ++ opened_at n place ∷ []) number ∙ sym (openings_more 1 ys place))));
      fresh = places_more list c.put-list.result.items port (λ i p. IsFresh (g.P.Port.Port.given p) (g.P.Port.Port.offered p) (g.P.Port.Port.asked p)) c.put-list.ensures.items was.fresh o.fresh;
      count = o.opened ∙ (ap one_more was.count ∙ ap (λ n. counted n (g.P.Ports.opened c.args.ports.now)) (sym longer));
      closed = adds_both (g.P.Ports.closed c.args.ports.now) (g.P.Ports.closed c.loop-place.ports) (g.P.Ports.closed c.open.new.self) [] [] was.closed c.open.ensures.closed;
      later = omega (arith, was.later, c.open.ensures.later);
      all = was.all ∙ (ap (λ z. ys ++ z) e ∙ sym (append_assoc ys (place ∷ []) rest));
    }
