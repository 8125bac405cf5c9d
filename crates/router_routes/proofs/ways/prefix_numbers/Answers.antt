use Rattle.std.proofs.Common.{ℕ, List, map, sym, subst}
use Rattle.std.specs.List.{Contains}
use Rattle.std.proofs.lemmas.List.Elements.{Contains-append_left}
use Rattle.router_routes.specs.Ways.{number_of}
use Rattle.router_routes.proofs.WayLemmas.{at-numbers}
use Rattle.router_routes.proofs.ways.prefix_numbers.Goals as goal

pub returns : goal.returns
returns c =
    let one = c.add_numbers.new.numbers.items in
    let two = c.add_numbers-2.new.numbers.items in
    let sorted = c.in_order.result.items in
    record {
      rising = c.in_order.ensures.rising;
      some =
          at-numbers c.args.some.now c.new-numbers.result.items one two sorted c.in_ok-add_numbers.ensures
          (λ n there. subst (λ (l : List ℕ). Contains l n) (sym c.in_ok-add_numbers-2.ensures) (Contains-append_left one (map number_of c.args.more.now) n there)) c.in_order.ensures.all;
      more = at-numbers c.args.more.now one two two sorted c.in_ok-add_numbers-2.ensures (λ n there. there) c.in_order.ensures.all;
    }
