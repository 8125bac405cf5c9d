use Rattle.std.proofs.Common.{◌≡◌, ◌-◌, ◌<◌, ◌≤◌, length, take, drop, false, refl, sym, arith}
use Rattle.std.proofs.lemmas.Grind.{common_steps}
use Rattle.std.proofs.lemmas.List.{take_rest, drop-drop}
use Rattle.isis_edge.proofs.ToldLemmas.{copied_front, take-more}
use Rattle.isis_edge.proofs.memory_source.MemorySourceSource.read.Goals as goal

pub returns-clause-octets : goal.returns-clause-octets
returns-clause-octets c =
    let rest = take_rest c.self.inside.octets c.self.inside.taken in
    let some : 0 < c.min-count.result = grind (arith, common_steps) in
    let fits : c.min-count.result ≤ length c.args.into.now = omega arith in
    let left : c.min-count.result ≤ length c.self.inside.octets - c.self.inside.taken = grind (arith, common_steps) in
    let copied : c.copy_from_slice.new.self ≡ take c.min-count.result (drop c.self.inside.taken c.self.inside.octets) = grind (arith, common_steps) in
    let told = copied_front c.self.inside.octets c.args.into.now _ _ _ some fits left copied in
    rw (← c.self.view_is) (told.0, told.1, told.2, refl)

pub returns-clause-after : goal.returns-clause-after
returns-clause-after c =
    let s = c.self.inside in
    let gave = take-more s.taken c.min-count.result s.octets in
    let left = sym (drop-drop c.min-count.result s.taken s.octets) in
    let counted = c.next_fails.ensures.counted in
    rw (← c.self.view_is) (λ i. record {
      gave = gave i;
      ended = false;
      left = left i;
      piece = s.piece;
      failing = (counted i).failing.items;
      calls = (counted i).made;
      faults = (counted i).faults;
    })
