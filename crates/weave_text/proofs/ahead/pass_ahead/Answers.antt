use Rattle.std.proofs.Common.{◌≡◌, ◌∙◌, ◌-◌, ◌+◌, ℕ, suc, drop, sym, ap, arith}
use Rattle.weave_text.specs.Ahead.{ahead_count}
use Rattle.weave_text.specs.Lines.{Left}
use Rattle.weave_text.proofs.AheadLemmas.{count-none, count-next, count-stop, drop-turn, behind-is}
use Rattle.weave_text.proofs.ahead.pass_ahead.Goals as goal

pub returns-then-not-is_ahead-clause-count : goal.returns-then-not-is_ahead-clause-count
returns-then-not-is_ahead-clause-count c =
    let left = c.loop-line.left in
    let stop : ahead_count left.lines ≡ 0 = count-stop left.lines c.in-Some.line.now c.next.new.self.lines c.in-Some.ensures.0 (sym c.is_ahead.ensures ∙ c.if-not-is_ahead.true) in
    omega (arith, c.number.ensures, ap (λ (l : Left). l.number) c.loop-line.invariant.same, c.loop-line.invariant.counted, stop)

pub returns-then-not-is_ahead-clause-behind : goal.returns-then-not-is_ahead-clause-behind
returns-then-not-is_ahead-clause-behind c =
    let left = c.loop-line.left in
    let stop : ahead_count left.lines ≡ 0 = count-stop left.lines c.in-Some.line.now c.next.new.self.lines c.in-Some.ensures.0 (sym c.is_ahead.ensures ∙ c.if-not-is_ahead.true) in
    behind-is c.loop-line.behind left c.args.lines.now c.number-first.result (ahead_count c.args.lines.now.lines) c.loop-line.invariant.same c.loop-line.invariant.first c.loop-line.invariant.past c.loop-line.invariant.dropped
    (omega (arith, c.loop-line.invariant.counted, stop))

pub loop-line-preserved : goal.loop-line-preserved
loop-line-preserved c =
    let left = c.loop-line.left in
    let new = c.next.new.self in
    let first = c.number-first.result in
    let number : new.number ≡ left.number + 1 = ap (λ (l : Left). l.number) c.in-Some.ensures.1 in
    let next : ahead_count left.lines ≡ 1 + ahead_count new.lines = count-next left.lines c.in-Some.line.now new.lines c.in-Some.ensures.0 (sym c.is_ahead.ensures ∙ c.if-not-is_ahead.false) in
    let one : suc (left.number - first) ≡ new.number - first = omega (arith, c.loop-line.invariant.past, number) in
    record {
      same = c.again-behind-in-Some.ensures;
      first = c.loop-line.invariant.first;
      past = omega (arith, c.loop-line.invariant.past, number);
      counted = omega (arith, c.loop-line.invariant.past, c.loop-line.invariant.counted, number, next);
      dropped = drop-turn (left.number - first) c.args.lines.now.lines c.in-Some.line.now new.lines (sym c.in-Some.ensures.0 ∙ c.loop-line.invariant.dropped) ∙ ap (λ (n : ℕ). drop n c.args.lines.now.lines) one;
    }

pub returns-clause-count : goal.returns-clause-count
returns-clause-count c =
    let none : ahead_count c.loop-line.left.lines ≡ 0 = count-none c.loop-line.left.lines c.in_default.ensures.0 in
    omega (arith, c.number-2.ensures, ap (λ (l : Left). l.number) c.loop-line.invariant.same, c.loop-line.invariant.counted, none)

pub returns-clause-behind : goal.returns-clause-behind
returns-clause-behind c =
    let none : ahead_count c.loop-line.left.lines ≡ 0 = count-none c.loop-line.left.lines c.in_default.ensures.0 in
    behind-is c.loop-line.behind c.loop-line.left c.args.lines.now c.number-first.result (ahead_count c.args.lines.now.lines) c.loop-line.invariant.same c.loop-line.invariant.first c.loop-line.invariant.past c.loop-line.invariant.dropped
    (omega (arith, c.loop-line.invariant.counted, none))
