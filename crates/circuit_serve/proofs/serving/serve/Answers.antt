use Rattle.std.proofs.Common.{◌≡◌, ◌+◌, ◌*◌, ◌≤◌, ℕ, suc, length, sym, ◌∙◌, ap, subst, arith}
use native.Mathlib.Nat.{suc-mul}
use Rattle.turn_lock.specs.Passes.{turns_left, own, seen}
use Rattle.circuit_threads.specs.Sharing.{HasAll}
use Rattle.circuit_serve.specs.declared.end.ServeEnd.TheVariants.{Done}
use Rattle.circuit_serve.specs.Labels.{of_label, by_label}
use Rattle.circuit_serve.specs.Ends.{TickerIs}
use Rattle.circuit_serve.specs.Served.{circuit_turns}
use Rattle.circuit_serve.proofs.Afterwards.{served_early}
use Rattle.circuit_serve.proofs.Gathered.{weaker}
use Rattle.circuit_serve.proofs.Places.{never_refused}
use Rattle.circuit_serve.proofs.serving.serve.Goals as goal

pub returns-in_default-clause-served : goal.returns-in_default-clause-served
returns-in_default-clause-served g c =
    served_early g.P.Port.opening g.P.Port.given g.P.Port.offered g.P.Port.asked c.args.shared.now c.args.turns c.args.ports.items (g.T.Pacer.given c.args.pacer) (g.T.Pacer.ended c.args.pacer) c.args.pass
    c.requires.lock.0 c.requires.first.0 c.requires.first.2 c.requires.first.3 c.requires.fresh

pub returns-in_default-with_capacity-clause-served : goal.returns-in_default-with_capacity-clause-served
returns-in_default-with_capacity-clause-served g c =
    served_early g.P.Port.opening g.P.Port.given g.P.Port.offered g.P.Port.asked c.args.shared.now c.args.turns c.args.ports.items (g.T.Pacer.given c.args.pacer) (g.T.Pacer.ended c.args.pacer) c.args.pass
    c.requires.lock.0 c.requires.first.0 c.requires.first.2 c.requires.first.3 c.requires.fresh

pub finish-requires-clause-ticker : goal.finish-requires-clause-ticker
finish-requires-clause-ticker g c = (_, _, c.start-jobs.ensures.ticker)

pub returns-clause-served : goal.returns-clause-served
returns-clause-served g c =
    let f = c.finish.ensures in let s = c.start-jobs.ensures in let turns : ℕ = c.args.turns in let n : ℕ = length c.args.ports.items in
    let k : ℕ = circuit_turns turns + circuit_turns turns in let js = c.start-jobs.result.0.items in let r = c.finish.result.0 in
    let ran = f.ran _ _ s.ticker in
    let twice : k ≡ 20 * turns = omega arith in
    let fits : n * k ≤ turns_left c.args.pass = (let e : n * k ≡ n * (20 * turns) = ap (λ z. n * z) twice in omega (arith, e, c.requires.left)) in
    let count : length js ≡ suc n = omega (arith, s.count) in
    let more : length js * k ≡ n * k + k = ap (λ z. z * k) count ∙ suc-mul n k in
    let share : turns_left r + length (own r) ≡ turns_left c.args.pass = omega (arith, ran.0, more, fits) in
    let has : HasAll c.args.shared.now r = share ∙ c.requires.lock.1 in
    let whole = f.whole has in
    record {
      pass = f.lock;
      share = share;
      count = omega (arith, f.count, count);
      openings = λ opens all. f.opened opens (s.opened opens all);
      circuits = λ i port at. weaker g.P.Port.given g.P.Port.offered g.P.Port.asked (circuit_turns turns) (i + 1) port (by_label (i + 1) (own r) (seen r)) (of_label (i + 1) (seen r)) (c.finish.result.3 ≡ Done) (c.finish.result.3 ≡ Done) (whole (i + 1)) (λ d. d) (f.gathers.circuits i port at);
      others = λ d past. whole d ∙ f.gathers.others d (omega (arith, past, f.count, count));
      ticker = subst (λ es. TickerIs es (g.T.Pacer.given c.args.pacer) (g.T.Pacer.given c.finish.result.2) (g.T.Pacer.ended c.finish.result.2) turns (c.finish.result.3 ≡ Done)) (sym (whole 0)) ran.1;
      ends = f.end;
    }

pub returns-in_default-clause-refused : goal.returns-in_default-clause-refused
returns-in_default-clause-refused g c = (λ is. absurd (cc is), λ was. absurd (never_refused (g.S.Spawner.answers c.args.spawner.now) was))

pub returns-in_default-with_capacity-clause-refused : goal.returns-in_default-with_capacity-clause-refused
returns-in_default-with_capacity-clause-refused g c = (λ is. absurd (cc is), λ was. absurd (never_refused (g.S.Spawner.answers c.args.spawner.now) was))
