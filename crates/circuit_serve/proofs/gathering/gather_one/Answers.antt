use Rattle.std.proofs.Common.{◌≡◌, ◌≢◌, ℕ, ◌+◌, [], length, sym, ◌∙◌, subst}
use Rattle.turn_lock.specs.Passes.{own, seen}
use Rattle.daemon_edge.specs.declared.spawning.Started.TheVariants as started
use Rattle.circuit_threads.specs.Sharing.{first_router}
use Rattle.circuit_serve.specs.declared.end.ServeEnd.TheVariants.{Done}
use Rattle.circuit_serve.specs.Labels.{by_label}
use Rattle.circuit_serve.specs.Ends.{end_of, IsEnd, IsRun, CircuitIs, Gathers}
use Rattle.circuit_serve.specs.Jobs.{IsOpened}
use Rattle.circuit_serve.proofs.Gathered.{some_same, both_done, joined_end, gathers_more}
use Rattle.circuit_serve.proofs.gathering.gather_one.Goals as goal

pub returns-clause-gathers : goal.returns-clause-gathers
returns-clause-gathers g c =
    let given = g.P.Port.given in let offered = g.P.Port.offered in let asked = g.P.Port.asked in
    let j = c.args.job in let p = c.args.pass in let q = c.in-Some.its in let r = c.join_labels-joined.result in
    let ports = c.args.ports.items in let n : ℕ = length ports in let port = c.in-Circuit.port in let turns : ℕ = c.args.turns in
    let All = c.args.started ≡ started.All in
    let One = All × (end_of j.end ≡ Done) in
    let run = subst (λ t. IsRun given offered asked c.args.shared.now turns (n + 1) All t j.pass j.end) c.in-Circuit.is c.requires.job in
    let same : run.0 ≡ q = some_same run.0 q (sym run.1 ∙ c.in-Some.is) in
    let only : (d : ℕ) → d ≢ n + 1 → by_label d (own q) (seen q) ≡ [] = λ d apart. subst (λ z. by_label d (own z) (seen z) ≡ []) same (run.5 d apart) in
    let is : CircuitIs given offered asked turns (n + 1) port (by_label (n + 1) (own q) (seen q)) One = subst (λ z. CircuitIs given offered asked turns (n + 1) port (by_label (n + 1) (own z) (seen z)) One) same run.6 in
    let both = λ (now : c.first_end-end.result ≡ Done). both_done c.args.end c.end_of-last.result (sym c.first_end-end.ensures ∙ now) in
    subst (λ xs. Gathers given offered asked turns xs r (c.first_end-end.result ≡ Done)) (sym c.put-list.ensures.items)
    (gathers_more given offered asked turns ports port p q r (c.args.end ≡ Done) One (c.first_end-end.result ≡ Done) c.requires.gathers only is
    (λ now. (both now).0) (λ now. (c.requires.all (both now).0, sym c.end_of-last.ensures ∙ (both now).1)) c.join_labels-joined.ensures.first c.join_labels-joined.ensures.second)

pub returns-clause-opened : goal.returns-clause-opened
returns-clause-opened g c = λ o is.
    let port = c.in-Circuit.port in
    (port, c.put-list.ensures.items, subst (IsOpened g.P.Port.opening o) c.in-Circuit.is is)

pub returns-clause-end : goal.returns-clause-end
returns-clause-end g c =
    let j = c.args.job in let start = first_router c.args.shared.now in let q = c.in-Some.its in let o = c.join_labels-joined.ensures in
    let All = c.args.started ≡ started.All in
    let run = subst (λ t. IsRun g.P.Port.given g.P.Port.offered g.P.Port.asked c.args.shared.now c.args.turns (length c.args.ports.items + 1) All t j.pass j.end) c.in-Circuit.is c.requires.job in
    let same : run.0 ≡ q = some_same run.0 q (sym run.1 ∙ c.in-Some.is) in
    let its : IsEnd start (seen q) c.end_of-last.result = subst (IsEnd start (seen q)) (sym c.end_of-last.ensures) (subst (λ z. IsEnd start (seen z) (end_of j.end)) same run.4) in
    subst (IsEnd start (seen c.join_labels-joined.result)) (sym c.first_end-end.ensures)
    (joined_end start (seen c.args.pass) (seen q) (seen c.join_labels-joined.result) c.args.end c.end_of-last.result o.stops.0 o.stops.1 o.calm c.requires.end its)
