use Rattle.std.proofs.Common.{rules, ◌≡◌, ℕ, [], ◌∷◌, List, length, take, sym, ap, subst, ◌∙◌, ⊎_elim}
use Rattle.daemon_edge.specs.declared.port.Taken.{Taken}
use Rattle.daemon_edge.specs.declared.port.Taken.TheVariants.{NotYet, Failed}
use Rattle.daemon_edge.specs.Ports.{Adds, got}
use Rattle.circuit_serve.proofs.Told.{lent}
use Rattle.circuit_serve.proofs.working.receive.Goals as goal

pub returns-in-Got-clause-given : goal.returns-in-Got-clause-given
returns-in-Got-clause-given g c =
    let p = c.args.port.now in let q = c.take.new.self in let b : List ℕ = c.take.new.buffer in
    let same : length b ≡ length c.extend.new.self = search rules in
    let is : c.truncate.new.self ≡ take c.in-Got.count b = c.truncate.ensures ∙ ap (take c.in-Got.count) (lent b c.extend.new.self same) in
    subst (λ (d : List ℕ). Adds (g.P.Port.given p) (g.P.Port.given q) (d ∷ [])) (sym is) c.in-Got.ensures.given

pub returns-in-NotYet : goal.returns-in-NotYet
returns-in-NotYet g c =
    let p = c.args.port.now in let q = c.take.new.self in let t = c.take.ensures in
    let given = λ (z : Taken) (same : c.take.result ≡ z). subst (λ z. Adds (g.P.Port.given p) (g.P.Port.given q) (got z c.take.new.buffer)) same t.given in
    record {
      opening = t.opening;
      given = ⊎_elim (λ h. given NotYet h) (λ h. given Failed h) c.in-NotYet.is;
      offered = t.offered;
      asked = t.asked;
      later = t.later;
    }
