use Rattle.std.proofs.Common.{◌≡◌, ◌+◌, ◌∙◌, subst, arith}
use Rattle.circuit_serve.specs.Walks.{TookIn}
use Rattle.circuit_serve.proofs.Running.{ran}
use Rattle.circuit_serve.proofs.working.turn.Goals as goal

pub returns-in-Some-clause-ran : goal.returns-in-Some-clause-ran
returns-in-Some-clause-ran g c = λ es n only was few.
    let h = c.take_in-pass.ensures.ran es n only was.0 in let q = c.take_in-pass.new.port in
    (h.0, h.1, subst (TookIn c.args.circuit h.0 (g.P.Port.given q) (g.P.Port.offered q) n) c.in-Some.is h.2)

pub returns-clause-ran : goal.returns-clause-ran
returns-clause-ran g c = λ es n only was few.
    let h = c.take_in-pass.ensures.ran es n only was.0 in let q = c.take_in-pass.new.port in let k = c.args.circuit in let z = c.pull.new.port in
    let t = subst (TookIn k h.0 (g.P.Port.given q) (g.P.Port.offered q) n) c.in_default.is h.2 in
    let j = c.pull.ensures.ran h.0 n t.0 h.1 t.1 in
    let asked : g.P.Port.asked z ≡ n + 1 = c.pull.ensures.asked ∙ omega (arith, c.take_in-pass.ensures.asked, was.1, few) in
    (j.0, j.1, ran k j.0 (g.P.Port.given z) (g.P.Port.offered z) (g.P.Port.asked z) (n + 1) c.pull.result.1 asked j.2)
