use Rattle.std.proofs.Common.{◌≡◌, ℕ, false, [], ◌∷◌, List, Option, sym, subst}
use Rattle.turn_lock.specs.Passes.{own, seen}
use Rattle.circuit_threads.specs.declared.entry.SubmitFault.TheVariants as fault
use Rattle.daemon_edge.specs.Ports.{Adds}
use Rattle.circuit_serve.specs.Labels.{Only}
use Rattle.circuit_serve.specs.Walks.{came, listed, Runs, TookIn}
use Rattle.circuit_serve.proofs.Running.{comes, stops_here}
use Rattle.circuit_serve.proofs.working.take_in.Goals as goal

pub returns-in-Err-clause-ran : goal.returns-in-Err-clause-ran
returns-in-Err-clause-ran g c = λ es n only was.
    let k = c.args.circuit in let o = c.args.port.now in let p = c.receive.new.port in let given = g.P.Port.given in let offered = g.P.Port.offered in
    let adds : Adds (given o) (given p) [] = subst (λ r. Adds (given o) (given p) (came r)) c.in-Err.is c.receive.ensures.given in
    (es, only, stops_here k es (given p) (offered p) n false fault.OutOfMemory (comes k es (given o) (offered o) (given p) (offered p) n false [] [] was adds c.receive.ensures.offered))

pub returns-clause-ran : goal.returns-clause-ran
returns-clause-ran g c = λ es n only was.
    let k = c.args.circuit in let o = c.args.port.now in let p = c.receive.new.port in let q = c.take.new.port in let given = g.P.Port.given in let offered = g.P.Port.offered in
    let d : List ℕ = c.in-Ok-Some.datagram in let x = c.open-opened.result in let r = c.take.result.0 in
    let came_so = subst (λ r. Adds (given o) (given p) (came r)) c.in-Ok-Some.is c.receive.ensures.given in
    let adds : Adds (given o) (given p) (d ∷ []) = subst (λ (z : Option (List ℕ)). Adds (given o) (given p) (listed z)) c.in-Ok-Some.field-0-is came_so in
    let come : Runs k es (given p) (offered p) n false (d ∷ []) = comes k es (given o) (offered o) (given p) (offered p) n false [] (d ∷ []) was adds c.receive.ensures.offered in
    let on : x.circuit ≡ k = c.open-opened.ensures.circuit in
    let here : Runs x.circuit es (given p) (offered p) n false (x.octets ∷ []) =
    subst (λ z. Runs z es (given p) (offered p) n false (x.octets ∷ [])) (sym on) (subst (λ (z : List ℕ). Runs k es (given p) (offered p) n false (z ∷ [])) (sym c.open-opened.ensures.octets) come) in
    let h = c.take.ensures.ran es n (subst (λ z. Only z (own c.args.pass) (seen c.args.pass) es) (sym on) only) here in
    (h.0, subst (λ z. Only z (own r) (seen r) h.0) on h.1, subst (λ z. TookIn z h.0 (given q) (offered q) n c.take.result.1) on h.2)
