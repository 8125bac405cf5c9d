use Rattle.std.proofs.Common.{◌∙◌, ◌≡◌, ℕ, Some, refl, sym, ap, subst, arith}
use Rattle.std.specs.Prelude.{Option, IsSome}
use Rattle.lab_script.specs.LabScripts.{LabScript, place_at, circuit_count}
use Rattle.lab_script.proofs.LabLemmas.{place_at-counted}
use Rattle.lab_script.proofs.lab_script.LabScript.circuit_at.Goals as goal

pub returns-in-Some-place-clause-there : goal.returns-in-Some-place-clause-there
returns-in-Some-place-clause-there c =
    let inside = c.self.inside in
    let script : LabScript = record { routers = inside.routers; links = inside.links; keys = inside.keys.items; lines = inside.lines.items } in
    let i = c.in-Some.link in
    let r = c.in_ok-router.router in
    let at : place_at inside.links i r ≡ Some c.in-Some-place.place = sym c.place.ensures ∙ c.in-Some-place.is in
    let below = place_at-counted script i r c.in-Some-place.place c.self.invariant at in
    let there = c.in_ok-router.ensures.there in
    let end = subst (λ (o : Option ℕ). IsSome o) (sym (sym (ap (λ (s : LabScript). place_at s.links i r) c.self.view_is) ∙ at)) refl in
    ((there, end), (there, omega (arith, below, ap (λ (s : LabScript). circuit_count s.links r) c.self.view_is)))
