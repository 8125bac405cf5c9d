use Rattle.std.proofs.Common.{◌<◌, List, ℕ, length, sym, subst, ap, arith}
use Rattle.lab_keys.specs.KeysNet.{ordered}
use Rattle.lab_script.specs.KeysJudged.{KeysScript}
use Rattle.lab_script.specs.KeysSound.{IsSound}
use Rattle.lab_script.proofs.SoundLemmas.{IsSound-link, ordered-below, ordered-twice}
use Rattle.lab_script.proofs.keys_script.KeysScript.hear_link.Goals as goal

pub invariant_of-self-2 : goal.invariant_of-self-2
invariant_of-self-2 c =
    let inside = c.self.inside in
    let routers = ap (λ (s : KeysScript). length s.routers) c.self.view_is in
    let there = c.in-Some.ensures.there in
    let ends = ordered-below (length inside.routers) c.in-Some.a c.in-Some.b (omega (arith, routers, there.0)) (omega (arith, routers, there.1)) in
    let few : length inside.links < 4096 = omega (arith, c.count.ensures, c.if-count-ge-LINK_LIMIT.false) in
    subst (λ (links : List (ℕ × ℕ)). IsSound (record { routers = inside.routers; links = links; events = inside.events.items })) (sym c.in_ok-add.ensures.ok)
    (IsSound-link inside.routers inside.links inside.events.items (ordered c.in-Some.a c.in-Some.b) c.self.invariant few ends (ordered-twice c.in-Some.a c.in-Some.b))
