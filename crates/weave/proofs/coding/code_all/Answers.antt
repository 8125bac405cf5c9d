use Rattle.std.proofs.Common.{◌≡◌, ℕ, ◌+◌, ◌∷◌, [], ◌++◌, List, Vec, Global, map, take, length, sym, subst, arith}
use Rattle.weave_core.specs.declared.moves.Move.{Move as CoreMove}
use Rattle.weave_replay.specs.Replays.{journals_of}
use Rattle.weave_replay.proofs.PlaceLemmas.{nth-get, nth-map, take-more}
use Rattle.weave.specs.Coded.{AreAllCoded, AreCoded}
use Rattle.weave.proofs.ItemLemmas.{all-coded-more, length-part}
use Rattle.weave.proofs.coding.code_all.Goals as goal

pub loop-router-preserved : goal.loop-router-preserved
loop-router-preserved c =
    let wires = c.args.book.now in
    let router = c.loop-router.router in
    let rows : List (List ℕ) = map (λ (row : Vec ℕ Global). row.items) c.args.ports.now in
    let x = c.index-ports-router.result in
    let at = nth-map (λ (row : Vec ℕ Global). row.items) c.args.ports.now router x (nth-get c.args.ports.now router x (omega (arith, c.loop-router-test.true)) c.index-ports-router.is) in
    let track : AreCoded wires x.items router (journals_of router c.args.journals.now) c.in-Ok.track =
    subst (λ (ports : List ℕ). AreCoded wires ports router (journals_of router c.args.journals.now) c.in-Ok.track) c.as_slice.ensures.value c.in-Ok.ensures in
    let size : router ≡ length (take router rows) = sym (length-part router rows x.items at) in
    subst (λ (ts : List (List CoreMove)). AreAllCoded wires (take (router + 1) rows) c.args.journals.now ts) (sym c.in_ok-push-in-Ok.ensures.items)
    (subst (λ (rs : List (List ℕ)). AreAllCoded wires rs c.args.journals.now (c.loop-router.tracks.items ++ c.in-Ok.track ∷ [])) (sym (take-more rows router x.items at))
    (all-coded-more wires (take router rows) x.items c.args.journals.now c.loop-router.tracks.items c.in-Ok.track c.loop-router.invariant
    (subst (λ (n : ℕ). AreCoded wires x.items n (journals_of n c.args.journals.now) c.in-Ok.track) size track)))
