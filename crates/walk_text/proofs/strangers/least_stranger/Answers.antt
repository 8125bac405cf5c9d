use Rattle.std.proofs.Common.{◌≡◌, ◌+◌, ℕ, List, [], ◌∷◌, ◌++◌, map, take, sym, ap, ◌∙◌, subst, append-nil, arith}
use Rattle.std.specs.List.{flat_map}
use Rattle.std.proofs.lemmas.Grind.{flat_map-append}
use Rattle.std.proofs.lemmas.List.{take_all}
use Rattle.isis_base.specs.declared.identifiers.SystemId.{SystemId}
use Rattle.model_router.specs.Routers.{Router}
use Rattle.network_lab.proofs.ConfigLemmas.{take-nth}
use Rattle.walk_text.specs.Foreign.{node_of, systems_in, systems_told, IsLeastForeign}
use Rattle.lsp_store.specs.Databases.{live_of}
use Rattle.walk_text.proofs.StrangerLemmas.{told-systems, strangers-end}
use Rattle.walk_text.proofs.strangers.least_stranger.Goals as goal

pub loop-place-init : goal.loop-place-init
loop-place-init c = λ system h. absurd (let l = h.1 in omega (arith, l))

pub loop-place-preserved : goal.loop-place-preserved
loop-place-preserved c =
    let routers : List Router = c.args.network.now.seen.routers in
    let n : ℕ = c.loop-place.place in
    let before : List SystemId = flat_map systems_told (take n routers) in
    let r : Router = c.router.result.now in
    let known = c.as_slice.ensures.value in
    let here : List SystemId = systems_in (live_of c.level_one.result.now.entries) in
    let more : before ++ here ≡ flat_map systems_told (take (n + 1) routers) =
    ap (λ (xs : List SystemId). before ++ xs) (sym (told-systems r c.level_one.result.now.entries c.level_one.ensures.told))
    ∙ (ap (λ (xs : List SystemId). before ++ xs) (sym (append-nil (systems_told r))) ∙ (sym (flat_map-append systems_told (take n routers) (r ∷ [])) ∙ ap (flat_map systems_told) (sym (take-nth routers n r c.router.ensures)))) in
    subst (λ (xs : List SystemId). IsLeastForeign c.in_ok-known.known.items xs c.least_foreign-least.result) more
    (subst (λ (ks : List ℕ). IsLeastForeign ks (before ++ here) c.least_foreign-least.result) known
    (c.least_foreign-least.ensures before (subst (λ (ks : List ℕ). IsLeastForeign ks before c.loop-place.least) (sym known) c.loop-place.invariant)))

pub returns : goal.returns
returns c = λ looks are.
    let routers : List Router = c.args.network.now.seen.routers in
    strangers-end routers looks are c.loop-place.least
    (subst (λ (rs : List Router). IsLeastForeign (map node_of routers) (flat_map systems_told rs) c.loop-place.least) (take_all c.loop-place.place routers (omega (arith, c.loop-place-test.false, c.routers-place-end.ensures)))
    (subst (λ (ks : List ℕ). IsLeastForeign ks (flat_map systems_told (take c.loop-place.place routers)) c.loop-place.least) c.in_ok-known.ensures c.loop-place.invariant))
