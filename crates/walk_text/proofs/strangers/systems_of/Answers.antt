use Rattle.std.proofs.Common.{◌≡◌, ℕ, List, [], ◌∷◌, ◌++◌, map, take, sym, ap, ◌∙◌}
use Rattle.std.proofs.lemmas.List.{map-append}
use Rattle.model_router.specs.Routers.{Router}
use Rattle.spf_tree.specs.Nodes.{node_number}
use Rattle.network_lab.proofs.ConfigLemmas.{take-nth}
use Rattle.walk_text.specs.Foreign.{node_of}
use Rattle.walk_text.proofs.strangers.systems_of.Goals as goal

snoc : {xs ys : List ℕ} {x y : ℕ} → xs ≡ ys → x ≡ y → xs ++ (x ∷ []) ≡ ys ++ (y ∷ [])
snoc e f = cc

pub loop-place-preserved : goal.loop-place-preserved
loop-place-preserved c =
    let routers : List Router = c.args.network.now.seen.routers in
    let r : Router = c.router.result.now in
    c.in_ok-push.ensures.items
    ∙ (snoc c.loop-place.invariant (c.system_number.ensures ∙ ap node_number c.system_of.ensures)
    ∙ (sym (map-append node_of (take c.loop-place.place routers) (r ∷ [])) ∙ ap (map node_of) (sym (take-nth routers c.loop-place.place r c.router.ensures))))
