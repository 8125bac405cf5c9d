-- What is wanted has LSP IDs of one's own: a split has at most 256 fragments, and circuits are below 256.
use Rattle.std.proofs.Common.{◌≡◌, ℕ, ◌+◌, ◌*◌, ◌/◌, ◌≤◌, List, [], ◌∷◌, ◌++◌, length, arith}
use Rattle.std.specs.List.{AllByRecursion}
use Rattle.isis_base.specs.declared.level.Level.{Level}
use Rattle.model_router.specs.Both.{at}
use Rattle.model_router.specs.Routers.{Circuit, Contents, Router}
use Rattle.model_router.specs.Elections.{designated, is_own}
use Rattle.model_router.specs.Givens.{Given}
use Rattle.model_router.specs.LspNeighbours.{all_nodes, lan_nodes, node_items}
use Rattle.model_router.specs.LspPrefixes.{prefixes_of, reach_items}
use Rattle.model_router.specs.Wanted.{first_tlvs, room_of, numbered, fragments_of, system_lsp, pseudonode_lsp, pseudonode_lsps, wanted}
use Rattle.model_router.proofs.BookLemmas.{choose}
use Rattle.model_router.proofs.ListLemmas.{all-append}
use Rattle.model_router.proofs.SplitLemmas.{split-few}

numbered-own : (flags id system : ℕ) (fragments : List (List ℕ)) → 65536 * system ≤ id → id + length fragments ≤ 65536 * system + 65536 → AllByRecursion (λ (w : ℕ × Contents). w.0 / 65536 ≡ system) (numbered flags id fragments)
numbered-own flags id system [] low high = tt
numbered-own flags id system (tlvs ∷ fragments) low high =
    (omega (arith, low, high), numbered-own flags (id + 1) system fragments (omega (arith, low)) (omega (arith, high)))

fragments-own : (first flags id system : ℕ) (fragments : List (List ℕ)) → 65536 * system ≤ id → id + length fragments ≤ 65536 * system + 65536 → AllByRecursion (λ (w : ℕ × Contents). w.0 / 65536 ≡ system) (fragments_of first flags id fragments)
fragments-own first flags id system [] low high = tt
fragments-own first flags id system (tlvs ∷ fragments) low high =
    (omega (arith, low, high), numbered-own flags (id + 1) system fragments (omega (arith, low)) (omega (arith, high)))

system_lsp-own : (given : Given) (before r : Router) (l : Level) → AllByRecursion (λ (w : ℕ × Contents). w.0 / 65536 ≡ r.config.system) (system_lsp given before r l)
unfolding system_lsp
system_lsp-own given before r l =
    let items = node_items (all_nodes r.config l 0 r.circuits []) ++ reach_items (prefixes_of given before r l) in
    let few = split-few (first_tlvs r) items (room_of r.config l) in
    fragments-own _ _ _ r.config.system _ (omega arith) (omega (arith, few))

pseudonode_lsp-own : (r : Router) (place : ℕ) (c : Circuit) (l : Level) → place + 1 ≤ 255 → AllByRecursion (λ (w : ℕ × Contents). w.0 / 65536 ≡ r.config.system) (pseudonode_lsp r place c l)
unfolding pseudonode_lsp
pseudonode_lsp-own r place c l h =
    choose (λ (ws : List (ℕ × Contents)). AllByRecursion (λ (w : ℕ × Contents). w.0 / 65536 ≡ r.config.system) ws) (is_own r.config (designated r.config place c l)) _ []
    (λ _.
    let items = node_items (lan_nodes (at c.levels l).heard ((256 * r.config.system, 0) ∷ [])) in
    let few = split-few [] items (room_of r.config l) in
    numbered-own _ _ r.config.system _ (omega arith) (omega (arith, few, h))) (λ _. tt)

pseudonode_lsps-own : (r : Router) (l : Level) (place : ℕ) (circuits : List Circuit) → place + length circuits ≤ 255 → AllByRecursion (λ (w : ℕ × Contents). w.0 / 65536 ≡ r.config.system) (pseudonode_lsps r l place circuits)
pseudonode_lsps-own r l place [] h = tt
pseudonode_lsps-own r l place (c ∷ circuits) h =
    all-append (λ (w : ℕ × Contents). w.0 / 65536 ≡ r.config.system) (pseudonode_lsp r place c l) (pseudonode_lsps r l (place + 1) circuits)
    (pseudonode_lsp-own r place c l (omega (arith, h))) (pseudonode_lsps-own r l (place + 1) circuits (omega (arith, h)))

pub wanted-own : (given : Given) (before r : Router) (l : Level) → length r.circuits ≤ 255 → AllByRecursion (λ (w : ℕ × Contents). w.0 / 65536 ≡ r.config.system) (wanted given before r l)
unfolding wanted
wanted-own given before r l h =
    choose (λ (ws : List (ℕ × Contents)). AllByRecursion (λ (w : ℕ × Contents). w.0 / 65536 ≡ r.config.system) ws) (at r.config.runs l) _ []
    (λ _. all-append (λ (w : ℕ × Contents). w.0 / 65536 ≡ r.config.system) (system_lsp given before r l) (pseudonode_lsps r l 0 r.circuits) (system_lsp-own given before r l) (pseudonode_lsps-own r l 0 r.circuits (omega (arith, h))))
    (λ _. tt)
