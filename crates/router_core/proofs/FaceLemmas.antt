-- What own LSPs look at of circuits is their faces.
use Rattle.std.proofs.Common.{◌≡◌, ℕ, ◌+◌, ◌*◌, ◌≤◌, Bool, false, ◌&&◌, ◌||◌, List, [], ◌∷◌, ◌++◌, Option, Some, None, if◌then◌else◌, option_map, refl, sym, ap, ◌∙◌}
use Rattle.std.specs.List.{AllByRecursion}
use Rattle.isis_base.specs.declared.level.Level.{Level}
use Rattle.isis_base.specs.declared.level.Level.TheVariants as level
use Rattle.model_router.specs.Both.{at}
use Rattle.model_router.specs.Adjacencies.{Neighbour, point_open, is_up, keeps_level}
use Rattle.model_router.specs.Configs.{Config}
use Rattle.model_router.specs.Routers.{Circuit, Contents, LanNeighbour, Router, is_open, some_up}
use Rattle.model_router.specs.Elections.{Candidate, better, elect, designated, oneself}
use Rattle.model_router.specs.Givens.{Given}
use Rattle.model_router.specs.LspNeighbours.{all_nodes, lan_node, lan_nodes, nodes_of, point_node, put_node, put_nodes}
use Rattle.model_router.specs.Wanted.{addresses_of, with_address, pseudonode_lsp, pseudonode_lsps, system_lsp, wanted}
use Rattle.router_core.specs.Machines.{IsFit}
use Rattle.router_core.specs.Settled.{heard_face, neighbour_face, face, faces}

-- ---- a LAN

up-face : (heard : List (ℕ × LanNeighbour)) → some_up (heard_face heard) ≡ some_up heard
up-face [] = refl
up-face (p ∷ heard) = ap (λ (b : Bool). p.1.up || b) (up-face heard)

elect-face : (heard : List (ℕ × LanNeighbour)) (best : Candidate) → elect best (heard_face heard) ≡ elect best heard
elect-face [] best = refl
elect-face (p ∷ heard) best = elect-face heard (better best p.1)

nodes-face : (heard : List (ℕ × LanNeighbour)) (nodes : List (ℕ × ℕ)) → lan_nodes (heard_face heard) nodes ≡ lan_nodes heard nodes
nodes-face [] nodes = refl
nodes-face (p ∷ heard) nodes = nodes-face heard (if p.1.up then put_node nodes (256 * p.1.neighbour.system, 0) else nodes)

heard-at : (c : Circuit) (l : Level) → (at (face c).levels l).heard ≡ heard_face (at c.levels l).heard
heard-at c level.One = refl
heard-at c level.Two = refl

designated-face : (config : Config) (place : ℕ) (c : Circuit) (l : Level) → designated config place (face c) l ≡ designated config place c l
designated-face config place c l =
    ap (λ (h : List (ℕ × LanNeighbour)). if c.lan && some_up h then Some (elect (oneself config place c) h) else None) (heard-at c l)
    ∙ (ap (λ (b : Bool). if c.lan && b then Some (elect (oneself config place c) (heard_face (at c.levels l).heard)) else None) (up-face (at c.levels l).heard)
    ∙ ap (λ (best : Candidate). if c.lan && some_up (at c.levels l).heard then Some best else None) (elect-face (at c.levels l).heard (oneself config place c)))

-- ---- a circuit's nodes

point-nodes : (metric : ℕ) (o : Option Neighbour) → point_node metric (option_map neighbour_face o) ≡ point_node metric o
point-nodes metric None = refl
point-nodes metric (Some n) = refl

point-keeps : (o : Option Neighbour) (l : Level) → keeps_level (option_map neighbour_face o) l ≡ keeps_level o l
point-keeps None l = refl
point-keeps (Some n) l = refl

circuit-face : (config : Config) (place : ℕ) (c : Circuit) (l : Level) → nodes_of config place (face c) l ≡ nodes_of config place c l
circuit-face config place c l =
    ap (λ (o : Option Candidate). if c.lan then lan_node c.metric o else (if point_open (face c).point l then point_node c.metric (face c).point.neighbour else [])) (designated-face config place c l)
    ∙ (ap (λ (b : Bool). if c.lan then lan_node c.metric (designated config place c l) else (if is_up c.point.state && b then point_node c.metric (face c).point.neighbour else [])) (point-keeps c.point.neighbour l)
    ∙ ap (λ (nodes : List (ℕ × ℕ)). if c.lan then lan_node c.metric (designated config place c l) else (if point_open c.point l then nodes else [])) (point-nodes c.metric c.point.neighbour))

-- whether a circuit is open is of its face
pub open-face : (c : Circuit) (l : Level) → is_open (face c) l ≡ is_open c l
open-face c l =
    ap (λ (h : List (ℕ × LanNeighbour)). if c.lan then some_up h else point_open (face c).point l) (heard-at c l)
    ∙ (ap (λ (b : Bool). if c.lan then b else point_open (face c).point l) (up-face (at c.levels l).heard)
    ∙ ap (λ (b : Bool). if c.lan then some_up (at c.levels l).heard else is_up c.point.state && b) (point-keeps c.point.neighbour l))

-- ---- all circuits

all-faces : (config : Config) (l : Level) (place : ℕ) (cs : List Circuit) (nodes : List (ℕ × ℕ)) → all_nodes config l place (faces cs) nodes ≡ all_nodes config l place cs nodes
all-faces config l place [] nodes = refl
all-faces config l place (c ∷ cs) nodes =
    ap (λ (more : List (ℕ × ℕ)). all_nodes config l (place + 1) (faces cs) (put_nodes nodes more)) (circuit-face config place c l)
    ∙ all-faces config l (place + 1) cs (put_nodes nodes (nodes_of config place c l))

addresses-face : (cs : List Circuit) → addresses_of (faces cs) ≡ addresses_of cs
addresses-face [] = refl
addresses-face (c ∷ cs) = ap (λ (xs : List ℕ). with_address c.address xs) (addresses-face cs)

nodes-heard : (c : Circuit) (l : Level) (nodes : List (ℕ × ℕ)) → lan_nodes (at (face c).levels l).heard nodes ≡ lan_nodes (at c.levels l).heard nodes
nodes-heard c l nodes = ap (λ (h : List (ℕ × LanNeighbour)). lan_nodes h nodes) (heard-at c l) ∙ nodes-face (at c.levels l).heard nodes

-- a pseudonode's LSP is of the configuration and its circuit's face
pseudonode-face : (r : Router) (place : ℕ) (c : Circuit) (l : Level) → pseudonode_lsp r place (face c) l ≡ pseudonode_lsp r place c l
unfolding pseudonode_lsp
pseudonode-face r place c l =
    let first : List (ℕ × ℕ) = (256 * r.config.system, 0) ∷ [] in
    rw (nodes-heard c l first, designated-face r.config place c l) refl

pseudonodes-face : (r : Router) (l : Level) (place : ℕ) (cs : List Circuit) → pseudonode_lsps r l place (faces cs) ≡ pseudonode_lsps r l place cs
pseudonodes-face r l place [] = refl
pseudonodes-face r l place (c ∷ cs) =
    ap (λ (lsp : List (ℕ × Contents)). lsp ++ pseudonode_lsps r l (place + 1) (faces cs)) (pseudonode-face r place c l)
    ∙ ap (λ (more : List (ℕ × Contents)). pseudonode_lsp r place c l ++ more) (pseudonodes-face r l (place + 1) cs)

pseudonode-config : (r t : Router) (place : ℕ) (c : Circuit) (l : Level) → t.config ≡ r.config → pseudonode_lsp t place c l ≡ pseudonode_lsp r place c l
unfolding pseudonode_lsp
pseudonode-config r t place c l e = rw e refl

pseudonodes-config : (r t : Router) (l : Level) (place : ℕ) (cs : List Circuit) → t.config ≡ r.config → pseudonode_lsps t l place cs ≡ pseudonode_lsps r l place cs
pseudonodes-config r t l place [] e = refl
pseudonodes-config r t l place (c ∷ cs) e =
    ap (λ (lsp : List (ℕ × Contents)). lsp ++ pseudonode_lsps t l (place + 1) cs) (pseudonode-config r t place c l e)
    ∙ ap (λ (more : List (ℕ × Contents)). pseudonode_lsp r place c l ++ more) (pseudonodes-config r t l (place + 1) cs e)

-- ---- what is wanted

nodes-same : (config : Config) (l : Level) (cs ds : List Circuit) → faces cs ≡ faces ds → all_nodes config l 0 cs [] ≡ all_nodes config l 0 ds []
nodes-same config l cs ds e = sym (all-faces config l 0 cs []) ∙ (ap (λ (xs : List Circuit). all_nodes config l 0 xs []) e ∙ all-faces config l 0 ds [])

addresses-same : (cs ds : List Circuit) → faces cs ≡ faces ds → addresses_of cs ≡ addresses_of ds
addresses-same cs ds e = sym (addresses-face cs) ∙ (ap addresses_of e ∙ addresses-face ds)

pseudonodes-same : (r t : Router) (l : Level) → t.config ≡ r.config → faces t.circuits ≡ faces r.circuits → pseudonode_lsps t l 0 t.circuits ≡ pseudonode_lsps r l 0 r.circuits
pseudonodes-same r t l e f =
    pseudonodes-config r t l 0 t.circuits e
    ∙ (sym (pseudonodes-face r l 0 t.circuits) ∙ (ap (λ (xs : List Circuit). pseudonode_lsps r l 0 xs) f ∙ pseudonodes-face r l 0 r.circuits))

system-same : (given : Given) (before r t : Router) (l : Level) → t.config ≡ r.config → faces t.circuits ≡ faces r.circuits → system_lsp given before t l ≡ system_lsp given before r l
unfolding system_lsp
system-same given before r t level.One e f = rw (e, nodes-same r.config level.One t.circuits r.circuits f, addresses-same t.circuits r.circuits f) refl
system-same given before r t level.Two e f = rw (e, nodes-same r.config level.Two t.circuits r.circuits f, addresses-same t.circuits r.circuits f) refl

-- what is wanted is of the configuration, the circuits' faces and what is given
pub wanted-faces : (given : Given) (before r t : Router) (l : Level) → t.config ≡ r.config → faces t.circuits ≡ faces r.circuits → wanted given before t l ≡ wanted given before r l
unfolding wanted
wanted-faces given before r t l e f =
    rw (system-same given before r t l e f, pseudonodes-same r t l e f) (ap (λ (config : Config). if at config.runs l then system_lsp given before r l ++ pseudonode_lsps r l 0 r.circuits else []) e)

-- ---- what a level that isn't run wants, and the metrics of circuits

pub none-wanted : (given : Given) (before r : Router) (l : Level) → at r.config.runs l ≡ false → wanted given before r l ≡ []
unfolding wanted
none-wanted given before r l e = rw e refl

pub fit-metrics : (cs : List Circuit) → AllByRecursion IsFit cs → AllByRecursion (λ (c : Circuit). c.metric ≤ 16777215) cs
fit-metrics [] all = tt
fit-metrics (c ∷ cs) all = (all.0.metric, fit-metrics cs all.1)
