-- The LSP IDs that a level wants.
use Rattle.std.proofs.Common.{ℕ, ◌+◌, ◌*◌, ◌<◌, ◌≤◌, Bool, true, false, List, [], ◌∷◌, ◌++◌, length, if◌then◌else◌, arith, zero-le}
use Rattle.isis_base.specs.declared.level.Level.{Level}
use Rattle.model_router.specs.Sorted.{RisesFrom}
use Rattle.model_router.specs.Routers.{Circuit, Contents, Router}
use Rattle.model_router.specs.Both.{at}
use Rattle.model_router.specs.Givens.{Given}
use Rattle.model_router.specs.Elections.{designated, is_own}
use Rattle.model_router.specs.Splits.{split}
use Rattle.model_router.specs.LspNeighbours.{all_nodes, lan_nodes, node_items}
use Rattle.model_router.specs.LspPrefixes.{prefixes_of, reach_items}
use Rattle.model_router.specs.Wanted.{is_type, first_flags, first_tlvs, room_of, numbered, fragments_of, system_lsp, pseudonode_lsp, pseudonode_lsps, wanted}
use Rattle.model_router.proofs.SplitLemmas.{split-few}

-- rising pairs below a number
abbrev Below : ℕ → List (ℕ × Contents) → Type 0
Below n [] = Unit {0}
Below n (pair ∷ pairs) = (pair.0 < n) × Below n pairs

below-more : (pairs : List (ℕ × Contents)) (n more : ℕ) → n ≤ more → Below n pairs → Below more pairs
below-more [] n more le h = tt
below-more (p ∷ pairs) n more le h = (let k = h.0 in omega (arith, k, le), below-more pairs n more le h.1)

rises-less : (pairs : List (ℕ × Contents)) (least less : ℕ) → less ≤ least → RisesFrom least pairs → RisesFrom less pairs
rises-less [] least less le r = tt
rises-less (p ∷ pairs) least less le r = (let h = r.0 in omega (arith, h, le), r.1)

rises-append : (xs ys : List (ℕ × Contents)) (least n : ℕ) → least ≤ n → RisesFrom least xs → Below n xs → RisesFrom n ys → RisesFrom least (xs ++ ys)
rises-append [] ys least n le r below s = rises-less ys n least le s
rises-append (x ∷ xs) ys least n le r below s = (r.0, rises-append xs ys (x.0 + 1) n (let h = below.0 in omega (arith, h)) r.1 below.1 s)

numbered-rises : (flags id : ℕ) (fragments : List (List ℕ)) → RisesFrom id (numbered flags id fragments)
numbered-rises flags id [] = tt
numbered-rises flags id (f ∷ fragments) = (omega arith, numbered-rises flags (id + 1) fragments)

numbered-below : (flags id n : ℕ) (fragments : List (List ℕ)) → id + length fragments ≤ n → Below n (numbered flags id fragments)
numbered-below flags id n [] le = tt
numbered-below flags id n (f ∷ fragments) le = (omega (arith, le), numbered-below flags (id + 1) n fragments (omega (arith, le)))

fragments-rise : (first flags id : ℕ) (fragments : List (List ℕ)) → RisesFrom id (fragments_of first flags id fragments)
fragments-rise first flags id [] = tt
fragments-rise first flags id (f ∷ fragments) = (omega arith, numbered-rises flags (id + 1) fragments)

fragments-below : (first flags id n : ℕ) (fragments : List (List ℕ)) → id + length fragments ≤ n → Below n (fragments_of first flags id fragments)
fragments-below first flags id n [] le = tt
fragments-below first flags id n (f ∷ fragments) le = (omega (arith, le), numbered-below flags (id + 1) n fragments (omega (arith, le)))

-- the LSP ID of a circuit's pseudonode
base : Router → ℕ → ℕ
base r place = 65536 * r.config.system + 256 * (place + 1)

system-rises : (given : Given) (before r : Router) (l : Level) → RisesFrom (65536 * r.config.system) (system_lsp given before r l) × Below (base r 0) (system_lsp given before r l)
unfolding system_lsp base
system-rises given before r l =
    let items = node_items (all_nodes r.config l 0 r.circuits []) ++ reach_items (prefixes_of given before r l) in
    let parts = split (first_tlvs r) items (room_of r.config l) in
    let few = split-few (first_tlvs r) items (room_of r.config l) in (
      fragments-rise (first_flags given before r l parts.whole) (is_type r.config) (65536 * r.config.system) parts.fragments,
      fragments-below (first_flags given before r l parts.whole) (is_type r.config) (65536 * r.config.system) (65536 * r.config.system + 256 * (0 + 1)) parts.fragments (omega (arith, few)),
    )

pseudonode-rises : (r : Router) (place : ℕ) (c : Circuit) (l : Level) → RisesFrom (base r place) (pseudonode_lsp r place c l) × Below (base r (place + 1)) (pseudonode_lsp r place c l)
unfolding pseudonode_lsp base
pseudonode-rises r place c l =
    let items = node_items (lan_nodes (at c.levels l).heard ((256 * r.config.system, 0) ∷ [])) in
    let parts = split [] items (room_of r.config l) in
    let few = split-few [] items (room_of r.config l) in
    let id = 65536 * r.config.system + 256 * (place + 1) in
    let all = numbered (is_type r.config) id parts.fragments in
    cases (is_own r.config (designated r.config place c l)) all
    (numbered-rises (is_type r.config) id parts.fragments) (numbered-below (is_type r.config) id (65536 * r.config.system + 256 * (place + 1 + 1)) parts.fragments (omega (arith, few)))
  where
    cases : (t : Bool) (all : List (ℕ × Contents)) → RisesFrom (65536 * r.config.system + 256 * (place + 1)) all → Below (65536 * r.config.system + 256 * (place + 1 + 1)) all → RisesFrom (65536 * r.config.system + 256 * (place + 1)) (if t then all else []) × Below (65536 * r.config.system + 256 * (place + 1 + 1)) (if t then all else [])
    cases true all r b = (r, b)
    cases false all r b = (tt, tt)

next-base : (r : Router) (place : ℕ) → base r place ≤ base r (place + 1)
unfolding base
next-base r place = omega arith

pseudonodes-rise : (r : Router) (l : Level) (place : ℕ) (circuits : List Circuit) → RisesFrom (base r place) (pseudonode_lsps r l place circuits)
pseudonodes-rise r l place [] = tt
pseudonodes-rise r l place (c ∷ circuits) =
    let first = pseudonode-rises r place c l in
    rises-append (pseudonode_lsp r place c l) (pseudonode_lsps r l (place + 1) circuits) (base r place) (base r (place + 1)) (next-base r place) first.0 first.1 (pseudonodes-rise r l (place + 1) circuits)

first-base : (r : Router) → 65536 * r.config.system ≤ base r 0
unfolding base
first-base r = omega arith

pub wanted-rises : (given : Given) (before r : Router) (l : Level) → RisesFrom 0 (wanted given before r l)
unfolding wanted
wanted-rises given before r l =
    let system = system-rises given before r l in
    cases (at r.config.runs l) (system_lsp given before r l ++ pseudonode_lsps r l 0 r.circuits)
    (rises-less (system_lsp given before r l ++ pseudonode_lsps r l 0 r.circuits) (65536 * r.config.system) 0 zero-le
    (rises-append (system_lsp given before r l) (pseudonode_lsps r l 0 r.circuits) (65536 * r.config.system) (base r 0) (first-base r) system.0 system.1 (pseudonodes-rise r l 0 r.circuits)))
  where
    cases : (t : Bool) (all : List (ℕ × Contents)) → RisesFrom 0 all → RisesFrom 0 (if t then all else [])
    cases true all h = h
    cases false all h = tt
