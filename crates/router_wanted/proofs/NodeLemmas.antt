-- Neighbours in order of nodes.
use Rattle.std.proofs.Common.{◌≡◌, ℕ, zero, suc, ◌+◌, ◌*◌, ◌<◌, ◌≤◌, true, false, Bool, nat_lt, List, [], ◌∷◌, length, map, drop, get_or, drop-cons, if◌then◌else◌, refl, sym, ap, ◌∙◌, arith}
use Rattle.std.specs.List.{insert, AllByRecursion}
use Rattle.isis_base.specs.Identifiers.{IsId}
use Rattle.std.specs.List.Sorted.{IsNonDecreasingBy}
use Rattle.std.proofs.lemmas.Bool.Decides.{nat_tests}
use Rattle.isis_base.specs.declared.level.Level.{Level}
use Rattle.isis_tlv.specs.declared.neighbour.NeighbourItem.{NeighbourItem}
use Rattle.model_router.specs.Adjacencies as model
use Rattle.model_router.specs.Both.{at}
use Rattle.model_router.specs.Configs.{Config}
use Rattle.model_router.specs.LspNeighbours as nodes
use Rattle.model_router.specs.Routers.{Circuit, LanNeighbour}
use Rattle.adjacency.specs.Lans.{ups}
use Rattle.adjacency.specs.Views.{neighbour_of}
use Rattle.adjacency.specs.declared.neighbour.Neighbour as code
use Rattle.lsp_fragments.specs.Entries.{node_and_metric}
use Rattle.router_wanted.specs.Parts.{IsBehind, NotFalling, put_ups}
use Rattle.router_wanted.specs.Views.{AreGood}

abbrev pub key : NeighbourItem → ℕ
key item = (node_and_metric item).0

least-at : (xs : List NeighbourItem) (least i : ℕ) (d : NeighbourItem) → NotFalling least (map node_and_metric xs) → i < length xs → least ≤ key (get_or xs i d)
least-at [] least i d r lt = absurd (omega arith)
least-at (x ∷ xs) least zero d r lt = r.0
least-at (x ∷ xs) least (suc i) d r lt = let h = least-at xs (key x) i d r.1 (omega arith) in let k = r.0 in omega (arith, h, k)

pub order-tests : (xs : List NeighbourItem) (least : ℕ) → NotFalling least (map node_and_metric xs) → IsNonDecreasingBy key xs
order-tests [] least r i j d le lt = absurd (omega arith)
order-tests (x ∷ xs) least r zero zero d le lt = omega arith
order-tests (x ∷ xs) least r (suc i) zero d le lt = absurd (omega arith)
order-tests (x ∷ xs) least r zero (suc j) d le lt = least-at xs (key x) j d r.1 (omega arith)
order-tests (x ∷ xs) least r (suc i) (suc j) d le lt = order-tests xs (key x) r.1 i j d (omega arith) (omega arith)

pub put-insert : (xs : List NeighbourItem) (item : NeighbourItem) (i : ℕ) → IsBehind xs item i → map node_and_metric (insert xs i item) ≡ nodes.put_node (map node_and_metric xs) (node_and_metric item)
put-insert [] item zero at = refl
put-insert [] item (suc i) at = absurd (let h = at.inside in omega (arith, h))
put-insert (x ∷ xs) item zero at = let h = at.behind 0 x (omega arith) (omega arith) in grind (arith, nat_tests, h)
put-insert (x ∷ xs) item (suc i) at =
    let h = at.before 0 x (omega arith) in
    let rest : IsBehind xs item i = record {
      inside = (let k = at.inside in omega (arith, k));
      before = λ k d lt. at.before (suc k) d (omega (arith, lt));
      behind = λ k d le lt. at.behind (suc k) d (omega (arith, le)) (omega (arith, lt));
    } in
    grind (arith, nat_tests, h, put-insert xs item i rest)

pub put-order : (ns : List (ℕ × ℕ)) (least : ℕ) (n : ℕ × ℕ) → NotFalling least ns → least ≤ n.0 → NotFalling least (nodes.put_node ns n)
put-order [] least n r le = (le, tt)
put-order (x ∷ ns) least n r le = by (nat_lt n.0 x.0) refl (λ h. put-order ns x.0 n r.1 h) where
  by : (t : Bool) → nat_lt n.0 x.0 ≡ t → (x.0 ≤ n.0 → NotFalling x.0 (nodes.put_node ns n)) → NotFalling least (if t then n ∷ x ∷ ns else x ∷ nodes.put_node ns n)
  by true e rest = (le, (grind (arith, nat_tests, e), r.1))
  by false e rest = (r.0, rest (grind (arith, nat_tests, e)))

-- ---- LANs

pub lan-ups : (heard : List (ℕ × LanNeighbour)) (ns : List (ℕ × ℕ)) → nodes.lan_nodes heard ns ≡ put_ups ns (ups heard)
unfolding put_ups
lan-ups [] ns = refl
lan-ups (p ∷ heard) ns = by p.1.up (lan-ups heard (nodes.put_node ns (256 * p.1.neighbour.system, 0))) (lan-ups heard ns) where
  by : (t : Bool) → nodes.lan_nodes heard (nodes.put_node ns (256 * p.1.neighbour.system, 0)) ≡ put_ups (nodes.put_node ns (256 * p.1.neighbour.system, 0)) (ups heard)
      → nodes.lan_nodes heard ns ≡ put_ups ns (ups heard)
      → nodes.lan_nodes heard (if t then nodes.put_node ns (256 * p.1.neighbour.system, 0) else ns) ≡ put_ups ns (if t then p.1.neighbour ∷ ups heard else ups heard)
  by true one other = one
  by false one other = other

put_ups-cons : (ns : List (ℕ × ℕ)) (n : model.Neighbour) (up : List model.Neighbour) → put_ups ns (n ∷ up) ≡ put_ups (nodes.put_node ns (256 * n.system, 0)) up
unfolding put_ups
put_ups-cons ns n up = refl

-- a neighbour more
pub ups-step : (ns next : List (ℕ × ℕ)) (up : List code.Neighbour) (i : ℕ) (d : code.Neighbour) → i < length up
    → next ≡ nodes.put_node ns (256 * (neighbour_of (get_or up i d)).system, 0)
    → put_ups next (map neighbour_of (drop (i + 1) up)) ≡ put_ups ns (map neighbour_of (drop i up))
ups-step ns next up i d lt put =
    let s : i + 1 ≡ suc i = omega arith in
    let cons : drop i up ≡ get_or up i d ∷ drop (i + 1) up = rw s (drop-cons up i d lt) in
    rw (cons, put) (sym (put_ups-cons ns (neighbour_of (get_or up i d)) (map neighbour_of (drop (i + 1) up))))

-- a circuit more
pub all-step : (config : Config) (l : Level) (place : ℕ) (circuits : List Circuit) (c : Circuit) (ns next : List (ℕ × ℕ)) → place < length circuits
    → c ≡ get_or circuits place c → next ≡ nodes.put_nodes ns (nodes.nodes_of config place c l)
    → nodes.all_nodes config l (place + 1) (drop (place + 1) circuits) next ≡ nodes.all_nodes config l place (drop place circuits) ns
all-step config l place circuits c ns next lt is put =
    let s : place + 1 ≡ suc place = omega arith in
    let cons : drop place circuits ≡ c ∷ drop (place + 1) circuits = rw s (drop-cons circuits place c lt ∙ ap (λ (x : Circuit). x ∷ drop (suc place) circuits) (sym is)) in
    rw (cons, put) refl

-- neighbours have node IDs of seven octets
pub good-ids : (list : List NeighbourItem) → AreGood list → AllByRecursion (λ item. IsId (record { node = item.node; number = 0 })) list
good-ids [] good = tt
good-ids (item ∷ list) good = (good.0.id, good-ids list good.1)
