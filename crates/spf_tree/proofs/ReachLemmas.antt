-- What is found on the way over tight rows, by places, and costs of some nodes alone.

use Rattle.std.proofs.Common.{◌≡◌, ◌∙◌, ℕ, ◌<◌, List, [], ◌∷◌, ◌++◌, length, get_or, Option, Some, sym, ap, subst, inl, inr}
use Rattle.std.specs.List.{Contains}
use Rattle.std.proofs.lemmas.List.{get_or-map, map-append}
use Rattle.std.proofs.lemmas.List.Elements.{Contains-get_or, Contains-push_cases}
use Rattle.spf_tree.specs.declared.row.Row.{Row}
use Rattle.spf_tree.specs.declared.label.Label.{Label}
use Rattle.spf_tree.specs.declared.edge.Edge.{Edge}
use Rattle.spf_tree.specs.Walks.{end, IsWalk, IsWithin, cost, AreLeast}
use Rattle.spf_tree.specs.Labels.{names}
use Rattle.spf_tree.specs.Search.{IsSearchKept}
use Rattle.spf_tree.specs.Exploring.{IsTouched}
use Rattle.spf_tree.specs.Places.{node_at, nodes_at, ArePlaces, IsEdge}

-- ---- places that were found

pub nodes_push : (nodes places : List ℕ) (place : ℕ) → nodes_at nodes (places ++ place ∷ []) ≡ nodes_at nodes places ++ node_at nodes place ∷ []
nodes_push nodes places place = map-append (node_at nodes) places (place ∷ [])

pub found_push : (nodes places more : List ℕ) (place : ℕ) → ArePlaces nodes places → place < length nodes → more ≡ places ++ place ∷ [] → ArePlaces nodes more
found_push nodes places more place before here is =
    subst (λ (ps : List ℕ). ArePlaces nodes ps) (sym is)
    (record {
      within = λ p h.
          elim (Contains-push_cases places place p h) [
            | inl old ↦ before.within p old
            | inr new ↦ subst (λ (q : ℕ). q < length nodes) new here
          ];
    })

pub found_within : (nodes places : List ℕ) (i d : ℕ) → ArePlaces nodes places → i < length places → get_or places i d < length nodes
found_within nodes places i d are l = are.within (get_or places i d) (Contains-get_or places i d l)

pub found_node : (nodes places : List ℕ) (i place e : ℕ) → i < length places → place ≡ get_or places i place → get_or (nodes_at nodes places) i e ≡ node_at nodes place
found_node nodes places i place e l is = get_or-map (node_at nodes) places i place e l ∙ ap (node_at nodes) (sym is)

pub edge_touched : (nodes : List ℕ) (rows : List Row) (labels : List Label) (root place m : ℕ) (e : Row) (edge : Edge) (marks : List Label) (old : List ℕ) (later : List Label) (new : List ℕ) → names labels ≡ nodes → IsEdge nodes (get_or rows m e) edge
    → IsTouched labels (node_at (names labels) root) (node_at (names labels) place) (node_at (names labels) edge.place) edge.metric marks (nodes_at (names labels) old) later (nodes_at (names labels) new)
    → IsTouched labels (node_at nodes root) (node_at nodes place) (end (get_or rows m e)) (get_or rows m e).metric marks (nodes_at nodes old) later (nodes_at nodes new)
edge_touched nodes rows labels root place m e edge marks old later new same is touched =
    subst (λ (k : ℕ). IsTouched labels (node_at nodes root) (node_at nodes place) (end (get_or rows m e)) k marks (nodes_at nodes old) later (nodes_at nodes new)) is.metric
    (subst (λ (n : ℕ). IsTouched labels (node_at nodes root) (node_at nodes place) n edge.metric marks (nodes_at nodes old) later (nodes_at nodes new)) is.node
    (subst (λ (ns : List ℕ). IsTouched labels (node_at ns root) (node_at ns place) (node_at ns edge.place) edge.metric marks (nodes_at ns old) later (nodes_at ns new)) same touched))

-- ---- costs of all nodes that a walk may reach are least costs

walked : (rows : List Row) (root : ℕ) (nodes : List ℕ) → Contains nodes root → IsSearchKept rows nodes → (walk : List Row) (node : ℕ) → IsWalk rows root walk node → Contains nodes node
walked rows root nodes first kept [] node is = subst (λ (n : ℕ). Contains nodes n) (sym is) first
walked rows root nodes first kept (row ∷ walk) node is = subst (λ (n : ℕ). Contains nodes n) is.1 (kept.ends row is.0)

pub nodes_least : (rows : List Row) (root : ℕ) (nodes : List ℕ) (f g : ℕ → Option ℕ) → Contains nodes root → IsSearchKept rows nodes → ((n c : ℕ) → g n ≡ Some c → f n ≡ Some c) → ((n : ℕ) → Contains nodes n → g n ≡ f n) → AreLeast rows root f → AreLeast rows root g
nodes_least rows root nodes f g first kept from into least =
    record {
      walk = λ n c e. least.walk n c (from n c e);
      least = λ w n is. subst (λ (o : Option ℕ). IsWithin o (cost w)) (sym (into n (walked rows root nodes first kept w n is))) (least.least w n is);
    }
