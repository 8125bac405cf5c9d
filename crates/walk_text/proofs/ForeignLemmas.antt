-- The least system that isn't known, as systems come one after another.
use Rattle.std.proofs.Common.{ℕ, ◌<◌, ◌≤◌, List, [], ◌∷◌, ◌++◌, Option, Some, None, ap, subst, arith}
use Rattle.std.specs.List.{Contains}
use Rattle.isis_base.specs.declared.identifiers.SystemId.{SystemId}
use Rattle.spf_tree.specs.Nodes.{system_node}
use Rattle.walk_text.specs.Foreign.{IsLeastForeign}
use Rattle.walk_text.proofs.ListLemmas.{contains-last, contains-before, of-snoc}

-- a system that is known
pub foreign-known : (known : List ℕ) (before : List SystemId) (system : SystemId) (o : Option SystemId) → Contains known (system_node system) → IsLeastForeign known before o → IsLeastForeign known (before ++ (system ∷ [])) o
foreign-known known before system None there h = λ s k. of-snoc before system s k (Contains known (system_node s)) (h s) (λ e. subst (λ (t : SystemId). Contains known (system_node t)) e there)
foreign-known known before system (Some least) there h = (
  (contains-before before system least h.0.0, h.0.1),
  (λ s k. of-snoc before system s k.0 (system_node least ≤ system_node s) (λ b. h.1 s (b, k.1)) (λ e. absurd (k.1 (subst (λ (t : SystemId). Contains known (system_node t)) e there)))),
)

-- one that isn't less than the least so far
pub foreign-greater : (known : List ℕ) (before : List SystemId) (system least : SystemId) → system_node least ≤ system_node system → IsLeastForeign known before (Some least) → IsLeastForeign known (before ++ (system ∷ [])) (Some least)
foreign-greater known before system least less h = (
  (contains-before before system least h.0.0, h.0.1),
  (λ s k. of-snoc before system s k.0 (system_node least ≤ system_node s) (λ b. h.1 s (b, k.1)) (λ e. subst (λ (t : SystemId). system_node least ≤ system_node t) e less)),
)

-- one that is
pub foreign-less : (known : List ℕ) (before : List SystemId) (system least : SystemId) → (Contains known (system_node system) → ⊥) → system_node system < system_node least → IsLeastForeign known before (Some least) → IsLeastForeign known (before ++ (system ∷ [])) (Some system)
foreign-less known before system least none less h = (
  (contains-last before system, none),
  (λ s k. of-snoc before system s k.0 (system_node system ≤ system_node s) (λ b. (let up = h.1 s (b, k.1) in omega (arith, less, up))) (λ e. (let same = ap system_node e in omega (arith, same)))),
)
