-- Prefixes that are leaked beside one's own, and the LSP IDs of a pseudonode.
use Rattle.std.proofs.Common.{◌≡◌, ℕ, ◌+◌, ◌*◌, ◌/◌, ◌≤◌, ◌==◌, Bool, true, false, List, [], ◌∷◌, length, Option, Some, None, is_some, if◌then◌else◌, refl, sym, ◌∙◌, subst, arith}
use Rattle.std.proofs.lemmas.Bool.Decides.{nat_tests}
use Rattle.std.specs.List.{AllByRecursion}
use Rattle.std.specs.Option.{option_map}
use Rattle.isis_base.specs.declared.level.Level.{Level}
use Rattle.model_router.specs.Maps.{find, put}
use Rattle.model_router.specs.Both.{at}
use Rattle.model_router.specs.Routers.{Circuit, Contents, Router}
use Rattle.model_router.specs.Elections.{designated, is_own, oneself}
use Rattle.model_router.specs.LspNeighbours.{lan_nodes, node_items}
use Rattle.model_router.specs.LspPrefixes.{Reach, with_leaks}
use Rattle.model_router.specs.Wanted.{numbered, pseudonode_lsp, room_of}
use Rattle.model_router.proofs.MapLemmas.{find-put}
use Rattle.model_router.proofs.BookLemmas.{choose, test, same-or}
use Rattle.model_router.proofs.SplitLemmas.{split-few}

abbrev with_leak : Bool → List (ℕ × Reach) → ℕ × ℕ → List (ℕ × Reach)
with_leak down prefixes p = if is_some (find prefixes p.0) then prefixes else put prefixes p.0 (record { metric = p.1; down = down })

-- one leak leaves what is there
leak-own : (down : Bool) (prefixes : List (ℕ × Reach)) (p : ℕ × ℕ) (q : ℕ) (x : Reach) → find prefixes q ≡ Some x → find (with_leak down prefixes p) q ≡ Some x
leak-own down prefixes p q x e = test (λ (t : Bool). is_some (find prefixes p.0) ≡ t → find (if t then prefixes else put prefixes p.0 (record { metric = p.1; down = down })) q ≡ Some x) (is_some (find prefixes p.0))
    (λ _ _. e)
    (λ _ free. find-put prefixes p.0 _ q ∙ same-or (λ (t : Bool). ◌≡◌ {A = Option Reach} (if t then Some (record { metric = p.1; down = down }) else find prefixes q) (Some x)) p.0 q
    (λ same. absurd (let some : is_some (find prefixes p.0) ≡ true = subst (λ (n : ℕ). is_some (find prefixes n) ≡ true) (sym same) (rw e refl) in cc)) (λ _. e)) refl

pub leaks-own : (down : Bool) (leaks : List (ℕ × ℕ)) (prefixes : List (ℕ × Reach)) (q : ℕ) (x : Reach) → find prefixes q ≡ Some x → find (with_leaks down prefixes leaks) q ≡ Some x
leaks-own down [] prefixes q x e = e
leaks-own down (p ∷ leaks) prefixes q x e = leaks-own down leaks (with_leak down prefixes p) q x (leak-own down prefixes p q x e)

-- a leak of another prefix leaves what isn't there
leak-other : (down : Bool) (prefixes : List (ℕ × Reach)) (p : ℕ × ℕ) (q : ℕ) → (p.0 == q) ≡ false → find prefixes q ≡ None → find (with_leak down prefixes p) q ≡ None
leak-other down prefixes p q other e = choose (λ (m : List (ℕ × Reach)). find m q ≡ None) (is_some (find prefixes p.0)) prefixes (put prefixes p.0 (record { metric = p.1; down = down }))
    (λ _. e) (λ _. find-put prefixes p.0 _ q ∙ rw other e)

-- a leak of a prefix that isn't there adds it
leak-new : (down : Bool) (prefixes : List (ℕ × Reach)) (p : ℕ × ℕ) (q : ℕ) → (p.0 == q) ≡ true → find prefixes q ≡ None → find (with_leak down prefixes p) q ≡ Some (record { metric = p.1; down = down })
leak-new down prefixes p q same e =
    let k : p.0 ≡ q = grind (arith, nat_tests, same) in
    let none : find prefixes p.0 ≡ None = subst (λ (n : ℕ). find prefixes n ≡ None) (sym k) e in
    rw none (find-put prefixes p.0 _ q ∙ rw same refl)

pub leaks-new : (down : Bool) (leaks : List (ℕ × ℕ)) (prefixes : List (ℕ × Reach)) (q : ℕ) → find prefixes q ≡ None → find (with_leaks down prefixes leaks) q ≡ option_map (λ (metric : ℕ). record { metric = metric; down = down }) (find leaks q)
leaks-new down [] prefixes q e = e
leaks-new down (p ∷ leaks) prefixes q e = test (λ (t : Bool). (p.0 == q) ≡ t → find (with_leaks down (with_leak down prefixes p) leaks) q ≡ option_map (λ (metric : ℕ). record { metric = metric; down = down }) (if t then Some p.1 else find leaks q)) (p.0 == q)
    (λ _ same. leaks-own down leaks (with_leak down prefixes p) q _ (leak-new down prefixes p q same e))
    (λ _ other. leaks-new down leaks (with_leak down prefixes p) q (leak-other down prefixes p q other e)) refl

-- ---- a pseudonode

numbered-node : (flags id node : ℕ) (fragments : List (List ℕ)) → 256 * node ≤ id → id + length fragments ≤ 256 * node + 256 → AllByRecursion (λ (w : ℕ × Contents). w.0 / 256 ≡ node) (numbered flags id fragments)
numbered-node flags id node [] low high = tt
numbered-node flags id node (tlvs ∷ fragments) low high = (omega (arith, low, high), numbered-node flags (id + 1) node fragments (omega (arith, low)) (omega (arith, high)))

pub pseudonode-node : (r : Router) (place : ℕ) (c : Circuit) (l : Level) → AllByRecursion (λ (w : ℕ × Contents). w.0 / 256 ≡ (oneself r.config place c).lan) (pseudonode_lsp r place c l)
unfolding pseudonode_lsp
pseudonode-node r place c l = choose (λ (ws : List (ℕ × Contents)). AllByRecursion (λ (w : ℕ × Contents). w.0 / 256 ≡ 256 * r.config.system + (place + 1)) ws) (is_own r.config (designated r.config place c l)) _ []
    (λ _. let few = split-few [] (node_items (lan_nodes (at c.levels l).heard ((256 * r.config.system, 0) ∷ []))) (room_of r.config l) in
    numbered-node _ _ (256 * r.config.system + (place + 1)) _ (omega arith) (omega (arith, few)))
    (λ _. tt)
