-- Fragments: what fits, and their numbers.
use Rattle.std.proofs.Common.{◌≡◌, ℕ, zero, suc, ◌+◌, ◌*◌, ◌-◌, ◌<◌, false, ◌==◌, List, [], ◌∷◌, ◌++◌, length, map, take, reverse, if◌then◌else◌, refl, sym, ap, arith}
use Rattle.std.proofs.lemmas.List.{take-map}
use Rattle.std.proofs.lemmas.Bool.Decides.{nat_tests}
use Rattle.isis_base.specs.declared.identifiers.NodeId.{NodeId}
use Rattle.isis_base.specs.Identifiers.{lsp_number}
use Rattle.model_router.specs.Routers.{Contents}
use Rattle.model_router.specs.Wanted.{fragments_of, numbered}
use Rattle.model_router.specs.Numbers.{node_number}
use Rattle.router_wanted.specs.declared.wanted.Wanted.{Wanted}
use Rattle.router_wanted.specs.Parts.{counted}
use Rattle.router_wanted.specs.Views.{wanted_of}

pub take-both : {A B C : Type 0} (f : A → C) (g : B → C) (n : ℕ) (xs : List A) (ys : List B) → map f (take n xs) ++ map g (take (n - length xs) ys) ≡ take n (map f xs ++ map g ys)
take-both f g zero xs ys = let e : 0 - length xs ≡ 0 = omega arith in rw e refl
take-both f g (suc n) [] ys = let e : suc n - 0 ≡ suc n = omega arith in rw e (sym (take-map g (suc n) ys))
take-both {C = C} f g (suc n) (x ∷ xs) ys =
    let e : suc n - suc (length xs) ≡ n - length xs = omega arith in
    rw e (ap (λ (m : List C). f x ∷ m) (take-both f g n xs ys))

ids : (xs : List ℕ) (p n : ℕ) → length xs ≡ 6 → p < 256 → n < 256 → lsp_number (record { node = record { system = record { 0 = xs }; pseudonode = p }; number = n }) ≡ 256 * node_number (record { system = record { 0 = xs }; pseudonode = p }) + n
unfolding lsp_number
ids [] p n six small fits = absurd (omega arith)
ids (a ∷ []) p n six small fits = absurd (omega arith)
ids (a ∷ b ∷ []) p n six small fits = absurd (omega arith)
ids (a ∷ b ∷ c ∷ []) p n six small fits = absurd (omega arith)
ids (a ∷ b ∷ c ∷ d ∷ []) p n six small fits = absurd (omega arith)
ids (a ∷ b ∷ c ∷ d ∷ e ∷ []) p n six small fits = absurd (omega arith)
ids (a ∷ b ∷ c ∷ d ∷ e ∷ f ∷ []) p n six small fits = omega (arith, small, fits)
ids (a ∷ b ∷ c ∷ d ∷ e ∷ f ∷ g ∷ xs) p n six small fits = absurd (omega arith)

pub id-number : (node : NodeId) (n : ℕ) → length node.system.0 ≡ 6 → node.pseudonode < 256 → n < 256 → lsp_number (record { node = node; number = n }) ≡ 256 * node_number node + n
id-number node n six small fits = ids node.system.0 node.pseudonode n six small fits

counted-on : (first flags id number : ℕ) (parts : List (List ℕ)) → counted first flags id (suc number) parts ≡ numbered flags (id + suc number) parts
unfolding counted
counted-on first flags id number [] = refl
counted-on first flags id number (t ∷ parts) =
    let z : (suc number == 0) ≡ false = grind (arith, nat_tests) in
    let s : suc number + 1 ≡ suc (suc number) = omega arith in
    let i : id + suc number + 1 ≡ id + suc (suc number) = omega arith in
    rw (z, s, i) (ap (λ (m : List (ℕ × Contents)). (id + suc number, record { flags = flags; tlvs = t }) ∷ m) (counted-on first flags id (suc number) parts))

pub counted-all : (first flags id : ℕ) (parts : List (List ℕ)) → counted first flags id 0 parts ≡ fragments_of first flags id parts
unfolding counted
counted-all first flags id [] = refl
counted-all first flags id (t ∷ parts) =
    let z : id + 0 ≡ id = omega arith in
    rw z (ap (λ (m : List (ℕ × Contents)). (id, record { flags = first; tlvs = t }) ∷ m) (counted-on first flags id 0 parts))

-- a fragment more
pub counted-next : (ws : List Wanted) (w : Wanted) (first flags id number : ℕ) (t : List ℕ) (rest : List (List ℕ))
    → lsp_number w.id ≡ id + number → w.flags ≡ (if number == 0 then first else flags) → w.tlvs ≡ t
    → map wanted_of (ws ++ w ∷ []) ++ counted first flags id (number + 1) rest ≡ map wanted_of ws ++ counted first flags id number (t ∷ rest)
unfolding counted
counted-next [] w first flags id number t rest i f e = rw (i, f, e) refl
counted-next (x ∷ ws) w first flags id number t rest i f e =
    ap (λ (m : List (ℕ × Contents)). wanted_of x ∷ m) (counted-next ws w first flags id number t rest i f e)

pub counted-none : (first flags id number : ℕ) (parts : List (List ℕ)) → length parts ≡ 0 → counted first flags id number (reverse parts) ≡ []
unfolding counted
counted-none first flags id number [] e = refl
counted-none first flags id number (t ∷ parts) e = absurd (omega (arith, e))
