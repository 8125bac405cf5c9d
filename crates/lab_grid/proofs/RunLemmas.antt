-- The routes of one router more.
use Rattle.std.proofs.Common.{◌≡◌, ℕ, zero, suc, ◌+◌, List, [], ◌∷◌, ◌++◌, take, Some, ap, sym, ◌∙◌, arith, unwrap_or}
use Rattle.std.specs.List.{flat_map}
use Rattle.std.proofs.lemmas.Grind.{flat_map-append}
use Rattle.std.proofs.lemmas.List.{append-nil}
use Rattle.model_router.specs.Places.{nth}
use Rattle.model_router.specs.Routers.{Router}
use Rattle.route_table.specs.declared.route.Route.{Route}
use Rattle.router_routes.specs.Outlooks.{outlook_of}
use Rattle.router_routes.specs.Candidates.{AreRoutesOf}
use Rattle.lab_grid.specs.declared.tally.Tally.{Tally}
use Rattle.lab_grid.specs.Tallies.{tally_of}
use Rattle.lab_grid.specs.GridRuns.{HaveRoutes, AreTallied}

HaveRoutes-push : (routers : List Router) (r : Router) (lists : List (List Route)) (list : List Route) → HaveRoutes routers lists → AreRoutesOf (outlook_of r) list → HaveRoutes (routers ++ r ∷ []) (lists ++ list ∷ [])
HaveRoutes-push [] r [] list have more = (more, tt)
HaveRoutes-push [] r (first ∷ lists) list have more = absurd have
HaveRoutes-push (q ∷ routers) r [] list have more = absurd have
HaveRoutes-push (q ∷ routers) r (first ∷ lists) list have more = (have.0, HaveRoutes-push routers r lists list have.1 more)

take-suc : {X : Type 0} (xs : List X) (i : ℕ) (x : X) → nth xs i ≡ Some x → take (suc i) xs ≡ take i xs ++ x ∷ []
take-suc [] i x there = absurd (grind arith)
take-suc (y ∷ xs) zero x there = ap (λ z. unwrap_or z y ∷ []) there
take-suc (y ∷ xs) (suc i) x there = ap (λ zs. y ∷ zs) (take-suc xs i x there)

pub take-nth : {X : Type 0} (xs : List X) (i : ℕ) (x : X) → nth xs i ≡ Some x → take (i + 1) xs ≡ take i xs ++ x ∷ []
take-nth xs i x there =
    let next : i + 1 ≡ suc i = omega arith in
    ap (λ n. take n xs) next ∙ take-suc xs i x there

joined-push : (lists : List (List Route)) (list : List Route) → flat_map (λ l. l) lists ++ list ≡ flat_map (λ l. l) (lists ++ list ∷ [])
joined-push lists list = sym (flat_map-append (λ l. l) lists (list ∷ []) ∙ ap (λ more. flat_map (λ l. l) lists ++ more) (append-nil list))

-- what one router more has is counted
pub AreTallied-push : (routers : List Router) (r : Router) (tally next : Tally) (list : List Route) → AreTallied routers tally → AreRoutesOf (outlook_of r) list → ((before : List Route) → tally ≡ tally_of before → next ≡ tally_of (before ++ list)) → AreTallied (routers ++ r ∷ []) next
AreTallied-push routers r tally next list so_far more counted = record {
  lists = so_far.lists ++ list ∷ [];
  have = HaveRoutes-push routers r so_far.lists list so_far.have more;
  tally_is = counted (flat_map (λ l. l) so_far.lists) so_far.tally_is ∙ ap tally_of (joined-push so_far.lists list);
}
