-- The links of one router more.
use Rattle.std.proofs.Common.{◌≡◌, ℕ, ◌+◌, ◌<◌, ◌⊎◌, inl, inr, List, [], ◌∷◌, ◌++◌, length, Some, sym, ap, ◌∙◌, subst, arith}
use Rattle.std.proofs.lemmas.List.{length-append}
use Rattle.model_router.specs.Places.{nth}
use Rattle.model_router.specs.Routers.{Router}
use Rattle.model_network.specs.declared.end.End.{End}
use Rattle.weave_replay.proofs.PlaceLemmas.{in-more}
use Rattle.weave.specs.Coded.{ArePorts}
use Rattle.weave.specs.Woven.{AreRows}

pub rows-more : (routers : List Router) (links : List (List End)) (rows : List (List ℕ)) (r : Router) (row : List ℕ) → AreRows routers links rows → length row ≡ length r.circuits → ArePorts links (length routers) row → AreRows (routers ++ (r ∷ [])) links (rows ++ (row ∷ []))
rows-more routers links rows r row all size ports = record {
  size = length-append rows (row ∷ []) ∙ (ap (λ (n : ℕ). n + 1) all.size ∙ sym (length-append routers (r ∷ [])));
  many = λ router x list at at_row. many router x list (in-more routers r router x at) (in-more rows row router list at_row);
  ports = λ router list at. on router list (in-more rows row router list at);
}
  where
    many : (router : ℕ) (x : Router) (list : List ℕ) → ((router < length routers) × (nth routers router ≡ Some x)) ⊎ ((router ≡ length routers) × (r ≡ x)) → ((router < length rows) × (nth rows router ≡ Some list)) ⊎ ((router ≡ length rows) × (row ≡ list)) → length x.circuits ≡ length list
    many router x list (inl a) (inl b) = all.many router x list a.1 b.1
    many router x list (inl a) (inr b) = let lt = a.0 in let e = b.0 in let s = all.size in absurd (omega (arith, lt, e, s))
    many router x list (inr a) (inl b) = let lt = b.0 in let e = a.0 in let s = all.size in absurd (omega (arith, lt, e, s))
    many router x list (inr a) (inr b) = ap (λ (y : Router). length y.circuits) (sym a.1) ∙ (sym size ∙ ap length b.1)

    on : (router : ℕ) (list : List ℕ) → ((router < length rows) × (nth rows router ≡ Some list)) ⊎ ((router ≡ length rows) × (row ≡ list)) → ArePorts links router list
    on router list (inl a) = all.ports router list a.1
    on router list (inr b) = subst (λ (k : ℕ). ArePorts links k list) (sym all.size ∙ sym b.0) (subst (λ (l : List ℕ). ArePorts links (length routers) l) b.1 ports)
