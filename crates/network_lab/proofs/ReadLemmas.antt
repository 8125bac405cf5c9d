-- What is read of a network's parts.
use Rattle.std.proofs.Common.{◌≡◌, ℕ, zero, suc, ◌+◌, ◌<◌, List, [], ◌∷◌, get_or, map, length, Bool, true, false, Option, Some, None, nat_lt, IfSome, if◌then◌else◌, refl, sym, ap, ◌∙◌, subst, arith}
use Rattle.std.specs.List.{AllByRecursion}
use Rattle.std.specs.Option.{option_map}
use Rattle.std.proofs.lemmas.List.{length-map}
use Rattle.model_router.specs.Places.{nth}
use Rattle.model_router.specs.Routers.{Router}
use Rattle.model_network.specs.declared.end.End.{End}
use Rattle.model_network.specs.RunLines.{put_end, by_router, is_end, link_of, ends_of, circuit_count}
use Rattle.network_lab.specs.LabInside.{counts_of, IsEndThere, AreEndsThere, ArePorts}
use Rattle.network_lab.proofs.PlaceLemmas.{some-same, nth-map, nth-get, nth-less}
use Rattle.network_lab.proofs.LabLemmas.{end-less}
use Rattle.network_lab.proofs.LinkLemmas.{all-at}

pub circuits-is : (rs : List Router) (ports : List (List ℕ)) (i : ℕ) (list : List ℕ) → counts_of rs ≡ map length ports → i < length rs → list ≡ get_or ports i list → length list ≡ circuit_count (nth rs i)
circuits-is rs ports i list same h e = of (nth rs i) (sym (nth-map (λ (r : Router). length r.circuits) rs i) ∙ (ap (λ (xs : List ℕ). nth xs i) same ∙ (nth-map length ports i ∙ ap (option_map length) (nth-get ports i list inside e))))
  where
    inside : i < length ports
    inside = let m = sym (length-map rs (λ (r : Router). length r.circuits)) ∙ (ap length same ∙ length-map ports length) in omega (arith, h, m)

    of : (o : Option Router) → option_map (λ (r : Router). length r.circuits) o ≡ Some (length list) → length list ≡ circuit_count o
    of None q = absurd (cc)
    of (Some r) q = sym (some-same (length r.circuits) (length list) q)

pub port-is : (ports : List (List ℕ)) (links : List (List End)) (i place : ℕ) (list : List ℕ) → ArePorts ports links → i < length ports → list ≡ get_or ports i list → nth list place ≡ link_of i place 0 links
port-is ports links i place list h inside e = sym (h.each i list (nth-get ports i list inside e) place)

link-less : (router place from k : ℕ) (links : List (List End)) → link_of router place from links ≡ Some k → k < from + length links
link-less router place from k [] e = absurd (cc)
link-less router place from k (ends ∷ links) e = of (is_end router place ends) e (link-less router place (from + 1) k links)
  where
    of : (b : Bool) → (if b then Some from else link_of router place (from + 1) links) ≡ Some k → (link_of router place (from + 1) links ≡ Some k → k < from + 1 + length links) → k < from + length (ends ∷ links)
    of true e r = let s = some-same from k e in omega (arith, s)
    of false e r = let l = r e in omega (arith, l)

pub port-there : (router place : ℕ) (links : List (List End)) (o : Option ℕ) → o ≡ link_of router place 0 links → IfSome o (λ link. link < length links)
port-there router place links None e = tt
port-there router place links (Some k) e = let l = link-less router place 0 k links (sym e) in omega (arith, l)

-- ---- ends in order

all-put : (P : End → Type 0) (ends : List End) (e : End) → AllByRecursion P ends → P e → AllByRecursion P (put_end ends e)
all-put P [] e h p = (p, tt)
all-put P (x ∷ ends) e h p = of (nat_lt e.router x.router) (all-put P ends e h.1 p)
  where
    of : (b : Bool) → AllByRecursion P (put_end ends e) → AllByRecursion P (if b then e ∷ x ∷ ends else x ∷ put_end ends e)
    of true r = (p, h)
    of false r = (h.0, r)

all-ordered : (P : End → Type 0) (ends : List End) → AllByRecursion P ends → AllByRecursion P (by_router ends)
all-ordered P [] h = tt
all-ordered P (e ∷ ends) h = all-put P (by_router ends) e (all-ordered P ends h.1) h.0

pub count-is : (links ordered : List (List End)) (link : ℕ) → ordered ≡ map by_router links → length (ends_of (nth ordered link)) ≡ length (by_router (ends_of (nth links link)))
count-is links ordered link same = ap (λ (xs : List (List End)). length (ends_of (nth xs link))) same ∙ (ap (λ (o : Option (List End)). length (ends_of o)) (nth-map by_router links link) ∙ of (nth links link))
  where
    of : (o : Option (List End)) → length (ends_of (option_map by_router o)) ≡ length (by_router (ends_of o))
    of None = refl
    of (Some ends) = refl

pub ends-is : (links ordered : List (List End)) (link place : ℕ) (row : List End) → ordered ≡ map by_router links → place < length (by_router (ends_of (nth links link))) → row ≡ get_or ordered link row → row ≡ by_router (ends_of (nth links link))
ends-is links ordered link place row same h e = of (nth links link) refl h
  where
    there : link < length links → nth ordered link ≡ Some row
    there l = nth-get ordered link row (let m = ap length same ∙ length-map links by_router in omega (arith, l, m)) e

    of : (o : Option (List End)) → nth links link ≡ o → place < length (by_router (ends_of o)) → row ≡ by_router (ends_of o)
    of None q h = absurd (omega (arith, h))
    of (Some ends) q h = some-same row (by_router ends) (sym (there (nth-less links link ends q)) ∙ (ap (λ (xs : List (List End)). nth xs link) same ∙ (nth-map by_router links link ∙ ap (option_map by_router) q)))

nth-or : {A : Type 0} (xs : List A) (i : ℕ) (d : A) → i < length xs → nth xs i ≡ Some (get_or xs i d)
nth-or [] i d h = absurd (omega (arith, h))
nth-or (x ∷ xs) zero d h = refl
nth-or (x ∷ xs) (suc i) d h = nth-or xs i d (omega (arith, h))

pub end-is : (row ends : List End) (place : ℕ) (d : End) → row ≡ ends → place < length ends → nth ends place ≡ Some (get_or row place d)
end-is row ends place d same h = ap (λ (xs : List End). nth xs place) (sym same) ∙ nth-or row place d (subst (λ (xs : List End). place < length xs) (sym same) h)

pub end-there : (counts : List ℕ) (links : List (List End)) (link place : ℕ) (e : End) → AllByRecursion (AreEndsThere counts) links → nth (by_router (ends_of (nth links link))) place ≡ Some e → e.router < length counts
end-there counts links link place e h q = of (nth links link) refl q
  where
    of : (o : Option (List End)) → nth links link ≡ o → nth (by_router (ends_of o)) place ≡ Some e → e.router < length counts
    of None k q = absurd (cc)
    of (Some ends) k q = end-less counts e.router e.place (all-at (IsEndThere counts) (by_router ends) place e (all-ordered (IsEndThere counts) ends (all-at (AreEndsThere counts) links link ends h k)) q)
