-- Circuits that a lab script counts are ends of its links.
use Rattle.std.proofs.Common.{◌≡◌, ℕ, zero, suc, ◌+◌, ◌<◌, ◌≤◌, ◌⊎◌, ⊎_elim, inl, inr, Bool, true, false, ◌||◌, ◌==◌, List, [], ◌∷◌, ◌++◌, length, map, take, slice_index_or, Option, Some, None, IfSome, IsSome, cond, refl, sym, ap, ◌∙◌, subst, arith, append_assoc, append-nil}
use Rattle.std.proofs.lemmas.Bool.Decides.{nat_tests}
use Rattle.std.specs.List.{AllByRecursion, slice_get}
use Rattle.std.specs.Option.{option_map}
use Rattle.std.proofs.lemmas.List.Sums.{sum_by-append}
use Rattle.model_router.specs.Places.{nth}
use Rattle.model_router.specs.Routers.{Router}
use Rattle.model_router.proofs.BookLemmas.{test}
use Rattle.model_network.specs.declared.end.End as model
use Rattle.network_lab.specs.LabNets.{Seen}
use Rattle.network_lab.specs.Claims.{IsEndIn, AreEnds}
use Rattle.lab_script.specs.declared.setup.End.{End}
use Rattle.lab_script.specs.declared.setup.LabLink.{LabLink}
use Rattle.lab_script.specs.LabScripts.{LabScript, is_among, is_end, circuit_count}
use Rattle.lab_script.specs.LabSound.{IsLaidLink, IsSoundLab}
use Rattle.lab_text.specs.Played.{IsLaid, end_in, ends_of}

-- the link at a place of a list, an end of which is a router's circuit
record HasEnd (links : List LabLink) (router place : ℕ) : Type 0 where
  k : ℕ
  l : LabLink
  at : nth links k ≡ Some l
  ends : is_end l router ≡ true
  places : AllByRecursion (λ e. e.router ≡ router → e.place ≡ place) l.ends

later : (x : LabLink) (links : List LabLink) (router place : ℕ) → HasEnd links router place → HasEnd (x ∷ links) router place
later x links router place h = record { k = suc h.k; l = h.l; at = h.at; ends = h.ends; places = h.places }

pub count-append : (xs ys : List LabLink) (router : ℕ) → circuit_count (xs ++ ys) router ≡ circuit_count xs router + circuit_count ys router
count-append xs ys router = sum_by-append (λ (l : LabLink). cond (is_end l router) 1 0) xs ys

at-least : (a b : ℕ) → b ≤ a → (a ≡ b) ⊎ (b < a)
at-least a b h = test (λ t. (a == b) ≡ t → (a ≡ b) ⊎ (b < a)) (a == b) (λ _ e. inl (grind (arith, nat_tests, e))) (λ _ e. inr (grind (arith, nat_tests, e, h))) refl

-- a circuit is an end of the next link, or of one behind it
one-end : (n : ℕ) (before : List LabLink) (l : LabLink) (rest : List LabLink) → IsLaidLink n before l → (router place : ℕ) → circuit_count before router ≤ place
    → (circuit_count (before ++ l ∷ []) router ≤ place → HasEnd rest router place) → HasEnd (l ∷ rest) router place
one-end n before l rest here router place low next =
    test (λ b. (place == circuit_count before router) ≡ b → HasEnd (l ∷ rest) router place) (place == circuit_count before router)
    (λ _ yes. test (λ b. is_end l router ≡ b → HasEnd (l ∷ rest) router place) (is_end l router)
    (λ _ end. this end (grind (arith, nat_tests, yes)))
    (λ _ not. later l rest router place (next (not-counted not))) refl)
    (λ _ no. later l rest router place (next (past (λ e. grind (arith, nat_tests, no, e))))) refl
  where
    all-here : (ends : List End) → place ≡ circuit_count before router → AllByRecursion (λ e. e.place ≡ circuit_count before e.router) ends → AllByRecursion (λ e. e.router ≡ router → e.place ≡ place) ends
    all-here [] e h = tt
    all-here (x ∷ ends) e h = ((λ same. h.0 ∙ ap (λ (r : ℕ). circuit_count before r) same ∙ sym e), all-here ends e h.1)

    this : is_end l router ≡ true → place ≡ circuit_count before router → HasEnd (l ∷ rest) router place
    this end e = record { k = 0; l = l; at = refl; ends = end; places = all-here l.ends e here.places }

    counted : circuit_count (before ++ l ∷ []) router ≡ circuit_count before router + (0 + cond (is_end l router) 1 0)
    counted = count-append before (l ∷ []) router

    at-most : (b : Bool) → cond {A = ℕ} b 1 0 ≤ 1
    at-most true = omega arith
    at-most false = omega arith

    past : (place ≡ circuit_count before router → ⊥) → circuit_count (before ++ l ∷ []) router ≤ place
    past apart =
        let few = at-most (is_end l router) in
        let high : circuit_count before router < place = ⊎_elim (λ (h : place ≡ circuit_count before router). absurd (apart h)) (λ (h : circuit_count before router < place). h) (at-least place (circuit_count before router) low) in
        omega (arith, counted, few, low, high)

    not-counted : is_end l router ≡ false → circuit_count (before ++ l ∷ []) router ≤ place
    not-counted none =
        let zero-more : cond {A = ℕ} (is_end l router) 1 0 ≡ 0 = ap (λ (t : Bool). cond {A = ℕ} t 1 0) none in
        omega (arith, counted, zero-more, low)

ends-in : (n : ℕ) (before rest : List LabLink) → ((i : ℕ) (d : LabLink) → i < length rest → IsLaidLink n (before ++ take i rest) (slice_index_or rest i d)) → (router place : ℕ) → circuit_count before router ≤ place
    → place < circuit_count (before ++ rest) router → HasEnd rest router place
ends-in n before [] laid router place low high = absurd (let e = ap (λ (ls : List LabLink). circuit_count ls router) (append-nil before) in omega (arith, e, low, high))
ends-in n before (l ∷ rest) laid router place low high =
    one-end n before l rest (subst (λ (ls : List LabLink). IsLaidLink n ls l) (append-nil before) (laid 0 l (omega arith))) router place low
    (λ enough. ends-in n (before ++ l ∷ []) rest
    (λ i d h. subst (λ (ls : List LabLink). IsLaidLink n ls (slice_index_or rest i d)) (sym (append_assoc before (l ∷ []) (take i rest))) (laid (suc i) d (omega (arith, h))))
    router place enough
    (subst (λ (ls : List LabLink). place < circuit_count ls router) (sym (append_assoc before (l ∷ []) rest)) high))

-- ---- in the network

nth-map : {A B : Type 0} (f : A → B) (xs : List A) (k : ℕ) (x : A) → nth xs k ≡ Some x → nth (map f xs) k ≡ Some (f x)
nth-map f [] k x e = absurd (cc)
nth-map f (y ∷ xs) zero x e = ap (option_map f) e
nth-map f (y ∷ xs) (suc k) x e = nth-map f xs k x e

in-router : (s : Seen) (e : model.End) (router place : ℕ) → e.router ≡ router → e.place ≡ place → IsEndIn s.routers e → IfSome (nth s.routers router) (λ (r : Router). place < length r.circuits)
in-router s e router place a b i =
    subst (λ (o : Option Router). IfSome o (λ (r : Router). place < length r.circuits)) (sym (ap (λ (n : ℕ). nth s.routers n) (sym a) ∙ i.at))
    (subst (λ (n : ℕ). n < length i.r.circuits) b i.there)

-- the end of a router among ends that are there
among : (s : Seen) (ends : List End) (router place : ℕ) → is_among ends router ≡ true → AllByRecursion (λ e. e.router ≡ router → e.place ≡ place) ends → AllByRecursion (IsEndIn s.routers) (map end_in ends)
    → IfSome (nth s.routers router) (λ (r : Router). place < length r.circuits)
among s [] router place end places there = absurd (cc)
among s (e ∷ ends) router place end places there =
    test (λ b. (e.router == router) ≡ b → IfSome (nth s.routers router) (λ (r : Router). place < length r.circuits)) (e.router == router)
    (λ _ yes. let same : e.router ≡ router = grind (arith, nat_tests, yes) in in-router s (end_in e) router place same (places.0 same) there.0)
    (λ _ no. among s ends router place (sym (ap (λ (t : Bool). t || is_among ends router) no) ∙ end) places.1 there.1) refl

pub circuit-there : (script : LabScript) (s : Seen) → IsSoundLab script → IsLaid (length script.routers) script.links s → AreEnds s → (router place : ℕ) → place < circuit_count script.links router
    → IfSome (nth s.routers router) (λ (r : Router). place < length r.circuits)
circuit-there script s sound laid ends router place h =
    let found = ends-in (length script.routers) [] script.links sound.laid router place (omega arith) h in
    let there = ends found.k (ends_of found.l) (ap (λ (ls : List (List model.End)). nth ls found.k) laid.links_are ∙ nth-map ends_of script.links found.k found.l found.at) in
    among s found.l.ends router place found.ends found.places there

-- ---- a link that is named is there

pub if-some-more : {A : Type 0} (P Q : A → Type 0) (o : Option A) → ((x : A) → P x → Q x) → IfSome o P → IfSome o Q
if-some-more P Q None f h = tt
if-some-more P Q (Some x) f h = f x h

got-within : (links : List LabLink) (k : ℕ) → IsSome (slice_get links k) → k < length links
got-within [] k h = absurd (cc)
got-within (l ∷ links) zero h = omega arith
got-within (l ∷ links) (suc k) h = let rest = got-within links k h in omega (arith, rest)
