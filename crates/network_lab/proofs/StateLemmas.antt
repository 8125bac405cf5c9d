-- The ends of a network's links are there, and how the links stand.
use Rattle.std.proofs.Common.{◌≡◌, ℕ, zero, suc, ◌+◌, ◌-◌, ◌<◌, ◌&&◌, not, true, false, is_some, MatchOption, option_map, List, [], ◌∷◌, ◌++◌, Bool, drop, get_or, length, map, unwrap_or, Option, Some, None, IfSome, refl, sym, ap, ◌∙◌, subst, arith, append_assoc}
use Rattle.std.specs.List.{AllByRecursion, flat_map}
use Rattle.isis_base.specs.declared.level.Level.{Level}
use Rattle.model_router.specs.Places.{nth}
use Rattle.std.proofs.lemmas.Option.{slice_get-map}
use Rattle.isis_base.specs.declared.level.CircuitKind.{CircuitKind}
use Rattle.model_router.specs.Both.{at}
use Rattle.model_router.specs.Routers.{Circuit, Router}
use Rattle.model_router.specs.AdjacencyLaws.{is_point}
use Rattle.router_desk.specs.Desks as kind
use Rattle.router_desk.specs.declared.desk_circuit.DeskCircuit.{DeskCircuit}
use Rattle.model_network.specs.declared.end.End.{End}
use Rattle.network_lab.specs.LabNets.{LabNet}
use Rattle.network_lab.specs.LabInside.{counts_of, IsEndThere, AreEndsThere, IsNet}
use Rattle.network_lab.specs.Claims.{IsEndIn, AreEnds}
use Rattle.lab_facts.specs.declared.state.LinkState.{LinkState}
use Rattle.lab_facts.specs.LinkStates.{state_of}
use Rattle.network_lab.specs.LinkStates.{pair_of, is_point_in, runs_at, runs_of, state_between, joined_pair, listed, joined_by}
use Rattle.network_lab.proofs.PlaceLemmas.{some-same, nth-slice_get}
use Rattle.network_lab.proofs.LinkLemmas.{all-at}

in-routers : (rs : List Router) (i place : ℕ) → place < unwrap_or (nth (counts_of rs) i) 0 → (r : Router) × (nth rs i ≡ Some r) × (place < length r.circuits)
in-routers [] i place h = absurd (omega (arith, h))
in-routers (r ∷ rs) zero place h = (r, refl, h)
in-routers (r ∷ rs) (suc i) place h = in-routers rs i place h

end-in : (rs : List Router) (e : End) → IsEndThere (counts_of rs) e → IsEndIn rs e
end-in rs e h = let found = in-routers rs e.router e.place h in record { r = found.0; at = found.1; there = found.2 }

all-in : (rs : List Router) (ends : List End) → AreEndsThere (counts_of rs) ends → AllByRecursion (IsEndIn rs) ends
all-in rs [] h = tt
all-in rs (e ∷ ends) h = (end-in rs e h.0, all-in rs ends h.1)

pub ends-are : (ports : List (List ℕ)) (ordered : List (List End)) (a : LabNet) → IsNet ports ordered a → AreEnds a.seen
ends-are ports ordered a net link ends e =
    all-in a.seen.routers ends (subst (λ (counts : List ℕ). AreEndsThere counts ends) (sym net.routers) (all-at (AreEndsThere (map (λ (list : List ℕ). length list) ports)) a.seen.links link ends net.ends e))

pub pair-there : (rs : List Router) (ends : List End) → AllByRecursion (IsEndIn rs) ends → IfSome (pair_of ends) (λ (pair : End × End). IsEndIn rs pair.0 × IsEndIn rs pair.1)
pair-there rs [] h = tt
pair-there rs (e ∷ []) h = tt
pair-there rs (e ∷ f ∷ []) h = (h.0, h.1.0)
pair-there rs (e ∷ f ∷ g ∷ ends) h = tt

-- ---- pairs

pub pair-none : (ends : List End) → (length ends ≡ 2 → ⊥) → pair_of ends ≡ None
pair-none [] h = refl
pair-none (e ∷ []) h = refl
pair-none (e ∷ f ∷ []) h = absurd (h refl)
pair-none (e ∷ f ∷ g ∷ ends) h = refl

pub pair-some : (ends : List End) (d : End) → length ends ≡ 2 → pair_of ends ≡ Some (get_or ends 0 d, get_or ends 1 d)
pair-some [] d h = absurd (omega (arith, h))
pair-some (e ∷ []) d h = absurd (omega (arith, h))
pair-some (e ∷ f ∷ []) d h = refl
pair-some (e ∷ f ∷ g ∷ ends) d h = absurd (omega (arith, h))

-- what is so of the item at a place
pub if-at : {A : Type 0} (P : A → Type 0) (o : Option A) (x : A) → o ≡ Some x → P x → IfSome o P
if-at {A = A} P o x e p = subst (λ (y : Option A). IfSome y P) (sym e) p

pub at-if : {A : Type 0} (P : A → Type 0) (o : Option A) (x : A) → o ≡ Some x → IfSome o P → P x
at-if {A = A} P o x e p = subst (λ (y : Option A). IfSome y P) e p

pub pair-state : (rs : List Router) (i p j q n m : ℕ) (level : Level) (a b : Router) (x : LinkState) → nth rs i ≡ Some a → nth rs j ≡ Some b → n ≡ p + 1 → m ≡ q + 1 → x ≡ state_of a (n - 1) b (m - 1) level
    → x ≡ state_between (nth rs i) p (nth rs j) q level
pair-state rs i p j q n m level a b x ea eb en em e =
    let np : n - 1 ≡ p = omega (arith, en) in
    let mq : m - 1 ≡ q = omega (arith, em) in
    e ∙ ap (λ (k : ℕ). state_of a k b (m - 1) level) np ∙ ap (λ (k : ℕ). state_of a p b k level) mq
    ∙ sym (ap (λ (o : Option Router). state_between o p (nth rs j) q level) ea ∙ ap (λ (o : Option Router). state_between (Some a) p o q level) eb)

-- ---- a list, one step on

pub drop-at : {A : Type 0} (xs : List A) (i : ℕ) (x : A) → nth xs i ≡ Some x → drop i xs ≡ x ∷ drop (suc i) xs
drop-at [] i x e = absurd (cc)
drop-at {A = A} (y ∷ xs) zero x e = ap (λ (z : A). z ∷ xs) (ap (λ (o : Option A). or-this y o) e)
  where
    or-this : A → Option A → A
    or-this y None = y
    or-this y (Some z) = z
drop-at (y ∷ xs) (suc i) x e = drop-at xs i x e

one-on : (i : ℕ) → i + 1 ≡ suc i
one-on i = omega arith

runs-drop : (rs : List Router) (i : ℕ) (level : Level) → i < length rs → runs_of (drop i rs) level ≡ runs_at rs i level ∷ runs_of (drop (suc i) rs) level
runs-drop [] i level h = absurd (omega (arith, h))
runs-drop (r ∷ rs) zero level h = refl
runs-drop (r ∷ rs) (suc i) level h = runs-drop rs i level (omega (arith, h))

pub runs-step : (rs : List Router) (i : ℕ) (level : Level) (on : Bool) (xs : List Bool) → i < length rs → on ≡ runs_at rs i level → (xs ++ on ∷ []) ++ runs_of (drop (i + 1) rs) level ≡ xs ++ runs_of (drop i rs) level
runs-step rs i level on xs h o =
    append_assoc xs (on ∷ []) (runs_of (drop (i + 1) rs) level)
    ∙ ap (λ (b : Bool). xs ++ (b ∷ runs_of (drop (i + 1) rs) level)) o
    ∙ ap (λ (n : ℕ). xs ++ (runs_at rs i level ∷ runs_of (drop n rs) level)) (one-on i)
    ∙ ap (λ (ys : List Bool). xs ++ ys) (sym (runs-drop rs i level h))

pub pairs-step : (rs : List Router) (level : Level) (links : List (List End)) (k : ℕ) (ends : List End) (xs : List (ℕ × ℕ)) → nth links k ≡ Some ends
    → (xs ++ joined_by rs level ends) ++ flat_map (joined_by rs level) (drop (k + 1) links) ≡ xs ++ flat_map (joined_by rs level) (drop k links)
pairs-step rs level links k ends xs e =
    append_assoc xs (joined_by rs level ends) (flat_map (joined_by rs level) (drop (k + 1) links))
    ∙ ap (λ (n : ℕ). xs ++ (joined_by rs level ends ++ flat_map (joined_by rs level) (drop n links))) (one-on k)
    ∙ ap (λ (rest : List (List End)). xs ++ flat_map (joined_by rs level) rest) (sym (drop-at links k ends e))

not-past : {A : Type 0} (xs : List A) (i : ℕ) → i < length xs → nth xs i ≡ None → ⊥
not-past [] i h e = omega (arith, h)
not-past (x ∷ xs) zero h e = absurd (cc)
not-past (x ∷ xs) (suc i) h e = not-past xs i (omega (arith, h)) e

pub pairs-on : (rs : List Router) (level : Level) (links : List (List End)) (k : ℕ) (xs : List (ℕ × ℕ)) (found : Option (ℕ × ℕ)) → k < length links
    → IfSome (nth links k) (λ (ends : List End). found ≡ joined_pair rs level (pair_of ends))
    → (xs ++ listed found) ++ flat_map (joined_by rs level) (drop (k + 1) links) ≡ xs ++ flat_map (joined_by rs level) (drop k links)
pairs-on rs level links k xs found h f = of (nth links k) refl f
  where
    of : (o : Option (List End)) → nth links k ≡ o → IfSome o (λ (ends : List End). found ≡ joined_pair rs level (pair_of ends))
        → (xs ++ listed found) ++ flat_map (joined_by rs level) (drop (k + 1) links) ≡ xs ++ flat_map (joined_by rs level) (drop k links)
    of None e g = absurd (not-past links k h e)
    of (Some ends) e g = ap (λ (o : Option (ℕ × ℕ)). (xs ++ listed o) ++ flat_map (joined_by rs level) (drop (k + 1) links)) g ∙ pairs-step rs level links k ends xs e

-- ---- circuits

pub some-of : {X : Type 0} (o : Option X) (N : Type 0) (P : X → Type 0) → MatchOption o N P → is_some o ≡ true → (x : X) × P x
some-of None N P m e = absurd (cc)
some-of (Some x) N P m e = (x, m)

point-kind : (lan : Bool) → kind.is_point (kind.kind_of_circuit lan) ≡ not lan
point-kind true = refl
point-kind false = refl

-- whether an end is point-to-point, by its router's desk
pub point-at : (rs : List Router) (e : End) (level : Level) (r : Router) (desk : kind.DeskView) (found : CircuitKind) (circuit : ℕ) (b : Bool) → at r.config.runs level ≡ true → nth rs e.router ≡ Some r → circuit ≡ e.place + 1
    → desk ≡ kind.desk_of r.config r.circuits → option_map (λ (c : DeskCircuit). c.kind) (kind.circuit_at desk circuit) ≡ Some found → b ≡ kind.is_point found → b ≡ is_point_in (nth rs e.router) e.place level
point-at rs e level r desk found circuit b runs there n d k p =
    p ∙ (of (nth r.circuits e.place) (sym (ap (option_map (λ (c : DeskCircuit). c.kind)) shown) ∙ k)
    ∙ sym (ap (λ (o : Option Router). is_point_in o e.place level) there ∙ ap (λ (t : Bool). t && is_point (nth r.circuits e.place)) runs))
  where
    shown : kind.circuit_at desk circuit ≡ option_map kind.desk_circuit (nth r.circuits e.place)
    shown =
        ap (λ (d : kind.DeskView). kind.circuit_at d circuit) d
        ∙ (slice_get-map kind.desk_circuit r.circuits (circuit - 1)
        ∙ (ap (option_map kind.desk_circuit) (nth-slice_get r.circuits (circuit - 1))
        ∙ ap (λ (k : ℕ). option_map kind.desk_circuit (nth r.circuits k)) (omega (arith, n))))

    of : (o : Option Circuit) → option_map (λ (c : DeskCircuit). c.kind) (option_map kind.desk_circuit o) ≡ Some found → kind.is_point found ≡ is_point o
    of None q = absurd (cc)
    of (Some c) q = ap kind.is_point (sym (some-same (kind.kind_of_circuit c.lan) found q)) ∙ point-kind c.lan
