-- The ends of links and LANs: the kinds of their circuits, and the lines of a LAN's members one by one.
use Rattle.std.proofs.Common.{◌≡◌, ℕ, zero, suc, ◌+◌, ◌-◌, ◌<◌, ◌&&◌, not, true, false, is_some, MatchOption, Bool, List, [], ◌∷◌, ◌++◌, length, drop, get_or, Option, Some, None, IsSome, option_map, if◌then◌else◌, refl, sym, ap, ◌∙◌, subst, arith, append_assoc}
use Rattle.std.specs.Prelude.{slice_get}
use Rattle.std.specs.List.{AllByRecursion}
use Rattle.std.proofs.lemmas.Option.{slice_get-map}
use Rattle.isis_base.specs.declared.level.CircuitKind.{CircuitKind}
use Rattle.isis_base.specs.declared.level.Level.{Level}
use Rattle.model_router.proofs.BookLemmas.{same-or}
use Rattle.model_router.specs.Both.{at}
use Rattle.model_router.specs.Places.{nth}
use Rattle.model_router.specs.Routers.{Circuit, Router}
use Rattle.model_router.specs.AdjacencyLaws.{is_point}
use Rattle.router_desk.specs.Desks as kind
use Rattle.router_desk.specs.declared.desk_circuit.DeskCircuit.{DeskCircuit}
use Rattle.model_network.specs.declared.end.End.{End}
use Rattle.model_network.specs.Networks.{place_on, place_in}
use Rattle.model_network.specs.RunLines.{ends_of}
use Rattle.network_lab.specs.Claims.{IsEndIn, AreEnds}
use Rattle.network_lab.specs.LabNets.{Seen}
use Rattle.network_lab.specs.LinkStates.{is_point_in}
use Rattle.lab_report.specs.LanLines.{is_lan, is_lan_in, member_line, member_lines}

-- ---- lists by their places

some-same : {A : Type 0} (a b : A) → Some a ≡ Some b → a ≡ b
some-same a b e = cc

nth-slice_get : {A : Type 0} (xs : List A) (i : ℕ) → slice_get xs i ≡ nth xs i
nth-slice_get [] i = refl
nth-slice_get (x ∷ xs) zero = refl
nth-slice_get (x ∷ xs) (suc i) = nth-slice_get xs i

pub nth-or : {A : Type 0} (xs : List A) (i : ℕ) (d : A) → i < length xs → nth xs i ≡ Some (get_or xs i d)
nth-or [] i d h = absurd (omega (arith, h))
nth-or (x ∷ xs) zero d h = refl
nth-or (x ∷ xs) (suc i) d h = nth-or xs i d (omega (arith, h))

pub all-at : {A : Type 0} (P : A → Type 0) (xs : List A) (i : ℕ) (y : A) → AllByRecursion P xs → nth xs i ≡ Some y → P y
all-at P [] i y h e = absurd (cc)
all-at P (x ∷ xs) zero y h e = subst P (some-same x y e) h.0
all-at P (x ∷ xs) (suc i) y h e = all-at P xs i y h.1 e

drop-at : (xs : List End) (i : ℕ) (x : End) → nth xs i ≡ Some x → drop i xs ≡ x ∷ drop (suc i) xs
drop-at [] i x e = absurd (cc)
drop-at (y ∷ xs) zero x e = ap (λ (z : End). z ∷ xs) (some-same y x e)
drop-at (y ∷ xs) (suc i) x e = drop-at xs i x e

-- ---- kinds of circuits

pub some-of : {X : Type 0} (o : Option X) (N : Type 0) (P : X → Type 0) → MatchOption o N P → is_some o ≡ true → (x : X) × P x
some-of None N P m e = absurd (cc)
some-of (Some x) N P m e = (x, m)

-- the circuit of an end in its router's desk
shown : (r : Router) (desk : kind.DeskView) (circuit place : ℕ) → circuit ≡ place + 1 → desk ≡ kind.desk_of r.config r.circuits → kind.circuit_at desk circuit ≡ option_map kind.desk_circuit (nth r.circuits place)
shown r desk circuit place n d =
    ap (λ (d : kind.DeskView). kind.circuit_at d circuit) d
    ∙ (slice_get-map kind.desk_circuit r.circuits (circuit - 1)
    ∙ (ap (option_map kind.desk_circuit) (nth-slice_get r.circuits (circuit - 1))
    ∙ ap (λ (k : ℕ). option_map kind.desk_circuit (nth r.circuits k)) (omega (arith, n))))

point-kind : (lan : Bool) → kind.is_point (kind.kind_of_circuit lan) ≡ not lan
point-kind true = refl
point-kind false = refl

-- whether an end is point-to-point, by its router's desk
pub point-at : (rs : List Router) (e : End) (level : Level) (r : Router) (desk : kind.DeskView) (found : CircuitKind) (circuit : ℕ) (b : Bool) → at r.config.runs level ≡ true → nth rs e.router ≡ Some r → circuit ≡ e.place + 1
    → desk ≡ kind.desk_of r.config r.circuits → option_map (λ (c : DeskCircuit). c.kind) (kind.circuit_at desk circuit) ≡ Some found → b ≡ kind.is_point found → b ≡ is_point_in (nth rs e.router) e.place level
point-at rs e level r desk found circuit b runs there n d k p =
    p ∙ (of (nth r.circuits e.place) (sym (ap (option_map (λ (c : DeskCircuit). c.kind)) (shown r desk circuit e.place n d)) ∙ k)
    ∙ sym (ap (λ (o : Option Router). is_point_in o e.place level) there ∙ ap (λ (t : Bool). t && is_point (nth r.circuits e.place)) runs))
  where
    of : (o : Option Circuit) → option_map (λ (c : DeskCircuit). c.kind) (option_map kind.desk_circuit o) ≡ Some found → kind.is_point found ≡ is_point o
    of None q = absurd (cc)
    of (Some c) q = ap kind.is_point (sym (some-same (kind.kind_of_circuit c.lan) found q)) ∙ point-kind c.lan

lan-kind : (lan : Bool) → kind.is_lan (kind.kind_of_circuit lan) ≡ lan
lan-kind true = refl
lan-kind false = refl

-- whether an end is one of a LAN, by its router's desk
pub lan-at : (rs : List Router) (e : End) (level : Level) (r : Router) (desk : kind.DeskView) (found : CircuitKind) (circuit : ℕ) (b : Bool) → at r.config.runs level ≡ true → nth rs e.router ≡ Some r → circuit ≡ e.place + 1
    → desk ≡ kind.desk_of r.config r.circuits → option_map (λ (c : DeskCircuit). c.kind) (kind.circuit_at desk circuit) ≡ Some found → b ≡ kind.is_lan found → b ≡ is_lan_in (nth rs e.router) e.place level
lan-at rs e level r desk found circuit b runs there n d k p =
    p ∙ (of (nth r.circuits e.place) (sym (ap (option_map (λ (c : DeskCircuit). c.kind)) (shown r desk circuit e.place n d)) ∙ k)
    ∙ sym (ap (λ (o : Option Router). is_lan_in o e.place level) there ∙ ap (λ (t : Bool). t && is_lan (nth r.circuits e.place)) runs))
  where
    of : (o : Option Circuit) → option_map (λ (c : DeskCircuit). c.kind) (option_map kind.desk_circuit o) ≡ Some found → kind.is_lan found ≡ is_lan o
    of None q = absurd (cc)
    of (Some c) q = ap kind.is_lan (sym (some-same (kind.kind_of_circuit c.lan) found q)) ∙ lan-kind c.lan

-- ---- ends

pub place-within : (o : Option (List End)) (ends : List End) (i : ℕ) → o ≡ Some ends → i < length (ends_of o) → i < length ends
place-within o ends i e h = subst (λ (o : Option (List End)). i < length (ends_of o)) e h

-- an end of a link or LAN is there
pub end-there : (s : Seen) (link : ℕ) (ends : List End) (i : ℕ) (d : End) → AreEnds s → nth s.links link ≡ Some ends → i < length ends → IsEndIn s.routers (get_or ends i d)
end-there s link ends i d are e h = all-at (IsEndIn s.routers) ends i (get_or ends i d) (are link ends e) (nth-or ends i d h)

-- and is one that its router has there
end-on : (ends : List End) (i : ℕ) (e : End) → nth ends i ≡ Some e → IsSome (place_on ends e.router)
end-on [] i e h = absurd (cc)
end-on (x ∷ ends) zero e h = same-or (λ (t : Bool). IsSome (if t then Some x.place else place_on ends e.router)) x.router e.router (λ _. refl) (λ n. absurd (n (ap (λ (f : End). f.router) (some-same x e h))))
end-on (x ∷ ends) (suc i) e h = same-or (λ (t : Bool). IsSome (if t then Some x.place else place_on ends e.router)) x.router e.router (λ _. refl) (λ _. end-on ends i e h)

pub end-in : (links : List (List End)) (link : ℕ) (i : ℕ) (e : End) → nth (ends_of (nth links link)) i ≡ Some e → IsSome (place_in (nth links link) e.router)
end-in links link i e h = of (nth links link) h
  where
    of : (o : Option (List End)) → nth (ends_of o) i ≡ Some e → IsSome (place_in o e.router)
    of None q = absurd (cc)
    of (Some ends) q = end-on ends i e q

-- ---- members

-- the line of a member, and those of the members behind it
pub member-step : (routers : List (List ℕ)) (name : List ℕ) (s : Seen) (lan : ℕ) (level : Level) (ends : List End) (i : ℕ) (e : End) (page : List ℕ) → nth ends i ≡ Some e
    → (page ++ member_line routers name s lan level e) ++ member_lines routers name s lan level (drop (i + 1) ends) ≡ page ++ member_lines routers name s lan level (drop i ends)
member-step routers name s lan level ends i e page h =
    append_assoc page (member_line routers name s lan level e) (member_lines routers name s lan level (drop (i + 1) ends))
    ∙ ap (λ (rest : List End). page ++ member_lines routers name s lan level rest)
    (sym (drop-at ends i e h ∙ ap (λ (n : ℕ). e ∷ drop n ends) one))
  where
    one : suc i ≡ i + 1
    one = omega arith
