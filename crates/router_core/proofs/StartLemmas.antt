-- A router at its start.
use Rattle.std.proofs.Common.{◌≡◌, ℕ, suc, List, [], ◌∷◌, map, length, replicate, Option, Bool, true, false, Result, Ok, Err, IfOk, refl, sym, ap, ◌∙◌, subst}
use Rattle.std.specs.List.{AllByRecursion}
use Rattle.isis_base.specs.declared.level.CircuitKind.{CircuitKind}
use Rattle.model_router.specs.Both.{Both}
use Rattle.model_router.specs.Configs as model
use Rattle.model_router.specs.Routers.{Circuit, LevelState, Router}
use Rattle.model_router.specs.Starts.{start, started, empty_level, points_of}
use Rattle.router_desk.specs.declared.circuit_config.CircuitConfig.{CircuitConfig}
use Rattle.router_desk.specs.Configs.{circuit_of}
use Rattle.router_desk.specs.Desks.{desk_circuit, kind_of_circuit}
use Rattle.router_desk.specs.Limits.{IsCircuit}
use Rattle.router_levels.specs.Views.{AreOfKinds, LevelView, state_of, is_lan}
use Rattle.router_core.specs.Machines.{IsFit}

pub start-same : (cs : List CircuitConfig) → map started (map circuit_of cs) ≡ map circuit_of cs
start-same [] = refl
start-same (c ∷ cs) = ap (λ (xs : List Circuit). circuit_of c ∷ xs) (start-same cs)

pub config-fits : (cs : List CircuitConfig) → AllByRecursion IsCircuit cs → AllByRecursion IsFit (map circuit_of cs)
config-fits [] h = tt
config-fits (c ∷ cs) h = (record { metric = h.0.metric; priority = h.0.priority }, config-fits cs h.1)

pub started-fit : (cs : List Circuit) → AllByRecursion IsFit cs → AllByRecursion IsFit (map started cs)
started-fit [] h = tt
started-fit (c ∷ cs) h = (record { metric = h.0.metric; priority = h.0.priority }, started-fit cs h.1)

pub started-desk : (cs : List Circuit) → map desk_circuit (map started cs) ≡ map desk_circuit cs
started-desk [] = refl
started-desk (c ∷ cs) = ap (λ (xs : List _). desk_circuit c ∷ xs) (started-desk cs)

pub length-mapped : {A B : Type 0} (f : A → B) (xs : List A) → length (map f xs) ≡ length xs
length-mapped f [] = refl
length-mapped f (x ∷ xs) = ap suc (length-mapped f xs)

lan-kind : (b : Bool) → b ≡ is_lan (kind_of_circuit b)
lan-kind true = refl
lan-kind false = refl

pub of-kinds : (cs : List Circuit) → AreOfKinds cs (map (λ c. kind_of_circuit c.lan) cs)
of-kinds [] = tt
of-kinds (c ∷ cs) = (lan-kind c.lan, of-kinds cs)

pub level-starts : {E : Type 0} (r : Result LevelView E) (cs : List Circuit) (kinds : List CircuitKind) → kinds ≡ map (λ c. kind_of_circuit c.lan) cs → IfOk r (λ level. (circuits : List Circuit) → AreOfKinds circuits kinds → state_of level ≡ empty_level (points_of 0 circuits)) → IfOk r (λ level. state_of level ≡ empty_level (points_of 0 cs))
level-starts (Ok level) cs kinds e h = h cs (subst (λ (k : List CircuitKind). AreOfKinds cs k) (sym e) (of-kinds cs))
level-starts (Err b) cs kinds e h = h

pub level-circuits : {E : Type 0} (r : Result LevelView E) (cs : List Circuit) (kinds : List CircuitKind) → kinds ≡ map (λ c. kind_of_circuit c.lan) cs → IfOk r (λ level. level.book.circuits ≡ length kinds) → IfOk r (λ level. level.book.circuits ≡ length cs)
level-circuits (Ok level) cs kinds e h = h ∙ (ap length e ∙ length-mapped (λ c. kind_of_circuit c.lan) cs)
level-circuits (Err b) cs kinds e h = h

-- a router whose parts are those of the start
pub started-is : (config : model.Config) (boot : ℕ) (cs : List Circuit) (system : ℕ) (areas : List (List ℕ)) (runs : Both Bool) (prefixes : List (ℕ × ℕ)) (keys : Both (Option (List ℕ))) (items : List Circuit) (one two : LevelState)
    → system ≡ config.system → areas ≡ config.areas → runs ≡ config.runs → prefixes ≡ config.prefixes → keys ≡ config.keys → items ≡ map started cs → one ≡ empty_level (points_of 0 cs) → two ≡ empty_level (points_of 0 cs)
    → record { config = record { system = system; areas = areas; runs = runs; leak = config.leak; overload = config.overload; prefixes = prefixes; keys = keys }; boot = boot; circuits = items; levels = record { one = one; two = two }; drops = replicate 21 0 } ≡ start config boot cs
started-is config boot cs system areas runs prefixes keys items one two a b c d e f g h =
    ap (λ x. of x areas runs prefixes keys items one two) a
    ∙ (ap (λ x. of config.system x runs prefixes keys items one two) b
    ∙ (ap (λ x. of config.system config.areas x prefixes keys items one two) c
    ∙ (ap (λ x. of config.system config.areas config.runs x keys items one two) d
    ∙ (ap (λ x. of config.system config.areas config.runs config.prefixes x items one two) e
    ∙ (ap (λ x. of config.system config.areas config.runs config.prefixes config.keys x one two) f
    ∙ (ap (λ x. of config.system config.areas config.runs config.prefixes config.keys (map started cs) x two) g
    ∙ ap (λ x. of config.system config.areas config.runs config.prefixes config.keys (map started cs) (empty_level (points_of 0 cs)) x) h))))))
  where
    of : ℕ → List (List ℕ) → Both Bool → List (ℕ × ℕ) → Both (Option (List ℕ)) → List Circuit → LevelState → LevelState → Router
    of system areas runs prefixes keys items one two = record { config = record { system = system; areas = areas; runs = runs; leak = config.leak; overload = config.overload; prefixes = prefixes; keys = keys }; boot = boot; circuits = items; levels = record { one = one; two = two }; drops = replicate 21 0 }

pub same-points : (k : ℕ) (cs : List CircuitConfig) (items : List Circuit) → items ≡ map circuit_of cs → empty_level (points_of k items) ≡ empty_level (points_of k (map circuit_of cs))
same-points k cs items e = ap (λ (xs : List Circuit). empty_level (points_of k xs)) e
