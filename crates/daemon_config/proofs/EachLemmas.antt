-- Values read one after another: those so far, and those of what is left.
use Rattle.std.proofs.Common.{◌≡◌, List, [], ◌∷◌, ◌++◌, Ok, Err, refl, sym, ap, append_assoc}
use Rattle.router_desk.specs.declared.circuit_config.CircuitConfig.{CircuitConfig}
use Rattle.daemon_edge.specs.declared.place.CircuitPlace.{CircuitPlace}
use Rattle.daemon_config.specs.declared.settings.CircuitsRead.{CircuitsRead}
use Rattle.daemon_config.specs.Steps.{Reading, ◌>>=◌}

-- a list with what is read behind it
abbrev pub behind : {A : Type 0} → List A → Reading (List A) → Reading (List A)
behind done (Ok list) = Ok (done ++ list)
behind done (Err fault) = Err fault

abbrev pub circuits_behind : List CircuitConfig → List CircuitPlace → Reading CircuitsRead → Reading CircuitsRead
circuits_behind circuits places (Ok read) = Ok (record { circuits = circuits ++ read.circuits; places = places ++ read.places })
circuits_behind circuits places (Err fault) = Err fault

-- one more that is read goes behind those so far
pub behind-step : {A : Type 0} (done : List A) (x : A) (rest : Reading (List A)) → behind done (rest >>= (λ xs. Ok (x ∷ xs))) ≡ behind (done ++ x ∷ []) rest
behind-step done x (Ok xs) = ap Ok (sym (append_assoc done (x ∷ []) xs))
behind-step done x (Err fault) = refl
