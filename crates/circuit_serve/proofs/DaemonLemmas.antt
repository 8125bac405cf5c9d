-- Ports that were closed, and how a daemon ends that has opened them.
use Rattle.std.proofs.Common.{◌≡◌, ℕ, zero, suc, ◌+◌, ◌<◌, ◌≤◌, Bool, false, List, [], ◌∷◌, ◌++◌, map, length, slice_get, slice_index_or, Option, Some, None, IfSome, inl, inr, refl, sym, ap, ◌∙◌, subst, arith, append-nil}
use Rattle.model_router.specs.Routers.{Router}
use Rattle.isis_edge.specs.Told.{WrotePrefix}
use Rattle.router_desk.specs.declared.config.Config.{Config}
use Rattle.router_desk.specs.Configs.{circuits_of}
use Rattle.circuit_threads.specs.JournalText.{journal_text}
use Rattle.daemon_edge.specs.declared.place.CircuitPlace.{CircuitPlace}
use Rattle.daemon_edge.specs.Closings.{Opening, Closing, closing}
use Rattle.daemon_edge.specs.Ports.{Adds, IsFresh}
use Rattle.circuit_serve.specs.Ends.{AtEnd, CircuitIs}
use Rattle.circuit_serve.specs.Served.{circuit_turns}
use Rattle.circuit_serve.proofs.Told.{adds_none, adds_both}
use Rattle.circuit_serve.proofs.Running.{sets_out}
use Rattle.circuit_serve.proofs.Gathered.{if_some_at}
use Rattle.circuit_serve.specs.declared.daemon_end.DaemonEnd.{DaemonEnd}
use Rattle.circuit_serve.specs.declared.daemon_end.DaemonEnd.TheVariants.{Done, NotStarted, OutOfMemory}
use Rattle.circuit_serve.specs.Openings.{openings, counted, OpenedSo}
use Rattle.circuit_serve.specs.Histories.{by_pass, JournalRan}
use Rattle.circuit_serve.specs.Daemons.{DaemonRan, first_router}

length-map : {A B : Type 0} (f : A → B) (xs : List A) → length (map f xs) ≡ length xs
length-map f [] = refl
length-map f (x ∷ xs) = ap suc (length-map f xs)

length-openings : (c : ℕ) (places : List CircuitPlace) → length (openings c places) ≡ length places
length-openings c [] = refl
length-openings c (x ∷ places) = ap suc (length-openings (c + 1) places)

pub first_circuits : (config : Config) (boot : ℕ) → length (first_router config boot).circuits ≡ length config.circuits
first_circuits config boot = length-map _ (circuits_of config) ∙ length-map _ config.circuits

-- nothing more is a part of each text
prefix_nothing : (held : List ℕ) (text : List ℕ) → WrotePrefix held held text
prefix_nothing held text = record { written = []; rest = text; wrote = sym (append-nil held); joined = refl }

module _ {P : Type 0} (opening : P → Opening) (given offered : P → List (List ℕ)) (asked : P → ℕ) where
  abbrev pub closing_of : P → Closing
  closing_of p = closing (opening p) (given p) (offered p) (asked p)

  opened_closed : (ports : List P) → map (λ (c : Closing). c.opening) (map closing_of ports) ≡ map opening ports
  opened_closed [] = refl
  opened_closed (p ∷ ports) = ap (λ z. opening p ∷ z) (opened_closed ports)

  -- what is known of each port is known of each that was closed
  closed_places : (ports : List P) (Q : ℕ → Closing → Type 0) → ((i : ℕ) (port : P) → slice_get ports i ≡ Some port → Q i (closing_of port)) → (i : ℕ) (c : Closing) → slice_get (map closing_of ports) i ≡ Some c → Q i c
  closed_places [] Q all i c at = absurd (cc at)
  closed_places (p ∷ ports) Q all zero c at = subst (Q 0) (some_same (closing_of p) c at) (all 0 p refl)
    where
      some_same : (a b : Closing) → Some a ≡ Some b → a ≡ b
      some_same a b e = cc e
  closed_places (p ∷ ports) Q all (suc i) c at = closed_places ports (λ k. Q (suc k)) (λ k port is. all (suc k) port is) i c at

  -- ports whose openings are known by place are opened as the others
  module _ (d : Opening) where
    same_openings : (ys : List P) (zs : List Opening) → length ys ≡ length zs → ((i : ℕ) → IfSome (slice_get ys i) (λ p. opening p ≡ slice_index_or zs i d)) → map opening ys ≡ zs
    same_openings [] [] size all = refl
    same_openings [] (z ∷ zs) size all = absurd (omega (arith, size))
    same_openings (y ∷ ys) [] size all = absurd (omega (arith, size))
    same_openings (y ∷ ys) (z ∷ zs) size all =
        let rest = same_openings ys zs (omega (arith, size)) (λ i. all (suc i)) in
        (λ i. all 0 i ∷ rest i)

    each_opening : (xs : List P) → (i : ℕ) → IfSome (slice_get xs i) (λ p. opening p ≡ slice_index_or (map opening xs) i d)
    each_opening [] i = tt
    each_opening (x ∷ xs) zero = refl
    each_opening (x ∷ xs) (suc i) = each_opening xs i

  pub kept_openings : (xs ys : List P) → length ys ≡ length xs → ((opens : ℕ → Opening) → ((i : ℕ) → IfSome (slice_get xs i) (λ p. opening p ≡ opens i)) → (i : ℕ) → IfSome (slice_get ys i) (λ p. opening p ≡ opens i)) → map opening ys ≡ map opening xs
  kept_openings [] [] size kept = refl
  kept_openings [] (y ∷ ys) size kept = absurd (omega (arith, size))
  kept_openings (x ∷ xs) ys size kept =
      let d = opening x in let all = x ∷ xs in
      same_openings d ys (map opening all) (size ∙ sym (length-map opening all)) (kept (λ i. slice_index_or (map opening all) i d) (each_opening d all))

  module _ (config : Config) (places : List CircuitPlace) (boot turns before now : ℕ) (ended : Bool) (held held' : List ℕ) (opened opened' : ℕ) (closed mid closed' : List Closing) where
    -- the number of ports that were opened
    pub opened_count : (ports : List P) (Well : Type 0) (so : OpenedSo opening places ports Well) → length ports ≡ length so.used
    opened_count ports Well so = sym (length-map opening ports) ∙ (ap (λ z. length z) so.made ∙ length-openings 1 so.used)

    pub opened_few : (ports : List P) (Well : Type 0) → OpenedSo opening places ports Well → length ports ≤ length places
    opened_few ports Well so =
        let size = opened_count ports Well so in let both = ap (λ z. length z) so.all in
        let parts = Rattle.std.proofs.Common.length-append so.used so.unused in omega (arith, size, both, parts)

    -- an opening was refused: the ports opened before are closed
    pub daemon_refused : (ports : List P) (Well : Type 0) (so : OpenedSo opening places ports Well) → ((i : ℕ) → IfSome (slice_get ports i) (λ p. IsFresh (given p) (offered p) (asked p)))
        → opened' ≡ counted (length ports) opened → Adds closed mid [] → Adds mid closed' (map closing_of ports) → DaemonRan config places boot turns before before ended held held opened opened' closed closed' NotStarted
    daemon_refused ports Well so fresh count none some = record {
      entries = [];
      ports = map closing_of ports;
      used = so.used;
      unused = so.unused;
      replayed = refl;
      written = prefix_nothing held (journal_text []);
      whole = λ done. cc done;
      lines = λ memory. cc memory;
      places_used = so.all;
      openings_made = opened_closed ports ∙ so.made;
      opened_so = count ∙ ap (λ n. counted n opened) (opened_count ports Well so);
      closed_so = adds_both closed mid closed' [] (map closing_of ports) none some;
      circuits = closed_places ports (λ i (c : Closing). CircuitIs (λ (c : Closing). c.given) (λ (c : Closing). c.offered) (λ (c : Closing). c.asked) (circuit_turns turns) (i + 1) c [] (NotStarted ≡ Done)) (λ i port at.
          let f = if_some_at _ _ port at (fresh i) in
          let here : AtEnd (i + 1) [] (given port) (offered port) = record { pulls = 0; waiting = false; lost = []; runs = sets_out (i + 1) (given port) (offered port) f.0 f.1; few = omega arith } in
          (here, λ done. cc done));
      others = λ d past. refl;
      ticker = (refl, λ done. cc done);
    }

    -- all were opened, and the router was served
    pub daemon_served : (ports ports' : List P) (Well : Type 0) (so : OpenedSo opening places ports Well) → Well → (first : Router) → first ≡ first_router config boot → (end : DaemonEnd)
        → JournalRan opening given offered asked first turns ports ports' before now ended held held' end → opened' ≡ counted (length ports) opened → Adds closed mid [] → Adds mid closed' (map closing_of ports')
        → DaemonRan config places boot turns before now ended held held' opened opened' closed closed' end
    daemon_served ports ports' Well so well first is end ran count none some =
        let all : so.used ≡ places = sym (append-nil so.used) ∙ (ap (λ z. so.used ++ z) (sym (so.whole well)) ∙ so.all) in
        let size = opened_count ports Well so in
        record {
          entries = ran.entries;
          ports = map closing_of ports';
          used = so.used;
          unused = so.unused;
          replayed = subst (λ (r : Router). Rattle.circuit_serve.specs.Histories.AreReplayed r ran.entries) is ran.replayed;
          written = ran.written;
          whole = λ done. (ran.whole (inl done), so.whole well);
          lines = λ memory. inr (ran.whole (inr memory));
          places_used = so.all;
          openings_made = opened_closed ports' ∙ (kept_openings ports ports' ran.count ran.openings ∙ so.made);
          opened_so = count ∙ ap (λ n. counted n opened) size;
          closed_so = adds_both closed mid closed' [] (map closing_of ports') none some;
          circuits = closed_places ports' (λ i (c : Closing). CircuitIs (λ (c : Closing). c.given) (λ (c : Closing). c.offered) (λ (c : Closing). c.asked) (circuit_turns turns) (i + 1) c (by_pass (i + 1) ran.entries) (end ≡ Done)) ran.circuits;
          others = λ d past. ran.others d (let e = ap (λ z. length z) all in omega (arith, past, size, e));
          ticker = ran.ticker;
        }

-- nothing was opened
pub daemon_early : (config : Config) (places : List CircuitPlace) (boot turns before : ℕ) (ended : Bool) (held : List ℕ) (opened : ℕ) (closed : List Closing) → DaemonRan config places boot turns before before ended held held opened opened closed closed OutOfMemory
daemon_early config places boot turns before ended held opened closed = record {
  entries = [];
  ports = [];
  used = [];
  unused = places;
  replayed = refl;
  written = prefix_nothing held (journal_text []);
  whole = λ done. cc done;
  lines = λ memory. inl refl;
  places_used = refl;
  openings_made = refl;
  opened_so = refl;
  closed_so = adds_none closed;
  circuits = λ i port at. absurd (cc at);
  others = λ d past. refl;
  ticker = (refl, λ done. cc done);
}
