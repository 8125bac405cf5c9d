-- The circuits of entries that replay have links.
use Rattle.std.proofs.Common.{◌≡◌, ℕ, ◌==◌, nat_le, Bool, true, false, List, [], ◌∷◌, length, Option, Some, None, IfSome, if◌then◌else◌, refl, sym, ◌∙◌, subst, arith}
use Rattle.std.specs.List.{AllByRecursion}
use Rattle.std.proofs.lemmas.Bool.{and_parts, eq-eqb, leb-true}
use Rattle.std.proofs.lemmas.List.{length-map}
use Rattle.model_router.specs.Places.{nth}
use Rattle.model_router.specs.Routers.{Router}
use Rattle.model_router.specs.Starts.{started}
use Rattle.model_network.specs.Networks.{restarted}
use Rattle.weave_replay.specs.Passed.{given}
use Rattle.weave_model.specs.Entries.{Deed, Second, Take, Pull, Metric, Overload, Prefix, Entry, event_of, next, replay}
use Rattle.weave_model.specs.Faults.{is_there, fits, AreGood, AreGoodAll}
use Rattle.weave_replay.specs.declared.journal.WovenJournal.{WovenJournal}
use Rattle.weave_replay.specs.Entries.{entries_of}
use Rattle.weave_replay.specs.Replays.{journals_of, in_first_boot, AreReplayed}
use Rattle.weave_replay.proofs.PlaceLemmas.{There, there, within}
use Rattle.weave_replay.proofs.JournalLemmas.{StepsStay}
use Rattle.weave.specs.Coded.{IsThere, HasPort, HavePorts, HavePortsAll}
use Rattle.weave.specs.Begins.{HaveAsMany}

-- what the replay of all journals gives
abbrev pub AreGoodEach : Type 0
AreGoodEach = (routers : List Router) (journals : List WovenJournal) (router : ℕ) (first : Router) → AreReplayed routers journals → nth routers router ≡ Some first → AreGoodAll given (in_first_boot first) (journals_of router journals)

there-is : (r : Router) (ports : List ℕ) (circuit : ℕ) → length r.circuits ≡ length ports → is_there r circuit ≡ true → IsThere ports circuit
there-is r ports circuit size e =
    let parts = and_parts (nat_le 1 circuit) (nat_le circuit (length r.circuits)) e in
    let least = leb-true 1 circuit parts.0 in
    let most = leb-true circuit (length r.circuits) parts.1 in
    (least, omega (arith, most, size))

ported : (r : Router) (ports : List ℕ) (deed : Deed) → length r.circuits ≡ length ports → fits r deed ≡ true → HasPort ports deed
ported r ports Second size e = tt
ported r ports (Take circuit octets) size e = there-is r ports circuit size e
ported r ports (Pull circuit) size e = there-is r ports circuit size e
ported r ports (Metric circuit metric) size e = tt
ported r ports (Overload on) size e = tt
ported r ports (Prefix prefix metric) size e = tt

have-ports : StepsStay → (r : Router) (ports : List ℕ) (es : List Entry) → length r.circuits ≡ length ports → AreGood given r es → HavePorts ports es
have-ports stays r ports [] size good = tt
have-ports stays r ports (e ∷ es) size good = (
  ported r ports e.deed size good.0.fitting,
  have-ports stays (next given r e.deed) ports es ((stays given r (event_of r e.deed)).circuits ∙ size) good.1,
)

replay-circuits : StepsStay → (r : Router) (es : List Entry) → length (replay given r es).circuits ≡ length r.circuits
replay-circuits stays r [] = refl
replay-circuits stays r (e ∷ es) = replay-circuits stays (next given r e.deed) es ∙ (stays given r (event_of r e.deed)).circuits

all-have : StepsStay → (r : Router) (ports : List ℕ) (js : List (List Entry)) → length r.circuits ≡ length ports → AreGoodAll given r js → AllByRecursion (λ (es : List Entry). HavePorts ports es) js
all-have stays r ports [] size good = tt
all-have stays r ports (j ∷ js) size good = (
  have-ports stays r ports j size good.0,
  all-have stays (restarted (replay given r j)) ports js (length-map (replay given r j).circuits started ∙ replay-circuits stays r j ∙ size) good.1,
)

-- what holds of a router's journals holds of each journal that is its
of-journals : (P : List Entry → Type 0) (router : ℕ) (js : List WovenJournal) → AllByRecursion P (journals_of router js) → AllByRecursion (λ (j : WovenJournal). j.router ≡ router → P (entries_of j)) js
of-journals P router [] all = tt
of-journals P router (j ∷ js) all = by (j.router == router) refl all (of-journals P router js)
  where
    by : (b : Bool) → (j.router == router) ≡ b → AllByRecursion P (if b then entries_of j ∷ journals_of router js else journals_of router js) → (AllByRecursion P (journals_of router js) → AllByRecursion (λ (k : WovenJournal). k.router ≡ router → P (entries_of k)) js) → (j.router ≡ router → P (entries_of j)) × AllByRecursion (λ (k : WovenJournal). k.router ≡ router → P (entries_of k)) js
    by true e h more = (λ same. h.0, more h.1)
    by false e h more = (λ same. absurd (contra (sym e ∙ eq-eqb j.router router same)), more h)
      where
        contra : false ≡ true → ⊥
        contra x = cc

-- one router's each, for all routers
each-own : (P : ℕ → WovenJournal → Type 0) (js : List WovenJournal) → ((router : ℕ) → AllByRecursion (λ (j : WovenJournal). j.router ≡ router → P router j) js) → AllByRecursion (λ (j : WovenJournal). P j.router j) js
each-own P [] all = tt
each-own P (j ∷ js) all = ((all j.router).0 refl, each-own P js (λ router. (all router).1))

pub all-ported : StepsStay → AreGoodEach → (routers : List Router) (rows : List (List ℕ)) (journals : List WovenJournal) → AreReplayed routers journals → length rows ≡ length routers → HaveAsMany routers rows → HavePortsAll rows journals
all-ported stays good routers rows journals all size many =
    each-own (λ (router : ℕ) (j : WovenJournal). IfSome (nth rows router) (λ (ports : List ℕ). HavePorts ports (entries_of j))) journals (λ router. by router (nth rows router) refl)
  where
    here : (router : ℕ) (ports : List ℕ) → nth rows router ≡ Some ports → There (nth routers router) → AllByRecursion (λ (j : WovenJournal). j.router ≡ router → HavePorts ports (entries_of j)) journals
    here router ports at r =
        of-journals (λ (es : List Entry). HavePorts ports es) router journals
        (all-have stays (in_first_boot r.item) ports (journals_of router journals)
        (length-map r.item.circuits started ∙ many router r.item ports r.there at) (good routers journals router r.item all r.there))

    none : (js : List WovenJournal) (router : ℕ) → AllByRecursion (λ (j : WovenJournal). j.router ≡ router → IfSome None (λ (ports : List ℕ). HavePorts ports (entries_of j))) js
    none [] router = tt
    none (j ∷ js) router = (λ same. tt, none js router)

    by : (router : ℕ) (o : Option (List ℕ)) → nth rows router ≡ o → AllByRecursion (λ (j : WovenJournal). j.router ≡ router → IfSome (nth rows router) (λ (ports : List ℕ). HavePorts ports (entries_of j))) journals
    by router None e = subst (λ (o : Option (List ℕ)). AllByRecursion (λ (j : WovenJournal). j.router ≡ router → IfSome o (λ (ports : List ℕ). HavePorts ports (entries_of j))) journals) (sym e) (none journals router)
    by router (Some ports) e =
        subst (λ (o : Option (List ℕ)). AllByRecursion (λ (j : WovenJournal). j.router ≡ router → IfSome o (λ (row : List ℕ). HavePorts row (entries_of j))) journals) (sym e)
        (here router ports e (there routers router (let h = within rows router ports e in omega (arith, h, size))))
