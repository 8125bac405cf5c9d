-- A router of a list takes an event.
use Rattle.std.proofs.Common.{◌≡◌, ℕ, ◌+◌, ◌<◌, ◌==◌, ◌&&◌, Bool, true, false, if◌then◌else◌, get_or, List, [], ◌∷◌, ◌++◌, map, length, Option, Some, None, Result, Ok, Err, IfSome, IfErr, OnOk, OnErr, refl, sym, ap, ◌∙◌}
use Rattle.std.proofs.lemmas.List.{length-map}
use Rattle.model_router.specs.Places.{nth, with_nth}
use Rattle.model_router.specs.Routers.{Router, book_of}
use Rattle.model_router.specs.Events as model
use Rattle.model_router.specs.Starts.{started, start}
use Rattle.model_router.specs.Steps.{step}
use Rattle.model_router.specs.AdjacencyLaws.{place_of}
use Rattle.model_router.proofs.BondLemmas.{step-stays}
use Rattle.router_core.specs.declared.event.NodeEvent.{NodeEvent}
use Rattle.router_core.specs.declared.reply.Reply.{Reply}
use Rattle.router_core.specs.Events.{event_of}
use Rattle.router_core.specs.Givens.{given}
use Rattle.router_core.specs.Replies.{Answers}
use Rattle.std.specs.Option.{option_map}
use Rattle.model_network.specs.Networks.{restarted}
use Rattle.model_network.specs.Runs.{changes_of, boot_of, posted}
use Rattle.network_lab.specs.declared.notes.Notes.{Notes}
use Rattle.network_lab.specs.declared.sent.SentDatagram.{SentDatagram}
use Rattle.lab_keys.specs.declared.faults.LabFault.{LabFault}
use Rattle.network_lab.specs.declared.sent.Changes.{Changes}
use Rattle.network_lab.specs.declared.heard_range.HeardRange.{HeardRange}
use Rattle.network_lab.specs.LabNets.{counts_in, sent_of}
use Rattle.network_lab.specs.LabInside.{shape_of}
use Rattle.network_lab.specs.LabTakings.{is_taken, counts_at, kept_ranges, noted_in}
use Rattle.lab_facts.specs.Sweeps.{taking_at}
use Rattle.isis_base.specs.Identifiers.{lsp_number}
use Rattle.network_lab.specs.LabSteps.{posted_in, StopCause}
use Rattle.network_lab.proofs.PlaceLemmas.{nth-set, nth-map, map-with, with-same, at-place}

shape-same : {system other : ℕ} {count more : ℕ} → system ≡ other → count ≡ more → ◌≡◌ {A = ℕ × ℕ} (system, count) (other, more)
shape-same e f = λ i. (e i, f i)

pub step-kept : {R E : Type 0} (res : Result R E) (old new : Router) (ev : model.Event) → OnOk res (new ≡ (step given old ev).router) → OnErr res (new ≡ old) → shape_of new ≡ shape_of old
step-kept (Ok a) old new ev h k = ap shape_of h ∙ shape-same (step-stays given old ev).system (step-stays given old ev).circuits
step-kept (Err e) old new ev h k = ap shape_of k

pub start-kept : (old new : Router) (boot : ℕ) → new ≡ start old.config boot old.circuits → shape_of new ≡ shape_of old
start-kept old new boot h = ap shape_of h ∙ shape-same refl (length-map old.circuits started)

-- the new state and the answer of the router
abbrev Now : List Router → List Router → ℕ → NodeEvent → Router → Type 0
Now old now i event r = now ≡ with_nth old i (step given r (event_of r event)).router

abbrev Says : NodeEvent → Reply → Router → Type 0
Says event reply r = Answers (step given r (event_of r event)).router (place_of (event_of r event)) (step given r (event_of r event)).reply reply

boot-now : (old now : List Router) (i : ℕ) (event : NodeEvent) (r : Router) (boot : ℕ) → nth old i ≡ Some r → Now old now i event r → boot ≡ boot_of (nth now i) → boot ≡ (step given r (event_of r event)).router.boot
boot-now old now i event r boot q h b = b ∙ ap boot_of (ap (λ (rs : List Router). nth rs i) h ∙ nth-set old i r (step given r (event_of r event)).router q)

counts-now : (old now : List Router) (i : ℕ) (event : NodeEvent) (r : Router) (changes : Changes) → nth old i ≡ Some r → Now old now i event r → changes ≡ counts_at (nth now i) → changes ≡ counts_in (changes_of (step given r (event_of r event)).router)
counts-now old now i event r changes q h b = b ∙ ap counts_at (ap (λ (rs : List Router). nth rs i) h ∙ nth-set old i r (step given r (event_of r event)).router q)

-- a range that is kept where it was heard
pub take-keeps : {U E : Type 0} (res : Result U E) (old now : List Router) (i : ℕ) (event : NodeEvent) (reply : Reply) (range : Option HeardRange) (ts us : Notes)
    → IfSome (nth old i) (Now old now i event) → IfSome (nth old i) (Says event reply)
    → ((r : Router) (place : ℕ) (m : model.Reply) → Answers r place m reply → nth now i ≡ Some r → us ≡ noted_in range (record { router = r; reply = m }) ts)
    → OnOk res (IfSome (nth old i) (λ r. us ≡ noted_in range (step given r (event_of r event)) ts))
take-keeps (Err e) old now i event reply range ts us h k s = tt
take-keeps (Ok u) old now i event reply range ts us h k s = of (nth old i) refl h k
  where
    of : (o : Option Router) → nth old i ≡ o → IfSome o (Now old now i event) → IfSome o (Says event reply) → IfSome o (λ r. us ≡ noted_in range (step given r (event_of r event)) ts)
    of None q h k = tt
    of (Some r) q h k = s (step given r (event_of r event)).router (place_of (event_of r event)) (step given r (event_of r event)).reply k (ap (λ (rs : List Router). nth rs i) h ∙ nth-set old i r (step given r (event_of r event)).router q)

-- what was kept, by the routers as they lie in memory
pub keeps-there : (now there : List Router) (i : ℕ) (reply : Reply) (range : Option HeardRange) (ts us : Notes) → there ≡ now
    → ((r : Router) (place : ℕ) (m : model.Reply) → Answers r place m reply → nth there i ≡ Some r → us ≡ noted_in range (record { router = r; reply = m }) ts)
    → (r : Router) (place : ℕ) (m : model.Reply) → Answers r place m reply → nth now i ≡ Some r → us ≡ noted_in range (record { router = r; reply = m }) ts
keeps-there now there i reply range ts us same f r place m a at = f r place m a (ap (λ (rs : List Router). nth rs i) same ∙ at)

pub take-sends : {U E : Type 0} (res : Result U E) (old now : List Router) (i : ℕ) (link : Option ℕ) (boot : ℕ) (changes : Changes) (event : NodeEvent) (reply : Reply) (sent new : List SentDatagram)
    → IfSome (nth old i) (Now old now i event) → IfSome (nth old i) (Says event reply) → boot ≡ boot_of (nth now i) → changes ≡ counts_at (nth now i)
    → OnOk res ((r : Router) (place : ℕ) (m : model.Reply) → Answers r place m reply → boot ≡ r.boot → changes ≡ counts_in (changes_of r) → new ≡ sent ++ map sent_of (posted i link r place m))
    → OnOk res (IfSome (nth old i) (λ r. new ≡ sent ++ posted_in i link (event_of r event) r))
take-sends (Err e) old now i link boot changes event reply sent new h k b v s = tt
take-sends (Ok u) old now i link boot changes event reply sent new h k b v s = of (nth old i) refl h k
  where
    of : (o : Option Router) → nth old i ≡ o → IfSome o (Now old now i event) → IfSome o (Says event reply) → IfSome o (λ r. new ≡ sent ++ posted_in i link (event_of r event) r)
    of None q h k = tt
    of (Some r) q h k = s (step given r (event_of r event)).router (place_of (event_of r event)) (step given r (event_of r event)).reply k (boot-now old now i event r boot q h b) (counts-now old now i event r changes q h v)

pub take-stops : {U : Type 0} (res : Result U LabFault) (old now : List Router) (i : ℕ) (link : Option ℕ) (boot : ℕ) (changes : Changes) (event : NodeEvent) (reply : Reply) (sent new : List SentDatagram)
    → IfSome (nth old i) (Now old now i event) → IfSome (nth old i) (Says event reply) → boot ≡ boot_of (nth now i) → changes ≡ counts_at (nth now i)
    → IfErr res (λ fault. (r : Router) (place : ℕ) (m : model.Reply) → Answers r place m reply → boot ≡ r.boot → changes ≡ counts_in (changes_of r) → StopCause (sent ++ map sent_of (posted i link r place m)) new fault)
    → IfErr res (λ fault. IfSome (nth old i) (λ r. StopCause (sent ++ posted_in i link (event_of r event) r) new fault))
take-stops (Ok u) old now i link boot changes event reply sent new h k b v s = tt
take-stops (Err f) old now i link boot changes event reply sent new h k b v s = of (nth old i) refl h k
  where
    of : (o : Option Router) → nth old i ≡ o → IfSome o (Now old now i event) → IfSome o (Says event reply) → IfSome o (λ r. StopCause (sent ++ posted_in i link (event_of r event) r) new f)
    of None q h k = tt
    of (Some r) q h k = s (step given r (event_of r event)).router (place_of (event_of r event)) (step given r (event_of r event)).reply k (boot-now old now i event r boot q h b) (counts-now old now i event r changes q h v)

-- ---- a router restarts

pub counts-with : {A B : Type 0} (f : A → B) (xs : List A) (i : ℕ) (x y : A) → nth xs i ≡ Some x → f y ≡ f x → map f (with_nth xs i y) ≡ map f xs
counts-with f xs i x y e same = map-with f xs i y ∙ with-same (map f xs) i (f y) (nth-map f xs i ∙ (ap (option_map f) e ∙ ap Some (sym same)))

pub restart-state : (rs : List Router) (i : ℕ) (x fresh : Router) (boot : ℕ) → i < length rs → x ≡ get_or rs i x → fresh ≡ start x.config boot x.circuits → boot ≡ x.boot + 1 → IfSome (nth rs i) (λ r. with_nth rs i fresh ≡ with_nth rs i (restarted r))
restart-state rs i x fresh boot h e is at = at-place (λ r. with_nth rs i fresh ≡ with_nth rs i (restarted r)) rs i x h e (ap (with_nth rs i) (is ∙ ap (λ (b : ℕ). start x.config b x.circuits) at))

-- ---- a range that a router heard

pub kept-yes : (range : HeardRange) (r : Router) (m : model.Reply) (b : Bool) → b ≡ (is_taken m && (book_of r range.key.level).changes == range.key.changes) → b ≡ true
    → kept_ranges (Some range) (record { router = r; reply = m }) ≡ taking_at range.key (lsp_number range.first) (lsp_number range.last) ∷ []
kept-yes range r m b e t = ap (λ (x : Bool). if x then taking_at range.key (lsp_number range.first) (lsp_number range.last) ∷ [] else []) (sym e ∙ t)

pub kept-no : (range : HeardRange) (r : Router) (m : model.Reply) (b : Bool) → b ≡ (is_taken m && (book_of r range.key.level).changes == range.key.changes) → b ≡ false
    → kept_ranges (Some range) (record { router = r; reply = m }) ≡ []
kept-no range r m b e t = ap (λ (x : Bool). if x then taking_at range.key (lsp_number range.first) (lsp_number range.last) ∷ [] else []) (sym e ∙ t)
