-- What holds of keys scripts with a line more.
use Rattle.std.proofs.Common.{◌≡◌, ◌∙◌, ℕ, ◌<◌, true, false, List, [], ◌∷◌, ◌++◌, length, refl, subst, ap, arith, length-append}
use Rattle.lab_keys.specs.KeysNet.{ordered}
use Rattle.lab_script.specs.declared.events.KeyEvent.{KeyEvent}
use Rattle.lab_script.specs.declared.events.KeyEvent.TheVariants.{Issue, Pass}
use Rattle.lab_script.specs.declared.events.EventLine.{EventLine}
use Rattle.std.specs.Prelude.{◌+◌, ◌==◌, ◌&&◌, nat_lt, Bool, cond}
use Rattle.std.specs.List.{AllByRecursion}
use Rattle.std.proofs.lemmas.Bool.Decides.{nat_tests}
use Rattle.lab_script.specs.Links.{has_link}
use Rattle.lab_script.specs.KeysSound.{IsInScript, IsSound}
use Rattle.lab_script.proofs.LinkLemmas.{has_link-push}

abbrev AreEnds : ℕ → List (ℕ × ℕ) → Type 0
AreEnds n links = AllByRecursion (λ link. (link.0 < n) × (link.1 < n)) links

ends-push : (n : ℕ) (links : List (ℕ × ℕ)) (link : ℕ × ℕ) → AreEnds n links → (link.0 < n) × (link.1 < n) → AreEnds n (links ++ link ∷ [])
ends-push n [] link h new = (new, tt)
ends-push n (l ∷ links) link h new = (h.0, ends-push n links link h.1 new)

ends-more : (n : ℕ) (links : List (ℕ × ℕ)) → AreEnds n links → AreEnds (n + 1) links
ends-more n [] h = tt
ends-more n (l ∷ links) h = ((omega (arith, h.0.0), omega (arith, h.0.1)), ends-more n links h.1)

pub ordered-below : (n a b : ℕ) → a < n → b < n → ((ordered a b).0 < n) × ((ordered a b).1 < n)
ordered-below n a b p q = elim (nat_lt b a) as (λ t. ((cond {A = ℕ × ℕ} t (b, a) (a, b)).0 < n) × ((cond {A = ℕ × ℕ} t (b, a) (a, b)).1 < n)) [ true ↦ (q, p) | false ↦ (p, q) ]

link-held : (links : List (ℕ × ℕ)) (link ends : ℕ × ℕ) → has_link links ends ≡ true → has_link (links ++ link ∷ []) ends ≡ true
link-held links link ends h = has_link-push links link ends ∙ ap (λ (t : Bool). cond (link.0 == ends.0 && link.1 == ends.1) true t) h ∙ always (link.0 == ends.0 && link.1 == ends.1)
  where
    always : (t : Bool) → cond t true true ≡ true
    always true = refl
    always false = refl

event-link : (n : ℕ) (links : List (ℕ × ℕ)) (link : ℕ × ℕ) (event : KeyEvent) → IsInScript n links event → IsInScript n (links ++ link ∷ []) event
event-link n links link (Issue router id key) h = h
event-link n links link (Pass copy from to) h = (h.0, h.1, link-held links link (ordered from to) h.2)

event-router : (n : ℕ) (links : List (ℕ × ℕ)) (event : KeyEvent) → IsInScript n links event → IsInScript (n + 1) links event
event-router n links (Issue router id key) h = omega arith
event-router n links (Pass copy from to) h = (omega (arith, h.0), omega (arith, h.1), h.2)

abbrev AreInScript : ℕ → List (ℕ × ℕ) → List EventLine → Type 0
AreInScript n links events = AllByRecursion (λ line. IsInScript n links line.event) events

events-link : (n : ℕ) (links : List (ℕ × ℕ)) (link : ℕ × ℕ) (events : List EventLine) → AreInScript n links events → AreInScript n (links ++ link ∷ []) events
events-link n links link [] h = tt
events-link n links link (e ∷ events) h = (event-link n links link e.event h.0, events-link n links link events h.1)

events-router : (n : ℕ) (links : List (ℕ × ℕ)) (events : List EventLine) → AreInScript n links events → AreInScript (n + 1) links events
events-router n links [] h = tt
events-router n links (e ∷ events) h = (event-router n links e.event h.0, events-router n links events h.1)

events-push : (n : ℕ) (links : List (ℕ × ℕ)) (events : List EventLine) (line : EventLine) → AreInScript n links events → IsInScript n links line.event → AreInScript n links (events ++ line ∷ [])
events-push n links [] line h new = (new, tt)
events-push n links (e ∷ events) line h new = (h.0, events-push n links events line h.1 new)

ordered-push : (links : List (ℕ × ℕ)) (link : ℕ × ℕ) → AllByRecursion (λ l. ordered l.0 l.1 ≡ l) links → ordered link.0 link.1 ≡ link → AllByRecursion (λ l. ordered l.0 l.1 ≡ l) (links ++ link ∷ [])
ordered-push [] link h new = (new, tt)
ordered-push (l ∷ links) link h new = (h.0, ordered-push links link h.1 new)

-- what is in order stays so
pub ordered-twice : (a b : ℕ) → ordered (ordered a b).0 (ordered a b).1 ≡ ordered a b
ordered-twice a b = by (nat_lt b a) refl
  where
    by : (t : Bool) → nat_lt b a ≡ t → ordered (cond {A = ℕ × ℕ} t (b, a) (a, b)).0 (cond {A = ℕ × ℕ} t (b, a) (a, b)).1 ≡ cond {A = ℕ × ℕ} t (b, a) (a, b)
    by true e = let not_less : nat_lt a b ≡ false = grind (arith, nat_tests) in ap (λ (u : Bool). cond {A = ℕ × ℕ} u (a, b) (b, a)) not_less
    by false e = ap (λ (u : Bool). cond {A = ℕ × ℕ} u (b, a) (a, b)) e

-- a router more
pub IsSound-router : (routers : List (List ℕ)) (links : List (ℕ × ℕ)) (events : List EventLine) (name : List ℕ) → IsSound (record { routers = routers; links = links; events = events }) → length routers < 1024 → IsSound (record { routers = routers ++ name ∷ []; links = links; events = events })
IsSound-router routers links events name s few =
    let n : length routers + 1 ≡ length (routers ++ name ∷ []) = omega (arith, length-append routers (name ∷ [])) in
    record {
      routers = omega arith;
      links = s.links;
      ends = subst (λ (m : ℕ). AreEnds m links) n (ends-more (length routers) links s.ends);
      ordered = s.ordered;
      events = subst (λ (m : ℕ). AreInScript m links events) n (events-router (length routers) links events s.events);
    }

-- a link more
pub IsSound-link : (routers : List (List ℕ)) (links : List (ℕ × ℕ)) (events : List EventLine) (link : ℕ × ℕ) → IsSound (record { routers = routers; links = links; events = events }) → length links < 4096 → (link.0 < length routers) × (link.1 < length routers) → ordered link.0 link.1 ≡ link → IsSound (record { routers = routers; links = links ++ link ∷ []; events = events })
IsSound-link routers links events link s few new is = record {
  routers = s.routers;
  links = omega (arith, length-append links (link ∷ []));
  ends = ends-push (length routers) links link s.ends new;
  ordered = ordered-push links link s.ordered is;
  events = events-link (length routers) links link events s.events;
}

-- an event more
pub IsSound-event : (routers : List (List ℕ)) (links : List (ℕ × ℕ)) (events : List EventLine) (line : EventLine) → IsSound (record { routers = routers; links = links; events = events }) → IsInScript (length routers) links line.event → IsSound (record { routers = routers; links = links; events = events ++ line ∷ [] })
IsSound-event routers links events line s new = record {
  routers = s.routers;
  links = s.links;
  ends = s.ends;
  ordered = s.ordered;
  events = events-push (length routers) links events line s.events new;
}
