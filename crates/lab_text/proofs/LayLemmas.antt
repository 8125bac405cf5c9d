-- A network laid out as a script says.
use Rattle.std.proofs.Common.{◌≡◌, ◌∙◌, ℕ, zero, suc, ◌+◌, ◌<◌, true, List, [], ◌∷◌, ◌++◌, length, get_or, inl, inr, refl, sym, ap, subst, arith}
use Rattle.std.specs.Prelude.{◌==◌, ◌&&◌}
use Rattle.std.specs.Borrow.{Bor}
use Rattle.std.specs.List.{AllByRecursion}
use Rattle.std.proofs.lemmas.Bool.{eqb-true, and_parts, or_cases}
use Rattle.lab_keys.specs.KeysNet.{Net, with_link, has_pair, ordered}
use Rattle.lab_keys.proofs.PairLemmas.{has_pair-new, has_pair-kept}
use Rattle.lab_script.specs.declared.events.EventLine.{EventLine}
use Rattle.lab_script.specs.declared.events.KeyEvent.{KeyEvent}
use Rattle.lab_script.specs.declared.events.KeyEvent.TheVariants.{Issue, Pass}
use Rattle.lab_script.specs.Links.{has_link}
use Rattle.line_cuts.specs.Words.{texts}
use Rattle.lab_script.proofs.NameLemmas.{length-texts}
use Rattle.lab_script.specs.KeysJudged.{KeysScript}
use Rattle.lab_text.specs.KeysRuns.{routers_only, with_links, laid_out}
use Rattle.lab_text.specs.KeysInNet.{IsInNet, AreInNet}
use Rattle.lab_script.specs.KeysSound.{IsInScript, IsSound}

-- links add no router
pub with_links-routers : (net : Net) (links : List (ℕ × ℕ)) → (with_links net links).routers ≡ net.routers
with_links-routers net [] = refl
with_links-routers net (link ∷ links) = with_links-routers (with_link net link.0 link.1) links

-- each link counts
pub with_links-count : (net : Net) (links : List (ℕ × ℕ)) → (with_links net links).links ≡ net.links + length links
with_links-count net [] = omega arith
with_links-count net (link ∷ links) = with_links-count (with_link net link.0 link.1) links ∙ omega arith

-- a link more at the end
pub with_links-push : (net : Net) (links : List (ℕ × ℕ)) (link : ℕ × ℕ) → with_links net (links ++ link ∷ []) ≡ with_link (with_links net links) link.0 link.1
with_links-push net [] link = refl
with_links-push net (l ∷ links) link = with_links-push (with_link net l.0 l.1) links link

-- what is joined stays joined
joined-kept : (net : Net) (links : List (ℕ × ℕ)) (a b : ℕ) → has_pair net.linked a b ≡ true → has_pair (with_links net links).linked a b ≡ true
joined-kept net [] a b h = h
joined-kept net (link ∷ links) a b h = joined-kept (with_link net link.0 link.1) links a b (has_pair-kept net.linked (ordered link.0 link.1).0 (ordered link.0 link.1).1 a b h)

-- the ends of a link are in order
abbrev pub AreOrdered : List (ℕ × ℕ) → Type 0
AreOrdered links = AllByRecursion (λ link. ordered link.0 link.1 ≡ link) links

joined-new : (net : Net) (link ends : ℕ × ℕ) (links : List (ℕ × ℕ)) → ordered link.0 link.1 ≡ link → (link.0 == ends.0 && link.1 == ends.1) ≡ true → has_pair (with_links (with_link net link.0 link.1) links).linked ends.0 ends.1 ≡ true
joined-new net link ends links is same =
    let parts = and_parts (link.0 == ends.0) (link.1 == ends.1) same in
    let first : link.0 ≡ ends.0 = eqb-true link.0 ends.0 parts.0 in
    let second : link.1 ≡ ends.1 = eqb-true link.1 ends.1 parts.1 in
    let new : has_pair (with_link net link.0 link.1).linked (ordered link.0 link.1).0 (ordered link.0 link.1).1 ≡ true = has_pair-new net.linked (ordered link.0 link.1).0 (ordered link.0 link.1).1 in
    let at : has_pair (with_link net link.0 link.1).linked ends.0 ends.1 ≡ true =
    sym (ap (λ (e : ℕ × ℕ). has_pair (with_link net link.0 link.1).linked e.0 e.1) is ∙ ap (λ (a : ℕ). has_pair (with_link net link.0 link.1).linked a link.1) first ∙ ap (λ (b : ℕ). has_pair (with_link net link.0 link.1).linked ends.0 b) second) ∙ new in
    joined-kept (with_link net link.0 link.1) links ends.0 ends.1 at

-- a link of the script joins its ends in the network
pub has_link-joined : (net : Net) (links : List (ℕ × ℕ)) (ends : ℕ × ℕ) → AreOrdered links → has_link links ends ≡ true → has_pair (with_links net links).linked ends.0 ends.1 ≡ true
has_link-joined net [] ends o h = cc
has_link-joined net (link ∷ links) ends o h =
    elim (or_cases (link.0 == ends.0 && link.1 == ends.1) (has_link links ends) h) [
      | inl here ↦ joined-new net link ends links o.0 here
      | inr there ↦ has_link-joined (with_link net link.0 link.1) links ends o.1 there
    ]

in-net : (n : ℕ) (links : List (ℕ × ℕ)) (event : KeyEvent) → AreOrdered links → IsInScript n links event → IsInNet (with_links (routers_only n) links) event
in-net n links (Issue router id key) o h = subst (λ (m : ℕ). router < m) (sym (with_links-routers (routers_only n) links)) h
in-net n links (Pass copy from to) o h =
    let at = with_links-routers (routers_only n) links in (
      subst (λ (m : ℕ). from < m) (sym at) h.0,
      subst (λ (m : ℕ). to < m) (sym at) h.1,
      has_link-joined (routers_only n) links (ordered from to) o h.2,
    )

events-in-net : (n : ℕ) (links : List (ℕ × ℕ)) (events : List EventLine) → AreOrdered links → AllByRecursion (λ line. IsInScript n links line.event) events → AreInNet (with_links (routers_only n) links) events
events-in-net n links [] o h = tt
events-in-net n links (e ∷ events) o h = (in-net n links e.event o h.0, events-in-net n links events o h.1)

-- the events of a script are in its network
pub laid_out-sound : (script : KeysScript) → IsSound script → AreInNet (laid_out script) script.events
laid_out-sound script s = events-in-net (length script.routers) script.links script.events s.ordered s.events

-- the ends of the link at a place
pub ends-at : (n : ℕ) (links : List (ℕ × ℕ)) (i : ℕ) (d : ℕ × ℕ) → AllByRecursion (λ link. (link.0 < n) × (link.1 < n)) links → i < length links → ((get_or links i d).0 < n) × ((get_or links i d).1 < n)
ends-at n [] i d h lt = absurd (omega arith)
ends-at n (l ∷ links) zero d h lt = h.0
ends-at n (l ∷ links) (suc i) d h lt = ends-at n links i d h.1 (omega arith)

-- a network laid out by a script's own names and links
pub laid-as : (script : KeysScript) (names : List (Bor (List ℕ))) (links : List (ℕ × ℕ)) → texts names ≡ script.routers → links ≡ script.links → with_links (routers_only (length names)) links ≡ laid_out script
laid-as script names links named linked =
    ap (λ (k : ℕ). with_links (routers_only k) links) (sym (length-texts names) ∙ ap length named)
    ∙ ap (with_links (routers_only (length script.routers))) linked
