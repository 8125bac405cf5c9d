-- What holds of scripts with a line more, and of networks that are laid out as they say.
use Rattle.std.proofs.Common.{◌≡◌, ◌∙◌, ℕ, zero, suc, ◌<◌, true, List, [], ◌∷◌, ◌++◌, length, get_or, sym, subst, arith}
use Rattle.lab_keys.specs.KeysNet.{Net, with_router, with_link, has_pair, ordered}
use Rattle.lab_keys.proofs.PairLemmas.{has_pair-kept}
use Rattle.lab_script.specs.declared.events.KeyEvent.{KeyEvent}
use Rattle.lab_script.specs.declared.events.KeyEvent.TheVariants.{Issue, Pass}
use Rattle.lab_script.specs.declared.events.EventLine.{EventLine}
use Rattle.lab_text.specs.KeysInNet.{IsInNet, AreInNet, IsLaidOut}

router-kept : (net : Net) (event : KeyEvent) → IsInNet net event → IsInNet (with_router net) event
router-kept net (Issue router id key) h = omega arith
router-kept net (Pass copy from to) h = (omega (arith, h.0), omega (arith, h.1), h.2)

link-kept : (net : Net) (a b : ℕ) (event : KeyEvent) → IsInNet net event → IsInNet (with_link net a b) event
link-kept net a b (Issue router id key) h = h
link-kept net a b (Pass copy from to) h = (h.0, h.1, has_pair-kept net.linked (ordered a b).0 (ordered a b).1 (ordered from to).0 (ordered from to).1 h.2)

-- a router more
pub AreInNet-router : (net : Net) (events : List EventLine) → AreInNet net events → AreInNet (with_router net) events
AreInNet-router net [] h = tt
AreInNet-router net (told ∷ events) h = (router-kept net told.event h.0, AreInNet-router net events h.1)

-- a link more
pub AreInNet-link : (net : Net) (a b : ℕ) (events : List EventLine) → AreInNet net events → AreInNet (with_link net a b) events
AreInNet-link net a b [] h = tt
AreInNet-link net a b (told ∷ events) h = (link-kept net a b told.event h.0, AreInNet-link net a b events h.1)

-- an event more
pub AreInNet-push : (net : Net) (events : List EventLine) (told : EventLine) → AreInNet net events → IsInNet net told.event → AreInNet net (events ++ told ∷ [])
AreInNet-push net [] told h new = (new, tt)
AreInNet-push net (t ∷ events) told h new = (h.0, AreInNet-push net events told h.1 new)

laid-kept : (old new : Net) (event : KeyEvent) → IsLaidOut old new → IsInNet old event → IsInNet new event
laid-kept old new (Issue router id key) same h = let r = same.routers in omega arith
laid-kept old new (Pass copy from to) same h =
    let r = same.routers in
    (omega (arith, h.0), omega (arith, h.1), subst (λ (pairs : List (ℕ × ℕ)). has_pair pairs (ordered from to).0 (ordered from to).1 ≡ true) (sym same.linked) h.2)

-- the same routers and links
pub AreInNet-laid : (old new : Net) (events : List EventLine) → IsLaidOut old new → AreInNet old events → AreInNet new events
AreInNet-laid old new [] same h = tt
AreInNet-laid old new (told ∷ events) same h = (laid-kept old new told.event same h.0, AreInNet-laid old new events same h.1)

-- the event at a place
pub AreInNet-at : (net : Net) (events : List EventLine) (i : ℕ) (told : EventLine) → AreInNet net events → i < length events → told ≡ get_or events i told → IsInNet net told.event
AreInNet-at net [] i told h lt e = absurd (omega arith)
AreInNet-at net (t ∷ events) zero told h lt e = subst (λ (x : EventLine). IsInNet net x.event) (sym e) h.0
AreInNet-at net (t ∷ events) (suc i) told h lt e = AreInNet-at net events i told h.1 (omega arith) e

pub IsLaidOut-trans : (a b c : Net) → IsLaidOut a b → IsLaidOut b c → IsLaidOut a c
IsLaidOut-trans a b c p q = record { routers = q.routers ∙ p.routers; linked = q.linked ∙ p.linked }

-- ---- a line more of a script
