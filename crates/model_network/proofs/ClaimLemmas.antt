-- What is claimed of a link follows from what is kept of it.
use Rattle.std.proofs.Common.{◌≡◌, ℕ, ◌<◌, ◌≤◌, Bool, true, false, not, ◌&&◌, ⊎_elim, List, [], Option, Some, None, if◌then◌else◌, refl, sym, ap, ◌∙◌, subst, arith}
use Rattle.std.proofs.lemmas.Bool.{cases_lt}
use Rattle.isis_tlv.specs.declared.three_way.Adj.{Adj}
use Rattle.isis_tlv.specs.declared.three_way.Adj.TheVariants.{Up, Initializing, Down}
use Rattle.isis_base.specs.declared.level.Level.{Level}
use Rattle.model_router.specs.Places.{nth}
use Rattle.model_router.specs.Adjacencies.{is_up, point_open}
use Rattle.model_router.specs.Both.{at}
use Rattle.model_router.specs.Routers.{Circuit, Router, some_up}
use Rattle.model_router.specs.AdjacencyLaws.{opens, is_point}
use Rattle.model_router.specs.AdjacencyLaws.{no_bond, bond_of, bond_at, Tie, tie_at}
use Rattle.model_router.specs.Books.{risen}
use Rattle.model_router.specs.Givens.{Given}
use Rattle.model_network.specs.Networks.{Datagram, Network, place_at}
use Rattle.model_network.specs.Runs.{arrive_at, inject_at, Happening, Tick, PullOn, Deliver, Restart, SetMetric, SetOverload, SetPrefix, Inject, apply}
use Rattle.model_network.specs.Ports.{Port, name_of, Hellos}
use Rattle.model_network.specs.Links.{IsSound, EndHolds, LinkHolds, Holds, IsUp, Claim, Standing}
use Rattle.model_router.specs.Flooding.{Stands}
use Rattle.model_network.specs.Starts.{IsOpening, Opens}
use Rattle.model_network.proofs.PortLemmas.{no-bond, keeps-boot, recalled}
use Rattle.model_network.proofs.ChangeLemmas.{Change, Still, Moved, Restarted, apply-change}

-- ---- the handshake

up-state : (state : Adj) (t : Bool) → (is_up state && t) ≡ true → state ≡ Up
up-state Up t e = refl
up-state Initializing t e = absurd (cc)
up-state Down t e = absurd (cc)

up-bond : (o : Option Circuit) (l : Level) → is_point o ≡ true → opens o l ≡ true → (bond_of o).state ≡ Up
up-bond None l p e = absurd (cc)
up-bond (Some c) l p e = on-point c.lan refl
  where
    on-point : (t : Bool) → c.lan ≡ t → c.point.state ≡ Up
    on-point true q = absurd (let n : not true ≡ true = sym (ap not q) ∙ p in cc)
    on-point false q = up-state c.point.state _ (sym (ap (λ (t : Bool). if t then some_up (at c.levels l).heard else point_open c.point l) q) ∙ e)

-- two boots that are told, each at most what was, and not both less
meet : (d y g x : ℕ) → d ≤ y → g ≤ x → (g < x → d < y → ⊥) → (g ≡ x → y ≤ d) → (d ≡ y → x ≤ g) → (d ≡ y) × (g ≡ x)
meet d y g x dy gx cross one two = ⊎_elim
    (λ (l : g < x). ⊎_elim (λ (m : d < y). absurd (cross l m)) (λ (m : y ≤ d). let e : d ≡ y = omega (arith, m, dy) in let k = two e in (e, omega (arith, k, gx))) (cases_lt d y))
    (λ (m : x ≤ g). let e : g ≡ x = omega (arith, m, gx) in let k = one e in (omega (arith, k, dy), e)) (cases_lt g x)

-- a circuit that is up is open and point-to-point
stand : (e : Port) (a b : Router) (l : Level) (id : ℕ) → IsSound e a → opens (nth a.circuits e.place) l ≡ true → Stands a e.place b l id → Standing a e.place b l id
stand e a b l id sound up s = s (sound.touch.opened l e.place ∙ up) (sound.touch.points l e.place ∙ sound.point)

pub link-claim : (e f : Port) (k : ℕ) (a b : Router) (ds : List Datagram) (l : Level) → LinkHolds e f k a b ds → IsUp e a f b l → Claim e a f b l
link-claim e f k a b ds l h up =
    let ua = up-bond (nth a.circuits e.place) l h.near.sound.point up.near in
    let ub = up-bond (nth b.circuits f.place) l h.far.sound.point up.far in
    let p = h.near.hellos.reason ua in
    let q = h.far.hellos.reason ub in
    let d = p.hello in
    let g = q.hello in
    let met = meet d.boot b.boot g.boot a.boot (h.far.sent.boot d p.was_sent p.hails.sender) (h.near.sent.boot g q.was_sent q.hails.sender)
    (λ x y. h.uncrossed.none g d q.state p.state q.extended p.extended b.boot a.boot q.was_sent p.was_sent q.hails p.hails x y)
    (λ x. recalled e a.boot (tie_at a e.place) f b.boot k ds h.near.hellos b.boot d.boot ((h.near.hellos.named g q.state q.extended (Some (name_of f b.boot)) q.was_sent q.hails).kept b.boot x refl) p.keeps)
    (λ x. recalled f b.boot (tie_at b f.place) e a.boot k ds h.far.hellos a.boot g.boot ((h.far.hellos.named d p.state p.extended (Some (name_of e a.boot)) p.was_sent p.hails).kept a.boot x refl) q.keeps) in
    let near : (bond_at a e.place).names ≡ Some (name_of f b.boot) = p.keeps ∙ ap (λ (n : ℕ). Some (name_of f n)) met.0 in
    let far : (bond_at b f.place).names ≡ Some (name_of e a.boot) = q.keeps ∙ ap (λ (n : ℕ). Some (name_of e n)) met.1 in
    record {
      near = record { up = ua; names = near; boot = keeps-boot e a.boot (tie_at a e.place) f b.boot k ds h.near.hellos b.boot near };
      far = record { up = ub; names = far; boot = keeps-boot f b.boot (tie_at b f.place) e a.boot k ds h.far.hellos a.boot far };
      there = λ id x y. stand e a b l id h.near.sound up.near (h.near.standing.stands near l id x y);
      back = λ id x y. stand f b a l id h.far.sound up.far (h.far.standing.stands far l id y x);
    }

-- ---- the start

opening-holds : (e f : Port) (k : ℕ) (a b : Router) → IsOpening e a → EndHolds e a f b k []
opening-holds e f k a b o = record {
  sound = o.sound;
  hellos = subst (λ (m : Tie). Hellos e a.boot m f b.boot k []) (sym o.alone) (record {
    bond = no-bond;
    kept = λ n x. absurd (cc);
    past = λ boot x. absurd (cc);
    named = λ d s p n i hail. absurd i;
    reason = λ up. absurd (cc);
  });
  sent = record { system = λ d i q. absurd i; boot = λ d i q. absurd i; held = λ d i q x. absurd i; legible = λ d i q x. absurd i; point = λ d i q x. absurd i };
  standing = record { stands = λ names l id x y. absurd (let none : no_bond.names ≡ Some (name_of f b.boot) = sym (ap (λ (m : Tie). m.bond.names) o.alone) ∙ names in cc) };
}

pub start-holds : (net : Network) (e f : Port) (k : ℕ) → Opens net e f → Holds net e f k
start-holds net e f k s = record {
  a = s.a;
  b = s.b;
  at_a = s.at_a;
  at_b = s.at_b;
  holds = subst (λ (ds : List Datagram). LinkHolds e f k s.a s.b ds) (sym s.nothing) (record {
    near = opening-holds e f k s.a s.b s.near;
    far = opening-holds f e k s.b s.a s.far;
    uncrossed = record { none = λ d g x y p q z u i j m n r t. absurd i };
    ends = λ d i q. absurd i;
  });
}

-- ---- an event leaves the links

change-links : (given : Given) (net new : Network) → Change given net new → new.links ≡ net.links
change-links given net new (Still _) = refl
change-links given net new (Moved i link event r ts m _) = refl
change-links given net new (Restarted i r q) = refl

arrive-links : (given : Given) (net : Network) (i link place : ℕ) (octets : List ℕ) (o : Option Router) → (arrive_at given net i link place octets o).links ≡ net.links
arrive-links given net i link place octets None = refl
arrive-links given net i link place octets (Some r) = refl

inject-links : (given : Given) (net : Network) (i link : ℕ) (octets : List ℕ) (o : Option ℕ) → (inject_at given net i link octets o).links ≡ net.links
inject-links given net i link octets None = refl
inject-links given net i link octets (Some place) = arrive-links given (record net { injected = risen net.injected }) i link place octets (nth net.routers i)

pub apply-links : (given : Given) (net : Network) (h : Happening) → (apply given net h).links ≡ net.links
unfolding apply
apply-links given net (Inject i link octets) = inject-links given net i link octets (place_at net link i)
apply-links given net (Tick i) = change-links given net _ (apply-change given net (Tick i) refl)
apply-links given net (PullOn i link) = change-links given net _ (apply-change given net (PullOn i link) refl)
apply-links given net (Deliver n i) = change-links given net _ (apply-change given net (Deliver n i) refl)
apply-links given net (Restart i) = change-links given net _ (apply-change given net (Restart i) refl)
apply-links given net (SetMetric i place metric) = change-links given net _ (apply-change given net (SetMetric i place metric) refl)
apply-links given net (SetOverload i on) = change-links given net _ (apply-change given net (SetOverload i on) refl)
apply-links given net (SetPrefix i prefix metric) = change-links given net _ (apply-change given net (SetPrefix i prefix metric) refl)
