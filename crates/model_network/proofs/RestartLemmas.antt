-- What is kept of a link when one of its ends restarts.
use Rattle.std.proofs.Common.{◌≡◌, ℕ, zero, suc, ◌+◌, ◌≤◌, List, [], ◌∷◌, map, Some, refl, sym, ap, ◌∙◌, subst, arith, le_trans}
use Rattle.isis_base.specs.declared.level.Level.{Level}
use Rattle.isis_base.specs.declared.level.Level.TheVariants as level
use Rattle.model_router.specs.Places.{nth}
use Rattle.model_router.specs.Routers.{Circuit, Router, book_of}
use Rattle.model_router.specs.AdjacencyLaws.{is_point}
use Rattle.model_router.specs.Sorted.{RisesFrom}
use Rattle.model_router.specs.AdjacencyLaws.{no_bond, Tie, no_tie, tie_of, tie_at}
use Rattle.model_router.specs.Starts.{started}
use Rattle.model_router.proofs.StartLemmas.{start-follows}
use Rattle.model_network.specs.Networks.{Datagram, restarted}
use Rattle.model_network.specs.Ports.{Port, name_of, Hellos}
use Rattle.model_network.specs.Links.{IsSound, EndHolds}
use Rattle.model_network.proofs.PortLemmas.{keeps-past, hellos-anew, hellos-later}

pub quiet-tie : (cs : List Circuit) (place : ℕ) → tie_of (nth (map started cs) place) ≡ no_tie
quiet-tie [] place = refl
quiet-tie (c ∷ cs) zero = refl
quiet-tie (c ∷ cs) (suc place) = quiet-tie cs place

pub quiet-point : (cs : List Circuit) (place : ℕ) → is_point (nth (map started cs) place) ≡ is_point (nth cs place)
quiet-point [] place = refl
quiet-point (c ∷ cs) zero = refl
quiet-point (c ∷ cs) (suc place) = quiet-point cs place

restart-sound : (e : Port) (a : Router) → IsSound e a → IsSound e (restarted a)
restart-sound e a s = record {
  system = s.system;
  touch = start-follows a.config (a.boot + 1) a.circuits;
  sorted = record { on = sorted-in };
  point = quiet-point a.circuits e.place ∙ s.point;
}
  where
    sorted-in : (l : Level) → RisesFrom 0 (book_of (restarted a) l).cells
    sorted-in level.One = tt
    sorted-in level.Two = tt

no-later : (n b : ℕ) → n ≤ b → n ≡ b + 1 → ⊥
no-later n b l e = omega (arith, l, e)

up-one : (n : ℕ) → n ≤ n + 1
up-one n = omega arith

pub restart-near : (e : Port) (a : Router) (f : Port) (b : Router) (k : ℕ) (ds : List Datagram) → EndHolds e a f b k ds → EndHolds e (restarted a) f b k ds
restart-near e a f b k ds h = record {
  sound = restart-sound e a h.sound;
  hellos = subst (λ (m : Tie). Hellos e (a.boot + 1) m f b.boot k ds) (sym (quiet-tie a.circuits e.place))
      (hellos-anew e a.boot (a.boot + 1) (tie_at a e.place) f b.boot k ds (λ d i q x. no-later d.boot a.boot (h.sent.boot d i q) x) h.hellos);
  sent = record {
    system = h.sent.system;
    boot = λ d i q. le_trans (h.sent.boot d i q) (up-one a.boot);
    held = λ d i q x. absurd (no-later d.boot a.boot (h.sent.boot d i q) x);
    legible = h.sent.legible;
    point = h.sent.point;
  };
  standing = record { stands = λ names l id kept_a kept_b. absurd (let none : no_bond.names ≡ Some (name_of f b.boot) = sym (ap (λ (m : Tie). m.bond.names) (quiet-tie a.circuits e.place)) ∙ names in cc) };
}

pub restart-far : (e : Port) (a : Router) (f : Port) (b : Router) (k : ℕ) (ds : List Datagram) → EndHolds f b e a k ds → EndHolds f b e (restarted a) k ds
restart-far e a f b k ds h = record {
  sound = h.sound;
  hellos = hellos-later f b.boot (tie_at b f.place) e a.boot (a.boot + 1) k ds (up-one a.boot) h.hellos;
  sent = h.sent;
  standing = record { stands = λ names l id kept_b kept_a. absurd (no-later (a.boot + 1) a.boot (keeps-past f b.boot (tie_at b f.place) e a.boot k ds h.hellos (a.boot + 1) names) refl) };
}
