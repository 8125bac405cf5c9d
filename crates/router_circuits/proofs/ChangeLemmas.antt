-- What became of adjacencies, and what the model says comes of it.
use Rattle.std.proofs.Common.{◌≡◌, ℕ, Bool, true, false, not, ◌&&◌, ◌||◌, nat_le, nat_lt, eqb, map, ◌==◌, if◌then◌else◌, List, [], ◌∷◌, Option, Some, None, IfSome, IfOk, Result, Ok, IsSome, refl, sym, ap, subst, ◌∙◌, arith}
use Rattle.std.specs.List.{list_any}
use Rattle.std.proofs.lemmas.Bool.Decides.{nat_tests}
use Rattle.model_router.specs.Adjacencies as model
use Rattle.model_router.specs.Both.{Both, same_flag}
use Rattle.model_router.specs.Routers.{LanNeighbour, Circuit}
use Rattle.model_router.specs.Hellos.{is_moved, comes_up, minded, seen_so, point_circuit}
use Rattle.model_router.specs.Maps.{put}
use Rattle.model_router.proofs.BookLemmas.{choose}
use Rattle.model_router.specs.Seconds as seconds
use Rattle.isis_tlv.specs.declared.three_way.Adj.TheVariants.{Up, Initializing, Down}
use Rattle.adjacency.specs.declared.held.Held.{Held}
use Rattle.adjacency.specs.declared.held.Held.TheVariants as held
use Rattle.adjacency.specs.Views.{point_of, shake_of, shakes_of}
use Rattle.adjacency.specs.declared.hello.AdjChange.TheVariants as change
use Rattle.isis_tlv.specs.declared.three_way.Adj.{Adj}
use Rattle.adjacency.specs.Changes.{change_of}
use Rattle.adjacency.specs.declared.neighbour.Neighbour.{Neighbour}
use Rattle.adjacency.specs.Lans.{hear_lan, lan_change_of, lan_less_change, neighbours, some_up_over}
use Rattle.adjacency.specs.declared.hello.AdjChange.{AdjChange}
use Rattle.adjacency.specs.Views as views
use Rattle.isis_tlv.specs.declared.three_way.ThreeWay.{ThreeWay}
use Rattle.isis_base.specs.declared.level.Level.{Level}
use Rattle.isis_base.specs.declared.level.Level.TheVariants as level
use Rattle.model_router.specs.Configs.{Config}
use Rattle.model_router.specs.HelloTests.{hello_drop, shake_drop, full_drop, point_drop, lan_drop}
use Rattle.model_router.specs.Drops.{or_else}
use Rattle.model_router.specs.declared.drop_name.DropName.{DropName}
use Rattle.model_router.specs.declared.drop_name.DropName.TheVariants.{NoThreeWay}
use Rattle.router_circuits.specs.declared.greeted.Greeted.{Greeted}
use Rattle.router_circuits.specs.Hellos.{IsGreeted, IsAlike, is_change, is_coming_up, is_one, with_due}
use Rattle.router_circuits.specs.declared.medium.Medium.{Medium}
use Rattle.router_circuits.specs.declared.medium.Medium.TheVariants as medium
use Rattle.router_circuits.specs.declared.timers.Timers.{Timers}
use Rattle.router_circuits.specs.Views.{AllSized, IsSized, is_lan, point_in, heard_in, level_in, levels_in}

-- ---- seconds

pub point-second : (old : Held) → is_change (change_of (point_of old) (seconds.point_less (point_of old)) true) ≡ seconds.point_over (point_of old).neighbour
point-second held.Down = refl
point-second (held.Initializing n) = grind (arith, nat_tests)
point-second (held.Up n) = grind (arith, nat_tests)

up-over : (heard : List (ℕ × LanNeighbour)) → some_up_over heard ≡ true → seconds.some_over heard ≡ true
up-over [] e = e
up-over (p ∷ heard) e = grind (arith, nat_tests, e, up-over heard)

pub lan-second : (heard : List (ℕ × LanNeighbour)) → is_change (lan_less_change heard) ≡ seconds.some_over heard
lan-second heard = grind (arith, nat_tests, up-over heard)

pub over-seen : (ns : List Neighbour) (heard : List (ℕ × LanNeighbour)) → map views.neighbour_of ns ≡ neighbours heard → list_any (λ (n : Neighbour). nat_le n.left 1) ns ≡ seconds.some_over heard
over-seen ns heard e = sym (seen ns) ∙ ap (λ (xs : List model.Neighbour). list_any seconds.is_over xs) e ∙ shown heard where
  seen : (ns : List Neighbour) → list_any seconds.is_over (map views.neighbour_of ns) ≡ list_any (λ (n : Neighbour). nat_le n.left 1) ns
  seen [] = refl
  seen (n ∷ ns) = ap (λ (b : Bool). nat_le n.left 1 || b) (seen ns)

  shown : (heard : List (ℕ × LanNeighbour)) → list_any seconds.is_over (neighbours heard) ≡ seconds.some_over heard
  shown [] = refl
  shown (p ∷ heard) = ap (λ (b : Bool). seconds.is_over p.1.neighbour || b) (shown heard)

less-size : (n : model.Neighbour) → IsSized n → IsSized (seconds.held_less n)
less-size n s = record {
  system = s.system;
  snpa = s.snpa;
  extended = s.extended;
  priority = s.priority;
  lan = s.lan;
  left = let h = s.left in omega (arith, h);
}

pub less-sizes : (heard : List (ℕ × LanNeighbour)) → AllSized heard → AllSized (seconds.heard_less heard)
less-sizes [] s = tt
less-sizes (p ∷ heard) s = by (seconds.is_over p.1.neighbour) (less-sizes heard s.1) where
  by : (t : Bool) → AllSized (seconds.heard_less heard) → AllSized (if t then seconds.heard_less heard else (p.0, record p.1 { neighbour = seconds.held_less p.1.neighbour }) ∷ seconds.heard_less heard)
  by true rest = rest
  by false rest = (less-size p.1.neighbour s.0, rest)

-- ---- hellos

-- something becomes of a point-to-point adjacency exactly where it moved
pub moved : (old new : Held) (same : Bool) → is_change (change_of (point_of old) (point_of new) same) ≡ is_moved (point_of old) (point_of new) same
moved held.Down held.Down true = refl
moved held.Down held.Down false = refl
moved held.Down (held.Initializing n) true = refl
moved held.Down (held.Initializing n) false = refl
moved held.Down (held.Up n) true = refl
moved held.Down (held.Up n) false = refl
moved (held.Initializing m) held.Down true = refl
moved (held.Initializing m) held.Down false = refl
moved (held.Initializing m) (held.Initializing n) true = refl
moved (held.Initializing m) (held.Initializing n) false = refl
moved (held.Initializing m) (held.Up n) true = refl
moved (held.Initializing m) (held.Up n) false = refl
moved (held.Up m) held.Down true = refl
moved (held.Up m) held.Down false = refl
moved (held.Up m) (held.Initializing n) true = refl
moved (held.Up m) (held.Initializing n) false = refl
moved (held.Up m) (held.Up n) true = refl
moved (held.Up m) (held.Up n) false = refl

-- a LAN hello makes one's own due exactly where something becomes of its neighbour
pub seen : (before : Option LanNeighbour) (boot : ℕ) (up : Bool) → is_change (lan_change_of before boot up) ≡ not (seen_so before boot up)
seen None boot true = refl
seen None boot false = refl
seen (Some n) boot up = by n.up up (n.neighbour.boot == boot) where
  by : (a b same : Bool) → is_change (if b && not a then change.WentUp else (if a && not b then change.LeftUp else (if same then change.None else change.Moved))) ≡ not (same && same_flag a b)
  by true true true = refl
  by true true false = refl
  by true false true = refl
  by true false false = refl
  by false true true = refl
  by false true false = refl
  by false false true = refl
  by false false false = refl

-- an adjacency comes up where the model has it come up
pub coming_up : (old new : model.PointAdj) (same : Bool) → is_coming_up (change_of old new same) ≡ comes_up old new same
coming_up old new same = by (comes_up old new same) (model.is_up old.state && not (model.is_up new.state)) (is_moved old new same) where
  by : (a b d : Bool) → is_coming_up (if a then change.WentUp else (if b then change.LeftUp else (if d then change.Moved else change.None))) ≡ a
  by true b d = refl
  by false true d = refl
  by false false true = refl
  by false false false = refl

-- a hello is from the neighbour that was kept exactly where that is the one that is kept now
pub kept-same : (old : Held) (common : Both Bool) (h : model.Hello) (extended : ℕ) (s : Adj) (same : Bool)
    → model.is_same (point_of old).neighbour common h extended ≡ same
    → is_one (point_of old).neighbour (model.point_at (model.three_way (if same then (point_of old).state else Down) s) (model.neighbour_of h common extended)).neighbour ≡ same
kept-same held.Down common h extended s same e = e
kept-same (held.Initializing n) common h extended Down true e = e
kept-same (held.Initializing n) common h extended Initializing true e = e
kept-same (held.Initializing n) common h extended Up true e = e
kept-same (held.Initializing n) common h extended Down false e = e
kept-same (held.Initializing n) common h extended Initializing false e = e
kept-same (held.Initializing n) common h extended Up false e = refl
kept-same (held.Up n) common h extended Down true e = e
kept-same (held.Up n) common h extended Initializing true e = e
kept-same (held.Up n) common h extended Up true e = e
kept-same (held.Up n) common h extended Down false e = e
kept-same (held.Up n) common h extended Initializing false e = e
kept-same (held.Up n) common h extended Up false e = refl

-- what a hello did
pub greeted : (old new : Held) (common : Both Bool) (h : model.Hello) (three : Option ThreeWay) (change : AdjChange) (g : Greeted)
    → IfSome three (λ shake. point_of new ≡ model.hear_point (point_of old) common h (views.shake_of shake))
    → IfSome three (λ shake. change ≡ change_of (point_of old) (point_of new) (model.is_same (point_of old).neighbour common h (views.shake_of shake).extended))
    → g.anew ≡ not (is_one (point_of old).neighbour (point_of new).neighbour) → g.moved ≡ is_change change
    → g.one ≡ (is_coming_up change && model.point_open (point_of new) level.One)
    → g.two ≡ (is_coming_up change && model.point_open (point_of new) level.Two)
    → IfSome (shakes_of three) (λ shake. IsGreeted (point_of old) (point_of new) common h shake g)
greeted old new common h None change g heard changed anew is_moved one two = tt
greeted old new common h (Some shake) change g heard changed anew is_moved one two =
    let same = model.is_same (point_of old).neighbour common h (shake_of shake).extended in
    let up = ap is_coming_up changed ∙ coming_up (point_of old) (point_of new) same in
    record {
      heard = heard;
      anew = anew ∙ ap not (ap (λ (p : model.PointAdj). is_one (point_of old).neighbour p.neighbour) heard ∙ kept-same old common h (shake_of shake).extended (shake_of shake).state same refl);
      moved = is_moved ∙ ap is_change changed ∙ moved old new same;
      one = one ∙ ap (λ (b : Bool). b && model.point_open (point_of new) level.One) up;
      two = two ∙ ap (λ (b : Bool). b && model.point_open (point_of new) level.Two) up;
    }

-- the same of a hello and its levels in other words
pub greeted-words : (old new : Held) (common told : Both Bool) (h said : model.Hello) (three : Option ThreeWay) (change : AdjChange) (g : Greeted)
    → told ≡ common → said ≡ h
    → IfSome three (λ shake. point_of new ≡ model.hear_point (point_of old) told said (views.shake_of shake))
    → IfSome three (λ shake. change ≡ change_of (point_of old) (point_of new) (model.is_same (point_of old).neighbour told said (views.shake_of shake).extended))
    → g.anew ≡ not (is_one (point_of old).neighbour (point_of new).neighbour) → g.moved ≡ is_change change
    → g.one ≡ (is_coming_up change && model.point_open (point_of new) level.One)
    → g.two ≡ (is_coming_up change && model.point_open (point_of new) level.Two)
    → IfSome (shakes_of three) (λ shake. IsGreeted (point_of old) (point_of new) common h shake g)
greeted-words old new common told h said three change g e w heard changed =
    greeted old new common h three change g
    (subst (λ (x : model.Hello). IfSome three (λ shake. point_of new ≡ model.hear_point (point_of old) common x (views.shake_of shake))) w
    (subst (λ (b : Both Bool). IfSome three (λ shake. point_of new ≡ model.hear_point (point_of old) b said (views.shake_of shake))) e heard))
    (subst (λ (x : model.Hello). IfSome three (λ shake. change ≡ change_of (point_of old) (point_of new) (model.is_same (point_of old).neighbour common x (views.shake_of shake).extended))) w
    (subst (λ (b : Both Bool). IfSome three (λ shake. change ≡ change_of (point_of old) (point_of new) (model.is_same (point_of old).neighbour b said (views.shake_of shake).extended))) e changed))

-- an adjacency as it will be, in other words
pub after-words : (old after : Held) (common told : Both Bool) (h said : model.Hello) (three : Option ThreeWay) → told ≡ common → said ≡ h
    → IfSome three (λ shake. point_of after ≡ model.hear_point (point_of old) told said (views.shake_of shake))
    → IfSome (shakes_of three) (λ shake. point_of after ≡ model.hear_point (point_of old) common h shake)
after-words old after common told h said None e w heard = tt
after-words old after common told h said (Some shake) e w heard =
    heard ∙ (ap (λ (b : Both Bool). model.hear_point (point_of old) b said (shake_of shake)) e ∙ ap (λ (x : model.Hello). model.hear_point (point_of old) common x (shake_of shake)) w)

abbrev pub of_medium : Circuit → Medium → Timers → Timers → Circuit
of_medium c m one two = record c { lan = is_lan m; point = point_in m; levels = levels_in (heard_in m) one two }

-- a circuit after a point-to-point hello
pub met : (old new : Medium) (one two : Timers) (c : Circuit) (common : Both Bool) (h : model.Hello) (shake : model.Handshake) (g : Greeted)
    → is_lan old ≡ false → is_lan new ≡ false → IsGreeted (point_in old) (point_in new) common h shake g
    → record (of_medium c new (with_due one g.one) (with_due two g.two)) { hello = if g.moved then 0 else c.hello; boots = minded c.boots h }
    ≡ point_circuit (of_medium c old one two) common h shake
met (medium.Lan a b) new one two c common h shake g o n m = absurd (grind (arith, o))
met (medium.Point p) (medium.Lan a b) one two c common h shake g o n m = absurd (grind (arith, n))
met (medium.Point p) (medium.Point q) one two c common h shake g o n m =
    rw (m.one, m.two, m.moved) (subst (λ (x : model.PointAdj). after x ≡ point_circuit (of_medium c (medium.Point p) one two) common h shake) (sym m.heard) refl) where
      same : Bool
      same = model.is_same (point_of p).neighbour common h shake.extended

      after : model.PointAdj → Circuit
      after x = record c {
        lan = false;
        point = x;
        levels = record {
          one = level_in [] (with_due one (comes_up (point_of p) x same && model.point_open x level.One));
          two = level_in [] (with_due two (comes_up (point_of p) x same && model.point_open x level.Two));
        };
        hello = if is_moved (point_of p) x same then 0 else c.hello;
        boots = minded c.boots h;
      }

module _ (old new : Medium) (one two : Timers) (c now : Circuit) (common : Both Bool) (h : model.Hello) (g : Greeted) (was : of_medium c old one two ≡ now) where
  pub met-some : (o : Option model.Handshake) (hello : ℕ) (first second : Timers) (boots : List (ℕ × ℕ))
      → hello ≡ (if g.moved then 0 else c.hello) → first ≡ with_due one g.one → second ≡ with_due two g.two → boots ≡ minded c.boots h
      → is_lan old ≡ false → is_lan new ≡ false
      → IfSome o (λ shake. IsGreeted (point_in old) (point_in new) common h shake g)
      → IfSome o (λ shake. record (of_medium c new first second) { hello = hello; boots = boots } ≡ point_circuit now common h shake)
  met-some None hello first second boots d e f b p n m = tt
  met-some (Some shake) hello first second boots d e f b p n m =
      rw (d, e, f, b) (met old new one two c common h shake g p n m ∙ ap (λ (x : Circuit). point_circuit x common h shake) was)

  pub anew-some : (o : Option model.Handshake) → IfSome o (λ shake. IsGreeted (point_in old) (point_in new) common h shake g)
      → IfSome o (λ shake. g.anew ≡ not (model.is_same now.point.neighbour common h shake.extended))
  anew-some None m = tt
  anew-some (Some shake) m = m.anew ∙ ap (λ (x : Circuit). not (model.is_same x.point.neighbour common h shake.extended)) was

-- what holds of an answer that is Ok
pub ok-of : {A E : Type 0} (P : A → Type 0) {q : Result A E} {x : A} → q ≡ Ok x → IfOk q P → P x
ok-of P e f = subst (λ (r : Result _ _). IfOk r P) e f

-- ---- sizes of those heard

put-sizes : (heard : List (ℕ × LanNeighbour)) (k : ℕ) (n : LanNeighbour) → IsSized n.neighbour → AllSized heard → AllSized (put heard k n)
unfolding put
put-sizes [] k n s all = (s, tt)
put-sizes (p ∷ heard) k n s all =
    choose (λ (m : List (ℕ × LanNeighbour)). AllSized m) (eqb p.0 k) _ _ (λ _. (s, all.1))
    (λ _. choose (λ (m : List (ℕ × LanNeighbour)). AllSized m) (nat_lt k p.0) _ _ (λ _. (s, all)) (λ _. (all.0, put-sizes heard k n s all.1)))

pub hear-sizes : (heard : List (ℕ × LanNeighbour)) (common : Both Bool) (h : model.Hello) → IsSized (model.neighbour_of h common 0) → AllSized heard → AllSized (hear_lan heard common h)
hear-sizes heard common h s all = put-sizes heard h.snpa (record { up = h.names_me; neighbour = model.neighbour_of h common 0 }) s all

-- ---- one's own part

pub same-common : (a b : Config) (h : model.Hello) → IsAlike a b → model.common_of a h ≡ model.common_of b h
same-common a b h s = rw (s.areas, s.runs) refl

pub same-point : (a b : Config) (extended : ℕ) (boots : List (ℕ × ℕ)) (h : model.Hello) → IsAlike a b → point_drop a extended boots h ≡ point_drop b extended boots h
same-point a b extended boots h s = rw (s.system, s.areas, s.runs) refl

pub same-lan : (a b : Config) (l : Level) (boots : List (ℕ × ℕ)) (heard : List (ℕ × LanNeighbour)) (h : model.Hello) → IsAlike a b → lan_drop a l boots heard h ≡ lan_drop b l boots heard h
same-lan a b l boots heard h s = rw (s.system, s.areas, s.runs) refl

-- a point-to-point hello that passes its tests has a three-way value
pub shaken : (config : Config) (extended : ℕ) (boots : List (ℕ × ℕ)) (h : model.Hello) (three : Option ThreeWay) → h.handshake ≡ views.shakes_of three → point_drop config extended boots h ≡ None → IsSome three
shaken config extended boots h (Some shake) e passed = refl
shaken config extended boots h None e passed =
    absurd (by tests (full_drop boots h.source) (subst (λ (o : Option model.Handshake). or_else (or_else tests (shake_drop config extended o)) (full_drop boots h.source) ≡ None) e passed)) where
      tests : Option DropName
      tests = hello_drop config boots (model.common_of config h) (config.runs.one && h.runs.one) h

      by : (d e : Option DropName) → or_else (or_else d (Some NoThreeWay)) e ≡ None → ⊥
      by None e f = grind (arith, f)
      by (Some d) e f = grind (arith, f)
