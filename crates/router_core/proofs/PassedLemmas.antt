-- A second by circuits that say what the router's do then, in which a level passes in place, and is followed by drafts where there are some.
use Rattle.std.proofs.Common.{◌≡◌, ◌∙◌, ℕ, Bool, true, false, List, Option, None, Some, map, is_some, refl, sym, ap, subst, not, ◌||◌}
use Rattle.isis_base.specs.declared.level.Level.{Level}
use Rattle.isis_base.specs.declared.level.Level.TheVariants as level
use Rattle.model_router.specs.Both.{at}
use Rattle.model_router.specs.Elections.{idle_all}
use Rattle.model_router.specs.Events.{Second}
use Rattle.model_router.specs.OwnLsps.{renew}
use Rattle.model_router.specs.Routers.{Circuit, Contents, LevelState, Router, book_of, level_of}
use Rattle.model_router.specs.Sorted.{RisesFrom}
use Rattle.model_router.specs.Steps.{step}
use Rattle.model_router.specs.Wanted.{wanted}
use Rattle.router_sending.specs.Drafts.{DraftView}
use Rattle.router_levels.specs.Drafts.{wants_of}
use Rattle.router_routes.specs.Outlooks.{Outlook, outlook_of}
use Rattle.router_routes.specs.Told.{told_by}
use Rattle.router_core.specs.declared.marks.Marks.{Marks}
use Rattle.router_core.specs.declared.movers.Movers.{Movers}
use Rattle.router_core.specs.Givens.{given}
use Rattle.router_core.specs.LevelSeconds.{AreSettledBy, AreWantedWith, IsCalmWith, IsLevelSecond, IsResting, IsShiftedTo}
use Rattle.router_core.specs.Plans.{IsLaterAt}
use Rattle.router_core.specs.Reached.{IsReached}
use Rattle.router_core.specs.Seconds.{AreMade, followed, later, level_later}
use Rattle.router_core.specs.Settled.{AreTrue, IsSettled, IsSettledAt, faces}
use Rattle.router_core.specs.Shifts.{AreMovedOn, IsShifted}
use Rattle.router_core.proofs.KeepLemmas.{idle-faces}
use Rattle.router_core.proofs.LastLemmas.{later-seen}
use Rattle.router_core.proofs.QuietLemmas.{later-own, later-same}
use Rattle.router_core.proofs.ReachedLemmas.{sorted-after}
use Rattle.router_core.proofs.SecondLemmas.{later-part, second-of}
use Rattle.router_core.proofs.RenewalLemmas.{renew-config}
use Rattle.router_core.proofs.SettledLemmas.{aged, calm-marks, marked-wants, settled-later}
use Rattle.router_core.proofs.ShiftLemmas.{shifted-run, told-seen}

-- a router after it
abbrev pub passed : Router → Option (List DraftView) → Option (List DraftView) → List Circuit → Router
passed r ones twos cs = record r {
  circuits = idle_all r.config 0 (map later r.circuits);
  levels = record {
    one = followed r level.One ones (level_later r.levels.one level.One cs);
    two = followed r level.Two twos (level_later r.levels.two level.Two cs);
  };
}

pub passed-is : (r : Router) (ones twos : Option (List DraftView)) (cs : List Circuit) → faces cs ≡ faces (map later r.circuits) → IsLaterAt r level.One ones cs → IsLaterAt r level.Two twos cs → passed r ones twos cs ≡ (step given r Second).router
unfolding step
passed-is r ones twos cs e one two =
    second-of r r (followed r level.One ones (level_later r.levels.one level.One cs)) (followed r level.Two twos (level_later r.levels.two level.Two cs)) (idle_all r.config 0 (map later r.circuits)) refl refl
    (later-part r level.One r.levels.one ones r.levels.one (followed r level.One ones (level_later r.levels.one level.One cs)) cs refl e refl one)
    (later-part r level.Two r.levels.two twos r.levels.two (followed r level.Two twos (level_later r.levels.two level.Two cs)) cs refl e refl two)

-- ---- what routes see of it

pub same-outlook : (o p : Outlook) → AreMovedOn o p None None → p ≡ o
same-outlook o p m = λ i. record {
  root = m.root i;
  areas = m.areas i;
  runs = m.runs i;
  prefixes = m.prefixes i;
  told = record { one = m.one i; two = m.two i };
}

moved-outlook : (r : Router) (ones twos : Option (List DraftView)) (cs : List Circuit) (a b : Option Movers)
    → IsShifted a r.config.runs.one (told_by (book_of r level.One).cells) (told_by (book_of (passed r ones twos cs) level.One).cells)
    → IsShifted b r.config.runs.two (told_by (book_of r level.Two).cells) (told_by (book_of (passed r ones twos cs) level.Two).cells)
    → AreMovedOn (outlook_of r) (outlook_of (passed r ones twos cs)) a b
unfolding outlook_of
moved-outlook r ones twos cs a b one two =
    let t = passed r ones twos cs in
    let f = shifted-run a r.config.runs.one (told_by (book_of r level.One).cells) (told_by (book_of t level.One).cells) one in
    let g = shifted-run b r.config.runs.two (told_by (book_of r level.Two).cells) (told_by (book_of t level.Two).cells) two in
    record {
      root = refl;
      areas = refl;
      runs = refl;
      prefixes = refl;
      rise_one = f.0;
      rise_two = g.0;
      one = f.1;
      two = g.1;
    }

pub passed-moved : (r : Router) (ones twos : Option (List DraftView)) (cs : List Circuit) (a b : Option Movers) → IsReached r → passed r ones twos cs ≡ (step given r Second).router
    → IsShiftedTo a r level.One (followed r level.One ones (level_later r.levels.one level.One cs)).book
    → IsShiftedTo b r level.Two (followed r level.Two twos (level_later r.levels.two level.Two cs)).book
    → AreMovedOn (outlook_of r) (outlook_of (step given r Second).router) a b
passed-moved r ones twos cs a b reached is one two =
    let s = reached.speaking.sorted in
    let rises : (l : Level) → RisesFrom 0 (book_of (passed r ones twos cs) l).cells =
    λ l. subst (λ (q : Router). RisesFrom 0 (book_of q l).cells) (sym is) ((sorted-after r Second s).on l) in
    subst (λ (q : Router). AreMovedOn (outlook_of r) (outlook_of q) a b) is
    (moved-outlook r ones twos cs a b (one (s.on level.One) (rises level.One)) (two (s.on level.Two) (rises level.Two)))

-- nothing is moved
pub unmoved : (o p : Outlook) (a b : Option Movers) → a ≡ None → b ≡ None → AreMovedOn o p a b → p ≡ o
unmoved o p a b none-one none-two m = same-outlook o p (subst (λ (x : Option Movers). AreMovedOn o p x None) none-one (subst (λ (x : Option Movers). AreMovedOn o p a x) none-two m))

-- ---- marks

own-later : (r : Router) (o : Option (List DraftView)) (s : LevelState) (l : Level) (cs : List Circuit) → o ≡ None → (followed r l o (level_later s l cs)).own ≡ aged s.own
own-later r o s l cs e = ap (λ (x : Option (List DraftView)). (followed r l x (level_later s l cs)).own) e ∙ later-own s l cs

pub passed-marks : (r : Router) (ones twos : Option (List DraftView)) (cs : List Circuit) (marks : Marks) → faces cs ≡ faces (map later r.circuits) → passed r ones twos cs ≡ (step given r Second).router → outlook_of (step given r Second).router ≡ outlook_of r
    → (marks.one ≡ true → ones ≡ None) → (marks.one ≡ true → AreSettledBy r level.One cs)
    → (marks.two ≡ true → twos ≡ None) → (marks.two ≡ true → AreSettledBy r level.Two cs)
    → AreTrue marks (step given r Second).router
passed-marks r ones twos cs marks e is stays none-one one none-two two = subst (AreTrue marks) is (record {
  one = λ h. calm-marks r t level.One outlook (own-later r ones r.levels.one level.One cs (none-one h)) (one h t refl same);
  two = λ h. calm-marks r t level.Two outlook (own-later r twos r.levels.two level.Two cs (none-two h)) (two h t refl same);
})
  where
    t : Router
    t = passed r ones twos cs

    outlook : outlook_of t ≡ outlook_of r
    outlook = ap outlook_of is ∙ stays

    same : faces t.circuits ≡ faces cs
    same = idle-faces r.config 0 (map later r.circuits) ∙ sym e

-- ---- what a second makes of a level

pub false-true : {A : Type 0} → false ≡ true → A
false-true e = absurd (cc)

-- one that is marked, and rests
pub resting-second : (asked : Bool) (r : Router) (l : Level) (cs : List Circuit) → IsResting (level_of r l) → IsSettledAt r l × (faces cs ≡ faces r.circuits) → IsLevelSecond asked r l cs (record { wants = None; movers = None; unasked = false; settled = true })
resting-second asked r l cs rest marked = record {
  is_later = λ q a b. settled-later q l (level_of r l) cs (wanted given r q l) rest.rests (marked-wants r q l cs marked a b);
  made = tt;
  answers = λ _. refl;
  shifted = λ _ of-old of-new runs. told-seen (book_of r l) (level_later (level_of r l) l cs).book of-old of-new (later-seen (level_of r l) l cs rest.last);
  still = λ h. refl;
  says = λ h q a b. marked-wants r q l cs marked a b;
}

-- one of which nothing is issued and purged
pub calm-second : (asked : Bool) (r : Router) (l : Level) (cs : List Circuit) (wants : List (ℕ × Contents)) (settled : Bool) → IsCalmWith (level_of r l) wants settled → AreWantedWith r l cs wants → IsLevelSecond asked r l cs (record { wants = None; movers = None; unasked = false; settled = settled })
calm-second asked r l cs wants settled calm are = record {
  is_later = λ q a b. later-same given q l (level_of r l) cs (aged (level_of r l).own) wants (wanted given r q l) refl (are q a b) calm.quiet;
  made = tt;
  answers = λ _. refl;
  shifted = λ _ of-old of-new runs. told-seen (book_of r l) (level_later (level_of r l) l cs).book of-old of-new (later-seen (level_of r l) l cs calm.last);
  still = λ h. refl;
  says = λ h q a b. subst (λ (ws : List (ℕ × Contents)). IsSettled (level_of r l).own ws) (are q a b) (calm.said h);
}

pub either-false : (a b : Bool) → a ≡ false → b ≡ false → (a || b) ≡ false
either-false a b of-a of-b = ap (λ (x : Bool). x || b) of-a ∙ of-b

pub first-false : (a b : Bool) → (a || b) ≡ false → a ≡ false
first-false true b e = absurd (cc)
first-false false b e = refl

pub second-false : (a b : Bool) → (a || b) ≡ false → b ≡ false
second-false true b e = absurd (cc)
second-false false b e = e

not-false : (b : Bool) → not b ≡ false → b ≡ true
not-false true e = refl
not-false false e = absurd (cc)

-- one that is followed
pub renewed-second : (asked unasked : Bool) (r : Router) (l : Level) (cs : List Circuit) (ws : List DraftView) (wants : List (ℕ × Contents)) (movers : Option Movers) → wants_of ws ≡ wants → AreWantedWith r l cs wants → AreMade (is_some (at r.config.keys l)) l ws
    → unasked ≡ not asked → (asked ≡ true → IsShiftedTo movers r l (renew given r l (level_later (level_of r l) l cs) wants).book)
    → IsLevelSecond asked r l cs (record { wants = Some ws; movers = movers; unasked = unasked; settled = false })
renewed-second asked unasked r l cs ws wants movers says are made un moved = record {
  is_later = λ q a b. ap (λ (xs : List (ℕ × Contents)). renew given r l (level_later (level_of r l) l cs) xs) (says ∙ are q a b) ∙ sym (renew-config q r l (level_later (level_of r l) l cs) (wanted given r q l) a);
  made = made;
  answers = λ a. un ∙ ap not a;
  shifted = λ u. subst (λ (xs : List (ℕ × Contents)). IsShiftedTo movers r l (renew given r l (level_later (level_of r l) l cs) xs).book) (sym says) (moved (not-false asked (sym un ∙ u)));
  still = λ h. false-true h;
  says = λ h. false-true h;
}
