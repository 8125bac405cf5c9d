-- Own LSPs that say what is wanted: a second later, and after what leaves all that they are made from.
use Rattle.std.proofs.Common.{◌≡◌, ℕ, ◌+◌, ◌^◌, ◌-◌, ◌==◌, nat_le, nat_lt, Bool, true, false, not, ◌&&◌, ◌||◌, List, [], ◌∷◌, Option, Some, None, IfSome, if◌then◌else◌, option_map, refl, sym, ap, ◌∙◌, subst, arith}
use Rattle.std.proofs.lemmas.Bool.{and_parts}
use Rattle.std.proofs.lemmas.Bool.Decides.{nat_tests}
use Rattle.std.specs.List.{AllByRecursion}
use Rattle.isis_base.specs.declared.level.Level.{Level}
use Rattle.isis_base.specs.declared.level.Level.TheVariants as level
use Rattle.model_router.specs.Both.{at}
use Rattle.model_router.specs.Books.{risen}
use Rattle.model_router.specs.Configs.{Config}
use Rattle.model_router.specs.Maps.{find, each}
use Rattle.model_router.specs.OwnLsps.{is_due, renew, same_contents}
use Rattle.model_router.specs.Routers.{Circuit, Contents, Issued, LevelState, Router, level_of}
use Rattle.model_router.specs.Routers as routers
use Rattle.model_router.specs.Seconds.{older}
use Rattle.model_router.specs.Wanted.{system_lsp, wanted}
use Rattle.model_router.proofs.MapLemmas.{find-each}
use Rattle.lsp_fragments.specs.Issues.{all_rest}
use Rattle.lsp_fragments.specs.Kept.{OwnState}
use Rattle.flag_sync.specs.BookStates.{BookState, book_of}
use Rattle.router_levels.specs.Views.{LevelView, state_of}
use Rattle.router_core.specs.Calm.{AreLasting}
use Rattle.router_routes.specs.Outlooks.{outlook_of, where_run}
use Rattle.router_routes.specs.Told.{told_by}
use Rattle.router_routes.proofs.UnleakedLemmas.{unleaked-one, unleaked-two}
use Rattle.router_core.specs.declared.marks.Marks.{Marks}
use Rattle.router_core.specs.Givens.{given, leaks_of}
use Rattle.router_core.specs.Seconds.{IsQuiet, Waits, level_later, numbers}
use Rattle.router_core.specs.Settled.{AreTrue, IsSettled, IsSettledAt, Keeps, Says, faces, is_said, runs_both}
use Rattle.router_core.proofs.FaceLemmas.{wanted-faces}
use Rattle.router_core.proofs.QuietLemmas.{later-same}

abbrev pub aged : List (ℕ × Issued) → List (ℕ × Issued)
aged own = each (λ (_ : ℕ) (i : Issued). older i) own

true-false : true ≡ false → ⊥
true-false e = cc

none-some : {A : Type 0} (x : A) → ◌≡◌ {A = Option A} None (Some x) → ⊥
none-some x e = cc

-- ---- a second later

each-numbers : (own : List (ℕ × Issued)) → numbers (aged own) ≡ numbers own
unfolding each
each-numbers [] = refl
each-numbers (p ∷ own) = ap (λ (ns : List ℕ). p.0 ∷ ns) (each-numbers own)

older-said : (own : List (ℕ × Issued)) (want : ℕ × Contents) → Says own want → Says (aged own) want
older-said own want e = ap (λ (o : Option Issued). is_said o want.1) (find-each (λ (_ : ℕ) (i : Issued). older i) own want.0) ∙ of (find own want.0) e
  where
    of : (o : Option Issued) → is_said o want.1 ≡ true → is_said (option_map older o) want.1 ≡ true
    of None h = h
    of (Some i) h = h

all-said : (own : List (ℕ × Issued)) (wants : List (ℕ × Contents)) → AllByRecursion (Says own) wants → AllByRecursion (Says (aged own)) wants
all-said own [] a = tt
all-said own (want ∷ wants) a = (older-said own want a.0, all-said own wants a.1)

-- they say the same
pub settled-older : (own : List (ℕ × Issued)) (wants : List (ℕ × Contents)) → IsSettled own wants → IsSettled (aged own) wants
settled-older own wants s = record { said = all-said own wants s.said; same = each-numbers own ∙ s.same }

-- and none is issued, where none is a second from 900
found-rests : (own : List (ℕ × Issued)) (n : ℕ) (i : Issued) → all_rest own ≡ true → find own n ≡ Some i → nat_lt i.age 899 ≡ true
found-rests [] n i r e = absurd (none-some i e)
found-rests (p ∷ own) n i r e = of (p.0 == n) (λ f. found-rests own n i (and_parts (nat_lt p.1.age 899) (all_rest own) r).1 f) e
  where
    same : (x y : Issued) → Some x ≡ Some y → x ≡ y
    same x y e = cc

    of : (t : Bool) → (find own n ≡ Some i → nat_lt i.age 899 ≡ true) → (if t then Some p.1 else find own n) ≡ Some i → nat_lt i.age 899 ≡ true
    of true f e = subst (λ (x : Issued). nat_lt x.age 899 ≡ true) (same p.1 i e) (and_parts (nat_lt p.1.age 899) (all_rest own) r).0
    of false f e = f e

young : (age : ℕ) → nat_lt age 899 ≡ true → nat_le 900 (risen age) ≡ false
young age h = of (nat_lt age (2 ^ 64 - 1))
  where
    of : (t : Bool) → nat_le 900 (if t then age + 1 else age) ≡ false
    of true = grind (arith, nat_tests, h)
    of false = grind (arith, nat_tests, h)

young-waits : (i : Issued) (contents : Contents) → nat_lt i.age 899 ≡ true → same_contents i.contents contents ≡ true → is_due (Some (older i)) contents ≡ false
young-waits i contents h e = rw (e, young i.age h) (of (nat_le 5 (risen i.age)))
  where
    of : (t : Bool) → ((t && false) || false) ≡ false
    of true = refl
    of false = refl

rest-waits : (own : List (ℕ × Issued)) (want : ℕ × Contents) → all_rest own ≡ true → Says own want → Waits (aged own) want
rest-waits own want r e = ap (λ (o : Option Issued). is_due o want.1) (find-each (λ (_ : ℕ) (i : Issued). older i) own want.0) ∙ of (find own want.0) (λ i f. found-rests own want.0 i r f) e
  where
    of : (o : Option Issued) → ((i : Issued) → o ≡ Some i → nat_lt i.age 899 ≡ true) → is_said o want.1 ≡ true → is_due (option_map older o) want.1 ≡ false
    of None f h = absurd (true-false (sym h))
    of (Some i) f h = young-waits i want.1 (f i refl) h

all-wait : (own : List (ℕ × Issued)) (wants : List (ℕ × Contents)) → all_rest own ≡ true → AllByRecursion (Says own) wants → AllByRecursion (Waits (aged own)) wants
all-wait own [] r a = tt
all-wait own (want ∷ wants) r a = (rest-waits own want r a.0, all-wait own wants r a.1)

pub settled-quiet : (own : List (ℕ × Issued)) (wants : List (ℕ × Contents)) → all_rest own ≡ true → IsSettled own wants → IsQuiet (aged own) wants
settled-quiet own wants r s = record { waits = all-wait own wants r s.said; same = each-numbers own ∙ s.same }

-- ---- what is wanted is of what routes look at, the configuration and the circuits' faces

pub wanted-outlook : (a b r : Router) (l : Level) → outlook_of a ≡ outlook_of b → wanted given a r l ≡ wanted given b r l
unfolding wanted system_lsp
wanted-outlook a b r level.One e = rw e refl
wanted-outlook a b r level.Two e = rw e refl

pub wanted-same : (a b r t : Router) (l : Level) → outlook_of a ≡ outlook_of b → t.config ≡ r.config → faces t.circuits ≡ faces r.circuits → wanted given a t l ≡ wanted given b r l
wanted-same a b r t l e f g = wanted-outlook a b t l e ∙ wanted-faces given b r t l f g

own-stays : (r t : Router) (l : Level) → Keeps r t → (level_of t l).own ≡ (level_of r l).own
own-stays r t level.One k = k.one
own-stays r t level.Two k = k.two

keeps-settled : (r t : Router) (l : Level) → Keeps r t → outlook_of t ≡ outlook_of r → IsSettledAt r l → IsSettledAt t l
keeps-settled r t l k e s =
    subst (λ (own : List (ℕ × Issued)). IsSettled own (wanted given t t l)) (sym (own-stays r t l k))
    (subst (λ (wants : List (ℕ × Contents)). IsSettled (level_of r l).own wants) (sym (wanted-same t r r t l e k.config k.circuits)) s)

-- marks stay true
pub marks-keep : (marks : Marks) (r t : Router) → Keeps r t → outlook_of t ≡ outlook_of r → AreTrue marks r → AreTrue marks t
marks-keep marks r t k e m = record { one = λ h. keeps-settled r t level.One k e (m.one h); two = λ h. keeps-settled r t level.Two k e (m.two h) }

-- ---- a router of one level

alone-one : (a : Router) → a.config.runs.two ≡ false → leaks_of a level.One ≡ []
unfolding outlook_of
alone-one a none = unleaked-one (outlook_of a) (ap (λ (t : Bool). where_run t (told_by (routers.book_of a level.Two).cells)) none)

alone-two : (a : Router) → a.config.runs.one ≡ false → leaks_of a level.Two ≡ []
unfolding outlook_of
alone-two a none = unleaked-two (outlook_of a) (ap (λ (t : Bool). where_run t (told_by (routers.book_of a level.One).cells)) none)

wanted-one : (a b r : Router) → r.config.runs.two ≡ false → leaks_of a level.One ≡ [] → leaks_of b level.One ≡ [] → wanted given a r level.One ≡ wanted given b r level.One
unfolding wanted system_lsp
wanted-one a b r none f g = rw (none, f, g) refl

wanted-two : (a b r : Router) → leaks_of a level.Two ≡ [] → leaks_of b level.Two ≡ [] → wanted given a r level.Two ≡ wanted given b r level.Two
unfolding wanted system_lsp
wanted-two a b r f g = rw (f, g) refl

wanted-none : (a b r : Router) (l : Level) → at r.config.runs l ≡ false → wanted given a r l ≡ wanted given b r l
unfolding wanted
wanted-none a b r l none = rw none refl

-- what is wanted there looks at no routes
wanted-alone : (a b r : Router) (l : Level) → a.config ≡ r.config → b.config ≡ r.config → runs_both r ≡ false → wanted given a r l ≡ wanted given b r l
wanted-alone a b r l e f alone = by-runs r.config.runs.one r.config.runs.two refl refl alone l
  where
    by-runs : (one two : Bool) → r.config.runs.one ≡ one → r.config.runs.two ≡ two → (one && two) ≡ false → (l : Level) → wanted given a r l ≡ wanted given b r l
    by-runs true true is also both l = absurd (true-false both)
    by-runs false two is also both level.One = wanted-none a b r level.One is
    by-runs false two is also both level.Two = wanted-two a b r (alone-two a (ap (λ (c : Config). c.runs.one) e ∙ is)) (alone-two b (ap (λ (c : Config). c.runs.one) f ∙ is))
    by-runs true false is also both level.One = wanted-one a b r also (alone-one a (ap (λ (c : Config). c.runs.two) e ∙ also)) (alone-one b (ap (λ (c : Config). c.runs.two) f ∙ also))
    by-runs true false is also both level.Two = wanted-none a b r level.Two also

alone-settled : (r t : Router) (l : Level) → Keeps r t → runs_both r ≡ false → IsSettledAt r l → IsSettledAt t l
alone-settled r t l k alone s =
    let both = ap (λ (c : Config). c.runs.one && c.runs.two) k.config ∙ alone in
    subst (λ (own : List (ℕ × Issued)). IsSettled own (wanted given t t l)) (sym (own-stays r t l k))
    (subst (λ (wants : List (ℕ × Contents)). IsSettled (level_of r l).own wants)
    (sym (wanted-alone t r t l refl (sym k.config) both ∙ wanted-faces given r r t l k.config k.circuits)) s)

-- so marks stay true whatever routes are
pub marks-alone : (marks : Marks) (r t : Router) → Keeps r t → runs_both r ≡ false → AreTrue marks r → AreTrue marks t
marks-alone marks r t k alone m = record { one = λ h. alone-settled r t level.One k alone (m.one h); two = λ h. alone-settled r t level.Two k alone (m.two h) }

-- ---- a level that is settled, a second later

pub own-is : (v : LevelView) (o : OwnState) (s : LevelState) → o ≡ v.own → state_of v ≡ s → o.issued ≡ s.own
own-is v o s e f = ap (λ (x : OwnState). x.issued) e ∙ ap (λ (x : LevelState). x.own) f

pub lasting-is : (v : LevelView) (b : BookState) (s : LevelState) → b ≡ v.book → state_of v ≡ s → AreLasting (book_of b) → AreLasting s.book
lasting-is v b s e f l = subst AreLasting (ap book_of e ∙ ap (λ (x : LevelState). x.book) f) l

-- nothing is issued and purged
pub settled-later : (r : Router) (l : Level) (s : LevelState) (cs : List Circuit) (wants : List (ℕ × Contents)) → all_rest s.own ≡ true → IsSettled s.own wants → level_later s l cs ≡ renew given r l (level_later s l cs) wants
settled-later r l s cs wants rests settled = later-same given r l s cs (aged s.own) wants wants refl refl (settled-quiet s.own wants rests settled)

-- what is wanted where circuits say what they said
pub marked-wants : (q r : Router) (l : Level) (cs : List Circuit) → IsSettledAt q l × (faces cs ≡ faces q.circuits) → r.config ≡ q.config → faces r.circuits ≡ faces cs → IsSettled (level_of q l).own (wanted given q r l)
marked-wants q r l cs m e f = subst (λ (wants : List (ℕ × Contents)). IsSettled (level_of q l).own wants) (sym (wanted-faces given q q r l e (f ∙ m.1))) m.0

-- what was made for circuits is wanted where circuits say the same
pub told-wants : (q r : Router) (l : Level) (cs : List Circuit) (own : List (ℕ × Issued)) (wants : List (ℕ × Contents)) → ((x : Router) → x.config ≡ q.config → x.circuits ≡ cs → wants ≡ wanted given q x l) → IsSettled own wants → r.config ≡ q.config → faces r.circuits ≡ faces cs → IsSettled own (wanted given q r l)
told-wants q r l cs own wants told s e f =
    let x : Router = record q { circuits = cs } in
    subst (λ (ws : List (ℕ × Contents)). IsSettled own ws) (told x refl refl ∙ sym (wanted-faces given q x r l e f)) s

-- a level whose own LSPs are a second older
pub calm-marks : (q t : Router) (l : Level) → outlook_of t ≡ outlook_of q → (level_of t l).own ≡ aged (level_of q l).own → IsSettled (level_of q l).own (wanted given q t l) → IsSettledAt t l
calm-marks q t l stays own s =
    subst (λ (xs : List (ℕ × Issued)). IsSettled xs (wanted given t t l)) (sym own)
    (settled-older (level_of q l).own (wanted given t t l)
    (subst (λ (wants : List (ℕ × Contents)). IsSettled (level_of q l).own wants) (sym (wanted-outlook t q t l stays)) s))

pub some-told : (A : Type 0) (o : Option Bool) (x : Bool) → o ≡ Some x → IfSome o (λ (_ : Bool). A) → A
some-told A o x e h = subst (λ (q : Option Bool). IfSome q (λ (_ : Bool). A)) e h

pub not-false : (b : Bool) → not b ≡ false → b ≡ true
not-false true e = refl
not-false false e = absurd (true-false e)
