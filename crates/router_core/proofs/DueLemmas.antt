-- What is due on a circuit stays due while its other parts are sent.
use Rattle.std.proofs.Common.{◌≡◌, ℕ, ◌<◌, ◌==◌, ◌&&◌, nat_lt, List, length, Option, Some, None, IfSome, sym, ap, ◌∙◌, subst}
use Rattle.isis_base.specs.declared.level.Level.{Level}
use Rattle.isis_base.specs.declared.level.Level.TheVariants as level
use Rattle.model_router.specs.Books.{Book}
use Rattle.model_router.specs.Both.{at}
use Rattle.model_router.specs.Places.{nth}
use Rattle.model_router.specs.Pulls.{is_csnp_due, sent, with_part}
use Rattle.model_router.specs.Routers.{Circuit, CircuitLevel, Router, book_of}
use Rattle.model_router.specs.Sets.{has}
use Rattle.model_router.specs.SnpLists.{owed}
use Rattle.model_router.specs.SnpTable.{SnpEntry}
use Rattle.router_core.specs.declared.due.Due.{Due}
use Rattle.router_core.specs.declared.due.LevelDue.{LevelDue}
use Rattle.router_core.specs.Due.{IsDue, IsDueAt, IsDueOn, IsLevelDue}
use Rattle.router_core.specs.Pulled.{after_csnps, after_hello, after_level, after_lsps}
use Rattle.router_core.proofs.IdleLemmas.{from-some, nth-with}
use Rattle.router_core.proofs.PullLemmas.{on-there}
use Rattle.router_core.proofs.SentLemmas.{IsPart, Part, at-part, book-of, csnp-psnp, csnp_part, csnps-is, hello-is, hello_c, level-part, owed-sent, psnp_due}

-- what follows of what holds of a circuit that may be there
pub if-some : {A : Type 0} (o : Option A) (P Q : A → Type 0) → ((x : A) → P x → Q x) → IfSome o P → IfSome o Q
if-some None P Q f h = h
if-some (Some x) P Q f h = f x h

-- one question of a level
pub csnps-at : (r : Router) (place : ℕ) (l : Level) (d : LevelDue) → IsDueAt r place l d → IfSome (nth r.circuits place) (λ c. d.csnps ≡ is_csnp_due r.config place c l)
csnps-at r place l d = if-some (nth r.circuits place) (λ c. IsLevelDue r.config place c l (book_of r l) d) (λ c. d.csnps ≡ is_csnp_due r.config place c l) (λ c is. is.csnps)

pub open-at : (r : Router) (place : ℕ) (l : Level) (d : LevelDue) → place < length r.circuits → IsDueAt r place l d → d.opened ≡ has (book_of r l).opened place
open-at r place l d h is = on-there r.circuits place (λ o. d.opened ≡ has (book_of r l).opened place) h
    (λ c n. (from-some (λ y. IsLevelDue r.config place y l (book_of r l) d) (nth r.circuits place) c n is).opened)

-- both levels' questions, and the hello's
pub hello-due : (r : Router) (place : ℕ) (d : Due) → IsDue r place d → IfSome (nth r.circuits place) (λ c. d.hello ≡ (c.hello == 0))
hello-due r place d = if-some (nth r.circuits place) (IsDueOn r place d) (λ c. d.hello ≡ (c.hello == 0)) (λ c is. is.hello)

pub one-due : (r : Router) (place : ℕ) (d : Due) → IsDue r place d → IsDueAt r place level.One d.one
one-due r place d = if-some (nth r.circuits place) (IsDueOn r place d) (λ c. IsLevelDue r.config place c level.One (book_of r level.One) d.one) (λ c is. is.one)

pub two-due : (r : Router) (place : ℕ) (d : Due) → IsDue r place d → IsDueAt r place level.Two d.two
two-due r place d = if-some (nth r.circuits place) (IsDueOn r place d) (λ c. IsLevelDue r.config place c level.Two (book_of r level.Two) d.two) (λ c is. is.two)

-- a level's stay where the hello is sent
pub after-hello-due : (r : Router) (place : ℕ) (l : Level) (d : LevelDue) → place < length r.circuits → IsDueAt r place l d → IsDueAt (after_hello r place) place l d
after-hello-due r place l d h is = on-there r.circuits place (λ o. IsDueAt (after_hello r place) place l d) h
    (λ c n.
    let on = from-some (λ y. IsLevelDue r.config place y l (book_of r l) d) (nth r.circuits place) c n is in
    subst (λ (q : Router). IsDueAt q place l d) (sym (hello-is r place c n))
    (subst (λ (o : Option Circuit). IfSome o (λ y. IsLevelDue r.config place y l (book_of r l) d)) (sym (nth-with r.circuits place c (hello_c c) n))
    (record { opened = on.opened; csnps = on.csnps; psnps = on.psnps })))

-- level 2's stay where level 1's parts are sent
pub after-level-due : (r : Router) (place : ℕ) (d : LevelDue) → place < length r.circuits → IsDueAt r place level.Two d → IsDueAt (after_level r place level.One) place level.Two d
after-level-due r place d h is = on-there r.circuits place (λ o. IsDueAt (after_level r place level.One) place level.Two d) h
    (λ c n. of c n (level-part r place level.One c n))
  where
    of : (c : Circuit) → nth r.circuits place ≡ Some c → IsPart r place level.One c (after_level r place level.One) → IsDueAt (after_level r place level.One) place level.Two d
    of c n (Part part book e) =
        let on = from-some (λ y. IsLevelDue r.config place y level.Two (book_of r level.Two) d) (nth r.circuits place) c n is in
        subst (λ (q : Router). IsDueAt q place level.Two d) (sym e)
        (subst (λ (o : Option Circuit). IfSome o (λ y. IsLevelDue r.config place y level.Two (book_of r level.Two) d)) (sym (nth-with r.circuits place c (with_part c level.One part) n))
        (record { opened = on.opened; csnps = on.csnps; psnps = on.psnps }))

-- PSNPs stay due where the CSNP set and LSPs are sent
pub psnps-stay : (r : Router) (place : ℕ) (l : Level) (d : LevelDue) → place < length r.circuits → IsDueAt r place l d → (let q = after_lsps (after_csnps r place l) place l in IfSome (nth q.circuits place) (λ c. d.psnps ≡ psnp_due place c l (book_of q l)))
psnps-stay r place l d h is = on-there r.circuits place (λ o. IfSome (nth r2.circuits place) (λ c. d.psnps ≡ psnp_due place c l (book_of r2 l))) h of
  where
    r1 : Router
    r1 = after_csnps r place l

    r2 : Router
    r2 = after_lsps r1 place l

    of : (c : Circuit) → nth r.circuits place ≡ Some c → IfSome (nth r2.circuits place) (λ y. d.psnps ≡ psnp_due place y l (book_of r2 l))
    of c n = subst (λ (o : Option Circuit). IfSome o (λ y. d.psnps ≡ psnp_due place y l (book_of r2 l))) (sym here)
        (on.psnps ∙ (ap (λ (k : ℕ). nat_lt 0 (length (owed place (book_of r l))) && k == 0) (sym psnp-is)
        ∙ ap (λ (xs : List SnpEntry). nat_lt 0 (length xs) && (at c1.levels l).psnp == 0) (sym owed-is)))
      where
        on : IsLevelDue r.config place c l (book_of r l) d
        on = from-some (λ y. IsLevelDue r.config place y l (book_of r l) d) (nth r.circuits place) c n is

        c1 : Circuit
        c1 = with_part c l (csnp_part r.config place c l)

        here : nth r2.circuits place ≡ Some c1
        here = ap (λ (q : Router). nth q.circuits place) (csnps-is r place l c n) ∙ nth-with r.circuits place c c1 n

        owed-is : owed place (book_of r2 l) ≡ owed place (book_of r l)
        owed-is = ap (λ (b : Book). owed place b) (book-of r1 l (sent (book_of r1 l) place)) ∙ (owed-sent place (book_of r1 l) ∙ ap (λ (q : Router). owed place (book_of q l)) (csnps-is r place l c n))

        psnp-is : (at c1.levels l).psnp ≡ (at c.levels l).psnp
        psnp-is = ap (λ (x : CircuitLevel). x.psnp) (at-part c l (csnp_part r.config place c l)) ∙ csnp-psnp r.config place c l
