-- A router after what is due on a circuit was sent, part by part (ISO 10589 7.3.15.3 to 7.3.15.5,
-- 8.2.3, 8.4.1; the form: own).
use Rattle.std.specs.Prelude.{ℕ, ◌==◌, nat_lt, ◌&&◌, length, Option, Some, None, if◌then◌else◌}
use Rattle.isis_base.specs.declared.level.Level.{Level}
use Rattle.isis_base.specs.declared.level.Level.TheVariants as level
use Rattle.model_router.specs.Both.{at}
use Rattle.model_router.specs.Sets.{has}
use Rattle.model_router.specs.Places.{nth}
use Rattle.model_router.specs.Routers.{Circuit, Router, book_of, with_book, with_circuit}
use Rattle.model_router.specs.SnpLists.{owed}
use Rattle.model_router.specs.Pulls.{with_part, is_csnp_due, csnp_sent, sent, answered}

-- what becomes of a router on a circuit, where that is there (own)
abbrev pub on_place : Option Circuit → Router → (Circuit → Router) → Router
on_place None r f = r
on_place (Some c) r f = f c

-- the hello, where it is due (ISO 10589 8.2.3, 8.4.1)
abbrev pub hello_gone : Router → ℕ → Circuit → Router
hello_gone r place c =
    if c.hello == 0 then with_circuit r place (record c { hello = 10 }) else r

-- 8.2.3, 8.4.1
unfoldable pub after_hello : Router → ℕ → Router
after_hello r place = on_place (nth r.circuits place) r (hello_gone r place)

-- the CSNP set, where it is due (ISO 10589 7.3.15.3, 7.3.17)
abbrev pub csnps_gone : Router → ℕ → Level → Circuit → Router
csnps_gone r place l c =
    if is_csnp_due r.config place c l
    then with_circuit r place (with_part c l (csnp_sent c.lan (at c.levels l)))
    else r

-- 7.3.15.3, 7.3.17
unfoldable pub after_csnps : Router → ℕ → Level → Router
after_csnps r place l = on_place (nth r.circuits place) r (csnps_gone r place l)

-- the LSPs that are due (ISO 10589 7.3.15.5)
abbrev pub after_lsps : Router → ℕ → Level → Router
after_lsps r place l = with_book r l (sent (book_of r l) place)

-- PSNPs, and that their counter starts (ISO 10589 7.3.15.4)
abbrev pub answer_gone : Router → ℕ → Level → Circuit → Router
answer_gone r place l c =
    with_book (with_circuit r place (with_part c l (record (at c.levels l) { psnp = 2 }))) l
    (answered (book_of r l) place)

-- where they are owed and the counter is 0 (ISO 10589 7.3.15.4)
abbrev pub psnps_gone : Router → ℕ → Level → Circuit → Router
psnps_gone r place l c =
    if nat_lt 0 (length (owed place (book_of r l))) && (at c.levels l).psnp == 0
    then answer_gone r place l c
    else r

-- 7.3.15.4
unfoldable pub after_psnps : Router → ℕ → Level → Router
after_psnps r place l = on_place (nth r.circuits place) r (psnps_gone r place l)

-- a level's part, where the circuit is open on it (own)
unfoldable pub after_level : Router → ℕ → Level → Router
after_level r place l =
    if has (book_of r l).opened place
    then after_psnps (after_lsps (after_csnps r place l) place l) place l
    else r

-- all parts (own)
abbrev pub after_all : Router → ℕ → Router
after_all r place =
    after_level (after_level (after_hello r place) place level.One) place level.Two
