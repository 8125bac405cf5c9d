-- What is due on a circuit, as a pull finds it (ISO 10589 7.3.15.3, 7.3.15.4, 7.3.17, 8.2.3, 8.4.1; the form: own).
use Rattle.std.specs.Prelude.{◌≡◌, ℕ, ◌==◌, ◌&&◌, nat_lt, length, IfSome}
use Rattle.isis_base.specs.declared.level.Level.{Level}
use Rattle.isis_base.specs.declared.level.Level.TheVariants as level
use Rattle.model_router.specs.Books.{Book}
use Rattle.model_router.specs.Both.{at}
use Rattle.model_router.specs.Configs.{Config}
use Rattle.model_router.specs.Places.{nth}
use Rattle.model_router.specs.Pulls.{is_csnp_due}
use Rattle.model_router.specs.Routers.{Circuit, Router, book_of}
use Rattle.model_router.specs.Sets.{has}
use Rattle.model_router.specs.SnpLists.{owed}
use Rattle.router_core.specs.declared.due.Due.{Due}
use Rattle.router_core.specs.declared.due.LevelDue.{LevelDue}

-- whether the circuit is open for the level, its CSNP set is due, and PSNPs are (7.3.15.3, 7.3.15.4, 7.3.17)
pub record IsLevelDue (config : Config) (place : ℕ) (c : Circuit) (l : Level) (book : Book) (d : LevelDue) : Type 0 where
  pub opened : d.opened ≡ has book.opened place
  pub csnps : d.csnps ≡ is_csnp_due config place c l
  pub psnps : d.psnps ≡ (nat_lt 0 (length (owed place book)) && (at c.levels l).psnp == 0)

-- the same of both levels, and whether the hello is due (8.2.3, 8.4.1)
pub record IsDueOn (r : Router) (place : ℕ) (d : Due) (c : Circuit) : Type 0 where
  pub hello : d.hello ≡ (c.hello == 0)
  pub one : IsLevelDue r.config place c level.One (book_of r level.One) d.one
  pub two : IsLevelDue r.config place c level.Two (book_of r level.Two) d.two

-- of a router's circuit (own)
abbrev pub IsDue : Router → ℕ → Due → Type 0
IsDue r place d = IfSome (nth r.circuits place) (IsDueOn r place d)

-- of a level there (own)
abbrev pub IsDueAt : Router → ℕ → Level → LevelDue → Type 0
IsDueAt r place l d = IfSome (nth r.circuits place) (λ c. IsLevelDue r.config place c l (book_of r l) d)
