-- Flags stand on open circuits alone: what deeds on one cell keep of it, and so what a step keeps.
use Rattle.std.proofs.Common.{◌≡◌, ℕ, eqb, Bool, true, false, not, ◌&&◌, ◌||◌, List, Option, Some, None, refl, sym, ◌∙◌, subst}
use Rattle.isis_base.specs.declared.level.Level.{Level}
use Rattle.isis_base.specs.declared.level.Level.TheVariants as level
use Rattle.model_router.specs.Sets.{has, with_one, without}
use Rattle.model_router.specs.Cells.{Cell}
use Rattle.model_router.specs.Books.{cell_at, srm_of, ssn_of}
use Rattle.model_router.specs.Configs.{Config}
use Rattle.model_router.specs.Routers.{Circuit, Router, book_of}
use Rattle.model_router.specs.Givens.{Given}
use Rattle.model_router.specs.Events.{Event}
use Rattle.model_router.specs.Steps.{step}
use Rattle.model_router.specs.Starts.{start}
use Rattle.model_router.proofs.SetLemmas.{has-with_one, has-without, has-none}
use Rattle.model_router.proofs.BookLemmas.{same-or}
use Rattle.model_router.proofs.FloodLemmas.{covers-more}
use Rattle.model_router.proofs.RouterLemmas.{off-other}
use Rattle.step_laws.specs.Flags.{FlagsAreOpen}
use Rattle.step_laws.proofs.FlagLemmas.{Rule, Fits, Whole}
use Rattle.step_laws.proofs.FlagRouters.{Holds, step-holds}

-- ---- sets of circuits

-- a set is within another
abbrev pub Within : ℕ → ℕ → Type 0
Within a b = (q : ℕ) → has a q ≡ true → has b q ≡ true

within-none : (b : ℕ) → Within 0 b
within-none b q k = absurd (let n = has-none q in cc)

was-on : (set place q : ℕ) → has (without set place) q ≡ true → (eqb place q ≡ false) × (has set q ≡ true)
was-on set place q e = both-of (eqb place q) (has set q) (sym (has-without set place q) ∙ e)
  where
    both-of : (a b : Bool) → (not a && b) ≡ true → (a ≡ false) × (b ≡ true)
    both-of true b e = absurd (cc)
    both-of false b e = (refl, e)

within-fewer : (a b place : ℕ) → Within a b → Within (without a place) b
within-fewer a b place h q k = h q (was-on a place q k).1

within-more : (a b place : ℕ) → has b place ≡ true → Within a b → Within (with_one a place) b
within-more a b place o h q k =
    same-or (λ (t : Bool). (t || has a q) ≡ true → has b q ≡ true) place q
    (λ same _. subst (λ (n : ℕ). has b n ≡ true) same o) (λ _ m. h q m) (sym (has-with_one a place q) ∙ k)

within-closed : (a b place : ℕ) → Within a b → Within (without a place) (without b place)
within-closed a b place h q k = let was = was-on a place q k in off-other b place q was.0 (h q was.1)

within-opened : (a b place : ℕ) → Within a b → Within a (with_one b place)
within-opened a b place h q k = covers-more b place q (h q k)

-- ---- the rule

-- SRM and SSN of a cell are within the open circuits
record AreWithin (opened srm ssn : ℕ) : Type 0 where
  sent : Within srm opened
  owed : Within ssn opened

abbrev open-rule : Rule
open-rule = record {
  holds = λ opened srm ssn w. AreWithin opened srm ssn;
  flooded = λ opened. record { sent = λ q k. k; owed = within-none opened };
  stored = λ opened place ssn o f. record {
    sent = within-fewer opened opened place (λ q k. k);
    owed = λ q k. subst (λ (n : ℕ). has opened n ≡ true) (f q k) o;
  };
  empty = λ opened. record { sent = within-none opened; owed = within-none opened };
  srm_set = λ opened srm ssn w place o k. record { sent = within-more srm opened place o k.sent; owed = k.owed };
  srm_cleared = λ opened srm ssn w place k. record { sent = within-fewer srm opened place k.sent; owed = k.owed };
  ssn_set = λ opened srm ssn w place o k. record { sent = k.sent; owed = within-more ssn opened place o k.owed };
  ssn_cleared = λ opened srm ssn w place k. record { sent = k.sent; owed = within-fewer ssn opened place k.owed };
  sends = λ opened srm ssn w place on k. k;
  falls = λ opened srm ssn w k. k;
  closes = λ opened srm ssn w place k. record { sent = within-closed srm opened place k.sent; owed = within-closed ssn opened place k.owed };
  opens = λ opened srm ssn w place k. record { sent = within-opened srm opened place k.sent; owed = within-opened ssn opened place k.owed };
}

-- ---- the law

fits-of : (opened : ℕ) (held : Option Cell) → ((q : ℕ) → srm_of held q ≡ true → has opened q ≡ true) → ((q : ℕ) → ssn_of held q ≡ true → has opened q ≡ true)
    → Fits open-rule opened held
fits-of opened None f g = tt
fits-of opened (Some c) f g = record { sent = f; owed = g }

srm-fits : (opened : ℕ) (held : Option Cell) (q : ℕ) → Fits open-rule opened held → srm_of held q ≡ true → has opened q ≡ true
srm-fits opened None q k e = absurd (cc)
srm-fits opened (Some c) q k e = k.sent q e

ssn-fits : (opened : ℕ) (held : Option Cell) (q : ℕ) → Fits open-rule opened held → ssn_of held q ≡ true → has opened q ≡ true
ssn-fits opened None q k e = absurd (cc)
ssn-fits opened (Some c) q k e = k.owed q e

holds-of : (r : Router) → FlagsAreOpen r → Holds open-rule r
holds-of r h = record { on = λ l. record { same = refl; on = λ id. fits-of (book_of r l).opened (cell_at (book_of r l) id) (h.srm l id) (h.ssn l id) } }

of-holds : (r : Router) → Holds open-rule r → FlagsAreOpen r
of-holds r k = record {
  srm = λ l id place. srm-fits (book_of r l).opened (cell_at (book_of r l) id) place ((k.on l).on id);
  ssn = λ l id place. ssn-fits (book_of r l).opened (cell_at (book_of r l) id) place ((k.on l).on id);
}

pub step-open : (given : Given) (r : Router) (event : Event) → FlagsAreOpen r → FlagsAreOpen (step given r event).router
step-open given r event h = of-holds (step given r event).router (step-holds open-rule given r event (holds-of r h))

pub start-open : (config : Config) (boot : ℕ) (circuits : List Circuit) → FlagsAreOpen (start config boot circuits)
start-open config boot circuits = of-holds (start config boot circuits) (record { on = each-level })
  where
    each-level : (l : Level) → Whole open-rule (book_of (start config boot circuits) l)
    each-level level.One = record { same = refl; on = λ id. tt }
    each-level level.Two = record { same = refl; on = λ id. tt }
