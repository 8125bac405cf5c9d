-- What the counts of a report come to.
use Rattle.std.proofs.Common.{◌≡◌, ℕ, zero, suc, ◌+◌, ◌<◌, nat_lt, Bool, true, false, length, drop, List, [], ◌∷◌, ◌++◌, Some, if◌then◌else◌, refl, sym, ap, ◌∙◌, subst, arith}
use Rattle.std.proofs.lemmas.Bool.Decides.{nat_tests}
use Rattle.std.specs.Borrow.{Bor}
use Rattle.isis_base.specs.declared.level.Level.{Level}
use Rattle.model_router.specs.Places.{nth}
use Rattle.model_router.specs.Routers.{Router}
use Rattle.route_table.specs.declared.route.Route.{Route}
use Rattle.router_routes.specs.Outlooks.{outlook_of}
use Rattle.router_routes.specs.Candidates.{AreRoutesOf}
use Rattle.network_lab.specs.LinkStates.{runs_at, runs_of}
use Rattle.lab_report.specs.Reports.{count_on, routes_at}
use Rattle.lab_report.specs.ReportLeft.{routes_of}

-- the next router counts where it runs the level
counts-on : (rs : List Router) (i : ℕ) (level : Level) → i < length rs → (if runs_at rs i level then 1 else 0) + count_on (runs_of (drop (suc i) rs) level) ≡ count_on (runs_of (drop i rs) level)
counts-on [] i level h = absurd (omega (arith, h))
counts-on (r ∷ rs) zero level h = refl
counts-on (r ∷ rs) (suc i) level h = counts-on rs i level (omega (arith, h))

pub next-counts : (rs : List Router) (i : ℕ) (level : Level) → i < length rs → (if runs_at rs i level then 1 else 0) + count_on (runs_of (drop (i + 1) rs) level) ≡ count_on (runs_of (drop i rs) level)
next-counts rs i level h =
    let one : suc i ≡ i + 1 = omega arith in
    subst (λ (n : ℕ). (if runs_at rs i level then 1 else 0) + count_on (runs_of (drop n rs) level) ≡ count_on (runs_of (drop i rs) level)) one (counts-on rs i level h)

-- ---- the routes of routers

some-same : (a b : Router) → Some a ≡ Some b → a ≡ b
some-same a b e = cc

pub nth-within : (rs : List Router) (i : ℕ) (r : Router) → nth rs i ≡ Some r → i < length rs
nth-within [] i r e = absurd (cc)
nth-within (x ∷ rs) zero r e = omega arith
nth-within (x ∷ rs) (suc i) r e = let h = nth-within rs i r e in omega (arith, h)

at-front : (xs : List (Bor (List Route))) (t : Bor (List Route)) (i : ℕ) → i < length xs → routes_at (routes_of (xs ++ t ∷ [])) i ≡ routes_at (routes_of xs) i
at-front [] t i h = absurd (omega (arith, h))
at-front (x ∷ xs) t zero h = refl
at-front (x ∷ xs) t (suc i) h = at-front xs t i (omega (arith, h))

at-end : (xs : List (Bor (List Route))) (t : Bor (List Route)) → routes_at (routes_of (xs ++ t ∷ [])) (length xs) ≡ t.now
at-end [] t = refl
at-end (x ∷ xs) t = at-end xs t

-- a table more, of the router behind those that have theirs
pub routes-more : (rs : List Router) (tables : List (Bor (List Route))) (table : Bor (List Route)) (now : List (Bor (List Route))) (n : ℕ) (a : Router) → now ≡ tables ++ table ∷ [] → length tables ≡ n → nth rs n ≡ Some a → AreRoutesOf (outlook_of a) table.now
    → ((i : ℕ) (r : Router) → i < n → nth rs i ≡ Some r → AreRoutesOf (outlook_of r) (routes_at (routes_of tables) i))
    → (i : ℕ) (r : Router) → i < n + 1 → nth rs i ≡ Some r → AreRoutesOf (outlook_of r) (routes_at (routes_of now) i)
routes-more rs tables table now n a q count at is so_far i r h e = by (nat_lt i n) refl
  where
    before : nat_lt i n ≡ true → i < n
    before k = grind (arith, nat_tests, k)

    last : nat_lt i n ≡ false → i ≡ n
    last k = grind (arith, nat_tests, h, k)

    by : (b : Bool) → nat_lt i n ≡ b → AreRoutesOf (outlook_of r) (routes_at (routes_of now) i)
    by true k =
        let same = ap (λ (ts : List (Bor (List Route))). routes_at (routes_of ts) i) q ∙ at-front tables table i (subst (λ (m : ℕ). i < m) (sym count) (before k)) in
        subst (λ (t : List Route). AreRoutesOf (outlook_of r) t) (sym same) (so_far i r (before k) e)
    by false k =
        let there : i ≡ length tables = last k ∙ sym count in
        let own : a ≡ r = some-same a r (sym at ∙ (ap (λ (j : ℕ). nth rs j) (sym (last k)) ∙ e)) in
        let same = ap (λ (ts : List (Bor (List Route))). routes_at (routes_of ts) i) q ∙ (ap (λ (j : ℕ). routes_at (routes_of (tables ++ table ∷ [])) j) there ∙ at-end tables table) in
        subst (λ (t : List Route). AreRoutesOf (outlook_of r) t) (sym same) (subst (λ (x : Router). AreRoutesOf (outlook_of x) table.now) own is)
