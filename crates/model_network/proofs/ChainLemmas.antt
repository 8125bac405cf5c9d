-- A clean link joins two routers of one live view, and so does a chain of clean links and sweeps.
use Rattle.std.proofs.Common.{◌≡◌, ℕ, ◌+◌, ◌≤◌, ◌==◌, Bool, true, false, ⊎_elim, List, [], ◌∷◌, Option, Some, if◌then◌else◌, refl, sym, ap, ◌∙◌, subst, arith}
use Rattle.isis_base.specs.declared.level.Level.{Level}
use Rattle.model_router.specs.Maps.{find}
use Rattle.model_router.specs.Places.{nth}
use Rattle.model_router.specs.Sets.{has}
use Rattle.model_router.specs.Cells.{Cell}
use Rattle.model_router.specs.Books.{rank_at, srm_of, srm_at}
use Rattle.model_router.specs.Routers.{Router, book_of}
use Rattle.model_router.specs.Flooding.{IsKept}
use Rattle.model_router.proofs.BookLemmas.{test}
use Rattle.model_network.specs.Networks.{Network}
use Rattle.model_network.specs.Ports.{Port}
use Rattle.model_network.specs.Links.{Standing}
use Rattle.model_network.specs.Counts.{count_where, flags}
use Rattle.model_network.specs.Kept.{IsKeptNet}
use Rattle.model_network.proofs.KeptLemmas.{kept-claim}
use Rattle.model_network.specs.LiveViews.{live_rank, live_at}
use Rattle.model_network.specs.Chains.{IsClean, AreJoined, Clean, CleanBack, Swept, SweptBack, Leads, Stays, Along, IsKeptBy}
use Rattle.model_network.specs.Sweeps.{AreAgreed}
use Rattle.model_network.proofs.SweepLemmas.{swept-live}

-- no flag stands where none is counted
no-flag : (cells : List (ℕ × Cell)) (place id : ℕ) → count_where (λ (_ : ℕ) (c : Cell). has c.srm place) cells ≡ 0 → srm_of (find cells id) place ≡ false
no-flag [] place id e = refl
no-flag (x ∷ cells) place id e = by-flag (has x.1.srm place) refl e (λ k. no-flag cells place id k)
  where
    by-flag : (t : Bool) → has x.1.srm place ≡ t → (if t then 1 else 0) + count_where (λ (_ : ℕ) (c : Cell). has c.srm place) cells ≡ 0
        → (count_where (λ (_ : ℕ) (c : Cell). has c.srm place) cells ≡ 0 → srm_of (find cells id) place ≡ false) → srm_of (find (x ∷ cells) id) place ≡ false
    by-flag true y k rest = absurd (omega (arith, k))
    by-flag false y k rest = test (λ t. srm_of (if t then Some x.1 else find cells id) place ≡ false) (x.0 == id) (λ _. y) (λ _. rest (omega (arith, k)))

-- who stands to another without a flag holds nothing newer
covered-rank : (e : Port) (a b : Router) (l : Level) (id : ℕ) → flags a e.place l ≡ 0 → Standing a e.place b l id → rank_at (book_of a l) id ≤ rank_at (book_of b l) id
covered-rank e a b l id quiet s =
    ⊎_elim (λ (f : srm_at (book_of a l) id e.place ≡ true). absurd (let n : srm_at (book_of a l) id e.place ≡ false = no-flag (book_of a l).cells e.place id quiet in cc)) (λ h. h)
    s

one-rank : (m n : ℕ) → m ≤ n → n ≤ m → m ≡ n
one-rank m n h k = omega (arith, h, k)

same-router : (a b : Router) → ◌≡◌ {A = Option Router} (Some a) (Some b) → a ≡ b
same-router a b e = cc

-- the routers of a clean link
clean-ends : (net : Network) (l : Level) (i j : ℕ) (id : ℕ) → IsKeptNet net → net.injected ≡ 0 → (c : IsClean net l i j) → IsKept c.a l id → IsKept c.b l id → live_at c.a l id ≡ live_at c.b l id
clean-ends net l i j id kept none c ka kb =
    let claim = (kept-claim net c.near c.far c.link c.a c.b l kept none c.up).claim in
    ap live_rank (one-rank _ _
    (covered-rank c.near c.a c.b l id c.quiet (claim.there id ka kb))
    (covered-rank c.far c.b c.a l id c.quiet_there (claim.back id ka kb)))

clean-agrees : (net : Network) (l : Level) (i j : ℕ) (a b : Router) (id : ℕ) → IsKeptNet net → net.injected ≡ 0 → IsClean net l i j
    → nth net.routers i ≡ Some a → nth net.routers j ≡ Some b → IsKept a l id → IsKept b l id → live_at a l id ≡ live_at b l id
clean-agrees net l i j a b id kept none c x y ka kb =
    let same_a : c.a ≡ a = same-router c.a a (sym c.up.near ∙ ap (λ (n : ℕ). nth net.routers n) c.here ∙ x) in
    let same_b : c.b ≡ b = same-router c.b b (sym c.up.far ∙ ap (λ (n : ℕ). nth net.routers n) c.there ∙ y) in
    let near = subst (λ (r : Router). IsKept r l id) (sym same_a) ka in
    let far = subst (λ (r : Router). IsKept r l id) (sym same_b) kb in
    ap (λ (r : Router). live_at r l id) (sym same_a) ∙ clean-ends net l i j id kept none c near far ∙ ap (λ (r : Router). live_at r l id) same_b

-- routers that are joined hold the same live LSP where neither let it go
pub joined-agrees : (net : Network) (l : Level) (i j : ℕ) (a b : Router) (id : ℕ) → IsKeptNet net → net.injected ≡ 0 → AreAgreed net net.takings → AreJoined net l i j
    → nth net.routers i ≡ Some a → nth net.routers j ≡ Some b → IsKept a l id → IsKept b l id → live_at a l id ≡ live_at b l id
joined-agrees net l i j a b id kept none agreed (Clean q) x y ka kb = clean-agrees net l i j a b id kept none q x y ka kb
joined-agrees net l i j a b id kept none agreed (CleanBack q) x y ka kb = sym (clean-agrees net l j i b a id kept none q y x kb ka)
joined-agrees net l i j a b id kept none agreed (Swept link q) x y ka kb = swept-live net link l i j a b id kept.speaking agreed q x y
joined-agrees net l i j a b id kept none agreed (SweptBack link q) x y ka kb = sym (swept-live net link l j i b a id kept.speaking agreed q y x)

pub chain-agrees : (net : Network) (l : Level) (i j : ℕ) (a b : Router) (id : ℕ) → IsKeptNet net → net.injected ≡ 0 → AreAgreed net net.takings → Leads net l i j → IsKeptBy net l i id
    → nth net.routers i ≡ Some a → nth net.routers j ≡ Some b → live_at a l id ≡ live_at b l id
chain-agrees net l i j a b id kept none agreed (Stays _) by x y = ap (λ (r : Router). live_at r l id) (same-router a b (sym x ∙ y))
chain-agrees net l i k a b id kept none agreed (Along _ j _ c z joined rest) by x y =
    joined-agrees net l i j a c id kept none agreed joined x z ka kc
    ∙ chain-agrees net l j k c b id kept none agreed rest (record { kept = λ m r v q. by.kept m r (Along i j m c z joined v) q }) z y
  where
    ka : IsKept a l id
    ka = by.kept i a (Stays i) x

    kc : IsKept c l id
    kc = by.kept j c (Along i j j c z joined (Stays j)) z
