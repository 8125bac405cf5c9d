-- Choices by cases, and a cell that was set.
use Rattle.std.proofs.Common.{◌≡◌, ℕ, eqb, ◌≢◌, Bool, true, false, Option, if◌then◌else◌, refl, subst, arith}
use Rattle.std.proofs.lemmas.Bool.Decides.{nat_tests}
use Rattle.model_router.specs.Cells.{Cell}
use Rattle.model_router.specs.Books.{Book, cell_at, set_cell}
use Rattle.model_router.proofs.MapLemmas.{find-set_at}

-- a choice, by its two cases
pub choose : {A : Type 0} (P : A → Type 0) (t : Bool) (x y : A) → (t ≡ true → P x) → (t ≡ false → P y) → P (if t then x else y)
choose P true x y f g = f refl
choose P false x y f g = g refl

pub test : (P : Bool → Type 0) (t : Bool) → (t ≡ true → P true) → (t ≡ false → P false) → P t
test P true f g = f refl
test P false f g = g refl

-- a test of two numbers, by its two cases
pub same-or : (P : Bool → Type 0) (a b : ℕ) → (a ≡ b → P true) → (a ≢ b → P false) → P (eqb a b)
same-or P a b f g = test P (eqb a b) (λ e. f (grind (arith, nat_tests))) (λ e. g (λ s. grind (arith, nat_tests)))

pub cell_at-set_cell : (b : Book) (id : ℕ) (c : Option Cell) (q : ℕ) → cell_at (set_cell b id c) q ≡ (if eqb id q then c else cell_at b q)
unfolding set_cell
cell_at-set_cell b id c q = find-set_at b.cells id c q

-- what holds of the cell that is set, and of all others, holds of each cell after it
pub cells-after : (P : ℕ → Option Cell → Type 0) (b : Book) (id : ℕ) (c : Option Cell) → P id c → ((q : ℕ) → P q (cell_at b q)) → (q : ℕ) → P q (cell_at (set_cell b id c) q)
cells-after P b id c this other q =
    rw (cell_at-set_cell b id c q)
    (choose (P q) (eqb id q) c (cell_at b q) (λ e. let same : id ≡ q = grind (arith, nat_tests) in subst (λ (n : ℕ). P n c) same this) (λ e. other q))

pub opened-set_cell : (b : Book) (id : ℕ) (c : Option Cell) → (set_cell b id c).opened ≡ b.opened
unfolding set_cell
opened-set_cell b id c = refl

pub p2p-set_cell : (b : Book) (id : ℕ) (c : Option Cell) → (set_cell b id c).p2p ≡ b.p2p
unfolding set_cell
p2p-set_cell b id c = refl
