-- What each deed on a level does for flooding.
use Rattle.std.proofs.Common.{◌≡◌, ℕ, ◌≤◌, ◌==◌, Bool, true, false, ◌||◌, nat_lt, nat_le, List, [], ◌∷◌, inr, Option, Some, None, if◌then◌else◌, refl, ap, ◌∙◌, subst, arith, zero-le, le_refl}
use Rattle.std.proofs.lemmas.Bool.Decides.{nat_tests}
use Rattle.model_router.specs.Ranks.{number_of, is_live}
use Rattle.model_router.specs.Sets.{has}
use Rattle.model_router.specs.Cells.{Cell, Heard, purged, purge_of, flagged}
use Rattle.model_router.specs.Books.{Book, cell_at, rank_of, rank_at, set_cell}
use Rattle.model_router.specs.LetGos.{LetGo, contains, with_id, lets_go, let_go}
use Rattle.model_router.specs.Routers.{Contents, LevelState}
use Rattle.model_router.specs.OwnLsps.{install, retire}
use Rattle.model_router.specs.Takes.{last_purge, held_purge}
use Rattle.model_router.specs.Ageing.{less, is_let_go, age_cell, age_one}
use Rattle.model_router.specs.Flooding.{Floods, CellCovers, Keeps}
use Rattle.model_router.proofs.BookLemmas.{choose, test, cells-after, opened-set_cell, p2p-set_cell}
use Rattle.model_router.proofs.FloodLemmas.{flooded-cell, set-floods, floods-refl, floods-trans, level-cell, ack-cell}

-- ---- what is let go

true-not-false : {A : Type 0} → true ≡ false → A
true-not-false e = absurd (cc)

contains-with_id : (ids : List ℕ) (id q : ℕ) → contains (with_id ids id) q ≡ (id == q || contains ids q)
contains-with_id [] id q = refl
contains-with_id (x ∷ ids) id q = grind (arith, nat_tests, contains-with_id ids id q)

pub let_go-grows : (g : LetGo) (x id : ℕ) → lets_go g id ≡ true → lets_go (let_go g x) id ≡ true
unfolding lets_go let_go
let_go-grows None x id e = refl
let_go-grows (Some ids) x id e = grind (arith, nat_tests, contains-with_id ids x id)

pub let_go-has : (g : LetGo) (x : ℕ) → lets_go (let_go g x) x ≡ true
unfolding lets_go let_go
let_go-has None x = refl
let_go-has (Some ids) x = grind (arith, nat_tests, contains-with_id ids x x)

-- ---- what keeps a level's flooding

floods-weaken : (heard : ℕ → ℕ → ℕ) (gone more : ℕ → Bool) (a b : Book) → ((id : ℕ) → gone id ≡ true → more id ≡ true) → Floods heard gone a b → Floods heard more a b
floods-weaken heard gone more a b w f = record {
  kinds = f.kinds;
  rank = λ id e. f.rank id (test (λ t. gone id ≡ t → gone id ≡ false) (gone id) (λ g. λ _. absurd (let k = w id g in cc)) (λ g. λ _. g) refl);
  covers = f.covers;
  rises = f.rises;
}

pub keeps-refl : (heard : ℕ → ℕ → ℕ) (s : LevelState) → Keeps heard s s
keeps-refl heard s = record { grows = λ id e. e; floods = floods-refl heard _ s.book }

pub keeps-trans : (heard : ℕ → ℕ → ℕ) (a b c : LevelState) → Keeps heard a b → Keeps heard b c → Keeps heard a c
keeps-trans heard a b c f g = record {
  grows = λ id e. g.grows id (f.grows id e);
  floods = floods-trans heard (lets_go c.gone) a.book b.book c.book (floods-weaken heard (lets_go b.gone) (lets_go c.gone) a.book b.book g.grows f.floods) g.floods;
}

-- the book alone changes
pub book-keeps : (heard : ℕ → ℕ → ℕ) (s t : LevelState) → t.gone ≡ s.gone → ((gone : ℕ → Bool) → Floods heard gone s.book t.book) → Keeps heard s t
book-keeps heard s t e f = record { grows = λ id g. rw e g; floods = f (lets_go t.gone) }

-- ---- own LSPs

pub install-keeps : (heard : ℕ → ℕ → ℕ) (s : LevelState) (id : ℕ) (contents : Contents) (c : Cell) → rank_at s.book id ≤ c.rank → Keeps heard s (install s id contents c)
unfolding install
install-keeps heard s id contents c h = book-keeps heard s _ refl (λ gone. set-floods heard gone s.book id _ (flooded-cell s.book.opened s.book.p2p (λ (q : ℕ). heard q id) (cell_at s.book id) c 0 h))

pub retire-keeps : (heard : ℕ → ℕ → ℕ) (s : LevelState) (id : ℕ) (c : Cell) → rank_at s.book id ≤ c.rank → Keeps heard s (retire s id c)
unfolding retire
retire-keeps heard s id c h = book-keeps heard s _ refl (λ gone. set-floods heard gone s.book id _ (flooded-cell s.book.opened s.book.p2p (λ (q : ℕ). heard q id) (cell_at s.book id) c 0 h))

pub last-rank : (held : Option Cell) (h : Heard) → rank_of held ≤ h.rank → rank_of held ≤ (last_purge held h).rank
last-rank None h e = zero-le
last-rank (Some c) h e = choose (λ (d : Cell). c.rank ≤ d.rank) (nat_lt c.rank h.rank) (purge_of (number_of h.rank) h.flags h.octets) (purged c) (λ _. omega (arith, e)) (λ _. omega arith)

pub held-rank : (held : Option Cell) → rank_of held ≤ (held_purge held).rank
held-rank None = zero-le
held-rank (Some c) = omega arith

-- ---- a second of the entries

-- an LSP ID that is let go may lose what is held of it
erased-floods : (heard : ℕ → ℕ → ℕ) (gone : ℕ → Bool) (b : Book) (id : ℕ) → gone id ≡ true → Floods heard gone b (set_cell b id None)
erased-floods heard gone b id g = record {
  kinds = p2p-set_cell b id None;
  rank = λ x. cells-after (λ y cell. gone y ≡ false → rank_at b y ≤ rank_of cell) b id None (λ k. absurd (cc)) (λ y _. le_refl _) x;
  covers = λ x q old o k.
      let o' : has b.opened q ≡ true = subst (λ (n : ℕ). has n q ≡ true) (opened-set_cell b id None) o in
      let k' : has b.p2p q ≡ true = subst (λ (n : ℕ). has n q ≡ true) (p2p-set_cell b id None) k in
      cells-after (λ y cell. CellCovers (heard q y) (cell_at b y) q → CellCovers (heard q y) cell q) b id None (λ _. inr zero-le) (λ y i. i) x (old o' k');
  rises = λ x q up. absurd (let k : rank_at (set_cell b id None) x ≤ rank_at b x = cells-after (λ y cell. rank_of cell ≤ rank_at b y) b id None zero-le (λ y. le_refl _) x in omega arith);
}

empty-rank : (c : Cell) → nat_le 2 c.left ≡ false → is_live c.rank ≡ false → is_let_go c ≡ false → c.rank ≡ 0
empty-rank c t u v = grind (arith, nat_tests)

-- a purge that ends is let go, and an empty entry has no key
erased : (heard : ℕ → ℕ → ℕ) (s : LevelState) (id : ℕ) (c : Cell) → cell_at s.book id ≡ Some c → nat_le 2 c.left ≡ false → is_live c.rank ≡ false → Floods heard (lets_go (if is_let_go c then let_go s.gone id else s.gone)) s.book (set_cell s.book id None)
erased heard s id c e t u =
    choose (λ (g : LetGo). Floods heard (lets_go g) s.book (set_cell s.book id None)) (is_let_go c) (let_go s.gone id) s.gone
    (λ _. erased-floods heard (lets_go (let_go s.gone id)) s.book id (let_go-has s.gone id))
    (λ v. let none : rank_at s.book id ≡ 0 = ap rank_of e ∙ empty-rank c t u v in set-floods heard (lets_go s.gone) s.book id None (ack-cell s.book.opened s.book.p2p (λ (q : ℕ). heard q id) (cell_at s.book id) none))

age_cell-keeps : (heard : ℕ → ℕ → ℕ) (s : LevelState) (id : ℕ) (held : Option Cell) → cell_at s.book id ≡ held → Keeps heard s (age_cell s id held)
age_cell-keeps heard s id None e = keeps-refl heard s
age_cell-keeps heard s id (Some c) e =
    let after : LetGo = if is_let_go c then let_go s.gone id else s.gone in
    record {
      grows = λ x k. choose (λ (g : LetGo). lets_go g x ≡ true) (is_let_go c) (let_go s.gone id) s.gone (λ _. let_go-grows s.gone id x k) (λ _. k);
      floods =
          choose (λ (d : Option Cell). Floods heard (lets_go after) s.book (set_cell s.book id d)) (nat_le 2 c.left) (Some (less c)) (if is_live c.rank then Some (flagged (purged c) s.book.opened 0) else None)
          (λ _. set-floods heard (lets_go after) s.book id (Some (less c)) (rw e (level-cell s.book.opened s.book.p2p (λ (q : ℕ). heard q id) c (less c) refl refl)))
          (λ t. choose (λ (d : Option Cell). Floods heard (lets_go after) s.book (set_cell s.book id d)) (is_live c.rank) (Some (flagged (purged c) s.book.opened 0)) None
          (λ _. set-floods heard (lets_go after) s.book id _ (rw e (flooded-cell s.book.opened s.book.p2p (λ (q : ℕ). heard q id) (Some c) (purged c) 0 (omega arith))))
          (λ u. erased heard s id c e t u));
    }

pub age_one-keeps : (heard : ℕ → ℕ → ℕ) (s : LevelState) (id : ℕ) → Keeps heard s (age_one s id)
unfolding age_one
age_one-keeps heard s id = age_cell-keeps heard s id (cell_at s.book id) refl
