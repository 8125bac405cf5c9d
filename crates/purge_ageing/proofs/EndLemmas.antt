-- A second as two steps: a second less for all entries, and the end of those that have none left.
use Rattle.std.proofs.Common.{◌≡◌, Bool, true, false, if◌then◌else◌, ℕ, ◌+◌, ◌-◌, ◌*◌, ◌/◌, ◌≤◌, ◌<◌, eqb, nat_lt, nat_le, ◌&&◌, ◌||◌, List, [], ◌∷◌, ◌++◌, Option, Some, None, refl, sym, ap, ap₂, ◌∙◌, subst, arith}
use Rattle.std.proofs.lemmas.Bool.Decides.{nat_tests}
use Rattle.std.proofs.lemmas.List.{append_assoc}
use Rattle.std.specs.Option.{option_map}
use Rattle.model_router.specs.Maps.{find, put, erase, set_at, each}
use Rattle.model_router.specs.Sorted.{RisesFrom}
use Rattle.model_router.specs.Ranks.{is_live, is_purge}
use Rattle.model_router.specs.Cells.{Cell, flagged, purged}
use Rattle.model_router.specs.Books.{Book, cell_at, rank_of, rank_at, risen, set_cell}
use Rattle.model_router.specs.LetGos.{LetGo, let_go}
use Rattle.model_router.specs.Routers.{Issued, LevelState}
use Rattle.model_router.specs.Ageing.{less, aged, is_let_go, age_cell, age_one, age_all, age}
use Rattle.model_router.proofs.MapLemmas.{find-set_at, find-each}
use Rattle.flag_sync.specs.Ages.{less_left, over_from, first_of}
use Rattle.purge_ageing.specs.Ids.{Rises}
use Rattle.purge_ageing.specs.Ends.{state_of, ended, end_id, end_all, some_keyed}

-- ---- one LSP ID among others in order

-- each key is below n
abbrev pub AllUnder : ℕ → List (ℕ × Cell) → Type 0
AllUnder n [] = Unit {0}
AllUnder n (p ∷ xs) = (p.0 < n) × AllUnder n xs

-- what stands of a number
abbrev pub one : ℕ → Option Cell → List (ℕ × Cell)
one n None = []
one n (Some cell) = (n, cell) ∷ []

under-more : (least n : ℕ) (xs : List (ℕ × Cell)) → least ≤ n → AllUnder least xs → AllUnder n xs
under-more least n [] le a = tt
under-more least n (p ∷ xs) le a = (let h = a.0 in omega (arith, h, le), under-more least n xs le a.1)

under-one : (n : ℕ) (xs : List (ℕ × Cell)) (v : Option Cell) → AllUnder n xs → AllUnder (n + 1) (xs ++ one n v)
under-one n [] None a = tt
under-one n [] (Some cell) a = (omega arith, tt)
under-one n (p ∷ xs) v a = (let h = a.0 in omega (arith, h), under-one n xs v a.1)

find-mid : (done rest : List (ℕ × Cell)) (n : ℕ) (cell : Cell) → AllUnder n done → find (done ++ (n, cell) ∷ rest) n ≡ Some cell
find-mid [] rest n cell a = grind (arith, nat_tests)
find-mid (p ∷ done) rest n cell a = let h = a.0 in grind (arith, nat_tests, h, find-mid done rest n cell a.1)

put-mid : (done rest : List (ℕ × Cell)) (n : ℕ) (cell v : Cell) → AllUnder n done → put (done ++ (n, cell) ∷ rest) n v ≡ done ++ (n, v) ∷ rest
unfolding put
put-mid [] rest n cell v a = grind (arith, nat_tests)
put-mid (p ∷ done) rest n cell v a = let h = a.0 in grind (arith, nat_tests, h, put-mid done rest n cell v a.1)

erase-above : (rest : List (ℕ × Cell)) (least n : ℕ) → n < least → RisesFrom least rest → erase rest n ≡ rest
unfolding erase
erase-above [] least n lt r = refl
erase-above (p ∷ rest) least n lt r = let h = r.0 in grind (arith, nat_tests, h, lt, erase-above rest (p.0 + 1) n (omega (arith, h, lt)) r.1)

erase-mid : (done rest : List (ℕ × Cell)) (n : ℕ) (cell : Cell) → AllUnder n done → RisesFrom (n + 1) rest → erase (done ++ (n, cell) ∷ rest) n ≡ done ++ rest
unfolding erase
erase-mid [] rest n cell a r = let h = erase-above rest (n + 1) n (omega arith) r in grind (arith, nat_tests, h)
erase-mid (p ∷ done) rest n cell a r = let h = a.0 in grind (arith, nat_tests, h, erase-mid done rest n cell a.1 r)

set-mid : (done rest : List (ℕ × Cell)) (n : ℕ) (cell : Cell) (v : Option Cell) → AllUnder n done → RisesFrom (n + 1) rest → set_at (done ++ (n, cell) ∷ rest) n v ≡ done ++ (one n v ++ rest)
set-mid done rest n cell None a r = erase-mid done rest n cell a r
set-mid done rest n cell (Some v) a r = put-mid done rest n cell v a

-- ---- both sides, one LSP ID after another

-- the count of changes
abbrev count : ℕ → ℕ → ℕ → ℕ
count changes new old = if eqb new old then changes else risen changes

module _ (opened p2p : ℕ) (own : List (ℕ × Issued)) where
  abbrev pub at : List (ℕ × Cell) → ℕ → LetGo → LevelState
  at cells changes gone = state_of (record { cells = cells; opened = opened; p2p = p2p; changes = changes }) own gone

  age-at : (done rest : List (ℕ × Cell)) (n : ℕ) (cell : Cell) (k : ℕ) (gone : LetGo) → AllUnder n done → RisesFrom (n + 1) rest → age_one (at (done ++ (n, cell) ∷ rest) k gone) n ≡ at (done ++ (one n (aged opened cell) ++ rest)) (count k (rank_of (aged opened cell)) cell.rank) (if is_let_go cell then let_go gone n else gone)
  unfolding age_one set_cell
  age-at done rest n cell k gone a r =
      let found = find-mid done rest n cell a in
      let set = set-mid done rest n cell (aged opened cell) a r in
      ap (age_cell (at (done ++ (n, cell) ∷ rest) k gone) n) found
      ∙ ap₂ (λ (cs : List (ℕ × Cell)) (o : Option Cell). at cs (count k (rank_of (aged opened cell)) (rank_of o)) (if is_let_go cell then let_go gone n else gone)) set found

  end-at : (done rest : List (ℕ × Cell)) (n : ℕ) (cell : Cell) (k : ℕ) (gone : LetGo) → AllUnder n done → RisesFrom (n + 1) rest → end_id (at (done ++ (n, cell) ∷ rest) k gone) n ≡ at (done ++ (one n (ended opened (Some cell)) ++ rest)) (count k (rank_of (ended opened (Some cell))) cell.rank) (if is_purge cell.rank then let_go gone n else gone)
  unfolding set_cell
  end-at done rest n cell k gone a r =
      let found = find-mid done rest n cell a in
      let set = set-mid done rest n cell (ended opened (Some cell)) a r in
      ap (λ (o : Option Cell). let v = ended opened o in at (set_at (done ++ (n, cell) ∷ rest) n v) (count k (rank_of v) (rank_of o)) (if is_purge (rank_of o) then let_go gone n else gone)) found
      ∙ ap (λ (cs : List (ℕ × Cell)). at cs (count k (rank_of (ended opened (Some cell))) cell.rank) (if is_purge cell.rank then let_go gone n else gone)) set

  abbrev pub lessened : List (ℕ × Cell) → List (ℕ × Cell)
  lessened rest = each (λ (_ : ℕ) (cell : Cell). less cell) rest

  pub less-rises : (least : ℕ) (rest : List (ℕ × Cell)) → RisesFrom least rest → RisesFrom least (lessened rest)
  unfolding each
  less-rises least [] r = tt
  less-rises least (p ∷ rest) r = (r.0, less-rises (p.0 + 1) rest r.1)

  count-same : (k a : ℕ) → count k a a ≡ k
  count-same k a = grind (arith, nat_tests)

  -- one that stays
  age-stays : (done rest : List (ℕ × Cell)) (n : ℕ) (cell : Cell) (k : ℕ) (gone : LetGo) → nat_le 2 cell.left ≡ true → AllUnder n done → RisesFrom (n + 1) rest → age_one (at (done ++ (n, cell) ∷ rest) k gone) n ≡ at (done ++ ((n, less cell) ∷ rest)) k gone
  age-stays done rest n cell k gone e a r =
      let same : aged opened cell ≡ Some (less cell) = rw e refl in
      let no : is_let_go cell ≡ false = grind (arith, nat_tests, e) in
      age-at done rest n cell k gone a r
      ∙ ap₂ (λ (v : Option Cell) (t : Bool). at (done ++ (one n v ++ rest)) (count k (rank_of v) cell.rank) (if t then let_go gone n else gone)) same no
      ∙ ap (λ (q : ℕ). at (done ++ ((n, less cell) ∷ rest)) q gone) (count-same k cell.rank)

  -- one that is over
  age-ends : (done rest : List (ℕ × Cell)) (n : ℕ) (cell : Cell) (k : ℕ) (gone : LetGo) → nat_le 2 cell.left ≡ false → AllUnder n done → RisesFrom (n + 1) rest → age_one (at (done ++ (n, cell) ∷ rest) k gone) n ≡ at (done ++ (one n (ended opened (Some (less cell))) ++ rest)) (count k (rank_of (ended opened (Some (less cell)))) cell.rank) (if is_purge cell.rank then let_go gone n else gone)
  age-ends done rest n cell k gone e a r =
      let same : aged opened cell ≡ ended opened (Some (less cell)) = rw e refl in
      let yes : nat_le cell.left 1 ≡ true = grind (arith, nat_tests, e) in
      let purge : is_let_go cell ≡ is_purge cell.rank = rw yes refl in
      age-at done rest n cell k gone a r
      ∙ ap₂ (λ (v : Option Cell) (t : Bool). at (done ++ (one n v ++ rest)) (count k (rank_of v) cell.rank) (if t then let_go gone n else gone)) same purge

  pub both-ways : (done rest : List (ℕ × Cell)) (least k : ℕ) (gone : LetGo) → AllUnder least done → RisesFrom least rest → age_all (at (done ++ rest) k gone) rest ≡ end_all (at (done ++ lessened rest) k gone) (over_from 0 (lessened rest))
  unfolding each
  both-ways done [] least k gone a r = refl
  both-ways done ((n, cell) ∷ rest) least k gone a r = cases (nat_le 2 cell.left) refl
      (λ v k' gone'. both-ways (done ++ one n v) rest (n + 1) k' gone' (under-one n done v (under-more least n done r.0 a)) r.1)
    where
      under : AllUnder n done
      under = under-more least n done r.0 a

      cases : (t : Bool) → nat_le 2 cell.left ≡ t
          → ((v : Option Cell) (k' : ℕ) (gone' : LetGo) → age_all (at ((done ++ one n v) ++ rest) k' gone') rest ≡ end_all (at ((done ++ one n v) ++ lessened rest) k' gone') (over_from 0 (lessened rest)))
          → age_all (age_one (at (done ++ (n, cell) ∷ rest) k gone) n) rest ≡ end_all (at (done ++ (n, less cell) ∷ lessened rest) k gone) (if nat_le 0 n && eqb (cell.left - 1) 0 then n ∷ over_from 0 (lessened rest) else over_from 0 (lessened rest))
      cases true e h =
          let no : eqb (cell.left - 1) 0 ≡ false = grind (arith, nat_tests, e) in
          let here = h (Some (less cell)) k gone in
          let low : nat_le 0 n ≡ true = grind (arith, nat_tests) in
          rw (low, no)
          (ap (λ (s : LevelState). age_all s rest) (age-stays done rest n cell k gone e under r.1)
          ∙ ap (λ (cs : List (ℕ × Cell)). age_all (at cs k gone) rest) (sym (append_assoc done ((n, less cell) ∷ []) rest)) ∙ here
          ∙ ap (λ (cs : List (ℕ × Cell)). end_all (at cs k gone) (over_from 0 (lessened rest))) (append_assoc done ((n, less cell) ∷ []) (lessened rest)))
      cases false e h =
          let yes : eqb (cell.left - 1) 0 ≡ true = grind (arith, nat_tests, e) in
          let v = ended opened (Some (less cell)) in
          let k' = count k (rank_of v) cell.rank in
          let gone' = if is_purge cell.rank then let_go gone n else gone in
          let here = h v k' gone' in
          let low : nat_le 0 n ≡ true = grind (arith, nat_tests) in
          rw (low, yes)
          (ap (λ (s : LevelState). age_all s rest) (age-ends done rest n cell k gone e under r.1)
          ∙ ap (λ (cs : List (ℕ × Cell)). age_all (at cs k' gone') rest) (sym (append_assoc done (one n v) rest)) ∙ here
          ∙ ap (λ (cs : List (ℕ × Cell)). end_all (at cs k' gone') (over_from 0 (lessened rest))) (append_assoc done (one n v) (lessened rest))
          ∙ ap (λ (s : LevelState). end_all s (over_from 0 (lessened rest))) (sym (end-at done (lessened rest) n (less cell) k gone under (less-rises (n + 1) rest r.1))))

-- a second is a second less for all, and then the end of those that have none left
pub age-ends-all : (b : Book) (own : List (ℕ × Issued)) (gone : LetGo) → RisesFrom 0 b.cells → end_all (state_of (less_left b) own gone) (over_from 0 (less_left b).cells) ≡ age (state_of b own gone)
unfolding age
age-ends-all b own gone r = sym (both-ways b.opened b.p2p own [] b.cells 0 b.changes gone tt r)

-- ---- the next one that is over

over-above : (cells : List (ℕ × Cell)) (least start : ℕ) → start ≤ least → RisesFrom least cells → over_from start cells ≡ over_from 0 cells
over-above [] least start le r = refl
over-above (p ∷ cells) least start le r =
    let h = r.0 in
    grind (arith, nat_tests, h, le, over-above cells (p.0 + 1) start (omega (arith, h, le)) r.1)

pub over-rises : (cells : List (ℕ × Cell)) (least start : ℕ) → RisesFrom least cells → Rises least (over_from start cells)
over-rises [] least start r = tt
over-rises (p ∷ cells) least start r = cases (nat_le start p.0 && eqb p.1.left 0) (over-rises cells (p.0 + 1) start r.1)
  where
    less-least : (ns : List ℕ) (a b : ℕ) → a ≤ b → Rises b ns → Rises a ns
    less-least [] a b le q = tt
    less-least (n ∷ ns) a b le q = (let h = q.0 in omega (arith, h, le), q.1)

    cases : (t : Bool) → Rises (p.0 + 1) (over_from start cells) → Rises least (if t then p.0 ∷ over_from start cells else over_from start cells)
    cases true h = (r.0, h)
    cases false h = less-least (over_from start cells) least (p.0 + 1) (let q = r.0 in omega (arith, q)) h

-- from the first one of all on all are found again
pub over-again : (cells : List (ℕ × Cell)) (least start n : ℕ) → RisesFrom least cells → Some n ≡ first_of (over_from start cells) → over_from n cells ≡ over_from start cells
over-again [] least start n r e = absurd (grind (arith, e))
over-again (p ∷ cells) least start n r e = cases (nat_le start p.0 && eqb p.1.left 0) refl e (over-again cells (p.0 + 1) start n r.1)
  where
    low : nat_le start p.0 && eqb p.1.left 0 ≡ true → start ≤ p.0
    low t = grind (arith, nat_tests, t)

    left : nat_le start p.0 && eqb p.1.left 0 ≡ true → eqb p.1.left 0 ≡ true
    left t = grind (arith, nat_tests, t)

    above : (ns : List ℕ) → Rises (p.0 + 1) ns → Some n ≡ first_of ns → p.0 < n
    above [] up q = absurd (grind (arith, q))
    above (m ∷ ns) up q = let same : m ≡ n = grind (arith, q) in let h = up.0 in omega (arith, same, h)

    cases : (t : Bool) → (nat_le start p.0 && eqb p.1.left 0) ≡ t → Some n ≡ first_of (if t then p.0 ∷ over_from start cells else over_from start cells) → (Some n ≡ first_of (over_from start cells) → over_from n cells ≡ over_from start cells) → over_from n (p ∷ cells) ≡ (if t then p.0 ∷ over_from start cells else over_from start cells)
    cases true t q h =
        let same : p.0 ≡ n = grind (arith, q) in
        let le = low t in
        let z = left t in
        let yes : nat_le n p.0 && eqb p.1.left 0 ≡ true = grind (arith, nat_tests, same, z) in
        rw yes (ap (λ (ns : List ℕ). p.0 ∷ ns) (over-above cells (p.0 + 1) n (omega (arith, same)) r.1 ∙ sym (over-above cells (p.0 + 1) start (omega (arith, le)) r.1)))
    cases false t q h =
        let lt = above (over_from start cells) (over-rises cells (p.0 + 1) start r.1) q in
        let no : nat_le n p.0 ≡ false = grind (arith, nat_tests, lt) in
        rw no (h q)

-- ---- after one more end

-- no cell that is left is over
abbrev pub IsLeft : Option Cell → Type 0
IsLeft None = Unit {0}
IsLeft (Some cell) = eqb cell.left 0 ≡ false

ended-left : (opened : ℕ) (held : Option Cell) → IsLeft (ended opened held)
ended-left opened None = tt
ended-left opened (Some cell) = cases (is_live cell.rank)
  where
    cases : (t : Bool) → IsLeft (if t then Some (flagged (purged cell) opened 0) else None)
    cases true = refl
    cases false = tt

set-later : (cells : List (ℕ × Cell)) (m n : ℕ) (cell : Cell) (v : Option Cell) → m < n → set_at ((m, cell) ∷ cells) n v ≡ (m, cell) ∷ set_at cells n v
unfolding put erase
set-later cells m n cell None lt = grind (arith, nat_tests, lt)
set-later cells m n cell (Some w) lt = grind (arith, nat_tests, lt)

over-one : (cells : List (ℕ × Cell)) (n : ℕ) (v : Option Cell) → IsLeft v → over_from n (one n v ++ cells) ≡ over_from n cells
over-one cells n None l = refl
over-one cells n (Some w) l = grind (arith, nat_tests, l)

-- the rest of those that are over, once the first one has been ended
over-set : (cells : List (ℕ × Cell)) (least start n : ℕ) (ns : List ℕ) (v : Option Cell) → IsLeft v → RisesFrom least cells → over_from start cells ≡ n ∷ ns → over_from n (set_at cells n v) ≡ ns
over-set [] least start n ns v l r e = absurd (grind (arith, e))
over-set ((m, c) ∷ cells) least start n ns v l r e = cases (nat_le start m && eqb c.left 0) refl e (λ q. over-set cells (m + 1) start n ns v l r.1 q)
  where
    low : nat_le start m && eqb c.left 0 ≡ true → start ≤ m
    low t = grind (arith, nat_tests, t)

    cases : (t : Bool) → (nat_le start m && eqb c.left 0) ≡ t → (if t then m ∷ over_from start cells else over_from start cells) ≡ n ∷ ns → (over_from start cells ≡ n ∷ ns → over_from n (set_at cells n v) ≡ ns) → over_from n (set_at ((m, c) ∷ cells) n v) ≡ ns
    cases true t q h =
        let same : m ≡ n = grind (arith, q) in
        let rest : over_from start cells ≡ ns = grind (arith, q) in
        let le = low t in
        let up : RisesFrom (n + 1) cells = subst (λ (k : ℕ). RisesFrom (k + 1) cells) same r.1 in
        let here : set_at ((n, c) ∷ cells) n v ≡ one n v ++ cells = set-mid [] cells n c v tt up in
        ap (λ (k : ℕ). over_from n (set_at ((k, c) ∷ cells) n v)) same ∙ ap (over_from n) here ∙ over-one cells n v l
        ∙ over-above cells (n + 1) n (omega arith) up ∙ sym (over-above cells (m + 1) start (omega (arith, le)) r.1) ∙ rest
    cases false t q h =
        let up = subst (Rises (m + 1)) q (over-rises cells (m + 1) start r.1) in
        let lt = up.0 in
        let no : nat_le n m ≡ false = grind (arith, nat_tests, lt) in
        ap (over_from n) (set-later cells m n c v (omega (arith, lt))) ∙ rw no (h q)

pub over-next : (s : LevelState) (start n : ℕ) (ns : List ℕ) → RisesFrom 0 s.book.cells → over_from start s.book.cells ≡ n ∷ ns → over_from n (end_id s n).book.cells ≡ ns
unfolding set_cell
over-next s start n ns r e = over-set s.book.cells 0 start n ns (ended s.book.opened (cell_at s.book n)) (ended-left s.book.opened (cell_at s.book n)) r e

-- ---- whose keys change

pub rank-set : (b : Book) (n q : ℕ) (v : Option Cell) → rank_at (set_cell b n v) q ≡ (if eqb n q then rank_of v else rank_at b q)
unfolding set_cell
rank-set b n q v = ap rank_of (find-set_at b.cells n v q) ∙ cases (eqb n q)
  where
    cases : (t : Bool) → rank_of (if t then v else find b.cells q) ≡ (if t then rank_of v else rank_of (find b.cells q))
    cases true = refl
    cases false = refl

live-rank : (rank : ℕ) → is_live rank ≡ true → 0 < rank
live-rank rank e = grind (arith, nat_tests, e)

live-other : (rank : ℕ) → is_live rank ≡ true → 2 * (rank / 2) + 1 ≡ rank → ⊥
live-other rank e q = grind (arith, nat_tests, e, q)

-- a key changes at its entry's end, and nothing where there is none
end-other : (opened : ℕ) (held : Option Cell) → 0 < rank_of held → rank_of (ended opened held) ≡ rank_of held → ⊥
end-other opened None some q = omega (arith, some)
end-other opened (Some cell) some q = cases (is_live cell.rank) refl q
  where
    cases : (t : Bool) → is_live cell.rank ≡ t → rank_of (if t then Some (flagged (purged cell) opened 0) else None) ≡ cell.rank → ⊥
    cases true e r = live-other cell.rank e r
    cases false e r = omega (arith, some, r)

end-none : (opened : ℕ) (held : Option Cell) → rank_of held ≡ 0 → rank_of (ended opened held) ≡ 0
end-none opened None z = refl
end-none opened (Some cell) z = cases (is_live cell.rank) refl
  where
    cases : (t : Bool) → is_live cell.rank ≡ t → rank_of (if t then Some (flagged (purged cell) opened 0) else None) ≡ 0
    cases true e = absurd (let h = live-rank cell.rank e in omega (arith, h, z))
    cases false e = refl

rank-end : (s : LevelState) (n q : ℕ) → rank_at (end_id s n).book q ≡ (if eqb n q then rank_of (ended s.book.opened (cell_at s.book n)) else rank_at s.book q)
rank-end s n q = rank-set s.book n q (ended s.book.opened (cell_at s.book n))

end-else : (s : LevelState) (n q : ℕ) → n < q → rank_at (end_id s n).book q ≡ rank_at s.book q
end-else s n q lt = let no : eqb n q ≡ false = grind (arith, nat_tests, lt) in rank-end s n q ∙ rw no refl

end-before : (s : LevelState) (n q : ℕ) → q < n → rank_at (end_id s n).book q ≡ rank_at s.book q
end-before s n q lt = let no : eqb n q ≡ false = grind (arith, nat_tests, lt) in rank-end s n q ∙ rw no refl

end-same : (s : LevelState) (n q : ℕ) → rank_at s.book n ≡ 0 → rank_at (end_id s n).book q ≡ rank_at s.book q
end-same s n q z = rank-end s n q ∙ cases (eqb n q) refl
  where
    cases : (t : Bool) → eqb n q ≡ t → (if t then rank_of (ended s.book.opened (cell_at s.book n)) else rank_at s.book q) ≡ rank_at s.book q
    cases true e =
        let same : n ≡ q = grind (arith, nat_tests, e) in
        end-none s.book.opened (cell_at s.book n) z ∙ sym z ∙ ap (rank_at s.book) same
    cases false e = refl

-- what is before those that end stays
all-before : (ns : List ℕ) (least q : ℕ) (s : LevelState) → q < least → Rises least ns → rank_at (end_all s ns).book q ≡ rank_at s.book q
all-before [] least q s lt r = refl
all-before (n ∷ ns) least q s lt r =
    let h = r.0 in
    all-before ns (n + 1) q (end_id s n) (omega (arith, h, lt)) r.1 ∙ end-before s n q (omega (arith, h, lt))

-- whether those of the rest have keys is as before
pub keyed-rest : (ns : List ℕ) (least n : ℕ) (s : LevelState) → n < least → Rises least ns → some_keyed (end_id s n).book ns ≡ some_keyed s.book ns
keyed-rest [] least n s lt r = refl
keyed-rest (m ∷ ns) least n s lt r =
    let h = r.0 in
    ap₂ (λ (k : ℕ) (t : Bool). nat_lt 0 k || t) (end-else s n m (omega (arith, h, lt))) (keyed-rest ns (m + 1) n s (omega (arith, h, lt)) r.1)

pub all-changed : (ns : List ℕ) (least : ℕ) (s : LevelState) → Rises least ns → some_keyed s.book ns ≡ true → (q : ℕ) × (rank_at (end_all s ns).book q ≡ rank_at s.book q → ⊥)
all-changed [] least s r e = absurd (grind (arith, e))
all-changed (n ∷ ns) least s r e = cases (nat_lt 0 (rank_at s.book n)) refl e (λ g. all-changed ns (n + 1) (end_id s n) r.1 g)
  where
    cases : (t : Bool) → nat_lt 0 (rank_at s.book n) ≡ t → (t || some_keyed s.book ns) ≡ true → (some_keyed (end_id s n).book ns ≡ true → (q : ℕ) × (rank_at (end_all (end_id s n) ns).book q ≡ rank_at (end_id s n).book q → ⊥)) → (q : ℕ) × (rank_at (end_all (end_id s n) ns).book q ≡ rank_at s.book q → ⊥)
    cases true t g h = (
      n,
      λ same.
          let some : 0 < rank_at s.book n = grind (arith, nat_tests, t) in
          let yes : eqb n n ≡ true = grind (arith, nat_tests) in
          let here : rank_at (end_id s n).book n ≡ rank_of (ended s.book.opened (cell_at s.book n)) = rank-end s n n ∙ rw yes refl in
          end-other s.book.opened (cell_at s.book n) some (sym here ∙ sym (all-before ns (n + 1) n (end_id s n) (omega arith) r.1) ∙ same),
    )
    cases false t g h =
        let zero : rank_at s.book n ≡ 0 = grind (arith, nat_tests, t) in
        let found = h (keyed-rest ns (n + 1) n s (omega arith) r.1 ∙ g) in
        (found.0, λ same. found.1 (same ∙ sym (end-same s n found.0 zero)))

pub all-same : (ns : List ℕ) (least : ℕ) (s : LevelState) → Rises least ns → some_keyed s.book ns ≡ false → (q : ℕ) → rank_at (end_all s ns).book q ≡ rank_at s.book q
all-same [] least s r e q = refl
all-same (n ∷ ns) least s r e q =
    let zero : rank_at s.book n ≡ 0 = grind (arith, nat_tests, e) in
    let rest : some_keyed s.book ns ≡ false = grind (arith, nat_tests, e) in
    all-same ns (n + 1) (end_id s n) r.1 (keyed-rest ns (n + 1) n s (omega arith) r.1 ∙ rest) q ∙ end-same s n q zero

-- a second less changes no key
pub less-rank : (b : Book) (q : ℕ) → rank_at (less_left b) q ≡ rank_at b q
less-rank b q = ap rank_of (find-each (λ (_ : ℕ) (cell : Cell). less cell) b.cells q) ∙ cases (find b.cells q)
  where
    cases : (o : Option Cell) → rank_of (option_map less o) ≡ rank_of o
    cases None = refl
    cases (Some cell) = refl
