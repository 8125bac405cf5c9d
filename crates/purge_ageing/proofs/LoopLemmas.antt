-- The walk from one entry that is over to the next.
use Rattle.std.proofs.Common.{◌≡◌, Bool, true, false, ℕ, ◌+◌, ◌<◌, nat_lt, ◌||◌, List, [], ◌∷◌, length, Option, Some, None, refl, sym, ap, ap₂, ◌∙◌, subst, arith}
use Rattle.std.specs.Option.{option_map}
use Rattle.isis_base.specs.declared.identifiers.LspId.{LspId}
use Rattle.isis_base.specs.Identifiers.{lsp_number}
use Rattle.model_router.specs.Cells.{Cell}
use Rattle.model_router.specs.Sorted.{RisesFrom}
use Rattle.model_router.specs.Books.{Book, rank_at}
use Rattle.model_router.specs.LetGos.{LetGo}
use Rattle.model_router.specs.Routers.{Issued, LevelState}
use Rattle.model_router.specs.Ageing.{age}
use Rattle.flag_sync.specs.Ages.{less_left, over_from, first_of}
use Rattle.purge_ageing.specs.Ids.{Rises}
use Rattle.purge_ageing.specs.Ends.{state_of, end_id, end_all, some_keyed}
use Rattle.purge_ageing.proofs.EndLemmas.{less-rises, age-ends-all, over-rises, over-again, over-next, keyed-rest, all-changed, all-same, less-rank}

first-some : (ns : List ℕ) (n : ℕ) → Some n ≡ first_of ns → (rest : List ℕ) × (ns ≡ n ∷ rest)
first-some [] n e = absurd (grind (arith, e))
first-some (m ∷ ns) n e = let same : m ≡ n = grind (arith, e) in (ns, ap (λ (k : ℕ). k ∷ ns) same)

pub first-none : (ns : List ℕ) → None ≡ first_of ns → ns ≡ []
first-none [] e = refl
first-none (m ∷ ns) e = absurd (grind (arith, e))

either : (a b c : Bool) → ((a || b) || c) ≡ (a || (b || c))
either true b c = refl
either false b c = refl

pub or-false : (a : Bool) → (a || false) ≡ a
or-false true = refl
or-false false = refl

-- the LSP IDs that are to end, from the first one on
abbrev pub to_end : Option LspId → List (ℕ × Cell) → List ℕ
to_end None cells = []
to_end (Some id) cells = over_from (lsp_number id) cells

pub to_end-found : (cells : List (ℕ × Cell)) (start : ℕ) (over : Option LspId) → RisesFrom 0 cells → option_map lsp_number over ≡ first_of (over_from start cells) → to_end over cells ≡ over_from start cells
to_end-found cells start None up e = sym (first-none (over_from start cells) e)
to_end-found cells start (Some id) up e = over-again cells 0 start (lsp_number id) up e

-- the first one is the first of those that are to end
pub to_end-first : (cells : List (ℕ × Cell)) (start : ℕ) (over : Option LspId) → RisesFrom 0 cells → option_map lsp_number over ≡ first_of (over_from start cells) → option_map lsp_number over ≡ first_of (to_end over cells)
to_end-first cells start over up e = e ∙ ap first_of (sym (to_end-found cells start over up e))

pub up-less : (old b : Book) → b ≡ less_left old → RisesFrom 0 old.cells → RisesFrom 0 b.cells
up-less old b less up = subst (λ (c : Book). RisesFrom 0 c.cells) (sym less) (less-rises old.opened old.p2p [] 0 old.cells up)

pub fewer : (a b c d : ℕ) → a ≡ b → c ≡ d → b < d → a < c
fewer a b c d e f lt = omega (arith, e, f, lt)

-- ---- a turn

module _ (b new : Book) (gone gone' : LetGo) (start n : ℕ) (up : RisesFrom 0 b.cells) (e : Some n ≡ first_of (over_from start b.cells)) (turn : (own : List (ℕ × Issued)) → state_of new own gone' ≡ end_id (state_of b own gone) n) where
  abbrev rest : List ℕ
  rest = (first-some (over_from start b.cells) n e).0

  split : over_from start b.cells ≡ n ∷ rest
  split = (first-some (over_from start b.cells) n e).1

  left : over_from n new.cells ≡ rest
  left = ap (λ (s : LevelState). over_from n s.book.cells) (turn []) ∙ over-next (state_of b [] gone) start n rest up split

  above : Rises (n + 1) rest
  above = (subst (Rises 0) split (over-rises b.cells 0 start up)).1

  pub turn-ends : (own : List (ℕ × Issued)) → end_all (state_of new own gone') (over_from n new.cells) ≡ end_all (state_of b own gone) (over_from start b.cells)
  turn-ends own = ap₂ end_all (turn own) left ∙ sym (ap (end_all (state_of b own gone)) split)

  pub turn-keyed : (changed keyed : Bool) → keyed ≡ nat_lt 0 (rank_at b n) → ((changed || keyed) || some_keyed new (over_from n new.cells)) ≡ (changed || some_keyed b (over_from start b.cells))
  turn-keyed changed keyed k =
      let more : some_keyed new (over_from n new.cells) ≡ some_keyed b rest =
      ap₂ (λ (s : LevelState) (ns : List ℕ). some_keyed s.book ns) (turn []) left ∙ keyed-rest rest (n + 1) n (state_of b [] gone) (omega arith) above in
      either changed keyed (some_keyed new (over_from n new.cells))
      ∙ ap₂ (λ (t u : Bool). changed || (t || u)) k more ∙ sym (ap (λ (ns : List ℕ). changed || some_keyed b ns) split)

  pub turn-fewer : length (over_from n new.cells) < length (over_from start b.cells)
  turn-fewer = let a = ap length left in let c = ap length split in omega (arith, a, c)

-- ---- the end

module _ (old b new : Book) (gone gone' : LetGo) (less : b ≡ less_left old) (up : RisesFrom 0 old.cells) (ends : (own : List (ℕ × Issued)) → state_of new own gone' ≡ end_all (state_of b own gone) (over_from 0 b.cells)) where
  pub whole : (own : List (ℕ × Issued)) → state_of new own gone' ≡ age (state_of old own gone)
  whole own = ends own ∙ ap (λ (c : Book). end_all (state_of c own gone) (over_from 0 c.cells)) less ∙ age-ends-all old own gone up

  rises : Rises 0 (over_from 0 b.cells)
  rises = subst (λ (c : Book). Rises 0 (over_from 0 c.cells)) (sym less) (over-rises (less_left old).cells 0 0 (less-rises old.opened old.p2p [] 0 old.cells up))

  ranks : (q : ℕ) → rank_at new q ≡ rank_at (end_all (state_of b [] gone) (over_from 0 b.cells)).book q
  ranks q = ap (λ (s : LevelState). rank_at s.book q) (ends [])

  before : (q : ℕ) → rank_at b q ≡ rank_at old q
  before q = ap (λ (c : Book). rank_at c q) less ∙ less-rank old q

  pub some-changed : some_keyed b (over_from 0 b.cells) ≡ true → (q : ℕ) × (rank_at new q ≡ rank_at old q → ⊥)
  some-changed e =
      let found = all-changed (over_from 0 b.cells) 0 (state_of b [] gone) rises e in
      (found.0, λ same. found.1 (sym (ranks found.0) ∙ same ∙ sym (before found.0)))

  pub none-changed : some_keyed b (over_from 0 b.cells) ≡ false → (q : ℕ) → rank_at new q ≡ rank_at old q
  none-changed e q = ranks q ∙ all-same (over_from 0 b.cells) 0 (state_of b [] gone) rises e q ∙ before q
