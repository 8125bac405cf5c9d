use Rattle.std.proofs.Common.{◌≡◌, ◌||◌, ℕ, List, length}
use Rattle.std.specs.Option.{option_map}
use Rattle.isis_base.specs.Identifiers.{lsp_number}
use Rattle.model_router.specs.Routers.{Issued}
use Rattle.model_router.specs.Sorted.{RisesFrom}
use Rattle.flag_sync.specs.Ages.{over_from, first_of}
use Rattle.flag_sync.specs.BookStates.{book_of, SameCircuits}
use Rattle.purge_ageing.specs.Ends.{state_of, end_all, some_keyed}
use Rattle.purge_ageing.proofs.LoopLemmas.{to_end}
use Rattle.purge_ageing.proofs.second.age.Given as goal

-- what is still to end gives the whole
abbrev pub invariant-loop-over : goal.invariant-loop-over
invariant-loop-over l = record {
  up : RisesFrom 0 (book_of l.book).cells;
  first : option_map lsp_number l.over ≡ first_of (to_end l.over (book_of l.book).cells);
  ends : (own : List (ℕ × Issued)) → end_all (state_of (book_of l.book) own l.gone) (to_end l.over (book_of l.book).cells) ≡ end_all (state_of (book_of l.initial.book) own l.fn.gone) (over_from 0 (book_of l.initial.book).cells);
  keyed : (l.changed || some_keyed (book_of l.book) (to_end l.over (book_of l.book).cells)) ≡ some_keyed (book_of l.initial.book) (over_from 0 (book_of l.initial.book).cells);
  circuits : SameCircuits l.fn.book l.book;
  spare : l.book.store.spare ≡ l.fn.book.store.spare;
}

abbrev pub decreases-loop-over : goal.decreases-loop-over
decreases-loop-over l = length (to_end l.over (book_of l.book).cells)
