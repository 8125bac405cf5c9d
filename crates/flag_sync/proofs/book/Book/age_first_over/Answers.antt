use Rattle.std.proofs.Common.{◌≡◌, List, sym, subst, ap, ◌∙◌, arith}
use Rattle.std.specs.Option.{option_map}
use Rattle.isis_base.specs.Identifiers.{lsp_number}
use Rattle.model_router.specs.Books.{Book}
use Rattle.model_router.specs.Sorted as sorted
use Rattle.lsp_store.specs.Maps.{RisesFrom}
use Rattle.lsp_store.specs.Databases.{Database}
use Rattle.flag_sync.specs.Entries.{AllHaveHeaders}
use Rattle.flag_sync.specs.Ages.{less_left}
use Rattle.flag_sync.specs.BookStates.{BookState, book_of, AreBeside}
use Rattle.flag_sync.proofs.AgeLemmas.{less-cells, less-beside, less-headers, less-rises, cells-rise, first-cells}
use Rattle.flag_sync.proofs.book.Book.age_first_over.Goals as goal

pub invariant_of-self : goal.invariant_of-self
invariant_of-self c =
    let i = c.self.invariant in
    let same = ap (λ (d : Database). d.entries) c.age_first_over.ensures.aged in
    record {
      beside = subst (λ (es : List _). AreBeside es c.self.inside.flags.entries) (sym same) (less-beside c.self.inside.store.entries c.self.inside.flags.entries i.beside);
      rises = subst (RisesFrom 0) (sym same) (less-rises 0 c.self.inside.store.entries i.rises);
      headed = subst AllHaveHeaders (sym same) (less-headers c.self.inside.store.entries i.headed);
      room = let spare = ap (λ (d : Database). d.spare) c.age_first_over.ensures.aged in let room = i.room in omega (arith, spare, room);
      few = i.few;
    }

pub returns-clause-book : goal.returns-clause-book
returns-clause-book c =
    let s : BookState = record {
      store = c.self.inside.store;
      rows = c.self.inside.flags.entries;
      opened = c.self.inside.opened;
      points = c.self.inside.points;
      circuits = c.self.inside.circuits;
    } in
    subst (λ (t : BookState). book_of (record s { store = c.age_first_over.new.self }) ≡ less_left (book_of t)) c.self.view_is
    (ap (λ (d : Database). book_of (record s { store = d })) c.age_first_over.ensures.aged
    ∙ ap (λ (cs : List _). let b : Book = record { cells = cs; opened = s.opened; p2p = s.points; changes = s.store.changes } in b) (less-cells c.self.inside.store.entries c.self.inside.flags.entries))

pub returns-clause-rises : goal.returns-clause-rises
returns-clause-rises c =
    let s : BookState = record {
      store = c.self.inside.store;
      rows = c.self.inside.flags.entries;
      opened = c.self.inside.opened;
      points = c.self.inside.points;
      circuits = c.self.inside.circuits;
    } in
    let i = c.self.invariant in
    subst (λ (t : BookState). sorted.RisesFrom 0 (book_of t).cells) c.self.view_is (cells-rise 0 c.self.inside.store.entries c.self.inside.flags.entries i.rises i.beside)

pub returns-clause-first : goal.returns-clause-first
returns-clause-first c =
    let i = c.self.invariant in
    let es = c.self.inside.store.entries in
    let rs = c.self.inside.flags.entries in
    let same = ap (λ (d : Database). d.entries) c.age_first_over.ensures.aged in
    let up = subst (RisesFrom 0) (sym same) (less-rises 0 es i.rises) in
    let beside = subst (λ (xs : List _). AreBeside xs rs) (sym same) (less-beside es rs i.beside) in
    ap (option_map lsp_number) c.age_first_over.ensures.first ∙ first-cells c.age_first_over.new.self.entries rs up beside
