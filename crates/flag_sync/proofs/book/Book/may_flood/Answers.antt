use Rattle.std.proofs.Common.{◌≡◌, ◌-◌, [], false, subst}
use Rattle.model_router.specs.Pulls.{due_lsps}
use Rattle.flag_sync.specs.BookStates.{BookState, book_of}
use Rattle.flag_sync.specs.Among.{some_srm}
use Rattle.flag_sync.proofs.AmongLemmas.{none-sent}
use Rattle.flag_sync.proofs.book.Book.may_flood.Goals as goal

pub returns : goal.returns
returns c none level =
    let i = c.self.invariant in
    let p = c.args.circuit - 1 in
    let no : some_srm p c.self.inside.flags.entries ≡ false = subst (λ q. some_srm q c.self.inside.flags.entries ≡ false) c.place.ensures.place (c.may_flood.ensures none) in
    subst (λ (t : BookState). due_lsps level p (book_of t).cells ≡ []) c.self.view_is
    (none-sent level p c.self.inside.store.entries c.self.inside.flags.entries i.beside no)
