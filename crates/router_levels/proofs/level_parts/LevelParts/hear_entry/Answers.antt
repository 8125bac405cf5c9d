use Rattle.std.proofs.Common.{◌≡◌, ◌-◌, None, IsSome, subst, sym, ap, ◌∙◌}
use Rattle.model_router.specs.declared.whose.Whose.{Whose}
use Rattle.model_router.specs.Books.{Book, cell_at}
use Rattle.model_router.specs.SnpTable.{snp_case, hear_entry}
use Rattle.model_router.specs.Routers.{LevelState}
use Rattle.model_router.specs.Takes.{whose_of, take_entry}
use Rattle.model_router.specs.Numbers.{system_number}
use Rattle.flag_sync.specs.declared.heard.EntryAnswer.{EntryAnswer}
use Rattle.flag_sync.specs.Heard.{entry_of, outbid_of}
use Rattle.flag_sync.specs.BookStates.{book_of}
use Rattle.router_levels.specs.Views.{LevelView, state_of}
use Rattle.router_levels.proofs.EntryLemmas.{some-outbid, outbid-stays, entry-else}
use Rattle.router_levels.proofs.level_parts.LevelParts.hear_entry.Goals as goal

pub returns-clause-same : goal.returns-clause-same
returns-clause-same c some =
    let e = c.args.entry.now in
    let h = entry_of e in
    let t : LevelView = record { book = c.self.inside.book; own = c.self.inside.own; gone = c.self.inside.gone } in
    let case = some-outbid (snp_case c.whose-whose.result (cell_at (book_of t.book) h.id) h) e (subst (λ (a : EntryAnswer). IsSome a.outbid) c.hear_entry.ensures.answer some) in
    ap (λ (b : Book). let s : LevelState = record { book = b; own = t.own.issued; gone = t.gone } in s) (c.hear_entry.ensures.book ∙ outbid-stays (book_of t.book) (c.args.circuit - 1) c.whose-whose.result h c.order_law.ensures case)
    ∙ ap state_of c.self.view_is

pub returns-clause-heard : goal.returns-clause-heard
returns-clause-heard c none scene =
    let e = c.args.entry.now in
    let h = entry_of e in
    let system = system_number c.args.system in
    let t : LevelView = record { book = c.self.inside.book; own = c.self.inside.own; gone = c.self.inside.gone } in
    let w = whose_of system (state_of t) h.id in
    let whose : c.whose-whose.result ≡ w = c.whose-whose.ensures ∙ ap (λ (v : LevelView). whose_of system (state_of v) h.id) (sym c.self.view_is) in
    let out : outbid_of (snp_case w (cell_at (book_of t.book) h.id) h) e ≡ None =
    sym (ap (λ (x : Whose). outbid_of (snp_case x (cell_at (book_of t.book) h.id) h) e) whose) ∙ sym (ap (λ (a : EntryAnswer). a.outbid) c.hear_entry.ensures.answer) ∙ none in
    ap (λ (b : Book). let s : LevelState = record { book = b; own = t.own.issued; gone = t.gone } in s) (c.hear_entry.ensures.book ∙ ap (λ (x : Whose). hear_entry (book_of t.book) (c.args.circuit - 1) x h) whose)
    ∙ sym (entry-else scene (state_of t) system (c.args.circuit - 1) e out)
    ∙ ap (λ (v : LevelView). take_entry scene (state_of v) system (c.args.circuit - 1) h) c.self.view_is
