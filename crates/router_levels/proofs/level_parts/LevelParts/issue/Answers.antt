use Rattle.std.proofs.Common.{◌≡◌, Some, subst, ap₂, ◌∙◌}
use Rattle.std.specs.Option.{option_copied}
use Rattle.isis_base.specs.declared.identifiers.LspId.{LspId}
use Rattle.isis_base.specs.declared.level.Level.{Level}
use Rattle.isis_base.specs.Identifiers.{lsp_number}
use Rattle.model_router.specs.Both.{at}
use Rattle.model_router.specs.Maps.{put}
use Rattle.model_router.specs.Cells.{Cell, flagged}
use Rattle.model_router.specs.Books.{set_cell}
use Rattle.model_router.specs.OwnLsps.{install, issue_cell}
use Rattle.model_datagram.specs.Lsps.{given_octets}
use Rattle.flag_sync.specs.FlagRows.{no_flags, entry_cell}
use Rattle.flag_sync.specs.BookStates.{book_of}
use Rattle.router_levels.specs.Views.{LevelView, state_of}
use Rattle.router_levels.proofs.IssueLemmas.{install-is}
use Rattle.router_levels.proofs.level_parts.LevelParts.issue.Goals as goal

pub returns-clause-state : goal.returns-clause-state
returns-clause-state c leaks attached r level under =
    let draft = c.args.draft in
    let n = lsp_number draft.id in
    let t : LevelView = record { book = c.self.inside.book; own = c.self.inside.own; gone = c.self.inside.gone } in
    let after : LevelView = record { book = c.install.new.self; own = c.issued.new.self; gone = c.self.inside.gone } in
    let cell = issue_cell (given_octets leaks attached) r level n c.args.number draft.contents in
    let issued : entry_cell c.issue-entry.result.entry ≡ cell =
    subst (λ (l : Level). at r.config.keys l ≡ option_copied c.args.key → entry_cell c.issue-entry.result.entry ≡ issue_cell (given_octets leaks attached) r l n c.args.number draft.contents) under.on
    (λ keyed. c.issue-entry.ensures.cell leaks attached r no_flags keyed) under.keyed in
    let book : book_of c.install.new.self ≡ set_cell (book_of t.book) n (Some (flagged cell t.book.opened 0)) = c.in-Ok.ensures.book ∙ ap₂ (λ (id : LspId) (k : Cell). set_cell (book_of t.book) (lsp_number id) (Some (flagged k t.book.opened 0))) c.id-id.ensures issued in
    let own : c.issued.new.self.issued ≡ put t.own.issued n (record { contents = draft.contents; age = 0 }) = rw (c.id-id.ensures, c.flags-flags.ensures, c.issue-entry.ensures.tlvs) at (rw c.unwrap.ensures at c.issued.ensures.ok) in
    subst (λ (v : LevelView). state_of after ≡ install (state_of v) n draft.contents cell) c.self.view_is
    (install-is (state_of t) n draft.contents cell (book_of c.install.new.self) c.issued.new.self.issued book own)
