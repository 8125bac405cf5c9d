use Rattle.std.proofs.Common.{sym, subst, ap}
use Rattle.isis_base.specs.Identifiers.{lsp_number}
use Rattle.lsp_store.specs.Databases.{Database}
use Rattle.lsp_store.specs.PageMaps.{PageMap}
use Rattle.flag_sync.specs.declared.flag_row.FlagRow.{FlagRow}
use Rattle.flag_sync.specs.BookStates.{AreBeside}
use Rattle.flag_sync.proofs.CellLemmas.{put-room}
use Rattle.flag_sync.proofs.sides.put_both.Goals as goal

pub returns-clause-room : goal.returns-clause-room
returns-clause-room c =
    let n = lsp_number c.args.id in
    let beside = subst (AreBeside c.args.store.now.entries) (sym c.take_room.ensures.same) c.requires.beside in
    let entries = ap (λ (d : Database). d.spare) c.in-Ok-put.ensures.ok in
    let put = rw c.unwrap-before.ensures at c.put-2.ensures.ok in
    let rows = ap (λ (m : PageMap FlagRow). m.spare) put in
    let room = put-room c.args.store.now.entries c.take_room.new.flags.entries n c.args.store.now.spare c.take_room.new.flags.spare beside c.take_room.ensures.room in
    rw (entries, rows) room
