use Rattle.std.proofs.Common.{inl}
use Rattle.isis_base.specs.Identifiers.{lsp_number}
use Rattle.flag_sync.proofs.CellLemmas.{row-some}
use Rattle.flag_sync.proofs.sides.take_room.Goals as goal

pub returns-in-Some-clause-ready : goal.returns-in-Some-clause-ready
returns-in-Some-clause-ready c = inl (row-some c.args.store.now.entries c.args.flags.now.entries (lsp_number c.args.id) c.in-Some.field-0.now c.requires.beside c.in-Some.ensures)
