use Rattle.std.proofs.Common.{subst, sym, bit_or}
use Rattle.isis_base.specs.Identifiers.{lsp_number}
use Rattle.flag_sync.specs.Among.{AreAmong}
use Rattle.flag_sync.proofs.AmongLemmas.{row-union, row-joined, all-among, change-among}
use Rattle.flag_sync.proofs.flags.Flags.set.Goals as goal

pub invariant_of-self : goal.invariant_of-self
invariant_of-self c =
    let f = c.self.inside.floods in
    let a = c.self.inside.answers in
    let row = c.args.row in
    let g = bit_or f row.srm in
    let b = bit_or a row.ssn in
    subst (AreAmong g b) (sym c.change.ensures.entries)
    (change-among g b (λ _. row) c.self.inside.rows.entries (lsp_number c.args.id) (λ old m. row-joined f a row)
    (all-among f a g b c.self.inside.rows.entries (row-union f a row.srm row.ssn) c.self.invariant))
