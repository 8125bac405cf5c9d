use Rattle.std.proofs.Common.{Result, Ok, Err, OnOk, OnErr, subst, sym, bit_or}
use Rattle.lsp_store.specs.PageMaps.{PageMap}
use Rattle.flag_sync.specs.declared.flag_row.FlagRow.{FlagRow}
use Rattle.flag_sync.specs.Among.{AreAmong}
use Rattle.flag_sync.proofs.AmongLemmas.{row-union, row-joined, all-among, put-among}
use Rattle.flag_sync.proofs.flags.Flags.put.Goals as goal

either : {T E P Q R : Type 0} (r : Result T E) → OnOk r P → OnErr r Q → (P → R) → (Q → R) → R
either (Ok x) p q f g = f p
either (Err x) p q f g = g q

pub invariant_of-self : goal.invariant_of-self
invariant_of-self c =
    let row = c.args.row in
    let rows = c.self.inside.rows in
    let g = bit_or c.self.inside.floods row.srm in
    let b = bit_or c.self.inside.answers row.ssn in
    let all = all-among c.self.inside.floods c.self.inside.answers g b rows.entries (row-union c.self.inside.floods c.self.inside.answers row.srm row.ssn) c.self.invariant in
    either c.put.result c.put.ensures.ok c.put.ensures.err
    (λ ok. subst (λ (m : PageMap FlagRow). AreAmong g b m.entries) (sym ok) (put-among g b rows.entries c.args.id row (row-joined c.self.inside.floods c.self.inside.answers row) all))
    (λ same. subst (λ (m : PageMap FlagRow). AreAmong g b m.entries) (sym same) all)
