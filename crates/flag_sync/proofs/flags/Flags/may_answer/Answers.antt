use Rattle.std.proofs.Common.{◌≡◌, false, subst, sym, ◌∙◌}
use Rattle.lsp_store.specs.PageMaps.{PageMap}
use Rattle.flag_sync.specs.declared.flag_row.FlagRow.{FlagRow}
use Rattle.flag_sync.specs.Among.{some_ssn}
use Rattle.flag_sync.proofs.AmongLemmas.{none-ssn}
use Rattle.flag_sync.proofs.flags.Flags.may_answer.Goals as goal

pub returns : goal.returns
returns c none =
    subst (λ (m : PageMap FlagRow). some_ssn c.args.place m.entries ≡ false) c.self.view_is
    (none-ssn c.self.inside.floods c.self.inside.answers c.args.place c.self.inside.rows.entries c.self.invariant (sym c.has_bit.ensures ∙ none))
