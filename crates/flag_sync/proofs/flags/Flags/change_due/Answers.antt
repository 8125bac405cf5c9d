use Rattle.std.proofs.Common.{◌≡◌, false, subst, sym, ◌∙◌}
use Rattle.lsp_store.specs.Maps.{change_all}
use Rattle.lsp_store.specs.PageMaps.{PageMap}
use Rattle.flag_sync.specs.declared.flag_row.FlagRow.{FlagRow}
use Rattle.flag_sync.specs.Walks.{done_due}
use Rattle.flag_sync.specs.Among.{AreAmong, some_srm, floods_after, answers_after}
use Rattle.flag_sync.proofs.AmongLemmas.{none-srm, none-changed, among-without, each-among, row-due-done}
use Rattle.flag_sync.proofs.flags.Flags.change_due.Goals as goal

pub returns-then-not-has_bit-clause-entries : goal.returns-then-not-has_bit-clause-entries
returns-then-not-has_bit-clause-entries c =
    let none = none-srm c.self.inside.floods c.self.inside.answers c.args.deed.place c.self.inside.rows.entries c.self.invariant (sym c.has_bit.ensures ∙ c.if-not-has_bit.true) in
    subst (λ (m : PageMap FlagRow). m.entries ≡ change_all (done_due c.args.deed) m.entries) c.self.view_is
    (sym (none-changed c.args.deed c.self.inside.rows.entries none))

pub invariant_of-self : goal.invariant_of-self
invariant_of-self c =
    subst (λ f. AreAmong f c.self.inside.answers c.self.inside.rows.entries) (sym c.without_bit-self-inside.ensures)
    (among-without c.self.inside.floods c.self.inside.answers c.args.deed.place c.self.inside.rows.entries (sym c.has_srm.ensures ∙ c.if-not-has_srm.true) c.self.invariant)

pub returns-then-not-has_srm-clause-entries : goal.returns-then-not-has_srm-clause-entries
returns-then-not-has_srm-clause-entries c =
    let none : some_srm c.args.deed.place c.self.inside.rows.entries ≡ false = sym c.has_srm.ensures ∙ c.if-not-has_srm.true in
    subst (λ (m : PageMap FlagRow). c.self.inside.rows.entries ≡ change_all (done_due c.args.deed) m.entries) c.self.view_is
    (sym (none-changed c.args.deed c.self.inside.rows.entries none))

pub invariant_of-self-2 : goal.invariant_of-self-2
invariant_of-self-2 c =
    let f = c.self.inside.floods in
    let a = c.self.inside.answers in
    let deed = c.args.deed in
    let g = floods_after deed.srm deed.place f in
    let b = answers_after deed.ssn deed.place a in
    rw (c.floods_after-self-inside.ensures, c.answers_after-self-inside.ensures)
    (subst (AreAmong g b) (sym c.change_all.ensures.entries)
    (each-among f a g b (done_due deed) c.self.inside.rows.entries (row-due-done deed f a) c.self.invariant))
