use Rattle.std.proofs.Common.{length, ap, ◌∙◌, arith}
use Rattle.lsp_store.specs.PageFacts.{first_number}
use Rattle.lsp_store.proofs.ChangeLemmas.{length-change_all}
use Rattle.lsp_store.proofs.page.Page.note_all.Goals as goal

pub invariant_of-self : goal.invariant_of-self
invariant_of-self g c =
    let old = c.self.invariant in
    let len = ap length c.note_pairs-first.ensures.new ∙ length-change_all (g.C.Noting.changed c.args.change.now) c.self.inside.pairs.items in
    let few = old.few in
    let room = old.room in
    let cap = c.note_pairs-first.ensures.capacity in
    record {
      few = omega (arith, len, few);
      room = omega (arith, cap, room);
      head = c.number_of_first-self-inside.ensures ∙ ap first_number c.deref.ensures.value;
    }
