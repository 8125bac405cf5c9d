use Rattle.std.proofs.Common.{◌≡◌, ◌||◌, ℕ, List, length, Option, sym, ap, subst, ◌∙◌}
use Rattle.std.specs.Option.{option_map}
use Rattle.isis_base.specs.declared.identifiers.LspId.{LspId}
use Rattle.isis_base.specs.Identifiers.{lsp_number}
use Rattle.flag_sync.specs.Ages.{first_of}
use Rattle.flag_sync.specs.BookStates.{book_of}
use Rattle.purge_ageing.specs.Ends.{state_of, end_all, some_keyed}
use Rattle.purge_ageing.proofs.LoopLemmas.{to_end, to_end-found, to_end-first, up-less, fewer, or-false, turn-ends, turn-keyed, turn-fewer, whole, some-changed, none-changed}
use Rattle.purge_ageing.proofs.second.age.Goals as goal

pub loop-over-init : goal.loop-over-init
loop-over-init c =
    let b = book_of c.age_first_over-over.new.self in
    let e = c.age_first_over-over.ensures in
    let over = c.age_first_over-over.result in
    let up = up-less (book_of c.args.book.now) b e.book e.rises in
    let found = to_end-found b.cells 0 over up e.first in
    record {
      up = up;
      first = to_end-first b.cells 0 over up e.first;
      ends = λ own. ap (end_all (state_of b own c.args.gone.now)) found;
      keyed = ap (some_keyed b) found;
      circuits = e.rest;
      spare = e.spare;
    }

pub loop-over-smaller : goal.loop-over-smaller
loop-over-smaller c =
    let b = book_of c.loop-over.book in
    let new = book_of c.end_entry-changed.new.book in
    let i = c.loop-over.invariant in
    let n = lsp_number c.in-Some.id in
    let first = subst (λ (o : Option LspId). option_map lsp_number o ≡ first_of (to_end o b.cells)) c.in-Some.is i.first in
    let next = c.next_over-over.ensures in
    fewer _ _ _ _ (ap length (to_end-found new.cells n c.next_over-over.result next.rises next.first))
    (ap (λ (o : Option LspId). length (to_end o b.cells)) c.in-Some.is)
    (turn-fewer b new c.loop-over.gone c.end_entry-changed.new.gone n n i.up first c.end_entry-changed.ensures.ended)

pub loop-over-preserved : goal.loop-over-preserved
loop-over-preserved c =
    let b = book_of c.loop-over.book in
    let new = book_of c.end_entry-changed.new.book in
    let gone = c.loop-over.gone in
    let later = c.end_entry-changed.new.gone in
    let i = c.loop-over.invariant in
    let n = lsp_number c.in-Some.id in
    let first = subst (λ (o : Option LspId). option_map lsp_number o ≡ first_of (to_end o b.cells)) c.in-Some.is i.first in
    let next = c.next_over-over.ensures in
    let over = c.next_over-over.result in
    let found = to_end-found new.cells n over next.rises next.first in
    let turn = c.end_entry-changed.ensures in
    let changed = c.loop-over.changed in
    record {
      up = next.rises;
      first = to_end-first new.cells n over next.rises next.first;
      ends = λ own.
          ap (end_all (state_of new own later)) found ∙ turn-ends b new gone later n n i.up first turn.ended own
          ∙ sym (ap (λ (o : Option LspId). end_all (state_of b own gone) (to_end o b.cells)) c.in-Some.is) ∙ i.ends own;
      keyed =
          ap (λ (ns : List ℕ). (changed || c.end_entry-changed.result) || some_keyed new ns) found
          ∙ turn-keyed b new gone later n n i.up first turn.ended changed c.end_entry-changed.result turn.keyed
          ∙ sym (ap (λ (o : Option LspId). changed || some_keyed b (to_end o b.cells)) c.in-Some.is) ∙ i.keyed;
      circuits = record {
        opened = turn.circuits.opened ∙ i.circuits.opened;
        points = turn.circuits.points ∙ i.circuits.points;
        circuits = turn.circuits.circuits ∙ i.circuits.circuits;
      };
      spare = turn.spare ∙ i.spare;
    }

pub returns-clause-aged : goal.returns-clause-aged
returns-clause-aged c =
    let e = c.age_first_over-over.ensures in
    let new = book_of c.loop-over.book in
    let gone = c.loop-over.gone in
    let i = c.loop-over.invariant in
    whole (book_of c.args.book.now) (book_of c.age_first_over-over.new.self) new c.args.gone.now gone e.book e.rises
    (λ own. ap (λ (o : Option LspId). end_all (state_of new own gone) (to_end o new.cells)) (sym c.in_default.is) ∙ i.ends own)

pub returns-clause-changed : goal.returns-clause-changed
returns-clause-changed c is =
    let e = c.age_first_over-over.ensures in
    let new = book_of c.loop-over.book in
    let gone = c.loop-over.gone in
    let i = c.loop-over.invariant in
    let keyed = sym (or-false c.loop-over.changed) ∙ ap (λ (o : Option LspId). c.loop-over.changed || some_keyed new (to_end o new.cells)) (sym c.in_default.is) ∙ i.keyed in
    some-changed (book_of c.args.book.now) (book_of c.age_first_over-over.new.self) new c.args.gone.now gone e.book e.rises
    (λ own. ap (λ (o : Option LspId). end_all (state_of new own gone) (to_end o new.cells)) (sym c.in_default.is) ∙ i.ends own) (sym keyed ∙ is)

pub returns-clause-same : goal.returns-clause-same
returns-clause-same c is =
    let e = c.age_first_over-over.ensures in
    let new = book_of c.loop-over.book in
    let gone = c.loop-over.gone in
    let i = c.loop-over.invariant in
    let keyed = sym (or-false c.loop-over.changed) ∙ ap (λ (o : Option LspId). c.loop-over.changed || some_keyed new (to_end o new.cells)) (sym c.in_default.is) ∙ i.keyed in
    none-changed (book_of c.args.book.now) (book_of c.age_first_over-over.new.self) new c.args.gone.now gone e.book e.rises
    (λ own. ap (λ (o : Option LspId). end_all (state_of new own gone) (to_end o new.cells)) (sym c.in_default.is) ∙ i.ends own) (sym keyed ∙ is)
