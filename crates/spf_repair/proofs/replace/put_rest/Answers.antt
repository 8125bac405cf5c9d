use Rattle.std.proofs.Common.{◌≡◌, ℕ, length, subst, arith}
use Rattle.spf_tree.specs.Walks.{start}
use Rattle.spf_tree.proofs.SearchLemmas.{no_row}
use Rattle.spf_repair.specs.Replace.{IsExchanged}
use Rattle.spf_repair.proofs.ReplaceLemmas.{put_one, first_push, from_end}
use Rattle.spf_repair.proofs.replace.put_rest.Goals as goal

pub loop-place-preserved : goal.loop-place-preserved
loop-place-preserved c = record {
  put = λ rows removed found x.
      put_one rows removed c.args.added.now c.loop-place.merged.items c.push.new.self.items (length rows) found c.loop-place.place no_row c.whole.result c.loop-place-test.true c.whole.ensures.same c.whole.ensures.small c.requires.sorted
      (from_end rows (length rows) (start c.whole.result) (omega arith)) c.in-Ok.ensures.items (c.loop-place.invariant.put rows removed found x);
  first = λ rows many first. first_push rows c.loop-place.merged.items c.push.new.self.items c.whole.result many c.in-Ok.ensures.items (c.loop-place.invariant.first rows many first);
}

pub returns-clause-put : goal.returns-clause-put
returns-clause-put c = λ rows removed found x.
    let y : IsExchanged rows removed c.args.added.now c.loop-place.merged.items (length rows) found c.loop-place.place = c.loop-place.invariant.put rows removed found x in
    let top = y.few_from in
    let past = c.loop-place-test.false in
    let e : c.loop-place.place ≡ length c.args.added.now = omega arith in
    subst (λ (n : ℕ). IsExchanged rows removed c.args.added.now c.loop-place.merged.items (length rows) found n) e y
