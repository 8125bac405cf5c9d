use Rattle.std.proofs.Common.{◌++◌, ◌+◌, List, [], ◌∷◌, length, take, ap, ◌∙◌, arith}
use Rattle.std.proofs.lemmas.List.{length-append}
use Rattle.isis_base.specs.declared.entry.LspEntry.{LspEntry}
use Rattle.model_router.specs.SnpLists.{last_id}
use Rattle.flag_sync.specs.Heard.{entries_of}
use Rattle.snp_exchange.proofs.WalkLemmas.{take-more, more-behind, last-said}
use Rattle.snp_exchange.proofs.pieces.pass_piece.Goals as goal

pub loop-count-preserved : goal.loop-count-preserved
loop-count-preserved c =
    let i = c.loop-count.invariant in
    let keys = c.args.keys.now in
    let count = c.loop-count.count in
    let front = take count keys in
    let rest = c.loop-count.keys in
    let more = c.next.new.self in
    let said = c.in-Some.said in
    let some = c.in-Some.ensures.steps in
    let taken = take-more keys rest said more count (count + 1) i.split some i.count (omega arith) in
    let lt = c.loop-count-test.true in
    let len = length-append front (said ∷ []) in
    let same = ap length taken in
    let was = i.count in
    record {
      split = ap (λ (xs : List LspEntry). xs ++ more) taken ∙ more-behind keys front rest said more i.split some;
      count = omega (arith, len, same, was);
      few = omega (arith, lt);
      last = λ _. ap (λ (xs : List LspEntry). last_id (entries_of xs)) taken ∙ last-said front said;
    }
