use Rattle.std.proofs.Common.{◌≡◌, ℕ, ◌-◌, ◌∷◌, [], ◌++◌, List, length, sym, ap, ◌∙◌, subst, arith}
use Rattle.std.proofs.lemmas.List.{length-map}
use Rattle.model_router.specs.Places.{with_nth}
use Rattle.weave_replay.specs.Entries.{entry_of, entries_of}
use Rattle.weave.specs.Counts.{AreAhead}
use Rattle.weave.proofs.CountLemmas.{not-made, are-made, ahead-more}
use Rattle.weave.proofs.counting.first_in.Goals as goal

pub returns-then-made-entries-clause-found : goal.returns-then-made-entries-clause-found
returns-then-made-entries-clause-found c made before are =
    let e = c.len-entries.ensures ∙ (c.args.journal.now.entries.ok.0 ∙ sym (length-map c.args.journal.now.entries.items entry_of)) in
    not-made made before c.args.journal.now c.args.ahead.now c.count_at-made.result are c.requires c.count_at-made.ensures (omega (arith, c.if-made-entries.true, e))

pub returns-clause-found : goal.returns-clause-found
returns-clause-found c made before are =
    let e = c.len-entries.ensures ∙ (c.args.journal.now.entries.ok.0 ∙ sym (length-map c.args.journal.now.entries.items entry_of)) in
    are-made made before c.args.journal.now c.args.ahead.now c.count_at-made.result are c.count_at-made.ensures (omega (arith, c.if-made-entries.false, e))

pub returns-clause-goes_on : goal.returns-clause-goes_on
returns-clause-goes_on c made before are =
    let e = c.len-entries.ensures ∙ (c.args.journal.now.entries.ok.0 ∙ sym (length-map c.args.journal.now.entries.items entry_of)) in
    let s = c.saturating_sub.ensures in
    let less : c.saturating_sub.result ≡ c.count_at-made.result - length (entries_of c.args.journal.now) - 1 = omega (arith, s, e) in
    subst (λ (xs : List ℕ). AreAhead made (before ++ c.args.journal.now ∷ []) xs)
    (sym (c.put_at.ensures ∙ ap (with_nth c.args.ahead.now c.args.journal.now.router) less))
    (ahead-more made before c.args.journal.now c.args.ahead.now c.count_at-made.result are c.count_at-made.ensures (omega (arith, c.if-made-entries.false, e)))
