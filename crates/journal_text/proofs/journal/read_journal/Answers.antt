use Rattle.std.proofs.Common.{◌≡◌, ◌∙◌, ◌+◌, ◌∷◌, List, length, suc, sym, ap, arith}
use Rattle.journal_text.specs.declared.entry.WovenEntry.{WovenEntry}
use Rattle.journal_text.specs.Journals.{entries_from, journal_of}
use Rattle.journal_text.proofs.JournalLemmas.{joined, entry-read, entry-refused, end-read, none-left}
use Rattle.line_cuts.specs.Cuts.{parts_behind}
use Rattle.line_cuts.proofs.CutLemmas.{size_left, size_left-of_behind}
use Rattle.journal_text.proofs.journal.read_journal.Goals as goal

pub returns-then-ends-clause-ok : goal.returns-then-ends-clause-ok
returns-then-ends-clause-ok c =
    let line = c.cut-in-Some.result.0.now in
    let behind = c.cut-in-Some.result.1 in
    let parts : parts_behind 10 c.loop-left.left ≡ line ∷ parts_behind 10 behind = ap (parts_behind 10) c.in-Some.is ∙ c.cut-in-Some.ensures.parts in
    sym c.loop-left.invariant.read
    ∙ end-read c.loop-left.entries.items c.loop-left.number (parts_behind 10 c.loop-left.left) (parts_behind 10 behind) line parts (sym c.ends.ensures ∙ c.if-ends.true)

pub returns-in-Err-clause-err : goal.returns-in-Err-clause-err
returns-in-Err-clause-err c =
    let line = c.cut-in-Some.result.0.now in
    let behind = c.cut-in-Some.result.1 in
    let parts : parts_behind 10 c.loop-left.left ≡ line ∷ parts_behind 10 behind = ap (parts_behind 10) c.in-Some.is ∙ c.cut-in-Some.ensures.parts in
    entry-refused c.loop-left.entries.items c.loop-left.number (parts_behind 10 c.loop-left.left) (parts_behind 10 behind) line (journal_of c.args.text.now) c.in-Err.fault parts (sym c.ends.ensures ∙ c.if-ends.false) c.loop-left.invariant.read c.in-Err.ensures.err

pub loop-left-preserved : goal.loop-left-preserved
loop-left-preserved c =
    let line = c.cut-in-Some.result.0.now in
    let behind = c.cut-in-Some.result.1 in
    let number = c.loop-left.number in
    let parts : parts_behind 10 c.loop-left.left ≡ line ∷ parts_behind 10 behind = ap (parts_behind 10) c.in-Some.is ∙ c.cut-in-Some.ensures.parts in
    let size : size_left c.loop-left.left ≡ suc (length c.in-Some.rest.now) = ap size_left c.in-Some.is in
    record {
      counted = omega (arith, c.loop-left.invariant.counted, size, size_left-of_behind behind (length c.in-Some.rest.now) c.cut-in-Some.ensures.less);
      read =
          ap (λ (entries : List WovenEntry). joined entries (entries_from (number + 1) (parts_behind 10 behind))) c.in-Ok-push.ensures.items
          ∙ entry-read c.loop-left.entries.items number (parts_behind 10 c.loop-left.left) (parts_behind 10 behind) line c.in-Ok.entry parts (sym c.ends.ensures ∙ c.if-ends.false) c.in-Ok.ensures.ok
          ∙ c.loop-left.invariant.read;
    }

pub returns-clause-ok : goal.returns-clause-ok
returns-clause-ok c = sym c.loop-left.invariant.read ∙ none-left c.loop-left.entries.items c.loop-left.number (parts_behind 10 c.loop-left.left) (ap (parts_behind 10) c.in_default.is)
