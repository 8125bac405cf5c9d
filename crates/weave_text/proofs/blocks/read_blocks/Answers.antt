use Rattle.std.proofs.Common.{◌≡◌, ◌∙◌, ◌+◌, ℕ, List, Result, sym, ap, subst}
use Rattle.std.proofs.lemmas.Result.{IfOk-weaker, IfErr-weaker}
use Rattle.lab_script.specs.declared.reason.ScriptFault.{ScriptFault}
use Rattle.lab_script.specs.Scripts.{names_in}
use Rattle.weave_text.specs.Blocks.{Block, hear_lines, blocks_in, IsFaultOf}
use Rattle.weave_text.specs.Lines.{Left}
use Rattle.weave_text.proofs.BlockLemmas.{hear-next, hear-all, hear-fault, journals-there}
use Rattle.weave_text.proofs.blocks.read_blocks.Goals as goal

pub returns-in-Err-clause-err : goal.returns-in-Err-clause-err
returns-in-Err-clause-err c =
    subst (λ (r : Result (List Block) ScriptFault). IsFaultOf r c.in-Err.fault) c.loop-line.invariant.read
    (hear-fault (names_in c.args.script.now) c.loop-line.so_far c.hear.new.self c.loop-line.number c.loop-line.left.lines c.in-Some.line.now c.next.new.self.lines c.in-Err.fault c.in-Some.ensures.0 c.in-Err.ensures)

pub loop-line-preserved : goal.loop-line-preserved
loop-line-preserved c =
    let names = names_in c.args.script.now in
    let next = c.next.new.self in
    let number : c.number-number-in-Some.result ≡ c.loop-line.number + 1 =
    c.number-number-in-Some.ensures ∙ ap (λ (l : Left). l.number) c.in-Some.ensures.1 ∙ ap (λ (n : ℕ). n + 1) (sym c.loop-line.invariant.numbered) in
    record {
      numbered = c.number-number-in-Some.ensures;
      read =
          ap (λ (n : ℕ). hear_lines names c.hear.new.self n next.lines) number
          ∙ sym (hear-next names c.loop-line.so_far c.hear.new.self c.loop-line.number c.loop-line.left.lines c.in-Some.line.now next.lines c.in-Some.ensures.0 c.in-Ok.ensures)
          ∙ c.loop-line.invariant.read;
    }

pub returns-clause-ok : goal.returns-clause-ok
returns-clause-ok c =
    let all = hear-all (names_in c.args.script.now) c.loop-line.so_far c.loop-line.number c.saturating_sub.result c.loop-line.left.lines (blocks_in (names_in c.args.script.now) c.args.lines.now) c.in_default.ensures.0 c.saturating_sub.ensures c.loop-line.invariant.read in
    IfOk-weaker c.all.result _ _ (λ journals is. all ∙ is) c.all.ensures.ok

pub returns-clause-there : goal.returns-clause-there
returns-clause-there c =
    let all = hear-all (names_in c.args.script.now) c.loop-line.so_far c.loop-line.number c.saturating_sub.result c.loop-line.left.lines (blocks_in (names_in c.args.script.now) c.args.lines.now) c.in_default.ensures.0 c.saturating_sub.ensures c.loop-line.invariant.read in
    IfOk-weaker c.all.result _ _ (λ journals is. journals-there (names_in c.args.script.now) c.args.lines.now journals.items (all ∙ is)) c.all.ensures.ok

pub returns-clause-err : goal.returns-clause-err
returns-clause-err c =
    let all = hear-all (names_in c.args.script.now) c.loop-line.so_far c.loop-line.number c.saturating_sub.result c.loop-line.left.lines (blocks_in (names_in c.args.script.now) c.args.lines.now) c.in_default.ensures.0 c.saturating_sub.ensures c.loop-line.invariant.read in
    IfErr-weaker c.all.result _ _ (λ fault is. subst (λ (r : Result (List Block) ScriptFault). IsFaultOf r fault) (sym all) is) c.all.ensures.err
