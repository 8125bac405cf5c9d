use Rattle.std.proofs.Common.{◌≡◌, ◌∙◌, ◌+◌, ◌++◌, ◌∷◌, List, ℕ, sym, ap, append_assoc}
use Rattle.line_cuts.specs.Cuts.{parts_behind}
use Rattle.isis_daemon.specs.ShowText.{shown_line, shown_lines}
use Rattle.isis_daemon.proofs.ShowLemmas.{shown_lines-next, shown_lines-end}
use Rattle.isis_daemon.proofs.show.ShownText.add_next.Goals as goal

pub returns-in_default-clause-ends : goal.returns-in_default-clause-ends
returns-in_default-clause-ends c = λ ended. shown_lines-end c.args.self.now.long c.args.self.now.number (parts_behind 10 c.args.self.now.left) (ap (parts_behind 10) c.in_default.is)

pub returns-clause-adds : goal.returns-clause-adds
returns-clause-adds c =
    let line = c.cut.result.0.now in
    let behind = c.cut.result.1 in
    let number = c.args.self.now.number in
    let parts : parts_behind 10 c.args.self.now.left ≡ line ∷ parts_behind 10 behind = ap (parts_behind 10) c.in-Some.is ∙ c.cut.ensures.parts in
    let more = shown_lines c.args.self.now.long (number + 1) (parts_behind 10 behind) in
    ap (λ (text : List ℕ). text ++ more) c.in_ok-add_line.ensures
    ∙ append_assoc c.args.page.now (shown_line c.args.self.now.long number line) more
    ∙ ap (λ (text : List ℕ). c.args.page.now ++ text) (sym (shown_lines-next c.args.self.now.long number line (parts_behind 10 behind) (parts_behind 10 c.args.self.now.left) parts))
