use Rattle.std.proofs.Common.{◌≡◌, ◌∙◌, ◌++◌, ◌∷◌, [], ℕ, List, OnOk, ap, subst}
use Rattle.std.specs.Prelude.{codes}
use Rattle.state_text.specs.StateLines.{designated_words, at_words, system_word}
use Rattle.state_text.proofs.PieceLemmas.{three}
use Rattle.state_text.proofs.circuit_lines.add_designated_words.Goals as goal

pub returns : goal.returns
unfolding designated_words
returns c =
    let front = at_words (codes "designated ") c.args.number c.args.level in
    let system = system_word c.args.system in
    subst (λ (t : List ℕ). OnOk c.extend.result (c.extend.new.self ≡ t))
    (ap (λ (t : List ℕ). t ++ 10 ∷ []) (c.in_ok-add_system.ensures ∙ ap (λ (t : List ℕ). t ++ system) c.in_ok-add_at.ensures)
    ∙ three c.args.page.now front system (10 ∷ []))
    c.extend.ensures.ok
