use Rattle.std.proofs.Common.{◌≡◌, ◌∙◌, ◌++◌, ◌∷◌, [], ℕ, List, OnOk, ap, subst}
use Rattle.std.specs.Prelude.{codes, decimal}
use Rattle.state_text.specs.StateLines.{boot_words, of_words}
use Rattle.state_text.proofs.PieceLemmas.{three}
use Rattle.state_text.proofs.circuit_lines.add_boot_words.Goals as goal

pub returns : goal.returns
unfolding boot_words
returns c =
    let front = of_words (codes "heard-boot ") c.args.number c.args.system in
    let boot : List ℕ = codes " " ++ decimal c.from.result in
    subst (λ (t : List ℕ). OnOk c.extend.result (c.extend.new.self ≡ t))
    (ap (λ (t : List ℕ). t ++ 10 ∷ []) (c.in_ok-add_number.ensures ∙ ap (λ (t : List ℕ). t ++ boot) c.in_ok-add_of.ensures)
    ∙ (three c.args.page.now front boot (10 ∷ [])
    ∙ ap (λ (n : ℕ). c.args.page.now ++ ((front ++ (codes " " ++ decimal n)) ++ 10 ∷ [])) c.from.ensures))
    c.extend.ensures.ok
