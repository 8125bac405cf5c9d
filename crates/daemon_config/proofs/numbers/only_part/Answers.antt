use Rattle.std.proofs.Common.{◌∙◌, ℕ, List, ◌∷◌, length, ap, arith}
use Rattle.std.specs.Prelude.{◌==◌}
use Rattle.std.proofs.lemmas.List.Splits.{length-slice_split}
use Rattle.line_cuts.specs.Cuts.{parts_behind}
use Rattle.daemon_config.specs.Fields.{parts_at}
use Rattle.daemon_config.proofs.numbers.only_part.Goals as goal

pub returns-in_default-Some : goal.returns-in_default-Some
unfolding parts_at
returns-in_default-Some c =
    let parts = c.cut.ensures.parts ∙ ap (λ behind. c.cut.result.0.now ∷ parts_behind c.args.mark behind) c.in_default-Some.is-1 in
    omega (arith, ap (λ (parts : List (List ℕ)). length parts) parts, length-slice_split (λ (byte : ℕ). byte == c.args.mark) c.in_default-Some.field-0-1.now)
