-- The number of a copy is read from what is written of it.
use Rattle.std.proofs.Common.{◌≡◌, ◌∙◌, ℕ, ◌<◌, ◌^◌, Bool, cond, ltb, Some, ap, arith}
use Rattle.std.specs.Prelude.{decimal}
use Rattle.std.specs.Option.{option_map}
use Rattle.std.proofs.lemmas.Bool.{lt-ltb}
use Rattle.line_cuts.proofs.NumberTexts.{numeral_of-decimal}
use Rattle.lab_script.specs.Fields.{copy_of}

pub copy-read : (copy : ℕ) → copy < 2 ^ 64 → copy_of (decimal copy) ≡ Some copy
copy-read copy h =
    ap (option_map (λ n. cond (ltb n (2 ^ 64)) n 0)) (numeral_of-decimal copy (omega (arith, h)))
    ∙ ap (λ (t : Bool). Some (cond t copy 0)) (lt-ltb copy (2 ^ 64) h)
