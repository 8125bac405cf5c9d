-- The text of a grid is read as a lab script.
use Rattle.std.proofs.Common.{◌≡◌, ℕ, ◌+◌, ◌-◌, Bool, true, false, List, [], ◌∷◌, ◌++◌, codes, Result, Ok, Err, refl, ap, sym, ◌∙◌, append_assoc, if◌then◌else◌}
use Rattle.lab_script.specs.declared.reason.ScriptFault.{ScriptFault}
use Rattle.lab_script.specs.declared.script.Script.{Script}
use Rattle.lab_script.specs.declared.script.Script.TheVariants.{Lab}
use Rattle.lab_script.specs.LabJudged.{with_words}
use Rattle.lab_script.specs.LabScripts.{LabScript, nothing_laid}
use Rattle.line_cuts.specs.Words.{words_of, lines_of}
use Rattle.lab_script.specs.Scripts.{◌>>=◌, is_skipped, hear_lines, script_of, is_lab_script}
use Rattle.lab_grid.specs.GridText.{router_line, across_line, down_line, prefix_line, row_by_row, grid_text}

-- a script that is read is a lab script
abbrev is_lab_if_read : Result Script ScriptFault → Bool
is_lab_if_read (Ok script) = is_lab_script script
is_lab_if_read (Err fault) = true

step : (so_far : LabScript) (skipped : Bool) (heard : Result LabScript ScriptFault) (next : Script → Result Script ScriptFault) → ((more : LabScript) → is_lab_if_read (next (Lab more)) ≡ true) → is_lab_if_read ((if skipped then Ok (Lab so_far) else (heard >>= λ more. Ok (Lab more))) >>= next) ≡ true
step so_far true heard next rest = rest so_far
step so_far false (Ok more) next rest = rest more
step so_far false (Err fault) next rest = refl

stays-lab : (so_far : LabScript) (number : ℕ) (texts : List (List ℕ)) → is_lab_if_read (hear_lines (Lab so_far) number texts) ≡ true
unfolding hear_lines
stays-lab so_far number [] = refl
stays-lab so_far number (text ∷ texts) =
    step so_far (is_skipped text) (with_words so_far number (words_of text)) (λ more. hear_lines more (number + 1) texts) (λ more. stays-lab more (number + 1) texts)

headed-lab : (rest : List ℕ) → is_lab_if_read (script_of (codes "isis-lab 1\n" ++ rest)) ≡ true
headed-lab rest = stays-lab nothing_laid 2 (lines_of rest)

regroup : (a b c d e f : List ℕ) → a ++ b ++ c ++ d ++ e ++ f ≡ a ++ (b ++ c ++ d ++ e ++ f)
regroup a b c d e f =
    ap (λ x. x ++ f) (ap (λ x. x ++ e) (ap (λ x. x ++ d) (append_assoc a b c) ∙ append_assoc a (b ++ c) d) ∙ append_assoc a (b ++ c ++ d) e) ∙ append_assoc a (b ++ c ++ d ++ e) f

pub grid-is-lab : (size : ℕ) (script : Script) → script_of (grid_text size) ≡ Ok script → is_lab_script script ≡ true
unfolding grid_text
grid-is-lab size script read =
    let head = codes "isis-lab 1\n" in
    let routers = row_by_row router_line size size in
    let across = row_by_row across_line size (size - 1) in
    let down = row_by_row down_line (size - 1) size in
    let prefixes = row_by_row prefix_line size size in
    let end = codes "run 60\n" in
    sym (ap is_lab_if_read read) ∙ ap (λ text. is_lab_if_read (script_of text)) (regroup head routers across down prefixes end)
    ∙ headed-lab (routers ++ across ++ down ++ prefixes ++ end)
