use Rattle.std.proofs.Common.{◌∙◌, ℕ, List, Ok, nat_eq, codes, max, sym, ap}
use Rattle.std.specs.List.{common_prefix_len}
use Rattle.isis_base.specs.Levels.{levels_of}
use Rattle.isis_base.proofs.LevelLemmas.{IsFaultAt-levels, levels_of-text, levels_of-written}
use Rattle.isis_base.proofs.level_text.read_levels.Goals as goal

pub returns-in-None-clause-err : goal.returns-in-None-clause-err
returns-in-None-clause-err c =
    let bytes = c.as_bytes-bytes.ensures.value in
    IsFaultAt-levels c.args.text.now c.max-place.result
    (c.max-place.ensures
    ∙ ap (λ (n : ℕ). max n c.common_length-in-None.result) (c.common_length.ensures ∙ ap (common_prefix_len nat_eq (codes "L1L2")) bytes)
    ∙ ap (max (common_prefix_len nat_eq (codes "L1L2") c.args.text.now)) (c.common_length-in-None.ensures ∙ ap (common_prefix_len nat_eq (codes "L2")) bytes))
    (λ set same. let read = c.in-None.ensures ∙ ap levels_of (bytes ∙ same) ∙ levels_of-written set in cc)

pub returns-in-None-clause-read : goal.returns-in-None-clause-read
returns-in-None-clause-read c = λ set same. let read = c.in-None.ensures ∙ ap levels_of (c.as_bytes-bytes.ensures.value ∙ same) ∙ levels_of-written set in cc

pub returns-in-Some-clause-ok : goal.returns-in-Some-clause-ok
returns-in-Some-clause-ok c = levels_of-text c.args.text.now c.in-Some.set (sym (c.in-Some.ensures ∙ ap levels_of c.as_bytes-bytes.ensures.value))

pub returns-in-Some-clause-read : goal.returns-in-Some-clause-read
returns-in-Some-clause-read c = λ set same. let read = c.in-Some.ensures ∙ ap levels_of (c.as_bytes-bytes.ensures.value ∙ same) ∙ levels_of-written set in cc
