use Rattle.std.proofs.Common.{◌∙◌, take, Err}
use Rattle.weave_text.proofs.WovenLemmas.{lines-fault, said-in}
use Rattle.weave_text.proofs.woven.weave_lines.Goals as goal

pub refused_by-requires : goal.refused_by-requires
refused_by-requires c =
    lines-fault (take c.pass_ahead-count.result.0 c.args.lines.now.lines) c.as_slice.result.now c.in-Err-read_script.fault (c.as_slice.ensures ∙ c.in-Ok.ensures) c.in-Err-read_script.ensures

pub returns : goal.returns
returns c = said-in c.args.lines.now c.pass_ahead-count.result.0 (Err c.refused_by.result) c.pass_ahead-count.ensures.count c.refused_by.ensures
