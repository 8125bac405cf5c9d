use Rattle.std.proofs.Common.{◌-◌, ◌∙◌}
use Rattle.lab_facts.proofs.StateLemmas.{off_near, off_far, on_both, between}
use Rattle.lab_facts.proofs.state.link_state.Goals as goal

pub returns-in_default : goal.returns-in_default
returns-in_default g c = c.no_state.ensures ∙ off_near c.args.near.now (c.args.near_circuit - 1) c.args.far.now (c.args.far_circuit - 1) c.args.level c.in_default.ensures

pub returns-in_default-book : goal.returns-in_default-book
returns-in_default-book g c = c.no_state-in_default-book.ensures ∙ off_far c.args.near.now (c.args.near_circuit - 1) c.args.far.now (c.args.far_circuit - 1) c.args.level c.in-Some.ensures.0 c.in_default-book.ensures

pub returns : goal.returns
returns g c =
    on_both c.args.near.now (c.args.near_circuit - 1) c.args.far.now (c.args.far_circuit - 1) c.args.level _ c.in-Some.ensures.0 c.in-Some-book.ensures.0
    (between c.args.near.now (c.args.near_circuit - 1) c.args.far.now (c.args.far_circuit - 1) c.args.level _ _ _ _ _ _ _ _ _ _ c.in-Some.ensures.1 c.in-Some-book.ensures.1 c.let_go-near_gone.ensures c.let_go-far_gone.ensures
    c.are_up.ensures c.count_end-near_end.ensures.flags c.count_end-far_end.ensures.flags c.count_end-near_end.ensures.ahead c.count_end-far_end.ensures.ahead c.excepted.ensures)
