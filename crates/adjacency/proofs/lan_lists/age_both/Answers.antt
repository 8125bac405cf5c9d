use Rattle.std.proofs.Common.{◌∙◌}
use Rattle.adjacency.specs.Inside.{lan_of}
use Rattle.adjacency.proofs.LanLemmas.{is_lan-aged, lan-aged, over-shown, up-over-shown}
use Rattle.adjacency.proofs.lan_lists.age_both.Goals as goal

pub returns-clause-lan : goal.returns-clause-lan
returns-clause-lan c =
    is_lan-aged c.args.heard.now.items c.args.up.now.items _ _ c.requires _ _ c.age-some_over.ensures.items c.age-some_up_over.ensures.items _ _ c.age-some_over.ensures.room c.age-some_up_over.ensures.room

pub returns-clause-less : goal.returns-clause-less
returns-clause-less c =
    lan-aged c.args.heard.now.items c.args.up.now.items _ _ c.requires _ _ c.age-some_over.ensures.items c.age-some_up_over.ensures.items

pub returns-clause-change : goal.returns-clause-change
returns-clause-change c =
    c.second_change.ensures (lan_of c.args.heard.now.items c.args.up.now.items)
    (c.age-some_over.ensures.over ∙ over-shown c.args.heard.now.items c.args.up.now.items _ _ c.requires)
    (c.age-some_up_over.ensures.over ∙ up-over-shown c.args.heard.now.items c.args.up.now.items _ _ c.requires)
