use Rattle.std.proofs.Common.{sym, ◌∙◌}
use Rattle.adjacency.proofs.LanLemmas.{full-shown, has-room}
use Rattle.adjacency.specs.Inside.{lan_of}
use Rattle.adjacency.proofs.lan.passed.Goals as goal

pub returns-in-Ok-clause-tested : goal.returns-in-Ok-clause-tested
returns-in-Ok-clause-tested c up space up_space boots lan greatest =
    c.in-Ok.ensures.tested (lan_of c.args.heard.now up) boots greatest
    (c.is_full.ensures ∙ full-shown c.args.heard.now up space up_space lan _ c.place_of-place.result c.place_of-place.ensures)

pub returns-in-Ok-clause-room : goal.returns-in-Ok-clause-room
returns-in-Ok-clause-room c =
    has-room c.args.heard.now _ c.place_of-place.result c.place_of-place.ensures (sym c.is_full.ensures ∙ c.in-Ok.ensures.room)

pub returns-in-Err-clause-tested : goal.returns-in-Err-clause-tested
returns-in-Err-clause-tested c up space up_space boots lan greatest =
    c.in-Err.ensures.tested (lan_of c.args.heard.now up) boots greatest
    (c.is_full.ensures ∙ full-shown c.args.heard.now up space up_space lan _ c.place_of-place.result c.place_of-place.ensures)
