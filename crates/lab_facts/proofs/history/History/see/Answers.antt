use Rattle.std.proofs.lemmas.Result.{on_ok_weaker}
use Rattle.lab_facts.proofs.SightingLemmas.{seen-new, seen-same, seen-other}
use Rattle.lab_facts.proofs.history.History.see.Goals as goal

pub returns-in-New : goal.returns-in-New
returns-in-New c =
    on_ok_weaker c.keep.result
    (λ put seen h. seen-new c.args.self.now c.keep.new.self seen _ c.key_of-key.result c.ranges.number.fits h c.key_of-key.ensures c.in-New.ensures put c.keep.ensures.doubled)
    c.keep.ensures.first

pub returns-in-Same : goal.returns-in-Same
returns-in-Same c seen h =
    seen-same c.args.self.now seen _ c.key_of-key.result c.in-Same.ensures.0 c.ranges.number.fits h c.key_of-key.ensures c.in-Same.ensures.1 c.in-Same.ensures.2

pub returns-in-Other : goal.returns-in-Other
returns-in-Other c =
    on_ok_weaker c.add.result
    (λ put seen h. seen-other c.args.self.now c.add.new.self seen _ c.key_of-key.result c.in-Other.ensures.0 c.ranges.number.fits h c.key_of-key.ensures c.in-Other.ensures.1 c.in-Other.ensures.2 c.add.ensures.first put)
    c.add.ensures.doubled
