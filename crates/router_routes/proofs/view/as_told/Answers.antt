use Rattle.router_routes.proofs.ViewLemmas.{viewed-same, viewed-fit, viewed-beside}
use Rattle.router_routes.proofs.view.as_told.Goals as goal

pub returns-clause-same : goal.returns-clause-same
returns-clause-same c =
    viewed-same c.args.lent.now c.args.told.now c.view_of.result c.view_of.ensures c.len-one.ensures.ids c.len-one.ensures.rises c.len-two.ensures.ids c.len-two.ensures.rises c.moved_law.ensures c.moved_law-2.ensures c.requires.one c.requires.two

pub returns-clause-fit : goal.returns-clause-fit
returns-clause-fit c =
    viewed-fit c.args.lent.now c.args.told.now c.view_of.result c.view_of.ensures c.len-one.ensures.ids c.len-one.ensures.rises c.len-two.ensures.ids c.len-two.ensures.rises c.moved_law.ensures c.moved_law-2.ensures c.requires.one c.requires.two

pub returns-clause-beside : goal.returns-clause-beside
returns-clause-beside c =
    viewed-beside c.args.lent.now c.args.told.now c.view_of.result c.view_of.ensures c.len-one.ensures.ids c.len-one.ensures.rises c.len-two.ensures.ids c.len-two.ensures.rises c.moved_law.ensures c.moved_law-2.ensures c.requires.one c.requires.two
