use Rattle.std.proofs.Common.{refl}
use Rattle.router_routes.specs.Told.{told_in}
use Rattle.router_routes.proofs.AheadLemmas.{told-one, told-two}
use Rattle.lsp_view.specs.Lsps.{entries_in}
use Rattle.router_routes.proofs.ahead.told_by.Goals as goal

pub returns-in-One-clause-moved : goal.returns-in-One-clause-moved
returns-in-One-clause-moved c = λ o p node nodes is. told-one o p c.args.level node (told_in (entries_in c.args.aside)) _ _ c.in-One.is is refl refl refl nodes refl

pub returns-in-Two-clause-moved : goal.returns-in-Two-clause-moved
returns-in-Two-clause-moved c = λ o p node nodes is. told-two o p c.args.level node (told_in (entries_in c.args.aside)) _ _ c.in-Two.is is refl refl refl nodes refl
