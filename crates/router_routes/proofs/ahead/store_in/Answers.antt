use Rattle.std.proofs.Common.{◌≡◌, true, subst, sym}
use Rattle.isis_base.specs.declared.level.Level.{Level}
use Rattle.model_router.specs.Both.{at}
use Rattle.router_routes.specs.Outlooks.{outlook_in}
use Rattle.router_routes.specs.Told.{told_in}
use Rattle.router_routes.proofs.PutLemmas.{told-one, told-two}
use Rattle.router_routes.proofs.ahead.store_in.Goals as goal

pub returns-in-One : goal.returns-in-One
returns-in-One c =
    subst (λ (l : Level). at (outlook_in c.args.lent.now).runs l ≡ true → at (outlook_in c.args.lent.now).told l ≡ told_in c.args.lent.now.one.now.entries) (sym c.in-One.is) (told-one c.args.lent.now)

pub returns-in-Two : goal.returns-in-Two
returns-in-Two c =
    subst (λ (l : Level). at (outlook_in c.args.lent.now).runs l ≡ true → at (outlook_in c.args.lent.now).told l ≡ told_in c.args.lent.now.two.now.entries) (sym c.in-Two.is) (told-two c.args.lent.now)
