use Rattle.std.proofs.Common.{ap}
use Rattle.std.proofs.lemmas.Result.{IfOk-weaker}
use Rattle.router_routes.specs.Outlooks.{Outlook}
use Rattle.router_routes.proofs.following.Following.with_prefixes.Goals as goal

pub returns-clause-fits : goal.returns-clause-fits
returns-clause-fits c = c.after.ensures.fits

pub returns-clause-moves : goal.returns-clause-moves
returns-clause-moves c =
    IfOk-weaker c.after.result _ _ (λ next f. λ o is. f o (record {
      root = ap (λ (q : Outlook). q.root) is;
      areas = ap (λ (q : Outlook). q.areas) is;
      runs = ap (λ (q : Outlook). q.runs) is;
      prefixes = ap (λ (q : Outlook). q.prefixes) is;
      one = ap (λ (q : Outlook). q.told.one) is;
      two = ap (λ (q : Outlook). q.told.two) is;
    })) c.after.ensures.moves
