use Rattle.std.proofs.Common.{ℕ, List, ap}
use Rattle.std.proofs.lemmas.Result.{IfOk-weaker}
use Rattle.model_router.specs.Both.{Both}
use Rattle.model_router.specs.Routers.{LanNeighbour}
use Rattle.router_circuits.proofs.medium.Medium.hear_lan.Goals as goal

abbrev pair : List (ℕ × LanNeighbour) → List (ℕ × LanNeighbour) → Both (List (ℕ × LanNeighbour))
pair one two = record { one = one; two = two }

pub returns-in-One-clause-heard : goal.returns-in-One-clause-heard
returns-in-One-clause-heard c config is =
    IfOk-weaker c.hear.result _ _ (λ _ e. rw (c.in-Lan.is, c.in-One.is) (ap (λ (m : List (ℕ × LanNeighbour)). pair m c.in-Lan.two) (rw c.in-One.is at e)))
    (c.hear.ensures.heard config is)

pub returns-in-Two-clause-heard : goal.returns-in-Two-clause-heard
returns-in-Two-clause-heard c config is =
    IfOk-weaker c.hear-in-Two.result _ _ (λ _ e. rw (c.in-Lan.is, c.in-Two.is) (ap (λ (m : List (ℕ × LanNeighbour)). pair c.in-Lan.one m) (rw c.in-Two.is at e)))
    (c.hear-in-Two.ensures.heard config is)
