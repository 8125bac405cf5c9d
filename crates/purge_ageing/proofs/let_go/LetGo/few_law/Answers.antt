use Rattle.std.proofs.Common.{◌≤◌, Bool, true, false, List, length, IfSome, subst, arith}
use Rattle.isis_base.specs.declared.identifiers.LspId.{LspId}
use Rattle.model_router.specs.LetGos.{LetGo}
use Rattle.purge_ageing.specs.Ids.{gone_of}
use Rattle.purge_ageing.proofs.IdLemmas.{length-numbers}
use Rattle.purge_ageing.proofs.let_go.LetGo.few_law.Goals as goal

few : (all : Bool) (ids : List LspId) → length ids ≤ 4096 → IfSome (gone_of all ids) (λ ns. length ns ≤ 4096)
few true ids h = tt
few false ids h = omega (arith, length-numbers ids, h)

pub returns : goal.returns
returns c =
    subst (λ (g : LetGo). IfSome g (λ ns. length ns ≤ 4096)) c.self.view_is (few c.self.inside.all c.self.inside.ids.items c.self.invariant.few)
