-- A step keeps a good router good, and one that can tell its areas and addresses able to.
use Rattle.std.proofs.Common.{ℕ, ◌^◌, ◌<◌, ◌≤◌, List, length, sym, subst}
use Rattle.isis_tlv.specs.Spelling.{area_value}
use Rattle.model_router.specs.Routers.{Router, level_of}
use Rattle.model_router.specs.Givens.{Given}
use Rattle.model_router.specs.Events.{Event}
use Rattle.model_router.specs.Steps.{step}
use Rattle.model_router.specs.Good.{IsGoodGiven, IsGoodEvent, IsGoodRouter, IsTelling}
use Rattle.model_router.specs.Hearings.{hearing}
use Rattle.model_router.proofs.StepWays.{step-course}
use Rattle.model_router.proofs.GoodLemmas.{course-good}
use Rattle.model_router.proofs.BondLemmas.{step-stays}

pub step-good : (given : Given) (r : Router) (event : Event) → IsGoodGiven given → IsGoodEvent event → IsGoodRouter r → IsGoodRouter (step given r event).router
step-good given r event gg ge gr =
    let s = step-stays given r event in
    record {
      config = record {
        system = subst (λ (n : ℕ). n < 2 ^ 48) (sym s.system) gr.config.system;
        circuits = subst (λ (n : ℕ). n ≤ 255) (sym s.circuits) gr.config.circuits;
      };
      on = λ level. course-good (hearing given r event level) (level_of r level) (level_of (step given r event).router level) ((step-course given r event).on level) (gg, ge, gr.config) (gr.on level);
    }

pub step-telling : (given : Given) (r : Router) (event : Event) → IsTelling r → IsTelling (step given r event).router
step-telling given r event telling =
    let s = step-stays given r event in
    record {
      areas = subst (λ (areas : List (List ℕ)). length (area_value areas) ≤ 255) (sym s.areas) telling.areas;
      circuits = subst (λ (n : ℕ). n ≤ 126) (sym s.circuits) telling.circuits;
    }
