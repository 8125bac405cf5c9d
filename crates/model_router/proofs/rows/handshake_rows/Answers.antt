-- By computation.
use Rattle.std.proofs.Common.{refl}
use Rattle.model_router.proofs.rows.handshake_rows.Goals as goal

pub returns-clause-down_down : goal.returns-clause-down_down
returns-clause-down_down c = refl

pub returns-clause-down_initializing : goal.returns-clause-down_initializing
returns-clause-down_initializing c = refl

pub returns-clause-down_up : goal.returns-clause-down_up
returns-clause-down_up c = refl

pub returns-clause-initializing_down : goal.returns-clause-initializing_down
returns-clause-initializing_down c = refl

pub returns-clause-initializing_initializing : goal.returns-clause-initializing_initializing
returns-clause-initializing_initializing c = refl

pub returns-clause-initializing_up : goal.returns-clause-initializing_up
returns-clause-initializing_up c = refl

pub returns-clause-up_down : goal.returns-clause-up_down
returns-clause-up_down c = refl

pub returns-clause-up_initializing : goal.returns-clause-up_initializing
returns-clause-up_initializing c = refl

pub returns-clause-up_up : goal.returns-clause-up_up
returns-clause-up_up c = refl

pub returns-clause-same : goal.returns-clause-same
returns-clause-same c = refl

pub returns-clause-other_levels : goal.returns-clause-other_levels
returns-clause-other_levels c = refl

pub returns-clause-other_system : goal.returns-clause-other_system
returns-clause-other_system c = refl

pub returns-clause-other_circuit : goal.returns-clause-other_circuit
returns-clause-other_circuit c = refl

pub returns-clause-other_boot : goal.returns-clause-other_boot
returns-clause-other_boot c = refl
