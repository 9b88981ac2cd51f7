-- `haspeljo::sessions::haspeljo_step` meets its contract: number and array are those of the step.
use Rattle.haspeljo.proofs.sessions.haspeljo_step.Goals as goal

pub returns : goal.returns
returns c =
    let e = rw c.network_of.ensures at c.step-step.ensures in
    rw (← e) c.step_result.ensures
