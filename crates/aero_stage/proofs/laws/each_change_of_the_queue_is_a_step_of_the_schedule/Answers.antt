use Rattle.aero_stage.proofs.Steps.{changes_are_steps}
use Rattle.aero_stage.proofs.laws.each_change_of_the_queue_is_a_step_of_the_schedule.Goals as goal

pub returns : goal.returns
returns c = changes_are_steps
