use Rattle.aero_stage.proofs.Steps.{opens_as_start}
use Rattle.aero_stage.proofs.laws.a_new_queue_is_the_start_of_a_schedule.Goals as goal

pub returns : goal.returns
returns c = opens_as_start
