use Rattle.aero_gather.proofs.CallSteps.{call_is_step}
use Rattle.aero_gather.proofs.laws.each_call_is_a_step_of_the_schedule.Goals as goal

pub returns : goal.returns
returns c = λ room old new call w does seen. call_is_step room old new call w does seen
