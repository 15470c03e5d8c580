use Rattle.aero_worker.proofs.Rising.{rising_part}
use Rattle.aero_worker.proofs.laws.parts_of_rising_numbers_rise.Goals as goal

pub returns : goal.returns
returns c = λ xs posted part rises. rising_part xs posted part rises
