use Rattle.aero_lines.proofs.Runs.{blocks_are_the_text}
use Rattle.aero_lines.proofs.laws.the_blocks_are_the_text.Goals as goal

pub returns : goal.returns
returns c = blocks_are_the_text
