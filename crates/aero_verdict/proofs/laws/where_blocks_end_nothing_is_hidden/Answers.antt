use Rattle.aero_verdict.proofs.NoneOpen.{hides_nothing}
use Rattle.aero_verdict.proofs.laws.where_blocks_end_nothing_is_hidden.Goals as goal

pub returns : goal.returns
returns c = λ parts rules verdict ends v. hides_nothing parts rules verdict ends v
