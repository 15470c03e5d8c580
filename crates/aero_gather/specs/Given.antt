-- What is given of a question that was settled.
use Rattle.std.specs.Prelude.{Option, option_map}
use Rattle.aero_pieces.specs.declared.answer.Value.{Value}
use Rattle.aero_gather.specs.declared.gather.Settled.{Settled}

-- the value of what was settled, if anything was
abbrev pub value_of : Option Settled → Option Value
value_of given = option_map (λ settled. settled.value) given
