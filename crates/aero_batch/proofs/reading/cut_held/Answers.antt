use Rattle.std.proofs.lemmas.Result.{on_ok_weaker}
use Rattle.aero_batch.proofs.Stepping.{cuts_held}
use Rattle.aero_batch.proofs.reading.cut_held.Goals as goal

pub returns : goal.returns
returns g c =
    on_ok_weaker c.ask_chunk.result
    (λ asks. cuts_held c.args.underway.now c.ask_chunk.new.underway c.cut.new.self c.in_ok-block.block c.requires.some c.requires.going_on
    c.in_ok-block.ensures.after c.in_ok-block.ensures.block asks)
    c.ask_chunk.ensures
