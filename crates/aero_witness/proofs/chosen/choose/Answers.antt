use Rattle.aero_witness.proofs.Choosing.{chosen}
use Rattle.aero_witness.proofs.chosen.choose.Goals as goal

pub returns : goal.returns
returns c = chosen c.args.reached.now c.args.arrivals.now.items c.drop_reached.new.arrivals.items c.put_in_order.new.arrivals.items c.drop_reached.ensures c.put_in_order.ensures
