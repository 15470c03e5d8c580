use Rattle.std.proofs.Common.{arith}
use Rattle.aero_access.proofs.KeptLists.{flat-set}
use Rattle.aero_access.proofs.places.put.Goals as goal

pub returns-clause-ok : goal.returns-clause-ok
returns-clause-ok c = rw c.replace.ensures.after (flat-set c.make_room.new.kept.items c.args.kept.now.items c.args.number c.args.entry (omega (arith, c.in_ok-make_room.ensures.room)) c.in_ok-make_room.ensures.same)
