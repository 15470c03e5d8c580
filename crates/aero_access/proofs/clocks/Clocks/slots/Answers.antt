use Rattle.std.proofs.Common.{arith}
use Rattle.aero_access.proofs.SlotNumbers.{numbered, slot_thread, slot_behind}
use Rattle.aero_access.proofs.clocks.Clocks.slots.Goals as goal

pub returns-clause-first : goal.returns-clause-first
returns-clause-first c = λ n within. slot_thread c.args.self.now.threads.items c.args.self.now.table n within

pub returns-clause-behind : goal.returns-clause-behind
returns-clause-behind c = λ n t le within. slot_behind c.args.self.now.threads.items c.args.self.now.table n t le (omega (arith, within, c.len.ensures, c.len-2.ensures))

pub returns-clause-all : goal.returns-clause-all
returns-clause-all c = λ s u some.
    let r = numbered c.args.self.now.threads.items c.args.self.now.table s u some in
    (r.0, omega (arith, r.1, c.len.ensures, c.len-2.ensures), r.2)
