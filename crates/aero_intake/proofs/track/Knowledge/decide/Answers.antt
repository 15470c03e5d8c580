use Rattle.std.proofs.Common.{sym, ◌∙◌, inr}
use Rattle.aero_intake.proofs.Begins.{faulty_final}
use Rattle.aero_intake.proofs.track.Knowledge.decide.Goals as goal

pub returns-then-have_fault-clause-decisive : goal.returns-then-have_fault-clause-decisive
returns-then-have_fault-clause-decisive c = λ is_true.
    faulty_final c.args.self.now.terms c.args.self.now.parts (sym c.have_fault.ensures ∙ is_true)
