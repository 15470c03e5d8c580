use Rattle.std.proofs.Common.{ap, inl, inr, refl, Some}
use Rattle.aero_program.proofs.execute.judge.Goals as goal

pub returns-in-Err : goal.returns-in-Err
returns-in-Err g c = elim c.tell_label_fault-status.ensures [
  | inl tells ↦ inr (refl, inl (inr (record { path = c.in-Err.fault.path.now; why = c.in-Err.fault.why; are = c.in-Err.ensures.fault; untouched = ap Some c.untouched.ensures; tells = tells })))
  | inr fails ↦ inr (refl, inr fails)
]
