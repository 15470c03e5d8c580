use Rattle.std.proofs.Common.{◌≡◌, List, ℕ, Some, ap, false, inl, inr, refl}
use Rattle.std.specs.Str.{IsUtf8, is_utf8}
use Rattle.std.proofs.lemmas.Bool.{cases_Bool}
use Rattle.std.proofs.lemmas.Str.{IsUtf8-from_is_utf8, is_utf8-from_IsUtf8}
use Rattle.aero_program.proofs.sources.path_of.Goals as goal

isnt_utf8 : (name : List ℕ) → (IsUtf8 name → ⊥) → is_utf8 name ≡ false
isnt_utf8 name other = elim (cases_Bool (is_utf8 name)) [
  | inl is ↦ absurd (other (IsUtf8-from_is_utf8 name is))
  | inr isnt ↦ isnt
]

pub returns-in-Ok : goal.returns-in-Ok
returns-in-Ok c = rw (is_utf8-from_IsUtf8 c.args.name.now c.in-Ok.ensures.cases.1) (ap Some c.in-Ok.ensures.cases.0)

pub returns-in-Err : goal.returns-in-Err
returns-in-Err c = rw (isnt_utf8 c.args.name.now c.in-Err.ensures.cases.0) refl
