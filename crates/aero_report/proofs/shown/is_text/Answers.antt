use Rattle.std.proofs.Common.{◌≡◌, List, ℕ, false, inl, inr, sym}
use Rattle.std.specs.Str.{IsUtf8, is_utf8}
use Rattle.std.proofs.lemmas.Bool.{cases_Bool}
use Rattle.std.proofs.lemmas.Str.{IsUtf8-from_is_utf8, is_utf8-from_IsUtf8}
use Rattle.aero_report.proofs.shown.is_text.Goals as goal

isnt_utf8 : (bytes : List ℕ) → (IsUtf8 bytes → ⊥) → is_utf8 bytes ≡ false
isnt_utf8 bytes other = elim (cases_Bool (is_utf8 bytes)) [
  | inl is ↦ absurd (other (IsUtf8-from_is_utf8 bytes is))
  | inr isnt ↦ isnt
]

pub returns-in-Ok : goal.returns-in-Ok
returns-in-Ok c = sym (is_utf8-from_IsUtf8 c.args.bytes.now c.in-Ok.ensures.cases.1)

pub returns-in-Err : goal.returns-in-Err
returns-in-Err c = sym (isnt_utf8 c.args.bytes.now c.in-Err.ensures.cases.0)
