use Rattle.std.proofs.Common.{◌≡◌, ◌∙◌, List, ℕ, false, inl, inr}
use Rattle.std.specs.Str.{IsUtf8, is_utf8}
use Rattle.std.proofs.lemmas.Bool.{cases_Bool}
use Rattle.std.proofs.lemmas.Str.{IsUtf8-from_is_utf8, is_utf8-from_IsUtf8}
use Rattle.aero_program.proofs.arguments.text_of.Goals as goal

isnt_utf8 : (word : List ℕ) → (IsUtf8 word → ⊥) → is_utf8 word ≡ false
isnt_utf8 word other = elim (cases_Bool (is_utf8 word)) [
  | inl is ↦ absurd (other (IsUtf8-from_is_utf8 word is))
  | inr isnt ↦ isnt
]

pub returns-in_ok-from_str-in-Ok : goal.returns-in_ok-from_str-in-Ok
returns-in_ok-from_str-in-Ok c = (c.in_ok-from_str-in-Ok.ensures.ok ∙ c.in-Ok.ensures.cases.0, is_utf8-from_IsUtf8 c.args.word.now c.in-Ok.ensures.cases.1)

pub returns-in_ok-from_slice-in-Err : goal.returns-in_ok-from_slice-in-Err
returns-in_ok-from_slice-in-Err c = (c.in_ok-from_slice-in-Err.ensures.items, isnt_utf8 c.args.word.now c.in-Err.ensures.cases.0)
