-- What no entry at the first places has.
use Rattle.std.proofs.Common.{◌≡◌, ℕ, ◌<◌, List, Some, slice_get}
use Rattle.aero_pieces.specs.declared.question.Question.{Question}
use Rattle.aero_pieces.specs.Schedule.{Entry}

-- no entry at the first n places has the question
abbrev pub NoneHas : Question → List Entry → ℕ → Type 0
NoneHas q entries n = (i : ℕ) (e : Entry) → i < n → slice_get entries i ≡ Some e → ¬ (e.question ≡ q)
