-- How a label of the command line is told.
use Rattle.std.specs.Prelude.{◌≡◌, ◌<◌, ◌≤◌, ℕ, Bool, List, length, Result, Ok, Err, None, is_some, true, false}
use Rattle.std.specs.List.{list_any}
use Rattle.aero_model.specs.Names.{name_fault, most_inline_bytes}
use Rattle.aero_program.specs.declared.command.Refused.{Refused}
use Rattle.aero_program.specs.declared.command.Refused.TheVariants.{BadLabel, TooManyLabels, Memory}

-- A label is a name. Memory is refused to one that is too long to be kept without an allocation.
abbrev pub IsTold : Result (List ℕ) Refused → List ℕ → Type 0
IsTold (Ok label) text = (label ≡ text) × (name_fault text ≡ None)
IsTold (Err BadLabel) text = is_some (name_fault text) ≡ true
IsTold (Err Memory) text = (name_fault text ≡ None) × (most_inline_bytes < length text)
IsTold (Err why) text = ⊥

-- whether the text is no label
abbrev pub is_no_label : List ℕ → Bool
is_no_label text = is_some (name_fault text)

-- Why these texts aren't taken as labels: one is none, or else they are too many, or else memory is refused.
abbrev pub AreRefused : List (List ℕ) → Refused → Type 0
AreRefused texts BadLabel = list_any is_no_label texts ≡ true
AreRefused texts TooManyLabels = (list_any is_no_label texts ≡ false) × (64 < length texts)
AreRefused texts Memory = (list_any is_no_label texts ≡ false) × (length texts ≤ 64)
AreRefused texts why = ⊥
