-- The listed labels that are told, by the flags that a run has set.
use Rattle.std.specs.Prelude.{ℕ, Bool, false, not, if◌then◌else◌, List, [], bytes_eq, Option, Some, None}
use Rattle.std.specs.List.{filter, position}
use Rattle.aero_model.specs.Terms.{Terms}
use Rattle.aero_intake.specs.Begun.{noted_at}
use Rattle.aero_intake.specs.declared.begun.Begun.{Begun}

abbrev pub flag_at : List Bool → Option ℕ → Bool
flag_at flags None = false
flag_at flags (Some place) = noted_at flags place

-- whether the flag at the label's place is set: at the first one, in a list that repeats the label
abbrev pub is_flagged : (labels : List (List ℕ)) → (flags : List Bool) → List ℕ → Bool
is_flagged labels flags label = flag_at flags (position (bytes_eq label) labels)

-- the labels whose flags aren't set, if there are flags
abbrev pub without_flag : List (List ℕ) → Option Begun → List (List ℕ)
without_flag labels None = []
without_flag labels (Some begun) = filter (λ label. not (is_flagged labels begun.flags.items label)) labels

-- the same of the labels that the terms list; none where sources are read no further than they must be
abbrev pub unflagged : Terms → Option Begun → List (List ℕ)
unflagged terms begun = if terms.stop then [] else without_flag terms.rules.labels.labels begun
