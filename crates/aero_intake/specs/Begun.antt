-- Which of the listed labels begin a block of a source.
use Rattle.std.specs.Prelude.{◌≡◌, ◌⊎◌, ℕ, Bool, true, false, not, is_some, List, bytes_eq, Option, Some, None}
use Rattle.std.specs.List.{list_all, list_any, position, slice_index_or}
use Rattle.aero_model.specs.declared.verdict.Ending.{Ending}
use Rattle.aero_model.specs.declared.verdict.Ending.TheVariants.{Whole}
use Rattle.aero_model.specs.Exempt.{label_of}
use Rattle.aero_model.specs.Terms.{Rules, Terms}
use Rattle.aero_grammar.specs.Reading.{Reading, reading_of, malformed_line}
use Rattle.aero_intake.specs.declared.begun.Begun.{Begun}

abbrev pub is_label : List ℕ → Option (List ℕ) → Bool
is_label label None = false
is_label label (Some other) = bytes_eq label other

-- whether a block of what was read begins with the label
abbrev pub begins : List ℕ → Reading → Bool
begins label r = list_any (λ e. is_label label (label_of e.1.op e.1.target)) r.events

-- the same of what several chunks say
abbrev pub begins_in : List Reading → List ℕ → Bool
begins_in parts label = list_any (begins label) parts

-- what is noted at this place: past the last flag, `false`
abbrev pub noted_at : List Bool → ℕ → Bool
noted_at flags place = slice_index_or flags place false

-- Of each listed label it is noted at its place, the first one in a list that repeats it, whether this holds of it.
abbrev pub AreNoted : (labels : List (List ℕ)) → (holds : List ℕ → Bool) → List Bool → Type 0
AreNoted labels holds flags = (place : ℕ) (label : List ℕ) → position (bytes_eq label) labels ≡ Some place → noted_at flags place ≡ holds label

-- whether the source was read to its end, and no line of it is malformed, or one too many
abbrev pub is_read_through : Rules → List ℕ → Ending → Bool
is_read_through rules bytes Whole = not (is_some (malformed_line rules.limits.lines (reading_of bytes)))
is_read_through rules bytes ending = false

-- whether a block of the text begins with each listed label
abbrev pub all_begin : Rules → List ℕ → Bool
all_begin rules bytes = list_all (λ label. begins label (reading_of bytes)) rules.labels.labels

-- What is told of the listed labels once a source has ended: of each whether a block begins with it. Nothing is told unless the source was read through,
-- nor where sources are read no further than they must be. Where a block begins with each label it is no matter.
abbrev pub AreBegun : Terms → List ℕ → Ending → Option Begun → Type 0
AreBegun terms bytes ending None = (terms.stop ≡ true) ⊎ ((is_read_through terms.rules bytes ending ≡ false) ⊎ (all_begin terms.rules bytes ≡ true))
AreBegun terms bytes ending (Some begun) =
    ((is_read_through terms.rules bytes ending ≡ true) ⊎ (all_begin terms.rules bytes ≡ true))
    × AreNoted terms.rules.labels.labels (λ label. begins label (reading_of bytes)) begun.flags.items
