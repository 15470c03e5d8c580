-- The labels that a text lists: its lines.
use Rattle.std.specs.Prelude.{◌≡◌, ◌<◌, ◌-◌, ◌==◌, ◌||◌, ℕ, Bool, true, false, List, length, slice_index, is_some}
use Rattle.std.specs.List.{list_any}
use Rattle.aero_model.specs.Exempt.{Listed}
use Rattle.aero_model.specs.Lines.{lines_of}
use Rattle.aero_model.specs.Names.{name_fault}

-- a byte 10 ends the text, or it is empty
abbrev pub is_ended : List ℕ → Bool
is_ended text = length text == 0 || slice_index text (length text - 1) == 10

abbrev pub is_no_name : List ℕ → Bool
is_no_name label = is_some (name_fault label)

-- each label is a name, and has a byte 10 behind it
pub record AreLabels (text : List ℕ) : Type 0 where
  pub ended : is_ended text ≡ true
  pub names : list_any is_no_name (lines_of text) ≡ false

-- the labels of a text, of blocks that are no transactions, or of the only blocks that are
pub record IsListOf (listed : Listed) (is_only : Bool) (text : List ℕ) : Type 0 where
  pub right : AreLabels text
  pub labels : listed.labels ≡ lines_of text
  pub which : listed.only ≡ is_only

-- there are more than may be
pub record AreTooMany (text : List ℕ) : Type 0 where
  pub right : AreLabels text
  pub many : 64 < length (lines_of text)
