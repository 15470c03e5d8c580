-- What is known of the field of an operation that is read at once.
use Rattle.std.specs.Prelude.{◌≡◌, ℕ, ◌==◌, ◌&&◌, not, false, List, length, codes, Option, Some}
use Rattle.aero_model.specs.declared.event.Op.{Op}
use Rattle.aero_model.specs.declared.event.Op.TheVariants.{Read, Write, Acquire, Release, Fork, Join, Begin, End}
use Rattle.aero_model.specs.Named.{stands_alone}
use Rattle.aero_grammar.specs.declared.short.Sign.{Sign}
use Rattle.aero_grammar.specs.Meaning.{trimmed, operation_of, operation_word, is_unclosed, target_bytes, target_of, is_long_name}

-- no blank stands round it, its word is the operation's, and nothing is wrong with its target
pub record IsShort (field : List ℕ) (op : Op) (target : Option (List ℕ)) : Type 0 where
  pub bare : trimmed field ≡ field
  pub word : operation_of (operation_word field) ≡ Some op
  pub closed : is_unclosed field ≡ false
  pub present : (not (stands_alone op) && (length (target_bytes field) == 0)) ≡ false
  pub short : (not (stands_alone op) && is_long_name (target_bytes field)) ≡ false
  pub told : target_of op field ≡ target

-- the operation's word
abbrev pub word_of : Op → List ℕ
word_of Read = codes "r"
word_of Write = codes "w"
word_of Acquire = codes "acq"
word_of Release = codes "rel"
word_of Fork = codes "fork"
word_of Join = codes "join"
word_of Begin = codes "begin"
word_of End = codes "end"

-- its bytes as one number, the first counting least
abbrev pub number_in : Op → ℕ
number_in Read = 114
number_in Write = 119
number_in Acquire = 7431009
number_in Release = 7103858
number_in Fork = 1802661734
number_in Join = 1852403562
number_in Begin = 474214786402
number_in End = 6581861

-- the greatest number of so many bytes
abbrev pub mask_in : Op → ℕ
mask_in Read = 255
mask_in Write = 255
mask_in Acquire = 16777215
mask_in Release = 16777215
mask_in Fork = 4294967295
mask_in Join = 4294967295
mask_in Begin = 1099511627775
mask_in End = 16777215

-- what is kept with an operation is its word's
pub record IsSign (s : Sign) : Type 0 where
  pub width : s.width ≡ length (word_of s.op)
  pub mask : s.mask ≡ mask_in s.op
  pub number : s.number ≡ number_in s.op
