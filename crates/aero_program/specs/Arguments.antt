-- The words of a command line, as bytes and as texts.
use Rattle.std.specs.Prelude.{◌≡◌, ℕ, false, true, List, ◌∷◌, ◌++◌, Result, Ok, Err, ⊤}
use Rattle.std.specs.List.{list_all}
use Rattle.std.specs.Str.{is_utf8}
use Rattle.aero_program.specs.declared.arguments.Unread.{Unread}
use Rattle.aero_program.specs.declared.arguments.Unread.TheVariants.{NotUtf8, Memory}

-- the word is the first of these that isn't UTF-8
pub record IsFirstOdd (words : List (List ℕ)) (word : List ℕ) : Type 0 where
  pub front : List (List ℕ)
  pub back : List (List ℕ)
  pub is : words ≡ front ++ word ∷ back
  pub sound : list_all is_utf8 front ≡ true
  pub odd : is_utf8 word ≡ false

-- why these words can't be had as texts: this is the first that isn't UTF-8, or memory was refused
abbrev pub IsUnread : List (List ℕ) → Unread → Type 0
IsUnread words (NotUtf8 word) = IsFirstOdd words word.items
IsUnread words Memory = ⊤

-- the same where nothing is known of the words
abbrev pub IsOdd : Unread → Type 0
IsOdd (NotUtf8 word) = is_utf8 word.items ≡ false
IsOdd Memory = ⊤

-- the text that a word is, which has these bytes, or else the word itself, which isn't UTF-8, unless memory was refused
abbrev pub IsWordOf : {T : Type 0} → (T → List ℕ) → List ℕ → Result T Unread → Type 0
IsWordOf bytes word (Ok text) = (bytes text ≡ word) × (is_utf8 word ≡ true)
IsWordOf bytes word (Err (NotUtf8 same)) = (same.items ≡ word) × (is_utf8 word ≡ false)
IsWordOf bytes word (Err Memory) = ⊤
