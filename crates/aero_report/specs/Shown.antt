-- Bytes as a terminal is shown them, character by character: one stands as it is, unless it is a control character. Each byte of a control character, and each that belongs to no character, is shown as \xNN.
use Rattle.std.specs.Prelude.{ℕ, zero, suc, ◌+◌, ◌/◌, ◌%◌, ◌==◌, ◌&&◌, ◌||◌, nat_lt, not, if◌then◌else◌, Bool, true, false, List, [], ◌∷◌, ◌++◌, take, drop, length, flat_map, codes}
use Rattle.std.specs.Str.{is_utf8}

-- 0 to 9, then a to f
abbrev pub hex_digit : ℕ → ℕ
hex_digit n = if nat_lt n 10 then 48 + n else 87 + n

-- a byte as itself, or as \xNN where it is a control byte or from 128 on
abbrev pub shown_byte : ℕ → List ℕ
shown_byte b = if nat_lt b 32 || nat_lt 126 b then codes "\\x" ++ hex_digit (b / 16) ∷ hex_digit (b % 16) ∷ [] else b ∷ []

-- how many bytes follow the first one in its character, and 0 where none begins with it
abbrev pub followers : List ℕ → ℕ
followers [] = 0
followers (b ∷ more) =
    if nat_lt b 128 then 0
    else if is_utf8 (take 2 (b ∷ more)) then 1
    else if is_utf8 (take 3 (b ∷ more)) then 2
    else if is_utf8 (take 4 (b ∷ more)) then 3 else 0

-- the characters of at most `most` bytes in order, each by its bytes; a byte that belongs to none stands alone
unfoldable pub characters_of : (most : ℕ) → List ℕ → List (List ℕ)
characters_of zero bytes = []
characters_of (suc most) [] = []
characters_of (suc most) (b ∷ more) = (b ∷ take (followers (b ∷ more)) more) ∷ characters_of most (drop (followers (b ∷ more)) more)

abbrev pub characters : List ℕ → List (List ℕ)
characters bytes = characters_of (length bytes) bytes

-- whether a character stands as it is: not one below the blank, but for a line end where line ends stay, and none from U+007F to U+009F, which are the byte 127 and the byte 194 with one from 128 to 159. Nor does a byte from 128 on that stands alone.
abbrev pub stands : (ends_stay : Bool) → List ℕ → Bool
stands ends_stay (b ∷ []) = (nat_lt 31 b && nat_lt b 127) || (ends_stay && b == 10)
stands ends_stay (a ∷ b ∷ []) = not (a == 194 && nat_lt b 160)
stands ends_stay character = true

abbrev pub shown_character : (ends_stay : Bool) → List ℕ → List ℕ
shown_character ends_stay character = if stands ends_stay character then character else flat_map shown_byte character

-- what stands on one line of a terminal
abbrev pub shown_text : List ℕ → List ℕ
shown_text bytes = flat_map (shown_character false) (characters bytes)

-- what stands on some lines of a terminal: each byte 10 stays
abbrev pub shown_lines : List ℕ → List ℕ
shown_lines bytes = flat_map (shown_character true) (characters bytes)
