-- What a name of up to 16 bytes is found by.
use Rattle.std.specs.Prelude.{◌≡◌, ◌-◌, ◌<◌, ◌^◌, ℕ, List, length, take, drop, map, slice_index, Option, Some, None, unwrap_or, nat_lt, nat_le, if◌then◌else◌}
use Rattle.std.specs.Int.{Width, w16, w32, w64, from_le_bytes, byte_len}
use Rattle.std.specs.List.{All}
use Rattle.aero_names.specs.declared.key.Key.{Key}

-- as many of its first bytes, and of its last ones, as the width has, each as one number
abbrev pub words_of : Width → List ℕ → ℕ × ℕ
words_of w name = (from_le_bytes w (take (byte_len w) name), from_le_bytes w (drop (length name - byte_len w) name))

-- its first and its last bytes, as many as are read at once
abbrev pub ends_of : List ℕ → ℕ × ℕ
ends_of name =
    if nat_le 8 (length name) then words_of w64 name
    else (if nat_le 4 (length name) then words_of w32 name
    else (if nat_le 2 (length name) then words_of w16 name
    else (slice_index name 0, 0)))

unfoldable pub key_of : List ℕ → Option Key
key_of name =
    if nat_lt 16 (length name) then None
    else Some (record { first = (ends_of name).0; last = (ends_of name).1; length = length name })

-- kept for a longer name: the key of none
abbrev pub no_key : Key
no_key = record { first = 0; last = 0; length = 2 ^ 64 - 1 }

abbrev pub kept_key : List ℕ → Key
kept_key name = unwrap_or (key_of name) no_key

-- its items are bytes
abbrev pub AreBytes : List ℕ → Type 0
AreBytes name = (i : ℕ) → slice_index name i < 256

-- these are the keys of the names, in their order
pub record AreKeys (names : List (List ℕ)) (keys : List Key) : Type 0 where
  pub are : keys ≡ map kept_key names
  pub bytes : All AreBytes names
