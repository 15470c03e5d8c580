-- Numbers made of the bytes of a name. Nothing is meant by them: a name is looked for among those with the same number.
use Rattle.std.specs.Prelude.{ℕ, ◌+◌, ◌*◌, ◌/◌, ◌%◌, ◌^◌, ◌-◌, List, [], ◌∷◌, length, fold, option_map, unwrap_or, take, drop}
use Rattle.std.specs.Int.{w64, w128, from_le_bytes, rotate_left}
use Rattle.std.specs.Int.Bits.{bit_xor}
use Rattle.sha2.specs.Sha256.{sha256}
use Rattle.aero_names.specs.declared.hash.Hashing.{Hashing}
use Rattle.aero_names.specs.declared.hash.Hashing.TheVariants.{First, Second}
use Rattle.aero_names.specs.declared.key.Key.{Key}
use Rattle.aero_names.specs.Keys.{key_of}

-- what is left of the word, and of what was mixed before it
unfoldable pub mixed : ℕ → ℕ → ℕ
mixed hash word = (bit_xor (rotate_left w64 hash 5) word * 17378887893183147461) % 2 ^ 64

-- bytes as one number
abbrev pub short_word : List ℕ → ℕ
short_word bytes = fold (λ word byte. ((word * 256) % 2 ^ 64 + byte) % 2 ^ 64) 0 bytes

-- the words of eight bytes, and then the bytes that are left
unfoldable pub hash_from : ℕ → List ℕ → ℕ
hash_from hash (a ∷ b ∷ c ∷ d ∷ e ∷ f ∷ g ∷ h ∷ rest) = hash_from (mixed hash (from_le_bytes w64 (a ∷ b ∷ c ∷ d ∷ e ∷ f ∷ g ∷ h ∷ []))) rest
hash_from hash rest = mixed hash (short_word rest)

-- mixed once more with its upper half
abbrev pub mixed_again : ℕ → ℕ
mixed_again last = mixed last (last / 2 ^ 32)

unfoldable pub hash_of_key : Key → ℕ
hash_of_key key = mixed_again (mixed (mixed key.length key.first) key.last)

-- of the last bytes alone, which most names differ in
unfoldable pub hash_of_long : List ℕ → ℕ
hash_of_long name = mixed_again (hash_from (length name) (drop (length name - 24) name))

-- that of its key, where it has one
unfoldable pub hash_of : List ℕ → ℕ
hash_of name = unwrap_or (option_map hash_of_key (key_of name)) (hash_of_long name)

-- what another one starts from, beside the name's length
abbrev pub second_start : ℕ → ℕ
second_start long = bit_xor long 11400714819323198485

unfoldable pub second_hash_of_key : Key → ℕ
second_hash_of_key key = mixed_again (mixed (mixed (second_start key.length) key.first) key.last)

unfoldable pub second_hash_of_long : List ℕ → ℕ
second_hash_of_long name = mixed_again (hash_from (second_start (length name)) name)

-- that of its key, where it has one
unfoldable pub second_hash_of : List ℕ → ℕ
second_hash_of name = unwrap_or (option_map second_hash_of_key (key_of name)) (second_hash_of_long name)

-- the one that names are found by
abbrev pub hash_by : Hashing → List ℕ → ℕ
hash_by First name = hash_of name
hash_by Second name = second_hash_of name

-- the last bytes of the name and its first as one number
unfoldable pub print_of_key : Key → ℕ
print_of_key key = key.last * 2 ^ 64 + key.first

-- the first sixteen bytes of its SHA-256, as a number
unfoldable pub print_of_long : List ℕ → ℕ
print_of_long name = from_le_bytes w128 (take 16 (sha256 name))

-- that of its key, where it has one
unfoldable pub print_of : List ℕ → ℕ
print_of name = unwrap_or (option_map print_of_key (key_of name)) (print_of_long name)
