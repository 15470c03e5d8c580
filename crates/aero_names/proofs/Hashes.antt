-- The hash of a name, word by word.
use Rattle.std.proofs.Common.{◌≡◌, ℕ, ◌<◌, ◌≤◌, ◌-◌, List, [], ◌∷◌, length, take, drop, Some, None, refl, sym, ◌∙◌, ap, arith}
use Rattle.std.specs.Prelude.{option_map, unwrap_or}
use Rattle.std.specs.Int.{w64, w128, from_le_bytes}
use Rattle.sha2.specs.Sha256.{sha256}
use Rattle.aero_names.specs.declared.key.Key.{Key}
use Rattle.aero_names.specs.Keys.{key_of}
use Rattle.aero_names.specs.Hash.{mixed, short_word, hash_from, mixed_again, hash_of_key, hash_of_long, hash_of, second_start, second_hash_of_key, second_hash_of_long, second_hash_of, print_of_key, print_of_long, print_of}

-- one word more
pub one_word : (hash : ℕ) (bytes : List ℕ) → 8 ≤ length bytes → hash_from (mixed hash (from_le_bytes w64 (take 8 bytes))) (drop 8 bytes) ≡ hash_from hash bytes
unfolding hash_from
one_word hash (a ∷ b ∷ c ∷ d ∷ e ∷ f ∷ g ∷ h ∷ rest) long = refl
one_word hash [] long = absurd (omega (arith, long))
one_word hash (a ∷ []) long = absurd (omega (arith, long))
one_word hash (a ∷ b ∷ []) long = absurd (omega (arith, long))
one_word hash (a ∷ b ∷ c ∷ []) long = absurd (omega (arith, long))
one_word hash (a ∷ b ∷ c ∷ d ∷ []) long = absurd (omega (arith, long))
one_word hash (a ∷ b ∷ c ∷ d ∷ e ∷ []) long = absurd (omega (arith, long))
one_word hash (a ∷ b ∷ c ∷ d ∷ e ∷ f ∷ []) long = absurd (omega (arith, long))
one_word hash (a ∷ b ∷ c ∷ d ∷ e ∷ f ∷ g ∷ []) long = absurd (omega (arith, long))

-- what is left at the end
pub last_word : (hash : ℕ) (bytes : List ℕ) → length bytes < 8 → mixed hash (short_word bytes) ≡ hash_from hash bytes
unfolding hash_from
last_word hash [] short = refl
last_word hash (a ∷ []) short = refl
last_word hash (a ∷ b ∷ []) short = refl
last_word hash (a ∷ b ∷ c ∷ []) short = refl
last_word hash (a ∷ b ∷ c ∷ d ∷ []) short = refl
last_word hash (a ∷ b ∷ c ∷ d ∷ e ∷ []) short = refl
last_word hash (a ∷ b ∷ c ∷ d ∷ e ∷ f ∷ []) short = refl
last_word hash (a ∷ b ∷ c ∷ d ∷ e ∷ f ∷ g ∷ []) short = refl
last_word hash (a ∷ b ∷ c ∷ d ∷ e ∷ f ∷ g ∷ h ∷ rest) short = absurd (omega (arith, short))

pub long_hash : (hash : ℕ) (name : List ℕ) → hash ≡ mixed_again (hash_from (length name) (drop (length name - 24) name)) → hash ≡ hash_of_long name
unfolding hash_of_long
long_hash hash name is = is

pub second_long_hash : (hash : ℕ) (name : List ℕ) → hash ≡ mixed_again (hash_from (second_start (length name)) name) → hash ≡ second_hash_of_long name
unfolding second_hash_of_long
second_long_hash hash name is = is

-- the hash of a name is that of its key, where it has one
pub hash_with_key : (name : List ℕ) (key : Key) → key_of name ≡ Some key → hash_of_key key ≡ hash_of name
unfolding hash_of
hash_with_key name key is = ap (λ k. unwrap_or (option_map hash_of_key k) (hash_of_long name)) (sym is)

pub hash_without_key : (name : List ℕ) → key_of name ≡ None → hash_of_long name ≡ hash_of name
unfolding hash_of
hash_without_key name is = ap (λ k. unwrap_or (option_map hash_of_key k) (hash_of_long name)) (sym is)

-- and so is the second
pub second_with_key : (name : List ℕ) (key : Key) → key_of name ≡ Some key → second_hash_of_key key ≡ second_hash_of name
unfolding second_hash_of
second_with_key name key is = ap (λ k. unwrap_or (option_map second_hash_of_key k) (second_hash_of_long name)) (sym is)

pub second_without_key : (name : List ℕ) → key_of name ≡ None → second_hash_of_long name ≡ second_hash_of name
unfolding second_hash_of
second_without_key name is = ap (λ k. unwrap_or (option_map second_hash_of_key k) (second_hash_of_long name)) (sym is)

-- the print of a name with its key
pub print_with_key : (name : List ℕ) (key : Key) → key_of name ≡ Some key → print_of_key key ≡ print_of name
unfolding print_of
print_with_key name key is = ap (λ k. unwrap_or (option_map print_of_key k) (print_of_long name)) (sym is)

-- and with none
pub print_without_key : (name : List ℕ) → key_of name ≡ None → print_of_long name ≡ print_of name
unfolding print_of
print_without_key name is = ap (λ k. unwrap_or (option_map print_of_key k) (print_of_long name)) (sym is)

-- that of a long name is the front of its digest
pub long_print_is : (print : ℕ) (first digest name : List ℕ) → print ≡ from_le_bytes w128 first → first ≡ take 16 digest → digest ≡ sha256 name → print ≡ print_of_long name
unfolding print_of_long
long_print_is print first digest name is first_is digest_is = is ∙ ap (from_le_bytes w128) (first_is ∙ ap (take 16) digest_is)
