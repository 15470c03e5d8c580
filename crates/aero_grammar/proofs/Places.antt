-- Where a byte first stands, and what the parts of a text have.
use Rattle.std.proofs.Common.{◌≡◌, ◌≤◌, ◌<◌, ◌+◌, ◌-◌, ◌||◌, ℕ, zero, suc, Bool, true, false, cond, not, List, [], ◌∷◌, length, take, drop, refl, arith}
use Rattle.std.specs.List.{position_or_len, prefix_len, suffix_len, list_any, before_first}
use Rattle.std.proofs.lemmas.Bool.{or_parts, or_from}
use Rattle.std.proofs.lemmas.List.Sums.{prefix_len-le-length, passes_at_first}
use Rattle.std.proofs.lemmas.List.Folds.{list_any_at}
use Rattle.aero_model.specs.Names.{is_bad_byte, is_barred}
use Rattle.aero_grammar.specs.Meaning.{is_bar, is_blank, trimmed}

pub position_or_len-le : (p : ℕ → Bool) (xs : List ℕ) → position_or_len p xs ≤ length xs
position_or_len-le p xs = prefix_len-le-length (λ x. not (p x)) xs

-- where the place is the length, nothing passes
missing_step : (b c : Bool) (n k : ℕ) → cond (not b) (1 + n) 0 ≡ suc k → (n ≡ k → c ≡ false) → (b || c) ≡ false
missing_step true c n k at rest = absurd (omega (arith, at))
missing_step false c n k at rest = rest (omega (arith, at))

pub list_any_missing : (p : ℕ → Bool) (xs : List ℕ) → position_or_len p xs ≡ length xs → list_any p xs ≡ false
list_any_missing p [] at = refl
list_any_missing p (x ∷ xs) at = missing_step (p x) (list_any p xs) (position_or_len p xs) (length xs) at (list_any_missing p xs)

-- where the place is below the length, something passes
pub list_any_found : (p : ℕ → Bool) (xs : List ℕ) → position_or_len p xs < length xs → list_any p xs ≡ true
list_any_found p xs below = list_any_at p xs (position_or_len p xs) 0 below (passes_at_first p xs 0 below)

-- nothing before the first that passes does
before_step : (p : ℕ → Bool) (b : Bool) (x : ℕ) (xs : List ℕ) (n : ℕ) → p x ≡ b → list_any p (take n xs) ≡ false → list_any p (take (cond (not b) (1 + n) 0) (x ∷ xs)) ≡ false
before_step p true x xs n is rest = refl
before_step p false x xs n is rest = let one : 1 + n ≡ suc n = omega arith in rw one (or_from (p x) (list_any p (take n xs)) is rest)

pub list_any-before_first : (p : ℕ → Bool) (xs : List ℕ) → list_any p (before_first p xs) ≡ false
list_any-before_first p [] = refl
list_any-before_first p (x ∷ xs) = before_step p (p x) x xs (position_or_len p xs) refl (list_any-before_first p xs)

-- what no byte of a text has, no byte of a part has
pub list_any-take : (p : ℕ → Bool) (n : ℕ) (xs : List ℕ) → list_any p xs ≡ false → list_any p (take n xs) ≡ false
list_any-take p zero xs none = refl
list_any-take p (suc n) [] none = refl
list_any-take p (suc n) (x ∷ xs) none =
    let parts = or_parts (p x) (list_any p xs) none in
    or_from (p x) (list_any p (take n xs)) parts.0 (list_any-take p n xs parts.1)

pub list_any-drop : (p : ℕ → Bool) (n : ℕ) (xs : List ℕ) → list_any p xs ≡ false → list_any p (drop n xs) ≡ false
list_any-drop p zero xs none = none
list_any-drop p (suc n) [] none = refl
list_any-drop p (suc n) (x ∷ xs) none = list_any-drop p n xs (or_parts (p x) (list_any p xs) none).1

pub list_any-trimmed : (p : ℕ → Bool) (xs : List ℕ) → list_any p xs ≡ false → list_any p (trimmed xs) ≡ false
list_any-trimmed p xs none =
    let front = drop (prefix_len is_blank xs) xs in
    list_any-take p (length front - suffix_len is_blank front) front (list_any-drop p (prefix_len is_blank xs) xs none)

-- no bad byte and no `|`
pub list_any-is_barred : (xs : List ℕ) → list_any is_bad_byte xs ≡ false → list_any is_bar xs ≡ false → list_any is_barred xs ≡ false
list_any-is_barred [] bad bar = refl
list_any-is_barred (x ∷ xs) bad bar =
    let bads = or_parts (is_bad_byte x) (list_any is_bad_byte xs) bad in
    let bars = or_parts (is_bar x) (list_any is_bar xs) bar in
    or_from (is_barred x) (list_any is_barred xs) (or_from (is_bad_byte x) (is_bar x) bads.0 bars.0) (list_any-is_barred xs bads.1 bars.1)

-- a field: what stands before a text's first `|`, trimmed
pub list_any-field : (xs : List ℕ) → list_any is_bad_byte xs ≡ false → list_any is_barred (trimmed (before_first is_bar xs)) ≡ false
list_any-field xs bad =
    list_any-trimmed is_barred (before_first is_bar xs)
    (list_any-is_barred (before_first is_bar xs) (list_any-take is_bad_byte (position_or_len is_bar xs) xs bad) (list_any-before_first is_bar xs))
