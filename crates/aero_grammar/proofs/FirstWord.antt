-- The word that a field begins with.
use Rattle.std.proofs.Common.{◌≡◌, ◌≤◌, ◌<◌, ◌+◌, ◌-◌, ◌==◌, ◌/◌, ◌%◌, ℕ, zero, suc, true, false, cond, not, List, [], ◌∷◌, length, take, drop, get_or, bit_and, Some, None, refl, sym, ap, subst, ◌∙◌, arith}
use Rattle.std.specs.Int.{w64, to_le_bytes, from_le_bytes}
use Rattle.std.specs.List.{position_or_len, list_any}
use Rattle.std.proofs.lemmas.Bool.{or_parts}
use Rattle.std.proofs.lemmas.List.{take-take, take_all, take_rest, length-take-le, length-drop}
use Rattle.std.proofs.lemmas.Nat.{and_mask, le_bytes_8}
use Rattle.aero_model.specs.declared.event.Op.{Op}
use Rattle.aero_model.specs.declared.event.Op.TheVariants.{Read, Write, Acquire, Release, Fork, Join, Begin, End}
use Rattle.aero_model.specs.Named.{stands_alone}
use Rattle.aero_grammar.specs.Meaning.{is_blank, is_parenthesis, operation_of}
use Rattle.aero_grammar.specs.declared.short.Sign.{Sign}
use Rattle.aero_grammar.specs.Short.{IsShort, IsSign, word_of, number_in, mask_in}

-- the first bytes of a number whose lowest bits are known
one_byte : (w a : ℕ) → w % 256 ≡ a → take 1 (to_le_bytes w64 w) ≡ a ∷ []
one_byte w a is = λ i. is i ∷ []

three_bytes : (w a b c : ℕ) → w % 256 ≡ a → w / 256 % 256 ≡ b → w / 65536 % 256 ≡ c → take 3 (to_le_bytes w64 w) ≡ a ∷ b ∷ c ∷ []
three_bytes w a b c ha hb hc = λ i. ha i ∷ hb i ∷ hc i ∷ []

four_bytes : (w a b c d : ℕ) → w % 256 ≡ a → w / 256 % 256 ≡ b → w / 65536 % 256 ≡ c → w / 16777216 % 256 ≡ d → take 4 (to_le_bytes w64 w) ≡ a ∷ b ∷ c ∷ d ∷ []
four_bytes w a b c d ha hb hc hd = λ i. ha i ∷ hb i ∷ hc i ∷ hd i ∷ []

five_bytes : (w a b c d e : ℕ) → w % 256 ≡ a → w / 256 % 256 ≡ b → w / 65536 % 256 ≡ c → w / 16777216 % 256 ≡ d → w / 4294967296 % 256 ≡ e → take 5 (to_le_bytes w64 w) ≡ a ∷ b ∷ c ∷ d ∷ e ∷ []
five_bytes w a b c d e ha hb hc hd he = λ i. ha i ∷ hb i ∷ hc i ∷ hd i ∷ he i ∷ []

pub word_read : (op : Op) (w : ℕ) → bit_and w (mask_in op) ≡ number_in op → take (length (word_of op)) (to_le_bytes w64 w) ≡ word_of op
word_read Read w is = one_byte w 114 (sym (and_mask w 8) ∙ is)
word_read Write w is = one_byte w 119 (sym (and_mask w 8) ∙ is)
word_read Acquire w is = let low : w % 16777216 ≡ 7431009 = sym (and_mask w 24) ∙ is in three_bytes w 97 99 113 (omega (arith, low)) (omega (arith, low)) (omega (arith, low))
word_read Release w is = let low : w % 16777216 ≡ 7103858 = sym (and_mask w 24) ∙ is in three_bytes w 114 101 108 (omega (arith, low)) (omega (arith, low)) (omega (arith, low))
word_read Fork w is = let low : w % 4294967296 ≡ 1802661734 = sym (and_mask w 32) ∙ is in four_bytes w 102 111 114 107 (omega (arith, low)) (omega (arith, low)) (omega (arith, low)) (omega (arith, low))
word_read Join w is = let low : w % 4294967296 ≡ 1852403562 = sym (and_mask w 32) ∙ is in four_bytes w 106 111 105 110 (omega (arith, low)) (omega (arith, low)) (omega (arith, low)) (omega (arith, low))
word_read Begin w is = let low : w % 1099511627776 ≡ 474214786402 = sym (and_mask w 40) ∙ is in five_bytes w 98 101 103 105 110 (omega (arith, low)) (omega (arith, low)) (omega (arith, low)) (omega (arith, low)) (omega (arith, low))
word_read End w is = let low : w % 16777216 ≡ 6581861 = sym (and_mask w 24) ∙ is in three_bytes w 101 110 100 (omega (arith, low)) (omega (arith, low)) (omega (arith, low))

-- the first bytes of a part that begins where the whole does
take_swap : (n m : ℕ) (xs : List ℕ) → take n (take m xs) ≡ take m (take n xs)
take_swap zero zero xs = refl
take_swap zero (suc m) xs = refl
take_swap (suc n) zero xs = refl
take_swap (suc n) (suc m) [] = refl
take_swap (suc n) (suc m) (x ∷ xs) = ap (λ l. x ∷ l) (take_swap n m xs)

pub first_bytes : (bytes xs : List ℕ) (n : ℕ) → bytes ≡ take 8 xs → n ≤ length xs → take (length (take n xs)) bytes ≡ take 8 (take n xs)
first_bytes bytes xs n is all = ap (λ k. take k bytes) (length-take-le n xs all) ∙ ap (take n) is ∙ take_swap n 8 xs

word_is_short : (op : Op) → length (word_of op) ≤ 8
word_is_short Read = omega arith
word_is_short Write = omega arith
word_is_short Acquire = omega arith
word_is_short Release = omega arith
word_is_short Fork = omega arith
word_is_short Join = omega arith
word_is_short Begin = omega arith
word_is_short End = omega arith

pub word_in_front : (field bytes : List ℕ) (op : Op) → take (length field) bytes ≡ take 8 field → length (word_of op) ≤ length field → take (length (word_of op)) bytes ≡ word_of op → take (length (word_of op)) field ≡ word_of op
word_in_front field bytes op first within is =
    let k = length (word_of op) in
    sym (take-take k 8 field (word_is_short op)) ∙ ap (take k) (sym first) ∙ take-take k (length field) bytes within ∙ is

-- a begin or an end alone
bare : (op : Op) → stands_alone op ≡ true → IsShort (word_of op) op None
bare Read is = cc
bare Write is = cc
bare Acquire is = cc
bare Release is = cc
bare Fork is = cc
bare Join is = cc
bare Begin is = record { bare = refl; word = refl; closed = refl; present = refl; short = refl; told = refl }
bare End is = record { bare = refl; word = refl; closed = refl; present = refl; short = refl; told = refl }

pub alone_is_short : (field : List ℕ) (op : Op) → take (length (word_of op)) field ≡ word_of op → length field ≡ length (word_of op) → stands_alone op ≡ true → IsShort field op None
alone_is_short field op front long is =
    let whole : take (length (word_of op)) field ≡ field = take_all (length (word_of op)) field (omega (arith, long)) in
    subst (λ f. IsShort f op None) (sym front ∙ whole) (bare op is)

pub named : (op : Op) → operation_of (word_of op) ≡ Some op
named Read = refl
named Write = refl
named Acquire = refl
named Release = refl
named Fork = refl
named Join = refl
named Begin = refl
named End = refl

-- a word has no blank in front, nor a `(` in it
begun : (op : Op) (x : ℕ) (xs : List ℕ) → take (length (word_of op)) (x ∷ xs) ≡ word_of op → is_blank x ≡ false
begun Read x xs same = ap (λ l. is_blank (get_or l 0 0)) same
begun Write x xs same = ap (λ l. is_blank (get_or l 0 0)) same
begun Acquire x xs same = ap (λ l. is_blank (get_or l 0 0)) same
begun Release x xs same = ap (λ l. is_blank (get_or l 0 0)) same
begun Fork x xs same = ap (λ l. is_blank (get_or l 0 0)) same
begun Join x xs same = ap (λ l. is_blank (get_or l 0 0)) same
begun Begin x xs same = ap (λ l. is_blank (get_or l 0 0)) same
begun End x xs same = ap (λ l. is_blank (get_or l 0 0)) same

pub bare_in_front : (op : Op) (xs : List ℕ) → take (length (word_of op)) xs ≡ word_of op → is_blank (get_or xs 0 0) ≡ false
bare_in_front op [] same = refl
bare_in_front op (x ∷ xs) same = begun op x xs same

unopened : (op : Op) → list_any is_parenthesis (word_of op) ≡ false
unopened Read = refl
unopened Write = refl
unopened Acquire = refl
unopened Release = refl
unopened Fork = refl
unopened Join = refl
unopened Begin = refl
unopened End = refl

opened_behind : (w xs : List ℕ) → take (length w) xs ≡ w → list_any is_parenthesis w ≡ false → length w < length xs → get_or xs (length w) 0 ≡ 40 → position_or_len is_parenthesis xs ≡ length w
opened_behind w [] same none below shut = absurd (omega (arith, below))
opened_behind [] (x ∷ xs) same none below shut = ap (λ b. cond (not (b == 40)) (1 + position_or_len is_parenthesis xs) 0) shut
opened_behind (y ∷ w) (x ∷ xs) same none below shut =
    let parts = or_parts (y == 40) (list_any is_parenthesis w) none in
    let other : (x == 40) ≡ false = ap (λ l. get_or l 0 0 == 40) same ∙ parts.0 in
    let rest = opened_behind w xs (ap (drop 1) same) parts.1 (omega (arith, below)) shut in
    ap (λ b. cond (not b) (1 + position_or_len is_parenthesis xs) 0) other ∙ omega (arith, rest)

pub opened_at : (op : Op) (xs : List ℕ) → take (length (word_of op)) xs ≡ word_of op → length (word_of op) < length xs → get_or xs (length (word_of op)) 0 ≡ 40 → position_or_len is_parenthesis xs ≡ length (word_of op)
opened_at op xs same below shut = opened_behind (word_of op) xs same (unopened op) below shut

-- bytes of a part
small_take : (n : ℕ) (xs : List ℕ) → ((i : ℕ) → get_or xs i 0 < 256) → (i : ℕ) → get_or (take n xs) i 0 < 256
small_take zero xs all i = omega arith
small_take (suc n) [] all i = omega arith
small_take (suc n) (x ∷ xs) all zero = all zero
small_take (suc n) (x ∷ xs) all (suc i) = small_take n xs (λ j. all (suc j)) i

small_drop : (n : ℕ) (xs : List ℕ) → ((i : ℕ) → get_or xs i 0 < 256) → (i : ℕ) → get_or (drop n xs) i 0 < 256
small_drop zero xs all i = all i
small_drop (suc n) [] all i = omega arith
small_drop (suc n) (x ∷ xs) all i = small_drop n xs (λ j. all (suc j)) i

-- a number of the first eight bytes from a place on
pub number_there : (text bytes : List ℕ) (at n : ℕ) → ((i : ℕ) → get_or text i 0 < 256) → at + 32 ≤ length text → bytes ≡ take 8 (take (length text - at) (drop at text)) → n ≡ from_le_bytes w64 bytes → to_le_bytes w64 n ≡ take 8 (drop at text)
number_there text bytes at n all room is told =
    let there : bytes ≡ take 8 (drop at text) = is ∙ ap (take 8) (take_rest text at) in
    let long : length (take 8 (drop at text)) ≡ 8 = length-take-le 8 (drop at text) (omega (arith, room, length-drop at text)) in
    le_bytes_8 (take 8 (drop at text)) n long (small_take 8 (drop at text) (small_drop at text all)) (told ∙ ap (from_le_bytes w64) there)

-- a list of signs, and each of its items
pub data AreSigns : List Sign → Type 0 where
  Nothing : AreSigns []
  Another : {s : Sign} {more : List Sign} → IsSign s → AreSigns more → AreSigns (s ∷ more)

pub sign_at : (signs : List Sign) → AreSigns signs → (place : ℕ) (default : Sign) → place < length signs → IsSign (get_or signs place default)
sign_at [] all place default below = absurd (omega (arith, below))
sign_at (s ∷ more) (Another good rest) zero default below = good
sign_at (s ∷ more) (Another good rest) (suc place) default below = sign_at more rest place default (omega (arith, below))

pub sign_for : (op : Op) → IsSign (record { op = op; width = length (word_of op); mask = mask_in op; number = number_in op })
sign_for op = record { width = refl; mask = refl; number = refl }
