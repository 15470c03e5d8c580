-- Lines of the common shape.
use Rattle.std.proofs.Common.{◌≡◌, ◌≤◌, ◌<◌, ◌+◌, ◌-◌, ◌==◌, ◌||◌, ◌&&◌, ℕ, zero, suc, min, Bool, true, false, cond, not, List, [], ◌∷◌, length, take, drop, get_or, Option, Some, refl, sym, ap, ◌∙◌, arith}
use Rattle.std.specs.List.{position_or_len, prefix_len, suffix_len, list_any, list_all, before_first, after_first}
use Rattle.std.specs.Prelude.{slice_index}
use Rattle.std.proofs.lemmas.Bool.{and_right, ne_eqb, eqb-true, le-ltb, or_parts}
use Rattle.std.proofs.lemmas.List.{take-take, drop-take, length-take, length-drop, take_all}
use Rattle.std.proofs.lemmas.List.Sums.{prefix_len-drop_no, suffix_len-take_no}
use Rattle.aero_model.specs.declared.event.Op.{Op}
use Rattle.aero_model.specs.Exempt.{label_of}
use Rattle.aero_model.specs.Lines.{is_too_long}
use Rattle.aero_model.specs.Named.{stands_alone}
use Rattle.aero_model.specs.Names.{is_bad_byte}
use Rattle.aero_grammar.specs.Meaning.{Means, meaning, is_bar, is_blank, is_parenthesis, is_long_name, label_in, operation_of, target_bytes, target_of, trimmed}
use Rattle.aero_grammar.specs.Short.{IsShort}
use Rattle.aero_grammar.proofs.Places.{position_or_len-le}

-- the first place among fewer elements
place_step : (b : Bool) (a c n : ℕ) → a ≡ min c n → cond (not b) (1 + a) 0 ≡ min (cond (not b) (1 + c) 0) (suc n)
place_step true a c n same = omega arith
place_step false a c n same = omega (arith, same)

pub place_among : (p : ℕ → Bool) (n m : ℕ) (xs : List ℕ) → n ≤ m → m ≤ length xs → position_or_len p (take n xs) ≡ min (position_or_len p (take m xs)) n
place_among p zero m xs le all = omega arith
place_among p (suc n) zero xs le all = absurd (omega (arith, le))
place_among p (suc n) (suc m) [] le all = absurd (omega (arith, all))
place_among p (suc n) (suc m) (x ∷ xs) le all =
    place_step (p x) (position_or_len p (take n xs)) (position_or_len p (take m xs)) n (place_among p n m xs (omega (arith, le)) (omega (arith, all)))

-- the first place near the front of a line is the first of the line
pub found_near : (p : ℕ → Bool) (n m at : ℕ) (xs : List ℕ) → n ≤ m → m ≤ length xs → at ≡ position_or_len p (take n xs) → at < n → at ≡ position_or_len p (take m xs)
found_near p n m at xs le all is below = omega (arith, place_among p n m xs le all, is, below)

-- so it is where it is the end
pub ends_near : (p : ℕ → Bool) (rest limit at : ℕ) (xs : List ℕ) → rest ≤ length xs → limit ≡ min rest 32 → at ≡ position_or_len p (take limit xs) → at < 32 → at ≡ position_or_len p (take rest xs)
ends_near p rest limit at xs all near is few =
    omega (arith, place_among p limit rest xs (omega (arith, near)) all, near, is, few, position_or_len-le p (take rest xs), length-take rest xs)

-- the field between two places of a line
pub field_between : (text : List ℕ) (end bar more : ℕ) → bar < end → bar ≡ position_or_len is_bar (take end text) → more ≤ end - (bar + 1) → more ≡ position_or_len is_bar (take (end - (bar + 1)) (drop (bar + 1) text)) →
    take more (drop (bar + 1) text) ≡ before_first is_bar (after_first is_bar (take end text))
field_between text end bar more below at within is =
    let rest = end - (bar + 1) in
    let whole : bar + 1 + rest ≡ end = omega (arith, below) in
    let behind : after_first is_bar (take end text) ≡ take rest (drop (bar + 1) text) =
    ap (λ k. drop (k + 1) (take end text)) (sym at) ∙ ap (λ k. drop (bar + 1) (take k text)) (sym whole) ∙ drop-take (bar + 1) rest text in
    sym (take-take more rest (drop (bar + 1) text) within)
    ∙ ap (λ k. take k (take rest (drop (bar + 1) text))) is
    ∙ ap (before_first is_bar) (sym behind)

-- a line in which a `|` stands isn't blank
blank_step : (x : ℕ) (b any all : Bool) → x == 124 ≡ b → (b || any) ≡ true → (any ≡ true → all ≡ false) → (is_blank x && all) ≡ false
blank_step x true any all is some rest = let bar = eqb-true x 124 is in rw bar refl
blank_step x false any all is some rest = and_right (is_blank x) all (rest some)

pub barred_not_blank : (xs : List ℕ) → list_any is_bar xs ≡ true → list_all is_blank xs ≡ false
barred_not_blank [] some = cc
barred_not_blank (x ∷ xs) some = blank_step x (x == 124) (list_any is_bar xs) (list_all is_blank xs) refl some (barred_not_blank xs)

-- nor does a good line end with a byte 13
last_is_good : (line : List ℕ) (n : ℕ) → n < length line → list_any is_bad_byte line ≡ false → is_bad_byte (get_or line n 0) ≡ false
last_is_good [] n lt good = absurd (omega (arith, lt))
last_is_good (x ∷ line) zero lt good = (or_parts (is_bad_byte x) (list_any is_bad_byte line) good).0
last_is_good (x ∷ line) (suc n) lt good = last_is_good line n (omega (arith, lt)) (or_parts (is_bad_byte x) (list_any is_bad_byte line) good).1

pub no_return : (line : List ℕ) → 0 < length line → list_any is_bad_byte line ≡ false → (slice_index line (length line - 1) == 13) ≡ false
no_return line some good =
    let fine = last_is_good line (length line - 1) (omega (arith, some)) good in
    ne_eqb (slice_index line (length line - 1)) 13 (λ is. cc)

-- what a line with these fields means
pub short_meaning : (line thread field : List ℕ) (op : Op) (target : Option (List ℕ)) → length line ≤ 4096 → list_any is_bad_byte line ≡ false → list_any is_bar line ≡ true
    → thread ≡ before_first is_bar line → trimmed thread ≡ thread → 0 < length thread → length thread < 32
    → field ≡ before_first is_bar (after_first is_bar line) → IsShort field op target
    → meaning line ≡ Means (record { thread = thread; op = op; target = target })
short_meaning line thread field op target few good barred thread_is bare some short field_is is =
    let front = position_or_len is_bar line in
    let filled : 0 < length line = omega (arith, some, ap length thread_is, length-take front line) in
    let stripped : (slice_index line (length line - 1) == 13) ≡ false = no_return line filled good in
    let fits : is_too_long line ≡ false = le-ltb 4096 (length line) (omega (arith, few)) in
    let not_blank = barred_not_blank line barred in
    let thread_at : trimmed (before_first is_bar line) ≡ thread = ap trimmed (sym thread_is) ∙ bare in
    let field_at : trimmed (before_first is_bar (after_first is_bar line)) ≡ field = ap trimmed (sym field_is) ∙ is.bare in
    let named : (length thread == 0) ≡ false = ne_eqb (length thread) 0 (λ e. omega (arith, e, some)) in
    let short_name : is_long_name thread ≡ false = le-ltb 255 (length thread) (omega (arith, short)) in
    rw (stripped, fits, good, not_blank, barred, thread_at, field_at, named, is.word, is.closed, is.present, short_name, is.short, is.told) refl

-- where neither the first byte nor the last is a blank, none stands round the bytes
pub nothing_trimmed : (xs : List ℕ) → 0 < length xs → is_blank (get_or xs 0 0) ≡ false → is_blank (get_or xs (length xs - 1) 0) ≡ false → trimmed xs ≡ xs
nothing_trimmed xs some first last =
    let whole : take (length xs) xs ≡ xs = take_all (length xs) xs (omega arith) in
    let front : prefix_len is_blank xs ≡ 0 = prefix_len-drop_no is_blank xs 0 0 some first in
    let back : suffix_len is_blank xs ≡ 0 = ap (suffix_len is_blank) (sym whole) ∙ suffix_len-take_no is_blank xs (length xs) 0 some (omega arith) last in
    ap (λ k. take (length (drop k xs) - suffix_len is_blank (drop k xs)) (drop k xs)) front
    ∙ ap (λ n. take n xs) (omega (arith, back)) ∙ whole

-- a field with an operation's word, a `(` behind it, at least a byte, and a `)` at the end
module _ (field : List ℕ) (op : Op) (word : ℕ) (at : position_or_len is_parenthesis field ≡ word) (few : length field < 32) (room : word + 2 ≤ length field - 1) where
  abbrev behind : List ℕ
  behind = drop (word + 1) field

  abbrev pub target : List ℕ
  target = take (length field - 1 - (word + 1)) behind

  is : target_bytes field ≡ target
  is =
      ap (λ k. take (length (drop (k + 1) field) - 1) (drop (k + 1) field)) at
      ∙ ap (λ n. take n behind) (omega (arith, length-drop (word + 1) field))

  size : length target ≡ length field - 1 - (word + 1)
  size = omega (arith, length-drop (word + 1) field, length-take (length field - 1 - (word + 1)) behind)

  some : (length (target_bytes field) == 0) ≡ false
  some = ap (λ t. length t == 0) is ∙ ne_eqb (length target) 0 (λ e. omega (arith, e, size, room))

  short : is_long_name (target_bytes field) ≡ false
  short = ap is_long_name is ∙ le-ltb 255 (length target) (omega (arith, few, size))

  abbrev pub kept : Option (List ℕ)
  kept = cond (stands_alone op) (label_of op (Some target)) (Some target)

  told : target_of op field ≡ kept
  told =
      let label : label_in (target_bytes field) ≡ Some (target_bytes field) = rw (some, short) refl in
      ap (λ l. cond (stands_alone op) (label_of op l) (Some (target_bytes field))) label ∙ ap (λ t. cond (stands_alone op) (label_of op (Some t)) (Some t)) is

  pub targeted_is_short : operation_of (take word field) ≡ Some op → is_blank (get_or field 0 0) ≡ false → get_or field (length field - 1) 0 ≡ 41 → IsShort field op kept
  targeted_is_short named first last = record {
    bare = nothing_trimmed field (omega (arith, room)) first (ap is_blank last);
    word = ap (λ k. operation_of (take k field)) at ∙ named;
    closed = and_right (list_any is_parenthesis field) (not (get_or field (length field - 1) 0 == 41)) (ap (λ b. not (b == 41)) last);
    present = and_right (not (stands_alone op)) (length (target_bytes field) == 0) some;
    short = and_right (not (stands_alone op)) (is_long_name (target_bytes field)) short;
    told = told;
  }
