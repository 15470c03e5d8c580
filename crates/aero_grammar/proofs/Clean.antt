-- A text in which no byte but those that end lines is bad: its lines have none.
use Rattle.std.proofs.Common.{◌≡◌, ◌-◌, ◌==◌, ◌||◌, ℕ, zero, suc, Bool, true, false, List, [], ◌∷◌, length, take, drop, refl, sym, ◌∙◌}
use Rattle.std.specs.List.{list_any, position_or_len, before_first}
use Rattle.std.specs.Str.Lines.{strip_carriage_return}
use Rattle.std.specs.Prelude.{slice_index}
use Rattle.std.proofs.lemmas.Bool.{cond_both}
use Rattle.memchr.specs.Find.{NoneBefore, Passes, is_byte}
use Rattle.aero_model.specs.Lines.{is_line_end}
use Rattle.aero_model.specs.Names.{is_bad_byte}
use Rattle.aero_grammar.specs.Meaning.{is_unfit}
use Rattle.aero_grammar.proofs.LinesRead.{EndsNowhere, EndsNowhere-tail, head_stays, ends_nowhere, none_before_first}

neither : (a b : Bool) → (a || b) ≡ false → (a ≡ false) × (b ≡ false)
neither true b e = cc
neither false true e = cc
neither false false e = (refl, refl)

-- what is fit and ends no line is good
fit_is_good : (x : ℕ) → (x == 10) ≡ false → is_unfit x ≡ false → is_bad_byte x ≡ false
fit_is_good x here fit =
    let same : is_unfit x ≡ is_bad_byte x = rw here refl in
    sym same ∙ fit

pub front_is_good : (n : ℕ) (text : List ℕ) → EndsNowhere n text → list_any is_unfit text ≡ false → list_any is_bad_byte (take n text) ≡ false
front_is_good zero text none fit = refl
front_is_good (suc n) [] none fit = refl
front_is_good (suc n) (x ∷ text) none fit =
    let both = neither (is_unfit x) (list_any is_unfit text) fit in
    let here : is_bad_byte x ≡ false = fit_is_good x (head_stays n x text none) both.0 in
    let later : list_any is_bad_byte (take n text) ≡ false = front_is_good n text (EndsNowhere-tail n x text none) both.1 in
    rw (here, later) refl

rest_is_fit : (n : ℕ) (text : List ℕ) → list_any is_unfit text ≡ false → list_any is_unfit (drop n text) ≡ false
rest_is_fit zero text fit = fit
rest_is_fit (suc n) [] fit = refl
rest_is_fit (suc n) (x ∷ text) fit = rest_is_fit n text (neither (is_unfit x) (list_any is_unfit text) fit).1

-- the line up to the first byte 10 is good, and what follows it fit
pub clean_line : (text : List ℕ) (n : ℕ) → NoneBefore (Passes (is_byte 10) text) 0 (length text) n → list_any is_unfit text ≡ false → list_any is_bad_byte (take n text) ≡ false
clean_line text n first fit = front_is_good n text (ends_nowhere n text first.before) fit

pub clean_behind : (text : List ℕ) (n : ℕ) → list_any is_unfit text ≡ false → list_any is_unfit (drop n text) ≡ false
clean_behind text n fit = rest_is_fit n text fit

pub clean_first : (text : List ℕ) → list_any is_unfit text ≡ false → list_any is_bad_byte (before_first is_line_end text) ≡ false
clean_first text fit = front_is_good (position_or_len is_line_end text) text (none_before_first text) fit

good_front : (n : ℕ) (text : List ℕ) → list_any is_bad_byte text ≡ false → list_any is_bad_byte (take n text) ≡ false
good_front zero text good = refl
good_front (suc n) [] good = refl
good_front (suc n) (x ∷ text) good =
    let both = neither (is_bad_byte x) (list_any is_bad_byte text) good in
    rw (both.0, good_front n text both.1) refl

-- nor does a byte 13 less at the end make a good line bad
pub good_text : (line : List ℕ) → list_any is_bad_byte line ≡ false → list_any is_bad_byte (strip_carriage_return line) ≡ false
good_text line good =
    cond_both (slice_index line (length line - 1) == 13) (take (length line - 1) line) line (λ t. list_any is_bad_byte t ≡ false) (λ _. good_front (length line - 1) line good) (λ _. good)
