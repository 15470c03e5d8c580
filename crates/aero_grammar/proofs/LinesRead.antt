-- The reading of a text, a line at a time.
use Rattle.std.proofs.Common.{◌≡◌, ◌<◌, ◌≤◌, ◌+◌, ◌==◌, ℕ, suc, Bool, true, false, not, cond, eqb, List, [], ◌∷◌, ◌++◌, length, take, drop, get_or, map, Some, None, Result, Ok, Err, OnErr, refl, true≢false, sym, ◌∙◌, ap, ap₂, arith, length-append}
use Rattle.std.specs.List.{position_or_len}
use Rattle.std.proofs.lemmas.List.{append-nil, get_or-take, take-take, take-append-drop, drop-take, length-take-le}
use Rattle.std.proofs.lemmas.List.Folds.{prefix_len-append}
use Rattle.std.proofs.lemmas.List.Sums.{fails_before_first, passes_at_first, position_or_len_is}
use Rattle.std.proofs.lemmas.Bool.{ne_eqb, eqb-true, eq-eqb, cond-true, cond-false}
use Rattle.memchr.specs.Find.{Nowhere, NoneBefore, Passes, is_byte}
use Rattle.aero_model.specs.declared.verdict.LineFault.{LineFault}
use Rattle.aero_model.specs.declared.verdict.LineFault.TheVariants.{Memory}
use Rattle.aero_model.specs.Lines.{is_line_end, lines_of}
use Rattle.aero_model.specs.Named.{Named}
use Rattle.aero_grammar.specs.Meaning.{Meaning, Blank, Means, Faulty, TellsMeaning, meaning}
use Rattle.aero_grammar.specs.Reading.{Reading, after_lines, followed_by, whole_reading, line_reading, reading_of}
use Rattle.aero_grammar.proofs.FirstPart.{first_part, found_at}
use Rattle.aero_grammar.proofs.Joined.{reading, followed_by_assoc, followed_by_nothing}

-- no byte before the place n is 10
pub EndsNowhere : ℕ → List ℕ → Type 0
EndsNowhere n text = (k : ℕ) → k < n → get_or text k 0 ≡ 10 → ⊥

pub EndsNowhere-tail : (n x : ℕ) (text : List ℕ) → EndsNowhere (suc n) (x ∷ text) → EndsNowhere n text
unfolding EndsNowhere
EndsNowhere-tail n x text none k lt = none (suc k) (omega (arith, lt))

pub head_stays : (n x : ℕ) (text : List ℕ) → EndsNowhere (suc n) (x ∷ text) → (x == 10) ≡ false
unfolding EndsNowhere
head_stays n x text none = ne_eqb x 10 (none 0 (omega arith))

-- a search that found none below n says so
pub ends_nowhere : (n : ℕ) (text : List ℕ) → Nowhere (Passes (is_byte 10) text) 0 n → EndsNowhere n text
unfolding EndsNowhere
ends_nowhere n text none k lt is = none k (omega arith) lt (eq-eqb (get_or text k 0) 10 is)

pub none_before_first : (text : List ℕ) → EndsNowhere (position_or_len is_line_end text) text
unfolding EndsNowhere
none_before_first text k lt is = true≢false (sym (eq-eqb (get_or text k 0) 10 is) ∙ fails_before_first is_line_end text k 0 lt)

-- what a search for the first byte 10 says of the lines
pub lines_at : (text : List ℕ) (n : ℕ) → NoneBefore (Passes (is_byte 10) text) 0 (length text) n → Passes (is_byte 10) text n → lines_of text ≡ take n text ∷ lines_of (drop (n + 1) text)
lines_at text n first here =
    first_part is_line_end text (omega (arith, first.high)) ∙ ap (λ k. take k text ∷ lines_of (drop (k + 1) text)) (found_at 10 text n first here)

-- the same of a text whose first byte 10 stands among its first n bytes
module _ (text : List ℕ) (n end : ℕ) (at : end ≡ position_or_len is_line_end (take n text)) (below : end < n) (long : length (take n text) ≡ n) where
  pub none_before : EndsNowhere end text
  unfolding EndsNowhere
  none_before k lt is =
      let other : (get_or (take n text) k 0 == 10) ≡ false = fails_before_first is_line_end (take n text) k 0 (omega (arith, lt, at)) in
      let here : get_or (take n text) k 0 ≡ 10 = get_or-take n text k 0 (omega (arith, lt, below)) ∙ is in
      true≢false (sym (eq-eqb (get_or (take n text) k 0) 10 here) ∙ other)

  stands_there : get_or text end 0 ≡ 10
  stands_there =
      sym (get_or-take n text end 0 below) ∙ ap (λ k. get_or (take n text) k 0) at
      ∙ eqb-true (get_or (take n text) (position_or_len is_line_end (take n text)) 0) 10 (passes_at_first is_line_end (take n text) 0 (omega (arith, at, below, long)))

  pub lines_cut : n ≤ length text → lines_of text ≡ take end text ∷ lines_of (drop (end + 1) text)
  unfolding EndsNowhere
  lines_cut wide =
      let place : position_or_len is_line_end text ≡ end =
      position_or_len_is is_line_end text end 0 (omega (arith, below, wide)) (λ k lt. ne_eqb (get_or text k 0) 10 (none_before k lt)) (λ _. eq-eqb (get_or text end 0) 10 stands_there) in
      first_part is_line_end text (omega (arith, below, wide)) ∙ ap (λ k. take k text ∷ lines_of (drop (k + 1) text)) place

-- the first place among so many elements and the next ones
module _ {X : Type 0} (p : X → Bool) (xs : List X) (n m : ℕ) (long : n ≤ length xs) where
  parted : take (n + m) xs ≡ take n xs ++ take m (drop n xs)
  parted =
      sym (take-append-drop n (take (n + m) xs))
      ∙ ap₂ (λ front behind. front ++ behind) (take-take n (n + m) xs (omega arith)) (drop-take n m xs)

  both : position_or_len p (take (n + m) xs) ≡ cond (eqb (position_or_len p (take n xs)) n) (n + position_or_len p (take m (drop n xs))) (position_or_len p (take n xs))
  both =
      ap (position_or_len p) parted
      ∙ (prefix_len-append (λ x. not (p x)) (take n xs) (take m (drop n xs))
      ∙ ap (λ k. cond (eqb (position_or_len p (take n xs)) k) (k + position_or_len p (take m (drop n xs))) (position_or_len p (take n xs))) (length-take-le n xs long))

  pub first_in_front : position_or_len p (take n xs) < n → position_or_len p (take (n + m) xs) ≡ position_or_len p (take n xs)
  first_in_front below =
      let first = position_or_len p (take n xs) in
      both ∙ cond-false (eqb first n) (n + position_or_len p (take m (drop n xs))) first (ne_eqb first n (λ is. omega (arith, is, below)))

  pub first_behind : position_or_len p (take n xs) ≡ n → position_or_len p (take (n + m) xs) ≡ n + position_or_len p (take m (drop n xs))
  first_behind none =
      let first = position_or_len p (take n xs) in
      both ∙ cond-true (eqb first n) (n + position_or_len p (take m (drop n xs))) first (eq-eqb first n none)

-- the text so far, one line more, and the rest
pub one_more_line : (events : List (ℕ × Named)) (n : ℕ) (whole : Reading) (rest line behind : List ℕ) → whole ≡ followed_by (reading events n None) (reading_of rest) → lines_of rest ≡ line ∷ lines_of behind →
    whole ≡ followed_by (followed_by (reading events n None) (line_reading (meaning line))) (reading_of behind)
one_more_line events n whole rest line behind is split =
    is
    ∙ ap (λ lines. followed_by (reading events n None) (whole_reading (map (λ l. line_reading (meaning l)) lines))) split
    ∙ sym (followed_by_assoc (reading events n None) (line_reading (meaning line)) (reading_of behind))

module _ (events : List (ℕ × Named)) (n : ℕ) (line : List ℕ) where
  pub after_blank : meaning line ≡ Blank → followed_by (reading events n None) (line_reading (meaning line)) ≡ reading events (n + 1) None
  after_blank is = ap (λ m. followed_by (reading events n None) (line_reading m)) is ∙ ap (λ es. reading es (n + 1) None) (append-nil events)

  pub after_event : (e : Named) → meaning line ≡ Means e → followed_by (reading events n None) (line_reading (meaning line)) ≡ reading (events ++ (n + 1, e) ∷ []) (n + 1) None
  after_event e is = ap (λ m. followed_by (reading events n None) (line_reading m)) is

  pub after_fault : (f : LineFault) → meaning line ≡ Faulty f → followed_by (reading events n None) (line_reading (meaning line)) ≡ reading events (n + 1) (Some (n + 1, f))
  after_fault f is = ap (λ m. followed_by (reading events n None) (line_reading m)) is ∙ ap (λ es. reading es (n + 1) (Some (n + 1, f))) (append-nil events)

on_err : {T E P : Type 0} (r : Result T E) → P → OnErr r P
on_err (Ok x) p = tt
on_err (Err e) p = p

-- the text has an event where one of its lines does
pub has_event : (events : List (ℕ × Named)) (n : ℕ) (whole : Reading) (rest line behind : List ℕ) (e : Named) → whole ≡ followed_by (reading events n None) (reading_of rest) → lines_of rest ≡ line ∷ lines_of behind → meaning line ≡ Means e →
    {T E : Type 0} (r : Result T E) → OnErr r (0 < length whole.events)
has_event events n whole rest line behind e is split means r =
    let more = map (after_lines (n + 1)) (reading_of behind).events in
    let whole_is : length whole.events ≡ length ((events ++ (n + 1, e) ∷ []) ++ more) =
    ap (λ (r : Reading). length r.events) (one_more_line events n whole rest line behind is split ∙ ap (λ r. followed_by r (reading_of behind)) (after_event events n line e means)) in
    let with_rest = length-append (events ++ (n + 1, e) ∷ []) more in
    let with_event = length-append events ((n + 1, e) ∷ []) in
    let some : 0 < length whole.events = omega arith in
    on_err r some

-- a fault that isn't about memory is the line's own
pub tells_fault : (f : LineFault) (m : Meaning) → TellsMeaning (Err f) m → (f ≡ Memory → ⊥) → m ≡ Faulty f
tells_fault Memory m tells other = absurd (other refl)
tells_fault f m tells other = tells

-- the whole text is read
pub read_to_end : (events : List (ℕ × Named)) (n : ℕ) (whole : Reading) (rest : List ℕ) → whole ≡ followed_by (reading events n None) (reading_of rest) → (length rest == 0) ≡ true → whole ≡ reading events n None
read_to_end events n whole [] is end = is ∙ followed_by_nothing (reading events n None)
read_to_end events n whole (x ∷ rest) is end = absurd (omega (arith, eqb-true (length (x ∷ rest)) 0 end))

-- the text is read up to a fault
pub read_to_fault : (events : List (ℕ × Named)) (n : ℕ) (whole : Reading) (rest line behind : List ℕ) (f : LineFault) → whole ≡ followed_by (reading events n None) (reading_of rest) → lines_of rest ≡ line ∷ lines_of behind → meaning line ≡ Faulty f →
    whole ≡ reading events (n + 1) (Some (n + 1, f))
read_to_fault events n whole rest line behind f is split fault =
    one_more_line events n whole rest line behind is split ∙ ap (λ r. followed_by r (reading_of behind)) (after_fault events n line f fault)
