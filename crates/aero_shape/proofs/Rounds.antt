-- The open exempt blocks of a thread: which of them an end matches, and what an event changes.
use Rattle.std.proofs.Common.{◌≡◌, ℕ, zero, suc, ◌+◌, ◌-◌, ◌<◌, ◌==◌, ◌&&◌, nat_lt, not, Bool, true, false, if◌then◌else◌, List, [], ◌∷◌, ◌++◌, length, take, Some, inl, inr, refl, sym, ◌∙◌, ap, ap₂, arith}
use Rattle.std.specs.Prelude.{slice_get}
use Rattle.std.specs.Option.{option_map_or}
use Rattle.std.proofs.lemmas.Bool.{cases_Bool, and_from, and_left, and_right, eq-eqb, ne_eqb, eqb-true, lt-ltb, cond-true, cond-false}
use Rattle.std.proofs.lemmas.List.{take_all}
use Rattle.aero_model.specs.declared.numbered.Numbered.{Numbered}
use Rattle.aero_model.specs.declared.numbered.What.{What}
use Rattle.aero_model.specs.declared.numbered.What.TheVariants.{Read, Write, Acquire, Release, Fork, Join, Begin, End, Exempt}
use Rattle.aero_model.specs.Blocks.{is_begin, is_end, by_thread, depth}
use Rattle.aero_model.specs.BlockCounts.{count_below}
use Rattle.aero_model.specs.Exempt.{Marked, nest, is_latest_exempt, ends_exempt, judged_what, judged, judged_trace}
use Rattle.aero_model.proofs.Exempt.{judged_depth, latest_next, nest_next, same_below, nest_same, latest_same}
use Rattle.aero_shape.specs.States.{Tables, thread_at, around_at, around_after}
use Rattle.aero_shape.specs.Told.{is_last, exempt_told, judged_told}
use Rattle.aero_shape.specs.Standing.{StandsFor, counts_round, rounds}
use Rattle.aero_shape.proofs.Pushed.{slice_get_last, slice_get_front, take_front, length_pushed}

is_last_pushed : (d x : ℕ) (xs : List ℕ) → is_last d (xs ++ x ∷ []) ≡ (x == d)
is_last_pushed d x xs =
    let end : length (xs ++ x ∷ []) - 1 ≡ length xs = let more = length_pushed xs x in omega arith in
    ap (λ i. option_map_or (λ last. last == d) (slice_get (xs ++ x ∷ []) i) false) end
    ∙ ap (λ o. option_map_or (λ last. last == d) o false) (slice_get_last xs x)

front_of : (xs : List ℕ) (x : ℕ) → take (length (xs ++ x ∷ []) - 1) (xs ++ x ∷ []) ≡ xs
front_of xs x =
    let end : length (xs ++ x ∷ []) - 1 ≡ length xs = let more = length_pushed xs x in omega arith in
    ap (λ i. take i (xs ++ x ∷ [])) end ∙ take_front xs (x ∷ []) (length xs) (omega arith) ∙ take_all (length xs) xs (omega arith)

module _ (test : ℕ → Bool) where
  abbrev count : ℕ → ℕ
  count n = count_below (λ k. not (test k)) n

  abbrev list : ℕ → List ℕ
  list n = counts_round test n

  more_at : (n : ℕ) → test n ≡ true → (list (suc n) ≡ list n ++ count n ∷ []) × (count (suc n) ≡ count n)
  more_at n is =
      (cond-true (test n) (list n ++ count n ∷ []) (list n) is, cond-false (not (test n)) (count n + 1) (count n) (ap not is))

  same_at : (n : ℕ) → test n ≡ false → (list (suc n) ≡ list n) × (count (suc n) ≡ count n + 1)
  same_at n is =
      (cond-false (test n) (list n ++ count n ∷ []) (list n) is, cond-true (not (test n)) (count n + 1) (count n) (ap not is))

  past_all : (n d : ℕ) → count n < d → is_last d (list n) ≡ false
  past_all zero d l = refl
  past_all (suc n) d l = elim (cases_Bool (test n)) [
    | inl is ↦
        let step = more_at n is in
        let grown = step.1 in
        ap (is_last d) step.0 ∙ is_last_pushed d (count n) (list n) ∙ ne_eqb (count n) d (omega arith)
    | inr is ↦
        let step = same_at n is in
        let grown = step.1 in
        ap (is_last d) step.0 ∙ past_all n d (omega arith)
  ]

  -- the innermost open block is exempt where the last count is that of now
  pub last_told : (n : ℕ) → is_last (count n) (list n) ≡ (nat_lt 0 n && test (n - 1))
  last_told zero = refl
  last_told (suc n) =
      let less : suc n - 1 ≡ n = omega arith in
      let reads : (nat_lt 0 (suc n) && test (suc n - 1)) ≡ test n = ap₂ (λ b k. b && test k) (lt-ltb 0 (suc n) (omega arith)) less in
      elim (cases_Bool (test n)) [
        | inl is ↦
            let step = more_at n is in
            ap₂ is_last step.1 step.0 ∙ is_last_pushed (count n) (count n) (list n) ∙ eq-eqb (count n) (count n) refl ∙ sym (reads ∙ is)
        | inr is ↦
            let step = same_at n is in
            ap₂ is_last step.1 step.0 ∙ past_all n (count n + 1) (omega arith) ∙ sym (reads ∙ is)
      ]

  -- without the innermost open block
  pub without_last : (n : ℕ) → list (n - 1) ≡ (if nat_lt 0 n && test (n - 1) then take (length (list n) - 1) (list n) else list n)
  without_last zero = refl
  without_last (suc n) =
      let less : suc n - 1 ≡ n = omega arith in
      let reads : (nat_lt 0 (suc n) && test (suc n - 1)) ≡ test n = ap₂ (λ b k. b && test k) (lt-ltb 0 (suc n) (omega arith)) less in
      ap list less
      ∙ elim (cases_Bool (test n)) [
        | inl is ↦ sym (ap (λ b. if b then take (length (list (suc n)) - 1) (list (suc n)) else list (suc n)) (reads ∙ is) ∙ ap (λ xs. take (length xs - 1) xs) (more_at n is).0 ∙ front_of (list n) (count n))
        | inr is ↦ sym (ap (λ b. if b then take (length (list (suc n)) - 1) (list (suc n)) else list (suc n)) (reads ∙ is) ∙ (same_at n is).0)
      ]

  -- each number below n passes the test, or it doesn't
  pub counted_round : (n : ℕ) → count n + length (list n) ≡ n
  counted_round zero = refl
  counted_round (suc n) = elim (cases_Bool (test n)) [
    | inl is ↦
        let step = more_at n is in
        let more = length_pushed (list n) (count n) in
        let longer : length (list (suc n)) ≡ suc (length (list n)) = ap length step.0 ∙ more in
        omega (arith, counted_round n, step.1, longer)
    | inr is ↦
        let step = same_at n is in
        let same : length (list (suc n)) ≡ length (list n) = ap length step.0 in
        omega (arith, counted_round n, step.1, same)
  ]

same_round : (f g : ℕ → Bool) (n : ℕ) → ((k : ℕ) → k < n → f k ≡ g k) → counts_round f n ≡ counts_round g n
same_round f g zero h = refl
same_round f g (suc n) h =
    ap (λ b. if b then counts_round f n ++ count_below (λ k. not (f k)) n ∷ [] else counts_round f n) (h n (omega arith))
    ∙ ap₂ (λ xs c. if g n then xs ++ c ∷ [] else xs) (same_round f g n (λ k l. h k (omega arith))) (same_below (λ k. not (f k)) (λ k. not (g k)) n (λ k l. ap not (h k (omega arith))))

-- what the tables tell of an event is what it is judged as
module _ (tables : Tables) (h : List Marked) (s : StandsFor tables h) where
  pub end_told : (t : ℕ) → is_last (thread_at tables.threads t).depth (around_at tables.exempt t) ≡ ends_exempt h t
  end_told t =
      ap₂ is_last (s.depth t ∙ judged_depth h t) (s.exempt t)
      ∙ last_told (λ level. is_latest_exempt h t level (length h)) (nest h t (length h))

  -- how many blocks of the thread are open
  pub open_told : (t : ℕ) → (thread_at tables.threads t).depth + length (around_at tables.exempt t) ≡ nest h t (length h)
  open_told t =
      ap₂ (λ d xs. d + length xs) (s.depth t ∙ judged_depth h t) (s.exempt t)
      ∙ counted_round (λ level. is_latest_exempt h t level (length h)) (nest h t (length h))

  told_what : (t : ℕ) (exempt : Bool) (w : What) → judged_told (exempt_told tables.threads tables.exempt t exempt w) w ≡ judged_what h t exempt w
  told_what t exempt (Begin label) = refl
  told_what t exempt End = ap (λ b. if b then Exempt else End) (end_told t)
  told_what t exempt _ = refl

  pub judged_is_told : (m : Marked) (e : Numbered) → e.thread ≡ m.event.thread → e.what ≡ judged_told (exempt_told tables.threads tables.exempt m.event.thread m.exempt m.event.what) m.event.what → e ≡ judged h m
  judged_is_told m e thread what =
      ap₂ (λ t w. record { thread = t; what = w }) thread (what ∙ told_what m.event.thread m.exempt m.event.what)

-- what an event changes
module _ (h : List Marked) (m : Marked) (t : ℕ) where
  abbrev all : List Marked
  all = h ++ m ∷ []

  abbrev n : ℕ
  n = length h

  at : slice_get all n ≡ Some m
  at = slice_get_last h m

  front : (i : ℕ) → i < n → slice_get all i ≡ slice_get h i
  front i l = slice_get_front h (m ∷ []) i l

  abbrev latest : ℕ → Bool
  latest k = is_latest_exempt h t k n

  abbrev nested : ℕ
  nested = nest h t n

  latest_after : (k : ℕ) → is_latest_exempt all t k (suc n) ≡ (if by_thread t is_begin (Some m.event) && (nested == k) then m.exempt else latest k)
  latest_after k =
      latest_next all t n m at k
      ∙ ap₂ (λ d b. if by_thread t is_begin (Some m.event) && (d == k) then m.exempt else b) (nest_same all h t n front) (latest_same all h t k n front)

  nest_after : nest all t (suc n) ≡ (if by_thread t is_begin (Some m.event) then nested + 1 else if by_thread t is_end (Some m.event) then nested - 1 else nested)
  nest_after =
      nest_next all t n m at
      ∙ ap (λ d. if by_thread t is_begin (Some m.event) then d + 1 else if by_thread t is_end (Some m.event) then d - 1 else d) (nest_same all h t n front)

  rounds_after : rounds all t ≡ counts_round (λ k. is_latest_exempt all t k (suc n)) (nest all t (suc n))
  rounds_after = ap (λ i. counts_round (λ k. is_latest_exempt all t k i) (nest all t i)) (length_pushed h m)

  -- the event begins no block of the thread
  no_begin : by_thread t is_begin (Some m.event) ≡ false → (d : ℕ) → nest all t (suc n) ≡ d → rounds all t ≡ counts_round latest d
  no_begin none d is =
      rounds_after
      ∙ ap (counts_round (λ k. is_latest_exempt all t k (suc n))) is
      ∙ same_round (λ k. is_latest_exempt all t k (suc n)) latest d (λ k l. latest_after k ∙ cond-false (by_thread t is_begin (Some m.event) && (nested == k)) m.exempt (latest k) (and_left (by_thread t is_begin (Some m.event)) (nested == k) none))

  still : by_thread t is_begin (Some m.event) ≡ false → by_thread t is_end (Some m.event) ≡ false → rounds all t ≡ rounds h t
  still nb ne =
      no_begin nb nested (nest_after ∙ cond-false (by_thread t is_begin (Some m.event)) (nested + 1) (if by_thread t is_end (Some m.event) then nested - 1 else nested) nb ∙ cond-false (by_thread t is_end (Some m.event)) (nested - 1) nested ne)

  begun : by_thread t is_begin (Some m.event) ≡ true → rounds all t ≡ (if m.exempt then rounds h t ++ count_below (λ k. not (latest k)) nested ∷ [] else rounds h t)
  begun b =
      let deeper : nest all t (suc n) ≡ suc nested = let more = nest_after ∙ cond-true (by_thread t is_begin (Some m.event)) (nested + 1) (if by_thread t is_end (Some m.event) then nested - 1 else nested) b in omega arith in
      let here = and_from (by_thread t is_begin (Some m.event)) (nested == nested) b (eq-eqb nested nested refl) in
      let top : is_latest_exempt all t nested (suc n) ≡ m.exempt = latest_after nested ∙ cond-true (by_thread t is_begin (Some m.event) && (nested == nested)) m.exempt (latest nested) here in
      let lower : (k : ℕ) → k < nested → is_latest_exempt all t k (suc n) ≡ latest k = λ k l. latest_after k ∙ cond-false (by_thread t is_begin (Some m.event) && (nested == k)) m.exempt (latest k) (and_right (by_thread t is_begin (Some m.event)) (nested == k) (ne_eqb nested k (omega arith))) in
      rounds_after
      ∙ ap (counts_round (λ k. is_latest_exempt all t k (suc n))) deeper
      ∙ ap (λ b. if b then counts_round (λ k. is_latest_exempt all t k (suc n)) nested ++ count_below (λ k. not (is_latest_exempt all t k (suc n))) nested ∷ [] else counts_round (λ k. is_latest_exempt all t k (suc n)) nested) top
      ∙ ap₂ (λ xs c. if m.exempt then xs ++ c ∷ [] else xs) (same_round (λ k. is_latest_exempt all t k (suc n)) latest nested lower) (same_below (λ k. not (is_latest_exempt all t k (suc n))) (λ k. not (latest k)) nested (λ k l. ap not (lower k l)))

  ended : by_thread t is_begin (Some m.event) ≡ false → by_thread t is_end (Some m.event) ≡ true → rounds all t ≡ (if ends_exempt h t then take (length (rounds h t) - 1) (rounds h t) else rounds h t)
  ended nb e =
      no_begin nb (nested - 1) (nest_after ∙ cond-false (by_thread t is_begin (Some m.event)) (nested + 1) (if by_thread t is_end (Some m.event) then nested - 1 else nested) nb ∙ cond-true (by_thread t is_end (Some m.event)) (nested - 1) nested e)
      ∙ without_last latest nested

  -- whether the event is exempt
  abbrev pub exempt_is : What → Bool
  exempt_is (Begin label) = m.exempt
  exempt_is End = ends_exempt h m.event.thread
  exempt_is _ = false

  abbrev changed : What → List ℕ
  changed w = around_after t m.event.thread w (exempt_is w) (depth (judged_trace h) m.event.thread n) (rounds h t)

  and_true : (b : Bool) → (b && true) ≡ b
  and_true true = refl
  and_true false = refl

  neither : (w : What) → m.event.what ≡ w → is_begin w ≡ false → is_end w ≡ false → rounds all t ≡ rounds h t
  neither w is nb ne =
      still (and_right (m.event.thread == t) (is_begin m.event.what) (ap is_begin is ∙ nb)) (and_right (m.event.thread == t) (is_end m.event.what) (ap is_end is ∙ ne))

  own : (w : What) → m.event.what ≡ w → m.event.thread ≡ t → rounds all t ≡ changed w
  own (Begin label) is same =
      begun (and_from (m.event.thread == t) (is_begin m.event.what) (eq-eqb m.event.thread t same) (ap is_begin is))
      ∙ ap (λ b. if b then rounds h t ++ count_below (λ k. not (latest k)) nested ∷ [] else rounds h t) (sym (ap (λ b. m.exempt && b) (eq-eqb m.event.thread t same) ∙ and_true m.exempt))
      ∙ ap (λ d. if m.exempt && (m.event.thread == t) then rounds h t ++ d ∷ [] else rounds h t) (sym (ap (λ u. depth (judged_trace h) u n) same ∙ judged_depth h t))
  own End is same =
      ended (and_right (m.event.thread == t) (is_begin m.event.what) (ap is_begin is)) (and_from (m.event.thread == t) (is_end m.event.what) (eq-eqb m.event.thread t same) (ap is_end is))
      ∙ ap (λ b. if b then take (length (rounds h t) - 1) (rounds h t) else rounds h t) (sym (ap₂ (λ b c. b && c) (ap (ends_exempt h) same) (eq-eqb m.event.thread t same) ∙ and_true (ends_exempt h t)))
  own (Read x) is same = neither (Read x) is refl refl
  own (Write x) is same = neither (Write x) is refl refl
  own (Acquire x) is same = neither (Acquire x) is refl refl
  own (Release x) is same = neither (Release x) is refl refl
  own (Fork x) is same = neither (Fork x) is refl refl
  own (Join x) is same = neither (Join x) is refl refl
  own Exempt is same = neither Exempt is refl refl

  other : (w : What) → (m.event.thread == t) ≡ false → rounds all t ≡ changed w
  other w apart = stays ∙ sym (unchanged w)
    where
      stays : rounds all t ≡ rounds h t
      stays = still (and_left (m.event.thread == t) (is_begin m.event.what) apart) (and_left (m.event.thread == t) (is_end m.event.what) apart)

      unchanged : (w : What) → changed w ≡ rounds h t
      unchanged (Begin label) =
          cond-false (m.exempt && (m.event.thread == t)) (rounds h t ++ depth (judged_trace h) m.event.thread n ∷ []) (rounds h t) (and_right m.exempt (m.event.thread == t) apart)
      unchanged End =
          cond-false (ends_exempt h m.event.thread && (m.event.thread == t)) (take (length (rounds h t) - 1) (rounds h t)) (rounds h t) (and_right (ends_exempt h m.event.thread) (m.event.thread == t) apart)
      unchanged _ = refl

  pub rounds_pushed : rounds all t ≡ changed m.event.what
  rounds_pushed = elim (cases_Bool (m.event.thread == t)) [ inl same ↦ own m.event.what refl (eqb-true m.event.thread t same) | inr apart ↦ other m.event.what apart ]
