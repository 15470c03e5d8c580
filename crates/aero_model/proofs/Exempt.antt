-- The judged trace, event by event: what it shares with the trace that was read, and its depths.
use Rattle.std.proofs.Common.{◌≡◌, ℕ, zero, suc, ◌+◌, ◌-◌, ◌<◌, ◌==◌, ◌&&◌, ◌||◌, nat_lt, not, Bool, true, false, cond, if◌then◌else◌, List, [], ◌∷◌, ◌++◌, map, length, take, Option, Some, None, inl, inr, refl, sym, ◌∙◌, ap, ap₂, arith, append_assoc, append-nil}
use Rattle.std.specs.Prelude.{slice_get, option_map, count_by}
use Rattle.std.specs.List.{list_any}
use Rattle.std.proofs.lemmas.Bool.{cases_Bool, and_parts, and_from, and_left, and_right, or_parts, or_from, eq-eqb, ne_eqb, eqb-true, ltb-true, lt-ltb, cond-true, cond-false, both_ways}
use Rattle.std.proofs.lemmas.List.Folds.{list_any-append}
use Rattle.std.proofs.lemmas.List.Sums.{sum_by-append}
use Rattle.std.proofs.lemmas.Option.{same_Some, slice_get_within}
use Rattle.aero_model.specs.declared.numbered.Numbered.{Numbered}
use Rattle.aero_model.specs.declared.numbered.What.{What}
use Rattle.aero_model.specs.declared.numbered.What.TheVariants.{Read, Write, Acquire, Release, Fork, Join, Begin, End, Exempt}
use Rattle.aero_model.specs.declared.verdict.ShapeFault.{ShapeFault}
use Rattle.aero_model.specs.declared.verdict.ShapeFault.TheVariants.{ThreadJoined, LockHeldByOther, LockNotHeld, ForkSelf, ForkStarted, EndWithoutBegin}
use Rattle.aero_model.specs.Named.{Named}
use Rattle.aero_model.specs.Numbering.{Tables, tables_of, numbered, trace_of}
use Rattle.aero_model.specs.Blocks.{is_begin, is_end, by_thread, depth}
use Rattle.aero_model.specs.BlockCounts.{count_below}
use Rattle.aero_model.specs.Shape.{is_acquire_of, is_release_of, is_fork_of, is_join_of, held, is_held_by_other, has_acted, was_forked, was_joined, has_started, deed_fault, shape_fault, IsWellFormed}
use Rattle.aero_model.specs.Exempt.{Listed, Marked, read_events, nest, is_marked, is_latest_exempt, ends_exempt, judged_what, judged, judged_after, judged_trace, marked, marked_trace}
use Rattle.aero_model.specs.Laws.{without_label, unlabelled}
use Rattle.aero_model.proofs.WellFormed.{slice_get-take, length-take_at}

-- the list, one event after another

after_pushed : (before h : List Marked) (m : Marked) → judged_after before (h ++ m ∷ []) ≡ judged_after before h ++ judged (before ++ h) m ∷ []
after_pushed before [] m = ap (λ b. judged b m ∷ []) (sym (append-nil before))
after_pushed before (x ∷ h) m =
    ap (λ more. judged before x ∷ more) (after_pushed (before ++ x ∷ []) h m ∙ ap (λ b. judged_after (before ++ x ∷ []) h ++ judged b m ∷ []) (append_assoc before (x ∷ []) h))

pub judged_pushed : (h : List Marked) (m : Marked) → judged_trace (h ++ m ∷ []) ≡ judged_trace h ++ judged h m ∷ []
judged_pushed h m = after_pushed [] h m

after_length : (before h : List Marked) → length (judged_after before h) ≡ length h
after_length before [] = refl
after_length before (x ∷ h) = ap suc (after_length (before ++ x ∷ []) h)

pub judged_length : (h : List Marked) → length (judged_trace h) ≡ length h
judged_length h = after_length [] h

after_taken : (before h : List Marked) (n : ℕ) → take n (judged_after before h) ≡ judged_after before (take n h)
after_taken before h zero = refl
after_taken before [] (suc n) = refl
after_taken before (x ∷ h) (suc n) = ap (λ more. judged before x ∷ more) (after_taken (before ++ x ∷ []) h n)

pub judged_taken : (h : List Marked) (n : ℕ) → take n (judged_trace h) ≡ judged_trace (take n h)
judged_taken h n = after_taken [] h n

after_at : (before h : List Marked) (n : ℕ) → slice_get (judged_after before h) n ≡ option_map (judged (before ++ take n h)) (slice_get h n)
after_at before [] n = refl
after_at before (x ∷ h) zero = ap (λ b. Some (judged b x)) (sym (append-nil before))
after_at before (x ∷ h) (suc n) =
    after_at (before ++ x ∷ []) h n ∙ ap (λ b. option_map (judged b) (slice_get h n)) (append_assoc before (x ∷ []) (take n h))

pub judged_at : (h : List Marked) (n : ℕ) → slice_get (judged_trace h) n ≡ option_map (judged (take n h)) (slice_get h n)
judged_at h n = after_at [] h n

pub read_pushed : (h : List Marked) (m : Marked) → read_events (h ++ m ∷ []) ≡ read_events h ++ m.event ∷ []
read_pushed [] m = refl
read_pushed (x ∷ h) m = ap (λ more. x.event ∷ more) (read_pushed h m)

pub read_length : (h : List Marked) → length (read_events h) ≡ length h
read_length [] = refl
read_length (x ∷ h) = ap suc (read_length h)

pub read_taken : (h : List Marked) (n : ℕ) → take n (read_events h) ≡ read_events (take n h)
read_taken h zero = refl
read_taken [] (suc n) = refl
read_taken (x ∷ h) (suc n) = ap (λ more. x.event ∷ more) (read_taken h n)

pub read_at : (h : List Marked) (n : ℕ) → slice_get (read_events h) n ≡ option_map (λ m. m.event) (slice_get h n)
read_at [] n = refl
read_at (x ∷ h) zero = refl
read_at (x ∷ h) (suc n) = read_at h n

-- each event is its thread's
pub judged_threads : (h : List Marked) (n : ℕ) → option_map (λ (e : Numbered). e.thread) (slice_get (judged_trace h) n) ≡ option_map (λ (e : Numbered). e.thread) (slice_get (read_events h) n)
judged_threads h n = ap (option_map (λ (e : Numbered). e.thread)) (judged_at h n) ∙ go (slice_get h n) ∙ sym (ap (option_map (λ (e : Numbered). e.thread)) (read_at h n))
  where
    go : (o : Option Marked) → option_map (λ (e : Numbered). e.thread) (option_map (judged (take n h)) o) ≡ option_map (λ (e : Numbered). e.thread) (option_map (λ m. m.event) o)
    go None = refl
    go (Some m) = refl

-- a test that every event passes as it was read
module _ (p : Numbered → Bool) (same : (before : List Marked) (m : Marked) → p (judged before m) ≡ p m.event) where
  after_any : (before h : List Marked) → list_any p (judged_after before h) ≡ list_any p (read_events h)
  after_any before [] = refl
  after_any before (x ∷ h) = ap₂ (λ b c. b || c) (same before x) (after_any (before ++ x ∷ []) h)

  pub judged_any : (h : List Marked) → list_any p (judged_trace h) ≡ list_any p (read_events h)
  judged_any h = after_any [] h

  counted_first : (x : Numbered) (xs : List Numbered) → count_by p (x ∷ xs) ≡ (0 + cond {A = ℕ} (p x) 1 0) + count_by p xs
  counted_first x xs = sum_by-append (λ y. cond {A = ℕ} (p y) 1 0) (x ∷ []) xs

  after_count : (before h : List Marked) → count_by p (judged_after before h) ≡ count_by p (read_events h)
  after_count before [] = refl
  after_count before (x ∷ h) =
      counted_first (judged before x) (judged_after (before ++ x ∷ []) h)
      ∙ ap₂ (λ b n. (0 + cond {A = ℕ} b 1 0) + n) (same before x) (after_count (before ++ x ∷ []) h)
      ∙ sym (counted_first x.event (read_events h))

  pub judged_count : (h : List Marked) → count_by p (judged_trace h) ≡ count_by p (read_events h)
  judged_count h = after_count [] h

-- a test of deeds that no begin, no end and nothing exempt passes
module _ (f : What → Bool) (no_exempt : f Exempt ≡ false) (no_begin : (label : Option ℕ) → f (Begin label) ≡ false) (no_end : f End ≡ false) where
  either : (b : Bool) (x y : What) → f x ≡ false → f y ≡ false → f (if b then x else y) ≡ false
  either true x y fx fy = fx
  either false x y fx fy = fy

  pub same_deed : (before : List Marked) (t : ℕ) (exempt : Bool) (w : What) → f (judged_what before t exempt w) ≡ f w
  same_deed before t exempt (Begin label) = either exempt Exempt (Begin None) no_exempt (no_begin None) ∙ sym (no_begin label)
  same_deed before t exempt End = either (ends_exempt before t) Exempt End no_exempt no_end ∙ sym no_end
  same_deed before t exempt _ = refl

  pub same_event : (before : List Marked) (m : Marked) → f (judged before m).what ≡ f m.event.what
  same_event before m = same_deed before m.event.thread m.exempt m.event.what

pub judged_acted : (h : List Marked) (u : ℕ) → has_acted (judged_trace h) u ≡ has_acted (read_events h) u
judged_acted h u = judged_any (λ e. e.thread == u) (λ before m. refl) h

pub judged_forked : (h : List Marked) (u : ℕ) → was_forked (judged_trace h) u ≡ was_forked (read_events h) u
judged_forked h u = judged_any (λ e. is_fork_of u e.what) (same_event (is_fork_of u) refl (λ label. refl) refl) h

pub judged_joined : (h : List Marked) (u : ℕ) → was_joined (judged_trace h) u ≡ was_joined (read_events h) u
judged_joined h u = judged_any (λ e. is_join_of u e.what) (same_event (is_join_of u) refl (λ label. refl) refl) h

pub judged_started : (h : List Marked) (u : ℕ) → has_started (judged_trace h) u ≡ has_started (read_events h) u
judged_started h u = ap₂ (λ x y. x || y) (ap₂ (λ x y. x || y) (judged_acted h u) (judged_forked h u)) (judged_joined h u)

pub judged_held : (h : List Marked) (t l : ℕ) → held (judged_trace h) t l ≡ held (read_events h) t l
judged_held h t l =
    ap₂ (λ x y. x - y)
    (judged_count (λ e. (e.thread == t) && is_acquire_of l e.what) (λ before m. ap (λ b. (m.event.thread == t) && b) (same_event (is_acquire_of l) refl (λ label. refl) refl before m)) h)
    (judged_count (λ e. (e.thread == t) && is_release_of l e.what) (λ before m. ap (λ b. (m.event.thread == t) && b) (same_event (is_release_of l) refl (λ label. refl) refl before m)) h)

pub any_same : {X : Type 0} (p q : X → Bool) → ((x : X) → p x ≡ q x) → (xs : List X) → list_any p xs ≡ list_any q xs
any_same p q same [] = refl
any_same p q same (x ∷ xs) = ap₂ (λ b c. b || c) (same x) (any_same p q same xs)

pub judged_held_by_other : (h : List Marked) (t l : ℕ) → is_held_by_other (judged_trace h) t l ≡ is_held_by_other (read_events h) t l
judged_held_by_other h t l =
    judged_any (λ e. not (e.thread == t) && nat_lt 0 (held (judged_trace h) e.thread l)) (λ before m. refl) h
    ∙ any_same (λ (e : Numbered). not (e.thread == t) && nat_lt 0 (held (judged_trace h) e.thread l)) (λ (e : Numbered). not (e.thread == t) && nat_lt 0 (held (read_events h) e.thread l)) (λ e. ap (λ n. not (e.thread == t) && nat_lt 0 n) (judged_held h e.thread l)) (read_events h)

-- two lists with the same first n events
module _ (a b : List Marked) (t : ℕ) where
  abbrev pub SameUpTo : ℕ → Type 0
  SameUpTo n = (i : ℕ) → i < n → slice_get a i ≡ slice_get b i

  fewer : (n : ℕ) → SameUpTo (suc n) → SameUpTo n
  fewer n h i l = h i (omega arith)

  read_same : (n : ℕ) → slice_get a n ≡ slice_get b n → slice_get (read_events a) n ≡ slice_get (read_events b) n
  read_same n h = read_at a n ∙ ap (option_map (λ m. m.event)) h ∙ sym (read_at b n)

  pub nest_same : (n : ℕ) → SameUpTo n → nest a t n ≡ nest b t n
  nest_same zero h = refl
  nest_same (suc n) h =
      ap₂ (λ e d. if by_thread t is_begin e then d + 1 else if by_thread t is_end e then d - 1 else d) (read_same n (h n (omega arith))) (nest_same n (fewer n h))

  pub latest_same : (level n : ℕ) → SameUpTo n → is_latest_exempt a t level n ≡ is_latest_exempt b t level n
  latest_same level zero h = refl
  latest_same level (suc n) h =
      let here = h n (omega arith) in
      let test = ap₂ (λ e d. by_thread t is_begin e && (d == level)) (read_same n here) (nest_same n (fewer n h)) in
      ap₂ (λ c o. if c then is_marked o else is_latest_exempt a t level n) test here
      ∙ ap (λ r. if by_thread t is_begin (slice_get (read_events b) n) && (nest b t n == level) then is_marked (slice_get b n) else r) (latest_same level n (fewer n h))

pub taken_same : (h : List Marked) (n : ℕ) → SameUpTo (take n h) h 0 n
taken_same h n i l = slice_get-take h n i l

-- how the depth is counted
pub same_below : (f g : ℕ → Bool) (m : ℕ) → ((u : ℕ) → u < m → f u ≡ g u) → count_below f m ≡ count_below g m
same_below f g zero h = refl
same_below f g (suc m) h =
    ap₂ (λ b c. if b then c + 1 else c) (h m (omega arith)) (same_below f g m (λ u l. h u (omega arith)))

module _ (h : List Marked) (t : ℕ) where
  -- the open block at this level isn't exempt, before place n
  abbrev pub counts_at : ℕ → ℕ → Bool
  counts_at n k = not (is_latest_exempt h t k n)

  abbrev Counted : ℕ → Type 0
  Counted n = depth (judged_trace h) t n ≡ count_below (counts_at n) (nest h t n)

  -- what place n does
  module _ (n : ℕ) (m : Marked) (at : slice_get h n ≡ Some m) where
    pub within : n < length h
    within = slice_get_within h n m at

    read_here : slice_get (read_events h) n ≡ Some m.event
    read_here = read_at h n ∙ ap (option_map (λ x. x.event)) at

    judged_here : slice_get (judged_trace h) n ≡ Some (judged (take n h) m)
    judged_here = judged_at h n ∙ ap (option_map (judged (take n h))) at

    pub nest_next : nest h t (suc n) ≡ (if by_thread t is_begin (Some m.event) then nest h t n + 1 else if by_thread t is_end (Some m.event) then nest h t n - 1 else nest h t n)
    nest_next = ap (λ e. if by_thread t is_begin e then nest h t n + 1 else if by_thread t is_end e then nest h t n - 1 else nest h t n) read_here

    depth_next : (w : What) → (judged (take n h) m).what ≡ w → depth (judged_trace h) t (suc n) ≡ (if (m.event.thread == t) && is_begin w then depth (judged_trace h) t n + 1 else if (m.event.thread == t) && is_end w then depth (judged_trace h) t n - 1 else depth (judged_trace h) t n)
    depth_next w is =
        ap (λ e. if by_thread t is_begin e then depth (judged_trace h) t n + 1 else if by_thread t is_end e then depth (judged_trace h) t n - 1 else depth (judged_trace h) t n) judged_here
        ∙ ap (λ v. if (m.event.thread == t) && is_begin v then depth (judged_trace h) t n + 1 else if (m.event.thread == t) && is_end v then depth (judged_trace h) t n - 1 else depth (judged_trace h) t n) is

    pub latest_next : (k : ℕ) → is_latest_exempt h t k (suc n) ≡ (if by_thread t is_begin (Some m.event) && (nest h t n == k) then m.exempt else is_latest_exempt h t k n)
    latest_next k = ap₂ (λ e o. if by_thread t is_begin e && (nest h t n == k) then is_marked o else is_latest_exempt h t k n) read_here at

    -- where no begin of the thread stands here, each level stays as it was
    latest_stays : by_thread t is_begin (Some m.event) ≡ false → (k : ℕ) → counts_at (suc n) k ≡ counts_at n k
    latest_stays none_begins k = ap not (latest_next k ∙ cond-false (by_thread t is_begin (Some m.event) && (nest h t n == k)) m.exempt (is_latest_exempt h t k n) (and_left (by_thread t is_begin (Some m.event)) (nest h t n == k) none_begins))

    -- another thread's event, or one that is neither begin nor end
    still : (w : What) → (judged (take n h) m).what ≡ w → ((m.event.thread == t) && is_begin w) ≡ false → ((m.event.thread == t) && is_end w) ≡ false → by_thread t is_begin (Some m.event) ≡ false → by_thread t is_end (Some m.event) ≡ false → Counted n → Counted (suc n)
    still w is no_begin no_end nb ne before =
        depth_next w is
        ∙ cond-false ((m.event.thread == t) && is_begin w) (depth (judged_trace h) t n + 1) (if (m.event.thread == t) && is_end w then depth (judged_trace h) t n - 1 else depth (judged_trace h) t n) no_begin
        ∙ cond-false ((m.event.thread == t) && is_end w) (depth (judged_trace h) t n - 1) (depth (judged_trace h) t n) no_end
        ∙ before
        ∙ same_below (counts_at n) (counts_at (suc n)) (nest h t n) (λ u l. sym (latest_stays nb u))
        ∙ ap (count_below (counts_at (suc n))) (sym same_nest)
      where
        same_nest : nest h t (suc n) ≡ nest h t n
        same_nest =
            nest_next
            ∙ cond-false (by_thread t is_begin (Some m.event)) (nest h t n + 1) (if by_thread t is_end (Some m.event) then nest h t n - 1 else nest h t n) nb
            ∙ cond-false (by_thread t is_end (Some m.event)) (nest h t n - 1) (nest h t n) ne

    -- a begin of the thread
    module _ (label : Option ℕ) (own : (m.event.thread == t) ≡ true) (what : m.event.what ≡ Begin label) where
      begins : by_thread t is_begin (Some m.event) ≡ true
      begins = and_from (m.event.thread == t) (is_begin m.event.what) own (ap is_begin what)

      pub deeper : nest h t (suc n) ≡ suc (nest h t n)
      deeper = let more = nest_next ∙ cond-true (by_thread t is_begin (Some m.event)) (nest h t n + 1) (if by_thread t is_end (Some m.event) then nest h t n - 1 else nest h t n) begins in omega arith

      top_is : counts_at (suc n) (nest h t n) ≡ not m.exempt
      top_is =
          let here = and_from (by_thread t is_begin (Some m.event)) (nest h t n == nest h t n) begins (eq-eqb (nest h t n) (nest h t n) refl) in
          ap not (latest_next (nest h t n) ∙ cond-true (by_thread t is_begin (Some m.event) && (nest h t n == nest h t n)) m.exempt (is_latest_exempt h t (nest h t n) n) here)

      lower_stay : (k : ℕ) → k < nest h t n → counts_at n k ≡ counts_at (suc n) k
      lower_stay k l =
          let other = and_right (by_thread t is_begin (Some m.event)) (nest h t n == k) (ne_eqb (nest h t n) k (omega arith)) in
          sym (ap not (latest_next k ∙ cond-false (by_thread t is_begin (Some m.event) && (nest h t n == k)) m.exempt (is_latest_exempt h t k n) other))

      count_next : count_below (counts_at (suc n)) (nest h t (suc n)) ≡ (if not m.exempt then count_below (counts_at n) (nest h t n) + 1 else count_below (counts_at n) (nest h t n))
      count_next =
          ap (count_below (counts_at (suc n))) deeper
          ∙ ap₂ (λ b c. if b then c + 1 else c) top_is (sym (same_below (counts_at n) (counts_at (suc n)) (nest h t n) lower_stay))

      depth_begun : (b : Bool) → m.exempt ≡ b → depth (judged_trace h) t (suc n) ≡ (if not b then depth (judged_trace h) t n + 1 else depth (judged_trace h) t n)
      depth_begun true is =
          depth_next Exempt (ap₂ (λ e w. judged_what (take n h) m.event.thread e w) is what)
          ∙ cond-false ((m.event.thread == t) && false) (depth (judged_trace h) t n + 1) (if (m.event.thread == t) && false then depth (judged_trace h) t n - 1 else depth (judged_trace h) t n) (and_right (m.event.thread == t) false refl)
          ∙ cond-false ((m.event.thread == t) && false) (depth (judged_trace h) t n - 1) (depth (judged_trace h) t n) (and_right (m.event.thread == t) false refl)
      depth_begun false is =
          depth_next (Begin None) (ap₂ (λ e w. judged_what (take n h) m.event.thread e w) is what)
          ∙ cond-true ((m.event.thread == t) && true) (depth (judged_trace h) t n + 1) (if (m.event.thread == t) && false then depth (judged_trace h) t n - 1 else depth (judged_trace h) t n) (and_from (m.event.thread == t) true own refl)

      begun : Counted n → Counted (suc n)
      begun before =
          depth_begun m.exempt refl
          ∙ ap (λ d. if not m.exempt then d + 1 else d) before
          ∙ sym count_next

    -- an end of the thread
    module _ (own : (m.event.thread == t) ≡ true) (what : m.event.what ≡ End) where
      no_begin : by_thread t is_begin (Some m.event) ≡ false
      no_begin = and_right (m.event.thread == t) (is_begin m.event.what) (ap is_begin what)

      pub shallower : nest h t (suc n) ≡ nest h t n - 1
      shallower =
          nest_next
          ∙ cond-false (by_thread t is_begin (Some m.event)) (nest h t n + 1) (if by_thread t is_end (Some m.event) then nest h t n - 1 else nest h t n) no_begin
          ∙ cond-true (by_thread t is_end (Some m.event)) (nest h t n - 1) (nest h t n) (and_from (m.event.thread == t) (is_end m.event.what) own (ap is_end what))

      abbrev pub ends_here : Bool
      ends_here = nat_lt 0 (nest h t n) && is_latest_exempt h t (nest h t n - 1) n

      pub ends_is : ends_exempt (take n h) m.event.thread ≡ ends_here
      ends_is =
          let long : length (take n h) ≡ n = length-take_at h n (let l = within in omega arith) in
          let same = eqb-true m.event.thread t own in
          ap (ends_exempt (take n h)) same
          ∙ ap (λ k. nat_lt 0 (nest (take n h) t k) && is_latest_exempt (take n h) t (nest (take n h) t k - 1) k) long
          ∙ ap (λ d. nat_lt 0 d && is_latest_exempt (take n h) t (d - 1) n) (nest_same (take n h) h t n (taken_same h n))
          ∙ ap (λ b. nat_lt 0 (nest h t n) && b) (latest_same (take n h) h t (nest h t n - 1) n (taken_same h n))

      depth_ended : (b : Bool) → ends_here ≡ b → depth (judged_trace h) t (suc n) ≡ (if b then depth (judged_trace h) t n else depth (judged_trace h) t n - 1)
      depth_ended true is =
          depth_next Exempt (ap (λ w. judged_what (take n h) m.event.thread m.exempt w) what ∙ ap (λ b. if b then Exempt else End) (ends_is ∙ is))
          ∙ cond-false ((m.event.thread == t) && false) (depth (judged_trace h) t n + 1) (if (m.event.thread == t) && false then depth (judged_trace h) t n - 1 else depth (judged_trace h) t n) (and_right (m.event.thread == t) false refl)
          ∙ cond-false ((m.event.thread == t) && false) (depth (judged_trace h) t n - 1) (depth (judged_trace h) t n) (and_right (m.event.thread == t) false refl)
      depth_ended false is =
          depth_next End (ap (λ w. judged_what (take n h) m.event.thread m.exempt w) what ∙ ap (λ b. if b then Exempt else End) (ends_is ∙ is))
          ∙ cond-false ((m.event.thread == t) && false) (depth (judged_trace h) t n + 1) (if (m.event.thread == t) && true then depth (judged_trace h) t n - 1 else depth (judged_trace h) t n) (and_right (m.event.thread == t) false refl)
          ∙ cond-true ((m.event.thread == t) && true) (depth (judged_trace h) t n - 1) (depth (judged_trace h) t n) (and_from (m.event.thread == t) true own refl)

      count_ended : (d : ℕ) (f : ℕ → Bool) → (if nat_lt 0 d && not (f (d - 1)) then count_below f d else count_below f d - 1) ≡ count_below f (d - 1)
      count_ended zero f = refl
      count_ended (suc d) f =
          ap₂ (λ b k. if b && not (f k) then count_below f (suc d) else count_below f (suc d) - 1) (lt-ltb 0 (suc d) (omega arith)) less ∙ go (f d) refl ∙ ap (count_below f) (sym less)
        where
          less : suc d - 1 ≡ d
          less = omega arith

          go : (b : Bool) → f d ≡ b → (if not (f d) then count_below f (suc d) else count_below f (suc d) - 1) ≡ count_below f d
          go true is =
              cond-false (not (f d)) (count_below f (suc d)) (count_below f (suc d) - 1) (ap not is)
              ∙ ap (λ c. c - 1) (cond-true (f d) (count_below f d + 1) (count_below f d) is)
              ∙ (omega arith)
          go false is =
              cond-true (not (f d)) (count_below f (suc d)) (count_below f (suc d) - 1) (ap not is)
              ∙ cond-false (f d) (count_below f d + 1) (count_below f d) is

      twice : (b : Bool) → not (not b) ≡ b
      twice true = refl
      twice false = refl

      ended : Counted n → Counted (suc n)
      ended before =
          depth_ended ends_here refl
          ∙ ap (λ d. if ends_here then d else d - 1) before
          ∙ ap (λ b. if nat_lt 0 (nest h t n) && b then count_below (counts_at n) (nest h t n) else count_below (counts_at n) (nest h t n) - 1) (sym (twice (is_latest_exempt h t (nest h t n - 1) n)))
          ∙ count_ended (nest h t n) (counts_at n)
          ∙ same_below (counts_at n) (counts_at (suc n)) (nest h t n - 1) (λ u l. sym (latest_stays no_begin u))
          ∙ ap (count_below (counts_at (suc n))) (sym shallower)

    other_deed : (w : What) → m.event.what ≡ w → is_begin w ≡ false → is_end w ≡ false → judged_what (take n h) m.event.thread m.exempt w ≡ w → Counted n → Counted (suc n)
    other_deed w is nb ne judges =
        still w (ap (judged_what (take n h) m.event.thread m.exempt) is ∙ judges)
        (and_right (m.event.thread == t) (is_begin w) nb)
        (and_right (m.event.thread == t) (is_end w) ne)
        (and_right (m.event.thread == t) (is_begin m.event.what) (ap is_begin is ∙ nb))
        (and_right (m.event.thread == t) (is_end m.event.what) (ap is_end is ∙ ne))

    by_other : (m.event.thread == t) ≡ false → Counted n → Counted (suc n)
    by_other other =
        still (judged (take n h) m).what refl
        (and_left (m.event.thread == t) (is_begin (judged (take n h) m).what) other)
        (and_left (m.event.thread == t) (is_end (judged (take n h) m).what) other)
        (and_left (m.event.thread == t) (is_begin m.event.what) other)
        (and_left (m.event.thread == t) (is_end m.event.what) other)

    by_own : (m.event.thread == t) ≡ true → (w : What) → m.event.what ≡ w → Counted n → Counted (suc n)
    by_own own (Begin label) is = begun label own is
    by_own own End is = ended own is
    by_own own (Read x) is = other_deed (Read x) is refl refl refl
    by_own own (Write x) is = other_deed (Write x) is refl refl refl
    by_own own (Acquire x) is = other_deed (Acquire x) is refl refl refl
    by_own own (Release x) is = other_deed (Release x) is refl refl refl
    by_own own (Fork x) is = other_deed (Fork x) is refl refl refl
    by_own own (Join x) is = other_deed (Join x) is refl refl refl
    by_own own Exempt is = other_deed Exempt is refl refl refl

    counted_next : Counted n → Counted (suc n)
    counted_next before = elim (cases_Bool (m.event.thread == t)) [ inl own ↦ by_own own m.event.what refl before | inr other ↦ by_other other before ]

  nothing_there : (n : ℕ) → slice_get h n ≡ None → Counted n → Counted (suc n)
  nothing_there n at before =
      let read = read_at h n ∙ ap (option_map (λ x. x.event)) at in
      let judged_none = judged_at h n ∙ ap (option_map (judged (take n h))) at in
      let stays : (k : ℕ) → counts_at n k ≡ counts_at (suc n) k = λ k. sym (ap₂ (λ e o. not (if by_thread t is_begin e && (nest h t n == k) then is_marked o else is_latest_exempt h t k n)) read at) in
      ap (λ e. if by_thread t is_begin e then depth (judged_trace h) t n + 1 else if by_thread t is_end e then depth (judged_trace h) t n - 1 else depth (judged_trace h) t n) judged_none
      ∙ before
      ∙ same_below (counts_at n) (counts_at (suc n)) (nest h t n) (λ u l. stays u)
      ∙ ap (count_below (counts_at (suc n))) (sym (ap (λ e. if by_thread t is_begin e then nest h t n + 1 else if by_thread t is_end e then nest h t n - 1 else nest h t n) read))

  -- at each place the depth in the judged trace counts the open blocks that aren't exempt
  pub judged_depth_at : (n : ℕ) → depth (judged_trace h) t n ≡ count_below (λ k. not (is_latest_exempt h t k n)) (nest h t n)
  judged_depth_at zero = refl
  judged_depth_at (suc n) = go (slice_get h n) refl (judged_depth_at n)
    where
      go : (o : Option Marked) → slice_get h n ≡ o → Counted n → Counted (suc n)
      go None at before = nothing_there n at before
      go (Some m) at before = counted_next n m at before

  pub judged_depth : depth (judged_trace h) t (length h) ≡ count_below (λ k. not (is_latest_exempt h t k (length h))) (nest h t (length h))
  judged_depth = judged_depth_at (length h)

-- an event without a fault has none as it is judged
no_fault : (b : Bool) (f : ShapeFault) (o : Option ShapeFault) → (if b then Some f else o) ≡ None → (b ≡ false) × (o ≡ None)
no_fault true f o e = absurd (cc)
no_fault false f o e = (refl, e)

-- the outermost open block counts in the depth, if it isn't exempt
some_open : (d : ℕ) (f : ℕ → Bool) → (d == 0) ≡ false → (nat_lt 0 d && not (f (d - 1))) ≡ false → (count_below f d == 0) ≡ false
some_open zero f some is = absurd (cc)
some_open (suc d) f some is = go (f d) refl
  where
    less : suc d - 1 ≡ d
    less = omega arith

    last : not (f d) ≡ false
    last = sym (ap₂ (λ b k. b && not (f k)) (lt-ltb 0 (suc d) (omega arith)) less) ∙ is

    go : (b : Bool) → f d ≡ b → (count_below f (suc d) == 0) ≡ false
    go true at = ne_eqb (count_below f (suc d)) 0 (let one = cond-true (f d) (count_below f d + 1) (count_below f d) at in omega arith)
    go false at = absurd (both_ways (not (f d)) last (ap not at))

module _ (h : List Marked) (t : ℕ) (exempt : Bool) where
  begin_fits : (b : Bool) → deed_fault (judged_trace h) t (if b then Exempt else Begin None) ≡ None
  begin_fits true = refl
  begin_fits false = refl

  end_fits : (b : Bool) → ends_exempt h t ≡ b → deed_fault (read_events h) t End ≡ None → deed_fault (judged_trace h) t (if b then Exempt else End) ≡ None
  end_fits true is fits = refl
  end_fits false is fits =
      let open_read = (no_fault (depth (read_events h) t (length (read_events h)) == 0) EndWithoutBegin None fits).0 in
      let nested : (nest h t (length h) == 0) ≡ false = ap (λ n. nest h t n == 0) (sym (read_length h)) ∙ open_read in
      let twice : (b : Bool) → not (not b) ≡ b = λ b. elim (cases_Bool b) [ inl e ↦ ap (λ c. not (not c)) e ∙ sym e | inr e ↦ ap (λ c. not (not c)) e ∙ sym e ] in
      let last : (nat_lt 0 (nest h t (length h)) && not (not (is_latest_exempt h t (nest h t (length h) - 1) (length h)))) ≡ false = ap (λ b. nat_lt 0 (nest h t (length h)) && b) (twice (is_latest_exempt h t (nest h t (length h) - 1) (length h))) ∙ is in
      let deep = some_open (nest h t (length h)) (λ k. not (is_latest_exempt h t k (length h))) nested last in
      let same = ap (depth (judged_trace h) t) (judged_length h) ∙ judged_depth h t in
      ap (λ d. if d == 0 then Some EndWithoutBegin else None) same ∙ cond-false (count_below (λ k. not (is_latest_exempt h t k (length h))) (nest h t (length h)) == 0) (Some EndWithoutBegin) None deep

-- the fault of an event is that of the event as it is judged
module _ (h : List Marked) (t : ℕ) (exempt : Bool) where
  no_end_fault : (n : ℕ) → nat_lt 0 n ≡ true → None ≡ (if n == 0 then Some EndWithoutBegin else None)
  no_end_fault n some = sym (cond-false (n == 0) (Some EndWithoutBegin) None (ne_eqb n 0 (let l = ltb-true 0 n some in omega arith)))

  end_same : (b : Bool) → ends_exempt h t ≡ b → deed_fault (judged_trace h) t (if b then Exempt else End) ≡ deed_fault (read_events h) t End
  end_same true is =
      let some = and_parts (nat_lt 0 (nest h t (length h))) (is_latest_exempt h t (nest h t (length h) - 1) (length h)) is in
      no_end_fault (nest h t (length h)) some.0 ∙ ap (λ n. if nest h t n == 0 then Some EndWithoutBegin else None) (sym (read_length h))
  end_same false is = elim (cases_Bool (depth (read_events h) t (length (read_events h)) == 0)) [
    | inl none ↦
        let outside : nest h t (length h) ≡ 0 = ap (nest h t) (sym (read_length h)) ∙ eqb-true (depth (read_events h) t (length (read_events h))) 0 none in
        let no_depth : depth (judged_trace h) t (length (judged_trace h)) ≡ 0 = ap (depth (judged_trace h) t) (judged_length h) ∙ judged_depth h t ∙ ap (count_below (λ k. not (is_latest_exempt h t k (length h)))) outside in
        ap (λ d. if d == 0 then Some EndWithoutBegin else None) no_depth
        ∙ sym (cond-true (depth (read_events h) t (length (read_events h)) == 0) (Some EndWithoutBegin) None none)
    | inr some ↦
        let fits = cond-false (depth (read_events h) t (length (read_events h)) == 0) (Some EndWithoutBegin) None some in
        end_fits h t exempt false is fits ∙ sym fits
  ]

  deed_same : (w : What) → deed_fault (judged_trace h) t (judged_what h t exempt w) ≡ deed_fault (read_events h) t w
  deed_same (Begin label) = begin_fits h t exempt exempt
  deed_same End = end_same (ends_exempt h t) refl
  deed_same (Acquire l) = ap (λ b. if b then Some LockHeldByOther else None) (judged_held_by_other h t l)
  deed_same (Release l) = ap (λ n. if n == 0 then Some LockNotHeld else None) (judged_held h t l)
  deed_same (Fork u) = ap (λ b. if u == t then Some ForkSelf else if b then Some ForkStarted else None) (judged_started h u)
  deed_same (Join u) = refl
  deed_same _ = refl

pub judged_fault : (h : List Marked) (m : Marked) → shape_fault (judged_trace h) (judged h m) ≡ shape_fault (read_events h) m.event
judged_fault h m =
    ap₂ (λ b o. if b then Some ThreadJoined else o) (judged_joined h m.event.thread) (deed_same h m.event.thread m.exempt m.event.what)

pub judged_fits : (h : List Marked) (m : Marked) → shape_fault (read_events h) m.event ≡ None → shape_fault (judged_trace h) (judged h m) ≡ None
judged_fits h m fits = judged_fault h m ∙ fits

nothing_there_is : (e : Numbered) → None ≡ Some e → ⊥
nothing_there_is e x = cc

-- the judged trace is well-formed where the one that was read is
pub judged_well_formed : (h : List Marked) → IsWellFormed (read_events h) → IsWellFormed (judged_trace h)
judged_well_formed h ok n e at = go (slice_get h n) refl
  where
    go : (o : Option Marked) → slice_get h n ≡ o → shape_fault (take n (judged_trace h)) e ≡ None
    go None none = absurd (nothing_there_is e (sym (judged_at h n ∙ ap (option_map (judged (take n h))) none) ∙ at))
    go (Some m) some =
        let same : judged (take n h) m ≡ e = same_Some (judged (take n h) m) e (sym (judged_at h n ∙ ap (option_map (judged (take n h))) some) ∙ at) in
        let fits = ap (λ before. shape_fault before m.event) (sym (read_taken h n)) ∙ ok n m.event (read_at h n ∙ ap (option_map (λ x. x.event)) some) in
        ap₂ shape_fault (judged_taken h n) (sym same) ∙ judged_fits (take n h) m fits

-- where no event is exempt

is_none_exempt : (h : List Marked) (n : ℕ) → list_any (λ m. m.exempt) h ≡ false → is_marked (slice_get h n) ≡ false
is_none_exempt [] n none = refl
is_none_exempt (x ∷ h) zero none = (or_parts x.exempt (list_any (λ m. m.exempt) h) none).0
is_none_exempt (x ∷ h) (suc n) none = is_none_exempt h n (or_parts x.exempt (list_any (λ m. m.exempt) h) none).1

latest_none : (h : List Marked) → list_any (λ m. m.exempt) h ≡ false → (t level n : ℕ) → is_latest_exempt h t level n ≡ false
latest_none h none t level zero = refl
latest_none h none t level (suc n) = go (by_thread t is_begin (slice_get (read_events h) n) && (nest h t n == level)) (latest_none h none t level n)
  where
    go : (b : Bool) → is_latest_exempt h t level n ≡ false → (if b then is_marked (slice_get h n) else is_latest_exempt h t level n) ≡ false
    go true before = is_none_exempt h n none
    go false before = before

judged_plainly : (before : List Marked) (t : ℕ) (exempt : Bool) (w : What) → list_any (λ m. m.exempt) before ≡ false → exempt ≡ false → judged_what before t exempt w ≡ without_label w
judged_plainly before t exempt (Begin label) none plain = cond-false exempt Exempt (Begin None) plain
judged_plainly before t exempt End none plain =
    cond-false (ends_exempt before t) Exempt End (and_right (nat_lt 0 (nest before t (length before))) (is_latest_exempt before t (nest before t (length before) - 1) (length before)) (latest_none before none t (nest before t (length before) - 1) (length before)))
judged_plainly before t exempt _ none plain = refl

after_plainly : (before h : List Marked) → list_any (λ m. m.exempt) before ≡ false → list_any (λ m. m.exempt) h ≡ false → judged_after before h ≡ map unlabelled (read_events h)
after_plainly before [] none plain = refl
after_plainly before (x ∷ h) none plain =
    let parts = or_parts x.exempt (list_any (λ m. m.exempt) h) plain in
    let one : list_any (λ m. m.exempt) (x ∷ []) ≡ false = or_from x.exempt false parts.0 refl in
    let both : list_any (λ m. m.exempt) (before ++ x ∷ []) ≡ false = list_any-append (λ (m : Marked). m.exempt) before (x ∷ []) ∙ or_from (list_any (λ m. m.exempt) before) (list_any (λ m. m.exempt) (x ∷ [])) none one in
    let first : judged before x ≡ unlabelled x.event = ap (λ w. record { thread = x.event.thread; what = w }) (judged_plainly before x.event.thread x.exempt x.event.what none parts.0) in
    ap₂ (λ e more. e ∷ more) first (after_plainly (before ++ x ∷ []) h both parts.1)

pub judged_none_exempt : (h : List Marked) → list_any (λ m. m.exempt) h ≡ false → judged_trace h ≡ map unlabelled (read_events h)
judged_none_exempt h none = after_plainly [] h refl none

-- the marks leave the events as they are
marked_events : (listed : Listed) (tables : Tables) (events : List Named) → read_events (map (marked listed tables) events) ≡ map (numbered tables) events
marked_events listed tables [] = refl
marked_events listed tables (e ∷ events) = ap (λ more. numbered tables e ∷ more) (marked_events listed tables events)

pub read_marked : (listed : Listed) (events : List Named) → read_events (marked_trace listed events) ≡ trace_of events
read_marked listed events = marked_events listed (tables_of events) events
