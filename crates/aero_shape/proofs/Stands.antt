-- Tables that stand for a list of events stand, after one more, for the list with that event at its end.
use Rattle.std.proofs.Common.{◌≡◌, ◌≢◌, ◌⊎◌, ℕ, ◌+◌, ◌-◌, ◌<◌, ◌≤◌, ◌==◌, ◌&&◌, ◌||◌, nat_lt, not, Bool, true, false, cond, if◌then◌else◌, List, [], ◌∷◌, ◌++◌, length, take, Option, Some, None, inl, inr, refl, sym, ◌∙◌, ap, ap₂, subst, arith}
use Rattle.std.proofs.lemmas.Bool.{cases_Bool, cases_eq, cases_lt, and_from, and_left, and_right, eq-eqb, ne_eqb, eqb-true, not_from_false, lt-ltb, both_ways, or_from, or_cases, cond-true, cond-false}
use Rattle.std.proofs.lemmas.List.{get_or_past}
use Rattle.aero_model.specs.declared.numbered.Numbered.{Numbered}
use Rattle.aero_model.specs.declared.numbered.What.{What}
use Rattle.aero_model.specs.declared.numbered.What.TheVariants.{Acquire, Release, Fork, Join, Begin, End}
use Rattle.aero_model.specs.declared.verdict.ShapeFault.{ShapeFault}
use Rattle.aero_model.specs.declared.verdict.ShapeFault.TheVariants.{ThreadJoined, LockHeldByOther, LockNotHeld}
use Rattle.aero_model.specs.Blocks.{is_begin, is_end, by_thread, depth}
use Rattle.aero_model.specs.Shape.{is_acquire_of, is_release_of, is_fork_of, is_join_of, held, is_held_by_other, has_acted, was_forked, was_joined, has_started, deed_fault, shape_fault}
use Rattle.aero_model.proofs.Locks.{acquire_is, release_is}
use Rattle.aero_shape.specs.declared.states.LockState.{LockState}
use Rattle.aero_shape.specs.States.{Tables, idle, thread_at, lock_at, around_at, around_after, lock_after, HasThreadPlace, HasLockPlace, HavePlaces}
use Rattle.aero_shape.specs.Told.{is_kept_from, fault_told, kind_told, is_last, exempt_told, judged_told}
use Rattle.aero_shape.proofs.Traces.{StandsForTrace, of_judged, of_read, read_well_formed}
use Rattle.aero_shape.proofs.Rounds.{judged_is_told, end_told, exempt_is, rounds_pushed}
use Rattle.aero_model.specs.Exempt.{Marked, read_events, judged, judged_trace}
use Rattle.aero_model.proofs.Exempt.{judged_pushed, judged_fault}
use Rattle.aero_shape.specs.Admission.{admitted_as}
use Rattle.aero_shape.specs.Standing.{StandsFor, begins_exempt, rounds, was_locked, ReachesThread, ReachesLock, ReachesTarget, Reaches}
use Rattle.aero_shape.proofs.Pushed.{or_false, length_pushed, depth_pushed, any_pushed, count_pushed, well_formed_pushed, paired}
use Rattle.aero_shape.proofs.Told.{kept_told, fault_is_told, kind_is_told}
use Rattle.aero_shape.proofs.Changes.{IsAfter, depth_after, acted_after, forked_after, joined_after, lock_stays}

-- how often the thread holds the lock
abbrev holding : ℕ → LockState → ℕ
holding t lock = if lock.holder == t then lock.count else 0

fault_free : (b : Bool) (f : ShapeFault) (o : Option ShapeFault) → (if b then Some f else o) ≡ None → (b ≡ false) × (o ≡ None)
fault_free true f o e = absurd (cc)
fault_free false f o e = (refl, e)

module _ (tables : Tables) (h : List Numbered) (s : StandsForTrace tables h) (e : Numbered) (fits : shape_fault h e ≡ None) (t l : ℕ) where
  abbrev lock : LockState
  lock = lock_at tables.locks l

  abbrev acquires : Numbered → Bool
  acquires f = (f.thread == t) && is_acquire_of l f.what

  abbrev releases : Numbered → Bool
  releases f = (f.thread == t) && is_release_of l f.what

  abbrev HoldsAfter : Type 0
  HoldsAfter = held (h ++ e ∷ []) t l ≡ holding t (lock_after l e.thread e.what lock)

  -- the event is no acquire and no release of the lock by the thread
  held_stays : acquires e ≡ false → releases e ≡ false → held (h ++ e ∷ []) t l ≡ held h t l
  held_stays a r =
      let no_acquire : cond {A = ℕ} (acquires e) 1 0 ≡ 0 = ap (λ b. cond {A = ℕ} b 1 0) a in
      let no_release : cond {A = ℕ} (releases e) 1 0 ≡ 0 = ap (λ b. cond {A = ℕ} b 1 0) r in
      omega (arith, count_pushed h e acquires, count_pushed h e releases)

  held_by_same : acquires e ≡ true → releases e ≡ false → held (h ++ e ∷ []) t l ≡ held h t l + 1
  held_by_same a r =
      let one : cond {A = ℕ} (acquires e) 1 0 ≡ 1 = ap (λ b. cond {A = ℕ} b 1 0) a in
      let none : cond {A = ℕ} (releases e) 1 0 ≡ 0 = ap (λ b. cond {A = ℕ} b 1 0) r in
      omega (arith, count_pushed h e acquires, count_pushed h e releases, paired h s.well_formed t l)

  let_go : acquires e ≡ false → releases e ≡ true → held (h ++ e ∷ []) t l ≡ held h t l - 1
  let_go a r =
      let none : cond {A = ℕ} (acquires e) 1 0 ≡ 0 = ap (λ b. cond {A = ℕ} b 1 0) a in
      let one : cond {A = ℕ} (releases e) 1 0 ≡ 1 = ap (λ b. cond {A = ℕ} b 1 0) r in
      omega (arith, count_pushed h e acquires, count_pushed h e releases)

  deed_fits : (w : What) → e.what ≡ w → deed_fault h e.thread w ≡ None
  deed_fits w at = ap (deed_fault h e.thread) (sym at) ∙ (fault_free (was_joined h e.thread) ThreadJoined (deed_fault h e.thread e.what) fits).1

  -- no other thread holds a lock that is acquired
  unkept : e.what ≡ Acquire l → is_kept_from e.thread lock ≡ false
  unkept at = kept_told tables h s e.thread l ∙ (fault_free (is_held_by_other h e.thread l) LockHeldByOther None (deed_fits (Acquire l) at)).0

  count_free : e.what ≡ Acquire l → lock.holder ≢ e.thread → lock.count ≡ 0
  count_free at other =
      elim (cases_lt 0 lock.count) [
        | inl some ↦ absurd (both_ways (is_kept_from e.thread lock) (unkept at) (and_from (not (lock.holder == e.thread)) (nat_lt 0 lock.count) (not_from_false (lock.holder == e.thread) (ne_eqb lock.holder e.thread other)) (lt-ltb 0 lock.count some)))
        | inr none ↦ omega arith
      ]

  -- a thread that releases the lock is its holder
  is_holder : e.what ≡ Release l → lock.holder ≡ e.thread
  is_holder at =
      let some = (fault_free (held h e.thread l == 0) LockNotHeld None (deed_fits (Release l) at)).0 in
      elim (cases_Bool (lock.holder == e.thread)) [
        | inl same ↦ eqb-true lock.holder e.thread same
        | inr other ↦ absurd (both_ways (held h e.thread l == 0) some (eq-eqb (held h e.thread l) 0 (s.held l e.thread ∙ cond-false (lock.holder == e.thread) lock.count 0 other)))
      ]

  holds_none : lock.holder ≢ t → held h t l ≡ 0
  holds_none other = s.held l t ∙ cond-false (lock.holder == t) lock.count 0 (ne_eqb lock.holder t other)

  holds_all : lock.holder ≡ t → held h t l ≡ lock.count
  holds_all same = s.held l t ∙ cond-true (lock.holder == t) lock.count 0 (eq-eqb lock.holder t same)

  acquired : e.what ≡ Acquire l → HoldsAfter
  acquired at = elim (cases_eq e.thread t) [ inl same ↦ by_it same ∙ sym (reads ∙ cond-true (e.thread == t) (lock.count + 1) 0 (eq-eqb e.thread t same)) | inr other ↦ by_another other ∙ sym (reads ∙ cond-false (e.thread == t) (lock.count + 1) 0 (ne_eqb e.thread t other)) ]
    where
      reads : holding t (lock_after l e.thread e.what lock) ≡ (if e.thread == t then lock.count + 1 else 0)
      reads =
          ap (holding t) (ap (λ w. lock_after l e.thread w lock) at ∙ cond-true (l == l) (record { holder = e.thread; count = lock.count + 1 }) lock (eq-eqb l l refl))

      no_release : releases e ≡ false
      no_release = and_right (e.thread == t) (is_release_of l e.what) (ap (is_release_of l) at)

      counted : e.thread ≡ t → held h t l ≡ lock.count
      counted same =
          elim (cases_eq lock.holder t) [
            | inl holder ↦ holds_all holder
            | inr other ↦ holds_none other ∙ sym (count_free at (λ x. other (x ∙ same)))
          ]

      by_it : e.thread ≡ t → held (h ++ e ∷ []) t l ≡ lock.count + 1
      by_it same =
          let acquires_it = and_from (e.thread == t) (is_acquire_of l e.what) (eq-eqb e.thread t same) (ap (is_acquire_of l) at ∙ eq-eqb l l refl) in
          held_by_same acquires_it no_release ∙ ap (λ n. n + 1) (counted same)

      by_another : e.thread ≢ t → held (h ++ e ∷ []) t l ≡ 0
      by_another other =
          held_stays (and_left (e.thread == t) (is_acquire_of l e.what) (ne_eqb e.thread t other)) no_release
          ∙ elim (cases_eq lock.holder t) [
            | inl holder ↦ holds_all holder ∙ count_free at (λ x. other (sym x ∙ holder))
            | inr apart ↦ holds_none apart
          ]

  released : e.what ≡ Release l → HoldsAfter
  released at = elim (cases_eq lock.holder t) [ inl holder ↦ by_it holder ∙ sym (reads ∙ cond-true (lock.holder == t) (lock.count - 1) 0 (eq-eqb lock.holder t holder)) | inr other ↦ by_another other ∙ sym (reads ∙ cond-false (lock.holder == t) (lock.count - 1) 0 (ne_eqb lock.holder t other)) ]
    where
      reads : holding t (lock_after l e.thread e.what lock) ≡ (if lock.holder == t then lock.count - 1 else 0)
      reads =
          ap (holding t) (ap (λ w. lock_after l e.thread w lock) at ∙ cond-true (l == l) (record lock { count = lock.count - 1 }) lock (eq-eqb l l refl))

      no_acquire : acquires e ≡ false
      no_acquire = and_right (e.thread == t) (is_acquire_of l e.what) (ap (is_acquire_of l) at)

      by_it : lock.holder ≡ t → held (h ++ e ∷ []) t l ≡ lock.count - 1
      by_it holder =
          let same : e.thread ≡ t = sym (is_holder at) ∙ holder in
          let releases_it = and_from (e.thread == t) (is_release_of l e.what) (eq-eqb e.thread t same) (ap (is_release_of l) at ∙ eq-eqb l l refl) in
          let_go no_acquire releases_it ∙ ap (λ n. n - 1) (holds_all holder)

      by_another : lock.holder ≢ t → held (h ++ e ∷ []) t l ≡ 0
      by_another other =
          held_stays no_acquire (and_left (e.thread == t) (is_release_of l e.what) (ne_eqb e.thread t (λ x. other (is_holder at ∙ x)))) ∙ holds_none other

  other_event : is_acquire_of l e.what ≡ false → is_release_of l e.what ≡ false → HoldsAfter
  other_event a r =
      held_stays (and_right (e.thread == t) (is_acquire_of l e.what) a) (and_right (e.thread == t) (is_release_of l e.what) r)
      ∙ s.held l t
      ∙ sym (ap (holding t) (lock_stays l e.thread e.what lock a r))

  pub held_after : HoldsAfter
  held_after =
      elim (cases_Bool (is_acquire_of l e.what)) [
        | inl a ↦ acquired (acquire_is l e.what a)
        | inr a ↦ elim (cases_Bool (is_release_of l e.what)) [
          | inl r ↦ released (release_is l e.what r)
          | inr r ↦ other_event a r
        ]
      ]

placed : (locks : List LockState) (l : ℕ) (w : What) → HasLockPlace locks w → (is_acquire_of l w || is_release_of l w) ≡ true → l < length locks
placed locks l (Acquire m) place now = let same = eqb-true l m (sym (or_false (l == m)) ∙ now) in omega arith
placed locks l (Release m) place now = let same = eqb-true l m now in omega arith
placed locks l _ place now = absurd (cc)

-- what the tables tell of an event without a fault, they stand for once it is noted
pub stands_after : (old new : Tables) (e : Numbered) → IsAfter old new e → fault_told old.threads old.locks e ≡ None → (h : List Numbered) → StandsForTrace old h → StandsForTrace new (h ++ e ∷ [])
stands_after old new e a none h s =
    record {
      well_formed = well_formed_pushed h e s.well_formed fits;
      admitted = (let one = a.admitted in let all = s.admitted in let more = length_pushed h e in omega arith);
      depth = depths;
      acted = λ t. ap (λ x. x.acted) (a.threads t) ∙ acted_after t e (thread_at old.threads t) ∙ ap (λ b. b || (e.thread == t)) (s.acted t) ∙ sym (any_pushed h e (λ f. f.thread == t));
      forked = λ t. ap (λ x. x.forked) (a.threads t) ∙ forked_after t e (thread_at old.threads t) ∙ ap (λ b. b || is_fork_of t e.what) (s.forked t) ∙ sym (any_pushed h e (λ f. is_fork_of t f.what));
      joined = λ t. ap (λ x. x.joined) (a.threads t) ∙ joined_after t e (thread_at old.threads t) ∙ ap (λ b. b || is_join_of t e.what) (s.joined t) ∙ sym (any_pushed h e (λ f. is_join_of t f.what));
      held = λ l t. held_after old h s e fits t l ∙ sym (ap (holding t) (a.locks l));
      locked = λ l some. lock_placed l (or_cases (was_locked h l) (names l) (sym (any_pushed h e (λ f. is_acquire_of l f.what || is_release_of l f.what)) ∙ some));
    }
  where
    names : ℕ → Bool
    names l = is_acquire_of l e.what || is_release_of l e.what

    lock_placed : (l : ℕ) → (was_locked h l ≡ true) ⊎ (names l ≡ true) → l < length new.locks
    lock_placed l (inl some) = let before = s.locked l some in let grow = a.locks_grow in omega arith
    lock_placed l (inr now) = placed new.locks l e.what a.lock_place now

    fits : shape_fault h e ≡ None
    fits = sym (fault_is_told old h s e) ∙ none

    depths : (t : ℕ) → (thread_at new.threads t).depth ≡ depth (h ++ e ∷ []) t (length (h ++ e ∷ []))
    depths t =
        ap (λ x. x.depth) (a.threads t)
        ∙ depth_after t e (thread_at old.threads t)
        ∙ ap (λ d. if by_thread t is_begin (Some e) then d + 1 else if by_thread t is_end (Some e) then d - 1 else d) (s.depth t)
        ∙ sym (depth_pushed h e t)

-- the same where blocks are exempt, of an event and of what it is judged as
module _ (old new : Tables) (m : Marked) (e : Numbered) where
  abbrev is_exempt_told : Bool
  is_exempt_told = exempt_told old.threads old.exempt m.event.thread m.exempt m.event.what

  pub stands_pushed :
      IsAfter old new e
      → fault_told old.threads old.locks e ≡ None
      → e.thread ≡ m.event.thread
      → e.what ≡ judged_told is_exempt_told m.event.what
      → ((t : ℕ) → around_at new.exempt t ≡ around_after t m.event.thread m.event.what is_exempt_told (thread_at old.threads m.event.thread).depth (around_at old.exempt t))
      → (h : List Marked)
      → StandsFor old h
      → StandsFor new (h ++ m ∷ [])
  stands_pushed a none thread what change h s = of_read new (h ++ m ∷ []) (read_well_formed h m s.well_formed fits) around (subst (StandsForTrace new) (ap (λ x. judged_trace h ++ x ∷ []) is ∙ sym (judged_pushed h m)) after)
    where
      is : e ≡ judged h m
      is = judged_is_told old h s m e thread what

      fits : shape_fault (read_events h) m.event ≡ None
      fits = sym (judged_fault h m) ∙ ap (shape_fault (judged_trace h)) (sym is) ∙ sym (fault_is_told old (judged_trace h) (of_judged old h s) e) ∙ none

      after : StandsForTrace new (judged_trace h ++ e ∷ [])
      after = stands_after old new e a none (judged_trace h) (of_judged old h s)

      same_exempt : (t : ℕ) (w : What) → exempt_told old.threads old.exempt m.event.thread m.exempt w ≡ exempt_is h m t w
      same_exempt t (Begin label) = refl
      same_exempt t End = end_told old h s m.event.thread
      same_exempt t _ = refl

      around : (t : ℕ) → around_at new.exempt t ≡ rounds (h ++ m ∷ []) t
      around t =
          change t
          ∙ ap (λ b. around_after t m.event.thread m.event.what b (thread_at old.threads m.event.thread).depth (around_at old.exempt t)) (same_exempt t m.event.what)
          ∙ ap₂ (λ d xs. around_after t m.event.thread m.event.what (exempt_is h m t m.event.what) d xs) (s.depth m.event.thread) (s.exempt t)
          ∙ sym (rounds_pushed h m t)

-- what was opened and closed is what becomes of the open exempt blocks
pub changed_around :
    (tables : Tables) (t thread : ℕ) (exempt : Bool) (w : What) (xs : List ℕ)
    → (let depth = (thread_at tables.threads thread).depth in
    let room = if begins_exempt w exempt && (thread == t) then xs ++ depth ∷ [] else xs in
    (if (is_end w && is_last depth (around_at tables.exempt thread)) && (thread == t) then take (length room - 1) room else room)
    ≡ around_after t thread w (exempt_told tables.threads tables.exempt thread exempt w) depth xs)
changed_around tables t thread exempt (Begin label) xs = refl
changed_around tables t thread exempt End xs = refl
changed_around tables t thread exempt _ xs = refl

-- what the tables tell of an event is what the rules say of it, and what it is as it is judged
module _ (tables : Tables) (m : Marked) (e : Numbered) (thread : e.thread ≡ m.event.thread) (what : e.what ≡ judged_told (exempt_told tables.threads tables.exempt m.event.thread m.exempt m.event.what) m.event.what) (h : List Marked) (s : StandsFor tables h) where
  is_judged : e ≡ judged h m
  is_judged = judged_is_told tables h s m e thread what

  pub read_fault_told : shape_fault (read_events h) m.event ≡ fault_told tables.threads tables.locks e
  read_fault_told =
      sym (judged_fault h m) ∙ ap (shape_fault (judged_trace h)) (sym is_judged) ∙ sym (fault_is_told tables (judged_trace h) (of_judged tables h s) e)

  pub judged_kind_told : kind_told tables.threads (thread_at tables.threads e.thread).depth e.what ≡ admitted_as (judged_trace h) (judged h m)
  judged_kind_told = kind_is_told tables (judged_trace h) (of_judged tables h s) e ∙ ap (admitted_as (judged_trace h)) is_judged

-- a thread or a lock that an event of the list has reached has a place in the table that stands for it
module _ (tables : Tables) (h : List Marked) (s : StandsFor tables h) where
  started_within : (u : ℕ) → has_started (read_events h) u ≡ true → u < length tables.threads
  started_within u started = go (cases_lt u (length tables.threads))
    where
      go : (u < length tables.threads) ⊎ (length tables.threads ≤ u) → u < length tables.threads
      go (inl within) = within
      go (inr past) =
          let idle_then : thread_at tables.threads u ≡ idle = get_or_past tables.threads u idle past in
          let acted : has_acted (read_events h) u ≡ false = sym (s.acted u) ∙ ap (λ x. x.acted) idle_then in
          let forked : was_forked (read_events h) u ≡ false = sym (s.forked u) ∙ ap (λ x. x.forked) idle_then in
          let joined : was_joined (read_events h) u ≡ false = sym (s.joined u) ∙ ap (λ x. x.joined) idle_then in
          absurd (both_ways (has_started (read_events h) u) (or_from (has_acted (read_events h) u || was_forked (read_events h) u) (was_joined (read_events h) u) (or_from (has_acted (read_events h) u) (was_forked (read_events h) u) acted forked) joined) started)

  reached_thread : (t : ℕ) → ReachesThread (read_events h) t → t < length tables.threads
  reached_thread t r = let within = started_within r.0 r.2 in let le = r.1 in omega arith

  reached_lock : (l : ℕ) → ReachesLock (read_events h) l → l < length tables.locks
  reached_lock l r = let within = s.locked r.0 r.2 in let le = r.1 in omega arith

  thread_place : (w : What) → ReachesTarget (read_events h) w → HasThreadPlace tables.threads w
  thread_place (Fork u) r = reached_thread u r
  thread_place (Join u) r = reached_thread u r
  thread_place _ r = tt

  lock_place : (w : What) → ReachesTarget (read_events h) w → HasLockPlace tables.locks w
  lock_place (Acquire l) r = reached_lock l r
  lock_place (Release l) r = reached_lock l r
  lock_place _ r = tt

  -- an exempt event names no target
  plain_thread_place : (b : Bool) (w : What) → HasThreadPlace tables.threads w → HasThreadPlace tables.threads (judged_told b w)
  plain_thread_place true (Begin label) place = tt
  plain_thread_place false (Begin label) place = tt
  plain_thread_place true End place = tt
  plain_thread_place false End place = tt
  plain_thread_place b _ place = place

  plain_lock_place : (b : Bool) (w : What) → HasLockPlace tables.locks w → HasLockPlace tables.locks (judged_told b w)
  plain_lock_place true (Begin label) place = tt
  plain_lock_place false (Begin label) place = tt
  plain_lock_place true End place = tt
  plain_lock_place false End place = tt
  plain_lock_place b _ place = place

  pub reached_places : (e judged : Numbered) (b : Bool) → judged.thread ≡ e.thread → judged.what ≡ judged_told b e.what → Reaches (read_events h) e → HavePlaces tables.threads tables.locks judged
  reached_places e judged b thread what r =
      record {
        actor = subst (λ t. t < length tables.threads) (sym thread) (reached_thread e.thread r.actor);
        target = subst (HasThreadPlace tables.threads) (sym what) (plain_thread_place b e.what (thread_place e.what r.target));
        lock = subst (HasLockPlace tables.locks) (sym what) (plain_lock_place b e.what (lock_place e.what r.target));
      }
