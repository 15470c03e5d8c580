-- What an event changes in the tables, field by field.
use Rattle.std.proofs.Common.{◌≡◌, ℕ, ◌+◌, ◌-◌, ◌≤◌, ◌==◌, ◌&&◌, ◌||◌, Bool, true, false, if◌then◌else◌, List, length, Some, refl, sym, ◌∙◌, ap, arith}
use Rattle.std.proofs.lemmas.Bool.{or_right, cond-false}
use Rattle.aero_model.specs.declared.numbered.Numbered.{Numbered}
use Rattle.aero_model.specs.declared.numbered.What.{What}
use Rattle.aero_model.specs.declared.numbered.What.TheVariants.{Acquire, Release, Fork, Join, Begin, End}
use Rattle.aero_model.specs.Blocks.{is_begin, is_end, by_thread}
use Rattle.aero_model.specs.Shape.{is_acquire_of, is_release_of, is_fork_of, is_join_of}
use Rattle.aero_shape.specs.declared.states.ThreadState.{ThreadState}
use Rattle.aero_shape.specs.declared.states.LockState.{LockState}
use Rattle.aero_shape.specs.States.{Tables, AreBounded, HasLockPlace, thread_at, lock_at, acting, affected, thread_after, lock_after}
use Rattle.aero_shape.proofs.Pushed.{or_false}

-- the tables after an event
pub record IsAfter (old new : Tables) (e : Numbered) : Type 0 where
  pub threads : (t : ℕ) → thread_at new.threads t ≡ thread_after t e (thread_at old.threads t)
  pub locks : (l : ℕ) → lock_at new.locks l ≡ lock_after l e.thread e.what (lock_at old.locks l)
  pub admitted : new.admitted ≡ old.admitted + 1
  pub locks_grow : length old.locks ≤ length new.locks
  pub lock_place : HasLockPlace new.locks e.what

same_if : {X : Type 0} (field : ThreadState → X) (b : Bool) (x y : ThreadState) → field x ≡ field y → field (if b then x else y) ≡ field y
same_if field true x y e = e
same_if field false x y e = refl

affected_depth : (t : ℕ) (w : What) (s : ThreadState) → (affected t w s).depth ≡ s.depth
affected_depth t (Fork u) s = same_if (λ x. x.depth) (t == u) (record s { forked = true }) s refl
affected_depth t (Join u) s = same_if (λ x. x.depth) (t == u) (record s { joined = true }) s refl
affected_depth t _ s = refl

affected_acted : (t : ℕ) (w : What) (s : ThreadState) → (affected t w s).acted ≡ s.acted
affected_acted t (Fork u) s = same_if (λ x. x.acted) (t == u) (record s { forked = true }) s refl
affected_acted t (Join u) s = same_if (λ x. x.acted) (t == u) (record s { joined = true }) s refl
affected_acted t _ s = refl

set_forked : (b : Bool) (s : ThreadState) → (if b then record s { forked = true } else s).forked ≡ (s.forked || b)
set_forked true s = sym (or_right s.forked true refl)
set_forked false s = sym (or_false s.forked)

set_joined : (b : Bool) (s : ThreadState) → (if b then record s { joined = true } else s).joined ≡ (s.joined || b)
set_joined true s = sym (or_right s.joined true refl)
set_joined false s = sym (or_false s.joined)

affected_forked : (t : ℕ) (w : What) (s : ThreadState) → (affected t w s).forked ≡ (s.forked || is_fork_of t w)
affected_forked t (Fork u) s = set_forked (t == u) s
affected_forked t (Join u) s = same_if (λ x. x.forked) (t == u) (record s { joined = true }) s refl ∙ sym (or_false s.forked)
affected_forked t _ s = sym (or_false s.forked)

affected_joined : (t : ℕ) (w : What) (s : ThreadState) → (affected t w s).joined ≡ (s.joined || is_join_of t w)
affected_joined t (Fork u) s = same_if (λ x. x.joined) (t == u) (record s { forked = true }) s refl ∙ sym (or_false s.joined)
affected_joined t (Join u) s = set_joined (t == u) s
affected_joined t _ s = sym (or_false s.joined)

acting_depth : (b : Bool) (w : What) (s : ThreadState) → (if b then acting w s else s).depth ≡ (if b && is_begin w then s.depth + 1 else if b && is_end w then s.depth - 1 else s.depth)
acting_depth true (Begin label) s = refl
acting_depth true End s = refl
acting_depth true _ s = refl
acting_depth false w s = refl

acting_acted : (b : Bool) (w : What) (s : ThreadState) → (if b then acting w s else s).acted ≡ (s.acted || b)
acting_acted true (Begin label) s = sym (or_right s.acted true refl)
acting_acted true End s = sym (or_right s.acted true refl)
acting_acted true _ s = sym (or_right s.acted true refl)
acting_acted false w s = sym (or_false s.acted)

acting_forked : (b : Bool) (w : What) (s : ThreadState) → (if b then acting w s else s).forked ≡ s.forked
acting_forked true (Begin label) s = refl
acting_forked true End s = refl
acting_forked true _ s = refl
acting_forked false w s = refl

acting_joined : (b : Bool) (w : What) (s : ThreadState) → (if b then acting w s else s).joined ≡ s.joined
acting_joined true (Begin label) s = refl
acting_joined true End s = refl
acting_joined true _ s = refl
acting_joined false w s = refl

module _ (t : ℕ) (e : Numbered) (s : ThreadState) where
  abbrev acted_on : ThreadState
  acted_on = if e.thread == t then acting e.what s else s

  pub depth_after : (thread_after t e s).depth ≡ (if by_thread t is_begin (Some e) then s.depth + 1 else if by_thread t is_end (Some e) then s.depth - 1 else s.depth)
  depth_after = affected_depth t e.what acted_on ∙ acting_depth (e.thread == t) e.what s

  pub acted_after : (thread_after t e s).acted ≡ (s.acted || (e.thread == t))
  acted_after = affected_acted t e.what acted_on ∙ acting_acted (e.thread == t) e.what s

  pub forked_after : (thread_after t e s).forked ≡ (s.forked || is_fork_of t e.what)
  forked_after = affected_forked t e.what acted_on ∙ ap (λ b. b || is_fork_of t e.what) (acting_forked (e.thread == t) e.what s)

  pub joined_after : (thread_after t e s).joined ≡ (s.joined || is_join_of t e.what)
  joined_after = affected_joined t e.what acted_on ∙ ap (λ b. b || is_join_of t e.what) (acting_joined (e.thread == t) e.what s)

-- a lock that the event doesn't name stays
pub lock_stays : (l t : ℕ) (w : What) (s : LockState) → is_acquire_of l w ≡ false → is_release_of l w ≡ false → lock_after l t w s ≡ s
lock_stays l t (Acquire m) s a r = cond-false (l == m) (record { holder = t; count = s.count + 1 }) s a
lock_stays l t (Release m) s a r = cond-false (l == m) (record s { count = s.count - 1 }) s r
lock_stays l t _ s a r = refl

depth_at_most : (b c : Bool) (d : ℕ) → (if b then d + 1 else if c then d - 1 else d) ≤ d + 1
depth_at_most true c d = omega arith
depth_at_most false true d = omega arith
depth_at_most false false d = omega arith

count_if : (b : Bool) (x y : LockState) → x.count ≤ y.count + 1 → (if b then x else y).count ≤ y.count + 1
count_if true x y le = le
count_if false x y le = omega arith

count_at_most : (l t : ℕ) (w : What) (s : LockState) → (lock_after l t w s).count ≤ s.count + 1
count_at_most l t (Acquire m) s = count_if (l == m) (record { holder = t; count = s.count + 1 }) s (omega arith)
count_at_most l t (Release m) s = count_if (l == m) (record s { count = s.count - 1 }) s (omega arith)
count_at_most l t _ s = omega arith

pub bounded_after : (old new : Tables) (e : Numbered) → IsAfter old new e → AreBounded old.threads old.locks old.admitted → AreBounded new.threads new.locks new.admitted
bounded_after old new e a bounded = record { depths = depths; counts = counts }
  where
    depths : (t : ℕ) → (thread_at new.threads t).depth ≤ new.admitted
    depths t =
        let before = bounded.depths t in
        let same = ap (λ (s : ThreadState). s.depth) (a.threads t) ∙ depth_after t e (thread_at old.threads t) in
        let more = depth_at_most (by_thread t is_begin (Some e)) (by_thread t is_end (Some e)) (thread_at old.threads t).depth in
        let one = a.admitted in
        omega arith

    counts : (l : ℕ) → (lock_at new.locks l).count ≤ new.admitted
    counts l =
        let before = bounded.counts l in
        let same = ap (λ (s : LockState). s.count) (a.locks l) in
        let more = count_at_most l e.thread e.what (lock_at old.locks l) in
        let one = a.admitted in
        omega arith

place_stays : (xs ys : List LockState) (w : What) → length xs ≡ length ys → HasLockPlace xs w → HasLockPlace ys w
place_stays xs ys (Acquire l) same place = omega arith
place_stays xs ys (Release l) same place = omega arith
place_stays xs ys _ same place = tt

-- the tables after an event, from what was said beyond their ends and what was noted
pub noted :
    (old : Tables) (e : Numbered) (threads threads' : List ThreadState) (locks locks' : List LockState) (exempt' : List (List ℕ))
    → ((t : ℕ) → thread_at threads t ≡ thread_at old.threads t)
    → ((l : ℕ) → lock_at locks l ≡ lock_at old.locks l)
    → ((t : ℕ) → thread_at threads' t ≡ thread_after t e (thread_at threads t))
    → ((l : ℕ) → lock_at locks' l ≡ lock_after l e.thread e.what (lock_at locks l))
    → length old.locks ≤ length locks
    → HasLockPlace locks e.what
    → length locks' ≡ length locks
    → IsAfter old (record { threads = threads'; locks = locks'; exempt = exempt'; admitted = old.admitted + 1 }) e
noted old e threads threads' locks locks' exempt' same_threads same_locks threads_noted locks_noted grow place same_length =
    record {
      threads = λ t. threads_noted t ∙ ap (thread_after t e) (same_threads t);
      locks = λ l. locks_noted l ∙ ap (lock_after l e.thread e.what) (same_locks l);
      admitted = refl;
      locks_grow = omega arith;
      lock_place = place_stays locks locks' e.what (sym same_length) place;
    }
