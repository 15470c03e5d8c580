-- What the tables tell of an event is what the rules say of the list that they stand for.
use Rattle.std.proofs.Common.{◌≡◌, ◌≢◌, Err, ℕ, ◌+◌, ◌<◌, ◌==◌, ◌&&◌, ◌||◌, nat_lt, not, Bool, true, false, cond, if◌then◌else◌, List, [], ◌∷◌, length, Option, Some, None, inl, inr, refl, sym, ◌∙◌, ap, ap₂, arith}
use Rattle.std.specs.Prelude.{count_by}
use Rattle.std.specs.List.{list_any}
use Rattle.std.proofs.lemmas.Bool.{cases_Bool, cases_lt, and_parts, and_from, and_right, or_left, or_right, or_from, lt-ltb, le-ltb, eq-eqb, ne_eqb, eqb-true, ltb-true, cond-true, cond-false}
use Rattle.std.proofs.lemmas.List.Sums.{sum_by-append}
use Rattle.std.proofs.lemmas.Option.{same_Some}
use Rattle.aero_model.specs.declared.numbered.Numbered.{Numbered}
use Rattle.aero_model.specs.declared.numbered.What.{What}
use Rattle.aero_model.specs.declared.numbered.What.TheVariants.{Acquire, Release, Fork, Join, Begin, End}
use Rattle.aero_model.specs.declared.verdict.ShapeFault.{ShapeFault}
use Rattle.aero_model.specs.declared.verdict.ShapeFault.TheVariants.{ThreadJoined, LockHeldByOther, LockNotHeld, ForkSelf, ForkStarted, JoinSelf, EndWithoutBegin, Memory}
use Rattle.aero_model.specs.Blocks.{depth}
use Rattle.aero_model.specs.Exempt.{Marked, read_events}
use Rattle.aero_model.specs.Shape.{is_acquire_of, held, is_held_by_other, was_joined, has_started, deed_fault, shape_fault}
use Rattle.aero_shape.specs.declared.admission.Admitted.TheVariants.{Plain, IdleJoin}
use Rattle.aero_shape.specs.States.{Tables, thread_at, lock_at}
use Rattle.aero_shape.specs.Told.{is_kept_from, is_started, deed_fault_told, fault_told, kind_told}
use Rattle.aero_shape.specs.Admission.{deed_as, admitted_as, TellsEvent}
use Rattle.aero_shape.proofs.Traces.{StandsForTrace}

-- what is counted passes a test that follows
some_counted : {X : Type 0} (p q : X → Bool) (xs : List X) → ((x : X) → p x ≡ true → q x ≡ true) → 0 < count_by p xs → list_any q xs ≡ true
some_counted p q [] h some = absurd (omega arith)
some_counted p q (x ∷ xs) h some =
    elim (cases_Bool (p x)) [
      | inl e ↦ or_left (q x) (list_any q xs) (h x e)
      | inr e ↦
          let none : cond {A = ℕ} (p x) 1 0 ≡ 0 = ap (λ b. cond {A = ℕ} b 1 0) e in
          let whole : count_by p (x ∷ xs) ≡ (0 + cond {A = ℕ} (p x) 1 0) + count_by p xs = sum_by-append (λ y. cond {A = ℕ} (p y) 1 0) (x ∷ []) xs in
          or_right (q x) (list_any q xs) (some_counted p q xs h (omega arith))
    ]

none_passes : {X : Type 0} (q : X → Bool) (xs : List X) → ((x : X) → q x ≡ false) → list_any q xs ≡ false
none_passes q [] h = refl
none_passes q (x ∷ xs) h = or_from (q x) (list_any q xs) (h x) (none_passes q xs h)

-- where the holder is not kept off, nobody is
not_kept : (t u holder count : ℕ) → (not (holder == t) && nat_lt 0 count) ≡ false → (not (u == t) && nat_lt 0 (if holder == u then count else 0)) ≡ false
not_kept t u holder count none =
    elim (cases_Bool (holder == u)) [
      | inl e ↦ ap₂ (λ v n. not (v == t) && nat_lt 0 n) (sym (eqb-true holder u e)) (cond-true (holder == u) count 0 e) ∙ none
      | inr e ↦ and_right (not (u == t)) (nat_lt 0 (if holder == u then count else 0)) (ap (nat_lt 0) (cond-false (holder == u) count 0 e))
    ]

release_told : (b : Bool) (n : ℕ) → (if b && nat_lt 0 n then None else Some LockNotHeld) ≡ (if (if b then n else 0) == 0 then Some LockNotHeld else None)
release_told false n = refl
release_told true n =
    elim (cases_lt 0 n) [
      | inl some ↦ cond-true (nat_lt 0 n) None (Some LockNotHeld) (lt-ltb 0 n some) ∙ sym (cond-false (n == 0) (Some LockNotHeld) None (ne_eqb n 0 (omega arith)))
      | inr none ↦ cond-false (nat_lt 0 n) None (Some LockNotHeld) (le-ltb 0 n none) ∙ sym (cond-true (n == 0) (Some LockNotHeld) None (eq-eqb n 0 (omega arith)))
    ]

module _ (tables : Tables) (h : List Numbered) (s : StandsForTrace tables h) where
  -- who holds a lock has acquired it
  holder_acts : (t l : ℕ) → is_kept_from t (lock_at tables.locks l) ≡ true → is_held_by_other h t l ≡ true
  holder_acts t l kept = some_counted acquires holds h passes acquired
    where
      u : ℕ
      u = (lock_at tables.locks l).holder

      acquires : Numbered → Bool
      acquires e = (e.thread == u) && is_acquire_of l e.what

      holds : Numbered → Bool
      holds e = not (e.thread == t) && nat_lt 0 (held h e.thread l)

      parts : (not (u == t) ≡ true) × (nat_lt 0 (lock_at tables.locks l).count ≡ true)
      parts = and_parts (not (u == t)) (nat_lt 0 (lock_at tables.locks l).count) kept

      some : 0 < held h u l
      some =
          let count = ltb-true 0 (lock_at tables.locks l).count parts.1 in
          let same = s.held l u ∙ cond-true (u == u) (lock_at tables.locks l).count 0 (eq-eqb u u refl) in
          omega arith

      acquired : 0 < count_by acquires h
      acquired = omega (arith, some)

      passes : (e : Numbered) → acquires e ≡ true → holds e ≡ true
      passes e a =
          let by : e.thread ≡ u = eqb-true e.thread u (and_parts (e.thread == u) (is_acquire_of l e.what) a).0 in
          ap (λ v. not (v == t) && nat_lt 0 (held h v l)) by ∙ and_from (not (u == t)) (nat_lt 0 (held h u l)) parts.0 (lt-ltb 0 (held h u l) some)

  pub kept_told : (t l : ℕ) → is_kept_from t (lock_at tables.locks l) ≡ is_held_by_other h t l
  kept_told t l =
      elim (cases_Bool (is_kept_from t (lock_at tables.locks l))) [
        | inl kept ↦ kept ∙ sym (holder_acts t l kept)
        | inr free ↦
            free
            ∙ sym (none_passes (λ e. not (e.thread == t) && nat_lt 0 (held h e.thread l)) h (λ e. ap (λ n. not (e.thread == t) && nat_lt 0 n) (s.held l e.thread) ∙ not_kept t e.thread (lock_at tables.locks l).holder (lock_at tables.locks l).count free))
      ]

  started_told : (u : ℕ) → is_started (thread_at tables.threads u) ≡ has_started h u
  started_told u = ap₂ (λ x y. x || y) (ap₂ (λ x y. x || y) (s.acted u) (s.forked u)) (s.joined u)

  deed_told : (t : ℕ) (w : What) → deed_fault_told tables.threads tables.locks t w ≡ deed_fault h t w
  deed_told t (Acquire l) = ap (λ b. if b then Some LockHeldByOther else None) (kept_told t l)
  deed_told t (Release l) =
      release_told ((lock_at tables.locks l).holder == t) (lock_at tables.locks l).count
      ∙ ap (λ n. if n == 0 then Some LockNotHeld else None) (sym (s.held l t))
  deed_told t (Fork u) = ap (λ b. if u == t then Some ForkSelf else if b then Some ForkStarted else None) (started_told u)
  deed_told t (Join u) = refl
  deed_told t End = ap (λ d. if d == 0 then Some EndWithoutBegin else None) (s.depth t)
  deed_told t _ = refl

  pub fault_is_told : (e : Numbered) → fault_told tables.threads tables.locks e ≡ shape_fault h e
  fault_is_told e = ap₂ (λ b o. if b then Some ThreadJoined else o) (s.joined e.thread) (deed_told e.thread e.what)

  kind_told_at : (deep : ℕ) (w : What) → kind_told tables.threads deep w ≡ deed_as h deep w
  kind_told_at deep (Join u) = ap (λ b. if b then Plain (nat_lt 0 deep) else IdleJoin) (s.acted u)
  kind_told_at deep (Begin label) = refl
  kind_told_at deep End = refl
  kind_told_at deep _ = refl

  pub kind_is_told : (e : Numbered) → kind_told tables.threads (thread_at tables.threads e.thread).depth e.what ≡ admitted_as h e
  kind_is_told e = ap (λ d. kind_told tables.threads d e.what) (s.depth e.thread) ∙ kind_told_at (depth h e.thread (length h)) e.what

-- the rules never speak of memory
other_fault : (b : Bool) (f : ShapeFault) (o : Option ShapeFault) → f ≢ Memory → o ≢ Some Memory → (if b then Some f else o) ≢ Some Memory
other_fault true f o differs rest e = differs (same_Some f Memory e)
other_fault false f o differs rest e = rest e

no_memory : None ≢ Some Memory
no_memory e = cc

deed_no_memory : (h : List Numbered) (t : ℕ) (w : What) → deed_fault h t w ≢ Some Memory
deed_no_memory h t (Acquire l) = other_fault (is_held_by_other h t l) LockHeldByOther None (λ e. cc) no_memory
deed_no_memory h t (Release l) = other_fault (held h t l == 0) LockNotHeld None (λ e. cc) no_memory
deed_no_memory h t (Fork u) = other_fault (u == t) ForkSelf _ (λ e. cc) (other_fault (has_started h u) ForkStarted None (λ e. cc) no_memory)
deed_no_memory h t (Join u) = other_fault (u == t) JoinSelf None (λ e. cc) no_memory
deed_no_memory h t End = other_fault (depth h t (length h) == 0) EndWithoutBegin None (λ e. cc) no_memory
deed_no_memory h t _ = no_memory

pub tells_fault : (h : List Marked) (m : Marked) (fault : ShapeFault) → shape_fault (read_events h) m.event ≡ Some fault → TellsEvent h m (Err fault)
tells_fault h m Memory told =
    absurd (other_fault (was_joined (read_events h) m.event.thread) ThreadJoined (deed_fault (read_events h) m.event.thread m.event.what) (λ x. cc) (deed_no_memory (read_events h) m.event.thread m.event.what) told)
tells_fault h m _ told = told
