-- Near events conflict, and chains of them make up all conflicts.
use Rattle.std.proofs.Common.{◌≡◌, ◌≢◌, ℕ, zero, suc, ◌+◌, ◌<◌, ◌≤◌, ◌==◌, Bool, true, List, take, Option, Some, None, inl, inr, refl, sym, ◌∙◌, ap, subst, arith}
use Rattle.std.specs.Prelude.{slice_get}
use Rattle.std.proofs.lemmas.Bool.{cases_eq, cases_lt, eq-eqb, eqb-true}
use Rattle.std.proofs.lemmas.Option.{same_Some, none-some}
use Rattle.aero_model.specs.declared.numbered.Numbered.{Numbered}
use Rattle.aero_model.specs.declared.numbered.What.TheVariants.{Read, Write, Acquire, Release, Fork, Join}
use Rattle.aero_model.specs.Graph.{Conflict, Conflicts, same_thread, write_read, read_write, write_write, release_acquire, forks, joined}
use Rattle.aero_model.specs.Shape.{held, IsWellFormed}
use Rattle.aero_model.proofs.WellFormed.{forked_before, forked_once, released_held}
use Rattle.aero_model.proofs.Locks.{release_is, one_holder, acquired_between}
use Rattle.aero_engine.specs.declared.slot.Slot.TheVariants.{OfThread, LastWrite, LastRelease}
use Rattle.aero_engine.specs.Slots.{of_slot, last_of, last_event}
use Rattle.aero_engine.proofs.LastEvents.{write_is, of_thread, to_thread, to_fork, to_write, to_release, is_last, last_covers}
use Rattle.aero_order.specs.Near.{NoWriteBetween, Near, own, read, write, write_after_read, acquire, join, Chain, one, further}

pub chain_trans : (trace : List Numbered) (i j k : ℕ) → Chain trace i j → Chain trace j k → Chain trace i k
chain_trans trace i j _ p (one k n) = further j k p n
chain_trans trace i j _ p (further m k q n) = further m k (chain_trans trace i j m p q) n

-- from the last event that passes a test
module _ (trace : List Numbered) (i j : ℕ) (e : Numbered) (at : slice_get trace j ≡ Some e) (test : Numbered → Bool) (last : last_of test trace j ≡ Some i) where
  from_last : ((f : Numbered) → test f ≡ true → Conflicts f e) → Conflict trace i j
  from_last c =
      let r = is_last test trace j i last in
      record { earlier = r.below; first = r.event; first_at = r.event_at; second = e; second_at = at; conflict = c r.event r.passed }

pub near_conflict : (trace : List Numbered) (i j : ℕ) → Near trace i j → Conflict trace i j
near_conflict trace i j (own e at last) =
    from_last trace i j e at (of_slot (OfThread e.thread)) last (λ f p. elim (of_thread e.thread f p) [ inl t ↦ same_thread t | inr k ↦ forks k ])
near_conflict trace i j (read e x at is last) = from_last trace i j e at (of_slot (LastWrite x)) last (λ f p. write_read x (write_is x f.what p) is)
near_conflict trace i j (write e x at is last) = from_last trace i j e at (of_slot (LastWrite x)) last (λ f p. write_write x (write_is x f.what p) is)
near_conflict trace i j (write_after_read d e x l at_i is_read at is_write none) =
    record { earlier = l; first = d; first_at = at_i; second = e; second_at = at; conflict = read_write x is_read is_write }
near_conflict trace i j (acquire e l at is last) = from_last trace i j e at (of_slot (LastRelease l)) last (λ f p. release_acquire l (release_is l f.what p) is)
near_conflict trace i j (join e u at is last) =
    from_last trace i j e at (λ f. f.thread == u) last (λ f p. joined (is ∙ ap Join (sym (eqb-true f.thread u p))))

-- the last write of a variable, if there is one
module _ (trace : List Numbered) (x : ℕ) where
  no_write : (i j : ℕ) → last_event trace j (LastWrite x) ≡ None → NoWriteBetween trace x i j
  no_write i j none k f l m at is = let c = last_covers (of_slot (LastWrite x)) trace j k f at (to_write x f is) m in none-some c.0 (sym none ∙ c.1)

  no_later : (i j q : ℕ) → last_event trace j (LastWrite x) ≡ Some q → q ≤ i → NoWriteBetween trace x i j
  no_later i j q last le k f l m at is =
      let c = last_covers (of_slot (LastWrite x)) trace j k f at (to_write x f is) m in
      let same = same_Some q c.0 (sym last ∙ c.1) in
      omega (arith, c.2)

module _ (trace : List Numbered) (ok : IsWellFormed trace) (d : ℕ) (shorter : (k l : ℕ) → l ≤ k + d → Conflict trace k l → Chain trace k l) (i j : ℕ) (less : i < j) (le : j ≤ i + suc d) (a b : Numbered) (at_i : slice_get trace i ≡ Some a) (at_j : slice_get trace j ≡ Some b) where
  -- a conflict with a place before j, and on from there
  to_earlier : (q : ℕ) (f : Numbered) → q < j → slice_get trace q ≡ Some f → i < q → Conflicts a f → Chain trace i q
  to_earlier q f l at m c = shorter i q (omega arith) record { earlier = m; first = a; first_at = at_i; second = f; second_at = at; conflict = c }

  by_way : (test : Numbered → Bool) (q : ℕ) → last_of test trace j ≡ Some q → i ≤ q → Near trace q j → ((f : Numbered) → slice_get trace q ≡ Some f → i < q → test f ≡ true → Chain trace i q) → Chain trace i j
  by_way test q last m near before = elim (cases_eq i q) [
    | inl same ↦ one j (subst (λ k. Near trace k j) (sym same) near)
    | inr apart ↦ (let r = is_last test trace j q last in further q j (before r.event r.event_at (omega arith) r.passed) near)
  ]

  through : (test : Numbered → Bool) → test a ≡ true → ((q : ℕ) → last_of test trace j ≡ Some q → Near trace q j) → ((q : ℕ) (f : Numbered) → q < j → slice_get trace q ≡ Some f → i < q → test f ≡ true → Chain trace i q) → Chain trace i j
  through test passes near before =
      let c = last_covers test trace j i a at_i passes less in
      let r = is_last test trace j c.0 c.1 in
      by_way test c.0 c.1 c.2 (near c.0 c.1) (λ f at m p. before c.0 f r.below at m p)

  by_thread : a.thread ≡ b.thread → Chain trace i j
  by_thread same = through (of_slot (OfThread b.thread)) (to_thread b.thread a same) (λ q last. own b at_j last) (λ q f l at m p. to_earlier q f l at m (elim (of_thread b.thread f p) [
    | inl t ↦ same_thread (same ∙ sym t)
    | inr k ↦ absurd (omega (arith, forked_before trace ok q i f a at at_i (k ∙ ap Fork (sym same)), m))
  ]))

  by_fork : a.what ≡ Fork b.thread → Chain trace i j
  by_fork is = through (of_slot (OfThread b.thread)) (to_fork b.thread a is) (λ q last. own b at_j last) (λ q f l at m p. to_earlier q f l at m (elim (of_thread b.thread f p) [
    | inl t ↦ forks (is ∙ ap Fork (sym t))
    | inr k ↦ absurd (omega (arith, forked_once trace ok i q b.thread a f at_i at is k, m))
  ]))

  by_write_read : (x : ℕ) → a.what ≡ Write x → b.what ≡ Read x → Chain trace i j
  by_write_read x is is' = through (of_slot (LastWrite x)) (to_write x a is) (λ q last. read b x at_j is' last) (λ q f l at m p. to_earlier q f l at m (write_write x is (write_is x f.what p)))

  by_write_write : (x : ℕ) → a.what ≡ Write x → b.what ≡ Write x → Chain trace i j
  by_write_write x is is' = through (of_slot (LastWrite x)) (to_write x a is) (λ q last. write b x at_j is' last) (λ q f l at m p. to_earlier q f l at m (write_write x is (write_is x f.what p)))

  by_read_write : (x : ℕ) → a.what ≡ Read x → b.what ≡ Write x → Chain trace i j
  by_read_write x is is' = go (last_event trace j (LastWrite x)) refl
    where
      near : NoWriteBetween trace x i j → Chain trace i j
      near none = one j (write_after_read a b x less at_i is at_j is' none)

      go : (o : Option ℕ) → last_event trace j (LastWrite x) ≡ o → Chain trace i j
      go None none = near (no_write trace x i j none)
      go (Some q) last = elim (cases_lt i q) [
        | inr m ↦ near (no_later trace x i j q last m)
        | inl m ↦
            let r = is_last (of_slot (LastWrite x)) trace j q last in
            further q j (to_earlier q r.event r.below r.event_at m (read_write x is (write_is x r.event.what r.passed))) (write b x at_j is' last)
      ]

  -- between releases of one lock by two threads the second acquires it
  to_release_at : (l q : ℕ) (f : Numbered) → q < j → slice_get trace q ≡ Some f → i < q → a.what ≡ Release l → f.what ≡ Release l → Chain trace i q
  to_release_at l q f b at m is is' = elim (cases_eq a.thread f.thread) [ inl same ↦ to_earlier q f b at m (same_thread same) | inr other ↦ handed other ]
    where
      handed : a.thread ≢ f.thread → Chain trace i q
      handed other =
          let holds = released_held trace ok i l a at_i is in
          let free : held (take i trace) f.thread l ≡ 0 = elim (cases_lt 0 (held (take i trace) f.thread l)) [ inl h ↦ absurd (one_holder trace ok l a.thread f.thread i other holds h) | inr h ↦ omega arith ] in
          let r = acquired_between trace f.thread l i q (omega arith) free (released_held trace ok q l f at is') in
          let e = r.3 in
          let apart : i ≢ r.0 = λ same. let one = ap (λ (x : Numbered). x.what) (same_Some a e.event (sym at_i ∙ ap (slice_get trace) same ∙ e.event_at)) in let acquires = e.what in cc in
          let later : i < r.0 = omega (arith, apart, r.1) in
          let within : r.0 < q = r.2 in
          chain_trans trace i r.0 q
          (to_earlier r.0 e.event (omega arith) e.event_at later (release_acquire l is e.what))
          (shorter r.0 q (omega arith) record { earlier = within; first = e.event; first_at = e.event_at; second = f; second_at = at; conflict = same_thread e.thread })

  by_release : (l : ℕ) → a.what ≡ Release l → b.what ≡ Acquire l → Chain trace i j
  by_release l is is' = through (of_slot (LastRelease l)) (to_release l a is) (λ q last. acquire b l at_j is' last) (λ q f n at m p. to_release_at l q f n at m is (release_is l f.what p))

  by_join : b.what ≡ Join a.thread → Chain trace i j
  by_join is = through (λ f. f.thread == a.thread) (eq-eqb a.thread a.thread refl) (λ q last. join b a.thread at_j is last) (λ q f l at m p. to_earlier q f l at m (same_thread (sym (eqb-true f.thread a.thread p))))

  by_conflict : Conflicts a b → Chain trace i j
  by_conflict (same_thread e) = by_thread e
  by_conflict (write_read x p q) = by_write_read x p q
  by_conflict (read_write x p q) = by_read_write x p q
  by_conflict (write_write x p q) = by_write_write x p q
  by_conflict (release_acquire l p q) = by_release l p q
  by_conflict (forks p) = by_fork p
  by_conflict (joined p) = by_join p

chained : (trace : List Numbered) → IsWellFormed trace → (d i j : ℕ) → j ≤ i + d → Conflict trace i j → Chain trace i j
chained trace ok zero i j le c = absurd (omega (arith, c.earlier))
chained trace ok (suc d) i j le c = by_conflict trace ok d (λ k l m e. chained trace ok d k l m e) i j c.earlier le c.first c.second c.first_at c.second_at c.conflict

pub conflict_chain : (trace : List Numbered) → IsWellFormed trace → (i j : ℕ) → Conflict trace i j → Chain trace i j
conflict_chain trace ok i j c = chained trace ok j i j (omega arith) c
