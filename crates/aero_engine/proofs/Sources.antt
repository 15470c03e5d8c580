-- The last events of a few slots stand for all that conflicts with the event at place n.
use Rattle.std.proofs.Common.{◌≡◌, ◌≢◌, ℕ, ◌<◌, ◌≤◌, ◌⊎◌, inl, inr, ⊎_elim, List, Some, refl, sym, ap, ◌∙◌, subst, arith}
use Rattle.std.specs.Prelude.{◌==◌, true, slice_get, take}
use Rattle.std.proofs.lemmas.Bool.{cases_lt, cases_eq, eqb-true, and_parts}
use Rattle.std.proofs.lemmas.Option.{same_Some}
use Rattle.aero_model.specs.declared.numbered.Numbered.{Numbered}
use Rattle.aero_model.specs.declared.numbered.What.TheVariants.{Read, Write, Acquire, Release, Fork, Join}
use Rattle.aero_model.specs.Blocks.{depth, blocks, Block, transaction}
use Rattle.aero_model.specs.Graph.{Conflict, Conflicts, same_thread, write_read, read_write, write_write, release_acquire, forks, joined}
use Rattle.aero_model.specs.Shape.{held, IsWellFormed}
use Rattle.aero_model.proofs.Reach.{Reach, stay, on, reach_trans}
use Rattle.aero_model.proofs.WellFormed.{forked_before, forked_once, released_held}
use Rattle.aero_model.proofs.Locks.{release_is, one_holder, acquired_between}
use Rattle.aero_model.proofs.Begins.{begin_of, last_in_open}
use Rattle.aero_model.proofs.Ends.{begin_in}
use Rattle.aero_engine.specs.declared.slot.Slot.{Slot}
use Rattle.aero_engine.specs.declared.slot.Slot.TheVariants.{OfThread, LastWrite, LastRead, LastRelease}
use Rattle.aero_engine.specs.Slots.{is_read_of, of_slot, last_event}
use Rattle.aero_engine.specs.Takes.{takes_only_own, HasActed}
use Rattle.aero_engine.proofs.LastEvents.{read_is, write_is, of_thread, to_thread, to_fork, to_write, to_read, to_release, is_last, last_covers}

-- an event at a place reaches a later one that it conflicts with
pub reach_later : (trace : List Numbered) (n p q : ℕ) (f g : Numbered) → p ≤ q → q < n → slice_get trace p ≡ Some f → slice_get trace q ≡ Some g → (p < q → Conflicts f g) → Reach trace n p q
reach_later trace n p q f g le b at_p at_q c =
    ⊎_elim
    (λ l. on p q (stay (omega arith)) (record { earlier = l; first = f; first_at = at_p; second = g; second_at = at_q; conflict = c l }) b)
    (λ l. let e : p ≡ q = omega arith in subst (Reach trace n p) e (stay (omega arith)))
    (cases_lt p q)

-- the last event of a thread that has acted
pub record Latest (trace : List Numbered) (n t : ℕ) : Type 0 where
  pub place : ℕ
  pub last : last_event trace n (OfThread t) ≡ Some place
  pub below : place < n
  pub event : Numbered
  pub event_at : slice_get trace place ≡ Some event
  pub thread : event.thread ≡ t

-- each event of the thread is the last one or before it
pub latest_covers : (trace : List Numbered) (n t : ℕ) (k : Latest trace n t) (p : ℕ) (f : Numbered) → p < n → slice_get trace p ≡ Some f → f.thread ≡ t → p ≤ k.place
latest_covers trace n t k p f l at e =
    let q = last_covers (of_slot (OfThread t)) trace n p f at (to_thread t f e) l in
    let same = same_Some q.0 k.place (sym q.1 ∙ k.last) in
    omega (arith, q.2)

-- and reaches it
pub reach_latest : (trace : List Numbered) (n t : ℕ) (k : Latest trace n t) (p : ℕ) (f : Numbered) → p < n → slice_get trace p ≡ Some f → f.thread ≡ t → Reach trace n p k.place
reach_latest trace n t k p f l at e =
    reach_later trace n p k.place f k.event (latest_covers trace n t k p f l at e) k.below at k.event_at (λ _. same_thread (e ∙ sym k.thread))

-- the last event of a thread with an open block is of that block
pub latest_open : (trace : List Numbered) (n t : ℕ) (k : Latest trace n t) → 0 < depth trace t n → transaction trace k.place ≡ Block t (blocks trace t n)
latest_open trace n t k d = last_in_open trace t n k.place k.event d k.below k.event_at k.thread (λ p g. latest_covers trace n t k p g)

-- a thread that has begun a block has acted
pub acted_by_block : (trace : List Numbered) (n t : ℕ) → 0 < blocks trace t n → HasActed trace n t
acted_by_block trace n t h =
    let b = begin_of trace t n (blocks trace t n) h (omega arith) in
    let f = begin_in trace t b.place b.opening in
    record { place = b.place; below = b.before; event = f.event; event_at = f.event_at; thread = f.thread }

module _ (trace : List Numbered) (ok : IsWellFormed trace) (n : ℕ) where
  -- from a thread's first event on there is no fork of it
  after_own : (t p q : ℕ) (f g : Numbered) → p ≤ q → slice_get trace p ≡ Some f → slice_get trace q ≡ Some g → f.thread ≡ t → (g.thread ≡ t) ⊎ (g.what ≡ Fork t) → g.thread ≡ t
  after_own t p q f g le at_p at_q h (inl k) = k
  after_own t p q f g le at_p at_q h (inr k) = absurd (omega (arith, forked_before trace ok q p g f at_q at_p (k ∙ ap Fork (sym h))))

  pub latest : (t : ℕ) → HasActed trace n t → Latest trace n t
  latest t a =
      let test = of_slot (OfThread t) in
      let q = last_covers test trace n a.place a.event a.event_at (to_thread t a.event a.thread) a.below in
      let r = is_last test trace n q.0 q.1 in
      record {
        place = q.0;
        last = q.1;
        below = r.below;
        event = r.event;
        event_at = r.event_at;
        thread = after_own t a.place q.0 a.event r.event q.2 a.event_at r.event_at a.thread (of_thread t r.event r.passed);
      }

  -- one conflict on the way
  direct : (p q : ℕ) (f g : Numbered) → p < q → q < n → slice_get trace p ≡ Some f → slice_get trace q ≡ Some g → Conflicts f g → Reach trace n p q
  direct p q f g l b at_p at_q c = reach_later trace n p q f g (omega arith) b at_p at_q (λ _. c)

  -- a release reaches each later release of the lock: another thread acquires it in between
  release_chain : (l p q : ℕ) (f g : Numbered) → p < q → q < n → slice_get trace p ≡ Some f → slice_get trace q ≡ Some g → f.what ≡ Release l → g.what ≡ Release l → Reach trace n p q
  release_chain l p q f g b bq at_p at_q rf rg = ⊎_elim (λ h. direct p q f g b bq at_p at_q (same_thread h)) handed (cases_eq f.thread g.thread)
    where
      handed : f.thread ≢ g.thread → Reach trace n p q
      handed other =
          let holds = released_held trace ok p l f at_p rf in
          let free : held (take p trace) g.thread l ≡ 0 = ⊎_elim (λ h. absurd (one_holder trace ok l f.thread g.thread p other holds h)) (λ h. omega arith) (cases_lt 0 (held (take p trace) g.thread l)) in
          let r = acquired_between trace g.thread l p q (omega arith) free (released_held trace ok q l g at_q rg) in
          let a = r.3 in
          let apart : p ≢ r.0 = λ same. let one = ap (λ (x : Numbered). x.what) (same_Some f a.event (sym at_p ∙ ap (slice_get trace) same ∙ a.event_at)) in let acquires = a.what in cc in
          reach_trans trace n p r.0 q
          (direct p r.0 f a.event (omega (arith, apart, r.1)) (omega (arith, r.2)) at_p a.event_at (release_acquire l rf a.what))
          (direct r.0 q a.event g r.2 bq a.event_at at_q (same_thread a.thread))

-- the slots whose last events come before the event e at place n
pub data Source (trace : List Numbered) (n : ℕ) (e : Numbered) : Slot → Type 0 where
  own : Source trace n e (OfThread e.thread)
  read : (x : ℕ) → e.what ≡ Read x → Source trace n e (LastWrite x)
  write : (x : ℕ) → e.what ≡ Write x → Source trace n e (LastWrite x)
  write_after_read : (x u : ℕ) → e.what ≡ Write x → Source trace n e (LastRead x u)
  acquire : (l : ℕ) → e.what ≡ Acquire l → Source trace n e (LastRelease l)
  join : (u : ℕ) → e.what ≡ Join u → HasActed trace n u → Source trace n e (OfThread u)

-- the read that is the last of variable x by thread u
pub by_reader : (trace : List Numbered) (n x u q : ℕ) → last_event trace n (LastRead x u) ≡ Some q → (f : Numbered) × (q < n) × (slice_get trace q ≡ Some f) × (f.thread ≡ u) × (f.what ≡ Read x)
by_reader trace n x u q last =
    let g = is_last (of_slot (LastRead x u)) trace n q last in
    let parts = and_parts (g.event.thread == u) (is_read_of x g.event.what) g.passed in
    (g.event, g.below, g.event_at, eqb-true g.event.thread u parts.0, read_is x g.event.what parts.1)

module _ (trace : List Numbered) (n : ℕ) (e : Numbered) where
  -- what a source is, by what the event does
  pub of_plain : (s : Slot) → takes_only_own e.what ≡ true → Source trace n e s → s ≡ OfThread e.thread
  of_plain _ h own = refl
  of_plain _ h (read x k) = let z = ap takes_only_own k in cc
  of_plain _ h (write x k) = let z = ap takes_only_own k in cc
  of_plain _ h (write_after_read x u k) = let z = ap takes_only_own k in cc
  of_plain _ h (acquire l k) = let z = ap takes_only_own k in cc
  of_plain _ h (join u k a) = let z = ap takes_only_own k in cc

  pub of_read : (x : ℕ) (s : Slot) → e.what ≡ Read x → Source trace n e s → (s ≡ OfThread e.thread) ⊎ (s ≡ LastWrite x)
  of_read x _ h own = inl refl
  of_read x _ h (read y k) = inr cc
  of_read x _ h (write y k) = cc
  of_read x _ h (write_after_read y u k) = cc
  of_read x _ h (acquire l k) = cc
  of_read x _ h (join u k a) = cc

  pub of_acquire : (l : ℕ) (s : Slot) → e.what ≡ Acquire l → Source trace n e s → (s ≡ OfThread e.thread) ⊎ (s ≡ LastRelease l)
  of_acquire l _ h own = inl refl
  of_acquire l _ h (read y k) = cc
  of_acquire l _ h (write y k) = cc
  of_acquire l _ h (write_after_read y u k) = cc
  of_acquire l _ h (acquire m k) = inr cc
  of_acquire l _ h (join u k a) = cc

  pub of_join : (u : ℕ) (s : Slot) → e.what ≡ Join u → Source trace n e s → (s ≡ OfThread e.thread) ⊎ ((s ≡ OfThread u) × HasActed trace n u)
  of_join u _ h own = inl refl
  of_join u _ h (read y k) = cc
  of_join u _ h (write y k) = cc
  of_join u _ h (write_after_read y v k) = cc
  of_join u _ h (acquire l k) = cc
  of_join u _ h (join v k a) = let same : v ≡ u = cc in inr (ap OfThread same, subst (HasActed trace n) same a)

  pub of_write : (x : ℕ) (s : Slot) → e.what ≡ Write x → Source trace n e s → (s ≡ OfThread e.thread) ⊎ ((s ≡ LastWrite x) ⊎ ((u : ℕ) × (s ≡ LastRead x u)))
  of_write x _ h own = inl refl
  of_write x _ h (read y k) = cc
  of_write x _ h (write y k) = inr (inl cc)
  of_write x _ h (write_after_read y u k) = inr (inr (u, cc))
  of_write x _ h (acquire l k) = cc
  of_write x _ h (join u k a) = cc

module _ (trace : List Numbered) (ok : IsWellFormed trace) (n : ℕ) (e : Numbered) (at : slice_get trace n ≡ Some e) where
  conflict_with : (p : ℕ) (f : Numbered) → p < n → slice_get trace p ≡ Some f → Conflicts f e → Conflict trace p n
  conflict_with p f l at_p c = record { earlier = l; first = f; first_at = at_p; second = e; second_at = at; conflict = c }

  -- a source's last event conflicts with the event
  pub source_conflicts : (s : Slot) (q : ℕ) → Source trace n e s → last_event trace n s ≡ Some q → Conflict trace q n
  source_conflicts _ q own last =
      let r = is_last (of_slot (OfThread e.thread)) trace n q last in
      conflict_with q r.event r.below r.event_at (⊎_elim (λ h. same_thread h) (λ h. forks h) (of_thread e.thread r.event r.passed))
  source_conflicts _ q (read x h) last =
      let r = is_last (of_slot (LastWrite x)) trace n q last in
      conflict_with q r.event r.below r.event_at (write_read x (write_is x r.event.what r.passed) h)
  source_conflicts _ q (write x h) last =
      let r = is_last (of_slot (LastWrite x)) trace n q last in
      conflict_with q r.event r.below r.event_at (write_write x (write_is x r.event.what r.passed) h)
  source_conflicts _ q (write_after_read x u h) last =
      let r = is_last (of_slot (LastRead x u)) trace n q last in
      conflict_with q r.event r.below r.event_at (read_write x (read_is x r.event.what (and_parts _ _ r.passed).1) h)
  source_conflicts _ q (acquire l h) last =
      let r = is_last (of_slot (LastRelease l)) trace n q last in
      conflict_with q r.event r.below r.event_at (release_acquire l (release_is l r.event.what r.passed) h)
  source_conflicts _ q (join u h a) last =
      let k = latest trace ok n u a in
      let same = same_Some k.place q (sym k.last ∙ last) in
      subst (λ p. Conflict trace p n) same (conflict_with k.place k.event k.below k.event_at (joined (h ∙ ap Join (sym k.thread))))

  -- a source whose last event is reached from place p
  pub record Covered (p : ℕ) : Type 0 where
    pub slot : Slot
    pub source : Source trace n e slot
    pub place : ℕ
    pub last : last_event trace n slot ≡ Some place
    pub reach : Reach trace n p place

  -- by a slot that p is of: it is enough that p reaches each later event of the slot
  covered_by : (s : Slot) → Source trace n e s → (p : ℕ) (f : Numbered) → p < n → slice_get trace p ≡ Some f → of_slot s f ≡ true → ((q : ℕ) (g : Numbered) → p < q → q < n → slice_get trace q ≡ Some g → of_slot s g ≡ true → Reach trace n p q) → Covered p
  covered_by s source p f b at_p h to =
      let q = last_covers (of_slot s) trace n p f at_p h b in
      let r = is_last (of_slot s) trace n q.0 q.1 in
      record {
        slot = s;
        source = source;
        place = q.0;
        last = q.1;
        reach = ⊎_elim
            (λ l. to q.0 r.event l r.below r.event_at r.passed)
            (λ l. let same : p ≡ q.0 = omega (arith, q.2) in subst (Reach trace n p) same (stay b))
            (cases_lt p q.0);
      }

  covered_event : (p : ℕ) (f : Numbered) → p < n → slice_get trace p ≡ Some f → Conflicts f e → Covered p
  covered_event p f b at_p (same_thread h) =
      covered_by (OfThread e.thread) own p f b at_p (to_thread e.thread f h)
      (λ q g l bq at_q k. direct trace ok n p q f g l bq at_p at_q (same_thread (h ∙ sym (after_own trace ok n e.thread p q f g (omega arith) at_p at_q h (of_thread e.thread g k)))))
  covered_event p f b at_p (forks h) =
      covered_by (OfThread e.thread) own p f b at_p (to_fork e.thread f h)
      (λ q g l bq at_q k. ⊎_elim (λ j. direct trace ok n p q f g l bq at_p at_q (forks (h ∙ ap Fork (sym j)))) (λ j. absurd (omega (arith, forked_once trace ok p q e.thread f g at_p at_q h j))) (of_thread e.thread g k))
  covered_event p f b at_p (write_read x w r) =
      covered_by (LastWrite x) (read x r) p f b at_p (to_write x f w)
      (λ q g l bq at_q k. direct trace ok n p q f g l bq at_p at_q (write_write x w (write_is x g.what k)))
  covered_event p f b at_p (write_write x w r) =
      covered_by (LastWrite x) (write x r) p f b at_p (to_write x f w)
      (λ q g l bq at_q k. direct trace ok n p q f g l bq at_p at_q (write_write x w (write_is x g.what k)))
  covered_event p f b at_p (read_write x r w) =
      covered_by (LastRead x f.thread) (write_after_read x f.thread w) p f b at_p (to_read x f r)
      (λ q g l bq at_q k. direct trace ok n p q f g l bq at_p at_q (same_thread (sym (eqb-true g.thread f.thread (and_parts _ _ k).0))))
  covered_event p f b at_p (release_acquire l r a) =
      covered_by (LastRelease l) (acquire l a) p f b at_p (to_release l f r)
      (λ q g lt bq at_q k. release_chain trace ok n l p q f g lt bq at_p at_q r (release_is l g.what k))
  covered_event p f b at_p (joined h) =
      covered_by (OfThread f.thread) (join f.thread h (record { place = p; below = b; event = f; event_at = at_p; thread = refl })) p f b at_p (to_thread f.thread f refl)
      (λ q g l bq at_q k. direct trace ok n p q f g l bq at_p at_q (same_thread (sym (after_own trace ok n f.thread p q f g (omega arith) at_p at_q refl (of_thread f.thread g k)))))

  -- what conflicts with the event reaches the last event of a source
  pub covered : (p : ℕ) → Conflict trace p n → Covered p
  covered p c = covered_event p c.first c.earlier c.first_at (subst (Conflicts c.first) (same_Some c.second e (sym c.second_at ∙ at)) c.conflict)
