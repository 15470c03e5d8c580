-- The last event of a thread's slot is the thread's last event, or else its fork.
use Rattle.std.proofs.Common.{◌≡◌, ℕ, zero, suc, List, Option, Some, None, refl, sym, ap, ◌∙◌, arith, ⊎_elim}
use Rattle.std.specs.Prelude.{Bool, true, false, ◌==◌, ◌||◌, if◌then◌else◌, slice_get}
use Rattle.std.specs.Option.{option_or}
use Rattle.std.proofs.lemmas.Bool.{eqb-true}
use Rattle.aero_model.specs.declared.numbered.Numbered.{Numbered}
use Rattle.aero_model.specs.declared.numbered.What.TheVariants.{Fork}
use Rattle.aero_model.specs.Shape.{is_fork_of, IsWellFormed}
use Rattle.aero_model.proofs.Conflicting.{fork_is}
use Rattle.aero_model.proofs.WellFormed.{forked_before, forked_once}
use Rattle.aero_engine.specs.declared.slot.Slot.TheVariants.{OfThread}
use Rattle.aero_engine.specs.Slots.{of_slot, passes, last_of, last_event}
use Rattle.aero_engine.proofs.LastEvents.{of_thread, is_last}

-- the tests of the two
abbrev pub is_of : ℕ → Numbered → Bool
is_of t e = e.thread == t

abbrev pub forks_thread : ℕ → Numbered → Bool
forks_thread t e = is_fork_of t e.what

module _ (trace : List Numbered) (ok : IsWellFormed trace) where
  -- a thread that is forked at place n has not acted
  not_acted : (t n : ℕ) (f : Numbered) → slice_get trace n ≡ Some f → f.what ≡ Fork t → (o : Option ℕ) → last_of (is_of t) trace n ≡ o → Some n ≡ option_or o (Some n)
  not_acted t n f at h None last = refl
  not_acted t n f at h (Some q) last =
      let r = is_last (is_of t) trace n q last in
      absurd (omega (arith, r.below, forked_before trace ok n q f r.event at r.event_at (h ∙ ap Fork (sym (eqb-true r.event.thread t r.passed)))))

  pub thread_slot : (t n : ℕ) → last_event trace n (OfThread t) ≡ option_or (last_of (is_of t) trace n) (last_of (forks_thread t) trace n)
  thread_slot t zero = refl
  thread_slot t (suc n) = go (slice_get trace n) refl (thread_slot t n)
    where
      at_event : (f : Numbered) → slice_get trace n ≡ Some f → (b c : Bool) → is_fork_of t f.what ≡ c → last_event trace n (OfThread t) ≡ option_or (last_of (is_of t) trace n) (last_of (forks_thread t) trace n) → (if b || c then Some n else last_event trace n (OfThread t)) ≡ option_or (if b then Some n else last_of (is_of t) trace n) (if c then Some n else last_of (forks_thread t) trace n)
      at_event f at true c hc old = refl
      at_event f at false true hc old = not_acted t n f at (fork_is t f.what hc) (last_of (is_of t) trace n) refl
      at_event f at false false hc old = old

      go : (o : Option Numbered) → slice_get trace n ≡ o → last_event trace n (OfThread t) ≡ option_or (last_of (is_of t) trace n) (last_of (forks_thread t) trace n) → (if passes (of_slot (OfThread t)) o then Some n else last_event trace n (OfThread t)) ≡ option_or (if passes (is_of t) o then Some n else last_of (is_of t) trace n) (if passes (forks_thread t) o then Some n else last_of (forks_thread t) trace n)
      go None at old = old
      go (Some f) at old = at_event f at (f.thread == t) (is_fork_of t f.what) refl old

  -- a thread that is forked at place n has no last event there, so its clock is zero
  pub forked_none : (n t : ℕ) (e : Numbered) → slice_get trace n ≡ Some e → e.what ≡ Fork t → last_event trace n (OfThread t) ≡ None
  forked_none n t e at h = go (last_event trace n (OfThread t)) refl
    where
      go : (o : Option ℕ) → last_event trace n (OfThread t) ≡ o → last_event trace n (OfThread t) ≡ None
      go None last = last
      go (Some q) last =
          let r = is_last (of_slot (OfThread t)) trace n q last in
          ⊎_elim
          (λ k. absurd (omega (arith, r.below, forked_before trace ok n q e r.event at r.event_at (h ∙ ap Fork (sym k)))))
          (λ k. absurd (omega (arith, r.below, forked_once trace ok q n t r.event e r.event_at at k h)))
          (of_thread t r.event r.passed)
