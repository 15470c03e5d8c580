-- What tables say of the trace that is judged.
use Rattle.std.proofs.Common.{◌≡◌, ℕ, ◌<◌, ◌==◌, ◌||◌, true, if◌then◌else◌, List, [], ◌∷◌, ◌++◌, length, None, refl, sym, ◌∙◌, ap, subst}
use Rattle.aero_model.specs.declared.numbered.Numbered.{Numbered}
use Rattle.aero_model.specs.Blocks.{depth}
use Rattle.aero_model.specs.Exempt.{Marked, read_events, judged_trace}
use Rattle.aero_model.specs.Shape.{is_acquire_of, is_release_of, held, has_acted, was_forked, was_joined, shape_fault, IsWellFormed}
use Rattle.aero_model.proofs.Exempt.{judged_length, judged_any, same_event, judged_acted, judged_forked, judged_joined, judged_held, judged_well_formed, read_pushed}
use Rattle.aero_shape.specs.States.{Tables, thread_at, lock_at, around_at}
use Rattle.aero_shape.specs.Standing.{StandsFor, was_locked, rounds}
use Rattle.aero_shape.proofs.Pushed.{well_formed_pushed}

-- the same as `StandsFor`, of a trace without exempt blocks
pub record StandsForTrace (tables : Tables) (events : List Numbered) : Type 0 where
  pub well_formed : IsWellFormed events
  pub admitted : tables.admitted ≡ length events
  pub depth : (t : ℕ) → (thread_at tables.threads t).depth ≡ depth events t (length events)
  pub acted : (t : ℕ) → (thread_at tables.threads t).acted ≡ has_acted events t
  pub forked : (t : ℕ) → (thread_at tables.threads t).forked ≡ was_forked events t
  pub joined : (t : ℕ) → (thread_at tables.threads t).joined ≡ was_joined events t
  pub held : (l t : ℕ) → held events t l ≡ (if (lock_at tables.locks l).holder == t then (lock_at tables.locks l).count else 0)
  pub locked : (l : ℕ) → was_locked events l ≡ true → l < length tables.locks

judged_locked : (h : List Marked) (l : ℕ) → was_locked (judged_trace h) l ≡ was_locked (read_events h) l
judged_locked h l =
    judged_any (λ e. is_acquire_of l e.what || is_release_of l e.what) (λ before m. same_event (λ w. is_acquire_of l w || is_release_of l w) refl (λ label. refl) refl before m) h

pub of_judged : (tables : Tables) (h : List Marked) → StandsFor tables h → StandsForTrace tables (judged_trace h)
of_judged tables h s =
    record {
      well_formed = judged_well_formed h s.well_formed;
      admitted = s.admitted ∙ sym (judged_length h);
      depth = λ t. s.depth t ∙ ap (depth (judged_trace h) t) (sym (judged_length h));
      acted = λ t. s.acted t ∙ sym (judged_acted h t);
      forked = λ t. s.forked t ∙ sym (judged_forked h t);
      joined = λ t. s.joined t ∙ sym (judged_joined h t);
      held = λ l t. judged_held h t l ∙ s.held l t;
      locked = λ l some. s.locked l (sym (judged_locked h l) ∙ some);
    }

pub of_read : (tables : Tables) (h : List Marked) → IsWellFormed (read_events h) → ((t : ℕ) → around_at tables.exempt t ≡ rounds h t) → StandsForTrace tables (judged_trace h) → StandsFor tables h
of_read tables h ok around s =
    record {
      well_formed = ok;
      admitted = s.admitted ∙ judged_length h;
      depth = λ t. s.depth t ∙ ap (depth (judged_trace h) t) (judged_length h);
      exempt = around;
      acted = λ t. s.acted t ∙ judged_acted h t;
      forked = λ t. s.forked t ∙ judged_forked h t;
      joined = λ t. s.joined t ∙ judged_joined h t;
      held = λ l t. sym (judged_held h t l) ∙ s.held l t;
      locked = λ l some. s.locked l (judged_locked h l ∙ some);
    }

pub read_well_formed : (h : List Marked) (m : Marked) → IsWellFormed (read_events h) → shape_fault (read_events h) m.event ≡ None → IsWellFormed (read_events (h ++ m ∷ []))
read_well_formed h m ok fits = subst IsWellFormed (sym (read_pushed h m)) (well_formed_pushed (read_events h) m.event ok fits)
