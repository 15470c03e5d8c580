-- From a call's start to its end.
use Rattle.std.proofs.lemmas.Bool.{both_ways}
use Rattle.aero_model.specs.Cycle.{HasTellingCycle}
use Rattle.std.proofs.Common.{length-append, ◌≡◌, ◌≤◌, ℕ, zero, suc, List, [], ◌∷◌, ◌++◌, length, Option, Some, None, refl, sym, ap, ◌∙◌, subst, arith}
use Rattle.std.specs.Prelude.{Ok, IsSome, Bool, true, false, slice_get, is_some}
use Rattle.aero_model.specs.declared.numbered.Numbered.{Numbered}
use Rattle.aero_model.specs.declared.numbered.What.{What}
use Rattle.aero_model.specs.Shape.{IsWellFormed}
use Rattle.aero_engine.specs.declared.slot.Slot.{Slot}
use Rattle.aero_engine.specs.declared.slot.Slot.TheVariants.{OfThread, LastWrite, LastRead, LastRelease}
use Rattle.aero_engine.specs.Judgement.{IsTold}
use Rattle.aero_engine.specs.Events.{event, IsIdle}
use Rattle.aero_engine.proofs.LongerTraces.{sound_less, complete_greater}
use Rattle.aero_engine.proofs.Pushes.{untold_start}
use Rattle.aero_access.specs.declared.thread.Thread.{Thread}
use Rattle.aero_access.specs.declared.table.Table.{Table}
use Rattle.aero_access.specs.declared.clocks.Clocks.{Clocks}
use Rattle.aero_access.specs.LastClocks.{kept_clock, kept_thread}
use Rattle.aero_access.specs.Threads.{number_in, thread_clock, thread_begin, thread_begins, thread_acted, AreSameThreads}
use Rattle.aero_access.specs.TableWords.{kept_of}
use Rattle.aero_access.specs.States.{State, IsStateOf}
use Rattle.aero_access.specs.StateWords.{clock_in, state_in, acting, Moves, HaveSameBlocks}
use Rattle.aero_access.specs.Standing.{state_of, closed_by, is_spent, StandsFor, Tells, HaveSameTests, Answers, IsStarted, IsFinished, IsClosed}
use Rattle.aero_access.proofs.OtherSteps.{idle_moves}
use Rattle.aero_access.proofs.StateSteps.{begin_clock_eq}

-- two states with the same in each place
pub record AreSame (w v : State) : Type 0 where
  pub clock : (s : Slot) (u : ℕ) → v.clock s u ≡ w.clock s u
  pub actor : (s : Slot) → v.actor s ≡ w.actor s
  pub acted : (t : ℕ) → v.acted t ≡ w.acted t
  pub begins : (t : ℕ) → v.begins t ≡ w.begins t
  pub in_block : (t : ℕ) → v.in_block t ≡ w.in_block t
  pub begin_clock : (t u : ℕ) → v.begin_clock t u ≡ w.begin_clock t u

pub state_same : (w v : State) (h : List Numbered) → AreSame w v → IsStateOf w h → IsStateOf v h
state_same w v h same is = record {
  untold = record {
    sound = sound_less h (length h) w.clock v.clock (λ s u. omega (arith, same.clock s u)) is.untold.sound;
    complete = complete_greater h (length h) w.clock v.clock (λ s u. omega (arith, same.clock s u)) is.untold.complete;
    none = is.untold.none;
  };
  actor = λ s kept. same.actor s ∙ is.actor s kept;
  acted = λ t. same.acted t ∙ is.acted t;
  begins = λ t. same.begins t ∙ is.begins t;
  in_block = λ t. same.in_block t ∙ is.in_block t;
  begin_clock = λ t inside. begin_clock_eq h (length h) t (w.begin_clock t) (v.begin_clock t) (same.begin_clock t) (is.begin_clock t (sym (same.in_block t) ∙ inside));
}

-- the same threads
pub threads_same : (a b : List Thread) (table : Table) → AreSameThreads a b → AreSame (state_in a table) (state_in b table)
threads_same a b table same = record {
  clock = clocks;
  actor = λ s. refl;
  acted = same.acted;
  begins = same.begins;
  in_block = λ t. ap is_some (same.begin t);
  begin_clock = λ t u. ap (λ o. number_in o u) (same.begin t);
}
  where
    clocks : (s : Slot) (u : ℕ) → clock_in b table s u ≡ clock_in a table s u
    clocks (OfThread t) u = same.clock t u
    clocks (LastWrite x) u = refl
    clocks (LastRead x t) u = refl
    clocks (LastRelease l) u = refl

pub started_state : (old mid : Clocks) (m : ℕ) (h : List Numbered) → IsStarted old mid m → StandsFor old h → IsStateOf (state_of mid) h
started_state old mid m h started stands =
    subst (λ table. IsStateOf (state_in mid.threads.items table) h) (sym started.table)
    (state_same (state_of old) (state_in mid.threads.items old.table) h (threads_same old.threads.items mid.threads.items old.table started.threads) stands.state)

pub finished_state : (done new : Clocks) (t : ℕ) → IsFinished done new t → AreSame (acting (state_of done) t) (state_of new)
finished_state done new t f = record { clock = f.clock; actor = f.actor; acted = f.acted; begins = f.begins; in_block = f.in_block; begin_clock = f.begin_clock }

-- the event as it was moved by, and the call as it ended
pub tells : (old mid done new : Clocks) (m t : ℕ) (what : What) (o : Option ℕ) (closes : Bool)
    → IsStarted old mid m → Moves (state_of mid) (state_of done) (event t what) closes → closed_by done ≡ closed_by mid
    → (closes ≡ true → o ≡ Some t) → (closes ≡ false → o ≡ None) → (closes ≡ false → IsFinished done new t)
    → (h : List Numbered) → StandsFor old h → IsWellFormed (h ++ event t what ∷ []) → Tells new (h ++ event t what ∷ []) (length h) o
tells old mid done new m t what o true started moves closed told untold finished h stands ok = record {
  told = subst (IsTold (h ++ event t what ∷ []) (length h)) (sym (told refl)) (moves.told h (started_state old mid m h started stands) ok refl);
  stands = λ none. let z : Some t ≡ None = sym (told refl) ∙ none in cc;
}
tells old mid done new m t what o false started moves closed told untold finished h stands ok =
    let f = finished refl in
    let state = state_same (acting (state_of done) t) (state_of new) (h ++ event t what ∷ []) (finished_state done new t f) (moves.stands h (started_state old mid m h started stands) ok refl) in
    record {
      told = subst (IsTold (h ++ event t what ∷ []) (length h)) (sym (untold refl)) (λ c. state.untold.none (subst (HasTellingCycle (h ++ event t what ∷ [])) (omega (arith, length-append h (event t what ∷ []))) c));
      stands = λ none. record { unspent = f.spent; unclosed = f.closed ∙ closed ∙ started.closed ∙ stands.unclosed; state = state };
    }

-- the same where the code has moved the list of threads itself
pub follows : (old mid done new : Clocks) (now after : List Thread) (m t : ℕ) (what : What) (o : Option ℕ) (closes : Bool)
    → IsStarted old mid m → now ≡ mid.threads.items → done.threads.items ≡ after → closed_by done ≡ closed_by mid
    → Moves (state_in now mid.table) (state_in after done.table) (event t what) closes
    → (closes ≡ true → o ≡ Some t) → (closes ≡ false → o ≡ None) → (closes ≡ false → IsFinished done new t)
    → (h : List Numbered) → StandsFor old h → IsWellFormed (h ++ event t what ∷ []) → Tells new (h ++ event t what ∷ []) (length h) o
follows old mid done new now after m t what o closes started value back closed moves told untold finished =
    tells old mid done new m t what o closes started
    (subst (λ xs. Moves (state_of mid) (state_in xs done.table) (event t what) closes) (sym back)
    (subst (λ xs. Moves (state_in xs mid.table) (state_in after done.table) (event t what) closes) value moves))
    closed told untold finished

-- at first
pub stands_at_first : (c : Clocks) → is_spent c ≡ false → closed_by c ≡ None → c.threads.items ≡ [] → ((s : Slot) → kept_of c.table s ≡ None) → StandsFor c []
stands_at_first c unspent unclosed none kept = record {
  unspent = unspent;
  unclosed = unclosed;
  state = state_same nothing (state_of c) [] same at_first;
}
  where
    nothing : State
    nothing = record { clock = λ s u. 0; actor = λ s. None; acted = λ t. false; begins = λ t. 0; in_block = λ t. false; begin_clock = λ t u. 0 }

    clocks : (s : Slot) (u : ℕ) → clock_in c.threads.items c.table s u ≡ 0
    clocks (OfThread t) u = ap (λ xs. thread_clock (slice_get xs t) u) none
    clocks (LastWrite x) u = ap (λ o. kept_clock o u) (kept (LastWrite x))
    clocks (LastRead x t) u = ap (λ o. kept_clock o u) (kept (LastRead x t))
    clocks (LastRelease l) u = ap (λ o. kept_clock o u) (kept (LastRelease l))

    same : AreSame nothing (state_of c)
    same = record {
      clock = clocks;
      actor = λ s. ap kept_thread (kept s);
      acted = λ t. ap (λ xs. thread_acted (slice_get xs t)) none;
      begins = λ t. ap (λ xs. thread_begins (slice_get xs t)) none;
      in_block = λ t. ap (λ xs. is_some (thread_begin (slice_get xs t))) none;
      begin_clock = λ t u. ap (λ xs. number_in (thread_begin (slice_get xs t)) u) none;
    }

    at_first : IsStateOf nothing []
    at_first = record {
      untold = untold_start;
      actor = λ s k. refl;
      acted = λ t. refl;
      begins = λ t. refl;
      in_block = λ t. refl;
      begin_clock = λ t inside. cc;
    }

past : (xs : List Thread) (i : ℕ) → slice_get xs i ≡ None → length xs ≤ i
past [] i h = omega arith
past (x ∷ xs) zero h = cc
past (x ∷ xs) (suc i) h = omega (arith, past xs i h)

-- an event without a clock rule
pub follows_idle : (old mid new : Clocks) (t : ℕ) → IsStarted old mid t → IsFinished mid new t
    → (h : List Numbered) (what : What) → StandsFor old h → IsWellFormed (h ++ event t what ∷ []) → IsIdle h t what → Tells new (h ++ event t what ∷ []) (length h) None
follows_idle old mid new t started f h what stands ok idle = go (slice_get mid.threads.items t) refl
  where
    go : (o : Option Thread) → slice_get mid.threads.items t ≡ o → Tells new (h ++ event t what ∷ []) (length h) None
    go None at = absurd (omega (arith, started.room, past mid.threads.items t at))
    go (Some th) at =
        let state = state_same (acting (state_of mid) t) (state_of new) (h ++ event t what ∷ []) (finished_state mid new t f)
        (idle_moves mid.threads.items mid.table t th at h what (started_state old mid t h started stands) ok idle) in
        record {
          told = λ c. state.untold.none (subst (HasTellingCycle (h ++ event t what ∷ [])) (omega (arith, length-append h (event t what ∷ []))) c);
          stands = λ none. record { unspent = f.spent; unclosed = f.closed ∙ started.closed ∙ stands.unclosed; state = state };
        }

-- what the call leaves
pub answered : (old mid done new : Clocks) (now after : List Thread) (m t : ℕ) (o : Option ℕ) (closes : Bool)
    → IsStarted old mid m → now ≡ mid.threads.items → done.threads.items ≡ after → closed_by done ≡ closed_by mid → closed_by old ≡ None → HaveSameBlocks now after
    → (closes ≡ true → o ≡ Some t) → (closes ≡ true → IsClosed done new t) → (closes ≡ false → o ≡ None) → (closes ≡ false → IsFinished done new t)
    → Answers old new (Ok o)
answered old mid done new now after m t o closes started value back closed unclosed same told closed_now untold finished = record {
  spent = λ s. absurd (both_ways (is_spent old) started.unspent s);
  unspent = unspent closes refl;
  refused = tt;
  closed = closed_is closes refl;
  closed_err = tt;
  tests = tests closes refl;
  tests_err = tt;
}
  where
    blocks : HaveSameBlocks mid.threads.items done.threads.items
    blocks = subst (λ xs. HaveSameBlocks mid.threads.items xs) (sym back) (subst (λ xs. HaveSameBlocks xs after) value same)

    unspent : (b : Bool) → closes ≡ b → is_spent new ≡ false
    unspent true e = (closed_now e).spent
    unspent false e = (finished e).spent

    closed_is : (b : Bool) → closes ≡ b → closed_by new ≡ o
    closed_is true e = (closed_now e).closed ∙ sym (told e)
    closed_is false e = (finished e).closed ∙ closed ∙ started.closed ∙ unclosed ∙ sym (untold e)

    tests : (b : Bool) → closes ≡ b → IsSome o → HaveSameTests old new
    tests true e some =
        let c = (closed_now e).tests in
        record {
          in_block = λ u. c.in_block u ∙ ap is_some (blocks.begin u) ∙ ap is_some (started.threads.begin u);
          begins = λ u. c.begins u ∙ blocks.begins u ∙ started.threads.begins u;
          acted = λ u. c.acted u ∙ blocks.acted u ∙ started.threads.acted u;
        }
    tests false e some = absurd (nothing o (untold e) some)
      where
        nothing : (o : Option ℕ) → o ≡ None → IsSome o → ⊥
        nothing None e some = cc
        nothing (Some v) e some = cc
