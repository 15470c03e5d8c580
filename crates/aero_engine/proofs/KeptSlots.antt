-- Which slots an event becomes the last one of, by what it does: its thread's, and one more.
use Rattle.std.proofs.Common.{◌≡◌, ℕ, ◌⊎◌, inl, inr, ⊎_elim, sym, ap}
use Rattle.std.specs.Prelude.{Bool, true, false, ◌==◌}
use Rattle.std.proofs.lemmas.Bool.{eqb-true, and_parts}
use Rattle.aero_model.specs.declared.numbered.Numbered.{Numbered}
use Rattle.aero_model.specs.declared.numbered.What.{What}
use Rattle.aero_model.specs.declared.numbered.What.TheVariants.{Read, Write, Acquire, Release, Fork, Join, Begin, End, Exempt}
use Rattle.aero_model.proofs.Locks.{release_is}
use Rattle.aero_engine.specs.declared.slot.Slot.{Slot}
use Rattle.aero_engine.specs.declared.slot.Slot.TheVariants.{OfThread, LastWrite, LastRead, LastRelease}
use Rattle.aero_engine.specs.Slots.{is_read_of, of_slot}
use Rattle.aero_engine.proofs.LastEvents.{read_is, write_is, of_thread}

-- the slot beside the thread's own, that the event is the last one of
pub data Another (e : Numbered) : Slot → Type 0 where
  reads : (x : ℕ) → e.what ≡ Read x → Another e (LastRead x e.thread)
  writes : (x : ℕ) → e.what ≡ Write x → Another e (LastWrite x)
  releases : (l : ℕ) → e.what ≡ Release l → Another e (LastRelease l)
  forks : (u : ℕ) → e.what ≡ Fork u → Another e (OfThread u)

pub kept_by : (e : Numbered) (s : Slot) → of_slot s e ≡ true → (s ≡ OfThread e.thread) ⊎ Another e s
kept_by e (OfThread t) h = ⊎_elim (λ k. inl (ap OfThread (sym k))) (λ k. inr (forks t k)) (of_thread t e h)
kept_by e (LastWrite x) h = inr (writes x (write_is x e.what h))
kept_by e (LastRead x t) h =
    let parts = and_parts (e.thread == t) (is_read_of x e.what) h in
    let by : e.thread ≡ t = eqb-true e.thread t parts.0 in
    inr (rw (← by) (reads x (read_is x e.what parts.1)))
kept_by e (LastRelease l) h = inr (releases l (release_is l e.what h))

-- a begin or an end, exempt or not, an acquire or a join is the last event of its thread alone
abbrev pub keeps_own : What → Bool
keeps_own (Begin label) = true
keeps_own End = true
keeps_own Exempt = true
keeps_own (Acquire l) = true
keeps_own (Join u) = true
keeps_own _ = false

pub kept_by_own : (e : Numbered) (s : Slot) → keeps_own e.what ≡ true → of_slot s e ≡ true → s ≡ OfThread e.thread
kept_by_own e s own h = ⊎_elim (λ k. k) (λ a. none s a) (kept_by e s h)
  where
    none : (s : Slot) → Another e s → s ≡ OfThread e.thread
    none _ (reads x k) = let z = ap keeps_own k in cc
    none _ (writes x k) = let z = ap keeps_own k in cc
    none _ (releases l k) = let z = ap keeps_own k in cc
    none _ (forks u k) = let z = ap keeps_own k in cc
