-- Sound and complete clocks by what places reach, and what a thread's own blocks reach.
use Rattle.std.proofs.Common.{◌≡◌, ◌⊎◌, ℕ, zero, suc, ◌<◌, ◌≤◌, inl, inr, ⊎_elim, List, [], ◌∷◌, Some, sym, ap, ◌∙◌, subst, arith}
use Rattle.std.specs.Prelude.{slice_get, Contains, true, false}
use Rattle.std.proofs.lemmas.Bool.{cases_lt, both_ways, and_parts}
use Rattle.std.proofs.lemmas.Option.{same_Some}
use Rattle.aero_model.specs.declared.numbered.Numbered.{Numbered}
use Rattle.aero_model.specs.Blocks.{is_end, closes, blocks, Transaction, Block}
use Rattle.aero_model.specs.Graph.{same_thread}
use Rattle.aero_model.proofs.Elements.{none_in, here, there}
use Rattle.aero_model.proofs.Reach.{Reach, reach_trans, reach_from_within, reach_more}
use Rattle.aero_model.proofs.Places.{in_block}
use Rattle.aero_model.proofs.Ends.{is_by, begin_in}
use Rattle.aero_model.proofs.Begins.{blocks_rise, begin_of, begin_inside}
use Rattle.aero_model.proofs.Next.{cases_closes}
use Rattle.aero_model.proofs.Walks.{Reaches, reaches_from_leads, leads_from_reaches}
use Rattle.aero_engine.specs.declared.slot.Slot.{Slot}
use Rattle.aero_engine.specs.Clocks.{Clock, IsSound, MissesNothing, greatest}
use Rattle.aero_engine.proofs.Sources.{reach_later, Latest, reach_latest}

module _ (trace : List Numbered) (n : ℕ) (K : Clock) (j : ℕ) where
  pub sound_reaches : IsSound trace n K j → (u k : ℕ) → 0 < k → k ≤ K u → Reaches trace n (Block u k) j
  sound_reaches sound u k pos le = reaches_from_leads trace n (Block u k) j (sound.leads u k pos le)

  pub sound_from : ((u k : ℕ) → 0 < k → k ≤ K u → Reaches trace n (Block u k) j) → IsSound trace n K j
  sound_from h = record { leads = λ u k pos le. leads_from_reaches trace n (Block u k) j (h u k pos le) }

  pub complete_counts : MissesNothing trace n K j → (u k : ℕ) → Reaches trace n (Block u k) j → k ≤ K u
  complete_counts complete u k r = complete.counts u k (leads_from_reaches trace n (Block u k) j r)

  pub complete_from : ((u k : ℕ) → Reaches trace n (Block u k) j → k ≤ K u) → MissesNothing trace n K j
  complete_from h = record { counts = λ u k l. h u k (reaches_from_leads trace n (Block u k) j l) }

pub reaches_on : (trace : List Numbered) (n : ℕ) (x : Transaction) (i j : ℕ) → Reaches trace n x i → Reach trace n i j → Reaches trace n x j
reaches_on trace n x i j r q = record { from = r.from; inside = r.inside; reach = reach_trans trace n r.from i j r.reach q }

pub reaches_more : (trace : List Numbered) (n : ℕ) (x : Transaction) (j : ℕ) → Reaches trace n x j → Reaches trace (suc n) x j
reaches_more trace n x j r = record { from = r.from; inside = r.inside; reach = reach_more trace n (suc n) r.from j (omega arith) r.reach }

-- each block of a thread that has begun by its event at place j reaches it
pub own_reaches : (trace : List Numbered) (n t k j : ℕ) (f : Numbered) → 0 < k → k ≤ blocks trace t (suc j) → j < n → slice_get trace j ≡ Some f → f.thread ≡ t → Reaches trace n (Block t k) j
own_reaches trace n t k j f pos le l at h =
    let b = begin_of trace t (suc j) k pos le in
    let g = begin_in trace t b.place b.opening in
    record {
      from = b.place;
      inside = begin_inside trace t (suc j) k b;
      reach = reach_later trace n b.place j g.event f (omega (arith, b.before)) l g.event_at at (λ _. same_thread (g.thread ∙ sym h));
    }

-- and its last event
pub own_latest : (trace : List Numbered) (n t k : ℕ) (l : Latest trace n t) → 0 < k → k ≤ blocks trace t n → Reaches trace n (Block t k) l.place
own_latest trace n t k l pos le =
    let b = begin_of trace t n k pos le in
    let g = begin_in trace t b.place b.opening in
    record { from = b.place; inside = begin_inside trace t n k b; reach = reach_latest trace n t l b.place g.event b.before g.event_at g.thread }

-- a block that reaches a place is one of those that its thread has begun
pub reaches_begun : (trace : List Numbered) (n t k j : ℕ) → Reaches trace n (Block t k) j → k ≤ blocks trace t n
reaches_begun trace n t k j r =
    let h = in_block trace r.from t k r.inside in
    omega (arith, h.number, blocks_rise trace t (suc r.from) n (reach_from_within trace n r.from j r.reach))

-- the greatest of some clocks
pub greatest_above : (clocks : Slot → Clock) (s : Slot) (ss : List Slot) (u : ℕ) → Contains ss s → clocks s u ≤ greatest clocks ss u
greatest_above clocks s [] u a = absurd (none_in a)
greatest_above clocks s (r ∷ ss) u (zero, l, e) = omega (arith, ap (λ q. clocks q u) e)
greatest_above clocks s (r ∷ ss) u (suc k, l, e) = omega (arith, greatest_above clocks s ss u (k, omega arith, e))

pub greatest_least : (clocks : Slot → Clock) (ss : List Slot) (u k : ℕ) → 0 < k → k ≤ greatest clocks ss u → (s : Slot) × Contains ss s × (k ≤ clocks s u)
greatest_least clocks [] u k pos le = absurd (omega arith)
greatest_least clocks (s ∷ ss) u k pos le =
    ⊎_elim
    (λ l. (s, here ss, omega arith))
    (λ l. let r = greatest_least clocks ss u k pos (omega arith) in (r.0, there s ss r.1, r.2))
    (cases_lt k (suc (clocks s u)))

-- an event that is no outermost end of its own thread is none of any thread
pub quiet_from : (trace : List Numbered) (n : ℕ) (e : Numbered) → slice_get trace n ≡ Some e → closes trace e.thread n ≡ false → (t : ℕ) → closes trace t n ≡ false
quiet_from trace n e at no_end = go (cases_closes trace n)
  where
    go : ((t : ℕ) × (closes trace t n ≡ true)) ⊎ ((t : ℕ) → closes trace t n ≡ false) → (t : ℕ) → closes trace t n ≡ false
    go (inr quiet) t = quiet t
    go (inl (v, c)) t =
        let f = is_by v is_end (slice_get trace n) (and_parts _ _ c).0 in
        let same : e.thread ≡ v = ap (λ (a : Numbered). a.thread) (same_Some e f.event (sym at ∙ f.at)) ∙ f.thread in
        absurd (both_ways _ no_end (subst (λ w. closes trace w n ≡ true) (sym same) c))
