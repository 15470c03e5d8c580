-- The rows after an outermost end.
use Rattle.std.proofs.Common.{◌≡◌, ◌≢◌, ℕ, suc, ◌<◌, ◌≤◌, ◌⊎◌, inl, inr, ⊎_elim, List, Option, Some, None, refl, sym, ap, ◌∙◌, subst, min, arith}
use Rattle.std.specs.Prelude.{Bool, true, false, ◌==◌, if◌then◌else◌, is_some, slice_get}
use Rattle.std.proofs.lemmas.Bool.{cases_lt, cases_eq, both_ways, and_parts, eq-eqb, ne_eqb, cond-true, cond-false}
use Rattle.std.proofs.lemmas.Option.{same_Some}
use Rattle.aero_model.specs.declared.numbered.Numbered.{Numbered}
use Rattle.aero_model.specs.declared.numbered.What.{What}
use Rattle.aero_model.specs.Blocks.{is_begin, is_end, by_thread, depth, closes, blocks, Transaction, Block}
use Rattle.aero_model.specs.Shape.{IsWellFormed}
use Rattle.aero_model.proofs.Depths.{AtOpening, AtClosing, AtOther, step, closing_at}
use Rattle.aero_model.proofs.Ends.{is_by}
use Rattle.aero_model.proofs.Walks.{Reaches}
use Rattle.aero_engine.specs.declared.slot.Slot.TheVariants.{OfThread}
use Rattle.aero_engine.specs.Slots.{of_slot}
use Rattle.aero_engine.proofs.LastEvents.{of_thread, last_covers}
use Rattle.aero_engine.proofs.Sources.{Latest}
use Rattle.aero_engine.proofs.Counts.{reaches_on, reaches_more}
use Rattle.aero_engine.proofs.EndSteps.{block, last, reaches_to_end, reaches_after, reaches_through}
use Rattle.aero_leads.specs.Leads.{Rows, IsPlaceOf, IsFirst, AreFirst}
use Rattle.aero_leads.specs.Steps.{lesser, end_rows}
use Rattle.aero_leads.proofs.FirstPlaces.{thread_chain, first_some, first_of, first_reaches, first_least, none_from, none_at, some_from, place_more, place_less}
use Rattle.aero_leads.proofs.Marked.{last_place}

-- the end of one thread's block is no begin and no end of another thread
pub not_by : (trace : List Numbered) (n t u : ℕ) → closes trace t n ≡ true → u ≢ t → (test : What → Bool) → by_thread u test (slice_get trace n) ≡ true → ⊥
not_by trace n t u closing other test h =
    let f = is_by t is_end (slice_get trace n) (and_parts _ _ closing).0 in
    let g = is_by u test (slice_get trace n) h in
    other (sym g.thread ∙ ap (λ (a : Numbered). a.thread) (same_Some g.event f.event (sym g.at ∙ f.at)) ∙ f.thread)

-- and leaves the other thread as it was
pub other_at_end : (trace : List Numbered) (n t u : ℕ) → closes trace t n ≡ true → u ≢ t → AtOther trace u n
other_at_end trace n t u closing other = go (step trace u n)
  where
    go : AtOpening trace u n ⊎ (AtClosing trace u n ⊎ AtOther trace u n) → AtOther trace u n
    go (inl s) = absurd (not_by trace n t u closing other is_begin (and_parts _ _ s.opens).0)
    go (inr (inl s)) = absurd (not_by trace n t u closing other is_end (and_parts _ _ s.closes).0)
    go (inr (inr s)) = s

-- the first place of what leads there by one of two ways
module _ (trace : List Numbered) (n : ℕ) (x b : Transaction) (o : ℕ) where
  -- an earlier place of the thread, to which one of the two led
  abbrev Earlier : ℕ → Type 0
  Earlier j = (i : ℕ) × (i ≤ j) × IsPlaceOf trace n o i × (Reaches trace n x i ⊎ Reaches trace n b i)

  lesser_first :
      ((j : ℕ) → j < n → Reaches trace n x j ⊎ Reaches trace n b j → Reaches trace (suc n) x j)
      → ((j : ℕ) → IsPlaceOf trace (suc n) o j → Reaches trace (suc n) x j → Earlier j)
      → (r q : Option ℕ) → IsFirst trace n x o r → IsFirst trace n b o q → IsFirst trace (suc n) x o (lesser r q)
  lesser_first up down None None f g =
      none_from trace (suc n) x o
      (λ j i w. let s = down j i w in ⊎_elim (λ h. none_at trace n x o f s.0 s.2 h) (λ h. none_at trace n b o g s.0 s.2 h) s.3)
  lesser_first up down (Some p) None f g =
      some_from trace (suc n) x o p (place_more trace n o p f.0) (let i = f.0 in up p i.below (inl (first_reaches trace n x o p f)))
      (λ j i w. let s = down j i w in ⊎_elim (λ h. omega (arith, s.1, first_least trace n x o p f s.0 s.2 h)) (λ h. absurd (none_at trace n b o g s.0 s.2 h)) s.3)
  lesser_first up down None (Some q) f g =
      some_from trace (suc n) x o q (place_more trace n o q g.0) (let i = g.0 in up q i.below (inr (first_reaches trace n b o q g)))
      (λ j i w. let s = down j i w in ⊎_elim (λ h. absurd (none_at trace n x o f s.0 s.2 h)) (λ h. omega (arith, s.1, first_least trace n b o q g s.0 s.2 h)) s.3)
  lesser_first up down (Some p) (Some q) f g = ⊎_elim at_p at_q (cases_lt p q)
    where
      least : (j : ℕ) → IsPlaceOf trace (suc n) o j → Reaches trace (suc n) x j → min p q ≤ j
      least j i w =
          let s = down j i w in
          ⊎_elim
          (λ h. omega (arith, s.1, first_least trace n x o p f s.0 s.2 h))
          (λ h. omega (arith, s.1, first_least trace n b o q g s.0 s.2 h))
          s.3

      at_p : p < q → IsFirst trace (suc n) x o (Some (min p q))
      at_p l =
          let same : p ≡ min p q = omega arith in
          let i = f.0 in
          some_from trace (suc n) x o (min p q) (subst (IsPlaceOf trace (suc n) o) same (place_more trace n o p f.0)) (subst (Reaches trace (suc n) x) same (up p i.below (inl (first_reaches trace n x o p f)))) least

      at_q : q ≤ p → IsFirst trace (suc n) x o (Some (min p q))
      at_q l =
          let same : q ≡ min p q = omega arith in
          let i = g.0 in
          some_from trace (suc n) x o (min p q) (subst (IsPlaceOf trace (suc n) o) same (place_more trace n o q g.0)) (subst (Reaches trace (suc n) x) same (up q i.below (inr (first_reaches trace n b o q g)))) least

  kept_first :
      ((j : ℕ) → j < n → Reaches trace n x j → Reaches trace (suc n) x j)
      → ((j : ℕ) → IsPlaceOf trace (suc n) o j → Reaches trace (suc n) x j → (i : ℕ) × (i ≤ j) × IsPlaceOf trace n o i × Reaches trace n x i)
      → (r : Option ℕ) → IsFirst trace n x o r → IsFirst trace (suc n) x o r
  kept_first up down None f = none_from trace (suc n) x o (λ j i w. let s = down j i w in none_at trace n x o f s.0 s.2 s.3)
  kept_first up down (Some p) f =
      some_from trace (suc n) x o p (place_more trace n o p f.0) (let i = f.0 in up p i.below (first_reaches trace n x o p f))
      (λ j i w. let s = down j i w in omega (arith, s.1, first_least trace n x o p f s.0 s.2 s.3))

module _ (trace : List Numbered) (ok : IsWellFormed trace) (n : ℕ) (e : Numbered) (at : slice_get trace n ≡ Some e) (closing : closes trace e.thread n ≡ true) (rows : Rows) (first : AreFirst trace n rows) where
  abbrev t : ℕ
  t = e.thread

  abbrev ended : Transaction
  ended = block trace ok n t closing

  abbrev l : Latest trace n t
  l = last trace ok n t closing

  ended_first : (o : ℕ) → IsFirst trace n ended o (rows o t)
  ended_first o = first.is_open o t (let c = closing_at trace t n closing in omega (arith, c.before))

  -- place n is of its own thread alone
  end_is_own : (o : ℕ) → IsPlaceOf trace (suc n) o n → o ≡ t
  end_is_own o b =
      let f = is_by t is_end (slice_get trace n) (and_parts _ _ closing).0 in
      let same = same_Some b.event e (sym b.event_at ∙ at) in
      let here = same_Some f.event e (sym f.at ∙ at) in
      ⊎_elim
      (λ h. sym h ∙ ap (λ (a : Numbered). a.thread) same)
      (λ h. let z = ap is_end (sym h ∙ ap (λ (a : Numbered). a.what) (same ∙ sym here)) ∙ f.passes in cc)
      (of_thread o b.event b.of_thread)

  module _ (w : ℕ) (other : w ≢ t) (d : 0 < depth trace w n) where
    abbrev x : Transaction
    x = Block w (blocks trace w n)

    is_first : (o : ℕ) → IsFirst trace n x o (rows o w)
    is_first o = first.is_open o w d

    -- the block leads to the thread's last event exactly where the thread's row has it
    some_reaches : is_some (rows t w) ≡ true → Reaches trace n x l.place
    some_reaches h =
        let p = first_of trace n x t (rows t w) (is_first t) h in
        let i = p.1 in
        let k = l in
        let q = last_covers (of_slot (OfThread t)) trace n p.0 i.event i.event_at i.of_thread i.below in
        let le : p.0 ≤ k.place = omega (arith, q.2, same_Some q.0 k.place (sym q.1 ∙ k.last)) in
        reaches_on trace n x p.0 k.place p.2 (thread_chain trace ok n t p.0 k.place i (last_place trace n t k.place k.last) le)

    reaches_some : Reaches trace n x l.place → is_some (rows t w) ≡ true
    reaches_some r = let k = l in first_some trace n x t (rows t w) (is_first t) k.place (last_place trace n t k.place k.last) r

    -- place n comes after the last event
    before_end : (o j : ℕ) → IsPlaceOf trace (suc n) o j → n ≤ j → Reaches trace (suc n) x j → (i : ℕ) × (i ≤ j) × IsPlaceOf trace n o i × Reaches trace n x i
    before_end o j b le r =
        let here : j ≡ n = omega (arith, b.below) in
        let same = end_is_own o (subst (IsPlaceOf trace (suc n) o) here b) in
        let k = l in
        (k.place, omega (arith, k.below), subst (λ v. IsPlaceOf trace n v k.place) (sym same) (last_place trace n t k.place k.last), reaches_to_end trace ok n t closing x (subst (Reaches trace (suc n) x) here r))

    -- it leads to the thread: so it leads to all that the block led to
    joined_row : is_some (rows t w) ≡ true → (o : ℕ) → IsFirst trace (suc n) x o (lesser (rows o w) (rows o t))
    joined_row h o = lesser_first trace n x ended o up down (rows o w) (rows o t) (is_first o) (ended_first o)
      where
        up : (j : ℕ) → j < n → Reaches trace n x j ⊎ Reaches trace n ended j → Reaches trace (suc n) x j
        up j less (inl r) = reaches_more trace n x j r
        up j less (inr r) = reaches_through trace ok n t closing x j (some_reaches h) r

        down : (j : ℕ) → IsPlaceOf trace (suc n) o j → Reaches trace (suc n) x j → (i : ℕ) × (i ≤ j) × IsPlaceOf trace n o i × (Reaches trace n x i ⊎ Reaches trace n ended i)
        down j b r =
            ⊎_elim
            (λ less. (j, omega arith, place_less trace n o j less b, ⊎_elim (λ k. inl k) (λ k. inr k.1) (reaches_after trace ok n t closing x j less r)))
            (λ le. let s = before_end o j b le r in (s.0, s.1, s.2, inl s.3))
            (cases_lt j n)

    -- it doesn't: so nothing changes
    kept_row : is_some (rows t w) ≡ false → (o : ℕ) → IsFirst trace (suc n) x o (rows o w)
    kept_row h o = kept_first trace n x ended o (λ j less r. reaches_more trace n x j r) down (rows o w) (is_first o)
      where
        down : (j : ℕ) → IsPlaceOf trace (suc n) o j → Reaches trace (suc n) x j → (i : ℕ) × (i ≤ j) × IsPlaceOf trace n o i × Reaches trace n x i
        down j b r =
            ⊎_elim
            (λ less. (j, omega arith, place_less trace n o j less b, ⊎_elim (λ k. k) (λ k. absurd (both_ways _ h (reaches_some k.0))) (reaches_after trace ok n t closing x j less r)))
            (λ le. before_end o j b le r)
            (cases_lt j n)

    row_after : (o : ℕ) → IsFirst trace (suc n) x o (end_rows t rows o w)
    row_after o = subst (IsFirst trace (suc n) x o) (sym (cond-false (w == t) _ _ (ne_eqb w t other))) (go (is_some (rows t w)) refl)
      where
        go : (b : Bool) → is_some (rows t w) ≡ b → IsFirst trace (suc n) x o (if b then lesser (rows o w) (rows o t) else rows o w)
        go true h = joined_row h o
        go false h = kept_row h o

  open_after : (o w : ℕ) → 0 < depth trace w (suc n) → IsFirst trace (suc n) (Block w (blocks trace w (suc n))) o (end_rows t rows o w)
  open_after o w d = ⊎_elim own others (cases_eq w t)
    where
      own : w ≡ t → IsFirst trace (suc n) (Block w (blocks trace w (suc n))) o (end_rows t rows o w)
      own h = let c = closing_at trace t n closing in absurd (omega (arith, d, ap (λ v. depth trace v (suc n)) h, c.after))

      others : w ≢ t → IsFirst trace (suc n) (Block w (blocks trace w (suc n))) o (end_rows t rows o w)
      others h =
          let s = other_at_end trace n t w closing h in
          let inside : 0 < depth trace w n = ⊎_elim (λ less. less) (λ le. let z : depth trace w n ≡ 0 = omega arith in absurd (omega (arith, d, s.outside z))) (cases_lt 0 (depth trace w n)) in
          subst (λ k. IsFirst trace (suc n) (Block w k) o (end_rows t rows o w)) (sym s.number) (row_after w h inside o)

  outside_after : (o w : ℕ) → depth trace w (suc n) ≡ 0 → end_rows t rows o w ≡ None
  outside_after o w z = ⊎_elim (λ h. cond-true (w == t) _ _ (eq-eqb w t h)) others (cases_eq w t)
    where
      others : w ≢ t → end_rows t rows o w ≡ None
      others h =
          let s = other_at_end trace n t w closing h in
          let was : depth trace w n ≡ 0 = ⊎_elim (λ less. absurd (omega (arith, s.inside less))) (λ le. omega arith) (cases_lt 0 (depth trace w n)) in
          cond-false (w == t) _ _ (ne_eqb w t h)
          ∙ cond-false (is_some (rows t w)) _ _ (ap is_some (first.outside t w was))
          ∙ first.outside o w was

  pub first_after_end : AreFirst trace (suc n) (end_rows e.thread rows)
  first_after_end = record { is_open = open_after; outside = outside_after }
