-- The rows after an event that ends no block.
use Rattle.std.proofs.Common.{◌≡◌, ℕ, zero, suc, ◌+◌, ◌<◌, ◌≤◌, ◌⊎◌, inl, inr, ⊎_elim, List, [], ◌∷◌, Option, Some, None, refl, sym, ap, ◌∙◌, subst, arith}
use Rattle.std.specs.Prelude.{Bool, true, false, ◌||◌, is_some, slice_get, Contains}
use Rattle.std.proofs.lemmas.Bool.{cases_lt, cases_Bool, both_ways, or_cases, or_left, or_right, cond-true, cond-false}
use Rattle.std.proofs.lemmas.Option.{same_Some}
use Rattle.aero_model.specs.declared.numbered.Numbered.{Numbered}
use Rattle.aero_model.specs.Blocks.{depth, opens, closes, blocks, Transaction, Block, transaction}
use Rattle.aero_model.specs.Graph.{Conflict, same_thread, forks}
use Rattle.aero_model.specs.Shape.{IsWellFormed}
use Rattle.aero_model.proofs.Elements.{none_in, here, there}
use Rattle.aero_model.proofs.Reach.{stay, on, reach_from_within}
use Rattle.aero_model.proofs.Places.{in_block, block_from}
use Rattle.aero_model.proofs.Depths.{AtOpening, AtClosing, AtOther, step}
use Rattle.aero_model.proofs.Ends.{begin_in}
use Rattle.aero_model.proofs.Begins.{blocks_rise, open_number}
use Rattle.aero_model.proofs.Next.{reach_from_last, reach_before, reach_last}
use Rattle.aero_model.proofs.Walks.{Reaches, leads_from_reaches}
use Rattle.aero_engine.specs.declared.slot.Slot.TheVariants.{OfThread}
use Rattle.aero_engine.specs.Slots.{of_slot}
use Rattle.aero_engine.proofs.LastEvents.{of_thread}
use Rattle.aero_engine.proofs.Sources.{latest, acted_by_block}
use Rattle.aero_engine.proofs.Counts.{reaches_on, reaches_more, own_latest}
use Rattle.aero_leads.specs.Leads.{Rows, is_led, IsPlaceOf, IsFirst, AreFirst}
use Rattle.aero_leads.specs.Marks.{Mark}
use Rattle.aero_leads.specs.Steps.{led_by, gains, arrives, event_rows}
use Rattle.aero_leads.proofs.FirstPlaces.{first_some, first_of, first_reaches, first_least, none_from, none_at, some_from, led_reaches, reaches_led, place_more, place_less}
use Rattle.aero_leads.proofs.Marked.{ReachesOwn, ReachesMark, ReachesPassed, Stood, taken_place, last_place}

-- marks and what leads to them
pub led_mark : (rows : Rows) (w : ℕ) (ms : List Mark) → led_by rows w ms ≡ true → (m : Mark) × Contains ms m × (is_led (rows m.thread w) m.place ≡ true)
led_mark rows w [] h = absurd (cc)
led_mark rows w (m ∷ ms) h =
    ⊎_elim
    (λ k. (m, here ms, k))
    (λ k. let r = led_mark rows w ms k in (r.0, there m ms r.1, r.2))
    (or_cases (is_led (rows m.thread w) m.place) (led_by rows w ms) h)

pub mark_led : (rows : Rows) (w : ℕ) (m : Mark) (ms : List Mark) → Contains ms m → is_led (rows m.thread w) m.place ≡ true → led_by rows w ms ≡ true
mark_led rows w m [] a h = absurd (none_in a)
mark_led rows w m (r ∷ ms) (zero, l, e) h = or_left _ _ (subst (λ (k : Mark). is_led (rows k.thread w) k.place ≡ true) (sym e) h)
mark_led rows w m (r ∷ ms) (suc k, l, e) h = or_right (is_led (rows r.thread w) r.place) _ (mark_led rows w m ms (k, omega arith, e) h)

is_led_none : (r : Option ℕ) (p : ℕ) → r ≡ None → is_led r p ≡ false
is_led_none r p h = ap (λ o. is_led o p) h

led_none : (rows : Rows) (w : ℕ) → ((o : ℕ) → rows o w ≡ None) → (ms : List Mark) → led_by rows w ms ≡ false
led_none rows w none [] = refl
led_none rows w none (m ∷ ms) = ap (λ b. b || led_by rows w ms) (is_led_none (rows m.thread w) m.place (none m.thread)) ∙ led_none rows w none ms

module _ (trace : List Numbered) (ok : IsWellFormed trace) (n : ℕ) (e : Numbered) (at : slice_get trace n ≡ Some e) (quiet : (t : ℕ) → closes trace t n ≡ false) (ms : List Mark) (st : Stood trace n e ms) (rows : Rows) (first : AreFirst trace n rows) where
  abbrev comes : ℕ → Bool
  comes w = arrives trace n e ms rows w

  -- the new place, by whether the event is of thread o
  row_of : (o w : ℕ) → of_slot (OfThread o) e ≡ true → event_rows trace n e ms rows o w ≡ gains (rows o w) (comes w) n
  row_of o w h = cond-true (of_slot (OfThread o) e) _ _ h

  row_kept : (o w : ℕ) → of_slot (OfThread o) e ≡ false → event_rows trace n e ms rows o w ≡ rows o w
  row_kept o w h = cond-false (of_slot (OfThread o) e) _ _ h

  place_now : (o : ℕ) → of_slot (OfThread o) e ≡ true → IsPlaceOf trace (suc n) o n
  place_now o h = record { below = omega arith; event = e; event_at = at; of_thread = h }

  now_of : (o : ℕ) → IsPlaceOf trace (suc n) o n → of_slot (OfThread o) e ≡ true
  now_of o b = ap (of_slot (OfThread o)) (same_Some e b.event (sym at ∙ b.event_at)) ∙ b.of_thread

  -- a place of the own thread conflicts with the event
  own_conflict : (p : ℕ) → IsPlaceOf trace n e.thread p → Conflict trace p n
  own_conflict p b = record { earlier = b.below; first = b.event; first_at = b.event_at; second = e; second_at = at; conflict = ⊎_elim (λ h. same_thread h) (λ h. forks h) (of_thread e.thread b.event b.of_thread) }

  -- what reaches a place that conflicts with the event reaches it
  reaches_now : (x : Transaction) (p : ℕ) → Reaches trace n x p → Conflict trace p n → Reaches trace (suc n) x n
  reaches_now x p r c = reaches_on trace (suc n) x p n (reaches_more trace n x p r) (on p n (stay (omega (arith, c.earlier))) c (omega arith))

  reaches_old : (x : Transaction) (p : ℕ) → p < n → Reaches trace (suc n) x p → Reaches trace n x p
  reaches_old x p l r = record { from = r.from; inside = r.inside; reach = reach_before trace n quiet r.from p r.reach l }

  -- a thread in no block
  none_comes : (w : ℕ) → ((o : ℕ) → rows o w ≡ None) → opens trace w n ≡ false → comes w ≡ false
  none_comes w none shut =
      ap (λ r. is_some r || (led_by rows w ms || opens trace w n)) (none e.thread)
      ∙ ap (λ b. b || opens trace w n) (led_none rows w none ms)
      ∙ shut

  none_after : (o w : ℕ) → ((o : ℕ) → rows o w ≡ None) → opens trace w n ≡ false → event_rows trace n e ms rows o w ≡ None
  none_after o w none shut =
      ⊎_elim
      (λ h. row_of o w h ∙ ap (λ r. gains r (comes w) n) (none o) ∙ cond-false (comes w) _ _ (none_comes w none shut))
      (λ h. row_kept o w h ∙ none o)
      (cases_Bool (of_slot (OfThread o) e))

  outside_after : (o w : ℕ) → depth trace w (suc n) ≡ 0 → event_rows trace n e ms rows o w ≡ None
  outside_after o w z = go (step trace w n)
    where
      go : AtOpening trace w n ⊎ (AtClosing trace w n ⊎ AtOther trace w n) → event_rows trace n e ms rows o w ≡ None
      go (inl s) = absurd (omega (arith, s.after))
      go (inr (inl s)) = absurd (both_ways (closes trace w n) (quiet w) s.closes)
      go (inr (inr s)) =
          let d : depth trace w n ≡ 0 = ⊎_elim (λ l. absurd (omega (arith, s.inside l))) (λ l. omega arith) (cases_lt 0 (depth trace w n)) in
          none_after o w (λ v. first.outside v w d) s.opens

  -- a block that begins here leads to place n alone
  begun_alone : (w j : ℕ) → blocks trace w (suc n) ≡ blocks trace w n + 1 → Reaches trace (suc n) (Block w (blocks trace w (suc n))) j → j ≡ n
  begun_alone w j number r =
      let b = in_block trace r.from w (blocks trace w (suc n)) r.inside in
      let l = reach_from_within trace (suc n) r.from j r.reach in
      let here : r.from ≡ n = ⊎_elim (λ below. absurd (omega (arith, b.number, number, blocks_rise trace w (suc r.from) n below))) (λ le. omega arith) (cases_lt r.from n) in
      reach_from_last trace n quiet r.from j r.reach here

  opened_after : (o w : ℕ) → AtOpening trace w n → IsFirst trace (suc n) (Block w (blocks trace w (suc n))) o (event_rows trace n e ms rows o w)
  opened_after o w s = ⊎_elim new kept (cases_Bool (of_slot (OfThread o) e))
    where
      x : Transaction
      x = Block w (blocks trace w (suc n))

      none : (v : ℕ) → rows v w ≡ None
      none v = first.outside v w s.before

      now : Reaches trace (suc n) x n
      now = record { from = n; inside = begin_at; reach = stay (omega arith) }
        where
          begin_at : transaction trace n ≡ x
          begin_at = block_from trace n w (blocks trace w (suc n)) (begin_in trace w n s)

      new : of_slot (OfThread o) e ≡ true → IsFirst trace (suc n) x o (event_rows trace n e ms rows o w)
      new h =
          let came : comes w ≡ true = or_right (is_some (rows e.thread w)) _ (or_right (led_by rows w ms) _ s.opens) in
          let is : event_rows trace n e ms rows o w ≡ Some n = row_of o w h ∙ ap (λ r. gains r (comes w) n) (none o) ∙ cond-true (comes w) _ _ came in
          subst (IsFirst trace (suc n) x o) (sym is) (some_from trace (suc n) x o n (place_now o h) now (λ q b r. omega (arith, begun_alone w q s.number r)))

      kept : of_slot (OfThread o) e ≡ false → IsFirst trace (suc n) x o (event_rows trace n e ms rows o w)
      kept h =
          subst (IsFirst trace (suc n) x o) (sym (row_kept o w h ∙ none o))
          (none_from trace (suc n) x o (λ q b r. both_ways _ h (now_of o (subst (IsPlaceOf trace (suc n) o) (begun_alone w q s.number r) b))))

  -- a block that was open before
  module _ (w : ℕ) (d : 0 < depth trace w n) (s : AtOther trace w n) where
    abbrev old : Transaction
    old = Block w (blocks trace w n)

    is_first : (o : ℕ) → IsFirst trace n old o (rows o w)
    is_first o = first.is_open o w d

    own_some : (q : ℕ) → IsPlaceOf trace n e.thread q → Reaches trace n old q → comes w ≡ true
    own_some q b r = or_left (is_some (rows e.thread w)) _ (first_some trace n old e.thread (rows e.thread w) (is_first e.thread) q b r)

    comes_reaches : comes w ≡ true → Reaches trace (suc n) old n
    comes_reaches h = ⊎_elim of_own (λ k. ⊎_elim of_mark (λ o. absurd (both_ways (opens trace w n) s.opens o)) (or_cases (led_by rows w ms) (opens trace w n) k)) (or_cases (is_some (rows e.thread w)) _ h)
      where
        of_own : is_some (rows e.thread w) ≡ true → Reaches trace (suc n) old n
        of_own k = let p = first_of trace n old e.thread (rows e.thread w) (is_first e.thread) k in reaches_now old p.0 p.2 (own_conflict p.0 p.1)

        of_mark : led_by rows w ms ≡ true → Reaches trace (suc n) old n
        of_mark k =
            let l = led_mark rows w ms k in
            let m = l.0 in
            let taken = st.each m l.1 in
            reaches_now old m.place (led_reaches trace n old m.thread ok (rows m.thread w) (is_first m.thread) m.place (taken_place trace n e m taken) l.2) taken.conflict

    reaches_comes : Reaches trace (suc n) old n → comes w ≡ true
    reaches_comes r = ⊎_elim of_old of_new (cases_lt r.from n)
      where
        of_old : r.from < n → comes w ≡ true
        of_old l =
            let p = reach_last trace n quiet r.from n r.reach l refl in
            let to : Reaches trace n old p.0 = record { from = r.from; inside = r.inside; reach = p.1 } in
            ⊎_elim
            (λ (v : ReachesOwn trace n e p.0). own_some v.place (last_place trace n e.thread v.place v.last) (reaches_on trace n old p.0 v.place to v.reach))
            (⊎_elim
            (λ (v : ReachesMark trace n ms p.0).
            let m = v.it in
            or_right (is_some (rows e.thread w)) _ (or_left (led_by rows w ms) _ (mark_led rows w m ms v.among
            (reaches_led trace n old m.thread (rows m.thread w) (is_first m.thread) m.place (taken_place trace n e m (st.each m v.among)) (reaches_on trace n old p.0 m.place to v.reach)))))
            (λ (v : ReachesPassed trace n p.0). absurd (v.passed w d (leads_from_reaches trace n old v.place (reaches_on trace n old p.0 v.place to v.reach)))))
            (st.all p.0 p.2)

        of_new : n ≤ r.from → comes w ≡ true
        of_new le =
            let place : r.from ≡ n = omega (arith, reach_from_within trace (suc n) r.from n r.reach) in
            let b = in_block trace n w (blocks trace w n) (ap (transaction trace) (sym place) ∙ r.inside) in
            let same : w ≡ e.thread = sym b.thread ∙ ap (λ (a : Numbered). a.thread) (same_Some b.event e (sym b.event_at ∙ at)) in
            let pos = open_number trace w n d in
            let k = latest trace ok n w (acted_by_block trace n w pos) in
            subst (λ v. IsPlaceOf trace n v k.place → comes w ≡ true) (sym same) (λ i. own_some k.place i (own_latest trace n w (blocks trace w n) k pos (omega arith))) (last_place trace n w k.place k.last)

    -- a place that is there stays the first
    some_stays : (o p : ℕ) → IsFirst trace n old o (Some p) → IsFirst trace (suc n) old o (Some p)
    some_stays o p f =
        some_from trace (suc n) old o p (place_more trace n o p f.0) (reaches_more trace n old p (first_reaches trace n old o p f))
        (λ q b r. ⊎_elim (λ l. first_least trace n old o p f q (place_less trace n o q l b) (reaches_old old q l r)) (λ le. let i = f.0 in omega (arith, i.below)) (cases_lt q n))

    none_stays : (o : ℕ) → IsFirst trace n old o None → (IsPlaceOf trace (suc n) o n → ¬ Reaches trace (suc n) old n) → IsFirst trace (suc n) old o None
    none_stays o f not_now =
        none_from trace (suc n) old o
        (λ q b r. ⊎_elim
        (λ l. none_at trace n old o f q (place_less trace n o q l b) (reaches_old old q l r))
        (λ le. let here : q ≡ n = omega (arith, b.below) in not_now (subst (IsPlaceOf trace (suc n) o) here b) (subst (Reaches trace (suc n) old) here r))
        (cases_lt q n))

    gained : (o : ℕ) → of_slot (OfThread o) e ≡ true → (r : Option ℕ) → IsFirst trace n old o r → (b : Bool) → comes w ≡ b → IsFirst trace (suc n) old o (gains r b n)
    gained o h (Some p) f b c = some_stays o p f
    gained o h None f true c =
        some_from trace (suc n) old o n (place_now o h) (comes_reaches c)
        (λ q i r. ⊎_elim (λ l. absurd (none_at trace n old o f q (place_less trace n o q l i) (reaches_old old q l r))) (λ le. le) (cases_lt q n))
    gained o h None f false c = none_stays o f (λ i r. both_ways (comes w) c (reaches_comes r))

    kept_row : (o : ℕ) → of_slot (OfThread o) e ≡ false → (r : Option ℕ) → IsFirst trace n old o r → IsFirst trace (suc n) old o r
    kept_row o h (Some p) f = some_stays o p f
    kept_row o h None f = none_stays o f (λ i r. both_ways _ h (now_of o i))

    old_after : (o : ℕ) → IsFirst trace (suc n) old o (event_rows trace n e ms rows o w)
    old_after o =
        ⊎_elim
        (λ h. subst (IsFirst trace (suc n) old o) (sym (row_of o w h)) (gained o h (rows o w) (is_first o) (comes w) refl))
        (λ h. subst (IsFirst trace (suc n) old o) (sym (row_kept o w h)) (kept_row o h (rows o w) (is_first o)))
        (cases_Bool (of_slot (OfThread o) e))

  open_after : (o w : ℕ) → 0 < depth trace w (suc n) → IsFirst trace (suc n) (Block w (blocks trace w (suc n))) o (event_rows trace n e ms rows o w)
  open_after o w d = go (step trace w n)
    where
      go : AtOpening trace w n ⊎ (AtClosing trace w n ⊎ AtOther trace w n) → IsFirst trace (suc n) (Block w (blocks trace w (suc n))) o (event_rows trace n e ms rows o w)
      go (inl s) = opened_after o w s
      go (inr (inl s)) = absurd (both_ways (closes trace w n) (quiet w) s.closes)
      go (inr (inr s)) =
          let inside : 0 < depth trace w n = ⊎_elim (λ l. l) (λ le. let z : depth trace w n ≡ 0 = omega arith in absurd (omega (arith, s.outside z))) (cases_lt 0 (depth trace w n)) in
          subst (λ k. IsFirst trace (suc n) (Block w k) o (event_rows trace n e ms rows o w)) (sym s.number) (old_after w inside s o)

  pub first_after : AreFirst trace (suc n) (event_rows trace n e ms rows)
  first_after = record { is_open = open_after; outside = outside_after }
