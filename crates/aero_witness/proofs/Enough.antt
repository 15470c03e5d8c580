-- What is enough is so with the next event, and what open blocks lead to is enough.
use Rattle.std.proofs.Common.{◌≡◌, ◌⊎◌, ◌↔◌, ℕ, ◌<◌, Bool, true, List, [], ◌∷◌, ◌++◌, length, Some, inl, inr, refl, sym, ◌∙◌, ap, subst, le_refl, arith}
use Rattle.std.specs.Prelude.{slice_get}
use Rattle.std.proofs.lemmas.Bool.{cases_eq}
use Rattle.std.proofs.lemmas.List.{length_push}
use Rattle.std.proofs.lemmas.Option.{slice_get_within}
use Rattle.aero_model.specs.declared.numbered.Numbered.{Numbered}
use Rattle.aero_model.specs.Blocks.{Transaction, transaction, HasEnded, Occurs, IsOpen}
use Rattle.aero_model.proofs.Reach.{ended_more}
use Rattle.aero_model.proofs.Stability.{Agree, agree_front, agree_back, transaction_same, ended_same}
use Rattle.aero_model.proofs.Ends.{ended_or_is_open}
use Rattle.aero_model.proofs.Walks.{leads_same}
use Rattle.aero_witness.specs.Led.{IsLed}
use Rattle.aero_witness.specs.Thinned.{IsAmong, IsEnough, marked}
use Rattle.aero_witness.proofs.Led.{led_inside, led_whole, none_later, none_is_led_later}
use Rattle.aero_witness.proofs.Pushed.{push_front, push_last, push_cases, nth_mark, marked_at, mark_at, marked_same, marked_long, marks_rise, marked_among}

-- in traces that agree on the first n events the same are led to
module _ (n : ℕ) (a b : List Numbered) (h : Agree n a b) where
  open_same : (x : Transaction) → IsOpen a n x → IsOpen b n x
  open_same x ((i, l, e), going) =
      ((i, l, sym (transaction_same n a b h i l) ∙ e), λ ended. going (ended_same n b a (agree_back n a b h) n x (le_refl n) ended))

  led_same : (p : ℕ) → IsLed a n p → IsLed b n p
  led_same p (x, is_open, leads) = (x, open_same x is_open, leads_same n a b h n (le_refl n) x p leads)

module _ (trace kept : List Numbered) (places : List ℕ) (e : Numbered) (enough : IsEnough trace kept places) where
  abbrev n : ℕ
  n = length trace

  abbrev more : List Numbered
  more = trace ++ e ∷ []

  abbrev places_more : List ℕ
  places_more = places ++ n ∷ []

  agrees : Agree n trace more
  agrees = agree_front n trace (e ∷ []) (le_refl n)

  among_more : (p : ℕ) → IsAmong places p → IsAmong places_more p
  among_more p (i, at) = (i, push_front places n i (slice_get_within places i p at) ∙ at)

  last_among : (p : ℕ) → p ≡ n → IsAmong places_more p
  last_among p same = (length places, push_last places n ∙ ap Some (sym same))

  within_more : (p : ℕ) → IsAmong places_more p → p < length more
  within_more p (i, at) = elim (push_cases places n i p at) [
    | inl was ↦ (let l = ((enough).thinned).within i p was in let long = length_push trace e in omega arith)
    | inr last ↦ (let same = last.1 in let long = length_push trace e in omega arith)
  ]

  one_before : (p q : ℕ) → p < n → q < n → transaction more p ≡ transaction more q → transaction trace p ≡ transaction trace q
  one_before p q lp lq same = transaction_same n trace more agrees p lp ∙ same ∙ sym (transaction_same n trace more agrees q lq)

  -- an earlier event of the last one's transaction is led to
  led_with_last : (q : ℕ) → q < n → transaction more n ≡ transaction more q → IsLed trace n q
  led_with_last q l same = elim (ended_or_is_open trace n (transaction trace q) (q, l, refl)) [
    | inr is_open ↦ led_inside trace n q l is_open
    | inl ended ↦ absurd (none_later more n n q same (subst (HasEnded more n) (transaction_same n trace more agrees q l) (ended_same n trace more agrees n (transaction trace q) (le_refl n) ended)) l (le_refl n))
  ]

  whole_more : (p q : ℕ) → IsAmong places_more p → q < length more → transaction more p ≡ transaction more q → IsAmong places_more q
  whole_more p q (i, at) l same = go (cases_eq q n) (push_cases places n i p at)
    where
      go : (q ≡ n) ⊎ (q ≡ n → ⊥) → (slice_get places i ≡ Some p) ⊎ ((i ≡ length places) × (p ≡ n)) → IsAmong places_more q
      go (inl last) _ = last_among q last
      go (inr other) (inl was) =
          let long = length_push trace e in
          let less : q < n = omega arith in
          let within = ((enough).thinned).within i p was in
          among_more q (((enough).thinned).whole p q (i, was) less (one_before p q within less same))
      go (inr other) (inr last) =
          let long = length_push trace e in
          let less : q < n = omega arith in
          among_more q ((enough).led q less (led_with_last q less (ap (transaction more) (sym last.1) ∙ same)))

  led_more : (p : ℕ) → p < length more → IsLed more (length more) p → IsAmong places_more p
  led_more p l (x, is_open, leads) = elim (cases_eq p n) [
    | inl last ↦ last_among p last
    | inr other ↦
        let long = length_push trace e in
        let less : p < n = omega arith in
        let before = none_is_led_later more n (length more) x p goes_on leads less in
        among_more p ((enough).led p less (led_same n more trace (agree_back n trace more agrees) p before))
  ]
    where
      goes_on : Occurs more n x → IsOpen more n x
      goes_on occurs = elim (ended_or_is_open more n x occurs) [
        | inr still ↦ still
        | inl ended ↦ absurd (is_open.1 (ended_more more n (length more) x (let long = length_push trace e in omega arith) ended))
      ]

  rise_more : (i j p q : ℕ) → i < j → slice_get places_more i ≡ Some p → slice_get places_more j ≡ Some q → p < q
  rise_more i j p q l a b = go (push_cases places n i p a) (push_cases places n j q b)
    where
      go : (slice_get places i ≡ Some p) ⊎ ((i ≡ length places) × (p ≡ n)) → (slice_get places j ≡ Some q) ⊎ ((j ≡ length places) × (q ≡ n)) → p < q
      go (inl was) (inl was') = ((enough).thinned).rise i j p q l was was'
      go (inl was) (inr last) = let within = ((enough).thinned).within i p was in omega (arith, within, last.1)
      go (inr last) (inl was) = let within = slice_get_within places j q was in absurd (omega (arith, within, last.0))
      go (inr last) (inr last') = absurd (omega (arith, last.0, last'.0))

  event_more : (i p : ℕ) → slice_get places_more i ≡ Some p → slice_get (kept ++ e ∷ []) i ≡ slice_get more p
  event_more i p at = elim (push_cases places n i p at) [
    | inl was ↦
        let each = ((enough).thinned).each in
        let li = slice_get_within places i p was in
        let lp = ((enough).thinned).within i p was in
        push_front kept e i (omega arith) ∙ ((enough).thinned).event i p was ∙ sym (push_front trace e p lp)
    | inr last ↦
        let each = ((enough).thinned).each in
        ap (slice_get (kept ++ e ∷ [])) (last.0 ∙ each) ∙ push_last kept e ∙ sym (ap (slice_get more) last.1 ∙ push_last trace e)
  ]

  pub enough_stays : IsEnough more (kept ++ e ∷ []) places_more
  enough_stays = record {
    thinned = record {
      each = (let each = ((enough).thinned).each in omega (arith, length_push places n, length_push kept e));
      rise = rise_more;
      within = λ i p at. within_more p (i, at);
      event = event_more;
      whole = whole_more;
    };
    led = led_more;
  }

module _ (trace kept : List Numbered) (places : List ℕ) (marks : List Bool) (enough : IsEnough trace kept places) (long : length marks ≡ length places) (are : (i p : ℕ) → slice_get places i ≡ Some p → (slice_get marks i ≡ Some true) ↔ IsLed trace (length trace) p) where
  -- a marked place is led to
  marked_led : (p : ℕ) → IsAmong (marked marks places) p → IsLed trace (length trace) p
  marked_led p (j, at) = (are (nth_mark marks j) p (marked_at marks places j p at)).0 (mark_at marks places j p at)

  -- and what is led to is marked
  led_marked : (p : ℕ) → p < length trace → IsLed trace (length trace) p → IsAmong (marked marks places) p
  led_marked p l led =
      let among = (enough).led p l led in
      marked_among marks places among.0 p ((are among.0 p among.1).1 led) among.1

  pub led_is_enough : IsEnough trace (marked marks kept) (marked marks places)
  led_is_enough = record {
    thinned = record {
      each = marked_long marks places kept ((enough).thinned).each;
      rise = λ i j p q l a b. ((enough).thinned).rise (nth_mark marks i) (nth_mark marks j) p q (marks_rise marks places i j q l b) (marked_at marks places i p a) (marked_at marks places j q b);
      within = λ i p at. ((enough).thinned).within (nth_mark marks i) p (marked_at marks places i p at);
      event = λ i p at. marked_same marks kept places i p (sym ((enough).thinned).each) at ∙ ((enough).thinned).event (nth_mark marks i) p (marked_at marks places i p at);
      whole = λ p q among l same. led_marked q l (led_whole trace (length trace) p q (marked_led p among) same l);
    };
    led = led_marked;
  }
