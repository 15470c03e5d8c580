-- What is led to after more events was led to before.
use Rattle.std.proofs.Common.{◌≡◌, ℕ, ◌<◌, ◌≤◌, List, [], ◌∷◌, inl, inr, refl, sym, ◌∙◌, subst, arith}
use Rattle.std.specs.Prelude.{Contains}
use Rattle.std.proofs.lemmas.Bool.{cases_lt}
use Rattle.aero_model.specs.declared.numbered.Numbered.{Numbered}
use Rattle.aero_model.specs.Blocks.{Transaction, Block, Unary, transaction, HasEnded, IsOpen}
use Rattle.aero_model.specs.Graph.{Conflict, Visit, GoesOn, last_visit, IsTelling, LeadsTo}
use Rattle.aero_model.proofs.Elements.{none_in, first_or_rest}
use Rattle.aero_model.proofs.Reach.{stay, on, back}
use Rattle.aero_model.proofs.Places.{in_block, in_unary}
use Rattle.aero_model.proofs.Ends.{in_before_end, ended_or_is_open}
use Rattle.aero_model.proofs.Walks.{reaches_from_leads, leads_from_reaches}
use Rattle.aero_witness.specs.Led.{IsLed, GoesOnAt}

module _ (trace : List Numbered) (n : ℕ) where
  -- each event of an open block
  pub led_inside : (j : ℕ) → j < n → IsOpen trace n (transaction trace j) → IsLed trace n j
  led_inside j l is_open = (transaction trace j, is_open, leads_from_reaches trace n (transaction trace j) j record { from = j; inside = refl; reach = stay l })

  led_next : (j k : ℕ) → IsLed trace n j → Conflict trace j k → k < n → IsLed trace n k
  led_next j k (x, is_open, leads) c l =
      let r = reaches_from_leads trace n x j leads in
      (x, is_open, leads_from_reaches trace n x k record { from = r.from; inside = r.inside; reach = on j k r.reach c l })

  led_back : (j k : ℕ) → IsLed trace n j → transaction trace j ≡ transaction trace k → HasEnded trace n (transaction trace j) → k < n → IsLed trace n k
  led_back j k (x, is_open, leads) e ended l =
      let r = reaches_from_leads trace n x j leads in
      (x, is_open, leads_from_reaches trace n x k record { from = r.from; inside = r.inside; reach = back j k r.reach e ended l })

  -- a transaction is led to as a whole
  pub led_whole : (j k : ℕ) → IsLed trace n j → transaction trace j ≡ transaction trace k → k < n → IsLed trace n k
  led_whole j k led e l = elim (ended_or_is_open trace n (transaction trace k) (k, l, refl)) [
    | inl ended ↦ led_back j k led e (subst (HasEnded trace n) (sym e) ended) l
    | inr is_open ↦ led_inside k l is_open
  ]

  -- no event of a transaction that has ended comes later
  pub none_later : (j k : ℕ) → transaction trace j ≡ transaction trace k → HasEnded trace n (transaction trace k) → k < n → n ≤ j → ⊥
  none_later j k e ended l past = go (transaction trace k) e refl ended
    where
      go : (x : Transaction) → transaction trace j ≡ x → transaction trace k ≡ x → HasEnded trace n x → ⊥
      go (Unary p) ej ek ended = omega (arith, in_unary trace j p ej, in_unary trace k p ek)
      go (Block t number) ej ek (q, below, c, at) = omega (arith, in_before_end trace t j q number (in_block trace j t number ej) c at)

  -- place j is led to, if it is one of the first n
  abbrev IfThere : ℕ → Type 0
  IfThere j = j < n → IsLed trace n j

  there_next : (j k : ℕ) → IfThere j → Conflict trace j k → IfThere k
  there_next j k h c l = let before = c.earlier in led_next j k (h (omega arith)) c l

  there_inside : (j k : ℕ) → IfThere j → transaction trace j ≡ transaction trace k → IfThere k
  there_inside j k h e l = elim (ended_or_is_open trace n (transaction trace k) (k, l, refl)) [
    | inr is_open ↦ led_inside k l is_open
    | inl ended ↦ elim (cases_lt j n) [
      | inl below ↦ led_back j k (h below) e (subst (HasEnded trace n) (sym e) ended) l
      | inr past ↦ absurd (none_later j k e ended l past)
    ]
  ]

  there_first : (x : Transaction) (j : ℕ) → GoesOnAt trace n x → transaction trace j ≡ x → IfThere j
  there_first x j goes e l = led_inside j l (subst (IsOpen trace n) (sym e) (goes (j, l, e)))

  module _ (m : ℕ) where
    there_last : (v : Visit) (ws : List Visit) → IfThere v.leaves → GoesOn trace m v ws → IfThere (last_visit v ws).leaves
    there_last v [] h goes = h
    there_last v (w ∷ ws) h goes =
        let enters = there_next v.leaves w.enters h goes.0 in
        there_last w ws (there_inside w.enters w.leaves enters (goes.1).one) goes.3

    there_along : (v : Visit) (ws : List Visit) → IfThere v.leaves → GoesOn trace m v ws → (w : Visit) → Contains ws w → IfThere w.enters × IfThere w.leaves
    there_along v [] h goes w among = absurd (none_in among)
    there_along v (u ∷ us) h goes w among =
        let enters = there_next v.leaves u.enters h goes.0 in
        let leaves = there_inside u.enters u.leaves enters (goes.1).one in
        elim (first_or_rest u us among) [
          | inl same ↦ subst (λ (z : Visit). IfThere z.enters × IfThere z.leaves) (sym same) (enters, leaves)
          | inr later ↦ there_along u us leaves goes.3 w later
        ]

    pub none_is_led_later : (x : Transaction) (p : ℕ) → GoesOnAt trace n x → LeadsTo trace m x p → p < n → IsLed trace n p
    none_is_led_later x p goes_on (v, ws, is, goes, of, at) =
        subst IfThere at (there_last v ws (there_first x v.leaves goes_on (sym is.one ∙ of)) goes)

    pub later_cycles_are_led : (first : Visit) (rest : List Visit) → GoesOnAt trace n (transaction trace first.enters) → IsTelling trace m first rest → (v : Visit) → Contains (first ∷ rest) v → IfThere v.enters × IfThere v.leaves
    later_cycles_are_led first rest goes_on telling v among =
        let enters = there_first (transaction trace first.enters) first.enters goes_on refl in
        let leaves = there_inside first.enters first.leaves enters (telling.visit).one in
        elim (first_or_rest first rest among) [
          | inl same ↦ subst (λ (z : Visit). IfThere z.enters × IfThere z.leaves) (sym same) (enters, leaves)
          | inr later ↦ there_along first rest leaves telling.walk v later
        ]
