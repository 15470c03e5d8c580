-- Which events open blocks lead to, by the least place of a row.
use Rattle.std.proofs.Common.{◌≡◌, ◌⊎◌, ℕ, ◌<◌, true, List, Option, Some, None, inl, inr, refl, sym, ap, ◌∙◌, subst, arith}
use Rattle.std.specs.Prelude.{slice_get, ◌==◌}
use Rattle.std.proofs.lemmas.Bool.{cases_eq, both_ways, eq-eqb, or_left, leb-true, le-leb}
use Rattle.aero_model.specs.declared.numbered.Numbered.{Numbered}
use Rattle.aero_model.specs.Blocks.{depth, blocks, Transaction, Block, Unary, IsOpen}
use Rattle.aero_model.specs.Graph.{LeadsTo}
use Rattle.aero_model.specs.Shape.{IsWellFormed, is_fork_of}
use Rattle.aero_model.proofs.Ends.{open_deep, open_from_deep}
use Rattle.aero_model.proofs.Walks.{reaches_from_leads, leads_from_reaches}
use Rattle.aero_leads.specs.Leads.{Rows, is_led, IsPlaceOf, AreFirst}
use Rattle.aero_leads.specs.Leasts.{IsLeastOf}
use Rattle.aero_leads.proofs.FirstPlaces.{led_reaches, reaches_led}

-- what is led to from some place is led to from the least
led_by_least : (row : ℕ → Option ℕ) (least : Option ℕ) (p w : ℕ) → IsLeastOf row least → is_led (row w) p ≡ true → is_led least p ≡ true
led_by_least row least p w is led = go (row w) refl led least is
  where
    go : (r : Option ℕ) → row w ≡ r → is_led r p ≡ true → (least : Option ℕ) → IsLeastOf row least → is_led least p ≡ true
    go None at led least is = absurd (cc)
    go (Some q) at led None none = absurd (let e : None ≡ Some q = sym (none w) ∙ at in cc)
    go (Some q) at led (Some l) (there, le) = le-leb l p (omega (arith, le w q at, leb-true q p led))

module _ (trace : List Numbered) (n : ℕ) (rows : Rows) (p : ℕ) (e : Numbered) (ok : IsWellFormed trace) (first : AreFirst trace n rows) (below : p < n) (at : slice_get trace p ≡ Some e) where
  -- the event is of its own thread
  own_place : IsPlaceOf trace n e.thread p
  own_place = record { below = below; event = e; event_at = at; of_thread = or_left (e.thread == e.thread) (is_fork_of e.thread e.what) (eq-eqb e.thread e.thread refl) }

  row_leads : (w : ℕ) → is_led (rows e.thread w) p ≡ true → (x : Transaction) × IsOpen trace n x × LeadsTo trace n x p
  row_leads w led = at_depth (cases_eq (depth trace w n) 0)
    where
      at_depth : (depth trace w n ≡ 0) ⊎ (depth trace w n ≡ 0 → ⊥) → (x : Transaction) × IsOpen trace n x × LeadsTo trace n x p
      at_depth (inl z) = absurd (both_ways (is_led (rows e.thread w) p) (ap (λ r. is_led r p) (first.outside e.thread w z)) led)
      at_depth (inr d) =
          let deep : 0 < depth trace w n = omega arith in
          let x = Block w (blocks trace w n) in
          (x, open_from_deep trace n w deep, leads_from_reaches trace n x p (led_reaches trace n x e.thread ok (rows e.thread w) (first.is_open e.thread w deep) p own_place led))

  module _ (least : Option ℕ) (is : IsLeastOf (rows e.thread) least) where
    pub led_from : is_led least p ≡ true → (x : Transaction) × IsOpen trace n x × LeadsTo trace n x p
    led_from led = go least is led
      where
        go : (o : Option ℕ) → IsLeastOf (rows e.thread) o → is_led o p ≡ true → (x : Transaction) × IsOpen trace n x × LeadsTo trace n x p
        go None none led = absurd (cc)
        go (Some q) ((w, there), le) led = row_leads w (ap (λ r. is_led r p) there ∙ led)

    pub led_to : (x : Transaction) × IsOpen trace n x × LeadsTo trace n x p → is_led least p ≡ true
    led_to (Unary q, is_open, leads) = absurd (is_open.1 tt)
    led_to (Block t k, is_open, leads) =
        let d = open_deep trace n t k is_open in
        let x = Block t (blocks trace t n) in
        let leads' = subst (λ number. LeadsTo trace n (Block t number) p) (sym d.1) leads in
        led_by_least (rows e.thread) least p t is (reaches_led trace n x e.thread (rows e.thread t) (first.is_open e.thread t d.0) p own_place (reaches_from_leads trace n x p leads'))
