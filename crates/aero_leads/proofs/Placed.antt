-- Where rows that are right have their places, and to what nothing leads yet.
use Rattle.std.proofs.Common.{◌≡◌, ◌≢◌, ◌⊎◌, inl, inr, ⊎_elim, ℕ, ◌<◌, List, [], ◌∷◌, Option, Some, None, refl, ap, subst, arith}
use Rattle.std.specs.Prelude.{◌||◌, min, Bool, true, false, if◌then◌else◌, is_some}
use Rattle.std.proofs.lemmas.Bool.{cases_eq, both_ways, leb-false, lt-ltb, lt-leb, le-leb}
use Rattle.aero_model.specs.declared.numbered.Numbered.{Numbered}
use Rattle.aero_model.specs.Blocks.{depth}
use Rattle.aero_engine.specs.declared.slot.Slot.TheVariants.{OfThread}
use Rattle.aero_engine.specs.Slots.{of_slot, last_event}
use Rattle.aero_engine.specs.Takes.{HasActed}
use Rattle.aero_engine.proofs.LastEvents.{last_covers, to_thread}
use Rattle.aero_leads.specs.Leads.{Rows, is_led, AreFirst, IsPlaceOf, IsFirst}
use Rattle.aero_leads.specs.Marks.{Mark}
use Rattle.aero_leads.specs.Steps.{led_by, gains, lesser}
use Rattle.aero_leads.specs.Kept.{is_below}

-- rows that are right have no place that isn't there yet
pub placed_below : (trace : List Numbered) (n : ℕ) (rows : Rows) → AreFirst trace n rows → (o w p : ℕ) → rows o w ≡ Some p → IsPlaceOf trace n o p
placed_below trace n rows first o w p h = go (cases_eq (depth trace w n) 0)
  where
    go : (depth trace w n ≡ 0) ⊎ (depth trace w n ≢ 0) → IsPlaceOf trace n o p
    go (inl z) = let k = first.outside o w z in cc
    go (inr z) = (subst (IsFirst trace n _ o) h (first.is_open o w (omega (arith, z)))).0

pub below_now : (trace : List Numbered) (n : ℕ) (rows : Rows) → AreFirst trace n rows → (o w : ℕ) → is_below (rows o w) n ≡ is_some (rows o w)
below_now trace n rows first o w = go (rows o w) refl
  where
    go : (r : Option ℕ) → rows o w ≡ r → is_below r n ≡ is_some r
    go None h = refl
    go (Some p) h = lt-ltb p n (placed_below trace n rows first o w p h).below

pub led_at_last : (trace : List Numbered) (n : ℕ) (rows : Rows) → AreFirst trace n rows → (o w q : ℕ) → last_event trace n (OfThread o) ≡ Some q → is_led (rows o w) q ≡ is_some (rows o w)
led_at_last trace n rows first o w q at = go (rows o w) refl
  where
    go : (r : Option ℕ) → rows o w ≡ r → is_led r q ≡ is_some r
    go None h = refl
    go (Some p) h =
        let i = placed_below trace n rows first o w p h in
        let c = last_covers (of_slot (OfThread o)) trace n p i.event i.event_at i.of_thread i.below in
        let same : c.0 ≡ q = cc in
        le-leb p q (omega (arith, c.2, same))

pub open_of : (trace : List Numbered) (n : ℕ) (rows : Rows) → AreFirst trace n rows → (o w : ℕ) → is_some (rows o w) ≡ true → 0 < depth trace w n
open_of trace n rows first o w h = ⊎_elim (λ z. let k = ap is_some (first.outside o w z) in absurd (both_ways (is_some (rows o w)) k h)) (λ z. omega (arith, z)) (cases_eq (depth trace w n) 0)

led_some : (r : Option ℕ) (p : ℕ) → is_led r p ≡ true → is_some r ≡ true
led_some None p h = cc
led_some (Some q) p h = refl

pub led_by_open : (trace : List Numbered) (n : ℕ) (rows : Rows) → AreFirst trace n rows → (w : ℕ) (ms : List Mark) → led_by rows w ms ≡ true → 0 < depth trace w n
led_by_open trace n rows first w [] h = cc
led_by_open trace n rows first w (m ∷ ms) h = go (led_by_open trace n rows first w ms) (is_led (rows m.thread w) m.place) refl h
  where
    go : (led_by rows w ms ≡ true → 0 < depth trace w n) → (b : Bool) → is_led (rows m.thread w) m.place ≡ b → (b || led_by rows w ms) ≡ true → 0 < depth trace w n
    go on true e k = open_of trace n rows first m.thread w (led_some (rows m.thread w) m.place e)
    go on false e k = on k

-- the last place of a thread that has acted
pub acted_last : (trace : List Numbered) (n u : ℕ) → HasActed trace n u → (q : ℕ) × (last_event trace n (OfThread u) ≡ Some q)
acted_last trace n u a = let c = last_covers (of_slot (OfThread u)) trace n a.place a.event a.event_at (to_thread u a.event a.thread) a.below in (c.0, c.1)

-- nothing comes to lead to a place to which nothing led
pub unled_gains : (r : Option ℕ) (b : Bool) (n q : ℕ) → q < n → is_led r q ≡ false → is_led (gains r b n) q ≡ false
unled_gains (Some p) b n q l h = h
unled_gains None true n q l h = lt-leb n q l
unled_gains None false n q l h = refl

pub unled_lesser : (r s : Option ℕ) (q : ℕ) → is_led r q ≡ false → is_led s q ≡ false → is_led (lesser r s) q ≡ false
unled_lesser None s q a b = b
unled_lesser (Some p) None q a b = a
unled_lesser (Some p) (Some m) q a b = lt-leb (min p m) q (omega (arith, leb-false p q a, leb-false m q b))

pub unled_if : (c : Bool) (r s : Option ℕ) (q : ℕ) → is_led r q ≡ false → is_led s q ≡ false → is_led (if c then r else s) q ≡ false
unled_if true r s q a b = a
unled_if false r s q a b = b
