-- What a block has passed on stays so, as blocks begin, lead on and end.
use Rattle.std.proofs.Common.{◌≡◌, ◌≢◌, ◌⊎◌, inl, inr, ⊎_elim, ℕ, ◌<◌, ◌≤◌, List, [], ◌∷◌, Option, Some, None, refl, sym, ap, ap₂, ◌∙◌, min, arith}
use Rattle.std.specs.Prelude.{◌==◌, ◌&&◌, nat_lt, not, Bool, true, false, is_some, if◌then◌else◌, slice_get}
use Rattle.std.proofs.lemmas.Bool.{cases_eq, cases_lt, both_ways, cond-true, cond-false, eq-eqb, ne_eqb, lt-ltb, ltb-true, le-leb, leb-true, or_cases, or_left}
use Rattle.std.proofs.lemmas.Option.{same_Some}
use Rattle.aero_leads.specs.declared.row.Lead.{Lead}
use Rattle.aero_leads.specs.declared.led.Led.{Led}
use Rattle.aero_leads.specs.declared.passed.Passed.{Passed}
use Rattle.aero_leads.specs.declared.thread.Thread.{Thread}
use Rattle.aero_leads.specs.Leads.{is_led}
use Rattle.aero_leads.specs.Steps.{gains, lesser}
use Rattle.aero_leads.specs.Kept.{least_in, is_below, thread_row, rows_in, absorbed, TakesRow, BeginsBlock, EndsBlock}
use Rattle.aero_leads.specs.Listed.{is_listed}
use Rattle.aero_leads.specs.Passed.{passed_of, is_early, ArePassed, is_since, leads_since}
use Rattle.aero_leads.proofs.Leasts.{lesser_none, below_lesser}

-- places, and what they are below
below_nothing : (r : Option ℕ) (n : ℕ) → n ≡ 0 → ¬ (is_below r n ≡ true)
below_nothing None n e h = let z : false ≡ true = h in cc
below_nothing (Some p) n e h = omega (arith, e, ltb-true p n h)

below_more : (r : Option ℕ) (m n : ℕ) → m ≤ n → is_below r m ≡ true → is_below r n ≡ true
below_more None m n less h = h
below_more (Some p) m n less h = lt-ltb p n (omega (arith, less, ltb-true p m h))

below_some : (r : Option ℕ) (n : ℕ) → is_below r n ≡ true → 0 < n
below_some None n h = let z : false ≡ true = h in cc
below_some (Some p) n h = omega (arith, ltb-true p n h)

led_below : (r : Option ℕ) (p n : ℕ) → is_led r p ≡ true → p < n → is_below r n ≡ true
led_below None p n h less = h
led_below (Some q) p n h less = lt-ltb q n (omega (arith, less, leb-true q p h))

led_some : (r : Option ℕ) (p : ℕ) → is_led r p ≡ true → is_some r ≡ true
led_some None p h = h
led_some (Some q) p h = refl

led_at : (r : Option ℕ) (p : ℕ) → r ≡ Some p → is_led r p ≡ true
led_at r p e = ap (λ x. is_led x p) e ∙ le-leb p p (omega arith)

led_gains : (r : Option ℕ) (c : Bool) (n p : ℕ) → is_led r p ≡ true → is_led (gains r c n) p ≡ true
led_gains None c n p h = let z : false ≡ true = h in cc
led_gains (Some q) c n p h = h

led_left : (a b : Option ℕ) (p : ℕ) → is_led a p ≡ true → is_led (lesser a b) p ≡ true
led_left None b p h = let z : false ≡ true = h in cc
led_left (Some q) None p h = h
led_left (Some q) (Some r) p h = le-leb (min q r) p (omega (arith, leb-true q p h))

led_right : (a b : Option ℕ) (p : ℕ) → is_led b p ≡ true → is_led (lesser a b) p ≡ true
led_right None b p h = h
led_right (Some q) None p h = let z : false ≡ true = h in cc
led_right (Some q) (Some r) p h = le-leb (min q r) p (omega (arith, leb-true r p h))

led_lesser : (r : Option ℕ) (p : ℕ) → is_led r p ≡ true → lesser r (Some p) ≡ r
led_lesser None p h = let z : false ≡ true = h in cc
led_lesser (Some q) p h = let le = leb-true q p h in ap Some (omega (arith, le))

pub lesser_of : (a b : Option ℕ) (p : ℕ) → lesser a b ≡ Some p → (a ≡ Some p) ⊎ (b ≡ Some p)
lesser_of None b p h = inr h
lesser_of (Some q) None p h = inl h
lesser_of (Some q) (Some r) p h = go (cases_lt q r)
  where
    is : min q r ≡ p
    is = same_Some (min q r) p h

    go : (q < r) ⊎ (r ≤ q) → (Some q ≡ Some p) ⊎ (Some r ≡ Some p)
    go (inl less) = inl (ap Some (omega (arith, less, is)))
    go (inr le) = inr (ap Some (omega (arith, le, is)))

some_of : (r : Option ℕ) → is_some r ≡ true → (p : ℕ) × (r ≡ Some p)
some_of None h = let z : false ≡ true = h in cc
some_of (Some p) h = (p, refl)

early_less : (l : Option ℕ) (p q : ℕ) → q ≤ p → is_early l p ≡ true → is_early l q ≡ true
early_less None p q less h = refl
early_less (Some n) p q less h = le-leb q n (omega (arith, less, leb-true p n h))

-- nothing is said
pub passed_nothing : (threads : List Thread) (passed : Passed) → ((t : ℕ) → passed_of passed t ≡ 0) → passed.latest ≡ None → ArePassed threads passed
passed_nothing threads passed none latest = record {
  on = λ o t w p ne below there. absurd (below_nothing (rows_in threads t w) (passed_of passed t) (none t) below);
  early = λ o w p there. ap (λ l. is_early l p) latest;
}

pub passed_first : (threads : List Thread) (passed : Passed) → threads ≡ [] → ArePassed threads passed
passed_first threads passed none = record {
  on = λ o t w p ne below there. absurd (no_row o t p there);
  early = λ o w p there. absurd (no_row o w p there);
}
  where
    no_row : (o w p : ℕ) → ¬ (rows_in threads o w ≡ Some p)
    no_row o w p there = let z : None ≡ Some p = sym (ap (λ ts. rows_in ts o w) none) ∙ there in cc

-- threads whose rows stand
pub passed_same : (old new : List Thread) (passed : Passed) → ((o w : ℕ) → rows_in new o w ≡ rows_in old o w) → ArePassed old passed → ArePassed new passed
passed_same old new passed rows before = record {
  on = λ o t w p ne below there. ap (λ r. is_led r p) (rows o w) ∙ before.on o t w p ne (sym (ap (λ r. is_below r (passed_of passed t)) (rows t w)) ∙ below) (sym (rows o t) ∙ there);
  early = λ o w p there. before.early o w p (sym (rows o w) ∙ there);
}

-- thread t gains what leads to an event of thread o
module _ (old new : List Thread) (led : Led) (was now : Passed) (t o below n : ℕ) (takes : TakesRow (rows_in old) (rows_in new) n t o below)
    (listed : (v : ℕ) → v ≢ t → is_some (rows_in old v t) ≡ true → is_listed led t v ≡ true)
    (less : (u : ℕ) → passed_of now u ≤ passed_of was u)
    (from : passed_of now o ≤ below)
    (own : (v : ℕ) → is_listed led t v ≡ true → passed_of now t ≤ n)
    (later : (u p : ℕ) → 0 < passed_of now u → is_early was.latest p ≡ true → p ≤ n)
    (early : (p : ℕ) → is_early was.latest p ≡ true → is_early now.latest p ≡ true)
    (latest : is_early now.latest n ≡ true)
    (before : ArePassed old was) where
  row_own : (w : ℕ) → rows_in new t w ≡ gains (rows_in old t w) (is_below (rows_in old o w) below) n
  row_own w = takes.rows t w ∙ cond-true (t == t) _ _ (eq-eqb t t refl)

  row_other : (v w : ℕ) → v ≢ t → rows_in new v w ≡ rows_in old v w
  row_other v w ne = takes.rows v w ∙ cond-false (v == t) _ _ (ne_eqb v t ne)

  -- what t gains comes after all that it has passed on
  by_t : (v w p : ℕ) → v ≢ t → is_below (rows_in new t w) (passed_of now t) ≡ true → rows_in new v t ≡ Some p → is_led (rows_in new v w) p ≡ true
  by_t v w p ne h there =
      let had = sym (row_other v t ne) ∙ there in
      ap (λ r. is_led r p) (row_other v w ne)
      ∙ before.on v t w p ne (go (rows_in old t w) (is_below (rows_in old o w) below) (own v (listed v ne (ap is_some had))) (sym (ap (λ r. is_below r (passed_of now t)) (row_own w)) ∙ h)) had
    where
      go : (r : Option ℕ) (c : Bool) → passed_of now t ≤ n → is_below (gains r c n) (passed_of now t) ≡ true → is_below r (passed_of was t) ≡ true
      go (Some q) c le k = below_more (Some q) (passed_of now t) (passed_of was t) (less t) k
      go None true le k = absurd (omega (arith, le, ltb-true n (passed_of now t) k))
      go None false le k = let z : false ≡ true = k in cc

  -- what was passed on by thread u to o's event comes along
  to_t : (u w p : ℕ) → u ≢ t → is_below (rows_in new u w) (passed_of now u) ≡ true → rows_in new t u ≡ Some p → is_led (rows_in new t w) p ≡ true
  to_t u w p ne h there = ap (λ r. is_led r p) (row_own w) ∙ go (rows_in old t u) refl (sym (row_own u) ∙ there)
    where
      now_below : is_below (rows_in old u w) (passed_of now u) ≡ true
      now_below = sym (ap (λ r. is_below r (passed_of now u)) (row_other u w ne)) ∙ h

      was_below : is_below (rows_in old u w) (passed_of was u) ≡ true
      was_below = below_more (rows_in old u w) (passed_of now u) (passed_of was u) (less u) now_below

      comes : is_below (rows_in old o u) below ≡ true → (u ≡ o) ⊎ (u ≢ o) → is_below (rows_in old o w) below ≡ true
      comes k (inl e) = below_more (rows_in old o w) (passed_of now o) below from (ap (λ v. is_below (rows_in old v w) (passed_of now v)) (sym e) ∙ now_below)
      comes k (inr other) =
          let r = some_of (rows_in old o u) (some_below (rows_in old o u) k) in
          led_below (rows_in old o w) r.0 below (before.on o u w r.0 (λ e. other (sym e)) was_below r.1) (ltb-true r.0 below (sym (ap (λ x. is_below x below) r.1) ∙ k))
        where
          some_below : (x : Option ℕ) → is_below x below ≡ true → is_some x ≡ true
          some_below None m = m
          some_below (Some q) m = refl

      at_n : (r : Option ℕ) → rows_in old t w ≡ r → is_led (gains r true n) n ≡ true
      at_n None e = le-leb n n (omega arith)
      at_n (Some q) e = le-leb q n (later u q (below_some (rows_in old u w) (passed_of now u) now_below) (before.early t w q e))

      go : (r : Option ℕ) → rows_in old t u ≡ r → gains r (is_below (rows_in old o u) below) n ≡ Some p → is_led (gains (rows_in old t w) (is_below (rows_in old o w) below) n) p ≡ true
      go (Some q) e k = led_gains (rows_in old t w) (is_below (rows_in old o w) below) n p (before.on t u w p (λ f. ne (sym f)) was_below (e ∙ k))
      go None e k = fresh (is_below (rows_in old o u) below) refl k
        where
          fresh : (c : Bool) → is_below (rows_in old o u) below ≡ c → (if c then Some n else None) ≡ Some p → is_led (gains (rows_in old t w) (is_below (rows_in old o w) below) n) p ≡ true
          fresh true f m =
              ap₂ (λ b x. is_led (gains (rows_in old t w) b n) x) (comes f (cases_eq u o)) (sym (same_Some n p m)) ∙ at_n (rows_in old t w) refl
          fresh false f m = let z : None ≡ Some p = m in cc

  pub passed_taken : ArePassed new now
  passed_taken = record { on = on_each; early = early_each }
    where
      on_each : (v u w p : ℕ) → v ≢ u → is_below (rows_in new u w) (passed_of now u) ≡ true → rows_in new v u ≡ Some p → is_led (rows_in new v w) p ≡ true
      on_each v u w p ne h there = go (cases_eq u t) (cases_eq v t)
        where
          go : (u ≡ t) ⊎ (u ≢ t) → (v ≡ t) ⊎ (v ≢ t) → is_led (rows_in new v w) p ≡ true
          go (inl e) _ = by_t v w p (λ f. ne (f ∙ sym e)) (ap (λ x. is_below (rows_in new x w) (passed_of now x)) (sym e) ∙ h) (ap (rows_in new v) (sym e) ∙ there)
          go (inr nu) (inl e) = ap (λ x. is_led (rows_in new x w) p) e ∙ to_t u w p nu h (ap (λ x. rows_in new x u) (sym e) ∙ there)
          go (inr nu) (inr nv) =
              ap (λ r. is_led r p) (row_other v w nv)
              ∙ before.on v u w p ne (below_more (rows_in old u w) (passed_of now u) (passed_of was u) (less u) (sym (ap (λ r. is_below r (passed_of now u)) (row_other u w nu)) ∙ h)) (sym (row_other v u nv) ∙ there)

      gained : (r : Option ℕ) (c : Bool) (p : ℕ) → ((q : ℕ) → r ≡ Some q → is_early was.latest q ≡ true) → gains r c n ≡ Some p → is_early now.latest p ≡ true
      gained (Some q) c p known k = early p (known p k)
      gained None true p known k = ap (is_early now.latest) (sym (same_Some n p k)) ∙ latest
      gained None false p known k = let z : None ≡ Some p = k in cc

      early_each : (v w p : ℕ) → rows_in new v w ≡ Some p → is_early now.latest p ≡ true
      early_each v w p there = go (cases_eq v t)
        where
          go : (v ≡ t) ⊎ (v ≢ t) → is_early now.latest p ≡ true
          go (inl e) = gained (rows_in old t w) (is_below (rows_in old o w) below) p (before.early t w) (sym (row_own w) ∙ ap (λ x. rows_in new x w) (sym e) ∙ there)
          go (inr ne) = early p (before.early v w p (sym (row_other v w ne) ∙ there))

-- thread t begins a block
module _ (old new : List Thread) (led : Led) (was now : Passed) (t n : ℕ) (begins : BeginsBlock old new t n)
    (listed : (v : ℕ) → v ≢ t → is_some (rows_in old v t) ≡ true → is_listed led t v ≡ true)
    (others : (u : ℕ) → u ≢ t → passed_of now u ≤ passed_of was u)
    (own : (v : ℕ) → is_listed led t v ≡ true → passed_of now t ≡ 0)
    (early : (p : ℕ) → is_early was.latest p ≡ true → is_early now.latest p ≡ true)
    (latest : is_early now.latest n ≡ true)
    (before : ArePassed old was) where
  row_but : (v w : ℕ) → ((v == t) && (t == w)) ≡ false → rows_in new v w ≡ rows_in old v w
  row_but v w h = begins.rows v w ∙ cond-false _ _ _ h

  not_own : (v u : ℕ) → u ≢ t → ((v == t) && (t == u)) ≡ false
  not_own v u ne = ap (λ b. (v == t) && b) (ne_eqb t u (λ e. ne (sym e))) ∙ go (v == t)
    where
      go : (b : Bool) → (b && false) ≡ false
      go true = refl
      go false = refl

  other_row : (v u : ℕ) → v ≢ t → ((v == t) && (t == u)) ≡ false
  other_row v u ne = ap (λ b. b && (t == u)) (ne_eqb v t ne)

  pub passed_begun : ArePassed new now
  passed_begun = record { on = on_each; early = early_each }
    where
      lowered : (b : Bool) (r : Option ℕ) (p : ℕ) → is_led r p ≡ true → is_led (if b then lesser r (Some n) else r) p ≡ true
      lowered true r p h = led_left r (Some n) p h
      lowered false r p h = h

      on_each : (v u w p : ℕ) → v ≢ u → is_below (rows_in new u w) (passed_of now u) ≡ true → rows_in new v u ≡ Some p → is_led (rows_in new v w) p ≡ true
      on_each v u w p ne h there = go (cases_eq u t)
        where
          go : (u ≡ t) ⊎ (u ≢ t) → is_led (rows_in new v w) p ≡ true
          go (inl e) =
              let nv : v ≢ t = λ f. ne (f ∙ sym e) in
              let had : rows_in old v t ≡ Some p = sym (row_but v t (other_row v t nv)) ∙ ap (rows_in new v) (sym e) ∙ there in
              absurd (below_nothing (rows_in new u w) (passed_of now u) (ap (passed_of now) e ∙ own v (listed v nv (ap is_some had))) h)
          go (inr nu) =
              ap (λ r. is_led r p) (begins.rows v w)
              ∙ lowered ((v == t) && (t == w)) (rows_in old v w) p
              (before.on v u w p ne (below_more (rows_in old u w) (passed_of now u) (passed_of was u) (others u nu) (sym (ap (λ r. is_below r (passed_of now u)) (row_but u w (other_row u w nu))) ∙ h)) (sym (row_but v u (not_own v u nu)) ∙ there))

      early_each : (v w p : ℕ) → rows_in new v w ≡ Some p → is_early now.latest p ≡ true
      early_each v w p there = go ((v == t) && (t == w)) (rows_in old v w) (before.early v w) (sym (begins.rows v w) ∙ there)
        where
          go : (b : Bool) (r : Option ℕ) → ((q : ℕ) → r ≡ Some q → is_early was.latest q ≡ true) → (if b then lesser r (Some n) else r) ≡ Some p → is_early now.latest p ≡ true
          go true r known k = ⊎_elim (λ e. early p (known p e)) (λ e. ap (is_early now.latest) (sym (same_Some n p e)) ∙ latest) (lesser_of r (Some n) p k)
          go false r known k = early p (known p k)

-- thread t's block ends
module _ (old new : List Thread) (passed : Passed) (t : ℕ) (ends : EndsBlock old new t) (before : ArePassed old passed) where
  abbrev row : ℕ → ℕ → Option ℕ
  row = rows_in old

  row_left : (v w : ℕ) → w ≢ t → rows_in new v w ≡ (if is_some (row t w) then lesser (row v w) (row v t) else row v w)
  row_left v w ne = ends.rows v w ∙ cond-false (w == t) _ _ (ne_eqb w t ne)

  row_gone : (v w : ℕ) → w ≡ t → rows_in new v w ≡ None
  row_gone v w e = ends.rows v w ∙ cond-true (w == t) _ _ (eq-eqb w t e)

  ends_on : (v u w p : ℕ) → v ≢ u → u ≢ t → w ≢ t → is_below (rows_in new u w) (passed_of passed u) ≡ true → rows_in new v u ≡ Some p → is_led (rows_in new v w) p ≡ true
  ends_on v u w p ne nu nw h there =
      ap (λ r. is_led r p) (row_left v w nw)
      ∙ go (was_below (is_some (row t w)) refl (sym (ap (λ r. is_below r (passed_of passed u)) (row_left u w nw)) ∙ h)) (was_there (is_some (row t u)) refl (sym (row_left v u nu) ∙ there))
    where
      b : ℕ
      b = passed_of passed u

      was_below : (c : Bool) → is_some (row t w) ≡ c → is_below (if c then lesser (row u w) (row u t) else row u w) b ≡ true
          → (is_below (row u w) b ≡ true) ⊎ ((is_some (row t w) ≡ true) × (is_below (row u t) b ≡ true))
      was_below true e k = ⊎_elim (λ x. inl x) (λ x. inr (e, x)) (or_cases _ _ (sym (below_lesser (row u w) (row u t) b) ∙ k))
      was_below false e k = inl k

      was_there : (c : Bool) → is_some (row t u) ≡ c → (if c then lesser (row v u) (row v t) else row v u) ≡ Some p → (row v u ≡ Some p) ⊎ ((is_some (row t u) ≡ true) × (row v t ≡ Some p))
      was_there true e k = ⊎_elim (λ x. inl x) (λ x. inr (e, x)) (lesser_of (row v u) (row v t) p k)
      was_there false e k = inl k

      by_row : (c : Bool) → is_led (row v w) p ≡ true → is_led (if c then lesser (row v w) (row v t) else row v w) p ≡ true
      by_row true k = led_left (row v w) (row v t) p k
      by_row false k = k

      by_both : is_some (row t w) ≡ true → is_led (row v t) p ≡ true → is_led (if is_some (row t w) then lesser (row v w) (row v t) else row v w) p ≡ true
      by_both e k = ap (λ r. is_led r p) (cond-true (is_some (row t w)) _ _ e) ∙ led_right (row v w) (row v t) p k

      go : (is_below (row u w) b ≡ true) ⊎ ((is_some (row t w) ≡ true) × (is_below (row u t) b ≡ true)) → (row v u ≡ Some p) ⊎ ((is_some (row t u) ≡ true) × (row v t ≡ Some p))
          → is_led (if is_some (row t w) then lesser (row v w) (row v t) else row v w) p ≡ true
      go (inl a) (inl d) = by_row (is_some (row t w)) (before.on v u w p ne a d)
      go (inl a) (inr (e, d)) =
          let r = some_of (row t u) e in
          by_both (led_some (row t w) r.0 (before.on t u w r.0 (λ f. nu (sym f)) a r.1)) (led_at (row v t) p d)
      go (inr (e, a)) (inl d) = by_both e (before.on v u t p ne a d)
      go (inr (e, a)) (inr (f, d)) = by_both e (led_at (row v t) p d)

  pub passed_ended : ArePassed new passed
  passed_ended = record { on = on_each; early = early_each }
    where
      on_each : (v u w p : ℕ) → v ≢ u → is_below (rows_in new u w) (passed_of passed u) ≡ true → rows_in new v u ≡ Some p → is_led (rows_in new v w) p ≡ true
      on_each v u w p ne h there = go (cases_eq u t) (cases_eq w t)
        where
          go : (u ≡ t) ⊎ (u ≢ t) → (w ≡ t) ⊎ (w ≢ t) → is_led (rows_in new v w) p ≡ true
          go (inl e) _ = let z : None ≡ Some p = sym (row_gone v u e) ∙ there in cc
          go (inr nu) (inl e) = let z : false ≡ true = sym (ap (λ r. is_below r (passed_of passed u)) (row_gone u w e)) ∙ h in cc
          go (inr nu) (inr nw) = ends_on v u w p ne nu nw h there

      early_each : (v w p : ℕ) → rows_in new v w ≡ Some p → is_early passed.latest p ≡ true
      early_each v w p there = go (cases_eq w t)
        where
          either : (c : Bool) → (if c then lesser (row v w) (row v t) else row v w) ≡ Some p → is_early passed.latest p ≡ true
          either true k = ⊎_elim (λ e. before.early v w p e) (λ e. before.early v t p e) (lesser_of (row v w) (row v t) p k)
          either false k = before.early v w p k

          go : (w ≡ t) ⊎ (w ≢ t) → is_early passed.latest p ≡ true
          go (inl e) = let z : None ≡ Some p = sym (row_gone v w e) ∙ there in cc
          go (inr ne) = either (is_some (row t w)) (sym (row_left v w ne) ∙ there)

-- what came later, and what is left out
module _ (t place : ℕ) where
  pub since_own : (ls : List Lead) → is_some (least_in (leads_since t place ls) t) ≡ false
  since_own [] = refl
  since_own (k ∷ ks) = go (is_since t place k) refl (since_own ks)
    where
      others : (a x : Bool) → (not a && x) ≡ true → a ≡ false
      others true x h = let z : false ≡ true = h in cc
      others false x h = refl

      go : (b : Bool) → is_since t place k ≡ b → is_some (least_in (leads_since t place ks) t) ≡ false → is_some (least_in (if b then k ∷ leads_since t place ks else leads_since t place ks) t) ≡ false
      go true e rest =
          ap (λ c. is_some (if c then lesser (Some k.place) (least_in (leads_since t place ks) t) else least_in (leads_since t place ks) t)) (others (k.opener == t) _ e)
          ∙ rest
      go false e rest = rest

  pub since_fewer : (ls : List Lead) (w : ℕ) → is_some (least_in (leads_since t place ls) w) ≡ true → is_some (least_in ls w) ≡ true
  since_fewer [] w h = h
  since_fewer (k ∷ ks) w h = go (is_since t place k) (k.opener == w) refl (since_fewer ks w) h
    where
      there : (r : Option ℕ) → is_some (lesser (Some k.place) r) ≡ true
      there None = refl
      there (Some p) = refl

      go : (b c : Bool) → k.opener == w ≡ c → (is_some (least_in (leads_since t place ks) w) ≡ true → is_some (least_in ks w) ≡ true)
          → is_some (least_in (if b then k ∷ leads_since t place ks else leads_since t place ks) w) ≡ true
          → is_some (if c then lesser (Some k.place) (least_in ks w) else least_in ks w) ≡ true
      go b true e rest m = there (least_in ks w)
      go false false e rest m = rest m
      go true false e rest m = rest (sym (ap (λ c. is_some (if c then lesser (Some k.place) (least_in (leads_since t place ks) w) else least_in (leads_since t place ks) w)) e) ∙ m)

  pub since_rest : (ls : List Lead) (w : ℕ) → w ≢ t → is_some (least_in ls w) ≡ true → (is_some (least_in (leads_since t place ls) w) ≡ true) ⊎ (is_below (least_in ls w) place ≡ true)
  since_rest [] w ne h = let z : false ≡ true = h in cc
  since_rest (k ∷ ks) w ne h = go (is_since t place k) refl (k.opener == w) refl (since_rest ks w ne) h
    where
      there : (r : Option ℕ) → is_some (lesser (Some k.place) r) ≡ true
      there None = refl
      there (Some p) = refl

      before : (a x : Bool) → a ≡ false → (not a && not x) ≡ false → x ≡ true
      before a true e f = refl
      before true false e f = let z : true ≡ false = e in cc
      before false false e f = let z : true ≡ false = f in cc

      go : (b : Bool) → is_since t place k ≡ b → (c : Bool) → k.opener == w ≡ c
          → (is_some (least_in ks w) ≡ true → (is_some (least_in (leads_since t place ks) w) ≡ true) ⊎ (is_below (least_in ks w) place ≡ true))
          → is_some (if c then lesser (Some k.place) (least_in ks w) else least_in ks w) ≡ true
          → (is_some (least_in (if b then k ∷ leads_since t place ks else leads_since t place ks) w) ≡ true) ⊎ (is_below (if c then lesser (Some k.place) (least_in ks w) else least_in ks w) place ≡ true)
      go true eb true ec rest m = inl (ap (λ c. is_some (if c then lesser (Some k.place) (least_in (leads_since t place ks) w) else least_in (leads_since t place ks) w)) ec ∙ there (least_in (leads_since t place ks) w))
      go true eb false ec rest m = ⊎_elim (λ x. inl (ap (λ c. is_some (if c then lesser (Some k.place) (least_in (leads_since t place ks) w) else least_in (leads_since t place ks) w)) ec ∙ x)) (λ x. inr x) (rest m)
      go false eb true ec rest m =
          inr (below_lesser (Some k.place) (least_in ks w) place ∙ or_left _ _ (before (k.opener == t) (nat_lt k.place place) (ne_eqb k.opener t (λ e. both_ways (k.opener == w) (ne_eqb k.opener w (λ f. ne (sym f ∙ e))) ec)) eb))
      go false eb false ec rest m = rest m

-- it is enough to pass on what came later
pub since_spreads : (threads : List Thread) (passed : Passed) (t o w : ℕ) → o ≢ t → ArePassed threads passed
    → absorbed (least_in (leads_since t (passed_of passed t) (thread_row (slice_get threads t)))) (rows_in threads o) t w ≡ absorbed (rows_in threads t) (rows_in threads o) t w
since_spreads threads passed t o w other are = go (cases_eq w t)
  where
    place : ℕ
    place = passed_of passed t

    ended : Option ℕ
    ended = least_in (leads_since t place (thread_row (slice_get threads t))) w

    enough : is_below (rows_in threads t w) place ≡ true → (r : Option ℕ) → rows_in threads o t ≡ r → rows_in threads o w ≡ lesser (rows_in threads o w) r
    enough h None e = sym (lesser_none (rows_in threads o w))
    enough h (Some p) e = sym (led_lesser (rows_in threads o w) p (are.on o t w p other h e))

    pick : w ≢ t → (b : Bool) → is_some ended ≡ b → (c : Bool) → is_some (rows_in threads t w) ≡ c
        → (if b then lesser (rows_in threads o w) (rows_in threads o t) else rows_in threads o w) ≡ (if c then lesser (rows_in threads o w) (rows_in threads o t) else rows_in threads o w)
    pick ne true e true f = refl
    pick ne true e false f = absurd (both_ways (is_some (rows_in threads t w)) f (since_fewer t place (thread_row (slice_get threads t)) w e))
    pick ne false e true f = ⊎_elim (λ k. absurd (both_ways (is_some ended) e k)) (λ k. enough k (rows_in threads o t) refl) (since_rest t place (thread_row (slice_get threads t)) w ne f)
    pick ne false e false f = refl

    go : (w ≡ t) ⊎ (w ≢ t) → (if w == t then None else if is_some ended then lesser (rows_in threads o w) (rows_in threads o t) else rows_in threads o w) ≡ absorbed (rows_in threads t) (rows_in threads o) t w
    go (inl e) = cond-true (w == t) _ _ (eq-eqb w t e) ∙ sym (cond-true (w == t) _ _ (eq-eqb w t e))
    go (inr ne) = cond-false (w == t) _ _ (ne_eqb w t ne) ∙ pick ne (is_some ended) refl (is_some (rows_in threads t w)) refl ∙ sym (cond-false (w == t) _ _ (ne_eqb w t ne))
