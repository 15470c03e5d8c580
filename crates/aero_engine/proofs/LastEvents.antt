-- What is known of the last event of a slot.
use Rattle.std.proofs.Common.{◌≡◌, ◌⊎◌, ℕ, zero, suc, ◌<◌, ◌≤◌, Bool, true, false, if◌then◌else◌, ⊎_elim, inl, inr, List, Option, Some, None, refl, sym, ap, ap₂, ◌∙◌, arith}
use Rattle.std.specs.Prelude.{slice_get}
use Rattle.std.proofs.lemmas.Bool.{cases_lt, both_ways, eqb-true, eq-eqb, or_cases, or_left, or_right, and_from}
use Rattle.aero_model.specs.declared.numbered.Numbered.{Numbered}
use Rattle.aero_model.specs.declared.numbered.What.{What}
use Rattle.aero_model.specs.declared.numbered.What.TheVariants.{Read, Write, Release, Fork}
use Rattle.aero_model.specs.Shape.{is_release_of, is_fork_of}
use Rattle.aero_model.proofs.Conflicting.{fork_is}
use Rattle.aero_model.proofs.Stability.{Agree, agree_less}
use Rattle.aero_engine.specs.declared.slot.Slot.TheVariants.{OfThread, LastWrite, LastRead, LastRelease}
use Rattle.aero_engine.specs.Slots.{is_read_of, is_write_of, of_slot, passes, last_of}

-- what a test says of an event
pub read_is : (x : ℕ) (w : What) → is_read_of x w ≡ true → w ≡ Read x
read_is x (Read y) h = ap Read (sym (eqb-true x y h))
read_is x _ h = cc

pub write_is : (x : ℕ) (w : What) → is_write_of x w ≡ true → w ≡ Write x
write_is x (Write y) h = ap Write (sym (eqb-true x y h))
write_is x _ h = cc

-- the events of a slot
pub of_thread : (t : ℕ) (f : Numbered) → of_slot (OfThread t) f ≡ true → (f.thread ≡ t) ⊎ (f.what ≡ Fork t)
of_thread t f h = ⊎_elim (λ a. inl (eqb-true f.thread t a)) (λ a. inr (fork_is t f.what a)) (or_cases _ _ h)

pub to_thread : (t : ℕ) (f : Numbered) → f.thread ≡ t → of_slot (OfThread t) f ≡ true
to_thread t f h = or_left _ _ (eq-eqb f.thread t h)

pub to_fork : (t : ℕ) (f : Numbered) → f.what ≡ Fork t → of_slot (OfThread t) f ≡ true
to_fork t f h = or_right _ _ (ap (is_fork_of t) h ∙ eq-eqb t t refl)

pub to_write : (x : ℕ) (f : Numbered) → f.what ≡ Write x → of_slot (LastWrite x) f ≡ true
to_write x f h = ap (is_write_of x) h ∙ eq-eqb x x refl

pub to_read : (x : ℕ) (f : Numbered) → f.what ≡ Read x → of_slot (LastRead x f.thread) f ≡ true
to_read x f h = and_from _ _ (eq-eqb f.thread f.thread refl) (ap (is_read_of x) h ∙ eq-eqb x x refl)

pub to_release : (l : ℕ) (f : Numbered) → f.what ≡ Release l → of_slot (LastRelease l) f ≡ true
to_release l f h = ap (is_release_of l) h ∙ eq-eqb l l refl

-- what is known of the last place that passes
pub record IsLast (test : Numbered → Bool) (trace : List Numbered) (n q : ℕ) : Type 0 where
  pub below : q < n
  pub event : Numbered
  pub event_at : slice_get trace q ≡ Some event
  pub passed : test event ≡ true

passing : (test : Numbered → Bool) (o : Option Numbered) → passes test o ≡ true → (f : Numbered) × (o ≡ Some f) × (test f ≡ true)
passing test None p = cc
passing test (Some f) p = (f, refl, p)

module _ (test : Numbered → Bool) (trace : List Numbered) where
  is_last_step : (n q : ℕ) (b : Bool) → passes test (slice_get trace n) ≡ b → (if b then Some n else last_of test trace n) ≡ Some q → (last_of test trace n ≡ Some q → IsLast test trace n q) → IsLast test trace (suc n) q
  is_last_step n q true p e old =
      let f = passing test (slice_get trace n) p in
      let same : n ≡ q = cc in
      record { below = omega arith; event = f.0; event_at = ap (slice_get trace) (sym same) ∙ f.1; passed = f.2 }
  is_last_step n q false p e old = let r = old e in record { below = omega (arith, r.below); event = r.event; event_at = r.event_at; passed = r.passed }

  pub is_last : (n q : ℕ) → last_of test trace n ≡ Some q → IsLast test trace n q
  is_last zero q e = cc
  is_last (suc n) q e = is_last_step n q (passes test (slice_get trace n)) refl e (is_last n q)

  covers_step : (n p : ℕ) (f : Numbered) (b : Bool) → passes test (slice_get trace n) ≡ b → slice_get trace p ≡ Some f → test f ≡ true → p < suc n → (p < n → (q : ℕ) × (last_of test trace n ≡ Some q) × (p ≤ q)) → (q : ℕ) × ((if b then Some n else last_of test trace n) ≡ Some q) × (p ≤ q)
  covers_step n p f true h at ok l old = (n, refl, omega arith)
  covers_step n p f false h at ok l old =
      ⊎_elim old (λ k. let same : p ≡ n = omega arith in absurd (both_ways _ h (ap (λ m. passes test (slice_get trace m)) (sym same) ∙ ap (passes test) at ∙ ok))) (cases_lt p n)

  -- a place that passes is the last one or before it
  pub last_covers : (n p : ℕ) (f : Numbered) → slice_get trace p ≡ Some f → test f ≡ true → p < n → (q : ℕ) × (last_of test trace n ≡ Some q) × (p ≤ q)
  last_covers zero p f at ok l = absurd (omega arith)
  last_covers (suc n) p f at ok l = covers_step n p f (passes test (slice_get trace n)) refl at ok l (last_covers n p f at ok)

  last_step : (n : ℕ) (e : Numbered) (b : Bool) → slice_get trace n ≡ Some e → test e ≡ b → last_of test trace (suc n) ≡ (if b then Some n else last_of test trace n)
  last_step n e b at p = ap (λ c. if c then Some n else last_of test trace n) (ap (passes test) at ∙ p)

  -- the event at place n is the last one, or changes nothing
  pub last_new : (n : ℕ) (e : Numbered) → slice_get trace n ≡ Some e → test e ≡ true → last_of test trace (suc n) ≡ Some n
  last_new n e at p = last_step n e true at p

  pub last_kept : (n : ℕ) (e : Numbered) → slice_get trace n ≡ Some e → test e ≡ false → last_of test trace (suc n) ≡ last_of test trace n
  last_kept n e at p = last_step n e false at p

-- in traces that agree
pub last_same : (test : Numbered → Bool) (n : ℕ) (a b : List Numbered) → Agree n a b → last_of test a n ≡ last_of test b n
last_same test zero a b h = refl
last_same test (suc n) a b h = ap₂ (λ o r. if passes test o then Some n else r) (h.same n (omega arith)) (last_same test n a b (agree_less n (suc n) a b (omega arith) h))
