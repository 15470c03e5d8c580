-- First places by what places reach.
use Rattle.std.proofs.Common.{◌≡◌, ℕ, suc, ◌<◌, ◌≤◌, ◌⊎◌, inl, inr, List, Option, Some, None, refl, sym, ap, ◌∙◌, subst, le_refl, arith}
use Rattle.std.specs.Prelude.{true, is_some}
use Rattle.std.proofs.lemmas.Bool.{leb-true, le-leb}
use Rattle.aero_model.specs.declared.numbered.Numbered.{Numbered}
use Rattle.aero_model.specs.declared.numbered.What.TheVariants.{Fork}
use Rattle.aero_model.specs.Blocks.{depth, blocks, Transaction, Block}
use Rattle.aero_model.specs.Graph.{Conflicts, same_thread, forks}
use Rattle.aero_model.specs.Shape.{IsWellFormed}
use Rattle.aero_model.proofs.Reach.{Reach}
use Rattle.aero_model.proofs.Stability.{Agree, agree_back, depth_same, blocks_same}
use Rattle.aero_model.proofs.WellFormed.{forked_before, forked_once}
use Rattle.aero_model.proofs.Walks.{Reaches, reaches_from_leads, leads_from_reaches, leads_same}
use Rattle.aero_engine.proofs.LastEvents.{of_thread}
use Rattle.aero_engine.proofs.Sources.{reach_later}
use Rattle.aero_engine.proofs.Counts.{reaches_on}
use Rattle.aero_leads.specs.Leads.{Rows, is_led, IsPlaceOf, IsFirst, AreFirst}

-- a place of a thread reaches each later one
pub thread_chain : (trace : List Numbered) → IsWellFormed trace → (n o p q : ℕ) → IsPlaceOf trace n o p → IsPlaceOf trace n o q → p ≤ q → Reach trace n p q
thread_chain trace ok n o p q a b le = reach_later trace n p q a.event b.event le b.below a.event_at b.event_at (λ l. go l (of_thread o a.event a.of_thread) (of_thread o b.event b.of_thread))
  where
    go : p < q → (a.event.thread ≡ o) ⊎ (a.event.what ≡ Fork o) → (b.event.thread ≡ o) ⊎ (b.event.what ≡ Fork o) → Conflicts a.event b.event
    go l (inl h) (inl k) = same_thread (h ∙ sym k)
    go l (inr h) (inl k) = forks (h ∙ ap Fork (sym k))
    go l (inl h) (inr k) = absurd (omega (arith, forked_before trace ok q p b.event a.event b.event_at a.event_at (k ∙ ap Fork (sym h))))
    go l (inr h) (inr k) = absurd (omega (arith, forked_once trace ok p q o a.event b.event a.event_at b.event_at h k))

module _ (trace : List Numbered) (n : ℕ) (x : Transaction) (o : ℕ) where
  -- where there is a first place
  pub first_reaches : (p : ℕ) → IsFirst trace n x o (Some p) → Reaches trace n x p
  first_reaches p f = reaches_from_leads trace n x p f.1

  pub first_some : (r : Option ℕ) → IsFirst trace n x o r → (q : ℕ) → IsPlaceOf trace n o q → Reaches trace n x q → is_some r ≡ true
  first_some None f q b reaches = absurd (f q b (leads_from_reaches trace n x q reaches))
  first_some (Some p) f q b reaches = refl

  pub first_of : (r : Option ℕ) → IsFirst trace n x o r → is_some r ≡ true → (p : ℕ) × IsPlaceOf trace n o p × Reaches trace n x p
  first_of None f h = absurd (cc)
  first_of (Some p) f h = (p, f.0, first_reaches p f)

  pub first_least : (p : ℕ) → IsFirst trace n x o (Some p) → (q : ℕ) → IsPlaceOf trace n o q → Reaches trace n x q → p ≤ q
  first_least p f q b reaches = f.2 q b (leads_from_reaches trace n x q reaches)

  pub none_from : ((q : ℕ) → IsPlaceOf trace n o q → ¬ Reaches trace n x q) → IsFirst trace n x o None
  none_from h = λ q b leads. h q b (reaches_from_leads trace n x q leads)

  pub none_at : IsFirst trace n x o None → (q : ℕ) → IsPlaceOf trace n o q → ¬ Reaches trace n x q
  none_at f q b reaches = f q b (leads_from_reaches trace n x q reaches)

  pub some_from : (p : ℕ) → IsPlaceOf trace n o p → Reaches trace n x p → ((q : ℕ) → IsPlaceOf trace n o q → Reaches trace n x q → p ≤ q) → IsFirst trace n x o (Some p)
  some_from p b reaches least = (b, leads_from_reaches trace n x p reaches, λ q c leads. least q c (reaches_from_leads trace n x q leads))

  -- it tells of each place
  pub led_reaches : IsWellFormed trace → (r : Option ℕ) → IsFirst trace n x o r → (p : ℕ) → IsPlaceOf trace n o p → is_led r p ≡ true → Reaches trace n x p
  led_reaches ok None f p b h = absurd (cc)
  led_reaches ok (Some q) f p b h = reaches_on trace n x q p (first_reaches q f) (thread_chain trace ok n o q p f.0 b (leb-true q p h))

  pub reaches_led : (r : Option ℕ) → IsFirst trace n x o r → (p : ℕ) → IsPlaceOf trace n o p → Reaches trace n x p → is_led r p ≡ true
  reaches_led None f p b reaches = absurd (none_at f p b reaches)
  reaches_led (Some q) f p b reaches = le-leb q p (first_least q f p b reaches)

-- a place among more events
pub place_more : (trace : List Numbered) (n o p : ℕ) → IsPlaceOf trace n o p → IsPlaceOf trace (suc n) o p
place_more trace n o p b = record { below = omega (arith, b.below); event = b.event; event_at = b.event_at; of_thread = b.of_thread }

pub place_less : (trace : List Numbered) (n o p : ℕ) → p < n → IsPlaceOf trace (suc n) o p → IsPlaceOf trace n o p
place_less trace n o p l b = record { below = l; event = b.event; event_at = b.event_at; of_thread = b.of_thread }

-- in traces that agree
module _ (n : ℕ) (a b : List Numbered) (h : Agree n a b) where
  place_same : (o p : ℕ) → IsPlaceOf b n o p → IsPlaceOf a n o p
  place_same o p i = record { below = i.below; event = i.event; event_at = h.same p i.below ∙ i.event_at; of_thread = i.of_thread }

  first_same : (x : Transaction) (o : ℕ) (r : Option ℕ) → ((p : ℕ) → IsPlaceOf a n o p → IsPlaceOf b n o p) → IsFirst a n x o r → IsFirst b n x o r
  first_same x o None to f = λ p i leads. f p (place_same o p i) (leads_same n b a (agree_back n a b h) n (le_refl n) x p leads)
  first_same x o (Some p) to f =
      (to p f.0, leads_same n a b h n (le_refl n) x p f.1, λ q i leads. f.2 q (place_same o q i) (leads_same n b a (agree_back n a b h) n (le_refl n) x q leads))

pub rows_same : (n : ℕ) (a b : List Numbered) → Agree n a b → (rows : Rows) → AreFirst a n rows → AreFirst b n rows
rows_same n a b h rows first = record { is_open = opened; outside = λ o t z. first.outside o t (depth_same a b t n h ∙ z) }
  where
    opened : (o t : ℕ) → 0 < depth b t n → IsFirst b n (Block t (blocks b t n)) o (rows o t)
    opened o t d =
        subst (λ k. IsFirst b n (Block t k) o (rows o t)) (blocks_same n a b h t n (le_refl n))
        (first_same n a b h (Block t (blocks a t n)) o (rows o t) (place_same n b a (agree_back n a b h) o) (first.is_open o t (subst (λ m. 0 < m) (sym (depth_same a b t n h)) d)))
