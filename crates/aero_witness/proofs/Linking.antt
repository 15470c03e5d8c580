-- Of each place the next one of its transaction, from the last place back.
use Rattle.std.proofs.Common.{◌≡◌, ◌≢◌, ℕ, ◌+◌, ◌<◌, ◌≤◌, ◌==◌, if◌then◌else◌, List, length, Some, inl, inr, sym, ◌∙◌, ap, subst, arith}
use Rattle.std.specs.Prelude.{slice_get, slice_index_or}
use Rattle.std.proofs.lemmas.Bool.{cases_eq, eq-eqb, ne_eqb, cond-true, cond-false}
use Rattle.std.proofs.lemmas.Option.{same_Some}
use Rattle.aero_witness.specs.Basis.{IsNextOf, AreNext}

-- place l is the first from place p on with this first place, or where there is none the number of places
pub record IsLatest (firsts : List ℕ) (p f l : ℕ) : Type 0 where
  pub later : p ≤ l
  pub within : l ≤ length firsts
  pub same : l < length firsts → slice_get firsts l ≡ Some f
  pub none : (m : ℕ) → p ≤ m → m < l → slice_get firsts m ≢ Some f

pub record AreLatest (firsts : List ℕ) (p : ℕ) (latest : List ℕ) : Type 0 where
  pub each : length latest ≡ length firsts
  pub at : (f : ℕ) → f < length firsts → IsLatest firsts p f (slice_index_or latest f 0)

pub record Linked (firsts : List ℕ) (p : ℕ) (next latest : List ℕ) : Type 0 where
  pub nexts : AreNext firsts p next
  pub latests : AreLatest firsts p latest

module _ (firsts : List ℕ) where
  pub none_linked : (next latest : List ℕ) → length next ≡ length firsts → length latest ≡ length firsts → ((f : ℕ) → f < length firsts → slice_index_or latest f 0 ≡ length firsts) → (p : ℕ) → p ≡ length firsts → Linked firsts p next latest
  none_linked next latest n l at p e =
      record {
        nexts = record { each = n; at = λ i le less. absurd (omega arith) };
        latests = record {
          each = l;
          at = λ f less. (let is = at f less in record { later = omega arith; within = omega arith; same = λ h. absurd (omega arith); none = λ m a b c. omega arith });
        };
      }

module _ (firsts : List ℕ) (place f p : ℕ) (p_is : p ≡ place + 1) (at : slice_get firsts place ≡ Some f) (within : place < length firsts) (f_within : f < length firsts) (latest : List ℕ) (latest_are : AreLatest firsts p latest) where
  here : IsNextOf firsts place (slice_index_or latest f 0)
  here =
      let s = latest_are.at f f_within in
      record { later = (let a = s.later in omega arith); within = s.within; same = λ l. s.same l ∙ sym at; none = λ m a b e. s.none m (omega arith) b (e ∙ at) }

  next_linked : (old new : List ℕ) → AreNext firsts p old → length new ≡ length old → ((i : ℕ) → slice_index_or new i 0 ≡ (if place == i then slice_index_or latest f 0 else slice_index_or old i 0)) → AreNext firsts place new
  next_linked old new h each step =
      record {
        each = each ∙ h.each;
        at = λ i le l. elim (cases_eq place i) [
          | inl same ↦
              let is : slice_index_or new i 0 ≡ slice_index_or latest f 0 = step i ∙ cond-true (place == i) (slice_index_or latest f 0) (slice_index_or old i 0) (eq-eqb place i same) in
              subst (IsNextOf firsts i) (sym is) (subst (λ j. IsNextOf firsts j (slice_index_or latest f 0)) same here)
          | inr other ↦
              let is : slice_index_or new i 0 ≡ slice_index_or old i 0 = step i ∙ cond-false (place == i) (slice_index_or latest f 0) (slice_index_or old i 0) (ne_eqb place i other) in
              subst (IsNextOf firsts i) (sym is) (h.at i (omega arith) l)
        ];
      }

  latest_linked : (new : List ℕ) → length new ≡ length latest → ((g : ℕ) → slice_index_or new g 0 ≡ (if f == g then place else slice_index_or latest g 0)) → AreLatest firsts place new
  latest_linked new each step =
      record {
        each = each ∙ latest_are.each;
        at = λ g l. elim (cases_eq f g) [
          | inl same ↦
              let is : slice_index_or new g 0 ≡ place = step g ∙ cond-true (f == g) place (slice_index_or latest g 0) (eq-eqb f g same) in
              subst (IsLatest firsts place g) (sym is) (record { later = omega arith; within = omega arith; same = λ h. at ∙ ap Some same; none = λ m a b e. omega arith })
          | inr other ↦
              let is : slice_index_or new g 0 ≡ slice_index_or latest g 0 = step g ∙ cond-false (f == g) place (slice_index_or latest g 0) (ne_eqb f g other) in
              let s = latest_are.at g l in
              subst (IsLatest firsts place g) (sym is) (record {
                later = (let a = s.later in omega arith);
                within = s.within;
                same = s.same;
                none = λ m a b e. elim (cases_eq m place) [
                  | inl spot ↦ other (same_Some f g (sym at ∙ ap (slice_get firsts) (sym spot) ∙ e))
                  | inr off ↦ s.none m (omega arith) b e
                ];
              })
        ];
      }

  pub one_linked : (old new latest' : List ℕ) → AreNext firsts p old → length new ≡ length old → ((i : ℕ) → slice_index_or new i 0 ≡ (if place == i then slice_index_or latest f 0 else slice_index_or old i 0)) → length latest' ≡ length latest → ((g : ℕ) → slice_index_or latest' g 0 ≡ (if f == g then place else slice_index_or latest g 0)) → Linked firsts place new latest'
  one_linked old new latest' h each step each' step' = record { nexts = next_linked old new h each step; latests = latest_linked latest' each' step' }
