-- What is low of a thread stays so, as blocks begin, lead on and end.
use Rattle.std.proofs.Common.{◌≡◌, ◌⊎◌, inl, inr, ℕ, ◌+◌, ◌≤◌, take, List, Option, Some, None, refl, sym, ap, ap₂, subst, ◌∙◌, arith}
use Rattle.std.specs.Prelude.{◌==◌, ◌&&◌, ◌||◌, Bool, true, false, is_some, if◌then◌else◌, slice_get}
use Rattle.std.proofs.lemmas.Bool.{cases_Bool, cond-true, cond-false, eqb-true, le-ltb, ltb-false}
use Rattle.aero_leads.specs.declared.row.Lead.{Lead}
use Rattle.aero_leads.specs.declared.thread.Thread.{Thread}
use Rattle.aero_leads.specs.declared.lows.Lows.{Lows}
use Rattle.aero_leads.specs.Kept.{least_in, is_below, rows_in, TakesRow, BeginsBlock, EndsBlock}
use Rattle.aero_leads.specs.Lows.{low_of, IsLow, AreLow}
use Rattle.aero_leads.specs.Steps.{gains, lesser}
use Rattle.aero_leads.proofs.Leasts.{below_next, below_lesser}

-- what isn't below a place isn't below a lesser one
pub below_less : (r : Option ℕ) (m n : ℕ) → m ≤ n → is_below r n ≡ false → is_below r m ≡ false
below_less None m n less h = refl
below_less (Some p) m n less h = le-ltb p m (omega (arith, less, ltb-false p n h))

-- one more of the row
pub low_next : (ls : List Lead) (i : ℕ) (l : Lead) (was now : ℕ) → slice_get ls i ≡ Some l → now ≤ was → now ≤ l.place
    → ((w : ℕ) → is_below (least_in (take i ls) w) was ≡ false) → (w : ℕ) → is_below (least_in (take (i + 1) ls) w) now ≡ false
low_next ls i l was now at less here so_far w =
    below_next ls i l w now at
    ∙ ap₂ (λ a b. a || ((l.opener == w) && b)) (below_less (least_in (take i ls) w) now was less (so_far w)) (le-ltb l.place now here)
    ∙ go (l.opener == w)
  where
    go : (b : Bool) → (false || (b && false)) ≡ false
    go true = refl
    go false = refl

-- a thread gains leads from this place on
pub low_taken : (old new : List Thread) (was now : Lows) (t o below n : ℕ) → TakesRow (rows_in old) (rows_in new) n t o below
    → ((u : ℕ) → low_of now u ≤ low_of was u) → low_of now t ≤ n → AreLow old was → AreLow new now
low_taken old new was now t o below n takes less place before v w = ap (λ r. is_below r (low_of now v)) (takes.rows v w) ∙ go (cases_Bool (v == t))
  where
    still : is_below (rows_in old v w) (low_of now v) ≡ false
    still = below_less (rows_in old v w) (low_of now v) (low_of was v) (less v) (before v w)

    gained : low_of now v ≤ n → (r : Option ℕ) (c : Bool) → is_below r (low_of now v) ≡ false → is_below (gains r c n) (low_of now v) ≡ false
    gained here (Some p) c h = h
    gained here None true h = le-ltb n (low_of now v) here
    gained here None false h = refl

    go : (v == t ≡ true) ⊎ (v == t ≡ false) → is_below (if v == t then gains (rows_in old v w) (is_below (rows_in old o w) below) n else rows_in old v w) (low_of now v) ≡ false
    go (inl e) = ap (λ r. is_below r (low_of now v)) (cond-true (v == t) _ _ e) ∙ gained (subst (λ u. low_of now u ≤ n) (sym (eqb-true v t e)) place) (rows_in old v w) (is_below (rows_in old o w) below) still
    go (inr e) = ap (λ r. is_below r (low_of now v)) (cond-false (v == t) _ _ e) ∙ still

-- or begins a block there
pub low_begun : (old new : List Thread) (was now : Lows) (t n : ℕ) → BeginsBlock old new t n → ((u : ℕ) → low_of now u ≤ low_of was u) → low_of now t ≤ n → AreLow old was → AreLow new now
low_begun old new was now t n begins less place before v w = ap (λ r. is_below r (low_of now v)) (begins.rows v w) ∙ go (v == t) refl (t == w)
  where
    still : is_below (rows_in old v w) (low_of now v) ≡ false
    still = below_less (rows_in old v w) (low_of now v) (low_of was v) (less v) (before v w)

    here : v == t ≡ true → is_below (Some n) (low_of now v) ≡ false
    here e = le-ltb n (low_of now v) (subst (λ u. low_of now u ≤ n) (sym (eqb-true v t e)) place)

    go : (b : Bool) → v == t ≡ b → (c : Bool) → is_below (if b && c then lesser (rows_in old v w) (Some n) else rows_in old v w) (low_of now v) ≡ false
    go true e true = below_lesser (rows_in old v w) (Some n) (low_of now v) ∙ ap₂ (λ x y. x || y) still (here e)
    go true e false = still
    go false e c = still

-- at an end a row takes over no place that isn't in it
pub low_ended : (old new looked : List Thread) (was now : Lows) (t : ℕ) → looked ≡ new → EndsBlock old new t → ((o : ℕ) → IsLow looked was o → IsLow looked now o) → AreLow old was → AreLow new now
low_ended old new looked was now t same_threads ends kept before o = subst (λ ts. IsLow ts now o) same_threads (kept o (subst (λ ts. IsLow ts was o) (sym same_threads) still))
  where
    go : (c d : Bool) (r q : Option ℕ) → is_below r (low_of was o) ≡ false → is_below q (low_of was o) ≡ false → is_below (if c then None else if d then lesser r q else r) (low_of was o) ≡ false
    go true d r q h k = refl
    go false true r q h k = below_lesser r q (low_of was o) ∙ ap₂ (λ a b. a || b) h k
    go false false r q h k = h

    still : IsLow new was o
    still w = ap (λ r. is_below r (low_of was o)) (ends.rows o w) ∙ go (w == t) (is_some (rows_in old t w)) (rows_in old o w) (rows_in old o t) (before o w) (before o t)
