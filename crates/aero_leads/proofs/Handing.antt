-- What led to a block that ends is handed on to those alone that don't have it.
use Rattle.std.proofs.Common.{◌≡◌, ◌≢◌, ◌⊎◌, inl, inr, ⊎_elim, ℕ, ◌<◌, ◌≤◌, List, [], length, Option, Some, None, refl, sym, ap, subst, ◌∙◌, arith}
use Rattle.std.specs.Prelude.{◌==◌, ◌&&◌, ◌||◌, Bool, true, false, is_some, if◌then◌else◌, slice_get}
use Rattle.std.proofs.lemmas.Bool.{cases_eq, cases_lt, both_ways, cond-true, cond-false, eq-eqb, ne_eqb}
use Rattle.std.proofs.lemmas.Option.{slice_get_past}
use Rattle.aero_leads.specs.declared.row.Lead.{Lead}
use Rattle.aero_leads.specs.declared.thread.Thread.{Thread}
use Rattle.aero_leads.specs.declared.highs.Highs.{Highs}
use Rattle.aero_leads.specs.Kept.{least_in, rows_in, thread_row, absorbed, HasRow}
use Rattle.aero_leads.specs.Highs.{high_of, AreHigh}
use Rattle.aero_leads.specs.Passed.{is_early}
use Rattle.aero_leads.specs.Steps.{lesser}
use Rattle.aero_leads.proofs.Passing.{lesser_of}

-- there is room for more threads, to which nothing leads
pub high_reached : (old new : List Thread) (was now : Highs) (before : ℕ) → length old ≤ before → ((v : ℕ) → thread_row (slice_get new v) ≡ thread_row (slice_get old v))
    → ((o p : ℕ) → is_early (high_of was o) p ≡ true → o < before → is_early (high_of now o) p ≡ true) → AreHigh old was → AreHigh new now
high_reached old new was now before enough rows more are o w p there = go (cases_lt o before)
  where
    had : rows_in old o w ≡ Some p
    had = sym (ap (λ ls. least_in ls w) (rows o)) ∙ there

    go : (o < before) ⊎ (before ≤ o) → is_early (high_of now o) p ≡ true
    go (inl less) = more o p (are o w p had) less
    go (inr past) = let z : None ≡ Some p = sym (ap (λ t. least_in (thread_row t) w) (slice_get_past old o (omega (arith, enough, past)))) ∙ had in cc

-- a row is taken out
pub high_without : (old mid : List Thread) (highs : Highs) (t : ℕ) → HasRow old mid t [] → AreHigh old highs → AreHigh mid highs
high_without old mid highs t out before o w p there = go (o == t) (sym (ap (λ ls. least_in ls w) (out.rows o)) ∙ there)
  where
    go : (b : Bool) → least_in (if b then [] else thread_row (slice_get old o)) w ≡ Some p → is_early (high_of highs o) p ≡ true
    go true k = let z : None ≡ Some p = k in cc
    go false k = before o w p k

-- some threads have taken over what led to the block of thread t
module _ (start now : List Thread) (es : ℕ → Option ℕ) (t : ℕ) (done : ℕ → Bool)
    (rows : (o w : ℕ) → rows_in now o w ≡ (if done o then absorbed es (rows_in start o) t w else rows_in start o w)) where
  -- none of them comes to have a later place
  pub high_spread : (highs : Highs) → AreHigh start highs → AreHigh now highs
  high_spread highs before o w p there = go (done o) (w == t) (is_some (es w)) (sym (rows o w) ∙ there)
    where
      go : (b c d : Bool) → (if b then (if c then None else if d then lesser (rows_in start o w) (rows_in start o t) else rows_in start o w) else rows_in start o w) ≡ Some p → is_early (high_of highs o) p ≡ true
      go false c d k = before o w p k
      go true true d k = let z : None ≡ Some p = k in cc
      go true false false k = before o w p k
      go true false true k = ⊎_elim (before o w p) (before o t p) (lesser_of (rows_in start o w) (rows_in start o t) p k)

  -- and of other blocks they lose none
  pub some_spread : (o v : ℕ) → v ≢ t → is_some (rows_in start o v) ≡ true → is_some (rows_in now o v) ≡ true
  some_spread o v ne h = ap is_some (rows o v) ∙ go (done o) (v == t) (is_some (es v)) (ne_eqb v t ne)
    where
      some_lesser : (r q : Option ℕ) → is_some r ≡ true → is_some (lesser r q) ≡ true
      some_lesser None q k = let z : false ≡ true = k in cc
      some_lesser (Some p) None k = refl
      some_lesser (Some p) (Some n) k = refl

      go : (b c d : Bool) → c ≡ false → is_some (if b then (if c then None else if d then lesser (rows_in start o v) (rows_in start o t) else rows_in start o v) else rows_in start o v) ≡ true
      go false c d e = h
      go true true d e = let z : true ≡ false = e in cc
      go true false false e = h
      go true false true e = some_lesser (rows_in start o v) (rows_in start o t) h

-- a row that has all, and no later than the block, takes nothing over
pub all_there : (row es : ℕ → Option ℕ) (t : ℕ) → ((v : ℕ) → v ≢ t → is_some (es v) ≡ true → is_some (row v) ≡ true) → ((v p q : ℕ) → row t ≡ Some p → row v ≡ Some q → q ≤ p)
    → (w : ℕ) → absorbed (least_in []) row t w ≡ absorbed es row t w
all_there row es t there latest w = go (w == t) refl (is_some (es w)) refl
  where
    same : (r q : Option ℕ) → row w ≡ r → row t ≡ q → is_some r ≡ true → r ≡ lesser r q
    same None q e f h = let z : false ≡ true = h in cc
    same (Some x) None e f h = refl
    same (Some x) (Some y) e f h = let le = latest w y x f e in ap Some (omega (arith, le))

    go : (b : Bool) → w == t ≡ b → (c : Bool) → is_some (es w) ≡ c → (if b then None else row w) ≡ (if b then None else if c then lesser (row w) (row t) else row w)
    go true e c f = refl
    go false e false f = refl
    go false e true f = same (row w) (row t) refl refl (there w (λ g. both_ways (w == t) e (eq-eqb w t g)) f)

module _ (ended more : List Lead) (all : Bool) (is : more ≡ (if all then [] else ended)) where
  -- so it is left out
  pub left_rows : (was new : ℕ → ℕ → Option ℕ) (t o : ℕ) → (all ≡ true → (w : ℕ) → absorbed (least_in []) (was o) t w ≡ absorbed (least_in ended) (was o) t w)
      → ((v w : ℕ) → new v w ≡ (if o == v then absorbed (least_in more) (was v) t w else was v w))
      → (v w : ℕ) → new v w ≡ (if o == v then absorbed (least_in ended) (was v) t w else was v w)
  left_rows was new t o same rows v w = rows v w ∙ ap (λ ls. if o == v then absorbed (least_in ls) (was v) t w else was v w) is ∙ go all refl (cases_eq o v)
    where
      go : (b : Bool) → all ≡ b → (o ≡ v) ⊎ (o ≢ v) → (if o == v then absorbed (least_in (if b then [] else ended)) (was v) t w else was v w) ≡ (if o == v then absorbed (least_in ended) (was v) t w else was v w)
      go false e _ = refl
      go true e (inr ne) = cond-false (o == v) _ _ (ne_eqb o v ne) ∙ sym (cond-false (o == v) _ _ (ne_eqb o v ne))
      go true e (inl f) =
          cond-true (o == v) _ _ (eq-eqb o v f)
          ∙ subst (λ u. absorbed (least_in []) (was u) t w ≡ absorbed (least_in ended) (was u) t w) f (same e w)
          ∙ sym (cond-true (o == v) _ _ (eq-eqb o v f))

  pub left_own : (t : ℕ) → is_some (least_in ended t) ≡ false → is_some (least_in more t) ≡ false
  left_own t own = ap (λ ls. is_some (least_in ls t)) is ∙ go all
    where
      go : (b : Bool) → is_some (least_in (if b then [] else ended) t) ≡ false
      go true = refl
      go false = own

  -- and what is handed on is among those that led to the block
  pub left_so : (a b : Bool) (v : ℕ) → (a || (b && is_some (least_in more v))) ≡ true → (a || (b && is_some (least_in ended v))) ≡ true
  left_so a b v h = go all a b (sym (ap (λ ls. a || (b && is_some (least_in ls v))) is) ∙ h)
    where
      go : (c a b : Bool) → (a || (b && is_some (least_in (if c then [] else ended) v))) ≡ true → (a || (b && is_some (least_in ended v))) ≡ true
      go false a b k = k
      go true true b k = refl
      go true false true k = let z : false ≡ true = k in cc
      go true false false k = k

  pub left_handed : (v : ℕ) (known : Bool) → (all ≡ true → known ≡ true) → (is_some (least_in more v) ≡ true → known ≡ true) → is_some (least_in ended v) ≡ true → known ≡ true
  left_handed v known there handed some = go all refl
    where
      go : (c : Bool) → all ≡ c → known ≡ true
      go true e = there e
      go false e = handed (ap (λ ls. is_some (least_in ls v)) (is ∙ cond-false all _ _ e) ∙ some)
