-- Who is listed with a block to which it is led.
use Rattle.std.proofs.Common.{◌≡◌, ◌≢◌, ◌⊎◌, inl, inr, ⊎_elim, ℕ, List, [], ◌∷◌, ◌++◌, Option, Some, None, refl, sym, ap, ◌∙◌}
use Rattle.std.specs.Prelude.{◌==◌, Bool, true, false, is_some, if◌then◌else◌}
use Rattle.std.specs.List.{list_any}
use Rattle.std.proofs.lemmas.Bool.{cases_eq, cond-true, cond-false, eq-eqb, ne_eqb, or_left, or_right}
use Rattle.std.proofs.lemmas.List.Folds.{list_any-append}
use Rattle.aero_leads.specs.declared.row.Lead.{Lead}
use Rattle.aero_leads.specs.declared.led.Led.{Led}
use Rattle.aero_leads.specs.declared.thread.Thread.{Thread}
use Rattle.aero_leads.specs.Steps.{lesser}
use Rattle.aero_leads.specs.Kept.{least_in, rows_in}
use Rattle.aero_leads.specs.Listed.{followers, is_listed, IsListedRow, AreListed, Grows}

-- lists that are the same
pub grows_same : (old new : Led) → ((v : ℕ) → followers new v ≡ followers old v) → Grows old new
grows_same old new h w o k = ap (list_any (λ u. u == o)) (h w) ∙ k

-- thread o is noted with w
module _ (old new : Led) (w o : ℕ) (noted : (v : ℕ) → followers new v ≡ (if v == w then followers old v ++ o ∷ [] else followers old v)) where
  pub grows_noted : Grows old new
  grows_noted v u k = ap (list_any (λ x. x == u)) (noted v) ∙ go (v == w)
    where
      go : (b : Bool) → list_any (λ x. x == u) (if b then followers old v ++ o ∷ [] else followers old v) ≡ true
      go true = list_any-append (λ x. x == u) (followers old v) (o ∷ []) ∙ or_left _ _ k
      go false = k

  pub noted_there : is_listed new w o ≡ true
  noted_there =
      ap (list_any (λ x. x == o)) (noted w ∙ cond-true (w == w) _ _ (eq-eqb w w refl))
      ∙ list_any-append (λ x. x == o) (followers old w) (o ∷ []) ∙ or_right (list_any (λ x. x == o) (followers old w)) _ (or_left (o == o) false (eq-eqb o o refl))

  pub noted_others : (v : ℕ) → v ≢ w → followers new v ≡ followers old v
  noted_others v ne = noted v ∙ cond-false (v == w) _ _ (ne_eqb v w ne)

-- a row that stands, or loses places
pub listed_grown : (row : List Lead) (old new : Led) (o : ℕ) → Grows old new → IsListedRow row old o → IsListedRow row new o
listed_grown row old new o grows h w ne some = grows w o (h w ne some)

pub listed_fewer : (before after : List Lead) (led : Led) (o : ℕ) → ((w : ℕ) → is_some (least_in after w) ≡ true → is_some (least_in before w) ≡ true) → IsListedRow before led o → IsListedRow after led o
listed_fewer before after led o fewer h w ne some = h w ne (fewer w some)

-- a row that gains a place for w, with which its thread is listed
pub listed_added : (before after : List Lead) (old new : Led) (o w p : ℕ) → Grows old new → is_listed new w o ≡ true
    → ((v : ℕ) → least_in after v ≡ (if w == v then lesser (least_in before v) (Some p) else least_in before v))
    → IsListedRow before old o → IsListedRow after new o
listed_added before after old new o w p grows there row h v ne some = go (cases_eq w v)
  where
    go : (w ≡ v) ⊎ (w ≢ v) → is_listed new v o ≡ true
    go (inl e) = ap (λ u. is_listed new u o) (sym e) ∙ there
    go (inr other) = grows v o (h v ne (ap is_some (sym (row v ∙ cond-false (w == v) _ _ (ne_eqb w v other))) ∙ some))

-- a row whose place for w goes down, where it has one
pub listed_lowered : (before after : List Lead) (led : Led) (o w p : ℕ) → is_some (least_in before w) ≡ true
    → ((v : ℕ) → least_in after v ≡ (if w == v then lesser (least_in before v) (Some p) else least_in before v))
    → IsListedRow before led o → IsListedRow after led o
listed_lowered before after led o w p there row h = listed_fewer before after led o fewer h
  where
    fewer : (v : ℕ) → is_some (least_in after v) ≡ true → is_some (least_in before v) ≡ true
    fewer v some = ⊎_elim (λ e. ap (λ u. is_some (least_in before u)) (sym e) ∙ there) (λ ne. ap is_some (sym (row v ∙ cond-false (w == v) _ _ (ne_eqb w v ne))) ∙ some) (cases_eq w v)

-- a row without the places for t
pub listed_dropped : (before after : List Lead) (led : Led) (o t : ℕ) → ((w : ℕ) → least_in after w ≡ (if t == w then None else least_in before w)) → IsListedRow before led o → IsListedRow after led o
listed_dropped before after led o t row h = listed_fewer before after led o fewer h
  where
    go : (b : Bool) (r : Option ℕ) → is_some (if b then None else r) ≡ true → is_some r ≡ true
    go true r k = let z : false ≡ true = k in cc
    go false r k = k

    fewer : (w : ℕ) → is_some (least_in after w) ≡ true → is_some (least_in before w) ≡ true
    fewer w some = go (t == w) (least_in before w) (sym (ap is_some (row w)) ∙ some)

-- threads whose rows stand
pub listed_same : (old new : List Thread) (led : Led) → ((o w : ℕ) → rows_in new o w ≡ rows_in old o w) → AreListed old led → AreListed new led
listed_same old new led rows h o w ne some = h o w ne (sym (ap is_some (rows o w)) ∙ some)
