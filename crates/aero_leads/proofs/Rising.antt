-- Up to which place a row goes stays known, as blocks begin, lead on and end.
use Rattle.std.proofs.Common.{◌≡◌, ◌≢◌, ◌⊎◌, inl, inr, ⊎_elim, ℕ, suc, ◌<◌, ◌≤◌, List, [], ◌∷◌, Option, Some, None, refl, sym, ap, ◌∙◌, min, arith}
use Rattle.std.specs.Prelude.{◌==◌, ◌&&◌, not, Bool, true, false, is_some, if◌then◌else◌, slice_get}
use Rattle.std.proofs.lemmas.Bool.{cases_eq, cond-true, cond-false, eq-eqb, ne_eqb, lt-ltb, le-leb}
use Rattle.std.proofs.lemmas.Option.{same_Some}
use Rattle.aero_leads.specs.declared.row.Lead.{Lead}
use Rattle.aero_leads.specs.declared.thread.Thread.{Thread}
use Rattle.aero_leads.specs.declared.highs.Highs.{Highs}
use Rattle.aero_leads.specs.Kept.{least_in, is_below, rows_in, TakesRow, BeginsBlock, EndsBlock}
use Rattle.aero_leads.specs.Highs.{high_of, AreHigh}
use Rattle.aero_leads.specs.Passed.{is_early, leads_since, is_since}
use Rattle.aero_leads.specs.Single.{IsSingle}
use Rattle.aero_leads.specs.Steps.{gains, lesser}
use Rattle.aero_leads.proofs.Passing.{lesser_of}
use Rattle.aero_leads.proofs.Singles.{single_lead}

-- nothing is known
pub high_nothing : (threads : List Thread) (highs : Highs) → ((o : ℕ) → high_of highs o ≡ None) → AreHigh threads highs
high_nothing threads highs none o w p there = ap (λ h. is_early h p) (none o)

-- threads whose rows stand
pub high_same : (old new : List Thread) (highs : Highs) → ((o w : ℕ) → rows_in new o w ≡ rows_in old o w) → AreHigh old highs → AreHigh new highs
high_same old new highs rows before o w p there = before o w p (sym (rows o w) ∙ there)

-- a thread gains leads from this place on
pub high_taken : (old new : List Thread) (was now : Highs) (t o below n : ℕ) → TakesRow (rows_in old) (rows_in new) n t o below
    → ((v p : ℕ) → is_early (high_of was v) p ≡ true → is_early (high_of now v) p ≡ true) → is_early (high_of now t) n ≡ true → AreHigh old was → AreHigh new now
high_taken old new was now t o below n takes more place before v w p there = go (cases_eq v t)
  where
    gained : v ≡ t → (r : Option ℕ) (c : Bool) → ((q : ℕ) → r ≡ Some q → is_early (high_of was v) q ≡ true) → gains r c n ≡ Some p → is_early (high_of now v) p ≡ true
    gained e (Some q) c known k = more v p (known p k)
    gained e None true known k = ap (is_early (high_of now v)) (sym (same_Some n p k)) ∙ ap (λ u. is_early (high_of now u) n) e ∙ place
    gained e None false known k = let z : None ≡ Some p = k in cc

    go : (v ≡ t) ⊎ (v ≢ t) → is_early (high_of now v) p ≡ true
    go (inl e) = gained e (rows_in old v w) (is_below (rows_in old o w) below) (before v w) (sym (takes.rows v w ∙ cond-true (v == t) _ _ (eq-eqb v t e)) ∙ there)
    go (inr ne) = more v p (before v w p (sym (takes.rows v w ∙ cond-false (v == t) _ _ (ne_eqb v t ne)) ∙ there))

-- or begins a block there
pub high_begun : (old new : List Thread) (was now : Highs) (t n : ℕ) → BeginsBlock old new t n
    → ((v p : ℕ) → is_early (high_of was v) p ≡ true → is_early (high_of now v) p ≡ true) → is_early (high_of now t) n ≡ true → AreHigh old was → AreHigh new now
high_begun old new was now t n begins more place before v w p there = go (cases_eq v t) (t == w) (sym (begins.rows v w) ∙ there)
  where
    still : rows_in old v w ≡ Some p → is_early (high_of now v) p ≡ true
    still k = more v p (before v w p k)

    here : v ≡ t → n ≡ p → is_early (high_of now v) p ≡ true
    here e same = ap (is_early (high_of now v)) (sym same) ∙ ap (λ u. is_early (high_of now u) n) e ∙ place

    both : (b c : Bool) → (b ≡ true → v ≡ t) → (if b && c then lesser (rows_in old v w) (Some n) else rows_in old v w) ≡ Some p → is_early (high_of now v) p ≡ true
    both true true same k = ⊎_elim still (λ e. here (same refl) (same_Some n p e)) (lesser_of (rows_in old v w) (Some n) p k)
    both true false same k = still k
    both false c same k = still k

    go : (v ≡ t) ⊎ (v ≢ t) → (c : Bool) → (if (v == t) && c then lesser (rows_in old v w) (Some n) else rows_in old v w) ≡ Some p → is_early (high_of now v) p ≡ true
    go (inl e) c k = both (v == t) c (λ _. e) k
    go (inr ne) c k = still (sym (ap (λ b. if b && c then lesser (rows_in old v w) (Some n) else rows_in old v w) (ne_eqb v t ne)) ∙ k)

-- at an end a row takes over no place that isn't in it, and what led to the block comes to lead to no later place than its begin
pub high_ended : (old new : List Thread) (was now : Highs) (t : ℕ) (own : Option ℕ) → EndsBlock old new t → own ≡ rows_in old t t
    → ((o p : ℕ) → is_early (high_of was o) p ≡ true → (o ≡ t → is_early own p ≡ true) → is_early (high_of now o) p ≡ true) → AreHigh old was → AreHigh new now
high_ended old new was now t own ends is settles before o w p there = go (w == t) refl (sym (ends.rows o w) ∙ there)
  where
    early : (c : Bool) → (if c then lesser (rows_in old o w) (rows_in old o t) else rows_in old o w) ≡ Some p → is_early (high_of was o) p ≡ true
    early true k = ⊎_elim (before o w p) (before o t p) (lesser_of (rows_in old o w) (rows_in old o t) p k)
    early false k = before o w p k

    least : (r q : Option ℕ) → (if is_some r then lesser r q else r) ≡ Some p → is_early q p ≡ true
    least None q k = let z : None ≡ Some p = k in cc
    least (Some n) None k = refl
    least (Some n) (Some m) k = let same : min n m ≡ p = same_Some (min n m) p k in le-leb p m (omega (arith, same))

    at_own : (if is_some (rows_in old t w) then lesser (rows_in old o w) (rows_in old o t) else rows_in old o w) ≡ Some p → o ≡ t → is_early own p ≡ true
    at_own k e = ap (λ r. is_early r p) is ∙ least (rows_in old t w) (rows_in old t t) (sym (ap (λ u. if is_some (rows_in old t w) then lesser (rows_in old u w) (rows_in old u t) else rows_in old u w) e) ∙ k)

    go : (b : Bool) → w == t ≡ b → (if b then None else if is_some (rows_in old t w) then lesser (rows_in old o w) (rows_in old o t) else rows_in old o w) ≡ Some p → is_early (high_of now o) p ≡ true
    go true e k = let z : None ≡ Some p = k in cc
    go false e k = settles o p (early (is_some (rows_in old t w)) k) (at_own k)

-- where no place is above this one, each is the lesser one already
pub lowered_already : (row : List Lead) (n : ℕ) → ((w p : ℕ) → least_in row w ≡ Some p → p ≤ n)
    → (w : ℕ) → least_in row w ≡ (if is_some (least_in row w) then lesser (least_in row w) (Some n) else least_in row w)
lowered_already row n up_to w = go (least_in row w) refl
  where
    go : (r : Option ℕ) → least_in row w ≡ r → r ≡ (if is_some r then lesser r (Some n) else r)
    go None e = refl
    go (Some p) e = let le = up_to w p e in ap Some (omega (arith, le))

-- where all leads come before a place, none comes since
since_none : (t n : ℕ) (row : List Lead) → ((i : ℕ) (l : Lead) → slice_get row i ≡ Some l → l.place < n) → leads_since t n row ≡ []
since_none t n [] before = refl
since_none t n (k ∷ ks) before = cond-false _ _ _ not_since ∙ since_none t n ks (λ i l at. before (suc i) l at)
  where
    neither : (b : Bool) → (b && false) ≡ false
    neither true = refl
    neither false = refl

    not_since : is_since t n k ≡ false
    not_since = ap (λ b. not (k.opener == t) && not b) (lt-ltb k.place n (before 0 k refl)) ∙ neither (not (k.opener == t))

pub none_since : (t n : ℕ) (row : List Lead) → IsSingle row → ((w p : ℕ) → least_in row w ≡ Some p → p < n) → leads_since t n row ≡ []
none_since t n row single before = since_none t n row (λ i l at. before l.opener l.place (single_lead row i l.opener l at refl (single l.opener)))
