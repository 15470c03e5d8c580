-- Rows have each block once, as they change.
use Rattle.std.proofs.Common.{◌≡◌, ◌≢◌, ◌⊎◌, inl, inr, ⊎_elim, ℕ, zero, suc, ◌+◌, ◌<◌, ◌≤◌, List, [], ◌∷◌, ◌++◌, length, Option, Some, None, refl, sym, ap, ap₂, subst, ◌∙◌, arith, get_or}
use Rattle.std.specs.Prelude.{◌==◌, Bool, true, false, is_some, if◌then◌else◌, slice_get, sum_by, swap_remove}
use Rattle.std.proofs.lemmas.Bool.{cases_eq, both_ways, cond-true, cond-false, eq-eqb, ne_eqb, eqb-true}
use Rattle.std.proofs.lemmas.Option.{same_Some, slice_get-get_or}
use Rattle.std.proofs.lemmas.List.Sums.{sum_by-cons, sum_by-append, sum_by-swap_remove}
use Rattle.aero_leads.specs.declared.row.Lead.{Lead}
use Rattle.aero_leads.specs.declared.thread.Thread.{Thread}
use Rattle.aero_leads.specs.Indexed.{opener_of}
use Rattle.aero_leads.specs.Kept.{least_in, thread_row, HasRow}
use Rattle.aero_leads.specs.Single.{leads_of, IsSingle, AreSingle}
use Rattle.aero_leads.specs.Steps.{lesser}
use Rattle.aero_leads.proofs.Leasts.{found_there}

-- a lead of the block counts one, or its place and one
abbrev counted_as : ℕ → Lead → ℕ
counted_as w l = if l.opener == w then 1 else 0

abbrev placed : ℕ → Lead → ℕ
placed w l = if l.opener == w then suc l.place else 0

leads_cons : (w : ℕ) (l : Lead) (ls : List Lead) → leads_of w (l ∷ ls) ≡ (if l.opener == w then 1 else 0) + leads_of w ls
leads_cons w l ls = sum_by-cons (λ (k : Lead). if k.opener == w then 1 else 0) l ls

placed_cons : (w : ℕ) (l : Lead) (ls : List Lead) → sum_by (placed w) (l ∷ ls) ≡ placed w l + sum_by (placed w) ls
placed_cons w l ls = sum_by-cons (placed w) l ls

-- where none is counted there is none
pub none_counted : (ls : List Lead) (w : ℕ) → leads_of w ls ≡ 0 → (least_in ls w ≡ None) × (sum_by (placed w) ls ≡ 0)
none_counted [] w h = (refl, refl)
none_counted (l ∷ ls) w h = go (l.opener == w) refl (sym (leads_cons w l ls) ∙ h) (none_counted ls w)
  where
    go : (b : Bool) → l.opener == w ≡ b → (if b then 1 else 0) + leads_of w ls ≡ 0 → (leads_of w ls ≡ 0 → (least_in ls w ≡ None) × (sum_by (placed w) ls ≡ 0))
        → ((if l.opener == w then lesser (Some l.place) (least_in ls w) else least_in ls w) ≡ None) × (sum_by (placed w) (l ∷ ls) ≡ 0)
    go true e k rest = absurd (omega (arith, k))
    go false e k rest =
        let r = rest (omega (arith, k)) in
        (cond-false _ _ _ e ∙ r.0, placed_cons w l ls ∙ ap₂ (λ a b. a + b) (cond-false (l.opener == w) (suc l.place) 0 e) r.1)

pub count_none : (ls : List Lead) (w : ℕ) → is_some (least_in ls w) ≡ false → leads_of w ls ≡ 0
count_none [] w h = refl
count_none (l ∷ ls) w h = leads_cons w l ls ∙ go (l.opener == w) h (count_none ls w)
  where
    go : (b : Bool) → is_some (if b then lesser (Some l.place) (least_in ls w) else least_in ls w) ≡ false → (is_some (least_in ls w) ≡ false → leads_of w ls ≡ 0) → (if b then 1 else 0) + leads_of w ls ≡ 0
    go true k rest = absurd (there (least_in ls w) k)
      where
        there : (r : Option ℕ) → ¬ (is_some (lesser (Some l.place) r) ≡ false)
        there None k = let z : true ≡ false = k in cc
        there (Some p) k = let z : true ≡ false = k in cc
    go false k rest = omega (arith, rest k)

-- what is counted once tells its place
abbrev decoded : ℕ → Option ℕ
decoded zero = None
decoded (suc p) = Some p

pub least_decoded : (ls : List Lead) (w : ℕ) → leads_of w ls ≤ 1 → least_in ls w ≡ decoded (sum_by (placed w) ls)
least_decoded [] w h = refl
least_decoded (l ∷ ls) w h = go (l.opener == w) refl (subst (λ n. n ≤ 1) (leads_cons w l ls) h) (least_decoded ls w) ∙ ap decoded (sym (placed_cons w l ls))
  where
    go : (b : Bool) → l.opener == w ≡ b → (if b then 1 else 0) + leads_of w ls ≤ 1 → (leads_of w ls ≤ 1 → least_in ls w ≡ decoded (sum_by (placed w) ls))
        → (if b then lesser (Some l.place) (least_in ls w) else least_in ls w) ≡ decoded ((if b then suc l.place else 0) + sum_by (placed w) ls)
    go true e k rest =
        let none = none_counted ls w (omega (arith, k)) in
        let same : suc l.place ≡ suc l.place + sum_by (placed w) ls = omega (arith, none.1) in
        ap (lesser (Some l.place)) none.0 ∙ ap decoded same
    go false e k rest = let same : sum_by (placed w) ls ≡ 0 + sum_by (placed w) ls = omega arith in rest (omega (arith, k)) ∙ ap decoded same

-- the place of the one lead of a block is the least
pub single_lead : (ls : List Lead) (i w : ℕ) (l : Lead) → slice_get ls i ≡ Some l → l.opener ≡ w → leads_of w ls ≤ 1 → least_in ls w ≡ Some l.place
single_lead [] i w l at is one = cc
single_lead (k ∷ ks) zero w l at is one =
    let same : k ≡ l = same_Some k l at in
    let own : k.opener == w ≡ true = eq-eqb k.opener w (ap (λ (m : Lead). m.opener) same ∙ is) in
    cond-true _ _ _ own ∙ ap (lesser (Some k.place)) (none_counted ks w (omega (arith, one, leads_cons w k ks, cond-true {A = ℕ} (k.opener == w) 1 0 own))).0 ∙ ap (λ (m : Lead). Some m.place) same
single_lead (k ∷ ks) (suc i) w l at is one = go (k.opener == w) refl (single_lead ks i w l at is)
  where
    there : is_some (least_in ks w) ≡ true
    there = found_there ks i w (ap opener_of at ∙ ap Some is)

    go : (b : Bool) → k.opener == w ≡ b → (leads_of w ks ≤ 1 → least_in ks w ≡ Some l.place) → (if k.opener == w then lesser (Some k.place) (least_in ks w) else least_in ks w) ≡ Some l.place
    go true e rest =
        let none = (none_counted ks w (omega (arith, one, leads_cons w k ks, cond-true {A = ℕ} (k.opener == w) 1 0 e))).0 in
        let z : true ≡ false = sym there ∙ ap is_some none in cc
    go false e rest = cond-false _ _ _ e ∙ rest (omega (arith, one, leads_cons w k ks, cond-false {A = ℕ} (k.opener == w) 1 0 e))

pub some_first : (n : ℕ) → (n == 0) ≡ false → 0 < n
some_first n h = ⊎_elim (λ e. absurd (both_ways (n == 0) h (eq-eqb n 0 e))) (λ ne. omega (arith, ne)) (cases_eq n 0)

pub none_some : {r : Option ℕ} → r ≡ None → is_some r ≡ false
none_some h = ap is_some h

-- so what is found is the row's lead
pub lead_found : (ls : List Lead) (w : ℕ) (i : ℕ) (l : Lead) → slice_get ls i ≡ Some l → opener_of (slice_get ls i) ≡ Some w → IsSingle ls → (l.opener ≡ w) × (least_in ls w ≡ Some l.place)
lead_found ls w i l at found single =
    let own = same_Some l.opener w (sym (ap opener_of at) ∙ found) in
    (own, single_lead ls i w l at own (single w))

pub none_least : (ls : List Lead) (w : ℕ) → is_some (least_in ls w) ≡ false → least_in ls w ≡ None
none_least ls w h = (none_counted ls w (count_none ls w h)).0

pub none_stands : (ls : List Lead) (w : ℕ) → ((j : ℕ) → ¬ (opener_of (slice_get ls j) ≡ Some w)) → least_in ls w ≡ None
none_stands [] w none = refl
none_stands (k ∷ ks) w none = cond-false _ _ _ (ne_eqb k.opener w (λ e. none 0 (ap Some e))) ∙ none_stands ks w (λ j. none (suc j))

-- one more at the end
pub single_pushed : (ls : List Lead) (l : Lead) → is_some (least_in ls l.opener) ≡ false → IsSingle ls → IsSingle (ls ++ l ∷ [])
single_pushed ls l none single w = subst (λ n. n ≤ 1) (sym (sum_by-append (λ (k : Lead). if k.opener == w then 1 else 0) ls (l ∷ []))) (go (cases_eq l.opener w))
  where
    go : (l.opener ≡ w) ⊎ (l.opener ≢ w) → leads_of w ls + leads_of w (l ∷ []) ≤ 1
    go (inl e) = omega (arith, count_none ls w (ap (λ u. is_some (least_in ls u)) (sym e) ∙ none), leads_cons w l [] ∙ ap (λ n. n + 0) (cond-true (l.opener == w) 1 0 (eq-eqb l.opener w e)))
    go (inr ne) = omega (arith, single w, leads_cons w l [] ∙ ap (λ n. n + 0) (cond-false (l.opener == w) 1 0 (ne_eqb l.opener w ne)))

-- openers that stay where they stand
counts_same : (ls new : List Lead) → ((i : ℕ) → opener_of (slice_get new i) ≡ opener_of (slice_get ls i)) → (w : ℕ) → leads_of w new ≡ leads_of w ls
counts_same [] [] h w = refl
counts_same [] (k ∷ ks) h w = let z : Some k.opener ≡ None = h 0 in cc
counts_same (l ∷ ls) [] h w = let z : None ≡ Some l.opener = h 0 in cc
counts_same (l ∷ ls) (k ∷ ks) h w =
    leads_cons w k ks ∙ ap₂ (λ u n. (if u == w then 1 else 0) + n) (same_Some k.opener l.opener (h 0)) (counts_same ls ks (λ i. h (suc i)) w) ∙ sym (leads_cons w l ls)

pub single_same : (ls new : List Lead) → ((i : ℕ) → opener_of (slice_get new i) ≡ opener_of (slice_get ls i)) → IsSingle ls → IsSingle new
single_same ls new h single w = subst (λ n. n ≤ 1) (sym (counts_same ls new h w)) (single w)

-- the last lead takes the place of one that goes
module _ (ls : List Lead) (i t : ℕ) (d : Lead) (less : i < length ls) (at : opener_of (slice_get ls i) ≡ Some t) (single : IsSingle ls) where
  gone : (get_or ls i d).opener ≡ t
  gone = same_Some (get_or ls i d).opener t (sym (ap opener_of (slice_get-get_or ls i d less)) ∙ at)

  counted : (w : ℕ) → leads_of w (swap_remove ls i d) + counted_as w (get_or ls i d) ≡ leads_of w ls
  counted w = sum_by-swap_remove (λ (l : Lead). if l.opener == w then 1 else 0) ls i d less

  pub single_left : IsSingle (swap_remove ls i d)
  single_left w = omega (arith, counted w, single w)

  pub least_left : (w : ℕ) → least_in (swap_remove ls i d) w ≡ (if t == w then None else least_in ls w)
  least_left w = go (cases_eq t w)
    where
      go : (t ≡ w) ⊎ (t ≢ w) → least_in (swap_remove ls i d) w ≡ (if t == w then None else least_in ls w)
      go (inl e) =
          let one : counted_as w (get_or ls i d) ≡ 1 = cond-true _ _ _ (eq-eqb (get_or ls i d).opener w (gone ∙ e)) in
          (none_counted (swap_remove ls i d) w (omega (arith, counted w, single w, one))).0 ∙ sym (cond-true (t == w) _ _ (eq-eqb t w e))
      go (inr ne) =
          let other : (get_or ls i d).opener == w ≡ false = ne_eqb (get_or ls i d).opener w (λ f. ne (sym gone ∙ f)) in
          let none : placed w (get_or ls i d) ≡ 0 = cond-false _ _ _ other in
          least_decoded (swap_remove ls i d) w (single_left w)
          ∙ ap decoded (omega (arith, sum_by-swap_remove (placed w) ls i d less, none))
          ∙ sym (least_decoded ls w (single w)) ∙ sym (cond-false (t == w) _ _ (ne_eqb t w ne))

pub none_left : (ls : List Lead) (t : ℕ) → is_some (least_in ls t) ≡ false → (w : ℕ) → least_in ls w ≡ (if t == w then None else least_in ls w)
none_left ls t none w = go (t == w) refl (least_in ls w) refl
  where
    go : (b : Bool) → t == w ≡ b → (r : Option ℕ) → least_in ls w ≡ r → r ≡ (if b then None else r)
    go true e None f = refl
    go true e (Some p) f = let z : true ≡ false = sym (ap is_some f) ∙ ap (λ u. is_some (least_in ls u)) (sym (eqb-true t w e)) ∙ none in cc
    go false e r f = refl

-- threads, of which one's row is another
pub single_row : (old new : List Thread) (t : ℕ) (row : List Lead) → HasRow old new t row → IsSingle row → AreSingle old → AreSingle new
single_row old new t row has single are o = subst IsSingle (sym (has.rows o)) (go (o == t))
  where
    go : (b : Bool) → IsSingle (if b then row else thread_row (slice_get old o))
    go true = single
    go false = are o

pub single_rows : (old new : List Thread) → ((v : ℕ) → thread_row (slice_get new v) ≡ thread_row (slice_get old v)) → AreSingle old → AreSingle new
single_rows old new rows are v = subst IsSingle (sym (rows v)) (are v)

pub single_none : IsSingle []
single_none w = omega arith

-- a row is taken out, and another one put back
pub single_taken : (old mid : List Thread) (t : ℕ) → HasRow old mid t [] → AreSingle old → AreSingle mid
single_taken old mid t out are = single_row old mid t [] out single_none are
