-- What a thread takes, one event after the other.
use Rattle.std.proofs.Common.{◌≡◌, ◌≢◌, ◌⊎◌, inl, inr, ℕ, zero, suc, ◌+◌, add-one, take, List, [], ◌∷◌, ◌++◌, Option, Some, None, refl, sym, ap, ap₂, ◌∙◌, arith}
use Rattle.std.specs.Prelude.{◌==◌, ◌||◌, ◌&&◌, not, Bool, true, false, if◌then◌else◌, slice_get}
use Rattle.std.proofs.lemmas.Bool.{cases_Bool, cases_eq, cond-true, cond-false, le-ltb, eqb-true, eq-eqb, ne_eqb, or_left, or_right}
use Rattle.aero_leads.specs.declared.row.Lead.{Lead}
use Rattle.aero_leads.specs.declared.last.Last.{Last}
use Rattle.aero_leads.specs.declared.thread.Thread.{Thread}
use Rattle.aero_leads.specs.Leads.{Rows}
use Rattle.aero_leads.specs.Steps.{gains}
use Rattle.aero_leads.specs.Kept.{least_in, is_below, thread_row, rows_in, HasRow, TakesRow, TakesAll, leads_to, leads_to_any, if_any}
use Rattle.aero_leads.proofs.Leasts.{gains_none, gains_more}

-- a row is taken out, gains, and is put back
pub gained : (old mid new : List Thread) (t o below n : ℕ) (row after other : List Lead) → row ≡ thread_row (slice_get old t) → HasRow old mid t [] → other ≡ thread_row (slice_get mid o) → o ≢ t
    → ((w : ℕ) → least_in after w ≡ gains (least_in row w) (is_below (least_in other w) below) n) → HasRow mid new t after
    → TakesRow (rows_in old) (rows_in new) n t o below
gained old mid new t o below n row after other is out there ne gains_all back = record {
  rows = λ v w. ap (λ ls. least_in ls w) (back.rows v) ∙ go v w (cases_Bool (v == t));
}
  where
    same : other ≡ thread_row (slice_get old o)
    same = there ∙ out.rows o ∙ cond-false (o == t) _ _ (ne_eqb o t ne)

    go : (v w : ℕ) → (v == t ≡ true) ⊎ (v == t ≡ false) → least_in (if v == t then after else thread_row (slice_get mid v)) w ≡ (if v == t then gains (rows_in old v w) (is_below (rows_in old o w) below) n else rows_in old v w)
    go v w (inl e) =
        ap (λ ls. least_in ls w) (cond-true (v == t) _ _ e) ∙ gains_all w
        ∙ ap₂ (λ (a b : List Lead). gains (least_in a w) (is_below (least_in b w) below) n) (is ∙ ap (λ u. thread_row (slice_get old u)) (sym (eqb-true v t e))) same
        ∙ sym (cond-true (v == t) _ _ e)
    go v w (inr e) =
        ap (λ ls. least_in ls w) (cond-false (v == t) _ _ e ∙ out.rows v ∙ cond-false (v == t) _ _ e) ∙ sym (cond-false (v == t) _ _ e)

pub takes_nothing : (old : Rows) (n t : ℕ) (ls : List Last) → ((w : ℕ) → leads_to_any old t w ls ≡ false) → TakesAll old old n t ls
takes_nothing old n t ls none = record { rows = λ v w. go v w (v == t) }
  where
    go : (v w : ℕ) (b : Bool) → old v w ≡ (if b then gains (old v w) (leads_to_any old t w ls) n else old v w)
    go v w true = sym (ap (λ c. gains (old v w) c n) (none w) ∙ gains_none (old v w) n)
    go v w false = refl

-- an event of the thread itself leads to nothing more
pub own_leads_not : (rows : Rows) (t w : ℕ) (l : Last) → l.thread ≡ t → leads_to rows t w l ≡ false
own_leads_not rows t w l h = ap (λ b. not b && is_below (rows l.thread w) l.count) (eq-eqb l.thread t h)

pub other_leads : (rows : Rows) (t w : ℕ) (l : Last) → l.thread ≢ t → leads_to rows t w l ≡ is_below (rows l.thread w) l.count
other_leads rows t w l h = ap (λ b. not b && is_below (rows l.thread w) l.count) (ne_eqb l.thread t h)

or_false : (b : Bool) → (b || false) ≡ b
or_false true = refl
or_false false = refl

pub takes_own : (old : Rows) (n t : ℕ) (l : Last) → l.thread ≡ t → TakesAll old old n t (l ∷ [])
takes_own old n t l h = takes_nothing old n t (l ∷ []) (λ w. or_false (leads_to old t w l) ∙ own_leads_not old t w l h)

-- where there is no event, nothing leads there
pub none_leads : (rows : Rows) (t w : ℕ) (l : Last) → l.count ≡ 0 → leads_to rows t w l ≡ false
none_leads rows t w l h = ap (λ n. not (l.thread == t) && is_below (rows l.thread w) n) h ∙ go (not (l.thread == t)) (rows l.thread w)
  where
    go : (b : Bool) (p : Option ℕ) → (b && is_below p 0) ≡ false
    go true None = refl
    go true (Some q) = le-ltb q 0 (omega arith)
    go false p = refl

pub takes_none : (old : Rows) (n t : ℕ) (l : Last) → l.count ≡ 0 → TakesAll old old n t (l ∷ [])
takes_none old n t l h = takes_nothing old n t (l ∷ []) (λ w. or_false (leads_to old t w l) ∙ none_leads old t w l h)

pub takes_one : (old new : Rows) (n t : ℕ) (l : Last) → l.thread ≢ t → TakesRow old new n t l.thread l.count → TakesAll old new n t (l ∷ [])
takes_one old new n t l h row = record {
  rows = λ v w. row.rows v w ∙ ap (λ b. if v == t then gains (old v w) b n else old v w) (sym (or_false (leads_to old t w l) ∙ other_leads old t w l h));
}

-- two lists, one after the other
pub any_append : (rows : Rows) (t w : ℕ) (ks : List Last) (l : Last) (i : ℕ) → slice_get ks i ≡ Some l → leads_to_any rows t w (take (suc i) ks) ≡ (leads_to_any rows t w (take i ks) || leads_to rows t w l)
any_append rows t w [] l i h = cc
any_append rows t w (k ∷ ks) l zero h = let same : k ≡ l = cc in or_false (leads_to rows t w k) ∙ ap (leads_to rows t w) same
any_append rows t w (k ∷ ks) l (suc i) h = ap (λ b. leads_to rows t w k || b) (any_append rows t w ks l i h) ∙ assoc (leads_to rows t w k) (leads_to_any rows t w (take i ks)) (leads_to rows t w l)
  where
    assoc : (a b c : Bool) → (a || (b || c)) ≡ ((a || b) || c)
    assoc true b c = refl
    assoc false b c = refl

pub any_next : (rows : Rows) (t w : ℕ) (ks : List Last) (l : Last) (i : ℕ) → slice_get ks i ≡ Some l → leads_to_any rows t w (take (i + 1) ks) ≡ (leads_to_any rows t w (take i ks) || leads_to rows t w l)
any_next rows t w ks l i h = ap (λ m. leads_to_any rows t w (take m ks)) (add-one i) ∙ any_append rows t w ks l i h

pub any_here : (rows : Rows) (t w : ℕ) (ks : List Last) (l : Last) (i : ℕ) → slice_get ks i ≡ Some l → leads_to rows t w l ≡ true → leads_to_any rows t w ks ≡ true
any_here rows t w [] l i h led = cc
any_here rows t w (k ∷ ks) l zero h led = let same : k ≡ l = cc in or_left _ _ (ap (leads_to rows t w) same ∙ led)
any_here rows t w (k ∷ ks) l (suc i) h led = or_right (leads_to rows t w k) _ (any_here rows t w ks l i h led)

-- what was taken changes nothing of what leads to another thread's event
pub leads_still : (old new : Rows) (n t : ℕ) (ks : List Last) → TakesAll old new n t ks → (w : ℕ) (l : Last) → leads_to new t w l ≡ leads_to old t w l
leads_still old new n t ks taken w l = go (cases_eq l.thread t)
  where
    go : (l.thread ≡ t) ⊎ (l.thread ≢ t) → leads_to new t w l ≡ leads_to old t w l
    go (inl h) = own_leads_not new t w l h ∙ sym (own_leads_not old t w l h)
    go (inr h) = ap (λ r. not (l.thread == t) && is_below r l.count) (taken.rows l.thread w ∙ cond-false (l.thread == t) _ _ (ne_eqb l.thread t h))

pub any_still : (old new : Rows) (n t : ℕ) (ks : List Last) → TakesAll old new n t ks → (w : ℕ) (ls : List Last) → leads_to_any new t w ls ≡ leads_to_any old t w ls
any_still old new n t ks taken w [] = refl
any_still old new n t ks taken w (l ∷ ls) = ap₂ (λ a b. a || b) (leads_still old new n t ks taken w l) (any_still old new n t ks taken w ls)

-- so two takings are one
pub takes_then : (old mid new : Rows) (n t : ℕ) (ks ls all : List Last) → TakesAll old mid n t ks → TakesAll mid new n t ls → ((w : ℕ) → leads_to_any old t w all ≡ (leads_to_any old t w ks || leads_to_any old t w ls)) → TakesAll old new n t all
takes_then old mid new n t ks ls all a b both = record { rows = λ v w. b.rows v w ∙ go v w (v == t) refl }
  where
    go : (v w : ℕ) (c : Bool) → v == t ≡ c → (if c then gains (mid v w) (leads_to_any mid t w ls) n else mid v w) ≡ (if c then gains (old v w) (leads_to_any old t w all) n else old v w)
    go v w true e =
        ap₂ (λ r d. gains r d n) (a.rows v w ∙ cond-true (v == t) _ _ e) (any_still old mid n t ks a w ls)
        ∙ gains_more (old v w) (leads_to_any old t w ks) (leads_to_any old t w ls) n ∙ ap (λ d. gains (old v w) d n) (sym (both w))
    go v w false e = a.rows v w ∙ cond-false (v == t) _ _ e

pub takes_next : (old mid new : Rows) (n t : ℕ) (ls : List Last) (i : ℕ) (l : Last) → slice_get ls i ≡ Some l → TakesAll old mid n t (take i ls) → TakesAll mid new n t (l ∷ []) → TakesAll old new n t (take (i + 1) ls)
takes_next old mid new n t ls i l at a b =
    takes_then old mid new n t (take i ls) (l ∷ []) (take (i + 1) ls) a b (λ w. any_next old t w ls l i at ∙ ap (λ c. leads_to_any old t w (take i ls) || c) (sym (or_false (leads_to old t w l))))

-- the latest read stands behind the others
pub any_reads : (rows : Rows) (t w : ℕ) (ks : List Last) (l : Last) → leads_to_any rows t w (ks ++ if_any l) ≡ (leads_to_any rows t w ks || leads_to rows t w l)
any_reads rows t w [] l = go (cases_Bool (l.count == 0))
  where
    go : (l.count == 0 ≡ true) ⊎ (l.count == 0 ≡ false) → leads_to_any rows t w (if_any l) ≡ leads_to rows t w l
    go (inl e) = ap (leads_to_any rows t w) (cond-true (l.count == 0) [] (l ∷ []) e) ∙ sym (none_leads rows t w l (eqb-true l.count 0 e))
    go (inr e) = ap (leads_to_any rows t w) (cond-false (l.count == 0) [] (l ∷ []) e) ∙ or_false (leads_to rows t w l)
any_reads rows t w (k ∷ ks) l = ap (λ b. leads_to rows t w k || b) (any_reads rows t w ks l) ∙ assoc (leads_to rows t w k) (leads_to_any rows t w ks) (leads_to rows t w l)
  where
    assoc : (a b c : Bool) → (a || (b || c)) ≡ ((a || b) || c)
    assoc true b c = refl
    assoc false b c = refl

pub takes_reads : (old mid new : Rows) (n t : ℕ) (ks : List Last) (l : Last) → TakesAll old mid n t ks → TakesAll mid new n t (l ∷ []) → TakesAll old new n t (ks ++ if_any l)
takes_reads old mid new n t ks l a b =
    takes_then old mid new n t ks (l ∷ []) (ks ++ if_any l) a b (λ w. any_reads old t w ks l ∙ ap (λ c. leads_to_any old t w ks || c) (sym (or_false (leads_to old t w l))))
