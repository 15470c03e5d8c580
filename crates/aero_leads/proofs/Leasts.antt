-- The least place that a row has for a thread, as the row changes.
use Rattle.std.proofs.Common.{◌≡◌, ◌≢◌, ◌⊎◌, inl, inr, ⊎_elim, ℕ, zero, suc, ◌+◌, ◌<◌, ◌≤◌, add-one, take, List, [], ◌∷◌, ◌++◌, Option, Some, None, refl, sym, ap, ap₂, subst, ◌∙◌, arith}
use Rattle.std.specs.Prelude.{◌==◌, ◌||◌, ◌&&◌, min, nat_lt, not, filter, is_some, Bool, true, false, if◌then◌else◌, slice_get, slice_set, length}
use Rattle.std.proofs.lemmas.Bool.{cases_Bool, cases_eq, cases_lt, both_ways, cond-true, cond-false, eqb-true, eq-eqb, ne_eqb, lt-ltb, le-ltb, ltb-true, ltb-false, or_cases, or_left, or_right}
use Rattle.std.proofs.lemmas.Option.{same_Some, slice_get_past}
use Rattle.aero_leads.specs.declared.row.Lead.{Lead}
use Rattle.aero_leads.specs.Steps.{gains, lesser}
use Rattle.aero_leads.specs.Kept.{least_in, is_below, absorbed}
use Rattle.aero_leads.specs.Indexed.{opener_of, IsFound}

abbrev pub lead : ℕ → ℕ → Lead
lead t n = record { opener = t; place = n }

pub lesser_none : (r : Option ℕ) → lesser r None ≡ r
lesser_none None = refl
lesser_none (Some p) = refl

pub lesser_assoc : (a b c : Option ℕ) → lesser (lesser a b) c ≡ lesser a (lesser b c)
lesser_assoc None b c = refl
lesser_assoc (Some p) None c = refl
lesser_assoc (Some p) (Some q) None = refl
lesser_assoc (Some p) (Some q) (Some r) = ap Some (omega arith)

-- one more at the end
pub least_push : (ls : List Lead) (l : Lead) (w : ℕ) → least_in (ls ++ l ∷ []) w ≡ (if l.opener == w then lesser (least_in ls w) (Some l.place) else least_in ls w)
least_push [] l w = refl
least_push (k ∷ ks) l w = ap (λ r. if k.opener == w then lesser (Some k.place) r else r) (least_push ks l w) ∙ go (k.opener == w) (l.opener == w)
  where
    go : (b c : Bool) → (if b then lesser (Some k.place) (if c then lesser (least_in ks w) (Some l.place) else least_in ks w) else (if c then lesser (least_in ks w) (Some l.place) else least_in ks w)) ≡ (if c then lesser (if b then lesser (Some k.place) (least_in ks w) else least_in ks w) (Some l.place) else (if b then lesser (Some k.place) (least_in ks w) else least_in ks w))
    go true true = sym (lesser_assoc (Some k.place) (least_in ks w) (Some l.place))
    go true false = refl
    go false true = refl
    go false false = refl

take_next : (ls : List Lead) (i : ℕ) (l : Lead) → slice_get ls i ≡ Some l → take (suc i) ls ≡ take i ls ++ l ∷ []
take_next [] i l h = cc
take_next (k ∷ ks) zero l h = cc
take_next (k ∷ ks) (suc i) l h = ap (λ xs. k ∷ xs) (take_next ks i l h)

-- one more of the first ones
pub least_next : (ls : List Lead) (i : ℕ) (l : Lead) (w : ℕ) → slice_get ls i ≡ Some l → least_in (take (i + 1) ls) w ≡ (if l.opener == w then lesser (least_in (take i ls) w) (Some l.place) else least_in (take i ls) w)
least_next ls i l w h = ap (λ m. least_in (take m ls) w) (add-one i) ∙ ap (λ xs. least_in xs w) (take_next ls i l h) ∙ least_push (take i ls) l w

-- without those of a thread
pub least_without : (ls : List Lead) (t w : ℕ) → least_in (filter (λ (l : Lead). not (l.opener == t)) ls) w ≡ (if t == w then None else least_in ls w)
least_without [] t w = go (t == w)
  where
    nothing : Option ℕ
    nothing = None

    go : (b : Bool) → nothing ≡ (if b then None else nothing)
    go true = refl
    go false = refl
least_without (k ∷ ks) t w = go (least_without ks t w) (cases_Bool (k.opener == t))
  where
    on : List Lead
    on = filter (λ (l : Lead). not (l.opener == t)) ks

    kept : k.opener == t ≡ false → (b : Bool) → t == w ≡ b → (if k.opener == w then lesser (Some k.place) (if b then None else least_in ks w) else (if b then None else least_in ks w)) ≡ (if b then None else least_in (k ∷ ks) w)
    kept e true f = ap (λ c. if c then lesser (Some k.place) None else None) (ne_eqb k.opener w (λ g. both_ways (k.opener == t) e (eq-eqb k.opener t (g ∙ sym (eqb-true t w f)))))
    kept e false f = refl

    gone : k.opener == t ≡ true → (b : Bool) → t == w ≡ b → (if b then None else least_in ks w) ≡ (if b then None else least_in (k ∷ ks) w)
    gone e true f = refl
    gone e false f = sym (ap (λ c. if c then lesser (Some k.place) (least_in ks w) else least_in ks w) (ne_eqb k.opener w (λ g. both_ways (t == w) f (eq-eqb t w (sym (eqb-true k.opener t e) ∙ g)))))

    go : least_in on w ≡ (if t == w then None else least_in ks w) → (k.opener == t ≡ true) ⊎ (k.opener == t ≡ false) → least_in (if not (k.opener == t) then k ∷ on else on) w ≡ (if t == w then None else least_in (k ∷ ks) w)
    go rest (inl e) = ap (λ b. least_in (if not b then k ∷ on else on) w) e ∙ rest ∙ gone e (t == w) refl
    go rest (inr e) = ap (λ b. least_in (if not b then k ∷ on else on) w) e ∙ ap (λ r. if k.opener == w then lesser (Some k.place) r else r) rest ∙ kept e (t == w) refl

-- what is below of two
pub below_lesser : (a b : Option ℕ) (n : ℕ) → is_below (lesser a b) n ≡ (is_below a n || is_below b n)
below_lesser None b n = refl
below_lesser (Some p) None n = go (nat_lt p n)
  where
    go : (b : Bool) → b ≡ (b || false)
    go true = refl
    go false = refl
below_lesser (Some p) (Some q) n = go (cases_lt p n) (cases_lt q n)
  where
    go : (p < n) ⊎ (n ≤ p) → (q < n) ⊎ (n ≤ q) → nat_lt (min p q) n ≡ (nat_lt p n || nat_lt q n)
    go (inl h) _ = lt-ltb (min p q) n (omega (arith, h)) ∙ sym (ap (λ b. b || nat_lt q n) (lt-ltb p n h))
    go (inr h) (inl k) = lt-ltb (min p q) n (omega (arith, k)) ∙ sym (ap₂ (λ a b. a || b) (le-ltb p n h) (lt-ltb q n k))
    go (inr h) (inr k) = le-ltb (min p q) n (omega (arith, h, k)) ∙ sym (ap₂ (λ a b. a || b) (le-ltb p n h) (le-ltb q n k))

pub gains_none : (r : Option ℕ) (n : ℕ) → gains r false n ≡ r
gains_none None n = refl
gains_none (Some p) n = refl

pub gains_more : (r : Option ℕ) (a b : Bool) (n : ℕ) → gains (gains r a n) b n ≡ gains r (a || b) n
gains_more (Some p) a b n = refl
gains_more None true b n = refl
gains_more None false b n = refl

-- a thread that is there gains nothing, and one that isn't comes to the end
pub gains_there : (ls : List Lead) (t n : ℕ) → is_some (least_in ls t) ≡ true → (w : ℕ) → least_in ls w ≡ gains (least_in ls w) (t == w) n
gains_there ls t n h w = go (least_in ls w) refl (t == w) refl
  where
    go : (r : Option ℕ) → least_in ls w ≡ r → (b : Bool) → t == w ≡ b → r ≡ gains r b n
    go (Some p) e b f = refl
    go None e false f = refl
    go None e true f = let z : false ≡ true = sym (ap is_some e) ∙ ap (λ v. is_some (least_in ls v)) (sym (eqb-true t w f)) ∙ h in cc

pub gains_pushed : (ls : List Lead) (t n : ℕ) → is_some (least_in ls t) ≡ false → (w : ℕ) → least_in (ls ++ lead t n ∷ []) w ≡ gains (least_in ls w) (t == w) n
gains_pushed ls t n h w = least_push ls (lead t n) w ∙ go (least_in ls w) refl (t == w) refl
  where
    go : (r : Option ℕ) → least_in ls w ≡ r → (b : Bool) → t == w ≡ b → (if b then lesser r (Some n) else r) ≡ gains r b n
    go None e true f = refl
    go None e false f = refl
    go (Some p) e true f = let z : true ≡ false = sym (ap is_some e) ∙ ap (λ v. is_some (least_in ls v)) (sym (eqb-true t w f)) ∙ h in cc
    go (Some p) e false f = refl

-- a place that is no later stays, and a later one goes
pub lowered_stays : (ls : List Lead) (t n : ℕ) → is_below (least_in ls t) n ≡ true → (w : ℕ) → least_in ls w ≡ (if t == w then lesser (least_in ls w) (Some n) else least_in ls w)
lowered_stays ls t n h w = go (least_in ls w) refl (t == w) refl
  where
    go : (r : Option ℕ) → least_in ls w ≡ r → (b : Bool) → t == w ≡ b → r ≡ (if b then lesser r (Some n) else r)
    go r e false f = refl
    go None e true f = let z : false ≡ true = sym (ap (λ r. is_below r n) e) ∙ ap (λ v. is_below (least_in ls v) n) (sym (eqb-true t w f)) ∙ h in cc
    go (Some p) e true f =
        let less : nat_lt p n ≡ true = sym (ap (λ r. is_below r n) e) ∙ ap (λ v. is_below (least_in ls v) n) (sym (eqb-true t w f)) ∙ h in
        ap Some (omega (arith, ltb-true p n less))

pub lowered_moves : (ls now : List Lead) (t n : ℕ) → is_below (least_in ls t) n ≡ false → ((w : ℕ) → least_in now w ≡ (if t == w then None else least_in ls w)) → (w : ℕ) → least_in (now ++ lead t n ∷ []) w ≡ (if t == w then lesser (least_in ls w) (Some n) else least_in ls w)
lowered_moves ls now t n h dropped w =
    least_push now (lead t n) w ∙ ap (λ r. if t == w then lesser r (Some n) else r) (dropped w) ∙ go (least_in ls w) refl (t == w) refl
  where
    go : (r : Option ℕ) → least_in ls w ≡ r → (b : Bool) → t == w ≡ b → (if b then lesser (if b then None else r) (Some n) else (if b then None else r)) ≡ (if b then lesser r (Some n) else r)
    go r e false f = refl
    go None e true f = refl
    go (Some p) e true f =
        let less : nat_lt p n ≡ false = sym (ap (λ r. is_below r n) e) ∙ ap (λ v. is_below (least_in ls v) n) (sym (eqb-true t w f)) ∙ h in
        ap Some (omega (arith, ltb-false p n less))

-- one more of the first ones is looked at
pub gained_next : (old now ls : List Lead) (i : ℕ) (l : Lead) (below n : ℕ) (new : List Lead) → slice_get ls i ≡ Some l
    → ((w : ℕ) → least_in now w ≡ gains (least_in old w) (is_below (least_in (take i ls) w) below) n)
    → ((w : ℕ) → least_in new w ≡ gains (least_in now w) (if l.opener == w then nat_lt l.place below else false) n)
    → (w : ℕ) → least_in new w ≡ gains (least_in old w) (is_below (least_in (take (i + 1) ls) w) below) n
gained_next old now ls i l below n new at so_far next w =
    next w ∙ ap (λ r. gains r (if l.opener == w then nat_lt l.place below else false) n) (so_far w)
    ∙ gains_more (least_in old w) (is_below (least_in (take i ls) w) below) (if l.opener == w then nat_lt l.place below else false) n
    ∙ ap (λ b. gains (least_in old w) b n) (go (l.opener == w) ∙ sym (ap (λ r. is_below r below) (least_next ls i l w at)))
  where
    stays : (b : Bool) → (b || false) ≡ b
    stays true = refl
    stays false = refl

    go : (b : Bool) → (is_below (least_in (take i ls) w) below || (if b then nat_lt l.place below else false)) ≡ is_below (if b then lesser (least_in (take i ls) w) (Some l.place) else least_in (take i ls) w) below
    go true = sym (below_lesser (least_in (take i ls) w) (Some l.place) below)
    go false = stays (is_below (least_in (take i ls) w) below)

pub lowered_next : (old now ls : List Lead) (i : ℕ) (l : Lead) (n : ℕ) (new : List Lead) → slice_get ls i ≡ Some l
    → ((w : ℕ) → least_in now w ≡ (if is_some (least_in (take i ls) w) then lesser (least_in old w) (Some n) else least_in old w))
    → ((w : ℕ) → least_in new w ≡ (if l.opener == w then lesser (least_in now w) (Some n) else least_in now w))
    → (w : ℕ) → least_in new w ≡ (if is_some (least_in (take (i + 1) ls) w) then lesser (least_in old w) (Some n) else least_in old w)
lowered_next old now ls i l n new at so_far next w =
    next w ∙ ap (λ r. if l.opener == w then lesser r (Some n) else r) (so_far w)
    ∙ go (l.opener == w) (least_in (take i ls) w)
    ∙ sym (ap (λ r. if is_some r then lesser (least_in old w) (Some n) else least_in old w) (least_next ls i l w at))
  where
    twice : (r : Option ℕ) → lesser (lesser r (Some n)) (Some n) ≡ lesser r (Some n)
    twice None = ap Some (omega arith)
    twice (Some p) = ap Some (omega arith)

    go : (b : Bool) (r : Option ℕ) → (if b then lesser (if is_some r then lesser (least_in old w) (Some n) else least_in old w) (Some n) else (if is_some r then lesser (least_in old w) (Some n) else least_in old w)) ≡ (if is_some (if b then lesser r (Some l.place) else r) then lesser (least_in old w) (Some n) else least_in old w)
    go false r = refl
    go true None = refl
    go true (Some p) = twice (least_in old w)

-- a place that stands goes down
pub least_set : (ls : List Lead) (i : ℕ) (l : Lead) (n w : ℕ) → slice_get ls i ≡ Some l → least_in (slice_set ls i (lead l.opener (min n l.place))) w ≡ (if l.opener == w then lesser (least_in ls w) (Some n) else least_in ls w)
least_set [] i l n w h = cc
least_set (k ∷ ks) zero l n w h = go (same_Some k l h)
  where
    down : (r : Option ℕ) (p : ℕ) → lesser (Some (min n p)) r ≡ lesser (lesser (Some p) r) (Some n)
    down None p = ap Some (omega arith)
    down (Some q) p = ap Some (omega arith)

    pick : (b : Bool) (r : Option ℕ) (p : ℕ) → (if b then lesser (Some (min n p)) r else r) ≡ (if b then lesser (if b then lesser (Some p) r else r) (Some n) else (if b then lesser (Some p) r else r))
    pick true r p = down r p
    pick false r p = refl

    go : k ≡ l → least_in (lead l.opener (min n l.place) ∷ ks) w ≡ (if l.opener == w then lesser (least_in (k ∷ ks) w) (Some n) else least_in (k ∷ ks) w)
    go e = pick (l.opener == w) (least_in ks w) l.place ∙ ap (λ (m : Lead). if l.opener == w then lesser (least_in (m ∷ ks) w) (Some n) else least_in (m ∷ ks) w) (sym e)
least_set (k ∷ ks) (suc i) l n w h = ap (λ r. if k.opener == w then lesser (Some k.place) r else r) (least_set ks i l n w h) ∙ go (k.opener == w) (l.opener == w) (least_in ks w)
  where
    go : (b c : Bool) (r : Option ℕ) → (if b then lesser (Some k.place) (if c then lesser r (Some n) else r) else (if c then lesser r (Some n) else r)) ≡ (if c then lesser (if b then lesser (Some k.place) r else r) (Some n) else (if b then lesser (Some k.place) r else r))
    go true true r = sym (lesser_assoc (Some k.place) r (Some n))
    go true false r = refl
    go false true r = refl
    go false false r = refl

-- so do the first ones
pub lowered_first : ℕ → ℕ → List Lead → List Lead
lowered_first n zero ls = ls
lowered_first n (suc i) [] = []
lowered_first n (suc i) (l ∷ ls) = lead l.opener (min l.place n) ∷ lowered_first n i ls

pub lowered_first_none : (n : ℕ) (ls : List Lead) → ls ≡ lowered_first n 0 ls
unfolding lowered_first
lowered_first_none n ls = refl

pub lowered_first_next : (n i : ℕ) (ls now : List Lead) (l : Lead) → now ≡ lowered_first n i ls → slice_get now i ≡ Some l → slice_set now i (lead l.opener (min l.place n)) ≡ lowered_first n (i + 1) ls
unfolding lowered_first
lowered_first_next n i ls now l e h = ap (λ xs. slice_set xs i (lead l.opener (min l.place n))) e ∙ go i ls (sym (ap (λ xs. slice_get xs i) e) ∙ h) ∙ ap (λ j. lowered_first n j ls) (sym (add-one i))
  where
    go : (j : ℕ) (xs : List Lead) → slice_get (lowered_first n j xs) j ≡ Some l → slice_set (lowered_first n j xs) j (lead l.opener (min l.place n)) ≡ lowered_first n (suc j) xs
    go zero [] g = cc
    go zero (x ∷ xs) g = ap (λ (m : Lead). lead m.opener (min m.place n) ∷ xs) (sym (same_Some x l g))
    go (suc j) [] g = cc
    go (suc j) (x ∷ xs) g = ap (λ ys. lead x.opener (min x.place n) ∷ ys) (go j xs g)

pub lowered_first_all : (n i : ℕ) (ls now : List Lead) (w : ℕ) → now ≡ lowered_first n i ls → length now ≤ i → least_in now w ≡ (if is_some (least_in ls w) then lesser (least_in ls w) (Some n) else least_in ls w)
unfolding lowered_first
lowered_first_all n i ls now w e h = ap (λ xs. least_in xs w) e ∙ go i ls (subst (λ xs. length xs ≤ i) e h)
  where
    down : (b : Bool) (p : ℕ) (r : Option ℕ) → (if b then lesser (Some (min p n)) (if is_some r then lesser r (Some n) else r) else (if is_some r then lesser r (Some n) else r)) ≡ (if is_some (if b then lesser (Some p) r else r) then lesser (if b then lesser (Some p) r else r) (Some n) else (if b then lesser (Some p) r else r))
    down true p None = refl
    down true p (Some q) = ap Some (omega arith)
    down false p None = refl
    down false p (Some q) = refl

    go : (j : ℕ) (xs : List Lead) → length (lowered_first n j xs) ≤ j → least_in (lowered_first n j xs) w ≡ (if is_some (least_in xs w) then lesser (least_in xs w) (Some n) else least_in xs w)
    go zero [] g = refl
    go zero (x ∷ xs) g = absurd (omega (arith, g))
    go (suc j) [] g = refl
    go (suc j) (x ∷ xs) g = ap (λ r. if x.opener == w then lesser (Some (min x.place n)) r else r) (go j xs (omega (arith, g))) ∙ down (x.opener == w) x.place (least_in xs w)

-- and their openers stay where they stand
pub openers_lowered : (n i : ℕ) (ls : List Lead) (j : ℕ) → opener_of (slice_get (lowered_first n i ls) j) ≡ opener_of (slice_get ls j)
unfolding lowered_first
openers_lowered n zero ls j = refl
openers_lowered n (suc i) [] j = refl
openers_lowered n (suc i) (l ∷ ls) zero = refl
openers_lowered n (suc i) (l ∷ ls) (suc j) = openers_lowered n i ls j

-- an end
same_test : (t w : ℕ) → (t == w) ≡ (w == t)
same_test t w = ⊎_elim (λ e. eq-eqb t w e ∙ sym (eq-eqb w t (sym e))) (λ ne. ne_eqb t w ne ∙ sym (ne_eqb w t (λ e. ne (sym e)))) (cases_eq t w)

pub absorbed_none : (row ended : List Lead) (t : ℕ) → None ≡ least_in row t → (w : ℕ) → least_in row w ≡ absorbed (least_in ended) (least_in row) t w
absorbed_none row ended t none w = go (w == t) refl (is_some (least_in ended w))
  where
    go : (b : Bool) → w == t ≡ b → (c : Bool) → least_in row w ≡ (if b then None else (if c then lesser (least_in row w) (least_in row t) else least_in row w))
    go true f c = ap (least_in row) (eqb-true w t f) ∙ sym none
    go false f true = sym (ap (lesser (least_in row w)) (sym none) ∙ lesser_none (least_in row w))
    go false f false = refl

pub absorbed_some : (row ended now new : List Lead) (t n : ℕ) → Some n ≡ least_in row t
    → ((w : ℕ) → least_in now w ≡ (if is_some (least_in ended w) then lesser (least_in row w) (Some n) else least_in row w))
    → ((w : ℕ) → least_in new w ≡ (if t == w then None else least_in now w))
    → (w : ℕ) → least_in new w ≡ absorbed (least_in ended) (least_in row) t w
absorbed_some row ended now new t n there lowered dropped w =
    dropped w ∙ ap₂ (λ b r. if b then None else r) (same_test t w) (lowered w ∙ ap (λ r. if is_some (least_in ended w) then lesser (least_in row w) r else least_in row w) there)

-- where none led to the block, it alone is dropped
pub absorbed_empty : (row ended new : List Lead) (t : ℕ) → ended ≡ [] → ((w : ℕ) → least_in new w ≡ (if t == w then None else least_in row w)) → (w : ℕ) → least_in new w ≡ absorbed (least_in ended) (least_in row) t w
absorbed_empty row ended new t none dropped w =
    dropped w ∙ ap₂ (λ b r. if b then None else r) (same_test t w) (sym (ap (λ es. if is_some (least_in es w) then lesser (least_in row w) (least_in row t) else least_in row w) none))

pub some_next : (ls : List Lead) (i : ℕ) (l : Lead) (u : ℕ) → slice_get ls i ≡ Some l → is_some (least_in (take (i + 1) ls) u) ≡ (l.opener == u || is_some (least_in (take i ls) u))
some_next ls i l u at = ap is_some (least_next ls i l u at) ∙ go (l.opener == u) (least_in (take i ls) u)
  where
    go : (b : Bool) (r : Option ℕ) → is_some (if b then lesser r (Some l.place) else r) ≡ (b || is_some r)
    go true None = refl
    go true (Some p) = refl
    go false r = refl

-- none is none among the first ones, and no block of them stands at a place
pub none_before : (ls : List Lead) (i u : ℕ) → is_some (least_in ls u) ≡ false → is_some (least_in (take i ls) u) ≡ false
none_before [] zero u h = refl
none_before [] (suc i) u h = refl
none_before (l ∷ ls) zero u h = refl
none_before (l ∷ ls) (suc i) u h = go (l.opener == u) (least_in ls u) h (none_before ls i u)
  where
    go : (b : Bool) (r : Option ℕ) → is_some (if b then lesser (Some l.place) r else r) ≡ false → (is_some r ≡ false → is_some (least_in (take i ls) u) ≡ false) → is_some (if b then lesser (Some l.place) (least_in (take i ls) u) else least_in (take i ls) u) ≡ false
    go true None k rest = let z : true ≡ false = k in cc
    go true (Some p) k rest = let z : true ≡ false = k in cc
    go false r k rest = rest k

pub none_next : (ls : List Lead) (i : ℕ) (l : Lead) (u : ℕ) → slice_get ls i ≡ Some l → is_some (least_in (take (i + 1) ls) u) ≡ false → (l.opener == u ≡ false) × (is_some (least_in (take i ls) u) ≡ false)
none_next ls i l u at h = go (l.opener == u) (is_some (least_in (take i ls) u)) (sym (some_next ls i l u at) ∙ h)
  where
    go : (a b : Bool) → (a || b) ≡ false → (a ≡ false) × (b ≡ false)
    go true b k = let z : true ≡ false = k in cc
    go false b k = (refl, k)

pub none_still : (ls : List Lead) (i : ℕ) (l : Lead) (u : ℕ) → slice_get ls i ≡ Some l → l.opener == u ≡ false → is_some (least_in (take i ls) u) ≡ false → is_some (least_in (take (i + 1) ls) u) ≡ false
none_still ls i l u at a b = some_next ls i l u at ∙ ap₂ (λ x y. x || y) a b

-- where a block is found, there is a place for it
pub found_there : (ls : List Lead) (i w : ℕ) → opener_of (slice_get ls i) ≡ Some w → is_some (least_in ls w) ≡ true
found_there [] i w h = cc
found_there (l ∷ ls) zero w h = go (l.opener == w) (eq-eqb l.opener w (same_Some l.opener w h)) (least_in ls w)
  where
    go : (b : Bool) → b ≡ true → (r : Option ℕ) → is_some (if b then lesser (Some l.place) r else r) ≡ true
    go true e None = refl
    go true e (Some p) = refl
    go false e r = cc
found_there (l ∷ ls) (suc i) w h = go (l.opener == w) (least_in ls w) (found_there ls i w h)
  where
    go : (b : Bool) (r : Option ℕ) → is_some r ≡ true → is_some (if b then lesser (Some l.place) r else r) ≡ true
    go true None k = refl
    go true (Some p) k = refl
    go false r k = k

-- one more of the other row's that passes a test where it is below
pub all_next : (test : ℕ → Bool) (other : List Lead) (i : ℕ) (l : Lead) (n : ℕ) → slice_get other i ≡ Some l → (l.place < n → test l.opener ≡ true)
    → ((w : ℕ) → is_below (least_in (take i other) w) n ≡ true → test w ≡ true)
    → (w : ℕ) → is_below (least_in (take (i + 1) other) w) n ≡ true → test w ≡ true
all_next test other i l n at here so_far w h = go (cases_eq l.opener w)
  where
    go : (l.opener ≡ w) ⊎ (l.opener ≢ w) → test w ≡ true
    go (inl e) =
        ⊎_elim (so_far w) (λ k. ap test (sym e) ∙ here (ltb-true l.place n k))
        (or_cases _ _ (sym (below_lesser (least_in (take i other) w) (Some l.place) n) ∙ sym (ap (λ r. is_below r n) (least_next other i l w at ∙ cond-true _ _ _ (eq-eqb l.opener w e))) ∙ h))
    go (inr ne) = so_far w (sym (ap (λ r. is_below r n) (least_next other i l w at ∙ cond-false _ _ _ (ne_eqb l.opener w ne))) ∙ h)

-- whether a thread's block leads below a place, by one more of the row's
pub below_next : (ls : List Lead) (i : ℕ) (l : Lead) (t n : ℕ) → slice_get ls i ≡ Some l
    → is_below (least_in (take (i + 1) ls) t) n ≡ (is_below (least_in (take i ls) t) n || ((l.opener == t) && nat_lt l.place n))
below_next ls i l t n at = ap (λ r. is_below r n) (least_next ls i l t at) ∙ go (l.opener == t)
  where
    stays : (b : Bool) → b ≡ (b || false)
    stays true = refl
    stays false = refl

    go : (b : Bool) → is_below (if b then lesser (least_in (take i ls) t) (Some l.place) else least_in (take i ls) t) n ≡ (is_below (least_in (take i ls) t) n || (b && nat_lt l.place n))
    go true = below_lesser (least_in (take i ls) t) (Some l.place) n
    go false = stays (is_below (least_in (take i ls) t) n)

-- and by any one of them
pub below_there : (ls : List Lead) (i : ℕ) (l : Lead) (t n : ℕ) → slice_get ls i ≡ Some l → ((l.opener == t) && nat_lt l.place n) ≡ true → is_below (least_in ls t) n ≡ true
below_there [] i l t n at h = cc
below_there (k ∷ ks) zero l t n at h = go (k.opener == t) (ap (λ (m : Lead). (m.opener == t) && nat_lt m.place n) (same_Some k l at) ∙ h)
  where
    go : (b : Bool) → (b && nat_lt k.place n) ≡ true → is_below (if b then lesser (Some k.place) (least_in ks t) else least_in ks t) n ≡ true
    go true e = below_lesser (Some k.place) (least_in ks t) n ∙ or_left _ _ e
    go false e = let z : false ≡ true = e in cc
below_there (k ∷ ks) (suc i) l t n at h = go (k.opener == t) (below_there ks i l t n at h)
  where
    go : (b : Bool) → is_below (least_in ks t) n ≡ true → is_below (if b then lesser (Some k.place) (least_in ks t) else least_in ks t) n ≡ true
    go true e = below_lesser (Some k.place) (least_in ks t) n ∙ or_right (nat_lt k.place n) _ e
    go false e = e

-- a block that has a place stands where an index of the row says
pub indexed_step : (ls : List Lead) (i : ℕ) (l : Lead) (was now : ℕ → ℕ) → slice_get ls i ≡ Some l
    → ((v : ℕ) → now v ≡ (if v == l.opener then i else was v))
    → ((w : ℕ) → is_some (least_in (take i ls) w) ≡ true → opener_of (slice_get ls (was w)) ≡ Some w)
    → (w : ℕ) → is_some (least_in (take (i + 1) ls) w) ≡ true → opener_of (slice_get ls (now w)) ≡ Some w
indexed_step ls i l was now at entered so_far w some = go (cases_eq w l.opener)
  where
    go : (w ≡ l.opener) ⊎ (w ≢ l.opener) → opener_of (slice_get ls (now w)) ≡ Some w
    go (inl e) = ap (λ j. opener_of (slice_get ls j)) (entered w ∙ cond-true (w == l.opener) _ _ (eq-eqb w l.opener e)) ∙ ap opener_of at ∙ ap Some (sym e)
    go (inr ne) =
        ap (λ j. opener_of (slice_get ls j)) (entered w ∙ cond-false (w == l.opener) _ _ (ne_eqb w l.opener ne))
        ∙ so_far w (sym (ap (λ b. b || is_some (least_in (take i ls) w)) (ne_eqb l.opener w (λ e. ne (sym e)))) ∙ sym (some_next ls i l w at) ∙ some)

stands_within : (ls : List Lead) (i w : ℕ) (l : Lead) → opener_of (slice_get ls i) ≡ Some w → opener_of (slice_get (ls ++ l ∷ []) i) ≡ Some w
stands_within [] i w l h = cc
stands_within (k ∷ ks) zero w l h = h
stands_within (k ∷ ks) (suc i) w l h = stands_within ks i w l h

stands_last : (ls : List Lead) (l : Lead) → slice_get (ls ++ l ∷ []) (length ls) ≡ Some l
stands_last [] l = refl
stands_last (k ∷ ks) l = stands_last ks l

pub indexed_added : (ls new : List Lead) (l : Lead) (n : ℕ) (was now : ℕ → ℕ) → new ≡ ls ++ l ∷ [] → n ≡ length ls
    → ((v : ℕ) → now v ≡ (if v == l.opener then n else was v))
    → ((w : ℕ) → is_some (least_in ls w) ≡ true → opener_of (slice_get ls (was w)) ≡ Some w)
    → (w : ℕ) → is_some (least_in new w) ≡ true → opener_of (slice_get new (now w)) ≡ Some w
indexed_added ls new l n was now pushed count entered before w some = ap (λ xs. opener_of (slice_get xs (now w))) pushed ∙ go (cases_eq w l.opener)
  where
    go : (w ≡ l.opener) ⊎ (w ≢ l.opener) → opener_of (slice_get (ls ++ l ∷ []) (now w)) ≡ Some w
    go (inl e) =
        ap (λ j. opener_of (slice_get (ls ++ l ∷ []) j)) (entered w ∙ cond-true (w == l.opener) _ _ (eq-eqb w l.opener e) ∙ count)
        ∙ ap opener_of (stands_last ls l) ∙ ap Some (sym e)
    go (inr ne) =
        ap (λ j. opener_of (slice_get (ls ++ l ∷ []) j)) (entered w ∙ cond-false (w == l.opener) _ _ (ne_eqb w l.opener ne))
        ∙ stands_within ls (was w) w l (before w (sym (ap is_some (ap (λ xs. least_in xs w) pushed ∙ least_push ls l w ∙ cond-false (l.opener == w) _ _ (ne_eqb l.opener w (λ e. ne (sym e))))) ∙ some))

-- and one that doesn't stand there has none
pub found_absent : (ls : List Lead) (w n : ℕ) → (is_some (least_in ls w) ≡ true → opener_of (slice_get ls n) ≡ Some w) → ¬ (opener_of (slice_get ls n) ≡ Some w) → is_some (least_in ls w) ≡ false
found_absent ls w n h no_one = ⊎_elim (λ some. absurd (no_one (h some))) (λ none. none) (cases_Bool (is_some (least_in ls w)))

pub found_other : (ls : List Lead) (w n : ℕ) (l : Lead) → slice_get ls n ≡ Some l → l.opener ≢ w → ¬ (opener_of (slice_get ls n) ≡ Some w)
found_other ls w n l at ne h = ne (same_Some l.opener w (sym (ap opener_of at) ∙ h))

pub found_past : (ls : List Lead) (w n : ℕ) → length ls ≤ n → ¬ (opener_of (slice_get ls n) ≡ Some w)
found_past ls w n past h = let z : None ≡ Some w = sym (ap opener_of (slice_get_past ls n past)) ∙ h in cc

-- openers that stay where they stand
pub opener_set : (ls : List Lead) (i w m j : ℕ) → opener_of (slice_get ls i) ≡ Some w → opener_of (slice_get (slice_set ls i (lead w m)) j) ≡ opener_of (slice_get ls j)
opener_set [] i w m j h = cc
opener_set (k ∷ ks) zero w m zero h = sym h
opener_set (k ∷ ks) zero w m (suc j) h = refl
opener_set (k ∷ ks) (suc i) w m zero h = refl
opener_set (k ∷ ks) (suc i) w m (suc j) h = opener_set ks i w m j h

pub indexed_lowered : (ls new : List Lead) (was : ℕ → ℕ) (o p : ℕ) → is_some (least_in ls o) ≡ true
    → ((v : ℕ) → least_in new v ≡ (if o == v then lesser (least_in ls v) (Some p) else least_in ls v))
    → ((i : ℕ) → opener_of (slice_get new i) ≡ opener_of (slice_get ls i))
    → ((w : ℕ) → is_some (least_in ls w) ≡ true → opener_of (slice_get ls (was w)) ≡ Some w)
    → (w : ℕ) → is_some (least_in new w) ≡ true → opener_of (slice_get new (was w)) ≡ Some w
indexed_lowered ls new was o p there row openers before w some = openers (was w) ∙ before w (go (cases_eq o w))
  where
    go : (o ≡ w) ⊎ (o ≢ w) → is_some (least_in ls w) ≡ true
    go (inl e) = ap (λ u. is_some (least_in ls u)) (sym e) ∙ there
    go (inr ne) = ap is_some (sym (row w ∙ cond-false (o == w) _ _ (ne_eqb o w ne))) ∙ some

pub found_some : (ls : List Lead) (w : ℕ) (r : Option ℕ) → IsFound ls w r → is_some r ≡ true → is_some (least_in ls w) ≡ true
found_some ls w None h k = let z : false ≡ true = k in cc
found_some ls w (Some i) (less, at) k = found_there ls i w at

pub found_same : (ls : List Lead) (w : ℕ) (r : Option ℕ) → IsFound ls w r → is_some r ≡ is_some (least_in ls w)
found_same ls w None h = sym h
found_same ls w (Some i) (less, at) = sym (found_there ls i w at)

pub found_none : (ls : List Lead) (w : ℕ) (r : Option ℕ) → IsFound ls w r → is_some r ≡ false → is_some (least_in ls w) ≡ false
found_none ls w None h k = h
found_none ls w (Some i) h k = let z : true ≡ false = k in cc

-- a block that has no place yet gains one
pub gains_added : (ls now : List Lead) (t n : ℕ) → is_some (least_in ls t) ≡ false → ((w : ℕ) → least_in now w ≡ (if t == w then lesser (least_in ls w) (Some n) else least_in ls w)) → (w : ℕ) → least_in now w ≡ gains (least_in ls w) (t == w) n
gains_added ls now t n h row w = row w ∙ sym (least_push ls (lead t n) w) ∙ gains_pushed ls t n h w

pub lowered_found : (ls : List Lead) (i w n : ℕ) (l : Lead) → slice_get ls i ≡ Some l → opener_of (slice_get ls i) ≡ Some w → (m : ℕ) → m ≡ min n l.place → (v : ℕ) → least_in (slice_set ls i (lead w m)) v ≡ (if w == v then lesser (least_in ls v) (Some n) else least_in ls v)
lowered_found ls i w n l at opener m is v =
    let same : l.opener ≡ w = same_Some l.opener w (sym (ap opener_of at) ∙ opener) in
    ap₂ (λ u p. least_in (slice_set ls i (lead u p)) v) (sym same) is ∙ least_set ls i l n v at ∙ ap (λ u. if u == v then lesser (least_in ls v) (Some n) else least_in ls v) same

-- the thread's own row
pub settled : (row now new : List Lead) (t n : ℕ) → Some n ≡ least_in row t
    → ((w : ℕ) → least_in now w ≡ (if is_some (least_in row w) then lesser (least_in row w) (Some n) else least_in row w))
    → ((w : ℕ) → least_in new w ≡ (if t == w then None else least_in now w))
    → (w : ℕ) → least_in new w ≡ absorbed (least_in row) (least_in row) t w
settled row now new t n = absorbed_some row row now new t n
