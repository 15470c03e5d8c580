-- What is done for each thread that a clock counts.
use Rattle.std.proofs.Common.{◌≡◌, ◌≢◌, ◌⊎◌, inl, inr, ⊎_elim, ℕ, ◌+◌, ◌<◌, ◌≤◌, List, [], ◌∷◌, ◌++◌, ◌-◌, zero, suc, length, map, Option, Some, None, refl, sym, ap, ap₂, ◌∙◌, subst, arith, add-zero, zero-add, add_comm, add_assoc, le_refl, length-append}
use Rattle.std.specs.Prelude.{◌==◌, ◌||◌, ◌&&◌, Bool, true, false, not, nat_lt, if◌then◌else◌, slice_get, filter}
use Rattle.std.proofs.lemmas.Bool.{cases_eq, cases_lt, cases_Bool, both_ways, cond-true, cond-false, eqb-true, eq-eqb, ne_eqb}
use Rattle.std.proofs.lemmas.Option.{slice_get_within, slice_get_past, same_Some}
use Rattle.std.proofs.lemmas.List.{append-nil, length-map}
use Rattle.aero_clock.specs.declared.clock.Clock.{Clock}
use Rattle.aero_clock.specs.Numbers.{number_at, Lists}
use Rattle.aero_engine.proofs.Written.{pushed_here, pushed_other}
use Rattle.aero_access.specs.declared.index.Led.{Led}
use Rattle.aero_access.specs.Led.{leads, times, block_number, has_thread, places_in, slots_in, ListsSame, GainsThread, GainsLabel, DropsLabel, MovesLabel}
use Rattle.aero_access.proofs.PairLists.{lent}

-- the entries of the threads of the first i pairs are done, and the others as at first
pub record Visits (Done : ℕ × ℕ → Option Led → Option Led → Type 0) (ps : List (ℕ × ℕ)) (old new : List Led) (i : ℕ) : Type 0 where
  pub done : (k : ℕ) (p : ℕ × ℕ) → k < i → slice_get ps k ≡ Some p → Done p (slice_get old p.0) (slice_get new p.0)
  pub others : (v : ℕ) → ((k : ℕ) (p : ℕ × ℕ) → k < i → slice_get ps k ≡ Some p → p.0 ≢ v) → slice_get new v ≡ slice_get old v

module _ (Done : ℕ × ℕ → Option Led → Option Led → Type 0) (ps : List (ℕ × ℕ)) (clock : Clock) (lists : Lists ps clock) (old : List Led) where
  pub visits_next : (now new : List Led) (i : ℕ) (p : ℕ × ℕ) → Visits Done ps old now i → slice_get ps i ≡ Some p → Done p (slice_get now p.0) (slice_get new p.0) → ((v : ℕ) → v ≢ p.0 → slice_get new v ≡ slice_get now v) → Visits Done ps old new (i + 1)
  visits_next now new i p so_far at here elsewhere = record { done = done; others = others }
    where
      was : slice_get now p.0 ≡ slice_get old p.0
      was = so_far.others p.0 (λ k q l at_k e. omega (arith, lists.rising k i q p l at_k at, e))

      done : (k : ℕ) (q : ℕ × ℕ) → k < i + 1 → slice_get ps k ≡ Some q → Done q (slice_get old q.0) (slice_get new q.0)
      done k q l at_k = ⊎_elim
          (λ (less : k < i). subst (λ o. Done q (slice_get old q.0) o) (sym (elsewhere q.0 (λ e. omega (arith, lists.rising k i q p less at_k at, e)))) (so_far.done k q less at_k))
          (λ more.
          let e : p ≡ q = same_Some p q (sym at ∙ ap (slice_get ps) (let f : i ≡ k = omega arith in f) ∙ at_k) in
          subst (λ (r : ℕ × ℕ). Done r (slice_get old r.0) (slice_get new r.0)) e (subst (λ o. Done p o (slice_get new p.0)) was here))
          (cases_lt k i)

      others : (v : ℕ) → ((k : ℕ) (q : ℕ × ℕ) → k < i + 1 → slice_get ps k ≡ Some q → q.0 ≢ v) → slice_get new v ≡ slice_get old v
      others v none = elsewhere v (λ e. none i p (omega arith) at (sym e)) ∙ so_far.others v (λ k q l. none k q (omega (arith, l)))

  pub visits_all : (new : List Led) (i : ℕ) → length ps ≤ i → Visits Done ps old new i → ((v : ℕ) (o : Option Led) → Done (v, 0) o o) → (v : ℕ) → Done (v, number_at clock v) (slice_get old v) (slice_get new v)
  visits_all new i all so_far none v = ⊎_elim
      (λ (some : 0 < number_at clock v). let r = lists.all v some in so_far.done r.0 (v, number_at clock v) (omega (arith, all, slice_get_within ps r.0 (v, number_at clock v) r.1)) r.1)
      (λ zero.
      let e : number_at clock v ≡ 0 = omega (arith, zero) in
      let same : slice_get new v ≡ slice_get old v = so_far.others v (λ k q l at f. let n = lists.numbers k q at in let g : number_at clock q.0 ≡ number_at clock v = ap (number_at clock) f in omega (arith, n.0, n.1, g, e)) in
      subst (λ o. Done (v, number_at clock v) (slice_get old v) o) (sym same) (subst (λ n. Done (v, n) (slice_get old v) (slice_get old v)) (sym e) (none v (slice_get old v))))
      (cases_lt 0 (number_at clock v))

-- no block leads to a clock that doesn't count it
pub leads_zero : (number : ℕ) → leads number 0 ≡ false
leads_zero number = go number
  where
    go : (n : ℕ) → leads n 0 ≡ false
    go n = ⊎_elim (λ (l : 0 < n). grind (arith, l)) (λ l. grind (arith, l)) (cases_lt 0 n)

-- nor less to a greater one
pub leads_more : (number m n : ℕ) → m ≤ n → leads number m ≡ true → leads number n ≡ true
leads_more number m n le h = grind (arith, le, h)

or_none : (a : Bool) → (a || false) ≡ a
or_none true = refl
or_none false = refl

and_none : (a b : Bool) → b ≡ false → (a && (b && true)) ≡ false
and_none true b e = cc
and_none false b e = refl

pub gains_thread_none : (o : Option Led) (s : ℕ) → GainsThread o o s 0
gains_thread_none o s = record { number = refl; threads = threads; labels = λ i. refl; still = λ h. refl }
  where
    threads : (r : ℕ) → has_thread o r ≡ (if r == s then has_thread o s || leads (block_number o) 0 else has_thread o r)
    threads r = ⊎_elim
        (λ (e : r == s ≡ true). sym (cond-true (r == s) _ _ e ∙ ap (λ b. has_thread o s || b) (leads_zero (block_number o)) ∙ or_none (has_thread o s) ∙ ap (has_thread o) (sym (eqb-true r s e))))
        (λ e. sym (cond-false (r == s) _ _ e))
        (cases_Bool (r == s))

pub gains_label_none : (o : Option Led) (place was : ℕ) → GainsLabel o o place was 0
gains_label_none o place was = record { number = refl; threads = λ r. refl; labels = labels; still = λ h. refl }
  where
    nothing : (a b c : Bool) (n : ℕ) → b ≡ false → n ≡ n + (if a && (b && c) then 1 else 0)
    nothing true true c n e = cc
    nothing true false c n e = omega arith
    nothing false b c n e = omega arith

    labels : (i : ℕ) → times i (places_in o) ≡ times i (places_in o) + (if (i == place) && (leads (block_number o) 0 && not (leads (block_number o) was)) then 1 else 0)
    labels i = nothing (i == place) (leads (block_number o) 0) (not (leads (block_number o) was)) (times i (places_in o)) (leads_zero (block_number o))

-- the clock that a label's slot had is at most the one that it has
pub moves_up : (old new : Option Led) (place was n : ℕ) → was ≤ n → GainsLabel old new place was n → MovesLabel old new place was n
moves_up old new place was n le gains = record { number = gains.number; threads = gains.threads; here = here; others = others }
  where
    others : (i : ℕ) → i ≢ place → times i (places_in new) ≡ times i (places_in old)
    others i ne = gains.labels i ∙ ap (λ b. times i (places_in old) + (if b && (leads (block_number old) n && not (leads (block_number old) was)) then 1 else 0)) (ne_eqb i place ne) ∙ omega arith

    cases : (a b : Bool) → (a ≡ true → b ≡ true) → (if a then 1 else 0) + (if b && not a then 1 else 0) ≡ (if b then 1 else 0)
    cases true true f = omega arith
    cases true false f = let z : false ≡ true = f refl in cc
    cases false true f = omega arith
    cases false false f = omega arith

    here : times place (places_in old) ≡ (if leads (block_number old) was then 1 else 0) → times place (places_in new) ≡ (if leads (block_number old) n then 1 else 0)
    here h =
        gains.labels place ∙ ap (λ b. times place (places_in old) + (if b && (leads (block_number old) n && not (leads (block_number old) was)) then 1 else 0)) (eq-eqb place place refl)
        ∙ ap (λ m. m + (if leads (block_number old) n && not (leads (block_number old) was) then 1 else 0)) h ∙ cases (leads (block_number old) was) (leads (block_number old) n) (leads_more (block_number old) was n le)

-- or isn't
pub moves_anew : (old now new : Option Led) (place was n : ℕ) → DropsLabel old now place → GainsLabel now new place 0 n → MovesLabel old new place was n
moves_anew old now new place was n drops gains = record { number = gains.number ∙ drops.number; threads = λ r. gains.threads r ∙ drops.threads r; here = here; others = others }
  where
    others : (i : ℕ) → i ≢ place → times i (places_in new) ≡ times i (places_in old)
    others i ne =
        gains.labels i ∙ ap (λ b. times i (places_in now) + (if b && (leads (block_number now) n && not (leads (block_number now) 0)) then 1 else 0)) (ne_eqb i place ne) ∙ add-zero (times i (places_in now))
        ∙ drops.labels i ∙ cond-false (i == place) _ _ (ne_eqb i place ne)

    cases : (b : Bool) → 0 + (if b && not false then 1 else 0) ≡ (if b then 1 else 0)
    cases true = refl
    cases false = refl

    here : times place (places_in old) ≡ (if leads (block_number old) was then 1 else 0) → times place (places_in new) ≡ (if leads (block_number old) n then 1 else 0)
    here h =
        gains.labels place ∙ ap (λ b. times place (places_in now) + (if b && (leads (block_number now) n && not (leads (block_number now) 0)) then 1 else 0)) (eq-eqb place place refl)
        ∙ ap (λ m. m + (if leads (block_number now) n && not (leads (block_number now) 0) then 1 else 0)) (drops.labels place ∙ cond-true (place == place) _ _ (eq-eqb place place refl))
        ∙ ap (λ b. 0 + (if leads (block_number now) n && not b then 1 else 0)) (leads_zero (block_number now))
        ∙ cases (leads (block_number now) n) ∙ ap (λ m. if leads m n then 1 else 0) drops.number

-- once a label is taken out
pub times_without : (place : ℕ) (ns : List ℕ) (i : ℕ) → times i (filter (λ n. not (n == place)) ns) ≡ (if i == place then 0 else times i ns)
times_without place [] i = ⊎_elim (λ e. sym (cond-true (i == place) _ _ e)) (λ e. sym (cond-false (i == place) _ _ e)) (cases_Bool (i == place))
times_without place (n ∷ ns) i = go (times_without place ns i) (cases_Bool (n == place))
  where
    more : n == place ≡ false → (b : Bool) → i == place ≡ b → (if n == i then 1 else 0) + (if b then 0 else times i ns) ≡ (if b then 0 else (if n == i then 1 else 0) + times i ns)
    more e true f = ap (λ c. (if c then 1 else 0) + 0) (ne_eqb n i (λ g. both_ways (n == place) e (eq-eqb n place (g ∙ eqb-true i place f))))
    more e false f = refl

    gone : n == place ≡ true → (b : Bool) → i == place ≡ b → (if b then 0 else times i ns) ≡ (if b then 0 else (if n == i then 1 else 0) + times i ns)
    gone e true f = refl
    gone e false f = sym (ap (λ c. (if c then 1 else 0) + times i ns) (ne_eqb n i (λ g. both_ways (i == place) f (eq-eqb i place (sym g ∙ eqb-true n place e)))) ∙ zero-add (times i ns))

    go : times i (filter (λ m. not (m == place)) ns) ≡ (if i == place then 0 else times i ns) → (n == place ≡ true) ⊎ (n == place ≡ false) → times i (filter (λ m. not (m == place)) (n ∷ ns)) ≡ (if i == place then 0 else times i (n ∷ ns))
    go rest (inl e) = ap (λ b. times i (if not b then n ∷ filter (λ m. not (m == place)) ns else filter (λ m. not (m == place)) ns)) e ∙ rest ∙ gone e (i == place) refl
    go rest (inr e) = ap (λ b. times i (if not b then n ∷ filter (λ m. not (m == place)) ns else filter (λ m. not (m == place)) ns)) e ∙ ap (λ m. (if n == i then 1 else 0) + m) rest ∙ more e (i == place) refl

-- or put to the end
pub times_push : (ns : List ℕ) (n i : ℕ) → times i (ns ++ n ∷ []) ≡ times i ns + (if n == i then 1 else 0)
times_push [] n i = add_comm (if n == i then 1 else 0) 0
times_push (m ∷ ns) n i = ap (λ k. (if m == i then 1 else 0) + k) (times_push ns n i) ∙ sym (add_assoc (if m == i then 1 else 0) (times i ns) (if n == i then 1 else 0))

pub gains_pushed : (old new : Led) (place was n : ℕ) → leads old.number n ≡ true → leads old.number was ≡ false → new.number ≡ old.number → new.threads ≡ old.threads → new.labels.items ≡ old.labels.items ++ place ∷ [] → GainsLabel (Some old) (Some new) place was n
gains_pushed old new place was n is wasn number threads items = record {
  number = number;
  threads = λ r. ap (λ c. nat_lt 0 (number_at c r)) threads;
  labels = λ i.
      ap (times i) items ∙ times_push old.labels.items place i
      ∙ ap (λ b. times i old.labels.items + (if b then 1 else 0)) (flip i ∙ sym (and_true (i == place)) ∙ ap₂ (λ a b. (i == place) && (a && not b)) (sym is) (sym wasn));
  still = λ h. absurd (both_ways (leads old.number was) wasn h);
}
  where
    flip : (i : ℕ) → place == i ≡ i == place
    flip i = ⊎_elim (λ e. eq-eqb place i e ∙ sym (eq-eqb i place (sym e))) (λ ne. ne_eqb place i ne ∙ sym (ne_eqb i place (λ e. ne (sym e)))) (cases_eq place i)

    and_true : (a : Bool) → (a && (true && not false)) ≡ a
    and_true true = refl
    and_true false = refl

-- a new entry is put to the end
pub same_pushed : (leds : List Led) (led : Led) (v : ℕ) → led.number ≡ 0 → ((s : ℕ) → number_at led.threads s ≡ 0) → led.labels.items ≡ [] → ListsSame (slice_get leds v) (slice_get (leds ++ led ∷ []) v)
same_pushed leds led v number threads labels = ⊎_elim
    (λ (e : v ≡ length leds).
    let here : slice_get (leds ++ led ∷ []) v ≡ Some led = ap (slice_get (leds ++ led ∷ [])) e ∙ pushed_here leds led in
    let none : slice_get leds v ≡ None = ap (slice_get leds) e ∙ slice_get_past leds (length leds) (le_refl (length leds)) in
    subst (λ o. ListsSame o (slice_get (leds ++ led ∷ []) v)) (sym none) (subst (λ o. ListsSame None o) (sym here)
    (record { number = number; threads = λ r. ap (λ n. nat_lt 0 n) (threads r); labels = λ i. ap (times i) labels })))
    (λ ne. subst (λ o. ListsSame (slice_get leds v) o) (sym (pushed_other leds led v ne)) (record { number = refl; threads = λ r. refl; labels = λ i. refl }))
    (cases_eq v (length leds))

pub same_then : (a b c : Option Led) → ListsSame a b → ListsSame b c → ListsSame a c
same_then a b c h g = record { number = g.number ∙ h.number; threads = λ r. g.threads r ∙ h.threads r; labels = λ i. g.labels i ∙ h.labels i }

-- how many slots are listed, and each by its place
pub slots_count : (led : Led) (ps : List (ℕ × ℕ)) (threads : ℕ) → Lists ps led.threads → length ps + length led.labels.items ≡ length (slots_in (Some led) threads)
slots_count led ps threads lists =
    ap (λ rs. length rs + length led.labels.items) (lent ps led.threads lists)
    ∙ sym (length-append (map (λ (p : ℕ × ℕ). p.0) led.threads.pairs.items) (map (λ i. threads + i) led.labels.items) ∙ ap₂ (λ a b. a + b) (length-map led.threads.pairs.items (λ (p : ℕ × ℕ). p.0)) (length-map led.labels.items (λ i. threads + i)))

pub at_map : {A B : Type 0} (f : A → B) (xs : List A) (ys : List B) (i : ℕ) (x : A) → slice_get xs i ≡ Some x → slice_get (map f xs ++ ys) i ≡ Some (f x)
at_map f [] ys i x h = cc
at_map f (a ∷ xs) ys zero x h = ap Some (ap f (same_Some a x h))
at_map f (a ∷ xs) ys (suc i) x h = at_map f xs ys i x h

pub behind_map : {A B : Type 0} (f : A → B) (xs : List A) (ys : List B) (i : ℕ) → length xs ≤ i → slice_get (map f xs ++ ys) i ≡ slice_get ys (i - length xs)
behind_map f [] ys i h = ap (slice_get ys) (omega arith)
behind_map f (a ∷ xs) ys zero h = absurd (omega arith)
behind_map f (a ∷ xs) ys (suc i) h = behind_map f xs ys i (omega arith) ∙ ap (slice_get ys) (omega arith)

pub slot_of_thread : (led : Led) (ps : List (ℕ × ℕ)) (threads i : ℕ) (p : ℕ × ℕ) → Lists ps led.threads → slice_get ps i ≡ Some p → slice_get (slots_in (Some led) threads) i ≡ Some p.0
slot_of_thread led ps threads i p lists at = at_map (λ (q : ℕ × ℕ). q.0) led.threads.pairs.items (map (λ k. threads + k) led.labels.items) i p (sym (ap (λ rs. slice_get rs i) (lent ps led.threads lists)) ∙ at)

pub slot_of_label : (led : Led) (ps : List (ℕ × ℕ)) (threads i k : ℕ) → Lists ps led.threads → length ps ≤ i → slice_get led.labels.items (i - length ps) ≡ Some k → slice_get (slots_in (Some led) threads) i ≡ Some (threads + k)
slot_of_label led ps threads i k lists le at =
    let same : length ps ≡ length led.threads.pairs.items = ap length (lent ps led.threads lists) in
    behind_map (λ (q : ℕ × ℕ). q.0) led.threads.pairs.items (map (λ m. threads + m) led.labels.items) i (omega (arith, same, le))
    ∙ sym (ap (slice_get (map (λ m. threads + m) led.labels.items)) (ap (λ n. i - n) same))
    ∙ sym (ap (λ ms. slice_get ms (i - length ps)) (append-nil (map (λ m. threads + m) led.labels.items)))
    ∙ at_map (λ m. threads + m) led.labels.items [] (i - length ps) k at
