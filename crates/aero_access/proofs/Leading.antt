-- What the index lists, as slots by their numbers.
use Rattle.std.proofs.Common.{◌≡◌, ◌⊎◌, inl, inr, ⊎_elim, ℕ, zero, suc, ◌+◌, ◌-◌, ◌<◌, ◌≤◌, List, [], ◌∷◌, ◌++◌, length, map, Option, Some, None, refl, sym, ap, ◌∙◌, subst, arith}
use Rattle.std.specs.Prelude.{Bool, true, false, if◌then◌else◌, slice_get, is_some}
use Rattle.std.proofs.lemmas.Bool.{cases_Bool, cases_eq, cases_lt, both_ways, cond-true, cond-false, eq-eqb, ne_eqb, lt-ltb, le-ltb}
use Rattle.std.proofs.lemmas.Option.{slice_get_within, same_Some}
use Rattle.aero_clock.specs.Numbers.{number_at}
use Rattle.aero_clock.proofs.Lists.{number_some, number_found}
use Rattle.aero_engine.specs.declared.slot.Slot.{Slot}
use Rattle.aero_access.specs.declared.thread.Thread.{Thread}
use Rattle.aero_access.specs.declared.index.Led.{Led}
use Rattle.aero_access.specs.declared.clocks.Clocks.{Clocks}
use Rattle.aero_access.specs.Threads.{thread_clock, thread_begin}
use Rattle.aero_access.specs.TableWords.{labels_of, slot_clock, label_clock}
use Rattle.aero_access.specs.Led.{leads, times, led_at, block_number, has_thread, places_in, slots_in}
use Rattle.aero_access.specs.Standing.{in_block_at, begins_at, is_spent, threads_of, slots_of, slot_at, clock_of, IsBehind, led_of, AreLed}
use Rattle.aero_access.proofs.SlotNumbers.{slot_thread}
use Rattle.aero_access.proofs.Visits.{at_map, behind_map}
use Rattle.aero_access.proofs.Indexing.{leads_own, kept_is_slot}

-- how often a number stands in a list, and where

times_some : (k : ℕ) (ns : List ℕ) (i : ℕ) → slice_get ns i ≡ Some k → 0 < times k ns
times_some k [] i h = cc
times_some k (n ∷ ns) zero h = let e : times k (n ∷ ns) ≡ 1 + times k ns = ap (λ b. (if b then 1 else 0) + times k ns) (eq-eqb n k (same_Some n k h)) in omega (arith, e)
times_some k (n ∷ ns) (suc i) h = omega (arith, times_some k ns i h)

times_find : (k : ℕ) (ns : List ℕ) → 0 < times k ns → (i : ℕ) × (slice_get ns i ≡ Some k)
times_find k [] h = absurd (omega arith)
times_find k (n ∷ ns) h = go (times_find k ns) (cases_eq n k)
  where
    go : (0 < times k ns → (i : ℕ) × (slice_get ns i ≡ Some k)) → (n ≡ k) ⊎ (n ≡ k → ⊥) → (i : ℕ) × (slice_get (n ∷ ns) i ≡ Some k)
    go rest (inl e) = (0, ap Some e)
    go rest (inr ne) = let z : times k (n ∷ ns) ≡ 0 + times k ns = ap (λ b. (if b then 1 else 0) + times k ns) (ne_eqb n k ne) in let r = rest (omega (arith, h, z)) in (suc r.0, r.1)

times_once : (k : ℕ) (ns : List ℕ) (i j : ℕ) → times k ns ≤ 1 → slice_get ns i ≡ Some k → slice_get ns j ≡ Some k → i ≡ j
times_once k [] i j l h g = cc
times_once k (n ∷ ns) zero zero l h g = refl
times_once k (n ∷ ns) zero (suc j) l h g = let e : times k (n ∷ ns) ≡ 1 + times k ns = ap (λ b. (if b then 1 else 0) + times k ns) (eq-eqb n k (same_Some n k h)) in absurd (omega (arith, l, e, times_some k ns j g))
times_once k (n ∷ ns) (suc i) zero l h g = let e : times k (n ∷ ns) ≡ 1 + times k ns = ap (λ b. (if b then 1 else 0) + times k ns) (eq-eqb n k (same_Some n k g)) in absurd (omega (arith, l, e, times_some k ns i h))
times_once k (n ∷ ns) (suc i) (suc j) l h g = ap suc (times_once k ns i j (omega (arith, l)) h g)

-- an element of a list that was mapped
of_map : {A B : Type 0} (f : A → B) (xs : List A) (i : ℕ) (y : B) → slice_get (map f xs) i ≡ Some y → (x : A) × (slice_get xs i ≡ Some x) × (f x ≡ y)
of_map f [] i y h = cc
of_map f (x ∷ xs) zero y h = (x, refl, same_Some (f x) y h)
of_map f (x ∷ xs) (suc i) y h = of_map f xs i y h

front_map : {A B : Type 0} (f : A → B) (xs : List A) (ys : List B) (i : ℕ) → i < length xs → slice_get (map f xs ++ ys) i ≡ slice_get (map f xs) i
front_map f [] ys i l = absurd (omega arith)
front_map f (x ∷ xs) ys zero l = refl
front_map f (x ∷ xs) ys (suc i) l = front_map f xs ys i (omega arith)

map_at : {A B : Type 0} (f : A → B) (xs : List A) (i : ℕ) (x : A) → slice_get xs i ≡ Some x → slice_get (map f xs) i ≡ Some (f x)
map_at f [] i x h = cc
map_at f (a ∷ xs) zero x h = ap Some (ap f (same_Some a x h))
map_at f (a ∷ xs) (suc i) x h = map_at f xs i x h

labelled_within : (labels : List Slot) (k : ℕ) → k < length labels → (s : Slot) × (slice_get labels k ≡ Some s)
labelled_within [] k l = absurd (omega arith)
labelled_within (s ∷ labels) zero l = (s, refl)
labelled_within (s ∷ labels) (suc k) l = labelled_within labels k (omega arith)

-- which blocks lead

leads_parts : (number n : ℕ) → leads number n ≡ true → (0 < number) × (number ≤ n)
leads_parts number n h = (grind (arith, h), grind (arith, h))

module _ (c : Clocks) (t : ℕ) (inside : in_block_at c t ≡ true) (unspent : is_spent c ≡ false) where
  number_is : block_number (led_at c.index t) ≡ begins_at c t
  number_is = (c.indexed unspent).number t ∙ cond-true (is_some (thread_begin (slice_get c.threads.items t))) _ _ inside

  pub behind_leads : (s : Slot) → IsBehind c t (clock_of c s) → leads (block_number (led_at c.index t)) (clock_of c s t) ≡ true
  behind_leads s behind = ap (λ n. leads n (clock_of c s t)) number_is ∙ leads_own (begins_at c t) (clock_of c s t) (c.heeded.begun t inside) (omega (arith, c.heeded.counted t inside, behind t))

  leads_behind : (s : Slot) → leads (block_number (led_at c.index t)) (clock_of c s t) ≡ true → IsBehind c t (clock_of c s)
  leads_behind s led = (c.heeded.slots s).behind t inside (leads_parts (begins_at c t) (clock_of c s t) (sym (ap (λ n. leads n (clock_of c s t)) number_is) ∙ led)).1

  within : (n : ℕ) → leads (block_number (led_at c.index t)) n ≡ true → 0 < n
  within n led = let p = leads_parts (block_number (led_at c.index t)) n led in omega (arith, p.0, p.1)

  thread_within : (s : ℕ) → 0 < thread_clock (slice_get c.threads.items s) t → s < threads_of c
  thread_within s some = go (slice_get c.threads.items s) refl some
    where
      go : (o : Option Thread) → slice_get c.threads.items s ≡ o → 0 < thread_clock o t → s < threads_of c
      go None e some = absurd (omega arith)
      go (Some p) e some = slice_get_within c.threads.items s p e

  label_within : (k : ℕ) → 0 < label_clock c.table k t → (s : Slot) × (slice_get (labels_of c.table) k ≡ Some s)
  label_within k some = go (slice_get (labels_of c.table) k) refl some
    where
      go : (o : Option Slot) → slice_get (labels_of c.table) k ≡ o → 0 < slot_clock c.table o t → (s : Slot) × (slice_get (labels_of c.table) k ≡ Some s)
      go None e some = absurd (omega arith)
      go (Some s) e some = (s, e)

  module _ (led : Led) (is : led_at c.index t ≡ Some led) where
    -- a number is of a pair of the threads, or of a place of a label
    part : (i n : ℕ) → slice_get (slots_in (Some led) (threads_of c)) i ≡ Some n → ((p : ℕ × ℕ) × (slice_get led.threads.pairs.items i ≡ Some p) × (p.0 ≡ n)) ⊎ ((k : ℕ) × (length led.threads.pairs.items ≤ i) × (slice_get led.labels.items (i - length led.threads.pairs.items) ≡ Some k) × (threads_of c + k ≡ n))
    part i n at = ⊎_elim
        (λ (l : i < length led.threads.pairs.items). inl (of_map (λ (p : ℕ × ℕ). p.0) led.threads.pairs.items i n (sym (front_map (λ (p : ℕ × ℕ). p.0) led.threads.pairs.items (map (λ k. threads_of c + k) led.labels.items) i l) ∙ at)))
        (λ le. let r = of_map (λ k. threads_of c + k) led.labels.items (i - length led.threads.pairs.items) n (sym (behind_map (λ (p : ℕ × ℕ). p.0) led.threads.pairs.items (map (λ k. threads_of c + k) led.labels.items) i le) ∙ at) in inr (r.0, le, r.1, r.2))
        (cases_lt i (length led.threads.pairs.items))

    counted_thread : (i : ℕ) (p : ℕ × ℕ) → slice_get led.threads.pairs.items i ≡ Some p → leads (block_number (led_at c.index t)) (thread_clock (slice_get c.threads.items p.0) t) ≡ true
    counted_thread i p at =
        sym ((c.indexed unspent).threads t p.0) ∙ ap (λ o. has_thread o p.0) is
        ∙ lt-ltb 0 (number_at led.threads p.0) (let e : number_at led.threads p.0 ≡ p.1 = number_some led.threads.pairs.items i p led.threads.rising at in omega (arith, e, led.threads.nonzero i p at))

    times_is : (k : ℕ) → times k led.labels.items ≡ (if leads (block_number (led_at c.index t)) (label_clock c.table k t) then 1 else 0)
    times_is k = sym (ap (λ o. times k (places_in o)) is) ∙ (c.indexed unspent).labels t k

    at_most_once : (k : ℕ) → times k led.labels.items ≤ 1
    at_most_once k = go (leads (block_number (led_at c.index t)) (label_clock c.table k t)) (times_is k)
      where
        go : (b : Bool) → times k led.labels.items ≡ (if b then 1 else 0) → times k led.labels.items ≤ 1
        go true e = omega (arith, e)
        go false e = omega (arith, e)

    counted_label : (j k : ℕ) → slice_get led.labels.items j ≡ Some k → leads (block_number (led_at c.index t)) (label_clock c.table k t) ≡ true
    counted_label j k at = go (leads (block_number (led_at c.index t)) (label_clock c.table k t)) (times_is k)
      where
        go : (b : Bool) → times k led.labels.items ≡ (if b then 1 else 0) → b ≡ true
        go true e = refl
        go false e = absurd (omega (arith, e, times_some k led.labels.items j at))

    thread_of : (i n : ℕ) → ((p : ℕ × ℕ) × (slice_get led.threads.pairs.items i ≡ Some p) × (p.0 ≡ n)) → n < threads_of c
    thread_of i n r = let l = thread_within r.0.0 (within (thread_clock (slice_get c.threads.items r.0.0) t) (counted_thread i r.0 r.1)) in omega (arith, l, r.2)

    each : (i n : ℕ) → slice_get (slots_in (Some led) (threads_of c)) i ≡ Some n → (n < slots_of c) × IsBehind c t (clock_of c (slot_at c n))
    each i n at = go (part i n at)
      where
        go : ((p : ℕ × ℕ) × (slice_get led.threads.pairs.items i ≡ Some p) × (p.0 ≡ n)) ⊎ ((k : ℕ) × (length led.threads.pairs.items ≤ i) × (slice_get led.labels.items (i - length led.threads.pairs.items) ≡ Some k) × (threads_of c + k ≡ n)) → (n < slots_of c) × IsBehind c t (clock_of c (slot_at c n))
        go (inl r) =
            let l = thread_of i n r in
            (omega (arith, l), leads_behind (slot_at c n) (ap (λ s. leads (block_number (led_at c.index t)) (clock_of c s t)) (slot_thread c.threads.items c.table n l) ∙ sym (ap (λ m. leads (block_number (led_at c.index t)) (thread_clock (slice_get c.threads.items m) t)) r.2) ∙ counted_thread i r.0 r.1))
        go (inr r) =
            let led_to = counted_label (i - length led.threads.pairs.items) r.0 r.2 in
            let s = label_within r.0 (within (label_clock c.table r.0 t) led_to) in
            let place : r.0 ≡ n - threads_of c = omega (arith, r.3) in
            let beyond : threads_of c ≤ n = omega (arith, r.3) in
            (omega (arith, r.3, slice_get_within (labels_of c.table) r.0 s.0 s.1), leads_behind (slot_at c n) (ap (leads (block_number (led_at c.index t))) (kept_is_slot c.threads.items c.table n r.0 s.0 beyond place s.1 t) ∙ led_to))

    all : (n : ℕ) → n < slots_of c → IsBehind c t (clock_of c (slot_at c n)) → (i : ℕ) × (slice_get (slots_in (Some led) (threads_of c)) i ≡ Some n)
    all n l behind = ⊎_elim thread label (cases_lt n (threads_of c))
      where
        led_to : leads (block_number (led_at c.index t)) (clock_of c (slot_at c n) t) ≡ true
        led_to = behind_leads (slot_at c n) behind

        thread : n < threads_of c → (i : ℕ) × (slice_get (slots_in (Some led) (threads_of c)) i ≡ Some n)
        thread less =
            let has : has_thread (Some led) n ≡ true = sym (ap (λ o. has_thread o n) is) ∙ (c.indexed unspent).threads t n ∙ sym (ap (λ s. leads (block_number (led_at c.index t)) (clock_of c s t)) (slot_thread c.threads.items c.table n less)) ∙ led_to in
            let some : 0 < number_at led.threads n = ⊎_elim (λ (p : 0 < number_at led.threads n). p) (λ z. absurd (both_ways (has_thread (Some led) n) (le-ltb 0 (number_at led.threads n) z) has)) (cases_lt 0 (number_at led.threads n)) in
            let r = number_found led.threads.pairs.items n some in
            (r.0, at_map (λ (p : ℕ × ℕ). p.0) led.threads.pairs.items (map (λ k. threads_of c + k) led.labels.items) r.0 (n, number_at led.threads n) r.1)

        label : threads_of c ≤ n → (i : ℕ) × (slice_get (slots_in (Some led) (threads_of c)) i ≡ Some n)
        label le =
            let s = labelled_within (labels_of c.table) (n - threads_of c) (omega (arith, l, le)) in
            let led_label : leads (block_number (led_at c.index t)) (label_clock c.table (n - threads_of c) t) ≡ true = sym (ap (leads (block_number (led_at c.index t))) (kept_is_slot c.threads.items c.table n (n - threads_of c) s.0 le refl s.1 t)) ∙ led_to in
            let once : times (n - threads_of c) led.labels.items ≡ 1 = times_is (n - threads_of c) ∙ cond-true (leads (block_number (led_at c.index t)) (label_clock c.table (n - threads_of c) t)) _ _ led_label in
            let j = times_find (n - threads_of c) led.labels.items (omega (arith, once)) in
            let back : length led.threads.pairs.items + j.0 - length led.threads.pairs.items ≡ j.0 = omega arith in
            let number_is : threads_of c + (n - threads_of c) ≡ n = omega (arith, le) in (
              length led.threads.pairs.items + j.0,
              behind_map (λ (p : ℕ × ℕ). p.0) led.threads.pairs.items (map (λ k. threads_of c + k) led.labels.items) (length led.threads.pairs.items + j.0) (omega arith)
                  ∙ ap (slice_get (map (λ k. threads_of c + k) led.labels.items)) back
                  ∙ map_at (λ k. threads_of c + k) led.labels.items j.0 (n - threads_of c) j.1 ∙ ap Some number_is,
            )

    once : (i j n : ℕ) → slice_get (slots_in (Some led) (threads_of c)) i ≡ Some n → slice_get (slots_in (Some led) (threads_of c)) j ≡ Some n → i ≡ j
    once i j n a b = go (part i n a) (part j n b)
      where
        go : ((p : ℕ × ℕ) × (slice_get led.threads.pairs.items i ≡ Some p) × (p.0 ≡ n)) ⊎ ((k : ℕ) × (length led.threads.pairs.items ≤ i) × (slice_get led.labels.items (i - length led.threads.pairs.items) ≡ Some k) × (threads_of c + k ≡ n))
            → ((p : ℕ × ℕ) × (slice_get led.threads.pairs.items j ≡ Some p) × (p.0 ≡ n)) ⊎ ((k : ℕ) × (length led.threads.pairs.items ≤ j) × (slice_get led.labels.items (j - length led.threads.pairs.items) ≡ Some k) × (threads_of c + k ≡ n)) → i ≡ j
        go (inl r) (inl q) = ⊎_elim
            (λ (l : i < j). absurd (omega (arith, led.threads.rising i j r.0 q.0 l r.1 q.1, r.2, q.2)))
            (λ ge. ⊎_elim (λ (l : j < i). absurd (omega (arith, led.threads.rising j i q.0 r.0 l q.1 r.1, r.2, q.2))) (λ le. omega (arith, ge, le)) (cases_lt j i))
            (cases_lt i j)
        go (inl r) (inr q) = absurd (omega (arith, thread_of i n r, q.3))
        go (inr r) (inl q) = absurd (omega (arith, thread_of j n q, r.3))
        go (inr r) (inr q) =
            let same : q.0 ≡ r.0 = omega (arith, r.3, q.3) in
            let places : i - length led.threads.pairs.items ≡ j - length led.threads.pairs.items = times_once r.0 led.labels.items (i - length led.threads.pairs.items) (j - length led.threads.pairs.items) (at_most_once r.0) r.2 (q.2 ∙ ap Some same) in
            omega (arith, places, r.1, q.1)

    rising : (i j m n : ℕ) → i < j → slice_get (slots_in (Some led) (threads_of c)) i ≡ Some m → slice_get (slots_in (Some led) (threads_of c)) j ≡ Some n → n < threads_of c → m < n
    rising i j m n l a b less = go (part i m a) (part j n b)
      where
        go : ((p : ℕ × ℕ) × (slice_get led.threads.pairs.items i ≡ Some p) × (p.0 ≡ m)) ⊎ ((k : ℕ) × (length led.threads.pairs.items ≤ i) × (slice_get led.labels.items (i - length led.threads.pairs.items) ≡ Some k) × (threads_of c + k ≡ m))
            → ((p : ℕ × ℕ) × (slice_get led.threads.pairs.items j ≡ Some p) × (p.0 ≡ n)) ⊎ ((k : ℕ) × (length led.threads.pairs.items ≤ j) × (slice_get led.labels.items (j - length led.threads.pairs.items) ≡ Some k) × (threads_of c + k ≡ n)) → m < n
        go (inl r) (inl q) = omega (arith, led.threads.rising i j r.0 q.0 l r.1 q.1, r.2, q.2)
        go r (inr q) = absurd (omega (arith, less, q.3))
        go (inr r) (inl q) = absurd (omega (arith, l, r.1, slice_get_within led.threads.pairs.items j q.0 q.1))

    are_listed : AreLed c t (slots_in (Some led) (threads_of c))
    are_listed = record { each = each; all = all; once = once; rising = rising }

  pub are_led : AreLed c t (led_of c t)
  are_led = subst (AreLed c t) (sym (cond-false (is_spent c) _ _ unspent)) (go (led_at c.index t) refl)
    where
      go : (o : Option Led) → led_at c.index t ≡ o → AreLed c t (slots_in o (threads_of c))
      go None e = let z : 0 ≡ begins_at c t = sym (ap block_number e) ∙ number_is in absurd (omega (arith, z, c.heeded.begun t inside))
      go (Some led) e = are_listed led e

-- where a slot is listed memory wasn't refused
pub listed_unspent : (c : Clocks) (t i : ℕ) → i < length (led_of c t) → is_spent c ≡ false
listed_unspent c t i l = ⊎_elim (λ (s : is_spent c ≡ true). let e : length (led_of c t) ≡ 0 = ap length (cond-true (is_spent c) _ _ s) in absurd (omega (arith, l, e))) (λ s. s) (cases_Bool (is_spent c))

pub led_unspent : (c : Clocks) (t : ℕ) → is_spent c ≡ false → led_of c t ≡ slots_in (led_at c.index t) (threads_of c)
led_unspent c t unspent = cond-false (is_spent c) _ _ unspent
