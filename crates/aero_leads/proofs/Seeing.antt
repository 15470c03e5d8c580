-- What is known to lead to a thread stays so, until a block ends.
use Rattle.std.proofs.Common.{◌≡◌, ◌≢◌, ◌⊎◌, inl, inr, ⊎_elim, ℕ, ◌+◌, add-one, take, List, [], Option, Some, None, refl, sym, ap, subst, ◌∙◌}
use Rattle.std.specs.Prelude.{◌==◌, ◌&&◌, ◌||◌, Bool, true, false, is_some, if◌then◌else◌, slice_get}
use Rattle.std.specs.List.{list_any}
use Rattle.std.proofs.lemmas.Bool.{cases_Bool, cases_eq, both_ways, cond-true, cond-false, eq-eqb, ne_eqb, and_parts, or_cases, or_left, or_right}
use Rattle.aero_leads.specs.declared.row.Lead.{Lead}
use Rattle.aero_leads.specs.declared.thread.Thread.{Thread}
use Rattle.aero_leads.specs.declared.led.Led.{Led}
use Rattle.aero_leads.specs.declared.seen.Seen.{Seen}
use Rattle.aero_leads.specs.Kept.{least_in, is_below, thread_row, rows_in, absorbed, HasRow, TakesRow, BeginsBlock, EndsBlock}
use Rattle.aero_leads.specs.Listed.{followers, is_listed, AreListed, Grows}
use Rattle.aero_leads.specs.Seen.{is_seen, is_whole, AreSeen, IsWhole, AreKnown}
use Rattle.aero_leads.specs.Steps.{gains, lesser}
use Rattle.aero_leads.proofs.ThreadSteps.{any_take_next}

-- the ending thread's own row, to which nothing is handed on
module _ (start new : Seen) (w : ℕ) (later : List Lead)
    (so : (v : ℕ) → is_seen new w v ≡ true → (is_seen start w v || (is_seen start w w && is_some (least_in [] v))) ≡ true)
    (kept : (v : ℕ) → v ≢ w → is_seen start w v ≡ true → is_seen new w v ≡ true)
    (whole : is_whole new w ≡ true → is_whole start w ≡ true)
    (others : (o v : ℕ) → o ≢ w → is_seen new o v ≡ is_seen start o v)
    (whole_others : (o : ℕ) → o ≢ w → is_whole new o ≡ is_whole start o) where
  pub so_first : (o v : ℕ) → is_seen new o v ≡ true → (is_seen start o v || (is_seen start o w && is_some (least_in later v))) ≡ true
  so_first o v h = or_left (is_seen start o v) _ (go (cases_eq o w))
    where
      here : is_seen new w v ≡ true → is_seen start w v ≡ true
      here k = ⊎_elim (λ e. e) (λ e. let z : false ≡ true = (and_parts _ _ e).1 in cc) (or_cases _ _ (so v k))

      go : (o ≡ w) ⊎ (o ≢ w) → is_seen start o v ≡ true
      go (inl e) = ap (λ x. is_seen start x v) e ∙ here (sym (ap (λ x. is_seen new x v) e) ∙ h)
      go (inr ne) = sym (others o v ne) ∙ h

  pub kept_first : (o v : ℕ) → v ≢ w → is_seen start o v ≡ true → is_seen new o v ≡ true
  kept_first o v ne h = ⊎_elim (λ e. ap (λ x. is_seen new x v) e ∙ kept v ne (sym (ap (λ x. is_seen start x v) e) ∙ h)) (λ other. others o v other ∙ h) (cases_eq o w)

  pub whole_first : (o : ℕ) → is_whole new o ≡ true → is_whole start o ≡ true
  whole_first o h = ⊎_elim (λ e. ap (is_whole start) e ∙ whole (sym (ap (is_whole new) e) ∙ h)) (λ ne. sym (whole_others o ne) ∙ h) (cases_eq o w)

-- one more thread that is listed with block w, which is open no more
module _ (start now new : Seen) (us : List ℕ) (i u w : ℕ) (later : List Lead) (at : slice_get us i ≡ Some u)
    (so : (v : ℕ) → is_seen new u v ≡ true → (is_seen now u v || (is_seen now u w && is_some (least_in later v))) ≡ true)
    (kept : (v : ℕ) → v ≢ w → is_seen now u v ≡ true → is_seen new u v ≡ true)
    (gone : is_seen new u w ≡ false)
    (whole : is_whole new u ≡ true → is_whole now u ≡ true)
    (handed : is_seen now u w ≡ true → is_whole new u ≡ true → (v : ℕ) → v ≢ w → is_some (least_in later v) ≡ true → is_seen new u v ≡ true)
    (others : (o v : ℕ) → o ≢ u → is_seen new o v ≡ is_seen now o v)
    (whole_others : (o : ℕ) → o ≢ u → is_whole new o ≡ is_whole now o) where
  -- the threads that were visited before, and now
  abbrev before : ℕ → Bool
  before o = list_any (λ x. x == o) (take i us)

  abbrev visited : ℕ → Bool
  visited o = list_any (λ x. x == o) (take (i + 1) us)

  is_next : (o : ℕ) → visited o ≡ (before o || (u == o))
  is_next o = ap (λ j. list_any (λ x. x == o) (take j us)) (add-one i) ∙ any_take_next (λ x. x == o) us i u at

  visited_other : (o : ℕ) → o ≢ u → visited o ≡ before o
  visited_other o ne = is_next o ∙ ap (λ b. before o || b) (ne_eqb u o (λ e. ne (sym e))) ∙ same (before o)
    where
      same : (b : Bool) → (b || false) ≡ b
      same true = refl
      same false = refl

  pub so_next : ((o v : ℕ) → is_seen now o v ≡ true → (is_seen start o v || (is_seen start o w && is_some (least_in later v))) ≡ true)
      → (o v : ℕ) → is_seen new o v ≡ true → (is_seen start o v || (is_seen start o w && is_some (least_in later v))) ≡ true
  so_next so_far o v h = go (cases_eq o u)
    where
      both_true : (a b : Bool) → a ≡ true → b ≡ true → (a && b) ≡ true
      both_true true b e f = f
      both_true false b e f = e

      led_there : is_seen now o w ≡ true → is_seen start o w ≡ true
      led_there k = ⊎_elim (λ e. e) (λ e. (and_parts _ _ e).0) (or_cases _ _ (so_far o w k))

      go : (o ≡ u) ⊎ (o ≢ u) → (is_seen start o v || (is_seen start o w && is_some (least_in later v))) ≡ true
      go (inl e) =
          ⊎_elim (so_far o v)
          (λ k. let parts = and_parts _ _ k in or_right (is_seen start o v) _ (both_true (is_seen start o w) _ (led_there parts.0) parts.1))
          (or_cases _ _ (subst (λ x. is_seen new x v ≡ true → (is_seen now x v || (is_seen now x w && is_some (least_in later v))) ≡ true) (sym e) (so v) h))
      go (inr ne) = so_far o v (sym (others o v ne) ∙ h)

  pub kept_next : ((o v : ℕ) → v ≢ w → is_seen start o v ≡ true → is_seen now o v ≡ true) → (o v : ℕ) → v ≢ w → is_seen start o v ≡ true → is_seen new o v ≡ true
  kept_next so_far o v ne h = go (cases_eq o u)
    where
      go : (o ≡ u) ⊎ (o ≢ u) → is_seen new o v ≡ true
      go (inl e) = ap (λ x. is_seen new x v) e ∙ kept v ne (sym (ap (λ x. is_seen now x v) e) ∙ so_far o v ne h)
      go (inr other) = others o v other ∙ so_far o v ne h

  gone_or : (o : ℕ) → (o ≢ u → is_seen now o w ≡ false) → is_seen new o w ≡ false
  gone_or o before_it = ⊎_elim (λ e. ap (λ x. is_seen new x w) e ∙ gone) (λ ne. others o w ne ∙ before_it ne) (cases_eq o u)

  pub own_next : is_seen now w w ≡ false → is_seen new w w ≡ false
  own_next h = gone_or w (λ _. h)

  pub listed_next : ((o : ℕ) → before o ≡ true → is_seen now o w ≡ false) → (o : ℕ) → visited o ≡ true → is_seen new o w ≡ false
  listed_next so_far o h = gone_or o (λ ne. so_far o (sym (visited_other o ne) ∙ h))

  whole_before : (o : ℕ) → is_whole new o ≡ true → is_whole now o ≡ true
  whole_before o h = ⊎_elim (λ e. ap (is_whole now) e ∙ whole (sym (ap (is_whole new) e) ∙ h)) (λ ne. sym (whole_others o ne) ∙ h) (cases_eq o u)

  pub whole_next : ((o : ℕ) → is_whole now o ≡ true → is_whole start o ≡ true) → (o : ℕ) → is_whole new o ≡ true → is_whole start o ≡ true
  whole_next so_far o h = so_far o (whole_before o h)

  pub still_next : ((o : ℕ) → o ≢ w → before o ≡ false → is_seen now o w ≡ is_seen start o w) → (o : ℕ) → o ≢ w → visited o ≡ false → is_seen new o w ≡ is_seen start o w
  still_next so_far o nw h = others o w other ∙ so_far o nw (sym (visited_other o other) ∙ h)
    where
      other : o ≢ u
      other e = both_ways (visited o) h (is_next o ∙ or_right (before o) _ (eq-eqb u o (sym e)))

  pub handed_next :
      ((o : ℕ) → o ≢ w → before o ≡ false → is_seen now o w ≡ is_seen start o w)
      → ((o v : ℕ) → o ≢ w → before o ≡ true → is_seen start o w ≡ true → is_whole now o ≡ true → v ≢ w → is_some (least_in later v) ≡ true → is_seen now o v ≡ true)
      → (o v : ℕ) → o ≢ w → visited o ≡ true → is_seen start o w ≡ true → is_whole new o ≡ true → v ≢ w → is_some (least_in later v) ≡ true → is_seen new o v ≡ true
  handed_next still so_far o v nw h led all nv some = go (cases_eq o u) (cases_Bool (before o))
    where
      go : (o ≡ u) ⊎ (o ≢ u) → (before o ≡ true) ⊎ (before o ≡ false) → is_seen new o v ≡ true
      go (inr ne) _ = others o v ne ∙ so_far o v nw (sym (visited_other o ne) ∙ h) led (whole_before o all) nv some
      go (inl e) (inl b) = ap (λ x. is_seen new x v) e ∙ kept v nv (sym (ap (λ x. is_seen now x v) e) ∙ so_far o v nw b led (whole_before o all) nv some)
      go (inl e) (inr b) = ap (λ x. is_seen new x v) e ∙ handed (sym (ap (λ x. is_seen now x w) e) ∙ still o nw b ∙ led) (sym (ap (is_whole new) e) ∙ all) v nv some

-- threads whose rows stand
pub known_same : (old new : List Thread) (seen : Seen) → ((o w : ℕ) → rows_in new o w ≡ rows_in old o w) → AreKnown old seen → AreKnown new seen
known_same old new seen rows are = record {
  so = λ o w h. ap is_some (rows o w) ∙ are.so o w h;
  whole = λ o h w some. are.whole o h w (sym (ap is_some (rows o w)) ∙ some);
}

-- nothing is known
pub known_nothing : (threads : List Thread) (seen : Seen) → ((o w : ℕ) → is_seen seen o w ≡ false) → ((o : ℕ) → is_whole seen o ≡ false) → AreKnown threads seen
known_nothing threads seen none broken = record {
  so = λ o w h. absurd (both_ways (is_seen seen o w) (none o w) h);
  whole = λ o h. absurd (both_ways (is_whole seen o) (broken o) h);
}

-- a thread that gains leads keeps those that it has
pub seen_taken : (old new : List Thread) (seen : Seen) (t o below n : ℕ) → TakesRow (rows_in old) (rows_in new) n t o below → AreSeen old seen → AreSeen new seen
seen_taken old new seen t o below n takes are v w h = ap is_some (takes.rows v w) ∙ go (v == t) (is_below (rows_in old o w) below) (rows_in old v w) (are v w h)
  where
    go : (b c : Bool) (r : Option ℕ) → is_some r ≡ true → is_some (if b then gains r c n else r) ≡ true
    go true c None k = let z : false ≡ true = k in cc
    go true c (Some p) k = refl
    go false c r k = k

pub known_taken : (old new : List Thread) (was now : Seen) (t o below n : ℕ) → TakesRow (rows_in old) (rows_in new) n t o below
    → (AreSeen new was → AreSeen new now)
    → (is_whole now t ≡ true → IsWhole new now t)
    → ((v w : ℕ) → v ≢ t → is_seen now v w ≡ is_seen was v w)
    → ((v : ℕ) → v ≢ t → is_whole now v ≡ is_whole was v)
    → AreKnown old was → AreKnown new now
known_taken old new was now t o below n takes seen own others whole are = record { so = seen (seen_taken old new was t o below n takes are.so); whole = λ v h. go v h (cases_eq v t) }
  where
    go : (v : ℕ) → is_whole now v ≡ true → (v ≡ t) ⊎ (v ≢ t) → IsWhole new now v
    go v h (inl e) = λ w some. ap (λ u. is_seen now u w) e ∙ own (ap (is_whole now) (sym e) ∙ h) w (ap (λ u. is_some (rows_in new u w)) (sym e) ∙ some)
    go v h (inr ne) = λ w some. others v w ne ∙ are.whole v (sym (whole v ne) ∙ h) w (sym (ap is_some (takes.rows v w ∙ cond-false (v == t) _ _ (ne_eqb v t ne))) ∙ some)

-- and so does one that begins a block
pub seen_begun : (old new : List Thread) (seen : Seen) (t n : ℕ) → BeginsBlock old new t n → AreSeen old seen → AreSeen new seen
seen_begun old new seen t n begins are v w h = ap is_some (begins.rows v w) ∙ go ((v == t) && (t == w)) (rows_in old v w) (are v w h)
  where
    go : (b : Bool) (r : Option ℕ) → is_some r ≡ true → is_some (if b then lesser r (Some n) else r) ≡ true
    go true None k = let z : false ≡ true = k in cc
    go true (Some p) k = refl
    go false r k = k

pub known_begun : (old new : List Thread) (was now : Seen) (t n : ℕ) → BeginsBlock old new t n
    → ((o w : ℕ) → is_seen now o w ≡ true → (is_seen was o w || ((o == t) && (t == w))) ≡ true)
    → ((o w : ℕ) → is_seen was o w ≡ true → is_seen now o w ≡ true)
    → ((o : ℕ) → is_whole now o ≡ true → is_whole was o ≡ true)
    → (is_whole now t ≡ true → is_seen now t t ≡ true)
    → AreKnown old was → AreKnown new now
known_begun old new was now t n begins seen kept whole own are = record {
  so = λ o w h. ⊎_elim (seen_begun old new was t n begins are.so o w) (λ k. ap is_some (begins.rows o w ∙ cond-true ((o == t) && (t == w)) _ _ k) ∙ begun (rows_in old o w)) (or_cases _ _ (seen o w h));
  whole = λ o h w some. go o w h some (cases_eq o t) (cases_eq t w);
}
  where
    begun : (r : Option ℕ) → is_some (lesser r (Some n)) ≡ true
    begun None = refl
    begun (Some p) = refl

    by_old : (o w : ℕ) → is_whole now o ≡ true → is_some (rows_in new o w) ≡ true → ((o == t) && (t == w)) ≡ false → is_seen now o w ≡ true
    by_old o w h some apart = kept o w (are.whole o (whole o h) w (sym (ap is_some (begins.rows o w ∙ cond-false ((o == t) && (t == w)) _ _ apart)) ∙ some))

    no_more : (b : Bool) → (b && false) ≡ false
    no_more true = refl
    no_more false = refl

    go : (o w : ℕ) → is_whole now o ≡ true → is_some (rows_in new o w) ≡ true → (o ≡ t) ⊎ (o ≢ t) → (t ≡ w) ⊎ (t ≢ w) → is_seen now o w ≡ true
    go o w h some (inl e) (inl f) = ap (λ u. is_seen now u w) e ∙ ap (is_seen now t) (sym f) ∙ own (ap (is_whole now) (sym e) ∙ h)
    go o w h some (inl e) (inr ne) = by_old o w h some (ap (λ b. (o == t) && b) (ne_eqb t w ne) ∙ no_more (o == t))
    go o w h some (inr ne) _ = by_old o w h some (ap (λ b. b && (t == w)) (ne_eqb o t ne))

-- At an end each row that has the block loses it, and gains what is handed on. Where all of that is known, a row that was whole
-- still is.
pub known_ended : (old new : List Thread) (led : Led) (was now : Seen) (t : ℕ) (later : List Lead) → EndsBlock old new t → AreListed old led
    → ((o v : ℕ) → is_seen now o v ≡ true → (is_seen was o v || (is_seen was o t && is_some (least_in later v))) ≡ true)
    → ((o v : ℕ) → v ≢ t → is_seen was o v ≡ true → is_seen now o v ≡ true)
    → is_seen now t t ≡ false → ((o : ℕ) → is_listed led t o ≡ true → is_seen now o t ≡ false)
    → ((o : ℕ) → is_whole now o ≡ true → is_whole was o ≡ true)
    → ((o v : ℕ) → o ≢ t → is_listed led t o ≡ true → is_seen was o t ≡ true → is_whole now o ≡ true → v ≢ t → is_some (least_in later v) ≡ true → is_seen now o v ≡ true)
    → ((v : ℕ) → is_some (least_in later v) ≡ true → is_some (rows_in old t v) ≡ true)
    → ((o w : ℕ) → o ≢ t → absorbed (least_in later) (rows_in old o) t w ≡ absorbed (rows_in old t) (rows_in old o) t w)
    → AreKnown old was → AreKnown new now
known_ended old new led was now t later ends listed so kept own gone whole handed part spreads are = record {
  so = λ o w k. there o w k (cases_eq w t);
  whole = λ o h w some. known o w h some (cases_eq w t) (cases_eq o t) (cases_Bool (is_some (rows_in old o w)));
}
  where
    left : (o w : ℕ) → w ≢ t → rows_in new o w ≡ (if is_some (rows_in old t w) then lesser (rows_in old o w) (rows_in old o t) else rows_in old o w)
    left o w ne = ends.rows o w ∙ cond-false (w == t) _ _ (ne_eqb w t ne)

    -- what is known to lead to a thread isn't the block
    led_there : (o : ℕ) → is_seen now o t ≡ true → is_some (rows_in old o t) ≡ true
    led_there o k = are.so o t (⊎_elim (λ e. e) (λ e. (and_parts _ _ e).0) (or_cases _ _ (so o t k)))

    none_seen : (o : ℕ) → (o ≡ t) ⊎ (o ≢ t) → is_seen now o t ≡ true → is_seen now o t ≡ false
    none_seen o (inl e) k = ap (λ x. is_seen now x t) e ∙ own
    none_seen o (inr ne) k = gone o (listed o t (λ e. ne (sym e)) (led_there o k))

    more : (c : Bool) (r q : Option ℕ) → is_some r ≡ true → is_some (if c then lesser r q else r) ≡ true
    more true None q e = let z : false ≡ true = e in cc
    more true (Some p) None e = refl
    more true (Some p) (Some n) e = refl
    more false r q e = e

    either : (r q : Option ℕ) → is_some q ≡ true → is_some (lesser r q) ≡ true
    either None q e = e
    either (Some p) None e = refl
    either (Some p) (Some n) e = refl

    there : (o w : ℕ) → is_seen now o w ≡ true → (w ≡ t) ⊎ (w ≢ t) → is_some (rows_in new o w) ≡ true
    there o w k (inl e) = let here = sym (ap (is_seen now o) e) ∙ k in absurd (both_ways (is_seen now o t) (none_seen o (cases_eq o t) here) here)
    there o w k (inr ne) =
        ap is_some (left o w ne)
        ∙ ⊎_elim
        (λ e. more (is_some (rows_in old t w)) (rows_in old o w) (rows_in old o t) (are.so o w e))
        (λ e. let parts = and_parts _ _ e in ap is_some (cond-true (is_some (rows_in old t w)) _ _ (part w parts.1)) ∙ either (rows_in old o w) (rows_in old o t) (are.so o t parts.0))
        (or_cases _ _ (so o w k))

    -- a lead that is new in another thread's row was handed on
    new_lead : (c : Bool) (r q : Option ℕ) → is_some r ≡ false → is_some (if c then lesser r q else r) ≡ true → (c ≡ true) × (is_some q ≡ true)
    new_lead true None q none k = (refl, k)
    new_lead true (Some p) q none k = let z : true ≡ false = none in cc
    new_lead false r q none k = absurd (both_ways (is_some r) none k)

    known : (o w : ℕ) → is_whole now o ≡ true → is_some (rows_in new o w) ≡ true → (w ≡ t) ⊎ (w ≢ t) → (o ≡ t) ⊎ (o ≢ t) → (is_some (rows_in old o w) ≡ true) ⊎ (is_some (rows_in old o w) ≡ false) → is_seen now o w ≡ true
    known o w h some (inl e) _ _ = let z : false ≡ true = sym (ap is_some (ends.rows o w ∙ cond-true (w == t) _ _ (eq-eqb w t e))) ∙ some in cc
    known o w h some (inr ne) _ (inl had) = kept o w ne (are.whole o (whole o h) w had)
    known o w h some (inr ne) (inl e) (inr none) =
        let led = (new_lead (is_some (rows_in old t w)) (rows_in old o w) (rows_in old o t) none (sym (ap is_some (left o w ne)) ∙ some)).0 in
        absurd (both_ways (is_some (rows_in old o w)) none (ap (λ u. is_some (rows_in old u w)) e ∙ led))
    known o w h some (inr ne) (inr other) (inr none) =
        let new_one = new_lead (is_some (least_in later w)) (rows_in old o w) (rows_in old o t) none
        (sym (ap is_some (ends.rows o w ∙ sym (spreads o w other) ∙ cond-false (w == t) _ _ (ne_eqb w t ne))) ∙ some) in
        handed o w other (listed o t (λ e. other (sym e)) new_one.1) (are.whole o (whole o h) t new_one.1) h ne new_one.0

-- and each thread that still has a row for an open block is listed with it
pub listed_ended : (before taken spread put after : List Thread) (t : ℕ) (row settled : List Lead) (led more fewer : Led)
    → AreListed before led
    → row ≡ thread_row (slice_get before t)
    → HasRow before taken t []
    → ((w : ℕ) → least_in settled w ≡ absorbed (least_in row) (least_in row) t w)
    → (AreListed taken led → AreListed spread more)
    → Grows led more
    → HasRow spread put t settled
    → ((o w : ℕ) → rows_in after o w ≡ rows_in put o w)
    → ((v : ℕ) → followers fewer v ≡ (if v == t then [] else followers more v))
    → EndsBlock before after t
    → AreListed after fewer
listed_ended before taken spread put after t row settled led more fewer listed own out settles spreads grows back rows forgot ends o w ne some = go (cases_eq w t)
  where
    fewer_rows : (b : Bool) (r : List Lead) (v : ℕ) → is_some (least_in (if b then [] else r) v) ≡ true → is_some (least_in r v) ≡ true
    fewer_rows true r v k = let z : false ≡ true = k in cc
    fewer_rows false r v k = k

    was_there : (b : Bool) (x y : Option ℕ) → is_some (if b then None else if is_some x then lesser x y else x) ≡ true → is_some x ≡ true
    was_there true x y k = let z : false ≡ true = k in cc
    was_there false None y k = let z : false ≡ true = k in cc
    was_there false (Some p) y k = refl

    taken_listed : AreListed taken led
    taken_listed u v other k = listed u v other (fewer_rows (u == t) (thread_row (slice_get before u)) v (sym (ap (λ ls. is_some (least_in ls v)) (out.rows u)) ∙ k))

    in_more : (o ≡ t) ⊎ (o ≢ t) → is_listed more w o ≡ true
    in_more (inl e) =
        grows w o (listed o w ne (
        ap (λ u. is_some (rows_in before u w)) e ∙ ap (λ ls. is_some (least_in ls w)) (sym own)
        ∙ was_there (w == t) (least_in row w) (least_in row t) (ap is_some (sym (rows o w ∙ ap (λ ls. least_in ls w) (back.rows o ∙ cond-true (o == t) _ _ (eq-eqb o t e)) ∙ settles w)) ∙ some)
        ))
    in_more (inr other) = spreads taken_listed o w ne (ap is_some (sym (rows o w ∙ ap (λ ls. least_in ls w) (back.rows o ∙ cond-false (o == t) _ _ (ne_eqb o t other)))) ∙ some)

    go : (w ≡ t) ⊎ (w ≢ t) → is_listed fewer w o ≡ true
    go (inl e) = absurd (both_ways _ (ap is_some (ends.rows o w ∙ cond-true (w == t) _ _ (eq-eqb w t e))) some)
    go (inr nt) = ap (list_any (λ u. u == o)) (forgot w ∙ cond-false (w == t) _ _ (ne_eqb w t nt)) ∙ in_more (cases_eq o t)
