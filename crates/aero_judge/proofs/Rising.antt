-- The lines of a trace rise, so each has one event at most; with the ends of blocks that are open, each has one begin at most, which stands alone.
use Rattle.std.proofs.Common.{◌≡◌, ◌⊎◌, ℕ, zero, suc, ◌+◌, ◌-◌, ◌<◌, ◌≤◌, ◌&&◌, nat_le, not, Bool, true, false, if◌then◌else◌, List, [], ◌∷◌, ◌++◌, length, map, get_or, Some, inl, inr, refl, sym, ◌∙◌, ap, subst, arith}
use Rattle.std.specs.Prelude.{bytes_eq, slice_get, filter, is_some, All}
use Rattle.std.proofs.lemmas.Bool.{cond-true, cond-false}
use Rattle.std.proofs.lemmas.List.Elements.{All-cons, All-filter, All-nil, All-replicate}
use Rattle.std.proofs.lemmas.Option.{same_Some, slice_get_within, get_or_from_slice_get, slice_get-get_or}
use Rattle.aero_model.specs.declared.event.Op.TheVariants as op
use Rattle.aero_model.specs.Ended.{end_of, ended_after, ends_at_end, ends_before, ends_of, is_join, joins_another, open_of, target_of, without_lines}
use Rattle.aero_model.specs.Named.{Named}
use Rattle.aero_model.specs.Terms.{Rules}
use Rattle.aero_grammar.specs.Reading.{Reading, IsReading, LinesRise, after_lines, followed_by, whole_reading}
use Rattle.aero_verdict.specs.Verdict.{counted_events, faulty_line, own_events}
use Rattle.aero_verdict.proofs.Ending.{counted_is, ended_on, last_ends, last_ones, so_far, with_on}
use Rattle.aero_verdict.proofs.Readings.{LinesRise-weaker}
use Rattle.aero_verdict.proofs.ThreadNames.{at_place}

abbrev Events : Type 0
Events = List (ℕ × Named)

-- lines that rise from above n up to m
record Between (n m : ℕ) (es : Events) : Type 0 where
  rise : LinesRise n es
  most : (k : ℕ) (e : ℕ × Named) → slice_get es k ≡ Some e → e.0 ≤ m

later : (n total : ℕ) (es : Events) → LinesRise n es → LinesRise (total + n) (map (after_lines total) es)
later n total [] rise = tt
later n total (e ∷ es) rise = (omega (arith, rise.0), later e.0 total es rise.1)

most_later : (total m : ℕ) (es : Events) → ((k : ℕ) (e : ℕ × Named) → slice_get es k ≡ Some e → e.0 ≤ m) → (k : ℕ) (e : ℕ × Named) → slice_get (map (after_lines total) es) k ≡ Some e → e.0 ≤ total + m
most_later total m [] most k e at = absurd (cc)
most_later total m (x ∷ es) most zero e at =
    let same = ap (λ (d : ℕ × Named). d.0) (same_Some (after_lines total x) e at) in
    let first = most zero x refl in
    omega (arith, same, first)
most_later total m (x ∷ es) most (suc k) e at = most_later total m es (λ j d there. most (suc j) d there) k e at

joined : (n m : ℕ) (xs ys : Events) → LinesRise n xs → ((k : ℕ) (e : ℕ × Named) → slice_get xs k ≡ Some e → e.0 ≤ m) → n ≤ m → LinesRise m ys → LinesRise n (xs ++ ys)
joined n m [] ys rise most le rest = LinesRise-weaker n m ys le rest
joined n m (x ∷ xs) ys rise most le rest = (rise.0, joined x.0 m xs ys rise.1 (λ k e at. most (suc k) e at) (most zero x refl) rest)

most_joined : (m : ℕ) (xs ys : Events) → ((k : ℕ) (e : ℕ × Named) → slice_get xs k ≡ Some e → e.0 ≤ m) → ((k : ℕ) (e : ℕ × Named) → slice_get ys k ≡ Some e → e.0 ≤ m) → (k : ℕ) (e : ℕ × Named) → slice_get (xs ++ ys) k ≡ Some e → e.0 ≤ m
most_joined m [] ys most rest k e at = rest k e at
most_joined m (x ∷ xs) ys most rest zero e at = most zero e at
most_joined m (x ∷ xs) ys most rest (suc k) e at = most_joined m xs ys (λ j d there. most (suc j) d there) rest k e at

most_weaker : (m n : ℕ) (es : Events) → m ≤ n → ((k : ℕ) (e : ℕ × Named) → slice_get es k ≡ Some e → e.0 ≤ m) → (k : ℕ) (e : ℕ × Named) → slice_get es k ≡ Some e → e.0 ≤ n
most_weaker m n es le most k e at = let h = most k e at in omega (arith, le, h)

within_at : (r : Reading) → IsReading r → (k : ℕ) (e : ℕ × Named) → slice_get r.events k ≡ Some e → e.0 ≤ r.lines
within_at r is k e at = go (slice_get_within r.events k e at) (get_or_from_slice_get r.events k e e at)
  where
    go : k < length r.events → get_or r.events k e ≡ e → e.0 ≤ r.lines
    go less same = subst (λ (x : ℕ × Named). x.0 ≤ r.lines) same (is.within k e less)

one : (r : Reading) → IsReading r → Between 0 r.lines r.events
one r is = record { rise = is.rising; most = within_at r is }

followed : (r s : Reading) → IsReading r → Between 0 s.lines s.events → (b : Bool) → is_some r.fault ≡ b → Between 0 (followed_by r s).lines (followed_by r s).events
followed r s is more true faulty =
    subst (λ (x : Reading). Between 0 x.lines x.events) (sym (cond-true (is_some r.fault) _ _ faulty)) (one r is)
followed r s is more false faultless =
    subst (λ (x : Reading). Between 0 x.lines x.events) (sym (cond-false (is_some r.fault) _ _ faultless)) (record {
      rise = joined 0 r.lines r.events (map (after_lines r.lines) s.events) is.rising (within_at r is) (omega arith)
          (LinesRise-weaker r.lines (r.lines + 0) (map (after_lines r.lines) s.events) (omega arith) (later 0 r.lines s.events more.rise));
      most = most_joined (r.lines + s.lines) r.events (map (after_lines r.lines) s.events) (most_weaker r.lines (r.lines + s.lines) r.events (omega arith) (within_at r is)) (most_later r.lines s.lines s.events more.most);
    })

whole_between : (parts : List Reading) → All IsReading parts → Between 0 (whole_reading parts).lines (whole_reading parts).events
whole_between [] all = record { rise = tt; most = λ k e at. absurd (cc) }
whole_between (r ∷ parts) all =
    followed r (whole_reading parts) (all zero r (omega arith)) (whole_between parts (λ k d less. all (suc k) d (omega (arith, less)))) (is_some r.fault) refl

pub whole_rises : (parts : List Reading) → All IsReading parts → LinesRise 0 (whole_reading parts).events
whole_rises parts all = (whole_between parts all).rise

filtered_more : (p : ℕ × Named → Bool) (n : ℕ) (e : ℕ × Named) (es : Events) → n < e.0 → LinesRise e.0 (filter p es) → LinesRise n (filter p es) → (b : Bool) → p e ≡ b → LinesRise n (filter p (e ∷ es))
filtered_more p n e es less with_it without true in_it = subst (LinesRise n) (sym (cond-true (p e) (e ∷ filter p es) (filter p es) in_it)) (less, with_it)
filtered_more p n e es less with_it without false out = subst (LinesRise n) (sym (cond-false (p e) (e ∷ filter p es) (filter p es) out)) without

filtered : (p : ℕ × Named → Bool) (n : ℕ) (es : Events) → LinesRise n es → LinesRise n (filter p es)
filtered p n [] rise = tt
filtered p n (e ∷ es) rise =
    let more = filtered p e.0 es rise.1 in
    filtered_more p n e es rise.0 more (LinesRise-weaker n e.0 (filter p es) (omega (arith, rise.0)) more) (p e) refl

above_at : (n : ℕ) (es : Events) → LinesRise n es → (k : ℕ) (x : ℕ × Named) → slice_get es k ≡ Some x → n < x.0
above_at n [] rise k x at = absurd (cc)
above_at n (e ∷ es) rise zero x at = subst (λ (d : ℕ × Named). n < d.0) (same_Some e x at) rise.0
above_at n (e ∷ es) rise (suc k) x at = let h = above_at e.0 es rise.1 k x at in omega (arith, rise.0, h)

-- two places with one line are one
one_place : (n : ℕ) (es : Events) → LinesRise n es → (i j : ℕ) (x y : ℕ × Named) → slice_get es i ≡ Some x → slice_get es j ≡ Some y → x.0 ≡ y.0 → i ≡ j
one_place n [] rise i j x y at there same = absurd (cc)
one_place n (e ∷ es) rise zero zero x y at there same = refl
one_place n (e ∷ es) rise zero (suc j) x y at there same =
    let more = above_at e.0 es rise.1 j y there in
    let first = ap (λ (d : ℕ × Named). d.0) (same_Some e x at) in
    absurd (omega (arith, more, first, same))
one_place n (e ∷ es) rise (suc i) zero x y at there same =
    let more = above_at e.0 es rise.1 i x at in
    let first = ap (λ (d : ℕ × Named). d.0) (same_Some e y there) in
    absurd (omega (arith, more, first, same))
one_place n (e ∷ es) rise (suc i) (suc j) x y at there same = ap suc (one_place e.0 es rise.1 i j x y at there same)

-- With the ends between them a line may have several events, but a begin stands alone on its line.
abbrev BeginsAlone : Events → Type 0
BeginsAlone es = (i j : ℕ) (x y : ℕ × Named) → slice_get es i ≡ Some x → slice_get es j ≡ Some y → x.0 ≡ y.0 → y.1.op ≡ op.Begin → i ≡ j

at_split : (xs ys : Events) (i : ℕ) (x : ℕ × Named) → slice_get (xs ++ ys) i ≡ Some x → (slice_get xs i ≡ Some x) ⊎ ((length xs ≤ i) × (slice_get ys (i - length xs) ≡ Some x))
at_split [] ys i x at = inr (omega arith, subst (λ k. slice_get ys k ≡ Some x) (let e : i ≡ i - 0 = omega arith in e) at)
at_split (y ∷ xs) ys zero x at = inl at
at_split (y ∷ xs) ys (suc i) x at = elim (at_split xs ys i x at) [
  | inl front ↦ inl front
  | inr back ↦ inr (omega (arith, back.0), subst (λ k. slice_get ys k ≡ Some x) (let e : i - length xs ≡ suc i - length (y ∷ xs) = omega arith in e) back.1)
]

-- so it is of one list behind another, where no begin of one stands on a line of the other
alone_joined : (xs ys : Events) → BeginsAlone xs → BeginsAlone ys →
    ((i j : ℕ) (x y : ℕ × Named) → slice_get xs i ≡ Some x → slice_get ys j ≡ Some y → x.0 ≡ y.0 → ((x.1.op ≡ op.Begin) ⊎ (y.1.op ≡ op.Begin)) → ⊥) → BeginsAlone (xs ++ ys)
alone_joined xs ys first second apart i j x y at there same begins = go (at_split xs ys i x at) (at_split xs ys j y there)
  where
    go : (slice_get xs i ≡ Some x) ⊎ ((length xs ≤ i) × (slice_get ys (i - length xs) ≡ Some x)) → (slice_get xs j ≡ Some y) ⊎ ((length xs ≤ j) × (slice_get ys (j - length xs) ≡ Some y)) → i ≡ j
    go (inl a) (inl b) = first i j x y a b same begins
    go (inl a) (inr b) = absurd (apart i (j - length xs) x y a b.1 same (inr begins))
    go (inr a) (inl b) = absurd (apart j (i - length xs) y x b a.1 (sym same) (inl begins))
    go (inr a) (inr b) = let e = second (i - length xs) (j - length xs) x y a.1 b.1 same begins in omega (arith, a.0, b.0, e)

no_begin : (es : Events) → All (λ e. e.1.op ≡ op.End) es → (i : ℕ) (x : ℕ × Named) → slice_get es i ≡ Some x → x.1.op ≡ op.Begin → ⊥
no_begin es all i x at begins = let ends = at_place (λ (e : ℕ × Named). e.1.op ≡ op.End) es i x all at in cc

all_ends_alone : (es : Events) → All (λ e. e.1.op ≡ op.End) es → BeginsAlone es
all_ends_alone es all i j x y at there same begins = absurd (no_begin es all j y there begins)

rising_alone : (n : ℕ) (es : Events) → LinesRise n es → BeginsAlone es
rising_alone n es rise i j x y at there same begins = one_place n es rise i j x y at there same

ends_are_ends : (before : List Named) (e : ℕ × Named) → All (λ x. x.1.op ≡ op.End) (ends_before before e)
ends_are_ends before e = go (joins_another e.1)
  where
    go : (b : Bool) → All (λ x. x.1.op ≡ op.End) (if b then ends_of before e.0 (target_of e.1) else [])
    go true = All-replicate (λ (x : ℕ × Named). x.1.op ≡ op.End) (open_of before (target_of e.1)) (e.0, end_of (target_of e.1)) refl
    go false = All-nil (λ (x : ℕ × Named). x.1.op ≡ op.End)

ends_on_line : (before : List Named) (e : ℕ × Named) → All (λ x. x.0 ≡ e.0) (ends_before before e)
ends_on_line before e = go (joins_another e.1)
  where
    go : (b : Bool) → All (λ x. x.0 ≡ e.0) (if b then ends_of before e.0 (target_of e.1) else [])
    go true = All-replicate (λ (x : ℕ × Named). x.0 ≡ e.0) (open_of before (target_of e.1)) (e.0, end_of (target_of e.1)) refl
    go false = All-nil (λ (x : ℕ × Named). x.0 ≡ e.0)

-- before a begin there is no end
none_before_begin : (before : List Named) (e : ℕ × Named) → e.1.op ≡ op.Begin → ends_before before e ≡ []
none_before_begin before e begins = ap (λ b. if b then ends_of before e.0 (target_of e.1) else []) (ap (λ o. is_join o && not (bytes_eq (target_of e.1) e.1.thread)) begins)

above_all : (n : ℕ) (es : Events) → LinesRise n es → All (λ e. n < e.0) es
above_all n [] rise = All-nil (λ (e : ℕ × Named). n < e.0)
above_all n (e ∷ es) rise = All-cons (λ (x : ℕ × Named). n < x.0) e es rise.0 (λ k d less. (let h = above_all e.0 es rise.1 k d less in omega (arith, h, rise.0)))

ended_alone : (n : ℕ) (before : List Named) (es : Events) → LinesRise n es → BeginsAlone (ended_after before es)
ended_alone n before [] rise = λ i j x y at there same begins. absurd (cc)
ended_alone n before (e ∷ es) rise =
    alone_joined ends (e ∷ rest) (all_ends_alone ends (ends_are_ends before e)) (later (ended_alone e.0 (before ++ without_lines (ends_before before e) ++ e.1 ∷ []) es rise.1)) apart
  where
    ends : Events
    ends = ends_before before e

    next : List Named
    next = before ++ without_lines (ends_before before e) ++ e.1 ∷ []

    rest : Events
    rest = ended_after next es

    beyond : All (λ x. e.0 < x.0) rest
    beyond = ended_on (λ m. e.0 < m) next es (above_all e.0 es rise.1)

    beyond_at : (k : ℕ) (x : ℕ × Named) → slice_get rest k ≡ Some x → e.0 < x.0
    beyond_at k x at = at_place (λ (y : ℕ × Named). e.0 < y.0) rest k x beyond at

    later : BeginsAlone rest → BeginsAlone (e ∷ rest)
    later alone zero zero x y at there same begins = refl
    later alone zero (suc j) x y at there same begins = absurd (let far = beyond_at j y there in let first = ap (λ (d : ℕ × Named). d.0) (same_Some e x at) in omega (arith, far, first, same))
    later alone (suc i) zero x y at there same begins = absurd (let far = beyond_at i x at in let first = ap (λ (d : ℕ × Named). d.0) (same_Some e y there) in omega (arith, far, first, same))
    later alone (suc i) (suc j) x y at there same begins = ap suc (alone i j x y at there same begins)

    apart : (i j : ℕ) (x y : ℕ × Named) → slice_get ends i ≡ Some x → slice_get (e ∷ rest) j ≡ Some y → x.0 ≡ y.0 → ((x.1.op ≡ op.Begin) ⊎ (y.1.op ≡ op.Begin)) → ⊥
    apart i j x y at there same (inl begins) = no_begin ends (ends_are_ends before e) i x at begins
    apart i zero x y at there same (inr begins) =
        let none = none_before_begin before e (ap (λ (d : ℕ × Named). d.1.op) (same_Some e y there) ∙ begins) in
        let nothing = sym (ap (λ es. slice_get es i) none) ∙ at in
        cc
    apart i (suc j) x y at there same (inr begins) =
        let far = beyond_at j y there in
        let here = at_place (λ (d : ℕ × Named). d.0 ≡ e.0) ends i x (ends_on_line before e) at in
        omega (arith, far, here, same)

module _ (parts : List Reading) (rules : Rules) (all : All IsReading parts) where
  abbrev own : Events
  own = own_events parts rules

  own_rises : LinesRise 0 own
  own_rises = filtered (λ e. nat_le e.0 rules.limits.lines) 0 (whole_reading parts).events (whole_rises parts all)

  own_within : All (λ e. e.0 ≤ (whole_reading parts).lines) own
  own_within =
      All-filter (λ e. nat_le e.0 rules.limits.lines) (λ (e : ℕ × Named). e.0 ≤ (whole_reading parts).lines) (whole_reading parts).events
      (λ k d less. (whole_between parts all).most k (get_or (whole_reading parts).events k d) (slice_get-get_or (whole_reading parts).events k d less))

  so_far_alone : BeginsAlone (so_far parts rules)
  so_far_alone = go rules.end
    where
      go : (b : Bool) → BeginsAlone (if b then ended_after [] own else own)
      go true = ended_alone 0 [] own own_rises
      go false = rising_alone 0 own own_rises

  last_late : All (λ e. (e.1.op ≡ op.End) × (e.0 ≡ suc (whole_reading parts).lines)) (last_ends parts rules)
  last_late = go rules.end (is_some (faulty_line parts rules))
    where
      go : (b faulty : Bool) → All (λ (e : ℕ × Named). (e.1.op ≡ op.End) × (e.0 ≡ suc (whole_reading parts).lines))
          (if b then (if faulty then [] else ends_at_end (without_lines (so_far parts rules)) (suc (whole_reading parts).lines)) else [])
      go true true = All-nil (λ (e : ℕ × Named). (e.1.op ≡ op.End) × (e.0 ≡ suc (whole_reading parts).lines))
      go true false = last_ones (λ (e : ℕ × Named). (e.1.op ≡ op.End) × (e.0 ≡ suc (whole_reading parts).lines)) (suc (whole_reading parts).lines) (without_lines (so_far parts rules)) (λ name there. (refl, refl))
      go false faulty = All-nil (λ (e : ℕ × Named). (e.1.op ≡ op.End) × (e.0 ≡ suc (whole_reading parts).lines))

  -- of the events that count
  pub begins_alone : BeginsAlone (counted_events parts rules)
  begins_alone =
      subst BeginsAlone (sym (counted_is parts rules))
      (alone_joined (so_far parts rules) (last_ends parts rules) so_far_alone (all_ends_alone (last_ends parts rules) (λ k d less. (last_late k d less).0)) apart)
    where
      apart : (i j : ℕ) (x y : ℕ × Named) → slice_get (so_far parts rules) i ≡ Some x → slice_get (last_ends parts rules) j ≡ Some y → x.0 ≡ y.0 → ((x.1.op ≡ op.Begin) ⊎ (y.1.op ≡ op.Begin)) → ⊥
      apart i j x y at there same begins =
          let within = at_place (λ (e : ℕ × Named). e.0 ≤ (whole_reading parts).lines) (so_far parts rules) i x (with_on (λ n. n ≤ (whole_reading parts).lines) rules [] own own_within) at in
          let late = at_place (λ (e : ℕ × Named). (e.1.op ≡ op.End) × (e.0 ≡ suc (whole_reading parts).lines)) (last_ends parts rules) j y last_late there in
          omega (arith, within, late.1, same)
