-- A trace in which an open block is none any more: its events stand alone, and nothing else changes.
use Rattle.std.proofs.Common.{◌≡◌, ◌≢◌, ◌⊎◌, ℕ, zero, suc, ◌+◌, ◌-◌, ◌<◌, ◌≤◌, ◌==◌, ◌&&◌, ◌||◌, nat_lt, Bool, true, false, cond, if◌then◌else◌, List, [], ◌∷◌, length, Option, Some, None, inl, inr, refl, sym, ◌∙◌, ap, ap₂, subst, arith}
use Rattle.std.specs.Prelude.{nat_le, option_map, slice_get}
use Rattle.std.proofs.lemmas.Bool.{cases_Bool, cases_eq, cases_lt, cond-true, cond-false, and_left, and_right, and_parts, eq-eqb, ne_eqb, eqb-true, and_from, leb-true, le-leb, both_ways}
use Rattle.std.proofs.lemmas.Option.{same_Some, slice_get_within}
use Rattle.aero_model.specs.declared.numbered.Numbered.{Numbered}
use Rattle.aero_model.specs.declared.numbered.What.{What}
use Rattle.aero_model.specs.declared.numbered.What.TheVariants.{Read, Write, Acquire, Release, Fork, Join, Begin, End, Exempt}
use Rattle.aero_model.specs.Blocks.{is_begin, is_end, by_thread, depth, opens, closes, blocks, Transaction, Block, Unary, of_event, transaction, HasEnded}
use Rattle.aero_model.specs.Cycle.{HasTellingCycle}
use Rattle.aero_model.specs.Excused.{IsOpenBlockAt}
use Rattle.aero_model.specs.Graph.{Conflict, Conflicts, same_thread, write_read, read_write, write_write, release_acquire, forks, joined, LeadsTo}
use Rattle.aero_model.proofs.Begins.{blocks_rise}
use Rattle.aero_model.proofs.Depths.{AtOpening, opening_at, closing_at, blocks_stay}
use Rattle.aero_model.proofs.Ends.{begin_in, deep_in}
use Rattle.aero_model.proofs.Places.{IsIn, in_block, in_unary, block_from, cases_transaction, conflict_inside}
use Rattle.aero_model.proofs.Reach.{Reach, stay, on, back, reach_within, reach_from_within}
use Rattle.aero_model.proofs.Telling.{begins_from_telling, event_at, none_returns}
use Rattle.aero_model.proofs.Walks.{Reaches, Returns, reaches_from_leads, leads_from_reaches, returns_from_begins}

-- what an event does whose begins and ends aren't blocks' any more
abbrev pub deed_alone : What → What
deed_alone (Begin label) = Exempt
deed_alone End = Exempt
deed_alone w = w

abbrev pub is_excused : ℕ → ℕ → ℕ → Numbered → Bool
is_excused t from i e = (e.thread == t) && nat_le from i

abbrev pub alone_at : ℕ → ℕ → ℕ → Numbered → Numbered
alone_at t from i e = record { thread = e.thread; what = if is_excused t from i e then deed_alone e.what else e.what }

-- the second trace has the events of the first, but from the place `from` on thread t begins and ends no blocks
abbrev pub IsUnblocked : (old new : List Numbered) → (t from : ℕ) → Type 0
IsUnblocked old new t from = (i : ℕ) → slice_get new i ≡ option_map (alone_at t from i) (slice_get old i)

deed_no_begin : (w : What) → is_begin (deed_alone w) ≡ false
deed_no_begin (Begin label) = refl
deed_no_begin End = refl
deed_no_begin (Read x) = refl
deed_no_begin (Write x) = refl
deed_no_begin (Acquire l) = refl
deed_no_begin (Release l) = refl
deed_no_begin (Fork u) = refl
deed_no_begin (Join u) = refl
deed_no_begin Exempt = refl

deed_no_end : (w : What) → is_end (deed_alone w) ≡ false
deed_no_end (Begin label) = refl
deed_no_end End = refl
deed_no_end (Read x) = refl
deed_no_end (Write x) = refl
deed_no_end (Acquire l) = refl
deed_no_end (Release l) = refl
deed_no_end (Fork u) = refl
deed_no_end (Join u) = refl
deed_no_end Exempt = refl

-- a deed that conflicts with another stays as it is
alone_is : (b : Bool) (w v : What) → deed_alone v ≡ v → w ≡ v → (if b then deed_alone w else w) ≡ v
alone_is true w v same is = ap deed_alone is ∙ same
alone_is false w v same is = is

was : (b : Bool) (w v : What) → is_begin v ≡ false → is_end v ≡ false → (v ≡ Exempt → ⊥) → (if b then deed_alone w else w) ≡ v → w ≡ v
was false w v nb ne some is = is
was true (Begin label) v nb ne some is = absurd (some (sym is))
was true End v nb ne some is = absurd (some (sym is))
was true (Read x) v nb ne some is = is
was true (Write x) v nb ne some is = is
was true (Acquire l) v nb ne some is = is
was true (Release l) v nb ne some is = is
was true (Fork u) v nb ne some is = is
was true (Join u) v nb ne some is = is
was true Exempt v nb ne some is = absurd (some (sym is))

conflicts_on : (a b : Bool) (e f : Numbered) → Conflicts e f → Conflicts (record { thread = e.thread; what = if a then deed_alone e.what else e.what }) (record { thread = f.thread; what = if b then deed_alone f.what else f.what })
conflicts_on a b e f (same_thread s) = same_thread s
conflicts_on a b e f (write_read x p q) = write_read x (alone_is a e.what (Write x) refl p) (alone_is b f.what (Read x) refl q)
conflicts_on a b e f (read_write x p q) = read_write x (alone_is a e.what (Read x) refl p) (alone_is b f.what (Write x) refl q)
conflicts_on a b e f (write_write x p q) = write_write x (alone_is a e.what (Write x) refl p) (alone_is b f.what (Write x) refl q)
conflicts_on a b e f (release_acquire l p q) = release_acquire l (alone_is a e.what (Release l) refl p) (alone_is b f.what (Acquire l) refl q)
conflicts_on a b e f (forks p) = forks (alone_is a e.what (Fork f.thread) refl p)
conflicts_on a b e f (joined q) = joined (alone_is b f.what (Join e.thread) refl q)

conflicts_back : (a b : Bool) (e f : Numbered) → Conflicts (record { thread = e.thread; what = if a then deed_alone e.what else e.what }) (record { thread = f.thread; what = if b then deed_alone f.what else f.what }) → Conflicts e f
conflicts_back a b e f (same_thread s) = same_thread s
conflicts_back a b e f (write_read x p q) = write_read x (was a e.what (Write x) refl refl (λ z. cc) p) (was b f.what (Read x) refl refl (λ z. cc) q)
conflicts_back a b e f (read_write x p q) = read_write x (was a e.what (Read x) refl refl (λ z. cc) p) (was b f.what (Write x) refl refl (λ z. cc) q)
conflicts_back a b e f (write_write x p q) = write_write x (was a e.what (Write x) refl refl (λ z. cc) p) (was b f.what (Write x) refl refl (λ z. cc) q)
conflicts_back a b e f (release_acquire l p q) = release_acquire l (was a e.what (Release l) refl refl (λ z. cc) p) (was b f.what (Acquire l) refl refl (λ z. cc) q)
conflicts_back a b e f (forks p) = forks (was a e.what (Fork f.thread) refl refl (λ z. cc) p)
conflicts_back a b e f (joined q) = joined (was b f.what (Join e.thread) refl refl (λ z. cc) q)

module _ (old new : List Numbered) (t from : ℕ) (is : IsUnblocked old new t from) (opened : IsOpenBlockAt old t from) where
  opening : AtOpening old t from
  opening = opening_at old t from opened.begins

  new_at : (i : ℕ) (e : Numbered) → slice_get old i ≡ Some e → slice_get new i ≡ Some (alone_at t from i e)
  new_at i e at = is i ∙ ap (option_map (alone_at t from i)) at

  -- where thread t is excused it begins and ends nothing, and all else is as it was
  test_same : (u i : ℕ) (test : What → Bool) → (u ≡ t → from ≤ i → ⊥) → by_thread u test (slice_get new i) ≡ by_thread u test (slice_get old i)
  test_same u i test other = ap (by_thread u test) (is i) ∙ go (slice_get old i)
    where
      go : (o : Option Numbered) → by_thread u test (option_map (alone_at t from i) o) ≡ by_thread u test o
      go None = refl
      go (Some e) = elim (cases_Bool (e.thread == u)) [
        | inr differ ↦ and_left (e.thread == u) (test (alone_at t from i e).what) differ ∙ sym (and_left (e.thread == u) (test e.what) differ)
        | inl same ↦
            let own : e.thread ≡ u = eqb-true e.thread u same in
            let free : is_excused t from i e ≡ false = elim (cases_Bool (is_excused t from i e)) [
              | inl so ↦ (let parts = and_parts (e.thread == t) (nat_le from i) so in absurd (other (sym own ∙ eqb-true e.thread t parts.0) (leb-true from i parts.1)))
              | inr not_so ↦ not_so
            ] in
            ap (λ b. (e.thread == u) && test (if b then deed_alone e.what else e.what)) free
      ]

  test_none : (i : ℕ) (test : What → Bool) → ((w : What) → test (deed_alone w) ≡ false) → from ≤ i → by_thread t test (slice_get new i) ≡ false
  test_none i test none l = ap (by_thread t test) (is i) ∙ go (slice_get old i)
    where
      go : (o : Option Numbered) → by_thread t test (option_map (alone_at t from i) o) ≡ false
      go None = refl
      go (Some e) = elim (cases_Bool (e.thread == t)) [
        | inr differ ↦ and_left (e.thread == t) (test (alone_at t from i e).what) differ
        | inl same ↦
            let so : is_excused t from i e ≡ true = and_from (e.thread == t) (nat_le from i) same (le-leb from i l) in
            and_right (e.thread == t) (test (alone_at t from i e).what) (ap (λ b. test (if b then deed_alone e.what else e.what)) so ∙ none e.what)
      ]

  depth_same_at : (u i : ℕ) → (u ≡ t → from < i → ⊥) → depth new u i ≡ depth old u i
  depth_same_at u zero other = refl
  depth_same_at u (suc i) other =
      let here = λ (e : u ≡ t) (l : from ≤ i). other e (omega (arith, l)) in
      let before = depth_same_at u i (λ e l. other e (omega (arith, l))) in
      ap (λ b. if b then depth new u i + 1 else if by_thread u is_end (slice_get new i) then depth new u i - 1 else depth new u i) (test_same u i is_begin here)
      ∙ ap (λ b. if by_thread u is_begin (slice_get old i) then depth new u i + 1 else if b then depth new u i - 1 else depth new u i) (test_same u i is_end here)
      ∙ ap (λ d. if by_thread u is_begin (slice_get old i) then d + 1 else if by_thread u is_end (slice_get old i) then d - 1 else d) before

  shallow : (i : ℕ) → from ≤ i → depth new t i ≡ 0
  shallow zero l = refl
  shallow (suc i) l = elim (cases_eq from (suc i)) [
    | inl e ↦ depth_same_at t (suc i) (λ _ later. omega (arith, later, e)) ∙ subst (λ n. depth old t n ≡ 0) e opening.before
    | inr d ↦
        let behind : from ≤ i = omega (arith, l, d) in
        cond-false (by_thread t is_begin (slice_get new i)) (depth new t i + 1) (if by_thread t is_end (slice_get new i) then depth new t i - 1 else depth new t i) (test_none i is_begin deed_no_begin behind)
        ∙ cond-false (by_thread t is_end (slice_get new i)) (depth new t i - 1) (depth new t i) (test_none i is_end deed_no_end behind)
        ∙ shallow i behind
  ]

  opens_same_at : (u i : ℕ) → (u ≡ t → from ≤ i → ⊥) → opens new u i ≡ opens old u i
  opens_same_at u i other = ap₂ (λ b d. b && (d == 0)) (test_same u i is_begin other) (depth_same_at u i (λ e l. other e (omega (arith, l))))

  blocks_same_at : (u i : ℕ) → (u ≡ t → from < i → ⊥) → blocks new u i ≡ blocks old u i
  blocks_same_at u zero other = refl
  blocks_same_at u (suc i) other =
      ap₂ (λ o k. if o then k + 1 else k) (opens_same_at u i (λ e l. other e (omega (arith, l)))) (blocks_same_at u i (λ e l. other e (omega (arith, l))))

  -- the number of the block
  abbrev K : ℕ
  K = blocks old t (suc from)

  blocks_old : (i : ℕ) → from < i → i ≤ length old → blocks old t i ≡ K
  blocks_old zero l within = absurd (omega (arith, l))
  blocks_old (suc i) l within = elim (cases_eq from i) [
    | inl e ↦ ap (λ n. blocks old t (suc n)) (sym e)
    | inr d ↦
        let behind : from < i = omega (arith, l, d) in
        let deep = opened.stays i behind (omega (arith, within)) in
        blocks_stay old t i (and_right (by_thread t is_begin (slice_get old i)) (depth old t i == 0) (ne_eqb (depth old t i) 0 (λ z. omega (arith, z, deep))))
        ∙ blocks_old i behind (omega (arith, within))
  ]

  -- an event of the block in the first trace
  in_it : (i : ℕ) (e : Numbered) → slice_get old i ≡ Some e → e.thread ≡ t → from ≤ i → transaction old i ≡ Block t K
  in_it i e at own l = elim (cases_eq from i) [
    | inl same ↦ subst (λ n. transaction old n ≡ Block t K) same (block_from old from t K (begin_in old t from opening))
    | inr d ↦
        let behind : from < i = omega (arith, l, d) in
        let within = slice_get_within old i e at in
        block_from old i t (blocks old t (suc i)) (deep_in old t i e at own (opened.stays i behind (omega (arith, within))))
        ∙ ap (Block t) (blocks_old (suc i) (omega (arith, behind)) (omega (arith, within)))
  ]

  -- it stands alone in the second one
  alone : (i : ℕ) (e : Numbered) → slice_get old i ≡ Some e → e.thread ≡ t → from ≤ i → transaction new i ≡ Unary i
  alone i e at own l =
      let so : is_excused t from i e ≡ true = and_from (e.thread == t) (nat_le from i) (eq-eqb e.thread t own) (le-leb from i l) in
      let f = alone_at t from i e in
      let no_begin : is_begin f.what ≡ false = ap (λ b. is_begin (if b then deed_alone e.what else e.what)) so ∙ deed_no_begin e.what in
      let flat : depth new e.thread i ≡ 0 = ap (λ u. depth new u i) own ∙ shallow i l in
      ap (of_event new i) (new_at i e at)
      ∙ ap₂ (λ b d. cond (b || nat_lt 0 d) (Block e.thread (blocks new e.thread (suc i))) (Unary i)) no_begin flat

  -- whether a place is in the block, or its transaction is the same in both
  placed : (i : ℕ) → i < length old → ((transaction old i ≡ Block t K) × (transaction new i ≡ Unary i)) ⊎ (transaction new i ≡ transaction old i)
  placed i l =
      let e = event_at old i l in
      elim (cases_eq e.0.thread t) [
        | inl own ↦ elim (cases_lt i from) [
          | inl before ↦ inr (outside i e.0 e.1 (λ _ behind. omega (arith, before, behind)))
          | inr behind ↦ inl (in_it i e.0 e.1 own behind, alone i e.0 e.1 own behind)
        ]
        | inr differ ↦ inr (outside i e.0 e.1 (λ same _. differ same))
      ]
    where
      outside : (i : ℕ) (e : Numbered) → slice_get old i ≡ Some e → (e.thread ≡ t → from ≤ i → ⊥) → transaction new i ≡ transaction old i
      outside i e at other =
          let free : is_excused t from i e ≡ false = elim (cases_Bool (is_excused t from i e)) [
            | inl so ↦ (let parts = and_parts (e.thread == t) (nat_le from i) so in absurd (other (eqb-true e.thread t parts.0) (leb-true from i parts.1)))
            | inr not_so ↦ not_so
          ] in
          ap (of_event new i) (new_at i e at)
          ∙ ap (λ b. cond (is_begin (if b then deed_alone e.what else e.what) || nat_lt 0 (depth new e.thread i)) (Block e.thread (blocks new e.thread (suc i))) (Unary i)) free
          ∙ ap₂ (λ d k. cond (is_begin e.what || nat_lt 0 d) (Block e.thread k) (Unary i)) (depth_same_at e.thread i (λ s l. other s (omega (arith, l)))) (blocks_same_at e.thread (suc i) (λ s l. other s (omega (arith, l))))
          ∙ sym (ap (of_event old i) at)

  conflict_on : (i j : ℕ) → Conflict old i j → Conflict new i j
  conflict_on i j c = record {
    earlier = c.earlier;
    first = alone_at t from i c.first;
    first_at = new_at i c.first c.first_at;
    second = alone_at t from j c.second;
    second_at = new_at j c.second c.second_at;
    conflict = conflicts_on (is_excused t from i c.first) (is_excused t from j c.second) c.first c.second c.conflict;
  }

  old_at : (i : ℕ) (f : Numbered) → slice_get new i ≡ Some f → (e : Numbered) × (slice_get old i ≡ Some e) × (f ≡ alone_at t from i e)
  old_at i f at = go (slice_get old i) refl (sym (is i) ∙ at)
    where
      go : (o : Option Numbered) → slice_get old i ≡ o → option_map (alone_at t from i) o ≡ Some f → (e : Numbered) × (slice_get old i ≡ Some e) × (f ≡ alone_at t from i e)
      go None here made = absurd (cc)
      go (Some e) here made = (e, here, sym (same_Some (alone_at t from i e) f made))

  conflict_back : (i j : ℕ) → Conflict new i j → Conflict old i j
  conflict_back i j c =
      let a = old_at i c.first c.first_at in
      let b = old_at j c.second c.second_at in
      record {
        earlier = c.earlier;
        first = a.0;
        first_at = a.1;
        second = b.0;
        second_at = b.1;
        conflict = conflicts_back (is_excused t from i a.0) (is_excused t from j b.0) a.0 b.0 (subst (λ x. Conflicts x (alone_at t from j b.0)) a.2 (subst (λ y. Conflicts c.first y) b.2 c.conflict));
      }

  -- the same ends
  closes_same_at : (u i : ℕ) → i < length old → closes new u i ≡ closes old u i
  closes_same_at u i l = elim (cases_eq u t) [
    | inr differ ↦ ap₂ (λ b d. b && (d == 1)) (test_same u i is_end (λ s _. differ s)) (depth_same_at u i (λ s _. differ s))
    | inl own ↦ elim (cases_lt i from) [
      | inl before ↦ ap₂ (λ b d. b && (d == 1)) (test_same u i is_end (λ _ b. omega (arith, before, b))) (depth_same_at u i (λ _ b. omega (arith, before, b)))
      | inr behind ↦ subst (λ v. closes new v i ≡ closes old v i) (sym own) (and_left (by_thread t is_end (slice_get new i)) (depth new t i == 1) (test_none i is_end deed_no_end behind) ∙ sym (none_closes i l behind))
    ]
  ]
    where
      none_closes : (i : ℕ) → i < length old → from ≤ i → closes old t i ≡ false
      none_closes i l behind = elim (cases_Bool (closes old t i)) [
        | inr not_so ↦ not_so
        | inl so ↦ (let c = closing_at old t i so in absurd (omega (arith, c.after, opened.stays (suc i) (omega (arith, behind)) (omega (arith, l)))))
      ]

  -- a block ends at a place that isn't of thread t behind its begin
  not_behind : (u i : ℕ) → i < length old → closes old u i ≡ true → u ≡ t → from ≤ i → ⊥
  not_behind u i l so own behind =
      let c = closing_at old t i (subst (λ v. closes old v i ≡ true) own so) in
      omega (arith, c.after, opened.stays (suc i) (omega (arith, behind)) (omega (arith, l)))

  module _ (n : ℕ) (within : n ≤ length old) where
    ended_on : (x : Transaction) → HasEnded old n x → HasEnded new n x
    ended_on (Unary p) e = e
    ended_on (Block u k) (p, l, so, number) =
        let inside : p < length old = omega (arith, l, within) in
        (p, l, closes_same_at u p inside ∙ so, blocks_same_at u p (λ own behind. not_behind u p inside so own (omega (arith, behind))) ∙ number)

    ended_back : (x : Transaction) → HasEnded new n x → HasEnded old n x
    ended_back (Unary p) e = e
    ended_back (Block u k) (p, l, so, number) =
        let inside : p < length old = omega (arith, l, within) in
        let was_so : closes old u p ≡ true = sym (closes_same_at u p inside) ∙ so in
        (p, l, was_so, sym (blocks_same_at u p (λ own behind. not_behind u p inside was_so own (omega (arith, behind)))) ∙ number)

    -- the block itself hasn't ended
    never_ended : HasEnded old n (Block t K) → ⊥
    never_ended (p, l, so, number) =
        let inside : p < length old = omega (arith, l, within) in
        elim (cases_lt p from) [
          | inr behind ↦ not_behind t p inside so refl behind
          | inl before ↦ (let o = opening.number in let rises = blocks_rise old t p from (omega (arith, before)) in omega (arith, o, rises, number))
        ]

    reach_on : (i j : ℕ) → Reach old n i j → Reach new n i j
    reach_on i _ (stay l) = stay l
    reach_on i _ (on j k r c l) = on j k (reach_on i j r) (conflict_on j k c) l
    reach_on i _ (back j k r e ended l) =
        let lj = reach_within old n i j r in
        elim (placed j (omega (arith, lj, within))) [
          | inl b ↦ absurd (never_ended (subst (HasEnded old n) b.0 ended))
          | inr same_j ↦ elim (placed k (omega (arith, l, within))) [
            | inl b ↦ absurd (never_ended (subst (HasEnded old n) (e ∙ b.0) ended))
            | inr same_k ↦ back j k (reach_on i j r) (same_j ∙ e ∙ sym same_k) (subst (HasEnded new n) (sym same_j) (ended_on (transaction old j) ended)) l
          ]
        ]

    reach_back : (i j : ℕ) → Reach new n i j → Reach old n i j
    reach_back i _ (stay l) = stay l
    reach_back i _ (on j k r c l) = on j k (reach_back i j r) (conflict_back j k c) l
    reach_back i _ (back j k r e ended l) =
        let lj = reach_within new n i j r in
        elim (placed j (omega (arith, lj, within))) [
          | inl b ↦ (let here : j ≡ k = in_unary new k j (sym e ∙ b.1) in subst (Reach old n i) here (reach_back i j r))
          | inr same_j ↦ elim (placed k (omega (arith, l, within))) [
            | inl b ↦ (let here : k ≡ j = in_unary new j k (e ∙ b.1) in subst (Reach old n i) (sym here) (reach_back i j r))
            | inr same_k ↦ back j k (reach_back i j r) (sym same_j ∙ e ∙ same_k) (subst (HasEnded old n) same_j (ended_back (transaction new j) ended)) l
          ]
        ]

    -- the latest block of another thread
    module _ (u : ℕ) (differ : u ≢ t) where
      block_on : (k i : ℕ) → i < n → transaction old i ≡ Block u k → transaction new i ≡ Block u k
      block_on k i l e = elim (placed i (omega (arith, l, within))) [
        | inl b ↦ (let same : Block u k ≡ Block t K = sym e ∙ b.0 in let threads : u ≡ t = cc in absurd (differ threads))
        | inr same ↦ same ∙ e
      ]

      block_back : (k i : ℕ) → i < n → transaction new i ≡ Block u k → transaction old i ≡ Block u k
      block_back k i l e = elim (placed i (omega (arith, l, within))) [
        | inl b ↦ (let same : Unary i ≡ Block u k = sym b.1 ∙ e in absurd (cc))
        | inr same ↦ sym same ∙ e
      ]

      leads_on : (k j : ℕ) → LeadsTo old n (Block u k) j → LeadsTo new n (Block u k) j
      leads_on k j w =
          let r = reaches_from_leads old n (Block u k) j w in
          leads_from_reaches new n (Block u k) j (record { from = r.from; inside = block_on k r.from (reach_from_within old n r.from j r.reach) r.inside; reach = reach_on r.from j r.reach })

      leads_back : (k j : ℕ) → LeadsTo new n (Block u k) j → LeadsTo old n (Block u k) j
      leads_back k j w =
          let r = reaches_from_leads new n (Block u k) j w in
          leads_from_reaches old n (Block u k) j (record { from = r.from; inside = block_back k r.from (reach_from_within new n r.from j r.reach) r.inside; reach = reach_back r.from j r.reach })

      pub leads_same_as : (j : ℕ) → (LeadsTo old n (Block u (blocks old u n)) j → LeadsTo new n (Block u (blocks new u n)) j) × (LeadsTo new n (Block u (blocks new u n)) j → LeadsTo old n (Block u (blocks old u n)) j)
      leads_same_as j =
          let number : blocks new u n ≡ blocks old u n = blocks_same_at u n (λ s _. differ s) in (
            λ w. subst (λ k. LeadsTo new n (Block u k) j) (sym number) (leads_on (blocks old u n) j w),
            λ w. leads_back (blocks old u n) j (subst (λ k. LeadsTo new n (Block u k) j) number w),
          )

    -- what goes back in time goes through a transaction that has ended
    goes_forward : (i j : ℕ) → Reach old n i j → (i ≤ j) ⊎ ((r : ℕ) × (transaction old r ≢ Block t K) × Reach old n i r × Reach old n r j)
    goes_forward i _ (stay l) = inl (omega arith)
    goes_forward i _ (on j k r c l) = elim (goes_forward i j r) [
      | inl le ↦ inl (let before = c.earlier in omega (arith, le, before))
      | inr m ↦ inr (m.0, m.1, m.2, on j k m.3 c l)
    ]
    goes_forward i _ (back j k r e ended l) =
        inr (j, (λ of. never_ended (subst (HasEnded old n) of ended)), r, back j k (stay (reach_within old n i j r)) e ended l)

    -- two places of the block that reach each other only through others
    both_reach : ¬ HasTellingCycle old n → (i j : ℕ) → i < j → transaction old i ≡ Block t K → transaction old j ≡ Block t K → Reach old n j i → ⊥
    both_reach none i j l in_i in_j r = elim (goes_forward j i r) [
      | inl le ↦ omega (arith, le, l)
      | inr m ↦ none_returns old n none (Block t K) (record { from = j; outside = m.0; to = i; from_in = in_j; outside_in = m.1; to_in = in_i; out = m.2; home = m.3 })
    ]

    -- no transaction of the second trace is the block
    never_it : (i : ℕ) → i < n → transaction new i ≡ Block t K → ⊥
    never_it i l e = elim (placed i (omega (arith, l, within))) [
      | inl b ↦ (let same : Unary i ≡ Block t K = sym b.1 ∙ e in cc)
      | inr same ↦
          let h = in_block new i t K e in
          let a = old_at i h.event h.event_at in
          let own : a.0.thread ≡ t = sym (ap (λ (x : Numbered). x.thread) a.2) ∙ h.thread in
          elim (cases_lt i from) [
            | inr behind ↦ (let stands : Unary i ≡ Block t K = sym (alone i a.0 a.1 own behind) ∙ e in cc)
            | inl before ↦
                (let number : blocks old t (suc i) ≡ K = sym (blocks_same_at t (suc i) (λ _ later. omega (arith, before, later))) ∙ h.number in
                let rises = blocks_rise old t (suc i) from (omega (arith, before)) in
                let o = opening.number in omega (arith, number, rises, o))
          ]
    ]

    returns_none : ¬ HasTellingCycle old n → (x : Transaction) → Returns new n x → ⊥
    returns_none none x r =
        let lf = reach_from_within new n r.from r.outside r.out in
        let lo = reach_within new n r.from r.outside r.out in
        let lt = reach_within new n r.outside r.to r.home in
        let out = reach_back r.from r.outside r.out in
        let home = reach_back r.outside r.to r.home in
        elim (placed r.from (omega (arith, lf, within))) [
          | inl b ↦ own_event (r.from) b.0 (in_unary new r.to r.from (r.to_in ∙ sym r.from_in ∙ b.1)) lo out home
          | inr same_f ↦ elim (placed r.to (omega (arith, lt, within))) [
            | inl b ↦ own_event r.to b.0 refl lo (subst (λ p. Reach old n p r.outside) (sym (in_unary new r.from r.to (r.from_in ∙ sym r.to_in ∙ b.1))) out) home
            | inr same_t ↦ none_returns old n none x (record {
              from = r.from;
              outside = r.outside;
              to = r.to;
              from_in = sym same_f ∙ r.from_in;
              outside_in = λ of. apart of (placed r.outside (omega (arith, lo, within)));
              to_in = sym same_t ∙ r.to_in;
              out = out;
              home = home;
            })
          ]
        ]
      where
        apart : transaction old r.outside ≡ x → ((transaction old r.outside ≡ Block t K) × (transaction new r.outside ≡ Unary r.outside)) ⊎ (transaction new r.outside ≡ transaction old r.outside) → ⊥
        apart of (inr same) = r.outside_in (same ∙ of)
        apart of (inl b) = never_it r.from (reach_from_within new n r.from r.outside r.out) (r.from_in ∙ sym of ∙ b.0)

        own_event : (p : ℕ) → transaction old p ≡ Block t K → p ≡ r.to → r.outside < n → Reach old n p r.outside → Reach old n r.outside r.to → ⊥
        own_event p in_p same lo out home = elim (cases_transaction (transaction old r.outside) (Block t K)) [
          | inr differ ↦ none_returns old n none (Block t K) (record { from = p; outside = r.outside; to = r.to; from_in = in_p; outside_in = differ; to_in = subst (λ q. transaction old q ≡ Block t K) same in_p; out = out; home = home })
          | inl in_o ↦ elim (cases_lt p r.outside) [
            | inl before ↦ both_reach none p r.outside before in_p in_o (subst (Reach old n r.outside) (sym same) home)
            | inr le ↦ elim (cases_eq p r.outside) [
              | inl e ↦ r.outside_in (subst (λ q. transaction new q ≡ x) (sym same ∙ e) r.to_in)
              | inr d ↦ both_reach none r.outside p (omega (arith, le, d)) in_o in_p out
            ]
          ]
        ]

    pub stays_clean : ¬ HasTellingCycle old n → ¬ HasTellingCycle new n
    stays_clean none c = returns_none none (transaction new (c.0).enters) (returns_from_begins new n (transaction new (c.0).enters) (begins_from_telling new n c))
