-- Where transactions are left out, each kept event's thread is as deep as it was, and opens and closes its blocks as it did.
use Rattle.std.proofs.Common.{◌≡◌, ◌≢◌, ◌⊎◌, ℕ, zero, suc, ◌+◌, ◌-◌, ◌<◌, ◌≤◌, ◌==◌, ◌&&◌, Bool, true, false, if◌then◌else◌, List, length, Some, inl, inr, refl, sym, ◌∙◌, ap, ap₂, subst, arith}
use Rattle.std.specs.Prelude.{slice_get, get_or}
use Rattle.std.proofs.lemmas.Bool.{cases_Bool, cases_eq, cases_lt, cases_order, and_parts, and_left}
use Rattle.std.proofs.lemmas.Option.{same_Some, slice_get-get_or, slice_get_within}
use Rattle.aero_model.specs.declared.numbered.Numbered.{Numbered}
use Rattle.aero_model.specs.declared.numbered.What.{What}
use Rattle.aero_model.specs.Blocks.{is_begin, is_end, by_thread, depth, opens, closes, blocks, Block, transaction}
use Rattle.aero_model.proofs.Places.{block_from}
use Rattle.aero_model.proofs.Depths.{AtOpening, AtClosing, AtOther, step, depth_neither, blocks_stay}
use Rattle.aero_model.proofs.Ends.{is_by, in_cases, begin_in, deep_in}
use Rattle.aero_witness.specs.Thinned.{IsAmong, IsThinned}

-- the first i places are those below n
pub record IsCut (places : List ℕ) (n i : ℕ) : Type 0 where
  pub below : (j p : ℕ) → slice_get places j ≡ Some p → j < i → p < n
  pub above : (j p : ℕ) → slice_get places j ≡ Some p → i ≤ j → n ≤ p
  pub within : i ≤ length places

pub place_at : (places : List ℕ) (i : ℕ) → i < length places → (p : ℕ) × (slice_get places i ≡ Some p)
place_at places i l = (get_or places i 0, slice_get-get_or places i 0 l)

module _ (trace kept : List Numbered) (places : List ℕ) (thin : IsThinned trace kept places) where
  -- place n has an event of the thread that passes the test
  by_within : (n t : ℕ) (test : What → Bool) → by_thread t test (slice_get trace n) ≡ true → n < length trace
  by_within n t test h = let b = is_by t test (slice_get trace n) h in slice_get_within trace n b.event b.at

  pub one_index : (i j p q : ℕ) → slice_get places i ≡ Some p → slice_get places j ≡ Some q → p ≡ q → i ≡ j
  one_index i j p q a b e = elim (cases_order i j) [
    | inl same ↦ same
    | inr (inl l) ↦ absurd (omega (arith, thin.rise i j p q l a b))
    | inr (inr l) ↦ absurd (omega (arith, thin.rise j i q p l b a))
  ]

  pub one_place : (i j p q : ℕ) → slice_get places i ≡ Some p → slice_get places j ≡ Some q → i ≡ j → p ≡ q
  one_place i j p q a b e = same_Some p q (sym a ∙ ap (slice_get places) e ∙ b)

  pub earlier_index : (i j p q : ℕ) → slice_get places i ≡ Some p → slice_get places j ≡ Some q → p < q → i < j
  earlier_index i j p q a b l = elim (cases_order i j) [
    | inl same ↦ absurd (omega (arith, one_place i j p q a b same))
    | inr (inl less) ↦ less
    | inr (inr more) ↦ absurd (omega (arith, thin.rise j i q p more b a))
  ]

  pub later_place : (i j p q : ℕ) → slice_get places i ≡ Some p → slice_get places j ≡ Some q → i ≤ j → p ≤ q
  later_place i j p q a b le = elim (cases_eq i j) [
    | inl same ↦ omega (arith, one_place i j p q a b same)
    | inr other ↦ omega (arith, thin.rise i j p q (omega arith) a b)
  ]

  -- the places below a kept one
  pub cut_at : (i p : ℕ) → slice_get places i ≡ Some p → IsCut places p i
  cut_at i p a = record { below = λ j q b l. thin.rise j i q p l b a; above = λ j q b le. later_place i j p q a b le; within = (let l = slice_get_within places i p a in omega arith) }

  -- place n isn't kept, or is the last one below the next
  cut_step : (n i : ℕ) → IsCut places (suc n) i → (IsCut places n i × (IsAmong places n → ⊥)) ⊎ ((j : ℕ) × (i ≡ suc j) × IsCut places n j × (slice_get places j ≡ Some n))
  cut_step n zero c =
      inl (record { below = λ j p a l. absurd (omega arith); above = λ j p a l. omega (arith, c.above j p a l); within = c.within }, λ (j, a). omega (arith, c.above j n a (omega arith)))
  cut_step n (suc j) c = elim (cases_eq q n) [ inl e ↦ inr (j, refl, subst (λ m. IsCut places m j) e (cut_at j q at), at ∙ ap Some e) | inr d ↦ inl (before d, not_there d) ]
    where
      some : (q : ℕ) × (slice_get places j ≡ Some q)
      some = place_at places j (let w = c.within in omega arith)

      q : ℕ
      q = some.0

      at : slice_get places j ≡ Some q
      at = some.1

      less : q < suc n
      less = c.below j q at (omega arith)

      before : (q ≡ n → ⊥) → IsCut places n (suc j)
      before d = record {
        below = λ k p b l. (let under = less in let le = later_place k j p q b at (omega arith) in omega arith);
        above = λ k p b le. omega (arith, c.above k p b le);
        within = c.within;
      }

      not_there : (q ≡ n → ⊥) → IsAmong places n → ⊥
      not_there d (k, b) = elim (cases_lt k (suc j)) [
        | inl l ↦ d (omega (arith, less, later_place k j n q b at (omega arith)))
        | inr le ↦ omega (arith, c.above k n b le)
      ]

  -- how deep the thread is where i events of the first n are kept
  pub data IsDeep (t n i : ℕ) : Type 0 where
    outside : depth trace t n ≡ 0 → depth kept t i ≡ 0 → IsDeep t n i
    in_kept : (p : ℕ) → 0 < depth trace t n → depth kept t i ≡ depth trace t n → IsAmong places p → transaction trace p ≡ Block t (blocks trace t n) → IsDeep t n i
    in_left : 0 < depth trace t n → depth kept t i ≡ 0 → ((p : ℕ) → IsAmong places p → transaction trace p ≢ Block t (blocks trace t n)) → IsDeep t n i

  -- an event of a thread in a block is in that block
  pub inside_open : (t n : ℕ) (a : Numbered) → 0 < depth trace t n → slice_get trace n ≡ Some a → a.thread ≡ t → transaction trace n ≡ Block t (blocks trace t n)
  inside_open t n a d at e =
      let b = deep_in trace t n a at e d in
      let number : blocks trace t (suc n) ≡ blocks trace t n =
      elim (in_cases trace t n (blocks trace t (suc n)) b) [ inl o ↦ absurd (omega (arith, o.before)) | inr c ↦ sym c.1 ] in
      block_from trace n t (blocks trace t (suc n)) b ∙ ap (Block t) number

  by_inside : (t n : ℕ) (test : What → Bool) → 0 < depth trace t n → by_thread t test (slice_get trace n) ≡ true → transaction trace n ≡ Block t (blocks trace t n)
  by_inside t n test d h = let b = is_by t test (slice_get trace n) h in inside_open t n b.event d b.at b.thread

  begun_inside : (t n : ℕ) → AtOpening trace t n → transaction trace n ≡ Block t (blocks trace t (suc n))
  begun_inside t n s = block_from trace n t (blocks trace t (suc n)) (begin_in trace t n s)

  -- an event that is no begin and no end of the thread
  carried : (t n m i k : ℕ) → depth trace t m ≡ depth trace t n → blocks trace t m ≡ blocks trace t n → depth kept t k ≡ depth kept t i → IsDeep t n i → IsDeep t m k
  carried t n m i k d b e (outside z y) = outside (d ∙ z) (e ∙ y)
  carried t n m i k d b e (in_kept p l y among x) = in_kept p (omega arith) (e ∙ y ∙ sym d) among (x ∙ ap (Block t) (sym b))
  carried t n m i k d b e (in_left l y none) = in_left (omega arith) (e ∙ y) (λ p among x. none p among (x ∙ ap (Block t) b))

  quiet_blocks : (t n : ℕ) → by_thread t is_begin (slice_get trace n) ≡ false → blocks trace t (suc n) ≡ blocks trace t n
  quiet_blocks t n b = blocks_stay trace t n (and_left (by_thread t is_begin (slice_get trace n)) (depth trace t n == 0) b)

  -- with a place that is kept
  module _ (t n j : ℕ) (at : slice_get places j ≡ Some n) where
    same_event : slice_get kept j ≡ slice_get trace n
    same_event = thin.event j n at

    depth_next : depth kept t j ≡ depth trace t n → depth kept t (suc j) ≡ depth trace t (suc n)
    depth_next e = ap₂ (λ a d. if by_thread t is_begin a then d + 1 else if by_thread t is_end a then d - 1 else d) same_event e

    taken : IsDeep t n j → IsDeep t (suc n) (suc j)
    taken (outside z y) = go (step trace t n)
      where
        next : depth kept t (suc j) ≡ depth trace t (suc n)
        next = depth_next (y ∙ sym z)

        go : AtOpening trace t n ⊎ (AtClosing trace t n ⊎ AtOther trace t n) → IsDeep t (suc n) (suc j)
        go (inl s) = in_kept n (let after = s.after in omega arith) next (j, at) (begun_inside t n s)
        go (inr (inl s)) = absurd (omega (arith, s.before))
        go (inr (inr s)) = outside (s.outside z) (next ∙ s.outside z)
    taken (in_kept p l y among x) = go (step trace t n)
      where
        next : depth kept t (suc j) ≡ depth trace t (suc n)
        next = depth_next y

        go : AtOpening trace t n ⊎ (AtClosing trace t n ⊎ AtOther trace t n) → IsDeep t (suc n) (suc j)
        go (inl s) = absurd (omega (arith, s.before))
        go (inr (inl s)) = outside s.after (next ∙ s.after)
        go (inr (inr s)) = in_kept p (s.inside l) next among (x ∙ ap (Block t) (sym s.number))
    taken (in_left l y none) = go (cases_Bool (by_thread t is_begin (slice_get trace n))) (cases_Bool (by_thread t is_end (slice_get trace n)))
      where
        noisy : (test : What → Bool) → by_thread t test (slice_get trace n) ≡ true → IsDeep t (suc n) (suc j)
        noisy test h = absurd (none n (j, at) (by_inside t n test l h))

        go : (by_thread t is_begin (slice_get trace n) ≡ true) ⊎ (by_thread t is_begin (slice_get trace n) ≡ false) → (by_thread t is_end (slice_get trace n) ≡ true) ⊎ (by_thread t is_end (slice_get trace n) ≡ false) → IsDeep t (suc n) (suc j)
        go (inl b) _ = noisy is_begin b
        go (inr b) (inl e) = noisy is_end e
        go (inr b) (inr e) =
            carried t n (suc n) j (suc j) (depth_neither trace t n b e) (quiet_blocks t n b)
            (depth_neither kept t j (ap (by_thread t is_begin) same_event ∙ b) (ap (by_thread t is_end) same_event ∙ e))
            (in_left l y none)

  -- with one that is left out
  module _ (t n i : ℕ) (left : IsAmong places n → ⊥) where
    -- so the others of its transaction are
    all_left : (p : ℕ) → n < length trace → IsAmong places p → transaction trace p ≢ transaction trace n
    all_left p l among e = left (thin.whole p n among l e)

    passed : IsDeep t n i → IsDeep t (suc n) i
    passed (outside z y) = go (step trace t n)
      where
        go : AtOpening trace t n ⊎ (AtClosing trace t n ⊎ AtOther trace t n) → IsDeep t (suc n) i
        go (inl s) =
            in_left (let after = s.after in omega arith) y
            (λ p among x. all_left p (by_within n t is_begin (and_parts (by_thread t is_begin (slice_get trace n)) (depth trace t n == 0) s.opens).0) among (x ∙ sym (begun_inside t n s)))
        go (inr (inl s)) = absurd (omega (arith, s.before))
        go (inr (inr s)) = outside (s.outside z) y
    passed (in_kept p l y among x) = go (cases_Bool (by_thread t is_begin (slice_get trace n))) (cases_Bool (by_thread t is_end (slice_get trace n)))
      where
        noisy : (test : What → Bool) → by_thread t test (slice_get trace n) ≡ true → IsDeep t (suc n) i
        noisy test h = absurd (all_left p (by_within n t test h) among (x ∙ sym (by_inside t n test l h)))

        go : (by_thread t is_begin (slice_get trace n) ≡ true) ⊎ (by_thread t is_begin (slice_get trace n) ≡ false) → (by_thread t is_end (slice_get trace n) ≡ true) ⊎ (by_thread t is_end (slice_get trace n) ≡ false) → IsDeep t (suc n) i
        go (inl b) _ = noisy is_begin b
        go (inr b) (inl e) = noisy is_end e
        go (inr b) (inr e) = carried t n (suc n) i i (depth_neither trace t n b e) (quiet_blocks t n b) refl (in_kept p l y among x)
    passed (in_left l y none) = go (step trace t n)
      where
        go : AtOpening trace t n ⊎ (AtClosing trace t n ⊎ AtOther trace t n) → IsDeep t (suc n) i
        go (inl s) = absurd (omega (arith, s.before))
        go (inr (inl s)) = outside s.after y
        go (inr (inr s)) = in_left (s.inside l) y (λ p among x. none p among (x ∙ ap (Block t) s.number))

  pub deep : (t n i : ℕ) → IsCut places n i → IsDeep t n i
  deep t zero zero c = outside refl refl
  deep t zero (suc i) c = absurd (let some = place_at places i (let w = c.within in omega arith) in omega (arith, c.below i some.0 some.1 (omega arith)))
  deep t (suc n) i c = elim (cut_step n i c) [
    | inl (cut, left) ↦ passed t n i left (deep t n i cut)
    | inr (j, e, cut, at) ↦ subst (IsDeep t (suc n)) (sym e) (taken t n j at (deep t n j cut))
  ]

  -- a kept event's thread is as deep as it was
  module _ (i p : ℕ) (at : slice_get places i ≡ Some p) where
    pub depth_kept : (t : ℕ) (a : Numbered) → slice_get trace p ≡ Some a → a.thread ≡ t → depth kept t i ≡ depth trace t p
    depth_kept t a here e = go (deep t p i (cut_at i p at))
      where
        go : IsDeep t p i → depth kept t i ≡ depth trace t p
        go (outside z y) = y ∙ sym z
        go (in_kept q l y among x) = y
        go (in_left l y none) = absurd (none p (i, at) (inside_open t p a l here e))

    pub opens_kept : (t : ℕ) → opens kept t i ≡ opens trace t p
    opens_kept t = elim (cases_Bool (by_thread t is_begin (slice_get trace p))) [
      | inl b ↦ (let h = is_by t is_begin (slice_get trace p) b in ap₂ (λ a d. by_thread t is_begin a && (d == 0)) (thin.event i p at) (depth_kept t h.event h.at h.thread))
      | inr b ↦
          and_left (by_thread t is_begin (slice_get kept i)) (depth kept t i == 0) (ap (by_thread t is_begin) (thin.event i p at) ∙ b)
          ∙ sym (and_left (by_thread t is_begin (slice_get trace p)) (depth trace t p == 0) b)
    ]

    pub closes_kept : (t : ℕ) → closes kept t i ≡ closes trace t p
    closes_kept t = elim (cases_Bool (by_thread t is_end (slice_get trace p))) [
      | inl b ↦ (let h = is_by t is_end (slice_get trace p) b in ap₂ (λ a d. by_thread t is_end a && (d == 1)) (thin.event i p at) (depth_kept t h.event h.at h.thread))
      | inr b ↦
          and_left (by_thread t is_end (slice_get kept i)) (depth kept t i == 1) (ap (by_thread t is_end) (thin.event i p at) ∙ b)
          ∙ sym (and_left (by_thread t is_end (slice_get trace p)) (depth trace t p == 1) b)
    ]
