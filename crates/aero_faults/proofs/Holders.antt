-- Who holds a lock, with one event more.
use Rattle.std.proofs.Common.{◌≡◌, ◌≢◌, ◌⊎◌, ℕ, ◌+◌, ◌-◌, ◌<◌, ◌≤◌, ◌&&◌, true, false, cond, List, [], ◌∷◌, ◌++◌, length, take, inl, inr, refl, sym, ◌∙◌, ap, subst, arith, append_assoc}
use Rattle.std.specs.Prelude.{bytes_eq, nat_le}
use Rattle.std.proofs.lemmas.Bool.{cases_Bool, and_left, and_right, and_from, and_parts, both_ways, leb-true, leb-false}
use Rattle.std.proofs.lemmas.List.{take_all}
use Rattle.aero_model.specs.declared.event.Op.{Op}
use Rattle.aero_model.specs.declared.event.Op.TheVariants.{Acquire, Release}
use Rattle.aero_model.specs.Named.{Named}
use Rattle.aero_faults.specs.Before.{is_acquire, is_release, is_acquire_of, is_release_of, is_target, is_by, acquires, releases, held}
use Rattle.aero_faults.specs.Holders.{Holds, IsFree, HoldsAlone, Clashes, HasClash, IsHolder}
use Rattle.aero_faults.specs.Holding.{acquired_by, released_by}
use Rattle.aero_faults.specs.declared.holder.Holder.{Holder}
use Rattle.aero_faults.specs.declared.holder.Holder.TheVariants.{Nobody, Thread, Unclear}
use Rattle.aero_faults.specs.declared.holder.Holding.{Holding}
use Rattle.aero_faults.proofs.Counts.{count_no, count_yes, same_bytes, are_same, other_bytes, front_of_more}

no_release : (op : Op) → is_acquire op ≡ true → is_release op ≡ false
no_release Acquire is = refl
no_release Release is = absurd (cc)
no_release _ is = refl

take_none : (k : ℕ) (xs : List (ℕ × Named)) → xs ≡ [] → take k xs ≡ []
take_none k xs is = take_all k xs (let empty = ap length is in omega (arith, empty)) ∙ is

-- a clash stays one
clash_stays : (before : List (ℕ × Named)) (l : List ℕ) (x : ℕ × Named) → HasClash before l → HasClash (before ++ x ∷ []) l
clash_stays before l x c = record {
  front = c.front;
  event = c.event;
  back = c.back ++ x ∷ [];
  is = ap (λ b. b ++ x ∷ []) c.is ∙ append_assoc c.front (c.event ∷ c.back) (x ∷ []);
  clashes = c.clashes;
}

-- the event itself clashes
clash_now : (before : List (ℕ × Named)) (l : List ℕ) (x : ℕ × Named) → Clashes before l x.1 → HasClash (before ++ x ∷ []) l
clash_now before l x c = record { front = before; event = x; back = []; is = refl; clashes = c }

-- who holds the lock still holds it
still_holds : (before : List (ℕ × Named)) (t l : List ℕ) (line : ℕ) (x : ℕ × Named) → Holds before t l line → 0 < held (before ++ x ∷ []) t l → Holds (before ++ x ∷ []) t l line
still_holds before t l line x h more =
    let whole : before ++ x ∷ [] ≡ h.front ++ (line, h.acquire) ∷ (h.back ++ x ∷ []) = ap (λ b. b ++ x ∷ []) h.is ∙ append_assoc h.front ((line, h.acquire) ∷ h.back) (x ∷ []) in
    record {
      front = h.front;
      acquire = h.acquire;
      back = h.back ++ x ∷ [];
      is = whole;
      by = h.by;
      acquired = h.acquired;
      free = h.free;
      since = front_of_more (λ b. 0 < held (h.front ++ (line, h.acquire) ∷ b) t l) h.back x h.since (subst (λ b. 0 < held b t l) whole more);
    }

module _ (before : List (ℕ × Named)) (l : List ℕ) (line : ℕ) (e : Named) where
  -- an event that has nothing to do with the lock
  module _ (acquire : is_acquire_of l e ≡ false) (release : is_release_of l e ≡ false) where
    no_acquire : (t : List ℕ) → acquires (before ++ (line, e) ∷ []) t l ≡ acquires before t l
    no_acquire t = count_no (λ f. is_by t f.1 && is_acquire_of l f.1) before (line, e) (and_right (is_by t e) (is_acquire_of l e) acquire)

    not_released : (t : List ℕ) → releases (before ++ (line, e) ∷ []) t l ≡ releases before t l
    not_released t = count_no (λ f. is_by t f.1 && is_release_of l f.1) before (line, e) (and_right (is_by t e) (is_release_of l e) release)

    pub as_before : (holder : Holder) → IsHolder l before holder → IsHolder l (before ++ (line, e) ∷ []) holder
    as_before Nobody free = λ t. no_acquire t ∙ free t ∙ sym (not_released t)
    as_before (Thread h) alone =
        let a = no_acquire h.thread in
        let r = not_released h.thread in
        let depth = alone.depth in
        let some = alone.some in
        record {
          holds = still_holds before h.thread l h.line (line, e) alone.holds (omega arith);
          depth = omega arith;
          some = some;
          others = λ t other. no_acquire t ∙ alone.others t other ∙ sym (not_released t);
        }
    as_before Unclear clash = clash_stays before l (line, e) clash

  -- an acquire of the lock
  module _ (acquire : is_acquire_of l e ≡ true) where
    release : is_release_of l e ≡ false
    release = and_left (is_release e.op) (is_target l e.target) (no_release e.op (and_parts (is_acquire e.op) (is_target l e.target) acquire).0)

    same_releases : (t : List ℕ) → releases (before ++ (line, e) ∷ []) t l ≡ releases before t l
    same_releases t = count_no (λ f. is_by t f.1 && is_release_of l f.1) before (line, e) (and_right (is_by t e) (is_release_of l e) release)

    others_acquire : (t : List ℕ) → t ≢ e.thread → acquires (before ++ (line, e) ∷ []) t l ≡ acquires before t l
    others_acquire t other =
        count_no (λ f. is_by t f.1 && is_acquire_of l f.1) before (line, e)
        (and_left (is_by t e) (is_acquire_of l e) (other_bytes e.thread t (λ is. other (sym is))))

    one_more : (t : List ℕ) → e.thread ≡ t → acquires (before ++ (line, e) ∷ []) t l ≡ acquires before t l + 1
    one_more t is =
        count_yes (λ f. is_by t f.1 && is_acquire_of l f.1) before (line, e)
        (and_from (is_by t e) (is_acquire_of l e) (same_bytes e.thread t is) acquire)

    first : IsFree before l → HoldsAlone (before ++ (line, e) ∷ []) l (record { thread = e.thread; line = line; depth = 1 })
    first free =
        let a = one_more e.thread refl in
        let r = same_releases e.thread in
        let none = free e.thread in
        record {
          holds = record {
            front = before;
            acquire = e;
            back = [];
            is = refl;
            by = same_bytes e.thread e.thread refl;
            acquired = acquire;
            free = omega arith;
            since = λ k. since k;
          };
          depth = omega arith;
          some = omega arith;
          others = λ t other. others_acquire t other ∙ free t ∙ sym (same_releases t);
        }
      where
        since : (k : ℕ) → 0 < held (before ++ (line, e) ∷ take k []) e.thread l
        since k =
            let a = one_more e.thread refl in
            let r = same_releases e.thread in
            let none = free e.thread in
            subst (λ (b : List (ℕ × Named)). 0 < held (before ++ (line, e) ∷ b) e.thread l) (sym (take_none k [] refl)) (omega arith)

    again : (h : Holding) → h.thread ≡ e.thread → HoldsAlone before l h → HoldsAlone (before ++ (line, e) ∷ []) l (record h { depth = h.depth + 1 })
    again h same alone =
        let a = one_more h.thread (sym same) in
        let r = same_releases h.thread in
        let depth = alone.depth in
        record {
          holds = still_holds before h.thread l h.line (line, e) alone.holds (omega arith);
          depth = omega arith;
          some = omega arith;
          others = λ t other. others_acquire t (λ is. other (is ∙ sym same)) ∙ alone.others t other ∙ sym (same_releases t);
        }

    held_by_other : (h : Holding) → h.thread ≢ e.thread → HoldsAlone before l h → HasClash (before ++ (line, e) ∷ []) l
    held_by_other h other alone =
        let depth = alone.depth in
        let some = alone.some in
        clash_now before l (line, e) (inl (acquire, h.thread, other, omega arith))

    pub after_acquire : (holder : Holder) → IsHolder l before holder → IsHolder l (before ++ (line, e) ∷ []) (acquired_by holder line e.thread)
    after_acquire Nobody free = first free
    after_acquire (Thread h) alone = elim (cases_Bool (bytes_eq h.thread e.thread)) [
      | inl same ↦ subst (λ b. IsHolder l (before ++ (line, e) ∷ []) (cond b (Thread (record h { depth = h.depth + 1 })) Unclear)) (sym same) (again h (are_same h.thread e.thread same) alone)
      | inr other ↦ subst (λ b. IsHolder l (before ++ (line, e) ∷ []) (cond b (Thread (record h { depth = h.depth + 1 })) Unclear)) (sym other)
          (held_by_other h (λ is. both_ways (bytes_eq h.thread e.thread) other (same_bytes h.thread e.thread is)) alone)
    ]
    after_acquire Unclear clash = clash_stays before l (line, e) clash

  -- a release of the lock
  module _ (acquire : is_acquire_of l e ≡ false) (release : is_release_of l e ≡ true) where
    same_acquires : (t : List ℕ) → acquires (before ++ (line, e) ∷ []) t l ≡ acquires before t l
    same_acquires t = count_no (λ f. is_by t f.1 && is_acquire_of l f.1) before (line, e) (and_right (is_by t e) (is_acquire_of l e) acquire)

    others_release : (t : List ℕ) → t ≢ e.thread → releases (before ++ (line, e) ∷ []) t l ≡ releases before t l
    others_release t other =
        count_no (λ f. is_by t f.1 && is_release_of l f.1) before (line, e)
        (and_left (is_by t e) (is_release_of l e) (other_bytes e.thread t (λ is. other (sym is))))

    one_less : (t : List ℕ) → e.thread ≡ t → releases (before ++ (line, e) ∷ []) t l ≡ releases before t l + 1
    one_less t is =
        count_yes (λ f. is_by t f.1 && is_release_of l f.1) before (line, e)
        (and_from (is_by t e) (is_release_of l e) (same_bytes e.thread t is) release)

    not_held : held before e.thread l ≡ 0 → HasClash (before ++ (line, e) ∷ []) l
    not_held none = clash_now before l (line, e) (inr (release, none))

    last : (h : Holding) → h.thread ≡ e.thread → h.depth ≤ 1 → HoldsAlone before l h → IsFree (before ++ (line, e) ∷ []) l
    last h same one alone t = elim (cases_Bool (bytes_eq t e.thread)) [
      | inl is ↦ (
          let its = are_same t e.thread is in
          let a = same_acquires t in
          let r = one_less t (sym its) in
          let depth : acquires before t l ≡ releases before t l + h.depth = subst (λ u. acquires before u l ≡ releases before u l + h.depth) (same ∙ sym its) alone.depth in
          let some = alone.some in
          omega arith)
      | inr is ↦ (
          let other : t ≢ e.thread = λ eq. both_ways (bytes_eq t e.thread) is (same_bytes t e.thread eq) in
          same_acquires t ∙ alone.others t (λ eq. other (eq ∙ same)) ∙ sym (others_release t other))
    ]

    inner : (h : Holding) → h.thread ≡ e.thread → 1 < h.depth → HoldsAlone before l h → HoldsAlone (before ++ (line, e) ∷ []) l (record h { depth = h.depth - 1 })
    inner h same more alone =
        let a = same_acquires h.thread in
        let r = one_less h.thread (sym same) in
        let depth = alone.depth in
        record {
          holds = still_holds before h.thread l h.line (line, e) alone.holds (omega arith);
          depth = omega arith;
          some = omega arith;
          others = λ t other. same_acquires t ∙ alone.others t other ∙ sym (others_release t (λ is. other (is ∙ sym same)));
        }

    pub after_release : (holder : Holder) → IsHolder l before holder → IsHolder l (before ++ (line, e) ∷ []) (released_by holder e.thread)
    after_release Nobody free = not_held (let none = free e.thread in omega arith)
    after_release (Thread h) alone = elim (cases_Bool (bytes_eq h.thread e.thread)) [
      | inl same ↦ subst (λ b. IsHolder l (before ++ (line, e) ∷ []) (cond b (cond (nat_le h.depth 1) Nobody (Thread (record h { depth = h.depth - 1 }))) Unclear)) (sym same)
          (by_depth h (are_same h.thread e.thread same) alone (cases_Bool (nat_le h.depth 1)))
      | inr other ↦ subst (λ b. IsHolder l (before ++ (line, e) ∷ []) (cond b (cond (nat_le h.depth 1) Nobody (Thread (record h { depth = h.depth - 1 }))) Unclear)) (sym other)
          (not_held (let none = alone.others e.thread (λ is. both_ways (bytes_eq h.thread e.thread) other (same_bytes h.thread e.thread (sym is))) in omega arith))
    ]
      where
        by_depth : (h : Holding) → h.thread ≡ e.thread → HoldsAlone before l h → (nat_le h.depth 1 ≡ true) ⊎ (nat_le h.depth 1 ≡ false)
            → IsHolder l (before ++ (line, e) ∷ []) (cond (nat_le h.depth 1) Nobody (Thread (record h { depth = h.depth - 1 })))
        by_depth h same alone (inl one) = subst (λ b. IsHolder l (before ++ (line, e) ∷ []) (cond b Nobody (Thread (record h { depth = h.depth - 1 })))) (sym one) (last h same (leb-true h.depth 1 one) alone)
        by_depth h same alone (inr more) = subst (λ b. IsHolder l (before ++ (line, e) ∷ []) (cond b Nobody (Thread (record h { depth = h.depth - 1 })))) (sym more) (inner h same (let above = leb-false h.depth 1 more in omega arith) alone)
    after_release Unclear clash = clash_stays before l (line, e) clash
