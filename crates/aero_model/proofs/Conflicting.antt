-- Whether two places conflict can be decided.
use Rattle.std.proofs.Common.{◌≡◌, ℕ, ◌<◌, ◌==◌, ◌||◌, true, List, length, Some, inl, inr, refl, sym, ◌∙◌, ap, ap₂, subst, arith}
use Rattle.std.specs.Prelude.{slice_get}
use Rattle.std.proofs.lemmas.Bool.{cases_Bool, cases_lt, or_cases, or_left, or_right, eq-eqb, eqb-true, both_ways}
use Rattle.std.proofs.lemmas.Option.{same_Some}
use Rattle.aero_model.specs.declared.numbered.Numbered.{Numbered}
use Rattle.aero_model.specs.declared.numbered.What.{What}
use Rattle.aero_model.specs.declared.numbered.What.TheVariants.{Read, Write, Acquire, Release, Fork, Join}
use Rattle.aero_model.specs.Deciding.{deeds_conflict, conflicting}
use Rattle.aero_model.specs.Graph.{Conflict, Conflicts, same_thread, write_read, read_write, write_write, release_acquire, forks, joined}
use Rattle.aero_model.specs.Shape.{is_fork_of, is_join_of}
use Rattle.aero_model.proofs.Searching.{Decided}
use Rattle.aero_model.proofs.Telling.{event_at}

pub fork_is : (u : ℕ) (w : What) → is_fork_of u w ≡ true → w ≡ Fork u
fork_is u (Fork v) h = ap Fork (sym (eqb-true u v h))
fork_is u _ h = cc

join_is : (u : ℕ) (w : What) → is_join_of u w ≡ true → w ≡ Join u
join_is u (Join v) h = ap Join (sym (eqb-true u v h))
join_is u _ h = cc

module _ (a b : Numbered) where
  from_deeds : (v w : What) → a.what ≡ v → b.what ≡ w → deeds_conflict v w ≡ true → Conflicts a b
  from_deeds (Write x) (Read y) p q h = write_read x p (q ∙ ap Read (sym (eqb-true x y h)))
  from_deeds (Read x) (Write y) p q h = read_write x p (q ∙ ap Write (sym (eqb-true x y h)))
  from_deeds (Write x) (Write y) p q h = write_write x p (q ∙ ap Write (sym (eqb-true x y h)))
  from_deeds (Release l) (Acquire m) p q h = release_acquire l p (q ∙ ap Acquire (sym (eqb-true l m h)))
  from_deeds _ _ p q h = absurd (cc)

  conflicts_from : conflicting a b ≡ true → Conflicts a b
  conflicts_from h =
      elim (or_cases ((a.thread == b.thread) || deeds_conflict a.what b.what) (is_fork_of b.thread a.what || is_join_of a.thread b.what) h) [
        | inl l ↦ elim (or_cases (a.thread == b.thread) (deeds_conflict a.what b.what) l) [
          | inl t ↦ same_thread (eqb-true a.thread b.thread t)
          | inr d ↦ from_deeds a.what b.what refl refl d
        ]
        | inr r ↦ elim (or_cases (is_fork_of b.thread a.what) (is_join_of a.thread b.what) r) [
          | inl f ↦ forks (fork_is b.thread a.what f)
          | inr j ↦ joined (join_is a.thread b.what j)
        ]
      ]

  by_thread_or_deeds : ((a.thread == b.thread) || deeds_conflict a.what b.what) ≡ true → conflicting a b ≡ true
  by_thread_or_deeds h = or_left ((a.thread == b.thread) || deeds_conflict a.what b.what) (is_fork_of b.thread a.what || is_join_of a.thread b.what) h

  by_deeds : deeds_conflict a.what b.what ≡ true → conflicting a b ≡ true
  by_deeds h = by_thread_or_deeds (or_right (a.thread == b.thread) (deeds_conflict a.what b.what) h)

  by_other : (is_fork_of b.thread a.what || is_join_of a.thread b.what) ≡ true → conflicting a b ≡ true
  by_other h = or_right ((a.thread == b.thread) || deeds_conflict a.what b.what) (is_fork_of b.thread a.what || is_join_of a.thread b.what) h

to_conflicts : (a b : Numbered) → Conflicts a b → conflicting a b ≡ true
to_conflicts a b (same_thread e) = by_thread_or_deeds a b (or_left (a.thread == b.thread) (deeds_conflict a.what b.what) (eq-eqb a.thread b.thread e))
to_conflicts a b (write_read x p q) = by_deeds a b (ap₂ deeds_conflict p q ∙ eq-eqb x x refl)
to_conflicts a b (read_write x p q) = by_deeds a b (ap₂ deeds_conflict p q ∙ eq-eqb x x refl)
to_conflicts a b (write_write x p q) = by_deeds a b (ap₂ deeds_conflict p q ∙ eq-eqb x x refl)
to_conflicts a b (release_acquire l p q) = by_deeds a b (ap₂ deeds_conflict p q ∙ eq-eqb l l refl)
to_conflicts a b (forks p) = by_other a b (or_left (is_fork_of b.thread a.what) (is_join_of a.thread b.what) (ap (is_fork_of b.thread) p ∙ eq-eqb b.thread b.thread refl))
to_conflicts a b (joined p) = by_other a b (or_right (is_fork_of b.thread a.what) (is_join_of a.thread b.what) (ap (is_join_of a.thread) p ∙ eq-eqb a.thread a.thread refl))

module _ (trace : List Numbered) (i j : ℕ) (a b : Numbered) (at_i : slice_get trace i ≡ Some a) (at_j : slice_get trace j ≡ Some b) where
  pub conflict_from : i < j → conflicting a b ≡ true → Conflict trace i j
  conflict_from l h = record { earlier = l; first = a; first_at = at_i; second = b; second_at = at_j; conflict = conflicts_from a b h }

  pub conflict_to : Conflict trace i j → conflicting a b ≡ true
  conflict_to c =
      let first = same_Some c.first a (sym c.first_at ∙ at_i) in
      let second = same_Some c.second b (sym c.second_at ∙ at_j) in
      to_conflicts a b (subst (Conflicts a) second (subst (λ e. Conflicts e c.second) first c.conflict))

pub cases_conflict : (trace : List Numbered) (i j : ℕ) → j < length trace → Decided (Conflict trace i j)
cases_conflict trace i j l = elim (cases_lt i j) [ inr le ↦ inr (λ c. omega (arith, c.earlier)) | inl less ↦ both less (event_at trace i (omega arith)) (event_at trace j l) ]
  where
    both : i < j → (e : Numbered) × (slice_get trace i ≡ Some e) → (e : Numbered) × (slice_get trace j ≡ Some e) → Decided (Conflict trace i j)
    both less (a, at_i) (b, at_j) = elim (cases_Bool (conflicting a b)) [
      | inl h ↦ inl (conflict_from trace i j a b at_i at_j less h)
      | inr h ↦ inr (λ c. both_ways (conflicting a b) h (conflict_to trace i j a b at_i at_j c))
    ]
