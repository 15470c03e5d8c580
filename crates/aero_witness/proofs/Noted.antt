-- What is noted of the events so far, and how the next one conflicts with it.
use Rattle.std.proofs.Common.{◌≡◌, ◌⊎◌, ℕ, ◌+◌, ◌<◌, ◌==◌, min, Bool, true, false, if◌then◌else◌, List, Option, Some, None, inl, inr, refl, sym, ◌∙◌, ap, subst, arith}
use Rattle.std.specs.Prelude.{slice_get}
use Rattle.std.proofs.lemmas.Bool.{cases_eq, cases_lt, both_ways, or_cases, or_left, or_right, eq-eqb, eqb-true}
use Rattle.std.proofs.lemmas.Option.{same_Some}
use Rattle.aero_model.specs.declared.numbered.Numbered.{Numbered}
use Rattle.aero_model.specs.declared.numbered.What.{What}
use Rattle.aero_model.specs.declared.numbered.What.TheVariants.{Read, Write, Acquire, Release, Join}
use Rattle.aero_model.specs.Graph.{Conflict, Conflicts, same_thread, write_read, read_write, write_write, release_acquire, forks, joined}
use Rattle.aero_model.specs.Shape.{is_release_of, is_fork_of}
use Rattle.aero_model.proofs.Conflicting.{fork_is}
use Rattle.aero_witness.specs.MarkWords.{with_first, least, is_write_of, is_read_of}
use Rattle.aero_witness.specs.Marks.{Key, Own, Ahead, Writes, Reads, Releases, of_key, deed_source, source_of, IsNoted, AreNoted}

write_is : (x : ℕ) (w : What) → is_write_of x w ≡ true → w ≡ Write x
write_is x (Write y) h = ap Write (sym (eqb-true x y h))
write_is x _ h = cc

read_is : (x : ℕ) (w : What) → is_read_of x w ≡ true → w ≡ Read x
read_is x (Read y) h = ap Read (sym (eqb-true x y h))
read_is x _ h = cc

release_is : (l : ℕ) (w : What) → is_release_of l w ≡ true → w ≡ Release l
release_is l (Release m) h = ap Release (sym (eqb-true l m h))
release_is l _ h = cc

least_some : (x y : Option ℕ) (i : ℕ) → least x y ≡ Some i → (x ≡ Some i) ⊎ (y ≡ Some i)
least_some None y i e = inr e
least_some (Some a) None i e = inl e
least_some (Some a) (Some b) i e =
    let is = same_Some (min a b) i e in
    elim (cases_lt a b) [ inl l ↦ inl (ap Some (let same : a ≡ i = omega arith in same)) | inr l ↦ inr (ap Some (let same : b ≡ i = omega arith in same)) ]

least_none : (x y : Option ℕ) → least x y ≡ None → (x ≡ None) × (y ≡ None)
least_none None y e = (refl, e)
least_none (Some a) None e = absurd (cc)
least_none (Some a) (Some b) e = absurd (cc)

module _ (trace : List Numbered) (noted : ℕ → Bool) where
  pub none_noted : (marks : Key → Option ℕ) → ((k : Key) → marks k ≡ None) → AreNoted trace noted 0 marks
  none_noted marks none k = subst (IsNoted trace noted (of_key k) 0) (sym (none k)) (λ i e l f at t. omega arith)

  module _ (n : ℕ) where
    widened : (test : Numbered → Bool) (i : ℕ) → IsNoted trace noted test n (Some i) → IsNoted trace noted test (n + 1) (Some i)
    widened test i (e, l, f, at, t) = (e, omega arith, f, at, t)

    module _ (e : Numbered) (at : slice_get trace n ≡ Some e) where
      one_more : noted n ≡ true → (test : Numbered → Bool) (b : Bool) (o : Option ℕ) → test e ≡ b → IsNoted trace noted test n o → IsNoted trace noted test (n + 1) (if b then with_first o n else o)
      one_more is test true None t h = (e, omega arith, is, at, t)
      one_more is test true (Some i) t h = widened test i h
      one_more is test false (Some i) t h = widened test i h
      one_more is test false None t h = λ i d l f at_i p. elim (cases_eq i n) [
        | inl same ↦ (let one = same_Some d e (sym at_i ∙ ap (slice_get trace) same ∙ at) in both_ways (test e) t (subst (λ x. test x ≡ true) one p))
        | inr other ↦ h i d (omega arith) f at_i p
      ]

      pub noted_next : noted n ≡ true → (old new : Key → Option ℕ) → AreNoted trace noted n old → ((k : Key) → new k ≡ (if of_key k e then with_first (old k) n else old k)) → AreNoted trace noted (n + 1) new
      noted_next is old new h step k = subst (IsNoted trace noted (of_key k) (n + 1)) (sym (step k)) (one_more is (of_key k) (of_key k e) (old k) refl (h k))

    skipped : noted n ≡ false → (test : Numbered → Bool) (o : Option ℕ) → IsNoted trace noted test n o → IsNoted trace noted test (n + 1) o
    skipped not test (Some i) h = widened test i h
    skipped not test None h = λ i d l f at p. elim (cases_eq i n) [
      | inl same ↦ both_ways (noted n) not (subst (λ j. noted j ≡ true) same f)
      | inr other ↦ h i d (omega arith) f at p
    ]

    pub noted_same : noted n ≡ false → (marks : Key → Option ℕ) → AreNoted trace noted n marks → AreNoted trace noted (n + 1) marks
    noted_same not marks h k = skipped not (of_key k) (marks k) (h k)

  -- the event at place n, and what is noted before it
  module _ (n : ℕ) (b : Numbered) (at : slice_get trace n ≡ Some b) (marks : Key → Option ℕ) (h : AreNoted trace noted n marks) where
    by_key : (k : Key) (i : ℕ) → ((a : Numbered) → of_key k a ≡ true → Conflicts a b) → marks k ≡ Some i → (noted i ≡ true) × Conflict trace i n
    by_key k i conflicts e = go (subst (IsNoted trace noted (of_key k) n) e (h k))
      where
        go : IsNoted trace noted (of_key k) n (Some i) → (noted i ≡ true) × Conflict trace i n
        go (a, l, f, at_i, t) = (f, record { earlier = l; first = a; first_at = at_i; second = b; second_at = at; conflict = conflicts a t })

    by_ahead : (i : ℕ) → marks (Ahead b.thread) ≡ Some i → (noted i ≡ true) × Conflict trace i n
    by_ahead i = by_key (Ahead b.thread) i (λ a t. elim (or_cases (a.thread == b.thread) (is_fork_of b.thread a.what) t) [ inl s ↦ same_thread (eqb-true a.thread b.thread s) | inr f ↦ forks (fork_is b.thread a.what f) ])

    pub source_sound : (i : ℕ) → source_of marks b ≡ Some i → (noted i ≡ true) × Conflict trace i n
    source_sound i = go b.what refl
      where
        go : (w : What) → b.what ≡ w → deed_source marks w (marks (Ahead b.thread)) ≡ Some i → (noted i ≡ true) × Conflict trace i n
        go (Read x) q e = elim (least_some (marks (Ahead b.thread)) (marks (Writes x)) i e) [
          | inl own ↦ by_ahead i own
          | inr w ↦ by_key (Writes x) i (λ a t. write_read x (write_is x a.what t) q) w
        ]
        go (Write x) q e = elim (least_some (least (marks (Ahead b.thread)) (marks (Writes x))) (marks (Reads x)) i e) [
          | inl e' ↦ elim (least_some (marks (Ahead b.thread)) (marks (Writes x)) i e') [
            | inl own ↦ by_ahead i own
            | inr w ↦ by_key (Writes x) i (λ a t. write_write x (write_is x a.what t) q) w
          ]
          | inr r ↦ by_key (Reads x) i (λ a t. read_write x (read_is x a.what t) q) r
        ]
        go (Acquire l) q e = elim (least_some (marks (Ahead b.thread)) (marks (Releases l)) i e) [
          | inl own ↦ by_ahead i own
          | inr r ↦ by_key (Releases l) i (λ a t. release_acquire l (release_is l a.what t) q) r
        ]
        go (Join u) q e = elim (least_some (marks (Ahead b.thread)) (marks (Own u)) i e) [
          | inl own ↦ by_ahead i own
          | inr o ↦ by_key (Own u) i (λ a t. joined (q ∙ ap Join (sym (eqb-true a.thread u t)))) o
        ]
        go _ q e = by_ahead i e

    none_by : (k : Key) (i : ℕ) (a : Numbered) → marks k ≡ None → noted i ≡ true → i < n → slice_get trace i ≡ Some a → of_key k a ≡ true → ⊥
    none_by k i a e f l at_i t =
        let none : IsNoted trace noted (of_key k) n None = subst (IsNoted trace noted (of_key k) n) e (h k) in
        none i a l f at_i t

    no_ahead : (w : What) → deed_source marks w (marks (Ahead b.thread)) ≡ None → marks (Ahead b.thread) ≡ None
    no_ahead (Read x) e = (least_none (marks (Ahead b.thread)) (marks (Writes x)) e).0
    no_ahead (Write x) e = (least_none (marks (Ahead b.thread)) (marks (Writes x)) (least_none (least (marks (Ahead b.thread)) (marks (Writes x))) (marks (Reads x)) e).0).0
    no_ahead (Acquire l) e = (least_none (marks (Ahead b.thread)) (marks (Releases l)) e).0
    no_ahead (Join u) e = (least_none (marks (Ahead b.thread)) (marks (Own u)) e).0
    no_ahead _ e = e

    pub source_complete : source_of marks b ≡ None → (i : ℕ) → noted i ≡ true → Conflict trace i n → ⊥
    source_complete none i f c = go c.first (subst (Conflicts c.first) (same_Some c.second b (sym c.second_at ∙ at)) c.conflict) c.first_at
      where
        l : i < n
        l = c.earlier

        by : (w : What) → b.what ≡ w → deed_source marks w (marks (Ahead b.thread)) ≡ None
        by w q = sym (ap (λ v. deed_source marks v (marks (Ahead b.thread))) q) ∙ none

        go : (a : Numbered) → Conflicts a b → slice_get trace i ≡ Some a → ⊥
        go a (same_thread e) at_i = none_by (Ahead b.thread) i a (no_ahead b.what none) f l at_i (or_left (a.thread == b.thread) (is_fork_of b.thread a.what) (eq-eqb a.thread b.thread e))
        go a (forks p) at_i = none_by (Ahead b.thread) i a (no_ahead b.what none) f l at_i (or_right (a.thread == b.thread) (is_fork_of b.thread a.what) (ap (is_fork_of b.thread) p ∙ eq-eqb b.thread b.thread refl))
        go a (write_read x p q) at_i = none_by (Writes x) i a (least_none (marks (Ahead b.thread)) (marks (Writes x)) (by (Read x) q)).1 f l at_i (ap (is_write_of x) p ∙ eq-eqb x x refl)
        go a (read_write x p q) at_i = none_by (Reads x) i a (least_none (least (marks (Ahead b.thread)) (marks (Writes x))) (marks (Reads x)) (by (Write x) q)).1 f l at_i (ap (is_read_of x) p ∙ eq-eqb x x refl)
        go a (write_write x p q) at_i = none_by (Writes x) i a (least_none (marks (Ahead b.thread)) (marks (Writes x)) (least_none (least (marks (Ahead b.thread)) (marks (Writes x))) (marks (Reads x)) (by (Write x) q)).0).1 f l at_i (ap (is_write_of x) p ∙ eq-eqb x x refl)
        go a (release_acquire m p q) at_i = none_by (Releases m) i a (least_none (marks (Ahead b.thread)) (marks (Releases m)) (by (Acquire m) q)).1 f l at_i (ap (is_release_of m) p ∙ eq-eqb m m refl)
        go a (joined q) at_i = none_by (Own a.thread) i a (least_none (marks (Ahead b.thread)) (marks (Own a.thread)) (by (Join a.thread) q)).1 f l at_i (eq-eqb a.thread a.thread refl)
