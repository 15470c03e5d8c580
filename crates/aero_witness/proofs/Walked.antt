-- The places of a transaction from one on, and those at which a walk may leave.
use Rattle.std.proofs.Common.{◌≡◌, ◌⊎◌, ℕ, ◌<◌, ◌≤◌, ◌==◌, true, false, if◌then◌else◌, List, length, get_or, Option, Some, None, inl, inr, refl, sym, ◌∙◌, ap, subst, arith}
use Rattle.std.specs.Prelude.{slice_get, unwrap_or, is_some, IsSome}
use Rattle.std.proofs.lemmas.Bool.{cases_eq, cases_lt, eqb-true, eq-eqb, ne_eqb, cond-true, cond-false, false≢true}
use Rattle.std.proofs.lemmas.Option.{same_Some, slice_get-get_or, slice_get_past, unwrap_or-slice_get}
use Rattle.aero_model.specs.declared.numbered.Numbered.{Numbered}
use Rattle.aero_model.specs.Blocks.{transaction, HasEnded}
use Rattle.aero_model.specs.Graph.{IsVisit}
use Rattle.aero_witness.specs.declared.reached.Reached.{Reached}
use Rattle.aero_witness.specs.Parts.{IsFirst, AreFirstsTo}
use Rattle.aero_witness.specs.Basis.{IsNextOf}
use Rattle.aero_witness.specs.Reached.{reached_at, has_level, visit, IsClosedFrom, IsWalked, IsFrom, IsClosed, IsEntered}
use Rattle.aero_witness.proofs.Nests.{one_first, same_by_first}

pub some_is : (o : Option Reached) → IsSome o → (r : Reached) × (o ≡ Some r)
some_is None h = absurd (false≢true h)
some_is (Some r) h = (r, refl)

pub some_from : (o : Option Reached) (r : Reached) → o ≡ Some r → IsSome o
some_from o r e = subst IsSome (sym e) refl

pub some_or_none : (o : Option Reached) → (o ≡ None) ⊎ IsSome o
some_or_none None = inl refl
some_or_none (Some r) = inr refl

pub none_from : (o : Option Reached) → is_some o ≡ false → o ≡ None
none_from None e = refl
none_from (Some r) e = absurd (false≢true (sym e))

pub not_both : (o : Option Reached) (r : Reached) → o ≡ None → o ≡ Some r → ⊥
not_both o r none some = let both : None ≡ Some r = sym none ∙ some in cc

pub noted_is : (d : ℕ) (o : Option Reached) → has_level d o ≡ true → (r : Reached) × (o ≡ Some r) × (r.level ≡ d)
noted_is d None e = absurd (false≢true e)
noted_is d (Some r) e = (r, refl, eqb-true r.level d e)

pub noted_from : (d : ℕ) (o : Option Reached) (r : Reached) → o ≡ Some r → r.level ≡ d → has_level d o ≡ true
noted_from d o r at e = ap (has_level d) at ∙ eq-eqb r.level d e

pub reached_within : (xs : List (Option Reached)) (k : ℕ) (r : Reached) → reached_at xs k ≡ Some r → k < length xs
reached_within xs k r at =
    elim (cases_lt k (length xs)) [
      | inl l ↦ l
      | inr past ↦ (let none : reached_at xs k ≡ None = sym (unwrap_or-slice_get xs k None) ∙ ap (λ o. unwrap_or o None) (slice_get_past xs k past) in let both : Some r ≡ None = sym at ∙ none in absurd (cc))
    ]

module _ (firsts : List ℕ) (p : ℕ) (how : Reached) (old : List (Option Reached)) where
  -- a walk from place p has come to this place
  pub record Walking (cur : List (Option Reached)) (place : ℕ) : Type 0 where
    pub each : length cur ≡ length old
    pub from : p ≤ place
    pub of : place < length firsts → slice_get firsts place ≡ slice_get firsts p
    pub kept : (k : ℕ) (r : Reached) → reached_at old k ≡ Some r → reached_at cur k ≡ Some r
    pub only : (k : ℕ) (r : Reached) → reached_at cur k ≡ Some r → (reached_at old k ≡ Some r) ⊎ ((reached_at old k ≡ None) × (r ≡ how) × (p ≤ k) × (slice_get firsts k ≡ slice_get firsts p))
    pub done : (k : ℕ) → p ≤ k → k < place → k < length firsts → slice_get firsts k ≡ slice_get firsts p → IsSome (reached_at cur k)
    pub ahead : (k : ℕ) → place ≤ k → reached_at cur k ≡ reached_at old k

  pub none_walked : Walking old p
  none_walked =
      record { each = refl; from = omega arith; of = λ l. refl; kept = λ k r e. e; only = λ k r e. inl e; done = λ k a b l e. absurd (omega arith); ahead = λ k a. refl }

  module _ (cur new : List (Option Reached)) (place next : ℕ) (w : Walking cur place) (within : place < length firsts) (free : reached_at cur place ≡ None) (is_next : IsNextOf firsts place next) (each : length new ≡ length cur) (step : (k : ℕ) → reached_at new k ≡ (if place == k then Some how else reached_at cur k)) where
    at_place : (k : ℕ) → place ≡ k → reached_at new k ≡ Some how
    at_place k e = step k ∙ cond-true (place == k) (Some how) (reached_at cur k) (eq-eqb place k e)

    at_other : (k : ℕ) → (place ≡ k → ⊥) → reached_at new k ≡ reached_at cur k
    at_other k ne = step k ∙ cond-false (place == k) (Some how) (reached_at cur k) (ne_eqb place k ne)

    stays : (k : ℕ) (r : Reached) → reached_at cur k ≡ Some r → reached_at new k ≡ Some r
    stays k r e = elim (cases_eq place k) [ inl same ↦ absurd (not_both (reached_at cur k) r (ap (reached_at cur) (sym same) ∙ free) e) | inr ne ↦ at_other k ne ∙ e ]

    pub one_walked : Walking new next
    one_walked =
        let here = w.of within in
        let from = w.from in
        let later = is_next.later in
        record {
          each = each ∙ w.each;
          from = omega arith;
          of = λ l. is_next.same l ∙ here;
          kept = λ k r e. stays k r (w.kept k r e);
          only = λ k r e. elim (cases_eq place k) [
            | inl same ↦
                let was = sym (w.ahead k (omega arith)) ∙ ap (reached_at cur) (sym same) ∙ free in
                inr (was, same_Some r how (sym e ∙ at_place k same), (let le : p ≤ k = omega arith in le), ap (slice_get firsts) (sym same) ∙ here)
            | inr ne ↦ w.only k r (sym (at_other k ne) ∙ e)
          ];
          done = λ k a b l e. elim (cases_eq place k) [
            | inl same ↦ some_from (reached_at new k) how (at_place k same)
            | inr ne ↦ elim (cases_lt k place) [
              | inl less ↦ (let s = some_is (reached_at cur k) (w.done k a less l e) in some_from (reached_at new k) s.0 (stays k s.0 s.1))
              | inr ge ↦ absurd (is_next.none k (omega arith) b (e ∙ sym here))
            ]
          ];
          ahead = λ k a. at_other k (omega arith) ∙ w.ahead k (omega arith);
        }

  pub all_walked : (cur : List (Option Reached)) (place : ℕ) → Walking cur place → (length firsts ≤ place) ⊎ IsSome (reached_at cur place) → IsClosedFrom firsts p old → IsWalked firsts p how old cur
  all_walked cur place w end closed =
      record {
        each = w.each;
        kept = w.kept;
        only = w.only;
        all = λ k a l e. elim (cases_lt k place) [
          | inl less ↦ w.done k a less l e
          | inr ge ↦ elim end [
            | inl past ↦ absurd (omega arith)
            | inr some ↦
                let from = w.from in
                let was = subst IsSome (w.ahead place (omega arith)) some in
                let s = some_is (reached_at old k) (closed.later place k from ge l (w.of (omega arith)) e was) in
                some_from (reached_at cur k) s.0 (w.kept k s.0 s.1)
          ]
        ];
      }

module _ (trace : List Numbered) (firsts : List ℕ) (firsts_are : AreFirstsTo trace (length trace) firsts) where
  pub has_first : (k : ℕ) → k < length trace → slice_get firsts k ≡ Some (get_or firsts k 0)
  has_first k l = let e = firsts_are.each in slice_get-get_or firsts k 0 (omega arith)

  is_first : (k : ℕ) → k < length trace → IsFirst trace (transaction trace k) (get_or firsts k 0)
  is_first k l = firsts_are.at k (get_or firsts k 0) (has_first k l)

  pub same_transaction : (j k : ℕ) → j < length trace → k < length trace → slice_get firsts j ≡ slice_get firsts k → transaction trace j ≡ transaction trace k
  same_transaction j k l m e =
      same_by_first trace (transaction trace j) (transaction trace k) (get_or firsts j 0) (get_or firsts k 0) (is_first j l) (is_first k m) (same_Some (get_or firsts j 0) (get_or firsts k 0) (sym (has_first j l) ∙ e ∙ has_first k m))

  pub same_first : (j k : ℕ) → j < length trace → k < length trace → transaction trace j ≡ transaction trace k → slice_get firsts j ≡ slice_get firsts k
  same_first j k l m e =
      has_first j l ∙ ap Some (one_first trace (transaction trace j) (transaction trace k) (get_or firsts j 0) (get_or firsts k 0) (is_first j l) (is_first k m) e) ∙ sym (has_first k m)

  -- in a transaction that has ended a walk may leave from the first place on
  pub from_first : (i f : ℕ) → i < length trace → slice_get firsts i ≡ Some f → HasEnded trace (length trace) (transaction trace i) → IsFrom trace firsts i f
  from_first i f l at ended =
      let is = firsts_are.at i f at in
      let le : f ≤ i = elim (cases_lt i f) [ inl later ↦ absurd (is.none i later refl) | inr le ↦ le ] in
      record {
        within = omega arith;
        of = same_first f i (omega arith) l is.at;
        until = λ k v w. elim (cases_lt k f) [ inl less ↦ absurd (is.none k less (sym v.one)) | inr ge ↦ ge ];
        on = λ k v ge. inr ended;
      }

  -- in another one from where it comes in
  pub from_here : (i : ℕ) → i < length trace → (HasEnded trace (length trace) (transaction trace i) → ⊥) → IsFrom trace firsts i i
  from_here i l open_still =
      record { within = l; of = refl; until = λ k v w. elim w [ inl le ↦ le | inr ended ↦ absurd (open_still ended) ]; on = λ k v ge. inl ge }

  pub closed_from : (p : ℕ) (reached : List (Option Reached)) → p < length trace → IsClosed trace reached → IsClosedFrom firsts p reached
  closed_from p reached l closed =
      record {
        later = λ j k a b m e g some. (let each = firsts_are.each in closed j k (record { enters = omega arith; leaves = omega arith; one = same_transaction j k (omega arith) (omega arith) (e ∙ sym g) }) (inl b) some);
      }

  -- from there on all are walked
  pub entered : (how : Reached) (from : ℕ) (old new : List (Option Reached)) → how.enters < length trace → IsFrom trace firsts how.enters from → length old ≡ length trace → IsWalked firsts from how old new → IsEntered trace how old new
  entered how from old new l is each w =
      let firsts_each = firsts_are.each in
      let new_each = w.each in
      record {
        each = w.each;
        kept = w.kept;
        only = λ k r e. elim (w.only k r e) [
          | inl was ↦ inl was
          | inr h ↦
              let m = reached_within new k r e in
              let v : IsVisit trace (length trace) (visit how.enters k) = record { enters = l; leaves = omega arith; one = same_transaction how.enters k l (omega arith) (sym is.of ∙ sym h.3) } in
              inr (h.0, h.1, v, is.on k v h.2)
        ];
        all = λ k v f. (let m = v.leaves in w.all k (is.until k v f) (omega arith) (same_first k how.enters m l (sym v.one) ∙ sym is.of));
      }

-- where a walk may leave already, nothing is new
pub not_entered : (trace : List Numbered) (how : Reached) (old : List (Option Reached)) → IsClosed trace old → IsSome (reached_at old how.enters) → IsEntered trace how old old
not_entered trace how old closed some =
    record { each = refl; kept = λ k r h. h; only = λ k r h. inl h; all = λ k v f. closed how.enters k v f some }
