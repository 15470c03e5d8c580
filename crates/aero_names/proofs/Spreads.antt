-- Tables that find the names, filled name by name.
use Rattle.std.proofs.Common.{◌≡◌, ℕ, ◌+◌, ◌<◌, ◌==◌, List, [], ◌∷◌, ◌++◌, length, slice_get, Option, Some, None, refl, sym, ◌∙◌, ap, subst, arith, if◌then◌else◌}
use Rattle.std.specs.Prelude.{unwrap_or, IfNone}
use Rattle.aero_names.specs.declared.hash.Hashing.{Hashing}
use Rattle.aero_names.specs.declared.latest.Way.{Way}
use Rattle.aero_names.specs.declared.latest.Latest.{Latest}
use Rattle.aero_names.specs.Indexed.{name_in, marks_of, mark_of, next_at, HasHeads, IsLatest, IsIndexed}
use Rattle.aero_names.proofs.Links.{linked}

-- the first names, as many as are counted, are found
pub record IsFilled (names : List (List ℕ)) (marks : Way × Hashing × ℕ) (count : ℕ) (latest : Latest) (before : List ℕ) : Type 0 where
  pub marks_are : marks_of latest ≡ marks
  pub heads : HasHeads latest
  pub indexed : IsIndexed (mark_of marks) names count (next_at latest) before

none_yet : (of : List ℕ → ℕ) (names : List (List ℕ)) (mark : ℕ) → IsLatest of names mark 0 0
none_yet of names mark = record { within = omega arith; here = λ n is. omega (arith, is); others = λ n le less at. omega (arith, less) }

pub filled_first : (names : List (List ℕ)) (latest : Latest) → HasHeads latest → ((mark : ℕ) → next_at latest mark ≡ 0) → IsFilled names (marks_of latest) 0 latest []
filled_first names latest heads none =
    record {
      marks_are = refl;
      heads = heads;
      indexed = record {
        at_hashes = λ mark. subst (IsLatest (mark_of (marks_of latest)) names mark 0) (sym (none mark)) (none_yet (mark_of (marks_of latest)) names mark);
        behind = λ n less. absurd (omega (arith, less));
        long = refl;
      };
    }

-- with as many heads as before there still are some
pub heads_stay : (latest after : Latest) → marks_of after ≡ marks_of latest → HasHeads latest → HasHeads after
heads_stay latest after same heads = λ is. subst (λ n. 0 < n) (sym (ap (λ (m : Way × Hashing × ℕ). m.2) same)) (heads (sym (ap (λ (m : Way × Hashing × ℕ). m.0) same) ∙ is))

pub filled_later : (names : List (List ℕ)) (marks : Way × Hashing × ℕ) (number : ℕ) (latest after : Latest) (before more : List ℕ) (name : List ℕ) (mark : ℕ) → IsFilled names marks number latest before →
    slice_get names number ≡ Some name → mark ≡ mark_of (marks_of latest) name → marks_of after ≡ marks_of latest →
    ((m : ℕ) → next_at after m ≡ (if mark == m then number + 1 else next_at latest m)) → more ≡ before ++ next_at latest mark ∷ [] → IsFilled names marks (number + 1) after more
filled_later names marks number latest after before more name mark is at mark_is same updates rows =
    record {
      marks_are = same ∙ is.marks_are;
      heads = heads_stay latest after same is.heads;
      indexed =
          linked (mark_of marks) names (next_at latest) (next_at after) before more number mark is.indexed
          (mark_is ∙ (ap (λ (m : Way × Hashing × ℕ). mark_of m name) is.marks_are ∙ sym (ap (mark_of marks) (let here : name_in names number ≡ name = ap (λ o. unwrap_or o []) at in here))))
          updates rows;
    }

pub filled_last : (names : List (List ℕ)) (marks : Way × Hashing × ℕ) (count : ℕ) (latest : Latest) (before : List ℕ) → IsFilled names marks count latest before → count ≡ length names →
    IsIndexed (mark_of (marks_of latest)) names (length names) (next_at latest) before
filled_last names marks count latest before is all =
    subst (λ (m : Way × Hashing × ℕ). IsIndexed (mark_of m) names (length names) (next_at latest) before) (sym is.marks_are)
    (subst (λ n. IsIndexed (mark_of marks) names n (next_at latest) before) all is.indexed)

-- what a search that found nothing says
pub at_none : {A : Type 0} → (r : Option ℕ) → r ≡ None → IfNone r A → A
at_none {A} r is says = subst (λ o. IfNone o A) is says
