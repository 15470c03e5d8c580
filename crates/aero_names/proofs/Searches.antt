-- The search for a name along those that have its hash.
use Rattle.std.proofs.Common.{◌≡◌, ℕ, suc, ◌+◌, ◌<◌, ◌≤◌, Bool, true, false, ◌||◌, ◌⊎◌, inl, inr, List, [], ◌∷◌, length, Some, slice_get, slice_index, refl, sym, ◌∙◌, ap, subst, arith}
use Rattle.std.specs.Prelude.{bytes_eq, unwrap_or}
use Rattle.std.specs.List.{list_any}
use Rattle.std.proofs.lemmas.Bool.{cases_lt, cases_eq}
use Rattle.std.proofs.lemmas.Slice.Eq.{bytes_eq-Decides}
use Rattle.std.proofs.lemmas.Option.{slice_get_within}
use Rattle.aero_names.specs.Indexed.{name_in, IsLatest, IsIndexed}

-- what is left to be looked at: the names that have its hash up to the one before `next`
pub record IsLeft (of : List ℕ → ℕ) (names : List (List ℕ)) (name : List ℕ) (next : ℕ) : Type 0 where
  pub within : next ≤ length names
  pub here : (n : ℕ) → next ≡ n + 1 → of (name_in names n) ≡ of name
  pub passed : (n : ℕ) → next ≤ n → slice_get names n ≡ Some name → ⊥

is_named : (names : List (List ℕ)) (name : List ℕ) (n : ℕ) → slice_get names n ≡ Some name → name_in names n ≡ name
is_named names name n at = ap (λ o. unwrap_or o []) at

pub left_at_first : (of : List ℕ → ℕ) (from : ℕ → ℕ) (before : List ℕ) (names : List (List ℕ)) (name : List ℕ) (hash next : ℕ) → IsIndexed of names (length names) from before → hash ≡ of name → next ≡ from hash → IsLeft of names name next
left_at_first of from before names name hash next indexed hash_is next_is =
    let latest = subst (IsLatest of names hash (length names)) (sym next_is) (indexed.at_hashes hash) in
    record {
      within = latest.within;
      here = λ n at. latest.here n at ∙ hash_is;
      passed = λ n le at. latest.others n le (slice_get_within names n name at) (ap of (is_named names name n at) ∙ sym hash_is);
    }

pub left_later : (of : List ℕ → ℕ) (from : ℕ → ℕ) (before : List ℕ) (names : List (List ℕ)) (name : List ℕ) (next number later : ℕ) → IsIndexed of names (length names) from before → IsLeft of names name next →
    next ≡ number + 1 → (slice_get names number ≡ Some name → ⊥) → later ≡ slice_index before number → IsLeft of names name later
left_later of from before names name next number later indexed left is other later_is =
    let within = left.within in
    let hash : of (name_in names number) ≡ of name = left.here number is in
    let latest = subst (IsLatest of names (of (name_in names number)) number) (sym later_is) (indexed.behind number (omega (arith, within, is))) in
    record {
      within = let before_it = latest.within in omega (arith, before_it, within, is);
      here = λ n at. latest.here n at ∙ hash;
      passed = λ n le at. passed_here n le at hash latest.others (cases_lt n number) (cases_eq n number);
    }
  where
    passed_here : (n : ℕ) → later ≤ n → slice_get names n ≡ Some name → of (name_in names number) ≡ of name →
        ((n : ℕ) → later ≤ n → n < number → of (name_in names n) ≡ of (name_in names number) → ⊥) →
        (n < number) ⊎ (number ≤ n) → (n ≡ number) ⊎ (n ≡ number → ⊥) → ⊥
    passed_here n le at hash others (inl less) _ = others n le less (ap of (is_named names name n at) ∙ sym hash)
    passed_here n le at hash others (inr more) (inl same) = other (subst (λ k. slice_get names k ≡ Some name) same at)
    passed_here n le at hash others (inr more) (inr apart) = left.passed n (omega (arith, is, more, apart)) at

-- a name that stands nowhere isn't listed
pub none_listed : (names : List (List ℕ)) (name : List ℕ) → ((n : ℕ) → slice_get names n ≡ Some name → ⊥) → list_any (bytes_eq name) names ≡ false
none_listed [] name none = refl
none_listed (first ∷ names) name none = go (bytes_eq name first) refl (none_listed names name (λ n at. none (suc n) at))
  where
    go : (b : Bool) → bytes_eq name first ≡ b → list_any (bytes_eq name) names ≡ false → list_any (bytes_eq name) (first ∷ names) ≡ false
    go true same later = absurd (none 0 (ap Some (sym ((bytes_eq-Decides name first).0 same))))
    go false other later = ap (λ b. b || list_any (bytes_eq name) names) other ∙ later
