-- The places of one level, as places are reached.
use Rattle.std.proofs.Common.{◌≡◌, ℕ, ◌+◌, ◌<◌, ◌≤◌, ◌==◌, true, false, if◌then◌else◌, List, [], ◌∷◌, ◌++◌, length, Option, Some, inl, inr, sym, ◌∙◌, ap, subst, arith}
use Rattle.std.specs.Prelude.{Contains}
use Rattle.std.proofs.lemmas.Bool.{cases_eq, cond-true, cond-false, eq-eqb, ne_eqb, both_ways}
use Rattle.std.proofs.lemmas.List.Elements.{Contains-append_left, Contains-push, Contains-push_cases}
use Rattle.aero_model.proofs.Elements.{none_in}
use Rattle.aero_witness.specs.declared.reached.Reached.{Reached}
use Rattle.aero_witness.specs.Reached.{reached_at, has_level, is_noted, IsFront, AreAtMost}
use Rattle.aero_witness.proofs.Walked.{noted_is, noted_from, reached_within}

-- where a place is reached that wasn't, at this level
pub one_fronted : (level place : ℕ) (how : Reached) (old new : List (Option Reached)) (front front' : List ℕ) → how.level ≡ level → IsFront level old front → ((k : ℕ) → reached_at new k ≡ (if place == k then Some how else reached_at old k)) → front' ≡ front ++ place ∷ [] → IsFront level new front'
one_fronted level place how old new front front' level_is f step pushed = subst (IsFront level new) (sym {A = List ℕ} pushed) (record { noted = noted; all = all })
  where
    at_place : (k : ℕ) → place ≡ k → is_noted new level k ≡ true
    at_place k e = noted_from level (reached_at new k) how (step k ∙ cond-true (place == k) (Some how) (reached_at old k) (eq-eqb place k e)) level_is

    at_other : (k : ℕ) → (place ≡ k → ⊥) → is_noted new level k ≡ is_noted old level k
    at_other k ne = ap (has_level level) (step k ∙ cond-false (place == k) (Some how) (reached_at old k) (ne_eqb place k ne))

    noted : (k : ℕ) → Contains (front ++ place ∷ []) k → is_noted new level k ≡ true
    noted k h = elim (cases_eq place k) [
      | inl same ↦ at_place k same
      | inr other ↦ elim (Contains-push_cases front place k h) [
        | inl was ↦ at_other k other ∙ f.noted k was
        | inr same ↦ absurd (other same)
      ]
    ]

    all : (k : ℕ) → is_noted new level k ≡ true → Contains (front ++ place ∷ []) k
    all k e = elim (cases_eq place k) [
      | inl same ↦ subst (Contains (front ++ place ∷ [])) same (Contains-push front place)
      | inr other ↦ Contains-append_left front (place ∷ []) k (f.all k (sym (at_other k other) ∙ e))
    ]

-- none is of a level above all
pub none_fronted : (level : ℕ) (reached : List (Option Reached)) (front : List ℕ) → AreAtMost level reached → front ≡ [] → IsFront (level + 1) reached front
none_fronted level reached front most empty =
    subst (IsFront (level + 1) reached) (sym {A = List ℕ} empty) (record {
      noted = λ k h. absurd (none_in {x = k} h);
      all = λ k e. (let r = noted_is (level + 1) (reached_at reached k) e in let le = most k r.0 r.1 in let is = r.2 in absurd (omega arith));
    })

-- those before place n
pub record IsFrontTo (level : ℕ) (reached : List (Option Reached)) (n : ℕ) (front : List ℕ) : Type 0 where
  pub noted : (k : ℕ) → Contains front k → is_noted reached level k ≡ true
  pub all : (k : ℕ) → k < n → is_noted reached level k ≡ true → Contains front k

module _ (level : ℕ) (reached : List (Option Reached)) where
  pub no_front_to : (front : List ℕ) → front ≡ [] → IsFrontTo level reached 0 front
  no_front_to front empty = subst (IsFrontTo level reached 0) (sym {A = List ℕ} empty) (record { noted = λ k h. absurd (none_in {x = k} h); all = λ k l. absurd (omega arith) })

  pub front_with : (n : ℕ) (front front' : List ℕ) → is_noted reached level n ≡ true → front' ≡ front ++ n ∷ [] → IsFrontTo level reached n front → IsFrontTo level reached (n + 1) front'
  front_with n front front' is pushed f =
      subst (IsFrontTo level reached (n + 1)) (sym {A = List ℕ} pushed) (record {
        noted = λ k h. elim (Contains-push_cases front n k h) [ inl was ↦ f.noted k was | inr same ↦ subst (λ i. is_noted reached level i ≡ true) same is ];
        all = λ k l e. elim (cases_eq n k) [
          | inl same ↦ subst (Contains (front ++ n ∷ [])) same (Contains-push front n)
          | inr other ↦ Contains-append_left front (n ∷ []) k (f.all k (omega arith) e)
        ];
      })

  pub front_without : (n : ℕ) (front : List ℕ) → is_noted reached level n ≡ false → IsFrontTo level reached n front → IsFrontTo level reached (n + 1) front
  front_without n front not f =
      record {
        noted = f.noted;
        all = λ k l e. elim (cases_eq n k) [
          | inl same ↦ absurd (both_ways (is_noted reached level k) (subst (λ i. is_noted reached level i ≡ false) same not) e)
          | inr other ↦ f.all k (omega arith) e
        ];
      }

  pub front_all : (n : ℕ) (front : List ℕ) → length reached ≤ n → IsFrontTo level reached n front → IsFront level reached front
  front_all n front le f =
      record {
        noted = f.noted;
        all = λ k e. (let r = noted_is level (reached_at reached k) e in let l = reached_within reached k r.0 r.1 in f.all k (omega arith) e);
      }
