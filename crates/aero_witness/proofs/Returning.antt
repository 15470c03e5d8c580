-- The first event of the origin that conflicts with a noted one.
use Rattle.std.proofs.Common.{◌≡◌, ℕ, ◌+◌, ◌<◌, Bool, true, false, if◌then◌else◌, List, Option, Some, None, inl, inr, refl, sym, subst, arith}
use Rattle.std.specs.Prelude.{◌↔◌, slice_get}
use Rattle.std.proofs.lemmas.Bool.{cases_eq, false≢true}
use Rattle.aero_model.specs.declared.numbered.Numbered.{Numbered}
use Rattle.aero_witness.specs.Marks.{Key, source_of, AreNoted}
use Rattle.aero_witness.specs.Reached.{HasSource, IsWayBack}
use Rattle.aero_witness.proofs.Noted.{none_noted, source_sound, source_complete}

module _ (trace : List Numbered) (firsts : List ℕ) (first : ℕ) (noted : ℕ → Bool) where
  -- so far none
  pub record Returning (n : ℕ) (marks : Key → Option ℕ) : Type 0 where
    pub noted_are : AreNoted trace noted n marks
    pub no_way_back : (j : ℕ) → j < n → slice_get firsts j ≡ Some first → HasSource trace noted j → ⊥

  pub none_returning : (marks : Key → Option ℕ) → ((k : Key) → marks k ≡ None) → Returning 0 marks
  none_returning marks none =
      record { noted_are = none_noted trace noted marks none; no_way_back = λ j l. absurd (omega arith) }

  module _ (n : ℕ) (e : Numbered) (at : slice_get trace n ≡ Some e) (marks : Key → Option ℕ) (h : Returning n marks) where
    -- a source that is asked for at the origin
    pub none_returns : (at_origin : Bool) → ((at_origin ≡ true) ↔ (slice_get firsts n ≡ Some first)) → None ≡ (if at_origin then source_of marks e else None) → (j : ℕ) → j < n + 1 → slice_get firsts j ≡ Some first → HasSource trace noted j → ⊥
    none_returns at_origin is none j l of has = elim (cases_eq j n) [
      | inr other ↦ h.no_way_back j (omega arith) of has
      | inl same ↦ go at_origin (is.1 (subst (λ i. slice_get firsts i ≡ Some first) same of)) none (subst (HasSource trace noted) same has)
    ]
      where
        go : (b : Bool) → b ≡ true → None ≡ (if b then source_of marks e else None) → HasSource trace noted n → ⊥
        go true b none (i, f, c) = source_complete trace noted n e at marks h.noted_are (sym none) i f c
        go false b none has = false≢true b

    pub one_returns : (at_origin : Bool) (from : ℕ) → ((at_origin ≡ true) ↔ (slice_get firsts n ≡ Some first)) → Some from ≡ (if at_origin then source_of marks e else None) → IsWayBack trace firsts first noted (record { enters = n; from = from })
    one_returns false from is some = absurd (cc)
    one_returns true from is some = let s = source_sound trace noted n e at marks h.noted_are from (sym some) in (is.0 refl, s.0, s.1)
