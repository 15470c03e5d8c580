-- One name more that can be found.
use Rattle.std.proofs.Common.{◌≡◌, ℕ, ◌+◌, ◌<◌, ◌≤◌, ◌==◌, ◌⊎◌, inl, inr, true, false, cond, List, [], ◌∷◌, ◌++◌, length, get_or, refl, sym, ◌∙◌, ap, subst, arith, length-append, if◌then◌else◌}
use Rattle.std.proofs.lemmas.Bool.{cases_lt, cases_Bool, eqb-true, eqb-false}
use Rattle.std.proofs.Math.ListN.{get_or-append}
use Rattle.aero_names.specs.Indexed.{name_in, IsLatest, IsIndexed}

at_end : (xs : List ℕ) (x : ℕ) → get_or (xs ++ x ∷ []) (length xs) 0 ≡ x
at_end [] x = refl
at_end (first ∷ xs) x = at_end xs x

module _ (of : List ℕ → ℕ) (names : List (List ℕ)) (next after : ℕ → ℕ) (before more : List ℕ) (number hash : ℕ)
    (indexed : IsIndexed of names number next before)
    (hash_is : hash ≡ of (name_in names number))
    (updates : (h : ℕ) → after h ≡ (if hash == h then number + 1 else next h))
    (rows : more ≡ before ++ next hash ∷ []) where
  latest_here : IsLatest of names hash (number + 1) (number + 1)
  latest_here = record { within = omega arith; here = λ n is. let same : n ≡ number = omega (arith, is) in ap (λ k. of (name_in names k)) same ∙ sym hash_is; others = λ n le less _. omega (arith, le, less) }

  latest_there : (h nx : ℕ) → (hash ≡ h → ⊥) → IsLatest of names h number nx → IsLatest of names h (number + 1) nx
  latest_there h nx apart latest =
      record {
        within = let le = latest.within in omega (arith, le);
        here = latest.here;
        others = λ n le less at. past n le less at (cases_lt n number);
      }
    where
      past : (n : ℕ) → nx ≤ n → n < number + 1 → of (name_in names n) ≡ h → (n < number) ⊎ (number ≤ n) → ⊥
      past n le less at (inl below) = latest.others n le below at
      past n le less at (inr reached) =
          let same : n ≡ number = omega (arith, less, reached) in
          apart (hash_is ∙ (ap (λ k. of (name_in names k)) (sym same) ∙ at))

  hashes_now : (h : ℕ) → IsLatest of names h (number + 1) (after h)
  hashes_now h = subst (IsLatest of names h (number + 1)) (sym (updates h)) (go (cases_Bool (hash == h)))
    where
      go : ((hash == h) ≡ true) ⊎ ((hash == h) ≡ false) → IsLatest of names h (number + 1) (if hash == h then number + 1 else next h)
      go (inl same) =
          subst (λ b. IsLatest of names h (number + 1) (cond b (number + 1) (next h))) (sym same)
          (subst (λ k. IsLatest of names k (number + 1) (number + 1)) (eqb-true hash h same) latest_here)
      go (inr apart) =
          subst (λ b. IsLatest of names h (number + 1) (cond b (number + 1) (next h))) (sym apart)
          (latest_there h (next h) (eqb-false hash h apart) (indexed.at_hashes h))

  behind_now : (n : ℕ) → n < number + 1 → IsLatest of names (of (name_in names n)) n (get_or more n 0)
  behind_now n less = go (cases_lt n number)
    where
      long : length before ≡ number
      long = indexed.long

      go : (n < number) ⊎ (number ≤ n) → IsLatest of names (of (name_in names n)) n (get_or more n 0)
      go (inl below) =
          subst (IsLatest of names (of (name_in names n)) n)
          (sym (ap (λ bs. get_or bs n 0) rows ∙ get_or-append before (next hash ∷ []) 0 n (omega (arith, long, below))))
          (indexed.behind n below)
      go (inr reached) =
          let same : n ≡ number = omega (arith, less, reached) in
          let last : get_or more n 0 ≡ next hash = ap (λ bs. get_or bs n 0) rows ∙ (ap (λ k. get_or (before ++ next hash ∷ []) k 0) (same ∙ sym long) ∙ at_end before (next hash)) in
          subst (IsLatest of names (of (name_in names n)) n) (sym last)
          (subst (λ k. IsLatest of names (of (name_in names k)) k (next hash)) (sym same)
          (subst (λ h. IsLatest of names h number (next hash)) hash_is (indexed.at_hashes hash)))

  pub linked : IsIndexed of names (number + 1) after more
  linked =
      record {
        at_hashes = hashes_now;
        behind = behind_now;
        long = ap length rows ∙ (length-append before (next hash ∷ []) ∙ ap (λ n. n + 1) indexed.long);
      }
