-- Whether a transaction is ready can be decided, and what stands in its way can be found.
use Rattle.std.proofs.Common.{◌≡◌, ◌≢◌, ◌⊎◌, ℕ, suc, ◌<◌, List, length, get_or, Some, inl, inr, refl, sym, ◌∙◌, ap, subst, arith}
use Rattle.std.specs.Prelude.{slice_get, Contains}
use Rattle.std.proofs.lemmas.Bool.{cases_lt, cases_order}
use Rattle.std.proofs.lemmas.Option.{slice_get_within, slice_get-get_or, get_or_from_slice_get}
use Rattle.std.proofs.lemmas.List.Elements.{Contains-get_or}
use Rattle.aero_model.specs.declared.numbered.Numbered.{Numbered}
use Rattle.aero_model.specs.Blocks.{Transaction, transaction}
use Rattle.aero_model.specs.Graph.{Conflict, Edge}
use Rattle.aero_model.specs.Serial.{IsFirstPlace, Stands, IsReady}
use Rattle.aero_model.proofs.Searching.{Decided, Least, NoneBelow, search_below}
use Rattle.aero_model.proofs.Places.{cases_transaction}
use Rattle.aero_model.proofs.Conflicting.{cases_conflict}

module _ (trace : List Numbered) where
  abbrev of_place : ℕ → Transaction
  of_place n = transaction trace n

  -- by their places in the list
  pub stands_at : (order : List ℕ) (i n : ℕ) → slice_get order i ≡ Some n → Stands trace order (of_place n)
  stands_at order i n at = (n, (i, slice_get_within order i n at, get_or_from_slice_get order i n n at), refl)

  pub place_of : (order : List ℕ) (n : ℕ) → Contains order n → (i : ℕ) × (slice_get order i ≡ Some n)
  place_of order n (k, l, e) = (k, slice_get-get_or order k n l ∙ ap Some e)

  abbrev At : List ℕ → Transaction → ℕ → Type 0
  At order x k = of_place (get_or order k 0) ≡ x

  pub decided_stands : (order : List ℕ) (x : Transaction) → Decided (Stands trace order x)
  decided_stands order x = go (search_below (At order x) (length order) (λ k l. cases_transaction (of_place (get_or order k 0)) x))
    where
      go : Least (At order x) (length order) ⊎ NoneBelow (At order x) (length order) → Decided (Stands trace order x)
      go (inl f) = inl (get_or order f.number 0, Contains-get_or order f.number 0 f.below, f.has)
      go (inr none) = inr (λ s. let p = place_of order s.0 s.1 in none p.0 (slice_get_within order p.0 s.0 p.1) (ap of_place (get_or_from_slice_get order p.0 s.0 0 p.1) ∙ s.2))

  -- the first place of a transaction that occurs
  pub record FirstOf (x : Transaction) : Type 0 where
    pub place : ℕ
    pub first : IsFirstPlace trace place
    pub of : of_place place ≡ x

  pub first_of_place : (n : ℕ) → n < length trace → FirstOf (of_place n)
  first_of_place n l = go (search_below (λ m. of_place m ≡ of_place n) (suc n) (λ m k. cases_transaction (of_place m) (of_place n)))
    where
      go : Least (λ m. of_place m ≡ of_place n) (suc n) ⊎ NoneBelow (λ m. of_place m ≡ of_place n) (suc n) → FirstOf (of_place n)
      go (inl f) = let b = f.below in record { place = f.number; first = record { within = omega arith; first = λ m k e. f.least m k (e ∙ f.has) }; of = f.has }
      go (inr none) = absurd (none n (omega arith) refl)

  -- a transaction has one first place
  pub one_first : (m n : ℕ) → IsFirstPlace trace m → IsFirstPlace trace n → of_place m ≡ of_place n → m ≡ n
  one_first m n a b e = elim (cases_order m n) [ inl same ↦ same | inr (inl l) ↦ absurd (b.first m l e) | inr (inr l) ↦ absurd (a.first n l (sym e)) ]

  pub decided_first : (n : ℕ) → Decided (IsFirstPlace trace n)
  decided_first n = elim (cases_lt n (length trace)) [
    | inr le ↦ inr (λ f. omega (arith, f.within))
    | inl l ↦ elim (search_below (λ m. of_place m ≡ of_place n) n (λ m k. cases_transaction (of_place m) (of_place n))) [
      | inl f ↦ inr (λ h. h.first f.number f.below f.has)
      | inr none ↦ inl record { within = l; first = none }
    ]
  ]

  -- an event of a transaction that doesn't stand yet conflicts with a later one of y
  pub record Hinders (order : List ℕ) (y : Transaction) (from to : ℕ) : Type 0 where
    pub conflict : Conflict trace from to
    pub apart : of_place from ≢ y
    pub to_in : of_place to ≡ y
    pub missing : ¬ Stands trace order (of_place from)

  pub record Blocked (order : List ℕ) (y : Transaction) : Type 0 where
    pub from : ℕ
    pub to : ℕ
    pub within : to < length trace
    pub hinders : Hinders order y from to

  decided_hinders : (order : List ℕ) (y : Transaction) (from to : ℕ) → to < length trace → Decided (Hinders order y from to)
  decided_hinders order y from to l = go (cases_conflict trace from to l) (cases_transaction (of_place from) y) (cases_transaction (of_place to) y) (decided_stands order (of_place from))
    where
      go : Decided (Conflict trace from to) → Decided (of_place from ≡ y) → Decided (of_place to ≡ y) → Decided (Stands trace order (of_place from)) → Decided (Hinders order y from to)
      go (inl c) (inr d) (inl e) (inr m) = inl record { conflict = c; apart = d; to_in = e; missing = m }
      go (inr c) _ _ _ = inr (λ b. c b.conflict)
      go (inl c) (inl e) _ _ = inr (λ b. b.apart e)
      go (inl c) (inr d) (inr e) _ = inr (λ b. e b.to_in)
      go (inl c) (inr d) (inl e) (inl m) = inr (λ b. b.missing m)

  abbrev pub AllBefore : List ℕ → Transaction → Type 0
  AllBefore order y = (x : Transaction) → Edge trace (length trace) x y → Stands trace order x

  abbrev Into : List ℕ → Transaction → ℕ → Type 0
  Into order y to = Least (λ from. Hinders order y from to) to

  pub blocked_or_after : (order : List ℕ) (y : Transaction) → Blocked order y ⊎ AllBefore order y
  blocked_or_after order y = go (search_below (Into order y) (length trace) into)
    where
      into : (to : ℕ) → to < length trace → Decided (Into order y to)
      into to l = elim (search_below (λ from. Hinders order y from to) to (λ from k. decided_hinders order y from to l)) [
        | inl f ↦ inl f
        | inr none ↦ inr (λ f. none f.number f.below f.has)
      ]

      go : Least (Into order y) (length trace) ⊎ NoneBelow (Into order y) (length trace) → Blocked order y ⊎ AllBefore order y
      go (inl f) = inl record { from = (f.has).number; to = f.number; within = f.below; hinders = (f.has).has }
      go (inr none) = inr (λ x edge. elim (decided_stands order x) [
        | inl s ↦ s
        | inr d ↦
            let e = edge.from_in in
            let hinders : Hinders order y edge.from edge.to =
            record { conflict = edge.conflict; apart = λ q. edge.apart (sym e ∙ q); to_in = edge.to_in; missing = λ s. d (subst (Stands trace order) e s) } in
            let found = search_below (λ from. Hinders order y from edge.to) edge.to (λ from k. decided_hinders order y from edge.to edge.within) in
            elim found [
              | inl f ↦ absurd (none edge.to edge.within f)
              | inr no_one ↦ absurd (no_one edge.from ((edge.conflict).earlier) hinders)
            ]
      ])

  pub decided_ready : (order : List ℕ) (n : ℕ) → Decided (IsReady trace order n)
  decided_ready order n = go (decided_first n) (decided_stands order (of_place n)) (blocked_or_after order (of_place n))
    where
      go : Decided (IsFirstPlace trace n) → Decided (Stands trace order (of_place n)) → Blocked order (of_place n) ⊎ AllBefore order (of_place n) → Decided (IsReady trace order n)
      go (inr f) _ _ = inr (λ r. f r.place)
      go (inl f) (inl s) _ = inr (λ r. r.new s)
      go (inl f) (inr d) (inr a) = inl record { place = f; new = d; after = a }
      go (inl f) (inr d) (inl b) =
          let h = b.hinders in
          let edge : Edge trace (length trace) (of_place b.from) (of_place n) =
          record { apart = h.apart; from = b.from; from_in = refl; to = b.to; to_in = h.to_in; within = b.within; conflict = h.conflict } in
          inr (λ r. h.missing (r.after (of_place b.from) edge))
