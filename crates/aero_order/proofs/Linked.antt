-- Which edges there are once some have been added.
use Rattle.std.proofs.Common.{ℕ, List, [], ◌++◌, inl, inr, arith}
use Rattle.std.proofs.lemmas.List.Elements.{Contains-append_left, Contains-append_right, Contains-append_cases}
use Rattle.aero_order.specs.LastNumbers.{AreLinked}
use Rattle.aero_order.specs.Waiting.{Pair}

-- from no number
pub linked_none : (edges : List Pair) (v : ℕ) → AreLinked edges v [] edges
linked_none edges v = record { stay = λ d c. c; each = λ u c apart. absurd (omega (arith, c.1)); only = λ u w c. inl c }

-- from some numbers, and then from more
pub linked_append : (edges more most : List Pair) (v : ℕ) (us ws : List ℕ) → AreLinked edges v us more → AreLinked more v ws most → AreLinked edges v (us ++ ws) most
linked_append edges more most v us ws a b = record {
  stay = λ d c. b.stay d (a.stay d c);
  each = λ u c apart. elim (Contains-append_cases us ws u c) [ inl early ↦ b.stay (u, v) (a.each u early apart) | inr late ↦ b.each u late apart ];
  only = λ u w c. elim (b.only u w c) [
    | inl old ↦ elim (a.only u w old) [ inl older ↦ inl older | inr new ↦ inr (Contains-append_left us ws u new.0, new.1, new.2) ]
    | inr new ↦ inr (Contains-append_right us ws u new.0, new.1, new.2)
  ];
}
