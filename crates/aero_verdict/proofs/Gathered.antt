-- What a monitor that keeps transactions has at its end, and what is told of it.
use Rattle.std.proofs.Common.{◌≡◌, ◌↔◌, ℕ, Bool, true, false, Vec, Global, List, length, map, Option, Some, None, inl, inr, refl, sym, ◌∙◌, subst}
use Rattle.std.specs.Prelude.{All, Result, Ok, Err, is_some, option_map, IfOk, IfSome, OnOk, OnErr, IsOk, IsOkAnd, IsSome, IsTrue}
use Rattle.std.specs.declared.alloc.AllocError.{AllocError}
use Rattle.std.proofs.lemmas.Bool.{cases_Bool, true≢false}
use Rattle.aero_model.specs.declared.numbered.Numbered.{Numbered}
use Rattle.aero_model.specs.declared.verdict.Step.{Step}
use Rattle.aero_model.specs.declared.verdict.Verdict.{Verdict}
use Rattle.aero_model.specs.declared.verdict.Verdict.TheVariants.{Serializable, Pending, Violation, Malformed, IllFormed}
use Rattle.aero_model.specs.Cycle.{IsSerializable}
use Rattle.aero_model.specs.Shape.{IsWellFormed}
use Rattle.aero_model.specs.Verdicts.{HasOwnFault}
use Rattle.aero_grammar.specs.Reading.{Reading}
use Rattle.aero_engine.specs.Given.{words_of}
use Rattle.aero_order.specs.declared.first.First.{First}
use Rattle.aero_order.specs.declared.transactions.Transactions.{Transactions}
use Rattle.aero_order.specs.Came.{places_in}
use Rattle.aero_order.specs.Standing.{StandsFor}
use Rattle.aero_verdict.specs.declared.checker.Checker.{Checker}
use Rattle.aero_verdict.specs.declared.in_order.InOrder.{InOrder}
use Rattle.aero_verdict.specs.declared.numbering.Numbering.{Numbering}
use Rattle.aero_verdict.specs.InOrder.{StandsForBoth, came_of, KeepsFirsts, KeepsInOrder, AreGathered, AreFirstsInOrder, step_in}
use Rattle.aero_verdict.specs.Standing.{KeepsFirst}
use Rattle.aero_verdict.specs.Limited.{IsNamedThread}
use Rattle.aero_verdict.specs.Monitored.{TellsFed}
use Rattle.aero_verdict.specs.Ordered.{is_faultless, has_order, AreLinesInOrder, TellsInOrder}
use Rattle.aero_verdict.specs.Parts.{KeepsAt, NamesAll}
use Rattle.aero_verdict.specs.Verdict.{counted_events, checked_trace, IsVerdict}
use Rattle.aero_model.specs.Terms.{Rules}
use Rattle.aero_verdict.proofs.Faultless.{well_formed_of, same_faultless, right_where_ordered, no_cycle_where_ordered, no_cycle_of}
use Rattle.aero_verdict.proofs.FirstEvents.{StandsAt, all_stand, all_named, steps_are, lines_are}

module _ (parts : List Reading) (rules : Rules) (checker : Checker InOrder) (transactions : Transactions) (numbering : Numbering) (same_transactions : transactions ≡ checker.engine.transactions) (same_numbering : numbering ≡ checker.numbering) where
  abbrev Tells : Verdict → Type 0
  Tells v = TellsFed (words_of StandsForBoth KeepsInOrder) rules parts checker v

  kept_where_right : (v : Verdict) → is_faultless v ≡ true → KeepsAt KeepsInOrder rules parts checker v → KeepsFirst KeepsInOrder rules (counted_events parts rules) (length (counted_events parts rules)) checker.engine
  kept_where_right (Serializable e b) right keeps = keeps
  kept_where_right (Pending e b p) right keeps = keeps
  kept_where_right (Violation l t b) right keeps = absurd (cc)
  kept_where_right (Malformed l f) right keeps = absurd (cc)
  kept_where_right (IllFormed l f) right keeps = absurd (cc)

  are_gathered : (v : Verdict) → is_faultless v ≡ true → Tells v → AreGathered rules parts transactions numbering
  are_gathered v right tells =
      let kept = kept_where_right v right tells.keeps_at in
      record {
        stands_for = subst (λ t. StandsFor t (checked_trace parts rules)) (sym same_transactions) (tells.stands_for right).1;
        firsts = record { given = kept.given; are_given = kept.are_given; kept = subst (λ t. KeepsFirsts t kept.given) (sym same_transactions) kept.kept };
        names = subst (NamesAll rules parts) (sym same_numbering) (tells.names right);
      }

  pub right_with_order : (wanted : Bool) (verdict : Result Verdict AllocError) → IfOk verdict (λ v. wanted ≡ has_order true v) → IfOk verdict (λ v. wanted ≡ true → is_faultless v ≡ true)
  right_with_order wanted (Ok v) same = λ yes_it_is. right_where_ordered parts rules v (sym same ∙ yes_it_is)
  right_with_order wanted (Err e) same = tt

  pub right_with_lines : (wanted : Bool) (verdict : Result Verdict AllocError) → IfOk verdict (λ v. wanted ≡ is_faultless v) → IfOk verdict (λ v. wanted ≡ true → is_faultless v ≡ true)
  right_with_lines wanted (Ok v) same = λ yes_it_is. sym same ∙ yes_it_is
  right_with_lines wanted (Err e) same = tt

  pub owned : {X : Type 0} (verdict : Result Verdict AllocError) → IfOk verdict Tells → (told : Result (Verdict × X) AllocError) → IfOk told (λ t. verdict ≡ Ok t.0) → IfOk told (λ t. HasOwnFault t.0)
  owned verdict tells (Ok t) is = (subst (λ r. IfOk r Tells) is tells).on.own_fault
  owned verdict tells (Err e) is = tt

  -- where the order is wanted, nothing is wrong
  module _ (verdict : Result Verdict AllocError) (tells : IfOk verdict Tells) (wanted : Bool) (right : IfOk verdict (λ v. wanted ≡ true → is_faultless v ≡ true)) (never : OnErr verdict (wanted ≡ false)) where
    gathered : wanted ≡ true → AreGathered rules parts transactions numbering
    gathered yes_it_is = go verdict tells right never
      where
        go : (verdict : Result Verdict AllocError) → IfOk verdict Tells → IfOk verdict (λ v. wanted ≡ true → is_faultless v ≡ true) → OnErr verdict (wanted ≡ false) → AreGathered rules parts transactions numbering
        go (Ok v) tells right never = are_gathered v (right yes_it_is) tells
        go (Err e) tells right never = absurd (true≢false (sym yes_it_is ∙ never))

    pub stands_where_wanted : wanted ≡ true → (trace : List Numbered) × StandsFor transactions trace
    stands_where_wanted yes_it_is = (checked_trace parts rules, (gathered yes_it_is).stands_for)

    stand : (firsts : List First) → AreFirstsInOrder transactions wanted (Some firsts) → All (StandsAt rules parts numbering) firsts
    stand firsts are =
        let has = gathered (are.only refl) in
        all_stand rules parts numbering has.names has.firsts.given has.firsts.are_given firsts (are.kept (map came_of has.firsts.given) has.firsts.kept)

    named : (found : Option (Vec First Global)) → AreFirstsInOrder transactions wanted (option_map (λ (fs : Vec First Global). fs.items) found) → IfSome found (λ fs. All (λ (f : First). IsNamedThread numbering f.thread) fs.items)
    named None are = tt
    named (Some fs) are = all_named rules parts numbering (gathered (are.only refl)).names fs.items (stand fs.items are)

    pub named_told : (firsts : Result (Option (Vec First Global)) AllocError) → IfOk firsts (λ found. AreFirstsInOrder transactions wanted (option_map (λ (fs : Vec First Global). fs.items) found)) →
        IfOk firsts (λ found. IfSome found (λ fs. All (λ (f : First). IsNamedThread numbering f.thread) fs.items))
    named_told (Ok found) are = named found are
    named_told (Err e) are = tt

    module _ (v : Verdict) (is : verdict ≡ Ok v) where
      abbrev trace : List Numbered
      trace = checked_trace parts rules

      its : Tells v
      its = subst (λ r. IfOk r Tells) is tells

      its_right : wanted ≡ true → is_faultless v ≡ true
      its_right = subst (λ r. IfOk r (λ w. wanted ≡ true → is_faultless w ≡ true)) is right

      well : wanted ≡ true → IsWellFormed trace
      well yes_it_is = well_formed_of parts rules v its.on.is_verdict (its_right yes_it_is)

      exact : (found : Option (List First)) → AreFirstsInOrder transactions wanted found → wanted ≡ true → (is_some found ≡ true) ↔ IsSerializable trace (length trace)
      exact found are yes_it_is = are.exact yes_it_is trace (well yes_it_is) (gathered yes_it_is).stands_for

      -- the steps
      module _ (same : wanted ≡ has_order true v) where
        none_ordered : AreFirstsInOrder transactions wanted None → false ≡ has_order true v
        none_ordered are = elim (cases_Bool (has_order true v)) [
          | inl order ↦ absurd (true≢false (sym ((exact None are (same ∙ order)).1 (no_cycle_where_ordered parts rules v its.on.is_verdict order))))
          | inr no_order ↦ sym no_order
        ]

        tells_in_order : (found : Option (Vec First Global)) → AreFirstsInOrder transactions wanted (option_map (λ (fs : Vec First Global). fs.items) found) → TellsInOrder parts rules v (option_map (λ (fs : Vec First Global). map (step_in numbering) fs.items) found)
        tells_in_order None are = record { verdict_is = its.on.is_verdict; where_ordered = none_ordered are; steps_are = tt }
        tells_in_order (Some fs) are =
            let yes_it_is = are.only refl in
            record {
              verdict_is = its.on.is_verdict;
              where_ordered = sym yes_it_is ∙ same;
              steps_are = (places_in fs.items, are.serial trace (well yes_it_is) (gathered yes_it_is).stands_for, steps_are rules parts numbering (gathered yes_it_is).names fs.items (stand fs.items are));
            }

      -- the lines
      lines_in_order : (found : Option (Vec First Global)) → AreFirstsInOrder transactions wanted (option_map (λ (fs : Vec First Global). fs.items) found) → IfSome (option_map (λ (fs : Vec First Global). map (λ (f : First). f.line) fs.items) found) (AreLinesInOrder parts rules)
      lines_in_order None are = tt
      lines_in_order (Some fs) are =
          let yes_it_is = are.only refl in
          (places_in fs.items, are.serial trace (well yes_it_is) (gathered yes_it_is).stands_for, lines_are rules parts numbering (gathered yes_it_is).names fs.items (stand fs.items are))

      exactly : wanted ≡ is_faultless v → (found : Option (List First)) → AreFirstsInOrder transactions wanted found → (w : Verdict) → IsVerdict parts rules w → (is_some found ≡ true) ↔ ((is_faultless w ≡ true) × IsSerializable trace (length trace))
      exactly same found are w told = (
        λ some. (let yes_it_is = are.only some in (same_faultless parts rules w v told its.on.is_verdict ∙ its_right yes_it_is, (exact found are yes_it_is).0 some)),
        λ (right_too, none). (exact found are (same ∙ same_faultless parts rules v w its.on.is_verdict told ∙ right_too)).1 none,
      )

    -- the answer that is made of the verdict and the first events
    module _ (firsts : Result (Option (Vec First Global)) AllocError) (are : IfOk firsts (λ found. AreFirstsInOrder transactions wanted (option_map (λ (fs : Vec First Global). fs.items) found))) where
      pub steps_finished : IfOk verdict (λ v. wanted ≡ has_order true v) → (told : Result (Verdict × Option (Vec Step Global)) AllocError) → IfOk told (λ t. verdict ≡ Ok t.0) →
          IfOk told (λ t. IsOkAnd firsts (λ found. option_map (λ (ss : Vec Step Global). ss.items) t.1 ≡ option_map (λ (fs : Vec First Global). map (step_in numbering) fs.items) found)) →
          IfOk told (λ t. TellsInOrder parts rules t.0 (option_map (λ (ss : Vec Step Global). ss.items) t.1))
      steps_finished same (Ok t) is steps = go firsts are steps
        where
          go : (firsts : Result (Option (Vec First Global)) AllocError) → IfOk firsts (λ found. AreFirstsInOrder transactions wanted (option_map (λ (fs : Vec First Global). fs.items) found)) →
              IsOkAnd firsts (λ found. option_map (λ (ss : Vec Step Global). ss.items) t.1 ≡ option_map (λ (fs : Vec First Global). map (step_in numbering) fs.items) found) → TellsInOrder parts rules t.0 (option_map (λ (ss : Vec Step Global). ss.items) t.1)
          go (Ok found) are steps =
              subst (TellsInOrder parts rules t.0) (sym steps) (tells_in_order t.0 is (subst (λ r. IfOk r (λ v. wanted ≡ has_order true v)) is same) found are)
          go (Err e) are steps = absurd steps
      steps_finished same (Err e) is steps = tt

      -- what is told of the lines
      pub record AreLinesTold (order : Option (Vec ℕ Global)) : Type 0 where
        pub exact_is : (w : Verdict) → IsVerdict parts rules w → (is_some order ≡ true) ↔ ((is_faultless w ≡ true) × IsSerializable (checked_trace parts rules) (length (checked_trace parts rules)))
        pub lines_are : IfSome order (λ ls. AreLinesInOrder parts rules ls.items)

      lines_of_found : (v : Verdict) → verdict ≡ Ok v → wanted ≡ is_faultless v → (found : Option (Vec First Global)) → AreFirstsInOrder transactions wanted (option_map (λ (fs : Vec First Global). fs.items) found) →
          (order : Option (Vec ℕ Global)) → option_map (λ (ls : Vec ℕ Global). ls.items) order ≡ option_map (λ (fs : Vec First Global). map (λ (f : First). f.line) fs.items) found → AreLinesTold order
      lines_of_found v is same None are None told = record { exact_is = exactly v is same None are; lines_are = tt }
      lines_of_found v is same (Some fs) are (Some ls) told =
          record { exact_is = exactly v is same (Some fs.items) are; lines_are = subst (λ o. IfSome o (AreLinesInOrder parts rules)) (sym told) (lines_in_order v is (Some fs) are) }
      lines_of_found v is same None are (Some ls) told = absurd (cc)
      lines_of_found v is same (Some fs) are None told = absurd (cc)

      lines_finished : IfOk verdict (λ v. wanted ≡ is_faultless v) → (told : Result (Option (Vec ℕ Global)) AllocError) → OnOk told (IsOk verdict) →
          IfOk told (λ o. IsOkAnd firsts (λ found. option_map (λ (ls : Vec ℕ Global). ls.items) o ≡ option_map (λ (fs : Vec First Global). map (λ (f : First). f.line) fs.items) found)) → IfOk told AreLinesTold
      lines_finished same (Ok order) ok lines = go verdict refl firsts are same ok lines
        where
          go : (r : Result Verdict AllocError) → verdict ≡ r → (firsts : Result (Option (Vec First Global)) AllocError) → IfOk firsts (λ found. AreFirstsInOrder transactions wanted (option_map (λ (fs : Vec First Global). fs.items) found)) → IfOk r (λ v. wanted ≡ is_faultless v) → IsOk r →
              IsOkAnd firsts (λ found. option_map (λ (ls : Vec ℕ Global). ls.items) order ≡ option_map (λ (fs : Vec First Global). map (λ (f : First). f.line) fs.items) found) → AreLinesTold order
          go (Ok v) is (Ok found) are same ok lines = lines_of_found v is same found are order lines
          go (Ok v) is (Err e) are same ok lines = absurd lines
          go (Err e) is firsts are same ok lines = absurd (cc)
      lines_finished same (Err e) ok lines = tt

      module _ (same : IfOk verdict (λ v. wanted ≡ is_faultless v)) where
        pub order_exact : (told : Result (Option (Vec ℕ Global)) AllocError) → OnOk told (IsOk verdict) → IfOk told (λ o. IsOkAnd firsts (λ found. option_map (λ (ls : Vec ℕ Global). ls.items) o ≡ option_map (λ (fs : Vec First Global). map (λ (f : First). f.line) fs.items) found)) →
            IfOk told (λ o. (w : Verdict) → IsVerdict parts rules w → IsSome o ↔ (IsTrue (is_faultless w) × IsSerializable (checked_trace parts rules) (length (checked_trace parts rules))))
        order_exact (Ok order) ok lines = (lines_finished same (Ok order) ok lines).exact_is
        order_exact (Err e) ok lines = tt

        pub order_there : (told : Result (Option (Vec ℕ Global)) AllocError) → OnOk told (IsOk verdict) → IfOk told (λ o. IsOkAnd firsts (λ found. option_map (λ (ls : Vec ℕ Global). ls.items) o ≡ option_map (λ (fs : Vec First Global). map (λ (f : First). f.line) fs.items) found)) →
            IfOk told (λ o. (events blocks : ℕ) → IsVerdict parts rules (Serializable events blocks) → IsSome o)
        order_there (Ok order) ok lines = λ events blocks is. ((lines_finished same (Ok order) ok lines).exact_is (Serializable events blocks) is).1 (refl, no_cycle_of parts rules events blocks is)
        order_there (Err e) ok lines = tt

        pub order_lines : (told : Result (Option (Vec ℕ Global)) AllocError) → OnOk told (IsOk verdict) → IfOk told (λ o. IsOkAnd firsts (λ found. option_map (λ (ls : Vec ℕ Global). ls.items) o ≡ option_map (λ (fs : Vec First Global). map (λ (f : First). f.line) fs.items) found)) →
            IfOk told (λ o. IfSome o (λ ls. AreLinesInOrder parts rules ls.items))
        order_lines (Ok order) ok lines = (lines_finished same (Ok order) ok lines).lines_are
        order_lines (Err e) ok lines = tt
