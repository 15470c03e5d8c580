-- When what was read decides: a line is malformed or one too many, or a verdict is certain.
use Rattle.std.proofs.Common.{◌≡◌, ℕ, true, false, Bool, List, [], ◌++◌, map, Option, Some, None, refl, sym, ◌∙◌, ap, subst, append_assoc}
use Rattle.std.specs.Prelude.{IfSome, is_some}
use Rattle.std.proofs.lemmas.List.{append-nil, map-append}
use Rattle.aero_model.specs.declared.verdict.Cycle.{Cycle}
use Rattle.aero_model.specs.declared.verdict.Finding.{Finding}
use Rattle.aero_model.specs.declared.verdict.Finding.TheVariants.{Judged, Ordered, Explained, Opened, Broken, TooLarge}
use Rattle.aero_model.specs.declared.verdict.Verdict.{Verdict}
use Rattle.aero_model.specs.declared.verdict.Verdict.TheVariants.{Serializable, Pending, Violation, Malformed, IllFormed}
use Rattle.aero_grammar.specs.Reading.{Reading, reading_of}
use Rattle.aero_verdict.specs.Explained.{IsCycleOf}
use Rattle.aero_verdict.specs.Fed.{IsCertain}
use Rattle.aero_judge.specs.Finding.{IsTraceFinding}
use Rattle.aero_model.specs.Terms.{Terms, Rules}
use Rattle.aero_judge.specs.Opened.{has_blocks}
use Rattle.aero_verdict.specs.Ordered.{has_order, is_faultless}
use Rattle.aero_verdict.specs.Verdict.{IsVerdict}
use Rattle.aero_verdict.proofs.OneVerdict.{one_verdict}
use Rattle.aero_verdict.proofs.Staying.{certain_more}
use Rattle.aero_intake.specs.Held.{decides, IsDecisive, IsFinal}
use Rattle.aero_intake.proofs.Decided.{first_parts_decide}
use Rattle.aero_intake.proofs.Judged.{alike_back, same_finding}

-- a line is malformed, or there are more lines than may be
pub faulty_decides : (terms : Terms) (parts : List Reading) → decides terms.rules.limits parts ≡ true → IsDecisive terms parts
faulty_decides terms parts is more f =
    let all = parts ++ map reading_of more in
    let alike = first_parts_decide terms.rules parts more is in
    (same_finding terms all parts f (alike_back terms.rules parts all alike), same_finding terms parts all f alike)

-- an order goes with a verdict only where nothing is wrong
ordered_faultless : (order : Bool) (v : Verdict) → has_order order v ≡ true → is_faultless v ≡ true
ordered_faultless order (Serializable events blocks) is = refl
ordered_faultless order (Pending events blocks pending) is = refl
ordered_faultless order (Violation line thread begun) is = cc (is)
ordered_faultless order (Malformed line fault) is = cc (is)
ordered_faultless order (IllFormed line fault) is = cc (is)

-- nor do open blocks
opened_faultless : (explain : Bool) (v : Verdict) → has_blocks explain v ≡ true → is_faultless v ≡ true
opened_faultless explain (Serializable events blocks) is = refl
opened_faultless explain (Pending events blocks pending) is = refl
opened_faultless explain (Violation line thread begun) is = cc (is)
opened_faultless explain (Malformed line fault) is = cc (is)
opened_faultless explain (IllFormed line fault) is = cc (is)

not_both : (b : Bool) → b ≡ true → b ≡ false → ⊥
not_both b is_true is_false = cc (is_true, is_false)

-- parts with the same verdict have the same finding where something is wrong, and what shows it of the first shows it of the others
found_wrong : (terms : Terms) (here there : List Reading) (v : Verdict) → IsVerdict here terms.rules v →
    IsVerdict there terms.rules v → is_faultless v ≡ false → ((cycle : Cycle) → IsCycleOf here terms.rules v cycle → IsCycleOf there terms.rules v cycle) →
    (f : Finding) → IsTraceFinding here terms f → IsTraceFinding there terms f
found_wrong terms here there v at_here at_there wrong shows (Judged w) is =
    let same : v ≡ w = one_verdict here terms.rules v w at_here is.0 in
    (subst (IsVerdict there terms.rules) same at_there, is.1, is.2)
found_wrong terms here there v at_here at_there wrong shows (Ordered w steps) is =
    let same : v ≡ w = one_verdict here terms.rules v w at_here is.0 in
    absurd (not_both (is_faultless w) (ordered_faultless terms.order w is.1) (sym (ap is_faultless same) ∙ wrong))
found_wrong terms here there v at_here at_there wrong shows (Explained w cycle) is =
    let same : v ≡ w = one_verdict here terms.rules v w at_here is.0 in (
      subst (IsVerdict there terms.rules) same at_there,
      is.1,
      subst (λ u. IsCycleOf there terms.rules u cycle) same (shows cycle (subst (λ u. IsCycleOf here terms.rules u cycle) (sym same) is.2)),
    )
found_wrong terms here there v at_here at_there wrong shows (Opened w blocks) is =
    let same : v ≡ w = one_verdict here terms.rules v w at_here is.0 in
    absurd (not_both (is_faultless w) (opened_faultless terms.explain w is.1) (sym (ap is_faultless same) ∙ wrong))
found_wrong terms here there v at_here at_there wrong shows (Broken bytes) is = absurd is
found_wrong terms here there v at_here at_there wrong shows TooLarge is = absurd is

-- a verdict is certain
pub certain_decides : (terms : Terms) (parts : List Reading) (v : Verdict) → IsCertain parts terms.rules v → IsDecisive terms parts
certain_decides terms parts v is more f =
    let rest = map reading_of more in
    let all = parts ++ rest in
    let at_parts : IsVerdict parts terms.rules v = subst (λ ps. IsVerdict ps terms.rules v) (append-nil parts) (is.is_verdict []) in
    let at_all = is.is_verdict rest in
    (found_wrong terms all parts v at_all at_parts is.wrong (λ c. (is.explained rest c).0) f, found_wrong terms parts all v at_parts at_all is.wrong (λ c. (is.explained rest c).1) f)

-- and stays so with more parts
pub certain_longer : (parts more : List Reading) (rules : Rules) (o : Option Verdict) → IfSome o (IsCertain parts rules) →
    IfSome o (IsCertain (parts ++ more) rules)
certain_longer parts more rules None is = tt
certain_longer parts more rules (Some v) is = certain_more parts more rules v is

pub some_certain_decides : (terms : Terms) (parts : List Reading) (rules : Rules) (o : Option Verdict) → rules ≡ terms.rules →
    IfSome o (IsCertain parts rules) → is_some o ≡ true → IsDecisive terms parts
some_certain_decides terms parts rules None same is some = cc (some)
some_certain_decides terms parts rules (Some v) same is some =
    certain_decides terms parts v (subst (λ (r : Rules). IsCertain parts r v) same is)

-- more chunks decide where the first ones do
pub more_decide : (terms : Terms) (parts : List Reading) (chunks : List (List ℕ)) → IsDecisive terms parts → IsDecisive terms (parts ++ map reading_of chunks)
more_decide terms parts chunks is more f =
    let here = is chunks f in
    let there = is (chunks ++ more) f in
    let same : parts ++ map reading_of (chunks ++ more) ≡ (parts ++ map reading_of chunks) ++ map reading_of more =
    ap (λ rs. parts ++ rs) (map-append reading_of chunks more) ∙ sym (append_assoc parts (map reading_of chunks) (map reading_of more)) in (
      λ found. here.1 (there.0 (subst (λ rs. IsTraceFinding rs terms f) (sym same) found)),
      λ found. subst (λ rs. IsTraceFinding rs terms f) same (there.1 (here.0 found)),
    )
