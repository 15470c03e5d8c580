-- What is kept of a text that comes piece by piece.
use Rattle.std.proofs.Common.{◌≡◌, ℕ, suc, Bool, true, false, cond, List, [], ◌∷◌, ◌++◌, map, Option, Some, None, refl, sym, ◌∙◌, ap, subst, true≢false, ◌⊎◌, inl, inr, arith, append_assoc}
use Rattle.std.proofs.lemmas.Bool.{cases_Bool, ltb-true}
use Rattle.std.proofs.lemmas.List.{append-nil, map-append}
use Rattle.std.specs.Prelude.{option_to_list, option_map, slice_get, is_some, nat_lt, Result, Ok, Err, IfSome, OnOk}
use Rattle.std.specs.Result.{is_err}
use Rattle.std.specs.List.{concat}
use Rattle.aero_model.specs.declared.verdict.Cycle.{Cycle}
use Rattle.aero_model.specs.declared.verdict.Verdict.{Verdict}
use Rattle.aero_model.specs.declared.verdict.Verdict.TheVariants.{Serializable, Pending, Violation, Malformed, IllFormed}
use Rattle.aero_model.specs.declared.verdict.LineFault.TheVariants.{TooManyLines}
use Rattle.aero_model.specs.Lines.{EndsLine}
use Rattle.aero_model.specs.Named.{Named}
use Rattle.aero_grammar.specs.Reading.{Reading, reading_of, whole_reading}
use Rattle.aero_lines.specs.Cutting.{Cutting, nothing_yet, unless_empty, fed, block_of, last_block, blocks_from}
use Rattle.aero_lines.proofs.Steps.{last_block-shut, last_block-at}
use Rattle.aero_verdict.specs.Explained.{IsCycleOf, ShowsCertain, ShowsIfAsked}
use Rattle.aero_verdict.specs.Fed.{IsCertain, IsOpen}
use Rattle.aero_judge.specs.Judging.{Judging, nothing_judged}
use Rattle.aero_verdict.specs.Ordered.{is_faultless}
use Rattle.aero_verdict.specs.Verdict.{IsVerdict}
use Rattle.aero_model.specs.Terms.{Rules, Terms}
use Rattle.aero_verdict.proofs.Ending.{none_counted}
use Rattle.aero_verdict.proofs.OneVerdict.{one_verdict}
use Rattle.aero_feed.specs.Feeding.{IsTextVerdict, IsCertainOf, IsOpenText, ShowsText}
use Rattle.aero_feed.specs.Reads.{HasRead, GoesOn, IsSure, StandsAt, IsJudgedOut}
use Rattle.aero_feed.proofs.Ends.{ends_more, nothing_left}
use Rattle.aero_feed.proofs.SameVerdict.{blocks_read, cycle_of_text, verdict_of_text, verdict_of_parts}

-- nothing was read
pub read_nothing : HasRead [] nothing_yet []
read_nothing = record {
  says = blocks_read;
  ends = λ _. record { front = []; joined = refl; open_line = record { no_end = refl; short = omega arith } };
}

pub read_more : (text piece : List ℕ) (c : Cutting) (parts : List Reading) → HasRead text c parts →
    HasRead (text ++ piece) (fed c piece) (parts ++ map reading_of (option_to_list (block_of c piece)))
read_more text piece c parts is = record {
  says = λ more.
      let block = option_to_list (block_of c piece) in
      let rest = blocks_from (fed c piece) more in
      ap whole_reading (append_assoc parts (map reading_of block) (map reading_of rest) ∙ ap (λ rs. parts ++ rs) (sym (map-append reading_of block rest)))
      ∙ (is.says (piece ∷ more) ∙ ap reading_of (sym (append_assoc text piece (concat more))));
  ends = ends_more text piece c is.ends;
}

-- what is read in the end is the text
pub read_all : (text : List ℕ) (c : Cutting) (parts : List Reading) → HasRead text c parts →
    whole_reading (parts ++ map reading_of (option_to_list (last_block c))) ≡ reading_of text
read_all text c parts is = is.says [] ∙ ap reading_of (append-nil text)

-- where the text ends a line all of it was read
pub all_read : (text : List ℕ) (c : Cutting) (parts : List Reading) → HasRead text c parts → EndsLine text → whole_reading parts ≡ reading_of text
all_read text c parts is ends =
    sym (ap whole_reading (ap (λ b. parts ++ map reading_of (option_to_list b)) (no_last (cases_Bool c.shut)) ∙ append-nil parts)) ∙ read_all text c parts is
  where
    no_last : (c.shut ≡ true) ⊎ (c.shut ≡ false) → last_block c ≡ None
    no_last (inl shut) = last_block-shut c shut
    no_last (inr goes) =
        let e = is.ends goes in
        last_block-at c goes ∙ ap (λ r. unless_empty r) (nothing_left e.front c.rest text e.joined e.open_line.no_end ends)

-- a verdict that is certain of the parts is certain of the text
pub certain_text : (text : List ℕ) (c : Cutting) (parts : List Reading) (rules : Rules) (verdict : Verdict) → HasRead text c parts → IsCertain parts rules verdict → IsCertainOf text rules verdict
certain_text text c parts rules verdict is certain = record {
  is_verdict = λ rest.
      let more = map reading_of (blocks_from c (rest ∷ [])) in
      verdict_of_text rules (parts ++ more) (text ++ rest) verdict (is.says (rest ∷ []) ∙ ap (λ t. reading_of (text ++ t)) (append-nil rest)) (certain.is_verdict more);
  own_fault = certain.own_fault;
  wrong = certain.wrong;
}

-- and what shows it of the parts shows it of the text
pub sure_text : (text : List ℕ) (c : Cutting) (fed : Judging) (verdict : Verdict) → HasRead text c fed.parts → IsCertain fed.parts fed.terms.rules verdict → IsSure text fed verdict
sure_text text c fed verdict is certain = record {
  certain = certain_text text c fed.parts fed.terms.rules verdict is certain;
  shown = λ rest cycle shows.
      let more = map reading_of (blocks_from c (rest ∷ [])) in
      cycle_of_text fed.terms.rules (fed.parts ++ more) (text ++ rest) verdict cycle (is.says (rest ∷ []) ∙ ap (λ t. reading_of (text ++ t)) (append-nil rest)) ((certain.explained more cycle).1 shows);
}

-- and it stays so
pub certain_on : (text piece : List ℕ) (rules : Rules) (verdict : Verdict) → IsCertainOf text rules verdict → IsCertainOf (text ++ piece) rules verdict
certain_on text piece rules verdict is = record {
  is_verdict = λ rest. subst (λ t. IsTextVerdict t rules verdict) (sym (append_assoc text piece rest)) (is.is_verdict (piece ++ rest));
  own_fault = is.own_fault;
  wrong = is.wrong;
}

sure_on : (text piece : List ℕ) (fed : Judging) (verdict : Verdict) → IsSure text fed verdict → IsSure (text ++ piece) fed verdict
sure_on text piece fed verdict is = record {
  certain = certain_on text piece fed.terms.rules verdict is.certain;
  shown = λ rest cycle shows. subst (λ t. IsCycleOf (reading_of t ∷ []) fed.terms.rules verdict cycle) (sym (append_assoc text piece rest)) (is.shown (piece ++ rest) cycle shows);
}

-- where the text ends a line, and nothing is wrong with its parts, nothing is wrong with it
pub open_text : (text : List ℕ) (c : Cutting) (parts : List Reading) (rules : Rules) → HasRead text c parts → IsOpen parts rules → EndsLine text → IsOpenText text rules
open_text text c parts rules is right ends verdict so =
    let says = all_read text c parts is ends in
    elim (right verdict (verdict_of_parts rules parts text verdict says so)) [
      | inl faultless ↦ inl faultless
      | inr (inl many) ↦ inr (inl many)
      | inr (inr late) ↦ inr (inr (late.0, late.1 ∙ ap (λ (r : Reading). Some (suc r.lines)) says))
    ]

no_some : {A : Type 0} {x : A} → None ≡ Some x → ⊥
no_some e = cc

none_too_many : (limit : ℕ) → nat_lt limit 0 ≡ false
none_too_many limit = go (cases_Bool (nat_lt limit 0))
  where
    go : (nat_lt limit 0 ≡ true) ⊎ (nat_lt limit 0 ≡ false) → nat_lt limit 0 ≡ false
    go (inl less) = absurd (omega (arith, ltb-true limit 0 less))
    go (inr none) = none

-- nothing is wrong with no part
faultless_nothing : (rules : Rules) (verdict : Verdict) → IsVerdict [] rules verdict → is_faultless verdict ≡ true
faultless_nothing rules (Serializable events blocks) is = refl
faultless_nothing rules (Pending events blocks pending) is = refl
faultless_nothing rules (Violation line thread begun) is = absurd (no_some (sym (ap (λ es. option_map (λ (e : ℕ × Named). e.0) (slice_get es is.place)) (none_counted rules)) ∙ is.line_of))
faultless_nothing rules (Malformed line fault) is =
    absurd (no_some (sym (ap (λ b. cond b (Some (suc rules.limits.lines, TooManyLines)) None) (none_too_many rules.limits.lines)) ∙ is.cause))
faultless_nothing rules (IllFormed line fault) is = absurd (no_some (sym (ap (λ es. option_map (λ (e : ℕ × Named). e.0) (slice_get es is.place)) (none_counted rules)) ∙ is.line_of))

-- before the first piece
pub stands_first : (terms : Terms) → StandsAt [] nothing_yet (nothing_judged terms) None
stands_first terms = record { reads = read_nothing; right = λ verdict is. inl (faultless_nothing terms.rules verdict is) }

-- with one piece more, where it was certain before
pub stands_sure : (text piece : List ℕ) (cutting : Cutting) (fed : Judging) (certain : Option Verdict) → is_some certain ≡ true → StandsAt text cutting fed certain → StandsAt (text ++ piece) cutting fed certain
stands_sure text piece cutting fed None sure is = absurd (true≢false (sym sure))
stands_sure text piece cutting fed (Some verdict) sure is = sure_on text piece fed verdict is

-- and where it wasn't
pub stands_more : (text piece : List ℕ) (cutting : Cutting) (was is : Judging) (certain : Option Verdict) → was.certain ≡ None → StandsAt text cutting was was.certain →
    is.terms ≡ was.terms → is.parts ≡ was.parts ++ map reading_of (option_to_list (block_of cutting piece)) →
    IfSome is.certain (IsCertain is.parts is.terms.rules) → (IsOpen was.parts was.terms.rules → is.certain ≡ None → IsOpen is.parts is.terms.rules) →
    certain ≡ is.certain → StandsAt (text ++ piece) (fed cutting piece) is certain
stands_more text piece cutting was is certain none stood rules parts sure right same =
    let before : GoesOn text cutting was = subst (StandsAt text cutting was) none stood in
    let reads : HasRead (text ++ piece) (fed cutting piece) is.parts = subst (HasRead (text ++ piece) (fed cutting piece)) (sym parts) (read_more text piece cutting was.parts before.reads) in
    subst (StandsAt (text ++ piece) (fed cutting piece) is) (sym same) (go is.certain sure (right before.right) reads)
  where
    go : (c : Option Verdict) → IfSome c (IsCertain is.parts is.terms.rules) → (c ≡ None → IsOpen is.parts is.terms.rules) → HasRead (text ++ piece) (fed cutting piece) is.parts → StandsAt (text ++ piece) (fed cutting piece) is c
    go None sure right reads = record { reads = reads; right = right refl }
    go (Some verdict) sure right reads = sure_text (text ++ piece) (fed cutting piece) is verdict reads sure

-- what is told of the text as it stands
pub told_sure : (text : List ℕ) (cutting : Cutting) (fed : Judging) (certain : Option Verdict) → StandsAt text cutting fed certain → IfSome certain (IsCertainOf text fed.terms.rules)
told_sure text cutting fed None is = tt
told_sure text cutting fed (Some verdict) is = is.certain

-- and what shows it
pub told_shown : (text : List ℕ) (cutting : Cutting) (fed : Judging) (explains : Bool) (cycle : Option Cycle) → StandsAt text cutting fed fed.certain → ShowsIfAsked explains fed.certain fed.parts fed.terms.rules cycle → ShowsText explains fed.certain text fed.terms.rules cycle
told_shown text cutting fed false cycle stood shows = shows
told_shown text cutting fed true cycle stood shows = go fed.certain cycle stood shows
  where
    go : (c : Option Verdict) (cycle : Option Cycle) → StandsAt text cutting fed c → ShowsCertain c fed.parts fed.terms.rules cycle → ShowsText true c text fed.terms.rules cycle
    go None cycle stood shows = shows
    go (Some verdict) None stood shows = (shows.0, tt)
    go (Some verdict) (Some cycle) stood shows = (shows.0, subst (λ t. IsCycleOf (reading_of t ∷ []) fed.terms.rules verdict cycle) (append-nil text) (stood.shown [] cycle shows.1))

pub told_right : (text : List ℕ) (cutting : Cutting) (fed : Judging) (certain : Option Verdict) → StandsAt text cutting fed certain → is_some certain ≡ false → EndsLine text → IsOpenText text fed.terms.rules
told_right text cutting fed None is off ends = open_text text cutting fed.parts fed.terms.rules is.reads is.right ends
told_right text cutting fed (Some verdict) is off ends = absurd (true≢false off)

-- the verdict in the end
pub last_sure : (text : List ℕ) (cutting : Cutting) (fed : Judging) (verdict : Verdict) → is_some fed.certain ≡ true → StandsAt text cutting fed fed.certain →
    IfSome fed.certain (IsCertain fed.parts fed.terms.rules) → IsVerdict fed.parts fed.terms.rules verdict → IsTextVerdict text fed.terms.rules verdict
last_sure text cutting fed verdict sure stood certain is = go fed.certain sure stood certain
  where
    go : (c : Option Verdict) → is_some c ≡ true → StandsAt text cutting fed c → IfSome c (IsCertain fed.parts fed.terms.rules) → IsTextVerdict text fed.terms.rules verdict
    go None sure stood certain = absurd (true≢false (sym sure))
    go (Some v) sure stood certain =
        let all : IsVerdict fed.parts fed.terms.rules v = subst (λ ps. IsVerdict ps fed.terms.rules v) (append-nil fed.parts) (certain.is_verdict []) in
        let same : v ≡ verdict = one_verdict fed.parts fed.terms.rules v verdict all is in
        subst (IsTextVerdict text fed.terms.rules) same (subst (λ t. IsTextVerdict t fed.terms.rules v) (append-nil text) (stood.certain.is_verdict []))

pub last_open : (text : List ℕ) (cutting : Cutting) (fed : Judging) (verdict : Verdict) → fed.certain ≡ None → StandsAt text cutting fed fed.certain →
    IsVerdict (fed.parts ++ map reading_of (option_to_list (last_block cutting))) fed.terms.rules verdict → IsTextVerdict text fed.terms.rules verdict
last_open text cutting fed verdict none stood is =
    let at : GoesOn text cutting fed = subst (StandsAt text cutting fed) none stood in
    verdict_of_text fed.terms.rules (fed.parts ++ map reading_of (option_to_list (last_block cutting))) text verdict (read_all text cutting fed.parts at.reads) is

-- and however it was judged out
pub judged_out : (text : List ℕ) (cutting : Cutting) (was now : Judging) (verdict : Verdict) → StandsAt text cutting was was.certain → IsJudgedOut was cutting now → IsVerdict now.parts now.terms.rules verdict → IsTextVerdict text was.terms.rules verdict
judged_out text cutting was now verdict stood (inl (sure, certain, same)) is = last_sure text cutting was verdict sure stood certain (subst (λ (f : Judging). IsVerdict f.parts f.terms.rules verdict) same is)
judged_out text cutting was now verdict stood (inr (none, parts, rules)) is =
    last_open text cutting was verdict none stood (subst (λ ps. IsVerdict ps was.terms.rules verdict) parts (subst (λ (t : Terms). IsVerdict now.parts t.rules verdict) rules is))

-- what calls answer
is_some_map : {A B : Type 0} (f : A → B) (o : Option A) → is_some (option_map f o) ≡ is_some o
is_some_map f None = refl
is_some_map f (Some x) = refl

pub same_some : {A B : Type 0} (f : A → B) (o : Option A) (p : Option B) (b c : Bool) → option_map f o ≡ p → b ≡ is_some o → b ≡ c → is_some p ≡ c
same_some f o p b c same is so = ap is_some (sym same) ∙ (is_some_map f o ∙ (sym is ∙ so))

pub none_of : {A : Type 0} (o : Option A) → is_some o ≡ false → o ≡ None
none_of None off = refl
none_of (Some x) off = absurd (true≢false off)

pub on_ok : {A E : Type 0} (r : Result A E) (P : Type 0) (b : Bool) → b ≡ is_err r → b ≡ false → OnOk r P → P
on_ok (Ok x) P b is off on = on
on_ok (Err e) P b is off on = absurd (true≢false (sym is ∙ off))

-- what was certain stays so over two steps
pub stays_twice : (first second third : Option Verdict) → IfSome first (λ verdict. second ≡ first) → IfSome second (λ verdict. third ≡ second) → IfSome first (λ verdict. third ≡ first)
stays_twice None second third one other = tt
stays_twice (Some verdict) second third one other = subst (λ o. IfSome o (λ v. third ≡ second)) one other ∙ one
