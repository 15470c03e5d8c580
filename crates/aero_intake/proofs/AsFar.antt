-- How far a source is read is no matter of what is found of it.
use Rattle.std.proofs.Common.{List, Result, Ok, Err}
use Rattle.std.specs.Prelude.{IfOk}
use Rattle.aero_model.specs.declared.verdict.Finding.{Finding}
use Rattle.aero_model.specs.declared.verdict.Finding.TheVariants as findings
use Rattle.aero_grammar.specs.Reading.{Reading}
use Rattle.aero_judge.specs.Finding.{IsTraceFinding}
use Rattle.aero_model.specs.Terms.{Terms, to_the_end}

pub found_to_the_end : (parts : List Reading) (terms : Terms) (f : Finding) → IsTraceFinding parts terms f → IsTraceFinding parts (to_the_end terms) f
found_to_the_end parts terms (findings.Judged verdict) is = is
found_to_the_end parts terms (findings.Ordered verdict steps) is = is
found_to_the_end parts terms (findings.Explained verdict cycle) is = is
found_to_the_end parts terms (findings.Opened verdict blocks) is = is
found_to_the_end parts terms (findings.Broken bytes) is = is
found_to_the_end parts terms findings.TooLarge is = is

pub found_as_far : (parts : List Reading) (terms : Terms) (f : Finding) → IsTraceFinding parts (to_the_end terms) f → IsTraceFinding parts terms f
found_as_far parts terms (findings.Judged verdict) is = is
found_as_far parts terms (findings.Ordered verdict steps) is = is
found_as_far parts terms (findings.Explained verdict cycle) is = is
found_as_far parts terms (findings.Opened verdict blocks) is = is
found_as_far parts terms (findings.Broken bytes) is = is
found_as_far parts terms findings.TooLarge is = is

pub all_found_as_far : {E : Type 0} (r : Result Finding E) (parts : List Reading) (terms : Terms) →
    IfOk r (IsTraceFinding parts (to_the_end terms)) → IfOk r (IsTraceFinding parts terms)
all_found_as_far (Ok f) parts terms is = found_as_far parts terms f is
all_found_as_far (Err e) parts terms is = tt
