-- Where blocks that are open end, what is found hides nothing.
use Rattle.std.proofs.Common.{◌≡◌, ℕ, true, List}
use Rattle.std.specs.Prelude.{IfSome}
use Rattle.aero_model.specs.declared.verdict.Finding.{Finding}
use Rattle.aero_model.specs.declared.verdict.Finding.TheVariants.{Judged, Ordered, Explained, Opened, Broken, TooLarge}
use Rattle.aero_model.specs.Terms.{Terms}
use Rattle.aero_model.specs.Verdicts.{verdict_of}
use Rattle.aero_grammar.specs.Reading.{Reading}
use Rattle.aero_verdict.specs.Laws.{HidesNothing}
use Rattle.aero_verdict.proofs.NoneOpen.{hides_nothing}
use Rattle.aero_judge.specs.Finding.{IsTraceFinding}

pub nothing_hidden : (parts : List Reading) (terms : Terms) (finding : Finding) → terms.rules.end ≡ true → IsTraceFinding parts terms finding
    → IfSome (verdict_of finding) (HidesNothing parts terms.rules)
nothing_hidden parts terms (Judged verdict) ends is = hides_nothing parts terms.rules verdict ends is.0
nothing_hidden parts terms (Ordered verdict steps) ends is = hides_nothing parts terms.rules verdict ends is.0
nothing_hidden parts terms (Explained verdict cycle) ends is = hides_nothing parts terms.rules verdict ends is.0
nothing_hidden parts terms (Opened verdict blocks) ends is = hides_nothing parts terms.rules verdict ends is.0
nothing_hidden parts terms (Broken came) ends is = absurd is
nothing_hidden parts terms TooLarge ends is = absurd is
