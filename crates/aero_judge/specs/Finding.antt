-- What is found of a source: the bytes that came, and how they ended.
use Rattle.std.specs.Prelude.{◌≡◌, ℕ, true, false, List, [], ◌∷◌, ◌++◌, length, IfSome}
use Rattle.aero_model.specs.declared.verdict.Ending.{Ending}
use Rattle.aero_model.specs.declared.verdict.Ending.TheVariants as endings
use Rattle.aero_model.specs.declared.verdict.Finding.{Finding}
use Rattle.aero_model.specs.declared.verdict.Finding.TheVariants.{Judged, Ordered, Explained, Opened, Broken, TooLarge}
use Rattle.aero_model.specs.Terms.{Terms}
use Rattle.aero_model.specs.Verdicts.{HasOwnFault, verdict_of}
use Rattle.aero_grammar.specs.Reading.{Reading, reading_of}
use Rattle.aero_verdict.specs.Ordered.{has_order, AreStepsInOrder}
use Rattle.aero_verdict.specs.Explained.{has_cycle, IsCycleOf}
use Rattle.aero_judge.specs.Opened.{has_blocks, is_shown, AreOpenBlocks}
use Rattle.aero_verdict.specs.Verdict.{IsVerdict}

-- The verdict on what the parts say. Where the order is asked for, and the trace is serializable, its transactions in order come with it. Where it is to be explained, a telling cycle comes with a violation, and the open blocks where there are any.
abbrev pub IsTraceFinding : List Reading → Terms → Finding → Type 0
IsTraceFinding parts terms (Judged verdict) = IsVerdict parts terms.rules verdict × (has_order terms.order verdict ≡ false) × (is_shown terms.explain verdict ≡ false)
IsTraceFinding parts terms (Ordered verdict steps) =
    IsVerdict parts terms.rules verdict × (has_order terms.order verdict ≡ true) × AreStepsInOrder parts terms.rules steps.items
IsTraceFinding parts terms (Explained verdict cycle) =
    IsVerdict parts terms.rules verdict × (has_cycle terms.explain verdict ≡ true) × IsCycleOf parts terms.rules verdict cycle
IsTraceFinding parts terms (Opened verdict blocks) =
    IsVerdict parts terms.rules verdict × (has_blocks terms.explain verdict ≡ true) × AreOpenBlocks parts terms.rules blocks.items
IsTraceFinding parts terms _ = ⊥

-- a fault that the verdict carries, if there is a verdict, is one of the trace
abbrev pub HasOwnVerdict : Finding → Type 0
HasOwnVerdict finding = IfSome (verdict_of finding) HasOwnFault

-- Whatever bytes follow these, this is found of the trace that all of them say.
abbrev pub IsCertainFinding : List ℕ → Terms → Finding → Type 0
IsCertainFinding bytes terms finding = (more : List ℕ) → IsTraceFinding (reading_of (bytes ++ more) ∷ []) terms finding

-- A source that is whole has what is found of the trace that its bytes say. A source is read no further only if the terms say so, and then whatever
-- could follow its bytes, none among it, has the same finding. Of another source its ending alone is told.
abbrev pub IsFinding : List ℕ → Ending → Terms → Finding → Type 0
IsFinding bytes endings.Whole terms finding = IsTraceFinding (reading_of bytes ∷ []) terms finding
IsFinding bytes endings.Stopped terms finding = (terms.stop ≡ true) × IsCertainFinding bytes terms finding
IsFinding bytes endings.Broken terms finding = finding ≡ Broken (length bytes)
IsFinding bytes endings.TooLarge terms finding = finding ≡ TooLarge
