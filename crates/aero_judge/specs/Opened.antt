-- Which blocks are open at the end of what the parts say.
use Rattle.std.specs.Prelude.{◌≡◌, ◌↔◌, ℕ, ◌<◌, Bool, true, false, List, length, take, slice_get, Option, Some, option_map, is_some, IfSome}
use Rattle.std.specs.List.{AllZip}
use Rattle.aero_model.specs.declared.numbered.Numbered.{Numbered}
use Rattle.aero_model.specs.declared.verdict.OpenBlock.{OpenBlock}
use Rattle.aero_model.specs.declared.verdict.Verdict.{Verdict}
use Rattle.aero_model.specs.declared.verdict.Verdict.TheVariants.{Violation, Pending}
use Rattle.aero_model.specs.BlockCounts.{is_outer_begin}
use Rattle.aero_model.specs.Blocks.{transaction, HasEnded}
use Rattle.aero_grammar.specs.Reading.{Reading}
use Rattle.aero_verdict.specs.Verdict.{counted_events, checked_trace, IsOnLine}
use Rattle.aero_model.specs.Terms.{Rules}

-- whether the open blocks go with the verdict: they are asked for, and there are some
abbrev pub has_blocks : Bool → Verdict → Bool
has_blocks explain (Pending events blocks pending) = explain
has_blocks explain _ = false

-- whether something that explains it goes with the verdict
abbrev pub is_shown : Bool → Verdict → Bool
is_shown explain (Violation line thread begun) = explain
is_shown explain (Pending events blocks pending) = explain
is_shown explain _ = false

-- a block begins at this place that is open at the end
pub record IsOpening (trace : List Numbered) (place : ℕ) : Type 0 where
  pub begins : is_outer_begin trace place ≡ true
  pub unended : ¬ HasEnded trace (length trace) (transaction trace place)

-- these are the places at which such blocks begin, in their order
pub record AreOpenings (trace : List Numbered) (places : List ℕ) : Type 0 where
  pub rise : (i j p q : ℕ) → i < j → slice_get places i ≡ Some p → slice_get places j ≡ Some q → p < q
  pub each : (p : ℕ) → ((i : ℕ) × (slice_get places i ≡ Some p)) ↔ IsOpening trace p

-- the line, the thread and the label of the begin at this place
pub record IsOpenBlock (parts : List Reading) (rules : Rules) (place : ℕ) (block : OpenBlock) : Type 0 where
  pub line : IsOnLine parts rules place block.line
  pub thread : option_map (λ e. e.1.thread) (slice_get (counted_events parts rules) place) ≡ Some block.thread
  pub label : option_map (λ e. e.1.target) (slice_get (counted_events parts rules) place) ≡ Some block.label

-- the first 64 of the blocks that are open at the end, in the order in which they begin
pub record AreOpenBlocks (parts : List Reading) (rules : Rules) (blocks : List OpenBlock) : Type 0 where
  pub places : List ℕ
  pub are : AreOpenings (checked_trace parts rules) places
  pub told : AllZip (IsOpenBlock parts rules) (take 64 places) blocks

-- what shows the verdict where nothing is wrong: these blocks where there are any, and else none
abbrev pub ShowsBlocks : List Reading → Rules → Verdict → Option (List OpenBlock) → Type 0
ShowsBlocks parts rules verdict blocks = (is_some blocks ≡ has_blocks true verdict) × IfSome blocks (AreOpenBlocks parts rules)
