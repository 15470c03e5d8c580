-- Which blocks a `Blocks` counts.
use Rattle.std.specs.Prelude.{◌≡◌, ℕ, ◌+◌, ◌==◌, ◌&&◌, if◌then◌else◌, slice_index_or}
use Rattle.aero_shape.specs.declared.admission.Admitted.{Admitted}
use Rattle.aero_engine.specs.Given.{begins_block, ends_block}
use Rattle.aero_verdict.specs.declared.blocks.Blocks.{Blocks}

-- the line of the thread's latest outermost begin
abbrev pub begin_line : Blocks → ℕ → ℕ
begin_line b t = slice_index_or b.lines.items t 0

-- an event of thread t on the line is counted too
pub record CountsBlock (old new : Blocks) (admitted : Admitted) (t line : ℕ) : Type 0 where
  pub begun : new.begun ≡ (if begins_block admitted then old.begun + 1 else old.begun)
  pub ended : new.ended ≡ (if ends_block admitted then old.ended + 1 else old.ended)
  pub begin_line : (u : ℕ) → begin_line new u ≡ (if begins_block admitted && (t == u) then line else begin_line old u)
