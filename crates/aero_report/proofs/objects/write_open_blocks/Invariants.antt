use Rattle.std.proofs.Common.{◌≡◌, ◌++◌, take}
use Rattle.std.specs.Prelude.{flat_map}
use Rattle.json.specs.Tree.{json_tokens}
use Rattle.aero_report.specs.Json.{open_block_value}
use Rattle.aero_report.proofs.objects.write_open_blocks.Given as goal

-- those of the blocks so far
abbrev pub invariant-loop-block : goal.invariant-loop-block
invariant-loop-block l = l.out ≡ l.initial.out ++ flat_map (λ b. json_tokens (open_block_value b)) (take l.block-index l.blocks)
