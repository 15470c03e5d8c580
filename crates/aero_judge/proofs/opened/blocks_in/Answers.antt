use Rattle.std.proofs.Common.{true, sym, ap}
use Rattle.aero_judge.specs.Opened.{has_blocks}
use Rattle.aero_judge.proofs.Opening.{whole_record}
use Rattle.aero_judge.proofs.opened.blocks_in.Goals as goal

pub open_blocks-requires : goal.open_blocks-requires
open_blocks-requires c =
    let (parts, rules, judged) = c.requires in
    let open_ones = c.in-Pending in (
      parts,
      rules,
      whole_record parts rules judged.checker c.args.names.now c.args.recorder.now c.args.verdict.now open_ones.events open_ones.blocks open_ones.pending
          judged.names judged.engine judged.readings judged.few judged.tells open_ones.is,
    )

pub returns : goal.returns
returns c = λ parts rules judged.
    let open_ones = c.in-Pending in
    let recorded = whole_record parts rules judged.checker c.args.names.now c.args.recorder.now c.args.verdict.now open_ones.events open_ones.blocks open_ones.pending
    judged.names judged.engine judged.readings judged.few judged.tells open_ones.is in
    (sym (ap (has_blocks true) open_ones.is), c.in_ok-blocks.ensures parts rules recorded)
