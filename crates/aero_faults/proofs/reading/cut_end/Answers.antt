use Rattle.std.proofs.Common.{◌∙◌, length, sym, ap, vec_len}
use Rattle.std.specs.Io.BufRead.{ends_with_byte}
use Rattle.aero_faults.proofs.Looking.{endless_rest, endless_whole}
use Rattle.aero_faults.proofs.reading.cut_end.Goals as goal

pub returns-clause-endless : goal.returns-clause-endless
returns-clause-endless c =
    endless_rest c.args.line.now.items c.pop.new.self.items (vec_len c.args.line.now) (sym c.deref.ensures.len ∙ ap length c.deref.ensures.value) c.pop.ensures.rest c.requires

pub returns-then-not-ends_line-clause-endless : goal.returns-then-not-ends_line-clause-endless
returns-then-not-ends_line-clause-endless c =
    endless_whole c.args.line.now.items c.requires (ap (ends_with_byte 10) (sym c.deref.ensures.value) ∙ sym c.ends_line.ensures ∙ c.if-not-ends_line.true)
