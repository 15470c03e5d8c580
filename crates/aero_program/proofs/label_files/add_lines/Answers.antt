use Rattle.aero_program.proofs.LabelLines.{added_line, fault_in}
use Rattle.aero_program.proofs.label_files.add_lines.Goals as goal

pub loop-rest-preserved : goal.loop-rest-preserved
loop-rest-preserved c =
    added_line c.args.labels.now.keys c.args.text.now c.loop-rest.rest.now c.loop-rest.number c.loop-rest.labels.keys c.first_line.result.0.now c.first_line.result.1.now c.add_line.new.labels.keys c.loop-rest.invariant
    c.first_line.ensures.lines c.first_line.ensures.shorter c.in_default.ensures.sound c.in_default.ensures.added c.in_default.ensures.few

pub returns-in-Err-clause-fault : goal.returns-in-Err-clause-fault
returns-in-Err-clause-fault c =
    fault_in c.args.labels.now.keys c.args.text.now c.loop-rest.rest.now c.loop-rest.number c.loop-rest.labels.keys c.first_line.result.0.now c.first_line.result.1.now c.in-Err.why c.loop-rest.invariant
    c.first_line.ensures.lines c.in-Err.ensures.fault
