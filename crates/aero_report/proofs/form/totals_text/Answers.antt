use Rattle.aero_report.proofs.form.totals_text.Goals as goal

pub returns-in-Json-clause-readable : goal.returns-in-Json-clause-readable
returns-in-Json-clause-readable c = rw c.in-Json.is c.summary_object.ensures.reads_back
