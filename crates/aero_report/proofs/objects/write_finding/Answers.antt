use Rattle.aero_report.proofs.objects.write_finding.Goals as goal

pub returns-in-TooLarge : goal.returns-in-TooLarge
returns-in-TooLarge c = rw c.in-TooLarge.is c.word-in-TooLarge.ensures
