-- What holds between two reads.
use Rattle.std.proofs.Common.{◌≡◌, None}
use Rattle.aero_intake.specs.Alone.{MayRead, StandsAlone}
use Rattle.aero_intake.specs.PlanTerms.{terms_of}
use Rattle.aero_intake.specs.Source.{place_in}
use Rattle.aero_judge.specs.Judging.{judging_of}
use Rattle.aero_intake.proofs.alone.read_all.Given as goal

abbrev pub invariant-reads : goal.invariant-reads
invariant-reads g l =
    MayRead (terms_of l.plan) l.so_far.intake (judging_of l.so_far.judge) l.so_far.survey
    × StandsAlone (terms_of l.plan) (g.R.Followed.sight l.fn.reader) (g.R.Followed.sight l.reader) None l.so_far.intake (judging_of l.so_far.judge)
    × (place_in (g.R.Followed.sight l.reader) ≡ place_in (g.R.Followed.sight l.fn.reader))
