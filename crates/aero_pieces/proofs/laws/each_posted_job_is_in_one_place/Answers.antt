use Rattle.aero_pieces.proofs.EachJob.{runs_each_job}
use Rattle.aero_pieces.proofs.laws.each_posted_job_is_in_one_place.Goals as goal

pub returns : goal.returns
returns c = λ window room workers events w run. runs_each_job window room workers events w run
