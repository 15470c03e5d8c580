use Rattle.std.proofs.Common.{◌≡◌, replicate}
use Rattle.aero_intake.specs.Held.{nothing_read}
use Rattle.aero_intake.specs.PlanTerms.{terms_of}
use Rattle.aero_intake.specs.declared.track.Track.TheVariants.{Arriving}
use Rattle.aero_batch.proofs.underway.new_tracks.Given as goal

abbrev pub invariant-loop-i : goal.invariant-loop-i
invariant-loop-i l = l.tracks.items ≡ replicate l.i (Arriving (nothing_read (terms_of l.fn.plan)))
