use Rattle.std.proofs.Common.{◌≡◌, ◌≤◌, length, ap, arith}
use Rattle.std.proofs.lemmas.Result.{IfErr-weaker}
use Rattle.aero_stage.specs.declared.ends.Full.{Full}
use Rattle.aero_stage.specs.Ends.{WasFull}
use Rattle.aero_worker.specs.Crews.{Crewing}
use Rattle.aero_worker.proofs.Hands.{full_queue}
use Rattle.aero_worker.proofs.crew.Crew.post.Goals as goal

pub returns-clause-places : goal.returns-clause-places
returns-clause-places g c =
    let queue = c.self.inside.poster in let same = ap (λ (x : Crewing). length x.posted) c.self.view_is in
    IfErr-weaker c.post.result (λ (full : Full). (full.job ≡ c.args.job) × (c.post.new.self ≡ queue) × WasFull queue)
    (λ (full : Full). 64 ≤ length c.args.self.now.posted)
    (λ full h. omega (arith, full_queue queue h.2 c.self.invariant.stops, c.self.invariant.capacity, same)) c.post.ensures.full
