use Rattle.std.proofs.Common.{◌≡◌, ◌∙◌, ap, arith}
use Rattle.aero_stage.specs.Ends.{Posting, new_taker}
use Rattle.aero_worker.specs.declared.seed.Seed.{Seed}
use Rattle.aero_worker.proofs.Hands.{all_front}
use Rattle.aero_worker.proofs.crew.Crew.start_with.Goals as goal

pub loop-seed-preserved : goal.loop-seed-preserved
loop-seed-preserved g c =
    let inv = c.loop-seed.invariant in let now = c.hire.ensures in let pop = c.in-Some.ensures in
    let stage = ap (λ (p : Posting). p.stage) now.rest in record {
      seeds = rw stage (all_front (λ (s : Seed g.row.G.Denot). s.taker ≡ new_taker c.loop-seed.staff.poster.stage) c.pop.new.self.items c.in-Some.seed
          (rw pop.items at inv.seeds));
      stage = rw stage now.stage;
      tells = now.tells;
      takers = omega (arith, now.takers, inv.takers, pop.cases);
      few = omega (arith, now.few, inv.few, pop.cases);
      handles = rw now.handles inv.handles;
      lists = rw now.lists inv.lists;
      back = ap (λ (p : Posting). p.desk.back) now.rest ∙ inv.back;
      posted = ap (λ (p : Posting). p.desk.posted) now.rest ∙ inv.posted;
      bound = ap (λ (p : Posting). p.desk.bound) now.rest ∙ inv.bound;
      stops = ap (λ (p : Posting). p.desk.stops) now.rest ∙ inv.stops;
      capacity = ap (λ (p : Posting). p.capacity) now.rest ∙ inv.capacity;
    }
