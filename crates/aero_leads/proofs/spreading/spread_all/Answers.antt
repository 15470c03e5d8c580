use Rattle.std.proofs.Common.{◌∙◌, ap, sym, rules}
use Rattle.std.specs.Prelude.{slice_get}
use Rattle.aero_leads.specs.Kept.{least_in, rows_in}
use Rattle.aero_leads.specs.Listed.{followers}
use Rattle.aero_leads.proofs.ThreadSteps.{visited_next}
use Rattle.aero_leads.proofs.spreading.spread_all.Goals as goal

pub loop-i-preserved : goal.loop-i-preserved
loop-i-preserved c =
    record {
      rows = visited_next (rows_in c.args.threads.now.items) (rows_in c.loop-i.threads.items) (rows_in c.visit.new.threads.items) (least_in c.args.ended.now) c.args.t (followers c.args.led.now c.args.t) c.loop-i.i c.listed_at.result.thread
          (sym (ap (λ us. slice_get us c.loop-i.i) c.loop-i.invariant.list) ∙ c.listed_at.ensures) c.loop-i.invariant.rows c.in_ok-visit.ensures.rows;
      list = c.visit.ensures.others c.args.t c.requires.own ∙ c.loop-i.invariant.list;
      same = record {
        in_block = λ u. c.visit.ensures.same.in_block u ∙ c.loop-i.invariant.same.in_block u;
        begins = λ u. c.visit.ensures.same.begins u ∙ c.loop-i.invariant.same.begins u;
        acted = λ u. c.visit.ensures.same.acted u ∙ c.loop-i.invariant.same.acted u;
      };
      listed = λ h. c.visit.ensures.listed (c.loop-i.invariant.listed h);
      grows = λ w o h. c.visit.ensures.grows w o (c.loop-i.invariant.grows w o h);
      single = c.visit.ensures.single;
      room = c.visit.ensures.room ∙ c.loop-i.invariant.room;
    }

pub returns-in_err-visit : goal.returns-in_err-visit
returns-in_err-visit c =
    record {
      rows = search rules;
      same = record {
        in_block = λ u. c.visit.ensures.same.in_block u ∙ c.loop-i.invariant.same.in_block u;
        begins = λ u. c.visit.ensures.same.begins u ∙ c.loop-i.invariant.same.begins u;
        acted = λ u. c.visit.ensures.same.acted u ∙ c.loop-i.invariant.same.acted u;
      };
      listed = λ h. c.visit.ensures.listed (c.loop-i.invariant.listed h);
      grows = λ w o h. c.visit.ensures.grows w o (c.loop-i.invariant.grows w o h);
      single = c.visit.ensures.single;
      room = c.visit.ensures.room ∙ c.loop-i.invariant.room;
    }
