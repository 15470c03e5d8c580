use Rattle.std.proofs.Common.{◌≡◌, ◌∙◌, ◌≤◌, ℕ, ap, sym, rules, subst, take, Some}
use Rattle.std.specs.Prelude.{◌==◌, is_some, slice_get}
use Rattle.std.specs.List.{list_any}
use Rattle.aero_leads.specs.Highs.{AreHigh}
use Rattle.aero_leads.specs.Kept.{least_in, rows_in}
use Rattle.aero_leads.specs.Listed.{followers}
use Rattle.aero_leads.proofs.Handing.{all_there, high_spread, some_spread, left_rows, left_own}
use Rattle.aero_leads.proofs.ThreadSteps.{visited_next}
use Rattle.aero_leads.proofs.spreading.spread_missing.Goals as goal

pub loop-i-preserved : goal.loop-i-preserved
loop-i-preserved c =
    record {
      rows = visited_next (rows_in c.args.threads.now.items) (rows_in c.loop-i.threads.items) (rows_in c.visit.new.threads.items) (least_in c.args.ended.now) c.args.t (followers c.args.led.now c.args.t) c.loop-i.i c.aim-entry.result.thread
          (sym (ap (λ us. slice_get us c.loop-i.i) c.loop-i.invariant.list) ∙ c.listed_at.ensures ∙ ap Some (sym c.aim-entry.ensures)) c.loop-i.invariant.rows
          (left_rows c.args.ended.now c.unless.result.now c.has_all-all.result c.unless.ensures (rows_in c.loop-i.threads.items) (rows_in c.visit.new.threads.items) c.args.t c.aim-entry.result.thread
          (λ all. all_there (rows_in c.loop-i.threads.items c.aim-entry.result.thread) (least_in c.args.ended.now) c.args.t
          (λ v ne some. ap (λ ts. is_some (rows_in ts c.aim-entry.result.thread v)) (sym c.deref-in-loop-i.ensures.value) ∙ c.has_all-all.ensures.there all v ne (c.requires.whole (c.has_all-all.ensures.whole all) v some))
          (subst (λ ts. (v p q : ℕ) → rows_in ts c.aim-entry.result.thread c.args.t ≡ Some p → rows_in ts c.aim-entry.result.thread v ≡ Some q → q ≤ p) c.deref-in-loop-i.ensures.value (c.has_all-all.ensures.latest all)))
          c.in_ok-visit.ensures.rows);
      list = c.visit.ensures.others c.args.t (left_own c.args.ended.now c.unless.result.now c.has_all-all.result c.unless.ensures c.args.t c.requires.own) ∙ c.loop-i.invariant.list;
      same = record {
        in_block = λ u. c.visit.ensures.same.in_block u ∙ c.loop-i.invariant.same.in_block u;
        begins = λ u. c.visit.ensures.same.begins u ∙ c.loop-i.invariant.same.begins u;
        acted = λ u. c.visit.ensures.same.acted u ∙ c.loop-i.invariant.same.acted u;
      };
      listed = λ h. c.visit.ensures.listed (c.loop-i.invariant.listed h);
      grows = λ w o h. c.visit.ensures.grows w o (c.loop-i.invariant.grows w o h);
      single = c.visit.ensures.single;
      room = c.visit.ensures.room ∙ c.loop-i.invariant.room;
    }

pub has_all-all-requires-clause-beside : goal.has_all-all-requires-clause-beside
has_all-all-requires-clause-beside c =
    let done = λ (o : ℕ). list_any (λ u. u == o) (take c.loop-i.i (followers c.args.led.now c.args.t)) in
    record {
      high = subst (λ ts. AreHigh ts c.args.beside.now.highs) (sym c.deref-in-loop-i.ensures.value)
          (high_spread c.args.threads.now.items c.loop-i.threads.items (least_in c.args.ended.now) c.args.t done c.loop-i.invariant.rows c.args.beside.now.highs c.requires.beside.high);
      seen = λ o v other ne known.
          ap (λ ts. is_some (rows_in ts o v)) c.deref-in-loop-i.ensures.value
          ∙ some_spread c.args.threads.now.items c.loop-i.threads.items (least_in c.args.ended.now) c.args.t done c.loop-i.invariant.rows o v ne (c.requires.beside.seen o v other ne known);
    }

pub returns-in_err-visit : goal.returns-in_err-visit
returns-in_err-visit c =
    record {
      rows = search rules;
      same = record {
        in_block = λ u. c.visit.ensures.same.in_block u ∙ c.loop-i.invariant.same.in_block u;
        begins = λ u. c.visit.ensures.same.begins u ∙ c.loop-i.invariant.same.begins u;
        acted = λ u. c.visit.ensures.same.acted u ∙ c.loop-i.invariant.same.acted u;
      };
      listed = λ h. c.visit.ensures.listed (c.loop-i.invariant.listed h);
      grows = λ w o h. c.visit.ensures.grows w o (c.loop-i.invariant.grows w o h);
      single = c.visit.ensures.single;
      room = c.visit.ensures.room ∙ c.loop-i.invariant.room;
    }
