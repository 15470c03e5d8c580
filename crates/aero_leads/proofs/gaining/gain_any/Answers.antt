use Rattle.std.proofs.Common.{◌≡◌, ap, subst, ◌∙◌, rules}
use Rattle.std.specs.Prelude.{true, slice_get}
use Rattle.aero_leads.specs.Kept.{thread_row}
use Rattle.aero_leads.specs.Seen.{is_whole, AreSeen, IsWhole}
use Rattle.aero_leads.proofs.Seeing.{known_taken}
use Rattle.aero_leads.proofs.Takings.{gained}
use Rattle.aero_leads.proofs.gaining.gain_any.Goals as goal

pub returns : goal.returns
returns c =
    let threads = c.deref-2.ensures.value in
    let takes = gained c.args.threads.now.items c.take_row-row.new.threads.items c.put_row.new.threads.items c.args.t c.args.taking.from c.args.taking.below c.args.taking.place c.take_row-row.result.items c.gain_all.new.row.items c.row_of.result.now
    c.take_row-row.ensures.row c.take_row-row.ensures.rest (c.row_of.ensures ∙ ap (λ xs. thread_row (slice_get xs c.args.taking.from)) c.deref.ensures.value) c.requires.other c.in_ok-gain_all.ensures.gains c.put_row.ensures.row in
    record {
      gains = takes;
      known = known_taken c.args.threads.now.items c.put_row.new.threads.items c.args.seen.now c.see_all.new.seen c.args.t c.args.taking.from c.args.taking.below c.args.taking.place takes
          (subst (λ ts. AreSeen ts c.args.seen.now → AreSeen ts c.see_all.new.seen) threads c.see_all.ensures.so)
          (subst (λ ts. is_whole c.see_all.new.seen c.args.t ≡ true → IsWhole ts c.see_all.new.seen c.args.t) threads c.see_all.ensures.whole)
          c.see_all.ensures.others c.see_all.ensures.whole_others c.requires.known;
      listed = search rules;
      grows = search rules;
      single = search rules;
      same = search rules;
      room = search rules;
    }
