use Rattle.std.proofs.Common.{ℕ, ap, sym, ◌∙◌}
use Rattle.aero_leads.specs.Kept.{least_in, is_below}
use Rattle.aero_leads.specs.Seen.{seen_at}
use Rattle.aero_leads.proofs.Unknown.{below_is_some, gained_next, rest_next, known_next, so_next, whole_next, gained_all}
use Rattle.aero_leads.proofs.gaining.gain_each.Goals as goal

pub loop-at-preserved : goal.loop-at-preserved
loop-at-preserved c =
    let i = c.loop-at.invariant in
    let e = c.in_ok-gain_lead.ensures in
    let first = least_in c.args.gainer.now.row.items in
    let before = least_in c.loop-at.gainer.row.items in
    let after = least_in c.gain_lead.new.gainer.row.items in
    let known_first = seen_at c.args.gainer.now.known.openers.items in
    let known_before = seen_at c.loop-at.gainer.known.openers.items in
    let known_after = seen_at c.gain_lead.new.gainer.known.openers.items in
    let theirs = seen_at c.args.theirs.now in
    let taken = λ (w : ℕ). is_below (least_in c.args.other.now w) c.args.taking.below in
    let at = c.loop-at.at in
    let next = c.next_news-at-in-loop-at.result in
    let later = c.next_news-at-in-loop-at.ensures.later in
    let mine = c.deref-in-loop-at.ensures.value in
    record {
      gained = gained_next first before after known_first known_before known_after theirs taken at next c.args.taking.place i.gained i.rest i.known e.gains c.gain_lead.ensures.others later
          (λ w from less seen. ap (λ xs. seen_at xs w) (sym mine) ∙ c.next_news-at-in-loop-at.ensures.passed w from less seen)
          (λ w h. c.requires.theirs w (below_is_some (least_in c.args.other.now w) c.args.taking.below h)) c.requires.so;
      rest = rest_next first before after known_first known_before known_after theirs taken at next c.args.taking.place i.gained i.rest i.known e.gains c.gain_lead.ensures.others later;
      known = known_next first before after known_first known_before known_after theirs taken at next c.args.taking.place i.gained i.rest i.known e.gains c.gain_lead.ensures.others later;
      here = λ less. ap (λ xs. seen_at xs next) (sym mine) ∙ c.next_news-at-in-loop-at.ensures.here less;
      so = so_next first before after known_first known_before known_after theirs taken at next c.args.taking.place i.gained i.rest i.known e.gains c.gain_lead.ensures.others later i.so (e.so (i.here c.loop-at-test.true));
      whole = λ all. whole_next first before after known_first known_before known_after theirs taken at next c.args.taking.place i.gained i.rest i.known e.gains c.gain_lead.ensures.others later (i.whole (c.gain_lead.ensures.whole all)) (e.here all);
      single = e.single i.single;
      listed = λ h. c.gain_lead.ensures.listed (i.listed h);
      grows = λ w o h. c.gain_lead.ensures.grows w o (i.grows w o h);
      thread = c.gain_lead.ensures.thread ∙ i.thread;
    }

pub returns-clause-gains : goal.returns-clause-gains
returns-clause-gains c =
    gained_all (least_in c.args.gainer.now.row.items) (least_in c.loop-at.gainer.row.items) c.args.theirs.now (λ (w : ℕ). is_below (least_in c.args.other.now w) c.args.taking.below) c.loop-at.at c.args.taking.place
    c.loop-at-test.false c.loop-at.invariant.gained c.loop-at.invariant.rest
    (λ w h. c.requires.theirs w (below_is_some (least_in c.args.other.now w) c.args.taking.below h))
