use Rattle.std.proofs.Common.{◌≡◌, ◌<◌, ⊎_elim, Some, sym, ap, ◌∙◌, subst, arith}
use Rattle.std.specs.Prelude.{slice_get, length}
use Rattle.std.proofs.lemmas.Bool.{cases_eq}
use Rattle.std.proofs.lemmas.Option.{slice_get-get_or, slice_get_within, same_Some}
use Rattle.aero_clock.specs.Numbers.{number_at}
use Rattle.aero_access.specs.declared.kept.Kept.{Kept}
use Rattle.aero_access.specs.Threads.{IsClosedBy}
use Rattle.aero_access.proofs.KeptLists.{greatest_but-more}
use Rattle.aero_access.proofs.Outcomes.{not_true}
use Rattle.aero_access.proofs.Heeding.{test_still}
use Rattle.aero_access.proofs.readers.Readers.give.Goals as goal

pub give-requires : goal.give-requires
give-requires c =
    let at : slice_get c.args.self.now.kept.items c.loop-kept.kept-index ≡ Some c.kept-item.result =
    ap (λ xs. slice_get xs c.loop-kept.kept-index) (sym c.deref-kept-items.ensures.value)
    ∙ slice_get-get_or c.deref-kept-items.result.now c.loop-kept.kept-index c.kept-item.result c.loop-kept-test.true
    ∙ ap Some (sym c.kept-item.is)
    in
    test_still c.args.thread.now c.loop-kept.thread c.args.t (number_at c.kept-item.result.clock) c.loop-kept.invariant.same (c.requires c.loop-kept.kept-index c.kept-item.result at)

pub loop-kept-preserved : goal.loop-kept-preserved
loop-kept-preserved c =
    let i = c.loop-kept.kept-index in
    let at : slice_get c.args.self.now.kept.items c.loop-kept.kept-index ≡ Some c.kept-item.result =
    ap (λ xs. slice_get xs c.loop-kept.kept-index) (sym c.deref-kept-items.ensures.value)
    ∙ slice_get-get_or c.deref-kept-items.result.now c.loop-kept.kept-index c.kept-item.result c.loop-kept-test.true
    ∙ ap Some (sym c.kept-item.is)
    in
    record {
      same = record {
        begin = c.give.ensures.same.begin ∙ c.loop-kept.invariant.same.begin;
        begins = c.give.ensures.same.begins ∙ c.loop-kept.invariant.same.begins;
        acted = c.give.ensures.same.acted ∙ c.loop-kept.invariant.same.acted;
      };
      none = λ j k below at_j other closed.
          ⊎_elim
          (λ e.
          let same : k ≡ c.kept-item.result = same_Some k c.kept-item.result (sym at_j ∙ ap (slice_get c.args.self.now.kept.items) e ∙ at) in
          not_true c.in_ok-give.field-0 c.if-branch.false
          (c.in_ok-give.ensures.closing.1 (
            λ h. other (ap (λ (a : Kept). a.thread) same ∙ h),
            subst (λ (a : Kept). IsClosedBy c.loop-kept.thread.begin (number_at a.clock)) same
                (subst (λ b. IsClosedBy b (number_at k.clock)) (sym c.loop-kept.invariant.same.begin) closed),
          )))
          (λ ne. c.loop-kept.invariant.none j k (omega (arith, ne)) at_j other closed)
          (cases_eq j c.loop-kept.kept-index);
      clock = λ u. omega (arith, (c.in_ok-give.ensures.takes c.if-branch.false).clock u, c.loop-kept.invariant.clock u, greatest_but-more c.args.t c.args.self.now.kept.items c.loop-kept.kept-index c.kept-item.result u at);
      heeds = λ w own all. c.give.ensures.heeds w (c.loop-kept.invariant.heeds w own all) (all c.loop-kept.kept-index c.kept-item.result at);
    }

pub returns-then-branch-clause-closing : goal.returns-then-branch-clause-closing
returns-then-branch-clause-closing c = λ is_true.
    let at : slice_get c.args.self.now.kept.items c.loop-kept.kept-index ≡ Some c.kept-item.result =
    ap (λ xs. slice_get xs c.loop-kept.kept-index) (sym c.deref-kept-items.ensures.value)
    ∙ slice_get-get_or c.deref-kept-items.result.now c.loop-kept.kept-index c.kept-item.result c.loop-kept-test.true
    ∙ ap Some (sym c.kept-item.is)
    in
    let closes = c.in_ok-give.ensures.closing.0 c.if-branch.true in
    record {
      place = c.loop-kept.kept-index;
      one = c.kept-item.result;
      at = at;
      other = closes.0;
      closed = subst (λ b. IsClosedBy b (number_at c.kept-item.result.clock)) c.loop-kept.invariant.same.begin closes.1;
    }

pub returns-clause-none : goal.returns-clause-none
returns-clause-none c = λ is_false. record {
  none = λ i k at other closed.
      let within : i < length c.args.self.now.kept.items = slice_get_within c.args.self.now.kept.items i k at in
      let all : length c.deref-kept-items.result.now ≡ length c.args.self.now.kept.items = ap length c.deref-kept-items.ensures.value in
      c.loop-kept.invariant.none i k (omega (arith, c.loop-kept-test.false, all, within)) at other closed;
}

pub returns-then-branch-clause-heeds : goal.returns-then-branch-clause-heeds
returns-then-branch-clause-heeds c = λ w own all.
    let at : slice_get c.args.self.now.kept.items c.loop-kept.kept-index ≡ Some c.kept-item.result =
    ap (λ xs. slice_get xs c.loop-kept.kept-index) (sym c.deref-kept-items.ensures.value)
    ∙ slice_get-get_or c.deref-kept-items.result.now c.loop-kept.kept-index c.kept-item.result c.loop-kept-test.true
    ∙ ap Some (sym c.kept-item.is)
    in
    c.give.ensures.heeds w (c.loop-kept.invariant.heeds w own all) (all c.loop-kept.kept-index c.kept-item.result at)
