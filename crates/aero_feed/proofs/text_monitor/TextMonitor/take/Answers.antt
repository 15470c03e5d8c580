use Rattle.std.proofs.Common.{◌≡◌, true, false, refl, sym, ◌∙◌, ◌++◌, ap, subst}
use Rattle.std.specs.Prelude.{is_some}
use Rattle.aero_model.specs.Terms.{Terms}
use Rattle.aero_feed.specs.Reads.{StandsAt}
use Rattle.aero_judge.specs.Judging.{judging_of}
use Rattle.aero_feed.proofs.Texts.{stands_sure, stands_more, none_of, on_ok}
use Rattle.aero_feed.proofs.text_monitor.TextMonitor.take.Goals as goal

pub invariant_of-self-then-is_certain : goal.invariant_of-self-then-is_certain
invariant_of-self-then-is_certain c =
    let m = judging_of c.self.inside.judge in
    let sure : is_some m.certain ≡ true = sym c.is_certain.ensures.told ∙ c.if-is_certain.true in
    record {
      labels = c.self.invariant.labels;
      stands = λ unspent. subst (λ t. StandsAt t c.self.inside.cutter m m.certain) (sym c.with-self-inside.ensures)
          (stands_sure c.self.inside.text.bytes c.args.piece.now c.self.inside.cutter m m.certain sure (c.self.invariant.stands unspent));
    }

pub invariant_of-self-2 : goal.invariant_of-self-2
invariant_of-self-2 c =
    let was = judging_of c.self.inside.judge in
    let is = judging_of c.judge_piece-judged.new.judge in
    let r = c.judge_piece-judged.result in
    let e = c.judge_piece-judged.ensures in
    let b = c.is_err-self-inside.result in
    let value = c.is_err-self-inside.ensures.value in
    let off : is_some was.certain ≡ false = sym c.is_certain.ensures.told ∙ c.if-is_certain.false in
    record {
      labels = c.self.invariant.labels ∙ sym (ap (λ (t : Terms). t.rules.labels) e.terms);
      stands = λ unspent.
          subst (λ t. StandsAt t c.judge_piece-judged.new.cutter is is.certain) (sym c.with-self-inside.ensures)
          (subst (λ k. StandsAt (c.self.inside.text.bytes ++ c.args.piece.now) k is is.certain) (sym (on_ok r _ b value unspent e.cut))
          (stands_more c.self.inside.text.bytes c.args.piece.now c.self.inside.cutter was is is.certain (none_of was.certain off) (c.self.invariant.stands c.if-self.false)
          e.terms (on_ok r _ b value unspent e.parts) e.certain (on_ok r _ b value unspent e.going_on) refl));
    }
