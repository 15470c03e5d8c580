use Rattle.std.proofs.Common.{◌≡◌, ◌∙◌, false, sym, subst}
use Rattle.aero_model.specs.Lines.{EndsLine}
use Rattle.aero_feed.specs.Feeding.{Feeding, IsOpenText}
use Rattle.aero_judge.specs.Judging.{judging_of}
use Rattle.aero_feed.proofs.Texts.{told_right}
use Rattle.aero_feed.proofs.text_monitor.TextMonitor.is_certain.Goals as goal

pub returns-clause-going_on : goal.returns-clause-going_on
returns-clause-going_on c =
    let m = judging_of c.self.inside.judge in
    subst (λ (v : Feeding). v.is_spent ≡ false → c.is_certain.result ≡ false → EndsLine v.text → IsOpenText v.text v.rules) c.self.view_is (λ unspent off ends.
    told_right c.self.inside.text.bytes c.self.inside.cutter m m.certain (c.self.invariant.stands unspent)
    (sym c.is_certain.ensures.told ∙ off) ends)
