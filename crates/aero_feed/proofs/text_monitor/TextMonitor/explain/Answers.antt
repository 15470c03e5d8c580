use Rattle.std.proofs.Common.{◌≡◌, false, subst}
use Rattle.std.specs.Prelude.{IfOk}
use Rattle.std.proofs.lemmas.Result.{IfOk-weaker}
use Rattle.aero_feed.specs.Feeding.{Feeding, ShowsText}
use Rattle.aero_judge.specs.Judging.{judging_of}
use Rattle.aero_feed.proofs.Texts.{told_shown}
use Rattle.aero_feed.proofs.text_monitor.TextMonitor.explain.Goals as goal

pub returns : goal.returns
returns c =
    let judged = judging_of c.self.inside.judge in
    subst (λ (v : Feeding). v.is_spent ≡ false → IfOk c.explain.result (ShowsText v.explains v.certain v.text v.rules)) c.self.view_is (λ unspent.
    IfOk-weaker c.explain.result _ _ (λ cycle shows. told_shown c.self.inside.text.bytes c.self.inside.cutter judged judged.terms.explain cycle (c.self.invariant.stands unspent) shows) c.explain.ensures)
