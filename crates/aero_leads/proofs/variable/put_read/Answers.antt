use Rattle.std.proofs.Common.{◌∷◌, ◌++◌, [], if◌then◌else◌, sym, ap, ◌∙◌}
use Rattle.std.proofs.lemmas.Bool.{cond-true, cond-false}
use Rattle.std.proofs.lemmas.List.{append-nil}
use Rattle.aero_leads.specs.declared.variable.Variable.{Variable}
use Rattle.aero_leads.proofs.Compacting.{put_kept}
use Rattle.aero_leads.proofs.variable.put_read.Goals.{then-is_kept+in_ok-push, else-is_kept}
use Rattle.aero_leads.proofs.variable.put_read.Goals as goal

pub returns-clause-others : goal.returns-clause-others
returns-clause-others c =
    put_kept c.args.event.thread c.args.variable.now.others.items c.drop_stale.new.reads.items c.if-is_kept.variable.others.items (if c.args.is_kept then c.args.variable.now.read ∷ [] else []) c.drop_stale.ensures
    (elim c.if-is_kept.branch [
      | then-is_kept+in_ok-push w ↦ ap (λ (v : Variable). v.others.items) w.variable-is ∙ w.in_ok-push.ensures.items ∙ ap (λ ls. c.drop_stale.new.reads.items ++ ls) (sym (cond-true c.args.is_kept _ _ w.if-is_kept.true))
      | else-is_kept w ↦ ap (λ (v : Variable). v.others.items) w.variable-is ∙ sym (append-nil c.drop_stale.new.reads.items) ∙ ap (λ ls. c.drop_stale.new.reads.items ++ ls) (sym (cond-false c.args.is_kept _ _ w.if-is_kept.false))
    ])
