use Rattle.std.proofs.Common.{◌++◌, ◌∙◌, ap, codes, decimal}
use Rattle.aero_model.specs.Named.{Named}
use Rattle.aero_faults.proofs.Parts.{four_parts}
use Rattle.aero_faults.proofs.texts.append_joined.Goals as goal

pub returns : goal.returns
returns c =
    four_parts c.args.text.now.items c.args.event.now.thread (codes " acts, but ") c.args.thread.now (codes " joined it on line " ++ decimal c.args.line) _ _ _ _
    (c.in_ok-extend_from_slice.ensures.items ∙ ap (λ l. c.args.text.now.items ++ l) (c.bytes.ensures ∙ ap (λ (e : Named). e.thread) c.event.view_is))
    c.in_ok-extend_from_slice-2.ensures.items c.in_ok-extend_from_slice-3.ensures.items c.in_ok-append_at.ensures
