use Rattle.std.proofs.Common.{◌++◌, ◌∙◌, ap}
use Rattle.aero_faults.proofs.Parts.{shown_short}
use Rattle.aero_faults.proofs.texts.append_shown.Goals as goal

pub returns-in_ok-append_bytes-2 : goal.returns-in_ok-append_bytes-2
returns-in_ok-append_bytes-2 c =
    c.in_ok-append_bytes-2.ensures ∙ ap (λ l. c.args.text.now.items ++ l) (shown_short c.args.bytes.now c.if-bytes-gt-MOST_SHOWN.false)
