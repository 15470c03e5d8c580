use Rattle.std.proofs.Common.{◌≡◌, [], sym, ◌∙◌, ap}
use Rattle.std.specs.Prelude.{unwrap_or, bytes_eq}
use Rattle.std.specs.List.{list_any}
use Rattle.aero_model.specs.Ended.{open_of}
use Rattle.aero_model.specs.Exempt.{marked_trace}
use Rattle.aero_model.specs.Numbering.{Tables}
use Rattle.aero_model.proofs.NamedDepths.{open_blocks_none}
use Rattle.aero_grammar.specs.Tabled.{name_at}
use Rattle.aero_verdict.proofs.Chunks.{open_by_number}
use Rattle.aero_verdict.proofs.ended.open_at.Goals as goal

pub returns-in-Some-find : goal.returns-in-Some-find
returns-in-Some-find c = λ labels front names stands.
    let same : c.in-Some.name.now ≡ name_at c.args.threads.now c.args.n = ap (λ o. unwrap_or o []) c.in-Some.ensures in
    c.open_blocks.ensures (marked_trace labels front) stands
    ∙ open_by_number labels front c.args.numbering.now.threads.names (ap (λ (t : Tables). t.threads) names) c.in-Some-find.thread c.in-Some.name.now c.in-Some-find.ensures.found
    ∙ ap (open_of front) same

pub returns-in-None : goal.returns-in-None
returns-in-None c = λ labels front names stands.
    let same : c.in-Some.name.now ≡ name_at c.args.threads.now c.args.n = ap (λ o. unwrap_or o []) c.in-Some.ensures in
    sym (open_blocks_none front c.in-Some.name.now (ap (λ (t : Tables). list_any (bytes_eq c.in-Some.name.now) t.threads) (sym names) ∙ c.in-None.ensures.missed))
    ∙ ap (open_of front) same
