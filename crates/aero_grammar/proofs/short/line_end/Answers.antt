use Rattle.std.proofs.Common.{◌≡◌, take, length, arith}
use Rattle.std.proofs.lemmas.List.{length-take}
use Rattle.aero_grammar.proofs.Clean.{front_is_good}
use Rattle.aero_grammar.proofs.LinesRead.{none_before, lines_cut}
use Rattle.aero_grammar.proofs.short.line_end.Goals as goal

pub returns-then-end-lt-FEWEST_BYTES-clause-lines : goal.returns-then-end-lt-FEWEST_BYTES-clause-lines
returns-then-end-lt-FEWEST_BYTES-clause-lines c =
    let long : length (take 64 c.args.text.now) ≡ 64 = omega (arith, length-take 64 c.args.text.now, c.requires.wide) in
    lines_cut c.args.text.now 64 c.near_line_end-end.result c.near_line_end-end.ensures c.if-end-lt-FEWEST_BYTES.true long (omega (arith, c.requires.wide))

pub returns-then-end-lt-FEWEST_BYTES-clause-good : goal.returns-then-end-lt-FEWEST_BYTES-clause-good
returns-then-end-lt-FEWEST_BYTES-clause-good c =
    let long : length (take 64 c.args.text.now) ≡ 64 = omega (arith, length-take 64 c.args.text.now, c.requires.wide) in
    front_is_good c.near_line_end-end.result c.args.text.now (none_before c.args.text.now 64 c.near_line_end-end.result c.near_line_end-end.ensures c.if-end-lt-FEWEST_BYTES.true long) c.requires.clean
