use Rattle.std.proofs.Common.{◌∙◌, ◌-◌, ℕ, List, Option, ap, arith, subst, sym}
use Rattle.std.specs.Io.Buffered.{reader_remaining}
use Rattle.aero_faults.specs.Looks.{AreWhole}
use Rattle.aero_faults.proofs.Looking.{buffered, line_behind}
use Rattle.aero_faults.proofs.reading.line_at.Goals as goal

pub returns : goal.returns
returns g c =
    let known = g.R.Read.remaining in
    let some = c.requires in
    let start = reader_remaining known c.new-lines.result.inner in
    let left = reader_remaining known c.into_inner.result in
    let whole : AreWhole start left (c.args.number - 1) =
    subst (λ (l : Option (List ℕ)). AreWhole start l (c.args.number - 1)) (ap (reader_remaining known) (sym c.into_inner.ensures)) (c.in_ok-pass_lines.ensures c.if-not-branch.false) in
    line_behind (λ v. v.items) (known c.args.reader) start left (c.args.number - 1) c.args.number c.last_line.result
    (ap (reader_remaining known) c.new-lines.ensures
    ∙ buffered known c.in_ok-buffered.buffered c.args.reader c.in_ok-buffered.ensures.capacity c.in_ok-buffered.ensures.empty c.in_ok-buffered.ensures.inner)
    whole (omega (arith, some)) c.last_line.ensures
