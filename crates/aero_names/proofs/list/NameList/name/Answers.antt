use Rattle.std.proofs.Common.{◌≤◌, length, sym, ◌∙◌, ap, arith, slice_get}
use Rattle.aero_names.proofs.Cuts.{cut_start, cut_end, cut_name, no_name}
use Rattle.aero_names.proofs.list.NameList.name.Goals as goal

pub returns-then-place-ends : goal.returns-then-place-ends
returns-then-place-ends c =
    sym (no_name c.self.inside.bytes.items 0 c.self.inside.ends.items c.args.number (omega (arith, c.if-place-ends.true, ap length c.as_slice-ends.ensures.value)))
    ∙ ap (λ names. slice_get names c.args.number) c.self.view_is

pub slice_bounds-result-count : goal.slice_bounds-result-count
slice_bounds-result-count c = cut_start _ _ _ _ _ _ c.self.invariant c.as_slice-ends.ensures.value c.if-place-ends.false c.start_of-start.ensures c.end_of-end.ensures

pub slice_bounds-result-start : goal.slice_bounds-result-start
slice_bounds-result-start c =
    let count : c.start_of-start.result ≤ c.end_of-end.result = cut_start _ _ _ _ _ _ c.self.invariant c.as_slice-ends.ensures.value c.if-place-ends.false c.start_of-start.ensures c.end_of-end.ensures in
    let end : c.end_of-end.result ≤ length c.deref.result.now = cut_end _ _ _ _ _ _ c.self.invariant c.as_slice-ends.ensures.value c.deref.ensures.value c.if-place-ends.false c.end_of-end.ensures in
    omega (arith, count, end)

pub slice_bounds-result-end : goal.slice_bounds-result-end
slice_bounds-result-end c = cut_end _ _ _ _ _ _ c.self.invariant c.as_slice-ends.ensures.value c.deref.ensures.value c.if-place-ends.false c.end_of-end.ensures

pub returns : goal.returns
returns c =
    cut_name _ _ _ _ _ _ _ c.as_slice-ends.ensures.value c.deref.ensures.value c.if-place-ends.false c.start_of-start.ensures c.end_of-end.ensures
    ∙ ap (λ names. slice_get names c.args.number) c.self.view_is
