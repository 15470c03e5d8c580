use Rattle.std.proofs.Common.{◌≡◌, ℕ, List, Some, length, sym, ◌∙◌, ap, subst}
use Rattle.std.specs.Prelude.{slice_get}
use Rattle.aero_witness.specs.Parts.{ended_test}
use Rattle.aero_witness.proofs.Ended.{ended_from, ended_to}
use Rattle.aero_witness.proofs.telling.has_ended.Goals as goal

pub returns : goal.returns
returns c =
    let trace = c.args.events.now in
    let table = c.args.transactions.now.nests.items in
    let first = c.first_at.result in
    let thread = c.thread_at-thread.result in
    let found = subst (λ (xs : List ℕ). slice_get xs c.args.place ≡ Some first) c.deref-2.ensures.value c.first_at.ensures in
    let of = c.requires.of.firsts.at c.args.place first found in
    let test = c.is_ended.ensures ∙ ap (λ xs. ended_test xs thread first) c.deref.ensures.value in (
      (λ h. ended_from trace (length trace) table c.requires.of.nests c.args.place c.requires.within thread first c.thread_at-thread.ensures of (sym test ∙ h)),
      λ h. test ∙ ended_to trace (length trace) table c.requires.of.nests c.args.place c.requires.within thread first c.thread_at-thread.ensures of h,
    )
