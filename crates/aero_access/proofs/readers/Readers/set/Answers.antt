use Rattle.std.proofs.Common.{◌≡◌, sym, ◌∙◌, ap, ⊎_elim, Some, None}
use Rattle.std.specs.Prelude.{position}
use Rattle.aero_access.specs.LastClocks.{is_by}
use Rattle.aero_access.proofs.KeptLists.{position_at, position_none, apart_set, find-set, apart_push, find-push}
use Rattle.aero_access.proofs.Outcomes.{either}
use Rattle.aero_access.proofs.readers.Readers.set.Goals as goal

pub invariant_of-self : goal.invariant_of-self
invariant_of-self c =
    let place : position (is_by c.args.kept.thread) c.args.self.now.kept.items ≡ Some c.in-Some.i = sym (ap (position (is_by c.args.kept.thread)) c.deref.ensures.value) ∙ sym c.place_by.ensures ∙ c.in-Some.is in
    let at = position_at c.args.self.now.kept.items c.args.kept.thread c.in-Some.i c.args.kept place in
    record { apart = rw c.replace.ensures.after (apart_set c.args.self.now.kept.items c.in-Some.i c.args.kept c.args.self.now.apart at.0 at.1) }

pub invariant_of-self-in-None : goal.invariant_of-self-in-None
invariant_of-self-in-None c =
    let place : position (is_by c.args.kept.thread) c.args.self.now.kept.items ≡ None = sym (ap (position (is_by c.args.kept.thread)) c.deref.ensures.value) ∙ sym c.place_by.ensures ∙ c.in-None.is in
    ⊎_elim
    (λ e. record { apart = rw e (apart_push c.args.self.now.kept.items c.args.kept c.args.self.now.apart (position_none c.args.self.now.kept.items c.args.kept.thread place)) })
    (λ e. record { apart = rw e c.args.self.now.apart })
    (either c.add.result c.add.ensures.ok c.add.ensures.err)

pub returns-in-Some-clause-ok : goal.returns-in-Some-clause-ok
returns-in-Some-clause-ok c =
    let place : position (is_by c.args.kept.thread) c.args.self.now.kept.items ≡ Some c.in-Some.i = sym (ap (position (is_by c.args.kept.thread)) c.deref.ensures.value) ∙ sym c.place_by.ensures ∙ c.in-Some.is in
    let at = position_at c.args.self.now.kept.items c.args.kept.thread c.in-Some.i c.args.kept place in
    rw c.replace.ensures.after (find-set c.args.self.now.kept.items c.in-Some.i c.args.kept c.args.self.now.apart at.0 at.1)

pub returns-in_ok-add-in-None-clause-ok : goal.returns-in_ok-add-in-None-clause-ok
returns-in_ok-add-in-None-clause-ok c =
    let place : position (is_by c.args.kept.thread) c.args.self.now.kept.items ≡ None = sym (ap (position (is_by c.args.kept.thread)) c.deref.ensures.value) ∙ sym c.place_by.ensures ∙ c.in-None.is in
    rw c.in_ok-add-in-None.ensures.ok (find-push c.args.self.now.kept.items c.args.kept c.args.self.now.apart (position_none c.args.self.now.kept.items c.args.kept.thread place))
