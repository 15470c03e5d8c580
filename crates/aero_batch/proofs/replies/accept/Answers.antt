use Rattle.std.proofs.Common.{◌∙◌, ap, rules, subst}
use Rattle.aero_gather.specs.Gathered.{Gathered, Accepts}
use Rattle.aero_batch.specs.declared.kind.Kind.{Kind}
use Rattle.aero_batch.specs.Inquiries.{StaysOpen, kind_of}
use Rattle.aero_batch.specs.Replies.{ChangesOne, with_kind}
use Rattle.aero_batch.proofs.Questions.{accepted_stays}
use Rattle.aero_batch.proofs.ByKind.{kind_changes, kind_stays}
use Rattle.aero_batch.proofs.replies.accept.Goals as goal

pub returns-clause-heeds : goal.returns-clause-heeds
returns-clause-heeds c =
    let g = c.args.gathers.now in
    let new = c.accept.new.self in
    let changes = λ (a b : Gathered). Accepts c.args.answer.question c.args.answer.value a b c.accept.result in
    let kind_is = c.kind_of-kind.ensures ∙ ap kind_of c.question.ensures in
    let accepts = subst (λ (a : Gathered). changes a new) c.of_mut.ensures.value c.accept.ensures in (
      c.accept.result,
      subst (λ (k : Kind). ChangesOne k g (with_kind c.kind_of-kind.result g new) changes) kind_is
          (kind_changes c.kind_of-kind.result g new changes accepts),
      search rules,
    )

pub returns-clause-stay : goal.returns-clause-stay
returns-clause-stay c =
    kind_stays c.kind_of-kind.result c.args.gathers.now c.accept.new.self
    (subst (λ (a : Gathered). StaysOpen a c.accept.new.self) c.of_mut.ensures.value (accepted_stays _ _ _ _ _ c.accept.ensures))
