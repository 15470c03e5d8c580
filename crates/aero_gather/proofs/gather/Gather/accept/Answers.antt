use Rattle.std.proofs.Common.{rules, ◌<◌, ◌∙◌, ap, refl}
use Rattle.aero_gather.specs.Gathered.{Gathered}
use Rattle.aero_gather.proofs.Steps.{kept_below_asked, kept_gathered, keeps_at, same_open, same_place, same_slot, same_tally, same_waits}
use Rattle.aero_gather.proofs.gather.Gather.accept.Goals as goal

pub with_kept-self-inside-requires : goal.with_kept-self-inside-requires
with_kept-self-inside-requires c =
    let w = same_place _ _ _ _ c.in-Some.place c.question.ensures c.deref.ensures.value c.in-Some.ensures.some in
    let below : c.self.inside.tally.kept < c.self.inside.tally.asked = kept_below_asked _ c.self.invariant.gathered _ _ w in
    search rules

pub invariant_of-self : goal.invariant_of-self
invariant_of-self c =
    let w = same_place _ _ _ _ c.in-Some.place c.question.ensures c.deref.ensures.value c.in-Some.ensures.some in
    let at = same_slot _ c.in-Some.place _ _ c.slot.view_is c.index_mut-slot.ensures.value in
    record {
      gathered = kept_gathered _ c.self.invariant.gathered _ _ _ _ _ c.with_kept-self-inside.ensures w at c.into_value.ensures.known;
      roomy = c.self.invariant.roomy;
    }

pub returns-in-Some : goal.returns-in-Some
returns-in-Some c =
    let w = same_place _ _ _ _ c.in-Some.place c.question.ensures c.deref.ensures.value c.in-Some.ensures.some in
    let at = same_slot _ c.in-Some.place _ _ c.slot.view_is c.index_mut-slot.ensures.value in
    rw (← c.self.view_is, ← c.into_value.ensures.value)
    (keeps_at _ _ _ _ _ w at, same_tally _ _ _ _ c.with_kept-self-inside.ensures)

pub returns-in-None : goal.returns-in-None
returns-in-None c =
    let slots = ap (λ (g : Gathered). g.entries) c.self.view_is in
    let first = c.deref.ensures.value ∙ slots in
    let second = c.deref-in-None-oldest_waiting.ensures.value ∙ slots in (
      same_open _ c.args.answer.question _ c.args.self.now.entries c.question-in-None-oldest_waiting.ensures second
          (c.has_question.ensures.0 c.if-has_question.true),
      same_waits c.question.result.now c.args.answer.question c.deref.result.now c.args.self.now.entries c.question.ensures first c.in-None.ensures.none,
      refl,
    )
