use Rattle.std.proofs.Common.{rules, ◌≡◌, ◌<◌, length, is_some, true}
use Rattle.aero_gather.proofs.Steps.{kept_settles, same_slot, settles_of, settles_value}
use Rattle.aero_gather.proofs.gather.Gather.settle_with_question.Goals as goal

pub returns-clause-settled : goal.returns-clause-settled
returns-clause-settled c =
    let some : 0 < length c.self.inside.slots.items = search rules in
    let has_value : is_some c.front.inside.value ≡ true = search rules in
    let first = same_slot c.self.inside.slots.items 0 _ _ c.front.view_is c.index-front.ensures in
    settles_value _ _ _ _ c.with_its_value.ensures.value
    (settles_of _ _ _ _ c.self.view_is (kept_settles _ _ _ _ _ some first c.remove-2.ensures.value has_value c.remove-2.ensures.items))
