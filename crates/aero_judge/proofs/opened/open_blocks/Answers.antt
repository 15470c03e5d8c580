use Rattle.std.proofs.Common.{◌≡◌, ◌<◌, ◌^◌, length, take, sym, ◌∙◌, ap, subst}
use Rattle.std.specs.Prelude.{All}
use Rattle.std.specs.List.{AllZip}
use Rattle.aero_judge.specs.Records.{AreBegunTo, IsBlockAt}
use Rattle.aero_judge.proofs.Keeping.{few_events, are_shown}
use Rattle.aero_judge.proofs.Opening.{counted_long, all_within, are_open_blocks}
use Rattle.aero_judge.proofs.ReadAt.{as_well}
use Rattle.aero_judge.proofs.opened.open_blocks.Goals as goal

pub transactions_of-requires : goal.transactions_of-requires
transactions_of-requires c =
    let (parts, rules, r) = c.requires in
    subst (λ es. length es < 2 ^ 32) (sym c.deref.ensures.value) (few_events parts rules c.args.names.now c.args.recorder.now (counted_long parts rules) r)

pub openings-requires-clause-few : goal.openings-requires-clause-few
openings-requires-clause-few c =
    let (parts, rules, r) = c.requires in
    subst (λ es. length es < 2 ^ 32) (sym c.deref-2.ensures.value) (few_events parts rules c.args.names.now c.args.recorder.now (counted_long parts rules) r)

pub blocks_at-requires-clause-shown : goal.blocks_at-requires-clause-shown
blocks_at-requires-clause-shown c =
    let (parts, rules, r) = c.requires in
    are_shown parts rules c.args.names.now c.args.recorder.now (counted_long parts rules) r

pub blocks_at-requires-clause-within : goal.blocks_at-requires-clause-within
blocks_at-requires-clause-within c =
    let (parts, rules, r) = c.requires in
    let places = c.in_ok-places.places.items in
    let found = subst (λ es. AreBegunTo es (length es) places) c.deref-2.ensures.value c.in_ok-places.ensures in
    let firsts : c.first_of.result.now ≡ take 64 places = c.first_of.ensures ∙ ap (take 64) c.deref-3.ensures.value in
    subst (All (λ place. place < length c.args.recorder.now.events.items)) (sym firsts) (all_within parts rules c.args.names.now c.args.recorder.now r places found)

pub returns : goal.returns
returns c = λ parts rules r.
    let places = c.in_ok-places.places.items in
    let block_at = IsBlockAt c.args.names.now c.args.recorder.now in
    let found = subst (λ es. AreBegunTo es (length es) places) c.deref-2.ensures.value c.in_ok-places.ensures in
    let firsts : c.first_of.result.now ≡ take 64 places = c.first_of.ensures ∙ ap (take 64) c.deref-3.ensures.value in
    as_well c.blocks_at.result _ _ (λ blocks are.
    are_open_blocks parts rules c.args.names.now c.args.recorder.now r places found blocks.items (subst (λ ps. AllZip block_at ps blocks.items) firsts are)) c.blocks_at.ensures
