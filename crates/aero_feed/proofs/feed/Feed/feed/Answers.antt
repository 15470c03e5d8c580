use Rattle.std.proofs.Common.{◌≡◌, ◌++◌, take, ◌∙◌, ap, append_assoc}
use Rattle.std.proofs.lemmas.List.{take-append-drop}
use Rattle.aero_feed.proofs.Texts.{stays_twice}
use Rattle.aero_feed.proofs.feed.Feed.feed.Goals as goal

pub loop-rest-preserved : goal.loop-rest-preserved
loop-rest-preserved c =
    let was = c.loop-rest.self in
    let rest = c.loop-rest.rest.now in
    let front = c.split_at.result.0.now in
    let back = c.split_at.result.1.now in
    let whole : front ++ back ≡ rest = ap (λ f. f ++ back) c.split_at.ensures.front ∙ (ap (λ b. take 65536 rest ++ b) c.split_at.ensures.back ∙ take-append-drop 65536 rest) in (
      ap (λ t. t ++ back) c.in_ok-hold.ensures.text ∙ (append_assoc was.text front back ∙ (ap (λ t. was.text ++ t) whole ∙ c.loop-rest.invariant.0)),
      c.hold.ensures.feeds_on.rules ∙ c.loop-rest.invariant.1,
      c.hold.ensures.feeds_on.explains ∙ c.loop-rest.invariant.2,
      stays_twice c.args.self.now.certain was.certain c.hold.new.self.certain c.loop-rest.invariant.3 c.hold.ensures.feeds_on.stays,
      (λ spent. c.hold.ensures.feeds_on.stays_spent (c.loop-rest.invariant.4 spent)),
    )
