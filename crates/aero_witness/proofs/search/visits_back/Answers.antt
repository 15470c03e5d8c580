use Rattle.std.proofs.Common.{◌≡◌, List, [], ◌∷◌, ◌++◌, refl, sym, ◌∙◌, ap, subst, arith}
use Rattle.std.specs.Prelude.{reverse}
use Rattle.std.proofs.lemmas.List.{reverse-append}
use Rattle.aero_model.specs.Blocks.{transaction}
use Rattle.aero_witness.specs.declared.visit.Visit.{Visit}
use Rattle.aero_witness.specs.Reached.{reached_at}
use Rattle.aero_witness.specs.Telling.{IsShortest}
use Rattle.aero_witness.proofs.Walked.{noted_is, reached_within}
use Rattle.aero_witness.proofs.Walking.{Back, none_back, falls, one_back, shortest}
use Rattle.aero_witness.proofs.search.visits_back.Goals as goal

turned : (xs ys : List Visit) (w : Visit) → ys ≡ xs ++ w ∷ [] → reverse ys ≡ w ∷ reverse xs
turned xs ys w e = ap reverse e ∙ reverse-append xs (w ∷ [])

pub loop-step-init : goal.loop-step-init
loop-step-init c =
    let at = noted_is c.args.way_back.level (reached_at c.args.reached.now c.args.way_back.out) c.requires.out in
    let none = none_back c.args.events.now (transaction c.args.events.now c.args.way_back.begin) c.args.reached.now c.args.way_back.level c.requires.levels c.args.way_back.out at.0 at.1 at.2 in
    subst (λ (vs : List Visit). Back c.args.events.now c.args.reached.now c.args.way_back.level c.args.way_back.out c.args.way_back.out vs) (sym {A = List Visit} (ap reverse c.new-visits.ensures.items)) none

pub returns-then-step-eq0 : goal.returns-then-step-eq0
returns-then-step-eq0 c =
    let trace = c.args.events.now in
    let reached = c.args.reached.now in
    let way_back = c.args.way_back in
    let levels = c.requires.levels in
    let leaves = c.loop-step.leaves in
    let visits = c.loop-step.visits.items in
    let first : Visit = record { enters = way_back.back; leaves = leaves } in
    let at = sym c.in-Some.ensures in
    let last = noted_is way_back.level (reached_at reached way_back.out) c.requires.out in
    let level = last.2 in
    let some = c.requires.some in
    let each = levels.each in
    let within = reached_within reached leaves c.in-Some.step at in
    let is = shortest trace (transaction trace way_back.begin) reached way_back.level levels leaves way_back.out way_back.back (reverse visits) first c.in-Some.step last.0 c.loop-step.invariant at c.if-step-eq0.true last.1 (omega arith) c.requires.back c.requires.closes (omega arith) refl refl in
    subst (λ (vs : List Visit). IsShortest trace (transaction trace way_back.begin) vs) (sym {A = List Visit} (turned visits c.push.new.self.items first c.in_ok-push.ensures.items)) is

pub loop-step-smaller : goal.loop-step-smaller
loop-step-smaller c = falls c.args.events.now (transaction c.args.events.now c.args.way_back.begin) c.args.reached.now c.args.way_back.level c.requires.levels c.loop-step.leaves c.in-Some.step (sym c.in-Some.ensures) c.if-step-eq0.false

pub loop-step-preserved : goal.loop-step-preserved
loop-step-preserved c =
    let trace = c.args.events.now in
    let reached = c.args.reached.now in
    let way_back = c.args.way_back in
    let levels = c.requires.levels in
    let leaves = c.loop-step.leaves in
    let visits = c.loop-step.visits.items in
    let w : Visit = record { enters = c.in-Some.step.enters; leaves = leaves } in
    let at = sym c.in-Some.ensures in
    let next = one_back trace (transaction trace way_back.begin) reached way_back.level levels leaves way_back.out (reverse visits) w c.in-Some.step c.loop-step.invariant at c.if-step-eq0.false refl refl in
    subst (λ (vs : List Visit). Back trace reached way_back.level c.in-Some.step.from way_back.out vs) (sym {A = List Visit} (turned visits c.push-in-Some.new.self.items w c.in_ok-push-2.ensures.items)) next
