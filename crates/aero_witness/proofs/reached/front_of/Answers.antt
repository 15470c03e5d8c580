use Rattle.std.proofs.Common.{◌≡◌, ◌+◌, ℕ, Vec, Global, sym, ◌∙◌, subst}
use Rattle.aero_witness.proofs.Fronts.{IsFrontTo, front_with, front_without}
use Rattle.aero_witness.proofs.reached.front_of.Goals as goal
use Rattle.aero_witness.proofs.reached.front_of.Goals.{then-is_noted+in_ok-push, else-is_noted}

pub loop-place-preserved : goal.loop-place-preserved
loop-place-preserved c =
    let reached = c.args.reached.now in
    let level = c.args.level in
    let place = c.loop-place.place in
    let front = c.loop-place.front.items in
    let taken = (λ (v w : Vec ℕ Global) (is : w ≡ v) (h : IsFrontTo level reached (place + 1) v.items). subst (λ (u : Vec ℕ Global). IsFrontTo level reached (place + 1) u.items) (sym {A = Vec ℕ Global} is) h) in
    elim c.if-is_noted.branch [
      | then-is_noted+in_ok-push w ↦ taken w.push.new.self c.if-is_noted.front w.front-is (front_with level reached place front w.push.new.self.items (sym c.is_noted.ensures ∙ w.if-is_noted.true) w.in_ok-push.ensures.items c.loop-place.invariant)
      | else-is_noted w ↦ taken c.loop-place.front c.if-is_noted.front w.front-is (front_without level reached place front (sym c.is_noted.ensures ∙ w.if-is_noted.false) c.loop-place.invariant)
    ]
