use Rattle.std.proofs.Common.{◌≡◌, ◌++◌, true, length}
use Rattle.std.specs.Prelude.{IfSome}
use Rattle.aero_feed.proofs.feed.Feed.feed.Given as goal

abbrev pub invariant-loop-rest : goal.invariant-loop-rest
invariant-loop-rest l =
    (l.self.text ++ l.rest ≡ l.fn.self.text ++ l.fn.piece)
    × (l.self.rules ≡ l.fn.self.rules)
    × (l.self.explains ≡ l.fn.self.explains)
    × IfSome l.fn.self.certain (λ verdict. l.self.certain ≡ l.fn.self.certain)
    × (l.fn.self.is_spent ≡ true → l.self.is_spent ≡ true)

abbrev pub decreases-loop-rest : goal.decreases-loop-rest
decreases-loop-rest l = length l.rest
