-- Stamps that are the same.
use Rattle.std.proofs.Common.{◌≡◌, ◌&&◌, Bool, true, false, sym, refl, true≢false}
use Rattle.std.proofs.lemmas.Bool.Decides.{Decides-eqb, Decides-int_eq}
use Rattle.aero_program.specs.declared.stamp.Stamp.{Stamp}
use Rattle.aero_program.specs.declared.stamp.Moment.{Moment}
use Rattle.aero_program.specs.contracts.stamp.StampPartialEq as StampPartialEq
use Rattle.aero_program.specs.contracts.stamp.MomentPartialEq as MomentPartialEq

both : (x y : Bool) → (x && y) ≡ true → (x ≡ true) × (y ≡ true)
both true y holds = (refl, holds)
both false y holds = absurd (true≢false (sym holds))

same_moment : (a b : Moment) → MomentPartialEq.TheImpl.ghosts.eq a b ≡ true → a ≡ b
same_moment a b holds =
    let parts = both _ _ holds in
    let seconds : a.seconds ≡ b.seconds = (Decides-int_eq a.seconds b.seconds).0 parts.0 in
    let nanoseconds : a.nanoseconds ≡ b.nanoseconds = (Decides-int_eq a.nanoseconds b.nanoseconds).0 parts.1 in
    λ i. record { seconds = seconds i; nanoseconds = nanoseconds i }

-- stamps that are found to be the same are
pub same_stamp : (a b : Stamp) → StampPartialEq.TheImpl.ghosts.eq a b ≡ true → a ≡ b
same_stamp a b holds =
    let one = both _ _ holds in
    let two = both _ _ one.1 in
    let three = both _ _ two.1 in
    let four = both _ _ three.1 in
    let device : a.device ≡ b.device = (Decides-eqb a.device b.device).0 one.0 in
    let inode : a.inode ≡ b.inode = (Decides-eqb a.inode b.inode).0 two.0 in
    let size : a.size ≡ b.size = (Decides-eqb a.size b.size).0 three.0 in
    let written : a.written ≡ b.written = same_moment a.written b.written four.0 in
    let changed : a.changed ≡ b.changed = same_moment a.changed b.changed four.1 in
    λ i. record { device = device i; inode = inode i; size = size i; written = written i; changed = changed i }
