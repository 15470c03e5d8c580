-- What a search tells stands in the event's way.
use Rattle.std.proofs.Common.{◌≡◌, ◌≢◌, ℕ, ◌==◌, ◌&&◌, ◌||◌, not, Bool, true, false, cond, List, Option, Some, None, refl, sym, ◌∙◌, ap, arith}
use Rattle.std.specs.Prelude.{IfSome, bytes_eq, ⊤}
use Rattle.std.proofs.lemmas.Bool.{and_parts, both_ways, eqb-true}
use Rattle.aero_model.specs.declared.verdict.ShapeFault.{ShapeFault}
use Rattle.aero_model.specs.declared.verdict.ShapeFault.TheVariants.{ThreadJoined, LockHeldByOther, LockNotHeld, ForkSelf, ForkStarted, JoinSelf, EndWithoutBegin}
use Rattle.aero_model.specs.Named.{Named}
use Rattle.aero_faults.specs.Before.{is_by, is_end, is_acquire_of, is_release_of, is_fork_of, is_join_of, is_start_of}
use Rattle.aero_faults.specs.Firsts.{CameFirst, deed_of, is_sought, IsFound}
use Rattle.aero_faults.specs.Holders.{IsHolder}
use Rattle.aero_faults.specs.Opened.{AreOpen}
use Rattle.aero_faults.specs.Hindrances.{Hinders}
use Rattle.aero_faults.specs.Searches.{target_of, IsSeen, by_holder, by_join, by_deed, by_start, by_blocks, by_itself, hindrance_in}
use Rattle.aero_faults.specs.declared.first.Deed.{Deed}
use Rattle.aero_faults.specs.declared.first.Deed.TheVariants as deed
use Rattle.aero_faults.specs.declared.first.FirstDeed.{FirstDeed}
use Rattle.aero_faults.specs.declared.first.Sought.TheVariants.{Joins, Starts}
use Rattle.aero_faults.specs.declared.holder.Holder.{Holder}
use Rattle.aero_faults.specs.declared.holder.Holder.TheVariants as holder
use Rattle.aero_faults.specs.declared.hindrance.Hindrance.TheVariants.{Held, Free, Itself, NoneOpen}
use Rattle.aero_faults.specs.declared.search.Seen.{Seen}
use Rattle.aero_faults.specs.declared.search.Seen.TheVariants as seen
use Rattle.aero_faults.proofs.Counts.{same_bytes}

if_passed : {X : Type 0} (b : Bool) (x : X) (P : X → Type 0) → (b ≡ true → P x) → IfSome (cond b (Some x) None) P
if_passed true x P h = h refl
if_passed false x P h = tt

other_thread : (t u : List ℕ) → not (bytes_eq t u) ≡ true → t ≢ u
other_thread t u h is = both_ways (not (bytes_eq t u)) (ap not (same_bytes t u is)) h

-- what passes the test of who acted is told so
module _ (u : List ℕ) (e : Named) where
  acted : deed_of u e ≡ deed.Acted → is_by u e ≡ true
  acted is = go (is_by u e) (is_fork_of u e) is
    where
      go : (a b : Bool) → cond a deed.Acted (cond b deed.Forked deed.Joined) ≡ deed.Acted → a ≡ true
      go true b h = refl
      go false true h = absurd (cc)
      go false false h = absurd (cc)

  forked : deed_of u e ≡ deed.Forked → is_fork_of u e ≡ true
  forked is = go (is_by u e) (is_fork_of u e) is
    where
      go : (a b : Bool) → cond a deed.Acted (cond b deed.Forked deed.Joined) ≡ deed.Forked → b ≡ true
      go true b h = absurd (cc)
      go false true h = refl
      go false false h = absurd (cc)

  joined : is_start_of u e ≡ true → deed_of u e ≡ deed.Joined → is_join_of u e ≡ true
  joined start is = go (is_by u e) (is_fork_of u e) (is_join_of u e) start is
    where
      go : (a b c : Bool) → ((a || b) || c) ≡ true → cond a deed.Acted (cond b deed.Forked deed.Joined) ≡ deed.Joined → c ≡ true
      go true b c s h = absurd (cc)
      go false true c s h = absurd (cc)
      go false false c s h = s

module _ (e : Named) where
  explain_holder : (fault : ShapeFault) (holder : Holder) → IfSome (by_holder fault e holder) (λ h. (before : List (ℕ × Named)) → IsHolder (target_of e) before holder → Hinders before e fault h)
  explain_holder LockHeldByOther (holder.Thread h) =
      if_passed (is_acquire_of (target_of e) e && not (bytes_eq h.thread e.thread)) (Held h.thread h.line)
      (λ x. (before : List (ℕ × Named)) → IsHolder (target_of e) before (holder.Thread h) → Hinders before e LockHeldByOther x)
      (λ passed before alone.
      let parts = and_parts (is_acquire_of (target_of e) e) (not (bytes_eq h.thread e.thread)) passed in
      record { lock = target_of e; event = parts.0; other = other_thread h.thread e.thread parts.1; holds = alone.holds })
  explain_holder LockNotHeld (holder.Thread h) =
      if_passed (is_release_of (target_of e) e && not (bytes_eq h.thread e.thread)) (Held h.thread h.line)
      (λ x. (before : List (ℕ × Named)) → IsHolder (target_of e) before (holder.Thread h) → Hinders before e LockNotHeld x)
      (λ passed before alone.
      let parts = and_parts (is_release_of (target_of e) e) (not (bytes_eq h.thread e.thread)) passed in
      record { lock = target_of e; event = parts.0; other = other_thread h.thread e.thread parts.1; holds = alone.holds })
  explain_holder LockNotHeld holder.Nobody =
      if_passed (is_release_of (target_of e) e) Free
      (λ x. (before : List (ℕ × Named)) → IsHolder (target_of e) before holder.Nobody → Hinders before e LockNotHeld x)
      (λ passed before free. record { lock = target_of e; event = passed; free = free })
  explain_holder fault holder = tt

  explain_join : (fault : ShapeFault) (first : Option FirstDeed) → IfSome (by_join fault first) (λ h. (before : List (ℕ × Named)) → IsFound (is_sought Joins e.thread) e.thread before first → Hinders before e fault h)
  explain_join ThreadJoined (Some f) = λ before came. record { join = came.event; first = came.first; thread = came.thread }
  explain_join fault first = tt

  deed_explains : (f : FirstDeed) (d : Deed) → f.deed ≡ d → is_fork_of (target_of e) e ≡ true → (before : List (ℕ × Named)) → CameFirst (is_start_of (target_of e)) (target_of e) before f
      → Hinders before e ForkStarted (by_deed f d)
  deed_explains f deed.Acted is forks before came = record {
    thread = target_of e;
    event = forks;
    start = came.event;
    first = came.first;
    is = acted (target_of e) came.event (sym came.deed ∙ is);
  }
  deed_explains f deed.Forked is forks before came = record {
    thread = target_of e;
    event = forks;
    start = came.event;
    first = came.first;
    is = forked (target_of e) came.event (sym came.deed ∙ is);
  }
  deed_explains f deed.Joined is forks before came = record {
    thread = target_of e;
    event = forks;
    start = came.event;
    first = came.first;
    is = joined (target_of e) came.event came.first.passes (sym came.deed ∙ is);
    by = came.thread;
  }

  explain_start : (fault : ShapeFault) (first : Option FirstDeed) → IfSome (by_start fault e first) (λ h. (before : List (ℕ × Named)) → IsFound (is_sought Starts (target_of e)) (target_of e) before first → Hinders before e fault h)
  explain_start ForkStarted (Some f) =
      if_passed (is_fork_of (target_of e) e) (by_deed f f.deed)
      (λ x. (before : List (ℕ × Named)) → CameFirst (is_start_of (target_of e)) (target_of e) before f → Hinders before e ForkStarted x)
      (λ forks before came. deed_explains f f.deed refl forks before came)
  explain_start fault first = tt

  explain_blocks : (fault : ShapeFault) (count : Option ℕ) → IfSome (by_blocks fault e count) (λ h. (before : List (ℕ × Named)) → AreOpen e.thread before count → Hinders before e fault h)
  explain_blocks EndWithoutBegin (Some n) =
      if_passed (is_end e.op && (n == 0)) NoneOpen
      (λ x. (before : List (ℕ × Named)) → AreOpen e.thread before (Some n) → Hinders before e EndWithoutBegin x)
      (λ passed before are.
      let parts = and_parts (is_end e.op) (n == 0) passed in
      let zero_is = eqb-true n 0 parts.1 in
      record { event = parts.0; none = omega arith })
  explain_blocks fault count = tt

  explain_itself : (fault : ShapeFault) → IfSome (by_itself fault e) (λ h. (before : List (ℕ × Named)) → ⊤ → Hinders before e fault h)
  explain_itself ForkSelf =
      if_passed (is_fork_of e.thread e) Itself (λ x. (before : List (ℕ × Named)) → ⊤ → Hinders before e ForkSelf x) (λ forks before seen. forks)
  explain_itself JoinSelf =
      if_passed (is_join_of e.thread e) Itself (λ x. (before : List (ℕ × Named)) → ⊤ → Hinders before e JoinSelf x) (λ joins before seen. joins)
  explain_itself fault = tt

  pub explains : (fault : ShapeFault) (seen : Seen) → IfSome (hindrance_in fault e seen) (λ h. (before : List (ℕ × Named)) → IsSeen e before seen → Hinders before e fault h)
  explains fault (seen.Lock holder) = explain_holder fault holder
  explains fault (seen.Joins first) = explain_join fault first
  explains fault (seen.Starts first) = explain_start fault first
  explains fault (seen.Blocks count) = explain_blocks fault count
  explains fault seen.Nothing = explain_itself fault
