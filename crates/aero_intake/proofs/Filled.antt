-- A read into a buffer behind what it holds.
use Rattle.std.proofs.Common.{◌≡◌, ℕ, zero, suc, ◌+◌, ◌<◌, ◌≤◌, true, false, List, [], ◌∷◌, ◌++◌, length, take, Result, Ok, Err, refl, ◌∙◌, ap, ap₂, arith, drop_at}
use Rattle.std.proofs.Common.{length-take-le}
use Rattle.std.specs.Prelude.{is_err, if◌then◌else◌, ◌&&◌, nat_lt}
use Rattle.std.specs.Global.{Vec}
use Rattle.std.specs.Vec.{with_items}
use Rattle.std.specs.Io.{ReadsAtMost}
use Rattle.std.specs.Io.KnownBytes.{ReadConsumes}
use Rattle.std.proofs.KnownBytes.{Consumes-kept, Consumes-nil}
use Rattle.std.proofs.lemmas.Bool.{lt-ltb, ne_eqb}
use Rattle.std.proofs.lemmas.List.{with_items_is}
use borrow.Rule.Slice.PartMut.{put_mid, post_of, take_put}
use lib.Seq.{take-add, take-append-le}
use Rattle.aero_model.specs.declared.verdict.Ending.TheVariants.{Whole}
use Rattle.aero_model.specs.CallCounts.{moves_nothing}
use Rattle.aero_intake.specs.Source.{faults_by, gained, is_last_read, Sight, Trails, WasRead}
use Rattle.aero_intake.specs.Intake.{Fills, FillsWith}

-- what was read into the part stands behind what is held
behind_front : (a k n : ℕ) (xs ys : List ℕ) → a ≤ length xs → n ≤ length ys → take (a + n) (put_mid a k xs ys) ≡ take a xs ++ take n ys
behind_front a k n xs ys within fits =
    take-add a n (put_mid a k xs ys)
    ∙ ap₂ (λ f b. f ++ take n b) (take_put a k xs ys within) (drop_at (take a xs) (ys ++ post_of a k xs) a (length-take-le a xs within))
    ∙ ap (λ b. take a xs ++ b) (take-append-le n ys (post_of a k xs) fits)

pub fills : {E : Type 0} (before after : Sight) (held room k : ℕ) (xs ys : List ℕ) (r : Result ℕ E) → held ≤ length xs → length ys ≡ room → 0 < room →
    ReadsAtMost r ys → ReadConsumes before.bytes after.bytes r ys → after.faults ≡ before.faults + faults_by (is_err r) before.closed →
    after.ends ≡ before.ends + (if moves_nothing r ys then 1 else 0) → Trails before.trail after.trail (gained r ys) →
    (is_last_read r ys ≡ true → after.is_open ≡ false) → after.closed ≡ before.closed → Fills before after held room xs (put_mid held k xs ys) r
fills before after held room k xs [] (Ok zero) within long some bound bytes faults ends trail shut closed = absurd (omega (arith, long, some))
fills before after held room k xs (y ∷ ys) (Ok zero) within long some bound bytes faults ends trail shut closed = (
  λ limit. record {
    came = bytes.0;
    trail = trail;
    faults = faults;
    ends = ends ∙ ap (λ b. before.ends + (if b then 1 else 0)) (lt-ltb 0 (suc (length ys)) (omega arith));
    fits = omega arith;
    rest = bytes.1 refl (omega arith);
    shut = shut (lt-ltb 0 (suc (length ys)) (omega arith));
    closed = closed;
  },
  take_put held k xs (y ∷ ys) within,
)
fills before after held room k xs ys (Ok (suc n)) within long some bound bytes faults ends trail shut closed = (
  take (suc n) ys,
  record {
    came = bytes.0;
    trail = trail;
    quiet = record {
      faults = omega (arith, faults);
      ends = ends ∙ (ap (λ b. before.ends + (if b && nat_lt 0 (length ys) then 1 else 0)) (ne_eqb (suc n) 0 (λ e. omega (arith, e))) ∙ omega arith);
      closed = closed;
    };
  },
  length-take-le (suc n) ys bound.0,
  omega (arith, bound.0, long),
  behind_front held k (suc n) xs ys within bound.0,
)
fills before after held room k xs ys (Err e) within long some bound bytes faults ends trail shut closed = (
  λ limit. record {
    came = Consumes-kept before.bytes before.bytes after.bytes [] (Consumes-nil before.bytes) bytes;
    trail = trail;
    faults = faults;
    ends = omega (arith, ends);
    fits = omega arith;
    rest = tt;
    shut = shut refl;
    closed = closed;
  },
  take_put held k xs ys within,
)

-- what is held stays where a read gave nothing
pub still_held : (v : Vec ℕ) (held : ℕ) (old new : List ℕ) → old ≡ v.items → length new ≡ v.len → take held new ≡ take held old →
    take held (with_items v new).items ≡ take held v.items
still_held v held old new is kept same = ap (take held) (with_items_is v new kept) ∙ (same ∙ ap (take held) is)

-- a read that gave 0 bytes found the end
pub none_came : (before after : Sight) (held room n : ℕ) (xs ys : List ℕ) → n ≡ 0 → FillsWith before after held room xs ys n →
    ((limit : ℕ) → WasRead before after limit [] Whole) × (take held ys ≡ take held xs)
none_came before after held room zero xs ys none is = is
none_came before after held room (suc n) xs ys none is = absurd (omega (arith, none))
