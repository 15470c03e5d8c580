-- The help and a flush, as one.
use Rattle.std.proofs.Common.{◌≡◌, ℕ, List, Option, true, false, Result, Ok, Err, is_err, inl, inr}
use Rattle.std.specs.Prelude.{OnErr, OnOk}
use Rattle.std.specs.declared.io.ErrorKind.{ErrorKind}
use Rattle.aero_model.specs.CallCounts.{Seen}
use Rattle.aero_telling.specs.Founds.{Took}
use Rattle.aero_program.specs.Executed.{EndsAs, Fails, Helps}
use Rattle.aero_program.specs.Failure.{cut_failure}
use Rattle.aero_program.specs.Status.{end_of_help}
use Rattle.aero_program.specs.Streams.{Shown, WasCut, WasFlushed}

pub helped : (text : List ℕ) (shown between after : Shown) (told told_after : Seen) (status : ℕ) (fault : Option ErrorKind)
    → Took shown.writer between.writer text → between.unflushed ≡ shown.unflushed → WasFlushed between after fault
    → EndsAs (end_of_help fault) told told_after status → Helps text shown after told told_after status
helped text shown between after told told_after status fault took same flushed ends = inl (record {
  between = between;
  fault = fault;
  took = took;
  same = same;
  flushed = flushed;
  ends = ends;
})

pub help_cut : (text : List ℕ) (shown between after : Shown) (told told_after : Seen) (status : ℕ) (fault : Option ErrorKind)
    → WasCut shown.writer between.writer text → between.unflushed ≡ shown.unflushed → WasFlushed between after fault
    → Fails (cut_failure fault) told told_after status → Helps text shown after told told_after status
help_cut text shown between after told told_after status fault cut same flushed fails = inr (record {
  between = between;
  fault = fault;
  cut = cut;
  same = same;
  flushed = flushed;
  fails = fails;
})

pub on_err : {A E : Type 0} {P : Type 0} (r : Result A E) → is_err r ≡ true → OnErr r P → P
on_err (Ok x) is holds = absurd (cc)
on_err (Err e) is holds = holds

pub on_ok : {A E : Type 0} {P : Type 0} (r : Result A E) → is_err r ≡ false → OnOk r P → P
on_ok (Ok x) is holds = holds
on_ok (Err e) is holds = absurd (cc)
