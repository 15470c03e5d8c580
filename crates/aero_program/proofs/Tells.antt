-- What goes out in two parts, and what a run ends with.
use Rattle.std.proofs.Common.{◌≡◌, ◌∙◌, ◌+◌, ◌<◌, ℕ, List, ◌++◌, take, length, length-append, Result, Ok, Err, OnOk, OnErr, sym, ap, subst, inl, inr, refl, arith}
use Rattle.std.specs.Io.KnownBytes.{Appends}
use Rattle.std.proofs.KnownBytes.{Appends-trans}
use Rattle.std.proofs.lemmas.List.{take-append-le}
use Rattle.std.proofs.Math.Seq.{take-append-add}
use Rattle.aero_model.specs.CallCounts.{Seen}
use Rattle.aero_telling.specs.Founds.{Took}
use Rattle.aero_program.specs.declared.failure.Failure.{Failure}
use Rattle.aero_program.specs.declared.failure.Failure.TheVariants as failure
use Rattle.aero_program.specs.Executed.{Ends, Fails}
use Rattle.aero_program.specs.Failure.{failure_status, line_of}
use Rattle.aero_program.specs.Streams.{IsTold, WasCut}

pub is_told : {T E : Type 0} (r : Result T E) (a b : Seen) (text : List ℕ) → OnOk r (Took a b text) → OnErr r (WasCut a b text) → IsTold a b text
is_told (Ok x) a b text whole cut = inl whole
is_told (Err e) a b text whole cut = inr cut

cut_longer : (a b : Seen) (text more : List ℕ) → WasCut a b text → WasCut a b (text ++ more)
cut_longer a b text more h =
    let within : h.written < length text = h.part in
    record {
      written = h.written;
      part = omega (arith, length-append text more);
      went = subst (Appends a.bytes b.bytes) (sym (take-append-le h.written text more (omega arith))) h.went;
      faults = h.faults;
    }

told_more : (a b c : Seen) (text more : List ℕ) → Took a b text → IsTold b c more → IsTold a c (text ++ more)
told_more a b c text more first (inl second) = inl (record {
  went = Appends-trans a.bytes b.bytes c.bytes text more first.went second.went;
  faults = second.faults ∙ first.faults;
})
told_more a b c text more first (inr cut) =
    let within : cut.written < length more = cut.part in
    inr (record {
      written = length text + cut.written;
      part = omega (arith, length-append text more);
      went = subst (Appends a.bytes c.bytes) (sym (take-append-add text more cut.written)) (Appends-trans a.bytes b.bytes c.bytes text (take cut.written more) first.went cut.went);
      faults = cut.faults ∙ ap (λ n. n + 1) first.faults;
    })

-- the notes were told, and there is nothing more to tell
pub ends_well : (notes : List ℕ) (end : Result ℕ Failure) (wanted : ℕ) (a b : Seen) (text : List ℕ) → end ≡ Ok wanted → text ≡ notes
    → IsTold a b text → Ends notes end a b wanted
ends_well notes end wanted a b text is same h =
    subst (λ r. Ends notes r a b wanted) (sym is) (inl (subst (IsTold a b) same h, refl))

-- they were, and then the failure
pub ends_failing : (notes : List ℕ) (end : Result ℕ Failure) (why : Failure) (a b c : Seen) (text : List ℕ) (status : ℕ) → end ≡ Err why → text ≡ notes
    → Took a b text → Fails why b c status → Ends notes end a c status
ends_failing notes end why a b c text status is same h fails =
    subst (λ r. Ends notes r a c status) (sym is) (inl (told_more a b c notes (line_of why) (subst (Took a b) same h) fails.line, fails.is))

-- standard error took only a part of them
pub ends_cut : (notes : List ℕ) (end : Result ℕ Failure) (why : Failure) (a b : Seen) (text : List ℕ) (status : ℕ) → end ≡ Err why → text ≡ notes
    → WasCut a b text → status ≡ failure_status why → Ends notes end a b status
ends_cut notes end why a b text status is same h status_is =
    subst (λ r. Ends notes r a b status) (sym is) (inl (inr (cut_longer a b notes (line_of why) (subst (WasCut a b) same h)), status_is))

-- memory was refused for the notes
pub ends_unnoted : (notes : List ℕ) (end : Result ℕ Failure) (wanted : ℕ) (a b : Seen) (status : ℕ) → end ≡ Ok wanted
    → Fails failure.Memory a b status → Ends notes end a b status
ends_unnoted notes end wanted a b status is fails = subst (λ r. Ends notes r a b status) (sym is) (inr fails)

pub fails_unnoted : (notes : List ℕ) (end : Result ℕ Failure) (why : Failure) (a b : Seen) (status : ℕ) → end ≡ Err why
    → Fails why a b status → Ends notes end a b status
fails_unnoted notes end why a b status is fails = subst (λ r. Ends notes r a b status) (sym is) (inr fails)
