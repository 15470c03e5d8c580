-- The reading of every text is as `IsReading` says.
use Rattle.std.proofs.Common.{◌≡◌, ◌≤◌, ◌<◌, ◌+◌, ℕ, List, [], ◌∷◌, map, Option, Some, None, refl, ap, arith}
use Rattle.std.specs.Prelude.{IsTrue, IfSome, All, option_map}
use Rattle.std.proofs.lemmas.List.Elements.{All-cons, All-map, All-weaker}
use Rattle.aero_model.specs.declared.verdict.LineFault.{LineFault}
use Rattle.aero_model.specs.Lines.{lines_of}
use Rattle.aero_model.specs.Named.{Named}
use Rattle.aero_grammar.specs.Meaning.{Meaning, Blank, Means, Faulty, meaning}
use Rattle.aero_grammar.specs.Reading.{Reading, IsReading, LinesRise, is_own_fault, after_lines, followed_by, whole_reading, line_reading, reading_of}
use Rattle.aero_grammar.proofs.OwnFaults.{HasOwnFault, own_fault}

-- lines count from 1
record IsCounted (r : Reading) : Type 0 where
  reads : IsReading r
  counted : IfSome r.fault (λ f. 0 < f.0)

LinesRise-weaker : (m n : ℕ) (es : List (ℕ × Named)) → m ≤ n → LinesRise n es → LinesRise m es
LinesRise-weaker m n [] le rise = tt
LinesRise-weaker m n (e ∷ es) le rise = (omega (arith, le, rise.0), rise.1)

LinesRise-after : (n : ℕ) (es : List (ℕ × Named)) → LinesRise n es → LinesRise (1 + n) (map (after_lines 1) es)
LinesRise-after n [] rise = tt
LinesRise-after n (e ∷ es) rise = (omega (arith, rise.0), LinesRise-after e.0 es rise.1)

-- one line more in front
within_after : (n : ℕ) (es : List (ℕ × Named)) → All (λ e. e.0 ≤ n) es → All (λ e. e.0 ≤ 1 + n) (map (after_lines 1) es)
within_after n es all = All-map (λ e. e.0 ≤ 1 + n) (after_lines 1) es (All-weaker (λ e. e.0 ≤ n) (λ e. 1 + e.0 ≤ 1 + n) (λ e le. omega (arith, le)) es all)

before_after : (n : ℕ) (es : List (ℕ × Named)) → All (λ e. e.0 < n) es → All (λ e. e.0 < 1 + n) (map (after_lines 1) es)
before_after n es all = All-map (λ e. e.0 < 1 + n) (after_lines 1) es (All-weaker (λ e. e.0 < n) (λ e. 1 + e.0 < 1 + n) (λ e lt. omega (arith, lt)) es all)

before_fault_after : (es : List (ℕ × Named)) (fault : Option (ℕ × LineFault)) → IfSome fault (λ f. All (λ e. e.0 < f.0) es) → IfSome (option_map (after_lines 1) fault) (λ f. All (λ e. e.0 < f.0) (map (after_lines 1) es))
before_fault_after es None before = tt
before_fault_after es (Some f) before = before_after f.0 es before

fault_line_after : (lines : ℕ) (fault : Option (ℕ × LineFault)) → IfSome fault (λ f. f.0 ≡ lines) → IfSome (option_map (after_lines 1) fault) (λ f. f.0 ≡ 1 + lines)
fault_line_after lines None is = tt
fault_line_after lines (Some f) is = ap (λ n. 1 + n) is

own_after : (fault : Option (ℕ × LineFault)) → IfSome fault (λ f. IsTrue (is_own_fault f.1)) → IfSome (option_map (after_lines 1) fault) (λ f. IsTrue (is_own_fault f.1))
own_after None own = tt
own_after (Some f) own = own

counted_after : (fault : Option (ℕ × LineFault)) → IfSome (option_map (after_lines 1) fault) (λ f. 0 < f.0)
counted_after None = tt
counted_after (Some f) = omega arith

event_before : (e : Named) (es : List (ℕ × Named)) (fault : Option (ℕ × LineFault)) → IfSome fault (λ f. 0 < f.0) → IfSome (option_map (after_lines 1) fault) (λ f. All (λ e. e.0 < f.0) es) →
    IfSome (option_map (after_lines 1) fault) (λ f. All (λ e. e.0 < f.0) ((1, e) ∷ es))
event_before e es None counted before = tt
event_before e es (Some f) counted before = All-cons (λ e. e.0 < 1 + f.0) (1, e) es (omega (arith, counted)) before

line_first : (m : Meaning) (more : Reading) → HasOwnFault m → IsCounted more → IsCounted (followed_by (line_reading m) more)
line_first Blank more own is = record {
  reads = record {
    rising = LinesRise-weaker 0 1 (map (after_lines 1) more.events) (omega arith) (LinesRise-after 0 more.events is.reads.rising);
    within = within_after more.lines more.events is.reads.within;
    before_fault = before_fault_after more.events more.fault is.reads.before_fault;
    fault_line = fault_line_after more.lines more.fault is.reads.fault_line;
    own_fault = own_after more.fault is.reads.own_fault;
  };
  counted = counted_after more.fault;
}
line_first (Means e) more own is = record {
  reads = record {
    rising = (omega arith, LinesRise-after 0 more.events is.reads.rising);
    within = All-cons (λ e. e.0 ≤ 1 + more.lines) (1, e) (map (after_lines 1) more.events) (omega arith) (within_after more.lines more.events is.reads.within);
    before_fault = event_before e (map (after_lines 1) more.events) more.fault is.counted (before_fault_after more.events more.fault is.reads.before_fault);
    fault_line = fault_line_after more.lines more.fault is.reads.fault_line;
    own_fault = own_after more.fault is.reads.own_fault;
  };
  counted = counted_after more.fault;
}
line_first (Faulty f) more own is = record {
  reads = record {
    rising = tt;
    within = λ k d below. absurd (omega (arith, below));
    before_fault = λ k d below. absurd (omega (arith, below));
    fault_line = refl;
    own_fault = own;
  };
  counted = omega arith;
}

counted_lines : (lines : List (List ℕ)) → IsCounted (whole_reading (map (λ line. line_reading (meaning line)) lines))
counted_lines [] = record {
  reads = record {
    rising = tt;
    within = λ k d below. absurd (omega (arith, below));
    before_fault = tt;
    fault_line = tt;
    own_fault = tt;
  };
  counted = tt;
}
counted_lines (line ∷ lines) = line_first (meaning line) (whole_reading (map (λ line. line_reading (meaning line)) lines)) (own_fault line) (counted_lines lines)

pub IsReading-of : (bytes : List ℕ) → IsReading (reading_of bytes)
IsReading-of bytes = (counted_lines (lines_of bytes)).reads
