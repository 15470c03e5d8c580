-- Chunks after a malformed line, or after one line too many, don't count.
use Rattle.std.proofs.Common.{◌≡◌, ℕ, suc, ◌+◌, ◌<◌, nat_le, nat_lt, true, false, List, [], ◌∷◌, ◌++◌, map, filter, Option, Some, None, refl, sym, ◌∙◌, ap}
use Rattle.std.proofs.Common.{subst, inl, inr, arith}
use Rattle.std.specs.Prelude.{IfSome, is_some, option_map, if◌then◌else◌}
use Rattle.std.proofs.lemmas.Bool.{cond-true, cond-false, cases_lt, lt-leb, lt-ltb, le-ltb}
use Rattle.std.proofs.lemmas.List.{map-append}
use Rattle.aero_model.specs.declared.verdict.LineFault.{LineFault}
use Rattle.aero_model.specs.declared.verdict.LineFault.TheVariants.{TooManyLines}
use Rattle.aero_model.specs.Lines.{lines_of}
use Rattle.aero_model.specs.Named.{Named}
use Rattle.aero_grammar.specs.Meaning.{Meaning, Blank, Means, Faulty, meaning}
use Rattle.aero_grammar.specs.Reading.{Reading, after_lines, followed_by, whole_reading, line_reading, reading_of, events_within, fault_within, malformed_line}
use Rattle.aero_grammar.proofs.Joined.{reading, whole_reading-append}
use Rattle.aero_verdict.proofs.Ending.{counted_same_front}
use Rattle.aero_verdict.proofs.Readings.{after_faulty, after_faultless}
use Rattle.aero_model.specs.Terms.{Rules}
use Rattle.aero_intake.specs.Laws.{AreJudgedAlike, FirstChunksDecide}
use Rattle.aero_intake.specs.Held.{decides}
use Rattle.aero_intake.proofs.Judged.{counted_alike}
use Rattle.aero_judge.proofs.SameVerdict.{one_read}

-- lines count from 1

abbrev FaultAbove : Reading → Type 0
FaultAbove r = IfSome r.fault (λ f. 0 < f.0)

line_above : (m : Meaning) → FaultAbove (line_reading m)
line_above Blank = tt
line_above (Means e) = tt
line_above (Faulty f) = omega arith

followed_above : (e : List (ℕ × Named)) (n : ℕ) (f : Option (ℕ × LineFault)) (d : List (ℕ × Named)) (m : ℕ) (g : Option (ℕ × LineFault)) →
    FaultAbove (reading e n f) → FaultAbove (reading d m g) → FaultAbove (followed_by (reading e n f) (reading d m g))
followed_above e n (Some f) d m g first second = first
followed_above e n None d m None first second = tt
followed_above e n None d m (Some g) first second = omega (arith, second)

both_above : (a b : Reading) → FaultAbove a → FaultAbove b → FaultAbove (followed_by a b)
both_above a b first second = followed_above a.events a.lines a.fault b.events b.lines b.fault first second

lines_above : (lines : List (List ℕ)) → FaultAbove (whole_reading (map (λ line. line_reading (meaning line)) lines))
lines_above [] = tt
lines_above (line ∷ more) = both_above (line_reading (meaning line)) (whole_reading (map (λ line. line_reading (meaning line)) more))
    (line_above (meaning line)) (lines_above more)

chunks_above : (chunks : List (List ℕ)) → FaultAbove (whole_reading (map reading_of chunks))
chunks_above [] = tt
chunks_above (block ∷ more) = both_above (reading_of block) (whole_reading (map reading_of more)) (lines_above (lines_of block)) (chunks_above more)

-- what comes after more lines than may be

filter-more : (limit : ℕ) (xs ys : List (ℕ × Named)) → filter (λ e. nat_le e.0 limit) ys ≡ [] →
    filter (λ e. nat_le e.0 limit) (xs ++ ys) ≡ filter (λ e. nat_le e.0 limit) xs
filter-more limit [] ys none = none
filter-more limit (x ∷ xs) ys none = ap (λ zs. if nat_le x.0 limit then x ∷ zs else zs) (filter-more limit xs ys none)

none_within : (limit lines : ℕ) (es : List (ℕ × Named)) → limit < lines → filter (λ e. nat_le e.0 limit) (map (after_lines lines) es) ≡ []
none_within limit lines [] beyond = refl
none_within limit lines (e ∷ es) beyond = cond-false (nat_le (lines + e.0) limit) _ _ (lt-leb (lines + e.0) limit (omega (arith, beyond)))
    ∙ none_within limit lines es beyond

too_many : (limit lines : ℕ) → limit < lines → fault_within limit lines None ≡ Some (suc limit, TooManyLines)
too_many limit lines beyond = cond-true (nat_lt limit lines) _ _ (lt-ltb limit lines beyond)

fault_later : (limit lines more : ℕ) (f : Option (ℕ × LineFault)) → limit < lines → IfSome f (λ f. 0 < f.0) →
    fault_within limit (lines + more) (option_map (after_lines lines) f) ≡ Some (suc limit, TooManyLines)
fault_later limit lines more None beyond above = too_many limit (lines + more) (omega (arith, beyond))
fault_later limit lines more (Some f) beyond above =
    cond-false (nat_le (lines + f.0) (suc limit)) _ _ (lt-leb (lines + f.0) (suc limit) (omega (arith, beyond, above)))

beyond_limit : (limit lines : ℕ) → is_some (fault_within limit lines None) ≡ true → limit < lines
beyond_limit limit lines is = elim (cases_lt limit lines) [
  | inl beyond ↦ beyond
  | inr within ↦
      let none : fault_within limit lines None ≡ None = cond-false (nat_lt limit lines) _ _ (le-ltb limit lines within) in
      let clash : false ≡ true = sym (ap is_some none) ∙ is in
      cc (clash)
]

pub record CountsAlike (limit : ℕ) (w v : Reading) : Type 0 where
  pub events : events_within limit w ≡ events_within limit v
  pub fault : malformed_line limit w ≡ malformed_line limit v

counts_alike : (limit : ℕ) (e : List (ℕ × Named)) (n : ℕ) (f : Option (ℕ × LineFault)) (v : Reading) → is_some (malformed_line limit (reading e n f)) ≡ true →
    FaultAbove v →
    CountsAlike limit (reading e n f) (followed_by (reading e n f) v)
counts_alike limit e n (Some f) v is above = record { events = refl; fault = refl }
counts_alike limit e n None v is above =
    let beyond = beyond_limit limit n is in
    record {
      events = sym (filter-more limit e (map (after_lines n) v.events) (none_within limit n v.events beyond));
      fault = too_many limit n beyond ∙ sym (fault_later limit n v.lines v.fault beyond above);
    }

pub front_counts : (rules : Rules) (parts : List Reading) (more : List (List ℕ)) → decides rules.limits parts ≡ true →
    CountsAlike rules.limits.lines (whole_reading parts) (whole_reading (parts ++ map reading_of more))
front_counts rules parts more is =
    let w = whole_reading parts in
    let v = whole_reading (map reading_of more) in
    rw (whole_reading-append parts (map reading_of more)) (counts_alike rules.limits.lines w.events w.lines w.fault v is (chunks_above more))

pub first_parts_decide : (rules : Rules) (parts : List Reading) (more : List (List ℕ)) → decides rules.limits parts ≡ true →
    AreJudgedAlike parts (parts ++ map reading_of more) rules
first_parts_decide rules parts more is =
    let alike = front_counts rules parts more is in
    counted_alike rules parts (parts ++ map reading_of more) (counted_same_front rules parts (parts ++ map reading_of more) alike.events alike.fault is) alike.fault

pub first_chunks_decide : FirstChunksDecide
first_chunks_decide front more rules is =
    subst (λ rs. AreJudgedAlike (map reading_of front) rs rules) (sym (map-append reading_of front more))
    (first_parts_decide rules (map reading_of front) more is)

-- how many lines there are with one chunk more, and whether one of them is malformed

more_read : (rs : List Reading) (r : Reading) → whole_reading (rs ++ r ∷ []) ≡ followed_by (whole_reading rs) r
more_read rs r = whole_reading-append rs (r ∷ []) ∙ ap (followed_by (whole_reading rs)) (one_read r)

pub read_after_fault : (rs : List Reading) (r : Reading) → is_some (whole_reading rs).fault ≡ true → whole_reading (rs ++ r ∷ []) ≡ whole_reading rs
read_after_fault rs r faulty = more_read rs r ∙ after_faulty (whole_reading rs) r faulty

pub lines_more : (rs : List Reading) (r : Reading) → is_some (whole_reading rs).fault ≡ false →
    (whole_reading (rs ++ r ∷ [])).lines ≡ (whole_reading rs).lines + r.lines
lines_more rs r faultless = ap (λ x. x.lines) (more_read rs r ∙ after_faultless (whole_reading rs) r faultless)

pub fault_more : (rs : List Reading) (r : Reading) → is_some (whole_reading rs).fault ≡ false → is_some (whole_reading (rs ++ r ∷ [])).fault ≡ is_some r.fault
fault_more rs r faultless = ap (λ x. is_some x.fault) (more_read rs r ∙ after_faultless (whole_reading rs) r faultless) ∙ later r.fault
  where
    later : (f : Option (ℕ × LineFault)) → is_some (option_map (after_lines (whole_reading rs).lines) f) ≡ is_some f
    later None = refl
    later (Some f) = refl
