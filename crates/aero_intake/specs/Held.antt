-- What is held of a source whose chunks are being read.
use Rattle.std.specs.Prelude.{◌≡◌, ◌↔◌, ◌⊎◌, ℕ, ◌-◌, ◌^◌, min, nat_lt, Bool, true, false, ◌||◌, is_some, List, [], ◌∷◌, ◌++◌, map, length, ⊤}
use Rattle.std.specs.List.{list_all, sum_by}
use Rattle.aero_grammar.specs.Reading.{Reading, reading_of, whole_reading, malformed_line}
use Rattle.aero_intake.specs.Begun.{begins_in}
use Rattle.aero_intake.specs.declared.held.Held.{Held}
use Rattle.aero_intake.specs.declared.held.Held.TheVariants.{Kept, Live}
use Rattle.aero_intake.specs.declared.held.Basis.{Basis}
use Rattle.aero_intake.specs.declared.held.Basis.TheVariants.{ByParts, Already}
use Rattle.aero_model.specs.declared.limits.Limits.{Limits}
use Rattle.aero_model.specs.declared.verdict.Finding.{Finding}
use Rattle.aero_judge.specs.Finding.{IsTraceFinding}
use Rattle.aero_model.specs.Terms.{Terms, to_the_end}

-- on what terms a source is judged, what its first chunks say, in their order, whether it is live, that is, judged as it comes, and whether its
-- verdict is certain then
pub record Known : Type 0 where
  pub terms : Terms
  pub parts : List Reading
  pub live : Bool
  pub certain : Bool

-- no block is read yet
abbrev pub nothing_read : Terms → Known
nothing_read terms = record { terms = terms; parts = []; live = false; certain = false }

-- how many events the chunks have, but no more than 2^64 - 1
abbrev pub event_count : List Reading → ℕ
event_count parts = min (sum_by (λ r. length r.events) parts) (2 ^ 64 - 1)

-- whether chunks that were kept are to be judged: they have more than so many events
abbrev pub turns_live : ℕ → List Reading → Bool
turns_live most parts = nat_lt most (event_count parts)

-- with what the next chunk says, where so many events are kept at most, and it is then certain or not what the verdict is
abbrev pub with_next : ℕ → Bool → Known → Reading → Known
with_next most certain known part = record {
  terms = known.terms;
  parts = known.parts ++ part ∷ [];
  live = known.live || turns_live most (known.parts ++ part ∷ []);
  certain = certain;
}

-- These parts decide: whatever chunks come after them, what is found is the same.
abbrev pub IsDecisive : Terms → List Reading → Type 0
IsDecisive terms parts = (more : List (List ℕ)) (f : Finding) → IsTraceFinding (parts ++ map reading_of more) terms f ↔ IsTraceFinding parts terms f

-- Whether what was read decides, whatever comes after it: a line of it is malformed, or there are more lines than may be.
abbrev pub decides : Limits → List Reading → Bool
decides limits parts = is_some (malformed_line limits.lines (whole_reading parts))

-- no chunk is read for the labels alone
abbrev pub NeedsNoLabel : Terms → List Reading → Type 0
NeedsNoLabel terms parts = (terms.stop ≡ true) ⊎ ((decides terms.rules.limits parts ≡ true) ⊎ (list_all (begins_in parts) terms.rules.labels.labels ≡ true))

-- Whatever chunks come after these parts, what is found is the same, and so is what is told of the labels: nothing is told, since the source is read no
-- further than it must be, or since a line is malformed, or one too many, or a block begins with each label that is listed.
pub record IsFinal (terms : Terms) (parts : List Reading) : Type 0 where
  pub decisive : IsDecisive terms parts
  pub labels : NeedsNoLabel terms parts

-- what the chunks say
abbrev pub parts_in : Held → List Reading
parts_in (Kept parts events) = parts.items
parts_in (Live live) = live.parts

-- whether they are judged as they come
abbrev pub live_in : Held → Bool
live_in (Kept parts events) = false
live_in (Live live) = true

-- whether the verdict on those that are judged as they come is certain
abbrev pub certain_in : Held → Bool
certain_in (Kept parts events) = false
certain_in (Live live) = is_some live.certain

-- The number of events is that of the chunks that are kept.
abbrev pub CountsEvents : Held → Type 0
CountsEvents (Kept parts events) = events ≡ event_count parts.items
CountsEvents (Live live) = ⊤

-- A source is judged as it comes on its own terms. How far it is read is no matter of the judge.
abbrev pub FitsTerms : Terms → Held → Type 0
FitsTerms terms (Kept parts events) = ⊤
FitsTerms terms (Live live) = live.terms ≡ to_the_end terms

-- the parts themselves, or what is found of them
abbrev pub IsBasis : List Reading → Terms → Basis → Type 0
IsBasis parts terms (ByParts kept) = kept ≡ parts
IsBasis parts terms (Already finding) = IsTraceFinding parts terms finding
