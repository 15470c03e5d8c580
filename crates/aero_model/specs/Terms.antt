-- On what terms a source is judged.
use Rattle.std.specs.Prelude.{Bool, false}
use Rattle.aero_model.specs.declared.limits.Limits.{Limits}
use Rattle.aero_model.specs.Exempt.{Listed}

-- The limits, the labels that say which blocks are no transactions, and whether blocks that are open end: before their thread is joined, and at the end
-- of the source
pub record Rules : Type 0 where
  pub limits : Limits
  pub labels : Listed
  pub end : Bool

-- the rules under which open blocks end there, or don't
abbrev pub ruled : Limits → Listed → (end : Bool) → Rules
ruled limits labels end = record { limits = limits; labels = labels; end = end }

-- those under which they don't
abbrev pub under : Limits → Listed → Rules
under limits labels = ruled limits labels false

-- The rules, whether the serial order is asked for, whether what is found is to be explained, and whether the source is read no further once the verdict
-- is certain
pub record Terms : Type 0 where
  pub rules : Rules
  pub order : Bool
  pub explain : Bool
  pub stop : Bool

-- the terms with these rules, where the order is asked for or not, and what is found is to be explained or not; the source is read to its end
abbrev pub on : Rules → (order explain : Bool) → Terms
on rules order explain = record { rules = rules; order = order; explain = explain; stop = false }

-- the same terms, but the source is read to its end
abbrev pub to_the_end : Terms → Terms
to_the_end terms = on terms.rules terms.order terms.explain

abbrev pub asking : Limits → Listed → (order explain : Bool) → Terms
asking limits labels order explain = on (under limits labels) order explain
