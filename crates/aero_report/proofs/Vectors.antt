-- The definitions at values that are known from elsewhere.
use Rattle.std.proofs.Common.{◌≡◌, [], ◌∷◌, ◌++◌, refl, ap, ap₂, lit<, lit≤}
use Rattle.std.specs.Fmt.{digits}
use Rattle.std.specs.Prelude.{codes, flat_map, Vec, Some, None, true, false}
use Rattle.std.specs.Global.{Global}
use Rattle.aero_model.specs.declared.verdict.Step.{Step}
use Rattle.aero_model.specs.declared.verdict.Cycle.{Cycle}
use Rattle.aero_model.specs.declared.verdict.OpenBlock.{OpenBlock}
use Rattle.aero_model.specs.declared.event.Op.TheVariants.{Write, Begin, Join}
use Rattle.aero_model.specs.declared.verdict.LineFault.TheVariants as line_faults
use Rattle.aero_model.specs.declared.verdict.ShapeFault.TheVariants as shape_faults
use Rattle.aero_model.specs.declared.verdict.Verdict.TheVariants.{Serializable, Pending, Violation, Malformed, IllFormed}
use Rattle.aero_model.specs.declared.verdict.Finding.TheVariants.{Judged, Ordered, Explained, Opened, Broken, TooLarge}
use Rattle.aero_report.specs.declared.form.Form.TheVariants.{Json}
use Rattle.json.proofs.OnLiterals.{json_on_literals}
use Rattle.std.specs.Str.{chars, is_utf8}
use Rattle.aero_report.specs.Texts.{cycle_line, label_line, step_line, source_line, summary_line, report}
use Rattle.aero_model.specs.Terms.{asking}
use Rattle.aero_model.specs.Verdicts.{no_counts, counts_of}
use Rattle.aero_model.specs.declared.limits.Limits.{Limits}
use Rattle.aero_model.specs.declared.verdict.Extent.TheVariants.{Alone, Block}
use Rattle.aero_model.specs.Exempt.{all_but}
use Rattle.aero_report.specs.Forms.{source_line_in, summary_line_in}
use Rattle.aero_report.specs.Json.{transaction_value, open_block_value, json_text}
use Rattle.aero_report.specs.Options.{Options}

broken : source_line (codes "n") (Broken 20) ≡ codes "n: broken after 20 bytes" ++ 10 ∷ []
unfolding digits
broken = refl

too_large : source_line (codes "n") TooLarge ≡ codes "n: too large" ++ 10 ∷ []
unfolding digits
too_large = refl

nothing_in_it : source_line (codes "n") (Judged (Serializable 0 0)) ≡ codes "n: serializable (0 events, 0 blocks)" ++ 10 ∷ []
unfolding digits
nothing_in_it = refl

many_events : source_line (codes "n") (Judged (Serializable 90000 30000)) ≡ codes "n: serializable (90000 events, 30000 blocks)" ++ 10 ∷ []
unfolding digits
many_events = refl

open_blocks : source_line (codes "n") (Judged (Pending 5 2 2)) ≡ codes "n: no violation, 2 blocks open (5 events, 2 blocks)" ++ 10 ∷ []
unfolding digits
open_blocks = refl

violation : source_line (codes "n") (Judged (Violation 6 (codes "T1") 1)) ≡ codes "n: violation at line 6: block of T1 from line 1" ++ 10 ∷ []
unfolding digits
violation = refl

no_steps : (steps : Vec Step Global) → steps.items ≡ [] → source_line (codes "n") (Ordered (Serializable 0 0) steps) ≡ codes "n: serializable (0 events, 0 blocks)" ++ 10 ∷ []
unfolding digits
no_steps steps is = ap (λ s. codes "n: serializable (0 events, 0 blocks)" ++ 10 ∷ flat_map step_line s) is

two_steps : (steps : Vec Step Global) → steps.items ≡ (record { line = 2; thread = codes "T2" }) ∷ (record { line = 1; thread = codes "T1" }) ∷ []
    → source_line (codes "n") (Ordered (Serializable 4 1) steps) ≡ codes "n: serializable (4 events, 1 blocks)" ++ 10 ∷ codes "  2 T2" ++ 10 ∷ codes "  1 T1" ++ 10 ∷ []
unfolding digits
two_steps steps is = ap (λ s. codes "n: serializable (4 events, 1 blocks)" ++ 10 ∷ flat_map step_line s) is

three_steps : (cycle : Cycle) → cycle.label ≡ Some (codes "f")
    → cycle.steps.items ≡ (record { line = 4; first = 1; event = record { thread = codes "T1"; op = Write; target = Some (codes "x") } })
    ∷ (record { line = 5; first = 5; event = record { thread = codes "T2"; op = Begin; target = None } })
    ∷ (record { line = 6; first = 1; event = record { thread = codes "T1"; op = Join; target = Some (codes "T2") } }) ∷ []
    → source_line (codes "n") (Explained (Violation 6 (codes "T1") 1) cycle)
    ≡ codes "n: violation at line 6: block of T1 from line 1" ++ 10 ∷ codes "  label f" ++ 10 ∷ codes "  4 1 T1|w(x)" ++ 10 ∷ codes "  5 5 T2|begin" ++ 10 ∷ codes "  6 1 T1|join(T2)" ++ 10 ∷ []
unfolding digits
three_steps cycle labelled is = ap₂ (λ l s. codes "n: violation at line 6: block of T1 from line 1" ++ 10 ∷ (label_line l ++ flat_map cycle_line s)) labelled is

opened : (blocks : Vec OpenBlock Global) → source_line (codes "n") (Opened (Pending 5 2 2) blocks) ≡ codes "n: no violation, 2 blocks open (5 events, 2 blocks)" ++ 10 ∷ []
unfolding digits
opened blocks = refl

malformed : source_line (codes "n") (Judged (Malformed 2 line_faults.BadParenthesis)) ≡ codes "n:2: malformed: BadParenthesis" ++ 10 ∷ []
unfolding digits
malformed = refl

ill_formed : source_line (codes "n") (Judged (IllFormed 3 shape_faults.ThreadJoined)) ≡ codes "n:3: ill-formed: ThreadJoined" ++ 10 ∷ []
unfolding digits
ill_formed = refl

no_sources : summary_line no_counts ≡ codes "traces 0: serializable 0, open 0, violations 0, faults 0" ++ 10 ∷ []
unfolding digits
no_sources = refl

one_of_each : counts_of (Judged (Serializable 1 0) ∷ Judged (Pending 5 2 2) ∷ Judged (Violation 6 (codes "T1") 1) ∷ Broken 20 ∷ TooLarge ∷ []) ≡ record { serializable = 1; pending = 1; violations = 1; faults = 2 }
one_of_each = refl

one_of_each_in_order : (steps : Vec Step Global) → counts_of (Ordered (Serializable 0 0) steps ∷ Judged (Pending 5 2 2) ∷ Broken 20 ∷ []) ≡ record { serializable = 1; pending = 1; violations = 0; faults = 1 }
one_of_each_in_order steps = refl

one_broken : report ((codes "n", Broken 20) ∷ []) ≡ codes "n: broken after 20 bytes" ++ 10 ∷ codes "traces 1: serializable 0, open 0, violations 0, faults 1" ++ 10 ∷ []
unfolding digits
one_broken = refl

one_broken_object : source_line_in Json (codes "n") (Broken 20) ≡ codes "{\"source\":\"n\",\"verdict\":\"broken\",\"bytes\":20}" ++ 10 ∷ []
unfolding digits json_on_literals chars is_utf8
one_broken_object = refl

ill_formed_object : source_line_in Json (codes "n") (Judged (IllFormed 3 shape_faults.JoinSelf)) ≡ codes "{\"source\":\"n\",\"verdict\":\"ill-formed\",\"line\":3,\"fault\":\"JoinSelf\",\"note\":\"the thread joins itself\"}" ++ 10 ∷ []
unfolding digits json_on_literals chars is_utf8
ill_formed_object = refl

abbrev few : Limits
few = record {
  bytes = 20;
  lines = 4;
  threads = 3;
  names = 2;
  some_bytes = lit< tt;
  most_bytes = lit≤ tt;
  some_lines = lit< tt;
  most_lines = lit≤ tt;
  some_threads = lit< tt;
  most_threads = lit≤ tt;
  some_names = lit< tt;
  most_names = lit≤ tt;
}

abbrev options : Options
options = record { terms = asking few (all_but (codes "f" ∷ codes "g" ∷ [])) false true; unused = []; notes = [] }

summary_object : summary_line_in Json options (counts_of (Broken 20 ∷ [])) ≡ codes "{\"traces\":1,\"serializable\":0,\"open\":0,\"violations\":0,\"faults\":1,\"version\":\"0.1.0\",\"order\":false,\"explain\":true,\"limits\":{\"bytes\":20,\"lines\":4,\"threads\":3,\"names\":2},\"only\":[\"f\",\"g\"]}" ++ 10 ∷ []
unfolding digits json_on_literals chars is_utf8
summary_object = refl

ended_object : summary_line_in Json (record options { terms = record options.terms { rules = record options.terms.rules { end = true } } }) (counts_of (Broken 20 ∷ [])) ≡ codes "{\"traces\":1,\"serializable\":0,\"open\":0,\"violations\":0,\"faults\":1,\"version\":\"0.1.0\",\"order\":false,\"explain\":true,\"limits\":{\"bytes\":20,\"lines\":4,\"threads\":3,\"names\":2},\"only\":[\"f\",\"g\"],\"end\":true}" ++ 10 ∷ []
unfolding digits json_on_literals chars is_utf8
ended_object = refl

unused_object : summary_line_in Json (record options { unused = codes "g" ∷ [] }) (counts_of (Broken 20 ∷ [])) ≡ codes "{\"traces\":1,\"serializable\":0,\"open\":0,\"violations\":0,\"faults\":1,\"version\":\"0.1.0\",\"order\":false,\"explain\":true,\"limits\":{\"bytes\":20,\"lines\":4,\"threads\":3,\"names\":2},\"only\":[\"f\",\"g\"],\"unused\":[\"g\"]}" ++ 10 ∷ []
unfolding digits json_on_literals chars is_utf8
unused_object = refl

notes_object : summary_line_in Json (record options { notes = (record { source = codes "b"; line = Some 7; text = codes "no" }) ∷ (record { source = codes "c"; line = None; text = codes "w" }) ∷ [] }) (counts_of (Broken 20 ∷ [])) ≡ codes "{\"traces\":1,\"serializable\":0,\"open\":0,\"violations\":0,\"faults\":1,\"version\":\"0.1.0\",\"order\":false,\"explain\":true,\"limits\":{\"bytes\":20,\"lines\":4,\"threads\":3,\"names\":2},\"only\":[\"f\",\"g\"],\"notes\":[{\"source\":\"b\",\"line\":7,\"note\":\"no\"},{\"source\":\"c\",\"note\":\"w\"}]}" ++ 10 ∷ []
unfolding digits json_on_literals chars is_utf8
notes_object = refl

block_object : json_text (transaction_value (record { first = 5; thread = codes "T2"; extent = Block (Some (codes "f")) (Some 8) })) ≡ codes "{\"first\":5,\"thread\":\"T2\",\"block\":true,\"label\":\"f\",\"end\":8}"
unfolding digits json_on_literals chars is_utf8
block_object = refl

event_object : json_text (transaction_value (record { first = 9; thread = codes "T3"; extent = Alone })) ≡ codes "{\"first\":9,\"thread\":\"T3\",\"block\":false}"
unfolding digits json_on_literals chars is_utf8
event_object = refl

open_block_object : json_text (open_block_value (record { line = 3; thread = codes "T2"; label = Some (codes "f") })) ≡ codes "{\"line\":3,\"thread\":\"T2\",\"label\":\"f\"}"
unfolding digits json_on_literals chars is_utf8
open_block_object = refl

quotes_object : source_line_in Json (97 ∷ 34 ∷ 9 ∷ []) TooLarge ≡ codes "{\"source\":\"a\\\"\\t\",\"verdict\":\"too large\"}" ++ 10 ∷ []
unfolding digits json_on_literals chars is_utf8
quotes_object = refl
