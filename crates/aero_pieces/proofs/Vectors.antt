-- The definitions at values that are known from elsewhere.
use Rattle.std.proofs.Common.{◌≢◌, zero, suc, ◌^◌, false, [], ◌∷◌, Some, None, inr, refl, sym, ◌∙◌, arith, lit<, lit≤}
use Rattle.std.specs.Prelude.{codes}
use Rattle.aero_model.specs.declared.limits.Limits.{Limits}
use Rattle.aero_model.specs.declared.event.Op.TheVariants.{Read}
use Rattle.aero_model.specs.declared.verdict.Verdict.TheVariants.{Serializable}
use Rattle.aero_model.specs.Exempt.{these}
use Rattle.aero_grammar.specs.Reading.{Reading}
use Rattle.aero_verdict.proofs.Vectors.{below_suc, none_below, none_of_two}
use Rattle.aero_pieces.specs.declared.question.Question.{Question}
use Rattle.aero_pieces.specs.declared.question.Question.TheVariants.{Parse, Check}
use Rattle.aero_pieces.specs.declared.answer.Value.{Value}
use Rattle.aero_pieces.specs.declared.answer.Value.TheVariants.{Parsed, Judged}
use Rattle.aero_pieces.specs.Values.{IsValueOf}
use Rattle.aero_pieces.specs.Schedule.{Ask, Post, Take, Back, Answers, Miss, Settle, NoneWaits, Runs, start, fresh}

abbrev question : Question
question = Parse 0 0 (codes "T1|r(x)")

abbrev reading : Reading
reading = record { events = (1, record { thread = codes "T1"; op = Read; target = Some (codes "x") }) ∷ []; lines = 1; fault = None }

value_of_parse : IsValueOf question (Parsed reading)
value_of_parse = ∣ refl ∣₁

abbrev greatest : Limits
greatest =
    record {
      bytes = 2 ^ 30;
      lines = 2 ^ 28;
      threads = 2 ^ 16;
      names = 2 ^ 26;
      some_bytes = lit< tt;
      most_bytes = lit≤ tt;
      some_lines = lit< tt;
      most_lines = lit≤ tt;
      some_threads = lit< tt;
      most_threads = lit≤ tt;
      some_names = lit< tt;
      most_names = lit≤ tt;
    }

value_of_check : IsValueOf (Check 0 (reading ∷ []) greatest (these []) false false false) (Judged (Serializable 1 0))
value_of_check =
    ∣ (
      record {
        clean = record { lawful = below_suc _ 0 (none_below _) refl; no_cycle = none_of_two _ _ (lit≤ tt) };
        no_fault = refl;
        events_are = refl;
        blocks_are = refl;
        open_are = refl;
      },
      refl,
      refl,
    ) ∣₁

-- The window is 1: the second question isn't asked. The queue has room for two jobs, and the only worker takes the first.
asked_and_posted : (q p : Question) →
    Runs 1 2 (start 1) (Ask q ∷ Ask p ∷ Post 7 ∷ Post 8 ∷ Post 9 ∷ Take 0 ∷ Take 1 ∷ Back ∷ Back ∷ [])
    (record { asked = q ∷ []; entries = fresh q ∷ []; given = []; posted = 7 ∷ 8 ∷ []; queue = []; hands = (7 ∷ []) ∷ []; back = 8 ∷ [] })
asked_and_posted q p = (_, refl, (_, refl, (_, refl, (_, refl, (_, refl, (_, refl, (_, refl, (_, refl, (_, refl, refl)))))))))

-- the only open question is another
none_waits : (q p : Question) → p ≢ q → NoneWaits p (fresh q ∷ []) 1
none_waits q p apart zero e less at waits = apart (sym waits.0 ∙ cc)
none_waits q p apart (suc i) e less at waits = absurd (omega (arith, less))

-- An answer to another question changes nothing. What was noted as missed is worked out where it is settled.
missed_and_settled : (q p : Question) (v u : Value) → p ≢ q → IsValueOf q v → IsValueOf p u →
    Runs 1 2 (start 0) (Ask q ∷ Answers p u ∷ Miss 0 ∷ Settle v ∷ [])
    (record { asked = q ∷ []; entries = []; given = v ∷ []; posted = []; queue = []; hands = []; back = [] })
missed_and_settled q p v u apart known other =
    (_, refl, (_, (other, fresh q ∷ [], inr (none_waits q p apart, refl), refl), (_, refl, (_, (known, refl), refl))))
