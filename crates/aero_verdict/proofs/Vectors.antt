-- The verdict at traces whose verdict is known.
use Rattle.std.proofs.Common.{◌≡◌, ◌≢◌, ◌⊎◌, inl, inr, Some, None, ℕ, zero, suc, ◌<◌, ◌≤◌, ◌^◌, List, [], ◌∷◌, ◌++◌, refl, sym, ◌∙◌, ap, arith, lit<, lit≤}
use Rattle.std.specs.Prelude.{codes}
use Rattle.aero_model.specs.declared.limits.Limits.{Limits}
use Rattle.aero_model.specs.declared.verdict.LineFault.TheVariants.{NoOperation, MissingTarget, TooManyLines}
use Rattle.aero_model.specs.declared.verdict.ShapeFault.TheVariants.{TooManyThreads, TooManyNames, ThreadJoined, LockHeldByOther, LockNotHeld, ForkStarted, EndWithoutBegin}
use Rattle.aero_model.specs.declared.verdict.Verdict.TheVariants.{Serializable, Pending, Violation, Malformed, IllFormed}
use Rattle.aero_model.specs.declared.numbered.Numbered.{Numbered}
use Rattle.aero_model.specs.declared.numbered.What.TheVariants.{Begin, Read, Write}
use Rattle.aero_engine.specs.Events.{event}
use Rattle.aero_model.specs.Blocks.{Transaction, Block, Unary, transaction}
use Rattle.aero_model.specs.Exempt.{these, all_but}
use Rattle.aero_model.specs.Cycle.{HasTellingCycle}
use Rattle.aero_model.specs.Graph.{Conflicts, same_thread, write_read, read_write, write_write, release_acquire, forks, joined, Conflict, last_visit}
use Rattle.aero_model.proofs.Telling.{closing_from}
use Rattle.aero_model.proofs.Walks.{last_is}
use Rattle.aero_grammar.specs.Reading.{reading_of}
use Rattle.aero_verdict.specs.Verdict.{IsVerdict}
use Rattle.aero_model.specs.Terms.{Rules, under}

abbrev greatest_limits : Limits
greatest_limits =
    record {
      bytes = 2 ^ 30;
      lines = 2 ^ 28;
      threads = 2 ^ 16;
      names = 2 ^ 26;
      some_bytes = lit< tt;
      most_bytes = lit≤ tt;
      some_lines = lit< tt;
      most_lines = lit≤ tt;
      some_threads = lit< tt;
      most_threads = lit≤ tt;
      some_names = lit< tt;
      most_names = lit≤ tt;
    }

abbrev greatest : Rules
greatest = under greatest_limits (these [])

abbrev two_lines : Rules
two_lines = under (record greatest_limits { lines = 2; some_lines = lit< tt; most_lines = lit≤ tt }) (these [])

abbrev two_threads : Rules
two_threads = under (record greatest_limits { threads = 2; some_threads = lit< tt; most_threads = lit≤ tt }) (these [])

abbrev one_name : Rules
one_name = under (record greatest_limits { names = 1; some_names = lit< tt; most_names = lit≤ tt }) (these [])

-- what holds at each place below a number holds at the next one too
pub below_suc : (P : ℕ → Type 0) (n : ℕ) → ((i : ℕ) → i < n → P i) → P n → (i : ℕ) → i < suc n → P i
below_suc P zero below here zero less = here
below_suc P zero below here (suc i) less = absurd (omega (arith, less))
below_suc P (suc n) below here zero less = below zero (omega arith)
below_suc P (suc n) below here (suc i) less = below_suc (λ k. P (suc k)) n (λ k under. below (suc k) (omega (arith, under))) here i (omega (arith, less))

pub none_below : (P : ℕ → Type 0) (i : ℕ) → i < 0 → P i
none_below P i less = absurd (omega (arith, less))

-- events of one transaction have no telling cycle
pub none_in_one : (trace : List Numbered) (n : ℕ) (x : Transaction) → ((i : ℕ) → i < n → transaction trace i ≡ x) → ¬ HasTellingCycle trace n
none_in_one trace n x one (first, rest, telling) =
    let last = last_is trace n first rest telling.visit telling.walk in
    telling.ends_apart (one (last_visit first rest).enters last.enters ∙ sym (one first.enters telling.visit.enters))

-- nor have two events
pub none_of_two : (trace : List Numbered) (n : ℕ) → n ≤ 2 → ¬ HasTellingCycle trace n
none_of_two trace n few (first, [], telling) = telling.ends_apart refl
none_of_two trace n few (first, w ∷ ws, telling) =
    let closed = telling.closed.earlier in
    let on = telling.walk.0.earlier in
    let within = telling.walk.1.enters in
    let here = telling.visit.enters in
    let at_one : first.enters ≡ 1 = omega (arith, closed, here, few) in
    let at_zero : first.leaves ≡ 0 = omega (arith, on, within, few) in
    let same : transaction trace 1 ≡ transaction trace 0 = ap (transaction trace) (sym at_one) ∙ telling.visit.one ∙ ap (transaction trace) at_zero in
    none_in_one trace n (transaction trace 0) (two same) (first, w ∷ ws, telling)
  where
    two : transaction trace 1 ≡ transaction trace 0 → (i : ℕ) → i < n → transaction trace i ≡ transaction trace 0
    two same zero less = refl
    two same (suc zero) less = same
    two same (suc (suc i)) less = absurd (omega (arith, less, few))

-- the lines of a text, each with its byte 10
abbrev text : List (List ℕ) → List ℕ
text [] = []
text (line ∷ more) = line ++ 10 ∷ text more

-- no events, and malformed lines

nothing_read : IsVerdict [] greatest (Serializable 0 0)
nothing_read = record { clean = record { lawful = none_below _; no_cycle = none_of_two _ _ (lit≤ tt) }; no_fault = refl; events_are = refl; blocks_are = refl; open_are = refl }

no_target : IsVerdict (reading_of (codes "T1|r()") ∷ []) greatest (Malformed 1 MissingTarget)
no_target = record { clean = record { lawful = none_below _; no_cycle = none_of_two _ _ (lit≤ tt) }; cause = refl }

end_before_malformed_line : IsVerdict (reading_of (codes "T1|end" ++ 10 ∷ codes "T1") ∷ []) greatest (IllFormed 1 EndWithoutBegin)
end_before_malformed_line = record { place = 0; clean = record { lawful = none_below _; no_cycle = none_of_two _ _ (lit≤ tt) }; cause = refl; line_of = refl }

third_part_ignored : IsVerdict (reading_of (codes "T1|r(x)" ++ 10 ∷ 10 ∷ []) ∷ reading_of (codes "T1") ∷ reading_of (codes "T1|end") ∷ []) greatest (Malformed 3 NoOperation)
third_part_ignored = record { clean = record { lawful = below_suc _ 0 (none_below _) refl; no_cycle = none_of_two _ _ (lit≤ tt) }; cause = refl }

-- the limits

third_thread : IsVerdict (reading_of (text (codes "T1|w(x)" ∷ codes "T2|w(x)" ∷ codes "T3|w(x)" ∷ [])) ∷ []) two_threads (IllFormed 3 TooManyThreads)
third_thread = record { place = 2; clean = record { lawful = below_suc _ 1 (below_suc _ 0 (none_below _) refl) refl; no_cycle = none_of_two _ _ (lit≤ tt) }; cause = refl; line_of = refl }

second_variable : IsVerdict (reading_of (text (codes "T1|w(x)" ∷ codes "T1|acq(x)" ∷ codes "T1|w(y)" ∷ [])) ∷ []) one_name (IllFormed 3 TooManyNames)
second_variable = record { place = 2; clean = record { lawful = below_suc _ 1 (below_suc _ 0 (none_below _) refl) refl; no_cycle = none_of_two _ _ (lit≤ tt) }; cause = refl; line_of = refl }

third_line_blank : IsVerdict (reading_of (text (codes "T1|w(x)" ∷ codes "T1|w(x)" ∷ [] ∷ [])) ∷ []) two_lines (Malformed 3 TooManyLines)
third_line_blank = record { clean = record { lawful = below_suc _ 1 (below_suc _ 0 (none_below _) refl) refl; no_cycle = none_of_two _ _ (lit≤ tt) }; cause = refl }

third_line_faulty : IsVerdict (reading_of (text (codes "T1|w(x)" ∷ codes "T1|w(x)" ∷ codes "T1" ∷ [])) ∷ []) two_lines (Malformed 3 NoOperation)
third_line_faulty = record { clean = record { lawful = below_suc _ 1 (below_suc _ 0 (none_below _) refl) refl; no_cycle = none_of_two _ _ (lit≤ tt) }; cause = refl }

fourth_line_faulty : IsVerdict (reading_of (text (codes "T1|w(x)" ∷ codes "T1|w(x)" ∷ [])) ∷ reading_of (text (codes "T1|end" ∷ codes "T1" ∷ [])) ∷ []) two_lines (Malformed 3 TooManyLines)
fourth_line_faulty = record { clean = record { lawful = below_suc _ 1 (below_suc _ 0 (none_below _) refl) refl; no_cycle = none_of_two _ _ (lit≤ tt) }; cause = refl }

-- ill-formed events

lone_release : IsVerdict (reading_of (codes "T1|rel(l)") ∷ []) greatest (IllFormed 1 LockNotHeld)
lone_release = record { place = 0; clean = record { lawful = none_below _; no_cycle = none_of_two _ _ (lit≤ tt) }; cause = refl; line_of = refl }

second_acquire : IsVerdict (reading_of (text (codes "T1|acq(l)" ∷ codes "T2|acq(l)" ∷ [])) ∷ []) greatest (IllFormed 2 LockHeldByOther)
second_acquire = record { place = 1; clean = record { lawful = below_suc _ 0 (none_below _) refl; no_cycle = none_of_two _ _ (lit≤ tt) }; cause = refl; line_of = refl }

join_twice : IsVerdict (reading_of (text (codes "T1|join(T9)" ∷ codes "T1|join(T9)" ∷ [])) ∷ []) greatest (Serializable 2 0)
join_twice = record { clean = record { lawful = below_suc _ 1 (below_suc _ 0 (none_below _) refl) refl; no_cycle = none_of_two _ _ (lit≤ tt) }; no_fault = refl; events_are = refl; blocks_are = refl; open_are = refl }

join_twice_then_act : IsVerdict (reading_of (text (codes "T1|join(T9)" ∷ codes "T1|join(T9)" ∷ codes "T9|w(x)" ∷ [])) ∷ []) greatest (IllFormed 3 ThreadJoined)
join_twice_then_act = record { place = 2; clean = record { lawful = below_suc _ 1 (below_suc _ 0 (none_below _) refl) refl; no_cycle = none_of_two _ _ (lit≤ tt) }; cause = refl; line_of = refl }

join_twice_then_fork : IsVerdict (reading_of (text (codes "T1|join(T9)" ∷ codes "T1|join(T9)" ∷ codes "T1|fork(T9)" ∷ [])) ∷ []) greatest (IllFormed 3 ForkStarted)
join_twice_then_fork = record { place = 2; clean = record { lawful = below_suc _ 1 (below_suc _ 0 (none_below _) refl) refl; no_cycle = none_of_two _ _ (lit≤ tt) }; cause = refl; line_of = refl }

locks_nest : IsVerdict (reading_of (text (codes "T1|begin" ∷ codes "T1|begin" ∷ codes "T1|acq(l)" ∷ codes "T1|acq(l)" ∷ codes "T1|rel(l)" ∷ codes "T1|rel(l)" ∷ codes "T1|end" ∷ codes "T1|end" ∷ [])) ∷ []) greatest (Serializable 8 1)
locks_nest =
    record {
      clean =
          record {
            lawful = below_suc _ 7 (below_suc _ 6 (below_suc _ 5 (below_suc _ 4 (below_suc _ 3 (below_suc _ 2 (below_suc _ 1 (below_suc _ 0 (none_below _) refl) refl) refl) refl) refl) refl) refl) refl;
            no_cycle = none_in_one _ 8 (Block 0 1) (below_suc _ 7 (below_suc _ 6 (below_suc _ 5 (below_suc _ 4 (below_suc _ 3 (below_suc _ 2 (below_suc _ 1 (below_suc _ 0 (none_below _) refl) refl) refl) refl) refl) refl) refl) refl);
          };
      no_fault = refl;
      events_are = refl;
      blocks_are = refl;
      open_are = refl;
    }

-- blocks

inner_begins_do_not_count : IsVerdict (reading_of (text (codes "T1|begin" ∷ codes "T1|begin" ∷ codes "T1|end" ∷ codes "T1|end" ∷ [])) ∷ []) greatest (Serializable 4 1)
inner_begins_do_not_count =
    record {
      clean =
          record {
            lawful = below_suc _ 3 (below_suc _ 2 (below_suc _ 1 (below_suc _ 0 (none_below _) refl) refl) refl) refl;
            no_cycle = none_in_one _ 4 (Block 0 1) (below_suc _ 3 (below_suc _ 2 (below_suc _ 1 (below_suc _ 0 (none_below _) refl) refl) refl) refl);
          };
      no_fault = refl;
      events_are = refl;
      blocks_are = refl;
      open_are = refl;
    }

-- a block that is no transaction

exempt_block : IsVerdict (reading_of (text (codes "T1|begin(a)" ∷ codes "T1|end" ∷ [])) ∷ []) (under greatest_limits (these (codes "a" ∷ []))) (Serializable 2 0)
exempt_block = record { clean = record { lawful = below_suc _ 1 (below_suc _ 0 (none_below _) refl) refl; no_cycle = none_of_two _ _ (lit≤ tt) }; no_fault = refl; events_are = refl; blocks_are = refl; open_are = refl }

other_label : IsVerdict (reading_of (codes "T1|begin(a)") ∷ []) (under greatest_limits (these (codes "b" ∷ []))) (Pending 1 1 1)
other_label = (lit< tt, record { clean = record { lawful = below_suc _ 0 (none_below _) refl; no_cycle = none_of_two _ _ (lit≤ tt) }; no_fault = refl; events_are = refl; blocks_are = refl; open_are = refl })

-- all but the listed blocks are no transactions
but_listed : IsVerdict (reading_of (codes "T1|begin(a)") ∷ []) (under greatest_limits (all_but (codes "a" ∷ []))) (Pending 1 1 1)
but_listed = (lit< tt, record { clean = record { lawful = below_suc _ 0 (none_below _) refl; no_cycle = none_of_two _ _ (lit≤ tt) }; no_fault = refl; events_are = refl; blocks_are = refl; open_are = refl })

but_other : IsVerdict (reading_of (text (codes "T1|begin(a)" ∷ codes "T1|end" ∷ [])) ∷ []) (under greatest_limits (all_but (codes "b" ∷ []))) (Serializable 2 0)
but_other = record { clean = record { lawful = below_suc _ 1 (below_suc _ 0 (none_below _) refl) refl; no_cycle = none_of_two _ _ (lit≤ tt) }; no_fault = refl; events_are = refl; blocks_are = refl; open_are = refl }

but_no_label : IsVerdict (reading_of (text (codes "T1|begin" ∷ codes "T1|end" ∷ [])) ∷ []) (under greatest_limits (all_but (codes "b" ∷ []))) (Serializable 2 0)
but_no_label = record { clean = record { lawful = below_suc _ 1 (below_suc _ 0 (none_below _) refl) refl; no_cycle = none_of_two _ _ (lit≤ tt) }; no_fault = refl; events_are = refl; blocks_are = refl; open_are = refl }

one_end_too_many : IsVerdict (reading_of (text (codes "T1|begin(a)" ∷ codes "T1|end" ∷ codes "T1|end" ∷ [])) ∷ []) (under greatest_limits (these (codes "a" ∷ []))) (IllFormed 3 EndWithoutBegin)
one_end_too_many = record { place = 2; clean = record { lawful = below_suc _ 1 (below_suc _ 0 (none_below _) refl) refl; no_cycle = none_of_two _ _ (lit≤ tt) }; cause = refl; line_of = refl }

-- a violation

-- nor have events of two transactions, where no conflict leads from the second to the first
none_one_way :
    (trace : List Numbered) (n : ℕ) (x y : Transaction)
    → ((i : ℕ) → i < n → (transaction trace i ≡ x) ⊎ (transaction trace i ≡ y))
    → ((i j : ℕ) → j < n → Conflict trace i j → transaction trace j ≡ x → transaction trace i ≡ x)
    → ¬ HasTellingCycle trace n
none_one_way trace n x y either into_first (first, [], telling) = telling.ends_apart refl
none_one_way trace n x y either into_first (first, w ∷ ws, telling) =
    let last = last_is trace n first (w ∷ ws) telling.visit telling.walk in
    let on = telling.walk.0 in
    let entered = telling.walk.1.enters in
    elim (either first.enters telling.visit.enters) [
      | inl here ↦ telling.ends_apart (last.one ∙ into_first (last_visit first (w ∷ ws)).leaves first.enters telling.visit.enters telling.closed here ∙ sym here)
      | inr here ↦
          elim (either w.enters entered) [
            | inl there ↦ telling.apart.0 (telling.visit.one ∙ into_first first.leaves w.enters entered on there ∙ sym there)
            | inr there ↦ telling.apart.0 (here ∙ sym there)
          ]
    ]

abbrev crossed : List Numbered
crossed = event 0 (Begin None) ∷ event 1 (Begin None) ∷ event 0 (Write 0) ∷ event 1 (Read 0) ∷ event 1 (Write 1) ∷ event 0 (Read 1) ∷ []

begin_and_write : (a b : Numbered) → a ≡ event 1 (Begin None) → b ≡ event 0 (Write 0) → ¬ Conflicts a b
begin_and_write a b a_is b_is (same_thread same) = let first = ap (λ (e : Numbered). e.thread) a_is in let second = ap (λ (e : Numbered). e.thread) b_is in omega (arith, first, second, same)
begin_and_write a b a_is b_is (write_read x first second) = let is = ap (λ (e : Numbered). e.what) a_is in cc
begin_and_write a b a_is b_is (read_write x first second) = let is = ap (λ (e : Numbered). e.what) a_is in cc
begin_and_write a b a_is b_is (write_write x first second) = let is = ap (λ (e : Numbered). e.what) a_is in cc
begin_and_write a b a_is b_is (release_acquire l first second) = let is = ap (λ (e : Numbered). e.what) a_is in cc
begin_and_write a b a_is b_is (forks first) = let is = ap (λ (e : Numbered). e.what) a_is in cc
begin_and_write a b a_is b_is (joined second) = let is = ap (λ (e : Numbered). e.what) b_is in cc

thread_of : Transaction → ℕ
thread_of (Block t k) = t
thread_of (Unary place) = place

other_block : Block 1 1 ≢ Block 0 1
unfolding thread_of
other_block same = let threads = ap thread_of same in omega (arith, threads)

into_first_block : (i j : ℕ) → j < 5 → Conflict crossed i j → transaction crossed j ≡ Block 0 1 → transaction crossed i ≡ Block 0 1
into_first_block i zero less c is = absurd (omega (arith, c.earlier))
into_first_block i (suc zero) less c is = absurd (other_block is)
into_first_block zero (suc (suc zero)) less c is = refl
into_first_block (suc zero) (suc (suc zero)) less c is =
    let first : Some (event 1 (Begin None)) ≡ Some c.first = c.first_at in
    let second : Some (event 0 (Write 0)) ≡ Some c.second = c.second_at in
    absurd (begin_and_write c.first c.second (cc) (cc) c.conflict)
into_first_block (suc (suc i)) (suc (suc zero)) less c is = absurd (omega (arith, c.earlier))
into_first_block i (suc (suc (suc zero))) less c is = absurd (other_block is)
into_first_block i (suc (suc (suc (suc zero)))) less c is = absurd (other_block is)
into_first_block i (suc (suc (suc (suc (suc j))))) less c is = absurd (omega (arith, less))

one_block_or_the_other : (i : ℕ) → i < 5 → (transaction crossed i ≡ Block 0 1) ⊎ (transaction crossed i ≡ Block 1 1)
one_block_or_the_other = below_suc _ 4 (below_suc _ 3 (below_suc _ 2 (below_suc _ 1 (below_suc _ 0 (none_below _) (inl refl)) (inr refl)) (inl refl)) (inr refl)) (inr refl)

crossed_telling : HasTellingCycle crossed 6
crossed_telling = (
  record { enters = 5; leaves = 2 },
  record { enters = 3; leaves = 4 } ∷ [],
  record {
    visit = record { enters = lit< tt; leaves = lit< tt; one = refl };
    walk = (
      record { earlier = lit< tt; first = event 0 (Write 0); first_at = refl; second = event 1 (Read 0); second_at = refl; conflict = write_read 0 refl refl },
      record { enters = lit< tt; leaves = lit< tt; one = refl },
      inl (lit≤ tt),
      tt,
    );
    closed = record { earlier = lit< tt; first = event 1 (Write 1); first_at = refl; second = event 0 (Read 1); second_at = refl; conflict = write_read 1 refl refl };
    apart = (λ same. other_block (sym same), tt);
    ends_apart = λ same. other_block same;
  },
)

crossed_blocks : IsVerdict (reading_of (text (codes "T1|begin" ∷ codes "T2|begin" ∷ codes "T1|w(x)" ∷ codes "T2|r(x)" ∷ codes "T2|w(y)" ∷ codes "T1|r(y)" ∷ [])) ∷ []) greatest (Violation 6 (codes "T1") 1)
unfolding crossed_telling
crossed_blocks =
    record {
      place = 5;
      lawful = below_suc _ 5 (below_suc _ 4 (below_suc _ 3 (below_suc _ 2 (below_suc _ 1 (below_suc _ 0 (none_below _) refl) refl) refl) refl) refl) refl;
      closing = closing_from crossed 5 (none_one_way crossed 5 (Block 0 1) (Block 1 1) one_block_or_the_other into_first_block) crossed_telling;
      line_of = refl;
      t = 0;
      number = 1;
      opener = record {
        begins = (crossed_telling.0, crossed_telling.1, crossed_telling.2, refl);
        least = λ first rest e telling at. omega arith;
      };
      name = refl;
      begins = record { place = 0; outermost = refl; block = refl; line_of = refl };
    }
