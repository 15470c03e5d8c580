-- A trace has one verdict at most.
use Rattle.std.proofs.Common.{◌≡◌, inl, inr, ℕ, suc, ◌<◌, ◌≤◌, List, length, Option, Some, None, sym, ◌∙◌, ap, ap₂, subst, option_map, take, true, arith}
use Rattle.std.specs.Prelude.{slice_get, option_and_then, unwrap_or}
use Rattle.std.specs.Option.{option_or}
use Rattle.std.proofs.lemmas.Bool.{cases_lt, cases_order}
use Rattle.std.proofs.lemmas.Option.{slice_get_past}
use Rattle.aero_model.specs.declared.numbered.Numbered.{Numbered}
use Rattle.aero_model.specs.declared.limits.Limits.{Limits}
use Rattle.aero_model.specs.declared.verdict.LineFault.{LineFault}
use Rattle.aero_model.specs.declared.verdict.ShapeFault.{ShapeFault}
use Rattle.aero_model.specs.declared.verdict.Verdict.{Verdict}
use Rattle.aero_model.specs.declared.verdict.Verdict.TheVariants.{Serializable, Pending, Violation, Malformed, IllFormed}
use Rattle.aero_model.specs.Blocks.{Block, opens, blocks, transaction}
use Rattle.aero_model.specs.Cycle.{IsClosing, IsOpener}
use Rattle.aero_model.specs.Graph.{BeginsCycle}
use Rattle.aero_model.specs.Named.{Named}
use Rattle.aero_model.specs.Numbering.{tables_of}
use Rattle.aero_model.specs.Shape.{shape_fault, limit_fault, fault_at, IsLawful}
use Rattle.aero_model.proofs.Begins.{blocks_rise}
use Rattle.aero_model.proofs.Depths.{opening_at}
use Rattle.aero_model.proofs.Lawful.{lawful_well_formed}
use Rattle.aero_model.proofs.Places.{in_block}
use Rattle.aero_model.proofs.Telling.{telling_more}
use Rattle.aero_grammar.specs.Reading.{Reading}
use Rattle.aero_verdict.specs.Verdict.{IsVerdict, IsFaultless, IsClean, IsIllFormed, IsMalformed, IsViolation, BeginsOnLine, counted_events, events_of, read_trace, checked_trace}
use Rattle.aero_model.specs.Terms.{Rules}
use Rattle.aero_verdict.proofs.Judged.{judged_well}
use Rattle.aero_verdict.proofs.Openers.{opener_number}
use Rattle.aero_verdict.proofs.Readings.{trace_length, read_length}

-- only an event of the trace is refused
refused_within : (limits : Limits) (trace : List Numbered) (n : ℕ) (fault : ShapeFault) → fault_at limits trace n ≡ Some fault → n < length trace
refused_within limits trace n fault cause = elim (cases_lt n (length trace)) [ inl less ↦ less | inr past ↦ absurd (no_event past) ]
  where
    no_event : length trace ≤ n → ⊥
    no_event past = let none = ap (option_and_then (λ e. option_or (limit_fault limits e) (shape_fault (take n trace) e))) (slice_get_past trace n past) in cc

-- the first refused place is one
same_place : (limits : Limits) (trace : List Numbered) (m n : ℕ) (f g : ShapeFault) → IsLawful limits trace m → IsLawful limits trace n → fault_at limits trace m ≡ Some f → fault_at limits trace n ≡ Some g → m ≡ n
same_place limits trace m n f g before_m before_n at_m at_n =
    elim (cases_order m n) [
      | inl same ↦ same
      | inr (inl less) ↦ let none = before_n m less in absurd (cc)
      | inr (inr less) ↦ let none = before_m n less in absurd (cc)
    ]

not_both : (limits : Limits) (trace : List Numbered) (n : ℕ) (fault : ShapeFault) → IsLawful limits trace (length trace) → fault_at limits trace n ≡ Some fault → ⊥
not_both limits trace n fault lawful cause = let none = lawful n (refused_within limits trace n fault cause) in cc

-- the closing event is one
one_closing : (trace : List Numbered) (m n : ℕ) → IsClosing trace m → IsClosing trace n → m ≡ n
one_closing trace m n a b =
    elim (cases_order m n) [
      | inl same ↦ same
      | inr (inl less) ↦ absurd (b.before (suc m) (omega (arith, less)) a.closed)
      | inr (inr less) ↦ absurd (a.before (suc n) (omega (arith, less)) b.closed)
    ]

-- and the opener's thread
no_later : (trace : List Numbered) (n t k u l : ℕ) → IsOpener trace n t k → BeginsCycle trace n (Block u l) → t ≤ u
no_later trace n t k u l o (first, rest, telling, of) =
    let g = in_block trace first.enters u l of in
    subst (λ v. t ≤ v) g.thread (o.least first rest g.event telling g.event_at)

-- a block has one outermost begin
one_begin : (trace : List Numbered) (t k p q : ℕ) → opens trace t p ≡ true → opens trace t q ≡ true → transaction trace p ≡ Block t k → transaction trace q ≡ Block t k → p ≡ q
one_begin trace t k p q first second in_p in_q =
    let a = opening_at trace t p first in
    let b = opening_at trace t q second in
    let at_p : blocks trace t (suc p) ≡ k = (in_block trace p t k in_p).number in
    let at_q : blocks trace t (suc q) ≡ k = (in_block trace q t k in_q).number in
    elim (cases_order p q) [
      | inl same ↦ same
      | inr (inl less) ↦ let rise = blocks_rise trace t (suc p) q (omega (arith, less)) in absurd (omega (arith, rise, at_p, at_q, b.number))
      | inr (inr less) ↦ let rise = blocks_rise trace t (suc q) p (omega (arith, less)) in absurd (omega (arith, rise, at_p, at_q, a.number))
    ]

module _ (parts : List Reading) (rules : Rules) where
  abbrev trace : List Numbered
  trace = checked_trace parts rules

  abbrev read : List Numbered
  read = read_trace parts rules

  none_refused : (n : ℕ) (fault : ShapeFault) → IsLawful rules.limits read (length trace) → fault_at rules.limits read n ≡ Some fault → ⊥
  none_refused n fault lawful = not_both rules.limits read n fault (subst (IsLawful rules.limits read) (sym (read_length rules parts)) lawful)

  ill_formed_once : (k l : ℕ) (f g : ShapeFault) → IsIllFormed parts rules k f → IsIllFormed parts rules l g → IllFormed k f ≡ IllFormed l g
  ill_formed_once k l f g a b =
      let same = same_place rules.limits read a.place b.place f g a.clean.lawful b.clean.lawful a.cause b.cause in
      let lines : Some k ≡ Some l = sym a.line_of ∙ ap (λ n. option_map (λ e. e.0) (slice_get (counted_events parts rules) n)) same ∙ b.line_of in
      let faults : Some f ≡ Some g = sym a.cause ∙ ap (fault_at rules.limits read) same ∙ b.cause in
      cc

  malformed_once : (k l : ℕ) (f g : LineFault) → IsMalformed parts rules k f → IsMalformed parts rules l g → Malformed k f ≡ Malformed l g
  malformed_once k l f g a b =
      let same : ◌≡◌ {A = Option (ℕ × LineFault)} (Some (k, f)) (Some (l, g)) = sym a.cause ∙ b.cause in
      let pair : Option (ℕ × LineFault) → ℕ × LineFault = λ o. unwrap_or o (k, f) in
      ap (λ o. Malformed (pair o).0 (pair o).1) same

  -- a violation stands at an event
  violation_within : (k b : ℕ) (name : List ℕ) (v : IsViolation parts rules k name b) → suc v.place ≤ length trace
  violation_within k b name v = elim (cases_lt v.place (length trace)) [ inl less ↦ less | inr past ↦ absurd (no_event past) ]
    where
      no_event : length trace ≤ v.place → ⊥
      no_event past =
          let many = trace_length rules parts in
          let none = ap (option_map (λ (e : ℕ × Named). e.0)) (slice_get_past (counted_events parts rules) v.place (omega (arith, many, past))) in
          let line = v.line_of in
          cc

  no_violation : (k b : ℕ) (name : List ℕ) → IsClean parts rules (length trace) → IsViolation parts rules k name b → ⊥
  no_violation k b name clean v = clean.no_cycle (telling_more trace (suc v.place) (length trace) (violation_within k b name v) v.closing.closed)

  not_ill_formed : (k l b : ℕ) (name : List ℕ) (f : ShapeFault) → IsIllFormed parts rules l f → IsViolation parts rules k name b → ⊥
  not_ill_formed k l b name f i v =
      elim (cases_lt v.place i.place) [
        | inl before ↦ i.clean.no_cycle (telling_more trace (suc v.place) i.place (omega (arith, before)) v.closing.closed)
        | inr after ↦ let none = v.lawful i.place (omega (arith, after)) in let cause = i.cause in cc
      ]

  violation_once : (k l b c : ℕ) (m n : List ℕ) → IsViolation parts rules k m b → IsViolation parts rules l n c → Violation k m b ≡ Violation l n c
  violation_once k l b c m n v w =
      let same : v.place ≡ w.place = one_closing trace v.place w.place v.closing w.closing in
      let opener : IsOpener trace (suc v.place) w.t w.number = subst (λ p. IsOpener trace (suc p) w.t w.number) (sym same) w.opener in
      let first : v.t ≤ w.t = no_later trace (suc v.place) v.t v.number w.t w.number v.opener opener.begins in
      let second : w.t ≤ v.t = no_later trace (suc v.place) w.t w.number v.t v.number opener v.opener.begins in
      let one : v.t ≡ w.t = omega (arith, first, second) in
      let well = judged_well rules.labels (events_of parts rules) (suc v.place) (lawful_well_formed rules.limits read (suc v.place) v.lawful) in
      let here = opener_number trace v.place v.t v.number well v.closing v.opener in
      let there = opener_number trace v.place w.t w.number well v.closing opener in
      let number : v.number ≡ w.number = sym here.1 ∙ ap (λ t. blocks trace t (suc v.place)) one ∙ there.1 in
      let other : BeginsOnLine parts rules v.t v.number c = subst (λ t. BeginsOnLine parts rules t v.number c) (sym one) (subst (λ j. BeginsOnLine parts rules w.t j c) (sym number) w.begins) in
      let begin : v.begins.place ≡ other.place = one_begin trace v.t v.number v.begins.place other.place v.begins.outermost other.outermost v.begins.block other.block in
      let lines : Some k ≡ Some l = sym v.line_of ∙ ap (λ p. option_map (λ (e : ℕ × Named). e.0) (slice_get (counted_events parts rules) p)) same ∙ w.line_of in
      let begins : Some b ≡ Some c = sym v.begins.line_of ∙ ap (λ p. option_map (λ (e : ℕ × Named). e.0) (slice_get (counted_events parts rules) p)) begin ∙ other.line_of in
      let names : Some m ≡ Some n = sym v.name ∙ ap (λ t. slice_get (tables_of (events_of parts rules)).threads t) one ∙ w.name in
      cc

  abbrev Faulty : ℕ → LineFault → Type 0
  Faulty l g = IsMalformed parts rules l g

  not_faulty : (e b p l : ℕ) (g : LineFault) → IsFaultless parts rules e b p → Faulty l g → ⊥
  not_faulty e b p l g v w = let none : ◌≡◌ {A = Option (ℕ × LineFault)} None (Some (l, g)) = sym v.no_fault ∙ w.cause in cc

  open_once : (e b p d c q : ℕ) → IsFaultless parts rules e b p → IsFaultless parts rules d c q → p ≡ q
  open_once e b p d c q v w = v.open_are ∙ sym w.open_are

  pub one_verdict : (v w : Verdict) → IsVerdict parts rules v → IsVerdict parts rules w → v ≡ w
  one_verdict (Serializable m b) (Serializable n c) v w = ap₂ Serializable (v.events_are ∙ sym w.events_are) (v.blocks_are ∙ sym w.blocks_are)
  one_verdict (Serializable m b) (Pending n c p) v w = absurd (let same = open_once m b 0 n c p v w.1 in omega (arith, same, w.0))
  one_verdict (Serializable m b) (Violation l t g) v w = absurd (no_violation l g t v.clean w)
  one_verdict (Serializable m b) (Malformed l g) v w = absurd (not_faulty m b 0 l g v w)
  one_verdict (Serializable m b) (IllFormed l g) v w = absurd (none_refused w.place g v.clean.lawful w.cause)
  one_verdict (Pending m b p) (Serializable n c) v w = absurd (let same = open_once n c 0 m b p w v.1 in omega (arith, same, v.0))
  one_verdict (Pending m b p) (Pending n c q) v w =
      let events : m ≡ n = v.1.events_are ∙ sym w.1.events_are in
      let begun : b ≡ c = v.1.blocks_are ∙ sym w.1.blocks_are in
      let going : p ≡ q = open_once m b p n c q v.1 w.1 in
      cc
  one_verdict (Pending m b p) (Violation l t g) v w = absurd (no_violation l g t v.1.clean w)
  one_verdict (Pending m b p) (Malformed l g) v w = absurd (not_faulty m b p l g v.1 w)
  one_verdict (Pending m b p) (IllFormed l g) v w = absurd (none_refused w.place g v.1.clean.lawful w.cause)
  one_verdict (Violation k s f) (Serializable n c) v w = absurd (no_violation k f s w.clean v)
  one_verdict (Violation k s f) (Pending n c q) v w = absurd (no_violation k f s w.1.clean v)
  one_verdict (Violation k s f) (Violation l t g) v w = violation_once k l f g s t v w
  one_verdict (Violation k s f) (Malformed l g) v w = absurd (no_violation k f s w.clean v)
  one_verdict (Violation k s f) (IllFormed l g) v w = absurd (not_ill_formed k l f s g w v)
  one_verdict (Malformed k f) (Serializable n c) v w = absurd (not_faulty n c 0 k f w v)
  one_verdict (Malformed k f) (Pending n c q) v w = absurd (not_faulty n c q k f w.1 v)
  one_verdict (Malformed k f) (Violation l t g) v w = absurd (no_violation l g t v.clean w)
  one_verdict (Malformed k f) (Malformed l g) v w = malformed_once k l f g v w
  one_verdict (Malformed k f) (IllFormed l g) v w = absurd (none_refused w.place g v.clean.lawful w.cause)
  one_verdict (IllFormed k f) (Serializable n c) v w = absurd (none_refused v.place f w.clean.lawful v.cause)
  one_verdict (IllFormed k f) (Pending n c q) v w = absurd (none_refused v.place f w.1.clean.lawful v.cause)
  one_verdict (IllFormed k f) (Violation l t g) v w = absurd (not_ill_formed l k g t f v w)
  one_verdict (IllFormed k f) (Malformed l g) v w = absurd (none_refused v.place f w.clean.lawful v.cause)
  one_verdict (IllFormed k f) (IllFormed l g) v w = ill_formed_once k l f g v w
