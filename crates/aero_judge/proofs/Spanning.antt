-- The last places of transactions, event by event, and the spans that they give.
use Rattle.std.proofs.Common.{◌≡◌, ◌↔◌, ℕ, zero, suc, ◌+◌, ◌<◌, ◌≤◌, ◌==◌, Bool, true, false, if◌then◌else◌, List, [], ◌∷◌, length, Option, Some, None, inl, inr, refl, sym, ◌∙◌, ap, subst, arith}
use Rattle.std.specs.Prelude.{slice_get, slice_index_or, All, IsTrue}
use Rattle.std.specs.List.{AllZip}
use Rattle.std.specs.Bool.{then_some}
use Rattle.std.proofs.lemmas.Bool.{cases_eq, cases_lt, eq-eqb, ne_eqb, cond-true, cond-false, false≢true}
use Rattle.std.proofs.lemmas.Option.{same_Some, slice_get_within}
use Rattle.aero_model.specs.declared.numbered.Numbered.{Numbered}
use Rattle.aero_model.specs.Blocks.{transaction, HasEnded}
use Rattle.aero_witness.specs.declared.visit.Visit.{Visit}
use Rattle.aero_witness.specs.Parts.{AreFirstsTo}
use Rattle.aero_witness.proofs.Nests.{one_first, same_by_first}
use Rattle.aero_judge.specs.declared.spans.Span.{Span}
use Rattle.aero_verdict.specs.Explained.{IsLastOf}
use Rattle.aero_judge.specs.Spans.{IsLastWith, AreLastsTo, AreLasts, IsEndOf, IsSpan, IsSpanOf}

past_end : (xs : List ℕ) (i : ℕ) → slice_get xs i ≡ None → length xs ≤ i
past_end [] i none = omega arith
past_end (x ∷ xs) zero none = absurd (cc)
past_end (x ∷ xs) (suc i) none = let h = past_end xs i none in omega (arith, h)

-- none of no events
pub no_lasts : (firsts lasts : List ℕ) → length lasts ≡ length firsts → AreLastsTo firsts 0 lasts
no_lasts firsts lasts each = record { each = each; at = λ i f less here. absurd (omega (arith, less)) }

-- with the next event
module _ (firsts : List ℕ) (k f : ℕ) (here : slice_get firsts k ≡ Some f) (old new : List ℕ) (so_far : AreLastsTo firsts k old) (each : length new ≡ length old) (put : (g : ℕ) → slice_index_or new g 0 ≡ (if f == g then k else slice_index_or old g 0)) where
  now : (g : ℕ) → f ≡ g → IsLastWith firsts (k + 1) g (slice_index_or new g 0)
  now g same =
      let is : slice_index_or new g 0 ≡ k = put g ∙ cond-true (f == g) k (slice_index_or old g 0) (eq-eqb f g same) in
      subst (IsLastWith firsts (k + 1) g) (sym is) (record { within = omega arith; at = here ∙ ap Some same; none = λ m later less e. omega (arith, later, less) })

  before : (i g : ℕ) → i < k + 1 → slice_get firsts i ≡ Some g → (f ≡ g → ⊥) → IsLastWith firsts (k + 1) g (slice_index_or new g 0)
  before i g less at other =
      let is : slice_index_or new g 0 ≡ slice_index_or old g 0 = put g ∙ cond-false (f == g) k (slice_index_or old g 0) (ne_eqb f g other) in
      let not_here : (m : ℕ) → slice_get firsts m ≡ Some g → m ≡ k → ⊥ = λ m at_m e. other (same_Some f g (sym here ∙ ap (slice_get firsts) (sym e) ∙ at_m)) in
      let earlier : i < k = elim (cases_eq i k) [ inl e ↦ absurd (not_here i at e) | inr off ↦ omega (arith, less, off) ] in
      let was = so_far.at i g earlier at in
      subst (IsLastWith firsts (k + 1) g) (sym is) (record {
        within = (let w = was.within in omega (arith, w));
        at = was.at;
        none = λ m later below e. elim (cases_eq m k) [ inl spot ↦ not_here m e spot | inr off ↦ was.none m later (omega (arith, below, off)) e ];
      })

  pub lasts_next : AreLastsTo firsts (k + 1) new
  lasts_next = record {
    each = each ∙ so_far.each;
    at = λ i g less at. elim (cases_eq f g) [ inl same ↦ now g same | inr other ↦ before i g less at other ];
  }

module _ (events : List Numbered) (firsts : List ℕ) (are : AreFirstsTo events (length events) firsts) (lasts : List ℕ) (lasts_are : AreLasts firsts lasts) (place first : ℕ) (first_at : slice_get firsts place ≡ Some first) where
  -- the last place of the transaction
  last_is : IsLastOf events (length events) place (slice_index_or lasts first 0)
  last_is =
      let within = slice_get_within firsts place first first_at in
      let is = lasts_are.at place first within first_at in
      let of = are.at place first first_at in
      let last = slice_index_or lasts first 0 in
      let each = are.each in
      let w = is.within in
      record {
        within = omega (arith, w, each);
        one = same_by_first events (transaction events last) (transaction events place) first first (are.at last first is.at) of refl;
        none = λ m later less same.
            (let g = first_of m less in
            is.none m later (omega (arith, less, each)) (g.1 ∙ ap Some (one_first events (transaction events m) (transaction events place) g.0 first (are.at m g.0 g.1) of same)));
      }
    where
      first_of : (m : ℕ) → m < length events → (g : ℕ) × (slice_get firsts m ≡ Some g)
      first_of m less = go (slice_get firsts m) refl
        where
          go : (o : Option ℕ) → slice_get firsts m ≡ o → (g : ℕ) × (slice_get firsts m ≡ Some g)
          go (Some g) at = (g, at)
          go None none = absurd (let past = past_end firsts m none in let each = are.each in omega (arith, less, past, each))

  pub span_is : (ended : Bool) → IsTrue ended ↔ HasEnded events (length events) (transaction events place) → IsSpan events place (record { first = first; last = then_some ended (slice_index_or lasts first 0) })
  span_is ended tells = record { first = are.at place first first_at; last = go ended tells }
    where
      go : (b : Bool) → IsTrue b ↔ HasEnded events (length events) (transaction events place) → IsEndOf events place (then_some b (slice_index_or lasts first 0))
      go true so = (so.0 refl, last_is)
      go false so = λ has. false≢true (so.1 has)

-- each first place is that of an event
pub spans_within : (events : List Numbered) (visits : List Visit) (spans : List Span) → All (λ (v : Visit). v.enters < length events) visits → AllZip (IsSpanOf events) visits spans → All (λ (s : Span). s.first < length events) spans
spans_within events [] [] all zip = λ k d l. absurd (omega (arith, l))
spans_within events [] (s ∷ spans) all zip = absurd zip
spans_within events (v ∷ vs) [] all zip = absurd zip
spans_within events (v ∷ vs) (s ∷ spans) all zip = go (spans_within events vs spans (λ j x less. all (suc j) x (omega (arith, less))) zip.1)
  where
    enters : v.enters < length events
    enters = all 0 v (omega arith)

    here : s.first < length events
    here = elim (cases_lt v.enters s.first) [ inl later ↦ absurd ((zip.0).first.none v.enters later refl) | inr le ↦ (let e = enters in omega (arith, le, e)) ]

    go : All (λ (x : Span). x.first < length events) spans → All (λ (x : Span). x.first < length events) (s ∷ spans)
    go rest zero d l = here
    go rest (suc k) d l = rest k d (omega (arith, l))
