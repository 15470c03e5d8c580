-- What is known of the sources doesn't hang on how questions on chunks and questions on verdicts stand among each other.
use Rattle.std.proofs.Common.{◌≡◌, ℕ, List, [], ◌∷◌, ◌++◌, map, Option, Some, None, refl, sym, ◌∙◌, ap, ap₂, subst, append_assoc}
use Rattle.std.specs.Prelude.{All}
use Rattle.std.proofs.lemmas.List.{append-nil}
use Rattle.aero_grammar.specs.Reading.{Reading, reading_of}
use Rattle.aero_pieces.specs.declared.question.Question.{Question}
use Rattle.aero_pieces.specs.declared.question.Question.TheVariants.{Parse, Check}
use Rattle.aero_batch.specs.declared.underway.Underway.{Underway}
use Rattle.aero_batch.specs.Inquiries.{Inquired, AreApart}
use Rattle.aero_batch.specs.Steps.{with_chunk, with_check}
use Rattle.aero_intake.specs.Held.{Known}
use Rattle.aero_intake.specs.declared.track.Track.{Track}
use Rattle.aero_intake.specs.declared.track.Track.TheVariants.{Arriving, Arrived, Checking, Found}
use Rattle.aero_intake.specs.Stories.{Story, own_chunk, own_check, chunks_asked, checks_asked, AreSettled, IsTracked, AreTracked}
use Rattle.aero_intake.proofs.Tracked.{chunks_asked-more, checks_asked-more, nil_right}
use Rattle.aero_model.specs.Terms.{Terms, to_the_end}

chunks_asked-append : (s : ℕ) (xs ys : List Question) → chunks_asked s (xs ++ ys) ≡ chunks_asked s xs ++ chunks_asked s ys
chunks_asked-append s [] ys = refl
chunks_asked-append s (x ∷ xs) ys = ap (λ bs. own_chunk s x ++ bs) (chunks_asked-append s xs ys)
    ∙ sym (append_assoc (own_chunk s x) (chunks_asked s xs) (chunks_asked s ys))

checks_asked-append : (s : ℕ) (xs ys : List Question) → checks_asked s (xs ++ ys) ≡ checks_asked s xs ++ checks_asked s ys
checks_asked-append s [] ys = refl
checks_asked-append s (x ∷ xs) ys = ap (λ cs. own_check s x ++ cs) (checks_asked-append s xs ys)
    ∙ sym (append_assoc (own_check s x) (checks_asked s xs) (checks_asked s ys))

nil_left : {A : Type 0} (xs ys : List A) → xs ++ ys ≡ [] → xs ≡ []
nil_left [] ys is = refl
nil_left (x ∷ xs) ys is = cc

-- what asks the same of each source
pub same_tracked : (terms : Terms) (qs rs : List Question) (tale : ℕ → Story) (tracks : List Track) → ((s : ℕ) → chunks_asked s qs ≡ chunks_asked s rs) →
    ((s : ℕ) → checks_asked s qs ≡ checks_asked s rs) →
    AreTracked terms qs tale tracks → AreTracked terms rs tale tracks
same_tracked terms qs rs tale tracks chunks checks tracked s t at = go t (tracked s t at)
  where
    settled : (known : Known) → AreSettled terms (tale s) qs s known → AreSettled terms (tale s) rs s known
    settled known is = record { on = is.on; all = subst (λ bs. known.parts ++ map reading_of bs ≡ map reading_of (tale s).chunks) (chunks s) is.all }

    go : (t : Track) → IsTracked terms qs s (tale s) t → IsTracked terms rs s (tale s) t
    go (Arriving known) is = (settled known is.0, sym (checks s) ∙ is.1, is.2)
    go (Arrived n ending k known) is = (settled known is.0, sym (checks s) ∙ is.1, is.2)
    go (Checking n ending begun) is = (
      subst (λ cs. All (λ a. a ≡ record { parts = map reading_of (tale s).chunks; terms = to_the_end terms }) cs) (checks s) is.0,
      is.1,
      is.2,
    )
    go (Found g) is = is

-- the first question on a chunk, in front of all
pub chunk_first : (terms : Terms) (vs bs : List Question) (q : Question) (tale : ℕ → Story) (tracks : List Track) → ((s : ℕ) → checks_asked s (q ∷ bs) ≡ []) →
    ((s : ℕ) → chunks_asked s vs ≡ []) →
    AreTracked terms (vs ++ q ∷ bs) tale tracks → AreTracked terms (q ∷ (vs ++ bs)) tale tracks
chunk_first terms vs bs q tale tracks no_checks no_chunks =
    same_tracked terms (vs ++ q ∷ bs) (q ∷ (vs ++ bs)) tale tracks
    (λ s. chunks_asked-append s vs (q ∷ bs)
    ∙ (ap (λ xs. xs ++ (own_chunk s q ++ chunks_asked s bs)) (no_chunks s)
    ∙ sym (ap (λ xs. own_chunk s q ++ xs) (chunks_asked-append s vs bs ∙ ap (λ xs. xs ++ chunks_asked s bs) (no_chunks s)))))
    (λ s. checks_asked-append s vs (q ∷ bs)
    ∙ (ap (λ xs. checks_asked s vs ++ xs) (no_checks s)
    ∙ sym (ap₂ (λ xs ys. xs ++ ys) (nil_left (own_check s q) (checks_asked s bs) (no_checks s))
    (checks_asked-append s vs bs ∙ ap (λ xs. checks_asked s vs ++ xs) (nil_right (own_check s q) (checks_asked s bs) (no_checks s))))))

-- a question on a verdict, behind those on verdicts
pub check_before_chunks : (terms : Terms) (vs bs : List Question) (q : Question) (tale : ℕ → Story) (tracks : List Track) →
    ((s : ℕ) → checks_asked s bs ≡ []) → ((s : ℕ) → own_chunk s q ≡ []) →
    AreTracked terms ((vs ++ bs) ++ q ∷ []) tale tracks → AreTracked terms ((vs ++ q ∷ []) ++ bs) tale tracks
check_before_chunks terms vs bs q tale tracks no_checks no_chunk =
    same_tracked terms ((vs ++ bs) ++ q ∷ []) ((vs ++ q ∷ []) ++ bs) tale tracks
    (λ s. chunks_asked-more s (vs ++ bs) q
    ∙ (ap₂ (λ xs ys. xs ++ ys) (chunks_asked-append s vs bs) (no_chunk s)
    ∙ (append-nil (chunks_asked s vs ++ chunks_asked s bs)
    ∙ sym (chunks_asked-append s (vs ++ q ∷ []) bs
    ∙ ap (λ xs. xs ++ chunks_asked s bs) (chunks_asked-more s vs q ∙ (ap (λ xs. chunks_asked s vs ++ xs) (no_chunk s) ∙ append-nil (chunks_asked s vs)))))))
    (λ s. checks_asked-more s (vs ++ bs) q
    ∙ (ap (λ xs. xs ++ own_check s q) (checks_asked-append s vs bs ∙ (ap (λ xs. checks_asked s vs ++ xs) (no_checks s) ∙ append-nil (checks_asked s vs)))
    ∙ sym (checks_asked-append s (vs ++ q ∷ []) bs
    ∙ (ap₂ (λ xs ys. xs ++ ys) (checks_asked-more s vs q) (no_checks s)
    ∙ append-nil (checks_asked s vs ++ own_check s q)))))

-- nothing is asked
pub nothing_apart : AreApart (record { chunks = []; verdicts = []; asked = 0 })
nothing_apart = record { no_checks = λ s. refl; no_chunks = λ s. refl }

-- asking about a chunk, or for a verdict, keeps them apart

pub chunk_apart : (p : Underway) (o : Option (List ℕ)) → AreApart p.inquiry → AreApart (with_chunk p o).inquiry
chunk_apart p None apart = apart
chunk_apart p (Some b) apart = record {
  no_checks = λ s. checks_asked-more s p.inquiry.chunks (Parse p.read p.chunks b) ∙ (append-nil (checks_asked s p.inquiry.chunks) ∙ apart.no_checks s);
  no_chunks = apart.no_chunks;
}

pub check_apart : (terms : Terms) (i : Inquired) (place : ℕ) (o : Option (List Reading)) → AreApart i → AreApart (with_check terms i place o)
check_apart terms i place None apart = apart
check_apart terms i place (Some rs) apart = record {
  no_checks = apart.no_checks;
  no_chunks = λ s. chunks_asked-more s i.verdicts (Check place rs terms.rules.limits terms.rules.labels terms.rules.end terms.order terms.explain)
      ∙ (append-nil (chunks_asked s i.verdicts) ∙ apart.no_chunks s);
}
