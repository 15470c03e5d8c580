-- Asking and settling questions keep what is known of each source.
use Rattle.std.proofs.Common.{◌≡◌, ℕ, zero, suc, ◌≤◌, List, [], ◌∷◌, ◌++◌, map, length, slice_get, slice_set, Option, Some, None, refl, sym, ◌∙◌, ap, ap₂}
use Rattle.std.proofs.Common.{subst, append_assoc, inl, inr, arith}
use Rattle.std.specs.Prelude.{All, Bool, option_map, if◌then◌else◌}
use Rattle.std.specs.List.{concat}
use Rattle.std.proofs.Math.Logic.{∥∥₁_elim}
use Rattle.std.proofs.lemmas.Bool.{cases_eq, eq-eqb, ne_eqb}
use Rattle.std.proofs.lemmas.Grind.{merely}
use Rattle.std.proofs.lemmas.List.{append-nil, map-append, length-append, length-map}
use Rattle.std.proofs.lemmas.List.Elements.{All-head, All-cons, All-nil}
use Rattle.aero_model.specs.declared.limits.Limits.{Limits}
use Rattle.aero_model.specs.declared.verdict.Ending.{Ending}
use Rattle.aero_model.specs.declared.verdict.Ending.TheVariants as endings
use Rattle.aero_model.specs.declared.verdict.Finding.{Finding}
use Rattle.aero_model.specs.declared.verdict.Finding.TheVariants as findings
use Rattle.aero_model.specs.Exempt.{Listed}
use Rattle.aero_grammar.specs.Reading.{Reading, reading_of}
use Rattle.aero_lines.specs.Cutting.{nothing_yet, blocks_from}
use Rattle.aero_pieces.specs.declared.question.Question.{Question}
use Rattle.aero_pieces.specs.declared.question.Question.TheVariants.{Parse, Check}
use Rattle.aero_pieces.specs.declared.answer.Value.{Value}
use Rattle.aero_pieces.specs.declared.answer.Value.TheVariants.{Parsed, Judged, Ordered, Explained, Opened}
use Rattle.aero_pieces.specs.Values.{IsValueOf}
use Rattle.aero_judge.specs.Finding.{IsFinding, IsTraceFinding}
use Rattle.aero_model.specs.Terms.{Terms, on, ruled, to_the_end}
use Rattle.aero_intake.specs.Begun.{AreBegun}
use Rattle.aero_intake.specs.Held.{Known, with_next, IsFinal}
use Rattle.aero_intake.specs.Surveys.{IsSaidOf}
use Rattle.aero_intake.specs.declared.begun.Begun.{Begun}
use Rattle.aero_intake.specs.Intake.{Taking, IsTaken}
use Rattle.aero_intake.specs.declared.track.Track.{Track}
use Rattle.aero_intake.specs.declared.track.Track.TheVariants.{Arriving, Arrived, Checking, Found}
use Rattle.aero_intake.specs.Stories.{Story, Asked, AreEnough, BeginAlike, own_chunk, own_check, chunks_asked, checks_asked, HasArrived, AreSettled}
use Rattle.aero_intake.specs.Stories.{IsTracked, AreTracked, changed, trace_of}
use Rattle.aero_intake.specs.Tracks.{with_finding, with_value}
use Rattle.aero_intake.proofs.AsFar.{found_as_far, found_to_the_end}
use Rattle.aero_intake.proofs.Begins.{begun_of_text, more_final}
use Rattle.aero_intake.proofs.Judged.{judged_alike, same_finding}
use Rattle.aero_intake.proofs.Taken.{concat-more, chunks_with_more}
use Rattle.aero_intake.proofs.Values.{parsed_value, not_judged, not_ordered, not_explained, not_opened, not_parsed}

-- what is asked of the sources

own_chunk-same : (s trace number : ℕ) (bytes : List ℕ) → trace ≡ s → own_chunk s (Parse trace number bytes) ≡ bytes ∷ []
own_chunk-same s trace number bytes same = ap (λ b. if b then bytes ∷ [] else []) (eq-eqb trace s same)

pub own_chunk-other : (s : ℕ) (q : Question) → (trace_of q ≡ s → ⊥) → own_chunk s q ≡ []
own_chunk-other s (Parse trace number bytes) other = ap (λ b. if b then bytes ∷ [] else []) (ne_eqb trace s other)
own_chunk-other s (Check trace parts limits labels end order explain) other = refl

own_check-same : (s trace : ℕ) (parts : List Reading) (limits : Limits) (labels : Listed) (end order explain : Bool) → trace ≡ s →
    own_check s (Check trace parts limits labels end order explain) ≡ record { parts = parts; terms = on (ruled limits labels end) order explain } ∷ []
own_check-same s trace parts limits labels end order explain same =
    ap (λ b. if b then record { parts = parts; terms = on (ruled limits labels end) order explain } ∷ [] else []) (eq-eqb trace s same)

pub own_check-other : (s : ℕ) (q : Question) → (trace_of q ≡ s → ⊥) → own_check s q ≡ []
own_check-other s (Parse trace number bytes) other = refl
own_check-other s (Check trace parts limits labels end order explain) other =
    ap (λ b. if b then record { parts = parts; terms = on (ruled limits labels end) order explain } ∷ [] else []) (ne_eqb trace s other)

pub chunks_asked-more : (s : ℕ) (qs : List Question) (q : Question) → chunks_asked s (qs ++ q ∷ []) ≡ chunks_asked s qs ++ own_chunk s q
chunks_asked-more s [] q = append-nil (own_chunk s q)
chunks_asked-more s (p ∷ more) q = ap (λ bs. own_chunk s p ++ bs) (chunks_asked-more s more q)
    ∙ sym (append_assoc (own_chunk s p) (chunks_asked s more) (own_chunk s q))

pub checks_asked-more : (s : ℕ) (qs : List Question) (q : Question) → checks_asked s (qs ++ q ∷ []) ≡ checks_asked s qs ++ own_check s q
checks_asked-more s [] q = append-nil (own_check s q)
checks_asked-more s (p ∷ more) q = ap (λ cs. own_check s p ++ cs) (checks_asked-more s more q)
    ∙ sym (append_assoc (own_check s p) (checks_asked s more) (own_check s q))

-- a list of tracks with one changed

pub changed_there : {A : Type 0} (s : ℕ) (f : A → A) (xs : List A) → slice_get (changed s f xs) s ≡ option_map f (slice_get xs s)
changed_there zero f [] = refl
changed_there (suc s) f [] = refl
changed_there zero f (x ∷ xs) = refl
changed_there (suc s) f (x ∷ xs) = changed_there s f xs

pub changed_elsewhere : {A : Type 0} (p s : ℕ) (f : A → A) (xs : List A) → (p ≡ s → ⊥) → slice_get (changed p f xs) s ≡ slice_get xs s
changed_elsewhere p s f [] other = refl
changed_elsewhere zero zero f (x ∷ xs) other = absurd (other refl)
changed_elsewhere zero (suc s) f (x ∷ xs) other = refl
changed_elsewhere (suc p) zero f (x ∷ xs) other = refl
changed_elsewhere (suc p) (suc s) f (x ∷ xs) other = changed_elsewhere p s f xs (λ e. other (ap suc e))

pub changed_length : {A : Type 0} (p : ℕ) (f : A → A) (xs : List A) → length (changed p f xs) ≡ length xs
changed_length p f [] = refl
changed_length zero f (x ∷ xs) = refl
changed_length (suc p) f (x ∷ xs) = ap suc (changed_length p f xs)

pub before_change : {A : Type 0} (f : A → A) (o : Option A) (y : A) → option_map f o ≡ Some y → (x : A) × (o ≡ Some x) × (y ≡ f x)
before_change f None y is = cc
before_change f (Some x) y is = (x, refl, cc)

pub nil_right : {A : Type 0} (xs ys : List A) → xs ++ ys ≡ [] → ys ≡ []
nil_right [] ys is = is
nil_right (x ∷ xs) ys is = cc

-- settling

-- what is known of a source of which nothing is settled
settled_other : (terms : Terms) (q : Question) (rest : List Question) (s : ℕ) (story : Story) (t : Track) → own_chunk s q ≡ [] → own_check s q ≡ [] →
    IsTracked terms (q ∷ rest) s story t → IsTracked terms rest s story t
settled_other terms q rest s story (Arriving known) no_chunk no_check is = (
  record { on = is.0.on; all = subst (λ bs. known.parts ++ map reading_of (bs ++ chunks_asked s rest) ≡ map reading_of story.chunks) no_chunk is.0.all },
  subst (λ cs. cs ++ checks_asked s rest ≡ []) no_check is.1,
  is.2,
)
settled_other terms q rest s story (Arrived bytes ending chunks known) no_chunk no_check is = (
  record { on = is.0.on; all = subst (λ bs. known.parts ++ map reading_of (bs ++ chunks_asked s rest) ≡ map reading_of story.chunks) no_chunk is.0.all },
  subst (λ cs. cs ++ checks_asked s rest ≡ []) no_check is.1,
  is.2,
)
settled_other terms q rest s story (Checking bytes ending begun) no_chunk no_check is = (
  subst (λ cs. All (λ a. a ≡ record { parts = map reading_of story.chunks; terms = to_the_end terms }) (cs ++ checks_asked s rest)) no_check is.0,
  is.1,
  is.2,
)
settled_other terms q rest s story (Found g) no_chunk no_check is = is

-- the chunk that is settled goes from those that are asked about to those that are read
part_settled : (terms : Terms) (story : Story) (rest : List Question) (s trace number most : ℕ) (certain : Bool) (bytes : List ℕ) (known : Known)
    (r : Reading) → trace ≡ s → r ≡ reading_of bytes →
    AreSettled terms story (Parse trace number bytes ∷ rest) s known → AreSettled terms story rest s (with_next most certain known r)
part_settled terms story rest s trace number most certain bytes known r same is before = record {
  on = before.on;
  all = append_assoc known.parts (r ∷ []) (map reading_of (chunks_asked s rest))
      ∙ (ap (λ x. known.parts ++ (x ∷ map reading_of (chunks_asked s rest))) is
      ∙ (sym (ap (λ bs. known.parts ++ map reading_of (bs ++ chunks_asked s rest)) (own_chunk-same s trace number bytes same)) ∙ before.all));
}

-- what is found of the chunks that were asked about is found of all
enough_found : (terms : Terms) (asked all : List (List ℕ)) (f : Finding) → AreEnough terms asked all →
    IsTraceFinding (map reading_of asked) terms f → IsTraceFinding (map reading_of all) terms f
enough_found terms asked all f (inl same) is = subst (λ bs. IsTraceFinding (map reading_of bs) terms f) same is
enough_found terms asked all f (inr alike) is =
    let joined : (chunks rest : List (List ℕ)) → chunks ≡ alike.front ++ rest → map reading_of chunks ≡ map reading_of alike.front ++ map reading_of rest =
    λ chunks rest are. ap (map reading_of) are ∙ map-append reading_of alike.front rest in
    let first = (alike.decided.decisive alike.rest f).0 (subst (λ rs. IsTraceFinding rs terms f) (joined asked alike.rest alike.asked_are) is) in
    subst (λ rs. IsTraceFinding rs terms f) (sym (joined all alike.others alike.all_are)) ((alike.decided.decisive alike.others f).1 first)

-- one more chunk is asked about, or none
pub enough_asked : (terms : Terms) (asked all more : List (List ℕ)) → AreEnough terms asked all → AreEnough terms (asked ++ more) (all ++ more)
enough_asked terms asked all more (inl same) = inl (ap (λ bs. bs ++ more) same)
enough_asked terms asked all more (inr alike) = inr (record {
  front = alike.front;
  rest = alike.rest ++ more;
  others = alike.others ++ more;
  asked_are = ap (λ bs. bs ++ more) alike.asked_are ∙ append_assoc alike.front alike.rest more;
  all_are = ap (λ bs. bs ++ more) alike.all_are ∙ append_assoc alike.front alike.others more;
  decided = alike.decided;
})

-- more chunks are dropped
pub alike_dropped : (terms : Terms) (asked all more : List (List ℕ)) → BeginAlike terms asked all → BeginAlike terms asked (all ++ more)
alike_dropped terms asked all more alike = record {
  front = alike.front;
  rest = alike.rest;
  others = alike.others ++ more;
  asked_are = alike.asked_are;
  all_are = ap (λ bs. bs ++ more) alike.all_are ∙ append_assoc alike.front alike.others more;
  decided = alike.decided;
}

-- what was asked about begins as the chunks of whatever could follow
pub alike_with_more : (terms : Terms) (asked cut pieces : List (List ℕ)) (i : Taking) (more : List ℕ) → IsTaken i pieces cut → BeginAlike terms asked cut →
    BeginAlike terms asked (blocks_from nothing_yet (pieces ++ more ∷ []))
alike_with_more terms asked cut pieces i more taken alike =
    let all = chunks_with_more i pieces cut more taken in
    subst (λ bs. BeginAlike terms asked bs) all.1 (alike_dropped terms asked cut all.0 alike)

-- those that were asked about decide
pub begin_alike : (terms : Terms) (asked all : List (List ℕ)) → IsFinal terms (map reading_of asked) → AreEnough terms asked all → BeginAlike terms asked all
begin_alike terms asked all decided (inl same) = record {
  front = asked;
  rest = [];
  others = [];
  asked_are = sym (append-nil asked);
  all_are = sym same ∙ sym (append-nil asked);
  decided = decided;
}
begin_alike terms asked all decided (inr alike) = alike

-- what is found of enough chunks is found of the text that the pieces are
pub text_found : (terms : Terms) (asked pieces : List (List ℕ)) (f : Finding) → AreEnough terms asked (blocks_from nothing_yet pieces) →
    IsTraceFinding (map reading_of asked) terms f → IsTraceFinding (reading_of (concat pieces) ∷ []) terms f
text_found terms asked pieces f enough found =
    let all = blocks_from nothing_yet pieces in
    same_finding terms (map reading_of all) (reading_of (concat pieces) ∷ []) f (judged_alike pieces terms.rules) (enough_found terms asked all f enough found)

-- what is found of the chunks that were asked about is found of the source, as far as it came
source_found : (ending : Ending) (terms : Terms) (story : Story) (bytes chunks : ℕ) (f : Finding) → HasArrived terms story bytes ending chunks →
    IsTraceFinding (map reading_of story.chunks) terms f → IsFinding (concat story.pieces) ending terms f
source_found endings.Whole terms story bytes chunks f has found = text_found terms story.chunks story.pieces f has.enough found
source_found endings.Stopped terms story bytes chunks f has found = (
  has.enough.0,
  λ more. subst (λ bs. IsTraceFinding (reading_of bs ∷ []) terms f) (concat-more story.pieces more)
      (text_found terms story.chunks (story.pieces ++ more ∷ []) f (inr (has.enough.1 more)) found),
)
source_found endings.Broken terms story bytes chunks f has found = absurd has.enough
source_found endings.TooLarge terms story bytes chunks f has found = absurd has.enough

trace_found : (ending : Ending) (terms : Terms) (story : Story) (bytes : ℕ) (parts : List Reading) (asked : Terms) (f : Finding) →
    ◌≡◌ {A = Asked} (record { parts = parts; terms = asked }) (record { parts = map reading_of story.chunks; terms = to_the_end terms }) →
    HasArrived terms story bytes ending (length story.chunks) → ∥ IsTraceFinding parts asked f ∥₁ → ∥ IsFinding (concat story.pieces) ending terms f ∥₁
trace_found ending terms story bytes parts asked f same has known =
    let there : ∥ IsTraceFinding (map reading_of story.chunks) (to_the_end terms) f ∥₁ = subst (λ (a : Asked). ∥ IsTraceFinding a.parts a.terms f ∥₁) same known in
    ∥∥₁_elim there squash₁ (λ found. merely (source_found ending terms story bytes (length story.chunks) f has
    (found_as_far (map reading_of story.chunks) terms f found)))

-- what the chunks that were asked about say of the labels is so of the source, as far as it came
source_begun : (ending : Ending) (terms : Terms) (story : Story) (bytes chunks : ℕ) (begun : Option Begun) → HasArrived terms story bytes ending chunks →
    IsSaidOf terms (map reading_of story.chunks) ending begun → AreBegun terms (concat story.pieces) ending begun
source_begun endings.Whole terms story bytes chunks begun has said = begun_of_text terms story.chunks story.pieces begun has.enough said
source_begun endings.Stopped terms story bytes chunks begun has said = subst (λ o. AreBegun terms (concat story.pieces) endings.Stopped o) (sym said) (inr (inl refl))
source_begun endings.Broken terms story bytes chunks begun has said = absurd has.enough
source_begun endings.TooLarge terms story bytes chunks begun has said = absurd has.enough

-- what is known of the source whose trace was checked
settled_check : (terms : Terms) (trace : ℕ) (parts : List Reading) (limits : Limits) (labels : Listed) (end order explain : Bool) (rest : List Question)
    (s : ℕ) (story : Story) (t : Track) (f : Finding) →
    trace ≡ s → ∥ IsTraceFinding parts (on (ruled limits labels end) order explain) f ∥₁ →
    IsTracked terms (Check trace parts limits labels end order explain ∷ rest) s story t → IsTracked terms rest s story (with_finding t f)
settled_check terms trace parts limits labels end order explain rest s story (Arriving k) f same known is =
    (record { on = is.0.on; all = is.0.all }, nil_right (own_check s (Check trace parts limits labels end order explain)) (checks_asked s rest) is.1, is.2)
settled_check terms trace parts limits labels end order explain rest s story (Arrived n ending chunks k) f same known is =
    (record { on = is.0.on; all = is.0.all }, nil_right (own_check s (Check trace parts limits labels end order explain)) (checks_asked s rest) is.1, is.2)
settled_check terms trace parts limits labels end order explain rest s story (Checking n ending begun) f same known is =
    let all = subst (λ cs. All (λ a. a ≡ record { parts = map reading_of story.chunks; terms = to_the_end terms }) (cs ++ checks_asked s rest))
    (own_check-same s trace parts limits labels end order explain same) is.0 in
    let first = All-head (λ a. a ≡ record { parts = map reading_of story.chunks; terms = to_the_end terms })
    (record { parts = parts; terms = on (ruled limits labels end) order explain }) (checks_asked s rest) all in (
      is.1.ended,
      is.1.byte_count,
      trace_found ending terms story n parts (on (ruled limits labels end) order explain) f first is.1 known,
      source_begun ending terms story n (length story.chunks) begun is.1 is.2,
    )
settled_check terms trace parts limits labels end order explain rest s story (Found g) f same known is = is

-- what is known of the source of which a question is settled
settled_own : (terms : Terms) (q : Question) (rest : List Question) (s most : ℕ) (certain : Bool) (story : Story) (t : Track) (v : Value) → trace_of q ≡ s →
    IsValueOf q v →
    IsTracked terms (q ∷ rest) s story t → IsTracked terms rest s story (with_value most certain t v)
settled_own terms (Parse trace number bytes) rest s most certain story (Arriving k) (Parsed r) same known is =
    (part_settled terms story rest s trace number most certain bytes k r same (parsed_value trace number bytes r known) is.0, is.1, is.2)
settled_own terms (Parse trace number bytes) rest s most certain story (Arrived n ending chunks k) (Parsed r) same known is =
    (part_settled terms story rest s trace number most certain bytes k r same (parsed_value trace number bytes r known) is.0, is.1, is.2)
settled_own terms (Parse trace number bytes) rest s most certain story (Checking n ending begun) (Parsed r) same known is = is
settled_own terms (Parse trace number bytes) rest s most certain story (Found g) (Parsed r) same known is = is
settled_own terms (Parse trace number bytes) rest s most certain story t (Judged w) same known is = absurd (not_judged trace number bytes w known)
settled_own terms (Parse trace number bytes) rest s most certain story t (Ordered w steps) same known is = absurd (not_ordered trace number bytes w steps known)
settled_own terms (Parse trace number bytes) rest s most certain story t (Explained w steps) same known is =
    absurd (not_explained trace number bytes w steps known)
settled_own terms (Parse trace number bytes) rest s most certain story t (Opened w blocks) same known is =
    absurd (not_opened trace number bytes w blocks known)
settled_own terms (Check trace parts limits labels end order explain) rest s most certain story t (Parsed r) same known is =
    absurd (not_parsed trace parts limits labels end order explain r known)
settled_own terms (Check trace parts limits labels end order explain) rest s most certain story t (Judged w) same known is =
    settled_check terms trace parts limits labels end order explain rest s story t (findings.Judged w) same known is
settled_own terms (Check trace parts limits labels end order explain) rest s most certain story t (Ordered w steps) same known is =
    settled_check terms trace parts limits labels end order explain rest s story t (findings.Ordered w steps) same known is
settled_own terms (Check trace parts limits labels end order explain) rest s most certain story t (Explained w steps) same known is =
    settled_check terms trace parts limits labels end order explain rest s story t (findings.Explained w steps) same known is
settled_own terms (Check trace parts limits labels end order explain) rest s most certain story t (Opened w blocks) same known is =
    settled_check terms trace parts limits labels end order explain rest s story t (findings.Opened w blocks) same known is

pub value_goes : (terms : Terms) (tale : ℕ → Story) (q : Question) (rest : List Question) (v : Value) (most : ℕ) (certain : Bool) (tracks : List Track) →
    IsValueOf q v →
    AreTracked terms (q ∷ rest) tale tracks → AreTracked terms rest tale (changed (trace_of q) (λ x. with_value most certain x v) tracks)
value_goes terms tale q rest v most certain tracks known tracked s t at =
    elim (cases_eq (trace_of q) s) [
      | inl same ↦
          (let at_place = subst (λ p. slice_get (changed p (λ x. with_value most certain x v) tracks) s ≡ Some t) same at in
          let was = before_change (λ x. with_value most certain x v) (slice_get tracks s) t
          (sym (changed_there s (λ x. with_value most certain x v) tracks) ∙ at_place) in
          subst (λ x. IsTracked terms rest s (tale s) x) (sym was.2)
          (settled_own terms q rest s most certain (tale s) was.0 v same known (tracked s was.0 was.1)))
      | inr other ↦
          settled_other terms q rest s (tale s) t (own_chunk-other s q other) (own_check-other s q other)
          (tracked s t (sym (changed_elsewhere (trace_of q) s (λ x. with_value most certain x v) tracks other) ∙ at))
    ]

-- asking

pub asked_other : (terms : Terms) (qs : List Question) (q : Question) (s : ℕ) (story : Story) (t : Track) → (trace_of q ≡ s → ⊥) →
    IsTracked terms qs s story t → IsTracked terms (qs ++ q ∷ []) s story t
asked_other terms qs q s story t other is = go t is
  where
    chunks : chunks_asked s (qs ++ q ∷ []) ≡ chunks_asked s qs
    chunks = chunks_asked-more s qs q ∙ (ap (λ bs. chunks_asked s qs ++ bs) (own_chunk-other s q other) ∙ append-nil (chunks_asked s qs))

    checks : checks_asked s (qs ++ q ∷ []) ≡ checks_asked s qs
    checks = checks_asked-more s qs q ∙ (ap (λ cs. checks_asked s qs ++ cs) (own_check-other s q other) ∙ append-nil (checks_asked s qs))

    settled : (known : Known) → AreSettled terms story qs s known → AreSettled terms story (qs ++ q ∷ []) s known
    settled known is = record { on = is.on; all = subst (λ bs. known.parts ++ map reading_of bs ≡ map reading_of story.chunks) (sym chunks) is.all }

    go : (t : Track) → IsTracked terms qs s story t → IsTracked terms (qs ++ q ∷ []) s story t
    go (Arriving known) is = (settled known is.0, checks ∙ is.1, is.2)
    go (Arrived n ending k known) is = (settled known is.0, checks ∙ is.1, is.2)
    go (Checking n ending begun) is = (
      subst (λ cs. All (λ a. a ≡ record { parts = map reading_of story.chunks; terms = to_the_end terms }) cs) (sym checks) is.0,
      is.1,
      is.2,
    )
    go (Found g) is = is

-- one more chunk of a source that hasn't ended is asked about
pub asked_chunk : (terms : Terms) (qs : List Question) (s number : ℕ) (block : List ℕ) (story : Story) (pieces : List (List ℕ)) (known : Known) →
    IsTracked terms qs s story (Arriving known) →
    IsTracked terms (qs ++ Parse s number block ∷ []) s (record { pieces = pieces; chunks = story.chunks ++ block ∷ []; ending = None }) (Arriving known)
asked_chunk terms qs s number block story pieces known is = (
  record {
    on = is.0.on;
    all = ap (λ bs. known.parts ++ map reading_of bs)
        (chunks_asked-more s qs (Parse s number block) ∙ ap (λ bs. chunks_asked s qs ++ bs) (own_chunk-same s s number block refl))
        ∙ (ap (λ rs. known.parts ++ rs) (map-append reading_of (chunks_asked s qs) (block ∷ []))
        ∙ (sym (append_assoc known.parts (map reading_of (chunks_asked s qs)) (reading_of block ∷ []))
        ∙ (ap (λ rs. rs ++ reading_of block ∷ []) is.0.all
        ∙ sym (map-append reading_of story.chunks (block ∷ [])))));
  },
  checks_asked-more s qs (Parse s number block) ∙ (append-nil (checks_asked s qs) ∙ is.1),
  refl,
)

-- what is settled of the chunks that were asked about is final, and so are all of them
pub settled_decide : (terms : Terms) (qs : List Question) (s : ℕ) (story : Story) (known : Known) → AreSettled terms story qs s known →
    IsFinal known.terms known.parts →
    IsFinal terms (map reading_of story.chunks)
settled_decide terms qs s story known are is =
    let here : IsFinal terms known.parts = subst (λ (t : Terms). IsFinal t known.parts) are.on is in
    subst (IsFinal terms) are.all (more_final terms known.parts (chunks_asked s qs) here)

no_chunks_left : (readings rs : List Reading) (chunks : List (List ℕ)) (bs : List (List ℕ)) → readings ++ map reading_of bs ≡ map reading_of chunks →
    length readings ≡ length chunks →
    readings ≡ map reading_of chunks
no_chunks_left readings rs chunks [] is same = sym (append-nil readings) ∙ is
no_chunks_left readings rs chunks (b ∷ bs) is same =
    let lengths : length (readings ++ reading_of b ∷ map reading_of bs) ≡ length (map reading_of chunks) = ap length is in
    absurd (omega (arith, lengths, same, length-append readings (reading_of b ∷ map reading_of bs), length-map chunks reading_of))

-- what the parts say of the labels, the chunks that were asked about say
said_of_all : (terms : Terms) (ending : Ending) (known : Known) (story : Story) (begun : Option Begun) → known.terms ≡ terms →
    known.parts ≡ map reading_of story.chunks →
    IsSaidOf known.terms known.parts ending begun → IsSaidOf terms (map reading_of story.chunks) ending begun
said_of_all terms ending known story begun on all said =
    subst (λ (t : Terms). IsSaidOf t (map reading_of story.chunks) ending begun) on
    (subst (λ rs. IsSaidOf known.terms rs ending begun) all said)

-- the verdict on a whole source is asked for once all its chunks are read
pub asked_check : (terms : Terms) (qs : List Question) (s bytes : ℕ) (ending : Ending) (chunks : ℕ) (story : Story) (known : Known) (begun : Option Begun) →
    length known.parts ≡ chunks → IsSaidOf known.terms known.parts ending begun →
    IsTracked terms qs s story (Arrived bytes ending chunks known) →
    IsTracked terms (qs ++ Check s known.parts terms.rules.limits terms.rules.labels terms.rules.end terms.order terms.explain ∷ []) s story (Checking bytes ending begun)
asked_check terms qs s bytes ending chunks story known begun ready said is =
    let readings = known.parts in
    let all_read = no_chunks_left readings [] story.chunks (chunks_asked s qs) is.0.all (ready ∙ is.2.chunk_count) in
    let one : checks_asked s (qs ++ Check s readings terms.rules.limits terms.rules.labels terms.rules.end terms.order terms.explain ∷ []) ≡
    record { parts = readings; terms = to_the_end terms } ∷ [] =
    checks_asked-more s qs (Check s readings terms.rules.limits terms.rules.labels terms.rules.end terms.order terms.explain)
    ∙ ap₂ (λ xs ys. xs ++ ys) is.1 (own_check-same s s readings terms.rules.limits terms.rules.labels terms.rules.end terms.order terms.explain refl) in (
      subst (λ cs. All (λ a. a ≡ record { parts = map reading_of story.chunks; terms = to_the_end terms }) cs) (sym one)
          (All-cons (λ a. a ≡ record { parts = map reading_of story.chunks; terms = to_the_end terms }) (record { parts = readings; terms = to_the_end terms }) []
          (ap (λ rs. record { parts = rs; terms = to_the_end terms }) all_read) (All-nil (λ a. a ≡ record { parts = map reading_of story.chunks; terms = to_the_end terms }))),
      record { ended = is.2.ended; enough = is.2.enough; byte_count = is.2.byte_count; chunk_count = refl },
      said_of_all terms ending known story begun is.0.on all_read said,
    )

-- it is known what is found of a whole source once all its chunks are read
pub found_here : (terms : Terms) (qs : List Question) (s bytes : ℕ) (ending : Ending) (chunks : ℕ) (story : Story) (known : Known) (f : Finding) (begun : Option Begun) →
    length known.parts ≡ chunks → IsSaidOf known.terms known.parts ending begun →
    IsTraceFinding known.parts known.terms f → IsTracked terms qs s story (Arrived bytes ending chunks known) →
    IsTracked terms qs s story (Found (record { bytes = bytes; ending = ending; finding = f; begun = begun }))
found_here terms qs s bytes ending chunks story known f begun ready said found is =
    let all_read = no_chunks_left known.parts [] story.chunks (chunks_asked s qs) is.0.all (ready ∙ is.2.chunk_count) in
    let has : HasArrived terms story bytes ending (length story.chunks) =
    record { ended = is.2.ended; enough = is.2.enough; byte_count = is.2.byte_count; chunk_count = refl } in
    let same : ◌≡◌ {A = Asked} (record { parts = known.parts; terms = to_the_end known.terms })
    (record { parts = map reading_of story.chunks; terms = to_the_end terms }) =
    ap₂ (λ rs (t : Terms). record { parts = rs; terms = to_the_end t }) all_read is.0.on in (
      is.2.ended,
      is.2.byte_count,
      trace_found ending terms story bytes known.parts (to_the_end known.terms) f same has
          (merely (found_to_the_end known.parts known.terms f found)),
      source_begun ending terms story bytes (length story.chunks) begun has (said_of_all terms ending known story begun is.0.on all_read said),
    )

-- a list with an element written at a place

pub set_changed : {A : Type 0} (xs : List A) (i : ℕ) (x y : A) (f : A → A) → slice_get xs i ≡ Some x → y ≡ f x → slice_set xs i y ≡ changed i f xs
set_changed [] i x y f at is = refl
set_changed (c ∷ xs) zero x y f at is =
    let same : c ≡ x = cc at in
    ap (λ z. z ∷ xs) (is ∙ ap f (sym same))
set_changed (c ∷ xs) (suc i) x y f at is = ap (λ zs. c ∷ zs) (set_changed xs i x y f at is)

pub changed_past : {A : Type 0} (xs : List A) (i : ℕ) (f : A → A) → length xs ≤ i → changed i f xs ≡ xs
changed_past [] i f past = refl
changed_past (c ∷ xs) zero f past = absurd (omega (arith, past))
changed_past (c ∷ xs) (suc i) f past = ap (λ zs. c ∷ zs) (changed_past xs i f (omega (arith, past)))
