-- A step keeps what holds of the sources: settling, and asking for a verdict.
use Rattle.std.proofs.Common.{◌≡◌, ℕ, ◌<◌, eqb, cond, append_assoc, List, [], ◌∷◌, ◌++◌, map, length, slice_get, Option, Some, None, refl, sym, ◌∙◌, ap}
use Rattle.std.proofs.Common.{subst, inl, inr}
use Rattle.std.specs.Prelude.{option_to_list}
use Rattle.std.specs.List.{concat}
use Rattle.std.proofs.lemmas.Bool.{cases_eq, eq-eqb, ne_eqb}
use Rattle.std.proofs.lemmas.List.{append-nil}
use Rattle.aero_grammar.specs.Reading.{Reading, reading_of}
use Rattle.aero_pieces.specs.declared.question.Question.{Question}
use Rattle.aero_pieces.specs.declared.question.Question.TheVariants.{Parse, Check}
use Rattle.aero_batch.specs.declared.underway.Underway.{Underway}
use Rattle.aero_intake.specs.declared.track.Track.{Track}
use Rattle.aero_intake.specs.declared.track.Track.TheVariants.{Arriving, Arrived, Checking, Found}
use Rattle.aero_telling.specs.Founds.{Sighted}
use Rattle.aero_batch.specs.Holding.{Holds, HasComeFrom}
use Rattle.aero_batch.specs.declared.kind.Kind.{Kind}
use Rattle.aero_batch.specs.declared.kind.Kind.TheVariants as kinds
use Rattle.aero_batch.specs.Inquiries.{Inquired, AreApart, all_open, open_of, with_open}
use Rattle.aero_intake.specs.Held.{Known}
use Rattle.aero_intake.specs.Intake.{Taking, IsTaken}
use Rattle.aero_batch.specs.Steps.{ChecksNext, SettlesNext, Settles, with_chunk, with_check}
use Rattle.aero_intake.specs.Stories.{Story, AreEnough, BeginAlike, IsSettledWith, IsTracked, AreTracked, chunks_asked, checks_asked, own_chunk, own_check}
use Rattle.aero_intake.specs.Stories.{changed}
use Rattle.aero_intake.specs.Tracks.{IsReady, GivesParts}
use Rattle.aero_batch.proofs.Apart.{chunk_first, check_before_chunks, check_apart}
use Rattle.aero_intake.proofs.Tracked.{changed_there, changed_elsewhere, before_change, value_goes, nil_right, asked_other, asked_chunk, asked_check}
use Rattle.aero_intake.proofs.Tracked.{found_here}
use Rattle.aero_model.specs.Terms.{Terms}

-- the stories with another one for the source at the place
abbrev pub retold : (ℕ → Story) → ℕ → Story → ℕ → Story
retold tale place story s = cond (eqb place s) story (tale s)

pub retold_there : (tale : ℕ → Story) (place : ℕ) (story : Story) → retold tale place story place ≡ story
retold_there tale place story = ap (λ b. cond b story (tale place)) (eq-eqb place place refl)

pub retold_same : (tale : ℕ → Story) (place s : ℕ) (story : Story) → place ≡ s → retold tale place story s ≡ story
retold_same tale place s story same = ap (λ b. cond b story (tale s)) (eq-eqb place s same)

pub retold_elsewhere : (tale : ℕ → Story) (place s : ℕ) (story : Story) → (place ≡ s → ⊥) → retold tale place story s ≡ tale s
retold_elsewhere tale place s story other = ap (λ b. cond b story (tale s)) (ne_eqb place s other)

-- a step that reads nothing keeps what holds of the reading
pub without_reading : (terms : Terms) (old now : List Sighted) (p q : Underway) (tale : ℕ → Story) → q.read ≡ p.read → q.intake ≡ p.intake →
    q.chunks ≡ p.chunks → q.ended ≡ p.ended →
    AreApart q.inquiry → AreTracked terms (all_open q.inquiry) tale q.tracks.items → Holds terms old now p tale → Holds terms old now q tale
without_reading terms old now p q tale read intake chunks ended apart tracked holds = record {
  apart = apart;
  tracked = tracked;
  ended = λ s below. holds.ended s (subst (λ r. s < r) read below);
  cut = holds.cut;
  taken = subst (λ r. IsTaken q.intake (tale r).pieces holds.cut) (sym read)
      (subst (λ (i : Taking). IsTaken i (tale p.read).pieces holds.cut) (sym intake) holds.taken);
  enough = subst (λ r. AreEnough terms (tale r).chunks holds.cut) (sym read) holds.enough;
  passed = λ is_passed. subst (λ r. BeginAlike terms (tale r).chunks holds.cut) (sym read)
      (holds.passed (ap (λ (i : Taking). i.passed) (sym intake) ∙ is_passed));
  stopped = λ e. ((holds.stopped (sym ended ∙ e)).0, ap (λ (i : Taking). i.passed) intake ∙ (holds.stopped (sym ended ∙ e)).1);
  come = subst (λ e. HasComeFrom terms old now q.read (concat (tale q.read).pieces ++ q.intake.held) e) (sym ended)
      (subst (λ (i : Taking). HasComeFrom terms old now q.read (concat (tale q.read).pieces ++ i.held) p.ended) (sym intake)
      (subst (λ r. HasComeFrom terms old now r (concat (tale r).pieces ++ p.intake.held) p.ended) (sym read) holds.come));
  asked = chunks ∙ (holds.asked ∙ ap (λ r. length (tale r).chunks) (sym read));
  not_ended = ap (λ r. (tale r).ending) read ∙ holds.not_ended;
  later = λ s above. holds.later s (subst (λ r. r < s) read above);
}

-- Settling the first question of all keeps what is known of each source.
settled_tracked : (terms : Terms) (tale : ℕ → Story) (q : Question) (rest : List Question) (old_tracks new_tracks : List Track) →
    IsSettledWith q old_tracks new_tracks → AreTracked terms (q ∷ rest) tale old_tracks → AreTracked terms rest tale new_tracks
settled_tracked terms tale q rest old_tracks new_tracks is tracked s t at =
    value_goes terms tale q rest is.value is.most is.certain old_tracks is.known tracked s t (subst (λ ts. slice_get ts s ≡ Some t) is.tracks at)

-- what is left open once the oldest question of a kind is settled
record LeavesOpen (terms : Terms) (tale : ℕ → Story) (new : Inquired) (new_tracks : List Track) : Type 0 where
  pub apart : AreApart new
  pub tracked : AreTracked terms (all_open new) tale new_tracks

leaves_open : (terms : Terms) (tale : ℕ → Story) (i new : Inquired) (old_tracks new_tracks : List Track) → new ≡ i → new_tracks ≡ old_tracks → AreApart i →
    AreTracked terms (all_open i) tale old_tracks →
    LeavesOpen terms tale new new_tracks
leaves_open terms tale i new old_tracks new_tracks is same apart tracked = record {
  apart = subst AreApart (sym is) apart;
  tracked = subst (λ (j : Inquired). AreTracked terms (all_open j) tale new_tracks) (sym is)
      (subst (λ ts. AreTracked terms (all_open i) tale ts) (sym same) tracked);
}

chunk_settled : (terms : Terms) (tale : ℕ → Story) (i new : Inquired) (qs : List Question) (old_tracks new_tracks : List Track) → i.chunks ≡ qs →
    Settles qs (with_open kinds.Parse i) new old_tracks new_tracks →
    AreApart i → AreTracked terms (all_open i) tale old_tracks → LeavesOpen terms tale new new_tracks
chunk_settled terms tale i new [] old_tracks new_tracks are is apart tracked =
    leaves_open terms tale i new old_tracks new_tracks (is.0 ∙ ap (with_open kinds.Parse i) (sym are)) is.1 apart tracked
chunk_settled terms tale i new (q ∷ rest) old_tracks new_tracks are is apart tracked =
    let no_checks : (s : ℕ) → checks_asked s (q ∷ rest) ≡ [] = λ s. ap (checks_asked s) (sym are) ∙ apart.no_checks s in
    let first = chunk_first terms i.verdicts rest q tale old_tracks no_checks apart.no_chunks
    (subst (λ qs. AreTracked terms (i.verdicts ++ qs) tale old_tracks) are tracked) in
    leaves_open terms tale (with_open kinds.Parse i rest) new new_tracks new_tracks is.0 refl
    (record { no_checks = λ s. nil_right (own_check s q) (checks_asked s rest) (no_checks s); no_chunks = apart.no_chunks })
    (settled_tracked terms tale q (i.verdicts ++ rest) old_tracks new_tracks is.1 first)

verdict_settled : (terms : Terms) (tale : ℕ → Story) (i new : Inquired) (qs : List Question) (old_tracks new_tracks : List Track) → i.verdicts ≡ qs →
    Settles qs (with_open kinds.Check i) new old_tracks new_tracks →
    AreApart i → AreTracked terms (all_open i) tale old_tracks → LeavesOpen terms tale new new_tracks
verdict_settled terms tale i new [] old_tracks new_tracks are is apart tracked =
    leaves_open terms tale i new old_tracks new_tracks (is.0 ∙ ap (with_open kinds.Check i) (sym are)) is.1 apart tracked
verdict_settled terms tale i new (q ∷ rest) old_tracks new_tracks are is apart tracked =
    let no_chunks : (s : ℕ) → chunks_asked s (q ∷ rest) ≡ [] = λ s. ap (chunks_asked s) (sym are) ∙ apart.no_chunks s in
    leaves_open terms tale (with_open kinds.Check i rest) new new_tracks new_tracks is.0 refl
    (record { no_checks = apart.no_checks; no_chunks = λ s. nil_right (own_chunk s q) (chunks_asked s rest) (no_chunks s) })
    (settled_tracked terms tale q (rest ++ i.chunks) old_tracks new_tracks is.1 (subst (λ qs. AreTracked terms (qs ++ i.chunks) tale old_tracks) are tracked))

settled_open : (terms : Terms) (tale : ℕ → Story) (kind : Kind) (i new : Inquired) (old_tracks new_tracks : List Track) →
    Settles (open_of kind i) (with_open kind i) new old_tracks new_tracks →
    AreApart i → AreTracked terms (all_open i) tale old_tracks → LeavesOpen terms tale new new_tracks
settled_open terms tale kinds.Parse i new old_tracks new_tracks = chunk_settled terms tale i new i.chunks old_tracks new_tracks refl
settled_open terms tale kinds.Check i new old_tracks new_tracks = verdict_settled terms tale i new i.verdicts old_tracks new_tracks refl

pub settling_holds : (terms : Terms) (old now : List Sighted) (kind : Kind) (p q : Underway) (tale : ℕ → Story) → SettlesNext kind p q →
    Holds terms old now p tale → Holds terms old now q tale
settling_holds terms old now kind p q tale is holds =
    let left = settled_open terms tale kind p.inquiry q.inquiry p.tracks.items q.tracks.items is.settles holds.apart holds.tracked in
    without_reading terms old now p q tale is.read is.intake is.chunks is.ended left.apart left.tracked holds

-- the track at the place of what is known, once another stands there
known_after : (terms : Terms) (qs more : List Question) (tale : ℕ → Story) (tracks : List Track) (place : ℕ) (before after : Track) →
    slice_get tracks place ≡ Some before →
    IsTracked terms more place (tale place) after →
    ((s : ℕ) (t : Track) → (place ≡ s → ⊥) → IsTracked terms qs s (tale s) t → IsTracked terms more s (tale s) t) →
    AreTracked terms qs tale tracks → AreTracked terms more tale (changed place (λ t. after) tracks)
known_after terms qs more tale tracks place before after was there elsewhere tracked s t at =
    elim (cases_eq place s) [
      | inl same ↦
          (let at_place : slice_get (changed place (λ x. after) tracks) place ≡
          Some t = subst (λ n. slice_get (changed place (λ x. after) tracks) n ≡ Some t) (sym same) at in
          let is = before_change (λ x. after) (slice_get tracks place) t (sym (changed_there place (λ x. after) tracks) ∙ at_place) in
          subst (λ n. IsTracked terms more n (tale n) t) same (subst (λ x. IsTracked terms more place (tale place) x) (sym is.2) there))
      | inr other ↦
          elsewhere s t other (tracked s t (sym (changed_elsewhere place s (λ x. after) tracks other) ∙ at))
    ]

-- the open questions with one more for a verdict, if it is asked for, behind all
abbrev checked_on : Terms → Inquired → ℕ → Option (List Reading) → List Question
checked_on terms i place None = all_open i
checked_on terms i place (Some rs) = all_open i ++ Check place rs terms.rules.limits terms.rules.labels terms.rules.end terms.order terms.explain ∷ []

check_asked : (terms : Terms) (i : Inquired) (tale : ℕ → Story) (tracks : List Track) (place : ℕ) (before after : Track) (parts : Option (List Reading)) →
    slice_get tracks place ≡ Some before → IsReady before → GivesParts before after parts → AreTracked terms (all_open i) tale tracks →
    AreTracked terms (checked_on terms i place parts) tale (changed place (λ t. after) tracks)
check_asked terms i tale tracks place (Arriving known) after parts was ready gives tracked = absurd ready
check_asked terms i tale tracks place (Checking bytes ending begun) after parts was ready gives tracked = absurd ready
check_asked terms i tale tracks place (Arrived bytes ending chunks known) after parts was ready (begun, said, inl gives) tracked =
    let question = Check place known.parts terms.rules.limits terms.rules.labels terms.rules.end terms.order terms.explain in
    subst (λ o. AreTracked terms (checked_on terms i place o) tale (changed place (λ t. after) tracks)) (sym gives.0)
    (known_after terms (all_open i) (all_open i ++ question ∷ []) tale tracks place (Arrived bytes ending chunks known) after was
    (subst (λ x. IsTracked terms (all_open i ++ question ∷ []) place (tale place) x) (sym gives.1)
    (asked_check terms (all_open i) place bytes ending chunks (tale place) known begun ready said (tracked place (Arrived bytes ending chunks known) was)))
    (λ s t other. asked_other terms (all_open i) question s (tale s) t other) tracked)
check_asked terms i tale tracks place (Arrived bytes ending chunks known) after parts was ready (begun, said, inr gives) tracked =
    subst (λ o. AreTracked terms (checked_on terms i place o) tale (changed place (λ t. after) tracks)) (sym gives.0)
    (known_after terms (all_open i) (all_open i) tale tracks place (Arrived bytes ending chunks known) after was
    (subst (λ x. IsTracked terms (all_open i) place (tale place) x) (sym gives.3)
    (found_here terms (all_open i) place bytes ending chunks (tale place) known gives.1 begun ready said gives.2 (tracked place (Arrived bytes ending chunks known) was)))
    (λ s t other is. is) tracked)
check_asked terms i tale tracks place (Found g) after parts was ready gives tracked =
    subst (λ o. AreTracked terms (checked_on terms i place o) tale (changed place (λ t. after) tracks)) (sym gives.0)
    (known_after terms (all_open i) (all_open i) tale tracks place (Found g) after was
    (subst (λ x. IsTracked terms (all_open i) place (tale place) x) (sym gives.1) (tracked place (Found g) was))
    (λ s t other is. is) tracked)

-- the same, with the question where it stands
check_tracked : (terms : Terms) (i : Inquired) (tale : ℕ → Story) (tracks : List Track) (place : ℕ) (parts : Option (List Reading)) → AreApart i →
    AreTracked terms (checked_on terms i place parts) tale tracks → AreTracked terms (all_open (with_check terms i place parts)) tale tracks
check_tracked terms i tale tracks place None apart tracked = tracked
check_tracked terms i tale tracks place (Some rs) apart tracked =
    check_before_chunks terms i.verdicts i.chunks (Check place rs terms.rules.limits terms.rules.labels terms.rules.end terms.order terms.explain) tale tracks apart.no_checks
    (λ s. refl) tracked

pub checking_holds : (terms : Terms) (old now : List Sighted) (p q : Underway) (tale : ℕ → Story) → ChecksNext terms p q → Holds terms old now p tale →
    Holds terms old now q tale
checking_holds terms old now p q tale is holds =
    let asked = check_asked terms p.inquiry tale p.tracks.items p.checked is.before is.after is.parts is.was is.ready is.gives holds.tracked in
    let tracked = check_tracked terms p.inquiry tale (changed p.checked (λ t. is.after) p.tracks.items) p.checked is.parts holds.apart asked in
    without_reading terms old now p q tale is.read is.intake is.chunks is.ended
    (subst AreApart (sym is.inquiry) (check_apart terms p.inquiry p.checked is.parts holds.apart))
    (subst (λ (i : Inquired). AreTracked terms (all_open i) tale q.tracks.items) (sym is.inquiry)
    (subst (λ ts. AreTracked terms (all_open (with_check terms p.inquiry p.checked is.parts)) tale ts) (sym is.tracks) tracked)) holds

-- a source that hasn't ended is still arriving
pub still_arriving : (terms : Terms) (qs : List Question) (s : ℕ) (story : Story) (t : Track) → story.ending ≡ None → IsTracked terms qs s story t →
    (known : Known) × (t ≡ Arriving known)
still_arriving terms qs s story (Arriving known) none is = (known, refl)
still_arriving terms qs s story (Arrived bytes ending chunks known) none is = absurd (clash none is.2.ended)
  where
    clash : {A : Type 0} {o : Option A} {x : A} → o ≡ None → o ≡ Some x → ⊥
    clash p q = cc (p, q)
still_arriving terms qs s story (Checking bytes ending begun) none is = absurd (clash none is.1.ended)
  where
    clash : {A : Type 0} {o : Option A} {x : A} → o ≡ None → o ≡ Some x → ⊥
    clash p q = cc (p, q)
still_arriving terms qs s story (Found g) none is = absurd (clash none is.0)
  where
    clash : {A : Type 0} {o : Option A} {x : A} → o ≡ None → o ≡ Some x → ⊥
    clash p q = cc (p, q)

-- the story with a chunk more, if there is one
abbrev pub with_pieces : Story → List (List ℕ) → Option (List ℕ) → Story
with_pieces story pieces o = record { pieces = pieces; chunks = story.chunks ++ option_to_list o; ending = None }

-- the open questions with one more on a chunk, if there is one, behind all
abbrev asked_on : Underway → Option (List ℕ) → List Question
asked_on p None = all_open p.inquiry
asked_on p (Some b) = all_open p.inquiry ++ Parse p.read p.chunks b ∷ []

-- asking about the next chunk, if there is one, keeps what is known of the sources
chunk_asked : (terms : Terms) (p : Underway) (tale : ℕ → Story) (pieces : List (List ℕ)) (o : Option (List ℕ)) → (tale p.read).ending ≡ None →
    AreTracked terms (all_open p.inquiry) tale p.tracks.items →
    AreTracked terms (asked_on p o) (retold tale p.read (with_pieces (tale p.read) pieces o)) p.tracks.items
chunk_asked terms p tale pieces None none tracked s t at =
    elim (cases_eq p.read s) [
      | inl same ↦
          (let at_place = subst (λ n. slice_get p.tracks.items n ≡ Some t) (sym same) at in
          let is = tracked p.read t at_place in
          let arriving = still_arriving terms (all_open p.inquiry) p.read (tale p.read) t none is in
          let is_there = subst (λ x. IsTracked terms (all_open p.inquiry) p.read (tale p.read) x) arriving.1 is in
          let new : IsTracked terms (all_open p.inquiry) p.read (with_pieces (tale p.read) pieces None) (Arriving arriving.0) =
          (record { on = is_there.0.on; all = is_there.0.all ∙ sym (ap (λ bs. map reading_of bs) (append-nil (tale p.read).chunks)) }, is_there.1, refl) in
          subst (λ x. IsTracked terms (all_open p.inquiry) s x t) (sym (retold_same tale p.read s (with_pieces (tale p.read) pieces None) same))
          (subst (λ n. IsTracked terms (all_open p.inquiry) n (with_pieces (tale p.read) pieces None) t) same
          (subst (λ x. IsTracked terms (all_open p.inquiry) p.read (with_pieces (tale p.read) pieces None) x) (sym arriving.1) new)))
      | inr other ↦
          subst (λ x. IsTracked terms (all_open p.inquiry) s x t) (sym (retold_elsewhere tale p.read s (with_pieces (tale p.read) pieces None) other))
          (tracked s t at)
    ]
chunk_asked terms p tale pieces (Some b) none tracked s t at =
    elim (cases_eq p.read s) [
      | inl same ↦
          (let at_place = subst (λ n. slice_get p.tracks.items n ≡ Some t) (sym same) at in
          let is = tracked p.read t at_place in
          let arriving = still_arriving terms (all_open p.inquiry) p.read (tale p.read) t none is in
          let is_there = subst (λ x. IsTracked terms (all_open p.inquiry) p.read (tale p.read) x) arriving.1 is in
          let new = asked_chunk terms (all_open p.inquiry) p.read p.chunks b (tale p.read) pieces arriving.0 is_there in
          subst (λ x. IsTracked terms (all_open p.inquiry ++ Parse p.read p.chunks b ∷ []) s x t)
          (sym (retold_same tale p.read s (with_pieces (tale p.read) pieces (Some b)) same))
          (subst (λ n. IsTracked terms (all_open p.inquiry ++ Parse p.read p.chunks b ∷ []) n (with_pieces (tale p.read) pieces (Some b)) t) same
          (subst (λ x. IsTracked terms (all_open p.inquiry ++ Parse p.read p.chunks b ∷ []) p.read (with_pieces (tale p.read) pieces (Some b)) x)
          (sym arriving.1) new)))
      | inr other ↦
          subst (λ x. IsTracked terms (all_open p.inquiry ++ Parse p.read p.chunks b ∷ []) s x t)
          (sym (retold_elsewhere tale p.read s (with_pieces (tale p.read) pieces (Some b)) other))
          (asked_other terms (all_open p.inquiry) (Parse p.read p.chunks b) s (tale s) t other (tracked s t at))
    ]

all_asked : (p : Underway) (o : Option (List ℕ)) → asked_on p o ≡ all_open (with_chunk p o).inquiry
all_asked p None = refl
all_asked p (Some b) = append_assoc p.inquiry.verdicts p.inquiry.chunks (Parse p.read p.chunks b ∷ [])

pub chunk_tracked : (terms : Terms) (p : Underway) (tale : ℕ → Story) (pieces : List (List ℕ)) (o : Option (List ℕ)) → (tale p.read).ending ≡ None →
    AreTracked terms (all_open p.inquiry) tale p.tracks.items →
    AreTracked terms (all_open (with_chunk p o).inquiry) (retold tale p.read (with_pieces (tale p.read) pieces o)) p.tracks.items
chunk_tracked terms p tale pieces o none tracked =
    subst (λ qs. AreTracked terms qs (retold tale p.read (with_pieces (tale p.read) pieces o)) p.tracks.items) (all_asked p o)
    (chunk_asked terms p tale pieces o none tracked)
