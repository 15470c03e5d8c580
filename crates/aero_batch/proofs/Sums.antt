-- The numbers of a run stay within their bounds.
use Rattle.std.proofs.Common.{◌≡◌, ℕ, suc, ◌+◌, ◌<◌, ◌≤◌, List, [], ◌∷◌, length, Option, Some, None, refl, sym, ◌∙◌, ap, subst, arith}
use Rattle.std.proofs.lemmas.List.{length_push, length-append}
use Rattle.aero_model.specs.declared.verdict.Ending.{Ending}
use Rattle.aero_intake.specs.Source.{Sight}
use Rattle.aero_grammar.specs.Reading.{Reading}
use Rattle.aero_lines.specs.Cutting.{block_of}
use Rattle.aero_pieces.specs.declared.question.Question.{Question}
use Rattle.aero_pieces.specs.declared.question.Question.TheVariants.{Parse, Check}
use Rattle.aero_batch.specs.declared.underway.Underway.{Underway}
use Rattle.aero_intake.specs.declared.track.Track.{Track}
use Rattle.aero_batch.specs.Holding.{Counted}
use Rattle.aero_batch.specs.declared.kind.Kind.{Kind}
use Rattle.aero_batch.specs.declared.kind.Kind.TheVariants as kinds
use Rattle.aero_batch.specs.Inquiries.{Inquired, open_count, open_of, with_open}
use Rattle.aero_intake.specs.Intake.{Taking}
use Rattle.aero_batch.specs.Steps.{ChecksNext, SettlesNext, TakesPiece, NotesEnding, CutsHeld, PassesOver, StopsReading, EndsSource, MayAsk, with_chunk, with_check}
use Rattle.aero_batch.specs.Steps.{ended_track, Settles}
use Rattle.aero_intake.specs.Stories.{trace_of}
use Rattle.aero_intake.specs.Tracks.{with_value}
use Rattle.aero_intake.proofs.Tracked.{changed_length}
use Rattle.aero_model.specs.Terms.{Terms}

pub record Fewer (i new : Inquired) (old_tracks new_tracks : List Track) : Type 0 where
  pub questions : open_count new ≤ open_count i
  pub same_asked : new.asked ≡ i.asked
  pub tracks : length new_tracks ≡ length old_tracks

-- those of one kind are left so, of which there were at least as many
left_fewer : (kind : Kind) (i new : Inquired) (rest : List Question) (old_tracks new_tracks : List Track) → length rest ≤ length (open_of kind i) →
    new ≡ with_open kind i rest →
    length new_tracks ≡ length old_tracks → Fewer i new old_tracks new_tracks
left_fewer kinds.Parse i new rest old_tracks new_tracks less is same =
    let count : open_count new ≡ length i.verdicts + length rest = ap open_count is in
    record { questions = omega (arith, count, less); same_asked = ap (λ (j : Inquired). j.asked) is; tracks = same }
left_fewer kinds.Check i new rest old_tracks new_tracks less is same =
    let count : open_count new ≡ length rest + length i.chunks = ap open_count is in
    record { questions = omega (arith, count, less); same_asked = ap (λ (j : Inquired). j.asked) is; tracks = same }

settled_fewer : (kind : Kind) (i new : Inquired) (qs : List Question) (old_tracks new_tracks : List Track) → open_of kind i ≡ qs →
    Settles qs (with_open kind i) new old_tracks new_tracks →
    Fewer i new old_tracks new_tracks
settled_fewer kind i new [] old_tracks new_tracks are is =
    let none : 0 ≤ length (open_of kind i) = omega arith in
    left_fewer kind i new [] old_tracks new_tracks none is.0 (ap length is.1)
settled_fewer kind i new (q ∷ rest) old_tracks new_tracks are is =
    let more : length (open_of kind i) ≡ suc (length rest) = ap length are in
    left_fewer kind i new rest old_tracks new_tracks (omega (arith, more)) is.0
    (ap length is.1.tracks ∙ changed_length (trace_of q) (λ t. with_value is.1.most is.1.certain t is.1.value) old_tracks)

pub settling_counted : (terms : Terms) (n : ℕ) (kind : Kind) (p q : Underway) → SettlesNext kind p q → Counted terms n p → Counted terms n q
settling_counted terms n kind p q is c =
    let few = settled_fewer kind p.inquiry q.inquiry (open_of kind p.inquiry) p.tracks.items q.tracks.items refl is.settles in
    let count : q.intake.count ≡ p.intake.count = ap (λ (i : Taking). i.count) is.intake in
    let held : length q.intake.held ≡ length p.intake.held = ap (λ (i : Taking). length i.held) is.intake in
    record {
      tracks = few.tracks ∙ c.tracks;
      few_sources = c.few_sources;
      read = omega (arith, c.read, is.read);
      checked = omega (arith, c.checked, is.checked, is.read);
      open_few = omega (arith, few.questions, c.open_few);
      within = omega (arith, c.within, count);
      few_bytes = c.few_bytes;
      chunks = omega (arith, c.chunks, is.chunks, count, held);
      asked = omega (arith, few.same_asked, c.asked, is.read, is.chunks, is.checked);
    }

pub record OneMore (i j : Inquired) (k : ℕ) : Type 0 where
  pub one : k ≤ 1
  pub questions : open_count j ≡ open_count i + k
  pub more_asked : j.asked ≡ i.asked + k

check_more : (terms : Terms) (i : Inquired) (place : ℕ) (o : Option (List Reading)) → (k : ℕ) × OneMore i (with_check terms i place o) k
check_more terms i place None = (0, record { one = omega arith; questions = omega arith; more_asked = omega arith })
check_more terms i place (Some rs) = (
  1,
  record {
    one = omega arith;
    questions = omega (arith, length_push i.verdicts (Check place rs terms.rules.limits terms.rules.labels terms.rules.end terms.order terms.explain));
    more_asked = refl;
  },
)

pub checking_counted : (terms : Terms) (n : ℕ) (p q : Underway) → p.checked < p.read → MayAsk p → ChecksNext terms p q → Counted terms n p → Counted terms n q
checking_counted terms n p q below may is c =
    let more = check_more terms p.inquiry p.checked is.parts in
    let k = more.0 in
    let m = more.1 in
    let count : q.intake.count ≡ p.intake.count = ap (λ (i : Taking). i.count) is.intake in
    let held : length q.intake.held ≡ length p.intake.held = ap (λ (i : Taking). length i.held) is.intake in
    let questions : open_count q.inquiry ≡ open_count p.inquiry + k = ap open_count is.inquiry ∙ m.questions in
    let more_asked : q.inquiry.asked ≡ p.inquiry.asked + k = ap (λ (i : Inquired). i.asked) is.inquiry ∙ m.more_asked in
    record {
      tracks = ap length is.tracks ∙ (changed_length p.checked (λ t. is.after) p.tracks.items ∙ c.tracks);
      few_sources = c.few_sources;
      read = omega (arith, c.read, is.read);
      checked = omega (arith, below, is.checked, is.read);
      open_few = omega (arith, questions, m.one, may.room);
      within = omega (arith, c.within, count);
      few_bytes = c.few_bytes;
      chunks = omega (arith, c.chunks, is.chunks, count, held);
      asked = omega (arith, more_asked, m.one, c.asked, is.read, is.chunks, is.checked);
    }

chunk_more : (p : Underway) (o : Option (List ℕ)) → (k : ℕ) × OneMore p.inquiry (with_chunk p o).inquiry k × ((with_chunk p o).chunks ≡ p.chunks + k)
chunk_more p None = (0, record { one = omega arith; questions = omega arith; more_asked = omega arith }, omega arith)
chunk_more p (Some b) = (
  1,
  record {
    one = omega arith;
    questions = omega (arith, length_push p.inquiry.chunks (Parse p.read p.chunks b));
    more_asked = refl;
  },
  refl,
)

pub taking_counted : (terms : Terms) (n : ℕ) (p q : Underway) (before after : Sight) → TakesPiece terms before after p q → Counted terms n p → Counted terms n q
taking_counted terms n p q before after is c =
    subst (λ (m : Underway). Counted terms n m) (sym is.new_is)
    (record {
      tracks = c.tracks;
      few_sources = c.few_sources;
      read = c.read;
      checked = c.checked;
      open_few = c.open_few;
      within = is.comes.within;
      few_bytes = c.few_bytes;
      chunks = omega (arith, c.chunks, length-append p.intake.held is.piece);
      asked = c.asked;
    })

pub noting_counted : (terms : Terms) (n : ℕ) (p q : Underway) (before after : Sight) → NotesEnding terms before after p q → Counted terms n p → Counted terms n q
noting_counted terms n p q before after is c =
    subst (λ (m : Underway). Counted terms n m) (sym is.new_is)
    (record {
      tracks = c.tracks;
      few_sources = c.few_sources;
      read = c.read;
      checked = c.checked;
      open_few = c.open_few;
      within = c.within;
      few_bytes = c.few_bytes;
      chunks = c.chunks;
      asked = c.asked;
    })

pub cutting_counted : (terms : Terms) (n : ℕ) (p q : Underway) → MayAsk p → CutsHeld p q → Counted terms n p → Counted terms n q
cutting_counted terms n p q may is c =
    let more = chunk_more p (block_of p.intake.cutting p.intake.held) in
    let k = more.0 in
    let m = more.1 in
    let count : q.intake.count ≡ p.intake.count = ap (λ (i : Taking). i.count) is.intake in
    let held : length q.intake.held ≡ 0 = ap (λ (i : Taking). length i.held) is.intake in
    let questions : open_count q.inquiry ≡ open_count p.inquiry + k = ap open_count is.inquiry ∙ m.questions in
    let more_asked : q.inquiry.asked ≡ p.inquiry.asked + k = ap (λ (i : Inquired). i.asked) is.inquiry ∙ m.more_asked in
    let chunks : q.chunks ≡ p.chunks + k = is.chunks ∙ more.2 in
    record {
      tracks = ap length is.tracks ∙ c.tracks;
      few_sources = c.few_sources;
      read = omega (arith, c.read, is.read);
      checked = omega (arith, c.checked, is.checked, is.read);
      open_few = omega (arith, questions, m.one, may.room);
      within = omega (arith, c.within, count);
      few_bytes = c.few_bytes;
      chunks = omega (arith, c.chunks, chunks, count, held, m.one, is.some);
      asked = omega (arith, more_asked, c.asked, chunks, is.read, is.checked);
    }

pub passing_counted : (terms : Terms) (n : ℕ) (p q : Underway) → PassesOver p q → Counted terms n p → Counted terms n q
passing_counted terms n p q is c =
    subst (λ (m : Underway). Counted terms n m) (sym is.new_is)
    (record {
      tracks = c.tracks;
      few_sources = c.few_sources;
      read = c.read;
      checked = c.checked;
      open_few = c.open_few;
      within = c.within;
      few_bytes = c.few_bytes;
      chunks = omega (arith, c.chunks);
      asked = c.asked;
    })

pub stopping_counted : (terms : Terms) (n : ℕ) (p q : Underway) → StopsReading terms p q → Counted terms n p → Counted terms n q
stopping_counted terms n p q is c =
    subst (λ (m : Underway). Counted terms n m) (sym is.new_is)
    (record {
      tracks = c.tracks;
      few_sources = c.few_sources;
      read = c.read;
      checked = c.checked;
      open_few = c.open_few;
      within = c.within;
      few_bytes = c.few_bytes;
      chunks = omega (arith, c.chunks);
      asked = c.asked;
    })

pub ending_counted : (terms : Terms) (n : ℕ) (p q : Underway) (ending : Ending) → p.read < n → MayAsk p → EndsSource ending p q → Counted terms n p →
    Counted terms n q
ending_counted terms n p q ending unread may is c =
    let more = chunk_more p is.asked in
    let k = more.0 in
    let m = more.1 in
    let count : q.intake.count ≡ 0 = ap (λ (i : Taking). i.count) is.intake in
    let held : length q.intake.held ≡ 0 = ap (λ (i : Taking). length i.held) is.intake in
    let questions : open_count q.inquiry ≡ open_count p.inquiry + k = ap open_count is.inquiry ∙ m.questions in
    let more_asked : q.inquiry.asked ≡ p.inquiry.asked + k = ap (λ (i : Inquired). i.asked) is.inquiry ∙ m.more_asked in
    let few : terms.rules.limits.bytes ≤ 70368744177664 = c.few_bytes in
    record {
      tracks = ap length is.tracks ∙ (changed_length p.read (ended_track ending p.intake.count ((with_chunk p is.asked).chunks)) p.tracks.items ∙ c.tracks);
      few_sources = c.few_sources;
      read = omega (arith, unread, is.read);
      checked = omega (arith, c.checked, is.checked, is.read);
      open_few = omega (arith, questions, m.one, may.room);
      within = omega (arith, count);
      few_bytes = c.few_bytes;
      chunks = omega (arith, is.chunks, held);
      asked = omega (arith, more_asked, m.one, c.asked, c.chunks, c.within, few, is.chunks, is.read, is.checked);
    }

-- there is always room for one more question's number
pub may_ask : (terms : Terms) (n : ℕ) (p : Underway) → Counted terms n p → open_count p.inquiry < 64 → MayAsk p
may_ask terms n p c room =
    let few : terms.rules.limits.bytes ≤ 70368744177664 = c.few_bytes in
    let asked : p.inquiry.asked < 9223372036854775808 = omega (arith, c.asked, c.read, c.few_sources, c.chunks, c.within, few, c.checked) in
    let chunks : p.chunks < 18446744073709551615 = omega (arith, c.chunks, c.within, few) in
    record { room = room; few = asked; few_chunks = chunks }
