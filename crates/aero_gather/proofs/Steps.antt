-- Each call keeps what a gatherer keeps.
use Rattle.std.proofs.Common.{◌≡◌, ℕ, zero, suc, ◌+◌, ◌-◌, ◌<◌, ◌≤◌, Bool, true, cond, List, [], ◌∷◌, length, get_or, slice_get, slice_set, Option, Some}
use Rattle.std.proofs.Common.{None, is_none, is_some, IfSome, drop, refl, sym, ◌∙◌, ap, subst, arith}
use Rattle.std.specs.Prelude.{count_by}
use Rattle.std.proofs.lemmas.Bool.{le-leb}
use Rattle.std.proofs.lemmas.List.{length-set}
use Rattle.std.proofs.lemmas.List.Elements.{All-set}
use Rattle.std.proofs.lemmas.List.Sums.{sum_by-cons}
use Rattle.std.proofs.lemmas.Option.{get_or_from_slice_get}
use Rattle.aero_pieces.specs.declared.question.Question.{Question}
use Rattle.aero_pieces.specs.declared.answer.Value.{Value}
use Rattle.aero_pieces.specs.Values.{IsValueOf}
use Rattle.aero_pieces.specs.Schedule.{Entry, IsWaiting, NoneWaits, Keeps, noted, with_note}
use Rattle.aero_gather.specs.declared.gather.Tally.{Tally}
use Rattle.aero_gather.specs.Gathered.{Gathered, IsGathered, IsOldestWaiting, IsOpenQuestion, Settles}

abbrev pub waiting : Entry → ℕ
waiting e = cond (is_none e.value) 1 0

-- how many entries have no value
abbrev pub how_many_wait : List Entry → ℕ
how_many_wait entries = count_by (λ e. is_none e.value) entries

pub the_some : {A : Type 0} (x y : A) → Some x ≡ Some y → x ≡ y
the_some x y p = cc p

pub count_set : (entries : List Entry) (place : ℕ) (e d : Entry) → slice_get entries place ≡ Some e →
    how_many_wait (slice_set entries place d) + waiting e ≡ how_many_wait entries + waiting d
count_set [] place e d at = cc
count_set (c ∷ more) zero e d at =
    let same : waiting c ≡ waiting e = ap waiting (the_some c e at) in
    omega (arith, sum_by-cons waiting d more, sum_by-cons waiting c more, same)
count_set (c ∷ more) (suc place) e d at =
    omega (arith, sum_by-cons waiting c (slice_set more place d), sum_by-cons waiting c more, count_set more place e d at)

-- one that waits is counted
pub some_wait : (entries : List Entry) (place : ℕ) (e : Entry) → slice_get entries place ≡ Some e → e.value ≡ None → 0 < how_many_wait entries
some_wait [] place e at none = cc
some_wait (c ∷ more) zero e at none =
    let same : waiting c ≡ 1 = ap waiting (the_some c e at) ∙ ap (λ o. cond (is_none o) 1 0) none in
    omega (arith, sum_by-cons waiting c more, same)
some_wait (c ∷ more) (suc place) e at none = omega (arith, sum_by-cons waiting c more, some_wait more place e at none)

pub same_place : (q p : Question) (entries more : List Entry) (place : ℕ) → q ≡ p → entries ≡ more → IsOldestWaiting q entries place →
    IsOldestWaiting p more place
same_place q p entries more place same list w = subst (λ x. IsOldestWaiting x more place) same (subst (λ es. IsOldestWaiting q es place) list w)

pub same_slot : (entries : List Entry) (place : ℕ) (s x : Entry) → s ≡ x → x ≡ get_or entries place x → s ≡ get_or entries place s
same_slot entries place s x same at = subst (λ y. y ≡ get_or entries place y) (sym same) at

pub waits_there : (q : Question) (entries : List Entry) (place : ℕ) (s : Entry) (w : IsOldestWaiting q entries place) → s ≡ get_or entries place s → w.entry ≡ s
waits_there q entries place s w at = sym (at ∙ get_or_from_slice_get entries place w.entry s w.at_place)

pub keeps_at : (q : Question) (v : Value) (entries : List Entry) (place : ℕ) (s : Entry) → IsOldestWaiting q entries place → s ≡ get_or entries place s →
    Keeps q v entries (slice_set entries place (record { question = s.question; value = Some v; missed = s.missed }))
keeps_at q v entries place s w at =
    record {
      place = place;
      entry = s;
      at_place = w.at_place ∙ ap Some (waits_there q entries place s w at);
      waits = subst (λ e. IsWaiting q e) (waits_there q entries place s w at) w.waits;
      oldest = w.oldest;
      kept = refl;
    }

module _ (g : Gathered) (is : IsGathered g) where
  -- what isn't answered yet was counted as asked, and as nothing else
  pub kept_below_asked : (q : Question) (place : ℕ) → IsOldestWaiting q g.entries place → g.tally.kept < g.tally.asked
  kept_below_asked q place w = omega (arith, is.counts, some_wait g.entries place w.entry w.at_place w.waits.1)

  pub kept_gathered : (q : Question) (v : Value) (place : ℕ) (s : Entry) (t : Tally) → t ≡ record g.tally { kept = g.tally.kept + 1 } →
      IsOldestWaiting q g.entries place → s ≡ get_or g.entries place s → IsValueOf q v →
      IsGathered (record {
        window = g.window;
        entries = slice_set g.entries place (record { question = s.question; value = Some v; missed = s.missed });
        tally = t;
      })
  unfolding keeps_at
  kept_gathered q v place s t one_more w at known =
      let k = keeps_at q v g.entries place s w at in
      let new : Entry = record { question = s.question; value = Some v; missed = s.missed } in
      let waited : waiting s ≡ 1 = ap (λ o. cond (is_none o) 1 0) k.waits.1 in
      let asked : t.asked ≡ g.tally.asked = ap (λ (x : Tally). x.asked) one_more in
      let kept : t.kept ≡ g.tally.kept + 1 = ap (λ (x : Tally). x.kept) one_more in
      let done : t.done_here ≡ g.tally.done_here = ap (λ (x : Tally). x.done_here) one_more in
      record {
        room = omega (arith, is.room, length-set g.entries place new);
        open_were_asked = omega (arith, is.open_were_asked, length-set g.entries place new, asked);
        counts = omega (arith, is.counts, count_set g.entries place s new k.at_place, waited, asked, kept, done);
        values = All-set (λ e. IfSome e.value (IsValueOf e.question)) g.entries place new (subst (λ p. IsValueOf p v) (sym k.waits.0) known) is.values;
      }

set_same : (entries : List Entry) (place : ℕ) (e : Entry) → slice_get entries place ≡ Some e → slice_set entries place e ≡ entries
set_same [] place e at = refl
set_same (c ∷ more) zero e at = ap (λ d. d ∷ more) (the_some e c (sym at))
set_same (c ∷ more) (suc place) e at = ap (λ es. c ∷ es) (set_same more place e at)

abbrev missed_of : Entry → Entry
missed_of e = cond (is_none e.value) (record e { missed = true }) e

note_there : (entries : List Entry) (place : ℕ) (question : Question) (value : Option Value) (missed : Bool) →
    slice_get entries place ≡ Some (record { question = question; value = value; missed = missed }) →
    slice_set entries place (missed_of (record { question = question; value = value; missed = missed })) ≡
    noted entries place (Some (record { question = question; value = value; missed = missed }))
note_there entries place question None missed at = refl
note_there entries place question (Some v) missed at = set_same entries place (record { question = question; value = Some v; missed = missed }) at

-- what is noted of the entry s, which is at the ticket's place, m is how many were settled
pub note_at : (m k : ℕ) (entries : List Entry) (s : Entry) → m ≤ k → slice_get entries (k - m) ≡ Some s →
    slice_set entries (k - m) (missed_of s) ≡ with_note m k entries
note_at m k entries s le at =
    note_there entries (k - m) s.question s.value s.missed at
    ∙ sym (ap (λ b. cond b (noted entries (k - m) (slice_get entries (k - m))) entries) (le-leb m k le) ∙ ap (noted entries (k - m)) at)

value_settles : (g : Gathered) (question : Question) (value : Option Value) (missed : Bool) (more : List Entry) → is_some value ≡ true →
    Settles g (record { question = question; value = value; missed = missed } ∷ more) (record { window = g.window; entries = more; tally = g.tally }) value
value_settles g question None missed more has_value = cc
value_settles g question (Some v) missed more has_value = (v, tt, refl, refl)

-- the oldest has a value, which is given
pub kept_settles : (g : Gathered) (entries more : List Entry) (f s : Entry) → 0 < length entries → f ≡ get_or entries 0 f → s ≡ get_or entries 0 s →
    is_some f.value ≡ true → more ≡ drop 1 entries →
    Settles g entries (record { window = g.window; entries = more; tally = g.tally }) s.value
kept_settles g [] more f s some first same has_value rest = absurd (omega (arith, some))
kept_settles g (e ∷ tail) more f s some first same has_value rest =
    subst (λ x. Settles g (e ∷ tail) (record { window = g.window; entries = x; tally = g.tally }) s.value) (sym rest)
    (subst (λ x. Settles g (e ∷ tail) (record { window = g.window; entries = tail; tally = g.tally }) x.value) (sym same)
    (value_settles g e.question e.value e.missed tail (subst (λ x. is_some x.value ≡ true) first has_value)))

pub settles_of : (g h : Gathered) (new : Gathered) (given : Option Value) → g ≡ h → Settles g g.entries new given → Settles h h.entries new given
settles_of g h new given same settles = subst (λ x. Settles x x.entries new given) same settles

pub settles_value : (g new : Gathered) (given value : Option Value) → given ≡ value → Settles g g.entries new value → Settles g g.entries new given
settles_value g new given value same settles = subst (λ v. Settles g g.entries new v) (sym same) settles

-- the same question and entries
pub same_open : (q p : Question) (xs ys : List Entry) → q ≡ p → xs ≡ ys → IsOpenQuestion q xs → IsOpenQuestion p ys
same_open q p xs ys same are is_open = subst (λ r. IsOpenQuestion r ys) same (subst (IsOpenQuestion q) are is_open)

pub same_waits : (q p : Question) (xs ys : List Entry) → q ≡ p → xs ≡ ys → NoneWaits q xs (length xs) → NoneWaits p ys (length ys)
same_waits q p xs ys same are none = subst (λ r. NoneWaits r ys (length ys)) same (subst (λ zs. NoneWaits q zs (length zs)) are none)

abbrev with_tally : ℕ → List Entry → Tally → Gathered
with_tally window entries t = record { window = window; entries = entries; tally = t }

pub same_tally : (window : ℕ) (entries : List Entry) (t u : Tally) → t ≡ u → with_tally window entries t ≡ with_tally window entries u
same_tally window entries t u same = ap (with_tally window entries) same
