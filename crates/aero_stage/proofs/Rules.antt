-- Each step keeps the rule of the queue.
use Rattle.std.proofs.Common.{◌≡◌, ◌≢◌, ℕ, zero, suc, ◌+◌, ◌-◌, ◌<◌, ◌≤◌, Bool, cond, List, [], ◌∷◌, ◌++◌, length, set, count_by, sym, refl, ap, ◌∙◌, subst}
use Rattle.std.proofs.Common.{⊎_elim, append_assoc, arith, length-append}
use Rattle.std.proofs.lemmas.List.Sums.{sum_by_push}
use mathlib.Core.Option.{some, some-injective, some-ne-none}
use lib.ListN.{get_elem?}
use Rattle.aero_stage.proofs.Places.{at_set, at_snoc}
use Rattle.crossbeam_channel.specs.Fifo.{Pushes, Pops, Forks, Merges, Learns}
use Rattle.aero_stage.specs.declared.job.Job.{Job}
use Rattle.aero_stage.specs.declared.job.Slip.{Slip}
use Rattle.aero_stage.specs.declared.job.Slip.TheVariants.{Work, Stop}
use Rattle.aero_stage.specs.declared.job.Hand.{Hand}
use Rattle.aero_stage.specs.declared.job.Desk.{Desk}
use Rattle.aero_stage.specs.declared.job.View.{View}
use Rattle.aero_stage.specs.declared.job.View.TheVariants.{Posts, Takes, Spent}
use Rattle.aero_stage.specs.Lists.{Begins}
use Rattle.aero_stage.specs.Rule.{jobs_of, stops_of, in_hands, total, held, taker_count, IsHandOf, AreHandsOf, IsMoment, Fits, Staged, no_desk, no_hand}
use Rattle.aero_stage.specs.Rule.{desk_of, with_post, with_stop, with_back, with_taker, with_hand, KeepsAllGone, Queued, Posted, TakenBack, Taken, joined}
use Rattle.aero_stage.specs.Rule.{IsPoster, IsTaker}
use Rattle.aero_stage.proofs.Parts.{part_skip, part_keep, part_none, begins_all, begins_more}

total_set : (f : View → ℕ) (views : List View) (port : ℕ) (v w : View) → get_elem? views port ≡ some v → total f (set views port w) + f v ≡ total f views + f w
total_set f [] port v w e = absurd (some-ne-none v (sym e))
total_set f (x ∷ xs) zero v w e = let s : x ≡ v = some-injective x v e in omega (arith, ap f s)
total_set f (x ∷ xs) (suc port) v w e = omega (arith, total_set f xs port v w e)

total_snoc : (f : View → ℕ) (views : List View) (v : View) → total f (views ++ v ∷ []) ≡ total f views + f v
total_snoc f [] v = omega arith
total_snoc f (x ∷ xs) v = omega (arith, total_snoc f xs v)

total_none : (f : View → ℕ) (views : List View) → ((j : ℕ) (u : View) → get_elem? views j ≡ some u → f u ≡ 0) → total f views ≡ 0
total_none f [] none = refl
total_none f (x ∷ xs) none = omega (arith, none 0 x refl, total_none f xs (λ j u e. none (suc j) u e))

total_one : (f : View → ℕ) (views : List View) (port : ℕ) (v : View) → get_elem? views port ≡ some v →
    ((j : ℕ) (u : View) → j ≢ port → get_elem? views j ≡ some u → f u ≡ 0) → total f views ≡ f v
total_one f [] port v e others = absurd (some-ne-none v (sym e))
total_one f (x ∷ xs) zero v e others = let s : x ≡ v = some-injective x v e in
    omega (arith, ap f s, total_none f xs (λ j u h. others (suc j) u (λ z. omega arith) h))
total_one f (x ∷ xs) (suc port) v e others =
    omega (arith, others 0 x (λ z. omega arith) refl, total_one f xs port v e (λ j u n h. others (suc j) u (λ z. n (omega arith)) h))

total_least : (f : View → ℕ) (views : List View) (port : ℕ) (v : View) → get_elem? views port ≡ some v → f v ≤ total f views
total_least f [] port v e = absurd (some-ne-none v (sym e))
total_least f (x ∷ xs) zero v e = let s : x ≡ v = some-injective x v e in omega (arith, ap f s)
total_least f (x ∷ xs) (suc port) v e = omega (arith, total_least f xs port v e)

pub jobs_of-work : (slips : List Slip) (job : Job) → jobs_of (slips ++ Work job ∷ []) ≡ jobs_of slips ++ job ∷ []
jobs_of-work [] job = refl
jobs_of-work (Work x ∷ slips) job = ap (λ l. x ∷ l) (jobs_of-work slips job)
jobs_of-work (Stop ∷ slips) job = jobs_of-work slips job

pub jobs_of-stop : (slips : List Slip) → jobs_of (slips ++ Stop ∷ []) ≡ jobs_of slips
jobs_of-stop [] = refl
jobs_of-stop (Work x ∷ slips) = ap (λ l. x ∷ l) (jobs_of-stop slips)
jobs_of-stop (Stop ∷ slips) = jobs_of-stop slips

stops_of-work : (slips : List Slip) (job : Job) → stops_of (slips ++ Work job ∷ []) ≡ stops_of slips
stops_of-work [] job = refl
stops_of-work (Work x ∷ slips) job = stops_of-work slips job
stops_of-work (Stop ∷ slips) job = ap (λ n. 1 + n) (stops_of-work slips job)

stops_of-stop : (slips : List Slip) → stops_of (slips ++ Stop ∷ []) ≡ stops_of slips + 1
stops_of-stop [] = refl
stops_of-stop (Work x ∷ slips) = stops_of-stop slips
stops_of-stop (Stop ∷ slips) = omega (arith, stops_of-stop slips)

pub length-jobs_of : (slips : List Slip) → length (jobs_of slips) ≤ length slips
length-jobs_of [] = omega arith
length-jobs_of (Work x ∷ slips) = omega (arith, length-jobs_of slips)
length-jobs_of (Stop ∷ slips) = omega (arith, length-jobs_of slips)

hands_more : (p g q k : List Job) (hs : List Hand) → ((h : Hand) → IsHandOf p g h → IsHandOf q k h) → AreHandsOf p g hs → AreHandsOf q k hs
hands_more p g q k [] more are = tt
hands_more p g q k (h ∷ hs) more are = (more h are.0, hands_more p g q k hs more are.1)

hands_snoc : (p g : List Job) (hs : List Hand) (h : Hand) → AreHandsOf p g hs → IsHandOf p g h → AreHandsOf p g (hs ++ h ∷ [])
hands_snoc p g [] h are is = (is, tt)
hands_snoc p g (x ∷ hs) h are is = (are.0, hands_snoc p g hs h are.1 is)

in_hands-snoc : (test : Job → Bool) (hs : List Hand) (h : Hand) → in_hands test (hs ++ h ∷ []) ≡ in_hands test hs + count_by test h.jobs
in_hands-snoc test [] h = omega arith
in_hands-snoc test (x ∷ hs) h = omega (arith, in_hands-snoc test hs h)

-- a hand stays one when a job is posted, and when one leaves the queue
hand_posts : (posted gone : List Job) (job : Job) (h : Hand) → IsHandOf posted gone h → IsHandOf (posted ++ job ∷ []) gone h
hand_posts posted gone job h is = (is.0, begins_more h.seen posted (job ∷ []) is.1)

hand_goes : (posted gone : List Job) (job : Job) (h : Hand) → IsHandOf posted gone h → IsHandOf posted (gone ++ job ∷ []) h
hand_goes posted gone job h is = (part_skip h.jobs gone job is.0, is.1)

-- a moment, after a post, a stop, and after the front has left
moment_posts : (n : ℕ) (d : Desk) (gone : List Job) (slips : List Slip) (job : Job) → length slips < n → IsMoment d gone slips →
    IsMoment (with_post n d job) gone (slips ++ Work job ∷ [])
moment_posts n d gone slips job room m = record {
  order = ap (λ l. l ++ job ∷ []) m.order ∙ append_assoc gone (jobs_of slips) (job ∷ []) ∙ ap (λ l. gone ++ l) (sym (jobs_of-work slips job));
  jobs = omega (arith, ap length (jobs_of-work slips job), length-append (jobs_of slips) (job ∷ []), length-jobs_of slips, m.jobs);
  stops = omega (arith, stops_of-work slips job, m.stops);
  back = m.back;
  hands = hands_more d.posted gone (d.posted ++ job ∷ []) gone d.kept (λ h. hand_posts d.posted gone job h) m.hands;
}

moment_stops : (d : Desk) (gone : List Job) (slips : List Slip) → IsMoment d gone slips → IsMoment (with_stop d) gone (slips ++ Stop ∷ [])
moment_stops d gone slips m = record {
  order = m.order ∙ ap (λ l. gone ++ l) (sym (jobs_of-stop slips));
  jobs = omega (arith, ap length (jobs_of-stop slips), m.jobs);
  stops = omega (arith, stops_of-stop slips, m.stops);
  back = m.back;
  hands = m.hands;
}

moment_takes : (d : Desk) (gone : List Job) (slips : List Slip) (job : Job) → IsMoment d gone (Work job ∷ slips) → IsMoment d (gone ++ job ∷ []) slips
moment_takes d gone slips job m = record {
  order = m.order ∙ sym (append_assoc gone (job ∷ []) (jobs_of slips));
  jobs = omega (arith, m.jobs);
  stops = m.stops;
  back = part_skip d.back gone job m.back;
  hands = hands_more d.posted gone d.posted (gone ++ job ∷ []) d.kept (λ h. hand_goes d.posted gone job h) m.hands;
}

moment_takes_back : (d : Desk) (gone : List Job) (slips : List Slip) (job : Job) → IsMoment d gone (Work job ∷ slips) →
    IsMoment (with_back d job) (gone ++ job ∷ []) slips
moment_takes_back d gone slips job m = record {
  order = m.order ∙ sym (append_assoc gone (job ∷ []) (jobs_of slips));
  jobs = omega (arith, m.jobs);
  stops = m.stops;
  back = part_keep d.back gone job m.back;
  hands = hands_more d.posted gone d.posted (gone ++ job ∷ []) d.kept (λ h. hand_goes d.posted gone job h) m.hands;
}

moment_drops : (d : Desk) (gone : List Job) (slips : List Slip) → IsMoment d gone (Stop ∷ slips) → IsMoment d gone slips
moment_drops d gone slips m = record { order = m.order; jobs = m.jobs; stops = omega (arith, m.stops); back = m.back; hands = m.hands }

-- what holds of the new view at its place and of each other view holds after the change
pub all_set : (F : ℕ → View → Type 0) (views : List View) (port : ℕ) (w : View) → F port w →
    ((j : ℕ) (u : View) → j ≢ port → get_elem? views j ≡ some u → F j u)
    → (j : ℕ) (u : View) → get_elem? (set views port w) j ≡ some u → F j u
all_set F views port w mine others j u e = ⊎_elim (λ (x : (j ≡ port) × (w ≡ u)). subst (λ (y : ℕ × View). F y.0 y.1) (λ i. (sym x.0 i, x.1 i)) mine)
    (λ (x : (j ≢ port) × (get_elem? views j ≡ some u)). others j u x.0 x.1) (at_set views port j w u e)

-- the passes of others, when the Poster moves: it is the only Poster
others_fit : (seat : ℕ) (posted gone posted' gone' : List Job) (slips slips' : List Slip) (out out' j : ℕ) (u : View) → j ≢ seat →
    ((h : Hand) → IsHandOf posted gone h → IsHandOf posted' gone' h)
    → Fits seat posted gone slips out j u → Fits seat posted' gone' slips' out' j u
others_fit seat posted gone posted' gone' slips slips' out out' j (Posts d) n more fits = absurd (n fits.0)
others_fit seat posted gone posted' gone' slips slips' out out' j (Takes h) n more fits = more h fits
others_fit seat posted gone posted' gone' slips slips' out out' j Spent n more fits = tt

-- all passes, when a Taker moves
all_fit : (seat : ℕ) (posted gone gone' : List Job) (slips slips' : List Slip) (out j : ℕ) (u : View) →
    ((h : Hand) → IsHandOf posted gone h → IsHandOf posted gone' h)
    → ((d : Desk) → IsMoment d gone slips → IsMoment d gone' slips') → Fits seat posted gone slips out j u → Fits seat posted gone' slips' out j u
all_fit seat posted gone gone' slips slips' out j (Posts d) more moves fits = (fits.0, fits.1, fits.2, moves d fits.3)
all_fit seat posted gone gone' slips slips' out j (Takes h) more moves fits = more h fits
all_fit seat posted gone gone' slips slips' out j Spent more moves fits = tt

pub begins : Staged [] (Posts no_desk ∷ [])
begins = record {
  seat = 0;
  posted = [];
  gone = [];
  out = 0;
  order = refl;
  counted = refl;
  each = λ test. refl;
  fits = λ j u e. first j u e;
}
  where
    first : (j : ℕ) (u : View) → get_elem? (Posts no_desk ∷ []) j ≡ some u → Fits 0 [] [] [] 0 j u
    first zero u e = subst (λ (v : View). Fits 0 [] [] [] 0 0 v) (some-injective (Posts no_desk) u e)
        (refl, refl, refl, record { order = refl; jobs = omega arith; stops = omega arith; back = refl; hands = tt })
    first (suc j) u e = absurd (some-ne-none u (sym e))

pub posts : (n port : ℕ) (d : Desk) (job : Job) → Pushes Staged n port (Posts d) (Work job) (Posted n (Posts d) (Work job))
posts n port d job slips views room s at = let w = Posts (with_post n d job) in let mine = s.fits port (Posts d) at in (
  w,
  record {
    seat = s.seat;
    posted = s.posted ++ job ∷ [];
    gone = s.gone;
    out = s.out;
    order = ap (λ l. l ++ job ∷ []) s.order ∙ append_assoc s.gone (jobs_of slips) (job ∷ []) ∙ ap (λ l. s.gone ++ l) (sym (jobs_of-work slips job));
    counted = omega (arith, total_set taker_count views port (Posts d) w at, s.counted);
    each = λ test. omega (arith, total_set (held test) views port (Posts d) w at, s.each test);
    fits = all_set (Fits s.seat (s.posted ++ job ∷ []) s.gone (slips ++ Work job ∷ []) s.out) views port w
        (mine.0, ap (λ l. l ++ job ∷ []) mine.1, mine.2, moment_posts n d s.gone slips job room mine.3)
        (λ j u n' e. others_fit s.seat s.posted s.gone (s.posted ++ job ∷ []) s.gone slips (slips ++ Work job ∷ []) s.out s.out j u (λ x. n' (x ∙ sym mine.0))
        (λ h. hand_posts s.posted s.gone job h) (s.fits j u e));
  },
  refl,
)

pub stops : (n port : ℕ) (d : Desk) → Pushes Staged n port (Posts d) Stop (Posted n (Posts d) Stop)
stops n port d slips views room s at = let w = Posts (with_stop d) in let mine = s.fits port (Posts d) at in (
  w,
  record {
    seat = s.seat;
    posted = s.posted;
    gone = s.gone;
    out = s.out;
    order = s.order ∙ ap (λ l. s.gone ++ l) (sym (jobs_of-stop slips));
    counted = omega (arith, total_set taker_count views port (Posts d) w at, s.counted);
    each = λ test. omega (arith, total_set (held test) views port (Posts d) w at, s.each test);
    fits = all_set (Fits s.seat s.posted s.gone (slips ++ Stop ∷ []) s.out) views port w
        (mine.0, mine.1, mine.2, moment_stops d s.gone slips mine.3)
        (λ j u n' e. others_fit s.seat s.posted s.gone s.posted s.gone slips (slips ++ Stop ∷ []) s.out s.out j u (λ x. n' (x ∙ sym mine.0)) (λ h is. is)
        (s.fits j u e));
  },
  refl,
)

-- once no Taker is out, only the Poster's pass holds anything
keeps_all_gone : (slips : List Slip) (views : List View) (port : ℕ) (d : Desk) (s : Staged slips views) → get_elem? views port ≡ some (Posts d) →
    KeepsAllGone d s.gone
keeps_all_gone slips views port d s at none test = let mine = s.fits port (Posts d) at in
    sym (total_one (held test) views port (Posts d) at (λ j u n e. rest j u n e (s.fits j u e))) ∙ s.each test
  where
    rest : (j : ℕ) (u : View) → j ≢ port → get_elem? views j ≡ some u → Fits s.seat s.posted s.gone slips s.out j u → held test u ≡ 0
    rest j (Posts d') n e f = absurd (n (f.0 ∙ sym (s.fits port (Posts d) at).0))
    rest j (Takes h) n e f = let most = total_least taker_count views j (Takes h) e in let mine = s.fits port (Posts d) at in
        absurd (omega (arith, most, s.counted, mine.2, none))
    rest j Spent n e f = refl

pub learns : (port : ℕ) (d : Desk) → Learns Staged port (Posts d) (λ slips. Queued (desk_of (Posts d)) slips)
learns port d slips views s at = (s.gone, (s.fits port (Posts d) at).3, keeps_all_gone slips views port d s at)

-- where a stop leaves, nothing else changes
drops : (port : ℕ) (v : View) (slips : List Slip) (views : List View) → Staged (Stop ∷ slips) views → get_elem? views port ≡ some v →
    Staged slips (set views port v)
drops port v slips views s at = record {
  seat = s.seat;
  posted = s.posted;
  gone = s.gone;
  out = s.out;
  order = s.order;
  counted = omega (arith, total_set taker_count views port v v at, s.counted);
  each = λ test. omega (arith, total_set (held test) views port v v at, s.each test);
  fits = all_set (Fits s.seat s.posted s.gone slips s.out) views port v (moved port v at) (λ j u n e. moved j u e);
}
  where
    moved : (j : ℕ) (u : View) → get_elem? views j ≡ some u → Fits s.seat s.posted s.gone slips s.out j u
    moved j u e = all_fit s.seat s.posted s.gone s.gone (Stop ∷ slips) slips s.out j u (λ h is. is) (λ d m. moment_drops d s.gone slips m) (s.fits j u e)

pub takes_back : (port : ℕ) (d : Desk) → Pops Staged port (Posts d) (TakenBack (Posts d))
takes_back port d Stop slips views s at = (Posts d, drops port (Posts d) slips views s at, refl)
takes_back port d (Work job) slips views s at = let w = Posts (with_back d job) in let mine = s.fits port (Posts d) at in (
  w,
  record {
    seat = s.seat;
    posted = s.posted;
    gone = s.gone ++ job ∷ [];
    out = s.out;
    order = s.order ∙ sym (append_assoc s.gone (job ∷ []) (jobs_of slips));
    counted = omega (arith, total_set taker_count views port (Posts d) w at, s.counted);
    each = λ test. omega (
      arith,
      total_set (held test) views port (Posts d) w at,
      s.each test,
      sum_by_push (λ x. cond (test x) 1 0) d.back job,
      sum_by_push (λ x. cond (test x) 1 0) s.gone job,
    );
    fits = all_set (Fits s.seat s.posted (s.gone ++ job ∷ []) slips s.out) views port w
        (mine.0, mine.1, mine.2, moment_takes_back d s.gone slips job mine.3)
        (λ j u n e. others_fit s.seat s.posted s.gone s.posted (s.gone ++ job ∷ []) (Work job ∷ slips) slips s.out s.out j u (λ x. n (x ∙ sym mine.0))
        (λ h. hand_goes s.posted s.gone job h) (s.fits j u e));
  },
  (refl, (slips, (s.gone, mine.3, keeps_all_gone (Work job ∷ slips) views port d s at))),
)

pub takes_one : (port : ℕ) (h : Hand) → Pops Staged port (Takes h) (Taken (Takes h))
takes_one port h Stop slips views s at = (Takes h, drops port (Takes h) slips views s at, refl)
takes_one port h (Work job) slips views s at = let h' : Hand = record { jobs = h.jobs ++ job ∷ []; seen = s.posted } in let w = Takes h' in
    let mine = s.fits port (Takes h) at in (
      w,
      record {
        seat = s.seat;
        posted = s.posted;
        gone = s.gone ++ job ∷ [];
        out = s.out;
        order = s.order ∙ sym (append_assoc s.gone (job ∷ []) (jobs_of slips));
        counted = omega (arith, total_set taker_count views port (Takes h) w at, s.counted);
        each = λ test. omega (
          arith,
          total_set (held test) views port (Takes h) w at,
          s.each test,
          sum_by_push (λ x. cond (test x) 1 0) h.jobs job,
          sum_by_push (λ x. cond (test x) 1 0) s.gone job,
        );
        fits = all_set (Fits s.seat s.posted (s.gone ++ job ∷ []) slips s.out) views port w
            (part_keep h.jobs s.gone job mine.0, begins_all s.posted)
            (λ j u n e. all_fit s.seat s.posted s.gone (s.gone ++ job ∷ []) (Work job ∷ slips) slips s.out j u (λ k. hand_goes s.posted s.gone job k)
            (λ d m. moment_takes d s.gone slips job m) (s.fits j u e));
      },
      (h', refl, record { gone = s.gone; rest = jobs_of slips; jobs = refl; seen = s.order; before = mine.0; later = mine.1 }),
    )

-- the pass of a new Taker has taken nothing
new_hand : (posted gone : List Job) → IsHandOf posted gone no_hand
new_hand posted gone = (part_none gone, (posted, refl))

pub forks : (port : ℕ) (d : Desk) → Forks Staged port (Posts d) (Posts (with_taker d)) (Takes no_hand)
forks port d slips views s at = let w = Posts (with_taker d) in let mine = s.fits port (Posts d) at in let vs = set views port w in record {
  seat = s.seat;
  posted = s.posted;
  gone = s.gone;
  out = s.out + 1;
  order = s.order;
  counted = omega (arith, total_snoc taker_count vs (Takes no_hand), total_set taker_count views port (Posts d) w at, s.counted);
  each = λ test. omega (arith, total_snoc (held test) vs (Takes no_hand), total_set (held test) views port (Posts d) w at, s.each test);
  fits = λ j u e. ⊎_elim (λ x. old j u x) (λ is. subst (λ (y : View). Fits s.seat s.posted s.gone slips (s.out + 1) j y) is (new_hand s.posted s.gone))
      (at_snoc vs (Takes no_hand) u j e);
}
  where
    old : (j : ℕ) (u : View) → get_elem? (set views port (Posts (with_taker d))) j ≡ some u → Fits s.seat s.posted s.gone slips (s.out + 1) j u
    old j u e = let mine = s.fits port (Posts d) at in all_set (Fits s.seat s.posted s.gone slips (s.out + 1)) views port (Posts (with_taker d)) (
      mine.0,
      mine.1,
      ap (λ n. n + 1) mine.2,
      record {
        order = mine.3.order;
        jobs = mine.3.jobs;
        stops = mine.3.stops;
        back = mine.3.back;
        hands = mine.3.hands;
      },
    )
        (λ j u n e. others_fit s.seat s.posted s.gone s.posted s.gone slips slips s.out (s.out + 1) j u (λ x. n (x ∙ sym mine.0)) (λ h is. is) (s.fits j u e))
        j u e

pub merges : (port : ℕ) (d : Desk) (other : ℕ) (h : Hand) → Merges Staged port (Posts d) other (Takes h) (Posts (with_hand d h)) Spent
merges port d other h slips views s at two there = let w = Posts (with_hand d h) in let mine = s.fits port (Posts d) at in let vs = set views port w in
    let was : get_elem? views other ≡ some (Takes h) = ⊎_elim (λ x. absurd (two x.0)) (λ x. x.1) (at_set views port other w (Takes h) there) in
    let theirs = s.fits other (Takes h) was in record {
      seat = s.seat;
      posted = s.posted;
      gone = s.gone;
      out = s.out - 1;
      order = s.order;
      counted = omega (arith, total_set taker_count vs other (Takes h) Spent there, total_set taker_count views port (Posts d) w at, s.counted);
      each = λ test. omega (
        arith,
        total_set (held test) vs other (Takes h) Spent there,
        total_set (held test) views port (Posts d) w at,
        s.each test,
        in_hands-snoc test d.kept h,
      );
      fits = all_set (Fits s.seat s.posted s.gone slips (s.out - 1)) vs other Spent tt
          (λ j u n e. all_set (λ j u. Fits s.seat s.posted s.gone slips (s.out - 1) j u) views port w (
            mine.0,
            mine.1,
            ap (λ n. n - 1) mine.2,
            record {
              order = mine.3.order;
              jobs = mine.3.jobs;
              stops = mine.3.stops;
              back = mine.3.back;
              hands = hands_snoc d.posted s.gone d.kept h mine.3.hands (theirs.0, subst (Begins h.seen) (sym mine.1) theirs.1);
            },
          )
          (λ j u n e. others_fit s.seat s.posted s.gone s.posted s.gone slips slips s.out (s.out - 1) j u (λ x. n (x ∙ sym mine.0)) (λ h is. is)
          (s.fits j u e)) j u e);
    }

-- the same of a pass that is known to be the Poster's, or a Taker's
pub sends_as : (n port : ℕ) (v : View) (slip : Slip) → IsPoster v → Pushes Staged n port v slip (Posted n v slip)
sends_as n port (Posts d) (Work job) e = posts n port d job
sends_as n port (Posts d) Stop e = stops n port d
sends_as n port (Takes h) slip e = cc
sends_as n port Spent slip e = cc

pub learns_as : (port : ℕ) (v : View) → IsPoster v → Learns Staged port v (λ slips. Queued (desk_of v) slips)
learns_as port (Posts d) e = learns port d
learns_as port (Takes h) e = cc
learns_as port Spent e = cc

pub takes_back_as : (port : ℕ) (v : View) → IsPoster v → Pops Staged port v (TakenBack v)
takes_back_as port (Posts d) e = takes_back port d
takes_back_as port (Takes h) e = cc
takes_back_as port Spent e = cc

pub takes_as : (port : ℕ) (v : View) → IsTaker v → Pops Staged port v (Taken v)
takes_as port (Takes h) e = takes_one port h
takes_as port (Posts d) e = cc
takes_as port Spent e = cc

pub forks_as : (port : ℕ) (v : View) → IsPoster v → Forks Staged port v (Posts (with_taker (desk_of v))) (Takes no_hand)
forks_as port (Posts d) e = forks port d
forks_as port (Takes h) e = cc
forks_as port Spent e = cc

pub merges_as : (port : ℕ) (v : View) (other : ℕ) (u : View) → IsPoster v → IsTaker u → Merges Staged port v other u (joined v u) Spent
merges_as port (Posts d) other (Takes h) e f = merges port d other h
merges_as port (Posts d) other (Posts h) e f = cc
merges_as port (Posts d) other Spent e f = cc
merges_as port (Takes h) other u e f = cc
merges_as port Spent other u e f = cc

pub sends_in : (n k port : ℕ) (v : View) (slip : Slip) → k ≡ n → IsPoster v → Pushes Staged n port v slip (Posted k v slip)
    × Learns Staged port v (λ slips. Queued (desk_of v) slips)
sends_in n k port v slip e p = (subst (λ (m : ℕ). Pushes Staged n port v slip (Posted m v slip)) (sym e) (sends_as n port v slip p), learns_as port v p)
