-- Each change of the queue is a step of the schedule.
use Rattle.std.proofs.Common.{◌≡◌, ◌≢◌, ℕ, zero, suc, ◌<◌, List, [], ◌∷◌, ◌++◌, length, replicate, slice_get, slice_set, Some, sym, refl, ap, ap₂, ◌∙◌, subst}
use Rattle.std.proofs.Common.{lt-ltb, arith}
use Rattle.std.specs.Prelude.{nat_lt}
use Rattle.std.proofs.lemmas.Bool.{cond-true}
use Rattle.std.proofs.lemmas.List.{map-append, length-map}
use mathlib.Core.Option.{some, some-injective, some-ne-none}
use lib.ListN.{get_elem?}
use Rattle.aero_pieces.specs.Schedule.{World, start, taken_by, taken_back}
use Rattle.aero_stage.specs.declared.job.Job.{Job}
use Rattle.aero_stage.specs.declared.job.Slip.{Slip}
use Rattle.aero_stage.specs.declared.job.Slip.TheVariants.{Work, Stop}
use Rattle.aero_stage.specs.declared.job.Desk.{Desk}
use Rattle.aero_stage.specs.declared.job.Hand.{Hand}
use Rattle.aero_stage.specs.declared.job.View.{View}
use Rattle.aero_stage.specs.declared.job.View.TheVariants.{Posts, Takes, Spent}
use Rattle.aero_stage.specs.Rule.{Staged, Fits, jobs_of, no_desk, no_hand, with_post, with_stop, with_back, with_hand, hand_of, Posted, Taken, TakenBack}
use Rattle.aero_stage.specs.Rule.{joined, IsPoster, IsTaker}
use Rattle.aero_stage.specs.Steps.{numbers_of, HasEnd, HasStage, Joins, LeavesTo, LeavesBack, ChangesAreSteps, OpensAsStart}
use Rattle.aero_stage.proofs.Rules.{all_set, jobs_of-work, jobs_of-stop, length-jobs_of}

numbers_push : (jobs : List Job) (job : Job) → numbers_of (jobs ++ job ∷ []) ≡ numbers_of jobs ++ job.number ∷ []
numbers_push jobs job = map-append (λ j. j.number) jobs (job ∷ [])

get_same : {A : Type 0} (xs : List A) (i : ℕ) (a b : A) → slice_get xs i ≡ Some a → slice_get (slice_set xs i b) i ≡ Some b
get_same [] i a b at = cc
get_same (x ∷ xs) zero a b at = refl
get_same (x ∷ xs) (suc i) a b at = get_same xs i a b at

get_other : {A : Type 0} (xs : List A) (i j : ℕ) (b : A) → j ≢ i → slice_get (slice_set xs i b) j ≡ slice_get xs j
get_other [] i j b n = refl
get_other (x ∷ xs) zero zero b n = absurd (n refl)
get_other (x ∷ xs) zero (suc j) b n = refl
get_other (x ∷ xs) (suc i) zero b n = refl
get_other (x ∷ xs) (suc i) (suc j) b n = get_other xs i j b (λ e. n (ap suc e))

-- where the hands stay, so does what the world has of all ends but the Poster's
keeps_end : (seat : ℕ) (posted gone : List Job) (slips : List Slip) (out j : ℕ) (u : View) (w x : World) → j ≢ seat → Fits seat posted gone slips out j u →
    x.hands ≡ w.hands → HasEnd w j u → HasEnd x j u
keeps_end seat posted gone slips out j (Posts d) w x n fits same has = absurd (n fits.0)
keeps_end seat posted gone slips out j (Takes h) w x n fits same has = ap (λ hands. slice_get hands j) same ∙ has
keeps_end seat posted gone slips out j Spent w x n fits same has = tt

poster_moves : (slips slips' : List Slip) (views : List View) (port : ℕ) (d e : Desk) (w x : World) → Staged slips views →
    get_elem? views port ≡ some (Posts d) → HasStage slips views w
    → x.hands ≡ w.hands → x.queue ≡ numbers_of (jobs_of slips') → HasEnd x port (Posts e) → HasStage slips' (slice_set views port (Posts e)) x
poster_moves slips slips' views port d e w x s at has same queue mine = record {
  queue = queue;
  ends = all_set (HasEnd x) views port (Posts e) mine
      (λ j u n there. keeps_end s.seat s.posted s.gone slips s.out j u w x (λ y. n (y ∙ sym (s.fits port (Posts d) at).0)) (s.fits j u there) same
      (has.ends j u there));
}

stays : (slips slips' : List Slip) (views : List View) (port : ℕ) (v : View) (w : World) → get_elem? views port ≡ some v → HasStage slips views w →
    jobs_of slips ≡ jobs_of slips'
    → HasStage slips' (slice_set views port v) w
stays slips slips' views port v w at has same = record {
  queue = has.queue ∙ ap numbers_of same;
  ends = all_set (HasEnd w) views port v (has.ends port v at) (λ j u n there. has.ends j u there);
}

module _ (window room : ℕ) (w : World) (slips : List Slip) (views : List View) (s : Staged slips views) (has : HasStage slips views w) where
  has_room : length slips < room → length w.queue < room
  has_room few = omega (arith, few, ap length has.queue, length-map (jobs_of slips) (λ (j : Job). j.number), length-jobs_of slips)

  posts : (port : ℕ) (d : Desk) (slip : Slip) → get_elem? views port ≡ some (Posts d) → length slips < room → (u : View) → Posted room (Posts d) slip u
      → (x : World) × Joins window room w slip x × HasStage (slips ++ slip ∷ []) (slice_set views port u) x
  posts port d (Work job) at few u is = let x : World = record w { posted = w.posted ++ job.number ∷ []; queue = w.queue ++ job.number ∷ [] } in
      let mine = has.ends port (Posts d) at in (
        x,
        sym (cond-true (nat_lt (length w.queue) room) x w (lt-ltb (length w.queue) room (has_room few))),
        subst (λ y. HasStage (slips ++ Work job ∷ []) (slice_set views port y) x) (sym is)
            (poster_moves slips (slips ++ Work job ∷ []) views port d (with_post room d job) w x s at has refl
            (ap (λ l. l ++ job.number ∷ []) has.queue ∙ sym (numbers_push (jobs_of slips) job) ∙ ap numbers_of (sym (jobs_of-work slips job)))
            (ap (λ l. l ++ job.number ∷ []) mine.0 ∙ sym (numbers_push d.posted job), mine.1)),
      )
  posts port d Stop at few u is = (
    w,
    refl,
    subst (λ y. HasStage (slips ++ Stop ∷ []) (slice_set views port y) w) (sym is)
        (poster_moves slips (slips ++ Stop ∷ []) views port d (with_stop d) w w s at has refl (has.queue ∙ ap numbers_of (sym (jobs_of-stop slips)))
        (has.ends port (Posts d) at)),
  )

  takes_back : (port : ℕ) (d : Desk) (slip : Slip) (rest : List Slip) → get_elem? views port ≡ some (Posts d) → slips ≡ slip ∷ rest → (u : View) →
      TakenBack (Posts d) slip u
      → (x : World) × LeavesBack window room w slip x × HasStage rest (slice_set views port u) x
  takes_back port d (Work job) rest at front u is = let x : World = record w { queue = numbers_of (jobs_of rest); back = w.back ++ job.number ∷ [] } in
      let mine = has.ends port (Posts d) at in (
        x,
        sym (ap (taken_back w) (has.queue ∙ ap (λ l. numbers_of (jobs_of l)) front)),
        subst (λ y. HasStage rest (slice_set views port y) x) (sym is.0)
            (poster_moves slips rest views port d (with_back d job) w x s at has refl refl
            (mine.0, ap (λ l. l ++ job.number ∷ []) mine.1 ∙ sym (numbers_push d.back job))),
      )
  takes_back port d Stop rest at front u is = (
    w,
    refl,
    subst (λ y. HasStage rest (slice_set views port y) w) (sym is) (stays slips rest views port (Posts d) w at has (ap jobs_of front)),
  )

  takes_one : (port : ℕ) (h : Hand) (slip : Slip) (rest : List Slip) → get_elem? views port ≡ some (Takes h) → slips ≡ slip ∷ rest → (u : View) →
      Taken (Takes h) slip u
      → (x : World) × LeavesTo window room w port slip x × HasStage rest (slice_set views port u) x
  takes_one port h (Work job) rest at front u is =
      let hand = numbers_of h.jobs ++ job.number ∷ [] in
      let x : World = record w { queue = numbers_of (jobs_of rest); hands = slice_set w.hands port hand } in
      let mine = has.ends port (Takes h) at in (
        x,
        sym (ap₂ (taken_by w port) (has.queue ∙ ap (λ l. numbers_of (jobs_of l)) front) mine),
        subst (λ y. HasStage rest (slice_set views port y) x) (sym is.1) (record {
          queue = refl;
          ends = all_set (HasEnd x) views port (Takes is.0)
              (get_same w.hands port (numbers_of h.jobs) hand mine ∙ ap Some (sym (ap numbers_of is.2.jobs ∙ numbers_push h.jobs job)))
              (λ j y n there. other j y n (has.ends j y there));
        }),
      )
    where
      other : (j : ℕ) (y : View) → j ≢ port → HasEnd w j y →
          HasEnd (record w { queue = numbers_of (jobs_of rest); hands = slice_set w.hands port (numbers_of h.jobs ++ job.number ∷ []) }) j y
      other j (Posts d) n has = has
      other j (Takes k) n has = get_other w.hands port j (numbers_of h.jobs ++ job.number ∷ []) n ∙ has
      other j Spent n has = tt
  takes_one port h Stop rest at front u is = (
    w,
    refl,
    subst (λ y. HasStage rest (slice_set views port y) w) (sym is) (stays slips rest views port (Takes h) w at has (ap jobs_of front)),
  )

  rejoins : (port : ℕ) (d : Desk) (other : ℕ) (u : View) → get_elem? views port ≡ some (Posts d) →
      HasStage slips (slice_set (slice_set views port (joined (Posts d) u)) other Spent) w
  rejoins port d other u at =
      let moved = poster_moves slips slips views port d (with_hand d (hand_of u)) w w s at has refl has.queue (has.ends port (Posts d) at) in record {
        queue = has.queue;
        ends = all_set (HasEnd w) (slice_set views port (joined (Posts d) u)) other Spent tt (λ j y n there. moved.ends j y there);
      }

  posts_as : (port : ℕ) (v : View) (slip : Slip) (u : View) → get_elem? views port ≡ some v → IsPoster v → length slips < room → Posted room v slip u
      → (x : World) × Joins window room w slip x × HasStage (slips ++ slip ∷ []) (slice_set views port u) x
  posts_as port (Posts d) slip u at e few is = posts port d slip at few u is
  posts_as port (Takes h) slip u at e few is = cc
  posts_as port Spent slip u at e few is = cc

  takes_as : (port : ℕ) (v : View) (slip : Slip) (rest : List Slip) (u : View) → get_elem? views port ≡ some v → IsTaker v → slips ≡ slip ∷ rest →
      Taken v slip u
      → (x : World) × LeavesTo window room w port slip x × HasStage rest (slice_set views port u) x
  takes_as port (Takes h) slip rest u at e front is = takes_one port h slip rest at front u is
  takes_as port (Posts d) slip rest u at e front is = cc
  takes_as port Spent slip rest u at e front is = cc

  takes_back_as : (port : ℕ) (v : View) (slip : Slip) (rest : List Slip) (u : View) → get_elem? views port ≡ some v → IsPoster v → slips ≡ slip ∷ rest →
      TakenBack v slip u
      → (x : World) × LeavesBack window room w slip x × HasStage rest (slice_set views port u) x
  takes_back_as port (Posts d) slip rest u at e front is = takes_back port d slip rest at front u is
  takes_back_as port (Takes h) slip rest u at e front is = cc
  takes_back_as port Spent slip rest u at e front is = cc

  rejoins_as : (port : ℕ) (v : View) (other : ℕ) (u : View) → get_elem? views port ≡ some v → IsPoster v →
      HasStage slips (slice_set (slice_set views port (joined v u)) other Spent) w
  rejoins_as port (Posts d) other u at e = rejoins port d other u at
  rejoins_as port (Takes h) other u at e = cc
  rejoins_as port Spent other u at e = cc

pub changes_are_steps : ChangesAreSteps
changes_are_steps window room w slips views s has = record {
  post = posts_as window room w slips views s has;
  take = takes_as window room w slips views s has;
  take_back = takes_back_as window room w slips views s has;
  rejoin = rejoins_as window room w slips views s has;
}

abbrev no_jobs : List ℕ
no_jobs = []

-- each Taker of a new queue has an empty hand
new_hands : (takers j : ℕ) (v : View) → get_elem? (replicate takers (Takes no_hand)) j ≡ some v → (v ≡ Takes no_hand)
    × (slice_get (replicate takers no_jobs) j ≡ Some no_jobs)
new_hands zero j v at = absurd (some-ne-none v (sym at))
new_hands (suc takers) zero v at = (sym (some-injective (Takes no_hand) v at), refl)
new_hands (suc takers) (suc j) v at = new_hands takers j v at

pub opens_as_start : OpensAsStart
opens_as_start takers = record { queue = refl; ends = λ j v at. ends j v at }
  where
    ends : (j : ℕ) (v : View) → get_elem? (Posts (record no_desk { takers = takers }) ∷ replicate takers (Takes no_hand)) j ≡ some v →
        HasEnd (start (suc takers)) j v
    ends zero v at = subst (λ u. HasEnd (start (suc takers)) 0 u) (some-injective (Posts (record no_desk { takers = takers })) v at) (refl, refl)
    ends (suc j) v at = let new = new_hands takers j v at in subst (λ u. HasEnd (start (suc takers)) (suc j) u) (sym new.0) new.1
