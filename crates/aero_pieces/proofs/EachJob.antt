-- Over every schedule the queue, the hands and what was taken back have each job as often as it was posted.
use Rattle.std.proofs.Common.{◌≡◌, ℕ, zero, suc, ◌+◌, ◌==◌, Bool, true, false, cond, List, [], ◌∷◌, ◌++◌, replicate, Option, Some, None, slice_get, slice_set}
use Rattle.std.proofs.Common.{refl, sym, ◌∙◌, ap, subst, arith}
use Rattle.std.specs.Prelude.{nat_lt, length, sum_by}
use Rattle.std.specs.List.{AllByRecursion}
use Rattle.std.proofs.lemmas.List.{append_assoc}
use Rattle.std.proofs.lemmas.List.Elements.{All-from_recursion}
use Rattle.std.proofs.lemmas.List.Sums.{sum_by-cons, sum_by-append}
use Rattle.aero_pieces.specs.Invariants.{IsSubsequence, done, same, other, times, HasEachJob}
use Rattle.aero_pieces.specs.Schedule.{World, Step, Ask, Post, Take, Back, Answers, Miss, Settle, Entry, Happens, Runs, start, with_question, after_settling}
use Rattle.aero_pieces.specs.Schedule.{taken_by, taken_back}
use Rattle.aero_pieces.specs.declared.answer.Value.{Value}

none_of : (ys : List ℕ) → IsSubsequence [] ys
none_of [] = done
none_of (y ∷ ys) = other y [] ys (none_of ys)

itself : (xs : List ℕ) → IsSubsequence xs xs
itself [] = done
itself (x ∷ xs) = same x xs xs (itself xs)

behind : (ys xs : List ℕ) → IsSubsequence xs (ys ++ xs)
behind [] xs = itself xs
behind (y ∷ ys) xs = other y xs (ys ++ xs) (behind ys xs)

before : (zs xs ys : List ℕ) → IsSubsequence xs ys → IsSubsequence xs (ys ++ zs)
before zs _ _ done = none_of zs
before zs _ _ (same x xs ys s) = same x xs (ys ++ zs) (before zs xs ys s)
before zs _ _ (other y xs ys s) = other y xs (ys ++ zs) (before zs xs ys s)

push : (z : ℕ) (xs ys : List ℕ) → IsSubsequence xs ys → IsSubsequence (xs ++ z ∷ []) (ys ++ z ∷ [])
push z _ _ done = same z [] [] done
push z _ _ (same x xs ys s) = same x (xs ++ z ∷ []) (ys ++ z ∷ []) (push z xs ys s)
push z _ _ (other y xs ys s) = other y (xs ++ z ∷ []) (ys ++ z ∷ []) (push z xs ys s)

-- each hand has a part of what was taken
abbrev AreFrom : List ℕ → List (List ℕ) → Type 0
AreFrom taken hands = AllByRecursion (λ hand. IsSubsequence hand taken) hands

from_more : (zs taken : List ℕ) (hands : List (List ℕ)) → AreFrom taken hands → AreFrom (taken ++ zs) hands
from_more zs taken [] all = tt
from_more zs taken (hand ∷ hands) all = (before zs hand taken all.0, from_more zs taken hands all.1)

from_set : (j : ℕ) (taken : List ℕ) (hands : List (List ℕ)) (n : ℕ) (hand : List ℕ) → slice_get hands n ≡ Some hand → AreFrom taken hands →
    AreFrom (taken ++ j ∷ []) (slice_set hands n (hand ++ j ∷ []))
from_set j taken [] n hand at all = tt
from_set j taken (h ∷ hands) zero hand at all =
    (push j hand taken (subst (λ x. IsSubsequence x taken) (the_some h hand at) all.0), from_more (j ∷ []) taken hands all.1)
  where
    the_some : (x y : List ℕ) → Some x ≡ Some y → x ≡ y
    the_some x y p = cc p
from_set j taken (h ∷ hands) (suc n) hand at all = (before (j ∷ []) h taken all.0, from_set j taken hands n hand at all.1)

times-append : (k : ℕ) (xs ys : List ℕ) → times k (xs ++ ys) ≡ times k xs + times k ys
times-append k xs ys = sum_by-append (λ x. cond (x == k) 1 0) xs ys

sum_set : (k j : ℕ) (hands : List (List ℕ)) (n : ℕ) (hand : List ℕ) → slice_get hands n ≡ Some hand →
    sum_by (times k) (slice_set hands n (hand ++ j ∷ [])) ≡ sum_by (times k) hands + times k (j ∷ [])
sum_set k j [] n hand at = cc
sum_set k j (h ∷ hands) zero hand at =
    let same_hand : times k h ≡ times k hand = ap (times k) (the_some h hand at) in
    omega (arith, sum_by-cons (times k) (hand ++ j ∷ []) hands, sum_by-cons (times k) h hands, times-append k hand (j ∷ []), same_hand)
  where
    the_some : (x y : List ℕ) → Some x ≡ Some y → x ≡ y
    the_some x y p = cc p
sum_set k j (h ∷ hands) (suc n) hand at =
    omega (arith, sum_by-cons (times k) h (slice_set hands n (hand ++ j ∷ [])), sum_by-cons (times k) h hands, sum_set k j hands n hand at)

-- what was taken off the queue is in the hands, or was taken back
abbrev Holds : List ℕ → List ℕ → List (List ℕ) → List ℕ → Type 0
Holds posted queue hands back =
    (taken : List ℕ) × (posted ≡ taken ++ queue) × AreFrom taken hands × IsSubsequence back taken
    × ((k : ℕ) → sum_by (times k) hands + times k back ≡ times k taken)

abbrev WorldHolds : World → Type 0
WorldHolds w = Holds w.posted w.queue w.hands w.back

post_holds : (posted queue : List ℕ) (hands : List (List ℕ)) (back : List ℕ) (k : ℕ) → Holds posted queue hands back →
    Holds (posted ++ k ∷ []) (queue ++ k ∷ []) hands back
post_holds posted queue hands back k h =
    (h.0, ap (λ xs. xs ++ k ∷ []) h.1 ∙ append_assoc h.0 queue (k ∷ []), h.2, h.3, h.4)

take_holds : (posted : List ℕ) (j : ℕ) (queue : List ℕ) (hands : List (List ℕ)) (back : List ℕ) (n : ℕ) (hand : List ℕ) → slice_get hands n ≡ Some hand →
    Holds posted (j ∷ queue) hands back → Holds posted queue (slice_set hands n (hand ++ j ∷ [])) back
take_holds posted j queue hands back n hand at h = (
  h.0 ++ j ∷ [],
  h.1 ∙ sym (append_assoc h.0 (j ∷ []) queue),
  from_set j h.0 hands n hand at h.2,
  before (j ∷ []) back h.0 h.3,
  λ k. omega (arith, sum_set k j hands n hand at, h.4 k, times-append k h.0 (j ∷ [])),
)

back_holds : (posted : List ℕ) (j : ℕ) (queue : List ℕ) (hands : List (List ℕ)) (back : List ℕ) →
    Holds posted (j ∷ queue) hands back → Holds posted queue hands (back ++ j ∷ [])
back_holds posted j queue hands back h = (
  h.0 ++ j ∷ [],
  h.1 ∙ sym (append_assoc h.0 (j ∷ []) queue),
  from_more (j ∷ []) h.0 hands h.2,
  push j back h.0 h.3,
  λ k. omega (arith, h.4 k, times-append k h.0 (j ∷ []), times-append k back (j ∷ [])),
)

taken_by_holds : (w : World) (n : ℕ) (queue : List ℕ) (o : Option (List ℕ)) → w.queue ≡ queue → slice_get w.hands n ≡ o → WorldHolds w →
    WorldHolds (taken_by w n queue o)
taken_by_holds w n [] o is at h = h
taken_by_holds w n (k ∷ more) None is at h = h
taken_by_holds w n (k ∷ more) (Some hand) is at h =
    take_holds w.posted k more w.hands w.back n hand at (subst (λ q. Holds w.posted q w.hands w.back) is h)

taken_back_holds : (w : World) (queue : List ℕ) → w.queue ≡ queue → WorldHolds w → WorldHolds (taken_back w queue)
taken_back_holds w [] is h = h
taken_back_holds w (k ∷ more) is h = back_holds w.posted k more w.hands w.back (subst (λ q. Holds w.posted q w.hands w.back) is h)

settled_holds : (w : World) (entries : List Entry) (v : Value) → WorldHolds w → WorldHolds (after_settling w v entries)
settled_holds w [] v h = h
settled_holds w (e ∷ more) v h = h

no_hands : (workers : ℕ) → AreFrom [] (replicate workers [])
no_hands zero = tt
no_hands (suc workers) = (done, no_hands workers)

no_jobs : (k workers : ℕ) → sum_by (times k) (replicate workers []) ≡ 0
no_jobs k zero = refl
no_jobs k (suc workers) = omega (arith, sum_by-cons (times k) [] (replicate workers []), no_jobs k workers)

module _ (window room : ℕ) where
  step_holds : (w : World) (e : Step) (v : World) → Happens window room w e v → WorldHolds w → WorldHolds v
  step_holds w (Ask q) v step h = subst WorldHolds (sym step) (go (nat_lt (length w.entries) window))
    where
      go : (b : Bool) → WorldHolds (cond b (record w { asked = w.asked ++ q ∷ []; entries = with_question w.entries q }) w)
      go true = h
      go false = h
  step_holds w (Post k) v step h = subst WorldHolds (sym step) (go (nat_lt (length w.queue) room))
    where
      go : (b : Bool) → WorldHolds (cond b (record w { posted = w.posted ++ k ∷ []; queue = w.queue ++ k ∷ [] }) w)
      go true = post_holds w.posted w.queue w.hands w.back k h
      go false = h
  step_holds w (Take n) v step h = subst WorldHolds (sym step) (taken_by_holds w n w.queue (slice_get w.hands n) refl refl h)
  step_holds w Back v step h = subst WorldHolds (sym step) (taken_back_holds w w.queue refl h)
  step_holds w (Answers q a) v step h = subst WorldHolds (sym step.3) h
  step_holds w (Miss k) v step h = subst WorldHolds (sym step) h
  step_holds w (Settle a) v step h = subst WorldHolds (sym step.1) (settled_holds w w.entries a h)

  run_holds : (steps : List Step) (w v : World) → Runs window room w steps v → WorldHolds w → WorldHolds v
  run_holds [] w v run h = subst WorldHolds (sym run) h
  run_holds (e ∷ more) w v run h = run_holds more run.0 v run.2 (step_holds w e run.0 run.1 h)

  each_job : (w : World) → WorldHolds w → HasEachJob w
  each_job w h =
      record {
        queue = subst (λ xs. IsSubsequence w.queue xs) (sym h.1) (behind h.0 w.queue);
        hands = All-from_recursion (λ hand. IsSubsequence hand w.posted) w.hands
            (subst (λ xs. AreFrom xs w.hands) (sym h.1) (from_more w.queue h.0 w.hands h.2));
        back = subst (λ xs. IsSubsequence w.back xs) (sym h.1) (before w.queue w.back h.0 h.3);
        each = λ k. let posted : times k w.posted ≡ times k (h.0 ++ w.queue) = ap (times k) h.1 in
            omega (arith, h.4 k, times-append k h.0 w.queue, posted);
      }

  -- whatever happens, and in whatever order
  pub runs_each_job : (workers : ℕ) (steps : List Step) (v : World) → Runs window room (start workers) steps v → HasEachJob v
  runs_each_job workers steps v run =
      each_job v (run_holds steps (start workers) v run ([], refl, no_hands workers, done, λ k. omega (arith, no_jobs k workers)))
