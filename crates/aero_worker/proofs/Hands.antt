-- The numbers of the hands, counted and in order.
use Rattle.std.proofs.Common.{◌≡◌, ℕ, ◌+◌, ◌≤◌, ◌==◌, cond, Bool, List, [], ◌∷◌, ◌++◌, map, length, All, Vec, count_by, sym, refl, ap, ◌∙◌, subst, inl, inr}
use Rattle.std.proofs.Common.{⊎_elim, arith}
use Rattle.std.specs.Global.{Global}
use Rattle.std.proofs.lemmas.List.Sums.{sum_by-cons}
use Rattle.std.proofs.lemmas.List.Elements.{All-nil, All-cons, All-head, All-tail, All-same}
use Rattle.std.specs.Prelude.{sum_by}
use lib.ListN.{length-append, length-map}
use Rattle.aero_pieces.specs.Invariants.{IsSubsequence, done, same, other, times}
use Rattle.aero_stage.specs.declared.job.Job.{Job}
use Rattle.aero_stage.specs.declared.job.Slip.{Slip}
use Rattle.aero_stage.specs.declared.job.Slip.TheVariants.{Work, Stop}
use Rattle.aero_stage.specs.declared.job.Hand.{Hand}
use Rattle.aero_stage.specs.Lists.{IsSubsequence as IsPartInOrder}
use Rattle.aero_stage.specs.declared.job.Desk.{Desk}
use Rattle.aero_stage.specs.Rule.{jobs_of, stops_of, in_hands, AreHandsOf, with_hand}
use Rattle.aero_stage.specs.Ends.{Posting, IsSettled, WasFull}
use Rattle.aero_worker.specs.Shifts.{lists_of, number_of, Tells}

abbrev numbers : Hand → List ℕ
numbers h = map number_of h.jobs

abbrev is_number : ℕ → Job → Bool
is_number n job = job.number == n

pub tells_keep : (xss : List (List ℕ)) (hs : List Hand) (h : Hand) → Tells xss hs → Tells (xss ++ numbers h ∷ []) (hs ++ h ∷ [])
tells_keep xss [] h t = inr ([], ap (λ l. l ++ numbers h ∷ []) t, refl)
tells_keep xss (x ∷ hs) h t = ⊎_elim (λ a. inl (a.0, tells_keep xss hs h a.1))
    (λ b. inr (b.0 ++ numbers h ∷ [], ap (λ l. l ++ numbers h ∷ []) b.1, tells_keep b.0 hs h b.2)) t

pub tells_skip : (xss : List (List ℕ)) (hs : List Hand) (h : Hand) → h.jobs ≡ [] → Tells xss hs → Tells xss (hs ++ h ∷ [])
tells_skip xss [] h e t = inl (e, t)
tells_skip xss (x ∷ hs) h e t = ⊎_elim (λ a. inl (a.0, tells_skip xss hs h e a.1)) (λ b. inr (b.0, b.1, tells_skip b.0 hs h e b.2)) t

times_map : (n : ℕ) (jobs : List Job) → times n (map number_of jobs) ≡ count_by (is_number n) jobs
times_map n [] = refl
times_map n (j ∷ jobs) = sum_by-cons (λ x. cond (x == n) 1 0) j.number (map number_of jobs) ∙ ap (λ k. cond (j.number == n) 1 0 + k) (times_map n jobs)
    ∙ sym (sum_by-cons (λ x. cond (is_number n x) 1 0) j jobs)

-- how often n stands in the lists
abbrev times_in : ℕ → List (List ℕ) → ℕ
times_in n [] = 0
times_in n (xs ∷ xss) = times n xs + times_in n xss

times_lists : (n : ℕ) (vs : List (Vec ℕ Global)) → sum_by (λ list. times n list.items) vs ≡ times_in n (lists_of vs)
times_lists n [] = refl
times_lists n (v ∷ vs) = sum_by-cons (λ (list : Vec ℕ Global). times n list.items) v vs ∙ ap (λ k. times n v.items + k) (times_lists n vs)

tells_times : (n : ℕ) (xss : List (List ℕ)) (hs : List Hand) → Tells xss hs → times_in n xss ≡ in_hands (is_number n) hs
tells_times n xss [] t = ap (times_in n) t
tells_times n xss (h ∷ hs) t = ⊎_elim (λ (a : (h.jobs ≡ []) × Tells xss hs). omega (arith, tells_times n xss hs a.1, ap (count_by (is_number n)) a.0))
    (λ b. ap (times_in n) b.1 ∙ ap (λ k. k + times_in n b.0) (times_map n h.jobs) ∙ ap (λ k. count_by (is_number n) h.jobs + k) (tells_times n b.0 hs b.2)) t

part_map : (js posted : List Job) → IsPartInOrder js posted → IsSubsequence (map number_of js) (map number_of posted)
part_map js [] h = subst (λ (l : List ℕ). IsSubsequence l []) (sym (ap (map number_of) h)) done
part_map js (y ∷ ys) h = ⊎_elim (λ a. other y.number (map number_of js) (map number_of ys) (part_map js ys a))
    (λ b. subst (λ (l : List ℕ). IsSubsequence l (y.number ∷ map number_of ys)) (sym (ap (map number_of) b.1))
    (same y.number (map number_of b.0) (map number_of ys) (part_map b.0 ys b.2))) h

abbrev IsPart : List Job → List ℕ → Type 0
IsPart posted xs = IsSubsequence xs (map number_of posted)

tells_parts : (posted : List Job) (xss : List (List ℕ)) (hs : List Hand) → Tells xss hs → AreHandsOf posted posted hs → All (IsPart posted) xss
tells_parts posted xss [] t are = All-same (IsPart posted) xss [] t (All-nil (IsPart posted))
tells_parts posted xss (h ∷ hs) t are = ⊎_elim (λ a. tells_parts posted xss hs a.1 are.1)
    (λ b. All-same (IsPart posted) xss (numbers h ∷ b.0) b.1
    (All-cons (IsPart posted) (numbers h) b.0 (part_map h.jobs posted are.0.0) (tells_parts posted b.0 hs b.2 are.1))) t

all_lists : (P : List ℕ → Type 0) (vs : List (Vec ℕ Global)) → All P (lists_of vs) → All (λ v. P v.items) vs
all_lists P [] a = All-nil (λ (v : Vec ℕ Global). P v.items)
all_lists P (v ∷ vs) a = All-cons (λ (v : Vec ℕ Global). P v.items) v vs (All-head P v.items (lists_of vs) a)
    (all_lists P vs (All-tail P v.items (lists_of vs) a))

lists_of-push : (vs : List (Vec ℕ Global)) (v : Vec ℕ Global) → lists_of (vs ++ v ∷ []) ≡ lists_of vs ++ v.items ∷ []
lists_of-push [] v = refl
lists_of-push (x ∷ vs) v = ap (λ l. x.items ∷ l) (lists_of-push vs v)

-- one list more for one hand more
pub tells_push : (vs : List (Vec ℕ Global)) (v : Vec ℕ Global) (hs : List Hand) (h : Hand) → Tells (lists_of vs) hs → v.items ≡ map number_of h.jobs →
    Tells (lists_of (vs ++ v ∷ [])) (hs ++ h ∷ [])
tells_push vs v hs h t e = subst (λ (l : List (List ℕ)). Tells l (hs ++ h ∷ [])) (ap (λ xs. lists_of vs ++ xs ∷ []) (sym e) ∙ sym (lists_of-push vs v))
    (tells_keep (lists_of vs) hs h t)

-- what a report says of a settled queue
pub report_each : (p : Posting) (vs : List (Vec ℕ Global)) (left : List ℕ) → IsSettled p → p.desk.takers ≡ 0 → Tells (lists_of vs) p.desk.kept →
    left ≡ map number_of p.desk.back
    → (n : ℕ) → sum_by (λ list. times n list.items) vs + times n left ≡ times n (map number_of p.desk.posted)
report_each p vs left s none t e n =
    omega (
      arith,
      times_lists n vs,
      tells_times n (lists_of vs) p.desk.kept t,
      times_map n p.desk.back,
      times_map n p.desk.posted,
      s.each none (is_number n),
      ap (times n) e,
    )

pub report_left : (p : Posting) (left : List ℕ) → IsSettled p → left ≡ map number_of p.desk.back → IsSubsequence left (map number_of p.desk.posted)
report_left p left s e = subst (λ (l : List ℕ). IsSubsequence l (map number_of p.desk.posted)) (sym e) (part_map p.desk.back p.desk.posted s.back)

pub report_by_worker : (p : Posting) (vs : List (Vec ℕ Global)) → IsSettled p → Tells (lists_of vs) p.desk.kept →
    All (λ v. IsSubsequence v.items (map number_of p.desk.posted)) vs
report_by_worker p vs s t = all_lists (IsPart p.desk.posted) vs (tells_parts p.desk.posted (lists_of vs) p.desk.kept t s.hands)

pub all_front : {X : Type 0} (P : X → Type 0) (xs : List X) (y : X) → All P (xs ++ y ∷ []) → All P xs
all_front P [] y a = All-nil P
all_front P (x ∷ xs) y a = All-cons P x xs (All-head P x (xs ++ y ∷ []) a) (all_front P xs y (All-tail P x (xs ++ y ∷ []) a))

-- a Taker more is back
pub join_rest : (p q r : Posting) (h : Hand) → q ≡ record p { desk = record p.desk { kept = q.desk.kept; takers = q.desk.takers } } →
    r ≡ record q { desk = with_hand q.desk h }
    → r ≡ record p { desk = record p.desk { kept = r.desk.kept; takers = r.desk.takers } }
join_rest p q r h e f = f ∙ ap (λ (x : Posting). record x { desk = with_hand x.desk h }) e
    ∙ ap (λ (d : Desk). record p { desk = record p.desk { kept = d.kept; takers = d.takers } }) (sym (ap (λ (x : Posting). x.desk) f))

pub no_jobs : (jobs : List Job) → length (map number_of jobs) ≡ 0 → jobs ≡ []
no_jobs [] e = refl
no_jobs (j ∷ jobs) e = absurd (omega (arith, e))

slips_count : (slips : List Slip) → length slips ≡ length (jobs_of slips) + stops_of slips
slips_count [] = refl
slips_count (Work job ∷ slips) = omega (arith, slips_count slips)
slips_count (Stop ∷ slips) = omega (arith, slips_count slips)

-- a queue that was full of jobs had places for no more than were posted
pub full_queue : (p : Posting) → WasFull p → p.desk.stops ≡ 0 → p.capacity ≤ length (map number_of p.desk.posted)
full_queue p full none =
    let slips = full.0 in let moment = full.2.1 in
    omega (
      arith,
      full.1,
      slips_count slips,
      moment.stops,
      none,
      ap length moment.order,
      length-append full.2.0 (jobs_of slips),
      length-map p.desk.posted number_of,
    )

-- `close` posts nothing
pub posted_stays : (p q r s t : Posting) → q ≡ record p { desk = record p.desk { back = q.desk.back; bound = q.desk.bound } } →
    r ≡ record q { desk = record q.desk { stops = r.desk.stops } }
    → s ≡ record r { desk = record r.desk { kept = s.desk.kept; takers = s.desk.takers } } →
    t ≡ record s { desk = record s.desk { back = t.desk.back; bound = t.desk.bound } }
    → map number_of p.desk.posted ≡ map number_of t.desk.posted
posted_stays p q r s t e f g h =
    let posted = ap (λ (x : Posting). x.desk.posted) h ∙ ap (λ (x : Posting). x.desk.posted) g ∙ ap (λ (x : Posting). x.desk.posted) f
    ∙ ap (λ (x : Posting). x.desk.posted) e in
    ap (map number_of) (sym posted)
