-- What is kept after one more event, whose transaction has the number v.
use Rattle.std.proofs.Common.{◌≡◌, ◌≢◌, ◌⊎◌, ℕ, suc, ◌<◌, ◌==◌, Bool, true, false, List, [], ◌∷◌, ◌++◌, length, Option, Some, None, inl, inr, refl, sym, ◌∙◌, ap, subst, le_refl, arith}
use Rattle.std.specs.Prelude.{slice_get, Contains, if◌then◌else◌}
use Rattle.std.proofs.lemmas.Bool.{cases_Bool, cases_eq, cases_order, eq-eqb, cond-true, cond-false, both_ways}
use Rattle.std.proofs.lemmas.List.{length_push}
use Rattle.std.proofs.lemmas.Option.{same_Some}
use Rattle.aero_model.specs.declared.numbered.Numbered.{Numbered}
use Rattle.aero_model.specs.declared.numbered.What.TheVariants.{Read, Write}
use Rattle.aero_model.specs.Blocks.{Transaction, transaction}
use Rattle.aero_model.proofs.Stability.{Agree, agree_front, transaction_same}
use Rattle.aero_model.proofs.Ready.{one_first}
use Rattle.aero_engine.specs.declared.slot.Slot.{Slot}
use Rattle.aero_engine.specs.Slots.{is_read_of, is_write_of, of_slot, last_of}
use Rattle.aero_engine.proofs.LastEvents.{read_is, write_is, is_last, last_same, last_new, last_kept}
use Rattle.aero_order.specs.LastNumbers.{IsKept, AreReads, AreReadsAfter, Keeps}
use Rattle.aero_order.specs.Near.{NoWriteBetween, Near}
use Rattle.aero_order.specs.TransactionNumbers.{AreFirsts, HasNumber, AreEdges}
use Rattle.aero_order.proofs.Chains.{near_conflict}
use Rattle.aero_order.proofs.Growing.{AreSources}
use Rattle.aero_order.proofs.Candidates.{numbers, numbers_near, near_numbers}

-- a transaction has one number
one_number : (trace : List Numbered) (firsts : List ℕ) (x : Transaction) (u v : ℕ) → AreFirsts trace firsts → HasNumber trace firsts x u → HasNumber trace firsts x v → u ≡ v
one_number trace firsts x u v f (k, at_u, of_u) (m, at_v, of_v) =
    let same = one_first trace k m (f.places u k at_u) (f.places v m at_v) (of_u ∙ sym of_v) in
    elim (cases_order u v) [
      | inl q ↦ q
      | inr (inl l) ↦ absurd (omega (arith, same, f.rising u v k m l at_u at_v))
      | inr (inr l) ↦ absurd (omega (arith, same, f.rising v u m k l at_v at_u))
    ]

-- and a number one transaction
one_transaction : (trace : List Numbered) (firsts : List ℕ) (x y : Transaction) (u : ℕ) → HasNumber trace firsts x u → HasNumber trace firsts y u → x ≡ y
one_transaction trace firsts x y u (k, at_k, of_k) (m, at_m, of_m) = sym of_k ∙ ap (transaction trace) (same_Some k m (sym at_k ∙ at_m)) ∙ of_m

module _ (trace : List Numbered) (firsts : List ℕ) (kept : Slot → Option ℕ) (reads : ℕ → List ℕ) (own_last : ℕ → Option ℕ) (keeps : Keeps trace firsts kept reads own_last) (e : Numbered) (longer : List ℕ) (v : ℕ) (keep : (x : Transaction) (u : ℕ) → HasNumber trace firsts x u → HasNumber (trace ++ e ∷ []) longer x u) (new : HasNumber (trace ++ e ∷ []) longer (transaction (trace ++ e ∷ []) (length trace)) v) where
  abbrev n : ℕ
  n = length trace

  abbrev more : List Numbered
  more = trace ++ e ∷ []

  agree : Agree (length trace) trace (trace ++ e ∷ [])
  agree = agree_front (length trace) trace (e ∷ []) (le_refl (length trace))

  length_more : length (trace ++ e ∷ []) ≡ suc (length trace)
  length_more = let l = length_push trace e in omega arith

  at_end : (xs : List Numbered) → slice_get (xs ++ e ∷ []) (length xs) ≡ Some e
  at_end [] = refl
  at_end (x ∷ xs) = at_end xs

  number_of : (i u : ℕ) → i < n → HasNumber trace firsts (transaction trace i) u → HasNumber more longer (transaction more i) u
  number_of i u l h = subst (λ x. HasNumber more longer x u) (transaction_same n trace more agree i l) (keep (transaction trace i) u h)

  -- the numbers that the event looks back to, but its own, are its sources
  pub are_sources : AreFirsts more longer → AreSources trace e longer v (numbers trace firsts kept reads own_last keeps e e.what)
  are_sources f = record { sound = sound; near = near }
    where
      candidates : List ℕ
      candidates = numbers trace firsts kept reads own_last keeps e e.what

      sound : (u : ℕ) → Contains candidates u → u ≢ v → (i : ℕ) × Near more i n × (transaction more i ≢ transaction more n) × HasNumber more longer (transaction more i) u
      sound u c other =
          let r = numbers_near trace firsts kept reads own_last keeps e u c in
          let h = number_of r.0 u ((near_conflict more r.0 n (r.1).0).earlier) (r.1).1 in
          (r.0, (r.1).0, (λ q. other (one_number more longer (transaction more n) u v f (subst (λ x. HasNumber more longer x u) q h) new)), h)

      near : (i : ℕ) → Near more i n → transaction more i ≢ transaction more n → (u : ℕ) × HasNumber more longer (transaction more i) u × Contains candidates u × (u ≢ v)
      near i d apart =
          let r = near_numbers trace firsts kept reads own_last keeps e i d in
          let h = number_of i r.0 ((near_conflict more i n d).earlier) r.1 in
          (r.0, h, r.2, λ q. apart (one_transaction more longer (transaction more i) (transaction more n) v (subst (HasNumber more longer (transaction more i)) q h) new))

  -- what is kept then
  abbrev kept_after : Slot → Option ℕ
  kept_after s = if of_slot s e then Some v else kept s

  abbrev own_after : ℕ → Option ℕ
  own_after u = if e.thread == u then Some v else own_last u

  kept_old : (test : Numbered → Bool) (o : Option ℕ) → IsKept trace firsts (last_of test trace n) o → IsKept more longer (last_of test trace n) o
  kept_old test o k = go (last_of test trace n) refl o k
    where
      go : (l : Option ℕ) → last_of test trace n ≡ l → (o : Option ℕ) → IsKept trace firsts l o → IsKept more longer l o
      go None q None k = k
      go None q (Some u) k = k
      go (Some i) q None k = k
      go (Some i) q (Some u) k = number_of i u ((is_last test trace n i q).below) k

  kept_step : (test : Numbered → Bool) (o : Option ℕ) → IsKept trace firsts (last_of test trace n) o → IsKept more longer (last_of test more (length more)) (if test e then Some v else o)
  kept_step test o k = subst (λ m. IsKept more longer (last_of test more m) (if test e then Some v else o)) (sym length_more) (elim (cases_Bool (test e)) [
    | inl t ↦
        subst (λ l. IsKept more longer l (if test e then Some v else o)) (sym (last_new test more n e (at_end trace) t))
        (subst (IsKept more longer (Some n)) (sym (cond-true (test e) (Some v) o t)) new)
    | inr f ↦
        subst (λ l. IsKept more longer l (if test e then Some v else o)) (last_same test n trace more agree ∙ sym (last_kept test more n e (at_end trace) f))
        (subst (IsKept more longer (last_of test trace n)) (sym (cond-false (test e) (Some v) o f)) (kept_old test o k))
  ])

  no_write_old : (x i : ℕ) → NoWriteBetween more x i (length more) → NoWriteBetween trace x i n
  no_write_old x i none k f l m at = none k f l (omega (arith, length_more)) (sym (agree.same k m) ∙ at)

  no_write_new : (x i : ℕ) → NoWriteBetween trace x i n → e.what ≢ Write x → NoWriteBetween more x i (length more)
  no_write_new x i none other k f l m at = elim (cases_eq k n) [
    | inl q ↦ (λ is. other (ap (λ (g : Numbered). g.what) (same_Some e f (sym (at_end trace) ∙ ap (slice_get more) (sym q) ∙ at)) ∙ is))
    | inr d ↦ none k f l (omega (arith, length_more)) (agree.same k (omega (arith, length_more)) ∙ at)
  ]

  no_write_here : (x : ℕ) → NoWriteBetween more x n (length more)
  no_write_here x k f l m at is = omega (arith, length_more)

  abbrev Here : ℕ → ℕ → Type 0
  Here x u = (i : ℕ) × (d : Numbered) × (i < length more) × (slice_get more i ≡ Some d) × (d.what ≡ Read x) × NoWriteBetween more x i (length more) × HasNumber more longer (transaction more i) u

  old_read : (x u : ℕ) → e.what ≢ Write x → Contains (reads x) u → Here x u
  old_read x u other c =
      let r = (keeps.read x).only u c in
      (r.0, r.1, omega (arith, length_more, r.2), sym (agree.same r.0 r.2) ∙ r.3, r.4, no_write_new x r.0 r.5 other, number_of r.0 u r.2 r.6)

  not_read : (x : ℕ) → is_read_of x e.what ≡ false → e.what ≢ Read x
  not_read x f is = both_ways (is_read_of x e.what) f (ap (is_read_of x) is ∙ eq-eqb x x refl)

  not_write : (x : ℕ) → is_write_of x e.what ≡ false → e.what ≢ Write x
  not_write x f is = both_ways (is_write_of x e.what) f (ap (is_write_of x) is ∙ eq-eqb x x refl)

  read_no_write : (x : ℕ) → e.what ≡ Read x → e.what ≢ Write x
  read_no_write x is is' = cc

  module _ (reads_after : ℕ → List ℕ) (after : AreReadsAfter e.what v reads reads_after) where
    reads_step : (x : ℕ) → AreReads more longer x (reads_after x)
    reads_step x = go (cases_Bool (is_read_of x e.what)) (cases_Bool (is_write_of x e.what))
      where
        past : (i : ℕ) (d : Numbered) → i < n → slice_get more i ≡ Some d → d.what ≡ Read x → NoWriteBetween more x i (length more) → (u : ℕ) × HasNumber more longer (transaction more i) u × Contains (reads x) u
        past i d l at is none = let r = (keeps.read x).all i d l (agree.same i l ∙ at) is (no_write_old x i none) in (r.0, number_of i r.0 l r.1, r.2)

        here : (i : ℕ) (d : Numbered) → i < length more → i ≢ n → i < n
        here i d l other = omega (arith, length_more)

        this : (i : ℕ) (d : Numbered) → i ≡ n → slice_get more i ≡ Some d → d ≡ e
        this i d q at = same_Some d e (sym at ∙ ap (slice_get more) q ∙ at_end trace)

        go : (is_read_of x e.what ≡ true) ⊎ (is_read_of x e.what ≡ false) → (is_write_of x e.what ≡ true) ⊎ (is_write_of x e.what ≡ false) → AreReads more longer x (reads_after x)
        go (inl t) _ =
            let is_read = read_is x e.what t in
            let with = after.read x is_read in
            record {
              all = λ i d l at is none. elim (cases_eq i n) [
                | inl q ↦ (v, subst (λ k. HasNumber more longer (transaction more k) v) (sym q) new, with.one)
                | inr o ↦ (let r = past i d (here i d l o) at is none in (r.0, r.1, with.stay r.0 r.2))
              ];
              only = λ u c. elim (with.only u c) [
                | inl old ↦ old_read x u (read_no_write x is_read) old
                | inr q ↦ (n, e, omega (arith, length_more), at_end trace, is_read, no_write_here x, subst (HasNumber more longer (transaction more n)) (sym q) new)
              ];
            }
        go (inr f) (inl t) =
            let is_write = write_is x e.what t in
            subst (AreReads more longer x) (sym (after.write x is_write)) record {
              all = λ i d l at is none. elim (cases_eq i n) [
                | inl q ↦ (let same = ap (λ (g : Numbered). g.what) (this i d q at) in let what : Read x ≡ Write x = sym is ∙ same ∙ is_write in absurd (cc))
                | inr o ↦ absurd (none n e (here i d l o) (omega (arith, length_more)) (at_end trace) is_write)
              ];
              only = λ u c. absurd (omega (arith, c.1));
            }
        go (inr f) (inr g) =
            subst (AreReads more longer x) (sym (after.other x (not_read x f) (not_write x g))) record {
              all = λ i d l at is none. elim (cases_eq i n) [
                | inl q ↦ (let same = ap (λ (w : Numbered). w.what) (sym (this i d q at)) in absurd (not_read x f (same ∙ is)))
                | inr o ↦ past i d (here i d l o) at is none
              ];
              only = λ u c. old_read x u (not_write x g) c;
            }

    pub keeps_step : Keeps more longer kept_after reads_after own_after
    keeps_step = record {
      slots = λ s part. kept_step (of_slot s) (kept s) (keeps.slots s part);
      read = reads_step;
      owns = λ u. kept_step (λ f. f.thread == u) (own_last u) (keeps.owns u);
    }

-- before the first event
pub firsts_nil : AreFirsts [] []
firsts_nil = record { places = λ v n at. absurd (cc); rising = λ u v k m l a b. absurd (cc); all = λ n f. absurd (omega (arith, f.within)) }

pub edges_nil : AreEdges [] [] []
edges_nil = record {
  sound = λ u v c. absurd (omega (arith, c.1));
  near = λ i j d. (let c = near_conflict [] i j d in let at = c.second_at in absurd (cc));
}

pub keeps_nil : Keeps [] [] (λ s. None) (λ x. []) (λ u. None)
keeps_nil = record {
  slots = λ s part. tt;
  read = λ x. record { all = λ i d l at is none. absurd (omega (arith, l)); only = λ u c. absurd (omega (arith, c.1)) };
  owns = λ u. tt;
}
