-- One more event: the number of its transaction, the edges to it, and what is kept.
use Rattle.std.proofs.Common.{◌≡◌, ◌≢◌, ◌⊎◌, ℕ, suc, ◌<◌, ◌≤◌, ◌==◌, nat_lt, Bool, true, false, List, [], ◌∷◌, ◌++◌, length, Option, Some, None, inl, inr, refl, sym, ◌∙◌, ap, subst, le_refl, arith}
use Rattle.std.specs.Prelude.{slice_get, if◌then◌else◌}
use Rattle.std.proofs.lemmas.Bool.{eqb-true, eq-eqb, ltb-true, ltb-false}
use Rattle.std.proofs.lemmas.Option.{same_Some, none-some}
use Rattle.aero_model.specs.declared.numbered.Numbered.{Numbered}
use Rattle.aero_model.specs.Blocks.{depth, blocks, Transaction, Block, Unary, transaction}
use Rattle.aero_model.proofs.Stability.{Agree, agree_front, depth_same, blocks_same, transaction_same}
use Rattle.aero_model.proofs.Places.{IsIn, in_block, in_unary, block_from}
use Rattle.aero_model.proofs.Depths.{AtOpening, AtClosing, AtOther, step}
use Rattle.aero_model.proofs.Ends.{in_cases, begun, begin_in, deep_in}
use Rattle.aero_model.proofs.Begins.{blocks_rise, last_in_open}
use Rattle.aero_engine.specs.declared.slot.Slot.{Slot}
use Rattle.aero_engine.specs.Slots.{of_slot, last_of}
use Rattle.aero_engine.proofs.LastEvents.{is_last, last_covers}
use Rattle.aero_order.specs.LastNumbers.{IsKept, AreReadsAfter, is_looked_at, Keeps, looked_back, AreLinked}
use Rattle.aero_order.specs.Numbering.{IsNumbered}
use Rattle.aero_order.specs.TransactionNumbers.{AreFirsts, HasNumber, AreEdges}
use Rattle.aero_order.proofs.Growing.{firsts_begun, firsts_kept, number_more, number_kept, number_new, edges_more}
use Rattle.aero_order.proofs.Keeping.{are_sources, keeps_step}

-- whether an event that follows these is in a block that has begun
abbrev pub is_inside : List Numbered → Numbered → Bool
is_inside trace e = nat_lt 0 (depth trace e.thread (length trace))

module _ (trace : List Numbered) (e : Numbered) where
  abbrev n : ℕ
  n = length trace

  abbrev more : List Numbered
  more = trace ++ e ∷ []

  agree : Agree (length trace) trace (trace ++ e ∷ [])
  agree = agree_front (length trace) trace (e ∷ []) (le_refl (length trace))

  at_end : (xs : List Numbered) → slice_get (xs ++ e ∷ []) (length xs) ≡ Some e
  at_end [] = refl
  at_end (x ∷ xs) = at_end xs

  deep_more : depth trace e.thread n ≡ depth more e.thread n
  deep_more = depth_same trace more e.thread n agree

  -- inside a block the event belongs to the transaction of its thread's last event
  stays : (t k : ℕ) → 0 < depth more t n → blocks more t (suc n) ≡ blocks more t n
  stays t k d = go (step more t n)
    where
      go : AtOpening more t n ⊎ (AtClosing more t n ⊎ AtOther more t n) → blocks more t (suc n) ≡ blocks more t n
      go (inl s) = absurd (omega (arith, s.before))
      go (inr (inl s)) = s.number
      go (inr (inr s)) = s.number

  inside_block : 0 < depth more e.thread n → transaction more n ≡ Block e.thread (blocks more e.thread n)
  inside_block d = block_from more n e.thread (blocks more e.thread (suc n)) (deep_in more e.thread n e (at_end trace) refl d) ∙ ap (Block e.thread) (stays e.thread 0 d)

  pub continues : (i : ℕ) → is_inside trace e ≡ true → last_of (λ f. f.thread == e.thread) trace n ≡ Some i → transaction more i ≡ transaction more n
  continues i inside last =
      let test = λ (f : Numbered). f.thread == e.thread in
      let d : 0 < depth trace e.thread n = ltb-true 0 (depth trace e.thread n) inside in
      let d' : 0 < depth more e.thread n = subst (λ k. 0 < k) deep_more d in
      let l = is_last test trace n i last in
      let latest : (p : ℕ) (g : Numbered) → p < n → slice_get trace p ≡ Some g → g.thread ≡ e.thread → p ≤ i =
      λ p g w at th. let c = last_covers test trace n p g at (eq-eqb g.thread e.thread th) w in subst (λ q. p ≤ q) (same_Some c.0 i (sym c.1 ∙ last)) c.2
      in
      sym (transaction_same n trace more agree i l.below)
      ∙ last_in_open trace e.thread n i l.event d l.below l.event_at (eqb-true (l.event).thread e.thread l.passed) latest
      ∙ ap (Block e.thread) (blocks_same n trace more agree e.thread n (le_refl n))
      ∙ sym (inside_block d')

  -- there is such an event
  pub has_last : is_inside trace e ≡ true → last_of (λ f. f.thread == e.thread) trace n ≢ None
  has_last inside none =
      let d : 0 < depth trace e.thread n = ltb-true 0 (depth trace e.thread n) inside in
      let b = begun trace e.thread n d in
      let i = begin_in trace e.thread b.place b.opening in
      let c = last_covers (λ f. f.thread == e.thread) trace n b.place i.event i.event_at (eq-eqb (i.event).thread e.thread i.thread) b.before in
      none-some c.0 (sym none ∙ c.1)

  -- outside it belongs to none of before
  pub begins : is_inside trace e ≡ false → (m : ℕ) → m < n → transaction more m ≢ transaction more n
  begins outside m l same = go (transaction more n) refl
    where
      none : depth more e.thread n ≡ 0
      none = let d = ltb-false 0 (depth trace e.thread n) outside in omega (arith, d, deep_more)

      opened : (u k : ℕ) → u ≡ e.thread → IsIn more n u k → IsIn more m u k → AtOpening more u n ⊎ ((0 < depth more u n) × (blocks more u n ≡ k)) → ⊥
      opened u k q here there (inl o) = omega (arith, o.number, here.number, there.number, blocks_rise more u (suc m) n (omega arith))
      opened u k q here there (inr c) = let d = ap (λ v. depth more v n) q in omega (arith, c.0, none, d)

      go : (x : Transaction) → transaction more n ≡ x → ⊥
      go (Unary p) q = omega (arith, in_unary more n p q, in_unary more m p (same ∙ q), l)
      go (Block u k) q =
          let here = in_block more n u k q in
          let it : here.event ≡ e = same_Some here.event e (sym here.event_at ∙ at_end trace) in
          opened u k (sym here.thread ∙ ap (λ (f : Numbered). f.thread) it) here (in_block more m u k (same ∙ q)) (in_cases more u n k here)

module _ (trace : List Numbered) (e : Numbered) (firsts : List ℕ) (edges : List (ℕ × ℕ)) (kept : Slot → Option ℕ) (reads : ℕ → List ℕ) (own_last : ℕ → Option ℕ) (are : AreFirsts trace firsts) (leads : AreEdges trace firsts edges) (keeps : Keeps trace firsts kept reads own_last) where
  -- the event is added, and its transaction has the number v
  pub record Added (longer : List ℕ) (v : ℕ) : Type 0 where
    pub numbered : AreFirsts (trace ++ e ∷ []) longer
    pub linked : (longest : List (ℕ × ℕ)) → AreLinked edges v (looked_back kept reads own_last e) longest → AreEdges (trace ++ e ∷ []) longer longest
    pub noted : (reads_after : ℕ → List ℕ) → AreReadsAfter e.what v reads reads_after → Keeps (trace ++ e ∷ []) longer (λ s. if of_slot s e then Some v else kept s) reads_after (λ u. if e.thread == u then Some v else own_last u)

  added : (longer : List ℕ) (v : ℕ) → AreFirsts (trace ++ e ∷ []) longer → ((x : Transaction) (u : ℕ) → HasNumber trace firsts x u → HasNumber (trace ++ e ∷ []) longer x u) → HasNumber (trace ++ e ∷ []) longer (transaction (trace ++ e ∷ []) (length trace)) v → Added longer v
  added longer v f keep new = record {
    numbered = f;
    linked = λ longest l. edges_more trace e firsts longer edges longest v _ keep new (are_sources trace firsts kept reads own_last keeps e longer v keep new f) l leads;
    noted = λ reads_after after. keeps_step trace firsts kept reads own_last keeps e longer v keep new reads_after after;
  }

  known_number : (v : ℕ) → own_last e.thread ≡ Some v → (i : ℕ) × (last_of (λ f. f.thread == e.thread) trace (length trace) ≡ Some i) × HasNumber trace firsts (transaction trace i) v
  known_number v known = go (last_of (λ f. f.thread == e.thread) trace (length trace)) refl (subst (IsKept trace firsts (last_of (λ f. f.thread == e.thread) trace (length trace))) known (keeps.owns e.thread))
    where
      go : (o : Option ℕ) → last_of (λ f. f.thread == e.thread) trace (length trace) ≡ o → IsKept trace firsts o (Some v) → (i : ℕ) × (last_of (λ f. f.thread == e.thread) trace (length trace) ≡ Some i) × HasNumber trace firsts (transaction trace i) v
      go None q k = absurd k
      go (Some i) q k = (i, q, k)

  no_number : own_last e.thread ≡ None → last_of (λ f. f.thread == e.thread) trace (length trace) ≡ None
  no_number unknown = go (last_of (λ f. f.thread == e.thread) trace (length trace)) (subst (IsKept trace firsts (last_of (λ f. f.thread == e.thread) trace (length trace))) unknown (keeps.owns e.thread))
    where
      go : (o : Option ℕ) → IsKept trace firsts o None → o ≡ None
      go None k = refl
      go (Some i) k = absurd k

  add_known : is_inside trace e ≡ true → (v : ℕ) → own_last e.thread ≡ Some v → Added firsts v
  add_known inside v known =
      let r = known_number v known in
      let same = continues trace e r.0 inside r.1 in
      let below = (is_last (λ f. f.thread == e.thread) trace (length trace) r.0 r.1).below in
      let keep = λ (x : Transaction) (u : ℕ). number_kept trace e firsts x u are in
      let old : HasNumber (trace ++ e ∷ []) firsts (transaction trace r.0) v = keep (transaction trace r.0) v r.2 in
      added firsts v (firsts_kept trace e firsts r.0 below same are) keep
      (subst (λ x. HasNumber (trace ++ e ∷ []) firsts x v) (transaction_same (length trace) trace (trace ++ e ∷ []) (agree trace e) r.0 below ∙ same) old)

  add_new : is_inside trace e ≡ false → Added (firsts ++ length trace ∷ []) (length firsts)
  add_new outside =
      added (firsts ++ length trace ∷ []) (length firsts)
      (firsts_begun trace e firsts (begins trace e outside) are)
      (λ x u. number_more trace e firsts (length trace) x u are)
      (number_new trace e firsts)

  pub add_event : (inside : Bool) → inside ≡ is_inside trace e → (known : Option ℕ) → known ≡ (if inside then own_last e.thread else None) → (longer : List ℕ) (v : ℕ) → IsNumbered known (length trace) firsts longer v → Added longer v
  add_event true i (Some u) k longer v (q, r) = subst (λ xs. Added xs v) (sym r) (subst (Added firsts) (sym q) (add_known (sym i) u (sym k)))
  add_event true i None k longer v (q, r) = absurd (has_last trace e (sym i) (no_number (sym k)))
  add_event false i (Some u) k longer v (q, r) = absurd (none-some u (sym k))
  add_event false i None k longer v (q, r) = subst (λ xs. Added xs v) (sym r) (subst (Added (firsts ++ length trace ∷ [])) (sym q) (add_new (sym i)))

-- what is kept may be given by other functions
pub keeps_as : (trace : List Numbered) (firsts : List ℕ) (kept kept' : Slot → Option ℕ) (reads : ℕ → List ℕ) (own own' : ℕ → Option ℕ) → Keeps trace firsts kept reads own → ((s : Slot) → is_looked_at s ≡ true → kept' s ≡ kept s) → ((t : ℕ) → own' t ≡ own t) → Keeps trace firsts kept' reads own'
keeps_as trace firsts kept kept' reads own own' k same_kept same_own = record {
  slots = λ s part. subst (IsKept trace firsts _) (sym (same_kept s part)) (k.slots s part);
  read = k.read;
  owns = λ t. subst (IsKept trace firsts _) (sym (same_own t)) (k.owns t);
}
