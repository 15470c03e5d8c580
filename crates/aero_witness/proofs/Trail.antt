-- A trail has the transactions, the conflicts and the telling cycles of its trace.
use Rattle.std.proofs.Common.{◌≡◌, ◌⊎◌, ℕ, zero, suc, ◌+◌, ◌-◌, ◌<◌, ◌==◌, ◌&&◌, ◌||◌, nat_lt, Bool, true, false, if◌then◌else◌, List, [], ◌∷◌, length, Some, None, inl, inr, refl, sym, ◌∙◌, ap, ap₂, subst, arith}
use Rattle.std.specs.Prelude.{slice_get}
use Rattle.std.proofs.lemmas.Bool.{cases_eq, cases_lt, cases_Bool, eq-eqb, ne_eqb, cond-true, cond-false, lt-ltb, le-ltb, or_right, both_ways, and_left, and_from}
use Rattle.std.proofs.lemmas.Option.{same_Some, slice_get_past}
use Rattle.aero_model.specs.declared.numbered.Numbered.{Numbered}
use Rattle.aero_model.specs.declared.numbered.What.{What}
use Rattle.aero_model.specs.declared.numbered.What.TheVariants.{Fork, Join}
use Rattle.aero_model.specs.Blocks.{is_begin, is_end, by_thread, depth, opens, closes, blocks, Transaction, Block, Unary, of_event, transaction, HasEnded, IsOpen}
use Rattle.aero_model.specs.Graph as graph
use Rattle.aero_model.specs.Graph.{Conflict, Conflicts, same_thread, write_read, read_write, write_write, release_acquire, forks, joined, IsVisit, IsForward, GoesOn, AreApart, IsTelling, last_visit, LeadsTo}
use Rattle.aero_model.proofs.Depths.{AtOpening, AtClosing, AtOther, step}
use Rattle.aero_model.proofs.Telling.{event_at}
use Rattle.aero_witness.specs.Led.{IsLed}
use Rattle.aero_witness.specs.Trail.{is_deed, IsRecorded, IsTrail}

module _ (trace recorded : List Numbered) (trail : IsTrail trace recorded) where
  -- an event of both, or of none
  pub both : (n : ℕ) → ((e : Numbered) × (r : Numbered) × (slice_get trace n ≡ Some e) × (slice_get recorded n ≡ Some r)) ⊎ ((slice_get trace n ≡ None) × (slice_get recorded n ≡ None))
  both n =
      let each = trail.each in
      elim (cases_lt n (length trace)) [
        | inl l ↦ (let e = event_at trace n l in let r = event_at recorded n (omega arith) in inl (e.0, r.0, e.1, r.1))
        | inr past ↦ inr (slice_get_past trace n past, slice_get_past recorded n (omega arith))
      ]

  same_test : (b : Bool) (x y : Bool) → x ≡ y → (b && x) ≡ (b && y)
  same_test b x y e = ap (λ z. b && z) e

  begins_at : (t n : ℕ) → by_thread t is_begin (slice_get recorded n) ≡ opens trace t n
  begins_at t n = elim (both n) [
    | inr none ↦ ap (by_thread t is_begin) none.1 ∙ sym (ap (λ o. by_thread t is_begin o && (depth trace t n == 0)) none.0)
    | inl h ↦ ap (by_thread t is_begin) h.3 ∙ go h.0 h.1 h.2 (trail.at n h.0 h.1 h.2 h.3)
  ]
    where
      go : (e r : Numbered) → slice_get trace n ≡ Some e → IsRecorded trace n e r → by_thread t is_begin (Some r) ≡ opens trace t n
      go e r at is = elim (cases_eq e.thread t) [
        | inl here ↦
            let one : (r.thread == t) ≡ true = eq-eqb r.thread t (is.thread ∙ here) in
            ap (λ b. b && is_begin r.what) one ∙ is.begins ∙ ap (λ u. opens trace u n) here
        | inr other ↦
            let no : (r.thread == t) ≡ false = ne_eqb r.thread t (λ same. other (sym is.thread ∙ same)) in
            let none : (e.thread == t) ≡ false = ne_eqb e.thread t other in
            ap (λ b. b && is_begin r.what) no ∙ sym (ap (λ o. by_thread t is_begin o && (depth trace t n == 0)) at ∙ ap (λ b. (b && is_begin e.what) && (depth trace t n == 0)) none)
      ]

  ends_at : (t n : ℕ) → by_thread t is_end (slice_get recorded n) ≡ closes trace t n
  ends_at t n = elim (both n) [
    | inr none ↦ ap (by_thread t is_end) none.1 ∙ sym (ap (λ o. by_thread t is_end o && (depth trace t n == 1)) none.0)
    | inl h ↦ ap (by_thread t is_end) h.3 ∙ go h.0 h.1 h.2 (trail.at n h.0 h.1 h.2 h.3)
  ]
    where
      go : (e r : Numbered) → slice_get trace n ≡ Some e → IsRecorded trace n e r → by_thread t is_end (Some r) ≡ closes trace t n
      go e r at is = elim (cases_eq e.thread t) [
        | inl here ↦
            let one : (r.thread == t) ≡ true = eq-eqb r.thread t (is.thread ∙ here) in
            ap (λ b. b && is_end r.what) one ∙ is.ends ∙ ap (λ u. closes trace u n) here
        | inr other ↦
            let no : (r.thread == t) ≡ false = ne_eqb r.thread t (λ same. other (sym is.thread ∙ same)) in
            let none : (e.thread == t) ≡ false = ne_eqb e.thread t other in
            ap (λ b. b && is_end r.what) no ∙ sym (ap (λ o. by_thread t is_end o && (depth trace t n == 1)) at ∙ ap (λ b. (b && is_end e.what) && (depth trace t n == 1)) none)
      ]

  -- the depth is 1 where a block is open
  record Flat (t n : ℕ) : Type 0 where
    shut : depth trace t n ≡ 0 → depth recorded t n ≡ 0
    deep : 0 < depth trace t n → depth recorded t n ≡ 1
    number : blocks recorded t n ≡ blocks trace t n

  depth_next : (t n : ℕ) → depth recorded t (suc n) ≡ (if opens trace t n then depth recorded t n + 1 else if closes trace t n then depth recorded t n - 1 else depth recorded t n)
  depth_next t n =
      ap₂ (λ b e. if b then depth recorded t n + 1 else if e then depth recorded t n - 1 else depth recorded t n) (begins_at t n) (ends_at t n)

  opens_same : (t n : ℕ) → Flat t n → opens recorded t n ≡ opens trace t n
  opens_same t n f = go (step trace t n)
    where
      go : AtOpening trace t n ⊎ (AtClosing trace t n ⊎ AtOther trace t n) → opens recorded t n ≡ opens trace t n
      go (inl s) = and_from (by_thread t is_begin (slice_get recorded n)) (depth recorded t n == 0) (begins_at t n ∙ s.opens) (eq-eqb (depth recorded t n) 0 (f.shut s.before)) ∙ sym s.opens
      go (inr (inl s)) = and_left (by_thread t is_begin (slice_get recorded n)) (depth recorded t n == 0) (begins_at t n ∙ s.opens) ∙ sym s.opens
      go (inr (inr s)) = and_left (by_thread t is_begin (slice_get recorded n)) (depth recorded t n == 0) (begins_at t n ∙ s.opens) ∙ sym s.opens

  closes_same : (t n : ℕ) → Flat t n → closes recorded t n ≡ closes trace t n
  closes_same t n f = go (step trace t n)
    where
      go : AtOpening trace t n ⊎ (AtClosing trace t n ⊎ AtOther trace t n) → closes recorded t n ≡ closes trace t n
      go (inl s) = and_left (by_thread t is_end (slice_get recorded n)) (depth recorded t n == 1) (ends_at t n ∙ s.closes) ∙ sym s.closes
      go (inr (inl s)) = (let before = s.before in and_from (by_thread t is_end (slice_get recorded n)) (depth recorded t n == 1) (ends_at t n ∙ s.closes) (eq-eqb (depth recorded t n) 1 (f.deep (omega arith)))) ∙ sym s.closes
      go (inr (inr s)) = and_left (by_thread t is_end (slice_get recorded n)) (depth recorded t n == 1) (ends_at t n ∙ s.closes) ∙ sym s.closes

  flat : (t n : ℕ) → Flat t n
  flat t zero = record { shut = λ z. refl; deep = λ l. absurd (omega arith); number = refl }
  flat t (suc n) = go (flat t n) (step trace t n)
    where
      number_next : Flat t n → blocks recorded t (suc n) ≡ blocks trace t (suc n)
      number_next f =
          ap (λ b. if b then blocks recorded t n + 1 else blocks recorded t n) (opens_same t n f) ∙ ap (λ k. if opens trace t n then k + 1 else k) f.number

      go : Flat t n → AtOpening trace t n ⊎ (AtClosing trace t n ⊎ AtOther trace t n) → Flat t (suc n)
      go f (inl s) =
          let d = depth_next t n ∙ cond-true (opens trace t n) _ _ s.opens in
          let before = f.shut s.before in
          let after = s.after in
          record { shut = λ z. absurd (omega arith); deep = λ l. omega arith; number = number_next f }
      go f (inr (inl s)) =
          let d = depth_next t n ∙ cond-false (opens trace t n) _ _ s.opens ∙ cond-true (closes trace t n) _ _ s.closes in
          let was = s.before in
          let before = f.deep (omega arith) in
          let after = s.after in
          record { shut = λ z. omega arith; deep = λ l. absurd (omega arith); number = number_next f }
      go f (inr (inr s)) =
          let d = depth_next t n ∙ cond-false (opens trace t n) _ _ s.opens ∙ cond-false (closes trace t n) _ _ s.closes in
          record {
            shut = λ z. elim (cases_eq (depth trace t n) 0) [ inl was ↦ (let before = f.shut was in omega arith) | inr was ↦ (let more = s.inside (omega arith) in absurd (omega arith)) ];
            deep = λ l. elim (cases_eq (depth trace t n) 0) [ inl was ↦ (let none = s.outside was in absurd (omega arith)) | inr was ↦ (let before = f.deep (omega arith) in omega arith) ];
            number = number_next f;
          }

  pub blocks_same : (t n : ℕ) → blocks recorded t n ≡ blocks trace t n
  blocks_same t n = (flat t n).number

  inside_same : (t n : ℕ) → nat_lt 0 (depth recorded t n) ≡ nat_lt 0 (depth trace t n)
  inside_same t n =
      let f = flat t n in
      elim (cases_eq (depth trace t n) 0) [
        | inl z ↦ (let e = f.shut z in le-ltb 0 (depth recorded t n) (omega arith) ∙ sym (le-ltb 0 (depth trace t n) (omega arith)))
        | inr d ↦ (let e = f.deep (omega arith) in lt-ltb 0 (depth recorded t n) (omega arith) ∙ sym (lt-ltb 0 (depth trace t n) (omega arith)))
      ]

  or_true : (b : Bool) → (b || true) ≡ true
  or_true b = or_right b true refl

  pub transaction_recorded : (n : ℕ) → transaction recorded n ≡ transaction trace n
  transaction_recorded n = elim (both n) [
    | inr none ↦ ap (of_event recorded n) none.1 ∙ sym (ap (of_event trace n) none.0)
    | inl h ↦ ap (of_event recorded n) h.3 ∙ go h.0 h.1 h.2 (trail.at n h.0 h.1 h.2 h.3) ∙ sym (ap (of_event trace n) h.2)
  ]
    where
      go : (e r : Numbered) → slice_get trace n ≡ Some e → IsRecorded trace n e r → of_event recorded n (Some r) ≡ of_event trace n (Some e)
      go e r at is =
          let t = e.thread in
          let inside : (is_begin r.what || nat_lt 0 (depth recorded t n)) ≡ (is_begin e.what || nat_lt 0 (depth trace t n)) =
          elim (cases_eq (depth trace t n) 0) [
            | inl z ↦
                let here : opens trace t n ≡ is_begin e.what =
                ap (λ o. by_thread t is_begin o && (depth trace t n == 0)) at ∙ ap (λ b. (b && is_begin e.what) && (depth trace t n == 0)) (eq-eqb t t refl) ∙ ap (λ b. is_begin e.what && b) (eq-eqb (depth trace t n) 0 z) ∙ and_true (is_begin e.what) in
                ap₂ (λ b d. b || d) (is.begins ∙ here) (inside_same t n)
            | inr d ↦
                let deep = lt-ltb 0 (depth trace t n) (omega arith) in
                ap (λ x. is_begin r.what || x) (inside_same t n ∙ deep) ∙ or_true (is_begin r.what) ∙ sym (ap (λ x. is_begin e.what || x) deep ∙ or_true (is_begin e.what))
          ] in
          ap (λ u. if is_begin r.what || nat_lt 0 (depth recorded u n) then Block u (blocks recorded u (suc n)) else Unary n) is.thread
          ∙ ap₂ (λ b k. if b then Block t k else Unary n) inside (blocks_same t (suc n))
        where
          and_true : (b : Bool) → (b && true) ≡ b
          and_true true = refl
          and_true false = refl

  pub ended_recorded : (n : ℕ) (x : Transaction) → HasEnded trace n x → HasEnded recorded n x
  ended_recorded n (Unary p) h = tt
  ended_recorded n (Block t k) (q, l, c, e) = (q, l, closes_same t q (flat t q) ∙ c, blocks_same t q ∙ e)

  pub ended_back : (n : ℕ) (x : Transaction) → HasEnded recorded n x → HasEnded trace n x
  ended_back n (Unary p) h = tt
  ended_back n (Block t k) (q, l, c, e) = (q, l, sym (closes_same t q (flat t q)) ∙ c, sym (blocks_same t q) ∙ e)

  is_deed_of : (w v : What) → w ≡ v → is_deed v ≡ true → is_deed w ≡ true
  is_deed_of w v e d = ap is_deed e ∙ d

  -- a deed of the recorded event is the event's own
  own_deed : (i : ℕ) (e r : Numbered) → IsRecorded trace i e r → is_deed r.what ≡ true → r.what ≡ e.what
  own_deed i e r is d = elim (cases_Bool (is_deed e.what)) [ inl deed ↦ is.deed deed | inr none ↦ absurd (both_ways (is_deed r.what) (is.none none) d) ]

  conflicts_back : (i j : ℕ) (a b c d : Numbered) → IsRecorded trace i a c → IsRecorded trace j b d → Conflicts c d → Conflicts a b
  conflicts_back i j a b c d p q (same_thread e) = same_thread (sym p.thread ∙ e ∙ q.thread)
  conflicts_back i j a b c d p q (write_read x v w) = write_read x (sym (own_deed i a c p (ap is_deed v)) ∙ v) (sym (own_deed j b d q (ap is_deed w)) ∙ w)
  conflicts_back i j a b c d p q (read_write x v w) = read_write x (sym (own_deed i a c p (ap is_deed v)) ∙ v) (sym (own_deed j b d q (ap is_deed w)) ∙ w)
  conflicts_back i j a b c d p q (write_write x v w) = write_write x (sym (own_deed i a c p (ap is_deed v)) ∙ v) (sym (own_deed j b d q (ap is_deed w)) ∙ w)
  conflicts_back i j a b c d p q (release_acquire l v w) = release_acquire l (sym (own_deed i a c p (ap is_deed v)) ∙ v) (sym (own_deed j b d q (ap is_deed w)) ∙ w)
  conflicts_back i j a b c d p q (forks v) = forks (sym (own_deed i a c p (ap is_deed v)) ∙ v ∙ ap Fork q.thread)
  conflicts_back i j a b c d p q (joined w) = joined (sym (own_deed j b d q (ap is_deed w)) ∙ w ∙ ap Join p.thread)

  conflicts_on : (i j : ℕ) (a b c d : Numbered) → IsRecorded trace i a c → IsRecorded trace j b d → Conflicts a b → Conflicts c d
  conflicts_on i j a b c d p q (same_thread e) = same_thread (p.thread ∙ e ∙ sym q.thread)
  conflicts_on i j a b c d p q (write_read x v w) = write_read x (p.deed (ap is_deed v) ∙ v) (q.deed (ap is_deed w) ∙ w)
  conflicts_on i j a b c d p q (read_write x v w) = read_write x (p.deed (ap is_deed v) ∙ v) (q.deed (ap is_deed w) ∙ w)
  conflicts_on i j a b c d p q (write_write x v w) = write_write x (p.deed (ap is_deed v) ∙ v) (q.deed (ap is_deed w) ∙ w)
  conflicts_on i j a b c d p q (release_acquire l v w) = release_acquire l (p.deed (ap is_deed v) ∙ v) (q.deed (ap is_deed w) ∙ w)
  conflicts_on i j a b c d p q (forks v) = forks (p.deed (ap is_deed v) ∙ v ∙ ap Fork (sym q.thread))
  conflicts_on i j a b c d p q (joined w) = joined (q.deed (ap is_deed w) ∙ w ∙ ap Join (sym p.thread))

  conflict_back : (i j : ℕ) → Conflict recorded i j → Conflict trace i j
  conflict_back i j c = go (both i) (both j)
    where
      go : ((e : Numbered) × (r : Numbered) × (slice_get trace i ≡ Some e) × (slice_get recorded i ≡ Some r)) ⊎ ((slice_get trace i ≡ None) × (slice_get recorded i ≡ None)) → ((e : Numbered) × (r : Numbered) × (slice_get trace j ≡ Some e) × (slice_get recorded j ≡ Some r)) ⊎ ((slice_get trace j ≡ None) × (slice_get recorded j ≡ None)) → Conflict trace i j
      go (inr none) h = let e : None ≡ Some c.first = sym none.1 ∙ c.first_at in absurd (cc)
      go (inl g) (inr none) = let e : None ≡ Some c.second = sym none.1 ∙ c.second_at in absurd (cc)
      go (inl g) (inl h) =
          let one = same_Some c.first g.1 (sym c.first_at ∙ g.3) in
          let other = same_Some c.second h.1 (sym c.second_at ∙ h.3) in
          let between = subst (Conflicts g.1) other (subst (λ x. Conflicts x c.second) one c.conflict) in
          record { earlier = c.earlier; first = g.0; first_at = g.2; second = h.0; second_at = h.2; conflict = conflicts_back i j g.0 h.0 g.1 h.1 (trail.at i g.0 g.1 g.2 g.3) (trail.at j h.0 h.1 h.2 h.3) between }

  conflict_on : (i j : ℕ) → Conflict trace i j → Conflict recorded i j
  conflict_on i j c = go (both i) (both j)
    where
      go : ((e : Numbered) × (r : Numbered) × (slice_get trace i ≡ Some e) × (slice_get recorded i ≡ Some r)) ⊎ ((slice_get trace i ≡ None) × (slice_get recorded i ≡ None)) → ((e : Numbered) × (r : Numbered) × (slice_get trace j ≡ Some e) × (slice_get recorded j ≡ Some r)) ⊎ ((slice_get trace j ≡ None) × (slice_get recorded j ≡ None)) → Conflict recorded i j
      go (inr none) h = let e : None ≡ Some c.first = sym none.0 ∙ c.first_at in absurd (cc)
      go (inl g) (inr none) = let e : None ≡ Some c.second = sym none.0 ∙ c.second_at in absurd (cc)
      go (inl g) (inl h) =
          let one = same_Some c.first g.0 (sym c.first_at ∙ g.2) in
          let other = same_Some c.second h.0 (sym c.second_at ∙ h.2) in
          let between = subst (Conflicts g.0) other (subst (λ x. Conflicts x c.second) one c.conflict) in
          record { earlier = c.earlier; first = g.1; first_at = g.3; second = h.1; second_at = h.3; conflict = conflicts_on i j g.0 h.0 g.1 h.1 (trail.at i g.0 g.1 g.2 g.3) (trail.at j h.0 h.1 h.2 h.3) between }

  module _ (n : ℕ) where
    visit_back : (v : graph.Visit) → IsVisit recorded n v → IsVisit trace n v
    visit_back v is = record { enters = is.enters; leaves = is.leaves; one = sym (transaction_recorded v.enters) ∙ is.one ∙ transaction_recorded v.leaves }

    visit_on : (v : graph.Visit) → IsVisit trace n v → IsVisit recorded n v
    visit_on v is = record { enters = is.enters; leaves = is.leaves; one = transaction_recorded v.enters ∙ is.one ∙ sym (transaction_recorded v.leaves) }

    forward_back : (v : graph.Visit) → IsForward recorded n v → IsForward trace n v
    forward_back v f = elim f [ inl le ↦ inl le | inr ended ↦ inr (subst (HasEnded trace n) (transaction_recorded v.enters) (ended_back n (transaction recorded v.enters) ended)) ]

    forward_on : (v : graph.Visit) → IsForward trace n v → IsForward recorded n v
    forward_on v f = elim f [ inl le ↦ inl le | inr ended ↦ inr (subst (HasEnded recorded n) (sym (transaction_recorded v.enters)) (ended_recorded n (transaction trace v.enters) ended)) ]

    goes_back : (v : graph.Visit) (ws : List graph.Visit) → GoesOn recorded n v ws → GoesOn trace n v ws
    goes_back v [] g = tt
    goes_back v (w ∷ ws) g = (conflict_back v.leaves w.enters g.0, visit_back w g.1, forward_back w g.2, goes_back w ws g.3)

    goes_on : (v : graph.Visit) (ws : List graph.Visit) → GoesOn trace n v ws → GoesOn recorded n v ws
    goes_on v [] g = tt
    goes_on v (w ∷ ws) g = (conflict_on v.leaves w.enters g.0, visit_on w g.1, forward_on w g.2, goes_on w ws g.3)

    apart_back : (v : graph.Visit) (ws : List graph.Visit) → AreApart recorded n v ws → AreApart trace n v ws
    apart_back v [] a = tt
    apart_back v (w ∷ ws) a = ((λ e. a.0 (transaction_recorded v.enters ∙ e ∙ sym (transaction_recorded w.enters))), apart_back w ws a.1)

    apart_on : (v : graph.Visit) (ws : List graph.Visit) → AreApart trace n v ws → AreApart recorded n v ws
    apart_on v [] a = tt
    apart_on v (w ∷ ws) a = ((λ e. a.0 (sym (transaction_recorded v.enters) ∙ e ∙ transaction_recorded w.enters)), apart_on w ws a.1)

    -- the telling cycles of the one are those of the other
    pub telling_back : (v : graph.Visit) (ws : List graph.Visit) → IsTelling recorded n v ws → IsTelling trace n v ws
    telling_back v ws h =
        let last = last_visit v ws in
        record {
          visit = visit_back v h.visit;
          walk = goes_back v ws h.walk;
          closed = conflict_back last.leaves v.enters h.closed;
          apart = apart_back v ws h.apart;
          ends_apart = λ e. h.ends_apart (transaction_recorded last.enters ∙ e ∙ sym (transaction_recorded v.enters));
        }

    pub telling_on : (v : graph.Visit) (ws : List graph.Visit) → IsTelling trace n v ws → IsTelling recorded n v ws
    telling_on v ws h =
        let last = last_visit v ws in
        record {
          visit = visit_on v h.visit;
          walk = goes_on v ws h.walk;
          closed = conflict_on last.leaves v.enters h.closed;
          apart = apart_on v ws h.apart;
          ends_apart = λ e. h.ends_apart (sym (transaction_recorded last.enters) ∙ e ∙ transaction_recorded v.enters);
        }

    -- open blocks lead to the same events
    pub leads_back : (x : Transaction) (j : ℕ) → LeadsTo recorded n x j → LeadsTo trace n x j
    leads_back x j (v, ws, is, goes, of, at) = (v, ws, visit_back v is, goes_back v ws goes, sym (transaction_recorded v.enters) ∙ of, at)

    pub leads_on : (x : Transaction) (j : ℕ) → LeadsTo trace n x j → LeadsTo recorded n x j
    leads_on x j (v, ws, is, goes, of, at) = (v, ws, visit_on v is, goes_on v ws goes, transaction_recorded v.enters ∙ of, at)

    open_back : (x : Transaction) → IsOpen recorded n x → IsOpen trace n x
    open_back x ((i, l, e), going) = ((i, l, sym (transaction_recorded i) ∙ e), λ ended. going (ended_recorded n x ended))

    open_on : (x : Transaction) → IsOpen trace n x → IsOpen recorded n x
    open_on x ((i, l, e), going) = ((i, l, transaction_recorded i ∙ e), λ ended. going (ended_back n x ended))

    pub led_back : (j : ℕ) → IsLed recorded n j → IsLed trace n j
    led_back j (x, is_open, leads) = (x, open_back x is_open, leads_back x j leads)

    pub led_on : (j : ℕ) → IsLed trace n j → IsLed recorded n j
    led_on j (x, is_open, leads) = (x, open_on x is_open, leads_on x j leads)
