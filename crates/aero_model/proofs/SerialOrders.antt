-- There is one serial order, its edges go forwards, and it has every transaction exactly where no cycle is.
use Rattle.std.proofs.Common.{◌≡◌, ◌≢◌, ◌⊎◌, ℕ, zero, suc, ◌<◌, ◌≤◌, List, [], ◌∷◌, ◌++◌, length, Some, inl, inr, refl, sym, ◌∙◌, ap, subst, le_refl, append_assoc, append-nil, arith}
use Rattle.std.specs.Prelude.{slice_get}
use Rattle.std.proofs.lemmas.Bool.{cases_order}
use Rattle.std.proofs.lemmas.Option.{same_Some, slice_get_within}
use Rattle.std.proofs.lemmas.List.Elements.{Contains-append_left}
use Rattle.aero_model.specs.declared.numbered.Numbered.{Numbered}
use Rattle.aero_model.specs.Blocks.{Transaction, transaction}
use Rattle.aero_model.specs.Cycle.{IsSerializable}
use Rattle.aero_model.specs.Graph.{Edge, Edges, last_transaction}
use Rattle.aero_model.specs.Serial.{IsFirstPlace, Stands, IsReady, IsNext, GrowsBy, IsSerialOrder, IsComplete, GoesForwards}
use Rattle.aero_model.proofs.Ready.{stands_at, place_of}

-- an element after one more went to the end
pub at_push : (xs : List ℕ) (y i x : ℕ) → slice_get (xs ++ y ∷ []) i ≡ Some x → (slice_get xs i ≡ Some x) ⊎ ((i ≡ length xs) × (x ≡ y))
at_push [] y zero x at = inr (refl, sym (same_Some y x at))
at_push [] y (suc i) x at = absurd (cc)
at_push (z ∷ zs) y zero x at = inl at
at_push (z ∷ zs) y (suc i) x at = elim (at_push zs y i x at) [ inl h ↦ inl h | inr h ↦ (let e = h.0 in inr (omega arith, h.1)) ]

module _ (trace : List Numbered) where
  abbrev of_place : ℕ → Transaction
  of_place n = transaction trace n

  abbrev IsEdge : Transaction → Transaction → Type 0
  IsEdge x y = Edge trace (length trace) x y

  pub stands_more : (order more : List ℕ) (x : Transaction) → Stands trace order x → Stands trace (order ++ more) x
  stands_more order more x s = (s.0, Contains-append_left order more s.0 s.1, s.2)

  -- what a list keeps that grows by the rule
  pub record Sound (order : List ℕ) : Type 0 where
    pub forwards : GoesForwards trace order
    pub behind : (n : ℕ) → Stands trace order (of_place n) → (x : Transaction) → IsEdge x (of_place n) → Stands trace order x

  pub sound_nil : Sound []
  sound_nil = record {
    forwards = record { places = λ i n at. absurd (cc); once = λ i j n at at'. absurd (cc); forwards = λ i j m n at at' e. absurd (cc) };
    behind = λ n s. absurd (omega (arith, s.1.1));
  }

  pub sound_next : (order : List ℕ) (n : ℕ) → Sound order → IsNext trace order n → Sound (order ++ n ∷ [])
  sound_next order n s next = record { forwards = record { places = places; once = once; forwards = forwards }; behind = behind }
    where
      old : (i m : ℕ) → slice_get order i ≡ Some m → of_place m ≢ of_place n
      old i m at e = next.ready.new (subst (Stands trace order) e (stands_at trace order i m at))

      places : (i m : ℕ) → slice_get (order ++ n ∷ []) i ≡ Some m → IsFirstPlace trace m
      places i m at = elim (at_push order n i m at) [ inl h ↦ s.forwards.places i m h | inr h ↦ subst (IsFirstPlace trace) (sym h.1) next.ready.place ]

      once : (i j m : ℕ) → slice_get (order ++ n ∷ []) i ≡ Some m → slice_get (order ++ n ∷ []) j ≡ Some m → i ≡ j
      once i j m at_i at_j = go (at_push order n i m at_i) (at_push order n j m at_j)
        where
          go : (slice_get order i ≡ Some m) ⊎ ((i ≡ length order) × (m ≡ n)) → (slice_get order j ≡ Some m) ⊎ ((j ≡ length order) × (m ≡ n)) → i ≡ j
          go (inl a) (inl b) = s.forwards.once i j m a b
          go (inl a) (inr b) = absurd (old i m a (ap of_place b.1))
          go (inr a) (inl b) = absurd (old j m b (ap of_place a.1))
          go (inr a) (inr b) = a.0 ∙ sym b.0

      forwards : (i j m k : ℕ) → slice_get (order ++ n ∷ []) i ≡ Some m → slice_get (order ++ n ∷ []) j ≡ Some k → IsEdge (of_place m) (of_place k) → i < j
      forwards i j m k at_i at_j edge = go (at_push order n i m at_i) (at_push order n j k at_j)
        where
          go : (slice_get order i ≡ Some m) ⊎ ((i ≡ length order) × (m ≡ n)) → (slice_get order j ≡ Some k) ⊎ ((j ≡ length order) × (k ≡ n)) → i < j
          go (inl a) (inl b) = s.forwards.forwards i j m k a b edge
          go (inl a) (inr b) = let l = slice_get_within order i m a in let e = b.0 in omega arith
          go (inr a) (inl b) =
              absurd (next.ready.new (subst (Stands trace order) (ap of_place a.1) (s.behind k (stands_at trace order j k b) (of_place m) edge)))
          go (inr a) (inr b) = absurd (edge.apart (ap of_place (a.1 ∙ sym b.1)))

      behind : (m : ℕ) → Stands trace (order ++ n ∷ []) (of_place m) → (x : Transaction) → IsEdge x (of_place m) → Stands trace (order ++ n ∷ []) x
      behind m (k, at, e) x edge =
          let p = place_of trace (order ++ n ∷ []) k at in
          stands_more order (n ∷ []) x (elim (at_push order n p.0 k p.1) [
            | inl h ↦ s.behind m (subst (Stands trace order) e (stands_at trace order p.0 k h)) x edge
            | inr h ↦ next.ready.after x (subst (IsEdge x) (sym e ∙ ap of_place h.1) edge)
          ])

  sound_grown : (order more : List ℕ) → Sound order → GrowsBy trace order more → Sound (order ++ more)
  sound_grown order [] s g = subst Sound (sym (append-nil order)) s
  sound_grown order (n ∷ more) s g = subst Sound (append_assoc order (n ∷ []) more) (sound_grown (order ++ n ∷ []) more (sound_next order n s g.0) g.1)

  pub none_left : (order more : List ℕ) → GrowsBy trace order more → (n : ℕ) → ¬ IsReady trace (order ++ more) n
  none_left order [] g n r = g n (subst (λ o. IsReady trace o n) (append-nil order) r)
  none_left order (m ∷ more) g n r = none_left (order ++ m ∷ []) more g.1 n (subst (λ o. IsReady trace o n) (sym (append_assoc order (m ∷ []) more)) r)

  pub sound_order : (order : List ℕ) → IsSerialOrder trace order → Sound order
  sound_order order g = sound_grown [] order sound_nil g

  -- one of two lists that grow by the rule is the other
  one_next : (order : List ℕ) (m n : ℕ) → IsNext trace order m → IsNext trace order n → m ≡ n
  one_next order m n a b = elim (cases_order m n) [ inl e ↦ e | inr (inl l) ↦ absurd (b.earliest m l a.ready) | inr (inr l) ↦ absurd (a.earliest n l b.ready) ]

  pub one_growth : (order more other : List ℕ) → GrowsBy trace order more → GrowsBy trace order other → more ≡ other
  one_growth order [] [] g h = refl
  one_growth order [] (n ∷ other) g h = absurd (g n h.0.ready)
  one_growth order (m ∷ more) [] g h = absurd (h m g.0.ready)
  one_growth order (m ∷ more) (n ∷ other) g h =
      let e = one_next order m n g.0 h.0 in
      let rest = one_growth (order ++ m ∷ []) more other g.1 (subst (λ k. GrowsBy trace (order ++ k ∷ []) other) (sym e) h.1) in
      ap (λ k. k ∷ more) e ∙ ap (λ ks. n ∷ ks) rest

  -- every transaction stands: along edges one goes forwards
  record At (order : List ℕ) (x : Transaction) : Type 0 where
    index : ℕ
    place : ℕ
    at : slice_get order index ≡ Some place
    of : of_place place ≡ x

  at_from_stands : (order : List ℕ) (x : Transaction) → Stands trace order x → At order x
  at_from_stands order x s = let p = place_of trace order s.0 s.1 in record { index = p.0; place = s.0; at = p.1; of = s.2 }

  module _ (order : List ℕ) (sound : Sound order) (complete : IsComplete trace order) where
    edge_rises : (x y : Transaction) (a : At order x) (b : At order y) → IsEdge x y → a.index < b.index
    edge_rises x y a b edge =
        sound.forwards.forwards a.index b.index a.place b.place a.at b.at (subst (λ z. IsEdge z (of_place b.place)) (sym a.of) (subst (IsEdge x) (sym b.of) edge))

    edges_rise : (x : Transaction) (ys : List Transaction) (a : At order x) → Edges trace (length trace) x ys → (b : At order (last_transaction x ys)) × (a.index ≤ b.index)
    edges_rise x [] a edges = (a, le_refl a.index)
    edges_rise x (y ∷ ys) a edges =
        let edge = edges.0 in
        let b = at_from_stands order y (subst (Stands trace order) edge.to_in (complete edge.to edge.within)) in
        let rest = edges_rise y ys b edges.1 in
        (rest.0, omega (arith, edge_rises x y a b edge, rest.1))

    pub no_cycle : IsSerializable trace (length trace)
    no_cycle first rest cycle =
        let edge = cycle.closed in
        let a = at_from_stands order first (subst (Stands trace order) edge.to_in (complete edge.to edge.within)) in
        let last = edges_rise first rest a cycle.edges in
        omega (arith, edge_rises (last_transaction first rest) first last.0 a edge, last.1)
