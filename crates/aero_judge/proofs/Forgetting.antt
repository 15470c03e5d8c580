-- What a recorder has recorded it has still with the next event, though it forgets what no open block leads to.
use Rattle.std.proofs.Common.{◌≡◌, ◌⊎◌, ◌↔◌, ℕ, zero, suc, ◌<◌, ◌≤◌, Bool, true, List, [], ◌∷◌, ◌++◌, length, map, take, Option, Some, None, Result, Ok, Err, inl, inr, refl, sym, ◌∙◌, ap, subst, le_refl, arith}
use Rattle.std.specs.Prelude.{slice_get, IfOk, OnOk}
use Rattle.std.proofs.lemmas.List.{length_push, length-map, map-append}
use Rattle.std.proofs.lemmas.Option.{same_Some, slice_get_within}
use Rattle.aero_model.specs.declared.numbered.Numbered.{Numbered}
use Rattle.aero_model.specs.Cycle.{HasTellingCycle}
use Rattle.aero_model.specs.Exempt.{IsJudgedAs}
use Rattle.aero_model.specs.Shape.{shape_fault}
use Rattle.aero_model.proofs.Telling.{event_at, telling_front}
use Rattle.aero_model.proofs.WellFormed.{well_formed_front}
use Rattle.aero_shape.proofs.Pushed.{take_front}
use Rattle.aero_shape.specs.Admission.{admitted_as}
use Rattle.aero_engine.specs.declared.spent.Spent.{Spent}
use Rattle.aero_engine.specs.Given.{Given}
use Rattle.aero_engine.specs.Judgement.{IsTold}
use Rattle.aero_engine.specs.Judging.{ComesAfter, Tells}
use Rattle.aero_leads.specs.declared.leads.Leads.{Leads}
use Rattle.aero_leads.specs.Leads.{is_led}
use Rattle.aero_leads.specs.Leasts.{IsLeastOf}
use Rattle.aero_leads.specs.Standing as standing
use Rattle.aero_leads.specs.Standing.{state_of}
use Rattle.aero_leads.proofs.LedEvents.{led_from, led_to}
use Rattle.aero_witness.specs.Led.{IsLed}
use Rattle.aero_witness.specs.Thinned.{IsAmong, IsEnough, marked}
use Rattle.aero_witness.proofs.Enough.{enough_stays, led_is_enough}
use Rattle.aero_witness.proofs.Pushed.{push_front, push_last, push_cases, nth_mark, marked_at, marked_same, marked_long}
use Rattle.aero_witness.proofs.Trail.{led_back, led_on}
use Rattle.aero_judge.specs.declared.recorder.Recorder.{Recorder}
use Rattle.aero_judge.specs.Recorded.{recorded, IsSaidOf, AreJudgedAs, IsNoted, AreNoted, HasRecordedAs, HasRecorded, IsNotedNext, AreMarks, SaysSame, IsMarked, IsSwept, IsAsBefore}
use Rattle.aero_judge.proofs.Recording.{given_at, trail_of}
use Rattle.aero_judge.proofs.Said.{said_still}
use Rattle.aero_judge.proofs.Zipped.{zip_long, zip_beside}

-- a list of one more item
record Ended {X : Type 0} (xs : List X) : Type 0 where
  front : List X
  last : X
  is : xs ≡ front ++ last ∷ []

ended : {X : Type 0} (n : ℕ) (xs : List X) → length xs ≡ suc n → Ended xs
ended n [] e = absurd (omega arith)
ended zero (x ∷ []) e = record { front = []; last = x; is = refl }
ended zero (x ∷ y ∷ xs) e = absurd (omega arith)
ended (suc n) (x ∷ xs) e = let r = ended n xs (omega arith) in record { front = x ∷ r.front; last = r.last; is = ap (λ zs. x ∷ zs) r.is }

-- the events before the last, and it after them
module _ (given : List Given) (g : Given) (h : List Numbered) (e : Numbered) (are : AreJudgedAs (given ++ g ∷ []) (h ++ e ∷ [])) where
  as_many : length h ≡ length given
  as_many = let count = are.count in omega (arith, count, length_push h e, length_push given g)

  h_within : {i : ℕ} {f : Given} → slice_get given i ≡ Some f → i < length h
  h_within {i} {f} at = let l = slice_get_within given i f at in let m = as_many in omega arith

  untold_before : (m : ℕ) → m ≤ length h → HasTellingCycle h m → ⊥
  untold_before m le c = are.untold m (omega (arith, le, length_push h e)) (telling_front h (e ∷ []) m le c)

  front_judged : AreJudgedAs given h
  front_judged = record {
    count = as_many;
    judged = λ i f d here there. are.judged i f d (push_front given g i (slice_get_within given i f here) ∙ here) (push_front h e i (h_within here) ∙ there);
    admitted = λ i f d here there.
        (let less : i < length h = h_within here in
        are.admitted i f d (push_front given g i (slice_get_within given i f here) ∙ here) (push_front h e i less ∙ there) ∙ ap (λ before. admitted_as before d) (take_front h (e ∷ []) i (omega (arith, less))));
    well_formed = well_formed_front h (e ∷ []) are.well_formed;
    untold = λ m l. untold_before m (omega (arith, l));
  }

  take_all : (xs : List Numbered) → take (length xs) xs ≡ xs
  take_all [] = refl
  take_all (x ∷ xs) = ap (λ ys. x ∷ ys) (take_all xs)

  before_last : take (length h) (h ++ e ∷ []) ≡ h
  before_last = take_front h (e ∷ []) (length h) (le_refl (length h)) ∙ take_all h

  last_given : slice_get (given ++ g ∷ []) (length h) ≡ Some g
  last_given = ap (slice_get (given ++ g ∷ [])) as_many ∙ push_last given g

  last_judged : IsJudgedAs g.event e
  last_judged = are.judged (length h) g e last_given (push_last h e)

  comes : (stands : List Numbered → Type 0) → stands h → ComesAfter stands h e g.admitted
  comes stands here = record {
    standing = here;
    well_formed = are.well_formed;
    in_shape = ap (λ before. shape_fault before e) (sym before_last) ∙ are.well_formed (length h) e (push_last h e);
    kind = are.admitted (length h) g e last_given (push_last h e) ∙ ap (λ before. admitted_as before e) before_last;
  }

-- what open blocks lead to is marked
module _ (a : Recorder) (given : List Given) (h : List Numbered) (are : AreJudgedAs given h) (stands : standing.StandsFor a.leads h) (marks : List Bool) (so : AreMarks (state_of a.leads).rows a.events.items a.places.items marks) (enough : IsEnough (map recorded given) a.events.items a.places.items) where
  abbrev told : List Numbered
  told = map recorded given

  long : length told ≡ length h
  long = length-map given recorded ∙ sym are.count

  mark_is : (i p : ℕ) → slice_get a.places.items i ≡ Some p → (slice_get marks i ≡ Some true) ↔ IsLed told (length told) p
  mark_is i p at =
      let thin = (enough).thinned in
      let within : p < length told = thin.within i p at in
      let e = event_at told p within in
      let kept : slice_get a.events.items i ≡ Some e.0 = thin.event i p at ∙ e.1 in
      let g = given_at given h are p e.0 e.1 in
      let l = long in
      let below : p < length h = omega arith in
      let f = event_at h p below in
      let judges = are.judged p g.0 f.0 g.1 f.1 in
      let thread : (e.0).thread ≡ (f.0).thread = ap (λ (x : Numbered). x.thread) (sym g.2) ∙ sym judges.thread in
      let m = so.at i p e.0 kept at in
      let least = m.0 in
      let rows = (state_of a.leads).rows in
      let is_least = subst (λ t. IsLeastOf (rows t) least) thread m.1 in
      let state = stands.state in
      let trail = trail_of given h are in (
        λ yes. subst (λ n. IsLed told n p) (sym l) (led_on h told trail (length h) p (led_from h (length h) rows p f.0 are.well_formed state.first below f.1 least is_least (same_Some (is_led least p) true (sym m.2 ∙ yes)))),
        λ led. m.2 ∙ ap Some (led_to h (length h) rows p f.0 are.well_formed state.first below f.1 least is_least (led_back h told trail (length h) p (subst (λ n. IsLed told n p) l led))),
      )

  marks_long : length marks ≡ length a.places.items
  marks_long = so.each ∙ sym ((enough).thinned).each

  swept_enough : IsEnough told (marked marks a.events.items) (marked marks a.places.items)
  swept_enough = led_is_enough told a.events.items a.places.items marks enough marks_long mark_is

-- what is noted of the events that are kept
module _ (a b : Recorder) (given : List Given) (marks : List Bool) (is : IsMarked a b marks) (noted : AreNoted a given) where
  marked_noted : AreNoted b given
  marked_noted = record {
    count = is.count ∙ noted.count;
    few = let same = is.count in let few = noted.few in omega (arith, same, few);
    lines = ap length is.lines ∙ marked_long marks a.lines.items a.places.items noted.lines ∙ sym (ap length is.places);
    said = zip_long (SaysSame a.labels.names b.labels.names) (marked marks a.said.items) b.said.items is.said ∙ marked_long marks a.said.items a.places.items noted.said ∙ sym (ap length is.places);
    each = each;
  }
    where
      each : (i p : ℕ) (g : Given) → slice_get b.places.items i ≡ Some p → slice_get given p ≡ Some g → IsNoted b i g
      each i p g at given_here =
          let here : slice_get (marked marks a.places.items) i ≡ Some p = sym (ap (λ ps. slice_get ps i) is.places) ∙ at in
          let old = noted.each (nth_mark marks i) p g (marked_at marks a.places.items i p here) given_here in
          let said_here : slice_get (marked marks a.said.items) i ≡ Some old.code = marked_same marks a.said.items a.places.items i p noted.said here ∙ old.code_at in
          let new = zip_beside (SaysSame a.labels.names b.labels.names) (marked marks a.said.items) b.said.items i old.code is.said said_here in
          record {
            line = ap (λ ls. slice_get ls i) is.lines ∙ marked_same marks a.lines.items a.places.items i p noted.lines here ∙ old.line;
            code = new.0;
            code_at = new.1;
            said = new.2 g.event.what g.label old.said;
          }

same_noted : (a b : Recorder) (given : List Given) → IsAsBefore a b → AreNoted a given → AreNoted b given
same_noted a b given is noted = record {
  count = is.count ∙ noted.count;
  few = let same = is.count in let few = noted.few in omega (arith, same, few);
  lines = ap (λ v. length v.items) is.lines ∙ noted.lines ∙ sym (ap (λ v. length v.items) is.places);
  said = ap (λ v. length v.items) is.said ∙ noted.said ∙ sym (ap (λ v. length v.items) is.places);
  each = λ i p g at here.
      (let old = noted.each i p g (sym (ap (λ v. slice_get v.items i) is.places) ∙ at) here in
      record {
        line = ap (λ v. slice_get v.items i) is.lines ∙ old.line;
        code = old.code;
        code_at = ap (λ v. slice_get v.items i) is.said ∙ old.code_at;
        said = subst (λ names. IsSaidOf names g old.code) (sym (ap (λ l. l.names) is.labels)) old.said;
      });
}

-- the record after a sweep, if there was one
record Kept (b : Recorder) (given : List Given) : Type 0 where
  noted : AreNoted b given
  enough : IsEnough (map recorded given) b.events.items b.places.items

kept_after : (a b : Recorder) (given : List Given) (h : List Numbered) → AreJudgedAs given h → standing.StandsFor a.leads h → HasRecordedAs a given h → IsSwept a b ⊎ IsAsBefore a b → Kept b given
kept_after a b given h are stands has (inl (marks, so, is)) = record {
  noted = marked_noted a b given marks is has.noted;
  enough = subst (λ es. IsEnough (map recorded given) es b.places.items) (sym is.events) (subst (IsEnough (map recorded given) (marked marks a.events.items)) (sym is.places) (swept_enough a given h are stands marks so has.enough));
}
kept_after a b given h are stands has (inr is) = record {
  noted = same_noted a b given is has.noted;
  enough = subst (λ v. IsEnough (map recorded given) v.items b.places.items) (sym is.events) (subst (λ v. IsEnough (map recorded given) a.events.items v.items) (sym is.places) has.enough);
}

pub same_firsts : (a b : Recorder) → IsSwept a b ⊎ IsAsBefore a b → b.leads ≡ a.leads
same_firsts a b (inl (marks, so, is)) = is.firsts
same_firsts a b (inr is) = is.firsts

-- with the next event
module _ (b d : Recorder) (given : List Given) (g : Given) (kept : Kept b given) (next : IsNotedNext b d g) where
  next_enough : IsEnough (map recorded (given ++ g ∷ [])) d.events.items d.places.items
  next_enough =
      let told = map recorded given in
      let noted = kept.noted in
      let count : b.count ≡ length told = noted.count ∙ sym (length-map given recorded) in
      let stays = enough_stays told b.events.items b.places.items (recorded g) kept.enough in
      let places : d.places.items ≡ b.places.items ++ length told ∷ [] = next.places ∙ ap (λ n. b.places.items ++ n ∷ []) count in
      subst (λ t. IsEnough t d.events.items d.places.items) (sym (map-append recorded given (g ∷ [])))
      (subst (λ es. IsEnough (told ++ recorded g ∷ []) es d.places.items) (sym next.events)
      (subst (IsEnough (told ++ recorded g ∷ []) (b.events.items ++ recorded g ∷ [])) (sym places) stays))

  next_latest : (n : ℕ) → length (given ++ g ∷ []) ≡ suc n → IsAmong d.places.items n
  next_latest n long =
      let before = (kept.noted).count in
      let same : b.count ≡ n = omega (arith, before, long, length_push given g) in
      (length b.places.items, ap (λ ps. slice_get ps (length b.places.items)) next.places ∙ push_last b.places.items b.count ∙ ap Some same)

  next_noted : AreNoted d (given ++ g ∷ [])
  next_noted = record {
    count = (let count = next.count in let before = (kept.noted).count in omega (arith, count, before, length_push given g));
    few = next.few;
    lines = (let l = (kept.noted).lines in ap length next.lines ∙ omega (arith, l, length_push b.lines.items g.line, length_push b.places.items b.count) ∙ sym (ap length next.places));
    said = (let l = (kept.noted).said in ap length next.said ∙ omega (arith, l, length_push b.said.items next.code, length_push b.places.items b.count) ∙ sym (ap length next.places));
    each = each;
  }
    where
      old_noted : (i p : ℕ) (f : Given) → slice_get b.places.items i ≡ Some p → slice_get given p ≡ Some f → IsNoted d i f
      old_noted i p f at here =
          let n = kept.noted in
          let old = n.each i p f at here in
          let w = slice_get_within b.places.items i p at in
          let l = n.lines in
          let s = n.said in
          record {
            line = ap (λ ls. slice_get ls i) next.lines ∙ push_front b.lines.items g.line i (omega arith) ∙ old.line;
            code = old.code;
            code_at = ap (λ cs. slice_get cs i) next.said ∙ push_front b.said.items next.code i (omega arith) ∙ old.code_at;
            said = said_still b.labels.names d.labels.names next.still f.event.what f.label old.code old.said;
          }

      last_noted : (i : ℕ) (f : Given) → i ≡ length b.places.items → f ≡ g → IsNoted d i f
      last_noted i f last same =
          let n = kept.noted in
          record {
            line = ap (λ ls. slice_get ls i) next.lines ∙ ap (slice_get (b.lines.items ++ g.line ∷ [])) (last ∙ sym n.lines) ∙ push_last b.lines.items g.line ∙ ap (λ (x : Given). Some x.line) (sym same);
            code = next.code;
            code_at = ap (λ cs. slice_get cs i) next.said ∙ ap (slice_get (b.said.items ++ next.code ∷ [])) (last ∙ sym n.said) ∙ push_last b.said.items next.code;
            said = subst (λ x. IsSaidOf d.labels.names x next.code) (sym same) next.is_said;
          }

      each : (i p : ℕ) (f : Given) → slice_get d.places.items i ≡ Some p → slice_get (given ++ g ∷ []) p ≡ Some f → IsNoted d i f
      each i p f at here = go (push_cases b.places.items b.count i p (sym (ap (λ ps. slice_get ps i) next.places) ∙ at)) (push_cases given g p f here)
        where
          n : AreNoted b given
          n = kept.noted

          told : List Numbered
          told = map recorded given

          go : (slice_get b.places.items i ≡ Some p) ⊎ ((i ≡ length b.places.items) × (p ≡ b.count)) → (slice_get given p ≡ Some f) ⊎ ((p ≡ length given) × (f ≡ g)) → IsNoted d i f
          go (inl was) (inl there) = old_noted i p f was there
          go (inl was) (inr last) = absurd (let l = ((kept.enough).thinned).within i p was in omega (arith, l, last.0, length-map given recorded))
          go (inr end) (inl there) = absurd (let c = n.count in let l = slice_get_within given p f there in omega (arith, c, l, end.1))
          go (inr end) (inr last) = last_noted i f end.0 last.1

-- the answer is no error
pub on_some_ok : {T E : Type 0} (r : Result T E) (P : Type 0) → ((x : T) → r ≡ Ok x → P) → OnOk r P
on_some_ok (Ok x) P p = p x refl
on_some_ok (Err e) P p = tt

module _ (a b d : Recorder) (l : Leads) (given : List Given) (g : Given) (r : Result (Option ℕ) Spent) (o : Option ℕ) (ok : r ≡ Ok o) where
  pub recorded_next : IsSwept a b ⊎ IsAsBefore a b → IsNotedNext b d g
      → ((h : List Numbered) (judged : Numbered) → IsJudgedAs g.event judged → ComesAfter (standing.StandsFor a.leads) h judged g.admitted → IfOk r (Tells (standing.StandsFor l) (h ++ judged ∷ []) (length h)))
      → HasRecorded a given → HasRecorded (record d { leads = l }) (given ++ g ∷ [])
  recorded_next swept next tells has all are = subst (HasRecordedAs (record d { leads = l }) (given ++ g ∷ [])) (sym last.is) (go last.front last.last (subst (AreJudgedAs (given ++ g ∷ [])) last.is are))
    where
      last : Ended all
      last = ended (length given) all (let count = are.count in omega (arith, count, length_push given g))

      go : (h : List Numbered) (e : Numbered) → AreJudgedAs (given ++ g ∷ []) (h ++ e ∷ []) → HasRecordedAs (record d { leads = l }) (given ++ g ∷ []) (h ++ e ∷ [])
      go h e both =
          let front = front_judged given g h e both in
          let old = has h front in
          let stands = old.stands (untold_before given g h e both (length h) (le_refl (length h))) in
          let kept = kept_after a b given h front stands old swept in
          let now : Tells (standing.StandsFor l) (h ++ e ∷ []) (length h) o =
          subst (λ x. IfOk x (Tells (standing.StandsFor l) (h ++ e ∷ []) (length h))) ok (tells h e (last_judged given g h e both) (comes given g h e both (standing.StandsFor a.leads) stands)) in
          let noted = next_noted b d given g kept next in
          record {
            noted = record { count = noted.count; few = noted.few; lines = noted.lines; said = noted.said; each = λ i p f at here. (let n = noted.each i p f at here in record { line = n.line; code = n.code; code_at = n.code_at; said = n.said }) };
            enough = next_enough b d given g kept next;
            latest = next_latest b d given g kept next;
            stands = λ untold. now.stands (none o now.told untold);
          }
        where
          none : (o : Option ℕ) → IsTold (h ++ e ∷ []) (length h) o → (HasTellingCycle (h ++ e ∷ []) (length (h ++ e ∷ [])) → ⊥) → o ≡ None
          none None is untold = refl
          none (Some t) is untold = absurd (untold (subst (HasTellingCycle (h ++ e ∷ [])) (sym (let long : length (h ++ e ∷ []) ≡ suc (length h) = omega (arith, length_push h e) in long)) (is.0).closed))
