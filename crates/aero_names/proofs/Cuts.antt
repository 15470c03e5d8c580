-- Names that are cut out of one text.
use Rattle.std.proofs.Common.{◌≡◌, ℕ, zero, suc, ◌+◌, ◌-◌, ◌<◌, ◌≤◌, ◌^◌, List, [], ◌∷◌, ◌++◌, length, take, drop, get_or, Some, None, slice_get, refl, sym, ◌∙◌, ap, ap₂, subst, arith, length-append, length-drop}
use Rattle.std.proofs.lemmas.List.{length-take-le, take-append-le, drop-append-le, take-append-drop, drop_all, take_all, drop_at}
use Rattle.std.proofs.lemmas.Option.{slice_get_past}
use Rattle.aero_names.specs.Ends.{names_from, EndsRise, IsCut}

pub length-names_from : (text : List ℕ) (start : ℕ) (ends : List ℕ) → length (names_from text start ends) ≡ length ends
length-names_from text start [] = refl
length-names_from text start (end ∷ ends) = ap suc (length-names_from text end ends)

-- a name's start and its end lie within the text
pub start_within : (start : ℕ) (ends : List ℕ) (whole n : ℕ) → EndsRise start ends whole → n < length ends → get_or (start ∷ ends) n 0 ≤ get_or ends n 0
start_within start [] whole n rise less = absurd (omega (arith, less))
start_within start (end ∷ ends) whole zero rise less = rise.0
start_within start (end ∷ ends) whole (suc n) rise less = start_within end ends whole n rise.1 (omega (arith, less))

start_below : (start : ℕ) (ends : List ℕ) (whole : ℕ) → EndsRise start ends whole → start ≤ whole
start_below start [] whole rise = omega (arith, rise)
start_below start (end ∷ ends) whole rise = let later = start_below end ends whole rise.1 in omega (arith, rise.0, later)

pub end_within : (start : ℕ) (ends : List ℕ) (whole n : ℕ) → EndsRise start ends whole → n < length ends → get_or ends n 0 ≤ whole
end_within start [] whole n rise less = absurd (omega (arith, less))
end_within start (end ∷ ends) whole zero rise less = start_below end ends whole rise.1
end_within start (end ∷ ends) whole (suc n) rise less = end_within end ends whole n rise.1 (omega (arith, less))

-- the name at a place
pub name_here : (text : List ℕ) (start : ℕ) (ends : List ℕ) (n : ℕ) → n < length ends →
    slice_get (names_from text start ends) n ≡ Some (take (get_or ends n 0 - get_or (start ∷ ends) n 0) (drop (get_or (start ∷ ends) n 0) text))
name_here text start [] n less = absurd (omega (arith, less))
name_here text start (end ∷ ends) zero less = refl
name_here text start (end ∷ ends) (suc n) less = name_here text end ends n (omega (arith, less))

pub no_name : (text : List ℕ) (start : ℕ) (ends : List ℕ) (n : ℕ) → length ends ≤ n → slice_get (names_from text start ends) n ≡ None
no_name text start ends n past = slice_get_past (names_from text start ends) n (let len = length-names_from text start ends in omega (arith, len))

-- one name more
still_here : (text name : List ℕ) (start end : ℕ) → start ≤ end → end ≤ length text → take (end - start) (drop start (text ++ name)) ≡ take (end - start) (drop start text)
still_here text name start end le within =
    ap (take (end - start)) (drop-append-le start text name (omega arith))
    ∙ take-append-le (end - start) (drop start text) name (let len = length-drop start text in omega (arith, len))

last_here : (text name : List ℕ) (start : ℕ) → start ≡ length text → take (length text + length name - start) (drop start (text ++ name)) ≡ name
last_here text name start at = ap (take (length text + length name - start)) (drop_at text name start (sym at)) ∙ take_all (length text + length name - start) name (omega arith)

pub names_pushed : (text name : List ℕ) (start : ℕ) (ends : List ℕ) → EndsRise start ends (length text) →
    names_from (text ++ name) start (ends ++ (length text + length name) ∷ []) ≡ names_from text start ends ++ name ∷ []
names_pushed text name start [] rise = ap (λ n. n ∷ []) (last_here text name start rise)
names_pushed text name start (end ∷ ends) rise =
    ap₂ (λ n ns. n ∷ ns) (still_here text name start end rise.0 (start_below end ends (length text) rise.1)) (names_pushed text name end ends rise.1)

pub rise_pushed : (start : ℕ) (ends : List ℕ) (whole more : ℕ) → EndsRise start ends whole → EndsRise start (ends ++ (whole + more) ∷ []) (whole + more)
rise_pushed start [] whole more rise = (omega (arith, rise), refl)
rise_pushed start (end ∷ ends) whole more rise = (rise.0, rise_pushed end ends whole more rise.1)

-- the names say what the text and the ends are
pub record AreSame (start : ℕ) (text ends other more : List ℕ) : Type 0 where
  pub ends_are : ends ≡ more
  pub texts_are : drop start text ≡ drop start other

same_heads : (start end last : ℕ) (text other : List ℕ) → start ≤ end → end ≤ length text → start ≤ last → last ≤ length other →
    take (end - start) (drop start text) ≡ take (last - start) (drop start other) → end ≡ last
same_heads start end last text other le within le2 within2 same =
    let here : length (take (end - start) (drop start text)) ≡ end - start = length-take-le (end - start) (drop start text) (let len = length-drop start text in omega (arith, len)) in
    let there : length (take (last - start) (drop start other)) ≡ last - start = length-take-le (last - start) (drop start other) (let len = length-drop start other in omega (arith, len)) in
    let lengths = ap length same in
    omega (arith, here, there, lengths)

drop_further : (start more end : ℕ) (text : List ℕ) → start + more ≡ end → drop more (drop start text) ≡ drop end text
drop_further zero more end text at = ap (λ n. drop n text) (let same : more ≡ end = omega (arith, at) in same)
drop_further (suc start) more zero text at = absurd (omega (arith, at))
drop_further (suc start) more (suc end) [] at = drop_all more [] (omega arith)
drop_further (suc start) more (suc end) (b ∷ text) at = drop_further start more end text (omega (arith, at))

whole_rest : (start end : ℕ) (text : List ℕ) → start ≤ end → drop start text ≡ take (end - start) (drop start text) ++ drop end text
whole_rest start end text le =
    sym (take-append-drop (end - start) (drop start text))
    ∙ ap (λ rest. take (end - start) (drop start text) ++ rest) (drop_further start (end - start) end text (omega arith))

pub same_cut : (start : ℕ) (text ends other more : List ℕ) → EndsRise start ends (length text) → EndsRise start more (length other) → names_from text start ends ≡ names_from other start more → AreSame start text ends other more
same_cut start text [] other [] rise rise2 same =
    record { ends_are = refl; texts_are = drop_all start text (omega (arith, rise)) ∙ sym (drop_all start other (omega (arith, rise2))) }
same_cut start text [] other (end ∷ more) rise rise2 same = absurd (let lengths = ap length same in omega (arith, lengths))
same_cut start text (end ∷ ends) other [] rise rise2 same = absurd (let lengths = ap length same in omega (arith, lengths))
same_cut start text (end ∷ ends) other (last ∷ more) rise rise2 same =
    let heads : take (end - start) (drop start text) ≡ take (last - start) (drop start other) = ap (λ ns. get_or ns 0 []) same in
    let tails : names_from text end ends ≡ names_from other last more = ap (drop 1) same in
    let is : end ≡ last = same_heads start end last text other rise.0 (start_below end ends (length text) rise.1) rise2.0 (start_below last more (length other) rise2.1) heads in
    let rest = same_cut end text ends other more rise.1 (subst (λ n. EndsRise n more (length other)) (sym is) rise2.1) (tails ∙ ap (λ n. names_from other n more) (sym is)) in
    record {
      ends_are = ap₂ (λ n ns. n ∷ ns) is rest.ends_are;
      texts_are =
          whole_rest start end text rise.0
          ∙ (ap₂ (λ front back. front ++ back) heads rest.texts_are
          ∙ (ap (λ n. take (last - start) (drop start other) ++ drop n other) is ∙ sym (whole_rest start last other rise2.0)));
    }

-- the same of a list of names, as the code knows its parts
pub cut_start : (text ends known : List ℕ) (n start end : ℕ) → IsCut text ends → known ≡ ends → n < length known → start ≡ get_or (0 ∷ known) n 0 → end ≡ get_or known n 0 → start ≤ end
cut_start text ends known n start end cut is less from to =
    let within = start_within 0 known (length text) n (subst (λ es. EndsRise 0 es (length text)) (sym is) cut.rising) less in
    omega (arith, within, from, to)

pub cut_end : (text ends known bytes : List ℕ) (n end : ℕ) → IsCut text ends → known ≡ ends → bytes ≡ text → n < length known → end ≡ get_or known n 0 → end ≤ length bytes
cut_end text ends known bytes n end cut is same less to =
    let within = end_within 0 known (length text) n (subst (λ es. EndsRise 0 es (length text)) (sym is) cut.rising) less in
    let long = ap length same in
    omega (arith, within, to, long)

pub cut_name : (text ends known bytes : List ℕ) (n start end : ℕ) → known ≡ ends → bytes ≡ text → n < length known → start ≡ get_or (0 ∷ known) n 0 → end ≡ get_or known n 0 →
    Some (take (end - start) (drop start bytes)) ≡ slice_get (names_from text 0 ends) n
cut_name text ends known bytes n start end is same less from to =
    ap₂ (λ s e. Some (take (e - s) (drop s bytes))) from to
    ∙ (sym (name_here bytes 0 known n less) ∙ ap₂ (λ t es. slice_get (names_from t 0 es) n) same is)

pub cut_pushed : (text ends text' ends' name : List ℕ) (end : ℕ) → IsCut text ends → text' ≡ text ++ name → ends' ≡ ends ++ end ∷ [] → end ≡ length text + length name → end < 2 ^ 32 → length ends + 1 < 2 ^ 32 → IsCut text' ends'
cut_pushed text ends text' ends' name end cut text_is ends_are end_is within few =
    let whole : length text' ≡ length text + length name = ap length text_is ∙ length-append text name in
    let many : length ends' ≡ length ends + 1 = ap length ends_are ∙ length-append ends (end ∷ []) in
    record {
      rising =
          subst (λ es. EndsRise 0 es (length text')) (sym ends_are)
          (subst (λ n. EndsRise 0 (ends ++ end ∷ []) n) (sym whole)
          (subst (λ n. EndsRise 0 (ends ++ n ∷ []) (length text + length name)) (sym end_is) (rise_pushed 0 ends (length text) (length name) cut.rising)));
      within = omega (arith, whole, end_is, within);
      few = omega (arith, many, few);
    }

pub no_names : (text : List ℕ) (start : ℕ) (ends : List ℕ) → length ends ≡ 0 → names_from text start ends ≡ []
no_names text start [] none = refl
no_names text start (end ∷ ends) none = absurd (omega (arith, none))

pub some_names : (text : List ℕ) (start : ℕ) (ends : List ℕ) → names_from text start ends ≡ [] → length ends ≡ 0
some_names text start ends none = let len = length-names_from text start ends in let no = ap length none in omega (arith, len, no)
