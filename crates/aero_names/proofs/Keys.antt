-- Two names with one key are the same.
use Rattle.std.proofs.Common.{◌≡◌, ℕ, zero, suc, ◌+◌, ◌-◌, ◌<◌, ◌≤◌, ◌^◌, Bool, true, false, cond, List, [], ◌∷◌, ◌++◌, length, take, drop, get_or, Option, Some, None, refl, sym, ◌∙◌, ap, ap₂, subst, arith}
use Rattle.std.specs.Prelude.{map, slice_get, slice_index, unwrap_or, nat_lt, nat_le, IfSome}
use Rattle.std.specs.Int.{Width, w16, w32, w64, from_le_bytes, to_le_bytes}
use Rattle.std.specs.List.{All}
use Rattle.std.proofs.lemmas.Bool.{leb-true, leb-false, ltb-false}
use Rattle.std.proofs.lemmas.Option.{same_Some}
use Rattle.std.proofs.lemmas.List.Elements.{All-append}
use Rattle.std.proofs.lemmas.List.{take-append-drop, take-take, length-take-le, length-drop, get_or-drop, map-append}
use Rattle.std.proofs.lemmas.Nat.{le_bytes_2, le_bytes_4, le_bytes_8}
use Rattle.aero_names.specs.declared.key.Key.{Key}
use Rattle.aero_names.specs.Keys.{words_of, ends_of, key_of, no_key, kept_key, AreBytes, AreKeys}

-- lists of one length are the same where their first items are and their last, if these are all
halves : (a b : List ℕ) (k : ℕ) → length a ≡ length b → length a ≤ k + k → take k a ≡ take k b → drop (length a - k) a ≡ drop (length b - k) b → a ≡ b
halves a b k long most first last =
    let m : ℕ = length a - k in
    let within : m ≤ k = omega (arith, most) in
    let back : m ≡ length b - k = ap (λ n. n - k) long in
    let front : take m a ≡ take m b = sym (take-take m k a within) ∙ (ap (take m) first ∙ take-take m k b within) in
    let rest : drop m a ≡ drop m b = last ∙ ap (λ n. drop n b) (sym back) in
    sym (take-append-drop m a) ∙ (ap₂ (λ xs ys. xs ++ ys) front rest ∙ take-append-drop m b)

-- a part of a name has bytes alone
front_bytes : (k : ℕ) (name : List ℕ) → AreBytes name → AreBytes (take k name)
front_bytes zero name small i = small_none
  where
    small_none : 0 < 256
    small_none = omega arith
front_bytes (suc k) [] small i = small i
front_bytes (suc k) (x ∷ name) small zero = small 0
front_bytes (suc k) (x ∷ name) small (suc i) = front_bytes k name (λ j. small (suc j)) i

back_bytes : (k : ℕ) (name : List ℕ) → AreBytes name → AreBytes (drop k name)
back_bytes k name small i = subst (λ x. x < 256) (sym (get_or-drop k name i 0)) (small (k + i))

-- one width: `back` reads the bytes of a number of that width again
module _ (w : Width) (k : ℕ) (back : (bs : List ℕ) (n : ℕ) → length bs ≡ k → ((i : ℕ) → get_or bs i 0 < 256) → n ≡ from_le_bytes w bs → to_le_bytes w n ≡ bs) where
  same_bytes : (a b : List ℕ) → length a ≡ k → length b ≡ k → AreBytes a → AreBytes b → from_le_bytes w a ≡ from_le_bytes w b → a ≡ b
  same_bytes a b long_a long_b small_a small_b is =
      sym (back a (from_le_bytes w a) long_a small_a refl) ∙ back b (from_le_bytes w a) long_b small_b is

  same_by_words : (a b : List ℕ) → length a ≡ length b → k ≤ length a → length a ≤ k + k → AreBytes a → AreBytes b →
      from_le_bytes w (take k a) ≡ from_le_bytes w (take k b) → from_le_bytes w (drop (length a - k) a) ≡ from_le_bytes w (drop (length b - k) b) → a ≡ b
  same_by_words a b long least most small_a small_b first last =
      let least_b : k ≤ length b = omega (arith, long, least) in
      let drop_a = length-drop (length a - k) a in
      let drop_b = length-drop (length b - k) b in
      halves a b k long most
      (same_bytes (take k a) (take k b) (length-take-le k a least) (length-take-le k b least_b) (front_bytes k a small_a) (front_bytes k b small_b) first)
      (same_bytes (drop (length a - k) a) (drop (length b - k) b) (omega (arith, drop_a, least)) (omega (arith, drop_b, least_b)) (back_bytes (length a - k) a small_a) (back_bytes (length b - k) b small_b) last)

same_short : (a b : List ℕ) → length a ≡ length b → length a < 2 → slice_index a 0 ≡ slice_index b 0 → a ≡ b
same_short [] [] long short first = refl
same_short [] (y ∷ b) long short first = absurd (omega (arith, long))
same_short (x ∷ a) [] long short first = absurd (omega (arith, long))
same_short (x ∷ []) (y ∷ []) long short first = ap (λ z. z ∷ []) first
same_short (x ∷ []) (y ∷ z ∷ b) long short first = absurd (omega (arith, long))
same_short (x ∷ z ∷ a) (y ∷ b) long short first = absurd (omega (arith, short))

-- the ends of a name by what is known of its length: whether it has eight bytes, four, two
abbrev ends_by : Bool → Bool → Bool → List ℕ → ℕ × ℕ
ends_by eight four two name = cond eight (words_of w64 name) (cond four (words_of w32 name) (cond two (words_of w16 name) (slice_index name 0, 0)))

same_by_ends : (eight four two : Bool) (a b : List ℕ) → length a ≡ length b → length a ≤ 16 → AreBytes a → AreBytes b →
    nat_le 8 (length a) ≡ eight → nat_le 4 (length a) ≡ four → nat_le 2 (length a) ≡ two → ends_by eight four two a ≡ ends_by eight four two b → a ≡ b
same_by_ends true four two a b long most small_a small_b is_eight is_four is_two is =
    let least = leb-true 8 (length a) is_eight in
    same_by_words w64 8 le_bytes_8 a b long least most small_a small_b (ap (λ e. e.0) is) (ap (λ e. e.1) is)
same_by_ends false true two a b long most small_a small_b is_eight is_four is_two is =
    let under = leb-false 8 (length a) is_eight in
    let least = leb-true 4 (length a) is_four in
    same_by_words w32 4 le_bytes_4 a b long least (omega (arith, under)) small_a small_b (ap (λ e. e.0) is) (ap (λ e. e.1) is)
same_by_ends false false true a b long most small_a small_b is_eight is_four is_two is =
    let under = leb-false 4 (length a) is_four in
    let least = leb-true 2 (length a) is_two in
    same_by_words w16 2 le_bytes_2 a b long least (omega (arith, under)) small_a small_b (ap (λ e. e.0) is) (ap (λ e. e.1) is)
same_by_ends false false false a b long most small_a small_b is_eight is_four is_two is =
    same_short a b long (leb-false 2 (length a) is_two) (ap (λ e. e.0) is)

same_ends : (a b : List ℕ) → length a ≡ length b → length a ≤ 16 → AreBytes a → AreBytes b → ends_of a ≡ ends_of b → a ≡ b
same_ends a b long most small_a small_b is =
    let as_long : ends_of b ≡ ends_by (nat_le 8 (length a)) (nat_le 4 (length a)) (nat_le 2 (length a)) b =
    ap (λ n. ends_by (nat_le 8 n) (nat_le 4 n) (nat_le 2 n) b) (sym long) in
    same_by_ends (nat_le 8 (length a)) (nat_le 4 (length a)) (nat_le 2 (length a)) a b long most small_a small_b refl refl refl (is ∙ as_long)

-- what a key says of its name
record IsKeyOf (name : List ℕ) (key : Key) : Type 0 where
  pub most : length name ≤ 16
  pub long : length name ≡ key.length
  pub ends : ends_of name ≡ (key.first, key.last)

key_parts : (over : Bool) (name : List ℕ) (key : Key) → nat_lt 16 (length name) ≡ over →
    cond over None (Some (record { first = (ends_of name).0; last = (ends_of name).1; length = length name })) ≡ Some key → IsKeyOf name key
key_parts true name key is_over is = absurd (cc)
key_parts false name key is_over is =
    let same = same_Some (record { first = (ends_of name).0; last = (ends_of name).1; length = length name }) key is in
    record {
      most = ltb-false 16 (length name) is_over;
      long = ap (λ (k : Key). k.length) same;
      ends = ap (λ (k : Key). (k.first, k.last)) same;
    }

key_says : (name : List ℕ) (key : Key) → key_of name ≡ Some key → IsKeyOf name key
unfolding key_of
key_says name key is = key_parts (nat_lt 16 (length name)) name key refl is

pub same_key : (a b : List ℕ) (key : Key) → AreBytes a → AreBytes b → key_of a ≡ Some key → key_of b ≡ Some key → a ≡ b
same_key a b key small_a small_b is_a is_b =
    let says_a = key_says a key is_a in
    let says_b = key_says b key is_b in
    same_ends a b (says_a.long ∙ sym says_b.long) says_a.most small_a small_b (says_a.ends ∙ sym says_b.ends)

-- what is kept for a name is a key only where it is the name's
key_kept : (kept : Option Key) (name : List ℕ) (key : Key) → key_of name ≡ Some key → unwrap_or kept no_key ≡ key → kept ≡ Some key
key_kept (Some other) name key is same = ap Some same
key_kept None name key is same =
    let says = key_says name key is in
    let none : 2 ^ 64 - 1 ≡ key.length = ap (λ (k : Key). k.length) same in
    let most = says.most in
    let long = says.long in
    absurd (omega (arith, none, most, long))

-- the name at a place where its key is kept is the same
pub found_by_key : (names : List (List ℕ)) (keys : List Key) (name : List ℕ) (key : Key) (n : ℕ) → AreKeys names keys → AreBytes name → key_of name ≡ Some key → slice_get keys n ≡ Some key → slice_get names n ≡ Some name
found_by_key names keys name key n kept small is at = go names n kept.bytes (ap (λ ks. slice_get ks n) (sym kept.are) ∙ at)
  where
    go : (names : List (List ℕ)) (n : ℕ) → All AreBytes names → slice_get (map kept_key names) n ≡ Some key → slice_get names n ≡ Some name
    go [] n smalls at = absurd (cc)
    go (first ∷ names) zero smalls at = ap Some (same_key first name key (smalls 0 [] (omega arith)) small (key_kept (key_of first) name key is (same_Some (kept_key first) key at)) is)
    go (first ∷ names) (suc n) smalls at = go names n (λ k d less. smalls (suc k) d (omega (arith, less))) at

pub number_by_key : (r : Option ℕ) (names : List (List ℕ)) (keys : List Key) (name : List ℕ) (key : Key) → AreKeys names keys → AreBytes name → key_of name ≡ Some key →
    IfSome r (λ n. slice_get keys n ≡ Some key) → IfSome r (λ n. slice_get names n ≡ Some name)
number_by_key (Some n) names keys name key kept small is at = found_by_key names keys name key n kept small is at
number_by_key None names keys name key kept small is at = tt

-- one name more
alone : (name : List ℕ) → AreBytes name → All AreBytes (name ∷ [])
alone name small zero d less = small
alone name small (suc k) d less = absurd (omega (arith, less))

pub keys_pushed : (names after : List (List ℕ)) (keys more : List Key) (name : List ℕ) (key : Key) → AreKeys names keys → AreBytes name → key ≡ kept_key name → after ≡ names ++ name ∷ [] → more ≡ keys ++ key ∷ [] → AreKeys after more
keys_pushed names after keys more name key kept small key_is after_is more_is =
    record {
      are = more_is ∙ (ap₂ (λ ks k. ks ++ k ∷ []) kept.are key_is ∙ (sym (map-append kept_key names (name ∷ [])) ∙ ap (map kept_key) (sym after_is)));
      bytes = subst (All AreBytes) (sym after_is) (All-append AreBytes names (name ∷ []) kept.bytes (alone name small));
    }

-- and its key is kept where it stands
pub key_at_name : (names : List (List ℕ)) (keys : List Key) (name : List ℕ) (key : Key) (n : ℕ) → AreKeys names keys → key_of name ≡ Some key → slice_get names n ≡ Some name → slice_get keys n ≡ Some key
key_at_name names keys name key n kept is at = ap (λ ks. slice_get ks n) kept.are ∙ go names n at
  where
    go : (names : List (List ℕ)) (n : ℕ) → slice_get names n ≡ Some name → slice_get (map kept_key names) n ≡ Some key
    go [] n at = absurd (cc)
    go (first ∷ names) zero at = ap (λ name. Some (kept_key name)) (same_Some first name at) ∙ ap (λ k. Some (unwrap_or k no_key)) is
    go (first ∷ names) (suc n) at = go names n at
