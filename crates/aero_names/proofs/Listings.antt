-- A list of names, each with its number, and one name more.
use Rattle.std.proofs.Common.{◌≡◌, ◌+◌, ◌<◌, ◌≤◌, ℕ, zero, suc, Bool, true, false, cond, not, ◌||◌, List, [], ◌∷◌, ◌++◌, length, refl, sym, ◌∙◌, ap, subst, ◌⊎◌, inl, inr, arith, Option, Some, length-append}
use Rattle.std.proofs.lemmas.Bool.{cases_Bool, or_parts, or_left, or_right, both_ways}
use Rattle.std.proofs.lemmas.List.Sums.{fold-append}
use Rattle.std.proofs.lemmas.Option.{same_Some, unwrap_or-slice_get}
use Rattle.std.proofs.Math.ListN.{get_or-append}
use Rattle.std.proofs.lemmas.Slice.Eq.{bytes_eq-Decides}
use Rattle.std.specs.Prelude.{bytes_eq, slice_get, slice_index, unwrap_or, Result, Ok, Err, IfOk, IfSome, OnOk, OnErr, IsErrOf, ◌↔◌}
use Rattle.std.specs.List.{list_any}
use Rattle.aero_model.specs.Numbering.{with_name, different_names, number_of}
use Rattle.aero_names.specs.declared.key.Key.{Key}
use Rattle.aero_names.specs.Keys.{AreKeys}
use Rattle.aero_names.specs.Indexed.{name_in, IsLatest, IsIndexed, AreDistinct, AreFound}
use Rattle.aero_names.specs.Listing.{Listing, IsListing, IsNumbered, is_listed}
use Rattle.aero_names.specs.declared.names.NamesFault.{NamesFault}
use Rattle.aero_names.specs.declared.names.NamesFault.TheVariants.{Full}

-- a new name goes last, and gets the next number
with_name-known : (names : List (List ℕ)) (name : List ℕ) → list_any (bytes_eq name) names ≡ true → with_name names name ≡ names
with_name-known names name is = ap (λ b. cond b names (names ++ name ∷ [])) is

pub with_name-new : (names : List (List ℕ)) (name : List ℕ) → list_any (bytes_eq name) names ≡ false → with_name names name ≡ names ++ name ∷ []
with_name-new names name is = ap (λ b. cond b names (names ++ name ∷ [])) is

pub number_of-last : (names : List (List ℕ)) (name : List ℕ) → list_any (bytes_eq name) names ≡ false → number_of (names ++ name ∷ []) name ≡ length names
number_of-last [] name new = ap (λ b. cond (not b) (1 + 0) 0) ((bytes_eq-Decides name name).1 refl)
number_of-last (first ∷ names) name new =
    let parts = or_parts (bytes_eq name first) (list_any (bytes_eq name) names) new in
    ap (λ b. cond (not b) (1 + number_of (names ++ name ∷ []) name) 0) parts.0
    ∙ (ap (λ n. 1 + n) (number_of-last names name parts.1) ∙ (let next : 1 + length names ≡ suc (length names) = omega arith in next))

-- one more name leaves the names different
pub different-with_name : (names : List (List ℕ)) (name : List ℕ) → different_names names ≡ names → different_names (with_name names name) ≡ with_name names name
different-with_name names name are = go (cases_Bool (list_any (bytes_eq name) names))
  where
    go : (list_any (bytes_eq name) names ≡ true) ⊎ (list_any (bytes_eq name) names ≡ false) → different_names (with_name names name) ≡ with_name names name
    go (inl known) = ap different_names (with_name-known names name known) ∙ (are ∙ sym (with_name-known names name known))
    go (inr new) =
        ap different_names (with_name-new names name new)
        ∙ (fold-append with_name [] names (name ∷ []) ∙ ap (λ before. with_name before name) are)

known_stays : (l : Listing) (name : List ℕ) → is_listed l name ≡ true → l ≡ record l { names = with_name l.names name }
known_stays l name known = ap (λ names. record l { names = names }) (sym (with_name-known l.names name known))

-- a listed name stands at its number
pub number_of-place : (names : List (List ℕ)) (name : List ℕ) → list_any (bytes_eq name) names ≡ true → slice_get names (number_of names name) ≡ Some name
number_of-place [] name is = cc
number_of-place (first ∷ names) name is = go (bytes_eq name first) refl is (number_of-place names name)
  where
    go : (b : Bool) → bytes_eq name first ≡ b → (b || list_any (bytes_eq name) names) ≡ true →
        (list_any (bytes_eq name) names ≡ true → slice_get names (number_of names name) ≡ Some name) → slice_get (first ∷ names) (cond (not b) (1 + number_of names name) 0) ≡ Some name
    go true same is later = ap Some (sym ((bytes_eq-Decides name first).0 same))
    go false other is later =
        let next : 1 + number_of names name ≡ suc (number_of names name) = omega arith in
        ap (slice_get (first ∷ names)) next ∙ later is

-- a name that stands at a place is listed
listed_at : (names : List (List ℕ)) (name : List ℕ) (n : ℕ) → slice_get names n ≡ Some name → list_any (bytes_eq name) names ≡ true
listed_at [] name n at = absurd (cc)
listed_at (first ∷ names) name zero at = or_left (bytes_eq name first) (list_any (bytes_eq name) names) ((bytes_eq-Decides name first).1 (sym (same_Some first name at)))
listed_at (first ∷ names) name (suc n) at = or_right (bytes_eq name first) (list_any (bytes_eq name) names) (listed_at names name n at)

-- a name stands where a hint tells it
pub at_hint : (hint : Option ℕ) (n : ℕ) (names : List (List ℕ)) (name : List ℕ) → hint ≡ Some n → IfSome hint (λ k. slice_get names k ≡ Some name) → slice_get names n ≡ Some name
at_hint hint n names name is at = subst (λ h. IfSome h (λ k. slice_get names k ≡ Some name)) is at

-- a name that is found has its number
pub number_found : (l : Listing) (name : List ℕ) (n : ℕ) → AreDistinct l.names → slice_get l.names n ≡ Some name → n ≡ number_of l.names name
number_found l name n distinct at = distinct n (number_of l.names name) name at (number_of-place l.names name (listed_at l.names name n at))

listed_found : (l : Listing) (name : List ℕ) (n : ℕ) → slice_get l.names n ≡ Some name → is_listed l name ≡ true
listed_found l name n at = listed_at l.names name n at

-- one more that is new leaves all found
end_or_front : (names : List (List ℕ)) (name x : List ℕ) (n : ℕ) → slice_get (names ++ name ∷ []) n ≡ Some x → ((n ≡ length names) × (x ≡ name)) ⊎ (slice_get names n ≡ Some x)
end_or_front [] name x zero at = inl (refl, sym (same_Some name x at))
end_or_front [] name x (suc n) at = absurd (cc)
end_or_front (first ∷ names) name x zero at = inr at
end_or_front (first ∷ names) name x (suc n) at = go (end_or_front names name x n at)
  where
    go : ((n ≡ length names) × (x ≡ name)) ⊎ (slice_get names n ≡ Some x) → ((suc n ≡ length (first ∷ names)) × (x ≡ name)) ⊎ (slice_get (first ∷ names) (suc n) ≡ Some x)
    go (inl here) = inl (ap suc here.0, here.1)
    go (inr there) = inr there

pub distinct_pushed : (names : List (List ℕ)) (name : List ℕ) → list_any (bytes_eq name) names ≡ false → AreDistinct names → AreDistinct (names ++ name ∷ [])
distinct_pushed names name new distinct a b x at_a at_b = go (end_or_front names name x a at_a) (end_or_front names name x b at_b)
  where
    twice : (n : ℕ) → x ≡ name → slice_get names n ≡ Some x → ⊥
    twice n is at = both_ways (list_any (bytes_eq name) names) new (subst (λ y. list_any (bytes_eq y) names ≡ true) is (listed_at names x n at))

    go : ((a ≡ length names) × (x ≡ name)) ⊎ (slice_get names a ≡ Some x) → ((b ≡ length names) × (x ≡ name)) ⊎ (slice_get names b ≡ Some x) → a ≡ b
    go (inl here) (inl there) = here.0 ∙ sym there.0
    go (inl here) (inr there) = absurd (twice b here.1 there)
    go (inr here) (inl there) = absurd (twice a there.1 here)
    go (inr here) (inr there) = distinct a b x here there

same_name : (names more : List (List ℕ)) (n : ℕ) → n < length names → name_in (names ++ more) n ≡ name_in names n
same_name names more n less = unwrap_or-slice_get (names ++ more) n [] ∙ (get_or-append names more [] n less ∙ sym (unwrap_or-slice_get names n []))

last_place : (names : List (List ℕ)) (name : List ℕ) → slice_get (names ++ name ∷ []) (length names) ≡ Some name
last_place [] name = refl
last_place (first ∷ names) name = last_place names name

latest_longer : (of : List ℕ → ℕ) (names more : List (List ℕ)) (hash below next : ℕ) → below ≤ length names → IsLatest of names hash below next → IsLatest of (names ++ more) hash below next
latest_longer of names more hash below next within latest =
    record {
      within = latest.within;
      here = λ n is. ap of (same_name names more n (let le = latest.within in omega (arith, le, is, within))) ∙ latest.here n is;
      others = λ n le less at. latest.others n le less (sym (ap of (same_name names more n (omega (arith, less, within)))) ∙ at);
    }

indexed_longer : (of : List ℕ → ℕ) (names more : List (List ℕ)) (count : ℕ) (next : ℕ → ℕ) (before : List ℕ) → count ≤ length names → IsIndexed of names count next before → IsIndexed of (names ++ more) count next before
indexed_longer of names more count next before within indexed =
    record {
      at_hashes = λ h. latest_longer of names more h count (next h) within (indexed.at_hashes h);
      behind = λ n less.
          subst (λ name. IsLatest of (names ++ more) (of name) n (slice_index before n)) (sym (same_name names more n (omega (arith, less, within))))
          (latest_longer of names more (of (name_in names n)) n (slice_index before n) (omega (arith, less, within)) (indexed.behind n less));
      long = indexed.long;
    }

pub indexed_pushed : (of : List ℕ → ℕ) (names after : List (List ℕ)) (name : List ℕ) (next : ℕ → ℕ) (before : List ℕ) → after ≡ names ++ name ∷ [] → IsIndexed of names (length names) next before → IsIndexed of after (length names) next before
indexed_pushed of names after name next before is indexed =
    subst (λ ns. IsIndexed of ns (length names) next before) (sym is) (indexed_longer of names (name ∷ []) (length names) next before (omega arith) indexed)

-- the last name
pub last_name : (names after : List (List ℕ)) (name : List ℕ) → after ≡ names ++ name ∷ [] → name_in after (length names) ≡ name
last_name names after name is = ap (λ ns. name_in ns (length names)) is ∙ ap (λ o. unwrap_or o []) (last_place names name)

listing_pushed : (l : Listing) (name : List ℕ) → IsListing l → is_listed l name ≡ false → length l.names < l.limit → IsListing (record l { names = l.names ++ name ∷ [] })
listing_pushed l name listing new room =
    record {
      different = subst (λ ns. different_names ns ≡ ns) (with_name-new l.names name new) (different-with_name l.names name listing.different);
      within = let long = length-append l.names (name ∷ []) in omega (arith, long, room);
      in_range = listing.in_range;
    }

pub found_pushed : (of of' : List ℕ → ℕ) (l : Listing) (name : List ℕ) (after : List (List ℕ)) (next next' : ℕ → ℕ) (before before' : List ℕ) (keys keys' : List Key) → AreFound of l next before keys → is_listed l name ≡ false → length l.names < l.limit → after ≡ l.names ++ name ∷ [] →
    IsIndexed of' after (length l.names + 1) next' before' → AreKeys after keys' → AreFound of' (record l { names = after }) next' before' keys'
found_pushed of of' l name after next next' before before' keys keys' found new room is indexed keyed =
    record {
      listing = subst (λ ns. IsListing (record l { names = ns })) (sym is) (listing_pushed l name found.listing new room);
      distinct = subst AreDistinct (sym is) (distinct_pushed l.names name new found.distinct);
      indexed = subst (λ n. IsIndexed of' after n next' before') (sym (ap length is ∙ length-append l.names (name ∷ []))) indexed;
      keyed = keyed;
    }

-- the number that a new name got, and what stands there
new_number : {E : Type 0} → (r : Result ℕ E) (l after : Listing) (name : List ℕ) → is_listed l name ≡ false → IfOk r (λ n. n ≡ length l.names) → OnOk r (after ≡ record l { names = l.names ++ name ∷ [] }) → IfOk r (λ n. n ≡ number_of after.names name)
new_number (Ok n) l after name new is names = is ∙ (sym (number_of-last l.names name new) ∙ sym (ap (λ (a : Listing). number_of a.names name) names))
new_number (Err e) l after name new is names = tt

new_place : {E : Type 0} → (r : Result ℕ E) (l after : Listing) (name : List ℕ) → is_listed l name ≡ false → IfOk r (λ n. n ≡ length l.names) → OnOk r (after ≡ record l { names = l.names ++ name ∷ [] }) → IfOk r (λ n. slice_get after.names n ≡ Some name)
new_place (Ok n) l after name new is names = ap (slice_get after.names) is ∙ (ap (λ (a : Listing). slice_get a.names (length l.names)) names ∙ last_place l.names name)
new_place (Err e) l after name new is names = tt

new_names : {E : Type 0} → (r : Result ℕ E) (l after : Listing) (name : List ℕ) → is_listed l name ≡ false → OnOk r (after ≡ record l { names = l.names ++ name ∷ [] }) → OnOk r (after ≡ record l { names = with_name l.names name })
new_names (Ok n) l after name new names = names ∙ ap (λ (ns : List (List ℕ)). record l { names = ns }) (sym (with_name-new l.names name new))
new_names (Err e) l after name new names = tt

-- a name that stands in the list has its number there, and the list stays
pub numbered_known : (l : Listing) (name : List ℕ) (n : ℕ) → IsListing l → AreDistinct l.names → slice_get l.names n ≡ Some name → IsNumbered l l name (Ok n)
numbered_known l name n listing distinct at =
    let known : is_listed l name ≡ true = listed_found l name n at in
    record {
      number = number_found l name n distinct at;
      place = at;
      names = known_stays l name known;
      known = λ _. refl;
      full = (λ full. cc, λ room. absurd (let no : true ≡ false = sym known ∙ room.0 in cc));
      err = tt;
      listing = listing;
    }

-- a new one gets the next number, where it gets one
pub numbered_new : (r : Result ℕ NamesFault) (l after : Listing) (name : List ℕ) → is_listed l name ≡ false → IfOk r (λ n. n ≡ length l.names) → OnOk r (after ≡ record l { names = l.names ++ name ∷ [] }) →
    (IsErrOf r Full ↔ (l.limit ≤ length l.names)) → OnErr r (after ≡ l) → IsListing after → IsNumbered l after name r
numbered_new r l after name new number names full err listing =
    record {
      number = new_number r l after name new number names;
      place = new_place r l after name new number names;
      names = new_names r l after name new names;
      known = λ known. absurd (both_ways (is_listed l name) new known);
      full = (λ is. (new, full.0 is), λ room. full.1 room.1);
      err = err;
      listing = listing;
    }
