-- Labels on the lines of texts, and what is added to those that were there.
use Rattle.std.proofs.Common.{◌≡◌, ◌<◌, ◌≤◌, ◌+◌, ◌^◌, ◌==◌, ◌||◌, ◌∙◌, ℕ, suc, true, false, List, [], ◌∷◌, ◌++◌, length, map, take, drop, Option, Some, ap, sym, subst, refl, arith, length-append}
use Rattle.std.specs.Prelude.{slice_get}
use Rattle.std.specs.List.{list_any}
use Rattle.std.proofs.lemmas.Bool.{ne_eqb}
use Rattle.std.proofs.lemmas.List.{append_assoc, append-nil, map-append, take-append-drop}
use Rattle.std.proofs.lemmas.List.Concat.{flat_map-append}
use Rattle.std.proofs.lemmas.List.Elements.{filter_map-append}
use Rattle.std.proofs.lemmas.List.Folds.{list_any-append}
use Rattle.std.proofs.lemmas.List.Sums.{fold-append}
use Rattle.std.specs.Prelude.{bytes_eq}
use Rattle.indexmap.specs.IndexSet.{insert_key}
use Rattle.aero_model.specs.Lines.{lines_of}
use Rattle.aero_program.proofs.Labelling.{take_with}
use Rattle.aero_model.specs.Exempt.{Listed}
use Rattle.aero_program.specs.declared.command.Config.{Config}
use Rattle.aero_program.specs.declared.label_files.Unlabelled.{Unlabelled}
use Rattle.aero_program.specs.declared.label_files.Unlabelled.TheVariants as unlabelled
use Rattle.aero_program.specs.LabelFiles.{AreListed, AreListedBy, AreOfFiles, AreTexts, FailsAt, IsFaultIn, IsFileFault, IsLineFault, IsUnreadFault, is_no_label, label_on, label_paths, labels_in, labels_in_all, labels_on, with_labels}
use Rattle.aero_program.specs.Command.{listed_by}
use Rattle.aero_program.specs.Listing.{IsWhole}

-- labels that are added

pub added_twice : (had a b : List (List ℕ)) → with_labels had (a ++ b) ≡ with_labels (with_labels had a) b
added_twice had a b = fold-append (insert_key bytes_eq) had a b

pub sound_both : (a b : List (List ℕ)) → list_any is_no_label a ≡ false → list_any is_no_label b ≡ false → list_any is_no_label (a ++ b) ≡ false
sound_both a b first second = list_any-append is_no_label a b ∙ ap (λ x. x || list_any is_no_label b) first ∙ second

pub labels_on_both : (a b : List (List ℕ)) → labels_on (a ++ b) ≡ labels_on a ++ labels_on b
labels_on_both a b = filter_map-append label_on a b

-- the labels on the lines before the rest of a text were added
pub record Added (had : List (List ℕ)) (text rest : List ℕ) (number : ℕ) (keys : List (List ℕ)) : Type 0 where
  pub before : List (List ℕ)
  pub is : lines_of text ≡ before ++ lines_of rest
  pub counted : number ≡ length before
  pub added : keys ≡ with_labels had (labels_on before)
  pub sound : list_any is_no_label (labels_on before) ≡ false
  pub few : length keys ≤ 2 ^ 16
  pub within : number + length rest ≤ length text

pub added_nothing : (had : List (List ℕ)) (text : List ℕ) → length had ≤ 2 ^ 16 → Added had text text 0 had
added_nothing had text few = record { before = []; is = refl; counted = refl; added = refl; sound = refl; few = few; within = omega arith }

pub added_line : (had : List (List ℕ)) (text rest : List ℕ) (number : ℕ) (keys : List (List ℕ)) (line behind : List ℕ) (new : List (List ℕ)) → Added had text rest number keys
    → lines_of rest ≡ line ∷ lines_of behind → length behind < length rest → list_any is_no_label (labels_on (line ∷ [])) ≡ false → new ≡ with_labels keys (labels_on (line ∷ [])) → length new ≤ 2 ^ 16
    → Added had text behind (number + 1) new
added_line had text rest number keys line behind new so cut shorter sound more few = record {
  before = so.before ++ line ∷ [];
  is = so.is ∙ ap (λ l. so.before ++ l) cut ∙ sym (append_assoc so.before (line ∷ []) (lines_of behind));
  counted = let one = length-append so.before (line ∷ []) in let n = so.counted in omega (arith, one, n);
  added =
      more ∙ ap (λ k. with_labels k (labels_on (line ∷ []))) so.added ∙ sym (added_twice had (labels_on so.before) (labels_on (line ∷ [])))
      ∙ ap (with_labels had) (sym (labels_on_both so.before (line ∷ [])));
  sound = ap (list_any is_no_label) (labels_on_both so.before (line ∷ [])) ∙ sound_both (labels_on so.before) (labels_on (line ∷ [])) so.sound sound;
  few = few;
  within = let w = so.within in omega (arith, shorter, w);
}

empty_rest : (rest : List ℕ) → (length rest == 0) ≡ true → lines_of rest ≡ []
empty_rest [] none = refl
empty_rest (x ∷ rest) none = let some = ne_eqb (length (x ∷ rest)) 0 (λ e. omega (arith, e)) in absurd (cc)

pub all_added : (had : List (List ℕ)) (text rest : List ℕ) (number : ℕ) (keys : List (List ℕ)) (so : Added had text rest number keys) → (length rest == 0) ≡ true → so.before ≡ lines_of text
all_added had text rest number keys so none = sym (so.is ∙ ap (λ l. so.before ++ l) (empty_rest rest none) ∙ append-nil so.before)

-- why a line can't be added is why the text can't
pub fault_in : (had : List (List ℕ)) (text rest : List ℕ) (number : ℕ) (keys : List (List ℕ)) (line behind : List ℕ) (why : Unlabelled) → Added had text rest number keys
    → lines_of rest ≡ line ∷ lines_of behind → IsLineFault keys (labels_on (line ∷ [])) (number + 1) why → IsFaultIn had text why
fault_in had text rest number keys line behind (unlabelled.Unread reason) so cut fault = fault
fault_in had text rest number keys line behind (unlabelled.NoLabel n) so cut fault =
    let next : number + 1 ≡ suc number = omega arith in
    record {
      before = so.before;
      line = line;
      behind = lines_of behind;
      is = so.is ∙ ap (λ l. so.before ++ l) cut;
      counted = fault.0 ∙ next ∙ ap suc so.counted;
      may = (so.sound, subst (λ l. length l ≤ 2 ^ 16) so.added so.few);
      failed = fault.1;
    }
fault_in had text rest number keys line behind (unlabelled.TooMany n) so cut fault =
    let next : number + 1 ≡ suc number = omega arith in
    record {
      before = so.before;
      line = line;
      behind = lines_of behind;
      is = so.is ∙ ap (λ l. so.before ++ l) cut;
      counted = fault.0 ∙ next ∙ ap suc so.counted;
      may = (so.sound, subst (λ l. length l ≤ 2 ^ 16) so.added so.few);
      failed = (
        fault.1,
        subst (λ l. 2 ^ 16 < length l) (ap (λ k. with_labels k (labels_on (line ∷ []))) so.added ∙ sym (added_twice had (labels_on so.before) (labels_on (line ∷ []))) ∙ ap (with_labels had) (sym (labels_on_both so.before (line ∷ [])))) fault.2,
      );
    }
fault_in had text rest number keys line behind unlabelled.Memory so cut fault = tt

-- why a file can't be read is why its labels can't be added
pub unread_file : (known : List ℕ → Option (List ℕ)) (can_fail : List ℕ → Type 0) (had : List (List ℕ)) (path : List ℕ) (why : Unlabelled) → IsUnreadFault (can_fail path) why → IsFileFault known can_fail had path why
unread_file known can_fail had path (unlabelled.Unread reason) fault = fault
unread_file known can_fail had path (unlabelled.NoLabel n) fault = absurd fault
unread_file known can_fail had path (unlabelled.TooMany n) fault = absurd fault
unread_file known can_fail had path unlabelled.Memory fault = tt

-- and so is a fault in what it has
pub faulty_file : (known : List ℕ → Option (List ℕ)) (can_fail : List ℕ → Type 0) (had : List (List ℕ)) (path text : List ℕ) (why : Unlabelled) → IsWhole (known path) text → IsFaultIn had text why → IsFileFault known can_fail had path why
faulty_file known can_fail had path text (unlabelled.Unread reason) whole fault = absurd fault
faulty_file known can_fail had path text (unlabelled.NoLabel n) whole fault = (text, whole, fault)
faulty_file known can_fail had path text (unlabelled.TooMany n) whole fault = (text, whole, fault)
faulty_file known can_fail had path text unlabelled.Memory whole fault = tt

-- files

-- the labels of the first of these files were added
pub record Listing (known : List ℕ → Option (List ℕ)) (had : List (List ℕ)) (paths : List (List ℕ)) (keys : List (List ℕ)) : Type 0 where
  pub texts : List (List ℕ)
  pub are : AreTexts known paths texts
  pub added : keys ≡ with_labels had (labels_in_all texts)
  pub few : length keys ≤ 2 ^ 16

one_text_more : (known : List ℕ → Option (List ℕ)) (paths texts : List (List ℕ)) (path text : List ℕ) → AreTexts known paths texts → IsWhole (known path) text → list_any is_no_label (labels_in text) ≡ false
    → AreTexts known (paths ++ path ∷ []) (texts ++ text ∷ [])
one_text_more known [] [] path text are whole sound = (whole, sound, tt)
one_text_more known [] (t ∷ texts) path text are whole sound = absurd are
one_text_more known (p ∷ paths) [] path text are whole sound = absurd are
one_text_more known (p ∷ paths) (t ∷ texts) path text are whole sound = (are.0, are.1, one_text_more known paths texts path text are.2 whole sound)

pub listed_more : (known : List ℕ → Option (List ℕ)) (had : List (List ℕ)) (paths keys new : List (List ℕ)) (path text : List ℕ) → Listing known had paths keys → IsWhole (known path) text → list_any is_no_label (labels_in text) ≡ false
    → new ≡ with_labels keys (labels_in text) → length new ≤ 2 ^ 16 → Listing known had (paths ++ path ∷ []) new
listed_more known had paths keys new path text so whole sound more few = record {
  texts = so.texts ++ text ∷ [];
  are = one_text_more known paths so.texts path text so.are whole sound;
  added =
      more ∙ ap (λ k. with_labels k (labels_in text)) so.added ∙ sym (added_twice had (labels_in_all so.texts) (labels_in text))
      ∙ ap (with_labels had) (ap (λ l. labels_in_all so.texts ++ l) (sym (append-nil (labels_in text))) ∙ sym (flat_map-append labels_in so.texts (text ∷ [])));
  few = few;
}

pub fails_at : (known : List ℕ → Option (List ℕ)) (can_fail : List ℕ → Type 0) (had : List (List ℕ)) (all paths keys behind : List (List ℕ)) (path : List ℕ) (why : Unlabelled) → Listing known had paths keys → all ≡ paths ++ path ∷ behind
    → IsFileFault known can_fail keys path why → FailsAt known can_fail had all path why
fails_at known can_fail had all paths keys behind path why so is fault = record {
  before = paths;
  behind = behind;
  is = is;
  texts = so.texts;
  are = so.are;
  fault = subst (λ k. IsFileFault known can_fail k path why) so.added fault;
}

pub listed_more_at : {S : Type 0} (known : List ℕ → Option (List ℕ)) (had : List (List ℕ)) (f : S → List ℕ) (all : List S) (i : ℕ) (x : S) (keys new : List (List ℕ)) (path : List ℕ) → slice_get all i ≡ Some x → path ≡ f x
    → Listing known had (map f (take i all)) keys → ((text : List ℕ) × IsWhole (known path) text × (list_any is_no_label (labels_in text) ≡ false) × (new ≡ with_labels keys (labels_in text))) → length new ≤ 2 ^ 16
    → Listing known had (map f (take (i + 1) all)) new
listed_more_at known had f all i x keys new path at is so added few =
    subst (λ ps. Listing known had ps new) (sym (ap (map f) (take_with all i x at) ∙ map-append f (take i all) (x ∷ []) ∙ ap (λ p. map f (take i all) ++ p ∷ []) (sym is)))
    (listed_more known had (map f (take i all)) keys new path added.0 so added.1 added.2 added.3 few)

pub fails_at_place : {S : Type 0} (known : List ℕ → Option (List ℕ)) (can_fail : List ℕ → Type 0) (had : List (List ℕ)) (f : S → List ℕ) (all : List S) (i : ℕ) (x : S) (keys : List (List ℕ)) (path : List ℕ) (why : Unlabelled)
    → slice_get all i ≡ Some x → path ≡ f x → Listing known had (map f (take i all)) keys → IsFileFault known can_fail keys path why → FailsAt known can_fail had (map f all) path why
fails_at_place known can_fail had f all i x keys path why at is so fault =
    fails_at known can_fail had (map f all) (map f (take i all)) keys (map f (drop (i + 1) all)) path why so
    (ap (map f) (sym (take-append-drop (i + 1) all) ∙ ap (λ l. l ++ drop (i + 1) all) (take_with all i x at) ∙ append_assoc (take i all) (x ∷ []) (drop (i + 1) all))
    ∙ map-append f (take i all) (x ∷ drop (i + 1) all) ∙ ap (λ p. map f (take i all) ++ p ∷ map f (drop (i + 1) all)) (sym is))
    fault

-- all of it

pub unread_as : (a b : Type 0) (why : Unlabelled) → (a → b) → IsUnreadFault a why → IsUnreadFault b why
unread_as a b (unlabelled.Unread reason) on fault = on fault
unread_as a b (unlabelled.NoLabel n) on fault = fault
unread_as a b (unlabelled.TooMany n) on fault = fault
unread_as a b unlabelled.Memory on fault = tt

pub nothing_mapped : {X Y : Type 0} (f : X → Y) (xs : List X) → (length xs == 0) ≡ true → map f xs ≡ []
nothing_mapped f [] none = refl
nothing_mapped f (x ∷ xs) none = let some = ne_eqb (length (x ∷ xs)) 0 (λ e. omega (arith, e)) in absurd (cc)

pub listed_without : (known : List ℕ → Option (List ℕ)) (config : Config) → label_paths config ≡ [] → AreListed known config (listed_by config.except.items config.only.items)
listed_without known config none = subst (AreListedBy known config (listed_by config.except.items config.only.items)) (sym none) refl

listed_by_files : (known : List ℕ → Option (List ℕ)) (config : Config) (listed : Listed) (X : Type 0) (f : X → List ℕ) (xs : List X) → (length xs == 0) ≡ false → AreOfFiles known config listed → AreListedBy known config listed (map f xs)
listed_by_files known config listed X f [] some of = absurd (cc)
listed_by_files known config listed X f (x ∷ xs) some of = of

pub listed_with : {X : Type 0} (known : List ℕ → Option (List ℕ)) (config : Config) (listed : Listed) (f : X → List ℕ) (xs : List X) → map f xs ≡ label_paths config → (length xs == 0) ≡ false → AreOfFiles known config listed
    → AreListed known config listed
listed_with known config listed f xs are some of = subst (AreListedBy known config listed) are (listed_by_files known config listed _ f xs some of)

-- a text of three parts
pub three_parts : (t a b c x y z : List ℕ) → x ≡ t ++ a → y ≡ x ++ b → z ≡ y ++ c → z ≡ t ++ (a ++ (b ++ c))
three_parts t a b c x y z is_x is_y is_z = is_z ∙ ap (λ l. l ++ c) (is_y ∙ ap (λ l. l ++ b) is_x) ∙ append_assoc (t ++ a) b c ∙ append_assoc t a (b ++ c)
