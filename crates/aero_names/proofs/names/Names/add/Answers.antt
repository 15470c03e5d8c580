use Rattle.std.proofs.Common.{rules, ◌≡◌, ◌+◌, ◌<◌, ◌==◌, ℕ, List, false, [], ◌∷◌, ◌++◌, length, sym, ◌∙◌, ap, subst, if◌then◌else◌}
use Rattle.aero_names.specs.declared.hash.Hashing.{Hashing}
use Rattle.aero_names.specs.declared.latest.Way.{Way}
use Rattle.aero_names.specs.Indexed.{name_in, next_at, marks_of, mark_of, AreFound}
use Rattle.aero_names.specs.Listing.{Listing, is_listed}
use Rattle.aero_names.proofs.Keys.{keys_pushed}
use Rattle.aero_names.proofs.Links.{linked}
use Rattle.aero_names.proofs.Listings.{found_pushed, indexed_pushed, last_name}
use Rattle.aero_names.proofs.names.Names.add.Goals as goal

pub invariant_of-self-2 : goal.invariant_of-self-2
invariant_of-self-2 c =
    let l : Listing = record { names = c.self.inside.list; limit = c.self.inside.limit } in
    let of : List ℕ → ℕ = mark_of (marks_of c.grow.new.latest) in
    let is = c.in_default.ensures.ok in
    let pushed = indexed_pushed of c.self.inside.list c.push.new.self c.args.name.now (next_at c.grow.new.latest) c.grow.new.before.items is c.grow.ensures.indexed in
    let mark_is : c.mark_of-mark.result ≡ of (name_in c.push.new.self (length c.self.inside.list)) =
    c.mark_of-mark.ensures.mark ∙ sym (ap of (last_name c.self.inside.list c.push.new.self c.args.name.now is)) in
    let updates : (m : ℕ) → next_at c.put.new.self m ≡ (if c.mark_of-mark.result == m then length c.self.inside.list + 1 else next_at c.grow.new.latest m) =
    λ m. c.in_ok-next.ensures.latest m ∙ ap (λ n. if c.mark_of-mark.result == m then n + 1 else next_at c.grow.new.latest m) c.len-number.ensures in
    let rows : c.push_reserved-2.new.self.items ≡ c.grow.new.before.items ++ next_at c.grow.new.latest c.mark_of-mark.result ∷ [] =
    c.push_reserved-2.ensures.items ∙ (ap (λ bs. bs ++ c.in_ok-next.next ∷ []) c.make_room.ensures.rows ∙ ap (λ n. c.grow.new.before.items ++ n ∷ []) c.in_ok-next.ensures.before) in
    let keyed = keys_pushed c.self.inside.list c.push.new.self c.self.inside.keys.items c.push_reserved.new.self.items c.args.name.now c.kept_key.result c.self.invariant.keyed (search rules) c.kept_key.ensures is
    (c.push_reserved.ensures.items ∙ ap (λ ks. ks ++ c.kept_key.result ∷ []) c.make_room.ensures.keys) in
    subst (λ (b : Way × Hashing × ℕ). AreFound (mark_of b) (record l { names = c.push.new.self }) (next_at c.put.new.self) c.push_reserved-2.new.self.items c.push_reserved.new.self.items)
    (sym c.put.ensures.marks)
    (found_pushed (mark_of (marks_of c.self.inside.latest)) of l c.args.name.now c.push.new.self (next_at c.self.inside.latest) (next_at c.put.new.self) c.self.inside.before.items c.push_reserved-2.new.self.items c.self.inside.keys.items c.push_reserved.new.self.items c.self.invariant
    (subst (λ (k : Listing). is_listed k c.args.name.now ≡ false) (sym c.self.view_is) c.requires.new)
    (subst (λ (k : Listing). length k.names < k.limit) (sym c.self.view_is) c.requires.room)
    is
    (linked of c.push.new.self (next_at c.grow.new.latest) (next_at c.put.new.self) c.grow.new.before.items c.push_reserved-2.new.self.items (length c.self.inside.list) c.mark_of-mark.result pushed mark_is updates rows)
    keyed)
