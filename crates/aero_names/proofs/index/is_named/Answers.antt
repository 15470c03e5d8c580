use Rattle.std.proofs.Common.{rules, ◌≡◌, Some, sym, ◌∙◌}
use Rattle.aero_names.specs.Keys.{key_of}
use Rattle.aero_names.proofs.Keys.{found_by_key, key_at_name}
use Rattle.aero_names.proofs.index.is_named.Goals as goal

pub returns-in-Some : goal.returns-in-Some
returns-in-Some c =
    let is : key_of c.args.name.now ≡ Some c.in-Some.key = sym c.requires.key ∙ c.in-Some.is in (
      λ yes. found_by_key c.args.names.now c.args.keys.now c.args.name.now c.in-Some.key c.args.number c.requires.keyed (search rules) is (c.is_key_here.ensures.0 yes),
      λ at. c.is_key_here.ensures.1 (key_at_name c.args.names.now c.args.keys.now c.args.name.now c.in-Some.key c.args.number c.requires.keyed is at),
    )
