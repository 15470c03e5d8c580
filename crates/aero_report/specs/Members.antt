-- The tokens of members, for private clauses.
use Rattle.std.specs.Prelude.{List, ◌∷◌, flat_map}
use Rattle.json.specs.Token.{Token, key}
use Rattle.json.specs.Tree.{json_tokens}
use Rattle.aero_report.specs.Json.{Member}

abbrev pub member_tokens : Member → List Token
member_tokens m = key m.0 ∷ json_tokens m.1

abbrev pub all_members_tokens : List Member → List Token
all_members_tokens = flat_map member_tokens
