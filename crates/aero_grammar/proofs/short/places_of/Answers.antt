use Rattle.std.proofs.Common.{◌==◌, take, drop, arith, w8}
use Rattle.std.proofs.lemmas.Simd.{bitmask_splat, length-chunk}
use Rattle.aero_grammar.proofs.short.places_of.Goals as goal

pub returns : goal.returns
returns c = bitmask_splat w8 (λ a b. a == b) (take 32 (drop c.args.at c.args.text.now)) 32 c.args.sought (length-chunk c.args.at 32 c.args.text.now c.requires) (omega arith)
