use Rattle.std.proofs.Common.{rules}
use Rattle.std.proofs.lemmas.Fn.{dedup_same}
use Rattle.aero_leads.proofs.Compacting.{sorted_later, same_thread, compacted}
use Rattle.aero_leads.proofs.variable.compact.Goals as goal

pub returns : goal.returns
returns c =
    compacted c.args.reads.now.items c.sort_unstable_by.new.self.items c.dedup_by_key.new.self.items c.sort_unstable_by.ensures.permutation
    (sorted_later _ c.sort_unstable_by.ensures.sorted (λ a r f' k. search rules))
    (dedup_same _ same_thread _ (λ x y b f' x' y' k. search rules) _ _ c.dedup_by_key.ensures.filtered)
