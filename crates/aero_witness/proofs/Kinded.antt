-- Events conflict exactly where some kind numbers the first as a source as the second as a target.
use Rattle.std.proofs.Common.{◌≡◌, ℕ, ◌<◌, List, length, Option, Some, None, refl, sym, ◌∙◌, ap}
use Rattle.std.specs.Prelude.{slice_get}
use Rattle.std.proofs.lemmas.Option.{same_Some, slice_get_within}
use Rattle.aero_model.specs.declared.numbered.Numbered.{Numbered}
use Rattle.aero_model.specs.declared.numbered.What.{What}
use Rattle.aero_model.specs.declared.numbered.What.TheVariants.{Read, Write, Acquire, Release, Fork, Join}
use Rattle.aero_model.specs.Graph.{Conflict, Conflicts, same_thread, write_read, read_write, write_write, release_acquire, forks, joined}
use Rattle.aero_witness.specs.declared.kinds.Kind.{Kind}
use Rattle.aero_witness.specs.declared.kinds.Kind.TheVariants.{Threads, Forks, Joins, Writes, Reads, Releases}
use Rattle.aero_witness.specs.Kinds.{source_by, target_by, source_number, target_number, of_event, sources, targets}

-- an event that is numbered
numbered : (f : Numbered → Option ℕ) (o : Option Numbered) (m : ℕ) → of_event f o ≡ Some m → (e : Numbered) × (o ≡ Some e) × (f e ≡ Some m)
numbered f None m h = absurd (cc)
numbered f (Some e) m h = (e, refl, h)

pub target_within : (trace : List Numbered) (k : Kind) (j m : ℕ) → targets trace k j ≡ Some m → j < length trace
target_within trace k j m at = let e = numbered (target_number k) (slice_get trace j) m at in slice_get_within trace j e.0 e.1

fork_by : (w : What) (m : ℕ) → source_by Forks w ≡ Some m → w ≡ Fork m
fork_by (Fork u) m e = ap Fork (same_Some u m e)
fork_by _ m e = cc

write_by : (w : What) (m : ℕ) → source_by Writes w ≡ Some m → w ≡ Write m
write_by (Write u) m e = ap Write (same_Some u m e)
write_by _ m e = cc

read_by : (w : What) (m : ℕ) → source_by Reads w ≡ Some m → w ≡ Read m
read_by (Read u) m e = ap Read (same_Some u m e)
read_by _ m e = cc

release_by : (w : What) (m : ℕ) → source_by Releases w ≡ Some m → w ≡ Release m
release_by (Release u) m e = ap Release (same_Some u m e)
release_by _ m e = cc

joins_to : (w : What) (m : ℕ) → target_by Joins w ≡ Some m → w ≡ Join m
joins_to (Join u) m e = ap Join (same_Some u m e)
joins_to _ m e = cc

write_to : (w : What) (m : ℕ) → target_by Reads w ≡ Some m → w ≡ Write m
write_to (Write u) m e = ap Write (same_Some u m e)
write_to _ m e = cc

acquire_to : (w : What) (m : ℕ) → target_by Releases w ≡ Some m → w ≡ Acquire m
acquire_to (Acquire u) m e = ap Acquire (same_Some u m e)
acquire_to _ m e = cc

after_write : (a b : Numbered) (m : ℕ) (w : What) → a.what ≡ Write m → b.what ≡ w → target_by Writes w ≡ Some m → Conflicts a b
after_write a b m (Read x) p q e = write_read m p (q ∙ ap Read (same_Some x m e))
after_write a b m (Write x) p q e = write_write m p (q ∙ ap Write (same_Some x m e))
after_write a b m _ p q e = absurd (cc)

conflicts_by : (k : Kind) (m : ℕ) (a b : Numbered) → source_number k a ≡ Some m → target_number k b ≡ Some m → Conflicts a b
conflicts_by Threads m a b s t = same_thread (same_Some a.thread b.thread (s ∙ sym t))
conflicts_by Forks m a b s t = forks (fork_by a.what m s ∙ ap Fork (sym (same_Some b.thread m t)))
conflicts_by Joins m a b s t = joined (joins_to b.what m t ∙ ap Join (sym (same_Some a.thread m s)))
conflicts_by Writes m a b s t = after_write a b m b.what (write_by a.what m s) refl t
conflicts_by Reads m a b s t = read_write m (read_by a.what m s) (write_to b.what m t)
conflicts_by Releases m a b s t = release_acquire m (release_by a.what m s) (acquire_to b.what m t)

abbrev ByKind : Numbered → Numbered → Type 0
ByKind a b = (k : Kind) × (m : ℕ) × (source_number k a ≡ Some m) × (target_number k b ≡ Some m)

kind_of : (a b : Numbered) → Conflicts a b → ByKind a b
kind_of a b (same_thread e) = (Threads, b.thread, ap Some e, refl)
kind_of a b (forks p) = (Forks, b.thread, ap (source_by Forks) p, refl)
kind_of a b (joined q) = (Joins, a.thread, refl, ap (target_by Joins) q)
kind_of a b (write_read x p q) = (Writes, x, ap (source_by Writes) p, ap (target_by Writes) q)
kind_of a b (write_write x p q) = (Writes, x, ap (source_by Writes) p, ap (target_by Writes) q)
kind_of a b (read_write x p q) = (Reads, x, ap (source_by Reads) p, ap (target_by Reads) q)
kind_of a b (release_acquire l p q) = (Releases, l, ap (source_by Releases) p, ap (target_by Releases) q)

module _ (trace : List Numbered) where
  pub conflict_by : (k : Kind) (m i j : ℕ) → i < j → sources trace k i ≡ Some m → targets trace k j ≡ Some m → Conflict trace i j
  conflict_by k m i j l s t =
      let a = numbered (source_number k) (slice_get trace i) m s in
      let b = numbered (target_number k) (slice_get trace j) m t in
      record { earlier = l; first = a.0; first_at = a.1; second = b.0; second_at = b.1; conflict = conflicts_by k m a.0 b.0 a.2 b.2 }

  pub kind_between : (i j : ℕ) → Conflict trace i j → (k : Kind) × (m : ℕ) × (sources trace k i ≡ Some m) × (targets trace k j ≡ Some m)
  kind_between i j c =
      let h = kind_of c.first c.second c.conflict in
      (h.0, h.1, ap (of_event (source_number h.0)) c.first_at ∙ h.2, ap (of_event (target_number h.0)) c.second_at ∙ h.3)
