-- What `Marks` keeps of the events that are noted.
use Rattle.std.specs.Prelude.{◌≡◌, ℕ, ◌==◌, ◌<◌, Bool, true, List, Option, Some, None, slice_get}
use Rattle.aero_model.specs.declared.numbered.Numbered.{Numbered}
use Rattle.aero_model.specs.declared.numbered.What.{What}
use Rattle.aero_model.specs.declared.numbered.What.TheVariants.{Read, Write, Acquire, Join}
use Rattle.aero_model.specs.Shape.{is_release_of}
use Rattle.aero_witness.specs.declared.marks.Marks.{Marks}
use Rattle.aero_witness.specs.MarkWords.{mark_at, least, is_ahead, is_write_of, is_read_of}

-- the events of a thread, these and its fork, the writes and the reads of a variable, the releases of a lock
pub data Key : Type 0 where
  Own : (t : ℕ) → Key
  Ahead : (t : ℕ) → Key
  Writes : (x : ℕ) → Key
  Reads : (x : ℕ) → Key
  Releases : (l : ℕ) → Key

abbrev pub of_key : Key → Numbered → Bool
of_key (Own t) e = e.thread == t
of_key (Ahead t) e = is_ahead t e
of_key (Writes x) e = is_write_of x e.what
of_key (Reads x) e = is_read_of x e.what
of_key (Releases l) e = is_release_of l e.what

abbrev pub mark_of : Marks → Key → Option ℕ
mark_of marks (Own t) = mark_at marks.own.items t
mark_of marks (Ahead t) = mark_at marks.ahead.items t
mark_of marks (Writes x) = mark_at marks.writes.items x
mark_of marks (Reads x) = mark_at marks.reads.items x
mark_of marks (Releases l) = mark_at marks.releases.items l

-- the least of what is noted that conflicts by what is done
abbrev pub deed_source : (Key → Option ℕ) → What → Option ℕ → Option ℕ
deed_source marks (Read x) source = least source (marks (Writes x))
deed_source marks (Write x) source = least (least source (marks (Writes x))) (marks (Reads x))
deed_source marks (Acquire l) source = least source (marks (Releases l))
deed_source marks (Join u) source = least source (marks (Own u))
deed_source marks _ source = source

abbrev pub source_of : (Key → Option ℕ) → Numbered → Option ℕ
source_of marks e = deed_source marks e.what (marks (Ahead e.thread))

-- an event before place n that is noted and passes the test, if there is one
abbrev pub IsNoted : List Numbered → (ℕ → Bool) → (Numbered → Bool) → ℕ → Option ℕ → Type 0
IsNoted trace noted test n None = (i : ℕ) (e : Numbered) → i < n → noted i ≡ true → slice_get trace i ≡ Some e → test e ≡ true → ⊥
IsNoted trace noted test n (Some i) = (e : Numbered) × (i < n) × (noted i ≡ true) × (slice_get trace i ≡ Some e) × (test e ≡ true)

-- so for each kind
abbrev pub AreNoted : List Numbered → (ℕ → Bool) → ℕ → (Key → Option ℕ) → Type 0
AreNoted trace noted n marks = (k : Key) → IsNoted trace noted (of_key k) n (marks k)
