-- The laws of verdicts: that there is exactly one, and what it says of the graph of transactions.
use Rattle.std.specs.Prelude.{◌≡◌, ℕ, suc, true, false, List, ◌∷◌, length, ⊤}
use Rattle.aero_model.specs.declared.verdict.Verdict.{Verdict}
use Rattle.aero_model.specs.declared.verdict.Verdict.TheVariants.{Serializable, Pending, Violation}
use Rattle.aero_model.specs.Blocks.{Transaction, Block}
use Rattle.aero_model.specs.Cycle.{IsSerializable}
use Rattle.aero_model.specs.Graph.{IsCycle, TwoOpen}
use Rattle.aero_grammar.specs.Reading.{Reading}
use Rattle.aero_verdict.specs.Verdict.{IsVerdict, IsOnLine, HasName, BeginsOnLine, checked_trace}
use Rattle.aero_model.specs.Terms.{Rules}

-- all parts have a verdict under all rules
abbrev pub SomeVerdict : Type 0
SomeVerdict = (parts : List Reading) (rules : Rules) → (verdict : Verdict) × IsVerdict parts rules verdict

-- two verdicts on the same parts under the same rules are equal
abbrev pub OneVerdict : Type 0
OneVerdict = (parts : List Reading) (rules : Rules) (one other : Verdict) → IsVerdict parts rules one → IsVerdict parts rules other → one ≡ other

-- where the verdict is serializable, the graph has no cycle
abbrev pub SerializableHasNoCycle : Type 0
SerializableHasNoCycle =
    (parts : List Reading) (rules : Rules) (events blocks : ℕ)
    → IsVerdict parts rules (Serializable events blocks)
    → IsSerializable (checked_trace parts rules) (length (checked_trace parts rules))

-- The graph of the events up to and with the one on the line has a cycle. It begins in a block of the thread, which begins on the line begun.
pub record HasCycle (parts : List Reading) (rules : Rules) (line : ℕ) (thread : List ℕ) (begun : ℕ) : Type 0 where
  pub place : ℕ
  pub line_of : IsOnLine parts rules place line
  pub t : ℕ
  pub number : ℕ
  pub name : HasName parts rules t thread
  pub begins : BeginsOnLine parts rules t number begun
  pub rest : List Transaction
  pub cycle : IsCycle (checked_trace parts rules) (suc place) (Block t number) rest

-- where it is a violation, there is a cycle as told
abbrev pub ViolationHasCycle : Type 0
ViolationHasCycle =
    (parts : List Reading) (rules : Rules) (line : ℕ) (thread : List ℕ) (begun : ℕ)
    → IsVerdict parts rules (Violation line thread begun)
    → HasCycle parts rules line thread begun

-- where it is pending, each cycle passes two open blocks at least
abbrev pub PendingCyclesPassTwoOpen : Type 0
PendingCyclesPassTwoOpen =
    (parts : List Reading) (rules : Rules) (events blocks pending : ℕ) (first : Transaction) (rest : List Transaction)
    → IsVerdict parts rules (Pending events blocks pending)
    → IsCycle (checked_trace parts rules) (length (checked_trace parts rules)) first rest
    → TwoOpen (checked_trace parts rules) (length (checked_trace parts rules)) (first ∷ rest)

-- the same rules, but blocks that are open stay open
abbrev pub without_ends : Rules → Rules
without_ends rules = record rules { end = false }

-- No block is told as open, and where it is told that the trace is serializable, the graph has no cycle without the added ends either.
abbrev pub HidesNothing : List Reading → Rules → Verdict → Type 0
HidesNothing parts rules (Serializable events blocks) =
    IsSerializable (checked_trace parts (without_ends rules)) (length (checked_trace parts (without_ends rules)))
HidesNothing parts rules (Pending events blocks pending) = ⊥
HidesNothing parts rules _ = ⊤

-- where blocks that are open end, no verdict hides anything
abbrev pub EndsHideNothing : Type 0
EndsHideNothing = (parts : List Reading) (rules : Rules) (verdict : Verdict) → rules.end ≡ true → IsVerdict parts rules verdict → HidesNothing parts rules verdict
