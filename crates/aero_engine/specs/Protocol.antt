-- What callers see of an engine between two calls, what a call leaves, and what is known of it where the engine stands for a list of events.
use Rattle.std.specs.Prelude.{◌≡◌, ℕ, nat_lt, Bool, true, false, List, length, Option, None, Result, Ok, Err, OnOk, OnErr, IfOk, IsErr, IsSome}
use Rattle.aero_model.specs.declared.numbered.Numbered.{Numbered}
use Rattle.aero_model.specs.Blocks.{depth, blocks}
use Rattle.aero_model.specs.Shape.{has_acted}
use Rattle.aero_engine.specs.declared.spent.Spent.{Spent}

pub record View : Type 0 where
  -- whether the thread is in a block, how many outermost begins it has made, whether it has made an event
  pub in_block : ℕ → Bool
  pub begins : ℕ → ℕ
  pub acted : ℕ → Bool
  -- the thread whose block was told, if one was
  pub closed : Option ℕ
  -- whether memory was refused
  pub spent : Bool

-- the tests answer the same
pub record HaveSameTests (old new : View) : Type 0 where
  pub in_block : (t : ℕ) → new.in_block t ≡ old.in_block t
  pub begins : (t : ℕ) → new.begins t ≡ old.begins t
  pub acted : (t : ℕ) → new.acted t ≡ old.acted t

-- what a call leaves, whatever the trace
pub record Answers (old new : View) (result : Result (Option ℕ) Spent) : Type 0 where
  pub spent : old.spent ≡ true → IsErr result
  pub unspent : OnOk result (new.spent ≡ false)
  pub refused : OnErr result (new.spent ≡ true)
  pub closed : IfOk result (λ o. new.closed ≡ o)
  pub closed_err : OnErr result (new.closed ≡ old.closed)
  pub tests : IfOk result (λ o. IsSome o → HaveSameTests old new)
  pub tests_err : OnErr result (HaveSameTests old new)

-- an answer that tells nothing
abbrev pub quiet : Result (Unit {0}) Spent → Result (Option ℕ) Spent
quiet (Ok x) = Ok None
quiet (Err e) = Err e

-- a call has been refused
pub record IsRefused (old new : View) : Type 0 where
  pub spent : new.spent ≡ true
  pub closed : new.closed ≡ old.closed
  pub tests : HaveSameTests old new

-- or this is told
pub record IsToldOf (old new : View) (o : Option ℕ) : Type 0 where
  pub spent : new.spent ≡ false
  pub closed : new.closed ≡ o
  pub tests : HaveSameTests old new

-- nothing was told or refused, and the tests answer what the events say
pub record AgreesWith (view : View) (h : List Numbered) : Type 0 where
  pub unspent : view.spent ≡ false
  pub unclosed : view.closed ≡ None
  pub in_block : (t : ℕ) → view.in_block t ≡ nat_lt 0 (depth h t (length h))
  pub begins : (t : ℕ) → view.begins t ≡ blocks h t (length h)
  pub acted : (t : ℕ) → view.acted t ≡ has_acted h t
