-- The faults in words.
use Rattle.std.specs.Prelude.{ℕ, List, codes}
use Rattle.aero_model.specs.declared.verdict.LineFault.{LineFault}
use Rattle.aero_model.specs.declared.verdict.LineFault.TheVariants as line_faults
use Rattle.aero_model.specs.declared.verdict.ShapeFault.{ShapeFault}
use Rattle.aero_model.specs.declared.verdict.ShapeFault.TheVariants as shape_faults

-- what is wrong with a malformed line
abbrev pub line_words : LineFault → List ℕ
line_words line_faults.TooLong = codes "the line has over 4096 bytes"
line_words line_faults.BadByte = codes "the line has a control byte"
line_words line_faults.NoOperation = codes "no | after the thread"
line_words line_faults.EmptyThread = codes "no thread before the |"
line_words line_faults.UnknownOperation = codes "no such operation"
line_words line_faults.BadParenthesis = codes "no ) at the operation's end"
line_words line_faults.MissingTarget = codes "the operation has no target"
line_words line_faults.NameTooLong = codes "a name has over 255 bytes"
line_words line_faults.TooManyLines = codes "more lines than an input may have"
line_words line_faults.Memory = codes "out of memory"

-- what is wrong with an ill-formed event
abbrev pub shape_words : ShapeFault → List ℕ
shape_words shape_faults.TooManyThreads = codes "more threads than an input may have"
shape_words shape_faults.TooManyNames = codes "more variables or locks than an input may have"
shape_words shape_faults.ThreadJoined = codes "the thread acts after it was joined"
shape_words shape_faults.LockHeldByOther = codes "another thread holds the lock"
shape_words shape_faults.LockNotHeld = codes "the thread doesn't hold the lock"
shape_words shape_faults.ForkSelf = codes "the thread forks itself"
shape_words shape_faults.ForkStarted = codes "the forked thread has acted, or was forked or joined, before"
shape_words shape_faults.JoinSelf = codes "the thread joins itself"
shape_words shape_faults.EndWithoutBegin = codes "the thread ends a block, but has no open block"
shape_words shape_faults.Memory = codes "out of memory"
