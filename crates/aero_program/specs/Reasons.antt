-- Why a source couldn't be opened or read, in the system's words where it was asked.
use Rattle.std.specs.Prelude.{ℕ, ℤ, pos, negsuc, ◌==◌, if◌then◌else◌, List, [], ◌∷◌, Option, Some, None, Result, Ok, Err, codes}
use Rattle.aero_program.specs.declared.reason.Reason.{Reason}
use Rattle.aero_program.specs.declared.reason.Reason.TheVariants.{System, Unnumbered, NotUtf8}

-- the reason of an error with this number of the system
abbrev pub reason_in : Option ℤ → Reason
reason_in (Some (pos number)) = System number
reason_in (Some (negsuc number)) = Unnumbered
reason_in None = Unnumbered

-- Linux's numbers, and what `strerror` says of them
abbrev pub system_table : List (ℕ × List ℕ)
system_table =
    (1, codes "Operation not permitted")
    ∷ (2, codes "No such file or directory")
    ∷ (4, codes "Interrupted system call")
    ∷ (5, codes "Input/output error")
    ∷ (6, codes "No such device or address")
    ∷ (9, codes "Bad file descriptor")
    ∷ (11, codes "Resource temporarily unavailable")
    ∷ (12, codes "Cannot allocate memory")
    ∷ (13, codes "Permission denied")
    ∷ (20, codes "Not a directory")
    ∷ (21, codes "Is a directory")
    ∷ (22, codes "Invalid argument")
    ∷ (23, codes "Too many open files in system")
    ∷ (24, codes "Too many open files")
    ∷ (36, codes "File name too long")
    ∷ (40, codes "Too many levels of symbolic links")
    ∷ (116, codes "Stale file handle")
    ∷ []

abbrev pub words_in : List (ℕ × List ℕ) → ℕ → List ℕ
words_in [] number = codes "Unknown error"
words_in (row ∷ rows) number = if number == row.0 then row.1 else words_in rows number

abbrev pub system_words : ℕ → List ℕ
system_words number = words_in system_table number

abbrev pub reason_words : Reason → List ℕ
reason_words (System number) = system_words number
reason_words Unnumbered = codes "Unknown error"
reason_words NotUtf8 = codes "the name isn't UTF-8"

-- the reason of the first failure, after one more read with this result; `number` is the system's number of an error
abbrev pub reason_after : {E : Type 0} → (E → Option ℤ) → Option Reason → Result ℕ E → Option Reason
reason_after number (Some reason) result = Some reason
reason_after number None (Ok n) = None
reason_after number None (Err error) = Some (reason_in (number error))
