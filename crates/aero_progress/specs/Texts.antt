-- The line on progress, and what clears it, byte by byte. The byte 13 leads back to where the line begins.
use Rattle.std.specs.Prelude.{ℕ, ◌/◌, ◌^◌, List, [], ◌∷◌, ◌++◌, Option, Some, None, codes, decimal, replicate}
use Rattle.aero_progress.specs.declared.line.Surface.{Surface}
use Rattle.aero_progress.specs.declared.line.Surface.TheVariants.{Terminal, Other}
use Rattle.aero_progress.specs.declared.reached.Reached.{Reached}
use Rattle.aero_progress.specs.declared.reached.Work.{Work}

-- so many whole mebibytes
abbrev pub mebibytes : ℕ → List ℕ
mebibytes bytes = decimal (bytes / 2 ^ 20)

-- how many bytes came, and of how many, where this is known
abbrev pub amount_text : ℕ → Option ℕ → List ℕ
amount_text bytes None = codes " sources, " ++ mebibytes bytes
amount_text bytes (Some size) = codes " sources, " ++ mebibytes bytes ++ codes " of " ++ mebibytes size

-- how many of the sources have been read
abbrev pub sources_text : ℕ → ℕ → List ℕ
sources_text ended sources = (codes "aerodrome: " ++ decimal ended) ++ (codes " of " ++ decimal sources)

-- how many have been judged, and since when
abbrev pub judged_text : Reached → List ℕ
judged_text reached = codes " MiB read, " ++ decimal reached.judged ++ codes " judged, " ++ decimal reached.seconds ++ codes " s"

-- what the line says
abbrev pub line_text : Work → Reached → List ℕ
line_text work reached = sources_text reached.ended work.sources ++ amount_text reached.bytes work.size ++ judged_text reached

-- On a terminal ESC [ ? 7 l goes before it, so that a line that is too long isn't wrapped, and ESC [ ? 7 h behind it, so that all else is.
abbrev pub shown_text : Surface → Work → Reached → List ℕ
shown_text Terminal work reached = 13 ∷ 27 ∷ codes "[?7l" ++ line_text work reached ++ 27 ∷ codes "[?7h"
shown_text Other work reached = 13 ∷ line_text work reached

-- What clears the line: on a terminal ESC [ K, and elsewhere as many blanks as the line of 65,536 sources, which all are judged, with 99,999,999 of so many mebibytes after 9,999,999 seconds has characters.
abbrev pub blank_text : Surface → List ℕ
blank_text Terminal = 13 ∷ 27 ∷ codes "[K"
blank_text Other = 13 ∷ replicate 89 32 ++ 13 ∷ []
