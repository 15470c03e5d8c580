-- What is done to the open questions of one kind.
use Rattle.std.proofs.Common.{◌≡◌, refl}
use Rattle.aero_gather.specs.Gathered.{Gathered}
use Rattle.aero_batch.specs.declared.gathers.Gathers.{Gathers}
use Rattle.aero_batch.specs.declared.kind.Kind.{Kind}
use Rattle.aero_batch.specs.declared.kind.Kind.TheVariants as kinds
use Rattle.aero_batch.specs.Inquiries.{StaysOpen}
use Rattle.aero_batch.specs.Replies.{AllStay, ChangesOne, of_kind, with_kind}
use Rattle.aero_batch.proofs.Questions.{stays_same}

-- where those of one kind stay open, all do
pub kind_stays : (kind : Kind) (g : Gathers) (new : Gathered) → StaysOpen (of_kind kind g) new → AllStay g (with_kind kind g new)
kind_stays kinds.Parse g new stays = record { chunks = stays; verdicts = stays_same g.verdicts g.verdicts refl }
kind_stays kinds.Check g new stays = record { chunks = stays_same g.chunks g.chunks refl; verdicts = stays }

parse_no_check : kinds.Parse ≡ kinds.Check → ⊥
parse_no_check same = cc

check_no_parse : kinds.Check ≡ kinds.Parse → ⊥
check_no_parse same = cc

-- what is done to those of the kind is done to no others
pub kind_changes : (kind : Kind) (g : Gathers) (new : Gathered) (changes : Gathered → Gathered → Type 0) → changes (of_kind kind g) new →
    ChangesOne kind g (with_kind kind g new) changes
kind_changes kinds.Parse g new changes is = record { changed = is; chunks = λ same. absurd (parse_no_check same); verdicts = λ same. refl }
kind_changes kinds.Check g new changes is = record { changed = is; chunks = λ same. refl; verdicts = λ same. absurd (check_no_parse same) }
