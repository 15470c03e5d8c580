-- Lists of threads.
use Rattle.std.proofs.Common.{◌≡◌, ⊎_elim, ℕ, List, [], ◌∷◌, ◌++◌, length, Option, Some, None, sym, ap, ◌∙◌, le_refl}
use Rattle.std.specs.Prelude.{false, slice_get}
use Rattle.std.proofs.lemmas.Bool.{cases_eq}
use Rattle.std.proofs.lemmas.Option.{slice_get_past}
use Rattle.aero_clock.specs.Numbers.{IsZero}
use Rattle.aero_engine.proofs.Written.{pushed_here, pushed_other}
use Rattle.aero_access.specs.declared.thread.Thread.{Thread}
use Rattle.aero_access.specs.Threads.{thread_clock, thread_begin, thread_begins, thread_acted, HasSameBlock, AreSameThreads}

pub same_threads_then : (a b c : List Thread) → AreSameThreads a b → AreSameThreads b c → AreSameThreads a c
same_threads_then a b c h g = record {
  clock = λ t u. g.clock t u ∙ h.clock t u;
  begin = λ t. g.begin t ∙ h.begin t;
  begins = λ t. g.begins t ∙ h.begins t;
  acted = λ t. g.acted t ∙ h.acted t;
}

-- a thread that has made no event is put to the end
pub same_threads_push : (xs : List Thread) (p : Thread) → IsZero p.clock → p.begin ≡ None → p.begins ≡ 0 → p.acted ≡ false → AreSameThreads xs (xs ++ p ∷ [])
same_threads_push xs p clock begin begins acted = record {
  clock = λ t u. at (λ o. thread_clock o u) t (clock.at u);
  begin = λ t. at thread_begin t begin;
  begins = λ t. at thread_begins t begins;
  acted = λ t. at thread_acted t acted;
}
  where
    at : {X : Type 0} (f : Option Thread → X) (t : ℕ) → f (Some p) ≡ f None → f (slice_get (xs ++ p ∷ []) t) ≡ f (slice_get xs t)
    at f t h =
        ⊎_elim
        (λ e. ap (λ n. f (slice_get (xs ++ p ∷ []) n)) e ∙ ap f (pushed_here xs p) ∙ h ∙ sym (ap f (slice_get_past xs (length xs) (le_refl (length xs)))) ∙ ap (λ n. f (slice_get xs n)) (sym e))
        (λ ne. ap f (pushed_other xs p t ne))
        (cases_eq t (length xs))

pub same_block_then : (a b c : Thread) → HasSameBlock a b → HasSameBlock b c → HasSameBlock a c
same_block_then a b c h g = record { begin = g.begin ∙ h.begin; begins = g.begins ∙ h.begins; acted = g.acted ∙ h.acted }
