-- What a disk reads is one of its images: so what holds of each image holds of its files as they read in the end.
use Rattle.std.specs.Prelude.{◌≡◌, ◌≤◌, ◌⊎◌, nat_le, ℕ, true, false, Bool, cond, List, [], ◌∷◌, length, slice_get, Option, Some, None, All}
use Rattle.std.specs.Option.{option_map_or}
use Rattle.std.proofs.Common.{refl, sym, ◌∙◌, ap, subst, arith, inl, inr}
use Rattle.std.proofs.lemmas.Grind.{common_steps}
use Rattle.std.proofs.lemmas.List.{take_all}
use Rattle.std.proofs.lemmas.List.Sums.{sum_by-cons}
use Rattle.disk_model.specs.Disk.{History, EachImage, IfTold, calls, told_calls}
use Rattle.disk_model.proofs.MomentLemmas.{since-now}
use Rattle.model_kept.proofs.KeptLemmas.{ReadsImage}
use Rattle.model_lists.specs.Lists.{Lists}
use Rattle.model_store.specs.Safe.{Safe}
use Rattle.model_store.specs.Settled.{IsSettledFor, files_of}
use Rattle.list_machine.specs.Run.{Run, RunEvent}
use Rattle.journal.specs.Journal.{Broken, JournalStep, acked, left_by, moment_of}
use Rattle.serving.proofs.ServingLemmas.{all_at}
use Rattle.task_steps.specs.Serves.{IsReached}
use Rattle.script_run.specs.Opening.{AreSafeFor}

pub safe_in_the_end : (lists : Lists) (old new : Option History) → IfTold new ReadsImage → EachImage (λ _ image. Safe image lists) old new → IsSettledFor lists old → AreSafeFor lists new
safe_in_the_end lists None new reads each at = absurd at
safe_in_the_end lists (Some h) None reads each at = absurd each
safe_in_the_end lists (Some h) (Some g) reads each at = since-now (λ _ image. Safe image lists) h g each (files_of g.now) reads

-- ---- lists that a journal reaches

-- no step comes later than the events of its run
moment_within : (run : Run) (step : JournalStep) (m : ℕ) → All (λ e. e.moment ≤ m) run.events → moment_of run step ≤ m
moment_within run step m within = by_event (slice_get run.events step.event) refl
  where
    by_event : (found : Option RunEvent) → slice_get run.events step.event ≡ found → option_map_or (λ e. e.moment) found 0 ≤ m
    by_event None is = omega arith
    by_event (Some event) is = all_at (λ (e : RunEvent). e.moment ≤ m) run.events step.event event within is

abbrev one_or_none : Bool → ℕ
one_or_none b = cond b 1 0

early : (a m : ℕ) → a ≤ m → one_or_none (nat_le a m) ≡ 1
early a m le = by_test (nat_le a m) refl
  where
    by_test : (b : Bool) → nat_le a m ≡ b → one_or_none b ≡ 1
    by_test true e = refl
    by_test false e = absurd (grind (arith, common_steps, e, le))

-- by now every step is acknowledged
all_acked : (run : Run) (journal : List JournalStep) (m : ℕ) → All (λ e. e.moment ≤ m) run.events → acked run journal m ≡ length journal
all_acked run [] m within = refl
all_acked run (step ∷ steps) m within =
    let rest = all_acked run steps m within in
    let one = early (moment_of run step) m (moment_within run step m within) in
    let both = sum_by-cons (λ (s : JournalStep). one_or_none (nat_le (moment_of run s) m)) step steps in
    omega (arith, rest, one, both)

-- The files are safe for what the journal leaves, or for what the broken steps leave behind it.
pub reached_in_the_end : (lists : Lists) (run : Run) (journal : List JournalStep) (broken : Broken) (old new : Option History) → IfTold new ReadsImage → All (λ e. e.moment ≤ told_calls new) run.events → EachImage (IsReached lists run journal broken) old new → IsSettledFor lists old
    → AreSafeFor (left_by lists journal) new ⊎ AreSafeFor (left_by (left_by lists journal) broken.steps) new
reached_in_the_end lists run journal broken None new reads within each at = absurd at
reached_in_the_end lists run journal broken (Some h) None reads within each at = absurd each
reached_in_the_end lists run journal broken (Some h) (Some g) reads within each at =
    let read = since-now (IsReached lists run journal broken) h g each (files_of g.now) reads in
    elim read.1 [
      | inl whole ↦
          let all = all_acked run journal (calls g) within in
          let many = whole.1 in
          inl (subst (λ (ls : Lists). Safe (files_of g.now) ls) (whole.2 ∙ ap (λ (steps : List JournalStep). left_by lists steps) (take_all whole.0 journal (omega (arith, all, many)))) read.2)
      | inr broke ↦ inr (subst (λ (ls : Lists). Safe (files_of g.now) ls) broke.1 read.2)
    ]
