-- Laws of a crash: what a journal that goes on leaves reached, and how a legal one begins.
use Rattle.std.specs.Prelude.{◌≡◌, ◌≤◌, ◌<◌, nat_le, min, ℕ, Bool, true, false, cond, List, [], ◌∷◌, ◌++◌, length, take, count_by, slice_get, Option, Some, All, AllPairs, refl}
use Rattle.std.specs.Option.{option_map_or}
use Rattle.std.proofs.Common.{sym, ◌∙◌, ap, arith, subst, inl, inr}
use Rattle.std.proofs.Math.Seq.{take-length, get_or-append_seam}
use Rattle.std.proofs.Math.ListN.{get_or}
use Rattle.std.proofs.lemmas.Grind.{common_steps}
use Rattle.std.proofs.lemmas.List.{take-append-le, length-append, take_all}
use Rattle.std.proofs.lemmas.List.Elements.{All-head, All-tail}
use Rattle.std.proofs.lemmas.List.Sums.{count_by-le-length, sum_by-append, sum_by-cons}
use Rattle.std.proofs.lemmas.Option.{slice_get-get_or}
use Rattle.disk_model.specs.Disk.{Faults}
use Rattle.mdbox_base.specs.declared.replies.Reply.{Reply}
use Rattle.model_lists.specs.Lists.{Lists}
use Rattle.model_octets.proofs.PairLemmas.{pairs_nil}
use Rattle.list_machine.specs.Run.{RunEvent, Run, and_then}
use Rattle.journal.specs.Journal.{Requests, JournalStep, left_by, moment_of, acked, Broken, no_broken, Reached, HasReply, is_read_fault, IsLegal}
use Rattle.journal.proofs.JournalLemmas.{get_more}

-- ---- moments in a run that grows

pub within_some : {X : Type 0} → (xs : List X) (n : ℕ) → n < length xs → (x : X) × (slice_get xs n ≡ Some x)
within_some [] n lt = absurd (omega (arith, lt))
within_some (x ∷ xs) n lt = (get_or (x ∷ xs) n x, slice_get-get_or (x ∷ xs) n x lt)

moment_more : (run : Run) (event : RunEvent) (step : JournalStep) → step.event < length run.events → moment_of (and_then run event) step ≡ moment_of run step
moment_more run event step lt =
    let e = within_some run.events step.event lt in
    ap (λ (o : Option RunEvent). option_map_or (λ (x : RunEvent). x.moment) o 0) (get_more run.events (event ∷ []) step.event e.0 e.1 ∙ sym e.1)

abbrev one_acked : Run → ℕ → JournalStep → ℕ
one_acked run m step = cond (nat_le (moment_of run step) m) 1 0

acked_more : (run : Run) (event : RunEvent) (journal : List JournalStep) (m : ℕ) → All (λ s. s.event < length run.events) journal → acked (and_then run event) journal m ≡ acked run journal m
acked_more run event [] m w = refl
acked_more run event (step ∷ steps) m w =
    let h = acked_more run event steps m (All-tail (λ (s : JournalStep). s.event < length run.events) step steps w) in
    let k : one_acked (and_then run event) m step ≡ one_acked run m step =
    ap (λ (n : ℕ). cond (nat_le n m) 1 0) (moment_more run event step (All-head (λ (s : JournalStep). s.event < length run.events) step steps w)) in
    let a = sum_by-cons (one_acked (and_then run event) m) step steps in
    let b = sum_by-cons (one_acked run m) step steps in
    omega (arith, h, k, a, b)

-- the moment of a step that an event makes is that of the event
pub get_last : {X : Type 0} → (xs : List X) (x : X) → slice_get (xs ++ x ∷ []) (length xs) ≡ Some x
get_last xs x =
    let n = length-append xs (x ∷ []) in
    slice_get-get_or (xs ++ x ∷ []) (length xs) x (omega (arith, n)) ∙ ap (λ (y : _). Some y) (get_or-append_seam xs x [] x)

moment_last : (run : Run) (event : RunEvent) (step : JournalStep) → step.event ≡ length run.events → moment_of (and_then run event) step ≡ event.moment
moment_last run event step at =
    ap (λ (o : Option RunEvent). option_map_or (λ (x : RunEvent). x.moment) o 0) (ap (λ (n : ℕ). slice_get (run.events ++ event ∷ []) n) at ∙ get_last run.events event)

abbrev one_or_none : Bool → ℕ
one_or_none b = cond b 1 0

late : (a m : ℕ) → m < a → one_or_none (nat_le a m) ≡ 0
late a m lt = by_test (nat_le a m) refl
  where
    by_test : (b : Bool) → nat_le a m ≡ b → one_or_none b ≡ 0
    by_test true e = absurd (let k : a ≤ m = grind (arith, common_steps, e) in omega (arith, k, lt))
    by_test false e = refl

acked_push : (run : Run) (event : RunEvent) (journal : List JournalStep) (step : JournalStep) (m : ℕ) → All (λ s. s.event < length run.events) journal → step.event ≡ length run.events → m < event.moment
    → acked (and_then run event) (journal ++ step ∷ []) m ≡ acked run journal m
acked_push run event journal step m w at lt =
    let a = sum_by-append (one_acked (and_then run event) m) journal (step ∷ []) in
    let h = acked_more run event journal m w in
    let k : one_acked (and_then run event) m step ≡ 0 = ap (λ (n : ℕ). cond (nat_le n m) 1 0) (moment_last run event step at) ∙ late event.moment m lt in
    let b = sum_by-cons (one_acked (and_then run event) m) step [] in
    omega (arith, a, h, k, b)

-- ---- reached

-- What a journal leaves is reached at each moment.
pub reached_last : (start : Lists) (run : Run) (journal : List JournalStep) (broken : Broken) (m : ℕ) → Reached start run journal broken m (left_by start journal)
reached_last start run journal broken m =
    inl (length journal, count_by-le-length (λ (s : JournalStep). nat_le (moment_of run s) m) journal, ap (λ (s : List JournalStep). left_by start s) (sym (take-length journal)))

-- Where no append failed, what was reached at a moment before an event ended stays so, whether it made no step or one.
pub reached_quiet : (start : Lists) (run : Run) (event : RunEvent) (journal : List JournalStep) (broken : Broken) (m : ℕ) (lists : Lists) → All (λ s. s.event < length run.events) journal
    → Reached start run journal broken m lists → Reached start (and_then run event) journal broken m lists
reached_quiet start run event journal broken m lists w (inl x) = inl (x.0, (let h = x.1 in let k = acked_more run event journal m w in omega (arith, h, k)), x.2)
reached_quiet start run event journal broken m lists w (inr x) = inr x

take_past : {X : Type 0} → (xs : List X) (p : ℕ) → length xs ≤ p → take p xs ≡ xs
take_past xs p le = take_all p xs le

take_within : {X : Type 0} → (xs : List X) (p : ℕ) → take (min p (length xs)) xs ≡ take p xs
take_within xs p = by_test (nat_le p (length xs)) refl
  where
    by_test : (b : Bool) → nat_le p (length xs) ≡ b → take (min p (length xs)) xs ≡ take p xs
    by_test true e = let k : p ≤ length xs = grind (arith, common_steps, e) in ap (λ (n : ℕ). take n xs) (omega (arith, k))
    by_test false e =
        let k : length xs < p = grind (arith, common_steps, e) in
        (ap (λ (n : ℕ). take n xs) (omega (arith, k)) ∙ take-length xs) ∙ sym (take_past xs p (omega (arith, k)))

pub reached_step : (start : Lists) (run : Run) (event : RunEvent) (journal : List JournalStep) (step : JournalStep) (m : ℕ) (lists : Lists) → All (λ s. s.event < length run.events) journal
    → step.event ≡ length run.events → m < event.moment → Reached start run journal no_broken m lists → Reached start (and_then run event) (journal ++ step ∷ []) no_broken m lists
reached_step start run event journal step m lists w at lt (inl x) =
    let some = x.1 in
    let same = acked_push run event journal step m w at lt in
    let few : acked run journal m ≤ length journal = count_by-le-length (λ (s : JournalStep). nat_le (moment_of run s) m) journal in
    inl (
      min x.0 (length journal),
      omega (arith, some, same, few),
      (x.2 ∙ ap (λ (s : List JournalStep). left_by start s) (sym (take_within journal x.0))) ∙ ap (λ (s : List JournalStep). left_by start s) (sym (take-append-le (min x.0 (length journal)) journal (step ∷ []) (omega arith))),
    )
reached_step start run event journal step m lists w at lt (inr x) =
    let same = acked_push run event journal step m w at lt in
    let few : acked run journal m ≤ length journal = count_by-le-length (λ (s : JournalStep). nat_le (moment_of run s) m) journal in
    inl (length journal, omega (arith, same, few), (x.1 ∙ ap (λ (s : List JournalStep). left_by start s) (sym (take-length journal))) ∙ ap (λ (s : List JournalStep). left_by start s) (sym (take-append-le (length journal) journal (step ∷ []) (omega arith))))

-- ---- the beginning

-- With no event, no step and no reply, everything is legal.
pub legal_start : (start : Lists) (script : Requests) (run : Run) (replies : List (Option Reply)) (now : Faults) → run.events ≡ [] → ((i : ℕ) (given : Reply) → HasReply replies i given → ⊥)
    → count_by is_read_fault replies ≡ 0 → IsLegal start script run [] replies now now
legal_start start script run replies now empty none zero = record {
  moments = subst (λ (es : List RunEvent). AllPairs (λ a b. a.moment ≤ b.moment) es) (sym empty) (pairs_nil (λ (a b : RunEvent). a.moment ≤ b.moment));
  steps = tt;
  order = record {
    events = pairs_nil (λ (a b : JournalStep). a.event < b.event);
    halves = λ i asked e. (_, refl);
    lanes = pairs_nil (λ (a b : JournalStep). a.lane ≡ b.lane → a.request ≤ b.request);
  };
  replied = λ i asked given e h. absurd (none i given h);
  causes = record {
    reads = omega (arith, zero);
    changes = λ i h. absurd (none i _ h);
    unfinished = λ i h. absurd (none i _ h);
    later = λ i j first second h lt e f same. absurd (none i _ h);
  };
}
