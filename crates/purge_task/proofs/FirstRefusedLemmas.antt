-- The first event of a purge that is refused for lack of numbers.
use Rattle.purge_task.proofs.Common.{◌≡◌, ◌<◌, ◌+◌, ℕ, Bool, true, false, List, [], ◌∷◌, ◌++◌, length, map, Option, Some, refl, sym, ◌∙◌, ap, subst, arith, inl, inr, ◌⊎◌, Contains, nat_lt, slice_get, option_or, common_steps, All-nil, Faults, Grows, told_calls, NoFault, Highest, Refusal, Reply}
use Rattle.purge_task.proofs.Common.{Lists, MapMeaning, among, First, Run, RunEvent, TakenFile, and_then, drawn_of, event_of, map_of, own_events, target_length, with_targets, first_refusal, purge_checks, Around, HasCome, DidEvent, HasComeTo, Seen, ShowsSeen, MailIsKept, fall, next_first}
use Rattle.mdbox_base.specs.declared.progress.Did.TheVariants as did
use Rattle.mdbox_base.specs.declared.replies.Refusal.TheVariants as refusal
use Rattle.mdbox_base.specs.declared.replies.Reply.TheVariants as reply
use Rattle.mdbox_base.specs.declared.requests.Request.TheVariants as request
use Rattle.mdbox_base.specs.declared.script.Half.TheVariants as half
use Rattle.list_machine.specs.Machine.{TargetFits, refused_where}
use Rattle.journal.specs.Journal.{IsReplyOf, halves_of}
use Rattle.journal.specs.Found.{AgreesWithRun}
use Rattle.journal.specs.Makes.{Makes}
use Rattle.task_steps.specs.Step.{Leads}
use Rattle.task_steps.proofs.SeenLemmas.{no_guids}
use Rattle.task_steps.proofs.EventLaws.{refuses, some_refusal, some_reply, step_may}
use Rattle.task_steps.proofs.OneEventLemmas.{refusal_last}

abbrev pub full : Refusal
full = refusal.StoreFull 4294967294

abbrev pub lacking_event : ℕ → ℕ → List TakenFile → ℕ → RunEvent
lacking_event lane place taken calls = record (event_of lane place First calls) { refused = Some full; reply = Some (reply.Refused full); files = taken }

over : (a b : ℕ) → a < b → nat_lt a b ≡ true
over a b l = grind (arith, common_steps, l)

either_full : (b : Bool) (rest : Option Refusal) → rest ≡ Some full → option_or (refused_where b full) rest ≡ Some full
either_full true rest e = refl
either_full false rest e = e

too_long : (run : Run) (lists : Lists) (m : MapMeaning) (taken : List TakenFile) (t : TakenFile) → Contains taken t → 4294967294 < target_length m t.file → first_refusal run lists (map (λ t. TargetFits (target_length m t.file)) taken) ≡ Some full
too_long run lists m [] t there long = absurd (let l = there.1 in omega (arith, l))
too_long run lists m (x ∷ taken) t there long = by_case (among x taken t there) (too_long run lists m taken t)
  where
    by_case : (x ≡ t) ⊎ Contains taken t → (Contains taken t → 4294967294 < target_length m t.file → first_refusal run lists (map (λ t. TargetFits (target_length m t.file)) taken) ≡ Some full) → first_refusal run lists (map (λ t. TargetFits (target_length m t.file)) (x ∷ taken)) ≡ Some full
    by_case (inl same) rest = ap (λ (b : Bool). option_or (refused_where b full) (first_refusal run lists (map (λ t. TargetFits (target_length m t.file)) taken))) (over 4294967294 (target_length m x.file) (subst (λ (y : TakenFile). 4294967294 < target_length m y.file) (sym same) long))
    by_case (inr later) rest = either_full (nat_lt 4294967294 (target_length m x.file)) (first_refusal run lists (map (λ t. TargetFits (target_length m t.file)) taken)) (rest later long)

-- too few numbers are left, or a target would be too long
pub lacks_numbers : (run : Run) (lists : Lists) (m : MapMeaning) (taken : List TakenFile) → (4294967294 < (drawn_of run).file + length (with_targets m taken)) ⊎ ((t : TakenFile) × Contains (with_targets m taken) t × (4294967294 < target_length m t.file)) → first_refusal run lists (purge_checks m taken) ≡ Some full
lacks_numbers run lists m taken (inl many) = ap (λ (b : Bool). option_or (refused_where b full) (first_refusal run lists (map (λ t. TargetFits (target_length m t.file)) (with_targets m taken)))) (over 4294967294 ((drawn_of run).file + length (with_targets m taken)) many)
lacks_numbers run lists m taken (inr long) =
    either_full (nat_lt 4294967294 ((drawn_of run).file + length (with_targets m taken))) (first_refusal run lists (map (λ t. TargetFits (target_length m t.file)) (with_targets m taken))) (too_long run lists m (with_targets m taken) long.0 long.1 long.2)

unfoldable pub lacking_makes : (around after : Around) (run : Run) (lane place : ℕ) (lists : Lists) (m : MapMeaning) (drawn : Highest) (calls : ℕ) (taken : List TakenFile) → HasCome (and_then run (lacking_event lane place taken calls)) m drawn calls → own_events place run ≡ [] → map (λ t. t.file) taken ≡ around.files
    → first_refusal run lists (purge_checks (map_of run) taken) ≡ Some full → Makes around after run lane place request.Purge lists lists m drawn calls (Some (reply.Refused full))
lacking_makes around after run lane place lists m drawn calls taken come own finds refuses = record {
  event = lacking_event lane place taken calls;
  lane_is = refl;
  request_is = refl;
  moment_is = refl;
  ended_is = refl;
  is_event = record {
    finds = finds;
    part_is = next_first around run request.Purge (own_events place run) own;
    refused = λ r e s. refuses ∙ e;
    undone = λ r e. (refl, λ s. refl);
    drew = λ h. inl refl;
    memory = λ e. refl;
    may = step_may First request.Purge full refl;
    fits = All-nil _;
    replied = refusal_last (own_events place run) (lacking_event lane place taken calls) own;
    allowed = λ e. absurd (some_refusal full e);
    did = λ e. absurd (some_refusal full e);
    ends = record { 0 = λ e. refl; 1 = λ e f. some_reply (reply.Refused full) f };
  };
  answer = Some (reply.Refused full);
  is_told = refl;
  made = ((refuses, refl), refl);
  come = come;
}

-- It tells the files that it would have taken, and is a step that changes nothing.
pub did_lack : (around after : Around) (run : Run) (lane place : ℕ) (said : List Reply) (lists : Lists) (old new : Seen) (taken : List TakenFile) → HasComeTo (and_then run (lacking_event lane place taken (told_calls new.history))) new → ShowsSeen new lists → old.stopped ≡ false → new.stopped ≡ false → own_events place run ≡ [] → said ≡ []
    → map (λ t. t.file) taken ≡ around.files → first_refusal run lists (purge_checks (map_of run) taken) ≡ Some full → AgreesWithRun around run request.Purge (lacking_event lane place taken (told_calls new.history)) First → Leads lists lists old new → Grows old.history new.history → MailIsKept old.map old.history new.history → NoFault old.faults new.faults
    → DidEvent around after run lane place said request.Purge lists old new (did.Step half.Whole) (Some (reply.Refused full))
unfolding lacking_makes
did_lack around after run lane place said lists old new taken come shows ran runs own unsaid finds refuses found leads grows mail quiet = record {
  left = lists;
  shown = shows;
  makes = lacking_makes around after run lane place lists new.map new.drawn (told_calls new.history) taken come.come own finds refuses;
  found = found;
  come = come;
  gives = no_guids run (lacking_event lane place taken (told_calls new.history)) refl;
  went = (refl, refl, runs, leads);
  grows = grows;
  mail = mail;
  ends = record {
    in_turn = λ some. ap (λ (s : List Reply). slice_get (halves_of request.Purge) (length s)) unsaid;
    replied = λ given e. subst (λ (r : Reply). IsReplyOf request.Purge (said ++ reply.Refused full ∷ []) r) (let same : reply.Refused full ≡ given = cc e in same) (ap (λ (s : List Reply). s ++ reply.Refused full ∷ []) unsaid);
    halts = record { 0 = λ e. absurd (apart (one e)); 1 = λ e. absurd (fall new.stopped e runs) };
    still = λ e. absurd (fall old.stopped e ran);
    reads = λ e. absurd (let k : full ≡ refusal.ReadFault = cc e in cc k);
    faults = record { reads = let e = ap (λ (f : Faults). f.reads) quiet in omega (arith, e); changes = let e = ap (λ (f : Faults). f.changes) quiet in omega (arith, e); rose = λ x. absurd x };
    unfailed = λ differs faulty. quiet;
  };
}
  where
    one : Some (reply.Refused full) ≡ Some (reply.Refused refusal.Stopped) → reply.Refused full ≡ reply.Refused refusal.Stopped
    one e = cc e

    apart : reply.Refused full ≡ reply.Refused refusal.Stopped → ⊥
    apart e = let k : full ≡ refusal.Stopped = cc e in cc k
