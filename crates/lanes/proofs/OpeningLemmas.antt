-- A world begins over a store that no task has claimed anything of.
use Rattle.std.proofs.Common.{◌≡◌, ◌≤◌, ◌<◌, ◌+◌, ◌^◌, ℕ, zero, suc, true, false, cond, List, [], ◌∷◌, Option, Some, refl, sym, ◌∙◌, ap, subst, arith}
use Rattle.std.specs.Prelude.{All, is_some, length, replicate, slice_get}
use Rattle.std.proofs.lemmas.List.Elements.{All-head}
use Rattle.std.proofs.lemmas.Option.{slice_get_within}
use Rattle.disk_model.specs.Disk.{Faults, History}
use Rattle.model_lists.specs.Lists.{Lists}
use Rattle.list_machine.specs.Run.{Run}
use Rattle.journal.specs.Journal.{Requests, no_broken}
use Rattle.task_steps.specs.Step.{Seen}
use Rattle.mdbox_base.specs.declared.replies.Reply.{Reply}
use Rattle.mdbox_base.specs.declared.script.JournalEntry.{JournalEntry}
use Rattle.store_core.specs.Value.{StoreValue}
use Rattle.task_claims.specs.Claims.{ClaimsNothing, HasNoTask}
use Rattle.task_claims.proofs.OpenedLemmas.{none_claimed}
use Rattle.serving.specs.Serving.{unreplied}
use Rattle.serving.proofs.TurnLemmas.{trace_begins}
use Rattle.serving.specs.Turns.{LaneTurn}
use Rattle.serving.specs.Accounts.{IsReadyLane, lane_claims}
use Rattle.serving.specs.Lanes.{LaneValue}
use Rattle.lane_tasks.specs.Tasks.{IsReadyTask, claims_at}
use Rattle.lane_tasks.specs.declared.task.Task.{Task}
use Rattle.lanes.proofs.WorldLemmas.{one_none}
use Rattle.lanes.specs.Rows.{LaneRow, lane_value, lanes_of}
use Rattle.lanes.specs.Going.{IsGoing}
use Rattle.lanes.specs.Worlds.{AreCounted, AreFreshParts, ArePartsOf, BeginsSome, IsFreshWorld, IsSoundWorld, IsWorldOf, PartsValue, WorldValue, queued_in, replied_in, turns_for}
use Rattle.lanes.proofs.PartsLemmas.{no_reply, replicated, behind_all}
use Rattle.lanes.specs.declared.lane.Queued.{Queued}
use Rattle.lanes.proofs.BeginLemmas.{none_in_all, row_of, row_ready, row_unclaimed}

-- ---- lanes

first_begins : (row : LaneRow) → All BeginsSome (queued_in row) → (first : Queued) → row.current ≡ Some first → BeginsSome first
first_begins row all first is = All-head BeginsSome first row.waiting (subst (λ (o : Option Queued). All BeginsSome (queued_in (record row { current = o }))) is all)

-- ---- the world

pub fresh_sound : {D : Type 0} → (store : StoreValue D) (rows : List LaneRow) (replies : List (Option Reply)) (scripted : ℕ) (replied : List ℕ) (journal broken : List JournalEntry) (moment : ℕ) (turns : List LaneTurn) (turn_room : ℕ) (history : Option History)
    → HasNoTask store → length rows ≤ 64 → AreFreshParts (record { rows = rows; requests = length replies }) → replies ≡ replicate (length replies) no_reply → length replied ≡ length rows → turn_room ≡ turns_for (length replies) (length rows) → moment < 2 ^ 64
    → IsSoundWorld history (record { store = store; rows = rows; replies = replies; scripted = scripted; replied = replied; journal = journal; broken = broken; began = moment; turns = turns; turn_room = turn_room; finished = false })
fresh_sound store rows replies scripted replied journal broken moment turns turn_room history none few fresh unreplied many room small = record {
  few = few;
  waiting = λ k row there. behind_all BeginsSome row (fresh.alone k row there) (fresh.begin k row there);
  accounts = λ runs. record {
    adds_up = λ thing. none_claimed store none thing ∙ none_in_all claims_at (lanes_of rows) thing (λ k value there. let r = row_of lane_value rows k value there in subst (λ (v : LaneValue Task). ClaimsNothing (lane_claims claims_at v)) r.2 (row_unclaimed r.0 (first_begins r.0 (fresh.begin k r.0 r.1))));
    ready = λ k value there. let r = row_of lane_value rows k value there in subst (λ (v : LaneValue Task). IsReadyLane IsReadyTask v store history) r.2 (row_ready r.0 store history (first_begins r.0 (fresh.begin k r.0 r.1)));
  };
  places = fresh.places;
  once = λ place given there.
      let gave : given ≡ no_reply = replicated (length replies) place no_reply given (ap (λ (rs : List (Option Reply)). slice_get rs place) (sym unreplied) ∙ there) in
      fresh.once place (slice_get_within replies place given there) ∙ sym (ap (λ (o : Option Reply). cond (is_some o) 0 1) gave);
  short = fresh.few;
  clock = omega (arith, small);
  many = many;
  room = room;
  idle = λ done. absurd (let z : false ≡ true = done in cc z);
}

none_replied : (script : Requests) → replicate (length script) no_reply ≡ unreplied script
none_replied [] = refl
none_replied (asked ∷ script) = ap (λ (rs : List (Option Reply)). no_reply ∷ rs) (none_replied script)

count_none : (lane n : ℕ) (script : Requests) → replied_in lane script (replicate n no_reply) ≡ 0
count_none lane zero [] = refl
count_none lane (suc n) [] = refl
count_none lane zero (asked ∷ script) = refl
count_none lane (suc n) (asked ∷ script) = let none = one_none lane asked in let h = count_none lane n script in omega (arith, none, h)

zeros_count : (script : Requests) (n lanes : ℕ) → AreCounted script (replicate n no_reply) (replicate lanes 0)
zeros_count script n lanes k count there = replicated lanes k 0 count there ∙ sym (count_none (k + 1) n script)

pub world_begins : {D : Type 0} → (start : Lists) (script : Requests) (run : Run) (began : Seen) (lanes : ℕ) (parts : PartsValue) (store : StoreValue D) (history : Option History) (faults : Faults) (world : WorldValue D) → IsFreshWorld store parts history world → ArePartsOf script lanes parts → run.events ≡ []
    → IsGoing start script run [] no_broken (unreplied script) began store history faults parts.rows → IsWorldOf start script run [] no_broken began history faults world
world_begins {D} start script run began lanes parts store history faults world is of empty going = subst (λ (w : WorldValue D). IsWorldOf start script run [] no_broken began history faults w) (sym is.2) (record {
  going = subst (λ (rs : List (Option Reply)). IsGoing start script run [] no_broken rs began store history faults parts.rows) (sym replies) going;
  entries = tt;
  broken = tt;
  counts = zeros_count script parts.requests (length parts.rows);
  trace = trace_begins run (lanes_of parts.rows) empty;
})
  where
    replies : replicate parts.requests no_reply ≡ unreplied script
    replies = ap (λ (n : ℕ). replicate n no_reply) of.requests ∙ none_replied script
