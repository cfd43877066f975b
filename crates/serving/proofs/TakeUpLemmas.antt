-- The next request of a lane takes up its task, which has begun nothing.
use Rattle.std.proofs.Common.{◌≡◌, ◌+◌, ℕ, List, [], ◌∷◌, slice_set, Option, Some, None, sym, ◌∙◌, ap, subst, inl, inr}
use Rattle.std.specs.Prelude.{◌≢◌, ◌⊎◌, slice_get}
use Rattle.mdbox_base.specs.declared.replies.Reply.{Reply}
use Rattle.mdbox_base.specs.declared.requests.Request.{Request}
use Rattle.model_lists.specs.Lists.{Lists}
use Rattle.list_machine.specs.Run.{Run}
use Rattle.journal.specs.Journal.{Broken, JournalStep, Requests}
use Rattle.task_steps.specs.Step.{HasNotBegun, Seen}
use Rattle.serving.specs.Lanes.{IsInTurn, LaneAt, LaneStands, LaneValue, said_by}
use Rattle.serving.specs.Serving.{IsServing}
use Rattle.serving.proofs.LaneLemmas.{get_set_other, get_set_same, nat_cases, one_some}

-- where the first request of a queue that hasn't begun stands, its task does
abbrev pub TakesUp : {T : Type 0} → (T → Request → Run → ℕ → List Reply → Type 0) → Requests → Run → List JournalStep → ℕ → List ℕ → T → Type 0
TakesUp At script run journal lane [] fresh = ⊥
TakesUp At script run journal lane (place ∷ rest) fresh = (request : Request) → slice_get script place ≡ Some (lane, request) → HasNotBegun run place (said_by journal place) → At fresh request run place (said_by journal place)

pub lane_taken_up : {T : Type 0} → (At : T → Request → Run → ℕ → List Reply → Type 0) (script : Requests) (run : Run) (journal : List JournalStep) (replies : List (Option Reply)) (lane : ℕ) (value : LaneValue T) (fresh : T) → value.task ≡ None → TakesUp At script run journal lane value.queue fresh
    → LaneAt At script run journal replies lane value → LaneAt At script run journal replies lane (record value { task = Some fresh })
lane_taken_up At script run journal replies lane value fresh none begins l = record { in_turn = by_queue value.queue begins l.in_turn; each = l.each }
  where
    by_queue : (queue : List ℕ) → TakesUp At script run journal lane queue fresh → IsInTurn At script run journal replies lane value queue → IsInTurn At script run journal replies lane (record value { task = Some fresh }) queue
    by_queue [] begins turn = absurd begins
    by_queue (place ∷ rest) begins turn =
        let unbegun : HasNotBegun run place (said_by journal place) = subst (λ (o : Option _). LaneStands At o turn.0.0 run place (said_by journal place)) none turn.0.2 in
        ((turn.0.0, turn.0.1, begins turn.0.0 turn.0.1.asked unbegun), turn.1)

pub serving_taken_up : {T : Type 0} → (At : T → Request → Run → ℕ → List Reply → Type 0) (start : Lists) (script : Requests) (run : Run) (journal : List JournalStep) (broken : Broken) (replies : List (Option Reply)) (began now : Seen) (lanes : List (LaneValue T)) (k : ℕ) (value : LaneValue T) (fresh : T)
    → slice_get lanes k ≡ Some value → value.task ≡ None → TakesUp At script run journal (k + 1) value.queue fresh → IsServing At start script run journal broken replies began now lanes → IsServing At start script run journal broken replies began now (slice_set lanes k (record value { task = Some fresh }))
serving_taken_up {T} At start script run journal broken replies began now lanes k value fresh there none begins s = record {
  serves = s.serves;
  follows = s.follows;
  told = s.told;
  given = s.given;
  would = s.would;
  stays_stopped = s.stays_stopped;
  replied_stopped = s.replied_stopped;
  lanes_at = λ j other is. by_case j other is (nat_cases k j);
}
  where
    taken : LaneValue T
    taken = record value { task = Some fresh }

    by_case : (j : ℕ) (other : LaneValue _) → slice_get (slice_set lanes k taken) j ≡ Some other → (k ≡ j) ⊎ (k ≢ j) → LaneAt At script run journal replies (j + 1) other
    by_case j other is (inl e) =
        let same : taken ≡ other = one_some taken other (sym (get_set_same lanes k taken value there) ∙ (ap (λ (n : ℕ). slice_get (slice_set lanes k taken) n) e ∙ is)) in
        subst (λ (n : ℕ). LaneAt At script run journal replies (n + 1) other) e
        (subst (λ (v : LaneValue _). LaneAt At script run journal replies (k + 1) v) same (lane_taken_up At script run journal replies (k + 1) value fresh none begins (s.lanes_at k value there)))
    by_case j other is (inr apart) = s.lanes_at j other (sym (get_set_other lanes k j taken apart) ∙ is)
