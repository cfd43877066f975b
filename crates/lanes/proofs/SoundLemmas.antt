-- What every world keeps stays with an event of a lane.
use Rattle.std.proofs.Common.{◌≡◌, ◌<◌, ◌≤◌, ◌+◌, ◌-◌, ◌*◌, ◌^◌, ℕ, suc, false, cond, List, [], ◌∷◌, map, slice_set, Option, Some, None, refl, sym, ◌∙◌, ap, subst, arith, inl, inr, get_or}
use Rattle.std.specs.Prelude.{◌≢◌, All, is_some, length, slice_get}
use Rattle.std.proofs.lemmas.List.{length-set}
use Rattle.std.proofs.lemmas.Option.{slice_get_within, slice_get_read}
use Rattle.std.proofs.lemmas.List.Elements.{All-cons, All-head, All-tail, All-nil}
use Rattle.disk_model.specs.Disk.{Faults, History, IsMoment}
use Rattle.mdbox_base.specs.declared.replies.Reply.{Reply}
use Rattle.mdbox_base.specs.declared.script.JournalEntry.{JournalEntry}
use Rattle.serving.specs.Accounts.{LanesAccount}
use Rattle.serving.specs.Lanes.{LaneValue, replies_behind}
use Rattle.serving.specs.Serving.{AreIdle}
use Rattle.serving.proofs.LaneLemmas.{get_set_other, get_set_same, nat_cases, one_some}
use Rattle.serving.proofs.ServingLemmas.{all_at}
use Rattle.task_steps.specs.Step.{ended_by}
use Rattle.store_core.specs.Value.{StoreValue}
use Rattle.lane_tasks.proofs.StepLemmas.{ran_before}
use Rattle.lane_tasks.specs.Tasks.{IsReadyTask, claims_at}
use Rattle.lane_tasks.specs.declared.task.Task.{Task}
use Rattle.lanes.specs.Rows.{LaneRow, RowGoesOn, after_event, lane_value, lanes_of, queue_in}
use Rattle.lanes.specs.Worlds.{AreAdded, AreIdleBetween, BeginsSome, IsIdleLane, IsSoundWorld, Works, WorldValue, entries_broken, entries_made, replied_behind, times_waiting}
use Rattle.lanes.specs.declared.lane.LaneEvent.{LaneEvent}
use Rattle.lanes.specs.declared.lane.Queued.{Queued}
use Rattle.lanes.proofs.GoingLemmas.{accounts_row, queue_is, value_at}
use Rattle.lanes.proofs.WaitingLemmas.{in_turn_unanswered, wait_once_on}
use Rattle.lanes.proofs.WorldLemmas.{added_as, broken_at, entries_at}

-- ---- rows

-- what holds of each row, and of one that comes in the place of another
pub each_set : (P : LaneRow → Type 0) (rows : List LaneRow) (k : ℕ) (row now : LaneRow) → slice_get rows k ≡ Some row → P now → ((j : ℕ) (other : LaneRow) → slice_get rows j ≡ Some other → P other) → (j : ℕ) (other : LaneRow) → slice_get (slice_set rows k now) j ≡ Some other → P other
each_set P rows k row now there own all j other is = elim (nat_cases k j) [
  | inl e ↦ subst P (one_some now other (sym (get_set_same rows k now row there) ∙ (ap (λ (n : ℕ). slice_get (slice_set rows k now) n) e ∙ is))) own
  | inr apart ↦ all j other (sym (get_set_other rows k j now apart) ∙ is)
]

waiting_after : (ended : Option Reply) (first : Queued) (waiting : List Queued) → All BeginsSome waiting → All BeginsSome (after_event ended first waiting).waiting
waiting_after None first waiting all = all
waiting_after (Some given) first [] all = All-nil BeginsSome
waiting_after (Some given) first (next ∷ rest) all = All-tail BeginsSome next rest all

place_of : Queued → ℕ
place_of queued = queued.place

queue_after : (P : ℕ → Type 0) (ended : Option Reply) (first : Queued) (place : ℕ) (waiting : List Queued) → first.place ≡ place → All P (place ∷ map (λ (q : Queued). q.place) waiting) → All P (queue_in (after_event ended first waiting))
queue_after P None first place waiting same all = subst (λ (n : ℕ). All P (n ∷ map (λ (q : Queued). q.place) waiting)) (sym same) all
queue_after P (Some given) first place [] same all = All-nil P
queue_after P (Some given) first place (next ∷ rest) same all = All-tail P place (next.place ∷ map (λ (q : Queued). q.place) rest) all

-- a lane that has a request in turn isn't idle
pub busy : (rows : List LaneRow) (k : ℕ) (row : LaneRow) (first : Queued) → slice_get rows k ≡ Some row → row.current ≡ Some first → AreIdle (lanes_of rows) → ⊥
busy rows k row first there was idle =
    let e = all_at (λ (value : LaneValue Task). value.queue ≡ []) (lanes_of rows) k (lane_value row) idle (value_at rows k row there) in
    let z : first.place ∷ map (λ (q : Queued). q.place) row.waiting ≡ [] = sym (queue_is row first was) ∙ e in cc z

pub replies_many : (ended : Option Reply) (place : ℕ) (replies : List (Option Reply)) → length (replies_behind ended place replies) ≡ length replies
replies_many None place replies = refl
replies_many (Some given) place replies = length-set replies place (Some given)

pub replied_many : (ended : Option Reply) (k : ℕ) (counts : List ℕ) → length (replied_behind ended k counts) ≡ length counts
replied_many None k counts = refl
replied_many (Some given) k counts = length-set counts k _

pub ran_then : {D : Type 0} → (k : ℕ) (old new : WorldValue D) (before after : Option History) (first second : Faults) → Works k old new before after first second → new.store.stopped ≡ false → old.store.stopped ≡ false
ran_then k old new before after first second w = ran_before old.store.stopped new.store.stopped w.goes.goes.halted

pub sound_on : {D : Type 0} → (k : ℕ) (old new : WorldValue D) (before after : Option History) (first second : Faults) → Works k old new before after first second → IsSoundWorld before old → IsSoundWorld after new
sound_on {D} k old new before after first second w s = record {
  few = let n = rows_many in let f = s.few in omega (arith, n, f);
  waiting = λ j row there. each_set (λ r. All BeginsSome r.waiting) old.rows k w.row w.now w.there (subst (λ (r : LaneRow). All BeginsSome r.waiting) (sym w.goes.now_is) (waiting_after (ended_by w.event.ended) next w.row.waiting begins)) s.waiting j row (ap (λ (rs : List LaneRow). slice_get rs j) (sym w.rows_are) ∙ there);
  accounts = λ runs. subst (λ (rows : List LaneRow). LanesAccount claims_at IsReadyTask new.store after (lanes_of rows)) (ap (slice_set old.rows k) (sym w.goes.now_is) ∙ sym w.rows_are)
      (accounts_row old.rows k w.row w.now w.event old.store new.store before after first second w.there begins runs w.goes (s.accounts (ran runs)));
  places = λ j row there. subst (λ (n : ℕ). All (λ place. place < n) (queue_in row)) (sym as_many)
      (each_set (λ r. All (λ place. place < length old.replies) (queue_in r)) old.rows k w.row w.now w.there
      (subst (λ (r : LaneRow). All (λ place. place < length old.replies) (queue_in r)) (sym w.goes.now_is) (queue_after (λ place. place < length old.replies) (ended_by w.event.ended) next w.goes.queued.place w.row.waiting refl
      (subst (λ (ps : List ℕ). All (λ place. place < length old.replies) ps) (queue_is w.row w.goes.queued w.goes.was) (s.places k w.row w.there)))) s.places j row (ap (λ (rs : List LaneRow). slice_get rs j) (sym w.rows_are) ∙ there));
  once = λ place given there. subst (λ (rows : List LaneRow). times_waiting place rows ≡ cond (is_some given) 0 1) (ap (slice_set old.rows k) (sym w.goes.now_is) ∙ sym w.rows_are)
      (wait_once_on old.rows old.replies k w.row w.goes.queued next (ended_by w.event.ended) w.there w.goes.was refl none s.once place given
      (subst (λ (n : ℕ). slice_get (replies_behind (ended_by w.event.ended) n old.replies) place ≡ Some given) w.goes.goes.place_is (ap (λ (rs : List (Option Reply)). slice_get rs place) (sym w.replies_are) ∙ there)));
  short = let n = as_many in let f = s.short in omega (arith, n, f);
  clock = subst (λ (n : ℕ). n ≤ 2 ^ 64 - 1) (sym w.began_is) s.clock;
  many = ap length w.replied_are ∙ (replied_many (ended_by w.event.ended) k old.replied ∙ (s.many ∙ sym rows_many));
  room = w.room_is ∙ (s.room ∙ (let n = as_many in let r = rows_many in omega (arith, n, r)));
  idle = λ done. absurd (busy old.rows k w.row w.goes.queued w.there w.goes.was (s.idle (sym w.finished_is ∙ done)));
}
  where
    next : Queued
    next = record w.goes.queued { task = w.goes.next }

    begins : All BeginsSome w.row.waiting
    begins = s.waiting k w.row w.there

    ran : new.store.stopped ≡ false → old.store.stopped ≡ false
    ran = ran_then k old new before after first second w

    rows_many : length new.rows ≡ length old.rows
    rows_many = ap length w.rows_are ∙ length-set old.rows k w.now

    none : slice_get old.replies w.goes.queued.place ≡ Some None
    none = ap (slice_get old.replies) (sym w.goes.goes.place_is) ∙ w.unanswered

    as_many : length new.replies ≡ length old.replies
    as_many = ap length w.replies_are ∙ replies_many (ended_by w.event.ended) w.event.place old.replies

-- the request of an event has a place among the replies
pub place_within : {D : Type 0} → (k : ℕ) (row now : LaneRow) (event : LaneEvent) (old new : StoreValue D) (before after : Option History) (first second : Faults) (world : WorldValue D) → RowGoesOn row now event old new before after first second → (history : Option History) → IsSoundWorld history world → slice_get world.rows k ≡ Some row → event.place < length world.replies
place_within k row now event old new before after first second world g history s there =
    let all = subst (λ (ps : List ℕ). All (λ place. place < length world.replies) ps) (queue_is row g.queued g.was) (s.places k row there) in
    let one = All-head (λ (place : ℕ). place < length world.replies) g.queued.place (map (λ (q : Queued). q.place) row.waiting) all in
    let same = g.goes.place_is in
    omega (arith, one, same)

-- and no reply
pub event_unanswered : {D : Type 0} → (k : ℕ) (row now : LaneRow) (event : LaneEvent) (old new : StoreValue D) (before after : Option History) (first second : Faults) (world : WorldValue D) → RowGoesOn row now event old new before after first second → (history : Option History) → IsSoundWorld history world → slice_get world.rows k ≡ Some row → slice_get world.replies event.place ≡ Some None
event_unanswered k row now event old new before after first second world g history s there =
    let inside = place_within k row now event old new before after first second world g history s there in
    let same = g.goes.place_is in
    ap (slice_get world.replies) same ∙ in_turn_unanswered world.rows world.replies k row g.queued there g.was (omega (arith, inside, same)) s.once

-- the row of a lane, as a call of a world reads it
pub row_read : {D : Type 0} → (was world : WorldValue D) (lane : ℕ) (row : LaneRow) → was ≡ world → (1 ≤ lane) × (lane ≤ length world.rows) → row ≡ get_or was.rows (lane - 1) row → slice_get was.rows (lane - 1) ≡ Some row
row_read was world lane row is inside read =
    let low = inside.0 in
    let high = subst (λ (w : WorldValue _). lane ≤ length w.rows) (sym is) inside.1 in
    slice_get_read was.rows (length was.rows) (lane - 1) row refl (omega (arith, low, high)) read

-- a lane with a request in turn isn't idle
pub not_idle : (lane : ℕ) (rows : List LaneRow) (row : LaneRow) → slice_get rows (lane - 1) ≡ Some row → (row.current ≢ None) → IsIdleLane lane rows → ⊥
not_idle lane rows row there some idle = some (ap (λ (r : LaneRow). r.current) (one_some row idle.0 (sym there ∙ idle.1)) ∙ idle.2)

-- lanes of which none has a request in turn are idle
pub all_idle : (rows : List LaneRow) → ((k : ℕ) (row : LaneRow) → slice_get rows k ≡ Some row → row.current ≡ None) → AreIdle (lanes_of rows)
all_idle [] none = All-nil (λ (value : LaneValue Task). value.queue ≡ [])
all_idle (row ∷ rows) none =
    All-cons (λ (value : LaneValue Task). value.queue ≡ []) (lane_value row) (lanes_of rows) (ap (λ (o : Option Queued). queue_in (record row { current = o })) (none 0 row refl)) (all_idle rows (λ k r there. none (suc k) r there))

pub idle_between : (rows : List LaneRow) → AreIdleBetween 0 (length rows + 1) rows → AreIdle (lanes_of rows)
idle_between rows idle = all_idle rows (λ k row there.
    let inside = slice_get_within rows k row there in
    let i = idle (k + 1) (omega arith) (omega (arith, inside)) in
    let at : k ≡ k + 1 - 1 = omega arith in
    ap (λ (r : LaneRow). r.current) (one_some row i.0 (sym there ∙ (ap (slice_get rows) at ∙ i.1))) ∙ i.2)

-- ---- what a world makes of an event

-- from what its call does for it
pub works_made : {D : Type 0} → (lane : ℕ) (old : WorldValue D) (store : StoreValue D) (replies : List (Option Reply)) (scripted : ℕ) (replied : List ℕ) (journal broken : List JournalEntry) (before after : Option History) (first second : Faults) (row now : LaneRow) (event : LaneEvent) (earlier later made broke : ℕ) (journal_room broken_room : Type 0)
    → 1 ≤ lane → IsSoundWorld before old → slice_get old.rows (lane - 1) ≡ Some row → RowGoesOn row now event old.store store before after first second → replies ≡ replies_behind (ended_by event.ended) event.place old.replies → scripted ≡ old.scripted → replied ≡ replied_behind (ended_by event.ended) (lane - 1) old.replied
    → IsMoment before earlier → IsMoment after later → made ≡ later - old.began → broke ≡ earlier - old.began
    → AreAdded journal_room (entries_made event.did lane event.place made) old.journal journal → (length old.journal < 2 * length old.replies → journal_room) → AreAdded broken_room (entries_broken event.did lane event.place broke) old.broken broken → (length old.broken < 16 → broken_room)
    → Works (lane - 1) old (record old { store = store; rows = slice_set old.rows (lane - 1) now; replies = replies; scripted = scripted; replied = replied; journal = journal; broken = broken }) before after first second
works_made lane old store replies scripted replied journal broken before after first second row now event earlier later made broke journal_room broken_room some sound there goes replies_are scripted_are replied_are earlier_is later_is made_is broke_is kept kept_room lost lost_room = record {
  row = row;
  now = now;
  event = event;
  there = there;
  goes = goes;
  rows_are = refl;
  unanswered = event_unanswered (lane - 1) row now event old.store store before after first second old goes before sound there;
  replies_are = replies_are;
  scripted_are = scripted_are;
  replied_are = replied_are;
  earlier = earlier;
  earlier_is = earlier_is;
  later = later;
  later_is = later_is;
  journal = added_as journal_room _ _ _ old.journal journal (entries_at event.did lane event.place made later old.began some made_is) kept_room kept;
  broken = added_as broken_room _ _ _ old.broken broken (broken_at event.did lane event.place broke earlier old.began some broke_is) lost_room lost;
  began_is = refl;
  turns_are = refl;
  room_is = refl;
  finished_is = refl;
}
