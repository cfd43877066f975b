-- Events of lanes, one after another, in rounds or in whatever order.
use Rattle.std.proofs.Common.{◌≡◌, ◌<◌, ◌≤◌, ◌+◌, ◌-◌, ℕ, List, [], ◌∷◌, ◌++◌, map, Option, Some, None, refl, sym, ◌∙◌, ap, subst, arith, inl, inr}
use Rattle.std.specs.Prelude.{◌⊎◌, length, nat_lt, slice_get}
use Rattle.std.proofs.lemmas.List.{append-nil, append_assoc, length-set}
use Rattle.std.proofs.lemmas.Bool.{cases_lt, cond-true, cond-false, lt-ltb, le-ltb}
use Rattle.disk_model.specs.Disk.{Faults, History, told_calls}
use Rattle.mdbox_base.specs.declared.replies.Reply.{Reply}
use Rattle.mdbox_base.specs.declared.script.JournalEntry.{JournalEntry}
use Rattle.list_machine.specs.Run.{RunEvent, and_then}
use Rattle.journal.specs.Journal.{HasReply, IsFirstPart, JournalStep}
use Rattle.serving.specs.Lanes.{replies_behind}
use Rattle.serving.proofs.LaneLemmas.{get_set_other, nat_cases, one_some}
use Rattle.task_steps.specs.Step.{ended_by}
use Rattle.lane_tasks.proofs.StepLemmas.{ran_before}
use Rattle.lanes.specs.Rows.{LaneRow}
use Rattle.lanes.specs.Turned.{GoesOnInOrder}
use Rattle.lanes.specs.Worlds.{AreAdded, AreIdleBetween, GoesInRounds, GoesOnBy, IsIdleLane, IsLaneEvent, IsNextBusy, IsServedOn, IsWorldOf, KeepsWorld, WorldValue, and_events, turns_behind}
use Rattle.lanes.proofs.SoundLemmas.{replies_many}
use Rattle.lanes.proofs.TraceLemmas.{as_finished, world_finished}

-- ---- one more

-- the last of these lanes, behind this one
abbrev pub last_of : ℕ → List ℕ → ℕ
last_of last [] = last
last_of last (lane ∷ lanes) = last_of lane lanes

pub last_more : (last lane : ℕ) (lanes : List ℕ) → last_of last (lanes ++ lane ∷ []) ≡ lane
last_more last lane [] = refl
last_more last lane (next ∷ lanes) = last_more next lane lanes

pub rounds_more : {D : Type 0} → (last lane : ℕ) (lanes : List ℕ) (old mid new : WorldValue D) (before between after : Option History) (first next second : Faults) → GoesInRounds last lanes old mid before between first next → IsNextBusy (last_of last lanes) lane mid.rows → IsLaneEvent lane mid new between after next second → new.turns ≡ mid.turns
    → GoesInRounds last (lanes ++ lane ∷ []) old new before after first second
rounds_more last lane [] old mid new before between after first next second g busy event turns = rw (← g.0, ← g.1, ← g.2) (new, after, second, busy, event, turns, (refl, refl, refl))
rounds_more last lane (a ∷ lanes) old mid new before between after first next second g busy event turns =
    (g.0, g.1, g.2, g.3, g.4, g.5, rounds_more a lane lanes g.0 mid new g.1 between after g.2 next second g.6 busy event turns)

-- ---- in whatever order

-- Events in rounds are events in some order.
pub in_order : {D : Type 0} → (last : ℕ) (lanes : List ℕ) (old new : WorldValue D) (before after : Option History) (first second : Faults) → GoesInRounds last lanes old new before after first second → GoesOnInOrder lanes old new before after first second
in_order last [] old new before after first second g = g
in_order last (lane ∷ lanes) old new before after first second g = (g.0, g.1, g.2, g.4, g.5, in_order lane lanes g.0 new g.1 after g.2 second g.6)

-- ---- the world of a script

pub in_order_serves : {D : Type 0} → (lanes : List ℕ) (old new : WorldValue D) (before after : Option History) (first second : Faults) → GoesOnInOrder lanes old new before after first second → IsServedOn lanes old new before after first second
in_order_serves {D} [] old new before after first second g start script run steps failed began is = (
  [],
  [],
  failed,
  refl,
  subst (λ (w : WorldValue D). IsWorldOf start script (and_events run []) (steps ++ []) failed began after second w) (sym g.0)
      (subst (λ (h : Option History). IsWorldOf start script (and_events run []) (steps ++ []) failed began h second old) (sym g.1)
      (subst (λ (f : Faults). IsWorldOf start script (and_events run []) (steps ++ []) failed began before f old) (sym g.2)
      (subst (λ (js : List JournalStep). IsWorldOf start script (and_events run []) js failed began before first old) (sym (append-nil steps))
      (subst (λ (es : List RunEvent). IsWorldOf start script (record run { events = es }) steps failed began before first old) (sym (append-nil run.events)) is)))),
)
in_order_serves {D} (lane ∷ lanes) old new before after first second g start script run steps failed began is =
    let e = g.3.goes start script run steps failed began is in
    let r = in_order_serves lanes g.0 new g.1 after g.2 second g.5 start script (and_then run e.0) (steps ++ e.1) e.2 began e.4 in (
      e.0 ∷ r.0,
      e.1 ++ r.1,
      r.2,
      ap (λ (n : ℕ). n ∷ map (λ (x : RunEvent). x.lane) r.0) e.3.lane_is ∙ ap (λ (ls : List ℕ). lane ∷ ls) r.3,
      subst (λ (js : List JournalStep). IsWorldOf start script (and_events run (e.0 ∷ r.0)) js r.2 began after second new) (append_assoc steps e.1 r.1)
          (subst (λ (es : List RunEvent). IsWorldOf start script (record run { events = es }) ((steps ++ e.1) ++ r.1) r.2 began after second new) (append_assoc run.events (e.0 ∷ []) r.0) r.4),
    )

pub served_on : {D : Type 0} → (lanes : List ℕ) (old new : WorldValue D) (before after : Option History) (first second : Faults) → GoesOnBy lanes old new before after first second → IsServedOn lanes old new before after first second
served_on lanes old new before after first second g start script run steps failed began is =
    in_order_serves lanes (as_finished old) new before after first second (in_order 0 lanes (as_finished old) new before after first second g) start script run steps failed began (world_finished start script run steps failed began before first old is)

-- ---- what stays of every world

first_itself : {X : Type 0} → (xs : List X) → IsFirstPart xs xs
first_itself xs = ([], append-nil xs)

first_then : {X : Type 0} → (xs ys zs : List X) → IsFirstPart xs ys → IsFirstPart ys zs → IsFirstPart xs zs
first_then xs ys zs a b = (a.0 ++ b.0, sym (append_assoc xs a.0 b.0) ∙ (ap (λ (l : List _). l ++ b.0) a.1 ∙ b.1))

first_added : (room : Type 0) (added entries now : List JournalEntry) → AreAdded room added entries now → IsFirstPart entries now
first_added room added entries now are = by_case are.some
  where
    by_case : (now ≡ entries) ⊎ (now ≡ entries ++ added) → IsFirstPart entries now
    by_case (inl e) = ([], append-nil entries ∙ sym e)
    by_case (inr e) = (added, sym e)

reply_stays : (ended : Option Reply) (place i : ℕ) (replies : List (Option Reply)) (given : Reply) → slice_get replies place ≡ Some None → HasReply replies i given → HasReply (replies_behind ended place replies) i given
reply_stays None place i replies given none has = has
reply_stays (Some reply) place i replies given none has = elim (nat_cases place i) [
  | inl e ↦ absurd (let z : None ≡ Some given = one_some None (Some given) (sym none ∙ (ap (slice_get replies) e ∙ has)) in cc z)
  | inr apart ↦ get_set_other replies place i (Some reply) apart ∙ has
]

pub event_keeps : {D : Type 0} → (lane : ℕ) (old new : WorldValue D) (before after : Option History) (first second : Faults) → IsLaneEvent lane old new before after first second → KeepsWorld old new before after first second
event_keeps lane old new before after first second e = let keeps = e.works.goes.goes.keeps in record {
  replies = λ i given has. ap (λ (rs : List (Option Reply)). slice_get rs i) e.works.replies_are ∙ reply_stays (ended_by e.works.event.ended) e.works.event.place i old.replies given e.works.unanswered has;
  requests = ap (λ (rs : List (Option Reply)). length rs) e.works.replies_are ∙ replies_many (ended_by e.works.event.ended) e.works.event.place old.replies;
  scripted = e.works.scripted_are;
  lanes = ap (λ (rows : List LaneRow). length rows) e.works.rows_are ∙ length-set old.rows (lane - 1) e.works.now;
  journal = first_added _ _ old.journal new.journal e.works.journal;
  broken = first_added _ _ old.broken new.broken e.works.broken;
  stopped = e.works.goes.goes.halted;
  grows = keeps.grows;
  reads = keeps.reads;
  changes = keeps.changes;
  unfailed = keeps.unfailed;
  began = e.works.began_is;
  room = e.works.room_is;
}

pub keeps_then : {D : Type 0} → (old mid new : WorldValue D) (before between after : Option History) (first counted second : Faults) → KeepsWorld old mid before between first counted → KeepsWorld mid new between after counted second → KeepsWorld old new before after first second
keeps_then old mid new before between after first counted second a b = record {
  replies = λ i given has. b.replies i given (a.replies i given has);
  requests = b.requests ∙ a.requests;
  scripted = b.scripted ∙ a.scripted;
  lanes = b.lanes ∙ a.lanes;
  journal = first_then old.journal mid.journal new.journal a.journal b.journal;
  broken = first_then old.broken mid.broken new.broken a.broken b.broken;
  stopped = λ stopped. b.stopped (a.stopped stopped);
  grows = let x : told_calls before ≤ told_calls between = a.grows in let y : told_calls between ≤ told_calls after = b.grows in omega (arith, x, y);
  reads = let x = a.reads in let y = b.reads in omega (arith, x, y);
  changes = let x = a.changes in let y = b.changes in omega (arith, x, y);
  unfailed = λ runs. b.unfailed runs ∙ a.unfailed (ran_before mid.store.stopped new.store.stopped b.stopped runs);
  began = b.began ∙ a.began;
  room = b.room ∙ a.room;
}

pub keeps_itself : {D : Type 0} → (world : WorldValue D) (history : Option History) (faults : Faults) → KeepsWorld world world history history faults faults
keeps_itself world history faults = record {
  replies = λ i given has. has;
  requests = refl;
  scripted = refl;
  lanes = refl;
  journal = first_itself world.journal;
  broken = first_itself world.broken;
  stopped = λ stopped. stopped;
  grows = omega arith;
  reads = omega arith;
  changes = omega arith;
  unfailed = λ runs. refl;
  began = refl;
  room = refl;
}

pub in_order_keeps : {D : Type 0} → (lanes : List ℕ) (old new : WorldValue D) (before after : Option History) (first second : Faults) → GoesOnInOrder lanes old new before after first second → KeepsWorld old new before after first second
in_order_keeps [] old new before after first second g = rw (g.0, g.1, g.2) (keeps_itself old before first)
in_order_keeps (lane ∷ lanes) old new before after first second g = keeps_then old g.0 new before g.1 after first g.2 second (event_keeps lane old g.0 before g.1 first g.2 g.3) (in_order_keeps lanes g.0 new g.1 after g.2 second g.5)

pub rounds_keep_world : {D : Type 0} → (lanes : List ℕ) (old new : WorldValue D) (before after : Option History) (first second : Faults) → GoesOnBy lanes old new before after first second → KeepsWorld old new before after first second
rounds_keep_world lanes old new before after first second g = let k = in_order_keeps lanes (as_finished old) new before after first second (in_order 0 lanes (as_finished old) new before after first second g) in assumption k

-- ---- the lane in turn

turns_on : (lanes last lane : ℕ) → last < lane → turns_behind lanes last lane ≡ lane - last
turns_on lanes last lane less = cond-true (nat_lt last lane) (lane - last) (lanes + lane - last) (lt-ltb last lane less)

turns_round : (lanes last lane : ℕ) → lane ≤ last → turns_behind lanes last lane ≡ lanes + lane - last
turns_round lanes last lane most = cond-false (nat_lt last lane) (lane - last) (lanes + lane - last) (le-ltb last lane most)

-- the first lane behind the last one that has a request left
pub next_on : (last lane : ℕ) (rows : List LaneRow) → last < lane → lane ≤ length rows → (IsIdleLane lane rows → ⊥) → AreIdleBetween last lane rows → IsNextBusy last lane rows
next_on last lane rows less within busy between = record {
  is_lane = (omega (arith, less), within);
  busy = busy;
  sooner = λ other some most sooner. by_case other some most sooner (cases_lt last other);
}
  where
    by_case : (other : ℕ) → 1 ≤ other → other ≤ length rows → turns_behind (length rows) last other < turns_behind (length rows) last lane → (last < other) ⊎ (other ≤ last) → IsIdleLane other rows
    by_case other some most sooner (inl behind) =
        let o = turns_on (length rows) last other behind in
        let l = turns_on (length rows) last lane less in
        between other behind (omega (arith, sooner, o, l, behind, less))
    by_case other some most sooner (inr before) =
        let o = turns_round (length rows) last other before in
        let l = turns_on (length rows) last lane less in
        absurd (omega (arith, sooner, o, l, some, within, less, before))

-- none behind it has one, and it is the first of all that has
pub next_round : (last lane : ℕ) (rows : List LaneRow) → 0 < lane → lane ≤ length rows → (IsIdleLane lane rows → ⊥) → AreIdleBetween 0 lane rows → AreIdleBetween last (length rows + 1) rows → IsNextBusy last lane rows
next_round last lane rows some_lane within busy between behind = record {
  is_lane = (omega (arith, some_lane), within);
  busy = busy;
  sooner = λ other some most sooner. by_case other some most sooner (cases_lt last other) (cases_lt last lane);
}
  where
    by_case : (other : ℕ) → 1 ≤ other → other ≤ length rows → turns_behind (length rows) last other < turns_behind (length rows) last lane → (last < other) ⊎ (other ≤ last) → (last < lane) ⊎ (lane ≤ last) → IsIdleLane other rows
    by_case other some most sooner (inl later) before = behind other later (omega (arith, most))
    by_case other some most sooner (inr earlier) (inl less) = absurd (busy (behind lane less (omega (arith, within))))
    by_case other some most sooner (inr earlier) (inr before) =
        let o = turns_round (length rows) last other earlier in
        let l = turns_round (length rows) last lane before in
        between other (omega (arith, some)) (omega (arith, sooner, o, l, earlier, before))

-- one lane more has no request left
pub idle_more : (after place : ℕ) (rows : List LaneRow) (row : LaneRow) → AreIdleBetween after (place + 1) rows → slice_get rows place ≡ Some row → (row.current ≡ None) × (row.waiting ≡ []) → AreIdleBetween after (place + 1 + 1) rows
idle_more after place rows row idle there none lane some most = elim (cases_lt lane (place + 1)) [
  | inl less ↦ idle lane some less
  | inr last ↦ let at : lane - 1 ≡ place = omega (arith, last, most) in (row, ap (slice_get rows) at ∙ there, none.0, none.1)
]
