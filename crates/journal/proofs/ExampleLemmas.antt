-- The examples of journals are legal, and their events stand in order.
use Rattle.std.specs.Prelude.{◌≡◌, ◌<◌, true, [], ◌∷◌, Some, None, refl}
use Rattle.std.proofs.Common.{lit<}
use Rattle.std.proofs.lemmas.List.Elements.{All-from_recursion, All-nil}
use Rattle.mdbox_base.specs.declared.requests.Request.TheVariants as request
use Rattle.mdbox_base.specs.declared.replies.Refusal.TheVariants as refusal
use Rattle.mdbox_base.specs.declared.replies.Reply.TheVariants as reply
use Rattle.model_meaning.specs.MapMeaning.{count_of}
use Rattle.model_meaning.specs.MeaningExamples.{example_guid}
use Rattle.list_machine.specs.Run.{First, TakesFile, PlacesMessage, StoresRecord, Last, SecondHalf, GivesBack, ReadsPiece, Unpins, RemovesFile, MakesTarget, CopiesMessage, Switches, map_of, before, own_events}
use Rattle.journal.specs.Journal.{IsStep, AreSteps, lists_at, acked, places_of, IsReplyOf}
use Rattle.mdbox_base.specs.declared.script.Half.TheVariants.{Whole}
use Rattle.journal.specs.Events.{next_part}
use Rattle.journal.specs.JournalExamples.{inbox, hello, nothing_around, first_script, first_lists, lists_saved, first_run, step_saved, step_listed, first_journal, second_script, lists_left, second_run, step_expunged, step_refused, second_journal, a_box, b_box, third_script, third_lists, third_run, third_journal, fourth_script, fourth_run, fourth_journal, fifth_run}

-- ---- a delivery and a listing

saved_is_step : IsStep first_run first_script first_lists step_saved
saved_is_step = record {
  asked = _;
  request_is = refl;
  lane_is = refl;
  event = _;
  event_is = refl;
  own_request = refl;
  own_lane = refl;
  half_is = refl;
  says = refl;
  answers = (
    refl,
    record {
      mailbox = _;
      target_is = refl;
      given_is = refl;
      guid_is = refl;
      guid_length = refl;
      guid_octets = All-from_recursion (λ octet. octet < 256) example_guid (lit< tt, (lit< tt, (lit< tt, (lit< tt, (lit< tt, (lit< tt, (lit< tt, (lit< tt, (lit< tt, (lit< tt, (lit< tt, (lit< tt, (lit< tt, (lit< tt, (lit< tt, (lit< tt, tt))))))))))))))));
      guid_unlisted = refl;
      guid_new = All-nil _;
      new_is = refl;
    },
  );
}

listed_is_step : IsStep first_run first_script lists_saved step_listed
listed_is_step = record {
  asked = _;
  request_is = refl;
  lane_is = refl;
  event = _;
  event_is = refl;
  own_request = refl;
  own_lane = refl;
  half_is = refl;
  says = refl;
  answers = (refl, (_, refl, refl, refl));
}

pub first_is_legal : AreSteps first_run first_script first_lists first_journal
first_is_legal = (saved_is_step, (listed_is_step, tt))

-- each event is the next part of its request
pub first_parts : (next_part nothing_around (before 0 first_run) (request.Deliver inbox 7 hello) (own_events 0 (before 0 first_run)) ≡ Some First)
    × (next_part nothing_around (before 1 first_run) (request.Deliver inbox 7 hello) (own_events 0 (before 1 first_run)) ≡ Some (TakesFile true))
    × (next_part nothing_around (before 2 first_run) (request.Deliver inbox 7 hello) (own_events 0 (before 2 first_run)) ≡ Some PlacesMessage)
    × (next_part nothing_around (before 3 first_run) (request.Deliver inbox 7 hello) (own_events 0 (before 3 first_run)) ≡ Some StoresRecord)
    × (next_part nothing_around (before 4 first_run) (request.Deliver inbox 7 hello) (own_events 0 (before 4 first_run)) ≡ Some Last)
    × (next_part nothing_around (before 5 first_run) (request.Deliver inbox 7 hello) (own_events 0 (before 5 first_run)) ≡ None)
first_parts = (refl, refl, refl, refl, refl, refl)

-- acknowledged at the moment 12 is nothing, at 13 both; the lists after no step, and after one
pub first_places : (acked first_run first_journal 12 ≡ 0) × (acked first_run first_journal 13 ≡ 2) × (lists_at first_lists first_journal 0 ≡ first_lists) × (lists_at first_lists first_journal 1 ≡ lists_saved)
first_places = (refl, refl, refl, refl)

-- ---- a copy whose message is expunged between its two events

expunged_is_step : IsStep second_run second_script lists_saved step_expunged
expunged_is_step =
    record { asked = _; request_is = refl; lane_is = refl; event = _; event_is = refl; own_request = refl; own_lane = refl; half_is = refl; says = refl; answers = (refl, refl) }

refused_is_step : IsStep second_run second_script lists_left step_refused
refused_is_step =
    record { asked = _; request_is = refl; lane_is = refl; event = _; event_is = refl; own_request = refl; own_lane = refl; half_is = refl; says = refl; answers = (refl, refl) }

pub second_is_legal : AreSteps second_run second_script lists_saved second_journal
second_is_legal = (expunged_is_step, (refused_is_step, tt))

-- the parts of the copy, the count at the end, and that the reply of each is that of its one step
pub second_parts : (next_part nothing_around (before 3 second_run) (request.Copy inbox (record { 0 = 1 }) inbox) (own_events 0 (before 3 second_run)) ≡ Some Last)
    × (next_part nothing_around (before 4 second_run) (request.Copy inbox (record { 0 = 1 }) inbox) (own_events 0 (before 4 second_run)) ≡ Some GivesBack)
    × (next_part nothing_around (before 5 second_run) (request.Copy inbox (record { 0 = 1 }) inbox) (own_events 0 (before 5 second_run)) ≡ None)
    × (next_part nothing_around (before 2 second_run) (request.Expunge inbox (record { 0 = 1 })) (own_events 1 (before 2 second_run)) ≡ Some GivesBack)
    × (count_of (map_of second_run) example_guid ≡ 0)
    × IsReplyOf (request.Copy inbox (record { 0 = 1 }) inbox) (reply.Refused refusal.NoMessage ∷ []) (reply.Refused refusal.NoMessage)
second_parts = (refl, refl, refl, refl, refl, refl)

-- ---- two moves of one message

pub third_is_legal : AreSteps third_run third_script third_lists third_journal
third_is_legal = (
  record { asked = _; request_is = refl; lane_is = refl; event = _; event_is = refl; own_request = refl; own_lane = refl; half_is = refl; says = refl; answers = (refl, record { message = _; mailbox = _; source_is = refl; target_is = refl; given_is = refl; new_is = refl }) },
  (
    record { asked = _; request_is = refl; lane_is = refl; event = _; event_is = refl; own_request = refl; own_lane = refl; half_is = refl; says = refl; answers = (refl, record { message = _; mailbox = _; source_is = refl; target_is = refl; given_is = refl; new_is = refl }) },
    (
      record { asked = _; request_is = refl; lane_is = refl; event = _; event_is = refl; own_request = refl; own_lane = refl; half_is = refl; says = refl; answers = (refl, (refl, (refl, refl))) },
      (record { asked = _; request_is = refl; lane_is = refl; event = _; event_is = refl; own_request = refl; own_lane = refl; half_is = refl; says = refl; answers = (refl, (refl, (refl, refl))) }, tt),
    ),
  ),
)

-- the second move's parts: it is answered where it finds the message gone, and the first lowers the count
pub third_parts : (next_part nothing_around (before 5 third_run) (request.Move inbox (record { 0 = 1 }) b_box) (own_events 1 (before 5 third_run)) ≡ Some SecondHalf)
    × (next_part nothing_around (before 6 third_run) (request.Move inbox (record { 0 = 1 }) b_box) (own_events 1 (before 6 third_run)) ≡ None)
    × (next_part nothing_around (before 6 third_run) (request.Move inbox (record { 0 = 1 }) a_box) (own_events 0 (before 6 third_run)) ≡ Some GivesBack)
    × (count_of (map_of third_run) example_guid ≡ 2)
third_parts = (refl, refl, refl, refl)

-- ---- a purge beside a fetch that has pinned the file, and a resync

pub fourth_is_legal : AreSteps fourth_run fourth_script lists_saved fourth_journal
fourth_is_legal = (
  record { asked = _; request_is = refl; lane_is = refl; event = _; event_is = refl; own_request = refl; own_lane = refl; half_is = refl; says = refl; answers = (refl, (_, refl, refl, refl)) },
  (
    record { asked = _; request_is = refl; lane_is = refl; event = _; event_is = refl; own_request = refl; own_lane = refl; half_is = refl; says = refl; answers = (refl, (record { dropped_are = refl; files_are = refl; instances_are = refl }, refl)) },
    tt,
  ),
)

-- The purge goes on past the file that was pinned as it switched it, and the fetch, which has unpinned it by then, removes it.
pub fourth_parts : (next_part nothing_around (before 2 fourth_run) request.Purge (own_events 1 (before 2 fourth_run)) ≡ Some MakesTarget)
    × (next_part nothing_around (before 3 fourth_run) request.Purge (own_events 1 (before 3 fourth_run)) ≡ Some CopiesMessage)
    × (next_part nothing_around (before 4 fourth_run) request.Purge (own_events 1 (before 4 fourth_run)) ≡ Some Switches)
    × (next_part nothing_around (before 5 fourth_run) (request.Fetch inbox (record { 0 = 1 })) (own_events 0 (before 5 fourth_run)) ≡ Some ReadsPiece)
    × (next_part nothing_around (before 6 fourth_run) (request.Fetch inbox (record { 0 = 1 })) (own_events 0 (before 6 fourth_run)) ≡ Some Unpins)
    × (next_part nothing_around (before 7 fourth_run) request.Purge (own_events 1 (before 7 fourth_run)) ≡ Some Last)
    × (next_part nothing_around (before 8 fourth_run) request.Purge (own_events 1 (before 8 fourth_run)) ≡ None)
    × (next_part nothing_around (before 8 fourth_run) (request.Fetch inbox (record { 0 = 1 })) (own_events 0 (before 8 fourth_run)) ≡ Some RemovesFile)
    × (next_part nothing_around (before 9 fourth_run) (request.Fetch inbox (record { 0 = 1 })) (own_events 0 (before 9 fourth_run)) ≡ None)
fourth_parts = (refl, refl, refl, refl, refl, refl, refl, refl, refl)

pub fifth_is_legal : AreSteps fifth_run ((1, request.Resync) ∷ []) lists_left (record { lane = 1; request = 0; half = Whole; event = 2; answer = reply.Resynced 1 0; left = lists_left } ∷ [])
fifth_is_legal = (
  record { asked = _; request_is = refl; lane_is = refl; event = _; event_is = refl; own_request = refl; own_lane = refl; half_is = refl; says = refl; answers = (refl, (record { corrected_are = refl; damaged_are = refl }, refl)) },
  tt,
)

-- the printed places: of the copy and the expunge, and of the two moves
pub example_places : (places_of 0 1 second_journal ≡ 2 ∷ []) × (places_of 1 1 second_journal ≡ 1 ∷ []) × (places_of 0 1 third_journal ≡ 1 ∷ 3 ∷ []) × (places_of 1 1 third_journal ≡ 2 ∷ 4 ∷ [])
example_places = (refl, refl, refl, refl)
