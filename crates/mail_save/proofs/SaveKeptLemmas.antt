-- Where a delivery stands, as other requests go on.
use Rattle.mail_save.proofs.Common.{◌≡◌, ◌||◌, ℕ, Bool, List, ◌∙◌, ap, list_any, bytes_eq, ne_eqb, InstRow, Refusal, RunEvent, Run, and_then, own_events, IsAtSave, IsTakingFile, IsPlacingMessage, IsStoringMessage, IsAddingMessage, IsLoweringCount, SaveStage}
use Rattle.std.specs.Prelude.{◌≢◌}
use Rattle.journal.proofs.OwnEventLemmas.{own_other}
use Rattle.task_steps.specs.Step.{GivesNew, IsKept}
use Rattle.task_steps.proofs.SeenLemmas.{not_begun_stays, others_still}
use Rattle.mail_save.specs.SaveStages.{IsOwnGuid}
use Rattle.mail_save.specs.declared.task.SaveStage.TheVariants as stage
use Rattle.mail_save.proofs.SaveDidLemmas.{given_more}

own_stays : (place : ℕ) (run : Run) (event : RunEvent) (own : List RunEvent) → event.request ≢ place → own_events place run ≡ own → own_events place (and_then run event) ≡ own
own_stays place run event own other is = own_other place run event (ne_eqb event.request place other) ∙ is

guid_stays : (guid : List ℕ) (place : ℕ) (run : Run) (event : RunEvent) → event.request ≢ place → GivesNew run event → IsOwnGuid guid run place → IsOwnGuid guid (and_then run event) place
guid_stays guid place run event other new own = record {
  long = own.long;
  each = own.each;
  given = given_more run event guid ∙ ap (λ (b : Bool). b || list_any (bytes_eq guid) event.given) own.given;
  once = others_still run event place guid other new own.given own.once;
}

taking_stays : (rows : List InstRow) → IsKept (IsTakingFile rows)
taking_stays rows run place said event other new stood =
    let s = stood.0 in
    (record { first = s.first; more = s.more; own_are = own_stays place run event _ other s.own_are; laid = s.laid; attached = s.attached; found = s.found }, stood.1)

placing_stays : (rows : List InstRow) (file : ℕ) → IsKept (IsPlacingMessage rows file)
placing_stays rows file run place said event other new stood =
    let s = stood.0 in
    (record { front = s.front; second = s.second; own_are = own_stays place run event _ other s.own_are; attached = s.attached; took = s.took }, stood.1)

storing_stays : (rows : List InstRow) (file : ℕ) (guid : List ℕ) → IsKept (IsStoringMessage rows file guid)
storing_stays rows file guid run place said event other new stood =
    let s = stood.0 in (
      record { front = s.front; second = s.second; third = s.third; own_are = own_stays place run event _ other s.own_are; attached = s.attached; took = s.took; placed = s.placed },
      stood.1,
      guid_stays guid place run event other new stood.2,
      stood.3,
    )

adding_stays : (guid : List ℕ) (uid : ℕ) → IsKept (IsAddingMessage guid uid)
adding_stays guid uid run place said event other new stood =
    let s = stood.0 in (
      record {
        rows = s.rows;
        file = s.file;
        front = s.front;
        second = s.second;
        third = s.third;
        fourth = s.fourth;
        own_are = own_stays place run event _ other s.own_are;
        attached = s.attached;
        took = s.took;
        placed = s.placed;
        stored = s.stored;
      },
      guid_stays guid place run event other new stood.1,
      stood.2,
    )

lowering_stays : (uid : ℕ) (why : Refusal) → IsKept (IsLoweringCount uid why)
lowering_stays uid why run place said event other new stood =
    let s = stood.0 in (
      record {
        rows = s.rows;
        file = s.file;
        guid = s.guid;
        front = s.front;
        second = s.second;
        third = s.third;
        fourth = s.fourth;
        fifth = s.fifth;
        own_are = own_stays place run event _ other s.own_are;
        attached = s.attached;
        took = s.took;
        placed = s.placed;
        stored = s.stored;
        refused = s.refused;
      },
      stood.1,
      stood.2,
    )

pub save_kept : (now : SaveStage) → IsKept (IsAtSave now)
save_kept (stage.First prepared) = not_begun_stays
save_kept (stage.Attaching parts attaching) = taking_stays attaching.found
save_kept (stage.Taking parts) = taking_stays parts.rows
save_kept (stage.Placing parts file) = placing_stays parts.rows file.0
save_kept (stage.Storing at rows room) = storing_stays rows at.file.0 at.guid.0
save_kept (stage.Adding added room) = adding_stays added.guid.0 added.map_uid.0
save_kept (stage.GivingBack uid why room) = lowering_stays uid.0 why
save_kept stage.Ended = λ run place said event other new stood. absurd stood
