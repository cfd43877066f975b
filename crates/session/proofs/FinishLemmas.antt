-- A session from the opening of the store to the end of its last request.
use Rattle.std.specs.Prelude.{◌<◌, ◌≤◌, suc, length, replicate, slice_get}
use Rattle.std.proofs.Common.{◌≡◌, ℕ, true, false, List, [], ◌∷◌, Option, Some, None, refl, sym, ◌∙◌, ap, subst, arith}
use Rattle.std.proofs.lemmas.List.Elements.{All-cons, All-nil}
use Rattle.disk_model.specs.Disk.{Faults, History, IfTold, told_calls}
use Rattle.mdbox_base.specs.declared.replies.Refusal.TheVariants as refused
use Rattle.mdbox_base.specs.declared.replies.Reply.{Reply}
use Rattle.mdbox_base.specs.declared.replies.Reply.TheVariants as reply
use Rattle.mdbox_base.specs.declared.requests.Request.{Request}
use Rattle.mdbox_base.specs.declared.requests.Request.TheVariants as request
use Rattle.mdbox_base.specs.declared.script.JournalEntry.{JournalEntry}
use Rattle.model_kept.proofs.KeptLemmas.{ReadsImage}
use Rattle.model_lists.specs.Lists.{Lists}
use Rattle.journal.specs.Journal.{no_broken}
use Rattle.serving.specs.Lanes.{LaneValue}
use Rattle.serving.specs.Serving.{AreIdle, unreplied}
use Rattle.store_core.proofs.InstanceFirmLemmas.{named_all_firm}
use Rattle.store_core.specs.Running.{IsStore}
use Rattle.store_core.specs.Value.{StoreValue, indexes_of}
use Rattle.task_claims.specs.Claims.{HasNoTask}
use Rattle.mail_fetch.specs.Task.{seen_in}
use Rattle.lane_tasks.specs.declared.task.Task.{Task}
use Rattle.lanes.specs.Going.{IsGoing}
use Rattle.lanes.specs.Rows.{LaneRow, lane_value, lanes_of}
use Rattle.lanes.specs.Worlds.{ArePartsOf, GoesOnBy, IsFreshWorld, KeepsWorld, PartsValue, WorldValue, world_begun}
use Rattle.request_text.specs.declared.outcome.Outcome.{Outcome}
use Rattle.script_text.specs.Taking.{OfSource}
use Rattle.script_run.specs.Opening.{LogsShowLists}
use Rattle.script_run.specs.OpenScript.{IsStoreOpened}
use Rattle.script_run.proofs.DoneLemmas.{LanesBegin, LanesEnd, WorldsBegin, begins_from, of_lanes}
use Rattle.script_run.proofs.RunBeginsLemmas.{at_opening, beginning, first_come}
use Rattle.script_run.proofs.ShownLemmas.{LogsShow}
use Rattle.session.specs.OneRequest.{HaveReplies, IsWaiting}
use Rattle.session.specs.Session.{IsSessionDone}
use Rattle.session.proofs.GoneLemmas.{SessionEnded}

-- ---- it begins

rows_idle : (rows : List LaneRow) → ((k : ℕ) (row : LaneRow) → slice_get rows k ≡ Some row → (lane_value row).queue ≡ []) → AreIdle (lanes_of rows)
rows_idle [] none = All-nil (λ (value : LaneValue Task). value.queue ≡ [])
rows_idle (row ∷ rows) none = All-cons (λ (value : LaneValue Task). value.queue ≡ []) (lane_value row) (lanes_of rows) (none 0 row refl) (rows_idle rows (λ k other at. none (suc k) other at))

abbrev nones : ℕ → List (Option Reply)
nones n = replicate n None

no_replies : (parts : PartsValue) → parts.requests ≡ 0 → nones parts.requests ≡ []
no_replies parts none = ap nones none

-- a world that begins without a request waits for the first
pub fresh_waits : {D : Type 0} → (s : StoreValue D) (parts : PartsValue) (history : Option History) (world : WorldValue D) → ArePartsOf [] 64 parts → IsFreshWorld s parts history world → IsWaiting world
fresh_waits s parts history world are begun = subst (λ (w : WorldValue _). IsWaiting w) (sym begun.2) (record {
  many = are.many;
  idle = rows_idle parts.rows (λ k row at. (are.rows k row at).all);
  replied = λ place within. absurd (let none : length (nones parts.requests) ≡ 0 = ap length (no_replies parts are.requests) in omega (arith, within, none));
  goes_on = refl;
  running = λ place at. absurd (let k : None ≡ Some (Some (reply.Refused refused.Stopped)) = sym (ap (λ (rs : List (Option Reply)). slice_get rs place) (no_replies parts are.requests)) ∙ at in cc k);
  own = All-nil (λ (entry : JournalEntry). entry.request < length (nones parts.requests));
})

pub fresh_empty : {D : Type 0} → (s : StoreValue D) (parts : PartsValue) (history : Option History) (world : WorldValue D) → ArePartsOf [] 64 parts → IsFreshWorld s parts history world → world.replies ≡ []
fresh_empty s parts history world are begun = ap (λ (w : WorldValue _). w.replies) begun.2 ∙ no_replies parts are.requests

-- ---- it ends

pub session_finished : {D : Type 0} → (history : D → Option History) (faults : D → Faults) (old : Option History) (parts : PartsValue) (s : StoreValue D) (world new final : WorldValue D) (turns : List ℕ) → IsStoreOpened old (history s.disk) s → ((disk : D) → IfTold (history disk) ReadsImage) → LogsShow → ArePartsOf [] 64 parts → HasNoTask s → LanesBegin D → WorldsBegin D → LanesEnd D
    → IsFreshWorld s parts (history s.disk) world → GoesOnBy turns new final (history new.store.disk) (history final.store.disk) (faults new.store.disk) (faults final.store.disk) → KeepsWorld new final (history new.store.disk) (history final.store.disk) (faults new.store.disk) (faults final.store.disk)
    → HaveReplies final.replies → AreIdle (lanes_of final.rows) → IsStore (history final.store.disk) final.store → length final.replies ≤ 100000 → SessionEnded history faults old world new final
session_finished {D} history faults old parts s world new final turns o reads show are unused begin world_begins end begun goes keeps replied idle later short =
    subst (λ (w : WorldValue D). SessionEnded history faults old w new final) (sym begun.2)
    (record {
      opened = o;
      reads = reads s.disk;
      reads_last = reads final.store.disk;
      show = show;
      fresh = are.rows;
      unturned = refl;
      none = no_replies parts are.requests;
      made_is = begun.1;
      begins = λ start shows. begins_from start [] 64 parts old (history s.disk) (faults s.disk) s o (world_begun s parts begun.0) world_begins (going start shows) are shows (λ fetch. absurd (let k : false ≡ true = fetch in cc k)) (begun.0, begun.1, refl);
      turns = turns;
      ends = goes;
      keeps = keeps;
      replied = replied;
      idle = idle;
      later = later;
      short = short;
      law = end;
    })
  where
    going : (start : Lists) → LogsShowLists s.map (indexes_of s.boxes) start → IsGoing start [] (beginning s.map o.store.entries) [] no_broken (unreplied []) (seen_in s (history s.disk) (faults s.disk)) s (history s.disk) (faults s.disk) parts.rows
    going start shows =
        begin start [] (beginning s.map o.store.entries) parts.rows s (history s.disk) (faults s.disk) (at_opening old (history s.disk) s o) (first_come old (history s.disk) (told_calls (history s.disk)) s o) unused o.running shows
        (λ settled. named_all_firm s (history s.disk) start o.store o.known o.running (reads s.disk) o.instances.only settled) are.rows (of_lanes [] 64 parts.rows are.many (All-nil (λ (asked : ℕ × Request). (0 < asked.0) × (asked.0 ≤ 64))))
        (let many = are.many in omega (arith, many)) (λ place lane name uid there. absurd (let k : None ≡ Some (lane, request.Fetch name uid) = there in cc k))

-- it is told of the disk that is handed back, and from its counts of faults as they were before the opening
pub session_over : {D : Type 0} → (history : D → Option History) (faults : D → Faults) (old : Option History) (final : WorldValue D) (disk : D) (first began : Faults) (left rest held later : Option (List ℕ)) (ended : Outcome) → disk ≡ final.store.disk → first ≡ began
    → OfSource left (λ octets. IsSessionDone octets rest held later old (history final.store.disk) first (faults final.store.disk) ended) → OfSource left (λ octets. IsSessionDone octets rest held later old (history disk) began (faults disk) ended)
session_over {D} history faults old final disk first began left rest held later ended is same done =
    subst (λ (d : D). OfSource left (λ octets. IsSessionDone octets rest held later old (history d) began (faults d) ended)) (sym is)
    (subst (λ (f : Faults). OfSource left (λ octets. IsSessionDone octets rest held later old (history final.store.disk) f (faults final.store.disk) ended)) same done)
