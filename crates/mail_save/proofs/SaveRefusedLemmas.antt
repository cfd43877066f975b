-- Events of a delivery that were refused, by the clause of a step.
use Rattle.mail_save.proofs.Common.{◌≡◌, ◌<◌, ◌+◌, ℕ, Bool, true, false, List, [], ◌∷◌, ◌⊎◌, Option, Some, None, refl, sym, ◌∙◌, ap, inl, inr, nat_lt, nat_le, is_none, is_some, slice_get, if◌then◌else◌, option_or, Highest, InstRow, Refusal, Reply, Request, Lists, no_numbers, EventPart, First}
use Rattle.mail_save.proofs.Common.{Compares, PlacesInstance, TakesFile, PlacesMessage, StoresRecord, GivesBack, RunEvent, Run, own_events, drawn_of, first_refusal, refused_where, part_checks, is_step, Around, next_part, FindsPlace, Seen, ShowsSeen, HasComeTo, HasNotBegun, Leads, step_calm}
use Rattle.mail_save.proofs.Common.{unstepped, StepsWithRoom, IsTakingFile, IsPlacingMessage, IsStoringMessage, IsLoweringCount}
use Rattle.std.specs.Prelude.{length}
use Rattle.mdbox_base.specs.Streams.{Rose}
use Rattle.mdbox_base.specs.declared.progress.Did.TheVariants as did
use Rattle.mdbox_base.specs.declared.replies.Refusal.TheVariants as refusal
use Rattle.mdbox_base.specs.declared.replies.Reply.TheVariants as reply
use Rattle.mdbox_base.specs.declared.requests.Request.TheVariants as request
use Rattle.mdbox_base.specs.declared.script.Half.TheVariants as half
use Rattle.journal.specs.Journal.{IsReplyOf}
use Rattle.journal.specs.Events.{behind_refused, has_memory, reads_octets, draws}
use Rattle.journal.specs.Found.{has_looked}
use Rattle.task_steps.specs.Step.{Stops}
use Rattle.task_steps.proofs.EventLaws.{CanRefuse, did_check, did_fall, did_forget, did_misread, did_stop, misread_answer, refuses, replied_so, stopped_answer}
use Rattle.task_steps.proofs.OneEventLemmas.{first_reply, never_more}
use Rattle.mail_save.proofs.SaveRunLemmas.{attaches_next, takes_next, places_next, stores_next, gives_back_next}
use Rattle.mail_save.proofs.SaveDidLemmas.{HasRun, StaysSo, refused_left}
use Rattle.mail_save.proofs.SaveFrontLemmas.{SeesAround, finds_place}

abbrev pub deliver : List ℕ → ℕ → List ℕ → Request
deliver name time octets = request.Deliver name time octets

-- ---- which parts can be refused

-- a part behind whose refusal the request ends
pub record EndsRefused (name : List ℕ) (time : ℕ) (octets : List ℕ) (part : EventPart) : Type 0 where
  pub ends : (why : Refusal) → behind_refused (deliver name time octets) part why ≡ None

pub ends_first : (name : List ℕ) (time : ℕ) (octets : List ℕ) → EndsRefused name time octets First
ends_first name time octets = record { ends = λ why. refl }

pub ends_taking : (name : List ℕ) (time : ℕ) (octets : List ℕ) (new : Bool) → EndsRefused name time octets (TakesFile new)
ends_taking name time octets new = record { ends = λ why. refl }

pub ends_comparing : (name : List ℕ) (time : ℕ) (octets : List ℕ) → EndsRefused name time octets Compares
ends_comparing name time octets = record { ends = λ why. refl }

pub ends_placing_instance : (name : List ℕ) (time : ℕ) (octets : List ℕ) → EndsRefused name time octets PlacesInstance
ends_placing_instance name time octets = record { ends = λ why. refl }

pub ends_placing : (name : List ℕ) (time : ℕ) (octets : List ℕ) → EndsRefused name time octets PlacesMessage
ends_placing name time octets = record { ends = λ why. refl }

pub ends_storing : (name : List ℕ) (time : ℕ) (octets : List ℕ) → EndsRefused name time octets StoresRecord
ends_storing name time octets = record { ends = λ why. refl }

pub ends_giving : (name : List ℕ) (time : ℕ) (octets : List ℕ) → EndsRefused name time octets GivesBack
ends_giving name time octets = record { ends = λ why. refl }

pub refuses_part : (around : Around) (run : Run) (place : ℕ) (name : List ℕ) (time : ℕ) (octets : List ℕ) (part : EventPart) (why : Refusal) (drew : Highest) (seen : Seen) → SeesAround octets around seen → (has_looked (Some why) ≡ true → FindsPlace run around) → EndsRefused name time octets part
    → next_part around run (deliver name time octets) (own_events place run) ≡ Some part → CanRefuse around run place (deliver name time octets) part why (Some (reply.Refused why)) drew
refuses_part around run place name time octets part why drew seen sees found ends next = refuses around run place (deliver name time octets) part why drew (λ lane calls. sees.parts) (λ lane calls. found) next (ends.ends why)

-- ---- at any stage

-- where the next part is known by the stage, and nothing was answered
pub record IsNextAt (Stood : Run → ℕ → List Reply → Type 0) (around : Around) (q : Request) (part : EventPart) : Type 0 where
  pub next : (run : Run) (place : ℕ) (said : List Reply) → Stood run place said → next_part around run q (own_events place run) ≡ Some part

pub stopped_save : (around after : Around) (name : List ℕ) (time : ℕ) (octets : List ℕ) (part : EventPart) (Stood Stands : Run → ℕ → List Reply → Type 0) (seen : Seen) → SeesAround octets around seen → EndsRefused name time octets part → IsNextAt Stood around (deliver name time octets) part → seen.stopped ≡ true
    → StepsWithRoom Stood Stands around after (deliver name time octets) seen seen did.Quiet stopped_answer
stopped_save around after name time octets part Stood Stands seen sees ends at stopped = λ run lane place said lists come shows stood. (
  (did_stop around after run lane place said (deliver name time octets) part lists seen (refuses_part around run place name time octets part refusal.Stopped no_numbers seen sees (λ looked. absurd (unstepped looked)) ends (at.next run place said stood.0)) come shows stopped).so,
  λ e. absurd (never_more _ e),
)

pub fallen_save : (around after : Around) (name : List ℕ) (time : ℕ) (octets : List ℕ) (part : EventPart) (Stood Stands : Run → ℕ → List Reply → Type 0) (drew : Highest) (old new : Seen) → SeesAround octets around old → EndsRefused name time octets part → IsNextAt Stood around (deliver name time octets) part
    → ((run : Run) (event : RunEvent) → (drew ≡ no_numbers) ⊎ (drew ≡ draws run event (deliver name time octets) part)) → StaysSo drew old new → old.stopped ≡ false → new.stopped ≡ true → Rose old.faults.changes new.faults.changes → ((lists : Lists) → Stops lists lists old new)
    → StepsWithRoom Stood Stands around after (deliver name time octets) old new did.Failed stopped_answer
fallen_save around after name time octets part Stood Stands drew old new sees ends at drawn stays ran stopped rose stops = λ run lane place said lists come shows stood. (
  (did_fall around after run lane place said (deliver name time octets) part lists old new did.Failed drew (refuses_part around run place name time octets part refusal.Stopped drew old sees (λ looked. absurd (unstepped looked)) ends (at.next run place said stood.0))
      (refused_left run lane place part refusal.Stopped stopped_answer drew lists old new come stays shows) ran stopped rose (drawn run) tt (record { refused = refl; unanswered = refl; ran = ran; stopped = stopped }, stops lists)).so,
  λ e. absurd (never_more _ e),
)

-- out of memory, before anything was answered
pub forgotten_save : (around after : Around) (name : List ℕ) (time : ℕ) (octets : List ℕ) (part : EventPart) (Stood Stands : Run → ℕ → List Reply → Type 0) (old new : Seen) → SeesAround octets around old → EndsRefused name time octets part → IsNextAt Stood around (deliver name time octets) part
    → has_memory part (deliver name time octets) ≡ false → ((run : Run) (place : ℕ) (said : List Reply) → Stood run place said → said ≡ []) → HasRun old new → StaysSo no_numbers old new
    → StepsWithRoom Stood Stands around after (deliver name time octets) old new did.Quiet (Some (reply.Refused refusal.NoMemory))
forgotten_save around after name time octets part Stood Stands old new sees ends at memory silent h stays = λ run lane place said lists come shows stood. (
  (did_forget around after run lane place said (deliver name time octets) part lists old new (Some (reply.Refused refusal.NoMemory)) no_numbers (refuses_part around run place name time octets part refusal.NoMemory no_numbers old sees (λ looked. absurd (unstepped looked)) ends (at.next run place said stood.0))
      (refused_left run lane place part refusal.NoMemory (Some (reply.Refused refusal.NoMemory)) no_numbers lists old new come stays shows) h.ran h.runs (h.leads lists) h.quiet memory (λ event. inl refl) (replied_so (deliver name time octets) said (reply.Refused refusal.NoMemory) (silent run place said stood.0))).so,
  λ e. absurd (never_more _ e),
)

-- a read failed
pub unread_save : (around after : Around) (name : List ℕ) (time : ℕ) (octets : List ℕ) (part : EventPart) (Stood Stands : Run → ℕ → List Reply → Type 0) (old new : Seen) → SeesAround octets around old → EndsRefused name time octets part → IsNextAt Stood around (deliver name time octets) part
    → reads_octets part (deliver name time octets) ≡ true → old.stopped ≡ false → new.stopped ≡ false → ((lists : Lists) → Leads lists lists old new) → StaysSo no_numbers old new → Rose old.faults.reads new.faults.reads
    → StepsWithRoom Stood Stands around after (deliver name time octets) old new did.Quiet (Some (reply.Refused refusal.ReadFault))
unread_save around after name time octets part Stood Stands old new sees ends at reads ran runs leads stays rose = λ run lane place said lists come shows stood. (
  (did_misread around after run lane place said (deliver name time octets) part lists old new (refuses_part around run place name time octets part refusal.ReadFault no_numbers old sees (λ looked. absurd (unstepped looked)) ends (at.next run place said stood.0))
      (refused_left run lane place part refusal.ReadFault misread_answer no_numbers lists old new come stays shows) ran runs (leads lists) reads rose).so,
  λ e. absurd (never_more _ e),
)

pub step_replied : (name : List ℕ) (time : ℕ) (octets : List ℕ) (why : Refusal) → is_step why ≡ true → IsReplyOf (deliver name time octets) (reply.Refused why ∷ []) (reply.Refused why)
step_replied name time octets refusal.NoMailbox s = refl
step_replied name time octets refusal.Inbox s = refl
step_replied name time octets refusal.Exists s = refl
step_replied name time octets refusal.NoMessage s = refl
step_replied name time octets refusal.Sealed s = refl
step_replied name time octets (refusal.TooManyCopies n) s = refl
step_replied name time octets (refusal.MailboxFull n) s = refl
step_replied name time octets (refusal.TooManyMailboxes n) s = refl
step_replied name time octets (refusal.StoreFull n) s = refl
step_replied name time octets refusal.NoMemory s = absurd (cc s)
step_replied name time octets refusal.ReadFault s = absurd (cc s)
step_replied name time octets refusal.Stopped s = absurd (cc s)
step_replied name time octets (refusal.Damaged file offset) s = absurd (cc s)

-- a check refused it, before anything was answered
pub checked_save : (around after : Around) (name : List ℕ) (time : ℕ) (octets : List ℕ) (part : EventPart) (Stood Stands : Run → ℕ → List Reply → Type 0) (why : Refusal) (old new : Seen) → SeesAround octets around old → EndsRefused name time octets part → IsNextAt Stood around (deliver name time octets) part
    → ((run : Run) (place : ℕ) (said : List Reply) → Stood run place said → said ≡ []) → is_step why ≡ true → ((run : Run) (lists : Lists) (event : RunEvent) → HasComeTo run old → ShowsSeen old lists → first_refusal run lists (part_checks run event (deliver name time octets) part) ≡ Some why)
    → HasRun old new → StaysSo no_numbers old new → StepsWithRoom Stood Stands around after (deliver name time octets) old new (did.Step half.Whole) (Some (reply.Refused why))
checked_save around after name time octets part Stood Stands why old new sees ends at silent step refuses h stays = λ run lane place said lists come shows stood.
    let q = deliver name time octets in
    let none = silent run place said stood.0 in (
      (did_check around after run lane place said q part lists old new why (Some (reply.Refused why)) half.Whole
          (refuses_part around run place name time octets part why no_numbers old sees (λ looked. finds_place octets around run old sees come h.ran (stood.1 h.ran)) ends (at.next run place said stood.0))
          (refused_left run lane place part why (Some (reply.Refused why)) no_numbers lists old new come stays shows) h.ran h.runs (h.leads lists) h.quiet step refl
          (ap (λ (s : List Reply). slice_get (half.Whole ∷ []) (length s)) none) (λ event. refuses run lists event come shows) (first_reply q said (Some (reply.Refused why)) (reply.Refused why) none (step_replied name time octets why step))).so,
      λ e. absurd (never_more _ e),
    )

-- ---- the stages, and their next parts

pub first_at : (around : Around) (q : Request) → IsNextAt HasNotBegun around q First
first_at around q = record { next = λ run place said stood. ap (λ (es : List RunEvent). next_part around run q es) stood.0 }

pub taking_at : (around : Around) (name : List ℕ) (time : ℕ) (octets : List ℕ) (rows : List InstRow) → length rows ≡ around.parts → IsNextAt (IsTakingFile rows) around (deliver name time octets) (TakesFile (is_none around.room))
taking_at around name time octets rows all = record { next = λ run place said stood. takes_next around run name time octets rows place all stood.0 }

pub comparing_at : (around : Around) (name : List ℕ) (time : ℕ) (octets : List ℕ) (rows : List InstRow) (candidate : InstRow) → length rows < around.parts → around.candidate ≡ Some candidate → IsNextAt (IsTakingFile rows) around (deliver name time octets) Compares
comparing_at around name time octets rows candidate left is = record { next = λ run place said stood. attaches_next around run name time octets rows place left stood.0 ∙ ap (λ (o : Option InstRow). if is_some o then Some Compares else Some PlacesInstance) is }

pub placing_instance_at : (around : Around) (name : List ℕ) (time : ℕ) (octets : List ℕ) (rows : List InstRow) → length rows < around.parts → around.candidate ≡ None → IsNextAt (IsTakingFile rows) around (deliver name time octets) PlacesInstance
placing_instance_at around name time octets rows left is = record { next = λ run place said stood. attaches_next around run name time octets rows place left stood.0 ∙ ap (λ (o : Option InstRow). if is_some o then Some Compares else Some PlacesInstance) is }

pub placing_at : (around : Around) (name : List ℕ) (time : ℕ) (octets : List ℕ) (rows : List InstRow) (file : ℕ) → IsNextAt (IsPlacingMessage rows file) around (deliver name time octets) PlacesMessage
placing_at around name time octets rows file = record { next = λ run place said stood. places_next around run name time octets rows file (own_events place run) stood.0 }

pub storing_at : (around : Around) (name : List ℕ) (time : ℕ) (octets : List ℕ) (rows : List InstRow) (file : ℕ) (guid : List ℕ) → IsNextAt (IsStoringMessage rows file guid) around (deliver name time octets) StoresRecord
storing_at around name time octets rows file guid = record { next = λ run place said stood. stores_next around run name time octets rows file guid (own_events place run) stood.0 }

pub lowering_why : (why : Refusal) → (is_step why ≡ true) ⊎ (why ≡ refusal.NoMemory) → why ≡ refusal.Stopped → ⊥
lowering_why why (inl s) e = step_calm why refusal.Stopped s refl e
lowering_why why (inr m) e = let k : refusal.NoMemory ≡ refusal.Stopped = sym m ∙ e in cc k

pub lowering_at : (around : Around) (name : List ℕ) (time : ℕ) (octets : List ℕ) (uid : ℕ) (why : Refusal) → IsNextAt (IsLoweringCount uid why) around (deliver name time octets) GivesBack
lowering_at around name time octets uid why = record { next = λ run place said stood. gives_back_next around run name time octets uid why (own_events place run) (lowering_why why stood.2) stood.0 }

-- ---- checks of numbers

all_taken : (drawn : ℕ) → drawn ≡ 4294967294 → nat_lt 4294967294 (drawn + 1) ≡ true
all_taken drawn e = ap (λ (n : ℕ). nat_lt 4294967294 (n + 1)) e

-- no file has room, and all numbers are used up
pub full_files : (name : List ℕ) (time : ℕ) (octets : List ℕ) (around : Around) (seen : Seen) → around.room ≡ None → seen.drawn.file ≡ 4294967294
    → (run : Run) (lists : Lists) (event : RunEvent) → HasComeTo run seen → ShowsSeen seen lists → first_refusal run lists (part_checks run event (deliver name time octets) (TakesFile (is_none around.room))) ≡ Some (refusal.StoreFull 4294967294)
full_files name time octets around seen room full run lists event come shows =
    ap (λ (r : Option ℕ). first_refusal run lists (part_checks run event (deliver name time octets) (TakesFile (is_none r)))) room
    ∙ ap (λ (b : Bool). option_or (refused_where b (refusal.StoreFull 4294967294)) None) (all_taken (drawn_of run).file (ap (λ (d : Highest). d.file) come.come.drawn_is ∙ full))

-- the map uids are used up
pub full_uids : (name : List ℕ) (time : ℕ) (octets : List ℕ) (seen : Seen) → nat_le 4294967294 seen.drawn.map ≡ true
    → (run : Run) (lists : Lists) (event : RunEvent) → HasComeTo run seen → ShowsSeen seen lists → first_refusal run lists (part_checks run event (deliver name time octets) StoresRecord) ≡ Some (refusal.StoreFull 4294967294)
full_uids name time octets seen full run lists event come shows =
    ap (λ (b : Bool). option_or (refused_where b (refusal.StoreFull 4294967294)) None) (ap (λ (d : Highest). nat_le 4294967294 d.map) come.come.drawn_is ∙ full)

-- the running numbers of instances are used up
pub full_instances : (name : List ℕ) (time : ℕ) (octets : List ℕ) (seen : Seen) → nat_le 4294967294 seen.drawn.instance ≡ true
    → (run : Run) (lists : Lists) (event : RunEvent) → HasComeTo run seen → ShowsSeen seen lists → first_refusal run lists (part_checks run event (deliver name time octets) PlacesInstance) ≡ Some (refusal.StoreFull 4294967294)
full_instances name time octets seen full run lists event come shows =
    ap (λ (b : Bool). option_or (refused_where b (refusal.StoreFull 4294967294)) None) (ap (λ (d : Highest). nat_le 4294967294 d.instance) come.come.drawn_is ∙ full)
