-- How a delivery ends: by what was read, and by its request alone.
use Rattle.std.specs.Prelude.{◌≡◌, ◌≤◌, ◌<◌, ◌⊎◌, ℕ, false, List, [], ◌∷◌, length, Option, Some, None}
use Rattle.std.proofs.Common.{refl, sym, ◌∙◌, ap, subst, inl, inr, arith}
use Rattle.attach_detach.specs.Prepared.{IsPrepared}
use Rattle.attach_detach.specs.declared.message.Prepared.{Prepared}
use Rattle.disk_model.specs.Disk.{Files, History, Faults}
use Rattle.disk_model.proofs.MomentLemmas.{each_image-map}
use Rattle.mdbox_base.specs.Streams.{Rose, Refused}
use Rattle.mdbox_base.specs.declared.entries.Highest.{Highest}
use Rattle.mdbox_base.specs.declared.entries.InstRow.{InstRow}
use Rattle.mdbox_base.specs.declared.ids.Guid.{Guid}
use Rattle.mdbox_base.specs.declared.ids.MapUid.{MapUid}
use Rattle.mdbox_base.specs.declared.ids.Uid.{Uid}
use Rattle.mdbox_base.specs.declared.replies.Refusal.{Refusal}
use Rattle.mdbox_base.specs.declared.replies.Refusal.TheVariants as refusal
use Rattle.mdbox_base.specs.declared.replies.Reply.{Reply}
use Rattle.mdbox_base.specs.declared.replies.Reply.TheVariants as reply
use Rattle.mdbox_base.specs.declared.requests.Request.TheVariants as request
use Rattle.mdbox_base.specs.declared.stream.InputError.{InputError}
use Rattle.mdbox_base.specs.declared.stream.InputError.TheVariants as read
use Rattle.model_lists.specs.Lists.{Lists}
use Rattle.model_meaning.specs.MapMeaning.{MapMeaning}
use Rattle.model_store.specs.Safe.{Safe}
use Rattle.model_store.specs.Settled.{IsSettledFor}
use Rattle.task_steps.proofs.OneEventLemmas.{not_true}
use Rattle.storage_files.specs.Files.{FilesValue}
use Rattle.store_core.specs.Running.{IsStore}
use Rattle.store_core.specs.Value.{StoreValue, indexes_of, list_named}
use Rattle.saved_message.specs.Region.{guid_of_place, written_region}
use Rattle.saved_message.specs.Saved.{ids_in}
use Rattle.store_open.specs.Opened.{IsOpenedAs}
use Rattle.request_text.specs.Outcomes.{status_of}
use Rattle.request_text.specs.declared.outcome.InputRefusal.{InputRefusal}
use Rattle.request_text.specs.declared.outcome.InputRefusal.TheVariants as input
use Rattle.request_text.specs.declared.outcome.StoreRefusal.{StoreRefusal}
use Rattle.request_text.specs.declared.outcome.Outcome.{Outcome}
use Rattle.request_text.specs.declared.outcome.Outcome.TheVariants as outcome
use Rattle.mdbox_top.specs.Alone.{IsDoneAlone}
use Rattle.script_run.specs.One.{IsAlongOne, OpensUnchanged, alone, lists_told, saved_lists}
use Rattle.mdbox_top.proofs.FetchedLemmas.{SafeAreShown, fetch_done}
use Rattle.tasks_alone.proofs.SaveLemmas.{IsAlike, IsSaveTold, SavesAlone, StandsSave, StoresAlone, begun_save, keeps_save}
use Rattle.mdbox_top.proofs.MakeLemmas.{done_alone}
use Rattle.mdbox_top.proofs.OneStepLemmas.{stopped_one, unfailed_by}
use Rattle.mdbox_top.proofs.PurgeLemmas.{purge_done}
use Rattle.mdbox_top.proofs.ResyncLemmas.{alone_faults, resync_done, served_some}
use Rattle.script_run.proofs.AloneLemmas.{may_read}
use Rattle.script_run.proofs.DoneLemmas.{settled_safe}
use Rattle.script_run.proofs.ReachedSaveLemmas.{reached_saved}
use Rattle.script_run.proofs.LeftLemmas.{told_left}
use Rattle.script_run.proofs.ToldLemmas.{shown_begins}
use Rattle.script_run.proofs.WorkedLemmas.{worked_told}
use Rattle.script_run.specs.LeftOpen.{IsRequestDone}
use Rattle.script_run.specs.Worked.{IsWorkedOut}
use Rattle.attach_detach.proofs.ApartLemmas.{taken_apart}
use Rattle.lanes.specs.Worlds.{HasItsMessage}
use Rattle.mdbox_base.specs.declared.requests.Request.{Request}
use Rattle.mdbox_base.specs.declared.script.JournalEntry.{JournalEntry}
use Rattle.task_steps.specs.Serves.{IsReached}
use Rattle.mdbox_top.specs.DeliverRun.{OpensAlike, OpensSaved, IsDeliverReply, AreSaved, SaveMoments, unread_outcome, IsUnread, DeliverOutcome, DeliverRests, DeliverStatus}
use Rattle.tasks_alone.specs.DeliveryAlone.{undelivered_cause, region_length, HasRecordLeft, HasRecordMore, IsDeliverAnswer}
use Rattle.mdbox_top.specs.InputRun.{IsOneOf}
use Rattle.tasks_alone.specs.SavedMail.{LeavesDelivery, WroteMail}
use Rattle.script_run.proofs.OneTaskLemmas.{one_refusal}
use Rattle.mdbox_top.proofs.InputLemmas.{long_told}
use Rattle.tasks_alone.proofs.KnownFirstLemmas.{named_there}
use Rattle.mdbox_top.proofs.RequestLemmas.{request_status, request_used, request_input, request_damage}
use Rattle.script_run.proofs.ShownLemmas.{ListsAnswer, opens_again}
use Rattle.tasks_alone.proofs.WroteLemmas.{wrote_message}

-- ---- the end of a run

pub deliver_input : {D : Type 0} → (name : List ℕ) (left : Option (List ℕ)) (told : Option ℕ) (h k : Option (List ℕ)) (old new : Option History) (f g : Faults) (why : InputRefusal) → DeliverOutcome D name left told h k old new f g (outcome.InputRefused why) → DeliverOutcome D name left told h k old new f g outcome.NoMemory
deliver_input name left told h k old new f g why (inl u) = inl (tt, u.1, u.2, u.3)
deliver_input name left told h k old new f g why (inr d) = absurd (request_input (IsDeliverReply name d.1 d.0) (request.Deliver name d.1 d.0) h k old new f g why d.4.ends)

not_damage : IsOneOf (6 ∷ 8 ∷ []) 3 → ⊥
not_damage (inl e) = omega (arith, e)
not_damage (inr (inl e)) = omega (arith, e)
not_damage (inr (inr e)) = e

pub deliver_damage : {D : Type 0} → (name : List ℕ) (left : Option (List ℕ)) (told : Option ℕ) (h k : Option (List ℕ)) (old new : Option History) (f g : Faults) (s : StoreRefusal) → DeliverOutcome D name left told h k old new f g (outcome.StoreRefused s) → DeliverOutcome D name left told h k old new f g outcome.NoMemory
deliver_damage name left told h k old new f g s (inl u) = absurd u.0
deliver_damage name left told h k old new f g s (inr d) = inr (
  d.0,
  d.1,
  d.2,
  d.3,
  record {
    ends = request_damage (IsDeliverReply name d.1 d.0) (request.Deliver name d.1 d.0) h k old new f g s d.4.ends;
    moments = d.4.moments;
    rests = λ none. d.4.rests (λ failed. absurd (not_damage failed));
  },
)

pub deliver_used : {D : Type 0} → (name : List ℕ) (left : Option (List ℕ)) (told : Option ℕ) (h k : Option (List ℕ)) (old new : Option History) (f g : Faults) → DeliverOutcome D name left told h k old new f g outcome.Usage → ⊥
deliver_used name left told h k old new f g (inl u) = u.0
deliver_used name left told h k old new f g (inr d) = request_used (IsDeliverReply name d.1 d.0) (request.Deliver name d.1 d.0) h k old new f g d.4.ends

-- a message that wasn't read
unread_number : (all : List ℕ) (o : Outcome) → IsUnread (Some all) o → IsOneOf (4 ∷ 5 ∷ 7 ∷ []) (status_of o)
unread_number all (outcome.InputRefused why) u = inl refl
unread_number all outcome.NoMemory u = inr (inl refl)
unread_number all outcome.ReadFault u = inr (inr (inl refl))
unread_number all outcome.Done u = absurd u
unread_number all outcome.No u = absurd u
unread_number all outcome.Usage u = absurd u
unread_number all outcome.SessionFull u = absurd u
unread_number all outcome.DiskFault u = absurd u
unread_number all outcome.WriteFault u = absurd u
unread_number all (outcome.StoreRefused why) u = absurd u

pub unread_apart : (left : Option (List ℕ)) (o : Outcome) → IsUnread left o → (o ≡ outcome.DiskFault) ⊎ (o ≡ outcome.WriteFault) → ⊥
unread_apart left o u (inl e) = subst (IsUnread left) e u
unread_apart left o u (inr e) = subst (IsUnread left) e u

-- an input that isn't too long isn't refused
short_number : (all : List ℕ) (o : Outcome) → length all ≤ 67108864 → IsUnread (Some all) o → IsOneOf (0 ∷ 1 ∷ 5 ∷ 6 ∷ 7 ∷ 8 ∷ []) (status_of o)
short_number all (outcome.InputRefused (input.TooLong limit)) short u = absurd (let long = subst (λ (text : List ℕ). 67108864 < length text) (sym u.1.1) u.1.2 in omega (arith, short, long))
short_number all (outcome.InputRefused other) short u = absurd u
short_number all outcome.NoMemory short u = inr (inr (inl refl))
short_number all outcome.ReadFault short u = inr (inr (inr (inr (inl refl))))
short_number all outcome.Done short u = absurd u
short_number all outcome.No short u = absurd u
short_number all outcome.Usage short u = absurd u
short_number all outcome.SessionFull short u = absurd u
short_number all outcome.DiskFault short u = absurd u
short_number all outcome.WriteFault short u = absurd u
short_number all (outcome.StoreRefused why) short u = absurd u

one_more : (n : ℕ) → IsOneOf (0 ∷ 1 ∷ 5 ∷ 6 ∷ 8 ∷ []) n → IsOneOf (0 ∷ 1 ∷ 5 ∷ 6 ∷ 7 ∷ 8 ∷ []) n
one_more n (inl a) = inl a
one_more n (inr (inl a)) = inr (inl a)
one_more n (inr (inr (inl a))) = inr (inr (inl a))
one_more n (inr (inr (inr (inl a)))) = inr (inr (inr (inl a)))
one_more n (inr (inr (inr (inr (inl a))))) = inr (inr (inr (inr (inr (inl a)))))
one_more n (inr (inr (inr (inr (inr a))))) = absurd a

pub deliver_status : {D : Type 0} → (name : List ℕ) (left : Option (List ℕ)) (told : Option ℕ) (h k : Option (List ℕ)) (old new : Option History) (f g : Faults) (o : Outcome) → DeliverOutcome D name left told h k old new f g o → DeliverStatus left old (status_of o)
deliver_status name None told h k old new f g o e = tt
deliver_status name (Some all) told h k old new f g o (inl u) = (λ long. unread_number all o u.0, λ short lists s. short_number all o short u.0)
deliver_status name (Some all) told h k old new f g o (inr d) = (
  λ long. absurd (let short = subst (λ (text : List ℕ). length text ≤ 67108864) (sym d.2.0) d.2.1 in omega (arith, long, short)),
  λ short lists s. one_more (status_of o) (request_status (IsDeliverReply name d.1 d.0) (request.Deliver name d.1 d.0) h k old new f g o d.4.ends lists s),
)

pub deliver_rests_as : (name : List ℕ) (left : Option (List ℕ)) (told : Option ℕ) (F G : Type 0) (f g : Faults) (old new : Option History) → (F → G) → DeliverRests name left told F f g old new → DeliverRests name left told G f g old new
deliver_rests_as name left told F G f g old new h (inl same) = inl same
deliver_rests_as name left told F G f g old new h (inr d) = inr (d.0, d.1, d.2, d.3, λ none. d.4 (λ failed. none (h failed)))

-- ---- what was read

pub unread_is : (old new : Option (List ℕ)) (faults later : ℕ) (e : InputError) → Refused 67108864 old new faults later e → IsUnread old (unread_outcome e)
unread_is old new faults later (read.TooLong limit) r =
    let l = long_told old new r.1.0 67108864 r.1.2 r.1.1 in
    (r.0, (l.0, l.1, l.2))
unread_is old new faults later read.Fault r = tt
unread_is old new faults later read.NoMemory r = tt

pub unread_cause : (old new : Option (List ℕ)) (faults later : ℕ) (e : InputError) → Refused 67108864 old new faults later e → unread_outcome e ≡ outcome.ReadFault → Rose faults later
unread_cause old new faults later (read.TooLong limit) r same = absurd (cc same)
unread_cause old new faults later read.Fault r same = r.0
unread_cause old new faults later read.NoMemory r same = absurd (cc same)

pub unread_quiet : (e : InputError) (P : Type 0) → ((e ≡ read.Fault → ⊥) → P) → (unread_outcome e ≡ outcome.ReadFault → ⊥) → P
unread_quiet (read.TooLong limit) P h other = h (λ same. cc same)
unread_quiet read.Fault P h other = absurd (other refl)
unread_quiet read.NoMemory P h other = h (λ same. cc same)

-- ---- a delivery alone, by the script that it is

abbrev pub delivering : List ℕ → ℕ → List ℕ → Request
delivering name time octets = request.Deliver name time octets

-- It was done alone, its lanes did this, and its message has this detached form.
pub record IsDelivered (D : Type 0) (name : List ℕ) (time : ℕ) (octets : List ℕ) (prepared : Prepared) (given : Reply) (old new : Option History) (began now : Faults) : Type 0 where
  pub done : IsRequestDone (delivering name time octets) given old new began now
  pub entries : List JournalEntry
  pub worked : IsWorkedOut D (alone (delivering name time octets)) 1 (Some given ∷ []) entries old new began now
  pub form : IsPrepared octets prepared

deliver_told : {D : Type 0} → (name : List ℕ) (time : ℕ) (octets : List ℕ) (prepared : Prepared) (given : Reply) (old new : Option History) (began now : Faults) → (w : IsDelivered D name time octets prepared given old new began now)
    → IsSaveTold name time octets prepared w.worked.store w.worked.opened given w.worked.last.store new
deliver_told name time octets prepared given old new began now w =
    let k = w.worked in
    worked_told (StandsSave name time octets prepared k.store k.opened) (IsSaveTold name time octets prepared k.store k.opened) (delivering name time octets) given w.entries old new began now k
    (keeps_save name time octets prepared k.store k.opened w.form) (begun_save name time octets prepared k.store k.opened k.running)

deliver_saves : {D : Type 0} → (name : List ℕ) (time : ℕ) (octets : List ℕ) (prepared : Prepared) (given : Reply) (old new : Option History) (began now : Faults) → (w : IsDelivered D name time octets prepared given old new began now) → SavesAlone name time octets prepared w.worked.store w.worked.last.store w.worked.opened new given
deliver_saves name time octets prepared given old new began now w = (deliver_told name time octets prepared given old new began now w).saves w.worked.later_known

deliver_runs : {D : Type 0} → (name : List ℕ) (time : ℕ) (octets : List ℕ) (prepared : Prepared) (given : Reply) (old new : Option History) (began now : Faults) → (w : IsDelivered D name time octets prepared given old new began now) → (given ≡ reply.Refused refusal.Stopped → ⊥) → w.worked.last.store.stopped ≡ false
deliver_runs name time octets prepared given old new began now w running = not_true w.worked.last.store.stopped (λ e. running ((deliver_told name time octets prepared given old new began now w).halts e))

-- ---- the lists that it leaves

read_or_not : (given : Reply) → (given ≡ reply.Refused refusal.ReadFault) ⊎ (given ≡ reply.Refused refusal.ReadFault → ⊥)
read_or_not (reply.Refused refusal.ReadFault) = inl refl
read_or_not other = inr (λ e. cc e)

deliver_settles : {D : Type 0} → (name : List ℕ) (time : ℕ) (octets : List ℕ) (prepared : Prepared) (given : Reply) (old new : Option History) (began now : Faults) → IsDelivered D name time octets prepared given old new began now → (given ≡ reply.Refused refusal.Stopped → ⊥) → (lists : Lists) → IsSettledFor lists old
    → IsSettledFor (lists_told (request.Deliver name time octets) given lists) new
deliver_settles name time octets prepared given old new began now w running lists at = elim (read_or_not given) [
  | inl read ↦ subst (λ (r : Reply). IsSettledFor (lists_told (request.Deliver name time octets) r lists) new) (sym read) ((deliver_saves name time octets prepared given old new began now w).settled read lists (w.worked.settled_again lists at))
  | inr unread ↦
      let shows = w.done.done.shown lists (settled_safe lists old at) in
      let may = may_read (delivering name time octets) refl lists old in
      let s = w.done.done.serves lists shows may in
      let shown = shown_begins (alone (delivering name time octets)) (given ∷ []) w.done.entries old new began now w.done.done lists shows may in
      subst (λ (ls : Lists). IsSettledFor ls new) (told_left lists (delivering name time octets) s.run s.journal s.broken given began now _ s.m s.drawn _ w.done.done.meanings shown s.served (unfailed_by given unread running)) (s.settled (stopped_one given running) at)
]

along_save : (name : List ℕ) (time : ℕ) (octets : List ℕ) (answer : Reply) (lists some : Lists) → some ≡ lists_told (request.Deliver name time octets) answer lists → (some ≡ lists) ⊎ AreSaved name time octets lists some
along_save name time octets (reply.Saved uid guid) lists some is = inr (guid, is)
along_save name time octets other lists some is = inl is

one_safe : (name : List ℕ) (time : ℕ) (octets : List ℕ) (lists some : Lists) (image : Files) → IsAlongOne (request.Deliver name time octets) lists some → Safe image some → Safe image lists ⊎ ((other : Lists) × AreSaved name time octets lists other × Safe image other)
one_safe name time octets lists some image along s = elim (along_save name time octets along.0 lists some along.1) [
  | inl same ↦ inl (subst (λ (ls : Lists). Safe image ls) same s)
  | inr saved ↦ inr (some, saved, s)
]

deliver_leaves : (name : List ℕ) (time : ℕ) (octets : List ℕ) (given : Reply) (old new : Option History) (began now : Faults) → IsRequestDone (delivering name time octets) given old new began now → SaveMoments name time octets old new
deliver_leaves name time octets given old new began now w = λ lists at.
    let s = w.done.serves lists (w.done.shown lists (settled_safe lists old at)) (may_read (delivering name time octets) refl lists old) in
    each_image-map (IsReached lists s.run s.journal s.broken) (λ _ image. Safe image lists ⊎ ((some : Lists) × AreSaved name time octets lists some × Safe image some)) old new
    (λ moment image is. one_safe name time octets lists is.0 image (reached_saved name time octets lists s.run s.journal s.broken (Some given ∷ []) began now _ s.m s.drawn _ s.served moment is.0 is.1) is.2) (s.crash at)

by_reply : (name : List ℕ) (time : ℕ) (octets : List ℕ) (given : Reply) (lists : Lists) (new : Option History) → IsSettledFor (lists_told (request.Deliver name time octets) given lists) new → IsSettledFor lists new ⊎ ((some : Lists) × AreSaved name time octets lists some × IsSettledFor some new)
by_reply name time octets (reply.Saved uid guid) lists new s = inr (saved_lists name time octets guid lists, (guid, refl), s)
by_reply name time octets other lists new s = inl s

-- ---- what it replies

saved_runs : (given : Reply) (uid : Uid) (guid : Guid) → given ≡ reply.Saved uid guid → given ≡ reply.Refused refusal.Stopped → ⊥
saved_runs given uid guid d s = let k : reply.Saved uid guid ≡ reply.Refused refusal.Stopped = sym d ∙ s in cc k

refused_runs : (given : Reply) (why : Refusal) → given ≡ reply.Refused why → (why ≡ refusal.Stopped → ⊥) → given ≡ reply.Refused refusal.Stopped → ⊥
refused_runs given why d running s = running (one_refusal why refusal.Stopped (sym d ∙ s))

record_left : (name : List ℕ) (time : ℕ) (prepared : Prepared) (a b : Highest) (m map : MapMeaning) (files : FilesValue) → a ≡ b → (map ≡ m) ⊎ HasRecordLeft name time prepared a.map m files map → (map ≡ m) ⊎ HasRecordLeft name time prepared b.map m files map
record_left name time prepared a b m map files same left = subst (λ (h : Highest). (map ≡ m) ⊎ HasRecordLeft name time prepared h.map m files map) same left

opens_alike : {D : Type 0} → (name : List ℕ) (time : ℕ) (prepared : Prepared) (new : Option History) (s t : StoreValue D) → IsStore new t → t.stopped ≡ false → s.drawn ≡ s.map.highest → IsAlike s t → (t.map ≡ s.map) ⊎ HasRecordLeft name time prepared s.drawn.map s.map s.files t.map
    → OpensAlike name time prepared s.map (indexes_of s.boxes) s.files new
opens_alike name time prepared new s t k runs drawn b left = record {
  map = t.map;
  opened = subst (λ ms. IsOpenedAs new t.map ms) b.indexes (opens_again new t k runs);
  mailboxes = b.mailboxes;
  left = record_left name time prepared s.drawn s.map.highest s.map t.map s.files drawn left;
}

opens_saved : {D : Type 0} → (name : List ℕ) (time : ℕ) (octets : List ℕ) (prepared : Prepared) (given : Reply) (old new : Option History) (began now : Faults) → (w : IsDelivered D name time octets prepared given old new began now) → (uid : Uid) (guid : Guid) → given ≡ reply.Saved uid guid
    → OpensSaved name time octets prepared guid w.worked.store.map (indexes_of w.worked.store.boxes) w.worked.store.files old new
opens_saved name time octets prepared given old new began now w uid guid e =
    let k = w.worked in
    let s = k.store in
    let t = k.last.store in
    let saves = deliver_saves name time octets prepared given old new began now w in
    let stored = (saves.stored uid guid e).1 in
    record {
      map = t.map;
      changed = indexes_of t.boxes;
      opened = opens_again new t k.later (deliver_runs name time octets prepared given old new began now w (saved_runs given uid guid e));
      shows = saves.shows uid guid e;
      uid = (saves.stored uid guid e).0;
      at = stored.at;
      guid_is = stored.guid_is;
      rows = stored.rows;
      more = subst (λ (h : Highest). HasRecordMore name time prepared h.map s.map s.files stored.rows (saves.stored uid guid e).0 stored.at t.map) k.drawn stored.more;
      mail = wrote_message prepared.parts stored.rows time k.swept.0 (written_region name time prepared (ids_in stored.rows) guid.0) s.map s.files stored.at old k.opened new k.swept.1 ((k.sound.running k.running).files_known stored.at.file.0) (named_there k.opened s k.running k.known) stored.unsealed stored.mail;
      attachments = stored.attachments;
      once = stored.once;
    }

-- what was written since the opening
by_guid : {D : Type 0} → (name : List ℕ) (time : ℕ) (prepared : Prepared) (guid : Guid) (mid new : Option History) (s t : StoreValue D) → (map_uid : MapUid) × StoresAlone name time prepared map_uid guid s t mid new
    → (rows : List InstRow) × (file : ℕ) × (offset : ℕ) × (guid.0 ≡ guid_of_place s.map.store file offset) × WroteMail prepared.parts rows time file offset (written_region name time prepared (ids_in rows) guid.0) mid new
by_guid name time prepared guid mid new s t stored = (stored.1.rows, stored.1.at.file.0, stored.1.at.offset, sym (ap (λ (g : Guid). g.0) stored.1.guid_is) ∙ stored.1.more.place.guid_is, stored.1.mail)

mail_left : {D : Type 0} → (name : List ℕ) (time : ℕ) (octets : List ℕ) (prepared : Prepared) (given : Reply) (mid new : Option History) (s t : StoreValue D) → SavesAlone name time octets prepared s t mid new given → LeavesDelivery s.map.store name time prepared given mid new
mail_left name time octets prepared given mid new s t saves = record { saved = λ uid guid e. by_guid name time prepared guid mid new s t (saves.stored uid guid e); uncompared = saves.uncompared; unsaved = saves.leaves }

deliver_tells : {D : Type 0} → (name : List ℕ) (time : ℕ) (octets : List ℕ) (prepared : Prepared) (given : Reply) (old new : Option History) (began now : Faults) → IsDelivered D name time octets prepared given old new began now → IsDeliverReply name time octets old new given
deliver_tells name time octets prepared given old new began now w =
    let k = w.worked in
    let s = k.store in
    let t = k.last.store in
    let saves = deliver_saves name time octets prepared given old new began now w in
    record {
      m = s.map;
      meanings = indexes_of s.boxes;
      opened = k.opens;
      files = s.files;
      found = k.found;
      prepared = prepared;
      form = w.form;
      given_is = subst (λ (h : Highest). IsDeliverAnswer (undelivered_cause (list_named s name) h) (list_named s name) s.map.store (region_length name time prepared) h.instance (length prepared.parts) s.files given) k.drawn saves.given_is;
      refused = λ why e.
          let back = saves.refused why (subst (λ (h : Highest). undelivered_cause (list_named s name) h ≡ Some why) (sym k.drawn) e) in
          subst (λ (h : Option History). OpensUnchanged s.map (indexes_of s.boxes) old h) (sym back.1) (opens_again k.opened s k.sound k.running, k.carried, k.swept);
      unsaved = λ why e running. opens_alike name time prepared new s t k.later (deliver_runs name time octets prepared given old new began now w (refused_runs given why e running)) k.drawn (saves.unsaved why e running) (saves.left why e running);
      done = opens_saved name time octets prepared given old new began now w;
      mail = (k.swept.0, k.opened, k.swept.1, w.done.done.stays (refl, λ delivers. served_some (delivering name time octets) given old new began now w.done refl), mail_left name time octets prepared given k.opened new s t saves);
      settled = deliver_settles name time octets prepared given old new began now w;
    }

-- ---- it was done

deliver_done : {D : Type 0} → (name : List ℕ) (time : ℕ) (octets : List ℕ) (prepared : Prepared) (given : Reply) (old new : Option History) (began now : Faults) → IsDelivered D name time octets prepared given old new began now → IsDoneAlone (request.Deliver name time octets) given old new began now
deliver_done name time octets prepared given old new began now w =
    let faults = alone_faults (delivering name time octets) given old new began now w.done refl in
    record {
      tells = deliver_tells name time octets prepared given old new began now w;
      moments = deliver_leaves name time octets given old new began now w.done;
      rests = λ none lists at. by_reply name time octets given lists new (deliver_settles name time octets prepared given old new began now w (λ e. none e (faults.stopped e)) lists at);
      faults = faults;
    }

-- a request of any kind, as the script of one request that it is
pub alone_done : {D : Type 0} → (asked : Request) (prepared : Option Prepared) (given : Reply) (old new : Option History) (began now : Faults) → IsRequestDone asked given old new began now → (entries : List JournalEntry) × IsWorkedOut D (alone asked) 1 (Some given ∷ []) entries old new began now → HasItsMessage asked prepared → ListsAnswer → SafeAreShown
    → IsDoneAlone asked given old new began now
alone_done (request.Deliver name time octets) found given old new began now w k message answer show =
    let p = taken_apart octets found message.1 in
    deliver_done name time octets p.0 given old new began now (record { done = w; entries = k.0; worked = k.1; form = p.1 })
alone_done (request.Fetch name uid) prepared given old new began now w k message answer show = fetch_done name uid given k.0 old new began now w k.1 show
alone_done request.Resync prepared given old new began now w k message answer show = resync_done given old new began now w
alone_done request.Purge prepared given old new began now w k message answer show = purge_done given old new began now w
alone_done (request.List name) prepared given old new began now w k message answer show = done_alone (request.List name) given old new began now w tt answer
alone_done (request.Flag name uid flags) prepared given old new began now w k message answer show = done_alone (request.Flag name uid flags) given old new began now w tt answer
alone_done (request.Expunge name uid) prepared given old new began now w k message answer show = done_alone (request.Expunge name uid) given old new began now w tt answer
alone_done (request.Keywords name uid words) prepared given old new began now w k message answer show = done_alone (request.Keywords name uid words) given old new began now w tt answer
alone_done (request.Copy name uid target) prepared given old new began now w k message answer show = done_alone (request.Copy name uid target) given old new began now w tt answer
alone_done (request.Move name uid target) prepared given old new began now w k message answer show = done_alone (request.Move name uid target) given old new began now w tt answer
alone_done (request.Make name) prepared given old new began now w k message answer show = done_alone (request.Make name) given old new began now w tt answer
alone_done (request.Delete name) prepared given old new began now w k message answer show = done_alone (request.Delete name) given old new began now w tt answer
alone_done (request.Rename name target) prepared given old new began now w k message answer show = done_alone (request.Rename name target) given old new began now w tt answer
alone_done request.Counts prepared given old new began now w k message answer show = done_alone request.Counts given old new began now w tt answer
