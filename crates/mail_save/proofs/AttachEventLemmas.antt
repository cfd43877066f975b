-- The events by which the instances of a message's attachments are found, one after another.
use Rattle.mail_save.proofs.Common.{if◌then◌else◌, IsSome, slice_get, ◌≡◌, ◌<◌, ◌≤◌, ◌+◌, ◌-◌, ℕ, Bool, true, false, inl, inr, List, [], ◌∷◌, Option, Some, None, length, refl, sym, ◌∙◌, ap, subst, arith, IsPrepared, Detached, Prepared, Faults, History, NoFault, InstRow, Refusal, MailIsKept}
use Rattle.mail_save.proofs.Common.{kept_begins, Lists, IsSettledFor, Leaves, AreHeld, AreOfParts, AttachingValue, next_attachment, next_candidate, nothing_found, parts_left, with_compared, with_found, IsLaid, unknown_guid, ids_in, after_placing, holders_in, KnownInstance, leaves_none, KeepsStored}
use Rattle.mail_save.proofs.Common.{due_at, KeepsInstances, MovesHolds, holds_of, StoreValue, HasHoldRoom, save_amounts, WritesAttachment, AreAttached, AttachesNext, AttachesNone, Saves, SavedParts}
use Rattle.std.proofs.Common.{zero, suc}
use Rattle.std.proofs.lemmas.Bool.{true≢false}
use Rattle.disk_model.specs.Disk.{Grows}
use Rattle.disk_model.proofs.MomentLemmas.{if_told-all}
use Rattle.mdbox_base.specs.declared.progress.Did.TheVariants as did
use Rattle.mdbox_base.specs.declared.progress.Progress.TheVariants as progress
use Rattle.mdbox_base.specs.declared.replies.Refusal.TheVariants as refusal
use Rattle.save_instances.specs.Attaching.{IsAttaching, attach_events_left}
use Rattle.saved_message.specs.Region.{unknown_ids}
use Rattle.store_core.proofs.DueLemmas.{keeps_itself}
use Rattle.store_core.specs.StoreInstances.{with_placed}
use Rattle.mail_save.proofs.HeldInstanceLemmas.{same_keeps}
use Rattle.mail_save.proofs.HeldLemmas.{nothing_moves}
use Rattle.mail_save.proofs.MailFileLemmas.{mail_itself}
use Rattle.mail_save.proofs.OtherLemmas.{keeps_same}
use Rattle.mail_save.proofs.SaveEventLemmas.{more_runs}
use Rattle.mail_save.proofs.StoringLemmas.{spared_kept}
use Rattle.mail_save.specs.Parts.{AreBeingAttached}
use Rattle.mail_save.specs.SaveEffects.{LaysOut, NamesFound, after_comparing}
use Rattle.mail_save.specs.Task.{IsAttachedSoFar}
use Rattle.mail_save.specs.declared.task.SaveStage.TheVariants as stage

-- ---- what an event changes of the store

-- all else stays
abbrev pub IsAttachChange : {D : Type 0} → StoreValue D → StoreValue D → Type 0
IsAttachChange old new = new ≡ record old { disk = new.disk; instances = new.instances; drawn = new.drawn; stopped = new.stopped }

change_as : {D : Type 0} → (old new v : StoreValue D) → new ≡ v → IsAttachChange old v → IsAttachChange old new
change_as old new v is at = subst (λ (w : StoreValue _). IsAttachChange old w) (sym is) at

pub attached_change : {D : Type 0} → (attaching more : AttachingValue) (old new : StoreValue D) → AttachesNext attaching more old new → IsAttachChange old new
attached_change attaching more old new (inl k) = change_as old new (after_comparing k.alike k.candidate new.disk old) k.same refl
attached_change attaching more old new (inr k) = change_as old new (with_placed new.disk (after_placing k.part.hash (length k.part.octets) old.instances) old) k.same refl

pub unattached_change : {D : Type 0} → (attaching : AttachingValue) (why : Refusal) (old new : StoreValue D) → AttachesNone attaching why old new → IsAttachChange old new
unattached_change attaching refusal.NoMailbox old new k = change_as old new (record old { disk = new.disk }) k.1 refl
unattached_change attaching refusal.Inbox old new k = change_as old new (record old { disk = new.disk }) k.1 refl
unattached_change attaching refusal.Exists old new k = change_as old new (record old { disk = new.disk }) k.1 refl
unattached_change attaching refusal.NoMessage old new k = change_as old new (record old { disk = new.disk }) k.1 refl
unattached_change attaching refusal.Sealed old new k = change_as old new (record old { disk = new.disk }) k.1 refl
unattached_change attaching (refusal.TooManyCopies n) old new k = change_as old new (record old { disk = new.disk }) k.1 refl
unattached_change attaching (refusal.MailboxFull n) old new k = change_as old new (record old { disk = new.disk }) k.1 refl
unattached_change attaching (refusal.TooManyMailboxes n) old new k = change_as old new (record old { disk = new.disk }) k.1 refl
unattached_change attaching (refusal.StoreFull n) old new k = change_as old new (record old { disk = new.disk }) k.1 refl
unattached_change attaching refusal.NoMemory old new k = change_as old new (record old { disk = new.disk }) k.1 refl
unattached_change attaching refusal.ReadFault old new k = change_as old new (record old { disk = new.disk }) k.1 refl
unattached_change attaching refusal.Stopped old new k = change_as old new (record (with_placed new.disk (record old.instances { highest = old.instances.highest + 1 }) old) { stopped = true }) k.2 refl
unattached_change attaching (refusal.Damaged file offset) old new k = change_as old new (record old { disk = new.disk }) k.1 refl

parts_by : (alike : Bool) (candidate : InstRow) (drawn : ℕ) (attaching : AttachingValue) → (if alike then with_found candidate attaching else with_compared candidate drawn attaching).parts ≡ attaching.parts
parts_by true candidate drawn attaching = refl
parts_by false candidate drawn attaching = refl

-- the attachments stay
pub parts_stay : {D : Type 0} → (attaching more : AttachingValue) (old new : StoreValue D) → AttachesNext attaching more old new → more.parts ≡ attaching.parts
parts_stay attaching more old new (inl k) = ap (λ (v : AttachingValue). v.parts) k.more_is ∙ parts_by k.alike k.candidate old.instances.highest attaching
parts_stay attaching more old new (inr k) = ap (λ (v : AttachingValue). v.parts) k.more_is

-- ---- from one event to the next

rows_few : (rows : List InstRow) (parts : List Detached) (known : List KnownInstance) (history : Option History) → AreOfParts rows parts known history → length rows ≤ length parts
rows_few [] parts known history are = omega arith
rows_few (row ∷ rows) [] known history are = absurd are
rows_few (row ∷ rows) (part ∷ parts) known history are = let le = rows_few rows parts known history are.1 in omega (arith, le)

none_past : {X : Type 0} → (xs : List X) (n : ℕ) → slice_get xs n ≡ None → length xs ≤ n
none_past [] n e = omega arith
none_past (x ∷ xs) zero e = absurd (let w : Some x ≡ None = e in cc w)
none_past (x ∷ xs) (suc n) e = let le = none_past xs n e in omega (arith, le)

pub being_attached_on : {D : Type 0} → (name : List ℕ) (time : ℕ) (octets : List ℕ) (parts : SavedParts) (attaching more : AttachingValue) (old new : StoreValue D) (before after : Option History) → AttachesNext attaching more old new → IsAttaching more new after → AreBeingAttached name time octets parts attaching old before
    → AreBeingAttached name time octets parts more new after
being_attached_on name time octets parts attaching more old new before after next is a = record { prepared = a.prepared; form = a.form; parts_are = parts_stay attaching more old new next ∙ a.parts_are; laid = a.laid; found = is }

-- the instance of each was found
pub attached_whole : {D : Type 0} → (name : List ℕ) (time : ℕ) (octets : List ℕ) (parts named : SavedParts) (more : AttachingValue) (store : StoreValue D) (history : Option History) → next_attachment more ≡ None → NamesFound more.found parts named → AreBeingAttached name time octets parts more store history
    → AreAttached name time octets named store history
attached_whole name time octets parts named more store history none names a =
    let found : AreOfParts more.found a.prepared.parts store.instances.known history = subst (λ (ps : List Detached). AreOfParts more.found ps store.instances.known history) a.parts_are a.found.found in
    let some : length more.found ≤ length a.prepared.parts = rows_few more.found a.prepared.parts store.instances.known history found in
    let all : length more.parts ≤ length more.found = none_past more.parts (length more.found) none in
    let same : length more.parts ≡ length a.prepared.parts = ap length a.parts_are in
    let rows : length named.rows ≡ length more.found = ap length names.rows in
    record {
      prepared = a.prepared;
      form = a.form;
      laid = record {
        header = names.header ∙ a.laid.header;
        laid = subst (λ (rows : List InstRow). IsLaid name time a.prepared (ids_in rows) unknown_guid named.laid) (sym names.rows) (names.region name time a.prepared (unknown_ids a.prepared.parts) unknown_guid a.laid.laid);
      };
      found = subst (λ (rows : List InstRow). AreOfParts rows a.prepared.parts store.instances.known history) (sym names.rows) found;
      one_each = omega (arith, some, all, same, rows);
    }

-- ---- an event that finds one, or compares one

-- what it is known to do
pub record HasAttached {D : Type 0} (attaching more : AttachingValue) (old new : StoreValue D) (before after : Option History) (began ended : Faults) : Type 0 where
  pub next : AttachesNext attaching more old new
  pub fewer : attach_events_left more new.instances < attach_events_left attaching old.instances
  pub room : HasHoldRoom (parts_left more) new
  pub found : IsAttaching more new after
  pub moves : MovesHolds (holds_of attaching.found) (holds_of more.found) old new
  pub held : AreHeld more.found new.instances.known
  pub keeps : new.stopped ≡ false → KeepsInstances old new before after
  pub moments : (lists : Lists) → IsSettledFor lists before → Leaves lists lists before after
  pub stays : MailIsKept old.map before after
  pub settled : new.stopped ≡ false → (lists : Lists) → IsSettledFor lists before → IsSettledFor lists after
  pub stored : new.stopped ≡ false → KeepsStored before after
  pub written : WritesAttachment (next_candidate attaching old.instances) (next_attachment attaching) old before after
  pub runs : new.stopped ≡ false
  pub faults : NoFault began ended
  pub grows : Grows before after
  pub idle : new ≡ old → after ≡ before

pub attached_more : {D : Type 0} → (name : List ℕ) (time size : ℕ) (parts : SavedParts) (attaching more : AttachingValue) (old new : StoreValue D) (before after : Option History) (began ended : Faults) → IsAttachedSoFar name time parts attaching old before → HasAttached attaching more old new before after began ended
    → IsSome (next_attachment more) → Saves (stage.Attaching parts attaching) (stage.Attaching parts more) name time size progress.More did.Quiet old new before after began ended
attached_more name time size parts attaching more old new before after began ended left o some =
    let same : IsAttachChange old new = attached_change attaching more old new o.next in
    record {
      replies = tt;
      did_is = refl;
      moments = o.moments;
      stays = o.stays;
      rests = o.settled;
      mail = λ ran. o.written;
      ready = λ e octets r. (r.0, being_attached_on name time octets parts attaching more old new before after o.next o.found r.1, some);
      left = λ e. ((left.0, left.1, being_attached_on name time left.0 parts attaching more old new before after o.next o.found left.2), some, o.room);
      fewer = λ e. (let f = o.fewer in omega (arith, f));
      effects = (refl, o.next);
      idle = o.idle;
      spared = λ ran. spared_kept old new before after (ap (λ (v : StoreValue _). v.map) same) (o.stored ran);
      others = keeps_same (stage.Attaching parts attaching) old new (ap (λ (v : StoreValue _). v.map) same) (ap (λ (v : StoreValue _). v.files.files) same);
      moves = λ ran. nothing_moves (save_amounts (stage.Attaching parts attaching)) (save_amounts (stage.Attaching parts more)) old new (λ uid. refl) (λ uid. ap (λ (v : StoreValue _). due_at uid v) same);
      holds = o.moves;
      instances = o.keeps;
      stopped = more_runs new.stopped o.runs;
      faults = o.faults;
      grows = o.grows;
    }

pub attached_last : {D : Type 0} → (name : List ℕ) (time size : ℕ) (parts named : SavedParts) (attaching more : AttachingValue) (old new : StoreValue D) (before after : Option History) (began ended : Faults) → IsAttachedSoFar name time parts attaching old before → HasAttached attaching more old new before after began ended
    → next_attachment more ≡ None → NamesFound more.found parts named → Saves (stage.Attaching parts attaching) (stage.Taking named) name time size progress.More did.Quiet old new before after began ended
attached_last name time size parts named attaching more old new before after began ended left o none names =
    let same : IsAttachChange old new = attached_change attaching more old new o.next in
    let rows : named.rows ≡ more.found = names.rows in
    record {
      replies = tt;
      did_is = refl;
      moments = o.moments;
      stays = o.stays;
      rests = o.settled;
      mail = λ ran. o.written;
      ready = λ e octets r. (r.0, attached_whole name time octets parts named more new after none names (being_attached_on name time octets parts attaching more old new before after o.next o.found r.1));
      left = λ e. (
        (left.0, left.1, attached_whole name time left.0 parts named more new after none names (being_attached_on name time left.0 parts attaching more old new before after o.next o.found left.2)),
        subst (λ (rs : List InstRow). AreHeld rs new.instances.known) (sym rows) o.held,
      );
      fewer = λ e. omega arith;
      effects = (more, o.next, none, names);
      idle = o.idle;
      spared = λ ran. spared_kept old new before after (ap (λ (v : StoreValue _). v.map) same) (o.stored ran);
      others = keeps_same (stage.Attaching parts attaching) old new (ap (λ (v : StoreValue _). v.map) same) (ap (λ (v : StoreValue _). v.files.files) same);
      moves = λ ran. nothing_moves (save_amounts (stage.Attaching parts attaching)) (save_amounts (stage.Taking named)) old new (λ uid. refl) (λ uid. ap (λ (v : StoreValue _). due_at uid v) same);
      holds = subst (λ (rs : List InstRow). MovesHolds (holds_of attaching.found) (holds_of rs) old new) (sym rows) o.moves;
      instances = o.keeps;
      stopped = more_runs new.stopped o.runs;
      faults = o.faults;
      grows = o.grows;
    }

-- ---- the first event

-- nothing was found yet
pub attaching_begins : {D : Type 0} → (parts : List Detached) (store : StoreValue D) (history : Option History) → IsAttaching (nothing_found parts) store history
attaching_begins parts store history = record { found = tt; held = λ id. (let none : holds_of [] id ≡ 0 = refl in omega (arith, none)); drawn = omega arith; unlike = λ part next. if_told-all _ history (λ disk i d lt of past. absurd (true≢false past)) }

begun_as : {D : Type 0} → (name : List ℕ) (time : ℕ) (octets : List ℕ) (prepared : Prepared) (parts : SavedParts) (attaching : AttachingValue) (store : StoreValue D) (history : Option History) → attaching ≡ nothing_found prepared.parts → LaysOut name time prepared parts store → IsPrepared octets prepared
    → AreBeingAttached name time octets parts attaching store history
begun_as name time octets prepared parts attaching store history is begins form = record {
  prepared = prepared;
  form = form;
  parts_are = ap (λ (v : AttachingValue). v.parts) is;
  laid = begins.laid;
  found = subst (λ (v : AttachingValue). IsAttaching v store history) (sym is) (attaching_begins prepared.parts store history);
}

abbrev pub IsMessageOf : Prepared → Type 0
IsMessageOf prepared = (octets : List ℕ) × (length octets ≤ 67108864) × IsPrepared octets prepared

all_room : (n more : ℕ) → n + more ≤ 4294967295 → n + (more - 0) ≤ 4294967295
all_room n more le = omega (arith, le)

pub first_more : {D : Type 0} → (name : List ℕ) (time size : ℕ) (prepared : Prepared) (parts : SavedParts) (attaching : AttachingValue) (store : StoreValue D) (history : Option History) (faults : Faults) → store.stopped ≡ false → IsMessageOf prepared → HasHoldRoom (length prepared.parts) store → attaching ≡ nothing_found prepared.parts
    → LaysOut name time prepared parts store → IsSome (next_attachment attaching) → Saves (stage.First prepared) (stage.Attaching parts attaching) name time size progress.More did.Quiet store store history history faults faults
first_more name time size prepared parts attaching store history faults runs message room is begins some = record {
  replies = tt;
  did_is = refl;
  moments = λ lists s. leaves_none history lists lists s;
  stays = kept_begins _ history;
  rests = λ ran lists s. s;
  mail = λ ran. mail_itself history;
  ready = λ e octets r. (r.0, begun_as name time octets prepared parts attaching store history is begins r.1, some);
  left = λ e. ((message.0, message.1, begun_as name time message.0 prepared parts attaching store history is begins message.2), some, subst (λ (v : AttachingValue). HasHoldRoom (parts_left v) store) (sym is) (λ id. all_room (holders_in id store.instances.known) (length prepared.parts) (room id)));
  fewer = λ e. (let same = ap (λ (v : AttachingValue). attach_events_left v store.instances) is in omega (arith, same));
  effects = (refl, is, begins);
  idle = λ e. refl;
  spared = λ ran. spared_kept store store history history refl (keeps_itself history);
  others = keeps_same (stage.First prepared) store store refl refl;
  moves = λ ran. nothing_moves (save_amounts (stage.First prepared)) (save_amounts (stage.Attaching parts attaching)) store store (λ uid. refl) (λ uid. refl);
  holds = subst (λ (v : AttachingValue). MovesHolds (λ id. 0) (holds_of v.found) store store) (sym is) (λ id. refl);
  instances = λ ran. same_keeps store store history history refl refl (mail_itself history);
  stopped = more_runs store.stopped runs;
  faults = refl;
  grows = omega arith;
}

no_parts : (parts : List Detached) → next_attachment (nothing_found parts) ≡ None → parts ≡ []
no_parts [] e = refl
no_parts (part ∷ parts) e = absurd (let w : Some part ≡ None = e in cc w)

pub first_last : {D : Type 0} → (name : List ℕ) (time size : ℕ) (prepared : Prepared) (parts named : SavedParts) (attaching : AttachingValue) (store : StoreValue D) (history : Option History) (faults : Faults) → store.stopped ≡ false → IsMessageOf prepared → attaching ≡ nothing_found prepared.parts → LaysOut name time prepared parts store
    → next_attachment attaching ≡ None → NamesFound attaching.found parts named → Saves (stage.First prepared) (stage.Taking named) name time size progress.More did.Quiet store store history history faults faults
first_last name time size prepared parts named attaching store history faults runs message is begins none names =
    let empty : prepared.parts ≡ [] = no_parts prepared.parts (ap next_attachment (sym is) ∙ none) in
    let found : attaching.found ≡ [] = ap (λ (v : AttachingValue). v.found) is in
    let rows : named.rows ≡ [] = names.rows ∙ found in
    let laid : IsLaid name time prepared (ids_in []) unknown_guid named.laid =
    subst (λ (rs : List InstRow). IsLaid name time prepared (ids_in rs) unknown_guid named.laid) found (names.region name time prepared (unknown_ids prepared.parts) unknown_guid begins.laid.laid) in
    record {
      replies = tt;
      did_is = refl;
      moments = λ lists s. leaves_none history lists lists s;
      stays = kept_begins _ history;
      rests = λ ran lists s. s;
      mail = λ ran. mail_itself history;
      ready = λ e octets r. (r.0, attached_whole name time octets parts named attaching store history none names (begun_as name time octets prepared parts attaching store history is begins r.1));
      left = λ e. (
        (message.0, message.1, attached_whole name time message.0 parts named attaching store history none names (begun_as name time message.0 prepared parts attaching store history is begins message.2)),
        subst (λ (rs : List InstRow). AreHeld rs store.instances.known) (sym rows) (attaching_begins prepared.parts store history).held,
      );
      fewer = λ e. omega arith;
      effects = (
        refl,
        empty,
        record {
          allowed = begins.allowed;
          laid = record { header = names.header ∙ begins.laid.header; laid = subst (λ (ps : List Detached). IsLaid name time prepared (unknown_ids ps) unknown_guid named.laid) (sym empty) laid };
          rows = rows;
        },
      );
      idle = λ e. refl;
      spared = λ ran. spared_kept store store history history refl (keeps_itself history);
      others = keeps_same (stage.First prepared) store store refl refl;
      moves = λ ran. nothing_moves (save_amounts (stage.First prepared)) (save_amounts (stage.Taking named)) store store (λ uid. refl) (λ uid. refl);
      holds = subst (λ (rs : List InstRow). MovesHolds (λ id. 0) (holds_of rs) store store) (sym rows) (λ id. refl);
      instances = λ ran. same_keeps store store history history refl refl (mail_itself history);
      stopped = more_runs store.stopped runs;
      faults = refl;
      grows = omega arith;
    }
