-- The clause of a fetch's step, event by event.
use Rattle.mail_fetch.proofs.Common.{◌≡◌, ◌≤◌, ◌<◌, ◌+◌, ◌-◌, ◌&&◌, ℕ, Bool, true, false, not, cond, List, [], ◌∷◌, ◌++◌, length, Option, Some, None, refl, sym, ◌∙◌, ap, subst, arith, inl, inr, length-append, is_some, nat_lt, sum_by, if◌then◌else◌, list_any, option_map, option_map_or, option_or}
use Rattle.mail_fetch.proofs.Common.{All-nil, eq-eqb, ne_eqb, cases_lt, DiskState, History, Faults, Files, IfTold, IsIdle, told_calls, NoFault, idle-begins, InstRow, Uid, Progress, Refusal, Reply, Lists, LogRow, BoxMeaning, row_at, MapRecord, MapMeaning, named_instances, IsThereWhole, files_of}
use Rattle.mail_fetch.proofs.Common.{First, ReadsPiece, Unpins, RemovesFile, Pin, RunEvent, Run, and_then, own_events, is_pinned, is_unpinning, has_unpinned, PartAnswers, refusal_in, IsReplyOf, Around, piece_left, leaves_doomed, last_refusal, pieces_to_read, own_more, own_other, found_let_go}
use Rattle.mail_fetch.proofs.Common.{end_in, is_doomed_in, pins_in, IsStore, StoreValue, AreIn, Seen, HasComeTo, pins_of, unstepped, claims_of_pinned, held_for, with_claims, without_claims, FetchSteps, fetch_refusal, IsBegun, IsPinned, IsPieceRead, next_piece, with_piece, left_after, parts_to_read}
use Rattle.mail_fetch.proofs.Common.{pieces_left, stored_at, RegionValue, IsReplyFor, is_last_pin, HasPinned, HasReadAllBut, RemovesNext, UnpinsNext, IsFrontOfStored, IsTrueReply, HasPieceLeft, one_pin, seen_in, StoredAt, FetchStage}
use Rattle.std.specs.Prelude.{All, ◌⊎◌, ◌≢◌}
use Rattle.std.proofs.lemmas.List.Elements.{All-push}
use Rattle.mdbox_base.specs.Streams.{Rose}
use Rattle.mdbox_base.specs.declared.entries.MapEntry.{MapEntry}
use Rattle.mdbox_base.specs.declared.progress.Did.{Did}
use Rattle.mdbox_base.specs.declared.progress.Did.TheVariants as did
use Rattle.mdbox_base.specs.declared.progress.Progress.TheVariants as progress
use Rattle.mdbox_base.specs.declared.replies.ListRow.{ListRow}
use Rattle.mdbox_base.specs.declared.replies.Refusal.TheVariants as refusal
use Rattle.mdbox_base.specs.declared.replies.Reply.TheVariants as reply
use Rattle.mdbox_base.specs.declared.requests.Request.TheVariants as request
use Rattle.mdbox_base.specs.declared.script.Half.TheVariants as half
use Rattle.model_meaning.specs.MapMeaning.{map_meaning, no_numbers, record_of}
use Rattle.model_meaning.specs.Sound.{IsSoundMap}
use Rattle.model_meaning.proofs.MapSoundLemmas.{map_sound}
use Rattle.model_store.specs.Listing.{ShowLists}
use Rattle.model_store.specs.Stands.{AreMailboxes, StoresMessage}
use Rattle.model_store.proofs.StandsLemmas.{map_same}
use Rattle.list_machine.specs.Machine.{is_step}
use Rattle.journal.specs.Events.{MayMeet, behind_refused}
use Rattle.store_core.specs.Value.{indexes_of, list_named}
use Rattle.task_steps.specs.Step.{DidEvent, ShowsSeen, and_told, ended_by}
use Rattle.task_steps.proofs.SeenLemmas.{doomed_still, pinned_is, pins_still}
use Rattle.task_steps.proofs.EventLaws.{did_refused, did_stop, DidBy, fall, no_reply, one_refusal, one_reply, refusal_event, refuses, replied_so, some_reply, stands_by}
use Rattle.task_steps.proofs.KeptStoreLemmas.{comes_along}
use Rattle.task_steps.proofs.OneEventLemmas.{never_more, plain_forgets, plain_refused, plain_stopped}
use Rattle.mail_fetch.specs.Claims.{used_by}
use Rattle.mail_fetch.specs.Clause.{CanFetch, ReadsSafe}
use Rattle.mail_fetch.specs.Events.{IsAbsent, IsStoredBy, NoChangeFault}
use Rattle.mail_fetch.specs.Failed.{HasFailedRead}
use Rattle.mail_fetch.specs.Region.{unread}
use Rattle.mail_fetch.specs.Stages.{ReadPiece, IsPieceRefusal, SparesFile, StoresListed, Reading, IsAtFetch}
use Rattle.mail_fetch.specs.Task.{fetch_did, pins_kept_in, refusing_did}
use Rattle.mail_fetch.specs.declared.task.FetchStage.TheVariants as stage
use Rattle.mail_fetch.proofs.InstanceLemmas.{pieces_told}
use Rattle.mail_fetch.proofs.LastPinLemmas.{PinsFile, last_is, leaves_is, leaves_still, next_removes, pins_file, pins_file_more, removes_pins}
use Rattle.mail_fetch.proofs.OwnPinLemmas.{pins_at_all, pins_begin, pins_end}
use Rattle.mail_fetch.proofs.PartLemmas.{pieces_after}
use Rattle.mail_fetch.proofs.FetchPartLemmas.{last_with, next_reads, next_unpins, unpins_by, holds_pin}
use Rattle.mail_fetch.proofs.HoldLemmas.{rows_held, rows_let_go}
use Rattle.mail_fetch.proofs.UseLemmas.{one_end, own_one, own_pinned, pins_fewer, pins_more, use_seen}
use Rattle.mail_fetch.proofs.RemovalLemmas.{removal_halts, not_stopped, true_reply_of}
use Rattle.mail_fetch.proofs.FetchEventLemmas.{behind_reading, comes_with_pins, fetch_is_plain, idle_grows, idle_lasts, idle_leads, never_none, pin_event, did_pin, fetch_event, piece_is_late, unpin_is_late, did_late}
use Rattle.mail_fetch.proofs.RecordLemmas.{IsShown, shown_by, no_mailbox, no_message, is_fetched, by_guid, listed_stored}
use Rattle.mail_fetch.proofs.StoredRegionLemmas.{front_more, true_reply}

-- ---- what is known of an open store

-- the map of an open store is sound
pub store_is_sound : {D : Type 0} → (history : Option History) (store : StoreValue D) → IsStore history store → IsSoundMap store.map
store_is_sound history store s = subst IsSoundMap (sym s.map_is) (map_sound store.map.store s.entries s.good.map_entries.1 s.good.map_entries.0)

-- the files stand for the lists with this map, and have each instance that it names
pub record HaveMessages (m : MapMeaning) (lists : Lists) (files : Files) : Type 0 where
  pub boxes : AreMailboxes files m m.boxes lists
  pub instances : All (IsThereWhole files) (named_instances m)

-- so do the files of a store that runs, with its map
pub boxes_safe : {D : Type 0} → (history : Option History) (store : StoreValue D) (lists : Lists) → IsStore history store → store.stopped ≡ false → ReadsSafe lists history → Reading (HaveMessages store.map lists) history
boxes_safe None store lists s runs safe = safe
boxes_safe (Some h) store lists s runs safe =
    let running = s.running runs in
    let opens = running.opens in
    let same = map_same (files_of h.now) safe.store store.map.store safe.entries s.entries safe.by.stands.map_log opens.passed.map_log in
    let here : HaveMessages (map_meaning safe.store safe.entries) lists (files_of h.now) = record { boxes = safe.by.stands.mailboxes; instances = safe.by.has_all.instances } in
    let there : HaveMessages (map_meaning store.map.store s.entries) lists (files_of h.now) =
    subst (λ (id : List ℕ). HaveMessages (map_meaning id s.entries) lists (files_of h.now)) same.0
    (subst (λ (es : List MapEntry). HaveMessages (map_meaning safe.store es) lists (files_of h.now)) same.1 here) in
    subst (λ (m : MapMeaning). HaveMessages m lists (files_of h.now)) (sym s.map_is) there

-- ---- a store that is stopped

pub stopped_steps : {D : Type 0} → (around after : Around) (name : List ℕ) (uid : Uid) (now : FetchStage) (store : StoreValue D) (history : Option History) (faults : Faults) → HasPieceLeft now → store.stopped ≡ true
    → FetchSteps around after name uid now now store store history history faults faults did.Quiet (Some (reply.Refused refusal.Stopped))
stopped_steps around after name uid stage.First store history faults left stopped = λ run lane place said lists come shows safe stood. (
  plain_stopped around after run lane place said (request.Fetch name uid) lists (seen_in store history faults) (fetch_is_plain name uid) come shows stood stopped,
  λ e. absurd (never_more _ e),
)
stopped_steps around after name uid (stage.Reading region) store history faults left stopped = λ run lane place said lists come shows safe stood.
    let q = request.Fetch name uid in (
      (did_stop around after run lane place said q ReadsPiece lists (seen_in store history faults)
          (refuses around run place q ReadsPiece refusal.Stopped no_numbers (λ lane calls. tt) (λ lane calls. tt) (next_reads around name uid run place (pieces_left region.left) region.from stood.0 left.0) refl) come shows stopped).so,
      λ e. absurd (never_more _ e),
    )
stopped_steps around after name uid (stage.Unpinning from given) store history faults left stopped = λ run lane place said lists come shows safe stood.
    let q = request.Fetch name uid in (
      (did_stop around after run lane place said q Unpins lists (seen_in store history faults) (refuses around run place q Unpins refusal.Stopped no_numbers (λ lane calls. tt) (λ lane calls. tt) (next_unpins around name uid run place from given stood.0) refl) come shows stopped).so,
      λ e. absurd (never_more _ e),
    )
stopped_steps around after name uid (stage.Removing file given) store history faults left stopped = λ run lane place said lists come shows safe stood. (
  (did_stop around after run lane place said (request.Fetch name uid) RemovesFile lists (seen_in store history faults) (removal_halts around run place name uid (next_removes around name uid run place file.0 given stood.0 stood.1)) come shows stopped).so,
  λ e. absurd (never_more _ e),
)

-- ---- the first event

-- the clause for the first event
abbrev FirstClause : {D : Type 0} → Around → Around → List ℕ → Uid → StoreValue D → Option History → Faults → FetchStage → Progress → Did → Type 0
FirstClause around after name uid store history faults next answer how = FetchSteps around after name uid stage.First next store (used_by stage.First next store) history history faults faults how (ended_by answer)

first_as : {D : Type 0} → (around after : Around) (name : List ℕ) (uid : Uid) (store : StoreValue D) (history : Option History) (faults : Faults) (a b : FetchStage) (p q : Progress) (c d : Did) → b ≡ a → q ≡ p → d ≡ c
    → FirstClause around after name uid store history faults a p c → FirstClause around after name uid store history faults b q d
first_as around after name uid store history faults a b p q c d stages answers hows h =
    subst (λ (n : FetchStage). FirstClause around after name uid store history faults n q d) (sym stages)
    (subst (λ (n : Progress). FirstClause around after name uid store history faults a n d) (sym answers) (subst (λ (n : Did). FirstClause around after name uid store history faults a p n) (sym hows) h))

first_refused : {D : Type 0} → (around after : Around) (name : List ℕ) (uid : Uid) (store : StoreValue D) (history : Option History) (faults : Faults) (why : Refusal) → is_step why ≡ true → IsReplyOf (request.Fetch name uid) (reply.Refused why ∷ []) (reply.Refused why) → store.stopped ≡ false
    → ((run : Run) (event : RunEvent) (lists : Lists) → ShowLists store.map.boxes (indexes_of store.boxes) lists → PartAnswers run event lists (request.Fetch name uid) First (reply.Refused why) lists)
    → FirstClause around after name uid store history faults stage.First (progress.Done (reply.Refused why)) (did.Step half.Whole)
first_refused around after name uid store history faults why step is runs answers = λ run lane place said lists come shows safe stood. (
  plain_refused around after run lane place said (request.Fetch name uid) lists (seen_in store history faults) why (fetch_is_plain name uid) come shows stood runs step is (λ event. answers run event lists shows.1),
  λ e. absurd (never_more _ e),
)

-- no memory
first_memory : {D : Type 0} → (around after : Around) (name : List ℕ) (uid : Uid) (store : StoreValue D) (history : Option History) (faults : Faults) → store.stopped ≡ false → FirstClause around after name uid store history faults stage.First (progress.Done (reply.Refused refusal.NoMemory)) did.Quiet
first_memory around after name uid store history faults runs = λ run lane place said lists come shows safe stood. (
  plain_forgets around after run lane place said (request.Fetch name uid) lists (seen_in store history faults) (fetch_is_plain name uid) come shows stood runs,
  λ e. absurd (never_more _ e),
)

-- pinned
abbrev one_pinned_for : ℕ → List InstRow → ℕ → List Pin
one_pinned_for file instances pieces = record { file = file; pieces = pieces; instances = instances } ∷ []

none_read : (n : ℕ) → length {A = RunEvent} [] + n ≡ n
none_read n = omega arith

reading_as : (P Q : Files → Type 0) (h : Option History) → ((files : Files) → P files → Q files) → Reading P h → Reading Q h
reading_as P Q None f p = absurd p
reading_as P Q (Some h) f p = f (files_of h.now) p

first_pinned : {D : Type 0} → (around after : Around) (name : List ℕ) (uid : Uid) (store : StoreValue D) (history : Option History) (faults : Faults) (row : LogRow) (entry : MapRecord) (end : ℕ) → IsStore history store → store.stopped ≡ false → IsStoredBy name uid.0 store row entry → end_in entry.file store.files.files ≡ Some end
    → FirstClause around after name uid store history faults (stage.Reading (unread (stored_at row entry))) progress.More (did.Step half.Whole)
first_pinned around after name uid store history faults row entry end is runs stored ends = λ run lane place said lists come shows safe stood.
    let from : StoredAt = stored_at row entry in
    let seen : Seen = seen_in store history faults in
    let pins : ℕ → ℕ = pins_kept_in (with_claims from store) in
    let new : Seen = behind_reading seen history faults pins (held_for entry.instances store.instances.known) in
    let new_is : seen_in (with_claims from store) history faults ≡ new = use_seen from (pins_in entry.file store.files.files + 1) (held_for entry.instances store.instances.known) store history faults (λ id. rows_held entry.instances id store.instances.known) in
    let shown = shown_by store.map.boxes (indexes_of store.boxes) lists name uid.0 stored.mailbox row shows.1 stored.named stored.listed in
    let guid : row.guid ≡ shown.message.guid = ap (λ (r : ListRow). r.guid.0) shown.same in
    let found : record_of store.map shown.message.guid ≡ Some entry = by_guid store.map row.map_uid entry shown.message.guid (store_is_sound history store is) stored.stored (stored.same ∙ guid) in
    let event = pin_event lane place entry.file (pieces_to_read entry) entry.instances (told_calls history) in
    let one_record : (other : MapRecord) → record_of store.map shown.message.guid ≡ Some other → other ≡ entry = λ other there. (let k : Some other ≡ Some entry = sym there ∙ found in cc k) in
    let unpinned : has_unpinned place run ≡ false = ap (λ (es : List RunEvent). list_any is_unpinning es) stood.0 in
    subst (λ (s : Seen). (d : DidEvent around after run lane place said (request.Fetch name uid) lists seen s (did.Step half.Whole) None) × (◌≡◌ {A = Option Reply} None None → IsAtFetch (stage.Reading (unread from)) s.stopped s.history (and_then run d.makes.event) place (and_told said d.makes.answer))) (sym new_is)
    (stands_by around after run lane place said (request.Fetch name uid) lists seen new (did.Step half.Whole) None event (Some (reply.Fetched shown.message.octets))
    (IsAtFetch (stage.Reading (unread from)) new.stopped new.history)
    (did_pin around after run lane place said name uid lists seen history faults pins (held_for entry.instances store.instances.known) entry shown.message.octets come shows stood runs (idle-begins history) refl
    (shown.message, shown.there, ap (λ (m : MapMeaning). record_of m shown.message.guid) come.come.map_is ∙ found)
    (λ e. is_fetched run e store.map.boxes (indexes_of store.boxes) lists name uid stored.mailbox row shows.1 stored.named shown)
    (λ ran file.
    let a = pins_begin run event entry.file (pieces_to_read entry) file entry.instances refl unpinned refl in
    let b = (come.keeps ran).pins file in
    let c = pins_more entry.file file store.files.files (one_end entry.file store.files.files end ends) in
    omega (arith, a, b, c)))
    (λ goes_on. (
      (
        [],
        record {
          pin = event;
          own_are = own_more place run event (eq-eqb place place refl) ∙ ap (λ (es : List RunEvent). es ++ event ∷ []) stood.0;
          part = refl;
          unrefused = refl;
          pins = ap (λ (n : ℕ). one_pinned_for entry.file entry.instances n) (sym (pieces_told row entry));
        },
        All-nil (ReadPiece None),
        none_read (pieces_left (parts_to_read (stored_at row entry))),
      ),
      (
        shown.message.octets,
        ap (λ (s : List Reply). s ++ reply.Fetched shown.message.octets ∷ []) stood.1,
        λ runs_now. reading_as (StoresListed store.map shown.message) (IsFrontOfStored (unread (stored_at row entry)) shown.message.octets) history (λ files there. record {
          row = row;
          entry = entry;
          from = refl;
          listed = sym (ap (λ (r : ListRow). r.size) shown.same);
          stores = subst (λ (r : MapRecord). StoresMessage files r shown.message.octets) (one_record there.entry there.found) there.stores;
          sizes = subst (λ (r : MapRecord). All (IsThereWhole files) r.instances) (one_record there.entry there.found) there.sizes;
          front = refl;
        }) (safe runs shown.message shown.there),
      ),
    )))

-- where the files store the message, its file is there
pub absent_unstored : {D : Type 0} → (name : List ℕ) (uid : Uid) (store : StoreValue D) (history : Option History) (lists : Lists) (why : Refusal) → IsStore history store → store.stopped ≡ false → IsAbsent name uid.0 store why → ShowLists store.map.boxes (indexes_of store.boxes) lists → CanFetch stage.First name uid lists store.map history → ⊥
absent_unstored name uid store history lists why is runs (row, entry, stored, none, why_is) shows can = by_disk history is (can shown.message shown.there)
  where
    shown : IsShown name uid.0 lists row
    shown = shown_by store.map.boxes (indexes_of store.boxes) lists name uid.0 stored.mailbox row shows stored.named stored.listed

    guid : row.guid ≡ shown.message.guid
    guid = ap (λ (r : ListRow). r.guid.0) shown.same

    found : record_of store.map shown.message.guid ≡ Some entry
    found = by_guid store.map row.map_uid entry shown.message.guid (store_is_sound history store is) stored.stored (stored.same ∙ guid)

    by_disk : (told : Option History) → IsStore told store → Reading (StoresListed store.map shown.message) told → ⊥
    by_disk None kept there = there
    by_disk (Some h) kept there =
        let same : there.entry ≡ entry = (let k : Some there.entry ≡ Some entry = sym there.found ∙ found in cc k) in
        let stores = subst (λ (r : MapRecord). StoresMessage (files_of h.now) r shown.message.octets) same there.stores in
        let known = (kept.running runs).files_known entry.file in
        let k : Some (length stores.stored.octets_there) ≡ None = ap (option_map length) (sym stores.stored.there) ∙ (known ∙ none) in
        cc k

-- The first event of a store that isn't stopped.
pub begin_steps : {D : Type 0} → (around after : Around) (name : List ℕ) (uid : Uid) (store : StoreValue D) (history : Option History) (faults : Faults) (next : FetchStage) (answer : Progress) (how : Did) → IsStore history store → store.stopped ≡ false → IsBegun name uid.0 store next answer
    → ((region : RegionValue) → next ≡ stage.Reading region → (end : ℕ) × (end_in region.from.file.0 store.files.files ≡ Some end)) → how ≡ fetch_did stage.First answer
    → FirstClause around after name uid store history faults next answer how
begin_steps around after name uid store history faults next answer how is runs b there hows = by_box (list_named store name) refl
  where
    done : (why : Refusal) → (answer ≡ progress.Done (reply.Refused why)) × (next ≡ stage.First) → FirstClause around after name uid store history faults stage.First (progress.Done (reply.Refused why)) (refusing_did why) → FirstClause around after name uid store history faults next answer how
    done why e h = first_as around after name uid store history faults stage.First next (progress.Done (reply.Refused why)) answer (refusing_did why) how e.1 e.0 (hows ∙ ap (fetch_did stage.First) e.0) h

    refusal_is : (o : Option BoxMeaning) → list_named store name ≡ o → fetch_refusal name uid.0 store ≡ option_map_or (λ m. if is_some (row_at m uid.0) then None else Some refusal.NoMessage) o (Some refusal.NoMailbox)
    refusal_is o e = ap (λ (t : Bool). cond t (Some refusal.Stopped) (option_map_or (λ (m : BoxMeaning). if is_some (row_at m uid.0) then None else Some refusal.NoMessage) (list_named store name) (Some refusal.NoMailbox))) runs
        ∙ ap (λ (p : Option BoxMeaning). option_map_or (λ (m : BoxMeaning). if is_some (row_at m uid.0) then None else Some refusal.NoMessage) p (Some refusal.NoMailbox)) e

    by_row : (m : BoxMeaning) → list_named store name ≡ Some m → (r : Option LogRow) → row_at m uid.0 ≡ r → FirstClause around after name uid store history faults next answer how
    by_row m e None none =
        done refusal.NoMessage (b.refused refusal.NoMessage (refusal_is (Some m) e ∙ ap (λ (r : Option LogRow). if is_some r then None else Some refusal.NoMessage) none))
        (first_refused around after name uid store history faults refusal.NoMessage refl refl runs (λ run event lists shows. no_message run event store.map.boxes (indexes_of store.boxes) lists name uid m shows e none))
    by_row m e (Some row) found = by_case (b.begun (refusal_is (Some m) e ∙ ap (λ (r : Option LogRow). if is_some r then None else Some refusal.NoMessage) found))
      where
        by_cause : (why : Refusal) → (answer ≡ progress.Done (reply.Refused why)) × (next ≡ stage.First) → (why ≡ refusal.NoMemory) ⊎ IsAbsent name uid.0 store why → FirstClause around after name uid store history faults next answer how
        by_cause why is_so (inl none) =
            done refusal.NoMemory (is_so.0 ∙ ap (λ (r : Refusal). progress.Done (reply.Refused r)) none, is_so.1) (first_memory around after name uid store history faults runs)
        by_cause why is_so (inr absent) = λ run lane place said lists come shows safe stood. absurd (absent_unstored name uid store history lists why is runs absent shows.1 (safe runs))

        by_case : ((answer ≡ progress.More) × ((region : RegionValue) × IsPinned name uid.0 store region × (next ≡ stage.Reading region))) ⊎ ((why : Refusal) × ((why ≡ refusal.NoMemory) ⊎ IsAbsent name uid.0 store why) × (answer ≡ progress.Done (reply.Refused why)) × (next ≡ stage.First))
            → FirstClause around after name uid store history faults next answer how
        by_case (inl (more, (region, (listed, entry, stored, region_is), next_is))) =
            let next_as : next ≡ stage.Reading (unread (stored_at listed entry)) = next_is ∙ ap stage.Reading region_is in
            let ends = there (unread (stored_at listed entry)) next_as in
            first_as around after name uid store history faults (stage.Reading (unread (stored_at listed entry))) next progress.More answer (did.Step half.Whole) how next_as more (hows ∙ ap (fetch_did stage.First) more)
            (first_pinned around after name uid store history faults listed entry ends.0 is runs stored ends.1)
        by_case (inr (why, cause, answer_is, next_is)) = by_cause why (answer_is, next_is) cause

    by_box : (o : Option BoxMeaning) → list_named store name ≡ o → FirstClause around after name uid store history faults next answer how
    by_box None e =
        done refusal.NoMailbox (b.refused refusal.NoMailbox (refusal_is None e))
        (first_refused around after name uid store history faults refusal.NoMailbox refl refl runs (λ run event lists shows. no_mailbox run event store.map.boxes (indexes_of store.boxes) lists name uid shows e))
    by_box (Some m) e = by_row m e (row_at m uid.0) refl

-- ---- a piece

-- what refuses a piece is no step, and the request goes on behind it
piece_why : (name : List ℕ) (uid : Uid) (why : Refusal) → IsPieceRefusal why → (is_step why ≡ false) × (why ≡ refusal.NoMemory → ⊥) × MayMeet ReadsPiece (request.Fetch name uid) why × (behind_refused (request.Fetch name uid) ReadsPiece why ≡ Some Unpins)
piece_why name uid refusal.ReadFault h = (refl, (λ e. let k : refusal.ReadFault ≡ refusal.NoMemory = e in cc k), refl, refl)
piece_why name uid (refusal.Damaged file offset) h = (refl, (λ e. let k : refusal.Damaged file offset ≡ refusal.NoMemory = e in cc k), refl, refl)
piece_why name uid why h = absurd h

read_done : (around after : Around) (run : Run) (lane place : ℕ) (said : List Reply) (name : List ℕ) (uid : Uid) (lists : Lists) (old : Seen) (history : Option History) (faults : Faults) (region : RegionValue) → HasComeTo run old → ShowsSeen old lists → IsIdle old.history history
    → NoFault old.faults faults → old.stopped ≡ false → HasReadAllBut region.from (pieces_left region.left) (own_events place run) → 0 < pieces_left region.left
    → DidBy around after run lane place said (request.Fetch name uid) lists old (behind_reading old history faults old.pins old.known) did.Quiet None (fetch_event ReadsPiece lane place None (told_calls history)) None
read_done around after run lane place said name uid lists old history faults region come shows idle quiet runs read left =
    did_late around after run lane place said name uid lists old history faults old.pins old.known ReadsPiece None (piece_is_late name uid) come shows runs idle quiet (next_reads around name uid run place (pieces_left region.left) region.from read left)
    (record { 0 = λ h. absurd (h refl); 1 = λ e. absurd (never_none (piece_left place (and_then run (fetch_event ReadsPiece lane place None (told_calls history)))) e) }) tt (λ given e. absurd (no_reply given e)) (λ e. no_reply (reply.Refused refusal.Stopped) e)
    (λ ran file. pins_still run (fetch_event ReadsPiece lane place None (told_calls history)) file refl refl ∙ (come.keeps ran).pins file)

read_refused : (around after : Around) (run : Run) (lane place : ℕ) (said : List Reply) (name : List ℕ) (uid : Uid) (lists : Lists) (old : Seen) (history : Option History) (faults : Faults) (region : RegionValue) (why : Refusal) → HasComeTo run old → ShowsSeen old lists → IsIdle old.history history
    → NoChangeFault old.faults faults → (why ≢ refusal.ReadFault → NoFault old.faults faults) → old.stopped ≡ false → HasReadAllBut region.from (pieces_left region.left) (own_events place run) → 0 < pieces_left region.left → IsPieceRefusal why → (why ≡ refusal.ReadFault → Rose old.faults.reads faults.reads)
    → DidBy around after run lane place said (request.Fetch name uid) lists old (behind_reading old history faults old.pins old.known) did.Quiet None (refusal_event lane place ReadsPiece why None no_numbers (told_calls history)) None
read_refused around after run lane place said name uid lists old history faults region why come shows idle none quiet runs read left refused rose =
    let q = request.Fetch name uid in
    let event : RunEvent = refusal_event lane place ReadsPiece why None no_numbers (told_calls history) in
    let new : Seen = behind_reading old history faults old.pins old.known in
    let w = piece_why name uid why refused in
    let same = none.changes in
    did_refused around after run lane place said q ReadsPiece lists old new why None None did.Quiet no_numbers
    (record {
      finds = λ lane calls. tt;
      found = λ lane calls. tt;
      part_is = next_reads around name uid run place (pieces_left region.left) region.from read left;
      ends = record { 0 = λ h. absurd (h refl); 1 = λ e. absurd (let k : Some Unpins ≡ None = sym w.3 ∙ e in cc k) };
      replied = λ given e. absurd (no_reply given e);
    }) (record {
      comes = comes_with_pins run event old history faults old.pins old.known come (comes_along run event old new come refl refl (idle_grows old.history history idle) refl refl refl) (λ other. refl) refl refl refl refl refl refl (λ ran file. pins_still run event file refl refl ∙ (come.keeps ran).pins file);
      shows = shows;
      lasts = idle_lasts old.map old.history history idle;
      reads = none.reads;
      changes = omega (arith, same);
    }) w.2 (λ e. absurd (w.1 e)) (λ event. inl refl) (λ s. refl) (λ s. absurd (fall (is_step why) s w.0)) (sym w.0) refl (refl, refl, idle_leads lists old history faults old.pins old.known idle) (record {
      in_turn = λ some. absurd (unstepped some);
      replied = λ given e. absurd (no_reply given e);
      halts = record { 0 = λ e. absurd (no_reply (reply.Refused refusal.Stopped) e); 1 = λ e. absurd (fall old.stopped e runs) };
      still = λ e. absurd (fall old.stopped e runs);
      reads = λ e. rose (one_refusal why refusal.ReadFault e);
      faults = record { reads = none.reads; changes = omega (arith, same); rose = λ x. absurd x };
      unfailed = λ differs faulty. quiet (λ is. differs (ap (λ (r : Refusal). Some r) is));
    })

-- its own events with one more
one_piece_more : (from : StoredAt) (own behind : List RunEvent) (event : RunEvent) (more : List RunEvent) → HasPinned from own behind → more ≡ own ++ event ∷ [] → HasPinned from more (behind ++ event ∷ [])
one_piece_more from own behind event more h e = record { pin = h.pin; own_are = e ∙ ap (λ (es : List RunEvent). es ++ event ∷ []) h.own_are; part = h.part; unrefused = h.unrefused; pins = h.pins }

-- one piece more is read, and one less is left
count_more : (xs : List RunEvent) (x : RunEvent) (left after all : ℕ) → length xs + left ≡ all → after + 1 ≡ left → length (xs ++ x ∷ []) + after ≡ all
count_more xs x left after all e less = let h = length-append xs (x ∷ []) in omega (arith, h, e, less)

-- what was read with one piece more, on a disk that has not changed
front_on : (region : RegionValue) (octets piece : List ℕ) (old new : Option History) → IsIdle old new → IfTold old (λ disk. piece ≡ next_piece region disk) → Reading (IsFrontOfStored region octets) old → Reading (IsFrontOfStored (with_piece region piece) octets) new
front_on region octets piece None new idle told f = absurd f
front_on region octets piece (Some old) None idle told f = absurd idle.same
front_on region octets piece (Some old) (Some new) idle told f = subst (λ (d : DiskState). IsFrontOfStored (with_piece region piece) octets (files_of d)) (sym idle.same) (front_more region octets piece old.now f told)

true_on : (region : RegionValue) (octets : List ℕ) (history : Option History) (given : Reply) → Reading (IsFrontOfStored region octets) history → pieces_left region.left ≡ 0 → IsReplyFor region.from region.octets given → IsTrueReply octets given
true_on region octets None given f none is = absurd f
true_on region octets (Some h) given f none is = true_reply region octets (files_of h.now) given f none is

abbrev PieceClause : {D : Type 0} → Around → Around → List ℕ → Uid → RegionValue → StoreValue D → Option History → Faults → StoreValue D → Option History → Faults → FetchStage → Type 0
PieceClause around after name uid region store history faults new then_history then_faults next = FetchSteps around after name uid (stage.Reading region) next store new history then_history faults then_faults did.Quiet None

-- a piece behind which others are read
piece_more : {D : Type 0} → (around after : Around) (name : List ℕ) (uid : Uid) (region : RegionValue) (store : StoreValue D) (disk : D) (history then_history : Option History) (faults then_faults : Faults) (piece : List ℕ) → HasPieceLeft (stage.Reading region) → store.stopped ≡ false → IsIdle history then_history
    → NoFault faults then_faults → IfTold history (λ d. piece ≡ next_piece region d) → PieceClause around after name uid region store history faults (record store { disk = disk }) then_history then_faults (stage.Reading (with_piece region piece))
piece_more around after name uid region store disk history then_history faults then_faults piece left runs idle quiet told = λ run lane place said lists come shows safe stood.
    let seen = seen_in store history faults in
    let new = seen_in (record store { disk = disk }) then_history then_faults in
    let event = fetch_event ReadsPiece lane place None (told_calls then_history) in
    stands_by around after run lane place said (request.Fetch name uid) lists seen new did.Quiet None event None (IsAtFetch (stage.Reading (with_piece region piece)) new.stopped new.history)
    (read_done around after run lane place said name uid lists seen then_history then_faults region come shows idle quiet runs stood.0 left.0)
    (λ goes_on. (
      (
        stood.0.0 ++ event ∷ [],
        one_piece_more region.from (own_events place run) stood.0.0 event (own_events place (and_then run event)) stood.0.1 (own_more place run event (eq-eqb place place refl)),
        All-push (ReadPiece None) stood.0.0 event stood.0.2 (record { part = refl; pinned = refl; refused_is = refl }),
        count_more stood.0.0 event (pieces_left region.left) (pieces_left (left_after region.left)) (pieces_left (parts_to_read region.from)) stood.0.3 (pieces_after region.left left.1 left.0),
      ),
      (stood.1.0, stood.1.1, λ runs_now. front_on region stood.1.0 piece history then_history idle told (stood.1.2 runs)),
    ))

-- the last piece, or one that failed: by this it will reply
piece_last : {D : Type 0} → (around after : Around) (name : List ℕ) (uid : Uid) (region : RegionValue) (store : StoreValue D) (disk : D) (history then_history : Option History) (faults then_faults : Faults) (given : Reply) (why : Refusal) → HasPieceLeft (stage.Reading region) → store.stopped ≡ false → IsIdle history then_history
    → NoChangeFault faults then_faults → (why ≢ refusal.ReadFault → NoFault faults then_faults) → refusal_in given ≡ Some why → IsPieceRefusal why → (why ≡ refusal.ReadFault → Rose faults.reads then_faults.reads) → ((octets : List ℕ) → Reading (IsFrontOfStored region octets) history → IsTrueReply octets given)
    → PieceClause around after name uid region store history faults (record store { disk = disk }) then_history then_faults (stage.Unpinning region.from given)
piece_last around after name uid region store disk history then_history faults then_faults given why left runs idle none quiet refused may rose true_is = λ run lane place said lists come shows safe stood.
    let seen = seen_in store history faults in
    let new = seen_in (record store { disk = disk }) then_history then_faults in
    let event = refusal_event lane place ReadsPiece why None no_numbers (told_calls then_history) in
    stands_by around after run lane place said (request.Fetch name uid) lists seen new did.Quiet None event None (IsAtFetch (stage.Unpinning region.from given) new.stopped new.history)
    (read_refused around after run lane place said name uid lists seen then_history then_faults region why come shows idle none quiet runs stood.0 left.0 may rose)
    (λ goes_on. (
      inr (
        why,
        stood.0.0,
        event,
        refused,
        may,
        one_piece_more region.from (own_events place run) stood.0.0 event (own_events place (and_then run event)) stood.0.1 (own_more place run event (eq-eqb place place refl)),
        stood.0.2,
        record { part = refl; pinned = refl; refused_is = refl },
      ),
      (stood.1.0, stood.1.1, true_is stood.1.0 (stood.1.2 runs)),
    ))

-- the last piece of the message that is stored there
piece_whole : {D : Type 0} → (around after : Around) (name : List ℕ) (uid : Uid) (region : RegionValue) (store : StoreValue D) (disk : D) (history then_history : Option History) (faults then_faults : Faults) (given : Reply) → HasPieceLeft (stage.Reading region) → store.stopped ≡ false → IsIdle history then_history
    → NoFault faults then_faults → refusal_in given ≡ None → pieces_left (left_after region.left) ≡ 0 → ((octets : List ℕ) → Reading (IsFrontOfStored region octets) history → IsTrueReply octets given)
    → PieceClause around after name uid region store history faults (record store { disk = disk }) then_history then_faults (stage.Unpinning region.from given)
piece_whole around after name uid region store disk history then_history faults then_faults given left runs idle quiet fetched last true_is = λ run lane place said lists come shows safe stood.
    let seen = seen_in store history faults in
    let new = seen_in (record store { disk = disk }) then_history then_faults in
    let event = fetch_event ReadsPiece lane place None (told_calls then_history) in
    stands_by around after run lane place said (request.Fetch name uid) lists seen new did.Quiet None event None (IsAtFetch (stage.Unpinning region.from given) new.stopped new.history)
    (read_done around after run lane place said name uid lists seen then_history then_faults region come shows idle quiet runs stood.0 left.0)
    (λ goes_on. (
      inl (
        fetched,
        (
          stood.0.0 ++ event ∷ [],
          one_piece_more region.from (own_events place run) stood.0.0 event (own_events place (and_then run event)) stood.0.1 (own_more place run event (eq-eqb place place refl)),
          All-push (ReadPiece None) stood.0.0 event stood.0.2 (record { part = refl; pinned = refl; refused_is = refl }),
          count_more stood.0.0 event (pieces_left region.left) 0 (pieces_left (parts_to_read region.from)) stood.0.3 (let one = pieces_after region.left left.1 left.0 in omega (arith, one, last)),
        ),
      ),
      (stood.1.0, stood.1.1, true_is stood.1.0 (stood.1.2 runs)),
    ))

piece_to : {D : Type 0} → (around after : Around) (name : List ℕ) (uid : Uid) (region : RegionValue) (store new : StoreValue D) (history then_history : Option History) (faults then_faults : Faults) (a b : FetchStage) → new ≡ record store { disk = new.disk } → b ≡ a
    → PieceClause around after name uid region store history faults (record store { disk = new.disk }) then_history then_faults a → PieceClause around after name uid region store history faults new then_history then_faults b
piece_to {D = D} around after name uid region store new history then_history faults then_faults a b same stages h =
    subst (λ (n : FetchStage). PieceClause around after name uid region store history faults new then_history then_faults n) (sym stages)
    (subst (λ (s : StoreValue D). PieceClause around after name uid region store history faults s then_history then_faults a) (sym same) h)

-- An event that reads a piece, of a store that isn't stopped.
pub read_steps : {D : Type 0} → (around after : Around) (name : List ℕ) (uid : Uid) (region : RegionValue) (store new : StoreValue D) (history then_history : Option History) (faults then_faults : Faults) (next : FetchStage) → HasPieceLeft (stage.Reading region) → store.stopped ≡ false → new ≡ record store { disk = new.disk }
    → IsIdle history then_history → NoChangeFault faults then_faults → ((HasFailedRead next → ⊥) → NoFault faults then_faults) → IsPieceRead region next history faults then_faults → PieceClause around after name uid region store history faults new then_history then_faults next
read_steps around after name uid region store new history then_history faults then_faults next left runs same idle none quiet (inr (rose, e)) =
    piece_to around after name uid region store new history then_history faults then_faults (stage.Unpinning region.from (reply.Refused refusal.ReadFault)) next same e
    (piece_last around after name uid region store new.disk history then_history faults then_faults (reply.Refused refusal.ReadFault) refusal.ReadFault left runs idle none (λ differs. absurd (differs refl)) refl tt (λ k. rose) (λ octets f. inr refl))
read_steps around after name uid region store new history then_history faults then_faults next left runs same idle none quiet (inl (piece, told, goes)) = by_size (cases_lt 0 (pieces_left (left_after region.left)))
  where
    now : (octets : List ℕ) → Reading (IsFrontOfStored region octets) history → Reading (IsFrontOfStored (with_piece region piece) octets) then_history
    now octets f = front_on region octets piece history then_history idle told f

    by_reply : (last : pieces_left (left_after region.left) ≡ 0) (given : Reply) → next ≡ stage.Unpinning region.from given → IsReplyFor region.from (region.octets ++ piece) given → PieceClause around after name uid region store history faults new then_history then_faults next
    by_reply last given e (inl (octets, holds, is)) =
        piece_to around after name uid region store new history then_history faults then_faults (stage.Unpinning region.from given) next same e
        (piece_whole around after name uid region store new.disk history then_history faults then_faults given left runs idle (quiet (λ failed. subst (λ (r : Reply). HasFailedRead (stage.Unpinning region.from r)) is (subst HasFailedRead e failed))) (ap refusal_in is) last
        (λ text f. true_on (with_piece region piece) text then_history given (now text f) last (inl (octets, holds, is))))
    by_reply last given e (inr (none_held, is)) =
        piece_to around after name uid region store new history then_history faults then_faults (stage.Unpinning region.from given) next same e
        (piece_last around after name uid region store new.disk history then_history faults then_faults given (refusal.Damaged region.from.file region.from.offset) left runs idle none (λ differs. quiet (λ failed. subst (λ (r : Reply). HasFailedRead (stage.Unpinning region.from r)) is (subst HasFailedRead e failed))) (ap refusal_in is) tt (λ k. absurd (let f : refusal.Damaged region.from.file region.from.offset ≡ refusal.ReadFault = k in cc f))
        (λ text f. true_on (with_piece region piece) text then_history given (now text f) last (inr (none_held, is))))

    by_size : (0 < pieces_left (left_after region.left)) ⊎ (pieces_left (left_after region.left) ≤ 0) → PieceClause around after name uid region store history faults new then_history then_faults next
    by_size (inl more) =
        piece_to around after name uid region store new history then_history faults then_faults (stage.Reading (with_piece region piece)) next same (goes.more more)
        (piece_more around after name uid region store new.disk history then_history faults then_faults piece left runs idle (quiet (λ failed. subst HasFailedRead (goes.more more) failed)) told)
    by_size (inr last) = let none_left : pieces_left (left_after region.left) ≡ 0 = omega (arith, last) in let r = goes.last none_left in by_reply none_left r.0 r.1 r.2

-- ---- the last event

none_or : (r : Option Refusal) → option_or None r ≡ r
none_or r = refl

no_more : (b : Bool) → b ≡ true → (if b then Some RemovesFile else None) ≡ None → ⊥
no_more b e f = let k : Some RemovesFile ≡ None = sym (ap (λ (t : Bool). if t then Some RemovesFile else None) e) ∙ f in cc k

-- the pins that the run has once it has unpinned are the store's
pins_then : {D : Type 0} → (run : Run) (place : ℕ) (event : RunEvent) (from : StoredAt) (given : Reply) (store : StoreValue D) (history : Option History) (faults : Faults) (file : ℕ) → event.request ≡ place → is_unpinning event ≡ true → HasComeTo run (seen_in store history faults) → store.stopped ≡ false → AreIn store (claims_of_pinned from)
    → UnpinsNext from given (own_events place run) → pins_of (and_then run event) file ≡ pins_kept_in (without_claims from store) file
pins_then run place event from given store history faults file same unpins come runs claimed stood =
    let pin = holds_pin from given place run stood in
    let a = pins_end run event file (one_pin from.file.0 file) unpins (ap (λ (r : ℕ). has_unpinned r run) same ∙ pin.none) (ap (λ (r : ℕ). sum_by (pins_at_all file) (own_events r run)) same ∙ pin.one file) in
    let b = (come.keeps runs).pins file in
    let c = pins_fewer from.file.0 file store.files.files (own_pinned from store claimed) in
    omega (arith, a, b, c)

-- Once it has unpinned, the file is to be removed if and only if it was doomed, and this was its last pin.
leaves_then : {D : Type 0} → (run : Run) (place : ℕ) (event : RunEvent) (from : StoredAt) (given : Reply) (store : StoreValue D) (history : Option History) (faults : Faults) → event.request ≡ place → is_unpinning event ≡ true → event.pins ≡ [] → event.doomed ≡ [] → event.removed ≡ []
    → HasComeTo run (seen_in store history faults) → store.stopped ≡ false → AreIn store (claims_of_pinned from) → UnpinsNext from given (own_events place run) → leaves_doomed place (and_then run event) ≡ is_last_pin from.file.0 store
leaves_then run place event from given store history faults same unpins none doomed removed come runs claimed stood =
    let own : PinsFile from.file.0 (own_events place (and_then run event)) =
    subst (PinsFile from.file.0) (sym (own_more place run event (eq-eqb event.request place same))) (pins_file_more from.file.0 (own_events place run) event none (pins_file from given (own_events place run) stood)) in
    leaves_is place (and_then run event) from.file.0 own
    ∙ (ap (λ (d : Bool). d && not (is_pinned (and_then run event) from.file.0)) (doomed_still run event from.file.0 doomed removed ∙ (come.keeps runs).doomed from.file.0)
    ∙ (ap (λ (p : Bool). is_doomed_in from.file.0 store.files.files && not p) (pinned_is (and_then run event) from.file.0 ∙ ap (λ (n : ℕ). nat_lt 0 n) (pins_then run place event from given store history faults from.file.0 same unpins come runs claimed stood))
    ∙ last_is (is_doomed_in from.file.0 store.files.files) (pins_in from.file.0 store.files.files) (pins_kept_in (without_claims from store) from.file.0)
    (let c = pins_fewer from.file.0 from.file.0 store.files.files (own_pinned from store claimed) in let one = own_one from.file.0 in omega (arith, c, one))))

-- the store as it is seen then
unpinned_seen : {D : Type 0} → (from : StoredAt) (store : StoreValue D) (history : Option History) (faults : Faults) → seen_in (without_claims from store) history faults ≡ behind_reading (seen_in store history faults) history faults (pins_kept_in (without_claims from store)) (found_let_go from.instances store.instances.known)
unpinned_seen from store history faults = use_seen from (pins_in from.file.0 store.files.files - 1) (found_let_go from.instances store.instances.known) store history faults (λ id. rows_let_go from.instances id store.instances.known)

-- It replies: the file isn't to be removed.
pub unpin_steps : {D : Type 0} → (around after : Around) (name : List ℕ) (uid : Uid) (from : StoredAt) (given : Reply) (store : StoreValue D) (history : Option History) (faults : Faults) → store.stopped ≡ false → is_last_pin from.file.0 store ≡ false → AreIn store (claims_of_pinned from)
    → FetchSteps around after name uid (stage.Unpinning from given) stage.First store (without_claims from store) history history faults faults did.Quiet (Some given)
unpin_steps around after name uid from given store history faults runs kept claimed = λ run lane place said lists come shows safe stood.
    let seen : Seen = seen_in store history faults in
    let pins : ℕ → ℕ = pins_kept_in (without_claims from store) in
    let event = fetch_event Unpins lane place (Some given) (told_calls history) in
    subst (λ (s : Seen). (d : DidEvent around after run lane place said (request.Fetch name uid) lists seen s did.Quiet (Some given)) × (Some given ≡ None → IsAtFetch stage.First s.stopped s.history (and_then run d.makes.event) place (and_told said d.makes.answer))) (sym (unpinned_seen from store history faults)) (
      (did_late around after run lane place said name uid lists seen history faults pins (found_let_go from.instances store.instances.known) Unpins (Some given) (unpin_is_late name uid) come shows runs (idle-begins history) refl (next_unpins around name uid run place from given stood.0)
          (record { 0 = λ h. ap (λ (t : Bool). if t then Some RemovesFile else None) (leaves_then run place event from given store history faults refl refl refl refl refl come runs claimed stood.0 ∙ kept); 1 = λ e f. some_reply given f })
          (last_with (own_events place run) event ∙ (none_or (last_refusal (own_events place run)) ∙ unpins_by from given (own_events place run) stood.0))
          (replied_so (request.Fetch name uid) said given (true_reply_of name uid stood.1.0 given said stood.1.1 stood.1.2)) (λ e. not_stopped stood.1.0 given stood.1.2 (one_reply given (reply.Refused refusal.Stopped) e))
          (λ ran file. pins_then run place event from given store history faults file refl refl come runs claimed stood.0)).so,
      λ e. absurd (never_more _ e),
    )

-- It goes on: the file is to be removed.
pub last_pin_steps : {D : Type 0} → (around after : Around) (name : List ℕ) (uid : Uid) (from : StoredAt) (given : Reply) (store : StoreValue D) (history : Option History) (faults : Faults) → store.stopped ≡ false → is_last_pin from.file.0 store ≡ true → AreIn store (claims_of_pinned from)
    → FetchSteps around after name uid (stage.Unpinning from given) (stage.Removing from.file given) store (without_claims from store) history history faults faults did.Quiet None
last_pin_steps around after name uid from given store history faults runs last claimed = λ run lane place said lists come shows safe stood.
    let seen : Seen = seen_in store history faults in
    let pins : ℕ → ℕ = pins_kept_in (without_claims from store) in
    let new : Seen = behind_reading seen history faults pins (found_let_go from.instances store.instances.known) in
    let event = fetch_event Unpins lane place None (told_calls history) in
    let leaves : leaves_doomed place (and_then run event) ≡ true = leaves_then run place event from given store history faults refl refl refl refl refl come runs claimed stood.0 ∙ last in
    subst (λ (s : Seen). (d : DidEvent around after run lane place said (request.Fetch name uid) lists seen s did.Quiet None) × (◌≡◌ {A = Option Reply} None None → IsAtFetch (stage.Removing from.file given) s.stopped s.history (and_then run d.makes.event) place (and_told said d.makes.answer))) (sym (unpinned_seen from store history faults))
    (stands_by around after run lane place said (request.Fetch name uid) lists seen new did.Quiet None event None (IsAtFetch (stage.Removing from.file given) new.stopped new.history)
    (did_late around after run lane place said name uid lists seen history faults pins (found_let_go from.instances store.instances.known) Unpins None (unpin_is_late name uid) come shows runs (idle-begins history) refl (next_unpins around name uid run place from given stood.0)
    (record { 0 = λ h. absurd (h refl); 1 = λ e. absurd (no_more (leaves_doomed place (and_then run event)) leaves e) }) tt
    (λ r e. absurd (no_reply r e)) (λ e. no_reply (reply.Refused refusal.Stopped) e)
    (λ ran file. pins_then run place event from given store history faults file refl refl come runs claimed stood.0))
    (λ goes_on. (
      record {
        from = from;
        file_is = refl;
        front = own_events place run;
        unpinned = stood.0;
        last = event;
        own_are = own_more place run event (eq-eqb place place refl);
        part = refl;
        none_pinned = refl;
        unrefused = refl;
      },
      leaves,
      stood.1,
    )))

-- ---- the stages stay

pub fetch_stays : (now : FetchStage) (stopped : Bool) (history : Option History) (run : Run) (place : ℕ) (said : List Reply) (event : RunEvent) → event.request ≢ place → SparesFile now event → IsAtFetch now stopped history run place said → IsAtFetch now stopped history (and_then run event) place said
fetch_stays stage.First stopped history run place said event other spares stood = (own_other place run event (ne_eqb event.request place other) ∙ stood.0, stood.1)
fetch_stays (stage.Reading region) stopped history run place said event other spares stood =
    (subst (HasReadAllBut region.from (pieces_left region.left)) (sym (own_other place run event (ne_eqb event.request place other))) stood.0, stood.1)
fetch_stays (stage.Unpinning from given) stopped history run place said event other spares stood = (subst (UnpinsNext from given) (sym (own_other place run event (ne_eqb event.request place other))) stood.0, stood.1)
fetch_stays (stage.Removing file given) stopped history run place said event other spares stood =
    (subst (RemovesNext file.0 given) (sym (own_other place run event (ne_eqb event.request place other))) stood.0, leaves_still run event place file.0 (removes_pins file.0 given (own_events place run) stood.0) other spares.0 spares.1 stood.1, stood.2)

-- ---- files that are safe

-- Files that are safe for the lists store each of their messages.
pub safe_fetched : {D : Type 0} → (now : FetchStage) (name : List ℕ) (uid : Uid) (store : StoreValue D) (history : Option History) (lists : Lists) → IsStore history store → store.stopped ≡ false → ReadsSafe lists history → CanFetch now name uid lists store.map history
safe_fetched stage.First name uid store history lists is runs safe = λ message listed.
    reading_as (HaveMessages store.map lists) (StoresListed store.map message) history (λ files there. listed_stored files store.map store.map.boxes lists name uid.0 message (store_is_sound history store is) there.boxes there.instances listed) (boxes_safe history store lists is runs safe)
safe_fetched (stage.Reading region) name uid store history lists is runs safe = tt
safe_fetched (stage.Unpinning from given) name uid store history lists is runs safe = tt
safe_fetched (stage.Removing file given) name uid store history lists is runs safe = tt
