-- The first event of a copy or a move, by the clause of a step: the count is raised, or it is refused.
use Rattle.mail_ops.proofs.Common.{MapFits, nat_tests, ◌≡◌, ◌≤◌, ◌<◌, ◌+◌, ℕ, Bool, true, false, List, [], ◌∷◌, Option, Some, None, refl, sym, ◌∙◌, ap, subst, arith, inl, inr, ◌⊎◌, nat_le, length, slice_get, is_some, if◌then◌else◌, option_map_or, option_or, common_steps, History, Faults}
use Rattle.mail_ops.proofs.Common.{told_calls, BoxNo, MapUid, Uid, Did, Refusal, Reply, Request, Half, ListedMessage, Lists, LogRow, BoxMeaning, row_at, MapMeaning, record_of, map_applied, no_numbers, ShowLists, First, RunEvent, event_of, Run, and_then, map_of, first_refusal}
use Rattle.mail_ops.proofs.Common.{refused_where, part_checks, is_step, halves_of, Around, due_at, IsStore, StoreValue, indexes_of, list_named, one_due, HasComeTo, Steps, MapFell, IsHolding, copy_refusal, room_refusal, raising_of, RaisesRow, IsRaiseRefusal}
use Rattle.mail_ops.proofs.Common.{seen_of, CanRefuse, did_check, did_fall, did_forget, did_own, did_stop, ends_well, no_reply, own_event, refuses, replied_so, stands_by, stays_left, stays_itself, first_reply, never_more, nothing}
use Rattle.mdbox_base.specs.declared.entries.MapEntry.TheVariants as map_entry
use Rattle.mdbox_base.specs.declared.progress.Did.TheVariants as did
use Rattle.mdbox_base.specs.declared.replies.Refusal.TheVariants as refusal
use Rattle.mdbox_base.specs.declared.replies.Reply.TheVariants as reply
use Rattle.model_meaning.specs.MapMeaning.{count_of}
use Rattle.list_machine.specs.Run.{uid_added}
use Rattle.list_machine.specs.Machine.{MayBeCopied}
use Rattle.mail_ops.specs.Copying.{CopyPlace}
use Rattle.mail_ops.specs.CopyStages.{IsToRaise}
use Rattle.mail_ops.proofs.CopyCallLemmas.{source_some}
use Rattle.mail_ops.proofs.CopyPartLemmas.{IsCopying, first_goes_on, raise_next}
use Rattle.mail_ops.proofs.CopyPlaceLemmas.{place_checked}
use Rattle.mail_ops.proofs.LastEventLemmas.{copied_new, ends_in, held_new, source_new, unrefused_more}
use Rattle.mail_ops.proofs.LoweringLemmas.{comes_with, shows_still, leads_still, one_fits}
use Rattle.mail_ops.proofs.MessageLemmas.{shown_row, shown_guid, record_of_row}
use Rattle.mail_ops.proofs.RemovalLemmas.{took_tells, map_fell_stays}
use Rattle.mail_ops.proofs.ToldLemmas.{memory_runs, step_runs}

-- the clause of a step of a request that copies
abbrev pub CopyingClause : {D : Type 0} → Request → (Run → ℕ → List Reply → Type 0) → (Run → ℕ → List Reply → Type 0) → StoreValue D → StoreValue D → Option History → Option History → Faults → Faults → Did → Option Reply → Type 0
CopyingClause q Stood Stands old new before after began faulted how ended = (around behind : Around) (pins : ℕ → ℕ) → Steps Stood Stands around behind q (seen_of pins old before began) (seen_of pins new after faulted) how ended

pub raise_refuses : (around : Around) (run : Run) (place : ℕ) (said : List Reply) (q : Request) (name : List ℕ) (uid : Uid) (target : List ℕ) (half : Half) (why : Refusal) → IsCopying q name uid target half → IsToRaise run place said → CanRefuse around run place q First why (Some (reply.Refused why)) no_numbers
raise_refuses around run place said q name uid target half why c stood = refuses around run place q First why no_numbers (λ lane calls. c.finds around _) (λ lane calls. c.found around run _ First) (raise_next around run q name uid target half place said c stood) (c.refused_first why)

-- ---- what the first event looks at

-- the count of the message's record
copies_checked : {D : Type 0} → (pins : ℕ → ℕ) → (history : Option History) (faults : Faults) (run : Run) (name : List ℕ) (uid : ℕ) (target : List ℕ) (store : StoreValue D) (row : LogRow) (number next : ℕ) (lists : Lists) → CopyPlace name uid target store row number next → ShowLists store.map.boxes (indexes_of store.boxes) lists → HasComeTo run (seen_of pins store history faults)
    → first_refusal run lists (MayBeCopied name uid ∷ []) ≡ option_or (refused_where (nat_le 65535 (count_of store.map row.guid)) (refusal.TooManyCopies 65535)) None
copies_checked pins history faults run name uid target store row number next lists at h come =
    let s = shown_row store name uid at.source row lists at.from h in
    ap (λ (o : Option ListedMessage). option_or (refused_where (option_map_or (λ m. nat_le 65535 (count_of (map_of run) m.guid)) o false) (refusal.TooManyCopies 65535)) None) s.there
    ∙ ap (λ (m : MapMeaning). option_or (refused_where (nat_le 65535 (count_of m s.message.guid)) (refusal.TooManyCopies 65535)) None) come.come.map_is
    ∙ ap (λ (guid : List ℕ). option_or (refused_where (nat_le 65535 (count_of store.map guid)) (refusal.TooManyCopies 65535)) None) (sym (shown_guid name uid at.source lists row s))

pub no_room : (m : BoxMeaning) (next : ℕ) → next ≡ m.next → length m.rows < 1000000 → next ≤ 4294967294 → room_refusal m ≡ None
no_room m next is few some =
    let a : nat_le 1000000 (length m.rows) ≡ false = grind (arith, common_steps, few) in
    let l : m.next ≤ 4294967294 = omega (arith, is, some) in
    let b : nat_le 4294967295 m.next ≡ false = grind (arith, common_steps, l) in
    rw (a, b) refl

-- where a message can be copied, no check of its place refuses
pub place_free : {D : Type 0} → (name : List ℕ) (uid : ℕ) (target : List ℕ) (store : StoreValue D) (row : LogRow) (number next : ℕ) → CopyPlace name uid target store row number next → copy_refusal name uid target store ≡ None
place_free name uid target store row number next at =
    ap (λ (o : Option BoxMeaning). option_map_or (λ from. option_map_or (λ to. if is_some (row_at from uid) then room_refusal to else Some refusal.NoMessage) (list_named store target) (Some refusal.NoMailbox)) o (Some refusal.NoMailbox)) at.from.box.named
    ∙ ap (λ (o : Option BoxMeaning). option_map_or (λ to. if is_some (row_at at.from.m uid) then room_refusal to else Some refusal.NoMessage) o (Some refusal.NoMailbox)) at.to.named
    ∙ ap (λ (o : Option LogRow). if is_some o then room_refusal at.m else Some refusal.NoMessage) at.from.listed
    ∙ no_room at.m next at.next_is at.few at.some

pub too_many : (count : ℕ) → 65535 ≤ count → nat_le 65535 count ≡ true
too_many count l = grind (arith, common_steps, l)

pub few_copies : (count : ℕ) → count < 65535 → nat_le 65535 count ≡ false
few_copies count l = grind (arith, common_steps, l)

pub raise_checked : {D : Type 0} → (pins : ℕ → ℕ) → (history : Option History) (faults : Faults) (run : Run) (q : Request) (name : List ℕ) (uid : Uid) (target : List ℕ) (half : Half) (store : StoreValue D) (why : Refusal) (lists : Lists) → IsCopying q name uid target half → IsRaiseRefusal name uid.0 target store why
    → ShowLists store.map.boxes (indexes_of store.boxes) lists → HasComeTo run (seen_of pins store history faults) → (event : RunEvent) → first_refusal run lists (part_checks run event q First) ≡ Some why
raise_checked pins history faults run q name uid target half store why lists c (inl e) h come = λ event.
    ap (first_refusal run lists) (c.checks run event First) ∙ (place_checked run name uid.0 target store lists (MayBeCopied name uid.0 ∷ []) h ∙ ap (λ (r : Option Refusal). option_or r (first_refusal run lists (MayBeCopied name uid.0 ∷ []))) e)
raise_checked pins history faults run q name uid target half store why lists c (inr many) h come = λ event.
    let t = many.0 in
    ap (first_refusal run lists) (c.checks run event First) ∙ (place_checked run name uid.0 target store lists (MayBeCopied name uid.0 ∷ []) h
    ∙ (ap (λ (r : Option Refusal). option_or r (first_refusal run lists (MayBeCopied name uid.0 ∷ []))) (place_free name uid.0 target store t.row t.number t.next t.at)
    ∙ (copies_checked pins history faults run name uid.0 target store t.row t.number t.next lists t.at h come
    ∙ (ap (λ (b : Bool). option_or (refused_where b (refusal.TooManyCopies 65535)) None) (too_many (count_of store.map t.row.guid) t.many) ∙ ap Some (sym many.1)))))

pub raise_allowed : {D : Type 0} → (pins : ℕ → ℕ) → (history : Option History) (faults : Faults) (run : Run) (q : Request) (name : List ℕ) (uid : Uid) (target : List ℕ) (half : Half) (store : StoreValue D) (row : LogRow) (number next : ℕ) (lists : Lists) → IsCopying q name uid target half → CopyPlace name uid.0 target store row number next → count_of store.map row.guid < 65535
    → ShowLists store.map.boxes (indexes_of store.boxes) lists → HasComeTo run (seen_of pins store history faults) → (event : RunEvent) → first_refusal run lists (part_checks run event q First) ≡ None
raise_allowed pins history faults run q name uid target half store row number next lists c at few h come = λ event.
    ap (first_refusal run lists) (c.checks run event First) ∙ (place_checked run name uid.0 target store lists (MayBeCopied name uid.0 ∷ []) h
    ∙ (ap (λ (r : Option Refusal). option_or r (first_refusal run lists (MayBeCopied name uid.0 ∷ []))) (place_free name uid.0 target store row number next at)
    ∙ (copies_checked pins history faults run name uid.0 target store row number next lists at h come
    ∙ ap (λ (b : Bool). option_or (refused_where b (refusal.TooManyCopies 65535)) None) (few_copies (count_of store.map row.guid) few))))

-- ---- it is refused

room_steps : (m : BoxMeaning) (why : Refusal) → room_refusal m ≡ Some why → is_step why ≡ true
room_steps m why e = grind (arith, common_steps, nat_tests)

steps_by : (uid : ℕ) (from to : Option BoxMeaning) (why : Refusal) → option_map_or (λ f. option_map_or (λ t. if is_some (row_at f uid) then room_refusal t else Some refusal.NoMessage) to (Some refusal.NoMailbox)) from (Some refusal.NoMailbox) ≡ Some why → is_step why ≡ true
steps_by uid from to why e = grind (arith, common_steps, nat_tests, room_steps)

pub copy_steps : {D : Type 0} → (name : List ℕ) (uid : ℕ) (target : List ℕ) (store : StoreValue D) (why : Refusal) → copy_refusal name uid target store ≡ Some why → is_step why ≡ true
copy_steps name uid target store why e = steps_by uid (list_named store name) (list_named store target) why e

pub back_runs : {D : Type 0} → (name : List ℕ) (uid : Uid) (target : List ℕ) (why : Refusal) (store : StoreValue D) → (copy_refusal name uid.0 target store ≡ Some why) ⊎ (why ≡ refusal.NoMemory) → why ≡ refusal.Stopped → ⊥
back_runs name uid target why store (inl e) stops = step_runs why (copy_steps name uid.0 target store why e) stops
back_runs name uid target why store (inr m) stops = memory_runs (sym m ∙ stops)

pub raise_steps : {D : Type 0} → (name : List ℕ) (uid : ℕ) (target : List ℕ) (store : StoreValue D) (why : Refusal) → IsRaiseRefusal name uid target store why → is_step why ≡ true
raise_steps name uid target store why (inl e) = copy_steps name uid target store why e
raise_steps name uid target store why (inr many) = ap is_step many.1

pub raise_refused : {D : Type 0} → (q : Request) (name : List ℕ) (uid : Uid) (target : List ℕ) (half : Half) (Stands : Run → ℕ → List Reply → Type 0) (store : StoreValue D) (history : Option History) (faults : Faults) (why : Refusal) → IsCopying q name uid target half → store.stopped ≡ false → IsRaiseRefusal name uid.0 target store why
    → CopyingClause q IsToRaise Stands store store history history faults faults (did.Step half) (Some (reply.Refused why))
raise_refused q name uid target half Stands store history faults why c runs refuses = λ around behind pins run lane place said lists come shows stood.
    let step = raise_steps name uid.0 target store why refuses in (
      (did_check around behind run lane place said q First lists (seen_of pins store history faults) (seen_of pins store history faults) why (Some (reply.Refused why)) half (raise_refuses around run place said q name uid target half why c stood) (stays_left _ _ _ _ _ _ _ _ _ come (stays_itself (seen_of pins store history faults)) shows) runs runs (nothing lists (seen_of pins store history faults)) refl step c.half_first (ap (λ (s : List Reply). slice_get (halves_of q) (length s)) stood.calm.unanswered ∙ (c.halves ∙ ap Some (sym c.half_first))) (raise_checked pins history faults run q name uid target half store why lists c refuses shows.1 come)
          (first_reply q said (Some (reply.Refused why)) (reply.Refused why) stood.calm.unanswered (c.replied why step))).so,
      λ e. absurd (never_more _ e),
    )

pub raise_stopped : {D : Type 0} → (q : Request) (name : List ℕ) (uid : Uid) (target : List ℕ) (half : Half) (Stands : Run → ℕ → List Reply → Type 0) (store : StoreValue D) (history : Option History) (faults : Faults) → IsCopying q name uid target half → store.stopped ≡ true
    → CopyingClause q IsToRaise Stands store store history history faults faults did.Quiet (Some (reply.Refused refusal.Stopped))
raise_stopped q name uid target half Stands store history faults c stopped = λ around behind pins run lane place said lists come shows stood. (
  (did_stop around behind run lane place said q First lists (seen_of pins store history faults) (raise_refuses around run place said q name uid target half refusal.Stopped c stood) come shows stopped).so,
  λ e. absurd (never_more _ e),
)

pub raise_unremembered : {D : Type 0} → (q : Request) (name : List ℕ) (uid : Uid) (target : List ℕ) (half : Half) (Stands : Run → ℕ → List Reply → Type 0) (store : StoreValue D) (history : Option History) (faults : Faults) → IsCopying q name uid target half → store.stopped ≡ false
    → CopyingClause q IsToRaise Stands store store history history faults faults did.Quiet (Some (reply.Refused refusal.NoMemory))
raise_unremembered q name uid target half Stands store history faults c runs = λ around behind pins run lane place said lists come shows stood.
    let seen = seen_of pins store history faults in (
      (did_forget around behind run lane place said q First lists seen seen (Some (reply.Refused refusal.NoMemory)) no_numbers (raise_refuses around run place said q name uid target half refusal.NoMemory c stood) (stays_left _ _ _ _ _ _ _ _ _ come (stays_itself seen) shows) runs runs (nothing lists seen) refl c.memory_first (λ event. inl refl)
          (replied_so q said (reply.Refused refusal.NoMemory) stood.calm.unanswered)).so,
      λ e. absurd (never_more _ e),
    )

pub raise_fell : {D : Type 0} → (q : Request) (name : List ℕ) (uid : Uid) (target : List ℕ) (half : Half) (Stands : Run → ℕ → List Reply → Type 0) (old new : StoreValue D) (before after : Option History) (began faulted : Faults) → IsCopying q name uid target half → old.stopped ≡ false → MapFell old new before after began faulted
    → CopyingClause q IsToRaise Stands old new before after began faulted did.Failed (Some (reply.Refused refusal.Stopped))
raise_fell q name uid target half Stands old new before after began faulted c ran f = λ around behind pins run lane place said lists come shows stood.
    let seen = seen_of pins old before began in
    let later = seen_of pins new after faulted in (
      (did_fall around behind run lane place said q First lists seen later did.Failed no_numbers (raise_refuses around run place said q name uid target half refusal.Stopped c stood)
          (stays_left _ _ _ _ _ _ _ _ _ come (map_fell_stays pins old new before after began faulted f) (shows_still pins old new before after began faulted lists f.appends shows)) ran f.stopped f.rose (λ event. inl refl) tt (record { refused = refl; unanswered = refl; ran = ran; stopped = f.stopped }, λ s. f.appends.moments lists s.0)).so,
      λ e. absurd (never_more _ e),
    )

-- ---- it is raised

abbrev pub raising : ℕ → ℕ → ℕ → ℕ → ℕ → RunEvent
raising lane place uid source calls = record (event_of lane place First calls) { map_entries = map_entry.U (record { 0 = uid }) ∷ []; source = source }

raised_due : (old new held uid : ℕ) → new ≡ old + one_due held uid → new + 0 ≡ old + ((0 + one_due held uid) + 0)
raised_due old new held uid e = omega (arith, e)

-- the request holds the record behind such an event
holds_then : (run : Run) (event : RunEvent) (place : ℕ) (said : List Reply) (held : MapUid) (source : ℕ) → IsToRaise run place said → 1 ≤ source → event.request ≡ place → event.part ≡ First → event.refused ≡ None → event.map_entries ≡ map_entry.U held ∷ [] → event.box_entries ≡ [] → event.source ≡ source
    → IsHolding held source (and_then run event) place said
holds_then run event place said held source stood some own part unrefused raised unlisted from = record {
  calm = unrefused_more run event place said own unrefused stood.calm;
  last = ends_in place run event First own part;
  held_is = held_new place run event held own raised;
  source_is = source_new place run event source own some from;
  uncopied = copied_new place run event own stood.uncopied ∙ ap uid_added unlisted;
}

pub raise_done : {D : Type 0} → (q : Request) (name : List ℕ) (uid : Uid) (target : List ℕ) (half : Half) (held : MapUid) (source : BoxNo) (old new : StoreValue D) (before after : Option History) (began faulted : Faults) → IsCopying q name uid target half → IsStore before old → old.stopped ≡ false → RaisesRow name uid target held source old new before after began faulted
    → CopyingClause q IsToRaise (IsHolding held source.0) old new before after began faulted did.Quiet None
raise_done q name uid target half held source old new before after began faulted c is ran r = λ around behind pins run lane place said lists come shows stood.
    let s = shown_row old name uid.0 r.at.source r.row lists r.at.from shows.1 in
    let k = record_of_row before old name uid.0 r.at.source r.row is r.at.from in
    let own : k.entry.uid ≡ held.0 = k.uid_is ∙ sym r.holds in
    let event : RunEvent = raising lane place k.entry.uid s.mailbox.number (told_calls after) in
    let a = r.took.appends in
    let seen = seen_of pins old before began in
    let later = seen_of pins new after faulted in
    stands_by around behind run lane place said q lists seen later did.Quiet None event None (IsHolding held source.0)
    (did_own around behind run lane place said q lists lists seen later did.Quiet None None event
    (record {
      own = own_event event refl;
      finds = c.finds around event;
      found = c.found around run event First;
      part_is = raise_next around run q name uid target half place said c stood;
      allowed = raise_allowed pins before began run q name uid target half old r.row r.number r.next lists c r.at r.few shows.1 come event;
      fits = one_fits run seen (map_entry.U (record { 0 = k.entry.uid })) come (subst (λ (u : ℕ). MapFits old.map (map_entry.U (record { 0 = u }))) (sym own) r.took.fits);
      did = c.did_first around run lists event (s.mailbox, k.entry, s.named, (s.message, s.there, ap (λ (m : MapMeaning). record_of m s.message.guid) come.come.map_is ∙ k.by_guid s.message.guid (shown_guid name uid.0 r.at.source lists r.row s)), refl);
      ends = record { 0 = λ h. absurd (h refl); 1 = λ h. absurd (first_goes_on behind (and_then run event) q name uid target half event c refl h) };
      replied = tt;
    }) (record { made = refl; pins = refl; unpins = refl; doomed = refl; removed = refl; given = refl; placed = refl; gone = refl }) come (comes_with run event (map_entry.U (record { 0 = k.entry.uid })) seen later come (subst (λ (u : ℕ). new.map ≡ map_applied (map_entry.U (record { 0 = u })) old.map) (sym own) r.took.taken) a.drawn a.grows refl refl refl)
    (λ other. subst (λ (u : ℕ). due_at other new + 0 ≡ due_at other old + ((0 + one_due u other) + 0)) (sym own) (raised_due (due_at other old) (due_at other new) held.0 other (r.took.due other)))
    (took_tells pins (raising_of held) old new before after began faulted ran r.took) (shows_still pins old new before after began faulted lists a shows) a.grows (a.stays old.map) (sym c.steps_first) refl (refl, r.took.runs ∙ sym ran, leads_still pins (raising_of held) old new before after began faulted lists r.took)
    (ends_well q said event None None did.Quiet seen later refl ran r.took.runs r.took.unfailed (λ x. x) (λ e. no_reply (reply.Refused refusal.Stopped) e) (λ some. absurd (let f : false ≡ true = some in cc f)) (λ given e. absurd (no_reply given e))))
    (λ goes_on. holds_then run event place said held source.0 stood (source_some before old name source.0 is (r.at.from.box.number_is ∙ ap Some r.source_is)) refl refl refl (ap (λ (u : ℕ). map_entry.U (record { 0 = u }) ∷ []) own) refl (s.number_is ∙ r.source_is))
