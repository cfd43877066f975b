-- What each event of a copy, a move or an expunge leaves to the tasks beside it.
use Rattle.mail_ops.proofs.Common.{inl, ◌≡◌, ◌≤◌, ◌+◌, ◌||◌, ◌==◌, ℕ, Bool, true, false, cond, List, [], ◌∷◌, Option, Some, refl, sym, ◌∙◌, ap, subst, arith, bytes_eq, option_map_or, eqb-true, History, Faults, BoxEntry, MapEntry, BoxNo, MapUid, Uid, Did, Progress, LogRow, BoxMeaning, MapMeaning}
use Rattle.mail_ops.proofs.Common.{MapRecord, record_at, map_applied, meanings_by, refs_in, due_at, KeepsMail, KeepsRest, KeepsUids, IsStore, StoreValue, indexes_of, no_claims, one_due, BoxTook, MapTook, lowering_of, copy_claims, expunge_claims, move_claims, CopiesOn, AddsRow, IsNotRaised, RaisesRow}
use Rattle.mail_ops.proofs.Common.{added_copy, raising_of, ExpungesOn, MovesOn, CopyStage, NotDone, ExpungeStage, MoveStage, fall, names_stay_same}
use Rattle.std.proofs.Common.{◌-◌}
use Rattle.mdbox_base.specs.declared.entries.BoxEntry.TheVariants as box_entry
use Rattle.mdbox_base.specs.declared.progress.Progress.TheVariants as progress
use Rattle.mdbox_base.specs.declared.replies.Reply.TheVariants as reply
use Rattle.model_appends.specs.Amounts.{bit, more_due}
use Rattle.model_octets.proofs.SearchLemmas.{text_yes}
use Rattle.store_core.specs.Value.{references_to}
use Rattle.task_claims.specs.Claims.{Claims, Due}
use Rattle.task_claims.specs.Leaving.{LeavesOthers, LeavesUnlisted, RaisesNone, SameButCounts}
use Rattle.task_claims.proofs.CountedLemmas.{lowered_same, raised_same, same_map, unraised_by, unraised_lower, unraised_same}
use Rattle.task_claims.proofs.RestLemmas.{mail_same, rest_leaves}
use Rattle.mail_ops.specs.Copy.{CopyValue}
use Rattle.mail_ops.specs.Expunging.{ExpungeValue, IsNotRemoved}
use Rattle.mail_ops.specs.Moving.{MoveValue}
use Rattle.mail_ops.specs.declared.copy.CopyStage.TheVariants as copy_stage
use Rattle.mail_ops.specs.declared.event.NotDone.TheVariants as not_done
use Rattle.mail_ops.specs.declared.expunging.ExpungeStage.TheVariants as expunge_stage
use Rattle.mail_ops.specs.declared.moving.MoveStage.TheVariants as move_stage
use Rattle.mail_ops.proofs.OnlyLogsLemmas.{same_mail}
use Rattle.store_core.specs.MadeLogs.{KeepsGone}
use Rattle.task_claims.proofs.GoneLemmas.{gone_same, gone_stays}
use Rattle.mail_ops.specs.Messages.{IsRowIn}
use Rattle.task_claims.proofs.NameLemmas.{names_stay}
use Rattle.mail_ops.proofs.KeptUidLemmas.{addition_left, highest_rises, removal_left, same_highest, took_keeps}
use Rattle.mail_ops.proofs.MessageLemmas.{record_in, row_in}
use Rattle.mail_ops.proofs.UnlistedLemmas.{addition_lists, entry_refs, flag_lists, listed_counts, removal_lists, words_list}

-- ---- records that no mailbox lists

some_record : (a b : MapRecord) → Some a ≡ Some b → a ≡ b
some_record a b e = cc e

-- a row of a mailbox has another record than one that isn't listed
other_record : {D : Type 0} → (history : Option History) (store : StoreValue D) (number at : ℕ) (row : LogRow) (uid : ℕ) (rec : MapRecord) → IsStore history store → IsRowIn number at store row → record_at store.map uid ≡ Some rec → references_to store rec.guid ≡ 0 → row.map_uid ≡ uid → ⊥
other_record history store number at row uid rec is there found none same =
    let r = record_in history store number at row is there in
    let e : r.entry ≡ rec = some_record r.entry rec (sym r.found ∙ (ap (λ (u : ℕ). record_at store.map u) same ∙ found)) in
    let g : row.guid ≡ rec.guid = sym r.guid_is ∙ ap (λ (x : MapRecord). x.guid) e in
    let c = listed_counts rec.guid number at store.map.boxes (indexes_of store.boxes) there.m row there.numbered there.listed (text_yes row.guid rec.guid g) in
    omega (arith, c, none)

one_none : (a b : ℕ) → a ≡ 1 → b ≡ 0 → a ≡ b → ⊥
one_none a b x y e = omega (arith, x, y, e)

-- what isn't more than nothing
none_more : (a b : ℕ) → a ≤ b → b ≡ 0 → a ≡ 0
none_more a b l e = omega (arith, l, e)

due_other : (t : Bool) (old : ℕ) → (t ≡ true → ⊥) → old + cond t 1 0 ≡ old
due_other true old other = absurd (other refl)
due_other false old other = omega arith

-- the mailboxes and what is due of it stay
same_unlisted : {D : Type 0} → (mine : Claims) (old new : StoreValue D) → indexes_of new.boxes ≡ indexes_of old.boxes → ((uid : ℕ) → mine (Due uid) ≡ 0 → (rec : MapRecord) → record_at old.map uid ≡ Some rec → references_to old rec.guid ≡ 0 → due_at uid new ≡ due_at uid old) → LeavesUnlisted mine old new
same_unlisted mine old new indexes dues = λ uid rec none found listed. (ap (λ (ms : List BoxMeaning). refs_in ms rec.guid) indexes ∙ listed, dues uid none rec found listed)

-- ---- an entry of the map log

map_leaves : {D : Type 0} → (mine : Claims) (entry : MapEntry) (old new : StoreValue D) (before after : Option History) (began now : Faults) → MapTook entry old new before after began now → SameButCounts old.map (map_applied entry old.map) → RaisesNone old.map (map_applied entry old.map) → LeavesUnlisted mine old new → LeavesOthers mine old new before after
map_leaves mine entry old new before after began now t same unraised unlisted =
    let further = t.further in
    let rises = subst (λ (m : MapMeaning). old.map.highest.mailbox ≤ m.highest.mailbox) (sym t.taken) (highest_rises entry old.map) in
    rest_leaves mine old new before after t.appends.files (ap (λ (v : StoreValue _). v.instances) t.appends.rest) (mail_same before after t.mail) (subst (λ (m : MapMeaning). SameButCounts old.map m) (sym t.taken) same) (subst (λ (m : MapMeaning). RaisesNone old.map m) (sym t.taken) unraised) rises (omega (arith, further)) (inl (names_stay old.map new.map t.appends.mailboxes))
    (gone_stays old new t.appends.mailboxes (ap (λ (v : StoreValue _). v.made) t.appends.rest) rises) (took_keeps entry old new before after began now t) t.appends.room unlisted

raise_leaves : {D : Type 0} → (mine : Claims) (name : List ℕ) (uid : Uid) (target : List ℕ) (held : MapUid) (source : BoxNo) (old new : StoreValue D) (before after : Option History) (began now : Faults) → IsStore before old → RaisesRow name uid target held source old new before after began now → LeavesOthers mine old new before after
raise_leaves mine name uid target held source old new before after began now is r =
    map_leaves mine (raising_of held) old new before after began now r.took (raised_same held old.map) (unraised_by held old.map r.took.fits)
    (same_unlisted mine old new r.took.appends.indexes (λ u none rec found listed.
    r.took.due u ∙ due_other (held.0 == u) (due_at u old) (λ t. other_record before old r.at.source uid.0 r.row u rec is (row_in name uid.0 old r.at.source r.row r.at.from) found listed (sym r.holds ∙ eqb-true held.0 u t))))

lower_leaves : {D : Type 0} → (owed : MapUid) (old new : StoreValue D) (before after : Option History) (began now : Faults) (mine : Claims) → ((uid : ℕ) → mine (Due uid) ≡ one_due owed.0 uid) → MapTook (lowering_of owed) old new before after began now → LeavesOthers mine old new before after
lower_leaves owed old new before after began now mine own t =
    map_leaves mine (lowering_of owed) old new before after began now t (lowered_same (owed ∷ []) old.map) (unraised_lower (owed ∷ []) old.map)
    (same_unlisted mine old new t.appends.indexes (λ u none rec found listed. t.due u ∙ unlowered (owed.0 == u) (due_at u old) (sym (own u) ∙ none)))
  where
    unlowered : (t : Bool) (n : ℕ) → bit t ≡ 0 → n - bit (t || false) ≡ n
    unlowered true n e = absurd (one_none 1 0 refl refl e)
    unlowered false n e = omega arith

-- ---- an entry of a mailbox's log

-- the map stays, and the logs that were made
gone_logs : {D : Type 0} → (old new : StoreValue D) → new.map ≡ old.map → KeepsRest old new → KeepsGone old new
gone_logs old new map_is rest = gone_stays old new (ap (λ (m : MapMeaning). m.boxes) map_is) (ap (λ (v : StoreValue _). v.made) rest) (same_highest old.map new.map map_is)

box_leaves : {D : Type 0} → (mine : Claims) (number : ℕ) (entry : BoxEntry) (old new : StoreValue D) (before after : Option History) (began now : Faults) → BoxTook number entry old new before after began now → KeepsUids old new → LeavesUnlisted mine old new → LeavesOthers mine old new before after
box_leaves mine number entry old new before after began now t keeps unlisted =
    rest_leaves mine old new before after t.appends.files (ap (λ (v : StoreValue _). v.instances) t.appends.rest) (mail_same before after t.mail) (same_map old.map new.map t.appends.map) (unraised_same old.map new.map (ap (λ (m : MapMeaning). m.records) t.appends.map)) (same_highest old.map new.map t.appends.map) t.appends.end (inl (names_stay_same old.map new.map t.appends.map))
    (gone_logs old new t.appends.map t.appends.rest) keeps t.appends.room unlisted

add_leaves : {D : Type 0} → (mine : Claims) (name : List ℕ) (uid : Uid) (target : List ℕ) (held : MapUid) (source : BoxNo) (given : Uid) (old new : StoreValue D) (before after : Option History) (began now : Faults) → ((u : ℕ) → mine (Due u) ≡ one_due held.0 u)
    → AddsRow name uid target held source given old new before after began now → LeavesOthers mine old new before after
add_leaves mine name uid target held source given old new before after began now own r =
    box_leaves mine r.number (added_copy given r.row) old new before after began now r.took (addition_left name uid target held source given old new before after began now r)
    (λ u rec none found listed. (refs u rec listed, r.took.due r.at.m u r.at.to.numbered ∙ unadded (r.row.map_uid == u) (due_at u old) (ap (λ (k : ℕ). one_due k u) (sym r.holds) ∙ (sym (own u) ∙ none))))
  where
    unadded : (t : Bool) (n : ℕ) → bit t ≡ 0 → n - bit (t || false) ≡ n
    unadded true n e = absurd (one_none 1 0 refl refl e)
    unadded false n e = omega arith

    by_guid : (rec : MapRecord) → references_to old rec.guid ≡ 0 → (t : Bool) → bytes_eq r.row.guid rec.guid ≡ t → references_to new rec.guid ≡ 0
    by_guid rec listed true e =
        let c = listed_counts rec.guid r.at.source uid.0 old.map.boxes (indexes_of old.boxes) r.at.from.m r.row r.at.from.box.numbered r.at.from.listed e in
        absurd (omega (arith, c, listed))
    by_guid rec listed false e =
        none_more (references_to new rec.guid) (references_to old rec.guid)
        (subst (λ (ms : List BoxMeaning). refs_in ms rec.guid ≤ references_to old rec.guid) (sym r.took.taken)
        (entry_refs rec.guid r.number (added_copy given r.row) old.map.boxes (indexes_of old.boxes) (addition_lists rec.guid given r.row.flags r.row.time r.row.size (record { 0 = r.row.map_uid }) (record { 0 = r.row.guid }) r.row.words e))) listed

    refs : (u : ℕ) (rec : MapRecord) → references_to old rec.guid ≡ 0 → references_to new rec.guid ≡ 0
    refs u rec listed = by_guid rec listed (bytes_eq r.row.guid rec.guid) refl

take_leaves : {D : Type 0} → (mine : Claims) (number : ℕ) (uid : Uid) (row : LogRow) (old new : StoreValue D) (before after : Option History) (began now : Faults) → IsStore before old → IsRowIn number uid.0 old row → BoxTook number (box_entry.R uid) old new before after began now → LeavesOthers mine old new before after
take_leaves mine number uid row old new before after began now is there t =
    box_leaves mine number (box_entry.R uid) old new before after began now t (removal_left number uid there.m old new before after began now there.numbered t)
    (λ u rec none found listed. (
      none_more (references_to new rec.guid) (references_to old rec.guid)
          (subst (λ (ms : List BoxMeaning). refs_in ms rec.guid ≤ references_to old rec.guid) (sym t.taken) (entry_refs rec.guid number (box_entry.R uid) old.map.boxes (indexes_of old.boxes) (removal_lists rec.guid uid))) listed,
      t.due there.m u there.numbered
          ∙ (ap (λ (o : Option LogRow). option_map_or (λ r. more_due 1 r.map_uid (λ k. due_at k old)) o (λ k. due_at k old) u) there.listed ∙ due_other (row.map_uid == u) (due_at u old) (λ s. other_record before old number uid.0 row u rec is there found listed (eqb-true row.map_uid u s))),
    ))

-- ---- nothing

pub same_leaves : {D : Type 0} → (history : D → Option History) (mine : Claims) (old new : StoreValue D) → new ≡ old → LeavesOthers mine old new (history old.disk) (history new.disk)
same_leaves history mine old new same = subst (λ (s : StoreValue _). LeavesOthers mine old s (history old.disk) (history s.disk)) (sym same)
    (rest_leaves mine old old (history old.disk) (history old.disk) refl refl (mail_same (history old.disk) (history old.disk) (same_mail (history old.disk))) refl (unraised_same old.map old.map refl) (same_highest old.map old.map refl) (omega arith) (inl (λ name number is. is)) (gone_same old) (λ number uid held k. k) (omega arith) (λ uid rec none found listed. (listed, refl)))

unraised_leaves : {D : Type 0} → (history : D → Option History) (mine : Claims) (name : List ℕ) (uid : Uid) (target : List ℕ) (error : NotDone) (old new : StoreValue D) (began now : Faults) → new.stopped ≡ false → IsNotRaised name uid target error old new (history old.disk) (history new.disk) began now
    → LeavesOthers mine old new (history old.disk) (history new.disk)
unraised_leaves history mine name uid target (not_done.Refused why) old new began now runs r = same_leaves history mine old new r.0
unraised_leaves history mine name uid target not_done.NoMemory old new began now runs r = same_leaves history mine old new r.0
unraised_leaves history mine name uid target not_done.Stopped old new began now runs r = absurd (fall new.stopped r.0.stopped runs)

unremoved_leaves : {D : Type 0} → (history : D → Option History) (mine : Claims) (name : List ℕ) (uid : Uid) (error : NotDone) (old new : StoreValue D) (began now : Faults) → new.stopped ≡ false → IsNotRemoved name uid error old new (history old.disk) (history new.disk) began now
    → LeavesOthers mine old new (history old.disk) (history new.disk)
unremoved_leaves history mine name uid (not_done.Refused why) old new began now runs r = same_leaves history mine old new r.0
unremoved_leaves history mine name uid not_done.NoMemory old new began now runs r = same_leaves history mine old new r.0
unremoved_leaves history mine name uid not_done.Stopped old new began now runs r = absurd (fall new.stopped r.fell.stopped runs)

-- ---- flags and keywords

pub flag_leaves : {D : Type 0} → (number : ℕ) (uid : Uid) (flags : ℕ) (old new : StoreValue D) (before after : Option History) → new.map ≡ old.map → new.files ≡ old.files → new.instances ≡ old.instances → indexes_of new.boxes ≡ meanings_by number (box_entry.F uid flags) old.map.boxes (indexes_of old.boxes)
    → KeepsMail before after → KeepsUids old new → old.map_log.room ≤ new.map_log.room → new.made ≡ old.made → old.map_log.end ≤ new.map_log.end → ((other : ℕ) → due_at other new ≡ due_at other old) → LeavesOthers no_claims old new before after
flag_leaves number uid flags old new before after map_is files instances taken mail keeps room made end due =
    rest_leaves no_claims old new before after files instances (mail_same before after mail) (same_map old.map new.map map_is) (unraised_same old.map new.map (ap (λ (m : MapMeaning). m.records) map_is)) (same_highest old.map new.map map_is) end (inl (names_stay_same old.map new.map map_is)) (gone_stays old new (ap (λ (m : MapMeaning). m.boxes) map_is) made (same_highest old.map new.map map_is)) keeps room
    (λ other rec none found listed. (
      none_more (references_to new rec.guid) (references_to old rec.guid)
          (subst (λ (ms : List BoxMeaning). refs_in ms rec.guid ≤ references_to old rec.guid) (sym taken) (entry_refs rec.guid number (box_entry.F uid flags) old.map.boxes (indexes_of old.boxes) (flag_lists rec.guid uid flags))) listed,
      due other,
    ))

pub words_leave : {D : Type 0} → (number : ℕ) (uid : Uid) (words : List (List ℕ)) (old new : StoreValue D) (before after : Option History) → new.map ≡ old.map → new.files ≡ old.files → new.instances ≡ old.instances → indexes_of new.boxes ≡ meanings_by number (box_entry.K uid words) old.map.boxes (indexes_of old.boxes)
    → KeepsMail before after → KeepsUids old new → old.map_log.room ≤ new.map_log.room → new.made ≡ old.made → old.map_log.end ≤ new.map_log.end → ((other : ℕ) → due_at other new ≡ due_at other old) → LeavesOthers no_claims old new before after
words_leave number uid words old new before after map_is files instances taken mail keeps room made end due =
    rest_leaves no_claims old new before after files instances (mail_same before after mail) (same_map old.map new.map map_is) (unraised_same old.map new.map (ap (λ (m : MapMeaning). m.records) map_is)) (same_highest old.map new.map map_is) end (inl (names_stay_same old.map new.map map_is)) (gone_stays old new (ap (λ (m : MapMeaning). m.boxes) map_is) made (same_highest old.map new.map map_is)) keeps room
    (λ other rec none found listed. (
      none_more (references_to new rec.guid) (references_to old rec.guid)
          (subst (λ (ms : List BoxMeaning). refs_in ms rec.guid ≤ references_to old rec.guid) (sym taken) (entry_refs rec.guid number (box_entry.K uid words) old.map.boxes (indexes_of old.boxes) (words_list rec.guid uid words))) listed,
      due other,
    ))

-- ---- events

pub copy_leaves : {D : Type 0} → (history : D → Option History) (name : List ℕ) (uid : Uid) (target : List ℕ) (now next : CopyStage) (answer : Progress) (how : Did) (old new : StoreValue D) (began faulted : Faults) → IsStore (history old.disk) old → new.stopped ≡ false
    → CopiesOn name uid target now next answer how old new (history old.disk) (history new.disk) began faulted → LeavesOthers (copy_claims now) old new (history old.disk) (history new.disk)
copy_leaves history name uid target copy_stage.First (copy_stage.Adding held source) progress.More how old new began faulted is runs on = raise_leaves (copy_claims copy_stage.First) name uid target held source old new (history old.disk) (history new.disk) began faulted is on.1
copy_leaves history name uid target copy_stage.First copy_stage.First (progress.Done (reply.Refused why)) how old new began faulted is runs on = unraised_leaves history (copy_claims copy_stage.First) name uid target on.0 old new began faulted runs on.3
copy_leaves history name uid target (copy_stage.Adding held source) copy_stage.First (progress.Done (reply.Copied given)) how old new began faulted is runs on = add_leaves (copy_claims (copy_stage.Adding held source)) name uid target held source given old new (history old.disk) (history new.disk) began faulted (λ u. refl) on.1
copy_leaves history name uid target (copy_stage.Adding held source) (copy_stage.Adding still same) (progress.Done (reply.Refused why)) how old new began faulted is runs on = absurd (fall new.stopped on.3.fell.stopped runs)
copy_leaves history name uid target (copy_stage.Adding held source) (copy_stage.GivingBack still why) progress.More how old new began faulted is runs on = same_leaves history (copy_claims (copy_stage.Adding held source)) old new on.1
copy_leaves history name uid target (copy_stage.Adding held source) (copy_stage.BeginningAgain still) progress.More how old new began faulted is runs on = same_leaves history (copy_claims (copy_stage.Adding held source)) old new on.2
copy_leaves history name uid target (copy_stage.BeginningAgain held) copy_stage.First progress.More how old new began faulted is runs on = lower_leaves held old new (history old.disk) (history new.disk) began faulted (copy_claims (copy_stage.BeginningAgain held)) (λ u. refl) on.1
copy_leaves history name uid target (copy_stage.BeginningAgain held) (copy_stage.BeginningAgain still) (progress.Done (reply.Refused why)) how old new began faulted is runs on = absurd (fall new.stopped on.3.stopped runs)
copy_leaves history name uid target (copy_stage.GivingBack held why) copy_stage.First (progress.Done (reply.Refused given)) how old new began faulted is runs on = lower_leaves held old new (history old.disk) (history new.disk) began faulted (copy_claims (copy_stage.GivingBack held why)) (λ u. refl) on.2
copy_leaves history name uid target (copy_stage.GivingBack held why) (copy_stage.GivingBack still cause) (progress.Done (reply.Refused given)) how old new began faulted is runs on = absurd (fall new.stopped on.4.stopped runs)
copy_leaves history name uid target now next answer how old new began faulted is runs on = absurd on

pub expunge_leaves : {D : Type 0} → (history : D → Option History) (name : List ℕ) (uid : Uid) (now next : ExpungeStage) (answer : Progress) (how : Did) (old new : StoreValue D) (began then : Faults) → IsStore (history old.disk) old → new.stopped ≡ false
    → ExpungesOn name uid now next answer how old new (history old.disk) (history new.disk) began then → LeavesOthers (expunge_claims now) old new (history old.disk) (history new.disk)
expunge_leaves history name uid expunge_stage.First (expunge_stage.Owing owed) progress.More how old new began then is runs on = take_leaves (expunge_claims expunge_stage.First) on.1.number uid on.1.row old new (history old.disk) (history new.disk) began then is (row_in name uid.0 old on.1.number on.1.row on.1.there) on.1.took
expunge_leaves history name uid expunge_stage.First expunge_stage.First (progress.Done (reply.Refused why)) how old new began then is runs on = unremoved_leaves history (expunge_claims expunge_stage.First) name uid on.0 old new began then runs on.3
expunge_leaves history name uid (expunge_stage.Owing owed) expunge_stage.First (progress.Done reply.Done) how old new began then is runs on = lower_leaves owed old new (history old.disk) (history new.disk) began then (expunge_claims (expunge_stage.Owing owed)) (λ u. refl) on.1
expunge_leaves history name uid (expunge_stage.Owing owed) (expunge_stage.Owing still) (progress.Done (reply.Refused why)) how old new began then is runs on = absurd (fall new.stopped on.3.stopped runs)
expunge_leaves history name uid now next answer how old new began then is runs on = absurd on

pub move_leaves : {D : Type 0} → (history : D → Option History) (name : List ℕ) (uid : Uid) (target : List ℕ) (now next : MoveStage) (answer : Progress) (how : Did) (old new : StoreValue D) (began faulted : Faults) → IsStore (history old.disk) old → new.stopped ≡ false
    → MovesOn name uid target now next answer how old new (history old.disk) (history new.disk) began faulted → LeavesOthers (move_claims now) old new (history old.disk) (history new.disk)
move_leaves history name uid target move_stage.First (move_stage.Adding held source) progress.More how old new began faulted is runs on = raise_leaves (move_claims move_stage.First) name uid target held source old new (history old.disk) (history new.disk) began faulted is on.1
move_leaves history name uid target move_stage.First move_stage.First (progress.Done (reply.Refused why)) how old new began faulted is runs on = unraised_leaves history (move_claims move_stage.First) name uid target on.0 old new began faulted runs on.3
move_leaves history name uid target (move_stage.Adding held source) (move_stage.Removing still copied from) progress.More how old new began faulted is runs on = add_leaves (move_claims (move_stage.Adding held source)) name uid target held source copied old new (history old.disk) (history new.disk) began faulted (λ u. refl) on.2
move_leaves history name uid target (move_stage.Adding held source) (move_stage.Adding still same) (progress.Done (reply.Refused why)) how old new began faulted is runs on = absurd (fall new.stopped on.3.fell.stopped runs)
move_leaves history name uid target (move_stage.Adding held source) (move_stage.GivingBack still why) progress.More how old new began faulted is runs on = same_leaves history (move_claims (move_stage.Adding held source)) old new on.1
move_leaves history name uid target (move_stage.Adding held source) (move_stage.BeginningAgain still) progress.More how old new began faulted is runs on = same_leaves history (move_claims (move_stage.Adding held source)) old new on.2
move_leaves history name uid target (move_stage.BeginningAgain held) move_stage.First progress.More how old new began faulted is runs on = lower_leaves held old new (history old.disk) (history new.disk) began faulted (move_claims (move_stage.BeginningAgain held)) (λ u. refl) on.1
move_leaves history name uid target (move_stage.BeginningAgain held) (move_stage.BeginningAgain still) (progress.Done (reply.Refused why)) how old new began faulted is runs on = absurd (fall new.stopped on.3.stopped runs)
move_leaves history name uid target (move_stage.GivingBack held why) move_stage.First (progress.Done (reply.Refused given)) how old new began faulted is runs on = lower_leaves held old new (history old.disk) (history new.disk) began faulted (move_claims (move_stage.GivingBack held why)) (λ u. refl) on.2
move_leaves history name uid target (move_stage.GivingBack held why) (move_stage.GivingBack still cause) (progress.Done (reply.Refused given)) how old new began faulted is runs on = absurd (fall new.stopped on.4.stopped runs)
move_leaves history name uid target (move_stage.Removing held copied source) (move_stage.Owing owed same) progress.More how old new began faulted is runs on = take_leaves (move_claims (move_stage.Removing held copied source)) source.0 uid on.3.row old new (history old.disk) (history new.disk) began faulted is on.3.there on.3.took
move_leaves history name uid target (move_stage.Removing held copied source) move_stage.First (progress.Done (reply.Moved given gone)) how old new began faulted is runs on = same_leaves history (move_claims (move_stage.Removing held copied source)) old new on.3
move_leaves history name uid target (move_stage.Removing held copied source) (move_stage.Removing still same from) (progress.Done (reply.Refused why)) how old new began faulted is runs on = absurd (fall new.stopped on.4.fell.stopped runs)
move_leaves history name uid target (move_stage.Owing owed copied) move_stage.First (progress.Done (reply.Moved given gone)) how old new began faulted is runs on = lower_leaves owed old new (history old.disk) (history new.disk) began faulted (move_claims (move_stage.Owing owed copied)) (λ u. refl) on.3
move_leaves history name uid target (move_stage.Owing owed copied) (move_stage.Owing still same) (progress.Done (reply.Refused why)) how old new began faulted is runs on = absurd (fall new.stopped on.4.stopped runs)
move_leaves history name uid target now next answer how old new began faulted is runs on = absurd on

-- ---- of a task that is seen as this

pub copy_leaves_by : {D : Type 0} → (history : D → Option History) (task seen : CopyValue) (now next : CopyStage) (answer : Progress) (how : Did) (old new : StoreValue D) (began faulted : Faults) → task ≡ seen → task.stage ≡ now → IsStore (history old.disk) old → new.stopped ≡ false
    → CopiesOn task.name task.uid task.target now next answer how old new (history old.disk) (history new.disk) began faulted → LeavesOthers (copy_claims seen.stage) old new (history old.disk) (history new.disk)
copy_leaves_by history task seen now next answer how old new began faulted same at is runs on =
    subst (λ (v : CopyValue). LeavesOthers (copy_claims v.stage) old new (history old.disk) (history new.disk)) same
    (subst (λ (s : CopyStage). LeavesOthers (copy_claims s) old new (history old.disk) (history new.disk)) (sym at) (copy_leaves history task.name task.uid task.target now next answer how old new began faulted is runs on))

pub expunge_leaves_by : {D : Type 0} → (history : D → Option History) (task seen : ExpungeValue) (now next : ExpungeStage) (answer : Progress) (how : Did) (old new : StoreValue D) (began then : Faults) → task ≡ seen → task.stage ≡ now → IsStore (history old.disk) old → new.stopped ≡ false
    → ExpungesOn task.name task.uid now next answer how old new (history old.disk) (history new.disk) began then → LeavesOthers (expunge_claims seen.stage) old new (history old.disk) (history new.disk)
expunge_leaves_by history task seen now next answer how old new began then same at is runs on =
    subst (λ (v : ExpungeValue). LeavesOthers (expunge_claims v.stage) old new (history old.disk) (history new.disk)) same
    (subst (λ (s : ExpungeStage). LeavesOthers (expunge_claims s) old new (history old.disk) (history new.disk)) (sym at) (expunge_leaves history task.name task.uid now next answer how old new began then is runs on))

pub move_leaves_by : {D : Type 0} → (history : D → Option History) (task seen : MoveValue) (now next : MoveStage) (answer : Progress) (how : Did) (old new : StoreValue D) (began faulted : Faults) → task ≡ seen → task.stage ≡ now → IsStore (history old.disk) old → new.stopped ≡ false
    → MovesOn task.name task.uid task.target now next answer how old new (history old.disk) (history new.disk) began faulted → LeavesOthers (move_claims seen.stage) old new (history old.disk) (history new.disk)
move_leaves_by history task seen now next answer how old new began faulted same at is runs on =
    subst (λ (v : MoveValue). LeavesOthers (move_claims v.stage) old new (history old.disk) (history new.disk)) same
    (subst (λ (s : MoveStage). LeavesOthers (move_claims s) old new (history old.disk) (history new.disk)) (sym at) (move_leaves history task.name task.uid task.target now next answer how old new began faulted is runs on))
