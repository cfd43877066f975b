-- What each event of a delivery leaves to the tasks beside it.
use Rattle.mail_save.proofs.Common.{◌≡◌, ◌≤◌, ◌<◌, ◌==◌, ℕ, Bool, true, false, List, [], ◌∷◌, Option, Some, None, inl, inr, refl, sym, ◌∙◌, ap, subst, arith, ◌↔◌, option_map_or, eq-eqb, History, Faults, InstRow, FileNo, Did, Progress, Refusal, MapMeaning, next_attachment, next_candidate}
use Rattle.mail_save.proofs.Common.{taken-there, AreFilesInOrder, IsTakeFor, end_in, file_in, is_doomed_in, is_taken_in, MailFile, Take, Known, New, Full, none_begun, due_at, KeepsInstances, KeepsUids, IsStore, StoreValue, indexes_of, references_to, Claims, Taken, one_if, LeavesOthers}
use Rattle.mail_save.proofs.Common.{LeavesUnlisted, save_claims, IsLeftAlone, LetsGo, SaveEffects, StoresNone, TakesFileFor, TakesNone, TookAs, HasLeft, RepliesAt, Saves, stopped_reply, SaveStage}
use Rattle.std.specs.Prelude.{◌&&◌, length}
use Rattle.mdbox_base.specs.declared.progress.Progress.TheVariants as progress
use Rattle.mdbox_base.specs.declared.replies.Reply.TheVariants as reply
use Rattle.storage_files.specs.Files.{is_emptied_in, pins_in}
use Rattle.task_claims.proofs.CountedLemmas.{lowered_same, unraised_lower}
use Rattle.task_claims.specs.Leaving.{OthersTook}
use Rattle.mail_save.specs.MailFiles.{WritesMail}
use Rattle.mail_save.specs.declared.task.SaveStage.TheVariants as stage
use Rattle.mail_save.proofs.AttachEventLemmas.{IsAttachChange, attached_change, unattached_change}
use Rattle.mail_save.proofs.LeavingLemmas.{LeavesMailBut, LeavesRecords, counts_leave, same_leave, leaves_by, mail_appended, mail_attached, mail_same, mail_taken, placing_known, released_known, same_known, stored_leave, taking_known}
use Rattle.mail_save.proofs.SaveClaimLemmas.{stopped_runs}
use Rattle.mail_save.proofs.SaveEventLemmas.{unfallen}
use Rattle.mail_save.proofs.SaveFileLemmas.{take_found, taken_undoomed, taken_unemptied}
use Rattle.mail_save.proofs.SaveNumberLemmas.{DrawsNumbers, LeavesLogs, save_logs, save_numbers}
use Rattle.mail_save.proofs.SaveStoreLemmas.{due_stays}
use Rattle.mail_save.proofs.SaveUidLemmas.{uids_stay}
use Rattle.mail_save.proofs.SaveUnlistedLemmas.{added_unlisted, lowered_unlisted, same_unlisted, stored_unlisted}

-- ---- whose file it is

apart_by : {D : Type 0} → (mine : Claims) (store : StoreValue D) (number : ℕ) → (mine (Taken number) < one_if (is_taken_in number store.files.files) → ⊥) → is_emptied_in number store.files.files ≡ false → is_doomed_in number store.files.files ≡ false → OthersTook mine store number → ⊥
apart_by mine store number taken emptied doomed (inl t) = taken t
apart_by mine store number taken emptied doomed (inr (inl e)) = let none : one_if (is_emptied_in number store.files.files) ≡ 0 = ap one_if emptied in omega (arith, e, none)
apart_by mine store number taken emptied doomed (inr (inr r)) =
    let none : one_if (is_doomed_in number store.files.files && (pins_in number store.files.files == 0)) ≡ 0 = ap (λ (b : Bool). one_if (b && (pins_in number store.files.files == 0))) doomed in omega (arith, r, none)

not_less : (a : ℕ) (b : Bool) → 1 ≤ a → a < one_if b → ⊥
not_less a true own l = let k : a < 1 = l in omega (arith, own, k)
not_less a false own l = let k : a < 0 = l in omega (arith, own, k)

less_none : (a : ℕ) (b : Bool) → b ≡ false → a < one_if b → ⊥
less_none a true free l = absurd (let k : true ≡ false = free in cc k)
less_none a false free l = let k : a < 0 = l in omega (arith, k)

taken_so : (n : ℕ) (files : List MailFile) (f : MailFile) → file_in n files ≡ Some f → is_taken_in n files ≡ true → f.taken ≡ true
taken_so n files f found taken = sym (ap (λ (o : Option MailFile). option_map_or (λ g. g.taken) o false) found) ∙ taken

-- one that the delivery has taken
own_apart : {D : Type 0} → (mine : Claims) (store : StoreValue D) (file number : ℕ) → AreFilesInOrder store.files → is_taken_in file store.files.files ≡ true → 1 ≤ mine (Taken file) → OthersTook mine store number → number ≡ file → ⊥
own_apart mine store file number order taken own took same =
    let there = taken-there store.files.files file taken in
    let so : there.0.taken ≡ true = taken_so file store.files.files there.0 there.1 taken in
    apart_by mine store file (not_less (mine (Taken file)) (is_taken_in file store.files.files) own) (ap (λ (o : Option MailFile). option_map_or (λ f. f.emptied) o false) there.1 ∙ taken_unemptied file store.files there.0 order there.1 so)
    (ap (λ (o : Option MailFile). option_map_or (λ f. f.doomed) o false) there.1 ∙ taken_undoomed file store.files there.0 order there.1 so) (subst (λ (n : ℕ). OthersTook mine store n) same took)

-- and one that it takes, which nobody had
took_free : {D : Type 0} → (take : Take) (header size : ℕ) (file : FileNo) (old new : StoreValue D) → AreFilesInOrder old.files → TookAs take header file old new → IsTakeFor size old.files take → (is_emptied_in file.0 old.files.files ≡ false) × (is_doomed_in file.0 old.files.files ≡ false)
took_free (Known k) header size file old new order t is =
    let found : file_in file.0 old.files.files ≡ Some is.0 = ap (λ (x : FileNo). file_in x.0 old.files.files) (sym t.0) ∙ take_found size k old.files order is in (
      ap (λ (o : Option MailFile). option_map_or (λ f. f.emptied) o false) found ∙ is.3.free.free.unemptied,
      ap (λ (o : Option MailFile). option_map_or (λ f. f.doomed) o false) found ∙ is.3.free.free.undoomed,
    )
took_free (New k) header size file old new order t is =
    let none : file_in file.0 old.files.files ≡ None = ap (λ (x : FileNo). file_in x.0 old.files.files) (sym t.0) ∙ none_begun k old.files order is.1 in
    (ap (λ (o : Option MailFile). option_map_or (λ f. f.emptied) o false) none, ap (λ (o : Option MailFile). option_map_or (λ f. f.doomed) o false) none)
took_free Full header size file old new order t is = absurd t

free_apart : {D : Type 0} → (mine : Claims) (header size : ℕ) (file : FileNo) (old new : StoreValue D) (number : ℕ) → AreFilesInOrder old.files → TakesFileFor header size file old new → OthersTook mine old number → number ≡ file.0 → ⊥
free_apart mine header size file old new number order t took same =
    let bare = took_free t.take header size file old new order t.took t.is in
    apart_by mine old file.0 (less_none (mine (Taken file.0)) (is_taken_in file.0 old.files.files) t.free) bare.0 bare.1 (subst (λ (n : ℕ). OthersTook mine old n) same took)

-- ---- an event that changes no log and no storage file

record IsQuiet {D : Type 0} (old new : StoreValue D) : Type 0 where
  map : new.map ≡ old.map
  indexes : indexes_of new.boxes ≡ indexes_of old.boxes
  dues : new.dues ≡ old.dues
  files : new.files.files ≡ old.files.files

quiet_same : {D : Type 0} → (old new : StoreValue D) → new ≡ old → IsQuiet old new
quiet_same old new same = record { map = ap (λ (v : StoreValue _). v.map) same; indexes = ap (λ (v : StoreValue _). indexes_of v.boxes) same; dues = ap (λ (v : StoreValue _). v.dues) same; files = ap (λ (v : StoreValue _). v.files.files) same }

quiet_change : {D : Type 0} → (old new : StoreValue D) → IsAttachChange old new → IsQuiet old new
quiet_change old new same = record { map = ap (λ (v : StoreValue _). v.map) same; indexes = ap (λ (v : StoreValue _). indexes_of v.boxes) same; dues = ap (λ (v : StoreValue _). v.dues) same; files = ap (λ (v : StoreValue _). v.files.files) same }

quiet_alone : {D : Type 0} → (old new : StoreValue D) → IsLeftAlone old new → IsQuiet old new
quiet_alone old new k = record { map = ap (λ (v : StoreValue _). v.map) k.same; indexes = k.indexes; dues = ap (λ (v : StoreValue _). v.dues) k.same; files = ap (λ (v : StoreValue _). v.files.files) k.same }

quiet_untaken : {D : Type 0} → (size : ℕ) (why : Refusal) (old new : StoreValue D) → new.stopped ≡ false → TakesNone size why old new → IsQuiet old new
quiet_untaken size why old new runs (inl k) = quiet_same old new k.1
quiet_untaken size why old new runs (inr (inl k)) = record { map = ap (λ (v : StoreValue _). v.map) k.1.same; indexes = ap (λ (v : StoreValue _). indexes_of v.boxes) k.1.same; dues = ap (λ (v : StoreValue _). v.dues) k.1.same; files = ap (λ (v : StoreValue _). v.files.files) k.1.same }
quiet_untaken size why old new runs (inr (inr k)) = absurd (unfallen new.stopped (ap (λ (v : StoreValue _). v.stopped) k.1.same) runs)

quiet_let_go : {D : Type 0} → (found : List InstRow) (old left new : StoreValue D) → LetsGo found left new → IsQuiet old left → IsQuiet old new
quiet_let_go found old left new gone q = record {
  map = ap (λ (v : StoreValue _). v.map) gone ∙ q.map;
  indexes = ap (λ (v : StoreValue _). indexes_of v.boxes) gone ∙ q.indexes;
  dues = ap (λ (v : StoreValue _). v.dues) gone ∙ q.dues;
  files = ap (λ (v : StoreValue _). v.files.files) gone ∙ q.files;
}

abbrev NoFile : ℕ → Type 0
NoFile number = ⊥

-- what each event leaves of instances, UIDs and logs
record Leaves {D : Type 0} (old new : StoreValue D) (before after : Option History) : Type 0 where
  keeps : KeepsInstances old new before after
  uids : KeepsUids old new
  draws : DrawsNumbers old new
  logs : LeavesLogs old new
  runs : new.stopped ≡ false

quiet_leaves : {D : Type 0} → (mine : Claims) (old new : StoreValue D) (before after : Option History) → Leaves old new before after → LeavesMailBut NoFile before after → IsQuiet old new → LeavesOthers mine old new before after
quiet_leaves mine old new before after l mail q =
    leaves_by mine NoFile old new before after l.keeps l.uids l.draws l.logs l.runs (same_leave NoFile old.map new.map q.map) (same_known NoFile old.files.files new.files.files q.files) mail
    (same_unlisted mine old new q.indexes (λ uid none rec found. due_stays old new uid q.map q.dues)) (λ number took own. own)

-- instances are let go behind an event
let_go_unlisted : {D : Type 0} → (mine : Claims) (found : List InstRow) (old left new : StoreValue D) → LetsGo found left new → LeavesUnlisted mine old left → LeavesUnlisted mine old new
let_go_unlisted mine found old left new gone first = λ uid rec none there listed.
    let k = first uid rec none there listed in
    (ap (λ (v : StoreValue _). references_to v rec.guid) gone ∙ k.0, ap (λ (v : StoreValue _). due_at uid v) gone ∙ k.1)

at_one : (file : ℕ) → 1 ≤ one_if (file == file)
at_one file = let e : one_if (file == file) ≡ 1 = ap one_if (eq-eqb file file refl) in omega (arith, e)

-- ---- by event

event_leaves : {D : Type 0} → (now next : SaveStage) (name : List ℕ) (time size : ℕ) (answer : Progress) (old new : StoreValue D) (before after : Option History) → IsStore before old → old.stopped ≡ false → AreFilesInOrder old.files → HasLeft now name time old before → new.stopped ≡ false
    → (answer ≡ stopped_reply) ↔ (new.stopped ≡ true) → RepliesAt now name answer next old → Leaves old new before after → WritesMail now next name time old before after → SaveEffects now next name time size answer old new → LeavesOthers (save_claims now) old new before after
event_leaves (stage.First prepared) (stage.Attaching parts attaching) name time size progress.More old new before after is ran order left runs stops replies l w e = quiet_leaves (save_claims (stage.First prepared)) old new before after l (mail_same NoFile before after w) (quiet_same old new e.0)
event_leaves (stage.First prepared) (stage.Taking parts) name time size progress.More old new before after is ran order left runs stops replies l w e = quiet_leaves (save_claims (stage.First prepared)) old new before after l (mail_same NoFile before after w) (quiet_same old new e.0)
event_leaves (stage.First prepared) stage.Ended name time size (progress.Done (reply.Refused why)) old new before after is ran order left runs stops replies l w e = quiet_leaves (save_claims (stage.First prepared)) old new before after l (mail_same NoFile before after w) (quiet_same old new e)
event_leaves (stage.Attaching parts attaching) (stage.Attaching laid more) name time size progress.More old new before after is ran order left runs stops replies l w e =
    quiet_leaves (save_claims (stage.Attaching parts attaching)) old new before after l (mail_attached NoFile (next_candidate attaching old.instances) (next_attachment attaching) old before after w) (quiet_change old new (attached_change attaching more old new e.1))
event_leaves (stage.Attaching parts attaching) (stage.Taking named) name time size progress.More old new before after is ran order left runs stops replies l w e =
    quiet_leaves (save_claims (stage.Attaching parts attaching)) old new before after l (mail_attached NoFile (next_candidate attaching old.instances) (next_attachment attaching) old before after w) (quiet_change old new (attached_change attaching e.0 old new e.1))
event_leaves (stage.Attaching parts attaching) stage.Ended name time size (progress.Done (reply.Refused why)) old new before after is ran order left runs stops replies l w e =
    quiet_leaves (save_claims (stage.Attaching parts attaching)) old new before after l (mail_same NoFile before after w) (quiet_let_go attaching.found old e.0 new e.2 (quiet_change old e.0 (unattached_change attaching why old e.0 e.1)))
event_leaves (stage.Taking parts) (stage.Placing laid file) name time size progress.More old new before after is ran order left runs stops replies l w e =
    let t = e.1 in
    let map : new.map ≡ old.map = ap (λ (v : StoreValue _). v.map) t.same in
    leaves_by (save_claims (stage.Taking parts)) (λ number. number ≡ file.0) old new before after l.keeps l.uids l.draws l.logs l.runs (same_leave (λ number. number ≡ file.0) old.map new.map map)
    (taking_known (length parts.header) (length parts.laid.region) file old new t) (mail_taken parts.header file.0 old before after ((is.running ran).files_known file.0) w)
    (same_unlisted (save_claims (stage.Taking parts)) old new (ap (λ (v : StoreValue _). indexes_of v.boxes) t.same) (λ uid none rec found. due_stays old new uid map (ap (λ (v : StoreValue _). v.dues) t.same)))
    (λ number took own. free_apart (save_claims (stage.Taking parts)) (length parts.header) (length parts.laid.region) file old new number order t took own)
event_leaves (stage.Taking parts) stage.Ended name time size (progress.Done (reply.Refused why)) old new before after is ran order left runs stops replies l w e =
    quiet_leaves (save_claims (stage.Taking parts)) old new before after l (mail_same NoFile before after w) (quiet_let_go parts.rows old e.0 new e.2 (quiet_untaken (length parts.laid.region) why old e.0 (sym (ap (λ (v : StoreValue _). v.stopped) e.2) ∙ runs) e.1))
event_leaves (stage.Placing parts file) (stage.Storing at rows room) name time size progress.More old new before after is ran order left runs stops replies l w e =
    let map : new.map ≡ old.map = ap (λ (v : StoreValue _). v.map) e.same in
    leaves_by (save_claims (stage.Placing parts file)) (λ number. number ≡ file.0) old new before after l.keeps l.uids l.draws l.logs l.runs (same_leave (λ number. number ≡ file.0) old.map new.map map)
    (placing_known parts file at rows old new e) (mail_appended _ file.0 before after (w left.0.0.2.prepared left.0.0.2.laid))
    (same_unlisted (save_claims (stage.Placing parts file)) old new (ap (λ (v : StoreValue _). indexes_of v.boxes) e.same) (λ uid none rec found. due_stays old new uid map (ap (λ (v : StoreValue _). v.dues) e.same)))
    (λ number took own. own_apart (save_claims (stage.Placing parts file)) old file.0 number order left.1.taken (at_one file.0) took own)
event_leaves (stage.Placing parts file) stage.Ended name time size (progress.Done (reply.Refused why)) old new before after is ran order left runs stops replies l w e = stopped_runs why new.stopped stops runs replies
event_leaves (stage.Storing at rows room) (stage.Adding added kept) name time size progress.More old new before after is ran order left runs stops replies l w e =
    let made = e.1 in
    let gone = e.2 in
    let mine : Claims = save_claims (stage.Storing at rows room) in
    leaves_by mine (λ number. number ≡ at.file.0) old new before after l.keeps l.uids l.draws l.logs l.runs
    (subst (λ (m : MapMeaning). LeavesRecords (λ number. number ≡ at.file.0) old.map m) (sym (ap (λ (v : StoreValue _). v.map) gone ∙ made.map)) (stored_leave added.map_uid at rows old.map left.0.guid_file))
    (released_known at old new left.0 (ap (λ (v : StoreValue _). v.files.files) gone ∙ ap (λ (v : StoreValue _). v.files.files) made.same) (λ number. ap (λ (v : StoreValue _). end_in number v.files.files) gone ∙ made.ends number))
    (mail_same (λ number. number ≡ at.file.0) before after w)
    (let_go_unlisted mine rows old e.0 new gone (stored_unlisted mine at rows time size added old e.0 before is made))
    (λ number took own. own_apart mine old at.file.0 number order left.0.taken (at_one at.file.0) took own)
event_leaves (stage.Storing at rows room) stage.Ended name time size (progress.Done (reply.Refused why)) old new before after is ran order left runs stops replies l w e = by_cause e.1
  where
    mine : Claims
    mine = save_claims (stage.Storing at rows room)

    by_cause : StoresNone at why old e.0 → LeavesOthers mine old new before after
    by_cause (inl k) = stopped_runs why new.stopped stops runs k.0
    by_cause (inr k) =
        let map : new.map ≡ old.map = ap (λ (v : StoreValue _). v.map) e.2 ∙ ap (λ (v : StoreValue _). v.map) k.1.same in
        leaves_by mine (λ number. number ≡ at.file.0) old new before after l.keeps l.uids l.draws l.logs l.runs (same_leave (λ number. number ≡ at.file.0) old.map new.map map)
        (released_known at old new left.0 (ap (λ (v : StoreValue _). v.files.files) e.2 ∙ ap (λ (v : StoreValue _). v.files.files) k.1.same) (λ number. ap (λ (v : StoreValue _). end_in number v.files.files) e.2 ∙ k.1.ends number))
        (mail_same (λ number. number ≡ at.file.0) before after w)
        (same_unlisted mine old new (ap (λ (v : StoreValue _). indexes_of v.boxes) e.2 ∙ ap (λ (v : StoreValue _). indexes_of v.boxes) k.1.same) (λ uid none rec found. due_stays old new uid map (ap (λ (v : StoreValue _). v.dues) e.2 ∙ ap (λ (v : StoreValue _). v.dues) k.1.same)))
        (λ number took own. own_apart mine old at.file.0 number order left.0.taken (at_one at.file.0) took own)
event_leaves (stage.Adding added room) stage.Ended name time size (progress.Done (reply.Saved uid guid)) old new before after is ran order left runs stops replies l w e =
    leaves_by (save_claims (stage.Adding added room)) NoFile old new before after l.keeps l.uids l.draws l.logs l.runs (same_leave NoFile old.map new.map (ap (λ (v : StoreValue _). v.map) e.1.same)) (same_known NoFile old.files.files new.files.files (ap (λ (v : StoreValue _). v.files.files) e.1.same))
    (mail_same NoFile before after w) (added_unlisted (save_claims (stage.Adding added room)) name added uid old new before (λ u. refl) is left.0 e.1) (λ number took own. own)
event_leaves (stage.Adding added room) stage.Ended name time size (progress.Done (reply.Refused why)) old new before after is ran order left runs stops replies l w e = quiet_leaves (save_claims (stage.Adding added room)) old new before after l (mail_same NoFile before after w) (quiet_alone old new e)
event_leaves (stage.Adding added room) (stage.GivingBack uid why kept) name time size progress.More old new before after is ran order left runs stops replies l w e = quiet_leaves (save_claims (stage.Adding added room)) old new before after l (mail_same NoFile before after w) (quiet_same old new e.1)
event_leaves (stage.GivingBack uid why room) stage.Ended name time size (progress.Done (reply.Refused given)) old new before after is ran order left runs stops replies l w (inl e) =
    leaves_by (save_claims (stage.GivingBack uid why room)) NoFile old new before after l.keeps l.uids l.draws l.logs l.runs (subst (λ (m : MapMeaning). LeavesRecords NoFile old.map m) (sym e.1.map) (counts_leave NoFile old.map _ (lowered_same (uid ∷ []) old.map) (unraised_lower (uid ∷ []) old.map)))
    (same_known NoFile old.files.files new.files.files (ap (λ (v : StoreValue _). v.files.files) e.1.same)) (mail_same NoFile before after w) (lowered_unlisted (save_claims (stage.GivingBack uid why room)) uid old new (λ u. refl) e.1) (λ number took own. own)
event_leaves (stage.GivingBack uid why room) stage.Ended name time size (progress.Done (reply.Refused given)) old new before after is ran order left runs stops replies l w (inr e) = quiet_leaves (save_claims (stage.GivingBack uid why room)) old new before after l (mail_same NoFile before after w) (quiet_alone old new e.1)
event_leaves now next name time size answer old new before after is ran order left runs stops replies l w e = absurd e

pub save_leaves : {D : Type 0} → (now next : SaveStage) (name : List ℕ) (time size : ℕ) (answer : Progress) (how : Did) (old new : StoreValue D) (before after : Option History) (began faulted : Faults) → IsStore before old → old.stopped ≡ false → AreFilesInOrder old.files → old.instances.highest ≡ old.drawn.instance → HasLeft now name time old before → new.stopped ≡ false
    → Saves now next name time size answer how old new before after began faulted → LeavesOthers (save_claims now) old new before after
save_leaves now next name time size answer how old new before after began faulted is ran order drawn left runs s =
    let draws : DrawsNumbers old new = save_numbers now next name time size answer old new drawn runs s.effects in
    event_leaves now next name time size answer old new before after is ran order left runs s.stopped s.replies (record { keeps = s.instances runs; uids = uids_stay now next name time size answer old new draws s.effects; draws = draws; logs = save_logs now next name time size answer old new s.effects; runs = runs }) (s.mail runs) s.effects
