-- What a purge says at its first event.
use Rattle.purge_task.proofs.Common.{◌≡◌, ◌≢◌, ◌≤◌, ◌<◌, ◌+◌, ◌*◌, ◌==◌, ◌&&◌, ◌||◌, ℕ, Bool, true, false, List, [], ◌∷◌, ◌++◌, length, map, get_or, Option, Some, None, refl, sym, ◌∙◌, ap, subst, arith, All, inl, inr, AllPairs, Contains, Err, Result, count_by, sum_by, if◌then◌else◌, AllZip}
use Rattle.purge_task.proofs.Common.{list_any, option_map, option_map_or, append-nil, length-map, eqb-true, All-contains, All-head, All-tail, All-weaker, AllPairs-from_increasing, count_by-le-length, sum_by-cons, DiskState, Faults, History, IsIdle, reading, NoFault, between-map, LogState, Highest}
use Rattle.purge_task.proofs.Common.{Refusal, Reply, Around, next_part, targets_of, First, Run, TakenFile, is_copied_from, own_events, target_length, with_targets, MapMeaning, MapRecord, IsSoundMap, IsSoundRecord, pairs_head, pairs_tail, found_one, MailFile, AreFilesInOrder, FilesValue, end_in}
use Rattle.purge_task.proofs.Common.{file_in, is_doomed_in, is_emptied_in, is_taken_in, pins_in, to_empty, with_pins, KeepsFirm, KeepsInstances, ReadsInstances, IsStore, StoreValue, store_sound, kept_same, firm_same, Claims, Due, Emptied, Held, Made, MovesClaims, Pinned, PlacingPieces, Removing}
use Rattle.purge_task.proofs.Common.{Taken, Thing, amount_in, is_to_remove, one_if, IsSameOrSynced, LeavesOthers, OthersTook, unraised_same, instance_kept, none_placed, claims_of_sources, purge_claims, sources_left, DidEvent, HasNotBegun, never_more, next_first, IsPurgeStep, PurgeSteps}
use Rattle.purge_task.proofs.Common.{around_purging, came_to, seen_by_purge, uncounted, AreAllBut, HasFound, IsFoundFile, IsFullToEnd, found_numbers, AreSourcesApart, HasPurged, IsBeginningFirst, IsToBegin, PurgeValue, IsNewSource, IsAtPurge, IsAtPurgeStage, IsNextStage, CanTake, CanTakeAll}
use Rattle.purge_task.proofs.Common.{take_all, targets_given, Found, FoundFile, PurgeStage, Source, Work, fall, files_to_empty}
use Rattle.std.proofs.Common.{◌⊎◌}
use Rattle.std.specs.Prelude.{IsErrOf}
use Rattle.disk_model.specs.FaultCounts.{ReadFaultCounted}
use Rattle.disk_model.specs.declared.name.FileName.TheVariants as file
use Rattle.mdbox_base.specs.Streams.{Rose}
use Rattle.mdbox_base.specs.declared.progress.Did.TheVariants as did
use Rattle.mdbox_base.specs.declared.requests.Request.TheVariants as request
use Rattle.mdbox_base.specs.declared.script.Half.TheVariants as half
use Rattle.mdbox_base.specs.declared.progress.Progress.TheVariants as progress
use Rattle.mdbox_base.specs.declared.replies.Refusal.TheVariants as refusal
use Rattle.mdbox_base.specs.declared.replies.Reply.TheVariants as reply
use Rattle.model_kept.proofs.KeptLemmas.{kept_idle}
use Rattle.model_meaning.proofs.MapSoundLemmas.{greatest_fits}
use Rattle.model_octets.proofs.PairLemmas.{all_map, pairs_map}
use Rattle.store_core.specs.Keeping.{SyncsInstances}
use Rattle.task_claims.specs.Leaving.{SyncsMail}
use Rattle.task_claims.proofs.GoneLemmas.{gone_stays}
use Rattle.task_claims.proofs.RestLemmas.{record_kept}
use Rattle.purge_task.specs.Found.{AreUncleanFound, FindsUnclean, IsFindRefusal, LacksTargets, targets_in}
use Rattle.purge_task.specs.Reserved.{IsNewWork}
use Rattle.purge_task.specs.declared.task.PurgeStage.TheVariants as stage
use Rattle.purge_task.proofs.CopyLemmas.{kept_of}
use Rattle.purge_task.proofs.FailLemmas.{memory_steps, unread_steps}
use Rattle.purge_task.proofs.FirstLemmas.{IsBegunOf, with_begun}
use Rattle.purge_task.proofs.FirstStepLemmas.{HasBegun, first_steps, taken_all}
use Rattle.purge_task.proofs.FullLemmas.{full_steps}
use Rattle.purge_task.proofs.ReadingLemmas.{idle_grows, idle_leaves, idle_settled}
use Rattle.purge_task.proofs.RemovalCallLemmas.{no_source}
use Rattle.purge_task.proofs.RemovalLemmas.{LeavesSettled}
use Rattle.purge_task.proofs.SameSeenLemmas.{tells_same, with_state}
use Rattle.purge_task.proofs.TakeableLemmas.{can_take_all, files_drawn, untargeted, zip_count}
use Rattle.purge_task.proofs.TakenClaimLemmas.{takes_moves}
use Rattle.purge_task.proofs.TakenLemmas.{given_long}
use Rattle.purge_task.proofs.TakenStateLemmas.{TargetIsDrawn, are_apart, drawn_all, drawn_file, emptied_all, given_files, kept_all, rest_all}
use Rattle.purge_task.proofs.WithinLemmas.{mapped_of}
use Rattle.purge_task.proofs.TakenStoreLemmas.{FitsFound, FitsGiven, IsTakenWith, all_given, begins_with, begun_all, found_fit, highest_all, numbers_told, short_told, targets_told, wanted_told}
use Rattle.purge_task.proofs.SameRegionLemmas.{regions_idle}

-- ---- what it leaves

-- the store with other files, other numbers drawn, and another state of its map log
abbrev pub with_first : {D : Type 0} → D → LogState → FilesValue → Highest → StoreValue D → StoreValue D
with_first disk log files drawn store = record store { disk = disk; map_log = log; files = files; drawn = drawn }

abbrev Mails : DiskState → DiskState → Type 0
Mails a b = ((number : ℕ) → IsSameOrSynced (a (file.Mail number)) (b (file.Mail number))) × ((hash id : List ℕ) → IsSameOrSynced (a (file.Inst hash id)) (b (file.Inst hash id)))

idle_syncs : (before after : Option History) → IsIdle before after → SyncsMail before after
idle_syncs before after idle = between-map (λ a b. b ≡ a) Mails before after (λ a b e. ((λ number. inl (ap (λ (d : DiskState). d (file.Mail number)) e)), (λ hash id. inl (ap (λ (d : DiskState). d (file.Inst hash id)) e)))) idle.same

stays : (n : ℕ) → n ≤ n
stays n = omega arith

-- An event that changes nothing of the disk, and of the storage files only those that no task has taken, and where none ends.
pub first_leaves : {D : Type 0} → (mine : Claims) (disk : D) (log : LogState) (files : FilesValue) (drawn : Highest) (old : StoreValue D) (before after : Option History) → IsIdle before after → old.map_log.room ≤ log.room → old.map_log.end ≤ log.end → ((n : ℕ) → OthersTook mine old n → file_in n files.files ≡ file_in n old.files.files) → ((n : ℕ) → end_in n files.files ≡ end_in n old.files.files)
    → LeavesOthers mine old (with_first disk log files drawn old) before after
first_leaves mine disk log files drawn old before after idle room end known ends =
    let new : StoreValue _ = with_first disk log files drawn old in
    let mail : SyncsMail before after = idle_syncs before after idle in
    let firm : KeepsFirm old new before after = firm_same old new before after refl refl (between-map (λ a b. b ≡ a) SyncsInstances before after (λ a b e hash id. inl (ap (λ (d : DiskState). d (file.Inst hash id)) e)) idle.same) in
    let keeps : KeepsInstances old new before after = kept_same old new before after refl (between-map (λ a b. b ≡ a) ReadsInstances before after (λ a b e hash id. ap (λ (d : DiskState). reading (d (file.Inst hash id))) e) idle.same) firm in
    record {
      records = λ uid row more there. record_kept uid row old new before after mail refl there;
      unlisted = λ uid row none found listed. (listed, refl);
      files = λ n took. record {
        known = ap (λ (o : Option MailFile). option_map (with_pins 0) o) (known n took);
        records = refl;
        guids = λ guid of all. all;
        state = between-map Mails (λ a b. IsSameOrSynced (a (file.Mail n)) (b (file.Mail n))) before after (λ a b m. m.0 n) mail;
      };
      grow = λ n may. record {
        there = λ end is. (end, ends n ∙ is, stays end);
        reads = between-map (λ a b. b ≡ a) (λ a b. (octets : List ℕ) → reading (a (file.Mail n)) ≡ Some octets → (more : List ℕ) × (reading (b (file.Mail n)) ≡ Some (octets ++ more))) before after
            (λ a b e octets is. ([], ap (λ (d : DiskState). reading (d (file.Mail n))) e ∙ (is ∙ ap Some (sym (append-nil octets))))) idle.same;
      };
      instances = λ row is_known more. instance_kept row old new before after keeps is_known;
      unraised = unraised_same old.map old.map refl;
      store = refl;
      numbers = none_placed old.instances;
      mailboxes = stays old.map.highest.mailbox;
      end = end;
      names = inl (λ name number is. is);
      gone = gone_stays old new refl refl (stays old.map.highest.mailbox);
      compared = keeps.compared;
      firm = firm;
      uids = λ number uid held k. record { given = k.given; below = k.below; same = k.same };
      room = room;
      told = between-map (λ a b. b ≡ a) (λ a b. Unit {0}) before after (λ a b e. tt) idle.same;
    }

-- ---- what a call leaves that changes nothing of the disk

pub idle_settles : (m : MapMeaning) (before after : Option History) (began faults : Faults) → IsIdle before after → NoFault began faults → LeavesSettled m before after began faults
idle_settles m before after began faults idle quiet = record {
  moments = λ lists settled. idle_leaves lists before after idle settled;
  rests = λ lists settled. idle_settled lists before after idle settled;
  grows = idle_grows before after idle;
  mail = kept_idle m before after idle;
  quiet = quiet;
}

-- ---- refused

-- the storage files have room for more, and the map log
abbrev pub with_room : {D : Type 0} → D → ℕ → ℕ → StoreValue D → StoreValue D
with_room disk spare room store = record store { disk = disk; files = record store.files { spare = spare }; map_log = record store.map_log { room = room } }

room_amounts : {D : Type 0} → (disk : D) (spare room : ℕ) (old : StoreValue D) (thing : Thing) → amount_in thing (with_room disk spare room old) ≡ amount_in thing old
room_amounts disk spare room old (Due uid) = refl
room_amounts disk spare room old (Pinned n) = refl
room_amounts disk spare room old (Taken n) = refl
room_amounts disk spare room old (Emptied n) = refl
room_amounts disk spare room old (PlacingPieces n) = refl
room_amounts disk spare room old (Removing n) = refl
room_amounts disk spare room old (Held id) = refl
room_amounts disk spare room old (Made n) = refl

first_claims : (s : PurgeStage) (thing : Thing) → s ≡ stage.First → purge_claims s thing ≡ 0
first_claims s thing e = ap (λ (x : PurgeStage). purge_claims x thing) e

-- Refused, with nothing taken: this is what it did.
pub refused_says : {D : Type 0} → (H : D → Option History) (F : D → Faults) (t next : PurgeValue) (why : Refusal) (fs : List ℕ) (spare room : ℕ) (old new : StoreValue D) → t.stage ≡ stage.First → next.stage ≡ stage.First → why ≢ refusal.Stopped → ((most : ℕ) → why ≡ refusal.StoreFull most → IsFindRefusal old (H old.disk) (refusal.StoreFull most)) → old.stopped ≡ false → new ≡ with_room new.disk spare room old → old.map_log.room ≤ room → IsIdle (H old.disk) (H new.disk)
    → (F old.disk).reads ≤ (F new.disk).reads → (F new.disk).changes ≡ (F old.disk).changes → ((why ≡ refusal.ReadFault → ⊥) → (F new.disk).reads ≡ (F old.disk).reads) → ((around : Around) → PurgeSteps fs around t next old (with_room new.disk spare room old) (H old.disk) (H new.disk) (F old.disk) (F new.disk) (Some (reply.Refused why))) → IsStore (H old.disk) old
    → IsPurgeStep t next (progress.Done (reply.Refused why)) old new (H old.disk) (H new.disk) (F old.disk) (F new.disk)
refused_says {D = D} H F t next why fs spare room old new at to other cause runs is more idle reads changes unread steps store = record {
  ready = λ e. absurd (let k : progress.Done (reply.Refused why) ≡ progress.More = e in cc k);
  does = (fs, λ around. subst (λ (s : StoreValue D). PurgeSteps fs around t next old s (H old.disk) (H new.disk) (F old.disk) (F new.disk) (Some (reply.Refused why))) (sym is) (steps around));
  first = λ begins. record { idle = idle; found = λ e. absurd (let k : progress.Done (reply.Refused why) ≡ progress.More = e in cc k); full = λ most e. cause most (let k : why ≡ refusal.StoreFull most = cc e in k) };
  refused = λ reason e read stop. at;
  stopped = record { 0 = λ e. absurd (other (let k : why ≡ refusal.Stopped = cc e in k)); 1 = λ e. absurd (fall new.stopped e ran) };
  regions = λ r. regions_idle old new.map (H old.disk) (H new.disk) store runs (ap (λ (s : StoreValue D). s.map) is) idle;
  claims = λ r. record {
    moves = λ thing. (let a = first_claims t.stage thing at in let b = first_claims next.stage thing to in let c = ap (λ (s : StoreValue D). amount_in thing s) is in let d = room_amounts new.disk spare room old thing in omega (arith, a, b, c, d));
    leaves = subst (λ (s : StoreValue D). LeavesOthers (purge_claims t.stage) old s (H old.disk) (H new.disk)) (sym is) (first_leaves (purge_claims t.stage) new.disk (record old.map_log { room = room }) (record old.files { spare = spare }) old.drawn old (H old.disk) (H new.disk) idle more (stays old.map_log.end) (λ n took. refl) (λ n. refl));
    ended = λ given e thing. first_claims next.stage thing to;
  };
  grows = idle_grows (H old.disk) (H new.disk) idle;
  mail = kept_idle old.map (H old.disk) (H new.disk) idle;
  reads = reads;
  changes = omega (arith, changes);
  calm = λ told. unread (λ e. told (ap (λ (w : Refusal). progress.Done (reply.Refused w)) e));
  unfailed = λ r. changes;
  fell = λ was e. absurd (fall new.stopped e ran);
}
  where
    ran : new.stopped ≡ false
    ran = ap (λ (s : StoreValue D). s.stopped) is ∙ runs

-- ---- taken

-- What was found, what was reserved for it, and what was taken then.
pub record IsTakenFirst {D : Type 0} (history : Option History) (found : Found) (work now : Work) (disk : D) (spare room : ℕ) (old new : StoreValue D) : Type 0 where
  pub store : IsStore history old
  pub order : AreFilesInOrder old.files
  pub found_is : HasFound old history found
  pub work_is : IsNewWork found work
  pub spares : found.targets ≤ spare
  pub log : 17 + 8 * found.most + 5 ≤ room
  pub more : old.map_log.room ≤ room
  pub is : new ≡ take_all work.sources.items (with_room disk spare room old)
  pub left : sources_left now ≡ targets_given old.files.highest work.sources.items
  pub from : now.from ≡ 0
  pub text : length now.text.items ≡ length work.text.items
  pub block : length now.block.items ≡ length work.block.items

-- the drawn numbers, with the files' one
drawn_of : {D : Type 0} → (sources : List Source) (v : StoreValue D) (drew : ℕ) → v.drawn.file ≡ v.files.highest → count_by (λ s. s.is_wanted) sources ≡ drew → take_all sources v ≡ record v { files = (take_all sources v).files; drawn = record v.drawn { file = v.drawn.file + drew } }
drawn_of sources v drew high count =
    let a = drawn_file sources v high in
    let b = highest_all sources v in
    let file : (take_all sources v).drawn.file ≡ v.drawn.file + drew = omega (arith, a, b, high, count) in
    rest_all sources v ∙ ap (λ (n : ℕ). record v { files = (take_all sources v).files; drawn = record v.drawn { file = n } }) file

-- a file that some task has taken, or is to remove, isn't one that can be taken
flag_of : (o : Option MailFile) (value : MailFile → Bool) → option_map_or value o false ≡ true → (f : MailFile) × (o ≡ Some f) × (value f ≡ true)
flag_of None value e = absurd (cc e)
flag_of (Some f) value e = (f, refl, e)

one_some : (b : Bool) → 0 < one_if b → b ≡ true
one_some true l = refl
one_some false l = absurd (omega (arith, l))

both_flags : (a b : Bool) → (a && b) ≡ true → a ≡ true
both_flags true b e = refl
both_flags false b e = absurd (cc e)

-- what is known of a file of others
pub record IsOthersFile (files : List MailFile) (n : ℕ) : Type 0 where
  pub f : MailFile
  pub known : file_in n files ≡ Some f
  pub used : (f.taken ≡ true) ⊎ (f.emptied ≡ true) ⊎ (f.doomed ≡ true)

others_file : {D : Type 0} → (mine : Claims) (store : StoreValue D) (n : ℕ) → ((thing : Thing) → mine thing ≡ 0) → OthersTook mine store n → IsOthersFile store.files.files n
others_file mine store n none (inl taken) =
    let z = none (Taken n) in
    let l : mine (Taken n) < one_if (is_taken_in n store.files.files) = taken in
    let x = flag_of (file_in n store.files.files) (λ f. f.taken) (one_some (is_taken_in n store.files.files) (omega (arith, z, l))) in
    record { f = x.0; known = x.1; used = inl x.2 }
others_file mine store n none (inr (inl emptied)) =
    let z = none (Emptied n) in
    let l : mine (Emptied n) < one_if (is_emptied_in n store.files.files) = emptied in
    let x = flag_of (file_in n store.files.files) (λ f. f.emptied) (one_some (is_emptied_in n store.files.files) (omega (arith, z, l))) in
    record { f = x.0; known = x.1; used = inr (inl x.2) }
others_file mine store n none (inr (inr removing)) =
    let z = none (Removing n) in
    let l : mine (Removing n) < one_if (is_to_remove n store) = removing in
    let x = flag_of (file_in n store.files.files) (λ f. f.doomed) (both_flags (is_doomed_in n store.files.files) (pins_in n store.files.files == 0) (one_some (is_to_remove n store) (omega (arith, z, l)))) in
    record { f = x.0; known = x.1; used = inr (inr x.2) }

not_taken : (files : List MailFile) (n m : ℕ) → IsOthersFile files n → CanTake files m → n ≢ m
not_taken files n m o can same = apart o.used
  where
    is : o.f ≡ can.f
    is = let e : Some o.f ≡ Some can.f = sym o.known ∙ (ap (λ (k : ℕ). file_in k files) same ∙ can.known) in cc e

    apart : (o.f.taken ≡ true) ⊎ (o.f.emptied ≡ true) ⊎ (o.f.doomed ≡ true) → ⊥
    apart (inl e) = fall can.f.taken (sym (ap (λ (f : MailFile). f.taken) is) ∙ e) can.untaken.untaken
    apart (inr (inl e)) = fall can.f.emptied (sym (ap (λ (f : MailFile). f.emptied) is) ∙ e) can.untaken.unemptied
    apart (inr (inr e)) = fall can.f.doomed (sym (ap (λ (f : MailFile). f.doomed) is) ∙ e) can.untaken.undoomed

-- ready for the first file
with_all : {D : Type 0} → (high most : ℕ) (work : Work) (sources : List Source) (v new : StoreValue D) → new ≡ take_all sources v → v.files.highest ≡ high → CanTakeAll v sources → AreFilesInOrder v.files → All (λ s. s.target ≡ None) sources → All (FitsFound new.map most) sources
    → All (IsTakenWith work most high new) (targets_given high sources)
with_all high most work sources v new is same can order none fit = λ i d lt. record {
  fits = all_given new.map most high sources fit i d lt;
  emptied = given_files (λ k. is_emptied_in k new.files.files ≡ true) high sources emptied i d lt;
  drawn = subst (λ (s : StoreValue _). TargetIsDrawn high s (get_or (targets_given high sources) i d)) (sym is) (subst (λ (h : ℕ). All (TargetIsDrawn h (take_all sources v)) (targets_given h sources)) same (drawn_all sources v order.below low none) i d lt);
  low = given_files (λ k. k ≤ high) high sources (subst (λ (h : ℕ). All (λ s. s.file.0 ≤ h) sources) same low) i d lt;
}
  where
    low : All (λ s. s.file.0 ≤ v.files.highest) sources
    low = files_drawn v sources order.below can

    emptied : All (λ s. is_emptied_in s.file.0 new.files.files ≡ true) sources
    emptied = λ i d lt.
        let c = can.files i d lt in
        ap (λ (s : StoreValue _). is_emptied_in (get_or sources i d).file.0 s.files.files) is ∙ ap (λ (o : Option MailFile). option_map_or (λ f. f.emptied) o false) (emptied_all sources v can.rising low i d lt ∙ ap (option_map to_empty) c.known)

zip_wanted : (fs : List FoundFile) (ss : List Source) → AllZip IsNewSource fs ss → count_by (λ s. s.is_wanted) ss ≡ targets_in fs
zip_wanted fs ss z = zip_count fs ss z

known_low : (files : FilesValue) (n : ℕ) (f : MailFile) → file_in n files.files ≡ Some f → AreFilesInOrder files → n ≤ files.highest
known_low files n f known order =
    let there = found_one (λ (g : MailFile). g.file.0 == n) files.files f known in
    let l = All-contains (λ (g : MailFile). g.file.0 ≤ files.highest) files.files f order.below there.0 in
    let same = eqb-true f.file.0 n there.1 in
    omega (arith, l, same)

-- the next stage claims the files that are left
begun_claims : (work : Work) (next : PurgeStage) (thing : Thing) → IsNextStage work next → purge_claims next thing ≡ claims_of_sources (sources_left work) thing
begun_claims work next thing (inl none) = ap (λ (s : PurgeStage). purge_claims s thing) none.1 ∙ (sym (no_source thing) ∙ ap (λ (l : List Source). claims_of_sources l thing) (sym none.0))
begun_claims work next thing (inr some) = ap (λ (s : PurgeStage). purge_claims s thing) some.1

moved : (old v new all mine mine_now left given : ℕ) → all + 0 ≡ v + given → mine ≡ 0 → new ≡ all → v ≡ old → mine_now ≡ left → left ≡ given → new + mine ≡ old + mine_now
moved old v new all mine mine_now left given m a b c d e = omega (arith, m, a, b, c, d, e)

-- the files that it is to empty then are those that it took
files_told : (sources : List Source) → map (λ t. t.file) (taken_all sources) ≡ map (λ s. s.file.0) sources
files_told [] = refl
files_told (s ∷ sources) = ap (λ (files : List ℕ). s.file.0 ∷ files) (files_told sources)

begun_files : (work : Work) (next : PurgeStage) → IsNextStage work next → files_to_empty next ≡ map (λ s. s.file.0) (sources_left work)
begun_files work next (inl none) = ap files_to_empty none.1 ∙ ap (λ (ss : List Source). map (λ (s : Source). s.file.0) ss) (sym none.0)
begun_files work next (inr some) = ap files_to_empty some.1

-- what it took
pub taken_says : {D : Type 0} → (H : D → Option History) (F : D → Faults) (t next : PurgeValue) (found : Found) (work now : Work) (spare room : ℕ) (old new : StoreValue D) → t.stage ≡ stage.First → IsNextStage now next.stage → next.did ≡ did.Quiet → next.dropped ≡ 0 → next.files ≡ 0 → next.instances ≡ 0 → old.stopped ≡ false → IsTakenFirst (H old.disk) found work now new.disk spare room old new
    → IsIdle (H old.disk) (H new.disk) → NoFault (F old.disk) (F new.disk) → IsPurgeStep t next progress.More old new (H old.disk) (H new.disk) (F old.disk) (F new.disk)
taken_says {D = D} H F t next found work now spare room old new at to how dropped files instances runs x idle quiet = record {
  ready = λ more r. ready to;
  does = (
    map (λ t. t.file) (taken_all (sources_left now)),
    λ around. subst (λ (s : StoreValue D). PurgeSteps (map (λ t. t.file) (taken_all (sources_left now))) around t next old s (H old.disk) (H new.disk) (F old.disk) (F new.disk) None) (sym is)
        (first_steps around t next now found.targets new.disk log new.files old (H old.disk) (H new.disk) (F old.disk) (F new.disk) at to how dropped files instances runs x.store.files sound begun (idle_settles old.map (H old.disk) (H new.disk) (F old.disk) (F new.disk) idle quiet)),
  );
  first = λ begins. record { idle = idle; found = λ more. finds; full = λ most e. absurd (let k : progress.More ≡ progress.Done (reply.Refused (refusal.StoreFull most)) = e in cc k) };
  refused = λ reason e read stop. at;
  stopped = record { 0 = λ e. absurd (let k : progress.More ≡ progress.Done (reply.Refused refusal.Stopped) = e in cc k); 1 = λ e. absurd (fall new.stopped e ran) };
  regions = λ r. regions_idle old new.map (H old.disk) (H new.disk) x.store runs (ap (λ (s : StoreValue D). s.map) is) idle;
  claims = λ r. record {
    moves = moves;
    leaves = subst (λ (s : StoreValue D). LeavesOthers (purge_claims t.stage) old s (H old.disk) (H new.disk)) (sym is)
        (first_leaves (purge_claims t.stage) new.disk log new.files (record old.drawn { file = old.drawn.file + found.targets }) old (H old.disk) (H new.disk) idle x.more (stays old.map_log.end) others (λ n. begun_is.ended n));
    ended = λ given e. absurd (let k : progress.More ≡ progress.Done given = e in cc k);
  };
  grows = idle_grows (H old.disk) (H new.disk) idle;
  mail = kept_idle old.map (H old.disk) (H new.disk) idle;
  reads = let e = ap (λ (f : Faults). f.reads) quiet in omega (arith, e);
  changes = let e = ap (λ (f : Faults). f.changes) quiet in omega (arith, e);
  calm = λ told. ap (λ (f : Faults). f.reads) quiet;
  unfailed = λ r. ap (λ (f : Faults). f.changes) quiet;
  fell = λ was e. absurd (fall new.stopped e ran);
}
  where
    finds : FindsUnclean old (H old.disk) (files_to_empty next.stage)
    finds = subst (FindsUnclean old (H old.disk)) (sym (numbers_told old.files.highest found.files.items work.sources.items x.work_is.sources) ∙ (files_told (targets_given old.files.highest work.sources.items) ∙ (ap (λ (ss : List Source). map (λ (s : Source). s.file.0) ss) (sym x.left) ∙ sym (begun_files now next.stage to)))) x.found_is.files.finds

    log : LogState
    log = record old.map_log { room = room }

    v : StoreValue D
    v = with_room new.disk spare room old

    sources : List Source
    sources = work.sources.items

    sound : IsSoundMap old.map
    sound = store_sound (H old.disk) old x.store

    can : CanTakeAll v sources
    can = can_take_all old v (H old.disk) found work x.found_is x.work_is refl refl x.spares

    order_v : AreFilesInOrder v.files
    order_v = record { rising = x.order.rising; below = x.order.below; last = x.order.last; used = x.order.used }

    none : All (λ s. s.target ≡ None) sources
    none = untargeted found work x.work_is

    high : old.drawn.file ≡ old.files.highest
    high = sym x.store.files.highest

    fit : All (FitsFound old.map found.most) sources
    fit = subst (λ (n : ℕ). All (FitsFound old.map n) sources) (sym x.found_is.most) (found_fit old.map found.files.items sources x.work_is.sources x.found_is.files.each x.found_is.short)

    count : count_by (λ s. s.is_wanted) sources ≡ found.targets
    count = zip_wanted found.files.items sources x.work_is.sources ∙ sym x.found_is.targets

    is : new ≡ with_begun new.disk log new.files found.targets old
    is =
        let files_are : (take_all sources v).files ≡ new.files = ap (λ (s : StoreValue D). s.files) (sym x.is) in
        x.is ∙ (drawn_of sources v found.targets high count ∙ ap (λ (f : FilesValue). with_begun new.disk log f found.targets old) files_are)

    ran : new.stopped ≡ false
    ran = ap (λ (s : StoreValue D). s.stopped) is ∙ runs

    begun_is : IsBegunOf old.files.highest old.files.files new.files.files
    begun_is = subst (λ (s : StoreValue D). IsBegunOf old.files.highest old.files.files s.files.files) (sym x.is) (begun_all sources v x.order.below)

    numbers : map (λ t. t.file) (taken_all (sources_left now)) ≡ found_numbers found.files.items
    numbers = ap (λ (ss : List Source). map (λ t. t.file) (taken_all ss)) x.left ∙ numbers_told old.files.highest found.files.items sources x.work_is.sources

    rising : AllPairs (λ a b. a < b) (map (λ t. t.file) (taken_all (sources_left now)))
    rising = subst (λ (ns : List ℕ). AllPairs (λ a b. a < b) ns) (sym numbers) (AllPairs-from_increasing (found_numbers found.files.items) x.found_is.files.finds.known.rising)

    given : All (FitsGiven old.map found.most) (sources_left now)
    given = subst (All (FitsGiven old.map found.most)) (sym x.left) (all_given old.map found.most old.files.highest sources fit)

    begun : HasBegun (sources_left now) found.targets old new.files
    begun = record {
      rising = rising;
      found = subst (AreAllBut (IsFullToEnd old) old.files.files) (sym numbers) x.found_is.files.finds.known;
      targets = subst (λ (n : ℕ). map (λ t. t.target) (taken_all (sources_left now)) ≡ targets_of old.map n (taken_all (sources_left now))) (sym high)
          (subst (λ (ss : List Source). map (λ t. t.target) (taken_all ss) ≡ targets_of old.map old.files.highest (taken_all ss)) (sym x.left) (targets_told old.map found.most old.files.highest sources fit));
      drew_are = sym count ∙ (wanted_told old.map found.most old.files.highest sources fit ∙ ap (λ (ss : List Source). length (with_targets old.map (taken_all ss))) (sym x.left));
      few = (let l = x.found_is.numbers in omega (arith, l, high));
      short = short_told old.map found.most (sources_left now) given;
      uncopied = All-weaker (FitsGiven old.map found.most) (λ s. s.copied.items ≡ []) (λ s f. f.copied) (sources_left now) given;
      begun = subst (λ (n : ℕ). IsBegunOf n old.files.files new.files.files) (sym high) begun_is;
    }

    others : (n : ℕ) → OthersTook (purge_claims t.stage) old n → file_in n new.files.files ≡ file_in n old.files.files
    others n took =
        let o = others_file (purge_claims t.stage) old n (λ thing. first_claims t.stage thing at) took in
        ap (λ (s : StoreValue D). file_in n s.files.files) x.is
        ∙ kept_all sources v n (known_low old.files n o.f o.known x.order) (All-weaker (λ s. CanTake old.files.files s.file.0) (λ s. n ≢ s.file.0) (λ s c. not_taken old.files.files n s.file.0 o c) sources can.files)

    moves : MovesClaims (purge_claims t.stage) (purge_claims next.stage) old new
    moves thing =
        let m = takes_moves sources v x.order.below can none thing in
        let a = first_claims t.stage thing at in
        let b = ap (λ (s : StoreValue D). amount_in thing s) x.is in
        let c = room_amounts new.disk spare room old thing in
        let d = begun_claims now next.stage thing to in
        let e = ap (λ (ss : List Source). claims_of_sources ss thing) x.left in
        moved (amount_in thing old) (amount_in thing v) (amount_in thing new) (amount_in thing (take_all sources v)) (purge_claims t.stage thing) (purge_claims next.stage thing) (claims_of_sources (sources_left now) thing) (claims_of_sources (targets_given old.files.highest sources) thing) m a b c d e

    high_now : new.files.highest ≡ new.drawn.file
    high_now = ap (λ (s : StoreValue D). s.files.highest) x.is ∙ (sym (drawn_file sources v high) ∙ ap (λ (s : StoreValue D). s.drawn.file) (sym x.is))

    map_is : new.map ≡ old.map
    map_is = ap (λ (s : StoreValue D). s.map) is

    log_is : new.map_log ≡ log
    log_is = ap (λ (s : StoreValue D). s.map_log) is

    rows : All (λ row. row.file ≤ old.files.highest) new.map.records
    rows = subst (λ (m : MapMeaning). All (λ row. row.file ≤ old.files.highest) m.records) (sym map_is)
        (All-weaker (λ row. row.file ≤ old.map.highest.file) (λ row. row.file ≤ old.files.highest) (λ row le. let u = x.store.drawn.file in omega (arith, le, u, high)) old.map.records sound.files)

    each : All (IsToBegin now new) (sources_left now)
    each = subst (All (IsToBegin now new)) (sym x.left) (All-weaker (IsTakenWith now found.most old.files.highest new) (IsToBegin now new)
        (λ s h. begins_with now found.most old.files.highest new s rows high_now (x.text ∙ x.work_is.text) (let l = x.log in let e = ap (λ (g : LogState). g.room) log_is in omega (arith, l, e)) h)
        (targets_given old.files.highest sources) (with_all old.files.highest found.most now sources v new x.is refl can order_v none (subst (λ (m : MapMeaning). All (FitsFound m found.most) sources) (sym map_is) fit)))

    ready : IsNextStage now next.stage → HasPurged next.stage new (H new.disk)
    ready (inl e) = subst (λ (s : PurgeStage). HasPurged s new (H new.disk)) (sym e.1) tt
    ready (inr e) = subst (λ (s : PurgeStage). HasPurged s new (H new.disk)) (sym e.1)
        (x.block ∙ x.work_is.block, subst AreSourcesApart (sym x.left) (are_apart old.files.highest sources can.rising none), beginning (sources_left now) e.0 each)
      where
        beginning : (l : List Source) → l ≢ [] → All (IsToBegin now new) l → IsBeginningFirst l now new
        beginning [] empty h = absurd (empty refl)
        beginning (s ∷ l) empty h = (x.from, h)

-- ---- how a refusal is told

-- the same of a store with more room in its map log
room_steps : {D : Type 0} → (fs : List ℕ) (around : Around) (t next : PurgeValue) (disk : D) (spare room : ℕ) (old : StoreValue D) (before later : Option History) (began faults : Faults) (given : Reply) → old.stopped ≡ false
    → PurgeSteps fs around t next old (with_state disk (record old.files { spare = spare }) false old) before later began faults (Some given) → PurgeSteps fs around t next old (with_room disk spare room old) before later began faults (Some given)
room_steps {D = D} fs around t next disk spare room old before later began faults given runs h = λ run lane place said lists come shows stood. (
  subst (λ (b : Bool). DidEvent (around_purging fs old) around run lane place said request.Purge lists (seen_by_purge old before began) (seen_by_purge (record (with_room disk spare room old) { stopped = b }) later faults) next.did (Some given)) (sym runs) (h run lane place said lists come shows stood).0,
  λ e. absurd (never_more _ e),
)

-- a purge at its beginning takes its first event
begins_first : {D : Type 0} → (around : Around) (t : PurgeValue) (store : StoreValue D) (run : Run) (place : ℕ) (said : List Reply) → t.stage ≡ stage.First → IsAtPurge t store run place said → next_part around run request.Purge (own_events place run) ≡ Some First
begins_first around t store run place said at stood = let begins : HasNotBegun run place said = subst (λ (s : PurgeStage). IsAtPurgeStage s t store run place said) at stood in next_first around run request.Purge (own_events place run) begins.0

-- refused for lack of memory
pub memory_says : {D : Type 0} → (H : D → Option History) (F : D → Faults) (t next : PurgeValue) (spare room : ℕ) (old new : StoreValue D) → t.stage ≡ stage.First → next.stage ≡ stage.First → next.did ≡ did.Quiet → old.stopped ≡ false → new ≡ with_room new.disk spare room old → old.map_log.room ≤ room → IsIdle (H old.disk) (H new.disk) → NoFault (F old.disk) (F new.disk) → IsStore (H old.disk) old
    → IsPurgeStep t next (progress.Done (reply.Refused refusal.NoMemory)) old new (H old.disk) (H new.disk) (F old.disk) (F new.disk)
memory_says H F t next spare room old new at to how runs is more idle quiet store =
    refused_says H F t next refusal.NoMemory [] spare room old new at to (λ e. let k : refusal.NoMemory ≡ refusal.Stopped = e in cc k) (λ most e. absurd (let k : refusal.NoMemory ≡ refusal.StoreFull most = e in cc k)) runs is more idle (let e = ap (λ (f : Faults). f.reads) quiet in omega (arith, e)) (ap (λ (f : Faults). f.changes) quiet) (λ unread. ap (λ (f : Faults). f.reads) quiet)
    (λ around. room_steps [] around t next new.disk spare room old (H old.disk) (H new.disk) (F old.disk) (F new.disk) (reply.Refused refusal.NoMemory) runs
    (memory_steps around t next new.disk (record old.files { spare = spare }) old (H old.disk) (H new.disk) (F old.disk) (F new.disk) at how runs (tells_same old.files.files) (idle_settles old.map (H old.disk) (H new.disk) (F old.disk) (F new.disk) idle quiet))) store

-- refused by a fault of a read
pub unread_says : {D : Type 0} → (H : D → Option History) (F : D → Faults) (t next : PurgeValue) (old new : StoreValue D) → t.stage ≡ stage.First → next.stage ≡ stage.First → next.did ≡ did.Quiet → old.stopped ≡ false → new ≡ record old { disk = new.disk } → IsIdle (H old.disk) (H new.disk) → Rose (F old.disk).reads (F new.disk).reads → (F old.disk).reads ≤ (F new.disk).reads → (F new.disk).changes ≡ (F old.disk).changes → IsStore (H old.disk) old
    → IsPurgeStep t next (progress.Done (reply.Refused refusal.ReadFault)) old new (H old.disk) (H new.disk) (F old.disk) (F new.disk)
unread_says H F t next old new at to how runs is idle rose reads changes store =
    refused_says H F t next refusal.ReadFault [] old.files.spare old.map_log.room old new at to (λ e. let k : refusal.ReadFault ≡ refusal.Stopped = e in cc k) (λ most e. absurd (let k : refusal.ReadFault ≡ refusal.StoreFull most = e in cc k)) runs is (stays old.map_log.room) idle reads changes (λ unread. absurd (unread refl))
    (λ around. room_steps [] around t next new.disk old.files.spare old.map_log.room old (H old.disk) (H new.disk) (F old.disk) (F new.disk) (reply.Refused refusal.ReadFault) runs
    (unread_steps around t next new.disk old.files old (H old.disk) (H new.disk) (F old.disk) (F new.disk) First refl how runs (λ run place said come stood. begins_first (around_purging [] old) t old run place said at stood) (tells_same old.files.files)
    (record { moments = λ lists settled. idle_leaves lists (H old.disk) (H new.disk) idle settled; rests = λ lists settled. idle_settled lists (H old.disk) (H new.disk) idle settled; grows = idle_grows (H old.disk) (H new.disk) idle; mail = kept_idle old.map (H old.disk) (H new.disk) idle; reads = reads; changes = omega (arith, changes); rose = rose }))) store

-- ---- refused for lack of numbers

-- a file as it would have been taken
abbrev found_told : FoundFile → TakenFile
found_told f = record { file = f.file.0; target = 0 }

told_numbers : (fs : List FoundFile) → map (λ t. t.file) (map found_told fs) ≡ found_numbers fs
told_numbers [] = refl
told_numbers (f ∷ fs) = ap (λ (ns : List ℕ). f.file.0 ∷ ns) (told_numbers fs)

wanted_found : (m : MapMeaning) (fs : List FoundFile) → All (IsFoundFile m) fs → targets_in fs ≡ length (with_targets m (map found_told fs))
wanted_found m [] h = refl
wanted_found m (f ∷ fs) h = sum_by-cons (λ (x : FoundFile). if x.is_wanted then 1 else 0) f fs ∙ one f.is_wanted (sym (All-head (IsFoundFile m) f fs h).wanted) (wanted_found m fs (All-tail (IsFoundFile m) f fs h))
  where
    one : (b : Bool) → list_any (is_copied_from f.file.0) m.records ≡ b → targets_in fs ≡ length (with_targets m (map found_told fs)) → (if b then 1 else 0) + targets_in fs ≡ length (with_targets m (map found_told (f ∷ fs)))
    one true e rest =
        let k : length (with_targets m (map found_told (f ∷ fs))) ≡ length (found_told f ∷ with_targets m (map found_told fs)) = ap (λ (c : Bool). length (if c then found_told f ∷ with_targets m (map found_told fs) else with_targets m (map found_told fs))) e in
        omega (arith, k, rest)
    one false e rest =
        let k : length (with_targets m (map found_told (f ∷ fs))) ≡ length (with_targets m (map found_told fs)) = ap (λ (c : Bool). length (if c then found_told f ∷ with_targets m (map found_told fs) else with_targets m (map found_told fs))) e in
        omega (arith, k, rest)

-- a file of which nothing is wanted has a short target
none_long : (m : MapMeaning) (file : ℕ) → list_any (is_copied_from file) m.records ≡ false → target_length m file ≤ 9
none_long m file e = let z = each m.records e in omega (arith, z)
  where
    or_false : (a b : Bool) → (a || b) ≡ false → (a ≡ false) × (b ≡ false)
    or_false true b k = absurd (cc k)
    or_false false b k = (refl, k)

    each : (rows : List MapRecord) → list_any (is_copied_from file) rows ≡ false → sum_by (λ row. if is_copied_from file row then row.size else 0) rows ≡ 0
    each [] k = refl
    each (row ∷ rows) k =
        let b = or_false (is_copied_from file row) (list_any (is_copied_from file) rows) k in
        let s = sum_by-cons (λ (r : MapRecord). if is_copied_from file r then r.size else 0) row rows in
        let z : (if is_copied_from file row then row.size else 0) ≡ 0 = ap (λ (c : Bool). if c then row.size else 0) b.0 in
        let rest = each rows b.1 in
        omega (arith, s, z, rest)

contains_told : (m : MapMeaning) (fs : List FoundFile) (f : FoundFile) → Contains fs f → list_any (is_copied_from f.file.0) m.records ≡ true → Contains (with_targets m (map found_told fs)) (found_told f)
contains_told m fs f there some = kept_of (λ (t : TakenFile). list_any (is_copied_from t.file) m.records) (map found_told fs) (found_told f) (mapped_of found_told fs f there) some

lacks_told : (m : MapMeaning) (drawn : ℕ) (fs : List FoundFile) → All (IsFoundFile m) fs → LacksTargets m drawn fs → (4294967294 < drawn + length (with_targets m (map found_told fs))) ⊎ ((t : TakenFile) × Contains (with_targets m (map found_told fs)) t × (4294967294 < target_length m t.file))
lacks_told m drawn fs each (inl many) = inl (let e = wanted_found m fs each in omega (arith, e, many))
lacks_told m drawn fs each (inr long) = inr (found_told long.0, contains_told m fs long.0 long.1 (by_flag (list_any (is_copied_from long.0.file.0) m.records) refl), long.2)
  where
    by_flag : (b : Bool) → list_any (is_copied_from long.0.file.0) m.records ≡ b → b ≡ true
    by_flag true e = refl
    by_flag false e = absurd (let l = none_long m long.0.file.0 e in let k = long.2 in omega (arith, l, k))

pub full_says : {D : Type 0} → (H : D → Option History) (F : D → Faults) (t next : PurgeValue) (fs : List FoundFile) (old new : StoreValue D) → t.stage ≡ stage.First → next.stage ≡ stage.First → next.did ≡ did.Step half.Whole → old.stopped ≡ false → IsStore (H old.disk) old → AreUncleanFound old (H old.disk) fs → LacksTargets old.map old.files.highest fs
    → new ≡ record old { disk = new.disk } → IsIdle (H old.disk) (H new.disk) → NoFault (F old.disk) (F new.disk) → IsPurgeStep t next (progress.Done (reply.Refused (refusal.StoreFull 4294967294))) old new (H old.disk) (H new.disk) (F old.disk) (F new.disk)
full_says {D = D} H F t next fs old new at to how runs store found lacks is idle quiet =
    refused_says H F t next (refusal.StoreFull 4294967294) (map (λ t. t.file) (map found_told fs)) old.files.spare old.map_log.room old new at to (λ e. let k : refusal.StoreFull 4294967294 ≡ refusal.Stopped = e in cc k)
    (λ most e. subst (λ (n : ℕ). IsFindRefusal old (H old.disk) (refusal.StoreFull n)) (let k : 4294967294 ≡ most = cc e in k) (refl, (fs, found, lacks))) runs is (stays old.map_log.room) idle (let e = ap (λ (f : Faults). f.reads) quiet in omega (arith, e)) (ap (λ (f : Faults). f.changes) quiet) (λ unread. ap (λ (f : Faults). f.reads) quiet)
    (λ around. room_steps (map (λ t. t.file) (map found_told fs)) around t next new.disk old.files.spare old.map_log.room old (H old.disk) (H new.disk) (F old.disk) (F new.disk) (reply.Refused (refusal.StoreFull 4294967294)) runs
    (full_steps around t next (map found_told fs) new.disk old.files old (H old.disk) (H new.disk) (F old.disk) (F new.disk) at how runs (tells_same old.files.files) store.files (store_sound (H old.disk) old store)
    (subst (λ (ns : List ℕ). AllPairs (λ a b. a < b) ns) (sym (told_numbers fs)) (AllPairs-from_increasing (found_numbers fs) found.finds.known.rising)) (subst (AreAllBut (IsFullToEnd old) old.files.files) (sym (told_numbers fs)) found.finds.known)
    (subst (λ (n : ℕ). (4294967294 < n + length (with_targets old.map (map found_told fs))) ⊎ ((t : TakenFile) × Contains (with_targets old.map (map found_told fs)) t × (4294967294 < target_length old.map t.file))) store.files.highest (lacks_told old.map old.files.highest fs found.each lacks))
    (idle_settles old.map (H old.disk) (H new.disk) (F old.disk) (F new.disk) idle quiet))) store

-- The refusals of looking for files, by their cause.
no_fault : (why : Refusal) → (why ≡ refusal.ReadFault → ⊥) → IsErrOf {T = Found} (Err why) refusal.ReadFault → ⊥
no_fault why apart e = apart (let w : ◌≡◌ {A = Result Found Refusal} (Err why) (Err refusal.ReadFault) = e in let k : why ≡ refusal.ReadFault = cc w in k)

pub find_refused_says : {D : Type 0} → (H : D → Option History) (F : D → Faults) (t : PurgeValue) (why : Refusal) (old new : StoreValue D) → t.stage ≡ stage.First → old.stopped ≡ false → IsStore (H old.disk) old → IsFindRefusal old (H old.disk) why → new ≡ record old { disk = new.disk } → IsIdle (H old.disk) (H new.disk)
    → ReadFaultCounted (IsErrOf {T = Found} (Err why) refusal.ReadFault) (F old.disk) (F new.disk) → ((IsErrOf {T = Found} (Err why) refusal.ReadFault → ⊥) → NoFault (F old.disk) (F new.disk)) → IsPurgeStep t (came_to (Err why) (uncounted t)) (progress.Done (reply.Refused why)) old new (H old.disk) (H new.disk) (F old.disk) (F new.disk)
find_refused_says {D = D} H F t refusal.NoMemory old new at runs store cause same idle fault quiet =
    memory_says H F t (came_to (Err refusal.NoMemory) (uncounted t)) old.files.spare old.map_log.room old new at refl refl runs same (stays old.map_log.room) idle (quiet (no_fault refusal.NoMemory (λ e. let k : refusal.NoMemory ≡ refusal.ReadFault = e in cc k))) store
find_refused_says {D = D} H F t refusal.ReadFault old new at runs store cause same idle fault quiet =
    unread_says H F t (came_to (Err refusal.ReadFault) (uncounted t)) old new at refl refl runs same idle (fault.rose refl) fault.reads fault.changes store
find_refused_says {D = D} H F t (refusal.StoreFull most) old new at runs store cause same idle fault quiet =
    subst (λ (n : ℕ). IsPurgeStep t (came_to (Err (refusal.StoreFull n)) (uncounted t)) (progress.Done (reply.Refused (refusal.StoreFull n))) old new (H old.disk) (H new.disk) (F old.disk) (F new.disk)) (sym cause.0)
    (full_says H F t (came_to (Err (refusal.StoreFull 4294967294)) (uncounted t)) cause.1.0 old new at refl refl runs store cause.1.1 cause.1.2 same idle (quiet (no_fault (refusal.StoreFull most) (λ e. let k : refusal.StoreFull most ≡ refusal.ReadFault = e in cc k))))
find_refused_says {D = D} H F t why old new at runs store cause same idle fault quiet = absurd cause

-- ---- how many files it takes

rising_few : (ns : List ℕ) (low high : ℕ) → low ≤ high → AllPairs (λ a b. a < b) ns → All (λ n. low < n) ns → All (λ n. n ≤ high) ns → low + length ns ≤ high
rising_few [] low high le rising above below = omega (arith, le)
rising_few (n ∷ ns) low high le rising above below =
    let l = All-head (λ k. low < k) n ns above in
    let h = All-head (λ k. k ≤ high) n ns below in
    let rest = rising_few ns n high h (pairs_tail (λ (a b : ℕ). a < b) n ns rising) (pairs_head (λ (a b : ℕ). a < b) n ns rising) (All-tail (λ k. k ≤ high) n ns below) in
    omega (arith, l, rest)

pub few_taken : {D : Type 0} → (history : Option History) (found : Found) (work now : Work) (disk : D) (spare room : ℕ) (old new : StoreValue D) → IsTakenFirst history found work now disk spare room old new → length (sources_left now) ≤ 4294967294
few_taken history found work now disk spare room old new x =
    let can : CanTakeAll (with_room disk spare room old) work.sources.items = can_take_all old (with_room disk spare room old) history found work x.found_is x.work_is refl refl x.spares in
    let above : All (λ s. 0 < s.file.0) work.sources.items = λ i d lt. (let c = can.files i d lt in let one = x.store.files.numbered (get_or work.sources.items i d).file.0 c.f c.known in omega (arith, one)) in
    let below : All (λ s. s.file.0 ≤ old.files.highest) work.sources.items = files_drawn (with_room disk spare room old) work.sources.items x.order.below can in
    let few = rising_few (map (λ (s : Source). s.file.0) work.sources.items) 0 4294967294 (omega arith) (pairs_map (λ (a b : Source). a.file.0 < b.file.0) (λ (a b : ℕ). a < b) (λ (s : Source). s.file.0) (λ a b l. l) work.sources.items can.rising)
    (all_map (λ (s : Source). 0 < s.file.0) (λ (n : ℕ). 0 < n) (λ (s : Source). s.file.0) (λ s l. l) work.sources.items above)
    (all_map (λ (s : Source). s.file.0 ≤ old.files.highest) (λ (n : ℕ). n ≤ 4294967294) (λ (s : Source). s.file.0) (λ s l. let last = x.order.last in omega (arith, l, last)) work.sources.items below) in
    let long = length-map work.sources.items (λ (s : Source). s.file.0) in
    let given = given_long old.files.highest work.sources.items in
    let left : length (sources_left now) ≡ length (targets_given old.files.highest work.sources.items) = ap (λ (ss : List Source). length ss) x.left in
    omega (arith, few, long, given, left)

-- ---- one call after another

disk_taken : {D : Type 0} → (sources : List Source) (v new : StoreValue D) → new ≡ take_all sources v → new.disk ≡ v.disk
disk_taken sources v new is = ap (λ (s : StoreValue _). s.disk) is ∙ ap (λ (s : StoreValue _). s.disk) (rest_all sources v)

pub store_taken : {D : Type 0} → (sources : List Source) (old looked ready new : StoreValue D) → looked ≡ record old { disk = looked.disk } → ready ≡ record looked { files = record looked.files { spare = ready.files.spare }; map_log = record looked.map_log { room = ready.map_log.room } } → new ≡ take_all sources ready
    → (new ≡ take_all sources (with_room new.disk ready.files.spare ready.map_log.room old)) × (new.disk ≡ looked.disk)
store_taken sources old looked ready new same more is =
    let disk : new.disk ≡ looked.disk = disk_taken sources ready new is ∙ ap (λ (s : StoreValue _). s.disk) more in
    let room : ready ≡ with_room looked.disk ready.files.spare ready.map_log.room old = more ∙ ap (λ (s : StoreValue _). record s { files = record s.files { spare = ready.files.spare }; map_log = record s.map_log { room = ready.map_log.room } }) same in
    (is ∙ (ap (take_all sources) room ∙ ap (λ (d : _). take_all sources (with_room d ready.files.spare ready.map_log.room old)) (sym disk)), disk)

pub store_ready : {D : Type 0} → (old looked ready : StoreValue D) → looked ≡ record old { disk = looked.disk } → ready ≡ record looked { files = record looked.files { spare = ready.files.spare }; map_log = record looked.map_log { room = ready.map_log.room } } → (ready ≡ with_room ready.disk ready.files.spare ready.map_log.room old) × (ready.disk ≡ looked.disk)
store_ready old looked ready same more =
    let disk : ready.disk ≡ looked.disk = ap (λ (s : StoreValue _). s.disk) more in
    let room : ready ≡ with_room looked.disk ready.files.spare ready.map_log.room old = more ∙ ap (λ (s : StoreValue _). record s { files = record s.files { spare = ready.files.spare }; map_log = record s.map_log { room = ready.map_log.room } }) same in
    (room ∙ ap (λ (d : _). with_room d ready.files.spare ready.map_log.room old) (sym disk), disk)

-- ---- how many messages one of them has at the most

few_records : (m : MapMeaning) → IsSoundMap m → length m.records ≤ 4294967294
few_records m sound =
    let few = rising_few (map (λ (r : MapRecord). r.uid) m.records) 0 4294967294 (omega arith) (pairs_map (λ (a b : MapRecord). a.uid < b.uid) (λ (a b : ℕ). a < b) (λ (r : MapRecord). r.uid) (λ a b l. l) m.records sound.rising)
    (all_map (IsSoundRecord m.highest.map) (λ (n : ℕ). 0 < n) (λ (r : MapRecord). r.uid) (λ r s. let l = s.uid.low in omega (arith, l)) m.records sound.records)
    (all_map (IsSoundRecord m.highest.map) (λ (n : ℕ). n ≤ 4294967294) (λ (r : MapRecord). r.uid) (λ r s. s.uid.high) m.records sound.records) in
    let long = length-map m.records (λ (r : MapRecord). r.uid) in
    omega (arith, few, long)

pub most_fits : {D : Type 0} → (history : Option History) (found : Found) (store : StoreValue D) → IsStore history store → HasFound store history found → found.most ≤ 4294967295
most_fits history found store is has =
    let few = few_records store.map (store_sound history store is) in
    let most = greatest_fits (λ (f : FoundFile). f.messages) 4294967295 found.files.items (All-weaker (IsFoundFile store.map) (λ f. f.messages ≤ 4294967295) (λ f k. let e = k.messages in let l = count_by-le-length (λ (r : MapRecord). r.file == f.file.0) store.map.records in omega (arith, e, l, few)) found.files.items has.files.each) in
    let e = has.most in
    omega (arith, most, e)

-- as many instances are known
pub known_taken : {D : Type 0} → (sources : List Source) (disk : D) (spare room n : ℕ) (old new : StoreValue D) → new ≡ take_all sources (with_room disk spare room old) → length old.instances.known ≤ n → length new.instances.known ≤ n
known_taken sources disk spare room n old new is few =
    let a = ap (λ (s : StoreValue _). length s.instances.known) is in
    let b = ap (λ (s : StoreValue _). length s.instances.known) (rest_all sources (with_room disk spare room old)) in
    omega (arith, a, b, few)
