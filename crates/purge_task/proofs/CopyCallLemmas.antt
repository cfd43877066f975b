-- What a purge says that copies a message.
use Rattle.purge_task.proofs.Common.{◌≡◌, ◌≢◌, ◌≤◌, ◌<◌, ◌+◌, ◌==◌, ◌++◌, ℕ, Bool, false, cond, List, [], ◌∷◌, length, Option, Some, None, All, refl, sym, ◌∙◌, ap, subst, arith, IfSome, option_and_then, option_map, option_map_or, AllPairs-cons, sum_by-cons, Between, DiskState, Faults, Grows}
use Rattle.purge_task.proofs.Common.{History, IfTold, MayLeave, SameButFor, reading, NoFault, FileName, between-both, between-on, MapPlace, FileNo, MapRow, AreCopied, MailIsKept, Lists, MapMeaning, record_at, IsSoundMap, pairs_head, pairs_tail, IsSettledFor, Leaves, files_of, FilesValue, IsUsedFile}
use Rattle.purge_task.proofs.Common.{changed_in, end_in, ending_at, is_emptied_in, file-other, StoreValue, Due, Emptied, Held, Made, MovesClaims, Pinned, PlacingPieces, Removing, Taken, Thing, LeavesOthers, claims_of_sources, claims_of_target, purge_claims, sources_left, IsPurgeStep, PurgeSteps}
use Rattle.purge_task.proofs.Common.{IsRegionAdded, IsSourceWith, IsTargetAt, NotesCopy, messages_in, AreCopiedUpTo, AreSourcesApart, HasPurged, HasSwitchRoom, HasTargetHeader, IsCopyingFirst, IsCopyingTo, IsSourceCopied, PurgeValue, PurgeStage, Source, Work, fall, IsStore}
use Rattle.std.specs.Prelude.{vec_capacity}
use Rattle.disk_model.specs.declared.name.FileName.TheVariants as file
use Rattle.disk_model.proofs.MomentLemmas.{if_told-both}
use Rattle.mdbox_base.specs.declared.progress.Did.TheVariants as did
use Rattle.mdbox_base.specs.declared.progress.Progress.TheVariants as progress
use Rattle.mdbox_base.specs.declared.replies.Refusal.TheVariants as refusal
use Rattle.mdbox_base.specs.declared.replies.Reply.TheVariants as reply
use Rattle.storage_files.specs.OnDisk.{IsAsKnown}
use Rattle.purge_task.specs.declared.task.PurgeStage.TheVariants as stage
use Rattle.purge_task.proofs.CopiedOctetsLemmas.{copied_octets}
use Rattle.purge_task.proofs.CopyStepLemmas.{copy_steps}
use Rattle.purge_task.proofs.CopyingLemmas.{HasMore, IsCopyingOne, each_still, grown_amount, grown_ends, grown_keeps, grown_of, header_before, later_targets, more_copied, more_grows, target_untaken}
use Rattle.purge_task.proofs.RegionLemmas.{with_end}
use Rattle.purge_task.proofs.TargetLeavingLemmas.{one_file_leaves, same_others}
use Rattle.purge_task.proofs.SameRegionLemmas.{regions_but}

-- ---- what is noted

-- the source with the copy, and the work that goes on behind the message
pub record IsNotedFor (row : MapRow) (offset : ℕ) (source : Source) (left : List Source) (old new : Work) : Type 0 where
  pub noted : Source
  pub after : sources_left new ≡ noted ∷ left
  pub with_copy : IsSourceWith (record { uid = row.uid; offset = offset }) source noted
  pub from : new.from ≡ row.offset + row.size
  pub text : new.text ≡ old.text
  pub block : length new.block.items ≡ length old.block.items

pub noted_for : (row : MapRow) (offset : ℕ) (source : Source) (left : List Source) (old new : Work) → sources_left old ≡ source ∷ left → NotesCopy row offset old new → IsNotedFor row offset source left old new
noted_for row offset source left old new is n =
    let e : n.source ∷ n.left ≡ source ∷ left = sym n.before ∙ is in
    let s : n.source ≡ source = cc e in
    let l : n.left ≡ left = cc e in
    record {
      noted = n.noted;
      after = n.after ∙ ap (λ (ss : List Source). n.noted ∷ ss) l;
      with_copy = subst (λ (x : Source). IsSourceWith (record { uid = row.uid; offset = offset }) x n.noted) s n.with_copy;
      from = ap (λ (w : Work). w.from) n.same;
      text = ap (λ (w : Work). w.text) n.same;
      block = n.block;
    }

file_as : (place : MapPlace) (source noted : Source) → IsSourceWith place source noted → noted.file.0 ≡ source.file.0
file_as place source noted w = ap (λ (s : Source). s.file.0) w.same

target_as : (place : MapPlace) (source noted : Source) → IsSourceWith place source noted → noted.target ≡ source.target
target_as place source noted w = ap (λ (s : Source). s.target) w.same

-- ---- claims

claims_as : (source noted : Source) (left : List Source) → noted.file.0 ≡ source.file.0 → noted.target ≡ source.target → (thing : Thing) → claims_of_sources (noted ∷ left) thing ≡ claims_of_sources (source ∷ left) thing
claims_as source noted left file target (Due uid) = refl
claims_as source noted left file target (Pinned n) = refl
claims_as source noted left file target (Taken n) =
    let a = sum_by-cons (λ (s : Source). cond (option_map_or (λ (t : FileNo). t.0 == n) s.target false) 1 0) noted left in
    let b = sum_by-cons (λ (s : Source). cond (option_map_or (λ (t : FileNo). t.0 == n) s.target false) 1 0) source left in
    let k : ◌≡◌ {A = ℕ} (cond (option_map_or (λ (t : FileNo). t.0 == n) noted.target false) 1 0) (cond (option_map_or (λ (t : FileNo). t.0 == n) source.target false) 1 0) = ap (λ (o : Option FileNo). cond (option_map_or (λ (t : FileNo). t.0 == n) o false) 1 0) target in
    omega (arith, a, b, k)
claims_as source noted left file target (Emptied n) =
    let a = sum_by-cons (λ (s : Source). cond (s.file.0 == n) 1 0) noted left in
    let b = sum_by-cons (λ (s : Source). cond (s.file.0 == n) 1 0) source left in
    let k : ◌≡◌ {A = ℕ} (cond (noted.file.0 == n) 1 0) (cond (source.file.0 == n) 1 0) = ap (λ (m : ℕ). cond (m == n) 1 0) file in
    omega (arith, a, b, k)
claims_as source noted left file target (PlacingPieces n) = refl
claims_as source noted left file target (Removing n) = refl
claims_as source noted left file target (Held id) = refl
claims_as source noted left file target (Made n) = refl

placing_as : (source noted : Source) (left : List Source) → noted.target ≡ source.target → (thing : Thing) → claims_of_target (noted ∷ left) thing ≡ claims_of_target (source ∷ left) thing
placing_as source noted left target (Due uid) = refl
placing_as source noted left target (Pinned n) = refl
placing_as source noted left target (Taken n) = refl
placing_as source noted left target (Emptied n) = refl
placing_as source noted left target (PlacingPieces n) = ap (λ (o : Option FileNo). cond (option_map_or (λ (t : FileNo). t.0 == n) o false) 1 0) target
placing_as source noted left target (Removing n) = refl
placing_as source noted left target (Held id) = refl
placing_as source noted left target (Made n) = refl

moves_copied : {D : Type 0} → (work now : Work) (source noted : Source) (left : List Source) (n end : ℕ) (disk : D) (store : StoreValue D) → sources_left work ≡ source ∷ left → sources_left now ≡ noted ∷ left → noted.file.0 ≡ source.file.0 → noted.target ≡ source.target
    → MovesClaims (purge_claims (stage.Copying work)) (purge_claims (stage.Copying now)) store (with_end n end disk false store)
moves_copied work now source noted left n end disk store left_are now_are file target thing =
    let a = grown_amount n end disk false store thing in
    let b = claims_as source noted left file target thing in
    let c = placing_as source noted left target thing in
    let d : claims_of_sources (sources_left work) thing + claims_of_target (sources_left work) thing ≡ claims_of_sources (source ∷ left) thing + claims_of_target (source ∷ left) thing = ap (λ (l : List Source). claims_of_sources l thing + claims_of_target l thing) left_are in
    let e : claims_of_sources (sources_left now) thing + claims_of_target (sources_left now) thing ≡ claims_of_sources (noted ∷ left) thing + claims_of_target (noted ∷ left) thing = ap (λ (l : List Source). claims_of_sources l thing + claims_of_target l thing) now_are in
    omega (arith, a, b, c, d, e)

-- ---- ready for the next message

apart_as : (source noted : Source) (left : List Source) → noted.file.0 ≡ source.file.0 → noted.target ≡ source.target → AreSourcesApart (source ∷ left) → AreSourcesApart (noted ∷ left)
apart_as source noted left file target h = record {
  files = AllPairs-cons (λ (a b : Source). a.file.0 < b.file.0) noted left (subst (λ (n : ℕ). All (λ (b : Source). n < b.file.0) left) (sym file) (pairs_head (λ (a b : Source). a.file.0 < b.file.0) source left h.files)) (pairs_tail (λ (a b : Source). a.file.0 < b.file.0) source left h.files);
  targets = AllPairs-cons Rising noted left (subst (λ (o : Option FileNo). All (λ (b : Source). IfSome o (λ t. IfSome b.target (λ u. t.0 < u.0))) left) (sym target) (pairs_head Rising source left h.targets)) (pairs_tail Rising source left h.targets);
}
  where
    Rising : Source → Source → Type 0
    Rising a b = IfSome a.target (λ t. IfSome b.target (λ u. t.0 < u.0))

room_as : {D : Type 0} → (work now : Work) (place : MapPlace) (source noted : Source) (n end : ℕ) (disk : D) (store : StoreValue D) → now.text ≡ work.text → IsSourceWith place source noted → HasSwitchRoom work store source → HasSwitchRoom now (with_end n end disk false store) noted
room_as work now place source noted n end disk store text w h =
    let e : messages_in store.map noted.file.0 ≡ messages_in store.map source.file.0 = ap (messages_in store.map) (file_as place source noted w) in
    let c = w.room in
    let d : vec_capacity noted.dropped ≡ vec_capacity source.dropped = ap (λ (s : Source). vec_capacity s.dropped) w.same in
    let l = h.lists in
    let l0 = l.0 in
    let l1 = l.1 in
    let t = h.text in
    let g = h.log in
    let long = ap (λ t. length t.items) text in
    record { lists = (omega (arith, e, c, l0), omega (arith, e, d, l1)); text = omega (arith, e, t, long); log = omega (arith, e, g) }

copies_as : (m : MapMeaning) (source source_now from from_now end end_now : ℕ) (copied copied_now : List MapPlace) → source_now ≡ source → from_now ≡ from → end_now ≡ end → copied_now ≡ copied → AreCopiedUpTo source from end copied m → AreCopiedUpTo source_now from_now end_now copied_now m
copies_as m source source_now from from_now end end_now copied copied_now a b c d h =
    subst (λ (x : ℕ). AreCopiedUpTo x from_now end_now copied_now m) (sym a) (subst (λ (x : ℕ). AreCopiedUpTo source x end_now copied_now m) (sym b) (subst (λ (x : ℕ). AreCopiedUpTo source from x copied_now m) (sym c) (subst (λ (x : List MapPlace). AreCopiedUpTo source from end x m) (sym d) h)))

long_as : {D : Type 0} → (target end : ℕ) (store : StoreValue D) (d : DiskState) → end_in target store.files.files ≡ Some end → option_map length (reading (d (file.Mail target))) ≡ end_in target store.files.files → (text : List ℕ) → reading (d (file.Mail target)) ≡ Some text → length text ≡ end
long_as target end store d ends known text reads = let w : Some (length text) ≡ Some end = sym (ap (λ (o : Option (List ℕ)). option_map length o) reads) ∙ known ∙ ends in cc w

abbrev AddsAlone : MapRow → ℕ → DiskState → DiskState → Type 0
AddsAlone row target a b = IsRegionAdded row target a b × ((other : FileName) → other ≢ file.Mail target → b other ≡ a other)

abbrev CopiedSo : MapMeaning → ℕ → ℕ → List MapPlace → DiskState → Type 0
CopiedSo m target end copied d = AreCopied (files_of d) m target copied × ((text : List ℕ) → reading (d (file.Mail target)) ≡ Some text → length text ≡ end)

octets_now : {D : Type 0} → (work : Work) (source noted : Source) (left : List Source) (target : FileNo) (row : MapRow) (store : StoreValue D) (before after : Option History) → (one : IsCopyingOne work source left target row store before) → IsSourceWith (record { uid = row.uid; offset = one.copying.end }) source noted → IsAsKnown store.files.files target.0 before
    → Between (IsRegionAdded row target.0) before after → SameButFor (file.Mail target.0) before after → IfTold after (λ now. AreCopied (files_of now) store.map target.0 noted.copied.items)
octets_now work source noted left target row store before after one w known added others =
    between-on (AddsAlone row target.0) (CopiedSo store.map target.0 one.copying.end source.copied.items) (λ d. AreCopied (files_of d) store.map target.0 noted.copied.items) before after
    (λ a b r c. subst (λ (ps : List MapPlace). AreCopied (files_of b) store.map target.0 ps) (sym w.listed) (copied_octets a b store.map target.0 one.copying.end source.copied.items place one.wanted.r row one.copying.unnamed r.1 c.1 one.wanted.shown r.0 found refl c.0))
    (between-both (IsRegionAdded row target.0) (λ a b. (other : FileName) → other ≢ file.Mail target.0 → b other ≡ a other) (AddsAlone row target.0) before after (λ a b r s. (r, s)) added others)
    (if_told-both (λ d. AreCopied (files_of d) store.map target.0 source.copied.items) (λ d. option_map length (reading (d (file.Mail target.0))) ≡ end_in target.0 store.files.files) (CopiedSo store.map target.0 one.copying.end source.copied.items) before
    (λ d c k. (c, long_as target.0 one.copying.end store d one.copying.ends k)) one.copying.octets known)
  where
    place : MapPlace
    place = record { uid = row.uid; offset = one.copying.end }

    found : record_at store.map row.uid.0 ≡ Some one.wanted.r
    found = ap (λ (x : MapRow). record_at store.map x.uid.0) one.wanted.shown ∙ one.wanted.there

pub copied_ready : {D : Type 0} → (work now : Work) (source : Source) (left : List Source) (target : FileNo) (row : MapRow) (disk : D) (store : StoreValue D) (before after : Option History) → IsSoundMap store.map → (one : IsCopyingOne work source left target row store before) → IsNotedFor row one.copying.end source left work now → IsAsKnown store.files.files target.0 before
    → Between (IsRegionAdded row target.0) before after → SameButFor (file.Mail target.0) before after → HasPurged (stage.Copying now) (with_end target.0 (one.copying.end + row.size) disk false store) after
copied_ready {D = D} work now source left target row disk store before after sound one n known added others =
    (n.block ∙ one.block, subst AreSourcesApart (sym n.after) (apart_as source n.noted left file_same target_same one.apart), subst (λ (l : List Source). IsCopyingFirst l now new after) (sym n.after) (copied, each_still work now target left end disk false store n.text (later_targets source left target one.target_is one.apart) one.each))
  where
    end : ℕ
    end = one.copying.end + row.size

    new : StoreValue D
    new = with_end target.0 end disk false store

    place : MapPlace
    place = record { uid = row.uid; offset = one.copying.end }

    file_same : n.noted.file.0 ≡ source.file.0
    file_same = file_as place source n.noted n.with_copy

    target_same : n.noted.target ≡ source.target
    target_same = target_as place source n.noted n.with_copy

    offset : row.offset ≡ one.wanted.r.offset
    offset = ap (λ (x : MapRow). x.offset) one.wanted.shown

    size : row.size ≡ one.wanted.r.size
    size = ap (λ (x : MapRow). x.size) one.wanted.shown

    copying : IsCopyingTo target.0 n.noted now new after
    copying = record {
      taken = grown_keeps (λ o. option_map_or (λ f. f.taken) o false) target.0 end target.0 store.files.files (λ f. refl) ∙ one.copying.taken;
      begun = grown_keeps (λ o. option_and_then (λ f. f.begun) o) target.0 end target.0 store.files.files (λ f. refl) ∙ one.copying.begun;
      end = end;
      ends = grown_ends target.0 one.copying.end end store.files.files one.copying.ends;
      drawn = one.copying.drawn;
      unnamed = one.copying.unnamed;
      behind = subst (λ (k : ℕ). k < target.0) (sym file_same) one.copying.behind;
      copied = copies_as store.map source.file.0 n.noted.file.0 (one.wanted.r.offset + one.wanted.r.size) now.from (one.copying.end + one.wanted.r.size) end (source.copied.items ++ place ∷ []) n.noted.copied.items file_same (let f = n.from in omega (arith, f, offset, size)) (omega (arith, size)) n.with_copy.listed
          (more_copied work source left target row store before place sound one (ap (λ (x : MapRow). x.uid.0) one.wanted.shown) refl);
      header = between-on (IsRegionAdded row target.0) (λ d. HasTargetHeader (files_of d (file.Mail target.0))) (λ d. HasTargetHeader (files_of d (file.Mail target.0))) before after (λ a b r begins. header_before _ (a (file.Mail target.0)) (b (file.Mail target.0)) r.added begins) added one.copying.header;
      octets = octets_now work source n.noted left target row store before after one n.with_copy known added others;
      stays = between-on (IsRegionAdded row target.0) (λ d. MayLeave (d (file.Mail target.0)) None → ⊥) (λ d. MayLeave (d (file.Mail target.0)) None → ⊥) before after (λ a b r none gone. none (r.added.leaves gone)) added one.copying.stays;
    }

    copied : IsSourceCopied n.noted now new after
    copied = record {
      emptied = ap (λ (k : ℕ). is_emptied_in k new.files.files) file_same ∙ (grown_keeps (λ o. option_map_or (λ f. f.emptied) o false) target.0 end source.file.0 store.files.files (λ f. refl) ∙ one.emptied);
      undropped = ap (λ (s : Source). s.dropped.items) n.with_copy.same ∙ one.undropped;
      room = room_as work now place source n.noted target.0 end disk store n.text n.with_copy one.room;
      target = target;
      target_is = target_same ∙ one.target_is;
      copying = copying;
    }

-- ---- the call

-- the store behind the call
pub grown_store : {D : Type 0} → (target end : ℕ) (old new : StoreValue D) → IsTargetAt target end old new → new.stopped ≡ false → new ≡ with_end target end new.disk false old
grown_store target end old new at runs = at.same ∙ ap (λ (b : Bool). with_end target end new.disk b old) runs

-- a store that runs still
pub runs_still : {D : Type 0} → (target end : ℕ) (disk : D) (old : StoreValue D) → old.stopped ≡ false → with_end target end disk old.stopped old ≡ with_end target end disk false old
runs_still target end disk old runs = ap (λ (b : Bool). with_end target end disk b old) runs

pub copied_says : {D : Type 0} → (H : D → Option History) (F : D → Faults) (t next : PurgeValue) (work now : Work) (source : Source) (left : List Source) (target : FileNo) (row : MapRow) (old new : StoreValue D) → t.stage ≡ stage.Copying work → next.stage ≡ stage.Copying now → next.did ≡ did.Quiet → next.dropped ≡ t.dropped → next.files ≡ t.files → next.instances ≡ t.instances
    → old.stopped ≡ false → IsSoundMap old.map → All IsUsedFile old.files.files → IsAsKnown old.files.files target.0 (H old.disk) → (one : IsCopyingOne work source left target row old (H old.disk)) → IsNotedFor row one.copying.end source left work now
    → ((lists : Lists) → IsSettledFor lists (H old.disk) → Leaves lists lists (H old.disk) (H new.disk)) → MailIsKept old.map (H old.disk) (H new.disk) → ((lists : Lists) → IsSettledFor lists (H old.disk) → IsSettledFor lists (H new.disk)) → Between (IsRegionAdded row target.0) (H old.disk) (H new.disk) → SameButFor (file.Mail target.0) (H old.disk) (H new.disk)
    → Between (HasMore target.0) (H old.disk) (H new.disk) → IsTargetAt target.0 (one.copying.end + row.size) old new → new.stopped ≡ false → Grows (H old.disk) (H new.disk) → NoFault (F old.disk) (F new.disk) → IsStore (H old.disk) old → IsPurgeStep t next progress.More old new (H old.disk) (H new.disk) (F old.disk) (F new.disk)
copied_says {D = D} H F t next work now source left target row old new at to how dropped files instances runs sound used known one n moments mail rests added others more there on grows quiet store = record {
  ready = λ answer r. subst (λ (s : PurgeStage). HasPurged s new (H new.disk)) (sym to) (subst (λ (s : StoreValue D). HasPurged (stage.Copying now) s (H new.disk)) (sym is) (copied_ready work now source left target row new.disk old (H old.disk) (H new.disk) sound one n known added others));
  does = (
    [],
    λ around. subst (λ (s : StoreValue D). PurgeSteps [] around t next old s (H old.disk) (H new.disk) (F old.disk) (F new.disk) None) (sym is)
        (copy_steps around t next work now source n.noted left row place one.copying.end target.0 new.disk grown old (H old.disk) (H new.disk) (F old.disk) (F new.disk) at one.left_are to n.after n.with_copy one.apart sound one.copying.copied one.wanted (ap (λ (x : MapRow). x.uid.0) one.wanted.shown)
        how dropped files instances runs (grown_of target.0 one.copying.end end old.files.files one.copying.ends later) (record { moments = moments; rests = rests; grows = grows; mail = mail; quiet = quiet })),
  );
  first = λ begins. absurd (let e : stage.Copying work ≡ stage.First = sym at ∙ begins in cc e);
  refused = λ why e read stop. absurd (let k : progress.More ≡ progress.Done (reply.Refused why) = e in cc k);
  stopped = record { 0 = λ e. absurd (let k : progress.More ≡ progress.Done (reply.Refused refusal.Stopped) = e in cc k); 1 = λ e. absurd (fall new.stopped e on) };
  regions = λ r. regions_but target.0 old new.map (H old.disk) (H new.disk) store runs (ap (λ (s : StoreValue D). s.map) is) one.copying.unnamed others;
  claims = λ r. record {
    moves = subst (λ (s : StoreValue D). MovesClaims (purge_claims t.stage) (purge_claims next.stage) old s) (sym is) (subst (λ (s : PurgeStage). MovesClaims (purge_claims s) (purge_claims next.stage) old after) (sym at)
        (subst (λ (s : PurgeStage). MovesClaims (purge_claims (stage.Copying work)) (purge_claims s) old after) (sym to) (moves_copied work now source n.noted left target.0 end new.disk old one.left_are n.after (file_as place source n.noted n.with_copy) (target_as place source n.noted n.with_copy))));
    leaves = subst (λ (s : StoreValue D). LeavesOthers (purge_claims t.stage) old s (H old.disk) (H new.disk)) (sym (is ∙ sym (runs_still target.0 end new.disk old runs))) (subst (λ (s : PurgeStage). LeavesOthers (purge_claims s) old (with_end target.0 end new.disk old.stopped old) (H old.disk) (H new.disk)) (sym at)
        (one_file_leaves (purge_claims (stage.Copying work)) target.0 new.disk grown old (H old.disk) (H new.disk) one.copying.unnamed (target_untaken work source left target old one.left_are one.target_is used one.copying.taken)
        (λ may. more_grows target.0 one.copying.end end old (with_end target.0 end new.disk old.stopped old) (H old.disk) (H new.disk) one.copying.ends (grown_ends target.0 one.copying.end end old.files.files one.copying.ends) later more)
        (λ m apart. file-other target.0 m (ending_at end) old.files.files (λ f. refl) apart) (same_others target.0 (H old.disk) (H new.disk) others)));
    ended = λ given e. absurd (let k : progress.More ≡ progress.Done given = e in cc k);
  };
  grows = grows;
  mail = mail;
  reads = let e = ap (λ (f : Faults). f.reads) quiet in omega (arith, e);
  changes = let e = ap (λ (f : Faults). f.changes) quiet in omega (arith, e);
  calm = λ told. ap (λ (f : Faults). f.reads) quiet;
  unfailed = λ r. ap (λ (f : Faults). f.changes) quiet;
  fell = λ was e. absurd (fall new.stopped e on);
}
  where
    end : ℕ
    end = one.copying.end + row.size

    later : one.copying.end ≤ end
    later = omega arith

    place : MapPlace
    place = record { uid = row.uid; offset = one.copying.end }

    grown : FilesValue
    grown = record old.files { files = changed_in target.0 (ending_at end) old.files.files }

    after : StoreValue D
    after = with_end target.0 end new.disk false old

    is : new ≡ after
    is = grown_store target.0 end old new there on
