-- What a purge says that switches a storage file.
use Rattle.purge_task.proofs.Common.{◌≡◌, ◌≢◌, ◌≤◌, ◌<◌, ◌+◌, ◌==◌, ◌&&◌, ℕ, Bool, true, false, not, List, [], ◌∷◌, length, Option, Some, None, refl, sym, ◌∙◌, ap, subst, arith, get_or, inl, inr, All, AllPairs, filter, is_some, nat_le, nat_lt, if◌then◌else◌, list_any, IfSome, option_and_then}
use Rattle.purge_task.proofs.Common.{option_map_or, cases_Bool, cases_lt, eq-eqb, eqb-true, ne_eqb, drop_all, All-cons, All-contains, All-head, All-nil, All-tail, common_steps, AllPairs-cons, count_by-le-length, Faults, Grows, History, LogState, MapPlace, FileNo, MapUid, Reply, MailIsKept, Lists}
use Rattle.purge_task.proofs.Common.{MapFits, MapMeaning, MapRecord, record_at, IsSoundMap, pairs_head, pairs_tail, found_one, IsSettledFor, Leaves, CopiesMessage, EventPart, MakesTarget, RemovesFile, Run, RunEvent, Switches, TakenFile, is_copied_from, is_one_of, map_of, own_events, next_part}
use Rattle.purge_task.proofs.Common.{next_taken, purge_goes_on, AreFilesInOrder, FilesValue, file_in, is_doomed_in, is_emptied_in, pins_in, MailFile, IsSpared, due_at, KeepsFirm, AreElsewhere, IsStore, StoreValue, store_sound, may_be_used, Due, Emptied, Held, Made, Pinned, PlacingPieces, Removing}
use Rattle.purge_task.proofs.Common.{Taken, Thing, one_if, records_within, HasComeTo, claims_of_sources, claims_of_switched, claims_of_target, purge_claims, sources_left, IsPurgeStep, PurgeSteps, around_purging, seen_by_purge, AreSourcesApart, HasPurged, IsBeginningFirst, IsCopyingFirst}
use Rattle.purge_task.proofs.Common.{IsRemovingFirst, IsTargetToMake, IsToBegin, PurgeValue, messages_in, IsFurther, CopiesBehind, GoesOnBehind, HaveCopied, IsAtPurge, IsAtPurgeStage, IsPurging, told_taken, went_on, IsBehindSwitch, IsToSwitch, IsUnwantedFirst, AreSwitchLists, IsReadyToSwitch}
use Rattle.purge_task.proofs.Common.{IsSwitched, IsTargetWritten, KeepsButTarget, ReadsMail, files_switched, target_named, target_synced, Switched, PurgeStage, Source, Work, fall}
use Rattle.std.proofs.Common.{◌⊎◌}
use Rattle.std.specs.Prelude.{drop}
use Rattle.disk_model.specs.FaultCounts.{ChangeFaultCounted}
use Rattle.mdbox_base.specs.declared.entries.MapEntry.TheVariants as map_entry
use Rattle.mdbox_base.specs.declared.progress.Did.TheVariants as did
use Rattle.mdbox_base.specs.declared.progress.Progress.TheVariants as progress
use Rattle.mdbox_base.specs.declared.replies.Refusal.TheVariants as refusal
use Rattle.mdbox_base.specs.declared.replies.Reply.TheVariants as reply
use Rattle.mdbox_base.specs.declared.requests.Request.TheVariants as request
use Rattle.map_index.specs.Kept.{IsMapInOrder}
use Rattle.journal.specs.Events.{copies_left}
use Rattle.store_core.proofs.SwitchLemmas.{none_left}
use Rattle.purge_task.specs.Reserved.{HasListRoom}
use Rattle.purge_task.specs.SwitchEvent.{IsCopiedFirst}
use Rattle.purge_task.specs.declared.task.PurgeStage.TheVariants as stage
use Rattle.purge_task.proofs.BareCallLemmas.{IsEmptiedFile, emptied_file}
use Rattle.purge_task.proofs.EventLemmas.{same_refusal}
use Rattle.purge_task.proofs.FailLemmas.{fail_steps}
use Rattle.purge_task.proofs.FurtherLemmas.{further_switch_on, further_switch_removing}
use Rattle.purge_task.proofs.PartLemmas.{next_copies, next_goes_on, next_is}
use Rattle.purge_task.proofs.ReadyLemmas.{ready_copied, ready_unwanted}
use Rattle.purge_task.proofs.RemovalCallLemmas.{next_claims}
use Rattle.purge_task.proofs.RemovalLemmas.{LeavesSettled}
use Rattle.purge_task.proofs.SameSeenLemmas.{TellsNoLess, tells_same}
use Rattle.purge_task.proofs.StageLemmas.{left_on}
use Rattle.purge_task.proofs.SwitchClaimLemmas.{IsOtherWritten, IsSwitchMade, moved_past, not_target, other_there, removal_claims, switch_leaves, switched_amount, target_at, with_switched}
use Rattle.purge_task.proofs.SwitchFileLemmas.{IsOtherThere, at_target, doomed_of, switched_doomed, switched_other, switched_pins, written_file, written_unemptied}
use Rattle.purge_task.proofs.SwitchFitLemmas.{no_more_than, none_moved}
use Rattle.purge_task.proofs.SwitchReadyLemmas.{copies_as, synced_end, synced_or}
use Rattle.purge_task.proofs.SwitchRowLemmas.{elsewhere_switched, length_as, map_switched, messages_as, rows_are, unwanted_as, within, within_as, within_switched}
use Rattle.purge_task.proofs.SwitchStepLemmas.{CountsSwitch, HasSwitched, IsSpent, switch_steps}
use Rattle.purge_task.proofs.SwitchedLemmas.{reads_begin}
use Rattle.purge_task.proofs.SwitchRegionLemmas.{regions_switched}

and_false : (c : Bool) → (c && false) ≡ false
and_false true = refl
and_false false = refl

and_true : (c : Bool) → (c && true) ≡ c
and_true true = refl
and_true false = refl

-- ---- the file that is switched

-- the present file of those that are left
pub record IsSwitchedOne {D : Type 0} (work : Work) (source : Source) (left : List Source) (store : StoreValue D) (history : Option History) : Type 0 where
  pub left_are : sources_left work ≡ source ∷ left
  pub block : length work.block.items ≡ 65536
  pub apart : AreSourcesApart (source ∷ left)
  pub ready : IsReadyToSwitch source work store history
  pub each : All (IsToBegin work store) left

begun_one : {D : Type 0} → (work : Work) (store : StoreValue D) (history : Option History) (l : List Source) → sources_left work ≡ l → length work.block.items ≡ 65536 → AreSourcesApart l → IsBeginningFirst l work store → IsUnwantedFirst l store.map → (source : Source) × (left : List Source) × IsSwitchedOne work source left store history
begun_one work store history [] is block apart first bare = absurd first
begun_one work store history (source ∷ left) is block apart first bare =
    (source, left, record { left_are = is; block = block; apart = apart; ready = ready_unwanted work source store history (All-head (IsToBegin work store) source left first.1) bare.0; each = All-tail (IsToBegin work store) source left first.1 })

copied_one : {D : Type 0} → (work : Work) (store : StoreValue D) (history : Option History) (l : List Source) → sources_left work ≡ l → length work.block.items ≡ 65536 → AreSourcesApart l → IsCopyingFirst l work store history → IsCopiedFirst l work.from store.map → (source : Source) × (left : List Source) × IsSwitchedOne work source left store history
copied_one work store history [] is block apart first none = absurd first
copied_one work store history (source ∷ left) is block apart first none = (source, left, record { left_are = is; block = block; apart = apart; ready = ready_copied work source store history first.0 none; each = first.1 })

pub switched_one : {D : Type 0} → (at : PurgeStage) (work : Work) (store : StoreValue D) (history : Option History) → HasPurged at store history → IsToSwitch at work store.map → (source : Source) × (left : List Source) × IsSwitchedOne work source left store history
switched_one (stage.Begin begun) work store history h to =
    let k : HasPurged (stage.Begin work) store history = subst (λ (w : Work). HasPurged (stage.Begin w) store history) to.0 h in
    begun_one work store history (sources_left work) refl k.0 k.1 k.2 to.1
switched_one (stage.Copying copied) work store history h to =
    let k : HasPurged (stage.Copying work) store history = subst (λ (w : Work). HasPurged (stage.Copying w) store history) to.0 h in
    copied_one work store history (sources_left work) refl k.0 k.1 k.2 to.1
switched_one stage.First work store history h to = absurd to
switched_one (stage.Removing removed) work store history h to = absurd to
switched_one stage.Instances work store history h to = absurd to

pub ready_one : {D : Type 0} → (work : Work) (store : StoreValue D) (history : Option History) → (source : Source) × (left : List Source) × IsSwitchedOne work source left store history → (source : Source) × (left : List Source) × (sources_left work ≡ source ∷ left) × IsReadyToSwitch source work store history
ready_one work store history one = (one.0, one.1, one.2.left_are, one.2.ready)

-- its work has a present file
pub left_within : (work : Work) (source : Source) (left : List Source) → sources_left work ≡ source ∷ left → work.next < length work.sources.items
left_within work source left is = elim (cases_lt work.next (length work.sources.items)) [
  | inl within ↦ within
  | inr past ↦ absurd (let k : source ∷ left ≡ [] = sym is ∙ drop_all work.next work.sources.items past in cc k)
]

-- ---- its target

other_written : {D : Type 0} → (target : Option FileNo) (source : Source) (store : StoreValue D) (history : Option History) → AreFilesInOrder store.files → IsTargetWritten target source store history → IsOtherWritten source.file.0 target store.files.files
other_written None source store history order w = tt
other_written (Some t) source store history order w = (w.other, written_file t.0 w.end store.files.files order.used w.taken w.ends, w.begun)

none_written : {D : Type 0} → (target : Option FileNo) (source : Source) (m : MapMeaning) (store : StoreValue D) (history : Option History) (moved : List MapPlace) (dropped : List MapUid) → AreSwitchLists m source.file.0 source.copied.items moved dropped → IsTargetWritten target source store history → target ≡ None → moved ≡ []
none_written (Some t) source m store history moved dropped listed w is = absurd (let k : Some t ≡ None = is in cc k)
none_written None source m store history [] dropped listed w is = refl
none_written None source m store history (place ∷ rest) dropped listed w is = none_moved m source.file.0 source.copied.items (place ∷ rest) dropped place rest listed w refl

told_target : (target : Option FileNo) (moved : List MapPlace) → target_named target moved ≢ 0 → target_named target moved ≡ option_map_or (λ t. t.0) target 0
told_target None [] some = refl
told_target None (place ∷ rest) some = refl
told_target (Some t) [] some = absurd (some refl)
told_target (Some t) (place ∷ rest) some = refl

-- ---- ready for what is left

begun_on : {D : Type 0} → (work later : Work) (source s : Source) (moved : List MapPlace) (dropped : List MapUid) (disk : D) (log : LogState) (dues : List ℕ) (store : StoreValue D) → length later.text.items ≡ length work.text.items → store.map_log.room ≤ log.room → source.file.0 < s.file.0 → IfSome source.target (λ t. IfSome s.target (λ u. t.0 < u.0))
    → IsSoundMap store.map → MapFits store.map (map_entry.P source.file (target_named source.target moved) moved dropped) → (source.target ≡ None → moved ≡ []) → AreFilesInOrder store.files → IsOtherWritten source.file.0 source.target store.files.files → IsToBegin work store s
    → IsToBegin later (with_switched source.file.0 source.target disk log (map_switched source.file (target_named source.target moved) moved dropped store.map) dues store) s
begun_on {D = D} work later source s moved dropped disk log dues store text room before targets sound fits none order w h = record {
  emptied = ap (λ (o : Option MailFile). option_map_or (λ f. f.emptied) o false) (switched_other s.file.0 source.file.0 source.target store.files.files there (ne_eqb s.file.0 source.file.0 apart) miss) ∙ h.emptied;
  target = by_target s.target targets h.target;
  short = (let e = length_as s.file.0 store.map new.map same in let l = h.short in omega (arith, e, l));
  uncopied = h.uncopied;
  undropped = h.undropped;
  room = record {
    lists = subst (λ (n : ℕ). HasListRoom n s) (sym messages) h.room.lists;
    text = (let l = h.room.text in omega (arith, messages, text, l));
    log = (let l = h.room.log in omega (arith, messages, room, l));
  };
}
  where
    new : StoreValue D
    new = with_switched source.file.0 source.target disk log (map_switched source.file (target_named source.target moved) moved dropped store.map) dues store

    there : IsOtherThere source.file.0 source.target store.files.files
    there = other_there source.file.0 source.target store.files.files w

    apart : s.file.0 ≢ source.file.0
    apart e = omega (arith, e, before)

    miss : at_target source.target s.file.0 ≡ false
    miss = by_flag (at_target source.target s.file.0) refl
      where
        by_flag : (b : Bool) → at_target source.target s.file.0 ≡ b → b ≡ false
        by_flag false e = refl
        by_flag true e =
            let t = target_at source.file.0 s.file.0 source.target store.files.files w e in
            absurd (fall (is_emptied_in s.file.0 store.files.files) h.emptied (ap (λ (o : Option MailFile). option_map_or (λ f. f.emptied) o false) t.1.found ∙ written_unemptied s.file.0 store.files.files t.1))

    same : within s.file.0 new.map ≡ within s.file.0 store.map
    same = within_switched source.file (target_named source.target moved) moved dropped s.file.0 store.map sound fits apart (moved_past source moved s.file.0 none miss)

    messages : messages_in new.map s.file.0 ≡ messages_in store.map s.file.0
    messages = messages_as s.file.0 store.map new.map same

    other_than : (o : Option FileNo) (u : FileNo) → IfSome o (λ t. t.0 < u.0) → at_target o u.0 ≡ false
    other_than None u l = refl
    other_than (Some t) u l = ne_eqb t.0 u.0 (λ e. let k : t.0 < u.0 = l in omega (arith, e, k))

    by_one : (o : Option FileNo) (u : FileNo) → IfSome o (λ t. IfSome (Some u) (λ u. t.0 < u.0)) → IfSome o (λ t. t.0 < u.0)
    by_one None u l = tt
    by_one (Some t) u l = l

    by_target : (o : Option FileNo) → IfSome source.target (λ t. IfSome o (λ u. t.0 < u.0)) → IsTargetToMake s.file.0 o store → IsTargetToMake s.file.0 o new
    by_target None l k = unwanted_as s.file.0 store.map new.map same k
    by_target (Some u) l k =
        let past : at_target source.target u.0 ≡ false = other_than source.target u (by_one source.target u l) in
        let own : u.0 ≢ source.file.0 = (λ e. let n = k.2 in omega (arith, e, n, before)) in
        let known : file_in u.0 new.files.files ≡ file_in u.0 store.files.files = switched_other u.0 source.file.0 source.target store.files.files there (ne_eqb u.0 source.file.0 own) past in (
          record {
            taken = ap (λ (o : Option MailFile). option_map_or (λ f. f.taken) o false) known ∙ k.0.taken;
            unmade = ap (λ (o : Option MailFile). option_and_then (λ f. f.end) o) known ∙ k.0.unmade;
            drawn = k.0.drawn;
            unnamed = elsewhere_switched source.file (target_named source.target moved) moved dropped u.0 store.map (moved_past source moved u.0 none past) k.0.unnamed;
          },
          k.1,
          k.2,
        )

all_begun : {D : Type 0} → (work later : Work) (source : Source) (moved : List MapPlace) (dropped : List MapUid) (disk : D) (log : LogState) (dues : List ℕ) (store : StoreValue D) → length later.text.items ≡ length work.text.items → store.map_log.room ≤ log.room
    → IsSoundMap store.map → MapFits store.map (map_entry.P source.file (target_named source.target moved) moved dropped) → (source.target ≡ None → moved ≡ []) → AreFilesInOrder store.files → IsOtherWritten source.file.0 source.target store.files.files
    → (l : List Source) → All (λ s. source.file.0 < s.file.0) l → All (λ s. IfSome source.target (λ t. IfSome s.target (λ u. t.0 < u.0))) l → All (IsToBegin work store) l
    → All (IsToBegin later (with_switched source.file.0 source.target disk log (map_switched source.file (target_named source.target moved) moved dropped store.map) dues store)) l
all_begun work later source moved dropped disk log dues store text room sound fits none order w [] before targets each = All-nil _
all_begun work later source moved dropped disk log dues store text room sound fits none order w (s ∷ l) before targets each =
    All-cons (IsToBegin later (with_switched source.file.0 source.target disk log (map_switched source.file (target_named source.target moved) moved dropped store.map) dues store)) s l
    (begun_on work later source s moved dropped disk log dues store text room (All-head (λ (x : Source). source.file.0 < x.file.0) s l before) (All-head (λ (x : Source). IfSome source.target (λ t. IfSome x.target (λ u. t.0 < u.0))) s l targets) sound fits none order w (All-head (IsToBegin work store) s l each))
    (all_begun work later source moved dropped disk log dues store text room sound fits none order w l (All-tail (λ (x : Source). source.file.0 < x.file.0) s l before) (All-tail (λ (x : Source). IfSome source.target (λ t. IfSome x.target (λ u. t.0 < u.0))) s l targets) (All-tail (IsToBegin work store) s l each))

-- the spent source stands where the source stood
spent_apart : (source spent : Source) (left : List Source) → IsSpent source spent → AreSourcesApart (source ∷ left) → AreSourcesApart (spent ∷ left)
spent_apart source spent left w apart = record {
  files = pairs_with (λ (a b : Source). a.file.0 < b.file.0) source spent left (subst (λ (f : FileNo). All (λ s. f.0 < s.file.0) left) (sym w.file) (pairs_head (λ (a b : Source). a.file.0 < b.file.0) source left apart.files)) apart.files;
  targets = pairs_with (λ (a b : Source). IfSome a.target (λ t. IfSome b.target (λ u. t.0 < u.0))) source spent left
      (subst (λ (o : Option FileNo). All (λ s. IfSome o (λ t. IfSome s.target (λ u. t.0 < u.0))) left) (sym w.target) (pairs_head (λ (a b : Source). IfSome a.target (λ t. IfSome b.target (λ u. t.0 < u.0))) source left apart.targets)) apart.targets;
}
  where
    pairs_with : (R : Source → Source → Type 0) (a b : Source) (xs : List Source) → All (R b) xs → AllPairs R (a ∷ xs) → AllPairs R (b ∷ xs)
    pairs_with R a b xs head pairs = AllPairs-cons R b xs head (pairs_tail R a xs pairs)

rest_apart : (source : Source) (left : List Source) → AreSourcesApart (source ∷ left) → AreSourcesApart left
rest_apart source left apart = record { files = pairs_tail (λ (a b : Source). a.file.0 < b.file.0) source left apart.files; targets = pairs_tail (λ (a b : Source). IfSome a.target (λ t. IfSome b.target (λ u. t.0 < u.0))) source left apart.targets }

-- the next stage has what it needs
ready_behind : {D : Type 0} → (work later : Work) (source spent : Source) (left : List Source) (moved : List MapPlace) (dropped : List MapUid) (disk : D) (log : LogState) (dues : List ℕ) (store : StoreValue D) (before after : Option History) (next : PurgeStage)
    → IsSwitchedOne work source left store before → sources_left later ≡ spent ∷ left → IsSpent source spent → length later.block.items ≡ length work.block.items → length later.text.items ≡ length work.text.items
    → IsStore before store → AreFilesInOrder store.files → IsOtherWritten source.file.0 source.target store.files.files
    → IsSwitchMade source moved dropped store (with_switched source.file.0 source.target disk log (map_switched source.file (target_named source.target moved) moved dropped store.map) dues store) before after
    → (b : Bool) → (pins_in source.file.0 store.files.files == 0) ≡ b → IsBehindSwitch b later next
    → HasPurged next (with_switched source.file.0 source.target disk log (map_switched source.file (target_named source.target moved) moved dropped store.map) dues store) after
ready_behind {D = D} work later source spent left moved dropped disk log dues store before after next one left_are spent_is block text is order w made b free to = by_pins b free to
  where
    new : StoreValue D
    new = with_switched source.file.0 source.target disk log (map_switched source.file (target_named source.target moved) moved dropped store.map) dues store

    there : IsOtherThere source.file.0 source.target store.files.files
    there = other_there source.file.0 source.target store.files.files w

    whole : length later.block.items ≡ 65536
    whole = block ∙ one.block

    number : spent.file.0 ≡ source.file.0
    number = ap (λ (f : FileNo). f.0) spent_is.file

    each : (v : Work) → length v.text.items ≡ length work.text.items → All (IsToBegin v new) left
    each v same = all_begun work v source moved dropped disk log dues store same made.room (store_sound before store is) made.fits made.untargeted order w left (pairs_head (λ (a b : Source). a.file.0 < b.file.0) source left one.apart.files)
        (pairs_head (λ (a b : Source). IfSome a.target (λ t. IfSome b.target (λ u. t.0 < u.0))) source left one.apart.targets) one.each

    known : IsEmptiedFile source.file.0 store.files.files
    known = emptied_file source.file.0 store.files.files order.used one.ready.emptied

    elsewhere : AreElsewhere source.file.0 new.map.records
    elsewhere = subst (λ (rs : List MapRecord). AreElsewhere source.file.0 rs) (sym (rows_are source.file (target_named source.target moved) moved dropped store.map))
        (none_left source.file (target_named source.target moved) moved dropped store.map.records (moved_past source moved source.file.0 made.untargeted (not_target source.file.0 source.file.0 source.target store.files.files w refl)) made.fits.each)

    removing : pins_in source.file.0 store.files.files ≡ 0 → IsRemovingFirst (spent ∷ left) later new
    removing none = subst (λ (n : ℕ). (is_doomed_in n new.files.files ≡ true) × (pins_in n new.files.files ≡ 0) × AreElsewhere n new.map.records × All (IsToBegin later new) left) (sym number)
        (switched_doomed source.file.0 source.target store.files.files known.f there known.found, switched_pins source.file.0 source.file.0 source.target store.files.files there ∙ none, elsewhere, each later text)

    rest : sources_left (went_on later) ≡ left
    rest = left_on later spent left left_are

    by_left : (l : List Source) → l ≢ [] → All (IsToBegin (went_on later) new) l → IsBeginningFirst l (went_on later) new
    by_left [] some h = absurd (some refl)
    by_left (s ∷ l) some h = (refl, h)

    by_pins : (b : Bool) → (pins_in source.file.0 store.files.files == 0) ≡ b → IsBehindSwitch b later next → HasPurged next new after
    by_pins true free to = subst (λ (s : PurgeStage). HasPurged s new after) (sym to)
        (whole, subst AreSourcesApart (sym left_are) (spent_apart source spent left spent_is one.apart), subst (λ (l : List Source). IsRemovingFirst l later new) (sym left_are) (removing (eqb-true (pins_in source.file.0 store.files.files) 0 free)))
    by_pins false free (inl none) = subst (λ (s : PurgeStage). HasPurged s new after) (sym none.1) tt
    by_pins false free (inr some) = subst (λ (s : PurgeStage). HasPurged s new after) (sym some.1)
        (whole, subst AreSourcesApart (sym rest) (rest_apart source left one.apart), subst (λ (l : List Source). IsBeginningFirst l (went_on later) new) (sym rest) (by_left left (λ empty. some.0 (rest ∙ empty)) (each (went_on later) text)))

-- ---- claims

-- what the next stage claims
behind_claims : (later : Work) (source spent : Source) (left : List Source) (next : PurgeStage) (b : Bool) (thing : Thing) → sources_left later ≡ spent ∷ left → IsBehindSwitch b later next → purge_claims next thing ≡ claims_of_sources left thing + (if b then claims_of_switched (spent ∷ left) thing else 0)
behind_claims later source spent left next true thing is to = ap (λ (s : PurgeStage). purge_claims s thing) to ∙ ap (λ (l : List Source). claims_of_sources (drop 1 l) thing + claims_of_switched l thing) is
behind_claims later source spent left next false thing is to = let e = next_claims later spent left next thing is to in omega (arith, e)

removal_as : {D : Type 0} → (source spent : Source) (left : List Source) (store : StoreValue D) (b : Bool) (thing : Thing) → IsSpent source spent → (pins_in source.file.0 store.files.files == 0) ≡ b → (if b then claims_of_switched (spent ∷ left) thing else 0) ≡ removal_claims source.file.0 store thing
removal_as source spent left store true (Due uid) w free = refl
removal_as source spent left store true (Held id) w free = refl
removal_as source spent left store true (Made n) w free = refl
removal_as source spent left store true (Pinned n) w free = refl
removal_as source spent left store true (Taken n) w free = refl
removal_as source spent left store true (Emptied n) w free = refl
removal_as source spent left store true (PlacingPieces n) w free = refl
removal_as source spent left store true (Removing n) w free =
    ap (λ (f : FileNo). one_if (f.0 == n)) w.file ∙ (ap one_if (turned source.file.0 n ∙ sym (and_true (n == source.file.0))) ∙ ap (λ (c : Bool). one_if ((n == source.file.0) && c)) (sym free))
  where
    turned : (a b : ℕ) → (a == b) ≡ (b == a)
    turned a b = elim (cases_Bool (a == b)) [
      | inl same ↦ same ∙ sym (eq-eqb b a (sym (eqb-true a b same)))
      | inr apart ↦ apart ∙ sym (ne_eqb b a (λ e. let k : true ≡ false = sym (eq-eqb a b (sym e)) ∙ apart in cc k))
    ]
removal_as source spent left store false (Due uid) w free = refl
removal_as source spent left store false (Held id) w free = refl
removal_as source spent left store false (Made n) w free = refl
removal_as source spent left store false (Pinned n) w free = refl
removal_as source spent left store false (Taken n) w free = refl
removal_as source spent left store false (Emptied n) w free = refl
removal_as source spent left store false (PlacingPieces n) w free = refl
removal_as source spent left store false (Removing n) w free = sym (ap (λ (c : Bool). one_if ((n == source.file.0) && c)) free ∙ ap one_if (and_false (n == source.file.0)))

-- ---- which event is next

next_begun : {D : Type 0} → (run : Run) (place : ℕ) (said : List Reply) (t : PurgeValue) (source : Source) (left done : List Source) (old : StoreValue D) (before : Option History) (began : Faults) → source.target ≡ None → list_any (λ row. row.file == source.file.0) old.map.records ≡ true
    → HasComeTo run (seen_by_purge old before began) → IsPurging t done (source ∷ left) (GoesOnBehind run) old run place said → next_part (around_purging [] old) run request.Purge (own_events place run) ≡ Some Switches
next_begun run place said t source left done old before began none some come h =
    let taken : next_taken (own_events place run) ≡ Some (told_taken source) = next_is done source left (own_events place run) h.taken in
    let number : (told_taken source).target ≡ 0 = ap (λ (o : Option FileNo). option_map_or (λ t. t.0) o 0) none in
    next_goes_on (around_purging [] old) run place h.last
    ∙ (ap (λ (o : Option TakenFile). purge_goes_on (around_purging [] old) run o) taken
    ∙ (ap (λ (n : ℕ). if nat_lt 0 n then Some MakesTarget else (if list_any (λ row. row.file == source.file.0) (map_of run).records then Some Switches else Some RemovesFile)) number
    ∙ ap (λ (b : Bool). if b then Some Switches else Some RemovesFile) (ap (λ (m : MapMeaning). list_any (λ row. row.file == source.file.0) m.records) come.come.map_is ∙ some)))

filter_none : {X : Type 0} → (p : X → Bool) (xs : List X) → All (λ x. p x ≡ false) xs → filter p xs ≡ []
filter_none p [] h = refl
filter_none p (x ∷ xs) h = ap (λ (b : Bool). if b then x ∷ filter p xs else filter p xs) (All-head (λ y. p y ≡ false) x xs h) ∙ filter_none p xs (All-tail (λ y. p y ≡ false) x xs h)

nat_some : (n : ℕ) → nat_lt 0 n ≡ true → 1 ≤ n
nat_some n e = by_case n e
  where
    by_case : (n : ℕ) → nat_lt 0 n ≡ true → 1 ≤ n
    by_case n e = grind (arith, common_steps, e)

not_left : (source : Source) (own : List RunEvent) (row : MapRecord) → (row.file ≡ source.file.0 → list_any (λ e. is_one_of e.copied row.uid) own ≡ list_any (λ (p : MapPlace). p.uid.0 == row.uid) source.copied.items)
    → (row.file ≡ source.file.0 → 1 ≤ row.count → list_any (λ (p : MapPlace). p.uid.0 == row.uid) source.copied.items ≡ true) → (is_copied_from source.file.0 row && not (list_any (λ e. is_one_of e.copied row.uid) own)) ≡ false
not_left source own row told every = by_tests (row.file == source.file.0) (nat_lt 0 row.count) refl refl
  where
    by_tests : (a b : Bool) → (row.file == source.file.0) ≡ a → nat_lt 0 row.count ≡ b → (is_copied_from source.file.0 row && not (list_any (λ e. is_one_of e.copied row.uid) own)) ≡ false
    by_tests false b here some = ap (λ (c : Bool). (c && nat_lt 0 row.count) && not (list_any (λ e. is_one_of e.copied row.uid) own)) here
    by_tests true false here some = ap (λ (c : Bool). (c && nat_lt 0 row.count) && not (list_any (λ e. is_one_of e.copied row.uid) own)) here ∙ ap (λ (c : Bool). c && not (list_any (λ e. is_one_of e.copied row.uid) own)) some
    by_tests true true here some =
        let is : row.file ≡ source.file.0 = eqb-true row.file source.file.0 here in
        let copied : list_any (λ e. is_one_of e.copied row.uid) own ≡ true = told is ∙ every is (nat_some row.count some) in
        ap (λ (c : Bool). is_copied_from source.file.0 row && not c) copied ∙ and_false (is_copied_from source.file.0 row)

next_copied : {D : Type 0} → (run : Run) (place : ℕ) (said : List Reply) (t : PurgeValue) (work : Work) (source : Source) (left done : List Source) (old : StoreValue D) (before : Option History) (began : Faults) → old.stopped ≡ false → IsReadyToSwitch source work old before
    → HasComeTo run (seen_by_purge old before began) → IsPurging t done (source ∷ left) (λ doomed part. CopiesBehind part) old run place said → next_part (around_purging [] old) run request.Purge (own_events place run) ≡ Some Switches
next_copied run place said t work source left done old before began runs ready come h =
    next_copies (around_purging [] old) run place h.last ∙ ap (λ (rows : List MapRecord). if nat_lt 0 (length rows) then Some CopiesMessage else Some Switches) none
  where
    own : List RunEvent
    own = own_events place run

    taken : next_taken own ≡ Some (told_taken source)
    taken = next_is done source left own h.taken

    told : HaveCopied old.map own source
    told = All-head (HaveCopied old.map own) source left (h.copied runs)

    each : All (λ (row : MapRecord). (is_copied_from source.file.0 row && not (list_any (λ e. is_one_of e.copied row.uid) own)) ≡ false) old.map.records
    each = λ i d lt. not_left source own (get_or old.map.records i d) (told i d lt) (ready.every i d lt)

    none : copies_left own run (next_taken own) ≡ []
    none = ap (λ (o : Option TakenFile). copies_left own run o) taken
        ∙ (ap (λ (m : MapMeaning). filter (λ row. is_copied_from source.file.0 row && not (list_any (λ e. is_one_of e.copied row.uid) own)) m.records) come.come.map_is
        ∙ filter_none (λ (row : MapRecord). is_copied_from source.file.0 row && not (list_any (λ e. is_one_of e.copied row.uid) own)) old.map.records each)

-- ---- the call

says_of : {D : Type 0} → (t next : PurgeValue) (work later : Work) (source spent : Source) (left : List Source) (moved : List MapPlace) (dropped : List MapUid) (disk : D) (log : LogState) (dues : List ℕ) (old : StoreValue D) (before after : Option History) (began faults : Faults) (Before : Run → List ℕ → EventPart → Type 0)
    → ((run : Run) (place : ℕ) (said : List Reply) → IsAtPurge t old run place said → (done : List Source) × IsPurging t done (source ∷ left) (Before run) old run place said)
    → ((run : Run) (place : ℕ) (said : List Reply) (done : List Source) → HasComeTo run (seen_by_purge old before began) → IsPurging t done (source ∷ left) (Before run) old run place said → next_part (around_purging [] old) run request.Purge (own_events place run) ≡ Some Switches)
    → ((thing : Thing) → purge_claims t.stage thing ≡ claims_of_sources (source ∷ left) thing + claims_of_target (source ∷ left) thing) → IsSwitchedOne work source left old before → sources_left later ≡ spent ∷ left → IsSpent source spent → length later.block.items ≡ length work.block.items → length later.text.items ≡ length work.text.items
    → IsStore before old → AreFilesInOrder old.files → AreSwitchLists old.map source.file.0 source.copied.items moved dropped
    → IsSwitchMade source moved dropped old (with_switched source.file.0 source.target disk log (map_switched source.file (target_named source.target moved) moved dropped old.map) dues old) before after
    → IsBehindSwitch (pins_in source.file.0 old.files.files == 0) later next.stage → next.did ≡ did.Quiet → CountsSwitch t next dropped → old.stopped ≡ false → LeavesSettled old.map before after began faults → t.stage ≢ stage.First
    → IsPurgeStep t next progress.More old (with_switched source.file.0 source.target disk log (map_switched source.file (target_named source.target moved) moved dropped old.map) dues old) before after began faults
says_of {D = D} t next work later source spent left moved dropped disk log dues old before after began faults Before stands part claimed one left_are spent_is block text is order listed made to how counts runs leaves going = record {
  ready = λ more r. ready_behind work later source spent left moved dropped disk log dues old before after next.stage one left_are spent_is block text is order written made (pins_in source.file.0 old.files.files == 0) refl to;
  does = (
    [],
    λ around. switch_steps around t next later source spent left Before (target_named source.target moved) moved dropped disk log dues (record old.files { files = files_switched source.file.0 source.target old.files.files }) old before after began faults stands part left_are spent_is one.apart switched to how counts runs leaves,
  );
  first = λ begins. absurd (going begins);
  refused = λ why e read stop. absurd (let k : progress.More ≡ progress.Done (reply.Refused why) = e in cc k);
  stopped = record { 0 = λ e. absurd (let k : progress.More ≡ progress.Done (reply.Refused refusal.Stopped) = e in cc k); 1 = λ e. absurd (fall old.stopped e runs) };
  regions = λ r. regions_switched source moved dropped old before after is runs listed made.untargeted one.ready.target made.reads;
  claims = λ r. record {
    moves = λ thing.
        let a = switched_amount source left disk log (map_switched source.file (target_named source.target moved) moved dropped old.map) dues old known written made.due thing in
        let b = claimed thing in
        let c = behind_claims later source spent left next.stage (pins_in source.file.0 old.files.files == 0) thing left_are to in
        let d = removal_as source spent left old (pins_in source.file.0 old.files.files == 0) thing spent_is refl in
        omega (arith, a, b, c, d);
    leaves = switch_leaves (purge_claims t.stage) source left moved dropped disk log dues old before after claimed is known written made;
    ended = λ given e. absurd (let k : progress.More ≡ progress.Done given = e in cc k);
  };
  grows = leaves.grows;
  mail = leaves.mail;
  reads = let e = ap (λ (f : Faults). f.reads) leaves.quiet in omega (arith, e);
  changes = let e = ap (λ (f : Faults). f.changes) leaves.quiet in omega (arith, e);
  calm = λ told. ap (λ (f : Faults). f.reads) leaves.quiet;
  unfailed = λ r. ap (λ (f : Faults). f.changes) leaves.quiet;
  fell = λ was e. absurd (fall old.stopped e runs);
}
  where
    new : StoreValue D
    new = with_switched source.file.0 source.target disk log (map_switched source.file (target_named source.target moved) moved dropped old.map) dues old

    known : IsEmptiedFile source.file.0 old.files.files
    known = emptied_file source.file.0 old.files.files order.used one.ready.emptied

    written : IsOtherWritten source.file.0 source.target old.files.files
    written = other_written source.target source old before order one.ready.target

    there : IsOtherThere source.file.0 source.target old.files.files
    there = other_there source.file.0 source.target old.files.files written

    below : source.file.0 ≤ old.drawn.file
    below =
        let found = found_one (λ (g : MailFile). g.file.0 == source.file.0) old.files.files known.f known.found in
        let l = All-contains (λ (f : MailFile). f.file.0 ≤ old.files.highest) old.files.files known.f order.below found.0 in
        let e = eqb-true known.f.file.0 source.file.0 found.1 in
        let drawn = is.files.highest in
        omega (arith, l, e, drawn)

    unused : may_be_used old source.file.0 ≡ false
    unused = ap (λ (o : Option MailFile). below_too && option_map_or (λ f. f.doomed) o true) known.found ∙ (ap (λ (b : Bool). below_too && b) known.undoomed ∙ and_false below_too)
      where
        below_too : Bool
        below_too = nat_le source.file.0 old.drawn.file

    miss : (s : Source) → IsToBegin work old s → at_target source.target s.file.0 ≡ false
    miss s h = by_flag (at_target source.target s.file.0) refl
      where
        by_flag : (b : Bool) → at_target source.target s.file.0 ≡ b → b ≡ false
        by_flag false e = refl
        by_flag true e =
            let t = target_at source.file.0 s.file.0 source.target old.files.files written e in
            absurd (fall (is_emptied_in s.file.0 old.files.files) h.emptied (ap (λ (o : Option MailFile). option_map_or (λ f. f.emptied) o false) t.1.found ∙ written_unemptied s.file.0 old.files.files t.1))

    within_each : (l : List Source) → All (λ s. source.file.0 < s.file.0) l → All (IsToBegin work old) l → All (λ s. records_within s.file.0 new.map ≡ records_within s.file.0 old.map) l
    within_each [] past each = All-nil _
    within_each (s ∷ l) past each =
        let less = All-head (λ (x : Source). source.file.0 < x.file.0) s l past in
        All-cons (λ (x : Source). records_within x.file.0 new.map ≡ records_within x.file.0 old.map) s l
        (within_as s.file.0 old.map new.map (within_switched source.file (target_named source.target moved) moved dropped s.file.0 old.map (store_sound before old is) made.fits (λ e. omega (arith, e, less)) (moved_past source moved s.file.0 made.untargeted (miss s (All-head (IsToBegin work old) s l each)))))
        (within_each l (All-tail (λ (x : Source). source.file.0 < x.file.0) s l past) (All-tail (IsToBegin work old) s l each))

    switched : HasSwitched source (target_named source.target moved) moved dropped old new left
    switched = record {
      fits = made.fits;
      wanted = λ i d lt. (listed.moved_copied i d lt).1;
      target_is = told_target source.target moved;
      map_is = refl;
      due = made.due;
      boxes = made.boxes;
      doomed = doomed_of source.file.0 source.target old.files.files known.f there known.found;
      unused = unused;
      drawn = below;
      within = within_each left (pairs_head (λ (a b : Source). a.file.0 < b.file.0) source left one.apart.files) one.each;
    }

-- what the call says of the switch
pub made_switch : {D : Type 0} → (work : Work) (source : Source) (left : List Source) (switched : Switched) (old new : StoreValue D) (before after : Option History) → IsSwitchedOne work source left old before → (s : IsSwitched source switched old new)
    → ((uid : ℕ) → due_at uid new ≡ due_at uid old) → ((uid : ℕ) (row : MapRecord) → record_at old.map uid ≡ Some row → 1 ≤ row.count → IsSpared uid row new before after) → ReadsMail before after → KeepsButTarget source.target before after → KeepsFirm old new before after
    → old.map_log.room ≤ new.map_log.room → old.map_log.end < new.map_log.end → new.map.boxes ≡ old.map.boxes → IsSwitchMade source s.moved s.dropped old new before after
made_switch work source left switched old new before after one s due spared reads kept firm room further boxes = record {
  fits = s.fits;
  untargeted = none_written source.target source old.map old before s.moved s.dropped s.listed one.ready.target;
  copied = copies_as old old before before source.target source.file.0 source.copied.items s.dropped source s.moved s.moved refl (reads_begin before) s.listed refl one.ready.target;
  due = due;
  spared = spared;
  reads = reads;
  kept = kept;
  firm = firm;
  room = room;
  further = further;
  boxes = boxes;
}

-- it drops no more records than there are
pub few_dropped : {D : Type 0} → (work : Work) (source : Source) (left : List Source) (switched : Switched) (m : MapMeaning) (old new : StoreValue D) (before : Option History) → IsMapInOrder m → m ≡ old.map → IsStore before old → IsSwitchedOne work source left old before → IsSwitched source switched old new → switched.dropped ≤ 4294967295
few_dropped work source left switched m old new before kept same is one s =
    let most = no_more_than old.map source.file.0 source.copied.items s.moved s.dropped (store_sound before old is) s.listed one.ready.here in
    let all = count_by-le-length (λ (o : MapRecord). o.file == source.file.0) old.map.records in
    let few : length old.map.records ≤ 4294967295 = subst (λ (n : MapMeaning). length n.records ≤ 4294967295) same (let a = kept.records.few in let b = kept.fits in omega (arith, a, b)) in
    let counted = s.counted in
    omega (arith, most, all, few, counted)

-- a purge that is to switch a file has begun
pub to_switch_begun : (at : PurgeStage) (work : Work) (m : MapMeaning) → IsToSwitch at work m → at ≢ stage.First
to_switch_begun at work m to first = subst (λ (s : PurgeStage). IsToSwitch s work m) first to

-- it leaves fewer events
at_either : (at : PurgeStage) (work : Work) (m : MapMeaning) → IsToSwitch at work m → (at ≡ stage.Begin work) ⊎ (at ≡ stage.Copying work)
at_either (stage.Begin begun) work m to = inl (ap (λ (w : Work). stage.Begin w) to.0)
at_either (stage.Copying copied) work m to = inr (ap (λ (w : Work). stage.Copying w) to.0)
at_either stage.First work m to = absurd to
at_either (stage.Removing removed) work m to = absurd to
at_either stage.Instances work m to = absurd to

pub further_switch : (at : PurgeStage) (work later : Work) (m : MapMeaning) (source spent : Source) (left : List Source) (next : PurgeStage) (b : Bool) → IsToSwitch at work m → sources_left work ≡ source ∷ left → sources_left later ≡ spent ∷ left → IsBehindSwitch b later next → IsFurther 1 at next
further_switch at work later m source spent left next true to was is behind = subst (λ (s : PurgeStage). IsFurther 1 at s) (sym behind) (further_switch_removing at work later source spent left was is (at_either at work m to))
further_switch at work later m source spent left next false to was is behind = further_switch_on at work later source spent left next was is behind (at_either at work m to)

none_targeted : (source : Source) (left : List Source) (thing : Thing) → source.target ≡ None → claims_of_target (source ∷ left) thing ≡ 0
none_targeted source left (Due uid) is = refl
none_targeted source left (Held id) is = refl
none_targeted source left (Made n) is = refl
none_targeted source left (Pinned n) is = refl
none_targeted source left (Taken n) is = refl
none_targeted source left (Emptied n) is = refl
none_targeted source left (Removing n) is = refl
none_targeted source left (PlacingPieces n) is = ap (λ (o : Option FileNo). one_if (option_map_or (λ t. t.0 == n) o false)) is

-- What a call says that switched the present file, in whole.
pub record IsSwitchCalled {D : Type 0} (H : D → Option History) (F : D → Faults) (work later : Work) (source spent : Source) (left : List Source) (switched : Switched) (old new : StoreValue D) : Type 0 where
  pub runs : old.stopped ≡ false
  pub one : IsSwitchedOne work source left old (H old.disk)
  pub left_are : sources_left later ≡ spent ∷ left
  pub spent_is : IsSpent source spent
  pub block : length later.block.items ≡ length work.block.items
  pub text : length later.text.items ≡ length work.text.items
  pub is : IsStore (H old.disk) old
  pub order : AreFilesInOrder old.files
  pub switch : IsSwitched source switched old new
  pub made : IsSwitchMade source switch.moved switch.dropped old new (H old.disk) (H new.disk)
  pub leaves : LeavesSettled old.map (H old.disk) (H new.disk) (F old.disk) (F new.disk)

pub switch_says : {D : Type 0} → (H : D → Option History) (F : D → Faults) (t next : PurgeValue) (work later : Work) (source spent : Source) (left : List Source) (switched : Switched) (old new : StoreValue D) → IsSwitchCalled H F work later source spent left switched old new → HasPurged t.stage old (H old.disk) → IsToSwitch t.stage work old.map
    → IsBehindSwitch switched.is_unpinned later next.stage → next.did ≡ did.Quiet → next.dropped ≡ t.dropped + switched.dropped → next.files ≡ t.files + 1 → next.instances ≡ t.instances → IsPurgeStep t next progress.More old new (H old.disk) (H new.disk) (F old.disk) (F new.disk)
switch_says {D = D} H F t next work later source spent left switched old new c h to behind how dropped files instances = by_stage t.stage refl h to
  where
    moved : List MapPlace
    moved = c.switch.moved

    gone : List MapUid
    gone = c.switch.dropped

    left_behind : D → LogState → List ℕ → StoreValue D
    left_behind disk log dues = with_switched source.file.0 source.target disk log (map_switched source.file (target_named source.target moved) moved gone old.map) dues old

    same : new ≡ left_behind new.disk new.map_log new.dues
    same = c.switch.same ∙ ap (λ (m : MapMeaning). with_switched source.file.0 source.target new.disk new.map_log m new.dues old) c.switch.map_is

    made : IsSwitchMade source moved gone old (left_behind new.disk new.map_log new.dues) (H old.disk) (H new.disk)
    made = subst (λ (s : StoreValue D). IsSwitchMade source moved gone old s (H old.disk) (H new.disk)) same c.made

    counts : CountsSwitch t next gone
    counts = record { dropped_are = dropped ∙ ap (λ (n : ℕ). t.dropped + n) c.switch.counted; files = files; instances = instances }

    goes : IsBehindSwitch (pins_in source.file.0 old.files.files == 0) later next.stage
    goes = subst (λ (b : Bool). IsBehindSwitch b later next.stage) c.switch.unpinned behind

    says : (Before : Run → List ℕ → EventPart → Type 0) → ((run : Run) (place : ℕ) (said : List Reply) → IsAtPurge t old run place said → (done : List Source) × IsPurging t done (source ∷ left) (Before run) old run place said)
        → ((run : Run) (place : ℕ) (said : List Reply) (done : List Source) → HasComeTo run (seen_by_purge old (H old.disk) (F old.disk)) → IsPurging t done (source ∷ left) (Before run) old run place said → next_part (around_purging [] old) run request.Purge (own_events place run) ≡ Some Switches)
        → ((thing : Thing) → purge_claims t.stage thing ≡ claims_of_sources (source ∷ left) thing + claims_of_target (source ∷ left) thing) → IsPurgeStep t next progress.More old new (H old.disk) (H new.disk) (F old.disk) (F new.disk)
    says Before stands part claimed = subst (λ (s : StoreValue D). IsPurgeStep t next progress.More old s (H old.disk) (H new.disk) (F old.disk) (F new.disk)) (sym same)
        (says_of t next work later source spent left moved gone new.disk new.map_log new.dues old (H old.disk) (H new.disk) (F old.disk) (F new.disk) Before stands part claimed c.one c.left_are c.spent_is c.block c.text c.is c.order c.switch.listed made goes how counts c.runs c.leaves (to_switch_begun t.stage work old.map to))

    by_stage : (s : PurgeStage) → t.stage ≡ s → HasPurged s old (H old.disk) → IsToSwitch s work old.map → IsPurgeStep t next progress.More old new (H old.disk) (H new.disk) (F old.disk) (F new.disk)
    by_stage stage.First at h to = absurd to
    by_stage stage.Instances at h to = absurd to
    by_stage (stage.Removing removed) at h to = absurd to
    by_stage (stage.Begin begun) at h to =
        let here : t.stage ≡ stage.Begin work = at ∙ ap (λ (w : Work). stage.Begin w) to.0 in
        let first : IsUnwantedFirst (source ∷ left) old.map = subst (λ (l : List Source). IsUnwantedFirst l old.map) c.one.left_are to.1 in
        says GoesOnBehind
        (λ run place said stood. (let k = subst (λ (x : PurgeStage). IsAtPurgeStage x t old run place said) here stood in (k.0, subst (λ (l : List Source). IsPurging t k.0 l (GoesOnBehind run) old run place said) c.one.left_are k.1)))
        (λ run place said done come purging. next_begun run place said t source left done old (H old.disk) (F old.disk) first.0 first.1 come purging)
        (λ thing. (let a = ap (λ (x : PurgeStage). purge_claims x thing) here in let b = ap (λ (l : List Source). claims_of_sources l thing) c.one.left_are in let z = none_targeted source left thing first.0 in omega (arith, a, b, z)))
    by_stage (stage.Copying copied) at h to =
        let here : t.stage ≡ stage.Copying work = at ∙ ap (λ (w : Work). stage.Copying w) to.0 in
        says (λ run doomed part. CopiesBehind part)
        (λ run place said stood. (let k = subst (λ (x : PurgeStage). IsAtPurgeStage x t old run place said) here stood in (k.0, subst (λ (l : List Source). IsPurging t k.0 l (λ doomed part. CopiesBehind part) old run place said) c.one.left_are k.1)))
        (λ run place said done come purging. next_copied run place said t work source left done old (H old.disk) (F old.disk) c.runs c.one.ready come purging)
        (λ thing. (let a = ap (λ (x : PurgeStage). purge_claims x thing) here in let b = ap (λ (l : List Source). claims_of_sources l thing + claims_of_target l thing) c.one.left_are in omega (arith, a, b)))

-- ---- a change of the disk that failed

tells_synced : (target : Option FileNo) (files : List MailFile) → TellsNoLess files (target_synced target files)
tells_synced target files = record {
  pins = λ n. synced_or (λ f. f.pins) 0 target n files (λ f. refl);
  doomed = λ n. synced_or (λ f. f.doomed) false target n files (λ f. refl);
  used = λ n e. synced_or (λ f. f.doomed) true target n files (λ f. refl) ∙ e;
  barred = λ n e. synced_or (λ f. f.barred) true target n files (λ f. refl) ∙ e;
  gave = λ n offset e. synced_or (λ f. option_map_or (λ end. nat_lt offset end) f.end false) true target n files (λ f. refl) ∙ e;
  there = λ n. ap (λ (o : Option ℕ). is_some o) (synced_end target n files);
}

pub tells_either : (target : Option FileNo) (old new : FilesValue) → (new ≡ old) ⊎ (new ≡ record old { files = target_synced target old.files }) → TellsNoLess old.files new.files
tells_either target old new (inl same) = subst (λ (v : FilesValue). TellsNoLess old.files v.files) (sym same) (tells_same old.files)
tells_either target old new (inr synced) = subst (λ (v : FilesValue). TellsNoLess old.files v.files) (sym synced) (tells_synced target old.files)

pub switch_failed : {D : Type 0} → (H : D → Option History) (F : D → Faults) (t : PurgeValue) (old new : StoreValue D) → old.stopped ≡ false → ((lists : Lists) → IsSettledFor lists (H old.disk) → Leaves lists lists (H old.disk) (H new.disk)) → MailIsKept old.map (H old.disk) (H new.disk)
    → new ≡ record old { disk = new.disk; map_log = new.map_log; files = new.files; stopped = true } → TellsNoLess old.files.files new.files.files → Grows (H old.disk) (H new.disk) → (Failed : Type 0) → Failed → ChangeFaultCounted Failed (F old.disk) (F new.disk) → t.stage ≢ stage.First
    → IsPurgeStep t (record t { stage = stage.First; did = did.Failed }) (progress.Done (reply.Refused refusal.Stopped)) old new (H old.disk) (H new.disk) (F old.disk) (F new.disk)
switch_failed {D = D} H F t old new runs moments mail is tells grows Failed failed fault begun = record {
  ready = λ e. absurd (let k : progress.Done (reply.Refused refusal.Stopped) ≡ progress.More = e in cc k);
  does = (
    [],
    λ around. subst (λ (s : StoreValue D). PurgeSteps [] around t next old s (H old.disk) (H new.disk) (F old.disk) (F new.disk) (Some (reply.Refused refusal.Stopped))) (sym is)
        (fail_steps around t next new.disk new.files old (H old.disk) (H new.disk) (F old.disk) (F new.disk) refl runs tells (record { moments = moments; grows = grows; mail = mail; reads = let e = fault.reads in omega (arith, e); changes = fault.changes; rose = fault.rose failed })),
  );
  first = λ begins. absurd (begun begins);
  refused = λ why e read stop. absurd (stop (same_refusal refusal.Stopped why e));
  stopped = record { 0 = λ e. ap (λ (s : StoreValue D). s.stopped) is; 1 = λ e. refl };
  regions = λ r. absurd (fall new.stopped (ap (λ (s : StoreValue D). s.stopped) is) r);
  claims = λ r. absurd (fall new.stopped (ap (λ (s : StoreValue D). s.stopped) is) r);
  grows = grows;
  mail = mail;
  reads = let e = fault.reads in omega (arith, e);
  changes = fault.changes;
  calm = λ told. fault.reads;
  unfailed = λ r. absurd (fall new.stopped (ap (λ (s : StoreValue D). s.stopped) is) r);
  fell = λ was e. (fault.rose failed, fault.reads);
}
  where
    next : PurgeValue
    next = record t { stage = stage.First; did = did.Failed }
