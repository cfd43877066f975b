-- What a crash may leave at each call of a rebuild.
use Rattle.std.specs.Prelude.{◌≡◌, ◌≢◌, ◌+◌, ◌⊎◌, ℕ, List, [], ◌∷◌, Bool, false, true, ◌||◌, if◌then◌else◌, refl, All, Option, Some, None}
use Rattle.std.proofs.Common.{inl, inr, sym, ◌∙◌, ap, subst}
use Rattle.std.proofs.lemmas.List.Elements.{All-nil, All-cons, All-head, All-tail}
use Rattle.disk_model.specs.Disk.{Files, FileState, DiskState, IsImage, IsThere, MayLeave, change, change_all, named, reading, removed, synced}
use Rattle.disk_model.specs.Name.{IsLogName, same_name}
use Rattle.disk_model.specs.declared.name.FileName.{FileName}
use Rattle.disk_model.specs.declared.name.FileName.TheVariants as file
use Rattle.disk_model.proofs.AtRestLemmas.{still_leaves}
use Rattle.disk_model.proofs.NameLemmas.{same_name-true, same_name-apart}
use Rattle.disk_model.proofs.OneFileLemmas.{change-here, change-other, named-narrows}
use Rattle.mdbox_base.specs.declared.entries.InstRow.{InstRow}
use Rattle.mdbox_base.specs.declared.entries.RootEntry.TheVariants as root
use Rattle.model_lists.specs.Lists.{Lists}
use Rattle.model_logs.specs.declared.log_head.LogHead.{LogHead}
use Rattle.model_logs.specs.declared.log_head.LogKind.TheVariants as kind
use Rattle.model_logs.specs.Entries.{root_text}
use Rattle.model_store.specs.Opening.{HasNoEntry}
use Rattle.model_store.specs.Safe.{Safe}
use Rattle.model_store.specs.Settled.{files_of}
use Rattle.model_store.specs.Stands.{head_of, HasLog}
use Rattle.model_rebuild.proofs.RebuiltSafeLemmas.{rebuilt_safe}
use Rattle.model_rebuild.specs.RebuildMoments.{IsLeftByRebuild, IsBeforeLogs, IsBeforeRoot, KeepsLog, KeepRebuiltBoxes, KeepsOld, KeepsMessage, KeepsRebuilt}
use Rattle.model_rebuild.specs.RebuiltLists.{lists_of}
use Rattle.model_rebuild.specs.RebuiltLogs.{HasRebuiltBoxes, HasSameMessage}
use Rattle.model_rebuild.specs.RebuildPlan.{RebuildPlan, IsPlanFor}
use Rattle.model_taken.specs.Taken.{TakenMessage, mailboxes_met}

-- ---- calls before the logs are made

-- after its sync a file that is there is left as it reads, as it could be before
pub synced_narrows : (f : FileState) (left : Option (List ℕ)) → IsThere f → MayLeave f (reading f) → MayLeave (synced f) left → MayLeave f left
synced_narrows f None there reads h = h
synced_narrows f (Some octets) there reads h =
    let same = still_leaves f.octets (Some octets) (record { named = inl refl; least = h.least; greatest = h.greatest; same = λ i l e. h.same i l refl; are_octets = h.are_octets }) in
    subst (MayLeave f) (read_there f there ∙ sym same) reads
  where
    read_there : (g : FileState) → IsThere g → reading g ≡ Some g.octets
    read_there g e = ap (λ (b : Bool). if b then Some g.octets else None) e

removed_narrows : (f : FileState) (left : Option (List ℕ)) → MayLeave (removed f) left → MayLeave f left ⊎ (left ≡ None)
removed_narrows f None h = inr refl
removed_narrows f (Some octets) h = inl (record { named = by_name f.is_there f.is_name_loose h.named; least = h.least; greatest = h.greatest; same = h.same; are_octets = h.are_octets })
  where
    by_name : (there loose : Bool) → (false ≡ true) ⊎ ((loose || there) ≡ true) → (there ≡ true) ⊎ (loose ≡ true)
    by_name true loose e = inl refl
    by_name false true e = inr refl
    by_name false false (inl e) = absurd (let k : false ≡ true = e in cc k)
    by_name false false (inr e) = absurd (let k : false ≡ true = e in cc k)

name_cases : (a b : FileName) → (a ≡ b) ⊎ (a ≢ b)
name_cases a b = by_test (same_name a b) refl
  where
    by_test : (t : Bool) → same_name a b ≡ t → (a ≡ b) ⊎ (a ≢ b)
    by_test true e = inl (same_name-true a b e)
    by_test false e = inr (same_name-apart a b e)

-- of a file that is changed so, and of every other
by_change : (old now : DiskState) (name : FileName) (step : FileState → FileState) → IsBeforeLogs old now → ((left : Option (List ℕ)) → MayLeave (step (now name)) left → MayLeave (now name) left ⊎ ((name ≡ file.Root) × (left ≡ None))) → IsBeforeLogs old (change name step now)
by_change old now name step before narrows = (others, root_is)
  where
    here : (left : Option (List ℕ)) → MayLeave (change name step now name) left → MayLeave (now name) left ⊎ ((name ≡ file.Root) × (left ≡ None))
    here left h = narrows left (subst (λ (f : FileState). MayLeave f left) (change-here name step now) h)

    same : (other : FileName) (left : Option (List ℕ)) → other ≢ name → MayLeave (change name step now other) left → MayLeave (now other) left
    same other left apart h = subst (λ (f : FileState). MayLeave f left) (change-other name other step now apart) h

    others : (other : FileName) → other ≢ file.Root → (left : Option (List ℕ)) → MayLeave (change name step now other) left → MayLeave (old other) left
    others other unlike left h = by_name (name_cases other name)
      where
        by_name : (other ≡ name) ⊎ (other ≢ name) → MayLeave (old other) left
        by_name (inr apart) = before.0 other unlike left (same other left apart h)
        by_name (inl e) = by_way (here left (subst (λ (n : FileName). MayLeave (change name step now n) left) e h))
          where
            by_way : MayLeave (now name) left ⊎ ((name ≡ file.Root) × (left ≡ None)) → MayLeave (old other) left
            by_way (inl k) = before.0 other unlike left (subst (λ (n : FileName). MayLeave (now n) left) (sym e) k)
            by_way (inr k) = absurd (unlike (e ∙ k.0))

    root_is : (left : Option (List ℕ)) → MayLeave (change name step now file.Root) left → MayLeave (old file.Root) left ⊎ (left ≡ None)
    root_is left h = by_name (name_cases file.Root name)
      where
        by_name : (file.Root ≡ name) ⊎ (file.Root ≢ name) → MayLeave (old file.Root) left ⊎ (left ≡ None)
        by_name (inr apart) = before.1 left (same file.Root left apart h)
        by_name (inl e) = by_way (here left (subst (λ (n : FileName). MayLeave (change name step now n) left) e h))
          where
            by_way : MayLeave (now name) left ⊎ ((name ≡ file.Root) × (left ≡ None)) → MayLeave (old file.Root) left ⊎ (left ≡ None)
            by_way (inl k) = before.1 left (subst (λ (n : FileName). MayLeave (now n) left) (sym e) k)
            by_way (inr k) = inr k.1

pub synced_before : (old now : DiskState) (name : FileName) → IsBeforeLogs old now → IsImage now (files_of now) → IsThere (now name) → IsBeforeLogs old (change name synced now)
synced_before old now name before reads there = by_change old now name synced before (λ left h. inl (synced_narrows (now name) left there (reads name) h))

pub removed_before : (old now : DiskState) → IsBeforeLogs old now → IsBeforeLogs old (change file.Root removed now)
removed_before old now before = by_change old now file.Root removed before (λ left h. by_way left (removed_narrows (now file.Root) left h))
  where
    by_way : (left : Option (List ℕ)) → MayLeave (now file.Root) left ⊎ (left ≡ None) → MayLeave (now file.Root) left ⊎ ((file.Root ≡ file.Root) × (left ≡ None))
    by_way left (inl k) = inl k
    by_way left (inr k) = inr (refl, k)

pub named_before : (old now : DiskState) → IsBeforeLogs old now → IsBeforeLogs old (change_all named now)
named_before old now before = (λ name unlike left h. before.0 name unlike left (named-narrows (now name) left h), λ left h. before.1 left (named-narrows (now file.Root) left h))

-- ---- what a crash leaves

not_root : (name : FileName) → (IsLogName name → ⊥) → name ≢ file.Root
not_root name none e = none (subst IsLogName (sym e) refl)

pub left_before : (old now : DiskState) (lists : Lists) (image : Files) → IsBeforeLogs old now → IsImage now image → IsLeftByRebuild old lists image
left_before old now lists image before is = record {
  mail = λ name none. before.0 name (not_root name none) (image name) (is name);
  way = inl (λ name unlike. before.0 name unlike (image name) (is name), before.1 (image file.Root) (is file.Root));
}

-- the root log is gone with its name
pub gone_then : (old now : DiskState) → IsBeforeLogs old now → IsBeforeRoot old (change_all named (change file.Root removed now))
gone_then old now before =
    let later = named_before old (change file.Root removed now) (removed_before old now before) in
    (λ name none left h. later.0 name (not_root name none) left h, λ left h. no_entry left (subst (λ (f : FileState). MayLeave (named f) left) (change-here file.Root removed now) h))
  where
    no_entry : (left : Option (List ℕ)) → MayLeave (named (removed (now file.Root))) left → HasNoEntry left
    no_entry None h = tt
    no_entry (Some octets) h = absurd (by_name h.named)
      where
        by_name : (false ≡ true) ⊎ (false ≡ true) → ⊥
        by_name (inl e) = let k : false ≡ true = e in cc k
        by_name (inr e) = let k : false ≡ true = e in cc k

pub left_without_root : (old now : DiskState) (lists : Lists) (image : Files) → IsBeforeRoot old now → IsImage now image → IsLeftByRebuild old lists image
left_without_root old now lists image before is = record { mail = λ name none. before.0 name none (image name) (is name); way = inr (inl (before.1 (image file.Root) (is file.Root))) }

-- ---- when the root log has its entry

kept_log : (now : DiskState) (image : Files) (name : FileName) (head : LogHead) (entries : List (List ℕ)) → IsImage now image → KeepsLog now name head entries → HasLog image name head entries
kept_log now image name head entries is k = record { octets = k.octets; there = (k.keeps.leaves (image name)).0 (is name); whole = k.whole }

kept_boxes : (now : DiskState) (image : Files) (store : List ℕ) (number generation : ℕ) (names : List (List ℕ)) (taken : List TakenMessage) → IsImage now image → KeepRebuiltBoxes now store number generation names taken → HasRebuiltBoxes image store number generation names taken
kept_boxes now image store number generation [] taken is k = tt
kept_boxes now image store number generation (name ∷ names) taken is k =
    (kept_log now image (file.Box number generation) (head_of store kind.Box number generation) _ is k.0, kept_boxes now image store (number + 1) generation names taken is k.1)

kept_file : (old now : DiskState) (image : Files) (name : FileName) → IsImage now image → KeepsOld old now name → image name ≡ files_of old name
kept_file old now image name is k = (k.keeps.leaves (image name)).0 (is name) ∙ sym k.read

kept_instances : (old now : DiskState) (image : Files) (rows : List InstRow) → IsImage now image → All (λ i. KeepsOld old now (file.Inst i.hash.0 i.id.0)) rows → All (λ i. image (file.Inst i.hash.0 i.id.0) ≡ files_of old (file.Inst i.hash.0 i.id.0)) rows
kept_instances old now image [] is h = All-nil (λ (i : InstRow). image (file.Inst i.hash.0 i.id.0) ≡ files_of old (file.Inst i.hash.0 i.id.0))
kept_instances old now image (row ∷ rows) is h =
    All-cons (λ (i : InstRow). image (file.Inst i.hash.0 i.id.0) ≡ files_of old (file.Inst i.hash.0 i.id.0)) row rows
    (kept_file old now image (file.Inst row.hash.0 row.id.0) is (All-head (λ (i : InstRow). KeepsOld old now (file.Inst i.hash.0 i.id.0)) row rows h)) (kept_instances old now image rows is (All-tail (λ (i : InstRow). KeepsOld old now (file.Inst i.hash.0 i.id.0)) row rows h))

kept_messages : (old now : DiskState) (image : Files) (taken : List TakenMessage) → IsImage now image → All (KeepsMessage old now) taken → All (HasSameMessage (files_of old) image) taken
kept_messages old now image [] is h = All-nil (HasSameMessage (files_of old) image)
kept_messages old now image (t ∷ taken) is h =
    let k = All-head (KeepsMessage old now) t taken h in
    All-cons (HasSameMessage (files_of old) image) t taken (record { storage = kept_file old now image (file.Mail t.file) is k.storage; instances = kept_instances old now image t.instances is k.instances }) (kept_messages old now image taken is (All-tail (KeepsMessage old now) t taken h))

pub safe_then : (old now : DiskState) (store : List ℕ) (plan : RebuildPlan) (image : Files) → IsPlanFor (files_of old) store plan → KeepsRebuilt old now store plan → IsImage now image
    → HasLog image file.Root (head_of store kind.Root 0 0) (root_text (root.M plan.map_generation) ∷ []) → Safe image (lists_of plan.taken)
safe_then old now store plan image is kept image_is root_log =
    rebuilt_safe (files_of old) image store plan is (kept_messages old now image plan.taken image_is kept.messages)
    (record {
      root_log = root_log;
      map_log = kept_log now image (file.Map plan.map_generation) (head_of store kind.Map 0 plan.map_generation) _ image_is kept.map_log;
      box_logs = kept_boxes now image store 1 plan.box_generation (mailboxes_met plan.taken) plan.taken image_is kept.box_logs;
    })
