-- The logs of a rebuilt store, written one after another, and what a crash leaves.
use Rattle.std.proofs.Common.{◌≡◌, ◌≢◌, ◌⊎◌, inl, inr, max, ℕ, ◌+◌, ◌≤◌, List, [], ◌∷◌, ◌++◌, length, map, All, Option, Some, None, refl, sym, ◌∙◌, ap, subst, append-nil, length-append, arith}
use Rattle.std.proofs.lemmas.Bool.{false≢true}
use Rattle.std.proofs.lemmas.List.Elements.{All-weaker}
use Rattle.disk_model.specs.Disk.{Files, FileState, DiskState, History, Between, EachImage, IfTold, MayLeave, no_file}
use Rattle.disk_model.specs.Name.{IsLogName}
use Rattle.disk_model.specs.declared.name.FileName.{FileName}
use Rattle.disk_model.specs.declared.name.FileName.TheVariants as file
use Rattle.disk_model.proofs.BetweenLemmas.{between-on}
use Rattle.disk_model.proofs.MomentLemmas.{each_image-map, if_told-both}
use Rattle.gate_log.specs.Log.{IsAtMostAsLong}
use Rattle.mdbox_base.specs.declared.entries.InstRow.{InstRow}
use Rattle.mdbox_base.specs.declared.entries.RootEntry.TheVariants as root
use Rattle.model_logs.specs.declared.log_head.LogHead.{LogHead}
use Rattle.model_logs.specs.declared.log_head.LogKind.TheVariants as kind
use Rattle.model_logs.specs.Entries.{map_text, root_text}
use Rattle.model_logs.specs.LogFile.{IsLogFile, head_octets}
use Rattle.model_logs.proofs.LogFileLemmas.{head_length}
use Rattle.model_rebuild.proofs.RebuiltSafeLemmas.{rebuilt_safe}
use Rattle.model_rebuild.specs.RebuildMoments.{IsLeftByRebuild, KeepRebuiltBoxes, KeepsLog, KeepsMessage, KeepsOld, KeepsRebuilt}
use Rattle.model_rebuild.specs.RebuildPlan.{RebuildPlan, IsPlanFor}
use Rattle.model_rebuild.specs.RebuiltLists.{lists_of}
use Rattle.model_rebuild.specs.RebuiltLogs.{HasRebuiltBoxes, HasSameMessage, rebuilt_map}
use Rattle.model_store.specs.Opening.{HasNoEntry}
use Rattle.model_store.specs.Safe.{Safe}
use Rattle.model_store.specs.Settled.{files_of}
use Rattle.model_store.specs.Stands.{HasLog, head_of}
use Rattle.model_taken.specs.Taken.{TakenMessage, mailboxes_met}
use Rattle.store_rebuild.specs.NewLogs.{box_logs_for}
use Rattle.store_rebuild.specs.Writing.{HasNewStore, IsLogBeingMade, IsReady, IsRootless, IsWithoutStore, KeepBoxLogs}
use Rattle.store_rebuild.proofs.BoxesLemmas.{KeepsMailFiles, kept_log, mail_named, still_logs_kept}
use Rattle.store_rebuild.proofs.FileLemmas.{NamedOthers}
use Rattle.store_rebuild.proofs.LogLemmas.{IsMaking}

-- ---- what is kept

mail_no_log : (number : ℕ) → IsLogName (file.Mail number) → ⊥
mail_no_log number e = false≢true e

inst_no_log : (hash id : List ℕ) → IsLogName (file.Inst hash id) → ⊥
inst_no_log hash id e = false≢true e

file_kept : (first a b : DiskState) (name : FileName) → (IsLogName name → ⊥) → KeepsMailFiles a b → KeepsOld first a name → KeepsOld first b name
file_kept first a b name mail r k = record { octets = k.octets; read = k.read; keeps = r.keeps name mail k.octets k.keeps }

message_kept : (first a b : DiskState) → KeepsMailFiles a b → (t : TakenMessage) → KeepsMessage first a t → KeepsMessage first b t
message_kept first a b r t k = record {
  storage = file_kept first a b (file.Mail t.file) (mail_no_log t.file) r k.storage;
  instances = All-weaker (λ (i : InstRow). KeepsOld first a (file.Inst i.hash.0 i.id.0)) (λ (i : InstRow). KeepsOld first b (file.Inst i.hash.0 i.id.0)) (λ i o. file_kept first a b (file.Inst i.hash.0 i.id.0) (inst_no_log i.hash.0 i.id.0) r o) t.instances k.instances;
}

messages_kept : (first a b : DiskState) (taken : List TakenMessage) → KeepsMailFiles a b → All (KeepsMessage first a) taken → All (KeepsMessage first b) taken
messages_kept first a b taken r k = All-weaker (KeepsMessage first a) (KeepsMessage first b) (message_kept first a b r) taken k

boxes_rebuilt : (disk : DiskState) (store : List ℕ) (number generation : ℕ) (names : List (List ℕ)) (taken : List TakenMessage) → KeepBoxLogs disk store number generation (box_logs_for names taken) → KeepRebuiltBoxes disk store number generation names taken
boxes_rebuilt disk store number generation [] taken k = tt
boxes_rebuilt disk store number generation (name ∷ names) taken k = (k.0, boxes_rebuilt disk store (number + 1) generation names taken k.1)

-- ---- step by step

-- the logs of the mailboxes are written
pub record HasBoxes (store : List ℕ) (plan : RebuildPlan) (first disk : DiskState) : Type 0 where
  pub ready : IsReady store plan first disk
  pub boxes : KeepBoxLogs disk store 1 plan.box_generation (box_logs_for (mailboxes_met plan.taken) plan.taken)

-- and the map log
pub record LacksRoot (store : List ℕ) (plan : RebuildPlan) (first disk : DiskState) : Type 0 where
  pub is_plan : IsPlanFor (files_of first) store plan
  pub rootless : IsRootless first disk
  pub rest : KeepsRebuilt first disk store plan

pub boxes_written : (store : List ℕ) (plan : RebuildPlan) (first : DiskState) (generation : ℕ) (logs : List (List (List ℕ))) (old new : Option History) → logs ≡ box_logs_for (mailboxes_met plan.taken) plan.taken → generation ≡ plan.box_generation
    → IfTold old (IsReady store plan first) → Between KeepsMailFiles old new → IfTold new (IsRootless first) → IfTold new (λ disk. KeepBoxLogs disk store 1 generation logs) → IfTold new (HasBoxes store plan first)
boxes_written store plan first generation logs old new is g ready others rootless made =
    if_told-both (λ disk. IsRootless first disk × KeepBoxLogs disk store 1 generation logs) (λ disk. IsPlanFor (files_of first) store plan × All (KeepsMessage first disk) plan.taken) (HasBoxes store plan first) new
    (λ disk a b. record {
      ready = record { is_plan = b.0; rootless = a.0; messages = b.1 };
      boxes = subst (λ (n : ℕ). KeepBoxLogs disk store 1 n (box_logs_for (mailboxes_met plan.taken) plan.taken)) g (subst (λ (ls : List (List (List ℕ))). KeepBoxLogs disk store 1 generation ls) is a.1);
    })
    (if_told-both (IsRootless first) (λ disk. KeepBoxLogs disk store 1 generation logs) (λ disk. IsRootless first disk × KeepBoxLogs disk store 1 generation logs) new (λ disk a b. (a, b)) rootless made)
    (between-on KeepsMailFiles (IsReady store plan first) (λ disk. IsPlanFor (files_of first) store plan × All (KeepsMessage first disk) plan.taken) old new (λ a b r k. (k.is_plan, messages_kept first a b plan.taken r k.messages)) others ready)

map_apart : (k generation other : ℕ) → file.Box k generation ≢ file.Map other
map_apart k generation other e = let h : file.Box k generation ≡ file.Map other = e in cc h

pub map_written : (store : List ℕ) (plan : RebuildPlan) (first : DiskState) (generation : ℕ) (head : LogHead) (entries : List (List ℕ)) (old new : Option History) → generation ≡ plan.map_generation → head ≡ head_of store kind.Map 0 generation
    → entries ≡ map map_text (rebuilt_map plan.highest plan.box_generation plan.taken plan.skipped) → IfTold old (HasBoxes store plan first) → Between (NamedOthers (file.Map generation)) old new → IfTold new (IsRootless first)
    → IfTold new (λ disk. KeepsLog disk (file.Map generation) head entries) → IfTold new (LacksRoot store plan first)
map_written store plan first generation head entries old new g h e has named rootless made =
    if_told-both (λ disk. IsRootless first disk × KeepsLog disk (file.Map generation) head entries) (λ disk. IsPlanFor (files_of first) store plan × All (KeepsMessage first disk) plan.taken × KeepBoxLogs disk store 1 plan.box_generation (box_logs_for (mailboxes_met plan.taken) plan.taken)) (LacksRoot store plan first) new
    (λ disk a b. record {
      is_plan = b.0;
      rootless = a.0;
      rest = record {
        map_log = map_log disk a.1;
        box_logs = boxes_rebuilt disk store 1 plan.box_generation (mailboxes_met plan.taken) plan.taken b.2;
        messages = b.1;
      };
    })
    (if_told-both (IsRootless first) (λ disk. KeepsLog disk (file.Map generation) head entries) (λ disk. IsRootless first disk × KeepsLog disk (file.Map generation) head entries) new (λ disk a b. (a, b)) rootless made)
    (between-on (NamedOthers (file.Map generation)) (HasBoxes store plan first) (λ disk. IsPlanFor (files_of first) store plan × All (KeepsMessage first disk) plan.taken × KeepBoxLogs disk store 1 plan.box_generation (box_logs_for (mailboxes_met plan.taken) plan.taken)) old new
    (λ a b n k. (
      k.ready.is_plan,
      messages_kept first a b plan.taken (mail_named (file.Map generation) refl a b n) k.ready.messages,
      still_logs_kept (file.Map generation) store plan.box_generation (box_logs_for (mailboxes_met plan.taken) plan.taken) a b (λ j. map_apart j plan.box_generation generation) n k.boxes,
    )) named has)
  where
    map_log : (disk : DiskState) → KeepsLog disk (file.Map generation) head entries → KeepsLog disk (file.Map plan.map_generation) (head_of store kind.Map 0 plan.map_generation) (map map_text (rebuilt_map plan.highest plan.box_generation plan.taken plan.skipped))
    map_log disk k =
        subst (λ (n : ℕ). KeepsLog disk (file.Map n) (head_of store kind.Map 0 n) (map map_text (rebuilt_map plan.highest plan.box_generation plan.taken plan.skipped))) g
        (subst (λ (es : List (List ℕ)). KeepsLog disk (file.Map generation) (head_of store kind.Map 0 generation) es) e (subst (λ (o : LogHead). KeepsLog disk (file.Map generation) o entries) h k))

pub root_written : (store : List ℕ) (plan : RebuildPlan) (first : DiskState) (head : LogHead) (entries : List (List ℕ)) (old new : Option History) → head ≡ head_of store kind.Root 0 0 → entries ≡ root_text (root.M plan.map_generation) ∷ []
    → IfTold old (LacksRoot store plan first) → Between (NamedOthers file.Root) old new → IfTold new (λ disk. KeepsLog disk file.Root head entries) → IfTold new (HasNewStore store plan first)
root_written store plan first head entries old new h e has named made =
    if_told-both (λ disk. KeepsLog disk file.Root head entries) (λ disk. KeepsRebuilt first disk store plan) (HasNewStore store plan first) new
    (λ disk k r. record {
      root_log = subst (λ (es : List (List ℕ)). KeepsLog disk file.Root (head_of store kind.Root 0 0) es) e (subst (λ (o : LogHead). KeepsLog disk file.Root o entries) h k);
      rest = r;
    }) made
    (between-on (NamedOthers file.Root) (LacksRoot store plan first) (λ disk. KeepsRebuilt first disk store plan) old new (λ a b n k. record {
      map_log = kept_log file.Root (file.Map plan.map_generation) (head_of store kind.Map 0 plan.map_generation) (map map_text (rebuilt_map plan.highest plan.box_generation plan.taken plan.skipped)) a b (λ e. let q : file.Map plan.map_generation ≡ file.Root = e in cc q) n k.rest.map_log;
      box_logs = boxes_kept a b 1 (mailboxes_met plan.taken) n k.rest.box_logs;
      messages = messages_kept first a b plan.taken (mail_named file.Root refl a b n) k.rest.messages;
    }) named has)
  where
    boxes_kept : (a b : DiskState) (number : ℕ) (names : List (List ℕ)) → NamedOthers file.Root a b → KeepRebuiltBoxes a store number plan.box_generation names plan.taken → KeepRebuiltBoxes b store number plan.box_generation names plan.taken
    boxes_kept a b number [] n k = tt
    boxes_kept a b number (name ∷ names) n k =
        (kept_log file.Root (file.Box number plan.box_generation) (head_of store kind.Box number plan.box_generation) _ a b (λ e. let q : file.Box number plan.box_generation ≡ file.Root = e in cc q) n k.0, boxes_kept a b (number + 1) names n k.1)

-- ---- what a crash leaves

pub left_without : (first : DiskState) (plan : RebuildPlan) (old new : Option History) → EachImage (λ _ image. IsWithoutStore first image) old new → EachImage (λ _ image. IsLeftByRebuild first (lists_of plan.taken) image) old new
left_without first plan old new each = each_image-map _ _ old new (λ m image w. record { mail = w.0; way = inr (inl w.1) }) each

short_none : (f : FileState) (left : Option (List ℕ)) → f ≡ no_file → IsAtMostAsLong 26 f left → HasNoEntry left
short_none f None gone short = tt
short_none f (Some octets) gone short =
    let g : f.greatest ≡ 0 = ap (λ (s : FileState). s.greatest) gone in
    let l : length octets ≤ max f.greatest 26 = short in
    inl (omega arith)

log_none : (head : LogHead) (left : Option (List ℕ)) → IsLogFile left head [] → HasNoEntry left
log_none head None l = absurd l
log_none head (Some octets) l =
    let e : octets ≡ head_octets head ++ l.gate ∷ l.behind = l.spelled ∙ ap (λ (t : List ℕ). t ++ l.gate ∷ l.behind) (append-nil (head_octets head)) in
    elim l.ends [
      | inl shut ↦ inr (record { head = head; fits = l.head_fits; gate = l.gate; behind = l.behind; spelled = e; closed = shut })
      | inr nothing ↦
          let n : length octets ≡ length (head_octets head) + length (l.gate ∷ l.behind) = ap length e ∙ length-append (head_octets head) (l.gate ∷ l.behind) in
          inl (omega (arith, n, head_length head l.head_fits, ap length nothing))
    ]

has_log : (image : Files) (name : FileName) (head : LogHead) (entries : List (List ℕ)) (left : Option (List ℕ)) → image name ≡ left → IsLogFile left head entries → HasLog image name head entries
has_log image name head entries None e l = absurd l
has_log image name head entries (Some octets) e l = record { octets = octets; there = e; whole = l }

-- an image of the other files
abbrev Stays : DiskState → Files → Type 0
Stays disk image = (other : FileName) → other ≢ file.Root → MayLeave (disk other) (image other)

image_log : (disk : DiskState) (image : Files) (name : FileName) (head : LogHead) (entries : List (List ℕ)) → name ≢ file.Root → Stays disk image → KeepsLog disk name head entries → HasLog image name head entries
image_log disk image name head entries apart stay k = record { octets = k.octets; there = (k.keeps.leaves (image name)).0 (stay name apart); whole = k.whole }

image_boxes : (disk : DiskState) (image : Files) (store : List ℕ) (number generation : ℕ) (names : List (List ℕ)) (taken : List TakenMessage) → Stays disk image → KeepRebuiltBoxes disk store number generation names taken → HasRebuiltBoxes image store number generation names taken
image_boxes disk image store number generation [] taken stay k = tt
image_boxes disk image store number generation (name ∷ names) taken stay k =
    (image_log disk image (file.Box number generation) (head_of store kind.Box number generation) _ (λ e. let q : file.Box number generation ≡ file.Root = e in cc q) stay k.0, image_boxes disk image store (number + 1) generation names taken stay k.1)

image_file : (first disk : DiskState) (image : Files) (name : FileName) → name ≢ file.Root → Stays disk image → KeepsOld first disk name → image name ≡ files_of first name
image_file first disk image name apart stay k = (k.keeps.leaves (image name)).0 (stay name apart) ∙ sym k.read

image_message : (first disk : DiskState) (image : Files) → Stays disk image → (t : TakenMessage) → KeepsMessage first disk t → HasSameMessage (files_of first) image t
image_message first disk image stay t k = record {
  storage = image_file first disk image (file.Mail t.file) (λ e. let q : file.Mail t.file ≡ file.Root = e in cc q) stay k.storage;
  instances = All-weaker (λ (i : InstRow). KeepsOld first disk (file.Inst i.hash.0 i.id.0)) (λ (i : InstRow). image (file.Inst i.hash.0 i.id.0) ≡ files_of first (file.Inst i.hash.0 i.id.0))
      (λ i o. image_file first disk image (file.Inst i.hash.0 i.id.0) (λ e. let q : file.Inst i.hash.0 i.id.0 ≡ file.Root = e in cc q) stay o) t.instances k.instances;
}

root_image : (store : List ℕ) (plan : RebuildPlan) (first disk : DiskState) (image : Files) → LacksRoot store plan first disk → IsLogBeingMade (head_of store kind.Root 0 0) (root_text (root.M plan.map_generation) ∷ []) (disk file.Root) (image file.Root) → Stays disk image
    → IsLeftByRebuild first (lists_of plan.taken) image
root_image store plan first disk image k making stay = record {
  mail = λ name mail. k.rootless.before.0 name mail (image name) (stay name (λ e. mail (subst IsLogName (sym e) refl)));
  way = inr (way making);
}
  where
    way : IsLogBeingMade (head_of store kind.Root 0 0) (root_text (root.M plan.map_generation) ∷ []) (disk file.Root) (image file.Root) → HasNoEntry (image file.Root) ⊎ Safe image (lists_of plan.taken)
    way (inl short) = inl (short_none (disk file.Root) (image file.Root) k.rootless.gone short)
    way (inr (inl empty)) = inl (log_none (head_of store kind.Root 0 0) (image file.Root) empty)
    way (inr (inr full)) = inr (rebuilt_safe (files_of first) image store plan k.is_plan (All-weaker (KeepsMessage first disk) (HasSameMessage (files_of first) image) (image_message first disk image stay) plan.taken k.rest.messages) (record {
      root_log = has_log image file.Root (head_of store kind.Root 0 0) (root_text (root.M plan.map_generation) ∷ []) (image file.Root) refl full;
      map_log = image_log disk image (file.Map plan.map_generation) (head_of store kind.Map 0 plan.map_generation) _ (λ e. let q : file.Map plan.map_generation ≡ file.Root = e in cc q) stay k.rest.map_log;
      box_logs = image_boxes disk image store 1 plan.box_generation (mailboxes_met plan.taken) plan.taken stay k.rest.box_logs;
    }))

-- while the root log is made, it has no entry, or the store is there
pub with_root : (store : List ℕ) (plan : RebuildPlan) (first : DiskState) (head : LogHead) (entries : List (List ℕ)) (old new : Option History) → head ≡ head_of store kind.Root 0 0 → entries ≡ root_text (root.M plan.map_generation) ∷ [] → IfTold old (LacksRoot store plan first)
    → EachImage (λ _ image. IsMaking file.Root head entries old image) old new → EachImage (λ _ image. IsLeftByRebuild first (lists_of plan.taken) image) old new
with_root store plan first head entries None new h e k each = each
with_root store plan first head entries (Some old) new h e k each =
    let F : LogHead → List (List ℕ) → Type 0 = λ o ts. EachImage (λ _ image. IsMaking file.Root o ts (Some old) image) (Some old) new in
    each_image-map _ _ (Some old) new (λ m image is. root_image store plan first old.now image k is.0 is.1)
    (subst (λ (ts : List (List ℕ)). F (head_of store kind.Root 0 0) ts) e (subst (λ (o : LogHead). F o entries) h each))
