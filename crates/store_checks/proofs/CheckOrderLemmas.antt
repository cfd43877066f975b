-- The checks, one after another.
use Rattle.std.proofs.Common.{◌≡◌, ◌<◌, ◌≤◌, ◌+◌, ℕ, List, [], ◌∷◌, length, map, Option, All, inl, inr, refl, sym, ◌∙◌, ap, subst}
use Rattle.std.specs.Prelude.{sum_by}
use Rattle.std.specs.List.{AllByRecursion}
use Rattle.std.proofs.lemmas.List.Elements.{All-weaker}
use Rattle.std.proofs.lemmas.List.Sums.{sum_by-cons}
use Rattle.disk_model.specs.Disk.{DiskState, History, IfTold, reading, IsIdle}
use Rattle.disk_model.specs.declared.name.FileName.{FileName}
use Rattle.disk_model.specs.declared.name.FileName.TheVariants as file
use Rattle.disk_model.proofs.MomentLemmas.{if_told-map, if_told-both}
use Rattle.mdbox_base.specs.declared.entries.BoxEntry.{BoxEntry}
use Rattle.mdbox_base.specs.declared.entries.MapEntry.{MapEntry}
use Rattle.model_meaning.specs.BoxMeaning.{box_meaning, rows_after}
use Rattle.model_meaning.specs.MapMeaning.{MapMeaning, map_meaning, named_instances}
use Rattle.model_store.specs.GoodLogs.{AreGoodLogs}
use Rattle.model_store.specs.Settled.{files_of}
use Rattle.model_store.specs.Stands.{HasRoot, HasMap}
use Rattle.model_store.specs.Safe.{LiesInFile, IsThereWhole}
use Rattle.model_store.specs.Opening.{AreMapEntries, HasItsRecord, PassLogs, PassBoxes, listed_of, IsCounted, IsMiscounted, IsFirstCutOff, IsFirstMissing, Opens, IsBadMapLog, IsBadBox, IsDamaged}
use Rattle.gate_log.specs.State.{InspectedLog}
use Rattle.disk_model.proofs.IdleLemmas.{idle-back}
use Rattle.store_checks.specs.Boxes.{AreRead, IsBoxesCause}
use Rattle.store_checks.specs.Checked.{listed_by, listed_in, IsCountedIn, IsMiscountedIn}
use Rattle.store_checks.specs.Lengths.{IsRegionCause, IsInstanceCause}
use Rattle.store_checks.specs.Roots.{IsRootCause, IsMapRead, IsMapCause}
use Rattle.store_checks.specs.Store.{IsCheckCause}
use Rattle.store_checks.specs.declared.mailbox.CheckedBox.{CheckedBox}
use Rattle.store_checks.specs.declared.error.CheckError.{CheckError}
use Rattle.store_checks.specs.declared.error.CheckError.TheVariants as check

pub root_fails : (old : Option History) (error : CheckError) → IsRootCause old error → IsCheckCause old error
root_fails old (check.Damaged name place) (is, bad) = if_told-map _ _ old (λ disk b. inl (is, b)) bad
root_fails old check.NoStore c = c
root_fails old check.DiskFault c = c
root_fails old check.NoMemory c = c

pub map_fails : (store : List ℕ) (generation : ℕ) (old now : Option History) (error : CheckError) → IsIdle old now → IfTold old (λ disk. HasRoot (files_of disk) store generation) → IsMapCause store generation now error → IsCheckCause old error
map_fails store generation old now (check.Damaged name place) idle root (is, bad) =
    if_told-both _ _ _ old
    (λ disk r b. inr (inl (record { store = store; generation = generation; root = r; is_name = is; bad = subst (λ (k : FileName). IsBadMapLog store generation (files_of disk k) place) (sym is) b })))
    root (idle-back (λ (disk : DiskState). IsBadMapLog store generation (reading (disk (file.Map generation))) place) old now idle bad)
map_fails store generation old now check.NoStore idle root c = absurd c
map_fails store generation old now check.DiskFault idle root c = c
map_fails store generation old now check.NoMemory idle root c = c

-- the root log and the map log pass
pub has_map : (store : List ℕ) (generation : ℕ) (found : InspectedLog) (m : MapMeaning) (entries : List MapEntry) (old now new : Option History) → IsIdle old now → IfTold old (λ disk. HasRoot (files_of disk) store generation)
    → IsMapRead store generation found m entries now new → IfTold old (λ disk. (h : HasMap (files_of disk) store entries) × (h.generation ≡ generation))
has_map store generation found m entries old now new idle root r =
    if_told-both _ _ _ old (λ disk a b. (record { generation = generation; root = a; generation_number = r.number; log = b; in_range = r.good.0; fit = r.good.1 }, refl)) root (idle-back _ old now idle r.log)

pub boxes_fail : (store : List ℕ) (generation : ℕ) (entries : List MapEntry) (m : MapMeaning) (old now : Option History) (error : CheckError) → IsIdle old now → m ≡ map_meaning store entries
    → IfTold old (λ disk. (h : HasMap (files_of disk) store entries) × (h.generation ≡ generation)) → IsBoxesCause m now error → IsCheckCause old error
boxes_fail store generation entries m old now (check.Damaged name place) idle means has bad =
    if_told-both _ _ _ old (λ disk h b. inr (inr (inl (store, entries, h.0, subst (λ (k : MapMeaning). IsBadBox (files_of disk) k name place) means b))))
    has (idle-back (λ (disk : DiskState). IsBadBox (files_of disk) m name place) old now idle bad)
boxes_fail store generation entries m old now check.NoStore idle means has c = absurd c
boxes_fail store generation entries m old now check.DiskFault idle means has c = c
boxes_fail store generation entries m old now check.NoMemory idle means has c = c

-- all logs pass
abbrev pub LogsPass : List ℕ → ℕ → List MapEntry → List (List BoxEntry) → DiskState → Type 0
LogsPass store generation entries logs disk = (p : PassLogs (files_of disk) store entries logs) × (p.map_log.generation ≡ generation)

pub logs_pass : (store : List ℕ) (generation : ℕ) (entries : List MapEntry) (m : MapMeaning) (boxes : List CheckedBox) (logs : List (List BoxEntry)) (old now new : Option History) → IsIdle old now → m ≡ map_meaning store entries
    → IfTold old (λ disk. (h : HasMap (files_of disk) store entries) × (h.generation ≡ generation)) → AreRead store m m.boxes boxes logs now new → IfTold old (LogsPass store generation entries logs)
logs_pass store generation entries m boxes logs old now new idle means has r =
    if_told-both _ _ _ old
    (λ disk h p. (record { map_log = h.0; boxes = subst (λ (k : MapMeaning). PassBoxes (files_of disk) k k.boxes logs) means p }, h.1))
    has (idle-back (λ (disk : DiskState). PassBoxes (files_of disk) m m.boxes logs) old now idle r.pass)

-- ---- counts

listed_same : (uid : ℕ) (boxes : List CheckedBox) (logs : List (List BoxEntry)) → map (λ b. b.index.meaning) boxes ≡ map box_meaning logs → listed_in uid boxes ≡ listed_of logs uid
listed_same uid boxes logs e = sums boxes logs e
  where
    sum_cons : {X : Type 0} → (f : X → ℕ) (x : X) (xs : List X) → sum_by f (x ∷ xs) ≡ f x + sum_by f xs
    sum_cons f x xs = sum_by-cons f x xs

    sums : (bs : List CheckedBox) (ls : List (List BoxEntry)) → map (λ b. b.index.meaning) bs ≡ map box_meaning ls → listed_in uid bs ≡ listed_of ls uid
    sums [] [] e = refl
    sums [] (l ∷ ls) e = absurd (cc e)
    sums (b ∷ bs) [] e = absurd (cc e)
    sums (b ∷ bs) (l ∷ ls) e =
        let first : b.index.meaning ≡ box_meaning l = cc e in
        let rest : map (λ (c : CheckedBox). c.index.meaning) bs ≡ map box_meaning ls = cc e in
        sum_cons (λ (c : CheckedBox). listed_by uid c.index.meaning) b bs ∙ ap (λ (n : ℕ). n + listed_in uid bs) (ap (listed_by uid) first) ∙ ap (λ (n : ℕ). listed_by uid (box_meaning l) + n) (sums bs ls rest)
        ∙ sym (sum_cons (λ (es : List BoxEntry). listed_by uid (box_meaning es)) l ls)

pub counted : (m : MapMeaning) (boxes : List CheckedBox) (logs : List (List BoxEntry)) → map (λ b. b.index.meaning) boxes ≡ map box_meaning logs → All (IsCountedIn boxes) m.records → All (IsCounted logs) m.records
counted m boxes logs e all = All-weaker (IsCountedIn boxes) (IsCounted logs) (λ row h. let s = listed_same row.uid boxes logs e in subst (λ (n : ℕ). n ≤ row.count) s h) m.records all

pub counts_fail : (store : List ℕ) (generation : ℕ) (entries : List MapEntry) (m : MapMeaning) (boxes : List CheckedBox) (logs : List (List BoxEntry)) (old : Option History) → m ≡ map_meaning store entries
    → map (λ b. b.index.meaning) boxes ≡ map box_meaning logs → IfTold old (LogsPass store generation entries logs) → IsMiscountedIn m boxes → IfTold old (λ disk. IsDamaged (files_of disk) (file.Map generation) 0)
counts_fail store generation entries m boxes logs old means e passed (row, held, less) =
    let s = listed_same row.uid boxes logs e in
    let bad : IsMiscounted (map_meaning store entries) logs = subst (λ (k : MapMeaning). IsMiscounted k logs) means (row, held, subst (λ (n : ℕ). row.count < n) s less) in
    if_told-map _ _ old
    (λ disk p. inr (inr (inr (record { store = store; entries = entries; logs = logs; passed = p.0; bad = inl (ap file.Map (sym p.1), refl, bad) })))) passed

-- ---- regions and instances

pub regions_fail : (store : List ℕ) (generation : ℕ) (entries : List MapEntry) (m : MapMeaning) (logs : List (List BoxEntry)) (old now : Option History) (error : CheckError) → IsIdle old now → m ≡ map_meaning store entries
    → IfTold old (LogsPass store generation entries logs) → All (IsCounted logs) m.records → IsRegionCause m now error → IsCheckCause old error
regions_fail store generation entries m logs old now (check.Damaged name place) idle means passed counts bad =
    if_told-both _ _ _ old
    (λ disk p b. inr (inr (inr (record {
      store = store;
      entries = entries;
      logs = logs;
      passed = p.0;
      bad = inr (subst (λ (k : MapMeaning). All (IsCounted logs) k.records) means counts, inl (subst (λ (k : MapMeaning). IsFirstCutOff (files_of disk) k name place) means b));
    }))))
    passed (idle-back (λ (disk : DiskState). IsFirstCutOff (files_of disk) m name place) old now idle bad)
regions_fail store generation entries m logs old now check.NoStore idle means passed counts c = absurd c
regions_fail store generation entries m logs old now check.DiskFault idle means passed counts c = c
regions_fail store generation entries m logs old now check.NoMemory idle means passed counts c = c

pub instances_fail : (store : List ℕ) (generation : ℕ) (entries : List MapEntry) (m : MapMeaning) (logs : List (List BoxEntry)) (old mid now : Option History) (error : CheckError) → IsIdle old mid → IsIdle old now → m ≡ map_meaning store entries
    → IfTold old (LogsPass store generation entries logs) → All (IsCounted logs) m.records → IfTold mid (λ disk. All (LiesInFile (files_of disk)) m.records) → IsInstanceCause m now error → IsCheckCause old error
instances_fail store generation entries m logs old mid now (check.Damaged name place) before idle means passed counts regions (is, bad) =
    if_told-both _ _ _ old
    (λ disk p b. b p)
    passed
    (if_told-both (λ (disk : DiskState). All (LiesInFile (files_of disk)) m.records) (λ (disk : DiskState). IsFirstMissing (files_of disk) m name) (λ (disk : DiskState). LogsPass store generation entries logs disk → IsDamaged (files_of disk) name place) old
    (λ disk r b p. inr (inr (inr (record {
      store = store;
      entries = entries;
      logs = logs;
      passed = p.0;
      bad = inr (
        subst (λ (k : MapMeaning). All (IsCounted logs) k.records) means counts,
        inr (subst (λ (k : MapMeaning). All (LiesInFile (files_of disk)) k.records) means r, subst (λ (k : MapMeaning). IsFirstMissing (files_of disk) k name) means b, is),
      );
    }))))
    (idle-back (λ (disk : DiskState). All (LiesInFile (files_of disk)) m.records) old mid before regions) (idle-back (λ (disk : DiskState). IsFirstMissing (files_of disk) m name) old now idle bad))
instances_fail store generation entries m logs old mid now check.NoStore before idle means passed counts regions c = absurd c
instances_fail store generation entries m logs old mid now check.DiskFault before idle means passed counts regions c = c
instances_fail store generation entries m logs old mid now check.NoMemory before idle means passed counts regions c = c

-- all checks pass
pub opens : (store : List ℕ) (generation : ℕ) (entries : List MapEntry) (m : MapMeaning) (logs : List (List BoxEntry)) (old mid now : Option History) → IsIdle old mid → IsIdle old now → m ≡ map_meaning store entries
    → IfTold old (LogsPass store generation entries logs) → All (IsCounted logs) m.records → IfTold mid (λ disk. All (LiesInFile (files_of disk)) m.records) → IfTold now (λ disk. All (IsThereWhole (files_of disk)) (named_instances m))
    → IfTold old (λ disk. Opens (files_of disk) store entries logs)
opens store generation entries m logs old mid now before idle means passed counts regions instances =
    if_told-both _ _ _ old
    (λ disk p b. b p)
    passed
    (if_told-both (λ (disk : DiskState). All (LiesInFile (files_of disk)) m.records) (λ (disk : DiskState). All (IsThereWhole (files_of disk)) (named_instances m)) (λ (disk : DiskState). LogsPass store generation entries logs disk → Opens (files_of disk) store entries logs) old
    (λ disk r i p. record {
      passed = p.0;
      counts = subst (λ (k : MapMeaning). All (IsCounted logs) k.records) means counts;
      regions = subst (λ (k : MapMeaning). All (LiesInFile (files_of disk)) k.records) means r;
      instances = subst (λ (k : MapMeaning). All (IsThereWhole (files_of disk)) (named_instances k)) means i;
    })
    (idle-back (λ (disk : DiskState). All (LiesInFile (files_of disk)) m.records) old mid before regions) (idle-back (λ (disk : DiskState). All (IsThereWhole (files_of disk)) (named_instances m)) old now idle instances))

-- the logs are good, whatever is told of the disk
pub good_logs : (store : List ℕ) (entries : List MapEntry) (m : MapMeaning) (boxes : List CheckedBox) (logs : List (List BoxEntry)) (old new : Option History) → m ≡ map_meaning store entries → AreMapEntries store entries
    → AreRead store m m.boxes boxes logs old new → All (IsCounted logs) m.records → AreGoodLogs store entries logs
good_logs store entries m boxes logs old new means good r counts = record {
  map_entries = good;
  box_entries = r.box_entries;
  one_each = r.one_each ∙ ap (λ (k : MapMeaning). length k.boxes) means;
  records = subst (λ (k : MapMeaning). AllByRecursion (λ (log : List BoxEntry). All (HasItsRecord k) (rows_after log)) logs) means r.records;
  counts = subst (λ (k : MapMeaning). All (IsCounted logs) k.records) means counts;
}
