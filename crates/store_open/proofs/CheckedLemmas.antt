-- A store that passed the checks, as a sweep takes it.
use Rattle.std.proofs.Common.{◌≡◌, ◌<◌, ◌^◌, ℕ, List, [], ◌∷◌, ◌++◌, length, map, All, Option, Some, refl, sym, ◌∙◌, ap, subst, arith}
use Rattle.std.proofs.lemmas.List.{map-append, same_from_push}
use Rattle.std.proofs.lemmas.List.Elements.{All-nil, All-cons}
use Rattle.disk_model.specs.Disk.{DiskState, History, IfTold, reading, IsIdle}
use Rattle.disk_model.specs.declared.name.FileName.{FileName}
use Rattle.disk_model.specs.declared.name.FileName.TheVariants as file
use Rattle.disk_model.proofs.MomentLemmas.{if_told-all, if_told-map, if_told-both}
use Rattle.model_logs.specs.declared.log_head.LogHead.{LogHead}
use Rattle.mdbox_base.specs.declared.entries.BoxEntry.{BoxEntry}
use Rattle.mdbox_base.specs.declared.entries.MapEntry.{MapEntry}
use Rattle.mdbox_base.specs.declared.entries.RootEntry.{RootEntry}
use Rattle.mdbox_base.specs.declared.entries.RootEntry.TheVariants as root
use Rattle.model_logs.specs.Entries.{root_text, map_text}
use Rattle.model_logs.proofs.EntryLemmas.{root_one}
use Rattle.model_logs.specs.LogFile.{HeadFits, log_front, IsLog}
use Rattle.model_logs.proofs.LogFileLemmas.{one_log}
use Rattle.model_meaning.specs.MapMeaning.{MapBox, MapMeaning, map_meaning}
use Rattle.model_store.specs.Settled.{files_of}
use Rattle.model_store.specs.Stands.{HasMap}
use Rattle.model_store.specs.Opening.{Opens}
use Rattle.gate_log.specs.State.{InspectedLog}
use Rattle.gate_log.specs.Log.{IsFound}
use Rattle.disk_model.proofs.IdleLemmas.{idle-on}
use Rattle.store_checks.specs.Boxes.{IsFoundAs, AreFound}
use Rattle.store_checks.specs.Roots.{root_log_head, root_texts, map_log_head}
use Rattle.store_checks.specs.Store.{IsChecked}
use Rattle.store_checks.specs.declared.check.Checked.{Checked}
use Rattle.store_checks.specs.declared.mailbox.CheckedBox.{CheckedBox}
use Rattle.store_sweep.specs.Repaired.{StandsFound, box_name}
use Rattle.store_sweep.specs.Swept.{OpensWith}

-- ---- the logs

pub stands_found : (found : InspectedLog) (name : FileName) (head : LogHead) (entries : List (List ℕ)) (now : Option History) → IsFoundAs found name head entries now → IfTold now (λ disk. StandsFound disk found)
stands_found found name head entries now f = if_told-map _ _ now (λ disk h. record { entries = entries; is = h }) f.stands

-- one for each mailbox
pub one_each : (store : List ℕ) (mailboxes : List MapBox) (boxes : List CheckedBox) (logs : List (List BoxEntry)) (now : Option History) → AreFound store mailboxes boxes logs now → length boxes ≡ length mailboxes
one_each store [] [] [] now f = refl
one_each store (x ∷ xs) (b ∷ bs) (l ∷ ls) now f = let e = one_each store xs bs ls now f.1 in omega (arith, e)
one_each store [] [] (l ∷ ls) now f = absurd f
one_each store [] (b ∷ bs) ls now f = absurd f
one_each store (x ∷ xs) [] ls now f = absurd f
one_each store (x ∷ xs) (b ∷ bs) [] now f = absurd f

-- under its name
pub names_are : (store : List ℕ) (mailboxes : List MapBox) (boxes : List CheckedBox) (logs : List (List BoxEntry)) (now : Option History) → AreFound store mailboxes boxes logs now → map (λ l. l.name) (map (λ b. b.log) boxes) ≡ map box_name mailboxes
names_are store [] [] [] now f = refl
names_are store (x ∷ xs) (b ∷ bs) (l ∷ ls) now f =
    let e = names_are store xs bs ls now f.1 in
    let n : b.log.name ≡ box_name x = f.0.name_is in
    cc (n, e)
names_are store [] [] (l ∷ ls) now f = absurd f
names_are store [] (b ∷ bs) ls now f = absurd f
names_are store (x ∷ xs) [] ls now f = absurd f
names_are store (x ∷ xs) (b ∷ bs) [] now f = absurd f

pub all_stand : (store : List ℕ) (mailboxes : List MapBox) (boxes : List CheckedBox) (logs : List (List BoxEntry)) (now : Option History) → AreFound store mailboxes boxes logs now → IfTold now (λ disk. All (StandsFound disk) (map (λ b. b.log) boxes))
all_stand store [] [] [] now f = if_told-all _ now (λ disk. All-nil (StandsFound disk))
all_stand store (x ∷ xs) (b ∷ bs) (l ∷ ls) now f =
    if_told-both _ _ _ now (λ disk h t. All-cons (StandsFound disk) b.log (map (λ (c : CheckedBox). c.log) bs) h t) (stands_found b.log _ _ _ now f.0) (all_stand store xs bs ls now f.1)
all_stand store [] [] (l ∷ ls) now f = absurd f
all_stand store [] (b ∷ bs) ls now f = absurd f
all_stand store (x ∷ xs) [] ls now f = absurd f
all_stand store (x ∷ xs) (b ∷ bs) [] now f = absurd f

-- ---- the generation of the map log

generation_same : (g h : ℕ) → root.M g ≡ root.M h → g ≡ h
generation_same g h e = cc

same_file : (x y : List ℕ) → Some x ≡ Some y → x ≡ y
same_file x y e = cc

-- the last entry of a root log that was found is that by which the files open
last_is : (store : List ℕ) (entries : List MapEntry) (generation : ℕ) (found : InspectedLog) (before : List RootEntry) (disk : DiskState) → generation < 2 ^ 32 → found.name ≡ file.Root → (h : HasMap (files_of disk) store entries) → IsFound found (root_texts before generation) disk
    → h.generation ≡ generation
last_is store entries generation found before disk short name h f =
    let log = h.root.log in
    let text = log_front found.head (root_texts before generation) ++ found.gate ∷ f.rest in
    let reads : reading (disk file.Root) ≡ Some text = ap (λ (n : FileName). reading (disk n)) (sym name) ∙ f.stands.reads in
    let same : log.octets ≡ text = same_file log.octets text (sym log.there ∙ reads) in
    let other : IsLog text found.head (root_texts before generation) = record { head_fits = f.stands.head_fits; entries_fit = f.stands.entries_fit; gate = found.gate; behind = f.rest; spelled = refl; ends = f.stands.ends } in
    let one = one_log text _ _ _ _ (subst (λ (o : List ℕ). IsLog o (root_log_head store) (root_texts h.root.before h.generation)) same log.whole) other in
    let last : root_text (root.M h.generation) ≡ root_text (root.M generation) =
    (same_from_push (map root_text h.root.before) (map root_text before) _ _ (sym (map-append root_text h.root.before (root.M h.generation ∷ [])) ∙ one.1 ∙ map-append root_text before (root.M generation ∷ []))).1 in
    let number = h.generation_number in
    generation_same h.generation generation (root_one (root.M h.generation) (root.M generation) (omega (arith, number)) short last)

-- The files open, and the map log in force has this generation.
abbrev pub OpensAt : List ℕ → ℕ → List MapEntry → List (List BoxEntry) → DiskState → Type 0
OpensAt store generation entries logs disk = (o : Opens (files_of disk) store entries logs) × (o.passed.map_log.generation ≡ generation)

-- a log that was found has its head's generation in range
short : (found : InspectedLog) (store : List ℕ) (generation : ℕ) (entries : List (List ℕ)) (disk : DiskState) → found.head ≡ map_log_head store generation → IsFound found entries disk → generation < 2 ^ 32
short found store generation entries disk e f = let h : HeadFits (map_log_head store generation) = subst HeadFits e f.stands.head_fits in h.generation

pub opens_at : (c : Checked) (before : List RootEntry) (entries : List MapEntry) (logs : List (List BoxEntry)) (old now : Option History) → IsIdle old now → IsChecked c before entries logs old now → IfTold now (OpensAt c.id.0 c.generation entries logs)
opens_at c before entries logs old now idle k =
    if_told-both _ _ _ now (λ disk o f. o f) (if_told-both _ _ _ now
    (λ disk o s. give disk o s)
    (idle-on (λ (disk : DiskState). Opens (files_of disk) c.id.0 entries logs) old now idle k.opens) k.root_log.stands) k.map_log.stands
  where
    give : (disk : DiskState) → Opens (files_of disk) c.id.0 entries logs → IsFound c.root_log (root_texts before c.generation) disk → IsFound c.map_log (map map_text entries) disk → OpensAt c.id.0 c.generation entries logs disk
    give disk o s f = (o, last_is c.id.0 entries c.generation c.root_log before disk (short c.map_log c.id.0 c.generation (map map_text entries) disk k.map_log.head_is f) k.root_log.name_is o.passed.map_log s)

pub opens_with : (store : List ℕ) (generation : ℕ) (entries : List MapEntry) (logs : List (List BoxEntry)) (m : MapMeaning) (now : Option History) → m ≡ map_meaning store entries → IfTold now (OpensAt store generation entries logs) → IfTold now (OpensWith generation m)
opens_with store generation entries logs m now is opens =
    if_told-map _ _ now (λ disk o. record { store = store; entries = entries; logs = logs; opens = o.0; generation_is = o.1; map_is = is }) opens

-- ---- after calls that change nothing

found_since : (found : InspectedLog) (name : FileName) (head : LogHead) (entries : List (List ℕ)) (now new : Option History) → IsIdle now new → IsFoundAs found name head entries now → IsFoundAs found name head entries new
found_since found name head entries now new idle f = record { name_is = f.name_is; head_is = f.head_is; stands = idle-on (IsFound found entries) now new idle f.stands }

boxes_since : (store : List ℕ) (mailboxes : List MapBox) (boxes : List CheckedBox) (logs : List (List BoxEntry)) (now new : Option History) → IsIdle now new → AreFound store mailboxes boxes logs now → AreFound store mailboxes boxes logs new
boxes_since store [] [] [] now new idle f = tt
boxes_since store (x ∷ xs) (b ∷ bs) (l ∷ ls) now new idle f = (found_since b.log _ _ _ now new idle f.0, boxes_since store xs bs ls now new idle f.1)
boxes_since store [] [] (l ∷ ls) now new idle f = absurd f
boxes_since store [] (b ∷ bs) ls now new idle f = absurd f
boxes_since store (x ∷ xs) [] ls now new idle f = absurd f
boxes_since store (x ∷ xs) (b ∷ bs) [] now new idle f = absurd f

pub checked_since : (c : Checked) (before : List RootEntry) (entries : List MapEntry) (logs : List (List BoxEntry)) (old now new : Option History) → IsIdle now new → IsChecked c before entries logs old now → IsChecked c before entries logs old new
checked_since c before entries logs old now new idle k = record {
  opens = k.opens;
  good = k.good;
  map_is = k.map_is;
  boxes_are = k.boxes_are;
  root_log = found_since c.root_log _ _ _ now new idle k.root_log;
  map_log = found_since c.map_log _ _ _ now new idle k.map_log;
  box_logs = boxes_since c.id.0 c.map.meaning.boxes c.boxes logs now new idle k.box_logs;
}
