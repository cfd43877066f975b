-- The logs in force, repaired in order: the root log, the map log, and those of the mailboxes.
use Rattle.std.proofs.Common.{◌≡◌, ◌≢◌, ℕ, ◌==◌, ◌&&◌, ◌∷◌, [], suc, true, false, not, Bool, List, map, Option, Some, None, All, refl, sym, ◌∙◌, ap, subst, arith}
use Rattle.std.specs.Prelude.{Contains}
use Rattle.std.specs.List.{list_any, AllZip}
use Rattle.std.proofs.lemmas.List.Elements.{All-nil, All-cons, All-head, All-tail, All-weaker}
use Rattle.std.proofs.lemmas.List.Folds.{list_any-from_Any}
use Rattle.std.proofs.lemmas.Bool.{or_parts, or_from, true≢false, not_from_false, eq-eqb, and_from, not-true}
use Rattle.disk_model.specs.Disk.{DiskState, History, IfTold, EachImage, OthersStay, SameButFor}
use Rattle.disk_model.specs.Name.{same_name, is_log}
use Rattle.disk_model.specs.declared.name.FileName.{FileName}
use Rattle.disk_model.specs.declared.name.FileName.TheVariants as file
use Rattle.disk_model.proofs.NameLemmas.{same_name-eq, same_name-false}
use Rattle.model_logs.specs.LogFile.{IsLogFile}
use Rattle.model_meaning.specs.MapMeaning.{MapBox, MapMeaning}
use Rattle.gate_log.specs.State.{LogState, InspectedLog}
use Rattle.gate_log.specs.Log.{IsFound, IsFoundKept}
use Rattle.store_sweep.specs.Wanted.{is_wanted}
use Rattle.store_sweep.specs.Moments.{ImagesCarry, KeepsStore, SameWhere}
use Rattle.store_sweep.specs.Repaired.{StandsFound, IsRepaired, box_name, AreLogsOfBoxes, is_outside, is_no_box}
use Rattle.store_sweep.proofs.RepairLemmas.{IsLogAt, root_log, map_log, box_log, repair_images, repair_keeps, repaired_stays, stays_where, stays_but_for}
use Rattle.store_sweep.proofs.BoxLogLemmas.{still_found, still_kept, others_stay}

-- ---- one log

pub found_of : (log : InspectedLog) (old : Option History) → IfTold old (λ disk. StandsFound disk log) → (entries : List (List ℕ)) × IfTold old (IsFound log entries)
found_of log None h = ([], tt)
found_of log (Some old) h = (h.entries, h.is)

pub log_images : (g : ℕ) (m : MapMeaning) (log : InspectedLog) (old new : Option History) → IsLogAt g m log.name → IfTold old (λ disk. StandsFound disk log)
    → ((es : List (List ℕ)) → IfTold old (IsFoundKept log es) → EachImage (λ _ image. IsLogFile (image log.name) log.head es × OthersStay log.name old image) old new) → ImagesCarry g m old new
log_images g m log old new at stands each = let r = found_of log old stands in repair_images g m log r.0 old new at r.1 each

pub log_keeps : (g : ℕ) (m : MapMeaning) (log : InspectedLog) (gate : LogState) (old new : Option History) → IsLogAt g m log.name → IfTold old (λ disk. StandsFound disk log) → SameButFor log.name old new → IsRepaired old new log gate → KeepsStore g m old new
log_keeps g m log gate old new at stands same r = let s = found_of log old stands in repair_keeps g m log gate s.0 old new at s.1 same r

pub root_at : (g : ℕ) (m : MapMeaning) (log : InspectedLog) → log.name ≡ file.Root → IsLogAt g m log.name
root_at g m log is = subst (IsLogAt g m) (sym is) (root_log g m)

pub map_at : (g : ℕ) (m : MapMeaning) (log : InspectedLog) → log.name ≡ file.Map g → IsLogAt g m log.name
map_at g m log is = subst (IsLogAt g m) (sym is) (map_log g m)

-- ---- another log stays as it was found

apart_passes : (name other : FileName) → name ≢ other → not (same_name name other) ≡ true
apart_passes name other apart = not_from_false (same_name name other) (same_name-false name other apart)

but_for_where : (other : FileName) (old new : Option History) → SameButFor other old new → SameWhere (λ name. not (same_name name other)) old new
but_for_where other None new same = same
but_for_where other (Some old) None same = same
but_for_where other (Some old) (Some new) same = λ name passes. same name (λ e. true≢false (sym (same_name-eq name other e) ∙ not-true (same_name name other) passes))

stands_in : (log : InspectedLog) (other : FileName) (old new : DiskState) → log.name ≢ other → ((name : FileName) → name ≢ other → new name ≡ old name) → StandsFound old log → StandsFound new log
stands_in log other old new apart same h = record {
  entries = h.entries;
  is = still_found (λ name. not (same_name name other)) log h.entries (Some (record { now = old; before = [] })) (Some (record { now = new; before = [] }))
      (λ name passes. same name (λ e. true≢false (sym (same_name-eq name other e) ∙ not-true (same_name name other) passes))) (apart_passes log.name other apart) h.is;
}

pub stands_still : (log : InspectedLog) (other : FileName) (old new : Option History) → log.name ≢ other → SameButFor other old new → IfTold old (λ disk. StandsFound disk log) → IfTold new (λ disk. StandsFound disk log)
stands_still log other None None apart same h = tt
stands_still log other None (Some new) apart same h = absurd (let e : Some new ≡ None = same in cc)
stands_still log other (Some old) None apart same h = tt
stands_still log other (Some old) (Some new) apart same h = stands_in log other old.now new.now apart same h

pub log_since : (log : InspectedLog) (gate : LogState) (other : FileName) (old now new : Option History) → log.name ≢ other → SameButFor other old now → IsRepaired now new log gate → IsRepaired old new log gate
log_since log gate other old now new apart same r = record {
  is = r.is;
  reads = λ entries h. r.reads entries (still_found (λ name. not (same_name name other)) log entries old now (but_for_where other old now same) (apart_passes log.name other apart) h);
  holds = λ entries h. r.holds entries (still_kept (λ name. not (same_name name other)) log entries old now (but_for_where other old now same) (apart_passes log.name other apart) h);
}

pub map_apart : (g : ℕ) (log : InspectedLog) (root : InspectedLog) → log.name ≡ file.Map g → root.name ≡ file.Root → log.name ≢ root.name
map_apart g log root is root_is e = let h : file.Map g ≡ file.Root = sym is ∙ e ∙ root_is in cc

-- ---- the logs of the mailboxes

pub record IsBoxLog (m : MapMeaning) (log : InspectedLog) : Type 0 where
  pub box : MapBox
  pub among : Contains m.boxes box
  pub name : log.name ≡ box_name box

each_box : (all boxes : List MapBox) (logs : List InspectedLog) → ((box : MapBox) → Contains boxes box → Contains all box) → map (λ l. l.name) logs ≡ map box_name boxes → All (λ log. (box : MapBox) × Contains all box × (log.name ≡ box_name box)) logs
each_box all boxes [] among names = All-nil (λ (log : InspectedLog). (box : MapBox) × Contains all box × (log.name ≡ box_name box))
each_box all [] (log ∷ logs) among names = absurd (let e : log.name ∷ map (λ (l : InspectedLog). l.name) logs ≡ [] = names in cc)
each_box all (b ∷ boxes) (log ∷ logs) among names =
    let e : log.name ∷ map (λ (l : InspectedLog). l.name) logs ≡ box_name b ∷ map box_name boxes = names in
    let first : log.name ≡ box_name b = cc in
    let later : map (λ (l : InspectedLog). l.name) logs ≡ map box_name boxes = cc in
    All-cons (λ (l : InspectedLog). (box : MapBox) × Contains all box × (l.name ≡ box_name box)) log logs (b, among b (0, omega arith, refl), first)
    (each_box all boxes logs (λ box c. among box (suc c.0, omega (arith, c.1), c.2)) later)

pub box_logs : (m : MapMeaning) (logs : List InspectedLog) → AreLogsOfBoxes m logs → All (IsBoxLog m) logs
box_logs m logs names =
    All-weaker (λ (log : InspectedLog). (box : MapBox) × Contains m.boxes box × (log.name ≡ box_name box)) (IsBoxLog m) (λ log h. record { box = h.0; among = h.1; name = h.2 }) logs (each_box m.boxes m.boxes logs (λ box c. c) names)

box_apart : (m : MapMeaning) (log : InspectedLog) (other : FileName) → is_no_box other ≡ true → IsBoxLog m log → log.name ≢ other
box_apart m log other no_box h e = true≢false (sym no_box ∙ ap is_no_box (sym e ∙ h.name))

pub boxes_still : (m : MapMeaning) (logs : List InspectedLog) (other : FileName) (old new : Option History) → AreLogsOfBoxes m logs → is_no_box other ≡ true → SameButFor other old new → IfTold old (λ disk. All (StandsFound disk) logs) → IfTold new (λ disk. All (StandsFound disk) logs)
boxes_still m logs other None None names no_box same h = tt
boxes_still m logs other None (Some new) names no_box same h = absurd (let e : Some new ≡ None = same in cc)
boxes_still m logs other (Some old) None names no_box same h = tt
boxes_still m logs other (Some old) (Some new) names no_box same h = λ k d below.
    stands_in _ other old.now new.now (box_apart m _ other no_box (box_logs m logs names k d below)) same (h k d below)

zip_since : (m : MapMeaning) (logs : List InspectedLog) (gates : List LogState) (other : FileName) (old now new : Option History) → All (IsBoxLog m) logs → is_no_box other ≡ true → SameButFor other old now → AllZip (IsRepaired now new) logs gates → AllZip (IsRepaired old new) logs gates
zip_since m [] [] other old now new boxes no_box same z = tt
zip_since m [] (gate ∷ gates) other old now new boxes no_box same z = absurd z
zip_since m (log ∷ logs) [] other old now new boxes no_box same z = absurd z
zip_since m (log ∷ logs) (gate ∷ gates) other old now new boxes no_box same z =
    (log_since log gate other old now new (box_apart m log other no_box (All-head (IsBoxLog m) log logs boxes)) same z.0, zip_since m logs gates other old now new (All-tail (IsBoxLog m) log logs boxes) no_box same z.1)

pub boxes_since : (m : MapMeaning) (logs : List InspectedLog) (gates : List LogState) (other : FileName) (old now new : Option History) → AreLogsOfBoxes m logs → is_no_box other ≡ true → SameButFor other old now → AllZip (IsRepaired now new) logs gates → AllZip (IsRepaired old new) logs gates
boxes_since m logs gates other old now new names no_box same z = zip_since m logs gates other old now new (box_logs m logs names) no_box same z

pub no_box_root : (log : InspectedLog) → log.name ≡ file.Root → is_no_box log.name ≡ true
no_box_root log is = ap is_no_box is

pub no_box_map : (g : ℕ) (log : InspectedLog) → log.name ≡ file.Map g → is_no_box log.name ≡ true
no_box_map g log is = ap is_no_box is

pub map_stays : (g : ℕ) (m : MapMeaning) (logs : List InspectedLog) (log : InspectedLog) (gate : LogState) (old now new : Option History) → log.name ≡ file.Map g → AreLogsOfBoxes m logs → SameWhere (is_outside logs) now new → IsRepaired old now log gate → IsRepaired old new log gate
map_stays g m logs log gate old now new is names same r = repaired_stays log gate old now new (stays_where is_no_box log.name now new (no_box_map g log is) (others_stay m logs now new names same)) r

-- ---- they are wanted

pub box_at : (g : ℕ) (m : MapMeaning) (log : InspectedLog) → IsBoxLog m log → IsLogAt g m log.name
box_at g m log h = subst (IsLogAt g m) (sym h.name) (box_log g m h.box h.among)

pub box_is_log : (m : MapMeaning) (log : InspectedLog) → IsBoxLog m log → is_log log.name ≡ true
box_is_log m log h = ap is_log h.name

pub box_is_wanted : (g : ℕ) (m : MapMeaning) (log : InspectedLog) → IsBoxLog m log → is_wanted g m log.name ≡ true
box_is_wanted g m log h =
    ap (is_wanted g m) h.name ∙ list_any-from_Any (λ (b : MapBox). (b.number == h.box.number) && (b.generation == h.box.generation)) m.boxes
    (h.among.0, h.box, h.among.1, h.among.2, and_from (h.box.number == h.box.number) (h.box.generation == h.box.generation) (eq-eqb h.box.number h.box.number refl) (eq-eqb h.box.generation h.box.generation refl))

pub map_is_log : (g : ℕ) (log : InspectedLog) → log.name ≡ file.Map g → is_log log.name ≡ true
map_is_log g log is = ap is_log is

pub map_is_wanted : (g : ℕ) (m : MapMeaning) (log : InspectedLog) → log.name ≡ file.Map g → is_wanted g m log.name ≡ true
map_is_wanted g m log is = ap (is_wanted g m) is ∙ eq-eqb g g refl

-- ---- the root log, and what is no log in force

pub root_stays : (g : ℕ) (m : MapMeaning) (logs : List InspectedLog) (log map : InspectedLog) (gate : LogState) (old d e new : Option History) → log.name ≡ file.Root → map.name ≡ file.Map g → AreLogsOfBoxes m logs
    → SameButFor map.name d e → SameWhere (is_outside logs) e new → IsRepaired old d log gate → IsRepaired old new log gate
root_stays g m logs log map gate old d e new is map_is names second third r =
    let apart : log.name ≢ map.name = λ same. map_apart g map log map_is is (sym same) in
    let a : IsRepaired old e log gate = repaired_stays log gate old d e (stays_but_for log.name map.name d e apart second) r in
    repaired_stays log gate old e new (stays_where is_no_box log.name e new (no_box_root log is) (others_stay m logs e new names third)) a

three_names : (name : FileName) (root map : InspectedLog) (logs : List InspectedLog) → is_outside (root ∷ map ∷ logs) name ≡ true → (name ≢ root.name) × (name ≢ map.name) × (is_outside logs name ≡ true)
three_names name root map logs passes =
    let none = not-true (list_any (λ (log : InspectedLog). same_name name log.name) (root ∷ map ∷ logs)) passes in
    let first = or_parts (same_name name root.name) (list_any (λ (log : InspectedLog). same_name name log.name) (map ∷ logs)) none in
    let second = or_parts (same_name name map.name) (list_any (λ (log : InspectedLog). same_name name log.name) logs) first.1 in
    (λ e. true≢false (sym (same_name-eq name root.name e) ∙ first.0), λ e. true≢false (sym (same_name-eq name map.name e) ∙ second.0), not_from_false (list_any (λ (log : InspectedLog). same_name name log.name) logs) second.1)

pub three_stay : (root map : InspectedLog) (logs : List InspectedLog) (old d e new : Option History) → SameButFor root.name old d → SameButFor map.name d e → SameWhere (is_outside logs) e new → SameWhere (is_outside (root ∷ map ∷ logs)) old new
three_stay root map logs None None None new a b c = c
three_stay root map logs None None (Some e) new a b c = absurd (let h : Some e ≡ None = b in cc)
three_stay root map logs None (Some d) e new a b c = absurd (let h : Some d ≡ None = a in cc)
three_stay root map logs (Some old) None e new a b c = absurd a
three_stay root map logs (Some old) (Some d) None new a b c = absurd b
three_stay root map logs (Some old) (Some d) (Some e) None a b c = absurd c
three_stay root map logs (Some old) (Some d) (Some e) (Some new) a b c = λ name passes.
    let p = three_names name root map logs passes in
    c name p.2 ∙ b name p.1 ∙ a name p.0

where_weaker : (test other : FileName → Bool) (old new : Option History) → ((name : FileName) → test name ≡ true → other name ≡ true) → SameWhere other old new → SameWhere test old new
where_weaker test other None new f same = same
where_weaker test other (Some old) None f same = same
where_weaker test other (Some old) (Some new) f same = λ name passes. same name (f name passes)

-- a name that fails a test that each log's name passes
outside_by : (p : FileName → Bool) (logs : List InspectedLog) (name : FileName) → All (λ log. p log.name ≡ true) logs → p name ≡ false → list_any (λ log. same_name name log.name) logs ≡ false
outside_by p [] name all fails = refl
outside_by p (log ∷ logs) name all fails =
    let own : p log.name ≡ true = All-head (λ (l : InspectedLog). p l.name ≡ true) log logs all in
    or_from (same_name name log.name) (list_any (λ (l : InspectedLog). same_name name l.name) logs) (same_name-false name log.name (λ e. true≢false (sym own ∙ sym (ap p e) ∙ fails)))
    (outside_by p logs name (All-tail (λ (l : InspectedLog). p l.name ≡ true) log logs all) fails)

in_force : (g : ℕ) (m : MapMeaning) (p : FileName → Bool) (root map : InspectedLog) (logs : List InspectedLog) → p root.name ≡ true → p map.name ≡ true → ((log : InspectedLog) → IsBoxLog m log → p log.name ≡ true) → AreLogsOfBoxes m logs → All (λ log. p log.name ≡ true) (root ∷ map ∷ logs)
in_force g m p root map logs first second each names =
    All-cons (λ (l : InspectedLog). p l.name ≡ true) root (map ∷ logs) first
    (All-cons (λ (l : InspectedLog). p l.name ≡ true) map logs second (All-weaker (IsBoxLog m) (λ (l : InspectedLog). p l.name ≡ true) each logs (box_logs m logs names)))

-- the files that the store doesn't need
pub strays_stay : (g : ℕ) (m : MapMeaning) (root map : InspectedLog) (logs : List InspectedLog) (old new : Option History) → root.name ≡ file.Root → map.name ≡ file.Map g → AreLogsOfBoxes m logs
    → SameWhere (is_outside (root ∷ map ∷ logs)) old new → SameWhere (λ name. not (is_wanted g m name)) old new
strays_stay g m root map logs old new root_is map_is names same =
    where_weaker (λ name. not (is_wanted g m name)) (is_outside (root ∷ map ∷ logs)) old new
    (λ name stray. not_from_false (list_any (λ (log : InspectedLog). same_name name log.name) (root ∷ map ∷ logs))
    (outside_by (is_wanted g m) (root ∷ map ∷ logs) name (in_force g m (is_wanted g m) root map logs (ap (is_wanted g m) root_is) (map_is_wanted g m map map_is) (λ log h. box_is_wanted g m log h) names) (not-true (is_wanted g m name) stray))) same

-- no storage file is a log
pub mail_outside : (g : ℕ) (m : MapMeaning) (root map : InspectedLog) (logs : List InspectedLog) → root.name ≡ file.Root → map.name ≡ file.Map g → AreLogsOfBoxes m logs → (n : ℕ) → is_outside (root ∷ map ∷ logs) (file.Mail n) ≡ true
mail_outside g m root map logs root_is map_is names n =
    not_from_false (list_any (λ (log : InspectedLog). same_name (file.Mail n) log.name) (root ∷ map ∷ logs))
    (outside_by is_log (root ∷ map ∷ logs) (file.Mail n) (in_force g m is_log root map logs (ap is_log root_is) (map_is_log g map map_is) (λ log h. box_is_log m log h) names) refl)

pub root_is_log : (log : InspectedLog) → log.name ≡ file.Root → is_log log.name ≡ true
root_is_log log is = ap is_log is

pub root_is_wanted : (g : ℕ) (m : MapMeaning) (log : InspectedLog) → log.name ≡ file.Root → is_wanted g m log.name ≡ true
root_is_wanted g m log is = ap (is_wanted g m) is
