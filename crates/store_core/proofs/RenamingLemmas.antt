-- A mailbox that gets another name.
use Rattle.store_core.proofs.Common.{◌≡◌, ◌≤◌, ℕ, false, List, Option, All, refl, sym, subst, arith, History, BoxNo, Highest, MapInRange, MapFits, MapBox, MapMeaning, MapRecord, map_applied, IsCounted, IsSoundMap, CoverDues, IsUpTo, IsStore, AreBoxLogs, StoreValue}
use Rattle.mdbox_base.specs.Words.{IsName}
use Rattle.mdbox_base.specs.declared.entries.MapEntry.TheVariants as entry
use Rattle.model_appends.proofs.AppendSafeMapLemmas.{renamed_append}
use Rattle.model_appends.proofs.DeletedMailboxLemmas.{leaves_renamed}
use Rattle.model_logs.specs.Entries.{map_text}
use Rattle.model_meaning.proofs.AppliedLemmas.{boxes_by_renamed, records_by_renamed}
use Rattle.std.specs.Prelude.{length}
use Rattle.store_core.proofs.BoxAppendLemmas.{store_sound}
use Rattle.store_core.proofs.ChangingLemmas.{Changing}
use Rattle.store_core.proofs.DeletingLemmas.{box_below}
use Rattle.store_core.proofs.LeavingBoxLemmas.{logs_renamed}

pub same_records : (m : MapMeaning) (mailbox : BoxNo) (name : List ℕ) → (map_applied (entry.V mailbox name) m).records ≡ m.records
same_records m mailbox name = records_by_renamed mailbox name m.records

-- the number of the mailbox was drawn
drawn_renamed : (m : MapMeaning) (drawn : Highest) (mailbox : BoxNo) (name : List ℕ) → IsSoundMap m → MapFits m (entry.V mailbox name) → IsUpTo drawn m.highest → IsUpTo drawn (map_applied (entry.V mailbox name) m).highest
drawn_renamed m drawn mailbox name sound fits up =
    let a = up.file in
    let b = up.map in
    let c = up.instance in
    let d = up.mailbox in
    let box = box_below m mailbox.0 fits.there.0 sound fits.there.1 in
    record { file = omega (arith, a); map = omega (arith, b); instance = omega (arith, c); mailbox = omega (arith, d, box) }

-- the number is one of 4 octets
name_in_range : (m : MapMeaning) (mailbox : BoxNo) (name : List ℕ) → IsSoundMap m → IsName name → MapFits m (entry.V mailbox name) → MapInRange (entry.V mailbox name)
name_in_range m mailbox name sound is fits =
    let below = box_below m mailbox.0 fits.there.0 sound fits.there.1 in
    let high = sound.mailbox_high in
    (omega (arith, below, high), is)

pub renaming : {D : Type 0} → (h : Option History) (v : StoreValue D) (mailbox : BoxNo) (name : List ℕ) → IsStore h v → v.stopped ≡ false → IsName name → MapFits v.map (entry.V mailbox name) → Changing h v (entry.V mailbox name) v.boxes
renaming h v mailbox name s runs is fits =
    let sound : IsSoundMap v.map = store_sound h v s in
    record {
      store = s;
      running = runs;
      kind = tt;
      in_range = name_in_range v.map mailbox name sound is fits;
      fits = fits;
      counted = subst (λ (rows : List MapRecord). All (IsCounted s.logs) rows) (sym (same_records v.map mailbox name)) (subst (λ (m : MapMeaning). All (IsCounted s.logs) m.records) (sym s.map_is) s.good.counts);
      covered = subst (λ (rows : List MapRecord). CoverDues s.logs rows v.dues) (sym (same_records v.map mailbox name)) s.counts;
      boxes_are = s.boxes_are;
      box_logs = subst (λ (bs : List MapBox). AreBoxLogs v.map.store bs v.boxes) (sym (boxes_by_renamed mailbox name v.map.boxes)) (logs_renamed mailbox name v.map.store v.map.boxes v.boxes s.box_logs);
      read = λ now r. r;
      drawn = drawn_renamed v.map v.drawn mailbox name sound fits s.drawn;
      places = tt;
      none = refl;
      append = λ files id entries lists safe fit counts. renamed_append files id entries lists mailbox name safe (name_in_range v.map mailbox name sound is fits) fit;
      alike = λ disk lists settled. leaves_renamed disk lists mailbox name settled;
    }

pub short_name : (mailbox : BoxNo) (name : List ℕ) → IsName name → length (map_text (entry.V mailbox name)) ≤ 265
short_name mailbox name is = let l = is.short in omega (arith, l)
