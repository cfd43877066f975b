-- A draft with all entries of a mailbox's log, put in its place.
use Rattle.std.proofs.Common.{inl, inr, ◌≡◌, ◌≢◌, ◌↔◌, ◌+◌, ◌==◌, ℕ, true, false, List, [], ◌∷◌, length, map, find, if◌then◌else◌, Result, Ok, Err, OnOk, Option, Some, None, All, refl, sym, ◌∙◌, ap, subst}
use Rattle.std.specs.Prelude.{IsErrOf}
use Rattle.std.specs.Option.{option_map}
use Rattle.std.proofs.lemmas.Bool.{cases_Bool, cond-false, cond-true, eq-eqb, false≢true}
use Rattle.std.proofs.lemmas.List.Elements.{All-cons, All-head, All-nil, All-tail}
use Rattle.std.proofs.lemmas.Result.{on_ok_weaker}
use Rattle.disk_model.specs.Disk.{Between, DiskState, FileState, Grows, History, IfTold, IsThere, named, no_file}
use Rattle.disk_model.specs.Name.{IsLogName}
use Rattle.disk_model.specs.declared.name.FileName.{FileName}
use Rattle.disk_model.specs.declared.name.FileName.TheVariants as file
use Rattle.gate_log.specs.Log.{Drafts, NamedButFor, Reads}
use Rattle.gate_log.specs.State.{IsSameLog}
use Rattle.mdbox_base.specs.declared.entries.BoxEntry.{BoxEntry}
use Rattle.mdbox_base.specs.declared.entries.MapEntry.TheVariants as map_entry
use Rattle.mdbox_base.specs.declared.ids.BoxNo.{BoxNo}
use Rattle.model_kept.specs.Kept.{MailIsKept}
use Rattle.model_lists.specs.Lists.{Lists}
use Rattle.model_logs.specs.Entries.{box_text}
use Rattle.model_meaning.proofs.AppliedLemmas.{boxes_by_generation}
use Rattle.model_meaning.proofs.MapPlaceLemmas.{equal_is}
use Rattle.model_meaning.specs.MapMeaning.{MapBox, MapMeaning, box_at, box_changed, map_applied}
use Rattle.model_meaning.specs.SameMeaning.{MeansSame}
use Rattle.model_octets.proofs.PairLemmas.{IsOnly}
use Rattle.model_octets.proofs.SearchLemmas.{found_one}
use Rattle.model_rewritten.proofs.SwitchLemmas.{only_box}
use Rattle.model_rewritten.specs.Rewriting.{box_snapshot}
use Rattle.model_rewritten.specs.Unneeded.{IsUnneeded}
use Rattle.model_store.specs.Settled.{IsSettledFor, Leaves}
use Rattle.store_core.proofs.BoxAppendLemmas.{store_sound}
use Rattle.store_core.specs.Drafts.{AreNamedButFor, BoxDraftValue, IsBoxDraft, boxes_with}
use Rattle.store_core.specs.Running.{IsStore}
use Rattle.store_core.specs.Value.{StoreValue, indexes_of, list_numbered}
use Rattle.store_core.specs.declared.error.StepError.{StepError}
use Rattle.store_core.specs.declared.error.StepError.TheVariants as step_error
use Rattle.store_core.specs.declared.store.OpenBox.{OpenBox}
use Rattle.box_snapshot.specs.BoxFilled.{IsBoxFilled, OnlyLogsBut, entries_anew}
use Rattle.box_snapshot.specs.Rewrites.{AreNamesSynced, IsBoxWritten, OnlyLogsInForce, Rewrites}
use Rattle.box_snapshot.proofs.BoxFillLemmas.{anew_there, is_box_log}
use Rattle.box_snapshot.proofs.DueLemmas.{IsOpenBox, open_in_map}
use Rattle.box_snapshot.proofs.MapSnapshotLemmas.{done_if_running}
use Rattle.box_snapshot.proofs.RewritesLemmas.{LeavesValue, mail_named_three, safe_always}

-- ---- the mailbox

-- the mailbox that the map has with this number is open, with the generation before the draft's
pub before_draft : {D : Type 0} (h : Option History) (v : StoreValue D) (number generation : ℕ) → IsStore h v → option_map (λ box. box.generation + 1) (box_at v.map number) ≡ Some generation → (o : IsOpenBox number v.map.boxes v.boxes) × (o.box.generation + 1 ≡ generation)
before_draft h v number generation s next = by_box (box_at v.map number) refl next
  where
    by_box : (found : Option MapBox) → box_at v.map number ≡ found → option_map (λ box. box.generation + 1) found ≡ Some generation → (o : IsOpenBox number v.map.boxes v.boxes) × (o.box.generation + 1 ≡ generation)
    by_box None e n = absurd (cc (let w : None ≡ Some generation = n in w))
    by_box (Some box) e n =
        let o = open_in_map number v.map.store v.map.boxes v.boxes box s.box_logs e in
        let same : Some box ≡ Some o.box = sym e ∙ o.there in
        let is : box ≡ o.box = cc same in
        let w : Some (box.generation + 1) ≡ Some generation = n in
        (o, ap (λ (b : MapBox). b.generation + 1) (sym is) ∙ cc w)

-- ---- what is so whatever it answers

pub box_switched_rewrites : {D T : Type 0} (history : D → Option History) (old new : StoreValue D) (draft : BoxDraftValue) (result : Result T StepError) (box : MapBox) → IsStore (history old.disk) old → IsBoxDraft (history old.disk) draft old
    → MeansSame old.map new.map → indexes_of new.boxes ≡ indexes_of old.boxes
    → new ≡ record old { disk = new.disk; map_log = new.map_log; map = new.map; boxes = new.boxes; stopped = new.stopped }
    → ((lists : Lists) → IsSettledFor lists (history old.disk) → Leaves lists lists (history old.disk) (history new.disk) × OnOk result (IsSettledFor lists (history new.disk)))
    → ((m : MapMeaning) → MailIsKept m (history old.disk) (history new.disk)) → Grows (history old.disk) (history new.disk)
    → IsErrOf result step_error.Stopped ↔ (new.stopped ≡ true) → (IsErrOf result step_error.NoMemory → ⊥)
    → OnOk result (Between (AreNamedButFor old.map_log.name (file.Box box.number box.generation) draft.log.name) (history old.disk) (history new.disk)) → OnOk result (IfTold (history new.disk) AreNamesSynced) → Rewrites history old new
box_switched_rewrites history old new draft result box s d means indexes same lists_stay stays grows stopped memory others names =
    let mail = on_ok_weaker result (mail_named_three old.map_log.name (file.Box box.number box.generation) draft.log.name (history old.disk) (history new.disk) (subst IsLogName (sym s.map_name) refl) refl (is_box_log (history old.disk) draft old d)) others in
    record {
      means = means;
      indexes = indexes;
      same = same ∙ ap (λ (x : StoreValue _). record old { disk = new.disk; root_log = x.root_log; map_log = new.map_log; map = new.map; boxes = new.boxes; stopped = new.stopped }) (sym same);
      any_moment = λ lists is. safe_always lists (history old.disk) (history new.disk) (lists_stay lists is).0;
      mail_stays = stays;
      grows = grows;
      settled = λ runs lists is. done_if_running result new.stopped _ stopped memory (lists_stay lists is).1 runs;
      mail = λ runs. done_if_running result new.stopped _ stopped memory mail runs;
      names = λ runs. inr (done_if_running result new.stopped _ stopped memory names runs);
    }

-- ---- the log that was written

pub box_written_anew : {D : Type 0} (old now : Option History) (v w : StoreValue D) (mailbox : BoxNo) (draft : BoxDraftValue) → (o : IsOpenBox mailbox.0 v.map.boxes v.boxes) → o.box.generation + 1 ≡ draft.generation → IsBoxFilled old (entries_anew mailbox.0 v) draft v → draft.number ≡ mailbox
    → list_numbered v mailbox.0 ≡ Some draft.index.meaning → IsSameLog v.map_log w.map_log → w.boxes ≡ boxes_with draft v.boxes → ((texts : List (List ℕ)) → Drafts draft.log texts old → Reads draft.log texts now)
    → w.map ≡ map_applied (map_entry.G draft.number draft.generation) v.map → IfTold now (λ disk. disk (file.Box o.box.number o.box.generation) ≡ no_file) → IsBoxWritten mailbox.0 now v w
box_written_anew old now v w mailbox draft o next f number means log boxes reads taken gone =
    let found : Some o.open_box.index.meaning ≡ Some draft.index.meaning = sym o.meaning ∙ means in
    let same : draft.index.meaning ≡ o.open_box.index.meaning = sym (cc found) in
    let anew : entries_anew mailbox.0 v ≡ box_snapshot o.open_box.index.meaning = anew_there mailbox.0 v (Some o.open_box.index.meaning) o.open_box.index.meaning (sym o.meaning) refl in
    let own : OpenBox = record { number = draft.number; log = draft.log; index = draft.index } in
    let own_number : o.open_box.number.0 ≡ mailbox.0 = equal_is o.open_box.number.0 mailbox.0 (found_one (λ (b : OpenBox). b.number.0 == mailbox.0) v.boxes o.open_box o.found).1 in
    let box_number : o.box.number ≡ mailbox.0 = equal_is o.box.number mailbox.0 (found_one (λ (b : MapBox). b.number == mailbox.0) v.map.boxes o.box o.there).1 in
    let named_so : file.Box o.box.number o.box.generation ≡ file.Box mailbox.0 o.open_box.log.head.generation = ap (λ (n : ℕ). file.Box n o.box.generation) box_number ∙ ap (λ (n : ℕ). file.Box mailbox.0 n) (sym o.generation) in
    record {
      before = o.open_box;
      now = own;
      found = o.found;
      boxes = boxes ∙ ap (λ (n : BoxNo). map (λ (b : OpenBox). if b.number.0 == n.0 then own else b) v.boxes) number;
      number_is = number ∙ ap (λ (n : ℕ). record { 0 = n }) (sym own_number);
      generation = ap (λ h. h.generation) f.drafted.head ∙ sym next ∙ ap (λ (n : ℕ). n + 1) (sym o.generation);
      means = same;
      reads = reads (map box_text (box_snapshot o.open_box.index.meaning)) (subst (λ (es : List BoxEntry). Drafts draft.log (map box_text es) old) anew f.reads);
      count = f.count ∙ ap length anew;
      map_log = log;
      mapped = taken ∙ ap (λ (n : ℕ). map_applied (map_entry.G draft.number n) v.map) (sym (ap (λ h. h.generation) f.drafted.head));
      gone = subst (λ (name : FileName). IfTold now (λ disk. disk name ≡ no_file)) named_so gone;
    }

-- ---- no other log

-- the log of a mailbox that isn't this one was needed if it is
needed_box : (k : BoxNo) (g : ℕ) (name : FileName) (box : MapBox) (boxes : List MapBox) → file.Box box.number box.generation ≢ name → All (IsOnly (λ (b : MapBox). b.number == k.0) box) boxes
    → All (λ (b : MapBox). file.Box b.number b.generation ≢ name) (map (box_changed (map_entry.G k g)) boxes) → All (λ (b : MapBox). file.Box b.number b.generation ≢ name) boxes
needed_box k g name box [] apart only free = All-nil (λ (b : MapBox). file.Box b.number b.generation ≢ name)
needed_box k g name box (b ∷ bs) apart only free =
    let P : MapBox → Type 0 = λ b. file.Box b.number b.generation ≢ name in
    let head : P (box_changed (map_entry.G k g) b) = All-head P (box_changed (map_entry.G k g) b) (map (box_changed (map_entry.G k g)) bs) free in
    let rest = needed_box k g name box bs apart (All-tail (IsOnly (λ (b : MapBox). b.number == k.0) box) b bs only) (All-tail P (box_changed (map_entry.G k g) b) (map (box_changed (map_entry.G k g)) bs) free) in
    All-cons P b bs (elim (cases_Bool (k.0 == b.number)) [
      | inl here ↦ subst P (sym (All-head (IsOnly (λ (b : MapBox). b.number == k.0) box) b bs only (eq-eqb b.number k.0 (sym (equal_is k.0 b.number here))))) apart
      | inr other ↦ subst P (cond-false (k.0 == b.number) (record b { generation = g }) b other) head
    ]) rest

-- the draft's log is in force
in_force_now : (k : BoxNo) (g : ℕ) (name : FileName) (box : MapBox) (boxes : List MapBox) → find (λ (b : MapBox). b.number == k.0) boxes ≡ Some box → name ≡ file.Box k.0 g
    → All (λ (b : MapBox). file.Box b.number b.generation ≢ name) (map (box_changed (map_entry.G k g)) boxes) → ⊥
in_force_now k g name box [] found is free = absurd (cc (let h : None ≡ Some box = found in h))
in_force_now k g name box (b ∷ bs) found is free =
    let P : MapBox → Type 0 = λ b. file.Box b.number b.generation ≢ name in
    let head : P (box_changed (map_entry.G k g) b) = All-head P (box_changed (map_entry.G k g) b) (map (box_changed (map_entry.G k g)) bs) free in
    elim (cases_Bool (b.number == k.0)) [
      | inl here ↦
          let same : b.number ≡ k.0 = equal_is b.number k.0 here in
          let changed : box_changed (map_entry.G k g) b ≡ record b { generation = g } = cond-true (k.0 == b.number) (record b { generation = g }) b (eq-eqb k.0 b.number (sym same)) in
          subst P changed head (ap (λ (n : ℕ). file.Box n g) same ∙ sym is)
      | inr other ↦ in_force_now k g name box bs (sym (cond-false (b.number == k.0) (Some b) (find (λ (b : MapBox). b.number == k.0) bs) other) ∙ found) is
          (All-tail P (box_changed (map_entry.G k g) b) (map (box_changed (map_entry.G k g)) bs) free)
    ]

there_before : (f : FileState) → IsThere (named f) → IsThere f
there_before f there = elim (cases_Bool f.is_there) [
  | inl on ↦ on
  | inr off ↦ absurd (false≢true (sym (ap (λ (g : FileState). g.is_there) (cond-false f.is_there (record f { is_name_loose = false }) no_file off)) ∙ there))
]

only_between : {D : Type 0} (h : Option History) (v w : StoreValue D) (mailbox : BoxNo) (draft : BoxDraftValue) (a b : DiskState) → IsStore h v → (o : IsOpenBox mailbox.0 v.map.boxes v.boxes) → draft.number ≡ mailbox → draft.log.name ≡ file.Box draft.number.0 draft.generation
    → w.map ≡ map_applied (map_entry.G draft.number draft.generation) v.map → IsSameLog v.map_log w.map_log → AreNamedButFor v.map_log.name (file.Box o.box.number o.box.generation) draft.log.name a b → b (file.Box o.box.number o.box.generation) ≡ no_file
    → OnlyLogsBut draft.log.name v a → OnlyLogsInForce w b
only_between h v w mailbox draft a b s o number own taken log others gone only = λ name free there.
    let old_name : FileName = file.Box o.box.number o.box.generation in
    let changed : w.map.boxes ≡ map (box_changed (map_entry.G draft.number draft.generation)) v.map.boxes = ap (λ (m : MapMeaning). m.boxes) taken ∙ boxes_by_generation draft.number draft.generation v.map.boxes in
    let all_free = subst (λ (bs : List MapBox). All (λ (b : MapBox). file.Box b.number b.generation ≢ name) bs) changed free.no_box in
    let found : find (λ (b : MapBox). b.number == draft.number.0) v.map.boxes ≡ Some o.box = ap (λ (n : BoxNo). find (λ (b : MapBox). b.number == n.0) v.map.boxes) number ∙ o.there in
    let map_name : v.map_log.name ≡ file.Map w.map_log.head.generation = s.map_name ∙ ap (λ (n : ℕ). file.Map n) (sym (ap (λ h. h.generation) (log.head ∙ s.map_head))) in
    let no_old : name ≢ old_name = λ is. false≢true (sym (ap (λ (f : FileState). f.is_there) (ap b is ∙ gone)) ∙ there) in
    let no_draft : name ≢ draft.log.name = λ is. in_force_now draft.number draft.generation name o.box v.map.boxes found (is ∙ own) all_free in
    let no_map : name ≢ v.map_log.name = λ is. free.no_map (is ∙ map_name) in
    only name no_draft (record {
      is = free.is;
      no_root = free.no_root;
      no_map = λ is. free.no_map (is ∙ ap (λ (n : ℕ). file.Map n) (sym (ap (λ h. h.generation) log.head)));
      no_box = needed_box draft.number draft.generation name o.box v.map.boxes (λ is. no_old (sym is)) (only_box v.map draft.number.0 o.box (store_sound h v s) found) all_free;
    }) (there_before (a name) (subst IsThere (others name no_map no_old no_draft) there))

pub only_switched : {D : Type 0} (h : Option History) (v w : StoreValue D) (mailbox : BoxNo) (draft : BoxDraftValue) (old new : Option History) → IsStore h v → (o : IsOpenBox mailbox.0 v.map.boxes v.boxes) → draft.number ≡ mailbox → draft.log.name ≡ file.Box draft.number.0 draft.generation
    → w.map ≡ map_applied (map_entry.G draft.number draft.generation) v.map → IsSameLog v.map_log w.map_log → Between (AreNamedButFor v.map_log.name (file.Box o.box.number o.box.generation) draft.log.name) old new
    → IfTold new (λ now. now (file.Box o.box.number o.box.generation) ≡ no_file) → Between (λ a b. OnlyLogsBut draft.log.name v a → OnlyLogsInForce w b) old new
only_switched h v w mailbox draft None new s o number own taken log others gone = others
only_switched h v w mailbox draft (Some old) None s o number own taken log others gone = absurd others
only_switched h v w mailbox draft (Some old) (Some new) s o number own taken log others gone = only_between h v w mailbox draft old.now new.now s o number own taken log others gone

-- a draft that was made before is the only log more
pub only_drafted : {D : Type 0} (v now w : StoreValue D) (name : FileName) (old mid new : Option History) → LeavesValue v now → NamedButFor name old mid → Between (λ a b. OnlyLogsBut name now a → OnlyLogsInForce w b) mid new
    → Between (λ a b. OnlyLogsInForce v a → OnlyLogsInForce w b) old new
only_drafted v now w name None mid new same others only = subst (λ (h : Option History). Between (λ a b. OnlyLogsBut name now a → OnlyLogsInForce w b) h new) others only
only_drafted v now w name (Some old) None new same others only = absurd others
only_drafted v now w name (Some old) (Some mid) None same others only = absurd only
only_drafted v now w name (Some old) (Some mid) (Some new) same others only = λ before. only (λ other apart free there.
    before other (subst (λ (s : StoreValue _). IsUnneeded s.map_log.head.generation s.map other) same free) (there_before (old.now other) (subst IsThere (others other apart) there)))

-- ---- after Ok

pub on_ok_both : {T E : Type 0} (result : Result T E) {P Q R : Type 0} → (P → Q → R) → OnOk result P → OnOk result Q → OnOk result R
on_ok_both (Ok x) f p q = f p q
on_ok_both (Err e) f p q = tt

pub on_ok_three : {T E : Type 0} (result : Result T E) {P Q R S : Type 0} → (P → Q → R → S) → OnOk result P → OnOk result Q → OnOk result R → OnOk result S
on_ok_three (Ok x) f p q r = f p q r
on_ok_three (Err e) f p q r = tt
