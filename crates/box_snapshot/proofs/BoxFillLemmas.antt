-- A draft of a mailbox log that is filled further.
use Rattle.std.proofs.Common.{◌≡◌, ◌≢◌, ◌↔◌, ◌+◌, ◌++◌, [], ℕ, false, true, List, length, length-append, take, map, fold, Result, Ok, Err, OnOk, Option, Some, refl, sym, ◌∙◌, ap, subst}
use Rattle.std.specs.Prelude.{IsErrOf}
use Rattle.std.specs.Option.{option_map_or}
use Rattle.std.proofs.lemmas.List.{map-append}
use Rattle.std.proofs.lemmas.Result.{on_ok_weaker}
use Rattle.disk_model.proofs.BetweenLemmas.{between-then}
use Rattle.disk_model.proofs.MomentLemmas.{if_told-map}
use Rattle.disk_model.specs.Name.{IsLogName}
use Rattle.disk_model.specs.Disk.{DiskState, History, Grows, IfTold, SameButFor}
use Rattle.disk_model.specs.declared.name.FileName.{FileName}
use Rattle.disk_model.specs.declared.name.FileName.TheVariants as file
use Rattle.gate_log.specs.Log.{Drafts, IsLogDrafted}
use Rattle.mdbox_base.specs.declared.entries.BoxEntry.{BoxEntry}
use Rattle.model_kept.specs.Kept.{MailIsKept}
use Rattle.model_lists.specs.Lists.{Lists}
use Rattle.model_logs.specs.Entries.{box_text}
use Rattle.model_meaning.specs.BoxMeaning.{BoxMeaning, box_applied}
use Rattle.model_meaning.specs.MapMeaning.{MapMeaning}
use Rattle.model_rewritten.specs.Rewriting.{box_snapshot}
use Rattle.model_store.specs.Settled.{IsSettledFor, Leaves}
use Rattle.store_core.specs.Drafts.{BoxDraftValue, IsBoxDraft}
use Rattle.store_core.specs.Value.{StoreValue, list_numbered}
use Rattle.store_core.specs.declared.error.StepError.{StepError}
use Rattle.store_core.specs.declared.error.StepError.TheVariants as step_error
use Rattle.box_snapshot.specs.BoxFilled.{IsBoxFilled, entries_anew}
use Rattle.box_snapshot.specs.Rewrites.{AreNamesSynced, Rewrites}
use Rattle.box_snapshot.proofs.BoxGroupLemmas.{IsNextBoxGroup, means_more}
use Rattle.box_snapshot.proofs.RewritesLemmas.{LeavesValue, call_rewrites, mail_beside, names_beside}

-- the name of a draft's log is synced
pub own_named : {D : Type 0} (h : Option History) (draft : BoxDraftValue) (v : StoreValue D) → (d : IsBoxDraft h draft v) → IfTold h (λ now. (now draft.log.name).is_name_loose ≡ false)
own_named h draft v d = if_told-map (IsLogDrafted draft.log (map box_text d.entries)) (λ now. (now draft.log.name).is_name_loose ≡ false) h (λ disk l. l.named) d.reads

-- it is a log's
pub is_box_log : {D : Type 0} (h : Option History) (draft : BoxDraftValue) (v : StoreValue D) → IsBoxDraft h draft v → IsLogName draft.log.name
is_box_log h draft v d = subst IsLogName (sym d.name) refl

same_log_name : {D : Type 0} (old new : Option History) (draft more : BoxDraftValue) (v w : StoreValue D) → IsBoxDraft old draft v → IsBoxDraft new more w → (more.number ≡ draft.number) × (more.generation ≡ draft.generation) → more.log.name ≡ draft.log.name
same_log_name old new draft more v w d e same =
    e.name ∙ ap (λ n. file.Box n.0 more.generation) same.0 ∙ ap (λ g. file.Box draft.number.0 g) same.1 ∙ sym d.name

box_names_extended : {D : Type 0} (old new : Option History) (draft more : BoxDraftValue) (v w : StoreValue D) → IsBoxDraft old draft v → IfTold old AreNamesSynced → SameButFor draft.log.name old new → IsBoxDraft new more w
    → (more.number ≡ draft.number) × (more.generation ≡ draft.generation) → IfTold new AreNamesSynced
box_names_extended old new draft more v w d names others e same =
    names_beside draft.log.name old new others names (subst (λ (n : FileName). IfTold new (λ now. (now n).is_name_loose ≡ false)) (same_log_name old new draft more v w d e same) (own_named new more w e))

-- with more entries
pub filled_more : {D : Type 0} (old new : Option History) (draft more : BoxDraftValue) (v w : StoreValue D) (all group : List BoxEntry) (from : ℕ) (mapped : MapMeaning) → IsBoxFilled old (take from all) draft v → IsNextBoxGroup mapped all from group
    → IsBoxDraft new more w → more.index.meaning ≡ fold (λ m e. box_applied e m) draft.index.meaning group
    → ((texts : List (List ℕ)) → Drafts draft.log texts old → Drafts more.log (texts ++ map box_text group) new) → more.log.count ≡ draft.log.count + length group → SameButFor draft.log.name old new
    → (more.number ≡ draft.number) × (more.generation ≡ draft.generation) → IsBoxFilled new (take (from + length group) all) more w
filled_more old new draft more v w all group from mapped f n e means added counted others same =
    subst (λ (es : List BoxEntry). IsBoxFilled new es more w) n.taken (record {
      drafted = e;
      means = means ∙ ap (λ (m : BoxMeaning). fold (λ x y. box_applied y x) m group) f.means ∙ means_more (take from all) group;
      reads = subst (λ (texts : List (List ℕ)). Drafts more.log texts new) (sym (map-append box_text (take from all) group)) (added (map box_text (take from all)) f.reads);
      count = counted ∙ ap (λ (k : ℕ). k + length group) f.count ∙ sym (length-append (take from all) group);
      names = box_names_extended old new draft more v w f.drafted f.names others e same;
    })

box_names_if_ok : {D T : Type 0} (history : D → Option History) (old new : StoreValue D) (result : Result T StepError) (draft more : BoxDraftValue) (entries : List BoxEntry) → IsBoxFilled (history old.disk) entries draft old
    → OnOk result (SameButFor draft.log.name (history old.disk) (history new.disk)) → OnOk result (IsBoxDraft (history new.disk) more new) → (more.number ≡ draft.number) × (more.generation ≡ draft.generation) → OnOk result (IfTold (history new.disk) AreNamesSynced)
box_names_if_ok history old new (Ok x) draft more entries f others drafted number = box_names_extended (history old.disk) (history new.disk) draft more old new f.drafted f.names others drafted number
box_names_if_ok history old new (Err e) draft more entries f others drafted number = others

-- a call that extends a draft, or does nothing
pub box_group_rewrites : {D T : Type 0} (history : D → Option History) (old new : StoreValue D) (result : Result T StepError) (draft more : BoxDraftValue) (entries : List BoxEntry) → IsBoxFilled (history old.disk) entries draft old → LeavesValue old new
    → ((lists : Lists) → IsSettledFor lists (history old.disk) → Leaves lists lists (history old.disk) (history new.disk))
    → ((m : MapMeaning) → MailIsKept m (history old.disk) (history new.disk)) → Grows (history old.disk) (history new.disk)
    → IsErrOf result step_error.Stopped ↔ (new.stopped ≡ true) → (IsErrOf result step_error.NoMemory → (new ≡ old) × (more ≡ draft))
    → OnOk result ((lists : Lists) → IsSettledFor lists (history old.disk) → IsSettledFor lists (history new.disk))
    → OnOk result (SameButFor draft.log.name (history old.disk) (history new.disk)) → OnOk result (IsBoxDraft (history new.disk) more new)
    → (more.number ≡ draft.number) × (more.generation ≡ draft.generation) → Rewrites history old new
box_group_rewrites history old new result draft more entries f same images stays grows stopped memory settled others drafted number =
    call_rewrites history old new result same images stays grows stopped (λ none. (memory none).0) settled
    (on_ok_weaker result (mail_beside draft.log.name (history old.disk) (history new.disk) (is_box_log (history old.disk) draft old f.drafted)) others)
    (box_names_if_ok history old new result draft more entries f others drafted number)

-- ---- one group behind another

-- the entries are those of the mailbox's log as it was
pub anew_same : {D : Type 0} (number : ℕ) (v w : StoreValue D) → LeavesValue v w → entries_anew number w ≡ entries_anew number v
anew_same number v w same = ap (λ (s : StoreValue _). entries_anew number s) same

pub anew_there : {D : Type 0} (number : ℕ) (v : StoreValue D) (list : Option BoxMeaning) (m : BoxMeaning) → list ≡ list_numbered v number → list ≡ Some m → entries_anew number v ≡ box_snapshot m
anew_there number v list m is some = ap (λ (o : Option BoxMeaning). option_map_or box_snapshot o []) (sym is ∙ some)

-- the one draft has changed, and then the same with entries more
pub box_others_then : {D : Type 0} (old now new : Option History) (draft later : BoxDraftValue) (v w : StoreValue D) → IsBoxDraft old draft v → IsBoxDraft now later w → (later.number ≡ draft.number) × (later.generation ≡ draft.generation)
    → SameButFor draft.log.name old now → SameButFor later.log.name now new → SameButFor draft.log.name old new
box_others_then old now new draft later v w d e same first second =
    let Same : FileName → DiskState → DiskState → Type 0 = λ name a b. (other : FileName) → other ≢ name → b other ≡ a other in
    between-then (Same draft.log.name) (Same draft.log.name) (Same draft.log.name) old now new (λ a b c f s other apart. s other apart ∙ f other apart) first
    (subst (λ (name : FileName). SameButFor name now new) (same_log_name old now draft later v w d e same) second)
