-- A draft of the map log that gets the entries of the log written anew.
use Rattle.std.proofs.Common.{◌≡◌, ◌≢◌, ◌↔◌, inl, inr, ◌+◌, ◌++◌, ℕ, Bool, true, false, List, length, map, take, Result, Ok, Err, OnOk, Option, refl, sym, ◌∙◌, ap, subst, fold, length-append}
use Rattle.std.proofs.lemmas.Bool.{cases_Bool}
use Rattle.std.proofs.lemmas.List.{map-append}
use Rattle.std.specs.Prelude.{IsErrOf}
use Rattle.std.proofs.lemmas.Result.{on_ok_weaker}
use Rattle.disk_model.proofs.BetweenLemmas.{between-begins, between-then}
use Rattle.disk_model.proofs.MomentLemmas.{if_told-map}
use Rattle.disk_model.specs.Disk.{DiskState, Grows, History, IfTold, SameButFor}
use Rattle.disk_model.specs.Name.{IsLogName}
use Rattle.disk_model.specs.declared.name.FileName.{FileName}
use Rattle.disk_model.specs.declared.name.FileName.TheVariants as file
use Rattle.gate_log.specs.Log.{Drafts, IsLogDrafted}
use Rattle.mdbox_base.specs.declared.entries.MapEntry.{MapEntry}
use Rattle.model_kept.specs.Kept.{MailIsKept}
use Rattle.model_lists.specs.Lists.{Lists}
use Rattle.model_logs.specs.Entries.{map_text}
use Rattle.model_meaning.specs.MapMeaning.{MapMeaning, map_applied, map_meaning}
use Rattle.model_store.specs.Settled.{IsSettledFor, Leaves}
use Rattle.store_core.proofs.DraftLemmas.{map_extended}
use Rattle.store_core.specs.MapDrafts.{IsMapDraft, MapDraftValue}
use Rattle.store_core.specs.Value.{StoreValue}
use Rattle.store_core.specs.declared.error.StepError.{StepError}
use Rattle.store_core.specs.declared.error.StepError.TheVariants as step_error
use Rattle.box_snapshot.specs.MapFilled.{IsMapFilled}
use Rattle.box_snapshot.specs.Rewrites.{AreNamesSynced, Rewrites}
use Rattle.box_snapshot.proofs.MapGroupLemmas.{IsNextGroup}
use Rattle.box_snapshot.proofs.RewritesLemmas.{LeavesValue, call_rewrites, mail_beside, names_beside}

-- ---- names

pub draft_is_log : {D : Type 0} (h : Option History) (v : StoreValue D) (draft : MapDraftValue) → IsMapDraft h draft v → IsLogName draft.log.name
draft_is_log h v draft d = subst IsLogName (sym d.name) refl

-- the name of a draft is synced
pub draft_named : {D : Type 0} (h : Option History) (v : StoreValue D) (draft : MapDraftValue) → IsMapDraft h draft v → IfTold h (λ now. (now draft.log.name).is_name_loose ≡ false)
draft_named h v draft d = if_told-map (IsLogDrafted draft.log (map map_text d.entries)) (λ now. (now draft.log.name).is_name_loose ≡ false) h (λ disk drafted. drafted.named) d.reads

same_draft : {D : Type 0} (old new : Option History) (v w : StoreValue D) (draft later : MapDraftValue) → IsMapDraft old draft v → IsMapDraft new later w → later.generation ≡ draft.generation → later.log.name ≡ draft.log.name
same_draft old new v w draft later d e same = e.name ∙ ap (λ (g : ℕ). file.Map g) same ∙ sym d.name

pub names_extended : {D : Type 0} (old new : Option History) (v w : StoreValue D) (draft later : MapDraftValue) (entries : List MapEntry) → IsMapFilled old entries draft v → IsMapDraft new later w → later.generation ≡ draft.generation → SameButFor draft.log.name old new → IfTold new AreNamesSynced
names_extended old new v w draft later entries filled d same others =
    names_beside draft.log.name old new others filled.names
    (subst (λ (name : FileName). IfTold new (λ now. (now name).is_name_loose ≡ false)) (same_draft old new v w draft later filled.drafted d same) (draft_named new w later d))

names_if_ok : {D T : Type 0} (old new : Option History) (v w : StoreValue D) (draft later : MapDraftValue) (entries : List MapEntry) (result : Result T StepError) → IsMapFilled old entries draft v → later.generation ≡ draft.generation → OnOk result (IsMapDraft new later w) → OnOk result (SameButFor draft.log.name old new) → OnOk result (IfTold new AreNamesSynced)
names_if_ok old new v w draft later entries (Ok x) filled same d others = names_extended old new v w draft later entries filled d same others
names_if_ok old new v w draft later entries (Err e) filled same d others = tt

-- ---- entries more

pub same_map : {D : Type 0} (v w : StoreValue D) → LeavesValue v w → w.map ≡ v.map
same_map v w same = ap (λ (s : StoreValue _). s.map) same

-- a call that adds entries to a draft
pub group_rewrites : {D T : Type 0} (history : D → Option History) (old new : StoreValue D) (draft later : MapDraftValue) (entries : List MapEntry) (result : Result T StepError) → IsMapFilled (history old.disk) entries draft old → LeavesValue old new
    → ((lists : Lists) → IsSettledFor lists (history old.disk) → Leaves lists lists (history old.disk) (history new.disk))
    → ((m : MapMeaning) → MailIsKept m (history old.disk) (history new.disk)) → Grows (history old.disk) (history new.disk)
    → IsErrOf result step_error.Stopped ↔ (new.stopped ≡ true) → (IsErrOf result step_error.NoMemory → (new ≡ old) × (later ≡ draft))
    → OnOk result ((lists : Lists) → IsSettledFor lists (history old.disk) → IsSettledFor lists (history new.disk))
    → later.generation ≡ draft.generation → OnOk result (IsMapDraft (history new.disk) later new) → OnOk result (SameButFor draft.log.name (history old.disk) (history new.disk)) → Rewrites history old new
group_rewrites history old new draft later entries result filled same images stays grows stopped memory settled generation d others =
    call_rewrites history old new result same images stays grows stopped (λ e. (memory e).0) settled
    (on_ok_weaker result (mail_beside draft.log.name (history old.disk) (history new.disk) (draft_is_log (history old.disk) old draft filled.drafted)) others)
    (names_if_ok (history old.disk) (history new.disk) old new draft later entries result filled generation d others)

pub filled_next : {D : Type 0} (old new : Option History) (v w : StoreValue D) (draft later : MapDraftValue) (all : List MapEntry) (from : ℕ) (group : List MapEntry) → IsMapFilled old (take from all) draft v → IsNextGroup v.map.store all from group → LeavesValue v w → IsMapDraft new later w
    → later.generation ≡ draft.generation → later.map.meaning ≡ fold (λ m e. map_applied e m) draft.map.meaning group → ((texts : List (List ℕ)) → Drafts draft.log texts old → Drafts later.log (texts ++ map map_text group) new)
    → later.log.count ≡ draft.log.count + length group → SameButFor draft.log.name old new → IsMapFilled new (take (from + length group) all) later w
filled_next old new v w draft later all from group filled next same d generation means added counted others =
    let before : List MapEntry = take from all in
    let map_same : w.map ≡ v.map = same_map v w same in
    let more = map_extended v.map.store before group next.good next.in_range next.fit in
    let texts : map map_text before ++ map map_text group ≡ map map_text (take (from + length group) all) = sym (map-append map_text before group) ∙ ap (map map_text) next.taken in
    let size : length before + length group ≡ length (take (from + length group) all) = sym (length-append before group) ∙ ap length next.taken in
    record {
      drafted = d;
      means = means ∙ ap (λ (m : MapMeaning). fold (λ x y. map_applied y x) m group) filled.means ∙ more.means ∙ ap (map_meaning v.map.store) next.taken ∙ ap (λ (m : MapMeaning). map_meaning m.store (take (from + length group) all)) (sym map_same);
      reads = subst (λ (t : List (List ℕ)). Drafts later.log t new) texts (added (map map_text before) filled.reads);
      count = counted ∙ ap (λ (n : ℕ). n + length group) filled.count ∙ size;
      names = names_extended old new v w draft later before filled d generation others;
    }

-- ---- one group behind another

pub value_then : {D : Type 0} (a b c : StoreValue D) → LeavesValue a b → LeavesValue b c → LeavesValue a c
value_then a b c first second = second ∙ ap (λ (s : StoreValue _). record s { disk = c.disk; stopped = c.stopped }) first

pub others_itself : (name : FileName) (h : Option History) → SameButFor name h h
others_itself name h = between-begins (λ a b. (other : FileName) → other ≢ name → b other ≡ a other) h (λ disk other apart. refl)

-- the one draft has changed, and then the same with entries more
pub others_then : {D : Type 0} (old now new : Option History) (v w : StoreValue D) (draft later : MapDraftValue) → IsMapDraft old draft v → IsMapDraft now later w → later.generation ≡ draft.generation → SameButFor draft.log.name old now → SameButFor later.log.name now new → SameButFor draft.log.name old new
others_then old now new v w draft later d e same first second =
    let Same : FileName → DiskState → DiskState → Type 0 = λ name a b. (other : FileName) → other ≢ name → b other ≡ a other in
    between-then (Same draft.log.name) (Same draft.log.name) (Same draft.log.name) old now new (λ a b c f s other apart. s other apart ∙ f other apart) first
    (subst (λ (name : FileName). SameButFor name now new) (same_draft old now v w draft later d e same) second)

pub no_error : {T E : Type 0} (result : Result T E) (x : T) (e : E) → result ≡ Ok x → result ≡ Err e → ⊥
no_error result x e is other = let no : Ok x ≡ Err e = sym is ∙ other in cc

-- a call that answered Ok didn't stop the store
pub runs_if_ok : {T : Type 0} (result : Result T StepError) (x : T) (stopped : Bool) → result ≡ Ok x → IsErrOf result step_error.Stopped ↔ (stopped ≡ true) → stopped ≡ false
runs_if_ok result x stopped is answer = elim (cases_Bool stopped) [
  | inl on ↦ absurd (no_error result x step_error.Stopped is (answer.1 on))
  | inr off ↦ off
]
