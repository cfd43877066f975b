-- A draft of the map log that is made, and put in the place of the one in force.
use Rattle.std.proofs.Common.{◌≡◌, ◌↔◌, ◌+◌, ℕ, inr, Bool, true, false, [], Result, Ok, Err, IfOk, OnOk, Option, refl, sym, ◌∙◌, ap, subst}
use Rattle.std.specs.Prelude.{IsErrOf}
use Rattle.std.proofs.lemmas.Bool.{true≢false}
use Rattle.std.proofs.lemmas.Result.{on_ok_weaker}
use Rattle.disk_model.specs.Disk.{Between, Grows, History, IfTold, SameButFor}
use Rattle.disk_model.specs.Name.{IsLogName}
use Rattle.disk_model.specs.declared.name.FileName.{FileName}
use Rattle.disk_model.specs.declared.name.FileName.TheVariants as file
use Rattle.gate_log.specs.Log.{Drafts, NamedButFor}
use Rattle.model_kept.specs.Kept.{MailIsKept}
use Rattle.model_lists.specs.Lists.{Lists}
use Rattle.model_meaning.proofs.SameMeaningLemmas.{means_itself}
use Rattle.model_meaning.specs.MapMeaning.{MapMeaning, map_meaning}
use Rattle.model_meaning.specs.SameMeaning.{MeansSame}
use Rattle.model_store.specs.Settled.{IsSettledFor, Leaves}
use Rattle.store_core.specs.Drafts.{AreNamedButFor}
use Rattle.store_core.specs.MapDrafts.{IsMapDraft, MapDraftValue}
use Rattle.store_core.specs.Running.{IsStore}
use Rattle.store_core.specs.Value.{StoreValue, indexes_of}
use Rattle.store_core.specs.declared.error.StepError.{StepError}
use Rattle.store_core.specs.declared.error.StepError.TheVariants as step_error
use Rattle.box_snapshot.specs.MapFilled.{IsMapFilled}
use Rattle.box_snapshot.specs.Rewrites.{AreNamesSynced, Rewrites, SyncsMailNames}
use Rattle.box_snapshot.proofs.MapFillLemmas.{draft_is_log, draft_named, same_map}
use Rattle.box_snapshot.proofs.RewritesLemmas.{LeavesValue, call_rewrites, mail_named, mail_named_three, named_then, names_after, safe_always}

-- ---- a draft is made

mail_if_made : {D : Type 0} (old new : Option History) (w : StoreValue D) (result : Result MapDraftValue StepError) → IfOk result (λ draft. IsMapDraft new draft w) → IfOk result (λ draft. NamedButFor draft.log.name old new) → OnOk result (Between SyncsMailNames old new)
mail_if_made old new w (Ok draft) d others = mail_named draft.log.name old new (draft_is_log new w draft d) others
mail_if_made old new w (Err e) d others = tt

names_if_made : {D : Type 0} (old new : Option History) (w : StoreValue D) (result : Result MapDraftValue StepError) → IfOk result (λ draft. IsMapDraft new draft w) → IfOk result (λ draft. NamedButFor draft.log.name old new) → OnOk result (IfTold new AreNamesSynced)
names_if_made old new w (Ok draft) d others = names_after draft.log.name old new others (draft_named new w draft d)
names_if_made old new w (Err e) d others = tt

pub made_rewrites : {D : Type 0} (history : D → Option History) (old new : StoreValue D) (result : Result MapDraftValue StepError) → LeavesValue old new
    → ((lists : Lists) → IsSettledFor lists (history old.disk) → Leaves lists lists (history old.disk) (history new.disk))
    → ((m : MapMeaning) → MailIsKept m (history old.disk) (history new.disk)) → Grows (history old.disk) (history new.disk)
    → IsErrOf result step_error.Stopped ↔ (new.stopped ≡ true) → (IsErrOf result step_error.NoMemory → new ≡ old)
    → OnOk result ((lists : Lists) → IsSettledFor lists (history old.disk) → IsSettledFor lists (history new.disk))
    → IfOk result (λ draft. IsMapDraft (history new.disk) draft new) → IfOk result (λ draft. NamedButFor draft.log.name (history old.disk) (history new.disk)) → Rewrites history old new
made_rewrites history old new result same images stays grows stopped memory settled d others =
    call_rewrites history old new result same images stays grows stopped memory settled (mail_if_made (history old.disk) (history new.disk) new result d others) (names_if_made (history old.disk) (history new.disk) new result d others)

-- of the disk it alone is more, and what was added to it
pub spared_map : {D : Type 0} (old now new : Option History) (v w : StoreValue D) (draft : MapDraftValue) → IsStore old v → IsMapDraft now draft w → ((generation : ℕ) → v.map_log.name ≡ file.Map generation → draft.generation ≡ generation + 1)
    → NamedButFor draft.log.name old now → SameButFor draft.log.name now new → NamedButFor (file.Map (v.map_log.head.generation + 1)) old new
spared_map old now new v w draft s d number first second =
    let head : v.map_log.name ≡ file.Map v.map_log.head.generation = s.map_name ∙ ap (λ (n : ℕ). file.Map n) (sym (ap (λ x. x.generation) s.map_head)) in
    let own : draft.log.name ≡ file.Map (v.map_log.head.generation + 1) = d.name ∙ ap (λ (n : ℕ). file.Map n) (number v.map_log.head.generation head) in
    subst (λ (n : FileName). NamedButFor n old new) own (named_then draft.log.name old now new first second)

-- it has no entries
pub filled_first : {D : Type 0} (old new : Option History) (v w : StoreValue D) (draft : MapDraftValue) → LeavesValue v w → IsMapDraft new draft w → draft.map.meaning ≡ map_meaning v.map.store [] → Drafts draft.log [] new → draft.log.count ≡ 0 → NamedButFor draft.log.name old new → IsMapFilled new [] draft w
filled_first old new v w draft same d empty nothing counted others = record {
  drafted = d;
  means = empty ∙ ap (λ (m : MapMeaning). map_meaning m.store []) (sym (same_map v w same));
  reads = nothing;
  count = counted;
  names = names_after draft.log.name old new others (draft_named new w draft d);
}

-- ---- it is put in the place of the one in force

mail_if_switched : {T : Type 0} (root name own : FileName) (old new : Option History) (result : Result T StepError) → IsLogName root → IsLogName name → IsLogName own → OnOk result (Between (AreNamedButFor root name own) old new) → OnOk result (Between SyncsMailNames old new)
mail_if_switched root name own old new result first second third others = on_ok_weaker result (mail_named_three root name own old new first second third) others

-- a call that takes no memory did this, if the store isn't stopped
pub done_if_running : {T : Type 0} (result : Result T StepError) (off : Bool) (P : Type 0) → IsErrOf result step_error.Stopped ↔ (off ≡ true) → (IsErrOf result step_error.NoMemory → ⊥) → OnOk result P → off ≡ false → P
done_if_running (Ok x) off P stopped memory did runs = did
done_if_running (Err step_error.Stopped) off P stopped memory did runs = absurd (true≢false (sym (stopped.0 refl) ∙ runs))
done_if_running (Err step_error.NoMemory) off P stopped memory did runs = absurd (memory refl)

pub switched_rewrites : {D T : Type 0} (history : D → Option History) (old new : StoreValue D) (draft : MapDraftValue) (result : Result T StepError) → IsStore (history old.disk) old → IsMapDraft (history old.disk) draft old
    → new ≡ record old { disk = new.disk; root_log = new.root_log; map_log = new.map_log; stopped = new.stopped }
    → ((lists : Lists) → IsSettledFor lists (history old.disk) → Leaves lists lists (history old.disk) (history new.disk))
    → ((m : MapMeaning) → MailIsKept m (history old.disk) (history new.disk)) → Grows (history old.disk) (history new.disk)
    → IsErrOf result step_error.Stopped ↔ (new.stopped ≡ true) → (IsErrOf result step_error.NoMemory → ⊥)
    → OnOk result ((lists : Lists) → IsSettledFor lists (history old.disk) → IsSettledFor lists (history new.disk))
    → OnOk result (Between (AreNamedButFor old.root_log.name old.map_log.name draft.log.name) (history old.disk) (history new.disk)) → OnOk result (IfTold (history new.disk) AreNamesSynced) → Rewrites history old new
switched_rewrites history old new draft result s d same images stays grows stopped memory settled others names =
    let mail = mail_if_switched old.root_log.name old.map_log.name draft.log.name (history old.disk) (history new.disk) result (subst IsLogName (sym s.root_name) refl) (subst IsLogName (sym s.map_name) refl) (draft_is_log (history old.disk) old draft d) others in
    record {
      means = subst (λ (m : MapMeaning). MeansSame old.map m) (sym (ap (λ (x : StoreValue _). x.map) same)) (means_itself old.map);
      indexes = ap (λ (x : StoreValue _). indexes_of x.boxes) same;
      same = same ∙ ap (λ (x : StoreValue _). record old { disk = new.disk; root_log = new.root_log; map_log = new.map_log; map = x.map; boxes = x.boxes; stopped = new.stopped }) (sym same);
      any_moment = λ lists is. safe_always lists (history old.disk) (history new.disk) (images lists is);
      mail_stays = stays;
      grows = grows;
      settled = λ runs. done_if_running result new.stopped _ stopped memory settled runs;
      mail = λ runs. done_if_running result new.stopped _ stopped memory mail runs;
      names = λ runs. inr (done_if_running result new.stopped _ stopped memory names runs);
    }
