-- A store whose logs were written anew opens again, with logs that mean the same and the same mail.
use Rattle.std.proofs.Common.{◌≡◌, inl, inr, ℕ, false, List, map, Option, Some, None, All, refl, sym, ◌∙◌, ap, subst}
use Rattle.std.proofs.lemmas.Bool.{cases_Bool, cond-false, cond-true, false≢true}
use Rattle.disk_model.proofs.BetweenLemmas.{between-map}
use Rattle.disk_model.specs.Disk.{DiskState, FileState, History, Between, named, no_file, reading}
use Rattle.disk_model.specs.Name.{IsLogName}
use Rattle.disk_model.specs.declared.name.FileName.{FileName}
use Rattle.disk_model.specs.declared.name.FileName.TheVariants as file
use Rattle.mdbox_base.specs.declared.entries.BoxEntry.{BoxEntry}
use Rattle.mdbox_base.specs.declared.entries.MapEntry.{MapEntry}
use Rattle.model_meaning.specs.BoxMeaning.{box_meaning}
use Rattle.model_meaning.specs.MapMeaning.{MapMeaning, MapRecord, map_meaning}
use Rattle.model_meaning.specs.SameMeaning.{MeansSame}
use Rattle.model_rewritten.specs.CarriedStore.{CarriesMail, CarriesStore}
use Rattle.model_store.proofs.OpeningLemmas.{one_store}
use Rattle.model_store.specs.Opening.{Opens}
use Rattle.model_store.specs.Safe.{LiesInFile}
use Rattle.model_store.specs.Settled.{HasSameRegion, files_of}
use Rattle.store_core.specs.Running.{IsStore}
use Rattle.store_core.specs.Value.{StoreValue, indexes_of}
use Rattle.box_snapshot.specs.Rewrites.{Rewrites, SyncsMailNames}

-- ---- storage files and instances

-- what is no log reads the same in both
abbrev pub SameMail : DiskState → DiskState → Type 0
SameMail a b = (name : FileName) → (IsLogName name → ⊥) → reading (b name) ≡ reading (a name)

reads_named : (f : FileState) → reading (named f) ≡ reading f
reads_named f = elim (cases_Bool f.is_there) [
  | inl there ↦ ap reading (cond-true f.is_there (record f { is_name_loose = false }) no_file there)
  | inr gone ↦ ap reading (cond-false f.is_there (record f { is_name_loose = false }) no_file gone) ∙ sym (cond-false f.is_there (Some f.octets) None gone)
]

same_mail : (a b : DiskState) → SyncsMailNames a b → SameMail a b
same_mail a b syncs name other = elim (syncs name other) [
  | inl same ↦ ap reading same
  | inr same ↦ ap reading same ∙ reads_named (a name)
]

pub mail_reads : (old new : Option History) → Between SyncsMailNames old new → Between SameMail old new
mail_reads old new syncs = between-map SyncsMailNames SameMail old new (λ a b s. same_mail a b s) syncs

same_region : (a b : DiskState) (row : MapRecord) → SameMail a b → LiesInFile (files_of a) row → HasSameRegion (files_of a) (files_of b) row
same_region a b row same l = record {
  first = l.octets;
  second = l.octets;
  in_first = l.there;
  in_second = same (file.Mail row.file) (λ is. false≢true is) ∙ l.there;
  first_holds = l.inside;
  second_holds = l.inside;
  same = refl;
}

carries_mail : (a b : DiskState) (m : MapMeaning) → SameMail a b → All (LiesInFile (files_of a)) m.records → CarriesMail m (files_of a) (files_of b)
carries_mail a b m same regions = record {
  regions = λ k d lt. same_region a b _ same (regions k d lt);
  instances = λ k d lt i e le. same (file.Inst _ _) (λ is. false≢true is);
}

-- ---- the store

-- the files of an open store open with its logs alone
carries_store : (a b : DiskState) (store other : List ℕ) (entries later : List MapEntry) (logs later_logs : List (List BoxEntry)) → SameMail a b → other ≡ store → Opens (files_of a) store entries logs → Opens (files_of b) other later later_logs
    → MeansSame (map_meaning store entries) (map_meaning other later) → map box_meaning later_logs ≡ map box_meaning logs → CarriesStore store entries logs (files_of a) (files_of b)
carries_store a b store other entries later logs later_logs mail same opens again means boxes = record {
  later = later;
  later_logs = later_logs;
  opens = subst (λ (s : List ℕ). Opens (files_of b) s later later_logs) same again;
  means = subst (λ (s : List ℕ). MeansSame (map_meaning store entries) (map_meaning s later)) same means;
  boxes = boxes;
  mail = carries_mail a b (map_meaning store entries) mail opens.regions;
}

carries_any : (a b : DiskState) (store : List ℕ) (entries : List MapEntry) (logs : List (List BoxEntry)) → Opens (files_of a) store entries logs → CarriesStore store entries logs (files_of a) (files_of b)
    → (s : List ℕ) (es : List MapEntry) (ls : List (List BoxEntry)) → Opens (files_of a) s es ls → CarriesStore s es ls (files_of a) (files_of b)
carries_any a b store entries logs opens carries s es ls also =
    let one = one_store (files_of a) store s entries es logs ls opens also in
    subst (λ (x : List (List BoxEntry)). CarriesStore s es x (files_of a) (files_of b)) one.2
    (subst (λ (x : List MapEntry). CarriesStore s x logs (files_of a) (files_of b)) one.1
    (subst (λ (x : List ℕ). CarriesStore x entries logs (files_of a) (files_of b)) one.0 carries))

abbrev pub Carries : DiskState → DiskState → Type 0
Carries was now = (store : List ℕ) (entries : List MapEntry) (logs : List (List BoxEntry)) → Opens (files_of was) store entries logs → CarriesStore store entries logs (files_of was) (files_of now)

of_told : {D : Type 0} (old new : StoreValue D) (h k : Option History) → IsStore h old → IsStore k new → old.stopped ≡ false → new.stopped ≡ false → MeansSame old.map new.map → indexes_of new.boxes ≡ indexes_of old.boxes → Between SyncsMailNames h k → Between Carries h k
of_told old new None k s t was runs means indexes mail = mail
of_told old new (Some a) None s t was runs means indexes mail = absurd mail
of_told old new (Some a) (Some b) s t was runs means indexes mail =
    let before = s.running was in
    let after = t.running runs in
    let same : MeansSame old.map (map_meaning new.map.store t.entries) = subst (λ (m : MapMeaning). MeansSame old.map m) t.map_is means in
    carries_any a.now b.now old.map.store s.entries s.logs before.opens
    (carries_store a.now b.now old.map.store new.map.store s.entries t.entries s.logs t.logs (same_mail a.now b.now mail) means.store before.opens after.opens
    (subst (λ (m : MapMeaning). MeansSame m (map_meaning new.map.store t.entries)) s.map_is same) (sym t.boxes_are ∙ (indexes ∙ s.boxes_are)))

pub open_again : {D : Type 0} (history : D → Option History) (old new : StoreValue D) → Rewrites history old new → IsStore (history old.disk) old → IsStore (history new.disk) new → old.stopped ≡ false → new.stopped ≡ false → Between Carries (history old.disk) (history new.disk)
open_again history old new r s t was runs = of_told old new (history old.disk) (history new.disk) s t was runs r.means r.indexes (r.mail runs)
