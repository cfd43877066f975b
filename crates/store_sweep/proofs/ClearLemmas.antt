-- Files that are removed and cut, and the sync of names behind them.
use Rattle.std.proofs.Common.{inl, inr, ◌≡◌, ℕ, ◌≤◌, true, false, List, length, Option, Some, None, sym, ◌∙◌, ap, subst}
use Rattle.std.proofs.lemmas.Bool.{cases_Bool, false≢true, cond-true, cond-false}
use Rattle.disk_model.specs.Disk.{FileState, History, IfTold, IsTold, IsThere, after, change_all, named, no_file}
use Rattle.disk_model.specs.declared.name.FileName.{FileName}
use Rattle.disk_model.specs.declared.name.FileName.TheVariants as file
use Rattle.model_meaning.specs.MapMeaning.{MapMeaning}
use Rattle.model_store.specs.Carrying.{CarriesOver}
use Rattle.store_sweep.specs.Held.{IsHeldStore, IsReadStore}
use Rattle.disk_model.specs.Name.{is_log}
use Rattle.store_files.specs.Regions.{end_of}
use Rattle.store_sweep.specs.Wanted.{is_wanted, EndsByLastRegion}
use Rattle.store_sweep.specs.Moments.{ImagesCarry, KeepsStore, SameWhere, LogStays}
use Rattle.store_sweep.proofs.HeldLemmas.{named_holds, named_reads}
use Rattle.store_sweep.proofs.SweepStepLemmas.{images_then, images_named, keeps_then, keeps_where}
use Rattle.store_sweep.proofs.RepairLemmas.{stays_then, stays_where, stays_named}

-- ---- removed, and then cut

pub cut_images : (g : ℕ) (m : MapMeaning) (old mid new : Option History) → ImagesCarry g m old mid → SameWhere (is_wanted g m) old mid → ImagesCarry g m mid new → ImagesCarry g m old new
cut_images g m old mid new first same second = images_then g m old mid new first (keeps_where g m old mid same).holds second

pub cut_keeps : (g : ℕ) (m : MapMeaning) (old mid new : Option History) → SameWhere (is_wanted g m) old mid → KeepsStore g m mid new → KeepsStore g m old new
cut_keeps g m old mid new same keeps = keeps_then g m old mid new (keeps_where g m old mid same) keeps

pub cut_logs : (g : ℕ) (m : MapMeaning) (name : FileName) (old mid new : Option History) → is_log name ≡ true → is_wanted g m name ≡ true → SameWhere (is_wanted g m) old mid → SameWhere is_log mid new → LogStays name old new
cut_logs g m name old mid new log wanted same logs = stays_then name old mid new (stays_where (is_wanted g m) name old mid wanted same) (stays_where is_log name mid new log logs)

-- ---- and the names synced

named_is_there : (f : FileState) → IsThere (named f) → IsThere f
named_is_there f there = elim (cases_Bool f.is_there) [
  | inl own ↦ own
  | inr gone ↦ absurd (false≢true (sym (ap (λ (h : FileState). h.is_there) (cond-false f.is_there (record f { is_name_loose = false }) no_file gone)) ∙ there))
]

named_octets : (f : FileState) → IsThere f → (named f).octets ≡ f.octets
named_octets f there = ap (λ (h : FileState). h.octets) (cond-true f.is_there (record f { is_name_loose = false }) no_file there)

pub named_images : (g : ℕ) (m : MapMeaning) (old mid new : Option History) → ImagesCarry g m old mid → KeepsStore g m old mid → new ≡ after (change_all named) mid → ImagesCarry g m old new
named_images g m old mid new images keeps is = images_then g m old mid new images keeps.holds (images_named g m mid new is)

keeps_named : (g : ℕ) (m : MapMeaning) (old new : Option History) → new ≡ after (change_all named) old → KeepsStore g m old new
keeps_named g m None new is = record {
  holds = λ found k. subst (λ (h : Option History). IfTold h (IsHeldStore g m found)) (sym is) tt;
  reads = λ found k. subst (λ (h : Option History). IfTold h (IsReadStore g m found)) (sym is) tt;
  told = λ t. absurd t;
}
keeps_named g m (Some old) new is = record {
  holds = λ found k. subst (λ (h : Option History). IfTold h (IsHeldStore g m found)) (sym is) (λ name. named_holds g m found name (old.now name) (k name));
  reads = λ found k. subst (λ (h : Option History). IfTold h (IsReadStore g m found)) (sym is) (λ name. subst (λ (o : Option (List ℕ)). CarriesOver g m found name o) (sym (named_reads (old.now name))) (k name));
  told = λ t. subst IsTold (sym is) tt;
}

pub named_keeps_store : (g : ℕ) (m : MapMeaning) (old mid new : Option History) → KeepsStore g m old mid → new ≡ after (change_all named) mid → KeepsStore g m old new
named_keeps_store g m old mid new keeps is = keeps_then g m old mid new keeps (keeps_named g m mid new is)

pub named_logs : (name : FileName) (old mid new : Option History) → LogStays name old mid → new ≡ after (change_all named) mid → LogStays name old new
named_logs name old mid new stays is = stays_then name old mid new stays (stays_named name mid new is)

no_longer_named : (m : MapMeaning) (name : FileName) (f : FileState) → IsThere f → EndsByLastRegion m name f → EndsByLastRegion m name (named f)
no_longer_named m file.Root f there h = tt
no_longer_named m (file.Map g) f there h = tt
no_longer_named m (file.Box n g) f there h = tt
no_longer_named m (file.Mail n) f there h = λ open_file. subst (λ (o : List ℕ). length o ≤ end_of m n) (sym (named_octets f there)) (h open_file)
no_longer_named m (file.Inst hash id) f there h = tt

pub named_cut : (m : MapMeaning) (old new : Option History) → new ≡ after (change_all named) old → IfTold old (λ disk. (name : FileName) → IsThere (disk name) → EndsByLastRegion m name (disk name)) → IfTold new (λ disk. (name : FileName) → IsThere (disk name) → EndsByLastRegion m name (disk name))
named_cut m None new is h = subst (λ (k : Option History). IfTold k (λ disk. (name : FileName) → IsThere (disk name) → EndsByLastRegion m name (disk name))) (sym is) tt
named_cut m (Some old) new is h = subst (λ (k : Option History). IfTold k (λ disk. (name : FileName) → IsThere (disk name) → EndsByLastRegion m name (disk name))) (sym is)
    (λ name there. let own : IsThere (old.now name) = named_is_there (old.now name) there in no_longer_named m name (old.now name) own (h name own))
