-- Storage files and instances that are as they were, but that their names may be synced.
use Rattle.std.proofs.Common.{◌≡◌, ◌⊎◌, inl, inr, ℕ, true, false, length, List, Option, Some, None, All, refl, sym, ◌∙◌, ap, subst}
use Rattle.std.proofs.lemmas.Bool.{cases_Bool, cond-true, cond-false, false≢true}
use Rattle.std.proofs.lemmas.List.Elements.{All-weaker}
use Rattle.box_snapshot.specs.Rewrites.{SyncsMailNames}
use Rattle.disk_model.proofs.BetweenLemmas.{between-map, between-on}
use Rattle.disk_model.specs.Disk.{Files, FileState, DiskState, History, Between, IfTold, IsThere, named, no_file, reading}
use Rattle.disk_model.specs.Name.{IsLogName}
use Rattle.disk_model.specs.declared.name.FileName.{FileName}
use Rattle.disk_model.specs.declared.name.FileName.TheVariants as file
use Rattle.mdbox_base.specs.declared.entries.InstRow.{InstRow}
use Rattle.model_meaning.specs.MapMeaning.{MapMeaning, MapRecord}
use Rattle.model_rewritten.specs.CarriedStore.{CarriesMail}
use Rattle.model_store.specs.Settled.{files_of, HasSameRegion, HasSameInstance}
use Rattle.store_sweep.specs.Moments.{AreFitted, IsFitted, SameContent}
use Rattle.store_sweep.specs.Swept.{EndWithRegions}

-- ---- one file

abbrev Synced : FileState → FileState → Type 0
Synced f g = (g ≡ f) ⊎ (g ≡ named f)

abbrev with_name : FileState → FileState
with_name f = record f { is_name_loose = false }

synced_reads : (f g : FileState) → Synced f g → reading g ≡ reading f
synced_reads f g (inl e) = ap reading e
synced_reads f g (inr e) = ap reading e ∙ elim (cases_Bool f.is_there) [
  | inl there ↦ let n : named f ≡ with_name f = cond-true f.is_there (with_name f) no_file there in ap reading n
  | inr gone ↦ let n : named f ≡ no_file = cond-false f.is_there (with_name f) no_file gone in ap reading n ∙ sym (cond-false f.is_there (Some f.octets) None gone)
]

synced_there : (f g : FileState) → Synced f g → IsThere g → IsThere f
synced_there f g (inl e) there = subst IsThere e there
synced_there f g (inr e) there = elim (cases_Bool f.is_there) [
  | inl was ↦ was
  | inr gone ↦
      let n : named f ≡ no_file = cond-false f.is_there (with_name f) no_file gone in
      let none : IsThere no_file = subst IsThere (e ∙ n) there in
      absurd (false≢true none)
]

pub there_synced : (f g : FileState) → Synced f g → IsThere f → IsThere g
there_synced f g (inl e) there = subst IsThere (sym e) there
there_synced f g (inr e) there = subst IsThere (sym (e ∙ cond-true f.is_there (with_name f) no_file there)) there

-- one that is there has the same content
synced_is : (f g : FileState) → Synced f g → IsThere g → (g ≡ f) ⊎ (g ≡ with_name f)
synced_is f g (inl e) there = inl e
synced_is f g (inr e) there = inr (e ∙ cond-true f.is_there (with_name f) no_file (synced_there f g (inr e) there))

content_synced : (f g : FileState) → (g ≡ f) ⊎ (g ≡ with_name f) → SameContent f g
content_synced f g (inl e) = subst (SameContent f) (sym e) (record { octets = refl; least = refl; greatest = refl; firm = λ i. refl })
content_synced f g (inr e) = subst (SameContent f) (sym e) (record { octets = refl; least = refl; greatest = refl; firm = λ i. refl })

loose_synced : (f g : FileState) → (g ≡ f) ⊎ (g ≡ with_name f) → g.is_name_loose ≡ true → f.is_name_loose ≡ true
loose_synced f g (inl e) loose = sym (ap (λ (h : FileState). h.is_name_loose) e) ∙ loose
loose_synced f g (inr e) loose = absurd (false≢true (sym (ap (λ (h : FileState). h.is_name_loose) e) ∙ loose))

fitted_synced : (m : MapMeaning) (number : ℕ) (f g : FileState) → Synced f g → IsThere g → IsFitted m number f g
fitted_synced m number f g s there = record {
  was = synced_there f g s there;
  name = loose_synced f g (synced_is f g s there);
  content = inl (content_synced f g (synced_is f g s there));
}

-- ---- all of them

pub mail_there : (a b : DiskState) → SyncsMailNames a b → (name : FileName) → (IsLogName name → ⊥) → IsThere (b name) → IsThere (a name)
mail_there a b mail name no_log there = synced_there (a name) (b name) (mail name no_log) there

no_log_mail : (number : ℕ) → IsLogName (file.Mail number) → ⊥
no_log_mail number is = false≢true is

no_log_instance : (hash id : List ℕ) → IsLogName (file.Inst hash id) → ⊥
no_log_instance hash id is = false≢true is

mail_reads : (a b : DiskState) → SyncsMailNames a b → (name : FileName) → (IsLogName name → ⊥) → files_of b name ≡ files_of a name
mail_reads a b mail name no_log = synced_reads (a name) (b name) (mail name no_log)

-- the mail that was carried on to the first disk was carried on to the second

region_on : (was : Files) (a b : DiskState) (row : MapRecord) → SyncsMailNames a b → HasSameRegion was (files_of a) row → HasSameRegion was (files_of b) row
region_on was a b row mail r = record {
  first = r.first;
  second = r.second;
  in_first = r.in_first;
  in_second = mail_reads a b mail (file.Mail row.file) (no_log_mail row.file) ∙ r.in_second;
  first_holds = r.first_holds;
  second_holds = r.second_holds;
  same = r.same;
}

instance_on : (was : Files) (a b : DiskState) (inst : InstRow) → SyncsMailNames a b → HasSameInstance was (files_of a) inst → HasSameInstance was (files_of b) inst
instance_on was a b inst mail same = mail_reads a b mail (file.Inst inst.hash.0 inst.id.0) (no_log_instance inst.hash.0 inst.id.0) ∙ same

pub mail_on : (m : MapMeaning) (was : Files) (a b : DiskState) → SyncsMailNames a b → CarriesMail m was (files_of a) → CarriesMail m was (files_of b)
mail_on m was a b mail carried = record {
  regions = All-weaker (HasSameRegion was (files_of a)) (HasSameRegion was (files_of b)) (λ row r. region_on was a b row mail r) m.records carried.regions;
  instances = All-weaker (λ (row : MapRecord). All (HasSameInstance was (files_of a)) row.instances) (λ (row : MapRecord). All (HasSameInstance was (files_of b)) row.instances)
      (λ row all. All-weaker (HasSameInstance was (files_of a)) (HasSameInstance was (files_of b)) (λ inst same. instance_on was a b inst mail same) row.instances all) m.records carried.instances;
}

pub fitted_on : (m : MapMeaning) (old new : Option History) → Between SyncsMailNames old new → AreFitted m old new
fitted_on m old new mail = between-map SyncsMailNames _ old new (λ a b s number there. fitted_synced m number (a (file.Mail number)) (b (file.Mail number)) (s (file.Mail number) (no_log_mail number)) there) mail

pub ends_on : (m : MapMeaning) (old new : Option History) → Between SyncsMailNames old new → IfTold old (EndWithRegions m) → IfTold new (EndWithRegions m)
ends_on m old new mail ends =
    between-on SyncsMailNames (EndWithRegions m) (EndWithRegions m) old new (λ a b s ends number there unsealed.
    let f : FileState = a (file.Mail number) in
    let g : FileState = b (file.Mail number) in
    let one = s (file.Mail number) (no_log_mail number) in
    let same : g.octets ≡ f.octets = (content_synced f g (synced_is f g one there)).octets in
    ap length same ∙ ends number (synced_there f g one there) unsealed) mail ends
