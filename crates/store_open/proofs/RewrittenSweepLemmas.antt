-- A disk that was swept, and on which logs were written anew then: it is swept as the new logs say.
use Rattle.std.proofs.Common.{◌≡◌, ◌≢◌, ◌⊎◌, ◌==◌, ◌&&◌, inl, inr, ℕ, true, false, List, [], ◌∷◌, take, Option, Some, None, All, get_or, refl, sym, ◌∙◌, ap, subst}
use Rattle.std.proofs.lemmas.Bool.{cases_Bool, eqb-true, eq-eqb, and_from, and_parts, true≢false, false≢true}
use Rattle.std.proofs.lemmas.List.Elements.{All-nil, All-cons, All-contains}
use Rattle.std.proofs.lemmas.List.Folds.{Any-from_list_any, list_any_at}
use Rattle.box_snapshot.specs.Rewrites.{AreNamesSynced, SyncsMailNames}
use Rattle.disk_model.proofs.BetweenLemmas.{between-both, between-map, between-on, between-since, between-then}
use Rattle.disk_model.proofs.FirmLemmas.{reads_there}
use Rattle.disk_model.specs.Disk.{Files, FileState, DiskState, History, Between, IfTold, IsThere}
use Rattle.disk_model.specs.Name.{IsLogName, is_log}
use Rattle.disk_model.specs.declared.name.FileName.{FileName}
use Rattle.disk_model.specs.declared.name.FileName.TheVariants as file
use Rattle.mdbox_base.specs.declared.entries.BoxEntry.{BoxEntry}
use Rattle.mdbox_base.specs.declared.entries.MapEntry.{MapEntry}
use Rattle.model_meaning.specs.MapMeaning.{MapBox, MapMeaning, MapRecord, is_sealed, map_meaning}
use Rattle.model_meaning.specs.SameMeaning.{MeansSame}
use Rattle.model_rewritten.specs.CarriedStore.{CarriesMail}
use Rattle.model_rewritten.specs.Unneeded.{IsUnneeded}
use Rattle.model_store.specs.Opening.{PassBoxes}
use Rattle.model_store.specs.Settled.{files_of, HasSameInstance, HasSameRegion}
use Rattle.store_files.specs.Regions.{end_of}
use Rattle.store_open.proofs.CheckedLemmas.{OpensAt}
use Rattle.store_open.proofs.RewrittenLemmas.{with_boxes}
use Rattle.store_open.proofs.SyncedMailLemmas.{ends_on, fitted_on, mail_on, mail_there, there_synced}
use Rattle.store_sweep.proofs.FittedLemmas.{fitted-then}
use Rattle.store_sweep.specs.Moments.{AreFitted, IsCutToRegions, NamesSynced, SameContent}
use Rattle.store_sweep.specs.Swept.{EndWithRegions, IsSwept}
use Rattle.store_sweep.specs.Wanted.{has_box, is_wanted}

-- ---- for maps that mean the same

mail_as : (m n : MapMeaning) (a b : Files) → MeansSame m n → CarriesMail m a b → CarriesMail n a b
mail_as m n a b same c = record {
  regions = subst (λ (rows : List MapRecord). All (HasSameRegion a b) rows) (sym same.records) c.regions;
  instances = subst (λ (rows : List MapRecord). All (λ row. All (HasSameInstance a b) row.instances) rows) (sym same.records) c.instances;
}

sealed_as : (m n : MapMeaning) (number : ℕ) → MeansSame m n → is_sealed n number ≡ is_sealed m number
sealed_as m n number same = ap (λ (k : MapMeaning). is_sealed k number) (with_boxes m n same)

end_as : (m n : MapMeaning) (number : ℕ) → MeansSame m n → end_of n number ≡ end_of m number
end_as m n number same = ap (λ (k : MapMeaning). end_of k number) (with_boxes m n same)

-- storage files and instances are needed by the same maps
wanted_as : (g k : ℕ) (m n : MapMeaning) (name : FileName) → MeansSame m n → (IsLogName name → ⊥) → is_wanted g n name ≡ is_wanted k m name
wanted_as g k m n file.Root same no_log = absurd (no_log refl)
wanted_as g k m n (file.Map i) same no_log = absurd (no_log refl)
wanted_as g k m n (file.Box number i) same no_log = absurd (no_log refl)
wanted_as g k m n (file.Mail number) same no_log = ap (λ (x : MapMeaning). is_wanted g x (file.Mail number)) (with_boxes m n same)
wanted_as g k m n (file.Inst hash id) same no_log = ap (λ (x : MapMeaning). is_wanted g x (file.Inst hash id)) (with_boxes m n same)

cut_as : (m n : MapMeaning) (number : ℕ) (f g : FileState) → MeansSame m n → SameContent f g ⊎ IsCutToRegions m number f g → SameContent f g ⊎ IsCutToRegions n number f g
cut_as m n number f g same (inl content) = inl content
cut_as m n number f g same (inr cut) = inr (record {
  unsealed = sealed_as m n number same ∙ cut.unsealed;
  octets = cut.octets ∙ ap (λ (k : ℕ). take k f.octets) (sym (end_as m n number same));
  synced = cut.synced;
})

fitted_as : (m n : MapMeaning) (old new : Option History) → MeansSame m n → AreFitted m old new → AreFitted n old new
fitted_as m n old new same fitted = between-map _ _ old new (λ a b f number there. let h = f number there in record { was = h.was; name = h.name; content = cut_as m n number (a (file.Mail number)) (b (file.Mail number)) same h.content }) fitted

ends_as : (m n : MapMeaning) (history : Option History) → MeansSame m n → IfTold history (EndWithRegions m) → IfTold history (EndWithRegions n)
ends_as m n None same ends = tt
ends_as m n (Some h) same ends = λ number there unsealed. ends number there (sym (sealed_as m n number same) ∙ unsealed) ∙ sym (end_as m n number same)

-- ---- each file that is there is needed

map_apart : (i g : ℕ) → (i == g) ≡ false → file.Map i ≢ file.Map g
map_apart i g miss e = let same : i ≡ g = cc e in true≢false (sym (eq-eqb i g same) ∙ miss)

unneeded_map : (g i : ℕ) (n : MapMeaning) → (i == g) ≡ false → IsUnneeded g n (file.Map i)
unneeded_map g i n miss = record {
  is = refl;
  no_root = λ e. cc e;
  no_map = map_apart i g miss;
  no_box = λ k d lt e. let w : file.Box (get_or n.boxes k d).number (get_or n.boxes k d).generation ≡ file.Map i = e in cc w;
}

unneeded_box : (g number i : ℕ) (n : MapMeaning) → has_box n number i ≡ false → IsUnneeded g n (file.Box number i)
unneeded_box g number i n miss = record {
  is = refl;
  no_root = λ e. cc e;
  no_map = λ e. cc e;
  no_box = λ k d lt e.
      let box : MapBox = get_or n.boxes k d in
      let w : file.Box box.number box.generation ≡ file.Box number i = e in
      let own : box.number ≡ number = cc w in
      let generation : box.generation ≡ i = cc w in
      let hit : ((box.number == number) && (box.generation == i)) ≡ true = and_from (box.number == number) (box.generation == i) (eq-eqb box.number number own) (eq-eqb box.generation i generation) in
      true≢false (sym (list_any_at (λ (b : MapBox). (b.number == number) && (b.generation == i)) n.boxes k d lt hit) ∙ miss);
}

-- all files of a disk are needed
abbrev pub AllWanted : ℕ → MapMeaning → DiskState → Type 0
AllWanted g m disk = (name : FileName) → IsThere (disk name) → is_wanted g m name ≡ true

-- no log is there that the store doesn't need
abbrev pub NoOthers : ℕ → MapMeaning → DiskState → Type 0
NoOthers g m disk = (name : FileName) → IsUnneeded g m name → IsThere (disk name) → ⊥

pub unneeded_gone : (g : ℕ) (m : MapMeaning) (disk : DiskState) → AllWanted g m disk → NoOthers g m disk
unneeded_gone g m disk all file.Root u there = u.no_root refl
unneeded_gone g m disk all (file.Map i) u there = u.no_map (ap file.Map (eqb-true i g (all (file.Map i) there)))
unneeded_gone g m disk all (file.Box number i) u there =
    let h = Any-from_list_any (λ (b : MapBox). (b.number == number) && (b.generation == i)) m.boxes (all (file.Box number i) there) in
    let both = and_parts (h.1.number == number) (h.1.generation == i) h.4 in
    let own : h.1.number ≡ number = eqb-true h.1.number number both.0 in
    let generation : h.1.generation ≡ i = eqb-true h.1.generation i both.1 in
    All-contains (λ (b : MapBox). file.Box b.number b.generation ≢ file.Box number i) m.boxes h.1 u.no_box (h.0, h.2, h.3) (cc (own, generation))
unneeded_gone g m disk all (file.Mail number) u there = false≢true u.is
unneeded_gone g m disk all (file.Inst hash id) u there = false≢true u.is

all_wanted : (g k : ℕ) (m n : MapMeaning) (a b : DiskState) → MeansSame m n → SyncsMailNames a b → NoOthers g n b → AllWanted k m a → AllWanted g n b
all_wanted g k m n a b same mail none all file.Root there = refl
all_wanted g k m n a b same mail none all (file.Map i) there = elim (cases_Bool (i == g)) [
  | inl hit ↦ hit
  | inr miss ↦ absurd (none (file.Map i) (unneeded_map g i n miss) there)
]
all_wanted g k m n a b same mail none all (file.Box number i) there = elim (cases_Bool (has_box n number i)) [
  | inl hit ↦ hit
  | inr miss ↦ absurd (none (file.Box number i) (unneeded_box g number i n miss) there)
]
all_wanted g k m n a b same mail none all (file.Mail number) there =
    let no_log : IsLogName (file.Mail number) → ⊥ = λ is. false≢true is in
    wanted_as g k m n (file.Mail number) same no_log ∙ all (file.Mail number) (mail_there a b mail (file.Mail number) no_log there)
all_wanted g k m n a b same mail none all (file.Inst hash id) there =
    let no_log : IsLogName (file.Inst hash id) → ⊥ = λ is. false≢true is in
    wanted_as g k m n (file.Inst hash id) same no_log ∙ all (file.Inst hash id) (mail_there a b mail (file.Inst hash id) no_log there)

-- ---- each needed file is there

box_there : (m : MapMeaning) (disk : DiskState) (boxes : List MapBox) (logs : List (List BoxEntry)) → PassBoxes (files_of disk) m boxes logs → All (λ box. IsThere (disk (file.Box box.number box.generation))) boxes
box_there m disk [] logs passed = All-nil (λ (b : MapBox). IsThere (disk (file.Box b.number b.generation)))
box_there m disk (b ∷ bs) [] passed = absurd passed
box_there m disk (b ∷ bs) (l ∷ ls) passed =
    All-cons (λ (x : MapBox). IsThere (disk (file.Box x.number x.generation))) b bs (reads_there (disk (file.Box b.number b.generation)) passed.0.log.log.octets passed.0.log.log.there).0 (box_there m disk bs ls passed.1)

log_there : (g : ℕ) (n : MapMeaning) (store : List ℕ) (entries : List MapEntry) (logs : List (List BoxEntry)) (disk : DiskState) → n ≡ map_meaning store entries → OpensAt store g entries logs disk → (name : FileName) → IsLogName name → is_wanted g n name ≡ true → IsThere (disk name)
log_there g n store entries logs disk is o file.Root log wanted = let r = o.0.passed.map_log.root.log in (reads_there (disk file.Root) r.octets r.there).0
log_there g n store entries logs disk is o (file.Map i) log wanted =
    let r = o.0.passed.map_log in
    let same : r.generation ≡ i = o.1 ∙ sym (eqb-true i g wanted) in
    subst (λ (k : ℕ). IsThere (disk (file.Map k))) same (reads_there (disk (file.Map r.generation)) r.log.octets r.log.there).0
log_there g n store entries logs disk is o (file.Box number i) log wanted =
    let h = Any-from_list_any (λ (b : MapBox). (b.number == number) && (b.generation == i)) n.boxes wanted in
    let both = and_parts (h.1.number == number) (h.1.generation == i) h.4 in
    let own : h.1.number ≡ number = eqb-true h.1.number number both.0 in
    let generation : h.1.generation ≡ i = eqb-true h.1.generation i both.1 in
    let all = box_there (map_meaning store entries) disk (map_meaning store entries).boxes logs o.0.passed.boxes in
    let there : IsThere (disk (file.Box h.1.number h.1.generation)) =
    All-contains (λ (b : MapBox). IsThere (disk (file.Box b.number b.generation))) n.boxes h.1 (subst (λ (m : MapMeaning). All (λ box. IsThere (disk (file.Box box.number box.generation))) m.boxes) (sym is) all) (h.0, h.2, h.3) in
    subst (λ (k : ℕ). IsThere (disk (file.Box k i))) own (subst (λ (k : ℕ). IsThere (disk (file.Box h.1.number k))) generation there)
log_there g n store entries logs disk is o (file.Mail number) log wanted = absurd (false≢true log)
log_there g n store entries logs disk is o (file.Inst hash id) log wanted = absurd (false≢true log)

-- what was there is there, if it is needed
abbrev Kept : ℕ → MapMeaning → DiskState → DiskState → Type 0
Kept g m a b = (name : FileName) → is_wanted g m name ≡ true → IsThere (a name) → IsThere (b name)

kept_on : (g k : ℕ) (m n : MapMeaning) (store : List ℕ) (entries : List MapEntry) (logs : List (List BoxEntry)) (a b c : DiskState) → MeansSame m n → n ≡ map_meaning store entries → OpensAt store g entries logs c → SyncsMailNames b c → Kept k m a b → Kept g n a c
kept_on g k m n store entries logs a b c same is o mail kept = λ name wanted there. elim (cases_Bool (is_log name)) [
  | inl log ↦ log_there g n store entries logs c is o name log wanted
  | inr other ↦
      let no_log : IsLogName name → ⊥ = λ log. true≢false (sym log ∙ other) in
      there_synced (b name) (c name) (mail name no_log) (kept name (sym (wanted_as g k m n name same no_log) ∙ wanted) there)
]

-- ---- the disk

-- Of the disk that was swept logs were written anew, so that it opens with these, under a map log of this generation.
pub record IsWrittenDisk (g : ℕ) (m n : MapMeaning) (mid new : Option History) : Type 0 where
  pub same : MeansSame m n
  pub entries : List MapEntry
  pub logs : List (List BoxEntry)
  pub map_is : n ≡ map_meaning n.store entries
  pub opens : IfTold new (OpensAt n.store g entries logs)
  pub mail : Between SyncsMailNames mid new

pub swept_written : (g k : ℕ) (m n : MapMeaning) (old mid new : Option History) → IsWrittenDisk g m n mid new → Between (λ a b. AllWanted k m a → NoOthers g n b) mid new → NamesSynced g n old new → IsSwept k m old mid → IsSwept g n old new
swept_written g k m n old mid new w none names swept = record {
  reads = between-then _ SyncsMailNames _ old mid new (λ a b c carried mail. mail_as m n (files_of a) (files_of c) w.same (mail_on m (files_of a) b c mail carried)) swept.reads w.mail;
  only = between-on _ (AllWanted k m) (AllWanted g n) mid new (λ a b both all. all_wanted g k m n a b w.same both.0 (both.1 all) all) (between-both _ _ (λ a b. SyncsMailNames a b × (AllWanted k m a → NoOthers g n b)) mid new (λ a b mail gone. (mail, gone)) w.mail none) swept.only;
  kept = between-then (Kept k m) (λ b c. SyncsMailNames b c × OpensAt n.store g w.entries w.logs c) (Kept g n) old mid new
      (λ a b c kept both. kept_on g k m n n.store w.entries w.logs a b c w.same w.map_is both.1 both.0 kept) swept.kept
      (between-since SyncsMailNames _ (OpensAt n.store g w.entries w.logs) mid new (λ a b mail o. (mail, o)) w.mail w.opens);
  mail = fitted-then n old mid new (fitted_as m n old mid w.same swept.mail) (fitted_on n mid new w.mail);
  ends = ends_as m n new w.same (ends_on m mid new w.mail swept.ends);
  names = names;
}

-- names that are all synced, or as they were
pub names_synced : (g : ℕ) (n : MapMeaning) (old new : Option History) (R : DiskState → DiskState → Type 0) → Between R old new → IfTold new AreNamesSynced → NamesSynced g n old new
names_synced g n old new R between synced = between-since R _ AreNamesSynced old new (λ a b r all stray there away name. all name) between synced
