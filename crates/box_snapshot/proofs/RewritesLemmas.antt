-- Logs that were written anew: of a store itself, one behind another, and of a call that leaves the store's value but for its disk.
use Rattle.std.proofs.Common.{◌≡◌, ◌≢◌, ◌⊎◌, ◌↔◌, inl, inr, true, false, Result, Ok, Err, OnOk, Option, Some, None, refl, sym, ◌∙◌, ap, subst, arith}
use Rattle.std.specs.Prelude.{IsErrOf}
use Rattle.std.proofs.lemmas.Bool.{cases_Bool, cond-false, cond-true, true≢false}
use Rattle.disk_model.proofs.BetweenLemmas.{between-begins, between-map, between-then}
use Rattle.disk_model.proofs.MomentLemmas.{each_image-begins, each_image-map, each_image-then}
use Rattle.disk_model.proofs.NameLemmas.{same_name-apart, same_name-true}
use Rattle.disk_model.specs.Disk.{FileState, History, Between, EachImage, Grows, IfTold, IsImage, SameButFor, named, no_file, reading}
use Rattle.disk_model.specs.Name.{IsLogName, same_name}
use Rattle.disk_model.specs.declared.name.FileName.{FileName}
use Rattle.gate_log.specs.Log.{NamedButFor}
use Rattle.model_kept.proofs.KeptLemmas.{kept_begins, kept_then}
use Rattle.model_kept.specs.Kept.{MailIsKept}
use Rattle.model_lists.specs.Lists.{Lists}
use Rattle.model_meaning.proofs.SameMeaningLemmas.{means_along, means_itself}
use Rattle.model_meaning.specs.MapMeaning.{MapMeaning}
use Rattle.model_meaning.specs.SameMeaning.{MeansSame}
use Rattle.model_store.proofs.SettledLemmas.{settled_safe}
use Rattle.model_store.specs.Safe.{Safe}
use Rattle.model_store.specs.Settled.{IsSettledFor, Leaves}
use Rattle.store_core.specs.Drafts.{AreNamedButFor}
use Rattle.store_core.specs.Value.{StoreValue, indexes_of}
use Rattle.store_core.specs.declared.error.StepError.{StepError}
use Rattle.store_core.specs.declared.error.StepError.TheVariants as step_error
use Rattle.box_snapshot.specs.Rewrites.{AreNamesSynced, LeavesNoOldLogs, OnlyLogsInForce, Rewrites, SyncsMailNames}

-- ---- storage files and instances, and names

-- a name that is synced twice
named_twice : (f : FileState) → named (named f) ≡ named f
named_twice f = elim (cases_Bool f.is_there) [
  | inl there ↦
      let e : named f ≡ record f { is_name_loose = false } = cond-true f.is_there (record f { is_name_loose = false }) no_file there in
      let again : named (record f { is_name_loose = false }) ≡ record f { is_name_loose = false } = cond-true f.is_there (record f { is_name_loose = false }) no_file there in
      ap named e ∙ again ∙ sym e
  | inr gone ↦
      let e : named f ≡ no_file = cond-false f.is_there (record f { is_name_loose = false }) no_file gone in
      ap named e ∙ sym e
]

-- it is synced then
named_firm : (f : FileState) → (named f).is_name_loose ≡ false
named_firm f = elim (cases_Bool f.is_there) [
  | inl there ↦ ap (λ (g : FileState). g.is_name_loose) (cond-true f.is_there (record f { is_name_loose = false }) no_file there)
  | inr gone ↦ ap (λ (g : FileState). g.is_name_loose) (cond-false f.is_there (record f { is_name_loose = false }) no_file gone)
]

same_or_named : (f g h : FileState) → (g ≡ f) ⊎ (g ≡ named f) → (h ≡ g) ⊎ (h ≡ named g) → (h ≡ f) ⊎ (h ≡ named f)
same_or_named f g h (inl a) (inl b) = inl (b ∙ a)
same_or_named f g h (inl a) (inr b) = inr (b ∙ ap named a)
same_or_named f g h (inr a) (inl b) = inr (b ∙ a)
same_or_named f g h (inr a) (inr b) = inr (b ∙ (ap named a ∙ named_twice f))

pub mail_itself : (h : Option History) → Between SyncsMailNames h h
mail_itself h = between-begins SyncsMailNames h (λ disk name other. inl refl)

pub mail_then : (old now new : Option History) → Between SyncsMailNames old now → Between SyncsMailNames now new → Between SyncsMailNames old new
mail_then old now new first second = between-then SyncsMailNames SyncsMailNames SyncsMailNames old now new (λ a b c f s name other. same_or_named (a name) (b name) (c name) (f name other) (s name other)) first second

-- what is no log is another file than a log
other_than_log : (name log : FileName) → IsLogName log → (IsLogName name → ⊥) → name ≢ log
other_than_log name log is other same = other (subst IsLogName (sym same) is)

-- where only one log has changed, or three, or one with a sync of all names
pub mail_beside : (log : FileName) (old new : Option History) → IsLogName log → SameButFor log old new → Between SyncsMailNames old new
mail_beside log old new is others = between-map (λ a b. (other : FileName) → other ≢ log → b other ≡ a other) SyncsMailNames old new (λ a b same name other. inl (same name (other_than_log name log is other))) others

pub mail_named : (log : FileName) (old new : Option History) → IsLogName log → NamedButFor log old new → Between SyncsMailNames old new
mail_named log None new is others = others
mail_named log (Some old) None is others = absurd others
mail_named log (Some old) (Some new) is others = λ name other. inr (others name (other_than_log name log is other))

pub mail_named_three : (first second third : FileName) (old new : Option History) → IsLogName first → IsLogName second → IsLogName third → Between (AreNamedButFor first second third) old new → Between SyncsMailNames old new
mail_named_three first second third old new is also too others =
    between-map (AreNamedButFor first second third) SyncsMailNames old new (λ a b same name other. inr (same name (other_than_log name first is other) (other_than_log name second also other) (other_than_log name third too other))) others

-- where all names but one were synced, and this one is, all are
pub names_after : (log : FileName) (old new : Option History) → NamedButFor log old new → IfTold new (λ now. (now log).is_name_loose ≡ false) → IfTold new AreNamesSynced
names_after log None new others own = subst (λ (h : Option History). IfTold h AreNamesSynced) (sym others) tt
names_after log (Some old) None others own = tt
names_after log (Some old) (Some new) others own = λ other. elim (cases_Bool (same_name other log)) [
  | inl same ↦ ap (λ (n : FileName). (new.now n).is_name_loose) (same_name-true other log same) ∙ own
  | inr apart ↦ ap (λ (f : FileState). f.is_name_loose) (others other (same_name-apart other log apart)) ∙ named_firm (old.now other)
]

-- where all are synced and only one file has changed, whose name is, all are
pub names_beside : (log : FileName) (old new : Option History) → SameButFor log old new → IfTold old AreNamesSynced → IfTold new (λ now. (now log).is_name_loose ≡ false) → IfTold new AreNamesSynced
names_beside log None new others synced own = subst (λ (h : Option History). IfTold h AreNamesSynced) (sym others) tt
names_beside log (Some old) None others synced own = tt
names_beside log (Some old) (Some new) others synced own = λ other. elim (cases_Bool (same_name other log)) [
  | inl same ↦ ap (λ (n : FileName). (new.now n).is_name_loose) (same_name-true other log same) ∙ own
  | inr apart ↦ ap (λ (f : FileState). f.is_name_loose) (others other (same_name-apart other log apart)) ∙ synced other
]

-- one file has changed with a sync of all names, and then only it
pub named_then : (name : FileName) (old now new : Option History) → NamedButFor name old now → SameButFor name now new → NamedButFor name old new
named_then name None now new first second = subst (λ (h : Option History). SameButFor name h new) first second
named_then name (Some old) None new first second = absurd first
named_then name (Some old) (Some now) None first second = absurd second
named_then name (Some old) (Some now) (Some new) first second = λ other apart. second other apart ∙ first other apart

-- ---- images

-- each image of a settled disk is safe
images_safe : (lists : Lists) (h : Option History) → IsSettledFor lists h → EachImage (λ _ image. Safe image lists) h h
images_safe lists None settled = absurd settled
images_safe lists (Some h) settled = each_image-begins (λ _ image. Safe image lists) (Some h) (λ moment image is. settled_safe h.now lists image settled is)

-- images that are safe for the same lists
pub safe_always : (lists : Lists) (old new : Option History) → Leaves lists lists old new → EachImage (λ _ image. Safe image lists) old new
safe_always lists old new leaves = each_image-map (λ _ image. Safe image lists ⊎ Safe image lists) (λ _ image. Safe image lists) old new (λ moment image s. elim s [ inl x ↦ x | inr x ↦ x ]) leaves

-- ---- of a store itself, and one behind another

pub rewrites_itself : {D : Type 0} (history : D → Option History) (s : StoreValue D) → Rewrites history s s
rewrites_itself history s = record {
  means = means_itself s.map;
  indexes = refl;
  same = refl;
  any_moment = λ lists settled. images_safe lists (history s.disk) settled;
  mail_stays = λ m. kept_begins m (history s.disk);
  grows = omega arith;
  settled = λ runs lists settled. settled;
  mail = λ runs. mail_itself (history s.disk);
  names = λ runs. inl refl;
}

names_then : {D : Type 0} (history : D → Option History) (a b c : StoreValue D) → (b ≡ a) ⊎ IfTold (history b.disk) AreNamesSynced → (c ≡ b) ⊎ IfTold (history c.disk) AreNamesSynced → (c ≡ a) ⊎ IfTold (history c.disk) AreNamesSynced
names_then history a b c first (inr synced) = inr synced
names_then history a b c (inl same) (inl still) = inl (still ∙ same)
names_then history a b c (inr synced) (inl still) = inr (subst (λ (s : StoreValue _). IfTold (history s.disk) AreNamesSynced) (sym still) synced)

pub rewrites_then : {D : Type 0} (history : D → Option History) (a b c : StoreValue D) → IfTold (history b.disk) (λ disk. IsImage disk (λ name. reading (disk name))) → b.stopped ≡ false → Rewrites history a b → Rewrites history b c → Rewrites history a c
rewrites_then history a b c own runs first second = record {
  means = means_along a.map b.map c.map first.means second.means;
  indexes = second.indexes ∙ first.indexes;
  same = second.same ∙ ap (λ (s : StoreValue _). record s { disk = c.disk; root_log = c.root_log; map_log = c.map_log; map = c.map; boxes = c.boxes; stopped = c.stopped }) first.same;
  any_moment = λ lists settled. each_image-then (λ _ image. Safe image lists) (history a.disk) (history b.disk) (history c.disk) (first.any_moment lists settled) (second.any_moment lists (first.settled runs lists settled));
  mail_stays = λ m. kept_then m (history a.disk) (history b.disk) (history c.disk) own (first.mail_stays m) (second.mail_stays m);
  grows = let f = first.grows in let s = second.grows in omega (arith, f, s);
  settled = λ on lists settled. second.settled on lists (first.settled runs lists settled);
  mail = λ on. mail_then (history a.disk) (history b.disk) (history c.disk) (first.mail runs) (second.mail on);
  names = λ on. names_then history a b c (first.names runs) (second.names on);
}

-- ---- a call that leaves the store's value but for its disk

abbrev pub LeavesValue : {D : Type 0} → StoreValue D → StoreValue D → Type 0
LeavesValue old new = new ≡ record old { disk = new.disk; stopped = new.stopped }

pub value_rewrites : {D : Type 0} (history : D → Option History) (old new : StoreValue D) → LeavesValue old new
    → ((lists : Lists) → IsSettledFor lists (history old.disk) → Leaves lists lists (history old.disk) (history new.disk))
    → ((m : MapMeaning) → MailIsKept m (history old.disk) (history new.disk)) → Grows (history old.disk) (history new.disk)
    → (new.stopped ≡ false → (lists : Lists) → IsSettledFor lists (history old.disk) → IsSettledFor lists (history new.disk))
    → (new.stopped ≡ false → Between SyncsMailNames (history old.disk) (history new.disk))
    → (new.stopped ≡ false → (new ≡ old) ⊎ IfTold (history new.disk) AreNamesSynced) → Rewrites history old new
value_rewrites history old new same images stays grows settled mail names = record {
  means = subst (λ (m : MapMeaning). MeansSame old.map m) (sym (ap (λ (s : StoreValue _). s.map) same)) (means_itself old.map);
  indexes = ap (λ (s : StoreValue _). indexes_of s.boxes) same;
  same = same ∙ ap (λ (s : StoreValue _). record old { disk = new.disk; root_log = s.root_log; map_log = s.map_log; map = s.map; boxes = s.boxes; stopped = new.stopped }) (sym same);
  any_moment = λ lists is. safe_always lists (history old.disk) (history new.disk) (images lists is);
  mail_stays = stays;
  grows = grows;
  settled = settled;
  mail = mail;
  names = names;
}

-- Of what a call answers that takes memory: where it didn't stop the store it did this, or nothing.
not_stopped : {D T : Type 0} (old new : StoreValue D) (result : Result T StepError) (P : Type 0) → IsErrOf result step_error.Stopped ↔ (new.stopped ≡ true) → (IsErrOf result step_error.NoMemory → new ≡ old) → OnOk result P → new.stopped ≡ false → (new ≡ old) ⊎ P
not_stopped old new (Ok x) P stopped memory did runs = inr did
not_stopped old new (Err step_error.Stopped) P stopped memory did runs = absurd (true≢false (sym (stopped.0 refl) ∙ runs))
not_stopped old new (Err step_error.NoMemory) P stopped memory did runs = inl (memory refl)

-- a call that did nothing, or what is said of its Ok
pub call_rewrites : {D T : Type 0} (history : D → Option History) (old new : StoreValue D) (result : Result T StepError) → LeavesValue old new
    → ((lists : Lists) → IsSettledFor lists (history old.disk) → Leaves lists lists (history old.disk) (history new.disk))
    → ((m : MapMeaning) → MailIsKept m (history old.disk) (history new.disk)) → Grows (history old.disk) (history new.disk)
    → IsErrOf result step_error.Stopped ↔ (new.stopped ≡ true) → (IsErrOf result step_error.NoMemory → new ≡ old)
    → OnOk result ((lists : Lists) → IsSettledFor lists (history old.disk) → IsSettledFor lists (history new.disk))
    → OnOk result (Between SyncsMailNames (history old.disk) (history new.disk)) → OnOk result (IfTold (history new.disk) AreNamesSynced) → Rewrites history old new
call_rewrites history old new result same images stays grows stopped memory settled mail names =
    value_rewrites history old new same images stays grows
    (λ runs. elim (not_stopped old new result _ stopped memory settled runs) [
      | inl still ↦ subst (λ (s : StoreValue _). (lists : Lists) → IsSettledFor lists (history old.disk) → IsSettledFor lists (history s.disk)) (sym still) (λ lists is. is)
      | inr did ↦ did
    ])
    (λ runs. elim (not_stopped old new result _ stopped memory mail runs) [
      | inl still ↦ subst (λ (s : StoreValue _). Between SyncsMailNames (history old.disk) (history s.disk)) (sym still) (mail_itself (history old.disk))
      | inr did ↦ did
    ])
    (λ runs. not_stopped old new result _ stopped memory names runs)

-- ---- logs that are not needed

pub only_itself : {D : Type 0} (history : D → Option History) (s : StoreValue D) → LeavesNoOldLogs history s s
only_itself history s = between-begins (λ a b. OnlyLogsInForce s a → OnlyLogsInForce s b) (history s.disk) (λ disk only. only)

pub only_then : {D : Type 0} (history : D → Option History) (a b c : StoreValue D) → LeavesNoOldLogs history a b → LeavesNoOldLogs history b c → LeavesNoOldLogs history a c
only_then history a b c first second =
    between-then (λ x y. OnlyLogsInForce a x → OnlyLogsInForce b y) (λ x y. OnlyLogsInForce b x → OnlyLogsInForce c y) (λ x y. OnlyLogsInForce a x → OnlyLogsInForce c y) (history a.disk) (history b.disk) (history c.disk)
    (λ x y z f s only. s (f only)) first second
