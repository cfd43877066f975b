-- The instances of a message that was saved are the first of their octets.
use Rattle.std.specs.Prelude.{◌≡◌, ◌-◌, ℕ, All, Bool, true, false, if◌then◌else◌, List, [], ◌∷◌, get_or, option_map, Option, Some, None}
use Rattle.std.proofs.Common.{refl, sym, ◌∙◌, subst}
use Rattle.std.proofs.lemmas.List.Elements.{All-contains, All-map}
use Rattle.disk_model.specs.Disk.{DiskState, History, IfTold, reading}
use Rattle.disk_model.specs.declared.name.FileName.TheVariants.{Inst}
use Rattle.disk_model.proofs.BetweenLemmas.{between-on}
use Rattle.disk_model.proofs.MomentLemmas.{if_told-map}
use Rattle.mdbox_base.specs.declared.entries.InstRow.{InstRow}
use Rattle.mdbox_base.specs.declared.ids.InstId.{InstId}
use Rattle.model_meaning.specs.MapMeaning.{MapMeaning, named_instances}
use Rattle.model_octets.proofs.SearchLemmas.{found_one}
use Rattle.save_instances.specs.Attaching.{found_let_go}
use Rattle.sis_store.specs.Instances.{has_id, holders_in, instance_in, with_holders}
use Rattle.sis_store.specs.declared.instance.KnownInstance.{KnownInstance}
use Rattle.store_core.specs.StoreInstances.{IsFirstKnown, IsKnownRow, IsOtherThan}
use Rattle.mail_save.proofs.MailFileLemmas.{synced_reads}
use Rattle.mail_save.specs.MailFiles.{ReadsSameMail}
use Rattle.tasks_alone.specs.DeliveryAlone.{AreFirstNamed}

-- these instances are the first of their octets among the known ones
abbrev pub AreFirstKnown : List InstRow → List KnownInstance → Option History → Type 0
AreFirstKnown rows known history = IfTold history (λ now. All (IsFirstKnown known now) rows)

-- held by others, an instance is known still
first_with : (known : List KnownInstance) (id : InstId) (holders : ℕ) (disk : DiskState) (row : InstRow) → IsFirstKnown known disk row → IsFirstKnown (with_holders id holders known) disk row
first_with known id holders disk row h =
    All-map (λ (k : KnownInstance). IsOtherThan disk row k.row) (λ (k : KnownInstance). if has_id id k then record k { holders = holders } else k) known (λ n k lt. by_test (has_id id (get_or known n k)) (get_or known n k) (h n k lt))
  where
    by_test : (b : Bool) (k : KnownInstance) → IsOtherThan disk row k.row → IsOtherThan disk row (if b then record k { holders = holders } else k).row
    by_test true k o = o
    by_test false k o = o

first_let_go : (found : List InstRow) (known : List KnownInstance) (disk : DiskState) (row : InstRow) → IsFirstKnown known disk row → IsFirstKnown (found_let_go found known) disk row
first_let_go [] known disk row h = h
first_let_go (f ∷ found) known disk row h = first_let_go found (with_holders f.id (holders_in f.id known - 1) known) disk row (first_with known f.id (holders_in f.id known - 1) disk row h)

first_on : (known : List KnownInstance) (a b : DiskState) (row : InstRow) → ((hash id : List ℕ) → reading (b (Inst hash id)) ≡ reading (a (Inst hash id))) → IsFirstKnown known a row → IsFirstKnown known b row
first_on known a b row reads h = λ n k lt kind before same. h n k lt kind before (sym (reads (get_or known n k).row.hash.0 (get_or known n k).row.id.0) ∙ (same ∙ reads row.hash.0 row.id.0))

-- an event that writes to none
pub firsts_on : (rows : List InstRow) (known : List KnownInstance) (before after : Option History) → ReadsSameMail before after → AreFirstKnown rows known before → AreFirstKnown rows known after
firsts_on rows known before after same told =
    between-on _ (λ (now : DiskState). All (IsFirstKnown known now) rows) (λ (now : DiskState). All (IsFirstKnown known now) rows) before after (λ a b s h. λ n row lt. first_on known a b (get_or rows n row) (λ hash id. synced_reads (a (Inst hash id)) (b (Inst hash id)) (s.1 hash id)) (h n row lt)) same told

pub firsts_let_go : (rows found : List InstRow) (known : List KnownInstance) (history : Option History) → AreFirstKnown rows known history → AreFirstKnown rows (found_let_go found known) history
firsts_let_go rows found known history told =
    if_told-map (λ (now : DiskState). All (IsFirstKnown known now) rows) (λ (now : DiskState). All (IsFirstKnown (found_let_go found known) now) rows) history (λ now h. λ n row lt. first_let_go found known now (get_or rows n row) (h n row lt)) told

-- what is named is known
known_other : (known : List KnownInstance) (disk : DiskState) (row other : InstRow) → IsKnownRow known other → IsFirstKnown known disk row → IsOtherThan disk row other
known_other known disk row other is first = by_found (instance_in other.id known) refl is
  where
    by_found : (o : Option KnownInstance) → instance_in other.id known ≡ o → option_map (λ k. k.row) o ≡ Some other → IsOtherThan disk row other
    by_found None e f = absurd (let k : None ≡ Some other = f in cc k)
    by_found (Some k) e f =
        let same : k.row ≡ other = cc f in
        let one = found_one (has_id other.id) known k e in
        subst (λ (r : InstRow). IsOtherThan disk row r) same (All-contains (λ (x : KnownInstance). IsOtherThan disk row x.row) known k first one.0)

pub firsts_named : (rows : List InstRow) (known : List KnownInstance) (m : MapMeaning) (history : Option History) → All (IsKnownRow known) (named_instances m) → AreFirstKnown rows known history → IfTold history (AreFirstNamed rows m)
firsts_named rows known m history named told =
    if_told-map (λ (now : DiskState). All (IsFirstKnown known now) rows) (AreFirstNamed rows m) history
    (λ now h. λ n row lt j other within. known_other known now (get_or rows n row) (get_or (named_instances m) j other) (named j other within) (h n row lt)) told
