-- What events leave to a task that compares instances, or has found some.
use Rattle.store_core.proofs.Common.{AllPairs, option_map, option_map_or, inl, inr, ◌≡◌, ◌≢◌, ℕ, true, false, List, [], get_or, Option, Some, None, All, map, refl, sym, ◌∙◌, ap, subst, arith, All-weaker, same_Some, DiskState, History, Between, IfTold, SameButFor, named, reading, FileName}
use Rattle.store_core.proofs.Common.{between-map, between-on, if_told-map, NamedButFor, InstRow, Hash, InstId, MapMeaning, MapRecord, InstancesValue, HasDrawnNumber, instance_in, is_of_kind, with_holders, instance_file, KnownInstance, OthersAreNamed, KeepsFirm, KeepsMail, AreInstancesFirm}
use Rattle.store_core.proofs.Common.{HasKnownInstances, IsFirmInstance, IsFirstKnown, IsKnownRow, IsOtherThan, StoreValue}
use Rattle.std.specs.Prelude.{IsSome}
use Rattle.disk_model.specs.Disk.{IsIdle}
use Rattle.disk_model.specs.declared.name.FileName.TheVariants as file
use Rattle.disk_model.proofs.BetweenLemmas.{between-begins, between-then}
use Rattle.disk_model.proofs.MomentLemmas.{if_told-both}
use Rattle.mdbox_base.specs.declared.ids.StoreId.{StoreId}
use Rattle.model_meaning.specs.MapFits.{AgreesOn}
use Rattle.sis_store.specs.Comparing.{IsUnlikeCompared, IsUnlikeUpTo}
use Rattle.sis_store.specs.Instances.{IsInstanceKnown, candidate_in, is_id_past}
use Rattle.sis_store.specs.OnDisk.{file_of}
use Rattle.sis_store.proofs.CandidateLemmas.{candidate_row, candidate_first}
use Rattle.sis_store.proofs.IdLemmas.{Rise}
use Rattle.store_core.specs.Keeping.{KeepsInstances, NameTheSame, ReadsInstances, SyncsInstances, origin_and_names}
use Rattle.store_core.specs.StoreInstances.{IsFirstWith}
use Rattle.store_core.proofs.InstanceAppendLemmas.{parts_of}
use Rattle.store_core.proofs.KnownInstanceLemmas.{all_held, firm_same, mail_is_none, row_held}
use Rattle.store_core.proofs.MailChangeLemmas.{named_reads}

-- ---- what is read

pub reads_idle : (before after : Option History) → IsIdle before after → Between ReadsInstances before after
reads_idle before after idle = between-map (λ a b. b ≡ a) ReadsInstances before after (λ a b e hash id. ap (λ (d : DiskState). reading (d (file.Inst hash id))) e) idle.same

pub reads_mail : (before after : Option History) → KeepsMail before after → Between ReadsInstances before after
reads_mail before after kept =
    between-map (λ a b. ((number : ℕ) → b (file.Mail number) ≡ a (file.Mail number)) × ((hash id : List ℕ) → b (file.Inst hash id) ≡ a (file.Inst hash id))) ReadsInstances before after (λ a b m hash id. ap reading (m.1 hash id)) kept

pub reads_placed : (number : ℕ) (before after : Option History) → SameButFor (file.Mail number) before after → Between ReadsInstances before after
reads_placed number before after same =
    between-map (λ a b. (other : FileName) → other ≢ file.Mail number → b other ≡ a other) ReadsInstances before after (λ a b s hash id. ap reading (s (file.Inst hash id) (mail_is_none number hash id))) same

pub reads_made : (number : ℕ) (before after : Option History) → OthersAreNamed (file.Mail number) before after → Between ReadsInstances before after
reads_made number before after same =
    between-map (λ a b. (other : FileName) → other ≢ file.Mail number → b other ≡ named (a other)) ReadsInstances before after (λ a b s hash id. ap reading (s (file.Inst hash id) (mail_is_none number hash id)) ∙ named_reads (a (file.Inst hash id))) same

pub reads_logs : (number generation : ℕ) (before after : Option History) → NamedButFor (file.Box number generation) before after → Between ReadsInstances before after
reads_logs number generation None after same = same
reads_logs number generation (Some before) None same = absurd same
reads_logs number generation (Some before) (Some after) same = λ hash id.
    ap reading (same (file.Inst hash id) (λ e. absurd (let w : file.Inst hash id ≡ file.Box number generation = e in cc w))) ∙ named_reads (before.now (file.Inst hash id))

-- ---- names that are synced at the most

pub syncs_idle : (before after : Option History) → IsIdle before after → Between SyncsInstances before after
syncs_idle before after idle = between-map (λ a b. b ≡ a) SyncsInstances before after (λ a b e hash id. inl (ap (λ (d : DiskState). d (file.Inst hash id)) e)) idle.same

pub syncs_mail : (before after : Option History) → KeepsMail before after → Between SyncsInstances before after
syncs_mail before after kept =
    between-map (λ a b. ((number : ℕ) → b (file.Mail number) ≡ a (file.Mail number)) × ((hash id : List ℕ) → b (file.Inst hash id) ≡ a (file.Inst hash id))) SyncsInstances before after (λ a b m hash id. inl (m.1 hash id)) kept

pub syncs_placed : (number : ℕ) (before after : Option History) → SameButFor (file.Mail number) before after → Between SyncsInstances before after
syncs_placed number before after same =
    between-map (λ a b. (other : FileName) → other ≢ file.Mail number → b other ≡ a other) SyncsInstances before after (λ a b s hash id. inl (s (file.Inst hash id) (mail_is_none number hash id))) same

pub syncs_made : (number : ℕ) (before after : Option History) → OthersAreNamed (file.Mail number) before after → Between SyncsInstances before after
syncs_made number before after same =
    between-map (λ a b. (other : FileName) → other ≢ file.Mail number → b other ≡ named (a other)) SyncsInstances before after (λ a b s hash id. inr (s (file.Inst hash id) (mail_is_none number hash id))) same

pub syncs_logs : (number generation : ℕ) (before after : Option History) → NamedButFor (file.Box number generation) before after → Between SyncsInstances before after
syncs_logs number generation None after same = same
syncs_logs number generation (Some before) None same = absurd same
syncs_logs number generation (Some before) (Some after) same = λ hash id. inr (same (file.Inst hash id) (λ e. absurd (let w : file.Inst hash id ≡ file.Box number generation = e in cc w)))

-- ---- instances that are as they were

-- reads of known instances
abbrev Reads : List KnownInstance → DiskState → DiskState → Type 0
Reads known a b = (row : InstRow) → IsKnownRow known row → reading (b (instance_file row)) ≡ reading (a (instance_file row))

-- those that were first are so
abbrev Firsts : List KnownInstance → List KnownInstance → DiskState → DiskState → Type 0
Firsts old new a b = (row : InstRow) → IsKnownRow old row → IsFirstKnown old a row → IsFirstKnown new b row

abbrev pub Unlike : StoreId → Hash → ℕ → List ℕ → Option InstId → ℕ → DiskState → InstRow → Type 0
Unlike store hash size octets after drawn disk row = is_of_kind hash size row ≡ true → is_id_past after row.id ≡ false → HasDrawnNumber store drawn row.id → reading (disk (instance_file row)) ≢ Some octets

first_same : (known : List KnownInstance) (a b : DiskState) (row : InstRow) → ReadsInstances a b → IsFirstKnown known a row → IsFirstKnown known b row
first_same known a b row reads first = λ i d lt kind earlier e.
    first i d lt kind earlier (sym (reads (get_or known i d).row.hash.0 (get_or known i d).row.id.0) ∙ e ∙ reads row.hash.0 row.id.0)

pub kept_same : {D : Type 0} → (old new : StoreValue D) (before after : Option History) → new.instances ≡ old.instances → Between ReadsInstances before after → KeepsFirm old new before after → KeepsInstances old new before after
kept_same old new before after is reads firm =
    let known : new.instances.known ≡ old.instances.known = ap (λ (i : InstancesValue). i.known) is in
    let highest : new.instances.highest ≡ old.instances.highest = ap (λ (i : InstancesValue). i.highest) is in
    record {
      store = ap (λ (i : InstancesValue). i.store) is;
      drawn = omega (arith, highest);
      known = λ row k. subst (λ (ks : List KnownInstance). IsKnownRow ks row) (sym known) k;
      reads = between-map ReadsInstances (Reads old.instances.known) before after (λ a b r row k. r row.hash.0 row.id.0) reads;
      first = subst (λ (ks : List KnownInstance). Between (Firsts old.instances.known ks) before after) (sym known)
          (between-map ReadsInstances (Firsts old.instances.known old.instances.known) before after (λ a b r row k f. first_same old.instances.known a b row r f) reads);
      compared = λ hash size octets last drawn le unlike. subst (λ (ks : List KnownInstance). IsUnlikeCompared old.instances.store hash size octets last drawn ks after) (sym known)
          (between-on ReadsInstances (λ disk. All (λ k. Unlike old.instances.store hash size octets last drawn disk k.row) old.instances.known) (λ disk. All (λ k. Unlike old.instances.store hash size octets last drawn disk k.row) old.instances.known) before after
          (λ a b r u. All-weaker (λ (k : KnownInstance). Unlike old.instances.store hash size octets last drawn a k.row) (λ (k : KnownInstance). Unlike old.instances.store hash size octets last drawn b k.row) (λ k h of past has e. h of past has (sym (r k.row.hash.0 k.row.id.0) ∙ e)) old.instances.known u) reads unlike);
      firm = firm;
    }

-- one event behind another
pub firm_both : {D : Type 0} → (old now new : StoreValue D) (before between after : Option History) → KeepsFirm old now before between → KeepsFirm now new between after → KeepsFirm old new before after
firm_both old now new before between after p q = record {
  stays = between-then (λ a b. AreInstancesFirm old.instances.known old.map a → AreInstancesFirm now.instances.known now.map b) (λ a b. AreInstancesFirm now.instances.known now.map a → AreInstancesFirm new.instances.known new.map b)
      (λ a b. AreInstancesFirm old.instances.known old.map a → AreInstancesFirm new.instances.known new.map b) before between after (λ a b c r s firm. s (r firm)) p.stays q.stays;
}

pub kept_both : {D : Type 0} → (old now new : StoreValue D) (before between after : Option History) → KeepsInstances old now before between → KeepsInstances now new between after → KeepsInstances old new before after
kept_both old now new before between after p q = record {
  store = q.store ∙ p.store;
  drawn = let a = p.drawn in let b = q.drawn in omega (arith, a, b);
  known = λ row k. q.known row (p.known row k);
  reads = between-then (Reads old.instances.known) (Reads now.instances.known) (Reads old.instances.known) before between after (λ a b c r s row k. s row (p.known row k) ∙ r row k) p.reads q.reads;
  first = between-then (Firsts old.instances.known now.instances.known) (Firsts now.instances.known new.instances.known) (Firsts old.instances.known new.instances.known) before between after (λ a b c r s row k f. s row (p.known row k) (r row k f)) p.first q.first;
  compared = λ hash size octets last drawn le unlike.
      let up = p.drawn in
      let once : IsUnlikeCompared now.instances.store hash size octets last drawn now.instances.known between = subst (λ (s : StoreId). IsUnlikeCompared s hash size octets last drawn now.instances.known between) (sym p.store) (p.compared hash size octets last drawn le unlike) in
      subst (λ (s : StoreId). IsUnlikeCompared s hash size octets last drawn new.instances.known after) p.store (q.compared hash size octets last drawn (omega (arith, le, up)) once);
  firm = firm_both old now new before between after p.firm q.firm;
}

-- where nothing happened
pub kept_none : {D : Type 0} → (store : StoreValue D) (history : Option History) → KeepsInstances store store history history
kept_none store history =
    kept_same store store history history refl (between-begins ReadsInstances history (λ disk hash id. refl)) (record { stays = between-begins (λ a b. AreInstancesFirm store.instances.known store.map a → AreInstancesFirm store.instances.known store.map b) history (λ disk firm. firm) })

-- what was found is found
pub found_kept : {D : Type 0} → (old new : StoreValue D) (before after : Option History) (octets : List ℕ) (row : InstRow) → KeepsInstances old new before after → IsFirstWith octets row old.instances.known before → IsFirstWith octets row new.instances.known after
found_kept old new before after octets row k f = record {
  is_known = k.known row f.is_known;
  reads = between-on (Reads old.instances.known) (λ now. reading (now (instance_file row)) ≡ Some octets) (λ now. reading (now (instance_file row)) ≡ Some octets) before after (λ a b r e. r row f.is_known ∙ e) k.reads f.reads;
  first = between-on (Firsts old.instances.known new.instances.known) (λ now. IsFirstKnown old.instances.known now row) (λ now. IsFirstKnown new.instances.known now row) before after (λ a b r e. r row f.is_known e) k.first f.first;
}

-- ---- holders

pub kept_held : {D : Type 0} → (v : StoreValue D) (h : Option History) (id : InstId) (holders : ℕ) → KeepsInstances v (record v { instances = record v.instances { known = with_holders id holders v.instances.known } }) h h
kept_held v h id holders = record {
  store = refl;
  drawn = omega arith;
  known = λ row k. row_held id row.id holders v.instances.known ∙ k;
  reads = between-begins (Reads v.instances.known) h (λ disk row k. refl);
  first = between-begins (Firsts v.instances.known (with_holders id holders v.instances.known)) h (λ disk row k f. all_held (IsOtherThan disk row) id holders v.instances.known f);
  compared = λ hash size octets last drawn le unlike.
      if_told-map (λ disk. All (λ k. Unlike v.instances.store hash size octets last drawn disk k.row) v.instances.known) (λ disk. All (λ k. Unlike v.instances.store hash size octets last drawn disk k.row) (with_holders id holders v.instances.known)) h
      (λ disk a. all_held (Unlike v.instances.store hash size octets last drawn disk) id holders v.instances.known a) unlike;
  firm = record { stays = between-begins (λ a b. AreInstancesFirm v.instances.known v.map a → AreInstancesFirm (with_holders id holders v.instances.known) v.map b) h (λ disk firm. all_held (IsFirmInstance v.map disk) id holders v.instances.known firm) };
}

pub kept_holding : {D : Type 0} → (H : D → Option History) (v now : StoreValue D) (instances : InstancesValue) (id : InstId) (holders : ℕ) → v ≡ now → instances ≡ record v.instances { known = with_holders id holders v.instances.known } → KeepsInstances now (record v { instances = instances }) (H now.disk) (H v.disk)
kept_holding H v now instances id holders same is =
    subst (λ (n : StoreValue _). KeepsInstances n (record v { instances = instances }) (H n.disk) (H v.disk)) same
    (subst (λ (i : InstancesValue). KeepsInstances v (record v { instances = i }) (H v.disk) (H v.disk)) (sym is) (kept_held v (H v.disk) id holders))

-- ---- a call that reads, or does nothing

pub names_same : (m n : MapMeaning) → n ≡ m → NameTheSame m n
names_same m n same = ap (λ (x : MapMeaning). map origin_and_names x.records) same

pub kept_read : {D : Type 0} → (H : D → Option History) (v now w : StoreValue D) → v ≡ now → w.instances ≡ v.instances → w.map ≡ v.map → IsIdle (H v.disk) (H w.disk) → KeepsInstances now w (H now.disk) (H w.disk)
kept_read H v now w same is map_is idle =
    subst (λ (n : StoreValue _). KeepsInstances n w (H n.disk) (H w.disk)) same
    (kept_same v w (H v.disk) (H w.disk) is (reads_idle (H v.disk) (H w.disk) idle) (firm_same v w (H v.disk) (H w.disk) is (names_same v.map w.map map_is) (syncs_idle (H v.disk) (H w.disk) idle)))

pub kept_untouched : {D : Type 0} → (H : D → Option History) (v now w : StoreValue D) → v ≡ now → w.instances ≡ v.instances → w.map ≡ v.map → H w.disk ≡ H v.disk → KeepsInstances now w (H now.disk) (H w.disk)
kept_untouched H v now w same is map_is untouched =
    subst (λ (n : StoreValue _). KeepsInstances n w (H n.disk) (H w.disk)) same
    (subst (λ (h : Option History). KeepsInstances v w (H v.disk) h) (sym untouched)
    (kept_same v w (H v.disk) (H v.disk) is (between-begins ReadsInstances (H v.disk) (λ disk hash id. refl))
    (firm_same v w (H v.disk) (H v.disk) is (names_same v.map w.map map_is) (between-begins SyncsInstances (H v.disk) (λ disk hash id. inl refl)))))

-- ---- candidates

pub known_file : (known : List KnownInstance) (row : InstRow) → IsKnownRow known row → IsInstanceKnown row.id known × (file_of row.id known ≡ instance_file row)
known_file known row is = by (instance_in row.id known) is
  where
    by : (o : Option KnownInstance) → option_map (λ k. k.row) o ≡ Some row → IsSome o × (file.Inst (option_map_or (λ k. k.row.hash.0) o []) row.id.0 ≡ file.Inst row.hash.0 row.id.0)
    by None e = absurd (let w : None ≡ Some row = e in cc w)
    by (Some k) e = (refl, ap (λ (r : InstRow). file.Inst r.hash.0 row.id.0) (same_Some _ _ e))

pub candidate_found : (hash : Hash) (size : ℕ) (octets : List ℕ) (after : Option InstId) (id : InstId) (known : List KnownInstance) (history : Option History) → Rise known → IsUnlikeUpTo hash size octets after known history → candidate_in hash size after known ≡ Some id
    → IfTold history (λ now. reading (now (file_of id known)) ≡ Some octets) → IsFirstWith octets (record { hash = hash; id = id; size = size }) known history
candidate_found hash size octets after id known history rise unlike is has =
    let row : InstRow = record { hash = hash; id = id; size = size } in
    let k : IsKnownRow known row = candidate_row hash size after id known rise is in
    let name : file_of id known ≡ instance_file row = (known_file known row k).1 in
    record {
      is_known = k;
      reads = if_told-map (λ now. reading (now (file_of id known)) ≡ Some octets) (λ now. reading (now (instance_file row)) ≡ Some octets) history (λ disk e. ap (λ (n : FileName). reading (disk n)) (sym name) ∙ e) has;
      first = if_told-both (λ disk. All (λ x. is_of_kind hash size x.row ≡ true → is_id_past after x.row.id ≡ false → reading (disk (instance_file x.row)) ≢ Some octets) known) (λ now. reading (now (file_of id known)) ≡ Some octets) (λ now. IsFirstKnown known now row) history
          (λ disk u e i d lt kind earlier same. u i d lt kind (candidate_first hash size after id known rise is i d lt kind earlier) (same ∙ ap (λ (n : FileName). reading (disk n)) (sym name) ∙ e)) unlike has;
    }

-- ---- rows of one id

agree : (known : List KnownInstance) (a b : InstRow) → IsKnownRow known a → IsKnownRow known b → AgreesOn a b
agree known a b ka kb e =
    let same : a ≡ b = same_Some _ _ (sym ka ∙ ap (λ (i : InstId). option_map (λ (k : KnownInstance). k.row) (instance_in i known)) e ∙ kb) in
    (ap (λ (r : InstRow). r.hash) same, ap (λ (r : InstRow). r.size) same)

pub rows_agree : {D : Type 0} → (history : Option History) (store : StoreValue D) (rows : List InstRow) → HasKnownInstances history store → All (IsKnownRow store.instances.known) rows → AllPairs AgreesOn rows × All (λ other. All (λ row. All (AgreesOn row) other.instances) rows) store.map.records
rows_agree history store rows has all = (
  λ i j d lt le. agree store.instances.known (get_or rows i d) (get_or rows j d) (all i d (omega (arith, lt, le))) (all j d le),
  All-weaker (λ (other : MapRecord). All (IsKnownRow store.instances.known) other.instances) (λ (other : MapRecord). All (λ row. All (AgreesOn row) other.instances) rows)
      (λ other named. All-weaker (IsKnownRow store.instances.known) (λ (row : InstRow). All (AgreesOn row) other.instances)
      (λ row k. All-weaker (IsKnownRow store.instances.known) (AgreesOn row) (λ inst n. agree store.instances.known row inst k n) other.instances named) rows all) store.map.records (parts_of (IsKnownRow store.instances.known) store.map.records has.kept.named),
)
