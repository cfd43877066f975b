-- An event that makes a target, or adds to it, leaves to other tasks what is theirs.
use Rattle.purge_task.proofs.Common.{◌≡◌, ◌≢◌, ◌≤◌, ◌==◌, ℕ, List, [], ◌∷◌, ◌++◌, Option, Some, refl, sym, ◌∙◌, ap, subst, arith, inl, inr, option_map, option_and_then, cases_eq, append-nil, All-cons, All-contains, All-nil, Between, DiskState, FileState, History, SameButFor, named, reading}
use Rattle.purge_task.proofs.Common.{FileName, between-map, InstRow, MapRecord, record_at, found_one, files_of, instance_file, FilesValue, end_in, file_in, with_pins, OthersAreNamed, MailFile, KeepsFirm, KeepsInstances, ReadsInstances, AreElsewhere, StoreValue, kept_same, firm_same, named_reads}
use Rattle.purge_task.proofs.Common.{Claims, HasRegionOctets, HaveSameInstances, IsSameOrSynced, LeavesOthers, LeavesRecord, MayOnlyGrow, OnlyGrows, OthersTook, unraised_same, instance_kept, none_placed}
use Rattle.disk_model.specs.declared.name.FileName.TheVariants as file
use Rattle.store_core.specs.Keeping.{SyncsInstances}
use Rattle.task_claims.specs.Leaving.{LeavesFile}
use Rattle.task_claims.proofs.GoneLemmas.{gone_stays}
use Rattle.purge_task.proofs.TargetSeenLemmas.{with_files}

-- each other file is as it was, or its name was synced
abbrev SyncsOthers : ℕ → DiskState → DiskState → Type 0
SyncsOthers n a b = (other : FileName) → other ≢ file.Mail n → IsSameOrSynced (a other) (b other)

pub named_others : (n : ℕ) (before after : Option History) → OthersAreNamed (file.Mail n) before after → Between (SyncsOthers n) before after
named_others n before after others = between-map (λ a b. (other : FileName) → other ≢ file.Mail n → b other ≡ named (a other)) (SyncsOthers n) before after (λ a b s other apart. inr (s other apart)) others

pub same_others : (n : ℕ) (before after : Option History) → SameButFor (file.Mail n) before after → Between (SyncsOthers n) before after
same_others n before after others = between-map (λ a b. (other : FileName) → other ≢ file.Mail n → b other ≡ a other) (SyncsOthers n) before after (λ a b s other apart. inl (s other apart)) others

inst_apart : (n : ℕ) (h i : List ℕ) → file.Inst h i ≢ file.Mail n
inst_apart n h i e = cc e

mails_apart : (n m : ℕ) → n ≢ m → file.Mail n ≢ file.Mail m
mails_apart n m apart e = apart (let k : n ≡ m = cc e in k)

synced_reads : (a b : FileState) → IsSameOrSynced a b → reading b ≡ reading a
synced_reads a b (inl e) = ap reading e
synced_reads a b (inr e) = ap reading e ∙ named_reads a

-- a record that lies in another file
record_stays : {D : Type 0} → (uid : ℕ) (row : MapRecord) (n : ℕ) (old new : StoreValue D) (before after : Option History) → new.map ≡ old.map → Between (SyncsOthers n) before after → row.file ≢ n → record_at old.map uid ≡ Some row → LeavesRecord uid row new before after
record_stays uid row n old new before after map synced apart there = record {
  now = row;
  there = ap (λ m. record_at m uid) map ∙ there;
  is_same = refl;
  region = between-map (SyncsOthers n) (λ a b. (octets : List ℕ) → HasRegionOctets (files_of a) row octets → HasRegionOctets (files_of b) row octets) before after
      (λ a b s octets h. record { there = h.there; in_file = synced_reads (a (file.Mail row.file)) (b (file.Mail row.file)) (s (file.Mail row.file) (mails_apart row.file n apart)) ∙ h.in_file; inside = h.inside; same = h.same }) synced;
  instances = between-map (SyncsOthers n) (λ a b. HaveSameInstances row.instances (files_of a) (files_of b)) before after (λ a b s. each a b s row.instances) synced;
}
  where
    each : (a b : DiskState) → SyncsOthers n a b → (rows : List InstRow) → HaveSameInstances rows (files_of a) (files_of b)
    each a b s [] = All-nil _
    each a b s (i ∷ rows) = All-cons (λ (x : InstRow). (octets : List ℕ) → files_of a (instance_file x) ≡ Some octets → files_of b (instance_file x) ≡ Some octets) i rows
        (λ octets is. synced_reads (a (instance_file i)) (b (instance_file i)) (s (instance_file i) (inst_apart n i.hash.0 i.id.0)) ∙ is) (each a b s rows)

file_stays : {D : Type 0} → (number n : ℕ) (disk : D) (files : FilesValue) (old : StoreValue D) (before after : Option History) → number ≢ n → file_in number files.files ≡ file_in number old.files.files → Between (SyncsOthers n) before after → LeavesFile number old (with_files disk files old) before after
file_stays number n disk files old before after apart known synced = record {
  known = ap (λ (o : Option MailFile). option_map (with_pins 0) o) known;
  records = refl;
  guids = λ guid of all. all;
  state = between-map (SyncsOthers n) (λ a b. IsSameOrSynced (a (file.Mail number)) (b (file.Mail number))) before after (λ a b s. s (file.Mail number) (mails_apart number n apart)) synced;
}

stays : (n : ℕ) → n ≤ n
stays n = omega arith

file_still : {D : Type 0} → (number n : ℕ) (disk : D) (files : FilesValue) (old : StoreValue D) (before after : Option History) → number ≢ n → end_in number files.files ≡ end_in number old.files.files → Between (SyncsOthers n) before after → OnlyGrows number old (with_files disk files old) before after
file_still number n disk files old before after apart ends synced = record {
  there = λ end is. (end, ends ∙ is, stays end);
  reads = between-map (SyncsOthers n) (λ a b. (octets : List ℕ) → reading (a (file.Mail number)) ≡ Some octets → (more : List ℕ) × (reading (b (file.Mail number)) ≡ Some (octets ++ more))) before after
      (λ a b s octets is. ([], synced_reads (a (file.Mail number)) (b (file.Mail number)) (s (file.Mail number) (mails_apart number n apart)) ∙ (is ∙ ap Some (sym (append-nil octets))))) synced;
}

-- A file changes in which no record lies, and which no other task has taken. If it may only grow, it only grows. Each other file ends where it
-- did, and one that other tasks have taken is as it was.
pub files_leave : {D : Type 0} → (mine : Claims) (n : ℕ) (disk : D) (files : FilesValue) (old : StoreValue D) (before after : Option History) → AreElsewhere n old.map.records → (OthersTook mine old n → ⊥) → (MayOnlyGrow mine old n → OnlyGrows n old (with_files disk files old) before after)
    → ((m : ℕ) → m ≢ n → OthersTook mine old m → file_in m files.files ≡ file_in m old.files.files) → ((m : ℕ) → m ≢ n → end_in m files.files ≡ end_in m old.files.files) → Between (SyncsOthers n) before after → LeavesOthers mine old (with_files disk files old) before after
files_leave mine n disk files old before after elsewhere untaken grows known ends synced =
    let new : StoreValue _ = with_files disk files old in
    let firm : KeepsFirm old new before after = firm_same old new before after refl refl (between-map (SyncsOthers n) SyncsInstances before after (λ a b s hash id. s (file.Inst hash id) (inst_apart n hash id)) synced) in
    let keeps : KeepsInstances old new before after = kept_same old new before after refl (between-map (SyncsOthers n) ReadsInstances before after (λ a b s hash id. synced_reads (a (file.Inst hash id)) (b (file.Inst hash id)) (s (file.Inst hash id) (inst_apart n hash id))) synced) firm in
    record {
      records = λ uid row more there. record_stays uid row n old new before after refl synced (All-contains (λ (r : MapRecord). r.file ≢ n) old.map.records row elsewhere (found_one (λ (r : MapRecord). r.uid == uid) old.map.records row there).0) there;
      unlisted = λ uid row none found listed. (listed, refl);
      files = λ number took. elim (cases_eq number n) [
        | inl is ↦ absurd (untaken (subst (λ (i : ℕ). OthersTook mine old i) is took))
        | inr apart ↦ file_stays number n disk files old before after apart (known number apart took) synced
      ];
      grow = λ number may. elim (cases_eq number n) [
        | inl is ↦ subst (λ (i : ℕ). OnlyGrows i old new before after) (sym is) (grows (subst (λ (i : ℕ). MayOnlyGrow mine old i) is may))
        | inr apart ↦ file_still number n disk files old before after apart (ends number apart) synced
      ];
      instances = λ row known more. instance_kept row old new before after keeps known;
      unraised = unraised_same old.map old.map refl;
      store = refl;
      numbers = none_placed old.instances;
      mailboxes = stays old.map.highest.mailbox;
      end = stays old.map_log.end;
      names = inl (λ name number is. is);
      gone = gone_stays old new refl refl (stays old.map.highest.mailbox);
      compared = keeps.compared;
      firm = firm;
      uids = λ number uid held k. record { given = k.given; below = k.below; same = k.same };
      room = stays old.map_log.room;
      told = between-map (SyncsOthers n) (λ a b. Unit {0}) before after (λ a b s. tt) synced;
    }

-- No other file changes.
pub one_file_leaves : {D : Type 0} → (mine : Claims) (n : ℕ) (disk : D) (files : FilesValue) (old : StoreValue D) (before after : Option History) → AreElsewhere n old.map.records → (OthersTook mine old n → ⊥) → (MayOnlyGrow mine old n → OnlyGrows n old (with_files disk files old) before after)
    → ((m : ℕ) → m ≢ n → file_in m files.files ≡ file_in m old.files.files) → Between (SyncsOthers n) before after → LeavesOthers mine old (with_files disk files old) before after
one_file_leaves mine n disk files old before after elsewhere untaken grows known synced =
    files_leave mine n disk files old before after elsewhere untaken grows (λ m apart took. known m apart) (λ m apart. ap (λ (o : Option MailFile). option_and_then (λ f. f.end) o) (known m apart)) synced
