-- Drafts: logs to which entries are added with no sync, and which are synced once.
use Rattle.std.proofs.Common.{◌≡◌, ℕ, ◌+◌, List, [], ◌∷◌, ◌++◌, Option, Some, false, ap, subst, ◌∙◌}
use Rattle.disk_model.specs.Disk.{FileState, History, Keeps, IfTold, after, change, written, synced}
use Rattle.disk_model.proofs.MomentLemmas.{if_told-map}
use Rattle.disk_model.proofs.ChangeAndSyncLemmas.{changed_state}
use Rattle.disk_model.proofs.FirmLemmas.{firm_from_keeps, keeps_from_firm, synced_firm, reading_from_there}
use Rattle.model_logs.specs.LogFile.{log_front}
use Rattle.gate_log.specs.State.{LogState}
use Rattle.gate_log.specs.Log.{log_text, Holds, Drafts}
use Rattle.gate_log.proofs.AppendLemmas.{AreOctets, IsLaidOut, Read, read_file, first_read, second_read, synced_read, closed_octets, open_octets, new_text, IsGrowth, grown, grown_read}

-- the file reads these octets, and its name is synced
pub record IsDraftFile (log : LogState) (entries : List (List ℕ)) (octets : List ℕ) (f : FileState) : Type 0 where
  pub read : Read log entries octets f
  pub named : f.is_name_loose ≡ false
  pub are_octets : AreOctets octets

draft-before : (log : LogState) (entries : List (List ℕ)) (old : Option History) → Drafts log entries old → IfTold old (λ disk. IsDraftFile log entries (log_text log.head entries) (disk log.name))
draft-before log entries old h = if_told-map _ _ old (λ disk d. record { read = read_file log entries disk d.reads; named = d.named; are_octets = d.are_octets }) h

-- the two writes

first_draft : (log : LogState) (entries more : List (List ℕ)) (block : List ℕ) (f : FileState) → IsLaidOut more block → IsDraftFile log entries (log_text log.head entries) f
    → IsDraftFile log entries (log_front log.head entries ++ 0 ∷ block) (written (log.end + 1) block f)
first_draft log entries more block f b d = record { read = first_read log entries more block f d.read; named = d.named; are_octets = closed_octets log.head entries more block b d.are_octets }

second_draft : (log : LogState) (entries more : List (List ℕ)) (block : List ℕ) (f : FileState) → IsLaidOut more block → IsDraftFile log entries (log_front log.head entries ++ 0 ∷ block) f
    → IsDraftFile log entries (log_text log.head (entries ++ more)) (written log.end (1 ∷ []) f)
second_draft log entries more block f b d = record {
  read = second_read log entries more block f b d.read;
  named = d.named;
  are_octets = subst AreOctets (new_text log.head entries more block b) (open_octets log.head entries more block b d.are_octets);
}

pub extended : (log : LogState) (entries more : List (List ℕ)) (block : List ℕ) (old mid new : Option History) → IsLaidOut more block → (size count : ℕ) → IsGrowth more block size count → Drafts log entries old
    → mid ≡ after (change log.name (written (log.end + 1) block)) old → new ≡ after (change log.name (written log.end (1 ∷ []))) mid → Drafts (grown log size count) (entries ++ more) new
extended log entries more block old mid new b size count growth h is1 is2 =
    let k : IfTold new (λ disk. IsDraftFile log entries (log_text log.head (entries ++ more)) (disk log.name)) =
    changed_state log.name (IsDraftFile log entries (log_front log.head entries ++ 0 ∷ block)) (IsDraftFile log entries (log_text log.head (entries ++ more))) (written log.end (1 ∷ [])) mid new is2 (λ f d. second_draft log entries more block f b d)
    (changed_state log.name (IsDraftFile log entries (log_text log.head entries)) (IsDraftFile log entries (log_front log.head entries ++ 0 ∷ block)) (written (log.end + 1) block) old mid is1 (λ f d. first_draft log entries more block f b d)
    (draft-before log entries old h)) in
    if_told-map _ _ new (λ disk d. record {
      reads = grown_read log entries more block b size count growth disk d.read.end d.read.count d.read.head_fits d.read.entries_fit (reading_from_there (disk log.name) d.read.there ∙ ap Some d.read.octets_are);
      named = d.named;
      are_octets = d.are_octets;
    }) k

-- the sync

pub record IsSettledDraft (log : LogState) (entries : List (List ℕ)) (f : FileState) : Type 0 where
  pub read : Read log entries (log_text log.head entries) f
  pub keeps : Keeps f (log_text log.head entries)

settled_file : (log : LogState) (entries : List (List ℕ)) (f : FileState) → IsDraftFile log entries (log_text log.head entries) f → IsSettledDraft log entries (synced f)
settled_file log entries f d = record {
  read = synced_read log entries (log_text log.head entries) f d.read;
  keeps = keeps_from_firm _ _ (synced_firm f (log_text log.head entries) d.read.there d.named d.read.octets_are d.are_octets);
}

pub settled : (log : LogState) (entries : List (List ℕ)) (old new : Option History) → Drafts log entries old → new ≡ after (change log.name synced) old → Holds log entries new
settled log entries old new h is =
    let k : IfTold new (λ disk. IsSettledDraft log entries (disk log.name)) =
    changed_state log.name (IsDraftFile log entries (log_text log.head entries)) (IsSettledDraft log entries) synced old new is (λ f d. settled_file log entries f d) (draft-before log entries old h) in
    if_told-map _ _ new (λ disk s. record {
      reads = record {
        file = reading_from_there (disk log.name) s.read.there ∙ ap Some s.read.octets_are;
        end = s.read.end;
        count = s.read.count;
        head_fits = s.read.head_fits;
        entries_fit = s.read.entries_fit;
      };
      keeps = s.keeps;
    }) k

-- what the disk holds

pub held_draft : (log : LogState) (entries : List (List ℕ)) (history : Option History) → Holds log entries history → Drafts log entries history
held_draft log entries history h = if_told-map _ _ history (λ disk k.
    let f = firm_from_keeps (disk log.name) (log_text log.head entries) k.keeps in
    record { reads = k.reads; named = f.name; are_octets = f.are_octets }) h
