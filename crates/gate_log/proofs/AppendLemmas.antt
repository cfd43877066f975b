-- What a crash may leave of a log to which entries are being added.
use Rattle.std.specs.Prelude.{◌⊎◌}
use Rattle.std.proofs.lemmas.List.{take-take, take-append-le}
use Rattle.std.proofs.Common.{◌≡◌, inl, inr, ℕ, ◌+◌, ◌*◌, ◌<◌, ◌≤◌, ◌^◌, List, [], ◌∷◌, ◌++◌, length, take, sum, Option, Some, true, All, refl, sym, ◌∙◌, subst, ap, append_assoc, append-nil, length-append, arith, lit<}
use Rattle.std.proofs.Math.Seq.{take-append_seam}
use Rattle.std.proofs.lemmas.Bool.{cases_eq}
use Rattle.std.proofs.lemmas.List.Elements.{All-cons, All-append, All-take}
use Rattle.disk_model.specs.Disk.{FileState, DiskState, History, IsThere, Reaches, Keeps, IfTold, AfterFailed, EachImage, after, change, written, half_written, synced, reading}
use Rattle.disk_model.proofs.MomentLemmas.{if_told-map}
use Rattle.disk_model.proofs.OneFileLemmas.{IsAlong, Along, one_file-then}
use Rattle.disk_model.proofs.ChangeAndSyncLemmas.{Can, CanNow, changed_state, state, change_fails, sync_fails, along, images}
use Rattle.disk_model.proofs.FirmLemmas.{IsFirm, firm_from_keeps, keeps_from_firm, synced_firm, reading_from_there, reads_there, end_written_left, end_half_left, one_written_left, one_half_left, end_octets, one_octets}
use Rattle.model_logs.specs.declared.log_head.LogHead.{LogHead}
use Rattle.model_logs.specs.LogFile.{HeadFits, head_octets, record_octets, EntryFits, opened, log_front, IsLog}
use Rattle.gate_log.specs.State.{LogState}
use Rattle.gate_log.specs.Log.{log_text, IsLogRead, Reads, Holds, cut_by, IsLogWithOrWithoutAll}
use Rattle.gate_log.proofs.LayoutLemmas.{cut-fit, block_octets}

abbrev pub AreOctets : List ℕ → Type 0
AreOctets text = All (λ octet. octet < 256) text

-- what is known of the entries, and of the octets that are written for them
pub record IsLaidOut (more : List (List ℕ)) (block : List ℕ) : Type 0 where
  pub fit : All EntryFits more
  pub is : 1 ∷ block ≡ opened more ++ 0 ∷ []
  pub are_octets : AreOctets block

-- more entries behind those of a log
pub opened_all : (es ms : List (List ℕ)) → opened (es ++ ms) ≡ opened es ++ opened ms
opened_all [] ms = refl
opened_all (x ∷ es) ms = ap (λ (t : List ℕ). (1 ∷ record_octets x) ++ t) (opened_all es ms) ∙ sym (append_assoc (1 ∷ record_octets x) (opened es) (opened ms))

front_all : (head : LogHead) (es ms : List (List ℕ)) → log_front head (es ++ ms) ≡ log_front head es ++ opened ms
front_all head es ms = ap (λ (t : List ℕ). head_octets head ++ t) (opened_all es ms) ∙ sym (append_assoc (head_octets head) (opened es) (opened ms))

-- the octets in steps

pub old_front : (head : LogHead) (entries : List (List ℕ)) (rest : List ℕ) → log_text head entries ++ rest ≡ log_front head entries ++ 0 ∷ rest
old_front head entries rest = append_assoc (log_front head entries) (0 ∷ []) rest

pub new_text : (head : LogHead) (entries more : List (List ℕ)) (block : List ℕ) → IsLaidOut more block → log_front head entries ++ 1 ∷ block ≡ log_text head (entries ++ more)
new_text head entries more block b =
    ap (λ (t : List ℕ). log_front head entries ++ t) b.is
    ∙ sym (append_assoc (log_front head entries) (opened more) (0 ∷ []))
    ∙ ap (λ (t : List ℕ). t ++ 0 ∷ []) (sym (front_all head entries more))

-- a closed gate, and anything behind it
closed_is_log : (head : LogHead) (entries : List (List ℕ)) (rest : List ℕ) → HeadFits head → All EntryFits entries → IsLog (log_text head entries ++ rest) head entries
closed_is_log head entries rest hf ef = record { head_fits = hf; entries_fit = ef; gate = 0; behind = rest; spelled = old_front head entries rest; ends = inl (λ e. omega (arith, e)) }

-- any gate, and the records behind it
either_log : (head : LogHead) (entries more : List (List ℕ)) (block : List ℕ) (gate : ℕ) → HeadFits head → All EntryFits entries → IsLaidOut more block
    → IsLog (log_front head entries ++ gate ∷ block) head entries ⊎ IsLog (log_front head entries ++ gate ∷ block) head (entries ++ more)
either_log head entries more block gate hf ef b = elim (cases_eq gate 1) [
  | inl e ↦ inr (record {
    head_fits = hf;
    entries_fit = All-append EntryFits entries more ef b.fit;
    gate = 0;
    behind = [];
    spelled = ap (λ (g : ℕ). log_front head entries ++ g ∷ block) e ∙ new_text head entries more block b;
    ends = inr refl;
  })
  | inr closed ↦ inl (record { head_fits = hf; entries_fit = ef; gate = gate; behind = block; spelled = refl; ends = inl closed })
]

-- the two pairs of calls: the records and a closed gate are written and synced, and the gate is opened and synced

pub record Before (log : LogState) (entries : List (List ℕ)) (f : FileState) : Type 0 where
  pub end : log.end ≡ length (log_front log.head entries)
  pub count : log.count ≡ length entries
  pub head_fits : HeadFits log.head
  pub entries_fit : All EntryFits entries
  pub keeps : Keeps f (log_text log.head entries)

pub record Between (log : LogState) (entries : List (List ℕ)) (block : List ℕ) (f : FileState) : Type 0 where
  pub end : log.end ≡ length (log_front log.head entries)
  pub count : log.count ≡ length entries
  pub head_fits : HeadFits log.head
  pub entries_fit : All EntryFits entries
  pub keeps : Keeps f (log_front log.head entries ++ 0 ∷ block)

held-before : (log : LogState) (entries : List (List ℕ)) (old : Option History) → Holds log entries old → IfTold old (λ disk. Before log entries (disk log.name))
held-before log entries old h = if_told-map _ _ old (λ disk k. record { end = k.reads.end; count = k.reads.count; head_fits = k.reads.head_fits; entries_fit = k.reads.entries_fit; keeps = k.keeps }) h

abbrev P : LogHead → List (List ℕ) → List (List ℕ) → Option (List ℕ) → Type 0
P head entries more octets = IsLogWithOrWithoutAll head entries more octets

text_length : (head : LogHead) (entries : List (List ℕ)) → length (log_text head entries) ≡ length (log_front head entries) + 1
text_length head entries = length-append (log_front head entries) (0 ∷ [])

old_left : (head : LogHead) (entries more : List (List ℕ)) (left : Option (List ℕ)) → HeadFits head → All EntryFits entries → (rest : List ℕ) × (left ≡ Some (log_text head entries ++ rest)) → P head entries more left
old_left head entries more left hf ef r = subst (P head entries more) (sym r.1) (inl (closed_is_log head entries r.0 hf ef))

either_left : (head : LogHead) (entries more : List (List ℕ)) (block : List ℕ) (left : Option (List ℕ)) → HeadFits head → All EntryFits entries → IsLaidOut more block → (z : ℕ) × (left ≡ Some (log_front head entries ++ z ∷ block)) → P head entries more left
either_left head entries more block left hf ef b r = subst (P head entries more) (sym r.1) (either_log head entries more block r.0 hf ef b)

-- the records stand behind the closed gate, and all are octets
pub closed_octets : (head : LogHead) (entries more : List (List ℕ)) (block : List ℕ) → IsLaidOut more block → AreOctets (log_text head entries) → AreOctets (log_front head entries ++ 0 ∷ block)
closed_octets head entries more block b are = subst AreOctets (old_front head entries block) (All-append (λ o. o < 256) (log_text head entries) block are b.are_octets)

first_firm : (head : LogHead) (entries more : List (List ℕ)) (block : List ℕ) (f : FileState) → IsLaidOut more block → IsFirm f (log_text head entries) → IsFirm (synced (written (length (log_text head entries)) block f)) (log_front head entries ++ 0 ∷ block)
first_firm head entries more block f b k =
    synced_firm (written (length (log_text head entries)) block f) (log_front head entries ++ 0 ∷ block) k.there k.name
    (end_octets f (log_text head entries) block k.octets ∙ old_front head entries block)
    (closed_octets head entries more block b k.are_octets)

first_can : (log : LogState) (entries more : List (List ℕ)) (block : List ℕ) (f : FileState) → IsLaidOut more block → Before log entries f
    → Can log.name (written (log.end + 1) block) (half_written (log.end + 1) (length block)) (P log.head entries more) f
first_can log entries more block f b s =
    let k : IsFirm f (log_text log.head entries) = firm_from_keeps f (log_text log.head entries) s.keeps in
    let at : length (log_text log.head entries) ≡ log.end + 1 = text_length log.head entries ∙ ap (λ (n : ℕ). n + 1) (sym s.end) in
    subst (λ (n : ℕ). Can log.name (written n block) (half_written n (length block)) (P log.head entries more) f) at (record {
      before = λ left h. old_left log.head entries more left s.head_fits s.entries_fit ([], (s.keeps.leaves left).0 h ∙ ap Some (sym (append-nil (log_text log.head entries))));
      halved = λ left h. old_left log.head entries more left s.head_fits s.entries_fit (end_half_left f (log_text log.head entries) block k left h);
      changed = λ left h. old_left log.head entries more left s.head_fits s.entries_fit (end_written_left f (log_text log.head entries) block k left h);
      settled = λ left h. either_left log.head entries more block left s.head_fits s.entries_fit b (0, ((keeps_from_firm _ _ (first_firm log.head entries more block f b k)).leaves left).0 h);
      there = k.there;
    })

first_state : (log : LogState) (entries more : List (List ℕ)) (block : List ℕ) (f : FileState) → IsLaidOut more block → Before log entries f → Between log entries block (synced (written (log.end + 1) block f))
first_state log entries more block f b s =
    let k : IsFirm f (log_text log.head entries) = firm_from_keeps f (log_text log.head entries) s.keeps in
    let at : length (log_text log.head entries) ≡ log.end + 1 = text_length log.head entries ∙ ap (λ (n : ℕ). n + 1) (sym s.end) in
    record {
      end = s.end;
      count = s.count;
      head_fits = s.head_fits;
      entries_fit = s.entries_fit;
      keeps = subst (λ (n : ℕ). Keeps (synced (written n block f)) (log_front log.head entries ++ 0 ∷ block)) at (keeps_from_firm _ _ (first_firm log.head entries more block f b k));
    }

-- the gate opens, and all are octets
pub open_octets : (head : LogHead) (entries more : List (List ℕ)) (block : List ℕ) → IsLaidOut more block → AreOctets (log_front head entries ++ 0 ∷ block) → AreOctets (log_front head entries ++ 1 ∷ block)
open_octets head entries more block b are =
    All-append (λ o. o < 256) (log_front head entries) (1 ∷ block) (subst AreOctets (take-append_seam (log_front head entries) (0 ∷ block)) (All-take (λ o. o < 256) (length (log_front head entries)) (log_front head entries ++ 0 ∷ block) are))
    (All-cons (λ o. o < 256) 1 block (lit< tt) b.are_octets)

second_firm : (head : LogHead) (entries more : List (List ℕ)) (block : List ℕ) (f : FileState) → IsLaidOut more block → IsFirm f (log_front head entries ++ 0 ∷ block)
    → IsFirm (synced (written (length (log_front head entries)) (1 ∷ []) f)) (log_front head entries ++ 1 ∷ block)
second_firm head entries more block f b k =
    synced_firm (written (length (log_front head entries)) (1 ∷ []) f) (log_front head entries ++ 1 ∷ block) k.there k.name
    (one_octets f (log_front head entries) block 0 1 k.octets)
    (open_octets head entries more block b k.are_octets)

second_can : (log : LogState) (entries more : List (List ℕ)) (block : List ℕ) (f : FileState) → IsLaidOut more block → Between log entries block f
    → Can log.name (written log.end (1 ∷ [])) (half_written log.end 1) (P log.head entries more) f
second_can log entries more block f b s =
    let k : IsFirm f (log_front log.head entries ++ 0 ∷ block) = firm_from_keeps f (log_front log.head entries ++ 0 ∷ block) s.keeps in
    subst (λ (n : ℕ). Can log.name (written n (1 ∷ [])) (half_written n 1) (P log.head entries more) f) (sym s.end) (record {
      before = λ left h. either_left log.head entries more block left s.head_fits s.entries_fit b (0, (s.keeps.leaves left).0 h);
      halved = λ left h. either_left log.head entries more block left s.head_fits s.entries_fit b (one_half_left f (log_front log.head entries) block 0 k left h);
      changed = λ left h. either_left log.head entries more block left s.head_fits s.entries_fit b (one_written_left f (log_front log.head entries) block 0 1 k left h);
      settled = λ left h. either_left log.head entries more block left s.head_fits s.entries_fit b (1, ((keeps_from_firm _ _ (second_firm log.head entries more block f b k)).leaves left).0 h);
      there = k.there;
    })

second_state : (log : LogState) (entries more : List (List ℕ)) (block : List ℕ) (f : FileState) → IsLaidOut more block → Between log entries block f
    → Keeps (synced (written log.end (1 ∷ []) f)) (log_text log.head (entries ++ more))
second_state log entries more block f b s =
    let k : IsFirm f (log_front log.head entries ++ 0 ∷ block) = firm_from_keeps f (log_front log.head entries ++ 0 ∷ block) s.keeps in
    subst (λ (n : ℕ). Keeps (synced (written n (1 ∷ []) f)) (log_text log.head (entries ++ more))) (sym s.end)
    (subst (Keeps (synced (written (length (log_front log.head entries)) (1 ∷ []) f))) (new_text log.head entries more block b) (keeps_from_firm _ _ (second_firm log.head entries more block f b k)))

-- the run of the four calls, where the disk holds the log

pub held-can : (log : LogState) (entries more : List (List ℕ)) (block : List ℕ) (old : Option History) → IsLaidOut more block → Holds log entries old
    → CanNow log.name (written (log.end + 1) block) (half_written (log.end + 1) (length block)) (P log.head entries more) old
held-can log entries more block old b h = if_told-map _ _ old (λ disk s. first_can log entries more block (disk log.name) b s) (held-before log entries old h)

pub mid-state : (log : LogState) (entries more : List (List ℕ)) (block : List ℕ) (old h1 h2 : Option History) → IsLaidOut more block → Holds log entries old
    → h1 ≡ after (change log.name (written (log.end + 1) block)) old → h2 ≡ after (change log.name synced) h1 → IfTold h2 (λ disk. Between log entries block (disk log.name))
mid-state log entries more block old h1 h2 b h is1 is2 =
    state log.name (Before log entries) (Between log entries block) (written (log.end + 1) block) old h1 h2 is1 is2 (λ f s. first_state log entries more block f b s) (held-before log entries old h)

pub mid-along : (log : LogState) (entries more : List (List ℕ)) (block : List ℕ) (old h1 h2 : Option History) → IsLaidOut more block → Holds log entries old
    → h1 ≡ after (change log.name (written (log.end + 1) block)) old → h2 ≡ after (change log.name synced) h1 → Along log.name (P log.head entries more) old h2
mid-along log entries more block old h1 h2 b h is1 is2 =
    along log.name (written (log.end + 1) block) (half_written (log.end + 1) (length block)) (P log.head entries more) old h1 h2 (held-can log entries more block old b h) is1 is2

pub mid-can : (log : LogState) (entries more : List (List ℕ)) (block : List ℕ) (h2 : Option History) → IsLaidOut more block → IfTold h2 (λ disk. Between log entries block (disk log.name))
    → CanNow log.name (written log.end (1 ∷ [])) (half_written log.end 1) (P log.head entries more) h2
mid-can log entries more block h2 b h = if_told-map _ _ h2 (λ disk s. second_can log entries more block (disk log.name) b s) h

-- the five exits

pub fails_1 : (log : LogState) (entries more : List (List ℕ)) (block : List ℕ) (old new : Option History) → IsLaidOut more block → Holds log entries old
    → AfterFailed (change log.name (half_written (log.end + 1) (length block))) old new → EachImage (IsAlong log.name (P log.head entries more) old) old new
fails_1 log entries more block old new b h failed =
    change_fails log.name (written (log.end + 1) block) (half_written (log.end + 1) (length block)) (P log.head entries more) old new (held-can log entries more block old b h) failed

pub fails_2 : (log : LogState) (entries more : List (List ℕ)) (block : List ℕ) (old h1 new : Option History) → IsLaidOut more block → Holds log entries old
    → h1 ≡ after (change log.name (written (log.end + 1) block)) old → AfterFailed (λ disk. disk) h1 new → EachImage (IsAlong log.name (P log.head entries more) old) old new
fails_2 log entries more block old h1 new b h is1 failed =
    sync_fails log.name (written (log.end + 1) block) (half_written (log.end + 1) (length block)) (P log.head entries more) old h1 new (held-can log entries more block old b h) is1 failed

pub fails_3 : (log : LogState) (entries more : List (List ℕ)) (block : List ℕ) (old h1 h2 new : Option History) → IsLaidOut more block → Holds log entries old
    → h1 ≡ after (change log.name (written (log.end + 1) block)) old → h2 ≡ after (change log.name synced) h1
    → AfterFailed (change log.name (half_written log.end 1)) h2 new → EachImage (IsAlong log.name (P log.head entries more) old) old new
fails_3 log entries more block old h1 h2 new b h is1 is2 failed =
    one_file-then log.name (P log.head entries more) old h2 new (mid-along log entries more block old h1 h2 b h is1 is2)
    (change_fails log.name (written log.end (1 ∷ [])) (half_written log.end 1) (P log.head entries more) h2 new (mid-can log entries more block h2 b (mid-state log entries more block old h1 h2 b h is1 is2)) failed)

pub fails_4 : (log : LogState) (entries more : List (List ℕ)) (block : List ℕ) (old h1 h2 h3 new : Option History) → IsLaidOut more block → Holds log entries old
    → h1 ≡ after (change log.name (written (log.end + 1) block)) old → h2 ≡ after (change log.name synced) h1
    → h3 ≡ after (change log.name (written log.end (1 ∷ []))) h2 → AfterFailed (λ disk. disk) h3 new → EachImage (IsAlong log.name (P log.head entries more) old) old new
fails_4 log entries more block old h1 h2 h3 new b h is1 is2 is3 failed =
    one_file-then log.name (P log.head entries more) old h2 new (mid-along log entries more block old h1 h2 b h is1 is2)
    (sync_fails log.name (written log.end (1 ∷ [])) (half_written log.end 1) (P log.head entries more) h2 h3 new (mid-can log entries more block h2 b (mid-state log entries more block old h1 h2 b h is1 is2)) is3 failed)

pub goes_well : (log : LogState) (entries more : List (List ℕ)) (block : List ℕ) (old h1 h2 h3 new : Option History) → IsLaidOut more block → Holds log entries old
    → h1 ≡ after (change log.name (written (log.end + 1) block)) old → h2 ≡ after (change log.name synced) h1
    → h3 ≡ after (change log.name (written log.end (1 ∷ []))) h2 → new ≡ after (change log.name synced) h3 → EachImage (IsAlong log.name (P log.head entries more) old) old new
goes_well log entries more block old h1 h2 h3 new b h is1 is2 is3 is4 =
    one_file-then log.name (P log.head entries more) old h2 new (mid-along log entries more block old h1 h2 b h is1 is2)
    (images log.name (written log.end (1 ∷ [])) (half_written log.end 1) (P log.head entries more) h2 h3 new (mid-can log entries more block h2 b (mid-state log entries more block old h1 h2 b h is1 is2)) is3 is4)

-- after Ok

-- the log with so many octets and entries more
abbrev pub grown : LogState → ℕ → ℕ → LogState
grown log size count = record log { end = log.end + size; count = log.count + count }

-- they are as many as are laid out
pub record IsGrowth (more : List (List ℕ)) (block : List ℕ) (size count : ℕ) : Type 0 where
  pub size_is : size ≡ length block
  pub count_is : count ≡ length more

grown_end : (log : LogState) (entries more : List (List ℕ)) (block : List ℕ) → IsLaidOut more block → log.end ≡ length (log_front log.head entries) → log.end + length block ≡ length (log_front log.head (entries ++ more))
grown_end log entries more block b e =
    let l : length (log_front log.head (entries ++ more)) ≡ length (log_front log.head entries) + length (opened more) = ap length (front_all log.head entries more) ∙ length-append (log_front log.head entries) (opened more) in
    let s : length (1 ∷ block) ≡ length (opened more) + 1 = ap length b.is ∙ length-append (opened more) (0 ∷ []) in
    omega (arith, l, s, e)

pub grown_read : (log : LogState) (entries more : List (List ℕ)) (block : List ℕ) → IsLaidOut more block → (size count : ℕ) → IsGrowth more block size count → (disk : DiskState) → log.end ≡ length (log_front log.head entries) → log.count ≡ length entries → HeadFits log.head
    → All EntryFits entries → reading (disk log.name) ≡ Some (log_text log.head (entries ++ more)) → IsLogRead (grown log size count) (entries ++ more) disk
grown_read log entries more block b size count growth disk e is_count hf ef r = record {
  file = r;
  end = ap (λ (n : ℕ). log.end + n) growth.size_is ∙ grown_end log entries more block b e;
  count = omega (arith, is_count, growth.count_is, length-append entries more);
  head_fits = hf;
  entries_fit = All-append EntryFits entries more ef b.fit;
}

pub record Held (log : LogState) (entries more : List (List ℕ)) (f : FileState) : Type 0 where
  pub end : log.end ≡ length (log_front log.head entries)
  pub count : log.count ≡ length entries
  pub head_fits : HeadFits log.head
  pub entries_fit : All EntryFits entries
  pub keeps : Keeps f (log_text log.head (entries ++ more))

pub holds_then : (log : LogState) (entries more : List (List ℕ)) (block : List ℕ) (old h1 h2 h3 new : Option History) → IsLaidOut more block → (size count : ℕ) → IsGrowth more block size count → Holds log entries old
    → h1 ≡ after (change log.name (written (log.end + 1) block)) old → h2 ≡ after (change log.name synced) h1
    → h3 ≡ after (change log.name (written log.end (1 ∷ []))) h2 → new ≡ after (change log.name synced) h3 → Holds (grown log size count) (entries ++ more) new
holds_then log entries more block old h1 h2 h3 new b size count growth h is1 is2 is3 is4 =
    let k : IfTold new (λ disk. Held log entries more (disk log.name)) =
    state log.name (Between log entries block) (Held log entries more) (written log.end (1 ∷ [])) h2 h3 new is3 is4
    (λ f s. record { end = s.end; count = s.count; head_fits = s.head_fits; entries_fit = s.entries_fit; keeps = second_state log entries more block f b s })
    (mid-state log entries more block old h1 h2 b h is1 is2) in
    if_told-map _ _ new (λ disk s. record { reads = grown_read log entries more block b size count growth disk s.end s.count s.head_fits s.entries_fit s.keeps.reads; keeps = s.keeps }) k

-- the same where the disk reads the log

pub record Read (log : LogState) (entries : List (List ℕ)) (octets : List ℕ) (f : FileState) : Type 0 where
  pub end : log.end ≡ length (log_front log.head entries)
  pub count : log.count ≡ length entries
  pub head_fits : HeadFits log.head
  pub entries_fit : All EntryFits entries
  pub there : f.is_there ≡ true
  pub octets_are : f.octets ≡ octets

pub read_file : (log : LogState) (entries : List (List ℕ)) (disk : DiskState) → IsLogRead log entries disk → Read log entries (log_text log.head entries) (disk log.name)
read_file log entries disk r =
    let t = reads_there (disk log.name) (log_text log.head entries) r.file in
    record { end = r.end; count = r.count; head_fits = r.head_fits; entries_fit = r.entries_fit; there = t.0; octets_are = t.1 }

read-before : (log : LogState) (entries : List (List ℕ)) (old : Option History) → Reads log entries old → IfTold old (λ disk. Read log entries (log_text log.head entries) (disk log.name))
read-before log entries old h = if_told-map _ _ old (λ disk r. read_file log entries disk r) h

pub first_read : (log : LogState) (entries more : List (List ℕ)) (block : List ℕ) (f : FileState) → Read log entries (log_text log.head entries) f → Read log entries (log_front log.head entries ++ 0 ∷ block) (written (log.end + 1) block f)
first_read log entries more block f r =
    let at : length (log_text log.head entries) ≡ log.end + 1 = text_length log.head entries ∙ ap (λ (n : ℕ). n + 1) (sym r.end) in
    record {
      end = r.end;
      count = r.count;
      head_fits = r.head_fits;
      entries_fit = r.entries_fit;
      there = r.there;
      octets_are = ap (λ (n : ℕ). (written n block f).octets) (sym at) ∙ end_octets f (log_text log.head entries) block r.octets_are ∙ old_front log.head entries block;
    }

pub second_read : (log : LogState) (entries more : List (List ℕ)) (block : List ℕ) (f : FileState) → IsLaidOut more block → Read log entries (log_front log.head entries ++ 0 ∷ block) f → Read log entries (log_text log.head (entries ++ more)) (written log.end (1 ∷ []) f)
second_read log entries more block f b r =
    record {
      end = r.end;
      count = r.count;
      head_fits = r.head_fits;
      entries_fit = r.entries_fit;
      there = r.there;
      octets_are = ap (λ (n : ℕ). (written n (1 ∷ []) f).octets) r.end ∙ one_octets f (log_front log.head entries) block 0 1 r.octets_are ∙ new_text log.head entries more block b;
    }

pub synced_read : (log : LogState) (entries : List (List ℕ)) (octets : List ℕ) (f : FileState) → Read log entries octets f → Read log entries octets (synced f)
synced_read log entries octets f r = record { end = r.end; count = r.count; head_fits = r.head_fits; entries_fit = r.entries_fit; there = r.there; octets_are = r.octets_are }

pub read_1 : (log : LogState) (entries more : List (List ℕ)) (block : List ℕ) (old h1 : Option History) → Reads log entries old
    → h1 ≡ after (change log.name (written (log.end + 1) block)) old → IfTold h1 (λ disk. Read log entries (log_front log.head entries ++ 0 ∷ block) (disk log.name))
read_1 log entries more block old h1 h is1 =
    changed_state log.name (Read log entries (log_text log.head entries)) (Read log entries (log_front log.head entries ++ 0 ∷ block)) (written (log.end + 1) block) old h1 is1 (λ f r. first_read log entries more block f r) (read-before log entries old h)

pub read_2 : (log : LogState) (entries more : List (List ℕ)) (block : List ℕ) (old h1 h2 : Option History) → Reads log entries old
    → h1 ≡ after (change log.name (written (log.end + 1) block)) old → h2 ≡ after (change log.name synced) h1 → IfTold h2 (λ disk. Read log entries (log_front log.head entries ++ 0 ∷ block) (disk log.name))
read_2 log entries more block old h1 h2 h is1 is2 =
    changed_state log.name (Read log entries (log_front log.head entries ++ 0 ∷ block)) (Read log entries (log_front log.head entries ++ 0 ∷ block)) synced h1 h2 is2 (λ f r. synced_read log entries (log_front log.head entries ++ 0 ∷ block) f r) (read_1 log entries more block old h1 h is1)

pub read_3 : (log : LogState) (entries more : List (List ℕ)) (block : List ℕ) (old h1 h2 h3 : Option History) → IsLaidOut more block → Reads log entries old
    → h1 ≡ after (change log.name (written (log.end + 1) block)) old → h2 ≡ after (change log.name synced) h1 → h3 ≡ after (change log.name (written log.end (1 ∷ []))) h2
    → IfTold h3 (λ disk. Read log entries (log_text log.head (entries ++ more)) (disk log.name))
read_3 log entries more block old h1 h2 h3 b h is1 is2 is3 =
    changed_state log.name (Read log entries (log_front log.head entries ++ 0 ∷ block)) (Read log entries (log_text log.head (entries ++ more))) (written log.end (1 ∷ [])) h2 h3 is3 (λ f r. second_read log entries more block f b r) (read_2 log entries more block old h1 h2 h is1 is2)

pub reads_then : (log : LogState) (entries more : List (List ℕ)) (block : List ℕ) (old h1 h2 h3 new : Option History) → IsLaidOut more block → (size count : ℕ) → IsGrowth more block size count → Reads log entries old
    → h1 ≡ after (change log.name (written (log.end + 1) block)) old → h2 ≡ after (change log.name synced) h1
    → h3 ≡ after (change log.name (written log.end (1 ∷ []))) h2 → new ≡ after (change log.name synced) h3 → Reads (grown log size count) (entries ++ more) new
reads_then log entries more block old h1 h2 h3 new b size count growth h is1 is2 is3 is4 =
    let k : IfTold new (λ disk. Read log entries (log_text log.head (entries ++ more)) (disk log.name)) =
    changed_state log.name (Read log entries (log_text log.head (entries ++ more))) (Read log entries (log_text log.head (entries ++ more))) synced h3 new is4
    (λ f r. synced_read log entries (log_text log.head (entries ++ more)) f r) (read_3 log entries more block old h1 h2 h3 b h is1 is2 is3) in
    if_told-map _ _ new (λ disk r. grown_read log entries more block b size count growth disk r.end r.count r.head_fits r.entries_fit (reading_from_there (disk log.name) r.there ∙ ap Some r.octets_are)) k

-- what the calls ask

pub ask_1 : (log : LogState) (entries : List (List ℕ)) (old : Option History) → Reads log entries old → IfTold old (λ disk. Reaches (disk log.name) (log.end + 1))
ask_1 log entries old h = if_told-map _ _ old (λ disk r. (r.there, let l : length (disk log.name).octets ≡ length (log_text log.head entries) = ap length r.octets_are in let e : log.end ≡ length (log_front log.head entries) = r.end in omega (arith, l, e, text_length log.head entries))) (read-before log entries old h)

pub ask_2 : (log : LogState) (entries : List (List ℕ)) (octets : List ℕ) (h : Option History) → IfTold h (λ disk. Read log entries octets (disk log.name)) → IfTold h (λ disk. IsThere (disk log.name))
ask_2 log entries octets h r = if_told-map _ _ h (λ disk s. s.there) r

pub ask_3 : (log : LogState) (entries : List (List ℕ)) (block : List ℕ) (h : Option History) → IfTold h (λ disk. Read log entries (log_front log.head entries ++ 0 ∷ block) (disk log.name)) → IfTold h (λ disk. Reaches (disk log.name) log.end)
ask_3 log entries block h r = if_told-map _ _ h (λ disk s. (s.there, let l : length (disk log.name).octets ≡ length (log_front log.head entries ++ 0 ∷ block) = ap length s.octets_are in let e : log.end ≡ length (log_front log.head entries) = s.end in omega (arith, l, e, length-append (log_front log.head entries) (0 ∷ block)))) r

-- the front of a buffer, where that is seen
pub block_is : (n room : ℕ) (view laid tail : List ℕ) → view ≡ take room (laid ++ tail) → n ≤ room → n ≤ length laid → take n view ≡ take n laid
block_is n room view laid tail e a b = ap (take n) e ∙ take-take n room (laid ++ tail) a ∙ take-append-le n laid tail b

-- the octets that are written for entries, as the front of what is seen of the buffer
pub laid_out : (lengths octets view laid tail : List ℕ) (size room : ℕ) → All (λ n. 1 ≤ n) lengths → sum lengths ≡ length octets → AreOctets octets
    → size ≡ length octets + 5 * length lengths → size ≤ room → room < 2 ^ 32 → length laid ≡ room → view ≡ take room (laid ++ tail) → 1 ∷ take size laid ≡ opened (cut_by lengths octets) ++ 0 ∷ []
    → IsLaidOut (cut_by lengths octets) (take size view)
laid_out lengths octets view laid tail size room some whole are is_size fits short long is_view is_laid =
    let front : take size view ≡ take size laid = block_is size room view laid tail is_view fits (omega (arith, long, fits)) in
    let is : 1 ∷ take size view ≡ opened (cut_by lengths octets) ++ 0 ∷ [] = ap (λ (t : List ℕ). 1 ∷ t) front ∙ is_laid in
    record {
      fit = cut-fit lengths octets some whole (omega (arith, is_size, fits, short));
      is = is;
      are_octets = block_octets lengths octets _ are is;
    }
