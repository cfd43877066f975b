-- A store whose storage files have changed, or of whose disk one of them has.
use Rattle.store_core.proofs.Common.{◌⊎◌, list_any, inl, inr, ◌≡◌, ◌≢◌, ◌<◌, ◌≤◌, ◌+◌, ◌==◌, ℕ, ◌-◌, Bool, true, false, List, [], ◌∷◌, ◌++◌, map, length, Option, Some, None, refl, sym, ◌∙◌, ap, subst, arith, option_map, option_and_then, same_Some, cases_Bool, cases_eq, cond-true, cond-false}
use Rattle.store_core.proofs.Common.{false≢true, true≢false, Files, FileState, DiskState, History, IsThere, IfTold, Between, SameState, SameButFor, EachImage, OthersStay, Grows, Keeps, MayLeave, reading, named, no_file, FileName, between-on, between-map, reads_there, each_image-map, if_told-map}
use Rattle.store_core.proofs.Common.{named-narrows, LogState, IsLogRead, Reads, BoxEntry, Highest, FileNo, Lists, box_text, map_text, MapRecord, MapBox, MapMeaning, map_meaning, Opens, Safe, files_of, IsSettled, IsSettledFor, Leaves, HasRoot, StoresMessage, map_same, LeavesAsRead, MailFile}
use Rattle.store_core.proofs.Common.{FilesValue, AreFilesInOrder, file_in, end_in, ending_at, IsAsKnown, FrontStays, IsAddedTo, OthersAreNamed, KeepsStored, MayGrow, AreFilesKept, StayThere, StoreValue, AreBoxLogs, ReadBoxLogs, IsRunning, IsUpTo, HasEntryRoom, IsStore, OpenBox}
use Rattle.disk_model.specs.declared.name.FileName.TheVariants as file
use Rattle.storage_files.specs.declared.file.Take.{Take}
use Rattle.storage_files.specs.declared.file.Take.TheVariants.{Known, New, Full}
use Rattle.storage_files.specs.Files.{IsTakeFor, after_take, file_begun, with_taken, released_in}
use Rattle.storage_files.specs.OnDisk.{IsNewOrNone}
use Rattle.store_core.specs.Files.{ArePinsOfRecords, EndsWith}
use Rattle.store_core.proofs.BoxAppendLemmas.{store_sound}
use Rattle.store_core.proofs.HighestFileLemmas.{NamesUpTo, names_up_to}
use Rattle.store_core.proofs.KeptFileLemmas.{with_change, CameAll, HasFile, came_longer, came_made, came_taken, came_released, grew, pins_kept, pins_released, kept_on, kept_begun, none_begun, begun_or_before}
use Rattle.store_core.proofs.MailChangeLemmas.{Own, MailChange, mail_added, mail_made, mail_same, region_firm, added_as_read, opens_on, root_on, settled_on, stored_on, front_safe, absent_safe}

-- ---- files that no crash takes away

stay_before : (old new : List MailFile) (rows : List MapRecord) (disk : DiskState) → CameAll old new → StayThere old rows disk → StayThere new rows disk
stay_before old new rows disk came stay = λ number f found grows there. let c = came number f found in stay number c.was c.found (grew old number f c grows) there

is_there_from : (f : FileState) (octets : List ℕ) → reading f ≡ Some octets → IsThere f
is_there_from f octets e = (reads_there f octets e).0

-- of which octets were added to one
pub stay_added : (old new : List MailFile) (rows : List MapRecord) (n : ℕ) (a b : DiskState) (octets : List ℕ) → CameAll old new → ((other : FileName) → other ≢ file.Mail n → b other ≡ a other) → IsAddedTo octets (a (file.Mail n)) (b (file.Mail n))
    → StayThere old rows a → StayThere new rows b
stay_added old new rows n a b octets came same added stay = λ number f found grows there.
    let c = came number f found in
    let grown : MayGrow c.was = grew old number f c grows in
    elim (cases_eq number n) [
      | inl is ↦
          let here : IsThere (a (file.Mail number)) = subst (λ (k : ℕ). IsThere (a (file.Mail k))) (sym is) (is_there_from (a (file.Mail n)) added.before added.read) in
          elim (stay number c.was c.found grown here) [
            | inl has ↦ inl has
            | inr firm ↦ inr (λ gone. elim ((added.leaves None).0 (subst (λ (k : ℕ). MayLeave (b (file.Mail k)) None) is gone)) [
              | inl some ↦ absurd (let w : None ≡ Some (added.before ++ octets) = some in cc w)
              | inr none ↦ firm (subst (λ (k : ℕ). MayLeave (a (file.Mail k)) None) (sym is) none.1)
            ])
          ]
      | inr apart ↦
          let e : b (file.Mail number) ≡ a (file.Mail number) = same (file.Mail number) (λ p. apart (let w : file.Mail number ≡ file.Mail n = p in cc w)) in
          subst (λ (s : FileState). (list_any (λ row. row.file == number) rows ≡ true) ⊎ (MayLeave s None → ⊥)) (sym e)
          (stay number c.was c.found grown (subst IsThere e there))
    ]

pub named_there : (f : FileState) → IsThere (named f) → IsThere f
named_there f there = elim (cases_Bool f.is_there) [
  | inl is ↦ is
  | inr gone ↦ absurd (let e : named f ≡ no_file = cond-false f.is_there (record f { is_name_loose = false }) no_file gone in false≢true (subst IsThere e there))
]

-- of which one was made
pub stay_made : (old new : List MailFile) (rows : List MapRecord) (n : ℕ) (a b : DiskState) (header : List ℕ) → CameAll old new → ((other : FileName) → other ≢ file.Mail n → b other ≡ named (a other)) → Keeps (b (file.Mail n)) header
    → StayThere old rows a → StayThere new rows b
stay_made old new rows n a b header came same keeps stay = λ number f found grows there.
    let c = came number f found in
    let grown : MayGrow c.was = grew old number f c grows in
    elim (cases_eq number n) [
      | inl is ↦ inr (λ gone. absurd (let w : None ≡ Some header = (keeps.leaves None).0 (subst (λ (k : ℕ). MayLeave (b (file.Mail k)) None) is gone) in cc w))
      | inr apart ↦
          let e : b (file.Mail number) ≡ named (a (file.Mail number)) = same (file.Mail number) (λ p. apart (let w : file.Mail number ≡ file.Mail n = p in cc w)) in
          elim (stay number c.was c.found grown (named_there (a (file.Mail number)) (subst IsThere e there))) [
            | inl has ↦ inl has
            | inr firm ↦ inr (λ gone. firm (named-narrows (a (file.Mail number)) None (subst (λ (s : FileState). MayLeave s None) e gone)))
          ]
    ]

-- one that is about to be made isn't there
stay_begun : (file_no : FileNo) (old : List MailFile) (rows : List MapRecord) (disk : DiskState) → file_in file_no.0 old ≡ None → option_map length (reading (disk (file.Mail file_no.0))) ≡ None → StayThere old rows disk → StayThere (old ++ file_begun file_no ∷ []) rows disk
stay_begun file_no old rows disk none absent stay = λ number f found grows there. elim (begun_or_before file_no old number f none found) [
  | inl begun ↦
      let here : IsThere (disk (file.Mail file_no.0)) = subst (λ (k : ℕ). IsThere (disk (file.Mail k))) begun.0 there in
      let read : reading (disk (file.Mail file_no.0)) ≡ Some (disk (file.Mail file_no.0)).octets = cond-true (disk (file.Mail file_no.0)).is_there (Some (disk (file.Mail file_no.0)).octets) None here in
      absurd (let w : Some (length (disk (file.Mail file_no.0)).octets) ≡ None = sym (ap (option_map length) read) ∙ absent in cc w)
  | inr before ↦ stay number f before grows there
]

-- ---- what is read

reads_on : (n : ℕ) (log : LogState) (entries : List (List ℕ)) (old new : Option History) → Between (MailChange n) old new → log.name ≢ file.Mail n → Reads log entries old → Reads log entries new
reads_on n log entries old new change apart r =
    between-on (MailChange n) (IsLogRead log entries) (IsLogRead log entries) old new (λ a b c i. record { file = c.reads log.name apart ∙ i.file; end = i.end; count = i.count; head_fits = i.head_fits; entries_fit = i.entries_fit }) change r

boxes_on : (n : ℕ) (store : List ℕ) (mailboxes : List MapBox) (boxes : List OpenBox) (logs : List (List BoxEntry)) (old new : Option History) → Between (MailChange n) old new → AreBoxLogs store mailboxes boxes → ReadBoxLogs old boxes logs → ReadBoxLogs new boxes logs
boxes_on n store [] [] [] old new change a r = tt
boxes_on n store [] [] (l ∷ ls) old new change a r = absurd r
boxes_on n store [] (b ∷ bs) logs old new change a r = absurd a
boxes_on n store (m ∷ ms) [] logs old new change a r = absurd a
boxes_on n store (m ∷ ms) (b ∷ bs) [] old new change a r = absurd r
boxes_on n store (m ∷ ms) (b ∷ bs) (l ∷ ls) old new change a r = (
  reads_on n b.log (map box_text l) old new change (λ e. absurd (let w : file.Box m.number m.generation ≡ file.Mail n = sym a.1 ∙ e in cc w)) r.0,
  boxes_on n store ms bs ls old new change a.3 r.1,
)

-- a store that runs, on the disk afterwards, with these storage files
running_on : {D : Type 0} → (n : ℕ) (old new : Option History) (v : StoreValue D) (disk : D) (files : FilesValue) → (s : IsStore old v) → Between (MailChange n) old new → ((number : ℕ) → IsAsKnown files.files number new) → IfTold new (StayThere files.files v.map.records)
    → IsRunning old s.generation v s.entries s.logs → IsRunning new s.generation (record v { disk = disk; files = files }) s.entries s.logs
running_on n old new v disk files s change known stay r = record {
  opens = between-on (MailChange n) (λ now. Opens (files_of now) v.map.store s.entries s.logs) (λ now. Opens (files_of now) v.map.store s.entries s.logs) old new (λ a b c o. opens_on n a b v.map.store s.entries s.logs c o) change r.opens;
  root = between-on (MailChange n) (λ now. HasRoot (files_of now) v.map.store s.generation) (λ now. HasRoot (files_of now) v.map.store s.generation) old new (λ a b c h. root_on n a b v.map.store s.generation c h) change r.root;
  root_entries = r.root_entries;
  root_log_reads = reads_on n v.root_log r.root_entries old new change (λ e. absurd (let w : file.Root ≡ file.Mail n = sym s.root_name ∙ e in cc w)) r.root_log_reads;
  map_log_reads = reads_on n v.map_log (map map_text s.entries) old new change (λ e. absurd (let w : file.Map s.generation ≡ file.Mail n = sym s.map_name ∙ e in cc w)) r.map_log_reads;
  box_logs_read = boxes_on n v.map.store v.map.boxes v.boxes s.logs old new change s.box_logs r.box_logs_read;
  files_known = known;
  files_stay = stay;
}

-- ---- the store

pub store_on : {D : Type 0} → (n : ℕ) (old new : Option History) (v : StoreValue D) (disk : D) (files : FilesValue) → IsStore old v → v.stopped ≡ false → Between (MailChange n) old new → ((number : ℕ) → IsAsKnown files.files number new)
    → IfTold new (StayThere files.files v.map.records) → AreFilesKept files v.drawn v.map → IsStore new (record v { disk = disk; files = files })
store_on n old new v disk files s runs change known stay kept = record {
  entries = s.entries;
  logs = s.logs;
  generation = s.generation;
  good = s.good;
  map_is = s.map_is;
  boxes_are = s.boxes_are;
  counts = s.counts;
  drawn = s.drawn;
  files = kept;
  root_name = s.root_name;
  root_head = s.root_head;
  map_name = s.map_name;
  map_head = s.map_head;
  box_logs = s.box_logs;
  some_lanes = s.some_lanes;
  few_lanes = s.few_lanes;
  running = λ _. running_on n old new v disk files s change known stay (s.running runs);
}

-- it is stopped after a change that failed
pub store_stopped : {D : Type 0} → (old new : Option History) (v : StoreValue D) (disk : D) → IsStore old v → IsStore new (record v { disk = disk; stopped = true })
store_stopped old new v disk s = record {
  entries = s.entries;
  logs = s.logs;
  generation = s.generation;
  good = s.good;
  map_is = s.map_is;
  boxes_are = s.boxes_are;
  counts = s.counts;
  drawn = s.drawn;
  files = s.files;
  root_name = s.root_name;
  root_head = s.root_head;
  map_name = s.map_name;
  map_head = s.map_head;
  box_logs = s.box_logs;
  some_lanes = s.some_lanes;
  few_lanes = s.few_lanes;
  running = λ runs. absurd (true≢false runs);
}

same_change : (old new : Option History) → SameState old new → Between (MailChange 0) old new
same_change old new same = between-map (λ a b. b ≡ a) (MailChange 0) old new (λ a b e. subst (λ (d : DiskState). MailChange 0 a d) (sym e) (mail_same 0 a)) same

-- after a call that changed nothing
pub store_idle : {D : Type 0} → (old new : Option History) (v : StoreValue D) (disk : D) → SameState old new → IsStore old v → IsStore new (record v { disk = disk })
store_idle old new v disk same s = record {
  entries = s.entries;
  logs = s.logs;
  generation = s.generation;
  good = s.good;
  map_is = s.map_is;
  boxes_are = s.boxes_are;
  counts = s.counts;
  drawn = s.drawn;
  files = s.files;
  root_name = s.root_name;
  root_head = s.root_head;
  map_name = s.map_name;
  map_head = s.map_head;
  box_logs = s.box_logs;
  some_lanes = s.some_lanes;
  few_lanes = s.few_lanes;
  running = λ runs.
      let r = s.running runs in
      let ran = running_on 0 old new v disk v.files s (same_change old new same)
      (λ number. between-on (λ a b. b ≡ a) (λ d. option_map length (reading (d (file.Mail number))) ≡ end_in number v.files.files) (λ d. option_map length (reading (d (file.Mail number))) ≡ end_in number v.files.files) old new
      (λ a b e k. subst (λ (d : DiskState). option_map length (reading (d (file.Mail number))) ≡ end_in number v.files.files) (sym e) k) same (r.files_known number))
      (between-on (λ a b. b ≡ a) (StayThere v.files.files v.map.records) (StayThere v.files.files v.map.records) old new (λ a b e k. subst (λ (d : DiskState). StayThere v.files.files v.map.records d) (sym e) k) same r.files_stay) r in
      record {
        opens = ran.opens;
        root = ran.root;
        root_entries = ran.root_entries;
        root_log_reads = ran.root_log_reads;
        map_log_reads = ran.map_log_reads;
        box_logs_read = ran.box_logs_read;
        files_known = ran.files_known;
        files_stay = ran.files_stay;
      };
}

-- with other storage files, as long as they were
pub store_with : {D : Type 0} → (h : Option History) (v : StoreValue D) (files : FilesValue) (drawn : Highest) → IsUpTo drawn v.map.highest → AreFilesKept files drawn v.map → ((number : ℕ) → end_in number files.files ≡ end_in number v.files.files)
    → (IfTold h (StayThere v.files.files v.map.records) → ((number : ℕ) → IsAsKnown v.files.files number h) → IfTold h (StayThere files.files v.map.records)) → IsStore h v → IsStore h (record v { files = files; drawn = drawn })
store_with h v files drawn up kept ends stay s = record {
  entries = s.entries;
  logs = s.logs;
  generation = s.generation;
  good = s.good;
  map_is = s.map_is;
  boxes_are = s.boxes_are;
  counts = s.counts;
  drawn = up;
  files = kept;
  root_name = s.root_name;
  root_head = s.root_head;
  map_name = s.map_name;
  map_head = s.map_head;
  box_logs = s.box_logs;
  some_lanes = s.some_lanes;
  few_lanes = s.few_lanes;
  running = λ runs.
      let r = s.running runs in
      record {
        opens = r.opens;
        root = r.root;
        root_entries = r.root_entries;
        root_log_reads = r.root_log_reads;
        map_log_reads = r.map_log_reads;
        box_logs_read = r.box_logs_read;
        files_known = λ number. if_told-map _ _ h (λ disk e. e ∙ sym (ends number)) (r.files_known number);
        files_stay = stay r.files_stay r.files_known;
      };
}

-- taken or given back
pub store_came : {D : Type 0} → (h : Option History) (v : StoreValue D) (files : FilesValue) → CameAll v.files.files files.files → files.highest ≡ v.files.highest → ArePinsOfRecords files.files v.map.records → ((number : ℕ) → end_in number files.files ≡ end_in number v.files.files) → IsStore h v → IsStore h (record v { files = files })
store_came h v files came high pinned ends s =
    store_with h v files v.drawn s.drawn (kept_on v.files files v.drawn v.map came high pinned s.files) ends
    (λ stay known. if_told-map (StayThere v.files.files v.map.records) (StayThere files.files v.map.records) h (λ disk k. stay_before v.files.files files.files v.map.records disk came k) stay) s

-- or begun
pub store_begun : {D : Type 0} → (h : Option History) (v : StoreValue D) (file_no : FileNo) (spare : ℕ) → AreFilesInOrder v.files → file_no.0 ≡ v.files.highest + 1 → v.files.highest < 4294967294
    → ((number : ℕ) → end_in number (v.files.files ++ file_begun file_no ∷ []) ≡ end_in number v.files.files) → IsStore h v
    → IsStore h (record v { files = record { files = v.files.files ++ file_begun file_no ∷ []; highest = file_no.0; spare = spare }; drawn = record v.drawn { file = file_no.0 } })
store_begun h v file_no spare order next last ends s =
    let none : file_in file_no.0 v.files.files ≡ None = none_begun file_no v.files order next in
    let names : NamesUpTo v.map = subst NamesUpTo (sym s.map_is) (names_up_to v.map.store s.entries) in
    let up : v.map.highest.file ≤ v.drawn.file = s.drawn.file in
    let high : v.files.highest ≡ v.drawn.file = s.files.highest in
    store_with h v (record { files = v.files.files ++ file_begun file_no ∷ []; highest = file_no.0; spare = spare }) (record v.drawn { file = file_no.0 })
    (record { file = omega (arith, up, high, next); map = s.drawn.map; instance = s.drawn.instance; mailbox = s.drawn.mailbox })
    (kept_begun v.files file_no spare v.drawn v.map order next last up (store_sound h v s).files names s.files) ends
    (λ stay known. absent_stays h (known file_no.0) stay none) s
  where
    absent_stays : (h : Option History) → IsAsKnown v.files.files file_no.0 h → IfTold h (StayThere v.files.files v.map.records) → file_in file_no.0 v.files.files ≡ None → IfTold h (StayThere (v.files.files ++ file_begun file_no ∷ []) v.map.records)
    absent_stays None known stay none = tt
    absent_stays (Some old) known stay none =
        stay_begun file_no v.files.files v.map.records old.now none (known ∙ ap (λ (o : Option MailFile). option_and_then (λ f. f.end) o) none) stay

-- ---- what a crash leaves, and what a settled disk is afterwards

pub each_grows : (P : ℕ → Files → Type 0) (old new : Option History) → EachImage P old new → Grows old new
each_grows P None new each = omega arith
each_grows P (Some old) None each = absurd each
each_grows P (Some old) (Some new) each = each.later

pub placed_leaves : (n end : ℕ) (old new : Option History) → IfTold old Own → EachImage (λ _ image. FrontStays (file.Mail n) end old image × OthersStay (file.Mail n) old image) old new
    → (lists : Lists) → IsSettledFor lists old → Leaves lists lists old new
placed_leaves n end None new own each lists settled = absurd settled
placed_leaves n end (Some old) new own each lists settled =
    each_image-map (λ _ image. FrontStays (file.Mail n) end (Some old) image × OthersStay (file.Mail n) (Some old) image) (λ _ image. Safe image lists ⊎ Safe image lists) (Some old) new
    (λ moment image i. inl (front_safe old.now lists n end image settled own i.0 i.1)) each

pub made_leaves : (n written : ℕ) (old new : Option History) → IfTold old Own → IfTold old (λ now. reading (now (file.Mail n)) ≡ None) → EachImage (λ _ image. IsNewOrNone (file.Mail n) written old image × OthersStay (file.Mail n) old image) old new
    → (lists : Lists) → IsSettledFor lists old → Leaves lists lists old new
made_leaves n written None new own none each lists settled = absurd settled
made_leaves n written (Some old) new own none each lists settled =
    each_image-map (λ _ image. IsNewOrNone (file.Mail n) written (Some old) image × OthersStay (file.Mail n) (Some old) image) (λ _ image. Safe image lists ⊎ Safe image lists) (Some old) new
    (λ moment image i. inl (absent_safe old.now lists n image settled own none i.1)) each

pub settled_then : (n : ℕ) (old new : Option History) → Between (MailChange n) old new → (lists : Lists) → IsSettledFor lists old → IsSettledFor lists new
settled_then n None new change lists settled = absurd settled
settled_then n (Some old) None change lists settled = absurd change
settled_then n (Some old) (Some new) change lists settled = settled_on n old.now new.now lists change settled

pub stored_then : (n : ℕ) (old new : Option History) → Between (MailChange n) old new → KeepsStored old new
stored_then n old new change = between-map (MailChange n) (λ a b. (row : MapRecord) (octets : List ℕ) → StoresMessage (files_of a) row octets → StoresMessage (files_of b) row octets) old new (λ a b c row octets h. stored_on n a b row octets c h) change

-- octets are added to a storage file, or one is made

pub change_added : (n : ℕ) (octets : List ℕ) (old new : Option History) → IfTold old Own → SameButFor (file.Mail n) old new → Between (λ a b. IsAddedTo octets (a (file.Mail n)) (b (file.Mail n))) old new → Between (MailChange n) old new
change_added n octets None new own same added = same
change_added n octets (Some old) None own same added = absurd same
change_added n octets (Some old) (Some new) own same added = mail_added n old.now new.now octets own same added

pub change_made : (n : ℕ) (old new : Option History) → IfTold old Own → IfTold old (λ now. reading (now (file.Mail n)) ≡ None) → OthersAreNamed (file.Mail n) old new → Between (MailChange n) old new
change_made n None new own none same = same
change_made n (Some old) None own none same = absurd same
change_made n (Some old) (Some new) own none same = mail_made n old.now new.now own none same

pub stay_placed : (files later : List MailFile) (rows : List MapRecord) (n : ℕ) (octets : List ℕ) (old new : Option History) → CameAll files later → SameButFor (file.Mail n) old new → Between (λ a b. IsAddedTo octets (a (file.Mail n)) (b (file.Mail n))) old new
    → IfTold old (StayThere files rows) → IfTold new (StayThere later rows)
stay_placed files later rows n octets None new came same added stay = subst (λ (h : Option History). IfTold h (StayThere later rows)) (sym same) tt
stay_placed files later rows n octets (Some old) None came same added stay = absurd same
stay_placed files later rows n octets (Some old) (Some new) came same added stay = stay_added files later rows n old.now new.now octets came same added stay

pub stay_new : (files later : List MailFile) (rows : List MapRecord) (n : ℕ) (header : List ℕ) (old new : Option History) → CameAll files later → OthersAreNamed (file.Mail n) old new → IfTold new (λ now. Keeps (now (file.Mail n)) header)
    → IfTold old (StayThere files rows) → IfTold new (StayThere later rows)
stay_new files later rows n header None new came same keeps stay = subst (λ (h : Option History). IfTold h (StayThere later rows)) (sym same) tt
stay_new files later rows n header (Some old) None came same keeps stay = absurd same
stay_new files later rows n header (Some old) (Some new) came same keeps stay = stay_made files later rows n old.now new.now header came same keeps stay

-- where nothing is known to be, nothing is read
pub absent_there : (n : ℕ) (files : List MailFile) (old : Option History) → end_in n files ≡ None → IsAsKnown files n old → IfTold old (λ now. reading (now (file.Mail n)) ≡ None)
absent_there n files old none known = if_told-map _ _ old (λ disk e. no_length (reading (disk (file.Mail n))) (e ∙ none)) known
  where
    no_length : (o : Option (List ℕ)) → option_map length o ≡ None → o ≡ None
    no_length None e = refl
    no_length (Some x) e = absurd (let w : Some (length x) ≡ None = e in cc w)

-- what was placed
pub ends_with : (n offset : ℕ) (octets : List ℕ) (files : List MailFile) (old new : Option History) → end_in n files ≡ Some offset → IsAsKnown files n old → Between (λ a b. IsAddedTo octets (a (file.Mail n)) (b (file.Mail n))) old new
    → IfTold new (λ now. EndsWith offset octets (now (file.Mail n)))
ends_with n offset octets files old new is known added =
    between-on (λ a b. IsAddedTo octets (a (file.Mail n)) (b (file.Mail n))) (λ disk. option_map length (reading (disk (file.Mail n))) ≡ end_in n files) (λ now. EndsWith offset octets (now (file.Mail n))) old new
    (λ a b r e. record { before = r.before; long = same_Some _ _ (sym (ap (option_map length) r.read) ∙ e ∙ is); reads = r.reads }) added known

-- a crash leaves it, since it was there to stay
held_now : {D : Type 0} → (n offset : ℕ) (octets : List ℕ) (old new : History) (v : StoreValue D) (disk : D) (files : FilesValue) (lists : Lists) → IsStore (Some old) v → v.stopped ≡ false → HasFile n offset v.files.files → Own new.now → IsAddedTo octets (old.now (file.Mail n)) (new.now (file.Mail n))
    → IsStore (Some new) (record v { disk = disk; files = files }) → IsSettled new.now lists → LeavesAsRead (file.Mail n) new.now
held_now n offset octets old new v disk files lists s runs h own added later settled =
    let r = s.running runs in
    let grows : MayGrow h.f = s.files.taken n h.f h.found h.taken in
    let here : IsThere (old.now (file.Mail n)) = is_there_from (old.now (file.Mail n)) added.before added.read in
    added_as_read n old.now new.now octets added (elim (r.files_stay n h.f h.found grows here) [
      | inl has ↦ λ gone. region_firm new.now lists settled n own (subst (λ (m : MapMeaning). list_any (λ row. row.file == n) m.records ≡ true) same has) ((added.leaves None).1 (inr (refl, gone)))
      | inr firm ↦ firm
    ])
  where
    same : v.map ≡ map_meaning settled.store settled.entries
    same =
        let one = map_same (files_of new.now) v.map.store settled.store later.entries settled.entries (later.running runs).opens.passed.map_log settled.safe.stands.map_log in
        later.map_is ∙ ap (λ (id : List ℕ). map_meaning id later.entries) one.0 ∙ ap (map_meaning settled.store) one.1

pub held_then : {D : Type 0} → (n offset : ℕ) (octets : List ℕ) (old new : Option History) (v : StoreValue D) (disk : D) (files : FilesValue) → IsStore old v → v.stopped ≡ false → HasFile n offset v.files.files → IfTold new Own → Between (λ a b. IsAddedTo octets (a (file.Mail n)) (b (file.Mail n))) old new
    → IsStore new (record v { disk = disk; files = files }) → (lists : Lists) → IsSettledFor lists new → IfTold new (LeavesAsRead (file.Mail n))
held_then n offset octets old None v disk files s runs h own added later lists settled = absurd settled
held_then n offset octets None (Some new) v disk files s runs h own added later lists settled = absurd (let e : Some new ≡ None = added in cc e)
held_then n offset octets (Some old) (Some new) v disk files s runs h own added later lists settled = held_now n offset octets old new v disk files lists s runs h own added later settled

-- ---- by what the calls have at hand

pub room_kept : {D : Type 0} → (v : StoreValue D) (disk : D) (files : FilesValue) (drawn : Highest) (stopped : Bool) → HasEntryRoom v → HasEntryRoom (record v { disk = disk; files = files; drawn = drawn; stopped = stopped })
room_kept v disk files drawn stopped r = record { map_log = r.map_log; box_logs = r.box_logs }

pub placed_store : {D : Type 0} → (n offset : ℕ) (octets : List ℕ) (old new : Option History) (v : StoreValue D) (disk : D) (files : FilesValue) → IsStore old v → v.stopped ≡ false → IfTold old Own → end_in n v.files.files ≡ Some offset
    → files ≡ with_change n (ending_at (offset + length octets)) v.files → SameButFor (file.Mail n) old new → Between (λ a b. IsAddedTo octets (a (file.Mail n)) (b (file.Mail n))) old new
    → ((number : ℕ) → IsAsKnown v.files.files number old → IsAsKnown files.files number new) → IsStore new (record v { disk = disk; files = files })
placed_store n offset octets old new v disk files s runs own ends is same added still =
    let later : FilesValue = with_change n (ending_at (offset + length octets)) v.files in
    let r = s.running runs in
    let came : CameAll v.files.files later.files = came_longer n offset (length octets) v.files.files ends in
    subst (λ (f : FilesValue). IsStore new (record v { disk = disk; files = f })) (sym is)
    (store_on n old new v disk later s runs (change_added n octets old new own same added)
    (λ number. subst (λ (f : FilesValue). IsAsKnown f.files number new) is (still number (r.files_known number)))
    (stay_placed v.files.files later.files v.map.records n octets old new came same added r.files_stay)
    (kept_on v.files later v.drawn v.map came refl (pins_kept n (ending_at (offset + length octets)) v.files.files v.map.records (λ f. refl) (λ f. refl) (λ f. refl) s.files.pinned) s.files))

pub made_store : {D : Type 0} → (n : ℕ) (header : List ℕ) (old new : Option History) (v : StoreValue D) (disk : D) (files : FilesValue) → IsStore old v → v.stopped ≡ false → IfTold old Own → end_in n v.files.files ≡ None
    → files ≡ with_change n (ending_at (length header)) v.files → OthersAreNamed (file.Mail n) old new → IfTold new (λ now. Keeps (now (file.Mail n)) header)
    → ((number : ℕ) → IsAsKnown v.files.files number old → IsAsKnown files.files number new) → IsStore new (record v { disk = disk; files = files })
made_store n header old new v disk files s runs own none is same keeps still =
    let later : FilesValue = with_change n (ending_at (length header)) v.files in
    let r = s.running runs in
    let came : CameAll v.files.files later.files = came_made n (length header) v.files.files none in
    subst (λ (f : FilesValue). IsStore new (record v { disk = disk; files = f })) (sym is)
    (store_on n old new v disk later s runs (change_made n old new own (absent_there n v.files.files old none (r.files_known n)) same)
    (λ number. subst (λ (f : FilesValue). IsAsKnown f.files number new) is (still number (r.files_known number)))
    (stay_new v.files.files later.files v.map.records n header old new came same keeps r.files_stay)
    (kept_on v.files later v.drawn v.map came refl (pins_kept n (ending_at (length header)) v.files.files v.map.records (λ f. refl) (λ f. refl) (λ f. refl) s.files.pinned) s.files))

-- a file that is given back
pub released_store : {D : Type 0} → (h : Option History) (v : StoreValue D) (files : FilesValue) (n : ℕ) → files ≡ record v.files { files = released_in n v.files.files } → ((number : ℕ) → end_in number files.files ≡ end_in number v.files.files)
    → IsStore h v → IsStore h (record v { files = files })
released_store h v files n is ends s =
    subst (λ (f : FilesValue). IsStore h (record v { files = f })) (sym is)
    (store_came h v (record v.files { files = released_in n v.files.files }) (came_released n v.files.files) refl (pins_released n v.files.files v.map.records s.files.pinned) (λ number. subst (λ (f : FilesValue). end_in number f.files ≡ end_in number v.files.files) is (ends number)) s)

-- a new file, whose number is drawn
pub new_store : {D : Type 0} → (h : Option History) (v : StoreValue D) (files : FilesValue) (size : ℕ) (file_no : FileNo) → AreFilesInOrder v.files → IsTakeFor size v.files (New file_no) → files ≡ after_take (New file_no) v.files
    → ((number : ℕ) → end_in number files.files ≡ end_in number v.files.files) → IsStore h v → IsStore h (record v { files = files; drawn = record v.drawn { file = file_no.0 } })
new_store h v files size file_no order is after ends s =
    subst (λ (f : FilesValue). IsStore h (record v { files = f; drawn = record v.drawn { file = file_no.0 } })) (sym after)
    (store_begun h v file_no (v.files.spare - 1) order is.1 is.2 (λ number. subst (λ (f : FilesValue). end_in number f.files ≡ end_in number v.files.files) after (ends number)) s)

-- a file that was there, or none
pub known_store : {D : Type 0} → (h : Option History) (v : StoreValue D) (files : FilesValue) (size : ℕ) (take : Take) → ((file_no : FileNo) → take ≡ New file_no → ⊥) → AreFilesInOrder v.files → IsTakeFor size v.files take → files ≡ after_take take v.files
    → ((number : ℕ) → end_in number files.files ≡ end_in number v.files.files) → IsStore h v → IsStore h (record v { files = files })
known_store h v files size (Known file_no) other order is after ends s =
    subst (λ (f : FilesValue). IsStore h (record v { files = f })) (sym after)
    (store_came h v (after_take (Known file_no) v.files) (came_taken size file_no.0 v.files is.0 order is.1 (ap (λ (f : FileNo). f.0) is.2) is.3) refl (pins_kept file_no.0 (with_taken true) v.files.files v.map.records (λ f. refl) (λ f. refl) (λ f. refl) s.files.pinned)
    (λ number. subst (λ (f : FilesValue). end_in number f.files ≡ end_in number v.files.files) after (ends number)) s)
known_store h v files size (New file_no) other order is after ends s = absurd (other file_no refl)
known_store h v files size Full other order is after ends s = subst (λ (f : FilesValue). IsStore h (record v { files = f })) (sym after) s
