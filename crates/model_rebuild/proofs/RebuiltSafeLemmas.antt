-- Files with the logs of a rebuilt store are safe for its lists.
use Rattle.std.specs.Prelude.{◌≡◌, ◌≢◌, ◌≤◌, ◌+◌, ℕ, Bool, true, false, cond, List, [], ◌∷◌, ◌++◌, find, flat_map, sum_by, count_by, refl, Some, All, AllPairs, Contains}
use Rattle.std.specs.Option.{option_map_or}
use Rattle.std.specs.Str.{bytes_eq}
use Rattle.std.proofs.Common.{sym, ◌∙◌, ap, subst, arith}
use Rattle.std.proofs.lemmas.List.Elements.{All-nil, All-cons, All-head, All-tail, All-weaker, All-contains, All-append}
use Rattle.std.proofs.lemmas.List.Kept.{AllPairs-cons}
use Rattle.std.proofs.lemmas.List.Sums.{sum_by-cons}
use Rattle.disk_model.specs.Disk.{Files}
use Rattle.disk_model.specs.declared.name.FileName.TheVariants as file
use Rattle.mdbox_base.specs.Words.{IsNumber}
use Rattle.mdbox_base.specs.declared.entries.InstRow.{InstRow}
use Rattle.model_octets.proofs.PairLemmas.{pairs_head, pairs_tail, pairs_nil}
use Rattle.model_octets.proofs.SearchLemmas.{text_is}
use Rattle.model_lists.specs.Lists.{ListedMessage, Mailbox, refs_of}
use Rattle.model_meaning.specs.MapMeaning.{MapRecord, MapMeaning, map_meaning, count_of}
use Rattle.model_store.specs.Safe.{LiesInFile, IsThereWhole, SafeBy, Safe}
use Rattle.model_store.specs.Stands.{AreMailboxes}
use Rattle.model_found.specs.Findings.{NumberedFile, IsThereAs, Finding, Stored, Unread, FileFinding, findings_of, HaveFindings}
use Rattle.model_rebuild.proofs.NumberingLemmas.{HighestInRange, free_is_number, highest_in_range}
use Rattle.model_rebuild.proofs.MapFitLemmas.{records_from}
use Rattle.model_rebuild.proofs.RebuiltBoxLemmas.{all_are_mapped, mailboxes_rebuilt}
use Rattle.model_rebuild.proofs.RebuiltMapLemmas.{met_names, HasFileNumber, map_rebuilt, map_in_range}
use Rattle.model_rebuild.specs.RebuildPlan.{RebuildPlan, IsPlanFor, IsMapUsed, IsBoxUsed}
use Rattle.model_rebuild.specs.RebuiltLists.{listed_from, sent_to, rebuilt_mailbox, mailboxes_from, lists_of}
use Rattle.model_rebuild.specs.RebuiltLogs.{rebuilt_map, HasRebuiltLogs, HasSameMessage}
use Rattle.model_taken.proofs.GoodListLemmas.{IsStored, IsGoodList}
use Rattle.model_taken.proofs.GoodRebuildLemmas.{rebuild_good}
use Rattle.model_taken.proofs.RangeLemmas.{TakenInRange}
use Rattle.model_taken.specs.Judging.{Verdict, Takes, PassesOver, Skips, Judgement, IsJudgedFinding, taken_by, AreJudged}
use Rattle.model_taken.specs.Rebuild.{Rebuild, SkippedPlace, skipped_at, skipped_by}
use Rattle.model_taken.specs.Taken.{TakenMessage, record_for, mailboxes_met}

-- ---- counts

abbrev one_if : Bool → ℕ
one_if b = cond b 1 0

abbrev of_guid : List ℕ → TakenMessage → ℕ
of_guid guid t = one_if (bytes_eq t.guid guid)

listed_counted : (guid : List ℕ) (uid : ℕ) (ts : List TakenMessage) → count_by (λ (m : ListedMessage). bytes_eq m.guid guid) (listed_from uid ts) ≡ sum_by (of_guid guid) ts
listed_counted guid uid [] = refl
listed_counted guid uid (t ∷ ts) =
    let a = sum_by-cons (λ (m : ListedMessage). one_if (bytes_eq m.guid guid)) (record { uid = uid; flags = 0; time = t.time; guid = t.guid; octets = t.octets; words = [] }) (listed_from (uid + 1) ts) in
    let b = sum_by-cons (of_guid guid) t ts in
    let rest = listed_counted guid (uid + 1) ts in
    omega (arith, a, b, rest)

abbrev in_mailbox : List ℕ → List TakenMessage → List ℕ → ℕ
in_mailbox guid taken name = sum_by (of_guid guid) (sent_to name taken)

lists_counted : (guid : List ℕ) (number : ℕ) (names : List (List ℕ)) (taken : List TakenMessage) → refs_of (mailboxes_from number names taken) guid ≡ sum_by (in_mailbox guid taken) names
lists_counted guid number [] taken = refl
lists_counted guid number (name ∷ names) taken =
    let a = sum_by-cons (λ (x : Mailbox). count_by (λ (m : ListedMessage). bytes_eq m.guid guid) x.messages) (rebuilt_mailbox number name (sent_to name taken)) (mailboxes_from (number + 1) names taken) in
    let b = sum_by-cons (in_mailbox guid taken) name names in
    let here = listed_counted guid 1 (sent_to name taken) in
    let rest = lists_counted guid (number + 1) names taken in
    omega (arith, a, b, here, rest)

abbrev if_named : List ℕ → ℕ → List ℕ → ℕ
if_named mailbox n name = cond (bytes_eq mailbox name) n 0

-- a message goes to one mailbox
none_named : (mailbox : List ℕ) (n : ℕ) (names : List (List ℕ)) → All (λ name. mailbox ≢ name) names → sum_by (if_named mailbox n) names ≡ 0
none_named mailbox n [] h = refl
none_named mailbox n (name ∷ names) h =
    let a = sum_by-cons (if_named mailbox n) name names in
    let rest = none_named mailbox n names (All-tail (λ (x : List ℕ). mailbox ≢ x) name names h) in
    by_test (bytes_eq mailbox name) refl a rest
  where
    by_test : (b : Bool) → bytes_eq mailbox name ≡ b → sum_by (if_named mailbox n) (name ∷ names) ≡ if_named mailbox n name + sum_by (if_named mailbox n) names → sum_by (if_named mailbox n) names ≡ 0 → sum_by (if_named mailbox n) (name ∷ names) ≡ 0
    by_test true e a rest = absurd (All-head (λ (x : List ℕ). mailbox ≢ x) name names h (text_is mailbox name e))
    by_test false e a rest = let z : if_named mailbox n name ≡ 0 = ap (λ (b : Bool). cond b n 0) e in omega (arith, a, rest, z)

one_named : (mailbox : List ℕ) (n : ℕ) (names : List (List ℕ)) → AllPairs (λ a b. a ≢ b) names → sum_by (if_named mailbox n) names ≤ n
one_named mailbox n [] h = omega arith
one_named mailbox n (name ∷ names) h =
    by_test (bytes_eq mailbox name) refl (sum_by-cons (if_named mailbox n) name names) (one_named mailbox n names (pairs_tail (λ (a b : List ℕ). a ≢ b) name names h))
  where
    by_test : (b : Bool) → bytes_eq mailbox name ≡ b → sum_by (if_named mailbox n) (name ∷ names) ≡ if_named mailbox n name + sum_by (if_named mailbox n) names → sum_by (if_named mailbox n) names ≤ n → sum_by (if_named mailbox n) (name ∷ names) ≤ n
    by_test true e a rest =
        let z : if_named mailbox n name ≡ n = ap (λ (b : Bool). cond b n 0) e in
        let none = none_named mailbox n names (All-weaker (λ (x : List ℕ). name ≢ x) (λ (x : List ℕ). mailbox ≢ x) (λ x h same. h (sym (text_is mailbox name e) ∙ same)) names (pairs_head (λ (a b : List ℕ). a ≢ b) name names h)) in
        omega (arith, a, z, none)
    by_test false e a rest = let z : if_named mailbox n name ≡ 0 = ap (λ (b : Bool). cond b n 0) e in omega (arith, a, z, rest)

-- one message more in each mailbox
mailbox_more : (guid : List ℕ) (t : TakenMessage) (taken : List TakenMessage) (name : List ℕ) → in_mailbox guid (t ∷ taken) name ≡ if_named t.mailbox (of_guid guid t) name + in_mailbox guid taken name
mailbox_more guid t taken name = by_test (bytes_eq t.mailbox name)
  where
    by_test : (b : Bool) → sum_by (of_guid guid) (cond b (t ∷ sent_to name taken) (sent_to name taken)) ≡ cond b (of_guid guid t) 0 + in_mailbox guid taken name
    by_test true = sum_by-cons (of_guid guid) t (sent_to name taken)
    by_test false = omega arith

all_more : (guid : List ℕ) (t : TakenMessage) (taken : List TakenMessage) (names : List (List ℕ)) → sum_by (in_mailbox guid (t ∷ taken)) names ≡ sum_by (if_named t.mailbox (of_guid guid t)) names + sum_by (in_mailbox guid taken) names
all_more guid t taken [] = refl
all_more guid t taken (name ∷ names) =
    let a = sum_by-cons (in_mailbox guid (t ∷ taken)) name names in
    let b = sum_by-cons (if_named t.mailbox (of_guid guid t)) name names in
    let c = sum_by-cons (in_mailbox guid taken) name names in
    let here = mailbox_more guid t taken name in
    let rest = all_more guid t taken names in
    omega (arith, a, b, c, here, rest)

no_messages : (guid : List ℕ) (names : List (List ℕ)) → sum_by (in_mailbox guid []) names ≡ 0
no_messages guid [] = refl
no_messages guid (name ∷ names) = let a = sum_by-cons (in_mailbox guid []) name names in let rest = no_messages guid names in omega (arith, a, rest)

names_counted : (guid : List ℕ) (taken : List TakenMessage) (names : List (List ℕ)) → AllPairs (λ a b. a ≢ b) names → sum_by (in_mailbox guid taken) names ≤ sum_by (of_guid guid) taken
names_counted guid [] names h = let k = no_messages guid names in omega (arith, k)
names_counted guid (t ∷ taken) names h =
    let a = all_more guid t taken names in
    let b = one_named t.mailbox (of_guid guid t) names h in
    let rest = names_counted guid taken names h in
    let c = sum_by-cons (of_guid guid) t taken in
    omega (arith, a, b, rest, c)

none_of_guid : (guid : List ℕ) (taken : List TakenMessage) → All (λ t. guid ≢ t.guid) taken → sum_by (of_guid guid) taken ≡ 0
none_of_guid guid [] h = refl
none_of_guid guid (t ∷ taken) h =
    by_test (bytes_eq t.guid guid) refl (sum_by-cons (of_guid guid) t taken) (none_of_guid guid taken (All-tail (λ (x : TakenMessage). guid ≢ x.guid) t taken h))
  where
    by_test : (b : Bool) → bytes_eq t.guid guid ≡ b → sum_by (of_guid guid) (t ∷ taken) ≡ of_guid guid t + sum_by (of_guid guid) taken → sum_by (of_guid guid) taken ≡ 0 → sum_by (of_guid guid) (t ∷ taken) ≡ 0
    by_test true e a rest = absurd (All-head (λ (x : TakenMessage). guid ≢ x.guid) t taken h (sym (text_is t.guid guid e)))
    by_test false e a rest = let z : of_guid guid t ≡ 0 = ap one_if e in omega (arith, a, rest, z)

-- a GUID has a record with the count 1 where a message has it
abbrev kept_count : List ℕ → List MapRecord → ℕ
kept_count guid rows = option_map_or (λ (row : MapRecord). row.count) (find (λ (row : MapRecord). bytes_eq row.guid guid) rows) 0

guid_counted : (guid : List ℕ) (uid : ℕ) (taken : List TakenMessage) → AllPairs (λ a b. a.guid ≢ b.guid) taken → sum_by (of_guid guid) taken ≤ kept_count guid (records_from uid taken)
guid_counted guid uid [] h = omega arith
guid_counted guid uid (t ∷ taken) h =
    by_test (bytes_eq t.guid guid) refl (sum_by-cons (of_guid guid) t taken) (guid_counted guid (uid + 1) taken (pairs_tail (λ (a b : TakenMessage). a.guid ≢ b.guid) t taken h))
  where
    by_test : (b : Bool) → bytes_eq t.guid guid ≡ b → sum_by (of_guid guid) (t ∷ taken) ≡ of_guid guid t + sum_by (of_guid guid) taken → sum_by (of_guid guid) taken ≤ kept_count guid (records_from (uid + 1) taken) → sum_by (of_guid guid) (t ∷ taken) ≤ kept_count guid (records_from uid (t ∷ taken))
    by_test true e a rest =
        let z : of_guid guid t ≡ 1 = ap one_if e in
        let none = none_of_guid guid taken (All-weaker (λ (x : TakenMessage). t.guid ≢ x.guid) (λ (x : TakenMessage). guid ≢ x.guid) (λ x h same. h (text_is t.guid guid e ∙ same)) taken (pairs_head (λ (a b : TakenMessage). a.guid ≢ b.guid) t taken h)) in
        let here : kept_count guid (records_from uid (t ∷ taken)) ≡ 1 = ap (λ (b : Bool). option_map_or (λ (row : MapRecord). row.count) (cond b (Some (record_for uid t)) (find (λ (row : MapRecord). bytes_eq row.guid guid) (records_from (uid + 1) taken))) 0) e in
        omega (arith, a, z, none, here)
    by_test false e a rest =
        let z : of_guid guid t ≡ 0 = ap one_if e in
        let here : kept_count guid (records_from uid (t ∷ taken)) ≡ kept_count guid (records_from (uid + 1) taken) = ap (λ (b : Bool). option_map_or (λ (row : MapRecord). row.count) (cond b (Some (record_for uid t)) (find (λ (row : MapRecord). bytes_eq row.guid guid) (records_from (uid + 1) taken))) 0) e in
        omega (arith, a, z, rest, here)

pub counts_enough : (m : MapMeaning) (taken : List TakenMessage) (guid : List ℕ) → m.records ≡ records_from 1 taken → AllPairs (λ a b. a.guid ≢ b.guid) taken → AllPairs (λ a b. a ≢ b) (mailboxes_met taken) → refs_of (lists_of taken) guid ≤ count_of m guid
counts_enough m taken guid records guids names =
    let a = lists_counted guid 1 (mailboxes_met taken) taken in
    let b = names_counted guid taken (mailboxes_met taken) names in
    let c = guid_counted guid 1 taken guids in
    let d : count_of m guid ≡ kept_count guid (records_from 1 taken) = ap (kept_count guid) records in
    omega (arith, a, b, c, d)

-- ---- what the map needs

regions_lie : (image : Files) (m : MapMeaning) (uid : ℕ) (taken : List TakenMessage) → All (λ t. (n : ℕ) → LiesInFile image (record_for n t)) taken → All (LiesInFile image) (records_from uid taken)
regions_lie image m uid [] h = All-nil (LiesInFile image)
regions_lie image m uid (t ∷ taken) h = All-cons (LiesInFile image) (record_for uid t) (records_from (uid + 1) taken) (All-head (λ (x : TakenMessage). (n : ℕ) → LiesInFile image (record_for n x)) t taken h uid) (regions_lie image m (uid + 1) taken (All-tail (λ (x : TakenMessage). (n : ℕ) → LiesInFile image (record_for n x)) t taken h))

instances_lie : (image : Files) (uid : ℕ) (taken : List TakenMessage) → All (λ t. All (IsThereWhole image) t.instances) taken → All (IsThereWhole image) (flat_map (λ (row : MapRecord). row.instances) (records_from uid taken))
instances_lie image uid [] h = All-nil (IsThereWhole image)
instances_lie image uid (t ∷ taken) h = All-append (IsThereWhole image) t.instances _ (All-head (λ (x : TakenMessage). All (IsThereWhole image) x.instances) t taken h) (instances_lie image (uid + 1) taken (All-tail (λ (x : TakenMessage). All (IsThereWhole image) x.instances) t taken h))

lies_too : (files image : Files) (t : TakenMessage) → IsStored files t → HasSameMessage files image t → (n : ℕ) → LiesInFile image (record_for n t)
lies_too files image t s same n = let k = s.stores n in record { octets = k.stored.octets_there; there = same.storage ∙ k.stored.there; inside = k.stored.inside }

whole_too : (files image : Files) (rows : List InstRow) → All (λ i. image (file.Inst i.hash.0 i.id.0) ≡ files (file.Inst i.hash.0 i.id.0)) rows → All (IsThereWhole files) rows → All (IsThereWhole image) rows
whole_too files image [] s h = All-nil (IsThereWhole image)
whole_too files image (row ∷ rows) s h =
    let k = All-head (IsThereWhole files) row rows h in
    All-cons (IsThereWhole image) row rows (record { octets = k.octets; there = All-head (λ (i : InstRow). image (file.Inst i.hash.0 i.id.0) ≡ files (file.Inst i.hash.0 i.id.0)) row rows s ∙ k.there; size = k.size })
    (whole_too files image rows (All-tail (λ (i : InstRow). image (file.Inst i.hash.0 i.id.0) ≡ files (file.Inst i.hash.0 i.id.0)) row rows s) (All-tail (IsThereWhole files) row rows h))

with_same : (files image : Files) (P : TakenMessage → Type 0) (taken : List TakenMessage) → ((t : TakenMessage) → IsStored files t → HasSameMessage files image t → P t) → All (IsStored files) taken → All (HasSameMessage files image) taken → All P taken
with_same files image P [] f s h = All-nil P
with_same files image P (t ∷ taken) f s h = All-cons P t taken (f t (All-head (IsStored files) t taken s) (All-head (HasSameMessage files image) t taken h)) (with_same files image P taken f (All-tail (IsStored files) t taken s) (All-tail (HasSameMessage files image) t taken h))

-- all records are found ones
origins : (uid : ℕ) (taken : List TakenMessage) → All (λ row. row.origin ≡ 1) (records_from uid taken)
origins uid [] = All-nil (λ (row : MapRecord). row.origin ≡ 1)
origins uid (t ∷ taken) = All-cons (λ (row : MapRecord). row.origin ≡ 1) (record_for uid t) (records_from (uid + 1) taken) refl (origins (uid + 1) taken)

no_own : (m : MapMeaning) (taken : List TakenMessage) (row : MapRecord) → m.records ≡ records_from 1 taken → Contains m.records row → row.origin ≡ 0 → ⊥
no_own m taken row records c own =
    let one : row.origin ≡ 1 = All-contains (λ (r : MapRecord). r.origin ≡ 1) (records_from 1 taken) row (origins 1 taken) (subst (λ (rows : List MapRecord). Contains rows row) records c) in
    omega (arith, one, own)

guids_apart : (uid : ℕ) (taken : List TakenMessage) → AllPairs (λ a b. a.guid ≢ b.guid) taken → AllPairs (λ a b. a.guid ≢ b.guid) (records_from uid taken)
guids_apart uid [] h = pairs_nil (λ (a b : MapRecord). a.guid ≢ b.guid)
guids_apart uid (t ∷ taken) h =
    AllPairs-cons (λ (a b : MapRecord). a.guid ≢ b.guid) (record_for uid t) (records_from (uid + 1) taken) (others (uid + 1) taken (pairs_head (λ (a b : TakenMessage). a.guid ≢ b.guid) t taken h)) (guids_apart (uid + 1) taken (pairs_tail (λ (a b : TakenMessage). a.guid ≢ b.guid) t taken h))
  where
    others : (n : ℕ) (ts : List TakenMessage) → All (λ u. t.guid ≢ u.guid) ts → All (λ (row : MapRecord). t.guid ≢ row.guid) (records_from n ts)
    others n [] k = All-nil (λ (row : MapRecord). t.guid ≢ row.guid)
    others n (u ∷ ts) k = All-cons (λ (row : MapRecord). t.guid ≢ row.guid) (record_for n u) (records_from (n + 1) ts) (All-head (λ (x : TakenMessage). t.guid ≢ x.guid) u ts k) (others (n + 1) ts (All-tail (λ (x : TakenMessage). t.guid ≢ x.guid) u ts k))

-- ---- the image

pub safe_by : (files image : Files) (store : List ℕ) (plan : RebuildPlan) → IsGoodList files plan.taken → All HasFileNumber plan.skipped → HighestInRange plan.highest → IsNumber plan.map_generation → IsNumber plan.box_generation
    → All (HasSameMessage files image) plan.taken → HasRebuiltLogs image store plan → SafeBy image store (rebuilt_map plan.highest plan.box_generation plan.taken plan.skipped) (lists_of plan.taken)
safe_by files image store plan good numbers high mg bg same logs =
    let taken = plan.taken in
    let entries = rebuilt_map plan.highest plan.box_generation taken plan.skipped in
    let m = map_meaning store entries in
    let in_range = All-weaker (IsStored files) TakenInRange (λ t s. s.in_range) taken good.stored in
    let made = map_rebuilt files store plan.highest plan.box_generation taken plan.skipped good in_range numbers high bg in
    let mapped = all_are_mapped files image m taken made.records_are good in_range same in
    let mgh = mg.high in
    record {
      stands = record {
        map_log = record {
          generation = plan.map_generation;
          root = record { before = []; log = logs.root_log; in_range = (omega (arith, mgh), tt) };
          generation_number = mg;
          log = logs.map_log;
          in_range = map_in_range files plan.highest plan.box_generation taken plan.skipped good in_range numbers high bg;
          fit = made.fit;
        };
        mailboxes = subst (λ (boxes : List _). AreMailboxes image m boxes (lists_of taken)) (sym made.boxes_are) (mailboxes_rebuilt files image m 1 plan.box_generation (mailboxes_met taken) taken good mapped logs.box_logs);
        one_record = subst (λ (rows : List MapRecord). AllPairs (λ a b. a.guid ≢ b.guid) rows) (sym made.records_are) (guids_apart 1 taken good.guids);
        once = record {
          once = λ a b octets p q. absurd (no_own m taken p.row made.records_are p.is_record p.own);
          least = λ a b octets p q h l. no_own m taken p.row made.records_are p.is_record p.own;
          hash = λ a octets p. absurd (no_own m taken p.row made.records_are p.is_record p.own);
        };
        detached = λ row octets c own kept. absurd (no_own m taken row made.records_are c own);
      };
      has_all = record {
        counts = λ guid. counts_enough m taken guid made.records_are good.guids (met_names taken in_range).apart;
        regions = subst (λ (rows : List MapRecord). All (LiesInFile image) rows) (sym made.records_are) (regions_lie image m 1 taken (with_same files image (λ (t : TakenMessage). (n : ℕ) → LiesInFile image (record_for n t)) taken (λ t s h. lies_too files image t s h) good.stored same));
        instances = subst (λ (rows : List MapRecord). All (IsThereWhole image) (flat_map (λ (row : MapRecord). row.instances) rows)) (sym made.records_are)
            (instances_lie image 1 taken (with_same files image (λ (t : TakenMessage). All (IsThereWhole image) t.instances) taken (λ t s h. whole_too files image t.instances h.instances s.instances) good.stored same));
      };
    }

-- ---- skipped places are of storage files

all_numbered : (number : ℕ) (here : List Finding) → IsNumber number → All (λ (x : FileFinding). IsNumber x.number) (findings_of number here)
all_numbered number [] is = All-nil (λ (x : FileFinding). IsNumber x.number)
all_numbered number (f ∷ here) is = All-cons (λ (x : FileFinding). IsNumber x.number) (record { number = number; finding = f }) (findings_of number here) is (all_numbered number here is)

found_numbers : (files : Files) (storage : List NumberedFile) (found : List FileFinding) → All (IsThereAs files) storage → HaveFindings storage found → All (λ (x : FileFinding). IsNumber x.number) found
found_numbers files [] found there are = subst (λ (xs : List FileFinding). All (λ (x : FileFinding). IsNumber x.number) xs) (sym are) (All-nil (λ (x : FileFinding). IsNumber x.number))
found_numbers files (f ∷ storage) found there are =
    subst (λ (xs : List FileFinding). All (λ (x : FileFinding). IsNumber x.number) xs) (sym are.4)
    (All-append (λ (x : FileFinding). IsNumber x.number) (findings_of f.number are.0) are.1 (all_numbered f.number are.0 (All-head (IsThereAs files) f storage there).0) (found_numbers files storage are.1 (All-tail (IsThereAs files) f storage there) are.3))

judged_number : (files : Files) (taken : List TakenMessage) (number : ℕ) (f : Finding) (j : Judgement) → IsJudgedFinding files taken number f j → j.number ≡ number
judged_number files taken number (Stored place m) j h = h.0
judged_number files taken number (Unread offset why) j h = ap (λ (x : Judgement). x.number) h

skipped_number : (j : Judgement) (verdict : Verdict) → IsNumber j.number → All HasFileNumber (skipped_at j.number j.offset verdict)
skipped_number j (Takes t) is = All-nil HasFileNumber
skipped_number j PassesOver is = All-nil HasFileNumber
skipped_number j (Skips why) is = All-cons HasFileNumber (record { number = j.number; offset = j.offset; why = why }) [] is (All-nil HasFileNumber)

judged_numbers : (files : Files) (taken : List TakenMessage) (found : List FileFinding) (js : List Judgement) → All (λ (x : FileFinding). IsNumber x.number) found → AreJudged files taken found js → All HasFileNumber (flat_map skipped_by js)
judged_numbers files taken [] [] h judged = All-nil HasFileNumber
judged_numbers files taken [] (j ∷ js) h judged = absurd judged
judged_numbers files taken (f ∷ found) [] h judged = absurd judged
judged_numbers files taken (f ∷ found) (j ∷ js) h judged =
    All-append HasFileNumber (skipped_by j) (flat_map skipped_by js) (skipped_number j j.verdict (subst IsNumber (sym (judged_number files taken f.number f.finding j judged.0)) (All-head (λ (x : FileFinding). IsNumber x.number) f found h)))
    (judged_numbers files (taken ++ taken_by j) found js (All-tail (λ (x : FileFinding). IsNumber x.number) f found h) judged.1)

pub skipped_are_numbered : (files : Files) (taken : List TakenMessage) (skipped : List SkippedPlace) → Rebuild files taken skipped → All HasFileNumber skipped
skipped_are_numbered files taken skipped r = subst (λ (ss : List SkippedPlace). All HasFileNumber ss) (sym r.skipped_are) (judged_numbers files [] r.found r.judgements (found_numbers files r.storage r.found r.are_storage.there r.are_found) r.are_judged)

-- Files with the logs of a plan, and with the storage files and instances that it takes messages from, are safe for its lists.
pub rebuilt_safe : (files image : Files) (store : List ℕ) (plan : RebuildPlan) → IsPlanFor files store plan → All (HasSameMessage files image) plan.taken → HasRebuiltLogs image store plan → Safe image (lists_of plan.taken)
rebuilt_safe files image store plan is same logs = record {
  store = store;
  entries = rebuilt_map plan.highest plan.box_generation plan.taken plan.skipped;
  by = safe_by files image store plan (rebuild_good files plan.taken plan.skipped is.rebuild) (skipped_are_numbered files plan.taken plan.skipped is.rebuild) (highest_in_range files store is.rebuild.found plan.highest is.numbers)
      (free_is_number (IsMapUsed files) plan.map_generation is.map_free) (free_is_number (IsBoxUsed files) plan.box_generation is.box_free) same logs;
}
