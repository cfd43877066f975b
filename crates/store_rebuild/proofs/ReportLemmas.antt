-- What a rebuild reports: how many mailboxes and messages the lists have.
use Rattle.std.proofs.Common.{subst, ◌≡◌, ◌≢◌, ℕ, ◌+◌, Bool, true, false, cond, List, [], ◌∷◌, ◌++◌, length, map, fold, All, refl, sym, ◌∙◌, ap, arith}
use Rattle.std.specs.Prelude.{◌||◌, AllPairs, if◌then◌else◌, sum_by}
use Rattle.std.specs.List.{list_any}
use Rattle.std.specs.Str.{bytes_eq}
use Rattle.std.proofs.lemmas.List.{length-map}
use Rattle.std.proofs.lemmas.List.Elements.{All-nil, All-cons, All-head, All-tail, All-weaker}
use Rattle.std.proofs.lemmas.List.Folds.{list_any-append}
use Rattle.std.proofs.lemmas.List.Sums.{sum_by-cons}
use Rattle.disk_model.specs.Disk.{DiskState}
use Rattle.model_lists.specs.Lists.{Mailbox}
use Rattle.model_octets.proofs.PairLemmas.{pairs_head, pairs_tail}
use Rattle.model_octets.proofs.SearchLemmas.{text_is, text_yes}
use Rattle.model_rebuild.proofs.RebuiltMapLemmas.{met_names}
use Rattle.model_logs.specs.Entries.{box_text}
use Rattle.model_rebuild.specs.RebuiltLogs.{rebuilt_box}
use Rattle.model_rebuild.specs.RebuiltLists.{listed_from, mailboxes_from, rebuilt_mailbox, sent_to}
use Rattle.model_store.specs.Settled.{files_of}
use Rattle.model_taken.proofs.GoodListLemmas.{IsStored}
use Rattle.model_taken.proofs.GoodRebuildLemmas.{rebuild_good}
use Rattle.model_taken.proofs.RangeLemmas.{TakenInRange}
use Rattle.model_taken.specs.Taken.{TakenMessage, and_name, mailboxes_met}
use Rattle.rebuild_judge.specs.Kept.{taken_row}
use Rattle.store_rebuild.specs.NewLogs.{AreNewLogs, box_logs_for}
use Rattle.store_rebuild.specs.Planned.{AreRowsOf, IsPlanned}
use Rattle.store_rebuild.specs.Rebuilding.{IsRebuilt}
use Rattle.store_rebuild.specs.Writing.{HasStoreOf, OthersReadSame}
use Rattle.model_rebuild.specs.RebuildPlan.{RebuildPlan}
use Rattle.store_rebuild.specs.declared.new_logs.NewLogs.{NewLogs}
use Rattle.store_rebuild.specs.declared.plan.RebuildRows.{RebuildRows}
use Rattle.store_rebuild.specs.declared.report.RebuildReport.{RebuildReport}
use Rattle.store_rebuild.proofs.SettledLemmas.{logs_read, settled}

-- ---- each message goes to a mailbox that is met

or_true : (b : Bool) → (b || true) ≡ true
or_true true = refl
or_true false = refl

and_has : (names : List (List ℕ)) (name : List ℕ) → list_any (bytes_eq name) (and_name names name) ≡ true
and_has names name = by_test (list_any (bytes_eq name) names) refl
  where
    by_test : (b : Bool) → list_any (bytes_eq name) names ≡ b → list_any (bytes_eq name) (if b then names else names ++ name ∷ []) ≡ true
    by_test true e = e
    by_test false e = list_any-append (bytes_eq name) names (name ∷ []) ∙ ap (λ (b : Bool). list_any (bytes_eq name) names || (b || false)) (text_yes name name refl) ∙ or_true (list_any (bytes_eq name) names)

and_stays : (p : List ℕ → Bool) (names : List (List ℕ)) (name : List ℕ) → list_any p names ≡ true → list_any p (and_name names name) ≡ true
and_stays p names name h = by_test (list_any (bytes_eq name) names)
  where
    by_test : (b : Bool) → list_any p (if b then names else names ++ name ∷ []) ≡ true
    by_test true = h
    by_test false = list_any-append p names (name ∷ []) ∙ ap (λ (b : Bool). b || list_any p (name ∷ [])) h

abbrev met_from : List (List ℕ) → List TakenMessage → List (List ℕ)
met_from names taken = fold (λ ns t. and_name ns t.mailbox) names taken

any_stays : (p : List ℕ → Bool) (names : List (List ℕ)) (taken : List TakenMessage) → list_any p names ≡ true → list_any p (met_from names taken) ≡ true
any_stays p names [] h = h
any_stays p names (t ∷ taken) h = any_stays p (and_name names t.mailbox) taken (and_stays p names t.mailbox h)

each_met : (names : List (List ℕ)) (taken : List TakenMessage) → All (λ t. list_any (bytes_eq t.mailbox) (met_from names taken) ≡ true) taken
each_met names [] = All-nil (λ (t : TakenMessage). list_any (bytes_eq t.mailbox) names ≡ true)
each_met names (t ∷ taken) =
    All-cons (λ (x : TakenMessage). list_any (bytes_eq x.mailbox) (met_from (and_name names t.mailbox) taken) ≡ true) t taken
    (any_stays (bytes_eq t.mailbox) (and_name names t.mailbox) taken (and_has names t.mailbox)) (each_met (and_name names t.mailbox) taken)

-- ---- how many go to each

abbrev sent : List TakenMessage → List ℕ → ℕ
sent taken name = length (sent_to name taken)

abbrev if_named : List ℕ → List ℕ → ℕ
if_named mailbox name = cond (bytes_eq mailbox name) 1 0

none_named : (mailbox : List ℕ) (names : List (List ℕ)) → All (λ name. mailbox ≢ name) names → sum_by (if_named mailbox) names ≡ 0
none_named mailbox [] h = refl
none_named mailbox (name ∷ names) h =
    by_test (bytes_eq mailbox name) refl (sum_by-cons (if_named mailbox) name names) (none_named mailbox names (All-tail (λ (x : List ℕ). mailbox ≢ x) name names h))
  where
    by_test : (b : Bool) → bytes_eq mailbox name ≡ b → sum_by (if_named mailbox) (name ∷ names) ≡ if_named mailbox name + sum_by (if_named mailbox) names → sum_by (if_named mailbox) names ≡ 0 → sum_by (if_named mailbox) (name ∷ names) ≡ 0
    by_test true e a rest = absurd (All-head (λ (x : List ℕ). mailbox ≢ x) name names h (text_is mailbox name e))
    by_test false e a rest = let z : if_named mailbox name ≡ 0 = ap (λ (b : Bool). cond b 1 0) e in omega (arith, a, rest, z)

one_named : (mailbox : List ℕ) (names : List (List ℕ)) → AllPairs (λ a b. a ≢ b) names → list_any (bytes_eq mailbox) names ≡ true → sum_by (if_named mailbox) names ≡ 1
one_named mailbox [] h any = absurd (let k : false ≡ true = any in cc k)
one_named mailbox (name ∷ names) h any =
    by_test (bytes_eq mailbox name) refl (sum_by-cons (if_named mailbox) name names) any (one_named mailbox names (pairs_tail (λ (a b : List ℕ). a ≢ b) name names h))
  where
    by_test : (b : Bool) → bytes_eq mailbox name ≡ b → sum_by (if_named mailbox) (name ∷ names) ≡ if_named mailbox name + sum_by (if_named mailbox) names → (b || list_any (bytes_eq mailbox) names) ≡ true → (list_any (bytes_eq mailbox) names ≡ true → sum_by (if_named mailbox) names ≡ 1) → sum_by (if_named mailbox) (name ∷ names) ≡ 1
    by_test true e a or rest =
        let z : if_named mailbox name ≡ 1 = ap (λ (b : Bool). cond b 1 0) e in
        let none = none_named mailbox names (All-weaker (λ (x : List ℕ). name ≢ x) (λ (x : List ℕ). mailbox ≢ x) (λ x k same. k (sym (text_is mailbox name e) ∙ same)) names (pairs_head (λ (a b : List ℕ). a ≢ b) name names h)) in
        omega (arith, a, z, none)
    by_test false e a or rest = let z : if_named mailbox name ≡ 0 = ap (λ (b : Bool). cond b 1 0) e in let r = rest or in omega (arith, a, z, r)

sent_more : (t : TakenMessage) (taken : List TakenMessage) (name : List ℕ) → sent (t ∷ taken) name ≡ if_named t.mailbox name + sent taken name
sent_more t taken name = by_test (bytes_eq t.mailbox name)
  where
    by_test : (b : Bool) → length (cond b (t ∷ sent_to name taken) (sent_to name taken)) ≡ cond b 1 0 + sent taken name
    by_test true = omega arith
    by_test false = omega arith

all_more : (t : TakenMessage) (taken : List TakenMessage) (names : List (List ℕ)) → sum_by (sent (t ∷ taken)) names ≡ sum_by (if_named t.mailbox) names + sum_by (sent taken) names
all_more t taken [] = refl
all_more t taken (name ∷ names) =
    let a = sum_by-cons (sent (t ∷ taken)) name names in
    let b = sum_by-cons (if_named t.mailbox) name names in
    let c = sum_by-cons (sent taken) name names in
    let here = sent_more t taken name in
    let rest = all_more t taken names in
    omega (arith, a, b, c, here, rest)

none_sent : (names : List (List ℕ)) → sum_by (sent []) names ≡ 0
none_sent [] = refl
none_sent (name ∷ names) = let a = sum_by-cons (sent []) name names in let rest = none_sent names in omega (arith, a, rest)

all_sent : (names : List (List ℕ)) (taken : List TakenMessage) → AllPairs (λ a b. a ≢ b) names → All (λ t. list_any (bytes_eq t.mailbox) names ≡ true) taken → sum_by (sent taken) names ≡ length taken
all_sent names [] h met = none_sent names
all_sent names (t ∷ taken) h met =
    let a = all_more t taken names in
    let b = one_named t.mailbox names h (All-head (λ (x : TakenMessage). list_any (bytes_eq x.mailbox) names ≡ true) t taken met) in
    let rest = all_sent names taken h (All-tail (λ (x : TakenMessage). list_any (bytes_eq x.mailbox) names ≡ true) t taken met) in
    omega (arith, a, b, rest)

-- ---- the lists

listed_length : (uid : ℕ) (taken : List TakenMessage) → length (listed_from uid taken) ≡ length taken
listed_length uid [] = refl
listed_length uid (t ∷ taken) = let k = listed_length (uid + 1) taken in omega (arith, k)

lists_sum : (number : ℕ) (names : List (List ℕ)) (taken : List TakenMessage) → sum_by (λ (m : Mailbox). length m.messages) (mailboxes_from number names taken) ≡ sum_by (sent taken) names
lists_sum number [] taken = refl
lists_sum number (name ∷ names) taken =
    let a = sum_by-cons (λ (m : Mailbox). length m.messages) (rebuilt_mailbox number name (sent_to name taken)) (mailboxes_from (number + 1) names taken) in
    let b = sum_by-cons (sent taken) name names in
    let here = listed_length 1 (sent_to name taken) in
    let rest = lists_sum (number + 1) names taken in
    omega (arith, a, b, here, rest)

lists_length : (number : ℕ) (names : List (List ℕ)) (taken : List TakenMessage) → length (mailboxes_from number names taken) ≡ length names
lists_length number [] taken = refl
lists_length number (name ∷ names) taken = let k = lists_length (number + 1) names taken in omega (arith, k)

-- ---- the report

-- the new store is there, and all other files read as before
abbrev pub StoreAndOthers : List ℕ → RebuildRows → DiskState → DiskState → Type 0
StoreAndOthers store rows a b = HasStoreOf store rows a b × OthersReadSame rows.map_generation rows.box_generation a b

pub rebuilt_of : (store : List ℕ) (rows : RebuildRows) (logs : NewLogs) (report : RebuildReport) (a b : DiskState) → HasStoreOf store rows a b → OthersReadSame rows.map_generation rows.box_generation a b → IsPlanned store rows a → ((plan : RebuildPlan) → AreRowsOf plan rows → AreNewLogs plan logs) → report.mailboxes ≡ length logs.boxes.items → report.messages ≡ length rows.taken
    → report.skipped ≡ rows.skipped → IsRebuilt store report a b
rebuilt_of store rows logs report a b h others p are boxes messages skipped =
    let plan = p.plan in
    let taken = plan.taken in
    let k = h plan p.is_plan p.rows_are in
    let good = rebuild_good (files_of a) taken plan.skipped p.is_plan.rebuild in
    let apart = (met_names taken (All-weaker (IsStored (files_of a)) TakenInRange (λ t s. s.in_range) taken good.stored)).apart in
    let logs_are : length logs.boxes.items ≡ length (box_logs_for (mailboxes_met taken) taken) = ap length (are plan p.rows_are).boxes in
    let rows_are : length rows.taken ≡ length (map taken_row taken) = ap length p.rows_are.taken in
    record {
      plan = plan;
      is_plan = p.is_plan;
      logs = logs_read store plan a b k;
      settled = settled store plan a b p.is_plan k;
      others = subst (λ (n : ℕ). OthersReadSame plan.map_generation n a b) p.rows_are.box_generation (subst (λ (n : ℕ). OthersReadSame n rows.box_generation a b) p.rows_are.map_generation others);
      mailboxes = boxes ∙ logs_are ∙ length-map (mailboxes_met taken) (λ (name : List ℕ). map box_text (rebuilt_box name taken)) ∙ sym (lists_length 1 (mailboxes_met taken) taken);
      messages = messages ∙ rows_are ∙ length-map taken taken_row ∙ sym (all_sent (mailboxes_met taken) taken apart (each_met _ taken)) ∙ sym (lists_sum 1 (mailboxes_met taken) taken);
      skipped = skipped ∙ p.rows_are.skipped;
    }
