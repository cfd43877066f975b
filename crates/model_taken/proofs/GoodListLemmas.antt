-- What is known of all messages that are taken.
use Rattle.std.specs.Prelude.{◌≡◌, ◌≢◌, ◌≤◌, ◌<◌, ◌+◌, ◌&&◌, ◌||◌, ◌⊎◌, nat_le, nat_lt, ℕ, Bool, true, false, not, List, [], ◌∷◌, ◌++◌, length, map, sum_by, count_by, refl, Some, None, All, AllPairs, Contains, codes, if◌then◌else◌}
use Rattle.std.specs.List.{list_any}
use Rattle.std.specs.Str.{bytes_eq}
use Rattle.std.proofs.Common.{inl, inr, sym, ◌∙◌, ap, subst, arith, append-nil, length-append}
use Rattle.std.proofs.lemmas.Bool.{ltb-false, leb-false}
use Rattle.std.proofs.lemmas.Grind.{flat_map-append}
use Rattle.std.proofs.lemmas.List.Elements.{All-nil, All-cons, All-head, All-tail, All-push, All-weaker, All-contains, All-append, Contains-append_cases}
use Rattle.std.proofs.lemmas.List.Kept.{AllPairs-cons}
use Rattle.std.proofs.lemmas.List.Sums.{fold_push, sum_by-append, sum_by-cons}
use Rattle.disk_model.specs.Disk.{Files}
use Rattle.disk_model.specs.declared.name.FileName.TheVariants as file
use Rattle.mdbox_base.specs.Words.{IsNumber}
use Rattle.mdbox_base.specs.declared.entries.InstRow.{InstRow}
use Rattle.mdbox_base.specs.declared.ids.Hash.{Hash}
use Rattle.mdbox_base.specs.declared.ids.InstId.{InstId}
use Rattle.mdbox_base.specs.declared.metadata.ExtRef.{ExtRef}
use Rattle.model_octets.proofs.PairLemmas.{pairs_push, pairs_nil, pairs_head, pairs_tail}
use Rattle.model_octets.proofs.SearchLemmas.{found_none, text_is, text_yes, among}
use Rattle.model_meaning.specs.MapFits.{AgreesOn}
use Rattle.model_storage.specs.declared.places.MessageAt.{MessageAt}
use Rattle.model_storage.specs.StorageFile.{Message, IsMessage}
use Rattle.model_store.specs.Safe.{IsThereWhole}
use Rattle.model_store.specs.Stands.{StoresMessage, NameInstances}
use Rattle.model_found.proofs.StandingLemmas.{StandsIn, region_is}
use Rattle.model_taken.proofs.FewLemmas.{few_references}
use Rattle.model_taken.proofs.RangeLemmas.{TakenInRange, guid_fits, mailbox_fits, references_fit, rows_fit, time_fits}
use Rattle.model_taken.proofs.TakenLemmas.{IsTaking, taking, found_there, size_is}
use Rattle.model_taken.specs.Judging.{mailbox_for, are_too_many, taken_as}
use Rattle.model_taken.specs.NamedInstances.{is_other_hash, names_otherwise}
use Rattle.model_taken.specs.Taken.{TakenMessage, record_for, mailboxes_met, and_name, instances_taken, taken_with}

-- ---- one message

-- its files store it
pub record IsStored (files : Files) (t : TakenMessage) : Type 0 where
  pub number : IsNumber t.file
  pub stores : (uid : ℕ) → StoresMessage files (record_for uid t) t.octets
  pub instances : All (IsThereWhole files) t.instances
  pub some : 1 ≤ t.size
  pub ends : t.offset + t.size ≤ 4294967295
  pub short : length t.octets ≤ 67108864
  pub in_range : TakenInRange t

-- no limit is reached
pub record AreFew (taken : List TakenMessage) (name : List ℕ) (place : MessageAt) (whole : ℕ) : Type 0 where
  pub names : (list_any (bytes_eq name) (mailboxes_met taken) ≡ true) ⊎ (length (mailboxes_met taken) < 1024)
  pub room : count_by (λ t. bytes_eq t.mailbox name) taken < 1000000
  pub all : length taken < 4294967294
  pub short : whole ≤ 67108864
  pub ends : place.end ≤ 4294967295

neither : (a b : Bool) → (a || b) ≡ false → (a ≡ false) × (b ≡ false)
neither true b e = absurd (let k : true ≡ false = e in cc k)
neither false b e = (refl, e)

known_or_few : (known : Bool) (n : ℕ) → (not known && nat_le 1024 n) ≡ false → (known ≡ true) ⊎ (n < 1024)
known_or_few true n e = inl refl
known_or_few false n e = inr (leb-false 1024 n e)

pub few_are : (taken : List TakenMessage) (name : List ℕ) (place : MessageAt) (whole : ℕ) → are_too_many taken name place whole ≡ false → AreFew taken name place whole
few_are taken name place whole e =
    let a = neither (not (list_any (bytes_eq name) (mailboxes_met taken)) && nat_le 1024 (length (mailboxes_met taken))) (nat_le 1000000 (count_by (λ t. bytes_eq t.mailbox name) taken) || (nat_le 4294967294 (length taken) || (nat_lt 67108864 whole || nat_lt 4294967295 place.end))) e in
    let b = neither (nat_le 1000000 (count_by (λ t. bytes_eq t.mailbox name) taken)) (nat_le 4294967294 (length taken) || (nat_lt 67108864 whole || nat_lt 4294967295 place.end)) a.1 in
    let c = neither (nat_le 4294967294 (length taken)) (nat_lt 67108864 whole || nat_lt 4294967295 place.end) b.1 in
    let d = neither (nat_lt 67108864 whole) (nat_lt 4294967295 place.end) c.1 in
    record {
      names = known_or_few (list_any (bytes_eq name) (mailboxes_met taken)) (length (mailboxes_met taken)) a.0;
      room = leb-false 1000000 (count_by (λ t. bytes_eq t.mailbox name) taken) b.0;
      all = leb-false 4294967294 (length taken) c.0;
      short = ltb-false 67108864 whole d.0;
      ends = ltb-false 4294967295 place.end d.1;
    }

-- its numbers, names and ids are in range
message_in_range : (files : Files) (taken : List TakenMessage) (number : ℕ) (place : MessageAt) (first : List ℕ) (m : Message) (t : TakenMessage) → IsMessage first m → (taking : IsTaking files taken number place m t)
    → TakenInRange (taken_as number place taking.meta taking.guid.0 (map (λ i. i.row) taking.found) taking.whole)
message_in_range files taken number place first m t is taking =
    let f = (found_there files (instances_taken taken) taking.meta.refs taking.found taking.found_is).1 in
    let rows = rows_fit 0 taking.whole m.body taking.meta.refs taking.found taking.is_whole (references_fit m.lines taking.meta.refs taking.says.refs) f.named f.sizes in
    let few = few_references first m taking.meta is taking.says in
    let many = rows.1 in
    record {
      guid = guid_fits m.lines taking.meta.guid taking.guid taking.guid_is taking.says.guid;
      time = time_fits m.lines taking.meta.received taking.says.received;
      mailbox = mailbox_fits m.lines taking.meta.origin taking.says.origin;
      few = omega (arith, few, many);
      rows = rows.0;
    }

pub stored_as : (files : Files) (taken : List TakenMessage) (number : ℕ) (octets : List ℕ) (place : MessageAt) (m : Message) (t : TakenMessage) → IsNumber number → files (file.Mail number) ≡ Some octets → StandsIn octets place m → IsTaking files taken number place m t → IsStored files t
stored_as files taken number octets place m t is_number there stands taking =
    let r = region_is octets place m stands in
    let f = found_there files (instances_taken taken) taking.meta.refs taking.found taking.found_is in
    let few = few_are taken (mailbox_for taking.meta) place (length taking.whole) taking.few in
    subst (IsStored files) (sym taking.is) (record {
      number = is_number;
      stores = λ uid. record {
        stored = record {
          octets_there = octets;
          message = m;
          meta = taking.meta;
          there = there;
          inside = r.1;
          region = subst (λ (text : List ℕ). IsMessage text m) (sym r.0) stands.is_message;
          says = taking.says;
          guid = taking.guid_is;
        };
        instances = map (λ i. i.octets) taking.found;
        names = f.1.named;
        found = f.1.octets;
        whole = taking.is_whole;
        size = size_is m taking.meta (map (λ i. i.octets) taking.found) taking.whole taking.no_error taking.is_whole;
      };
      instances = f.1.whole;
      some = r.2;
      ends = (let e = few.ends in let s = stands.ends in omega (arith, e, s));
      short = few.short;
      in_range = message_in_range files taken number place stands.first m t stands.is_message taking;
    })

-- ---- all messages

-- of one file the first ends before the second begins
abbrev pub StandApart : TakenMessage → TakenMessage → Type 0
StandApart a b = a.file ≡ b.file → a.offset + a.size ≤ b.offset

pub record IsGoodList (files : Files) (taken : List TakenMessage) : Type 0 where
  pub stored : All (IsStored files) taken
  pub guids : AllPairs (λ a b. a.guid ≢ b.guid) taken
  pub apart : AllPairs StandApart taken
  pub agree : (a b : InstRow) → Contains (instances_taken taken) a → Contains (instances_taken taken) b → AgreesOn a b
  pub names : length (mailboxes_met taken) ≤ 1024
  pub room : (name : List ℕ) → count_by (λ t. bytes_eq t.mailbox name) taken ≤ 1000000
  pub few : length taken ≤ 4294967294

-- what is taken of this file so far ends at this offset, and no file after it has any
abbrev pub LiesBefore : ℕ → ℕ → TakenMessage → Type 0
LiesBefore number offset t = t.file ≡ number → t.offset + t.size ≤ offset

-- ---- instances agree

-- instances that are there whole, of one id and one hash, have one size
sizes_same : (files : Files) (a b : InstRow) → IsThereWhole files a → IsThereWhole files b → a.hash ≡ b.hash → a.id ≡ b.id → a.size ≡ b.size
sizes_same files a b p q h i =
    let same : Some p.octets ≡ Some q.octets = sym (subst (λ (x : Hash). files (file.Inst x.0 b.id.0) ≡ Some p.octets) h (subst (λ (x : InstId). files (file.Inst a.hash.0 x.0) ≡ Some p.octets) i p.there)) ∙ q.there in
    let octets : p.octets ≡ q.octets = cc same in
    sym p.size ∙ (ap length octets ∙ q.size)

one_hash : (files : Files) (a b : InstRow) → IsThereWhole files a → IsThereWhole files b → (a.id ≡ b.id → a.hash ≡ b.hash) → AgreesOn a b
one_hash files a b p q h e = (h e, sizes_same files a b p q (h e) e)

-- a reference that doesn't name otherwise names with the same hash
hash_of : List ℕ → Hash
hash_of octets = record { 0 = octets }

hash_same : (a b : Hash) → a.0 ≡ b.0 → a ≡ b
unfolding hash_of
hash_same a b e = let k : hash_of a.0 ≡ hash_of b.0 = ap hash_of e in k

same_hash : (hash : Hash) (id : InstId) (ref : ExtRef) → is_other_hash hash id ref ≡ false → id ≡ ref.id → hash ≡ ref.hash
same_hash hash id ref e i = by_test (bytes_eq id.0 ref.id.0) (bytes_eq hash.0 ref.hash.0) (text_yes id.0 ref.id.0 (ap (λ (x : InstId). x.0) i)) refl e
  where
    by_test : (a b : Bool) → a ≡ true → bytes_eq hash.0 ref.hash.0 ≡ b → (a && not b) ≡ false → hash ≡ ref.hash
    by_test a true p q r = hash_same hash ref.hash (text_is hash.0 ref.hash.0 q)
    by_test true false p q r = absurd (let k : true ≡ false = r in cc k)
    by_test false false p q r = absurd (let k : false ≡ true = p in cc k)

pub none_of : {X : Type 0} → (f : X → Bool) (xs : List X) → list_any f xs ≡ false → All (λ x. f x ≡ false) xs
none_of f [] e = All-nil (λ x. f x ≡ false)
none_of f (x ∷ xs) e = let r = neither (f x) (list_any f xs) e in All-cons (λ y. f y ≡ false) x xs r.0 (none_of f xs r.1)

turned : (a b : InstRow) → AgreesOn a b → AgreesOn b a
turned a b h e = let k = h (sym e) in (sym k.0, sym k.1)

itself : (a : InstRow) → AgreesOn a a
itself a e = (refl, refl)

-- of two that stand in a list of which each two agree
any_two : (xs : List InstRow) (a b : InstRow) → AllPairs AgreesOn xs → Contains xs a → Contains xs b → AgreesOn a b
any_two [] a b pairs p q = absurd (let k = p.1 in omega (arith, k))
any_two (x ∷ xs) a b pairs p q = by_places (λ c d. any_two xs a b (pairs_tail AgreesOn x xs pairs) c d) (among x xs a p) (among x xs b q)
  where
    by_places : (Contains xs a → Contains xs b → AgreesOn a b) → (x ≡ a) ⊎ Contains xs a → (x ≡ b) ⊎ Contains xs b → AgreesOn a b
    by_places rest (inl c) (inl d) = subst (λ (y : InstRow). AgreesOn y b) c (subst (AgreesOn x) d (itself x))
    by_places rest (inl c) (inr d) = subst (λ (y : InstRow). AgreesOn y b) c (All-contains (AgreesOn x) xs b (pairs_head AgreesOn x xs pairs) d)
    by_places rest (inr c) (inl d) = turned b a (subst (λ (y : InstRow). AgreesOn y a) d (All-contains (AgreesOn x) xs a (pairs_head AgreesOn x xs pairs) c))
    by_places rest (inr c) (inr d) = rest c d

-- a row that a reference names, and one of the same id
agree_by : (files : Files) (a row : InstRow) (ref : ExtRef) → is_other_hash a.hash a.id ref ≡ false → ref.hash ≡ row.hash → ref.id ≡ row.id → IsThereWhole files a → IsThereWhole files row → AgreesOn a row
agree_by files a row ref e h i p q = one_hash files a row p q (λ same. same_hash a.hash a.id ref e (same ∙ sym i) ∙ h)

agree_row : (files : Files) (row : InstRow) (ref : ExtRef) (named : List InstRow) → ref.hash ≡ row.hash → ref.id ≡ row.id → IsThereWhole files row → All (λ a. is_other_hash a.hash a.id ref ≡ false) named → All (IsThereWhole files) named → All (λ a. AgreesOn a row) named
agree_row files row ref [] h i q e p = All-nil (λ (a : InstRow). AgreesOn a row)
agree_row files row ref (a ∷ named) h i q e p =
    All-cons (λ (a : InstRow). AgreesOn a row) a named (agree_by files a row ref (All-head (λ (x : InstRow). is_other_hash x.hash x.id ref ≡ false) a named e) h i (All-head (IsThereWhole files) a named p) q)
    (agree_row files row ref named h i q (All-tail (λ (x : InstRow). is_other_hash x.hash x.id ref ≡ false) a named e) (All-tail (IsThereWhole files) a named p))

pub agree_old : (files : Files) (named rows : List InstRow) (refs : List ExtRef) → names_otherwise named refs ≡ false → NameInstances refs rows → All (IsThereWhole files) named → All (IsThereWhole files) rows → All (λ row. All (λ a. AgreesOn a row) named) rows
agree_old files named [] [] e n p q = All-nil (λ (row : InstRow). All (λ a. AgreesOn a row) named)
agree_old files named [] (ref ∷ refs) e n p q = absurd n
agree_old files named (row ∷ rows) [] e n p q = absurd n
agree_old files named (row ∷ rows) (ref ∷ refs) e n p q =
    let a = neither (list_any (λ x. is_other_hash x.hash x.id ref) named) (list_any (λ other. is_other_hash ref.hash ref.id other) refs || names_otherwise named refs) e in
    let b = neither (list_any (λ other. is_other_hash ref.hash ref.id other) refs) (names_otherwise named refs) a.1 in
    All-cons (λ (r : InstRow). All (λ x. AgreesOn x r) named) row rows
    (agree_row files row ref named n.0 n.1 (All-head (IsThereWhole files) row rows q) (none_of (λ (x : InstRow). is_other_hash x.hash x.id ref) named a.0) p)
    (agree_old files named rows refs b.1 n.2 p (All-tail (IsThereWhole files) row rows q))

-- a row and those that later references name
agree_first : (files : Files) (row : InstRow) (ref : ExtRef) (rows : List InstRow) (refs : List ExtRef) → ref.hash ≡ row.hash → ref.id ≡ row.id → IsThereWhole files row → All (λ other. is_other_hash ref.hash ref.id other ≡ false) refs → NameInstances refs rows → All (IsThereWhole files) rows → All (AgreesOn row) rows
agree_first files row ref [] [] h i p e n q = All-nil (AgreesOn row)
agree_first files row ref [] (r ∷ refs) h i p e n q = absurd n
agree_first files row ref (x ∷ rows) [] h i p e n q = absurd n
agree_first files row ref (x ∷ rows) (r ∷ refs) h i p e n q =
    let other = All-head (λ (o : ExtRef). is_other_hash ref.hash ref.id o ≡ false) r refs e in
    let here : AgreesOn row x = one_hash files row x p (All-head (IsThereWhole files) x rows q) (λ same. sym h ∙ (same_hash ref.hash ref.id r other (i ∙ (same ∙ sym n.1)) ∙ n.0)) in
    All-cons (AgreesOn row) x rows here (agree_first files row ref rows refs h i p (All-tail (λ (o : ExtRef). is_other_hash ref.hash ref.id o ≡ false) r refs e) n.2 (All-tail (IsThereWhole files) x rows q))

pub agree_new : (files : Files) (named rows : List InstRow) (refs : List ExtRef) → names_otherwise named refs ≡ false → NameInstances refs rows → All (IsThereWhole files) rows → AllPairs AgreesOn rows
agree_new files named [] [] e n q = pairs_nil AgreesOn
agree_new files named [] (ref ∷ refs) e n q = absurd n
agree_new files named (row ∷ rows) [] e n q = absurd n
agree_new files named (row ∷ rows) (ref ∷ refs) e n q =
    let a = neither (list_any (λ x. is_other_hash x.hash x.id ref) named) (list_any (λ other. is_other_hash ref.hash ref.id other) refs || names_otherwise named refs) e in
    let b = neither (list_any (λ other. is_other_hash ref.hash ref.id other) refs) (names_otherwise named refs) a.1 in
    AllPairs-cons AgreesOn row rows
    (agree_first files row ref rows refs n.0 n.1 (All-head (IsThereWhole files) row rows q) (none_of (λ (o : ExtRef). is_other_hash ref.hash ref.id o) refs b.0) n.2 (All-tail (IsThereWhole files) row rows q))
    (agree_new files named rows refs b.1 n.2 (All-tail (IsThereWhole files) row rows q))

-- ---- one message more

-- instances that messages name are there whole
named_whole : (files : Files) (taken : List TakenMessage) → All (IsStored files) taken → All (IsThereWhole files) (instances_taken taken)
named_whole files [] h = All-nil (IsThereWhole files)
named_whole files (t ∷ taken) h = All-append (IsThereWhole files) t.instances (instances_taken taken) (All-head (IsStored files) t taken h).instances (named_whole files taken (All-tail (IsStored files) t taken h))

instances_more : (taken : List TakenMessage) (t : TakenMessage) → instances_taken (taken ++ t ∷ []) ≡ instances_taken taken ++ t.instances
instances_more taken t = flat_map-append (λ (u : TakenMessage). u.instances) taken (t ∷ []) ∙ ap (λ (rows : List InstRow). instances_taken taken ++ rows) (append-nil t.instances)

agree_more : (files : Files) (taken : List TakenMessage) (t : TakenMessage) → IsGoodList files taken → All (λ row. All (λ a. AgreesOn a row) (instances_taken taken)) t.instances → AllPairs AgreesOn t.instances
    → (a b : InstRow) → Contains (instances_taken (taken ++ t ∷ [])) a → Contains (instances_taken (taken ++ t ∷ [])) b → AgreesOn a b
agree_more files taken t good old new a b p q =
    by_places (Contains-append_cases (instances_taken taken) t.instances a (subst (λ (rows : List InstRow). Contains rows a) (instances_more taken t) p)) (Contains-append_cases (instances_taken taken) t.instances b (subst (λ (rows : List InstRow). Contains rows b) (instances_more taken t) q))
  where
    across : (x y : InstRow) → Contains (instances_taken taken) x → Contains t.instances y → AgreesOn x y
    across x y c d = All-contains (λ (z : InstRow). AgreesOn z y) (instances_taken taken) x (All-contains (λ (row : InstRow). All (λ z. AgreesOn z row) (instances_taken taken)) t.instances y old d) c

    by_places : Contains (instances_taken taken) a ⊎ Contains t.instances a → Contains (instances_taken taken) b ⊎ Contains t.instances b → AgreesOn a b
    by_places (inl c) (inl d) = good.agree a b c d
    by_places (inl c) (inr d) = across a b c d
    by_places (inr c) (inl d) = turned b a (across b a d c)
    by_places (inr c) (inr d) = any_two t.instances a b new c d

-- names that are met
met_more : (taken : List TakenMessage) (t : TakenMessage) → mailboxes_met (taken ++ t ∷ []) ≡ and_name (mailboxes_met taken) t.mailbox
met_more taken t = fold_push (λ names u. and_name names u.mailbox) (codes "INBOX" ∷ []) taken t

names_few : (names : List (List ℕ)) (name : List ℕ) → length names ≤ 1024 → (list_any (bytes_eq name) names ≡ true) ⊎ (length names < 1024) → length (and_name names name) ≤ 1024
names_few names name all known = by_test (list_any (bytes_eq name) names) refl known
  where
    by_test : (b : Bool) → list_any (bytes_eq name) names ≡ b → (b ≡ true) ⊎ (length names < 1024) → length (if b then names else names ++ name ∷ []) ≤ 1024
    by_test true e k = all
    by_test false e (inl k) = absurd (let z : false ≡ true = k in cc z)
    by_test false e (inr l) = let n = length-append names (name ∷ []) in omega (arith, l, n)

abbrev one_of : List ℕ → TakenMessage → ℕ
one_of name t = if bytes_eq t.mailbox name then 1 else 0

room_more : (taken : List TakenMessage) (t : TakenMessage) (name : List ℕ) → count_by (λ u. bytes_eq u.mailbox name) taken ≤ 1000000 → (t.mailbox ≡ name → count_by (λ u. bytes_eq u.mailbox name) taken < 1000000) → count_by (λ u. bytes_eq u.mailbox name) (taken ++ t ∷ []) ≤ 1000000
room_more taken t name all here =
    let a = sum_by-append (one_of name) taken (t ∷ []) in
    let b = sum_by-cons (one_of name) t [] in
    by_test (bytes_eq t.mailbox name) refl a b
  where
    by_test : (c : Bool) → bytes_eq t.mailbox name ≡ c → sum_by (one_of name) (taken ++ t ∷ []) ≡ sum_by (one_of name) taken + sum_by (one_of name) (t ∷ []) → sum_by (one_of name) (t ∷ []) ≡ one_of name t + 0 → sum_by (one_of name) (taken ++ t ∷ []) ≤ 1000000
    by_test true e a b = let l = here (text_is t.mailbox name e) in let z : one_of name t ≡ 1 = ap (λ (c : Bool). if c then 1 else 0) e in omega (arith, a, b, z, l)
    by_test false e a b = let z : one_of name t ≡ 0 = ap (λ (c : Bool). if c then 1 else 0) e in omega (arith, a, b, z, all)

guid_new : (taken : List TakenMessage) (guid : List ℕ) → taken_with guid taken ≡ None → All (λ u. u.guid ≢ guid) taken
guid_new taken guid e = All-weaker (λ (u : TakenMessage). bytes_eq u.guid guid ≡ false) (λ (u : TakenMessage). u.guid ≢ guid) (λ u f same. other u.guid guid f same) taken (found_none (λ (u : TakenMessage). bytes_eq u.guid guid) taken e)
  where
    other : (a b : List ℕ) → bytes_eq a b ≡ false → a ≡ b → ⊥
    other a b f same = let k : false ≡ true = sym f ∙ text_yes a b same in cc k

pub good_more : (files : Files) (taken : List TakenMessage) (number : ℕ) (octets : List ℕ) (place : MessageAt) (m : Message) (t : TakenMessage) → IsNumber number → files (file.Mail number) ≡ Some octets → StandsIn octets place m → IsTaking files taken number place m t
    → IsGoodList files taken → All (LiesBefore number place.offset) taken → IsGoodList files (taken ++ t ∷ [])
good_more files taken number octets place m t is_number there stands taking good before =
    let f = found_there files (instances_taken taken) taking.meta.refs taking.found taking.found_is in
    let few = few_are taken (mailbox_for taking.meta) place (length taking.whole) taking.few in
    let rows = ap (λ (u : TakenMessage). u.instances) taking.is in
    let stored = stored_as files taken number octets place m t is_number there stands taking in
    let old = agree_old files (instances_taken taken) (map (λ i. i.row) taking.found) taking.meta.refs f.0 f.1.named (named_whole files taken good.stored) f.1.whole in
    let new = agree_new files (instances_taken taken) (map (λ i. i.row) taking.found) taking.meta.refs f.0 f.1.named f.1.whole in
    record {
      stored = All-push (IsStored files) taken t good.stored stored;
      guids = pairs_push (λ (a b : TakenMessage). a.guid ≢ b.guid) taken t good.guids
          (All-weaker (λ (u : TakenMessage). u.guid ≢ taking.guid.0) (λ (u : TakenMessage). u.guid ≢ t.guid) (λ u h same. h (same ∙ ap (λ (x : TakenMessage). x.guid) taking.is)) taken (guid_new taken taking.guid.0 taking.new));
      apart = pairs_push StandApart taken t good.apart
          (All-weaker (LiesBefore number place.offset) (λ (u : TakenMessage). StandApart u t) (λ u h same. (let l = h (same ∙ ap (λ (x : TakenMessage). x.file) taking.is) in let o = ap (λ (x : TakenMessage). x.offset) taking.is in omega (arith, l, o))) taken before);
      agree = agree_more files taken t good (subst (λ (rs : List InstRow). All (λ row. All (λ a. AgreesOn a row) (instances_taken taken)) rs) (sym rows) old) (subst (AllPairs AgreesOn) (sym rows) new);
      names = subst (λ (names : List (List ℕ)). length names ≤ 1024) (sym (met_more taken t)) (names_few (mailboxes_met taken) t.mailbox good.names (subst (λ (name : List ℕ). (list_any (bytes_eq name) (mailboxes_met taken) ≡ true) ⊎ (length (mailboxes_met taken) < 1024)) (sym (ap (λ (x : TakenMessage). x.mailbox) taking.is)) few.names));
      room = λ name. room_more taken t name (good.room name) (λ same. subst (λ (n : List ℕ). count_by (λ u. bytes_eq u.mailbox n) taken < 1000000) (sym (ap (λ (x : TakenMessage). x.mailbox) taking.is) ∙ same) few.room);
      few = (let a = length-append taken (t ∷ []) in let b = few.all in omega (arith, a, b));
    }
