-- The map log of a rebuilt store.
use Rattle.std.specs.Prelude.{◌≡◌, ◌≢◌, ◌≤◌, ◌<◌, ◌+◌, ◌^◌, ◌==◌, nat_lt, ℕ, Bool, true, false, List, [], ◌∷◌, ◌++◌, length, fold, refl, All, AllPairs, codes, if◌then◌else◌}
use Rattle.std.specs.List.{list_any, AllByRecursion}
use Rattle.std.specs.Str.{bytes_eq}
use Rattle.std.proofs.Common.{sym, ◌∙◌, subst, arith, append_assoc}
use Rattle.std.proofs.lemmas.List.Elements.{All-nil, All-cons, All-head, All-tail, All-push, All-weaker}
use Rattle.disk_model.specs.Disk.{Files}
use Rattle.mdbox_base.specs.Words.{IsNumber, IsName}
use Rattle.mdbox_base.specs.declared.entries.Highest.{Highest}
use Rattle.mdbox_base.specs.declared.entries.MapEntry.{MapEntry}
use Rattle.mdbox_base.specs.declared.entries.MapEntry.TheVariants as map_entry
use Rattle.model_octets.proofs.PairLemmas.{pairs_push, pairs_nil}
use Rattle.model_octets.proofs.SearchLemmas.{text_yes}
use Rattle.model_logs.specs.Entries.{MapInRange}
use Rattle.model_store.proofs.StoreExampleLemmas.{inbox_is_name}
use Rattle.model_meaning.specs.MapFits.{AllMapFit}
use Rattle.model_meaning.specs.MapMeaning.{MapBox, map_meaning, with_number}
use Rattle.model_rebuild.proofs.NumberingLemmas.{HighestInRange}
use Rattle.model_rebuild.proofs.MapFitLemmas.{fit_behind, first_reads, first_fits, boxes_from, made_after, records_from, stored_after, seals_of, sealed_after_all}
use Rattle.model_rebuild.specs.RebuiltLogs.{made_from, all_stored_from, numbers_skipped, rebuilt_map}
use Rattle.model_taken.proofs.GoodListLemmas.{IsStored, IsGoodList, none_of}
use Rattle.model_taken.proofs.RangeLemmas.{TakenInRange}
use Rattle.model_taken.specs.Rebuild.{SkippedPlace}
use Rattle.model_taken.specs.Taken.{TakenMessage, and_name, mailboxes_met}

-- ---- the names of mailboxes

pub record AreNames (names : List (List ℕ)) : Type 0 where
  pub apart : AllPairs (λ a b. a ≢ b) names
  pub each : All IsName names

differs : (a b : List ℕ) → bytes_eq a b ≡ false → b ≢ a
differs a b f same = let k : false ≡ true = sym f ∙ text_yes a b (sym same) in cc k

none_same : (name : List ℕ) (names : List (List ℕ)) → list_any (bytes_eq name) names ≡ false → All (λ n. n ≢ name) names
none_same name names e = All-weaker (λ (n : List ℕ). bytes_eq name n ≡ false) (λ (n : List ℕ). n ≢ name) (λ n f. differs name n f) names (none_of (bytes_eq name) names e)

name_more : (names : List (List ℕ)) (name : List ℕ) → IsName name → AreNames names → AreNames (and_name names name)
name_more names name is all = by_test (list_any (bytes_eq name) names) refl
  where
    by_test : (b : Bool) → list_any (bytes_eq name) names ≡ b → AreNames (if b then names else names ++ name ∷ [])
    by_test true e = all
    by_test false e = record { apart = pairs_push (λ (a b : List ℕ). a ≢ b) names name all.apart (none_same name names e); each = All-push IsName names name all.each is }

names_met : (taken : List TakenMessage) (names : List (List ℕ)) → All TakenInRange taken → AreNames names → AreNames (fold (λ ns t. and_name ns t.mailbox) names taken)
names_met [] names h all = all
names_met (t ∷ taken) names h all = names_met taken (and_name names t.mailbox) (All-tail TakenInRange t taken h) (name_more names t.mailbox (All-head TakenInRange t taken h).mailbox all)

pub met_names : (taken : List TakenMessage) → All TakenInRange taken → AreNames (mailboxes_met taken)
met_names taken h = names_met taken (codes "INBOX" ∷ []) h (record { apart = pairs_push (λ (a b : List ℕ). a ≢ b) [] (codes "INBOX") (pairs_nil (λ (a b : List ℕ). a ≢ b)) (All-nil (λ (a : List ℕ). a ≢ codes "INBOX")); each = All-cons IsName (codes "INBOX") [] inbox_is_name (All-nil IsName) })

-- ---- the numbers of files that are sealed

number_with : (n : ℕ) (numbers : List ℕ) → IsNumber n → All IsNumber numbers → All IsNumber (with_number n numbers)
number_with n [] is all = All-cons IsNumber n [] is all
number_with n (m ∷ rest) is all = by_test (nat_lt n m) (n == m) (number_with n rest is (All-tail IsNumber m rest all))
  where
    by_test : (a b : Bool) → All IsNumber (with_number n rest) → All IsNumber (if a then n ∷ m ∷ rest else (if b then m ∷ rest else m ∷ with_number n rest))
    by_test true b more = All-cons IsNumber n (m ∷ rest) is all
    by_test false true more = all
    by_test false false more = All-cons IsNumber m (with_number n rest) (All-head IsNumber m rest all) more

abbrev pub HasFileNumber : SkippedPlace → Type 0
HasFileNumber s = IsNumber s.number

pub skipped_numbers : (skipped : List SkippedPlace) → All HasFileNumber skipped → All IsNumber (numbers_skipped skipped)
skipped_numbers [] h = All-nil IsNumber
skipped_numbers (s ∷ rest) h = number_with s.number (numbers_skipped rest) (All-head HasFileNumber s rest h) (skipped_numbers rest (All-tail HasFileNumber s rest h))

-- ---- the whole map log

pub record RebuiltMap (store : List ℕ) (highest : Highest) (generation : ℕ) (taken : List TakenMessage) (skipped : List SkippedPlace) : Type 0 where
  pub fit : AllMapFit store [] (rebuilt_map highest generation taken skipped)
  pub records_are : (map_meaning store (rebuilt_map highest generation taken skipped)).records ≡ records_from 1 taken
  pub boxes_are : (map_meaning store (rebuilt_map highest generation taken skipped)).boxes ≡ boxes_from 1 generation (mailboxes_met taken)

pub map_rebuilt : (files : Files) (store : List ℕ) (highest : Highest) (generation : ℕ) (taken : List TakenMessage) (skipped : List SkippedPlace) → IsGoodList files taken → All TakenInRange taken → All HasFileNumber skipped → HighestInRange highest → IsNumber generation
    → RebuiltMap store highest generation taken skipped
map_rebuilt files store highest generation taken skipped good in_range numbers high g =
    let m = high.map in
    let b = high.mailbox in
    let names = met_names taken in_range in
    let first : List MapEntry = map_entry.H highest ∷ [] in
    let some = good.names in
    let made = made_after store first 1 generation (mailboxes_met taken) [] [] 0 0 (first_reads store highest m b) (omega arith) g names.apart (no_boxes (mailboxes_met taken)) (omega (arith, some)) (omega (arith, some)) in
    let stored = stored_after files store (first ++ made_from 1 generation (mailboxes_met taken)) [] taken (boxes_from 1 generation (mailboxes_met taken)) made.last good made.reads in
    let sealed = sealed_after_all store ((first ++ made_from 1 generation (mailboxes_met taken)) ++ all_stored_from 1 taken) (numbers_skipped skipped) (records_from 1 taken) (boxes_from 1 generation (mailboxes_met taken)) (length taken) made.last (skipped_numbers skipped numbers) stored.reads in
    let behind = fit_behind store (first ++ made_from 1 generation (mailboxes_met taken)) (all_stored_from 1 taken) (seals_of (numbers_skipped skipped)) stored.fit sealed.fit in
    let all = fit_behind store first (made_from 1 generation (mailboxes_met taken)) (all_stored_from 1 taken ++ seals_of (numbers_skipped skipped)) made.fit behind in
    let joined : ((first ++ made_from 1 generation (mailboxes_met taken)) ++ all_stored_from 1 taken) ++ seals_of (numbers_skipped skipped) ≡ rebuilt_map highest generation taken skipped =
    append_assoc (first ++ made_from 1 generation (mailboxes_met taken)) (all_stored_from 1 taken) (seals_of (numbers_skipped skipped)) in
    record {
      fit = fit_behind store [] first (made_from 1 generation (mailboxes_met taken) ++ (all_stored_from 1 taken ++ seals_of (numbers_skipped skipped))) (first_fits store highest high.file high.instance m b) all;
      records_are = subst (λ (es : List MapEntry). (map_meaning store es).records ≡ records_from 1 taken) joined sealed.reads.records_are;
      boxes_are = subst (λ (es : List MapEntry). (map_meaning store es).boxes ≡ boxes_from 1 generation (mailboxes_met taken)) joined sealed.reads.boxes_are;
    }
  where
    no_boxes : (names : List (List ℕ)) → All (λ name. All (λ (box : MapBox). box.name ≢ name) []) names
    no_boxes [] = All-nil (λ (name : List ℕ). All (λ (box : MapBox). box.name ≢ name) [])
    no_boxes (n ∷ names) = All-cons (λ (name : List ℕ). All (λ (box : MapBox). box.name ≢ name) []) n names (All-nil (λ (box : MapBox). box.name ≢ n)) (no_boxes names)

-- ---- its entries in range

each_behind : {X : Type 0} → (P : X → Type 0) (xs ys : List X) → AllByRecursion P xs → AllByRecursion P ys → AllByRecursion P (xs ++ ys)
each_behind P [] ys a b = b
each_behind P (x ∷ xs) ys a b = (a.0, each_behind P xs ys a.1 b)

boxes_in_range : (number generation : ℕ) (names : List (List ℕ)) → generation < 2 ^ 32 → number + length names ≤ 4294967295 → All IsName names → AllByRecursion MapInRange (made_from number generation names)
boxes_in_range number generation [] g l h = tt
boxes_in_range number generation (name ∷ names) g l h = ((omega (arith, l), g, All-head IsName name names h), boxes_in_range (number + 1) generation names g (omega (arith, l)) (All-tail IsName name names h))

stored_in_range : (files : Files) (uid : ℕ) (taken : List TakenMessage) → uid + length taken ≤ 4294967295 → All (IsStored files) taken → All TakenInRange taken → AllByRecursion MapInRange (all_stored_from uid taken)
stored_in_range files uid [] l s h = tt
stored_in_range files uid (t ∷ taken) l s h =
    let a = All-head (IsStored files) t taken s in
    let b = All-head TakenInRange t taken h in
    let n = a.number.high in
    let e = a.ends in
    let z = a.some in
    ((omega arith, omega arith, omega (arith, l), omega (arith, n), omega (arith, e, z), omega (arith, e), b.guid, b.few, b.rows), stored_in_range files (uid + 1) taken (omega (arith, l)) (All-tail (IsStored files) t taken s) (All-tail TakenInRange t taken h))

seals_in_range : (numbers : List ℕ) → All IsNumber numbers → AllByRecursion MapInRange (seals_of numbers)
seals_in_range [] h = tt
seals_in_range (n ∷ numbers) h = ((let k = (All-head IsNumber n numbers h).high in omega (arith, k)), seals_in_range numbers (All-tail IsNumber n numbers h))

pub map_in_range : (files : Files) (highest : Highest) (generation : ℕ) (taken : List TakenMessage) (skipped : List SkippedPlace) → IsGoodList files taken → All TakenInRange taken → All HasFileNumber skipped → HighestInRange highest → IsNumber generation
    → AllByRecursion MapInRange (rebuilt_map highest generation taken skipped)
map_in_range files highest generation taken skipped good in_range numbers high g =
    let m = high.map in
    let b = high.mailbox in
    let f = high.file in
    let i = high.instance in
    let gh = g.high in
    let some = good.names in
    let few = good.few in (
      (omega (arith, f), omega (arith, m), omega (arith, i), omega (arith, b)),
      each_behind MapInRange (made_from 1 generation (mailboxes_met taken)) (all_stored_from 1 taken ++ seals_of (numbers_skipped skipped)) (boxes_in_range 1 generation (mailboxes_met taken) (omega (arith, gh)) (omega (arith, some)) (met_names taken in_range).each)
          (each_behind MapInRange (all_stored_from 1 taken) (seals_of (numbers_skipped skipped)) (stored_in_range files 1 taken (omega (arith, few)) good.stored in_range) (seals_in_range (numbers_skipped skipped) (skipped_numbers skipped numbers))),
    )
