-- The plan of the example's files.
use Rattle.std.specs.Prelude.{◌≡◌, ◌≢◌, ◌≤◌, ◌<◌, ◌==◌, ◌&&◌, ◌⊎◌, ℕ, Bool, true, false, if◌then◌else◌, List, [], ◌∷◌, ◌++◌, codes, refl, Contains, Some, None, Ok}
use Rattle.std.specs.Fmt.{digits}
use Rattle.std.specs.Str.{bytes_eq}
use Rattle.std.proofs.Common.{inl, inr, sym, ap, subst, arith, lit≤, lit<}
use Rattle.std.proofs.lemmas.Bool.{eqb-false, eqb-true}
use Rattle.std.proofs.lemmas.List.Elements.{All-nil, All-cons, All-head, All-tail, All-from_recursion, All-contains_itself}
use Rattle.std.proofs.lemmas.List.Kept.{AllPairs-cons}
use Rattle.hex.specs.Hex.{encode_with, decode_pairs}
use Rattle.mdbox_base.specs.Words.{IsName, IsOctets}
use Rattle.mdbox_base.specs.declared.ids.Guid.{Guid}
use Rattle.model_attach.specs.Rejoined.{IsWhole, first_bad, first_differs}
use Rattle.model_found.specs.Findings.{NumberedFile, IsThereAs, AreStorageFiles, Finding, Stored, HasFindings, FileFinding, findings_of, HaveFindings}
use Rattle.model_found.specs.declared.reason.Reason.TheVariants as reason
use Rattle.model_logs.specs.LogExamples.{example_store}
use Rattle.model_meaning.specs.MapMeaning.{guid_file, instance_number}
use Rattle.model_meaning.specs.MeaningExamples.{example_guid}
use Rattle.model_octets.proofs.PairLemmas.{pairs_nil}
use Rattle.model_octets.proofs.SearchLemmas.{among, text_is}
use Rattle.model_storage.proofs.MetadataLemmas.{metadata_same}
use Rattle.model_storage.proofs.WrittenFileLemmas.{first_is_file, written_message_spells}
use Rattle.model_storage.specs.Metadata.{IsMetadata}
use Rattle.model_storage.specs.References.{ReferenceFits, references_text}
use Rattle.model_storage.specs.StorageFile.{Message, IsFile, AreMessages, place_at}
use Rattle.model_storage.specs.WrittenFile.{FitsInFile, first_header, written_message}
use Rattle.model_storage.specs.declared.places.MessageAt.{MessageAt}
use Rattle.model_storage.specs.declared.metadata_value.Metadata.{Metadata}
use Rattle.model_store.proofs.StoreExampleLemmas.{inbox_is_name}
use Rattle.model_store.specs.InstanceExample.{instance_hash, instance_id, instance_message, instance_metadata, instance_octets, instance_reference, instance_row, message_body, reference_value, whole_octets}
use Rattle.model_rebuild.specs.RebuildExample.{double_message, double_metadata, work_guid, work_message, work_metadata, first_storage, second_storage, lost_files, example_plan}
use Rattle.model_rebuild.specs.RebuildPlan.{IsGuidFound, IsFileNumber, IsInstanceNumber, AreHighestFound, IsMapUsed, IsPlanFor}
use Rattle.model_taken.specs.Judging.{Takes, PassesOver, Skips, IsJudged}
use Rattle.model_taken.specs.Rebuild.{Rebuild}
use Rattle.model_taken.specs.Taken.{TakenMessage}

-- ---- what the lines say

hash_octets : IsOctets instance_hash
hash_octets = All-from_recursion (λ o. o < 256) instance_hash
    (lit< tt, (lit< tt, (lit< tt, (lit< tt, (lit< tt, (lit< tt, (lit< tt, (lit< tt, (lit< tt, (lit< tt, (lit< tt, (lit< tt, (lit< tt, (lit< tt, (lit< tt, (lit< tt, (lit< tt, (lit< tt, (lit< tt, (lit< tt, tt))))))))))))))))))))

id_octets : IsOctets instance_id
id_octets = All-from_recursion (λ o. o < 256) instance_id
    (lit< tt, (lit< tt, (lit< tt, (lit< tt, (lit< tt, (lit< tt, (lit< tt, (lit< tt, (lit< tt, (lit< tt, (lit< tt, (lit< tt, (lit< tt, (lit< tt, (lit< tt, (lit< tt, tt))))))))))))))))

reference_fits : ReferenceFits instance_reference
reference_fits = record { start = lit< tt; some = lit≤ tt; count = lit< tt; form = tt; hash_length = refl; hash = hash_octets; id_length = refl; id = id_octets }

reference_spelled : reference_value ≡ references_text (instance_reference ∷ [])
unfolding encode_with digits
reference_spelled = refl

instance_says : IsMetadata instance_message.lines instance_metadata
unfolding decode_pairs
instance_says = record {
  received = (codes "65000000", refl, record { some = lit≤ tt; short = lit≤ tt; value = refl });
  physical = (codes "4", refl, record { some = lit≤ tt; short = lit≤ tt; value = refl });
  virtual_size = (codes "4", refl, record { some = lit≤ tt; short = lit≤ tt; value = refl });
  guid = (codes "00112233445566770000000100000010", refl, record { length = refl; octets = refl });
  origin = (codes "INBOX", refl, record { same = refl; fits = inbox_is_name });
  refs = (reference_value, refl, record { some = lit≤ tt; fit = (reference_fits, tt); spelled = reference_spelled });
  unknown = refl;
}

double_says : IsMetadata double_message.lines double_metadata
unfolding decode_pairs
double_says = record {
  received = refl;
  physical = refl;
  virtual_size = refl;
  guid = (codes "00112233445566770000000100000010", refl, record { length = refl; octets = refl });
  origin = inl refl;
  refs = refl;
  unknown = refl;
}

work_is_name : IsName (codes "Work")
unfolding lib.Utf8.encode
work_is_name = record {
  some = lit≤ tt;
  short = lit≤ tt;
  printing = All-from_recursion (λ octet. 32 ≤ octet) (codes "Work") (lit≤ tt, (lit≤ tt, (lit≤ tt, (lit≤ tt, tt))));
  no_delete = All-from_recursion (λ octet. octet ≢ 127) (codes "Work") ((λ e. omega (arith, e)), ((λ e. omega (arith, e)), ((λ e. omega (arith, e)), ((λ e. omega (arith, e)), tt))));
  utf8 = (codes "Work", (refl, refl));
}

work_says : IsMetadata work_message.lines work_metadata
unfolding decode_pairs
work_says = record {
  received = refl;
  physical = refl;
  virtual_size = refl;
  guid = (codes "ffeeddccbbaa99887766554433221100", refl, record { length = refl; octets = refl });
  origin = (codes "Work", refl, record { same = refl; fits = work_is_name });
  refs = refl;
  unknown = refl;
}

-- ---- what is found

instance_fits : FitsInFile instance_message
instance_fits = record { size = lit≤ tt; each = (record { key = refl; value = refl }, (record { key = refl; value = refl }, (record { key = refl; value = refl }, (record { key = refl; value = refl }, (record { key = refl; value = refl }, (record { key = refl; value = refl }, tt)))))); block = lit≤ tt }

double_fits : FitsInFile double_message
double_fits = record { size = lit≤ tt; each = (record { key = refl; value = refl }, tt); block = lit≤ tt }

work_fits : FitsInFile work_message
work_fits = record { size = lit≤ tt; each = (record { key = refl; value = refl }, (record { key = refl; value = refl }, tt)); block = lit≤ tt }

first_are : AreMessages (written_message instance_message) (instance_message ∷ [])
first_are = (written_message instance_message, [], refl, written_message_spells instance_message instance_fits, refl)

second_are : AreMessages (written_message instance_message ++ (written_message double_message ++ written_message work_message)) (instance_message ∷ double_message ∷ work_message ∷ [])
second_are = (
  written_message instance_message,
  written_message double_message ++ written_message work_message,
  refl,
  written_message_spells instance_message instance_fits,
  (
    written_message double_message,
    written_message work_message,
    refl,
    written_message_spells double_message double_fits,
    (written_message work_message, [], refl, written_message_spells work_message work_fits, refl),
  ),
)

first_is : IsFile first_storage first_header (instance_message ∷ [])
first_is = record { rest = written_message instance_message; parts = refl; begins = first_is_file.begins; follow = first_are }

second_is : IsFile second_storage first_header (instance_message ∷ double_message ∷ work_message ∷ [])
second_is = record { rest = written_message instance_message ++ (written_message double_message ++ written_message work_message); parts = refl; begins = first_is_file.begins; follow = second_are }

abbrev findings_first : List Finding
findings_first = Stored (place_at 16 instance_message) instance_message ∷ []

abbrev after_double : List Finding
after_double = Stored (place_at 271 work_message) work_message ∷ []

abbrev after_instance : List Finding
after_instance = Stored (place_at 197 double_message) double_message ∷ after_double

abbrev findings_second : List Finding
findings_second = Stored (place_at 16 instance_message) instance_message ∷ after_instance

first_found : HasFindings first_storage findings_first
first_found = record { answer = Ok (place_at 16 instance_message ∷ []); by = (first_header, instance_message ∷ [], first_is, refl, refl) }

second_found : HasFindings second_storage findings_second
second_found = record { answer = Ok (place_at 16 instance_message ∷ place_at 197 double_message ∷ place_at 271 work_message ∷ []); by = (first_header, instance_message ∷ double_message ∷ work_message ∷ [], second_is, refl, refl) }

abbrev file_one : NumberedFile
file_one = record { number = 1; octets = first_storage }

abbrev file_two : NumberedFile
file_two = record { number = 2; octets = second_storage }

abbrev storage : List NumberedFile
storage = file_one ∷ file_two ∷ []

abbrev found : List FileFinding
found = findings_of 1 findings_first ++ findings_of 2 findings_second

all_found : HaveFindings storage found
all_found = (findings_first, findings_of 2 findings_second, first_found, (findings_second, [], second_found, refl, refl), refl)

file_of : ℕ → List ℕ → NumberedFile
file_of number octets = record { number = number; octets = octets }

file_is : (f : NumberedFile) (number : ℕ) (octets : List ℕ) → f.number ≡ number → f.octets ≡ octets → f ≡ record { number = number; octets = octets }
unfolding file_of
file_is f number octets n o = let e : file_of f.number f.octets ≡ file_of number octets = cc in e

some_is : (a b : List ℕ) → Some a ≡ Some b → b ≡ a
some_is a b e = cc e

every_file : (f : NumberedFile) → IsThereAs lost_files f → Contains storage f
unfolding lost_files
every_file f is = by_number (f.number == 1) (f.number == 2) refl refl is.1
  where
    listed : (g : NumberedFile) → Contains storage g → f ≡ g → Contains storage f
    listed g c e = subst (λ (x : NumberedFile). Contains storage x) (sym e) c

    by_number : (b c : Bool) → (f.number == 1) ≡ b → (f.number == 2) ≡ c → (if b then Some first_storage else (if c then Some second_storage else None)) ≡ Some f.octets → Contains storage f
    by_number true c p q e = listed file_one (All-head (Contains storage) file_one (file_two ∷ []) (All-contains_itself storage)) (file_is f 1 first_storage (eqb-true f.number 1 p) (some_is first_storage f.octets e))
    by_number false true p q e = listed file_two (All-head (Contains storage) file_two [] (All-tail (Contains storage) file_one (file_two ∷ []) (All-contains_itself storage))) (file_is f 2 second_storage (eqb-true f.number 2 q) (some_is second_storage f.octets e))
    by_number false false p q e = absurd (let k : None ≡ Some f.octets = e in cc k)

are_storage : AreStorageFiles lost_files storage
unfolding lost_files
are_storage = record {
  rising = AllPairs-cons (λ (a b : NumberedFile). a.number < b.number) file_one (file_two ∷ []) (All-cons (λ (b : NumberedFile). 1 < b.number) file_two [] (lit< tt) (All-nil (λ (b : NumberedFile). 1 < b.number)))
      (AllPairs-cons (λ (a b : NumberedFile). a.number < b.number) file_two [] (All-nil (λ (b : NumberedFile). 2 < b.number)) (pairs_nil (λ (a b : NumberedFile). a.number < b.number)));
  there = All-cons (IsThereAs lost_files) file_one (file_two ∷ []) (record { low = lit≤ tt; high = lit≤ tt }, refl) (All-cons (IsThereAs lost_files) file_two [] (record { low = lit≤ tt; high = lit≤ tt }, refl) (All-nil (IsThereAs lost_files)));
  every = every_file;
}

-- ---- what is taken

abbrev first_taken : TakenMessage
first_taken = record { file = 1; offset = 16; size = 181; guid = example_guid; time = 0x65000000; octets = whole_octets; mailbox = codes "INBOX"; instances = instance_row ∷ [] }

abbrev second_taken : TakenMessage
second_taken = record { file = 2; offset = 271; size = 80; guid = work_guid; time = 0; octets = codes "hello"; mailbox = codes "Work"; instances = [] }

joined : IsWhole whole_octets message_body (instance_reference ∷ []) (instance_octets ∷ [])
joined = (codes "a", codes "b", codes "b", refl, refl, refl, refl, refl)

first_judged : IsJudged lost_files [] 1 (place_at 16 instance_message) instance_message (Takes first_taken)
unfolding lost_files first_bad first_differs
first_judged = inr (instance_metadata, instance_says, (whole_octets, joined, refl))

again_judged : IsJudged lost_files (first_taken ∷ []) 2 (place_at 16 instance_message) instance_message PassesOver
unfolding lost_files first_bad first_differs
again_judged = inr (instance_metadata, instance_says, (whole_octets, joined, refl))

double_judged : IsJudged lost_files (first_taken ∷ []) 2 (place_at 197 double_message) double_message (Skips reason.GuidTwice)
unfolding lost_files first_bad first_differs
double_judged = inr (double_metadata, double_says, (codes "other", refl, refl))

work_judged : IsJudged lost_files (first_taken ∷ []) 2 (place_at 271 work_message) work_message (Takes second_taken)
unfolding lost_files first_bad first_differs
work_judged = inr (work_metadata, work_says, (codes "hello", refl, refl))

rebuilt : Rebuild lost_files example_plan.taken example_plan.skipped
rebuilt = record {
  storage = storage;
  are_storage = are_storage;
  found = found;
  are_found = all_found;
  judgements = record { number = 1; offset = 16; verdict = Takes first_taken } ∷ record { number = 2; offset = 16; verdict = PassesOver }
      ∷ record { number = 2; offset = 197; verdict = Skips reason.GuidTwice } ∷ record { number = 2; offset = 271; verdict = Takes second_taken } ∷ [];
  are_judged = ((refl, refl, first_judged), ((refl, refl, again_judged), ((refl, refl, double_judged), ((refl, refl, work_judged), tt))));
  taken_are = refl;
  skipped_are = refl;
}

-- ---- its numbers

guid_said : (m n : Message) (meta x : Metadata) (guid : Guid) → m ≡ n → IsMetadata m.lines meta → IsMetadata n.lines x → meta.guid ≡ Some guid → x.guid ≡ Some guid
guid_said m n meta x guid e a b is =
    subst (λ (y : Metadata). y.guid ≡ Some guid) (metadata_same n.lines meta x (subst (λ (k : Message). IsMetadata k.lines meta) e a) b) is

low_of : (octets : List ℕ) (guid : Guid) → Some (record { 0 = octets }) ≡ Some guid → guid_file example_store octets ≤ 2 → guid_file example_store guid.0 ≤ 2
low_of octets guid e low = subst (λ (o : List ℕ). guid_file example_store o ≤ 2) (let k : octets ≡ guid.0 = cc e in k) low

found_as : ℕ → MessageAt → Message → FileFinding
found_as number place m = record { number = number; finding = Stored place m }

message_is : (a b : ℕ) (p q : MessageAt) (m n : Message) → found_as a p m ≡ found_as b q n → n ≡ m
unfolding found_as
message_is a b p q m n e = let k : Stored p m ≡ Stored q n = ap (λ (x : FileFinding). x.finding) e in cc k

guid_low : (guid : Guid) → IsGuidFound found guid → guid_file example_store guid.0 ≤ 2
unfolding found_as
guid_low guid g = by_first (among (found_as 1 (place_at 16 instance_message) instance_message) (findings_of 2 findings_second) (found_as g.number g.place g.message) g.stands)
  where
    by_instance : g.message ≡ instance_message → guid_file example_store guid.0 ≤ 2
    by_instance e = low_of example_guid guid (guid_said g.message instance_message g.meta instance_metadata guid e g.says instance_says g.is) (lit≤ tt)

    by_double : g.message ≡ double_message → guid_file example_store guid.0 ≤ 2
    by_double e = low_of example_guid guid (guid_said g.message double_message g.meta double_metadata guid e g.says double_says g.is) (lit≤ tt)

    by_work : g.message ≡ work_message → guid_file example_store guid.0 ≤ 2
    by_work e = low_of work_guid guid (guid_said g.message work_message g.meta work_metadata guid e g.says work_says g.is) (lit≤ tt)

    by_last : (found_as 2 (place_at 271 work_message) work_message ≡ found_as g.number g.place g.message) ⊎ Contains [] (found_as g.number g.place g.message) → guid_file example_store guid.0 ≤ 2
    by_last (inl e) = by_work (message_is 2 g.number (place_at 271 work_message) g.place work_message g.message e)
    by_last (inr c) = let k = c.1 in omega (arith, k)

    by_third : (found_as 2 (place_at 197 double_message) double_message ≡ found_as g.number g.place g.message) ⊎ Contains (findings_of 2 after_double) (found_as g.number g.place g.message) → guid_file example_store guid.0 ≤ 2
    by_third (inl e) = by_double (message_is 2 g.number (place_at 197 double_message) g.place double_message g.message e)
    by_third (inr c) = by_last (among (found_as 2 (place_at 271 work_message) work_message) [] (found_as g.number g.place g.message) c)

    by_second : (found_as 2 (place_at 16 instance_message) instance_message ≡ found_as g.number g.place g.message) ⊎ Contains (findings_of 2 after_instance) (found_as g.number g.place g.message) → guid_file example_store guid.0 ≤ 2
    by_second (inl e) = by_instance (message_is 2 g.number (place_at 16 instance_message) g.place instance_message g.message e)
    by_second (inr c) = by_third (among (found_as 2 (place_at 197 double_message) double_message) (findings_of 2 after_double) (found_as g.number g.place g.message) c)

    by_first : (found_as 1 (place_at 16 instance_message) instance_message ≡ found_as g.number g.place g.message) ⊎ Contains (findings_of 2 findings_second) (found_as g.number g.place g.message) → guid_file example_store guid.0 ≤ 2
    by_first (inl e) = by_instance (message_is 1 g.number (place_at 16 instance_message) g.place instance_message g.message e)
    by_first (inr c) = by_second (among (found_as 2 (place_at 16 instance_message) instance_message) (findings_of 2 after_instance) (found_as g.number g.place g.message) c)

file_low : (n : ℕ) → IsFileNumber lost_files example_store found n → n ≤ 2
unfolding lost_files
file_low n (inl h) = by_number (n == 1) (n == 2) refl refl h.1
  where
    by_number : (b c : Bool) → (n == 1) ≡ b → (n == 2) ≡ c → (if b then Some first_storage else (if c then Some second_storage else None)) ≢ None → n ≤ 2
    by_number true c p q there = let k = eqb-true n 1 p in omega (arith, k)
    by_number false true p q there = let k = eqb-true n 2 q in omega (arith, k)
    by_number false false p q there = absurd (there refl)
file_low n (inr h) = let low = guid_low h.0 h.1 in let e = h.2 in omega (arith, low, e)

instance_low : (n : ℕ) → IsInstanceNumber lost_files example_store n → n ≤ 1
unfolding lost_files
instance_low n h = by_name (bytes_eq h.0 instance_hash) (bytes_eq h.1 instance_id) refl h.3
  where
    by_name : (b c : Bool) → bytes_eq h.1 instance_id ≡ c → (if b && c then Some instance_octets else None) ≢ None → n ≤ 1
    by_name false c p there = absurd (there refl)
    by_name true false p there = absurd (there refl)
    by_name true true p there =
        let same : instance_number example_store h.1 ≡ 1 = ap (instance_number example_store) (text_is h.1 instance_id p) in
        let e = h.4 in
        omega (arith, same, e)

some_there : {X : Type 0} → (x : X) → Some x ≢ None
some_there x e = cc e

numbers : AreHighestFound lost_files example_store found example_plan.highest
unfolding lost_files
numbers = record {
  files_are = record { most = file_low; reached = inr (inl (record { low = lit≤ tt; high = lit≤ tt }, some_there second_storage)) };
  instances_are = record { most = instance_low; reached = inr (instance_hash, instance_id, (refl, refl, hash_octets, id_octets), some_there instance_octets, refl) };
  map_is = refl;
  mailbox_is = refl;
}

abbrev no_octets : List ℕ
no_octets = []

second_free : (m : ℕ) → 1 ≤ m → (IsMapUsed lost_files m → ⊥) → 2 ≤ m
unfolding lost_files
second_free m low free = by_one (m == 1) refl free
  where
    by_one : (b : Bool) → (m == 1) ≡ b → ((if b then Some no_octets else None) ≢ None → ⊥) → 2 ≤ m
    by_one true p h = absurd (h (some_there no_octets))
    by_one false p h = let k = eqb-false m 1 p in omega (arith, low, k)

pub example_planned : IsPlanFor lost_files example_store example_plan
unfolding lost_files rebuilt
example_planned = record {
  rebuild = rebuilt;
  numbers = numbers;
  map_free = inl (record { low = lit≤ tt; high = lit≤ tt }, λ used. used refl, λ m is free. second_free m is.low free);
  box_free = inl (record { low = lit≤ tt; high = lit≤ tt }, λ used. used.1 refl, λ m is free. is.low);
}
