-- The files of the example are safe for its lists.
use Rattle.std.specs.Prelude.{◌≡◌, ◌≢◌, ◌≤◌, ◌+◌, ℕ, List, [], ◌∷◌, ◌++◌, length, take, drop, codes, Option, Some, None, All, Contains, Bool, true, false, if◌then◌else◌, refl}
use Rattle.std.specs.Option.{option_map_or}
use Rattle.std.specs.Str.{bytes_eq}
use Rattle.std.proofs.Common.{sym, ◌∙◌, ap, arith, subst, lit≤, lit<}
use Rattle.std.proofs.lemmas.List.Elements.{All-nil, All-cons, All-contains, All-from_recursion}
use Rattle.hex.specs.Hex.{decode_pairs}
use Rattle.disk_model.specs.declared.name.FileName.TheVariants as file
use Rattle.mdbox_base.specs.declared.entries.InstRow.{InstRow}
use Rattle.model_storage.specs.declared.metadata_value.Metadata.{Metadata}
use Rattle.mdbox_base.specs.declared.metadata.ExtRef.{ExtRef}
use Rattle.model_lists.specs.Lists.{refs_of}
use Rattle.model_meaning.specs.MapMeaning.{MapRecord, MapMeaning, map_meaning, count_of}
use Rattle.model_meaning.specs.MapFits.{AllMapFit}
use Rattle.model_storage.proofs.FileLemmas.{message_same}
use Rattle.model_storage.proofs.MetadataLemmas.{metadata_same}
use Rattle.model_mime.specs.Lines.{content}
use Rattle.model_mime.specs.Fields.{fields_of}
use Rattle.model_mime.specs.Parts.{parts_in, part_of, found_in}
use Rattle.model_attach.specs.Detached.{AreDetached}
use Rattle.model_logs.specs.LogExamples.{example_store, root_log, box_log, map_log, root_is_log, box_is_log, map_is_log}
use Rattle.model_meaning.specs.MeaningExamples.{example_guid, example_added, example_map}
use Rattle.model_meaning.proofs.WordLemmas.{no_words}
use Rattle.model_store.specs.Stands.{HasRoot, HasMap, HasBox, HasInstances, HoldsMessage, StoresMessage, StoredOnce, KeepsDetached, StandsBy, NamesOwn}
use Rattle.model_store.proofs.StandsLemmas.{kept_same}
use Rattle.model_store.specs.Safe.{LiesInFile, IsThereWhole, Safe}
use Rattle.mdbox_base.specs.Words.{IsName}
use Rattle.model_storage.specs.StorageFile.{Message, IsMessage}
use Rattle.model_storage.specs.Metadata.{IsMetadata}
use Rattle.model_store.specs.StoreExample.{example_file, message_header, message_block, example_message, example_metadata, example_image, example_lists}

inbox_printing : All (λ octet. 32 ≤ octet) (codes "INBOX")
inbox_printing = All-from_recursion (λ octet. 32 ≤ octet) (codes "INBOX") (lit≤ tt, (lit≤ tt, (lit≤ tt, (lit≤ tt, (lit≤ tt, tt)))))

inbox_no_delete : All (λ octet. octet ≢ 127) (codes "INBOX")
inbox_no_delete = All-from_recursion (λ octet. octet ≢ 127) (codes "INBOX") ((λ e. omega (arith, e)), ((λ e. omega (arith, e)), ((λ e. omega (arith, e)), ((λ e. omega (arith, e)), ((λ e. omega (arith, e)), tt)))))

pub inbox_is_name : IsName (codes "INBOX")
unfolding lib.Utf8.encode
inbox_is_name = record { some = lit≤ tt; short = lit≤ tt; printing = inbox_printing; no_delete = inbox_no_delete; utf8 = (codes "INBOX", (refl, refl)) }

pub message_reads : IsMessage (message_header ++ message_block) example_message
message_reads = record {
  header = message_header;
  block = message_block;
  spelled = refl;
  begins = record { filler = codes "          "; digits = codes "0000000000000000"; spelled = refl; filler_length = refl; filler_octets = refl; digits_length = refl; value = refl; fits = lit≤ tt };
  ends = record {
    each = (record { key = refl; value = refl }, (record { key = refl; value = refl }, (record { key = refl; value = refl }, (record { key = refl; value = refl }, tt))));
    spelled = refl;
    short = lit≤ tt;
  };
}

pub lines_say : IsMetadata example_message.lines example_metadata
unfolding decode_pairs
lines_say = record {
  received = (codes "65000000", refl, record { some = lit≤ tt; short = lit≤ tt; value = refl });
  physical = refl;
  virtual_size = (codes "0", refl, record { some = lit≤ tt; short = lit≤ tt; value = refl });
  guid = (codes "00112233445566770000000100000010", refl, record { length = refl; octets = refl });
  origin = (codes "INBOX", refl, record { same = refl; fits = inbox_is_name });
  refs = refl;
  unknown = refl;
}

example_meaning : MapMeaning
example_meaning = map_meaning example_store example_map

abbrev example_record : MapRecord
example_record = record { uid = 1; origin = 0; count = 1; file = 1; offset = 16; size = 89; guid = example_guid; instances = [] }

-- ---- the logs

has_root : HasRoot example_image example_store 1
unfolding example_image
has_root = record { before = []; log = record { octets = root_log; there = refl; whole = root_is_log }; in_range = (lit< tt, tt) }

all_fit : AllMapFit example_store [] example_map
all_fit = (
  record { box_number = record { low = lit≤ tt; high = lit≤ tt }; box_new = lit< tt; first = record { low = lit≤ tt; high = lit≤ tt }; name_new = All-nil _; room = lit< tt },
  (
    record {
      known_origin = lit≤ tt;
      uid_number = record { low = lit≤ tt; high = lit≤ tt };
      uid_new = lit< tt;
      region = record { file_number = record { low = lit≤ tt; high = lit≤ tt }; some = lit≤ tt; ends = lit≤ tt; free = All-nil _ };
      guid_new = All-nil _;
      known = All-nil _;
      earlier = λ i j d lt le. absurd (omega (arith, le));
    },
    tt,
  ),
)

has_map : HasMap example_image example_store example_map
unfolding example_image
has_map = record {
  generation = 1;
  generation_number = record { low = lit≤ tt; high = lit≤ tt };
  root = has_root;
  log = record { octets = map_log; there = refl; whole = map_is_log };
  in_range = ((lit< tt, lit< tt, inbox_is_name), ((lit< tt, lit< tt, lit< tt, lit< tt, lit< tt, lit< tt, refl, lit< tt, tt), tt));
  fit = all_fit;
}

has_box : HasBox example_image example_store (record { number = 1; generation = 1; name = codes "INBOX" }) (example_added ∷ [])
unfolding example_image
has_box = record {
  log = record { octets = box_log; there = refl; whole = box_is_log };
  in_range = ((lit< tt, lit< tt, lit< tt, lit< tt, lit< tt, refl, (lit< tt, tt)), tt);
  fit = ((lit≤ tt, lit≤ tt, lit≤ tt, lit≤ tt, lit< tt, no_words), tt);
}

-- ---- the message

holds_message : HoldsMessage example_image example_record
unfolding example_image
holds_message = record {
  octets_there = example_file;
  message = example_message;
  meta = example_metadata;
  there = refl;
  inside = lit≤ tt;
  region = message_reads;
  says = lines_say;
  guid = refl;
}

kept : StoresMessage example_image example_record []
unfolding holds_message
kept = record {
  stored = holds_message;
  instances = [];
  names = tt;
  found = tt;
  whole = refl;
  size = refl;
}

-- the map's only record names no instance
none_named : All (λ (row : MapRecord). row.instances ≡ []) example_meaning.records
unfolding example_meaning
none_named = All-cons (λ (row : MapRecord). row.instances ≡ []) example_record [] refl (All-nil (λ (row : MapRecord). row.instances ≡ []))

nothing_in : (is : List InstRow) (i : InstRow) → is ≡ [] → Contains is i → ⊥
nothing_in is i e c = let h : length is ≡ 0 = ap length e in let k = c.1 in omega (arith, h, k)

no_own : (inst : InstRow) (octets : List ℕ) → NamesOwn example_image example_meaning inst octets → ⊥
no_own inst octets n = nothing_in n.row.instances inst (All-contains (λ (row : MapRecord). row.instances ≡ []) example_meaning.records n.row none_named n.is_record) n.is_named

stored_once : StoredOnce example_image example_meaning
stored_once = record {
  once = λ a b octets p q. absurd (no_own a octets p);
  least = λ a b octets p q h l. no_own a octets p;
  hash = λ a octets p. absurd (no_own a octets p);
}

only_record : All (λ (row : MapRecord). row ≡ example_record) example_meaning.records
unfolding example_meaning
only_record = All-cons (λ (row : MapRecord). row ≡ example_record) example_record [] refl (All-nil (λ (row : MapRecord). row ≡ example_record))

nothing_detached : AreDetached [] [] [] []
unfolding fields_of content parts_in part_of found_in
nothing_detached = record { one_each = refl; detached = refl }

detached_along : (t b : List ℕ) (rs : List ExtRef) (is : List (List ℕ)) → t ≡ [] → b ≡ [] → rs ≡ [] → is ≡ [] → AreDetached t b rs is
detached_along t b rs is e1 e2 e3 e4 =
    subst (λ (o : List ℕ). AreDetached o b rs is) (sym e1) (subst (λ (o : List ℕ). AreDetached [] o rs is) (sym e2)
    (subst (λ (o : List ExtRef). AreDetached [] [] o is) (sym e3) (subst (λ (o : List (List ℕ)). AreDetached [] [] [] o) (sym e4) nothing_detached)))

some_same : {X : Type 0} → (o : Option X) (a b : X) → o ≡ Some a → o ≡ Some b → a ≡ b
some_same o a b p q = let h : Some a ≡ Some b = sym p ∙ q in cc h

no_instances : (is : List (List ℕ)) → HasInstances example_image [] is → is ≡ []
no_instances [] h = refl
no_instances (i ∷ is) h = absurd h

the_file : example_image (file.Mail 1) ≡ Some example_file
unfolding example_image
the_file = refl

record_detached : (octets : List ℕ) → (k : StoresMessage example_image example_record octets) → AreDetached octets k.stored.message.body k.stored.meta.refs k.instances
record_detached octets k =
    let h : HoldsMessage example_image example_record = k.stored in
    let e : h.octets_there ≡ example_file = some_same (example_image (file.Mail 1)) h.octets_there example_file h.there the_file in
    let m : h.message ≡ example_message = (message_same (take 89 (drop 16 h.octets_there)) (take 89 (drop 16 example_file)) [] [] h.message example_message h.region message_reads (ap (λ (o : List ℕ). take 89 (drop 16 o) ++ []) e)).1 in
    let meta : h.meta ≡ example_metadata = metadata_same example_message.lines h.meta example_metadata (subst (λ (o : Message). IsMetadata o.lines h.meta) m h.says) lines_say in
    detached_along octets h.message.body h.meta.refs k.instances (kept_same example_image example_record octets [] k kept) (ap (λ (o : Message). o.body) m) (ap (λ (o : Metadata). o.refs) meta) (no_instances k.instances k.found)

keeps_detached : KeepsDetached example_image example_meaning
keeps_detached row octets c own k =
    let e : row ≡ example_record = All-contains (λ (r : MapRecord). r ≡ example_record) example_meaning.records row only_record c in
    subst (λ (r : MapRecord). (kept : StoresMessage example_image r octets) → AreDetached octets kept.stored.message.body kept.stored.meta.refs kept.instances) (sym e) (record_detached octets) k

-- ---- the lists

stands : StandsBy example_image example_store example_map example_lists
unfolding example_meaning
stands = record {
  map_log = has_map;
  mailboxes = (
    record {
      entries = example_added ∷ [];
      log = has_box;
      number = refl;
      name = refl;
      next = refl;
      messages = (record { uid = refl; flags = refl; time = refl; guid = refl; size = refl; words = refl; entry = example_record; found = refl; same = refl; octets = kept }, tt);
    },
    tt,
  );
  one_record = λ i j d lt le. absurd (omega (arith, lt, le));
  once = stored_once;
  detached = keeps_detached;
}

by_guid : (same : Bool) → 0 + (0 + (if same then 1 else 0)) ≤ option_map_or (λ (row : MapRecord). row.count) (if same then Some example_record else None) 0
by_guid true = lit≤ tt
by_guid false = lit≤ tt

count_one : (guid : List ℕ) → refs_of example_lists guid ≤ count_of example_meaning guid
unfolding example_meaning
count_one guid = by_guid (bytes_eq example_guid guid)

-- The example's files are safe for its lists.
pub example_safe : Safe example_image example_lists
unfolding example_meaning example_image
example_safe = record {
  store = example_store;
  entries = example_map;
  by = record {
    stands = stands;
    has_all = record {
      counts = count_one;
      regions = All-cons (LiesInFile example_image) example_record [] (record { octets = example_file; there = refl; inside = lit≤ tt }) (All-nil (LiesInFile example_image));
      instances = All-nil (IsThereWhole example_image);
    };
  };
}
