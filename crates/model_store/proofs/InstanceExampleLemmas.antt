-- The files of the example with an instance are safe for its lists.
use Rattle.std.specs.Prelude.{◌≡◌, ◌≤◌, ◌<◌, ◌+◌, ℕ, List, [], ◌∷◌, codes, Some, None, All, Contains, Bool, true, false, if◌then◌else◌, refl}
use Rattle.std.specs.Fmt.{digits}
use Rattle.std.specs.Option.{option_map_or}
use Rattle.std.specs.Str.{bytes_eq}
use Rattle.std.proofs.Common.{lit≤, lit<, arith, inr}
use Rattle.std.proofs.lemmas.List.Elements.{All-nil, All-cons, All-contains, All-from_recursion}
use Rattle.hex.specs.Hex.{encode_with, decode_pairs}
use Rattle.disk_model.specs.declared.name.FileName.TheVariants as file
use Rattle.mdbox_base.specs.Words.{IsOctets}
use Rattle.model_lists.specs.Lists.{refs_of}
use Rattle.model_logs.specs.LogExamples.{example_store, root_log, map_made, example_box_head, example_map_head, root_is_log}
use Rattle.model_logs.specs.LogFile.{EntryFits, head_octets, IsLog}
use Rattle.model_meaning.specs.MapFits.{AllMapFit}
use Rattle.model_meaning.specs.MapMeaning.{MapRecord, MapMeaning, map_meaning, count_of}
use Rattle.model_meaning.specs.MeaningExamples.{example_guid}
use Rattle.model_meaning.proofs.WordLemmas.{no_words}
use Rattle.model_storage.specs.Metadata.{IsMetadata}
use Rattle.model_storage.specs.References.{ReferenceFits, references_text, AreReferences}
use Rattle.model_storage.specs.StorageFile.{IsMessage}
use Rattle.model_store.specs.Stands.{HasRoot, HasMap, HasBox, HoldsMessage, StoresMessage, StoredOnce, KeepsDetached, StandsBy}
use Rattle.model_store.specs.Safe.{LiesInFile, IsThereWhole, Safe}
use Rattle.model_store.specs.InstanceExample.{instance_octets, instance_hash, instance_id, instance_row, instance_reference, instance_message_header, reference_value, instance_message_block, message_octets, stored_instance_file, instance_message, instance_metadata, instance_added, added_entry, instance_box_log, instance_map, stored_entry, instance_map_log, instance_image, whole_octets, instance_lists}
use Rattle.model_store.proofs.StoreExampleLemmas.{inbox_is_name}

-- ---- octets

store_octets : IsOctets example_store
store_octets = All-from_recursion (λ o. o < 256) example_store (lit< tt, (lit< tt, (lit< tt, (lit< tt, (lit< tt, (lit< tt, (lit< tt, (lit< tt, tt))))))))

hash_octets : IsOctets instance_hash
hash_octets = All-from_recursion (λ o. o < 256) instance_hash
    (lit< tt, (lit< tt, (lit< tt, (lit< tt, (lit< tt, (lit< tt, (lit< tt, (lit< tt, (lit< tt, (lit< tt, (lit< tt, (lit< tt, (lit< tt, (lit< tt, (lit< tt, (lit< tt, (lit< tt, (lit< tt, (lit< tt, (lit< tt, tt))))))))))))))))))))

id_octets : IsOctets instance_id
id_octets = All-from_recursion (λ o. o < 256) instance_id
    (lit< tt, (lit< tt, (lit< tt, (lit< tt, (lit< tt, (lit< tt, (lit< tt, (lit< tt, (lit< tt, (lit< tt, (lit< tt, (lit< tt, (lit< tt, (lit< tt, (lit< tt, (lit< tt, tt))))))))))))))))

-- ---- the storage file

message_reads : IsMessage message_octets instance_message
message_reads = record {
  header = instance_message_header;
  block = instance_message_block;
  spelled = refl;
  begins = record { filler = codes "          "; digits = codes "0000000000000002"; spelled = refl; filler_length = refl; filler_octets = refl; digits_length = refl; value = refl; fits = lit≤ tt };
  ends = record {
    each = (record { key = refl; value = refl }, (record { key = refl; value = refl }, (record { key = refl; value = refl }, (record { key = refl; value = refl }, (record { key = refl; value = refl }, (record { key = refl; value = refl }, tt))))));
    spelled = refl;
    short = lit≤ tt;
  };
}

reference_fits : ReferenceFits instance_reference
reference_fits = record { start = lit< tt; some = lit≤ tt; count = lit< tt; form = tt; hash_length = refl; hash = hash_octets; id_length = refl; id = id_octets }

reference_spelled : reference_value ≡ references_text (instance_reference ∷ [])
unfolding encode_with digits
reference_spelled = refl

reference_reads : AreReferences reference_value (instance_reference ∷ [])
reference_reads = record { some = lit≤ tt; fit = (reference_fits, tt); spelled = reference_spelled }

lines_say : IsMetadata instance_message.lines instance_metadata
unfolding decode_pairs
lines_say = record {
  received = (codes "65000000", refl, record { some = lit≤ tt; short = lit≤ tt; value = refl });
  physical = (codes "4", refl, record { some = lit≤ tt; short = lit≤ tt; value = refl });
  virtual_size = (codes "4", refl, record { some = lit≤ tt; short = lit≤ tt; value = refl });
  guid = (codes "00112233445566770000000100000010", refl, record { length = refl; octets = refl });
  origin = (codes "INBOX", refl, record { same = refl; fits = inbox_is_name });
  refs = (reference_value, refl, reference_reads);
  unknown = refl;
}

-- ---- the logs

box_is_log : IsLog instance_box_log example_box_head (added_entry ∷ [])
unfolding head_octets
box_is_log = record {
  head_fits = record { version = inr refl; store = refl; octets = store_octets; number = lit< tt; generation = lit< tt };
  entries_fit = All-cons EntryFits added_entry [] (record { some = lit≤ tt; short = lit< tt }) (All-nil EntryFits);
  gate = 0;
  behind = [];
  spelled = refl;
  ends = inr refl;
}

map_is_log : IsLog instance_map_log example_map_head (map_made ∷ stored_entry ∷ [])
unfolding head_octets
map_is_log = record {
  head_fits = record { version = refl; store = refl; octets = store_octets; number = lit< tt; generation = lit< tt };
  entries_fit = All-cons EntryFits map_made (stored_entry ∷ []) (record { some = lit≤ tt; short = lit< tt }) (All-cons EntryFits stored_entry [] (record { some = lit≤ tt; short = lit< tt }) (All-nil EntryFits));
  gate = 0;
  behind = [];
  spelled = refl;
  ends = inr refl;
}

instance_meaning : MapMeaning
instance_meaning = map_meaning example_store instance_map

abbrev instance_record : MapRecord
instance_record = record { uid = 1; origin = 1; count = 1; file = 1; offset = 16; size = 181; guid = example_guid; instances = instance_row ∷ [] }

has_root : HasRoot instance_image example_store 1
unfolding instance_image
has_root = record { before = []; log = record { octets = root_log; there = refl; whole = root_is_log }; in_range = (lit< tt, tt) }

all_fit : AllMapFit example_store [] instance_map
all_fit = (
  record { box_number = record { low = lit≤ tt; high = lit≤ tt }; box_new = lit< tt; first = record { low = lit≤ tt; high = lit≤ tt }; name_new = All-nil _; room = lit< tt },
  (
    record {
      known_origin = lit≤ tt;
      uid_number = record { low = lit≤ tt; high = lit≤ tt };
      uid_new = lit< tt;
      region = record { file_number = record { low = lit≤ tt; high = lit≤ tt }; some = lit≤ tt; ends = lit≤ tt; free = All-nil _ };
      guid_new = All-nil _;
      known = All-nil _;
      earlier = λ i j d lt le. absurd (omega (arith, lt, le));
    },
    tt,
  ),
)

has_map : HasMap instance_image example_store instance_map
unfolding instance_image
has_map = record {
  generation = 1;
  generation_number = record { low = lit≤ tt; high = lit≤ tt };
  root = has_root;
  log = record { octets = instance_map_log; there = refl; whole = map_is_log };
  in_range = ((lit< tt, lit< tt, inbox_is_name), ((lit< tt, lit< tt, lit< tt, lit< tt, lit< tt, lit< tt, refl, lit< tt, ((refl, refl, lit< tt), tt)), tt));
  fit = all_fit;
}

has_box : HasBox instance_image example_store (record { number = 1; generation = 1; name = codes "INBOX" }) (instance_added ∷ [])
unfolding instance_image
has_box = record {
  log = record { octets = instance_box_log; there = refl; whole = box_is_log };
  in_range = ((lit< tt, lit< tt, lit< tt, lit< tt, lit< tt, refl, (lit< tt, tt)), tt);
  fit = ((lit≤ tt, lit≤ tt, lit≤ tt, lit≤ tt, lit< tt, no_words), tt);
}

-- ---- the message

holds_message : HoldsMessage instance_image instance_record
unfolding instance_image
holds_message = record {
  octets_there = stored_instance_file;
  message = instance_message;
  meta = instance_metadata;
  there = refl;
  inside = lit≤ tt;
  region = message_reads;
  says = lines_say;
  guid = refl;
}

instance_there : instance_image (file.Inst instance_hash instance_id) ≡ Some instance_octets
unfolding instance_image
instance_there = refl

kept : StoresMessage instance_image instance_record whole_octets
unfolding holds_message
kept = record {
  stored = holds_message;
  instances = instance_octets ∷ [];
  names = (refl, refl, tt);
  found = (instance_there, tt);
  whole = (codes "a", codes "b", codes "b", refl, refl, refl, refl, refl);
  size = refl;
}

-- no record is of an own save
found_records : All (λ (row : MapRecord). row.origin ≡ 1) instance_meaning.records
unfolding instance_meaning
found_records = All-cons (λ (row : MapRecord). row.origin ≡ 1) instance_record [] refl (All-nil (λ (row : MapRecord). row.origin ≡ 1))

not_own : (row : MapRecord) → Contains instance_meaning.records row → row.origin ≡ 0 → ⊥
not_own row c own = let h : row.origin ≡ 1 = All-contains (λ (row : MapRecord). row.origin ≡ 1) instance_meaning.records row found_records c in omega (arith, h, own)

stored_once : StoredOnce instance_image instance_meaning
stored_once = record {
  once = λ a b octets p q. absurd (not_own p.row p.is_record p.own);
  least = λ a b octets p q h l. not_own p.row p.is_record p.own;
  hash = λ a octets p. absurd (not_own p.row p.is_record p.own);
}

keeps_detached : KeepsDetached instance_image instance_meaning
keeps_detached row octets c own k = absurd (not_own row c own)

-- ---- the lists

stands : StandsBy instance_image example_store instance_map instance_lists
unfolding instance_meaning
stands = record {
  map_log = has_map;
  mailboxes = (
    record {
      entries = instance_added ∷ [];
      log = has_box;
      number = refl;
      name = refl;
      next = refl;
      messages = (record { uid = refl; flags = refl; time = refl; guid = refl; size = refl; words = refl; entry = instance_record; found = refl; same = refl; octets = kept }, tt);
    },
    tt,
  );
  one_record = λ i j d lt le. absurd (omega (arith, lt, le));
  once = stored_once;
  detached = keeps_detached;
}

by_guid : (same : Bool) → 0 + (0 + (if same then 1 else 0)) ≤ option_map_or (λ (row : MapRecord). row.count) (if same then Some instance_record else None) 0
by_guid true = lit≤ tt
by_guid false = lit≤ tt

count_one : (guid : List ℕ) → refs_of instance_lists guid ≤ count_of instance_meaning guid
unfolding instance_meaning
count_one guid = by_guid (bytes_eq example_guid guid)

-- The files are safe for the lists.
pub instance_safe : Safe instance_image instance_lists
unfolding instance_meaning instance_image
instance_safe = record {
  store = example_store;
  entries = instance_map;
  by = record {
    stands = stands;
    has_all = record {
      counts = count_one;
      regions = All-cons (LiesInFile instance_image) instance_record [] (record { octets = stored_instance_file; there = refl; inside = lit≤ tt }) (All-nil (LiesInFile instance_image));
      instances = All-cons (IsThereWhole instance_image) instance_row [] (record { octets = instance_octets; there = instance_there; size = refl }) (All-nil (IsThereWhole instance_image));
    };
  };
}
