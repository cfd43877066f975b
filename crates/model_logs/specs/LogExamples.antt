-- Logs, octet for octet.
use Rattle.std.specs.Prelude.{◌<◌, ℕ, List, [], ◌∷◌, ◌++◌, refl, codes}
use Rattle.std.proofs.Common.{inl, inr, lit≤, lit<}
use Rattle.std.proofs.lemmas.List.Elements.{All-nil, All-cons, All-from_recursion}
use Rattle.mdbox_base.specs.Words.{IsOctets}
use Rattle.model_logs.specs.declared.log_head.LogHead.{LogHead}
use Rattle.model_logs.specs.declared.log_head.LogKind.TheVariants.{Root, Map, Box}
use Rattle.model_logs.specs.LogFile.{EntryFits, head_octets, IsLog}

abbrev pub example_store : List ℕ
example_store = 0x00 ∷ 0x11 ∷ 0x22 ∷ 0x33 ∷ 0x44 ∷ 0x55 ∷ 0x66 ∷ 0x77 ∷ []

are_octets : IsOctets example_store
are_octets = All-from_recursion (λ o. o < 256) example_store (lit< tt, (lit< tt, (lit< tt, (lit< tt, (lit< tt, (lit< tt, (lit< tt, (lit< tt, tt))))))))

-- The log of a store's root with one entry, which names map log 1: 36 octets, the record at 26, the last gate at 35.
abbrev pub example_root_head : LogHead
example_root_head = record { version = 1; store = record { 0 = example_store }; kind = Root; number = 0; generation = 0 }

abbrev pub root_entry : List ℕ
root_entry = 0x4d ∷ 0 ∷ 0 ∷ 0 ∷ 1 ∷ []

abbrev pub root_log : List ℕ
root_log = codes "MDBXLOG1" ++ example_store ++ (0x52 ∷ 0 ∷ 0 ∷ 0 ∷ 0 ∷ 0 ∷ 0 ∷ 0 ∷ 0 ∷ 1 ∷ 0 ∷ 0 ∷ 0 ∷ 5 ∷ []) ++ root_entry ++ 0 ∷ []

pub root_is_log : IsLog root_log example_root_head (root_entry ∷ [])
unfolding head_octets
root_is_log = record {
  head_fits = record { version = refl; store = refl; octets = are_octets; number = lit< tt; generation = lit< tt };
  entries_fit = All-cons EntryFits root_entry [] (record { some = lit≤ tt; short = lit< tt }) (All-nil EntryFits);
  gate = 0;
  behind = [];
  spelled = refl;
  ends = inr refl;
}

-- The log of a mailbox with one entry of 39 octets, which ends with no keywords: the record at 26, the last gate at 69.
abbrev pub example_box_head : LogHead
example_box_head = record { version = 2; store = record { 0 = example_store }; kind = Box; number = 1; generation = 1 }

abbrev pub box_entry : List ℕ
box_entry = 0x41 ∷ 0 ∷ 0 ∷ 0 ∷ 1 ∷ 0 ∷ 0 ∷ 0 ∷ 0 ∷ 0 ∷ 0x65 ∷ 0 ∷ 0 ∷ 0 ∷ 0 ∷ 0 ∷ 0 ∷ 0 ∷ 0 ∷ 0 ∷ 0 ∷ 1
    ∷ 0x00 ∷ 0x11 ∷ 0x22 ∷ 0x33 ∷ 0x44 ∷ 0x55 ∷ 0x66 ∷ 0x77 ∷ 0 ∷ 0 ∷ 0 ∷ 1 ∷ 0 ∷ 0 ∷ 0 ∷ 0x10 ∷ 0 ∷ []

abbrev pub box_log : List ℕ
box_log = codes "MDBXLOG2" ++ example_store ++ (0x42 ∷ 0 ∷ 0 ∷ 0 ∷ 1 ∷ 0 ∷ 0 ∷ 0 ∷ 1 ∷ 1 ∷ 0 ∷ 0 ∷ 0 ∷ 39 ∷ []) ++ box_entry ++ 0 ∷ []

pub box_is_log : IsLog box_log example_box_head (box_entry ∷ [])
unfolding head_octets
box_is_log = record {
  head_fits = record { version = inr refl; store = refl; octets = are_octets; number = lit< tt; generation = lit< tt };
  entries_fit = All-cons EntryFits box_entry [] (record { some = lit≤ tt; short = lit< tt }) (All-nil EntryFits);
  gate = 0;
  behind = [];
  spelled = refl;
  ends = inr refl;
}

-- The same log in version 1, whose entry has 38 octets: the last gate stands at 68.
abbrev pub example_old_head : LogHead
example_old_head = record { version = 1; store = record { 0 = example_store }; kind = Box; number = 1; generation = 1 }

abbrev pub old_entry : List ℕ
old_entry = 0x41 ∷ 0 ∷ 0 ∷ 0 ∷ 1 ∷ 0 ∷ 0 ∷ 0 ∷ 0 ∷ 0 ∷ 0x65 ∷ 0 ∷ 0 ∷ 0 ∷ 0 ∷ 0 ∷ 0 ∷ 0 ∷ 0 ∷ 0 ∷ 0 ∷ 1
    ∷ 0x00 ∷ 0x11 ∷ 0x22 ∷ 0x33 ∷ 0x44 ∷ 0x55 ∷ 0x66 ∷ 0x77 ∷ 0 ∷ 0 ∷ 0 ∷ 1 ∷ 0 ∷ 0 ∷ 0 ∷ 0x10 ∷ []

abbrev pub old_log : List ℕ
old_log = codes "MDBXLOG1" ++ example_store ++ (0x42 ∷ 0 ∷ 0 ∷ 0 ∷ 1 ∷ 0 ∷ 0 ∷ 0 ∷ 1 ∷ 1 ∷ 0 ∷ 0 ∷ 0 ∷ 38 ∷ []) ++ old_entry ++ 0 ∷ []

pub old_is_log : IsLog old_log example_old_head (old_entry ∷ [])
unfolding head_octets
old_is_log = record {
  head_fits = record { version = inl refl; store = refl; octets = are_octets; number = lit< tt; generation = lit< tt };
  entries_fit = All-cons EntryFits old_entry [] (record { some = lit≤ tt; short = lit< tt }) (All-nil EntryFits);
  gate = 0;
  behind = [];
  spelled = refl;
  ends = inr refl;
}

-- The log of a map with two entries, of 15 and of 38 octets: records at 26 and 46, the last gate at 88.
abbrev pub example_map_head : LogHead
example_map_head = record { version = 1; store = record { 0 = example_store }; kind = Map; number = 0; generation = 1 }

abbrev pub map_made : List ℕ
map_made = 0x42 ∷ 0 ∷ 0 ∷ 0 ∷ 1 ∷ 0 ∷ 0 ∷ 0 ∷ 1 ∷ 5 ∷ codes "INBOX"

abbrev pub map_stored : List ℕ
map_stored = 0x53 ∷ 0 ∷ 0 ∷ 1 ∷ 0 ∷ 0 ∷ 0 ∷ 1 ∷ 0 ∷ 0 ∷ 0 ∷ 1 ∷ 0 ∷ 0 ∷ 0 ∷ 0x10 ∷ 0 ∷ 0 ∷ 0 ∷ 0x59
    ∷ 0x00 ∷ 0x11 ∷ 0x22 ∷ 0x33 ∷ 0x44 ∷ 0x55 ∷ 0x66 ∷ 0x77 ∷ 0 ∷ 0 ∷ 0 ∷ 1 ∷ 0 ∷ 0 ∷ 0 ∷ 0x10 ∷ 0 ∷ 0 ∷ []

abbrev pub map_log : List ℕ
map_log = codes "MDBXLOG1" ++ example_store ++ (0x4d ∷ 0 ∷ 0 ∷ 0 ∷ 0 ∷ 0 ∷ 0 ∷ 0 ∷ 1 ∷ 1 ∷ 0 ∷ 0 ∷ 0 ∷ 15 ∷ []) ++ map_made ++ (1 ∷ 0 ∷ 0 ∷ 0 ∷ 38 ∷ []) ++ map_stored ++ 0 ∷ []

pub map_is_log : IsLog map_log example_map_head (map_made ∷ map_stored ∷ [])
unfolding head_octets
map_is_log = record {
  head_fits = record { version = refl; store = refl; octets = are_octets; number = lit< tt; generation = lit< tt };
  entries_fit = All-cons EntryFits map_made (map_stored ∷ []) (record { some = lit≤ tt; short = lit< tt }) (All-cons EntryFits map_stored [] (record { some = lit≤ tt; short = lit< tt }) (All-nil EntryFits));
  gate = 0;
  behind = [];
  spelled = refl;
  ends = inr refl;
}
