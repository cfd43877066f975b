-- A new store is safe for the lists with an empty INBOX.
use Rattle.std.specs.Prelude.{ℕ, List, [], ◌∷◌, Contains, refl}
use Rattle.std.proofs.Common.{arith, lit≤, lit<}
use Rattle.std.proofs.lemmas.List.Elements.{All-nil}
use Rattle.disk_model.specs.Disk.{Files}
use Rattle.model_meaning.specs.MapMeaning.{map_meaning}
use Rattle.model_meaning.specs.MapFits.{AllMapFit}
use Rattle.model_store.specs.Stands.{HasMap, StoredOnce, StandsBy}
use Rattle.model_store.specs.Safe.{LiesInFile, IsThereWhole, SafeBy, Safe}
use Rattle.model_store.proofs.StoreExampleLemmas.{inbox_is_name}
use Rattle.model_store.specs.Opening.{first_box, IsNewStore, empty_inbox}

first_fits : (store : List ℕ) → AllMapFit store [] (first_box ∷ [])
first_fits store = (record { box_number = record { low = lit≤ tt; high = lit≤ tt }; box_new = lit< tt; first = record { low = lit≤ tt; high = lit≤ tt }; name_new = All-nil _; room = lit< tt }, tt)

new_map : (files : Files) (store : List ℕ) → IsNewStore files store → HasMap files store (first_box ∷ [])
new_map files store n = record {
  generation = 1;
  generation_number = record { low = lit≤ tt; high = lit≤ tt };
  root = record { before = []; log = n.root_log; in_range = (lit< tt, tt) };
  log = n.map_log;
  in_range = ((lit< tt, lit< tt, inbox_is_name), tt);
  fit = first_fits store;
}

-- its map has no record
nothing_in : {X : Type 0} → (x : X) → Contains [] x → ⊥
nothing_in x c = let k = c.1 in omega (arith, k)

new_once : (files : Files) (store : List ℕ) → StoredOnce files (map_meaning store (first_box ∷ []))
new_once files store = record {
  once = λ a b octets p q. absurd (nothing_in p.row p.is_record);
  least = λ a b octets p q h l. nothing_in p.row p.is_record;
  hash = λ a octets p. absurd (nothing_in p.row p.is_record);
}

new_stands : (files : Files) (store : List ℕ) → IsNewStore files store → StandsBy files store (first_box ∷ []) empty_inbox
new_stands files store n = record {
  map_log = new_map files store n;
  mailboxes = (
    record { entries = []; log = record { log = n.inbox; in_range = tt; fit = tt }; number = refl; name = refl; next = refl; messages = tt },
    tt,
  );
  one_record = λ i j d lt le. absurd (omega (arith, le));
  once = new_once files store;
  detached = λ row octets c own kept. absurd (nothing_in row c);
}

pub new_safe_by : (files : Files) (store : List ℕ) → IsNewStore files store → SafeBy files store (first_box ∷ []) empty_inbox
new_safe_by files store n = record {
  stands = new_stands files store n;
  has_all = record { counts = λ guid. lit≤ tt; regions = All-nil (LiesInFile files); instances = All-nil (IsThereWhole files) };
}

-- The files of a new store are safe for the lists with an empty INBOX.
pub new_safe : (files : Files) (store : List ℕ) → IsNewStore files store → Safe files empty_inbox
new_safe files store n = record { store = store; entries = first_box ∷ []; by = new_safe_by files store n }
