-- Files with the same storage files and instances list the same messages.
use Rattle.std.specs.Prelude.{◌≡◌, ◌==◌, ℕ, List, [], ◌∷◌, find, refl}
use Rattle.std.proofs.Common.{◌∙◌, ap}
use Rattle.disk_model.specs.Disk.{Files}
use Rattle.disk_model.specs.declared.name.FileName.TheVariants as file
use Rattle.model_lists.specs.Lists.{ListedMessage, Lists}
use Rattle.model_meaning.specs.BoxMeaning.{LogRow}
use Rattle.model_meaning.specs.MapMeaning.{MapRecord, MapBox, MapMeaning}
use Rattle.model_store.specs.Stands.{IsListed, AreListed, AreMailboxes}
use Rattle.model_appends.proofs.AppendBoxLemmas.{box_log_as}
use Rattle.model_appends.proofs.AppendFileLemmas.{SameStored, count_itself, kept_as}

listed_as : (a b : Files) (m n : MapMeaning) (row : LogRow) (x : ListedMessage) → SameStored a b → n.records ≡ m.records → IsListed a m row x → IsListed b n row x
listed_as a b m n row x s records h = record {
  uid = h.uid;
  flags = h.flags;
  time = h.time;
  guid = h.guid;
  size = h.size;
  entry = h.entry;
  found = ap (find (λ (r : MapRecord). r.uid == row.map_uid)) records ∙ h.found;
  same = h.same;
  octets = kept_as a b h.entry h.entry x.octets s (count_itself h.entry) h.octets;
  words = h.words;
}

pub all_listed_as : (a b : Files) (m n : MapMeaning) (rows : List LogRow) (xs : List ListedMessage) → SameStored a b → n.records ≡ m.records → AreListed a m rows xs → AreListed b n rows xs
all_listed_as a b m n [] [] s records h = tt
all_listed_as a b m n [] (x ∷ xs) s records h = absurd h
all_listed_as a b m n (row ∷ rows) [] s records h = absurd h
all_listed_as a b m n (row ∷ rows) (x ∷ xs) s records h = (listed_as a b m n row x s records h.0, all_listed_as a b m n rows xs s records h.1)

-- where the logs of mailboxes are the same too
pub mailboxes_as : (a b : Files) (m : MapMeaning) (boxes : List MapBox) (xs : Lists) → SameStored a b → ((number generation : ℕ) → b (file.Box number generation) ≡ a (file.Box number generation)) → AreMailboxes a m boxes xs → AreMailboxes b m boxes xs
mailboxes_as a b m [] [] s same h = tt
mailboxes_as a b m [] (x ∷ xs) s same h = absurd h
mailboxes_as a b m (box ∷ boxes) [] s same h = absurd h
mailboxes_as a b m (box ∷ boxes) (x ∷ xs) s same h = (
  record {
    entries = h.0.entries;
    log = box_log_as a b m.store box h.0.entries (same box.number box.generation) h.0.log;
    number = h.0.number;
    name = h.0.name;
    next = h.0.next;
    messages = all_listed_as a b m m _ x.messages s refl h.0.messages;
  },
  mailboxes_as a b m boxes xs s same h.1,
)
