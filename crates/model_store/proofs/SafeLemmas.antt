-- Laws of safe images.
use Rattle.std.specs.Prelude.{◌≡◌, ◌≤◌, ℕ, List}
use Rattle.std.proofs.Common.{subst}
use Rattle.disk_model.specs.Disk.{Files}
use Rattle.mdbox_base.specs.declared.entries.MapEntry.{MapEntry}
use Rattle.model_lists.specs.Lists.{Lists, refs_of}
use Rattle.model_meaning.specs.MapMeaning.{MapMeaning, map_meaning, count_of}
use Rattle.model_store.specs.Stands.{HasMap, Stands}
use Rattle.model_store.proofs.StandsLemmas.{map_same}
use Rattle.model_store.specs.Safe.{HasAll, Safe}

meaning_same : (s t : List ℕ) (es fs : List MapEntry) → s ≡ t → es ≡ fs → map_meaning s es ≡ map_meaning t fs
meaning_same s t es fs p q = cc (p, q)

-- a safe image stands for its lists
pub safe_stands : (image : Files) (lists : Lists) → Safe image lists → Stands image lists
safe_stands image lists s = record { store = s.store; entries = s.entries; by = s.by.stands }

-- a safe image has all that its lists need, whatever entries its map log is read as
pub safe_has_all : (image : Files) (lists : Lists) (store : List ℕ) (entries : List MapEntry) → Safe image lists → HasMap image store entries → HasAll image (map_meaning store entries) lists
safe_has_all image lists store entries s h =
    let r = map_same image s.store store s.entries entries s.by.stands.map_log h in
    subst (λ (m : MapMeaning). HasAll image m lists) (meaning_same _ _ _ _ r.0 r.1) s.by.has_all

-- a safe image's counts are at least its references
pub safe_counts : (image : Files) (lists : Lists) (store : List ℕ) (entries : List MapEntry) (guid : List ℕ) → Safe image lists → HasMap image store entries → refs_of lists guid ≤ count_of (map_meaning store entries) guid
safe_counts image lists store entries guid s h = (safe_has_all image lists store entries s h).counts guid
