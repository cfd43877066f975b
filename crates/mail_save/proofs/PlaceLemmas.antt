-- Where messages are placed: the GUID of a place, and the files that are known then.
use Rattle.mail_save.proofs.Common.{◌≡◌, ◌<◌, ◌+◌, ◌^◌, ℕ, true, List, [], ◌++◌, Option, Some, All, refl, sym, ◌∙◌, ap, subst, append_assoc, append-nil, arith, take, drop, length, w32, to_be_bytes, bytes_eq, length-append, bytes_eq-Decides, drop-append_seam, History, Lists, IsFree, IsSettledFor}
use Rattle.mail_save.proofs.Common.{Leaves, leaves_none, MapMeaning, is_own, number_at, end_in, is_taken_in, place_begun_in, StoreValue, indexes_of, HoldsFile, HoldsRegion, IsLeftAlone, SavedAt}
use Rattle.std.specs.Prelude.{◌≢◌}
use Rattle.std.specs.Int.{from_be_bytes}
use Rattle.std.proofs.lemmas.Nat.{from_be_bytes-to_be_bytes_4}
use Rattle.std.proofs.Math.Seq.{take-append_seam}
use Rattle.saved_message.specs.Region.{guid_of_place}
use Rattle.store_core.specs.Files.{IsNewPlace}

seam_take : (a b : List ℕ) (n : ℕ) → length a ≡ n → take n (a ++ b) ≡ a
seam_take a b n long = subst (λ (k : ℕ). take k (a ++ b) ≡ a) long (take-append_seam a b)

seam_drop : (a b : List ℕ) (n : ℕ) → length a ≡ n → drop n (a ++ b) ≡ b
seam_drop a b n long = subst (λ (k : ℕ). drop k (a ++ b) ≡ b) long (drop-append_seam a b)

four_long : (n : ℕ) → length (to_be_bytes w32 n) ≡ 4
four_long n = refl

bytes_same : (a : List ℕ) → bytes_eq a a ≡ true
bytes_same a = (bytes_eq-Decides a a).1 refl

pub own_place : (store : List ℕ) (file offset : ℕ) → length store ≡ 8 → is_own store (guid_of_place store file offset) ≡ true
own_place store file offset long = ap (λ (x : List ℕ). bytes_eq x store) (seam_take store (to_be_bytes w32 file ++ to_be_bytes w32 offset) 8 long) ∙ bytes_same store

pub file_of_place : (store : List ℕ) (file offset : ℕ) → length store ≡ 8 → file < 2 ^ 32 → number_at 8 (guid_of_place store file offset) ≡ file
file_of_place store file offset long small =
    ap (λ (x : List ℕ). from_be_bytes w32 (take 4 x)) (seam_drop store (to_be_bytes w32 file ++ to_be_bytes w32 offset) 8 long)
    ∙ (ap (from_be_bytes w32) (seam_take (to_be_bytes w32 file) (to_be_bytes w32 offset) 4 (four_long file)) ∙ from_be_bytes-to_be_bytes_4 file small)

pub offset_of_place : (store : List ℕ) (file offset : ℕ) → length store ≡ 8 → offset < 2 ^ 32 → number_at 12 (guid_of_place store file offset) ≡ offset
offset_of_place store file offset long small =
    let f : List ℕ = to_be_bytes w32 file in
    let o : List ℕ = to_be_bytes w32 offset in
    let twelve : length (store ++ f) ≡ 12 = length-append store f ∙ ap (λ (n : ℕ). n + 4) long in
    let whole : drop 12 (store ++ (f ++ o)) ≡ o = ap (drop 12) (sym (append_assoc store f o)) ∙ seam_drop (store ++ f) o 12 twelve in
    ap (λ (x : List ℕ). from_be_bytes w32 (take 4 x)) (whole ∙ sym (append-nil o)) ∙ (ap (from_be_bytes w32) (seam_take o [] 4 (four_long offset)) ∙ from_be_bytes-to_be_bytes_4 offset small)

-- a GUID that names a new place is new
pub guid_is_new : (m : MapMeaning) (file offset : ℕ) → length m.store ≡ 8 → file < 2 ^ 32 → offset < 2 ^ 32 → IsNewPlace m file offset → All (λ row. row.guid ≢ guid_of_place m.store file offset) m.records
guid_is_new m file offset long f o new = λ k d lt e.
    new k d lt (ap (is_own m.store) e ∙ own_place m.store file offset long) (ap (number_at 8) e ∙ file_of_place m.store file offset long f) (ap (number_at 12) e ∙ offset_of_place m.store file offset long o)

-- a change of the disk failed
pub left_fallen : {D : Type 0} → (old new : StoreValue D) → new ≡ record old { disk = new.disk; stopped = true } → IsLeftAlone old new
left_fallen old new fell = record {
  indexes = ap (λ v. indexes_of v.boxes) fell;
  room = (let log = ap (λ v. v.map_log.room) fell in omega (arith, log));
  end = λ runs. let log = ap (λ v. v.map_log.end) fell in omega (arith, log);
  same = subst (λ (v : StoreValue _). v ≡ record old { disk = v.disk; map_log = v.map_log; boxes = v.boxes; stopped = v.stopped }) (sym fell) refl;
}

-- ---- a region that was placed

some_end : (a b : ℕ) → Some a ≡ Some b → a ≡ b
some_end a b e = cc e

pub region_placed : {D : Type 0} (old new : StoreValue D) (at : SavedAt) (size : ℕ) → new.map ≡ old.map → length old.map.store ≡ 8 → at.file.0 < 2 ^ 32 → HoldsFile at.file.0 size old → at.size ≡ size
    → is_taken_in at.file.0 new.files.files ≡ is_taken_in at.file.0 old.files.files → place_begun_in at.file.0 new.files.files ≡ place_begun_in at.file.0 old.files.files → end_in at.file.0 old.files.files ≡ Some at.offset → end_in at.file.0 new.files.files ≡ Some (at.offset + at.size)
    → IsFree old.map at.file.0 at.offset at.size → IsNewPlace old.map at.file.0 at.offset → at.guid.0 ≡ guid_of_place old.map.store at.file.0 at.offset → HoldsRegion at new
region_placed old new at size map_is long file_small held same_size taken begun began ends free new_place guid =
    let offset_is : held.end ≡ at.offset = some_end held.end at.offset (sym held.ends ∙ began) in
    let fits = held.fits in
    record {
      some = held.some;
      taken = taken ∙ held.taken;
      unbegun = begun ∙ held.unbegun;
      end = at.offset + at.size;
      ends = ends;
      inside = omega arith;
      small = omega (arith, offset_is, fits, same_size);
      free = subst (λ (m : MapMeaning). IsFree m at.file.0 at.offset at.size) (sym map_is) free;
      guid_file = ap (number_at 8) guid ∙ file_of_place old.map.store at.file.0 at.offset long file_small;
      guid_offset = ap (number_at 12) guid ∙ offset_of_place old.map.store at.file.0 at.offset long (omega (arith, offset_is, fits));
      guid_new = subst (λ (m : MapMeaning). All (λ row. row.guid ≢ at.guid.0) m.records) (sym map_is)
          (subst (λ (g : List ℕ). All (λ row. row.guid ≢ g) old.map.records) (sym guid) (guid_is_new old.map at.file.0 at.offset long file_small (omega (arith, offset_is, fits)) new_place));
    }

-- the GUID that was made of the end that was read
pub place_named : (store id : List ℕ) (file end offset : ℕ) {read : Option ℕ} → id ≡ store → read ≡ Some end → read ≡ Some offset → guid_of_place id file end ≡ guid_of_place store file offset
place_named store id file end offset {read} same there began =
    ap (λ (s : List ℕ). guid_of_place s file end) same ∙ ap (guid_of_place store file) (some_end end offset (sym there ∙ began))

-- ---- a disk that was not changed

pub unchanged_leaves : {D : Type 0} (history : D → Option History) (old new : D) → new ≡ old → (lists later : Lists) → IsSettledFor lists (history old) → Leaves lists later (history old) (history new)
unchanged_leaves {D = D} history old new same lists later s = subst (λ (d : D). Leaves lists later (history old) (history d)) (sym same) (leaves_none (history old) lists later s)

pub unchanged_settled : {D : Type 0} (history : D → Option History) (old new : D) → new ≡ old → (lists : Lists) → IsSettledFor lists (history old) → IsSettledFor lists (history new)
unchanged_settled {D = D} history old new same lists s = subst (λ (d : D). IsSettledFor lists (history d)) (sym same) s
