-- What taking a storage file makes of a store, and giving it back.
use Rattle.mail_save.proofs.Common.{◌≡◌, ◌≢◌, ◌≤◌, ◌+◌, ℕ, Bool, true, false, List, [], ◌∷◌, ◌++◌, length, Option, Some, None, refl, sym, ◌∙◌, ap, subst, arith, inl, inr, Contains, slice_get, is_some, if◌then◌else◌, option_map_or, option_and_then, History, FileNo, Refusal, MailFile, Take, Known}
use Rattle.mail_save.proofs.Common.{New, Full, AreFilesInOrder, IsTakeFor, MayBeTakenFor, changed_in, end_in, ending_at, file_begun, file_in, given_back, is_taken_in, place_begun_in, released_in, with_taken, without_file, file-other, file-begun, file-before_begun, taken-there, none_begun, IsStore}
use Rattle.mail_save.proofs.Common.{StoreValue, HoldsFile, TakesFileFor, TakesNone, roomy_files}
use Rattle.std.specs.Prelude.{◌⊎◌}
use Rattle.std.proofs.lemmas.Option.{slice_get-get_or}
use Rattle.mdbox_base.specs.declared.replies.Refusal.TheVariants as refusal
use Rattle.storage_files.specs.Files.{IsGiven, after_take}
use Rattle.storage_files.proofs.FileListLemmas.{file-found, file-without, ends-kept, ends-other, ends-here, ends-begun}
use Rattle.mail_save.proofs.SaveFileLemmas.{known_unbegun, new_unbegun}
use Rattle.mail_save.specs.SaveEffects.{FailsToMake, FindsNoNumber}

-- the store with room for taking a file, behind a file that was taken, and behind one that was made
abbrev pub roomier_store : {D : Type 0} → StoreValue D → StoreValue D
roomier_store store = record store { files = roomy_files store.files }

abbrev pub taker_store : {D : Type 0} → Take → StoreValue D → StoreValue D
taker_store take store = record store { files = after_take take store.files; drawn = record store.drawn { file = (after_take take store.files).highest } }

abbrev pub maker_store : {D : Type 0} → ℕ → ℕ → D → StoreValue D → StoreValue D
maker_store file end disk store = record store { disk = disk; files = record store.files { files = changed_in file (ending_at end) store.files.files } }

abbrev pub faller_store : {D : Type 0} → D → StoreValue D → StoreValue D
faller_store disk store = record store { disk = disk; stopped = true }

taken_at : (n : ℕ) (a b : List MailFile) → file_in n a ≡ file_in n b → is_taken_in n a ≡ is_taken_in n b
taken_at n a b same = ap (λ (o : Option MailFile). option_map_or (λ f. f.taken) o false) same

drawn_still : {D : Type 0} → (store : StoreValue D) → store.files.highest ≡ store.drawn.file → record store.drawn { file = store.files.highest } ≡ store.drawn
drawn_still store high = ap (λ (n : ℕ). record store.drawn { file = n }) high

-- ---- one that is there

free_before : (size : ℕ) (file : FileNo) (files : List MailFile) (f : MailFile) → Contains files f → f.file ≡ file → MayBeTakenFor size f → ((at : ℕ) → slice_get files at ≡ Some f → file_in file.0 files ≡ Some f) → is_taken_in file.0 files ≡ false
free_before size file files f at same room found = ap (λ (o : Option MailFile). option_map_or (λ g. g.taken) o false) (found at.0 (slice_get-get_or files at.0 f at.1 ∙ ap Some at.2)) ∙ room.free.free.untaken

known_takes : {D : Type 0} → (header size : ℕ) (file : FileNo) (old : StoreValue D) → AreFilesInOrder old.files → old.files.highest ≡ old.drawn.file → IsTakeFor size (roomier_store old).files (Known file) → TakesFileFor header size file old (taker_store (Known file) (roomier_store old))
known_takes header size file old order high is = record {
  take = Known file;
  is = is;
  took = (refl, drawn_still old high, λ number. ends-kept file.0 number (with_taken true) old.files.files (λ f. refl) (λ f. refl));
  free = free_before size file old.files.files is.0 is.1 is.2 is.3 (λ at get. file-found old.files.files file.0 at is.0 order.rising get (ap (λ (n : FileNo). n.0) is.2));
  files = refl;
  others = λ number apart. taken_at number (changed_in file.0 (with_taken true) old.files.files) old.files.files (file-other file.0 number (with_taken true) old.files.files (λ f. refl) apart);
  same = refl;
}

pub takes_known : {D : Type 0} → (header size : ℕ) (file : FileNo) (old reserved new : StoreValue D) → AreFilesInOrder old.files → old.files.highest ≡ old.drawn.file → reserved ≡ roomier_store old → new ≡ taker_store (Known file) reserved
    → IsTakeFor size reserved.files (Known file) → TakesFileFor header size file old new
takes_known header size file old reserved new order high r t is =
    subst (TakesFileFor header size file old) (sym (t ∙ ap (taker_store (Known file)) r)) (known_takes header size file old order high (subst (λ (v : StoreValue _). IsTakeFor size v.files (Known file)) r is))

-- ---- a new one

begun_files : FileNo → List MailFile → List MailFile
begun_files file files = files ++ file_begun file ∷ []

new_takes : {D : Type 0} → (size end : ℕ) (file : FileNo) (disk : D) (old : StoreValue D) → AreFilesInOrder old.files → IsTakeFor size (roomier_store old).files (New file) → TakesFileFor end size file old (maker_store file.0 end disk (taker_store (New file) (roomier_store old)))
new_takes size end file disk old order is =
    let none : file_in file.0 old.files.files ≡ None = none_begun file old.files order is.1 in
    let files : List MailFile = old.files.files ++ file_begun file ∷ [] in
    record {
      take = New file;
      is = is;
      took = (
        refl,
        refl,
        ap (option_and_then (λ g. g.end)) none,
        ends-here file.0 end files (file_begun file) (file-begun file old.files.files none),
        λ number apart. ends-other file.0 number (ending_at end) files (λ f. refl) apart ∙ ends-begun number file old.files.files,
      );
      files = refl;
      free = ap (λ (o : Option MailFile). option_map_or (λ g. g.taken) o false) none;
      others = λ number apart. taken_at number (changed_in file.0 (ending_at end) files) old.files.files (file-other file.0 number (ending_at end) files (λ f. refl) apart ∙ file-before_begun file number old.files.files apart);
      same = refl;
    }

pub takes_new : {D : Type 0} → (size end : ℕ) (file : FileNo) (old reserved taken new : StoreValue D) → AreFilesInOrder old.files → reserved ≡ roomier_store old → taken ≡ taker_store (New file) reserved → new ≡ maker_store file.0 end new.disk taken
    → IsTakeFor size reserved.files (New file) → TakesFileFor end size file old new
takes_new size end file old reserved taken new order r t m is =
    subst (TakesFileFor end size file old) (sym (m ∙ ap (maker_store file.0 end new.disk) (t ∙ ap (taker_store (New file)) r))) (new_takes size end file new.disk old order (subst (λ (v : StoreValue _). IsTakeFor size v.files (New file)) r is))

-- of as many octets
pub takes_as : {D : Type 0} → (header other : List ℕ) (size many : ℕ) (file : FileNo) (old new : StoreValue D) → header ≡ other → size ≡ many → TakesFileFor (length header) size file old new → TakesFileFor (length other) many file old new
takes_as header other size many file old new e f t = subst (λ (h : List ℕ). TakesFileFor (length h) many file old new) e (subst (λ (n : ℕ). TakesFileFor (length header) n file old new) f t)

-- ---- none

new_fails : {D : Type 0} → (size : ℕ) (file : FileNo) (disk : D) (old : StoreValue D) → AreFilesInOrder old.files → IsTakeFor size (roomier_store old).files (New file) → FailsToMake size old (faller_store disk (taker_store (New file) (roomier_store old)))
new_fails size file disk old order is = record {
  file = file;
  is = is;
  free = ap (λ (o : Option MailFile). option_map_or (λ g. g.taken) o false) (none_begun file old.files order is.1);
  ends = λ number. ends-begun number file old.files.files;
  others = λ number apart. taken_at number (old.files.files ++ file_begun file ∷ []) old.files.files (file-before_begun file number old.files.files apart);
  same = refl;
}

pub takes_failing : {D : Type 0} → (size : ℕ) (file : FileNo) (old reserved taken new : StoreValue D) → AreFilesInOrder old.files → reserved ≡ roomier_store old → taken ≡ taker_store (New file) reserved → new ≡ faller_store new.disk taken → IsTakeFor size reserved.files (New file)
    → TakesNone size refusal.Stopped old new
takes_failing size file old reserved taken new order r t m is =
    inr (inr (refl, subst (FailsToMake size old) (sym (m ∙ ap (faller_store new.disk) (t ∙ ap (taker_store (New file)) r))) (new_fails size file new.disk old order (subst (λ (v : StoreValue _). IsTakeFor size v.files (New file)) r is))))

full_finds : {D : Type 0} → (size : ℕ) (old : StoreValue D) → old.files.highest ≡ old.drawn.file → IsTakeFor size (roomier_store old).files Full → FindsNoNumber size old (taker_store Full (roomier_store old))
full_finds size old high is = record {
  full = is;
  same = ap (λ (n : ℕ). record old { files = roomy_files old.files; drawn = record old.drawn { file = n } }) high;
}

pub takes_full : {D : Type 0} → (size : ℕ) (old reserved new : StoreValue D) → old.files.highest ≡ old.drawn.file → reserved ≡ roomier_store old → new ≡ taker_store Full reserved → IsTakeFor size reserved.files Full
    → TakesNone size (refusal.StoreFull 4294967294) old new
takes_full size old reserved new high r t is =
    inr (inl (refl, subst (FindsNoNumber size old) (sym (t ∙ ap (taker_store Full) r)) (full_finds size old high (subst (λ (v : StoreValue _). IsTakeFor size v.files Full) r is))))

pub untaken_why : {D : Type 0} → (size : ℕ) (why : Refusal) (old new : StoreValue D) → TakesNone size why old new → (why ≡ refusal.Stopped) ⊎ ((why ≡ refusal.NoMemory) ⊎ (why ≡ refusal.StoreFull 4294967294))
untaken_why size why old new (inl k) = inr (inl k.0)
untaken_why size why old new (inr (inl k)) = inr (inr k.0)
untaken_why size why old new (inr (inr k)) = inl k.0

-- no read failed, and the instances are as they were
pub untaken_unread : {D : Type 0} → (size : ℕ) (why : Refusal) (old new : StoreValue D) → TakesNone size why old new → why ≡ refusal.ReadFault → ⊥
untaken_unread size why old new (inl k) e = let w : refusal.NoMemory ≡ refusal.ReadFault = sym k.0 ∙ e in cc w
untaken_unread size why old new (inr (inl k)) e = let w : refusal.StoreFull 4294967294 ≡ refusal.ReadFault = sym k.0 ∙ e in cc w
untaken_unread size why old new (inr (inr k)) e = let w : refusal.Stopped ≡ refusal.ReadFault = sym k.0 ∙ e in cc w

pub untaken_instances : {D : Type 0} → (size : ℕ) (why : Refusal) (old new : StoreValue D) → TakesNone size why old new → new.instances ≡ old.instances
untaken_instances size why old new (inl k) = ap (λ v. v.instances) k.1
untaken_instances size why old new (inr (inl k)) = ap (λ v. v.instances) k.1.same
untaken_instances size why old new (inr (inr k)) = ap (λ v. v.instances) k.1.same

-- ---- what is held then

pub file_some : {D : Type 0} → (file : ℕ) (store : StoreValue D) (history : Option History) → IsStore history store → is_taken_in file store.files.files ≡ true → 1 ≤ file
file_some file store history is taken = let there = taken-there store.files.files file taken in is.files.numbered file there.0 there.1

pub holds_known : {D : Type 0} → (size : ℕ) (file : FileNo) (store : StoreValue D) (history : Option History) → IsStore history store → IsGiven size store.files.files (Known file) → place_begun_in file.0 store.files.files ≡ None → HoldsFile file.0 size store
holds_known size file store history is given unbegun = let fits = given.1.2 in record { some = file_some file.0 store history is given.0; taken = given.0; unbegun = unbegun; end = given.1.0; ends = given.1.1; fits = omega (arith, fits) }

pub holds_new : {D : Type 0} → (size end : ℕ) (file : FileNo) (store : StoreValue D) (history : Option History) → IsStore history store → is_taken_in file.0 store.files.files ≡ true → place_begun_in file.0 store.files.files ≡ None → end_in file.0 store.files.files ≡ Some end → end + size ≤ 4294967295
    → HoldsFile file.0 size store
holds_new size end file store history is taken unbegun ends fits = record { some = file_some file.0 store history is taken; taken = taken; unbegun = unbegun; end = end; ends = ends; fits = fits }

-- behind the store that took it, nothing is being placed in the file
unbegun_as : {D : Type 0} → (n : ℕ) (a b : StoreValue D) → a ≡ b → place_begun_in n b.files.files ≡ None → place_begun_in n a.files.files ≡ None
unbegun_as n a b same none = ap (λ (v : StoreValue _). place_begun_in n v.files.files) same ∙ none

pub took_known_unbegun : {D : Type 0} → (size : ℕ) (file : FileNo) (old reserved taken : StoreValue D) → AreFilesInOrder old.files → reserved ≡ roomier_store old → taken ≡ taker_store (Known file) reserved → IsTakeFor size reserved.files (Known file) → place_begun_in file.0 taken.files.files ≡ None
took_known_unbegun size file old reserved taken order r t is =
    unbegun_as file.0 taken (taker_store (Known file) (roomier_store old)) (t ∙ ap (taker_store (Known file)) r) (known_unbegun size file old order (subst (λ (v : StoreValue _). IsTakeFor size v.files (Known file)) r is))

pub took_new_unbegun : {D : Type 0} → (size end : ℕ) (file : FileNo) (old reserved taken new : StoreValue D) → AreFilesInOrder old.files → reserved ≡ roomier_store old → taken ≡ taker_store (New file) reserved → new ≡ maker_store file.0 end new.disk taken
    → IsTakeFor size reserved.files (New file) → place_begun_in file.0 new.files.files ≡ None
took_new_unbegun size end file old reserved taken new order r t m is =
    unbegun_as file.0 new (maker_store file.0 end new.disk (taker_store (New file) (roomier_store old))) (m ∙ ap (maker_store file.0 end new.disk) (t ∙ ap (taker_store (New file)) r))
    (new_unbegun end file old.files.files (none_begun file old.files order (subst (λ (v : StoreValue _). IsTakeFor size v.files (New file)) r is).1))

-- ---- given back

pub released_others : (n m : ℕ) (files : List MailFile) → m ≢ n → is_taken_in m (released_in n files) ≡ is_taken_in m files
released_others n m files apart = by_test (is_some (end_in n files))
  where
    by_test : (t : Bool) → is_taken_in m (if t then changed_in n given_back files else without_file n files) ≡ is_taken_in m files
    by_test true = taken_at m (changed_in n given_back files) files (file-other n m given_back files (λ f. refl) apart)
    by_test false = taken_at m (without_file n files) files (file-without n m files apart)
