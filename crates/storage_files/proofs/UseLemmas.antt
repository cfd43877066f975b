-- Files stay used as they may be, with what changes of one.
use Rattle.std.specs.Prelude.{◌⊎◌, IsSome, Contains}
use Rattle.std.proofs.Common.{◌≡◌, ◌≢◌, length, length-append, inl, inr, ℕ, ◌≤◌, ◌+◌, ◌==◌, true, false, List, Option, Some, None, All, refl, sym, ◌∙◌, ap, subst, arith}
use Rattle.std.specs.Option.{option_map, option_map_or, option_and_then}
use Rattle.std.proofs.lemmas.Bool.{cases_Bool, true≢false, false≢true}
use Rattle.std.proofs.lemmas.Option.{same_Some}
use Rattle.std.proofs.lemmas.List.Elements.{All-weaker}
use Rattle.mdbox_base.specs.declared.ids.FileNo.{FileNo}
use Rattle.storage_files.specs.declared.file.MailFile.{MailFile}
use Rattle.storage_files.specs.Files.{pins_in, IsUsedFile, IsUntakenFile, MayBeTakenFor, file_in, end_in, place_begun_in, is_taken_in, is_emptied_in, changed_in, ending_at, with_taken, to_empty, given_back, placing_begun, placing_ended, with_pins, made_doomed}
use Rattle.storage_files.proofs.SearchLemmas.{Rise}
use Rattle.storage_files.proofs.GivenLemmas.{contained-found}
use Rattle.storage_files.proofs.FileListLemmas.{KeepsNumber, each-found, file-here, ends-kept}
use Rattle.storage_files.specs.OnDisk.{IsAsKnown, IsPieceAdded, IsSyncedFile}
use Rattle.model_octets.proofs.PairLemmas.{found_holds}
use Rattle.disk_model.specs.Disk.{DiskState, History, IfTold, Between, SameButFor, reading}
use Rattle.disk_model.specs.Name.{same_name}
use Rattle.disk_model.specs.declared.name.FileName.{FileName}
use Rattle.disk_model.specs.declared.name.FileName.TheVariants.{Mail}
use Rattle.disk_model.proofs.BetweenLemmas.{between-on, between-both}
use Rattle.disk_model.proofs.NameLemmas.{same_name-true, same_name-apart}

no_start : (start : ℕ) → None ≡ Some start → ⊥
no_start start e = cc e

-- what the one file that is found allows, each of its number does
pub of-found : (n : ℕ) (files : List MailFile) (f : MailFile) (P : MailFile → Type 0) → Rise files → file_in n files ≡ Some f → P f → All (λ g. g.file.0 ≡ n → P g) files
of-found n files f P rise found p = All-weaker (λ g. g.file.0 ≡ n → g ≡ f) (λ g. g.file.0 ≡ n → P g) (λ g same at. subst P (sym (same at)) p) files (each-found n files f rise found)

pub use_taken : (f : MailFile) → IsUntakenFile f → IsUsedFile f → IsUsedFile (with_taken true f)
use_taken f free u = record {
  there = inr refl;
  pinned = u.pinned;
  emptied = λ e. absurd (true≢false (sym e ∙ free.unemptied));
  doomed = λ e. absurd (true≢false (sym e ∙ free.undoomed));
  sealed = u.sealed;
  placing = λ start e. (refl, (u.placing start e).1);
}

pub use_emptied : (f : MailFile) → IsUntakenFile f → f.sealed ≡ false → IsUsedFile f → IsUsedFile (to_empty f)
use_emptied f free unsealed u = record {
  there = u.there;
  pinned = u.pinned;
  emptied = λ e. (is_there u.there, free.untaken);
  doomed = λ e. absurd (true≢false (sym e ∙ free.undoomed));
  sealed = λ e. absurd (true≢false (sym e ∙ unsealed));
  placing = λ start e. absurd (true≢false (sym (u.placing start e).0 ∙ free.untaken));
}
  where
    is_there : IsSome f.end ⊎ (f.taken ≡ true) → IsSome f.end
    is_there (inl some) = some
    is_there (inr taken) = absurd (true≢false (sym taken ∙ free.untaken))

pub use_given_back : (f : MailFile) → IsSome f.end → IsUsedFile f → IsUsedFile (given_back f)
use_given_back f there u = record {
  there = inl there;
  pinned = u.pinned;
  emptied = λ e. absurd (false≢true e);
  doomed = λ e. (there, refl, refl);
  sealed = λ e. (refl, (u.sealed e).1);
  placing = λ start e. absurd (no_start start e);
}

pub use_begun : (f : MailFile) → f.taken ≡ true → IsUsedFile f → IsUsedFile (placing_begun f)
use_begun f taken u = record {
  there = u.there;
  pinned = u.pinned;
  emptied = u.emptied;
  doomed = u.doomed;
  sealed = u.sealed;
  placing = λ start e. (taken, (start, e, omega arith));
}

pub use_ended : (f : MailFile) → IsUsedFile f → IsUsedFile (placing_ended f)
use_ended f u = record {
  there = u.there;
  pinned = u.pinned;
  emptied = u.emptied;
  doomed = u.doomed;
  sealed = u.sealed;
  placing = λ start e. absurd (no_start start e);
}

pub use_pins : (f : MailFile) (pins : ℕ) → (1 ≤ pins → IsSome f.end) → IsUsedFile f → IsUsedFile (with_pins pins f)
use_pins f pins there u = record {
  there = u.there;
  pinned = there;
  emptied = u.emptied;
  doomed = u.doomed;
  sealed = u.sealed;
  placing = u.placing;
}

pub use_doomed : (f : MailFile) → f.emptied ≡ true → IsUsedFile f → IsUsedFile (made_doomed f)
use_doomed f emptied u = record {
  there = inl (u.emptied emptied).0;
  pinned = u.pinned;
  emptied = λ e. absurd (false≢true e);
  doomed = λ e. ((u.emptied emptied).0, refl, refl);
  sealed = λ e. absurd (true≢false (sym emptied ∙ (u.sealed e).0));
  placing = λ start e. absurd (no_start start e);
}

-- a file that grows
pub use_ending : (f : MailFile) (end : ℕ) → ((old : ℕ) → f.end ≡ Some old → old ≤ end) → IsUsedFile f → IsUsedFile (ending_at end f)
use_ending f end more u = record {
  there = inl refl;
  pinned = λ some. refl;
  emptied = λ e. (refl, (u.emptied e).1);
  doomed = λ e. (refl, (u.doomed e).1, (u.doomed e).2);
  sealed = u.sealed;
  placing = λ start e. let p = u.placing start e in (p.0, (end, refl, let l = more p.1.0 p.1.1 in let m = p.1.2 in omega (arith, l, m)));
}

-- ---- a file that is looked up

found_used : (n : ℕ) (files : List MailFile) (f : MailFile) → All IsUsedFile files → file_in n files ≡ Some f → IsUsedFile f
found_used n files f used is = (found_holds (λ (g : MailFile). g.file.0 == n) files f IsUsedFile is used).0

pub found-ending : (n : ℕ) (files : List MailFile) (end : ℕ) → end_in n files ≡ Some end → (f : MailFile) × (file_in n files ≡ Some f) × (f.end ≡ Some end)
found-ending n files end is = there (file_in n files) is
  where
    there : (o : Option MailFile) → option_and_then (λ f. f.end) o ≡ Some end → (f : MailFile) × (o ≡ Some f) × (f.end ≡ Some end)
    there None e = absurd (no_start end e)
    there (Some f) e = (f, refl, e)

pub found-pinned : (n : ℕ) (files : List MailFile) → 1 ≤ pins_in n files → (f : MailFile) × (file_in n files ≡ Some f) × (1 ≤ f.pins)
found-pinned n files is = there (file_in n files) is
  where
    there : (o : Option MailFile) → 1 ≤ option_map_or (λ f. f.pins) o 0 → (f : MailFile) × (o ≡ Some f) × (1 ≤ f.pins)
    there None e = absurd (let l : 1 ≤ 0 = e in omega (arith, l))
    there (Some f) e = (f, refl, e)

pub found-emptied : (n : ℕ) (files : List MailFile) → is_emptied_in n files ≡ true → (f : MailFile) × (file_in n files ≡ Some f) × (f.emptied ≡ true)
found-emptied n files is = there (file_in n files) is
  where
    there : (o : Option MailFile) → option_map_or (λ f. f.emptied) o false ≡ true → (f : MailFile) × (o ≡ Some f) × (f.emptied ≡ true)
    there None e = absurd (false≢true e)
    there (Some f) e = (f, refl, e)

pub found-taken : (n : ℕ) (files : List MailFile) → is_taken_in n files ≡ true → (f : MailFile) × (file_in n files ≡ Some f) × (f.taken ≡ true)
found-taken n files is = there (file_in n files) is
  where
    there : (o : Option MailFile) → option_map_or (λ f. f.taken) o false ≡ true → (f : MailFile) × (o ≡ Some f) × (f.taken ≡ true)
    there None e = absurd (false≢true e)
    there (Some f) e = (f, refl, e)

pub found-begun : (n : ℕ) (files : List MailFile) (start : ℕ) → place_begun_in n files ≡ Some start → (f : MailFile) × (file_in n files ≡ Some f) × (f.begun ≡ Some start)
found-begun n files start is = there (file_in n files) is
  where
    there : (o : Option MailFile) → option_and_then (λ f. f.begun) o ≡ Some start → (f : MailFile) × (o ≡ Some f) × (f.begun ≡ Some start)
    there None e = absurd (no_start start e)
    there (Some f) e = (f, refl, e)

-- the file that was picked may be taken
pub of-contained : (size : ℕ) (file : FileNo) (files : List MailFile) (f : MailFile) → Rise files → Contains files f → f.file ≡ file → MayBeTakenFor size f → All (λ g. g.file.0 ≡ file.0 → IsUsedFile g → IsUsedFile (with_taken true g)) files
of-contained size file files f rise at same may =
    of-found file.0 files f (λ g. IsUsedFile g → IsUsedFile (with_taken true g)) rise (contained-found file.0 files f rise at (ap (λ (n : FileNo). n.0) same)) (use_taken f may.free.free)

pub no_end : (n : ℕ) (files : List MailFile) (f : MailFile) → file_in n files ≡ Some f → end_in n files ≡ None → (old : ℕ) → f.end ≡ Some old → ⊥
no_end n files f found none old is = no_start old (sym none ∙ ap (option_and_then (λ (g : MailFile). g.end)) found ∙ is)

pub more_end : (end more old : ℕ) → Some end ≡ Some old → old ≤ end + more
more_end end more old is = let e : end ≡ old = same_Some end old is in omega (arith, e)

-- where the placing is begun that is found
pub begun_here : (n : ℕ) (files : List MailFile) (end : ℕ) → end_in n files ≡ Some end → place_begun_in n (changed_in n placing_begun files) ≡ Some end
begun_here n files end is = ap (option_and_then (λ (f : MailFile). f.begun)) (file-here n placing_begun files (λ f. refl)) ∙ by_found (file_in n files) is
  where
    by_found : (o : Option MailFile) → option_and_then (λ f. f.end) o ≡ Some end → option_and_then (λ f. f.begun) (option_map placing_begun o) ≡ Some end
    by_found None e = absurd (no_start end e)
    by_found (Some f) e = e

-- it began at the end or before it
pub begun_before : (n : ℕ) (files : List MailFile) (start end : ℕ) → All IsUsedFile files → Rise files → place_begun_in n files ≡ Some start → end_in n files ≡ Some end → start ≤ end
begun_before n files start end used rise began ends =
    let f = found-begun n files start began in
    let u : IsUsedFile f.0 = found_used n files f.0 used f.1 in
    let p = (u.placing start f.2).1 in
    let e : p.0 ≡ end = same_Some p.0 end (sym p.1 ∙ sym (ap (option_and_then (λ (g : MailFile). g.end)) f.1) ∙ ends) in
    let l = p.2 in
    omega (arith, l, e)

-- a disk has the files as they are known, also where something else is known of one than its end
pub known-beside : (n : ℕ) (step : MailFile → MailFile) (files : List MailFile) (old new : Option History) → KeepsNumber step → ((f : MailFile) → (step f).end ≡ f.end) → Between (λ a b. (name : FileName) → reading (b name) ≡ reading (a name)) old new
    → (m : ℕ) → IsAsKnown files m old → IsAsKnown (changed_in n step files) m new
known-beside n step files old new keeps ends same m known =
    between-on (λ a b. (name : FileName) → reading (b name) ≡ reading (a name)) (λ disk. option_map length (reading (disk (Mail m))) ≡ end_in m files) (λ disk. option_map length (reading (disk (Mail m))) ≡ end_in m (changed_in n step files)) old new
    (λ a b r k. ap (option_map length) (r (Mail m)) ∙ k ∙ sym (ends-kept n m step files keeps ends)) same known

-- a file is synced, and the others are as they were
pub synced-reads : (name : FileName) (old new : Option History) → Between (λ a b. IsSyncedFile (a name) (b name)) old new → SameButFor name old new → Between (λ a b. (other : FileName) → reading (b other) ≡ reading (a other)) old new
synced-reads name old new synced same =
    between-both (λ a b. IsSyncedFile (a name) (b name)) (λ a b. (other : FileName) → other ≢ name → b other ≡ a other) (λ a b. (other : FileName) → reading (b other) ≡ reading (a other)) old new
    (λ a b s others other. by_name a b s others other (cases_Bool (same_name other name))) synced same
  where
    by_name : (a b : DiskState) → IsSyncedFile (a name) (b name) → ((other : FileName) → other ≢ name → b other ≡ a other) → (other : FileName) → (same_name other name ≡ true) ⊎ (same_name other name ≡ false) → reading (b other) ≡ reading (a other)
    by_name a b s others other (inl is) = subst (λ (n : FileName). reading (b n) ≡ reading (a n)) (sym (same_name-true other name is)) s.reads
    by_name a b s others other (inr apart) = ap reading (others other (same_name-apart other name apart))

-- a piece more
pub piece-length : (name : FileName) (end : ℕ) (from : List ℕ) (old new : Option History) → IfTold old (λ disk. option_map length (reading (disk name)) ≡ Some end)
    → Between (λ a b. IsPieceAdded from (a name) (b name)) old new → IfTold new (λ disk. option_map length (reading (disk name)) ≡ Some (end + length from))
piece-length name end from old new long added =
    between-on (λ a b. IsPieceAdded from (a name) (b name)) (λ disk. option_map length (reading (disk name)) ≡ Some end) (λ disk. option_map length (reading (disk name)) ≡ Some (end + length from)) old new
    (λ a b r l.
    let before : length r.before ≡ end = same_Some _ _ (sym (ap (option_map length) r.read) ∙ l) in
    ap (option_map length) r.reads ∙ ap Some (length-append r.before from ∙ ap (λ (k : ℕ). k + length from) before)) added long
