-- A store of which no task claims anything.
use Rattle.std.specs.Prelude.{find, is_some}
use Rattle.std.specs.List.{list_any}
use Rattle.std.specs.Option.{option_and_then, option_map_or}
use Rattle.std.proofs.Common.{◌≡◌, ◌==◌, ◌&&◌, ℕ, Bool, true, false, cond, List, [], ◌∷◌, All, Option, Some, None, refl, ◌∙◌, ap, subst}
use Rattle.std.proofs.lemmas.List.Elements.{All-head, All-tail}
use Rattle.model_meaning.specs.MapMeaning.{MapRecord}
use Rattle.sis_store.specs.Instances.{instance_in, has_id}
use Rattle.sis_store.specs.declared.instance.KnownInstance.{KnownInstance}
use Rattle.storage_files.specs.Files.{file_in}
use Rattle.storage_files.specs.declared.file.MailFile.{MailFile}
use Rattle.store_core.specs.Dues.{number_beside}
use Rattle.store_core.specs.Value.{StoreValue, none_due}
use Rattle.store_core.specs.declared.store.OpenBox.{OpenBox}
use Rattle.task_claims.specs.Claims.{AddsUp, Due, Emptied, HasNoTask, Held, IsUnusedFile, Made, Pinned, PlacingPieces, Removing, Taken, one_if}

no_due : (rows : List MapRecord) (uid : ℕ) → number_beside uid rows (none_due rows) ≡ 0
no_due [] uid = refl
no_due (row ∷ rows) uid = by_test (row.uid == uid) refl (no_due rows uid)
  where
    by_test : (b : Bool) → (row.uid == uid) ≡ b → number_beside uid rows (none_due rows) ≡ 0 → number_beside uid (row ∷ rows) (none_due (row ∷ rows)) ≡ 0
    by_test true t rest = ap (λ (c : Bool). cond c 0 (number_beside uid rows (none_due rows))) t
    by_test false t rest = ap (λ (c : Bool). cond c 0 (number_beside uid rows (none_due rows))) t ∙ rest

-- what is found in a list of which all have it
found_has : {X : Type 0} → (P : X → Type 0) (test : X → Bool) (xs : List X) (x : X) → All P xs → find test xs ≡ Some x → P x
found_has P test [] x all found = absurd (let k : None ≡ Some x = found in cc k)
found_has P test (a ∷ more) x all found = by_test (test a) found (λ f. found_has P test more x (All-tail P a more all) f)
  where
    by_test : (t : Bool) → cond t (Some a) (find test more) ≡ Some x → (find test more ≡ Some x → P x) → P x
    by_test true f rest = subst P (let k : a ≡ x = cc f in k) (All-head P a more all)
    by_test false f rest = rest f

-- whatever is read of a file is what is read of none
none_read : {R : Type 0} → (read : MailFile → R) (none : R) (number : ℕ) (files : List MailFile) → ((f : MailFile) → IsUnusedFile f → read f ≡ none) → All IsUnusedFile files → option_map_or read (file_in number files) none ≡ none
none_read read none number files unused all = by_found (file_in number files) refl
  where
    by_found : (found : Option MailFile) → file_in number files ≡ found → option_map_or read found none ≡ none
    by_found None e = refl
    by_found (Some f) e = unused f (found_has IsUnusedFile (λ g. g.file.0 == number) files f all e)

none_begun : (number : ℕ) (files : List MailFile) → All IsUnusedFile files → option_and_then (λ f. f.begun) (file_in number files) ≡ None
none_begun number files all = by_found (file_in number files) refl
  where
    by_found : (found : Option MailFile) → file_in number files ≡ found → option_and_then (λ f. f.begun) found ≡ None
    by_found None e = refl
    by_found (Some f) e = (found_has IsUnusedFile (λ g. g.file.0 == number) files f all e).unplaced

none_held : (known : List KnownInstance) → All (λ k. k.holders ≡ 0) known → (found : Option KnownInstance) → ((k : KnownInstance) → found ≡ Some k → k.holders ≡ 0) → option_map_or (λ k. k.holders) found 0 ≡ 0
none_held known all None has = refl
none_held known all (Some k) has = has k refl

pub none_claimed : {D : Type 0} → (store : StoreValue D) → HasNoTask store → AddsUp store []
none_claimed store none (Due uid) = ap (number_beside uid store.map.records) none.dues ∙ no_due store.map.records uid
none_claimed store none (Pinned number) = none_read (λ f. f.pins) 0 number store.files.files (λ f u. u.unpinned) none.files
none_claimed store none (Taken number) = ap one_if (none_read (λ f. f.taken) false number store.files.files (λ f u. u.free.untaken) none.files)
none_claimed store none (Emptied number) = ap one_if (none_read (λ f. f.emptied) false number store.files.files (λ f u. u.free.unemptied) none.files)
none_claimed store none (PlacingPieces number) = ap (λ (o : Option ℕ). one_if (is_some o)) (none_begun number store.files.files none.files)
none_claimed store none (Removing number) = undoomed (option_map_or (λ f. f.doomed) (file_in number store.files.files) false) (option_map_or (λ f. f.pins) (file_in number store.files.files) 0 == 0) (none_read (λ f. f.doomed) false number store.files.files (λ f u. u.free.undoomed) none.files)
  where
    undoomed : (d p : Bool) → d ≡ false → one_if (d && p) ≡ 0
    undoomed true p e = absurd (let k : true ≡ false = e in cc k)
    undoomed false p e = refl
none_claimed store none (Held id) = none_held store.instances.known none.instances (instance_in id store.instances.known) (λ k e. found_has (λ (x : KnownInstance). x.holders ≡ 0) (has_id id) store.instances.known k none.instances e)
none_claimed store none (Made number) = ap (λ (made : List OpenBox). one_if (list_any (λ open_box. open_box.number.0 == number) made)) none.made
