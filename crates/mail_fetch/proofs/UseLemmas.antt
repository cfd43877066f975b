-- What pins and holds change of a store, and what they leave of it.
use Rattle.mail_fetch.proofs.Common.{is_some, nat_lt, list_any, option_map, option_map_or, option_and_then, bytes_eq, ◌≡◌, ◌≢◌, ◌≤◌, ◌+◌, ◌-◌, ◌==◌, ◌&&◌, ◌||◌, inl, inr, ℕ, Bool, true, false, List, [], ◌∷◌, ◌++◌, Option, Some, None, All, refl, sym, ◌∙◌, ap, subst, arith, cases_eq, cond-true}
use Rattle.mail_fetch.proofs.Common.{eq-eqb, eqb-true, ne_eqb, All-head, All-tail, All-weaker, Faults, History, idle-begins, InstRow, InstId, MapRecord, found_let_go, holders_in, KnownInstance, end_in, file_in, is_doomed_in, pins_in, MailFile, KeepsInstances, MovesHolds, holds_of, AreElsewhere}
use Rattle.mail_fetch.proofs.Common.{StoreValue, AreIn, Claims, Due, Emptied, Held, Made, MovesClaims, Pinned, PlacingPieces, Removing, Taken, Thing, no_claims, one_if, LeavesOthers, IsSameOrSynced, unraised_same, Seen, claims_of_pinned, held_for, with_claims, without_claims, CanRemove, is_last_pin}
use Rattle.mail_fetch.proofs.Common.{one_pin, seen_in, StoredAt}
use Rattle.std.specs.Prelude.{map, nat_le}
use Rattle.std.proofs.Math.Path.{fun_ext}
use Rattle.std.proofs.lemmas.Bool.{cond-false}
use Rattle.std.proofs.lemmas.List.{append-nil}
use Rattle.disk_model.specs.Disk.{reading}
use Rattle.disk_model.specs.declared.name.FileName.TheVariants as file
use Rattle.disk_model.proofs.BetweenLemmas.{between-begins}
use Rattle.model_meaning.specs.MapMeaning.{is_own, number_at}
use Rattle.sis_store.specs.Instances.{instance_in}
use Rattle.storage_files.specs.Files.{changed_in, with_pins}
use Rattle.storage_files.proofs.FileListLemmas.{file-here, file-other}
use Rattle.store_core.specs.Files.{LiesBelowEnd}
use Rattle.store_core.specs.Knows.{knows_file, knows_instance, may_have_given}
use Rattle.store_seen.specs.Seeing.{may_be_barred, may_be_used}
use Rattle.task_claims.specs.Leaving.{OnlyGrows, LeavesFile}
use Rattle.task_claims.proofs.GoneLemmas.{gone_stays}
use Rattle.task_claims.proofs.RestLemmas.{instance_kept, record_kept}
use Rattle.mail_fetch.specs.Claims.{claims_unpinned, with_use}
use Rattle.mail_fetch.specs.Task.{pins_kept_in}
use Rattle.mail_fetch.proofs.ClaimLemmas.{idle_syncs}
use Rattle.mail_fetch.proofs.HoldLemmas.{held_rows, let_go_rows, none_placed}

-- ---- a storage file with other pins

-- what isn't of the pins stays
pub but_pins : {X : Type 0} → (value : Option MailFile → X) (n m pins : ℕ) (files : List MailFile) → ((f : MailFile) → value (Some (with_pins pins f)) ≡ value (Some f)) → value (file_in m (changed_in n (with_pins pins) files)) ≡ value (file_in m files)
but_pins value n m pins files stays = elim (cases_eq m n) [
  | inl same ↦ subst (λ (k : ℕ). value (file_in k (changed_in n (with_pins pins) files)) ≡ value (file_in k files)) (sym same) (ap value (file-here n (with_pins pins) files (λ f. refl)) ∙ by_file (file_in n files))
  | inr apart ↦ ap value (file-other n m (with_pins pins) files (λ f. refl) apart)
]
  where
    by_file : (o : Option MailFile) → value (option_map (with_pins pins) o) ≡ value o
    by_file None = refl
    by_file (Some f) = stays f

pub doomed_still : (n m pins : ℕ) (files : List MailFile) → is_doomed_in m (changed_in n (with_pins pins) files) ≡ is_doomed_in m files
doomed_still n m pins files = but_pins (λ (o : Option MailFile). option_map_or (λ f. f.doomed) o false) n m pins files (λ f. refl)

pub ends_still : (n m pins : ℕ) (files : List MailFile) → end_in m (changed_in n (with_pins pins) files) ≡ end_in m files
ends_still n m pins files = but_pins (λ (o : Option MailFile). option_and_then (λ f. f.end) o) n m pins files (λ f. refl)

pins_of_file : Option MailFile → ℕ
pins_of_file o = option_map_or (λ f. f.pins) o 0

pins_here : (n pins : ℕ) (files : List MailFile) → is_some (file_in n files) ≡ true → pins_in n (changed_in n (with_pins pins) files) ≡ pins
unfolding pins_of_file
pins_here n pins files there = ap pins_of_file (file-here n (with_pins pins) files (λ f. refl)) ∙ by_file (file_in n files) there
  where
    by_file : (o : Option MailFile) → is_some o ≡ true → pins_of_file (option_map (with_pins pins) o) ≡ pins
    by_file None e = absurd (let k : false ≡ true = e in cc k)
    by_file (Some f) e = refl

pins_other : (n m pins : ℕ) (files : List MailFile) → m ≢ n → pins_in m (changed_in n (with_pins pins) files) ≡ pins_in m files
unfolding pins_of_file
pins_other n m pins files apart = ap pins_of_file (file-other n m (with_pins pins) files (λ f. refl) apart)

pub own_one : (n : ℕ) → one_pin n n ≡ 1
own_one n = cond-true (n == n) 1 0 (eq-eqb n n refl)

none_of_other : (n m : ℕ) → m ≢ n → one_pin n m ≡ 0
none_of_other n m apart = cond-false (n == m) 1 0 (ne_eqb n m (λ e. apart (sym e)))

pub one_end : (n : ℕ) (files : List MailFile) (end : ℕ) → end_in n files ≡ Some end → is_some (file_in n files) ≡ true
one_end n files end e = by_file (file_in n files) e
  where
    by_file : (o : Option MailFile) → option_and_then (λ f. f.end) o ≡ Some end → is_some o ≡ true
    by_file None k = absurd (let z : None ≡ Some end = k in cc z)
    by_file (Some f) k = refl

pinned_there : (n : ℕ) (files : List MailFile) → 1 ≤ pins_in n files → is_some (file_in n files) ≡ true
pinned_there n files some = by_file (file_in n files) some
  where
    by_file : (o : Option MailFile) → 1 ≤ option_map_or (λ f. f.pins) o 0 → is_some o ≡ true
    by_file None k = absurd (let z : 1 ≤ 0 = k in omega (arith, z))
    by_file (Some f) k = refl

pub pins_more : (n m : ℕ) (files : List MailFile) → is_some (file_in n files) ≡ true → pins_in m (changed_in n (with_pins (pins_in n files + 1)) files) ≡ pins_in m files + one_pin n m
pins_more n m files there = elim (cases_eq m n) [
  | inl same ↦
      let here = pins_here n (pins_in n files + 1) files there in
      let one = own_one n in
      subst (λ (k : ℕ). pins_in k (changed_in n (with_pins (pins_in n files + 1)) files) ≡ pins_in k files + one_pin n k) (sym same) (omega (arith, here, one))
  | inr apart ↦ let other = pins_other n m (pins_in n files + 1) files apart in let none = none_of_other n m apart in omega (arith, other, none)
]

pub pins_fewer : (n m : ℕ) (files : List MailFile) → 1 ≤ pins_in n files → pins_in m (changed_in n (with_pins (pins_in n files - 1)) files) + one_pin n m ≡ pins_in m files
pins_fewer n m files some = elim (cases_eq m n) [
  | inl same ↦
      let here = pins_here n (pins_in n files - 1) files (pinned_there n files some) in
      let one = own_one n in
      subst (λ (k : ℕ). pins_in k (changed_in n (with_pins (pins_in n files - 1)) files) + one_pin n k ≡ pins_in k files) (sym same) (omega (arith, here, one, some))
  | inr apart ↦ let other = pins_other n m (pins_in n files - 1) files apart in let none = none_of_other n m apart in omega (arith, other, none)
]

-- what a task claims is pinned
pub own_pinned : {D : Type 0} → (from : StoredAt) (store : StoreValue D) → AreIn store (claims_of_pinned from) → 1 ≤ pins_in from.file.0 store.files.files
own_pinned from store claimed = let mine : one_pin from.file.0 from.file.0 ≤ pins_in from.file.0 store.files.files = claimed (Pinned from.file.0) in let one = own_one from.file.0 in omega (arith, mine, one)

-- a file that isn't doomed is nobody's to remove, whatever its pins
removing_same : (n m pins : ℕ) (files : List MailFile) → is_doomed_in n files ≡ false → (is_doomed_in m (changed_in n (with_pins pins) files) && (pins_in m (changed_in n (with_pins pins) files) == 0)) ≡ (is_doomed_in m files && (pins_in m files == 0))
removing_same n m pins files undoomed = elim (cases_eq m n) [
  | inl same ↦
      subst (λ (k : ℕ). (is_doomed_in k (changed_in n (with_pins pins) files) && (pins_in k (changed_in n (with_pins pins) files) == 0)) ≡ (is_doomed_in k files && (pins_in k files == 0))) (sym same)
      (ap (λ (b : Bool). b && (pins_in n (changed_in n (with_pins pins) files) == 0)) (doomed_still n n pins files ∙ undoomed) ∙ sym (ap (λ (b : Bool). b && (pins_in n files == 0)) undoomed))
  | inr apart ↦
      ap (λ (b : Bool). b && (pins_in m (changed_in n (with_pins pins) files) == 0)) (doomed_still n m pins files)
      ∙ ap (λ (k : ℕ). is_doomed_in m files && (k == 0)) (pins_other n m pins files apart)
]

-- ---- claims

-- One pin more, and one hold more for each row.
pub use_begins : {D : Type 0} → (from : StoredAt) (known : List KnownInstance) (store : StoreValue D) → is_some (file_in from.file.0 store.files.files) ≡ true → is_doomed_in from.file.0 store.files.files ≡ false → ((id : InstId) → holders_in id known + 0 ≡ holders_in id store.instances.known + holds_of from.instances id)
    → MovesClaims no_claims (claims_of_pinned from) store (with_use from (pins_in from.file.0 store.files.files + 1) known store)
use_begins from known store there undoomed held (Due uid) = refl
use_begins from known store there undoomed held (Pinned file) = let more = pins_more from.file.0 file store.files.files there in omega (arith, more)
use_begins from known store there undoomed held (Taken file) =
    ap (λ (b : Bool). one_if b + 0) (but_pins (λ (o : Option MailFile). option_map_or (λ f. f.taken) o false) from.file.0 file (pins_in from.file.0 store.files.files + 1) store.files.files (λ f. refl))
use_begins from known store there undoomed held (Emptied file) =
    ap (λ (b : Bool). one_if b + 0) (but_pins (λ (o : Option MailFile). option_map_or (λ f. f.emptied) o false) from.file.0 file (pins_in from.file.0 store.files.files + 1) store.files.files (λ f. refl))
use_begins from known store there undoomed held (PlacingPieces file) =
    ap (λ (b : Bool). one_if b + 0) (but_pins (λ (o : Option MailFile). is_some (option_and_then (λ f. f.begun) o)) from.file.0 file (pins_in from.file.0 store.files.files + 1) store.files.files (λ f. refl))
use_begins from known store there undoomed held (Removing file) = ap (λ (b : Bool). one_if b + 0) (removing_same from.file.0 file (pins_in from.file.0 store.files.files + 1) store.files.files undoomed)
use_begins from known store there undoomed held (Held id) = held id
use_begins from known store there undoomed held (Made number) = refl

-- anything but the removal of a file
IsOther : Thing → Type 0
IsOther (Removing file) = ⊥
IsOther thing = Unit {0}

-- behind an event that unpins no other thing is claimed
only_removal : (n : ℕ) (last : Bool) (thing : Thing) → IsOther thing → claims_unpinned n last thing ≡ 0
unfolding IsOther
only_removal n false thing other = refl
only_removal n true (Due uid) other = refl
only_removal n true (Pinned file) other = refl
only_removal n true (Taken file) other = refl
only_removal n true (Emptied file) other = refl
only_removal n true (PlacingPieces file) other = refl
only_removal n true (Removing file) other = absurd other
only_removal n true (Held id) other = refl
only_removal n true (Made number) other = refl

-- which files are to be removed once one has lost a pin: that one more, if it was its last
removed_more : (n m : ℕ) (files : List MailFile) (last : Bool) → 1 ≤ pins_in n files → (is_doomed_in n files && (pins_in n files == 1)) ≡ last
    → one_if (is_doomed_in m (changed_in n (with_pins (pins_in n files - 1)) files) && (pins_in m (changed_in n (with_pins (pins_in n files - 1)) files) == 0)) ≡ one_if (is_doomed_in m files && (pins_in m files == 0)) + claims_unpinned n last (Removing m)
removed_more n m files last pinned is = elim (cases_eq m n) [
  | inl same ↦
      subst (λ (k : ℕ). one_if (is_doomed_in k (changed_in n (with_pins (pins_in n files - 1)) files) && (pins_in k (changed_in n (with_pins (pins_in n files - 1)) files) == 0)) ≡ one_if (is_doomed_in k files && (pins_in k files == 0)) + claims_unpinned n last (Removing k)) (sym same)
      (ap (λ (b : Bool). one_if (b && (pins_in n (changed_in n (with_pins (pins_in n files - 1)) files) == 0))) (doomed_still n n (pins_in n files - 1) files)
      ∙ (ap (λ (k : ℕ). one_if (is_doomed_in n files && (k == 0))) (pins_here n (pins_in n files - 1) files (pinned_there n files pinned))
      ∙ (by_pins (is_doomed_in n files) (pins_in n files) last pinned is
      ∙ (let z : one_if (is_doomed_in n files && (pins_in n files == 0)) ≡ 0 = none_yet (is_doomed_in n files) (pins_in n files) pinned in let own = own_removal last in omega (arith, z, own)))))
  | inr apart ↦
      let still : one_if (is_doomed_in m (changed_in n (with_pins (pins_in n files - 1)) files) && (pins_in m (changed_in n (with_pins (pins_in n files - 1)) files) == 0)) ≡ one_if (is_doomed_in m files && (pins_in m files == 0)) =
      ap (λ (b : Bool). one_if (b && (pins_in m (changed_in n (with_pins (pins_in n files - 1)) files) == 0))) (doomed_still n m (pins_in n files - 1) files)
      ∙ ap (λ (k : ℕ). one_if (is_doomed_in m files && (k == 0))) (pins_other n m (pins_in n files - 1) files apart) in
      let none = other_removal last apart in
      omega (arith, still, none)
]
  where
    own_removal : (b : Bool) → claims_unpinned n b (Removing n) ≡ one_if b
    own_removal true = ap one_if (eq-eqb n n refl)
    own_removal false = refl

    other_removal : (b : Bool) → m ≢ n → claims_unpinned n b (Removing m) ≡ 0
    other_removal true apart = ap one_if (ne_eqb n m (λ e. apart (sym e)))
    other_removal false apart = refl

    none_yet : (d : Bool) (k : ℕ) → 1 ≤ k → one_if (d && (k == 0)) ≡ 0
    none_yet true k l = ap one_if (ne_eqb k 0 (λ e. omega (arith, l, e)))
    none_yet false k l = refl

    by_pins : (d : Bool) (k : ℕ) (b : Bool) → 1 ≤ k → (d && (k == 1)) ≡ b → one_if (d && ((k - 1) == 0)) ≡ one_if b
    by_pins false k b l e = ap one_if e
    by_pins true k b l e = elim (cases_eq k 1) [
      | inl one ↦ ap one_if (eq-eqb (k - 1) 0 (omega (arith, one)) ∙ sym (eq-eqb k 1 one) ∙ e)
      | inr more ↦ ap one_if (ne_eqb (k - 1) 0 (λ z. more (omega (arith, l, z))) ∙ sym (ne_eqb k 1 more) ∙ e)
    ]

-- One pin less, and one hold less for each row. If it was the last pin of a doomed file, that is to be removed.
pub use_ends : {D : Type 0} → (from : StoredAt) (known : List KnownInstance) (store : StoreValue D) (last : Bool) → 1 ≤ pins_in from.file.0 store.files.files → is_last_pin from.file.0 store ≡ last → ((id : InstId) → holders_in id known + holds_of from.instances id ≡ holders_in id store.instances.known + 0)
    → MovesClaims (claims_of_pinned from) (claims_unpinned from.file.0 last) store (with_use from (pins_in from.file.0 store.files.files - 1) known store)
unfolding IsOther
use_ends from known store last pinned is held (Due uid) = let none = only_removal from.file.0 last (Due uid) tt in omega (arith, none)
use_ends from known store last pinned is held (Pinned file) = let none = only_removal from.file.0 last (Pinned file) tt in let less = pins_fewer from.file.0 file store.files.files pinned in omega (arith, less, none)
use_ends from known store last pinned is held (Taken file) =
    let none = only_removal from.file.0 last (Taken file) tt in
    let same = but_pins (λ (o : Option MailFile). one_if (option_map_or (λ f. f.taken) o false)) from.file.0 file (pins_in from.file.0 store.files.files - 1) store.files.files (λ f. refl) in
    omega (arith, same, none)
use_ends from known store last pinned is held (Emptied file) =
    let none = only_removal from.file.0 last (Emptied file) tt in
    let same = but_pins (λ (o : Option MailFile). one_if (option_map_or (λ f. f.emptied) o false)) from.file.0 file (pins_in from.file.0 store.files.files - 1) store.files.files (λ f. refl) in
    omega (arith, same, none)
use_ends from known store last pinned is held (PlacingPieces file) =
    let none = only_removal from.file.0 last (PlacingPieces file) tt in
    let same = but_pins (λ (o : Option MailFile). one_if (is_some (option_and_then (λ f. f.begun) o))) from.file.0 file (pins_in from.file.0 store.files.files - 1) store.files.files (λ f. refl) in
    omega (arith, same, none)
use_ends from known store last pinned is held (Removing file) = let more = removed_more from.file.0 file store.files.files last pinned is in omega (arith, more)
use_ends from known store last pinned is held (Held id) = let none = only_removal from.file.0 last (Held id) tt in let moved = held id in omega (arith, moved, none)
use_ends from known store last pinned is held (Made number) = let none = only_removal from.file.0 last (Made number) tt in omega (arith, none)

-- ---- a file that is to be removed

-- in a doomed file no record has its region
doomed_elsewhere : (n : ℕ) (store : List ℕ) (files : List MailFile) (rows : List MapRecord) → is_doomed_in n files ≡ true → All (LiesBelowEnd store files) rows → AreElsewhere n rows
doomed_elsewhere n store files rows doomed below =
    All-weaker (LiesBelowEnd store files) (λ (row : MapRecord). row.file ≢ n) (λ row l same. let k : true ≡ false = sym doomed ∙ (ap (λ (i : ℕ). is_doomed_in i files) (sym same) ∙ l.undoomed) in cc k) rows below

last_doomed : (d : Bool) (k : ℕ) → (d && (k == 1)) ≡ true → (d ≡ true) × (k ≡ 1)
last_doomed true k e = (refl, eqb-true k 1 e)
last_doomed false k e = absurd (let z : false ≡ true = e in cc z)

-- Once a doomed file has lost its last pin, it can be removed.
pub unpinned_removable : {D : Type 0} → (from : StoredAt) (known : List KnownInstance) (store : StoreValue D) → All (LiesBelowEnd store.map.store store.files.files) store.map.records → is_last_pin from.file.0 store ≡ true → CanRemove from.file.0 (with_use from (pins_in from.file.0 store.files.files - 1) known store)
unpinned_removable from known store below last =
    let is = last_doomed (is_doomed_in from.file.0 store.files.files) (pins_in from.file.0 store.files.files) last in
    let one = is.1 in
    let some : 1 ≤ pins_in from.file.0 store.files.files = omega (arith, one) in
    let here = pins_here from.file.0 (pins_in from.file.0 store.files.files - 1) store.files.files (pinned_there from.file.0 store.files.files some) in
    record {
      doomed = doomed_still from.file.0 from.file.0 (pins_in from.file.0 store.files.files - 1) store.files.files ∙ is.0;
      unpinned = omega (arith, here, one);
      elsewhere = doomed_elsewhere from.file.0 store.map.store store.files.files store.map.records is.0 below;
    }

-- ---- what is left to others

stays : (n : ℕ) → n ≤ n
stays n = omega arith

file_left : {D : Type 0} → (from : StoredAt) (pins number : ℕ) (known : List KnownInstance) (store : StoreValue D) (history : Option History) → LeavesFile number store (with_use from pins known store) history history
file_left from pins number known store history = record {
  known = but_pins (λ (o : Option MailFile). option_map (with_pins 0) o) from.file.0 number pins store.files.files (λ f. refl);
  records = refl;
  guids = λ guid of all. all;
  state = between-begins (λ a b. IsSameOrSynced (a (file.Mail number)) (b (file.Mail number))) history (λ disk. inl refl);
}

pinned_left : {D : Type 0} → (from : StoredAt) (pins number : ℕ) (known : List KnownInstance) (store : StoreValue D) (history : Option History) → OnlyGrows number store (with_use from pins known store) history history
pinned_left from pins number known store history = record {
  there = λ end is. (end, ends_still from.file.0 number pins store.files.files ∙ is, stays end);
  reads = between-begins (λ a b. (octets : List ℕ) → reading (a (file.Mail number)) ≡ Some octets → (more : List ℕ) × (reading (b (file.Mail number)) ≡ Some (octets ++ more))) history (λ disk octets is. ([], is ∙ ap Some (sym (append-nil octets))));
}

-- with the same instances, and other pins
pub keeps_beside : {D : Type 0} → (from : StoredAt) (pins : ℕ) (known : List KnownInstance) (old : StoreValue D) (before after : Option History) → KeepsInstances old (record old { instances = record old.instances { known = known } }) before after → KeepsInstances old (with_use from pins known old) before after
keeps_beside from pins known old before after k = record { store = k.store; drawn = k.drawn; known = k.known; reads = k.reads; first = k.first; compared = k.compared; firm = record { stays = k.firm.stays } }

use_leaves_at : {D : Type 0} → (mine : Claims) (from : StoredAt) (pins : ℕ) (known : List KnownInstance) (store : StoreValue D) (history : Option History) → map (λ k. k.row) known ≡ map (λ k. k.row) store.instances.known → KeepsInstances store (with_use from pins known store) history history → LeavesOthers mine store (with_use from pins known store) history history
use_leaves_at mine from pins known store history rows keeps = record {
  records = λ uid row more there. record_kept uid row store (with_use from pins known store) history history (idle_syncs history history (idle-begins history)) refl there;
  unlisted = λ uid row none found listed. (listed, refl);
  files = λ number took. file_left from pins number known store history;
  grow = λ number more. pinned_left from pins number known store history;
  instances = λ row is more. instance_kept row store (with_use from pins known store) history history keeps is;
  unraised = unraised_same store.map store.map refl;
  store = keeps.store;
  numbers = none_placed store.instances known rows;
  mailboxes = omega arith;
  end = omega arith;
  names = inl (λ name number is. is);
  gone = gone_stays store (with_use from pins known store) refl refl (omega arith);
  compared = keeps.compared;
  firm = keeps.firm;
  uids = λ number uid held k. record { given = k.given; below = k.below; same = k.same };
  room = omega arith;
  told = between-begins (λ a b. Unit {0}) history (λ disk. tt);
}

pub use_leaves : {D : Type 0} → (H : D → Option History) (mine : Claims) (from : StoredAt) (pins : ℕ) (known : List KnownInstance) (old held new : StoreValue D) → map (λ k. k.row) known ≡ map (λ k. k.row) old.instances.known → held ≡ record old { instances = record old.instances { known = known } } → KeepsInstances old held (H old.disk) (H held.disk) → new ≡ with_use from pins known old
    → LeavesOthers mine old new (H old.disk) (H new.disk)
use_leaves H mine from pins known old held new rows same keeps is =
    subst (λ (s : StoreValue _). LeavesOthers mine old s (H old.disk) (H s.disk)) (sym is)
    (use_leaves_at mine from pins known old (H old.disk) rows (keeps_beside from pins known old (H old.disk) (H old.disk) (subst (λ (s : StoreValue _). KeepsInstances old s (H old.disk) (H s.disk)) same keeps)))

-- ---- what is seen

map_twice : {X Y Z : Type 0} → (f : Y → Z) (g : X → Y) (d : Z) (o : Option X) → option_map_or f (option_map g o) d ≡ option_map_or (λ x. f (g x)) o d
map_twice f g d None = refl
map_twice f g d (Some x) = refl

-- as it was seen, with other pins, and told these of its files and instances
abbrev seen_with : Seen → (ℕ → ℕ) → (ℕ → Bool) → (ℕ → Bool) → (ℕ → Bool) → (List ℕ → Bool) → (ℕ → Bool) → (InstRow → Bool) → Seen
seen_with was pins doomed used barred gave files instances = record was { pins = pins; doomed = doomed; used = used; barred = barred; gave = gave; files = files; instances = instances }

seen_same : (was : Seen) (pins : ℕ → ℕ) (doomed used barred : ℕ → Bool) (gave : List ℕ → Bool) (files : ℕ → Bool) (instances : InstRow → Bool) → ((f : ℕ) → doomed f ≡ was.doomed f) → ((f : ℕ) → used f ≡ was.used f) → ((f : ℕ) → barred f ≡ was.barred f) → ((g : List ℕ) → gave g ≡ was.gave g)
    → ((f : ℕ) → files f ≡ was.files f) → ((i : InstRow) → instances i ≡ was.instances i) → seen_with was pins doomed used barred gave files instances ≡ record was { pins = pins }
seen_same was pins doomed used barred gave files instances d u b v f i =
    ap (λ (x : ℕ → Bool). seen_with was pins x used barred gave files instances) (fun_ext d)
    ∙ ap (λ (x : ℕ → Bool). seen_with was pins was.doomed x barred gave files instances) (fun_ext u)
    ∙ ap (λ (x : ℕ → Bool). seen_with was pins was.doomed was.used x gave files instances) (fun_ext b)
    ∙ ap (λ (x : List ℕ → Bool). seen_with was pins was.doomed was.used was.barred x files instances) (fun_ext v)
    ∙ ap (λ (x : ℕ → Bool). seen_with was pins was.doomed was.used was.barred was.gave x instances) (fun_ext f)
    ∙ ap (λ (x : InstRow → Bool). seen_with was pins was.doomed was.used was.barred was.gave was.files x) (fun_ext i)

instance_same : (known other : List KnownInstance) (i : InstRow) → option_map (λ k. k.row) (instance_in i.id known) ≡ option_map (λ k. k.row) (instance_in i.id other)
    → option_map_or (λ k. bytes_eq k.row.hash.0 i.hash.0) (instance_in i.id known) false ≡ option_map_or (λ k. bytes_eq k.row.hash.0 i.hash.0) (instance_in i.id other) false
instance_same known other i rows =
    sym (map_twice (λ (r : InstRow). bytes_eq r.hash.0 i.hash.0) (λ (k : KnownInstance). k.row) false (instance_in i.id known))
    ∙ (ap (λ (o : Option InstRow). option_map_or (λ r. bytes_eq r.hash.0 i.hash.0) o false) rows ∙ map_twice (λ (r : InstRow). bytes_eq r.hash.0 i.hash.0) (λ (k : KnownInstance). k.row) false (instance_in i.id other))

-- It is seen as it was, but for its pins, and who holds the instances that it knows.
pub use_seen : {D : Type 0} → (from : StoredAt) (pins : ℕ) (known : List KnownInstance) (store : StoreValue D) (history : Option History) (faults : Faults) → ((id : InstId) → option_map (λ k. k.row) (instance_in id known) ≡ option_map (λ k. k.row) (instance_in id store.instances.known))
    → seen_in (with_use from pins known store) history faults ≡ record (seen_in store history faults) { pins = pins_kept_in (with_use from pins known store); known = known }
use_seen from pins known store history faults rows =
    seen_same (record (seen_in store history faults) { known = known }) (pins_kept_in (with_use from pins known store)) (λ f. is_doomed_in f (with_use from pins known store).files.files) (may_be_used (with_use from pins known store)) (may_be_barred (with_use from pins known store)) (may_have_given (with_use from pins known store))
    (knows_file (with_use from pins known store)) (knows_instance (with_use from pins known store))
    (λ f. doomed_still from.file.0 f pins store.files.files)
    (λ f. but_pins (λ (o : Option MailFile). nat_le f store.drawn.file && option_map_or (λ g. g.doomed) o true) from.file.0 f pins store.files.files (λ g. refl))
    (λ f. but_pins (λ (o : Option MailFile). nat_le f store.drawn.file && option_map_or (λ g. g.barred) o true) from.file.0 f pins store.files.files (λ g. refl))
    (λ g. but_pins (λ (o : Option MailFile). is_own store.map.store g && (nat_le (number_at 8 g) store.drawn.file && option_map_or (λ x. option_map_or (λ end. nat_lt (number_at 12 g) end) x.end false) o true)) from.file.0 (number_at 8 g) pins store.files.files (λ x. refl))
    (λ f. ap (λ (o : Option ℕ). is_some o) (ends_still from.file.0 f pins store.files.files))
    (λ i. instance_same known store.instances.known i (rows i.id))

-- ---- from what the calls say

-- an element passes the test, of which holds what holds of each
any_with : {X : Type 0} → (p : X → Bool) (Q : X → Type 0) (xs : List X) → list_any p xs ≡ true → All Q xs → (x : X) × (p x ≡ true) × Q x
any_with p Q [] e all = absurd (let k : false ≡ true = e in cc k)
any_with p Q (x ∷ xs) e all = by_test (p x) refl (λ t. any_with p Q xs (sym (ap (λ (b : Bool). b || list_any p xs) t) ∙ e) (All-tail Q x xs all))
  where
    by_test : (b : Bool) → p x ≡ b → (p x ≡ false → (y : _) × (p y ≡ true) × Q y) → (y : _) × (p y ≡ true) × Q y
    by_test true t rest = (x, t, All-head Q x xs all)
    by_test false t rest = rest t

-- a file in which a record has its region isn't doomed
pub region_undoomed : (n : ℕ) (store : List ℕ) (files : List MailFile) (rows : List MapRecord) → list_any (λ row. row.file == n) rows ≡ true → All (LiesBelowEnd store files) rows → is_doomed_in n files ≡ false
region_undoomed n store files rows has below =
    let found = any_with (λ (row : MapRecord). row.file == n) (LiesBelowEnd store files) rows has below in
    ap (λ (k : ℕ). is_doomed_in k files) (sym (eqb-true found.0.file n found.1)) ∙ found.2.undoomed

-- first the instances are held or let go, and then the file is pinned or unpinned
abbrev with_known : {D : Type 0} → StoreValue D → List KnownInstance → StoreValue D
with_known store known = record store { instances = record store.instances { known = known } }

abbrev with_files : {D : Type 0} → StoreValue D → List MailFile → StoreValue D
with_files store files = record store { files = record store.files { files = files } }

pub claimed_same : {D : Type 0} → (from : StoredAt) (rows : List InstRow) (old held new : StoreValue D) → rows ≡ from.instances → held ≡ with_known old (held_for rows old.instances.known) → new ≡ with_files held (changed_in from.file.0 (with_pins (pins_in from.file.0 held.files.files + 1)) held.files.files) → new ≡ with_claims from old
claimed_same from rows old held new same held_is new_is =
    new_is ∙ ap (λ (s : StoreValue _). with_files s (changed_in from.file.0 (with_pins (pins_in from.file.0 s.files.files + 1)) s.files.files)) held_is
    ∙ ap (λ (rs : List InstRow). with_use from (pins_in from.file.0 old.files.files + 1) (held_for rs old.instances.known) old) same

pub claimed_moves : {D : Type 0} → (from : StoredAt) (rows : List InstRow) (old held new : StoreValue D) (end : ℕ) → rows ≡ from.instances → held ≡ with_known old (held_for rows old.instances.known) → new ≡ with_claims from old → end_in from.file.0 old.files.files ≡ Some end → is_doomed_in from.file.0 old.files.files ≡ false
    → MovesHolds (λ id. 0) (holds_of rows) old held → MovesClaims no_claims (claims_of_pinned from) old new
claimed_moves from rows old held new end same held_is new_is ends undoomed moves =
    subst (λ (s : StoreValue _). MovesClaims no_claims (claims_of_pinned from) old s) (sym new_is)
    (use_begins from (held_for from.instances old.instances.known) old (one_end from.file.0 old.files.files end ends) undoomed
    (subst (λ (rs : List InstRow). (id : InstId) → holders_in id (held_for rs old.instances.known) + 0 ≡ holders_in id old.instances.known + holds_of rs id) same
    (subst (λ (s : StoreValue _). (id : InstId) → holders_in id s.instances.known + 0 ≡ holders_in id old.instances.known + holds_of rows id) held_is moves)))

pub claimed_leaves : {D : Type 0} → (H : D → Option History) (mine : Claims) (from : StoredAt) (rows : List InstRow) (old held new : StoreValue D) → rows ≡ from.instances → held ≡ with_known old (held_for rows old.instances.known) → KeepsInstances old held (H old.disk) (H held.disk) → new ≡ with_claims from old
    → LeavesOthers mine old new (H old.disk) (H new.disk)
claimed_leaves H mine from rows old held new same held_is keeps new_is =
    use_leaves H mine from (pins_in from.file.0 old.files.files + 1) (held_for from.instances old.instances.known) old held new (held_rows from.instances old.instances.known) (held_is ∙ ap (λ (rs : List InstRow). with_known old (held_for rs old.instances.known)) same) keeps new_is

pub given_same : {D : Type 0} → (from : StoredAt) (rows : List InstRow) (old held new : StoreValue D) → rows ≡ from.instances → held ≡ with_known old (found_let_go rows old.instances.known) → new ≡ with_files held (changed_in from.file.0 (with_pins (pins_in from.file.0 held.files.files - 1)) held.files.files) → new ≡ without_claims from old
given_same from rows old held new same held_is new_is =
    new_is ∙ ap (λ (s : StoreValue _). with_files s (changed_in from.file.0 (with_pins (pins_in from.file.0 s.files.files - 1)) s.files.files)) held_is
    ∙ ap (λ (rs : List InstRow). with_use from (pins_in from.file.0 old.files.files - 1) (found_let_go rs old.instances.known) old) same

pub given_last : {D : Type 0} → (file : ℕ) (rows : List InstRow) (old held : StoreValue D) (last : Bool) → held ≡ with_known old (found_let_go rows old.instances.known) → last ≡ (is_doomed_in file held.files.files && (pins_in file held.files.files == 1)) → last ≡ is_last_pin file old
given_last file rows old held last held_is is = is ∙ ap (λ (s : StoreValue _). is_last_pin file s) held_is

pub given_moves : {D : Type 0} → (from : StoredAt) (rows : List InstRow) (old held new : StoreValue D) (last : Bool) → rows ≡ from.instances → held ≡ with_known old (found_let_go rows old.instances.known) → new ≡ without_claims from old → AreIn old (claims_of_pinned from) → is_last_pin from.file.0 old ≡ last
    → MovesHolds (holds_of rows) (λ id. 0) old held → MovesClaims (claims_of_pinned from) (claims_unpinned from.file.0 last) old new
given_moves from rows old held new last same held_is new_is claimed is moves =
    subst (λ (s : StoreValue _). MovesClaims (claims_of_pinned from) (claims_unpinned from.file.0 last) old s) (sym new_is)
    (use_ends from (found_let_go from.instances old.instances.known) old last (own_pinned from old claimed) is
    (subst (λ (rs : List InstRow). (id : InstId) → holders_in id (found_let_go rs old.instances.known) + holds_of rs id ≡ holders_in id old.instances.known + 0) same
    (subst (λ (s : StoreValue _). (id : InstId) → holders_in id s.instances.known + holds_of rows id ≡ holders_in id old.instances.known + 0) held_is moves)))

pub given_removable : {D : Type 0} → (from : StoredAt) (old new : StoreValue D) → All (LiesBelowEnd old.map.store old.files.files) old.map.records → new ≡ without_claims from old → is_last_pin from.file.0 old ≡ true → CanRemove from.file.0 new
given_removable from old new below new_is last = subst (λ (s : StoreValue _). CanRemove from.file.0 s) (sym new_is) (unpinned_removable from (found_let_go from.instances old.instances.known) old below last)

pub given_leaves : {D : Type 0} → (H : D → Option History) (mine : Claims) (from : StoredAt) (rows : List InstRow) (old held new : StoreValue D) → rows ≡ from.instances → held ≡ with_known old (found_let_go rows old.instances.known) → KeepsInstances old held (H old.disk) (H held.disk) → new ≡ without_claims from old
    → LeavesOthers mine old new (H old.disk) (H new.disk)
given_leaves H mine from rows old held new same held_is keeps new_is =
    use_leaves H mine from (pins_in from.file.0 old.files.files - 1) (found_let_go from.instances old.instances.known) old held new (let_go_rows from.instances old.instances.known) (held_is ∙ ap (λ (rs : List InstRow). with_known old (found_let_go rs old.instances.known)) same) keeps new_is
