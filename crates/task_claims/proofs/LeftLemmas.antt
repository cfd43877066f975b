-- Of what others have something, that is left to them.
use Rattle.std.proofs.Common.{◌≡◌, ◌≤◌, ◌<◌, ◌+◌, ℕ, Bool, true, false, Option, Some, refl, ap, arith, inl, inr}
use Rattle.disk_model.specs.Disk.{History}
use Rattle.mdbox_base.specs.declared.entries.InstRow.{InstRow}
use Rattle.mdbox_base.specs.declared.ids.InstId.{InstId}
use Rattle.model_meaning.specs.MapMeaning.{MapRecord, record_at}
use Rattle.sis_store.specs.Instances.{holders_in}
use Rattle.storage_files.specs.Files.{is_emptied_in, is_taken_in, pins_in}
use Rattle.store_core.specs.Dues.{due_at}
use Rattle.store_core.specs.MadeLogs.{has_made_log}
use Rattle.store_core.specs.StoreInstances.{IsKnownRow}
use Rattle.store_core.specs.Value.{StoreValue}
use Rattle.task_claims.specs.Claims.{Claims, Due, Emptied, Held, Made, Pinned, Removing, Taken, Thing, amount_in, is_to_remove, one_if}
use Rattle.task_claims.specs.Leaving.{LeavesFile, LeavesInstance, OnlyGrows, LeavesRecord}
use Rattle.task_claims.specs.Stable.{Beside}

less : (mine theirs all : ℕ) → mine + theirs ≤ all → 1 ≤ theirs → mine < all
less mine theirs all l s = omega (arith, l, s)

pub record_left : {D : Type 0} → (theirs : Claims) (old new : StoreValue D) (before after : Option History) (uid : ℕ) (row : MapRecord) → Beside theirs old new before after → 1 ≤ theirs (Due uid) → record_at old.map uid ≡ Some row → LeavesRecord uid row new before after
record_left theirs old new before after uid row b some there = b.leaves.records uid row (less (b.mine (Due uid)) (theirs (Due uid)) (due_at uid old) (b.are (Due uid)) some) there

pub instance_left : {D : Type 0} → (theirs : Claims) (old new : StoreValue D) (before after : Option History) (row : InstRow) → Beside theirs old new before after → 1 ≤ theirs (Held row.id) → IsKnownRow old.instances.known row → LeavesInstance row old new before after
instance_left theirs old new before after row b some known = b.leaves.instances row known (less (b.mine (Held row.id)) (theirs (Held row.id)) (holders_in row.id old.instances.known) (b.are (Held row.id)) some)

-- one alone has it
alone : (mine theirs : ℕ) (t : Bool) → mine + theirs ≤ one_if t → 1 ≤ theirs → (t ≡ true) × (mine ≡ 0)
alone mine theirs true l s = (refl, omega (arith, l, s))
alone mine theirs false l s = absurd (let k : mine + theirs ≤ 0 = l in omega (arith, k, s))

still : (mine mine_now : ℕ) (was is : Bool) → one_if is + mine ≡ one_if was + mine_now → was ≡ true → mine ≡ 0 → is ≡ true
still mine mine_now was true e t z = refl
still mine mine_now was false e t z = absurd (let one : one_if was ≡ 1 = ap one_if t in let k : 0 + mine ≡ one_if was + mine_now = e in omega (arith, one, k, z))

took_left : (mine theirs : ℕ) (t : Bool) → mine + theirs ≤ one_if t → 1 ≤ theirs → mine < one_if t
took_left mine theirs t l s = omega (arith, l, s)

-- a storage file that it has taken, to add to it or to empty it, and one that it is to remove
pub taken_left : {D : Type 0} → (theirs : Claims) (old new : StoreValue D) (before after : Option History) (number : ℕ) → Beside theirs old new before after → 1 ≤ theirs (Taken number) → LeavesFile number old new before after × (is_taken_in number new.files.files ≡ true)
taken_left theirs old new before after number b some =
    let a = alone (b.mine (Taken number)) (theirs (Taken number)) (is_taken_in number old.files.files) (b.are (Taken number)) some in
    (b.leaves.files number (inl (took_left (b.mine (Taken number)) (theirs (Taken number)) (is_taken_in number old.files.files) (b.are (Taken number)) some)), still (b.mine (Taken number)) (b.mine_now (Taken number)) (is_taken_in number old.files.files) (is_taken_in number new.files.files) (b.moves (Taken number)) a.0 a.1)

pub emptied_left : {D : Type 0} → (theirs : Claims) (old new : StoreValue D) (before after : Option History) (number : ℕ) → Beside theirs old new before after → 1 ≤ theirs (Emptied number) → LeavesFile number old new before after × (is_emptied_in number new.files.files ≡ true)
emptied_left theirs old new before after number b some =
    let a = alone (b.mine (Emptied number)) (theirs (Emptied number)) (is_emptied_in number old.files.files) (b.are (Emptied number)) some in
    (b.leaves.files number (inr (inl (took_left (b.mine (Emptied number)) (theirs (Emptied number)) (is_emptied_in number old.files.files) (b.are (Emptied number)) some))), still (b.mine (Emptied number)) (b.mine_now (Emptied number)) (is_emptied_in number old.files.files) (is_emptied_in number new.files.files) (b.moves (Emptied number)) a.0 a.1)

pub removing_left : {D : Type 0} → (theirs : Claims) (old new : StoreValue D) (before after : Option History) (number : ℕ) → Beside theirs old new before after → 1 ≤ theirs (Removing number) → LeavesFile number old new before after × (is_to_remove number new ≡ true)
removing_left theirs old new before after number b some =
    let a = alone (b.mine (Removing number)) (theirs (Removing number)) (is_to_remove number old) (b.are (Removing number)) some in
    (b.leaves.files number (inr (inr (took_left (b.mine (Removing number)) (theirs (Removing number)) (is_to_remove number old) (b.are (Removing number)) some))), still (b.mine (Removing number)) (b.mine_now (Removing number)) (is_to_remove number old) (is_to_remove number new) (b.moves (Removing number)) a.0 a.1)

pub log_left : {D : Type 0} → (theirs : Claims) (old new : StoreValue D) (before after : Option History) (number : ℕ) → Beside theirs old new before after → 1 ≤ theirs (Made number) → has_made_log number new ≡ true
log_left theirs old new before after number b some =
    let a = alone (b.mine (Made number)) (theirs (Made number)) (has_made_log number old) (b.are (Made number)) some in
    still (b.mine (Made number)) (b.mine_now (Made number)) (has_made_log number old) (has_made_log number new) (b.moves (Made number)) a.0 a.1

-- ---- amounts

within : (mine mine_now other all all_now : ℕ) → all_now + mine ≡ all + mine_now → mine + other ≤ all → other ≤ all_now
within mine mine_now other all all_now moved due = omega (arith, moved, due)

-- it claims no more than all tasks do, still
pub claim_left : {D : Type 0} → (theirs : Claims) (old new : StoreValue D) (before after : Option History) (thing : Thing) → Beside theirs old new before after → theirs thing ≤ amount_in thing new
claim_left theirs old new before after thing b = within (b.mine thing) (b.mine_now thing) (theirs thing) (amount_in thing old) (amount_in thing new) (b.moves thing) (b.are thing)

pub due_left : {D : Type 0} → (theirs : Claims) (old new : StoreValue D) (before after : Option History) (uid : ℕ) → Beside theirs old new before after → theirs (Due uid) ≤ due_at uid new
due_left theirs old new before after uid b = claim_left theirs old new before after (Due uid) b

pub held_left : {D : Type 0} → (theirs : Claims) (old new : StoreValue D) (before after : Option History) (id : InstId) → Beside theirs old new before after → theirs (Held id) ≤ holders_in id new.instances.known
held_left theirs old new before after id b = claim_left theirs old new before after (Held id) b

pub pinned_left : {D : Type 0} → (theirs : Claims) (old new : StoreValue D) (before after : Option History) (number : ℕ) → Beside theirs old new before after → 1 ≤ theirs (Pinned number) → OnlyGrows number old new before after × (theirs (Pinned number) ≤ pins_in number new.files.files)
pinned_left theirs old new before after number b some =
    (b.leaves.grow number (inl (less (b.mine (Pinned number)) (theirs (Pinned number)) (pins_in number old.files.files) (b.are (Pinned number)) some)), claim_left theirs old new before after (Pinned number) b)
