-- What an event of a delivery makes of what it holds.
use Rattle.std.specs.Prelude.{◌≡◌, ◌⊎◌, ◌≤◌, ◌<◌, ◌+◌, ◌-◌, ℕ, List, length, Option, IsSome, false}
use Rattle.std.proofs.Common.{refl, ◌∙◌, ap, inl, inr, arith}
use Rattle.disk_model.specs.Disk.{History}
use Rattle.mail_save.specs.Held.{save_holds}
use Rattle.mail_save.specs.Others.{IsOwnFile}
use Rattle.mail_save.specs.SaveEffects.{SaveEffects}
use Rattle.mail_save.specs.Task.{HasLeft, IsAttached, IsAttachedSoFar}
use Rattle.mail_save.specs.declared.first.SavedParts.{SavedParts}
use Rattle.mail_save.specs.declared.task.SaveStage.{SaveStage}
use Rattle.mail_save.specs.declared.task.SaveStage.TheVariants as stage
use Rattle.mail_save.proofs.AttachLemmas.{next_is}
use Rattle.mdbox_base.specs.declared.ids.InstId.{InstId}
use Rattle.mdbox_base.specs.declared.progress.Progress.TheVariants as progress
use Rattle.mdbox_base.specs.declared.replies.Reply.{Reply}
use Rattle.save_instances.proofs.FoundLemmas.{holds_few}
use Rattle.save_instances.specs.Attaching.{AttachingValue, next_attachment, parts_left}
use Rattle.saved_message.proofs.ReferenceLemmas.{parts_few}
use Rattle.sis_store.proofs.IdLemmas.{is_within}
use Rattle.storage_files.specs.Files.{is_taken_in}
use Rattle.store_core.specs.Keeping.{holds_of}
use Rattle.store_core.specs.Value.{StoreValue}

-- after a reply no event is left
pub at_end : {D : Type 0} → (now next : SaveStage) (name : List ℕ) (time size : ℕ) (given : Reply) (old new : StoreValue D) → SaveEffects now next name time size (progress.Done given) old new → next ≡ stage.Ended
at_end now stage.Ended name time size given old new e = refl
at_end (stage.First prepared) next name time size given old new e = absurd e
at_end (stage.Attaching parts attaching) next name time size given old new e = absurd e
at_end (stage.Taking parts) next name time size given old new e = absurd e
at_end (stage.Placing parts file) next name time size given old new e = absurd e
at_end (stage.Storing at rows room) next name time size given old new e = absurd e
at_end (stage.Adding added room) next name time size given old new e = absurd e
at_end (stage.GivingBack uid why room) next name time size given old new e = absurd e
at_end stage.Ended next name time size given old new e = absurd e

-- A storage file that a delivery has after an event it had before, or nobody had taken it.
pub own_before : {D : Type 0} → (now next : SaveStage) (name : List ℕ) (time size : ℕ) (old new : StoreValue D) → SaveEffects now next name time size progress.More old new → (number : ℕ) → IsOwnFile next number → IsOwnFile now number ⊎ (is_taken_in number old.files.files ≡ false)
own_before (stage.Taking parts) (stage.Placing laid file) name time size old new e number own = inr (ap (λ (n : ℕ). is_taken_in n old.files.files) own ∙ e.1.free)
own_before (stage.Placing parts file) (stage.Storing at rows room) name time size old new e number own = inl (own ∙ ap (λ f. f.0) e.file_is)
own_before now (stage.Placing laid file) name time size old new e number own = absurd e
own_before now (stage.Storing at rows room) name time size old new e number own = absurd e
own_before now next name time size old new e number own = absurd own

-- ---- a delivery holds few instances

-- those of the parts that were found, and so many parts are left
pub attached_few : {D : Type 0} → (name : List ℕ) (time : ℕ) (parts : SavedParts) (attaching : AttachingValue) (store : StoreValue D) (history : Option History) → IsAttachedSoFar name time parts attaching store history → IsSome (next_attachment attaching)
    → length attaching.found + parts_left attaching ≤ 512
attached_few name time parts attaching store history so_far some =
    let part = next_is (next_attachment attaching) some in
    let within : length attaching.found < length attaching.parts = is_within attaching.parts (length attaching.found) part.0 part.1 in
    let few : length so_far.2.prepared.parts ≤ 512 = parts_few so_far.0 so_far.2.prepared so_far.1 so_far.2.form in
    let same : length attaching.parts ≡ length so_far.2.prepared.parts = ap length so_far.2.parts_are in
    counts (length attaching.found) (length attaching.parts) (length so_far.2.prepared.parts) within few same
  where
    counts : (found all parts : ℕ) → found < all → parts ≤ 512 → all ≡ parts → found + (all - found) ≤ 512
    counts found all parts lt few same = omega (arith, lt, few, same)

rows_few : {D : Type 0} → (name : List ℕ) (time : ℕ) (parts : SavedParts) (store : StoreValue D) (history : Option History) → IsAttached name time parts store history → length parts.rows ≤ 512
rows_few name time parts store history is =
    let few : length is.0.2.prepared.parts ≤ 512 = parts_few is.0.0 is.0.2.prepared is.0.1 is.0.2.form in
    let same : length parts.rows ≡ length is.0.2.prepared.parts = is.0.2.one_each in
    omega (arith, few, same)

below : (held rows most : ℕ) → held ≤ rows → rows ≤ most → most ≤ 65535 → held ≤ 65535
below held rows most a b c = omega (arith, a, b, c)

pub few_held : {D : Type 0} → (now : SaveStage) (name : List ℕ) (time : ℕ) (store : StoreValue D) (history : Option History) → HasLeft now name time store history → (id : InstId) → save_holds now id ≤ 65535
few_held (stage.First prepared) name time store history left id = omega arith
few_held (stage.Attaching parts attaching) name time store history left id =
    let few = attached_few name time parts attaching store history left.0 left.1 in
    let held = holds_few attaching.found id in
    sums (holds_of attaching.found id) (length attaching.found) (parts_left attaching) held few
  where
    sums : (held found rest : ℕ) → held ≤ found → found + rest ≤ 512 → held ≤ 65535
    sums held found rest a b = omega (arith, a, b)
few_held (stage.Taking parts) name time store history left id = below (holds_of parts.rows id) (length parts.rows) 512 (holds_few parts.rows id) (rows_few name time parts store history left) (omega arith)
few_held (stage.Placing parts file) name time store history left id = below (holds_of parts.rows id) (length parts.rows) 512 (holds_few parts.rows id) (rows_few name time parts store history left.0) (omega arith)
few_held (stage.Storing at rows room) name time store history left id =
    let held = holds_few rows id in
    let few = left.2.few in
    omega (arith, held, few)
few_held (stage.Adding added room) name time store history left id = omega arith
few_held (stage.GivingBack uid why room) name time store history left id = omega arith
few_held stage.Ended name time store history left id = omega arith
