-- Two deliveries that take turns: what an event of one leaves to the other.
use Rattle.std.specs.Prelude.{◌≡◌, ◌⊎◌, ◌≤◌, ◌+◌, ℕ, Bool, All, List, length, Option, Some, None, true, false}
use Rattle.std.proofs.Common.{refl, sym, ◌∙◌, ap, subst, cond, eq-eqb, inl, inr, arith}
use Rattle.std.proofs.lemmas.Bool.{false≢true}
use Rattle.std.proofs.lemmas.List.Elements.{All-weaker}
use Rattle.disk_model.specs.Disk.{Between, Faults, History, IfTold}
use Rattle.mail_save.specs.Held.{save_dues, save_holds}
use Rattle.mail_save.specs.Left.{HoldsInstances}
use Rattle.mail_save.specs.Others.{IsOwnFile}
use Rattle.mail_save.specs.SaveEffects.{SaveEffects}
use Rattle.mail_save.specs.Task.{HasLeft, IsAttached, Saves}
use Rattle.mail_save.specs.declared.first.SavedParts.{SavedParts}
use Rattle.mail_save.specs.declared.task.SaveStage.{SaveStage}
use Rattle.mail_save.specs.declared.task.SaveStage.TheVariants as stage
use Rattle.mdbox_base.specs.declared.entries.InstRow.{InstRow}
use Rattle.mdbox_base.specs.declared.ids.InstId.{InstId}
use Rattle.mdbox_base.specs.declared.progress.Did.{Did}
use Rattle.mdbox_base.specs.declared.progress.Progress.{Progress}
use Rattle.mdbox_base.specs.declared.progress.Progress.TheVariants as progress
use Rattle.save_instances.proofs.AttachingLemmas.{goes_on}
use Rattle.save_instances.proofs.FoundLemmas.{holds_few, of_parts_kept}
use Rattle.save_instances.specs.Attaching.{AreHeld, parts_left}
use Rattle.saved_message.proofs.ReferenceLemmas.{parts_few}
use Rattle.sis_store.specs.Instances.{holders_in}
use Rattle.sis_store.specs.declared.instance.KnownInstance.{KnownInstance}
use Rattle.storage_files.specs.Files.{is_taken_in}
use Rattle.store_core.specs.Dues.{due_at}
use Rattle.store_core.specs.Keeping.{KeepsInstances, holds_of}
use Rattle.store_core.specs.StoreInstances.{IsFirstKnown, IsKnownRow}
use Rattle.store_core.specs.Value.{StoreValue}
use Rattle.task_steps.specs.ExpungeStages.{one_due}
use Rattle.tests.proofs.StepLemmas.{attached_few, own_before}

-- ---- what both have

-- nobody but these two holds an instance
abbrev pub HoldTogether : {D : Type 0} → SaveStage → SaveStage → StoreValue D → Type 0
HoldTogether one other store = (id : InstId) → holders_in id store.instances.known ≡ save_holds one id + save_holds other id

-- what both hold of a record is due
abbrev pub AreDueTogether : {D : Type 0} → SaveStage → SaveStage → StoreValue D → Type 0
AreDueTogether one other store = (uid : ℕ) → save_dues one uid + save_dues other uid ≤ due_at uid store

-- no storage file was taken by both
abbrev pub AreApart : SaveStage → SaveStage → Type 0
AreApart one other = (number : ℕ) → IsOwnFile one number → IsOwnFile other number → ⊥

-- What an event of one says, in a store that isn't stopped then, and what both had before.
pub record Turn {D : Type 0} (now next other : SaveStage) (name : List ℕ) (time size : ℕ) (answer : Progress) (how : Did) (old new : StoreValue D) (before after : Option History) (began ended : Faults) : Type 0 where
  pub says : Saves now next name time size answer how old new before after began ended
  pub runs : new.stopped ≡ false
  pub held : HoldTogether now other old
  pub due : AreDueTogether now other old
  pub apart : AreApart now other

-- ---- what both have then

moved : (now before mine next other : ℕ) → now + mine ≡ before + next → before ≡ mine + other → now ≡ next + other
moved now before mine next other sum is = omega (arith, sum, is)

dues_moved : (now before mine next other : ℕ) → now + mine ≡ before + next → mine + other ≤ before → next + other ≤ now
dues_moved now before mine next other sum le = omega (arith, sum, le)

pub held_then : {D : Type 0} → (now next other : SaveStage) (name : List ℕ) (time size : ℕ) (answer : Progress) (how : Did) (old new : StoreValue D) (before after : Option History) (began ended : Faults) → Turn now next other name time size answer how old new before after began ended → HoldTogether next other new
held_then now next other name time size answer how old new before after began ended t id =
    moved (holders_in id new.instances.known) (holders_in id old.instances.known) (save_holds now id) (save_holds next id) (save_holds other id) (t.says.holds id) (t.held id)

pub due_then : {D : Type 0} → (now next other : SaveStage) (name : List ℕ) (time size : ℕ) (answer : Progress) (how : Did) (old new : StoreValue D) (before after : Option History) (began ended : Faults) → Turn now next other name time size answer how old new before after began ended → AreDueTogether next other new
due_then now next other name time size answer how old new before after began ended t uid =
    dues_moved (due_at uid new) (due_at uid old) (save_dues now uid) (save_dues next uid) (save_dues other uid) ((t.says.moves t.runs).due uid) (t.due uid)

-- ---- what was left to the other

-- it holds what it held
other_held : (all one mine : ℕ) → all ≡ one + mine → mine ≤ all
other_held all one mine is = omega (arith, is)

-- and has room for so many more
room_then : (all one mine rest : ℕ) → all ≡ one + mine → one ≤ 65535 → mine + rest ≤ 512 → all + rest ≤ 4294967295
room_then all one mine rest is few some = omega (arith, is, few, some)

-- one is due of its own record
one_of_own : (uid : ℕ) → one_due uid uid ≡ 1
one_of_own uid = ap (λ (b : Bool). cond b 1 0) (eq-eqb uid uid refl)

one_due_then : (all one mine : ℕ) → one + mine ≤ all → mine ≡ 1 → 1 ≤ all
one_due_then all one mine le is = omega (arith, le, is)

-- the rows that were first are so
first_rows : (rows : List InstRow) (old new : List KnownInstance) (before after : Option History) → All (IsKnownRow old) rows → Between (λ a b. (row : InstRow) → IsKnownRow old row → IsFirstKnown old a row → IsFirstKnown new b row) before after
    → IfTold before (λ now. All (IsFirstKnown old now) rows) → IfTold after (λ now. All (IsFirstKnown new now) rows)
first_rows rows old new None after known keeps first = subst (λ (h : Option History). IfTold h (λ now. All (IsFirstKnown new now) rows)) (sym keeps) tt
first_rows rows old new (Some a) None known keeps first = absurd keeps
first_rows rows old new (Some a) (Some b) known keeps first = λ k d lt. keeps _ (known k d lt) (first k d lt)

instances_then : {D : Type 0} → (rows : List InstRow) (old new : StoreValue D) (before after : Option History) → KeepsInstances old new before after → AreHeld rows new.instances.known → HoldsInstances rows old before → HoldsInstances rows new after
instances_then rows old new before after keeps held h = record {
  known = All-weaker (IsKnownRow old.instances.known) (IsKnownRow new.instances.known) keeps.known rows h.known;
  held = held;
  first = first_rows rows old.instances.known new.instances.known before after h.known keeps.first h.first;
  few = h.few;
}

attached_then : {D : Type 0} → (name : List ℕ) (time : ℕ) (parts : SavedParts) (old new : StoreValue D) (before after : Option History) → KeepsInstances old new before after → AreHeld parts.rows new.instances.known → IsAttached name time parts old before → IsAttached name time parts new after
attached_then name time parts old new before after keeps held is =
    let a = is.0.2 in
    ((is.0.0, is.0.1, record { prepared = a.prepared; form = a.form; laid = a.laid; found = of_parts_kept parts.rows a.prepared.parts old new before after keeps a.found; one_each = a.one_each }), held)

pub other_left : {D : Type 0} → (now next other : SaveStage) (name theirs : List ℕ) (time times size : ℕ) (answer : Progress) (how : Did) (old new : StoreValue D) (before after : Option History) (began ended : Faults) → Turn now next other name time size answer how old new before after began ended
    → ((id : InstId) → save_holds next id ≤ 65535) → HasLeft other theirs times old before → HasLeft other theirs times new after
other_left now next (stage.First prepared) name theirs time times size answer how old new before after began ended t few left =
    (left.0, λ id. room_then (holders_in id new.instances.known) (save_holds next id) 0 (length prepared.parts) (held_then now next (stage.First prepared) name time size answer how old new before after began ended t id) (few id) (none_yet (length prepared.parts) (parts_few left.0.0 prepared left.0.1 left.0.2)))
  where
    none_yet : (n : ℕ) → n ≤ 512 → 0 + n ≤ 512
    none_yet n le = omega (arith, le)
other_left now next (stage.Attaching parts attaching) name theirs time times size answer how old new before after began ended t few left =
    let sum = held_then now next (stage.Attaching parts attaching) name time size answer how old new before after began ended t in
    let held : AreHeld attaching.found new.instances.known = λ id. other_held (holders_in id new.instances.known) (save_holds next id) (holds_of attaching.found id) (sum id) in
    let a = left.0.2 in
    let some = attached_few theirs times parts attaching old before left.0 left.1 in (
      (left.0.0, left.0.1, record { prepared = a.prepared; form = a.form; parts_are = a.parts_are; laid = a.laid; found = goes_on attaching old new before after (t.says.instances t.runs) held a.found }),
      left.1,
      λ id. room_then (holders_in id new.instances.known) (save_holds next id) (holds_of attaching.found id) (parts_left attaching) (sum id) (few id) (within (holds_of attaching.found id) (length attaching.found) (parts_left attaching) (holds_few attaching.found id) some),
    )
  where
    within : (held found rest : ℕ) → held ≤ found → found + rest ≤ 512 → held + rest ≤ 512
    within held found rest a b = omega (arith, a, b)
other_left now next (stage.Taking parts) name theirs time times size answer how old new before after began ended t few left =
    let sum = held_then now next (stage.Taking parts) name time size answer how old new before after began ended t in
    attached_then theirs times parts old new before after (t.says.instances t.runs) (λ id. other_held (holders_in id new.instances.known) (save_holds next id) (holds_of parts.rows id) (sum id)) left
other_left now next (stage.Placing parts file) name theirs time times size answer how old new before after began ended t few left =
    let sum = held_then now next (stage.Placing parts file) name time size answer how old new before after began ended t in (
      attached_then theirs times parts old new before after (t.says.instances t.runs) (λ id. other_held (holders_in id new.instances.known) (save_holds next id) (holds_of parts.rows id) (sum id)) left.0,
      t.says.others.files file.0 (length parts.laid.region) (λ own. t.apart file.0 own refl) left.1,
    )
other_left now next (stage.Storing at rows room) name theirs time times size answer how old new before after began ended t few left =
    let sum = held_then now next (stage.Storing at rows room) name time size answer how old new before after began ended t in (
      t.says.others.regions at (λ own. t.apart at.file.0 own refl) left.0,
      left.1,
      instances_then rows old new before after (t.says.instances t.runs) (λ id. other_held (holders_in id new.instances.known) (save_holds next id) (holds_of rows id) (sum id)) left.2,
    )
other_left now next (stage.Adding added room) name theirs time times size answer how old new before after began ended t few left =
    let kept = t.says.spared t.runs added.map_uid.0 left.0.0 left.0.1 in
    let sum = due_then now next (stage.Adding added room) name time size answer how old new before after began ended t added.map_uid.0 in
    ((kept.now, kept.there, kept.guid ∙ left.0.2), one_due_then (due_at added.map_uid.0 new) (save_dues next added.map_uid.0) (save_dues (stage.Adding added room) added.map_uid.0) sum (one_of_own added.map_uid.0), left.2)
other_left now next (stage.GivingBack uid why room) name theirs time times size answer how old new before after began ended t few left =
    let sum = due_then now next (stage.GivingBack uid why room) name time size answer how old new before after began ended t uid.0 in
    (one_due_then (due_at uid.0 new) (save_dues next uid.0) (save_dues (stage.GivingBack uid why room) uid.0) sum (one_of_own uid.0), left.1, left.2)
other_left now next stage.Ended name theirs time times size answer how old new before after began ended t few left = absurd left

-- ---- no file was taken by both

-- a file that the other has is taken
own_taken : {D : Type 0} → (other : SaveStage) (name : List ℕ) (time : ℕ) (store : StoreValue D) (history : Option History) → HasLeft other name time store history → (number : ℕ) → IsOwnFile other number → is_taken_in number store.files.files ≡ true
own_taken (stage.Placing parts file) name time store history left number own = ap (λ (n : ℕ). is_taken_in n store.files.files) own ∙ left.1.taken
own_taken (stage.Storing at rows room) name time store history left number own = ap (λ (n : ℕ). is_taken_in n store.files.files) own ∙ left.0.taken
own_taken other name time store history left number own = absurd own

pub apart_then : {D : Type 0} → (now next other : SaveStage) (name theirs : List ℕ) (time times size : ℕ) (answer : Progress) (how : Did) (old new : StoreValue D) (before after : Option History) (began ended : Faults) → answer ≡ progress.More
    → Turn now next other name time size answer how old new before after began ended → HasLeft other theirs times old before → AreApart next other
apart_then now next other name theirs time times size answer how old new before after began ended more t left number mine own =
    elim (own_before now next name time size old new (subst (λ (a : Progress). SaveEffects now next name time size a old new) more t.says.effects) number mine) [
      | inl before ↦ t.apart number before own
      | inr free ↦ false≢true (sym free ∙ own_taken other theirs times old before left number own)
    ]

-- ---- where the other goes on, or has ended

pub goes_then : {D : Type 0} → (now next other : SaveStage) (name theirs : List ℕ) (time times size : ℕ) (answer : Progress) (how : Did) (old new : StoreValue D) (before after : Option History) (began ended : Faults) (Replied : Type 0) → Turn now next other name time size answer how old new before after began ended
    → ((id : InstId) → save_holds next id ≤ 65535) → HasLeft other theirs times old before ⊎ ((other ≡ stage.Ended) × Replied) → HasLeft other theirs times new after ⊎ ((other ≡ stage.Ended) × Replied)
goes_then now next other name theirs time times size answer how old new before after began ended Replied t few (inl left) = inl (other_left now next other name theirs time times size answer how old new before after began ended t few left)
goes_then now next other name theirs time times size answer how old new before after began ended Replied t few (inr done) = inr done

pub apart_from : {D : Type 0} → (now next other : SaveStage) (name theirs : List ℕ) (time times size : ℕ) (answer : Progress) (how : Did) (old new : StoreValue D) (before after : Option History) (began ended : Faults) (Replied : Type 0) → answer ≡ progress.More
    → Turn now next other name time size answer how old new before after began ended → HasLeft other theirs times old before ⊎ ((other ≡ stage.Ended) × Replied) → AreApart next other
apart_from now next other name theirs time times size answer how old new before after began ended Replied more t (inl left) = apart_then now next other name theirs time times size answer how old new before after began ended more t left
apart_from now next other name theirs time times size answer how old new before after began ended Replied more t (inr done) = λ number mine own. let none : IsOwnFile stage.Ended number = subst (λ (s : SaveStage). IsOwnFile s number) done.0 own in none
