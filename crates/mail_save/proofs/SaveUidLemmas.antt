-- A delivery leaves to others the messages that they copy or move: a mailbox lists no other one under their UIDs.
use Rattle.mail_save.proofs.Common.{◌≡◌, ◌≤◌, ◌<◌, ◌==◌, ℕ, Bool, true, false, cond, List, [], ◌∷◌, Option, Some, None, refl, sym, ◌∙◌, ap, subst, arith, inl, inr, length, find, option_map, option_or, ne_eqb, BoxEntry, InstRow, Uid, Progress, Refusal, meanings_by, LogRow, BoxMeaning, box_applied}
use Rattle.mail_save.proofs.Common.{MapBox, AttachingValue, KeepsUids, StoreValue, indexes_of, entry_added, AddsStored, AttachesNext, AttachesNone, LetsGo, SaveEffects, StoresNone, TakesNone, Added, SaveStage}
use Rattle.std.specs.Prelude.{◌⊎◌}
use Rattle.std.specs.Option.{IfSome}
use Rattle.std.proofs.lemmas.List.Folds.{find-append}
use Rattle.mdbox_base.specs.declared.progress.Progress.TheVariants as progress
use Rattle.mdbox_base.specs.declared.replies.Refusal.TheVariants as refusal
use Rattle.mdbox_base.specs.declared.replies.Reply.TheVariants as reply
use Rattle.model_meaning.specs.BoxMeaning.{row_at}
use Rattle.model_meaning.proofs.AppliedLemmas.{rows_by_added}
use Rattle.model_store.specs.Listing.{meaning_numbered}
use Rattle.store_core.specs.Keeping.{KeepsUid}
use Rattle.store_core.specs.Value.{list_numbered}
use Rattle.mail_save.specs.declared.task.SaveStage.TheVariants as stage
use Rattle.mail_save.proofs.SaveNumberLemmas.{DrawsNumbers}

-- ---- the mailbox that lists a message more

-- what the log of a mailbox means, with an entry more in the log of this one or of another
numbered_by : (other number : ℕ) (e : BoxEntry) (boxes : List MapBox) (meanings : List BoxMeaning) (to : BoxMeaning) → meaning_numbered number boxes meanings ≡ Some to
    → (meaning_numbered other boxes (meanings_by number e boxes meanings) ≡ meaning_numbered other boxes meanings) ⊎ ((meaning_numbered other boxes meanings ≡ Some to) × (meaning_numbered other boxes (meanings_by number e boxes meanings) ≡ Some (box_applied e to)))
numbered_by other number e [] [] to is = inl refl
numbered_by other number e [] (x ∷ xs) to is = inl refl
numbered_by other number e (b ∷ bs) [] to is = inl refl
numbered_by other number e (b ∷ bs) (x ∷ xs) to is = by_number (λ k. numbered_by other number e bs xs to k) (b.number == number) is
  where
    Says : List BoxMeaning → Type 0
    Says ms = (meaning_numbered other (b ∷ bs) ms ≡ meaning_numbered other (b ∷ bs) (x ∷ xs)) ⊎ ((meaning_numbered other (b ∷ bs) (x ∷ xs) ≡ Some to) × (meaning_numbered other (b ∷ bs) ms ≡ Some (box_applied e to)))

    here : (s : Bool) → Some x ≡ Some to → (cond s (Some (box_applied e x)) (meaning_numbered other bs xs) ≡ cond s (Some x) (meaning_numbered other bs xs)) ⊎ ((cond s (Some x) (meaning_numbered other bs xs) ≡ Some to) × (cond s (Some (box_applied e x)) (meaning_numbered other bs xs) ≡ Some (box_applied e to)))
    here true same = inr (same, ap (option_map (box_applied e)) same)
    here false same = inl refl

    there : (s : Bool) → (meaning_numbered other bs (meanings_by number e bs xs) ≡ meaning_numbered other bs xs) ⊎ ((meaning_numbered other bs xs ≡ Some to) × (meaning_numbered other bs (meanings_by number e bs xs) ≡ Some (box_applied e to)))
        → (cond s (Some x) (meaning_numbered other bs (meanings_by number e bs xs)) ≡ cond s (Some x) (meaning_numbered other bs xs)) ⊎ ((cond s (Some x) (meaning_numbered other bs xs) ≡ Some to) × (cond s (Some x) (meaning_numbered other bs (meanings_by number e bs xs)) ≡ Some (box_applied e to)))
    there true rest = inl refl
    there false rest = rest

    by_number : (meaning_numbered number bs xs ≡ Some to → (meaning_numbered other bs (meanings_by number e bs xs) ≡ meaning_numbered other bs xs) ⊎ ((meaning_numbered other bs xs ≡ Some to) × (meaning_numbered other bs (meanings_by number e bs xs) ≡ Some (box_applied e to))))
        → (t : Bool) → cond t (Some x) (meaning_numbered number bs xs) ≡ Some to → Says (cond t (box_applied e x ∷ xs) (x ∷ meanings_by number e bs xs))
    by_number rest true k = here (b.number == other) k
    by_number rest false k = there (b.number == other) (rest k)

none_behind : (t : Bool) (found : Option LogRow) (new row : LogRow) → t ≡ false → option_or found (cond t (Some new) None) ≡ Some row → found ≡ Some row
none_behind true found new row e there = absurd (let k : true ≡ false = e in cc k)
none_behind false (Some r) new row e there = there
none_behind false None new row e there = there

-- a message with a UID below the next one was listed
listed_before : (given : Uid) (added : Added) (m : BoxMeaning) (uid : ℕ) (row : LogRow) → given.0 ≡ m.next → uid < m.next → row_at (box_applied (entry_added given added) m) uid ≡ Some row → row_at m uid ≡ Some row
listed_before given added m uid row next below there =
    none_behind (given.0 == uid) (find (λ r. r.uid == uid) m.rows) new row (ne_eqb given.0 uid (λ e. omega (arith, e, next, below)))
    (sym (ap (find (λ r. r.uid == uid)) (rows_by_added given 0 added.time added.size added.map_uid added.guid [] m.rows) ∙ find-append (λ r. r.uid == uid) m.rows (new ∷ [])) ∙ there)
  where
    new : LogRow
    new = record { uid = given.0; flags = 0; time = added.time; size = added.size; map_uid = added.map_uid.0; guid = added.guid.0; words = [] }

-- ---- no log of a mailbox has changed

abbrev IsBelow : ℕ → BoxMeaning → Type 0
IsBelow uid m = uid < m.next

abbrev ListsOnly : ℕ → ℕ → BoxMeaning → Type 0
ListsOnly uid held m = (row : LogRow) → row_at m uid ≡ Some row → row.map_uid ≡ held

uid_stays : {D : Type 0} → (number uid held : ℕ) (old new : StoreValue D) → old.map.highest.mailbox ≤ new.map.highest.mailbox → list_numbered new number ≡ list_numbered old number → KeepsUid number uid held old → KeepsUid number uid held new
uid_stays number uid held old new more same k =
    let given : number ≤ old.map.highest.mailbox = k.given in
    record {
      given = omega (arith, given, more);
      below = subst (λ (o : Option BoxMeaning). IfSome o (IsBelow uid)) (sym same) k.below;
      same = subst (λ (o : Option BoxMeaning). IfSome o (ListsOnly uid held)) (sym same) k.same;
    }

logs_stay : {D : Type 0} → (old new : StoreValue D) → DrawsNumbers old new → indexes_of new.boxes ≡ indexes_of old.boxes → KeepsUids old new
logs_stay old new draws indexes = λ number uid held k.
    uid_stays number uid held old new draws.mailboxes (ap (λ (bs : List MapBox). meaning_numbered number bs (indexes_of new.boxes)) draws.boxes ∙ ap (meaning_numbered number old.map.boxes) indexes) k

-- ---- by event

added_stays : {D : Type 0} → (name : List ℕ) (added : Added) (given : Uid) (old new : StoreValue D) → DrawsNumbers old new → AddsStored name added given old new → KeepsUids old new
added_stays name added given old new draws a = λ number uid held k. by_case number uid held k (numbered_by number a.number.0 entry old.map.boxes (indexes_of old.boxes) to a.room.numbered)
  where
    entry : BoxEntry
    entry = entry_added given added

    to : BoxMeaning
    to = a.room.mailbox

    later : List BoxMeaning
    later = meanings_by a.number.0 entry old.map.boxes (indexes_of old.boxes)

    as_numbered : (number : ℕ) → list_numbered new number ≡ meaning_numbered number old.map.boxes later
    as_numbered number = ap (λ (bs : List MapBox). meaning_numbered number bs (indexes_of new.boxes)) draws.boxes ∙ ap (meaning_numbered number old.map.boxes) a.taken

    by_case : (number uid held : ℕ) (k : KeepsUid number uid held old) → (meaning_numbered number old.map.boxes later ≡ list_numbered old number) ⊎ ((list_numbered old number ≡ Some to) × (meaning_numbered number old.map.boxes later ≡ Some (box_applied entry to))) → KeepsUid number uid held new
    by_case number uid held k (inl same) = uid_stays number uid held old new draws.mailboxes (as_numbered number ∙ same) k
    by_case number uid held k (inr own) =
        let numbered : number ≤ old.map.highest.mailbox = k.given in
        let more = draws.mailboxes in
        let below : uid < to.next = subst (λ (o : Option BoxMeaning). IfSome o (IsBelow uid)) own.0 k.below in
        let only : ListsOnly uid held to = subst (λ (o : Option BoxMeaning). IfSome o (ListsOnly uid held)) own.0 k.same in
        let at = sym (as_numbered number ∙ own.1) in
        record {
          given = omega (arith, numbered, more);
          below = subst (λ (o : Option BoxMeaning). IfSome o (IsBelow uid)) at (omega (arith, below));
          same = subst (λ (o : Option BoxMeaning). IfSome o (ListsOnly uid held)) at (λ row there. only row (listed_before given added to uid row a.room.next below there));
        }

untaken_indexes : {D : Type 0} → (size : ℕ) (why : Refusal) (old new : StoreValue D) → TakesNone size why old new → indexes_of new.boxes ≡ indexes_of old.boxes
untaken_indexes size why old new (inl k) = ap (λ v. indexes_of v.boxes) k.1
untaken_indexes size why old new (inr (inl k)) = ap (λ v. indexes_of v.boxes) k.1.same
untaken_indexes size why old new (inr (inr k)) = ap (λ v. indexes_of v.boxes) k.1.same

unstored_indexes : {D : Type 0} → (at : _) (why : Refusal) (old new : StoreValue D) → StoresNone at why old new → indexes_of new.boxes ≡ indexes_of old.boxes
unstored_indexes at why old new (inl k) = k.1.indexes
unstored_indexes at why old new (inr k) = ap (λ v. indexes_of v.boxes) k.1.same

-- an instance was found for an attachment, or compared with it
attached_indexes : {D : Type 0} → (attaching more : AttachingValue) (old new : StoreValue D) → AttachesNext attaching more old new → indexes_of new.boxes ≡ indexes_of old.boxes
attached_indexes attaching more old new (inl k) = ap (λ v. indexes_of v.boxes) k.same
attached_indexes attaching more old new (inr k) = ap (λ v. indexes_of v.boxes) k.same

unattached_indexes : {D : Type 0} → (attaching : AttachingValue) (why : Refusal) (old new : StoreValue D) → AttachesNone attaching why old new → indexes_of new.boxes ≡ indexes_of old.boxes
unattached_indexes attaching refusal.Stopped old new k = ap (λ v. indexes_of v.boxes) k.2
unattached_indexes attaching refusal.ReadFault old new k = ap (λ v. indexes_of v.boxes) k.1
unattached_indexes attaching why old new k = ap (λ v. indexes_of v.boxes) k.1

-- instances were let go then
let_go_stays : {D : Type 0} → (found : List InstRow) (old left new : StoreValue D) → DrawsNumbers old new → LetsGo found left new → indexes_of left.boxes ≡ indexes_of old.boxes → KeepsUids old new
let_go_stays found old left new draws gone indexes = logs_stay old new draws (ap (λ v. indexes_of v.boxes) gone ∙ indexes)

pub uids_stay : {D : Type 0} → (now next : SaveStage) (name : List ℕ) (time size : ℕ) (answer : Progress) (old new : StoreValue D) → DrawsNumbers old new → SaveEffects now next name time size answer old new → KeepsUids old new
uids_stay (stage.First prepared) (stage.Attaching parts attaching) name time size progress.More old new draws e = logs_stay old new draws (ap (λ v. indexes_of v.boxes) e.0)
uids_stay (stage.First prepared) (stage.Taking parts) name time size progress.More old new draws e = logs_stay old new draws (ap (λ v. indexes_of v.boxes) e.0)
uids_stay (stage.First prepared) stage.Ended name time size (progress.Done (reply.Refused why)) old new draws e = logs_stay old new draws (ap (λ v. indexes_of v.boxes) e)
uids_stay (stage.Attaching parts attaching) (stage.Attaching laid more) name time size progress.More old new draws e = logs_stay old new draws (attached_indexes attaching more old new e.1)
uids_stay (stage.Attaching parts attaching) (stage.Taking named) name time size progress.More old new draws e = logs_stay old new draws (attached_indexes attaching e.0 old new e.1)
uids_stay (stage.Attaching parts attaching) stage.Ended name time size (progress.Done (reply.Refused why)) old new draws e = let_go_stays attaching.found old e.0 new draws e.2 (unattached_indexes attaching why old e.0 e.1)
uids_stay (stage.Taking parts) (stage.Placing laid file) name time size progress.More old new draws e = logs_stay old new draws (ap (λ v. indexes_of v.boxes) e.1.same)
uids_stay (stage.Taking parts) stage.Ended name time size (progress.Done (reply.Refused why)) old new draws e = let_go_stays parts.rows old e.0 new draws e.2 (untaken_indexes (length parts.laid.region) why old e.0 e.1)
uids_stay (stage.Placing parts file) (stage.Storing at rows room) name time size progress.More old new draws e = logs_stay old new draws (ap (λ v. indexes_of v.boxes) e.same)
uids_stay (stage.Placing parts file) stage.Ended name time size (progress.Done (reply.Refused why)) old new draws e = let_go_stays parts.rows old e.0 new draws e.2 e.1.indexes
uids_stay (stage.Storing at rows room) (stage.Adding added left) name time size progress.More old new draws e = let_go_stays rows old e.0 new draws e.2 (ap (λ v. indexes_of v.boxes) e.1.same)
uids_stay (stage.Storing at rows room) stage.Ended name time size (progress.Done (reply.Refused why)) old new draws e = let_go_stays rows old e.0 new draws e.2 (unstored_indexes at why old e.0 e.1)
uids_stay (stage.Adding added room) stage.Ended name time size (progress.Done (reply.Saved uid guid)) old new draws e = added_stays name added uid old new draws e.1
uids_stay (stage.Adding added room) stage.Ended name time size (progress.Done (reply.Refused why)) old new draws e = logs_stay old new draws e.indexes
uids_stay (stage.Adding added room) (stage.GivingBack uid why left) name time size progress.More old new draws e = logs_stay old new draws (ap (λ v. indexes_of v.boxes) e.1)
uids_stay (stage.GivingBack uid why room) stage.Ended name time size (progress.Done (reply.Refused given)) old new draws (inl e) = logs_stay old new draws (ap (λ v. indexes_of v.boxes) e.1.same)
uids_stay (stage.GivingBack uid why room) stage.Ended name time size (progress.Done (reply.Refused given)) old new draws (inr e) = logs_stay old new draws e.1.indexes
uids_stay now next name time size answer old new draws e = absurd e
