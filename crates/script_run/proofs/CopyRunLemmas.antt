-- A copy or a move alone finds its source by name as by number: no other event changes the mailboxes of the map, so it never begins
-- again, and its parts come at one place each.
use Rattle.std.specs.Prelude.{◌≡◌, ◌≤◌, ◌<◌, ◌==◌, ◌++◌, ◌||◌, ℕ, zero, suc, nat_lt, Bool, true, false, not, cond, List, [], ◌∷◌, ◌⊎◌, All, AllPairs, filter, find, flat_map, fold, if◌then◌else◌, is_some, length, option_and_then, slice_get, take, Option, Some, None}
use Rattle.std.specs.List.{AllByRecursion}
use Rattle.std.specs.Option.{option_map_or, option_or}
use Rattle.std.specs.Str.{bytes_eq}
use Rattle.std.proofs.Common.{refl, sym, ◌∙◌, ap, subst, arith, inl, inr}
use Rattle.std.proofs.lemmas.Bool.{cases_lt}
use Rattle.std.proofs.lemmas.Grind.{common_steps}
use Rattle.std.proofs.lemmas.List.Elements.{All-head, All-tail}
use Rattle.std.proofs.lemmas.Slice.Eq.{bytes_eq-Decides}
use Rattle.disk_model.specs.Disk.{Faults}
use Rattle.mdbox_base.specs.declared.entries.Highest.{Highest}
use Rattle.mdbox_base.specs.declared.entries.MapEntry.{MapEntry}
use Rattle.mdbox_base.specs.declared.entries.MapEntry.TheVariants as map_entry
use Rattle.mdbox_base.specs.declared.ids.MapUid.{MapUid}
use Rattle.mdbox_base.specs.declared.ids.Uid.{Uid}
use Rattle.mdbox_base.specs.declared.replies.Refusal.{Refusal}
use Rattle.mdbox_base.specs.declared.replies.Refusal.TheVariants as refusal
use Rattle.mdbox_base.specs.declared.replies.Reply.{Reply}
use Rattle.mdbox_base.specs.declared.requests.Request.{Request}
use Rattle.mdbox_base.specs.declared.requests.Request.TheVariants as request
use Rattle.model_octets.proofs.PairLemmas.{pairs_head, pairs_tail}
use Rattle.model_lists.specs.Lists.{AreWellFormed, ListedMessage, Lists, Mailbox, change_first}
use Rattle.model_meaning.specs.BoxMeaning.{BoxMeaning}
use Rattle.model_meaning.specs.MapMeaning.{MapBox, MapMeaning, box_named, map_applied, map_meaning}
use Rattle.model_meaning.proofs.AppliedLemmas.{boxes_by_raised}
use Rattle.model_meaning.proofs.MapLemmas.{map_more}
use Rattle.model_store.specs.Listing.{ShowLists}
use Rattle.list_machine.specs.Machine.{add_last, add_message, expunge, expunge_from, has_name, has_number, is_message_of_uid, mailbox_named, mailbox_numbered, message_at, message_in, message_numbered, without_first}
use Rattle.list_machine.specs.Run.{BoxAppend, EventPart, First, GivesBack, Last, SecondHalf, StartsOver, Run, RunEvent, before, map_of, own_events, source_of, uid_added, uid_in}
use Rattle.journal.specs.Events.{Around, DidCopy, DidPart, behind_addition, behind_copy, behind_event, behind_move, ends_with_count, is_elsewhere, last_refusal}
use Rattle.journal.specs.Journal.{Broken, JournalStep, left_by}
use Rattle.journal.specs.Makes.{AreNextEvents, IsServed, lists_before}
use Rattle.script_run.specs.One.{alone}
use Rattle.script_run.specs.Opening.{LogsShowLists}
use Rattle.script_run.proofs.AloneLemmas.{own_event}
use Rattle.script_run.proofs.PartLemmas.{own_test, part_after, part_first, some_part}

-- ---- a mailbox by its name and by its number

-- the tests agree at each mailbox
abbrev pub NamesNumber : List ℕ → ℕ → Lists → Type 0
NamesNumber name number lists = AllByRecursion (λ mailbox. has_name name mailbox ≡ has_number number mailbox) lists

unlike : (a b : List ℕ) → (b ≡ a → ⊥) → bytes_eq b a ≡ false
unlike a b differ = by_test (bytes_eq b a) refl
  where
    by_test : (t : Bool) → bytes_eq b a ≡ t → bytes_eq b a ≡ false
    by_test true t = absurd (differ ((bytes_eq-Decides b a).0 t))
    by_test false t = t

above_not : (k n : ℕ) → k < n → (n == k) ≡ false
above_not k n lt = grind (arith, common_steps, lt)

below_not : (k n : ℕ) → k < n → (k == n) ≡ false
below_not k n lt = grind (arith, common_steps, lt)

found_above : (number : ℕ) (name : List ℕ) (lists : Lists) (mailbox : Mailbox) → All (λ y. number < y.number) lists → mailbox_named name lists ≡ Some mailbox → number < mailbox.number
found_above number name [] mailbox all found = absurd (let k : None ≡ Some mailbox = found in cc k)
found_above number name (x ∷ lists) mailbox all found = by_test (has_name name x) found (λ k. found_above number name lists mailbox (All-tail (λ (y : Mailbox). number < y.number) x lists all) k)
  where
    by_test : (b : Bool) → (if b then Some x else find (has_name name) lists) ≡ Some mailbox → (find (has_name name) lists ≡ Some mailbox → number < mailbox.number) → number < mailbox.number
    by_test true k rest =
        let same : x ≡ mailbox = cc k in
        subst (λ (y : Mailbox). number < y.number) same (All-head (λ (y : Mailbox). number < y.number) x lists all)
    by_test false k rest = rest k

none_agree : (name : List ℕ) (number : ℕ) (lists : Lists) → All (λ y. name ≡ y.name → ⊥) lists → All (λ y. number < y.number) lists → NamesNumber name number lists
none_agree name number [] names numbers = tt
none_agree name number (x ∷ lists) names numbers =
    let apart : name ≡ x.name → ⊥ = All-head (λ (y : Mailbox). name ≡ y.name → ⊥) x lists names in
    let above = All-head (λ (y : Mailbox). number < y.number) x lists numbers in (
      unlike name x.name (λ e. apart (sym e)) ∙ sym (above_not number x.number above),
      none_agree name number lists (All-tail (λ (y : Mailbox). name ≡ y.name → ⊥) x lists names) (All-tail (λ (y : Mailbox). number < y.number) x lists numbers),
    )

all_agree : (name : List ℕ) (lists : Lists) (mailbox : Mailbox) → AllPairs (λ a b. a.name ≡ b.name → ⊥) lists → AllPairs (λ a b. a.number < b.number) lists → mailbox_named name lists ≡ Some mailbox → NamesNumber name mailbox.number lists
all_agree name [] mailbox names numbers found = absurd (let k : None ≡ Some mailbox = found in cc k)
all_agree name (x ∷ lists) mailbox names numbers found =
    by_test (has_name name x) refl found (λ k. all_agree name lists mailbox (pairs_tail (λ (a b : Mailbox). a.name ≡ b.name → ⊥) x lists names) (pairs_tail (λ (a b : Mailbox). a.number < b.number) x lists numbers) k)
  where
    above : All (λ y. x.number < y.number) lists
    above = pairs_head (λ (a b : Mailbox). a.number < b.number) x lists numbers

    own_number : (n : ℕ) → (n == n) ≡ true
    own_number n = grind (arith, common_steps)

    by_test : (b : Bool) → has_name name x ≡ b → (if b then Some x else find (has_name name) lists) ≡ Some mailbox → (find (has_name name) lists ≡ Some mailbox → NamesNumber name mailbox.number lists) → (has_name name x ≡ has_number mailbox.number x) × NamesNumber name mailbox.number lists
    by_test true t k rest =
        let same : x ≡ mailbox = cc k in
        let named : x.name ≡ name = (bytes_eq-Decides x.name name).0 t in
        subst (λ (y : Mailbox). (has_name name x ≡ has_number y.number x) × NamesNumber name y.number lists) same (
          t ∙ sym (own_number x.number),
          none_agree name x.number lists (subst (λ (n : List ℕ). All (λ y. n ≡ y.name → ⊥) lists) named (pairs_head (λ (a b : Mailbox). a.name ≡ b.name → ⊥) x lists names)) above,
        )
    by_test false t k rest = let lt = found_above x.number name lists mailbox above k in (t ∙ sym (below_not x.number mailbox.number lt), rest k)

pub names_number : (name : List ℕ) (lists : Lists) (mailbox : Mailbox) → AreWellFormed lists → mailbox_named name lists ≡ Some mailbox → NamesNumber name mailbox.number lists
names_number name lists mailbox formed found = all_agree name lists mailbox formed.names formed.numbers found

-- so they find the same message, and it leaves the same mailbox
found_alike : (name : List ℕ) (number : ℕ) (lists : Lists) → NamesNumber name number lists → mailbox_numbered number lists ≡ mailbox_named name lists
found_alike name number [] agree = refl
found_alike name number (x ∷ lists) agree = rw agree.0 (ap (λ (o : Option Mailbox). if has_number number x then Some x else o) (found_alike name number lists agree.1))

pub message_alike : (name : List ℕ) (number uid : ℕ) (lists : Lists) → NamesNumber name number lists → message_numbered number uid lists ≡ message_at name uid lists
message_alike name number uid lists agree = ap (option_and_then (message_in uid)) (found_alike name number lists agree)

changed_alike : (name : List ℕ) (number : ℕ) (change : Mailbox → Mailbox) (lists : Lists) → NamesNumber name number lists → change_first (has_number number) change lists ≡ change_first (has_name name) change lists
changed_alike name number change [] agree = refl
changed_alike name number change (x ∷ lists) agree = rw agree.0 (ap (λ (ls : Lists). if has_number number x then change x ∷ lists else x ∷ ls) (changed_alike name number change lists agree.1))

pub expunged_alike : (name : List ℕ) (number uid : ℕ) (lists : Lists) → NamesNumber name number lists → expunge_from number uid lists ≡ expunge name uid lists
expunged_alike name number uid lists agree = changed_alike name number (λ mailbox. record mailbox { messages = without_first (is_message_of_uid uid) mailbox.messages }) lists agree

-- a message more leaves names and numbers
pub agree_with_more : (name : List ℕ) (number : ℕ) (target : List ℕ) (message : ListedMessage) (lists : Lists) → NamesNumber name number lists → NamesNumber name number (add_message target message lists)
agree_with_more name number target message [] agree = tt
agree_with_more name number target message (x ∷ lists) agree = by_test (has_name target x) (agree_with_more name number target message lists agree.1)
  where
    by_test : (b : Bool) → NamesNumber name number (add_message target message lists) → NamesNumber name number (if b then add_last message x ∷ lists else x ∷ add_message target message lists)
    by_test true rest = (agree.0, agree.1)
    by_test false rest = (agree.0, rest)

-- ---- what may come behind an event

-- which part may come behind one of this part, that was refused or wasn't
record BehindSo (elsewhere ends : Bool) (refused : Option Refusal) (part next : EventPart) : Type 0 where
  first : next ≡ First → (refused ≡ None) × (part ≡ GivesBack) × (ends ≡ false)
  over : next ≡ StartsOver → (refused ≡ None) × (part ≡ First) × (elsewhere ≡ true)
  last : next ≡ Last → (refused ≡ None) × (part ≡ First)
  half : next ≡ SecondHalf → (refused ≡ None) × (part ≡ Last)
  back : next ≡ GivesBack → (is_some refused ≡ true) ⊎ ((part ≡ StartsOver) ⊎ (part ≡ SecondHalf))

so_first : (elsewhere ends : Bool) (next : EventPart) → First ≡ next → ends ≡ false → BehindSo elsewhere ends None GivesBack next
so_first elsewhere ends next k f = record {
  first = λ e. (refl, refl, f);
  over = λ e. absurd (cc (k ∙ e));
  last = λ e. absurd (cc (k ∙ e));
  half = λ e. absurd (cc (k ∙ e));
  back = λ e. absurd (cc (k ∙ e));
}

so_over : (elsewhere ends : Bool) (next : EventPart) → StartsOver ≡ next → elsewhere ≡ true → BehindSo elsewhere ends None First next
so_over elsewhere ends next k t = record {
  first = λ e. absurd (cc (k ∙ e));
  over = λ e. (refl, refl, t);
  last = λ e. absurd (cc (k ∙ e));
  half = λ e. absurd (cc (k ∙ e));
  back = λ e. absurd (cc (k ∙ e));
}

so_last : (elsewhere ends : Bool) (next : EventPart) → Last ≡ next → BehindSo elsewhere ends None First next
so_last elsewhere ends next k = record {
  first = λ e. absurd (cc (k ∙ e));
  over = λ e. absurd (cc (k ∙ e));
  last = λ e. (refl, refl);
  half = λ e. absurd (cc (k ∙ e));
  back = λ e. absurd (cc (k ∙ e));
}

so_half : (elsewhere ends : Bool) (next : EventPart) → SecondHalf ≡ next → BehindSo elsewhere ends None Last next
so_half elsewhere ends next k = record {
  first = λ e. absurd (cc (k ∙ e));
  over = λ e. absurd (cc (k ∙ e));
  last = λ e. absurd (cc (k ∙ e));
  half = λ e. (refl, refl);
  back = λ e. absurd (cc (k ∙ e));
}

so_back : (elsewhere ends : Bool) (refused : Option Refusal) (part next : EventPart) → GivesBack ≡ next → (is_some refused ≡ true) ⊎ ((part ≡ StartsOver) ⊎ (part ≡ SecondHalf)) → BehindSo elsewhere ends refused part next
so_back elsewhere ends refused part next k why = record {
  first = λ e. absurd (cc (k ∙ e));
  over = λ e. absurd (cc (k ∙ e));
  last = λ e. absurd (cc (k ∙ e));
  half = λ e. absurd (cc (k ∙ e));
  back = λ e. why;
}

copy_so : (elsewhere ends : Bool) (part next : EventPart) → behind_copy elsewhere ends part ≡ Some next → BehindSo elsewhere ends None part next
copy_so true ends First next is = so_over true ends next (some_part StartsOver next is) refl
copy_so false ends First next is = so_last false ends next (some_part Last next is)
copy_so elsewhere ends StartsOver next is = so_back elsewhere ends None StartsOver next (some_part GivesBack next is) (inr (inl refl))
copy_so elsewhere true GivesBack next is = absurd (let z : None ≡ Some next = is in cc z)
copy_so elsewhere false GivesBack next is = so_first elsewhere false next (some_part First next is) refl
copy_so elsewhere ends part next is = absurd (let z : None ≡ Some next = is in cc z)

move_so : (elsewhere ends : Bool) (event : RunEvent) (part next : EventPart) → behind_move elsewhere ends event part ≡ Some next → BehindSo elsewhere ends None part next
move_so elsewhere ends event Last next is = so_half elsewhere ends next (some_part SecondHalf next is)
move_so elsewhere ends event SecondHalf next is = by_test (nat_lt 0 (length event.box_entries)) is
  where
    by_test : (b : Bool) → (if b then Some GivesBack else None) ≡ Some next → BehindSo elsewhere ends None SecondHalf next
    by_test true k = so_back elsewhere ends None SecondHalf next (some_part GivesBack next k) (inr (inr refl))
    by_test false k = absurd (let z : None ≡ Some next = k in cc z)
move_so elsewhere ends event part next is = copy_so elsewhere ends part next is

addition_so : (elsewhere ends : Bool) (part : EventPart) (why : Refusal) (next : EventPart) → behind_addition part why ≡ Some next → BehindSo elsewhere ends (Some why) part next
addition_so elsewhere ends Last refusal.Stopped next is = absurd (let z : None ≡ Some next = is in cc z)
addition_so elsewhere ends Last why next is = so_back elsewhere ends (Some why) Last next (some_part GivesBack next is) (inl refl)
addition_so elsewhere ends StartsOver refusal.Stopped next is = absurd (let z : None ≡ Some next = is in cc z)
addition_so elsewhere ends StartsOver why next is = so_back elsewhere ends (Some why) StartsOver next (some_part GivesBack next is) (inl refl)
addition_so elsewhere ends part why next is = absurd (let z : None ≡ Some next = is in cc z)

-- ---- the run of a copy or a move alone

-- the request: a move, or a copy
abbrev pub copying : Bool → List ℕ → Uid → List ℕ → Request
copying true name uid target = request.Move name uid target
copying false name uid target = request.Copy name uid target

-- It was served from lists that the logs show.
pub record CopiesAlone (moves : Bool) (name : List ℕ) (uid : Uid) (target : List ℕ) (run : Run) (start : Lists) (journal : List JournalStep) : Type 0 where
  pub around : ℕ → Around
  pub after : ℕ → Around
  pub next : AreNextEvents around after (alone (copying moves name uid target)) start run journal
  pub first : MapMeaning
  pub begins : map_of (before 0 run) ≡ first
  pub meanings : List BoxMeaning
  pub shown : LogsShowLists first meanings start

pub copies_alone : (moves : Bool) (name : List ℕ) (uid : Uid) (target : List ℕ) (start : Lists) (run : Run) (journal : List JournalStep) (broken : Broken) (replies : List (Option Reply)) (old new : Faults) (first m : MapMeaning) (drawn : Highest) (calls : ℕ) (meanings : List BoxMeaning) → LogsShowLists first meanings start
    → IsServed start (alone (copying moves name uid target)) run journal broken replies old new first m drawn calls → CopiesAlone moves name uid target run start journal
copies_alone moves name uid target start run journal broken replies old new first m drawn calls meanings shown s = record { around = s.around; after = s.after; next = s.next; first = first; begins = s.begins.map_is; meanings = meanings; shown = shown }

event_so : (moves : Bool) (name : List ℕ) (uid : Uid) (target : List ℕ) (around : Around) (run : Run) (e : RunEvent) (refused : Option Refusal) (next : EventPart) → behind_event around run (copying moves name uid target) e refused ≡ Some next → BehindSo (is_elsewhere run e.request name) (ends_with_count run e.request) refused e.part next
event_so true name uid target around run e None next is = move_so (is_elsewhere run e.request name) (ends_with_count run e.request) e e.part next is
event_so true name uid target around run e (Some why) next is = addition_so (is_elsewhere run e.request name) (ends_with_count run e.request) e.part why next is
event_so false name uid target around run e None next is = copy_so (is_elsewhere run e.request name) (ends_with_count run e.request) e.part next is
event_so false name uid target around run e (Some why) next is = addition_so (is_elsewhere run e.request name) (ends_with_count run e.request) e.part why next is

-- the event before another, and how it comes behind it
record ComesSo (name : List ℕ) (run : Run) (n : ℕ) (next : EventPart) : Type 0 where
  event : RunEvent
  event_is : slice_get run.events n ≡ Some event
  own : event.request ≡ 0
  so : BehindSo (is_elsewhere (before (suc n) run) 0 name) (ends_with_count (before (suc n) run) 0) event.refused event.part next

comes_so : (moves : Bool) (name : List ℕ) (uid : Uid) (target : List ℕ) (run : Run) (start : Lists) (journal : List JournalStep) → CopiesAlone moves name uid target run start journal → (n : ℕ) (event : RunEvent) → slice_get run.events (suc n) ≡ Some event → ComesSo name run n event.part
comes_so moves name uid target run start journal r n event at =
    let asked : Request = copying moves name uid target in
    let k = part_after r.around r.after start asked run journal r.next n event at in
    let own = (own_event r.around r.after start asked run journal r.next n k.0 k.1).0 in
    record {
      event = k.0;
      event_is = k.1;
      own = own;
      so =
          subst (λ (q : ℕ). BehindSo (is_elsewhere (before (suc n) run) q name) (ends_with_count (before (suc n) run) q) k.0.refused k.0.part event.part) own
          (event_so moves name uid target (r.around (suc n)) (before (suc n) run) k.0 k.0.refused event.part k.2);
    }

-- ---- what its events did

did_first : (moves : Bool) (name : List ℕ) (uid : Uid) (target : List ℕ) (around : Around) (run : Run) (lists : Lists) (event : RunEvent) → DidPart around run lists (copying moves name uid target) event First → DidCopy run lists name uid.0 target event First
did_first true name uid target around run lists event d = d
did_first false name uid target around run lists event d = d

did_last : (moves : Bool) (name : List ℕ) (uid : Uid) (target : List ℕ) (around : Around) (run : Run) (lists : Lists) (event : RunEvent) → DidPart around run lists (copying moves name uid target) event Last → DidCopy run lists name uid.0 target event Last
did_last true name uid target around run lists event d = d
did_last false name uid target around run lists event d = d

-- no step stands before the first event
pub none_before : (journal : List JournalStep) → filter (λ s. nat_lt s.event 0) journal ≡ []
none_before [] = refl
none_before (s ∷ journal) = by_test (nat_lt s.event 0) (none s.event) (none_before journal)
  where
    none : (n : ℕ) → nat_lt n 0 ≡ false
    none n = grind (arith, common_steps)

    by_test : (b : Bool) → b ≡ false → filter (λ (t : JournalStep). nat_lt t.event 0) journal ≡ [] → cond b (s ∷ filter (λ (t : JournalStep). nat_lt t.event 0) journal) (filter (λ (t : JournalStep). nat_lt t.event 0) journal) ≡ []
    by_test true t rest = absurd (cc t)
    by_test false t rest = rest

-- the first found its source by name, and told its number
pub record TellsSource (name : List ℕ) (start : Lists) (event : RunEvent) : Type 0 where
  pub mailbox : Mailbox
  pub named : mailbox_named name start ≡ Some mailbox
  pub raised : MapUid
  pub entries : event.map_entries ≡ map_entry.U raised ∷ []
  pub source_is : event.source ≡ mailbox.number

first_tells : (moves : Bool) (name : List ℕ) (uid : Uid) (target : List ℕ) (run : Run) (start : Lists) (journal : List JournalStep) → CopiesAlone moves name uid target run start journal → (e : RunEvent) → slice_get run.events 0 ≡ Some e → e.refused ≡ None → TellsSource name start e
first_tells moves name uid target run start journal r e at free =
    let asked : Request = copying moves name uid target in
    let own = own_event r.around r.after start asked run journal r.next 0 e at in
    let part = part_first r.around r.after start asked run journal r.next e at in
    let did = did_first moves name uid target (r.around 0) (before 0 run) (lists_before start journal 0) e (subst (λ (p : EventPart). DidPart (r.around 0) (before 0 run) (lists_before start journal 0) asked e p) part (own.1.did free)) in
    record {
      mailbox = did.0;
      named = ap (λ (steps : List JournalStep). mailbox_named name (left_by start steps)) (sym (none_before journal)) ∙ did.2;
      raised = record { 0 = did.1.uid };
      entries = ap (λ (x : RunEvent). x.map_entries) did.4;
      source_is = ap (λ (x : RunEvent). x.source) did.4;
    }

-- the one that adds the message tells its UID, and no source
last_adds : (moves : Bool) (name : List ℕ) (uid : Uid) (target : List ℕ) (run : Run) (start : Lists) (journal : List JournalStep) → CopiesAlone moves name uid target run start journal → (n : ℕ) (e : RunEvent) → slice_get run.events n ≡ Some e → e.part ≡ Last → e.refused ≡ None → (is_some (uid_added e.box_entries) ≡ true) × (e.source ≡ 0)
last_adds moves name uid target run start journal r n e at part free =
    let asked : Request = copying moves name uid target in
    let own = own_event r.around r.after start asked run journal r.next n e at in
    let did = did_last moves name uid target (r.around n) (before n run) (lists_before start journal n) e (subst (λ (p : EventPart). DidPart (r.around n) (before n run) (lists_before start journal n) asked e p) part (own.1.did free)) in
    (ap (λ (x : RunEvent). is_some (uid_added x.box_entries)) did.2.4, ap (λ (x : RunEvent). x.source) did.2.4)

-- ---- the mailboxes of the map by their names

shown_number : (name : List ℕ) (boxes : List MapBox) (meanings : List BoxMeaning) (lists : Lists) (mailbox : Mailbox) (box : MapBox) → ShowLists boxes meanings lists → mailbox_named name lists ≡ Some mailbox → find (λ b. bytes_eq b.name name) boxes ≡ Some box → box.number ≡ mailbox.number
shown_number name [] meanings lists mailbox box shown found there = absurd (let k : None ≡ Some box = there in cc k)
shown_number name (b ∷ boxes) [] lists mailbox box shown found there = absurd shown
shown_number name (b ∷ boxes) (m ∷ meanings) [] mailbox box shown found there = absurd shown
shown_number name (b ∷ boxes) (m ∷ meanings) (x ∷ lists) mailbox box shown found there =
    by_test (bytes_eq b.name name) (subst (λ (t : List ℕ). (if bytes_eq t name then Some x else find (has_name name) lists) ≡ Some mailbox) shown.0.name found) there
    (λ k l. shown_number name boxes meanings lists mailbox box shown.1 k l)
  where
    by_test : (hit : Bool) → (if hit then Some x else find (has_name name) lists) ≡ Some mailbox → (if hit then Some b else find (λ y. bytes_eq y.name name) boxes) ≡ Some box
        → (find (has_name name) lists ≡ Some mailbox → find (λ y. bytes_eq y.name name) boxes ≡ Some box → box.number ≡ mailbox.number) → box.number ≡ mailbox.number
    by_test true k l rest =
        let one : x ≡ mailbox = cc k in
        let other : b ≡ box = cc l in
        sym (ap (λ (y : MapBox). y.number) other) ∙ (sym shown.0.number ∙ ap (λ (y : Mailbox). y.number) one)
    by_test false k l rest = rest k l

take_one : (events : List RunEvent) (e : RunEvent) → slice_get events 0 ≡ Some e → take 1 events ≡ e ∷ []
take_one [] e at = absurd (let k : None ≡ Some e = at in cc k)
take_one (x ∷ rest) e at =
    let k : Some x ≡ Some e = at in
    let same : x ≡ e = cc k in
    ap (λ (y : RunEvent). y ∷ []) same

-- behind its first event the map has the same mailboxes
boxes_kept : (run : Run) (e : RunEvent) (first : MapMeaning) (raised : MapUid) → map_of (before 0 run) ≡ first → slice_get run.events 0 ≡ Some e → e.map_entries ≡ map_entry.U raised ∷ [] → (map_of (before 1 run)).boxes ≡ first.boxes
boxes_kept run e first raised begins at entries =
    let alike : map_of (before 1 run) ≡ map_meaning run.store (run.start ++ map_entry.U raised ∷ []) =
    ap (λ (es : List RunEvent). map_meaning run.store (run.start ++ flat_map (λ x. x.map_entries) es)) (take_one run.events e at)
    ∙ ap (λ (es : List MapEntry). map_meaning run.store (run.start ++ (es ++ []))) entries in
    let more = map_more run.store run.start (map_entry.U raised) in
    let none : map_meaning run.store run.start ≡ map_of (before 0 run) = ap (map_meaning run.store) (sym (nothing_more run.start)) in
    ap (λ (m : MapMeaning). m.boxes) (alike ∙ more ∙ ap (map_applied (map_entry.U raised)) (none ∙ begins)) ∙ boxes_by_raised raised first.boxes
  where
    nothing_more : (es : List MapEntry) → es ++ [] ≡ es
    nothing_more [] = refl
    nothing_more (x ∷ es) = ap (λ (l : List MapEntry). x ∷ l) (nothing_more es)

own_one : (run : Run) (e : RunEvent) → slice_get run.events 0 ≡ Some e → e.request ≡ 0 → own_events 0 (before 1 run) ≡ e ∷ []
own_one run e at own = ap (filter (λ (x : RunEvent). x.request == 0)) (take_one run.events e at) ∙ by_test (e.request == 0) (own_test e.request own)
  where
    by_test : (b : Bool) → b ≡ true → cond b (e ∷ []) [] ≡ e ∷ []
    by_test true t = refl
    by_test false t = absurd (cc t)

raised_source : (n : ℕ) → (if nat_lt 0 n then n else 0) ≡ n
raised_source zero = refl
raised_source (suc n) = by_test (nat_lt 0 (suc n)) (some n)
  where
    some : (k : ℕ) → nat_lt 0 (suc k) ≡ true
    some k = grind (arith, common_steps)

    by_test : (b : Bool) → b ≡ true → (if b then suc n else 0) ≡ suc n
    by_test true t = refl
    by_test false t = absurd (cc t)

source_one : (run : Run) (e : RunEvent) → slice_get run.events 0 ≡ Some e → e.request ≡ 0 → source_of 0 (before 1 run) ≡ e.source
source_one run e at own = ap (λ (es : List RunEvent). fold (λ last x. if nat_lt 0 x.source then x.source else last) 0 es) (own_one run e at own) ∙ raised_source e.source

-- So its name names the mailbox from which it began.
never_elsewhere : (moves : Bool) (name : List ℕ) (uid : Uid) (target : List ℕ) (run : Run) (start : Lists) (journal : List JournalStep) → CopiesAlone moves name uid target run start journal → (e : RunEvent) → slice_get run.events 0 ≡ Some e → e.request ≡ 0 → e.refused ≡ None → is_elsewhere (before 1 run) 0 name ≡ true → ⊥
never_elsewhere moves name uid target run start journal r e at own free is = by_box (box_named (map_of (before 1 run)) name) refl is
  where
    t : TellsSource name start e
    t = first_tells moves name uid target run start journal r e at free

    same_numbers : (a b : ℕ) → a ≡ b → not (a == b) ≡ true → ⊥
    same_numbers a b e k = grind (arith, common_steps, e, k)

    by_box : (o : Option MapBox) → box_named (map_of (before 1 run)) name ≡ o → option_map_or (λ box. not (box.number == source_of 0 (before 1 run))) o false ≡ true → ⊥
    by_box None there k = cc k
    by_box (Some box) there k =
        let found = ap (λ (bs : List MapBox). find (λ b. bytes_eq b.name name) bs) (sym (boxes_kept run e r.first t.raised r.begins at t.entries)) ∙ there in
        same_numbers box.number (source_of 0 (before 1 run)) (shown_number name r.first.boxes r.meanings start t.mailbox box r.shown.1 t.named found ∙ sym (source_one run e at own ∙ t.source_is)) k

-- ---- a count that is given back ends it

some_here : {X : Type 0} → (a b : Option X) → is_some b ≡ true → is_some (option_or a b) ≡ true
some_here (Some x) b some = refl
some_here None b some = some

some_there : {X : Type 0} → (a b : Option X) → is_some a ≡ true → is_some (option_or a b) ≡ true
some_there (Some x) b some = refl
some_there None b some = absurd (cc some)

-- an event of its own was refused
refused_there : (events : List RunEvent) (m k : ℕ) (x : RunEvent) → slice_get events k ≡ Some x → k < m → x.request ≡ 0 → is_some x.refused ≡ true → is_some (last_refusal (filter (λ e. e.request == 0) (take m events))) ≡ true
refused_there [] m k x at lt own refused = absurd (let z : None ≡ Some x = at in cc z)
refused_there (y ∷ events) zero k x at lt own refused = absurd (omega (arith, lt))
refused_there (y ∷ events) (suc m) zero x at lt own refused =
    let z : Some y ≡ Some x = at in
    let same : y ≡ x = cc z in
    by_test (y.request == 0) (own_test y.request (ap (λ (e : RunEvent). e.request) same ∙ own)) (ap (λ (e : RunEvent). is_some e.refused) same ∙ refused)
  where
    by_test : (b : Bool) → b ≡ true → is_some y.refused ≡ true → is_some (last_refusal (cond b (y ∷ filter (λ e. e.request == 0) (take m events)) (filter (λ e. e.request == 0) (take m events)))) ≡ true
    by_test true t some = some_here (last_refusal (filter (λ e. e.request == 0) (take m events))) y.refused some
    by_test false t some = absurd (cc t)
refused_there (y ∷ events) (suc m) (suc k) x at lt own refused = by_test (y.request == 0) (refused_there events m k x at (omega (arith, lt)) own refused)
  where
    by_test : (b : Bool) → is_some (last_refusal (filter (λ e. e.request == 0) (take m events))) ≡ true → is_some (last_refusal (cond b (y ∷ filter (λ e. e.request == 0) (take m events)) (filter (λ e. e.request == 0) (take m events)))) ≡ true
    by_test true some = some_there (last_refusal (filter (λ e. e.request == 0) (take m events))) y.refused some
    by_test false some = some

-- an event of its own has added the message
added_here : (xs ys : List BoxAppend) → is_some (uid_added xs) ≡ true → is_some (uid_added (xs ++ ys)) ≡ true
added_here [] ys some = absurd (cc some)
added_here (x ∷ xs) ys some = by_first (uid_in x.entry) some (λ k. added_here xs ys k)
  where
    by_first : (o : Option ℕ) → is_some (option_or o (uid_added xs)) ≡ true → (is_some (uid_added xs) ≡ true → is_some (uid_added (xs ++ ys)) ≡ true) → is_some (option_or o (uid_added (xs ++ ys))) ≡ true
    by_first (Some n) k rest = refl
    by_first None k rest = rest k

added_behind : (xs ys : List BoxAppend) → is_some (uid_added ys) ≡ true → is_some (uid_added (xs ++ ys)) ≡ true
added_behind [] ys some = some
added_behind (x ∷ xs) ys some = some_here (uid_in x.entry) (uid_added (xs ++ ys)) (added_behind xs ys some)

added_there : (events : List RunEvent) (m k : ℕ) (x : RunEvent) → slice_get events k ≡ Some x → k < m → x.request ≡ 0 → is_some (uid_added x.box_entries) ≡ true → is_some (uid_added (flat_map (λ e. e.box_entries) (filter (λ e. e.request == 0) (take m events)))) ≡ true
added_there [] m k x at lt own adds = absurd (let z : None ≡ Some x = at in cc z)
added_there (y ∷ events) zero k x at lt own adds = absurd (omega (arith, lt))
added_there (y ∷ events) (suc m) zero x at lt own adds =
    let z : Some y ≡ Some x = at in
    let same : y ≡ x = cc z in
    by_test (y.request == 0) (own_test y.request (ap (λ (e : RunEvent). e.request) same ∙ own)) (ap (λ (e : RunEvent). is_some (uid_added e.box_entries)) same ∙ adds)
  where
    by_test : (b : Bool) → b ≡ true → is_some (uid_added y.box_entries) ≡ true → is_some (uid_added (flat_map (λ e. e.box_entries) (cond b (y ∷ filter (λ e. e.request == 0) (take m events)) (filter (λ e. e.request == 0) (take m events))))) ≡ true
    by_test true t some = added_here y.box_entries (flat_map (λ e. e.box_entries) (filter (λ e. e.request == 0) (take m events))) some
    by_test false t some = absurd (cc t)
added_there (y ∷ events) (suc m) (suc k) x at lt own adds = by_test (y.request == 0) (added_there events m k x at (omega (arith, lt)) own adds)
  where
    by_test : (b : Bool) → is_some (uid_added (flat_map (λ e. e.box_entries) (filter (λ e. e.request == 0) (take m events)))) ≡ true → is_some (uid_added (flat_map (λ e. e.box_entries) (cond b (y ∷ filter (λ e. e.request == 0) (take m events)) (filter (λ e. e.request == 0) (take m events))))) ≡ true
    by_test true some = added_behind y.box_entries (flat_map (λ e. e.box_entries) (filter (λ e. e.request == 0) (take m events))) some
    by_test false some = some

either : (a b : Bool) → (a ≡ true) ⊎ (b ≡ true) → (a || b) ≡ false → ⊥
either true b (inl t) none = cc none
either false b (inl t) none = cc t
either true b (inr t) none = cc none
either false true (inr t) none = cc none
either false false (inr t) none = cc t

-- ---- the parts come at one place each

-- up to this place it didn't begin again
record BeginsOnce (run : Run) (n : ℕ) : Type 0 where
  over : (k : ℕ) (event : RunEvent) → k ≤ n → slice_get run.events k ≡ Some event → event.part ≡ StartsOver → ⊥
  first : (k : ℕ) (event : RunEvent) → k ≤ n → slice_get run.events k ≡ Some event → event.part ≡ First → k ≡ 0

up_to : (k n : ℕ) → k ≤ suc n → (k ≤ n) ⊎ (k ≡ suc n)
up_to k n le = elim (cases_lt n k) [
  | inl above ↦ inr (omega (arith, le, above))
  | inr below ↦ inl (omega (arith, below))
]

-- what gives a count back at the end comes behind an addition that was refused, or the second half of a move
never_again : (moves : Bool) (name : List ℕ) (uid : Uid) (target : List ℕ) (run : Run) (start : Lists) (journal : List JournalStep) → CopiesAlone moves name uid target run start journal → (n : ℕ) → ((k : ℕ) (event : RunEvent) → k ≤ n → slice_get run.events k ≡ Some event → event.part ≡ StartsOver → ⊥)
    → (event : RunEvent) → slice_get run.events n ≡ Some event → event.part ≡ GivesBack → ends_with_count (before (suc n) run) 0 ≡ false → ⊥
never_again moves name uid target run start journal r zero over event at part ends = absurd (cc (sym (part_first r.around r.after start (copying moves name uid target) run journal r.next event at) ∙ part))
never_again moves name uid target run start journal r (suc m) over event at part ends =
    let b = comes_so moves name uid target run start journal r m event at in by_back m b at ends over (b.so.back part)
  where
    by_half : (m : ℕ) (e : RunEvent) → slice_get run.events m ≡ Some e → e.part ≡ SecondHalf → ends_with_count (before (suc (suc m)) run) 0 ≡ false → ⊥
    by_half zero e there half none = cc (sym (part_first r.around r.after start (copying moves name uid target) run journal r.next e there) ∙ half)
    by_half (suc l) e there half none =
        let c = comes_so moves name uid target run start journal r l e there in
        let last = c.so.half half in
        let adds = (last_adds moves name uid target run start journal r l c.event c.event_is last.1 last.0).0 in
        either _ _ (inl (added_there run.events (suc (suc (suc l))) l c.event c.event_is (omega arith) c.own adds)) none

    by_back : (m : ℕ) → (b : ComesSo name run m event.part) → slice_get run.events (suc m) ≡ Some event → ends_with_count (before (suc (suc m)) run) 0 ≡ false → ((k : ℕ) (e : RunEvent) → k ≤ suc m → slice_get run.events k ≡ Some e → e.part ≡ StartsOver → ⊥)
        → (is_some b.event.refused ≡ true) ⊎ ((b.event.part ≡ StartsOver) ⊎ (b.event.part ≡ SecondHalf)) → ⊥
    by_back m b there none over (inl refused) = either _ _ (inr (refused_there run.events (suc (suc m)) m b.event b.event_is (omega arith) b.own refused)) none
    by_back m b there none over (inr (inl starts)) = over m b.event (omega arith) b.event_is starts
    by_back m b there none over (inr (inr half)) = by_half m b.event b.event_is half none

begins_still : (moves : Bool) (name : List ℕ) (uid : Uid) (target : List ℕ) (run : Run) (start : Lists) (journal : List JournalStep) → CopiesAlone moves name uid target run start journal → (n : ℕ) → BeginsOnce run n → BeginsOnce run (suc n)
begins_still moves name uid target run start journal r n so_far = record {
  over = λ k event le at part. elim (up_to k n le) [
    | inl below ↦ so_far.over k event below at part
    | inr here ↦ started event (ap (slice_get run.events) (sym here) ∙ at) part
  ];
  first = λ k event le at part. elim (up_to k n le) [
    | inl below ↦ so_far.first k event below at part
    | inr here ↦ absurd (again event (ap (slice_get run.events) (sym here) ∙ at) part)
  ];
}
  where
    at_first : (n : ℕ) (e : RunEvent) → n ≡ 0 → slice_get run.events n ≡ Some e → e.request ≡ 0 → e.refused ≡ None → is_elsewhere (before (suc n) run) 0 name ≡ true → ⊥
    at_first n e none at own free elsewhere = never_elsewhere moves name uid target run start journal r e (ap (slice_get run.events) (sym none) ∙ at) own free (subst (λ (k : ℕ). is_elsewhere (before (suc k) run) 0 name ≡ true) none elsewhere)

    started : (event : RunEvent) → slice_get run.events (suc n) ≡ Some event → event.part ≡ StartsOver → ⊥
    started event at part =
        let b = comes_so moves name uid target run start journal r n event at in
        let k = b.so.over part in
        at_first n b.event (so_far.first n b.event (omega arith) b.event_is k.1) b.event_is b.own k.0 k.2

    again : (event : RunEvent) → slice_get run.events (suc n) ≡ Some event → event.part ≡ First → ⊥
    again event at part =
        let b = comes_so moves name uid target run start journal r n event at in
        let k = b.so.first part in
        never_again moves name uid target run start journal r n so_far.over b.event b.event_is k.1 k.2

begins_once : (moves : Bool) (name : List ℕ) (uid : Uid) (target : List ℕ) (run : Run) (start : Lists) (journal : List JournalStep) → CopiesAlone moves name uid target run start journal → (n : ℕ) → BeginsOnce run n
begins_once moves name uid target run start journal r zero = record {
  over = λ k event le at part.
      let none : k ≡ 0 = omega (arith, le) in
      cc (sym (part_first r.around r.after start (copying moves name uid target) run journal r.next event (ap (slice_get run.events) (sym none) ∙ at)) ∙ part);
  first = λ k event le at part. omega (arith, le);
}
begins_once moves name uid target run start journal r (suc n) = begins_still moves name uid target run start journal r n (begins_once moves name uid target run start journal r n)

-- It begins once, adds its message at the second event, and removes it at the third, if the second wasn't refused.
pub first_place : (moves : Bool) (name : List ℕ) (uid : Uid) (target : List ℕ) (run : Run) (start : Lists) (journal : List JournalStep) → CopiesAlone moves name uid target run start journal → (n : ℕ) (event : RunEvent) → slice_get run.events n ≡ Some event → event.part ≡ First → n ≡ 0
first_place moves name uid target run start journal r n event at part = (begins_once moves name uid target run start journal r n).first n event (omega arith) at part

pub copy_place : (moves : Bool) (name : List ℕ) (uid : Uid) (target : List ℕ) (run : Run) (start : Lists) (journal : List JournalStep) → CopiesAlone moves name uid target run start journal → (n : ℕ) (event : RunEvent) → slice_get run.events n ≡ Some event → event.part ≡ Last → n ≡ 1
copy_place moves name uid target run start journal r zero event at part = absurd (cc (sym (part_first r.around r.after start (copying moves name uid target) run journal r.next event at) ∙ part))
copy_place moves name uid target run start journal r (suc n) event at part =
    let b = comes_so moves name uid target run start journal r n event at in
    ap suc (first_place moves name uid target run start journal r n b.event b.event_is (b.so.last part).1)

-- Where an event is that of the second half, the one before it has copied the message, from the mailbox with this number.
pub record HasCopied (name : List ℕ) (start : Lists) (run : Run) (n : ℕ) : Type 0 where
  pub here : n ≡ 2
  pub event : RunEvent
  pub event_is : slice_get run.events 1 ≡ Some event
  pub part_is : event.part ≡ Last
  pub free : event.refused ≡ None
  pub mailbox : Mailbox
  pub named : mailbox_named name start ≡ Some mailbox
  pub source_is : source_of 0 (before 2 run) ≡ mailbox.number

take_two : (events : List RunEvent) (d e : RunEvent) → slice_get events 0 ≡ Some d → slice_get events 1 ≡ Some e → take 2 events ≡ d ∷ e ∷ []
take_two [] d e at there = absurd (let k : None ≡ Some d = at in cc k)
take_two (x ∷ []) d e at there = absurd (let k : None ≡ Some e = there in cc k)
take_two (x ∷ y ∷ rest) d e at there =
    let k : Some x ≡ Some d = at in
    let l : Some y ≡ Some e = there in
    let one : x ≡ d = cc k in
    let two : y ≡ e = cc l in
    ap (λ (z : RunEvent). z ∷ y ∷ []) one ∙ ap (λ (z : RunEvent). d ∷ z ∷ []) two

source_two : (run : Run) (d e : RunEvent) → slice_get run.events 0 ≡ Some d → slice_get run.events 1 ≡ Some e → d.request ≡ 0 → e.request ≡ 0 → e.source ≡ 0 → source_of 0 (before 2 run) ≡ d.source
source_two run d e at there own also none =
    ap (λ (es : List RunEvent). fold (λ last x. if nat_lt 0 x.source then x.source else last) 0 (filter (λ x. x.request == 0) es)) (take_two run.events d e at there)
    ∙ by_tests (d.request == 0) (e.request == 0) (own_test d.request own) (own_test e.request also)
  where
    by_tests : (b c : Bool) → b ≡ true → c ≡ true → fold (λ last x. if nat_lt 0 x.source then x.source else last) 0 (cond b (d ∷ cond c (e ∷ []) []) (cond c (e ∷ []) [])) ≡ d.source
    by_tests true true s t = subst (λ (k : ℕ). (if nat_lt 0 k then k else (if nat_lt 0 d.source then d.source else 0)) ≡ d.source) (sym none) (raised_source d.source)
    by_tests true false s t = absurd (cc t)
    by_tests false c s t = absurd (cc s)

pub half_place : (moves : Bool) (name : List ℕ) (uid : Uid) (target : List ℕ) (run : Run) (start : Lists) (journal : List JournalStep) → CopiesAlone moves name uid target run start journal → (n : ℕ) (event : RunEvent) → slice_get run.events n ≡ Some event → event.part ≡ SecondHalf → HasCopied name start run n
half_place moves name uid target run start journal r zero event at part = absurd (cc (sym (part_first r.around r.after start (copying moves name uid target) run journal r.next event at) ∙ part))
half_place moves name uid target run start journal r (suc n) event at part =
    let b = comes_so moves name uid target run start journal r n event at in
    let last = b.so.half part in
    let one = copy_place moves name uid target run start journal r n b.event b.event_is last.1 in
    let second : slice_get run.events 1 ≡ Some b.event = ap (slice_get run.events) (sym one) ∙ b.event_is in
    let c = comes_so moves name uid target run start journal r 0 b.event second in
    let t = first_tells moves name uid target run start journal r c.event c.event_is (c.so.last last.1).0 in
    let adds = last_adds moves name uid target run start journal r 1 b.event second last.1 last.0 in
    record {
      here = ap suc one;
      event = b.event;
      event_is = second;
      part_is = last.1;
      free = last.0;
      mailbox = t.mailbox;
      named = t.named;
      source_is = source_two run c.event b.event c.event_is second c.own b.own adds.1 ∙ t.source_is;
    }
