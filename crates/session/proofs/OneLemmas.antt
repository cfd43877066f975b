-- One request of a session, and one more.
use Rattle.std.specs.Prelude.{◌≢◌, ◌≤◌, ◌<◌, ◌+◌, ◌||◌, All, Bool, if◌then◌else◌, length, option_map, take, slice_get, slice_index_or}
use Rattle.std.specs.List.{list_any}
use Rattle.std.proofs.Common.{◌≡◌, ◌++◌, ℕ, zero, suc, true, false, List, [], ◌∷◌, Option, Some, None, refl, sym, ◌∙◌, ap, subst, arith, inl, inr}
use Rattle.std.proofs.lemmas.List.{append-nil, length-append}
use Rattle.std.proofs.lemmas.List.Elements.{All-weaker}
use Rattle.std.proofs.lemmas.Option.{get_or_from_slice_get}
use Rattle.disk_model.specs.Disk.{Faults, History}
use Rattle.mdbox_base.specs.Streams.{Appended, IsAtEnd, Taken}
use Rattle.mdbox_base.specs.declared.replies.Reply.{Reply}
use Rattle.mdbox_base.specs.declared.replies.Reply.TheVariants as reply
use Rattle.mdbox_base.specs.declared.requests.Request.{Request}
use Rattle.mdbox_base.specs.declared.script.JournalEntry.{JournalEntry}
use Rattle.model_lists.specs.Lists.{Lists}
use Rattle.model_store.specs.Settled.{IsSettledFor}
use Rattle.list_machine.specs.Run.{Run, RunEvent}
use Rattle.journal.specs.Journal.{Broken, HasReply, JournalStep, Requests, left_by}
use Rattle.task_steps.specs.Step.{Seen}
use Rattle.lanes.specs.Asked.{HasNoIdleTurn, asked_in}
use Rattle.lanes.specs.Kept.{AreKeptOf, IsKeptOf, emptied}
use Rattle.lanes.specs.Worlds.{IsWorldOf, WorldValue, and_events}
use Rattle.lanes.specs.Rows.{lanes_of}
use Rattle.serving.specs.Serving.{AreIdle}
use Rattle.request_text.specs.BatchText.{answer_text, batch_text, request_steps}
use Rattle.request_text.specs.Outcomes.{is_disk_no, is_lack, is_no, replies_outcome}
use Rattle.request_text.specs.declared.outcome.Outcome.{Outcome}
use Rattle.request_text.specs.declared.outcome.Outcome.TheVariants as outcome
use Rattle.script_text.specs.Script.{request_text, script_text}
use Rattle.script_text.specs.Taking.{extent}
use Rattle.script_text.specs.declared.take.Extent.{Extent}
use Rattle.session.specs.OneRequest.{FindsNone, HaveReplies, IsAnswered, IsUnderWay, IsWaiting, extent_then, last_text}
use Rattle.session.specs.Rounds.{HasServed}
use Rattle.session.proofs.ChainLemmas.{served_with}
use Rattle.session.proofs.TellLemmas.{OneMore, asked_more, extent_append, moves_of, none_asked, one_more, text_more}

-- ---- the journal before a request

take_front : {X : Type 0} → (a b : List X) → take (length a) (a ++ b) ≡ a
take_front [] b = refl
take_front (x ∷ a) b = ap (λ (t : List _). x ∷ t) (take_front a b)

-- none of the entries before a request is one of it
none_before : {D : Type 0} → (old new : WorldValue D) → OneMore old new → All (λ entry. entry.request < length old.replies) old.journal → All (λ entry. entry.request ≢ length old.replies) (take (length old.journal) new.journal)
none_before old new m own =
    subst (λ (js : List JournalEntry). All (λ entry. entry.request ≢ length old.replies) js) (sym (ap (λ (js : List JournalEntry). take (length old.journal) js) m.journal_is ∙ take_front old.journal m.more))
    (All-weaker (λ (entry : JournalEntry). entry.request < length old.replies) (λ (entry : JournalEntry). entry.request ≢ length old.replies) (λ entry l e. omega (arith, l, e)) old.journal own)

journal_longer : {D : Type 0} → (old new : WorldValue D) → OneMore old new → length old.journal ≤ length new.journal
journal_longer old new m = let l : length new.journal ≡ length old.journal + length m.more = ap length m.journal_is ∙ length-append old.journal m.more in omega (arith, l)

-- ---- its reply

there_is : (replies now : List (Option Reply)) (place n : ℕ) (one : Reply) (result : Option Reply) → HasReply replies n one → place ≡ n → slice_get now n ≡ slice_get replies n → result ≡ slice_index_or now place result → result ≡ Some one
there_is replies now place n one result has is same read =
    read ∙ (ap (λ (k : ℕ). slice_index_or now k result) is ∙ get_or_from_slice_get now n (Some one) result (same ∙ has))

-- a request that was done has its reply where it is looked for
pub no_lack : {D : Type 0} → (old new : WorldValue D) (place : ℕ) (now : List (Option Reply)) (result : Option Reply) → OneMore old new → HaveReplies new.replies → place ≡ length old.replies → AreKeptOf new.scripted new.replies now → result ≡ slice_index_or now place result → result ≡ None → ⊥
no_lack old new place now result m each is same read none =
    let many = m.many in
    let one = each (length old.replies) (omega (arith, many)) in
    let k : None ≡ Some one.0 = sym none ∙ there_is new.replies now place (length old.replies) one.0 result one.1 is (same.whole (length old.replies) (inr (omega (arith, many)))) read in
    cc k

pub one_answered : {D : Type 0} → (history : D → Option History) (faults : D → Faults) (asked : ℕ × Request) (old new : WorldValue D) (place : ℕ) (now : List (Option Reply)) (result : Option Reply) (given : Reply) → IsWaiting old → IsUnderWay history faults asked old new → AreIdle (lanes_of new.rows) → HaveReplies new.replies
    → place ≡ length old.replies → AreKeptOf new.scripted new.replies now → result ≡ slice_index_or now place result → result ≡ Some given → IsAnswered history faults asked old new given
one_answered history faults asked old new place now result given waits u idle each is same read some =
    let many = (one_more history faults asked old new waits.replied u).many in
    let one = each (length old.replies) (omega (arith, many)) in
    let both : Some given ≡ Some one.0 = sym some ∙ there_is new.replies now place (length old.replies) one.0 result one.1 is (same.whole (length old.replies) (inr (omega (arith, many)))) read in
    let it : given ≡ one.0 = cc both in
    record { begun = u; idle = idle; replied = each; reply = subst (λ (r : Reply). HasReply new.replies (length old.replies) r) (sym it) one.1 }

-- what was printed of it
pub told_as : {D : Type 0} → (P : List ℕ → Type 0) (old new : WorldValue D) (journal : List JournalEntry) (place : ℕ) (given : Reply) → place ≡ length old.replies → journal ≡ new.journal → P (answer_text (place + 1) (request_steps journal place) (Some given)) → P (last_text old new given)
told_as P old new journal place given is same told =
    subst (λ (n : ℕ). P (answer_text (n + 1) (request_steps new.journal n) (Some given))) is (subst (λ (js : List JournalEntry). P (answer_text (place + 1) (request_steps js place) (Some given))) same told)

-- the entries before it, as they are looked at
pub before_as : {D : Type 0} → (old new : WorldValue D) (first now : List JournalEntry) (place : ℕ) → OneMore old new → All (λ entry. entry.request < length old.replies) old.journal → place ≡ length old.replies → first ≡ old.journal → now ≡ new.journal → All (λ entry. entry.request ≢ place) (take (length first) now)
before_as old new first now place m own is was same =
    subst (λ (n : ℕ). All (λ entry. entry.request ≢ n) (take (length first) now)) (sym is)
    (subst (λ (js : List JournalEntry). All (λ entry. entry.request ≢ length old.replies) (take (length js) now)) (sym was)
    (subst (λ (js : List JournalEntry). All (λ entry. entry.request ≢ length old.replies) (take (length old.journal) js)) (sym same) (none_before old new m own)))

pub longer_as : {D : Type 0} → (old new : WorldValue D) (first now : List JournalEntry) → OneMore old new → first ≡ old.journal → now ≡ new.journal → length first ≤ length now
longer_as old new first now m was same =
    let more = journal_longer old new m in
    let here : length first ≡ length old.journal = ap length was in
    let there : length now ≡ length new.journal = ap length same in
    omega (arith, more, here, there)

-- ---- the end of the input

by_tests : (P : Outcome → Type 0) (a b c : Bool) → P outcome.DiskFault → P outcome.NoMemory → P outcome.No → P outcome.Done → P (if a then outcome.DiskFault else (if b then outcome.NoMemory else (if c then outcome.No else outcome.Done)))
by_tests P true b c w x y z = w
by_tests P false true c w x y z = x
by_tests P false false true w x y z = y
by_tests P false false false w x y z = z

any_kept : (p : Option Reply → Bool) → ((one : Option Reply) → p (option_map emptied one) ≡ p one) → (given kept : List (Option Reply)) → length kept ≡ length given
    → ((i : ℕ) (one : Option Reply) → slice_get given i ≡ Some one → (now : Option Reply) × (slice_get kept i ≡ Some now) × IsKeptOf one now) → list_any p kept ≡ list_any p given
any_kept p same [] [] long each = refl
any_kept p same [] (y ∷ kept) long each = absurd (let e : suc (length kept) ≡ zero = long in cc e)
any_kept p same (x ∷ given) [] long each = absurd (let e : zero ≡ suc (length given) = long in cc e)
any_kept p same (x ∷ given) (y ∷ kept) long each =
    let first = each zero x refl in
    let e : Some y ≡ Some first.0 = first.1 in
    let is : y ≡ first.0 = cc e in
    let head : p y ≡ p x = ap p is ∙ by_case first.0 first.2 in
    let tail = any_kept p same given kept (omega (arith, long)) (λ i one there. each (suc i) one there) in
    ap (λ (b : Bool). b || list_any p kept) head ∙ ap (λ (b : Bool). p x || b) tail
  where
    by_case : (now : Option Reply) → IsKeptOf x now → p now ≡ p x
    by_case now (inl is) = ap p is
    by_case now (inr less) = ap p less ∙ same x

disk_no_kept : (one : Option Reply) → is_disk_no (option_map emptied one) ≡ is_disk_no one
disk_no_kept None = refl
disk_no_kept (Some (reply.Fetched octets)) = refl
disk_no_kept (Some (reply.Listed rows)) = refl
disk_no_kept (Some other) = refl

lack_kept : (one : Option Reply) → is_lack (option_map emptied one) ≡ is_lack one
lack_kept None = refl
lack_kept (Some (reply.Fetched octets)) = refl
lack_kept (Some (reply.Listed rows)) = refl
lack_kept (Some other) = refl

no_kept : (one : Option Reply) → is_no (option_map emptied one) ≡ is_no one
no_kept None = refl
no_kept (Some (reply.Fetched octets)) = refl
no_kept (Some (reply.Listed rows)) = refl
no_kept (Some other) = refl

-- Replies say the same of the end as they are kept.
pub outcome_kept : (first : ℕ) (given kept : List (Option Reply)) → AreKeptOf first given kept → replies_outcome kept ≡ replies_outcome given
outcome_kept first given kept are =
    let disk = any_kept is_disk_no disk_no_kept given kept are.many are.each in
    let lack = any_kept is_lack lack_kept given kept are.many are.each in
    let no = any_kept is_no no_kept given kept are.many are.each in
    ap (λ (b : Bool). if b then outcome.DiskFault else (if list_any is_lack kept then outcome.NoMemory else (if list_any is_no kept then outcome.No else outcome.Done))) disk
    ∙ (ap (λ (b : Bool). if list_any is_disk_no given then outcome.DiskFault else (if b then outcome.NoMemory else (if list_any is_no kept then outcome.No else outcome.Done))) lack
    ∙ ap (λ (b : Bool). if list_any is_disk_no given then outcome.DiskFault else (if list_any is_lack given then outcome.NoMemory else (if b then outcome.No else outcome.Done))) no)

-- At the input's end a session ends as its replies say.
pub finds_end : {D : Type 0} → (old : WorldValue D) (left rest : Option (List ℕ)) (at : Extent) → IsAtEnd left → rest ≡ left → FindsNone old left rest at (replies_outcome old.replies)
finds_end old left rest at end same =
    (by_tests (λ (o : Outcome). o ≡ replies_outcome old.replies → FindsNone old left rest at o) (list_any is_disk_no old.replies) (list_any is_lack old.replies) (list_any is_no old.replies) (λ e. (end, same, e)) (λ e. tt) (λ e. (end, same, e)) (λ e. (end, same, e))) refl

-- ---- requests, one after another

none_taken : (left : Option (List ℕ)) → Taken left [] left
none_taken None = refl
none_taken (Some rest) = refl

none_printed : (held : Option (List ℕ)) → Appended held [] held
none_printed None = refl
none_printed (Some h) = ap (λ (t : List ℕ). Some t) (sym (append-nil h))

-- no request was served yet
pub served_first : {D : Type 0} → (history : D → Option History) (faults : D → Faults) (world : WorldValue D) (left held : Option (List ℕ)) → IsWaiting world → world.replies ≡ [] → HasServed history faults [] world world left left held held
served_first history faults world left held waits none = record {
  goes = refl;
  waits = waits;
  taken = none_taken left;
  fits = tt;
  printed = subst (λ (rs : List (Option Reply)). Appended held (batch_text world.journal rs) held) (sym none) (none_printed held);
}

pub further_many : (moves : List (ℕ × Option Request)) (asked : ℕ × Request) (lanes : List ℕ) (n : ℕ) → length (asked_in moves) ≡ n → length (asked_in (moves ++ moves_of asked lanes)) ≡ n + 1
further_many moves asked lanes n many = ap length (asked_more moves asked lanes) ∙ (length-append (asked_in moves) (asked ∷ []) ∙ ap (λ (k : ℕ). k + 1) many)

pub further_at : (moves : List (ℕ × Option Request)) (asked : ℕ × Request) (lanes : List ℕ) (at next : Extent) → at ≡ extent (script_text (asked_in moves)) → next ≡ extent_then at (extent (request_text asked)) → next ≡ extent (script_text (asked_in (moves ++ moves_of asked lanes)))
further_at moves asked lanes at next at_is next_is =
    next_is
    ∙ (ap (λ (a : Extent). extent_then a (extent (request_text asked))) at_is
    ∙ (extent_append (script_text (asked_in moves)) (request_text asked) ∙ ap extent (sym (ap script_text (asked_more moves asked lanes) ∙ text_more (asked_in moves) asked))))

-- ---- the disk after a request

-- After a request is done, the disk is settled for what the steps made by now leave.
pub done_settled : {D : Type 0} → (history : D → Option History) (faults : D → Faults) (start : Lists) (script : Requests) (run : Run) (steps : List JournalStep) (failed : Broken) (began : Seen) (asked : ℕ × Request) (old new : WorldValue D) → IsSettledFor start began.history → HasNoIdleTurn old
    → IsWorldOf start script run steps failed began (history old.store.disk) (faults old.store.disk) old → IsUnderWay history faults asked old new
    → (added : List RunEvent) × (more : List JournalStep) × (broke : Broken) × IsWorldOf start (script ++ asked ∷ []) (and_events run added) (steps ++ more) broke began (history new.store.disk) (faults new.store.disk) new × (new.store.stopped ≡ false → IsSettledFor (left_by start (steps ++ more)) (history new.store.disk))
done_settled history faults start script run steps failed began asked old new settled busy world u =
    let is : script ++ asked ∷ [] ≡ script ++ asked_in (moves_of asked u.lanes) = sym (ap (λ (s : Requests). script ++ asked ∷ s) (none_asked u.lanes)) in
    let w = served_with history faults start (script ++ asked ∷ []) began script (moves_of asked u.lanes) old new run steps failed is u.goes (λ some. inl settled) busy world in
    (w.added, w.more, w.broke, w.is, λ runs. w.is.going.serving.serves.settled runs settled)
