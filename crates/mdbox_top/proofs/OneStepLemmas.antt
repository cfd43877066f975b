-- A request alone of one step, or a move of two, by the script that it is.
use Rattle.std.specs.Prelude.{◌≡◌, ◌⊎◌, ℕ, zero, suc, false, true, List, [], ◌∷◌, Contains, Option, Some, Bool, None, is_some, if◌then◌else◌}
use Rattle.std.proofs.Common.{refl, sym, ap, subst, inl, inr, arith, ◌∙◌}
use Rattle.disk_model.specs.Disk.{Faults, History, told_calls}
use Rattle.mdbox_base.specs.declared.replies.Refusal.TheVariants as refusal
use Rattle.mdbox_base.specs.declared.replies.Reply.{Reply}
use Rattle.mdbox_base.specs.declared.replies.Reply.TheVariants as reply
use Rattle.mdbox_base.specs.declared.requests.Request.{Request}
use Rattle.mdbox_base.specs.declared.requests.Request.TheVariants as request
use Rattle.mdbox_base.specs.declared.script.JournalEntry.{JournalEntry}
use Rattle.model_lists.specs.Lists.{Lists}
use Rattle.model_meaning.specs.MapMeaning.{MapMeaning, map_meaning}
use Rattle.model_store.specs.Listing.{listing_of, meaning_named, ShowLists}
use Rattle.list_machine.specs.Machine.{PartAnswers, delete_mailbox, is_step, rename_mailbox, set_flags}
use Rattle.list_machine.specs.Run.{EventPart, First, Run, RunEvent, map_of}
use Rattle.list_machine.proofs.OneStepLemmas.{answers_one}
use Rattle.script_run.specs.Done.{IsScriptDone, MayBeServed}
use Rattle.script_run.specs.LeftOpen.{IsRequestDone}
use Rattle.script_run.specs.One.{AreAlongMove, AreListsTold, IsAnsweredFirst, IsGivenBackAlone, IsUnanswered, IsUndoneAlone, MakesOneStep, MakesSteps, alone, IsFlagAnswer, IsUnfailed, lists_behind, lists_told, missing_cause, moved_lists}
use Rattle.script_run.specs.Script.{HasStopped, only_reads, has_delivery, has_mail_read, has_purge}
use Rattle.script_run.proofs.AloneLemmas.{answered_first, fetches_none, may_read, unread, refused_idle}
use Rattle.script_run.proofs.CopyTaskLemmas.{memory_runs}
use Rattle.script_run.proofs.OneTaskLemmas.{one_refusal}
use Rattle.script_run.proofs.ReachedLemmas.{reached_once}
use Rattle.script_run.proofs.ReachedMoveLemmas.{never_gone, reached_moved}
use Rattle.script_run.proofs.ShownLemmas.{ListsAnswer}
use Rattle.script_run.proofs.SomeListsLemmas.{some_lists}
use Rattle.script_run.proofs.LeftLemmas.{told_left}
use Rattle.script_run.proofs.ToldLemmas.{shown_begins}
use Rattle.script_run.proofs.UnchangedLemmas.{changes_none, closed_since, reads_safe, unchanged_since}
use Rattle.disk_model.proofs.MomentLemmas.{each_image-map}
use Rattle.mdbox_base.specs.declared.replies.Refusal.{Refusal}
use Rattle.mdbox_base.specs.declared.ids.Uid.{Uid}
use Rattle.model_meaning.specs.BoxMeaning.{BoxMeaning, row_at}
use Rattle.model_store.specs.Safe.{Safe}
use Rattle.model_store.specs.Settled.{IsSettledFor}
use Rattle.journal.specs.Journal.{left_by}
use Rattle.journal.specs.Makes.{IsServed}
use Rattle.mail_ops.specs.Copy.{copied_lists}
use Rattle.mail_ops.specs.Requests.{lists_by_reply}
use Rattle.store_open.specs.Opened.{IsOpenedAs}
use Rattle.task_steps.specs.Serves.{IsReached}
use Rattle.script_run.specs.Opening.{LogsShowLists}
use Rattle.script_run.proofs.DoneLemmas.{settled_safe}
use Rattle.mdbox_top.specs.Changed.{ChangeMoments, ChangeRests, LeavesMail, OpensChanged}
use Rattle.mdbox_top.specs.CopyRun.{IsCopyReply}
use Rattle.mdbox_top.specs.DeleteRun.{IsDeleteReply}
use Rattle.mdbox_top.specs.ExpungeRun.{IsExpungeReply, lists_without_message}
use Rattle.mdbox_top.specs.KeywordsRun.{IsKeywordsReply, lists_with_words}
use Rattle.mdbox_top.specs.FlagRun.{IsFlagReply}
use Rattle.mdbox_top.specs.MoveRun.{IsMoveReply, MoveMoments, MoveRests}
use Rattle.mdbox_top.specs.RenameRun.{IsRenameReply}
use Rattle.mdbox_top.specs.Alone.{IsDoneAlone}
use Rattle.mdbox_top.specs.CountsRun.{IsCountsReply, counts_of}
use Rattle.mdbox_top.specs.ListRun.{IsListReply, ListMoments, ListRests}
use Rattle.tasks_alone.specs.FaultsAlone.{FaultsByReply}
use Rattle.mdbox_top.proofs.CountsLemmas.{counts_answer}

-- it is the script of this request, on a store that opened
abbrev IsDone : Request → Reply → List JournalEntry → Option History → Option History → Faults → Faults → Type 0
IsDone asked given entries old new began now = IsScriptDone (alone asked) (given ∷ []) entries old new began now

-- ---- its faults

one_of : (given one : Reply) → Contains (given ∷ []) one → given ≡ one
one_of given one (zero, l, is) = is
one_of given one (suc n, l, is) = absurd (omega (arith, l))

pub served_from : (asked : Request) (given : Reply) (entries : List JournalEntry) (old new : Option History) (began now : Faults) → IsDone asked given entries old new began now → MakesSteps asked → MayBeServed (alone asked) old
served_from asked given entries old new began now done one = let some = some_lists old done.m done.meanings done.opened in (some.0, may_read asked (fetches_none asked one) some.0 old)

never_stopped : (asked : Request) (given : Reply) (entries : List JournalEntry) (old new : Option History) (began now : Faults) → IsDone asked given entries old new began now → MakesSteps asked → only_reads asked ≡ true → given ≡ reply.Refused refusal.Stopped → ⊥
never_stopped asked given entries old new began now done one reads e = done.running (served_from asked given entries old new began now done one) (changes_none asked reads) (0, omega arith, e)

purges_none : (asked : Request) → MakesSteps asked → has_purge (alone asked) ≡ false
purges_none request.Purge one = absurd one
purges_none asked one = refl

reads_no_mail : (asked : Request) → MakesSteps asked → has_mail_read (alone asked) ≡ false
reads_no_mail (request.List name) one = refl
reads_no_mail (request.Flag name uid flags) one = refl
reads_no_mail (request.Make name) one = refl
reads_no_mail (request.Delete name) one = refl
reads_no_mail (request.Rename name target) one = refl
reads_no_mail (request.Expunge name uid) one = refl
reads_no_mail (request.Keywords name uid words) one = refl
reads_no_mail (request.Copy name uid target) one = refl
reads_no_mail (request.Move name uid target) one = refl
reads_no_mail request.Counts one = refl
reads_no_mail other one = absurd one

pub one_faults : (asked : Request) (given : Reply) (entries : List JournalEntry) (old new : Option History) (began now : Faults) → IsDone asked given entries old new began now → MakesSteps asked → (given ≡ reply.Refused refusal.ReadFault → ⊥) → FaultsByReply given began now
one_faults asked given entries old new began now done one read =
    let f = done.faults (served_from asked given entries old new began now done one) in
    record {
      reads = f.counted;
      changes = f.changes;
      read_fault = λ e. absurd (read e);
      read_alone = λ e. absurd (read e);
      stopped = λ e. f.stopped (0, omega arith, e);
      change_alone = λ e. done.counts.unread (reads_no_mail asked one);
      unfailed = λ unread running. f.quiet (λ c. unread (one_of given (reply.Refused refusal.ReadFault) c)) (λ c. running (one_of given (reply.Refused refusal.Stopped) c));
    }

-- ---- what it leaves

read_leaves : (asked : Request) (given : Reply) (entries : List JournalEntry) (old new : Option History) (began now : Faults) → IsDone asked given entries old new began now → MakesSteps asked → only_reads asked ≡ true → ListMoments old new
read_leaves asked given entries old new began now done one reads = record {
  safe = λ lists at. (reads_safe asked given entries old new began now done reads lists at).0;
  stays = done.stays (purges_none asked one, λ delivers. served_from asked given entries old new began now done one);
  closed_well = closed_since old done.leaves.opened new done.leaves.closed_well (done.leaves.idle (changes_none asked reads));
}

read_rests : (asked : Request) (given : Reply) (entries : List JournalEntry) (old new : Option History) (began now : Faults) (failed : Type 0) → IsDone asked given entries old new began now → only_reads asked ≡ true → ListRests failed began now old new
read_rests asked given entries old new began now failed done reads = λ none. (
  λ lists at. (reads_safe asked given entries old new began now done reads lists at).1,
  (unchanged_since asked given entries old new began now done (done.leaves.idle (changes_none asked reads))).1,
)

-- ---- what it replies

-- what the machine answers at the first event
first_given : (asked : Request) (m : MapMeaning) (lists : Lists) (given answer : Reply) → IsAnsweredFirst asked m lists given → ((run : Run) (event : RunEvent) → map_of run ≡ m → PartAnswers run event lists asked First answer lists) → given ≡ answer
first_given asked m lists given answer a answers =
    (answers_one a.run lists asked a.event given answer a.left lists a.answers
    (subst (λ (part : EventPart). PartAnswers a.run a.event lists asked part answer lists) (sym a.part_is) (answers a.run a.event a.map_is))).0

-- that, unless there is no memory
read_given : (asked : Request) (given answer : Reply) (m : MapMeaning) (lists : Lists) → (given ≡ reply.Refused refusal.Stopped → ⊥) → ((run : Run) (event : RunEvent) → map_of run ≡ m → PartAnswers run event lists asked First answer lists)
    → IsUnanswered given ⊎ IsAnsweredFirst asked m lists given → (given ≡ answer) ⊎ (given ≡ reply.Refused refusal.NoMemory)
read_given asked given answer m lists running answers (inl (inl memory)) = inr memory
read_given asked given answer m lists running answers (inl (inr stopped)) = absurd (running stopped)
read_given asked given answer m lists running answers (inr first) = inl (first_given asked m lists given answer first answers)

list_tells : (name : List ℕ) (given : Reply) (entries : List JournalEntry) (old new : Option History) (began now : Faults) → IsDone (request.List name) given entries old new began now → ListsAnswer → IsListReply name old new given
list_tells name given entries old new began now done answer =
    let asked : Request = request.List name in
    let some = some_lists old done.m done.meanings done.opened in
    let same = unchanged_since asked given entries old new began now done (done.leaves.idle refl) in
    record {
      m = done.m;
      meanings = done.meanings;
      opened = done.opened;
      again = same.0;
      given_is = read_given asked given (listing_of (meaning_named name done.m.boxes done.meanings)) done.m some.0 (never_stopped asked given entries old new began now done tt refl) (λ run event map_is. answer run event done.m.boxes done.meanings some.0 name some.1.1)
          (answered_first asked given entries old new began now done tt some.0 some.1);
      answers = λ run event lists safe. answer run event done.m.boxes done.meanings lists name (done.shown lists safe).1;
      settled = λ lists at. (reads_safe asked given entries old new began now done refl lists at).1;
      carried = same.1;
      swept = same.2;
    }

counts_tells : (given : Reply) (entries : List JournalEntry) (old new : Option History) (began now : Faults) → IsDone request.Counts given entries old new began now → IsCountsReply old new given
counts_tells given entries old new began now done =
    let some = some_lists old done.m done.meanings done.opened in
    let same = unchanged_since request.Counts given entries old new began now done (done.leaves.idle refl) in
    record {
      m = done.m;
      meanings = done.meanings;
      opened = done.opened;
      again = same.0;
      given_is = read_given request.Counts given (counts_of done.m done.meanings) done.m some.0 (never_stopped request.Counts given entries old new began now done tt refl) (λ run event map_is. counts_answer done.m done.meanings run event some.0 map_is some.1.1)
          (answered_first request.Counts given entries old new began now done tt some.0 some.1);
      answers = λ run event lists map_is safe. counts_answer done.m done.meanings run event lists map_is (done.shown lists safe).1;
      settled = λ lists at. (reads_safe request.Counts given entries old new began now done refl lists at).1;
      carried = same.1;
      swept = same.2;
    }

-- ---- a change of the lists

pub unfailed_by : (given : Reply) → (given ≡ reply.Refused refusal.ReadFault → ⊥) → (given ≡ reply.Refused refusal.Stopped → ⊥) → IsUnfailed given
unfailed_by (reply.Refused refusal.ReadFault) read running = read refl
unfailed_by (reply.Refused refusal.Stopped) read running = running refl
unfailed_by given read running = tt

-- A request that was done, and was not replied that a read failed. Its reply tells the lists that it leaves.
record IsOneChange (asked : Request) (given : Reply) (entries : List JournalEntry) (old new : Option History) (began now : Faults) : Type 0 where
  done : IsDone asked given entries old new began now
  one : MakesSteps asked
  calm : given ≡ reply.Refused refusal.ReadFault → ⊥
  told : (answer : Reply) (lists left : Lists) → AreListsTold asked answer lists left → left ≡ lists_told asked answer lists
  delivers : has_delivery (alone asked) ≡ false

pub stopped_one : (given : Reply) → (given ≡ reply.Refused refusal.Stopped → ⊥) → HasStopped (given ∷ []) → ⊥
stopped_one given running c = running (one_of given (reply.Refused refusal.Stopped) c)

-- the lists that it leaves, unless the store is stopped
change_left : (asked : Request) (given : Reply) (entries : List JournalEntry) (old new : Option History) (began now : Faults) → (k : IsOneChange asked given entries old new began now) → (given ≡ reply.Refused refusal.Stopped → ⊥) → (lists : Lists) → (shows : LogsShowLists k.done.m k.done.meanings lists)
    → left_by lists (k.done.serves lists shows (may_read asked (fetches_none asked k.one) lists old)).journal ≡ lists_told asked given lists
change_left asked given entries old new began now k running lists shows =
    let may = may_read asked (fetches_none asked k.one) lists old in
    let s = k.done.serves lists shows may in
    k.told given lists (left_by lists s.journal)
    (told_left lists asked s.run s.journal s.broken given began now _ s.m s.drawn _ k.done.meanings (shown_begins (alone asked) (given ∷ []) entries old new began now k.done lists shows may) s.served (unfailed_by given k.calm running))

change_settles : (asked : Request) (given : Reply) (entries : List JournalEntry) (old new : Option History) (began now : Faults) → IsOneChange asked given entries old new began now → (given ≡ reply.Refused refusal.Stopped → ⊥) → (lists : Lists) → IsSettledFor lists old
    → IsSettledFor (lists_told asked given lists) new
change_settles asked given entries old new began now k running lists at =
    let shows = k.done.shown lists (settled_safe lists old at) in
    subst (λ (ls : Lists). IsSettledFor ls new) (change_left asked given entries old new began now k running lists shows)
    ((k.done.serves lists shows (may_read asked (fetches_none asked k.one) lists old)).settled (stopped_one given running) at)

-- the logs behind it show the lists with the change, where the reply tells it
change_opens : (asked : Request) (change : Lists → Lists) (given : Reply) (old new : Option History) (began now : Faults) → (w : IsRequestDone asked given old new began now) → IsOneChange asked given w.entries old new began now → (given ≡ reply.Refused refusal.Stopped → ⊥) → ((lists : Lists) → lists_told asked given lists ≡ change lists)
    → OpensChanged change w.done.m w.done.meanings new
change_opens asked change given old new began now w k running tells = record {
  map = w.later;
  changed = w.later_meanings;
  opened = w.comes.again (stopped_one given running);
  shows = λ lists formed shows.
      let c : IsOneChange asked given w.entries old new began now = record { done = w.done; one = k.one; calm = k.calm; told = k.told; delivers = k.delivers } in
      subst (λ (ls : Lists). ShowLists w.later.boxes w.later_meanings ls) (change_left asked given w.entries old new began now c running lists (formed, shows) ∙ tells lists) (w.comes.shows lists (formed, shows) (may_read asked (fetches_none asked k.one) lists old)).1;
}

change_mail : (asked : Request) (given : Reply) (entries : List JournalEntry) (old new : Option History) (began now : Faults) → (k : IsOneChange asked given entries old new began now) → LeavesMail k.done.m given old new
change_mail asked given entries old new began now k = record {
  generation = k.done.leaves.generation;
  opened = k.done.leaves.opened;
  swept = k.done.leaves.swept;
  stays = k.done.stays (purges_none asked k.one, λ delivers. served_from asked given entries old new began now k.done k.one);
  mail = λ running. k.done.leaves.mail k.delivers (purges_none asked k.one) (stopped_one given running);
}

change_leaves : (asked : Request) (change : Lists → Lists) (given : Reply) (entries : List JournalEntry) (old new : Option History) (began now : Faults) → IsOneChange asked given entries old new began now → MakesOneStep asked → ((answer : Reply) (lists : Lists) → (lists_told asked answer lists ≡ lists) ⊎ (lists_told asked answer lists ≡ change lists)) → ChangeMoments change old new
change_leaves asked change given entries old new began now k one along = λ lists at.
    let shows = k.done.shown lists (settled_safe lists old at) in
    let may = may_read asked (fetches_none asked k.one) lists old in
    let s = k.done.serves lists shows may in
    each_image-map (IsReached lists s.run s.journal s.broken) (λ _ image. Safe image lists ⊎ Safe image (change lists)) old new
    (λ m image is.
    let reached = reached_once asked lists s.run s.journal s.broken (Some given ∷ []) began now _ s.m s.drawn _ k.done.meanings (shown_begins (alone asked) (given ∷ []) entries old new began now k.done lists shows may) one s.served m is.0 is.1 in
    let left = k.told reached.0 lists is.0 reached.1 in
    elim (along reached.0 lists) [
      | inl same ↦ inl (subst (λ (ls : Lists). Safe image ls) (left ∙ same) is.2)
      | inr changed ↦ inr (subst (λ (ls : Lists). Safe image ls) (left ∙ changed) is.2)
    ])
    (s.crash at)

change_rests : (asked : Request) (change : Lists → Lists) (given : Reply) (entries : List JournalEntry) (old new : Option History) (began now : Faults) → IsOneChange asked given entries old new began now → ((answer : Reply) (lists : Lists) → (lists_told asked answer lists ≡ lists) ⊎ (lists_told asked answer lists ≡ change lists)) → ChangeRests change (given ≡ reply.Refused refusal.Stopped) began now old new
change_rests asked change given entries old new began now k along = λ none lists at.
    let faults = one_faults asked given entries old new began now k.done k.one k.calm in
    let settled = change_settles asked given entries old new began now k (λ e. none e (faults.stopped e)) lists at in
    elim (along given lists) [
      | inl same ↦ inl (subst (λ (ls : Lists). IsSettledFor ls new) same settled)
      | inr changed ↦ inr (subst (λ (ls : Lists). IsSettledFor ls new) changed settled)
    ]

-- done, so the store isn't stopped
pub done_runs : (given : Reply) → given ≡ reply.Done → given ≡ reply.Refused refusal.Stopped → ⊥
done_runs given e stopped = let k : reply.Done ≡ reply.Refused refusal.Stopped = sym e ∙ stopped in cc k

-- ---- a setting of flags

abbrev flagging : List ℕ → Uid → ℕ → Request
flagging name uid flags = request.Flag name uid flags

missing_step : (found : Option BoxMeaning) (uid : ℕ) (why : Refusal) → missing_cause found uid ≡ Some why → is_step why ≡ true
missing_step None uid why e = let k : Some refusal.NoMailbox ≡ Some why = e in let z : refusal.NoMailbox ≡ why = cc k in ap is_step (sym z)
missing_step (Some m) uid why e = by_row (is_some (row_at m uid)) e
  where
    by_row : (b : Bool) → (if b then None else Some refusal.NoMessage) ≡ Some why → is_step why ≡ true
    by_row true e = absurd (let k : None ≡ Some why = e in cc k)
    by_row false e = let k : Some refusal.NoMessage ≡ Some why = e in let z : refusal.NoMessage ≡ why = cc k in ap is_step (sym z)

along_flag : (name : List ℕ) (uid : Uid) (flags : ℕ) (answer : Reply) (lists : Lists) → (lists_told (flagging name uid flags) answer lists ≡ lists) ⊎ (lists_told (flagging name uid flags) answer lists ≡ set_flags name uid.0 flags lists)
along_flag name uid flags reply.Done lists = inr refl
along_flag name uid flags other lists = inl refl

by_reply : (name : List ℕ) (uid : Uid) (flags : ℕ) (given : Reply) (lists : Lists) → lists_told (flagging name uid flags) given lists ≡ lists_by_reply (flagging name uid flags) given lists
by_reply name uid flags reply.Done lists = refl
by_reply name uid flags other lists = refl

flag_change : (name : List ℕ) (uid : Uid) (flags : ℕ) (given : Reply) (entries : List JournalEntry) (old new : Option History) (began now : Faults) → IsDone (flagging name uid flags) given entries old new began now → IsOneChange (flagging name uid flags) given entries old new began now
flag_change name uid flags given entries old new began now done = record {
  done = done;
  one = tt;
  calm = unread (flagging name uid flags) given entries old new began now done tt;
  told = λ answer lists left is. is;
  delivers = refl;
}

flag_tells : (name : List ℕ) (uid : Uid) (flags : ℕ) (given : Reply) (old new : Option History) (began now : Faults) → IsRequestDone (flagging name uid flags) given old new began now → IsFlagReply name uid flags old new given
unfolding flag_change
flag_tells name uid flags given old new began now w =
    let asked : Request = flagging name uid flags in
    let change : Lists → Lists = λ lists. set_flags name uid.0 flags lists in
    let found : Option BoxMeaning = meaning_named name w.done.m.boxes w.done.meanings in
    let k = flag_change name uid flags given w.entries old new began now w.done in
    record {
      m = w.done.m;
      meanings = w.done.meanings;
      opened = w.done.opened;
      given_is = w.told;
      refused = λ why is.
          unchanged_since asked given w.entries old new began now w.done
          (refused_idle asked given w.entries old new began now w.done tt why (missing_step found uid.0 why is) (subst (λ (cause : Option Refusal). IsFlagAnswer cause given) is w.told));
      done = λ e.
          let o = change_opens asked change given old new began now w k (done_runs given e) (λ lists. ap (λ (r : Reply). lists_told asked r lists) e) in
          record { map = o.map; flagged = o.changed; opened = o.opened; shows = o.shows };
      settled = λ running lists at. subst (λ (ls : Lists). IsSettledFor ls new) (by_reply name uid flags given lists) (change_settles asked given w.entries old new began now k running lists at);
      mail = change_mail asked given w.entries old new began now k;
    }

-- ---- an expunge

abbrev expunging : List ℕ → Uid → Request
expunging name uid = request.Expunge name uid

along_expunge : (name : List ℕ) (uid : Uid) (answer : Reply) (lists : Lists) → (lists_told (expunging name uid) answer lists ≡ lists) ⊎ (lists_told (expunging name uid) answer lists ≡ lists_without_message name uid lists)
along_expunge name uid reply.Done lists = inr refl
along_expunge name uid other lists = inl refl

expunge_change : (name : List ℕ) (uid : Uid) (given : Reply) (old new : Option History) (began now : Faults) → (w : IsRequestDone (expunging name uid) given old new began now) → IsOneChange (expunging name uid) given w.entries old new began now
expunge_change name uid given old new began now w = record {
  done = w.done;
  one = tt;
  calm = unread (expunging name uid) given w.entries old new began now w.done tt;
  told = λ answer lists left is. is;
  delivers = refl;
}

expunge_tells : (name : List ℕ) (uid : Uid) (given : Reply) (old new : Option History) (began now : Faults) → IsRequestDone (expunging name uid) given old new began now → IsExpungeReply name uid old new given
unfolding expunge_change
expunge_tells name uid given old new began now w =
    let asked : Request = expunging name uid in
    let k = expunge_change name uid given old new began now w in
    record {
      m = w.done.m;
      meanings = w.done.meanings;
      opened = w.done.opened;
      given_is = w.told;
      refused = λ why is running. unchanged_since asked given w.entries old new began now w.done (w.undone (subst (λ (r : Reply). IsUndoneAlone (alone asked) (r ∷ [])) (sym is) running));
      done = λ e. change_opens asked (lists_without_message name uid) given old new began now w k (done_runs given e) (λ lists. ap (λ (r : Reply). lists_told asked r lists) e);
      settled = change_settles asked given w.entries old new began now k;
      mail = change_mail asked given w.entries old new began now k;
    }

-- ---- the keywords of a message

abbrev wording : List ℕ → Uid → List (List ℕ) → Request
wording name uid words = request.Keywords name uid words

along_words : (name : List ℕ) (uid : Uid) (words : List (List ℕ)) (answer : Reply) (lists : Lists) → (lists_told (wording name uid words) answer lists ≡ lists) ⊎ (lists_told (wording name uid words) answer lists ≡ lists_with_words name uid words lists)
along_words name uid words reply.Done lists = inr refl
along_words name uid words other lists = inl refl

words_change : (name : List ℕ) (uid : Uid) (words : List (List ℕ)) (given : Reply) (old new : Option History) (began now : Faults) → (w : IsRequestDone (wording name uid words) given old new began now) → IsOneChange (wording name uid words) given w.entries old new began now
words_change name uid words given old new began now w = record {
  done = w.done;
  one = tt;
  calm = unread (wording name uid words) given w.entries old new began now w.done tt;
  told = λ answer lists left is. is;
  delivers = refl;
}

words_tells : (name : List ℕ) (uid : Uid) (words : List (List ℕ)) (given : Reply) (old new : Option History) (began now : Faults) → IsRequestDone (wording name uid words) given old new began now → IsKeywordsReply name uid words old new given
unfolding words_change
words_tells name uid words given old new began now w =
    let asked : Request = wording name uid words in
    let k = words_change name uid words given old new began now w in
    record {
      m = w.done.m;
      meanings = w.done.meanings;
      opened = w.done.opened;
      given_is = w.told;
      refused = λ why is running. unchanged_since asked given w.entries old new began now w.done (w.undone (subst (λ (r : Reply). IsUndoneAlone (alone asked) (r ∷ [])) (sym is) running));
      done = λ e. change_opens asked (lists_with_words name uid words) given old new began now w k (done_runs given e) (λ lists. ap (λ (r : Reply). lists_told asked r lists) e);
      settled = change_settles asked given w.entries old new began now k;
      mail = change_mail asked given w.entries old new began now k;
    }

-- ---- a deletion of a mailbox

abbrev deleting : List ℕ → Request
deleting name = request.Delete name

along_delete : (name : List ℕ) (answer : Reply) (lists : Lists) → (lists_told (deleting name) answer lists ≡ lists) ⊎ (lists_told (deleting name) answer lists ≡ delete_mailbox name lists)
along_delete name reply.Done lists = inr refl
along_delete name other lists = inl refl

delete_change : (name : List ℕ) (given : Reply) (old new : Option History) (began now : Faults) → (w : IsRequestDone (deleting name) given old new began now) → IsOneChange (deleting name) given w.entries old new began now
delete_change name given old new began now w = record {
  done = w.done;
  one = tt;
  calm = unread (deleting name) given w.entries old new began now w.done tt;
  told = λ answer lists left is. is;
  delivers = refl;
}

delete_tells : (name : List ℕ) (given : Reply) (old new : Option History) (began now : Faults) → IsRequestDone (deleting name) given old new began now → IsDeleteReply name old new given
unfolding delete_change
delete_tells name given old new began now w =
    let asked : Request = deleting name in
    let k = delete_change name given old new began now w in
    record {
      m = w.done.m;
      meanings = w.done.meanings;
      opened = w.done.opened;
      given_is = w.told;
      refused = λ why is running. unchanged_since asked given w.entries old new began now w.done (w.undone (subst (λ (r : Reply). IsUndoneAlone (alone asked) (r ∷ [])) (sym is) running));
      done = λ e. change_opens asked (delete_mailbox name) given old new began now w k (done_runs given e) (λ lists. ap (λ (r : Reply). lists_told asked r lists) e);
      settled = change_settles asked given w.entries old new began now k;
      mail = change_mail asked given w.entries old new began now k;
    }

-- ---- a renaming of a mailbox

abbrev renaming : List ℕ → List ℕ → Request
renaming name target = request.Rename name target

along_rename : (name target : List ℕ) (answer : Reply) (lists : Lists) → (lists_told (renaming name target) answer lists ≡ lists) ⊎ (lists_told (renaming name target) answer lists ≡ rename_mailbox name target lists)
along_rename name target reply.Done lists = inr refl
along_rename name target other lists = inl refl

rename_change : (name target : List ℕ) (given : Reply) (old new : Option History) (began now : Faults) → (w : IsRequestDone (renaming name target) given old new began now) → IsOneChange (renaming name target) given w.entries old new began now
rename_change name target given old new began now w = record {
  done = w.done;
  one = tt;
  calm = unread (renaming name target) given w.entries old new began now w.done tt;
  told = λ answer lists left is. is;
  delivers = refl;
}

rename_tells : (name target : List ℕ) (given : Reply) (old new : Option History) (began now : Faults) → IsRequestDone (renaming name target) given old new began now → IsRenameReply name target old new given
unfolding rename_change
rename_tells name target given old new began now w =
    let asked : Request = renaming name target in
    let k = rename_change name target given old new began now w in
    record {
      m = w.done.m;
      meanings = w.done.meanings;
      opened = w.done.opened;
      given_is = w.told;
      refused = λ why is running. unchanged_since asked given w.entries old new began now w.done (w.undone (subst (λ (r : Reply). IsUndoneAlone (alone asked) (r ∷ [])) (sym is) running));
      done = λ e. change_opens asked (rename_mailbox name target) given old new began now w k (done_runs given e) (λ lists. ap (λ (r : Reply). lists_told asked r lists) e);
      settled = change_settles asked given w.entries old new began now k;
      mail = change_mail asked given w.entries old new began now k;
    }

-- ---- a copy

abbrev copying : List ℕ → Uid → List ℕ → Request
copying name uid target = request.Copy name uid target

along_copy : (name : List ℕ) (uid : Uid) (target : List ℕ) (answer : Reply) (lists : Lists) → (lists_told (copying name uid target) answer lists ≡ lists) ⊎ (lists_told (copying name uid target) answer lists ≡ copied_lists name uid target lists)
along_copy name uid target (reply.Copied given) lists = inr refl
along_copy name uid target other lists = inl refl

copy_change : (name : List ℕ) (uid : Uid) (target : List ℕ) (given : Reply) (old new : Option History) (began now : Faults) → (w : IsRequestDone (copying name uid target) given old new began now) → IsOneChange (copying name uid target) given w.entries old new began now
copy_change name uid target given old new began now w = record {
  done = w.done;
  one = tt;
  calm = unread (copying name uid target) given w.entries old new began now w.done tt;
  told = λ answer lists left is. is;
  delivers = refl;
}

copied_runs : (given : Reply) (uid : Uid) → given ≡ reply.Copied uid → given ≡ reply.Refused refusal.Stopped → ⊥
copied_runs given uid d s = let k : reply.Copied uid ≡ reply.Refused refusal.Stopped = sym d ∙ s in cc k

-- there was no memory, so the store isn't stopped
pub unremembered_runs : (given : Reply) → given ≡ reply.Refused refusal.NoMemory → given ≡ reply.Refused refusal.Stopped → ⊥
unremembered_runs given d s = memory_runs (one_refusal refusal.NoMemory refusal.Stopped (sym d ∙ s))

copy_tells : (name : List ℕ) (uid : Uid) (target : List ℕ) (given : Reply) (old new : Option History) (began now : Faults) → IsRequestDone (copying name uid target) given old new began now → IsCopyReply name uid target old new given
unfolding copy_change
copy_tells name uid target given old new began now w =
    let asked : Request = copying name uid target in
    let k = copy_change name uid target given old new began now w in
    record {
      m = w.done.m;
      meanings = w.done.meanings;
      opened = w.done.opened;
      given_is = w.told;
      refused = λ why is running memory. unchanged_since asked given w.entries old new began now w.done (w.undone (subst (λ (r : Reply). IsUndoneAlone (alone asked) (r ∷ [])) (sym is) (running, memory)));
      memory = λ e.
          let same = w.comes.alike (subst (λ (r : Reply). IsGivenBackAlone (alone asked) (r ∷ [])) (sym e) tt) in
          record { map = w.later; opened = subst (λ (ms : List BoxMeaning). IsOpenedAs new w.later ms) same.indexes (w.comes.again (stopped_one given (unremembered_runs given e))); mailboxes = same.mailboxes; records = same.records };
      done = λ u e. change_opens asked (copied_lists name uid target) given old new began now w k (copied_runs given u e) (λ lists. ap (λ (r : Reply). lists_told asked r lists) e);
      settled = change_settles asked given w.entries old new began now k;
      mail = change_mail asked given w.entries old new began now k;
    }

-- ---- a move

abbrev moving : List ℕ → Uid → List ℕ → Request
moving name uid target = request.Move name uid target

move_change : (name : List ℕ) (uid : Uid) (target : List ℕ) (given : Reply) (old new : Option History) (began now : Faults) → (w : IsRequestDone (moving name uid target) given old new began now) → IsOneChange (moving name uid target) given w.entries old new began now
move_change name uid target given old new began now w = record {
  done = w.done;
  one = tt;
  calm = unread (moving name uid target) given w.entries old new began now w.done tt;
  told = λ answer lists left is. is;
  delivers = refl;
}

moved_runs : (given : Reply) (uid : Uid) (gone : Bool) → given ≡ reply.Moved uid gone → given ≡ reply.Refused refusal.Stopped → ⊥
moved_runs given uid gone d s = let k : reply.Moved uid gone ≡ reply.Refused refusal.Stopped = sym d ∙ s in cc k

along_move : (name : List ℕ) (uid : Uid) (target : List ℕ) (answer : Reply) (lists : Lists) → AreAlongMove name uid target lists (lists_told (moving name uid target) answer lists)
along_move name uid target (reply.Moved given true) lists = inr (inl refl)
along_move name uid target (reply.Moved given false) lists = inr (inr refl)
along_move name uid target other lists = inl refl

move_tells : (name : List ℕ) (uid : Uid) (target : List ℕ) (given : Reply) (old new : Option History) (began now : Faults) → IsRequestDone (moving name uid target) given old new began now → IsMoveReply name uid target old new given
unfolding move_change
move_tells name uid target given old new began now w =
    let asked : Request = moving name uid target in
    let k = move_change name uid target given old new began now w in
    record {
      m = w.done.m;
      meanings = w.done.meanings;
      opened = w.done.opened;
      given_is = w.told;
      refused = λ why is running memory. unchanged_since asked given w.entries old new began now w.done (w.undone (subst (λ (r : Reply). IsUndoneAlone (alone asked) (r ∷ [])) (sym is) (running, memory)));
      memory = λ e.
          let same = w.comes.alike (subst (λ (r : Reply). IsGivenBackAlone (alone asked) (r ∷ [])) (sym e) tt) in
          record { map = w.later; opened = subst (λ (ms : List BoxMeaning). IsOpenedAs new w.later ms) same.indexes (w.comes.again (stopped_one given (unremembered_runs given e))); mailboxes = same.mailboxes; records = same.records };
      done = λ u gone e. change_opens asked (lists_behind name uid target gone) given old new began now w k (moved_runs given u gone e) (λ lists. ap (λ (r : Reply). lists_told asked r lists) e);
      here = λ moved e.
          let some = some_lists old w.done.m w.done.meanings w.done.opened in
          let lists = some.0 in
          let may = may_read asked refl lists old in
          let s = w.done.serves lists some.1 may in
          let shown = shown_begins (alone asked) (given ∷ []) w.entries old new began now w.done lists some.1 may in
          never_gone name uid target lists s.run s.journal s.broken moved began now _ s.m s.drawn _ w.done.meanings shown
          (subst (λ (r : Reply). IsServed lists (alone asked) s.run s.journal s.broken (Some r ∷ []) began now (map_meaning s.run.store s.run.start) s.m s.drawn (told_calls new)) e s.served);
      settled = change_settles asked given w.entries old new began now k;
      mail = change_mail asked given w.entries old new began now k;
    }

move_leaves : (name : List ℕ) (uid : Uid) (target : List ℕ) (given : Reply) (entries : List JournalEntry) (old new : Option History) (began now : Faults) → IsOneChange (moving name uid target) given entries old new began now → MoveMoments name uid target old new
move_leaves name uid target given entries old new began now k = λ lists at.
    let shows = k.done.shown lists (settled_safe lists old at) in
    let may = may_read (moving name uid target) refl lists old in
    let s = k.done.serves lists shows may in
    let shown = shown_begins (alone (moving name uid target)) (given ∷ []) entries old new began now k.done lists shows may in
    each_image-map (IsReached lists s.run s.journal s.broken) (λ _ image. Safe image lists ⊎ (Safe image (copied_lists name uid target lists) ⊎ Safe image (moved_lists name uid target lists))) old new
    (λ m image is. elim (reached_moved name uid target lists s.run s.journal s.broken (Some given ∷ []) began now _ s.m s.drawn _ k.done.meanings shown s.served m is.0 is.1) [
      | inl same ↦ inl (subst (λ (ls : Lists). Safe image ls) same is.2)
      | inr (inl copied) ↦ inr (inl (subst (λ (ls : Lists). Safe image ls) copied is.2))
      | inr (inr moved) ↦ inr (inr (subst (λ (ls : Lists). Safe image ls) moved is.2))
    ])
    (s.crash at)

move_rests : (name : List ℕ) (uid : Uid) (target : List ℕ) (given : Reply) (entries : List JournalEntry) (old new : Option History) (began now : Faults) → IsOneChange (moving name uid target) given entries old new began now → MoveRests name uid target (given ≡ reply.Refused refusal.Stopped) began now old new
move_rests name uid target given entries old new began now k = λ none lists at.
    let faults = one_faults (moving name uid target) given entries old new began now k.done k.one k.calm in
    let settled = change_settles (moving name uid target) given entries old new began now k (λ e. none e (faults.stopped e)) lists at in
    elim (along_move name uid target given lists) [
      | inl same ↦ inl (subst (λ (ls : Lists). IsSettledFor ls new) same settled)
      | inr (inl copied) ↦ inr (inl (subst (λ (ls : Lists). IsSettledFor ls new) copied settled))
      | inr (inr moved) ↦ inr (inr (subst (λ (ls : Lists). IsSettledFor ls new) moved settled))
    ]

-- ---- it was done

-- a make by what is said of it
pub done_one : (asked : Request) (given : Reply) (old new : Option History) (began now : Faults) → IsRequestDone asked given old new began now → MakesSteps asked → ListsAnswer → ((name : List ℕ) → asked ≡ request.Make name → IsDoneAlone asked given old new began now) → IsDoneAlone asked given old new began now
done_one (request.List name) given old new began now w one answer make = record {
  tells = list_tells name given w.entries old new began now w.done answer;
  moments = read_leaves (request.List name) given w.entries old new began now w.done one refl;
  rests = read_rests (request.List name) given w.entries old new began now (given ≡ reply.Refused refusal.Stopped) w.done refl;
  faults = one_faults (request.List name) given w.entries old new began now w.done one (unread (request.List name) given w.entries old new began now w.done one);
}
done_one request.Counts given old new began now w one answer make = record {
  tells = counts_tells given w.entries old new began now w.done;
  moments = read_leaves request.Counts given w.entries old new began now w.done one refl;
  rests = read_rests request.Counts given w.entries old new began now (given ≡ reply.Refused refusal.Stopped) w.done refl;
  faults = one_faults request.Counts given w.entries old new began now w.done one (unread request.Counts given w.entries old new began now w.done one);
}
done_one (request.Flag name uid flags) given old new began now w one answer make =
    let k = flag_change name uid flags given w.entries old new began now w.done in
    record {
      tells = flag_tells name uid flags given old new began now w;
      moments = change_leaves (flagging name uid flags) (λ lists. set_flags name uid.0 flags lists) given w.entries old new began now k tt (along_flag name uid flags);
      rests = change_rests (flagging name uid flags) (λ lists. set_flags name uid.0 flags lists) given w.entries old new began now k (along_flag name uid flags);
      faults = one_faults (flagging name uid flags) given w.entries old new began now w.done tt k.calm;
    }
done_one (request.Expunge name uid) given old new began now w one answer make =
    let k = expunge_change name uid given old new began now w in
    record {
      tells = expunge_tells name uid given old new began now w;
      moments = change_leaves (expunging name uid) (lists_without_message name uid) given w.entries old new began now k tt (along_expunge name uid);
      rests = change_rests (expunging name uid) (lists_without_message name uid) given w.entries old new began now k (along_expunge name uid);
      faults = one_faults (expunging name uid) given w.entries old new began now w.done tt k.calm;
    }
done_one (request.Keywords name uid words) given old new began now w one answer make =
    let k = words_change name uid words given old new began now w in
    record {
      tells = words_tells name uid words given old new began now w;
      moments = change_leaves (wording name uid words) (lists_with_words name uid words) given w.entries old new began now k tt (along_words name uid words);
      rests = change_rests (wording name uid words) (lists_with_words name uid words) given w.entries old new began now k (along_words name uid words);
      faults = one_faults (wording name uid words) given w.entries old new began now w.done tt k.calm;
    }
done_one (request.Copy name uid target) given old new began now w one answer make =
    let k = copy_change name uid target given old new began now w in
    record {
      tells = copy_tells name uid target given old new began now w;
      moments = change_leaves (copying name uid target) (copied_lists name uid target) given w.entries old new began now k tt (along_copy name uid target);
      rests = change_rests (copying name uid target) (copied_lists name uid target) given w.entries old new began now k (along_copy name uid target);
      faults = one_faults (copying name uid target) given w.entries old new began now w.done tt k.calm;
    }
done_one (request.Move name uid target) given old new began now w one answer make =
    let k = move_change name uid target given old new began now w in
    record {
      tells = move_tells name uid target given old new began now w;
      moments = move_leaves name uid target given w.entries old new began now k;
      rests = move_rests name uid target given w.entries old new began now k;
      faults = one_faults (moving name uid target) given w.entries old new began now w.done tt k.calm;
    }
done_one (request.Delete name) given old new began now w one answer make =
    let k = delete_change name given old new began now w in
    record {
      tells = delete_tells name given old new began now w;
      moments = change_leaves (deleting name) (delete_mailbox name) given w.entries old new began now k tt (along_delete name);
      rests = change_rests (deleting name) (delete_mailbox name) given w.entries old new began now k (along_delete name);
      faults = one_faults (deleting name) given w.entries old new began now w.done tt k.calm;
    }
done_one (request.Rename name target) given old new began now w one answer make =
    let k = rename_change name target given old new began now w in
    record {
      tells = rename_tells name target given old new began now w;
      moments = change_leaves (renaming name target) (rename_mailbox name target) given w.entries old new began now k tt (along_rename name target);
      rests = change_rests (renaming name target) (rename_mailbox name target) given w.entries old new began now k (along_rename name target);
      faults = one_faults (renaming name target) given w.entries old new began now w.done tt k.calm;
    }
done_one (request.Make name) given old new began now w one answer make = make name refl
done_one other given old new began now w one answer make = absurd one
