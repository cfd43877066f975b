-- How `exercise` ends: by the script that the number makes.
use Rattle.std.specs.Prelude.{◌≡◌, ◌⊎◌, ◌+◌, ◌/◌, ◌%◌, ◌||◌, ℕ, zero, suc, Bool, true, false, not, cond, if◌then◌else◌, List, [], ◌∷◌, count_by, length, map, Option, Some}
use Rattle.std.specs.List.{list_any}
use Rattle.std.proofs.Common.{refl, sym, ◌∙◌, ap, subst, inl, inr, arith}
use Rattle.std.proofs.lemmas.List.{length-map}
use Rattle.std.proofs.lemmas.List.Sums.{sum_by-cons}
use Rattle.disk_model.specs.Disk.{History, Faults}
use Rattle.journal.specs.Journal.{Requests}
use Rattle.mdbox_base.specs.Streams.{Appended}
use Rattle.mdbox_base.specs.declared.replies.Reply.{Reply}
use Rattle.mdbox_base.specs.declared.requests.Request.{Request}
use Rattle.mdbox_base.specs.declared.script.JournalEntry.{JournalEntry}
use Rattle.mdbox_base.specs.declared.script.Script.{Script}
use Rattle.model_lists.specs.Lists.{Lists}
use Rattle.model_meaning.specs.BoxMeaning.{BoxMeaning}
use Rattle.model_meaning.specs.MapMeaning.{MapMeaning}
use Rattle.model_store.specs.Settled.{IsSettledFor}
use Rattle.request_text.specs.Outcomes.{status_of, is_disk_no, is_lack, is_no, replies_outcome}
use Rattle.request_text.specs.SummaryText.{summary_text}
use Rattle.request_text.specs.declared.summary.Summary.{Summary}
use Rattle.request_text.specs.declared.outcome.InputRefusal.{InputRefusal}
use Rattle.request_text.specs.declared.outcome.StoreRefusal.{StoreRefusal}
use Rattle.request_text.specs.declared.outcome.Outcome.{Outcome}
use Rattle.request_text.specs.declared.outcome.Outcome.TheVariants as outcome
use Rattle.script_run.specs.Done.{IsScriptDone, MayBeServed}
use Rattle.script_run.specs.LeftOpen.{ComesTo, IsServedOpen}
use Rattle.script_run.specs.Faults.{HasReadFault}
use Rattle.script_run.specs.Opening.{IsUnopened}
use Rattle.script_run.specs.Script.{HasStopped, is_fetch, has_fetch}
use Rattle.script_run.specs.Worked.{IsWorkedOut}
use Rattle.script_text.specs.MadeScript.{below, made_octet, made_request, made_round, made_script, made_turn}
use Rattle.script_text.proofs.MadeLemmas.{message_length}
use Rattle.store_core.specs.Value.{StoreValue, indexes_of}
use Rattle.store_open.specs.declared.error.OpenError.{OpenError}
use Rattle.task_steps.proofs.OneEventLemmas.{not_true}
use Rattle.mdbox_top.specs.BatchRun.{ScriptRests, ShowsReplies}
use Rattle.mdbox_top.specs.ExerciseRun.{ExerciseOutcome, ExerciseRests, IsCountedUp, made_requests}
use Rattle.mdbox_top.specs.InputRun.{IsOneOf}
use Rattle.mdbox_top.specs.Numbers.{exercise_text, summary_of}
use Rattle.mdbox_top.specs.OpeningOutcome.{opening_outcome}
use Rattle.mdbox_top.proofs.BatchLemmas.{EndsKnown, opened_damage, opened_ended, opened_refuses, opened_status, opened_used, replies_number, replies_whole, script_fault, served_from, stopped_any, told_outcome, unread_any}
use Rattle.mdbox_top.proofs.NumbersLemmas.{both_counted}

-- ---- a made script reads no message

unread_turn : (number i lane round turn : ℕ) → is_fetch (made_turn number i lane round turn) ≡ false
unread_turn number i lane round zero = refl
unread_turn number i lane round (suc zero) = refl
unread_turn number i lane round (suc (suc zero)) = refl
unread_turn number i lane round (suc (suc (suc turn))) = refl

unread_round : (number i lane s : ℕ) → is_fetch (made_round number i lane s) ≡ false
unread_round number i lane zero = refl
unread_round number i lane (suc s) = unread_turn number i lane (s / 4) (s % 4)

none_of : {X Y : Type 0} → (p : Y → Bool) (f : X → Y) → ((x : X) → p (f x) ≡ false) → (xs : List X) → list_any p (map f xs) ≡ false
none_of p f none [] = refl
none_of {X = X} {Y = Y} p f none (x ∷ xs) = ap (λ (b : Bool). b || list_any p (map f xs)) (none x) ∙ none_of p f none xs

pub made_unread : (lanes count number : ℕ) → has_fetch (made_requests lanes count number) ≡ false
made_unread lanes count number = none_of (λ (asked : ℕ × Request). is_fetch asked.1) (made_request lanes number) (λ i. unread_round number i (i % lanes + 1) (i / lanes)) (below count)

-- so it may be served whatever the disk is
pub may_be_served : (script : Requests) (old : Option History) → has_fetch script ≡ false → MayBeServed script old
may_be_served script old none = ([], λ e. absurd (let k : true ≡ false = sym e ∙ none in cc k))

-- ---- what is printed

-- it doesn't end as a fault of the disk, so no reply says that it failed
pub none_failed : (replies : List (Option Reply)) → (replies_outcome replies ≡ outcome.DiskFault → ⊥) → list_any is_disk_no replies ≡ false
none_failed replies unlike = not_true (list_any is_disk_no replies) (λ e. unlike (told_outcome replies e))

-- then the nine lines are printed
text_is : (replies : List (Option Reply)) (m : MapMeaning) (meanings : List BoxMeaning) (summary : Summary) → list_any is_disk_no replies ≡ false → summary ≡ summary_of replies m meanings → summary_text summary ≡ exercise_text replies m meanings
text_is replies m meanings summary none is = ap summary_text is ∙ whole
  where
    whole : summary_text (summary_of replies m meanings) ≡ exercise_text replies m meanings
    whole = rw none refl

pub lines_shown : (replies : List (Option Reply)) (m : MapMeaning) (meanings : List BoxMeaning) (summary : Summary) (h k : Option (List ℕ)) (o : Outcome) → list_any is_disk_no replies ≡ false → summary ≡ summary_of replies m meanings → o ≡ replies_outcome replies → Appended h (summary_text summary) k → ShowsReplies (exercise_text replies m meanings) replies h k o
lines_shown replies m meanings summary h k o none is ended a =
    subst (ShowsReplies (exercise_text replies m meanings) replies h k) (sym ended) (replies_whole (exercise_text replies m meanings) replies h k (subst (λ (text : List ℕ). Appended h text k) (text_is replies m meanings summary none is) a))

-- ---- a made script that was done

pub counted_up : {D : Type 0} → (script : Script) (replies : List (Option Reply)) (entries : List JournalEntry) (h k : Option (List ℕ)) (old new : Option History) (f g : Faults) (o : Outcome) → has_fetch script.requests ≡ false → (m : MapMeaning) (meanings : List BoxMeaning) (given : List Reply) → replies ≡ map Some given
    → (done : IsScriptDone script.requests given entries old new f g) → ComesTo script.requests given entries old new f g done m meanings → IsWorkedOut D script.requests script.lanes (map Some given) entries old new f g → ShowsReplies (exercise_text replies m meanings) replies h k o
    → (list_any is_disk_no replies ≡ true → o ≡ outcome.DiskFault) → IsCountedUp D script h k old new f g o
counted_up script replies entries h k old new f g o unread m meanings given are done comes worked shows told =
    let may = may_be_served script.requests old unread in
    let printed = subst (λ (rs : List (Option Reply)). ShowsReplies (exercise_text rs m meanings) rs h k o) are shows in
    let text = exercise_text (map Some given) m meanings in
    let tells : list_any is_disk_no (map Some given) ≡ true → o ≡ outcome.DiskFault = λ e. told (ap (λ (rs : List (Option Reply)). list_any is_disk_no rs) are ∙ e) in
    record {
      given = given;
      journal = entries;
      done = done;
      worked = worked;
      m = m;
      meanings = meanings;
      comes = comes;
      printed = printed;
      told = tells;
      fault = script_fault text given h k f g o (done.faults may) printed;
      quiet = λ none. (done.faults may).quiet (λ (c : HasReadFault given). none (tells (unread_any given c))) (λ (c : HasStopped given). none (tells (stopped_any given c)));
    }

-- the script was served, and what its store and its replies tell was printed
pub counted_from : {D : Type 0} → (history : D → Option History) (faults : D → Faults) (script : Script) (store : StoreValue D) (disk : D) (r replies : List (Option Reply)) (entries : List JournalEntry) (h k : Option (List ℕ)) (old : Option History) (began : Faults) (o : Outcome) → has_fetch script.requests ≡ false → disk ≡ store.disk → r ≡ replies
    → (given : List Reply) × (replies ≡ map Some given) × IsServedOpen script.requests given entries old (history store.disk) began (faults store.disk) store → IsWorkedOut D script.requests script.lanes replies entries old (history store.disk) began (faults store.disk)
    → ShowsReplies (exercise_text r store.map (indexes_of store.boxes)) r h k o → (list_any is_disk_no r ≡ true → o ≡ outcome.DiskFault) → IsCountedUp D script h k old (history disk) began (faults disk) o
counted_from {D} history faults script store disk r replies entries h k old began o unread back same served worked shows told =
    let s = subst (λ (d : D). IsServedOpen script.requests served.0 entries old (history d) began (faults d) store) (sym back) served.2 in
    let w = subst (λ (d : D). IsWorkedOut D script.requests script.lanes (map Some served.0) entries old (history d) began (faults d)) (sym back)
    (subst (λ (rs : List (Option Reply)). IsWorkedOut D script.requests script.lanes rs entries old (history store.disk) began (faults store.disk)) served.1 worked) in
    counted_up script r entries h k old (history disk) began (faults disk) o unread store.map (indexes_of store.boxes) served.0 (same ∙ served.1) s.done s.comes w shows told

-- a store that is stopped replied so
pub stopped_told : (given : List Reply) (replies r : List (Option Reply)) → r ≡ replies → replies ≡ map Some given → HasStopped given → list_any is_disk_no r ≡ true
stopped_told given replies r same are stopped = ap (λ (rs : List (Option Reply)). list_any is_disk_no rs) (same ∙ are) ∙ stopped_any given stopped

-- what is left of the disk, if no change of it failed or it ends as a fault
pub counted_rests : {D : Type 0} → (script : Script) (h k : Option (List ℕ)) (old new : Option History) (f g : Faults) (o : Outcome) → IsCountedUp D script h k old new f g o → ScriptRests script.requests (o ≡ outcome.DiskFault) f g old new
counted_rests script h k old new f g o d = λ none lists s.
    let was = served_from script.requests d.given d.journal old new f g lists d.done s in
    inr (was, was.served.settled (λ (c : HasStopped d.given). none (d.told (stopped_any d.given c)) ((d.done.faults (lists, λ reads. inl s)).stopped c)) s)

pub unopened_made_rests : (script : Requests) (old new : Option History) (f g : Faults) (why : OpenError) → IsUnopened why old new f g → ScriptRests script (opening_outcome why ≡ outcome.DiskFault) f g old new
unopened_made_rests script old new f g why u = λ none lists s. inl (u.settled_again (λ e. none (ap opening_outcome e)) lists s)

pub counted_known : {D : Type 0} → (script : Script) (h k : Option (List ℕ)) (old new : Option History) (f g : Faults) → EndsKnown (IsCountedUp D script h k old new f g)
counted_known script h k old new f g o d = replies_number _ (map Some d.given) h k o d.printed

-- ---- the end of a run

pub exercise_input : {D : Type 0} → (lanes count number : ℕ) (h k : Option (List ℕ)) (old new : Option History) (f g : Faults) (why : InputRefusal) → ExerciseOutcome D lanes count number h k old new f g (outcome.InputRefused why) → ⊥
exercise_input lanes count number h k old new f g why (inl u) = cc u.0
exercise_input {D} lanes count number h k old new f g why (inr d) = opened_refuses (IsCountedUp D (made_script lanes count number) h k old new f g) (counted_known (made_script lanes count number) h k old new f g) h k old new f g why d

pub exercise_damage : {D : Type 0} → (lanes count number : ℕ) (h k : Option (List ℕ)) (old new : Option History) (f g : Faults) (s : StoreRefusal) → ExerciseOutcome D lanes count number h k old new f g (outcome.StoreRefused s) → ExerciseOutcome D lanes count number h k old new f g outcome.NoMemory
exercise_damage lanes count number h k old new f g s (inl u) = absurd (cc u.0)
exercise_damage {D} lanes count number h k old new f g s (inr d) = inr (opened_damage (IsCountedUp D (made_script lanes count number) h k old new f g) (counted_known (made_script lanes count number) h k old new f g) h k old new f g s d)

pub exercise_used : {D : Type 0} → (lanes count number : ℕ) (h k : Option (List ℕ)) (old new : Option History) (f g : Faults) → ExerciseOutcome D lanes count number h k old new f g outcome.Usage → ⊥
exercise_used lanes count number h k old new f g (inl u) = cc u.0
exercise_used {D} lanes count number h k old new f g (inr d) = opened_used (IsCountedUp D (made_script lanes count number) h k old new f g) (counted_known (made_script lanes count number) h k old new f g) h k old new f g d

pub exercise_status : {D : Type 0} → (lanes count number : ℕ) (h k : Option (List ℕ)) (old new : Option History) (f g : Faults) (o : Outcome) → ExerciseOutcome D lanes count number h k old new f g o → (lists : Lists) → IsSettledFor lists old → IsOneOf (0 ∷ 1 ∷ 5 ∷ 6 ∷ 8 ∷ []) (status_of o)
exercise_status lanes count number h k old new f g o (inl u) lists s = inr (inr (inl (ap status_of u.0)))
exercise_status {D} lanes count number h k old new f g o (inr d) lists s = opened_status (IsCountedUp D (made_script lanes count number) h k old new f g) (counted_known (made_script lanes count number) h k old new f g) h k old new f g o d lists s

-- it reads no input
pub exercise_ended : {D : Type 0} → (lanes count number : ℕ) (h k : Option (List ℕ)) (old new : Option History) (f g : Faults) (o : Outcome) → ExerciseOutcome D lanes count number h k old new f g o → (o ≡ outcome.ReadFault) ⊎ ((why : InputRefusal) × (o ≡ outcome.InputRefused why)) → ⊥
exercise_ended lanes count number h k old new f g o (inl u) (inl e) = cc (sym u.0 ∙ e)
exercise_ended lanes count number h k old new f g o (inl u) (inr w) = let e : outcome.NoMemory ≡ outcome.InputRefused w.0 = sym u.0 ∙ w.1 in cc e
exercise_ended {D} lanes count number h k old new f g o (inr d) e = opened_ended (IsCountedUp D (made_script lanes count number) h k old new f g) (counted_known (made_script lanes count number) h k old new f g) h k old new f g o d e

pub exercise_rests_as : (lanes count number : ℕ) (F G : Type 0) (f g : Faults) (old new : Option History) → (F → G) → ExerciseRests lanes count number F f g old new → ExerciseRests lanes count number G f g old new
exercise_rests_as lanes count number F G f g old new h (inl same) = inl same
exercise_rests_as lanes count number F G f g old new h (inr d) = inr (λ none. d (λ failed. none (h failed)))

-- ---- the first three numbers

requests_many : (n : ℕ) → length (below n) ≡ n
requests_many n = sym (length-map (below n) (made_octet n)) ∙ message_length n

pub requests_counted : {D : Type 0} → (lanes count number : ℕ) (h k : Option (List ℕ)) (old new : Option History) (f g : Faults) (o : Outcome) → (d : IsCountedUp D (made_script lanes count number) h k old new f g o) → length (map Some d.given) ≡ count
requests_counted lanes count number h k old new f g o d = length-map d.given Some ∙ (d.done.each ∙ (length-map (below count) (made_request lanes number) ∙ requests_many count))

-- a run that ends as done has no refusal
no_refusal : (b c d : Bool) → outcome.Done ≡ (if b then outcome.DiskFault else (if c then outcome.NoMemory else (if d then outcome.No else outcome.Done))) → d ≡ false
no_refusal true c d e = absurd (cc e)
no_refusal false true d e = absurd (cc e)
no_refusal false false true e = absurd (cc e)
no_refusal false false false e = refl

none_counted : {X : Type 0} → (p : X → Bool) (xs : List X) → list_any p xs ≡ false → count_by p xs ≡ 0
none_counted p [] e = refl
none_counted {X} p (x ∷ xs) e = by_test (λ k. none_counted p xs k) (p x) refl e
  where
    more : count_by p (x ∷ xs) ≡ cond (p x) 1 0 + count_by p xs
    more = sum_by-cons (λ (y : X). cond (p y) 1 0) x xs

    by_test : (list_any p xs ≡ false → count_by p xs ≡ 0) → (b : Bool) → p x ≡ b → (b || list_any p xs) ≡ false → count_by p (x ∷ xs) ≡ 0
    by_test next true is any = absurd (let k : true ≡ false = any in cc k)
    by_test next false is any = let rest = next any in let one : ◌≡◌ {A = ℕ} (cond (p x) 1 0) 0 = ap (λ (b : Bool). cond b 1 0) is in omega (arith, more, one, rest)

pub all_done : {D : Type 0} → (lanes count number : ℕ) (h k : Option (List ℕ)) (old new : Option History) (f g : Faults) → (d : IsCountedUp D (made_script lanes count number) h k old new f g outcome.Done) → (count_by (λ one. not (is_no one)) (map Some d.given) ≡ count) × (count_by is_no (map Some d.given) ≡ 0)
all_done lanes count number h k old new f g d =
    let replies = map Some d.given in
    let none = none_counted is_no replies (no_refusal (list_any is_disk_no replies) (list_any is_lack replies) (list_any is_no replies) d.printed.0) in
    let both = both_counted is_no replies in
    let many = requests_counted lanes count number h k old new f g outcome.Done d in
    (omega (arith, none, both, many), none)
