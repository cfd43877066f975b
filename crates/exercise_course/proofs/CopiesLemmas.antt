-- A made script never meets NO 13: its messages have new GUIDs, of which few counts are kept.
use Rattle.exercise_course.proofs.Common.{◌≡◌, ◌≤◌, ◌<◌, ◌+◌, ◌/◌, ◌%◌, ◌⊎◌, ℕ, Bool, true, false, cond, if◌then◌else◌, All, List, [], ◌∷◌, ◌++◌, find, length, map, slice_get, slice_index_or, Option, Some, None, refl, AllByRecursion, option_map_or, option_or, sym, ◌∙◌, ap, arith, subst}
use Rattle.exercise_course.proofs.Common.{inl, inr, common_steps, slice_get-get_or, slice_get_within, Faults, Highest, Request, Refusal, Reply, ListedMessage, Mailbox, Lists, change_first, empty_mailbox, MapMeaning, MapRecord, count_of, text_is, EventPart, First, PlacesInstance, TakesFile}
use Rattle.exercise_course.proofs.Common.{StoresRecord, Last, StartsOver, Run, RunEvent, before, map_of, Answers, Does, add_last, add_message, expunge, has_name, is_message_of_uid, mailbox_named, message_at, message_in, set_flags, without_first, AreSteps, Broken, IsStep, JournalStep, refusal_in}
use Rattle.exercise_course.proofs.Common.{IsServed, lane_name, made_request, BeginsFree, is_hindered, is_ok}
use Rattle.std.specs.Prelude.{nat_le}
use Rattle.std.specs.Option.{option_and_then}
use Rattle.std.proofs.lemmas.List.{length-map}
use Rattle.mdbox_base.specs.declared.requests.Request.TheVariants as request
use Rattle.mdbox_base.specs.declared.replies.Refusal.TheVariants as refusal
use Rattle.mdbox_base.specs.declared.replies.Reply.TheVariants as reply
use Rattle.model_octets.proofs.SearchLemmas.{text_yes}
use Rattle.list_machine.specs.Run.{guid_added}
use Rattle.list_machine.specs.Machine.{Check, HasMailbox, IsNotInbox, IsNewName, HasUid, RoomForMailbox, RoomForMessage, NextUid, NextMapUid, NextFiles, TargetFits, NextInstance, NextMailbox, MayBeCopied, first_refusal, part_checks, refusal_at, refused_where}
use Rattle.journal.specs.Journal.{steps_of}
use Rattle.exercise_course.specs.Hindered.{is_stopped}
use Rattle.exercise_course.proofs.CountingLemmas.{IsCountable}
use Rattle.exercise_course.proofs.CourseLemmas.{AreAllPlaces, AreTurns, Turn, all_are_whole, place_of}
use Rattle.exercise_course.proofs.FreshLemmas.{delivered_new, new_few}
use Rattle.exercise_course.proofs.GrownLemmas.{IsNew}
use Rattle.exercise_course.proofs.LegalLemmas.{answer_holds, answer_of, as_steps, each_of_given, filtered, is_of, of_each, one_answer, places_are, request_of, rises, round_plain, script_of, step_asked, times_are, turn_of, within, IsPlain, plain_each}
use Rattle.exercise_course.proofs.NamedLemmas.{IsOfLane, are_straight, request_of_lane}
use Rattle.exercise_course.proofs.PlaceLemmas.{RiseInLanes, times}
use Rattle.exercise_course.proofs.ReadyLemmas.{IsDone, ready_answers}

-- ---- messages with new GUIDs

-- The messages of a lane's mailbox have new GUIDs.
abbrev HasNew : List MapRecord → ℕ → Mailbox → Type 0
HasNew first lanes box = (lane : ℕ) → 1 ≤ lane → lane ≤ lanes → box.name ≡ lane_name lane → AllByRecursion (λ m. IsNew first m.guid) box.messages

abbrev HaveNew : List MapRecord → ℕ → Lists → Type 0
HaveNew first lanes lists = AllByRecursion (HasNew first lanes) lists

all_changed : {X : Type 0} → (P : X → Type 0) (p : X → Bool) (f : X → X) → ((x : X) → P x → P (f x)) → (xs : List X) → AllByRecursion P xs → AllByRecursion P (change_first p f xs)
all_changed P p f keeps [] a = tt
all_changed {X} P p f keeps (x ∷ xs) a = by_test (p x) (all_changed P p f keeps xs a.1)
  where
    by_test : (b : Bool) → AllByRecursion P (change_first p f xs) → AllByRecursion P (if b then f x ∷ xs else x ∷ change_first p f xs)
    by_test true next = (keeps x a.0, a.1)
    by_test false next = (a.0, next)

all_without : {X : Type 0} → (P : X → Type 0) (p : X → Bool) (xs : List X) → AllByRecursion P xs → AllByRecursion P (without_first p xs)
all_without P p [] a = tt
all_without {X} P p (x ∷ xs) a = by_test (p x) (all_without P p xs a.1)
  where
    by_test : (b : Bool) → AllByRecursion P (without_first p xs) → AllByRecursion P (if b then xs else x ∷ without_first p xs)
    by_test true next = a.1
    by_test false next = (a.0, next)

all_push : {X : Type 0} → (P : X → Type 0) (xs : List X) (y : X) → AllByRecursion P xs → P y → AllByRecursion P (xs ++ y ∷ [])
all_push P [] y a h = (h, tt)
all_push P (x ∷ xs) y a h = (a.0, all_push P xs y a.1 h)

all_found : {X : Type 0} → (P : X → Type 0) (p : X → Bool) (xs : List X) (x : X) → AllByRecursion P xs → find p xs ≡ Some x → P x × (p x ≡ true)
all_found P p [] x a f = absurd (cc f)
all_found {X} P p (y ∷ ys) x a f = by_test (p y) refl f (λ k. all_found P p ys x a.1 k)
  where
    by_test : (b : Bool) → p y ≡ b → cond b (Some y) (find p ys) ≡ Some x → (find p ys ≡ Some x → P x × (p x ≡ true)) → P x × (p x ≡ true)
    by_test true e g next = let k : y ≡ x = (let z : Some y ≡ Some x = g in cc z) in (subst P k a.0, ap p (sym k) ∙ e)
    by_test false e g next = next g

-- what a search for a message finds
message_new : (first : List MapRecord) (lanes lane uid : ℕ) (lists : Lists) (m : ListedMessage) → 1 ≤ lane → lane ≤ lanes → HaveNew first lanes lists → message_at (lane_name lane) uid lists ≡ Some m → IsNew first m.guid
message_new first lanes lane uid lists m some few new e = by_box (mailbox_named (lane_name lane) lists) refl e
  where
    by_box : (o : Option Mailbox) → mailbox_named (lane_name lane) lists ≡ o → option_and_then (message_in uid) o ≡ Some m → IsNew first m.guid
    by_box None is f = absurd (cc f)
    by_box (Some box) is f =
        let b = all_found (HasNew first lanes) (has_name (lane_name lane)) lists box new is in
        (all_found (λ (x : ListedMessage). IsNew first x.guid) (is_message_of_uid uid) box.messages m (b.0 lane some few (text_is box.name (lane_name lane) b.1)) f).0

added_new : (first : List MapRecord) (lanes : ℕ) (name : List ℕ) (m : ListedMessage) (lists : Lists) → IsNew first m.guid → HaveNew first lanes lists → HaveNew first lanes (add_message name m lists)
added_new first lanes name m lists new a =
    all_changed (HasNew first lanes) (has_name name) (add_last m) (λ box h lane some few is. all_push (λ (x : ListedMessage). IsNew first x.guid) box.messages (record m { uid = box.next_uid }) (h lane some few is) new) lists a

expunged_new : (first : List MapRecord) (lanes : ℕ) (name : List ℕ) (uid : ℕ) (lists : Lists) → HaveNew first lanes lists → HaveNew first lanes (expunge name uid lists)
expunged_new first lanes name uid lists a =
    all_changed (HasNew first lanes) (has_name name) (λ (mailbox : Mailbox). record mailbox { messages = without_first (is_message_of_uid uid) mailbox.messages })
    (λ box h lane some few is. all_without (λ (x : ListedMessage). IsNew first x.guid) (is_message_of_uid uid) box.messages (h lane some few is)) lists a

flagged_new : (first : List MapRecord) (lanes : ℕ) (name : List ℕ) (uid flags : ℕ) (lists : Lists) → HaveNew first lanes lists → HaveNew first lanes (set_flags name uid flags lists)
flagged_new first lanes name uid flags lists a =
    all_changed (HasNew first lanes) (has_name name) (λ (mailbox : Mailbox). record mailbox { messages = change_first (is_message_of_uid uid) (λ message. record message { flags = flags }) mailbox.messages })
    (λ box h lane some few is. all_changed (λ (x : ListedMessage). IsNew first x.guid) (is_message_of_uid uid) (λ (message : ListedMessage). record message { flags = flags }) (λ x k. k) box.messages (h lane some few is)) lists a

-- a delivery that is done has a new GUID
abbrev GivesNew : List MapRecord → RunEvent → Request → EventPart → Reply → Type 0
GivesNew first event (request.Deliver name time octets) part r = part ≡ Last → refusal_in r ≡ None → (guid : List ℕ) → guid_added event.box_entries ≡ Some guid → IsNew first guid
GivesNew first event other part r = Unit {0}

does_new : (first : List MapRecord) (lanes : ℕ) (run : Run) (event : RunEvent) (old : Lists) (q : Request) (part : EventPart) (r : Reply) (new : Lists) → IsOfLane lanes q → GivesNew first event q part r → HaveNew first lanes old → Does run event old q part r new → HaveNew first lanes new
does_new first lanes run event old (request.Flag name uid flags) First reply.Done new l g a d = subst (HaveNew first lanes) (sym d) (flagged_new first lanes name uid.0 flags old a)
does_new first lanes run event old (request.Make name) Last reply.Done new l g a d = subst (HaveNew first lanes) (sym d.new_is) (all_push (HasNew first lanes) old (empty_mailbox d.number name) a (λ lane some few is. tt))
does_new first lanes run event old (request.Deliver name time octets) Last (reply.Saved uid own) new l g a d =
    subst (HaveNew first lanes) (sym d.new_is) (added_new first lanes name (record { uid = uid.0; flags = 0; time = time; guid = own.0; octets = octets; words = [] }) old (g refl refl own.0 d.guid_is) a)
does_new first lanes run event old (request.Copy name uid target) Last (reply.Copied given) new l g a d =
    subst (HaveNew first lanes) (sym d.new_is) (added_new first lanes target d.message old (message_new first lanes l.0 uid.0 old d.message l.1 l.2 a (subst (λ (n : List ℕ). message_at n uid.0 old ≡ Some d.message) l.3 d.source_is)) a)
does_new first lanes run event old (request.Expunge name uid) First reply.Done new l g a d = subst (HaveNew first lanes) (sym d) (expunged_new first lanes name uid.0 old a)
does_new first lanes run event old (request.List name) part r new l g a d = absurd l
does_new first lanes run event old (request.Fetch name uid) part r new l g a d = absurd l
does_new first lanes run event old (request.Keywords name uid words) part r new l g a d = absurd l
does_new first lanes run event old (request.Move name uid target) part r new l g a d = absurd l
does_new first lanes run event old (request.Delete name) part r new l g a d = absurd l
does_new first lanes run event old (request.Rename name target) part r new l g a d = absurd l
does_new first lanes run event old request.Counts part r new l g a d = absurd l
does_new first lanes run event old (request.Purge) part r new l g a d = absurd l
does_new first lanes run event old (request.Resync) part r new l g a d = absurd l
does_new first lanes run event old q part r new l g a d = absurd d

answers_new : (first : List MapRecord) (lanes : ℕ) (run : Run) (old : Lists) (q : Request) (event : RunEvent) (r : Reply) (new : Lists) → IsOfLane lanes q → GivesNew first event q event.part r → HaveNew first lanes old → Answers run old q event r new → HaveNew first lanes new
answers_new first lanes run old q event (reply.Refused why) new l g a d = subst (HaveNew first lanes) (sym d.1) a
answers_new first lanes run old q event r new l g a d = does_new first lanes run event old q event.part r new l g a d.1

-- ---- NO 13

-- a check that doesn't refuse a copy
abbrev MayCopy : Run → Lists → Check → Type 0
MayCopy run old (MayBeCopied name uid) = (m : ListedMessage) → message_at name uid old ≡ Some m → count_of (map_of run) m.guid < 65535
MayCopy run old other = Unit {0}

refused_as : (holds : Bool) (x r : Refusal) → refused_where holds x ≡ Some r → x ≡ r
refused_as true x r e = cc e
refused_as false x r e = absurd (cc e)

above_is : (a b : ℕ) → b < a → nat_le a b ≡ false
above_is a b lt = grind (arith, common_steps, lt)

no_copy : (run : Run) (old : Lists) (check : Check) (most : ℕ) → MayCopy run old check → refusal_at run old check ≡ Some (refusal.TooManyCopies most) → ⊥
no_copy run old (HasMailbox name) most may e = let k = refused_as _ refusal.NoMailbox _ e in cc k
no_copy run old (IsNotInbox name) most may e = let k = refused_as _ refusal.Inbox _ e in cc k
no_copy run old (IsNewName name) most may e = let k = refused_as _ refusal.Exists _ e in cc k
no_copy run old (HasUid name uid) most may e = let k = refused_as _ refusal.NoMessage _ e in cc k
no_copy run old RoomForMailbox most may e = let k = refused_as _ (refusal.TooManyMailboxes 1024) _ e in cc k
no_copy run old (RoomForMessage name) most may e = let k = refused_as _ (refusal.MailboxFull 1000000) _ e in cc k
no_copy run old (NextUid name) most may e = let k = refused_as _ (refusal.StoreFull 4294967294) _ e in cc k
no_copy run old NextMapUid most may e = let k = refused_as _ (refusal.StoreFull 4294967294) _ e in cc k
no_copy run old (NextFiles many) most may e = let k = refused_as _ (refusal.StoreFull 4294967294) _ e in cc k
no_copy run old (TargetFits octets) most may e = let k = refused_as _ (refusal.StoreFull 4294967294) _ e in cc k
no_copy run old NextInstance most may e = let k = refused_as _ (refusal.StoreFull 4294967294) _ e in cc k
no_copy run old NextMailbox most may e = let k = refused_as _ (refusal.StoreFull 4294967294) _ e in cc k
no_copy run old (MayBeCopied name uid) most may e = by_message (message_at name uid old) refl e
  where
    by_message : (o : Option ListedMessage) → message_at name uid old ≡ o → refused_where (option_map_or (λ m. nat_le 65535 (count_of (map_of run) m.guid)) o false) (refusal.TooManyCopies 65535) ≡ Some (refusal.TooManyCopies most) → ⊥
    by_message None is f = cc f
    by_message (Some m) is f =
        let less = above_is 65535 (count_of (map_of run) m.guid) (may m is) in
        let g : None ≡ Some (refusal.TooManyCopies most) = sym (ap (λ (b : Bool). refused_where b (refusal.TooManyCopies 65535)) less) ∙ f in
        cc g

first_no_copy : (run : Run) (old : Lists) (checks : List Check) (most : ℕ) → AllByRecursion (MayCopy run old) checks → first_refusal run old checks ≡ Some (refusal.TooManyCopies most) → ⊥
first_no_copy run old [] most may e = cc e
first_no_copy run old (check ∷ checks) most may e = by_first (refusal_at run old check) refl e (λ k. first_no_copy run old checks most may.1 k)
  where
    by_first : (o : Option Refusal) → refusal_at run old check ≡ o → option_or o (first_refusal run old checks) ≡ Some (refusal.TooManyCopies most) → (first_refusal run old checks ≡ Some (refusal.TooManyCopies most) → ⊥) → ⊥
    by_first None is f next = next f
    by_first (Some x) is f next = no_copy run old check most may.0 (is ∙ f)

-- the message of a copy has few
abbrev CanCopy : Run → Lists → Request → Type 0
CanCopy run old (request.Copy name uid target) = (m : ListedMessage) → message_at name uid.0 old ≡ Some m → count_of (map_of run) m.guid < 65535
CanCopy run old other = Unit {0}

checks_copy : (run : Run) (event : RunEvent) (old : Lists) (q : Request) (part : EventPart) → IsPlain q → CanCopy run old q → AllByRecursion (MayCopy run old) (part_checks run event q part)
checks_copy run event old (request.Make name) First p c = (tt, (tt, (tt, tt)))
checks_copy run event old (request.Make name) Last p c = (tt, (tt, tt))
checks_copy run event old (request.Make name) StartsOver p c = (tt, (tt, tt))
checks_copy run event old (request.Make name) part p c = tt
checks_copy run event old (request.Deliver name time octets) First p c = (tt, (tt, (tt, (tt, tt))))
checks_copy run event old (request.Deliver name time octets) PlacesInstance p c = (tt, tt)
checks_copy run event old (request.Deliver name time octets) (TakesFile true) p c = (tt, tt)
checks_copy run event old (request.Deliver name time octets) StoresRecord p c = (tt, tt)
checks_copy run event old (request.Deliver name time octets) Last p c = (tt, (tt, (tt, tt)))
checks_copy run event old (request.Deliver name time octets) part p c = tt
checks_copy run event old (request.Copy name uid target) First p c = (tt, (tt, (tt, (tt, (tt, (c, tt))))))
checks_copy run event old (request.Copy name uid target) Last p c = (tt, (tt, (tt, (tt, (tt, tt)))))
checks_copy run event old (request.Copy name uid target) StartsOver p c = (tt, (tt, (tt, (tt, (tt, tt)))))
checks_copy run event old (request.Copy name uid target) part p c = tt
checks_copy run event old (request.Expunge name uid) First p c = (tt, (tt, tt))
checks_copy run event old (request.Expunge name uid) part p c = tt
checks_copy run event old (request.Flag name uid flags) First p c = (tt, (tt, tt))
checks_copy run event old (request.Flag name uid flags) part p c = tt
checks_copy run event old q part p c = absurd p

-- what hinders a ready request stops it
hindered_stops : (run : Run) (old : Lists) (q : Request) (event : RunEvent) (r : Reply) (new : Lists) → IsPlain q → CanCopy run old q → Answers run old q event r new → is_hindered r ≡ true → is_stopped r ≡ true
hindered_stops run old q event (reply.Refused (refusal.TooManyCopies most)) new p c a h = absurd (first_no_copy run old (part_checks run event q event.part) most (checks_copy run event old q event.part p c) a.0)
hindered_stops run old q event r new p c a h = h

-- ---- the steps of a journal

can_copy : (first : List MapRecord) (lanes : ℕ) (run : Run) (old : Lists) (q : Request) → IsOfLane lanes q → HaveNew first lanes old → ((guid : List ℕ) → IsNew first guid → count_of (map_of run) guid ≤ 50064) → CanCopy run old q
can_copy first lanes run old (request.Copy name uid target) l a few = λ m e. let k = few m.guid (message_new first lanes l.0 uid.0 old m l.1 l.2 a (subst (λ (n : List ℕ). message_at n uid.0 old ≡ Some m) l.3 e)) in omega (arith, k)
can_copy first lanes run old q l a few = tt

gives_new : (first : List MapRecord) (event : RunEvent) (q : Request) (r : Reply) → ((name : List ℕ) (time : ℕ) (octets : List ℕ) → q ≡ request.Deliver name time octets → event.part ≡ Last → refusal_in r ≡ None → (guid : List ℕ) → guid_added event.box_entries ≡ Some guid → IsNew first guid) → GivesNew first event q event.part r
gives_new first event (request.Deliver name time octets) r h = h name time octets refl
gives_new first event q r h = tt

-- the facts of a run that a step needs
record RunFacts (first : List MapRecord) (lanes number : ℕ) (run : Run) : Type 0 where
  few : (n : ℕ) → n ≤ length run.events → (guid : List ℕ) → IsNew first guid → count_of (map_of (before n run)) guid ≤ 50064
  new : (n : ℕ) (event : RunEvent) → slice_get run.events n ≡ Some event → (name : List ℕ) (time : ℕ) (octets : List ℕ) → (made_request lanes number event.request).1 ≡ request.Deliver name time octets → event.part ≡ Last → event.refused ≡ None → (guid : List ℕ) → guid_added event.box_entries ≡ Some guid → IsNew first guid

turns_stop : (first : List MapRecord) (lanes count number : ℕ) (run : Run) (old : Lists) (journal : List JournalStep) → 1 ≤ lanes → RunFacts first lanes number run → AreSteps run (script_of lanes count number) old journal → AreTurns (HaveNew first lanes) is_stopped lanes number old (map turn_of journal)
turns_stop first lanes count number run old [] one facts steps = tt
turns_stop first lanes count number run old (step ∷ journal) one facts steps = (
  λ ready more. with_more more (ready_answers (before step.event run) old (made_request lanes number step.request).1 s.event step.answer step.left ready answers),
  turns_stop first lanes count number run step.left journal one facts steps.1,
)
  where
    s : IsStep run (script_of lanes count number) old step
    s = steps.0

    answers : Answers (before step.event run) old (made_request lanes number step.request).1 s.event step.answer step.left
    answers = subst (λ (asked : ℕ × Request). Answers (before step.event run) old asked.1 s.event step.answer step.left) (step_asked lanes count number run old step s) s.answers

    of_lane : IsOfLane lanes (made_request lanes number step.request).1
    of_lane = request_of_lane lanes number step.request one

    plain : IsPlain (made_request lanes number step.request).1
    plain = round_plain number step.request (step.request % lanes + 1) (step.request / lanes)

    gives : GivesNew first s.event (made_request lanes number step.request).1 s.event.part step.answer
    gives = gives_new first s.event (made_request lanes number step.request).1 step.answer
        (λ name time octets is part none guid added. facts.new step.event s.event s.event_is name time octets (subst (λ (i : ℕ). (made_request lanes number i).1 ≡ request.Deliver name time octets) (sym s.own_request) is) part (s.says ∙ none) guid added)

    with_more : HaveNew first lanes old → (is_hindered step.answer ≡ true) ⊎ ((is_ok step.answer ≡ true) × IsDone (made_request lanes number step.request).1 old step.left)
        → (is_stopped step.answer ≡ true) ⊎ ((is_ok step.answer ≡ true) × IsDone (made_request lanes number step.request).1 old step.left × HaveNew first lanes step.left)
    with_more more (inl h) =
        let le = slice_get_within run.events step.event s.event s.event_is in
        inl (hindered_stops (before step.event run) old (made_request lanes number step.request).1 s.event step.answer step.left plain (can_copy first lanes (before step.event run) old (made_request lanes number step.request).1 of_lane more (facts.few step.event (omega (arith, le)))) answers h)
    with_more more (inr b) = inr (b.0, b.1, answers_new first lanes (before step.event run) old (made_request lanes number step.request).1 s.event step.answer step.left of_lane gives more answers)

-- ---- a run that serves the script

-- no mailbox is a lane's as it begins
begins_new : (first : List MapRecord) (lanes : ℕ) (lists : Lists) → ((lane : ℕ) → 1 ≤ lane → lane ≤ lanes → mailbox_named (lane_name lane) lists ≡ None) → HaveNew first lanes lists
begins_new first lanes [] free = tt
begins_new first lanes (box ∷ lists) free = (own, begins_new first lanes lists rest)
  where
    none_here : (b : Bool) (o : Option Mailbox) → cond b (Some box) o ≡ None → (b ≡ false) × (o ≡ None)
    none_here true o e = absurd (cc e)
    none_here false o e = (refl, e)

    own : HasNew first lanes box
    own lane some few is =
        let no_box = (none_here (has_name (lane_name lane) box) (mailbox_named (lane_name lane) lists) (free lane some few)).0 in
        absurd (let k : true ≡ false = sym (text_yes box.name (lane_name lane) is) ∙ no_box in cc k)

    rest : (lane : ℕ) → 1 ≤ lane → lane ≤ lanes → mailbox_named (lane_name lane) lists ≡ None
    rest lane some few = (none_here (has_name (lane_name lane) box) (mailbox_named (lane_name lane) lists) (free lane some few)).1

pub never_full : (lanes count number : ℕ) (start : Lists) (run : Run) (journal : List JournalStep) (broken : Broken) (given : List Reply) (old new : Faults) (first m : MapMeaning) (drawn : Highest) (calls : ℕ) → IsCountable first → 1 ≤ lanes → lanes ≤ 64 → count ≤ 100000 → BeginsFree lanes start → length given ≡ count → All (λ one. is_stopped one ≡ false) given
    → IsServed start (script_of lanes count number) run journal broken (map Some given) old new first m drawn calls → All (λ one. is_ok one ≡ true) given
never_full lanes count number start run journal broken given old new first m drawn calls countable one most few begins many free served i d lt =
    let begun : IsCountable (map_of (before 0 run)) = subst IsCountable (sym served.begins.map_is) countable in
    let rows = (map_of (before 0 run)).records in
    let straight = are_straight lanes count number served.around served.after start run journal one begins served.next served.legal.steps served.legal.order.events in
    let facts : RunFacts rows lanes number run = record {
      few = new_few lanes count number served.around served.after start run journal one most few begun straight served.next;
      new = delivered_new lanes count number served.around served.after start run journal begun straight served.next;
    } in
    let each = plain_each lanes count number journal given many free served.legal.replied in
    let w = within lanes count number run start journal served.legal.steps in
    let once : (j : ℕ) → j < count → times j (map request_of journal) ≡ 1 = λ j lt. times_are j journal ∙ sym (length-map (steps_of j journal) answer_of) ∙ ap length (each j lt).2 in
    let all : AreAllPlaces count (map place_of (map turn_of journal)) = subst (AreAllPlaces count) (sym (places_are journal)) (record { once = once; within = w }) in
    let rise : RiseInLanes (λ i. i % lanes + 1) (map place_of (map turn_of journal)) = subst (RiseInLanes (λ i. i % lanes + 1)) (sym (places_are journal)) (rises lanes count number run start journal served.legal.steps served.legal.order.lanes) in
    let unstopped = of_each (λ step. is_stopped step.answer ≡ false) count journal w
    (λ j lt. one_answer (λ given. is_stopped given ≡ false) (steps_of j journal) (each j lt).0 (each j lt).2 (each_of_given (λ given. is_stopped given ≡ false) given j (each j lt).0 free (each j lt).1)) in
    let whole = all_are_whole (HaveNew rows lanes) is_stopped lanes number count one most few (map turn_of journal) start all rise begins.free (begins_new rows lanes start begins.free) begins.room (as_turns journal unstopped) (turns_stop rows lanes count number run start journal one facts served.legal.steps) in
    let e = each i (omega (arith, lt, many)) in
    let ok = answer_holds (λ given. is_ok given ≡ true) (steps_of i journal) e.0 e.2 (filtered (λ step. is_ok step.answer ≡ true) (is_of i) journal (as_steps journal whole.ok)) in
    let k : Some (slice_index_or given i d) ≡ Some e.0 = sym (slice_get-get_or given i d lt) ∙ e.1 in
    let same : slice_index_or given i d ≡ e.0 = cc k in
    ap is_ok same ∙ ok
  where
    as_turns : (journal : List JournalStep) → AllByRecursion (λ step. is_stopped step.answer ≡ false) journal → AllByRecursion (λ (turn : Turn). is_stopped turn.answer ≡ false) (map turn_of journal)
    as_turns [] a = tt
    as_turns (step ∷ journal) a = (a.0, as_turns journal a.1)

pub ok_unhindered : (given : List Reply) → All (λ one. is_ok one ≡ true) given → All (λ one. is_hindered one ≡ false) given
ok_unhindered given ok k d lt = free _ (ok k d lt)
  where
    free : (one : Reply) → is_ok one ≡ true → is_hindered one ≡ false
    free (reply.Refused why) e = absurd (cc e)
    free one e = refl
