-- A made script deletes no mailbox and renames none: each name of a lane keeps its mailbox, so that no copy begins again.
use Rattle.exercise_course.proofs.Common.{◌≡◌, ◌≢◌, ◌≤◌, ◌<◌, ◌+◌, ◌-◌, ◌/◌, ◌%◌, ◌==◌, nat_lt, ℕ, zero, suc, Bool, true, false, not, cond, if◌then◌else◌, All, AllPairs, List, [], ◌∷◌, ◌++◌, filter, find, length, map, slice_get, Option, Some, None, is_some, refl}
use Rattle.exercise_course.proofs.Common.{option_map_or, option_or, bytes_eq, sym, ◌∙◌, ap, arith, subst, mod-lt, eq-eqb, eqb-true, ltb-true, ltb-false, common_steps, append-nil, All-head, All-tail, All-weaker, find-append, slice_get_within, MapEntry, Uid, Request}
use Rattle.exercise_course.proofs.Common.{Refusal, Reply, Mailbox, Lists, change_first, empty_mailbox, MapFits, MapMeaning, map_applied, map_meaning, map_more, pairs_head, pairs_tail, text_is, EventPart, First, Last, GivesBack, StartsOver, Run, RunEvent, and_then, before, entries_of}
use Rattle.exercise_course.proofs.Common.{map_of, own_events, Answers, Does, add_last, has_name, is_message_of_uid, mailbox_named, without_first, AreSteps, IsStep, JournalStep, left_by, refusal_in, Around, DidPart, IsEvent, IsNextEvent, behind_event, last_refusal, AreNextEvents, lists_before}
use Rattle.exercise_course.proofs.Common.{own_more, own_other, entries_more, lane_name, made_request, made_round, made_turn, BeginsFree}
use Rattle.std.specs.Prelude.{◌||◌, fold, option_map}
use Rattle.mdbox_base.specs.declared.entries.MapEntry.TheVariants as entry
use Rattle.mdbox_base.specs.declared.requests.Request.TheVariants as request
use Rattle.mdbox_base.specs.declared.replies.Refusal.TheVariants as refusal
use Rattle.mdbox_base.specs.declared.replies.Reply.TheVariants as reply
use Rattle.model_meaning.specs.MapMeaning.{MapBox, box_changed, box_named}
use Rattle.list_machine.specs.Run.{number_made, source_of, uid_copied}
use Rattle.journal.specs.Events.{ends_with_count, is_elsewhere, number_of}
use Rattle.exercise_course.proofs.CountingLemmas.{AreStraight, GoesStraight, IsShort, IsStep as IsCountStep, did_counts, nothing_counts}
use Rattle.exercise_course.proofs.DeliveredLemmas.{event_at, round_simple}
use Rattle.exercise_course.proofs.LegalLemmas.{asked_is, script_length, script_of, step_asked}
use Rattle.exercise_course.proofs.StoringLemmas.{IsSimple, last_of, last_push, next_is, part_after}

-- ---- the number that a name has

abbrev ListedAs : List ℕ → ℕ → Lists → Type 0
ListedAs name number lists = option_map (λ mailbox. mailbox.number) (mailbox_named name lists) ≡ Some number

abbrev MappedAs : List ℕ → ℕ → MapMeaning → Type 0
MappedAs name number m = option_map (λ box. box.number) (box_named m name) ≡ Some number

-- where lists have a mailbox of this name, the map has it, with the same number
abbrev Agree : List ℕ → Lists → MapMeaning → Type 0
Agree name lists m = (number : ℕ) → ListedAs name number lists → MappedAs name number m

-- ---- lists

change_kept : {X Y : Type 0} → (g : X → Y) (p q : X → Bool) (f : X → X) → ((x : X) → p (f x) ≡ p x) → ((x : X) → g (f x) ≡ g x) → (xs : List X) → option_map g (find p (change_first q f xs)) ≡ option_map g (find p xs)
change_kept g p q f same keeps [] = refl
change_kept {X} {Y} g p q f same keeps (x ∷ xs) = by_test (q x) (change_kept g p q f same keeps xs)
  where
    here : (b : Bool) → option_map g (cond b (Some (f x)) (find p xs)) ≡ option_map g (cond b (Some x) (find p xs))
    here true = ap Some (keeps x)
    here false = refl

    there : (b : Bool) → option_map g (find p (change_first q f xs)) ≡ option_map g (find p xs) → option_map g (cond b (Some x) (find p (change_first q f xs))) ≡ option_map g (cond b (Some x) (find p xs))
    there true next = refl
    there false next = next

    by_test : (b : Bool) → option_map g (find p (change_first q f xs)) ≡ option_map g (find p xs) → option_map g (find p (if b then f x ∷ xs else x ∷ change_first q f xs)) ≡ option_map g (find p (x ∷ xs))
    by_test true next = ap (λ (b : Bool). option_map g (cond b (Some (f x)) (find p xs))) (same x) ∙ here (p x)
    by_test false next = there (p x) next

-- a mailbox that is changed keeps name and number
named_kept : (name other : List ℕ) (f : Mailbox → Mailbox) → ((m : Mailbox) → (f m).name ≡ m.name) → ((m : Mailbox) → (f m).number ≡ m.number) → (lists : Lists) (number : ℕ) → ListedAs name number (change_first (has_name other) f lists) → ListedAs name number lists
named_kept name other f names numbers lists number e =
    sym (change_kept (λ (m : Mailbox). m.number) (has_name name) (has_name other) f (λ m. ap (λ (n : List ℕ). bytes_eq n name) (names m)) numbers lists) ∙ e

-- ---- the map

still_mapped : (name : List ℕ) (number : ℕ) (f : MapBox → MapBox) → ((x : MapBox) → (f x).number ≡ x.number) → ((x : MapBox) → (f x).name ≡ x.name) → (boxes made : List MapBox)
    → option_map (λ box. box.number) (find (λ box. bytes_eq box.name name) boxes) ≡ Some number → option_map (λ box. box.number) (find (λ box. bytes_eq box.name name) (map f (filter (λ box. not false) boxes) ++ made)) ≡ Some number
still_mapped name number f numbers names [] made e = absurd (cc e)
still_mapped name number f numbers names (x ∷ xs) made e =
    ap (λ (n : List ℕ). option_map (λ (box : MapBox). box.number) (cond (bytes_eq n name) (Some (f x)) (find (λ box. bytes_eq box.name name) (map f (filter (λ box. not false) xs) ++ made)))) (names x)
    ∙ by_test (bytes_eq x.name name) e (λ h. still_mapped name number f numbers names xs made h)
  where
    by_test : (b : Bool) → option_map (λ box. box.number) (cond b (Some x) (find (λ box. bytes_eq box.name name) xs)) ≡ Some number
        → (option_map (λ box. box.number) (find (λ box. bytes_eq box.name name) xs) ≡ Some number → option_map (λ box. box.number) (find (λ box. bytes_eq box.name name) (map f (filter (λ box. not false) xs) ++ made)) ≡ Some number)
        → option_map (λ box. box.number) (cond b (Some (f x)) (find (λ box. bytes_eq box.name name) (map f (filter (λ box. not false) xs) ++ made))) ≡ Some number
    by_test true h next = ap Some (numbers x) ∙ h
    by_test false h next = next h

generation_number : (x : MapBox) (generation : ℕ) (b : Bool) → (if b then record x { generation = generation } else x).number ≡ x.number
generation_number x generation true = refl
generation_number x generation false = refl

generation_name : (x : MapBox) (generation : ℕ) (b : Bool) → (if b then record x { generation = generation } else x).name ≡ x.name
generation_name x generation true = refl
generation_name x generation false = refl

entry_mapped : (name : List ℕ) (number : ℕ) (m : MapMeaning) (e : MapEntry) → IsCountStep e → MappedAs name number m → MappedAs name number (map_applied e m)
entry_mapped name number m (entry.B mailbox generation made) s h = still_mapped name number (λ box. box) (λ x. refl) (λ x. refl) m.boxes (record { number = mailbox.0; generation = generation; name = made } ∷ []) h
entry_mapped name number m (entry.G mailbox generation) s h =
    still_mapped name number (box_changed (entry.G mailbox generation)) (λ x. generation_number x generation (mailbox.0 == x.number)) (λ x. generation_name x generation (mailbox.0 == x.number)) m.boxes [] h
entry_mapped name number m (entry.X mailbox amounts) s h = absurd s
entry_mapped name number m (entry.V mailbox other) s h = absurd s
entry_mapped name number m e s h = still_mapped name number (λ box. box) (λ x. refl) (λ x. refl) m.boxes [] h

event_mapped : (name : List ℕ) (number : ℕ) (run : Run) (event : RunEvent) → IsShort event.map_entries → MappedAs name number (map_of run) → MappedAs name number (map_of (and_then run event))
event_mapped name number run event short h = subst (λ (l : List MapEntry). MappedAs name number (map_meaning run.store l)) (sym (entries_more run event)) (by_entries event.map_entries short)
  where
    by_entries : (es : List MapEntry) → IsShort es → MappedAs name number (map_meaning run.store (entries_of run ++ es))
    by_entries [] s = subst (λ (l : List MapEntry). MappedAs name number (map_meaning run.store l)) (sym (append-nil (entries_of run))) h
    by_entries (e ∷ []) s = subst (MappedAs name number) (sym (map_more run.store (entries_of run) e)) (entry_mapped name number (map_of run) e s h)
    by_entries (e ∷ more ∷ rest) s = absurd s

-- the mailbox that is made is the first of its name
made_mapped : (name : List ℕ) (box : MapBox) (boxes : List MapBox) → bytes_eq box.name name ≡ true → All (λ x. x.name ≢ box.name) boxes → option_map (λ x. x.number) (find (λ x. bytes_eq x.name name) (map (λ x. x) (filter (λ x. not false) boxes) ++ box ∷ [])) ≡ Some box.number
made_mapped name box [] is apart = ap (λ (b : Bool). option_map (λ (x : MapBox). x.number) (cond b (Some box) None)) is
made_mapped name box (x ∷ xs) is apart = by_test (bytes_eq x.name name) refl (made_mapped name box xs is (All-tail (λ (y : MapBox). y.name ≢ box.name) x xs apart))
  where
    by_test : (b : Bool) → bytes_eq x.name name ≡ b → option_map (λ y. y.number) (find (λ y. bytes_eq y.name name) (map (λ y. y) (filter (λ y. not false) xs) ++ box ∷ [])) ≡ Some box.number
        → option_map (λ y. y.number) (cond b (Some x) (find (λ y. bytes_eq y.name name) (map (λ y. y) (filter (λ y. not false) xs) ++ box ∷ []))) ≡ Some box.number
    by_test true e next = absurd (All-head (λ (y : MapBox). y.name ≢ box.name) x xs apart (text_is x.name name e ∙ sym (text_is box.name name is)))
    by_test false e next = next

-- ---- an event that makes a step

short_event : (around after : Around) (run : Run) (lists : Lists) (q : Request) (event : RunEvent) → IsSimple q → IsEvent around after run lists q event → IsShort event.map_entries
short_event around after run lists q event s ev = by_refused event.refused refl
  where
    by_refused : (r : Option Refusal) → event.refused ≡ r → IsShort event.map_entries
    by_refused None is = (did_counts around run lists q event event.part s (ev.did is)).short
    by_refused (Some why) is = (nothing_counts event (ev.undone why is).0).short

-- a mailbox that is made
make_agrees : (around after : Around) (run : Run) (lists old new : Lists) (name other : List ℕ) (event : RunEvent) (number : ℕ) → IsEvent around after run lists (request.Make other) event → event.refused ≡ None → event.part ≡ Last → number_made event.map_entries ≡ Some number
    → new ≡ old ++ empty_mailbox number other ∷ [] → Agree name old (map_of run) → Agree name new (map_of (and_then run event))
make_agrees around after run lists old new name other event number ev none part made new_is a k listed = by_old (mailbox_named name old) refl
  where
    entries : event.map_entries ≡ entry.B (record { 0 = number_of run event.request }) 1 other ∷ []
    entries = subst (λ (p : EventPart). DidPart around run lists (request.Make other) event p → event.map_entries ≡ entry.B (record { 0 = number_of run event.request }) 1 other ∷ []) (sym part) (λ d. ap (λ (e : RunEvent). e.map_entries) d) (ev.did none)

    same : number_of run event.request ≡ number
    same = let e : Some (number_of run event.request) ≡ Some number = sym (ap number_made entries) ∙ made in cc e

    after_is : map_of (and_then run event) ≡ map_applied (entry.B (record { 0 = number_of run event.request }) 1 other) (map_of run)
    after_is = ap (map_meaning run.store) (entries_more run event ∙ ap (λ (l : List MapEntry). entries_of run ++ l) entries) ∙ map_more run.store (entries_of run) (entry.B (record { 0 = number_of run event.request }) 1 other)

    fits : MapFits (map_of run) (entry.B (record { 0 = number_of run event.request }) 1 other)
    fits = All-head (MapFits (map_of run)) _ [] (subst (All (MapFits (map_of run))) entries ev.fits)

    found : option_map (λ m. m.number) (option_or (mailbox_named name old) (find (has_name name) (empty_mailbox number other ∷ []))) ≡ Some k
    found = ap (option_map (λ (m : Mailbox). m.number)) (sym (find-append (has_name name) old (empty_mailbox number other ∷ []))) ∙ ap (λ (l : Lists). option_map (λ (m : Mailbox). m.number) (mailbox_named name l)) (sym new_is) ∙ listed

    as_made : (b : Bool) → bytes_eq other name ≡ b → option_map (λ m. m.number) (cond b (Some (empty_mailbox number other)) None) ≡ Some k → MappedAs name k (map_applied (entry.B (record { 0 = number_of run event.request }) 1 other) (map_of run))
    as_made true e f = made_mapped name (record { number = number_of run event.request; generation = 1; name = other }) (map_of run).boxes e fits.name_new ∙ ap Some same ∙ f
    as_made false e f = absurd (cc f)

    by_old : (o : Option Mailbox) → mailbox_named name old ≡ o → MappedAs name k (map_of (and_then run event))
    by_old None is = subst (MappedAs name k) (sym after_is) (as_made (bytes_eq other name) refl (sym (ap (λ (o : Option Mailbox). option_map (λ (m : Mailbox). m.number) (option_or o (find (has_name name) (empty_mailbox number other ∷ [])))) is) ∙ found))
    by_old (Some m) is =
        let was : ListedAs name k old = ap (option_map (λ (x : Mailbox). x.number)) is ∙ sym (ap (λ (o : Option Mailbox). option_map (λ (x : Mailbox). x.number) (option_or o (find (has_name name) (empty_mailbox number other ∷ [])))) is) ∙ found in
        event_mapped name k run event (short_event around after run lists (request.Make other) event tt ev) (a k was)

step_agrees : (around after : Around) (run : Run) (lists old new : Lists) (name : List ℕ) (q : Request) (event : RunEvent) (answer : Reply) → IsSimple q → IsEvent around after run lists q event → event.refused ≡ refusal_in answer → Answers run old q event answer new
    → Agree name old (map_of run) → Agree name new (map_of (and_then run event))
step_agrees around after run lists old new name q event answer s ev says answers a = by_answer answer says answers
  where
    short : IsShort event.map_entries
    short = short_event around after run lists q event s ev

    still : new ≡ old → Agree name new (map_of (and_then run event))
    still e k listed = event_mapped name k run event short (a k (subst (ListedAs name k) e listed))

    changed : (other : List ℕ) (f : Mailbox → Mailbox) → ((m : Mailbox) → (f m).name ≡ m.name) → ((m : Mailbox) → (f m).number ≡ m.number) → new ≡ change_first (has_name other) f old → Agree name new (map_of (and_then run event))
    changed other f names numbers e k listed = event_mapped name k run event short (a k (named_kept name other f names numbers old k (subst (ListedAs name k) e listed)))

    by_does : (q : Request) (part : EventPart) (r : Reply) → IsSimple q → IsEvent around after run lists q event → event.refused ≡ refusal_in r → event.part ≡ part → Does run event old q part r new → Agree name new (map_of (and_then run event))
    by_does (request.Make other) Last reply.Done s ev none part d = make_agrees around after run lists old new name other event d.number ev none part d.number_is d.new_is a
    by_does (request.Deliver other time octets) Last (reply.Saved uid own) s ev none part d = changed other (add_last (record { uid = uid.0; flags = 0; time = time; guid = own.0; octets = octets; words = [] })) (λ m. refl) (λ m. refl) d.new_is
    by_does (request.Copy other uid target) Last (reply.Copied given) s ev none part d = changed target (add_last d.message) (λ m. refl) (λ m. refl) d.new_is
    by_does (request.Expunge other uid) First reply.Done s ev none part d = changed other (λ m. record m { messages = without_first (is_message_of_uid uid.0) m.messages }) (λ m. refl) (λ m. refl) d
    by_does (request.Flag other uid flags) First reply.Done s ev none part d =
        changed other (λ m. record m { messages = change_first (is_message_of_uid uid.0) (λ message. record message { flags = flags }) m.messages }) (λ m. refl) (λ m. refl) d
    by_does (request.List other) part r s ev none is d = absurd s
    by_does (request.Fetch other uid) part r s ev none is d = absurd s
    by_does (request.Keywords other uid words) part r s ev none is d = absurd s
    by_does (request.Move other uid target) part r s ev none is d = absurd s
    by_does (request.Delete other) part r s ev none is d = absurd s
    by_does (request.Rename other target) part r s ev none is d = absurd s
    by_does request.Counts part r s ev none is d = absurd s
    by_does request.Purge part r s ev none is d = absurd s
    by_does request.Resync part r s ev none is d = absurd s
    by_does q part r s ev none is d = absurd d

    by_answer : (r : Reply) → event.refused ≡ refusal_in r → Answers run old q event r new → Agree name new (map_of (and_then run event))
    by_answer (reply.Refused why) says d = still d.1
    by_answer r says d = by_does q event.part r s ev says refl d.1

-- ---- the run

-- so many events of the run, as they are next
abbrev Follow : ℕ → ℕ → ℕ → (ℕ → Around) → (ℕ → Around) → Lists → Run → List JournalStep → Type 0
Follow lanes count number around after start run journal = AreNextEvents around after (script_of lanes count number) start run journal

own_event : (lanes count number : ℕ) (around after : ℕ → Around) (start : Lists) (run : Run) (journal : List JournalStep) → Follow lanes count number around after start run journal → (n : ℕ) (event : RunEvent) → slice_get run.events n ≡ Some event
    → IsEvent (around n) (after n) (before n run) (lists_before start journal n) (made_request lanes number event.request).1 event
own_event lanes count number around after start run journal next n event is = subst (λ (asked : ℕ × Request). IsEvent (around n) (after n) (before n run) (lists_before start journal n) asked.1 event) same nx.is_event
  where
    nx : IsNextEvent (around n) (after n) (script_of lanes count number) (before n run) (lists_before start journal n) event
    nx = next n event is

    lt : event.request < count
    lt = let l = script_length lanes count number in let w = slice_get_within (script_of lanes count number) event.request nx.asked nx.request_is in omega (arith, l, w)

    same : nx.asked ≡ made_request lanes number event.request
    same = let k : Some nx.asked ≡ Some (made_request lanes number event.request) = sym nx.request_is ∙ asked_is lanes count number event.request lt in cc k

mapped_later : (lanes count number : ℕ) (around after : ℕ → Around) (start : Lists) (run : Run) (journal : List JournalStep) → Follow lanes count number around after start run journal → (name : List ℕ) (k n d : ℕ) → n + d ≤ length run.events
    → MappedAs name k (map_of (before n run)) → MappedAs name k (map_of (before (n + d) run))
mapped_later lanes count number around after start run journal next name k n zero le h = let z : n + 0 ≡ n = omega arith in subst (λ (i : ℕ). MappedAs name k (map_of (before i run))) (sym z) h
mapped_later lanes count number around after start run journal next name k n (suc d) le h =
    let is : n + suc d ≡ suc (n + d) = omega arith in
    let e = event_at run (n + d) (omega (arith, le)) in
    let ev = own_event lanes count number around after start run journal next (n + d) e.0 e.1 in
    let short = short_event (around (n + d)) (after (n + d)) (before (n + d) run) (lists_before start journal (n + d)) (made_request lanes number e.0.request).1 e.0 (round_simple number e.0.request (e.0.request % lanes + 1) (e.0.request / lanes)) ev in
    let was = mapped_later lanes count number around after start run journal next name k n d (omega (arith, le)) h in
    subst (λ (i : ℕ). MappedAs name k (map_of (before i run))) (sym is) (subst (λ (r : Run). MappedAs name k (map_of r)) (sym e.2) (event_mapped name k (before (n + d) run) e.0 short was))

agree_later : (lanes count number : ℕ) (around after : ℕ → Around) (start : Lists) (run : Run) (journal : List JournalStep) → Follow lanes count number around after start run journal → (name : List ℕ) (lists : Lists) (k n : ℕ) → k ≤ n → n ≤ length run.events
    → Agree name lists (map_of (before k run)) → Agree name lists (map_of (before n run))
agree_later lanes count number around after start run journal next name lists k n le within a found listed =
    let is : k + (n - k) ≡ n = omega (arith, le) in
    subst (λ (i : ℕ). MappedAs name found (map_of (before i run))) is (mapped_later lanes count number around after start run journal next name found k (n - k) (omega (arith, le, within)) (a found listed))

none_kept : (n : ℕ) (journal : List JournalStep) → All (λ s. n ≤ s.event) journal → filter (λ s. nat_lt s.event n) journal ≡ []
none_kept n [] a = refl
none_kept n (step ∷ journal) a =
    ap (λ (b : Bool). cond b (step ∷ filter (λ (s : JournalStep). nat_lt s.event n) journal) (filter (λ (s : JournalStep). nat_lt s.event n) journal)) (not_below step.event n (All-head (λ (s : JournalStep). n ≤ s.event) step journal a))
    ∙ none_kept n journal (All-tail (λ (s : JournalStep). n ≤ s.event) step journal a)
  where
    not_below : (a b : ℕ) → b ≤ a → nat_lt a b ≡ false
    not_below a b h = grind (arith, common_steps, h)

-- what the entries before an event leave agrees with the map that it finds
agree_along : (lanes count number : ℕ) (around after : ℕ → Around) (start : Lists) (run : Run) (journal : List JournalStep) → Follow lanes count number around after start run journal → (name : List ℕ) (n : ℕ) → n ≤ length run.events
    → (steps : List JournalStep) (old : Lists) (k : ℕ) → k ≤ n → AreSteps run (script_of lanes count number) old steps → All (λ s. k ≤ s.event) steps → AllPairs (λ a b. a.event < b.event) steps → Agree name old (map_of (before k run))
    → Agree name (left_by old (filter (λ s. nat_lt s.event n) steps)) (map_of (before n run))
agree_along lanes count number around after start run journal next name n within [] old k le steps above rise a = agree_later lanes count number around after start run journal next name old k n le within a
agree_along lanes count number around after start run journal next name n within (step ∷ rest) old k le steps above rise a =
    by_test (nat_lt step.event n) refl (λ lt. agree_along lanes count number around after start run journal next name n within rest step.left (suc step.event) (omega (arith, lt)) steps.1
    (All-weaker (λ (b : JournalStep). step.event < b.event) (λ (b : JournalStep). suc step.event ≤ b.event) (λ b h. omega (arith, h)) rest behind) (pairs_tail (λ (a b : JournalStep). a.event < b.event) step rest rise) (with_step lt))
  where
    s : IsStep run (script_of lanes count number) old step
    s = steps.0

    behind : All (λ b. step.event < b.event) rest
    behind = pairs_head (λ (a b : JournalStep). a.event < b.event) step rest rise

    with_step : step.event < n → Agree name step.left (map_of (before (suc step.event) run))
    with_step lt =
        let at = event_at run step.event (omega (arith, lt, within)) in
        let same : at.0 ≡ s.event = (let k : Some at.0 ≡ Some s.event = sym at.1 ∙ s.event_is in cc k) in
        let after_is : before (suc step.event) run ≡ and_then (before step.event run) s.event = at.2 ∙ ap (and_then (before step.event run)) same in
        let ev = own_event lanes count number around after start run journal next step.event s.event s.event_is in
        let asked : s.asked ≡ made_request lanes number s.event.request = step_asked lanes count number run old step s ∙ ap (made_request lanes number) (sym s.own_request) in
        let answers = subst (λ (asked : ℕ × Request). Answers (before step.event run) old asked.1 s.event step.answer step.left) asked s.answers in
        let was = agree_later lanes count number around after start run journal next name old k step.event (All-head (λ (s : JournalStep). k ≤ s.event) step rest above) (omega (arith, lt, within)) a in
        subst (λ (r : Run). Agree name step.left (map_of r)) (sym after_is)
        (step_agrees (around step.event) (after step.event) (before step.event run) (lists_before start journal step.event) old step.left name (made_request lanes number s.event.request).1 s.event step.answer (round_simple number s.event.request (s.event.request % lanes + 1) (s.event.request / lanes)) ev s.says answers was)

    by_test : (b : Bool) → nat_lt step.event n ≡ b → (step.event < n → Agree name (left_by step.left (filter (λ s. nat_lt s.event n) rest)) (map_of (before n run)))
        → Agree name (left_by old (if b then step ∷ filter (λ s. nat_lt s.event n) rest else filter (λ s. nat_lt s.event n) rest)) (map_of (before n run))
    by_test true t goes = goes (ltb-true step.event n t)
    by_test false t goes =
        let ge = ltb-false step.event n t in
        let none = none_kept n rest (All-weaker (λ (b : JournalStep). step.event < b.event) (λ (b : JournalStep). n ≤ b.event) (λ b h. omega (arith, h, ge)) rest behind) in
        subst (λ (l : List JournalStep). Agree name (left_by old l) (map_of (before n run))) (sym none) (agree_later lanes count number around after start run journal next name old k n le within a)

-- ---- the events of a copy

-- Where a copy has come: its first event tells the number that its source's name has, and it gives a count back only if its addition
-- was refused.
abbrev IsAt : ℕ → List ℕ → MapMeaning → List RunEvent → RunEvent → EventPart → Type 0
IsAt place name m own e First = (own ≡ e ∷ []) × (e.refused ≡ None → MappedAs name e.source m)
IsAt place name m own e Last = Unit {0}
IsAt place name m own e GivesBack = is_some (last_refusal own) ≡ true
IsAt place name m own e part = ⊥

abbrev HasComeBy : ℕ → List ℕ → MapMeaning → List RunEvent → Option RunEvent → Type 0
HasComeBy place name m own None = Unit {0}
HasComeBy place name m own (Some e) = (e.request ≡ place) × IsAt place name m own e e.part

at_later : (place : ℕ) (name : List ℕ) (m n : MapMeaning) (own : List RunEvent) (last : Option RunEvent) → ((number : ℕ) → MappedAs name number m → MappedAs name number n) → HasComeBy place name m own last → HasComeBy place name n own last
at_later place name m n own None more h = tt
at_later place name m n own (Some e) more h = (h.0, by_part e.part h.1)
  where
    by_part : (part : EventPart) → IsAt place name m own e part → IsAt place name n own e part
    by_part First a = (a.0, λ none. more e.source (a.1 none))
    by_part Last a = tt
    by_part GivesBack a = a
    by_part part a = absurd a

none_own : (own : List RunEvent) → last_of own ≡ None → own ≡ []
unfolding last_of
none_own [] e = refl
none_own (x ∷ []) e = absurd (cc e)
none_own (x ∷ more ∷ rest) e = absurd (let k = none_own (more ∷ rest) e in cc k)

or_some : (a b : Option Refusal) → is_some a ≡ true → is_some (option_or a b) ≡ true
or_some None b e = absurd (cc e)
or_some (Some why) b e = refl

or_last : (a : Option Refusal) (why : Refusal) → is_some (option_or a (Some why)) ≡ true
or_last None why = refl
or_last (Some other) why = refl

refused_last : (own : List RunEvent) (e : RunEvent) (why : Refusal) → last_of own ≡ Some e → e.refused ≡ Some why → is_some (last_refusal own) ≡ true
unfolding last_of
refused_last [] e why is r = absurd (cc is)
refused_last (x ∷ []) e why is r =
    let k : x ≡ e = cc is in
    ap (λ (y : RunEvent). is_some (option_or None y.refused)) k ∙ ap (λ (o : Option Refusal). is_some (option_or None o)) r
refused_last (x ∷ more ∷ rest) e why is r = or_some (last_refusal (more ∷ rest)) x.refused (refused_last (more ∷ rest) e why is r)

refused_more : (own : List RunEvent) (e : RunEvent) → is_some (last_refusal own) ≡ true → is_some (last_refusal (own ++ e ∷ [])) ≡ true
refused_more [] e h = absurd (cc h)
refused_more (x ∷ own) e h = by_rest (last_refusal own) x.refused (λ k. refused_more own e k) h
  where
    by_rest : (o r : Option Refusal) → (is_some o ≡ true → is_some (last_refusal (own ++ e ∷ [])) ≡ true) → is_some (option_or o r) ≡ true → is_some (option_or (last_refusal (own ++ e ∷ [])) r) ≡ true
    by_rest None None next k = absurd (cc k)
    by_rest None (Some why) next k = or_last (last_refusal (own ++ e ∷ [])) why
    by_rest (Some why) r next k = or_some (last_refusal (own ++ e ∷ [])) r (next refl)

-- the name of its source names the mailbox from which it began
stays_here : (run : Run) (place : ℕ) (name : List ℕ) (e : RunEvent) → own_events place run ≡ e ∷ [] → MappedAs name e.source (map_of run) → is_elsewhere run place name ≡ false
stays_here run place name e own mapped = by_box (box_named (map_of run) name) mapped
  where
    source : source_of place run ≡ e.source
    source = ap (fold (λ (last : ℕ) (x : RunEvent). if nat_lt 0 x.source then x.source else last) 0) own ∙ by_test (nat_lt 0 e.source) refl
      where
        by_test : (b : Bool) → nat_lt 0 e.source ≡ b → (if b then e.source else 0) ≡ e.source
        by_test true t = refl
        by_test false t = let ge = ltb-false 0 e.source t in omega (arith, ge)

    by_box : (o : Option MapBox) → option_map (λ box. box.number) o ≡ Some e.source → option_map_or (λ box. not (box.number == source_of place run)) o false ≡ false
    by_box None k = refl
    by_box (Some box) k =
        let is : box.number ≡ e.source = cc k in
        ap not (eq-eqb box.number (source_of place run) (is ∙ sym source))

-- its next event
copy_straight : (around : Around) (run : Run) (place : ℕ) (name target : List ℕ) (uid : Uid) (last : Option RunEvent) (p : EventPart) → last_of (own_events place run) ≡ last → HasComeBy place name (map_of run) (own_events place run) last
    → part_after around run (request.Copy name uid target) last ≡ Some p → GoesStraight (request.Copy name uid target) (own_events place run) p
unfolding part_after
copy_straight around run place name target uid None p is h next =
    let k : First ≡ p = cc next in
    subst (GoesStraight (request.Copy name uid target) (own_events place run)) k (none_own (own_events place run) is)
copy_straight around run place name target uid (Some e) p is h next = by_part e.part e.refused refl h.1 next
  where
    Goes : EventPart → Type 0
    Goes = GoesStraight (request.Copy name uid target) (own_events place run)

    gives : (why : Refusal) → e.refused ≡ Some why → Some GivesBack ≡ Some p → Goes p
    gives why refused k = let same : GivesBack ≡ p = cc k in subst Goes same (refused_last (own_events place run) e why is refused)

    adds : (elsewhere : Bool) → elsewhere ≡ false → (if elsewhere then Some StartsOver else Some Last) ≡ Some p → Goes p
    adds true f k = absurd (cc f)
    adds false f k = let same : Last ≡ p = cc k in subst Goes same tt

    never : (ends : Bool) → ends ≡ true → (if ends then None else Some First) ≡ Some p → Goes p
    never true t k = absurd (cc k)
    never false t k = absurd (cc t)

    or_true : (a b : Bool) → b ≡ true → (a || b) ≡ true
    or_true true b e = refl
    or_true false b e = e

    by_part : (part : EventPart) (r : Option Refusal) → e.refused ≡ r → IsAt place name (map_of run) (own_events place run) e part → behind_event around run (request.Copy name uid target) (record e { part = part }) r ≡ Some p → Goes p
    by_part First None none a k = adds (is_elsewhere run e.request name) (ap (λ (i : ℕ). is_elsewhere run i name) h.0 ∙ stays_here run place name e a.0 (a.1 none)) k
    by_part First (Some why) refused a k = absurd (cc k)
    by_part Last None none a k = absurd (cc k)
    by_part Last (Some refusal.Stopped) refused a k = absurd (cc k)
    by_part Last (Some why) refused a k = gives why refused k
    by_part GivesBack None none a k =
        never (ends_with_count run e.request) (ap (ends_with_count run) h.0 ∙ or_true (is_some (uid_copied place run)) (is_some (last_refusal (own_events place run))) a) k
    by_part GivesBack (Some why) refused a k = absurd (cc k)
    by_part part r refused a k = absurd a

copy_comes : (around after : Around) (run : Run) (lists : Lists) (name target : List ℕ) (uid : Uid) (event : RunEvent) → IsEvent around after run lists (request.Copy name uid target) event → Agree name lists (map_of run)
    → GoesStraight (request.Copy name uid target) (own_events event.request run) event.part → IsAt event.request name (map_of (and_then run event)) (own_events event.request run ++ event ∷ []) event event.part
copy_comes around after run lists name target uid event ev agree straight = by_part event.part refl straight
  where
    short : IsShort event.map_entries
    short = short_event around after run lists (request.Copy name uid target) event tt ev

    begins : event.part ≡ First → event.refused ≡ None → MappedAs name event.source (map_of (and_then run event))
    begins part none =
        let d = subst (λ (p : EventPart). DidPart around run lists (request.Copy name uid target) event p) part (ev.did none) in
        let source : event.source ≡ d.0.number = ap (λ (e : RunEvent). e.source) d.4 in
        let listed : ListedAs name d.0.number lists = ap (option_map (λ (m : Mailbox). m.number)) d.2 in
        event_mapped name event.source run event short (subst (λ (k : ℕ). MappedAs name k (map_of run)) (sym source) (agree d.0.number listed))

    by_part : (part : EventPart) → event.part ≡ part → GoesStraight (request.Copy name uid target) (own_events event.request run) part → IsAt event.request name (map_of (and_then run event)) (own_events event.request run ++ event ∷ []) event part
    by_part First is g = (ap (λ (l : List RunEvent). l ++ event ∷ []) g, begins is)
    by_part Last is g = tt
    by_part GivesBack is g = refused_more (own_events event.request run) event g
    by_part part is g = absurd g

-- ---- the script's copies

-- a request of one of these lanes
abbrev pub IsOfLane : ℕ → Request → Type 0
IsOfLane lanes (request.Make name) = Unit {0}
IsOfLane lanes (request.Deliver name time octets) = Unit {0}
IsOfLane lanes (request.Copy name uid target) = (lane : ℕ) × (1 ≤ lane) × (lane ≤ lanes) × (name ≡ lane_name lane)
IsOfLane lanes (request.Expunge name uid) = Unit {0}
IsOfLane lanes (request.Flag name uid flags) = Unit {0}
IsOfLane lanes other = ⊥

turn_of_lane : (lanes number i lane round turn : ℕ) → 1 ≤ lane → lane ≤ lanes → IsOfLane lanes (made_turn number i lane round turn)
turn_of_lane lanes number i lane round zero some few = tt
turn_of_lane lanes number i lane round (suc zero) some few = (lane, some, few, refl)
turn_of_lane lanes number i lane round (suc (suc zero)) some few = tt
turn_of_lane lanes number i lane round (suc (suc (suc turn))) some few = tt

round_of_lane : (lanes number i lane s : ℕ) → 1 ≤ lane → lane ≤ lanes → IsOfLane lanes (made_round number i lane s)
round_of_lane lanes number i lane zero some few = tt
round_of_lane lanes number i lane (suc s) some few = turn_of_lane lanes number i lane (s / 4) (s % 4) some few

pub request_of_lane : (lanes number i : ℕ) → 1 ≤ lanes → IsOfLane lanes (made_request lanes number i).1
request_of_lane lanes number i one = let rest = mod-lt i one in round_of_lane lanes number i (i % lanes + 1) (i / lanes) (omega arith) (omega (arith, rest))

-- where each copy has come
abbrev HasComeTo : Request → ℕ → Run → Type 0
HasComeTo (request.Copy name uid target) i run = HasComeBy i name (map_of run) (own_events i run) (last_of (own_events i run))
HasComeTo other i run = Unit {0}

come_none : (q : Request) (i : ℕ) (run : Run) → own_events i run ≡ [] → HasComeTo q i run
unfolding last_of
come_none (request.Copy name uid target) i run none = subst (λ (l : List RunEvent). HasComeBy i name (map_of run) l (last_of l)) (sym none) tt
come_none q i run none = tt

come_beside : (q : Request) (i : ℕ) (run : Run) (event : RunEvent) → IsShort event.map_entries → own_events i (and_then run event) ≡ own_events i run → HasComeTo q i run → HasComeTo q i (and_then run event)
come_beside (request.Copy name uid target) i run event short same h =
    subst (λ (l : List RunEvent). HasComeBy i name (map_of (and_then run event)) l (last_of l)) (sym same)
    (at_later i name (map_of run) (map_of (and_then run event)) (own_events i run) (last_of (own_events i run)) (λ number k. event_mapped name number run event short k) h)
come_beside q i run event short same h = tt

-- an event of it, whose part is straight
come_own : (lanes : ℕ) (around after : Around) (run : Run) (lists : Lists) (q : Request) (event : RunEvent) → IsOfLane lanes q → IsEvent around after run lists q event → ((lane : ℕ) → 1 ≤ lane → lane ≤ lanes → Agree (lane_name lane) lists (map_of run)) → HasComeTo q event.request run
    → GoesStraight q (own_events event.request run) event.part × HasComeTo q event.request (and_then run event)
come_own lanes around after run lists (request.Copy name uid target) event l ev agree h = (straight, subst (λ (own : List RunEvent). HasComeBy event.request name (map_of (and_then run event)) own (last_of own)) (sym own_is) come)
  where
    straight : GoesStraight (request.Copy name uid target) (own_events event.request run) event.part
    straight = copy_straight around run event.request name target uid (last_of (own_events event.request run)) event.part refl h (sym (next_is around run (request.Copy name uid target) (own_events event.request run)) ∙ ev.part_is)

    own_is : own_events event.request (and_then run event) ≡ own_events event.request run ++ event ∷ []
    own_is = own_more event.request run event (eq-eqb event.request event.request refl)

    come : HasComeBy event.request name (map_of (and_then run event)) (own_events event.request run ++ event ∷ []) (last_of (own_events event.request run ++ event ∷ []))
    come = subst (HasComeBy event.request name (map_of (and_then run event)) (own_events event.request run ++ event ∷ [])) (sym (last_push (own_events event.request run) event))
        (refl, copy_comes around after run lists name target uid event ev (subst (λ (n : List ℕ). Agree n lists (map_of run)) (sym l.3) (agree l.0 l.1 l.2)) straight)
come_own lanes around after run lists (request.Make name) event l ev agree h = (tt, tt)
come_own lanes around after run lists (request.Deliver name time octets) event l ev agree h = (tt, tt)
come_own lanes around after run lists (request.Expunge name uid) event l ev agree h = (tt, tt)
come_own lanes around after run lists (request.Flag name uid flags) event l ev agree h = (tt, tt)
come_own lanes around after run lists q event l ev agree h = absurd l

-- ---- all of it

-- No copy of a made script begins again, from lists that have none of its mailboxes.
pub are_straight : (lanes count number : ℕ) (around after : ℕ → Around) (start : Lists) (run : Run) (journal : List JournalStep) → 1 ≤ lanes → BeginsFree lanes start → Follow lanes count number around after start run journal → AreSteps run (script_of lanes count number) start journal
    → AllPairs (λ a b. a.event < b.event) journal → AreStraight lanes number run
are_straight lanes count number around after start run journal one begins next steps rise n event is = (own_one n event is (come_to n (let l = slice_get_within run.events n event is in omega (arith, l)))).0
  where
    agree : (n : ℕ) → n ≤ length run.events → (lane : ℕ) → 1 ≤ lane → lane ≤ lanes → Agree (lane_name lane) (lists_before start journal n) (map_of (before n run))
    agree n le lane some few = agree_along lanes count number around after start run journal next (lane_name lane) n le journal start 0 (omega arith) steps (λ k d lt. omega arith) rise
        (λ number listed. absurd (let k : None ≡ Some number = sym (ap (option_map (λ (m : Mailbox). m.number)) (begins.free lane some few)) ∙ listed in cc k))

    AllCome : ℕ → Type 0
    AllCome n = (i : ℕ) → HasComeTo (made_request lanes number i).1 i (before n run)

    own_one : (n : ℕ) (event : RunEvent) → slice_get run.events n ≡ Some event → AllCome n
        → GoesStraight (made_request lanes number event.request).1 (own_events event.request (before n run)) event.part × HasComeTo (made_request lanes number event.request).1 event.request (and_then (before n run) event)
    own_one n event is come =
        come_own lanes (around n) (after n) (before n run) (lists_before start journal n) (made_request lanes number event.request).1 event (request_of_lane lanes number event.request one)
        (own_event lanes count number around after start run journal next n event is) (agree n (let l = slice_get_within run.events n event is in omega (arith, l))) (come event.request)

    come_more : (n : ℕ) → n < length run.events → AllCome n → AllCome (suc n)
    come_more n le was i = by_place (e.0.request == i) refl
      where
        e : (event : RunEvent) × (slice_get run.events n ≡ Some event) × (before (suc n) run ≡ and_then (before n run) event)
        e = event_at run n le

        short : IsShort e.0.map_entries
        short = short_event (around n) (after n) (before n run) (lists_before start journal n) (made_request lanes number e.0.request).1 e.0 (round_simple number e.0.request (e.0.request % lanes + 1) (e.0.request / lanes)) (own_event lanes count number around after start run journal next n e.0 e.1)

        by_place : (b : Bool) → (e.0.request == i) ≡ b → HasComeTo (made_request lanes number i).1 i (before (suc n) run)
        by_place true k = subst (HasComeTo (made_request lanes number i).1 i) (sym e.2)
            (subst (λ (j : ℕ). HasComeTo (made_request lanes number j).1 j (and_then (before n run) e.0)) (eqb-true e.0.request i k) (own_one n e.0 e.1 was).1)
        by_place false k = subst (HasComeTo (made_request lanes number i).1 i) (sym e.2) (come_beside (made_request lanes number i).1 i (before n run) e.0 short (own_other i (before n run) e.0 k) (was i))

    come_to : (n : ℕ) → n ≤ length run.events → AllCome n
    come_to zero le = λ i. come_none (made_request lanes number i).1 i (before 0 run) refl
    come_to (suc n) le = come_more n (omega (arith, le)) (come_to n (omega (arith, le)))
