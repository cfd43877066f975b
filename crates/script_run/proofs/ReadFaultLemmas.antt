-- A request of which a read failed is replied so, or that the store is stopped.
use Rattle.std.specs.Prelude.{◌≡◌, ◌≤◌, ◌==◌, ◌||◌, ◌++◌, ◌⊎◌, ℕ, zero, suc, Bool, true, false, cond, if◌then◌else◌, List, [], ◌∷◌, filter, length, slice_get, take, Option, Some, None}
use Rattle.std.specs.List.{list_any}
use Rattle.std.specs.Option.{IfSome, option_or}
use Rattle.std.proofs.Common.{refl, sym, ◌∙◌, ap, subst, arith, inl, inr}
use Rattle.std.proofs.lemmas.Grind.{common_steps}
use Rattle.mdbox_base.specs.declared.ids.Uid.{Uid}
use Rattle.mdbox_base.specs.declared.replies.Refusal.{Refusal}
use Rattle.mdbox_base.specs.declared.replies.Refusal.TheVariants as refusal
use Rattle.mdbox_base.specs.declared.replies.Reply.{Reply}
use Rattle.mdbox_base.specs.declared.replies.Reply.TheVariants as reply
use Rattle.mdbox_base.specs.declared.requests.Request.{Request}
use Rattle.mdbox_base.specs.declared.requests.Request.TheVariants as request
use Rattle.model_lists.specs.Lists.{Lists}
use Rattle.list_machine.specs.Machine.{first_refusal, is_step, part_checks}
use Rattle.list_machine.specs.Run.{EventPart, Last, StartsOver, ReadsPiece, Unpins, RemovesFile, RunEvent, Run, and_then, before, first_in, own_events, reply_of}
use Rattle.journal.specs.Events.{Around, IsEvent, IsRepliedBy, MayMeet, behind_addition, behind_event, behind_fetch, behind_piece, behind_refused, has_memory, is_fault, is_faulted, is_piece, last_refusal, leaves_doomed, next_part, reads_octets}
use Rattle.journal.specs.Journal.{JournalStep, Requests, refusal_in}
use Rattle.journal.specs.Makes.{AreNextEvents, lists_before}
use Rattle.journal.proofs.OwnEventLemmas.{own_more, own_other}
use Rattle.journal.proofs.ReachedLemmas.{within_some}

-- ---- one event more

last_some : (es : List RunEvent) (e : RunEvent) (why : Refusal) → e.refused ≡ Some why → last_refusal (es ++ e ∷ []) ≡ Some why
last_some [] e why h = h
last_some (x ∷ es) e why h = ap (λ (o : Option Refusal). option_or o x.refused) (last_some es e why h)

last_none : (es : List RunEvent) (e : RunEvent) → e.refused ≡ None → last_refusal (es ++ e ∷ []) ≡ last_refusal es
last_none [] e h = h
last_none (x ∷ es) e h = ap (λ (o : Option Refusal). option_or o x.refused) (last_none es e h)

next_last : (around : Around) (run : Run) (asked : Request) (es : List RunEvent) (e : RunEvent) → next_part around run asked (es ++ e ∷ []) ≡ behind_event around run asked e e.refused
next_last around run asked [] e = refl
next_last around run asked (x ∷ []) e = refl
next_last around run asked (x ∷ y ∷ rest) e = next_last around run asked (y ∷ rest) e

or_yes : (b : Bool) → (b || true) ≡ true
or_yes true = refl
or_yes false = refl

or_no : (b : Bool) → (b || false) ≡ true → b ≡ true
or_no true h = refl
or_no false h = h

any_more : (es : List RunEvent) (e : RunEvent) → list_any is_faulted (es ++ e ∷ []) ≡ true → (list_any is_faulted es ≡ true) ⊎ (is_faulted e ≡ true)
any_more [] e t = inr (or_no (is_faulted e) t)
any_more (x ∷ es) e t = by_test (is_faulted x) t (any_more es e)
  where
    by_test : (b : Bool) → (b || list_any is_faulted (es ++ e ∷ [])) ≡ true → (list_any is_faulted (es ++ e ∷ []) ≡ true → (list_any is_faulted es ≡ true) ⊎ (is_faulted e ≡ true)) → ((b || list_any is_faulted es) ≡ true) ⊎ (is_faulted e ≡ true)
    by_test true t rest = inl refl
    by_test false t rest = rest t

is_read_fault_of : (o : Option Refusal) → is_fault o ≡ true → o ≡ Some refusal.ReadFault
is_read_fault_of None t = absurd (let k : false ≡ true = t in cc k)
is_read_fault_of (Some refusal.ReadFault) t = refl
is_read_fault_of (Some why) t = absurd (let k : false ≡ true = t in cc k)

-- ---- what is left of a request behind a read fault

-- a fetch that unpins
abbrev IsUnpinning : Request → EventPart → Type 0
IsUnpinning (request.Fetch name uid) Unpins = Unit {0}
IsUnpinning (request.Fetch name uid) RemovesFile = Unit {0}
IsUnpinning asked part = ⊥

abbrev IsLeft : Request → Option EventPart → Type 0
IsLeft asked None = Unit {0}
IsLeft asked (Some part) = IsUnpinning asked part

abbrev EndsIt : Option Refusal → Type 0
EndsIt why = (why ≡ Some refusal.ReadFault) ⊎ (why ≡ Some refusal.Stopped)

-- The last refusal says it, and at most a file is unpinned.
record IsFaulted (asked : Request) (own : List RunEvent) : Type 0 where
  ends : EndsIt (last_refusal own)
  left : (around : Around) (run : Run) → IsLeft asked (next_part around run asked own)

abbrev IfFaulted : Request → List RunEvent → Type 0
IfFaulted asked own = list_any is_faulted own ≡ true → IsFaulted asked own

addition : (part : EventPart) (asked : Request) → reads_octets part asked ≡ true → behind_addition part refusal.ReadFault ≡ None
addition Last asked t = absurd (let k : false ≡ true = t in cc k)
addition StartsOver asked t = absurd (let k : false ≡ true = t in cc k)
addition part asked t = refl

piece : (name : List ℕ) (uid : Uid) (part : EventPart) → IsLeft (request.Fetch name uid) (behind_piece part refusal.ReadFault)
piece name uid ReadsPiece = tt
piece name uid part = tt

unpins : (asked : Request) (part : EventPart) → reads_octets part asked ≡ true → IsLeft asked (behind_refused asked part refusal.ReadFault)
unpins (request.Deliver name time octets) part t = subst (IsLeft (request.Deliver name time octets)) (sym (addition part (request.Deliver name time octets) t)) tt
unpins (request.Copy name uid target) part t = subst (IsLeft (request.Copy name uid target)) (sym (addition part (request.Copy name uid target) t)) tt
unpins (request.Move name uid target) part t = subst (IsLeft (request.Move name uid target)) (sym (addition part (request.Move name uid target) t)) tt
unpins (request.Fetch name uid) part t = piece name uid part
unpins asked part t = tt

-- the event that was refused
first_fault : (around after : Around) (run : Run) (lists : Lists) (asked : Request) (own : List RunEvent) (e : RunEvent) → IsEvent around after run lists asked e → e.refused ≡ Some refusal.ReadFault → IsFaulted asked (own ++ e ∷ [])
first_fault around after run lists asked own e is why = record {
  ends = inl (last_some own e refusal.ReadFault why);
  left = λ other later. subst (IsLeft asked) (sym (next_last other later asked own e))
      (subst (λ (o : Option Refusal). IsLeft asked (behind_event other later asked e o)) (sym why) (unpins asked e.part (subst (λ (o : Option Refusal). IfSome o (MayMeet e.part asked)) why is.may)));
}

left_if : (name : List ℕ) (uid : Uid) (b : Bool) → IsLeft (request.Fetch name uid) (if b then Some RemovesFile else None)
left_if name uid true = tt
left_if name uid false = tt

-- what a part that unpins is
record Unpinning (name : List ℕ) (uid : Uid) (part : EventPart) : Type 0 where
  memory : has_memory part (request.Fetch name uid) ≡ true
  whole : is_piece part ≡ false
  reads : reads_octets part (request.Fetch name uid) ≡ false
  unchecked : (run : Run) (lists : Lists) (e : RunEvent) → first_refusal run lists (part_checks run e (request.Fetch name uid) part) ≡ None
  behind : (run : Run) (e : RunEvent) → IsLeft (request.Fetch name uid) (behind_fetch run e part)
  last : behind_piece part refusal.Stopped ≡ None

unpinning : (name : List ℕ) (uid : Uid) (part : EventPart) → IsUnpinning (request.Fetch name uid) part → Unpinning name uid part
unpinning name uid Unpins u = record { memory = refl; whole = refl; reads = refl; unchecked = λ run lists e. refl; behind = λ run e. left_if name uid (leaves_doomed e.request run); last = refl }
unpinning name uid RemovesFile u = record { memory = refl; whole = refl; reads = refl; unchecked = λ run lists e. refl; behind = λ run e. tt; last = refl }
unpinning name uid part u = absurd u

-- an event behind it
unpins_on : (around after : Around) (run : Run) (lists : Lists) (name : List ℕ) (uid : Uid) (own : List RunEvent) (e : RunEvent) → IsEvent around after run lists (request.Fetch name uid) e → Unpinning name uid e.part → IsFaulted (request.Fetch name uid) own → IsFaulted (request.Fetch name uid) (own ++ e ∷ [])
unpins_on around after run lists name uid own e is u k = by_refused e.refused refl
  where
    asked : Request
    asked = request.Fetch name uid

    step_refused : (why : Refusal) → e.refused ≡ Some why → is_step why ≡ true → ⊥
    step_refused why h s = let n : None ≡ Some why = sym (u.unchecked run lists e) ∙ is.refused why h s in cc n

    by_refused : (o : Option Refusal) → e.refused ≡ o → IsFaulted asked (own ++ e ∷ [])
    by_refused None h = record {
      ends = subst EndsIt (sym (last_none own e h)) k.ends;
      left = λ other later. subst (IsLeft asked) (sym (next_last other later asked own e)) (subst (λ (o : Option Refusal). IsLeft asked (behind_event other later asked e o)) (sym h) (u.behind later e));
    }
    by_refused (Some refusal.Stopped) h = record {
      ends = inr (last_some own e refusal.Stopped h);
      left = λ other later. subst (IsLeft asked) (sym (next_last other later asked own e)) (subst (λ (o : Option Refusal). IsLeft asked (behind_event other later asked e o)) (sym h) (subst (IsLeft asked) (sym u.last) tt));
    }
    by_refused (Some refusal.NoMemory) h = absurd (let n : true ≡ false = sym u.memory ∙ is.memory h in cc n)
    by_refused (Some refusal.ReadFault) h = first_fault around after run lists asked own e is h
    by_refused (Some (refusal.Damaged file offset)) h = absurd (let n : false ≡ true = sym u.whole ∙ subst (λ (o : Option Refusal). IfSome o (MayMeet e.part asked)) h is.may in cc n)
    by_refused (Some why) h = absurd (step_refused why h refl)

unpin_asked : (asked : Request) (part : EventPart) → IsUnpinning asked part → (name : List ℕ) × (uid : Uid) × (asked ≡ request.Fetch name uid)
unpin_asked (request.Fetch name uid) part u = (name, uid, refl)
unpin_asked asked part u = absurd u

-- So it is with each event more.
faulted_more : (around after : Around) (run : Run) (lists : Lists) (asked : Request) (own : List RunEvent) (e : RunEvent) → own_events e.request run ≡ own → IsEvent around after run lists asked e → IfFaulted asked own → IfFaulted asked (own ++ e ∷ [])
faulted_more around after run lists asked own e same is told t = by_which (any_more own e t)
  where
    by_asked : (name : List ℕ) (uid : Uid) → request.Fetch name uid ≡ asked → IsEvent around after run lists asked e → IsFaulted asked own → IsUnpinning asked e.part → IsFaulted asked (own ++ e ∷ [])
    by_asked name uid one = subst (λ (q : Request). IsEvent around after run lists q e → IsFaulted q own → IsUnpinning q e.part → IsFaulted q (own ++ e ∷ [])) one
        (λ is k u. unpins_on around after run lists name uid own e is (unpinning name uid e.part u) k)

    behind : IsFaulted asked own → IsFaulted asked (own ++ e ∷ [])
    behind k =
        let u : IsUnpinning asked e.part = subst (IsLeft asked) (subst (λ (es : List RunEvent). next_part around run asked es ≡ Some e.part) same is.part_is) (k.left around run) in
        let f = unpin_asked asked e.part u in
        by_asked f.0 f.1 (sym f.2) is k u

    by_which : (list_any is_faulted own ≡ true) ⊎ (is_faulted e ≡ true) → IsFaulted asked (own ++ e ∷ [])
    by_which (inl earlier) = behind (told earlier)
    by_which (inr now) = first_fault around after run lists asked own e is (is_read_fault_of e.refused now)

-- ---- a whole run

-- the reply is of a read fault, or of a stopped store
abbrev pub TellsFault : Reply → Type 0
TellsFault given = (given ≡ reply.Refused refusal.ReadFault) ⊎ (given ≡ reply.Refused refusal.Stopped)

tells : (given : Reply) (why : Refusal) → refusal_in given ≡ Some why → given ≡ reply.Refused why
tells (reply.Refused other) why e = ap reply.Refused (let s : Some other ≡ Some why = e in cc s)
tells given why e = absurd (let n : None ≡ Some why = e in cc n)

tells_fault : (given : Reply) (why : Option Refusal) → why ≡ refusal_in given → EndsIt why → TellsFault given
tells_fault given why is (inl e) = inl (tells given refusal.ReadFault (sym is ∙ e))
tells_fault given why is (inr e) = inr (tells given refusal.Stopped (sym is ∙ e))

first_more : (es : List RunEvent) (e : RunEvent) → first_in (λ (x : RunEvent). x.reply) es ≡ None → first_in (λ (x : RunEvent). x.reply) (es ++ e ∷ []) ≡ e.reply
first_more [] e h = or_none e.reply
  where
    or_none : (o : Option Reply) → option_or o None ≡ o
    or_none None = refl
    or_none (Some given) = refl
first_more (x ∷ es) e h = by_reply x.reply h (first_more es e)
  where
    by_reply : (o : Option Reply) → option_or o (first_in (λ (y : RunEvent). y.reply) es) ≡ None → (first_in (λ (y : RunEvent). y.reply) es ≡ None → first_in (λ (y : RunEvent). y.reply) (es ++ e ∷ []) ≡ e.reply) → option_or o (first_in (λ (y : RunEvent). y.reply) (es ++ e ∷ [])) ≡ e.reply
    by_reply None h rest = rest h
    by_reply (Some given) h rest = absurd (let n : Some given ≡ None = h in cc n)

take_more : {X : Type 0} → (xs : List X) (k : ℕ) (x : X) → slice_get xs k ≡ Some x → take (suc k) xs ≡ take k xs ++ x ∷ []
take_more [] k x h = absurd (let n : None ≡ Some x = h in cc n)
take_more (y ∷ ys) zero x h = let s : Some y ≡ Some x = h in let z : y ≡ x = cc s in ap (λ (w : _). w ∷ []) z
take_more (y ∷ ys) (suc k) x h = ap (λ (zs : List _). y ∷ zs) (take_more ys k x h)

take_whole : {X : Type 0} → (xs : List X) → take (length xs) xs ≡ xs
take_whole [] = refl
take_whole (x ∷ xs) = ap (λ (zs : List _). x ∷ zs) (take_whole xs)

-- what is known of a request by then: behind a read fault it ends, and its reply tells it
record SoFar (asked : Request) (i : ℕ) (run : Run) : Type 0 where
  going : IfFaulted asked (own_events i run)
  told : (given : Reply) → reply_of i run ≡ Some given → list_any is_faulted (own_events i run) ≡ true → TellsFault given

so_far : (around after : ℕ → Around) (script : Requests) (start : Lists) (run : Run) (journal : List JournalStep) → AreNextEvents around after script start run journal → (k : ℕ) → k ≤ length run.events → (i : ℕ) (asked : ℕ × Request) → slice_get script i ≡ Some asked → SoFar asked.1 i (before k run)
so_far around after script start run journal next zero l i asked at = record { going = λ t. absurd (none t); told = λ given h t. absurd (none t) }
  where
    none : false ≡ true → ⊥
    none t = cc t
so_far around after script start run journal next (suc k) l i asked at =
    let there = within_some run.events k (omega (arith, l)) in
    by_request there.0 there.1 (there.0.request == i) refl (so_far around after script start run journal next k (omega (arith, l)) i asked at)
  where
    by_request : (e : RunEvent) → slice_get run.events k ≡ Some e → (b : Bool) → (e.request == i) ≡ b → SoFar asked.1 i (before k run) → SoFar asked.1 i (before (suc k) run)
    by_request e here false b s =
        let more : before (suc k) run ≡ and_then (before k run) e = ap (λ (es : List RunEvent). record run { events = es }) (take_more run.events k e here) in
        let own : own_events i (before (suc k) run) ≡ own_events i (before k run) = ap (own_events i) more ∙ own_other i (before k run) e b in
        record {
          going = subst (IfFaulted asked.1) (sym own) s.going;
          told = λ given h t. s.told given (ap (first_in (λ (x : RunEvent). x.reply)) (sym own) ∙ h) (ap (list_any is_faulted) (sym own) ∙ t);
        }
    by_request e here true b s =
        let more : before (suc k) run ≡ and_then (before k run) e = ap (λ (es : List RunEvent). record run { events = es }) (take_more run.events k e here) in
        let own : own_events i (before (suc k) run) ≡ own_events i (before k run) ++ e ∷ [] = ap (own_events i) more ∙ own_more i (before k run) e b in
        let is : e.request ≡ i = grind (arith, common_steps, b) in
        let n = next k e here in
        let asks : n.asked ≡ asked = (let s : Some n.asked ≡ Some asked = sym n.request_is ∙ (ap (slice_get script) is ∙ at) in cc s) in
        let event = subst (λ (q : ℕ × Request). IsEvent (around k) (after k) (before k run) (lists_before start journal k) q.1 e) asks n.is_event in
        let going : IfFaulted asked.1 (own_events i (before k run) ++ e ∷ []) = faulted_more (around k) (after k) (before k run) (lists_before start journal k) asked.1 (own_events i (before k run)) e (ap (λ (j : ℕ). own_events j (before k run)) is) event s.going in
        let unanswered : reply_of i (before k run) ≡ None = subst (λ (j : ℕ). reply_of j (before k run) ≡ None) is n.unanswered in
        let replied : IsRepliedBy (own_events i (before k run) ++ e ∷ []) e.reply = subst (λ (j : ℕ). IsRepliedBy (own_events j (before k run) ++ e ∷ []) e.reply) is event.replied in
        record {
          going = subst (IfFaulted asked.1) (sym own) going;
          told = λ given h t.
              let gives : e.reply ≡ Some given = sym (first_more (own_events i (before k run)) e unanswered) ∙ (ap (first_in (λ (x : RunEvent). x.reply)) (sym own) ∙ h) in
              tells_fault given (last_refusal (own_events i (before k run) ++ e ∷ [])) (subst (IsRepliedBy (own_events i (before k run) ++ e ∷ [])) gives replied) (going (ap (list_any is_faulted) (sym own) ∙ t)).ends;
        }

-- a refused event is one of its request's
any_own : (i : ℕ) (es : List RunEvent) (n : ℕ) (e : RunEvent) → slice_get es n ≡ Some e → e.request ≡ i → is_faulted e ≡ true → list_any is_faulted (filter (λ x. x.request == i) es) ≡ true
any_own i [] n e at is why = absurd (let z : None ≡ Some e = at in cc z)
any_own i (x ∷ xs) zero e at is why =
    let s : Some x ≡ Some e = at in
    let z : x ≡ e = cc s in
    by_test (x.request == i) (let r : x.request ≡ i = ap (λ (y : RunEvent). y.request) z ∙ is in grind (arith, common_steps, r)) (ap is_faulted z ∙ why)
  where
    by_test : (b : Bool) → b ≡ true → is_faulted x ≡ true → list_any is_faulted (cond b (x ∷ filter (λ y. y.request == i) xs) (filter (λ y. y.request == i) xs)) ≡ true
    by_test true t f = ap (λ (b : Bool). b || list_any is_faulted (filter (λ y. y.request == i) xs)) f
    by_test false t f = absurd (cc t)
any_own i (x ∷ xs) (suc n) e at is why = by_test (x.request == i) (any_own i xs n e at is why)
  where
    by_test : (b : Bool) → list_any is_faulted (filter (λ y. y.request == i) xs) ≡ true → list_any is_faulted (cond b (x ∷ filter (λ y. y.request == i) xs) (filter (λ y. y.request == i) xs)) ≡ true
    by_test true rest = ap (λ (b : Bool). is_faulted x || b) rest ∙ or_yes (is_faulted x)
    by_test false rest = rest

-- Where an event was refused by a read fault, the reply of its request tells it.
pub faults_are_told : (around after : ℕ → Around) (script : Requests) (start : Lists) (run : Run) (journal : List JournalStep) → AreNextEvents around after script start run journal → (n : ℕ) (e : RunEvent) → slice_get run.events n ≡ Some e → is_faulted e ≡ true → (given : Reply) → reply_of e.request run ≡ Some given → TellsFault given
faults_are_told around after script start run journal next n e at why given is =
    let k = next n e at in
    let s = subst (λ (es : List RunEvent). SoFar k.asked.1 e.request (record run { events = es })) (take_whole run.events) (so_far around after script start run journal next (length run.events) (omega arith) e.request k.asked k.request_is) in
    s.told given is (any_own e.request run.events n e at refl why)
