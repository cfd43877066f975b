-- The events of a delivery in a run: which part comes next, and what is read of those that were.
use Rattle.mail_save.proofs.Common.{◌≡◌, ◌⊎◌, ◌<◌, ◌==◌, ℕ, Bool, true, false, cond, List, [], ◌∷◌, ◌++◌, Option, Some, None, inl, inr, refl, sym, ◌∙◌, ap, subst, append_assoc, append-nil, arith, nat_lt, is_none, is_some, filter, flat_map, if◌then◌else◌, AllByRecursion, option_or, cases_eq, eq-eqb}
use Rattle.mail_save.proofs.Common.{ne_eqb, common_steps, flat_map-append, InstRow, MapEntry, Refusal, EventPart, First, Compares, PlacesInstance, TakesFile, PlacesMessage, StoresRecord, Last, GivesBack, RunEvent, Run, own_events, Around, next_part, HasAttached, AreAttachedSoFar}
use Rattle.std.specs.Prelude.{length}
use Rattle.mdbox_base.specs.declared.replies.Refusal.TheVariants as refusal
use Rattle.mdbox_base.specs.declared.requests.Request.TheVariants as request
use Rattle.list_machine.specs.Run.{TakenFile, first_in, last_in}
use Rattle.journal.specs.Events.{behind_event, behind_delivery, behind_refused, instances_found, file_taken, guid_given, uid_held, uid_raised, last_refusal}
use Rattle.mail_save.specs.SaveStages.{AreTakenSoFar, ArePlacedSoFar, AreStoredSoFar, AreRefusedSoFar}

-- ---- the next part

not_below : (n : ℕ) → nat_lt n n ≡ false
not_below n = grind (arith, common_steps)

below : (a b : ℕ) → a < b → nat_lt a b ≡ true
below a b l = grind (arith, common_steps, l)

-- what comes behind an event that finds no file: the next part of the message, or a storage file
abbrev pub part_by : Around → Bool → Option EventPart
part_by around more = if more then (if is_some around.candidate then Some Compares else Some PlacesInstance) else Some (TakesFile (is_none around.room))

abbrev pub part_after : Around → Run → ℕ → Option EventPart
part_after around run place = part_by around (nat_lt (length (instances_found place run)) around.parts)

refused_none : (around : Around) (run : Run) (name : List ℕ) (time : ℕ) (octets : List ℕ) (event : RunEvent) (part : EventPart) → event.part ≡ part → event.refused ≡ None → behind_event around run (request.Deliver name time octets) event event.refused ≡ behind_delivery around run event part
refused_none around run name time octets event part p r = ap (λ (why : Option Refusal). behind_event around run (request.Deliver name time octets) event why) r ∙ ap (λ (k : EventPart). behind_delivery around run event k) p

-- the last of more events tells the next part
next_in : (around : Around) (run : Run) (name : List ℕ) (time : ℕ) (octets : List ℕ) (front : List RunEvent) (event : RunEvent) (rest : List RunEvent) → next_part around run (request.Deliver name time octets) (front ++ event ∷ rest) ≡ next_part around run (request.Deliver name time octets) (event ∷ rest)
next_in around run name time octets [] event rest = refl
next_in around run name time octets (a ∷ []) event rest = refl
next_in around run name time octets (a ∷ b ∷ front) event rest = next_in around run name time octets (b ∷ front) event rest

-- an event that finds no file, and wasn't refused
record HasNoFile (event : RunEvent) : Type 0 where
  part : (event.part ≡ First) ⊎ ((event.part ≡ Compares) ⊎ (event.part ≡ PlacesInstance))
  refused : event.refused ≡ None

behind_one : (around : Around) (run : Run) (name : List ℕ) (time : ℕ) (octets : List ℕ) (place : ℕ) (event : RunEvent) → HasNoFile event → event.request ≡ place → behind_event around run (request.Deliver name time octets) event event.refused ≡ part_after around run place
behind_one around run name time octets place event h own = by_part h.part ∙ ap (part_after around run) own
  where
    by_part : (event.part ≡ First) ⊎ ((event.part ≡ Compares) ⊎ (event.part ≡ PlacesInstance)) → behind_event around run (request.Deliver name time octets) event event.refused ≡ part_after around run event.request
    by_part (inl p) = refused_none around run name time octets event First p h.refused
    by_part (inr (inl p)) = refused_none around run name time octets event Compares p h.refused
    by_part (inr (inr p)) = refused_none around run name time octets event PlacesInstance p h.refused

attached_unrefused : (event : RunEvent) → HasAttached event → event.refused ≡ None
attached_unrefused event h = ap (λ (e : RunEvent). e.refused) h.did

abbrev IsOf : ℕ → RunEvent → Type 0
IsOf place event = event.request ≡ place

own_kept : (place : ℕ) (events : List RunEvent) → AllByRecursion (IsOf place) (filter (λ (e : RunEvent). e.request == place) events)
own_kept place [] = tt
own_kept place (e ∷ es) = elim (cases_eq e.request place) [
  | inl same ↦ subst (λ (b : Bool). AllByRecursion (IsOf place) (cond b (e ∷ filter (λ (x : RunEvent). x.request == place) es) (filter (λ (x : RunEvent). x.request == place) es))) (sym (eq-eqb e.request place same)) (same, own_kept place es)
  | inr other ↦ subst (λ (b : Bool). AllByRecursion (IsOf place) (cond b (e ∷ filter (λ (x : RunEvent). x.request == place) es) (filter (λ (x : RunEvent). x.request == place) es))) (sym (ne_eqb e.request place other)) (own_kept place es)
]

next_attached : (around : Around) (run : Run) (name : List ℕ) (time : ℕ) (octets : List ℕ) (place : ℕ) (event : RunEvent) (more : List RunEvent) → HasNoFile event → event.request ≡ place → AllByRecursion HasAttached more → AllByRecursion (IsOf place) more
    → next_part around run (request.Deliver name time octets) (event ∷ more) ≡ part_after around run place
next_attached around run name time octets place event [] h own a all = behind_one around run name time octets place event h own
next_attached around run name time octets place event (x ∷ xs) h own a all = next_attached around run name time octets place x xs (record { part = inr a.0.part; refused = attached_unrefused x a.0 }) all.0 a.1 all.1

pub finds_next : (around : Around) (run : Run) (name : List ℕ) (time : ℕ) (octets : List ℕ) (rows : List InstRow) (place : ℕ) → AreAttachedSoFar rows (own_events place run) → next_part around run (request.Deliver name time octets) (own_events place run) ≡ part_after around run place
finds_next around run name time octets rows place h =
    let all = subst (λ (es : List RunEvent). AllByRecursion (IsOf place) es) h.own_are (own_kept place run.events) in
    ap (λ (es : List RunEvent). next_part around run (request.Deliver name time octets) es) h.own_are
    ∙ next_attached around run name time octets place h.first h.more (record { part = inl h.laid.part; refused = ap (λ (e : RunEvent). e.refused) h.laid.did }) all.0 h.attached all.1

pub places_next : (around : Around) (run : Run) (name : List ℕ) (time : ℕ) (octets : List ℕ) (rows : List InstRow) (file : ℕ) (own : List RunEvent) → AreTakenSoFar rows file own → next_part around run (request.Deliver name time octets) own ≡ Some PlacesMessage
places_next around run name time octets rows file own h =
    ap (λ (es : List RunEvent). next_part around run (request.Deliver name time octets) es) h.own_are
    ∙ (next_in around run name time octets h.front h.second [] ∙ refused_none around run name time octets h.second (TakesFile h.took.new) h.took.part (ap (λ (e : RunEvent). e.refused) h.took.did))

pub stores_next : (around : Around) (run : Run) (name : List ℕ) (time : ℕ) (octets : List ℕ) (rows : List InstRow) (file : ℕ) (guid : List ℕ) (own : List RunEvent) → ArePlacedSoFar rows file guid own → next_part around run (request.Deliver name time octets) own ≡ Some StoresRecord
stores_next around run name time octets rows file guid own h =
    ap (λ (es : List RunEvent). next_part around run (request.Deliver name time octets) es) h.own_are
    ∙ (next_in around run name time octets h.front h.second (h.third ∷ []) ∙ refused_none around run name time octets h.third PlacesMessage h.placed.part (ap (λ (e : RunEvent). e.refused) h.placed.did))

pub adds_next : (around : Around) (run : Run) (name : List ℕ) (time : ℕ) (octets : List ℕ) (guid : List ℕ) (uid : ℕ) (own : List RunEvent) → AreStoredSoFar guid uid own → next_part around run (request.Deliver name time octets) own ≡ Some Last
adds_next around run name time octets guid uid own h =
    ap (λ (es : List RunEvent). next_part around run (request.Deliver name time octets) es) h.own_are
    ∙ (next_in around run name time octets h.front h.second (h.third ∷ h.fourth ∷ []) ∙ refused_none around run name time octets h.fourth StoresRecord h.stored.part (ap (λ (e : RunEvent). e.refused) h.stored.did))

pub gives_back_behind : (name : List ℕ) (time : ℕ) (octets : List ℕ) (why : Refusal) → (why ≡ refusal.Stopped → ⊥) → behind_refused (request.Deliver name time octets) Last why ≡ Some GivesBack
gives_back_behind name time octets refusal.NoMailbox other = refl
gives_back_behind name time octets refusal.Inbox other = refl
gives_back_behind name time octets refusal.Exists other = refl
gives_back_behind name time octets refusal.NoMessage other = refl
gives_back_behind name time octets refusal.Sealed other = refl
gives_back_behind name time octets (refusal.TooManyCopies n) other = refl
gives_back_behind name time octets (refusal.MailboxFull n) other = refl
gives_back_behind name time octets (refusal.TooManyMailboxes n) other = refl
gives_back_behind name time octets (refusal.StoreFull n) other = refl
gives_back_behind name time octets refusal.NoMemory other = refl
gives_back_behind name time octets refusal.ReadFault other = refl
gives_back_behind name time octets refusal.Stopped other = absurd (other refl)
gives_back_behind name time octets (refusal.Damaged file offset) other = refl

pub gives_back_next : (around : Around) (run : Run) (name : List ℕ) (time : ℕ) (octets : List ℕ) (uid : ℕ) (why : Refusal) (own : List RunEvent) → (why ≡ refusal.Stopped → ⊥) → AreRefusedSoFar uid why own → next_part around run (request.Deliver name time octets) own ≡ Some GivesBack
gives_back_next around run name time octets uid why own other h =
    ap (λ (es : List RunEvent). next_part around run (request.Deliver name time octets) es) h.own_are
    ∙ (next_in around run name time octets h.front h.second (h.third ∷ h.fourth ∷ h.fifth ∷ []) ∙ (ap (λ (w : Option Refusal). behind_event around run (request.Deliver name time octets) h.fifth w) h.refused.refused
    ∙ (ap (λ (p : EventPart). behind_refused (request.Deliver name time octets) p why) h.refused.part ∙ gives_back_behind name time octets why other)))

-- ---- what its events did

two_none : {X : Type 0} → (a b : List X) → a ≡ [] → b ≡ [] → a ++ b ≡ []
two_none a b x y = rw (x, y) refl

none_in_more : {X : Type 0} → (f : RunEvent → List X) → ((event : RunEvent) → HasAttached event → f event ≡ []) → (more : List RunEvent) → AllByRecursion HasAttached more → flat_map f more ≡ []
none_in_more f h [] a = refl
none_in_more f h (e ∷ es) a = two_none (f e) (flat_map f es) (h e a.0) (none_in_more f h es a.1)

-- what neither the first event nor one that found an instance did
none_in_front : {X : Type 0} → (f : RunEvent → List X) (rows : List InstRow) (front : List RunEvent) (s : AreAttachedSoFar rows front) → f s.first ≡ [] → ((event : RunEvent) → HasAttached event → f event ≡ []) → flat_map f front ≡ []
none_in_front f rows front s first h = ap (flat_map f) s.own_are ∙ two_none (f s.first) (flat_map f s.more) first (none_in_more f h s.more s.attached)

behind_front : {X : Type 0} → (f : RunEvent → List X) (front rest : List RunEvent) → flat_map f front ≡ [] → flat_map f (front ++ rest) ≡ flat_map f rest
behind_front f front rest none = flat_map-append f front rest ∙ ap (λ (xs : List _). xs ++ flat_map f rest) none

no_files : (rows : List InstRow) (front : List RunEvent) → AreAttachedSoFar rows front → flat_map (λ (e : RunEvent). e.files) front ≡ []
no_files rows front s = none_in_front (λ (e : RunEvent). e.files) rows front s (ap (λ (e : RunEvent). e.files) s.laid.did) (λ e h. ap (λ (x : RunEvent). x.files) h.did)

no_guids_given : (rows : List InstRow) (front : List RunEvent) → AreAttachedSoFar rows front → flat_map (λ (e : RunEvent). e.given) front ≡ []
no_guids_given rows front s = none_in_front (λ (e : RunEvent). e.given) rows front s (ap (λ (e : RunEvent). e.given) s.laid.did) (λ e h. ap (λ (x : RunEvent). x.given) h.did)

no_entries : (rows : List InstRow) (front : List RunEvent) → AreAttachedSoFar rows front → flat_map (λ (e : RunEvent). e.map_entries) front ≡ []
no_entries rows front s = none_in_front (λ (e : RunEvent). e.map_entries) rows front s (ap (λ (e : RunEvent). e.map_entries) s.laid.did) (λ e h. ap (λ (x : RunEvent). x.map_entries) h.did)

abbrev files_are : List RunEvent → Option ℕ
files_are es = first_in (λ taken. Some taken.file) (flat_map (λ (e : RunEvent). e.files) es)

pub taken_file : (place : ℕ) (run : Run) (rows : List InstRow) (file : ℕ) → AreTakenSoFar rows file (own_events place run) → file_taken place run ≡ Some file
taken_file place run rows file h =
    ap files_are h.own_are
    ∙ (ap (λ (fs : List TakenFile). first_in (λ (taken : TakenFile). Some taken.file) fs) (behind_front (λ (e : RunEvent). e.files) h.front (h.second ∷ []) (no_files rows h.front h.attached))
    ∙ ap (λ (fs : List TakenFile). first_in (λ (taken : TakenFile). Some taken.file) (fs ++ [])) (ap (λ (e : RunEvent). e.files) h.took.did))

abbrev guids_are : List RunEvent → Option (List ℕ)
guids_are es = first_in (λ guid. Some guid) (flat_map (λ (e : RunEvent). e.given) es)

first_guid : (b c : List (List ℕ)) (guid : List ℕ) → b ≡ [] → c ≡ guid ∷ [] → (more : List (List ℕ)) → first_in (λ (g : List ℕ). Some g) (b ++ (c ++ more)) ≡ Some guid
first_guid b c guid y z more = rw (y, z) refl

pub given_guid : (place : ℕ) (run : Run) (rows : List InstRow) (file : ℕ) (guid : List ℕ) → ArePlacedSoFar rows file guid (own_events place run) → guid_given place run ≡ Some guid
given_guid place run rows file guid h =
    ap guids_are h.own_are
    ∙ (ap (λ (gs : List (List ℕ)). first_in (λ (g : List ℕ). Some g) gs) (behind_front (λ (e : RunEvent). e.given) h.front (h.second ∷ h.third ∷ []) (no_guids_given rows h.front h.attached))
    ∙ first_guid h.second.given h.third.given guid (ap (λ (e : RunEvent). e.given) h.took.did) (ap (λ (e : RunEvent). e.given) h.placed.did) [])

pub given_before : (place : ℕ) (run : Run) (guid : List ℕ) (uid : ℕ) → AreStoredSoFar guid uid (own_events place run) → guid_given place run ≡ Some guid
given_before place run guid uid h =
    ap guids_are h.own_are
    ∙ (ap (λ (gs : List (List ℕ)). first_in (λ (g : List ℕ). Some g) gs) (behind_front (λ (e : RunEvent). e.given) h.front (h.second ∷ h.third ∷ h.fourth ∷ []) (no_guids_given h.rows h.front h.attached))
    ∙ first_guid h.second.given h.third.given guid (ap (λ (e : RunEvent). e.given) h.took.did) (ap (λ (e : RunEvent). e.given) h.placed.did) (h.fourth.given ++ []))

-- the instances that an event found
abbrev pub found_in : RunEvent → List InstRow
found_in e = e.equal ++ e.placed

front_found : (rows : List InstRow) (front : List RunEvent) → AreAttachedSoFar rows front → flat_map found_in front ≡ rows
front_found rows front s = ap (flat_map found_in) s.own_are ∙ (ap (λ (is : List InstRow). is ++ flat_map found_in s.more) (ap found_in s.laid.did) ∙ s.found)

none_more : (rows xs a b : List InstRow) → xs ≡ rows → a ≡ [] → b ≡ [] → xs ++ (a ++ (b ++ [])) ≡ rows
none_more rows xs a b x y z = rw (y, z) (append-nil xs ∙ x)

pub attached_rows : (place : ℕ) (run : Run) (rows : List InstRow) → AreAttachedSoFar rows (own_events place run) → instances_found place run ≡ rows
attached_rows place run rows h = front_found rows (own_events place run) h

-- behind the events that found these instances a file is taken, if each part has its instance
pub takes_next : (around : Around) (run : Run) (name : List ℕ) (time : ℕ) (octets : List ℕ) (rows : List InstRow) (place : ℕ) → length rows ≡ around.parts → AreAttachedSoFar rows (own_events place run)
    → next_part around run (request.Deliver name time octets) (own_events place run) ≡ Some (TakesFile (is_none around.room))
takes_next around run name time octets rows place all h =
    finds_next around run name time octets rows place h
    ∙ ap (part_by around) (ap (λ (is : List InstRow). nat_lt (length is) around.parts) (attached_rows place run rows h) ∙ (ap (λ (n : ℕ). nat_lt n around.parts) all ∙ not_below around.parts))

-- the next part is compared with its candidate, or placed
pub attaches_next : (around : Around) (run : Run) (name : List ℕ) (time : ℕ) (octets : List ℕ) (rows : List InstRow) (place : ℕ) → length rows < around.parts → AreAttachedSoFar rows (own_events place run)
    → next_part around run (request.Deliver name time octets) (own_events place run) ≡ (if is_some around.candidate then Some Compares else Some PlacesInstance)
attaches_next around run name time octets rows place left h =
    finds_next around run name time octets rows place h
    ∙ ap (part_by around) (ap (λ (is : List InstRow). nat_lt (length is) around.parts) (attached_rows place run rows h) ∙ below (length rows) around.parts left)

pub found_rows : (place : ℕ) (run : Run) (rows : List InstRow) (file : ℕ) (guid : List ℕ) → ArePlacedSoFar rows file guid (own_events place run) → instances_found place run ≡ rows
found_rows place run rows file guid h =
    ap (λ (es : List RunEvent). flat_map found_in es) h.own_are
    ∙ (flat_map-append found_in h.front (h.second ∷ h.third ∷ [])
    ∙ none_more rows (flat_map found_in h.front) (found_in h.second) (found_in h.third) (front_found rows h.front h.attached) (ap found_in h.took.did) (ap found_in h.placed.did))

abbrev uids_are : List RunEvent → Option ℕ
uids_are es = last_in uid_raised (flat_map (λ (e : RunEvent). e.map_entries) es)

last_raised : (b c d more : List MapEntry) (entry : MapEntry) (uid : ℕ) → b ≡ [] → c ≡ [] → d ≡ entry ∷ [] → more ≡ [] → uid_raised entry ≡ Some uid → last_in uid_raised (b ++ (c ++ (d ++ more))) ≡ Some uid
last_raised b c d more entry uid y z w none is = rw (y, z, w, none) is

pub held_stored : (place : ℕ) (run : Run) (guid : List ℕ) (uid : ℕ) → AreStoredSoFar guid uid (own_events place run) → uid_held place run ≡ Some uid
held_stored place run guid uid h =
    ap uids_are h.own_are
    ∙ (ap (λ (es : List MapEntry). last_in uid_raised es) (behind_front (λ (e : RunEvent). e.map_entries) h.front (h.second ∷ h.third ∷ h.fourth ∷ []) (no_entries h.rows h.front h.attached))
    ∙ last_raised h.second.map_entries h.third.map_entries h.fourth.map_entries [] h.stored.entry uid (ap (λ (e : RunEvent). e.map_entries) h.took.did) (ap (λ (e : RunEvent). e.map_entries) h.placed.did) (ap (λ (e : RunEvent). e.map_entries) h.stored.did) refl h.stored.raised)

pub held_refused : (place : ℕ) (run : Run) (uid : ℕ) (why : Refusal) → AreRefusedSoFar uid why (own_events place run) → uid_held place run ≡ Some uid
held_refused place run uid why h =
    ap uids_are h.own_are
    ∙ (ap (λ (es : List MapEntry). last_in uid_raised es) (behind_front (λ (e : RunEvent). e.map_entries) h.front (h.second ∷ h.third ∷ h.fourth ∷ h.fifth ∷ []) (no_entries h.rows h.front h.attached))
    ∙ last_raised h.second.map_entries h.third.map_entries h.fourth.map_entries (h.fifth.map_entries ++ []) h.stored.entry uid (ap (λ (e : RunEvent). e.map_entries) h.took.did) (ap (λ (e : RunEvent). e.map_entries) h.placed.did) (ap (λ (e : RunEvent). e.map_entries) h.stored.did) (append-nil h.fifth.map_entries ∙ h.refused.bare) h.stored.raised)

-- ---- the last refusal

none_last : (o : Option Refusal) → option_or o None ≡ o
none_last None = refl
none_last (Some why) = refl

refused_in_more : (more rest : List RunEvent) → AllByRecursion HasAttached more → last_refusal (more ++ rest) ≡ last_refusal rest
refused_in_more [] rest a = refl
refused_in_more (e ∷ es) rest a = ap (λ (r : Option Refusal). option_or (last_refusal (es ++ rest)) r) (attached_unrefused e a.0) ∙ (none_last (last_refusal (es ++ rest)) ∙ refused_in_more es rest a.1)

refused_in_front : (rows : List InstRow) (front rest : List RunEvent) → AreAttachedSoFar rows front → last_refusal (front ++ rest) ≡ last_refusal rest
refused_in_front rows front rest s =
    ap (λ (es : List RunEvent). last_refusal (es ++ rest)) s.own_are
    ∙ (ap (λ (r : Option Refusal). option_or (last_refusal (s.more ++ rest)) r) (ap (λ (e : RunEvent). e.refused) s.laid.did) ∙ (none_last (last_refusal (s.more ++ rest)) ∙ refused_in_more s.more rest s.attached))

pub saved_refusal : (own : List RunEvent) (guid : List ℕ) (uid : ℕ) (event : RunEvent) → AreStoredSoFar guid uid own → event.refused ≡ None → last_refusal (own ++ event ∷ []) ≡ None
saved_refusal own guid uid event h none =
    ap (λ (es : List RunEvent). last_refusal (es ++ event ∷ [])) h.own_are
    ∙ (ap last_refusal (append_assoc h.front (h.second ∷ h.third ∷ h.fourth ∷ []) (event ∷ []))
    ∙ (refused_in_front h.rows h.front (h.second ∷ h.third ∷ h.fourth ∷ event ∷ []) h.attached
    ∙ by_four h.second.refused h.third.refused h.fourth.refused event.refused (ap (λ (e : RunEvent). e.refused) h.took.did) (ap (λ (e : RunEvent). e.refused) h.placed.did) (ap (λ (e : RunEvent). e.refused) h.stored.did) none))
  where
    by_four : (b c d f : Option Refusal) → b ≡ None → c ≡ None → d ≡ None → f ≡ None → option_or (option_or (option_or (option_or None f) d) c) b ≡ None
    by_four b c d f q r s t = rw (q, r, s, t) refl

pub lowered_refusal : (own : List RunEvent) (uid : ℕ) (why : Refusal) (event : RunEvent) → AreRefusedSoFar uid why own → event.refused ≡ None → last_refusal (own ++ event ∷ []) ≡ Some why
lowered_refusal own uid why event h none =
    ap (λ (es : List RunEvent). last_refusal (es ++ event ∷ [])) h.own_are
    ∙ (ap last_refusal (append_assoc h.front (h.second ∷ h.third ∷ h.fourth ∷ h.fifth ∷ []) (event ∷ []))
    ∙ (refused_in_front h.rows h.front (h.second ∷ h.third ∷ h.fourth ∷ h.fifth ∷ event ∷ []) h.attached
    ∙ by_two event.refused h.fifth.refused none h.refused.refused h.second.refused h.third.refused h.fourth.refused))
  where
    by_two : (f k : Option Refusal) → f ≡ None → k ≡ Some why → (b c d : Option Refusal) → option_or (option_or (option_or (option_or (option_or None f) k) d) c) b ≡ Some why
    by_two f k p q b c d = rw (p, q) refl
