-- What the events of a made script's requests add to the map: a delivery one record, which names no instance.
use Rattle.exercise_course.proofs.Common.{◌≡◌, ◌+◌, ◌==◌, nat_lt, ℕ, suc, Bool, true, false, not, if◌then◌else◌, List, [], ◌∷◌, ◌++◌, filter, flat_map, length, map, sum_by, Option, Some, None, refl, AllByRecursion, sym, ◌∙◌, ap, arith, subst, append-nil, length-append, sum_by-cons, sum_by_push}
use Rattle.exercise_course.proofs.Common.{MapEntry, Request, Refusal, Lists, MapMeaning, MapRecord, map_applied, map_meaning, record_changed, map_more, EventPart, First, Compares, PlacesInstance, TakesFile, PlacesMessage, StoresRecord, Last, GivesBack, StartsOver, Run, RunEvent, and_then}
use Rattle.exercise_course.proofs.Common.{entries_of, map_of, own_events, Around, DidNothing, DidPart, IsEvent, behind_delivery, behind_event, entries_more}
use Rattle.std.proofs.Common.{append_assoc}
use Rattle.std.proofs.lemmas.Bool.{le-ltb}
use Rattle.std.proofs.lemmas.Grind.{flat_map-append}
use Rattle.mdbox_base.specs.declared.entries.MapEntry.TheVariants as entry
use Rattle.mdbox_base.specs.declared.entries.InstRow.{InstRow}
use Rattle.mdbox_base.specs.declared.requests.Request.TheVariants as request
use Rattle.mdbox_base.specs.declared.replies.Refusal.TheVariants as refusal
use Rattle.model_mime.specs.Parts.{parts_in}
use Rattle.model_meaning.specs.MapMeaning.{has_map_uid, record_made}
use Rattle.journal.specs.Events.{behind_addition, instances_found, next_part}
use Rattle.exercise_course.specs.InOrder.{delivered_by}

-- ---- the map

-- An entry drops no record, and names no instance; how many records it makes.
abbrev pub IsSmall : MapEntry → Type 0
IsSmall (entry.S origin count uid file offset size guid instances) = instances ≡ []
IsSmall (entry.P file target moved dropped) = ⊥
IsSmall other = Unit {0}

abbrev pub made_in : MapEntry → ℕ
made_in (entry.S origin count uid file offset size guid instances) = 1
made_in other = 0

-- a map has so many records more, and names the same instances
pub record HasMore (many : ℕ) (before after : MapMeaning) : Type 0 where
  pub records : length after.records ≡ length before.records + many
  pub instances : flat_map (λ row. row.instances) after.records ≡ flat_map (λ row. row.instances) before.records

pub no_more : (m : MapMeaning) → HasMore 0 m m
no_more m = record { records = omega arith; instances = refl }

-- rows that are only changed
kept_rows : (changed : MapRecord → MapRecord) → ((row : MapRecord) → (changed row).instances ≡ row.instances) → (rows : List MapRecord)
    → (length (map changed (filter (λ row. not false) rows)) ≡ length rows) × (flat_map (λ row. row.instances) (map changed (filter (λ row. not false) rows)) ≡ flat_map (λ row. row.instances) rows)
kept_rows changed same [] = (refl, refl)
kept_rows changed same (row ∷ rows) =
    let r = kept_rows changed same rows in
    (ap suc r.0, ap (λ (l : List InstRow). l ++ flat_map (λ (row : MapRecord). row.instances) (map changed (filter (λ row. not false) rows))) (same row) ∙ ap (λ (l : List InstRow). row.instances ++ l) r.1)

-- and then some are made
with_made : (rows kept made : List MapRecord) (many : ℕ) → length made ≡ many → flat_map (λ row. row.instances) made ≡ [] → (length kept ≡ length rows) × (flat_map (λ row. row.instances) kept ≡ flat_map (λ row. row.instances) rows)
    → (length (kept ++ made) ≡ length rows + many) × (flat_map (λ row. row.instances) (kept ++ made) ≡ flat_map (λ row. row.instances) rows)
with_made rows kept made many long none k =
    let l = length-append kept made in
    let same = k.0 in (
      omega (arith, l, same, long),
      flat_map-append (λ (row : MapRecord). row.instances) kept made ∙ ap (λ (l : List InstRow). flat_map (λ (row : MapRecord). row.instances) kept ++ l) none ∙ append-nil (flat_map (λ (row : MapRecord). row.instances) kept) ∙ k.1,
    )

raised_same : (row : MapRecord) (b : Bool) → (if b then record row { count = row.count + 1 } else row).instances ≡ row.instances
raised_same row true = refl
raised_same row false = refl

lowered_same : (row : MapRecord) (n : ℕ) (b : Bool) → (if b then record row { count = n } else row).instances ≡ row.instances
lowered_same row n true = refl
lowered_same row n false = refl

applied_small : (m : MapMeaning) (e : MapEntry) → IsSmall e → HasMore (made_in e) m (map_applied e m)
applied_small m (entry.H h) s = let w = with_made m.records _ [] 0 refl refl (kept_rows (λ row. row) (λ row. refl) m.records) in record { records = w.0; instances = w.1 }
applied_small m (entry.B mailbox generation name) s = let w = with_made m.records _ [] 0 refl refl (kept_rows (λ row. row) (λ row. refl) m.records) in record { records = w.0; instances = w.1 }
applied_small m (entry.G mailbox generation) s = let w = with_made m.records _ [] 0 refl refl (kept_rows (λ row. row) (λ row. refl) m.records) in record { records = w.0; instances = w.1 }
applied_small m (entry.V mailbox name) s = let w = with_made m.records _ [] 0 refl refl (kept_rows (λ row. row) (λ row. refl) m.records) in record { records = w.0; instances = w.1 }
applied_small m (entry.E file) s = let w = with_made m.records _ [] 0 refl refl (kept_rows (λ row. row) (λ row. refl) m.records) in record { records = w.0; instances = w.1 }
applied_small m (entry.S origin count uid file offset size guid instances) s =
    let made : List MapRecord = record_made (entry.S origin count uid file offset size guid instances) in
    let w = with_made m.records _ made 1 refl (ap (λ (l : List InstRow). l ++ []) s) (kept_rows (λ row. row) (λ row. refl) m.records) in
    record { records = w.0; instances = w.1 }
applied_small m (entry.U uid) s =
    let w = with_made m.records _ [] 0 refl refl (kept_rows (record_changed (entry.U uid)) (λ row. raised_same row (uid.0 == row.uid)) m.records) in
    record { records = w.0; instances = w.1 }
applied_small m (entry.D uids) s =
    let w = with_made m.records _ [] 0 refl refl (kept_rows (record_changed (entry.D uids)) (λ row. lowered_same row _ (has_map_uid row.uid uids)) m.records) in
    record { records = w.0; instances = w.1 }
applied_small m (entry.T counts) s =
    let w = with_made m.records _ [] 0 refl refl (kept_rows (record_changed (entry.T counts)) (λ row. refl) m.records) in
    record { records = w.0; instances = w.1 }
applied_small m (entry.X mailbox amounts) s =
    let w = with_made m.records _ [] 0 refl refl (kept_rows (record_changed (entry.X mailbox amounts)) (λ row. refl) m.records) in
    record { records = w.0; instances = w.1 }
applied_small m (entry.P file target moved dropped) s = absurd s

pub more_along : (a b : ℕ) (m n k : MapMeaning) → HasMore a m n → HasMore b n k → HasMore (a + b) m k
more_along a b m n k p q = record {
  records = (let x = p.records in let y = q.records in omega (arith, x, y));
  instances = q.instances ∙ p.instances;
}

-- entries one behind another
all_applied : (store : List ℕ) (before es : List MapEntry) → AllByRecursion IsSmall es → HasMore (sum_by made_in es) (map_meaning store before) (map_meaning store (before ++ es))
all_applied store before [] s = subst (λ (l : List MapEntry). HasMore 0 (map_meaning store before) (map_meaning store l)) (sym (append-nil before)) (no_more (map_meaning store before))
all_applied store before (e ∷ es) s =
    let one : HasMore (made_in e) (map_meaning store before) (map_meaning store (before ++ e ∷ [])) = subst (HasMore (made_in e) (map_meaning store before)) (sym (map_more store before e)) (applied_small (map_meaning store before) e s.0) in
    let rest = all_applied store (before ++ e ∷ []) es s.1 in
    let both = more_along (made_in e) (sum_by made_in es) _ _ _ one rest in
    subst (λ (n : ℕ). HasMore n (map_meaning store before) (map_meaning store (before ++ e ∷ es))) (sym (sum_by-cons made_in e es))
    (subst (λ (l : List MapEntry). HasMore (made_in e + sum_by made_in es) (map_meaning store before) (map_meaning store l)) (append_assoc before (e ∷ []) es) both)

-- ---- events

abbrev pub stored_in : RunEvent → ℕ
stored_in event = sum_by made_in event.map_entries

abbrev pub found_in : RunEvent → List InstRow
found_in event = event.equal ++ event.placed

-- what an event adds
pub record Adds (many : ℕ) (event : RunEvent) : Type 0 where
  pub stored : stored_in event ≡ many
  pub small : AllByRecursion IsSmall event.map_entries

adds_as : (many : ℕ) (event other : RunEvent) → event ≡ other → Adds many other → Adds many event
adds_as many event other e a = subst (Adds many) (sym e) a

pub run_with : (run : Run) (event : RunEvent) → AllByRecursion IsSmall event.map_entries → HasMore (stored_in event) (map_of run) (map_of (and_then run event))
run_with run event small =
    subst (λ (l : List MapEntry). HasMore (stored_in event) (map_of run) (map_meaning run.store l)) (sym (entries_more run event)) (all_applied run.store (entries_of run) event.map_entries small)

-- A request of a made script: its deliveries have no part that is detached.
abbrev pub IsSimple : Request → Type 0
IsSimple (request.Make name) = Unit {0}
IsSimple (request.Deliver name time octets) = length (filter (λ part. part.detachable) (parts_in octets)) ≡ 0
IsSimple (request.Copy name uid target) = Unit {0}
IsSimple (request.Expunge name uid) = Unit {0}
IsSimple (request.Flag name uid flags) = Unit {0}
IsSimple other = ⊥

-- ---- a delivery

unfoldable pub stored_at : EventPart → Option Refusal → ℕ
stored_at StoresRecord None = 1
stored_at part refused = 0

-- its record is stored, as far as its parts tell: it never starts over
unfoldable pub stored_by : EventPart → Option Refusal → ℕ
stored_by StoresRecord None = 1
stored_by Last refused = 1
stored_by GivesBack refused = 1
stored_by StartsOver (Some why) = 1
stored_by part refused = 0

-- it looks for no instance
unfoldable pub LooksForNone : EventPart → Type 0
LooksForNone Compares = ⊥
LooksForNone PlacesInstance = ⊥
LooksForNone part = Unit {0}

delivery_adds : (around : Around) (run : Run) (lists : Lists) (name : List ℕ) (time : ℕ) (octets : List ℕ) (event : RunEvent) (part : EventPart) → LooksForNone part → instances_found event.request run ≡ []
    → DidPart around run lists (request.Deliver name time octets) event part → Adds (stored_at part None) event × (found_in event ≡ [])
unfolding stored_at LooksForNone
delivery_adds around run lists name time octets event First looks none d = (adds_as 0 event _ d (record { stored = refl; small = tt }), ap found_in d)
delivery_adds around run lists name time octets event Compares looks none d = absurd looks
delivery_adds around run lists name time octets event PlacesInstance looks none d = absurd looks
delivery_adds around run lists name time octets event (TakesFile new) looks none d = (adds_as 0 event _ d (record { stored = refl; small = tt }), ap found_in d)
delivery_adds around run lists name time octets event PlacesMessage looks none d = (adds_as 0 event _ d.3 (record { stored = refl; small = tt }), ap found_in d.3)
delivery_adds around run lists name time octets event StoresRecord looks none d = (adds_as 1 event _ d.3 (record { stored = refl; small = (none, tt) }), ap found_in d.3)
delivery_adds around run lists name time octets event Last looks none d = (adds_as 0 event _ d.2.4 (record { stored = refl; small = tt }), ap found_in d.2.4)
delivery_adds around run lists name time octets event GivesBack looks none d = (adds_as 0 event _ d.2 (record { stored = refl; small = (tt, tt) }), ap found_in d.2)
delivery_adds around run lists name time octets event part looks none d = absurd d

nothing_adds : (event : RunEvent) → DidNothing event → Adds 0 event × (found_in event ≡ [])
nothing_adds event d = (adds_as 0 event _ d (record { stored = refl; small = tt }), ap found_in d)

-- another request
other_adds : (around : Around) (run : Run) (lists : Lists) (q : Request) (event : RunEvent) (part : EventPart) → IsSimple q → delivered_by q ≡ 0 → DidPart around run lists q event part → Adds 0 event
other_adds around run lists (request.Make name) event First s z d = adds_as 0 event _ d (record { stored = refl; small = tt })
other_adds around run lists (request.Make name) event Last s z d = adds_as 0 event _ d (record { stored = refl; small = (tt, tt) })
other_adds around run lists (request.Make name) event part s z d = adds_as 0 event _ d (record { stored = refl; small = tt })
other_adds around run lists (request.Deliver name time octets) event part s z d = absurd (let k : ◌≡◌ {A = ℕ} 1 0 = z in omega (arith, k))
other_adds around run lists (request.Copy name uid target) event First s z d = adds_as 0 event _ d.4 (record { stored = refl; small = (tt, tt) })
other_adds around run lists (request.Copy name uid target) event Last s z d = adds_as 0 event _ d.2.4 (record { stored = refl; small = tt })
other_adds around run lists (request.Copy name uid target) event StartsOver s z d = adds_as 0 event _ d (record { stored = refl; small = tt })
other_adds around run lists (request.Copy name uid target) event GivesBack s z d = adds_as 0 event _ d.2 (record { stored = refl; small = (tt, tt) })
other_adds around run lists (request.Copy name uid target) event part s z d = absurd d
other_adds around run lists (request.Expunge name uid) event First s z d = adds_as 0 event _ d.4 (record { stored = refl; small = tt })
other_adds around run lists (request.Expunge name uid) event GivesBack s z d = adds_as 0 event _ d.2 (record { stored = refl; small = (tt, tt) })
other_adds around run lists (request.Expunge name uid) event part s z d = adds_as 0 event _ d (record { stored = refl; small = tt })
other_adds around run lists (request.Flag name uid flags) event First s z d = adds_as 0 event _ d.2 (record { stored = refl; small = tt })
other_adds around run lists (request.Flag name uid flags) event part s z d = adds_as 0 event _ d (record { stored = refl; small = tt })
other_adds around run lists q event part s z d = absurd s

-- ---- what stands behind what

unfoldable pub last_of : List RunEvent → Option RunEvent
last_of [] = None
last_of (e ∷ []) = Some e
last_of (e ∷ more ∷ rest) = last_of (more ∷ rest)

unfoldable pub part_after : Around → Run → Request → Option RunEvent → Option EventPart
part_after around run q None = Some First
part_after around run q (Some e) = behind_event around run q e e.refused

pub next_is : (around : Around) (run : Run) (q : Request) (own : List RunEvent) → next_part around run q own ≡ part_after around run q (last_of own)
unfolding last_of part_after
next_is around run q [] = refl
next_is around run q (e ∷ []) = refl
next_is around run q (e ∷ more ∷ rest) = next_is around run q (more ∷ rest)

pub last_push : (own : List RunEvent) (e : RunEvent) → last_of (own ++ e ∷ []) ≡ Some e
unfolding last_of
last_push [] e = refl
last_push (x ∷ []) e = refl
last_push (x ∷ more ∷ rest) e = last_push (more ∷ rest) e

-- whether the record of a delivery is stored, by the last of its events
unfoldable pub stored_last : Option RunEvent → ℕ
stored_last None = 0
stored_last (Some e) = stored_by e.part e.refused

-- A part comes behind: whether the record is stored with it, or was before; and it looks for no instance.
unfoldable pub GoesBehind : ℕ → EventPart → Type 0
GoesBehind before part = ((refused : Option Refusal) → before + stored_at part refused ≡ stored_by part refused) × LooksForNone part

some_is : {X : Type 0} → (a b : X) → Some a ≡ Some b → a ≡ b
some_is a b e = cc e

storing_goes : GoesBehind 0 StoresRecord
unfolding GoesBehind stored_at stored_by LooksForNone
storing_goes = (by_refused, tt)
  where
    by_refused : (refused : Option Refusal) → 0 + stored_at StoresRecord refused ≡ stored_by StoresRecord refused
    by_refused None = refl
    by_refused (Some why) = refl

looking_goes : (around : Around) (found : ℕ) (a : Option EventPart) (new : Bool) (p : EventPart) → around.parts ≡ 0 → (if nat_lt found around.parts then a else Some (TakesFile new)) ≡ Some p → GoesBehind 0 p
unfolding GoesBehind stored_at stored_by LooksForNone
looking_goes around found a new p none e =
    let no_less : nat_lt found around.parts ≡ false = le-ltb found around.parts (omega (arith, none)) in
    let is : Some (TakesFile new) ≡ Some p = sym (ap (λ (b : Bool). if b then a else Some (TakesFile new)) no_less) ∙ e in
    subst (GoesBehind 0) (some_is (TakesFile new) p is) (λ refused. refl, tt)

delivery_behind : (around : Around) (run : Run) (e : RunEvent) (part p : EventPart) → around.parts ≡ 0 → behind_delivery around run e part ≡ Some p → GoesBehind (stored_by part None) p
unfolding GoesBehind stored_at stored_by LooksForNone
delivery_behind around run e (TakesFile new) p none is = subst (GoesBehind 0) (some_is PlacesMessage p is) (λ refused. refl, tt)
delivery_behind around run e PlacesMessage p none is = subst (GoesBehind 0) (some_is StoresRecord p is) storing_goes
delivery_behind around run e StoresRecord p none is = subst (GoesBehind 1) (some_is Last p is) (λ refused. refl, tt)
delivery_behind around run e Last p none is = absurd (cc is)
delivery_behind around run e GivesBack p none is = absurd (cc is)
delivery_behind around run e part p none is = looking_goes around _ _ _ p none is

addition_behind : (part p : EventPart) (why : Refusal) → behind_addition part why ≡ Some p → GoesBehind (stored_by part (Some why)) p
unfolding GoesBehind stored_at stored_by LooksForNone
addition_behind Last p refusal.Stopped is = absurd (cc is)
addition_behind Last p why is = subst (GoesBehind 1) (some_is GivesBack p is) (λ refused. refl, tt)
addition_behind StartsOver p refusal.Stopped is = absurd (cc is)
addition_behind StartsOver p why is = subst (GoesBehind 1) (some_is GivesBack p is) (λ refused. refl, tt)
addition_behind part p why is = absurd (cc is)

pub delivery_next : (around : Around) (run : Run) (name : List ℕ) (time : ℕ) (octets : List ℕ) (last : Option RunEvent) (p : EventPart) → around.parts ≡ 0 → part_after around run (request.Deliver name time octets) last ≡ Some p → GoesBehind (stored_last last) p
unfolding part_after stored_last GoesBehind stored_at stored_by LooksForNone
delivery_next around run name time octets None p none is = subst (GoesBehind 0) (some_is First p is) (λ refused. refl, tt)
delivery_next around run name time octets (Some e) p none is = by_refused e.refused is
  where
    by_refused : (r : Option Refusal) → behind_event around run (request.Deliver name time octets) e r ≡ Some p → GoesBehind (stored_by e.part r) p
    by_refused None h = delivery_behind around run e e.part p none h
    by_refused (Some why) h = addition_behind e.part p why h

-- ---- the events of one request

-- What the events of a request have stored and found: a delivery its record, once it is stored, and no instance; any other nothing.
unfoldable pub OwnStored : Request → List RunEvent → Type 0
OwnStored (request.Deliver name time octets) own = (sum_by stored_in own ≡ stored_last (last_of own)) × (flat_map found_in own ≡ [])
OwnStored q own = sum_by stored_in own ≡ 0

pub own_none : (q : Request) → OwnStored q []
unfolding OwnStored stored_last last_of
own_none (request.Deliver name time octets) = (refl, refl)
own_none q = refl

other_own : (q : Request) (own : List RunEvent) (event : RunEvent) → OwnStored q own → delivered_by q ≡ 0 → Adds 0 event → OwnStored q (own ++ event ∷ [])
unfolding OwnStored
other_own (request.Deliver name time octets) own event o z a = absurd (let k : ◌≡◌ {A = ℕ} 1 0 = z in omega (arith, k))
other_own q own event o z a = let p = sum_by_push stored_in own event in let s = a.stored in omega (arith, o, p, s)

-- An event more of a delivery.
delivery_on : (around after : Around) (run : Run) (lists : Lists) (name : List ℕ) (time : ℕ) (octets : List ℕ) (event : RunEvent) → IsSimple (request.Deliver name time octets) → IsEvent around after run lists (request.Deliver name time octets) event → OwnStored (request.Deliver name time octets) (own_events event.request run)
    → AllByRecursion IsSmall event.map_entries × OwnStored (request.Deliver name time octets) (own_events event.request run ++ event ∷ [])
unfolding OwnStored GoesBehind stored_last stored_at
delivery_on around after run lists name time octets event s ev o = by_refused event.refused refl
  where
    behind : GoesBehind (stored_last (last_of (own_events event.request run))) event.part
    behind = delivery_next around run name time octets (last_of (own_events event.request run)) event.part (ev.finds ∙ s) (sym (next_is around run (request.Deliver name time octets) (own_events event.request run)) ∙ ev.part_is)

    with_event : (r : Option Refusal) → event.refused ≡ r → Adds (stored_at event.part r) event × (found_in event ≡ []) → AllByRecursion IsSmall event.map_entries × ((sum_by stored_in (own_events event.request run ++ event ∷ []) ≡ stored_last (last_of (own_events event.request run ++ event ∷ []))) × (flat_map found_in (own_events event.request run ++ event ∷ []) ≡ []))
    with_event r is a =
        let p = sum_by_push stored_in (own_events event.request run) event in
        let st = a.0.stored in
        let before = o.0 in
        let b = behind.0 r in
        let last : stored_last (last_of (own_events event.request run ++ event ∷ [])) ≡ stored_by event.part r = ap stored_last (last_push (own_events event.request run) event) ∙ ap (stored_by event.part) is in
        let none = flat_map-append found_in (own_events event.request run) (event ∷ []) ∙ ap (λ (l : List InstRow). l ++ flat_map found_in (event ∷ [])) o.1 ∙ append-nil (found_in event) ∙ a.1 in
        (a.0.small, (omega (arith, p, st, before, b, last), none))

    none_at : (why : Refusal) (part : EventPart) → Adds 0 event × (found_in event ≡ []) → Adds (stored_at part (Some why)) event × (found_in event ≡ [])
    none_at why StoresRecord a = a
    none_at why part a = a

    by_refused : (r : Option Refusal) → event.refused ≡ r → AllByRecursion IsSmall event.map_entries × ((sum_by stored_in (own_events event.request run ++ event ∷ []) ≡ stored_last (last_of (own_events event.request run ++ event ∷ []))) × (flat_map found_in (own_events event.request run ++ event ∷ []) ≡ []))
    by_refused None is = with_event None is (delivery_adds around run lists name time octets event event.part behind.1 o.1 (ev.did is))
    by_refused (Some why) is = with_event (Some why) is (none_at why event.part (nothing_adds event (ev.undone why is).0))

-- and of another request
other_on : (around after : Around) (run : Run) (lists : Lists) (q : Request) (event : RunEvent) → IsSimple q → delivered_by q ≡ 0 → IsEvent around after run lists q event → OwnStored q (own_events event.request run)
    → AllByRecursion IsSmall event.map_entries × OwnStored q (own_events event.request run ++ event ∷ [])
other_on around after run lists q event s z ev o = with_event (by_refused event.refused refl)
  where
    by_refused : (r : Option Refusal) → event.refused ≡ r → Adds 0 event
    by_refused None is = other_adds around run lists q event event.part s z (ev.did is)
    by_refused (Some why) is = (nothing_adds event (ev.undone why is).0).0

    with_event : Adds 0 event → AllByRecursion IsSmall event.map_entries × OwnStored q (own_events event.request run ++ event ∷ [])
    with_event a = (a.small, other_own q (own_events event.request run) event o z a)

-- An event more.
pub own_goes_on : (around after : Around) (run : Run) (lists : Lists) (q : Request) (event : RunEvent) → IsSimple q → IsEvent around after run lists q event → OwnStored q (own_events event.request run)
    → AllByRecursion IsSmall event.map_entries × OwnStored q (own_events event.request run ++ event ∷ [])
own_goes_on around after run lists (request.Make name) event s ev o = other_on around after run lists (request.Make name) event s refl ev o
own_goes_on around after run lists (request.Deliver name time octets) event s ev o = delivery_on around after run lists name time octets event s ev o
own_goes_on around after run lists (request.Copy name uid target) event s ev o = other_on around after run lists (request.Copy name uid target) event s refl ev o
own_goes_on around after run lists (request.Expunge name uid) event s ev o = other_on around after run lists (request.Expunge name uid) event s refl ev o
own_goes_on around after run lists (request.Flag name uid flags) event s ev o = other_on around after run lists (request.Flag name uid flags) event s refl ev o
own_goes_on around after run lists q event s ev o = absurd s
