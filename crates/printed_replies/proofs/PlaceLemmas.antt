-- The places that are printed of a script number its journal.
use Rattle.std.specs.Prelude.{◌≡◌, ◌≤◌, ◌<◌, ◌+◌, ◌-◌, ◌==◌, ◌&&◌, ◌⊎◌, ◌++◌, ℕ, zero, suc, Bool, true, false, AllPairs, List, [], ◌∷◌, length, map, slice_get, if◌then◌else◌, Option, Some, None}
use Rattle.std.proofs.Common.{refl, sym, ◌∙◌, ap, subst, inl, inr, arith, get_or}
use Rattle.std.proofs.lemmas.Bool.{eqb-true, eq-eqb, and_parts}
use Rattle.std.proofs.lemmas.List.{length-map}
use Rattle.std.proofs.lemmas.List.Elements.{All-get_or}
use Rattle.std.proofs.lemmas.Option.{get_or_from_slice_get, slice_get-map, slice_get_cases, slice_get_within}
use Rattle.std.specs.Option.{option_map}
use Rattle.disk_model.specs.Disk.{History, Faults}
use Rattle.mdbox_base.specs.declared.ids.Uid.{Uid}
use Rattle.mdbox_base.specs.declared.replies.Refusal.TheVariants as refusal
use Rattle.mdbox_base.specs.declared.replies.Reply.{Reply}
use Rattle.mdbox_base.specs.declared.replies.Reply.TheVariants as reply
use Rattle.mdbox_base.specs.declared.requests.Request.{Request}
use Rattle.mdbox_base.specs.declared.requests.Request.TheVariants as request
use Rattle.mdbox_base.specs.declared.script.Half.{Half}
use Rattle.mdbox_base.specs.declared.script.Half.TheVariants as half
use Rattle.mdbox_base.specs.declared.script.JournalEntry.{JournalEntry}
use Rattle.model_lists.specs.Lists.{Lists}
use Rattle.list_machine.specs.Run.{Run}
use Rattle.journal.specs.Journal.{AreSteps, IsFirstPart, IsLegal, IsReplyOf, JournalStep, Requests, halves_of, moment_of, steps_of}
use Rattle.lanes.specs.Worlds.{AreEntriesAt, AreOfLanes}
use Rattle.request_text.specs.BatchText.{place_from, places_by, places_told, refuses_copy, request_steps, same_half}
use Rattle.request_text.specs.declared.places.Places.TheVariants as places
use Rattle.script_run.specs.Script.{ServesScript}
use Rattle.printed_replies.specs.PrintedPlaces.{IsAmong, NumberJournal}

-- ---- a place that was found

same_self : (h : Half) → same_half h h ≡ true
same_self half.Whole = refl
same_self half.CopyHalf = refl
same_self half.ExpungeHalf = refl

same_turned : (g h : Half) → same_half g h ≡ same_half h g
same_turned half.Whole half.Whole = refl
same_turned half.Whole half.CopyHalf = refl
same_turned half.Whole half.ExpungeHalf = refl
same_turned half.CopyHalf half.Whole = refl
same_turned half.CopyHalf half.CopyHalf = refl
same_turned half.CopyHalf half.ExpungeHalf = refl
same_turned half.ExpungeHalf half.Whole = refl
same_turned half.ExpungeHalf half.CopyHalf = refl
same_turned half.ExpungeHalf half.ExpungeHalf = refl

-- there is an entry of the request
abbrev FoundAt : List JournalEntry → ℕ → ℕ → ℕ → Type 0
FoundAt es m r n = (k : ℕ) × (n ≡ m + k) × (entry : JournalEntry) × (slice_get es k ≡ Some entry) × (entry.request ≡ r)

found_at : (es : List JournalEntry) (m r n : ℕ) (h : Half) → place_from m es r h ≡ Some n → FoundAt es m r n
found_at [] m r n h e = absurd (cc e)
found_at (entry ∷ es) m r n h e = by_test (λ f. found_at es (m + 1) r n h f) (entry.request == r && same_half entry.half h) refl e
  where
    by_test : (place_from (m + 1) es r h ≡ Some n → FoundAt es (m + 1) r n) → (b : Bool) → (entry.request == r && same_half entry.half h) ≡ b → (if b then Some m else place_from (m + 1) es r h) ≡ Some n → FoundAt (entry ∷ es) m r n
    by_test on true t f =
        let same : m ≡ n = cc f in
        let parts = and_parts (entry.request == r) (same_half entry.half h) t in
        (0, omega (arith, same), entry, refl, eqb-true entry.request r parts.0)
    by_test on false t f =
        let later = on f in
        (suc later.0, (let is = later.1 in omega (arith, is)), later.2, later.3, later.4)

-- of the places of a request each was found
among_found : (es : List JournalEntry) (r n : ℕ) (given : Reply) → IsAmong n (places_told (request_steps es r) given) → FoundAt es 1 r n
among_found es r n given among = by_copy (place_from 1 es r half.CopyHalf) refl (refuses_copy given) refl among
  where
    by_copy : (copied : Option ℕ) → place_from 1 es r half.CopyHalf ≡ copied → (b : Bool) → refuses_copy given ≡ b → IsAmong n (places_by (place_from 1 es r half.Whole) copied (place_from 1 es r half.ExpungeHalf) given) → FoundAt es 1 r n
    by_copy None c b t a = found_at es 1 r n half.Whole a
    by_copy (Some place) c true t a =
        let one : Some place ≡ Some n = rw t at a in
        found_at es 1 r n half.CopyHalf (c ∙ one)
    by_copy (Some place) c false t a = elim (rw t at a) [
      | inl one ↦ found_at es 1 r n half.CopyHalf (c ∙ one)
      | inr two ↦ found_at es 1 r n half.ExpungeHalf two
    ]

-- ---- the halves of a request

abbrev halves_in : ℕ → List JournalEntry → List Half
halves_in r [] = []
halves_in r (entry ∷ es) = if entry.request == r then entry.half ∷ halves_in r es else halves_in r es

abbrev Lacks : Half → List Half → Type 0
Lacks h [] = Unit {0}
Lacks h (x ∷ xs) = (same_half x h ≡ false) × Lacks h xs

abbrev AreDistinct : List Half → Type 0
AreDistinct [] = Unit {0}
AreDistinct (x ∷ xs) = Lacks x xs × AreDistinct xs

-- a half that the request lacks has no place
place_none : (es : List JournalEntry) (m r : ℕ) (h : Half) → Lacks h (halves_in r es) → place_from m es r h ≡ None
place_none [] m r h l = refl
place_none (entry ∷ es) m r h l = by_test (λ k. place_none es (m + 1) r h k) (entry.request == r) l
  where
    by_test : (Lacks h (halves_in r es) → place_from (m + 1) es r h ≡ None) → (b : Bool) → Lacks h (if b then entry.half ∷ halves_in r es else halves_in r es) → (if b && same_half entry.half h then Some m else place_from (m + 1) es r h) ≡ None
    by_test on true k = rw k.0 (on k.1)
    by_test on false k = on k

-- a half that the request has isn't lacking
not_lacking : (es : List JournalEntry) (r k : ℕ) (entry : JournalEntry) (h : Half) → slice_get es k ≡ Some entry → entry.request ≡ r → Lacks h (halves_in r es) → same_half entry.half h ≡ false
not_lacking [] r k entry h at is l = absurd (cc at)
not_lacking (x ∷ es) r zero entry h at is l =
    let same : x ≡ entry = cc at in
    let test : (x.request == r) ≡ true = eq-eqb x.request r (ap (λ (e : JournalEntry). e.request) same ∙ is) in
    let first : Lacks h (x.half ∷ halves_in r es) = rw test at l in
    subst (λ (e : JournalEntry). same_half e.half h ≡ false) same first.0
not_lacking (x ∷ es) r (suc k) entry h at is l = by_test (λ m. not_lacking es r k entry h at is m) (x.request == r) l
  where
    by_test : (Lacks h (halves_in r es) → same_half entry.half h ≡ false) → (b : Bool) → Lacks h (if b then x.half ∷ halves_in r es else halves_in r es) → same_half entry.half h ≡ false
    by_test on true m = on m.1
    by_test on false m = on m

-- one that it has once has its place
place_some : (es : List JournalEntry) (m r k : ℕ) (entry : JournalEntry) → slice_get es k ≡ Some entry → entry.request ≡ r → AreDistinct (halves_in r es) → place_from m es r entry.half ≡ Some (m + k)
place_some [] m r k entry at is d = absurd (cc at)
place_some (x ∷ es) m r zero entry at is d =
    let same : x ≡ entry = cc at in
    let test : (x.request == r) ≡ true = eq-eqb x.request r (ap (λ (e : JournalEntry). e.request) same ∙ is) in
    let self : same_half x.half entry.half ≡ true = subst (λ (e : JournalEntry). same_half x.half e.half ≡ true) same (same_self x.half) in
    rw (test, self) (ap (λ (n : ℕ). Some n) (omega arith))
place_some (x ∷ es) m r (suc k) entry at is d = by_test (λ f. place_some es (m + 1) r k entry at is f ∙ ap (λ (n : ℕ). Some n) (omega arith)) (x.request == r) d
  where
    by_test : (AreDistinct (halves_in r es) → place_from (m + 1) es r entry.half ≡ Some (m + suc k)) → (b : Bool) → AreDistinct (if b then x.half ∷ halves_in r es else halves_in r es) → (if b && same_half x.half entry.half then Some m else place_from (m + 1) es r entry.half) ≡ Some (m + suc k)
    by_test on true f = rw (same_turned x.half entry.half ∙ not_lacking es r k entry x.half at is f.0) (on f.1)
    by_test on false f = on f

-- a half that is the request's first has a place
place_first : (es : List JournalEntry) (m r : ℕ) (h : Half) (rest : List Half) → halves_in r es ≡ h ∷ rest → (n : ℕ) × (place_from m es r h ≡ Some n)
place_first [] m r h rest e = absurd (cc e)
place_first (x ∷ es) m r h rest e = by_test (λ f. place_first es (m + 1) r h rest f) (x.request == r) e
  where
    by_test : (halves_in r es ≡ h ∷ rest → (n : ℕ) × (place_from (m + 1) es r h ≡ Some n)) → (b : Bool) → (if b then x.half ∷ halves_in r es else halves_in r es) ≡ h ∷ rest → (n : ℕ) × ((if b && same_half x.half h then Some m else place_from (m + 1) es r h) ≡ Some n)
    by_test on true f =
        let same : x.half ≡ h = cc f in
        let self : same_half x.half h ≡ true = subst (λ (g : Half). same_half x.half g ≡ true) same (same_self x.half) in
        (m, rw self refl)
    by_test on false f = on f

-- ---- the halves of its steps

halves_are : (history : Option History) (made : ℕ) (moment : JournalStep → ℕ) (r : ℕ) (steps : List JournalStep) (es : List JournalEntry) → AreEntriesAt history made moment steps es → halves_in r es ≡ map (λ (s : JournalStep). s.half) (steps_of r steps)
halves_are history made moment r [] [] are = refl
halves_are history made moment r [] (e ∷ es) are = absurd are
halves_are history made moment r (s ∷ steps) [] are = absurd are
halves_are history made moment r (s ∷ steps) (e ∷ es) are = rw are.0.request_is (by_test (s.request == r) (halves_are history made moment r steps es are.1))
  where
    by_test : (b : Bool) → halves_in r es ≡ map (λ (x : JournalStep). x.half) (steps_of r steps) → (if b then e.half ∷ halves_in r es else halves_in r es) ≡ map (λ (x : JournalStep). x.half) (if b then s ∷ steps_of r steps else steps_of r steps)
    by_test true rest = rw (are.0.half_is, rest) refl
    by_test false rest = rest

-- the step of an entry, and its request
entry_asked : (history : Option History) (made : ℕ) (moment : JournalStep → ℕ) (run : Run) (script : Requests) (start : Lists) (steps : List JournalStep) (es : List JournalEntry) (k : ℕ) (entry : JournalEntry) → AreEntriesAt history made moment steps es → AreSteps run script start steps → slice_get es k ≡ Some entry
    → (asked : ℕ × Request) × (slice_get script entry.request ≡ Some asked)
entry_asked history made moment run script start [] [] k entry are is at = absurd (cc at)
entry_asked history made moment run script start [] (e ∷ es) k entry are is at = absurd are
entry_asked history made moment run script start (s ∷ steps) [] k entry are is at = absurd are
entry_asked history made moment run script start (s ∷ steps) (e ∷ es) zero entry are is at =
    let same : e ≡ entry = cc at in
    (is.0.asked, subst (λ (x : JournalEntry). slice_get script x.request ≡ Some is.0.asked) same (rw are.0.request_is is.0.request_is))
entry_asked history made moment run script start (s ∷ steps) (e ∷ es) (suc k) entry are is at = entry_asked history made moment run script s.left steps es k entry are.1 is.1 at

-- ---- each entry has its place

-- a move, or a request of one step
abbrev Kind : Request → Type 0
Kind asked = (halves_of asked ≡ half.Whole ∷ []) ⊎ ((name : List ℕ) × (uid : Uid) × (target : List ℕ) × (asked ≡ request.Move name uid target))

kind_of : (asked : Request) → Kind asked
kind_of (request.Move name uid target) = inr (name, uid, target, refl)
kind_of other = inl refl

-- what is the first part of these
first_one : (hs : List Half) (h : Half) → IsFirstPart hs (h ∷ []) → (hs ≡ []) ⊎ (hs ≡ h ∷ [])
first_one [] h p = inl refl
first_one (x ∷ []) h p = let same : x ≡ h = cc p.1 in inr (ap (λ (g : Half). g ∷ []) same)
first_one (x ∷ y ∷ hs) h p = absurd (let e : y ∷ (hs ++ p.0) ≡ [] = cc p.1 in cc e)

first_two : (hs : List Half) (g h : Half) → IsFirstPart hs (g ∷ h ∷ []) → (hs ≡ []) ⊎ ((hs ≡ g ∷ []) ⊎ (hs ≡ g ∷ h ∷ []))
first_two [] g h p = inl refl
first_two (x ∷ []) g h p = let same : x ≡ g = cc p.1 in inr (inl (ap (λ (y : Half). y ∷ []) same))
first_two (x ∷ y ∷ []) g h p =
    let first : x ≡ g = cc p.1 in
    let rest : y ∷ p.0 ≡ h ∷ [] = cc p.1 in
    let second : y ≡ h = cc rest in
    inr (inr (rw (first, second) refl))
first_two (x ∷ y ∷ z ∷ hs) g h p = absurd (let rest : y ∷ z ∷ (hs ++ p.0) ≡ h ∷ [] = cc p.1 in let e : z ∷ (hs ++ p.0) ≡ [] = cc rest in cc e)

-- a move of two steps doesn't reply that its copy is refused
not_refused : (name : List ℕ) (uid : Uid) (target : List ℕ) (steps : List Reply) (given : Reply) → length steps ≡ 2 → IsReplyOf (request.Move name uid target) steps given → refuses_copy given ≡ false
not_refused name uid target steps (reply.Refused refusal.ReadFault) n is = refl
not_refused name uid target steps (reply.Refused refusal.Stopped) n is = refl
not_refused name uid target steps (reply.Refused refusal.NoMemory) n is = absurd (let e : length steps ≡ 0 = ap (λ (x : List Reply). length x) is in omega (arith, n, e))
not_refused name uid target steps (reply.Refused (refusal.Damaged file offset)) n is = absurd is
not_refused name uid target steps (reply.Refused refusal.NoMailbox) n is = absurd (let e : length steps ≡ 1 = ap (λ (x : List Reply). length x) is in omega (arith, n, e))
not_refused name uid target steps (reply.Refused refusal.Exists) n is = absurd (let e : length steps ≡ 1 = ap (λ (x : List Reply). length x) is in omega (arith, n, e))
not_refused name uid target steps (reply.Refused refusal.NoMessage) n is = absurd (let e : length steps ≡ 1 = ap (λ (x : List Reply). length x) is in omega (arith, n, e))
not_refused name uid target steps (reply.Refused (refusal.TooManyCopies m)) n is = absurd (let e : length steps ≡ 1 = ap (λ (x : List Reply). length x) is in omega (arith, n, e))
not_refused name uid target steps (reply.Refused (refusal.MailboxFull m)) n is = absurd (let e : length steps ≡ 1 = ap (λ (x : List Reply). length x) is in omega (arith, n, e))
not_refused name uid target steps (reply.Refused (refusal.TooManyMailboxes m)) n is = absurd (let e : length steps ≡ 1 = ap (λ (x : List Reply). length x) is in omega (arith, n, e))
not_refused name uid target steps (reply.Refused (refusal.StoreFull m)) n is = absurd (let e : length steps ≡ 1 = ap (λ (x : List Reply). length x) is in omega (arith, n, e))
not_refused name uid target steps (reply.Refused refusal.Inbox) n is = absurd (let e : length steps ≡ 1 = ap (λ (x : List Reply). length x) is in omega (arith, n, e))
not_refused name uid target steps (reply.Refused refusal.Sealed) n is = absurd (let e : length steps ≡ 1 = ap (λ (x : List Reply). length x) is in omega (arith, n, e))
not_refused name uid target steps other n is = refl

-- the number is among places
among_whole : (whole copied removed : Option ℕ) (given : Reply) (n : ℕ) → copied ≡ None → whole ≡ Some n → IsAmong n (places_by whole copied removed given)
among_whole whole None removed given n none e = e
among_whole whole (Some place) removed given n none e = absurd (cc none)

among_copy : (whole copied removed : Option ℕ) (given : Reply) (n : ℕ) → copied ≡ Some n → IsAmong n (places_by whole copied removed given)
among_copy whole None removed given n e = absurd (cc e)
among_copy whole (Some place) removed given n e = by_test (refuses_copy given)
  where
    by_test : (b : Bool) → IsAmong n (if b then places.One (Some place) else places.Two (Some place) removed)
    by_test true = e
    by_test false = inl e

among_removed : (whole copied removed : Option ℕ) (given : Reply) (n m : ℕ) → copied ≡ Some m → removed ≡ Some n → refuses_copy given ≡ false → IsAmong n (places_by whole copied removed given)
among_removed whole None removed given n m c e unlike = absurd (cc c)
among_removed whole (Some place) removed given n m c e unlike = by_test (refuses_copy given) unlike
  where
    by_test : (b : Bool) → b ≡ false → IsAmong n (if b then places.One (Some place) else places.Two (Some place) removed)
    by_test true f = absurd (cc f)
    by_test false f = inr e

-- an entry of a request that has no such half
never : (es : List JournalEntry) (r k : ℕ) (entry : JournalEntry) (h : Half) → slice_get es k ≡ Some entry → entry.request ≡ r → Lacks h (halves_in r es) → entry.half ≡ h → ⊥
never es r k entry h at is l e =
    let unlike : same_half entry.half h ≡ false = not_lacking es r k entry h at is l in
    let same : same_half entry.half h ≡ true = subst (λ (g : Half). same_half entry.half g ≡ true) e (same_self entry.half) in
    let both : true ≡ false = sym same ∙ unlike in
    cc both

whole_place : (es : List JournalEntry) (r k : ℕ) (entry : JournalEntry) (given : Reply) → slice_get es k ≡ Some entry → entry.request ≡ r → halves_in r es ≡ half.Whole ∷ [] → IsAmong (1 + k) (places_told (request_steps es r) given)
whole_place es r k entry given at is e = among_whole (place_from 1 es r half.Whole) (place_from 1 es r half.CopyHalf) (place_from 1 es r half.ExpungeHalf) given (1 + k) (place_none es 1 r half.CopyHalf no_copy) (by_half entry.half refl)
  where
    no_copy : Lacks half.CopyHalf (halves_in r es)
    no_copy = subst (Lacks half.CopyHalf) (sym e) (refl, tt)

    by_half : (h : Half) → entry.half ≡ h → place_from 1 es r half.Whole ≡ Some (1 + k)
    by_half half.Whole f = subst (λ (h : Half). place_from 1 es r h ≡ Some (1 + k)) f (place_some es 1 r k entry at is (subst AreDistinct (sym e) (tt, tt)))
    by_half half.CopyHalf f = absurd (never es r k entry half.CopyHalf at is no_copy f)
    by_half half.ExpungeHalf f = absurd (never es r k entry half.ExpungeHalf at is (subst (Lacks half.ExpungeHalf) (sym e) (refl, tt)) f)

copy_place : (es : List JournalEntry) (r k : ℕ) (entry : JournalEntry) (given : Reply) → slice_get es k ≡ Some entry → entry.request ≡ r → AreDistinct (halves_in r es) → entry.half ≡ half.CopyHalf → IsAmong (1 + k) (places_told (request_steps es r) given)
copy_place es r k entry given at is once f = among_copy (place_from 1 es r half.Whole) (place_from 1 es r half.CopyHalf) (place_from 1 es r half.ExpungeHalf) given (1 + k) (subst (λ (h : Half). place_from 1 es r h ≡ Some (1 + k)) f (place_some es 1 r k entry at is once))

half_place : (es : List JournalEntry) (r k : ℕ) (entry : JournalEntry) (given : Reply) → slice_get es k ≡ Some entry → entry.request ≡ r → halves_in r es ≡ half.CopyHalf ∷ [] → IsAmong (1 + k) (places_told (request_steps es r) given)
half_place es r k entry given at is e = by_half entry.half refl
  where
    by_half : (h : Half) → entry.half ≡ h → IsAmong (1 + k) (places_told (request_steps es r) given)
    by_half half.CopyHalf f = copy_place es r k entry given at is (subst AreDistinct (sym e) (tt, tt)) f
    by_half half.Whole f = absurd (never es r k entry half.Whole at is (subst (Lacks half.Whole) (sym e) (refl, tt)) f)
    by_half half.ExpungeHalf f = absurd (never es r k entry half.ExpungeHalf at is (subst (Lacks half.ExpungeHalf) (sym e) (refl, tt)) f)

move_place : (es : List JournalEntry) (r k : ℕ) (entry : JournalEntry) (given : Reply) → slice_get es k ≡ Some entry → entry.request ≡ r → halves_in r es ≡ half.CopyHalf ∷ half.ExpungeHalf ∷ [] → refuses_copy given ≡ false → IsAmong (1 + k) (places_told (request_steps es r) given)
move_place es r k entry given at is e unlike = by_half entry.half refl
  where
    once : AreDistinct (halves_in r es)
    once = subst AreDistinct (sym e) ((refl, tt), (tt, tt))

    by_half : (h : Half) → entry.half ≡ h → IsAmong (1 + k) (places_told (request_steps es r) given)
    by_half half.CopyHalf f = copy_place es r k entry given at is once f
    by_half half.ExpungeHalf f =
        let copied = place_first es 1 r half.CopyHalf (half.ExpungeHalf ∷ []) e in
        among_removed (place_from 1 es r half.Whole) (place_from 1 es r half.CopyHalf) (place_from 1 es r half.ExpungeHalf) given (1 + k) copied.0 copied.1 (subst (λ (h : Half). place_from 1 es r h ≡ Some (1 + k)) f (place_some es 1 r k entry at is once)) unlike
    by_half half.Whole f = absurd (never es r k entry half.Whole at is (subst (Lacks half.Whole) (sym e) (refl, (refl, tt))) f)

-- by what the request is
entry_place : (es : List JournalEntry) (r k : ℕ) (entry : JournalEntry) (asked : Request) (steps : List JournalStep) (given : Reply) → slice_get es k ≡ Some entry → entry.request ≡ r → halves_in r es ≡ map (λ (s : JournalStep). s.half) steps → IsFirstPart (map (λ (s : JournalStep). s.half) steps) (halves_of asked)
    → IsReplyOf asked (map (λ (s : JournalStep). s.answer) steps) given → IsAmong (1 + k) (places_told (request_steps es r) given)
entry_place es r k entry asked steps given at is are part replied = by_kind (kind_of asked)
  where
    hs : List Half
    hs = map (λ (s : JournalStep). s.half) steps

    some : hs ≡ [] → ⊥
    some e = never es r k entry entry.half at is (subst (Lacks entry.half) (sym (are ∙ e)) tt) refl

    by_kind : Kind asked → IsAmong (1 + k) (places_told (request_steps es r) given)
    by_kind (inl one) = elim (first_one hs half.Whole (subst (IsFirstPart hs) one part)) [
      | inl none ↦ absurd (some none)
      | inr all ↦ whole_place es r k entry given at is (are ∙ all)
    ]
    by_kind (inr m) =
        let first : IsFirstPart hs (half.CopyHalf ∷ half.ExpungeHalf ∷ []) = subst (λ (a : Request). IsFirstPart hs (halves_of a)) m.3 part in
        elim (first_two hs half.CopyHalf half.ExpungeHalf first) [
          | inl none ↦ absurd (some none)
          | inr (inl one) ↦ half_place es r k entry given at is (are ∙ one)
          | inr (inr all) ↦
              let two : length (map (λ (s : JournalStep). s.answer) steps) ≡ 2 = length-map steps (λ (s : JournalStep). s.answer) ∙ sym (length-map steps (λ (s : JournalStep). s.half)) ∙ ap (λ (x : List Half). length x) all in
              move_place es r k entry given at is (are ∙ all) (not_refused m.0 m.1 m.2 (map (λ (s : JournalStep). s.answer) steps) given two (subst (λ (a : Request). IsReplyOf a (map (λ (s : JournalStep). s.answer) steps) given) m.3 replied))
        ]

-- ---- a script that was served

some_at : {X : Type 0} → (xs : List X) (k : ℕ) → k < length xs → (x : X) × (slice_get xs k ≡ Some x)
some_at xs k lt = elim (slice_get_cases xs k).1 [ inl x ↦ (x.0, x.2) | inr past ↦ absurd (let le = past.0 in omega (arith, lt, le)) ]

some_given : (given : List Reply) (r : ℕ) (answer : Reply) → slice_get given r ≡ Some answer → slice_get (map Some given) r ≡ Some (Some answer)
some_given given r answer e = slice_get-map Some given r ∙ ap (option_map Some) e

one_request : (es : List JournalEntry) (a b n : ℕ) → FoundAt es 1 a n → FoundAt es 1 b n → a ≡ b
one_request es a b n f g =
    let same : f.0 ≡ g.0 = (let x = f.1 in let y = g.1 in omega (arith, x, y)) in
    let both : Some f.2 ≡ Some g.2 = sym f.3 ∙ ap (λ (k : ℕ). slice_get es k) same ∙ g.3 in
    let entry : f.2 ≡ g.2 = cc both in
    sym f.4 ∙ ap (λ (e : JournalEntry). e.request) entry ∙ g.4

pub served_places : (script : Requests) (lists : Lists) (given : List Reply) (entries : List JournalEntry) (began now : Faults) (old opened new : Option History) → length given ≡ length script → ServesScript script lists given entries began now old opened new → NumberJournal entries given
served_places script lists given entries began now old opened new many s = record {
  all = λ n low high.
      let at = some_at entries (n - 1) (omega (arith, low, high)) in
      let r = at.0.request in
      let asked = entry_asked new s.made (moment_of s.run) s.run script lists s.journal entries (n - 1) at.0 s.entries_are s.served.legal.steps at.1 in
      let within = slice_get_within script r asked.0 asked.1 in
      let answer = some_at given r (omega (arith, many, within)) in
      let has : slice_get (map Some given) r ≡ Some (Some answer.0) = some_given given r answer.0 answer.1 in
      let place = entry_place entries r (n - 1) at.0 asked.0.1 (steps_of r s.journal) answer.0 at.1 refl (halves_are new s.made (moment_of s.run) r s.journal entries s.entries_are) (s.served.legal.order.halves r asked.0 asked.1) (s.served.legal.replied r asked.0 answer.0 asked.1 has) in
      (r, (answer.0, answer.1, subst (λ (m : ℕ). IsAmong m (places_told (request_steps entries r) answer.0)) (omega (arith, low)) place));
  once = λ n a b p q. one_request entries a b n (among_found entries a n p.0 p.2) (among_found entries b n q.0 q.2);
  within = λ n r p.
      let f = among_found entries r n p.0 p.2 in
      let k = slice_get_within entries f.0 f.2 f.3 in
      let is = f.1 in
      ((omega (arith, is)), (omega (arith, is, k)));
}

-- ---- a script of one lane

lane_one : (asked : ℕ × Request) → (0 < asked.0) × (asked.0 ≤ 1) → asked.0 ≡ 1
lane_one asked of = let few = of.0 in let most = of.1 in omega (arith, few, most)

-- each step is one of that lane
steps_of_one : (run : Run) (script : Requests) (old : Lists) (journal : List JournalStep) → AreOfLanes 1 script → AreSteps run script old journal → (i : ℕ) (d : JournalStep) → i < length journal → (get_or journal i d).lane ≡ 1
steps_of_one run script old [] one steps i d l = absurd (omega (arith, l))
steps_of_one run script old (step ∷ rest) one steps zero d l =
    let s = steps.0 in
    s.lane_is ∙ lane_one s.asked (subst (λ (asked : ℕ × Request). (0 < asked.0) × (asked.0 ≤ 1)) (get_or_from_slice_get script step.request s.asked s.asked s.request_is) (All-get_or (λ (asked : ℕ × Request). (0 < asked.0) × (asked.0 ≤ 1)) script step.request s.asked (slice_get_within script step.request s.asked s.request_is) one))
steps_of_one run script old (step ∷ rest) one steps (suc i) d l = steps_of_one run script step.left rest one steps.1 i d (omega (arith, l))

pub one_lane_in_order : (script : Requests) (start : Lists) (run : Run) (journal : List JournalStep) (replies : List (Option Reply)) (old new : Faults) → AreOfLanes 1 script → IsLegal start script run journal replies old new → AllPairs (λ a b. a.request ≤ b.request) journal
one_lane_in_order script start run journal replies old new one legal = λ i j d before within.
    let first : i < length journal = omega (arith, before, within) in
    legal.order.lanes i j d before within (steps_of_one run script start journal one legal.steps i d first ∙ sym (steps_of_one run script start journal one legal.steps j d within))
