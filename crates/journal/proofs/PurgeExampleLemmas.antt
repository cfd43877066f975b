-- A purge beside a fetch that has pinned the file: each event is the next of its lane.
use Rattle.std.specs.Prelude.{◌≡◌, ◌≢◌, ◌≤◌, ◌<◌, ◌&&◌, ◌||◌, ℕ, Bool, true, false, All, Contains, zero, suc, [], ◌∷◌, ◌++◌, slice_get, Some, None, refl}
use Rattle.std.proofs.Common.{sym, ap, ◌∙◌, arith, subst, lit≤, lit<}
use Rattle.std.proofs.lemmas.List.Elements.{All-nil, All-cons, All-contains}
use Rattle.std.proofs.lemmas.List.Kept.{AllPairs-cons}
use Rattle.mdbox_base.specs.declared.ids.MapUid.{MapUid}
use Rattle.mdbox_base.specs.declared.entries.MapPlace.{MapPlace}
use Rattle.mdbox_base.specs.declared.requests.Request.{Request}
use Rattle.mdbox_base.specs.declared.requests.Request.TheVariants as request
use Rattle.mdbox_base.specs.declared.replies.Reply.TheVariants as reply
use Rattle.model_lists.specs.Lists.{Lists}
use Rattle.model_octets.proofs.PairLemmas.{pairs_nil}
use Rattle.model_meaning.specs.MapMeaning.{MapRecord, MapMeaning, is_sealed}
use Rattle.model_meaning.specs.MapFits.{MapFits, HasRecord, IsApart, FitsPlace, ArePlacedApart, IsMovedOrDropped}
use Rattle.model_meaning.specs.MeaningExamples.{example_guid}
use Rattle.model_logs.specs.LogExamples.{example_store}
use Rattle.list_machine.specs.Run.{ReadsPiece, Unpins, RemovesFile, MakesTarget, CopiesMessage, Switches, Last, RunEvent, before, map_of, reply_of}
use Rattle.journal.specs.Events.{IsNextEvent, IsEvent}
use Rattle.journal.specs.Found.{IsFreeFile, is_named_file, FindsFiles}
use Rattle.journal.specs.Makes.{lists_before, AreNextEvents}
use Rattle.journal.specs.JournalExamples.{inbox, hello, nothing_around, lists_saved, fourth_run, fourth_script, fourth_around, fourth_journal, switched, pins_event, takes_files_event, target_event, copies_event, switches_event, purged_event, reads_event, unpins_event, removes_event}
use Rattle.journal.proofs.EventExampleLemmas.{went_on, answered}

abbrev fetching : Request
fetching = request.Fetch inbox (record { 0 = 1 })

abbrev IsNext : ℕ → RunEvent → Type 0
IsNext n event = IsNextEvent (fourth_around n) nothing_around fourth_script (before n fourth_run) (lists_before lists_saved fourth_journal n) event

abbrev Fits : ℕ → (ℕ × Request) → RunEvent → Type 0
Fits n asked event = IsEvent (fourth_around n) nothing_around (before n fourth_run) lists_saved asked.1 event

same_some : {X : Type 0} → (x y : X) → Some x ≡ Some y → x ≡ y
same_some x y e = cc e

none_some : {X : Type 0} → (x : X) → None ≡ Some x → ⊥
none_some x e = cc e

no_other_lane : (i : ℕ) (q : ℕ × Request) → i < 1 → slice_get fourth_script i ≡ Some q → q.0 ≡ 2 → ⊥
no_other_lane zero q lt e lane = let k = ap_lane e in omega (arith, k, lane)
  where
    ap_lane : Some (1, fetching) ≡ Some q → 1 ≡ q.0
    ap_lane e = cc e
no_other_lane (suc i) q lt e lane = omega (arith, lt)

-- ---- the entry of the switch

abbrev now : MapMeaning
now = map_of (before 4 fourth_run)

abbrev kept : MapRecord
kept = record { uid = 1; origin = 0; count = 1; file = 1; offset = 0x10; size = 0x5e; guid = example_guid; instances = [] }

abbrev gone : MapRecord
gone = record kept { uid = 2; count = 0; offset = 0x6e; guid = example_store ++ (0 ∷ 0 ∷ 0 ∷ 1 ∷ 0 ∷ 0 ∷ 0 ∷ 0x6e ∷ []) }

abbrev new_place : MapPlace
new_place = record { uid = record { 0 = 1 }; offset = 9 }

abbrev IsPurged : MapRecord → Type 0
IsPurged row = row.file ≡ 1 → IsMovedOrDropped (new_place ∷ []) (record { 0 = 2 } ∷ []) row

abbrev IsApartIn : MapRecord → Type 0
IsApartIn row = row.file ≡ 2 → IsApart 9 0x5e row

switch_fits : MapFits now switched
switch_fits = record {
  file_number = record { low = lit≤ tt; high = lit≤ tt };
  moved_rising = λ k lt. absurd (omega (arith, lt));
  dropped_rising = λ k lt. absurd (omega (arith, lt));
  moved_here = All-cons (λ (p : MapPlace). HasRecord now p.uid.0 (λ row. row.file ≡ 1)) new_place [] (kept, refl, refl) (All-nil _);
  dropped_here = All-cons (λ (u : MapUid). HasRecord now u.0 (λ row. (row.file ≡ 1) × (row.count ≡ 0))) (record { 0 = 2 }) [] (gone, refl, (refl, refl)) (All-nil _);
  each = All-cons IsPurged kept (gone ∷ []) (λ e. refl) (All-cons IsPurged gone [] (λ e. refl) (All-nil _));
  target_fits = (
    record { low = lit≤ tt; high = lit≤ tt },
    λ e. omega (arith, e),
    All-cons (FitsPlace now 2) new_place [] (kept, refl, (lit≤ tt, All-cons IsApartIn kept (gone ∷ []) (λ e. absurd (omega (arith, e))) (All-cons IsApartIn gone [] (λ e. absurd (omega (arith, e))) (All-nil _)))) (All-nil _),
    AllPairs-cons (ArePlacedApart now) new_place [] (All-nil _) (pairs_nil (ArePlacedApart now)),
  );
}

-- ---- the events

pins : Fits 0 (1, fetching) pins_event
pins = went_on nothing_around nothing_around (before 0 fourth_run) lists_saved fetching pins_event ReadsPiece tt refl refl refl refl (_, (_, refl, refl), refl) (All-nil _) refl

takes : Fits 1 (2, request.Purge) takes_files_event
takes = went_on (fourth_around 1) nothing_around (before 1 fourth_run) lists_saved request.Purge takes_files_event MakesTarget refl refl refl refl refl (record { file = 1; target = 2 } ∷ [], refl, refl) (All-nil _) refl

makes : Fits 2 (2, request.Purge) target_event
makes = went_on nothing_around nothing_around (before 2 fourth_run) lists_saved request.Purge target_event CopiesMessage tt refl refl refl refl (record { file = 1; target = 2 }, refl, refl) (All-nil _) refl

abbrev NoLower : MapRecord → Type 0
NoLower other = kept.offset ≤ other.offset

copies : Fits 3 (2, request.Purge) copies_event
copies = went_on nothing_around nothing_around (before 3 fourth_run) lists_saved request.Purge copies_event Switches tt refl refl refl refl (kept, ((0, lit< tt, refl), All-cons NoLower kept [] (lit≤ tt) (All-nil _)), refl) (All-nil _) refl

switches : Fits 4 (2, request.Purge) switches_event
switches = went_on nothing_around nothing_around (before 4 fourth_run) lists_saved request.Purge switches_event Last tt refl refl refl refl
    (record { file = 1; target = 2 }, 2, new_place ∷ [], record { 0 = 2 } ∷ [], refl, All-cons (λ (p : MapPlace). HasRecord now p.uid.0 (λ row. 1 ≤ row.count)) new_place [] (kept, refl, lit≤ tt) (All-nil _), λ h. refl, refl) (All-cons (MapFits now) switched [] switch_fits (All-nil _)) refl

ends : Fits 7 (2, request.Purge) purged_event
ends = answered nothing_around nothing_around (before 7 fourth_run) lists_saved request.Purge purged_event (reply.Purged 1 1 0) tt refl refl refl refl refl (All-nil _) refl refl

reads : Fits 5 (1, fetching) reads_event
reads = went_on nothing_around nothing_around (before 5 fourth_run) lists_saved fetching reads_event Unpins tt refl refl refl refl refl (All-nil _) refl

unpins : Fits 6 (1, fetching) unpins_event
unpins = went_on nothing_around nothing_around (before 6 fourth_run) lists_saved fetching unpins_event RemovesFile tt refl refl refl refl refl (All-nil _) refl

removes : Fits 8 (1, fetching) removes_event
removes = answered nothing_around nothing_around (before 8 fourth_run) lists_saved fetching removes_event (reply.Fetched hello) tt refl refl refl refl (1, refl, refl, refl, refl) (All-nil _) refl refl

-- ---- the run

of_fetch : (n : ℕ) (event : RunEvent) → event.request ≡ 0 → event.lane ≡ 1 → reply_of 0 (before n fourth_run) ≡ None → lists_before lists_saved fourth_journal n ≡ lists_saved → Fits n (1, fetching) event → IsNext n event
of_fetch n event place lane unanswered lists fits = record {
  asked = (1, fetching);
  request_is = ap (λ (k : ℕ). slice_get fourth_script k) place;
  lane_is = lane;
  earlier = λ i q lt e l. absurd (omega (arith, lt, place));
  unanswered = ap (λ (k : ℕ). reply_of k (before n fourth_run)) place ∙ unanswered;
  is_event = subst (λ (ls : Lists). IsEvent (fourth_around n) nothing_around (before n fourth_run) ls fetching event) (sym lists) fits;
}

of_purge : (n : ℕ) (event : RunEvent) → event.request ≡ 1 → event.lane ≡ 2 → reply_of 1 (before n fourth_run) ≡ None → lists_before lists_saved fourth_journal n ≡ lists_saved → Fits n (2, request.Purge) event → IsNext n event
of_purge n event place lane unanswered lists fits = record {
  asked = (2, request.Purge);
  request_is = ap (λ (k : ℕ). slice_get fourth_script k) place;
  lane_is = lane;
  earlier = λ i q lt e l. absurd (no_other_lane i q (subst (λ (k : ℕ). i < k) place lt) e l);
  unanswered = ap (λ (k : ℕ). reply_of k (before n fourth_run)) place ∙ unanswered;
  is_event = subst (λ (ls : Lists). IsEvent (fourth_around n) nothing_around (before n fourth_run) ls request.Purge event) (sym lists) fits;
}

at : (n : ℕ) (here event : RunEvent) → Some here ≡ Some event → IsNext n here → IsNext n event
at n here event e next = subst (λ (x : RunEvent). IsNext n x) (same_some here event e) next

pub purge_events : AreNextEvents fourth_around (λ _. nothing_around) fourth_script lists_saved fourth_run fourth_journal
purge_events zero event e = at 0 pins_event event e (of_fetch 0 pins_event refl refl refl refl pins)
purge_events (suc zero) event e = at 1 takes_files_event event e (of_purge 1 takes_files_event refl refl refl refl takes)
purge_events (suc (suc zero)) event e = at 2 target_event event e (of_purge 2 target_event refl refl refl refl makes)
purge_events (suc (suc (suc zero))) event e = at 3 copies_event event e (of_purge 3 copies_event refl refl refl refl copies)
purge_events (suc (suc (suc (suc zero)))) event e = at 4 switches_event event e (of_purge 4 switches_event refl refl refl refl switches)
purge_events (suc (suc (suc (suc (suc zero))))) event e = at 5 reads_event event e (of_fetch 5 reads_event refl refl refl refl reads)
purge_events (suc (suc (suc (suc (suc (suc zero)))))) event e = at 6 unpins_event event e (of_fetch 6 unpins_event refl refl refl refl unpins)
purge_events (suc (suc (suc (suc (suc (suc (suc zero))))))) event e = at 7 purged_event event e (of_purge 7 purged_event refl refl refl refl ends)
purge_events (suc (suc (suc (suc (suc (suc (suc (suc zero)))))))) event e = at 8 removes_event event e (of_fetch 8 removes_event refl refl refl refl removes)
purge_events (suc (suc (suc (suc (suc (suc (suc (suc (suc n))))))))) event e = absurd (none_some event e)

-- ---- what it found agrees with the run

abbrev HasFile : MapRecord → Type 0
HasFile row = row.count ≡ 0 → IsFreeFile (before 1 fourth_run) row.file → Contains (1 ∷ []) row.file

abbrev IsOfFirst : MapRecord → Type 0
IsOfFirst row = row.file ≡ 1

all_first : All IsOfFirst (map_of (before 1 fourth_run)).records
all_first = All-cons IsOfFirst kept (gone ∷ []) refl (All-cons IsOfFirst gone [] refl (All-nil _))

unknown : (named sealed : Bool) → named ≡ false → sealed ≡ false → ((named || (sealed || false)) && true) ≡ true → ⊥
unknown true sealed e f k = cc e
unknown false true e f k = cc f
unknown false false e f k = cc k

pub purge_found : FindsFiles (before 1 fourth_run) (1 ∷ [])
purge_found = record {
  once = AllPairs-cons (λ (a b : ℕ). a ≢ b) 1 [] (All-nil _) (pairs_nil (λ (a b : ℕ). a ≢ b));
  free = All-cons (IsFreeFile (before 1 fourth_run)) 1 [] (record { some = lit≤ tt; known = refl; untaken = refl; unsealed = refl; undoomed = refl }) (All-nil _);
  every = All-cons HasFile kept (gone ∷ []) (λ none free. (0, lit< tt, refl)) (All-cons HasFile gone [] (λ none free. (0, lit< tt, refl)) (All-nil _));
  bare = λ file free bare. absurd (unknown (is_named_file (map_of (before 1 fourth_run)) file) (is_sealed (map_of (before 1 fourth_run)) file) bare free.unsealed free.known);
  gaps = λ file free gap. subst (λ (n : ℕ). Contains (1 ∷ []) n) (sym (All-contains IsOfFirst (map_of (before 1 fourth_run)).records gap.first all_first gap.first_here.0) ∙ gap.first_here.1) (0, lit< tt, refl);
}
