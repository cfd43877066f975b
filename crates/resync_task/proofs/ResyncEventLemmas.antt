-- The events of a resync that go on or end it, by the clause of a task's step.
use Rattle.resync_task.proofs.Common.{◌≡◌, ◌≤◌, ◌<◌, ◌+◌, ◌==◌, ℕ, Bool, true, false, List, [], ◌∷◌, ◌++◌, length, Option, Some, None, refl, sym, ◌∙◌, ap, subst, arith, All, Contains, sum_by, ◌≢◌, eq-eqb, All-nil, History, NoFault, MapCount, Reply, Lists, MapMeaning, HasRecord, MapFits, RunEvent}
use Rattle.resync_task.proofs.Common.{Run, own_events, Around, Seen, ShowsSeen, Leads, DidEvent, StaysSo, ResyncAt, ToList, ToRead, HasRead, corrected_map, many_corrected, AreWrongCounts}
use Rattle.std.specs.Prelude.{slice_get}
use Rattle.std.proofs.lemmas.Bool.{ne_eqb}
use Rattle.disk_model.specs.Disk.{told_calls, Grows}
use Rattle.mdbox_base.specs.declared.entries.Highest.{Highest}
use Rattle.mdbox_base.specs.declared.entries.MapEntry.TheVariants as entry
use Rattle.mdbox_base.specs.declared.progress.Did.TheVariants as did
use Rattle.mdbox_base.specs.declared.replies.Refusal.TheVariants as refusal
use Rattle.mdbox_base.specs.declared.replies.Reply.TheVariants as reply
use Rattle.mdbox_base.specs.declared.requests.Request.TheVariants as request
use Rattle.mdbox_base.specs.declared.script.Half.TheVariants as half
use Rattle.model_kept.specs.Kept.{MailIsKept}
use Rattle.model_lists.specs.Lists.{refs_of}
use Rattle.model_meaning.specs.MapMeaning.{map_applied}
use Rattle.list_machine.specs.Run.{and_then, map_of, corrected_in}
use Rattle.list_machine.specs.Machine.{AreResynced}
use Rattle.journal.specs.Journal.{halves_of}
use Rattle.journal.specs.Events.{AreRight, corrects, file_left, begun_in, ended_in}
use Rattle.journal.specs.Found.{ListsFiles, FindsDamage}
use Rattle.journal.specs.Makes.{HasCome}
use Rattle.journal.proofs.OwnEventLemmas.{own_more, own_other}
use Rattle.journal.proofs.RunLemmas.{comes_on_with, drawn_none}
use Rattle.task_steps.specs.Step.{HasComeTo, and_told, IsKept}
use Rattle.task_steps.specs.Tells.{LeavesFiles, TellsSame}
use Rattle.task_steps.proofs.EventLaws.{DidBy, did_own, ends_well, no_reply, own_event, some_reply, stands_by, unstepped}
use Rattle.task_steps.proofs.KeptStoreLemmas.{comes_along}
use Rattle.task_steps.proofs.OneEventLemmas.{first_reply, next_first}
use Rattle.task_steps.proofs.SeenLemmas.{comes_to_on, due_is, not_begun_stays, tells_itself}
use Rattle.task_steps.proofs.UnmovedLemmas.{mail_still, nothing}
use Rattle.resync_task.specs.Stages.{IsAtResync, listing_event, reading_event, correcting_event}
use Rattle.resync_task.proofs.OwnResyncLemmas.{next_by, next_reads, next_corrects, read_none, read_more, nothing_refused}

same_place : (n : ℕ) → (n == n) ≡ true
same_place n = eq-eqb n n refl

never_ends : (b : Bool) → next_by b ≡ None → ⊥
never_ends true e = cc e
never_ends false e = cc e

-- Every stage is kept by events of other requests.
pub resyncs_are_kept : (stage : ResyncAt) → IsKept (IsAtResync stage)
resyncs_are_kept ToList = not_begun_stays
resyncs_are_kept (ToRead files read damaged) = λ run place said event other new stood.
    (subst (λ (es : List RunEvent). HasRead files read damaged place es) (sym (own_other place run event (ne_eqb event.request place other))) stood.0, stood.1)

-- the request goes on
abbrev pub no_answer : Option Reply
no_answer = None

-- ---- the first event

did_list : (found after : Around) (run : Run) (lane place : ℕ) (said : List Reply) (lists : Lists) (old : Seen) → HasComeTo run old → ShowsSeen old lists → IsAtResync ToList run place said → old.stopped ≡ false → ListsFiles run found.files
    → DidBy found after run lane place said request.Resync lists old old did.Quiet None (listing_event lane place found.files (told_calls old.history)) None
did_list found after run lane place said lists old come shows stood runs listed =
    did_own found after run lane place said request.Resync lists lists old old did.Quiet None None event
    (record {
      own = own_event event refl;
      finds = tt;
      found = λ looked. listed;
      part_is = next_first found run request.Resync (own_events place run) stood.0;
      allowed = refl;
      did = refl;
      fits = All-nil _;
      ends = record { 0 = λ h. absurd (h refl); 1 = λ e h. never_ends (file_left (own_events place (and_then run event))) e };
      replied = tt;
    }) (record { made = refl; pins = refl; unpins = refl; doomed = refl; removed = refl; given = refl; placed = refl; gone = refl }) come (comes_along run event old old come refl refl (omega arith) refl refl refl) (λ uid. refl) (tells_itself old) shows (omega arith) (mail_still old.map old.history) refl refl (refl, refl, nothing lists old)
    (ends_well request.Resync said event None None did.Quiet old old refl runs runs refl (λ x. x) (λ e. no_reply _ e) (λ some. absurd (unstepped some)) (λ given e. absurd (no_reply given e)))
  where
    event : RunEvent
    event = listing_event lane place found.files (told_calls old.history)

lists_behind : (files : List ℕ) (run : Run) (lane place : ℕ) (said : List Reply) (calls : ℕ) → IsAtResync ToList run place said → IsAtResync (ToRead files 0 0) (and_then run (listing_event lane place files calls)) place (and_told said None)
lists_behind files run lane place said calls stood =
    let event : RunEvent = listing_event lane place files calls in
    (subst (λ (es : List RunEvent). HasRead files 0 0 place es) (sym (own_more place run event (same_place place))) (read_none place (own_events place run) event files stood.0 refl refl refl refl refl), stood.1)

pub lists_then : (found after : Around) (run : Run) (lane place : ℕ) (said : List Reply) (lists : Lists) (old : Seen) → HasComeTo run old → ShowsSeen old lists → IsAtResync ToList run place said → old.stopped ≡ false → ListsFiles run found.files
    → (d : DidEvent found after run lane place said request.Resync lists old old did.Quiet None) × (no_answer ≡ None → IsAtResync (ToRead found.files 0 0) (and_then run d.makes.event) place (and_told said d.makes.answer))
lists_then found after run lane place said lists old come shows stood runs listed =
    stands_by found after run lane place said request.Resync lists old old did.Quiet None (listing_event lane place found.files (told_calls old.history)) None (IsAtResync (ToRead found.files 0 0))
    (did_list found after run lane place said lists old come shows stood runs listed) (λ e. lists_behind found.files run lane place said (told_calls old.history) stood)

-- ---- a file is read

did_read : (found after : Around) (run : Run) (lane place : ℕ) (said : List Reply) (lists : Lists) (old new : Seen) (files : List ℕ) (read damaged : ℕ) → HasComeTo run old → StaysSo old new → ShowsSeen new lists → IsAtResync (ToRead files read damaged) run place said
    → old.stopped ≡ false → new.stopped ≡ false → NoFault old.faults new.faults → read < length files → FindsDamage run (own_events place run) found.damaged → Leads lists lists old new
    → DidBy found after run lane place said request.Resync lists old new did.Quiet None (reading_event lane place found.damaged (told_calls new.history)) None
did_read found after run lane place said lists old new files read damaged come stays shows stood ran runs unfailed left finds leads =
    did_own found after run lane place said request.Resync lists lists old new did.Quiet None None event
    (record {
      own = own_event event refl;
      finds = tt;
      found = λ looked. finds;
      part_is = next_reads found run files read damaged place stood.0 left;
      allowed = refl;
      did = refl;
      fits = All-nil _;
      ends = record { 0 = λ h. absurd (h refl); 1 = λ e h. never_ends (file_left (own_events place (and_then run event))) e };
      replied = tt;
    }) (record { made = refl; pins = refl; unpins = refl; doomed = refl; removed = refl; given = refl; placed = refl; gone = refl }) come (comes_along run event old new come stays.map stays.drawn stays.grows refl refl refl) (λ uid. let d = stays.due uid in omega (arith, d)) stays.tells shows stays.grows stays.mail refl refl (refl, runs ∙ sym ran, leads)
    (ends_well request.Resync said event None None did.Quiet old new refl ran runs unfailed (λ x. x) (λ e. no_reply _ e) (λ some. absurd (unstepped some)) (λ given e. absurd (no_reply given e)))
  where
    event : RunEvent
    event = reading_event lane place found.damaged (told_calls new.history)

reads_behind : (uids : List ℕ) (run : Run) (lane place : ℕ) (said : List Reply) (calls : ℕ) (files : List ℕ) (read damaged : ℕ) → IsAtResync (ToRead files read damaged) run place said
    → IsAtResync (ToRead files (read + 1) (damaged + length uids)) (and_then run (reading_event lane place uids calls)) place (and_told said None)
reads_behind uids run lane place said calls files read damaged stood =
    let event : RunEvent = reading_event lane place uids calls in
    (subst (λ (es : List RunEvent). HasRead files (read + 1) (damaged + length uids) place es) (sym (own_more place run event (same_place place))) (read_more place (own_events place run) event files read damaged stood.0 refl refl refl refl), stood.1)

pub reads_then : (found after : Around) (run : Run) (lane place : ℕ) (said : List Reply) (lists : Lists) (old new : Seen) (files : List ℕ) (read damaged : ℕ) → HasComeTo run old → StaysSo old new → ShowsSeen new lists → IsAtResync (ToRead files read damaged) run place said
    → old.stopped ≡ false → new.stopped ≡ false → NoFault old.faults new.faults → read < length files → FindsDamage run (own_events place run) found.damaged → Leads lists lists old new
    → (d : DidEvent found after run lane place said request.Resync lists old new did.Quiet None) × (no_answer ≡ None → IsAtResync (ToRead files (read + 1) (damaged + length found.damaged)) (and_then run d.makes.event) place (and_told said d.makes.answer))
reads_then found after run lane place said lists old new files read damaged come stays shows stood ran runs unfailed left finds leads =
    stands_by found after run lane place said request.Resync lists old new did.Quiet None (reading_event lane place found.damaged (told_calls new.history)) None (IsAtResync (ToRead files (read + 1) (damaged + length found.damaged)))
    (did_read found after run lane place said lists old new files read damaged come stays shows stood ran runs unfailed left finds leads) (λ e. reads_behind found.damaged run lane place said (told_calls new.history) files read damaged stood)

-- ---- the counts are put right

-- a count that is set begins and ends nothing
nothing_begins : (lane place corrected damaged : ℕ) (counts : List MapCount) (calls uid : ℕ) → begun_in uid (correcting_event lane place corrected damaged counts calls) ≡ 0
nothing_begins lane place corrected damaged [] calls uid = refl
nothing_begins lane place corrected damaged (c ∷ counts) calls uid = refl

nothing_ends : (lane place corrected damaged : ℕ) (counts : List MapCount) (calls uid : ℕ) → ended_in uid (correcting_event lane place corrected damaged counts calls) ≡ 0
nothing_ends lane place corrected damaged [] calls uid = refl
nothing_ends lane place corrected damaged (c ∷ counts) calls uid = refl

unchanged_due : (lane place corrected damaged : ℕ) (counts : List MapCount) (calls uid old new : ℕ) → new ≡ old → new + ended_in uid (correcting_event lane place corrected damaged counts calls) ≡ old + begun_in uid (correcting_event lane place corrected damaged counts calls)
unchanged_due lane place corrected damaged counts calls uid old new same = let a = nothing_ends lane place corrected damaged counts calls uid in let b = nothing_begins lane place corrected damaged counts calls uid in omega (arith, a, b, same)

leaves_all : (lane place corrected damaged : ℕ) (counts : List MapCount) (calls : ℕ) → LeavesFiles (correcting_event lane place corrected damaged counts calls)
leaves_all lane place corrected damaged counts calls = record { made = refl; pins = refl; unpins = refl; doomed = refl; removed = refl; given = refl; placed = refl; gone = refl }

-- the run with the entry has come to where the store stands
comes_with : (run : Run) (event : RunEvent) (added : MapMeaning → MapMeaning) (old new : Seen) → HasCome (and_then run event) (added old.map) old.drawn event.moment → new.map ≡ added old.map → new.drawn ≡ old.drawn → event.moment ≡ told_calls new.history
    → HasCome (and_then run event) new.map new.drawn (told_calls new.history)
comes_with run event added old new come map drawn moment =
    subst (λ (m : MapMeaning). HasCome (and_then run event) m new.drawn (told_calls new.history)) (sym map)
    (subst (λ (d : Highest). HasCome (and_then run event) (added old.map) d (told_calls new.history)) (sym drawn)
    (subst (λ (n : ℕ). HasCome (and_then run event) (added old.map) old.drawn n) moment come))

comes_right : (run : Run) (lane place corrected damaged : ℕ) (counts : List MapCount) (old new : Seen) → HasComeTo run old → new.map ≡ corrected_map counts old.map → new.drawn ≡ old.drawn → Grows old.history new.history
    → HasCome (and_then run (correcting_event lane place corrected damaged counts (told_calls new.history))) new.map new.drawn (told_calls new.history)
comes_right run lane place corrected damaged [] old new come map drawn grows = comes_along run (correcting_event lane place corrected damaged [] (told_calls new.history)) old new come map drawn grows refl refl refl
comes_right run lane place corrected damaged (c ∷ counts) old new come map drawn grows =
    let event : RunEvent = correcting_event lane place corrected damaged (c ∷ counts) (told_calls new.history) in
    let later : told_calls old.history ≤ told_calls new.history = grows in
    comes_with run event (map_applied (entry.T (c ∷ counts))) old new
    (subst (λ (d : Highest). HasCome (and_then run event) (map_applied (entry.T (c ∷ counts)) old.map) d (told_calls new.history)) (drawn_none old.drawn) (comes_on_with run event (entry.T (c ∷ counts)) old.map old.drawn (told_calls old.history) come.come later refl)) map drawn refl

-- the store with the counts put right, of which nothing else has changed, as it would be then
abbrev put_right_in : Seen → List MapCount → Option History → Seen
put_right_in old counts history = record old { map = corrected_map counts old.map; history = history }

-- with the entry each count is what lists and tasks refer to
pub right_then : (run : Run) (lane place corrected damaged : ℕ) (counts : List MapCount) (old : Seen) (history : Option History) (lists : Lists) → HasComeTo run old → old.stopped ≡ false → Grows old.history history → AreWrongCounts counts lists old
    → AreRight (and_then run (correcting_event lane place corrected damaged counts (told_calls history))) lists
right_then run lane place corrected damaged counts old history lists come runs grows wrong row there =
    let event : RunEvent = correcting_event lane place corrected damaged counts (told_calls history) in
    let new : Seen = put_right_in old counts history in
    let comes = comes_right run lane place corrected damaged counts old new come refl refl grows in
    let in_map = subst (λ (m : MapMeaning). Contains m.records row) comes.map_is there in
    let now : HasComeTo (and_then run event) new = comes_to_on run event old new come comes (λ uid. unchanged_due lane place corrected damaged counts (told_calls history) uid (old.due uid) (old.due uid) refl) (leaves_all lane place corrected damaged counts (told_calls history)) (tells_alike old counts history) in
    wrong.right row in_map ∙ ap (λ (n : ℕ). refs_of lists row.guid + n) (sym (due_is (and_then run event) new row.uid now runs))
  where
    tells_alike : (old : Seen) (counts : List MapCount) (history : Option History) → TellsSame old (put_right_in old counts history)
    tells_alike old counts history = record { ran = λ runs. runs; pins = λ file. refl; doomed = λ file. refl; used = λ file. refl; barred = λ file. refl; gave = λ guid. refl; gone = λ instance. refl; files = λ file. refl; instances = λ instance. refl }

-- what the event does, of the run
pub wrong_set : (run : Run) (lane place corrected damaged : ℕ) (counts : List MapCount) (old : Seen) (history : Option History) (lists : Lists) → HasComeTo run old → old.stopped ≡ false → Grows old.history history → AreWrongCounts counts lists old
    → All (λ given. HasRecord (map_of run) given.uid.0 (λ row. row.count ≢ given.count)) counts × AreRight (and_then run (correcting_event lane place corrected damaged counts (told_calls history))) lists
wrong_set run lane place corrected damaged counts old history lists come runs grows wrong = (
  subst (λ (m : MapMeaning). All (λ (c : MapCount). HasRecord m c.uid.0 (λ row. row.count ≢ c.count)) counts) (sym come.come.map_is) wrong.wrong,
  right_then run lane place corrected damaged counts old history lists come runs grows wrong,
)

pub are_resynced : (run : Run) (lane place : ℕ) (files : List ℕ) (read damaged : ℕ) (counts : List MapCount) (old : Seen) (calls : ℕ) → HasComeTo run old → HasRead files read damaged place (own_events place run)
    → AreResynced run (correcting_event lane place (many_corrected counts old.map) damaged counts calls) (many_corrected counts old.map) damaged
are_resynced run lane place files read damaged counts old calls come stood = record {
  corrected_are = ap (λ (m : MapMeaning). sum_by (corrected_in m) (corrects counts)) (sym come.come.map_is);
  damaged_are = sym stood.damaged_are;
}

-- the entry, if there is one, fits
abbrev pub CountsFit : List MapCount → MapMeaning → Type 0
CountsFit counts m = All (MapFits m) (corrects counts)

resynced_apart : (a b : ℕ) → Some (reply.Resynced a b) ≡ Some (reply.Refused refusal.Stopped) → ⊥
resynced_apart a b e = let k : reply.Resynced a b ≡ reply.Refused refusal.Stopped = cc e in cc k

pub corrects_then : (found after : Around) (run : Run) (lane place : ℕ) (said : List Reply) (lists : Lists) (old new : Seen) (files : List ℕ) (damaged : ℕ) (counts : List MapCount) → HasComeTo run old → IsAtResync (ToRead files (length files) damaged) run place said
    → old.stopped ≡ false → new.stopped ≡ false → AreWrongCounts counts lists old → CountsFit counts old.map → new.map ≡ corrected_map counts old.map → new.drawn ≡ old.drawn → ((uid : ℕ) → new.due uid ≡ old.due uid) → TellsSame old new → ShowsSeen new lists → Leads lists lists old new
    → Grows old.history new.history → MailIsKept old.map old.history new.history → NoFault old.faults new.faults
    → DidEvent found after run lane place said request.Resync lists old new (did.Step half.Whole) (Some (reply.Resynced (many_corrected counts old.map) damaged))
corrects_then found after run lane place said lists old new files damaged counts come stood ran runs wrong fit map drawn due tells shown leads grows mail unfailed =
    (did_own found after run lane place said request.Resync lists lists old new (did.Step half.Whole) (Some given) (Some given) event
    (record {
      own = own_event event refl;
      finds = tt;
      found = λ looked. tt;
      part_is = next_corrects found run files damaged place stood.0;
      allowed = refl;
      did = let w = wrong_set run lane place many damaged counts old new.history lists come ran grows wrong in (counts, w.0, w.1, refl);
      fits = subst (λ (m : MapMeaning). All (MapFits m) (corrects counts)) (sym come.come.map_is) fit;
      ends = record { 0 = λ h. refl; 1 = λ e h. some_reply given h };
      replied = nothing_refused (own_events place run) event stood.0.unrefused refl;
    }) (leaves_all lane place many damaged counts (told_calls new.history)) come (comes_right run lane place many damaged counts old new come map drawn grows) (λ uid. unchanged_due lane place many damaged counts (told_calls new.history) uid (old.due uid) (new.due uid) (due uid)) tells shown grows mail refl
    ((refl, (are_resynced run lane place files (length files) damaged counts old (told_calls new.history) come stood.0, refl)), refl) (refl, refl, runs, leads)
    (ends_well request.Resync said event (Some given) (Some given) (did.Step half.Whole) old new refl ran runs unfailed (λ x. x) (resynced_apart many damaged) (λ some. ap (λ (s : List Reply). slice_get (halves_of request.Resync) (length s)) stood.1)
    (first_reply request.Resync said (Some given) given stood.1 refl))).so
  where
    many : ℕ
    many = many_corrected counts old.map

    given : Reply
    given = reply.Resynced many damaged

    event : RunEvent
    event = correcting_event lane place many damaged counts (told_calls new.history)
