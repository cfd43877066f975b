-- The claims of a delivery, by event.
use Rattle.mail_save.proofs.Common.{◌≡◌, ◌≢◌, ◌+◌, ◌==◌, ℕ, Bool, true, false, List, [], ◌∷◌, ◌++◌, Option, Some, None, refl, sym, ◌∙◌, ap, subst, arith, inl, inr, ◌↔◌, is_some, list_any, option_map_or, option_and_then, cases_eq, eq-eqb, ne_eqb, History, Faults, InstRow, FileNo, Did, Progress}
use Rattle.mail_save.proofs.Common.{Refusal, Reply, AttachingValue, AreFilesInOrder, FilesValue, IsTakeFor, end_in, ending_at, file_begun, file_in, given_back, is_doomed_in, is_taken_in, place_begun_in, released_in, with_taken, MailFile, Take, Known, New, Full, none_begun, Moves, amounts_in}
use Rattle.mail_save.proofs.Common.{MovesHolds, StoreValue, Due, Held, Taken, one_if, save_claims, save_amounts, HoldsRegion, AttachesNext, AttachesNone, IsLeftAlone, LetsGo, PlacesParts, SaveEffects, StoresNone, TakesFileFor, TakesNone, TookAs, roomy_files, taken_files, HasLeft, RepliesAt, Saves}
use Rattle.mail_save.proofs.Common.{stopped_reply, SavedParts, SavedAt, SaveStage}
use Rattle.std.specs.Prelude.{◌&&◌, length}
use Rattle.mdbox_base.specs.declared.progress.Progress.TheVariants as progress
use Rattle.mdbox_base.specs.declared.replies.Refusal.TheVariants as refusal
use Rattle.mdbox_base.specs.declared.replies.Reply.TheVariants as reply
use Rattle.storage_files.specs.Files.{is_emptied_in, pins_in}
use Rattle.store_core.specs.declared.store.OpenBox.{OpenBox}
use Rattle.task_claims.specs.Claims.{ClaimsNothing, Emptied, Made, MovesClaims, Pinned, PlacingPieces, Removing}
use Rattle.mail_save.specs.Claims.{own_file_of}
use Rattle.mail_save.specs.Held.{save_holds}
use Rattle.mail_save.specs.SaveEffects.{AreOthersTaken}
use Rattle.mail_save.specs.Task.{EndsSave}
use Rattle.mail_save.specs.declared.task.SaveStage.TheVariants as stage
use Rattle.mail_save.proofs.LettingLemmas.{let_go_store}
use Rattle.mail_save.proofs.SaveEventLemmas.{refused_is, unfallen}
use Rattle.mail_save.proofs.SaveFileLemmas.{released_as, released_free, taken_unemptied, value_begun, value_changed}

-- ---- what is claimed of storage files

-- what else is claimed of a file than that it is taken
abbrev pins_of_file : Option MailFile → ℕ
pins_of_file o = option_map_or (λ f. f.pins) o 0

abbrev emptied_of : Option MailFile → Bool
emptied_of o = option_map_or (λ f. f.emptied) o false

abbrev doomed_of : Option MailFile → Bool
doomed_of o = option_map_or (λ f. f.doomed) o false

abbrev begun_of : Option MailFile → Option ℕ
begun_of o = option_and_then (λ f. f.begun) o

-- All of this stays of each file, and so do the logs that were made. That files are taken changes by what the delivery has.
record MovesFiles {D : Type 0} (now next : SaveStage) (old new : StoreValue D) : Type 0 where
  pins : (n : ℕ) → pins_in n new.files.files ≡ pins_in n old.files.files
  emptied : (n : ℕ) → is_emptied_in n new.files.files ≡ is_emptied_in n old.files.files
  doomed : (n : ℕ) → is_doomed_in n new.files.files ≡ is_doomed_in n old.files.files
  begun : (n : ℕ) → place_begun_in n new.files.files ≡ place_begun_in n old.files.files
  taken : (n : ℕ) → one_if (is_taken_in n new.files.files) + own_file_of now n ≡ one_if (is_taken_in n old.files.files) + own_file_of next n
  made : new.made ≡ old.made

same_amount : (a b mine mine_now : ℕ) → a ≡ b → mine ≡ mine_now → a + mine ≡ b + mine_now
same_amount a b mine mine_now e f = omega (arith, e, f)

same_files : {D : Type 0} → (now next : SaveStage) (old new : StoreValue D) → ((n : ℕ) → own_file_of now n ≡ own_file_of next n) → new.files.files ≡ old.files.files → new.made ≡ old.made → MovesFiles now next old new
same_files now next old new own files made = record {
  pins = λ n. ap (pins_in n) files;
  emptied = λ n. ap (is_emptied_in n) files;
  doomed = λ n. ap (is_doomed_in n) files;
  begun = λ n. ap (place_begun_in n) files;
  taken = λ n. same_amount (one_if (is_taken_in n new.files.files)) (one_if (is_taken_in n old.files.files)) (own_file_of now n) (own_file_of next n) (ap (λ (fs : List MailFile). one_if (is_taken_in n fs)) files) (own n);
  made = made;
}

-- ---- a file is taken, and given back

-- one that is the delivery's then, and wasn't anybody's
gained : (was is : ℕ → Bool) (file : ℕ) → ((n : ℕ) → n ≢ file → is n ≡ was n) → was file ≡ false → is file ≡ true → (n : ℕ) → one_if (is n) + 0 ≡ one_if (was n) + one_if (file == n)
gained was is file others free taken n = elim (cases_eq n file) [
  | inl same ↦
      let a : one_if (is n) ≡ 1 = ap one_if (ap is same ∙ taken) in
      let b : one_if (was n) ≡ 0 = ap one_if (ap was same ∙ free) in
      let c : one_if (file == n) ≡ 1 = ap one_if (eq-eqb file n (sym same)) in
      omega (arith, a, b, c)
  | inr apart ↦
      let a : one_if (is n) ≡ one_if (was n) = ap one_if (others n apart) in
      let c : one_if (file == n) ≡ 0 = ap one_if (ne_eqb file n (λ e. apart (sym e))) in
      omega (arith, a, c)
]

lost : (was is : ℕ → Bool) (file : ℕ) → ((n : ℕ) → n ≢ file → is n ≡ was n) → was file ≡ true → is file ≡ false → (n : ℕ) → one_if (is n) + one_if (file == n) ≡ one_if (was n) + 0
lost was is file others taken free n = sym (gained is was file (λ k apart. sym (others k apart)) free taken n)

-- what taking one leaves of each
took_value : {D : Type 0} {X : Type 0} → (value : Option MailFile → X) (take : Take) (header size : ℕ) (file : FileNo) (old new : StoreValue D) → AreFilesInOrder old.files → TookAs take header file old new → IsTakeFor size old.files take
    → ((f : MailFile) → value (Some (with_taken true f)) ≡ value (Some f)) → ((end : ℕ) (f : MailFile) → value (Some (ending_at end f)) ≡ value (Some f)) → ((k : FileNo) → value (Some (file_begun k)) ≡ value None)
    → (n : ℕ) → value (file_in n (taken_files take header (roomy_files old.files)).files) ≡ value (file_in n old.files.files)
took_value value (Known k) header size file old new order t is keeps ends bare n = value_changed value k.0 n (with_taken true) old.files.files (λ f. refl) (λ f at. keeps f)
took_value value (New k) header size file old new order t is keeps ends bare n =
    value_changed value k.0 n (ending_at header) (old.files.files ++ file_begun k ∷ []) (λ f. refl) (λ f at. ends header f) ∙ value_begun value k n old.files.files (none_begun k old.files order is.1) (bare k)
took_value value Full header size file old new order t is keeps ends bare n = absurd t

taking_moves : {D : Type 0} → (parts laid : SavedParts) (header size : ℕ) (file : FileNo) (old new : StoreValue D) → AreFilesInOrder old.files → TakesFileFor header size file old new → is_taken_in file.0 new.files.files ≡ true → MovesFiles (stage.Taking parts) (stage.Placing laid file) old new
taking_moves parts laid header size file old new order t taken = record {
  pins = λ n. ap (λ (fs : FilesValue). pins_in n fs.files) t.files ∙ took_value pins_of_file t.take header size file old new order t.took t.is (λ f. refl) (λ end f. refl) (λ k. refl) n;
  emptied = λ n. ap (λ (fs : FilesValue). is_emptied_in n fs.files) t.files ∙ took_value emptied_of t.take header size file old new order t.took t.is (λ f. refl) (λ end f. refl) (λ k. refl) n;
  doomed = λ n. ap (λ (fs : FilesValue). is_doomed_in n fs.files) t.files ∙ took_value doomed_of t.take header size file old new order t.took t.is (λ f. refl) (λ end f. refl) (λ k. refl) n;
  begun = λ n. ap (λ (fs : FilesValue). place_begun_in n fs.files) t.files ∙ took_value begun_of t.take header size file old new order t.took t.is (λ f. refl) (λ end f. refl) (λ k. refl) n;
  taken = gained (λ n. is_taken_in n old.files.files) (λ n. is_taken_in n new.files.files) file.0 t.others t.free taken;
  made = ap (λ (v : StoreValue _). v.made) t.same;
}

placing_moves : {D : Type 0} → (parts : SavedParts) (file : FileNo) (at : SavedAt) (rows : List InstRow) (room : Unit {0}) (old new : StoreValue D) → PlacesParts parts file at rows old new → MovesFiles (stage.Placing parts file) (stage.Storing at rows room) old new
placing_moves parts file at rows room old new p = record {
  pins = λ n. ap (λ (v : StoreValue _). pins_in n v.files.files) p.same ∙ value_changed pins_of_file file.0 n (ending_at (at.offset + at.size)) old.files.files (λ f. refl) (λ f there. refl);
  emptied = λ n. ap (λ (v : StoreValue _). is_emptied_in n v.files.files) p.same ∙ value_changed emptied_of file.0 n (ending_at (at.offset + at.size)) old.files.files (λ f. refl) (λ f there. refl);
  doomed = λ n. ap (λ (v : StoreValue _). is_doomed_in n v.files.files) p.same ∙ value_changed doomed_of file.0 n (ending_at (at.offset + at.size)) old.files.files (λ f. refl) (λ f there. refl);
  begun = λ n. ap (λ (v : StoreValue _). place_begun_in n v.files.files) p.same ∙ value_changed begun_of file.0 n (ending_at (at.offset + at.size)) old.files.files (λ f. refl) (λ f there. refl);
  taken = λ n. same_amount (one_if (is_taken_in n new.files.files)) (one_if (is_taken_in n old.files.files)) (one_if (file.0 == n)) (one_if (at.file.0 == n)) (ap one_if (p.taken n)) (ap (λ (k : FileNo). one_if (k.0 == n)) (sym p.file_is));
  made = ap (λ (v : StoreValue _). v.made) p.same;
}

-- the file was taken, and nothing was being placed in it
taken_one : (n : ℕ) (files : List MailFile) (f : MailFile) → file_in n files ≡ Some f → is_taken_in n files ≡ true → f.taken ≡ true
taken_one n files f found taken = sym (ap (λ (o : Option MailFile). option_map_or (λ g. g.taken) o false) found) ∙ taken

unbegun_one : (n : ℕ) (files : List MailFile) (f : MailFile) → file_in n files ≡ Some f → place_begun_in n files ≡ None → f.begun ≡ None
unbegun_one n files f found none = sym (ap begun_of found) ∙ none

released_value : {X : Type 0} → (value : Option MailFile → X) (n m end : ℕ) (files : List MailFile) → end_in n files ≡ Some end → ((f : MailFile) → file_in n files ≡ Some f → value (Some (given_back f)) ≡ value (Some f)) → value (file_in m (released_in n files)) ≡ value (file_in m files)
released_value value n m end files ends stays = ap (λ (fs : List MailFile). value (file_in m fs)) (released_as n end files ends) ∙ value_changed value n m given_back files (λ f. refl) stays

releasing_moves : {D : Type 0} → (at : SavedAt) (rows : List InstRow) (room : Unit {0}) (next : SaveStage) (old new : StoreValue D) → AreFilesInOrder old.files → HoldsRegion at old → ((n : ℕ) → own_file_of next n ≡ 0) → new.files.files ≡ released_in at.file.0 old.files.files
    → AreOthersTaken at.file.0 old new → new.made ≡ old.made → MovesFiles (stage.Storing at rows room) next old new
releasing_moves at rows room next old new order h none files others made =
    let was : List MailFile = old.files.files in
    record {
      pins = λ n. ap (pins_in n) files ∙ released_value pins_of_file at.file.0 n h.end was h.ends (λ f found. refl);
      emptied = λ n. ap (is_emptied_in n) files ∙ released_value emptied_of at.file.0 n h.end was h.ends (λ f found. sym (taken_unemptied at.file.0 old.files f order found (taken_one at.file.0 was f found h.taken)));
      doomed = λ n. ap (is_doomed_in n) files ∙ released_value doomed_of at.file.0 n h.end was h.ends (λ f found. refl);
      begun = λ n. ap (place_begun_in n) files ∙ released_value begun_of at.file.0 n h.end was h.ends (λ f found. sym (unbegun_one at.file.0 was f found h.unbegun));
      taken = λ n.
          lost (λ k. is_taken_in k was) (λ k. is_taken_in k new.files.files) at.file.0 others h.taken (ap (is_taken_in at.file.0) files ∙ released_free at.file.0 h.end was h.ends) n
          ∙ ap (λ (k : ℕ). one_if (is_taken_in n was) + k) (sym (none n));
      made = made;
    }

-- ---- instances are let go then

let_go_as : {D : Type 0} → (now next : SaveStage) (found : List InstRow) (old left : StoreValue D) → MovesFiles now next old left → MovesFiles now next old (let_go_store found left)
let_go_as now next found old left m = record { pins = m.pins; emptied = m.emptied; doomed = m.doomed; begun = m.begun; taken = m.taken; made = m.made }

let_go_moves : {D : Type 0} → (now next : SaveStage) (found : List InstRow) (old left new : StoreValue D) → LetsGo found left new → MovesFiles now next old left → MovesFiles now next old new
let_go_moves now next found old left new gone m = subst (λ (s : StoreValue _). MovesFiles now next old s) (sym gone) (let_go_as now next found old left m)

-- ---- by event

attached_moves : {D : Type 0} → (parts : SavedParts) (attaching more : AttachingValue) (next : SaveStage) (old new : StoreValue D) → ((n : ℕ) → 0 ≡ own_file_of next n) → AttachesNext attaching more old new → MovesFiles (stage.Attaching parts attaching) next old new
attached_moves parts attaching more next old new own (inl k) = same_files (stage.Attaching parts attaching) next old new own (ap (λ (v : StoreValue _). v.files.files) k.same) (ap (λ (v : StoreValue _). v.made) k.same)
attached_moves parts attaching more next old new own (inr k) = same_files (stage.Attaching parts attaching) next old new own (ap (λ (v : StoreValue _). v.files.files) k.same) (ap (λ (v : StoreValue _). v.made) k.same)

unattached_moves : {D : Type 0} → (parts : SavedParts) (attaching : AttachingValue) (why : Refusal) (old new : StoreValue D) → AttachesNone attaching why old new → MovesFiles (stage.Attaching parts attaching) stage.Ended old new
unattached_moves parts attaching refusal.Stopped old new k = same_files (stage.Attaching parts attaching) stage.Ended old new (λ n. refl) (ap (λ (v : StoreValue _). v.files.files) k.2) (ap (λ (v : StoreValue _). v.made) k.2)
unattached_moves parts attaching refusal.ReadFault old new k = same_files (stage.Attaching parts attaching) stage.Ended old new (λ n. refl) (ap (λ (v : StoreValue _). v.files.files) k.1) (ap (λ (v : StoreValue _). v.made) k.1)
unattached_moves parts attaching why old new k = same_files (stage.Attaching parts attaching) stage.Ended old new (λ n. refl) (ap (λ (v : StoreValue _). v.files.files) k.1) (ap (λ (v : StoreValue _). v.made) k.1)

untaken_moves : {D : Type 0} → (parts : SavedParts) (size : ℕ) (why : Refusal) (old new : StoreValue D) → new.stopped ≡ false → TakesNone size why old new → MovesFiles (stage.Taking parts) stage.Ended old new
untaken_moves parts size why old new runs (inl k) = same_files (stage.Taking parts) stage.Ended old new (λ n. refl) (ap (λ (v : StoreValue _). v.files.files) k.1) (ap (λ (v : StoreValue _). v.made) k.1)
untaken_moves parts size why old new runs (inr (inl k)) = same_files (stage.Taking parts) stage.Ended old new (λ n. refl) (ap (λ (v : StoreValue _). v.files.files) k.1.same) (ap (λ (v : StoreValue _). v.made) k.1.same)
untaken_moves parts size why old new runs (inr (inr k)) = absurd (unfallen new.stopped (ap (λ (v : StoreValue _). v.stopped) k.1.same) runs)

alone_moves : {D : Type 0} → (now next : SaveStage) (old new : StoreValue D) → ((n : ℕ) → own_file_of now n ≡ own_file_of next n) → IsLeftAlone old new → MovesFiles now next old new
alone_moves now next old new own k = same_files now next old new own (ap (λ (v : StoreValue _). v.files.files) k.same) (ap (λ (v : StoreValue _). v.made) k.same)

store_moves : {D : Type 0} → (now next : SaveStage) (old new : StoreValue D) → ((n : ℕ) → own_file_of now n ≡ own_file_of next n) → new ≡ old → MovesFiles now next old new
store_moves now next old new own same = same_files now next old new own (ap (λ (v : StoreValue _). v.files.files) same) (ap (λ (v : StoreValue _). v.made) same)

-- a store that is stopped is no store that runs
pub stopped_runs : {X : Type 0} → (why : Refusal) (stopped : Bool) → (progress.Done (reply.Refused why) ≡ stopped_reply) ↔ (stopped ≡ true) → stopped ≡ false → why ≡ refusal.Stopped → X
stopped_runs why stopped stops runs is = absurd (unfallen stopped (stops.0 (refused_is why is)) runs)

files_move : {D : Type 0} → (now next : SaveStage) (name : List ℕ) (time size : ℕ) (answer : Progress) (old new : StoreValue D) (before after : Option History) → AreFilesInOrder old.files → HasLeft now name time old before → (answer ≡ progress.More → HasLeft next name time new after) → new.stopped ≡ false
    → (answer ≡ stopped_reply) ↔ (new.stopped ≡ true) → RepliesAt now name answer next old → SaveEffects now next name time size answer old new → MovesFiles now next old new
files_move (stage.First prepared) (stage.Attaching parts attaching) name time size progress.More old new before after order left then runs stops replies e = store_moves (stage.First prepared) (stage.Attaching parts attaching) old new (λ n. refl) e.0
files_move (stage.First prepared) (stage.Taking parts) name time size progress.More old new before after order left then runs stops replies e = store_moves (stage.First prepared) (stage.Taking parts) old new (λ n. refl) e.0
files_move (stage.First prepared) stage.Ended name time size (progress.Done (reply.Refused why)) old new before after order left then runs stops replies e = store_moves (stage.First prepared) stage.Ended old new (λ n. refl) e
files_move (stage.Attaching parts attaching) (stage.Attaching laid more) name time size progress.More old new before after order left then runs stops replies e = attached_moves parts attaching more (stage.Attaching laid more) old new (λ n. refl) e.1
files_move (stage.Attaching parts attaching) (stage.Taking named) name time size progress.More old new before after order left then runs stops replies e = attached_moves parts attaching e.0 (stage.Taking named) old new (λ n. refl) e.1
files_move (stage.Attaching parts attaching) stage.Ended name time size (progress.Done (reply.Refused why)) old new before after order left then runs stops replies e =
    let_go_moves (stage.Attaching parts attaching) stage.Ended attaching.found old e.0 new e.2 (unattached_moves parts attaching why old e.0 e.1)
files_move (stage.Taking parts) (stage.Placing laid file) name time size progress.More old new before after order left then runs stops replies e = taking_moves parts laid (length parts.header) (length parts.laid.region) file old new order e.1 (then refl).1.taken
files_move (stage.Taking parts) stage.Ended name time size (progress.Done (reply.Refused why)) old new before after order left then runs stops replies e =
    let_go_moves (stage.Taking parts) stage.Ended parts.rows old e.0 new e.2 (untaken_moves parts (length parts.laid.region) why old e.0 (sym (ap (λ (v : StoreValue _). v.stopped) e.2) ∙ runs) e.1)
files_move (stage.Placing parts file) (stage.Storing at rows room) name time size progress.More old new before after order left then runs stops replies e = placing_moves parts file at rows room old new e
files_move (stage.Placing parts file) stage.Ended name time size (progress.Done (reply.Refused why)) old new before after order left then runs stops replies e = stopped_runs why new.stopped stops runs replies
files_move (stage.Storing at rows room) (stage.Adding added kept) name time size progress.More old new before after order left then runs stops replies e =
    let_go_moves (stage.Storing at rows room) (stage.Adding added kept) rows old e.0 new e.2
    (releasing_moves at rows room (stage.Adding added kept) old e.0 order left.0 (λ n. refl) (ap (λ (v : StoreValue _). v.files.files) e.1.same) e.1.others (ap (λ (v : StoreValue _). v.made) e.1.same))
files_move (stage.Storing at rows room) stage.Ended name time size (progress.Done (reply.Refused why)) old new before after order left then runs stops replies e =
    let_go_moves (stage.Storing at rows room) stage.Ended rows old e.0 new e.2 (by_cause e.1)
  where
    by_cause : StoresNone at why old e.0 → MovesFiles (stage.Storing at rows room) stage.Ended old e.0
    by_cause (inl k) = stopped_runs why new.stopped stops runs k.0
    by_cause (inr k) = releasing_moves at rows room stage.Ended old e.0 order left.0 (λ n. refl) (ap (λ (v : StoreValue _). v.files.files) k.1.same) k.1.others (ap (λ (v : StoreValue _). v.made) k.1.same)
files_move (stage.Adding added room) stage.Ended name time size (progress.Done (reply.Saved uid guid)) old new before after order left then runs stops replies e =
    same_files (stage.Adding added room) stage.Ended old new (λ n. refl) (ap (λ (v : StoreValue _). v.files.files) e.1.same) (ap (λ (v : StoreValue _). v.made) e.1.same)
files_move (stage.Adding added room) stage.Ended name time size (progress.Done (reply.Refused why)) old new before after order left then runs stops replies e = alone_moves (stage.Adding added room) stage.Ended old new (λ n. refl) e
files_move (stage.Adding added room) (stage.GivingBack uid why kept) name time size progress.More old new before after order left then runs stops replies e = store_moves (stage.Adding added room) (stage.GivingBack uid why kept) old new (λ n. refl) e.1
files_move (stage.GivingBack uid why room) stage.Ended name time size (progress.Done (reply.Refused given)) old new before after order left then runs stops replies (inl e) =
    same_files (stage.GivingBack uid why room) stage.Ended old new (λ n. refl) (ap (λ (v : StoreValue _). v.files.files) e.1.same) (ap (λ (v : StoreValue _). v.made) e.1.same)
files_move (stage.GivingBack uid why room) stage.Ended name time size (progress.Done (reply.Refused given)) old new before after order left then runs stops replies (inr e) = alone_moves (stage.GivingBack uid why room) stage.Ended old new (λ n. refl) e.1
files_move now next name time size answer old new before after order left then runs stops replies e = absurd e

-- ---- all claims

claims_by : {D : Type 0} → (now next : SaveStage) (old new : StoreValue D) → Moves (save_amounts now) (save_amounts next) (amounts_in old) (amounts_in new) → MovesHolds (save_holds now) (save_holds next) old new → MovesFiles now next old new → MovesClaims (save_claims now) (save_claims next) old new
claims_by now next old new moves holds m (Due uid) = moves.due uid
claims_by now next old new moves holds m (Pinned file) = ap (λ (k : ℕ). k + 0) (m.pins file)
claims_by now next old new moves holds m (Taken file) = m.taken file
claims_by now next old new moves holds m (Emptied file) = ap (λ (b : Bool). one_if b + 0) (m.emptied file)
claims_by now next old new moves holds m (PlacingPieces file) = ap (λ (o : Option ℕ). one_if (is_some o) + 0) (m.begun file)
claims_by now next old new moves holds m (Removing file) =
    ap (λ (b : Bool). one_if (b && (pins_in file new.files.files == 0)) + 0) (m.doomed file) ∙ ap (λ (k : ℕ). one_if (is_doomed_in file old.files.files && (k == 0)) + 0) (m.pins file)
claims_by now next old new moves holds m (Held id) = holds id
claims_by now next old new moves holds m (Made number) = ap (λ (bs : List OpenBox). one_if (list_any (λ b. b.number.0 == number) bs) + 0) m.made

pub save_moves : {D : Type 0} → (now next : SaveStage) (name : List ℕ) (time size : ℕ) (answer : Progress) (how : Did) (old new : StoreValue D) (before after : Option History) (began faulted : Faults) → AreFilesInOrder old.files → HasLeft now name time old before → new.stopped ≡ false
    → Saves now next name time size answer how old new before after began faulted → MovesClaims (save_claims now) (save_claims next) old new
save_moves now next name time size answer how old new before after began faulted order left runs s =
    claims_by now next old new (s.moves runs) s.holds (files_move now next name time size answer old new before after order left s.left runs s.stopped s.replies s.effects)

-- ---- one that was replied

ended_claims : ClaimsNothing (save_claims stage.Ended)
ended_claims (Due uid) = refl
ended_claims (Pinned file) = refl
ended_claims (Taken file) = refl
ended_claims (Emptied file) = refl
ended_claims (PlacingPieces file) = refl
ended_claims (Removing file) = refl
ended_claims (Held id) = refl
ended_claims (Made number) = refl

-- no event is left of it
pub at_end : {D : Type 0} → (now next : SaveStage) (name : List ℕ) (time size : ℕ) (given : Reply) (old new : StoreValue D) → SaveEffects now next name time size (progress.Done given) old new → next ≡ stage.Ended
at_end (stage.First prepared) stage.Ended name time size (reply.Refused why) old new e = refl
at_end (stage.Attaching parts attaching) stage.Ended name time size (reply.Refused why) old new e = refl
at_end (stage.Taking parts) stage.Ended name time size (reply.Refused why) old new e = refl
at_end (stage.Placing parts file) stage.Ended name time size (reply.Refused why) old new e = refl
at_end (stage.Storing at rows room) stage.Ended name time size (reply.Refused why) old new e = refl
at_end (stage.Adding added room) stage.Ended name time size (reply.Saved uid guid) old new e = refl
at_end (stage.Adding added room) stage.Ended name time size (reply.Refused why) old new e = refl
at_end (stage.GivingBack uid why room) stage.Ended name time size (reply.Refused given) old new e = refl
at_end now next name time size given old new e = absurd e

pub save_ended : {D : Type 0} → (now next : SaveStage) (name : List ℕ) (time size : ℕ) (answer : Progress) (given : Reply) (old new : StoreValue D) → SaveEffects now next name time size answer old new → answer ≡ progress.Done given → ClaimsNothing (save_claims next)
save_ended now next name time size answer given old new e is =
    subst (λ (s : SaveStage). ClaimsNothing (save_claims s)) (sym (at_end now next name time size given old new (subst (λ (a : Progress). SaveEffects now next name time size a old new) is e))) ended_claims

-- ---- how a step ends

pub save_ends : {D : Type 0} → (now next : SaveStage) (name : List ℕ) (time size : ℕ) (answer : Progress) (how : Did) (old new : StoreValue D) (before after : Option History) (began faulted : Faults) → old.stopped ≡ false → AreFilesInOrder old.files → HasLeft now name time old before
    → Saves now next name time size answer how old new before after began faulted → EndsSave answer old new
save_ends now next name time size answer how old new before after began faulted ran order left s = record {
  stopped = s.stopped;
  still = λ stopped. absurd (unfallen old.stopped stopped ran);
  doomed = λ runs. (files_move now next name time size answer old new before after order left s.left runs s.stopped s.replies s.effects).doomed;
}

-- in a store that was stopped
pub stopped_ends : {D : Type 0} → (store : StoreValue D) → store.stopped ≡ true → EndsSave stopped_reply store store
stopped_ends store stopped = record {
  stopped = record { 0 = λ e. stopped; 1 = λ e. refl };
  still = λ e. refl;
  doomed = λ runs. absurd (unfallen store.stopped stopped runs);
}
