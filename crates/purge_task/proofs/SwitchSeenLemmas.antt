-- What is seen of a store in which a storage file was switched, in a run of which an event switched it.
use Rattle.purge_task.proofs.Common.{◌≡◌, ◌≤◌, ◌&&◌, ◌||◌, ℕ, Bool, true, false, not, List, [], ◌∷◌, ◌++◌, Option, Some, None, refl, sym, ◌∙◌, ap, subst, arith, inl, inr, ◌⊎◌, is_some, nat_le, list_any, option_map_or, option_and_then, cases_eq, common_steps, Faults, History, told_calls, LogState}
use Rattle.purge_task.proofs.Common.{Highest, FileNo, MapUid, MapPlace, MapMeaning, is_own, map_applied, number_at, Run, RunEvent, Switches, and_then, event_of, is_one_of, begun_in, ended_in, HasCome, FilesValue, file_in, is_doomed_in, pins_in, MailFile, due_at, StoreValue, may_be_used, HasComeTo}
use Rattle.purge_task.proofs.Common.{was_used, file_still_known, given_still, gone_still, pins_still, placed_still, there_before, seen_by_purge}
use Rattle.std.specs.Prelude.{◌≢◌}
use Rattle.mdbox_base.specs.declared.entries.MapEntry.TheVariants as map_entry
use Rattle.list_machine.specs.Run.{is_doomed}
use Rattle.journal.proofs.RunLemmas.{comes_on_with, drawn_none}
use Rattle.task_steps.proofs.SeenLemmas.{first_doomed}
use Rattle.purge_task.proofs.RunLemmas.{any_still, one_itself, one_other, sum_push}
use Rattle.purge_task.proofs.SameSeenLemmas.{bars, is_before, uses}

abbrev pub switch_event : ℕ → ℕ → FileNo → ℕ → List MapPlace → List MapUid → ℕ → RunEvent
switch_event lane place file target moved dropped calls = record (event_of lane place Switches calls) { map_entries = map_entry.P file target moved dropped ∷ []; doomed = file.0 ∷ [] }

-- the store with another map, its log, what is due, and other files
abbrev pub with_map : {D : Type 0} → D → LogState → MapMeaning → List ℕ → FilesValue → StoreValue D → StoreValue D
with_map disk log map dues files store = record store { disk = disk; map_log = log; map = map; dues = dues; files = files }

-- The file is doomed, and else the files are there, pinned and doomed as they were.
pub record IsDoomedOf (file : ℕ) (old new : List MailFile) : Type 0 where
  pub here : is_doomed_in file new ≡ true
  pub pins : (n : ℕ) → pins_in n new ≡ pins_in n old
  pub doomed : (n : ℕ) → n ≢ file → is_doomed_in n new ≡ is_doomed_in n old
  pub used : (n : ℕ) → n ≢ file → uses (file_in n new) ≡ uses (file_in n old)
  pub barred : (n : ℕ) → bars (file_in n new) ≡ bars (file_in n old)
  pub ended : (n : ℕ) → option_and_then (λ f. f.end) (file_in n new) ≡ option_and_then (λ f. f.end) (file_in n old)
  pub before : (n offset : ℕ) → is_before offset (file_in n new) ≡ is_before offset (file_in n old)

le_true : (a b : ℕ) → a ≤ b → nat_le a b ≡ true
le_true a b l = grind (arith, common_steps, l)

and_true : (a b : Bool) → a ≡ true → b ≡ true → (a && b) ≡ true
and_true a b x y = rw (x, y) refl

-- a doomed file may have been used
doomed_used : (n : ℕ) (files : List MailFile) → is_doomed_in n files ≡ true → uses (file_in n files) ≡ true
doomed_used n files e = by_case (file_in n files) e
  where
    by_case : (o : Option MailFile) → option_map_or (λ f. f.doomed) o false ≡ true → uses o ≡ true
    by_case None k = refl
    by_case (Some f) k = k

pub switch_comes : {D : Type 0} → (run : Run) (lane place : ℕ) (file : FileNo) (target : ℕ) (moved : List MapPlace) (dropped : List MapUid) (disk : D) (log : LogState) (dues : List ℕ) (files : FilesValue) (old : StoreValue D) (before after : Option History) (began faults : Faults) → HasComeTo run (seen_by_purge old before began) → old.stopped ≡ false
    → IsDoomedOf file.0 old.files.files files.files → was_used run file.0 ≡ false → file.0 ≤ old.drawn.file → ((uid : ℕ) → due_at uid (with_map disk log (map_applied (map_entry.P file target moved dropped) old.map) dues files old) ≡ due_at uid old) → told_calls before ≤ told_calls after
    → HasComeTo (and_then run (switch_event lane place file target moved dropped (told_calls after))) (seen_by_purge (with_map disk log (map_applied (map_entry.P file target moved dropped) old.map) dues files old) after faults)
switch_comes {D = D} run lane place file target moved dropped disk log dues files old before after began faults h ran is unused drawn due grows = record {
  come = came;
  keeps = λ runs.
      let t = h.keeps ran in
      record {
        due = λ uid.
            let a = sum_push (begun_in uid) run.events event in
            let b = sum_push (ended_in uid) run.events event in
            let c = t.due uid in
            let x : begun_in uid event ≡ 0 = refl in
            let y : ended_in uid event ≡ 0 = refl in
            let d = due uid in
            omega (arith, a, b, c, x, y, d);
        pins = λ n. pins_still run event n refl refl ∙ (t.pins n ∙ sym (is.pins n));
        doomed = λ n. elim (cases_eq n file.0) [
          | inl same ↦ subst (λ (i : ℕ). is_doomed (and_then run event) i ≡ is_doomed_in i files.files) (sym same) ((first_doomed run event file.0 unused (one_itself file.0) refl).1 ∙ sym is.here)
          | inr apart ↦ (ap (λ (b : Bool). b && not (list_any (λ (e : RunEvent). is_one_of e.removed n) (run.events ++ event ∷ []))) (any_still (λ (e : RunEvent). is_one_of e.doomed n) run.events event (one_other file.0 n apart))
              ∙ ap (λ (b : Bool). list_any (λ (e : RunEvent). is_one_of e.doomed n) run.events && not b) (any_still (λ (e : RunEvent). is_one_of e.removed n) run.events event refl)) ∙ (t.doomed n ∙ sym (is.doomed n apart))
        ];
        instances = λ row. placed_still run event row refl refl ∙ t.instances row;
        files = λ n unsealed known. ap (λ (o : Option ℕ). is_some o) (is.ended n) ∙ by_maker n (there_before run event (seen_by_purge old before began) n t refl unsealed known);
      };
  used = λ n e. elim (cases_eq n file.0) [
    | inl same ↦ subst (λ (i : ℕ). may_be_used new i ≡ true) (sym same) (and_true (nat_le file.0 old.drawn.file) (uses (file_in file.0 files.files)) (le_true file.0 old.drawn.file drawn) (doomed_used file.0 files.files is.here))
    | inr apart ↦ ap (λ (b : Bool). nat_le n old.drawn.file && b) (is.used n apart) ∙ h.used n (sym (any_still (λ (e : RunEvent). is_one_of e.doomed n || is_one_of e.removed n) run.events event (ap (λ (b : Bool). b || false) (one_other file.0 n apart))) ∙ e)
  ];
  barred = λ n e. ap (λ (b : Bool). nat_le n old.drawn.file && b) (is.barred n) ∙ h.barred n e;
  gave = λ guid e. ap (λ (b : Bool). is_own old.map.store guid && (nat_le (number_at 8 guid) old.drawn.file && b)) (is.before (number_at 8 guid) (number_at 12 guid)) ∙ h.gave guid (sym (given_still run event guid refl) ∙ e);
  gone = λ row e. h.gone row (sym (gone_still run event row refl) ∙ e);
  files = λ n e. file_still_known run event n refl (h.files n (sym (ap (λ (o : Option ℕ). is_some o) (is.ended n)) ∙ e));
}
  where
    event : RunEvent
    event = switch_event lane place file target moved dropped (told_calls after)

    new : StoreValue D
    new = with_map disk log (map_applied (map_entry.P file target moved dropped) old.map) dues files old

    came : HasCome (and_then run event) new.map old.drawn (told_calls after)
    came = subst (λ (d : Highest). HasCome (and_then run event) new.map d (told_calls after)) (drawn_none old.drawn) (comes_on_with run event (map_entry.P file target moved dropped) old.map old.drawn (told_calls before) h.come grows refl)

    by_maker : (n : ℕ) → ((seen_by_purge old before began).files n ≡ true) ⊎ (is_one_of event.made n ≡ true) → (seen_by_purge old before began).files n ≡ true
    by_maker n (inl there) = there
    by_maker n (inr made) = absurd (let e : false ≡ true = made in cc e)
