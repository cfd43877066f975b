-- What is seen of a store without one storage file, in a run of which an event removed that.
use Rattle.purge_task.proofs.Common.{◌≡◌, ◌≤◌, ◌==◌, ◌&&◌, ◌||◌, ℕ, Bool, true, false, not, List, [], ◌∷◌, ◌++◌, Option, None, refl, sym, ◌∙◌, ap, subst, arith, inl, inr, is_some, nat_le, nat_lt, list_any, option_map_or, option_and_then, cases_eq, common_steps, Faults, History, told_calls}
use Rattle.purge_task.proofs.Common.{MapMeaning, is_own, is_sealed, number_at, RemovesFile, Run, RunEvent, and_then, before, event_of, is_one_of, map_of, begun_in, ended_in, HasCome, comes_on, file_in, is_doomed_in, pins_in, without_file, MailFile, file-gone, file-without, knows_file, StoreValue}
use Rattle.purge_task.proofs.Common.{may_be_used, HasComeTo, was_used, given_still, gone_still, pins_still, placed_still, seen_by_purge}
use Rattle.std.specs.Prelude.{◌≢◌}
use Rattle.list_machine.specs.Run.{is_doomed}
use Rattle.journal.specs.Found.{is_known_file}
use Rattle.store_seen.specs.Seeing.{may_be_barred}
use Rattle.purge_task.proofs.RunLemmas.{any_now, any_still, one_itself, one_other, sum_push}

abbrev pub removal_event : ℕ → ℕ → ℕ → ℕ → RunEvent
removal_event lane place file calls = record (event_of lane place RemovesFile calls) { removed = file ∷ [] }

-- the store without the file
abbrev pub without : {D : Type 0} → ℕ → D → StoreValue D → StoreValue D
without file disk store = record store { disk = disk; files = record store.files { files = without_file file store.files.files } }

-- ---- the run

abbrev removes : ℕ → RunEvent → Bool
removes n e = is_one_of e.removed n

removed_here : (run : Run) (lane place file calls : ℕ) → list_any (removes file) (run.events ++ removal_event lane place file calls ∷ []) ≡ true
removed_here run lane place file calls = any_now (removes file) run.events (removal_event lane place file calls) (one_itself file)

removed_other : (run : Run) (lane place file calls n : ℕ) → n ≢ file → list_any (removes n) (run.events ++ removal_event lane place file calls ∷ []) ≡ list_any (removes n) run.events
removed_other run lane place file calls n apart = any_still (removes n) run.events (removal_event lane place file calls) (one_other file n apart)

and_not_true : (a b : Bool) → b ≡ true → (a && not b) ≡ false
and_not_true true b e = ap (λ (x : Bool). not x) e
and_not_true false b e = refl

doomed_gone : (run : Run) (lane place file calls : ℕ) → is_doomed (and_then run (removal_event lane place file calls)) file ≡ false
doomed_gone run lane place file calls = and_not_true (list_any (λ (e : RunEvent). is_one_of e.doomed file) (run.events ++ removal_event lane place file calls ∷ [])) (list_any (removes file) (run.events ++ removal_event lane place file calls ∷ [])) (removed_here run lane place file calls)

doomed_other : (run : Run) (lane place file calls n : ℕ) → n ≢ file → is_doomed (and_then run (removal_event lane place file calls)) n ≡ is_doomed run n
doomed_other run lane place file calls n apart =
    ap (λ (b : Bool). b && not (list_any (removes n) (run.events ++ removal_event lane place file calls ∷ []))) (any_still (λ (e : RunEvent). is_one_of e.doomed n) run.events (removal_event lane place file calls) refl)
    ∙ ap (λ (b : Bool). list_any (λ (e : RunEvent). is_one_of e.doomed n) run.events && not b) (removed_other run lane place file calls n apart)

used_other : (run : Run) (lane place file calls n : ℕ) → n ≢ file → was_used (and_then run (removal_event lane place file calls)) n ≡ was_used run n
used_other run lane place file calls n apart = any_still (λ (e : RunEvent). is_one_of e.doomed n || is_one_of e.removed n) run.events (removal_event lane place file calls) (one_other file n apart)

known_gone : (run : Run) (lane place file calls : ℕ) → is_known_file (and_then run (removal_event lane place file calls)) file ≡ false
known_gone run lane place file calls =
    and_not_true (list_any (λ row. row.file == file) (map_of (before 0 run)).records || (is_sealed (map_of (and_then run (removal_event lane place file calls))) file || list_any (λ (e : RunEvent). is_one_of e.made file) (run.events ++ removal_event lane place file calls ∷ [])))
    (list_any (removes file) (run.events ++ removal_event lane place file calls ∷ [])) (removed_here run lane place file calls)

known_other : (run : Run) (lane place file calls n : ℕ) → map_of (and_then run (removal_event lane place file calls)) ≡ map_of run → n ≢ file → is_known_file (and_then run (removal_event lane place file calls)) n ≡ is_known_file run n
known_other run lane place file calls n map apart =
    ap (λ (b : Bool). (list_any (λ row. row.file == n) (map_of (before 0 run)).records || (is_sealed (map_of (and_then run (removal_event lane place file calls))) n || list_any (λ (e : RunEvent). is_one_of e.made n) (run.events ++ removal_event lane place file calls ∷ []))) && not b) (removed_other run lane place file calls n apart)
    ∙ (ap (λ (b : Bool). (list_any (λ row. row.file == n) (map_of (before 0 run)).records || (is_sealed (map_of (and_then run (removal_event lane place file calls))) n || b)) && not (list_any (removes n) run.events)) (any_still (λ (e : RunEvent). is_one_of e.made n) run.events (removal_event lane place file calls) refl)
    ∙ ap (λ (m : MapMeaning). (list_any (λ row. row.file == n) (map_of (before 0 run)).records || (is_sealed m n || list_any (λ (e : RunEvent). is_one_of e.made n) run.events)) && not (list_any (removes n) run.events)) map)

-- ---- the store

abbrev by_end : List ℕ → Option MailFile → Bool
by_end guid o = option_map_or (λ f. option_map_or (λ end. nat_lt (number_at 12 guid) end) f.end false) o true

le_true : (a b : ℕ) → a ≤ b → nat_le a b ≡ true
le_true a b l = grind (arith, common_steps, l)

either_and : (a b : Bool) → a ≡ true → b ≡ true → (a && b) ≡ true
either_and a b x y = rw (x, y) refl

second : (a b : Bool) → (a && b) ≡ true → b ≡ true
second true b e = e
second false b e = absurd (cc e)

-- what is made true by another value stays true
more_true : (a b c : Bool) → (b ≡ true → c ≡ true) → (a && b) ≡ true → (a && c) ≡ true
more_true true b c h e = h e
more_true false b c h e = e

pub removal_comes : {D : Type 0} → (run : Run) (lane place : ℕ) (file : ℕ) (disk : D) (old : StoreValue D) (before after : Option History) (began faults : Faults) → HasComeTo run (seen_by_purge old before began) → old.stopped ≡ false → pins_in file old.files.files ≡ 0 → file ≤ old.drawn.file → told_calls before ≤ told_calls after
    → HasComeTo (and_then run (removal_event lane place file (told_calls after))) (seen_by_purge (without file disk old) after faults)
removal_comes {D = D} run lane place file disk old before after began faults h ran unpinned drawn grows = record {
  come = came;
  keeps = λ runs.
      let k = h.keeps ran in
      record {
        due = λ uid.
            let a = sum_push (begun_in uid) run.events event in
            let b = sum_push (ended_in uid) run.events event in
            let c = k.due uid in
            let x : begun_in uid event ≡ 0 = refl in
            let y : ended_in uid event ≡ 0 = refl in
            omega (arith, a, b, c, x, y);
        pins = λ n. pins_still run event n refl refl ∙ (k.pins n ∙ sym (pins_same n));
        doomed = λ n. elim (cases_eq n file) [
          | inl same ↦ subst (λ (i : ℕ). is_doomed (and_then run event) i ≡ is_doomed_in i new.files.files) (sym same) (doomed_gone run lane place file (told_calls after) ∙ sym (ap (λ (o : Option MailFile). option_map_or (λ f. f.doomed) o false) gone))
          | inr apart ↦ doomed_other run lane place file (told_calls after) n apart ∙ (k.doomed n ∙ sym (ap (λ (o : Option MailFile). option_map_or (λ f. f.doomed) o false) (other n apart)))
        ];
        instances = λ instance. placed_still run event instance refl refl ∙ k.instances instance;
        files = λ n unsealed known. elim (cases_eq n file) [
          | inl same ↦ absurd (let e : true ≡ false = sym known ∙ (ap (λ (i : ℕ). is_known_file (and_then run event) i) same ∙ known_gone run lane place file (told_calls after)) in cc e)
          | inr apart ↦ knows_other n apart ∙ k.files n (sym (ap (λ (m : MapMeaning). is_sealed m n) map) ∙ unsealed) (sym (known_other run lane place file (told_calls after) n map apart) ∙ known)
        ];
      };
  used = λ n e. elim (cases_eq n file) [
    | inl same ↦ subst (λ (i : ℕ). may_be_used new i ≡ true) (sym same) (either_and (nat_le file old.drawn.file) (option_map_or (λ f. f.doomed) (file_in file new.files.files) true) (le_true file old.drawn.file drawn) (ap (λ (o : Option MailFile). option_map_or (λ f. f.doomed) o true) gone))
    | inr apart ↦ ap (λ (o : Option MailFile). nat_le n old.drawn.file && option_map_or (λ f. f.doomed) o true) (other n apart) ∙ h.used n (sym (used_other run lane place file (told_calls after) n apart) ∙ e)
  ];
  barred = λ n e. elim (cases_eq n file) [
    | inl same ↦ subst (λ (i : ℕ). may_be_barred new i ≡ true) (sym same) (either_and (nat_le file old.drawn.file) (option_map_or (λ f. f.barred) (file_in file new.files.files) true) (le_true file old.drawn.file drawn) (ap (λ (o : Option MailFile). option_map_or (λ f. f.barred) o true) gone))
    | inr apart ↦ ap (λ (o : Option MailFile). nat_le n old.drawn.file && option_map_or (λ f. f.barred) o true) (other n apart) ∙ h.barred n e
  ];
  gave = λ guid e. more_true (is_own old.map.store guid) (nat_le (number_at 8 guid) old.drawn.file && ends_before guid old) (nat_le (number_at 8 guid) old.drawn.file && ends_before guid new)
      (more_true (nat_le (number_at 8 guid) old.drawn.file) (ends_before guid old) (ends_before guid new) (gave_on guid)) (h.gave guid (sym (given_still run event guid refl) ∙ e));
  gone = λ instance e. h.gone instance (sym (gone_still run event instance refl) ∙ e);
  files = λ n e. elim (cases_eq n file) [
    | inl same ↦ absurd (let k : false ≡ true = sym (ap (λ (o : Option MailFile). is_some (option_and_then (λ f. f.end) o)) gone) ∙ (ap (λ (i : ℕ). knows_file new i) (sym same) ∙ e) in cc k)
    | inr apart ↦ known_other run lane place file (told_calls after) n map apart ∙ h.files n (sym (knows_other n apart) ∙ e)
  ];
}
  where
    event : RunEvent
    event = removal_event lane place file (told_calls after)

    new : StoreValue D
    new = without file disk old

    came : HasCome (and_then run event) old.map old.drawn (told_calls after)
    came = comes_on run event old.map old.drawn (told_calls before) h.come grows refl refl

    map : map_of (and_then run event) ≡ map_of run
    map = came.map_is ∙ sym h.come.map_is

    gone : file_in file new.files.files ≡ None
    gone = file-gone file old.files.files

    other : (n : ℕ) → n ≢ file → file_in n new.files.files ≡ file_in n old.files.files
    other n apart = file-without file n old.files.files apart

    pins_same : (n : ℕ) → pins_in n new.files.files ≡ pins_in n old.files.files
    pins_same n = elim (cases_eq n file) [
      | inl same ↦ subst (λ (i : ℕ). pins_in i new.files.files ≡ pins_in i old.files.files) (sym same) (ap (λ (o : Option MailFile). option_map_or (λ f. f.pins) o 0) gone ∙ sym unpinned)
      | inr apart ↦ ap (λ (o : Option MailFile). option_map_or (λ f. f.pins) o 0) (other n apart)
    ]

    knows_other : (n : ℕ) → n ≢ file → knows_file new n ≡ knows_file old n
    knows_other n apart = ap (λ (o : Option MailFile). is_some (option_and_then (λ f. f.end) o)) (other n apart)

    ends_before : List ℕ → StoreValue D → Bool
    ends_before guid store = by_end guid (file_in (number_at 8 guid) store.files.files)

    gave_on : (guid : List ℕ) → ends_before guid old ≡ true → ends_before guid new ≡ true
    gave_on guid e = elim (cases_eq (number_at 8 guid) file) [
      | inl same ↦ ap (λ (i : ℕ). by_end guid (file_in i new.files.files)) same ∙ ap (by_end guid) gone
      | inr apart ↦ ap (by_end guid) (other (number_at 8 guid) apart) ∙ e
    ]
