-- What is seen of a store without one storage file, in a run of which the last event of a fetch removed that.
use Rattle.mail_fetch.proofs.Common.{◌≡◌, ◌≤◌, ◌+◌, ◌==◌, ◌&&◌, ◌||◌, ℕ, Bool, true, false, not, List, [], ◌∷◌, ◌++◌, Option, Some, None, refl, sym, ◌∙◌, ap, subst, arith, inl, inr, is_some, nat_lt, sum_by, list_any, option_map_or, option_and_then, cases_eq, eq-eqb, ne_eqb, common_steps}
use Rattle.mail_fetch.proofs.Common.{sum_by-cons, Faults, History, told_calls, Reply, MapMeaning, RemovesFile, Run, RunEvent, and_then, is_doomed, is_one_of, file_in, is_doomed_in, pins_in, MailFile, file-gone, file-without, StoreValue, HasComeTo, seen_in}
use Rattle.std.specs.Prelude.{◌≢◌, nat_le}
use Rattle.std.proofs.lemmas.List.Sums.{sum_by-append}
use Rattle.model_meaning.specs.MapMeaning.{is_own, is_sealed, number_at}
use Rattle.list_machine.specs.Run.{before, event_of, map_of}
use Rattle.journal.specs.Events.{begun_in, ended_in}
use Rattle.journal.specs.Found.{is_known_file}
use Rattle.journal.specs.Makes.{HasCome}
use Rattle.journal.proofs.RunLemmas.{comes_on}
use Rattle.store_core.specs.Knows.{knows_file}
use Rattle.store_seen.specs.Seeing.{may_be_barred, may_be_used}
use Rattle.task_steps.specs.Step.{was_used}
use Rattle.task_steps.proofs.SeenLemmas.{given_still, gone_still, pins_still, placed_still}
use Rattle.mail_fetch.specs.Removal.{with_file_gone}
use Rattle.mail_fetch.proofs.LastPinLemmas.{any_push, or_none, or_true}

-- it gives this reply
abbrev pub removal_event : ℕ → ℕ → ℕ → Reply → ℕ → RunEvent
removal_event lane place file given calls = record (event_of lane place RemovesFile calls) { removed = file ∷ []; reply = Some given }

-- the store without the file, with another disk
abbrev pub without : {D : Type 0} → ℕ → D → StoreValue D → StoreValue D
without file disk store = record (with_file_gone file store) { disk = disk }

-- ---- lists with an element more

any_still : {X : Type 0} → (p : X → Bool) (xs : List X) (x : X) → p x ≡ false → list_any p (xs ++ x ∷ []) ≡ list_any p xs
any_still p xs x e = any_push p xs x ∙ (ap (λ (b : Bool). list_any p xs || b) e ∙ or_none (list_any p xs))

any_now : {X : Type 0} → (p : X → Bool) (xs : List X) (x : X) → p x ≡ true → list_any p (xs ++ x ∷ []) ≡ true
any_now p xs x e = any_push p xs x ∙ (ap (λ (b : Bool). list_any p xs || b) e ∙ or_true (list_any p xs))

sum_push : {X : Type 0} → (f : X → ℕ) (xs : List X) (x : X) → sum_by f (xs ++ x ∷ []) ≡ sum_by f xs + f x
sum_push f xs x = let h = sum_by-append f xs (x ∷ []) in let k = sum_by-cons f x [] in omega (arith, h, k)

one_itself : (file : ℕ) → is_one_of (file ∷ []) file ≡ true
one_itself file = or_none (file == file) ∙ eq-eqb file file refl

one_other : (file n : ℕ) → n ≢ file → is_one_of (file ∷ []) n ≡ false
one_other file n apart = or_none (file == n) ∙ ne_eqb file n (λ e. apart (sym e))

-- ---- the run

abbrev removes : ℕ → RunEvent → Bool
removes n e = is_one_of e.removed n

removed_here : (run : Run) (lane place file : ℕ) (given : Reply) (calls : ℕ) → list_any (removes file) (run.events ++ removal_event lane place file given calls ∷ []) ≡ true
removed_here run lane place file given calls = any_now (removes file) run.events (removal_event lane place file given calls) (one_itself file)

removed_other : (run : Run) (lane place file : ℕ) (given : Reply) (calls n : ℕ) → n ≢ file → list_any (removes n) (run.events ++ removal_event lane place file given calls ∷ []) ≡ list_any (removes n) run.events
removed_other run lane place file given calls n apart = any_still (removes n) run.events (removal_event lane place file given calls) (one_other file n apart)

and_not_true : (a b : Bool) → b ≡ true → (a && not b) ≡ false
and_not_true true b e = ap (λ (x : Bool). not x) e
and_not_true false b e = refl

doomed_gone : (run : Run) (lane place file : ℕ) (given : Reply) (calls : ℕ) → is_doomed (and_then run (removal_event lane place file given calls)) file ≡ false
doomed_gone run lane place file given calls = and_not_true (list_any (λ (e : RunEvent). is_one_of e.doomed file) (run.events ++ removal_event lane place file given calls ∷ [])) (list_any (removes file) (run.events ++ removal_event lane place file given calls ∷ [])) (removed_here run lane place file given calls)

doomed_other : (run : Run) (lane place file : ℕ) (given : Reply) (calls n : ℕ) → n ≢ file → is_doomed (and_then run (removal_event lane place file given calls)) n ≡ is_doomed run n
doomed_other run lane place file given calls n apart =
    ap (λ (b : Bool). b && not (list_any (removes n) (run.events ++ removal_event lane place file given calls ∷ []))) (any_still (λ (e : RunEvent). is_one_of e.doomed n) run.events (removal_event lane place file given calls) refl)
    ∙ ap (λ (b : Bool). list_any (λ (e : RunEvent). is_one_of e.doomed n) run.events && not b) (removed_other run lane place file given calls n apart)

used_other : (run : Run) (lane place file : ℕ) (given : Reply) (calls n : ℕ) → n ≢ file → was_used (and_then run (removal_event lane place file given calls)) n ≡ was_used run n
used_other run lane place file given calls n apart = any_still (λ (e : RunEvent). is_one_of e.doomed n || is_one_of e.removed n) run.events (removal_event lane place file given calls) (one_other file n apart)

known_gone : (run : Run) (lane place file : ℕ) (given : Reply) (calls : ℕ) → is_known_file (and_then run (removal_event lane place file given calls)) file ≡ false
known_gone run lane place file given calls =
    and_not_true (list_any (λ row. row.file == file) (map_of (before 0 run)).records || (is_sealed (map_of (and_then run (removal_event lane place file given calls))) file || list_any (λ (e : RunEvent). is_one_of e.made file) (run.events ++ removal_event lane place file given calls ∷ [])))
    (list_any (removes file) (run.events ++ removal_event lane place file given calls ∷ [])) (removed_here run lane place file given calls)

known_other : (run : Run) (lane place file : ℕ) (given : Reply) (calls n : ℕ) → map_of (and_then run (removal_event lane place file given calls)) ≡ map_of run → n ≢ file → is_known_file (and_then run (removal_event lane place file given calls)) n ≡ is_known_file run n
known_other run lane place file given calls n map apart =
    ap (λ (b : Bool). (list_any (λ row. row.file == n) (map_of (before 0 run)).records || (is_sealed (map_of (and_then run (removal_event lane place file given calls))) n || list_any (λ (e : RunEvent). is_one_of e.made n) (run.events ++ removal_event lane place file given calls ∷ []))) && not b) (removed_other run lane place file given calls n apart)
    ∙ (ap (λ (b : Bool). (list_any (λ row. row.file == n) (map_of (before 0 run)).records || (is_sealed (map_of (and_then run (removal_event lane place file given calls))) n || b)) && not (list_any (removes n) run.events)) (any_still (λ (e : RunEvent). is_one_of e.made n) run.events (removal_event lane place file given calls) refl)
    ∙ ap (λ (m : MapMeaning). (list_any (λ row. row.file == n) (map_of (before 0 run)).records || (is_sealed m n || list_any (λ (e : RunEvent). is_one_of e.made n) run.events)) && not (list_any (removes n) run.events)) map)

-- ---- the store

abbrev by_end : List ℕ → Option MailFile → Bool
by_end guid o = option_map_or (λ f. option_map_or (λ end. nat_lt (number_at 12 guid) end) f.end false) o true

le_true : (a b : ℕ) → a ≤ b → nat_le a b ≡ true
le_true a b l = grind (arith, common_steps, l)

either_and : (a b : Bool) → a ≡ true → b ≡ true → (a && b) ≡ true
either_and a b x y = rw (x, y) refl

-- what is made true by another value stays true
more_true : (a b c : Bool) → (b ≡ true → c ≡ true) → (a && b) ≡ true → (a && c) ≡ true
more_true true b c h e = h e
more_true false b c h e = e

pub removal_comes : {D : Type 0} → (run : Run) (lane place file : ℕ) (given : Reply) (disk : D) (old : StoreValue D) (before after : Option History) (began faults : Faults) → HasComeTo run (seen_in old before began) → old.stopped ≡ false → pins_in file old.files.files ≡ 0 → file ≤ old.drawn.file → told_calls before ≤ told_calls after
    → HasComeTo (and_then run (removal_event lane place file given (told_calls after))) (seen_in (without file disk old) after faults)
removal_comes {D = D} run lane place file given disk old before after began faults h ran unpinned drawn grows = record {
  come = came;
  keeps = λ runs.
      let k = h.keeps ran in
      record {
        due = λ uid.
            let a = sum_push (begun_in uid) run.events event in
            let b = sum_push (ended_in uid) run.events event in
            let c = k.due uid in
            let x : begun_in uid event ≡ 0 = refl in
            let y : ended_in uid event ≡ 0 = refl in
            omega (arith, a, b, c, x, y);
        pins = λ n. pins_still run event n refl refl ∙ (k.pins n ∙ sym (pins_same n));
        doomed = λ n. elim (cases_eq n file) [
          | inl same ↦ subst (λ (i : ℕ). is_doomed (and_then run event) i ≡ is_doomed_in i new.files.files) (sym same) (doomed_gone run lane place file given (told_calls after) ∙ sym (ap (λ (o : Option MailFile). option_map_or (λ f. f.doomed) o false) gone))
          | inr apart ↦ doomed_other run lane place file given (told_calls after) n apart ∙ (k.doomed n ∙ sym (ap (λ (o : Option MailFile). option_map_or (λ f. f.doomed) o false) (other n apart)))
        ];
        instances = λ instance. placed_still run event instance refl refl ∙ k.instances instance;
        files = λ n unsealed known. elim (cases_eq n file) [
          | inl same ↦ absurd (let e : true ≡ false = sym known ∙ (ap (λ (i : ℕ). is_known_file (and_then run event) i) same ∙ known_gone run lane place file given (told_calls after)) in cc e)
          | inr apart ↦ knows_other n apart ∙ k.files n (sym (ap (λ (m : MapMeaning). is_sealed m n) map) ∙ unsealed) (sym (known_other run lane place file given (told_calls after) n map apart) ∙ known)
        ];
      };
  used = λ n e. elim (cases_eq n file) [
    | inl same ↦ subst (λ (i : ℕ). may_be_used new i ≡ true) (sym same) (either_and (nat_le file old.drawn.file) (option_map_or (λ f. f.doomed) (file_in file new.files.files) true) (le_true file old.drawn.file drawn) (ap (λ (o : Option MailFile). option_map_or (λ f. f.doomed) o true) gone))
    | inr apart ↦ ap (λ (o : Option MailFile). nat_le n old.drawn.file && option_map_or (λ f. f.doomed) o true) (other n apart) ∙ h.used n (sym (used_other run lane place file given (told_calls after) n apart) ∙ e)
  ];
  barred = λ n e. elim (cases_eq n file) [
    | inl same ↦ subst (λ (i : ℕ). may_be_barred new i ≡ true) (sym same) (either_and (nat_le file old.drawn.file) (option_map_or (λ f. f.barred) (file_in file new.files.files) true) (le_true file old.drawn.file drawn) (ap (λ (o : Option MailFile). option_map_or (λ f. f.barred) o true) gone))
    | inr apart ↦ ap (λ (o : Option MailFile). nat_le n old.drawn.file && option_map_or (λ f. f.barred) o true) (other n apart) ∙ h.barred n e
  ];
  gave = λ guid e. more_true (is_own old.map.store guid) (nat_le (number_at 8 guid) old.drawn.file && ends_before guid old) (nat_le (number_at 8 guid) old.drawn.file && ends_before guid new)
      (more_true (nat_le (number_at 8 guid) old.drawn.file) (ends_before guid old) (ends_before guid new) (gave_on guid)) (h.gave guid (sym (given_still run event guid refl) ∙ e));
  gone = λ instance e. h.gone instance (sym (gone_still run event instance refl) ∙ e);
  files = λ n e. elim (cases_eq n file) [
    | inl same ↦ absurd (let k : false ≡ true = sym (ap (λ (o : Option MailFile). is_some (option_and_then (λ f. f.end) o)) gone) ∙ (ap (λ (i : ℕ). knows_file new i) (sym same) ∙ e) in cc k)
    | inr apart ↦ known_other run lane place file given (told_calls after) n map apart ∙ h.files n (sym (knows_other n apart) ∙ e)
  ];
}
  where
    event : RunEvent
    event = removal_event lane place file given (told_calls after)

    new : StoreValue D
    new = without file disk old

    came : HasCome (and_then run event) old.map old.drawn (told_calls after)
    came = comes_on run event old.map old.drawn (told_calls before) h.come grows refl refl

    map : map_of (and_then run event) ≡ map_of run
    map = came.map_is ∙ sym h.come.map_is

    gone : file_in file new.files.files ≡ None
    gone = file-gone file old.files.files

    other : (n : ℕ) → n ≢ file → file_in n new.files.files ≡ file_in n old.files.files
    other n apart = file-without file n old.files.files apart

    pins_same : (n : ℕ) → pins_in n new.files.files ≡ pins_in n old.files.files
    pins_same n = elim (cases_eq n file) [
      | inl same ↦ subst (λ (i : ℕ). pins_in i new.files.files ≡ pins_in i old.files.files) (sym same) (ap (λ (o : Option MailFile). option_map_or (λ f. f.pins) o 0) gone ∙ sym unpinned)
      | inr apart ↦ ap (λ (o : Option MailFile). option_map_or (λ f. f.pins) o 0) (other n apart)
    ]

    knows_other : (n : ℕ) → n ≢ file → knows_file new n ≡ knows_file old n
    knows_other n apart = ap (λ (o : Option MailFile). is_some (option_and_then (λ f. f.end) o)) (other n apart)

    ends_before : List ℕ → StoreValue D → Bool
    ends_before guid store = by_end guid (file_in (number_at 8 guid) store.files.files)

    gave_on : (guid : List ℕ) → ends_before guid old ≡ true → ends_before guid new ≡ true
    gave_on guid e = elim (cases_eq (number_at 8 guid) file) [
      | inl same ↦ ap (λ (i : ℕ). by_end guid (file_in i new.files.files)) same ∙ ap (by_end guid) gone
      | inr apart ↦ ap (by_end guid) (other (number_at 8 guid) apart) ∙ e
    ]
