-- What is seen of a store whose storage files tell no less, in a run of which an event left them.
use Rattle.purge_task.proofs.Common.{◌≡◌, ◌≤◌, ◌&&◌, ℕ, Bool, true, false, List, [], Option, Some, refl, sym, ◌∙◌, ap, subst, arith, inl, inr, ◌⊎◌, is_some, nat_le, nat_lt, option_map_or, option_and_then, cases_eq, common_steps, Faults, History, told_calls, is_own, no_numbers, number_at, Run}
use Rattle.purge_task.proofs.Common.{RunEvent, and_then, is_one_of, begun_in, ended_in, HasCome, comes_on, FilesValue, file_in, is_doomed_in, pins_in, MailFile, StoreValue, HasComeTo, doomed_still, file_still_known, given_still, gone_still, pins_still, placed_still, there_before, used_still}
use Rattle.purge_task.proofs.Common.{seen_by_purge}
use Rattle.std.specs.Prelude.{◌≢◌}
use Rattle.task_steps.specs.Tells.{LeavesFiles}
use Rattle.purge_task.proofs.RunLemmas.{sum_push}

-- the store with other files, that runs or doesn't
abbrev pub with_state : {D : Type 0} → D → FilesValue → Bool → StoreValue D → StoreValue D
with_state disk files stopped store = record store { disk = disk; files = files; stopped = stopped }

abbrev pub uses : Option MailFile → Bool
uses o = option_map_or (λ f. f.doomed) o true

abbrev pub bars : Option MailFile → Bool
bars o = option_map_or (λ f. f.barred) o true

abbrev pub is_before : ℕ → Option MailFile → Bool
is_before offset o = option_map_or (λ f. option_map_or (λ end. nat_lt offset end) f.end false) o true

abbrev pub ends : Option MailFile → Bool
ends o = is_some (option_and_then (λ f. f.end) o)

-- The files are pinned, doomed and there as they were; and what may have been used, barred or given still may.
pub record TellsNoLess (old new : List MailFile) : Type 0 where
  pub pins : (n : ℕ) → pins_in n new ≡ pins_in n old
  pub doomed : (n : ℕ) → is_doomed_in n new ≡ is_doomed_in n old
  pub used : (n : ℕ) → uses (file_in n old) ≡ true → uses (file_in n new) ≡ true
  pub barred : (n : ℕ) → bars (file_in n old) ≡ true → bars (file_in n new) ≡ true
  pub gave : (n offset : ℕ) → is_before offset (file_in n old) ≡ true → is_before offset (file_in n new) ≡ true
  pub there : (n : ℕ) → ends (file_in n new) ≡ ends (file_in n old)

pub tells_same : (files : List MailFile) → TellsNoLess files files
tells_same files = record { pins = λ n. refl; doomed = λ n. refl; used = λ n e. e; barred = λ n e. e; gave = λ n o e. e; there = λ n. refl }

more_true : (a b c : Bool) → (b ≡ true → c ≡ true) → (a && b) ≡ true → (a && c) ≡ true
more_true true b c h e = h e
more_true false b c h e = e

pub same_comes : {D : Type 0} → (run : Run) (event : RunEvent) (disk : D) (files : FilesValue) (stopped : Bool) (old : StoreValue D) (before after : Option History) (began faults : Faults) → HasComeTo run (seen_by_purge old before began) → old.stopped ≡ false → TellsNoLess old.files.files files.files → LeavesFiles event → event.map_entries ≡ []
    → event.drew ≡ no_numbers → event.moment ≡ told_calls after → ((uid : ℕ) → begun_in uid event ≡ ended_in uid event) → told_calls before ≤ told_calls after → HasComeTo (and_then run event) (seen_by_purge (with_state disk files stopped old) after faults)
same_comes {D = D} run event disk files stopped old before after began faults h ran tells leaves entries drew moment dues grows = record {
  come = subst (λ (n : ℕ). HasCome (and_then run event) old.map old.drawn n) moment (comes_on run event old.map old.drawn (told_calls before) h.come (subst (λ (n : ℕ). told_calls before ≤ n) (sym moment) grows) entries drew);
  keeps = λ runs.
      let t = h.keeps ran in
      record {
        due = λ uid.
            let a = sum_push (begun_in uid) run.events event in
            let b = sum_push (ended_in uid) run.events event in
            let c = t.due uid in
            let d = dues uid in
            omega (arith, a, b, c, d);
        pins = λ n. pins_still run event n leaves.pins leaves.unpins ∙ (t.pins n ∙ sym (tells.pins n));
        doomed = λ n. doomed_still run event n leaves.doomed leaves.removed ∙ (t.doomed n ∙ sym (tells.doomed n));
        instances = λ row. placed_still run event row leaves.placed leaves.gone ∙ t.instances row;
        files = λ n unsealed known. tells.there n ∙ by_maker n (there_before run event (seen_by_purge old before began) n t leaves.removed unsealed known);
      };
  used = λ n e. more_true (nat_le n old.drawn.file) (uses (file_in n old.files.files)) (uses (file_in n files.files)) (tells.used n) (h.used n (sym (used_still run event n leaves.doomed leaves.removed) ∙ e));
  barred = λ n e. more_true (nat_le n old.drawn.file) (bars (file_in n old.files.files)) (bars (file_in n files.files)) (tells.barred n) (h.barred n e);
  gave = λ guid e. more_true (is_own old.map.store guid) (nat_le (number_at 8 guid) old.drawn.file && is_before (number_at 12 guid) (file_in (number_at 8 guid) old.files.files)) (nat_le (number_at 8 guid) old.drawn.file && is_before (number_at 12 guid) (file_in (number_at 8 guid) files.files))
      (more_true (nat_le (number_at 8 guid) old.drawn.file) (is_before (number_at 12 guid) (file_in (number_at 8 guid) old.files.files)) (is_before (number_at 12 guid) (file_in (number_at 8 guid) files.files)) (tells.gave (number_at 8 guid) (number_at 12 guid))) (h.gave guid (sym (given_still run event guid leaves.given) ∙ e));
  gone = λ row e. h.gone row (sym (gone_still run event row leaves.gone) ∙ e);
  files = λ n e. file_still_known run event n leaves.removed (h.files n (sym (tells.there n) ∙ e));
}
  where
    by_maker : (n : ℕ) → ((seen_by_purge old before began).files n ≡ true) ⊎ (is_one_of event.made n ≡ true) → (seen_by_purge old before began).files n ≡ true
    by_maker n (inl there) = there
    by_maker n (inr made) = absurd (let e : false ≡ true = ap (λ (fs : List ℕ). is_one_of fs n) (sym leaves.made) ∙ made in cc e)

-- ---- a file that has grown

-- One file ends no earlier, and is else as it was; and so are all others.
pub record IsGrownOf (target : ℕ) (old new : List MailFile) : Type 0 where
  pub f : MailFile
  pub g : MailFile
  pub was : file_in target old ≡ Some f
  pub now : file_in target new ≡ Some g
  pub from : ℕ
  pub end : ℕ
  pub began : f.end ≡ Some from
  pub ended : g.end ≡ Some end
  pub later : from ≤ end
  pub barred : g.barred ≡ f.barred
  pub doomed : g.doomed ≡ f.doomed
  pub pins : g.pins ≡ f.pins
  pub others : (n : ℕ) → n ≢ target → file_in n new ≡ file_in n old

before_later : (offset from end : ℕ) → from ≤ end → nat_lt offset from ≡ true → nat_lt offset end ≡ true
before_later offset from end l e = grind (arith, common_steps, l, e)

pub tells_grown : (target : ℕ) (old new : List MailFile) → IsGrownOf target old new → TellsNoLess old new
tells_grown target old new h = record {
  pins = λ n. by_number n (λ o. option_map_or (λ f. f.pins) o 0) h.pins;
  doomed = λ n. by_flag n (λ o. option_map_or (λ f. f.doomed) o false) h.doomed;
  used = λ n e. by_flag n uses h.doomed ∙ e;
  barred = λ n e. by_flag n bars h.barred ∙ e;
  gave = λ n offset e. elim (cases_eq n target) [
    | inl same ↦ subst (λ (i : ℕ). is_before offset (file_in i new) ≡ true) (sym same) (ap (is_before offset) h.now ∙ (ap (λ (o : Option ℕ). option_map_or (λ end. nat_lt offset end) o false) h.ended
        ∙ before_later offset h.from h.end h.later (sym (ap (is_before offset) h.was ∙ ap (λ (o : Option ℕ). option_map_or (λ end. nat_lt offset end) o false) h.began) ∙ subst (λ (i : ℕ). is_before offset (file_in i old) ≡ true) same e)))
    | inr apart ↦ ap (is_before offset) (h.others n apart) ∙ e
  ];
  there = λ n. by_flag n ends (ap (λ (o : Option ℕ). is_some o) h.ended ∙ sym (ap (λ (o : Option ℕ). is_some o) h.began));
}
  where
    by_number : (n : ℕ) (value : Option MailFile → ℕ) → value (Some h.g) ≡ value (Some h.f) → value (file_in n new) ≡ value (file_in n old)
    by_number n value same = elim (cases_eq n target) [
      | inl is ↦ subst (λ (i : ℕ). value (file_in i new) ≡ value (file_in i old)) (sym is) (ap value h.now ∙ (same ∙ sym (ap value h.was)))
      | inr apart ↦ ap value (h.others n apart)
    ]

    by_flag : (n : ℕ) (value : Option MailFile → Bool) → value (Some h.g) ≡ value (Some h.f) → value (file_in n new) ≡ value (file_in n old)
    by_flag n value same = elim (cases_eq n target) [
      | inl is ↦ subst (λ (i : ℕ). value (file_in i new) ≡ value (file_in i old)) (sym is) (ap value h.now ∙ (same ∙ sym (ap value h.was)))
      | inr apart ↦ ap value (h.others n apart)
    ]
