-- The first event of a purge, in a run.
use Rattle.purge_task.proofs.Common.{◌≡◌, ◌≤◌, ◌+◌, ◌&&◌, ℕ, Bool, true, false, List, [], ◌∷◌, length, map, Option, None, refl, sym, ◌∙◌, ap, arith, All, inl, inr, ◌⊎◌, is_some, nat_le, nat_lt, option_and_then, option_or, common_steps, All-head, All-tail, Faults, History, told_calls, LogState}
use Rattle.purge_task.proofs.Common.{Refusal, Lists, MapMeaning, is_own, no_numbers, number_at, First, Run, RunEvent, TakenFile, and_then, drawn_of, event_of, is_one_of, target_length, with_targets, first_refusal, purge_checks, begun_in, ended_in, HasCome, FilesValue, file_in, is_doomed_in, pins_in}
use Rattle.purge_task.proofs.Common.{MailFile, StoreValue, HasComeTo, doomed_still, file_still_known, given_still, gone_still, pins_still, placed_still, there_before, used_still, seen_by_purge}
use Rattle.mdbox_base.specs.declared.replies.Refusal.TheVariants as refusal
use Rattle.list_machine.specs.Machine.{TargetFits, refused_where}
use Rattle.purge_task.proofs.RunLemmas.{sum_push}
use Rattle.purge_task.proofs.SameSeenLemmas.{bars, is_before, uses}

abbrev pub first_event : ℕ → ℕ → List TakenFile → ℕ → ℕ → RunEvent
first_event lane place taken drew calls = record (event_of lane place First calls) { files = taken; drew = record no_numbers { file = drew } }

-- ---- its checks

abbrev full : Refusal
full = refusal.StoreFull 4294967294

not_over : (a b : ℕ) → b ≤ a → nat_lt a b ≡ false
not_over a b l = grind (arith, common_steps, l)

-- no target is too long
targets_fit : (run : Run) (lists : Lists) (m : MapMeaning) (taken : List TakenFile) → All (λ t. target_length m t.file ≤ 4294967294) taken → first_refusal run lists (map (λ t. TargetFits (target_length m t.file)) taken) ≡ None
targets_fit run lists m [] h = refl
targets_fit run lists m (t ∷ taken) h =
    ap (λ (b : Bool). option_or (refused_where b full) (first_refusal run lists (map (λ t. TargetFits (target_length m t.file)) taken))) (not_over 4294967294 (target_length m t.file) (All-head (λ (t : TakenFile). target_length m t.file ≤ 4294967294) t taken h))
    ∙ targets_fit run lists m taken (All-tail (λ (t : TakenFile). target_length m t.file ≤ 4294967294) t taken h)

-- where there are numbers, and no target is too long, none of the checks refuses
pub first_allowed : (run : Run) (lists : Lists) (m : MapMeaning) (taken : List TakenFile) → (drawn_of run).file + length (with_targets m taken) ≤ 4294967294 → All (λ t. target_length m t.file ≤ 4294967294) (with_targets m taken) → first_refusal run lists (purge_checks m taken) ≡ None
first_allowed run lists m taken numbers short =
    ap (λ (b : Bool). option_or (refused_where b full) (first_refusal run lists (map (λ t. TargetFits (target_length m t.file)) (with_targets m taken)))) (not_over 4294967294 ((drawn_of run).file + length (with_targets m taken)) numbers)
    ∙ targets_fit run lists m (with_targets m taken) short

-- ---- what is seen of the store behind it

-- Files were taken, and targets begun behind the drawn numbers: else all is as it was.
pub record IsBegunOf (drawn : ℕ) (old new : List MailFile) : Type 0 where
  pub pins : (n : ℕ) → pins_in n new ≡ pins_in n old
  pub doomed : (n : ℕ) → is_doomed_in n new ≡ is_doomed_in n old
  pub ended : (n : ℕ) → option_and_then (λ f. f.end) (file_in n new) ≡ option_and_then (λ f. f.end) (file_in n old)
  pub used : (n : ℕ) → n ≤ drawn → uses (file_in n new) ≡ uses (file_in n old)
  pub barred : (n : ℕ) → n ≤ drawn → bars (file_in n new) ≡ bars (file_in n old)
  pub before : (n offset : ℕ) → n ≤ drawn → is_before offset (file_in n new) ≡ is_before offset (file_in n old)

-- the store with other files, more numbers drawn, and more room in the map log
abbrev pub with_begun : {D : Type 0} → D → LogState → FilesValue → ℕ → StoreValue D → StoreValue D
with_begun disk log files drew store = record store { disk = disk; map_log = log; files = files; drawn = record store.drawn { file = store.drawn.file + drew } }

both_true : (a b : Bool) → (a && b) ≡ true → (a ≡ true) × (b ≡ true)
both_true true b e = (refl, e)
both_true false b e = absurd (cc e)

and_true : (a b : Bool) → a ≡ true → b ≡ true → (a && b) ≡ true
and_true a b x y = rw (x, y) refl

true_le : (a b : ℕ) → nat_le a b ≡ true → a ≤ b
true_le a b e = grind (arith, common_steps, e)

le_true : (a b : ℕ) → a ≤ b → nat_le a b ≡ true
le_true a b l = grind (arith, common_steps, l)

more_drawn : (n drawn drew : ℕ) (b c : Bool) → (n ≤ drawn → c ≡ b) → (nat_le n drawn && b) ≡ true → (nat_le n (drawn + drew) && c) ≡ true
more_drawn n drawn drew b c same e =
    let p = both_true (nat_le n drawn) b e in
    let l = true_le n drawn p.0 in
    and_true (nat_le n (drawn + drew)) c (le_true n (drawn + drew) (omega (arith, l))) (same l ∙ p.1)

pub first_comes : {D : Type 0} → (run : Run) (lane place : ℕ) (taken : List TakenFile) (drew : ℕ) (disk : D) (log : LogState) (files : FilesValue) (old : StoreValue D) (before after : Option History) (began faults : Faults) → HasComeTo run (seen_by_purge old before began) → old.stopped ≡ false → IsBegunOf old.drawn.file old.files.files files.files
    → HasCome (and_then run (first_event lane place taken drew (told_calls after))) old.map (record old.drawn { file = old.drawn.file + drew }) (told_calls after) → HasComeTo (and_then run (first_event lane place taken drew (told_calls after))) (seen_by_purge (with_begun disk log files drew old) after faults)
first_comes {D = D} run lane place taken drew disk log files old before after began faults h ran is came = record {
  come = came;
  keeps = λ runs.
      let t = h.keeps ran in
      record {
        due = λ uid.
            let a = sum_push (begun_in uid) run.events event in
            let b = sum_push (ended_in uid) run.events event in
            let c = t.due uid in
            let x : begun_in uid event ≡ 0 = refl in
            let y : ended_in uid event ≡ 0 = refl in
            omega (arith, a, b, c, x, y);
        pins = λ n. pins_still run event n refl refl ∙ (t.pins n ∙ sym (is.pins n));
        doomed = λ n. doomed_still run event n refl refl ∙ (t.doomed n ∙ sym (is.doomed n));
        instances = λ row. placed_still run event row refl refl ∙ t.instances row;
        files = λ n unsealed known. ap (λ (o : Option ℕ). is_some o) (is.ended n) ∙ by_maker n (there_before run event (seen_by_purge old before began) n t refl unsealed known);
      };
  used = λ n e. more_drawn n old.drawn.file drew (uses (file_in n old.files.files)) (uses (file_in n files.files)) (is.used n) (h.used n (sym (used_still run event n refl refl) ∙ e));
  barred = λ n e. more_drawn n old.drawn.file drew (bars (file_in n old.files.files)) (bars (file_in n files.files)) (is.barred n) (h.barred n e);
  gave = λ guid e.
      let p = both_true (is_own old.map.store guid) (nat_le (number_at 8 guid) old.drawn.file && is_before (number_at 12 guid) (file_in (number_at 8 guid) old.files.files)) (h.gave guid (sym (given_still run event guid refl) ∙ e)) in
      and_true (is_own old.map.store guid) (nat_le (number_at 8 guid) (old.drawn.file + drew) && is_before (number_at 12 guid) (file_in (number_at 8 guid) files.files)) p.0
      (more_drawn (number_at 8 guid) old.drawn.file drew (is_before (number_at 12 guid) (file_in (number_at 8 guid) old.files.files)) (is_before (number_at 12 guid) (file_in (number_at 8 guid) files.files)) (is.before (number_at 8 guid) (number_at 12 guid)) p.1);
  gone = λ row e. h.gone row (sym (gone_still run event row refl) ∙ e);
  files = λ n e. file_still_known run event n refl (h.files n (sym (ap (λ (o : Option ℕ). is_some o) (is.ended n)) ∙ e));
}
  where
    event : RunEvent
    event = first_event lane place taken drew (told_calls after)

    by_maker : (n : ℕ) → ((seen_by_purge old before began).files n ≡ true) ⊎ (is_one_of event.made n ≡ true) → (seen_by_purge old before began).files n ≡ true
    by_maker n (inl there) = there
    by_maker n (inr made) = absurd (let e : false ≡ true = made in cc e)
