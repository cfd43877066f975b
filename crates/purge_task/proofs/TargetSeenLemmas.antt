-- What is seen of a store in which a target was made, in a run of which an event made it.
use Rattle.purge_task.proofs.Common.{◌≡◌, ◌≤◌, ◌==◌, ◌&&◌, ◌||◌, ℕ, Bool, true, false, not, List, [], ◌∷◌, ◌++◌, Option, Some, refl, sym, ◌∙◌, ap, subst, arith, inl, inr, is_some, nat_le, list_any, option_map_or, option_and_then, cases_eq, eqb-true, Faults, History, told_calls, is_own, is_sealed}
use Rattle.purge_task.proofs.Common.{number_at, MakesTarget, Run, RunEvent, and_then, before, event_of, is_one_of, map_of, begun_in, ended_in, comes_on, FilesValue, file_in, MailFile, knows_file, StoreValue, HasComeTo, was_given, was_used, doomed_still, file_still_known, given_still, gone_still}
use Rattle.purge_task.proofs.Common.{pins_still, placed_still, there_before, used_still, seen_by_purge, fall}
use Rattle.std.specs.Prelude.{◌≢◌}
use Rattle.journal.specs.Found.{is_known_file}
use Rattle.store_core.specs.Knows.{may_have_given}
use Rattle.store_seen.specs.Seeing.{may_be_barred}
use Rattle.purge_task.proofs.RunLemmas.{any_now, any_still, one_alone, one_itself, sum_push}
use Rattle.purge_task.proofs.SameSeenLemmas.{is_before}

abbrev pub target_event : ℕ → ℕ → ℕ → ℕ → RunEvent
target_event lane place target calls = record (event_of lane place MakesTarget calls) { made = target ∷ [] }

-- the store with other files
abbrev pub with_files : {D : Type 0} → D → FilesValue → StoreValue D → StoreValue D
with_files disk files store = record store { disk = disk; files = files }

-- Of the storage files one was made, that was taken before, and has neither octets that were there nor a pin. All others are as they were.
pub record IsMadeOf (target : ℕ) (old new : List MailFile) : Type 0 where
  pub f : MailFile
  pub g : MailFile
  pub was : file_in target old ≡ Some f
  pub now : file_in target new ≡ Some g
  pub end : ℕ
  pub ends : g.end ≡ Some end
  pub barred : g.barred ≡ f.barred
  pub doomed : g.doomed ≡ f.doomed
  pub pins : g.pins ≡ f.pins
  pub others : (n : ℕ) → n ≢ target → file_in n new ≡ file_in n old

either_none : (a b : Bool) → (a || b) ≡ false → (a ≡ false) × (b ≡ false)
either_none false b e = (refl, e)
either_none true b e = absurd (cc e)

none_removed : (target : ℕ) (events : List RunEvent) → list_any (λ e. is_one_of e.doomed target || is_one_of e.removed target) events ≡ false → list_any (λ e. is_one_of e.removed target) events ≡ false
none_removed target [] e = refl
none_removed target (x ∷ xs) e =
    let b = either_none (is_one_of x.doomed target || is_one_of x.removed target) (list_any (λ (e : RunEvent). is_one_of e.doomed target || is_one_of e.removed target) xs) e in
    let c = either_none (is_one_of x.doomed target) (is_one_of x.removed target) b.0 in
    ap (λ (a : Bool). a || list_any (λ (e : RunEvent). is_one_of e.removed target) xs) c.1 ∙ none_removed target xs b.1

made_known : (first sealed made gone : Bool) → made ≡ true → gone ≡ false → ((first || (sealed || made)) && not gone) ≡ true
made_known first sealed made gone m g = rw (m, g) (rest first sealed)
  where
    rest : (a b : Bool) → ((a || (b || true)) && true) ≡ true
    rest true b = refl
    rest false true = refl
    rest false false = refl

both_true : (a b : Bool) → (a && b) ≡ true → (a ≡ true) × (b ≡ true)
both_true true b e = (refl, e)
both_true false b e = absurd (cc e)

and_true : (a b : Bool) → a ≡ true → b ≡ true → (a && b) ≡ true
and_true a b x y = rw (x, y) refl

abbrev ends_after : List ℕ → List MailFile → Bool
ends_after guid files = is_before (number_at 12 guid) (file_in (number_at 8 guid) files)

pub target_comes : {D : Type 0} → (run : Run) (lane place target : ℕ) (disk : D) (files : FilesValue) (old : StoreValue D) (before after : Option History) (began faults : Faults) → HasComeTo run (seen_by_purge old before began) → old.stopped ≡ false → IsMadeOf target old.files.files files.files
    → was_used run target ≡ false → ((guid : List ℕ) → is_own old.map.store guid ≡ true → number_at 8 guid ≡ target → was_given run guid ≡ false) → told_calls before ≤ told_calls after → HasComeTo (and_then run (target_event lane place target (told_calls after))) (seen_by_purge (with_files disk files old) after faults)
target_comes {D = D} run lane place target disk files old before_ after began faults h ran made unused ungiven grows = record {
  come = comes_on run event old.map old.drawn (told_calls before_) h.come grows refl refl;
  keeps = λ runs.
      let t = h.keeps ran in
      record {
        due = λ uid.
            let a = sum_push (begun_in uid) run.events event in
            let b = sum_push (ended_in uid) run.events event in
            let c = t.due uid in
            let x : begun_in uid event ≡ 0 = refl in
            let y : ended_in uid event ≡ 0 = refl in
            omega (arith, a, b, c, x, y);
        pins = λ n. pins_still run event n refl refl ∙ (t.pins n ∙ sym (value_same (λ o. option_map_or (λ f. f.pins) o 0) n made.pins));
        doomed = λ n. doomed_still run event n refl refl ∙ (t.doomed n ∙ sym (flag_same (λ o. option_map_or (λ f. f.doomed) o false) n made.doomed));
        instances = λ row. placed_still run event row refl refl ∙ t.instances row;
        files = λ n unsealed known. elim (there_before run event (seen_by_purge old before_ began) n t refl unsealed known) [
          | inl there ↦ elim (cases_eq n target) [
            | inl same ↦ subst (λ (i : ℕ). knows_file new i ≡ true) (sym same) here
            | inr apart ↦ knows_other n apart ∙ there
          ]
          | inr is ↦ subst (λ (i : ℕ). knows_file new i ≡ true) (eqb-true target n (sym (one_alone target n) ∙ is)) here
        ];
      };
  used = λ n e. elim (cases_eq n target) [
    | inl same ↦ absurd (fall (was_used run target) (subst (λ (i : ℕ). was_used run i ≡ true) same (sym (used_still run event n refl refl) ∙ e)) unused)
    | inr apart ↦ ap (λ (o : Option MailFile). nat_le n old.drawn.file && option_map_or (λ f. f.doomed) o true) (made.others n apart) ∙ h.used n (sym (used_still run event n refl refl) ∙ e)
  ];
  barred = λ n e. elim (cases_eq n target) [
    | inl same ↦ subst (λ (i : ℕ). may_be_barred new i ≡ true) (sym same)
        (ap (λ (o : Option MailFile). nat_le target old.drawn.file && option_map_or (λ f. f.barred) o true) made.now ∙ (ap (λ (b : Bool). nat_le target old.drawn.file && b) made.barred
        ∙ (sym (ap (λ (o : Option MailFile). nat_le target old.drawn.file && option_map_or (λ f. f.barred) o true) made.was) ∙ subst (λ (i : ℕ). may_be_barred old i ≡ true) same (h.barred n e))))
    | inr apart ↦ ap (λ (o : Option MailFile). nat_le n old.drawn.file && option_map_or (λ f. f.barred) o true) (made.others n apart) ∙ h.barred n e
  ];
  gave = λ guid e. gave_on guid (sym (given_still run event guid refl) ∙ e);
  gone = λ row e. h.gone row (sym (gone_still run event row refl) ∙ e);
  files = λ n e. elim (cases_eq n target) [
    | inl same ↦ subst (λ (i : ℕ). is_known_file (and_then run event) i ≡ true) (sym same)
        (made_known (list_any (λ row. row.file == target) (map_of (before 0 run)).records) (is_sealed (map_of (and_then run event)) target) (list_any (λ (x : RunEvent). is_one_of x.made target) (run.events ++ event ∷ [])) (list_any (λ (x : RunEvent). is_one_of x.removed target) (run.events ++ event ∷ []))
        (any_now (λ (x : RunEvent). is_one_of x.made target) run.events event (one_itself target))
        (any_still (λ (x : RunEvent). is_one_of x.removed target) run.events event refl ∙ none_removed target run.events unused))
    | inr apart ↦ file_still_known run event n refl (h.files n (sym (knows_other n apart) ∙ e))
  ];
}
  where
    event : RunEvent
    event = target_event lane place target (told_calls after)

    new : StoreValue D
    new = with_files disk files old

    here : knows_file new target ≡ true
    here = ap (λ (o : Option MailFile). is_some (option_and_then (λ f. f.end) o)) made.now ∙ ap (λ (o : Option ℕ). is_some o) made.ends

    knows_other : (n : ℕ) → n ≢ target → knows_file new n ≡ knows_file old n
    knows_other n apart = ap (λ (o : Option MailFile). is_some (option_and_then (λ f. f.end) o)) (made.others n apart)

    value_same : (value : Option MailFile → ℕ) (n : ℕ) → value (Some made.g) ≡ value (Some made.f) → value (file_in n files.files) ≡ value (file_in n old.files.files)
    value_same value n same = elim (cases_eq n target) [
      | inl is ↦ subst (λ (i : ℕ). value (file_in i files.files) ≡ value (file_in i old.files.files)) (sym is) (ap value made.now ∙ (same ∙ sym (ap value made.was)))
      | inr apart ↦ ap value (made.others n apart)
    ]

    flag_same : (value : Option MailFile → Bool) (n : ℕ) → value (Some made.g) ≡ value (Some made.f) → value (file_in n files.files) ≡ value (file_in n old.files.files)
    flag_same value n same = elim (cases_eq n target) [
      | inl is ↦ subst (λ (i : ℕ). value (file_in i files.files) ≡ value (file_in i old.files.files)) (sym is) (ap value made.now ∙ (same ∙ sym (ap value made.was)))
      | inr apart ↦ ap value (made.others n apart)
    ]

    gave_on : (guid : List ℕ) → was_given run guid ≡ true → may_have_given new guid ≡ true
    gave_on guid given =
        let a = both_true (is_own old.map.store guid) (nat_le (number_at 8 guid) old.drawn.file && ends_after guid old.files.files) (h.gave guid given) in
        let b = both_true (nat_le (number_at 8 guid) old.drawn.file) (ends_after guid old.files.files) a.1 in
        elim (cases_eq (number_at 8 guid) target) [
          | inl same ↦ absurd (fall (was_given run guid) given (ungiven guid a.0 same))
          | inr apart ↦ and_true (is_own old.map.store guid) (nat_le (number_at 8 guid) old.drawn.file && ends_after guid files.files) a.0
              (and_true (nat_le (number_at 8 guid) old.drawn.file) (ends_after guid files.files) b.0 (ap (is_before (number_at 12 guid)) (made.others (number_at 8 guid) apart) ∙ b.1))
        ]
