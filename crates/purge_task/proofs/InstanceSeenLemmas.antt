-- What is seen of a store without one instance, in a run of which an event removed that.
use Rattle.purge_task.proofs.Common.{◌≡◌, ◌≤◌, ◌&&◌, ◌||◌, ℕ, Bool, true, false, not, List, [], ◌∷◌, ◌++◌, Option, Some, None, refl, sym, ◌∙◌, ap, subst, arith, inl, inr, ◌⊎◌, find, nat_le, if◌then◌else◌, list_any, option_map_or, bytes_eq, cases_Bool, common_steps, Faults, History, told_calls}
use Rattle.purge_task.proofs.Common.{InstRow, InstId, instance_number, named_instances, text_is, text_yes, RemovesInstance, Run, RunEvent, and_then, before, event_of, is_one_of, map_of, begun_in, ended_in, HasCome, comes_on, has_id, instance_in, without_instance, KnownInstance, same_id, StoreValue}
use Rattle.purge_task.proofs.Common.{HasComeTo, doomed_still, file_still_known, given_still, pins_still, there_before, used_still, seen_by_purge, fall}
use Rattle.std.specs.Prelude.{◌≢◌}
use Rattle.journal.specs.Found.{is_same_instance}
use Rattle.store_core.specs.Knows.{knows_instance}
use Rattle.purge_task.proofs.RunLemmas.{any_push, any_still, or_true, sum_push}

abbrev pub gone_event : ℕ → ℕ → InstRow → ℕ → RunEvent
gone_event lane place row calls = record (event_of lane place RemovesInstance calls) { gone = row ∷ [] }

-- the store without the instance of this id
abbrev pub without_it : {D : Type 0} → InstId → D → StoreValue D → StoreValue D
without_it id disk store = record store { disk = disk; instances = record store.instances { known = without_instance id store.instances.known } }

-- ---- what is known

pub none_with : (id : InstId) (known : List KnownInstance) → find (has_id id) (without_instance id known) ≡ None
none_with id [] = refl
none_with id (k ∷ known) = elim (cases_Bool (has_id id k)) [
  | inl is ↦ ap (λ (b : Bool). find (has_id id) (if not b then k ∷ without_instance id known else without_instance id known)) is ∙ none_with id known
  | inr isnt ↦ ap (λ (b : Bool). find (has_id id) (if not b then k ∷ without_instance id known else without_instance id known)) isnt ∙ (ap (λ (b : Bool). if b then Some k else find (has_id id) (without_instance id known)) isnt ∙ none_with id known)
]

pub other_with : (id other : InstId) (known : List KnownInstance) → other ≢ id → instance_in other (without_instance id known) ≡ instance_in other known
other_with id other [] apart = refl
other_with id other (k ∷ known) apart = elim (cases_Bool (has_id id k)) [
  | inl is ↦ ap (λ (b : Bool). find (has_id other) (if not b then k ∷ without_instance id known else without_instance id known)) is
      ∙ (other_with id other known apart ∙ sym (ap (λ (b : Bool). if b then Some k else instance_in other known) (isnt_other is)))
  | inr isnt ↦ ap (λ (b : Bool). find (has_id other) (if not b then k ∷ without_instance id known else without_instance id known)) isnt
      ∙ ap (λ (o : Option KnownInstance). if has_id other k then Some k else o) (other_with id other known apart)
]
  where
    isnt_other : has_id id k ≡ true → has_id other k ≡ false
    isnt_other is = elim (cases_Bool (has_id other k)) [
      | inl both ↦ absurd (apart (same_id other id (sym (text_is k.row.id.0 other.0 both) ∙ text_is k.row.id.0 id.0 is)))
      | inr none ↦ none
    ]

abbrev knows_by : InstRow → Option KnownInstance → Bool
knows_by row o = option_map_or (λ k. bytes_eq k.row.hash.0 row.hash.0) o false

gone_id : {D : Type 0} → (id : InstId) (disk : D) (store : StoreValue D) (row : InstRow) → row.id ≡ id → knows_instance (without_it id disk store) row ≡ false
gone_id id disk store row same = ap (λ (o : Option KnownInstance). knows_by row o) (ap (λ (i : InstId). instance_in i (without_instance id store.instances.known)) same ∙ none_with id store.instances.known)

-- ---- the run

both_true : (a b : Bool) → (a && b) ≡ true → (a ≡ true) × (b ≡ true)
both_true true b e = (refl, e)
both_true false b e = absurd (cc e)

and_true : (a b : Bool) → a ≡ true → b ≡ true → (a && b) ≡ true
and_true a b x y = rw (x, y) refl

and_not_true : (a b : Bool) → b ≡ true → (a && not b) ≡ false
and_not_true true b e = ap (λ (x : Bool). not x) e
and_not_true false b e = refl

abbrev places : InstRow → RunEvent → Bool
places row e = list_any (is_same_instance row) e.placed

abbrev takes : InstRow → RunEvent → Bool
takes row e = list_any (is_same_instance row) e.gone

le_true : (a b : ℕ) → a ≤ b → nat_le a b ≡ true
le_true a b l = grind (arith, common_steps, l)

pub gone_comes : {D : Type 0} → (run : Run) (lane place : ℕ) (k : KnownInstance) (disk : D) (old : StoreValue D) (before after : Option History) (began faults : Faults) → HasComeTo run (seen_by_purge old before began) → old.stopped ≡ false → instance_in k.row.id old.instances.known ≡ Some k
    → instance_number old.map.store k.row.id.0 ≤ old.drawn.instance → told_calls before ≤ told_calls after → HasComeTo (and_then run (gone_event lane place k.row (told_calls after))) (seen_by_purge (without_it k.row.id disk old) after faults)
gone_comes {D = D} run lane place k disk old before_ after began faults h ran at drawn grows = record {
  come = came;
  keeps = λ runs.
      let t = h.keeps ran in
      record {
        due = λ uid.
            let a = sum_push (begun_in uid) run.events event in
            let b = sum_push (ended_in uid) run.events event in
            let c = t.due uid in
            let x : begun_in uid event ≡ 0 = refl in
            let y : ended_in uid event ≡ 0 = refl in
            omega (arith, a, b, c, x, y);
        pins = λ n. pins_still run event n refl refl ∙ t.pins n;
        doomed = λ n. doomed_still run event n refl refl ∙ t.doomed n;
        instances = λ row. elim (cases_Bool (is_same_instance row k.row)) [
          | inl is ↦ and_not_true (list_any (is_same_instance row) (named_instances (map_of (before 0 run))) || list_any (places row) (run.events ++ event ∷ [])) (list_any (takes row) (run.events ++ event ∷ []))
              (any_push (takes row) run.events event ∙ (ap (λ (b : Bool). list_any (takes row) run.events || (b || false)) is ∙ or_true (list_any (takes row) run.events)))
              ∙ sym (gone_id k.row.id disk old row (ids_are row is))
          | inr isnt ↦ (ap (λ (b : Bool). (list_any (is_same_instance row) (named_instances (map_of (before 0 run))) || b) && not (list_any (takes row) (run.events ++ event ∷ []))) (any_still (places row) run.events event refl)
              ∙ ap (λ (b : Bool). (list_any (is_same_instance row) (named_instances (map_of (before 0 run))) || list_any (places row) run.events) && not b) (any_still (takes row) run.events event (ap (λ (b : Bool). b || false) isnt)))
              ∙ (t.instances row ∙ sym (other_row row isnt))
        ];
        files = λ n unsealed known. by_maker n (there_before run event (seen_by_purge old before_ began) n t refl unsealed known);
      };
  used = λ n e. h.used n (sym (used_still run event n refl refl) ∙ e);
  barred = h.barred;
  gave = λ guid e. h.gave guid (sym (given_still run event guid refl) ∙ e);
  gone = λ row e. elim (cases_Bool (is_same_instance row k.row)) [
    | inl is ↦ le_true (instance_number old.map.store row.id.0) old.drawn.instance (subst (λ (i : InstId). instance_number old.map.store i.0 ≤ old.drawn.instance) (sym (ids_are row is)) drawn)
    | inr isnt ↦ h.gone row (sym (any_still (takes row) run.events event (ap (λ (b : Bool). b || false) isnt)) ∙ e)
  ];
  files = λ n e. file_still_known run event n refl (h.files n e);
}
  where
    event : RunEvent
    event = gone_event lane place k.row (told_calls after)

    new : StoreValue D
    new = without_it k.row.id disk old

    came : HasCome (and_then run event) old.map old.drawn (told_calls after)
    came = comes_on run event old.map old.drawn (told_calls before_) h.come grows refl refl

    ids_are : (row : InstRow) → is_same_instance row k.row ≡ true → row.id ≡ k.row.id
    ids_are row is = same_id row.id k.row.id (text_is row.id.0 k.row.id.0 (both_true (bytes_eq row.hash.0 k.row.hash.0) (bytes_eq row.id.0 k.row.id.0) is).1)

    other_hash : (row : InstRow) → is_same_instance row k.row ≡ false → row.id ≡ k.row.id → bytes_eq k.row.hash.0 row.hash.0 ≡ false
    other_hash row isnt same = elim (cases_Bool (bytes_eq k.row.hash.0 row.hash.0)) [
      | inl is ↦ absurd (fall (is_same_instance row k.row) (and_true (bytes_eq row.hash.0 k.row.hash.0) (bytes_eq row.id.0 k.row.id.0) (text_yes row.hash.0 k.row.hash.0 (sym (text_is k.row.hash.0 row.hash.0 is))) (text_yes row.id.0 k.row.id.0 (ap (λ (i : InstId). i.0) same))) isnt)
      | inr none ↦ none
    ]

    other_row : (row : InstRow) → is_same_instance row k.row ≡ false → knows_instance new row ≡ knows_instance old row
    other_row row isnt = elim (cases_Bool (bytes_eq row.id.0 k.row.id.0)) [
      | inl is ↦ gone_id k.row.id disk old row (same_id row.id k.row.id (text_is row.id.0 k.row.id.0 is))
          ∙ sym (ap (λ (o : Option KnownInstance). knows_by row o) (ap (λ (i : InstId). instance_in i old.instances.known) (same_id row.id k.row.id (text_is row.id.0 k.row.id.0 is)) ∙ at) ∙ other_hash row isnt (same_id row.id k.row.id (text_is row.id.0 k.row.id.0 is)))
      | inr apart ↦ ap (λ (o : Option KnownInstance). knows_by row o) (other_with k.row.id row.id old.instances.known (λ same. fall (bytes_eq row.id.0 k.row.id.0) (text_yes row.id.0 k.row.id.0 (ap (λ (i : InstId). i.0) same)) apart))
    ]

    by_maker : (n : ℕ) → ((seen_by_purge old before_ began).files n ≡ true) ⊎ (is_one_of event.made n ≡ true) → (seen_by_purge old before_ began).files n ≡ true
    by_maker n (inl there) = there
    by_maker n (inr made) = absurd (let e : false ≡ true = made in cc e)
