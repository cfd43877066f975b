-- What a make claims, and what its events leave to the tasks beside it.
use Rattle.mail_ops.proofs.Common.{◌≡◌, ◌≤◌, ◌+◌, ◌==◌, ◌||◌, ℕ, Bool, true, false, not, cond, List, [], ◌∷◌, ◌++◌, map, Option, refl, sym, ◌∙◌, ap, subst, arith, inl, ◌<◌, common_steps, nat_tests, count_by, bytes_eq, eq-eqb, eqb-true, History, BoxNo, Progress, Reply, BoxMeaning, box_meaning, MapMeaning}
use Rattle.mail_ops.proofs.Common.{refs_in, Moves, amounts_in, KeepsUids, has_made_log, StoreValue, indexes_of, OpenBox, NamesStay, SyncsMail, names_stay_same, IsReadyToMake, MakeStage, fall}
use Rattle.std.specs.List.{list_any}
use Rattle.std.proofs.lemmas.List.Sums.{sum_by-append}
use Rattle.gate_log.specs.State.{LogState}
use Rattle.mdbox_base.specs.declared.progress.Progress.TheVariants as progress
use Rattle.mdbox_base.specs.declared.replies.Reply.TheVariants as reply
use Rattle.model_meaning.proofs.AppliedLemmas.{records_by_mailbox}
use Rattle.store_core.specs.Dues.{no_amounts}
use Rattle.store_core.specs.MadeLogs.{KeepsGone, without_box}
use Rattle.store_core.specs.Value.{references_to}
use Rattle.task_claims.specs.Claims.{ClaimsNothing, Due, Emptied, Held, Made, MovesClaims, Pinned, PlacingPieces, Removing, Taken, amount_in, one_if}
use Rattle.task_claims.specs.Leaving.{LeavesOthers, RaisesNone, SameButCounts, but_count}
use Rattle.task_claims.proofs.CountedLemmas.{same_map, unraised_same}
use Rattle.task_claims.proofs.RestLemmas.{rest_leaves}
use Rattle.mdbox_base.specs.declared.entries.MapEntry.TheVariants as map_entry
use Rattle.task_claims.proofs.NameLemmas.{names_stay_named}
use Rattle.mail_ops.proofs.KeptUidLemmas.{highest_rises, same_highest}
use Rattle.mail_ops.specs.Claims.{own_log_of, make_claims}
use Rattle.mail_ops.specs.Making.{KeepsAllButLogs, MakeAnswers, MakesLog}
use Rattle.mail_ops.specs.declared.event.NotDone.TheVariants as not_done
use Rattle.mail_ops.specs.declared.making.MakeStage.TheVariants as make_stage

-- ---- logs that were made

first_or : (a : Bool) → (a || false) ≡ a
first_or a = grind (arith, common_steps, nat_tests)

last_or : (a b : Bool) → b ≡ true → (a || b) ≡ true
last_or a b e = grind (arith, common_steps, nat_tests)

-- one more, which is the task's own
log_more : {D : Type 0} → (number : ℕ) (old new : StoreValue D) → MakesLog number old new → (other : ℕ) → one_if (has_made_log other new) + 0 ≡ one_if (has_made_log other old) + one_if (number == other)
log_more number old new m other = by_test (number == other) refl
  where
    by_test : (t : Bool) → (number == other) ≡ t → one_if (has_made_log other new) + 0 ≡ one_if (has_made_log other old) + one_if (number == other)
    by_test true e =
        let was : one_if (has_made_log other old) ≡ 0 = ap one_if (ap (λ (n : ℕ). has_made_log n old) (sym (eqb-true number other e)) ∙ m.unmade) in
        let is : one_if (has_made_log other new) ≡ 1 = ap one_if (m.made other ∙ last_or (has_made_log other old) (number == other) e) in
        let own : one_if (number == other) ≡ 1 = ap one_if e in
        omega (arith, was, is, own)
    by_test false e =
        let same : one_if (has_made_log other new) ≡ one_if (has_made_log other old) = ap one_if (m.made other ∙ (ap (λ (t : Bool). has_made_log other old || t) e ∙ first_or (has_made_log other old))) in
        let own : one_if (number == other) ≡ 0 = ap one_if e in
        omega (arith, same, own)

abbrev HasNumber : ℕ → OpenBox → Bool
HasNumber number box = box.number.0 == number

none_left : (number : ℕ) (boxes : List OpenBox) → list_any (HasNumber number) (without_box number boxes) ≡ false
none_left number [] = refl
none_left number (b ∷ bs) = by_test (b.number.0 == number) refl (none_left number bs)
  where
    by_test : (t : Bool) → (b.number.0 == number) ≡ t → list_any (HasNumber number) (without_box number bs) ≡ false → list_any (HasNumber number) (cond (not t) (b ∷ without_box number bs) (without_box number bs)) ≡ false
    by_test true e rest = rest
    by_test false e rest = ap (λ (t : Bool). t || list_any (HasNumber number) (without_box number bs)) e ∙ rest

others_same : (number other : ℕ) (boxes : List OpenBox) → (number ≡ other → ⊥) → list_any (HasNumber other) (without_box number boxes) ≡ list_any (HasNumber other) boxes
others_same number other [] apart = refl
others_same number other (b ∷ bs) apart = by_test (b.number.0 == number) (b.number.0 == other) refl refl (others_same number other bs apart)
  where
    by_test : (s t : Bool) → (b.number.0 == number) ≡ s → (b.number.0 == other) ≡ t → list_any (HasNumber other) (without_box number bs) ≡ list_any (HasNumber other) bs
        → list_any (HasNumber other) (cond (not s) (b ∷ without_box number bs) (without_box number bs)) ≡ list_any (HasNumber other) (b ∷ bs)
    by_test true true e f rest = absurd (apart (sym (eqb-true b.number.0 number e) ∙ eqb-true b.number.0 other f))
    by_test true false e f rest = rest ∙ sym (ap (λ (x : Bool). x || list_any (HasNumber other) bs) f)
    by_test false t e f rest = ap (λ (x : Bool). (b.number.0 == other) || x) rest

differ_tests : false ≡ true → ⊥
differ_tests k = cc k

-- one fewer
log_less : {D : Type 0} → (number : ℕ) (old new : StoreValue D) → new.made ≡ without_box number old.made → has_made_log number old ≡ true → (other : ℕ) → one_if (has_made_log other new) + one_if (number == other) ≡ one_if (has_made_log other old) + 0
log_less number old new left there other = by_test (number == other) refl
  where
    by_test : (t : Bool) → (number == other) ≡ t → one_if (has_made_log other new) + one_if (number == other) ≡ one_if (has_made_log other old) + 0
    by_test true e =
        let same : number ≡ other = eqb-true number other e in
        let was : one_if (has_made_log other old) ≡ 1 = ap one_if (ap (λ (n : ℕ). has_made_log n old) (sym same) ∙ there) in
        let is : one_if (has_made_log other new) ≡ 0 = ap one_if (ap (λ (n : ℕ). has_made_log n new) (sym same) ∙ (ap (λ (boxes : List OpenBox). list_any (HasNumber number) boxes) left ∙ none_left number old.made)) in
        let own : one_if (number == other) ≡ 1 = ap one_if e in
        omega (arith, was, is, own)
    by_test false e =
        let same : one_if (has_made_log other new) ≡ one_if (has_made_log other old) = ap one_if (ap (λ (boxes : List OpenBox). list_any (HasNumber other) boxes) left ∙ others_same number other old.made (λ k. differ_tests (sym e ∙ eq-eqb number other k))) in
        let own : one_if (number == other) ≡ 0 = ap one_if e in
        omega (arith, same, own)

-- ---- mailboxes

-- one more that lists nothing
refs_of_new : (ms : List BoxMeaning) (guid : List ℕ) → refs_in (ms ++ box_meaning [] ∷ []) guid ≡ refs_in ms guid
refs_of_new ms guid =
    let more : refs_in (ms ++ box_meaning [] ∷ []) guid ≡ refs_in ms guid + refs_in (box_meaning [] ∷ []) guid = sum_by-append (λ (m : BoxMeaning). count_by (λ row. bytes_eq row.guid guid) m.rows) ms (box_meaning [] ∷ []) in
    let none : refs_in (box_meaning [] ∷ []) guid ≡ 0 = refl in
    omega (arith, more, none)

-- ---- what has changed

-- of records, listings and logs, where the store wasn't stopped
pub record MakeChanges {D : Type 0} (now next : MakeStage) (old new : StoreValue D) : Type 0 where
  pub same : SameButCounts old.map new.map
  pub unraised : RaisesNone old.map new.map
  pub mailboxes : old.map.highest.mailbox ≤ new.map.highest.mailbox
  pub end : old.map_log.end ≤ new.map_log.end
  pub names : NamesStay old.map new.map
  pub room : old.map_log.room ≤ new.map_log.room
  pub refs : (guid : List ℕ) → references_to new guid ≡ references_to old guid
  pub logs : (number : ℕ) → one_if (has_made_log number new) + own_log_of now number ≡ one_if (has_made_log number old) + own_log_of next number

-- the same log has the same room and end
same_room : (a b : LogState) → b ≡ a → a.room ≤ b.room
same_room a b same = subst (λ (l : LogState). a.room ≤ l.room) (sym same) (omega arith)

same_end : (a b : LogState) → b ≡ a → a.end ≤ b.end
same_end a b same = subst (λ (l : LogState). a.end ≤ l.end) (sym same) (omega arith)

nothing_changed : {D : Type 0} → (now : MakeStage) (old new : StoreValue D) → new.map ≡ old.map → new.map_log ≡ old.map_log → new.boxes ≡ old.boxes → new.made ≡ old.made → MakeChanges now now old new
nothing_changed now old new map_is log boxes made = record {
  same = same_map old.map new.map map_is;
  unraised = unraised_same old.map new.map (ap (λ (m : MapMeaning). m.records) map_is);
  mailboxes = same_highest old.map new.map map_is;
  end = same_end old.map_log new.map_log log;
  names = names_stay_same old.map new.map map_is;
  room = same_room old.map_log new.map_log log;
  refs = λ guid. ap (λ (bs : List OpenBox). refs_in (indexes_of bs) guid) boxes;
  logs = λ number. ap (λ (bs : List OpenBox). one_if (list_any (HasNumber number) bs) + own_log_of now number) made;
}

risen : (a b : ℕ) → a < b → a ≤ b
risen a b further = omega (arith, further)

log_removed : {D : Type 0} → (number : BoxNo) (old new : StoreValue D) → new ≡ record old { disk = new.disk; made = without_box number.0 old.made } → has_made_log number.0 old ≡ true → MakeChanges (make_stage.Naming number) make_stage.First old new
log_removed number old new same there = record {
  same = same_map old.map new.map (ap (λ (v : StoreValue _). v.map) same);
  unraised = unraised_same old.map new.map (ap (λ (v : StoreValue _). v.map.records) same);
  mailboxes = same_highest old.map new.map (ap (λ (v : StoreValue _). v.map) same);
  end = same_end old.map_log new.map_log (ap (λ (v : StoreValue _). v.map_log) same);
  names = names_stay_same old.map new.map (ap (λ (v : StoreValue _). v.map) same);
  room = same_room old.map_log new.map_log (ap (λ (v : StoreValue _). v.map_log) same);
  refs = λ guid. ap (λ (v : StoreValue _). references_to v guid) same;
  logs = log_less number.0 old new (ap (λ (v : StoreValue _). v.made) same) there;
}

pub make_changes : {D : Type 0} → (name : List ℕ) (now next : MakeStage) (answer : Progress) (old new : StoreValue D) (before after : Option History) → new.stopped ≡ false → IsReadyToMake now old → MakeAnswers name now old new before after next answer → MakeChanges now next old new
make_changes name make_stage.First (make_stage.Naming number) progress.More old new before after runs ready a = record {
  same = same_map old.map new.map (ap (λ (v : StoreValue _). v.map) a.1.same);
  unraised = unraised_same old.map new.map (ap (λ (v : StoreValue _). v.map.records) a.1.same);
  mailboxes = same_highest old.map new.map (ap (λ (v : StoreValue _). v.map) a.1.same);
  end = same_end old.map_log new.map_log (ap (λ (v : StoreValue _). v.map_log) a.1.same);
  names = names_stay_same old.map new.map (ap (λ (v : StoreValue _). v.map) a.1.same);
  room = same_room old.map_log new.map_log (ap (λ (v : StoreValue _). v.map_log) a.1.same);
  refs = λ guid. ap (λ (v : StoreValue _). references_to v guid) a.1.same;
  logs = log_more number.0 old new a.1;
}
make_changes name make_stage.First make_stage.First (progress.Done (reply.Refused why)) old new before after runs ready (not_done.Refused cause, _, a) = nothing_changed make_stage.First old new (ap (λ (v : StoreValue _). v.map) a.0) (ap (λ (v : StoreValue _). v.map_log) a.0) (ap (λ (v : StoreValue _). v.boxes) a.0) (ap (λ (v : StoreValue _). v.made) a.0)
make_changes name make_stage.First make_stage.First (progress.Done (reply.Refused why)) old new before after runs ready (not_done.NoMemory, _, a) = nothing_changed make_stage.First old new (ap (λ (v : StoreValue _). v.map) a.0) (ap (λ (v : StoreValue _). v.map_log) a.0) (ap (λ (v : StoreValue _). v.boxes) a.0) (ap (λ (v : StoreValue _). v.made) a.0)
make_changes name make_stage.First make_stage.First (progress.Done (reply.Refused why)) old new before after runs ready (not_done.Stopped, _, a) = absurd (fall new.stopped (ap (λ (v : StoreValue _). v.stopped) a.0) runs)
make_changes name (make_stage.Naming number) make_stage.First (progress.Done reply.Done) old new before after runs ready a = record {
  same = ap (λ (m : MapMeaning). map but_count m.records) a.2.map ∙ ap (map but_count) (records_by_mailbox number 1 name old.map.records);
  unraised = unraised_same old.map new.map (ap (λ (m : MapMeaning). m.records) a.2.map ∙ records_by_mailbox number 1 name old.map.records);
  mailboxes = subst (λ (m : MapMeaning). old.map.highest.mailbox ≤ m.highest.mailbox) (sym a.2.map) (highest_rises (map_entry.B number 1 name) old.map);
  end = risen old.map_log.end new.map_log.end a.2.further;
  names = names_stay_named number 1 name old.map new.map a.2.map;
  room = a.2.room;
  refs = λ guid. ap (λ (ms : List BoxMeaning). refs_in ms guid) a.2.indexes ∙ refs_of_new (indexes_of old.boxes) guid;
  logs = log_less number.0 old new a.2.made ready;
}
make_changes name (make_stage.Naming number) make_stage.First progress.More old new before after runs ready a = log_removed number old new a.2.same ready
make_changes name (make_stage.Naming number) make_stage.First (progress.Done (reply.Refused why)) old new before after runs ready a = log_removed number old new a.0.same ready
make_changes name (make_stage.Naming number) (make_stage.Naming still) (progress.Done (reply.Refused why)) old new before after runs ready a = absurd (fall new.stopped (ap (λ (v : StoreValue _). v.stopped) a.2) runs)
make_changes name now next answer old new before after runs ready a = absurd a

-- ---- its claims, and what it leaves

pub make_moves : {D : Type 0} → (now next : MakeStage) (old new : StoreValue D) → MakeChanges now next old new → Moves no_amounts no_amounts (amounts_in old) (amounts_in new) → KeepsAllButLogs old new → MovesClaims (make_claims now) (make_claims next) old new
make_moves now next old new c moves rest (Due uid) = moves.due uid
make_moves now next old new c moves rest (Pinned file) = ap (λ (v : StoreValue _). amount_in (Pinned file) v + 0) rest
make_moves now next old new c moves rest (Taken file) = ap (λ (v : StoreValue _). amount_in (Taken file) v + 0) rest
make_moves now next old new c moves rest (Emptied file) = ap (λ (v : StoreValue _). amount_in (Emptied file) v + 0) rest
make_moves now next old new c moves rest (PlacingPieces file) = ap (λ (v : StoreValue _). amount_in (PlacingPieces file) v + 0) rest
make_moves now next old new c moves rest (Removing file) = ap (λ (v : StoreValue _). amount_in (Removing file) v + 0) rest
make_moves now next old new c moves rest (Held id) = ap (λ (v : StoreValue _). amount_in (Held id) v + 0) rest
make_moves now next old new c moves rest (Made number) = c.logs number

same_due : (a b : ℕ) → a + 0 ≡ b + 0 → a ≡ b
same_due a b e = omega (arith, e)

pub make_leaves : {D : Type 0} → (now next : MakeStage) (old new : StoreValue D) (before after : Option History) → MakeChanges now next old new → Moves no_amounts no_amounts (amounts_in old) (amounts_in new) → KeepsAllButLogs old new → SyncsMail before after → KeepsUids old new → KeepsGone old new
    → LeavesOthers (make_claims now) old new before after
make_leaves now next old new before after c moves rest mail keeps gone =
    rest_leaves (make_claims now) old new before after (ap (λ (v : StoreValue _). v.files) rest) (ap (λ (v : StoreValue _). v.instances) rest) mail c.same c.unraised c.mailboxes c.end (inl c.names) gone keeps c.room
    (λ uid rec none found listed. (c.refs rec.guid ∙ listed, same_due (amount_in (Due uid) new) (amount_in (Due uid) old) (moves.due uid)))

-- a make that has no log of its own
pub first_claims_nothing : ClaimsNothing (make_claims make_stage.First)
first_claims_nothing (Due uid) = refl
first_claims_nothing (Pinned file) = refl
first_claims_nothing (Taken file) = refl
first_claims_nothing (Emptied file) = refl
first_claims_nothing (PlacingPieces file) = refl
first_claims_nothing (Removing file) = refl
first_claims_nothing (Held id) = refl
first_claims_nothing (Made number) = refl

pub make_ended : {D : Type 0} → (name : List ℕ) (now next : MakeStage) (answer : Progress) (old new : StoreValue D) (before after : Option History) (given : Reply) → MakeAnswers name now old new before after next answer → answer ≡ progress.Done given → new.stopped ≡ false → ClaimsNothing (make_claims next)
make_ended name now make_stage.First answer old new before after given a e runs = first_claims_nothing
make_ended name make_stage.First (make_stage.Naming number) progress.More old new before after given a e runs = absurd (more_given given e)
  where
    more_given : (r : Reply) → progress.More ≡ progress.Done r → ⊥
    more_given r k = cc k
make_ended name (make_stage.Naming number) (make_stage.Naming still) (progress.Done (reply.Refused why)) old new before after given a e runs = absurd (fall new.stopped (ap (λ (v : StoreValue _). v.stopped) a.2) runs)
make_ended name now (make_stage.Naming still) answer old new before after given a e runs = absurd a
