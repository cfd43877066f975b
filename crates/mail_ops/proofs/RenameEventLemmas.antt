-- The event of a renaming, by the clause of a step.
use Rattle.mail_ops.proofs.Common.{◌≡◌, ◌==◌, ℕ, Bool, true, false, cond, List, [], ◌∷◌, map, Option, Some, None, refl, sym, ◌∙◌, ap, subst, arith, inl, bytes_eq, eq-eqb, eqb-true, find, is_some, option_map, option_or, History, Faults, told_calls, BoxNo, Did, Refusal, Reply, Mailbox, Lists, AreWellFormed, BoxMeaning, MapBox, MapMeaning, MapRecord, MapFits, map_applied}
use Rattle.mail_ops.proofs.Common.{ShowLists, First, RunEvent, event_of, own_events, no_numbers, is_step, refused_where, Around, answers_well, IsReplyOf, due_at, IsStore, StoreValue, indexes_of, list_named, ShowsSeen, HasNotBegun, Steps, seen_of}
use Rattle.mail_ops.proofs.Common.{IsPlain, did_fall, did_own, ends_well, own_event, some_reply, stays_left, never_more, plain_stopped, refusal_last}
use Rattle.std.specs.Prelude.{Contains, codes}
use Rattle.mdbox_base.specs.Words.{IsName}
use Rattle.mdbox_base.specs.declared.entries.MapEntry.TheVariants as map_entry
use Rattle.mdbox_base.specs.declared.progress.Did.TheVariants as did
use Rattle.mdbox_base.specs.declared.replies.Refusal.TheVariants as refusal
use Rattle.mdbox_base.specs.declared.replies.Reply.TheVariants as reply
use Rattle.mdbox_base.specs.declared.requests.Request.TheVariants as request
use Rattle.mdbox_base.specs.declared.script.Half.TheVariants as half
use Rattle.entry_steps.proofs.AppendListLemmas.{renamed_by}
use Rattle.list_machine.specs.Machine.{rename_mailbox}
use Rattle.model_appends.specs.MapAppending.{lists_changed}
use Rattle.model_store.specs.Listing.{ShowsMailbox}
use Rattle.model_meaning.specs.MapMeaning.{box_at, box_changed}
use Rattle.model_meaning.proofs.AppliedLemmas.{boxes_by_renamed, records_by_renamed}
use Rattle.model_octets.proofs.SearchLemmas.{found_is, found_one, text_is, text_yes}
use Rattle.store_core.specs.Dues.{number_beside}
use Rattle.task_steps.proofs.OneEventLemmas.{first_reply, first_turn, next_first, plain_forgets, plain_refused, plain_refuses}
use Rattle.mail_ops.specs.Changing.{MayChangeBox, renaming_refusal}
use Rattle.mail_ops.specs.Renaming.{FellRenaming, RenamedSo, RenamesBox, with_name}
use Rattle.mail_ops.proofs.ChangeCheckLemmas.{ShownMailbox, renaming_checked, renaming_deletes, renaming_steps, shown_box}
use Rattle.mail_ops.proofs.LoweringLemmas.{comes_with, one_fits}
use Rattle.mail_ops.proofs.MakeCallLemmas.{name_is_new, not_there}
use Rattle.mail_ops.proofs.MakeEventLemmas.{stopped_shows, stopped_stays}
use Rattle.mail_ops.proofs.MessageLemmas.{store_is_sound}
use Rattle.mail_ops.proofs.RemovalLemmas.{store_tells}

-- the clause of its step
abbrev pub RenameClause : {D : Type 0} → List ℕ → List ℕ → StoreValue D → StoreValue D → Option History → Option History → Faults → Faults → Did → Option Reply → Type 0
RenameClause name target old new before after began then how ended =
    (around behind : Around) (pins : ℕ → ℕ) → Steps HasNotBegun HasNotBegun around behind (request.Rename name target) (seen_of pins old before began) (seen_of pins new after then) how ended

pub rename_is_plain : (name target : List ℕ) → IsPlain (request.Rename name target)
rename_is_plain name target = record { found = λ around run event. tt; finds = λ around event. tt; memory = refl; behind = λ why. refl; half_is = refl; halves_are = refl }

-- ---- the entry fits

-- the mailbox that the map finds by name is found by its number
found_box : (name : List ℕ) (number : ℕ) (boxes : List MapBox) → option_map (λ b. b.number) (find (λ b. bytes_eq b.name name) boxes) ≡ Some number → (box : MapBox) × Contains boxes box × (box.name ≡ name) × (box.number ≡ number)
found_box name number boxes e = by_option (find (λ (b : MapBox). bytes_eq b.name name) boxes) refl e
  where
    by_option : (o : Option MapBox) → find (λ (b : MapBox). bytes_eq b.name name) boxes ≡ o → option_map (λ b. b.number) o ≡ Some number → (box : MapBox) × Contains boxes box × (box.name ≡ name) × (box.number ≡ number)
    by_option None is k = absurd (let w : None ≡ Some number = k in cc w)
    by_option (Some box) is k =
        let f = found_one (λ (b : MapBox). bytes_eq b.name name) boxes box is in
        let w : Some box.number ≡ Some number = k in
        (box, f.0, text_is box.name name f.1, (let s : box.number ≡ number = cc w in s))

not_inbox : (o : Option Refusal) (b : Bool) → option_or o (refused_where b refusal.Inbox) ≡ None → b ≡ false
not_inbox o true e = by_first o e
  where
    by_first : (r : Option Refusal) → option_or r (Some refusal.Inbox) ≡ None → true ≡ false
    by_first None k = absurd (let w : Some refusal.Inbox ≡ None = k in cc w)
    by_first (Some why) k = absurd (let w : Some why ≡ None = k in cc w)
not_inbox o false e = refl

free_name : (b : Bool) → refused_where b refusal.Exists ≡ None → b ≡ false
free_name true e = absurd (let k : Some refusal.Exists ≡ None = e in cc k)
free_name false e = refl

differ : (b : Bool) → b ≡ true → b ≡ false → ⊥
differ b t f = let k : true ≡ false = sym t ∙ f in cc k

pub renaming_fits : {D : Type 0} → (history : Option History) (name target : List ℕ) (number : BoxNo) (store : StoreValue D) → IsStore history store → MayChangeBox name number.0 store → renaming_refusal name target store ≡ None → MapFits store.map (map_entry.V number target)
renaming_fits history name target number store is b free = record {
  there = (own.0, at, λ e. differ (bytes_eq name (codes "INBOX")) (text_yes name (codes "INBOX") (sym own.2 ∙ e)) (not_inbox _ (bytes_eq name (codes "INBOX")) b.free));
  name_new = name_is_new target store.map.store store.map.boxes store.boxes is.box_logs (not_there (list_named store target) (free_name (is_some (list_named store target)) (renaming_deletes name target store free).1));
}
  where
    own : (box : MapBox) × Contains store.map.boxes box × (box.name ≡ name) × (box.number ≡ number.0)
    own = found_box name number.0 store.map.boxes b.box.number_is

    at : box_at store.map number.0 ≡ Some own.0
    at = found_is (λ (box : MapBox). box.number == number.0) store.map.boxes own.0 own.1 (eq-eqb own.0.number number.0 own.3)
        (λ i j d lt le p q. let less = (store_is_sound history store is).boxes_rising i j d lt le in omega (arith, less, eqb-true _ number.0 p, eqb-true _ number.0 q))

-- ---- what is shown

pub shows_renamed : (n : ℕ) (target : List ℕ) (boxes : List MapBox) (meanings : List BoxMeaning) (lists : Lists) → ShowLists boxes meanings lists
    → ShowLists (map (box_changed (map_entry.V (record { 0 = n }) target)) boxes) meanings (lists_changed (map_entry.V (record { 0 = n }) target) lists)
shows_renamed n target [] [] [] h = tt
shows_renamed n target (b ∷ bs) (m ∷ ms) (l ∷ ls) h = (by_test (n == b.number) (n == l.number) (ap (λ (k : ℕ). n == k) (sym h.0.number)), shows_renamed n target bs ms ls h.1)
  where
    by_test : (t s : Bool) → t ≡ s → ShowsMailbox (cond t (record b { name = target }) b) m (cond s (record l { name = target }) l)
    by_test true true p = record { number = h.0.number; name = refl; next = h.0.next; rows = h.0.rows }
    by_test false false p = h.0
    by_test true false p = absurd (cc p)
    by_test false true p = absurd (cc p)
shows_renamed n target boxes meanings lists h = absurd h

-- ---- the store was stopped, or a check refuses it

pub renaming_stopped : {D : Type 0} → (name target : List ℕ) (store : StoreValue D) (history : Option History) (faults : Faults) → store.stopped ≡ true → RenameClause name target store store history history faults faults did.Quiet (Some (reply.Refused refusal.Stopped))
renaming_stopped name target store history faults stopped = λ around behind pins run lane place said lists come shows stood. (
  plain_stopped around behind run lane place said (request.Rename name target) lists (seen_of pins store history faults) (rename_is_plain name target) come shows stood stopped,
  λ e. absurd (never_more _ e),
)

step_replied : (name target : List ℕ) (why : Refusal) → is_step why ≡ true → IsReplyOf (request.Rename name target) (reply.Refused why ∷ []) (reply.Refused why)
step_replied name target refusal.NoMemory s = absurd (let k : false ≡ true = s in cc k)
step_replied name target refusal.ReadFault s = tt
step_replied name target refusal.Stopped s = tt
step_replied name target (refusal.Damaged file offset) s = absurd (let k : false ≡ true = s in cc k)
step_replied name target why s = refl

pub renaming_refused : {D : Type 0} → (name target : List ℕ) (store : StoreValue D) (history : Option History) (faults : Faults) (why : Refusal) → store.stopped ≡ false → renaming_refusal name target store ≡ Some why
    → RenameClause name target store store history history faults faults (did.Step half.Whole) (Some (reply.Refused why))
renaming_refused name target store history faults why runs refuses = λ around behind pins run lane place said lists come shows stood.
    let step = renaming_steps name target store why refuses in (
      plain_refused around behind run lane place said (request.Rename name target) lists (seen_of pins store history faults) why (rename_is_plain name target) come shows stood runs step (step_replied name target why step)
          (λ event. (renaming_checked run name target store lists shows.1 ∙ refuses, refl)),
      λ e. absurd (never_more _ e),
    )

-- out of memory
pub renaming_unremembered : {D : Type 0} → (name target : List ℕ) (store : StoreValue D) (history : Option History) (faults : Faults) → store.stopped ≡ false → RenameClause name target store store history history faults faults did.Quiet (Some (reply.Refused refusal.NoMemory))
renaming_unremembered name target store history faults runs = λ around behind pins run lane place said lists come shows stood. (
  plain_forgets around behind run lane place said (request.Rename name target) lists (seen_of pins store history faults) (rename_is_plain name target) come shows stood runs,
  λ e. absurd (never_more _ e),
)

-- ---- the mailbox gets the name

abbrev pub renaming_event : ℕ → ℕ → Mailbox → List ℕ → ℕ → RunEvent
renaming_event lane place mailbox target calls = record (event_of lane place First calls) { reply = Some reply.Done; map_entries = map_entry.V (record { 0 = mailbox.number }) target ∷ [] }

-- the lists are those that the machine leaves
renamed_lists : (name target : List ℕ) (number : BoxNo) (lists : Lists) (m : BoxMeaning) → AreWellFormed lists → (x : ShownMailbox name number.0 lists m) → with_name number target lists ≡ rename_mailbox name target lists
renamed_lists name target number lists m well x = renamed_by lists name target x.shown.mailbox number well x.shown.named x.number_is

done_runs : Some reply.Done ≡ Some (reply.Refused refusal.Stopped) → ⊥
done_runs e = let k : reply.Done ≡ reply.Refused refusal.Stopped = cc e in cc k

renamed_due : {D : Type 0} → (name target : List ℕ) (old new : StoreValue D) (uid : ℕ) → RenamesBox name target old new → due_at uid new ≡ due_at uid old
renamed_due name target old new uid b =
    ap (λ (rows : List MapRecord). number_beside uid rows new.dues) (ap (λ (m : MapMeaning). m.records) b.map ∙ records_by_renamed b.number target old.map.records) ∙ ap (λ (dues : List ℕ). number_beside uid old.map.records dues) (ap (λ (s : StoreValue _). s.dues) b.same)

pub renaming_done : {D : Type 0} → (name target : List ℕ) (old new : StoreValue D) (before after : Option History) (began then : Faults) → IsStore before old → old.stopped ≡ false → IsName target → RenamedSo name target old new before after began then
    → RenameClause name target old new before after began then (did.Step half.Whole) (Some reply.Done)
renaming_done name target old new before after began then is ran is_name d = λ around behind pins run lane place said lists come shows stood.
    let b = d.box in
    let q = request.Rename name target in
    let seen = seen_of pins old before began in
    let later = seen_of pins new after then in
    let left : Lists = with_name b.number target lists in
    let x = shown_box name b.number.0 old lists b.box.m b.box.box shows.1 in
    let event : RunEvent = renaming_event lane place x.shown.mailbox target (told_calls after) in
    let runs : new.stopped ≡ false = ap (λ (s : StoreValue _). s.stopped) b.same ∙ ran in
    let free = renaming_checked run name target old lists shows.1 ∙ d.free in
    let does = renamed_lists name target b.number lists b.box.m shows.0 x in
    let well : AreWellFormed left = answers_well run lists q event reply.Done left shows.0 is_name (free, does) in
    let boxes : new.map.boxes ≡ map (box_changed (map_entry.V b.number target)) old.map.boxes = ap (λ (m : MapMeaning). m.boxes) b.map ∙ boxes_by_renamed b.number target old.map.boxes in
    let indexes : indexes_of new.boxes ≡ indexes_of old.boxes = ap (λ (s : StoreValue _). indexes_of s.boxes) b.same in
    let shown : ShowsSeen later left = (
      well,
      subst (λ (bs : List MapBox). ShowLists bs (indexes_of new.boxes) left) (sym boxes) (subst (λ (ms : List BoxMeaning). ShowLists (map (box_changed (map_entry.V b.number target)) old.map.boxes) ms left) (sym indexes) (shows_renamed b.number.0 target old.map.boxes (indexes_of old.boxes) lists shows.1)),
    ) in (
      (did_own around behind run lane place said q lists left seen later (did.Step half.Whole) (Some reply.Done) (Some reply.Done) event
          (record {
            own = own_event event refl;
            finds = tt;
            found = tt;
            part_is = next_first around run q (own_events place run) stood.0;
            allowed = free;
            did = (x.shown.mailbox, x.shown.named, refl);
            fits = one_fits run seen (map_entry.V (record { 0 = x.shown.mailbox.number }) target) come (subst (λ (k : ℕ). MapFits old.map (map_entry.V (record { 0 = k }) target)) (sym x.number_is) (renaming_fits before name target b.number old is b.box d.free));
            ends = record { 0 = λ h. refl; 1 = λ h e. some_reply reply.Done e };
            replied = refusal_last (own_events place run) event stood.0;
          }) (record { made = refl; pins = refl; unpins = refl; doomed = refl; removed = refl; given = refl; placed = refl; gone = refl }) come
          (comes_with run event (map_entry.V (record { 0 = x.shown.mailbox.number }) target) seen later come (subst (λ (k : ℕ). new.map ≡ map_applied (map_entry.V (record { 0 = k }) target) old.map) (sym x.number_is) b.map) (ap (λ (s : StoreValue _). s.drawn) b.same) d.disk.change.grows refl refl refl)
          (λ uid. let e = renamed_due name target old new uid b in omega (arith, e))
          (store_tells pins old new before after began then (λ runs. ran) (ap (λ (m : MapMeaning). m.store) b.map) (ap (λ (s : StoreValue _). s.drawn) b.same) (ap (λ (s : StoreValue _). s.files) b.same) (ap (λ (s : StoreValue _). s.instances) b.same)) shown d.disk.change.grows (d.disk.change.stays old.map) refl ((free, does), refl)
          (refl, refl, runs, record { stops = λ s. d.disk.change.moments lists s.0; settled = λ s. d.disk.settled lists s.0 })
          (ends_well q said event (Some reply.Done) (Some reply.Done) (did.Step half.Whole) seen later refl ran runs d.disk.unfailed (λ x. x) done_runs (λ some. first_turn q said (rename_is_plain name target) stood.1) (first_reply q said (Some reply.Done) reply.Done stood.1 refl))).so,
      λ e. absurd (never_more _ e),
    )

-- the append failed
pub renaming_fell : {D : Type 0} → (name target : List ℕ) (old new : StoreValue D) (before after : Option History) (began then : Faults) → old.stopped ≡ false → FellRenaming name target old new before after began then
    → RenameClause name target old new before after began then (did.Broken half.Whole) (Some (reply.Refused refusal.Stopped))
renaming_fell name target old new before after began then ran f = λ around behind pins run lane place said lists come shows stood.
    let q = request.Rename name target in
    let seen = seen_of pins old before began in
    let later = seen_of pins new after then in
    let stops : new.stopped ≡ true = ap (λ (s : StoreValue _). s.stopped) f.same in
    let x = shown_box name f.number.0 old lists f.box.m f.box.box shows.1 in
    let would : RunEvent = renaming_event lane place x.shown.mailbox target (told_calls after) in (
      (did_fall around behind run lane place said q First lists seen later (did.Broken half.Whole) no_numbers (plain_refuses around run place q refusal.Stopped (rename_is_plain name target) stood.0)
          (stays_left _ _ _ _ _ _ _ _ _ come (stopped_stays pins old new before after began then (with_name f.number target) f.same f.fell.change) (stopped_shows pins old new before after began then lists f.same shows)) ran stops f.fell.rose (λ event. inl refl) tt (
            record { refused = refl; unanswered = refl; ran = ran; stopped = stops },
            refl,
            (
              record {
                would = would;
                lane_is = refl;
                request_is = refl;
                part_is = refl;
                did = λ other e. (x.shown.mailbox, x.shown.named, refl);
                answer = reply.Done;
                left = with_name f.number target lists;
                made = ((renaming_checked run name target old lists shows.1 ∙ f.free, renamed_lists name target f.number lists f.box.m shows.0 x), refl);
              },
              λ s. f.fell.change.moments lists s.0,
            ),
          )).so,
      λ e. absurd (never_more _ e),
    )
