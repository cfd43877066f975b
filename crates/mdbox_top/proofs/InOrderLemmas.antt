-- An exercise of a store that has none of its mailboxes: each request is done, and what is counted is as in the script's own order.
use Rattle.std.specs.Prelude.{◌≡◌, ◌<◌, ◌≤◌, ◌⊎◌, ◌||◌, ◌+◌, AllPairs, flat_map, sum_by, ℕ, Bool, true, false, if◌then◌else◌, All, List, [], ◌∷◌, length, map, Option, Some}
use Rattle.std.specs.List.{list_any}
use Rattle.std.proofs.Common.{refl, sym, ◌∙◌, ap, arith, inl, inr, subst}
use Rattle.std.proofs.lemmas.List.Elements.{All-cons, All-head, All-nil, All-tail, All-weaker}
use Rattle.disk_model.specs.Disk.{Faults, History, told_calls}
use Rattle.exercise_course.specs.Hindered.{BeginsFree, is_full, is_ok, is_stopped}
use Rattle.exercise_course.specs.InOrder.{deliveries_in}
use Rattle.exercise_course.proofs.BalanceLemmas.{counts_grow}
use Rattle.exercise_course.proofs.CopiesLemmas.{never_full, ok_unhindered}
use Rattle.exercise_course.proofs.CountingLemmas.{IsCountable}
use Rattle.exercise_course.proofs.DeliveredLemmas.{records_delivered}
use Rattle.exercise_course.proofs.LegalLemmas.{messages_alike, octets_alike, script_length}
use Rattle.mdbox_base.specs.declared.replies.Refusal.TheVariants as refusal
use Rattle.mdbox_base.specs.declared.replies.Reply.{Reply}
use Rattle.mdbox_base.specs.declared.replies.Reply.TheVariants as reply
use Rattle.mdbox_base.specs.Words.{count_different}
use Rattle.mdbox_base.specs.declared.entries.Highest.{Highest}
use Rattle.mdbox_base.specs.declared.entries.InstRow.{InstRow}
use Rattle.mdbox_base.specs.declared.script.Script.{Script}
use Rattle.model_lists.specs.Lists.{Lists}
use Rattle.model_meaning.specs.BoxMeaning.{BoxMeaning}
use Rattle.model_meaning.specs.MapMeaning.{MapMeaning, MapRecord, map_meaning}
use Rattle.model_meaning.specs.Sound.{IsSoundRecord}
use Rattle.model_meaning.proofs.MapSoundLemmas.{map_sound}
use Rattle.request_text.specs.Outcomes.{is_disk_no, is_lack, is_no, replies_outcome}
use Rattle.request_text.specs.declared.outcome.Outcome.{Outcome}
use Rattle.request_text.specs.declared.outcome.Outcome.TheVariants as outcome
use Rattle.script_run.specs.Done.{MayRead}
use Rattle.script_run.specs.Opening.{LogsShowLists}
use Rattle.script_text.specs.MadeScript.{made_script}
use Rattle.store_open.specs.Opened.{IsOpenedAs}
use Rattle.mdbox_top.specs.ExerciseRun.{IsCountedUp, IsDoneInOrder, made_requests}
use Rattle.mdbox_top.proofs.ExerciseLemmas.{made_unread}
use Rattle.mdbox_top.proofs.NumbersLemmas.{counted_listed}

-- none of these passes
none_any : {X Y : Type 0} → (p : Y → Bool) (f : X → Y) (xs : List X) → list_any p (map f xs) ≡ false → All (λ x. p (f x) ≡ false) xs
none_any p f [] e = All-nil (λ x. p (f x) ≡ false)
none_any {X} {Y} p f (x ∷ xs) e = by_test (p (f x)) refl e (λ k. none_any p f xs k)
  where
    by_test : (b : Bool) → p (f x) ≡ b → (b || list_any p (map f xs)) ≡ false → (list_any p (map f xs) ≡ false → All (λ y. p (f y) ≡ false) xs) → All (λ y. p (f y) ≡ false) (x ∷ xs)
    by_test true is any next = absurd (let k : true ≡ false = any in cc k)
    by_test false is any next = All-cons (λ y. p (f y) ≡ false) x xs is (next any)

any_none : {X Y : Type 0} → (p : Y → Bool) (f : X → Y) (xs : List X) → All (λ x. p (f x) ≡ false) xs → list_any p (map f xs) ≡ false
any_none p f [] a = refl
any_none p f (x ∷ xs) a = ap (λ (b : Bool). b || list_any p (map f xs)) (All-head (λ y. p (f y) ≡ false) x xs a) ∙ any_none p f xs (All-tail (λ y. p (f y) ≡ false) x xs a)

-- a reply that is none of these isn't hindered
free_one : (one : Reply) → is_full one ≡ false → is_disk_no (Some one) ≡ false → is_lack (Some one) ≡ false → is_stopped one ≡ false
free_one (reply.Refused refusal.NoMemory) f d l = absurd (let k : true ≡ false = l in cc k)
free_one (reply.Refused refusal.ReadFault) f d l = absurd (let k : true ≡ false = d in cc k)
free_one (reply.Refused refusal.Stopped) f d l = absurd (let k : true ≡ false = d in cc k)
free_one one f d l = f

not_no : (one : Reply) → is_ok one ≡ true → is_no (Some one) ≡ false
not_no (reply.Refused why) e = absurd (let k : false ≡ true = e in cc k)
not_no one e = refl

-- an end as done, or with a refusal, tells of no fault and no lack of memory
quiet_end : (b c d : Bool) → ((if b then outcome.DiskFault else (if c then outcome.NoMemory else (if d then outcome.No else outcome.Done))) ≡ outcome.Done) ⊎ ((if b then outcome.DiskFault else (if c then outcome.NoMemory else (if d then outcome.No else outcome.Done))) ≡ outcome.No) → (b ≡ false) × (c ≡ false)
quiet_end true c d (inl e) = absurd (let k : outcome.DiskFault ≡ outcome.Done = e in cc k)
quiet_end true c d (inr e) = absurd (let k : outcome.DiskFault ≡ outcome.No = e in cc k)
quiet_end false true d (inl e) = absurd (let k : outcome.NoMemory ≡ outcome.Done = e in cc k)
quiet_end false true d (inr e) = absurd (let k : outcome.NoMemory ≡ outcome.No = e in cc k)
quiet_end false false d e = (refl, refl)

-- what is printed then is whole
end_is : {D : Type 0} → (script : Script) (held later : Option (List ℕ)) (old new : Option History) (began now : Faults) (ended : Outcome) → (d : IsCountedUp D script held later old new began now ended) → (ended ≡ outcome.Done) ⊎ (ended ≡ outcome.No) → ended ≡ replies_outcome (map Some d.given)
end_is script held later old new began now outcome.Done d over = d.printed.0
end_is script held later old new began now outcome.No d over = d.printed.0
end_is script held later old new began now ended d (inl e) = absurd (cc e)
end_is script held later old new began now ended d (inr e) = absurd (cc e)

done_end : (given : List Reply) → All (λ one. is_ok one ≡ true) given → list_any is_disk_no (map Some given) ≡ false → list_any is_lack (map Some given) ≡ false → replies_outcome (map Some given) ≡ outcome.Done
done_end given ok disk lack =
    let none : list_any is_no (map Some given) ≡ false = any_none is_no Some given (λ k d lt. not_no _ (ok k d lt)) in
    rw (disk, lack, none) refl

-- map uids rise in the logs with which a store opens
opened_countable : (old : Option History) (m : MapMeaning) (meanings : List BoxMeaning) → IsOpenedAs old m meanings → IsCountable m
opened_countable old m meanings o =
    let sound = map_sound m.store o.entries o.good.map_entries.1 o.good.map_entries.0 in
    record {
      rising = subst (AllPairs (λ (a b : MapRecord). a.uid < b.uid)) (sym o.means.records) sound.rising;
      below = subst (All (λ (row : MapRecord). row.uid ≤ m.highest.map)) (sym o.means.records)
          (All-weaker (IsSoundRecord (map_meaning m.store o.entries).highest.map) (λ (row : MapRecord). row.uid ≤ m.highest.map)
          (λ row s. let high = ap (λ (h : Highest). h.map) o.means.highest in let b = s.below in omega (arith, high, b)) _ sound.records);
    }

abbrev counts_in : List MapRecord → ℕ
counts_in rows = sum_by (λ row. row.count) rows

-- how many different instances rows name
abbrev ids_different : List InstRow → ℕ
ids_different rows = count_different (map (λ instance. instance.id.0) rows)

abbrev count_rows : List MapRecord → ℕ
count_rows rows = ids_different (flat_map (λ row. row.instances) rows)

pub done_in_order : {D : Type 0} → (lanes count number : ℕ) (held later : Option (List ℕ)) (old new : Option History) (began now : Faults) (ended : Outcome) → (d : IsCountedUp D (made_script lanes count number) held later old new began now ended) → 1 ≤ lanes → lanes ≤ 64 → count ≤ 100000
    → (lists : Lists) → LogsShowLists d.done.m d.done.meanings lists → BeginsFree lanes lists → All (λ one. is_full one ≡ false) d.given → (ended ≡ outcome.Done) ⊎ (ended ≡ outcome.No) → IsDoneInOrder (made_requests lanes count number) d.done.m lists d.given ended d.m d.meanings
done_in_order lanes count number held later old new began now ended d one most few lists shown begins room over =
    let script = made_requests lanes count number in
    let may : MayRead script lists old = λ e. absurd (let k : true ≡ false = sym e ∙ made_unread lanes count number in cc k) in
    let serves = d.done.serves lists shown may in
    let is = end_is (made_script lanes count number) held later old new began now ended d over in
    let quiet = quiet_end (list_any is_disk_no (map Some d.given)) (list_any is_lack (map Some d.given)) (list_any is_no (map Some d.given)) (so is over) in
    let disk = none_any is_disk_no Some d.given quiet.0 in
    let lack = none_any is_lack Some d.given quiet.1 in
    let unstopped : All (λ one. is_stopped one ≡ false) d.given = λ k x lt. free_one _ (room k x lt) (disk k x lt) (lack k x lt) in
    let many : length d.given ≡ count = d.done.each ∙ script_length lanes count number in
    let first = d.done.begins lists shown may in
    let countable = subst IsCountable (sym first) (opened_countable old d.done.m d.done.meanings d.done.opened) in
    let ok = never_full lanes count number lists serves.run serves.journal serves.broken d.given began now (map_meaning serves.run.store serves.run.start) serves.m serves.drawn (told_calls new) countable one most few begins many unstopped serves.served in
    let free = ok_unhindered d.given ok in
    let more = records_delivered lanes count number lists serves.run serves.journal serves.broken d.given began now (map_meaning serves.run.store serves.run.start) serves.m serves.drawn (told_calls new) many ok serves.served in
    let same : d.m.records ≡ serves.m.records = ap (λ (x : MapMeaning). x.records) (sym (d.comes.means lists shown may)) in
    let counted = counted_listed d.m d.meanings _ (d.comes.shows lists shown may) in
    record {
      ok = ok;
      done = is ∙ done_end d.given ok quiet.0 quiet.1;
      messages = counted.0 ∙ messages_alike lanes count number lists serves.run serves.journal d.given began now one most few begins many free serves.served.legal;
      octets = counted.1 ∙ octets_alike lanes count number lists serves.run serves.journal d.given began now one most few begins many free serves.served.legal;
      records = ap length same ∙ more.records ∙ ap (λ (x : MapMeaning). length x.records + deliveries_in script) first;
      counts =
          let k = counts_grow lanes count number lists serves.run serves.journal serves.broken d.given began now (map_meaning serves.run.store serves.run.start) serves.m serves.drawn (told_calls new) countable one most few begins many free serves.served in
          let now_is = ap counts_in same in
          let first_is = ap (λ (x : MapMeaning). counts_in x.records) first in
          let listed = counted.0 in
          omega (arith, k, now_is, first_is, listed);
      instances = ap count_rows same ∙ ap ids_different more.instances ∙ ap (λ (x : MapMeaning). count_rows x.records) first;
    }
  where
    so : {x y : Outcome} → x ≡ y → (x ≡ outcome.Done) ⊎ (x ≡ outcome.No) → (y ≡ outcome.Done) ⊎ (y ≡ outcome.No)
    so e (inl f) = inl (sym e ∙ f)
    so e (inr f) = inr (sym e ∙ f)
