-- Mailboxes that were read, one after another.
use Rattle.std.proofs.Common.{◌≡◌, ◌+◌, ℕ, List, [], ◌∷◌, ◌++◌, length, map, take, drop, slice_get, ◌⊎◌, All, Option, Some, refl, sym, ◌∙◌, ap, subst}
use Rattle.std.specs.List.{AllByRecursion}
use Rattle.std.specs.Option.{option_map}
use Rattle.std.proofs.lemmas.List.{length-append, map-append}
use Rattle.disk_model.specs.Disk.{Files, DiskState, History, IfTold, IsIdle}
use Rattle.disk_model.specs.declared.name.FileName.{FileName}
use Rattle.disk_model.specs.declared.name.FileName.TheVariants as file
use Rattle.disk_model.proofs.MomentLemmas.{if_told-all, if_told-both}
use Rattle.model_logs.specs.declared.log_head.LogHead.{LogHead}
use Rattle.model_logs.specs.declared.log_head.LogKind.TheVariants as kind
use Rattle.mdbox_base.specs.declared.entries.BoxEntry.{BoxEntry}
use Rattle.model_meaning.specs.BoxMeaning.{BoxMeaning, box_meaning, rows_after}
use Rattle.model_meaning.specs.MapMeaning.{MapBox, MapMeaning}
use Rattle.model_logs.specs.Entries.{box_text}
use Rattle.model_store.specs.Settled.{files_of}
use Rattle.model_store.specs.Stands.{head_of, HasLog}
use Rattle.model_store.specs.Opening.{HasItsRecord, PassesBox, PassBoxes, IsBadLog, LacksRecord, AreBoxEntries}
use Rattle.gate_log.specs.State.{InspectedLog}
use Rattle.gate_log.specs.Log.{IsFound}
use Rattle.disk_model.proofs.IdleLemmas.{idle-on, idle-back}
use Rattle.map_index.specs.Shown.{shown_box}
use Rattle.map_index.specs.declared.rows.BoxAt.{BoxAt}
use Rattle.store_checks.specs.declared.mailbox.CheckedBox.{CheckedBox}
use Rattle.store_checks.specs.declared.error.CheckError.{CheckError}
use Rattle.store_checks.specs.declared.error.CheckError.TheVariants as check
use Rattle.store_checks.specs.Boxes.{IsFoundAs, box_file, box_head, IsBoxRead, FailsBox, IsBoxCause, AreFound, AreRead, IsBoxesCause}
use Rattle.store_checks.proofs.WalkLemmas.{split_at, behind, take_next}

-- a log that was found stands so after calls that change nothing
pub found-then : (found : InspectedLog) (name : FileName) (head : LogHead) (entries : List (List ℕ)) (now new : Option History) → IsIdle now new → IsFoundAs found name head entries now → IsFoundAs found name head entries new
found-then found name head entries now new idle f = record { name_is = f.name_is; head_is = f.head_is; stands = idle-on (IsFound found entries) now new idle f.stands }

pub are_found-then : (store : List ℕ) (mailboxes : List MapBox) (boxes : List CheckedBox) (logs : List (List BoxEntry)) (now new : Option History) → IsIdle now new → AreFound store mailboxes boxes logs now → AreFound store mailboxes boxes logs new
are_found-then store [] [] [] now new idle f = tt
are_found-then store (x ∷ xs) (b ∷ bs) (l ∷ ls) now new idle f = (found-then b.log _ _ _ now new idle f.0, are_found-then store xs bs ls now new idle f.1)
are_found-then store [] [] (l ∷ ls) now new idle f = absurd f
are_found-then store [] (b ∷ bs) ls now new idle f = absurd f
are_found-then store (x ∷ xs) [] ls now new idle f = absurd f
are_found-then store (x ∷ xs) (b ∷ bs) [] now new idle f = absurd f

found_push : (store : List ℕ) (mailboxes : List MapBox) (boxes : List CheckedBox) (logs : List (List BoxEntry)) (now : Option History) (x : MapBox) (b : CheckedBox) (l : List BoxEntry) → AreFound store mailboxes boxes logs now
    → IsFoundAs b.log (file.Box x.number x.generation) (head_of store kind.Box x.number x.generation) (map box_text l) now → AreFound store (mailboxes ++ x ∷ []) (boxes ++ b ∷ []) (logs ++ l ∷ []) now
found_push store [] [] [] now x b l f g = (g, tt)
found_push store (y ∷ xs) (c ∷ bs) (k ∷ ls) now x b l f g = (f.0, found_push store xs bs ls now x b l f.1 g)
found_push store [] [] (k ∷ ls) now x b l f g = absurd f
found_push store [] (c ∷ bs) ls now x b l f g = absurd f
found_push store (y ∷ xs) [] ls now x b l f g = absurd f
found_push store (y ∷ xs) (c ∷ bs) [] now x b l f g = absurd f

pass_push : (files : Files) (m : MapMeaning) (mailboxes : List MapBox) (logs : List (List BoxEntry)) (x : MapBox) (l : List BoxEntry) → PassBoxes files m mailboxes logs → PassesBox files m x l → PassBoxes files m (mailboxes ++ x ∷ []) (logs ++ l ∷ [])
pass_push files m [] [] x l p q = (q, tt)
pass_push files m (y ∷ xs) (k ∷ ls) x l p q = (p.0, pass_push files m xs ls x l p.1 q)
pass_push files m [] (k ∷ ls) x l p q = absurd p
pass_push files m (y ∷ xs) [] x l p q = absurd p

each_push : {X : Type 0} → (P : X → Type 0) (xs : List X) (x : X) → AllByRecursion P xs → P x → AllByRecursion P (xs ++ x ∷ [])
each_push P [] x all p = (p, tt)
each_push P (y ∷ ys) x all p = (all.0, each_push P ys x all.1 p)

one_each_push : {X Y : Type 0} → (xs : List X) (ys : List Y) (x : X) (y : Y) → length xs ≡ length ys → length (xs ++ x ∷ []) ≡ length (ys ++ y ∷ [])
one_each_push xs ys x y e = length-append xs (x ∷ []) ∙ ap (λ (n : ℕ). n + 1) e ∙ sym (length-append ys (y ∷ []))

-- none was read yet
pub none_read : (store : List ℕ) (m : MapMeaning) (old : Option History) → AreRead store m [] [] [] old old
none_read store m old = record { pass = if_told-all _ old (λ disk. tt); box_entries = tt; one_each = refl; records = tt; meanings = refl; found = tt }

read_as : (P : BoxAt → Type 0) (at : BoxAt) (mailbox : MapBox) → at ≡ shown_box mailbox → P at → P (shown_box mailbox)
read_as P at mailbox e p = subst P e p

-- one more was read
pub one_read : (store : List ℕ) (m : MapMeaning) (place : ℕ) (o : Option BoxAt) (at : BoxAt) (boxes more : List CheckedBox) (logs : List (List BoxEntry)) (b : CheckedBox) (l : List BoxEntry) (old now new : Option History)
    → m.store ≡ store → o ≡ option_map shown_box (slice_get m.boxes place) → o ≡ Some at → IsIdle old now → IsIdle now new → AreRead store m (take place m.boxes) boxes logs old now → IsBoxRead store m at b l now new → more ≡ boxes ++ b ∷ []
    → AreRead store m (take (place + 1) m.boxes) more (logs ++ l ∷ []) old new
one_read store m place o at boxes more logs b l old now new same e is idle next r read push =
    let x = behind shown_box (slice_get m.boxes place) at (sym is ∙ e) in
    let log' = read_as (λ (a : BoxAt). IfTold now (λ (disk : DiskState). HasLog (files_of disk) (box_file a) (box_head store a) (map box_text l))) at x.0 x.2 read.log in
    let log'' = subst (λ (s : List ℕ). IfTold now (λ (disk : DiskState). HasLog (files_of disk) (box_file (shown_box x.0)) (box_head s (shown_box x.0)) (map box_text l))) (sym same) log' in
    let found' = read_as (λ (a : BoxAt). IsFoundAs b.log (box_file a) (box_head store a) (map box_text l) new) at x.0 x.2 read.found in
    let boxes_are : take (place + 1) m.boxes ≡ take place m.boxes ++ x.0 ∷ [] = take_next m.boxes place x.0 x.1 in
    subst (λ (ms : List MapBox). AreRead store m ms more (logs ++ l ∷ []) old new) (sym boxes_are)
    (subst (λ (bs : List CheckedBox). AreRead store m (take place m.boxes ++ x.0 ∷ []) bs (logs ++ l ∷ []) old new) (sym push) (record {
      pass = if_told-both _ _ _ old
          (λ disk p has. pass_push (files_of disk) m (take place m.boxes) logs x.0 l p (record { log = record { log = has; in_range = read.good.0; fit = read.good.1 }; records = read.records })) r.pass (idle-back _ old now idle log'');
      box_entries = each_push AreBoxEntries logs l r.box_entries read.good;
      one_each = one_each_push logs (take place m.boxes) l x.0 r.one_each;
      records = each_push (λ (log : List BoxEntry). All (HasItsRecord m) (rows_after log)) logs l r.records read.records;
      meanings = map-append (λ (c : CheckedBox). c.index.meaning) boxes (b ∷ []) ∙ ap (λ (ms : List BoxMeaning). ms ++ b.index.meaning ∷ []) r.meanings ∙ ap (λ (i : BoxMeaning). map box_meaning logs ++ i ∷ []) read.meaning ∙ sym (map-append box_meaning logs (l ∷ []));
      found = found_push store (take place m.boxes) boxes logs new x.0 b l (are_found-then store (take place m.boxes) boxes logs now new next r.found) found';
    }))

-- one wasn't read
pub boxes_cause : (store : List ℕ) (m : MapMeaning) (place : ℕ) (o : Option BoxAt) (at : BoxAt) (boxes : List CheckedBox) (logs : List (List BoxEntry)) (old now : Option History) (error : CheckError)
    → o ≡ option_map shown_box (slice_get m.boxes place) → o ≡ Some at → IsIdle old now → AreRead store m (take place m.boxes) boxes logs old now → IsBoxCause m at now error → IsBoxesCause m old error
boxes_cause store m place o at boxes logs old now (check.Damaged name offset) e is idle r (is_name, fails) =
    let x = behind shown_box (slice_get m.boxes place) at (sym is ∙ e) in
    let bad = fails x.0 (sym x.2) in
    let n : name ≡ file.Box x.0.number x.0.generation = is_name ∙ ap box_file x.2 in
    if_told-both _ _ _ old
    (λ disk passed f.
    record {
      before = take place m.boxes;
      mailbox = x.0;
      behind = drop (place + 1) m.boxes;
      split = split_at m.boxes place x.0 x.1;
      logs = logs;
      passed = passed;
      is_name = n;
      bad = subst (λ (k : FileName). IsBadLog box_text AreBoxEntries (head_of m.store kind.Box x.0.number x.0.generation) (files_of disk k) offset ⊎ LacksRecord (files_of disk) m x.0 offset) (sym n) f;
    })
    r.pass (idle-back (λ (disk : DiskState). FailsBox (files_of disk) m x.0 offset) old now idle bad)
boxes_cause store m place o at boxes logs old now check.NoStore e is idle r c = c
boxes_cause store m place o at boxes logs old now check.DiskFault e is idle r c = c
boxes_cause store m place o at boxes logs old now check.NoMemory e is idle r c = c
