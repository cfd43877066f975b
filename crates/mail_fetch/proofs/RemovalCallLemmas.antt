-- What a fetch says that removes the file which it has unpinned.
use Rattle.mail_fetch.proofs.Common.{◌≡◌, ◌≢◌, ◌≤◌, ◌<◌, ◌+◌, ◌==◌, ◌&&◌, ℕ, Bool, true, false, List, [], ◌∷◌, ◌++◌, Option, Some, None, refl, sym, ◌∙◌, ap, subst, arith, inl, inr, All, is_some, option_and_then, option_map, option_map_or, cases_eq, eq-eqb, eqb-true}
use Rattle.mail_fetch.proofs.Common.{ne_eqb, All-cons, All-contains, All-nil, DiskState, Faults, Grows, History, IfTold, NoFault, InstRow, FileNo, Uid, Reply, Lists, MapRecord, record_at, found_one, IsSettledFor, Leaves, files_of, end_in, file_in, is_doomed_in, pins_in, MailFile}
use Rattle.mail_fetch.proofs.Common.{file-gone, file-without, KeepsInstances, AreElsewhere, StoreValue, Claims, Due, Emptied, Held, Made, MovesClaims, Pinned, PlacingPieces, Removing, Taken, Thing, amount_in, no_claims, one_if, IsSameOrSynced, LeavesOthers, unraised_same, FetchSteps}
use Rattle.mail_fetch.proofs.Common.{CanRemove}
use Rattle.std.specs.Prelude.{IsSome}
use Rattle.std.proofs.lemmas.List.{append-nil}
use Rattle.disk_model.specs.Disk.{SameButFor, reading}
use Rattle.disk_model.specs.FaultCounts.{ChangeFaultCounted}
use Rattle.disk_model.specs.declared.name.FileName.{FileName}
use Rattle.disk_model.specs.declared.name.FileName.TheVariants as file
use Rattle.disk_model.proofs.BetweenLemmas.{between-map}
use Rattle.mdbox_base.specs.declared.progress.Did.TheVariants as did
use Rattle.mdbox_base.specs.declared.progress.Progress.TheVariants as progress
use Rattle.mdbox_base.specs.declared.replies.Refusal.TheVariants as refusal
use Rattle.mdbox_base.specs.declared.replies.Reply.TheVariants as reply
use Rattle.model_kept.specs.Kept.{MailIsKept}
use Rattle.sis_store.specs.OnDisk.{instance_file}
use Rattle.storage_files.specs.Files.{AreFilesInOrder, IsUsedFile, is_emptied_in, is_taken_in, place_begun_in, with_pins, without_file}
use Rattle.store_core.specs.Keeping.{KeepsFirm}
use Rattle.store_core.proofs.InstanceKeepingLemmas.{kept_same, reads_placed, syncs_placed}
use Rattle.store_core.proofs.KnownInstanceLemmas.{firm_same}
use Rattle.task_claims.specs.Claims.{is_to_remove}
use Rattle.task_claims.specs.Leaving.{HasRegionOctets, HaveSameInstances, LeavesFile, LeavesRecord, MayOnlyGrow, OnlyGrows, OthersTook}
use Rattle.task_claims.proofs.GoneLemmas.{gone_stays}
use Rattle.task_claims.proofs.RestLemmas.{instance_kept, none_placed}
use Rattle.mail_fetch.specs.Removal.{claims_of_removal}
use Rattle.mail_fetch.specs.Task.{event_did}
use Rattle.mail_fetch.specs.declared.task.FetchStage.TheVariants as stage
use Rattle.mail_fetch.proofs.ClaimLemmas.{fall}
use Rattle.mail_fetch.proofs.RemovalLemmas.{fail_steps, removing_steps}
use Rattle.mail_fetch.proofs.RemovalSeenLemmas.{without}
use Rattle.mail_fetch.proofs.StageLemmas.{StepSays}

-- ---- what is left to others

abbrev ButFor : FileName → DiskState → DiskState → Type 0
ButFor name a b = (other : FileName) → other ≢ name → b other ≡ a other

mail_apart : (n : ℕ) (h i : List ℕ) → file.Mail n ≢ file.Inst h i
mail_apart n h i e = cc e

inst_apart : (n : ℕ) (h i : List ℕ) → file.Inst h i ≢ file.Mail n
inst_apart n h i e = cc e

mails_apart : (n m : ℕ) → n ≢ m → file.Mail n ≢ file.Mail m
mails_apart n m apart e = apart (let k : n ≡ m = cc e in k)

itself : (row : MapRecord) → row ≡ record row { count = row.count; file = row.file; offset = row.offset }
itself row = refl

-- ---- a storage file

record_left : {D : Type 0} → (uid : ℕ) (row : MapRecord) (n : ℕ) (old new : StoreValue D) (before after : Option History) → new.map ≡ old.map → SameButFor (file.Mail n) before after → row.file ≢ n → record_at old.map uid ≡ Some row → LeavesRecord uid row new before after
record_left uid row n old new before after map same apart there = record {
  now = row;
  there = ap (λ m. record_at m uid) map ∙ there;
  is_same = itself row;
  region = between-map (ButFor (file.Mail n)) (λ a b. (octets : List ℕ) → HasRegionOctets (files_of a) row octets → HasRegionOctets (files_of b) row octets) before after
      (λ a b s octets h. record { there = h.there; in_file = ap reading (s (file.Mail row.file) (mails_apart row.file n apart)) ∙ h.in_file; inside = h.inside; same = h.same }) same;
  instances = between-map (ButFor (file.Mail n)) (λ a b. HaveSameInstances row.instances (files_of a) (files_of b)) before after (λ a b s. each a b s row.instances) same;
}
  where
    each : (a b : DiskState) → ButFor (file.Mail n) a b → (rows : List InstRow) → HaveSameInstances rows (files_of a) (files_of b)
    each a b s [] = All-nil _
    each a b s (i ∷ rows) = All-cons (λ (x : InstRow). (octets : List ℕ) → files_of a (instance_file x) ≡ Some octets → files_of b (instance_file x) ≡ Some octets) i rows
        (λ octets is. ap reading (s (instance_file i) (inst_apart n i.hash.0 i.id.0)) ∙ is) (each a b s rows)

file_left : {D : Type 0} → (number n : ℕ) (disk : D) (old : StoreValue D) (before after : Option History) → number ≢ n → SameButFor (file.Mail n) before after → LeavesFile number old (without n disk old) before after
file_left number n disk old before after apart same = record {
  known = ap (λ (o : Option MailFile). option_map (with_pins 0) o) (file-without n number old.files.files apart);
  records = refl;
  guids = λ guid of all. all;
  state = between-map (ButFor (file.Mail n)) (λ a b. IsSameOrSynced (a (file.Mail number)) (b (file.Mail number))) before after (λ a b s. inl (s (file.Mail number) (mails_apart number n apart))) same;
}

stays : (n : ℕ) → n ≤ n
stays n = omega arith

file_grows : {D : Type 0} → (number n : ℕ) (disk : D) (old : StoreValue D) (before after : Option History) → number ≢ n → SameButFor (file.Mail n) before after → OnlyGrows number old (without n disk old) before after
file_grows number n disk old before after apart same = record {
  there = λ end is. (end, ap (λ (o : Option MailFile). option_and_then (λ f. f.end) o) (file-without n number old.files.files apart) ∙ is, stays end);
  reads = between-map (ButFor (file.Mail n)) (λ a b. (octets : List ℕ) → reading (a (file.Mail number)) ≡ Some octets → (more : List ℕ) × (reading (b (file.Mail number)) ≡ Some (octets ++ more))) before after
      (λ a b s octets is. ([], ap reading (s (file.Mail number) (mails_apart number n apart)) ∙ (is ∙ ap Some (sym (append-nil octets))))) same;
}

-- A file in which no record lies, and which no other task has taken or pinned.
pub removal_leaves : {D : Type 0} → (mine : Claims) (n : ℕ) (disk : D) (old : StoreValue D) (before after : Option History) → AreElsewhere n old.map.records → (OthersTook mine old n → ⊥) → (MayOnlyGrow mine old n → ⊥) → SameButFor (file.Mail n) before after → KeepsFirm old (without n disk old) before after
    → LeavesOthers mine old (without n disk old) before after
removal_leaves mine n disk old before after elsewhere untaken ungrown same firm =
    let new : StoreValue _ = without n disk old in
    let keeps : KeepsInstances old new before after = kept_same old new before after refl (reads_placed n before after same) firm in
    record {
      records = λ uid row more there. record_left uid row n old new before after refl same (All-contains (λ (r : MapRecord). r.file ≢ n) old.map.records row elsewhere (found_one (λ (r : MapRecord). r.uid == uid) old.map.records row there).0) there;
      unlisted = λ uid row none found listed. (listed, refl);
      files = λ number took. elim (cases_eq number n) [
        | inl is ↦ absurd (untaken (subst (λ (i : ℕ). OthersTook mine old i) is took))
        | inr apart ↦ file_left number n disk old before after apart same
      ];
      grow = λ number may. elim (cases_eq number n) [
        | inl is ↦ absurd (ungrown (subst (λ (i : ℕ). MayOnlyGrow mine old i) is may))
        | inr apart ↦ file_grows number n disk old before after apart same
      ];
      instances = λ row known more. instance_kept row old new before after keeps known;
      unraised = unraised_same old.map old.map refl;
      store = refl;
      numbers = none_placed old.instances;
      mailboxes = stays old.map.highest.mailbox;
      end = stays old.map_log.end;
      names = inl (λ name number is. is);
      gone = gone_stays old new refl refl (stays old.map.highest.mailbox);
      compared = keeps.compared;
      firm = firm;
      uids = λ number uid held k. record { given = k.given; below = k.below; same = k.same };
      room = stays old.map_log.room;
      told = between-map (ButFor (file.Mail n)) (λ a b. Unit {0}) before after (λ a b s. tt) same;
    }

-- ---- a file that is doomed

-- It is known, nobody has taken it, and octets are placed in none of it.
pub record IsDoomedFile (n : ℕ) (files : List MailFile) : Type 0 where
  pub f : MailFile
  pub found : file_in n files ≡ Some f
  pub doomed : f.doomed ≡ true
  pub used : IsUsedFile f

pub doomed_file : (n : ℕ) (files : List MailFile) → All IsUsedFile files → is_doomed_in n files ≡ true → IsDoomedFile n files
doomed_file n files used e = by_case (file_in n files) refl
  where
    by_case : (o : Option MailFile) → file_in n files ≡ o → IsDoomedFile n files
    by_case None is = absurd (let k : false ≡ true = sym (ap (λ (o : Option MailFile). option_map_or (λ f. f.doomed) o false) is) ∙ e in cc k)
    by_case (Some f) is = record {
      f = f;
      found = is;
      doomed = sym (ap (λ (o : Option MailFile). option_map_or (λ f. f.doomed) o false) is) ∙ e;
      used = All-contains IsUsedFile files f used (found_one (λ (g : MailFile). g.file.0 == n) files f is).0;
    }

doomed_untaken : (n : ℕ) (files : List MailFile) (d : IsDoomedFile n files) → (is_taken_in n files ≡ false) × (is_emptied_in n files ≡ false) × (place_begun_in n files ≡ None)
doomed_untaken n files d =
    let free = d.used.doomed d.doomed in (
      ap (λ (o : Option MailFile). option_map_or (λ f. f.taken) o false) d.found ∙ free.1,
      ap (λ (o : Option MailFile). option_map_or (λ f. f.emptied) o false) d.found ∙ free.2,
      ap (λ (o : Option MailFile). option_and_then (λ f. f.begun) o) d.found ∙ unplaced d.f.begun refl free.1,
    )
  where
    unplaced : (o : Option ℕ) → d.f.begun ≡ o → d.f.taken ≡ false → o ≡ None
    unplaced None is free = refl
    unplaced (Some start) is free = absurd (fall d.f.taken (d.used.placing start is).0 free)

-- ---- claims

pub same_in : {Y : Type 0} → (value : Option MailFile → Y) (n file : ℕ) (files : List MailFile) → value None ≡ value (file_in file files) → value (file_in n (without_file file files)) ≡ value (file_in n files)
same_in value n file files same = elim (cases_eq n file) [
  | inl is ↦ subst (λ (i : ℕ). value (file_in i (without_file file files)) ≡ value (file_in i files)) (sym is) (ap value (file-gone file files) ∙ same)
  | inr apart ↦ ap value (file-without file n files apart)
]

-- what all claim, but for the removal of the file
gone_amount : {D : Type 0} → (file : ℕ) (disk : D) (store : StoreValue D) → IsDoomedFile file store.files.files → pins_in file store.files.files ≡ 0 → (thing : Thing) → amount_in thing (without file disk store) + claims_of_removal file thing ≡ amount_in thing store
gone_amount file disk store d none (Due uid) = omega arith
gone_amount file disk store d none (Held id) = omega arith
gone_amount file disk store d none (Made n) = omega arith
gone_amount file disk store d none (Pinned n) =
    let e = same_in (λ (o : Option MailFile). option_map_or (λ f. f.pins) o 0) n file store.files.files (sym none) in omega (arith, e)
gone_amount file disk store d none (Taken n) =
    let e = same_in (λ (o : Option MailFile). one_if (option_map_or (λ f. f.taken) o false)) n file store.files.files (sym (ap one_if (doomed_untaken file store.files.files d).0)) in omega (arith, e)
gone_amount file disk store d none (Emptied n) =
    let e = same_in (λ (o : Option MailFile). one_if (option_map_or (λ f. f.emptied) o false)) n file store.files.files (sym (ap one_if (doomed_untaken file store.files.files d).1)) in omega (arith, e)
gone_amount file disk store d none (PlacingPieces n) =
    let e = same_in (λ (o : Option MailFile). one_if (is_some (option_and_then (λ f. f.begun) o))) n file store.files.files (sym (ap (λ (o : Option ℕ). one_if (is_some o)) (doomed_untaken file store.files.files d).2)) in omega (arith, e)
gone_amount file disk store d none (Removing n) = elim (cases_eq n file) [
  | inl is ↦
      let now : one_if (is_to_remove n (without file disk store)) ≡ 0 = subst (λ (i : ℕ). one_if (is_to_remove i (without file disk store)) ≡ 0) (sym is) (ap (λ (o : Option MailFile). one_if (option_map_or (λ f. f.doomed) o false && (option_map_or (λ f. f.pins) o 0 == 0))) (file-gone file store.files.files)) in
      let own : one_if (file == n) ≡ 1 = ap one_if (eq-eqb file n (sym is)) in
      let was : one_if (is_to_remove n store) ≡ 1 = subst (λ (i : ℕ). one_if (is_to_remove i store) ≡ 1) (sym is) (ap one_if (ap (λ (b : Bool). b && (pins_in file store.files.files == 0)) (ap (λ (o : Option MailFile). option_map_or (λ f. f.doomed) o false) d.found ∙ d.doomed) ∙ eq-eqb (pins_in file store.files.files) 0 none)) in
      omega (arith, now, own, was)
  | inr apart ↦
      let e = ap (λ (o : Option MailFile). one_if (option_map_or (λ f. f.doomed) o false && (option_map_or (λ f. f.pins) o 0 == 0))) (file-without file n store.files.files apart) in
      let own : one_if (file == n) ≡ 0 = ap one_if (ne_eqb file n (λ same. apart (sym same))) in
      omega (arith, e, own)
]

-- a doomed file is there
pub doomed_ends : (n : ℕ) (files : List MailFile) → All IsUsedFile files → is_doomed_in n files ≡ true → (end : ℕ) × (end_in n files ≡ Some end)
doomed_ends n files used e =
    let d = doomed_file n files used e in
    by_end d.f.end refl (ap (λ (o : Option MailFile). option_and_then (λ f. f.end) o) d.found) (d.used.doomed d.doomed).0
  where
    by_end : (o : Option ℕ) {f : Option ℕ} → f ≡ o → end_in n files ≡ f → IsSome f → (end : ℕ) × (end_in n files ≡ Some end)
    by_end None is at some = absurd (let k : false ≡ true = subst IsSome is some in cc k)
    by_end (Some end) is at some = (end, at ∙ is)

-- ---- the event

moves_removal : {D : Type 0} → (file : ℕ) (disk : D) (store : StoreValue D) → IsDoomedFile file store.files.files → pins_in file store.files.files ≡ 0 → MovesClaims (claims_of_removal file) no_claims store (without file disk store)
moves_removal file disk store d none thing = let e = gone_amount file disk store d none thing in omega (arith, e)

own_claim : (file : ℕ) → claims_of_removal file (Removing file) ≡ 1
own_claim file = ap one_if (eq-eqb file file refl)

one_at_most : (b : Bool) → one_if b ≤ 1
one_at_most true = omega arith
one_at_most false = omega arith

untaken : {D : Type 0} → (file : ℕ) (store : StoreValue D) → IsDoomedFile file store.files.files → OthersTook (claims_of_removal file) store file → ⊥
untaken file store d (inl taken) = let none = ap one_if (doomed_untaken file store.files.files d).0 in let l : claims_of_removal file (Taken file) < one_if (is_taken_in file store.files.files) = taken in omega (arith, none, l)
untaken file store d (inr (inl emptied)) = let none = ap one_if (doomed_untaken file store.files.files d).1 in let l : claims_of_removal file (Emptied file) < one_if (is_emptied_in file store.files.files) = emptied in omega (arith, none, l)
untaken file store d (inr (inr removing)) =
    let l : claims_of_removal file (Removing file) < one_if (is_to_remove file store) = removing in let own = own_claim file in let most = one_at_most (is_to_remove file store) in omega (arith, own, l, most)

ungrown : {D : Type 0} → (file : ℕ) (store : StoreValue D) → pins_in file store.files.files ≡ 0 → MayOnlyGrow (claims_of_removal file) store file → ⊥
ungrown file store none (inl pinned) = let l : claims_of_removal file (Pinned file) < pins_in file store.files.files = pinned in omega (arith, l, none)
ungrown file store none (inr there) = let z = there.2 in let own = own_claim file in omega (arith, own, z)

-- The file is removed, and the reply given.
pub removing_says : {D : Type 0} → (H : D → Option History) (F : D → Faults) (name : List ℕ) (uid : Uid) (n : FileNo) (given : Reply) (old new : StoreValue D) → old.stopped ≡ false → CanRemove n.0 old → AreFilesInOrder old.files → old.files.highest ≡ old.drawn.file
    → ((lists : Lists) → IsSettledFor lists (H old.disk) → Leaves lists lists (H old.disk) (H new.disk)) → MailIsKept old.map (H old.disk) (H new.disk) → ((lists : Lists) → IsSettledFor lists (H old.disk) → IsSettledFor lists (H new.disk)) → IfTold (H new.disk) (λ now. reading (now (file.Mail n.0)) ≡ None)
    → SameButFor (file.Mail n.0) (H old.disk) (H new.disk) → new ≡ without n.0 new.disk old → Grows (H old.disk) (H new.disk) → (Failed : Type 0) → ChangeFaultCounted Failed (F old.disk) (F new.disk) → NoFault (F old.disk) (F new.disk)
    → StepSays H F name uid (stage.Removing n given) stage.First old new did.Quiet (progress.Done given)
removing_says {D = D} H F name uid n given old new runs can order drawn moments mail rests gone others is grows Failed fault quiet = record {
  does = λ around after. subst (λ (s : StoreValue D). FetchSteps around after name uid (stage.Removing n given) stage.First old s (H old.disk) (H new.disk) (F old.disk) (F new.disk) did.Quiet (Some given)) (sym is)
      (removing_steps around after name uid n given new.disk old (H old.disk) (H new.disk) (F old.disk) (F new.disk) runs can below (record { moments = moments; rests = rests; grows = grows; mail = mail; quiet = quiet }));
  claims = λ r. record {
    moves = subst (λ (s : StoreValue D). MovesClaims (claims_of_removal n.0) no_claims old s) (sym is) (moves_removal n.0 new.disk old d can.unpinned);
    leaves = subst (λ (s : StoreValue D). LeavesOthers (claims_of_removal n.0) old s (H old.disk) (H new.disk)) (sym is)
        (removal_leaves (claims_of_removal n.0) n.0 new.disk old (H old.disk) (H new.disk) can.elsewhere (untaken n.0 old d) (ungrown n.0 old can.unpinned) others (firm_same old (without n.0 new.disk old) (H old.disk) (H new.disk) refl refl (syncs_placed n.0 (H old.disk) (H new.disk) others)));
    ended = λ answer e thing. refl;
  };
  alone = record {
    replies = (λ stopped. absurd (fall old.stopped stopped runs), λ r. inl (refl, refl));
    did_is = refl;
    same = is;
    disk = (
      λ stopped. absurd (fall old.stopped stopped runs),
      λ r. record {
        grows = grows;
        mail = mail;
        gone = λ still. gone;
        others = λ still. others;
        fault = record { reads = fault.reads; changes = fault.changes; rose = λ stopped. absurd (fall new.stopped stopped (ap (λ (s : StoreValue D). s.stopped) is ∙ runs)) };
        unfailed = λ still. quiet;
      },
    );
    ready = λ r. tt;
  };
}
  where
    d : IsDoomedFile n.0 old.files.files
    d = doomed_file n.0 old.files.files order.used can.doomed

    below : n.0 ≤ old.drawn.file
    below =
        let there = found_one (λ (g : MailFile). g.file.0 == n.0) old.files.files d.f d.found in
        let l = All-contains (λ (f : MailFile). f.file.0 ≤ old.files.highest) old.files.files d.f order.below there.0 in
        let e = eqb-true d.f.file.0 n.0 there.1 in
        omega (arith, l, e, drawn)

-- A change of the disk failed: the store is stopped, and the task stays where it was.
pub failed_says : {D : Type 0} → (H : D → Option History) (F : D → Faults) (name : List ℕ) (uid : Uid) (file : FileNo) (given : Reply) (old new : StoreValue D) → old.stopped ≡ false → ((lists : Lists) → IsSettledFor lists (H old.disk) → Leaves lists lists (H old.disk) (H new.disk)) → MailIsKept old.map (H old.disk) (H new.disk)
    → new ≡ record old { disk = new.disk; stopped = true } → Grows (H old.disk) (H new.disk) → (Failed : Type 0) → Failed → ChangeFaultCounted Failed (F old.disk) (F new.disk)
    → StepSays H F name uid (stage.Removing file given) (stage.Removing file given) old new did.Failed (progress.Done (reply.Refused refusal.Stopped))
failed_says {D = D} H F name uid n given old new runs moments mail is grows Failed failed fault = record {
  does = λ around after. subst (λ (s : StoreValue D). FetchSteps around after name uid (stage.Removing n given) (stage.Removing n given) old s (H old.disk) (H new.disk) (F old.disk) (F new.disk) did.Failed (Some (reply.Refused refusal.Stopped))) (sym is)
      (fail_steps around after name uid n given new.disk old (H old.disk) (H new.disk) (F old.disk) (F new.disk) runs (record { moments = moments; grows = grows; mail = mail; reads = let e = fault.reads in omega (arith, e); changes = fault.changes; rose = fault.rose failed }));
  claims = λ r. absurd (fall new.stopped halted r);
  alone = record {
    replies = (λ stopped. absurd (fall old.stopped stopped runs), λ r. inr (fault.rose failed, refl, refl));
    did_is = ap (λ (s : Bool). event_did (stage.Removing n given) (stage.Removing n given) (progress.Done (reply.Refused refusal.Stopped)) s) (sym runs);
    same = is;
    disk = (
      λ stopped. absurd (fall old.stopped stopped runs),
      λ r. record {
        grows = grows;
        mail = mail;
        gone = λ still. absurd (fall new.stopped halted still);
        others = λ still. absurd (fall new.stopped halted still);
        fault = record { reads = fault.reads; changes = fault.changes; rose = λ stopped. fault.rose failed };
        unfailed = λ still. absurd (fall new.stopped halted still);
      },
    );
    ready = λ r. absurd (fall new.stopped halted r);
  };
}
  where
    halted : new.stopped ≡ true
    halted = ap (λ (s : StoreValue D). s.stopped) is
