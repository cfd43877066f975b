-- What a purge says that removes a file in which no message lies.
use Rattle.purge_task.proofs.Common.{◌≡◌, ◌≤◌, ◌<◌, ◌+◌, ◌==◌, ◌&&◌, ℕ, zero, suc, Bool, true, false, cond, List, [], ◌∷◌, length, Option, Some, None, refl, sym, ◌∙◌, ap, subst, arith, inl, inr, All, IsSome, is_some, list_any, option_and_then, option_map_or, cases_eq, eq-eqb, eqb-true, ne_eqb}
use Rattle.purge_task.proofs.Common.{All-contains, All-head, All-tail, sum_by-cons, Faults, Grows, History, SameButFor, NoFault, FileNo, MailIsKept, Lists, MapRecord, found_one, IsSettledFor, Leaves, AreFilesInOrder, IsUsedFile, end_in, file_in, is_doomed_in, is_emptied_in, is_taken_in, pins_in}
use Rattle.purge_task.proofs.Common.{place_begun_in, MailFile, file-gone, file-without, AreElsewhere, StoreValue, firm_same, Due, Emptied, Held, Made, MovesClaims, Pinned, PlacingPieces, Removing, Taken, Thing, amount_in, is_to_remove, one_if, LeavesOthers, MayOnlyGrow, OthersTook}
use Rattle.purge_task.proofs.Common.{claims_of_sources, purge_claims, sources_left, IsPurgeStep, PurgeSteps, AreSourcesApart, HasPurged, IsBeginningFirst, IsToBegin, PurgeValue, IsNextStage, went_on, PurgeStage, Source, Work, fall, IsStore}
use Rattle.std.proofs.Common.{◌⊎◌}
use Rattle.disk_model.specs.declared.name.FileName.TheVariants as file
use Rattle.mdbox_base.specs.declared.progress.Did.TheVariants as did
use Rattle.mdbox_base.specs.declared.progress.Progress.TheVariants as progress
use Rattle.mdbox_base.specs.declared.replies.Refusal.TheVariants as refusal
use Rattle.mdbox_base.specs.declared.replies.Reply.TheVariants as reply
use Rattle.store_core.specs.Files.{ArePinsOfRecords}
use Rattle.store_core.proofs.InstanceKeepingLemmas.{syncs_placed}
use Rattle.purge_task.specs.Keeping.{IsBareFirst}
use Rattle.purge_task.specs.declared.task.PurgeStage.TheVariants as stage
use Rattle.purge_task.proofs.BareLemmas.{bare_steps}
use Rattle.purge_task.proofs.LeavingLemmas.{removal_leaves}
use Rattle.purge_task.proofs.RemovalCallLemmas.{next_claims, ready_next, same_in}
use Rattle.purge_task.proofs.RemovalLemmas.{none_in}
use Rattle.purge_task.proofs.RemovalSeenLemmas.{without}
use Rattle.purge_task.proofs.SameRegionLemmas.{regions_but}

-- ---- a file that is taken to be emptied

-- It is known, and nobody adds to it or has doomed it.
pub record IsEmptiedFile (n : ℕ) (files : List MailFile) : Type 0 where
  pub f : MailFile
  pub found : file_in n files ≡ Some f
  pub emptied : f.emptied ≡ true
  pub used : IsUsedFile f
  pub undoomed : f.doomed ≡ false

pub emptied_file : (n : ℕ) (files : List MailFile) → All IsUsedFile files → is_emptied_in n files ≡ true → IsEmptiedFile n files
emptied_file n files used e = by_case (file_in n files) refl
  where
    by_case : (o : Option MailFile) → file_in n files ≡ o → IsEmptiedFile n files
    by_case None is = absurd (let k : false ≡ true = sym (ap (λ (o : Option MailFile). option_map_or (λ f. f.emptied) o false) is) ∙ e in cc k)
    by_case (Some f) is = record { f = f; found = is; emptied = emptied; used = all; undoomed = by_doomed f.doomed refl }
      where
        emptied : f.emptied ≡ true
        emptied = sym (ap (λ (o : Option MailFile). option_map_or (λ f. f.emptied) o false) is) ∙ e

        all : IsUsedFile f
        all = All-contains IsUsedFile files f used (found_one (λ (g : MailFile). g.file.0 == n) files f is).0

        by_doomed : (b : Bool) → f.doomed ≡ b → b ≡ false
        by_doomed false is = refl
        by_doomed true is = absurd (fall f.emptied emptied (all.doomed is).2)

pub emptied_ends : (n : ℕ) (files : List MailFile) → IsEmptiedFile n files → (end : ℕ) × (end_in n files ≡ Some end)
emptied_ends n files d = by_end d.f.end refl (d.used.emptied d.emptied).0
  where
    by_end : (o : Option ℕ) → d.f.end ≡ o → IsSome d.f.end → (end : ℕ) × (end_in n files ≡ Some end)
    by_end None is some = absurd (let k : false ≡ true = subst IsSome is some in cc k)
    by_end (Some end) is some = (end, ap (λ (o : Option MailFile). option_and_then (λ f. f.end) o) d.found ∙ is)

pub untaken_in : (n : ℕ) (files : List MailFile) → IsEmptiedFile n files → is_taken_in n files ≡ false
untaken_in n files d = ap (λ (o : Option MailFile). option_map_or (λ f. f.taken) o false) d.found ∙ (d.used.emptied d.emptied).1

pub undoomed_in : (n : ℕ) (files : List MailFile) → IsEmptiedFile n files → is_doomed_in n files ≡ false
undoomed_in n files d = ap (λ (o : Option MailFile). option_map_or (λ f. f.doomed) o false) d.found ∙ d.undoomed

pub unplaced_in : (n : ℕ) (files : List MailFile) → IsEmptiedFile n files → place_begun_in n files ≡ None
unplaced_in n files d = ap (λ (o : Option MailFile). option_and_then (λ f. f.begun) o) d.found ∙ by_begun d.f.begun refl
  where
    by_begun : (o : Option ℕ) → d.f.begun ≡ o → o ≡ None
    by_begun None is = refl
    by_begun (Some start) is = absurd (fall d.f.taken (d.used.placing start is).0 (d.used.emptied d.emptied).1)

-- one in which no record lies has no pin
pub bare_unpinned : (n : ℕ) (files : List MailFile) (rows : List MapRecord) → IsEmptiedFile n files → ArePinsOfRecords files rows → AreElsewhere n rows → pins_in n files ≡ 0
bare_unpinned n files rows d pins elsewhere = ap (λ (o : Option MailFile). option_map_or (λ f. f.pins) o 0) d.found ∙ by_pins d.f.pins refl
  where
    held : 1 ≤ d.f.pins → ⊥
    held some = by_case (pins n d.f d.found some)
      where
        by_case : (d.f.doomed ≡ true) ⊎ (list_any (λ row. row.file == n) rows ≡ true) → ⊥
        by_case (inl doomed) = fall d.f.doomed doomed d.undoomed
        by_case (inr here) = fall (list_any (λ row. row.file == n) rows) here (none_in n rows elsewhere)

    by_pins : (p : ℕ) → d.f.pins ≡ p → p ≡ 0
    by_pins zero is = refl
    by_pins (suc p) is = absurd (held (omega (arith, is)))

-- ---- claims

-- what all claim, but for the emptying of the file
bare_amount : {D : Type 0} → (source : Source) (left : List Source) (disk : D) (store : StoreValue D) → IsEmptiedFile source.file.0 store.files.files → source.target ≡ None → pins_in source.file.0 store.files.files ≡ 0 → (thing : Thing)
    → amount_in thing (without source.file.0 disk store) + claims_of_sources (source ∷ left) thing ≡ amount_in thing store + claims_of_sources left thing
bare_amount source left disk store d bare none (Due uid) = omega arith
bare_amount source left disk store d bare none (Held id) = omega arith
bare_amount source left disk store d bare none (Made n) = omega arith
bare_amount source left disk store d bare none (Pinned n) =
    let e = same_in (λ (o : Option MailFile). option_map_or (λ f. f.pins) o 0) n source.file.0 store.files.files (sym none) in omega (arith, e)
bare_amount source left disk store d bare none (Taken n) =
    let e = same_in (λ (o : Option MailFile). one_if (option_map_or (λ f. f.taken) o false)) n source.file.0 store.files.files (sym (ap one_if (untaken_in source.file.0 store.files.files d))) in
    let k = sum_by-cons (λ (s : Source). cond (option_map_or (λ (t : FileNo). t.0 == n) s.target false) 1 0) source left in
    let z : ◌≡◌ {A = ℕ} (cond (option_map_or (λ (t : FileNo). t.0 == n) source.target false) 1 0) 0 = ap (λ (o : Option FileNo). cond (option_map_or (λ (t : FileNo). t.0 == n) o false) 1 0) bare in
    omega (arith, e, k, z)
bare_amount source left disk store d bare none (PlacingPieces n) =
    let e = same_in (λ (o : Option MailFile). one_if (is_some (option_and_then (λ f. f.begun) o))) n source.file.0 store.files.files (sym (ap (λ (o : Option ℕ). one_if (is_some o)) (unplaced_in source.file.0 store.files.files d))) in omega (arith, e)
bare_amount source left disk store d bare none (Removing n) =
    let e = same_in (λ (o : Option MailFile). one_if (option_map_or (λ f. f.doomed) o false && (option_map_or (λ f. f.pins) o 0 == 0))) n source.file.0 store.files.files
    (sym (ap (λ (b : Bool). one_if (b && (pins_in source.file.0 store.files.files == 0))) (undoomed_in source.file.0 store.files.files d))) in omega (arith, e)
bare_amount source left disk store d bare none (Emptied n) =
    let k = sum_by-cons (λ (s : Source). cond (s.file.0 == n) 1 0) source left in
    elim (cases_eq n source.file.0) [
      | inl is ↦
          let now : one_if (is_emptied_in n (without source.file.0 disk store).files.files) ≡ 0 = subst (λ (i : ℕ). one_if (is_emptied_in i (without source.file.0 disk store).files.files) ≡ 0) (sym is) (ap (λ (o : Option MailFile). one_if (option_map_or (λ f. f.emptied) o false)) (file-gone source.file.0 store.files.files)) in
          let own : ◌≡◌ {A = ℕ} (cond (source.file.0 == n) 1 0) 1 = ap (λ (b : Bool). cond b 1 0) (eq-eqb source.file.0 n (sym is)) in
          let was : one_if (is_emptied_in n store.files.files) ≡ 1 = subst (λ (i : ℕ). one_if (is_emptied_in i store.files.files) ≡ 1) (sym is) (ap one_if (ap (λ (o : Option MailFile). option_map_or (λ f. f.emptied) o false) d.found ∙ d.emptied)) in
          omega (arith, k, now, own, was)
      | inr apart ↦
          let e = ap (λ (o : Option MailFile). one_if (option_map_or (λ f. f.emptied) o false)) (file-without source.file.0 n store.files.files apart) in
          let own : ◌≡◌ {A = ℕ} (cond (source.file.0 == n) 1 0) 0 = ap (λ (b : Bool). cond b 1 0) (ne_eqb source.file.0 n (λ same. apart (sym same))) in
          omega (arith, k, e, own)
    ]

begin_claims : (work : Work) (source : Source) (left : List Source) (thing : Thing) → sources_left work ≡ source ∷ left → purge_claims (stage.Begin work) thing ≡ claims_of_sources (source ∷ left) thing
begin_claims work source left thing is = ap (λ (l : List Source). claims_of_sources l thing) is

moves_bare : {D : Type 0} → (work : Work) (source : Source) (left : List Source) (next : PurgeStage) (disk : D) (store : StoreValue D) → sources_left work ≡ source ∷ left → IsNextStage (went_on work) next → IsEmptiedFile source.file.0 store.files.files → source.target ≡ None → pins_in source.file.0 store.files.files ≡ 0
    → MovesClaims (purge_claims (stage.Begin work)) (purge_claims next) store (without source.file.0 disk store)
moves_bare work source left next disk store is to d bare none thing =
    let a = bare_amount source left disk store d bare none thing in
    let b = next_claims work source left next thing is to in
    let c = begin_claims work source left thing is in
    omega (arith, a, b, c)

-- ---- the call

-- the present file of those that are left
pub record IsBareOne {D : Type 0} (work : Work) (source : Source) (left : List Source) (store : StoreValue D) : Type 0 where
  pub left_are : sources_left work ≡ source ∷ left
  pub block : length work.block.items ≡ 65536
  pub apart : AreSourcesApart (source ∷ left)
  pub emptied : is_emptied_in source.file.0 store.files.files ≡ true
  pub bare : source.target ≡ None
  pub elsewhere : AreElsewhere source.file.0 store.map.records
  pub each : All (IsToBegin work store) left

pub bare_one : {D : Type 0} → (work : Work) (source : Source) (left : List Source) (store : StoreValue D) (history : Option History) → sources_left work ≡ source ∷ left → HasPurged (stage.Begin work) store history → IsBareFirst (sources_left work) store.map → IsBareOne work source left store
bare_one work source left store history is h bare =
    let first : IsBeginningFirst (source ∷ left) work store = subst (λ (l : List Source). IsBeginningFirst l work store) is h.2 in
    let b : IsBareFirst (source ∷ left) store.map = subst (λ (l : List Source). IsBareFirst l store.map) is bare in
    record {
      left_are = is;
      block = h.0;
      apart = subst AreSourcesApart is h.1;
      emptied = (All-head (IsToBegin work store) source left first.1).emptied;
      bare = b.0;
      elsewhere = b.1;
      each = All-tail (IsToBegin work store) source left first.1;
    }

pub bare_says : {D : Type 0} → (H : D → Option History) (F : D → Faults) (t next : PurgeValue) (work : Work) (source : Source) (left : List Source) (old new : StoreValue D) → t.stage ≡ stage.Begin work → IsNextStage (went_on work) next.stage → next.did ≡ did.Quiet → next.dropped ≡ t.dropped → next.files ≡ t.files + 1 → next.instances ≡ t.instances
    → old.stopped ≡ false → IsBareOne work source left old → AreFilesInOrder old.files → old.files.highest ≡ old.drawn.file → ArePinsOfRecords old.files.files old.map.records → ((lists : Lists) → IsSettledFor lists (H old.disk) → Leaves lists lists (H old.disk) (H new.disk)) → MailIsKept old.map (H old.disk) (H new.disk)
    → ((lists : Lists) → IsSettledFor lists (H old.disk) → IsSettledFor lists (H new.disk)) → SameButFor (file.Mail source.file.0) (H old.disk) (H new.disk) → new ≡ without source.file.0 new.disk old → Grows (H old.disk) (H new.disk) → NoFault (F old.disk) (F new.disk) → IsStore (H old.disk) old
    → IsPurgeStep t next progress.More old new (H old.disk) (H new.disk) (F old.disk) (F new.disk)
bare_says {D = D} H F t next work source left old new at to how dropped files instances runs one order drawn pins moments mail rests others is grows quiet store = record {
  ready = λ more r. subst (λ (s : StoreValue D). HasPurged next.stage s (H new.disk)) (sym is) (ready_next work source left next.stage new.disk old (H new.disk) one.left_are to one.block one.apart one.each);
  does = (
    [],
    λ around. subst (λ (s : StoreValue D). PurgeSteps [] around t next old s (H old.disk) (H new.disk) (F old.disk) (F new.disk) None) (sym is)
        (bare_steps around t next work source left new.disk old (H old.disk) (H new.disk) (F old.disk) (F new.disk) at one.left_are one.bare one.apart to how dropped files instances runs unpinned below one.elsewhere (record { moments = moments; rests = rests; grows = grows; mail = mail; quiet = quiet })),
  );
  first = λ begins. absurd (let e : stage.Begin work ≡ stage.First = sym at ∙ begins in cc e);
  refused = λ why e read stop. absurd (let k : progress.More ≡ progress.Done (reply.Refused why) = e in cc k);
  stopped = record { 0 = λ e. absurd (let k : progress.More ≡ progress.Done (reply.Refused refusal.Stopped) = e in cc k); 1 = λ e. absurd (fall old.stopped (ap (λ (s : StoreValue D). s.stopped) (sym is) ∙ e) runs) };
  regions = λ r. regions_but source.file.0 old new.map (H old.disk) (H new.disk) store runs (ap (λ (s : StoreValue D). s.map) is) one.elsewhere others;
  claims = λ r. record {
    moves = subst (λ (s : StoreValue D). MovesClaims (purge_claims t.stage) (purge_claims next.stage) old s) (sym is) (subst (λ (s : PurgeStage). MovesClaims (purge_claims s) (purge_claims next.stage) old (without source.file.0 new.disk old)) (sym at) (moves_bare work source left next.stage new.disk old one.left_are to d one.bare unpinned));
    leaves = subst (λ (s : StoreValue D). LeavesOthers (purge_claims t.stage) old s (H old.disk) (H new.disk)) (sym is) (subst (λ (s : PurgeStage). LeavesOthers (purge_claims s) old (without source.file.0 new.disk old) (H old.disk) (H new.disk)) (sym at)
        (removal_leaves (purge_claims (stage.Begin work)) source.file.0 new.disk old (H old.disk) (H new.disk) one.elsewhere untaken ungrown others (firm_same old (without source.file.0 new.disk old) (H old.disk) (H new.disk) refl refl (syncs_placed source.file.0 (H old.disk) (H new.disk) others))));
    ended = λ given e. absurd (let k : progress.More ≡ progress.Done given = e in cc k);
  };
  grows = grows;
  mail = mail;
  reads = let e = ap (λ (f : Faults). f.reads) quiet in omega (arith, e);
  changes = let e = ap (λ (f : Faults). f.changes) quiet in omega (arith, e);
  calm = λ told. ap (λ (f : Faults). f.reads) quiet;
  unfailed = λ r. ap (λ (f : Faults). f.changes) quiet;
  fell = λ was e. absurd (fall old.stopped (ap (λ (s : StoreValue D). s.stopped) (sym is) ∙ e) runs);
}
  where
    d : IsEmptiedFile source.file.0 old.files.files
    d = emptied_file source.file.0 old.files.files order.used one.emptied

    unpinned : pins_in source.file.0 old.files.files ≡ 0
    unpinned = bare_unpinned source.file.0 old.files.files old.map.records d pins one.elsewhere

    below : source.file.0 ≤ old.drawn.file
    below =
        let there = found_one (λ (g : MailFile). g.file.0 == source.file.0) old.files.files d.f d.found in
        let l = All-contains (λ (f : MailFile). f.file.0 ≤ old.files.highest) old.files.files d.f order.below there.0 in
        let e = eqb-true d.f.file.0 source.file.0 there.1 in
        omega (arith, l, e, drawn)

    own : 1 ≤ purge_claims (stage.Begin work) (Emptied source.file.0)
    own =
        let c = begin_claims work source left (Emptied source.file.0) one.left_are in
        let s = sum_by-cons (λ (s : Source). cond (s.file.0 == source.file.0) 1 0) source left in
        let k : ◌≡◌ {A = ℕ} (cond (source.file.0 == source.file.0) 1 0) 1 = ap (λ (b : Bool). cond b 1 0) (eq-eqb source.file.0 source.file.0 refl) in
        omega (arith, c, s, k)

    untaken : OthersTook (purge_claims (stage.Begin work)) old source.file.0 → ⊥
    untaken (inl taken) = let none = ap one_if (untaken_in source.file.0 old.files.files d) in let l : purge_claims (stage.Begin work) (Taken source.file.0) < one_if (is_taken_in source.file.0 old.files.files) = taken in omega (arith, none, l)
    untaken (inr (inl emptied)) = let some = ap one_if one.emptied in let l : purge_claims (stage.Begin work) (Emptied source.file.0) < one_if (is_emptied_in source.file.0 old.files.files) = emptied in omega (arith, own, some, l)
    untaken (inr (inr removing)) =
        let none = ap (λ (b : Bool). one_if (b && (pins_in source.file.0 old.files.files == 0))) (undoomed_in source.file.0 old.files.files d) in
        let l : purge_claims (stage.Begin work) (Removing source.file.0) < one_if (is_to_remove source.file.0 old) = removing in omega (arith, none, l)

    ungrown : MayOnlyGrow (purge_claims (stage.Begin work)) old source.file.0 → ⊥
    ungrown (inl pinned) = let l : purge_claims (stage.Begin work) (Pinned source.file.0) < pins_in source.file.0 old.files.files = pinned in omega (arith, l, unpinned)
    ungrown (inr there) = let z = there.1 in omega (arith, own, z)
