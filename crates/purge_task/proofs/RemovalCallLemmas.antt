-- What a purge says that removes a file which it has switched.
use Rattle.purge_task.proofs.Common.{◌≡◌, ◌≢◌, ◌≤◌, ◌<◌, ◌+◌, ◌==◌, ◌&&◌, ℕ, Bool, true, false, List, [], ◌∷◌, length, Option, Some, None, refl, sym, ◌∙◌, ap, subst, arith, inl, inr, All, IsSome, is_some, IfSome, option_and_then, option_map_or, cases_eq, eq-eqb, eqb-true, ne_eqb, All-cons}
use Rattle.purge_task.proofs.Common.{All-contains, All-head, All-nil, All-tail, Faults, Grows, History, SameButFor, NoFault, FileNo, MailIsKept, Lists, pairs_head, pairs_tail, found_one, IsSettledFor, Leaves, AreFilesInOrder, IsUsedFile, end_in, file_in, is_doomed_in, is_emptied_in, is_taken_in}
use Rattle.purge_task.proofs.Common.{pins_in, place_begun_in, without_file, MailFile, file-gone, file-without, AreElsewhere, StoreValue, firm_same, Due, Emptied, Held, Made, MovesClaims, Pinned, PlacingPieces, Removing, Taken, Thing, amount_in, is_to_remove, one_if, LeavesOthers, MayOnlyGrow}
use Rattle.purge_task.proofs.Common.{OthersTook, claims_of_sources, claims_of_switched, purge_claims, sources_left, IsPurgeStep, PurgeSteps, AreSourcesApart, HasPurged, IsBeginningFirst, IsRemovingFirst, IsTargetToMake, IsToBegin, PurgeValue, IsNextStage, went_on, PurgeStage, Source, Work, fall}
use Rattle.purge_task.proofs.Common.{IsStore}
use Rattle.std.specs.Prelude.{drop}
use Rattle.disk_model.specs.declared.name.FileName.TheVariants as file
use Rattle.mdbox_base.specs.declared.progress.Did.TheVariants as did
use Rattle.mdbox_base.specs.declared.progress.Progress.TheVariants as progress
use Rattle.mdbox_base.specs.declared.replies.Refusal.TheVariants as refusal
use Rattle.mdbox_base.specs.declared.replies.Reply.TheVariants as reply
use Rattle.store_core.proofs.InstanceKeepingLemmas.{syncs_placed}
use Rattle.purge_task.specs.declared.task.PurgeStage.TheVariants as stage
use Rattle.purge_task.proofs.LeavingLemmas.{removal_leaves}
use Rattle.purge_task.proofs.RemovalLemmas.{removing_steps}
use Rattle.purge_task.proofs.RemovalSeenLemmas.{without}
use Rattle.purge_task.proofs.StageLemmas.{left_on}
use Rattle.purge_task.proofs.SameRegionLemmas.{regions_but}

-- ---- a file that is doomed

-- It is known, nobody has taken it, and octets are placed in none of it.
pub record IsDoomedFile (n : ℕ) (files : List MailFile) : Type 0 where
  pub f : MailFile
  pub found : file_in n files ≡ Some f
  pub doomed : f.doomed ≡ true
  pub used : IsUsedFile f

pub doomed_file : (n : ℕ) (files : List MailFile) → All IsUsedFile files → is_doomed_in n files ≡ true → IsDoomedFile n files
doomed_file n files used e = by_case (file_in n files) refl
  where
    by_case : (o : Option MailFile) → file_in n files ≡ o → IsDoomedFile n files
    by_case None is = absurd (let k : false ≡ true = sym (ap (λ (o : Option MailFile). option_map_or (λ f. f.doomed) o false) is) ∙ e in cc k)
    by_case (Some f) is = record {
      f = f;
      found = is;
      doomed = sym (ap (λ (o : Option MailFile). option_map_or (λ f. f.doomed) o false) is) ∙ e;
      used = All-contains IsUsedFile files f used (found_one (λ (g : MailFile). g.file.0 == n) files f is).0;
    }

doomed_untaken : (n : ℕ) (files : List MailFile) (d : IsDoomedFile n files) → (is_taken_in n files ≡ false) × (is_emptied_in n files ≡ false) × (place_begun_in n files ≡ None)
doomed_untaken n files d =
    let free = d.used.doomed d.doomed in (
      ap (λ (o : Option MailFile). option_map_or (λ f. f.taken) o false) d.found ∙ free.1,
      ap (λ (o : Option MailFile). option_map_or (λ f. f.emptied) o false) d.found ∙ free.2,
      ap (λ (o : Option MailFile). option_and_then (λ f. f.begun) o) d.found ∙ unplaced d.f.begun refl free.1,
    )
  where
    unplaced : (o : Option ℕ) → d.f.begun ≡ o → d.f.taken ≡ false → o ≡ None
    unplaced None is free = refl
    unplaced (Some start) is free = absurd (fall d.f.taken (d.used.placing start is).0 free)

-- ---- claims

pub same_in : {Y : Type 0} → (value : Option MailFile → Y) (n file : ℕ) (files : List MailFile) → value None ≡ value (file_in file files) → value (file_in n (without_file file files)) ≡ value (file_in n files)
same_in value n file files same = elim (cases_eq n file) [
  | inl is ↦ subst (λ (i : ℕ). value (file_in i (without_file file files)) ≡ value (file_in i files)) (sym is) (ap value (file-gone file files) ∙ same)
  | inr apart ↦ ap value (file-without file n files apart)
]

-- what all claim, but for the removal of the file
gone_amount : {D : Type 0} → (source : Source) (left : List Source) (disk : D) (store : StoreValue D) → IsDoomedFile source.file.0 store.files.files → pins_in source.file.0 store.files.files ≡ 0 → (thing : Thing)
    → amount_in thing (without source.file.0 disk store) + claims_of_switched (source ∷ left) thing ≡ amount_in thing store
gone_amount source left disk store d none (Due uid) = omega arith
gone_amount source left disk store d none (Held id) = omega arith
gone_amount source left disk store d none (Made n) = omega arith
gone_amount source left disk store d none (Pinned n) =
    let e = same_in (λ (o : Option MailFile). option_map_or (λ f. f.pins) o 0) n source.file.0 store.files.files (sym none) in omega (arith, e)
gone_amount source left disk store d none (Taken n) =
    let e = same_in (λ (o : Option MailFile). one_if (option_map_or (λ f. f.taken) o false)) n source.file.0 store.files.files (sym (ap one_if (doomed_untaken source.file.0 store.files.files d).0)) in omega (arith, e)
gone_amount source left disk store d none (Emptied n) =
    let e = same_in (λ (o : Option MailFile). one_if (option_map_or (λ f. f.emptied) o false)) n source.file.0 store.files.files (sym (ap one_if (doomed_untaken source.file.0 store.files.files d).1)) in omega (arith, e)
gone_amount source left disk store d none (PlacingPieces n) =
    let e = same_in (λ (o : Option MailFile). one_if (is_some (option_and_then (λ f. f.begun) o))) n source.file.0 store.files.files (sym (ap (λ (o : Option ℕ). one_if (is_some o)) (doomed_untaken source.file.0 store.files.files d).2)) in omega (arith, e)
gone_amount source left disk store d none (Removing n) = elim (cases_eq n source.file.0) [
  | inl is ↦
      let now : one_if (is_to_remove n (without source.file.0 disk store)) ≡ 0 = subst (λ (i : ℕ). one_if (is_to_remove i (without source.file.0 disk store)) ≡ 0) (sym is) (ap (λ (o : Option MailFile). one_if (option_map_or (λ f. f.doomed) o false && (option_map_or (λ f. f.pins) o 0 == 0))) (file-gone source.file.0 store.files.files)) in
      let own : one_if (source.file.0 == n) ≡ 1 = ap one_if (eq-eqb source.file.0 n (sym is)) in
      let was : one_if (is_to_remove n store) ≡ 1 = subst (λ (i : ℕ). one_if (is_to_remove i store) ≡ 1) (sym is) (ap one_if (ap (λ (b : Bool). b && (pins_in source.file.0 store.files.files == 0)) (ap (λ (o : Option MailFile). option_map_or (λ f. f.doomed) o false) d.found ∙ d.doomed) ∙ eq-eqb (pins_in source.file.0 store.files.files) 0 none)) in
      omega (arith, now, own, was)
  | inr apart ↦
      let e = ap (λ (o : Option MailFile). one_if (option_map_or (λ f. f.doomed) o false && (option_map_or (λ f. f.pins) o 0 == 0))) (file-without source.file.0 n store.files.files apart) in
      let own : one_if (source.file.0 == n) ≡ 0 = ap one_if (ne_eqb source.file.0 n (λ same. apart (sym same))) in
      omega (arith, e, own)
]

pub no_source : (thing : Thing) → claims_of_sources [] thing ≡ 0
no_source (Due uid) = refl
no_source (Held id) = refl
no_source (Made n) = refl
no_source (Pinned n) = refl
no_source (Taken n) = refl
no_source (Emptied n) = refl
no_source (PlacingPieces n) = refl
no_source (Removing n) = refl

-- the next stage claims the files that are left
pub next_claims : (work : Work) (source : Source) (left : List Source) (next : PurgeStage) (thing : Thing) → sources_left work ≡ source ∷ left → IsNextStage (went_on work) next → purge_claims next thing ≡ claims_of_sources left thing
next_claims work source left next thing is (inl none) =
    let empty : left ≡ [] = sym (left_on work source left is) ∙ none.0 in
    ap (λ (s : PurgeStage). purge_claims s thing) none.1 ∙ (sym (no_source thing) ∙ ap (λ (l : List Source). claims_of_sources l thing) (sym empty))
next_claims work source left next thing is (inr some) = ap (λ (s : PurgeStage). purge_claims s thing) some.1 ∙ ap (λ (l : List Source). claims_of_sources l thing) (left_on work source left is)

switched_claims : (work : Work) (source : Source) (left : List Source) (thing : Thing) → sources_left work ≡ source ∷ left → purge_claims (stage.Removing work) thing ≡ claims_of_sources left thing + claims_of_switched (source ∷ left) thing
switched_claims work source left thing is = ap (λ (l : List Source). claims_of_sources (drop 1 l) thing + claims_of_switched l thing) is

moves_removal : {D : Type 0} → (work : Work) (source : Source) (left : List Source) (next : PurgeStage) (disk : D) (store : StoreValue D) → sources_left work ≡ source ∷ left → IsNextStage (went_on work) next → IsDoomedFile source.file.0 store.files.files → pins_in source.file.0 store.files.files ≡ 0
    → MovesClaims (purge_claims (stage.Removing work)) (purge_claims next) store (without source.file.0 disk store)
moves_removal work source left next disk store is to d none thing =
    let a = gone_amount source left disk store d none thing in
    let b = next_claims work source left next thing is to in
    let c = switched_claims work source left thing is in
    omega (arith, a, b, c)

-- ---- ready for what is left

stays_ready : {D : Type 0} → (work : Work) (source s : Source) (disk : D) (store : StoreValue D) → source.file.0 < s.file.0 → IsToBegin work store s → IsToBegin (went_on work) (without source.file.0 disk store) s
stays_ready work source s disk store before h = record {
  emptied = ap (λ (o : Option MailFile). option_map_or (λ f. f.emptied) o false) (file-without source.file.0 s.file.0 store.files.files (λ same. omega (arith, same, before))) ∙ h.emptied;
  target = by_target s.target h.target;
  short = h.short;
  uncopied = h.uncopied;
  undropped = h.undropped;
  room = record { lists = h.room.lists; text = h.room.text; log = h.room.log };
}
  where
    by_target : (t : Option FileNo) → IsTargetToMake s.file.0 t store → IsTargetToMake s.file.0 t (without source.file.0 disk store)
    by_target None h = h
    by_target (Some t) h =
        let other = file-without source.file.0 t.0 store.files.files (λ same. let l = h.2 in omega (arith, same, before, l)) in (
          record {
            taken = ap (λ (o : Option MailFile). option_map_or (λ f. f.taken) o false) other ∙ h.0.taken;
            unmade = ap (λ (o : Option MailFile). option_and_then (λ f. f.end) o) other ∙ h.0.unmade;
            drawn = h.0.drawn;
            unnamed = h.0.unnamed;
          },
          h.1,
          h.2,
        )

pub ready_next : {D : Type 0} → (work : Work) (source : Source) (left : List Source) (next : PurgeStage) (disk : D) (store : StoreValue D) (later : Option History) → sources_left work ≡ source ∷ left → IsNextStage (went_on work) next → length work.block.items ≡ 65536 → AreSourcesApart (source ∷ left) → All (IsToBegin work store) left
    → HasPurged next (without source.file.0 disk store) later
ready_next work source left next disk store later is (inl none) block apart each = subst (λ (s : PurgeStage). HasPurged s (without source.file.0 disk store) later) (sym none.1) tt
ready_next work source left next disk store later is (inr some) block apart each = subst (λ (s : PurgeStage). HasPurged s (without source.file.0 disk store) later) (sym some.1) (block, now_apart, beginning)
  where
    rest : sources_left (went_on work) ≡ left
    rest = left_on work source left is

    now_apart : AreSourcesApart (sources_left (went_on work))
    now_apart = subst AreSourcesApart (sym rest) (record { files = pairs_tail (λ (a b : Source). a.file.0 < b.file.0) source left apart.files; targets = pairs_tail (λ (a b : Source). IfSome a.target (λ t. IfSome b.target (λ u. t.0 < u.0))) source left apart.targets })

    by_left : (l : List Source) → l ≢ [] → All (λ s. source.file.0 < s.file.0) l → All (IsToBegin work store) l → IsBeginningFirst l (went_on work) (without source.file.0 disk store)
    by_left [] empty before h = absurd (empty refl)
    by_left (s ∷ l) empty before h = (refl, both (s ∷ l) before h)
      where
        both : (l : List Source) → All (λ s. source.file.0 < s.file.0) l → All (IsToBegin work store) l → All (IsToBegin (went_on work) (without source.file.0 disk store)) l
        both [] before h = All-nil _
        both (s ∷ l) before h = All-cons (IsToBegin (went_on work) (without source.file.0 disk store)) s l (stays_ready work source s disk store (All-head (λ (x : Source). source.file.0 < x.file.0) s l before) (All-head (IsToBegin work store) s l h))
            (both l (All-tail (λ (x : Source). source.file.0 < x.file.0) s l before) (All-tail (IsToBegin work store) s l h))

    beginning : IsBeginningFirst (sources_left (went_on work)) (went_on work) (without source.file.0 disk store)
    beginning = subst (λ (l : List Source). IsBeginningFirst l (went_on work) (without source.file.0 disk store)) (sym rest)
        (by_left left (λ empty. some.0 (rest ∙ empty)) (pairs_head (λ (a b : Source). a.file.0 < b.file.0) source left apart.files) each)

-- ---- the call

-- the present file of those that are left
pub record IsRemovingOne {D : Type 0} (work : Work) (source : Source) (left : List Source) (store : StoreValue D) : Type 0 where
  pub left_are : sources_left work ≡ source ∷ left
  pub block : length work.block.items ≡ 65536
  pub apart : AreSourcesApart (source ∷ left)
  pub doomed : is_doomed_in source.file.0 store.files.files ≡ true
  pub unpinned : pins_in source.file.0 store.files.files ≡ 0
  pub elsewhere : AreElsewhere source.file.0 store.map.records
  pub each : All (IsToBegin work store) left

pub removing_one : {D : Type 0} → (work : Work) (source : Source) (left : List Source) (store : StoreValue D) (history : Option History) → sources_left work ≡ source ∷ left → HasPurged (stage.Removing work) store history → IsRemovingOne work source left store
removing_one work source left store history is h =
    let first : IsRemovingFirst (source ∷ left) work store = subst (λ (l : List Source). IsRemovingFirst l work store) is h.2 in
    record { left_are = is; block = h.0; apart = subst AreSourcesApart is h.1; doomed = first.0; unpinned = first.1; elsewhere = first.2; each = first.3 }

pub removing_says : {D : Type 0} → (H : D → Option History) (F : D → Faults) (t next : PurgeValue) (work : Work) (source : Source) (left : List Source) (old new : StoreValue D) → t.stage ≡ stage.Removing work → IsNextStage (went_on work) next.stage → next.did ≡ did.Quiet → next.dropped ≡ t.dropped → next.files ≡ t.files → next.instances ≡ t.instances
    → old.stopped ≡ false → IsRemovingOne work source left old → AreFilesInOrder old.files → old.files.highest ≡ old.drawn.file → ((lists : Lists) → IsSettledFor lists (H old.disk) → Leaves lists lists (H old.disk) (H new.disk)) → MailIsKept old.map (H old.disk) (H new.disk) → ((lists : Lists) → IsSettledFor lists (H old.disk) → IsSettledFor lists (H new.disk))
    → SameButFor (file.Mail source.file.0) (H old.disk) (H new.disk) → new ≡ without source.file.0 new.disk old → Grows (H old.disk) (H new.disk) → NoFault (F old.disk) (F new.disk) → IsStore (H old.disk) old → IsPurgeStep t next progress.More old new (H old.disk) (H new.disk) (F old.disk) (F new.disk)
removing_says {D = D} H F t next work source left old new at to how dropped files instances runs one order drawn moments mail rests others is grows quiet store = record {
  ready = λ more r. subst (λ (s : StoreValue D). HasPurged next.stage s (H new.disk)) (sym is) (ready_next work source left next.stage new.disk old (H new.disk) one.left_are to one.block one.apart one.each);
  does = (
    [],
    λ around. subst (λ (s : StoreValue D). PurgeSteps [] around t next old s (H old.disk) (H new.disk) (F old.disk) (F new.disk) None) (sym is)
        (removing_steps around t next work source left new.disk old (H old.disk) (H new.disk) (F old.disk) (F new.disk) at one.left_are to how dropped files instances runs one.unpinned below one.elsewhere (record { moments = moments; rests = rests; grows = grows; mail = mail; quiet = quiet })),
  );
  first = λ begins. absurd (let e : stage.Removing work ≡ stage.First = sym at ∙ begins in cc e);
  refused = λ why e read stop. absurd (let k : progress.More ≡ progress.Done (reply.Refused why) = e in cc k);
  stopped = record { 0 = λ e. absurd (let k : progress.More ≡ progress.Done (reply.Refused refusal.Stopped) = e in cc k); 1 = λ e. absurd (fall old.stopped (ap (λ (s : StoreValue D). s.stopped) (sym is) ∙ e) runs) };
  regions = λ r. regions_but source.file.0 old new.map (H old.disk) (H new.disk) store runs (ap (λ (s : StoreValue D). s.map) is) one.elsewhere others;
  claims = λ r. record {
    moves = subst (λ (s : StoreValue D). MovesClaims (purge_claims t.stage) (purge_claims next.stage) old s) (sym is) (subst (λ (s : PurgeStage). MovesClaims (purge_claims s) (purge_claims next.stage) old (without source.file.0 new.disk old)) (sym at) (moves_removal work source left next.stage new.disk old one.left_are to d one.unpinned));
    leaves = subst (λ (s : StoreValue D). LeavesOthers (purge_claims t.stage) old s (H old.disk) (H new.disk)) (sym is) (subst (λ (s : PurgeStage). LeavesOthers (purge_claims s) old (without source.file.0 new.disk old) (H old.disk) (H new.disk)) (sym at)
        (removal_leaves (purge_claims (stage.Removing work)) source.file.0 new.disk old (H old.disk) (H new.disk) one.elsewhere untaken ungrown others (firm_same old (without source.file.0 new.disk old) (H old.disk) (H new.disk) refl refl (syncs_placed source.file.0 (H old.disk) (H new.disk) others))));
    ended = λ given e. absurd (let k : progress.More ≡ progress.Done given = e in cc k);
  };
  grows = grows;
  mail = mail;
  reads = let e = ap (λ (f : Faults). f.reads) quiet in omega (arith, e);
  changes = let e = ap (λ (f : Faults). f.changes) quiet in omega (arith, e);
  calm = λ told. ap (λ (f : Faults). f.reads) quiet;
  unfailed = λ r. ap (λ (f : Faults). f.changes) quiet;
  fell = λ was e. absurd (fall old.stopped (ap (λ (s : StoreValue D). s.stopped) (sym is) ∙ e) runs);
}
  where
    d : IsDoomedFile source.file.0 old.files.files
    d = doomed_file source.file.0 old.files.files order.used one.doomed

    below : source.file.0 ≤ old.drawn.file
    below =
        let there = found_one (λ (g : MailFile). g.file.0 == source.file.0) old.files.files d.f d.found in
        let l = All-contains (λ (f : MailFile). f.file.0 ≤ old.files.highest) old.files.files d.f order.below there.0 in
        let e = eqb-true d.f.file.0 source.file.0 there.1 in
        omega (arith, l, e, drawn)

    own : 1 ≤ purge_claims (stage.Removing work) (Removing source.file.0)
    own =
        let c = switched_claims work source left (Removing source.file.0) one.left_are in
        let k : one_if (source.file.0 == source.file.0) ≡ 1 = ap one_if (eq-eqb source.file.0 source.file.0 refl) in
        omega (arith, c, k)

    at_most : one_if (is_to_remove source.file.0 old) ≤ 1
    at_most = by_flag (is_to_remove source.file.0 old)
      where
        by_flag : (b : Bool) → one_if b ≤ 1
        by_flag true = omega arith
        by_flag false = omega arith

    untaken : OthersTook (purge_claims (stage.Removing work)) old source.file.0 → ⊥
    untaken (inl taken) = let none = ap one_if (doomed_untaken source.file.0 old.files.files d).0 in let l : purge_claims (stage.Removing work) (Taken source.file.0) < one_if (is_taken_in source.file.0 old.files.files) = taken in omega (arith, none, l)
    untaken (inr (inl emptied)) = let none = ap one_if (doomed_untaken source.file.0 old.files.files d).1 in let l : purge_claims (stage.Removing work) (Emptied source.file.0) < one_if (is_emptied_in source.file.0 old.files.files) = emptied in omega (arith, none, l)
    untaken (inr (inr removing)) = let l : purge_claims (stage.Removing work) (Removing source.file.0) < one_if (is_to_remove source.file.0 old) = removing in omega (arith, own, l, at_most)

    ungrown : MayOnlyGrow (purge_claims (stage.Removing work)) old source.file.0 → ⊥
    ungrown (inl pinned) = let l : purge_claims (stage.Removing work) (Pinned source.file.0) < pins_in source.file.0 old.files.files = pinned in let z = one.unpinned in omega (arith, l, z)
    ungrown (inr there) = let z = there.2 in omega (arith, own, z)

-- a doomed file is there
pub doomed_ends : (n : ℕ) (files : List MailFile) → All IsUsedFile files → is_doomed_in n files ≡ true → (end : ℕ) × (end_in n files ≡ Some end)
doomed_ends n files used e =
    let d = doomed_file n files used e in
    by_end d.f.end refl (ap (λ (o : Option MailFile). option_and_then (λ f. f.end) o) d.found) (d.used.doomed d.doomed).0
  where
    by_end : (o : Option ℕ) {f : Option ℕ} → f ≡ o → end_in n files ≡ f → IsSome f → (end : ℕ) × (end_in n files ≡ Some end)
    by_end None is at some = absurd (let k : false ≡ true = subst IsSome is some in cc k)
    by_end (Some end) is at some = (end, at ∙ is)

pub removed_as : {D : Type 0} → (a b : FileNo) (old new : StoreValue D) → a ≡ b → new ≡ without a.0 new.disk old → new ≡ without b.0 new.disk old
removed_as a b old new same is = is ∙ ap (λ (f : FileNo). without f.0 new.disk old) same
