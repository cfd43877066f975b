-- What a purge that switches a storage file claims, and what it leaves to other tasks.
use Rattle.purge_task.proofs.Common.{◌≡◌, ◌≢◌, ◌≤◌, ◌<◌, ◌+◌, ◌==◌, ◌&&◌, ◌++◌, ℕ, Bool, true, false, cond, List, [], ◌∷◌, Option, Some, None, refl, sym, ◌∙◌, ap, subst, arith, inl, inr, Contains, is_some, max, IfSome, option_and_then, option_map, option_map_or, cases_Bool, cases_eq, eq-eqb}
use Rattle.purge_task.proofs.Common.{eqb-true, ne_eqb, common_steps, append-nil, All-cons, All-nil, sum_by-cons, Between, DiskState, History, IfTold, reading, between-map, LogState, InstRow, MapPlace, FileNo, MapUid, AreCopied, IsCopiedTo, MapFits, MapMeaning, MapRecord, moved_record, place_given}
use Rattle.purge_task.proofs.Common.{record_at, IsSoundMap, found_one, files_of, instance_file, file_in, given_back, is_doomed_in, is_emptied_in, is_taken_in, made_doomed, pins_in, place_begun_in, with_pins, MailFile, IsSpared, due_at, KeepsFirm, KeepsInstances, ReadsInstances, IsStore, StoreValue}
use Rattle.purge_task.proofs.Common.{store_sound, kept_same, Claims, Due, Emptied, Held, Made, Pinned, PlacingPieces, Removing, Taken, Thing, amount_in, is_to_remove, one_if, HasRegionOctets, HaveSameInstances, IsSameOrSynced, LeavesOthers, LeavesRecord, OthersTook, instance_kept, none_placed}
use Rattle.purge_task.proofs.Common.{claims_of_sources, claims_of_target, KeepsButTarget, ReadsMail, files_switched, target_named, Source}
use Rattle.std.proofs.Common.{◌⊎◌}
use Rattle.std.specs.Prelude.{drop, take}
use Rattle.disk_model.specs.declared.name.FileName.TheVariants as file
use Rattle.mdbox_base.specs.declared.entries.MapEntry.TheVariants as map_entry
use Rattle.model_appends.proofs.AppendPurgeLemmas.{place_found}
use Rattle.model_meaning.specs.BoxMeaning.{LogRow, row_at}
use Rattle.model_meaning.specs.MapMeaning.{MapBox}
use Rattle.model_store.specs.Listing.{meaning_numbered}
use Rattle.store_core.specs.Value.{indexes_of}
use Rattle.store_core.proofs.DueLemmas.{due_record}
use Rattle.task_claims.specs.Claims.{OthersClaim}
use Rattle.task_claims.proofs.GoneLemmas.{gone_stays}
use Rattle.task_claims.proofs.NameLemmas.{names_stay}
use Rattle.purge_task.proofs.BareCallLemmas.{IsEmptiedFile, undoomed_in, unplaced_in, untaken_in}
use Rattle.purge_task.proofs.SwitchFileLemmas.{IsOtherThere, IsWrittenFile, at_target, switched_at, switched_file, switched_doomed, switched_ends, switched_keeps_other, switched_other, switched_pins, written_undoomed, written_unemptied}
use Rattle.purge_task.proofs.SwitchRowLemmas.{came_from, count_stays, guids_switched, map_switched, moved_elsewhere, place_alone, within_as, within_switched}
use Rattle.purge_task.proofs.SwitchSeenLemmas.{with_map}

-- the store behind the switch
abbrev pub with_switched : {D : Type 0} → ℕ → Option FileNo → D → LogState → MapMeaning → List ℕ → StoreValue D → StoreValue D
with_switched s target disk log map dues store = with_map disk log map dues (record store.files { files = files_switched s target store.files.files }) store

-- the target, if there is one, is another file than the one that is switched, and octets are placed in it
abbrev pub IsOtherWritten : ℕ → Option FileNo → List MailFile → Type 0
IsOtherWritten s None files = Unit {0}
IsOtherWritten s (Some t) files = (t.0 ≢ s) × IsWrittenFile t.0 files × ((start : ℕ) × (place_begun_in t.0 files ≡ Some start))

pub other_there : (s : ℕ) (target : Option FileNo) (files : List MailFile) → IsOtherWritten s target files → IsOtherThere s target files
other_there s None files h = tt
other_there s (Some t) files h = (h.0, (h.1.end, ap (λ (o : Option MailFile). option_and_then (λ f. f.end) o) h.1.found ∙ h.1.ends))

-- a file that is the target
pub target_at : (s n : ℕ) (target : Option FileNo) (files : List MailFile) → IsOtherWritten s target files → at_target target n ≡ true → (n ≢ s) × IsWrittenFile n files × ((start : ℕ) × (place_begun_in n files ≡ Some start))
target_at s n None files h hit = absurd (let k : false ≡ true = hit in cc k)
target_at s n (Some t) files h hit = subst (λ (i : ℕ). (i ≢ s) × IsWrittenFile i files × ((start : ℕ) × (place_begun_in i files ≡ Some start))) (eqb-true t.0 n hit) h

pub not_target : (s n : ℕ) (target : Option FileNo) (files : List MailFile) → IsOtherWritten s target files → n ≡ s → at_target target n ≡ false
not_target s n target files h is = by_flag (at_target target n) refl
  where
    by_flag : (b : Bool) → at_target target n ≡ b → b ≡ false
    by_flag false e = refl
    by_flag true e = absurd ((target_at s n target files h e).0 is)

pub other_target : (target : Option FileNo) (n : ℕ) → at_target target n ≡ false → IfSome target (λ t. t.0 ≢ n)
other_target None n miss = tt
other_target (Some t) n miss = λ is. (let e : true ≡ false = sym (eq-eqb t.0 n is) ∙ miss in cc e)

-- ---- claims

-- what is to be removed then
abbrev pub removal_claims : {D : Type 0} → ℕ → StoreValue D → Claims
removal_claims s store (Removing n) = one_if ((n == s) && (pins_in s store.files.files == 0))
removal_claims s store thing = 0

none_taken : (o : Option MailFile) → option_map_or (λ f. f.taken) (option_map given_back o) false ≡ false
none_taken None = refl
none_taken (Some f) = refl

none_emptied : (o : Option MailFile) → option_map_or (λ f. f.emptied) (option_map given_back o) false ≡ false
none_emptied None = refl
none_emptied (Some f) = refl

none_begun : (o : Option MailFile) → option_and_then (λ f. f.begun) (option_map given_back o) ≡ None
none_begun None = refl
none_begun (Some f) = refl

doomed_taken : (o : Option MailFile) → option_map_or (λ f. f.taken) (option_map made_doomed o) false ≡ false
doomed_taken None = refl
doomed_taken (Some f) = refl

doomed_emptied : (o : Option MailFile) → option_map_or (λ f. f.emptied) (option_map made_doomed o) false ≡ false
doomed_emptied None = refl
doomed_emptied (Some f) = refl

doomed_begun : (o : Option MailFile) → option_and_then (λ f. f.begun) (option_map made_doomed o) ≡ None
doomed_begun None = refl
doomed_begun (Some f) = refl

-- what all claim, but for the file, its target, and what is to be removed then
pub switched_amount : {D : Type 0} → (source : Source) (left : List Source) (disk : D) (log : LogState) (map : MapMeaning) (dues : List ℕ) (store : StoreValue D) → IsEmptiedFile source.file.0 store.files.files → IsOtherWritten source.file.0 source.target store.files.files
    → ((uid : ℕ) → due_at uid (with_switched source.file.0 source.target disk log map dues store) ≡ due_at uid store) → (thing : Thing)
    → amount_in thing (with_switched source.file.0 source.target disk log map dues store) + (claims_of_sources (source ∷ left) thing + claims_of_target (source ∷ left) thing) ≡ amount_in thing store + (claims_of_sources left thing + removal_claims source.file.0 store thing)
switched_amount source left disk log map dues store d w same (Due uid) = let e = same uid in omega (arith, e)
switched_amount source left disk log map dues store d w same (Held id) = omega arith
switched_amount source left disk log map dues store d w same (Made n) = omega arith
switched_amount source left disk log map dues store d w same (Pinned n) = let e = switched_pins n source.file.0 source.target store.files.files (other_there source.file.0 source.target store.files.files w) in omega (arith, e)
switched_amount source left disk log map dues store d w same (Taken n) =
    let h = other_there source.file.0 source.target store.files.files w in
    let k = sum_by-cons (λ (s : Source). cond (option_map_or (λ (t : FileNo). t.0 == n) s.target false) 1 0) source left in
    elim (cases_eq n source.file.0) [
      | inl is ↦
          let miss = not_target source.file.0 n source.target store.files.files w is in
          let now : one_if (is_taken_in n (files_switched source.file.0 source.target store.files.files)) ≡ 0 = ap (λ (o : Option MailFile). one_if (option_map_or (λ f. f.taken) o false)) (switched_at n source.file.0 source.target store.files.files true false h (eq-eqb n source.file.0 is) miss) ∙ ap one_if (doomed_taken (file_in n store.files.files)) in
          let was : one_if (is_taken_in n store.files.files) ≡ 0 = ap (λ (i : ℕ). one_if (is_taken_in i store.files.files)) is ∙ ap one_if (untaken_in source.file.0 store.files.files d) in
          let own : ◌≡◌ {A = ℕ} (cond (option_map_or (λ (t : FileNo). t.0 == n) source.target false) 1 0) 0 = ap (λ (b : Bool). cond b 1 0) miss in
          omega (arith, k, now, was, own)
      | inr apart ↦ elim (cases_Bool (at_target source.target n)) [
        | inl hit ↦
            let t = target_at source.file.0 n source.target store.files.files w hit in
            let now : one_if (is_taken_in n (files_switched source.file.0 source.target store.files.files)) ≡ 0 = ap (λ (o : Option MailFile). one_if (option_map_or (λ f. f.taken) o false)) (switched_at n source.file.0 source.target store.files.files false true h (ne_eqb n source.file.0 apart) hit) ∙ ap one_if (none_taken (file_in n store.files.files)) in
            let was : one_if (is_taken_in n store.files.files) ≡ 1 = ap (λ (o : Option MailFile). one_if (option_map_or (λ f. f.taken) o false)) t.1.found ∙ ap one_if t.1.taken in
            let own : ◌≡◌ {A = ℕ} (cond (option_map_or (λ (t : FileNo). t.0 == n) source.target false) 1 0) 1 = ap (λ (b : Bool). cond b 1 0) hit in
            omega (arith, k, now, was, own)
        | inr miss ↦
            let e : one_if (is_taken_in n (files_switched source.file.0 source.target store.files.files)) ≡ one_if (is_taken_in n store.files.files) = ap (λ (o : Option MailFile). one_if (option_map_or (λ f. f.taken) o false)) (switched_other n source.file.0 source.target store.files.files h (ne_eqb n source.file.0 apart) miss) in
            let own : ◌≡◌ {A = ℕ} (cond (option_map_or (λ (t : FileNo). t.0 == n) source.target false) 1 0) 0 = ap (λ (b : Bool). cond b 1 0) miss in
            omega (arith, k, e, own)
      ]
    ]
switched_amount source left disk log map dues store d w same (Emptied n) =
    let h = other_there source.file.0 source.target store.files.files w in
    let k = sum_by-cons (λ (s : Source). cond (s.file.0 == n) 1 0) source left in
    elim (cases_eq n source.file.0) [
      | inl is ↦
          let miss = not_target source.file.0 n source.target store.files.files w is in
          let now : one_if (is_emptied_in n (files_switched source.file.0 source.target store.files.files)) ≡ 0 = ap (λ (o : Option MailFile). one_if (option_map_or (λ f. f.emptied) o false)) (switched_at n source.file.0 source.target store.files.files true false h (eq-eqb n source.file.0 is) miss) ∙ ap one_if (doomed_emptied (file_in n store.files.files)) in
          let was : one_if (is_emptied_in n store.files.files) ≡ 1 = ap (λ (i : ℕ). one_if (is_emptied_in i store.files.files)) is ∙ ap one_if (ap (λ (o : Option MailFile). option_map_or (λ f. f.emptied) o false) d.found ∙ d.emptied) in
          let own : ◌≡◌ {A = ℕ} (cond (source.file.0 == n) 1 0) 1 = ap (λ (b : Bool). cond b 1 0) (eq-eqb source.file.0 n (sym is)) in
          omega (arith, k, now, was, own)
      | inr apart ↦
          let own : ◌≡◌ {A = ℕ} (cond (source.file.0 == n) 1 0) 0 = ap (λ (b : Bool). cond b 1 0) (ne_eqb source.file.0 n (λ same. apart (sym same))) in
          elim (cases_Bool (at_target source.target n)) [
            | inl hit ↦
                let t = target_at source.file.0 n source.target store.files.files w hit in
                let now : one_if (is_emptied_in n (files_switched source.file.0 source.target store.files.files)) ≡ 0 = ap (λ (o : Option MailFile). one_if (option_map_or (λ f. f.emptied) o false)) (switched_at n source.file.0 source.target store.files.files false true h (ne_eqb n source.file.0 apart) hit) ∙ ap one_if (none_emptied (file_in n store.files.files)) in
                let was : one_if (is_emptied_in n store.files.files) ≡ 0 = ap (λ (o : Option MailFile). one_if (option_map_or (λ f. f.emptied) o false)) t.1.found ∙ ap one_if (written_unemptied n store.files.files t.1) in
                omega (arith, k, now, was, own)
            | inr miss ↦
                let e : one_if (is_emptied_in n (files_switched source.file.0 source.target store.files.files)) ≡ one_if (is_emptied_in n store.files.files) = ap (λ (o : Option MailFile). one_if (option_map_or (λ f. f.emptied) o false)) (switched_other n source.file.0 source.target store.files.files h (ne_eqb n source.file.0 apart) miss) in
                omega (arith, k, e, own)
          ]
    ]
switched_amount source left disk log map dues store d w same (PlacingPieces n) =
    let h = other_there source.file.0 source.target store.files.files w in
    elim (cases_eq n source.file.0) [
      | inl is ↦
          let miss = not_target source.file.0 n source.target store.files.files w is in
          let now : one_if (is_some (place_begun_in n (files_switched source.file.0 source.target store.files.files))) ≡ 0 = ap (λ (o : Option MailFile). one_if (is_some (option_and_then (λ f. f.begun) o))) (switched_at n source.file.0 source.target store.files.files true false h (eq-eqb n source.file.0 is) miss) ∙ ap (λ (o : Option ℕ). one_if (is_some o)) (doomed_begun (file_in n store.files.files)) in
          let was : one_if (is_some (place_begun_in n store.files.files)) ≡ 0 = ap (λ (i : ℕ). one_if (is_some (place_begun_in i store.files.files))) is ∙ ap (λ (o : Option ℕ). one_if (is_some o)) (unplaced_in source.file.0 store.files.files d) in
          let own : one_if (option_map_or (λ (t : FileNo). t.0 == n) source.target false) ≡ 0 = ap one_if miss in
          omega (arith, now, was, own)
      | inr apart ↦ elim (cases_Bool (at_target source.target n)) [
        | inl hit ↦
            let t = target_at source.file.0 n source.target store.files.files w hit in
            let now : one_if (is_some (place_begun_in n (files_switched source.file.0 source.target store.files.files))) ≡ 0 = ap (λ (o : Option MailFile). one_if (is_some (option_and_then (λ f. f.begun) o))) (switched_at n source.file.0 source.target store.files.files false true h (ne_eqb n source.file.0 apart) hit) ∙ ap (λ (o : Option ℕ). one_if (is_some o)) (none_begun (file_in n store.files.files)) in
            let was : one_if (is_some (place_begun_in n store.files.files)) ≡ 1 = ap (λ (o : Option ℕ). one_if (is_some o)) t.2.1 in
            let own : one_if (option_map_or (λ (t : FileNo). t.0 == n) source.target false) ≡ 1 = ap one_if hit in
            omega (arith, now, was, own)
        | inr miss ↦
            let e : one_if (is_some (place_begun_in n (files_switched source.file.0 source.target store.files.files))) ≡ one_if (is_some (place_begun_in n store.files.files)) = ap (λ (o : Option MailFile). one_if (is_some (option_and_then (λ f. f.begun) o))) (switched_other n source.file.0 source.target store.files.files h (ne_eqb n source.file.0 apart) miss) in
            let own : one_if (option_map_or (λ (t : FileNo). t.0 == n) source.target false) ≡ 0 = ap one_if miss in
            omega (arith, e, own)
      ]
    ]
switched_amount source left disk log map dues store d w same (Removing n) =
    let h = other_there source.file.0 source.target store.files.files w in
    let pins = switched_pins n source.file.0 source.target store.files.files h in
    elim (cases_eq n source.file.0) [
      | inl is ↦
          let doomed : is_doomed_in n (files_switched source.file.0 source.target store.files.files) ≡ true = ap (λ (i : ℕ). is_doomed_in i (files_switched source.file.0 source.target store.files.files)) is ∙ switched_doomed source.file.0 source.target store.files.files d.f h d.found in
          let now : one_if (is_doomed_in n (files_switched source.file.0 source.target store.files.files) && (pins_in n (files_switched source.file.0 source.target store.files.files) == 0)) ≡ one_if (pins_in source.file.0 store.files.files == 0) = ap (λ (b : Bool). one_if (b && (pins_in n (files_switched source.file.0 source.target store.files.files) == 0))) doomed ∙ (ap (λ (p : ℕ). one_if (p == 0)) pins ∙ ap (λ (i : ℕ). one_if (pins_in i store.files.files == 0)) is) in
          let was : one_if (is_doomed_in n store.files.files && (pins_in n store.files.files == 0)) ≡ 0 = ap (λ (b : Bool). one_if (b && (pins_in n store.files.files == 0))) (ap (λ (i : ℕ). is_doomed_in i store.files.files) is ∙ undoomed_in source.file.0 store.files.files d) in
          let own : one_if ((n == source.file.0) && (pins_in source.file.0 store.files.files == 0)) ≡ one_if (pins_in source.file.0 store.files.files == 0) = ap (λ (b : Bool). one_if (b && (pins_in source.file.0 store.files.files == 0))) (eq-eqb n source.file.0 is) in
          omega (arith, now, was, own)
      | inr apart ↦
          let doomed : is_doomed_in n (files_switched source.file.0 source.target store.files.files) ≡ is_doomed_in n store.files.files = switched_keeps_other (λ f. f.doomed) false n source.file.0 source.target store.files.files h apart stays_doomed in
          let e : one_if (is_doomed_in n (files_switched source.file.0 source.target store.files.files) && (pins_in n (files_switched source.file.0 source.target store.files.files) == 0)) ≡ one_if (is_doomed_in n store.files.files && (pins_in n store.files.files == 0)) = ap (λ (b : Bool). one_if (b && (pins_in n (files_switched source.file.0 source.target store.files.files) == 0))) doomed ∙ ap (λ (p : ℕ). one_if (is_doomed_in n store.files.files && (p == 0))) pins in
          let own : one_if ((n == source.file.0) && (pins_in source.file.0 store.files.files == 0)) ≡ 0 = ap (λ (b : Bool). one_if (b && (pins_in source.file.0 store.files.files == 0))) (ne_eqb n source.file.0 apart) in
          omega (arith, e, own)
    ]
  where
    stays_doomed : (b : Bool) (f : MailFile) → (switched_file false b f).doomed ≡ f.doomed
    stays_doomed true f = refl
    stays_doomed false f = refl

-- ---- a record of which something is due to others

-- its region has the octets that it had, where it was and where it was copied to
region_left : (before after : Option History) (t : ℕ) (ms : List MapPlace) (row : MapRecord) (m : MapMeaning) → IsSoundMap m → Contains m.records row → ReadsMail before after → IfTold before (λ now. AreCopied (files_of now) m t ms)
    → Between (λ a b. (octets : List ℕ) → HasRegionOctets (files_of a) row octets → HasRegionOctets (files_of b) (moved_record row t (place_given row.uid ms)) octets) before after
region_left None after t ms row m sound c reads copied = reads
region_left (Some d) None t ms row m sound c reads copied = absurd reads
region_left (Some d) (Some e) t ms row m sound c reads copied = λ octets h. by_place octets h (place_given row.uid ms) refl
  where
    by_place : (octets : List ℕ) → HasRegionOctets (files_of d.now) row octets → (o : Option MapPlace) → place_given row.uid ms ≡ o → HasRegionOctets (files_of e.now) (moved_record row t o) octets
    by_place octets h None given = record { there = h.there; in_file = reads.0 row.file ∙ h.in_file; inside = h.inside; same = h.same }
    by_place octets h (Some place) given =
        let copy : IsCopiedTo (files_of d.now) t place.offset row = place_found m (λ p r. IsCopiedTo (files_of d.now) t p.offset r) ms row sound c copied place given in
        let firsts : copy.first ≡ h.there = (let k : Some copy.first ≡ Some h.there = sym copy.in_first ∙ h.in_file in cc k) in
        record { there = copy.second; in_file = reads.0 t ∙ copy.in_second; inside = copy.second_holds; same = copy.same ∙ (ap (λ (o : List ℕ). take row.size (drop row.offset o)) firsts ∙ h.same) }

instances_left : (before after : Option History) (rows : List InstRow) → ReadsMail before after → Between (λ a b. HaveSameInstances rows (files_of a) (files_of b)) before after
instances_left before after rows reads = between-map _ (λ a b. HaveSameInstances rows (files_of a) (files_of b)) before after (λ a b s. each a b s.1 rows) reads
  where
    each : (a b : DiskState) → ((hash id : List ℕ) → b (file.Inst hash id) ≡ a (file.Inst hash id)) → (rows : List InstRow) → HaveSameInstances rows (files_of a) (files_of b)
    each a b s [] = All-nil _
    each a b s (i ∷ rows) = All-cons (λ (x : InstRow). (octets : List ℕ) → files_of a (instance_file x) ≡ Some octets → files_of b (instance_file x) ≡ Some octets) i rows (λ octets is. ap reading (s i.hash.0 i.id.0) ∙ is) (each a b s rows)

-- ---- what is left to other tasks

-- What a call says that switched a file.
pub record IsSwitchMade {D : Type 0} (source : Source) (moved : List MapPlace) (dropped : List MapUid) (old new : StoreValue D) (before after : Option History) : Type 0 where
  pub fits : MapFits old.map (map_entry.P source.file (target_named source.target moved) moved dropped)
  pub untargeted : source.target ≡ None → moved ≡ []
  pub copied : IfTold before (λ now. AreCopied (files_of now) old.map (target_named source.target moved) moved)
  pub due : (uid : ℕ) → due_at uid new ≡ due_at uid old
  pub spared : (uid : ℕ) (row : MapRecord) → record_at old.map uid ≡ Some row → 1 ≤ row.count → IsSpared uid row new before after
  pub reads : ReadsMail before after
  pub kept : KeepsButTarget source.target before after
  pub firm : KeepsFirm old new before after
  pub room : old.map_log.room ≤ new.map_log.room
  pub further : old.map_log.end < new.map_log.end
  pub boxes : new.map.boxes ≡ old.map.boxes

stays : (n : ℕ) → n ≤ n
stays n = omega arith

no_less : (n : ℕ) → n ≤ max n 0
no_less n = grind (arith, common_steps)

-- no record comes to a file that isn't the target
pub moved_past : (source : Source) (moved : List MapPlace) (number : ℕ) → (source.target ≡ None → moved ≡ []) → at_target source.target number ≡ false → (target_named source.target moved ≢ number) ⊎ (moved ≡ [])
moved_past source moved number none miss = moved_elsewhere source.target moved number none (λ t is. subst (λ (o : Option FileNo). IfSome o (λ t. t.0 ≢ number)) is (other_target source.target number miss))

pub switch_leaves : {D : Type 0} → (mine : Claims) (source : Source) (left : List Source) (moved : List MapPlace) (dropped : List MapUid) (disk : D) (log : LogState) (dues : List ℕ) (old : StoreValue D) (before after : Option History)
    → ((thing : Thing) → mine thing ≡ claims_of_sources (source ∷ left) thing + claims_of_target (source ∷ left) thing) → IsStore before old → IsEmptiedFile source.file.0 old.files.files → IsOtherWritten source.file.0 source.target old.files.files
    → IsSwitchMade source moved dropped old (with_switched source.file.0 source.target disk log (map_switched source.file (target_named source.target moved) moved dropped old.map) dues old) before after
    → LeavesOthers mine old (with_switched source.file.0 source.target disk log (map_switched source.file (target_named source.target moved) moved dropped old.map) dues old) before after
switch_leaves {D = D} mine source left moved dropped disk log dues old before after own is d w made = record {
  records = λ uid row more there. by_due uid row more there;
  unlisted = λ uid row none found listed. (listed, made.due uid);
  files = λ number took.
      let apart : number ≢ source.file.0 = λ same. untaken (subst (λ (i : ℕ). OthersTook mine old i) same took) in
      let miss = no_target number took in
      record {
        known = ap (λ (o : Option MailFile). option_map (with_pins 0) o) (switched_other number source.file.0 source.target old.files.files there (ne_eqb number source.file.0 apart) miss);
        records = within_as number old.map new.map (within_switched source.file (target_named source.target moved) moved dropped number old.map sound made.fits apart (moved_past source moved number made.untargeted miss));
        guids = λ guid of all. guids_switched source.file (target_named source.target moved) moved dropped guid old.map all;
        state = between-map _ (λ a b. IsSameOrSynced (a (file.Mail number)) (b (file.Mail number))) before after (λ a b s. inl (s number (other_target source.target number miss))) made.kept;
      };
  grow = λ number may. record {
    there = λ end ends. (end, switched_ends number source.file.0 source.target old.files.files there ∙ ends, stays end);
    reads = between-map _ (λ a b. (octets : List ℕ) → reading (a (file.Mail number)) ≡ Some octets → (more : List ℕ) × (reading (b (file.Mail number)) ≡ Some (octets ++ more))) before after
        (λ a b s octets reads. ([], s.0 number ∙ (reads ∙ ap Some (sym (append-nil octets))))) made.reads;
  };
  instances = λ row known more. instance_kept row old new before after keeps known;
  unraised = λ uid row now there none found. ap (λ (r : MapRecord). r.count) (came_from source.file (target_named source.target moved) moved dropped old.map uid row now sound there found) ∙ (count_stays row (target_named source.target moved) (place_given row.uid moved) ∙ none);
  store = refl;
  numbers = none_placed old.instances;
  mailboxes = no_less old.map.highest.mailbox;
  end = let further = made.further in omega (arith, further);
  names = inl (names_stay old.map new.map made.boxes);
  gone = gone_stays old new made.boxes refl (no_less old.map.highest.mailbox);
  compared = keeps.compared;
  firm = made.firm;
  uids = λ number uid held k. record {
    given = let l : old.map.highest.mailbox ≤ new.map.highest.mailbox = no_less old.map.highest.mailbox in let g = k.given in omega (arith, l, g);
    below = subst (λ (bs : List MapBox). IfSome (meaning_numbered number bs (indexes_of old.boxes)) (λ m. uid < m.next)) (sym made.boxes) k.below;
    same = subst (λ (bs : List MapBox). IfSome (meaning_numbered number bs (indexes_of old.boxes)) (λ m. (r : LogRow) → row_at m uid ≡ Some r → r.map_uid ≡ held)) (sym made.boxes) k.same;
  };
  room = made.room;
  told = between-map _ (λ a b. Unit {0}) before after (λ a b s. tt) made.reads;
}
  where
    new : StoreValue D
    new = with_switched source.file.0 source.target disk log (map_switched source.file (target_named source.target moved) moved dropped old.map) dues old

    sound : IsSoundMap old.map
    sound = store_sound before old is

    there : IsOtherThere source.file.0 source.target old.files.files
    there = other_there source.file.0 source.target old.files.files w

    keeps : KeepsInstances old new before after
    keeps = kept_same old new before after refl (between-map _ ReadsInstances before after (λ a b s hash id. ap reading (s.1 hash id)) made.reads) made.firm

    by_due : (uid : ℕ) (row : MapRecord) → OthersClaim mine old (Due uid) → record_at old.map uid ≡ Some row → LeavesRecord uid row new before after
    by_due uid row more there =
        let some : 1 ≤ due_at uid old = (let l : mine (Due uid) < due_at uid old = more in omega (arith, l)) in
        let counted = due_record is.logs old.map.records old.dues uid is.counts some in
        let same : counted.0 ≡ row = (let e : Some counted.0 ≡ Some row = sym counted.1 ∙ there in cc e) in
        let spared = made.spared uid row there (subst (λ (r : MapRecord). 1 ≤ r.count) same counted.2) in
        let from = came_from source.file (target_named source.target moved) moved dropped old.map uid row spared.now sound there spared.there in
        record {
          now = spared.now;
          there = spared.there;
          is_same = subst (λ (r : MapRecord). r ≡ record row { count = r.count; file = r.file; offset = r.offset }) (sym from) (place_alone row (target_named source.target moved) (place_given row.uid moved));
          region = subst (λ (r : MapRecord). Between (λ a b. (octets : List ℕ) → HasRegionOctets (files_of a) row octets → HasRegionOctets (files_of b) r octets) before after) (sym from)
              (region_left before after (target_named source.target moved) moved row old.map sound (found_one (λ (r : MapRecord). r.uid == uid) old.map.records row there).0 made.reads made.copied);
          instances = instances_left before after row.instances made.reads;
        }

    at_most : (b : Bool) → one_if b ≤ 1
    at_most true = omega arith
    at_most false = omega arith

    own_emptied : 1 ≤ mine (Emptied source.file.0)
    own_emptied =
        let c = own (Emptied source.file.0) in
        let s = sum_by-cons (λ (s : Source). cond (s.file.0 == source.file.0) 1 0) source left in
        let k : ◌≡◌ {A = ℕ} (cond (source.file.0 == source.file.0) 1 0) 1 = ap (λ (b : Bool). cond b 1 0) (eq-eqb source.file.0 source.file.0 refl) in
        omega (arith, c, s, k)

    own_taken : (n : ℕ) → at_target source.target n ≡ true → 1 ≤ mine (Taken n)
    own_taken n hit =
        let c = own (Taken n) in
        let s = sum_by-cons (λ (s : Source). cond (option_map_or (λ (t : FileNo). t.0 == n) s.target false) 1 0) source left in
        let k : ◌≡◌ {A = ℕ} (cond (option_map_or (λ (t : FileNo). t.0 == n) source.target false) 1 0) 1 = ap (λ (b : Bool). cond b 1 0) hit in
        omega (arith, c, s, k)

    untaken : OthersTook mine old source.file.0 → ⊥
    untaken (inl taken) = let none = ap one_if (untaken_in source.file.0 old.files.files d) in let l : mine (Taken source.file.0) < one_if (is_taken_in source.file.0 old.files.files) = taken in omega (arith, none, l)
    untaken (inr (inl emptied)) = let most = at_most (is_emptied_in source.file.0 old.files.files) in let l : mine (Emptied source.file.0) < one_if (is_emptied_in source.file.0 old.files.files) = emptied in omega (arith, own_emptied, most, l)
    untaken (inr (inr removing)) =
        let none = ap (λ (b : Bool). one_if (b && (pins_in source.file.0 old.files.files == 0))) (undoomed_in source.file.0 old.files.files d) in
        let l : mine (Removing source.file.0) < one_if (is_to_remove source.file.0 old) = removing in omega (arith, none, l)

    ungiven : (n : ℕ) → at_target source.target n ≡ true → OthersTook mine old n → ⊥
    ungiven n hit (inl taken) = let some = own_taken n hit in let most = at_most (is_taken_in n old.files.files) in let l : mine (Taken n) < one_if (is_taken_in n old.files.files) = taken in omega (arith, some, most, l)
    ungiven n hit (inr (inl emptied)) =
        let t = target_at source.file.0 n source.target old.files.files w hit in
        let none = ap (λ (o : Option MailFile). one_if (option_map_or (λ f. f.emptied) o false)) t.1.found ∙ ap one_if (written_unemptied n old.files.files t.1) in
        let l : mine (Emptied n) < one_if (is_emptied_in n old.files.files) = emptied in omega (arith, none, l)
    ungiven n hit (inr (inr removing)) =
        let t = target_at source.file.0 n source.target old.files.files w hit in
        let none = ap (λ (b : Bool). one_if (b && (pins_in n old.files.files == 0))) (ap (λ (o : Option MailFile). option_map_or (λ f. f.doomed) o false) t.1.found ∙ written_undoomed n old.files.files t.1) in
        let l : mine (Removing n) < one_if (is_to_remove n old) = removing in omega (arith, none, l)

    no_target : (n : ℕ) → OthersTook mine old n → at_target source.target n ≡ false
    no_target n took = by_flag (at_target source.target n) refl
      where
        by_flag : (b : Bool) → at_target source.target n ≡ b → b ≡ false
        by_flag false e = refl
        by_flag true e = absurd (ungiven n e took)
