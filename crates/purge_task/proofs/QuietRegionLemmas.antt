-- Records keep the octets of their regions in each event of a purge.
use Rattle.purge_task.proofs.Common.{◌≡◌, ◌≢◌, ◌≤◌, ◌==◌, ℕ, List, [], ◌∷◌, Option, Some, None, refl, sym, ◌∙◌, ap, subst, All, Contains, eqb-true, All-contains, Files, HasSameOctets, MapPlace, FileNo, MapUid, AreCopied, IsCopiedTo, HasRecord, MapMeaning, MapRecord, moved_record, place_given}
use Rattle.purge_task.proofs.Common.{record_at, IsSoundMap, found_one, LiesInFile, at_uid, AreElsewhere, HaveSameRegions, AreSwitchLists, target_named}
use Rattle.std.specs.Prelude.{drop, take}
use Rattle.disk_model.specs.declared.name.FileName.TheVariants as file
use Rattle.purge_task.proofs.QuietTargetLemmas.{came_of}
use Rattle.purge_task.proofs.SwitchRowLemmas.{map_switched}

-- one after another
pub regions_then : (old mid new : Files) (first m n : MapMeaning) → ((now : MapRecord) → Contains n.records now → (was : MapRecord) × Contains m.records was × (was.uid ≡ now.uid)) → HaveSameRegions old mid first m → HaveSameRegions mid new m n → HaveSameRegions old new first n
regions_then old mid new first m n from h k row now cr cn uid =
    let was = from now cn in
    let x = h row was.0 cr was.1 (was.2 ∙ uid) in
    let y = k was.0 now was.1 cn (sym was.2) in
    let same : x.now ≡ y.there = (let e : Some x.now ≡ Some y.there = sym x.in_new ∙ y.in_old in cc e) in
    record { there = x.there; now = y.now; in_old = x.in_old; in_new = y.in_new; same = y.same ∙ (ap (λ (o : List ℕ). take was.0.size (drop was.0.offset o)) (sym same) ∙ x.same) }

-- the records of one map uid are one
one_uid : (m : MapMeaning) (row now : MapRecord) → IsSoundMap m → Contains m.records row → Contains m.records now → now.uid ≡ row.uid → row ≡ now
one_uid m row now sound cr cn uid = let e : Some row ≡ Some now = sym (at_uid m row sound cr) ∙ (ap (record_at m) (sym uid) ∙ at_uid m now sound cn) in cc e

-- where each lies in a file that is as it was
pub regions_same : (old new : Files) (m : MapMeaning) (own : ℕ) → IsSoundMap m → All (LiesInFile old) m.records → AreElsewhere own m.records → ((number : ℕ) → number ≢ own → new (file.Mail number) ≡ old (file.Mail number)) → HaveSameRegions old new m m
regions_same old new m own sound whole away mails row now cr cn uid =
    let lies : LiesInFile old row = All-contains (LiesInFile old) m.records row whole cr in
    subst (λ (r : MapRecord). HasSameOctets old new row r) (one_uid m row now sound cr cn uid)
    (record { there = lies.octets; now = lies.octets; in_old = lies.there; in_new = mails row.file (All-contains (λ (r : MapRecord). r.file ≢ own) m.records row away cr) ∙ lies.there; same = refl })

-- where a file is switched whose copies stand in the target
pub switched_regions : (old new : Files) (m : MapMeaning) (f : FileNo) (target : Option FileNo) (copied ms : List MapPlace) (us : List MapUid) → IsSoundMap m → AreSwitchLists m f.0 copied ms us → (target ≡ None → ms ≡ []) → ((t : FileNo) → target ≡ Some t → AreCopied old m t.0 copied) → All (LiesInFile old) m.records → ((number : ℕ) → new (file.Mail number) ≡ old (file.Mail number))
    → HaveSameRegions old new m (map_switched f (target_named target ms) ms us m)
switched_regions old new m f target copied ms us sound listed none copies whole mails row now cr cn uid = subst (λ (r : MapRecord). HasSameOctets old new row r) (sym was.2) (by_place (place_given was.0.uid ms) refl)
  where
    to : ℕ
    to = target_named target ms

    was : (w : MapRecord) × Contains m.records w × (now ≡ moved_record w to (place_given w.uid ms))
    was = came_of f to ms us m now cn

    uid_stays : (o : Option MapPlace) → (moved_record was.0 to o).uid ≡ was.0.uid
    uid_stays None = refl
    uid_stays (Some place) = refl

    same : row ≡ was.0
    same = one_uid m row was.0 sound cr was.1 (sym (uid_stays (place_given was.0.uid ms)) ∙ (sym (ap (λ (r : MapRecord). r.uid) was.2) ∙ uid))

    lies : LiesInFile old was.0
    lies = All-contains (LiesInFile old) m.records was.0 whole was.1

    some_moved : (ps : List MapPlace) (place : MapPlace) → place_given was.0.uid ps ≡ Some place → ps ≡ [] → ⊥
    some_moved ps place given empty = let e : None ≡ Some place = sym (ap (λ (qs : List MapPlace). place_given was.0.uid qs) empty) ∙ given in cc e

    named : (t : FileNo) (ps : List MapPlace) → (ps ≡ [] → ⊥) → target_named (Some t) ps ≡ t.0
    named t [] some = absurd (some refl)
    named t (place ∷ rest) some = refl

    by_target : (o : Option FileNo) → target ≡ o → (place : MapPlace) → place_given was.0.uid ms ≡ Some place → HasSameOctets old new was.0 (moved_record was.0 to (Some place))
    by_target None is place given = absurd (some_moved ms place given (none is))
    by_target (Some t) is place given =
        let one = found_one (λ (p : MapPlace). p.uid.0 == was.0.uid) ms place given in
        let c = (All-contains (λ (p : MapPlace). Contains copied p × HasRecord m p.uid.0 (λ r. 1 ≤ r.count)) ms place listed.moved_copied one.0).0 in
        let held = All-contains (λ (p : MapPlace). HasRecord m p.uid.0 (IsCopiedTo old t.0 p.offset)) copied place (copies t is) c in
        let at : record_at m place.uid.0 ≡ Some was.0 = ap (record_at m) (eqb-true place.uid.0 was.0.uid one.1) ∙ at_uid m was.0 sound was.1 in
        let copy : IsCopiedTo old t.0 place.offset was.0 = subst (λ (r : MapRecord). IsCopiedTo old t.0 place.offset r) (let e : Some held.0 ≡ Some was.0 = sym held.1 ∙ at in cc e) held.2 in
        let to_is : to ≡ t.0 = ap (λ (o : Option FileNo). target_named o ms) is ∙ named t ms (some_moved ms place given) in
        record { there = copy.first; now = copy.second; in_old = copy.in_first; in_new = mails to ∙ (ap (λ (x : ℕ). old (file.Mail x)) to_is ∙ copy.in_second); same = copy.same }

    by_place : (o : Option MapPlace) → place_given was.0.uid ms ≡ o → HasSameOctets old new row (moved_record was.0 to o)
    by_place None e = subst (λ (r : MapRecord). HasSameOctets old new r was.0) (sym same) (record { there = lies.octets; now = lies.octets; in_old = lies.there; in_new = mails was.0.file ∙ lies.there; same = refl })
    by_place (Some place) e = subst (λ (r : MapRecord). HasSameOctets old new r (moved_record was.0 to (Some place))) (sym same) (by_target target refl place e)
