-- What was copied is synced, and the entry that names it can be appended.
use Rattle.purge_task.proofs.Common.{◌≡◌, inl, inr, ℕ, ◌+◌, ◌<◌, ◌≤◌, ◌==◌, Bool, true, false, Option, Some, None, List, [], ◌∷◌, length, get_or, drop, All, refl, sym, ap, subst, ◌∙◌, arith, option_map, option_map_or, option_and_then, cases_eq, cases_lt, cases_Bool, drop_all, drop_more, All-nil}
use Rattle.purge_task.proofs.Common.{All-contains, All-weaker, DiskState, Files, History, IfTold, Keeps, MayLeave, reading, FileNo, MapUid, MapEntry, MapPlace, AreCopied, IsCopiedTo, HasRecord, MapRecord, MapMeaning, IsSoundMap, equal_is, found_holds, files_of, MailFile, AreFilesInOrder, IsUsedFile}
use Rattle.purge_task.proofs.Common.{changed_in, end_in, file_in, is_doomed_in, is_emptied_in, is_taken_in, ends-kept, file-here, file-other, IsStore, StoreValue, store_sound, sources_left, AreSwitchLists, IsFirst, IsReadyToSwitch, IsTargetWritten, ReadsMail, target_named, target_synced, Source}
use Rattle.purge_task.proofs.Common.{Work}
use Rattle.std.specs.Vec.{with_item}
use Rattle.std.proofs.lemmas.List.{drop-set}
use Rattle.std.proofs.Common.{set}
use Rattle.disk_model.specs.Disk.{IsImage}
use Rattle.disk_model.specs.declared.name.FileName.TheVariants as file
use Rattle.mdbox_base.specs.Words.{IsNumber}
use Rattle.model_appends.specs.MapAppending.{AreCopiesSynced}
use Rattle.model_logs.specs.Entries.{map_text}
use Rattle.model_meaning.specs.MapFits.{FitsPurged}
use Rattle.model_store.specs.Settled.{HasSameRegion}
use Rattle.storage_files.specs.Files.{placing_ended}
use Rattle.store_core.specs.Files.{LiesBelowEnd}
use Rattle.map_index.specs.Kept.{IsMapInOrder}
use Rattle.purge_task.specs.Reserved.{IsPresent}
use Rattle.purge_task.specs.declared.work.Present.{Present}
use Rattle.purge_task.specs.Switched.{IsSwitchEntry, IsListable, SpendsFirst, mid_of, IsReadyAppend, KeepsTarget}
use Rattle.purge_task.proofs.SwitchFitLemmas.{TargetFits, entry_fits, entry_in_range, entry_short, none_moved, record_here}

-- ---- what is known of a file whose placing has ended

pub kept_or : {X : Type 0} → (value : MailFile → X) (d : X) (n m : ℕ) (files : List MailFile) → ((f : MailFile) → value (placing_ended f) ≡ value f) → option_map_or value (file_in m (changed_in n placing_ended files)) d ≡ option_map_or value (file_in m files) d
kept_or value d n m files same = elim (cases_eq m n) [
  | inl is ↦ subst (λ (k : ℕ). option_map_or value (file_in k (changed_in n placing_ended files)) d ≡ option_map_or value (file_in k files) d) (sym is) (ap (λ (o : Option MailFile). option_map_or value o d) (file-here n placing_ended files (λ f. refl)) ∙ mapped (file_in n files))
  | inr other ↦ ap (λ (o : Option MailFile). option_map_or value o d) (file-other n m placing_ended files (λ f. refl) other)
]
  where
    mapped : (o : Option MailFile) → option_map_or value (option_map placing_ended o) d ≡ option_map_or value o d
    mapped None = refl
    mapped (Some f) = same f

pub synced_or : {X : Type 0} → (value : MailFile → X) (d : X) (target : Option FileNo) (m : ℕ) (files : List MailFile) → ((f : MailFile) → value (placing_ended f) ≡ value f) → option_map_or value (file_in m (target_synced target files)) d ≡ option_map_or value (file_in m files) d
synced_or value d None m files same = refl
synced_or value d (Some t) m files same = kept_or value d t.0 m files same

pub synced_end : (target : Option FileNo) (m : ℕ) (files : List MailFile) → end_in m (target_synced target files) ≡ end_in m files
synced_end None m files = refl
synced_end (Some t) m files = ends-kept t.0 m placing_ended files (λ f. refl) (λ f. refl)

file_with : (value : MailFile → Bool) (o : Option MailFile) → option_map_or value o false ≡ true → (f : MailFile) × (o ≡ Some f) × (value f ≡ true)
file_with value None e = absurd (let w : false ≡ true = e in cc w)
file_with value (Some f) e = (f, refl, e)

number_of : {D : Type 0} → (h : Option History) (v : StoreValue D) (n : ℕ) (f : MailFile) → IsStore h v → AreFilesInOrder v.files → file_in n v.files.files ≡ Some f → IsNumber n
number_of h v n f is order at =
    let low = is.files.numbered n f at in
    let b = found_holds (λ x. x.file.0 == n) v.files.files f (λ x. x.file.0 ≤ v.files.highest) at order.below in
    let le = b.0 in
    let same = equal_is f.file.0 n b.1 in
    let last = order.last in
    record { low = low; high = omega (arith, le, same, last) }

drawn_of : {D : Type 0} → (h : Option History) (v : StoreValue D) (n : ℕ) (f : MailFile) → IsStore h v → AreFilesInOrder v.files → file_in n v.files.files ≡ Some f → n ≤ v.drawn.file
drawn_of h v n f is order at =
    let b = found_holds (λ x. x.file.0 == n) v.files.files f (λ x. x.file.0 ≤ v.files.highest) at order.below in
    let le = b.0 in
    let same = equal_is f.file.0 n b.1 in
    let drawn = is.files.highest in
    omega (arith, le, same, drawn)

-- ---- where the copies lie

end_of_file : (n end : ℕ) (files : List MailFile) (f : MailFile) → end_in n files ≡ Some end → file_in n files ≡ Some f → f.end ≡ Some end
end_of_file n end files f ends at = sym (ap (option_and_then (λ x. x.end)) at) ∙ ends

undoomed : (n : ℕ) (value : List MailFile) (f : MailFile) → All IsUsedFile value → file_in n value ≡ Some f → f.taken ≡ true → is_doomed_in n value ≡ false
undoomed n value f used at taken =
    let u = (found_holds (λ x. x.file.0 == n) value f IsUsedFile at used).0 in
    ap (λ (o : Option MailFile). option_map_or (λ x. x.doomed) o false) at ∙ elim (cases_Bool f.doomed) [
      | inl doomed ↦ absurd (let w : true ≡ false = sym taken ∙ (u.doomed doomed).1 in cc w)
      | inr sound ↦ sound
    ]

place_below : {D : Type 0} → (h : Option History) (v : StoreValue D) (target end : ℕ) (f : MailFile) (place : MapPlace) → IsStore h v → AreFilesInOrder v.files → file_in target v.files.files ≡ Some f → f.taken ≡ true → end_in target v.files.files ≡ Some end → HasRecord v.map place.uid.0 (λ row. place.offset + row.size ≤ end)
    → HasRecord v.map place.uid.0 (λ row. LiesBelowEnd v.map.store v.files.files (record row { file = target; offset = place.offset }))
place_below h v target end f place is order at taken ends w =
    let r = w.0 in
    let le = w.2 in
    let lies : LiesBelowEnd v.map.store v.files.files r = (record_here v.map place.uid.0 r w.1).1 (LiesBelowEnd v.map.store v.files.files) is.files.below in (
      r,
      w.1,
      record {
        region = λ g found grows. (end, end_of_file target end v.files.files g ends found, le);
        guid = lies.guid;
        undoomed = undoomed target v.files.files f order.used at taken;
      },
    )

-- ---- octet for octet

copied_still : (a b : DiskState) (target offset : ℕ) (row : MapRecord) → ((n : ℕ) → reading (b (file.Mail n)) ≡ reading (a (file.Mail n))) → IsCopiedTo (files_of a) target offset row → IsCopiedTo (files_of b) target offset row
copied_still a b target offset row same c = record {
  first = c.first;
  second = c.second;
  in_first = same row.file ∙ c.in_first;
  in_second = same target ∙ c.in_second;
  first_holds = c.first_holds;
  second_holds = c.second_holds;
  same = c.same;
}

-- of what is moved each was copied
moved_copies : (P : MapPlace → Type 0) (m : MapMeaning) (number : ℕ) (copied moved : List MapPlace) (dropped : List MapUid) → AreSwitchLists m number copied moved dropped → All P copied → All P moved
moved_copies P m number copied moved dropped listed all = λ k d lt. All-contains P copied (get_or moved k d) all (listed.moved_copied k d lt).0

pub copies_as : {D : Type 0} → (old mid : StoreValue D) (h k : Option History) (target : Option FileNo) (number : ℕ) (copied : List MapPlace) (dropped : List MapUid) (source : Source) (moved ps : List MapPlace) → moved ≡ ps → ReadsMail h k → AreSwitchLists old.map number copied moved dropped → copied ≡ source.copied.items → IsTargetWritten target source old h
    → IfTold k (λ now. AreCopied (files_of now) old.map (target_named target ps) ps)
copies_as old mid h k target number copied dropped source moved [] is reads listed same written = told_none k (target_named target [])
  where
    told_none : (l : Option History) (t : ℕ) → IfTold l (λ now. AreCopied (files_of now) old.map t [])
    told_none None t = tt
    told_none (Some d) t = All-nil (λ place. HasRecord old.map place.uid.0 (IsCopiedTo (files_of d.now) t place.offset))
copies_as old mid h None target number copied dropped source moved (place ∷ rest) is reads listed same written = tt
copies_as old mid None (Some e) target number copied dropped source moved (place ∷ rest) is reads listed same written = absurd (let w : Some e ≡ None = reads in cc w)
copies_as old mid (Some d) (Some e) None number copied dropped source moved (place ∷ rest) is reads listed same written = none_moved old.map number copied moved dropped place rest listed (same ∙ written) is
copies_as old mid (Some d) (Some e) (Some t) number copied dropped source moved (place ∷ rest) is reads listed same written =
    let all : All (λ p. HasRecord old.map p.uid.0 (IsCopiedTo (files_of d.now) t.0 p.offset)) copied = subst (All (λ p. HasRecord old.map p.uid.0 (IsCopiedTo (files_of d.now) t.0 p.offset))) (sym same) written.octets in
    let here = moved_copies (λ p. HasRecord old.map p.uid.0 (IsCopiedTo (files_of d.now) t.0 p.offset)) old.map number copied moved dropped listed all in
    let still = All-weaker (λ p. HasRecord old.map p.uid.0 (IsCopiedTo (files_of d.now) t.0 p.offset)) (λ p. HasRecord old.map p.uid.0 (IsCopiedTo (files_of e.now) t.0 p.offset)) (λ p c. (c.0, c.1, copied_still d.now e.now t.0 p.offset c.0 reads.0 c.2)) moved here in
    subst (All (λ p. HasRecord old.map p.uid.0 (IsCopiedTo (files_of e.now) t.0 p.offset))) is still

region_kept : (a b : DiskState) (target : ℕ) (place : MapPlace) (image : Files) (row : MapRecord) → ((text : List ℕ) → (reading (a (file.Mail target)) ≡ Some text) × (MayLeave (a (file.Mail target)) None → ⊥) → Keeps (b (file.Mail target)) text) → (MayLeave (a (file.Mail target)) None → ⊥) → IsImage b image → IsCopiedTo (files_of a) target place.offset row
    → HasSameRegion (files_of b) image (record row { file = target; offset = place.offset })
region_kept a b target place image row held stays is c =
    let keeps = held c.second (c.in_second, stays) in
    record {
      first = c.second;
      second = c.second;
      in_first = keeps.reads;
      in_second = (keeps.leaves (image (file.Mail target))).0 (is (file.Mail target));
      first_holds = c.second_holds;
      second_holds = c.second_holds;
      same = refl;
    }

synced_as : {D : Type 0} → (old : StoreValue D) (h k : Option History) (target : Option FileNo) (number : ℕ) (copied : List MapPlace) (dropped : List MapUid) (source : Source) (moved ps : List MapPlace) → moved ≡ ps → ReadsMail h k → KeepsTarget target h k → AreSwitchLists old.map number copied moved dropped → copied ≡ source.copied.items → IsTargetWritten target source old h
    → IfTold k (λ now. AreCopiesSynced now old.map (target_named target ps) ps)
synced_as old h k target number copied dropped source moved [] is reads held listed same written = told_none k (target_named target [])
  where
    told_none : (l : Option History) (t : ℕ) → IfTold l (λ now. AreCopiesSynced now old.map t [])
    told_none None t = tt
    told_none (Some d) t = λ image is_image. All-nil (λ place. HasRecord old.map place.uid.0 (λ row. HasSameRegion (files_of d.now) image (record row { file = t; offset = place.offset })))
synced_as old h None target number copied dropped source moved (place ∷ rest) is reads held listed same written = tt
synced_as old None (Some e) target number copied dropped source moved (place ∷ rest) is reads held listed same written = absurd (let w : Some e ≡ None = reads in cc w)
synced_as old (Some d) (Some e) None number copied dropped source moved (place ∷ rest) is reads held listed same written = none_moved old.map number copied moved dropped place rest listed (same ∙ written) is
synced_as old (Some d) (Some e) (Some t) number copied dropped source moved (place ∷ rest) is reads held listed same written =
    let all : All (λ p. HasRecord old.map p.uid.0 (IsCopiedTo (files_of d.now) t.0 p.offset)) copied = subst (All (λ p. HasRecord old.map p.uid.0 (IsCopiedTo (files_of d.now) t.0 p.offset))) (sym same) written.octets in
    let here = moved_copies (λ p. HasRecord old.map p.uid.0 (IsCopiedTo (files_of d.now) t.0 p.offset)) old.map number copied moved dropped listed all in
    λ image is_image. subst (All (λ p. HasRecord old.map p.uid.0 (λ row. HasSameRegion (files_of e.now) image (record row { file = t.0; offset = p.offset })))) is
    (All-weaker (λ p. HasRecord old.map p.uid.0 (IsCopiedTo (files_of d.now) t.0 p.offset)) (λ p. HasRecord old.map p.uid.0 (λ row. HasSameRegion (files_of e.now) image (record row { file = t.0; offset = p.offset }))) (λ p c. (c.0, c.1, region_kept d.now e.now t.0 p image c.0 held written.stays is_image c.2)) moved here)

-- ---- all that the append asks

target_fits_mid : {D : Type 0} → (h k : Option History) (old mid : StoreValue D) (source : Source) (target : Option FileNo) → IsStore k mid → AreFilesInOrder mid.files → mid.files.files ≡ target_synced source.target old.files.files → IsTargetWritten target source old h → TargetFits old.map source.file.0 target source.copied.items
target_fits_mid h k old mid source None is order files written = written
target_fits_mid h k old mid source (Some t) is order files written =
    let taken : is_taken_in t.0 mid.files.files ≡ true = ap (is_taken_in t.0) files ∙ synced_or (λ f. f.taken) false source.target t.0 old.files.files (λ f. refl) ∙ written.taken in
    let f = file_with (λ f. f.taken) (file_in t.0 mid.files.files) taken in
    record { number = number_of k mid t.0 f.0 is order f.1; end = written.end; few = written.fits; other = written.other; unnamed = written.unnamed; within = written.within; follow = written.follow }

places_below : {D : Type 0} → (h k : Option History) (old mid : StoreValue D) (source : Source) (target : Option FileNo) (dropped : List MapUid) (moved ps : List MapPlace) → moved ≡ ps → IsStore k mid → AreFilesInOrder mid.files → mid.map ≡ old.map → mid.files.files ≡ target_synced source.target old.files.files
    → AreSwitchLists old.map source.file.0 source.copied.items moved dropped → IsTargetWritten target source old h → (target_named target ps ≤ mid.drawn.file) × All (λ place. HasRecord mid.map place.uid.0 (λ row. LiesBelowEnd mid.map.store mid.files.files (record row { file = target_named target ps; offset = place.offset }))) ps
places_below h k old mid source None dropped moved [] same is order maps files listed written = (omega arith, All-nil _)
places_below h k old mid source (Some t) dropped moved [] same is order maps files listed written = (omega arith, All-nil _)
places_below h k old mid source None dropped moved (place ∷ rest) same is order maps files listed written = none_moved old.map source.file.0 source.copied.items moved dropped place rest listed written same
places_below h k old mid source (Some t) dropped moved (place ∷ rest) same is order maps files listed written =
    let taken : is_taken_in t.0 mid.files.files ≡ true = ap (is_taken_in t.0) files ∙ synced_or (λ f. f.taken) false source.target t.0 old.files.files (λ f. refl) ∙ written.taken in
    let f = file_with (λ f. f.taken) (file_in t.0 mid.files.files) taken in
    let ends : end_in t.0 mid.files.files ≡ Some written.end = ap (end_in t.0) files ∙ synced_end source.target t.0 old.files.files ∙ written.ends in
    let within : All (λ p. HasRecord mid.map p.uid.0 (λ row. p.offset + row.size ≤ written.end)) moved = subst (λ (m : MapMeaning). All (λ p. HasRecord m p.uid.0 (λ row. p.offset + row.size ≤ written.end)) moved) (sym maps) (moved_copies (λ p. HasRecord old.map p.uid.0 (λ row. p.offset + row.size ≤ written.end)) old.map source.file.0 source.copied.items moved dropped listed written.within) in
    (drawn_of k mid t.0 f.0 is order f.1, subst (All (λ p. HasRecord mid.map p.uid.0 (λ row. LiesBelowEnd mid.map.store mid.files.files (record row { file = t.0; offset = p.offset })))) same (λ i d lt. place_below k mid t.0 written.end f.0 (get_or moved i d) is order f.1 f.2 ends (within i d lt)))

pub entry_ready : {D : Type 0} → (h k : Option History) (old mid : StoreValue D) (source : Source) (work : Work) (entry : MapEntry) → IsStore k mid → AreFilesInOrder mid.files → length mid.map.records ≤ 4294967295 → mid.map ≡ old.map → mid.map_log ≡ old.map_log → mid.files.files ≡ target_synced source.target old.files.files
    → ReadsMail h k → KeepsTarget source.target h k → IsReadyToSwitch source work old h → IsSwitchEntry old.map source entry → IsReadyAppend source.file.0 entry mid k × (length (map_text entry) ≤ length work.text.items)
entry_ready h k old mid source work entry is order few maps logs files reads held ready of =
    let listed = of.listed in
    let sound : IsSoundMap old.map = subst IsSoundMap maps (store_sound k mid is) in
    let emptied : is_emptied_in source.file.0 mid.files.files ≡ true = ap (is_emptied_in source.file.0) files ∙ synced_or (λ f. f.emptied) false source.target source.file.0 old.files.files (λ f. refl) ∙ ready.emptied in
    let f = file_with (λ x. x.emptied) (file_in source.file.0 mid.files.files) emptied in
    let number = number_of k mid source.file.0 f.0 is order f.1 in
    let fit = target_fits_mid h k old mid source source.target is order files ready.target in
    let range = entry_in_range old.map source.file source.target source.copied.items of.moved of.dropped sound (subst (λ (m : MapMeaning). length m.records ≤ 4294967295) maps few) number listed ready.here fit in
    let short = entry_short old.map source.file (target_named source.target of.moved) source.copied.items of.moved of.dropped sound listed ready.here range in
    let log = ready.log in
    let text = ready.text in
    let room = ap (λ v. v.room) logs in
    subst (λ (e : MapEntry). IsReadyAppend source.file.0 e mid k × (length (map_text e) ≤ length work.text.items)) (sym of.is) (
      record {
        switches = refl;
        range = range;
        fits = subst (λ (m : MapMeaning). FitsPurged m source.file.0 (target_named source.target of.moved) of.moved of.dropped) (sym maps) (entry_fits old.map source.file.0 source.target source.copied.items of.moved of.dropped sound number listed ready.here ready.every fit);
        emptied = emptied;
        room = omega (arith, short, log, room);
        places = places_below h k old mid source source.target of.dropped of.moved of.moved refl is order maps files listed ready.target;
        copies = subst (λ (m : MapMeaning). IfTold k (λ now. AreCopied (files_of now) m (target_named source.target of.moved) of.moved)) (sym maps) (copies_as old mid h k source.target source.file.0 source.copied.items of.dropped source of.moved of.moved refl reads listed refl ready.target);
        synced = subst (λ (m : MapMeaning). IfTold k (λ now. AreCopiesSynced now m (target_named source.target of.moved) of.moved)) (sym maps) (synced_as old h k source.target source.file.0 source.copied.items of.dropped source of.moved of.moved refl reads held listed refl ready.target);
      },
      omega (arith, short, text),
    )

-- ---- the present source

pub heads : (xs : List Source) (a b : Source) (left rest : List Source) → xs ≡ a ∷ left → xs ≡ b ∷ rest → a ≡ b
heads xs a b left rest e f = let w : a ∷ left ≡ b ∷ rest = sym e ∙ f in cc w

pub first_is : (P : Source → Type 0) (xs : List Source) (source : Source) (left : List Source) → xs ≡ source ∷ left → IsFirst xs P → P source
first_is P xs source left e first = let h : IsFirst (source ∷ left) P = subst (λ (ys : List Source). IsFirst ys P) e first in h

pub spent_is : (xs ys : List Source) (source : Source) (left : List Source) → xs ≡ source ∷ left → SpendsFirst xs ys → (spent : Source) × (ys ≡ spent ∷ left) × (spent.file ≡ source.file) × (spent.target ≡ source.target)
spent_is xs ys source left e spends = let h : SpendsFirst (source ∷ left) ys = subst (λ (zs : List Source). SpendsFirst zs ys) e spends in h

-- the target is synced, and the entry can be appended
pub record IsPrepared {D : Type 0} (source : Source) (present : Present) (work : Work) (entry : MapEntry) (old mid : StoreValue D) (k : Option History) : Type 0 where
  pub file_is : present.file ≡ source.file
  pub target_is : present.target ≡ source.target
  pub first : mid ≡ mid_of source.target mid.disk old
  pub of : IsSwitchEntry old.map source entry
  pub append : IsReadyAppend present.file.0 entry mid k
  pub text : length (map_text entry) ≤ length work.text.items

pub prepared : {D : Type 0} → (work : Work) (source : Source) (left rest : List Source) (present : Present) (entry : MapEntry) (old mid : StoreValue D) (h k : Option History) (m1 m2 : MapMeaning) → sources_left work ≡ source ∷ left → ((s : Source) × (sources_left work ≡ s ∷ rest) × IsPresent s present)
    → mid ≡ mid_of present.target mid.disk old → IsStore k mid → AreFilesInOrder mid.files → IsMapInOrder m1 → m1 ≡ mid.map → m2 ≡ mid.map → ReadsMail h k → KeepsTarget present.target h k → IsReadyToSwitch source work old h → IsFirst (sources_left work) (λ s. IsSwitchEntry m2 s entry) → IsPrepared source present work entry old mid k
prepared work source left rest present entry old mid h k m1 m2 e pres ok is order kept m1_is m2_is reads held ready firsts =
    let same : pres.0 ≡ source = heads (sources_left work) pres.0 source rest left pres.1 e in
    let file_is : present.file ≡ source.file = pres.2.0 ∙ ap (λ (s : Source). s.file) same in
    let target_is : present.target ≡ source.target = pres.2.1 ∙ ap (λ (s : Source). s.target) same in
    let first = subst (λ (t : Option FileNo). mid ≡ mid_of t mid.disk old) target_is ok in
    let maps : mid.map ≡ old.map = ap (λ (v : StoreValue _). v.map) first in
    let of = subst (λ (m : MapMeaning). IsSwitchEntry m source entry) (m2_is ∙ maps) (first_is (λ s. IsSwitchEntry m2 s entry) (sources_left work) source left e firsts) in
    let few : length mid.map.records ≤ 4294967295 = subst (λ (m : MapMeaning). length m.records ≤ 4294967295) m1_is (let a = kept.records.few in let b = kept.fits in omega (arith, a, b)) in
    let all = entry_ready h k old mid source work entry is order few maps (ap (λ (v : StoreValue _). v.map_log) first) (ap (λ (v : StoreValue _). v.files.files) first) reads (subst (λ (t : Option FileNo). KeepsTarget t h k) target_is held) ready of in
    record {
      file_is = file_is;
      target_is = target_is;
      first = first;
      of = of;
      append = subst (λ (f : FileNo). IsReadyAppend f.0 entry mid k) (sym file_is) all.0;
      text = all.1;
    }

pub listable_of : {D : Type 0} → (work : Work) (source : Source) (left : List Source) (old mid : StoreValue D) (target : Option FileNo) (h : Option History) (m2 : MapMeaning) → sources_left work ≡ source ∷ left → mid ≡ mid_of target mid.disk old → m2 ≡ mid.map → IsReadyToSwitch source work old h → IsFirst (sources_left work) (IsListable m2)
listable_of work source left old mid target h m2 e ok m2_is ready =
    subst (λ (xs : List Source). IsFirst xs (IsListable m2)) (sym e) (subst (λ (m : MapMeaning). IsListable m source) (sym (m2_is ∙ ap (λ (v : StoreValue _). v.map) ok)) (record { once = ready.once; room = ready.lists.1; undropped = ready.undropped }))

pub spends : (old : Work) (P : Source → Type 0) (item new : Source) → IsFirst (sources_left old) P → item ≡ get_or old.sources.items old.next item → new.file ≡ item.file → new.target ≡ item.target → SpendsFirst (sources_left old) (sources_left (record old { sources = with_item old.sources old.next new }))
spends old P item new first read file_is target_is =
    let lt : old.next < length old.sources.items = elim (cases_lt old.next (length old.sources.items)) [
      | inl l ↦ l
      | inr ge ↦ absurd (subst (λ (xs : List Source). IsFirst xs P) (drop_all old.next old.sources.items ge) first)
    ] in
    let before : sources_left old ≡ item ∷ drop (old.next + 1) old.sources.items = drop_more old.sources.items old.next item lt ∙ ap (λ (s : Source). s ∷ drop (old.next + 1) old.sources.items) (sym read) in
    subst (λ (xs : List Source). SpendsFirst xs (drop old.next (set old.sources.items old.next new))) (sym before) (new, drop-set old.sources.items old.next new lt, file_is, target_is)
