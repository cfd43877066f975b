-- A purge stays ready for its next event beside every event of every other task.
use Rattle.purge_task.proofs.Common.{◌≡◌, ◌≢◌, ◌≤◌, ◌<◌, ◌+◌, ◌==◌, ◌&&◌, ℕ, zero, suc, ◌-◌, Bool, true, false, List, [], ◌∷◌, drop, length, take, get_or, Option, Some, None, refl, sym, ◌∙◌, ap, subst, arith, All, inl, inr, if◌then◌else◌, list_any, IfSome, option_and_then, option_map, option_map_or}
use Rattle.purge_task.proofs.Common.{cases_eq, eq-eqb, eqb-true, All-cons, All-contains, All-head, All-nil, All-tail, sum_by-cons, DiskState, FileState, History, MayLeave, reading, Mail, between-both, between-on, MapPlace, FileNo, AreCopied, IsCopiedTo, HasRecord, size_at, MapMeaning, MapRecord}
use Rattle.purge_task.proofs.Common.{record_at, found_one, files_of, MailFile, AreFilesInOrder, file_in, is_taken_in, pins_in, with_pins, IsStore, StoreValue, store_sound, named_reads, Claims, Emptied, Removing, Taken, one_if, IsSameOrSynced, LeavesOthers, but_count, records_within}
use Rattle.purge_task.proofs.Common.{claims_of_sources, claims_of_switched, purge_claims, sources_left, AreCopiedUpTo, HasPurged, HasSwitchRoom, HasTargetHeader, IsBeginningFirst, IsCopyingFirst, IsCopyingTo, IsRemovingFirst, IsTargetToMake, IsToBegin, PurgeValue, target_header, PurgeStage, Source}
use Rattle.purge_task.proofs.Common.{Work}
use Rattle.disk_model.proofs.OneFileLemmas.{named-narrows}
use Rattle.task_claims.specs.Leaving.{known_but_pins}
use Rattle.task_claims.specs.Stable.{Beside}
use Rattle.task_claims.proofs.LeftLemmas.{emptied_left, removing_left, taken_left}
use Rattle.purge_task.specs.Keeping.{AreCopiesInRow, HasCountRoom, IsReadyToPurge, IsToMake}
use Rattle.purge_task.specs.Left.{purge_left}
use Rattle.purge_task.specs.declared.task.PurgeStage.TheVariants as stage
use Rattle.purge_task.proofs.WithinCountLemmas.{AreAlikeWithin, each_within, elsewhere_within, fits_within, is_so, messages_within, target_within, unwanted_within}

-- ---- what is known of a file

known_same : {D : Type 0} → {Y : Type 0} → (value : Option MailFile → Y) → ((f : MailFile) → value (Some (with_pins 0 f)) ≡ value (Some f)) → (n : ℕ) (old new : StoreValue D) → known_but_pins n new ≡ known_but_pins n old → value (file_in n new.files.files) ≡ value (file_in n old.files.files)
known_same value unpinned n old new same = sym (through (file_in n new.files.files)) ∙ (ap value same ∙ through (file_in n old.files.files))
  where
    through : (o : Option MailFile) → value (option_map (with_pins 0) o) ≡ value o
    through None = refl
    through (Some f) = unpinned f

-- a file that is known was drawn
known_drawn : {D : Type 0} → (n : ℕ) (store : StoreValue D) (history : Option History) → IsStore history store → AreFilesInOrder store.files → is_taken_in n store.files.files ≡ true → n ≤ store.drawn.file
known_drawn n store history is order taken = by_case (file_in n store.files.files) refl
  where
    by_case : (o : Option MailFile) → file_in n store.files.files ≡ o → n ≤ store.drawn.file
    by_case None e = absurd (let k : false ≡ true = sym (ap (λ (o : Option MailFile). option_map_or (λ f. f.taken) o false) e) ∙ taken in cc k)
    by_case (Some f) e =
        let there = found_one (λ (g : MailFile). g.file.0 == n) store.files.files f e in
        let l = All-contains (λ (g : MailFile). g.file.0 ≤ store.files.highest) store.files.files f order.below there.0 in
        let same = eqb-true f.file.0 n there.1 in
        let high = is.files.highest in
        omega (arith, l, same, high)

same_reads : (a b : FileState) → IsSameOrSynced a b → reading b ≡ reading a
same_reads a b (inl e) = ap reading e
same_reads a b (inr e) = ap reading e ∙ named_reads a

stays_there : (a b : FileState) → IsSameOrSynced a b → (MayLeave a None → ⊥) → MayLeave b None → ⊥
stays_there a b (inl e) held left = held (subst (λ (f : FileState). MayLeave f None) e left)
stays_there a b (inr e) held left = held (named-narrows a None (subst (λ (f : FileState). MayLeave f None) e left))

-- ---- beside an event

-- An event of another task, and what is known of the store before it and after it.
pub record PassesPurge {D : Type 0} (theirs : Claims) (old new : StoreValue D) (before after : Option History) : Type 0 where
  pub was : IsStore before old
  pub is : IsStore after new
  pub order : AreFilesInOrder new.files
  pub beside : Beside theirs old new before after

alike : {D : Type 0} → (theirs : Claims) (n : ℕ) (old new : StoreValue D) (before after : Option History) → PassesPurge theirs old new before after → records_within n new.map ≡ records_within n old.map → AreAlikeWithin n old.map new.map
alike theirs n old new before after p same = record { was_sound = store_sound before old p.was; sound = store_sound after new p.is; same = same; unraised = p.beside.leaves.unraised }

-- It claims the source, and its target if it has one.
pub record ClaimsSource (theirs : Claims) (s : Source) : Type 0 where
  pub source : 1 ≤ theirs (Emptied s.file.0)
  pub target : IfSome s.target (λ t. 1 ≤ theirs (Taken t.0))

-- ---- a source that is to begin

room_stays : {D : Type 0} → (theirs : Claims) (work : Work) (s : Source) (old new : StoreValue D) (before after : Option History) → PassesPurge theirs old new before after → records_within s.file.0 new.map ≡ records_within s.file.0 old.map → HasSwitchRoom work old s → HasSwitchRoom work new s
room_stays theirs work s old new before after p same h =
    let e = messages_within s.file.0 old.map new.map same in
    let more = p.beside.leaves.room in
    let a = h.lists.0 in
    let b = h.lists.1 in
    let text = h.text in
    let log = h.log in
    record { lists = (omega (arith, e, a), omega (arith, e, b)); text = omega (arith, e, text); log = omega (arith, e, log, more) }

to_make_stays : {D : Type 0} → (theirs : Claims) (t : ℕ) (old new : StoreValue D) (before after : Option History) → PassesPurge theirs old new before after → 1 ≤ theirs (Taken t) → IsToMake t old → IsToMake t new
to_make_stays theirs t old new before after p claimed h =
    let l = taken_left theirs old new before after t p.beside claimed in
    record {
      taken = l.1;
      unmade = known_same (λ (o : Option MailFile). option_and_then (λ f. f.end) o) (λ f. refl) t old new l.0.known ∙ h.unmade;
      drawn = known_drawn t new after p.is p.order l.1;
      unnamed = elsewhere_within t old.map new.map l.0.records h.unnamed;
    }

begin_stays : {D : Type 0} → (theirs : Claims) (work : Work) (s : Source) (old new : StoreValue D) (before after : Option History) → PassesPurge theirs old new before after → ClaimsSource theirs s → IsToBegin work old s → IsToBegin work new s
begin_stays theirs work s old new before after p claims h =
    let l = emptied_left theirs old new before after s.file.0 p.beside claims.source in
    let a = alike theirs s.file.0 old new before after p l.0.records in
    let less = target_within s.file.0 old.map new.map a in
    let short = h.short in
    record {
      emptied = l.1;
      target = by_target a s.target claims.target h.target;
      short = omega (arith, less, short);
      uncopied = h.uncopied;
      undropped = h.undropped;
      room = room_stays theirs work s old new before after p l.0.records h.room;
    }
  where
    by_target : AreAlikeWithin s.file.0 old.map new.map → (o : Option FileNo) → IfSome o (λ t. 1 ≤ theirs (Taken t.0)) → IsTargetToMake s.file.0 o old → IsTargetToMake s.file.0 o new
    by_target a None claimed k = unwanted_within s.file.0 old.map new.map a k
    by_target a (Some t) claimed k = (to_make_stays theirs t.0 old new before after p claimed k.0, k.1, k.2)

all_begin_stay : {D : Type 0} → (theirs : Claims) (work : Work) (left : List Source) (old new : StoreValue D) (before after : Option History) → PassesPurge theirs old new before after → All (ClaimsSource theirs) left → All (IsToBegin work old) left → All (IsToBegin work new) left
all_begin_stay theirs work [] old new before after p claims h = All-nil _
all_begin_stay theirs work (s ∷ left) old new before after p claims h =
    All-cons (IsToBegin work new) s left (begin_stays theirs work s old new before after p (All-head (ClaimsSource theirs) s left claims) (All-head (IsToBegin work old) s left h))
    (all_begin_stay theirs work left old new before after p (All-tail (ClaimsSource theirs) s left claims) (All-tail (IsToBegin work old) s left h))

-- ---- one that is being copied

placed_stays : (file : ℕ) (m n : MapMeaning) (uid : ℕ) (P Q : MapRecord → Type 0) → AreAlikeWithin file m n → ((row : MapRecord) → P row → row.file ≡ file) → ((row now : MapRecord) → but_count now ≡ but_count row → P row → Q now) → HasRecord m uid P → HasRecord n uid Q
placed_stays file m n uid P Q a at to h =
    let w = is_so file m n uid h.0 a h.1 (at h.0 h.2) in
    (w.0, w.1, to h.0 w.0 w.2 h.2)

-- of the record at a map uid that lies in the file
of_record : (m : MapMeaning) (uid : ℕ) (P Q : MapRecord → Type 0) → HasRecord m uid P → HasRecord m uid Q → HasRecord m uid (λ row. P row × Q row)
of_record m uid P Q h k =
    let same : h.0 ≡ k.0 = (let e : Some h.0 ≡ Some k.0 = sym h.1 ∙ k.1 in cc e) in
    (h.0, h.1, (h.2, subst Q (sym same) k.2))

abbrev same_field : (row now : MapRecord) → but_count now ≡ but_count row → (f : MapRecord → ℕ) → ((r : MapRecord) → f (but_count r) ≡ f r) → f now ≡ f row
same_field row now e f uncounted = sym (uncounted now) ∙ (ap f e ∙ uncounted row)

in_row_stays : (file from last end offset : ℕ) (places : List MapPlace) (m n : MapMeaning) → AreAlikeWithin file m n → All (λ place. HasRecord m place.uid.0 (λ row. (row.file ≡ file) × (row.offset + row.size ≤ from) × (place.offset + row.size ≤ last))) places → AreCopiesInRow m offset places end → AreCopiesInRow n offset places end
in_row_stays file from last end offset [] m n a there h = h
in_row_stays file from last end offset (p ∷ ps) m n a there h =
    (h.0, subst (λ (size : ℕ). AreCopiesInRow n (offset + size) ps end) (sym same) (in_row_stays file from last end (offset + size_at m p.uid.0) ps m n a (All-tail (λ (place : MapPlace). HasRecord m place.uid.0 (λ row. (row.file ≡ file) × (row.offset + row.size ≤ from) × (place.offset + row.size ≤ last))) p ps there) h.1))
  where
    has : HasRecord m p.uid.0 (λ row. (row.file ≡ file) × (row.offset + row.size ≤ from) × (p.offset + row.size ≤ last))
    has = All-head (λ (place : MapPlace). HasRecord m place.uid.0 (λ row. (row.file ≡ file) × (row.offset + row.size ≤ from) × (place.offset + row.size ≤ last))) p ps there

    now : (r : MapRecord) × (record_at n p.uid.0 ≡ Some r) × (but_count r ≡ but_count has.0)
    now = is_so file m n p.uid.0 has.0 a has.1 has.2.0

    size_of : Option MapRecord → ℕ
    size_of o = option_map_or (λ r. r.size) o 0

    same : size_at n p.uid.0 ≡ size_at m p.uid.0
    same = ap size_of now.1 ∙ (same_field has.0 now.0 now.2 (λ r. r.size) (λ r. refl) ∙ sym (ap size_of has.1))

copied_stays : (file from end : ℕ) (copied : List MapPlace) (m n : MapMeaning) → AreAlikeWithin file m n → AreCopiedUpTo file from end copied m → AreCopiedUpTo file from end copied n
copied_stays file from end copied m n a h =
    let less = fits_within file from m n a in
    let fits = h.fits in
    record {
      there = λ i d lt. there (get_or copied i d) (h.there i d lt);
      every = each_within file m n (λ row. row.offset < from → 1 ≤ row.count → list_any (λ (place : MapPlace). place.uid.0 == row.uid) copied ≡ true) (λ row. row.offset < from → 1 ≤ row.count → list_any (λ (place : MapPlace). place.uid.0 == row.uid) copied ≡ true) a every h.every;
      once = h.once;
      row = in_row_stays file from end end (length target_header) copied m n a h.there h.row;
      fits = omega (arith, less, fits);
    }
  where
    there : (place : MapPlace) → HasRecord m place.uid.0 (λ row. (row.file ≡ file) × (row.offset + row.size ≤ from) × (place.offset + row.size ≤ end)) → HasRecord n place.uid.0 (λ row. (row.file ≡ file) × (row.offset + row.size ≤ from) × (place.offset + row.size ≤ end))
    there place k = placed_stays file m n place.uid.0 (λ row. (row.file ≡ file) × (row.offset + row.size ≤ from) × (place.offset + row.size ≤ end)) (λ row. (row.file ≡ file) × (row.offset + row.size ≤ from) × (place.offset + row.size ≤ end)) a (λ row q. q.0)
        (λ row now e q.
        let f = same_field row now e (λ r. r.file) (λ r. refl) in
        let o = same_field row now e (λ r. r.offset) (λ r. refl) in
        let s = same_field row now e (λ r. r.size) (λ r. refl) in
        let l = q.1 in
        let g = q.2 in
        (f ∙ q.0, omega (arith, o, s, l), omega (arith, s, g))) k

    every : (was row : MapRecord) → but_count was ≡ but_count row → (was.count ≡ 0 → row.count ≡ 0) → (was.offset < from → 1 ≤ was.count → list_any (λ (place : MapPlace). place.uid.0 == was.uid) copied ≡ true) → row.offset < from → 1 ≤ row.count → list_any (λ (place : MapPlace). place.uid.0 == row.uid) copied ≡ true
    every was row e none q below some =
        let o = same_field row was e (λ r. r.offset) (λ r. refl) in
        let u = same_field row was e (λ r. r.uid) (λ r. refl) in
        subst (λ (uid : ℕ). list_any (λ (place : MapPlace). place.uid.0 == uid) copied ≡ true) u (q (omega (arith, o, below)) (by_count was.count none))
      where
        by_count : (n : ℕ) → (n ≡ 0 → row.count ≡ 0) → 1 ≤ n
        by_count zero z = absurd (let k = z refl in omega (arith, k, some))
        by_count (suc k) z = omega arith

-- both files read as they did
copied_on : (target offset : ℕ) (a b : DiskState) (row now : MapRecord) → but_count now ≡ but_count row → reading (b (Mail row.file)) ≡ reading (a (Mail row.file)) → reading (b (Mail target)) ≡ reading (a (Mail target)) → IsCopiedTo (files_of a) target offset row → IsCopiedTo (files_of b) target offset now
copied_on target offset a b row now e source reads c =
    let at = same_field row now e (λ r. r.file) (λ r. refl) in
    let o = same_field row now e (λ r. r.offset) (λ r. refl) in
    let s = same_field row now e (λ r. r.size) (λ r. refl) in
    let first_holds = c.first_holds in
    let second_holds = c.second_holds in
    record {
      first = c.first;
      second = c.second;
      in_first = ap (λ (k : ℕ). reading (b (Mail k))) at ∙ (source ∙ c.in_first);
      in_second = reads ∙ c.in_second;
      first_holds = omega (arith, first_holds, o, s);
      second_holds = omega (arith, second_holds, s);
      same = ap (λ (k : ℕ). take k (drop offset c.second)) s ∙ (c.same ∙ sym (ap (λ (k : ℕ). take now.size (drop k c.first)) o ∙ ap (λ (k : ℕ). take k (drop row.offset c.first)) s));
    }

octets_stay : (file target from end : ℕ) (copied : List MapPlace) (m n : MapMeaning) (a b : DiskState) → AreAlikeWithin file m n → AreCopiedUpTo file from end copied m → reading (b (Mail file)) ≡ reading (a (Mail file)) → reading (b (Mail target)) ≡ reading (a (Mail target)) → AreCopied (files_of a) m target copied → AreCopied (files_of b) n target copied
octets_stay file target from end copied m n a b same up source reads h = λ i d lt. one (get_or copied i d) (up.there i d lt) (h i d lt)
  where
    one : (place : MapPlace) → HasRecord m place.uid.0 (λ row. (row.file ≡ file) × (row.offset + row.size ≤ from) × (place.offset + row.size ≤ end)) → HasRecord m place.uid.0 (IsCopiedTo (files_of a) target place.offset) → HasRecord n place.uid.0 (IsCopiedTo (files_of b) target place.offset)
    one place k q =
        placed_stays file m n place.uid.0 (λ row. ((row.file ≡ file) × (row.offset + row.size ≤ from) × (place.offset + row.size ≤ end)) × IsCopiedTo (files_of a) target place.offset row) (IsCopiedTo (files_of b) target place.offset) same (λ row z. z.0.0)
        (λ row now e z. copied_on target place.offset a b row now e (subst (λ (f : ℕ). reading (b (Mail f)) ≡ reading (a (Mail f))) (sym z.0.0) source) reads z.1)
        (of_record m place.uid.0 (λ row. (row.file ≡ file) × (row.offset + row.size ≤ from) × (place.offset + row.size ≤ end)) (IsCopiedTo (files_of a) target place.offset) k q)

copying_stays : {D : Type 0} → (theirs : Claims) (target : ℕ) (s : Source) (work : Work) (old new : StoreValue D) (before after : Option History) → PassesPurge theirs old new before after → 1 ≤ theirs (Emptied s.file.0) → 1 ≤ theirs (Taken target) → IsCopyingTo target s work old before → IsCopyingTo target s work new after
copying_stays theirs target s work old new before after p source claimed h =
    let l = taken_left theirs old new before after target p.beside claimed in
    let k = emptied_left theirs old new before after s.file.0 p.beside source in
    let a = alike theirs s.file.0 old new before after p k.0.records in
    record {
      taken = l.1;
      begun = known_same (λ (o : Option MailFile). option_and_then (λ f. f.begun) o) (λ f. refl) target old new l.0.known ∙ h.begun;
      end = h.end;
      ends = known_same (λ (o : Option MailFile). option_and_then (λ f. f.end) o) (λ f. refl) target old new l.0.known ∙ h.ends;
      drawn = known_drawn target new after p.is p.order l.1;
      unnamed = elsewhere_within target old.map new.map l.0.records h.unnamed;
      behind = h.behind;
      copied = copied_stays s.file.0 work.from h.end s.copied.items old.map new.map a h.copied;
      header = between-on (λ x y. IsSameOrSynced (x (Mail target)) (y (Mail target))) (λ now. HasTargetHeader (files_of now (Mail target))) (λ now. HasTargetHeader (files_of now (Mail target))) before after (λ x y u begins. (begins.0, same_reads (x (Mail target)) (y (Mail target)) u ∙ begins.1)) l.0.state h.header;
      octets = between-on (λ x y. (IsSameOrSynced (x (Mail s.file.0)) (y (Mail s.file.0))) × (IsSameOrSynced (x (Mail target)) (y (Mail target)))) (λ now. AreCopied (files_of now) old.map target s.copied.items) (λ now. AreCopied (files_of now) new.map target s.copied.items) before after
          (λ x y both are. octets_stay s.file.0 target work.from h.end s.copied.items old.map new.map x y a h.copied (same_reads (x (Mail s.file.0)) (y (Mail s.file.0)) both.0) (same_reads (x (Mail target)) (y (Mail target)) both.1) are)
          (between-both (λ x y. IsSameOrSynced (x (Mail s.file.0)) (y (Mail s.file.0))) (λ x y. IsSameOrSynced (x (Mail target)) (y (Mail target))) (λ x y. (IsSameOrSynced (x (Mail s.file.0)) (y (Mail s.file.0))) × (IsSameOrSynced (x (Mail target)) (y (Mail target)))) before after (λ x y u v. (u, v)) k.0.state l.0.state) h.octets;
      stays = between-on (λ x y. IsSameOrSynced (x (Mail target)) (y (Mail target))) (λ now. MayLeave (now (Mail target)) None → ⊥) (λ now. MayLeave (now (Mail target)) None → ⊥) before after (λ x y u held. stays_there (x (Mail target)) (y (Mail target)) u held) l.0.state h.stays;
    }

-- ---- by stage

abbrev is_file : ℕ → Source → ℕ
is_file file s = if s.file.0 == file then 1 else 0

abbrev is_target : ℕ → Source → ℕ
is_target file s = if option_map_or (λ t. t.0 == file) s.target false then 1 else 0

abbrev ClaimsMore : Claims → List Source → Type 0
ClaimsMore theirs left = ((file : ℕ) → claims_of_sources left (Emptied file) ≤ theirs (Emptied file)) × ((file : ℕ) → claims_of_sources left (Taken file) ≤ theirs (Taken file))

each_claimed : (theirs : Claims) (left : List Source) → ClaimsMore theirs left → All (ClaimsSource theirs) left
each_claimed theirs [] more = All-nil _
each_claimed theirs (s ∷ left) more =
    All-cons (ClaimsSource theirs) s left
    (record {
      source = (let a = more.0 s.file.0 in let b = sum_by-cons (is_file s.file.0) s left in let one : is_file s.file.0 s ≡ 1 = ap (λ (b : Bool). if b then 1 else 0) (eq-eqb s.file.0 s.file.0 refl) in omega (arith, a, b, one));
      target = by_target s.target refl;
    })
    (each_claimed theirs left ((λ file. let a = more.0 file in let b = sum_by-cons (is_file file) s left in omega (arith, a, b)), λ file. let a = more.1 file in let b = sum_by-cons (is_target file) s left in omega (arith, a, b)))
  where
    by_target : (o : Option FileNo) → s.target ≡ o → IfSome o (λ t. 1 ≤ theirs (Taken t.0))
    by_target None e = tt
    by_target (Some t) e =
        let a = more.1 t.0 in
        let b = sum_by-cons (is_target t.0) s left in
        let one : is_target t.0 s ≡ 1 = ap (λ (o : Option FileNo). if option_map_or (λ u. u.0 == t.0) o false then 1 else 0) e ∙ ap (λ (b : Bool). if b then 1 else 0) (eq-eqb t.0 t.0 refl) in
        omega (arith, a, b, one)

both_flags : (a b : Bool) → (a && b) ≡ true → (a ≡ true) × (b ≡ true)
both_flags true b e = (refl, e)
both_flags false b e = absurd (cc e)

stage_stable : {D : Type 0} → (s : PurgeStage) (old new : StoreValue D) (before after : Option History) → PassesPurge (purge_claims s) old new before after → HasPurged s old before → HasPurged s new after
stage_stable stage.First old new before after p h = tt
stage_stable (stage.Begin work) old new before after p h = (h.0, h.1, by_left (sources_left work) ((λ file. omega arith), λ file. omega arith) h.2)
  where
    by_left : (left : List Source) → ClaimsMore (purge_claims (stage.Begin work)) left → IsBeginningFirst left work old → IsBeginningFirst left work new
    by_left [] more k = absurd k
    by_left (s ∷ left) more k = (k.0, all_begin_stay (purge_claims (stage.Begin work)) work (s ∷ left) old new before after p (each_claimed (purge_claims (stage.Begin work)) (s ∷ left) more) k.1)
stage_stable (stage.Copying work) old new before after p h = (h.0, h.1, by_left (sources_left work) ((λ file. omega arith), λ file. omega arith) h.2)
  where
    by_left : (left : List Source) → ClaimsMore (purge_claims (stage.Copying work)) left → IsCopyingFirst left work old before → IsCopyingFirst left work new after
    by_left [] more k = absurd k
    by_left (s ∷ left) more k =
        let claims = each_claimed (purge_claims (stage.Copying work)) (s ∷ left) more in
        let mine = All-head (ClaimsSource (purge_claims (stage.Copying work))) s left claims in
        let l = emptied_left (purge_claims (stage.Copying work)) old new before after s.file.0 p.beside mine.source in (
          record {
            emptied = l.1;
            undropped = k.0.undropped;
            room = room_stays (purge_claims (stage.Copying work)) work s old new before after p l.0.records k.0.room;
            target = k.0.target;
            target_is = k.0.target_is;
            copying = copying_stays (purge_claims (stage.Copying work)) k.0.target.0 s work old new before after p mine.source (subst (λ (o : Option FileNo). IfSome o (λ t. 1 ≤ purge_claims (stage.Copying work) (Taken t.0))) k.0.target_is mine.target) k.0.copying;
          },
          all_begin_stay (purge_claims (stage.Copying work)) work left old new before after p (All-tail (ClaimsSource (purge_claims (stage.Copying work))) s left claims) k.1,
        )
stage_stable (stage.Removing work) old new before after p h = (h.0, h.1, by_left (sources_left work) ((λ file. omega arith), λ file. omega arith) (λ file. omega arith) h.2)
  where
    by_left : (left : List Source) → ClaimsMore (purge_claims (stage.Removing work)) (drop 1 left) → ((file : ℕ) → claims_of_switched left (Removing file) ≤ purge_claims (stage.Removing work) (Removing file)) → IsRemovingFirst left work old → IsRemovingFirst left work new
    by_left [] more own k = absurd k
    by_left (s ∷ left) more own k =
        let one : one_if (s.file.0 == s.file.0) ≡ 1 = ap one_if (eq-eqb s.file.0 s.file.0 refl) in
        let l = removing_left (purge_claims (stage.Removing work)) old new before after s.file.0 p.beside (let o = own s.file.0 in omega (arith, o, one)) in
        let flags = both_flags _ _ l.1 in (
          flags.0,
          eqb-true (pins_in s.file.0 new.files.files) 0 flags.1,
          elsewhere_within s.file.0 old.map new.map l.0.records k.2,
          all_begin_stay (purge_claims (stage.Removing work)) work left old new before after p (each_claimed (purge_claims (stage.Removing work)) left more) k.3,
        )
stage_stable stage.Instances old new before after p h = tt

-- what it counts fits still
counts_stay : {D : Type 0} → (t : PurgeValue) (mine : Claims) (old new : StoreValue D) (before after : Option History) → LeavesOthers mine old new before after → HasCountRoom t old → HasCountRoom t new
counts_stay t mine old new before after leaves h = λ begun.
    let low = h begun in
    let few = leaves.numbers.few in
    let counted = low.instances in
    record { dropped = low.dropped; files = low.files; instances = omega (arith, few, counted) }

pub purge_stable : {D : Type 0} → (t : PurgeValue) (old new : StoreValue D) (before after : Option History) → IsStore before old → IsStore after new → AreFilesInOrder new.files → Beside (purge_claims t.stage) old new before after → IsReadyToPurge t old before → IsReadyToPurge t new after
purge_stable t old new before after was is order beside h =
    (stage_stable t.stage old new before after (record { was = was; is = is; order = order; beside = beside }) h.0, counts_stay t beside.mine old new before after beside.leaves h.1)

-- ---- how much is left

fewer : (known known_now drawn drawn_now : ℕ) → drawn ≤ drawn_now → known_now + drawn ≤ known + drawn_now → (drawn_now ≢ drawn → drawn_now ≤ 4294967294) → known_now + (4294967295 - drawn_now) ≤ known + (4294967295 - drawn)
fewer known known_now drawn drawn_now up few last = elim (cases_eq drawn_now drawn) [
  | inl same ↦ omega (arith, same, few)
  | inr other ↦ let l = last other in omega (arith, up, few, l)
]

pub left_stays : {D : Type 0} → (s : PurgeStage) (mine : Claims) (old new : StoreValue D) (before after : Option History) → LeavesOthers mine old new before after → purge_left s new ≤ purge_left s old
left_stays s mine old new before after leaves =
    let l = fewer (length old.instances.known) (length new.instances.known) old.instances.highest new.instances.highest leaves.numbers.drawn leaves.numbers.few leaves.numbers.last in
    omega (arith, l)
