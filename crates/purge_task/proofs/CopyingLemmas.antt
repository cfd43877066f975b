-- The file of which a message is copied, and its target, which has grown.
use Rattle.purge_task.proofs.Common.{◌≡◌, ◌≢◌, ◌≤◌, ◌<◌, ◌+◌, ◌==◌, ◌&&◌, ◌++◌, ℕ, Bool, true, false, cond, List, [], ◌∷◌, length, append_assoc, Option, Some, None, All, refl, sym, ◌∙◌, ap, subst, arith, inl, inr, IfSome, option_and_then, option_map, option_map_or, cases_eq, eq-eqb, All-cons}
use Rattle.purge_task.proofs.Common.{All-head, All-nil, All-tail, sum_by-cons, Between, DiskState, FileState, History, reading, between-map, MapPlace, FileNo, MapRow, IsSoundMap, pairs_head, IsUsedFile, changed_in, end_in, ending_at, file_in, is_emptied_in, is_taken_in, place_begun_in, IsPieceAdded}
use Rattle.purge_task.proofs.Common.{MailFile, file-here, file-other, StoreValue, Due, Emptied, Held, Made, Pinned, PlacingPieces, Removing, Taken, Thing, amount_in, one_if, OnlyGrows, OthersTook, claims_of_sources, purge_claims, sources_left, IsNextWanted, AreCopiedUpTo, AreSourcesApart, HasPurged}
use Rattle.purge_task.proofs.Common.{HasSwitchRoom, HasTargetHeader, IsCopyingFirst, IsCopyingTo, IsTargetFirst, IsTargetToMake, IsToBegin, target_header, Source, Work}
use Rattle.disk_model.specs.declared.name.FileName.TheVariants as file
use Rattle.storage_files.proofs.FileListLemmas.{ends-here, ends-other}
use Rattle.purge_task.specs.Copied.{IsNextWantedFirst, IsShownRow}
use Rattle.purge_task.specs.Reserved.{HasRoomForCopy}
use Rattle.purge_task.specs.declared.task.PurgeStage.TheVariants as stage
use Rattle.purge_task.proofs.CopiedMoreLemmas.{copied_more}
use Rattle.purge_task.proofs.CopyRoomLemmas.{room_for_copy}
use Rattle.purge_task.proofs.GivenBackLemmas.{IsGivenBack, adding_of, emptying_of, pinned_of, placing_of, removing_of, taken_back}
use Rattle.purge_task.proofs.RegionLemmas.{file_as, with_end}
use Rattle.purge_task.proofs.SameSeenLemmas.{IsGrownOf}

-- ---- the present file

-- Its messages are being copied to this target, and this one is the next that is wanted.
pub record IsCopyingOne {D : Type 0} (work : Work) (source : Source) (left : List Source) (target : FileNo) (row : MapRow) (store : StoreValue D) (history : Option History) : Type 0 where
  pub left_are : sources_left work ≡ source ∷ left
  pub block : length work.block.items ≡ 65536
  pub apart : AreSourcesApart (source ∷ left)
  pub target_is : source.target ≡ Some target
  pub emptied : is_emptied_in source.file.0 store.files.files ≡ true
  pub undropped : source.dropped.items ≡ []
  pub room : HasSwitchRoom work store source
  pub copying : IsCopyingTo target.0 source work store history
  pub each : All (IsToBegin work store) left
  pub wanted : IsNextWanted store.map source.file.0 work.from row

pub first_left : (work : Work) (target : FileNo) → IsTargetFirst (sources_left work) target → (source : Source) × (left : List Source) × (sources_left work ≡ source ∷ left)
first_left work target is = by_left (sources_left work) refl is
  where
    by_left : (l : List Source) → sources_left work ≡ l → IsTargetFirst l target → (source : Source) × (left : List Source) × (sources_left work ≡ source ∷ left)
    by_left [] are none = absurd none
    by_left (source ∷ left) are is = (source, left, are)

pub copying_one : {D : Type 0} → (work : Work) (source : Source) (left : List Source) (target : FileNo) (row : MapRow) (store : StoreValue D) (history : Option History) → sources_left work ≡ source ∷ left → HasPurged (stage.Copying work) store history → IsTargetFirst (sources_left work) target
    → IsNextWantedFirst (sources_left work) work.from store.map row → All IsUsedFile store.files.files → IsCopyingOne work source left target row store history
copying_one work source left target row store history is h first_target next used =
    let first : IsCopyingFirst (source ∷ left) work store history = subst (λ (l : List Source). IsCopyingFirst l work store history) is h.2 in
    let target_is : source.target ≡ Some target = subst (λ (l : List Source). IsTargetFirst l target) is first_target in
    let e : Some first.0.target ≡ Some target = sym first.0.target_is ∙ target_is in
    let same : first.0.target ≡ target = cc e in
    let copying : IsCopyingTo target.0 source work store history = subst (λ (t : FileNo). IsCopyingTo t.0 source work store history) same first.0.copying in
    record {
      left_are = is;
      block = h.0;
      apart = subst AreSourcesApart is h.1;
      target_is = target_is;
      emptied = first.0.emptied;
      undropped = first.0.undropped;
      room = first.0.room;
      copying = copying;
      each = first.1;
      wanted = subst (λ (l : List Source). IsNextWantedFirst l work.from store.map row) is next;
    }

-- the copies with this one more, which the target has room for
pub more_copied : {D : Type 0} → (work : Work) (source : Source) (left : List Source) (target : FileNo) (row : MapRow) (store : StoreValue D) (history : Option History) (place : MapPlace) → IsSoundMap store.map → (one : IsCopyingOne work source left target row store history) → place.uid.0 ≡ one.wanted.r.uid → place.offset ≡ one.copying.end
    → AreCopiedUpTo source.file.0 (one.wanted.r.offset + one.wanted.r.size) (one.copying.end + one.wanted.r.size) (source.copied.items ++ place ∷ []) store.map
more_copied work source left target row store history place sound one uid at = copied_more store.map source.file.0 work.from one.copying.end source.copied.items row place sound one.copying.copied one.wanted uid at

-- ---- what a copy asks

row_at : {D : Type 0} → (work : Work) (source : Source) (left : List Source) (target : FileNo) (row : MapRow) (store : StoreValue D) (history : Option History) → IsCopyingOne work source left target row store history → IsShownRow store.map row
row_at work source left target row store history one = (one.wanted.r, one.wanted.there, one.wanted.shown)

copy_fits : {D : Type 0} → (work : Work) (source : Source) (left : List Source) (target : FileNo) (row : MapRow) (store : StoreValue D) (history : Option History) → IsSoundMap store.map → (one : IsCopyingOne work source left target row store history) → one.copying.end + row.size ≤ 4294967295
copy_fits work source left target row store history sound one =
    let place : MapPlace = record { uid = record { 0 = one.wanted.r.uid }; offset = one.copying.end } in
    let l = (more_copied work source left target row store history place sound one refl refl).fits in
    let size : row.size ≡ one.wanted.r.size = ap (λ (x : MapRow). x.size) one.wanted.shown in
    omega (arith, l, size)

copy_apart : {D : Type 0} → (work : Work) (source : Source) (left : List Source) (target : FileNo) (row : MapRow) (store : StoreValue D) (history : Option History) → IsCopyingOne work source left target row store history → row.file.0 ≢ target.0
copy_apart work source left target row store history one same =
    let a : row.file.0 ≡ one.wanted.r.file = ap (λ (x : MapRow). x.file.0) one.wanted.shown in
    let b = one.wanted.in_file in
    let l = one.copying.behind in
    omega (arith, a, b, l, same)

copy_room : {D : Type 0} → (work : Work) (source : Source) (left : List Source) (target : FileNo) (row : MapRow) (store : StoreValue D) (history : Option History) → IsSoundMap store.map → IsCopyingOne work source left target row store history → HasRoomForCopy (sources_left work)
copy_room work source left target row store history sound one =
    subst HasRoomForCopy (sym one.left_are) (room_for_copy store.map source work.from one.copying.end row sound one.copying.copied one.wanted one.room.lists.0)

-- what the call owes
pub record MayCopy {D : Type 0} (work : Work) (target : FileNo) (row : MapRow) (store : StoreValue D) : Type 0 where
  pub row_is : IsShownRow store.map row
  pub begun : (start : ℕ) × (place_begun_in target.0 store.files.files ≡ Some start)
  pub fits : (end : ℕ) × (end_in target.0 store.files.files ≡ Some end) × (end + row.size ≤ 4294967295)
  pub other : row.file.0 ≢ target.0
  pub block : length work.block.items ≡ 65536
  pub room : HasRoomForCopy (sources_left work)

pub may_copy : {D : Type 0} → (work : Work) (target : FileNo) (row : MapRow) (store : StoreValue D) (history : Option History) → IsSoundMap store.map → All IsUsedFile store.files.files → HasPurged (stage.Copying work) store history → IsTargetFirst (sources_left work) target → IsNextWantedFirst (sources_left work) work.from store.map row → MayCopy work target row store
may_copy work target row store history sound used h first next =
    let f = first_left work target first in
    let one = copying_one work f.0 f.1 target row store history f.2 h first next used in
    record {
      row_is = row_at work f.0 f.1 target row store history one;
      begun = (length target_header, one.copying.begun);
      fits = (one.copying.end, one.copying.ends, copy_fits work f.0 f.1 target row store history sound one);
      other = copy_apart work f.0 f.1 target row store history one;
      block = one.block;
      room = copy_room work f.0 f.1 target row store history sound one;
    }

-- ---- the targets of those behind it

pub later_targets : (source : Source) (left : List Source) (target : FileNo) → source.target ≡ Some target → AreSourcesApart (source ∷ left) → All (λ s. IfSome s.target (λ u. target.0 < u.0)) left
later_targets source left target is apart =
    subst (λ (o : Option FileNo). All (λ (s : Source). IfSome o (λ t. IfSome s.target (λ u. t.0 < u.0))) left) is (pairs_head (λ (a b : Source). IfSome a.target (λ t. IfSome b.target (λ u. t.0 < u.0))) source left apart.targets)

-- ---- its target, which has grown

-- what doesn't change
pub grown_keeps : {X : Type 0} → (value : Option MailFile → X) (n end m : ℕ) (files : List MailFile) → ((f : MailFile) → value (Some (ending_at end f)) ≡ value (Some f)) → value (file_in m (changed_in n (ending_at end) files)) ≡ value (file_in m files)
grown_keeps value n end m files same = elim (cases_eq m n) [
  | inl is ↦ subst (λ (k : ℕ). value (file_in k (changed_in n (ending_at end) files)) ≡ value (file_in k files)) (sym is) (ap value (file-here n (ending_at end) files (λ f. refl)) ∙ mapped (file_in n files))
  | inr apart ↦ ap value (file-other n m (ending_at end) files (λ f. refl) apart)
]
  where
    mapped : (o : Option MailFile) → value (option_map (ending_at end) o) ≡ value o
    mapped None = refl
    mapped (Some f) = same f

pub grown_amount : {D : Type 0} → (n end : ℕ) (disk : D) (stopped : Bool) (store : StoreValue D) (thing : Thing) → amount_in thing (with_end n end disk stopped store) ≡ amount_in thing store
grown_amount n end disk stopped store (Due uid) = refl
grown_amount n end disk stopped store (Held id) = refl
grown_amount n end disk stopped store (Made m) = refl
grown_amount n end disk stopped store (Pinned m) = grown_keeps pinned_of n end m store.files.files (λ f. refl)
grown_amount n end disk stopped store (Taken m) = grown_keeps adding_of n end m store.files.files (λ f. refl)
grown_amount n end disk stopped store (Emptied m) = grown_keeps emptying_of n end m store.files.files (λ f. refl)
grown_amount n end disk stopped store (PlacingPieces m) = grown_keeps placing_of n end m store.files.files (λ f. refl)
grown_amount n end disk stopped store (Removing m) = grown_keeps removing_of n end m store.files.files (λ f. refl)

pub grown_of : (n before end : ℕ) (files : List MailFile) → end_in n files ≡ Some before → before ≤ end → IsGrownOf n files (changed_in n (ending_at end) files)
grown_of n before end files ends later =
    let k = file_as (file_in n files) before ends in
    record {
      f = k.0;
      g = ending_at end k.0;
      was = k.1;
      now = file-here n (ending_at end) files (λ f. refl) ∙ ap (λ (o : Option MailFile). option_map (ending_at end) o) k.1;
      from = before;
      end = end;
      began = sym (ap (λ (o : Option MailFile). option_and_then (λ f. f.end) o) k.1) ∙ ends;
      ended = refl;
      later = later;
      barred = refl;
      doomed = refl;
      pins = refl;
      others = λ m apart. file-other n m (ending_at end) files (λ f. refl) apart;
    }

pub grown_ends : (n before end : ℕ) (files : List MailFile) → end_in n files ≡ Some before → end_in n (changed_in n (ending_at end) files) ≡ Some end
grown_ends n before end files ends = let k = file_as (file_in n files) before ends in ends-here n end files k.0 k.1

-- the header stays before what is added
pub header_before : (piece : List ℕ) (a b : FileState) → IsPieceAdded piece a b → HasTargetHeader (reading a) → HasTargetHeader (reading b)
header_before piece a b added h =
    let same : added.before ≡ target_header ++ h.0 = (let e : Some added.before ≡ Some (target_header ++ h.0) = sym added.read ∙ h.1 in cc e) in
    (h.0 ++ piece, added.reads ∙ (ap (λ (xs : List ℕ). Some (xs ++ piece)) same ∙ ap Some (append_assoc target_header h.0 piece)))

-- octets were added
abbrev pub HasMore : ℕ → DiskState → DiskState → Type 0
HasMore n a b = (more : List ℕ) × IsPieceAdded more (a (file.Mail n)) (b (file.Mail n))

pub more_grows : {D : Type 0} → (n before end : ℕ) (old new : StoreValue D) (was now : Option History) → end_in n old.files.files ≡ Some before → end_in n new.files.files ≡ Some end → before ≤ end → Between (HasMore n) was now → OnlyGrows n old new was now
more_grows n before end old new was now ends ends_now later more = record {
  there = λ e is. (end, ends_now, (let w : Some e ≡ Some before = sym is ∙ ends in let same : e ≡ before = cc w in omega (arith, same, later)));
  reads = between-map (HasMore n) (λ a b. (octets : List ℕ) → reading (a (file.Mail n)) ≡ Some octets → (more : List ℕ) × (reading (b (file.Mail n)) ≡ Some (octets ++ more))) was now
      (λ a b h octets is. (h.0, (let w : Some octets ≡ Some h.1.before = sym is ∙ h.1.read in let same : octets ≡ h.1.before = cc w in h.1.reads ∙ ap (λ (xs : List ℕ). Some (xs ++ h.0)) (sym same)))) more;
}

-- Nobody else has taken it.
pub target_untaken : {D : Type 0} → (work : Work) (source : Source) (left : List Source) (target : FileNo) (store : StoreValue D) → sources_left work ≡ source ∷ left → source.target ≡ Some target → All IsUsedFile store.files.files → is_taken_in target.0 store.files.files ≡ true → OthersTook (purge_claims (stage.Copying work)) store target.0 → ⊥
target_untaken work source left target store left_are is used taken = untaken
  where
    g : IsGivenBack 1 0 (placing_of (file_in target.0 store.files.files)) (file_in target.0 store.files.files)
    g = taken_back target.0 (placing_of (file_in target.0 store.files.files)) store.files.files used taken refl

    own : 1 ≤ purge_claims (stage.Copying work) (Taken target.0)
    own =
        let c = ap (λ (l : List Source). claims_of_sources l (Taken target.0)) left_are in
        let s = sum_by-cons (λ (s : Source). cond (option_map_or (λ (t : FileNo). t.0 == target.0) s.target false) 1 0) source left in
        let k : ◌≡◌ {A = ℕ} (cond (option_map_or (λ (t : FileNo). t.0 == target.0) source.target false) 1 0) 1 = ap (λ (o : Option FileNo). cond (option_map_or (λ (t : FileNo). t.0 == target.0) o false) 1 0) is ∙ ap (λ (b : Bool). cond b 1 0) (eq-eqb target.0 target.0 refl) in
        omega (arith, c, s, k)

    untaken : OthersTook (purge_claims (stage.Copying work)) store target.0 → ⊥
    untaken (inl adding) = let l : purge_claims (stage.Copying work) (Taken target.0) < adding_of (file_in target.0 store.files.files) = adding in let k = g.adding in omega (arith, own, k, l)
    untaken (inr (inl emptying)) = let l : purge_claims (stage.Copying work) (Emptied target.0) < emptying_of (file_in target.0 store.files.files) = emptying in let k = g.emptying in omega (arith, k, l)
    untaken (inr (inr removing)) =
        let l : purge_claims (stage.Copying work) (Removing target.0) < removing_of (file_in target.0 store.files.files) = removing in
        let k : removing_of (file_in target.0 store.files.files) ≡ 0 = ap (λ (b : Bool). one_if (b && (pinned_of (file_in target.0 store.files.files) == 0))) g.undoomed in
        omega (arith, k, l)

-- ---- the files behind it

later_still : {D : Type 0} → (work now : Work) (target : FileNo) (s : Source) (end : ℕ) (disk : D) (stopped : Bool) (store : StoreValue D) → now.text ≡ work.text → IfSome s.target (λ u. target.0 < u.0) → IsToBegin work store s → IsToBegin now (with_end target.0 end disk stopped store) s
later_still work now target s end disk stopped store text before h = record {
  emptied = grown_keeps (λ o. option_map_or (λ f. f.emptied) o false) target.0 end s.file.0 store.files.files (λ f. refl) ∙ h.emptied;
  target = by_target s.target before h.target;
  short = h.short;
  uncopied = h.uncopied;
  undropped = h.undropped;
  room = room_still;
}
  where
    room_still : HasSwitchRoom now (with_end target.0 end disk stopped store) s
    room_still = record { lists = h.room.lists; text = (let l = h.room.text in let e = ap (λ t. length t.items) text in omega (arith, l, e)); log = h.room.log }

    by_target : (o : Option FileNo) → IfSome o (λ u. target.0 < u.0) → IsTargetToMake s.file.0 o store → IsTargetToMake s.file.0 o (with_end target.0 end disk stopped store)
    by_target None before h = h
    by_target (Some t) before h = (
      record {
        taken = grown_keeps (λ o. option_map_or (λ f. f.taken) o false) target.0 end t.0 store.files.files (λ f. refl) ∙ h.0.taken;
        unmade = ends-other target.0 t.0 (ending_at end) store.files.files (λ f. refl) (λ same. let l : target.0 < t.0 = before in omega (arith, same, l)) ∙ h.0.unmade;
        drawn = h.0.drawn;
        unnamed = h.0.unnamed;
      },
      h.1,
      h.2,
    )

pub each_still : {D : Type 0} → (work now : Work) (target : FileNo) (left : List Source) (end : ℕ) (disk : D) (stopped : Bool) (store : StoreValue D) → now.text ≡ work.text → All (λ s. IfSome s.target (λ u. target.0 < u.0)) left → All (IsToBegin work store) left → All (IsToBegin now (with_end target.0 end disk stopped store)) left
each_still work now target [] end disk stopped store text before h = All-nil _
each_still work now target (s ∷ left) end disk stopped store text before h =
    All-cons (IsToBegin now (with_end target.0 end disk stopped store)) s left (later_still work now target s end disk stopped store text (All-head (λ (x : Source). IfSome x.target (λ u. target.0 < u.0)) s left before) (All-head (IsToBegin work store) s left h))
    (each_still work now target left end disk stopped store text (All-tail (λ (x : Source). IfSome x.target (λ u. target.0 < u.0)) s left before) (All-tail (IsToBegin work store) s left h))
