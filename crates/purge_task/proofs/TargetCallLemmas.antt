-- What a purge says that makes the target of a file.
use Rattle.purge_task.proofs.Common.{◌≡◌, ◌≢◌, ◌≤◌, ◌<◌, ◌+◌, ◌==◌, ◌&&◌, ℕ, zero, suc, Bool, true, false, cond, List, [], ◌∷◌, Option, Some, None, refl, sym, ◌∙◌, ap, subst, arith, inl, inr, All, IsSome, is_some, nat_le, nat_lt, if◌then◌else◌, list_any, IfSome, option_and_then, option_map}
use Rattle.purge_task.proofs.Common.{option_map_or, cases_eq, eq-eqb, ne_eqb, All-cons, All-contains, All-head, All-nil, All-tail, All-weaker, sum_by-cons, Faults, Grows, History, IfTold, Keeps, MayLeave, NoFault, MapPlace, FileNo, MailIsKept, Lists, AreCopied, MapRecord, is_own, number_at}
use Rattle.purge_task.proofs.Common.{pairs_head, pairs_nil, found_one, IsSettledFor, Leaves, files_of, Run, is_copied_from, target_length, IsUsedFile, changed_in, end_in, ending_at, file_in, is_emptied_in, is_taken_in, pins_in, place_begun_in, OthersAreNamed, MailFile, file-here, file-other}
use Rattle.purge_task.proofs.Common.{StoreValue, may_be_used, Due, Emptied, Held, Made, MovesClaims, Pinned, PlacingPieces, Removing, Taken, Thing, amount_in, is_to_remove, one_if, LeavesOthers, MayOnlyGrow, OthersTook, HasComeTo, was_given, was_used, claims_of_sources, claims_of_target}
use Rattle.purge_task.proofs.Common.{purge_claims, sources_left, IsPurgeStep, PurgeSteps, seen_by_purge, PurgeValue, IsTargetFirst, AreCopiedUpTo, AreSourcesApart, HasPurged, HasTargetHeader, IsBeginningFirst, IsCopyingFirst, IsSourceCopied, IsTargetToMake, IsToBegin, target_header, PurgeStage}
use Rattle.purge_task.proofs.Common.{Source, Work, fall, IsStore}
use Rattle.std.proofs.lemmas.List.Sums.{sum_by-le-sum_by}
use Rattle.disk_model.specs.declared.name.FileName.TheVariants as file
use Rattle.mdbox_base.specs.declared.progress.Did.TheVariants as did
use Rattle.mdbox_base.specs.declared.progress.Progress.TheVariants as progress
use Rattle.mdbox_base.specs.declared.replies.Refusal.TheVariants as refusal
use Rattle.mdbox_base.specs.declared.replies.Reply.TheVariants as reply
use Rattle.storage_files.specs.Files.{placing_begun}
use Rattle.store_core.specs.Knows.{may_have_given}
use Rattle.purge_task.specs.Keeping.{IsToMake}
use Rattle.purge_task.specs.declared.task.PurgeStage.TheVariants as stage
use Rattle.purge_task.proofs.TargetLemmas.{target_steps}
use Rattle.purge_task.proofs.TargetLeavingLemmas.{named_others, one_file_leaves}
use Rattle.purge_task.proofs.TargetSeenLemmas.{IsMadeOf, with_files}
use Rattle.purge_task.proofs.SameRegionLemmas.{regions_named}

-- ---- the file

-- it ends behind its header, and octets are being placed in it from there on
abbrev pub made_file : MailFile → MailFile
made_file f = placing_begun (ending_at 9 f)

abbrev pub made_in : ℕ → List MailFile → List MailFile
made_in t files = changed_in t placing_begun (changed_in t (ending_at 9) files)

-- the store behind the call
abbrev pub with_made : {D : Type 0} → ℕ → D → StoreValue D → StoreValue D
with_made t disk store = with_files disk (record store.files { files = made_in t store.files.files }) store

twice : (o : Option MailFile) → option_map placing_begun (option_map (ending_at 9) o) ≡ option_map made_file o
twice None = refl
twice (Some f) = refl

pub made_here : (t : ℕ) (files : List MailFile) → file_in t (made_in t files) ≡ option_map made_file (file_in t files)
made_here t files = file-here t placing_begun (changed_in t (ending_at 9) files) (λ f. refl) ∙ (ap (λ (o : Option MailFile). option_map placing_begun o) (file-here t (ending_at 9) files (λ f. refl)) ∙ twice (file_in t files))

pub made_other : (t n : ℕ) (files : List MailFile) → n ≢ t → file_in n (made_in t files) ≡ file_in n files
made_other t n files apart = file-other t n placing_begun (changed_in t (ending_at 9) files) (λ f. refl) apart ∙ file-other t n (ending_at 9) files (λ f. refl) apart

-- what making doesn't change
made_keeps : {X : Type 0} → (value : MailFile → X) (d : X) (t n : ℕ) (files : List MailFile) → ((f : MailFile) → value (made_file f) ≡ value f) → option_map_or value (file_in n (made_in t files)) d ≡ option_map_or value (file_in n files) d
made_keeps value d t n files same = elim (cases_eq n t) [
  | inl is ↦ subst (λ (k : ℕ). option_map_or value (file_in k (made_in t files)) d ≡ option_map_or value (file_in k files) d) (sym is) (ap (λ (o : Option MailFile). option_map_or value o d) (made_here t files) ∙ mapped (file_in t files))
  | inr apart ↦ ap (λ (o : Option MailFile). option_map_or value o d) (made_other t n files apart)
]
  where
    mapped : (o : Option MailFile) → option_map_or value (option_map made_file o) d ≡ option_map_or value o d
    mapped None = refl
    mapped (Some f) = same f

-- It is known, taken, and not there.
pub record IsUnmadeFile (t : ℕ) (files : List MailFile) : Type 0 where
  pub f : MailFile
  pub found : file_in t files ≡ Some f
  pub taken : f.taken ≡ true
  pub absent : f.end ≡ None
  pub used : IsUsedFile f

pub unmade_file : (t : ℕ) (files : List MailFile) → All IsUsedFile files → is_taken_in t files ≡ true → end_in t files ≡ None → IsUnmadeFile t files
unmade_file t files used taken absent = by_case (file_in t files) refl
  where
    by_case : (o : Option MailFile) → file_in t files ≡ o → IsUnmadeFile t files
    by_case None is = absurd (let k : false ≡ true = sym (ap (λ (o : Option MailFile). option_map_or (λ f. f.taken) o false) is) ∙ taken in cc k)
    by_case (Some f) is = record {
      f = f;
      found = is;
      taken = sym (ap (λ (o : Option MailFile). option_map_or (λ f. f.taken) o false) is) ∙ taken;
      absent = sym (ap (λ (o : Option MailFile). option_and_then (λ f. f.end) o) is) ∙ absent;
      used = All-contains IsUsedFile files f used (found_one (λ (g : MailFile). g.file.0 == t) files f is).0;
    }

never_there : (f : MailFile) → f.end ≡ None → IsSome f.end → ⊥
never_there f none some = let k : false ≡ true = subst IsSome none some in cc k

unmade_unpinned : (t : ℕ) (files : List MailFile) → IsUnmadeFile t files → pins_in t files ≡ 0
unmade_unpinned t files u = ap (λ (o : Option MailFile). option_map_or (λ f. f.pins) o 0) u.found ∙ by_pins u.f.pins refl
  where
    by_pins : (p : ℕ) → u.f.pins ≡ p → p ≡ 0
    by_pins zero is = refl
    by_pins (suc p) is = absurd (never_there u.f u.absent (u.used.pinned (omega (arith, is))))

pub unmade_unplaced : (t : ℕ) (files : List MailFile) → IsUnmadeFile t files → place_begun_in t files ≡ None
unmade_unplaced t files u = ap (λ (o : Option MailFile). option_and_then (λ f. f.begun) o) u.found ∙ by_begun u.f.begun refl
  where
    by_begun : (o : Option ℕ) → u.f.begun ≡ o → o ≡ None
    by_begun None is = refl
    by_begun (Some start) is = let e = (u.used.placing start is).1 in absurd (let k : Some e.0 ≡ None = sym e.1 ∙ u.absent in cc k)

-- ---- claims

made_amount : {D : Type 0} → (source : Source) (left : List Source) (target : FileNo) (disk : D) (store : StoreValue D) → source.target ≡ Some target → IsUnmadeFile target.0 store.files.files → (thing : Thing)
    → amount_in thing (with_made target.0 disk store) ≡ amount_in thing store + claims_of_target (source ∷ left) thing
made_amount source left target disk store is u (Due uid) = omega arith
made_amount source left target disk store is u (Held id) = omega arith
made_amount source left target disk store is u (Made n) = omega arith
made_amount source left target disk store is u (Pinned n) = let e = made_keeps (λ f. f.pins) 0 target.0 n store.files.files (λ f. refl) in omega (arith, e)
made_amount source left target disk store is u (Taken n) = let e = ap one_if (made_keeps (λ f. f.taken) false target.0 n store.files.files (λ f. refl)) in omega (arith, e)
made_amount source left target disk store is u (Emptied n) = let e = ap one_if (made_keeps (λ f. f.emptied) false target.0 n store.files.files (λ f. refl)) in omega (arith, e)
made_amount source left target disk store is u (Removing n) =
    let a = made_keeps (λ f. f.doomed) false target.0 n store.files.files (λ f. refl) in
    let b = made_keeps (λ f. f.pins) 0 target.0 n store.files.files (λ f. refl) in
    let e : one_if (is_to_remove n (with_made target.0 disk store)) ≡ one_if (is_to_remove n store) = ap (λ (d : Bool). one_if (d && (pins_in n (made_in target.0 store.files.files) == 0))) a ∙ ap (λ (p : ℕ). one_if (option_map_or (λ f. f.doomed) (file_in n store.files.files) false && (p == 0))) b in
    omega (arith, e)
made_amount source left target disk store is u (PlacingPieces n) = elim (cases_eq n target.0) [
  | inl same ↦
      let now : one_if (is_some (place_begun_in n (made_in target.0 store.files.files))) ≡ 1 = subst (λ (i : ℕ). one_if (is_some (place_begun_in i (made_in target.0 store.files.files))) ≡ 1) (sym same) (ap (λ (o : Option MailFile). one_if (is_some (option_and_then (λ f. f.begun) o))) (made_here target.0 store.files.files ∙ ap (λ (o : Option MailFile). option_map made_file o) u.found)) in
      let was : one_if (is_some (place_begun_in n store.files.files)) ≡ 0 = subst (λ (i : ℕ). one_if (is_some (place_begun_in i store.files.files)) ≡ 0) (sym same) (ap (λ (o : Option ℕ). one_if (is_some o)) (unmade_unplaced target.0 store.files.files u)) in
      let own : one_if (option_map_or (λ (t : FileNo). t.0 == n) source.target false) ≡ 1 = ap (λ (o : Option FileNo). one_if (option_map_or (λ (t : FileNo). t.0 == n) o false)) is ∙ ap one_if (eq-eqb target.0 n (sym same)) in
      omega (arith, now, was, own)
  | inr apart ↦
      let e = ap (λ (o : Option MailFile). one_if (is_some (option_and_then (λ f. f.begun) o))) (made_other target.0 n store.files.files apart) in
      let own : one_if (option_map_or (λ (t : FileNo). t.0 == n) source.target false) ≡ 0 = ap (λ (o : Option FileNo). one_if (option_map_or (λ (t : FileNo). t.0 == n) o false)) is ∙ ap one_if (ne_eqb target.0 n (λ same. apart (sym same))) in
      omega (arith, e, own)
]

pub moves_made : {D : Type 0} → (work : Work) (source : Source) (left : List Source) (target : FileNo) (disk : D) (store : StoreValue D) → sources_left work ≡ source ∷ left → source.target ≡ Some target → IsUnmadeFile target.0 store.files.files
    → MovesClaims (purge_claims (stage.Begin work)) (purge_claims (stage.Copying work)) store (with_made target.0 disk store)
moves_made work source left target disk store left_are is u thing =
    let a = made_amount source left target disk store is u thing in
    let b : claims_of_target (sources_left work) thing ≡ claims_of_target (source ∷ left) thing = ap (λ (l : List Source). claims_of_target l thing) left_are in
    omega (arith, a, b)

-- ---- what it leaves to others

pub made_leaves : {D : Type 0} → (work : Work) (source : Source) (left : List Source) (target : FileNo) (disk : D) (store : StoreValue D) (before after : Option History) → sources_left work ≡ source ∷ left → source.target ≡ Some target → IsUnmadeFile target.0 store.files.files → IsToMake target.0 store
    → OthersAreNamed (file.Mail target.0) before after → LeavesOthers (purge_claims (stage.Begin work)) store (with_made target.0 disk store) before after
made_leaves work source left target disk store before after left_are is u make others =
    one_file_leaves (purge_claims (stage.Begin work)) target.0 disk (record store.files { files = made_in target.0 store.files.files }) store before after make.unnamed untaken (λ may. absurd (ungrown may)) (λ m apart. made_other target.0 m store.files.files apart) (named_others target.0 before after others)
  where
    own : 1 ≤ purge_claims (stage.Begin work) (Taken target.0)
    own =
        let c = ap (λ (l : List Source). claims_of_sources l (Taken target.0)) left_are in
        let s = sum_by-cons (λ (s : Source). cond (option_map_or (λ (t : FileNo). t.0 == target.0) s.target false) 1 0) source left in
        let k : ◌≡◌ {A = ℕ} (cond (option_map_or (λ (t : FileNo). t.0 == target.0) source.target false) 1 0) 1 = ap (λ (o : Option FileNo). cond (option_map_or (λ (t : FileNo). t.0 == target.0) o false) 1 0) is ∙ ap (λ (b : Bool). cond b 1 0) (eq-eqb target.0 target.0 refl) in
        omega (arith, c, s, k)

    unflagged : (b : Bool) → u.f.taken ≡ true → (b ≡ true → u.f.taken ≡ false) → b ≡ false
    unflagged true taken never = absurd (fall u.f.taken taken (never refl))
    unflagged false taken never = refl

    untaken : OthersTook (purge_claims (stage.Begin work)) store target.0 → ⊥
    untaken (inl taken) = let some = ap one_if make.taken in let l : purge_claims (stage.Begin work) (Taken target.0) < one_if (is_taken_in target.0 store.files.files) = taken in omega (arith, own, some, l)
    untaken (inr (inl emptied)) =
        let none = ap one_if (ap (λ (o : Option MailFile). option_map_or (λ f. f.emptied) o false) u.found ∙ unflagged u.f.emptied u.taken (λ e. (u.used.emptied e).1)) in
        let l : purge_claims (stage.Begin work) (Emptied target.0) < one_if (is_emptied_in target.0 store.files.files) = emptied in omega (arith, none, l)
    untaken (inr (inr removing)) =
        let none = ap (λ (b : Bool). one_if (b && (pins_in target.0 store.files.files == 0))) (ap (λ (o : Option MailFile). option_map_or (λ f. f.doomed) o false) u.found ∙ unflagged u.f.doomed u.taken (λ e. (u.used.doomed e).1)) in
        let l : purge_claims (stage.Begin work) (Removing target.0) < one_if (is_to_remove target.0 store) = removing in omega (arith, none, l)

    ungrown : MayOnlyGrow (purge_claims (stage.Begin work)) store target.0 → ⊥
    ungrown (inl pinned) = let l : purge_claims (stage.Begin work) (Pinned target.0) < pins_in target.0 store.files.files = pinned in let z = unmade_unpinned target.0 store.files.files u in omega (arith, l, z)
    ungrown (inr there) = let k : false ≡ true = subst IsSome make.unmade there.0 in cc k

-- ---- ready to copy

begun_still : {D : Type 0} → (work : Work) (target : FileNo) (s : Source) (disk : D) (store : StoreValue D) → IfSome s.target (λ u. target.0 < u.0) → IsToBegin work store s → IsToBegin work (with_made target.0 disk store) s
begun_still work target s disk store before h = record {
  emptied = made_keeps (λ f. f.emptied) false target.0 s.file.0 store.files.files (λ f. refl) ∙ h.emptied;
  target = by_target s.target before h.target;
  short = h.short;
  uncopied = h.uncopied;
  undropped = h.undropped;
  room = record { lists = h.room.lists; text = h.room.text; log = h.room.log };
}
  where
    by_target : (o : Option FileNo) → IfSome o (λ u. target.0 < u.0) → IsTargetToMake s.file.0 o store → IsTargetToMake s.file.0 o (with_made target.0 disk store)
    by_target None before h = h
    by_target (Some t) before h = (
      record {
        taken = made_keeps (λ f. f.taken) false target.0 t.0 store.files.files (λ f. refl) ∙ h.0.taken;
        unmade = ap (λ (o : Option MailFile). option_and_then (λ f. f.end) o) (made_other target.0 t.0 store.files.files (λ same. let l : target.0 < t.0 = before in omega (arith, same, l))) ∙ h.0.unmade;
        drawn = h.0.drawn;
        unnamed = h.0.unnamed;
      },
      h.1,
      h.2,
    )

either_less : (a b : Bool) (n : ℕ) → (if a && b then n else 0) ≤ (if a then n else 0)
either_less true true n = omega arith
either_less true false n = omega arith
either_less false b n = omega arith

none_copied : {D : Type 0} → (work : Work) (source : Source) (store : StoreValue D) (places : List MapPlace) → places ≡ [] → work.from ≡ 0 → target_length store.map source.file.0 ≤ 4294967294 → AreCopiedUpTo source.file.0 work.from 9 places store.map
none_copied work source store places none from short = subst (λ (ps : List MapPlace). AreCopiedUpTo source.file.0 work.from 9 ps store.map) (sym none) (record {
  there = All-nil _;
  every = All-weaker (λ (row : MapRecord). Unit {0}) (λ (row : MapRecord). row.file ≡ source.file.0 → row.offset < work.from → 1 ≤ row.count → list_any (λ (place : MapPlace). place.uid.0 == row.uid) [] ≡ true) (λ row t here before. absurd (omega (arith, before, from))) store.map.records (λ i d lt. tt);
  once = pairs_nil (λ (a b : MapPlace). a.uid.0 ≢ b.uid.0);
  row = refl;
  fits =
      let l = sum_by-le-sum_by (λ (row : MapRecord). if is_copied_from source.file.0 row && nat_le work.from row.offset then row.size else 0) (λ (row : MapRecord). if is_copied_from source.file.0 row then row.size else 0) store.map.records
      (λ row. either_less (is_copied_from source.file.0 row) (nat_le work.from row.offset) row.size) in
      omega (arith, l, short);
})

pub made_ready : {D : Type 0} → (work : Work) (source : Source) (left : List Source) (target : FileNo) (disk : D) (store : StoreValue D) (before after : Option History) → sources_left work ≡ source ∷ left → source.target ≡ Some target → IsUnmadeFile target.0 store.files.files → HasPurged (stage.Begin work) store before
    → IfTold after (λ now. Keeps (now (file.Mail target.0)) target_header) → HasPurged (stage.Copying work) (with_made target.0 disk store) after
made_ready {D = D} work source left target disk store before after left_are is u h kept = (h.0, h.1, subst (λ (l : List Source). IsCopyingFirst l work new after) (sym left_are) (copied, rest left later_targets (All-tail (IsToBegin work store) source left first.1)))
  where
    new : StoreValue D
    new = with_made target.0 disk store

    first : IsBeginningFirst (source ∷ left) work store
    first = subst (λ (l : List Source). IsBeginningFirst l work store) left_are h.2

    one : IsToBegin work store source
    one = All-head (IsToBegin work store) source left first.1

    make : IsTargetToMake source.file.0 (Some target) store
    make = subst (λ (o : Option FileNo). IsTargetToMake source.file.0 o store) is one.target

    apart : AreSourcesApart (source ∷ left)
    apart = subst AreSourcesApart left_are h.1

    later_targets : All (λ s. IfSome s.target (λ u. target.0 < u.0)) left
    later_targets = subst (λ (o : Option FileNo). All (λ (s : Source). IfSome o (λ t. IfSome s.target (λ u. t.0 < u.0))) left) is (pairs_head (λ (a b : Source). IfSome a.target (λ t. IfSome b.target (λ u. t.0 < u.0))) source left apart.targets)

    rest : (l : List Source) → All (λ s. IfSome s.target (λ u. target.0 < u.0)) l → All (IsToBegin work store) l → All (IsToBegin work new) l
    rest [] before each = All-nil _
    rest (s ∷ l) before each = All-cons (IsToBegin work new) s l (begun_still work target s disk store (All-head (λ (x : Source). IfSome x.target (λ u. target.0 < u.0)) s l before) (All-head (IsToBegin work store) s l each))
        (rest l (All-tail (λ (x : Source). IfSome x.target (λ u. target.0 < u.0)) s l before) (All-tail (IsToBegin work store) s l each))

    here : file_in target.0 new.files.files ≡ Some (made_file u.f)
    here = made_here target.0 store.files.files ∙ ap (λ (o : Option MailFile). option_map made_file o) u.found

    stays_there : (h : Option History) → IfTold h (λ now. Keeps (now (file.Mail target.0)) target_header) → IfTold h (λ now. MayLeave (now (file.Mail target.0)) None → ⊥)
    stays_there None k = tt
    stays_there (Some told) k = λ gone. let e : None ≡ Some target_header = (k.leaves None).0 gone in cc e

    begins : (h : Option History) → IfTold h (λ now. Keeps (now (file.Mail target.0)) target_header) → IfTold h (λ now. HasTargetHeader (files_of now (file.Mail target.0)))
    begins None k = tt
    begins (Some told) k = ([], k.reads)

    none_there : (h : Option History) → IfTold h (λ now. AreCopied (files_of now) store.map target.0 source.copied.items)
    none_there None = tt
    none_there (Some told) = subst (λ (ps : List MapPlace). AreCopied (files_of told.now) store.map target.0 ps) (sym one.uncopied) (All-nil _)

    copied : IsSourceCopied source work new after
    copied = record {
      emptied = made_keeps (λ f. f.emptied) false target.0 source.file.0 store.files.files (λ f. refl) ∙ one.emptied;
      undropped = one.undropped;
      room = record { lists = one.room.lists; text = one.room.text; log = one.room.log };
      target = target;
      target_is = is;
      copying = record {
        taken = made_keeps (λ f. f.taken) false target.0 target.0 store.files.files (λ f. refl) ∙ make.0.taken;
        begun = ap (λ (o : Option MailFile). option_and_then (λ f. f.begun) o) here;
        end = 9;
        ends = ap (λ (o : Option MailFile). option_and_then (λ f. f.end) o) here;
        drawn = make.0.drawn;
        unnamed = make.0.unnamed;
        behind = make.2;
        copied = none_copied work source store source.copied.items one.uncopied first.0 one.short;
        header = begins after kept;
        octets = none_there after;
        stays = stays_there after kept;
      };
    }

-- ---- the call

-- the present file, and its target
pub record IsTargetOne {D : Type 0} (work : Work) (target : FileNo) (store : StoreValue D) : Type 0 where
  pub source : Source
  pub left : List Source
  pub left_are : sources_left work ≡ source ∷ left
  pub target_is : source.target ≡ Some target
  pub make : IsToMake target.0 store
  pub some : 1 ≤ target.0

pub target_one : {D : Type 0} → (work : Work) (target : FileNo) (store : StoreValue D) (history : Option History) → HasPurged (stage.Begin work) store history → IsTargetFirst (sources_left work) target → IsTargetOne work target store
target_one work target store history h = by_left (sources_left work) refl h.2
  where
    by_left : (l : List Source) → sources_left work ≡ l → IsBeginningFirst l work store → IsTargetFirst l target → IsTargetOne work target store
    by_left [] are begins none = absurd none
    by_left (source ∷ left) are begins is =
        let make : IsTargetToMake source.file.0 (Some target) store = subst (λ (o : Option FileNo). IsTargetToMake source.file.0 o store) is (All-head (IsToBegin work store) source left begins.1).target in
        record { source = source; left = left; left_are = are; target_is = is; make = make.0; some = make.1 }

and_false : (b : Bool) → (b && false) ≡ false
and_false true = refl
and_false false = refl

undoomed : (t : ℕ) (files : List MailFile) (u : IsUnmadeFile t files) → u.f.doomed ≡ false
undoomed t files u = by_flag u.f.doomed refl
  where
    by_flag : (b : Bool) → u.f.doomed ≡ b → b ≡ false
    by_flag true is = absurd (fall u.f.taken u.taken (u.used.doomed is).1)
    by_flag false is = refl

-- no event used it, or gave a GUID that stands for a message in it
never_used : {D : Type 0} → (t : ℕ) (store : StoreValue D) (before : Option History) (began : Faults) (run : Run) → IsUnmadeFile t store.files.files → HasComeTo run (seen_by_purge store before began) → was_used run t ≡ false
never_used t store before began run u come = by_flag (was_used run t) refl
  where
    unused : may_be_used store t ≡ false
    unused = ap (λ (o : Option MailFile). nat_le t store.drawn.file && option_map_or (λ f. f.doomed) o true) u.found ∙ (ap (λ (b : Bool). nat_le t store.drawn.file && b) (undoomed t store.files.files u) ∙ and_false (nat_le t store.drawn.file))

    by_flag : (b : Bool) → was_used run t ≡ b → b ≡ false
    by_flag true is = absurd (fall (may_be_used store t) (come.used t is) unused)
    by_flag false is = refl

never_given : {D : Type 0} → (t : ℕ) (store : StoreValue D) (before : Option History) (began : Faults) (run : Run) (guid : List ℕ) → IsUnmadeFile t store.files.files → HasComeTo run (seen_by_purge store before began) → number_at 8 guid ≡ t → was_given run guid ≡ false
never_given t store before began run guid u come at = by_flag (was_given run guid) refl
  where
    own : Bool
    own = is_own store.map.store guid

    below : Bool
    below = nat_le (number_at 8 guid) store.drawn.file

    has_end : Option MailFile → Bool
    has_end o = option_map_or (λ f. option_map_or (λ end. nat_lt (number_at 12 guid) end) f.end false) o true

    no_end : has_end (file_in (number_at 8 guid) store.files.files) ≡ false
    no_end = ap (λ (n : ℕ). has_end (file_in n store.files.files)) at ∙ (ap has_end u.found ∙ ap (λ (o : Option ℕ). option_map_or (λ end. nat_lt (number_at 12 guid) end) o false) u.absent)

    ungiven : may_have_given store guid ≡ false
    ungiven = ap (λ (b : Bool). own && (below && b)) no_end ∙ (ap (λ (b : Bool). own && b) (and_false below) ∙ and_false own)

    by_flag : (b : Bool) → was_given run guid ≡ b → b ≡ false
    by_flag true is = absurd (fall (may_have_given store guid) (come.gave guid is) ungiven)
    by_flag false is = refl

pub made_says : {D : Type 0} → (H : D → Option History) (F : D → Faults) (t next : PurgeValue) (work : Work) (target : FileNo) (old new : StoreValue D) → t.stage ≡ stage.Begin work → next.stage ≡ stage.Copying work → next.did ≡ did.Quiet → next.dropped ≡ t.dropped → next.files ≡ t.files → next.instances ≡ t.instances
    → old.stopped ≡ false → HasPurged (stage.Begin work) old (H old.disk) → IsTargetOne work target old → All IsUsedFile old.files.files → ((lists : Lists) → IsSettledFor lists (H old.disk) → Leaves lists lists (H old.disk) (H new.disk)) → MailIsKept old.map (H old.disk) (H new.disk) → ((lists : Lists) → IsSettledFor lists (H old.disk) → IsSettledFor lists (H new.disk))
    → OthersAreNamed (file.Mail target.0) (H old.disk) (H new.disk) → IfTold (H new.disk) (λ now. Keeps (now (file.Mail target.0)) target_header) → new ≡ with_made target.0 new.disk old → Grows (H old.disk) (H new.disk) → NoFault (F old.disk) (F new.disk) → IsStore (H old.disk) old → IsPurgeStep t next progress.More old new (H old.disk) (H new.disk) (F old.disk) (F new.disk)
made_says {D = D} H F t next work target old new at to how dropped files instances runs h one used moments mail rests others kept is grows quiet store = record {
  ready = λ more r. subst (λ (s : PurgeStage). HasPurged s new (H new.disk)) (sym to) (subst (λ (s : StoreValue D). HasPurged (stage.Copying work) s (H new.disk)) (sym is) (made_ready work one.source one.left target new.disk old (H old.disk) (H new.disk) one.left_are one.target_is u h kept));
  does = (
    [],
    λ around. subst (λ (s : StoreValue D). PurgeSteps [] around t next old s (H old.disk) (H new.disk) (F old.disk) (F new.disk) None) (sym is)
        (target_steps around t next work one.source one.left target new.disk (record old.files { files = made_in target.0 old.files.files }) old (H old.disk) (H new.disk) (F old.disk) (F new.disk) at one.left_are one.target_is one.some to how dropped files instances runs made
        (λ run come. never_used target.0 old (H old.disk) (F old.disk) run u come) (λ run guid come own number. never_given target.0 old (H old.disk) (F old.disk) run guid u come number) (record { moments = moments; rests = rests; grows = grows; mail = mail; quiet = quiet })),
  );
  first = λ begins. absurd (let e : stage.Begin work ≡ stage.First = sym at ∙ begins in cc e);
  refused = λ why e read stop. absurd (let k : progress.More ≡ progress.Done (reply.Refused why) = e in cc k);
  stopped = record { 0 = λ e. absurd (let k : progress.More ≡ progress.Done (reply.Refused refusal.Stopped) = e in cc k); 1 = λ e. absurd (fall old.stopped (ap (λ (s : StoreValue D). s.stopped) (sym is) ∙ e) runs) };
  regions = λ r. regions_named target.0 old new.map (H old.disk) (H new.disk) store runs (ap (λ (s : StoreValue D). s.map) is) one.make.unnamed others;
  claims = λ r. record {
    moves = subst (λ (s : StoreValue D). MovesClaims (purge_claims t.stage) (purge_claims next.stage) old s) (sym is) (subst (λ (s : PurgeStage). MovesClaims (purge_claims s) (purge_claims next.stage) old (with_made target.0 new.disk old)) (sym at)
        (subst (λ (s : PurgeStage). MovesClaims (purge_claims (stage.Begin work)) (purge_claims s) old (with_made target.0 new.disk old)) (sym to) (moves_made work one.source one.left target new.disk old one.left_are one.target_is u)));
    leaves = subst (λ (s : StoreValue D). LeavesOthers (purge_claims t.stage) old s (H old.disk) (H new.disk)) (sym is) (subst (λ (s : PurgeStage). LeavesOthers (purge_claims s) old (with_made target.0 new.disk old) (H old.disk) (H new.disk)) (sym at)
        (made_leaves work one.source one.left target new.disk old (H old.disk) (H new.disk) one.left_are one.target_is u one.make others));
    ended = λ given e. absurd (let k : progress.More ≡ progress.Done given = e in cc k);
  };
  grows = grows;
  mail = mail;
  reads = let e = ap (λ (f : Faults). f.reads) quiet in omega (arith, e);
  changes = let e = ap (λ (f : Faults). f.changes) quiet in omega (arith, e);
  calm = λ told. ap (λ (f : Faults). f.reads) quiet;
  unfailed = λ r. ap (λ (f : Faults). f.changes) quiet;
  fell = λ was e. absurd (fall old.stopped (ap (λ (s : StoreValue D). s.stopped) (sym is) ∙ e) runs);
}
  where
    u : IsUnmadeFile target.0 old.files.files
    u = unmade_file target.0 old.files.files used one.make.taken one.make.unmade

    made : IsMadeOf target.0 old.files.files (made_in target.0 old.files.files)
    made = record {
      f = u.f;
      g = made_file u.f;
      was = u.found;
      now = made_here target.0 old.files.files ∙ ap (λ (o : Option MailFile). option_map made_file o) u.found;
      end = 9;
      ends = refl;
      barred = refl;
      doomed = refl;
      pins = refl;
      others = λ n apart. made_other target.0 n old.files.files apart;
    }
