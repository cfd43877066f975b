-- A region that is copied piece by piece.
use Rattle.purge_task.proofs.Common.{◌≡◌, ◌≢◌, inl, inr, ℕ, ◌+◌, ◌-◌, ◌<◌, ◌≤◌, ◌==◌, Bool, true, false, cond, List, [], ◌∷◌, ◌++◌, length, take, drop, Option, Some, None, refl, sym, ap, subst, ◌∙◌, arith, append_assoc, ◌⊎◌, Result, Ok, Err, AllPairs, All-weaker, option_map, option_and_then}
use Rattle.purge_task.proofs.Common.{append-nil, length-take-le, length-drop, DiskState, FileState, Faults, History, IfTold, IsIdle, Between, SameButFor, Grows, reading, NoFault, FileName, Mail, between-both, between-begins, between-map, idle-begins, Refusal, MailIsKept, kept_then, Lists}
use Rattle.purge_task.proofs.Common.{MapMeaning, IsSoundMap, IsSoundRecord, equal_is, found_holds, pairs_head, pairs_tail, LiesInFile, IsSettledFor, Leaves, files_of, MapRow, MailFile, AreFilesInOrder, changed_in, end_in, ending_at, file_in, place_begun_in, IsPieceAdded, file-here, KeepsStored}
use Rattle.purge_task.proofs.Common.{IsStore, StoreValue, IsRegionAdded, IsTargetAt}
use Rattle.std.proofs.Common.{replicate}
use Rattle.std.specs.Prelude.{min, IsErrOf, All}
use Rattle.std.proofs.lemmas.List.{take-append-drop, take-take, drop-take, drop-drop}
use Rattle.disk_model.proofs.BetweenLemmas.{between-then, between-same}
use Rattle.disk_model.proofs.FaultCountLemmas.{no_fault-of_counts, no_fault-then}
use Rattle.mdbox_base.specs.declared.replies.Refusal.TheVariants as refusal
use Rattle.model_kept.proofs.KeptLemmas.{ReadsImage, kept_begins}
use Rattle.storage_files.proofs.FileListLemmas.{changed-none, ends-here}
use Rattle.purge_task.specs.Copied.{CopyFaultCounted, IsCopyRefusal, IsShownRow, whole_piece}
use Rattle.purge_task.proofs.ReadingLemmas.{idle_leaves, leaves_then}

-- ---- octets piece by piece

take_split : {X : Type 0} → (n m : ℕ) (xs : List X) → take n xs ++ take m (drop n xs) ≡ take (n + m) xs
take_split n m xs = ap (λ (ys : List _). ys ++ take m (drop n xs)) (sym (take-take n (n + m) xs (omega arith))) ∙ ap (λ (ys : List _). take n (take (n + m) xs) ++ ys) (sym (drop-take n m xs)) ∙ take-append-drop n (take (n + m) xs)

-- a piece that the file has whole has no zeros
piece_whole : (offset size : ℕ) (there : List ℕ) → offset + size ≤ length there → whole_piece offset size (Some there) ≡ take size (drop offset there)
piece_whole offset size there inside =
    let long : length (take size (drop offset there)) ≡ size = length-take-le size (drop offset there) (let d = length-drop offset there in omega (arith, d, inside)) in
    let none : size - length (take size (drop offset there)) ≡ 0 = omega (arith, long) in
    ap (λ (k : ℕ). take size (drop offset there) ++ replicate k 0) none ∙ append-nil (take size (drop offset there))

added_twice : (xs ys : List ℕ) (a b c : FileState) → IsPieceAdded xs a b → IsPieceAdded ys b c → IsPieceAdded (xs ++ ys) a c
added_twice xs ys a b c first second =
    let same : Some second.before ≡ Some (first.before ++ xs) = sym second.read ∙ first.reads in
    let e : second.before ≡ first.before ++ xs = cc same in
    record {
      before = first.before;
      read = first.read;
      reads = second.reads ∙ ap (λ (o : List ℕ). Some (o ++ ys)) e ∙ ap Some (append_assoc first.before xs ys);
      leaves = λ none. first.leaves (second.leaves none);
    }

-- ---- the front of a region

-- so many octets of the region were added to the target
pub record IsFrontAdded (row : MapRow) (target done : ℕ) (before after : DiskState) : Type 0 where
  pub there : List ℕ
  pub in_file : reading (before (Mail row.file.0)) ≡ Some there
  pub inside : row.offset + row.size ≤ length there
  pub added : IsPieceAdded (take done (drop row.offset there)) (before (Mail target)) (after (Mail target))

abbrev IsAdded : ℕ → DiskState → DiskState → Type 0
IsAdded target a b = (more : List ℕ) × IsPieceAdded more (a (Mail target)) (b (Mail target))

abbrev OtherSame : ℕ → DiskState → DiskState → Type 0
OtherSame target a b = (other : FileName) → other ≢ Mail target → b other ≡ a other

mail_other : (a b : ℕ) → a ≢ b → Mail a ≢ Mail b
mail_other a b apart e = apart (let s : a ≡ b = cc e in s)

front_step : (row : MapRow) (target done count : ℕ) (a b c : DiskState) → row.file.0 ≢ target → done + count ≤ row.size → IsFrontAdded row target done a b → OtherSame target a b
    → IsPieceAdded (whole_piece (row.offset + done) count (reading (b (Mail row.file.0)))) (b (Mail target)) (c (Mail target)) → IsFrontAdded row target (done + count) a c
front_step row target done count a b c apart few front same added =
    let inside = front.inside in
    let stays : reading (b (Mail row.file.0)) ≡ Some front.there = ap reading (same (Mail row.file.0) (mail_other row.file.0 target apart)) ∙ front.in_file in
    let piece : whole_piece (row.offset + done) count (reading (b (Mail row.file.0))) ≡ take count (drop done (drop row.offset front.there)) =
    ap (whole_piece (row.offset + done) count) stays ∙ piece_whole (row.offset + done) count front.there (omega (arith, inside, few)) ∙ ap (take count) (sym (drop-drop done row.offset front.there)) in
    record {
      there = front.there;
      in_file = front.in_file;
      inside = front.inside;
      added = subst (λ (o : List ℕ). IsPieceAdded o (a (Mail target)) (c (Mail target))) (take_split done count (drop row.offset front.there))
          (added_twice (take done (drop row.offset front.there)) (take count (drop done (drop row.offset front.there))) (a (Mail target)) (b (Mail target)) (c (Mail target)) front.added
          (subst (λ (o : List ℕ). IsPieceAdded o (b (Mail target)) (c (Mail target))) piece added));
    }

read_some : (o : Option (List ℕ)) (end : ℕ) → option_map length o ≡ Some end → (octets : List ℕ) × (o ≡ Some octets)
read_some None end e = absurd (let w : None ≡ Some end = e in cc w)
read_some (Some octets) end e = (octets, refl)

nothing_added : (f : FileState) (octets : List ℕ) → reading f ≡ Some octets → IsPieceAdded [] f f
nothing_added f octets e = record { before = octets; read = e; reads = e ∙ ap Some (sym (append-nil octets)); leaves = λ none. none }

front_begins : {D : Type 0} → (row : MapRow) (target end : ℕ) (store : StoreValue D) (h : Option History) → IsStore h store → store.stopped ≡ false → IsShownRow store.map row → end_in target store.files.files ≡ Some end → Between (IsFrontAdded row target 0) h h
front_begins row target end store None is run of ends = refl
front_begins row target end store (Some d) is run (r, found, shown) ends =
    let running = is.running run in
    let opens = subst (λ (m : MapMeaning). All (LiesInFile (files_of d.now)) m.records) (sym is.map_is) running.opens.regions in
    let lies : LiesInFile (files_of d.now) r = (found_holds (λ o. o.uid == r.uid) store.map.records r (LiesInFile (files_of d.now)) found opens).0 in
    let b = read_some (reading (d.now (Mail target))) end (running.files_known target ∙ ends) in
    record {
      there = lies.octets;
      in_file = ap (λ (x : MapRow). reading (d.now (Mail x.file.0))) shown ∙ lies.there;
      inside = (let l = lies.inside in let o = ap (λ (x : MapRow). x.offset) shown in let s = ap (λ (x : MapRow). x.size) shown in omega (arith, l, o, s));
      added = nothing_added (d.now (Mail target)) b.0 b.1;
    }

-- ---- what is known of the target

same_step : (n a : ℕ) (x : MailFile) (xs : List MailFile) (b : Bool) → (x.file.0 == n) ≡ b → All (λ f. x.file.0 < f.file.0) xs → (end_in n xs ≡ Some a → changed_in n (ending_at a) xs ≡ xs)
    → option_and_then (λ f. f.end) (cond b (Some x) (file_in n xs)) ≡ Some a → cond b (ending_at a x) x ∷ changed_in n (ending_at a) xs ≡ x ∷ xs
same_step n a x xs true is more rest e =
    let number = equal_is x.file.0 n is in
    let here : ending_at a x ≡ x = ap (λ (o : Option ℕ). record x { end = o }) (sym e) in
    let others : changed_in n (ending_at a) xs ≡ xs = changed-none n (ending_at a) xs (All-weaker (λ f. x.file.0 < f.file.0) (λ f. f.file.0 ≢ n) (λ f lt s. omega (arith, number, lt, s)) xs more) in
    ap (λ (y : MailFile). y ∷ changed_in n (ending_at a) xs) here ∙ ap (λ (ys : List MailFile). x ∷ ys) others
same_step n a x xs false is more rest e = ap (λ (ys : List MailFile). x ∷ ys) (rest e)

-- a file that ends where it ended
ending_same : (n a : ℕ) (files : List MailFile) → AllPairs (λ x y. x.file.0 < y.file.0) files → end_in n files ≡ Some a → changed_in n (ending_at a) files ≡ files
ending_same n a [] rising e = refl
ending_same n a (x ∷ xs) rising e =
    same_step n a x xs (x.file.0 == n) refl (pairs_head (λ x y. x.file.0 < y.file.0) x xs rising) (ending_same n a xs (pairs_tail (λ x y. x.file.0 < y.file.0) x xs rising)) e

twice_step : (n a b : ℕ) (x : MailFile) (t : Bool) → (x.file.0 == n) ≡ t → cond ((cond t (ending_at a x) x).file.0 == n) (ending_at b (cond t (ending_at a x) x)) (cond t (ending_at a x) x) ≡ cond t (ending_at b x) x
twice_step n a b x true e = rw e refl
twice_step n a b x false e = rw e refl

ending_twice : (n a b : ℕ) (files : List MailFile) → changed_in n (ending_at b) (changed_in n (ending_at a) files) ≡ changed_in n (ending_at b) files
ending_twice n a b [] = refl
ending_twice n a b (x ∷ xs) =
    ap (λ (y : MailFile). y ∷ changed_in n (ending_at b) (changed_in n (ending_at a) xs)) (twice_step n a b x (x.file.0 == n) refl) ∙ ap (λ (ys : List MailFile). cond (x.file.0 == n) (ending_at b x) x ∷ ys) (ending_twice n a b xs)

-- the store with another end of a file, and another disk
abbrev pub with_end : {D : Type 0} → ℕ → ℕ → D → Bool → StoreValue D → StoreValue D
with_end n end disk stopped v = record v { disk = disk; files = record v.files { files = changed_in n (ending_at end) v.files.files }; stopped = stopped }

ends_then : {D : Type 0} → (old now new : StoreValue D) (n a b : ℕ) → now ≡ with_end n a now.disk now.stopped old → new ≡ with_end n b new.disk new.stopped now → new ≡ with_end n b new.disk new.stopped old
ends_then old now new n a b first second =
    second ∙ ap (with_end n b new.disk new.stopped) first
    ∙ ap (λ (fs : List MailFile). record old { disk = new.disk; files = record old.files { files = fs }; stopped = new.stopped }) (ending_twice n a b old.files.files)

pub file_as : (o : Option MailFile) (a : ℕ) → option_and_then (λ f. f.end) o ≡ Some a → (f : MailFile) × (o ≡ Some f)
file_as None a e = absurd (let w : None ≡ Some a = e in cc w)
file_as (Some f) a e = (f, refl)

end_now : {D : Type 0} → (old now : StoreValue D) (n a b : ℕ) → end_in n old.files.files ≡ Some a → now ≡ with_end n b now.disk now.stopped old → end_in n now.files.files ≡ Some b
end_now old now n a b ends is =
    let f = file_as (file_in n old.files.files) a ends in
    ap (λ (v : StoreValue _). end_in n v.files.files) is ∙ ends-here n b old.files.files f.0 f.1

-- ---- so far

pub record IsCopying {D : Type 0} (row : MapRow) (target done : ℕ) (old now : StoreValue D) (h k : Option History) (f g : Faults) : Type 0 where
  pub end : ℕ
  pub ends : end_in target old.files.files ≡ Some end
  pub part : done ≤ row.size
  pub running : now.stopped ≡ false
  pub same : now ≡ with_end target (end + done) now.disk now.stopped old
  pub any_moment : (lists : Lists) → IsSettledFor lists h → Leaves lists lists h k
  pub settled : (lists : Lists) → IsSettledFor lists h → IsSettledFor lists k
  pub mail : MailIsKept old.map h k
  pub front : Between (IsFrontAdded row target done) h k
  pub others : SameButFor (Mail target) h k
  pub stored : KeepsStored h k
  pub grows : Grows h k
  pub faults : NoFault f g

leaves_begin : (lists : Lists) (h : Option History) → IsSettledFor lists h → Leaves lists lists h h
leaves_begin lists h settled = idle_leaves lists h h (idle-begins h) settled

pub copying_begins : {D : Type 0} → (row : MapRow) (target end : ℕ) (store : StoreValue D) (h : Option History) (f : Faults) → IsStore h store → AreFilesInOrder store.files → store.stopped ≡ false → IsShownRow store.map row → end_in target store.files.files ≡ Some end → IsCopying row target 0 store store h h f f
copying_begins row target end store h f is order run of ends =
    let zero_more : end + 0 ≡ end = omega arith in
    record {
      end = end;
      ends = ends;
      part = omega arith;
      running = run;
      same = ap (λ (fs : List MailFile). record store { files = record store.files { files = fs } }) (sym (ap (λ (e : ℕ). changed_in target (ending_at e) store.files.files) zero_more ∙ ending_same target end store.files.files order.rising ends));
      any_moment = λ lists settled. leaves_begin lists h settled;
      settled = λ lists settled. settled;
      mail = kept_begins store.map h;
      front = front_begins row target end store h is run of ends;
      others = between-begins (OtherSame target) h (λ disk other apart. refl);
      stored = between-begins _ h (λ disk r octets stored. stored);
      grows = omega arith;
      faults = refl;
    }

-- what a call for a piece leaves, whichever way it goes
pub record HasPiece {D : Type 0} (target : ℕ) (now new : StoreValue D) (k l : Option History) : Type 0 where
  pub any_moment : (lists : Lists) → IsSettledFor lists k → Leaves lists lists k l
  pub mail : MailIsKept now.map k l
  pub settled : new.stopped ≡ false → (lists : Lists) → IsSettledFor lists k → IsSettledFor lists l
  pub others : new.stopped ≡ false → SameButFor (Mail target) k l
  pub stored : new.stopped ≡ false → KeepsStored k l
  pub grows : Grows k l

mail_then : {D : Type 0} → (row : MapRow) (target done : ℕ) (old now new : StoreValue D) (h k l : Option History) (f g : Faults) → IfTold k ReadsImage → IsCopying row target done old now h k f g → MailIsKept now.map k l → MailIsKept old.map h l
mail_then row target done old now new h k l f g reads so mail = kept_then old.map h k l reads so.mail (subst (λ (m : MapMeaning). MailIsKept m k l) (ap (λ (v : StoreValue _). v.map) so.same) mail)

others_then : (target : ℕ) (h k l : Option History) → SameButFor (Mail target) h k → SameButFor (Mail target) k l → SameButFor (Mail target) h l
others_then target h k l first second = between-then (OtherSame target) (OtherSame target) (OtherSame target) h k l (λ a b c r s other apart. s other apart ∙ r other apart) first second

pub keeps_then : (h k l : Option History) → KeepsStored h k → KeepsStored k l → KeepsStored h l
keeps_then h k l first second = between-then _ _ _ h k l (λ a b c r s row octets stored. s row octets (r row octets stored)) first second

ok_not : {T : Type 0} → (r : Result T Refusal) (x : T) (why : Refusal) → r ≡ Ok x → IsErrOf r why → ⊥
ok_not (Ok y) x why is e = let w : Ok y ≡ Err why = e in cc w
ok_not (Err y) x why is e = let w : Err y ≡ Ok x = is in cc w

pub counts_same : {T : Type 0} → (r : Result T Refusal) (x : T) (f g : Faults) → r ≡ Ok x → CopyFaultCounted r f g → NoFault f g
counts_same r x f g is counted = no_fault-of_counts f g (counted.unread (λ e. ok_not r x refusal.ReadFault is e)) (counted.unchanged (λ e. ok_not r x refusal.Stopped is e))

pub copying_more : {D : Type 0} → (row : MapRow) (target done count : ℕ) (old now new : StoreValue D) (h k l : Option History) (f g j : Faults) → IfTold k ReadsImage → row.file.0 ≢ target → done + count ≤ row.size → IsCopying row target done old now h k f g → HasPiece target now new k l
    → Between (λ a b. IsPieceAdded (whole_piece (row.offset + done) count (reading (a (Mail row.file.0)))) (a (Mail target)) (b (Mail target))) k l → ((end : ℕ) → end_in target now.files.files ≡ Some end → IsTargetAt target (end + count) now new × (new.stopped ≡ false)) → NoFault g j → IsCopying row target (done + count) old new h l f j
copying_more row target done count old now new h k l f g j reads apart few so piece added at counted =
    let end_is = end_now old now target so.end (so.end + done) so.ends so.same in
    let b = at (so.end + done) end_is in
    let run = b.1 in
    let sum : so.end + done + count ≡ so.end + (done + count) = omega arith in
    record {
      end = so.end;
      ends = so.ends;
      part = few;
      running = run;
      same = subst (λ (e : ℕ). new ≡ with_end target e new.disk new.stopped old) sum (ends_then old now new target (so.end + done) (so.end + done + count) so.same b.0.same);
      any_moment = λ lists settled. leaves_then lists h k l (so.any_moment lists settled) (piece.any_moment lists (so.settled lists settled));
      settled = λ lists settled. piece.settled run lists (so.settled lists settled);
      mail = mail_then row target done old now new h k l f g reads so piece.mail;
      front = between-then (λ a b. IsFrontAdded row target done a b × OtherSame target a b) _ (IsFrontAdded row target (done + count)) h k l (λ a b c r s. front_step row target done count a b c apart few r.0 r.1 s)
          (between-both (IsFrontAdded row target done) (OtherSame target) (λ a b. IsFrontAdded row target done a b × OtherSame target a b) h k (λ a b r s. (r, s)) so.front so.others) added;
      others = others_then target h k l so.others (piece.others run);
      stored = keeps_then h k l so.stored (piece.stored run);
      grows = (let a = so.grows in let b = piece.grows in omega (arith, a, b));
      faults = no_fault-then f g j so.faults counted;
    }

-- ---- behind the last piece

pub region_added : {D : Type 0} → (row : MapRow) (target done : ℕ) (old now : StoreValue D) (h k : Option History) (f g : Faults) → IsCopying row target done old now h k f g → done ≡ row.size → Between (IsRegionAdded row target) h k
region_added row target done old now h k f g so all = between-map (IsFrontAdded row target done) (IsRegionAdded row target) h k (λ a b r. record {
  there = r.there;
  in_file = r.in_file;
  inside = r.inside;
  added = subst (λ (n : ℕ). IsPieceAdded (take n (drop row.offset r.there)) (a (Mail target)) (b (Mail target))) all r.added;
}) so.front

pub target_at : {D : Type 0} → (row : MapRow) (target done : ℕ) (old now : StoreValue D) (h k : Option History) (f g : Faults) → IsCopying row target done old now h k f g → done ≡ row.size → (end : ℕ) → end_in target old.files.files ≡ Some end → IsTargetAt target (end + row.size) old now × (now.stopped ≡ false)
target_at row target done old now h k f g so all end ends =
    let e : Some end ≡ Some so.end = sym ends ∙ so.ends in
    let same : end ≡ so.end = cc e in
    let to : so.end + done ≡ end + row.size = omega (arith, same, all) in
    (record { before = end; ended = ends; no_less = omega arith; same = subst (λ (x : ℕ). now ≡ with_end target x now.disk now.stopped old) to so.same }, so.running)

pub front_more : {D : Type 0} → (row : MapRow) (target done : ℕ) (old now : StoreValue D) (h k : Option History) (f g : Faults) → IsCopying row target done old now h k f g → Between (IsAdded target) h k
front_more row target done old now h k f g so = between-map (IsFrontAdded row target done) (IsAdded target) h k (λ a b r. (take done (drop row.offset r.there), r.added)) so.front

-- ---- a piece that fails

-- a read that failed left all as it was, and a change that failed stopped the store
abbrev pub IsPieceRefused : {D : Type 0} → Refusal → StoreValue D → StoreValue D → Option History → Option History → Type 0
IsPieceRefused why now new k l = ((why ≡ refusal.ReadFault) × (new ≡ record now { disk = new.disk }) × IsIdle k l) ⊎ ((why ≡ refusal.Stopped) × (new ≡ record now { disk = new.disk; stopped = true }))

-- what is left of a region that was copied in part
pub record HasStopped {D : Type 0} (target : ℕ) (why : Refusal) (old new : StoreValue D) (h l : Option History) : Type 0 where
  pub any_moment : (lists : Lists) → IsSettledFor lists h → Leaves lists lists h l
  pub mail : MailIsKept old.map h l
  pub settled : new.stopped ≡ false → (lists : Lists) → IsSettledFor lists h → IsSettledFor lists l
  pub others : new.stopped ≡ false → SameButFor (Mail target) h l
  pub front : new.stopped ≡ false → Between (IsAdded target) h l
  pub stored : new.stopped ≡ false → KeepsStored h l
  pub refused : IsCopyRefusal target why old new
  pub grows : Grows h l

stopped_now : {D : Type 0} → (now new : StoreValue D) → new ≡ record now { disk = new.disk; stopped = true } → new.stopped ≡ true
stopped_now now new e = ap (λ (v : StoreValue _). v.stopped) e

as_was : {D : Type 0} → (old now new : StoreValue D) (n a : ℕ) → now ≡ with_end n a now.disk now.stopped old → new ≡ record now { disk = new.disk } → new ≡ with_end n a new.disk new.stopped old
as_was old now new n a first second =
    let stops = ap (λ (v : StoreValue _). v.stopped) second in
    second ∙ ap (λ (v : StoreValue _). record v { disk = new.disk }) first ∙ ap (λ (b : Bool). with_end n a new.disk b old) (sym stops)

as_stopped : {D : Type 0} → (old now new : StoreValue D) (n a : ℕ) → now ≡ with_end n a now.disk now.stopped old → new ≡ record now { disk = new.disk; stopped = true } → new ≡ with_end n a new.disk new.stopped old
as_stopped old now new n a first second =
    let stops = ap (λ (v : StoreValue _). v.stopped) second in
    second ∙ ap (λ (v : StoreValue _). record v { disk = new.disk; stopped = true }) first ∙ ap (λ (b : Bool). with_end n a new.disk b old) (sym stops)

refused_as : {D : Type 0} → (row : MapRow) (target done : ℕ) (why : Refusal) (old now new : StoreValue D) (h k l : Option History) (f g : Faults) → old.stopped ≡ false → IsCopying row target done old now h k f g → IsPieceRefused why now new k l → IsCopyRefusal target why old new
refused_as row target done why old now new h k l f g run so (inl read) = record {
  cause = inl (read.0, ap (λ (v : StoreValue _). v.stopped) read.1 ∙ so.running ∙ sym run);
  end = so.end + done;
  at = record { before = so.end; ended = so.ends; no_less = omega arith; same = as_was old now new target (so.end + done) so.same read.1 };
}
refused_as row target done why old now new h k l f g run so (inr stop) = record {
  cause = inr (stop.0, stopped_now now new stop.1);
  end = so.end + done;
  at = record { before = so.end; ended = so.ends; no_less = omega arith; same = as_stopped old now new target (so.end + done) so.same stop.1 };
}

read_or_stopped : {D : Type 0} → (why : Refusal) (now new : StoreValue D) (k l : Option History) (P : Type 0) → IsPieceRefused why now new k l → new.stopped ≡ false → (IsIdle k l → P) → P
read_or_stopped why now new k l P (inl read) run f = f read.2
read_or_stopped why now new k l P (inr stop) run f = absurd (let w : true ≡ false = sym (stopped_now now new stop.1) ∙ run in cc w)

pub copying_fails : {D : Type 0} → (row : MapRow) (target done : ℕ) (why : Refusal) (old now new : StoreValue D) (h k l : Option History) (f g : Faults) → IfTold k ReadsImage → old.stopped ≡ false → IsCopying row target done old now h k f g → HasPiece target now new k l → IsPieceRefused why now new k l → HasStopped target why old new h l
copying_fails row target done why old now new h k l f g reads run so piece refused = record {
  any_moment = λ lists settled. leaves_then lists h k l (so.any_moment lists settled) (piece.any_moment lists (so.settled lists settled));
  mail = mail_then row target done old now new h k l f g reads so piece.mail;
  settled = λ runs lists settled. piece.settled runs lists (so.settled lists settled);
  others = λ runs. others_then target h k l so.others (piece.others runs);
  front = λ runs. read_or_stopped why now new k l (Between (IsAdded target) h l) refused runs (λ idle. between-same (IsAdded target) h k l (front_more row target done old now h k f g so) idle.same);
  stored = λ runs. keeps_then h k l so.stored (piece.stored runs);
  refused = refused_as row target done why old now new h k l f g run so refused;
  grows = (let a = so.grows in let b = piece.grows in omega (arith, a, b));
}

-- ---- what each piece asks

begun_as : (end : ℕ) (o : Option MailFile) → option_and_then (λ f. f.begun) (option_map (ending_at end) o) ≡ option_and_then (λ f. f.begun) o
begun_as end None = refl
begun_as end (Some f) = refl

pub begun_now : {D : Type 0} → (row : MapRow) (target done start : ℕ) (old now : StoreValue D) (h k : Option History) (f g : Faults) → IsCopying row target done old now h k f g → place_begun_in target old.files.files ≡ Some start → place_begun_in target now.files.files ≡ Some start
begun_now row target done start old now h k f g so begun =
    ap (λ (v : StoreValue _). place_begun_in target v.files.files) so.same ∙ ap (option_and_then (λ x. x.begun)) (file-here target (ending_at (so.end + done)) old.files.files (λ x. refl)) ∙ begun_as (so.end + done) (file_in target old.files.files) ∙ begun

pub ends_now : {D : Type 0} → (row : MapRow) (target done : ℕ) (old now : StoreValue D) (h k : Option History) (f g : Faults) → (so : IsCopying row target done old now h k f g) → end_in target now.files.files ≡ Some (so.end + done)
ends_now row target done old now h k f g so = end_now old now target so.end (so.end + done) so.ends so.same

pub same_end : {D : Type 0} → (row : MapRow) (target done end : ℕ) (old now : StoreValue D) (h k : Option History) (f g : Faults) → (so : IsCopying row target done old now h k f g) → end_in target old.files.files ≡ Some end → so.end ≡ end
same_end row target done end old now h k f g so ends = let w : Some so.end ≡ Some end = sym so.ends ∙ ends in cc w

pub row_ends : (m : MapMeaning) (row : MapRow) → IsSoundMap m → IsShownRow m row → (1 ≤ row.size) × (row.offset + row.size ≤ 4294967295)
row_ends m row sound (r, found, shown) =
    let s : IsSoundRecord m.highest.map r = (found_holds (λ o. o.uid == r.uid) m.records r (IsSoundRecord m.highest.map) found sound.records).0 in
    let some = s.size in
    let ends = s.ends in
    let o = ap (λ (x : MapRow). x.offset) shown in
    let z = ap (λ (x : MapRow). x.size) shown in
    (omega (arith, some, z), omega (arith, ends, o, z))

pub piece_long : (block : List ℕ) (size done count : ℕ) → length block ≡ 65536 → count ≡ min (size - done) 65536 → (length (take count block) ≡ count) × (done ≤ size → done + length (take count block) ≤ size)
piece_long block size done count long is =
    let e = length-take-le count block (omega (arith, long, is)) in
    (e, λ part. omega (arith, e, is, part))
