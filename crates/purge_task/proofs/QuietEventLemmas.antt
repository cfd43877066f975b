-- The events of a purge beside no other task that make a target, copy a message, or remove a storage file.
use Rattle.purge_task.proofs.Common.{◌≡◌, ◌≢◌, ◌≤◌, ◌<◌, ◌+◌, ◌==◌, ◌&&◌, ◌||◌, ◌++◌, ℕ, Bool, true, false, not, List, [], ◌∷◌, length, map, Some, None, refl, sym, ◌∙◌, ap, subst, arith, inl, inr, All, Contains, filter, list_any, eqb-true, append-nil, All-cons, All-contains, All-contains_itself}
use Rattle.purge_task.proofs.Common.{All-head, All-tail, All-weaker, Files, is_copied_from, is_one_of, MapPlace, FileNo, MapMeaning, MapRecord, is_sealed, record_at, among, AreElsewhere, StoreValue, sources_left, at_stage, IsSourceWith, PurgeValue, target_header, CopiesRunTo, HasEmptied, HaveWanted}
use Rattle.purge_task.proofs.Common.{HoldsCopied, HoldsCopies, IsOnlyTask, IsQuietSoFar, but_file, files_to_empty, sources_to_empty, stays_beside, with_file, IsNextStage, went_on, IsFirst, PurgeStage, Source, Work}
use Rattle.std.proofs.Common.{◌⊎◌}
use Rattle.std.specs.Prelude.{drop, take}
use Rattle.std.proofs.lemmas.List.{take-append-le}
use Rattle.disk_model.specs.declared.name.FileName.TheVariants as file
use Rattle.purge_task.specs.declared.task.PurgeStage.TheVariants as stage
use Rattle.purge_task.proofs.CopyLemmas.{kept_of}
use Rattle.purge_task.proofs.QuietEndLemmas.{none_within}
use Rattle.purge_task.proofs.QuietFileLemmas.{append_long, quiet_changes}
use Rattle.purge_task.proofs.QuietLemmas.{filter_alike}
use Rattle.purge_task.proofs.QuietSwitchLemmas.{below_mapped, done_more, emptied_as, left_less, undone_first}
use Rattle.purge_task.proofs.StageLemmas.{left_on}
use Rattle.purge_task.proofs.WithinLemmas.{mapped_of}

-- what is done stays done
done_still : (first m : MapMeaning) (done : List ℕ) (is_left : ℕ → Bool) → HasEmptied first m (is_one_of done) is_left → HasEmptied first m (is_one_of (done ++ [])) is_left
done_still first m done is_left h = subst (λ (ns : List ℕ). HasEmptied first m (is_one_of ns) is_left) (sym (append-nil done)) h

-- What is known of an event that changes one file and leaves the map as it is.
pub record ChangesFile {D : Type 0} (own : ℕ) (old new : StoreValue D) (a b : Files) : Type 0 where
  pub map_is : new.map ≡ old.map
  pub mails : (number : ℕ) → number ≢ own → b (file.Mail number) ≡ a (file.Mail number)
  pub instances : (hash id : List ℕ) → b (file.Inst hash id) ≡ a (file.Inst hash id)
  pub elsewhere : AreElsewhere own old.map.records
  pub unsealed : is_sealed old.map own ≡ false

-- ---- a target is made

pub quiet_made : {D : Type 0} → (began a b : Files) (first : MapMeaning) (t : PurgeValue) (work : Work) (source : Source) (left : List Source) (target : FileNo) (old new : StoreValue D) → IsQuietSoFar began first (at_stage (stage.Begin work) t) old a → sources_left work ≡ source ∷ left → source.target ≡ Some target → source.copied.items ≡ []
    → ChangesFile target.0 old new a b → IsOnlyTask (stage.Copying work) new → b (file.Mail target.0) ≡ Some target_header → IsQuietSoFar began first (at_stage (stage.Copying work) t) new b
quiet_made began a b first t work source left target old new h left_are target_is uncopied c only made =
    quiet_changes target.0 [] began a b first (at_stage (stage.Begin work) t) (at_stage (stage.Copying work) t) old new h
    (record {
      map_is = c.map_is;
      only = only;
      mails = c.mails;
      instances = c.instances;
      elsewhere = c.elsewhere;
      unsealed = c.unsealed;
      own_is = inr (subst (λ (ss : List Source). IsFirst ss (λ s. (u : FileNo) × (s.target ≡ Some u) × (u.0 ≡ target.0))) (sym left_are) (target, target_is, refl));
      hand = λ n hand apart. absurd hand;
      target = subst (λ (ss : List Source). IsFirst ss (λ s. (u : FileNo) → s.target ≡ Some u → HoldsCopies b new.map u.0 s.copied.items)) (sym left_are) holds;
      dropped = refl;
      removed = refl;
    })
    refl (λ n within. absurd (none_within n within)) (omega arith) (done_still first old.map h.done (is_one_of (files_to_empty (stage.Begin work))) h.emptied) h.wanted
  where
    holds : (u : FileNo) → source.target ≡ Some u → HoldsCopies b new.map u.0 source.copied.items
    holds u is = record {
      octets = target_header;
      there = ap (λ (f : FileNo). b (file.Mail f.0)) (let e : Some u ≡ Some target = sym is ∙ target_is in cc e) ∙ made;
      header = refl;
      run = subst (λ (ps : List MapPlace). CopiesRunTo new.map (length target_header) ps (length target_header)) (sym uncopied) refl;
    }

-- ---- a message is copied

pub run_long : (m : MapMeaning) (offset end : ℕ) (copied : List MapPlace) → CopiesRunTo m offset copied end → offset ≤ end
run_long m offset end [] run = omega (arith, run)
run_long m offset end (place ∷ places) run = let l = run_long m (offset + run.1.0.size) end places run.1.2.1 in omega (arith, l)

pub runs_on : (m : MapMeaning) (offset end now : ℕ) (copied : List MapPlace) (place : MapPlace) (row : MapRecord) → CopiesRunTo m offset copied end → record_at m place.uid.0 ≡ Some row → 1 ≤ row.count → place.offset ≡ end → end + row.size ≡ now → CopiesRunTo m offset (copied ++ place ∷ []) now
runs_on m offset end now [] place row run at some here ends = (here ∙ sym run, (row, at, (some, ap (λ (n : ℕ). n + row.size) run ∙ ends)))
runs_on m offset end now (p ∷ ps) place row run at some here ends = (run.0, (run.1.0, run.1.1, (run.1.2.0, runs_on m (offset + run.1.0.size) end now ps place row run.1.2.1 at some here ends)))

pub holds_more : (a b : Files) (m : MapMeaning) (target : ℕ) (copied : List MapPlace) (place : MapPlace) (row : MapRecord) (before piece : List ℕ) → HoldsCopies a m target copied → record_at m place.uid.0 ≡ Some row → 1 ≤ row.count → a (file.Mail target) ≡ Some before → b (file.Mail target) ≡ Some (before ++ piece) → place.offset ≡ length before → length piece ≡ row.size
    → HoldsCopies b m target (copied ++ place ∷ [])
holds_more a b m target copied place row before piece h at some was now here size = record {
  octets = before ++ piece;
  there = now;
  header = take-append-le (length target_header) before piece (omega (arith, long)) ∙ subst (λ (o : List ℕ). take (length target_header) o ≡ target_header) is h.header;
  run = runs_on m (length target_header) (length before) (length (before ++ piece)) copied place row (subst (λ (o : List ℕ). CopiesRunTo m (length target_header) copied (length o)) is h.run) at some here (let l = append_long before piece in omega (arith, l, size));
}
  where
    is : h.octets ≡ before
    is = let e : Some h.octets ≡ Some before = sym h.there ∙ was in cc e

    long : length target_header ≤ length before
    long = run_long m (length target_header) (length before) copied (subst (λ (o : List ℕ). CopiesRunTo m (length target_header) copied (length o)) is h.run)

pub quiet_copied : {D : Type 0} → (began a b : Files) (first : MapMeaning) (t : PurgeValue) (work now : Work) (source noted : Source) (left : List Source) (target : FileNo) (place : MapPlace) (row : MapRecord) (before piece : List ℕ) (old new : StoreValue D) → IsQuietSoFar began first (at_stage (stage.Copying work) t) old a
    → sources_left work ≡ source ∷ left → sources_left now ≡ noted ∷ left → IsSourceWith place source noted → source.target ≡ Some target → record_at old.map place.uid.0 ≡ Some row → 1 ≤ row.count → a (file.Mail target.0) ≡ Some before → b (file.Mail target.0) ≡ Some (before ++ piece) → place.offset ≡ length before → length piece ≡ row.size
    → ChangesFile target.0 old new a b → IsOnlyTask (stage.Copying now) new → IsQuietSoFar began first (at_stage (stage.Copying now) t) new b
quiet_copied began a b first t work now source noted left target place row before piece old new h left_are now_are with_copy target_is at some was reads here size c only =
    quiet_changes target.0 [] began a b first (at_stage (stage.Copying work) t) (at_stage (stage.Copying now) t) old new h
    (record {
      map_is = c.map_is;
      only = only;
      mails = c.mails;
      instances = c.instances;
      elsewhere = c.elsewhere;
      unsealed = c.unsealed;
      own_is = inr (subst (λ (ss : List Source). IsFirst ss (λ s. (u : FileNo) × (s.target ≡ Some u) × (u.0 ≡ target.0))) (sym now_are) (target, same_target ∙ target_is, refl));
      hand = λ n hand apart. (let o = subst (λ (ss : List Source). IsFirst ss (λ s. (u : FileNo) × (s.target ≡ Some u) × (u.0 ≡ n))) left_are hand in absurd (apart (sym o.2 ∙ ap (λ (f : FileNo). f.0) (let e : Some o.0 ≡ Some target = sym o.1 ∙ target_is in cc e))));
      target = subst (λ (ss : List Source). IsFirst ss (λ s. (u : FileNo) → s.target ≡ Some u → HoldsCopies b new.map u.0 s.copied.items)) (sym now_are) holds;
      dropped = refl;
      removed = refl;
    })
    files_are (λ n within. absurd (none_within n within)) (omega arith) (subst (λ (ns : List ℕ). HasEmptied first old.map (is_one_of (h.done ++ [])) (is_one_of ns)) files_are (done_still first old.map h.done (is_one_of (files_to_empty (stage.Copying work))) h.emptied)) (subst (λ (ss : List Source). HaveWanted old.map ss) (sym now_are) wanted)
  where
    same_target : noted.target ≡ source.target
    same_target = ap (λ (s : Source). s.target) with_copy.same

    same_file : noted.file.0 ≡ source.file.0
    same_file = ap (λ (s : Source). s.file.0) with_copy.same

    files_are : files_to_empty (stage.Copying work) ≡ files_to_empty (stage.Copying now)
    files_are = ap (λ (ss : List Source). map (λ (s : Source). s.file.0) ss) left_are ∙ (ap (λ (n : ℕ). n ∷ map (λ (s : Source). s.file.0) left) (sym same_file) ∙ sym (ap (λ (ss : List Source). map (λ (s : Source). s.file.0) ss) now_are))

    before_wanted : HaveWanted old.map (source ∷ left)
    before_wanted = subst (λ (ss : List Source). HaveWanted old.map ss) left_are h.wanted

    wanted : HaveWanted old.map (noted ∷ left)
    wanted = All-cons (λ (s : Source). (u : FileNo) → s.target ≡ Some u → list_any (is_copied_from s.file.0) old.map.records ≡ true) noted left
        (λ u is. subst (λ (n : ℕ). list_any (is_copied_from n) old.map.records ≡ true) (sym same_file) (All-head (λ (s : Source). (u : FileNo) → s.target ≡ Some u → list_any (is_copied_from s.file.0) old.map.records ≡ true) source left before_wanted u (sym same_target ∙ is)))
        (All-tail (λ (s : Source). (u : FileNo) → s.target ≡ Some u → list_any (is_copied_from s.file.0) old.map.records ≡ true) source left before_wanted)

    held : HoldsCopies a old.map target.0 source.copied.items
    held = subst (λ (ss : List Source). IsFirst ss (λ s. (u : FileNo) → s.target ≡ Some u → HoldsCopies a old.map u.0 s.copied.items)) left_are h.target target target_is

    holds : (u : FileNo) → noted.target ≡ Some u → HoldsCopies b new.map u.0 noted.copied.items
    holds u is =
        let same : u ≡ target = (let e : Some u ≡ Some target = sym is ∙ (same_target ∙ target_is) in cc e) in
        subst (λ (f : FileNo). HoldsCopies b new.map f.0 noted.copied.items) (sym same) (subst (λ (ps : List MapPlace). HoldsCopies b new.map target.0 ps) (sym with_copy.listed)
        (subst (λ (m : MapMeaning). HoldsCopies b m target.0 (source.copied.items ++ place ∷ [])) (sym c.map_is) (holds_more a b old.map target.0 source.copied.items place row before piece held at some was reads here size)))

-- ---- a file is removed

-- the stage behind a file has those behind it to empty, and nothing at hand
pub next_sources : (work : Work) (on : PurgeStage) → IsNextStage work on → sources_to_empty on ≡ sources_left work
next_sources work on (inl none) = ap sources_to_empty none.1 ∙ sym none.0
next_sources work on (inr more) = ap sources_to_empty more.1

pub next_holds : (work : Work) (on : PurgeStage) (files : Files) (m : MapMeaning) → IsNextStage work on → HoldsCopied files m on
next_holds work on files m (inl none) = subst (λ (s : PurgeStage). HoldsCopied files m s) (sym none.1) tt
next_holds work on files m (inr more) = subst (λ (s : PurgeStage). HoldsCopied files m s) (sym more.1) tt

pub quiet_removed : {D : Type 0} → (began a b : Files) (first : MapMeaning) (t : PurgeValue) (work : Work) (on : PurgeStage) (source : Source) (left : List Source) (old new : StoreValue D) → IsQuietSoFar began first (at_stage (stage.Removing work) t) old a → sources_left work ≡ source ∷ left → IsNextStage (went_on work) on
    → ChangesFile source.file.0 old new a b → IsOnlyTask on new → b (file.Mail source.file.0) ≡ None → IsQuietSoFar began first (at_stage on t) new b
quiet_removed began a b first t work on source left old new h left_are next c only gone =
    quiet_changes source.file.0 [] began a b first (at_stage (stage.Removing work) t) (at_stage on t) old new h
    (record {
      map_is = c.map_is;
      only = only;
      mails = c.mails;
      instances = c.instances;
      elsewhere = c.elsewhere;
      unsealed = c.unsealed;
      own_is = inl gone;
      hand = λ n hand apart. absurd (apart (sym (subst (λ (ss : List Source). IsFirst ss (λ s. s.file.0 ≡ n)) left_are hand)));
      target = next_holds (went_on work) on b new.map next;
      dropped = refl;
      removed = refl;
    })
    files_are (λ n within. absurd (none_within n within)) (omega arith) (subst (λ (ns : List ℕ). HasEmptied first old.map (is_one_of (h.done ++ [])) (is_one_of ns)) files_are (done_still first old.map h.done (is_one_of (files_to_empty (stage.Removing work))) h.emptied)) (subst (λ (ss : List Source). HaveWanted old.map ss) sources_are h.wanted)
  where
    sources_are : sources_to_empty (stage.Removing work) ≡ sources_to_empty on
    sources_are = ap (λ (ss : List Source). drop 1 ss) left_are ∙ sym (next_sources (went_on work) on next ∙ left_on work source left left_are)

    files_are : files_to_empty (stage.Removing work) ≡ files_to_empty on
    files_are = ap (λ (ss : List Source). map (λ (s : Source). s.file.0) ss) sources_are

-- ---- one in which no message lies

or_none : (a b : Bool) → (a || b) ≡ false → (a ≡ false) × (b ≡ false)
or_none false false e = (refl, refl)
or_none true b e = absurd (let k : true ≡ false = e in cc k)
or_none false true e = absurd (let k : true ≡ false = e in cc k)

-- it is emptied, as no record lies in it
pub emptied_bare : (old m : MapMeaning) (done is_left : ℕ → Bool) (f : ℕ) → AreElsewhere f m.records → done f ≡ false → HasEmptied old m done is_left → HasEmptied old m (with_file f done) (but_file f is_left)
emptied_bare old m done is_left f away undone h = record {
  placed = h.placed;
  same = h.same;
  still = λ row c e. h.still row c (or_none (done row.file) (row.file == f) e).0;
  elsewhere = λ row n c s d l. h.elsewhere row n c (sym (alike row c) ∙ s) (sym (same_done row c) ∙ d) (left_too (is_left n) (n == f) l);
  records = h.records ∙ ap (map h.placed) (sym (filter_alike (stays_beside (with_file f done)) (stays_beside done) old.records (All-weaker (Contains old.records) _ alike old.records (All-contains_itself old.records))));
}
  where
    left_too : (x y : Bool) → (x && not y) ≡ true → x ≡ true
    left_too true y e = refl
    left_too false y e = e

    -- a record that lay in it would lie there still
    no_record : (row : MapRecord) → Contains old.records row → row.file ≢ f
    no_record row c is =
        let d : done row.file ≡ false = ap done is ∙ undone in
        let stays : stays_beside done row ≡ true = ap (λ (x : Bool). not (x && (row.count == 0))) d in
        let there : Contains m.records (h.placed row) = subst (λ (rs : List MapRecord). Contains rs (h.placed row)) (sym h.records) (mapped_of h.placed (filter (stays_beside done) old.records) row (kept_of (stays_beside done) old.records row c stays)) in
        All-contains (λ (r : MapRecord). r.file ≢ f) m.records row away (subst (λ (r : MapRecord). Contains m.records r) (h.still row c d) there) is

    or_no : (x : Bool) → (x || false) ≡ x
    or_no true = refl
    or_no false = refl

    same_done : (row : MapRecord) → Contains old.records row → with_file f done row.file ≡ done row.file
    same_done row c = by_file (row.file == f) refl
      where
        by_file : (x : Bool) → (row.file == f) ≡ x → (done row.file || row.file == f) ≡ done row.file
        by_file true e = absurd (no_record row c (eqb-true row.file f e))
        by_file false e = ap (λ (x : Bool). done row.file || x) e ∙ or_no (done row.file)

    alike : (row : MapRecord) → Contains old.records row → stays_beside (with_file f done) row ≡ stays_beside done row
    alike row c = ap (λ (x : Bool). not (x && (row.count == 0))) (same_done row c)

-- the task with one file more counted
abbrev pub one_counted : PurgeValue → PurgeValue
one_counted t = record t { files = t.files + 1 }

pub quiet_bare : {D : Type 0} → (began a b : Files) (first : MapMeaning) (t : PurgeValue) (work : Work) (on : PurgeStage) (source : Source) (left : List Source) (old new : StoreValue D) → IsQuietSoFar began first (at_stage (stage.Begin work) t) old a → sources_left work ≡ source ∷ left → All (λ s. source.file.0 < s.file.0) left → IsNextStage (went_on work) on
    → ChangesFile source.file.0 old new a b → IsOnlyTask on new → b (file.Mail source.file.0) ≡ None → IsQuietSoFar began first (at_stage on (one_counted t)) new b
quiet_bare began a b first t work on source left old new h left_are below next c only gone =
    quiet_changes source.file.0 (source.file.0 ∷ []) began a b first (at_stage (stage.Begin work) t) (at_stage on (one_counted t)) old new h
    (record {
      map_is = c.map_is;
      only = only;
      mails = c.mails;
      instances = c.instances;
      elsewhere = c.elsewhere;
      unsealed = c.unsealed;
      own_is = inl gone;
      hand = λ n hand apart. absurd hand;
      target = next_holds (went_on work) on b new.map next;
      dropped = refl;
      removed = refl;
    })
    (files_are ∙ ap (λ (ns : List ℕ). source.file.0 ∷ ns) (sym on_files)) (λ n within. only_one n within) (omega arith)
    (emptied_as first old.map (with_file source.file.0 (is_one_of h.done)) (but_file source.file.0 (is_one_of (files_to_empty (stage.Begin work)))) (is_one_of (h.done ++ source.file.0 ∷ [])) (is_one_of (files_to_empty on)) (done_more h.done source.file.0)
    (λ n e. subst (λ (ns : List ℕ). but_file source.file.0 (is_one_of ns) n ≡ true) (sym files_are) (left_less source.file.0 lefts n (below_mapped source.file.0 left below) (sym (ap (λ (ns : List ℕ). is_one_of ns n) on_files) ∙ e)))
    (emptied_bare first old.map (is_one_of h.done) (is_one_of (files_to_empty (stage.Begin work))) source.file.0 c.elsewhere (undone_first h.numbers h.done source.file.0 lefts h.numbers_are.rising (h.parted ∙ ap (λ (ns : List ℕ). h.done ++ ns) files_are)) h.emptied))
    (subst (λ (ss : List Source). HaveWanted old.map ss) (sym on_sources) (All-tail (λ (s : Source). (u : FileNo) → s.target ≡ Some u → list_any (is_copied_from s.file.0) old.map.records ≡ true) source left (subst (λ (ss : List Source). HaveWanted old.map ss) left_are h.wanted)))
  where
    lefts : List ℕ
    lefts = map (λ (s : Source). s.file.0) left

    files_are : files_to_empty (stage.Begin work) ≡ source.file.0 ∷ lefts
    files_are = ap (λ (ss : List Source). map (λ (s : Source). s.file.0) ss) left_are

    on_sources : sources_to_empty on ≡ left
    on_sources = next_sources (went_on work) on next ∙ left_on work source left left_are

    on_files : files_to_empty on ≡ lefts
    on_files = ap (λ (ss : List Source). map (λ (s : Source). s.file.0) ss) on_sources

    only_one : (n : ℕ) → Contains (source.file.0 ∷ []) n → n ≡ source.file.0
    only_one n within = by_case (among source.file.0 [] n within)
      where
        by_case : (source.file.0 ≡ n) ⊎ Contains [] n → n ≡ source.file.0
        by_case (inl same) = sym same
        by_case (inr none) = absurd (none_within n none)
