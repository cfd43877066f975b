-- The event of a purge beside no other task that switches a storage file.
use Rattle.purge_task.proofs.Common.{◌≡◌, ◌≢◌, ◌≤◌, ◌<◌, ◌+◌, ◌==◌, ◌&&◌, ◌||◌, ◌++◌, ℕ, zero, suc, Bool, true, false, not, List, [], ◌∷◌, length, map, Option, Some, None, refl, sym, ◌∙◌, ap, subst, arith, inl, inr, All, AllPairs, Contains, filter, nat_lt, if◌then◌else◌, list_any}
use Rattle.purge_task.proofs.Common.{IsStrictlyIncreasing, eqb-true, ne_eqb, All-contains, All-contains_itself, All-head, All-tail, All-weaker, Contains-append_right, list_any-append, AllPairs-from_increasing, Files, IsClean, is_copied_from, is_one_of, MapPlace, FileNo, AreCopied, HasRecord}
use Rattle.purge_task.proofs.Common.{MapMeaning, MapRecord, is_sealed, moved_record, place_given, IsSoundMap, equal_is, equal_yes, pairs_head, pairs_tail, among, LiesInFile, AreElsewhere, StoreValue, sources_left, DropsUnwanted, PurgeValue, target_header, CopiesRunTo, HasEmptied, HaveSameRegions}
use Rattle.purge_task.proofs.Common.{HaveWanted, HoldsCopies, IsAtHand, IsOnlyTask, IsQuietSoFar, but_file, files_to_empty, sources_to_empty, stays_beside, with_file, IsFirst, IsSwitched, target_named, Switched, Source, Work, fall}
use Rattle.std.proofs.Common.{◌⊎◌}
use Rattle.std.specs.Prelude.{drop}
use Rattle.disk_model.specs.declared.name.FileName.TheVariants as file
use Rattle.mdbox_base.specs.declared.progress.Did.TheVariants as did
use Rattle.model_octets.proofs.SearchLemmas.{both_same}
use Rattle.purge_task.specs.declared.task.PurgeStage.TheVariants as stage
use Rattle.purge_task.proofs.CopyLemmas.{kept_of}
use Rattle.purge_task.proofs.QuietEndLemmas.{none_within, within_one}
use Rattle.purge_task.proofs.QuietFileLemmas.{append_both, append_long, gone_same}
use Rattle.purge_task.proofs.QuietLemmas.{emptied_more, filter_alike}
use Rattle.purge_task.proofs.QuietRegionLemmas.{regions_then, switched_regions}
use Rattle.purge_task.proofs.QuietTargetLemmas.{came_of, target_clean}
use Rattle.purge_task.proofs.SwitchFitLemmas.{none_moved}
use Rattle.purge_task.proofs.SwitchRowLemmas.{map_switched, moved_elsewhere, within, within_switched}
use Rattle.purge_task.proofs.WithinLemmas.{of_kept, of_mapped}

-- ---- maps that have the same records in a file

pub clean_as : (m n : MapMeaning) (number : ℕ) (octets : List ℕ) → within number n ≡ within number m → IsClean m number octets → IsClean n number octets
clean_as m n number octets same h = record {
  header = h.header;
  rows = h.rows;
  begins = h.begins;
  some = h.some;
  mapped = All-weaker (λ row. Contains m.records row × (row.file ≡ number) × (1 ≤ row.count)) (λ row. Contains n.records row × (row.file ≡ number) × (1 ≤ row.count))
      (λ row k. (of_kept (λ (r : MapRecord). r.file == number) n.records row (subst (λ (rs : List MapRecord). Contains rs row) (sym same) (kept_of (λ (r : MapRecord). r.file == number) m.records row k.0 (equal_yes row.file number k.1))), k.1, k.2)) h.rows h.mapped;
  every = All-weaker (Contains n.records) (λ row. row.file ≡ number → Contains h.rows row)
      (λ row c is. All-contains (λ (r : MapRecord). r.file ≡ number → Contains h.rows r) m.records row h.every (of_kept (λ (r : MapRecord). r.file == number) m.records row (subst (λ (rs : List MapRecord). Contains rs row) same (kept_of (λ (r : MapRecord). r.file == number) n.records row c (equal_yes row.file number is)))) is) n.records (All-contains_itself n.records);
  whole = h.whole;
}

any_within : (number : ℕ) (rows : List MapRecord) → list_any (is_copied_from number) rows ≡ list_any (λ row. nat_lt 0 row.count) (filter (λ row. row.file == number) rows)
any_within number [] = refl
any_within number (row ∷ rows) = by_test (row.file == number) (any_within number rows)
  where
    by_test : (b : Bool) → list_any (is_copied_from number) rows ≡ list_any (λ row. nat_lt 0 row.count) (filter (λ row. row.file == number) rows)
        → ((b && nat_lt 0 row.count) || list_any (is_copied_from number) rows) ≡ list_any (λ row. nat_lt 0 row.count) (if b then row ∷ filter (λ row. row.file == number) rows else filter (λ row. row.file == number) rows)
    by_test true rest = ap (λ (c : Bool). nat_lt 0 row.count || c) rest
    by_test false rest = rest

pub wanted_as : (m n : MapMeaning) (number : ℕ) → within number n ≡ within number m → list_any (is_copied_from number) m.records ≡ true → list_any (is_copied_from number) n.records ≡ true
wanted_as m n number same h = any_within number n.records ∙ (ap (λ (rs : List MapRecord). list_any (λ row. nat_lt 0 row.count) rs) same ∙ (sym (any_within number m.records) ∙ h))

-- ---- files that are done and left

pub emptied_as : (old new : MapMeaning) (done is_left now_done now_left : ℕ → Bool) → ((n : ℕ) → now_done n ≡ done n) → ((n : ℕ) → now_left n ≡ true → is_left n ≡ true) → HasEmptied old new done is_left → HasEmptied old new now_done now_left
emptied_as old new done is_left now_done now_left same less h = record {
  placed = h.placed;
  same = h.same;
  still = λ row c e. h.still row c (sym (same row.file) ∙ e);
  elsewhere = λ row file c s d l. h.elsewhere row file c (sym (stay row) ∙ s) (sym (same row.file) ∙ d) (less file l);
  records = h.records ∙ ap (map h.placed) (sym (filter_alike (stays_beside now_done) (stays_beside done) old.records (All-weaker (Contains old.records) _ (λ row c. stay row) old.records (All-contains_itself old.records))));
}
  where
    stay : (row : MapRecord) → stays_beside now_done row ≡ stays_beside done row
    stay row = ap (λ (b : Bool). not (b && (row.count == 0))) (same row.file)

or_false : (b : Bool) → (b || false) ≡ b
or_false true = refl
or_false false = refl

pub done_more : (done : List ℕ) (f n : ℕ) → is_one_of (done ++ f ∷ []) n ≡ with_file f (is_one_of done) n
done_more done f n = list_any-append (λ m. m == n) done (f ∷ []) ∙ ap (λ (b : Bool). is_one_of done n || b) (or_false (f == n) ∙ both_same (f == n) (n == f) (λ e. equal_yes n f (sym (equal_is f n e))) (λ e. equal_yes f n (sym (equal_is n f e))))

pub left_less : (f : ℕ) (lefts : List ℕ) (n : ℕ) → All (λ m. f < m) lefts → is_one_of lefts n ≡ true → but_file f (is_one_of (f ∷ lefts)) n ≡ true
left_less f lefts n below e = both (is_one_of (f ∷ lefts) n) (n == f) (or_true (f == n) (is_one_of lefts n) e) (ne_eqb n f (λ is. let l = All-contains (λ m. f < m) lefts n below (within_one lefts n e) in omega (arith, l, is)))
  where
    or_true : (a b : Bool) → b ≡ true → (a || b) ≡ true
    or_true true b k = refl
    or_true false b k = k

    both : (a b : Bool) → a ≡ true → b ≡ false → (a && not b) ≡ true
    both true false x y = refl
    both true true x y = absurd (let k : true ≡ false = y in cc k)
    both false b x y = absurd (let k : false ≡ true = x in cc k)

pub not_one : (ss : List Source) (n : ℕ) → All (λ s. s.file.0 ≢ n) ss → is_one_of (map (λ s. s.file.0) ss) n ≡ false
not_one [] n h = refl
not_one (s ∷ ss) n h = ap (λ (b : Bool). b || is_one_of (map (λ (o : Source). o.file.0) ss) n) (ne_eqb s.file.0 n (All-head (λ (o : Source). o.file.0 ≢ n) s ss h)) ∙ not_one ss n (All-tail (λ (o : Source). o.file.0 ≢ n) s ss h)

pub below_mapped : (f : ℕ) (ss : List Source) → All (λ s. f < s.file.0) ss → All (λ n. f < n) (map (λ s. s.file.0) ss)
below_mapped f ss h = All-weaker (Contains (map (λ (s : Source). s.file.0) ss)) (λ n. f < n) (λ n c. let one = of_mapped (λ (s : Source). s.file.0) ss n c in subst (λ (k : ℕ). f < k) one.2 (All-contains (λ (s : Source). f < s.file.0) ss one.0 h one.1)) (map (λ (s : Source). s.file.0) ss) (All-contains_itself (map (λ (s : Source). s.file.0) ss))

-- a file that is left isn't done: numbers rise
pub undone_first : (numbers done : List ℕ) (f : ℕ) (lefts : List ℕ) → IsStrictlyIncreasing numbers → numbers ≡ done ++ f ∷ lefts → is_one_of done f ≡ false
undone_first numbers done f lefts rising is = by_flag (is_one_of done f) refl
  where
    twice : (ns : List ℕ) (n : ℕ) (rest : List ℕ) → AllPairs (λ x y. x < y) (ns ++ n ∷ rest) → Contains ns n → ⊥
    twice [] n rest h c = let l = c.1 in omega (arith, l)
    twice (m ∷ ns) n rest h c = by_case (among m ns n c) (twice ns n rest (pairs_tail (λ x y. x < y) m (ns ++ n ∷ rest) h))
      where
        by_case : (m ≡ n) ⊎ Contains ns n → (Contains ns n → ⊥) → ⊥
        by_case (inl same) again = let l = All-contains (λ y. m < y) (ns ++ n ∷ rest) n (pairs_head (λ x y. x < y) m (ns ++ n ∷ rest) h) (Contains-append_right ns (n ∷ rest) n (All-head (λ (y : ℕ). Contains (n ∷ rest) y) n rest (All-contains_itself (n ∷ rest)))) in omega (arith, l, same)
        by_case (inr later) again = again later

    by_flag : (c : Bool) → is_one_of done f ≡ c → c ≡ false
    by_flag false e = refl
    by_flag true e = absurd (twice done f lefts (subst (λ (ns : List ℕ). AllPairs (λ x y. x < y) ns) is (AllPairs-from_increasing numbers rising)) (within_one done f e))

-- ---- the switch

-- What is known of the present file as it is switched, of those behind it, and of its target.
pub record IsSwitchedQuietly {D : Type 0} (source : Source) (left : List Source) (later : Work) (t : PurgeValue) (old : StoreValue D) (files : Files) : Type 0 where
  pub sources : sources_to_empty t.stage ≡ source ∷ left
  pub later_left : (spent : Source) × (sources_left later ≡ spent ∷ left) × (spent.file ≡ source.file)
  pub rising : AllPairs (λ a b. a.file.0 < b.file.0) (source ∷ left)
  pub hand : (number : ℕ) → IsAtHand t.stage number → (target : FileNo) × (source.target ≡ Some target) × (target.0 ≡ number)
  pub holds : (target : FileNo) → source.target ≡ Some target → HoldsCopies files old.map target.0 source.copied.items
  pub away : (target : FileNo) → source.target ≡ Some target → AreElsewhere target.0 old.map.records
  pub copies : (target : FileNo) → source.target ≡ Some target → AreCopied files old.map target.0 source.copied.items
  pub apart : (target : FileNo) → source.target ≡ Some target → All (λ s. s.file.0 ≢ target.0) (source ∷ left)
  pub none : source.target ≡ None → source.copied.items ≡ []
  pub numbered : All (λ s. s.file.0 ≢ 0) (source ∷ left)
  pub every : All (λ row. row.file ≡ source.file.0 → 1 ≤ row.count → list_any (λ p. p.uid.0 == row.uid) source.copied.items ≡ true) old.map.records
  pub whole : All (LiesInFile files) old.map.records

abbrev pub came_switched : Work → ℕ → PurgeValue → PurgeValue
came_switched later dropped t = record t { stage = stage.Removing later; did = did.Quiet; dropped = t.dropped + dropped; files = t.files + 1 }

pub quiet_switched : {D : Type 0} → (began a b : Files) (first : MapMeaning) (t : PurgeValue) (source : Source) (left : List Source) (later : Work) (switched : Switched) (old new : StoreValue D) (h : IsQuietSoFar began first t old a) → IsSwitchedQuietly source left later t old a → IsSwitched source switched old new → IsSoundMap old.map
    → ((number : ℕ) → b (file.Mail number) ≡ a (file.Mail number)) → ((hash id : List ℕ) → b (file.Inst hash id) ≡ a (file.Inst hash id)) → IsOnlyTask (stage.Removing later) new → DropsUnwanted first new.map (t.dropped + switched.dropped)
    → IsQuietSoFar began first (came_switched later switched.dropped t) new b
quiet_switched {D = D} began a b first t source left later switched old new h k s sound mails instances only drops = record {
  only = only;
  whole = h.whole;
  numbers = h.numbers;
  numbers_are = h.numbers_are;
  done = h.done ++ source.file.0 ∷ [];
  parted = h.parted ∙ (ap (λ (ns : List ℕ). h.done ++ ns) files_are ∙ (sym (append_both h.done (source.file.0 ∷ []) lefts) ∙ ap (λ (ns : List ℕ). (h.done ++ source.file.0 ∷ []) ++ ns) (sym later_files)));
  counted = (let e = h.counted in let l = append_long h.done (source.file.0 ∷ []) in omega (arith, e, l));
  emptied = subst (λ (m : MapMeaning). HasEmptied first m (is_one_of (h.done ++ source.file.0 ∷ [])) (is_one_of (files_to_empty (stage.Removing later)))) (sym s.map_is)
      (emptied_as first there (with_file source.file.0 (is_one_of h.done)) (but_file source.file.0 (is_one_of (files_to_empty t.stage))) (is_one_of (h.done ++ source.file.0 ∷ [])) (is_one_of (files_to_empty (stage.Removing later))) (done_more h.done source.file.0)
      (λ n e. subst (λ (ns : List ℕ). but_file source.file.0 (is_one_of ns) n ≡ true) (sym files_are) (left_less source.file.0 lefts n (below_mapped source.file.0 left below) (sym (ap (λ (ns : List ℕ). is_one_of ns n) later_files) ∙ e)))
      (emptied_more first old.map (is_one_of h.done) (is_one_of (files_to_empty t.stage)) source.file to s.moved s.dropped sound s.fits s.listed.each_dropped (undone_first h.numbers h.done source.file.0 lefts h.numbers_are.rising (h.parted ∙ ap (λ (ns : List ℕ). h.done ++ ns) files_are)) (ap (λ (ns : List ℕ). is_one_of ns source.file.0) files_are ∙ ap (λ (c : Bool). c || is_one_of lefts source.file.0) (equal_yes source.file.0 source.file.0 refl)) (ap (λ (ns : List ℕ). is_one_of ns to) files_are ∙ not_one (source ∷ left) to (to_apart source.target s.moved refl)) h.emptied));
  drops = drops;
  wanted = subst (λ (ss : List Source). HaveWanted new.map ss) (sym later_sources) (subst (λ (m : MapMeaning). HaveWanted m left) (sym s.map_is)
      (All-weaker (Contains left) (λ o. (target : FileNo) → o.target ≡ Some target → list_any (is_copied_from o.file.0) there.records ≡ true) (λ o c target is. wanted_as old.map there o.file.0 (same_in o.file.0 (λ e. let l = All-contains (λ (x : Source). source.file.0 < x.file.0) left o below c in omega (arith, l, e)) (λ u v. let d = All-contains (λ (x : Source). x.file.0 ≢ u.0) left o (All-tail (λ (x : Source). x.file.0 ≢ u.0) source left (k.apart u v)) c in λ q. d (sym q)))
      (All-contains (λ (x : Source). (target : FileNo) → x.target ≡ Some target → list_any (is_copied_from x.file.0) old.map.records ≡ true) left o was_wanted c target is)) left (All-contains_itself left)));
  clean = λ n octets reads bare. subst (λ (m : MapMeaning). Contains (files_to_empty (stage.Removing later)) n ⊎ IsAtHand (stage.Removing later) n ⊎ IsClean m n octets) (sym s.map_is) (clean n octets (sym (mails n) ∙ reads) (subst (λ (m : MapMeaning). is_sealed m n ≡ false) s.map_is bare));
  target = tt;
  regions = subst (λ (m : MapMeaning). HaveSameRegions began b first m) (sym s.map_is) regions;
  untouched = λ n sealed. mails n ∙ h.untouched n sealed;
  gone = h.gone;
  gone_are = gone_same began a b h.gone instances h.gone_are;
  removed = h.removed;
}
  where
    to : ℕ
    to = target_named source.target s.moved

    there : MapMeaning
    there = map_switched source.file to s.moved s.dropped old.map

    lefts : List ℕ
    lefts = map (λ (o : Source). o.file.0) left

    files_are : files_to_empty t.stage ≡ source.file.0 ∷ lefts
    files_are = ap (λ (ss : List Source). map (λ (o : Source). o.file.0) ss) k.sources

    later_sources : drop 1 (sources_left later) ≡ left
    later_sources = ap (λ (ss : List Source). drop 1 ss) k.later_left.1

    later_files : files_to_empty (stage.Removing later) ≡ lefts
    later_files = ap (λ (ss : List Source). map (λ (o : Source). o.file.0) ss) later_sources

    below : All (λ o. source.file.0 < o.file.0) left
    below = pairs_head (λ (x y : Source). x.file.0 < y.file.0) source left k.rising

    was_wanted : HaveWanted old.map left
    was_wanted = All-tail (λ (o : Source). (target : FileNo) → o.target ≡ Some target → list_any (is_copied_from o.file.0) old.map.records ≡ true) source left (subst (λ (ss : List Source). HaveWanted old.map ss) k.sources h.wanted)

    -- where it has no target, nothing is moved
    none_moves : source.target ≡ None → s.moved ≡ []
    none_moves none = by_list s.moved refl
      where
        by_list : (ms : List MapPlace) → s.moved ≡ ms → s.moved ≡ []
        by_list [] e = e
        by_list (place ∷ rest) e = none_moved old.map source.file.0 source.copied.items s.moved s.dropped place rest s.listed (k.none none) e

    to_apart : (target : Option FileNo) (ms : List MapPlace) → source.target ≡ target → All (λ o. o.file.0 ≢ target_named target ms) (source ∷ left)
    to_apart None [] is = k.numbered
    to_apart None (place ∷ rest) is = k.numbered
    to_apart (Some target) [] is = k.numbered
    to_apart (Some target) (place ∷ rest) is = k.apart target is

    -- the records of a file that is neither this one nor the target are as they were
    same_in : (n : ℕ) → n ≢ source.file.0 → ((target : FileNo) → source.target ≡ Some target → target.0 ≢ n) → within n there ≡ within n old.map
    same_in n apart other = within_switched source.file to s.moved s.dropped n old.map sound s.fits apart (moved_elsewhere source.target s.moved n none_moves other)

    some_copied : (target : FileNo) → source.target ≡ Some target → source.copied.items ≢ []
    some_copied target is empty =
        let wanted = All-head (λ (o : Source). (u : FileNo) → o.target ≡ Some u → list_any (is_copied_from o.file.0) old.map.records ≡ true) source left (subst (λ (ss : List Source). HaveWanted old.map ss) k.sources h.wanted) target is in
        none_of old.map.records wanted k.every
      where
        none_of : (rows : List MapRecord) → list_any (is_copied_from source.file.0) rows ≡ true → All (λ row. row.file ≡ source.file.0 → 1 ≤ row.count → list_any (λ p. p.uid.0 == row.uid) source.copied.items ≡ true) rows → ⊥
        none_of [] e every = let k : false ≡ true = e in cc k
        none_of (row ∷ rows) e every = by_test (row.file == source.file.0) (nat_lt 0 row.count) refl refl
            (λ miss. none_of rows (sym (ap (λ (c : Bool). c || list_any (is_copied_from source.file.0) rows) miss) ∙ e) (All-tail (λ (r : MapRecord). r.file ≡ source.file.0 → 1 ≤ r.count → list_any (λ p. p.uid.0 == r.uid) source.copied.items ≡ true) row rows every))
          where
            positive : (n : ℕ) → nat_lt 0 n ≡ true → 1 ≤ n
            positive zero p = let k : false ≡ true = p in cc k
            positive (suc n) p = omega arith

            by_test : (x y : Bool) → (row.file == source.file.0) ≡ x → nat_lt 0 row.count ≡ y → ((row.file == source.file.0 && nat_lt 0 row.count) ≡ false → ⊥) → ⊥
            by_test true true p q further =
                let copied = All-head (λ (r : MapRecord). r.file ≡ source.file.0 → 1 ≤ r.count → list_any (λ p. p.uid.0 == r.uid) source.copied.items ≡ true) row rows every (eqb-true row.file source.file.0 p) (positive row.count q) in
                let none : false ≡ true = sym (ap (λ (ps : List MapPlace). list_any (λ p. p.uid.0 == row.uid) ps) empty) ∙ copied in
                cc none
            by_test true false p q further = further (ap (λ (c : Bool). c && nat_lt 0 row.count) p ∙ q)
            by_test false y p q further = further (ap (λ (c : Bool). c && nat_lt 0 row.count) p)

    -- where there is a target, something is moved to it
    named : (target : FileNo) → source.target ≡ Some target → to ≡ target.0
    named target is = ap (λ (o : Option FileNo). target_named o s.moved) is ∙ by_list s.moved refl
      where
        by_list : (ms : List MapPlace) → s.moved ≡ ms → target_named (Some target) ms ≡ target.0
        by_list (place ∷ rest) e = refl
        by_list [] e = absurd (first_moved source.copied.items refl)
          where
            first_moved : (ps : List MapPlace) → source.copied.items ≡ ps → ⊥
            first_moved [] q = some_copied target is q
            first_moved (place ∷ rest) q = none_within place (subst (λ (ms : List MapPlace). Contains ms place) e
                (All-contains (λ (p : MapPlace). HasRecord old.map p.uid.0 (λ r. 1 ≤ r.count) → Contains s.moved p) source.copied.items place s.listed.copied_moved (subst (λ (ps : List MapPlace). Contains ps place) (sym q) (All-head (λ (p : MapPlace). Contains (place ∷ rest) p) place rest (All-contains_itself (place ∷ rest)))) (first_wanted place rest q)))
              where
                first_wanted : (place : MapPlace) (rest : List MapPlace) → source.copied.items ≡ place ∷ rest → HasRecord old.map place.uid.0 (λ r. 1 ≤ r.count)
                first_wanted place rest q = let run = subst (λ (ps : List MapPlace). CopiesRunTo old.map (length target_header) ps (length (k.holds target is).octets)) q (k.holds target is).run in (run.1.0, run.1.1, run.1.2.0)

    clean : (n : ℕ) (octets : List ℕ) → a (file.Mail n) ≡ Some octets → is_sealed there n ≡ false → Contains (files_to_empty (stage.Removing later)) n ⊎ IsAtHand (stage.Removing later) n ⊎ IsClean there n octets
    clean n octets reads bare = by_case (h.clean n octets reads bare)
      where
        this : n ≡ source.file.0 → IsAtHand (stage.Removing later) n
        this is = subst (λ (ss : List Source). IsFirst ss (λ o. o.file.0 ≡ n)) (sym k.later_left.1) (ap (λ (f : FileNo). f.0) k.later_left.2 ∙ sym is)

        among_left : (source.file.0 ≡ n) ⊎ Contains lefts n → Contains (files_to_empty (stage.Removing later)) n ⊎ IsAtHand (stage.Removing later) n ⊎ IsClean there n octets
        among_left (inl same) = inr (inl (this (sym same)))
        among_left (inr l) = inl (subst (λ (ns : List ℕ). Contains ns n) (sym later_files) l)

        still : IsClean old.map n octets → (c : Bool) → (n == source.file.0) ≡ c → Contains (files_to_empty (stage.Removing later)) n ⊎ IsAtHand (stage.Removing later) n ⊎ IsClean there n octets
        still is true e = inr (inl (this (eqb-true n source.file.0 e)))
        still is false e = inr (inr (clean_as old.map there n octets (same_in n (λ q. fall (n == source.file.0) (equal_yes n source.file.0 q) e) (λ target t_is q. empty is.rows is.some (All-weaker (λ row. Contains old.map.records row × (row.file ≡ n) × (1 ≤ row.count)) (λ row. ⊥) (λ row m. All-contains (λ (r : MapRecord). r.file ≢ target.0) old.map.records row (k.away target t_is) m.0 (m.1 ∙ sym q)) is.rows is.mapped))) is))
          where
            empty : (rows : List MapRecord) → rows ≢ [] → All (λ row. ⊥) rows → ⊥
            empty [] some none = some refl
            empty (row ∷ rows) some none = All-head (λ (r : MapRecord). ⊥) row rows none

        by_case : Contains (files_to_empty t.stage) n ⊎ IsAtHand t.stage n ⊎ IsClean old.map n octets → Contains (files_to_empty (stage.Removing later)) n ⊎ IsAtHand (stage.Removing later) n ⊎ IsClean there n octets
        by_case (inl l) = among_left (among source.file.0 lefts n (subst (λ (ns : List ℕ). Contains ns n) files_are l))
        by_case (inr (inl hand)) = inr (inr (written (k.hand n hand)))
          where
            written : (target : FileNo) × (source.target ≡ Some target) × (target.0 ≡ n) → IsClean there n octets
            written (target, is, same) = subst (λ (x : ℕ). IsClean there x octets) same
                (subst (λ (x : ℕ). IsClean (map_switched source.file x s.moved s.dropped old.map) target.0 octets) (sym (named target is))
                (target_clean a source.file target.0 source.copied.items s.moved s.dropped old.map sound s.listed (k.away target is) (some_copied target is) (k.holds target is) octets (ap (λ (x : ℕ). a (file.Mail x)) same ∙ reads)))
        by_case (inr (inr is)) = still is (n == source.file.0) refl

    regions : HaveSameRegions began b first there
    regions = regions_then began a b first old.map there (λ now c. was_there (came_of source.file to s.moved s.dropped old.map now c)) h.regions (switched_regions a b old.map source.file source.target source.copied.items s.moved s.dropped sound s.listed none_moves k.copies k.whole mails)
      where
        uid_stays : (was : MapRecord) (o : Option MapPlace) → (moved_record was to o).uid ≡ was.uid
        uid_stays was None = refl
        uid_stays was (Some place) = refl

        was_there : {now : MapRecord} → (was : MapRecord) × Contains old.map.records was × (now ≡ moved_record was to (place_given was.uid s.moved)) → (was : MapRecord) × Contains old.map.records was × (was.uid ≡ now.uid)
        was_there (was, c, is) = (was, c, sym (ap (λ (r : MapRecord). r.uid) is ∙ uid_stays was (place_given was.uid s.moved)))
