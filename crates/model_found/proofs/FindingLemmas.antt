-- What is found in storage files is one.
use Rattle.std.specs.Prelude.{◌≡◌, ◌<◌, ◌⊎◌, ℕ, List, [], ◌∷◌, ◌++◌, length, refl, Some, All, AllPairs, Contains, Result, Ok, Err, Option}
use Rattle.std.proofs.Common.{inl, inr, sym, ◌∙◌, ap, subst, arith}
use Rattle.std.proofs.lemmas.List.Elements.{All-contains, All-contains_itself, All-head, All-tail}
use Rattle.disk_model.specs.Disk.{Files}
use Rattle.disk_model.specs.declared.name.FileName.TheVariants as file
use Rattle.model_octets.proofs.PairLemmas.{pairs_head, pairs_tail}
use Rattle.model_octets.proofs.PiecesLemmas.{split_same}
use Rattle.model_octets.proofs.SearchLemmas.{among}
use Rattle.model_storage.specs.declared.places.MessageAt.{MessageAt}
use Rattle.model_storage.specs.declared.places.ScanError.{ScanError}
use Rattle.model_storage.specs.declared.places.ScanError.TheVariants as scan
use Rattle.model_storage.specs.StorageFile.{Message, AreMessages, StopsAt, ScanGives}
use Rattle.model_storage.proofs.FileLemmas.{file_same, header_line_same, messages_same}
use Rattle.model_storage.proofs.ScanLemmas.{answer_same, fronts_same}
use Rattle.model_found.specs.declared.reason.Reason.{Reason}
use Rattle.model_found.specs.Findings.{NumberedFile, IsThereAs, AreStorageFiles, Finding, Unread, stored_from, IsFoundUpTo, HasFindingsBy, HasFindings, FileFinding, findings_of, HaveFindings}

-- ---- one file

-- what is found up to a place follows from where the scan stops
fronts_of : (octets r s : List ℕ) (m n : ℕ) (a : StopsAt octets m r) (b : StopsAt octets n s) → (a.header ≡ b.header) × (a.messages ≡ b.messages)
fronts_of octets r s m n a b =
    let e = sym a.parts ∙ b.parts in
    let h = header_line_same a.header b.header _ _ 30 30 a.begins b.begins e in
    let rest = (split_same a.header b.header _ _ (ap length h.0) e).1 in
    let f = fronts_same a.front b.front r s a.messages b.messages a.whole b.whole rest a.none b.none in
    (h.0, messages_same b.front a.messages b.messages (subst (λ (x : List ℕ). AreMessages x a.messages) f a.whole) b.whole)

stored_same : (h k : List ℕ) (ms ns : List Message) (offset : ℕ) (why : Reason) (xs ys : List Finding) → h ≡ k → ms ≡ ns
    → xs ≡ stored_from (length h) ms ++ Unread offset why ∷ [] → ys ≡ stored_from (length k) ns ++ Unread offset why ∷ [] → xs ≡ ys
stored_same h k ms ns offset why xs ys p q ex ey = cc

up_to_same : (octets : List ℕ) (offset : ℕ) (why : Reason) (xs ys : List Finding) → IsFoundUpTo octets offset why xs → IsFoundUpTo octets offset why ys → xs ≡ ys
up_to_same octets offset why xs ys a b =
    let f = fronts_of octets a.rest b.rest offset offset a.stops b.stops in
    stored_same a.stops.header b.stops.header a.stops.messages b.stops.messages offset why xs ys f.0 f.1 a.are b.are

whole_same_findings : (h k : List ℕ) (ms ns : List Message) (xs ys : List Finding) → h ≡ k → ms ≡ ns → xs ≡ stored_from (length h) ms → ys ≡ stored_from (length k) ns → xs ≡ ys
whole_same_findings h k ms ns xs ys p q ex ey = cc

found_by_same : (octets : List ℕ) (answer : Result (List MessageAt) ScanError) (xs ys : List Finding) → HasFindingsBy octets answer xs → HasFindingsBy octets answer ys → xs ≡ ys
found_by_same octets (Ok places) xs ys a b =
    let r = file_same octets a.0 b.0 a.1 b.1 a.2 b.2 in
    whole_same_findings a.0 b.0 a.1 b.1 xs ys r.0 r.1 a.4 b.4
found_by_same octets (Err scan.BadHeader) xs ys a b = a.1 ∙ sym b.1
found_by_same octets (Err (scan.HeaderSize size)) xs ys a b = a.1 ∙ sym b.1
found_by_same octets (Err (scan.Truncated offset)) xs ys a b = up_to_same octets offset _ xs ys a.0 b.0
found_by_same octets (Err (scan.BadMessage offset)) xs ys a b = up_to_same octets offset _ xs ys a.0 b.0
found_by_same octets (Err scan.NoMemory) xs ys a b = absurd a

-- Findings are those of an answer of the scan.
scan_gives : (octets : List ℕ) (answer : Result (List MessageAt) ScanError) (xs : List Finding) → HasFindingsBy octets answer xs → ScanGives octets answer
scan_gives octets (Ok places) xs a = (a.0, a.1, a.2, a.3)
scan_gives octets (Err scan.BadHeader) xs a = a.0
scan_gives octets (Err (scan.HeaderSize size)) xs a = a.0
scan_gives octets (Err (scan.Truncated offset)) xs a = (a.0.rest, a.0.stops, a.1)
scan_gives octets (Err (scan.BadMessage offset)) xs a = (a.0.rest, a.0.stops, a.1)
scan_gives octets (Err scan.NoMemory) xs a = a

pub found_same : (octets : List ℕ) (xs ys : List Finding) → HasFindings octets xs → HasFindings octets ys → xs ≡ ys
found_same octets xs ys a b =
    let e = answer_same octets a.answer b.answer (scan_gives octets a.answer xs a.by) (scan_gives octets b.answer ys b.by) in
    found_by_same octets b.answer xs ys (subst (λ (o : Result (List MessageAt) ScanError). HasFindingsBy octets o xs) e a.by) b.by

-- ---- all files

some_octets : (o : Option (List ℕ)) (a b : List ℕ) → o ≡ Some a → o ≡ Some b → a ≡ b
some_octets o a b p q = let h : Some a ≡ Some b = sym p ∙ q in cc h

file_at : ℕ → List ℕ → NumberedFile
file_at number octets = record { number = number; octets = octets }

file_equal : (a b : NumberedFile) → a.number ≡ b.number → a.octets ≡ b.octets → a ≡ b
unfolding file_at
file_equal a b p q = let h : file_at a.number a.octets ≡ file_at b.number b.octets = cc in h

-- a file of this number is there once
there_once : (files : Files) (a b : NumberedFile) → IsThereAs files a → IsThereAs files b → a.number ≡ b.number → a ≡ b
there_once files a b p q e = file_equal a b e (some_octets (files (file.Mail b.number)) a.octets b.octets (subst (λ (n : ℕ). files (file.Mail n) ≡ Some a.octets) e p.1) q.1)

abbrev IsBelow : NumberedFile → NumberedFile → Type 0
IsBelow a b = a.number < b.number

first_in_list : (x : NumberedFile) (xs : List NumberedFile) → Contains (x ∷ xs) x
first_in_list x xs = All-head (Contains (x ∷ xs)) x xs (All-contains_itself (x ∷ xs))

later_in_list : (x : NumberedFile) (xs : List NumberedFile) (f : NumberedFile) → Contains xs f → Contains (x ∷ xs) f
later_in_list x xs f c = All-contains (Contains (x ∷ xs)) xs f (All-tail (Contains (x ∷ xs)) x xs (All-contains_itself (x ∷ xs))) c

none_in : (f : NumberedFile) → Contains [] f → ⊥
none_in f c = let k = c.1 in omega (arith, k)

below_all : (a b : NumberedFile) (xs : List NumberedFile) → All (IsBelow a) xs → Contains xs b → a.number < b.number
below_all a b xs h c = All-contains (IsBelow a) xs b h c

-- a file of the one list that is not the first stands among the others of the other list
among_rest : (x y a : NumberedFile) (xs ys : List NumberedFile) → x.number ≡ y.number → All (IsBelow x) xs → Contains xs a → Contains (y ∷ ys) a → Contains ys a
among_rest x y a xs ys e below here there = by_place (among y ys a there)
  where
    by_place : (y ≡ a) ⊎ Contains ys a → Contains ys a
    by_place (inr c) = c
    by_place (inl p) = absurd (same_below (below_all x a xs below here) (e ∙ ap (λ (f : NumberedFile). f.number) p))
      where
        same_below : {m n : ℕ} → m < n → m ≡ n → ⊥
        same_below h q = omega (arith, h, q)

-- the first of two lists in order, each of which has the first of the other
firsts_same : (files : Files) (x y : NumberedFile) (xs ys : List NumberedFile) → IsThereAs files x → IsThereAs files y → All (IsBelow x) xs → All (IsBelow y) ys → Contains (y ∷ ys) x → Contains (x ∷ xs) y → x ≡ y
firsts_same files x y xs ys tx ty bx by in_y in_x = by_first (among y ys x in_y) (among x xs y in_x)
  where
    by_first : (y ≡ x) ⊎ Contains ys x → (x ≡ y) ⊎ Contains xs y → x ≡ y
    by_first (inl p) q = sym p
    by_first (inr c) (inl q) = q
    by_first (inr c) (inr d) = absurd (crossed (below_all y x ys by c) (below_all x y xs bx d))
      where
        crossed : {m n : ℕ} → m < n → n < m → ⊥
        crossed h q = omega (arith, h, q)

abbrev Covers : List NumberedFile → List NumberedFile → Type 0
Covers xs ys = (f : NumberedFile) → Contains xs f → Contains ys f

rising_same : (files : Files) (xs ys : List NumberedFile) → AllPairs IsBelow xs → AllPairs IsBelow ys → All (IsThereAs files) xs → All (IsThereAs files) ys → Covers xs ys → Covers ys xs → xs ≡ ys
rising_same files [] [] px py tx ty cx cy = refl
rising_same files [] (y ∷ ys) px py tx ty cx cy = absurd (none_in y (cy y (first_in_list y ys)))
rising_same files (x ∷ xs) [] px py tx ty cx cy = absurd (none_in x (cx x (first_in_list x xs)))
rising_same files (x ∷ xs) (y ∷ ys) px py tx ty cx cy =
    let bx = pairs_head IsBelow x xs px in
    let by = pairs_head IsBelow y ys py in
    let e = firsts_same files x y xs ys (All-contains (IsThereAs files) (x ∷ xs) x tx (first_in_list x xs)) (All-contains (IsThereAs files) (y ∷ ys) y ty (first_in_list y ys)) bx by (cx x (first_in_list x xs)) (cy y (first_in_list y ys)) in
    let n = ap (λ (f : NumberedFile). f.number) e in
    let rest = rising_same files xs ys (pairs_tail IsBelow x xs px) (pairs_tail IsBelow y ys py) (All-tail (IsThereAs files) x xs tx) (All-tail (IsThereAs files) y ys ty)
    (λ f. λ c. among_rest x y f xs ys n bx c (cx f (later_in_list x xs f c))) (λ f. λ c. among_rest y x f ys xs (sym n) by c (cy f (later_in_list y ys f c))) in
    cc (e, rest)

pub storage_same : (files : Files) (xs ys : List NumberedFile) → AreStorageFiles files xs → AreStorageFiles files ys → xs ≡ ys
storage_same files xs ys a b =
    rising_same files xs ys a.rising b.rising a.there b.there (λ f. λ c. b.every f (All-contains (IsThereAs files) xs f a.there c)) (λ f. λ c. a.every f (All-contains (IsThereAs files) ys f b.there c))

joined_found : (n : ℕ) (h k : List Finding) (b d x y : List FileFinding) → h ≡ k → b ≡ d → x ≡ findings_of n h ++ b → y ≡ findings_of n k ++ d → x ≡ y
joined_found n h k b d x y p q ex ey = cc

pub all_found_same : (storage : List NumberedFile) (xs ys : List FileFinding) → HaveFindings storage xs → HaveFindings storage ys → xs ≡ ys
all_found_same [] xs ys a b = a ∙ sym b
all_found_same (f ∷ rest) xs ys a b =
    joined_found f.number a.0 b.0 a.1 b.1 xs ys (found_same f.octets a.0 b.0 a.2 b.2) (all_found_same rest a.1 b.1 a.3 b.3) a.4 b.4
