-- The highest file number of a map is at least those that GUIDs of its records name, and those of its sealed files.
use Rattle.store_core.proofs.Common.{◌||◌, ◌&&◌, not, if◌then◌else◌, list_any, inl, inr, sym, ◌∙◌, ap, subst, arith, append-nil, cases_Bool, false≢true, ne_eqb, All-nil, All-cons, All-head, All-tail, All-append, All-weaker, MapEntry, MapRecord, MapMeaning, map_meaning, map_applied, record_made}
use Rattle.store_core.proofs.Common.{record_rules, is_sealed, is_own, number_at, kept_all, kept_rows, map_more, equal_is, changed_same}
use Rattle.std.specs.Prelude.{◌≡◌, ◌≢◌, ◌≤◌, ◌==◌, ℕ, max, Bool, true, List, [], ◌∷◌, ◌++◌, All}
use Rattle.std.proofs.Common.{append_assoc}
use Rattle.mdbox_base.specs.declared.entries.MapEntry.TheVariants as map
use Rattle.model_meaning.specs.MapMeaning.{numbers_of, sealed_by, own_number, guid_file}
use Rattle.model_meaning.proofs.SealedLemmas.{all_with}

pub record NamesUpTo (m : MapMeaning) : Type 0 where
  pub guids : All (λ row. guid_file m.store row.guid ≤ m.highest.file) m.records
  pub sealed : All (λ n. n ≤ m.highest.file) m.sealed

-- ---- one entry more

made_up_to : (store : List ℕ) (most : ℕ) (e : MapEntry) → (numbers_of store e).file ≤ most → All (λ row. guid_file store row.guid ≤ most) (record_made e)
made_up_to store most (map.H h) le = All-nil (λ (row : MapRecord). guid_file store row.guid ≤ most)
made_up_to store most (map.B b g n) le = All-nil (λ (row : MapRecord). guid_file store row.guid ≤ most)
made_up_to store most (map.G b g) le = All-nil (λ (row : MapRecord). guid_file store row.guid ≤ most)
made_up_to store most (map.S o c u f a z g is) le =
    let l : max f.0 (guid_file store g.0) ≤ most = le in
    All-cons (λ (row : MapRecord). guid_file store row.guid ≤ most) _ [] (omega (arith, l)) (All-nil (λ (row : MapRecord). guid_file store row.guid ≤ most))
made_up_to store most (map.U u) le = All-nil (λ (row : MapRecord). guid_file store row.guid ≤ most)
made_up_to store most (map.D us) le = All-nil (λ (row : MapRecord). guid_file store row.guid ≤ most)
made_up_to store most (map.T cs) le = All-nil (λ (row : MapRecord). guid_file store row.guid ≤ most)
made_up_to store most (map.P f t ms us) le = All-nil (λ (row : MapRecord). guid_file store row.guid ≤ most)
made_up_to store most (map.E f) le = All-nil (λ (row : MapRecord). guid_file store row.guid ≤ most)
made_up_to store most (map.X b cs) le = All-nil (λ (row : MapRecord). guid_file store row.guid ≤ most)
made_up_to store most (map.V b n) le = All-nil (λ (row : MapRecord). guid_file store row.guid ≤ most)

higher_up_to : (low most : ℕ) (files : List ℕ) → low ≤ most → All (λ n. n ≤ low) files → All (λ n. n ≤ most) files
higher_up_to low most files le a = All-weaker (λ (n : ℕ). n ≤ low) (λ (n : ℕ). n ≤ most) (λ n l. omega (arith, l, le)) files a

sealed_up_to : (store : List ℕ) (low most : ℕ) (e : MapEntry) (files : List ℕ) → low ≤ most → (numbers_of store e).file ≤ most → All (λ n. n ≤ low) files → All (λ n. n ≤ most) (sealed_by e files)
sealed_up_to store low most (map.H h) files le named a = higher_up_to low most files le a
sealed_up_to store low most (map.B b g n) files le named a = higher_up_to low most files le a
sealed_up_to store low most (map.G b g) files le named a = higher_up_to low most files le a
sealed_up_to store low most (map.S o c u f x z g is) files le named a = higher_up_to low most files le a
sealed_up_to store low most (map.U u) files le named a = higher_up_to low most files le a
sealed_up_to store low most (map.D us) files le named a = higher_up_to low most files le a
sealed_up_to store low most (map.T cs) files le named a = higher_up_to low most files le a
sealed_up_to store low most (map.P f t ms us) files le named a = higher_up_to low most files le a
sealed_up_to store low most (map.E f) files le named a = all_with (λ n. n ≤ most) f.0 files named (higher_up_to low most files le a)
sealed_up_to store low most (map.X b cs) files le named a = higher_up_to low most files le a
sealed_up_to store low most (map.V b n) files le named a = higher_up_to low most files le a

up_to_more : (m : MapMeaning) (e : MapEntry) → NamesUpTo m → NamesUpTo (map_applied e m)
up_to_more m e h =
    let most : ℕ = (map_applied e m).highest.file in
    let named : (numbers_of m.store e).file ≤ most = omega arith in
    let low : m.highest.file ≤ most = omega arith in
    record {
      guids = All-append (λ (row : MapRecord). guid_file m.store row.guid ≤ most) (kept_rows record_rules e m.records) (record_made e)
          (kept_all record_rules e m.records (λ (row : MapRecord). guid_file m.store row.guid ≤ m.highest.file) (λ (row : MapRecord). guid_file m.store row.guid ≤ most)
          (λ row l. let same = ap (guid_file m.store) (changed_same e row).guid in omega (arith, l, low, same)) h.guids)
          (made_up_to m.store most e named);
      sealed = sealed_up_to m.store m.highest.file most e m.sealed low named h.sealed;
    }

up_to_from : (store : List ℕ) (before entries : List MapEntry) → NamesUpTo (map_meaning store before) → NamesUpTo (map_meaning store (before ++ entries))
up_to_from store before [] h = subst (λ (es : List MapEntry). NamesUpTo (map_meaning store es)) (sym (append-nil before)) h
up_to_from store before (e ∷ entries) h =
    let one : NamesUpTo (map_meaning store (before ++ e ∷ [])) = subst NamesUpTo (sym (map_more store before e)) (up_to_more (map_meaning store before) e h) in
    subst (λ (es : List MapEntry). NamesUpTo (map_meaning store es)) (append_assoc before (e ∷ []) entries) (up_to_from store (before ++ e ∷ []) entries one)

pub names_up_to : (store : List ℕ) (entries : List MapEntry) → NamesUpTo (map_meaning store entries)
names_up_to store entries = up_to_from store [] entries (record { guids = All-nil (λ (row : MapRecord). guid_file store row.guid ≤ 0); sealed = All-nil (λ (n : ℕ). n ≤ 0) })

-- ---- by what is asked

any_up_to : (n most : ℕ) (files : List ℕ) → list_any (λ f. f == n) files ≡ true → All (λ f. f ≤ most) files → n ≤ most
any_up_to n most [] is a = absurd (false≢true is)
any_up_to n most (f ∷ files) is a = elim (cases_Bool (f == n)) [
  | inl hit ↦
      let same : f ≡ n = equal_is f n hit in
      let l : f ≤ most = All-head (λ (k : ℕ). k ≤ most) f files a in
      omega (arith, same, l)
  | inr miss ↦ any_up_to n most files (sym (ap (λ (t : Bool). t || list_any (λ k. k == n) files) miss) ∙ is) (All-tail (λ (k : ℕ). k ≤ most) f files a)
]

-- a sealed file
pub sealed_low : (m : MapMeaning) (number : ℕ) → NamesUpTo m → is_sealed m number ≡ true → number ≤ m.highest.file
sealed_low m number h is = any_up_to number m.highest.file m.sealed is h.sealed

own_low : (own : Bool) (n most : ℕ) → own ≡ true → n ≢ 4294967295 → own_number own n ≤ most → n ≤ most
own_low own n most is apart le =
    let e : own_number own n ≡ n = ap (λ (b : Bool). if b && not (n == 4294967295) then n else 0) is ∙ ap (λ (b : Bool). if true && not b then n else 0) (ne_eqb n 4294967295 apart) in
    omega (arith, e, le)

-- the file that a GUID of this store names
pub guid_low : (store guid : List ℕ) (most : ℕ) → guid_file store guid ≤ most → is_own store guid ≡ true → number_at 8 guid ≢ 4294967295 → number_at 8 guid ≤ most
guid_low store guid most le own apart = own_low (is_own store guid) (number_at 8 guid) most own apart le
