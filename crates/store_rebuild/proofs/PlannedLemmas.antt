-- The plan of a rebuild, from what is read of the disk.
use Rattle.std.proofs.Common.{◌≡◌, ◌≢◌, ◌⊎◌, inl, inr, Bool, cond, ℕ, ◌<◌, ◌≤◌, max, List, [], ◌∷◌, ◌++◌, All, Option, Some, None, refl, sym, ◌∙◌, ap, subst, arith}
use Rattle.std.specs.Prelude.{AllPairs}
use Rattle.std.proofs.lemmas.Bool.{cases_Bool, cases_lt, cond-false}
use Rattle.std.proofs.lemmas.List.Elements.{All-nil, All-cons, All-head, All-tail, All-contains}
use Rattle.disk_model.specs.Disk.{DiskState, FileState, History, IfTold, IsThere, reading}
use Rattle.disk_model.specs.declared.name.FileName.TheVariants as file
use Rattle.mdbox_base.specs.Words.{IsNumber}
use Rattle.mdbox_base.specs.declared.ids.FileNo.{FileNo}
use Rattle.model_found.specs.Findings.{FileFinding}
use Rattle.model_octets.proofs.PairLemmas.{pairs_head, pairs_tail}
use Rattle.model_rebuild.specs.RebuildPlan.{IsBoxUsed, IsFileNumber, IsFreeGeneration, IsGreatest, IsInstanceNumber, IsMapUsed}
use Rattle.model_store.specs.Settled.{files_of}
use Rattle.rebuild_files.specs.Listing.{AreStorageNumbers}
use Rattle.rebuild_judge.specs.Judges.{IsJudgedOf, IsNamedFile}
use Rattle.rebuild_judge.specs.declared.taken.Judged.{Judged}
use Rattle.store_rebuild.specs.Planned.{IsPlanned, last_number}

-- ---- the last number is the greatest

last_top : (numbers : List FileNo) → AllPairs (λ a b. a.0 < b.0) numbers → All (λ n. n.0 ≤ last_number numbers) numbers
last_top [] h = All-nil (λ (n : FileNo). n.0 ≤ 0)
last_top (n ∷ []) h = All-cons (λ (b : FileNo). b.0 ≤ n.0) n [] (omega arith) (All-nil (λ (b : FileNo). b.0 ≤ n.0))
last_top (n ∷ m ∷ rest) h =
    let r = last_top (m ∷ rest) (pairs_tail (λ (a b : FileNo). a.0 < b.0) n (m ∷ rest) h) in
    let lt : n.0 < m.0 = All-head (λ (b : FileNo). n.0 < b.0) m rest (pairs_head (λ (a b : FileNo). a.0 < b.0) n (m ∷ rest) h) in
    let top : m.0 ≤ last_number (m ∷ rest) = All-head (λ (b : FileNo). b.0 ≤ last_number (m ∷ rest)) m rest r in
    All-cons (λ (b : FileNo). b.0 ≤ last_number (m ∷ rest)) n (m ∷ rest) (omega (arith, lt, top)) r

last_is : (P : ℕ → Type 0) (numbers : List FileNo) → All (λ n. P n.0) numbers → (last_number numbers ≡ 0) ⊎ P (last_number numbers)
last_is P [] h = inl refl
last_is P (n ∷ []) h = inr (All-head (λ (b : FileNo). P b.0) n [] h)
last_is P (n ∷ m ∷ rest) h = last_is P (m ∷ rest) (All-tail (λ (b : FileNo). P b.0) n (m ∷ rest) h)

pub last_push : (before : List FileNo) (n : FileNo) → last_number (before ++ n ∷ []) ≡ n.0
last_push [] n = refl
last_push (b ∷ []) n = refl
last_push (b ∷ d ∷ rest) n = last_push (d ∷ rest) n

-- ---- the highest storage file

is_there : (f : FileState) → (reading f ≢ None) → IsThere f
is_there f some = elim (cases_Bool f.is_there) [ inl there ↦ there | inr gone ↦ absurd (some (cond-false f.is_there (Some f.octets) None gone)) ]

pub there_from : (f : FileState) (octets : List ℕ) → reading f ≡ Some octets → IsThere f
there_from f octets e = is_there f (λ none. let k : None ≡ Some octets = sym none ∙ e in cc k)

reads_some : (f : FileState) → IsThere f → reading f ≢ None
reads_some f there e = let k : Some f.octets ≡ None = sym (subst (λ (b : Bool). cond b (Some f.octets) None ≡ Some f.octets) (sym there) refl) ∙ e in cc k

-- a storage file that is there, or that a GUID names
abbrev Has : List ℕ → DiskState → List FileFinding → ℕ → Type 0
Has store disk found n = IsFileNumber (files_of disk) store found n

most_of : (store : List ℕ) (disk : DiskState) (found : List FileFinding) (numbers : List FileNo) (named m : ℕ) → AreStorageNumbers numbers disk → IsGreatest (IsNamedFile store found) named → Has store disk found m → m ≤ max (last_number numbers) named
most_of store disk found numbers named m are g (inl is) =
    let le : m ≤ last_number numbers = All-contains (λ (n : FileNo). n.0 ≤ last_number numbers) numbers (record { 0 = m }) (last_top numbers are.rising) (are.every m is.0 (is_there (disk (file.Mail m)) is.1)) in
    omega (arith, le)
most_of store disk found numbers named m are g (inr is) = let le : m ≤ named = g.most m is in omega (arith, le)

by_last : (store : List ℕ) (disk : DiskState) (found : List FileFinding) (last : ℕ) → (last ≡ 0) ⊎ (IsNumber last × IsThere (disk (file.Mail last))) → (last ≡ 0) ⊎ Has store disk found last
by_last store disk found last (inl none) = inl none
by_last store disk found last (inr is) = inr (inl (is.0, reads_some (disk (file.Mail last)) is.1))

by_named : (store : List ℕ) (disk : DiskState) (found : List FileFinding) (named : ℕ) → (named ≡ 0) ⊎ IsNamedFile store found named → (named ≡ 0) ⊎ Has store disk found named
by_named store disk found named (inl none) = inl none
by_named store disk found named (inr is) = inr (inr is)

greatest_file : (store : List ℕ) (disk : DiskState) (found : List FileFinding) (numbers : List FileNo) (named : ℕ) → AreStorageNumbers numbers disk → IsGreatest (IsNamedFile store found) named → IsGreatest (Has store disk found) (max (last_number numbers) named)
greatest_file store disk found numbers named are g = record {
  most = λ m is. most_of store disk found numbers named m are g is;
  reached = elim (cases_lt (last_number numbers) named) [
    | inr le ↦
        let e : max (last_number numbers) named ≡ last_number numbers = omega (arith, le) in
        subst (λ (n : ℕ). (n ≡ 0) ⊎ Has store disk found n) (sym e) (by_last store disk found (last_number numbers) (last_is (λ n. IsNumber n × IsThere (disk (file.Mail n))) numbers are.there))
    | inl lt ↦ let e : max (last_number numbers) named ≡ named = omega (arith, lt) in subst (λ (n : ℕ). (n ≡ 0) ⊎ Has store disk found n) (sym e) (by_named store disk found named g.reached)
  ];
}

-- ---- the plan

-- what is read of the disk
pub record IsRead (store : List ℕ) (judged : Judged) (numbers : List FileNo) (instance map_generation box_generation : ℕ) (disk : DiskState) : Type 0 where
  pub judged_of : IsJudgedOf store judged disk
  pub numbers_are : AreStorageNumbers numbers disk
  pub instances : IsGreatest (IsInstanceNumber (files_of disk) store) instance
  pub map_free : IsFreeGeneration (IsMapUsed (files_of disk)) map_generation
  pub box_free : IsFreeGeneration (IsBoxUsed (files_of disk)) box_generation

planned : (store : List ℕ) (judged : Judged) (numbers : List FileNo) (file instance map_generation box_generation : ℕ) (disk : DiskState) → file ≡ max (last_number numbers) judged.file → IsRead store judged numbers instance map_generation box_generation disk
    → IsPlanned store (record { taken = judged.taken; skipped = judged.skipped; highest = record { file = file; map = 0; instance = instance; mailbox = 0 }; map_generation = map_generation; box_generation = box_generation }) disk
planned store judged numbers file instance map_generation box_generation disk e r = record {
  plan = record { taken = r.judged_of.taken; skipped = r.judged_of.skipped; highest = record { file = file; map = 0; instance = instance; mailbox = 0 }; map_generation = map_generation; box_generation = box_generation };
  is_plan = record {
    rebuild = r.judged_of.rebuild;
    numbers = record {
      files_are = subst (λ (n : ℕ). IsGreatest (Has store disk r.judged_of.rebuild.found) n) (sym e) (greatest_file store disk r.judged_of.rebuild.found numbers judged.file r.numbers_are r.judged_of.file);
      instances_are = r.instances;
      map_is = refl;
      mailbox_is = refl;
    };
    map_free = r.map_free;
    box_free = r.box_free;
  };
  rows_are = record { taken = r.judged_of.taken_are; skipped = r.judged_of.skipped_are; highest = refl; map_generation = refl; box_generation = refl };
}

pub is_planned : (store : List ℕ) (judged : Judged) (numbers : List FileNo) (file last instance map_generation box_generation : ℕ) (h : Option History) → last ≡ last_number numbers → file ≡ max last judged.file
    → IfTold h (IsJudgedOf store judged) → IfTold h (AreStorageNumbers numbers) → IfTold h (λ disk. IsGreatest (IsInstanceNumber (files_of disk) store) instance) → IfTold h (λ disk. IsFreeGeneration (IsMapUsed (files_of disk)) map_generation)
    → IfTold h (λ disk. IsFreeGeneration (IsBoxUsed (files_of disk)) box_generation)
    → IfTold h (IsPlanned store (record { taken = judged.taken; skipped = judged.skipped; highest = record { file = file; map = 0; instance = instance; mailbox = 0 }; map_generation = map_generation; box_generation = box_generation }))
is_planned store judged numbers file last instance map_generation box_generation None l e j n i m b = tt
is_planned store judged numbers file last instance map_generation box_generation (Some h) l e j n i m b =
    planned store judged numbers file instance map_generation box_generation h.now (e ∙ ap (λ (k : ℕ). max k judged.file) l) (record { judged_of = j; numbers_are = n; instances = i; map_free = m; box_free = b })
