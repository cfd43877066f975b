-- The numbers of storage files, as a walk finds them.
use Rattle.std.specs.Prelude.{◌≡◌, ◌≤◌, ◌<◌, ◌++◌, ◌∷◌, [], ℕ, List, Some, None, All, AllPairs, Contains}
use Rattle.std.proofs.Common.{inl, inr, sym, subst, arith, Option}
use Rattle.std.proofs.lemmas.Bool.{cases_order}
use Rattle.std.proofs.lemmas.List.Elements.{All-nil, All-push, All-weaker, Contains-append_left, Contains-push}
use Rattle.disk_model.proofs.MomentLemmas.{if_told-all, if_told-both}
use Rattle.disk_model.specs.Disk.{DiskState, History, IfTold, IsThere}
use Rattle.disk_model.specs.declared.name.FileName.TheVariants as file
use Rattle.mdbox_base.specs.Words.{IsNumber}
use Rattle.mdbox_base.specs.declared.ids.FileNo.{FileNo}
use Rattle.model_octets.proofs.PairLemmas.{pairs_nil, pairs_push}
use Rattle.rebuild_files.specs.Listing.{AreStorageNumbers, IsNextStorage}

-- the numbers of the storage files up to this number
pub record NumbersUpTo (last : ℕ) (numbers : List FileNo) (disk : DiskState) : Type 0 where
  pub rising : AllPairs (λ a b. a.0 < b.0) numbers
  pub there : All (λ n. IsNumber n.0 × IsThere (disk (file.Mail n.0))) numbers
  pub most : All (λ n. n.0 ≤ last) numbers
  pub every : (n : ℕ) → IsNumber n → n ≤ last → IsThere (disk (file.Mail n)) → Contains numbers (record { 0 = n })

no_numbers : (disk : DiskState) → NumbersUpTo 0 [] disk
no_numbers disk = record {
  rising = pairs_nil (λ (a b : FileNo). a.0 < b.0);
  there = All-nil (λ (n : FileNo). IsNumber n.0 × IsThere (disk (file.Mail n.0)));
  most = All-nil (λ (n : FileNo). n.0 ≤ 0);
  every = λ n is le there. absurd (let low = is.low in omega (arith, low, le));
}

pub numbers_begin : (h : Option History) (numbers : List FileNo) → numbers ≡ [] → IfTold h (NumbersUpTo 0 numbers)
numbers_begin h numbers e = if_told-all (NumbersUpTo 0 numbers) h (λ disk. subst (λ (ns : List FileNo). NumbersUpTo 0 ns disk) (sym e) (no_numbers disk))

one_more : (last next : ℕ) (old : List FileNo) (disk : DiskState) → NumbersUpTo last old disk → last < next → next < 4294967295 → IsNextStorage last (Some next) disk → NumbersUpTo next (old ++ record { 0 = next } ∷ []) disk
one_more last next old disk w l small is = record {
  rising = pairs_push (λ (a b : FileNo). a.0 < b.0) old (record { 0 = next }) w.rising (All-weaker (λ (a : FileNo). a.0 ≤ last) (λ (a : FileNo). a.0 < next) (λ a le. omega (arith, le, l)) old w.most);
  there = All-push (λ (n : FileNo). IsNumber n.0 × IsThere (disk (file.Mail n.0))) old (record { 0 = next }) w.there (record { low = omega (arith, l); high = omega (arith, small) }, is.0);
  most = All-push (λ (n : FileNo). n.0 ≤ next) old (record { 0 = next }) (All-weaker (λ (a : FileNo). a.0 ≤ last) (λ (a : FileNo). a.0 ≤ next) (λ a le. omega (arith, le, l)) old w.most) (let h : next ≤ next = omega arith in h);
  every = λ n number le there. elim (cases_order n next) [
    | inl same ↦ subst (λ (k : ℕ). Contains (old ++ record { 0 = next } ∷ []) (record { 0 = k })) (sym same) (Contains-push old (record { 0 = next }))
    | inr (inl less) ↦ elim (cases_order n last) [
      | inl e ↦ Contains-append_left old (record { 0 = next } ∷ []) (record { 0 = n }) (w.every n number (omega (arith, e)) there)
      | inr (inl before) ↦ Contains-append_left old (record { 0 = next } ∷ []) (record { 0 = n }) (w.every n number (omega (arith, before)) there)
      | inr (inr after) ↦ absurd (is.1 n after less there)
    ]
    | inr (inr more) ↦ absurd (omega (arith, le, more))
  ];
}

pub numbers_more : (h : Option History) (last next : ℕ) (old new : List FileNo) → IfTold h (NumbersUpTo last old) → (last < next) × (next < 4294967295) → IfTold h (IsNextStorage last (Some next)) → new ≡ old ++ record { 0 = next } ∷ [] → IfTold h (NumbersUpTo next new)
numbers_more h last next old new w l is e =
    subst (λ (ns : List FileNo). IfTold h (NumbersUpTo next ns)) (sym e)
    (if_told-both (NumbersUpTo last old) (IsNextStorage last (Some next)) (NumbersUpTo next (old ++ record { 0 = next } ∷ [])) h (λ disk p q. one_more last next old disk p l.0 l.1 q) w is)

all_of : (last : ℕ) (numbers : List FileNo) (disk : DiskState) → NumbersUpTo last numbers disk → IsNextStorage last None disk → AreStorageNumbers numbers disk
all_of last numbers disk w none = record {
  rising = w.rising;
  there = w.there;
  every = λ n number there. elim (cases_order n last) [
    | inl e ↦ w.every n number (omega (arith, e)) there
    | inr (inl before) ↦ w.every n number (omega (arith, before)) there
    | inr (inr after) ↦ absurd (none n after (let high = number.high in omega (arith, high)) there)
  ];
}

pub numbers_end : (h : Option History) (last : ℕ) (numbers : List FileNo) → IfTold h (NumbersUpTo last numbers) → IfTold h (IsNextStorage last None) → IfTold h (AreStorageNumbers numbers)
numbers_end h last numbers w none = if_told-both (NumbersUpTo last numbers) (IsNextStorage last None) (AreStorageNumbers numbers) h (λ disk p q. all_of last numbers disk p q) w none
