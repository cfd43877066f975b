-- The next wanted message of a file.
use Rattle.purge_task.proofs.Common.{◌≡◌, inl, inr, ℕ, ◌+◌, ◌<◌, ◌≤◌, Some, None, get_or, All, sym, ap, subst, ◌∙◌, arith, option_map, cases_lt, MapMeaning, IsSoundMap, MapRow, record_from, shown_record, AreUnwantedFrom, IsNextWanted}
use Rattle.purge_task.proofs.ListingLemmas.{record_there}
use Rattle.purge_task.proofs.WalkLemmas.{found_row, none_found, more_walked, all_walked}

-- the file's records from the one offset up to the other have count 0
pub record AreUnwantedBetween (m : MapMeaning) (file first from : ℕ) : Type 0 where
  pub low : first ≤ from
  pub each : All (λ o. o.file ≡ file → o.offset < from → first ≤ o.offset → o.count ≡ 0) m.records

pub next_begins : (m : MapMeaning) (file first : ℕ) → AreUnwantedBetween m file first first
next_begins m file first = record { low = omega arith; each = λ k d lt here before behind. absurd (omega (arith, before, behind)) }

pub next_passes : (m : MapMeaning) (file first from : ℕ) (row : MapRow) → IsSoundMap m → Some row ≡ option_map shown_record (record_from m file from) → row.count ≡ 0 → AreUnwantedBetween m file first from → AreUnwantedBetween m file first (row.offset + row.size)
next_passes m file first from row sound e none so =
    let b = found_row m file from row e in
    let r = b.0 in
    let low = so.low in
    let behind = b.2.behind in
    subst (λ (x : MapRow). AreUnwantedBetween m file first (x.offset + x.size)) (sym b.1) (record {
      low = omega (arith, low, behind);
      each = more_walked m file from r (λ o. first ≤ o.offset → o.count ≡ 0) sound b.2 (λ _. sym (ap (λ (x : MapRow). x.count) b.1) ∙ none) so.each;
    })

pub next_is : (m : MapMeaning) (file first from : ℕ) (row : MapRow) → IsSoundMap m → Some row ≡ option_map shown_record (record_from m file from) → 0 < row.count → AreUnwantedBetween m file first from → IsNextWanted m file first row
next_is m file first from row sound e some so =
    let b = found_row m file from row e in
    let r = b.0 in
    let found = b.2 in
    let low = so.low in
    let behind = found.behind in
    let counts = ap (λ (x : MapRow). x.count) b.1 in
    record {
      r = r;
      there = record_there m r sound found.has;
      shown = b.1;
      in_file = found.here;
      behind = omega (arith, low, behind);
      wanted = omega (arith, some, counts);
      first = λ k d lt here from_first wanted. elim (cases_lt (get_or m.records k d).offset from) [
        | inl before ↦ (let none = so.each k d lt here before from_first in absurd (omega (arith, none, wanted)))
        | inr later ↦ found.first k d lt here later
      ];
    }

pub next_ends : (m : MapMeaning) (file first from : ℕ) → None ≡ option_map shown_record (record_from m file from) → AreUnwantedBetween m file first from → AreUnwantedFrom m file first
next_ends m file first from e so = all_walked m file from (λ o. first ≤ o.offset → o.count ≡ 0) (none_found m file from e) so.each
