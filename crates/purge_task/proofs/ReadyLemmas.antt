-- A file that a purge has begun or copied is ready to be switched.
use Rattle.purge_task.proofs.Common.{◌≡◌, ◌≢◌, ◌≤◌, ◌<◌, ◌+◌, ◌==◌, true, List, length, Option, None, sym, subst, arith, inl, inr, All, AllPairs, list_any, cases_lt, All-nil, All-weaker, History, MapPlace, FileNo, HasRecord, MapRecord, pairs_nil, StoreValue, AreUnwantedFrom, IsSourceCopied}
use Rattle.purge_task.proofs.Common.{IsTargetToMake, IsToBegin, IsUnwanted, target_header, IsReadyToSwitch, IsTargetWritten, Source, Work}
use Rattle.purge_task.specs.Switched.{IsWritten}
use Rattle.purge_task.proofs.CopiedMoreLemmas.{in_row_follow}

-- one of which no message is wanted
pub ready_unwanted : {D : Type 0} → (work : Work) (source : Source) (store : StoreValue D) (history : Option History) → IsToBegin work store source → source.target ≡ None → IsReadyToSwitch source work store history
ready_unwanted work source store history h none = record {
  emptied = h.emptied;
  once = subst (λ (ps : List MapPlace). AllPairs (λ (a b : MapPlace). a.uid.0 ≢ b.uid.0) ps) (sym h.uncopied) (pairs_nil (λ (a b : MapPlace). a.uid.0 ≢ b.uid.0));
  here = subst (λ (ps : List MapPlace). All (λ (place : MapPlace). HasRecord store.map place.uid.0 (λ row. row.file ≡ source.file.0)) ps) (sym h.uncopied) (All-nil (λ (place : MapPlace). HasRecord store.map place.uid.0 (λ row. row.file ≡ source.file.0)));
  every = All-weaker (λ (row : MapRecord). row.file ≡ source.file.0 → row.count ≡ 0) (λ (row : MapRecord). row.file ≡ source.file.0 → 1 ≤ row.count → list_any (λ p. p.uid.0 == row.uid) source.copied.items ≡ true)
      (λ row none here wanted. absurd (let z = none here in omega (arith, z, wanted))) store.map.records unwanted;
  target = subst (λ (t : Option FileNo). IsTargetWritten t source store history) (sym none) h.uncopied;
  undropped = h.undropped;
  lists = h.room.lists;
  text = h.room.text;
  log = h.room.log;
}
  where
    unwanted : IsUnwanted store.map source.file.0
    unwanted = subst (λ (t : Option FileNo). IsTargetToMake source.file.0 t store) none h.target

-- one of which all is copied that is wanted
pub ready_copied : {D : Type 0} → (work : Work) (source : Source) (store : StoreValue D) (history : Option History) → IsSourceCopied source work store history → AreUnwantedFrom store.map source.file.0 work.from → IsReadyToSwitch source work store history
ready_copied work source store history h none = record {
  emptied = h.emptied;
  once = h.copying.copied.once;
  here = All-weaker (λ (place : MapPlace). HasRecord store.map place.uid.0 (λ row. (row.file ≡ source.file.0) × (row.offset + row.size ≤ work.from) × (place.offset + row.size ≤ h.copying.end))) (λ (place : MapPlace). HasRecord store.map place.uid.0 (λ row. row.file ≡ source.file.0))
      (λ place r. (r.0, r.1, r.2.0)) source.copied.items h.copying.copied.there;
  every = All-weaker (λ (row : MapRecord). (row.file ≡ source.file.0 → row.offset < work.from → 1 ≤ row.count → list_any (λ p. p.uid.0 == row.uid) source.copied.items ≡ true) × (row.file ≡ source.file.0 → work.from ≤ row.offset → row.count ≡ 0))
      (λ (row : MapRecord). row.file ≡ source.file.0 → 1 ≤ row.count → list_any (λ p. p.uid.0 == row.uid) source.copied.items ≡ true) one store.map.records (λ i d lt. (h.copying.copied.every i d lt, none i d lt));
  target = subst (λ (t : Option FileNo). IsTargetWritten t source store history) (sym h.target_is) written;
  undropped = h.undropped;
  lists = h.room.lists;
  text = h.room.text;
  log = h.room.log;
}
  where
    one : (row : MapRecord) → (row.file ≡ source.file.0 → row.offset < work.from → 1 ≤ row.count → list_any (λ p. p.uid.0 == row.uid) source.copied.items ≡ true) × (row.file ≡ source.file.0 → work.from ≤ row.offset → row.count ≡ 0)
        → row.file ≡ source.file.0 → 1 ≤ row.count → list_any (λ p. p.uid.0 == row.uid) source.copied.items ≡ true
    one row h here wanted = elim (cases_lt row.offset work.from) [
      | inl before ↦ h.0 here before wanted
      | inr behind ↦ absurd (let z = h.1 here behind in omega (arith, z, wanted))
    ]

    written : IsWritten h.target.0 source store history
    written = record {
      taken = h.copying.taken;
      begun = (length target_header, h.copying.begun);
      end = h.copying.end;
      ends = h.copying.ends;
      fits = let f = h.copying.copied.fits in omega (arith, f);
      other = λ same. let l = h.copying.behind in omega (arith, same, l);
      unnamed = h.copying.unnamed;
      within = All-weaker (λ (place : MapPlace). HasRecord store.map place.uid.0 (λ row. (row.file ≡ source.file.0) × (row.offset + row.size ≤ work.from) × (place.offset + row.size ≤ h.copying.end))) (λ (place : MapPlace). HasRecord store.map place.uid.0 (λ row. place.offset + row.size ≤ h.copying.end))
          (λ place r. (r.0, r.1, r.2.2)) source.copied.items h.copying.copied.there;
      follow = in_row_follow store.map (λ place row. (row.file ≡ source.file.0) × (row.offset + row.size ≤ work.from) × (place.offset + row.size ≤ h.copying.end)) (length target_header) h.copying.end source.copied.items h.copying.copied.row h.copying.copied.there;
      octets = h.copying.octets;
      stays = h.copying.stays;
    }
