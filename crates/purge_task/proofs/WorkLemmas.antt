-- The lists of what a purge works on.
use Rattle.purge_task.proofs.Common.{◌≡◌, inl, inr, ℕ, zero, suc, ◌+◌, ◌<◌, ◌≤◌, Some, None, List, [], ◌∷◌, ◌++◌, length, get_or, take, drop, refl, sym, ap, subst, ◌∙◌, arith, slice_get, AllZip, cases_lt, drop_more, drop_all, MapRow, sources_left, IsSourceWith, NotesCopy, IsNewSource, FoundFile}
use Rattle.purge_task.proofs.Common.{Source, Work}
use Rattle.std.proofs.Common.{Vec, Global}
use Rattle.std.specs.Vec.{with_item}
use Rattle.std.proofs.lemmas.List.{drop-set, take_all}
use Rattle.purge_task.specs.Reserved.{HasRoomForCopy}

pub drop_head : {X : Type 0} → (xs : List X) (i : ℕ) (x : X) → slice_get xs i ≡ Some x → drop i xs ≡ x ∷ drop (i + 1) xs
drop_head [] i x e = absurd (let w : None ≡ Some x = e in cc w)
drop_head (y ∷ ys) zero x e = let same : y ≡ x = cc e in ap (λ (z : _). z ∷ ys) same
drop_head (y ∷ ys) (suc i) x e =
    let step : suc i + 1 ≡ suc (i + 1) = omega arith in
    drop_head ys i x e ∙ ap (λ (zs : List _). x ∷ zs) (sym (ap (λ (k : ℕ). drop k (y ∷ ys)) step))

some_left : (work : Work) → HasRoomForCopy (sources_left work) → work.next < length work.sources.items
some_left work room = elim (cases_lt work.next (length work.sources.items)) [
  | inl lt ↦ lt
  | inr ge ↦ absurd (subst HasRoomForCopy (drop_all work.next work.sources.items ge) room)
]

pub noted : (row : MapRow) (offset : ℕ) (old : Work) (item new : Source) → HasRoomForCopy (sources_left old) → item ≡ get_or old.sources.items old.next item → IsSourceWith (record { uid = row.uid; offset = offset }) item new
    → NotesCopy row offset old (record old { sources = with_item old.sources old.next new; from = row.offset + row.size })
noted row offset old item new room read with_copy =
    let lt = some_left old room in
    record {
      source = item;
      noted = new;
      left = drop (old.next + 1) old.sources.items;
      before = drop_more old.sources.items old.next item lt ∙ ap (λ (s : Source). s ∷ drop (old.next + 1) old.sources.items) (sym read);
      after = drop-set old.sources.items old.next new lt;
      with_copy = with_copy;
      same = refl;
      block = refl;
    }

pub zipped : (files : List FoundFile) (sources : List Source) (n : ℕ) → length files ≤ n → AllZip IsNewSource (take n files) sources → AllZip IsNewSource files sources
zipped files sources n le h = subst (λ (fs : List FoundFile). AllZip IsNewSource fs sources) (take_all n files le) h

pub zip_push : {X Y : Type 0} → (R : X → Y → Type 0) (xs : List X) (ys : List Y) (x : X) (y : Y) → AllZip R xs ys → R x y → AllZip R (xs ++ x ∷ []) (ys ++ y ∷ [])
zip_push R [] [] x y h r = (r, tt)
zip_push R [] (b ∷ ys) x y h r = elim h [ ]
zip_push R (a ∷ xs) [] x y h r = elim h [ ]
zip_push R (a ∷ xs) (b ∷ ys) x y h r = (h.0, zip_push R xs ys x y h.1 r)

-- the block isn't looked at
pub noted_later : (row : MapRow) (offset : ℕ) (old : Work) (block : Vec ℕ Global) (new : Work) → block.len ≡ old.block.len → NotesCopy row offset (record old { block = block }) new → NotesCopy row offset old new
noted_later row offset old block new long n = record {
  source = n.source;
  noted = n.noted;
  left = n.left;
  before = n.before;
  after = n.after;
  with_copy = n.with_copy;
  same = n.same;
  block = n.block ∙ sym block.ok.0 ∙ long ∙ old.block.ok.0;
}
