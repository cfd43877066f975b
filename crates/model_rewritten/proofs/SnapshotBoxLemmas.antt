-- A mailbox log that is written anew means what it meant.
use Rattle.std.specs.Prelude.{◌≡◌, ◌<◌, ◌≤◌, ◌+◌, ◌==◌, ℕ, max, Bool, true, false, if◌then◌else◌, List, [], ◌∷◌, ◌++◌, length, map, All, AllPairs, refl}
use Rattle.std.specs.List.{AllByRecursion}
use Rattle.std.proofs.Common.{sym, ◌∙◌, ap, arith, subst, append-nil, append_assoc, length-append}
use Rattle.std.proofs.lemmas.List.{length-map}
use Rattle.std.proofs.lemmas.List.Elements.{All-head, All-tail, All-weaker}
use Rattle.mdbox_base.specs.Keywords.{AreWords}
use Rattle.mdbox_base.specs.declared.entries.BoxEntry.{BoxEntry}
use Rattle.mdbox_base.specs.declared.entries.BoxEntry.TheVariants as box
use Rattle.model_logs.proofs.EntryLemmas.{words_in_range}
use Rattle.model_logs.specs.Entries.{BoxInRange}
use Rattle.model_meaning.proofs.AppliedLemmas.{rows_by_added, rows_by_next}
use Rattle.model_meaning.proofs.BoxLemmas.{box_more}
use Rattle.model_meaning.proofs.MapPlaceLemmas.{equal_is}
use Rattle.model_meaning.specs.BoxMeaning.{LogRow, BoxMeaning, box_meaning, box_applied, AllBoxFit}
use Rattle.model_meaning.specs.Sound.{IsSoundRow, IsSoundBox}
use Rattle.model_octets.proofs.PairLemmas.{pairs_head, pairs_tail}
use Rattle.model_rewritten.specs.Rewriting.{row_entry, next_from, box_snapshot, IsRewrittenBox}

abbrev Rises : LogRow → LogRow → Type 0
Rises a b = a.uid < b.uid

abbrev meant : List LogRow → ℕ → BoxMeaning
meant rows next = record { rows = rows; next = next }

meant_same : (a b : List LogRow) (m n : ℕ) → a ≡ b → m ≡ n → meant a m ≡ meant b n
meant_same a b m n p q = cc (p, q)

-- the Next at the end, if it is wanted
abbrev end_with : Bool → ℕ → List BoxEntry
end_with done next = if done then [] else box.N next ∷ []

-- Behind entries of a meaning, these fit, are in range, and lead to this meaning.
record LeadsTo (before entries : List BoxEntry) (m : BoxMeaning) : Type 0 where
  means : box_meaning (before ++ entries) ≡ m
  fit : AllBoxFit before entries
  in_range : AllByRecursion BoxInRange entries

-- the last entry
ends : (before : List BoxEntry) (rows : List LogRow) (next last : ℕ) → box_meaning before ≡ meant rows next → next ≤ last → 1 ≤ last → last ≤ 4294967295
    → (t : Bool) → (next == last) ≡ t → LeadsTo before (end_with t last) (meant rows last)
ends before rows next last m le some fits true e = record {
  means = ap box_meaning (append-nil before) ∙ m ∙ meant_same rows rows next last refl (equal_is next last e);
  fit = tt;
  in_range = tt;
}
ends before rows next last m le some fits false e = record {
  means = box_more before (box.N last) ∙ ap (box_applied (box.N last)) m ∙ meant_same _ rows (max next last) last (rows_by_next last rows) (omega (arith, le));
  fit = (subst (λ (k : BoxMeaning). (k.next ≤ last) × (1 ≤ last) × (last ≤ 4294967295)) (sym m) (le, some, fits), tt);
  in_range = (omega (arith, fits), tt);
}

-- the rows, one by one
leads : (before : List BoxEntry) (rows : List LogRow) (next last : ℕ) (rest : List LogRow) → box_meaning before ≡ meant rows next → next ≤ last → 1 ≤ last → last ≤ 4294967295
    → All (λ (row : LogRow). next ≤ row.uid) rest → AllPairs Rises rest → All (IsSoundRow last) rest → length rows + length rest ≤ 1000000
    → LeadsTo before (map row_entry rest ++ end_with (next_from next rest == last) last) (meant (rows ++ rest) last)
leads before rows next last [] m le some fits above rising sound room =
    let r = ends before rows next last m le some fits (next == last) refl in
    record { means = r.means ∙ meant_same rows (rows ++ []) last last (sym (append-nil rows)) refl; fit = r.fit; in_range = r.in_range }
leads before rows next last (row ∷ rest) m le some fits above rising sound room =
    let e : BoxEntry = row_entry row in
    let here : IsSoundRow last row = All-head (IsSoundRow last) row rest sound in
    let low : next ≤ row.uid = All-head (λ (r : LogRow). next ≤ r.uid) row rest above in
    let below = here.below in
    let size = here.size in
    let flags = here.flags in
    let map_uid = here.map_uid in
    let l = length-append rows (row ∷ []) in
    let one : box_meaning (before ++ e ∷ []) ≡ meant (rows ++ row ∷ []) (row.uid + 1) =
    box_more before e ∙ ap (box_applied e) m
    ∙ meant_same _ (rows ++ row ∷ []) (max next (row.uid + 1)) (row.uid + 1) (rows_by_added (record { 0 = row.uid }) row.flags row.time row.size (record { 0 = row.map_uid }) (record { 0 = row.guid }) row.words rows) (omega (arith, low)) in
    let r = leads (before ++ e ∷ []) (rows ++ row ∷ []) (row.uid + 1) last rest one (omega (arith, below)) some fits
    (All-weaker (Rises row) (λ (other : LogRow). row.uid + 1 ≤ other.uid) (λ other h. omega (arith, h)) rest (pairs_head Rises row rest rising))
    (pairs_tail Rises row rest rising) (All-tail (IsSoundRow last) row rest sound) (omega (arith, l, room)) in
    record {
      means = ap box_meaning (sym (append_assoc before (e ∷ []) (map row_entry rest ++ end_with (next_from (row.uid + 1) rest == last) last))) ∙ r.means ∙ meant_same _ (rows ++ row ∷ rest) last last (append_assoc rows (row ∷ []) rest) refl;
      fit = (
        subst (λ (k : BoxMeaning). (k.next ≤ row.uid) × (row.uid ≤ 4294967294) × (row.flags ≤ 31) × (row.size ≤ 67108864) × (length k.rows < 1000000) × AreWords row.words) (sym m)
            (low, omega (arith, below, fits), flags, size, omega (arith, room), here.words),
        r.fit,
      );
      in_range = ((omega (arith, below, fits), omega (arith, flags), here.time, omega (arith, size), map_uid, here.guid, words_in_range row.words here.words), r.in_range);
    }

few_ends : (t : Bool) (next : ℕ) → length (end_with t next) ≤ 1
few_ends true next = omega arith
few_ends false next = omega arith

pub box_rewritten : (m : BoxMeaning) → IsSoundBox m → IsRewrittenBox m (box_snapshot m)
box_rewritten m s =
    let r = leads [] [] 1 m.next m.rows refl s.some s.some s.fits (All-weaker (IsSoundRow m.next) (λ (row : LogRow). 1 ≤ row.uid) (λ row h. h.uid_some) m.rows s.rows) s.rising s.rows (let room = s.room in omega (arith, room)) in
    let tail : List BoxEntry = end_with (next_from 1 m.rows == m.next) m.next in
    let a = length-append (map row_entry m.rows) tail in
    let b = length-map m.rows row_entry in
    let c = few_ends (next_from 1 m.rows == m.next) m.next in
    record { means = r.means; fit = r.fit; in_range = r.in_range; few = omega (arith, a, b, c) }
