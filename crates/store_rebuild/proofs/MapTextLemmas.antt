-- The entries of the map log, one after another.
use Rattle.std.proofs.Common.{◌≡◌, ◌+◌, ℕ, List, [], ◌∷◌, ◌++◌, map, refl, sym, ◌∙◌, ap, append_assoc, append-nil}
use Rattle.std.proofs.lemmas.List.{map-append}
use Rattle.mdbox_base.specs.declared.entries.Highest.{Highest}
use Rattle.mdbox_base.specs.declared.entries.MapEntry.{MapEntry}
use Rattle.mdbox_base.specs.declared.entries.MapEntry.TheVariants as entry
use Rattle.mdbox_base.specs.declared.ids.FileNo.{FileNo}
use Rattle.model_logs.specs.Entries.{map_text}
use Rattle.model_meaning.specs.MapMeaning.{with_number}
use Rattle.model_rebuild.specs.RebuildPlan.{RebuildPlan}
use Rattle.model_rebuild.specs.RebuiltLogs.{all_stored_from, made_from, numbers_skipped, rebuilt_map}
use Rattle.model_taken.specs.Rebuild.{SkippedPlace}
use Rattle.model_taken.specs.Taken.{TakenMessage, mailboxes_met}
use Rattle.rebuild_judge.specs.Kept.{skipped_row, taken_row}
use Rattle.rebuild_judge.specs.declared.taken.SkippedAt.{SkippedAt}
use Rattle.rebuild_judge.specs.declared.taken.TakenRow.{TakenRow}
use Rattle.store_rebuild.specs.Planned.{AreRowsOf}
use Rattle.store_rebuild.specs.declared.plan.RebuildRows.{RebuildRows}
use Rattle.store_rebuild.proofs.BoxTextLemmas.{split_rows}

-- ---- mailboxes

pub made_more : (number next generation : ℕ) (rest others : List (List ℕ)) (name copy : List ℕ) (draft more all : List (List ℕ)) → draft ++ map map_text (made_from number generation rest) ≡ all → rest ≡ name ∷ others → copy ≡ name → next ≡ number + 1
    → more ≡ draft ++ map_text (entry.B (record { 0 = number }) generation copy) ∷ [] → more ++ map map_text (made_from next generation others) ≡ all
made_more number next generation rest others name copy draft more all h is same n m =
    ap (λ (d : List (List ℕ)). d ++ map map_text (made_from next generation others)) m
    ∙ ap (λ (k : ℕ). (draft ++ map_text (entry.B (record { 0 = number }) generation copy) ∷ []) ++ map map_text (made_from k generation others)) n
    ∙ append_assoc draft (map_text (entry.B (record { 0 = number }) generation copy) ∷ []) (map map_text (made_from (number + 1) generation others))
    ∙ ap (λ (x : List ℕ). draft ++ (map_text (entry.B (record { 0 = number }) generation x) ∷ map map_text (made_from (number + 1) generation others))) same
    ∙ ap (λ (ns : List (List ℕ)). draft ++ map map_text (made_from number generation ns)) (sym is) ∙ h

pub made_ends : (number generation : ℕ) (rest : List (List ℕ)) (draft all : List (List ℕ)) → rest ≡ [] → draft ++ map map_text (made_from number generation rest) ≡ all → draft ≡ all
made_ends number generation rest draft all none h = sym (append-nil draft) ∙ ap (λ (ns : List (List ℕ)). draft ++ map map_text (made_from number generation ns)) (sym none) ∙ h

-- ---- messages

pub record LeftToStore (messages : List TakenMessage) (rest : List TakenRow) (uid : ℕ) (first draft : List (List ℕ)) : Type 0 where
  pub after : List TakenMessage
  pub rest_is : rest ≡ map taken_row after
  pub all : draft ++ map map_text (all_stored_from uid after) ≡ first ++ map map_text (all_stored_from 1 messages)

abbrev pub row_entry : ℕ → TakenRow → MapEntry
row_entry uid row = entry.S 1 1 (record { 0 = uid }) row.file row.offset row.size row.guid row.instances

pub store_begins : (rows : List TakenRow) (messages : List TakenMessage) (first draft : List (List ℕ)) → draft ≡ first → rows ≡ map taken_row messages → LeftToStore messages rows 1 first draft
store_begins rows messages first draft d e = record { after = messages; rest_is = e; all = ap (λ (x : List (List ℕ)). x ++ map map_text (all_stored_from 1 messages)) d }

pub store_more : (messages : List TakenMessage) (rest others : List TakenRow) (row : TakenRow) (uid next : ℕ) (given : MapEntry) (first draft more : List (List ℕ)) → LeftToStore messages rest uid first draft → rest ≡ row ∷ others
    → given ≡ row_entry uid row → next ≡ uid + 1 → more ≡ draft ++ map_text given ∷ [] → LeftToStore messages others next first more
store_more messages rest others row uid next given first draft more h is g n m =
    let s = split_rows row rest others h.after is h.rest_is in
    record {
      after = s.rest;
      rest_is = s.others_are;
      all = ap (λ (d : List (List ℕ)). d ++ map map_text (all_stored_from next s.rest)) (m ∙ ap (λ (e : MapEntry). draft ++ map_text e ∷ []) g)
          ∙ ap (λ (k : ℕ). (draft ++ map_text (row_entry uid row) ∷ []) ++ map map_text (all_stored_from k s.rest)) n
          ∙ append_assoc draft (map_text (row_entry uid row) ∷ []) (map map_text (all_stored_from (uid + 1) s.rest))
          ∙ ap (λ (r : TakenRow). draft ++ (map_text (row_entry uid r) ∷ map map_text (all_stored_from (uid + 1) s.rest))) s.row_is
          ∙ ap (λ (ms : List TakenMessage). draft ++ map map_text (all_stored_from uid ms)) (sym s.are)
          ∙ h.all;
    }

pub store_ends : (messages : List TakenMessage) (rest : List TakenRow) (uid : ℕ) (first draft : List (List ℕ)) → rest ≡ [] → LeftToStore messages rest uid first draft → draft ≡ first ++ map map_text (all_stored_from 1 messages)
store_ends messages rest uid first draft none h = by h.after (sym none ∙ h.rest_is) h.all
  where
    by : (after : List TakenMessage) → [] ≡ map taken_row after → draft ++ map map_text (all_stored_from uid after) ≡ first ++ map map_text (all_stored_from 1 messages) → draft ≡ first ++ map map_text (all_stored_from 1 messages)
    by [] e all = sym (append-nil draft) ∙ all
    by (t ∷ ts) e all = absurd (let k : [] ≡ taken_row t ∷ map taken_row ts = e in cc k)

-- ---- sealed files

abbrev pub seal_text : FileNo → List ℕ
seal_text file = map_text (entry.E file)

pub seal_more : (rest others : List FileNo) (file : FileNo) (draft more all : List (List ℕ)) → draft ++ map seal_text rest ≡ all → rest ≡ file ∷ others → more ≡ draft ++ map_text (entry.E file) ∷ [] → more ++ map seal_text others ≡ all
seal_more rest others file draft more all h is m =
    ap (λ (d : List (List ℕ)). d ++ map seal_text others) m ∙ append_assoc draft (seal_text file ∷ []) (map seal_text others) ∙ ap (λ (fs : List FileNo). draft ++ map seal_text fs) (sym is) ∙ h

pub seal_ends : (rest : List FileNo) (draft all : List (List ℕ)) → rest ≡ [] → draft ++ map seal_text rest ≡ all → draft ≡ all
seal_ends rest draft all none h = sym (append-nil draft) ∙ ap (λ (fs : List FileNo). draft ++ map seal_text fs) (sym none) ∙ h

abbrev seal_of : ℕ → MapEntry
seal_of number = entry.E (record { 0 = number })

seals_same : (files : List FileNo) → map seal_text files ≡ map map_text (map seal_of (map (λ (f : FileNo). f.0) files))
seals_same [] = refl
seals_same (f ∷ files) = ap (λ (ts : List (List ℕ)). seal_text f ∷ ts) (seals_same files)

pub sealed_are : (files : List FileNo) (places : List SkippedPlace) (first draft : List (List ℕ)) → map (λ (f : FileNo). f.0) files ≡ numbers_skipped places → draft ≡ first ++ map seal_text files
    → draft ≡ first ++ map map_text (map (λ number. entry.E (record { 0 = number })) (numbers_skipped places))
sealed_are files places first draft e d = d ∙ ap (λ (ts : List (List ℕ)). first ++ ts) (seals_same files ∙ ap (λ (ns : List ℕ). map map_text (map seal_of ns)) e)

-- the numbers of files, with those of these rows
abbrev pub with_rows : List SkippedAt → List ℕ → List ℕ
with_rows [] numbers = numbers
with_rows (row ∷ rows) numbers = with_number row.file.0 (with_rows rows numbers)

pub rows_last : (rows : List SkippedAt) (last : SkippedAt) (numbers : List ℕ) → with_rows (rows ++ last ∷ []) numbers ≡ with_rows rows (with_number last.file.0 numbers)
rows_last [] last numbers = refl
rows_last (row ∷ rows) last numbers = ap (λ (ns : List ℕ). with_number row.file.0 ns) (rows_last rows last numbers)

pub rows_more : (rest before : List SkippedAt) (last : SkippedAt) (files more : List FileNo) (all : List ℕ) → with_rows rest (map (λ (f : FileNo). f.0) files) ≡ all → rest ≡ before ++ last ∷ [] → map (λ (f : FileNo). f.0) more ≡ with_number last.file.0 (map (λ (f : FileNo). f.0) files)
    → with_rows before (map (λ (f : FileNo). f.0) more) ≡ all
rows_more rest before last files more all h is m = ap (with_rows before) m ∙ sym (rows_last before last (map (λ (f : FileNo). f.0) files)) ∙ ap (λ (rs : List SkippedAt). with_rows rs (map (λ (f : FileNo). f.0) files)) (sym is) ∙ h

rows_are : (places : List SkippedPlace) → with_rows (map skipped_row places) [] ≡ numbers_skipped places
rows_are [] = refl
rows_are (s ∷ places) = ap (with_number s.number) (rows_are places)

pub rows_end : (rows rest : List SkippedAt) (files : List FileNo) (places : List SkippedPlace) → rest ≡ [] → with_rows rest (map (λ (f : FileNo). f.0) files) ≡ with_rows rows [] → rows ≡ map skipped_row places → map (λ (f : FileNo). f.0) files ≡ numbers_skipped places
rows_end rows rest files places none h e = ap (λ (rs : List SkippedAt). with_rows rs (map (λ (f : FileNo). f.0) files)) (sym none) ∙ h ∙ ap (λ (rs : List SkippedAt). with_rows rs []) e ∙ rows_are places

-- ---- all of it

pub map_is : (plan : RebuildPlan) (rows : RebuildRows) (names : List (List ℕ)) (empty first made stored sealed log : List (List ℕ)) → AreRowsOf plan rows → names ≡ mailboxes_met plan.taken
    → empty ≡ [] → first ≡ empty ++ map_text (entry.H rows.highest) ∷ [] → made ≡ first ++ map map_text (made_from 1 rows.box_generation names) → stored ≡ made ++ map map_text (all_stored_from 1 plan.taken)
    → sealed ≡ stored ++ map map_text (map (λ number. entry.E (record { 0 = number })) (numbers_skipped plan.skipped)) → log ≡ sealed
    → log ≡ map map_text (rebuilt_map plan.highest plan.box_generation plan.taken plan.skipped)
map_is plan rows names empty first made stored sealed log r n e f m s z l =
    let a : List MapEntry = made_from 1 plan.box_generation (mailboxes_met plan.taken) in
    let b : List MapEntry = all_stored_from 1 plan.taken in
    let d : List MapEntry = map seal_of (numbers_skipped plan.skipped) in
    let head : first ≡ map_text (entry.H plan.highest) ∷ [] = f ∙ ap (λ (x : List (List ℕ)). x ++ map_text (entry.H rows.highest) ∷ []) e ∙ ap (λ (h : Highest). map_text (entry.H h) ∷ []) r.highest in
    let boxes : made ≡ map_text (entry.H plan.highest) ∷ map map_text a = m ∙ ap (λ (x : List (List ℕ)). x ++ map map_text (made_from 1 rows.box_generation names)) head
    ∙ ap (λ (k : ℕ). map_text (entry.H plan.highest) ∷ map map_text (made_from 1 k names)) r.box_generation ∙ ap (λ (ns : List (List ℕ)). map_text (entry.H plan.highest) ∷ map map_text (made_from 1 plan.box_generation ns)) n in
    l ∙ z ∙ ap (λ (x : List (List ℕ)). x ++ map map_text d) (s ∙ ap (λ (x : List (List ℕ)). x ++ map map_text b) boxes)
    ∙ ap (λ (x : List (List ℕ)). map_text (entry.H plan.highest) ∷ x) (append_assoc (map map_text a) (map map_text b) (map map_text d) ∙ ap (λ (x : List (List ℕ)). map map_text a ++ x) (sym (map-append map_text b d)) ∙ sym (map-append map_text a (b ++ d)))
